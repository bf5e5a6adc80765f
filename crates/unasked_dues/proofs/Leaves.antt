-- When a document is left: read off the log as it would be had nobody been asked.
use Rattle.std.proofs.Common.{◌≡◌, ℕ, Bool, true, false, cond, not, ◌&&◌, ◌||◌, ◌==◌, List, [], ◌∷◌, Option, Some, None, refl, sym, ap, ◌∙◌, subst}
use Rattle.std.specs.Prelude.{find, slice_get, option_map}
use Rattle.std.specs.List.{list_any}
use Rattle.tab_ids.specs.declared.DocId.{DocId}
use Rattle.tab_ids.specs.declared.EntryId.{EntryId}
use Rattle.tab_ids.specs.declared.Epoch.{Epoch}
use Rattle.tab_ids.specs.declared.NavId.{NavId}
use Rattle.tab_ids.specs.declared.ReqId.{ReqId}
use Rattle.tab_ids.specs.declared.StateId.{StateId}
use Rattle.log_model.specs.ActsAtOnce.{is_for_passed}
use Rattle.log_model.specs.AfterPlaces.{without_doc}
use Rattle.log_model.specs.Equal.{has_doc, holds}
use Rattle.log_model.specs.Formed.{last_of}
use Rattle.log_model.specs.History.{has_state}
use Rattle.log_model.specs.Orders.{is_below_gone, ongoing_load, shows_another}
use Rattle.log_model.specs.Places.{is_awake_on, is_shown, targets_state}
use Rattle.log_model.specs.Seen.{Document, Place, Seen, desk_of, document_of, place_of}
use Rattle.log_model.specs.Suits.{kept_with, newly_left}
use Rattle.log_model.specs.declared.header.Header.{Header}
use Rattle.log_model.specs.declared.job.Job.{Job}
use Rattle.log_model.specs.declared.job.Task.{Task}
use Rattle.log_model.specs.declared.job.Task.TheVariants as tasks
use Rattle.log_model.specs.declared.made.Report.TheVariants as reports
use Rattle.log_model.specs.declared.outcome.Outcome.TheVariants as outcomes
use Rattle.log_model.specs.declared.row_kind.LogRow.{LogRow}
use Rattle.log_model.specs.declared.row_kind.RowKind.{RowKind}
use Rattle.log_model.specs.declared.row_kind.RowKind.TheVariants as rows
use Rattle.row_facts.specs.LeaveRows.Evicting.{IsBelowDue, IsEvictDue, IsKeptLast, IsUnneededDue, is_a_target, is_last}
use Rattle.row_facts.specs.LeaveRows.Freezing.{IsFreezeDue}
use Rattle.row_facts.specs.LeaveRows.Leaving.{IsDiscardOf, IsLeaveDue, IsTooMany}
use Rattle.seen_laws.specs.Blocks.{Here}
use Rattle.seen_laws.specs.Sending.{IsTo, is_passed}
use Rattle.seen_laws.specs.Unasked.{unasked, unhandled}
use Rattle.unasked.proofs.Readings.{document_read, gone_read}
use Rattle.unasked_dues.proofs.Base.{aim_same}
use Rattle.unasked_dues.proofs.Making.{any_same, unloaded}
use Rattle.unasked_dues.proofs.Shows.{for_passed_same, passed_off, to_read}
use Rattle.unasked_dues.specs.Checking.{AllOthersPass, AreNumbered, IsAimed, IsForOther, NoneChecksFor}
use Rattle.row_facts.specs.LeaveRows.MayLeave.{IsBelowLeft, IsDiscardLeft, IsFreezeLeft, IsGoneLeft, IsKeptLeft, IsLastLeft, IsUnneededLeft, MayBeLeft}

module _ (checking : ReqId → Bool) (s : Seen) where
  -- ---- documents

  -- one above the document is gone
  pub below_same : (d : Document) → is_below_gone (unasked checking s) (unhandled d) ≡ is_below_gone s d
  below_same d = any_same unhandled _ s.documents (λ e. refl)

  -- a shown navigable's target has the document state
  pub target_same : IsAimed checking s → (state : StateId) → list_any (is_a_target (unasked checking s) state) (unasked checking s).places ≡ list_any (is_a_target s state) s.places
  target_same aimed state =
      λ i. list_any (λ (place : Place). is_shown s.history.rows (aim_same checking s aimed i) place.nav && targets_state s.history.rows (aim_same checking s aimed i) place.nav state) s.places

  -- the kept documents, with one that is left
  pub kept_same : (left : Option DocId) → kept_with (unasked checking s) left ≡ kept_with s left
  kept_same None = refl
  kept_same (Some doc) = ap (λ b. cond b s.kept (doc ∷ without_doc doc s.kept)) (gone_read checking s doc)

  -- with the document too many are kept
  pub too_many : (header : Header) (d : Document) → IsTooMany header (unasked checking s) (unhandled d) → IsTooMany header s d
  too_many header d is = record { last = is.last; many = is.many }

  -- the longest kept document is evicted
  pub evict_due : (state : StateId) (doc : DocId) (d : Document) → document_of s doc ≡ Some d → IsEvictDue (unasked checking s) state doc (unhandled d) → IsEvictDue s state doc d
  evict_due state doc d found due = record { last = due.last; found = found; state_is = due.state_is }

  -- ---- what later rows do

  found_nav : (nav : NavId) (doc : DocId) → holds (λ (other : Document). other.nav.0 == nav.0) (document_of (unasked checking s) doc) ≡ holds (λ (other : Document). other.nav.0 == nav.0) (document_of s doc)
  found_nav nav doc =
      ap (λ (o : Option Document). holds (λ (other : Document). other.nav.0 == nav.0) o) (document_read checking s doc)
      ∙ by_found (document_of s doc)
    where
      by_found : (o : Option Document) → holds (λ (other : Document). other.nav.0 == nav.0) (option_map unhandled o) ≡ holds (λ (other : Document). other.nav.0 == nav.0) o
      by_found None = refl
      by_found (Some d) = refl

  -- a row shows the document's navigable another one
  pub another_same : (d : Document) (row : LogRow) → shows_another (unasked checking s) (unhandled d) row ≡ shows_another s d row
  another_same d row = by_kind row.row
    where
      by_task : (job : Job) (task : Task) → shows_another (unasked checking s) (unhandled d) (record row { row = rows.Sent (record job { task = task }) }) ≡ shows_another s d (record row { row = rows.Sent (record job { task = task }) })
      by_task job (tasks.Activate entry epoch length index memo address) =
          ap (λ b. not (job.doc.0 == d.nr.0) && b) (found_nav d.nav job.doc)
      by_task job _ = refl

      by_kind : (kind : RowKind) → shows_another (unasked checking s) (unhandled d) (record row { row = kind }) ≡ shows_another s d (record row { row = kind })
      by_kind (rows.Sent job) = by_task job job.task
      by_kind _ = refl

  -- and so do later rows
  pub left_later : (d : Document) (later : List LogRow) → list_any (shows_another (unasked checking s) (unhandled d)) later ≡ list_any (shows_another s d) later
  left_later d [] = refl
  left_later d (row ∷ later) = λ i. another_same d row i || left_later d later i

  -- the document that later rows leave first
  pub newly_left_same : (later : List LogRow) → newly_left (unasked checking s) later ≡ newly_left s later
  newly_left_same [] = refl
  newly_left_same (row ∷ later) = by_kind row.row (newly_left_same later)
    where
      by_found : (job : Job) (entry : EntryId) (epoch : Epoch) (length index : ℕ) (memo : Option (List ℕ)) (address : List ℕ) (o : Option Document) → document_of s job.doc ≡ o → newly_left (unasked checking s) later ≡ newly_left s later → newly_left (unasked checking s) (record row { row = rows.Sent (record job { task = tasks.Activate entry epoch length index memo address }) } ∷ later) ≡ newly_left s (record row { row = rows.Sent (record job { task = tasks.Activate entry epoch length index memo address }) } ∷ later)
      by_found job entry epoch length index memo address None is rest =
          rw (document_read checking s job.doc) (rw is (rw rest refl))
      by_found job entry epoch length index memo address (Some d) is rest =
          rw (document_read checking s job.doc) (rw is (rw rest refl))

      by_task : (job : Job) (task : Task) → newly_left (unasked checking s) later ≡ newly_left s later → newly_left (unasked checking s) (record row { row = rows.Sent (record job { task = task }) } ∷ later) ≡ newly_left s (record row { row = rows.Sent (record job { task = task }) } ∷ later)
      by_task job (tasks.Activate entry epoch length index memo address) rest =
          by_found job entry epoch length index memo address (document_of s job.doc) refl rest
      by_task job _ rest = rest

      by_kind : (kind : RowKind) → newly_left (unasked checking s) later ≡ newly_left s later → newly_left (unasked checking s) (record row { row = kind } ∷ later) ≡ newly_left s (record row { row = kind } ∷ later)
      by_kind (rows.Sent job) rest = by_task job job.task rest
      by_kind _ rest = rest

-- ---- where an event stands

module _ (checking : ReqId → Bool) (h u : Here) (now_is : u.now ≡ unasked checking h.now) where
  -- a document is discarded, if it may be left
  pub discard_left : (job : Job) (d bare : Document) → document_of h.now job.doc ≡ Some d → bare ≡ unhandled d → MayBeLeft h job → IsDiscardOf u.now job bare → IsDiscardLeft h job d
  discard_left job d bare found is left due =
      record {
        task = due.task;
        to = to_read checking h.now job d found (subst (λ (x : Seen). IsTo x job (unhandled d)) now_is (subst (λ (x : Document). IsTo u.now job x) is due.to));
        left = left;
      }

  -- a document is frozen, if it may be left
  pub freeze_left : IsAimed checking h.now → AllOthersPass checking h.now → u.start.places ≡ h.start.places → (job : Job) (d bare : Document) → document_of h.now job.doc ≡ Some d → bare ≡ unhandled d → MayBeLeft h job → IsForOther checking job.why → IsFreezeDue u job bare → IsFreezeLeft h job d
  freeze_left aimed others start_is job d bare found is left other due =
      record {
        task = due.task;
        to = to_read checking h.now job d found (subst (λ (x : Seen). IsTo x job (unhandled d)) now_is (subst (λ (x : Document). IsTo u.now job x) is due.to));
        place = due.place;
        was_awake = ap (λ places. find (is_awake_on job.doc) places) (sym start_is) ∙ due.was_awake;
        unfrozen = ap (λ (x : Document). x.is_frozen) (sym is) ∙ due.unfrozen;
        left = left;
        passed = passed_off checking h.now others tasks.Freeze job.why other (subst (λ (x : Seen). is_passed x tasks.Freeze job.why ≡ true) now_is due.passed);
        for_passed = sym (for_passed_same checking h.now aimed job) ∙ subst (λ (x : Seen). is_for_passed x job ≡ true) now_is due.for_passed;
      }

  -- ---- its reason

  -- its state has no entry, and nothing loads for it
  pub gone_left : AreNumbered h.now → (job : Job) (d : Document) → IsDiscardLeft h job d → NoneChecksFor checking h.now d.state → has_state d.state u.now.history.rows ≡ false → ongoing_load u.now d.state ≡ None → IsGoneLeft h job d
  gone_left numbered job d discards none gone unloaded_ =
      record {
        discards = discards;
        gone = subst (λ (x : Seen). has_state d.state x.history.rows ≡ false) now_is gone;
        unloaded = unloaded checking h.now numbered d.state none (subst (λ (x : Seen). ongoing_load x d.state ≡ None) now_is unloaded_);
      }

  -- it was shown last
  pub last_left : (job : Job) (d bare : Document) → IsDiscardLeft h job d → bare ≡ unhandled d → IsLeaveDue u.now job bare → IsLastLeft h job d
  last_left job d bare discards is due =
      record {
        discards = discards;
        place = due.place;
        placed = ap (λ (x : Document). place_of h.now x.nav) (sym is) ∙ subst (λ (x : Seen). place_of x bare.nav ≡ Some due.place) now_is due.placed;
        last = due.last ∙ ap (λ (x : Document). Some x.nr) is;
      }

  -- it is kept
  pub kept_left : (job : Job) (d bare : Document) (left : Option DocId) → IsDiscardLeft h job d → bare ≡ unhandled d → IsKeptLast u.now job bare left → IsKeptLeft h job d left
  kept_left job d bare left discards is due =
      record {
        discards = discards;
        kept = ap (λ (x : Document). has_doc h.now.kept x.nr) (sym is) ∙ subst (λ (x : Seen). has_doc x.kept bare.nr ≡ true) now_is due.kept;
        followed = ap (λ (x : Document). is_last h.now x) (sym is) ∙ subst (λ (x : Seen). is_last x bare ≡ false) now_is due.followed;
        last = ap last_of (sym (kept_same checking h.now left)) ∙ subst (λ (x : Seen). last_of (kept_with x left) ≡ Some bare.nr) now_is due.last ∙ ap (λ (x : Document). Some x.nr) is;
      }

  -- it is below one that is gone
  pub below_left : (job : Job) (d bare : Document) → IsDiscardLeft h job d → bare ≡ unhandled d → IsBelowDue u.now job bare → IsBelowLeft h job d
  below_left job d bare discards is due =
      record {
        discards = discards;
        below = sym (below_same checking h.now d) ∙ ap (λ (x : Document). is_below_gone (unasked checking h.now) x) (sym is) ∙ subst (λ (x : Seen). is_below_gone x bare ≡ true) now_is due.below;
      }

  -- nothing needs it, where the log's own event takes the report that it was made
  pub unneeded_left : IsAimed checking h.now → (job : Job) (d bare : Document) → IsDiscardLeft h job d → bare ≡ unhandled d → NoneChecksFor checking h.now d.state → (due : IsUnneededDue u job bare) → h.done ≡ due.own ∷ due.rest → (slot : Option ℕ) → slice_get (desk_of h.start due.proc).reports 0 ≡ Some (reports.Done due.populate (outcomes.Populated slot) due.made) → IsUnneededLeft h job d
  unneeded_left aimed job d bare discards is none due begins slot tells =
      let state_is : bare.state ≡ d.state = ap (λ (x : Document). x.state) is in
      record {
        discards = discards;
        own = due.own;
        rest = due.rest;
        begins = begins;
        proc = due.proc;
        takes = due.takes;
        populate = due.populate;
        slot = slot;
        made = due.made;
        tells = tells;
        of = due.of ∙ ap (λ (x : Document). x.nr) is;
        unloaded = unloaded checking h.now aimed.numbered d.state none (ap (λ state. ongoing_load (unasked checking h.now) state) (sym state_is) ∙ subst (λ (x : Seen). ongoing_load x bare.state ≡ None) now_is due.unloaded);
        untargeted = sym (target_same checking h.now aimed d.state) ∙ ap (λ state. list_any (is_a_target (unasked checking h.now) state) h.now.places) (sym state_is) ∙ subst (λ (x : Seen). list_any (is_a_target x bare.state) x.places ≡ false) now_is due.untargeted;
        unshown = ap (λ (x : Document). is_last h.now x) (sym is) ∙ subst (λ (x : Seen). is_last x bare ≡ false) now_is due.unshown;
        unkept = ap (λ (x : Document). has_doc h.now.kept x.nr) (sym is) ∙ subst (λ (x : Seen). has_doc x.kept bare.nr ≡ false) now_is due.unkept;
      }
