-- The row with which the user evicts may be logged where the order that discards the document follows, and this order where the prompts come that it makes due: what later rows leave first was shown last, which the kept document wasn't.
use Rattle.checking_facts.specs.Prompts.{PassIf}
use Rattle.tab_doors.proofs.Uncut.{uncut_pass}
use Rattle.seen_facts.specs.Hang.Members.{Has}
use Rattle.seen_facts.specs.Kept.Keeping.{is_last}
use Rattle.row_facts.proofs.LeaveRows.Evicts.{discard_discards, discarded_by, evicted_may, evicted_row}
use Rattle.row_facts.proofs.LeaveRows.LeftMays.{evict_left_may}
use Rattle.row_facts.specs.LeaveRows.MayLeave.{PromptsLater}
use Rattle.row_facts.specs.LeaveRows.Evicting.{IsDiscardedLater, IsKeptLast, is_evicting, is_last as is_its_last}
use Rattle.log_model.specs.AfterPlaces.{without_doc}
use Rattle.log_model.specs.Equal.{has_doc, holds}
use Rattle.log_model.specs.Formed.{last_of}
use Rattle.log_model.specs.Places.{is_gone}
use Rattle.log_model.specs.Points.{order_of}
use Rattle.log_model.specs.Seen.{Document, Place, Seen, document_of, place_of}
use Rattle.log_model.specs.Suits.{kept_with, newly_left}
use Rattle.log_model.specs.declared.job.Job.{Job}
use Rattle.log_model.specs.declared.job.Task.{Task}
use Rattle.log_model.specs.declared.row_kind.Actor.{Actor}
use Rattle.log_model.specs.declared.row_kind.LogRow.{LogRow}
use Rattle.log_model.specs.declared.row_kind.RowKind.{RowKind}
use Rattle.seen_laws.proofs.InEvents.{led_here, now_is, uncut_first}
use Rattle.seen_laws.proofs.Keyed.{find_has as seen_number}
use Rattle.seen_laws.specs.Blocks.{EachPass, Here, MayLog}
use Rattle.seen_laws.specs.InEvent.{InEvent, here_of, now_of, row_of, start_of}
use Rattle.seen_laws.specs.Sending.{leads}
use Rattle.std.proofs.Common.{Bool, List, None, Option, Some, [], ap, arith, cond, false, inl, inr, not, refl, subst, sym, true, ℕ, ◌==◌, ◌∙◌, ◌∷◌, ◌≡◌}
use Rattle.std.proofs.lemmas.Bool.Decides.{nat_tests}
use Rattle.tab_doors.proofs.Leavable.{IsLeftAs, discards_log, kept_last_log, leaves_log, numbered_log}
use Rattle.tab_doors.proofs.Works.{numbered}
use Rattle.tab_doors.specs.Orders.{order_to, proc_at}
use Rattle.tab_doors.specs.declared.tables.Tables.{Tables}
use Rattle.tab_ids.specs.declared.DocId.{DocId}
use Rattle.tab_ids.specs.declared.NavId.{NavId}
use Rattle.tab_ids.specs.declared.ReqId.{ReqId}
use Rattle.tab_ids.specs.declared.StateId.{StateId}
use Rattle.tab_passes.proofs.Unders.{into_docs}
use Rattle.user_evicts.specs.Discarding.{IsEvicted}
use Rattle.log_model.specs.declared.job.Task.TheVariants as tasks
use Rattle.log_model.specs.declared.job.Why.TheVariants as whys
use Rattle.log_model.specs.declared.row_kind.Actor.TheVariants as actors
use Rattle.log_model.specs.declared.row_kind.RowKind.TheVariants as rows

-- ---- the last of a list

-- with one in front it is the last still
last_more : (x : DocId) (docs : List DocId) (doc : DocId) → last_of docs ≡ Some doc → last_of (x ∷ docs) ≡ Some doc
last_more x [] doc is = absurd cc
last_more x (y ∷ docs) doc is = is

-- and without another one
last_without : (x : DocId) (docs : List DocId) (doc : DocId) → (doc.0 == x.0) ≡ false → last_of docs ≡ Some doc → last_of (without_doc x docs) ≡ Some doc
last_without x [] doc apart is = absurd cc
last_without x (y ∷ []) doc apart is =
    let same : y ≡ doc = cc in
    let kept : (y.0 == x.0) ≡ false = ap (λ (d : DocId). d.0 == x.0) same ∙ apart in
    rw kept is
last_without x (y ∷ z ∷ docs) doc apart is = by_test (y.0 == x.0) refl (last_without x (z ∷ docs) doc apart is)
  where
    by_test : (b : Bool) → (y.0 == x.0) ≡ b → last_of (without_doc x (z ∷ docs)) ≡ Some doc → last_of (let l : List DocId = cond (not (y.0 == x.0)) (y ∷ without_doc x (z ∷ docs)) (without_doc x (z ∷ docs)) in l) ≡ Some doc
    by_test true e rest = rw e rest
    by_test false e rest = rw e (last_more y (without_doc x (z ∷ docs)) doc rest)

-- it is among them
pub last_has : (docs : List DocId) (doc : DocId) → last_of docs ≡ Some doc → Has docs doc
last_has [] doc is = absurd cc
last_has (x ∷ []) doc is = inl (let same : x ≡ doc = cc in same)
last_has (x ∷ y ∷ docs) doc is = inr (last_has (y ∷ docs) doc is)

-- ---- the document that later rows leave

-- a navigable was shown it last
record WasLast (s : Seen) (doc : DocId) : Type 0 where
  nav : NavId
  place : Place
  placed : place_of s nav ≡ Some place
  last : place.last ≡ Some doc

left_last : (s : Seen) (later : List LogRow) (doc : DocId) → newly_left s later ≡ Some doc → WasLast s doc
left_last s [] doc is = absurd cc
left_last s (row ∷ later) doc is = by_order (λ one. left_last s later doc one) (order_of row) refl
  where
    past : newly_left s (row ∷ later) ≡ newly_left s later → (newly_left s later ≡ Some doc → WasLast s doc) → WasLast s doc
    past same more = more (sym same ∙ is)

    by_task : (newly_left s later ≡ Some doc → WasLast s doc) → (job : Job) (task : Task) → order_of row ≡ Some job → job.task ≡ task → WasLast s doc
    by_task more job (tasks.Activate entry epoch long at memo address) o task = by_document (document_of s job.doc) refl
      where
        by_last : (d : Document) (place : Place) (o_ : Option DocId) → document_of s job.doc ≡ Some d → place_of s d.nav ≡ Some place → place.last ≡ o_ → WasLast s doc
        by_last d place None found placed last = past (rw o (rw task (rw found (rw placed (rw last refl))))) more
        by_last d place (Some x) found placed last = by_test (x.0 == job.doc.0) refl
          where
            by_test : (b : Bool) → (x.0 == job.doc.0) ≡ b → WasLast s doc
            by_test true e = past (rw o (rw task (rw found (rw placed (rw last (rw e refl)))))) more
            by_test false e =
                let own : newly_left s (row ∷ later) ≡ Some x = rw o (rw task (rw found (rw placed (rw last (rw e refl))))) in
                let both : Some x ≡ Some doc = sym own ∙ is in
                let same : x ≡ doc = cc in
                record { nav = d.nav; place = place; placed = placed; last = last ∙ ap (λ (y : DocId). let o_ : Option DocId = Some y in o_) same }

        by_place : (d : Document) (o_ : Option Place) → document_of s job.doc ≡ Some d → place_of s d.nav ≡ o_ → WasLast s doc
        by_place d None found none = past (rw o (rw task (rw found (rw none refl)))) more
        by_place d (Some place) found placed = by_last d place place.last found placed refl

        by_document : (o_ : Option Document) → document_of s job.doc ≡ o_ → WasLast s doc
        by_document None none = past (rw o (rw task (rw none refl))) more
        by_document (Some d) found = by_place d (place_of s d.nav) found refl
    by_task more job (tasks.Populate nav state address initial) o task = past (rw o (rw task refl)) more
    by_task more job (tasks.Update long at) o task = past (rw o (rw task refl)) more
    by_task more job tasks.Freeze o task = past (rw o (rw task refl)) more
    by_task more job tasks.Discard o task = past (rw o (rw task refl)) more
    by_task more job (tasks.Ask slot cause) o task = past (rw o (rw task refl)) more
    by_task more job (tasks.DoFragment req mode address) o task = past (rw o (rw task refl)) more

    by_order : (newly_left s later ≡ Some doc → WasLast s doc) → (o : Option Job) → order_of row ≡ o → WasLast s doc
    by_order more None o = past (rw o refl) more
    by_order more (Some job) o = by_task more job job.task o refl

-- ---- the two rows

module _ (e : InEvent) (t : Tables) (doc : DocId) (state : StateId) (its : IsEvicted e t doc state) where
  abbrev n : Seen
  n = now_of e []

  abbrev pub discard : Job
  discard = order_to n doc whys.Evict tasks.Discard

  number : its.document.nr ≡ doc
  number =
      ap (λ (k : ℕ). let x : DocId = record { 0 = k } in x) (seen_number (λ (x : Document). x.nr.0) doc.0 n.documents its.document its.due.found)

  -- it is the last of those that are kept, with whichever later rows leave
  last_then : (left : Option DocId) → ((x : DocId) → left ≡ Some x → WasLast n x) → last_of (kept_with n left) ≡ Some doc
  last_then None was = its.due.last
  last_then (Some x) was = by_gone (is_gone n x)
    where
      apart : (doc.0 == x.0) ≡ false
      apart = by_test (doc.0 == x.0) refl
        where
          by_test : (b : Bool) → (doc.0 == x.0) ≡ b → (doc.0 == x.0) ≡ false
          by_test false is = is
          by_test true is =
              let so = was x refl in
              let turned : (x.0 == doc.0) ≡ true = grind (arith, nat_tests, is) in
              let last : is_last doc so.place ≡ true = ap (λ (o : Option DocId). holds (λ (y : DocId). y.0 == doc.0) o) so.last ∙ turned in
              let never : true ≡ false = sym last ∙ its.unshown so.nav so.place so.placed in
              absurd cc

      by_gone : (b : Bool) → last_of (let l : List DocId = cond b n.kept (x ∷ without_doc x n.kept) in l) ≡ Some doc
      by_gone true = its.due.last
      by_gone false = last_more x (without_doc x n.kept) doc (last_without x n.kept doc apart its.due.last)

  -- its navigable was shown another one last
  followed : is_its_last n its.document ≡ false
  followed = by_place (place_of n its.document.nav) refl
    where
      by_place : (o : Option Place) → place_of n its.document.nav ≡ o → holds (λ (place : Place). holds (λ (last : DocId). last.0 == its.document.nr.0) place.last) o ≡ false
      by_place None none = refl
      by_place (Some place) placed =
          ap (λ (d : DocId). holds (λ (last : DocId). last.0 == d.0) place.last) number ∙ its.unshown its.document.nav place placed

  due_for : (left : Option DocId) → ((x : DocId) → left ≡ Some x → WasLast n x) → IsKeptLast n discard its.document left
  due_for left was =
      record {
        discards = its.discards;
        kept = ap (λ (d : DocId). has_doc n.kept d) number ∙ into_docs n.kept doc (last_has n.kept doc its.due.last);
        followed = followed;
        last = last_then left was ∙ ap (λ (d : DocId). let o : Option DocId = Some d in o) (sym number);
      }

  own_row : row_of e e.own ≡ evicted_row e.event state
  own_row =
      ap (λ (a : Actor). let row : LogRow = record { event = e.event; actor = a; row = e.own } in row) its.by_user
      ∙ ap (λ (k : RowKind). let row : LogRow = record { event = e.event; actor = actors.Ui; row = k } in row) its.own

  own_leads : leads e.own ≡ true
  own_leads = ap (λ (k : RowKind). leads k) its.own

  first_may : MayLog (start_of e) (row_of e e.own ∷ []) (IsDiscardedLater doc)
  first_may =
      subst (λ (row : LogRow). MayLog (start_of e) (row ∷ []) (IsDiscardedLater doc)) (sym own_row) (evicted_may (start_of e) e.event state doc its.was refl its.began)

  evicting : is_evicting (row_of e e.own ∷ []) ≡ true
  evicting = ap (λ (row : LogRow). is_evicting (row ∷ [])) own_row

  -- the document as the log has it: an eviction is for no request, so it may be left
  pub left_as : IsLeftAs e [] discard its.document
  left_as = discards_log e [] (now_is e []) discard its.document (λ req why. cc) its.discards

  -- the order passes, if the prompts come that it makes due
  pub second_passes : (later : List LogRow) → PromptsLater (here_of e []) (row_of e (rows.Sent discard)) later → EachPass (here_of e []) (row_of e (rows.Sent discard) ∷ []) later
  second_passes later prompts =
      evict_left_may (here_of e []) e.event e.actor discard left_as.d (led_here e [] own_leads) (numbered_log e [] (now_is e []) discard (numbered n (proc_at n doc) doc whys.Evict tasks.Discard its.known)) (newly_left n later) (kept_last_log e [] (now_is e []) discard its.document left_as (newly_left n later) (due_for (newly_left n later) (λ x is. left_last n later x is))) (subst (λ (h : Here). is_evicting h.done ≡ true) (sym (uncut_first e its.logged.uncut)) evicting) later (prompts, sym (leaves_log e [] (now_is e []) later))

  -- the event's own row passes, if the document is discarded later
  pub own_passes : (todo : ReqId → Option DocId) → PassIf (IsDiscardedLater doc) e todo []
  unfolding PassIf
  own_passes todo later rest = uncut_pass e [] later its.logged.uncut (first_may later rest.1)

  -- as it is by the order
  pub discarded_next : (later : List LogRow) → IsDiscardedLater doc (row_of e (rows.Sent discard) ∷ later)
  discarded_next later =
      discarded_by doc [] (row_of e (rows.Sent discard)) later (discard_discards doc e.event e.actor discard refl refl)
