-- Each row keeps that documents have numbers of their own, and that the entries of a document's state are its navigable's.
use Rattle.std.proofs.Common.{◌≡◌, ◌⊎◌, inl, inr, ℕ, ◌+◌, Bool, true, false, cond, not, ◌&&◌, ◌==◌, List, [], ◌∷◌, ◌++◌, Option, Some, None, refl, sym, ap, ◌∙◌, subst, arith}
use Rattle.std.specs.Prelude.{find, filter, map, option_map, slice_get, is_none, nat_le}
use Rattle.std.proofs.lemmas.Bool.Decides.{nat_tests}
use Rattle.tab_ids.specs.declared.DocId.{DocId}
use Rattle.tab_ids.specs.declared.EntryId.{EntryId}
use Rattle.tab_ids.specs.declared.NavId.{NavId}
use Rattle.tab_ids.specs.declared.ReqId.{ReqId}
use Rattle.tab_ids.specs.declared.StateId.{StateId}
use Rattle.log_model.specs.declared.change.Change.{Change}
use Rattle.log_model.specs.declared.change.Change.TheVariants as changes
use Rattle.log_model.specs.declared.job.Job.{Job}
use Rattle.log_model.specs.declared.job.Task.{Task}
use Rattle.log_model.specs.declared.job.Task.TheVariants as tasks
use Rattle.log_model.specs.declared.made.Report.{Report}
use Rattle.log_model.specs.declared.made.Report.TheVariants as reports
use Rattle.log_model.specs.declared.outcome.Outcome.{Outcome}
use Rattle.log_model.specs.declared.outcome.Outcome.TheVariants as outcomes
use Rattle.log_model.specs.declared.row.Row.{Row}
use Rattle.log_model.specs.declared.row_kind.Actor.{Actor}
use Rattle.log_model.specs.declared.row_kind.RowKind.{RowKind}
use Rattle.log_model.specs.declared.row_kind.RowKind.TheVariants as rows
use Rattle.log_model.specs.Views.{after_made, View}
use Rattle.log_model.specs.After.{after}
use Rattle.log_model.specs.AfterDocuments.{on_document, told_after_change, applied_to, new_document, addressed, documents_sent, task_in_hand, view_finished, documents_finished, slot_finished, documents_delivered}
use Rattle.log_model.specs.AfterPlaces.{is_dead_by}
use Rattle.log_model.specs.History.{same_entry, is_of, tidied, cleared, replaced_row, owner_of, first_step, applied}
use Rattle.log_model.specs.Seen.{Seen, Document, document_of, desk_of}
use Rattle.address.specs.Addresses.{blank_text}
use Rattle.seen_laws.proofs.Keyed.{find_map}
use Rattle.seen_facts.proofs.Coord.Singles.{AreApart}
use Rattle.seen_facts.specs.Hang.Members.{Has}
use Rattle.seen_facts.proofs.Hang.Members.{IsOf, has_filter, has_map, has_more, has_tidied}
use Rattle.seen_facts.specs.Rest.Between.{AreKept}
use Rattle.seen_facts.specs.Rest.Owning.{AreOwned, BringsOwned}
use Rattle.seen_facts.proofs.Rest.Again.{WasOf, was_of}

-- ---- documents that stay the same ones

-- a change that leaves number, navigable and document state
pub record KeepsOwner (g : Document → Document) : Type 0 where
  pub nr : (d : Document) → (g d).nr ≡ d.nr
  pub nav : (d : Document) → (g d).nav ≡ d.nav
  pub state : (d : Document) → (g d).state ≡ d.state

-- these are the documents of before, so changed
pub record AreSame (documents next : List Document) : Type 0 where
  pub g : Document → Document
  pub keeps : KeepsOwner g
  pub are : next ≡ map g documents

map_itself : (documents : List Document) → map (λ (d : Document). d) documents ≡ documents
map_itself [] = refl
map_itself (d ∷ documents) = ap (λ (l : List Document). d ∷ l) (map_itself documents)

map_both : (f g : Document → Document) (documents : List Document) → map g (map f documents) ≡ map (λ (d : Document). g (f d)) documents
map_both f g [] = refl
map_both f g (d ∷ documents) = ap (λ (l : List Document). g (f d) ∷ l) (map_both f g documents)

same_all : (documents : List Document) → AreSame documents documents
same_all documents = record { g = λ d. d; keeps = record { nr = λ d. refl; nav = λ d. refl; state = λ d. refl }; are = sym (map_itself documents) }

same_mapped : (g : Document → Document) (documents : List Document) → KeepsOwner g → AreSame documents (map g documents)
same_mapped g documents keeps = record { g = g; keeps = keeps; are = refl }

same_on : (one two three : List Document) → AreSame one two → AreSame two three → AreSame one three
same_on one two three a b =
    record {
      g = λ d. b.g (a.g d);
      keeps = record { nr = λ d. b.keeps.nr (a.g d) ∙ a.keeps.nr d; nav = λ d. b.keeps.nav (a.g d) ∙ a.keeps.nav d; state = λ d. b.keeps.state (a.g d) ∙ a.keeps.state d };
      are = b.are ∙ ap (λ (l : List Document). map b.g l) a.are ∙ map_both a.g b.g one;
    }

-- one of two
keeps_if : (test : Document → Bool) (f : Document → Document) → KeepsOwner f → KeepsOwner (λ (d : Document). cond (test d) (f d) d)
keeps_if test f keeps =
    record {
      nr = λ d. elim (test d) as (λ b. (let x : Document = cond b (f d) d in x).nr ≡ d.nr) [ true ↦ keeps.nr d | false ↦ refl ];
      nav = λ d. elim (test d) as (λ b. (let x : Document = cond b (f d) d in x).nav ≡ d.nav) [ true ↦ keeps.nav d | false ↦ refl ];
      state = λ d. elim (test d) as (λ b. (let x : Document = cond b (f d) d in x).state ≡ d.state) [ true ↦ keeps.state d | false ↦ refl ];
    }

same_at : (doc : DocId) (f : Document → Document) (documents : List Document) → KeepsOwner f → AreSame documents (on_document doc f documents)
same_at doc f documents keeps = same_mapped (λ (d : Document). cond (d.nr.0 == doc.0) (f d) d) documents (keeps_if (λ (d : Document). d.nr.0 == doc.0) f keeps)

-- ---- what each row does to them

told_same : (c : Change) → KeepsOwner (λ (d : Document). told_after_change d c)
told_same (changes.Push nav entry state address memo) = keeps_if (λ (d : Document). d.nr.0 == entry.maker) (λ (d : Document). record d { told = None }) (record { nr = λ d. refl; nav = λ d. refl; state = λ d. refl })
told_same (changes.Replace nav over entry state address memo) = record { nr = λ d. refl; nav = λ d. refl; state = λ d. refl }
told_same (changes.AddFrame owner nav entry state) = record { nr = λ d. refl; nav = λ d. refl; state = λ d. refl }
told_same (changes.RemoveFrame nav) = record { nr = λ d. refl; nav = λ d. refl; state = λ d. refl }
told_same (changes.Traverse goal) = record { nr = λ d. refl; nav = λ d. refl; state = λ d. refl }
told_same (changes.Reload nav) = record { nr = λ d. refl; nav = λ d. refl; state = λ d. refl }
told_same changes.Edit = record { nr = λ d. refl; nav = λ d. refl; state = λ d. refl }

applied_same : (c : Change) → KeepsOwner (λ (d : Document). applied_to c d)
applied_same (changes.Push nav entry state address memo) = keeps_if (λ (d : Document). d.nr.0 == entry.maker) (λ (d : Document). record d { last_applied = entry.nr }) (record { nr = λ d. refl; nav = λ d. refl; state = λ d. refl })
applied_same (changes.Replace nav over entry state address memo) = keeps_if (λ (d : Document). d.nr.0 == entry.maker) (λ (d : Document). record d { last_applied = entry.nr }) (record { nr = λ d. refl; nav = λ d. refl; state = λ d. refl })
applied_same (changes.AddFrame owner nav entry state) = record { nr = λ d. refl; nav = λ d. refl; state = λ d. refl }
applied_same (changes.RemoveFrame nav) = record { nr = λ d. refl; nav = λ d. refl; state = λ d. refl }
applied_same (changes.Traverse goal) = record { nr = λ d. refl; nav = λ d. refl; state = λ d. refl }
applied_same (changes.Reload nav) = keeps_if (λ (d : Document). d.nav.0 == nav.0) (λ (d : Document). record d { is_fresh = false }) (record { nr = λ d. refl; nav = λ d. refl; state = λ d. refl })
applied_same changes.Edit = record { nr = λ d. refl; nav = λ d. refl; state = λ d. refl }

change_same : (c : Change) → KeepsOwner (λ (d : Document). applied_to c (told_after_change d c))
change_same c =
    record {
      nr = λ d. (applied_same c).nr (told_after_change d c) ∙ (told_same c).nr d;
      nav = λ d. (applied_same c).nav (told_after_change d c) ∙ (told_same c).nav d;
      state = λ d. (applied_same c).state (told_after_change d c) ∙ (told_same c).state d;
    }

-- the order makes no document
abbrev pub IsNoMaking : Task → Type 0
IsNoMaking (tasks.Populate nav state address initial) = ⊥
IsNoMaking _ = Unit {0}

sent_same : (s : Seen) (job : Job) (task : Task) → IsNoMaking task → AreSame s.documents (documents_sent s job task)
sent_same s job (tasks.Populate nav state address initial) never = absurd never
sent_same s job (tasks.Activate entry epoch length index memo address) fine = same_at job.doc (addressed (tasks.Activate entry epoch length index memo address)) s.documents (record { nr = λ d. refl; nav = λ d. refl; state = λ d. refl })
sent_same s job (tasks.Update length index) fine = same_at job.doc (addressed (tasks.Update length index)) s.documents (record { nr = λ d. refl; nav = λ d. refl; state = λ d. refl })
sent_same s job tasks.Freeze fine = same_at job.doc (addressed tasks.Freeze) s.documents (record { nr = λ d. refl; nav = λ d. refl; state = λ d. refl })
sent_same s job tasks.Discard fine = same_at job.doc (λ (d : Document). record d { is_discarded = true }) s.documents (record { nr = λ d. refl; nav = λ d. refl; state = λ d. refl })
sent_same s job (tasks.Ask slot cause) fine = same_at job.doc (addressed (tasks.Ask slot cause)) s.documents (record { nr = λ d. refl; nav = λ d. refl; state = λ d. refl })
sent_same s job (tasks.DoFragment req mode address) fine = same_at job.doc (addressed (tasks.DoFragment req mode address)) s.documents (record { nr = λ d. refl; nav = λ d. refl; state = λ d. refl })

finished_same : (documents : List Document) (hand : Option Job) → AreSame documents (documents_finished documents hand)
finished_same documents None = same_all documents
finished_same documents (Some job) = same_at job.doc (λ (d : Document). record d { view = view_finished d job.task }) documents (record { nr = λ d. refl; nav = λ d. refl; state = λ d. refl })

slot_same : (documents : List Document) (hand : Option Job) (outcome : Outcome) → AreSame documents (slot_finished documents hand outcome)
slot_same documents None (outcomes.Populated slot) = same_all documents
slot_same documents (Some job) (outcomes.Populated slot) = same_at job.doc (λ (d : Document). record d { slot = slot }) documents (record { nr = λ d. refl; nav = λ d. refl; state = λ d. refl })
slot_same documents None outcomes.Activated = same_all documents
slot_same documents (Some job) outcomes.Activated = same_all documents
slot_same documents None outcomes.Updated = same_all documents
slot_same documents (Some job) outcomes.Updated = same_all documents
slot_same documents None outcomes.Frozen = same_all documents
slot_same documents (Some job) outcomes.Frozen = same_all documents
slot_same documents None outcomes.Discarded = same_all documents
slot_same documents (Some job) outcomes.Discarded = same_all documents
slot_same documents None (outcomes.Asked verdict) = same_all documents
slot_same documents (Some job) (outcomes.Asked verdict) = same_all documents
slot_same documents None outcomes.Fragmented = same_all documents
slot_same documents (Some job) outcomes.Fragmented = same_all documents

delivered_same : (documents : List Document) (report : Option Report) → AreSame documents (documents_delivered documents report)
delivered_same documents None = same_all documents
delivered_same documents (Some (reports.Done job (outcomes.Populated slot) made)) = same_at job.doc (λ (d : Document). record d { is_ready = true; is_fresh = true }) documents (record { nr = λ d. refl; nav = λ d. refl; state = λ d. refl })
delivered_same documents (Some (reports.Done job outcomes.Activated made)) = same_all documents
delivered_same documents (Some (reports.Done job outcomes.Updated made)) = same_all documents
delivered_same documents (Some (reports.Done job outcomes.Frozen made)) = same_all documents
delivered_same documents (Some (reports.Done job outcomes.Discarded made)) = same_all documents
delivered_same documents (Some (reports.Done job (outcomes.Asked verdict) made)) = same_all documents
delivered_same documents (Some (reports.Done job outcomes.Fragmented made)) = same_all documents
delivered_same documents (Some (reports.Made made)) = same_all documents
delivered_same documents (Some (reports.Died death)) = same_mapped (λ (d : Document). cond (is_dead_by death d) (record d { is_known_dead = true }) d) documents (keeps_if (λ (d : Document). is_dead_by death d) (λ (d : Document). record d { is_known_dead = true }) (record { nr = λ d. refl; nav = λ d. refl; state = λ d. refl }))

-- ---- they keep their numbers and owners

apart_same : (g : Document → Document) (documents : List Document) → ((d : Document) → (g d).nr ≡ d.nr) → AreApart (λ (d : Document). d.nr.0) documents → AreApart (λ (d : Document). d.nr.0) (map g documents)
apart_same g [] nr apart = tt
apart_same g (d ∷ documents) nr apart =
    (subst (λ (n : DocId). find (λ (x : Document). x.nr.0 == n.0) (map g documents) ≡ None) (sym (nr d)) (find_map (λ (x : Document). x.nr.0) g d.nr.0 documents (λ x. ap (λ (n : DocId). n.0) (nr x)) ∙ ap (λ (o : Option Document). option_map g o) apart.0), apart_same g documents nr apart.1)

pub kept_again : (s t : Seen) → AreSame s.documents t.documents → ((row : Row) → Has t.history.rows row → AreOwned s row.nav row.state) → AreKept s → AreKept t
kept_again s t same owned kept =
    record {
      numbered = subst (λ (l : List Document). AreApart (λ (d : Document). d.nr.0) l) (sym same.are) (apart_same same.g s.documents same.keeps.nr kept.numbered);
      whose = λ doc d row found there state.
          let w : WasOf s same.g doc d = was_of s t same.g same.keeps.nr same.are doc d found in
          owned row there doc w.before w.there (state ∙ ap (λ (x : Document). x.state) (sym w.is) ∙ same.keeps.state w.before) ∙ sym (same.keeps.nav w.before) ∙ ap (λ (x : Document). x.nav) w.is;
    }

module _ (s : Seen) (event : ℕ) (actor : Actor) (kept : AreKept s) where
  abbrev then_ : RowKind → Seen
  then_ kind = after s (record { event = event; actor = actor; row = kind })

  old_rows : (row : Row) → Has s.history.rows row → AreOwned s row.nav row.state
  old_rows row there doc d found state = kept.whose doc d row found there state

  -- the row makes no document, and is neither the opening nor an applied change
  abbrev pub LeavesOwners : RowKind → Type 0
  LeavesOwners (rows.Opened entry state doc proc slot address) = ⊥
  LeavesOwners (rows.Applied req change) = ⊥
  LeavesOwners (rows.Sent job) = IsNoMaking job.task
  LeavesOwners _ = Unit {0}

  pub left_kept : (kind : RowKind) → LeavesOwners kind → AreKept (then_ kind)
  left_kept (rows.Opened entry state doc proc slot address) never = absurd never
  left_kept (rows.Accepted req doc what) leaves = kept_again s (then_ (rows.Accepted req doc what)) (same_all s.documents) old_rows kept
  left_kept (rows.Started req goal) leaves = kept_again s (then_ (rows.Started req goal)) (same_all s.documents) old_rows kept
  left_kept (rows.Applied req change) never = absurd never
  left_kept (rows.Refused req reason) leaves = kept_again s (then_ (rows.Refused req reason)) (same_all s.documents) old_rows kept
  left_kept (rows.Dropped req cause) leaves = kept_again s (then_ (rows.Dropped req cause)) (same_all s.documents) old_rows kept
  left_kept (rows.Prompted req doc) leaves = kept_again s (then_ (rows.Prompted req doc)) (same_all s.documents) old_rows kept
  left_kept (rows.Answered req stay) leaves = kept_again s (then_ (rows.Answered req stay)) (same_all s.documents) old_rows kept
  left_kept (rows.Sent job) leaves = kept_again s (then_ (rows.Sent job)) (sent_same s job job.task leaves) old_rows kept
  left_kept (rows.Taken proc job live dirty) leaves = kept_again s (then_ (rows.Taken proc job live dirty)) (same_all s.documents) old_rows kept
  left_kept (rows.Finished proc job outcome) leaves = kept_again s (then_ (rows.Finished proc job outcome)) (same_on s.documents (documents_finished s.documents (task_in_hand s proc)) (then_ (rows.Finished proc job outcome)).documents (finished_same s.documents (task_in_hand s proc)) (slot_same (documents_finished s.documents (task_in_hand s proc)) (task_in_hand s proc) outcome)) old_rows kept
  left_kept (rows.Made proc made) leaves = kept_again s (then_ (rows.Made proc made)) (same_at made.doc (λ (d : Document). record d { view = option_map (λ (v : View). after_made v made.what) d.view }) s.documents (record { nr = λ d. refl; nav = λ d. refl; state = λ d. refl })) old_rows kept
  left_kept (rows.Delivered proc) leaves = kept_again s (then_ (rows.Delivered proc)) (delivered_same s.documents (slice_get (desk_of s proc).reports 0)) old_rows kept
  left_kept (rows.Killed proc death) leaves = kept_again s (then_ (rows.Killed proc death)) (same_mapped (λ (d : Document). cond (d.proc.0 == proc.0 && is_none d.dead_by) (record d { dead_by = Some death; view = None }) d) s.documents (keeps_if (λ (d : Document). d.proc.0 == proc.0 && is_none d.dead_by) (λ (d : Document). record d { dead_by = Some death; view = None }) (record { nr = λ d. refl; nav = λ d. refl; state = λ d. refl }))) old_rows kept
  left_kept (rows.Evicted state) leaves = kept_again s (then_ (rows.Evicted state)) (same_all s.documents) old_rows kept

  -- ---- applied changes

  -- an entry is of before, or of the navigable and document state of the new one
  is_owned : (nav : NavId) (state : StateId) → AreOwned s nav state → (row : Row) → Has s.history.rows row ⊎ ((row.nav ≡ nav) × (row.state ≡ state)) → AreOwned s row.nav row.state
  is_owned nav state new row (inl old) = old_rows row old
  is_owned nav state new row (inr is) = λ doc d found same. is.0 ∙ new doc d found (sym is.1 ∙ same)

  replaced : (over : EntryId) (put : Row) (row : Row) → Has (tidied (map (replaced_row over put) s.history.rows)) row → Has s.history.rows row ⊎ ((row.nav ≡ put.nav) × (row.state ≡ put.state))
  replaced over put row has = by_tests w.it w.there w.is (same_entry w.it.entry over) (is_of put.nav w.it) refl refl
    where
      w : IsOf (replaced_row over put) s.history.rows row
      w = has_map (replaced_row over put) s.history.rows row (has_tidied (map (replaced_row over put) s.history.rows) row has).0

      by_tests : (x : Row) → Has s.history.rows x → replaced_row over put x ≡ row → (b c : Bool) → same_entry x.entry over ≡ b → is_of put.nav x ≡ c → Has s.history.rows row ⊎ ((row.nav ≡ put.nav) × (row.state ≡ put.state))
      by_tests x there is_ true true e f =
          let new : record put { owner = x.owner; step = x.step } ≡ row = (let v : replaced_row over put x ≡ record put { owner = x.owner; step = x.step } = rw (e, f) refl in sym v ∙ is_) in
          inr (ap (λ (r : Row). r.nav) (sym new), ap (λ (r : Row). r.state) (sym new))
      by_tests x there is_ true false e f =
          let same : x ≡ row = (let v : replaced_row over put x ≡ x = rw (e, f) refl in sym v ∙ is_) in inl (subst (λ (r : Row). Has s.history.rows r) same there)
      by_tests x there is_ false c e f =
          let same : x ≡ row = (let v : replaced_row over put x ≡ x = rw e refl in sym v ∙ is_) in inl (subst (λ (r : Row). Has s.history.rows r) same there)

  more : (put row : Row) → Has s.history.rows row ⊎ (put ≡ row) → Has s.history.rows row ⊎ ((row.nav ≡ put.nav) × (row.state ≡ put.state))
  more put row (inl old) = inl old
  more put row (inr same) = inr (ap (λ (r : Row). r.nav) (sym same), ap (λ (r : Row). r.state) (sym same))

  pushed_ : (put row : Row) → Has (cleared s.history) row ⊎ (put ≡ row) → Has s.history.rows row ⊎ ((row.nav ≡ put.nav) × (row.state ≡ put.state))
  pushed_ put row (inl old) = inl (has_filter (λ (r : Row). nat_le r.step.0 s.history.current) s.history.rows row (has_tidied (filter (λ (r : Row). nat_le r.step.0 s.history.current) s.history.rows) row old).0).0
  pushed_ put row (inr same) = more put row (inr same)

  owned_by : (c : Change) → BringsOwned s c → (row : Row) → Has (applied s.history c).rows row → AreOwned s row.nav row.state
  owned_by (changes.Push nav entry state address memo) brings row has =
      let put : Row = record { owner = owner_of nav (cleared s.history); nav = nav; entry = entry; step = record { 0 = s.history.current + 1 }; state = state; address = address; memo = memo } in
      is_owned nav state brings row (pushed_ put row (has_more (cleared s.history) put row has))
  owned_by (changes.Replace nav over entry state address memo) brings row has =
      is_owned nav state brings row (replaced over (record { owner = None; nav = nav; entry = entry; step = record { 0 = 0 }; state = state; address = address; memo = memo }) row has)
  owned_by (changes.AddFrame owner nav entry state) brings row has =
      let put : Row = record { owner = Some owner; nav = nav; entry = entry; step = record { 0 = first_step owner s.history.rows }; state = state; address = blank_text; memo = None } in
      is_owned nav state brings row (more put row (has_more s.history.rows put row has))
  owned_by (changes.RemoveFrame nav) brings row has =
      old_rows row (has_filter (λ (r : Row). not (is_of nav r)) s.history.rows row (has_tidied (filter (λ (r : Row). not (is_of nav r)) s.history.rows) row has).0).0
  owned_by (changes.Traverse goal) brings row has = old_rows row has
  owned_by (changes.Reload nav) brings row has = old_rows row has
  owned_by changes.Edit brings row has = old_rows row has

  pub applied_kept : (req : ReqId) (change : Change) → BringsOwned s change → AreKept (then_ (rows.Applied req change))
  applied_kept req change brings =
      kept_again s (then_ (rows.Applied req change)) (same_mapped (λ (d : Document). applied_to change (told_after_change d change)) s.documents (change_same change)) (owned_by change brings) kept

  -- ---- an order that makes a document

  apart_more : (documents : List Document) (new : Document) → find (λ (x : Document). x.nr.0 == new.nr.0) documents ≡ None → AreApart (λ (d : Document). d.nr.0) documents → AreApart (λ (d : Document). d.nr.0) (documents ++ new ∷ [])
  apart_more [] new none apart = (refl, tt)
  apart_more (d ∷ documents) new none apart = by_test (d.nr.0 == new.nr.0) refl none (λ e. apart_more documents new e apart.1)
    where
      more_none : (l : List Document) → find (λ (x : Document). x.nr.0 == d.nr.0) l ≡ None → (d.nr.0 == new.nr.0) ≡ false → find (λ (x : Document). x.nr.0 == d.nr.0) (l ++ new ∷ []) ≡ None
      more_none [] e differs = (let other : (new.nr.0 == d.nr.0) ≡ false = grind (arith, nat_tests, differs) in rw other refl)
      more_none (x ∷ l) e differs = by_own (x.nr.0 == d.nr.0) (λ h. more_none l h differs) e
        where
          by_own : (b : Bool) → (find (λ (y : Document). y.nr.0 == d.nr.0) l ≡ None → find (λ (y : Document). y.nr.0 == d.nr.0) (l ++ new ∷ []) ≡ None) → cond b (Some x) (find (λ (y : Document). y.nr.0 == d.nr.0) l) ≡ None → cond b (Some x) (find (λ (y : Document). y.nr.0 == d.nr.0) (l ++ new ∷ [])) ≡ None
          by_own true rest e = cc
          by_own false rest e = rest e

      by_test : (b : Bool) → (d.nr.0 == new.nr.0) ≡ b → cond b (Some d) (find (λ (x : Document). x.nr.0 == new.nr.0) documents) ≡ None → (find (λ (x : Document). x.nr.0 == new.nr.0) documents ≡ None → AreApart (λ (x : Document). x.nr.0) (documents ++ new ∷ [])) → AreApart (λ (x : Document). x.nr.0) (d ∷ documents ++ new ∷ [])
      by_test true e h rest = cc
      by_test false e h rest = (more_none documents apart.0 e, rest h)

  pub making_kept : (job : Job) (nav : NavId) (state : StateId) (address : List ℕ) (initial : Bool) → job.task ≡ tasks.Populate nav state address initial → document_of s job.doc ≡ None → ((row : Row) → Has s.history.rows row → row.state ≡ state → row.nav ≡ nav) → AreKept (then_ (rows.Sent job))
  making_kept job nav state address initial task new owned =
      record {
        numbered = subst (λ (l : List Document). AreApart (λ (d : Document). d.nr.0) l) (sym are) (apart_more s.documents made new kept.numbered);
        whose = λ doc d row found there same. by_case doc d row there same (either doc d found);
      }
    where
      made : Document
      made = new_document s job nav state

      are : (then_ (rows.Sent job)).documents ≡ s.documents ++ made ∷ []
      are = ap (λ (t : Task). documents_sent s job t) task

      either : (doc : DocId) (d : Document) → document_of (then_ (rows.Sent job)) doc ≡ Some d → (document_of s doc ≡ Some d) ⊎ (made ≡ d)
      either doc d found = last s.documents (sym (ap (λ (l : List Document). find (λ (x : Document). x.nr.0 == doc.0) l) are) ∙ found)
        where
          last : (l : List Document) → find (λ (x : Document). x.nr.0 == doc.0) (l ++ made ∷ []) ≡ Some d → (find (λ (x : Document). x.nr.0 == doc.0) l ≡ Some d) ⊎ (made ≡ d)
          last [] e = inr (only (made.nr.0 == doc.0) e)
            where
              only : (b : Bool) → (let o : Option Document = cond b (Some made) None in o) ≡ Some d → made ≡ d
              only true h = cc
              only false h = cc
          last (x ∷ l) e = by_own (x.nr.0 == doc.0) (last l) e
            where
              by_own : (b : Bool) → (find (λ (y : Document). y.nr.0 == doc.0) (l ++ made ∷ []) ≡ Some d → (find (λ (y : Document). y.nr.0 == doc.0) l ≡ Some d) ⊎ (made ≡ d)) → cond b (Some x) (find (λ (y : Document). y.nr.0 == doc.0) (l ++ made ∷ [])) ≡ Some d → (cond b (Some x) (find (λ (y : Document). y.nr.0 == doc.0) l) ≡ Some d) ⊎ (made ≡ d)
              by_own true rest h = inl h
              by_own false rest h = rest h

      by_case : (doc : DocId) (d : Document) (row : Row) → Has s.history.rows row → row.state ≡ d.state → (document_of s doc ≡ Some d) ⊎ (made ≡ d) → row.nav ≡ d.nav
      by_case doc d row there same (inl old) = kept.whose doc d row old there same
      by_case doc d row there same (inr one) = owned row there (same ∙ ap (λ (x : Document). x.state) (sym one)) ∙ ap (λ (x : Document). x.nav) one
