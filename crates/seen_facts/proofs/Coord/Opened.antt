-- A tab is opened: its one document is at its entry, nothing is on its way, and what is true between two rows of the documents of all awake navigables is so at the start.
use Rattle.std.proofs.Common.{◌≡◌, ℕ, zero, suc, ◌≤◌, Bool, true, false, cond, ◌==◌, List, [], ◌∷◌, Option, Some, None, refl, sym, ap, ◌∙◌, subst, arith}
use Rattle.std.specs.Prelude.{find, slice_get}
use Rattle.tab_ids.specs.declared.DocId.{DocId}
use Rattle.tab_ids.specs.declared.EntryId.{EntryId}
use Rattle.tab_ids.specs.declared.NavId.{NavId}
use Rattle.tab_ids.specs.declared.ProcId.{ProcId}
use Rattle.tab_ids.specs.declared.ReqId.{ReqId}
use Rattle.tab_ids.specs.declared.StateId.{StateId}
use Rattle.log_model.specs.declared.made.Made.{Made}
use Rattle.log_model.specs.declared.row.Row.{Row}
use Rattle.log_model.specs.declared.row_kind.Actor.{Actor}
use Rattle.log_model.specs.declared.row_kind.RowKind.TheVariants as rows
use Rattle.log_model.specs.Views.{View, opening_view}
use Rattle.log_model.specs.Seen.{Seen, Document, Desk, Place, document_of, desk_of, desk_in, empty_desk, place_of}
use Rattle.log_model.specs.After.{after, opening_document}
use Rattle.log_model.specs.AfterPlaces.{opening_place}
use Rattle.log_model.specs.Opening.{opening_history}
use Rattle.seen_laws.proofs.Keyed.{find_has}
use Rattle.seen_facts.specs.Coord.Leading.{held_back, Leads, EachLeads, EachIsOfItsNavigable}
use Rattle.seen_facts.specs.Coord.Reaching.{Reaches, EachReaches}
use Rattle.seen_facts.specs.Coord.Epochs.{IsWithin, EachIsWithin}
use Rattle.seen_facts.specs.Coord.Flowing.{Flows}

some_same : {A : Type 0} {a b : A} → (let o : Option A = Some a in o) ≡ Some b → a ≡ b
some_same e = cc

-- what is found in a list of one is that one
find_only : {A : Type 0} (test : A → Bool) (a b : A) → find test (a ∷ []) ≡ Some b → a ≡ b
find_only {A} test a b found = by_test (test a) found
  where
    by_test : (t : Bool) → (let o : Option A = cond t (Some a) None in o) ≡ Some b → a ≡ b
    by_test true e = cc
    by_test false e = cc

-- no process has anything to do
one_empty : (proc p : ProcId) → desk_in (empty_desk proc ∷ []) p ≡ empty_desk (cond (proc.0 == p.0) proc p)
one_empty proc p = by_test (proc.0 == p.0)
  where
    by_test : (t : Bool) → (let d : Desk = cond t (empty_desk proc) (empty_desk p) in d) ≡ empty_desk (cond t proc p)
    by_test true = refl
    by_test false = refl

module _ (s : Seen) (event : ℕ) (actor : Actor) (entry : EntryId) (state : StateId) (doc : DocId) (proc : ProcId) (slot : Option ℕ) (address : List ℕ) (none : s.parked ≡ []) where
  abbrev after_opening : Seen
  after_opening =
      after s (record { event = event; actor = actor; row = rows.Opened entry state doc proc slot address })

  abbrev first : Document
  first = opening_document entry state doc proc slot address

  place_is : (nav : NavId) (place : Place) → place_of after_opening nav ≡ Some place → opening_place entry doc ≡ place
  place_is nav place placed = find_only (λ (p : Place). p.nav.0 == nav.0) (opening_place entry doc) place placed

  document_is : (d : DocId) (x : Document) → document_of after_opening d ≡ Some x → first ≡ x
  document_is d x found = find_only (λ (y : Document). y.nr.0 == d.0) first x found

  held_none : held_back after_opening.requests after_opening.parked ≡ []
  held_none = ap (λ (parked : List ReqId). held_back after_opening.requests parked) none

  first_leads : (p : ProcId) → Leads (opening_history entry state address).rows [] (empty_desk p) first (Some entry) (record { 0 = 1 })
  first_leads p =
      record {
        face = record { entry = entry; address = address; memo = None };
        is_given = refl;
        is_row = λ i row there same. only_row i row there;
        view = opening_view doc entry address;
        pending = refl;
        leads = refl;
        runs = refl;
        in_epoch = refl;
        pair = λ no_push. refl;
      }
    where
      only_row : (i : ℕ) (row : Row) → slice_get (opening_history entry state address).rows i ≡ Some row → (row.address ≡ address) × (row.memo ≡ None)
      only_row zero row there = (let same : (let first_row : Row = record { owner = None; nav = record { 0 = 0 }; entry = entry; step = record { 0 = 0 }; state = state; address = address; memo = None } in first_row) ≡ row = some_same there in (ap (λ (r : Row). r.address) (sym same), ap (λ (r : Row). r.memo) (sym same)))
      only_row (suc i) row there = absurd cc

  opened_leads : EachLeads after_opening
  opened_leads nav place d x placed wakes found =
      subst (λ (held : List Made). Leads (opening_history entry state address).rows held (desk_of after_opening x.proc) x place.given place.epoch) (sym held_none)
      (subst (λ (desk : Desk). Leads (opening_history entry state address).rows [] desk x place.given place.epoch) (sym (one_empty proc x.proc))
      (subst (λ (p : Place). Leads (opening_history entry state address).rows [] (empty_desk (cond (proc.0 == x.proc.0) proc x.proc)) x p.given p.epoch) (place_is nav place placed)
      (subst (λ (y : Document). Leads (opening_history entry state address).rows [] (empty_desk (cond (proc.0 == y.proc.0) proc y.proc)) y (Some entry) (record { 0 = 1 })) (document_is d x found) (first_leads (cond (proc.0 == proc.0) proc proc)))))

  opened_whose : EachIsOfItsNavigable after_opening
  opened_whose nav place d x placed wakes found =
      ap (λ (y : Document). y.nav.0) (sym (document_is d x found))
      ∙ ap (λ (p : Place). p.nav.0) (place_is nav place placed)
      ∙ find_has (λ (p : Place). p.nav.0) nav.0 after_opening.places place placed

  opened_reaches : EachReaches after_opening
  opened_reaches nav place d x placed wakes found =
      subst (λ (desk : Desk). Reaches desk x place.epoch) (sym (one_empty proc x.proc)) (record { reached = λ view has at. tt; last = tt })

  opened_within : EachIsWithin after_opening
  opened_within d x place found placed =
      subst (λ (held : List Made). IsWithin held (desk_of after_opening x.proc) x place.epoch.0) (sym held_none)
      (subst (λ (desk : Desk). IsWithin [] desk x place.epoch.0) (sym (one_empty proc x.proc))
      (subst (λ (p : Place). IsWithin [] (empty_desk (cond (proc.0 == x.proc.0) proc x.proc)) x p.epoch.0) (place_is x.nav place placed)
      (subst (λ (y : Document). IsWithin [] (empty_desk (cond (proc.0 == y.proc.0) proc y.proc)) y 1) (document_is d x found) first_within)))
    where
      first_within : IsWithin [] (empty_desk (cond (proc.0 == proc.0) proc proc)) first 1
      first_within =
          record {
            view = λ view has. (let same : opening_view doc entry address ≡ view = some_same has in subst (λ (v : View). v.epoch.0 ≤ 1) same (omega arith));
            orders = tt;
            held_back = tt;
            reports = tt;
          }

  pub opened_flows : Flows after_opening
  opened_flows =
      record { leads = opened_leads; whose = opened_whose; reaches = opened_reaches; within = opened_within }
