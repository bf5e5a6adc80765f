-- The coordinator's next entry and document state are new: no entry of before has either, and no navigable was given the entry.
use Rattle.seen_facts.specs.Entry.Entries.{IsNumbered}
use Rattle.seen_facts.specs.Hang.Members.{Has}
use Rattle.log_model.specs.Once.{next_entry_of, next_state}
use Rattle.log_model.specs.Seen.{Document, Place, Seen, document_of, place_of}
use Rattle.log_model.specs.declared.made.Made.{Made}
use Rattle.log_model.specs.declared.row.Row.{Row}
use Rattle.seen_facts.specs.Place.Standing.{IsShownOnce}
use Rattle.std.proofs.Common.{List, None, Option, Some, ap, arith, length, refl, suc, sym, zero, ℕ, ◌+◌, ◌≤◌, ◌∙◌, ◌≡◌}
use Rattle.tab_ids.specs.declared.DocId.{DocId}
use Rattle.tab_ids.specs.declared.EntryId.{EntryId}
use Rattle.tab_ids.specs.declared.NavId.{NavId}
use Rattle.tab_ids.specs.declared.ReqId.{ReqId}
use Rattle.tab_ids.specs.declared.StateId.{StateId}
use Rattle.tab_facts.specs.TabWhole.Tab.{IsTab}

module _ (run : Option ReqId) (loads : List ReqId) (hand : List Made) (s : Seen) (tab : IsTab run loads hand s) where
  -- no entry of before is the coordinator's next
  unnumbered : (entry : EntryId) → IsNumbered s.entries (length s.documents) s.documents entry → entry ≡ next_entry_of s → ⊥
  unnumbered entry is same =
      let few : entry.nr ≤ s.entries = is.own (ap (λ (e : EntryId). e.maker) same) in
      let number : entry.nr ≡ s.entries + 1 = ap (λ (e : EntryId). e.nr) same in
      omega (arith, few, number)

  pub fresh : (row : Row) → Has s.history.rows row → row.entry ≡ next_entry_of s → ⊥
  fresh row has same = unnumbered row.entry (tab.entries.entries.of_row row has) same

  -- nor was a navigable given it
  pub ungiven : (nav : NavId) (place : Place) → place_of s nav ≡ Some place → place.given ≡ Some (next_entry_of s) → ⊥
  ungiven nav place placed given = by_epoch place.epoch.0 refl
    where
      by_shown : IsShownOnce place → ⊥
      by_shown is =
          let both : Some is.entry ≡ Some (next_entry_of s) = sym is.given ∙ given in
          let same : is.entry ≡ next_entry_of s = cc in
          unnumbered is.entry (tab.entries.entries.given nav place is.entry placed is.ever) same

      by_epoch : (n : ℕ) → place.epoch.0 ≡ n → ⊥
      by_epoch zero e =
          let none : place.given ≡ None = ((tab.standing nav place placed).told.0 e).given in
          let no_ : None ≡ Some (next_entry_of s) = sym none ∙ given in cc
      by_epoch (suc n) e = by_shown ((tab.standing nav place placed).told.1 (omega (arith, e)))

  -- nor has an entry or a document the next document state
  pub new_state : (row : Row) → Has s.history.rows row → row.state.0 ≡ s.states + 1 → ⊥
  new_state row has same = (let low : row.state.0 ≤ s.states = tab.loading.rows_ row has in omega (arith, low, same))

  pub new_to : (doc : DocId) (d : Document) → document_of s doc ≡ Some d → next_state s ≡ d.state → ⊥
  new_to doc d found same =
      let low : d.state.0 ≤ s.states = tab.loading.documents doc d found in
      let high : s.states + 1 ≡ d.state.0 = ap (λ (x : StateId). x.0) same in
      omega (arith, low, high)
