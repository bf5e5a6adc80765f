-- The history with which a tab opens is kept.
use Rattle.std.proofs.Common.{◌≡◌, ℕ, List, [], ◌∷◌, sym, refl, subst, arith, None}
use Rattle.std.proofs.lemmas.Bool.{eqb-true, lt-leb}
use Rattle.tab_ids.specs.declared.NavId.{NavId}
use Rattle.tab_ids.specs.declared.StateId.{StateId}
use Rattle.tab_ids.specs.declared.EntryId.{EntryId}
use Rattle.log_model.specs.declared.row.Row.{Row}
use Rattle.log_model.specs.History.{is_of}
use Rattle.history_laws.proofs.Members.{or_none}
use Rattle.history_laws.proofs.Opening.{IsSound-opening, list_any-one}
use Rattle.entry_store.specs.Kept.{IsKept}

pub first_kept : (entry : EntryId) (state : StateId) (address : List ℕ) (rows : List Row) (added : List NavId) (used : List ℕ)
    → rows ≡ record { owner = None; nav = record { 0 = 0 }; entry = entry; step = record { 0 = 0 }; state = state; address = address; memo = None } ∷ []
    → added ≡ [] → used ≡ 0 ∷ [] → IsKept (record { rows = rows; current = 0; added = added }) used
first_kept entry state address rows added used rows_are none steps =
    subst (λ (r : List Row). IsKept (record { rows = r; current = 0; added = added }) used) (sym rows_are)
    (subst (λ (a : List NavId). IsKept (record { rows = row ∷ []; current = 0; added = a }) used) (sym none) (record {
      sound = IsSound-opening entry state address;
      added = λ nav has is_child. absurd (is_child (sym (eqb-true 0 nav.0 (list_any-one (is_of nav) row has))));
      used = steps;
      below = or_none _ _ (lt-leb 4294967295 0 (omega arith)) refl;
    }))
  where
    row : Row
    row = record { owner = None; nav = record { 0 = 0 }; entry = entry; step = record { 0 = 0 }; state = state; address = address; memo = None }
