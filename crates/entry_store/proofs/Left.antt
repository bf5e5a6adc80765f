-- What is left after a cut is what tidying leaves.
use Rattle.std.proofs.Common.{◌≡◌, List, [], ◌∷◌, refl, ap, sym, ◌∙◌, filter}
use Rattle.tab_ids.specs.declared.StateId.{StateId}
use Rattle.log_model.specs.declared.row.Row.{Row}
use Rattle.log_model.specs.History.{tidied}
use Rattle.log_model.specs.Soundness.{IsRooted}
use Rattle.history_laws.proofs.Members.{IsIn, IsIn-filter, filter-filter}
use Rattle.history_laws.proofs.Tidying.{tidied-closed}
use Rattle.entry_store.specs.declared.cut.Cut.{Cut}
use Rattle.entry_store.specs.declared.cut.Cut.TheVariants.{Nothing}
use Rattle.entry_store.specs.Nested.{outlives, has, is_held_by, stays, AreHeld}

-- among rows that are part of others, which hang together
pub stays-tidied_part : (whole : List Row) → IsRooted whole → (rows : List Row) → ((row : Row) → IsIn rows row → IsIn whole row) → (cut : Cut) (states : List StateId) → AreHeld states (filter (outlives cut) rows) → filter (stays cut states) rows ≡ tidied (filter (outlives cut) rows)
stays-tidied_part whole rooted rows part cut states held =
    sym (filter-filter (is_held_by states) (outlives cut) rows)
    ∙ tidied-closed whole rooted (filter (outlives cut) rows) (λ row kept. part row (IsIn-filter (outlives cut) rows row kept)) (has states) held

-- a cut that takes nothing out
pub outlives_nothing : (rows : List Row) → filter (outlives Nothing) rows ≡ rows
outlives_nothing [] = refl
outlives_nothing (row ∷ rows) = ap (λ rest. row ∷ rest) (outlives_nothing rows)

pub stays-tidied : (rows : List Row) → IsRooted rows → (cut : Cut) (states : List StateId) → AreHeld states (filter (outlives cut) rows) → filter (stays cut states) rows ≡ tidied (filter (outlives cut) rows)
stays-tidied rows rooted = stays-tidied_part rows rooted rows (λ row there. there)
