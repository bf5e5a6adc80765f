-- One step on the way up.
use Rattle.std.proofs.Common.{◌≡◌, ◌≢◌, ℕ, zero, suc, ◌+◌, ◌-◌, ◌<◌, ◌≤◌, true, false, List, Option, Some, refl, sym, ap, ◌∙◌, arith}
use Rattle.std.specs.Prelude.{◌==◌}
use Rattle.std.proofs.lemmas.Bool.{ne_eqb}
use Rattle.tab_ids.specs.declared.NavId.{NavId}
use Rattle.log_model.specs.declared.row.Row.{Row}
use Rattle.nav_tree.specs.Tree.{Tree}
use Rattle.apply_plan.specs.declared.reach.Reach.{Reach}
use Rattle.apply_plan.specs.Reaches.{way_up, is_reached_within}

-- away from the top a navigable is reached as that is from which the walk comes down to it
pub up_more : (n i : ℕ) (reach : Reach) (rows : List Row) (step : ℕ) (tree : Tree) (nav : NavId) (way : Option NavId) → i < n → nav.0 ≢ 0 → way ≡ way_up reach rows step tree nav → is_reached_within (n - i) reach rows step tree (Some nav) ≡ is_reached_within (n - (i + 1)) reach rows step tree way
up_more n i reach rows step tree nav way low other is =
    let child : (nav.0 == 0) ≡ false = ne_eqb nav.0 0 other in
    let one : n - i ≡ suc (n - (i + 1)) = omega (arith, low) in
    ap (λ (k : ℕ). is_reached_within k reach rows step tree (Some nav)) one ∙ rw child (ap (λ (w : Option NavId). is_reached_within (n - (i + 1)) reach rows step tree w) (sym is))

-- the top is reached
pub up_top : (n : ℕ) (reach : Reach) (rows : List Row) (step : ℕ) (tree : Tree) (nav : NavId) → (nav.0 == 0) ≡ true → is_reached_within n reach rows step tree (Some nav) ≡ true
up_top zero reach rows step tree nav e = e
up_top (suc n) reach rows step tree nav e = rw e refl

-- in no ways only the top is
pub up_end : (n i : ℕ) (reach : Reach) (rows : List Row) (step : ℕ) (tree : Tree) (nav : NavId) → n ≤ i → is_reached_within (n - i) reach rows step tree (Some nav) ≡ (nav.0 == 0)
up_end n i reach rows step tree nav low = ap (λ (k : ℕ). is_reached_within k reach rows step tree (Some nav)) (let none : n - i ≡ 0 = omega (arith, low) in none)
