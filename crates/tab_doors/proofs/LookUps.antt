-- Look-ups in the table of navigables after one of its items was written.
use Rattle.std.proofs.Common.{◌≡◌, ℕ, Bool, true, false, cond, ◌==◌, List, [], ◌∷◌, Option, Some, refl, ap, arith}
use Rattle.std.specs.Option.{IsSome}
use Rattle.std.specs.Map.{lookup, set_value}
use Rattle.std.proofs.lemmas.Bool.Decides.{nat_tests}
use Rattle.tab_ids.specs.declared.NavId.{NavId}
use Rattle.nav_tree.specs.declared.node.Node.{Node}
use Rattle.nav_tree.specs.Tree.{is_nav}

-- navigables with one number are the same
pub nav_same : (a b : NavId) → (a.0 == b.0) ≡ true → a ≡ b
nav_same a b e = ap (λ (n : ℕ). let nav : NavId = record { 0 = n } in nav) (grind (arith, nat_tests, e))

-- ---- the table of navigables

-- what was written is found
pub read_back : (nav : NavId) (es : List (NavId × Node)) (w : Node) → IsSome (lookup (is_nav nav) es) → lookup (is_nav nav) (set_value (is_nav nav) es w) ≡ Some w
read_back nav [] w there = cc
read_back nav (e ∷ es) w there = by_test (is_nav nav e.0) refl (read_back nav es w)
  where
    by_test : (b : Bool) → is_nav nav e.0 ≡ b → (IsSome (lookup (is_nav nav) es) → lookup (is_nav nav) (set_value (is_nav nav) es w) ≡ Some w) → lookup (is_nav nav) (set_value (is_nav nav) (e ∷ es) w) ≡ Some w
    by_test true here more = rw here (rw here refl)
    by_test false past more = let left : IsSome (lookup (is_nav nav) es) = rw past at there in rw past (rw past (more left))

-- another is found as before
pub read_past : (nav other : NavId) (es : List (NavId × Node)) (w : Node) → (nav.0 == other.0) ≡ false → lookup (is_nav other) (set_value (is_nav nav) es w) ≡ lookup (is_nav other) es
read_past nav other [] w apart = refl
read_past nav other (e ∷ es) w apart = by_test (is_nav nav e.0) refl (read_past nav other es w apart)
  where
    by_test : (b : Bool) → is_nav nav e.0 ≡ b → lookup (is_nav other) (set_value (is_nav nav) es w) ≡ lookup (is_nav other) es → lookup (is_nav other) (cond b ((e.0, w) ∷ es) (e ∷ set_value (is_nav nav) es w)) ≡ lookup (is_nav other) (e ∷ es)
    by_test true here more =
        let no_ : is_nav other e.0 ≡ false = grind (arith, nat_tests, here, apart) in rw no_ refl
    by_test false past more = ap (λ (o : Option Node). cond (is_nav other e.0) (Some e.1) o) more
