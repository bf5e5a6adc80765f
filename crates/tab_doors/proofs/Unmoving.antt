-- Navigables that are not moved any more, one by one.
use Rattle.apply_plan.specs.Order.{made_in}
use Rattle.tab_doors.specs.Ending.{unmove_all}
use Rattle.log_model.proofs.Refl.{nat_eq_refl}
use Rattle.nav_tree.proofs.Lists.{take-slice_get}
use Rattle.nav_tree.specs.Tree.{Tree, is_nav, node_of, with_nav}
use Rattle.nav_tree.specs.declared.nav.Nav.{Nav}
use Rattle.nav_tree.specs.declared.node.Node.{Node}
use Rattle.std.proofs.Common.{Bool, List, None, Option, Some, [], ap, cond, false, length, map, refl, suc, sym, take, true, zero, ℕ, ◌+◌, ◌∙◌, ◌∷◌, ◌≡◌}
use Rattle.std.proofs.lemmas.List.{length-map}
use Rattle.std.proofs.lemmas.List.Sums.{fold-append}
use Rattle.std.specs.Map.{lookup}
use Rattle.std.specs.Option.{IsSome}
use Rattle.std.specs.Prelude.{option_map, slice_get}
use Rattle.tab_ids.specs.declared.NavId.{NavId}
use Rattle.tab_doors.proofs.Nodes.{keys_with_nav}

mapped_there : (f : Node → Node) (o : Option Node) → IsSome o → IsSome (option_map f o)
mapped_there f None is = cc
mapped_there f (Some node) is = refl

-- who is in the table
listed_there : (es : List (NavId × Node)) (i : ℕ) (nav : NavId) → option_map (λ (e : NavId × Node). e.0) (slice_get es i) ≡ Some nav → IsSome (lookup (is_nav nav) es)
listed_there [] i nav at = cc
listed_there (e ∷ es) zero nav at = let same : e.0 ≡ nav = cc in rw (sym same) (rw (nat_eq_refl e.0.0) refl)
listed_there (e ∷ es) (suc i) nav at = by_test (is_nav nav e.0) (listed_there es i nav at)
  where
    by_test : (b : Bool) → IsSome (lookup (is_nav nav) es) → IsSome (cond b (Some e.1) (lookup (is_nav nav) es))
    by_test true there = refl
    by_test false there = there

made_at : (es : List (NavId × Node)) (i : ℕ) → option_map (λ (e : NavId × Node). e.0) (slice_get es i) ≡ slice_get (map (λ (e : NavId × Node). e.0) es) i
made_at [] i = refl
made_at (e ∷ es) zero = refl
made_at (e ∷ es) (suc i) = made_at es i

-- the table has as many, in the same order
pub same_keys : (navs : List NavId) (tree : Tree) → map (λ (e : NavId × Node). e.0) (unmove_all navs tree).navs ≡ map (λ (e : NavId × Node). e.0) tree.navs
same_keys [] tree = refl
same_keys (nav ∷ navs) tree = same_keys navs (with_nav (λ (n : Nav). record n { moved = false }) nav tree) ∙ keys_with_nav (λ (n : Nav). record n { moved = false }) nav tree

pub same_length : (navs : List NavId) (tree : Tree) → length (unmove_all navs tree).navs ≡ length tree.navs
same_length navs tree =
    sym (length-map (unmove_all navs tree).navs (λ (e : NavId × Node). e.0)) ∙ ap (λ (l : List NavId). length l) (same_keys navs tree) ∙ length-map tree.navs (λ (e : NavId × Node). e.0)

pub there_at : (navs : List NavId) (tree : Tree) (i : ℕ) (nav : NavId) → option_map (λ (e : NavId × Node). e.0) (slice_get (unmove_all navs tree).navs i) ≡ Some nav → IsSome (node_of nav (unmove_all navs tree))
there_at navs tree i nav at = listed_there (unmove_all navs tree).navs i nav at

pub one_more : (tree : Tree) (i : ℕ) (nav : NavId) → option_map (λ (e : NavId × Node). e.0) (slice_get (unmove_all (take i (made_in tree)) tree).navs i) ≡ Some nav → with_nav (λ (n : Nav). record n { moved = false }) nav (unmove_all (take i (made_in tree)) tree) ≡ unmove_all (take (i + 1) (made_in tree)) tree
one_more tree i nav at =
    let found : slice_get (made_in tree) i ≡ Some nav = ap (λ (l : List NavId). slice_get l i) (sym (same_keys (take i (made_in tree)) tree)) ∙ sym (made_at (unmove_all (take i (made_in tree)) tree).navs i) ∙ at in
    sym (ap (λ (l : List NavId). unmove_all l tree) (take-slice_get (made_in tree) i nav found) ∙ fold-append (λ (t : Tree) (n : NavId). with_nav (λ (m : Nav). record m { moved = false }) n t) tree (take i (made_in tree)) (nav ∷ []))
