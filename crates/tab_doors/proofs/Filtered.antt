-- The items of a list that pass a test, one by one.
use Rattle.apply_plan.specs.Order.{made_in}
use Rattle.tab_doors.specs.Dues.{has_any, has_none}
use Rattle.log_model.specs.declared.row.Row.{Row}
use Rattle.nav_tree.proofs.Lists.{take-slice_get}
use Rattle.nav_tree.specs.Tree.{Tree}
use Rattle.nav_tree.specs.declared.node.Node.{Node}
use Rattle.std.proofs.Common.{Bool, List, Some, [], ap, append-nil, false, length, map, refl, suc, sym, take, true, zero, ℕ, ◌++◌, ◌+◌, ◌∙◌, ◌∷◌, ◌≡◌}
use Rattle.std.proofs.Math.Seq.{take-length}
use Rattle.std.proofs.lemmas.List.{length-map}
use Rattle.std.proofs.lemmas.List.Elements.{filter-append}
use Rattle.std.specs.Prelude.{filter, option_map, slice_get}
use Rattle.tab_ids.specs.declared.NavId.{NavId}

module _ (test : NavId → Bool) (navs : List NavId) (i : ℕ) (nav : NavId) (at : slice_get navs i ≡ Some nav) where
  more : filter test (take (i + 1) navs) ≡ filter test (take i navs) ++ filter test (nav ∷ [])
  more = ap (λ (l : List NavId). filter test l) (take-slice_get navs i nav at) ∙ filter-append test (take i navs) (nav ∷ [])

  pub kept_more : test nav ≡ true → filter test (take i navs) ++ nav ∷ [] ≡ filter test (take (i + 1) navs)
  kept_more is = sym (more ∙ rw is refl)

  pub left_more : test nav ≡ false → filter test (take i navs) ≡ filter test (take (i + 1) navs)
  left_more is = sym (more ∙ rw is (append-nil (filter test (take i navs))))

made_is : (es : List (NavId × Node)) (i : ℕ) → slice_get (map (λ (e : NavId × Node). e.0) es) i ≡ option_map (λ (e : NavId × Node). e.0) (slice_get es i)
made_is [] i = refl
made_is (e ∷ es) zero = refl
made_is (e ∷ es) (suc i) = made_is es i

-- of navigables that begin
pub one_kept : (entries : List Row) (tree : Tree) (i : ℕ) (nav : NavId) → option_map (λ (e : NavId × Node). e.0) (slice_get tree.navs i) ≡ Some nav → has_any entries nav ≡ true → filter (has_any entries) (take i (made_in tree)) ++ nav ∷ [] ≡ filter (has_any entries) (take (i + 1) (made_in tree))
one_kept entries tree i nav at is = kept_more (has_any entries) (made_in tree) i nav (made_is tree.navs i ∙ at) is

pub one_left : (entries : List Row) (tree : Tree) (i : ℕ) (nav : NavId) → option_map (λ (e : NavId × Node). e.0) (slice_get tree.navs i) ≡ Some nav → has_any entries nav ≡ false → filter (has_any entries) (take i (made_in tree)) ≡ filter (has_any entries) (take (i + 1) (made_in tree))
one_left entries tree i nav at is = left_more (has_any entries) (made_in tree) i nav (made_is tree.navs i ∙ at) is

-- as many as the table has
pub all_taken : (entries : List Row) (tree : Tree) → filter (has_any entries) (take (length tree.navs) (made_in tree)) ≡ filter (has_any entries) (made_in tree)
all_taken entries tree = ap (λ (n : ℕ). filter (has_any entries) (take n (made_in tree))) (sym (length-map tree.navs (λ (e : NavId × Node). e.0))) ∙ ap (λ (l : List NavId). filter (has_any entries) l) (take-length (made_in tree))

-- and of those that don't
pub one_not_kept : (entries : List Row) (navs : List NavId) (i : ℕ) (nav : NavId) → slice_get navs i ≡ Some nav → has_none entries nav ≡ true → filter (has_none entries) (take i navs) ++ nav ∷ [] ≡ filter (has_none entries) (take (i + 1) navs)
one_not_kept entries navs i nav at is = kept_more (has_none entries) navs i nav at is

pub one_not_left : (entries : List Row) (navs : List NavId) (i : ℕ) (nav : NavId) → slice_get navs i ≡ Some nav → has_none entries nav ≡ false → filter (has_none entries) (take i navs) ≡ filter (has_none entries) (take (i + 1) navs)
one_not_left entries navs i nav at is = left_more (has_none entries) navs i nav at is
