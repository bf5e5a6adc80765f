-- The order of the walk, step by step.
use Rattle.std.proofs.Common.{◌≡◌, ℕ, zero, suc, ◌+◌, ◌-◌, ◌<◌, List, [], ◌∷◌, ◌++◌, length, map, drop, Some, None, refl, sym, ap, ◌∙◌, arith}
use Rattle.std.specs.Prelude.{slice_get, option_map}
use Rattle.std.specs.Global.{Vec}
use Rattle.std.specs.BTreeMap.{insert_entry}
use Rattle.std.specs.declared.cmp.Ordering.{Ordering}
use Rattle.std.specs.Ordering.{nat_cmp, match_ordering}
use Rattle.std.specs.Cmp.Lexicographic.{slice_cmp}
use Rattle.std.specs.declared.cmp.Ordering.TheVariants.{Less, Equal, Greater}
use Rattle.nav_tree.proofs.Lists.{drop-slice_get}
use Rattle.tab_ids.specs.declared.NavId.{NavId}
use Rattle.nav_tree.specs.declared.node.Node.{Node}
use Rattle.nav_tree.specs.Tree.{Tree}
use Rattle.apply_plan.specs.Order.{parent_in, rest, way_cmp, way_in, keyed, sorted_in, made_in}

-- under the lists that the keys hold
pub keyed_insert : (entries : List (Vec ℕ × NavId)) (way : Vec ℕ) (nav : NavId) → keyed (insert_entry way_cmp entries way nav) ≡ insert_entry (slice_cmp nat_cmp) (keyed entries) way.items nav
keyed_insert [] way nav = refl
keyed_insert (e ∷ entries) way nav = by_order (way_cmp way e.0) (keyed_insert entries way nav)
  where
    by_order : (o : Ordering) → keyed (insert_entry way_cmp entries way nav) ≡ insert_entry (slice_cmp nat_cmp) (keyed entries) way.items nav → keyed (match_ordering o ((way, nav) ∷ e ∷ entries) ((e.0, nav) ∷ entries) (e ∷ insert_entry way_cmp entries way nav)) ≡ match_ordering o ((way.items, nav) ∷ keyed (e ∷ entries)) ((e.0.items, nav) ∷ keyed entries) ((e.0.items, e.1) ∷ insert_entry (slice_cmp nat_cmp) (keyed entries) way.items nav)
    by_order o more = elim o as (λ (o : Ordering). keyed (match_ordering o ((way, nav) ∷ e ∷ entries) ((e.0, nav) ∷ entries) (e ∷ insert_entry way_cmp entries way nav)) ≡ match_ordering o ((way.items, nav) ∷ keyed (e ∷ entries)) ((e.0.items, nav) ∷ keyed entries) ((e.0.items, e.1) ∷ insert_entry (slice_cmp nat_cmp) (keyed entries) way.items nav)) [ Less ↦ refl | Equal ↦ refl | Greater ↦ ap (λ (l : List (List ℕ × NavId)). (e.0.items, e.1) ∷ l) more ]

get_map : (navs : List (NavId × Node)) (i : ℕ) → slice_get (map (λ (e : NavId × Node). e.0) navs) i ≡ option_map (λ (e : NavId × Node). e.0) (slice_get navs i)
get_map [] i = refl
get_map (x ∷ navs) zero = refl
get_map (x ∷ navs) (suc i) = get_map navs i

get_key : (navs : List (NavId × Node)) (i : ℕ) (nav : NavId) → option_map (λ (e : NavId × Node). e.0) (slice_get navs i) ≡ Some nav → drop i (map (λ (e : NavId × Node). e.0) navs) ≡ nav ∷ drop (i + 1) (map (λ (e : NavId × Node). e.0) navs)
get_key navs i nav e = drop-slice_get (map (λ (e : NavId × Node). e.0) navs) i nav (get_map navs i ∙ e)

-- the navigable made at a place
pub made_at : (tree : Tree) (i : ℕ) (nav : NavId) → option_map (λ (e : NavId × Node). e.0) (slice_get tree.navs i) ≡ Some nav → drop i (made_in tree) ≡ nav ∷ drop (i + 1) (made_in tree)
made_at tree i nav at = get_key tree.navs i nav at

-- one more, from the back
pub sorted_more : (tree : Tree) (i : ℕ) (old new : List (Vec ℕ × NavId)) (way : Vec ℕ) (nav : NavId) → i < length tree.navs → option_map (λ (e : NavId × Node). e.0) (slice_get tree.navs (length tree.navs - 1 - i)) ≡ Some nav → way.items ≡ way_in tree nav → new ≡ insert_entry way_cmp old way nav → keyed old ≡ sorted_in tree (drop (length tree.navs - i) (made_in tree)) → keyed new ≡ sorted_in tree (drop (length tree.navs - (i + 1)) (made_in tree))
sorted_more tree i old new way nav low at way_is new_is was =
    let index : length tree.navs - (i + 1) ≡ length tree.navs - 1 - i = omega (arith, low) in
    let next : length tree.navs - 1 - i + 1 ≡ length tree.navs - i = omega (arith, low) in
    let parts : drop (length tree.navs - 1 - i) (made_in tree) ≡ nav ∷ drop (length tree.navs - i) (made_in tree) = get_key tree.navs (length tree.navs - 1 - i) nav at ∙ ap (λ (k : ℕ). nav ∷ drop k (made_in tree)) next in
    ap keyed new_is ∙ keyed_insert old way nav ∙ ap (λ (l : List (List ℕ × NavId)). insert_entry (slice_cmp nat_cmp) l way.items nav) was ∙ ap (λ (w : List ℕ). insert_entry (slice_cmp nat_cmp) (sorted_in tree (drop (length tree.navs - i) (made_in tree))) w nav) way_is ∙ ap (λ (l : List NavId). sorted_in tree l) (sym parts) ∙ ap (λ (k : ℕ). sorted_in tree (drop k (made_in tree))) (sym index)

pub values_keyed : (entries : List (Vec ℕ × NavId)) → map (λ (e : Vec ℕ × NavId). e.1) entries ≡ map (λ (e : List ℕ × NavId). e.1) (keyed entries)
values_keyed [] = refl
values_keyed (e ∷ entries) = ap (λ (l : List NavId). e.1 ∷ l) (values_keyed entries)

-- one more on the way up
pub up_one : (n i : ℕ) (tree : Tree) (nav parent : NavId) (way : List ℕ) → i < n → parent_in tree nav ≡ Some parent → way ++ rest (n - i) tree nav ≡ (way ++ parent.0 ∷ []) ++ rest (n - (i + 1)) tree parent
up_one n i tree nav parent way low is =
    let one : n - i ≡ suc (n - (i + 1)) = omega (arith, low) in
    ap (λ (k : ℕ). way ++ rest k tree nav) one ∙ rw is (sym (moved way parent.0 (rest (n - (i + 1)) tree parent)))
  where
    moved : (m : List ℕ) (x : ℕ) (acc : List ℕ) → (m ++ x ∷ []) ++ acc ≡ m ++ x ∷ acc
    moved [] x acc = refl
    moved (y ∷ m) x acc = ap (λ (k : List ℕ). y ∷ k) (moved m x acc)

pub up_none : (n : ℕ) (tree : Tree) (nav : NavId) → parent_in tree nav ≡ None → rest n tree nav ≡ []
up_none zero tree nav is = refl
up_none (suc n) tree nav is = rw is refl

pub append_none : (l : List ℕ) → l ++ [] ≡ l
append_none [] = refl
append_none (x ∷ l) = ap (λ (m : List ℕ). x ∷ m) (append_none l)
