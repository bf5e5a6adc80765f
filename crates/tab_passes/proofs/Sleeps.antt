-- What the loops over the navigables find.
use Rattle.apply_plan.proofs.Walks.{made_at, up_none}  -- keep
use Rattle.std.proofs.Common.{drop_of_length-le}  -- keep
use Rattle.apply_plan.specs.Order.{made_in, parent_in, rest}
use Rattle.nav_tree.specs.Tree.{Tree}
use Rattle.nav_tree.specs.declared.node.Node.{Node}
use Rattle.tab_passes.specs.Sleepers.{falls_below, wakes_on}
use Rattle.std.proofs.Common.{Bool, List, None, Some, [], ap, append_assoc, arith, drop, false, length, refl, suc, sym, true, ℕ, ◌++◌, ◌+◌, ◌-◌, ◌<◌, ◌==◌, ◌||◌, ◌∙◌, ◌∷◌, ◌≡◌, ◌≤◌}
use Rattle.std.proofs.lemmas.List.{length-map}
use Rattle.std.specs.List.{list_any}
use Rattle.std.specs.Prelude.{filter, find, option_map, slice_get}
use Rattle.tab_ids.specs.declared.DocId.{DocId}
use Rattle.tab_ids.specs.declared.NavId.{NavId}

-- ---- who is awake on a document

pub wakes_here : (tree : Tree) (doc : DocId) (nav : NavId) (i : ℕ) → option_map (λ (e : NavId × Node). e.0) (slice_get tree.navs i) ≡ Some nav → wakes_on tree doc nav ≡ true → find (wakes_on tree doc) (drop i (made_in tree)) ≡ Some nav
wakes_here tree doc nav i at wakes = ap (find (wakes_on tree doc)) (made_at tree i nav at) ∙ rw wakes refl

pub wakes_past : (tree : Tree) (doc : DocId) (nav : NavId) (i : ℕ) → option_map (λ (e : NavId × Node). e.0) (slice_get tree.navs i) ≡ Some nav → wakes_on tree doc nav ≡ false → find (wakes_on tree doc) (drop i (made_in tree)) ≡ find (wakes_on tree doc) (drop (i + 1) (made_in tree))
wakes_past tree doc nav i at sleeps = ap (find (wakes_on tree doc)) (made_at tree i nav at) ∙ rw sleeps refl

pub wakes_end : (tree : Tree) (doc : DocId) (i : ℕ) → length tree.navs ≤ i → find (wakes_on tree doc) (drop i (made_in tree)) ≡ None
wakes_end tree doc i past =
    let same : length (made_in tree) ≡ length tree.navs = length-map tree.navs (λ (e : NavId × Node). e.0) in
    let all : length (made_in tree) ≤ i = omega (arith, past, same) in
    ap (find (wakes_on tree doc)) (drop_of_length-le (made_in tree) all)

-- ---- who is below

abbrev pub has_number : NavId → List ℕ → Bool
has_number top numbers = list_any (λ (n : ℕ). n == top.0) numbers

pub up_more : (n i : ℕ) (tree : Tree) (top nav parent : NavId) → i < n → parent_in tree nav ≡ Some parent → has_number top (rest (n - i) tree nav) ≡ (parent.0 == top.0 || has_number top (rest (n - (i + 1)) tree parent))
up_more n i tree top nav parent low is =
    let one : n - i ≡ suc (n - (i + 1)) = omega (arith, low) in
    ap (λ (k : ℕ). has_number top (rest k tree nav)) one ∙ rw is refl

pub up_past : (n i : ℕ) (tree : Tree) (top nav parent : NavId) → i < n → parent_in tree nav ≡ Some parent → (parent.0 == top.0) ≡ false → has_number top (rest (n - i) tree nav) ≡ has_number top (rest (n - (i + 1)) tree parent)
up_past n i tree top nav parent low is apart = up_more n i tree top nav parent low is ∙ rw apart refl

pub up_ends : (n : ℕ) (tree : Tree) (top nav : NavId) → parent_in tree nav ≡ None → has_number top (rest n tree nav) ≡ false
up_ends n tree top nav is = ap (has_number top) (up_none n tree nav is)

pub up_over : (n i : ℕ) (tree : Tree) (top nav : NavId) → n ≤ i → has_number top (rest (n - i) tree nav) ≡ false
up_over n i tree top nav past =
    let none : n - i ≡ 0 = omega (arith, past) in
    ap (λ (k : ℕ). has_number top (rest k tree nav)) none

-- ---- who falls asleep

pub falls_more : (tree : Tree) (top nav : NavId) (before : List NavId) (i : ℕ) → option_map (λ (e : NavId × Node). e.0) (slice_get tree.navs i) ≡ Some nav → falls_below tree top nav ≡ true → before ++ filter (falls_below tree top) (drop i (made_in tree)) ≡ (before ++ nav ∷ []) ++ filter (falls_below tree top) (drop (i + 1) (made_in tree))
falls_more tree top nav before i at falls =
    ap (λ (l : List NavId). before ++ filter (falls_below tree top) l) (made_at tree i nav at) ∙ rw falls (sym (append_assoc before (nav ∷ []) (filter (falls_below tree top) (drop (i + 1) (made_in tree)))))

pub falls_past : (tree : Tree) (top nav : NavId) (before : List NavId) (i : ℕ) → option_map (λ (e : NavId × Node). e.0) (slice_get tree.navs i) ≡ Some nav → falls_below tree top nav ≡ false → before ++ filter (falls_below tree top) (drop i (made_in tree)) ≡ before ++ filter (falls_below tree top) (drop (i + 1) (made_in tree))
falls_past tree top nav before i at stays =
    ap (λ (l : List NavId). before ++ filter (falls_below tree top) l) (made_at tree i nav at) ∙ rw stays refl
