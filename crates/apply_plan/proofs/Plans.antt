-- One place further in the walk.
use Rattle.std.proofs.Common.{◌≡◌, ◌≢◌, ℕ, ◌+◌, true, false, List, [], ◌∷◌, ◌++◌, drop, filter_map, Some, None, refl, sym, ap, ◌∙◌, append_assoc}
use Rattle.std.specs.Prelude.{slice_get, option_map}
use Rattle.std.specs.List.{list_all}
use Rattle.std.proofs.lemmas.Bool.{eq-eqb, ne_eqb}
use Rattle.nav_tree.proofs.Lists.{drop-slice_get}
use Rattle.tab_ids.specs.declared.NavId.{NavId}
use Rattle.tab_ids.specs.declared.DocId.{DocId}
use Rattle.log_model.specs.declared.row.Row.{Row}
use Rattle.nav_tree.specs.declared.node.Node.{Node}
use Rattle.nav_tree.specs.Tree.{Tree}
use Rattle.apply_plan.specs.declared.need.Need.{Need}
use Rattle.apply_plan.specs.Needs.{need_of}
use Rattle.apply_plan.specs.Order.{made_in}
use Rattle.apply_plan.specs.Plans.{rest_after, first_need}
use Rattle.apply_plan.specs.Standing.{stands_if_wanted}
use Rattle.apply_plan.specs.Leaving.{leaving_of}
use Rattle.apply_plan.proofs.Walks.{made_at}

pub rest_here : (last nav : NavId) (navs : List NavId) (i : ℕ) → slice_get navs i ≡ Some nav → nav.0 ≡ last.0 → rest_after last (drop i navs) ≡ drop (i + 1) navs
rest_here last nav navs i at same = rw (drop-slice_get navs i nav at) (rw (eq-eqb nav.0 last.0 same) refl)

pub rest_past : (last nav : NavId) (navs : List NavId) (i : ℕ) → slice_get navs i ≡ Some nav → nav.0 ≢ last.0 → rest_after last (drop i navs) ≡ rest_after last (drop (i + 1) navs)
rest_past last nav navs i at other = rw (drop-slice_get navs i nav at) (rw (ne_eqb nav.0 last.0 other) refl)

-- one that doesn't stand, though it is to
pub stand_fails : (rows : List Row) (step : ℕ) (tree : Tree) (nav : NavId) (i : ℕ) → option_map (λ (e : NavId × Node). e.0) (slice_get tree.navs i) ≡ Some nav → stands_if_wanted rows step tree nav ≡ false → list_all (stands_if_wanted rows step tree) (drop i (made_in tree)) ≡ false
stand_fails rows step tree nav i at fails = ap (list_all (stands_if_wanted rows step tree)) (made_at tree i nav at) ∙ rw fails refl

-- one that stands, or isn't to
pub stand_past : (rows : List Row) (step : ℕ) (tree : Tree) (nav : NavId) (i : ℕ) → option_map (λ (e : NavId × Node). e.0) (slice_get tree.navs i) ≡ Some nav → stands_if_wanted rows step tree nav ≡ true → list_all (stands_if_wanted rows step tree) (drop i (made_in tree)) ≡ list_all (stands_if_wanted rows step tree) (drop (i + 1) (made_in tree))
stand_past rows step tree nav i at stands = ap (list_all (stands_if_wanted rows step tree)) (made_at tree i nav at) ∙ rw stands refl

-- one that leaves its document
pub leave_more : (rows : List Row) (step : ℕ) (tree : Tree) (docs : List DocId) (nav : NavId) (navs : List NavId) (i : ℕ) (doc : DocId) → slice_get navs i ≡ Some nav → leaving_of rows step tree nav ≡ Some doc → docs ++ filter_map (leaving_of rows step tree) (drop i navs) ≡ (docs ++ doc ∷ []) ++ filter_map (leaving_of rows step tree) (drop (i + 1) navs)
leave_more rows step tree docs nav navs i doc at leaves =
    ap (λ l. docs ++ filter_map (leaving_of rows step tree) l) (drop-slice_get navs i nav at)
    ∙ rw leaves (sym (append_assoc docs (doc ∷ []) (filter_map (leaving_of rows step tree) (drop (i + 1) navs))))

-- one that leaves none
pub leave_past : (rows : List Row) (step : ℕ) (tree : Tree) (docs : List DocId) (nav : NavId) (navs : List NavId) (i : ℕ) → slice_get navs i ≡ Some nav → leaving_of rows step tree nav ≡ None → docs ++ filter_map (leaving_of rows step tree) (drop i navs) ≡ docs ++ filter_map (leaving_of rows step tree) (drop (i + 1) navs)
leave_past rows step tree docs nav navs i at stays =
    ap (λ l. docs ++ filter_map (leaving_of rows step tree) l) (drop-slice_get navs i nav at) ∙ rw stays refl

pub need_here : (rows : List Row) (step : ℕ) (tree : Tree) (nav : NavId) (navs : List NavId) (i : ℕ) (need : Need) → slice_get navs i ≡ Some nav → need_of rows step tree nav ≡ Some need → first_need rows step tree (drop i navs) ≡ Some need
need_here rows step tree nav navs i need at is = rw (drop-slice_get navs i nav at) (rw is refl)

pub need_past : (rows : List Row) (step : ℕ) (tree : Tree) (nav : NavId) (navs : List NavId) (i : ℕ) → slice_get navs i ≡ Some nav → need_of rows step tree nav ≡ None → first_need rows step tree (drop i navs) ≡ first_need rows step tree (drop (i + 1) navs)
need_past rows step tree nav navs i at is = rw (drop-slice_get navs i nav at) (rw is refl)
