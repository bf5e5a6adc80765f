-- The documents below a navigable, one navigable of the walk after the other.
use Rattle.nav_tree.proofs.Lists.{drop-slice_get}
use Rattle.nav_tree.specs.Tree.{Tree}
use Rattle.std.proofs.Common.{List, None, Some, [], ap, append_assoc, drop, filter_map, refl, sym, ℕ, ◌++◌, ◌+◌, ◌∙◌, ◌∷◌, ◌≡◌}
use Rattle.std.specs.Prelude.{slice_get}
use Rattle.tab_ids.specs.declared.DocId.{DocId}
use Rattle.tab_ids.specs.declared.NavId.{NavId}
use Rattle.tab_passes.specs.Sleepers.{doc_below}

pub below_more : (tree : Tree) (top : NavId) (docs : List DocId) (nav : NavId) (navs : List NavId) (i : ℕ) (doc : DocId) → slice_get navs i ≡ Some nav → doc_below tree top nav ≡ Some doc → docs ++ filter_map (doc_below tree top) (drop i navs) ≡ (docs ++ doc ∷ []) ++ filter_map (doc_below tree top) (drop (i + 1) navs)
below_more tree top docs nav navs i doc at has =
    ap (λ (l : List NavId). docs ++ filter_map (doc_below tree top) l) (drop-slice_get navs i nav at)
    ∙ rw has (sym (append_assoc docs (doc ∷ []) (filter_map (doc_below tree top) (drop (i + 1) navs))))

pub below_past : (tree : Tree) (top : NavId) (docs : List DocId) (nav : NavId) (navs : List NavId) (i : ℕ) → slice_get navs i ≡ Some nav → doc_below tree top nav ≡ None → docs ++ filter_map (doc_below tree top) (drop i navs) ≡ docs ++ filter_map (doc_below tree top) (drop (i + 1) navs)
below_past tree top docs nav navs i at none =
    ap (λ (l : List NavId). docs ++ filter_map (doc_below tree top) l) (drop-slice_get navs i nav at) ∙ rw none refl
