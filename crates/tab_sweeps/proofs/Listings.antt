-- The stray documents of a list, one document after the other.
use Rattle.nav_tree.proofs.Lists.{drop-slice_get}
use Rattle.std.proofs.Common.{Bool, List, None, Option, Some, [], ap, append_assoc, cond, drop, filter, sym, ℕ, ◌++◌, ◌+◌, ◌∙◌, ◌∷◌, ◌≡◌}
use Rattle.std.specs.Prelude.{is_some, slice_get}
use Rattle.tab_doors.specs.declared.tables.Tables.{Tables}
use Rattle.tab_ids.specs.declared.DocId.{DocId}
use Rattle.tab_ids.specs.declared.StateId.{StateId}
use Rattle.tab_sweeps.specs.Sweeping.{is_stray_in, stray_in}

pub stray_more : (t : Tables) (strays : List DocId) (doc : DocId) (docs : List DocId) (i : ℕ) (state : StateId) → slice_get docs i ≡ Some doc → stray_in t doc ≡ Some state → strays ++ filter (is_stray_in t) (drop i docs) ≡ (strays ++ doc ∷ []) ++ filter (is_stray_in t) (drop (i + 1) docs)
stray_more t strays doc docs i state at is =
    ap (λ (l : List DocId). strays ++ filter (is_stray_in t) l) (drop-slice_get docs i doc at)
    ∙ ap (λ (b : Bool). let l : List DocId = cond b (doc ∷ filter (is_stray_in t) (drop (i + 1) docs)) (filter (is_stray_in t) (drop (i + 1) docs)) in strays ++ l) (ap (λ (o : Option StateId). is_some o) is)
    ∙ sym (append_assoc strays (doc ∷ []) (filter (is_stray_in t) (drop (i + 1) docs)))

pub stray_past : (t : Tables) (strays : List DocId) (doc : DocId) (docs : List DocId) (i : ℕ) → slice_get docs i ≡ Some doc → stray_in t doc ≡ None → strays ++ filter (is_stray_in t) (drop i docs) ≡ strays ++ filter (is_stray_in t) (drop (i + 1) docs)
stray_past t strays doc docs i at none =
    ap (λ (l : List DocId). strays ++ filter (is_stray_in t) l) (drop-slice_get docs i doc at)
    ∙ ap (λ (b : Bool). let l : List DocId = cond b (doc ∷ filter (is_stray_in t) (drop (i + 1) docs)) (filter (is_stray_in t) (drop (i + 1) docs)) in strays ++ l) (ap (λ (o : Option StateId). is_some o) none)
