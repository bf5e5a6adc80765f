-- As an event begins no traversal was applied in it.
use Rattle.log_model.specs.Queue.{is_traverse}
use Rattle.log_model.specs.declared.row_kind.RowKind.{RowKind}
use Rattle.row_facts.specs.FrameRows.Lawful.{has_traversed}
use Rattle.seen_laws.specs.InEvent.{InEvent, row_of}
use Rattle.std.proofs.Common.{List, [], ap, false, map, sym, true, ◌++◌, ◌∙◌, ◌≡◌}
use Rattle.std.specs.List.{list_any}

pub none_applied : (e : InEvent) → e.before ≡ [] → has_traversed e [] ≡ true → ⊥
none_applied e uncut has =
    let never : false ≡ true = sym (ap (λ (l : List RowKind). list_any is_traverse (map (row_of e) l ++ [])) uncut) ∙ has in cc
