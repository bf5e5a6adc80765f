use Rattle.entry_store.specs.declared.nest.Nest.{Nest}
use Rattle.std.proofs.Common.{ap, ◌∙◌, ◌++◌, ◌∷◌, []}
use Rattle.entry_store.proofs.Placing.{same_rows, row_put, OnErr-any}
use Rattle.entry_store.proofs.append.append_row.Goals as goal

pub returns-in_err-reserve-clause-err : goal.returns-in_err-reserve-clause-err
returns-in_err-reserve-clause-err c =
    let new : Nest = record { rows = c.reserve.new.self } in
    OnErr-any c.from_residual.result (same_rows c.args.nests.now.items c.args.place c.index_mut-nest.result.now new c.requires c.index_mut-nest.ensures.value c.reserve.ensures.items)

pub returns-in_err-insert-clause-err : goal.returns-in_err-insert-clause-err
returns-in_err-insert-clause-err c =
    let new : Nest = record { rows = c.reserve.new.self } in
    OnErr-any c.from_residual-in_err-insert.result (same_rows c.args.nests.now.items c.args.place c.index_mut-nest.result.now new c.requires c.index_mut-nest.ensures.value c.reserve.ensures.items)

pub returns-clause-ok : goal.returns-clause-ok
returns-clause-ok c =
    let new : Nest = record { rows = c.push.new.self } in
    row_put c.args.nests.now.items c.args.place c.index_mut-nest.result.now new c.args.row c.requires c.index_mut-nest.ensures.value
    (c.in_ok-push.ensures.items ∙ ap (λ rows. rows ++ c.args.row ∷ []) c.reserve.ensures.items)
