use Rattle.entry_store.specs.declared.nest.Nest.{Nest}
use Rattle.entry_store.proofs.Placing.{same_rows, row_put, OnErr-any}
use Rattle.entry_store.proofs.place.put_row.Goals as goal

pub returns-in_err-push-clause-err : goal.returns-in_err-push-clause-err
returns-in_err-push-clause-err c =
    let new : Nest = record { rows = c.push.new.self } in
    OnErr-any c.from_residual.result (same_rows c.args.nests.now.items c.args.place c.index_mut-nest.result.now new c.requires c.index_mut-nest.ensures.value c.in_err-push.ensures.items)

pub returns-clause-ok : goal.returns-clause-ok
returns-clause-ok c =
    let new : Nest = record { rows = c.push.new.self } in
    row_put c.args.nests.now.items c.args.place c.index_mut-nest.result.now new c.args.row c.requires c.index_mut-nest.ensures.value c.in_ok-push.ensures.items
