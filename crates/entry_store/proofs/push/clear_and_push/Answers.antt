use Rattle.entry_store.specs.Nested.{rows_of}
use Rattle.entry_store.proofs.PushLaw.{planned_fits, planned_same, planned_kept}
use Rattle.entry_store.proofs.push.clear_and_push.Goals as goal

pub returns-clause-kept : goal.returns-clause-kept
returns-clause-kept c =
    planned_kept c.args.lists.now c.requires.kept c.requires.room c.args.nav c.args.entry c.args.state c.args.address.now c.args.memo.now c.requires.may
    c.in_ok-plan.plan.place c.in_ok-plan.plan.row c.in_ok-plan.plan.left.states.keys c.in_ok-plan.plan.left.steps.keys c.in_ok-plan.ensures.ok
    (rows_of c.put_row.new.nests.items) (rows_of c.sweep.new.nests.items) c.in_ok-put_row.ensures.ok c.sweep.ensures

pub returns-clause-fits : goal.returns-clause-fits
returns-clause-fits c =
    planned_fits c.args.lists.now c.requires.kept c.requires.room c.args.nav c.args.entry c.args.state c.args.address.now c.args.memo.now c.requires.may
    c.in_ok-plan.plan.place c.in_ok-plan.plan.row c.in_ok-plan.plan.left.states.keys c.in_ok-plan.plan.left.steps.keys c.in_ok-plan.ensures.ok
    (rows_of c.put_row.new.nests.items) (rows_of c.sweep.new.nests.items) c.in_ok-put_row.ensures.ok c.sweep.ensures

pub returns-clause-ok : goal.returns-clause-ok
returns-clause-ok c =
    planned_same c.args.lists.now c.requires.kept c.requires.room c.args.nav c.args.entry c.args.state c.args.address.now c.args.memo.now c.requires.may
    c.in_ok-plan.plan.place c.in_ok-plan.plan.row c.in_ok-plan.plan.left.states.keys c.in_ok-plan.plan.left.steps.keys c.in_ok-plan.ensures.ok
    (rows_of c.put_row.new.nests.items) (rows_of c.sweep.new.nests.items) c.in_ok-put_row.ensures.ok c.sweep.ensures
