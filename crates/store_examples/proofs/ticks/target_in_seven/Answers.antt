use Rattle.std.proofs.Common.{◌-◌, arith, length, filter}
use Rattle.log_model.specs.History.{is_of}
use Rattle.step_index.specs.Held.{history_held}
use Rattle.store_examples.proofs.Doubling.{three_at_most}
use Rattle.store_examples.proofs.ticks.target_in_seven.Goals as goal

pub returns : goal.returns
returns g c seven =
    let used = c.target_counted.ensures in
    omega (arith, used.counted, three_at_most (c.target_counted.new.steps - c.args.steps.now) (length (filter (is_of (record { 0 = 0 })) (history_held c.args.store.now).rows)) used.cost seven)
