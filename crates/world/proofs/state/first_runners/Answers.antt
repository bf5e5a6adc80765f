use Rattle.log_model.specs.declared.row_kind.Actor.TheVariants as actors
use Rattle.running_table.proofs.ForCallers.{nothing_told, opened_told}
use Rattle.running_table.specs.Runners.{none_there}
use Rattle.std.proofs.Common.{None, refl}
use Rattle.world.proofs.state.first_runners.Goals as goal

pub returns : goal.returns
returns c address proc =
    opened_told 0 actors.Start (record { maker = 0; nr = 1 }) (record { 0 = 1 }) (record { 0 = 1 }) proc None address none_there _ _ refl nothing_told (rw c.new-runners.ensures at c.in_ok-place.ensures.ok) c.in_ok-show.ensures.ok
