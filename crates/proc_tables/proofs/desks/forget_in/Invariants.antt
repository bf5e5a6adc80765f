use Rattle.std.proofs.Common.{◌≡◌}
use Rattle.log_model.specs.After.{desk_dropped}
use Rattle.proc_tables.proofs.DeskChanges.{changed_to}
use Rattle.proc_tables.proofs.desks.forget_in.Given as goal

abbrev pub invariant-loop-place : goal.invariant-loop-place
invariant-loop-place l = l.desks.entries ≡ changed_to (desk_dropped l.req) l.place l.fn.desks.entries
