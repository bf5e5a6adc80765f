use Rattle.std.proofs.Common.{◌≡◌, ◌++◌, fold, map, take}
use Rattle.tab_ids.specs.declared.ProcId.{ProcId}
use Rattle.proc_tables.specs.Desks.{desk_at, desk_noted}
use Rattle.world.specs.Notes.{endings_noted, row_with}
use Rattle.world.proofs.logging.log_work.Given as goal

abbrev pub invariant-loop-row : goal.invariant-loop-row
invariant-loop-row l = record {
  log : l.log ≡ l.fn.log ++ map (row_with l.event l.actor) (take l.row-index l.out);
  desks : (proc : ProcId) → desk_at l.desks proc ≡ fold (desk_noted proc) (desk_at l.fn.desks proc) (take l.row-index l.out);
  endings : l.endings.items ≡ fold endings_noted l.fn.endings.items (take l.row-index l.out);
}
