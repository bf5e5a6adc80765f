use Rattle.std.proofs.Common.{◌≡◌, ◌++◌, take}
use Rattle.std.specs.Prelude.{flat_map}
use Rattle.log_model.specs.Logs.{seen_of}
use Rattle.report_text.specs.Reports.{shown_line}
use Rattle.report_text.proofs.writing.put_navs.Given as goal

abbrev pub invariant-loop-row : goal.invariant-loop-row
invariant-loop-row l = l.out.items ≡ l.fn.out.items ++ flat_map (shown_line (seen_of l.world.log)) (take l.row-index l.rows)
