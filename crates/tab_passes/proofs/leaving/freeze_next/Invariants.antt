use Rattle.std.proofs.Common.{Some}
use Rattle.tab_passes.proofs.leaving.freeze_next.Given as goal

abbrev pub ghost-freeze : goal.ghost-freeze
ghost-freeze g a = record { pass = g.n.freezing.pass; move = Some g.n.freezing.move; docs = g.n.left }
