use Rattle.std.proofs.Common.{Some, []}
use Rattle.tab_moves.proofs.leaving.freeze_left.Given as goal

abbrev pub ghost-freeze : goal.ghost-freeze
ghost-freeze g a = record { pass = g.l.moving.pass; move = Some g.l.moving.move; docs = [] }

abbrev pub ghost-freeze_each : goal.ghost-freeze_each
ghost-freeze_each g a =
    record {
      freezing = record { pass = g.l.moving.pass; move = g.l.moving.move; nav = g.l.nav; cause = g.l.moving.cause };
      left = g.l.left;
      docs = [];
    }
