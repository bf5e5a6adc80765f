use Rattle.tab_held.proofs.holding.rest_while_held.Given as goal
use Rattle.tab_held.specs.Holding.{held_cut}

abbrev pub ghost-clear_held : goal.ghost-clear_held
ghost-clear_held g a = g.h

abbrev pub ghost-tell_and_rest : goal.ghost-tell_and_rest
ghost-tell_and_rest g a =
    record {
      held = g.h;
      at = held_cut g.h.pass.event a.out.now a.tables.now.checks a.req;
    }
