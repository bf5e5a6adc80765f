use Rattle.tab_begins.proofs.nexting.begin_next.Given as goal
use Rattle.tab_begins.specs.Queueing.{load_in}

abbrev pub ghost-take_traversal : goal.ghost-take_traversal
ghost-take_traversal g a = g.p

abbrev pub ghost-take_load : goal.ghost-take_load
ghost-take_load g a = record { pass = g.p; load = load_in a.tables.now.loads a.nav a.req }
