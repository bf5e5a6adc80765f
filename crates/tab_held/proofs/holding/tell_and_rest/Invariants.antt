use Rattle.tab_held.proofs.holding.tell_and_rest.Given as goal

abbrev pub ghost-rest_held : goal.ghost-rest_held
ghost-rest_held g a = record g.c.held { pass = record g.c.held.pass { event = g.c.at } }
