use Rattle.tab_takes.proofs.taking.take_judged.Given as goal

abbrev pub ghost-destroyed : goal.ghost-destroyed
ghost-destroyed g a = g.i

abbrev pub ghost-moved : goal.ghost-moved
ghost-moved g a = g.i

abbrev pub ghost-take_up : goal.ghost-take_up
ghost-take_up g a = g.i
