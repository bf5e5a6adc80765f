use Rattle.tab_begins.proofs.traversing.take_traversal.Given as goal

abbrev pub ghost-begin_traversal : goal.ghost-begin_traversal
ghost-begin_traversal g a = g.p
