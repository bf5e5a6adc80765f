use Rattle.tab_moves.proofs.showing.show_target.Given as goal

abbrev pub ghost-show : goal.ghost-show
ghost-show g a = record { event = g.m.pass.event; move = g.m.move }
