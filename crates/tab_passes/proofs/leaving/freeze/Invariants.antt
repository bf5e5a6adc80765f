use Rattle.tab_passes.proofs.leaving.freeze.Given as goal

abbrev pub ghost-freeze : goal.ghost-freeze
ghost-freeze g a = record { event = g.l.pass.event; move = g.l.move }
