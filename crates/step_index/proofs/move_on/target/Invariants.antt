use Rattle.step_index.proofs.move_on.target.Given as goal

abbrev pub ghosts-blank_target : goal.ghosts-blank_target
ghosts-blank_target a = record { name = a.blank.name; parts = a.blank.parts }
