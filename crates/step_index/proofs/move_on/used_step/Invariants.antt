use Rattle.step_index.proofs.move_on.used_step.Given as goal

abbrev pub ghosts-blank_step : goal.ghosts-blank_step
ghosts-blank_step a = record { name = a.blank.name; parts = a.blank.parts }
