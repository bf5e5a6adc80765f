use Rattle.step_index.proofs.search.uncounted_upto.Given as goal

abbrev pub ghosts-blank_upto : goal.ghosts-blank_upto
ghosts-blank_upto g a = record { name = a.blank.name; parts = a.blank.parts }
