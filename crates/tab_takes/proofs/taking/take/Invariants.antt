use Rattle.tab_takes.proofs.taking.take.Given as goal

abbrev pub ghost-take_judged : goal.ghost-take_judged
ghost-take_judged g a = record { pass = g.p; noted = a.blame.now.entries }
