use Rattle.tab_passes.proofs.leaving.freeze_at.Given as goal

abbrev pub ghost-freeze_next : goal.ghost-freeze_next
ghost-freeze_next g a = g.n.next
