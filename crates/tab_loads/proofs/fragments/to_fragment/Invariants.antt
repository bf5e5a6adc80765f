use Rattle.tab_loads.proofs.fragments.to_fragment.Given as goal

abbrev pub ghost-send_fragment : goal.ghost-send_fragment
ghost-send_fragment g a = g.l.event
