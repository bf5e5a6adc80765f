use Rattle.tab_loads.proofs.loading.navigate.Given as goal

abbrev pub ghost-cut_off : goal.ghost-cut_off
ghost-cut_off g a = g.l

abbrev pub ghost-to_fragment : goal.ghost-to_fragment
ghost-to_fragment g a = g.l

abbrev pub ghost-begin : goal.ghost-begin
ghost-begin g a = g.l
