use Rattle.tab_loads.proofs.loading.load.Given as goal

abbrev pub ghost-refuse_load : goal.ghost-refuse_load
ghost-refuse_load g a = g.k.event

abbrev pub ghost-navigate : goal.ghost-navigate
ghost-navigate g a =
    record { event = g.k.event; loads = g.k.check.loads; req = a.req; nav = a.nav; mode = a.mode; address = a.address.now; queue = a.queue.now; noted = a.blame.now.entries }
