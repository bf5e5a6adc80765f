use Rattle.std.proofs.Common.{refl, sym, ◌∙◌}
use Rattle.tab_loads.proofs.Calls.{asked_now, reason_is, refuse_now, refused_came, refused_ready}
use Rattle.tab_loads.proofs.loading.load.Goals as goal

pub refuse_load-requires : goal.refuse_load-requires
refuse_load-requires g c =
    (c.requires.1.1.0, refuse_now g.k.event c.args.tables.now c.args.queue.now c.args.blame.now.entries c.requires.1.1.1.1.1.0 c.requires.1.1.1.1.0 c.requires.1.0 c.args.req c.args.nav c.args.mode c.args.address.now c.requires.1.1.1.0 c.requires.1.1.1.1.1.1.0 c.requires.1.1.1.1.1.1.1.0 c.requires.1.1.1.1.1.1.1.1.0 _ (sym (reason_is g.k.event c.args.tables.now c.args.queue.now c.args.blame.now.entries c.requires.1.1.1.1.1.0 c.requires.1.1.1.1.0 c.requires.1.0 c.args.req c.args.nav c.args.mode c.args.address.now c.requires.1.1.1.0 c.requires.1.1.1.1.1.1.0 c.requires.1.1.1.1.1.1.1.0 c.requires.1.1.1.1.1.1.1.1.0) ∙ sym c.denial.ensures ∙ c.in-Some.is))

pub navigate-requires : goal.navigate-requires
navigate-requires g c =
    (c.requires.0, (asked_now g.k.event c.args.tables.now c.args.queue.now c.args.blame.now.entries c.requires.1.1.1.1.1.0 c.requires.1.1.1.1.0 c.requires.1.0 c.args.req c.args.nav c.args.mode c.args.address.now c.requires.1.1.1.0 c.requires.1.1.1.1.1.1.0 c.requires.1.1.1.1.1.1.1.0 c.requires.1.1.1.1.1.1.1.1.0 (sym (reason_is g.k.event c.args.tables.now c.args.queue.now c.args.blame.now.entries c.requires.1.1.1.1.1.0 c.requires.1.1.1.1.0 c.requires.1.0 c.args.req c.args.nav c.args.mode c.args.address.now c.requires.1.1.1.0 c.requires.1.1.1.1.1.1.0 c.requires.1.1.1.1.1.1.1.0 c.requires.1.1.1.1.1.1.1.1.0) ∙ sym c.denial.ensures ∙ c.in-None.is), (refl, (refl, (c.requires.1.1.0, (refl, (refl, (refl, (refl, c.requires.1.1.1.1.1.1.1.1.1)))))))))

pub returns-in_ok-refuse_load-in-Some-clause-came : goal.returns-in_ok-refuse_load-in-Some-clause-came
returns-in_ok-refuse_load-in-Some-clause-came g c =
    refused_came g.k.event c.args.tables.now c.args.queue.now c.args.blame.now.entries c.requires.1.1.1.1.1.0 c.requires.1.1.1.1.0 c.requires.1.0 c.args.req c.args.nav c.args.mode c.args.address.now c.requires.1.1.1.0 c.requires.1.1.1.1.1.1.0 c.requires.1.1.1.1.1.1.1.0 c.requires.1.1.1.1.1.1.1.1.0 _ (sym (reason_is g.k.event c.args.tables.now c.args.queue.now c.args.blame.now.entries c.requires.1.1.1.1.1.0 c.requires.1.1.1.1.0 c.requires.1.0 c.args.req c.args.nav c.args.mode c.args.address.now c.requires.1.1.1.0 c.requires.1.1.1.1.1.1.0 c.requires.1.1.1.1.1.1.1.0 c.requires.1.1.1.1.1.1.1.1.0) ∙ sym c.denial.ensures ∙ c.in-Some.is) _ c.in_ok-refuse_load-in-Some.ensures.out

pub returns-in_ok-refuse_load-in-Some-clause-ready : goal.returns-in_ok-refuse_load-in-Some-clause-ready
returns-in_ok-refuse_load-in-Some-clause-ready g c =
    refused_ready g.k.event c.args.tables.now c.args.queue.now c.args.blame.now.entries c.requires.1.1.1.1.1.0 c.requires.1.1.1.1.0 c.requires.1.0 c.args.req c.args.nav c.args.mode c.args.address.now c.requires.1.1.1.0 c.requires.1.1.1.1.1.1.0 c.requires.1.1.1.1.1.1.1.0 c.requires.1.1.1.1.1.1.1.1.0 _ (sym (reason_is g.k.event c.args.tables.now c.args.queue.now c.args.blame.now.entries c.requires.1.1.1.1.1.0 c.requires.1.1.1.1.0 c.requires.1.0 c.args.req c.args.nav c.args.mode c.args.address.now c.requires.1.1.1.0 c.requires.1.1.1.1.1.1.0 c.requires.1.1.1.1.1.1.1.0 c.requires.1.1.1.1.1.1.1.1.0) ∙ sym c.denial.ensures ∙ c.in-Some.is) _ c.in_ok-refuse_load-in-Some.ensures.out c.in_ok-refuse_load-in-Some.ensures.work
