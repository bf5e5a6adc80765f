use Rattle.std.proofs.Common.{Option, ap, is_some, sym, ◌∙◌}
use Rattle.tab_doors.proofs.Readied.{readied, unreadied}
use Rattle.tab_doors.proofs.notes.make_ready.Goals as goal
use Rattle.tab_ids.specs.declared.ReqId.{ReqId}

pub returns-then-is_some : goal.returns-then-is_some
returns-then-is_some c =
    c.ready.ensures.ready
    ∙ readied c.args.nav c.args.doc c.args.loads.now c.requires (ap (λ (o : Option ReqId). is_some o) (sym c.waiting_for.ensures.req) ∙ sym c.if-is_some.ensures)

pub returns-else-is_some : goal.returns-else-is_some
returns-else-is_some c =
    unreadied c.args.nav c.args.doc c.args.loads.now c.requires c.waiting_for.ensures.one_each (ap (λ (o : Option ReqId). is_some o) (sym c.waiting_for.ensures.req) ∙ sym c.if-is_some.ensures)
