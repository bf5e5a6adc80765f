use Rattle.coord.proofs.Ended.{settled_acts}
use Rattle.coord.proofs.coordinator.Coordinator.settle.Goals as goal
use Rattle.seen_laws.specs.InEvent.{log_of}
use Rattle.std.proofs.Common.{Bool, [], ap, false, refl}
use Rattle.tab_doors.proofs.Works.{none_steps}
use Rattle.tab_doors.specs.Working.{MayDiscardIn}
use Rattle.tab_ids.specs.declared.ReqId.{ReqId}

pub settle-requires : goal.settle-requires
settle-requires g c =
    let free : MayDiscardIn false g.e = none_steps g.e.checking (λ req. ap (λ (f : ReqId → Bool). f req) c.requires.unchecked) (log_of g.e []) in
    (c.requires.header, (c.requires.ready, (c.requires.slots, free)))

pub returns-clause-acted : goal.returns-clause-acted
returns-clause-acted g c =
    settled_acts g.e c.args.out.now _ c.args.self.now _ _ _ c.requires refl refl c.in_ok-settle.ensures.settled c.in_ok-settle.ensures.due c.in_ok-settle.ensures.put c.in_ok-settle.ensures.off
