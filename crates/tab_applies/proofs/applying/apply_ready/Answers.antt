use Rattle.seen_facts.specs.Each.Runs.{is_this}
use Rattle.std.proofs.Common.{Option, ap, refl}
use Rattle.tab_applies.proofs.Dones.{apply_passing, has_applied}
use Rattle.tab_applies.proofs.Dues.{apply_due, few_entries, given_some, given_there, may_change, no_maker, sees_rows}
use Rattle.tab_applies.proofs.applying.apply_ready.Goals as goal
use Rattle.tab_ids.specs.declared.ReqId.{ReqId}

pub given_there-over-requires : goal.given_there-over-requires
given_there-over-requires g c = given_some g.r.pass _ _ c.requires.0 _ g.r.load c.requires.1.0 c.requires.1.1.0 c.requires.1.1.1

pub apply_load-requires : goal.apply_load-requires
apply_load-requires g c =
    let over = given_there g.r.pass _ _ c.requires.0 _ g.r.load c.requires.1.0 c.requires.1.1.0 c.requires.1.1.1 _ c.given_there-over.ensures in
    (c.requires.0.work, (c.requires.1.0, (refl, (apply_due g.r.pass _ _ c.requires.0 _ g.r.load c.requires.1.0 c.requires.1.1.0 c.requires.1.1.1 _ over, (may_change g.r.pass _ _ c.requires.0 _ g.r.load c.requires.1.0 c.requires.1.1.0 c.requires.1.1.1 _ over, (sees_rows g.r.pass _ _ c.requires.0 _ g.r.load c.requires.1.0 c.requires.1.1.0 c.requires.1.1.1 _ over, (no_maker g.r.pass _ _ c.requires.0 _ g.r.load c.requires.1.0 c.requires.1.1.0 c.requires.1.1.1 _ over, (ap (λ (r : Option ReqId). is_this r g.r.load.req) c.requires.1.1.0, (few_entries g.r.pass _ _ c.requires.0 _ g.r.load c.requires.1.0 c.requires.1.1.0 c.requires.1.1.1 _ over, c.requires.1.1.1.free)))))))))

pub returns-clause-passing : goal.returns-clause-passing
returns-clause-passing g c =
    let over = given_there g.r.pass _ _ c.requires.0 _ g.r.load c.requires.1.0 c.requires.1.1.0 c.requires.1.1.1 _ c.given_there-over.ensures in
    apply_passing g.r.pass _ _ c.requires.0 _ g.r.load c.requires.1.0 c.requires.1.1.0 c.requires.1.1.1 _ over _ _ c.in_ok-apply_load.ensures.out c.in_ok-apply_load.ensures.work c.in_ok-apply_load.ensures.kept

pub returns-clause-applied : goal.returns-clause-applied
returns-clause-applied g c =
    let over = given_there g.r.pass _ _ c.requires.0 _ g.r.load c.requires.1.0 c.requires.1.1.0 c.requires.1.1.1 _ c.given_there-over.ensures in
    has_applied g.r.pass _ _ c.requires.0 _ g.r.load c.requires.1.0 c.requires.1.1.0 c.requires.1.1.1 _ over _ _ c.in_ok-apply_load.ensures.out c.in_ok-apply_load.ensures.work c.in_ok-apply_load.ensures.kept
