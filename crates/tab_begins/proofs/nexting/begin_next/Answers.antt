use mir.Syntax.{w32}
use mir.Val.{SFits}
use Rattle.std.proofs.Common.{ap, inl, refl, rules, sym, ◌∙◌}
use Rattle.std.proofs.lemmas.Int.{to_z-of_z}
use Rattle.tab_begins.proofs.InNeed.{load_need, need_none, traverse_need}
use Rattle.tab_begins.proofs.Nexts.{due_fewer, due_first, first_from, first_queue, none_queue, stand_here, undue_none}
use Rattle.tab_begins.proofs.Turns.{after_applied, after_refused, begun_came, grown_none, load_asks, load_grown, load_live, made_same, no_reload, taken_queue_then, traverse_asks, traverse_calm, traverse_goes, traverse_grown, traverse_live, traverse_made, traverse_over, traverse_queue}
use Rattle.tab_begins.proofs.Asks.{may_go, put_front, put_queue, to_ask}
use Rattle.tab_begins.proofs.nexting.begin_next.Goals as goal
use Rattle.tab_begins.specs.Queueing.{is_due_in}

pub returns-then-not-stand_at-clause-came : goal.returns-then-not-stand_at-clause-came
returns-then-not-stand_at-clause-came g c =
    record { out = refl; tables = refl; noted = refl; why = inl (sym (stand_here g.p _ _ c.requires.0 _ c.current-current.ensures _ c.stand_at.ensures) ∙ c.if-not-stand_at.true) }

pub returns-in_default-clause-queued : goal.returns-in_default-clause-queued
returns-in_default-clause-queued g c =
    none_queue g.p _ _ c.requires.0 c.requires.1.0 (sym (stand_here g.p _ _ c.requires.0 _ c.current-current.ensures _ c.stand_at.ensures) ∙ c.if-not-stand_at.false) c.requires.1.1.0 _ c.requires.1.1.1.0 _ _ c.requires.1.1.1.1.0 (undue_none _ _ c.in_default.ensures.none) c.in_default.ensures.empty

pub take_traversal-requires : goal.take_traversal-requires
take_traversal-requires g c =
    let fits : SFits w32 c.in-Traverse.delta = search rules in
    traverse_goes g.p _ _ c.requires.0 c.requires.1.0 (sym (stand_here g.p _ _ c.requires.0 _ c.current-current.ensures _ c.stand_at.ensures) ∙ c.if-not-stand_at.false) c.requires.1.1.0 _ c.requires.1.1.1.0 _ _ (first_queue g.p _ _ c.requires.0 c.requires.1.0 (sym (stand_here g.p _ _ c.requires.0 _ c.current-current.ensures _ c.stand_at.ensures) ∙ c.if-not-stand_at.false) c.requires.1.1.0 _ c.requires.1.1.1.0 _ c.requires.1.1.1.1.0 _ _ (first_from _ _ _ _ c.in-Some.ensures.next)) _ _ c.in-Traverse.is _ (to_z-of_z w32 c.in-Traverse.delta fits)
    (may_go g.p _ _ c.requires.0 c.args.slots.now.entries c.requires.1.1.1.1.1 _ _ (traverse_asks g.p _ _ c.requires.0 c.requires.1.0 (sym (stand_here g.p _ _ c.requires.0 _ c.current-current.ensures _ c.stand_at.ensures) ∙ c.if-not-stand_at.false) c.requires.1.1.0 _ c.requires.1.1.1.0 _ _ (first_queue g.p _ _ c.requires.0 c.requires.1.0 (sym (stand_here g.p _ _ c.requires.0 _ c.current-current.ensures _ c.stand_at.ensures) ∙ c.if-not-stand_at.false) c.requires.1.1.0 _ c.requires.1.1.1.0 _ c.requires.1.1.1.1.0 _ _ (first_from _ _ _ _ c.in-Some.ensures.next)) _ _ c.in-Traverse.is _ (to_z-of_z w32 c.in-Traverse.delta fits)).1.1.1.0 _ c.in_ok-asks_somebody-in-Traverse.ensures c.if-branch.false)

pub take_load-requires : goal.take_load-requires
take_load-requires g c =
    load_asks g.p _ _ c.requires.0 c.requires.1.0 (sym (stand_here g.p _ _ c.requires.0 _ c.current-current.ensures _ c.stand_at.ensures) ∙ c.if-not-stand_at.false) c.requires.1.1.0 _ c.requires.1.1.1.0 _ _ (first_queue g.p _ _ c.requires.0 c.requires.1.0 (sym (stand_here g.p _ _ c.requires.0 _ c.current-current.ensures _ c.stand_at.ensures) ∙ c.if-not-stand_at.false) c.requires.1.1.0 _ c.requires.1.1.1.0 _ c.requires.1.1.1.1.0 _ _ (first_from _ _ _ _ c.in-Some.ensures.next)) _ _ c.in-Ready.is (sym (ap (is_due_in c.args.tables.now.loads) c.in-Ready.is) ∙ due_first _ _ _ _ (first_from _ _ _ _ c.in-Some.ensures.next))

pub unreachable-requires : goal.unreachable-requires
unreachable-requires g c =
    no_reload g.p _ _ c.requires.0 c.requires.1.0 (sym (stand_here g.p _ _ c.requires.0 _ c.current-current.ensures _ c.stand_at.ensures) ∙ c.if-not-stand_at.false) c.requires.1.1.0 _ c.requires.1.1.1.0 _ _ (first_queue g.p _ _ c.requires.0 c.requires.1.0 (sym (stand_here g.p _ _ c.requires.0 _ c.current-current.ensures _ c.stand_at.ensures) ∙ c.if-not-stand_at.false) c.requires.1.1.0 _ c.requires.1.1.1.0 _ c.requires.1.1.1.1.0 _ _ (first_from _ _ _ _ c.in-Some.ensures.next)) _ _ c.in-Reload.is

pub returns-in-Some-running-clause-queued : goal.returns-in-Some-running-clause-queued
returns-in-Some-running-clause-queued g c =
    let fits : SFits w32 c.in-Traverse.delta = search rules in
    traverse_queue g.p _ _ c.requires.0 c.requires.1.0 (sym (stand_here g.p _ _ c.requires.0 _ c.current-current.ensures _ c.stand_at.ensures) ∙ c.if-not-stand_at.false) c.requires.1.1.0 _ c.requires.1.1.1.0 _ _ (first_queue g.p _ _ c.requires.0 c.requires.1.0 (sym (stand_here g.p _ _ c.requires.0 _ c.current-current.ensures _ c.stand_at.ensures) ∙ c.if-not-stand_at.false) c.requires.1.1.0 _ c.requires.1.1.1.0 _ c.requires.1.1.1.1.0 _ _ (first_from _ _ _ _ c.in-Some.ensures.next)) _ _ c.in-Traverse.is _ (to_z-of_z w32 c.in-Traverse.delta fits) _ _ c.in_ok-take_traversal-in-Traverse.ensures.gone c.in_ok-take_traversal-in-Traverse.ensures.loads

pub returns-in-Some-running-clause-came : goal.returns-in-Some-running-clause-came
returns-in-Some-running-clause-came g c =
    begun_came g.p _ _ c.requires.0 c.requires.1.0 (sym (stand_here g.p _ _ c.requires.0 _ c.current-current.ensures _ c.stand_at.ensures) ∙ c.if-not-stand_at.false) c.requires.1.1.0 _ c.requires.1.1.1.0 _ _ (first_queue g.p _ _ c.requires.0 c.requires.1.0 (sym (stand_here g.p _ _ c.requires.0 _ c.current-current.ensures _ c.stand_at.ensures) ∙ c.if-not-stand_at.false) c.requires.1.1.0 _ c.requires.1.1.1.0 _ c.requires.1.1.1.1.0 _ _ (first_from _ _ _ _ c.in-Some.ensures.next)) _ _ c.in_ok-take_traversal-in-Traverse.ensures.passing c.in_ok-take_traversal-in-Traverse.ensures.goes (traverse_calm g.p _ _ c.requires.0 c.requires.1.0 (sym (stand_here g.p _ _ c.requires.0 _ c.current-current.ensures _ c.stand_at.ensures) ∙ c.if-not-stand_at.false) c.requires.1.1.0 _ c.requires.1.1.1.0 _ _ (first_queue g.p _ _ c.requires.0 c.requires.1.0 (sym (stand_here g.p _ _ c.requires.0 _ c.current-current.ensures _ c.stand_at.ensures) ∙ c.if-not-stand_at.false) c.requires.1.1.0 _ c.requires.1.1.1.0 _ c.requires.1.1.1.1.0 _ _ (first_from _ _ _ _ c.in-Some.ensures.next)) _ _ _ _ c.in_ok-take_traversal-in-Traverse.ensures.gone) c.in_ok-take_traversal-in-Traverse.ensures.strays (traverse_live g.p _ _ c.requires.0 c.requires.1.0 (sym (stand_here g.p _ _ c.requires.0 _ c.current-current.ensures _ c.stand_at.ensures) ∙ c.if-not-stand_at.false) c.requires.1.1.0 _ c.requires.1.1.1.0 _ _ (first_queue g.p _ _ c.requires.0 c.requires.1.0 (sym (stand_here g.p _ _ c.requires.0 _ c.current-current.ensures _ c.stand_at.ensures) ∙ c.if-not-stand_at.false) c.requires.1.1.0 _ c.requires.1.1.1.0 _ c.requires.1.1.1.1.0 _ _ (first_from _ _ _ _ c.in-Some.ensures.next)) _ _ _ _ c.in_ok-take_traversal-in-Traverse.ensures.gone c.in_ok-take_traversal-in-Traverse.ensures.loads) _ c.in-Some-running.is

pub returns-in-Some-running-clause-fewer : goal.returns-in-Some-running-clause-fewer
returns-in-Some-running-clause-fewer g c =
    due_fewer _ _ _ _ (first_from _ _ _ _ c.in-Some.ensures.next)

pub returns-in-None-clause-queued : goal.returns-in-None-clause-queued
returns-in-None-clause-queued g c =
    let fits : SFits w32 c.in-Traverse.delta = search rules in
    traverse_queue g.p _ _ c.requires.0 c.requires.1.0 (sym (stand_here g.p _ _ c.requires.0 _ c.current-current.ensures _ c.stand_at.ensures) ∙ c.if-not-stand_at.false) c.requires.1.1.0 _ c.requires.1.1.1.0 _ _ (first_queue g.p _ _ c.requires.0 c.requires.1.0 (sym (stand_here g.p _ _ c.requires.0 _ c.current-current.ensures _ c.stand_at.ensures) ∙ c.if-not-stand_at.false) c.requires.1.1.0 _ c.requires.1.1.1.0 _ c.requires.1.1.1.1.0 _ _ (first_from _ _ _ _ c.in-Some.ensures.next)) _ _ c.in-Traverse.is _ (to_z-of_z w32 c.in-Traverse.delta fits) _ _ c.in_ok-take_traversal-in-Traverse.ensures.gone c.in_ok-take_traversal-in-Traverse.ensures.loads

pub returns-in-None-clause-came : goal.returns-in-None-clause-came
returns-in-None-clause-came g c =
    (after_refused g.p _ _ c.requires.0 c.requires.1.0 (sym (stand_here g.p _ _ c.requires.0 _ c.current-current.ensures _ c.stand_at.ensures) ∙ c.if-not-stand_at.false) c.requires.1.1.0 _ c.requires.1.1.1.0 _ _ (first_queue g.p _ _ c.requires.0 c.requires.1.0 (sym (stand_here g.p _ _ c.requires.0 _ c.current-current.ensures _ c.stand_at.ensures) ∙ c.if-not-stand_at.false) c.requires.1.1.0 _ c.requires.1.1.1.0 _ c.requires.1.1.1.1.0 _ _ (first_from _ _ _ _ c.in-Some.ensures.next)) _ _ c.in_ok-take_traversal-in-Traverse.ensures.passing c.in_ok-take_traversal-in-Traverse.ensures.goes (traverse_calm g.p _ _ c.requires.0 c.requires.1.0 (sym (stand_here g.p _ _ c.requires.0 _ c.current-current.ensures _ c.stand_at.ensures) ∙ c.if-not-stand_at.false) c.requires.1.1.0 _ c.requires.1.1.1.0 _ _ (first_queue g.p _ _ c.requires.0 c.requires.1.0 (sym (stand_here g.p _ _ c.requires.0 _ c.current-current.ensures _ c.stand_at.ensures) ∙ c.if-not-stand_at.false) c.requires.1.1.0 _ c.requires.1.1.1.0 _ c.requires.1.1.1.1.0 _ _ (first_from _ _ _ _ c.in-Some.ensures.next)) _ _ _ _ c.in_ok-take_traversal-in-Traverse.ensures.gone) c.in_ok-take_traversal-in-Traverse.ensures.strays (traverse_live g.p _ _ c.requires.0 c.requires.1.0 (sym (stand_here g.p _ _ c.requires.0 _ c.current-current.ensures _ c.stand_at.ensures) ∙ c.if-not-stand_at.false) c.requires.1.1.0 _ c.requires.1.1.1.0 _ _ (first_queue g.p _ _ c.requires.0 c.requires.1.0 (sym (stand_here g.p _ _ c.requires.0 _ c.current-current.ensures _ c.stand_at.ensures) ∙ c.if-not-stand_at.false) c.requires.1.1.0 _ c.requires.1.1.1.0 _ c.requires.1.1.1.1.0 _ _ (first_from _ _ _ _ c.in-Some.ensures.next)) _ _ _ _ c.in_ok-take_traversal-in-Traverse.ensures.gone c.in_ok-take_traversal-in-Traverse.ensures.loads) c.in-None.is, traverse_over g.p _ _ c.requires.0 c.requires.1.0 (sym (stand_here g.p _ _ c.requires.0 _ c.current-current.ensures _ c.stand_at.ensures) ∙ c.if-not-stand_at.false) c.requires.1.1.0 _ c.requires.1.1.1.0 _ _ (first_queue g.p _ _ c.requires.0 c.requires.1.0 (sym (stand_here g.p _ _ c.requires.0 _ c.current-current.ensures _ c.stand_at.ensures) ∙ c.if-not-stand_at.false) c.requires.1.1.0 _ c.requires.1.1.1.0 _ c.requires.1.1.1.1.0 _ _ (first_from _ _ _ _ c.in-Some.ensures.next)) _ _ _ _ c.in_ok-take_traversal-in-Traverse.ensures.gone)

pub returns-in-None-clause-fewer : goal.returns-in-None-clause-fewer
returns-in-None-clause-fewer g c =
    due_fewer _ _ _ _ (first_from _ _ _ _ c.in-Some.ensures.next)

pub returns-in_ok-take_load-in-Ready-clause-queued : goal.returns-in_ok-take_load-in-Ready-clause-queued
returns-in_ok-take_load-in-Ready-clause-queued g c =
    taken_queue_then g.p _ _ c.requires.0 c.requires.1.0 (sym (stand_here g.p _ _ c.requires.0 _ c.current-current.ensures _ c.stand_at.ensures) ∙ c.if-not-stand_at.false) c.requires.1.1.0 _ c.requires.1.1.1.0 _ _ (first_queue g.p _ _ c.requires.0 c.requires.1.0 (sym (stand_here g.p _ _ c.requires.0 _ c.current-current.ensures _ c.stand_at.ensures) ∙ c.if-not-stand_at.false) c.requires.1.1.0 _ c.requires.1.1.1.0 _ c.requires.1.1.1.1.0 _ _ (first_from _ _ _ _ c.in-Some.ensures.next)) _ _ c.in-Ready.is _ _ c.in_ok-take_load-in-Ready.ensures.queue c.in_ok-take_load-in-Ready.ensures.over c.in_ok-take_load-in-Ready.ensures.kept

pub returns-in_ok-take_load-in-Ready-clause-came : goal.returns-in_ok-take_load-in-Ready-clause-came
returns-in_ok-take_load-in-Ready-clause-came g c =
    after_applied g.p _ _ c.requires.1.1.1.0.idle _ _ _ c.in_ok-take_load-in-Ready.ensures.taken _ ((load_asks g.p _ _ c.requires.0 c.requires.1.0 (sym (stand_here g.p _ _ c.requires.0 _ c.current-current.ensures _ c.stand_at.ensures) ∙ c.if-not-stand_at.false) c.requires.1.1.0 _ c.requires.1.1.1.0 _ _ (first_queue g.p _ _ c.requires.0 c.requires.1.0 (sym (stand_here g.p _ _ c.requires.0 _ c.current-current.ensures _ c.stand_at.ensures) ∙ c.if-not-stand_at.false) c.requires.1.1.0 _ c.requires.1.1.1.0 _ c.requires.1.1.1.1.0 _ _ (first_from _ _ _ _ c.in-Some.ensures.next)) _ _ c.in-Ready.is (sym (ap (is_due_in c.args.tables.now.loads) c.in-Ready.is) ∙ due_first _ _ _ _ (first_from _ _ _ _ c.in-Some.ensures.next))).1.1.1.0) _ c.in_ok-take_load-in-Ready.ensures.kept _ c.in_ok-take_load-in-Ready.ensures.open_ c.in_ok-take_load-in-Ready.ensures.loads c.in_ok-take_load-in-Ready.ensures.blamed c.in_ok-take_load-in-Ready.ensures.around c.in_ok-take_load-in-Ready.ensures.last (load_live g.p _ _ c.requires.0 c.requires.1.0 (sym (stand_here g.p _ _ c.requires.0 _ c.current-current.ensures _ c.stand_at.ensures) ∙ c.if-not-stand_at.false) c.requires.1.1.0 _ c.requires.1.1.1.0 _ _ (first_queue g.p _ _ c.requires.0 c.requires.1.0 (sym (stand_here g.p _ _ c.requires.0 _ c.current-current.ensures _ c.stand_at.ensures) ∙ c.if-not-stand_at.false) c.requires.1.1.0 _ c.requires.1.1.1.0 _ c.requires.1.1.1.1.0 _ _ (first_from _ _ _ _ c.in-Some.ensures.next)) _ c.in_ok-take_load-in-Ready.ensures.queue c.in_ok-take_load-in-Ready.ensures.wakes)

pub returns-in_ok-take_load-in-Ready-clause-fewer : goal.returns-in_ok-take_load-in-Ready-clause-fewer
returns-in_ok-take_load-in-Ready-clause-fewer g c =
    due_fewer _ _ _ _ (first_from _ _ _ _ c.in-Some.ensures.next)

pub returns-in-Some-running-clause-made : goal.returns-in-Some-running-clause-made
returns-in-Some-running-clause-made g c =
    traverse_made g.p _ _ c.requires.0 c.requires.1.0 (sym (stand_here g.p _ _ c.requires.0 _ c.current-current.ensures _ c.stand_at.ensures) ∙ c.if-not-stand_at.false) c.requires.1.1.0 _ c.requires.1.1.1.0 _ _ (first_queue g.p _ _ c.requires.0 c.requires.1.0 (sym (stand_here g.p _ _ c.requires.0 _ c.current-current.ensures _ c.stand_at.ensures) ∙ c.if-not-stand_at.false) c.requires.1.1.0 _ c.requires.1.1.1.0 _ c.requires.1.1.1.1.0 _ _ (first_from _ _ _ _ c.in-Some.ensures.next)) _ _ _ _ c.in_ok-take_traversal-in-Traverse.ensures.gone

pub returns-in-None-clause-made : goal.returns-in-None-clause-made
returns-in-None-clause-made g c =
    traverse_made g.p _ _ c.requires.0 c.requires.1.0 (sym (stand_here g.p _ _ c.requires.0 _ c.current-current.ensures _ c.stand_at.ensures) ∙ c.if-not-stand_at.false) c.requires.1.1.0 _ c.requires.1.1.1.0 _ _ (first_queue g.p _ _ c.requires.0 c.requires.1.0 (sym (stand_here g.p _ _ c.requires.0 _ c.current-current.ensures _ c.stand_at.ensures) ∙ c.if-not-stand_at.false) c.requires.1.1.0 _ c.requires.1.1.1.0 _ c.requires.1.1.1.1.0 _ _ (first_from _ _ _ _ c.in-Some.ensures.next)) _ _ _ _ c.in_ok-take_traversal-in-Traverse.ensures.gone

pub returns-then-not-stand_at-clause-made : goal.returns-then-not-stand_at-clause-made
returns-then-not-stand_at-clause-made g c = made_same _

pub returns-in_default-clause-made : goal.returns-in_default-clause-made
returns-in_default-clause-made g c = made_same _

pub returns-then-not-stand_at-clause-grown : goal.returns-then-not-stand_at-clause-grown
returns-then-not-stand_at-clause-grown g c = grown_none _

pub returns-in_default-clause-grown : goal.returns-in_default-clause-grown
returns-in_default-clause-grown g c = grown_none _

pub returns-in-Some-running-clause-grown : goal.returns-in-Some-running-clause-grown
returns-in-Some-running-clause-grown g c =
    traverse_grown g.p _ _ c.requires.0 c.requires.1.0 (sym (stand_here g.p _ _ c.requires.0 _ c.current-current.ensures _ c.stand_at.ensures) ∙ c.if-not-stand_at.false) c.requires.1.1.0 _ c.requires.1.1.1.0 _ _ (first_queue g.p _ _ c.requires.0 c.requires.1.0 (sym (stand_here g.p _ _ c.requires.0 _ c.current-current.ensures _ c.stand_at.ensures) ∙ c.if-not-stand_at.false) c.requires.1.1.0 _ c.requires.1.1.1.0 _ c.requires.1.1.1.1.0 _ _ (first_from _ _ _ _ c.in-Some.ensures.next)) _ _ _ _ c.in_ok-take_traversal-in-Traverse.ensures.gone

pub returns-in-None-clause-grown : goal.returns-in-None-clause-grown
returns-in-None-clause-grown g c =
    traverse_grown g.p _ _ c.requires.0 c.requires.1.0 (sym (stand_here g.p _ _ c.requires.0 _ c.current-current.ensures _ c.stand_at.ensures) ∙ c.if-not-stand_at.false) c.requires.1.1.0 _ c.requires.1.1.1.0 _ _ (first_queue g.p _ _ c.requires.0 c.requires.1.0 (sym (stand_here g.p _ _ c.requires.0 _ c.current-current.ensures _ c.stand_at.ensures) ∙ c.if-not-stand_at.false) c.requires.1.1.0 _ c.requires.1.1.1.0 _ c.requires.1.1.1.1.0 _ _ (first_from _ _ _ _ c.in-Some.ensures.next)) _ _ _ _ c.in_ok-take_traversal-in-Traverse.ensures.gone

pub returns-in_ok-take_load-in-Ready-clause-grown : goal.returns-in_ok-take_load-in-Ready-clause-grown
returns-in_ok-take_load-in-Ready-clause-grown g c = load_grown g.p _ _ _ _ _ c.in_ok-take_load-in-Ready.ensures.taken

pub returns-in-Some-running-clause-stood : goal.returns-in-Some-running-clause-stood
returns-in-Some-running-clause-stood g c = sym (stand_here g.p _ _ c.requires.0 _ c.current-current.ensures _ c.stand_at.ensures) ∙ c.if-not-stand_at.false

pub returns-in-None-clause-stood : goal.returns-in-None-clause-stood
returns-in-None-clause-stood g c = sym (stand_here g.p _ _ c.requires.0 _ c.current-current.ensures _ c.stand_at.ensures) ∙ c.if-not-stand_at.false

pub returns-in_ok-take_load-in-Ready-clause-stood : goal.returns-in_ok-take_load-in-Ready-clause-stood
returns-in_ok-take_load-in-Ready-clause-stood g c = sym (stand_here g.p _ _ c.requires.0 _ c.current-current.ensures _ c.stand_at.ensures) ∙ c.if-not-stand_at.false

pub returns-then-not-stand_at-clause-needs : goal.returns-then-not-stand_at-clause-needs
returns-then-not-stand_at-clause-needs g c = need_none _ _

pub returns-in_default-clause-needs : goal.returns-in_default-clause-needs
returns-in_default-clause-needs g c = need_none _ _

pub returns-in-Some-running-clause-needs : goal.returns-in-Some-running-clause-needs
returns-in-Some-running-clause-needs g c =
    let fits : SFits w32 c.in-Traverse.delta = search rules in
    traverse_need g.p.event _ _ _ _ _ _ (traverse_asks g.p _ _ c.requires.0 c.requires.1.0 (sym (stand_here g.p _ _ c.requires.0 _ c.current-current.ensures _ c.stand_at.ensures) ∙ c.if-not-stand_at.false) c.requires.1.1.0 _ c.requires.1.1.1.0 _ _ (first_queue g.p _ _ c.requires.0 c.requires.1.0 (sym (stand_here g.p _ _ c.requires.0 _ c.current-current.ensures _ c.stand_at.ensures) ∙ c.if-not-stand_at.false) c.requires.1.1.0 _ c.requires.1.1.1.0 _ c.requires.1.1.1.1.0 _ _ (first_from _ _ _ _ c.in-Some.ensures.next)) _ _ c.in-Traverse.is _ (to_z-of_z w32 c.in-Traverse.delta fits)).1.1.1.0 c.in_ok-take_traversal-in-Traverse.ensures.gone

pub returns-in-None-clause-needs : goal.returns-in-None-clause-needs
returns-in-None-clause-needs g c =
    let fits : SFits w32 c.in-Traverse.delta = search rules in
    traverse_need g.p.event _ _ _ _ _ _ (traverse_asks g.p _ _ c.requires.0 c.requires.1.0 (sym (stand_here g.p _ _ c.requires.0 _ c.current-current.ensures _ c.stand_at.ensures) ∙ c.if-not-stand_at.false) c.requires.1.1.0 _ c.requires.1.1.1.0 _ _ (first_queue g.p _ _ c.requires.0 c.requires.1.0 (sym (stand_here g.p _ _ c.requires.0 _ c.current-current.ensures _ c.stand_at.ensures) ∙ c.if-not-stand_at.false) c.requires.1.1.0 _ c.requires.1.1.1.0 _ c.requires.1.1.1.1.0 _ _ (first_from _ _ _ _ c.in-Some.ensures.next)) _ _ c.in-Traverse.is _ (to_z-of_z w32 c.in-Traverse.delta fits)).1.1.1.0 c.in_ok-take_traversal-in-Traverse.ensures.gone

pub returns-in_ok-take_load-in-Ready-clause-needs : goal.returns-in_ok-take_load-in-Ready-clause-needs
returns-in_ok-take_load-in-Ready-clause-needs g c =
    let asks = load_asks g.p _ _ c.requires.0 c.requires.1.0 (sym (stand_here g.p _ _ c.requires.0 _ c.current-current.ensures _ c.stand_at.ensures) ∙ c.if-not-stand_at.false) c.requires.1.1.0 _ c.requires.1.1.1.0 _ _ (first_queue g.p _ _ c.requires.0 c.requires.1.0 (sym (stand_here g.p _ _ c.requires.0 _ c.current-current.ensures _ c.stand_at.ensures) ∙ c.if-not-stand_at.false) c.requires.1.1.0 _ c.requires.1.1.1.0 _ c.requires.1.1.1.1.0 _ _ (first_from _ _ _ _ c.in-Some.ensures.next)) _ _ c.in-Ready.is (sym (ap (is_due_in c.args.tables.now.loads) c.in-Ready.is) ∙ due_first _ _ _ _ (first_from _ _ _ _ c.in-Some.ensures.next)) in
    load_need g.p _ _ _ _ _ asks.1.1.0 _ asks.1.1.1.0 c.in_ok-take_load-in-Ready.ensures.taken c.in_ok-take_load-in-Ready.ensures.last

pub returns-then-branch-clause-queued : goal.returns-then-branch-clause-queued
returns-then-branch-clause-queued g c =
    put_queue _ _ c.requires.1.1.1.0.idle _ _ c.in-Traverse.is _ _ c.in_ok-put_back-in-Traverse.ensures.ok (first_queue g.p _ _ c.requires.0 c.requires.1.0 (sym (stand_here g.p _ _ c.requires.0 _ c.current-current.ensures _ c.stand_at.ensures) ∙ c.if-not-stand_at.false) c.requires.1.1.0 _ c.requires.1.1.1.0 _ c.requires.1.1.1.1.0 _ _ (first_from _ _ _ _ c.in-Some.ensures.next))

pub returns-then-branch-clause-came : goal.returns-then-branch-clause-came
returns-then-branch-clause-came g c =
    let fits : SFits w32 c.in-Traverse.delta = search rules in record {
      out = refl;
      tables = refl;
      noted = refl;
      first = to_ask g.p _ _ c.requires.0 c.args.slots.now.entries c.requires.1.1.1.1.1 _ _ (traverse_asks g.p _ _ c.requires.0 c.requires.1.0 (sym (stand_here g.p _ _ c.requires.0 _ c.current-current.ensures _ c.stand_at.ensures) ∙ c.if-not-stand_at.false) c.requires.1.1.0 _ c.requires.1.1.1.0 _ _ (first_queue g.p _ _ c.requires.0 c.requires.1.0 (sym (stand_here g.p _ _ c.requires.0 _ c.current-current.ensures _ c.stand_at.ensures) ∙ c.if-not-stand_at.false) c.requires.1.1.0 _ c.requires.1.1.1.0 _ c.requires.1.1.1.1.0 _ _ (first_from _ _ _ _ c.in-Some.ensures.next)) _ _ c.in-Traverse.is _ (to_z-of_z w32 c.in-Traverse.delta fits)).1.1.1.0 _ c.in_ok-asks_somebody-in-Traverse.ensures c.if-branch.true _ _ (put_front _ _ _ (to_z-of_z w32 c.in-Traverse.delta fits) _ _ c.in_ok-put_back-in-Traverse.ensures.ok);
    }

pub returns-then-branch-clause-stood : goal.returns-then-branch-clause-stood
returns-then-branch-clause-stood g c = sym (stand_here g.p _ _ c.requires.0 _ c.current-current.ensures _ c.stand_at.ensures) ∙ c.if-not-stand_at.false

pub returns-then-branch-clause-needs : goal.returns-then-branch-clause-needs
returns-then-branch-clause-needs g c = need_none _ _
