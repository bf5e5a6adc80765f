use Rattle.seen_laws.specs.InEvent.{now_of}
use Rattle.std.proofs.Common.{List, None, refl, subst, sym, true}
use Rattle.tab_ids.specs.declared.DocId.{DocId}
use Rattle.tab_passes.specs.Leaving.{IsLeavingIn, left_then}
use Rattle.tab_sweeps.proofs.Steps.{step_gone, step_leaves, step_listed, step_next, step_noted, step_only, step_own, step_sends, step_turn}
use Rattle.tab_sweeps.proofs.sweeping.sweep_at.Goals as goal

pub state_there-state-requires : goal.state_there-state-requires
state_there-state-requires g c =
    step_listed g.n.pass c.args.blame.now.entries c.args.strays.now c.args.i c.at-doc.result.now c.args.out.now c.args.tables.now c.at-doc.ensures c.requires.1

pub blamed-req-requires : goal.blamed-req-requires
blamed-req-requires g c =
    step_noted g.n.pass c.args.blame.now.entries c.args.strays.now c.args.i c.at-doc.result.now c.args.out.now c.args.tables.now c.at-doc.ensures c.requires.1 c.state_there-state.result c.state_there-state.ensures

pub discard-requires : goal.discard-requires
discard-requires g c = (
  subst (λ (l : List DocId). IsLeavingIn true g.n.pass None l c.args.out.now c.args.tables.now) (sym c.requires.0.left) c.requires.1.leaving,
  (
    step_leaves g.n.pass c.args.blame.now.entries c.args.strays.now c.args.i c.at-doc.result.now c.args.out.now c.args.tables.now c.at-doc.ensures c.requires.1 c.state_there-state.result c.state_there-state.ensures c.blamed-req.result c.blamed-req.ensures,
    (
      step_sends g.n.pass c.args.blame.now.entries c.args.strays.now c.args.i c.at-doc.result.now c.args.out.now c.args.tables.now c.at-doc.ensures c.requires.1 c.state_there-state.result c.state_there-state.ensures c.blamed-req.result c.blamed-req.ensures,
      (
        step_gone g.n.pass c.args.blame.now.entries c.args.strays.now c.args.i c.at-doc.result.now c.args.out.now c.args.tables.now c.at-doc.ensures c.requires.1 c.state_there-state.result c.state_there-state.ensures c.blamed-req.result c.blamed-req.ensures,
        (
          step_own g.n.pass c.args.blame.now.entries c.args.strays.now c.args.i c.at-doc.result.now c.args.out.now c.args.tables.now c.at-doc.ensures c.requires.1 c.state_there-state.result c.state_there-state.ensures c.blamed-req.result c.blamed-req.ensures,
          (refl, tt),
        ),
      ),
    ),
  ),
)

pub returns-clause-sweeping : goal.returns-clause-sweeping
returns-clause-sweeping g c =
    step_next g.n.pass c.args.blame.now.entries c.args.strays.now c.args.i c.at-doc.result.now c.args.out.now c.args.tables.now c.at-doc.ensures c.requires.1 c.state_there-state.result c.state_there-state.ensures c.blamed-req.result c.blamed-req.ensures _ _ c.in_ok-discard.ensures.out c.in_ok-discard.ensures.kept (subst (λ (l : List DocId). IsLeavingIn true g.n.pass None (left_then (now_of g.n.pass.event c.args.out.now) c.at-doc.result.now l) c.discard.new.out c.discard.new.tables) c.requires.0.left c.in_ok-discard.ensures.leaving)

pub returns-clause-turn : goal.returns-clause-turn
returns-clause-turn g c =
    step_turn g.n.pass c.args.blame.now.entries c.args.strays.now c.args.i c.at-doc.result.now c.args.out.now c.args.tables.now c.at-doc.ensures c.requires.1 c.state_there-state.result c.state_there-state.ensures c.blamed-req.result c.blamed-req.ensures _ _ c.in_ok-discard.ensures.out c.in_ok-discard.ensures.kept (subst (λ (l : List DocId). IsLeavingIn true g.n.pass None (left_then (now_of g.n.pass.event c.args.out.now) c.at-doc.result.now l) c.discard.new.out c.discard.new.tables) c.requires.0.left c.in_ok-discard.ensures.leaving)

pub returns-clause-only : goal.returns-clause-only
returns-clause-only g c =
    step_only g.n.pass c.args.blame.now.entries c.args.strays.now c.args.i c.at-doc.result.now c.args.out.now c.args.tables.now c.at-doc.ensures c.requires.1 c.state_there-state.result c.state_there-state.ensures c.blamed-req.result c.blamed-req.ensures _ _ c.in_ok-discard.ensures.out c.in_ok-discard.ensures.kept (subst (λ (l : List DocId). IsLeavingIn true g.n.pass None (left_then (now_of g.n.pass.event c.args.out.now) c.at-doc.result.now l) c.discard.new.out c.discard.new.tables) c.requires.0.left c.in_ok-discard.ensures.leaving)
