use Rattle.log_model.specs.declared.row_kind.RowKind.{RowKind}
use Rattle.std.proofs.Common.{List, rules, subst, sym}
use Rattle.tab_settles.proofs.LoadsOff.{off_turned}
use Rattle.tab_settles.proofs.Passed.{pass_asks, pass_off, pass_ready_put, put_both, put_passed, settled}
use Rattle.tab_settles.proofs.Slots.{put_slots}
use Rattle.tab_settles.proofs.resting.settle.Goals as goal
use Rattle.tab_settles.specs.Settling.{LeavesOff}

pub pass-requires : goal.pass-requires
pass-requires g c =
    let asks = pass_asks g.p _ _ _ _ _ c.passes.invariant.0 in (asks.0, (c.requires.0, (asks.1.0, (asks.1.1.0, (asks.1.1.1, c.requires.1.1.1)))))

pub take_turn-requires : goal.take_turn-requires
take_turn-requires g c =
    (settled g.p _ _ _ _ _ c.passes.invariant.0 _ _ _ _ c.in_ok-pass.ensures.passing c.in_ok-pass.ensures.served c.in_ok-pass.ensures.told c.in_ok-pass.ensures.strays c.in_ok-pass.ensures.passed c.in_ok-pass.ensures.left c.in_ok-pass.ensures.only c.in_ok-pass.ensures.kept c.in_ok-pass.ensures.calm c.in_ok-pass.ensures.sent, (put_slots g.p.event _ _ _ (put_passed g.p _ _ _ _ c.in_ok-pass.ensures.passing c.passes.invariant.1.0 (pass_ready_put g.p _ _ _ _ _ c.passes.invariant.0 _ _ c.in_ok-pass.ensures.only c.in_ok-pass.ensures.left)) c.requires.1.1.0, c.requires.1.1.1))

-- ---- no step had its turn

pub returns-then-not-had-clause-due : goal.returns-then-not-had-clause-due
returns-then-not-had-clause-due g c = c.in_ok-had.ensures.due c.if-not-had.true

pub returns-then-not-had-clause-put : goal.returns-then-not-had-clause-put
returns-then-not-had-clause-put g c =
    let rested = c.in_ok-had.ensures.rested c.if-not-had.true in
    put_both g.p _ _ _ _ _ rested.passing c.passes.invariant.1.0 (pass_ready_put g.p _ _ _ _ _ c.passes.invariant.0 _ _ c.in_ok-pass.ensures.only c.in_ok-pass.ensures.left) c.in_ok-had.ensures.put

pub returns-then-not-had-clause-off : goal.returns-then-not-had-clause-off
returns-then-not-had-clause-off g c =
    subst (λ (l : List RowKind). LeavesOff g.p.event c.args.out.now l) (sym (c.in_ok-had.ensures.still c.if-not-had.true)) (pass_off g.p.event _ _ _ _ _ _ c.passes.invariant.1.1.0 c.in_ok-pass.ensures.only c.in_ok-pass.ensures.left)

-- ---- one had

pub passes-preserved : goal.passes-preserved
passes-preserved g c =
    let did = c.if-not-had.false in
    let ready = c.in_ok-had.ensures.ready did in (
      ready,
      (
        put_both g.p _ _ _ _ _ ready.passing c.passes.invariant.1.0 (pass_ready_put g.p _ _ _ _ _ c.passes.invariant.0 _ _ c.in_ok-pass.ensures.only c.in_ok-pass.ensures.left) c.in_ok-had.ensures.put,
        (off_turned g.p.event _ _ _ (pass_off g.p.event _ _ _ _ _ _ c.passes.invariant.1.1.0 c.in_ok-pass.ensures.only c.in_ok-pass.ensures.left) (c.in_ok-had.ensures.turned did), search rules),
      ),
    )
