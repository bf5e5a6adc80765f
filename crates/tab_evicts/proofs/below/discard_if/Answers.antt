use Rattle.tab_evicts.proofs.Nones.{below_known, fewer_below, not_below}
use Rattle.tab_evicts.proofs.Belows.{below_done, below_lets, below_sends, below_stays, its_quiet}
use Rattle.tab_evicts.proofs.Quiets.{gone_only, quiet_gone, quiet_leaves, quiet_own}
use Rattle.std.proofs.Common.{sym, ◌∙◌}
use Rattle.tab_evicts.proofs.below.discard_if.Goals as goal
use Rattle.tab_evicts.specs.Evicting.{move_in}

pub discard-requires : goal.discard-requires
discard-requires g c =
    let its = its_quiet g.l c.args.gone c.args.why c.args.out.now c.args.tables.now c.requires c.args.doc c.in-Some.state (sym c.state_below.ensures ∙ c.in-Some.is) in (
      c.requires.leaving,
      (
        quiet_leaves g.l.pass (move_in g.l) c.args.out.now c.args.tables.now c.requires.leaving c.args.why c.requires.may c.args.doc c.in-Some.state its,
        (
          below_sends g.l c.args.gone c.args.why c.args.out.now c.args.tables.now c.requires c.args.doc c.in-Some.state (sym c.state_below.ensures ∙ c.in-Some.is),
          (
            quiet_gone g.l.pass (move_in g.l) c.args.out.now c.args.tables.now c.requires.leaving c.args.why c.requires.may c.args.doc c.in-Some.state its,
            (
              quiet_own g.l.pass (move_in g.l) c.args.out.now c.args.tables.now c.requires.leaving c.args.why c.requires.may c.args.doc c.in-Some.state its,
              (below_lets g.l c.args.gone c.args.why c.args.out.now c.args.tables.now c.requires c.args.doc c.in-Some.state (sym c.state_below.ensures ∙ c.in-Some.is), c.requires.free),
            ),
          ),
        ),
      ),
    )

pub returns-in_ok-discard-in-Some-clause-letting : goal.returns-in_ok-discard-in-Some-clause-letting
returns-in_ok-discard-in-Some-clause-letting g c =
    below_done g.l c.args.gone c.args.why c.args.out.now c.args.tables.now c.requires c.args.doc c.in-Some.state (sym c.state_below.ensures ∙ c.in-Some.is) _ _ c.in_ok-discard-in-Some.ensures.out c.in_ok-discard-in-Some.ensures.kept c.in_ok-discard-in-Some.ensures.leaving

pub returns-in_ok-discard-in-Some-clause-only : goal.returns-in_ok-discard-in-Some-clause-only
returns-in_ok-discard-in-Some-clause-only g c =
    gone_only g.l.pass (move_in g.l) c.args.out.now c.args.tables.now c.requires.leaving c.args.why c.requires.may c.args.doc c.in-Some.state (its_quiet g.l c.args.gone c.args.why c.args.out.now c.args.tables.now c.requires c.args.doc c.in-Some.state (sym c.state_below.ensures ∙ c.in-Some.is)) _ c.discard.new.tables c.in_ok-discard-in-Some.ensures.out

pub returns-in_ok-discard-in-Some-clause-stays : goal.returns-in_ok-discard-in-Some-clause-stays
returns-in_ok-discard-in-Some-clause-stays g c =
    below_stays g.l c.args.gone c.args.why c.args.out.now c.args.tables.now c.requires c.args.doc c.in-Some.state (sym c.state_below.ensures ∙ c.in-Some.is) _ c.discard.new.tables c.in_ok-discard-in-Some.ensures.out

pub returns-in_ok-discard-in-Some-clause-gone : goal.returns-in_ok-discard-in-Some-clause-gone
returns-in_ok-discard-in-Some-clause-gone g c =
    not_below g.l.pass (move_in g.l) c.args.out.now c.args.tables.now c.requires.leaving c.args.why c.requires.may c.args.doc c.in-Some.state (its_quiet g.l c.args.gone c.args.why c.args.out.now c.args.tables.now c.requires c.args.doc c.in-Some.state (sym c.state_below.ensures ∙ c.in-Some.is)) c.args.gone _ c.discard.new.tables c.in_ok-discard-in-Some.ensures.out

pub returns-in_ok-discard-in-Some-clause-fewer : goal.returns-in_ok-discard-in-Some-clause-fewer
returns-in_ok-discard-in-Some-clause-fewer g c =
    fewer_below g.l.pass (move_in g.l) c.args.out.now c.args.tables.now c.requires.leaving c.args.why c.requires.may c.args.doc c.in-Some.state (its_quiet g.l c.args.gone c.args.why c.args.out.now c.args.tables.now c.requires c.args.doc c.in-Some.state (sym c.state_below.ensures ∙ c.in-Some.is)) c.args.gone _ c.discard.new.tables c.in_ok-discard-in-Some.ensures.out

pub returns-in-None-clause-gone : goal.returns-in-None-clause-gone
returns-in-None-clause-gone g c it = below_known g.l c.args.gone c.args.why c.args.out.now c.args.tables.now c.requires c.args.doc it (sym c.state_below.ensures ∙ c.in-None.is)
