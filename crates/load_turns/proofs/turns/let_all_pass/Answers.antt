use Rattle.load_turns.proofs.Nexts.{turned_first, turned_next}
use Rattle.load_turns.proofs.turns.let_all_pass.Goals as goal
use Rattle.load_turns.specs.Turns.{HaveTurned}
use Rattle.std.proofs.Common.{List, add-one, ap, subst, sym, take, ℕ, ◌∙◌}
use Rattle.std.proofs.Math.Seq.{take-suc}
use Rattle.tab_ids.specs.declared.NavId.{NavId}

pub loop-nav-init : goal.loop-nav-init
loop-nav-init g c =
    record {
      turned = turned_first g.w c.args.tables.now c.args.done.now c.requires.1.1.0 c.requires.1.1.1.0 c.requires.1.1.1.1;
      none = c.requires.1.0;
    }

pub loop-nav-preserved : goal.loop-nav-preserved
loop-nav-preserved g c =
    let inv = c.loop-nav.invariant in
    let i = c.loop-nav.nav-index in
    record {
      turned =
          subst (λ (l : List NavId). HaveTurned g.w l c.args.tables.now c.let_next.new.tables c.let_next.new.done) (sym (ap (λ (n : ℕ). take n c.args.navs.now) (add-one i) ∙ take-suc c.args.navs.now i _ c.loop-nav-test.true))
          (turned_next g.w (take i c.args.navs.now) c.args.tables.now c.loop-nav.tables c.loop-nav.done inv.turned _ c.let_next.new.tables c.let_next.new.done c.in_ok-let_next.ensures.turned);
      none = c.in_ok-let_next.ensures.none;
    }
