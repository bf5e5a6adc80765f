use Rattle.seen_laws.specs.InEvent.{now_of}
use Rattle.std.proofs.Common.{List, None, subst, sym}
use Rattle.tab_ids.specs.declared.DocId.{DocId}
use Rattle.tab_passes.proofs.Leavings.{leaving_none}
use Rattle.tab_sweeps.proofs.Founds.{are_strays}
use Rattle.tab_sweeps.proofs.sweeping.sweep.Goals as goal
use Rattle.tab_sweeps.specs.Turns.{AreStrays}

pub sweep_each-requires : goal.sweep_each-requires
sweep_each-requires g c = (
  c.requires.0,
  (
    c.requires.1.0,
    (
      c.requires.1.1,
      subst (λ (l : List DocId). AreStrays (now_of g.p.event c.args.out.now) l) (sym c.in_ok-strays.ensures)
          (are_strays g.p None c.args.out.now c.args.tables.now (leaving_none g.p c.args.out.now c.args.tables.now c.requires.0) c.in_ok-docs.docs c.in_ok-docs.ensures.in_order c.in_ok-docs.ensures.placed),
    ),
  ),
)
