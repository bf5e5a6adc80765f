use Rattle.std.proofs.Common.{refl, ap, ◌∙◌, arith}
use Rattle.log_model.specs.After.{desk_dropped}
use Rattle.proc_tables.specs.Desks.{desk_at}
use Rattle.proc_tables.proofs.DeskChanges.{all_changed, each_at, passed}
use Rattle.proc_tables.proofs.desks.forget_in.Goals as goal

pub loop-place-preserved : goal.loop-place-preserved
loop-place-preserved c =
    passed (desk_dropped c.args.req) _ _ _ c.loop-place.place c.loop-place.invariant c.forget_at.ensures.some c.forget_at.ensures.none

pub returns : goal.returns
returns c = λ proc.
    ap (λ desks. desk_at desks proc) (c.loop-place.invariant ∙ all_changed (desk_dropped c.args.req) _ c.loop-place.place (omega (arith, c.loop-place-test.false, c.len-place-end.ensures.len)))
    ∙ each_at (desk_dropped c.args.req) (λ p. refl) _ proc
