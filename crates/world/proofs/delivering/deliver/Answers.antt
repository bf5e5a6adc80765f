use Rattle.std.proofs.Common.{List, ◌++◌, map, refl, sym, ap, ◌∙◌, arith}
use Rattle.log_model.specs.declared.row_kind.Actor.TheVariants as actors
use Rattle.log_model.specs.declared.row_kind.LogRow.{LogRow}
use Rattle.world.specs.Notes.{row_with}
use Rattle.world.proofs.DeliverLaws.{waits, deliver_gone}
use Rattle.world.proofs.EventLaws.{front_of, on_any_error}
use Rattle.world.proofs.Facts.{events_small, open_to}
use Rattle.world.proofs.delivering.deliver.Goals as goal

pub take-requires : goal.take-requires
take-requires c =
    let first = sym c.next_report.ensures.first ∙ c.in-Some.is in
    (refl, (open_to _ _ _ c.requires.«open» _ _, (waits _ _ _ c.requires.«open» c.requires.short _ _ first, c.new-out.ensures)))

pub returns-in_err-log_work-clause-front : goal.returns-in_err-log_work-clause-front
returns-in_err-log_work-clause-front c =
    on_any_error _ _ (front_of _ _ _ _ c.in_ok-log_row.ensures.ok c.in_err-log_work.ensures.err)

pub overflow_add-state : goal.overflow_add-state
overflow_add-state c = grind (arith, events_small _ _ _ c.requires.«open»)

pub returns-clause-gone : goal.returns-clause-gone
returns-clause-gone c =
    let first = sym c.next_report.ensures.first ∙ c.in-Some.is in
    deliver_gone _ _ _ c.requires.«open» c.requires.short _ _ first _ c.next_report.ensures.rest _ _ _ c.in_ok-take.ensures.acted refl refl refl c.in_ok-log_work.ensures.desks c.in_ok-log_work.ensures.endings (c.in_ok-log_work.ensures.log ∙ ap (λ (l : List LogRow). l ++ map (row_with c.args.state.now.events actors.Coord) c.take.new.out) c.in_ok-log_row.ensures.ok)
