use Rattle.std.proofs.Common.{List, ◌++◌, map, fold, Option, refl, ap, ◌∙◌, arith}
use Rattle.log_model.specs.declared.outcome.Ending.{Ending}
use Rattle.log_model.specs.declared.row_kind.Actor.TheVariants as actors
use Rattle.log_model.specs.declared.row_kind.LogRow.{LogRow}
use Rattle.world.specs.Notes.{endings_noted, row_with}
use Rattle.tab_ids.specs.declared.ReqId.{ReqId}
use Rattle.world.proofs.AcceptLaws.{ask_gone}
use Rattle.world.proofs.EventLaws.{front_of, on_any_error}
use Rattle.world.proofs.Facts.{events_small, asked_small, next_is, open_to}
use Rattle.world.proofs.accepting.accept_ask.Goals as goal

pub next_request-req-requires : goal.next_request-req-requires
next_request-req-requires c = asked_small _ _ _ c.requires.«open»

pub carry_out-requires : goal.carry_out-requires
carry_out-requires c =
    (refl, (open_to _ _ _ c.requires.«open» _ _, (ap (λ (r : ReqId). r.0) (next_is _ _ _ c.requires.«open» _ c.next_request-req.ensures), c.new-out.ensures)))

pub overflow_add-state : goal.overflow_add-state
overflow_add-state c = grind (arith, events_small _ _ _ c.requires.«open»)

pub returns-in_err-log_work-clause-front : goal.returns-in_err-log_work-clause-front
returns-in_err-log_work-clause-front c =
    on_any_error _ _ (front_of _ _ _ _ c.in_ok-log_row.ensures.ok c.in_err-log_work.ensures.err)

pub returns-clause-gone : goal.returns-clause-gone
returns-clause-gone c =
    let logged = rw c.in_ok-what.ensures at c.in_ok-log_row.ensures.ok in
    ask_gone _ _ _ c.requires.«open» c.requires.short _ c.args.ask.now _ _ _ (next_is _ _ _ c.requires.«open» _ c.next_request-req.ensures) c.in_ok-carry_out.ensures.acted refl refl refl c.in_ok-log_work.ensures.desks (c.in_ok-log_work.ensures.endings ∙ ap (λ (l : List (Option Ending)). fold endings_noted l c.carry_out.new.out) c.in_ok-add.ensures) (c.in_ok-log_work.ensures.log ∙ ap (λ (l : List LogRow). l ++ map (row_with c.args.state.now.events actors.Ui) c.carry_out.new.out) logged)
