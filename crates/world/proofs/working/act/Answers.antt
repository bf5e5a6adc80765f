use Rattle.std.proofs.Common.{refl, sym, ◌∙◌, arith}
use Rattle.log_model.specs.declared.made.Report.TheVariants as told
use Rattle.proc_tables.specs.declared.item.Item.TheVariants as items
use Rattle.proc_tables.specs.Desks.{desk_with, without_poke}
use Rattle.world.proofs.Facts.{events_small, run_never, run_room, run_there}
use Rattle.world.proofs.TableLaws.{changes_then}
use Rattle.world.proofs.WorkLaws.{edit_gone, made_gone, refused_gone, stopped_gone}
use Rattle.world.proofs.working.act.Goals as goal

pub act-requires : goal.act-requires
act-requires c =
    record { room = run_room _ _ _ c.requires.«open» c.in-Some.poke.doc (sym c.runs.ensures ∙ c.if-not-runs.false) }

pub unreachable-requires-in-Err-NotRunning : goal.unreachable-requires-in-Err-NotRunning
unreachable-requires-in-Err-NotRunning c =
    absurd (run_never _ (sym c.runs.ensures ∙ c.if-not-runs.false) (c.in-Err-NotRunning.ensures.not_running (rw c.in-Err-NotRunning.field-0-is refl)))

pub overflow_add-state : goal.overflow_add-state
overflow_add-state c = grind (arith, events_small _ _ _ c.requires.«open»)

pub overflow_add-state-then-is_edit : goal.overflow_add-state-then-is_edit
overflow_add-state-then-is_edit c = grind (arith, events_small _ _ _ c.requires.«open»)

pub overflow_add-state-in-Ok : goal.overflow_add-state-in-Ok
overflow_add-state-in-Ok c = grind (arith, events_small _ _ _ c.requires.«open»)

pub overflow_add-state-in-Err-NotRewritable : goal.overflow_add-state-in-Err-NotRewritable
overflow_add-state-in-Err-NotRewritable c = grind (arith, events_small _ _ _ c.requires.«open»)

pub returns-then-not-runs-clause-gone : goal.returns-then-not-runs-clause-gone
returns-then-not-runs-clause-gone c =
    let first = sym c.next_poke.ensures.first ∙ c.in-Some.is in
    stopped_gone _ _ _ c.requires.«open» c.requires.short _ _ first _ _ (sym c.runs.ensures ∙ c.if-not-runs.true) refl refl refl refl c.next_poke.ensures.rest c.refuse.ensures.endings c.in_ok-refuse.ensures.log

pub returns-then-is_edit-clause-gone : goal.returns-then-is_edit-clause-gone
returns-then-is_edit-clause-gone c =
    let first = sym c.next_poke.ensures.first ∙ c.in-Some.is in
    let run = run_there _ _ _ c.requires.«open» c.in-Some.poke.doc (sym c.runs.ensures ∙ c.if-not-runs.false) in
    edit_gone _ _ _ c.requires.«open» c.requires.short _ _ first run.view run.at run.running _ _ _ (sym c.is_edit.ensures ∙ c.if-is_edit.true) c.in-Ok.ensures.acts refl refl refl c.next_poke.ensures.rest c.log_edit.ensures.endings c.in_ok-log_edit-in-Ok.ensures.log

pub returns-in-Ok-clause-gone : goal.returns-in-Ok-clause-gone
returns-in-Ok-clause-gone c =
    let first = sym c.next_poke.ensures.first ∙ c.in-Some.is in
    let run = run_there _ _ _ c.requires.«open» c.in-Some.poke.doc (sym c.runs.ensures ∙ c.if-not-runs.false) in
    let made = items.Report (told.Made c.in-Ok.made) in
    let reported = rw c.in_ok-told-in-Ok.ensures at c.in_ok-add-in-Ok.ensures.ok in
    made_gone _ _ _ c.requires.«open» c.requires.short _ _ first run.view run.at run.running _ _ _ (sym c.is_edit.ensures ∙ c.if-is_edit.false) c.in-Ok.ensures.acts refl refl refl (changes_then c.args.proc without_poke (desk_with made) _ _ _ c.next_poke.ensures.rest reported) refl c.in_ok-log_row-in-Ok.ensures.ok

pub returns-in-Err-NotRewritable-clause-gone : goal.returns-in-Err-NotRewritable-clause-gone
returns-in-Err-NotRewritable-clause-gone c =
    let first = sym c.next_poke.ensures.first ∙ c.in-Some.is in
    let run = run_there _ _ _ c.requires.«open» c.in-Some.poke.doc (sym c.runs.ensures ∙ c.if-not-runs.false) in
    refused_gone _ _ _ c.requires.«open» c.requires.short _ _ first run.view run.at run.running _ _ (c.in-Err-NotRewritable.ensures.not_rewritable (rw c.in-Err-NotRewritable.field-0-is refl)) refl refl c.in-Err-NotRewritable.ensures.err refl c.next_poke.ensures.rest c.refuse-in-Err-NotRewritable.ensures.endings c.in_ok-refuse-in-Err-NotRewritable.ensures.log
