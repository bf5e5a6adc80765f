use Rattle.std.proofs.Common.{◌≡◌, Option, Some, None, refl, sym, subst, ◌∙◌, arith}
use Rattle.std.specs.Prelude.{IsSomeAnd}
use Rattle.log_model.specs.declared.job.Order.{Order}
use Rattle.proc_work.specs.Work.{done_of}
use Rattle.world.specs.Finishing.{IsWorkedOutcome}
use Rattle.log_model.specs.declared.made.Report.TheVariants as told
use Rattle.proc_tables.specs.declared.item.Item.TheVariants as items
use Rattle.proc_tables.specs.Desks.{desk_with, without_order}
use Rattle.world.proofs.Facts.{events_small, has_room, view_doc}
use Rattle.world.proofs.FinishLaws.{finish_gone, its_task}
use Rattle.world.proofs.TableLaws.{changes_then}
use Rattle.world.proofs.finishing.finish.Goals as goal

-- what is said of the order in hand, where it is this one
of_hand : (o : Option Order) (order : Order) (P : Order → Type 0) → o ≡ Some order → IsSomeAnd o P → P order
of_hand None order P same some = elim some [ ]
of_hand (Some x) order P same some = let one : x ≡ order = cc in subst P one some

pub work-requires-clause-task : goal.work-requires-clause-task
work-requires-clause-task c =
    its_task _ _ _ c.requires.«open» c.requires.short _ _ (sym c.let_go.ensures.held ∙ c.in-Some.is)

pub work-requires-clause-room : goal.work-requires-clause-room
work-requires-clause-room c = has_room _ _ _ c.requires.«open» _

pub work-requires-clause-doc : goal.work-requires-clause-doc
work-requires-clause-doc c = view_doc _ _ _ c.requires.«open» _

pub overflow_add-state : goal.overflow_add-state
overflow_add-state c = grind (arith, events_small _ _ _ c.requires.«open»)

pub returns-clause-gone : goal.returns-clause-gone
returns-clause-gone c done its same =
    let hand = sym c.let_go.ensures.held ∙ c.in-Some.is in
    let report = items.Report (told.Done c.in-Some.order.job c.args.outcome c.in_ok-made.made) in
    let worked_ : IsWorkedOutcome c.in-Some.order c.args.outcome = of_hand _ c.in-Some.order (λ x. IsWorkedOutcome x c.args.outcome) hand c.requires.due in
    finish_gone _ _ _ c.requires.«open» c.requires.short _ _ hand _ _ _ _ worked_ c.in_ok-made.ensures.made refl refl c.in_ok-made.ensures.view c.in_ok-do_job.ensures.ok (changes_then c.args.proc without_order (desk_with report) _ _ _ c.let_go.ensures.rest c.in_ok-add.ensures.ok) refl c.in_ok-log_end.ensures.log done (of_hand _ c.in-Some.order (λ x. done ≡ done_of x done.kind) hand its) same
