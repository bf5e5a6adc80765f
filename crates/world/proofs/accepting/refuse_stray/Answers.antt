use Rattle.std.proofs.Common.{List, [], ◌∷◌, ◌++◌, refl, ap, ◌∙◌, arith}
use Rattle.log_model.specs.declared.row_kind.Actor.TheVariants as actors
use Rattle.log_model.specs.declared.row_kind.LogRow.{LogRow}
use Rattle.log_model.specs.declared.row_kind.RowKind.TheVariants as rows
use Rattle.world.specs.Notes.{row_with}
use Rattle.world.proofs.AcceptLaws.{stray_gone}
use Rattle.world.proofs.Facts.{events_small, asked_small, next_is}
use Rattle.world.proofs.accepting.refuse_stray.Goals as goal

pub next_request-req-requires : goal.next_request-req-requires
next_request-req-requires c = asked_small _ _ _ c.requires.«open»

pub overflow_add-state : goal.overflow_add-state
overflow_add-state c = grind (arith, events_small _ _ _ c.requires.«open»)

pub returns-clause-gone : goal.returns-clause-gone
returns-clause-gone c =
    stray_gone _ _ _ c.requires.«open» c.requires.short _ _ _ _ _ _ c.requires.denied (next_is _ _ _ c.requires.«open» _ c.next_request-req.ensures) refl refl refl refl refl c.in_ok-add.ensures (c.in_ok-log_row-2.ensures.ok ∙ ap (λ (l : List LogRow). l ++ row_with c.args.state.now.events actors.Ui (rows.Refused c.next_request-req.result c.args.reason) ∷ []) c.in_ok-log_row.ensures.ok)
