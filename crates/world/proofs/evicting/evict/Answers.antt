use Rattle.std.proofs.Common.{List, ◌++◌, map, refl, sym, ap, ◌∙◌, arith}
use Rattle.log_model.specs.declared.row_kind.Actor.TheVariants as actors
use Rattle.log_model.specs.declared.row_kind.LogRow.{LogRow}
use Rattle.world.specs.Notes.{row_with}
use Rattle.world.proofs.EventLaws.{front_of, on_any_error}
use Rattle.world.proofs.EvictLaws.{evict_asks, evict_gone}
use Rattle.world.proofs.Facts.{events_small, open_to, stands}
use Rattle.world.proofs.evicting.evict.Goals as goal

pub discard-requires : goal.discard-requires
discard-requires c =
    let at = sym (c.longest_kept.ensures _ (stands _ _ _ c.requires.«open»)) ∙ c.in-Some.is in
    (refl, (evict_asks _ _ _ c.requires.«open» c.requires.short _ at, (open_to _ _ _ c.requires.«open» _ _, c.new-out.ensures)))

pub returns-in_err-log_work-clause-front : goal.returns-in_err-log_work-clause-front
returns-in_err-log_work-clause-front c =
    on_any_error _ _ (front_of _ _ _ _ c.in_ok-log_row.ensures.ok c.in_err-log_work.ensures.err)

pub overflow_add-state : goal.overflow_add-state
overflow_add-state c = grind (arith, events_small _ _ _ c.requires.«open»)

pub returns-clause-gone : goal.returns-clause-gone
returns-clause-gone c =
    let at = sym (c.longest_kept.ensures _ (stands _ _ _ c.requires.«open»)) ∙ c.in-Some.is in
    evict_gone _ _ _ c.requires.«open» c.requires.short _ at _ _ _ c.in_ok-discard.ensures.acted refl refl refl c.in_ok-log_work.ensures.desks c.in_ok-log_work.ensures.endings (c.in_ok-log_work.ensures.log ∙ ap (λ (l : List LogRow). l ++ map (row_with c.args.state.now.events actors.Ui) c.discard.new.out) c.in_ok-log_row.ensures.ok)
