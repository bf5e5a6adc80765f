use Rattle.std.proofs.Common.{refl, sym, ◌∙◌, arith}
use Rattle.proc_tables.specs.declared.item.Item.TheVariants as items
use Rattle.proc_tables.specs.Desks.{desk_with, without_job}
use Rattle.world.proofs.Facts.{events_small}
use Rattle.world.proofs.TableLaws.{changes_then}
use Rattle.world.proofs.WorkLaws.{begin_gone}
use Rattle.world.proofs.working.begin.Goals as goal

pub overflow_add-state : goal.overflow_add-state
overflow_add-state c = grind (arith, events_small _ _ _ c.requires.«open»)

pub returns-clause-gone : goal.returns-clause-gone
returns-clause-gone c =
    let first = sym c.next_job.ensures.first ∙ c.in-Some.is in
    let order = items.Order (record { job = c.in-Some.job; dirty = c.is_dirty-dirty.result }) in
    rw c.in_ok-taken.ensures (begin_gone _ _ _ c.requires.«open» c.requires.short _ _ first c.requires.free _ _ _ c.is_dirty-dirty.ensures refl refl refl refl (changes_then c.args.proc without_job (desk_with order) _ _ _ c.next_job.ensures.rest c.in_ok-add.ensures.ok) refl c.in_ok-log_row.ensures.ok)
