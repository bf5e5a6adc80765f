-- The slots that a coordinator knows stay those of the log, as an event's own row is logged, and over rows that it puts out.
use Rattle.coord.proofs.Asides.{start_plain}
use Rattle.coord.specs.Standing.{IsOpenTo}
use Rattle.coord.specs.declared.coordinator.Coordinator.{Coordinator}
use Rattle.log_model.specs.Seen.{Seen, desk_of}
use Rattle.log_model.specs.declared.job.Order.{Order}
use Rattle.log_model.specs.declared.outcome.Outcome.{Outcome}
use Rattle.log_model.specs.declared.row_kind.RowKind.TheVariants as rows
use Rattle.log_model.specs.declared.row_kind.RowKind.{RowKind}
use Rattle.seen_facts.specs.Desk.Own.{AreDesksIn}
use Rattle.seen_facts.specs.Doc.Docs.{AreDocs}
use Rattle.seen_facts.specs.Transit.Orders.{IsOutcomeOf}
use Rattle.seen_laws.proofs.InEvents.{uncut_log}
use Rattle.seen_laws.specs.InEvent.{InEvent, log_of, row_of}
use Rattle.log_model.specs.After.{after}
use Rattle.seen_laws.specs.Unasked.{unasked}
use Rattle.slot_facts.proofs.Finished.{finished_slots}
use Rattle.slot_facts.proofs.Rows.{plain_slots}
use Rattle.slot_facts.proofs.Rows as tell
use Rattle.slot_facts.specs.Slots.{AreSlots}
use Rattle.std.proofs.Common.{List, Some, [], subst, sym, ℕ, ◌≡◌}
use Rattle.tab_ids.specs.declared.DocId.{DocId}
use Rattle.tab_ids.specs.declared.ProcId.{ProcId}

module _ (e : InEvent) (slots : List (DocId × ℕ)) where
  -- ---- the own row

  -- of the user or a process, or an eviction
  pub own_slots : e.before ≡ [] → (kind : RowKind) → e.own ≡ kind → tell.IsPlain kind → AreSlots e.start slots → AreSlots (log_of e []) slots
  own_slots uncut kind own plain are =
      subst (λ (x : Seen). AreSlots x slots) (sym (uncut_log e uncut)) (plain_slots e.start e.event e.actor e.own (subst (λ (k : RowKind). tell.IsPlain k) (sym own) plain) slots are)

-- a process has finished the order that it has in hand
pub finished_own : (e : InEvent) (c : Coordinator) → IsOpenTo e c → (proc : ProcId) (order : Order) (outcome : Outcome) → (desk_of e.start proc).in_hand ≡ Some order → IsOutcomeOf order.job.task outcome → e.own ≡ rows.Finished proc order.job.nr outcome → AreSlots (log_of e []) c.slots.entries
finished_own e c open_ proc order outcome hand fits own =
    subst (λ (x : Seen). AreSlots x c.slots.entries) (sym (uncut_log e open_.in_.uncut))
    (subst (λ (k : RowKind). AreSlots (after e.start (row_of e k)) c.slots.entries) (sym own)
    (finished_slots e.start e.event e.actor proc order outcome hand c.slots.entries open_.slots e.checking docs desks fits))
  where
    docs : AreDocs (unasked e.checking e.start)
    docs = subst AreDocs (sym (start_plain e c open_.in_)) open_.in_.stands.stands.between.tab.docs

    desks : AreDesksIn (unasked e.checking e.start)
    desks = subst AreDesksIn (sym (start_plain e c open_.in_)) open_.in_.stands.stands.between.tab.desks
