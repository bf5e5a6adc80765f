-- A report was taken, and heard: the slots that the coordinator knows are those of the log then, and all else of it is as it was.
use Rattle.seen_laws.proofs.InEvents.{uncut_log}
use Rattle.coord.specs.Delivering.{InDelivery, IsDone, IsMade, outcome_of, slot_told, slots_with}
use Rattle.coord.specs.Standing.{IsOpenIn, IsOpenTo}
use Rattle.coord.specs.declared.coordinator.Coordinator.{Coordinator}
use Rattle.log_model.specs.After.{after}
use Rattle.log_model.specs.Seen.{Seen, desk_of}
use Rattle.log_model.specs.declared.job.Job.{Job}
use Rattle.log_model.specs.declared.made.Made.{Made}
use Rattle.log_model.specs.declared.made.Report.TheVariants as reports
use Rattle.log_model.specs.declared.made.Report.{Report}
use Rattle.log_model.specs.declared.outcome.Outcome.TheVariants as outcomes
use Rattle.log_model.specs.declared.outcome.Outcome.{Outcome}
use Rattle.log_model.specs.declared.row_kind.RowKind.{RowKind}
use Rattle.seen_facts.proofs.Coord.Leadings.{doc_same}
use Rattle.seen_laws.specs.InEvent.{InEvent, log_of, row_of}
use Rattle.slot_facts.proofs.Delivered.{delivered_slots}
use Rattle.slot_facts.specs.Slots.{AreSlots, IsHeard, slot_in}
use Rattle.std.proofs.Common.{Bool, List, None, Option, Some, [], ap, false, refl, subst, sym, true, ℕ, ◌==◌, ◌∙◌, ◌≡◌}
use Rattle.std.specs.Prelude.{if◌then◌else◌, slice_get}
use Rattle.tab_doors.proofs.Keyed.{put_apart, put_itself}
use Rattle.tab_ids.specs.declared.DocId.{DocId}
use Rattle.tab_ids.specs.declared.ProcId.{ProcId}
use Rattle.tab_stands.specs.Delivering.{IsDelivery, IsToldOf}

-- ---- the table

-- what was put in for a document is its slot, and the others have what they had
put_heard : (slots : List (DocId × ℕ)) (doc : DocId) (slot : ℕ) (other : DocId) → slot_in (slots_with slots (Some (doc, slot))) other ≡ (if doc.0 == other.0 then Some slot else slot_in slots other)
put_heard slots doc slot other = by_doc (doc.0 == other.0) refl
  where
    by_doc : (b : Bool) → (doc.0 == other.0) ≡ b → slot_in (slots_with slots (Some (doc, slot))) other ≡ (if b then Some slot else slot_in slots other)
    by_doc true same =
        subst (λ (x : DocId). slot_in (slots_with slots (Some (doc, slot))) x ≡ Some slot) (doc_same doc other same) (put_itself (λ (x : DocId). x.0) slots doc slot)
    by_doc false apart = put_apart (λ (x : DocId). x.0) slots doc other slot apart

-- so the report is heard
is_heard : (slots : List (DocId × ℕ)) (report : Report) → IsHeard slots (slots_with slots (slot_told report)) (Some report)
is_heard slots (reports.Done job (outcomes.Populated (Some slot)) made) = put_heard slots job.doc slot
is_heard slots (reports.Done job (outcomes.Populated None) made) = λ other. refl
is_heard slots (reports.Done job outcomes.Activated made) = λ other. refl
is_heard slots (reports.Done job outcomes.Updated made) = λ other. refl
is_heard slots (reports.Done job outcomes.Frozen made) = λ other. refl
is_heard slots (reports.Done job outcomes.Discarded made) = λ other. refl
is_heard slots (reports.Done job (outcomes.Asked verdict) made) = λ other. refl
is_heard slots (reports.Done job outcomes.Fragmented made) = λ other. refl
is_heard slots (reports.Made made) = λ other. refl
is_heard slots (reports.Died death) = λ other. refl

-- ---- the coordinator

-- but for its slots it is open to the event as it was
pub open_then : (e : InEvent) (c heard : Coordinator) → heard ≡ record c { slots = heard.slots } → IsOpenIn e c → IsOpenIn e heard
open_then e c heard same open_ =
    subst (λ (x : Coordinator). IsOpenIn e x) (sym same) (record {
      header = open_.header;
      stands = record {
        stands = open_.stands.stands;
        keep = open_.stands.keep;
        lasts = open_.stands.lasts;
        plain = open_.stands.plain;
        unchecked = open_.stands.unchecked;
        found = open_.stands.found;
        telling = open_.stands.telling;
      };
      room = open_.room;
      uncut = open_.uncut;
      undue = open_.undue;
      unchecked = open_.unchecked;
      unwanted = open_.unwanted;
    })

-- its slots are those of the log
pub heard_slots : (e : InEvent) (proc : ProcId) (report : Report) → e.before ≡ [] → IsDelivery e proc report → (slots next : List (DocId × ℕ)) → AreSlots e.start slots → next ≡ slots_with slots (slot_told report) → AreSlots (log_of e []) next
heard_slots e proc report uncut delivery slots next are told =
    subst (λ (x : Seen). AreSlots x next) (sym (uncut_log e uncut))
    (subst (λ (k : RowKind). AreSlots (after e.start (row_of e k)) next) (sym delivery.own)
    (delivered_slots e.start e.event e.actor proc slots next are hears))
  where
    hears : IsHeard slots next (slice_get (desk_of e.start proc).reports 0)
    hears =
        subst (λ (o : Option Report). IsHeard slots next o) (sym delivery.first)
        (subst (λ (l : List (DocId × ℕ)). IsHeard slots l (Some report)) (sym told) (is_heard slots report))

module _ (d : InDelivery) (proc : ProcId) (report : Report) (delivery : IsDelivery d.event proc report) (proc_is : d.proc ≡ proc) (report_is : d.report ≡ report) (c heard : Coordinator) (open_ : IsOpenTo d.event c) (told : heard.slots.entries ≡ slots_with c.slots.entries (slot_told report)) (same : heard ≡ record c { slots = heard.slots }) where
  its : IsDelivery d.event d.proc d.report
  its =
      subst (λ (p : ProcId). IsDelivery d.event p d.report) (sym proc_is) (subst (λ (r : Report). IsDelivery d.event proc r) (sym report_is) delivery)

  slots_now : AreSlots (log_of d.event []) heard.slots.entries
  slots_now = heard_slots d.event proc report open_.in_.uncut delivery c.slots.entries heard.slots.entries open_.slots told

  -- a document made something
  pub heard_made : (made : Made) → IsToldOf report made → IsMade d heard made
  heard_made made tells =
      record {
        delivery = its;
        tells = subst (λ (r : Report). IsToldOf r made) (sym report_is) tells;
        open_ = open_then d.event c heard same open_.in_;
        slots = slots_now;
      }

  -- an order was done, and nothing was made of it
  pub heard_done : (job : Job) (outcome : Outcome) → report ≡ reports.Done job outcome None → IsDone (record { event = d.event; proc = d.proc; outcome = outcome_of d.report }) heard job
  heard_done job outcome is =
      record {
        delivery = subst (λ (r : Report). IsDelivery d.event d.proc r) (told_is ∙ ap (λ (x : Outcome). reports.Done job x None) (sym (ap outcome_of told_is))) its;
        open_ = open_then d.event c heard same open_.in_;
        slots = slots_now;
      }
    where
      told_is : d.report ≡ reports.Done job outcome None
      told_is = report_is ∙ is
