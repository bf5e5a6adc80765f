-- The slots stay those of the log as a report is taken, once a document that has a handler is noted as its making is told.
use Rattle.log_model.specs.After.{after, desk_delivered}
use Rattle.log_model.specs.AfterDocuments.{documents_delivered, on_document}
use Rattle.log_model.specs.AfterPlaces.{is_dead_by}
use Rattle.log_model.specs.Seen.{Document, Seen, desk_of}
use Rattle.log_model.specs.declared.job.Job.{Job}
use Rattle.log_model.specs.declared.made.Made.{Made}
use Rattle.log_model.specs.declared.made.Report.TheVariants as reports
use Rattle.log_model.specs.declared.made.Report.{Report}
use Rattle.log_model.specs.declared.outcome.Outcome.TheVariants as outcomes
use Rattle.log_model.specs.declared.row_kind.Actor.{Actor}
use Rattle.log_model.specs.declared.row_kind.RowKind.TheVariants as rows
use Rattle.seen_facts.proofs.Coord.Leadings.{doc_same}
use Rattle.seen_facts.proofs.Each.Eaches.{each_first, each_less, each_on}
use Rattle.seen_facts.specs.Each.Items.{Each}
use Rattle.seen_facts.specs.Home.Homes.{document_in}
use Rattle.seen_laws.proofs.Keyed.{find_on_other, find_on_same}
use Rattle.slot_facts.proofs.Changes.{KeepsSlot, SlotsStay, has_mapped, keeps_if, known_then, slots_mapped, slots_same, tells_then}
use Rattle.slot_facts.proofs.Told.{told_on}
use Rattle.slot_facts.specs.Slots.{AreSlots, HasSlot, IsHeard, KnowsSlots, TellsSlot, slot_in, slot_known}
use Rattle.std.proofs.Common.{Bool, List, None, Option, Some, ap, cond, false, refl, sym, true, ℕ, ◌==◌, ◌∙◌, ◌≡◌}
use Rattle.std.specs.Prelude.{if◌then◌else◌, option_map, slice_get}
use Rattle.tab_ids.specs.declared.Death.{Death}
use Rattle.tab_ids.specs.declared.DocId.{DocId}
use Rattle.tab_ids.specs.declared.ProcId.{ProcId}

abbrev readied : Document → Document
readied d = record d { is_ready = true; is_fresh = true }

-- ---- a document's making is told

module _ (documents : List Document) (slots next : List (DocId × ℕ)) (known : KnowsSlots documents slots) (job : Job) where
  abbrev later : List Document
  later = on_document job.doc readied documents

  readied_found : (doc : DocId) → (job.doc.0 == doc.0) ≡ true → document_in later doc ≡ option_map readied (document_in documents job.doc)
  readied_found doc same =
      ap (λ (at : DocId). document_in later at) (sym (doc_same job.doc doc same))
      ∙ find_on_same (λ (x : Document). x.nr.0) readied job.doc.0 documents (λ x. refl)

  readied_other : (doc : DocId) → (job.doc.0 == doc.0) ≡ false → document_in later doc ≡ document_in documents doc
  readied_other doc apart = find_on_other (λ (x : Document). x.nr.0) readied job.doc.0 doc.0 documents (λ x. refl) apart

  -- told of its slot, the table has what is known then
  filled_known : (slot : Option ℕ) → HasSlot documents job slot → ((other : DocId) → slot_in next other ≡ (if job.doc.0 == other.0 then slot else slot_in slots other)) → KnowsSlots later next
  filled_known slot has filled doc = by_doc (job.doc.0 == doc.0) refl (filled doc)
    where
      by_doc : (b : Bool) → (job.doc.0 == doc.0) ≡ b → slot_in next doc ≡ (if b then slot else slot_in slots doc) → slot_in next doc ≡ slot_known (document_in later doc)
      by_doc true e is =
          is ∙ sym has.is ∙ sym (ap slot_known (readied_found doc e ∙ ap (λ (o : Option Document). option_map readied o) has.found))
      by_doc false e is = is ∙ known doc ∙ sym (ap slot_known (readied_other doc e))

  -- one without a handler is known to have none
  none_known : (d : Document) → d.slot ≡ None → slot_known (Some d) ≡ None
  none_known d none = by_ready d.is_ready
    where
      by_ready : (b : Bool) → (let o : Option ℕ = (if b then d.slot else None) in o) ≡ None
      by_ready true = none
      by_ready false = refl

  -- so a table that stays has that, too
  bare_filled : HasSlot documents job None → ((other : DocId) → slot_in next other ≡ slot_in slots other) → (other : DocId) → slot_in next other ≡ (if job.doc.0 == other.0 then None else slot_in slots other)
  bare_filled has same other = by_doc (job.doc.0 == other.0) refl
    where
      by_doc : (b : Bool) → (job.doc.0 == other.0) ≡ b → slot_in next other ≡ (if b then None else slot_in slots other)
      by_doc true e =
          same other
          ∙ known other
          ∙ ap (λ (at : DocId). slot_known (document_in documents at)) (sym (doc_same job.doc other e))
          ∙ ap slot_known has.found
          ∙ none_known has.d has.is
      by_doc false e = same other

  populated_known : (slot : Option ℕ) (made : Option Made) → HasSlot documents job slot → IsHeard slots next (Some (reports.Done job (outcomes.Populated slot) made)) → KnowsSlots later next
  populated_known (Some slot) made has heard = filled_known (Some slot) has heard
  populated_known None made has heard = filled_known None has (bare_filled has heard)

-- ---- any report

-- the first report tells of the slot, if it tells that a document was made
abbrev FirstTells : List Document → Option Report → Type 0
FirstTells documents None = Unit {0}
FirstTells documents (Some report) = TellsSlot documents report

dead_keeps : (death : Death) → KeepsSlot (λ d. cond (is_dead_by death d) (record d { is_known_dead = true }) d)
dead_keeps death = keeps_if (is_dead_by death) (λ d. record d { is_known_dead = true }) (record { nr = λ d. refl; slot = λ d. refl; ready = λ d. refl })

module _ (documents : List Document) (slots next : List (DocId × ℕ)) (known : KnowsSlots documents slots) where
  same_known : (new : List Document) → SlotsStay documents new → ((other : DocId) → slot_in next other ≡ slot_in slots other) → KnowsSlots new next
  same_known new stay same doc = same doc ∙ known_then documents new slots stay known doc

  heard_known : (first : Option Report) → FirstTells documents first → IsHeard slots next first → KnowsSlots (documents_delivered documents first) next
  heard_known None tells heard = same_known documents (slots_same documents) heard
  heard_known (Some (reports.Done job (outcomes.Populated slot) made)) tells heard = populated_known documents slots next known job slot made tells heard
  heard_known (Some (reports.Done job outcomes.Activated made)) tells heard = same_known documents (slots_same documents) heard
  heard_known (Some (reports.Done job outcomes.Updated made)) tells heard = same_known documents (slots_same documents) heard
  heard_known (Some (reports.Done job outcomes.Frozen made)) tells heard = same_known documents (slots_same documents) heard
  heard_known (Some (reports.Done job outcomes.Discarded made)) tells heard = same_known documents (slots_same documents) heard
  heard_known (Some (reports.Done job (outcomes.Asked verdict) made)) tells heard = same_known documents (slots_same documents) heard
  heard_known (Some (reports.Done job outcomes.Fragmented made)) tells heard = same_known documents (slots_same documents) heard
  heard_known (Some (reports.Made made)) tells heard = same_known documents (slots_same documents) heard
  heard_known (Some (reports.Died death)) tells heard = same_known _ (slots_mapped _ documents (dead_keeps death)) heard

-- each document has the handler that it had
heard_has : (documents : List Document) (first : Option Report) (job : Job) (slot : Option ℕ) → HasSlot documents job slot → HasSlot (documents_delivered documents first) job slot
heard_has documents None job slot is = is
heard_has documents (Some (reports.Done own (outcomes.Populated its) made)) job slot is =
    has_mapped (λ d. cond (d.nr.0 == own.doc.0) (readied d) d) documents nr same job slot is
  where
    nr : (d : Document) → (let x : Document = cond (d.nr.0 == own.doc.0) (readied d) d in x).nr ≡ d.nr
    nr d = elim (d.nr.0 == own.doc.0) as (λ b. (let x : Document = cond b (readied d) d in x).nr ≡ d.nr) [ true ↦ refl | false ↦ refl ]

    same : (d : Document) → (let x : Document = cond (d.nr.0 == own.doc.0) (readied d) d in x).slot ≡ d.slot
    same d = elim (d.nr.0 == own.doc.0) as (λ b. (let x : Document = cond b (readied d) d in x).slot ≡ d.slot) [ true ↦ refl | false ↦ refl ]
heard_has documents (Some (reports.Done own outcomes.Activated made)) job slot is = is
heard_has documents (Some (reports.Done own outcomes.Updated made)) job slot is = is
heard_has documents (Some (reports.Done own outcomes.Frozen made)) job slot is = is
heard_has documents (Some (reports.Done own outcomes.Discarded made)) job slot is = is
heard_has documents (Some (reports.Done own (outcomes.Asked verdict) made)) job slot is = is
heard_has documents (Some (reports.Done own outcomes.Fragmented made)) job slot is = is
heard_has documents (Some (reports.Made made)) job slot is = is
heard_has documents (Some (reports.Died death)) job slot is = (slots_mapped _ documents (dead_keeps death)).has job slot is

-- ---- the row

module _ (s : Seen) (event : ℕ) (actor : Actor) (proc : ProcId) (slots next : List (DocId × ℕ)) (are : AreSlots s slots) where
  abbrev delivered : Seen
  delivered = after s (record { event = event; actor = actor; row = rows.Delivered proc })

  abbrev first : Option Report
  first = slice_get (desk_of s proc).reports 0

  first_tells : (o : Option Report) → first ≡ o → FirstTells s.documents o
  first_tells None e = tt
  first_tells (Some report) e = each_first (TellsSlot s.documents) (desk_of s proc).reports report e (are.told proc)

  told_still : (p : ProcId) → Each (TellsSlot delivered.documents) (desk_of s p).reports
  told_still p = each_on (TellsSlot s.documents) (TellsSlot delivered.documents) (desk_of s p).reports (tells_then s.documents delivered.documents (heard_has s.documents first)) (are.told p)

  -- the table in which the report is heard has the slots then
  pub delivered_slots : IsHeard slots next first → AreSlots delivered next
  delivered_slots heard =
      record {
        known = heard_known s.documents slots next are.known first (first_tells first refl) heard;
        told = told_on delivered.documents desk_delivered s.desks proc (λ desk. refl) (each_less (TellsSlot delivered.documents) (desk_of s proc).reports (told_still proc)) told_still;
      }
