-- The slots of the handlers of the documents that are made, as a table has them, and what the reports that wait tell of them.
-- This project's own.
use Rattle.log_model.specs.Seen.{Document, Seen, desk_of}
use Rattle.log_model.specs.declared.job.Job.{Job}
use Rattle.log_model.specs.declared.made.Report.TheVariants as reports
use Rattle.log_model.specs.declared.made.Report.{Report}
use Rattle.log_model.specs.declared.outcome.Outcome.TheVariants as outcomes
use Rattle.log_model.specs.declared.outcome.Outcome.{Outcome}
use Rattle.seen_facts.specs.Doc.Docs.{makes_by}
use Rattle.seen_facts.specs.Each.Items.{Each}
use Rattle.seen_facts.specs.Home.Homes.{document_in}
use Rattle.std.specs.Map.{lookup}
use Rattle.std.specs.Prelude.{List, None, Option, Some, if◌then◌else◌, option_and_then, true, ℕ, ◌==◌, ◌≡◌}
use Rattle.tab_ids.specs.declared.DocId.{DocId}
use Rattle.tab_ids.specs.declared.ProcId.{ProcId}

-- ---- the table

-- the slot of a document's handler, as the table has it
abbrev pub slot_in : List (DocId × ℕ) → DocId → Option ℕ
slot_in slots doc = lookup (λ (other : DocId). doc.0 == other.0) slots

-- the slot that is known of a document: none of one whose making wasn't reported
abbrev pub slot_known : Option Document → Option ℕ
slot_known o = option_and_then (λ (d : Document). if d.is_ready then d.slot else None) o

-- the table has what is known of each document
abbrev pub KnowsSlots : List Document → List (DocId × ℕ) → Type 0
KnowsSlots documents slots = (doc : DocId) → slot_in slots doc ≡ slot_known (document_in documents doc)

-- ---- reports

-- the order makes its document, which has the slot
pub record HasSlot (documents : List Document) (job : Job) (slot : Option ℕ) : Type 0 where
  pub makes : makes_by true job.task ≡ 1
  pub d : Document
  pub found : document_in documents job.doc ≡ Some d
  pub is : d.slot ≡ slot

-- that the order ended so tells of the slot that its document has
abbrev pub TellsOf : List Document → Job → Outcome → Type 0
TellsOf documents job (outcomes.Populated slot) = HasSlot documents job slot
TellsOf documents job _ = Unit {0}

abbrev pub TellsSlot : List Document → Report → Type 0
TellsSlot documents (reports.Done job outcome made) = TellsOf documents job outcome
TellsSlot documents _ = Unit {0}

-- each report of the process that waits does
abbrev pub TellSlots : Seen → Type 0
TellSlots s = (proc : ProcId) → Each (TellsSlot s.documents) (desk_of s proc).reports

-- ---- both

pub record AreSlots (s : Seen) (slots : List (DocId × ℕ)) : Type 0 where
  pub known : KnowsSlots s.documents slots
  pub told : TellSlots s

-- the table once the report is taken: a document that has a handler is noted as its making is told
abbrev pub IsHeard : List (DocId × ℕ) → List (DocId × ℕ) → Option Report → Type 0
IsHeard slots next (Some (reports.Done job (outcomes.Populated (Some slot)) made)) =
    (other : DocId) → slot_in next other ≡ (if job.doc.0 == other.0 then Some slot else slot_in slots other)
IsHeard slots next _ = (other : DocId) → slot_in next other ≡ slot_in slots other
