-- Whom a load, a reload or a traversal that begins is to ask, as the coordinator's tables tell: the documents that it leaves and that have an unload handler, in the order of the walk.
-- HTML Standard, "checking if unloading is canceled"; handler slots, and that all are asked at once, are this project's own.
use Rattle.apply_plan.specs.Leaving.{leaving_in}
use Rattle.log_model.specs.Orders.{Question}
use Rattle.log_model.specs.Seen.{Document, Seen, document_of}
use Rattle.log_model.specs.declared.handler.LeaveCause.TheVariants as leavings
use Rattle.log_model.specs.declared.handler.LeaveCause.{LeaveCause}
use Rattle.log_model.specs.declared.row.Row.{Row}
use Rattle.nav_tree.specs.Tree.{Tree}
use Rattle.slot_facts.specs.Slots.{slot_in}
use Rattle.std.specs.Option.{option_to_list}
use Rattle.std.specs.Prelude.{List, Option, Some, filter_map, option_map, true, ℕ, ◌++◌, ◌≡◌}
use Rattle.tab_ids.specs.declared.DocId.{DocId}
use Rattle.tab_ids.specs.declared.NavId.{NavId}
use Rattle.tab_passes.specs.Sleepers.{doc_on, docs_below}

-- ---- slots

-- the table has the slot of each document that is made
abbrev pub HasSlots : Seen → List (DocId × ℕ) → Type 0
HasSlots s slots = (doc : DocId) (d : Document) → document_of s doc ≡ Some d → d.is_ready ≡ true → slot_in slots doc ≡ d.slot

-- ---- questions

-- the question to a document with this cause, if it has a handler
abbrev pub question_to : List (DocId × ℕ) → LeaveCause → DocId → Option Question
question_to slots cause doc = option_map (λ (slot : ℕ). (doc, slot, cause)) (slot_in slots doc)

-- the questions to those of these documents that have a handler
abbrev pub questions_to : List (DocId × ℕ) → LeaveCause → List DocId → List Question
questions_to slots cause docs = filter_map (question_to slots cause) docs

-- ---- whom a request asks

-- the documents that the navigable and those below it are awake on, its own first, in the order of the walk
abbrev pub docs_at : Tree → NavId → List DocId
docs_at tree nav = option_to_list (doc_on tree nav) ++ docs_below tree nav

-- whom a load or a reload of the navigable asks, with its cause
abbrev pub leave_questions : List (DocId × ℕ) → LeaveCause → Tree → NavId → List Question
leave_questions slots cause tree nav = questions_to slots cause (docs_at tree nav)

-- whom a load asks
abbrev pub load_questions : List (DocId × ℕ) → Tree → NavId → List Question
load_questions slots tree nav = leave_questions slots leavings.Load tree nav

-- whom a reload asks
abbrev pub reload_questions : List (DocId × ℕ) → Tree → NavId → List Question
reload_questions slots tree nav = leave_questions slots leavings.Reload tree nav

-- whom a traversal to the step asks: the documents that it leaves
abbrev pub traverse_questions : List (DocId × ℕ) → List Row → ℕ → Tree → List Question
traverse_questions slots rows goal tree = questions_to slots leavings.Traverse (leaving_in rows goal tree)
