-- How a table of unload checks stands for what a log has come to.
-- HTML Standard, "checking if unloading is canceled". When an answer counts, one prompt for each request, and which questions a document that is gone leaves open are this project's own.
use Rattle.std.specs.Prelude.{◌≡◌, Bool, true, false, not, ◌&&◌, ◌||◌, ◌==◌, List, [], ◌∷◌, map, Option, Some, None, is_none, is_some, if◌then◌else◌}
use Rattle.std.specs.List.{list_all, list_any}
use Rattle.tab_ids.specs.declared.DocId.{DocId}
use Rattle.tab_ids.specs.declared.JobId.{JobId}
use Rattle.tab_ids.specs.declared.ReqId.{ReqId}
use Rattle.log_model.specs.declared.handler.Verdict.{Verdict}
use Rattle.log_model.specs.declared.request.Request.{Request}
use Rattle.log_model.specs.Seen.{Seen, Asked, Asking, request_of}
use Rattle.log_model.specs.Places.{is_gone, all_asked, has_passed, is_under_way}
use Rattle.log_model.specs.Checks.{is_checked}
use Rattle.unload_check.specs.declared.asked_doc.AskedDoc.{AskedDoc}
use Rattle.unload_check.specs.declared.check.Check.TheVariants as checks
use Rattle.unload_check.specs.Checks.{OpenCheck, check_of, is_doc, is_req, outcome_of}

-- ---- one question

-- what the table keeps of a question: an answer counts from the delivery of its report
abbrev pub asked_of : (DocId → Bool) → Asking → AskedDoc
asked_of gone asking =
    record { doc = asking.doc; verdict = if asking.is_delivered then asking.verdict else None; died = gone asking.doc }

-- an answer whose report was delivered is there
abbrev pub is_said : Asking → Bool
is_said asking = not asking.is_delivered || is_some asking.verdict

-- the question was just asked: no answer was delivered, and its document isn't gone
abbrev pub is_new : (DocId → Bool) → Asking → Bool
is_new gone asking = not asking.is_delivered && not (gone asking.doc)

-- the question once the report of the order's answer is delivered
abbrev pub heard : JobId → Asking → Asking
heard job asking = if asking.job.0 == job.0 then record asking { is_delivered = true } else asking

-- ---- the questions of one request

-- each document is asked in one order: a question is of this order exactly where it is of this document
abbrev pub AreOneEach : JobId → DocId → List Asking → Type 0
AreOneEach job doc [] = Unit {0}
AreOneEach job doc (asking ∷ asks) = ((asking.job.0 == job.0) ≡ (asking.doc.0 == doc.0)) × AreOneEach job doc asks

-- the order has this answer
abbrev pub AnswerIs : JobId → Verdict → List Asking → Type 0
AnswerIs job verdict [] = Unit {0}
AnswerIs job verdict (asking ∷ asks) = ((asking.job.0 == job.0) ≡ true → asking.verdict ≡ Some verdict) × AnswerIs job verdict asks

-- of the documents of these questions, those are gone now that were, and these
abbrev pub GoWith : (DocId → Bool) → (DocId → Bool) → List DocId → List Asking → Type 0
GoWith gone new docs [] = Unit {0}
GoWith gone new docs (asking ∷ asks) =
    (new asking.doc ≡ (list_any (is_doc asking.doc) docs || gone asking.doc)) × GoWith gone new docs asks

-- the check of questions of which some are open
abbrev pub open_check : (DocId → Bool) → List Asking → OpenCheck
open_check gone asks = record { asked = map (asked_of gone) asks; stay = None }

-- ---- the table

-- a request's check: while a question is open, the questions; once all are settled, the prompt that is up
abbrev pub IsCheckTied : Seen → Asked → OpenCheck → Bool → Type 0
IsCheckTied s q check false = check ≡ open_check (is_gone s) q.asks
IsCheckTied s q check true = (doc : DocId) → q.prompted ≡ Some doc → outcome_of check ≡ checks.Prompt doc

-- the request has begun, hasn't ended, and hasn't passed its check
abbrev pub is_checking : Seen → Asked → Bool
is_checking s q = is_checked q && is_under_way q && not (has_passed s q)

-- the request of a number, and what the table has at that number: a check exactly where the request is in one, and that check
abbrev pub AreTiedAt : Seen → Option Asked → Option OpenCheck → Type 0
AreTiedAt s None check = check ≡ None
AreTiedAt s (Some q) None = is_checking s q ≡ false
AreTiedAt s (Some q) (Some check) = (is_checking s q ≡ true) × IsCheckTied s q check (all_asked s q)

-- the same of a number in a table
abbrev pub IsTiedIn : Seen → List (ReqId × OpenCheck) → ReqId → Type 0
IsTiedIn s table req = AreTiedAt s (request_of s req) (check_of req table)

-- the table has the checks of exactly the requests that are in one, as the log has come to them
pub record AreChecksTied (s : Seen) (table : List (ReqId × OpenCheck)) : Type 0 where
  pub each : (req : ReqId) → IsTiedIn s table req

-- it has them but for one request, which is at hand
abbrev pub AreOthersTied : Seen → List (ReqId × OpenCheck) → ReqId → Type 0
AreOthersTied s table hand = (req : ReqId) → is_req req hand ≡ false → IsTiedIn s table req

-- each answer whose report was delivered is there
abbrev pub AreSaid : Seen → Type 0
AreSaid s = (req : ReqId) (q : Asked) → request_of s req ≡ Some q → list_all is_said q.asks ≡ true

-- ---- what the table reads of a request

-- a question, of which an answer isn't read before its delivery
abbrev pub as_heard : Asking → Asking
as_heard asking = record asking { verdict = if asking.is_delivered then asking.verdict else None }

pub record Checked : Type 0 where
  pub nr : ReqId
  pub what : Request
  pub is_started : Bool
  pub is_open : Bool
  pub asks : List Asking
  pub prompted : Option DocId
  pub answered : Option Bool

abbrev pub checked_of : Asked → Checked
checked_of q =
    record {
      nr = q.nr;
      what = q.what;
      is_started = q.is_started;
      is_open = is_none q.ending;
      asks = map as_heard q.asks;
      prompted = q.prompted;
      answered = q.answered;
    }
