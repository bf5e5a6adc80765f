-- Prompts and what comes of them: nobody answers who wasn't asked, and the user is asked for the sake of a document that wanted it.
-- HTML Standard, "checking if unloading is canceled".
use Rattle.std.specs.Prelude.{◌≡◌, Bool, true, false, ◌&&◌, ◌==◌, List, Option, Some, None, is_some}
use Rattle.std.specs.List.{list_any}
use Rattle.tab_ids.specs.declared.DocId.{DocId}
use Rattle.tab_ids.specs.declared.ReqId.{ReqId}
use Rattle.log_model.specs.declared.job.Order.{Order}
use Rattle.log_model.specs.declared.job.Why.TheVariants as whys
use Rattle.log_model.specs.declared.outcome.Outcome.{Outcome}
use Rattle.log_model.specs.declared.outcome.Outcome.TheVariants as outcomes
use Rattle.log_model.specs.declared.row_kind.RowKind.{RowKind}
use Rattle.log_model.specs.declared.row_kind.RowKind.TheVariants as rows
use Rattle.log_model.specs.Equal.{holds}
use Rattle.log_model.specs.Seen.{Asked, Asking, Seen, desk_of, request_of}
use Rattle.unload_check.specs.Checks.{OpenCheck}
use Rattle.check_facts.proofs.Checkings.{wants}
use Rattle.check_facts.specs.Prompting.{todo_of}
use Rattle.asking_facts.specs.Waiting.{SaysOf}

-- ---- answers

-- a request without a prompt has no answer of the user
abbrev pub NoneAnsweredEarly : Seen → Type 0
NoneAnsweredEarly s = (req : ReqId) (q : Asked) → request_of s req ≡ Some q → is_some q.prompted ≡ false → q.answered ≡ None

-- what is asked of a row: the user answers where a prompt is up
abbrev pub AnswersPrompt : Seen → RowKind → Type 0
AnswersPrompt s (rows.Answered req stay) = (q : Asked) → request_of s req ≡ Some q → is_some q.prompted ≡ true
AnswersPrompt s _ = Unit {0}

-- ---- documents that want a prompt

-- one of these questions was to the document, which answered that it wants a prompt
abbrev pub has_wanted : DocId → List Asking → Bool
has_wanted doc asks = list_any (λ (asking : Asking). asking.doc.0 == doc.0 && holds wants asking.verdict) asks

-- the user was asked for the sake of a document that wanted it
pub record WasWanted (q : Asked) : Type 0 where
  pub doc : DocId
  pub prompted : q.prompted ≡ Some doc
  pub wanted : has_wanted doc q.asks ≡ true

-- of each request whose prompt is up, the document did
abbrev pub AllWanted : Seen → Type 0
AllWanted s = (req : ReqId) (q : Asked) → request_of s req ≡ Some q → (doc : DocId) → q.prompted ≡ Some doc → has_wanted doc q.asks ≡ true

-- whichever document the table notes for a request did
abbrev pub NotesWanted : Seen → List (ReqId × OpenCheck) → Type 0
NotesWanted now table = (req : ReqId) (q : Asked) → request_of now req ≡ Some q → (doc : DocId) → todo_of table req ≡ Some doc → has_wanted doc q.asks ≡ true

-- an order that ends with an answer had none
abbrev pub AnswersNew : Seen → Option Order → Outcome → Type 0
AnswersNew s (Some order) (outcomes.Asked verdict) =
    (req : ReqId) (q : Asked) → order.job.why ≡ whys.Req req → request_of s req ≡ Some q → SaysOf order.job.nr None q.asks
AnswersNew s _ _ = Unit {0}

-- what is asked of a row: the user is asked for the sake of a document that wanted it, and no answer replaces another
abbrev pub PromptsWanted : Seen → RowKind → Type 0
PromptsWanted s (rows.Prompted req doc) = (q : Asked) → request_of s req ≡ Some q → has_wanted doc q.asks ≡ true
PromptsWanted s (rows.Finished proc job outcome) = AnswersNew s (desk_of s proc).in_hand outcome
PromptsWanted s _ = Unit {0}
