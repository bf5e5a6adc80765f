-- What is known of checks and prompts where an event began or was cut, and of the rows put out since.
-- HTML Standard, "checking if unloading is canceled". The table of checks, and who is in its check, are this project's own.
use Rattle.asking_facts.specs.Noting.{IsToPrompt}
use Rattle.asking_facts.specs.Prompting.{NoneAnsweredEarly, NotesWanted}
use Rattle.check_facts.specs.Prompting.{IsAskDue, todo_of}
use Rattle.checking_facts.specs.Prompts.{AreAskedDuly}
pub use Rattle.checking_facts.specs.Prompts.{told_all}
use Rattle.log_model.specs.Places.{all_asked, is_traversal, is_under_way}
use Rattle.log_model.specs.Seen.{Asked, Asking, Seen, request_of}
use Rattle.log_model.specs.declared.row_kind.RowKind.TheVariants as rows
use Rattle.log_model.specs.declared.row_kind.RowKind.{RowKind}
use Rattle.seen_facts.specs.Hang.Members.{Has}
use Rattle.seen_laws.specs.InEvent.{InEvent, log_of}
use Rattle.std.specs.List.{list_all}
use Rattle.std.specs.Prelude.{Bool, List, None, Option, Some, [], false, not, true, ◌&&◌, ◌==◌, ◌∷◌, ◌≡◌, ◌⊎◌}
use Rattle.tab_ids.specs.declared.DocId.{DocId}
use Rattle.tab_ids.specs.declared.ReqId.{ReqId}
use Rattle.tab_prompts.specs.Prompts.{is_waiting}
use Rattle.unasked_dues.specs.Checking.{NonePasses}
use Rattle.unload_check.specs.Checks.{OpenCheck, check_of}

-- none of the answers to these questions was delivered
abbrev pub are_unheard : List Asking → Bool
are_unheard asks = list_all (λ (asking : Asking). not asking.is_delivered) asks

-- of the request a question was open as the event began
pub record WasOpen (start : Seen) (req : ReqId) : Type 0 where
  pub was : Asked
  pub found : request_of start req ≡ Some was
  pub open_ : all_asked start was ≡ false

-- as the event's own row was logged, or the event was cut: the table held each check, and no traversal in its check had passed; whichever document it noted for a request wanted a prompt; no request has an answer of the user that has no prompt; one whose check waits had an open question as the event began, or no answer of it was delivered; there is no check without a request; and no order was just finished
pub record BeginsAsked (e : InEvent) (checks : List (ReqId × OpenCheck)) : Type 0 where
  pub asked : AreAskedDuly e.checking e.start (log_of e []) (record { checks = checks; run = e.ran })
  pub calm : NonePasses e.checking (log_of e [])
  pub notes : NotesWanted (log_of e []) checks
  pub unanswered : NoneAnsweredEarly (log_of e [])
  pub opens : (req : ReqId) (q : Asked) → request_of (log_of e []) req ≡ Some q → is_waiting checks req ≡ true → WasOpen e.start req ⊎ (are_unheard q.asks ≡ true)
  pub there : (req : ReqId) → request_of (log_of e []) req ≡ None → check_of req checks ≡ None
  pub finished : (log_of e []).just_finished ≡ None

-- all of it but that no traversal in its check had passed
pub record BeginsMost (e : InEvent) (checks : List (ReqId × OpenCheck)) : Type 0 where
  pub asked : AreAskedDuly e.checking e.start (log_of e []) (record { checks = checks; run = e.ran })
  pub notes : NotesWanted (log_of e []) checks
  pub unanswered : NoneAnsweredEarly (log_of e [])
  pub opens : (req : ReqId) (q : Asked) → request_of (log_of e []) req ≡ Some q → is_waiting checks req ≡ true → WasOpen e.start req ⊎ (are_unheard q.asks ≡ true)
  pub there : (req : ReqId) → request_of (log_of e []) req ≡ None → check_of req checks ≡ None
  pub finished : (log_of e []).just_finished ≡ None

-- ---- the user is to be asked

-- about the request, for the sake of the document that the table notes: it is in its check and under way, and the last of its questions that were open as the event began was settled since
pub record IsPromptDue (checking : ReqId → Bool) (start now : Seen) (table : List (ReqId × OpenCheck)) (req : ReqId) (doc : DocId) : Type 0 where
  pub q : Asked
  pub at : request_of now req ≡ Some q
  pub ready : IsToPrompt q
  pub due : IsAskDue start now req
  pub noted : todo_of table req ≡ Some doc
  pub on : checking req ≡ true

-- of each of these requests for which the table notes one
abbrev pub EachIsDue : (ReqId → Bool) → Seen → Seen → List (ReqId × OpenCheck) → List ReqId → Type 0
EachIsDue checking start now table reqs =
    (req : ReqId) (doc : DocId) → Has reqs req → todo_of table req ≡ Some doc → IsPromptDue checking start now table req doc

-- the request, if it is there, is under way
abbrev pub IsUnderWay : Seen → ReqId → Type 0
IsUnderWay s req = (q : Asked) → request_of s req ≡ Some q → is_under_way q ≡ true

-- so is each of these
abbrev pub AreUnderWay : Seen → List ReqId → Type 0
AreUnderWay s reqs = (req : ReqId) → Has reqs req → IsUnderWay s req

-- these are all traversals that wait by the table and are under way
abbrev pub AreAllWaiting : Seen → List (ReqId × OpenCheck) → List ReqId → Type 0
AreAllWaiting s checks reqs =
    (req : ReqId) (q : Asked) → request_of s req ≡ Some q → is_traversal q.what ≡ true → is_under_way q ≡ true → is_waiting checks req ≡ true → Has reqs req

-- no request is twice among these
abbrev pub AreApart : List ReqId → Type 0
AreApart [] = Unit {0}
AreApart (req ∷ reqs) = ((other : ReqId) → Has reqs other → (other.0 == req.0) ≡ false) × AreApart reqs

-- one of them isn't, if it was prompted
abbrev pub without : Option DocId → ReqId → (ReqId → Bool) → ReqId → Bool
without None req but r = but r
without (Some doc) req but r = but r && not (r.0 == req.0)

-- of those left out, these aren't any more, where the table noted a prompt
abbrev pub left_of : List (ReqId × OpenCheck) → List ReqId → (ReqId → Bool) → ReqId → Bool
left_of table [] but = but
left_of table (req ∷ reqs) but = left_of table reqs (without (todo_of table req) req but)

-- the rows ask the user, and nothing else
abbrev pub ArePrompts : List RowKind → Type 0
ArePrompts [] = Unit {0}
ArePrompts (rows.Prompted req doc ∷ more) = ArePrompts more
ArePrompts (_ ∷ more) = ⊥
