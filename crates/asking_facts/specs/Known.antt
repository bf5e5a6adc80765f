-- What is known of a log's questions, prompts and answers, as one fact; and what is asked of a row, beside that it passes.
-- HTML Standard, "checking if unloading is canceled"; orders, reports and their numbers are this project's own.
use Rattle.std.specs.Prelude.{◌≡◌, true, Some}
use Rattle.log_model.specs.declared.row_kind.RowKind.{RowKind}
use Rattle.log_model.specs.declared.row_kind.RowKind.TheVariants as rows
use Rattle.log_model.specs.Seen.{Asked, Seen, request_of}
use Rattle.asking_facts.specs.Asking.{NoneAskedEarly}
use Rattle.asking_facts.specs.Prompting.{AllWanted, NoneAnsweredEarly, has_wanted}
use Rattle.asking_facts.specs.Waiting.{QuestionsWait, SendsFirst}
use Rattle.unasked.specs.Premises.{AreFresh, all_sited}

-- of a request that hasn't begun nothing is kept of a beginning, and each document's process has a desk; so questions aren't seen in the log without questions
pub record IsAskable (s : Seen) : Type 0 where
  pub fresh : AreFresh s.requests
  pub sited : all_sited s ≡ true

-- a request that hasn't begun asked nobody, questions wait, nobody answers who wasn't asked, and whoever was asked was so for a document that wanted it; and questions may come
pub record AskingKnown (s : Seen) : Type 0 where
  pub early : NoneAskedEarly s
  pub waits : QuestionsWait s
  pub unanswered : NoneAnsweredEarly s
  pub wanted : AllWanted s
  pub askable : IsAskable s

-- a question is the first to its document for its request, and the user is asked for the sake of a document that wants it
abbrev pub KeepsKnown : Seen → RowKind → Type 0
KeepsKnown s (rows.Sent job) = SendsFirst s job job.task
KeepsKnown s (rows.Prompted req doc) = (q : Asked) → request_of s req ≡ Some q → has_wanted doc q.asks ≡ true
KeepsKnown s _ = Unit {0}
