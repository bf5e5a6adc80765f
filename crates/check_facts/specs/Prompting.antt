-- The prompts that the rows of an event so far ask of its later rows.
-- HTML Standard, "checking if unloading is canceled". One prompt for each request, for the lowest-numbered document that wants one, and at which row it comes are this project's own.
use Rattle.std.specs.Prelude.{◌≡◌, ◌⊎◌, Bool, true, false, not, ◌&&◌, List, [], ◌∷◌, map, fold, take_while, option_to_list, option_and_then, Option, Some, None, is_some, if◌then◌else◌}
use Rattle.tab_ids.specs.declared.DocId.{DocId}
use Rattle.tab_ids.specs.declared.ReqId.{ReqId}
use Rattle.log_model.specs.declared.row_kind.LogRow.{LogRow}
use Rattle.log_model.specs.declared.row_kind.RowKind.{RowKind}
use Rattle.log_model.specs.Equal.{holds}
use Rattle.log_model.specs.Outcomes.{is_drop}
use Rattle.log_model.specs.Seen.{Seen, Asked, Asking, request_of}
use Rattle.log_model.specs.After.{after}
use Rattle.log_model.specs.Places.{is_gone, all_asked}
use Rattle.log_model.specs.Checks.{due_prompt, is_of_run, goes_on_with, is_settled_by, prompt_in, prompts_are}
use Rattle.unload_check.specs.declared.check.Check.{Check}
use Rattle.unload_check.specs.declared.check.Check.TheVariants as checks
use Rattle.unload_check.specs.Checks.{OpenCheck, outcome_at}
use Rattle.seen_laws.specs.Blocks.{MayLog}
use Rattle.seen_laws.specs.InEvent.{InEvent, rows_of, start_of, log_of}
use Rattle.row_facts.specs.FrameRows.Lawful.{IsRestOf}

-- ---- which requests are settled in the event

-- the request has questions
abbrev pub is_asked : List Asking → Bool
is_asked [] = false
is_asked (asking ∷ asks) = true

-- the request has questions, and each of them is settled
abbrev pub has_settled : Seen → Asked → Bool
has_settled s q = is_asked q.asks && all_asked s q

-- the request of the number had questions, each of them settled, as the event began
abbrev pub had_settled : Seen → ReqId → Bool
had_settled start req = holds (has_settled start) (request_of start req)

-- ---- the prompt that is due

-- where the run of Discard and Prompted rows in front of these ends
abbrev pub run_end : Seen → List LogRow → Seen
run_end now later = fold after now (take_while is_of_run later)

-- these rows don't begin with such a run
abbrev pub RunsNot : List LogRow → Type 0
RunsNot later = take_while is_of_run later ≡ []

-- what is due, unless the request was prompted already
abbrev pub unless_prompted : Asked → Option DocId → Option DocId
unless_prompted q due = if is_some q.prompted then None else due

-- the prompt that is noted, or else the other
abbrev pub noted_or : Option DocId → Option DocId → Option DocId
noted_or noted due = if is_some noted then noted else due

-- the prompt that later rows owe to a request: the one that is noted for it, or that of where the run in front of them ends
abbrev pub still_due : (ReqId → Option DocId) → Seen → List LogRow → Asked → Option DocId
still_due todo now later q = unless_prompted q (noted_or (todo q.nr) (due_prompt (run_end now later) q))

-- exactly this prompt comes, and before the request goes on
abbrev pub comes : Option DocId → ReqId → List LogRow → Bool
comes due req later =
    prompts_are (option_to_list due) req later
    && prompts_are (option_to_list due) req (take_while (λ row. not (goes_on_with req row)) later)

-- each request that was settled in the event has this of the later rows
abbrev pub EachSettled : Seen → Seen → (ReqId → Asked → Type 0) → Type 0
EachSettled start now P =
    (req : ReqId) (q : Asked) → request_of now req ≡ Some q → had_settled start req ≡ false → has_settled now q ≡ true → P req q

-- each of them is prompted as it is due
abbrev pub PromptsCome : Seen → (ReqId → Option DocId) → Seen → List LogRow → Type 0
PromptsCome start todo now later = EachSettled start now (λ req q. comes (still_due todo now later q) req later ≡ true)

-- each of them is prompted as it is noted, where no run is in front
abbrev pub NotedCome : Seen → (ReqId → Option DocId) → Seen → List LogRow → Type 0
NotedCome start todo now later = EachSettled start now (λ req q. comes (unless_prompted q (todo q.nr)) req later ≡ true)

-- the prompts that were noted while their run still lasts are those due where it ends
abbrev pub Agrees : (ReqId → Option DocId) → (ReqId → Bool) → Seen → List LogRow → Type 0
Agrees todo ran now later =
    (req : ReqId) (q : Asked) → request_of now req ≡ Some q → ran req ≡ true → due_prompt (run_end now later) q ≡ todo req

-- no request was noted while its run lasts
abbrev pub none_ran : ReqId → Bool
none_ran req = false

-- where no run is in front, they agree with what is due now
abbrev pub AgreesNow : (ReqId → Option DocId) → (ReqId → Bool) → Seen → Type 0
AgreesNow todo ran now =
    (req : ReqId) (q : Asked) → request_of now req ≡ Some q → ran req ≡ true → due_prompt now q ≡ todo req

-- ---- what is noted

-- a request that was settled in the event and not prompted
abbrev pub EachUnprompted : Seen → Seen → (ReqId → Asked → Type 0) → Type 0
EachUnprompted start now P = EachSettled start now (λ req q. is_some q.prompted ≡ false → P req q)

-- more is noted while a run lasts: what was noted still is, and a note more is one of the run
pub record NotesMore (start : Seen) (todo : ReqId → Option DocId) (ran : ReqId → Bool) (new : ReqId → Option DocId) (runs : ReqId → Bool) (now : Seen) : Type 0 where
  pub kept : (req : ReqId) → ran req ≡ true → (runs req ≡ true) × (new req ≡ todo req)
  pub more : EachUnprompted start now (λ req q. (new q.nr ≡ todo q.nr) ⊎ ((todo q.nr ≡ None) × (runs q.nr ≡ true)))

-- a run ends: the new note is the old one, or what is due where there is none
abbrev pub Notes : Seen → (ReqId → Option DocId) → (ReqId → Option DocId) → Seen → Type 0
Notes start todo new now = EachUnprompted start now (λ req q. new q.nr ≡ noted_or (todo q.nr) (due_prompt now q))

-- nothing is due but what is noted
abbrev pub NothingElseDue : Seen → (ReqId → Option DocId) → Seen → Type 0
NothingElseDue start todo now = EachUnprompted start now (λ req q. todo q.nr ≡ None → due_prompt now q ≡ None)

-- the row goes on with no request whose prompt is to come
abbrev pub WaitsForNoted : Seen → (ReqId → Option DocId) → Seen → LogRow → Type 0
WaitsForNoted start todo now row =
    EachUnprompted start now (λ req q. is_some (todo q.nr) ≡ true → goes_on_with req row ≡ false)

-- no prompt is due any more
abbrev pub IsUnprompted : Seen → (ReqId → Option DocId) → Seen → Type 0
IsUnprompted start todo now =
    EachUnprompted start now (λ req q. (todo q.nr ≡ None) × (due_prompt now q ≡ None))

-- ---- the table of checks notes it

-- the prompt that a check has come to
abbrev pub prompt_of : Check → Option DocId
prompt_of (checks.Prompt doc) = Some doc
prompt_of _ = None

-- the prompts to come, by the table
abbrev pub todo_of : List (ReqId × OpenCheck) → ReqId → Option DocId
todo_of table req = option_and_then prompt_of (outcome_at req table)

-- ---- the event

-- what the event's rows so far ask of what comes later in it, prompts among it
pub record IsRestAsking (e : InEvent) (todo : ReqId → Option DocId) (ran : ReqId → Bool) (out : List RowKind) (later : List LogRow) : Type 0 where
  pub rest : IsRestOf e out later
  pub prompts : PromptsCome e.start todo (log_of e out) later
  pub agrees : Agrees todo ran (log_of e out) later

-- the own row and those put out so far pass each test, whatever comes later, if that prompts as it is due
unfoldable pub AreAsking : InEvent → (ReqId → Option DocId) → (ReqId → Bool) → List RowKind → Type 0
AreAsking e todo ran out = MayLog (start_of e) (rows_of e out) (IsRestAsking e todo ran out)

-- ---- what a row does to the questions

-- a question but for whether its answer was heard
abbrev pub silent : Asking → Asking
silent asking = record asking { is_delivered = false }

-- two states of a request, of which a prompt reads the same; it may have been dropped between them
pub record SameQuestions (q r : Asked) : Type 0 where
  pub nr : r.nr ≡ q.nr
  pub asks : map silent r.asks ≡ map silent q.asks
  pub prompted : r.prompted ≡ q.prompted
  pub dropped : holds is_drop q.ending ≡ true → holds is_drop r.ending ≡ true

-- a request before a row and after it: a prompt reads the same of it, and if it was settled it is
pub record IsStillAsked (now next : Seen) (req : ReqId) (q : Asked) : Type 0 where
  pub after_ : Asked
  pub found : request_of next req ≡ Some after_
  pub same : SameQuestions q after_
  pub settled : all_asked now q ≡ true → all_asked next after_ ≡ true

-- a row between two states that asks nobody, and after which what was settled is
pub record KeepsQuestions (now next : Seen) : Type 0 where
  pub later : (req : ReqId) (q : Asked) → request_of now req ≡ Some q → IsStillAsked now next req q
  -- who was gone is
  pub gone : (doc : DocId) → is_gone now doc ≡ true → is_gone next doc ≡ true

-- the same of the requests that are settled: one that isn't may be asked something
pub record KeepsSettled (now next : Seen) : Type 0 where
  pub later : (req : ReqId) (q : Asked) → request_of now req ≡ Some q → has_settled now q ≡ true → IsStillAsked now next req q
  pub gone : (doc : DocId) → is_gone now doc ≡ true → is_gone next doc ≡ true

-- nobody is dropped between the two states
abbrev pub DropsNone : Seen → Seen → Type 0
DropsNone now next =
    (req : ReqId) (q r : Asked) → request_of now req ≡ Some q → request_of next req ≡ Some r → holds is_drop r.ending ≡ holds is_drop q.ending

-- the row asks the user nothing
abbrev pub PromptsNone : LogRow → Type 0
PromptsNone row = (req : ReqId) → prompt_in req row ≡ None

-- a row of a run that asks the user nothing, and goes on with nothing: it discards a document
pub record IsDiscarding (row : LogRow) : Type 0 where
  pub runs : is_of_run row ≡ true
  pub asks : PromptsNone row
  pub stays : (req : ReqId) → goes_on_with req row ≡ false

-- the user is asked about the request: a question of it was open as the event began, each is settled, and it has no prompt
pub record IsAskDue (start now : Seen) (req : ReqId) : Type 0 where
  pub was : Asked
  pub found_then : request_of start req ≡ Some was
  pub open_then : all_asked start was ≡ false
  pub q : Asked
  pub found : request_of now req ≡ Some q
  pub settled : has_settled now q ≡ true
  pub unprompted : is_some q.prompted ≡ false

-- a row beside the prompts that are to come: it isn't of a run, prompts nobody, keeps what is settled, and goes on with no request that waits for its prompt, where nothing is due but what is noted
pub record IsAside (start : Seen) (todo : ReqId → Option DocId) (now : Seen) (row : LogRow) : Type 0 where
  pub ends : is_of_run row ≡ false
  pub quiet : PromptsNone row
  pub keeps : KeepsSettled now (after now row)
  pub nothing : NothingElseDue start todo now
  pub waits : WaitsForNoted start todo now row

-- rows one after the other, each of them such a one
abbrev pub AreAside : Seen → (ReqId → Option DocId) → Seen → List LogRow → Type 0
AreAside start todo now [] = Unit {0}
AreAside start todo now (row ∷ rows) = IsAside start todo now row × AreAside start todo (after now row) rows

-- each request is found by its number
abbrev pub HaveNumbers : Seen → Type 0
HaveNumbers s = (req : ReqId) (q : Asked) → request_of s req ≡ Some q → q.nr ≡ req

-- ---- requests whose last question a row settles

-- the request wasn't settled as the event began, and has no prompt; what is noted for it is that of the run that lasts
pub record MayBeSettled (start : Seen) (todo : ReqId → Option DocId) (ran : ReqId → Bool) (q : Asked) : Type 0 where
  pub fresh : had_settled start q.nr ≡ false
  pub unprompted : is_some q.prompted ≡ false
  pub noted : is_some (todo q.nr) ≡ true → ran q.nr ≡ true

-- each request whose last question the row settles is such a one
abbrev pub SettlesDue : Seen → (ReqId → Option DocId) → (ReqId → Bool) → Seen → LogRow → Type 0
SettlesDue start todo ran now row =
    (q : Asked) → request_of now q.nr ≡ Some q → is_settled_by now (after now row) q ≡ true → MayBeSettled start todo ran q

-- what was settled as the event began still is
abbrev pub StaySettled : Seen → Seen → Type 0
StaySettled start now = (req : ReqId) → had_settled start req ≡ true → had_settled now req ≡ true

-- each request that has a prompt is settled
abbrev pub PromptedSettled : Seen → Type 0
PromptedSettled s =
    (req : ReqId) (q : Asked) → request_of s req ≡ Some q → is_some q.prompted ≡ true → has_settled s q ≡ true

-- nothing is noted for a request with an open question
abbrev pub OpenUnnoted : (ReqId → Option DocId) → Seen → Type 0
OpenUnnoted todo now =
    (q : Asked) → request_of now q.nr ≡ Some q → all_asked now q ≡ false → todo q.nr ≡ None
