-- As the tab has come to rest the table of checks is told of what the event discarded, and the user is asked about each request whose last question that settled: the event is cut behind the prompts, and the tab is at rest there.
-- HTML Standard, "checking if unloading is canceled". The table of checks, and that the event is cut, are this project's own.
use Rattle.asking_facts.specs.Known.{AskingKnown}
use Rattle.check_facts.specs.Prompting.{todo_of}
use Rattle.checking_facts.specs.Prompts.{told_all, told_by}
use Rattle.log_model.specs.Checks.{due_prompt}
use Rattle.log_model.specs.Places.{has_passed, is_traversal}
use Rattle.log_model.specs.Seen.{Asked, Seen, request_of}
use Rattle.log_model.specs.declared.job.Why.{Why}
use Rattle.log_model.specs.declared.row_kind.RowKind.{RowKind}
use Rattle.move_queue.specs.Queue.{Queue}
use Rattle.row_facts.specs.Owed.Owed.{IsLoose, owes_seen}
use Rattle.seen_facts.specs.Hang.Members.{Has}
use Rattle.seen_laws.specs.InEvent.{EndAsWanted, InEvent, cut_wanting, log_of, now_of, row_of}
use Rattle.std.specs.Prelude.{List, None, Some, [], false, map, true, ◌++◌, ◌≡◌}
use Rattle.tab_doors.specs.declared.tables.Tables.{Tables}
use Rattle.tab_ids.specs.declared.ReqId.{ReqId}
use Rattle.tab_ids.specs.declared.StateId.{StateId}
use Rattle.tab_prompts.specs.Asking.{AreApart, AreUnderWay, BeginsAsked}
use Rattle.tab_prompts.specs.Prompts.{is_settled_in, is_waiting, prompts_for, waiting_among}
use Rattle.tab_prompts.specs.Sparing.{new_notes, spares}
use Rattle.tab_settles.specs.PassedOn.{InPass}
use Rattle.tab_settles.specs.Held.{HasCleared}
use Rattle.tab_settles.specs.Settling.{HasSettled}
use Rattle.tab_stands.specs.GoingOn.{GoesOn}
use Rattle.unload_check.specs.Checks.{OpenCheck, outcome_at}
use Rattle.unload_check.specs.declared.check.Check.TheVariants as checks

-- ---- who may be asked about

-- none of these requests is twice among them, and whose check waits is under way; each traversal whose check waits is among them, and waits on as the table is told
pub record AreToAskAbout (e : InEvent) (out : List RowKind) (checks : List (ReqId × OpenCheck)) (reqs : List ReqId) : Type 0 where
  pub apart : AreApart reqs
  pub under : AreUnderWay (log_of e out) (waiting_among checks reqs)
  pub all : (req : ReqId) (q : Asked) → request_of (log_of e out) req ≡ Some q → is_traversal q.what ≡ true → is_waiting checks req ≡ true → Has reqs req
  pub waits : (req : ReqId) (q : Asked) → request_of (log_of e out) req ≡ Some q → is_traversal q.what ≡ true → is_waiting checks req ≡ true → is_settled_in (told_all e.ran checks out) req ≡ false

-- ---- the prompts, and the event cut behind them

abbrev pub prompts_due : InEvent → List RowKind → List (ReqId × OpenCheck) → List ReqId → List RowKind
prompts_due e out checks reqs = prompts_for (told_all e.ran checks out) (waiting_among checks reqs)

-- the same requests are in their checks, and what follows is to spare the documents that the table has noted in the run that lasts
abbrev pub prompted_cut : InEvent → List RowKind → List (ReqId × OpenCheck) → List ReqId → InEvent
prompted_cut e out checks reqs =
    cut_wanting e (out ++ prompts_due e out checks reqs) e.checking (owes_seen e out) (spares (new_notes (told_by e.ran checks out).checks (told_all e.ran checks out)))

-- ---- who goes on

-- the request has passed its check, no prompt is due, and the table notes none for it
pub record MayGoOn (s : Seen) (checks : List (ReqId × OpenCheck)) (req : ReqId) (q : Asked) : Type 0 where
  pub passed : has_passed s q ≡ true
  pub undue : due_prompt s q ≡ None
  pub unnoted : todo_of checks req ≡ None

-- ---- the user was asked

-- the prompts were put out, and of the tables no more changed than that the table of checks was told; the event goes on behind them, where the tab is at rest as it was, or up to the walk of a pass, what is known of checks is so anew, and the log without questions is as it was; a request that waited, and whose check goes on now, has passed it; and rows that spare those documents are as it is wanted there, if with the rows before they are as it was wanted
pub record HasAskedAbout (p : InPass) (reqs : List ReqId) (was out : List RowKind) (t u : Tables) : Type 0 where
  pub is : out ≡ was ++ prompts_due p.event was t.checks reqs
  pub tables : u ≡ record t { checks = told_all p.event.ran t.checks was }
  pub goes : GoesOn p.event (was ++ prompts_due p.event was t.checks reqs) (prompted_cut p.event was t.checks reqs)
  pub settled : (queue : Queue) (blame : List (StateId × ReqId)) (cause : Why) → HasSettled p was t queue blame cause → HasSettled (record p { event = prompted_cut p.event was t.checks reqs }) [] u queue blame cause
  pub cleared : (queue : Queue) (blame : List (StateId × ReqId)) (cause : Why) → HasCleared false p was t queue blame cause → HasCleared false (record p { event = prompted_cut p.event was t.checks reqs }) [] u queue blame cause
  pub goers : (req : ReqId) (q : Asked) → Has reqs req → is_waiting t.checks req ≡ true → request_of (log_of (prompted_cut p.event was t.checks reqs) []) req ≡ Some q → outcome_at req u.checks ≡ Some checks.Go → MayGoOn (log_of (prompted_cut p.event was t.checks reqs) []) u.checks req q
  pub begins : BeginsAsked (prompted_cut p.event was t.checks reqs) u.checks
  pub known : AskingKnown (log_of p.event was) → AskingKnown (log_of (prompted_cut p.event was t.checks reqs) [])
  pub seen : now_of (prompted_cut p.event was t.checks reqs) [] ≡ now_of p.event was
  pub loose : IsLoose p.event was → IsLoose (prompted_cut p.event was t.checks reqs) []
  pub wanted : (more : List RowKind) → spares (new_notes (told_by p.event.ran t.checks was).checks (told_all p.event.ran t.checks was)) (map (row_of p.event) more) ≡ true → EndAsWanted p.event (out ++ more) → EndAsWanted (prompted_cut p.event was t.checks reqs) more
