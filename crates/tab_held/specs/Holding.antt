-- While a traversal in its unload check holds the queue the tab is brought to rest: the event is cut where the user was asked, or nobody was, as documents were discarded, and goes on from there.
-- HTML Standard, "apply the history step" and "checking if unloading is canceled". The table of checks, and that the event is cut, are this project's own.
use Rattle.asking_facts.specs.Known.{AskingKnown}
use Rattle.checking_facts.specs.Prompts.{told_by}
use Rattle.log_model.specs.Places.{is_traversal, is_under_way}
use Rattle.log_model.specs.Seen.{Asked, request_of}
use Rattle.log_model.specs.declared.job.Why.{Why}
use Rattle.log_model.specs.declared.row_kind.RowKind.{RowKind}
use Rattle.move_queue.specs.Queue.{Queue}
use Rattle.move_queue.specs.declared.queue_step.QueueStep.{QueueStep}
use Rattle.move_queue.specs.declared.queue_step.QueueStep.TheVariants.{Traverse}
use Rattle.row_facts.specs.Owed.Owed.{IsLoose, owes_seen}
use Rattle.seen_laws.specs.InEvent.{EndAsWanted, InEvent, cut_wanting, log_of, now_of}
use Rattle.std.specs.Option.{option_map_or}
use Rattle.std.specs.Prelude.{Bool, List, None, Some, [], false, true, ℤ, ◌++◌, ◌∷◌, ◌≡◌}
use Rattle.tab_doors.specs.declared.tables.Tables.{Tables}
use Rattle.tab_ids.specs.declared.DocId.{DocId}
use Rattle.tab_ids.specs.declared.ReqId.{ReqId}
use Rattle.tab_ids.specs.declared.StateId.{StateId}
use Rattle.tab_prompts.specs.Asking.{ArePrompts, BeginsAsked, told_all}
use Rattle.tab_prompts.specs.Prompts.{is_waiting, prompts_for, waiting_among}
use Rattle.tab_prompts.specs.Sparing.{new_notes, spares}
use Rattle.tab_settles.specs.Held.{InHeld, IsClearedIn}
use Rattle.tab_settles.specs.PassedOn.{InPass}
use Rattle.tab_settles.specs.Settling.{HasPut, HasSettled, LeavesOff}
use Rattle.tab_stands.specs.GoingOn.{GoesOn}
use Rattle.unload_check.specs.Checks.{OpenCheck, after_all_deaths, outcome_at}
use Rattle.unload_check.specs.declared.check.Check.TheVariants as checks
use Rattle.unload_check.specs.declared.check.Check.{Check}

-- of all traversals this one alone may have a check that waits
abbrev pub WaitsAlone : InEvent → List (ReqId × OpenCheck) → ReqId → Type 0
WaitsAlone e table req =
    (r : ReqId) (q : Asked) → request_of (log_of e []) r ≡ Some q → is_traversal q.what ≡ true → is_waiting table r ≡ true → r ≡ req

-- as the event's own row was logged, or the event was cut, the request is a traversal in its check that is under way; and its step waits first
pub record HoldsQueue (e : InEvent) (queue : Queue) (req : ReqId) : Type 0 where
  pub q : Asked
  pub at : request_of (log_of e []) req ≡ Some q
  pub goes : is_traversal q.what ≡ true
  pub runs : is_under_way q ≡ true
  pub on : e.checking req ≡ true
  pub delta : ℤ
  pub rest : List QueueStep
  pub front : queue.waiting ≡ Traverse req delta ∷ rest

-- ---- its check has come to an end

-- a check has come to an end that asks the user nothing
abbrev pub is_over : Check → Bool
is_over checks.Waiting = false
is_over (checks.Prompt doc) = false
is_over checks.Go = true
is_over checks.Stay = true

-- the request's check is settled, and no document wants a prompt
abbrev pub goes_on : List (ReqId × OpenCheck) → ReqId → Bool
goes_on table req = option_map_or is_over (outcome_at req table) false

-- the table was told of each run of discarded documents that a row has ended, and this one lasts
pub record IsToldOfEnded (e : InEvent) (out : List RowKind) (t u : Tables) (run : List DocId) : Type 0 where
  pub told : u ≡ record t { checks = (told_by e.ran t.checks out).checks }
  pub lasts : run ≡ (told_by e.ran t.checks out).run

-- the first part of a pass went by, and the table was told of each run that a row has ended; told of the one that lasts, too, the traversal's check is over; nothing is owed that later rows could undo, if that was so
pub record GoesOnAfter (p : InPass) (was out : List RowKind) (t u : Tables) (run : List DocId) (queue : Queue) (blame : List (StateId × ReqId)) (cause : Why) (req : ReqId) : Type 0 where
  pub before : Tables
  pub cleared : IsClearedIn true p out before queue blame cause
  pub put : HasPut p.event was out
  pub off : LeavesOff p.event was out
  pub loose : IsLoose p.event was → IsLoose p.event out
  pub checks : before.checks ≡ t.checks
  pub told : IsToldOfEnded p.event out before u run
  pub over : goes_on (after_all_deaths run u.checks) req ≡ true

-- ---- it waits on

-- a pass, the event that goes on as another one behind its first part, and that one
pub record InCut : Type 0 where
  pub held : InHeld
  pub at : InEvent

-- the prompt that is due, if one is, as the table is told of the rows
abbrev pub held_prompts : InEvent → List (ReqId × OpenCheck) → List RowKind → ReqId → List RowKind
held_prompts e table mid req = prompts_for (told_all e.ran table mid) (waiting_among table (req ∷ []))

-- the event cut behind these rows and it: the same requests are in their checks, and what follows is to spare the documents that the table has noted in the run that lasts
abbrev pub held_cut : InEvent → List RowKind → List (ReqId × OpenCheck) → ReqId → InEvent
held_cut e mid table req =
    cut_wanting e (mid ++ held_prompts e table mid req) e.checking (owes_seen e mid) (spares (new_notes (told_by e.ran table mid).checks (told_all e.ran table mid)))

-- the event has gone on behind the rows of the pass's first part and these prompts, and the rows of its second part were put out: the pass has gone by; the event it goes on as is as one that begins, no run of discarded documents lasts of which the table wasn't told, nothing but these rows is seen in the log without questions, and what the rows before the cut want of those behind it they have, if all of the event's have what it wants
pub record HasRestedAt (c : InCut) (mid prompts out : List RowKind) (u : Tables) (blame : List (StateId × ReqId)) (cause : Why) : Type 0 where
  pub are : ArePrompts prompts
  pub goes : GoesOn c.held.pass.event (mid ++ prompts) c.at
  pub same : c.at.checking ≡ c.held.pass.event.checking
  pub ran : c.at.ran ≡ []
  pub seen : now_of c.at [] ≡ now_of c.held.pass.event mid
  pub begins : BeginsAsked c.at u.checks
  pub known : AskingKnown (log_of c.held.pass.event mid) → AskingKnown (log_of c.at [])
  pub more : List RowKind
  pub is : out ≡ (mid ++ prompts) ++ more
  pub settled : HasSettled (record c.held.pass { event = c.at }) more u c.held.queue blame cause
  pub idle : u.running ≡ None
  pub put : HasPut c.at [] more
  pub off : LeavesOff c.at [] more
  pub wanted : EndAsWanted c.held.pass.event out → EndAsWanted c.at more

-- whichever requests are noted for stray documents, it has with these noted, if the first part left them so
abbrev pub RestsNoted : InCut → ReqId → List RowKind → Tables → List RowKind → Tables → Why → Type 0
RestsNoted c req mid t out u cause =
    (blame : List (StateId × ReqId)) → IsClearedIn true c.held.pass mid t c.held.queue blame cause → HasRestedAt c mid (held_prompts c.held.pass.event t.checks mid req) out u blame cause

-- so it has, behind a pass's first part and the prompt that is due as the table is told of that
pub record HasRestedHeld (p : InPass) (was out : List RowKind) (t u : Tables) (queue : Queue) (blame : List (StateId × ReqId)) (cause : Why) (req : ReqId) : Type 0 where
  pub mid : List RowKind
  pub before : Tables
  pub at_mid : IsClearedIn true p mid before queue blame cause
  pub cleared : HasPut p.event was mid
  pub cleared_off : LeavesOff p.event was mid
  pub checks : before.checks ≡ t.checks
  pub at : InEvent
  pub rested : HasRestedAt (record { held = record { pass = p; queue = queue }; at = at }) mid (held_prompts p.event t.checks mid req) out u blame cause
