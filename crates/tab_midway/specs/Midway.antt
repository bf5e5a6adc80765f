-- A traversal passes its unload check in the midst of an event, where it was cut: what is known there, and what is so once it has gone on.
-- HTML Standard, "checking if unloading is canceled" and "traverse the history by a delta". Who is in its check, the table of checks, where an event is cut, and the log without questions are this project's own.
use Rattle.asking_facts.specs.Prompting.{NoneAnsweredEarly}
use Rattle.asking_facts.specs.Standing.{StandsAsked}
use Rattle.check_facts.specs.Prompting.{todo_of}
use Rattle.checking_facts.specs.Checks.{just}
use Rattle.log_model.specs.Checks.{due_prompt}
use Rattle.log_model.specs.Places.{has_passed, is_traversal, is_under_way}
use Rattle.log_model.specs.Seen.{Asked, request_of}
use Rattle.log_model.specs.declared.job.Why.{Why}
use Rattle.log_model.specs.declared.job.Why.TheVariants as whys
use Rattle.move_queue.specs.Queue.{Queue}
use Rattle.row_facts.specs.Owed.Owed.{IsLoose}
use Rattle.seen_facts.specs.LoadEnds.Standing.{LoadsStand}
use Rattle.seen_laws.specs.InEvent.{InEvent, cut, log_of, now_of, running}
use Rattle.std.specs.Prelude.{List, None, Some, [], false, true, ◌≡◌, ◌⊎◌}
use Rattle.tab_doors.specs.Working.{IsToCome, MayDiscardIn}
use Rattle.tab_doors.specs.declared.tables.Tables.{Tables}
use Rattle.tab_facts.specs.Calm.Calm.{IsCalm}
use Rattle.tab_facts.specs.FrameWhole.Tab.{AreAwakeWithRows}
use Rattle.tab_ids.specs.declared.ReqId.{ReqId}
use Rattle.tab_ids.specs.declared.StateId.{StateId}
use Rattle.tab_ids.specs.declared.Step.{Step}
use Rattle.tab_midway.specs.Owing.{due_without}
use Rattle.tab_passed.specs.Passing.{without}
use Rattle.tab_prompts.specs.Asking.{BeginsAsked, WasOpen, are_unheard}
use Rattle.tab_prompts.specs.Prompts.{is_waiting}
use Rattle.tab_settles.specs.PassedOn.{InPass}
use Rattle.tab_settles.specs.Settling.{IsReady, IsReadyIn, MakesServe, OrdersAreSound}
use Rattle.unload_check.specs.Checks.{OpenCheck, check_of}

-- ---- before

-- behind the event's cut, where nothing more was put out, and a run of discarded documents may last of which the table wasn't told: no traversal runs, and a pass may follow that sweeps; ongoing loads stand, the tab is calm, who is awake has an entry, and nothing is owed that later rows could undo; what is known of its checks, but that this traversal has passed; orders on their way are for what they may be
pub record IsCutFor (p : InPass) (t : Tables) (queue : Queue) (blame : List (StateId × ReqId)) (cause : Why) (req : ReqId) : Type 0 where
  pub idle : t.running ≡ None
  pub ready : IsReadyIn true p [] t queue blame cause
  pub stand : LoadsStand (now_of p.event [])
  pub calm : IsCalm (now_of p.event [])
  pub rows_ : AreAwakeWithRows (now_of p.event [])
  pub loose : IsLoose p.event []
  pub stands : StandsAsked (IsToCome None p.event []) (just req) p.event [] (record { checks = t.checks; run = p.event.ran })
  -- no request has an answer of the user that has no prompt; one whose check waits had an open question as the event began, or no answer of it was delivered; there is no check without a request; and no order was just finished
  pub unanswered : NoneAnsweredEarly (log_of p.event [])
  pub opens : (r : ReqId) (q : Asked) → request_of (log_of p.event []) r ≡ Some q → is_waiting t.checks r ≡ true → WasOpen p.event.start r ⊎ (are_unheard q.asks ≡ true)
  pub there : (r : ReqId) → request_of (log_of p.event []) r ≡ None → check_of r t.checks ≡ None
  pub finished : (log_of p.event []).just_finished ≡ None
  pub makes : MakesServe (now_of p.event [])
  pub sound : OrdersAreSound (now_of p.event [])

-- the traversal is under way with this goal, is in its check, has passed it, no prompt is due, and the table notes none for it
pub record IsToGoOn (e : InEvent) (checks : List (ReqId × OpenCheck)) (req : ReqId) (q : Asked) (goal : Step) : Type 0 where
  pub at : request_of (log_of e []) req ≡ Some q
  pub goes : is_traversal q.what ≡ true
  pub under : is_under_way q ≡ true
  pub to : q.goal ≡ Some goal
  pub on : e.checking req ≡ true
  pub passed : has_passed (log_of e []) q ≡ true
  pub undue : due_prompt (log_of e []) q ≡ None
  pub unnoted : todo_of checks req ≡ None

-- ---- after

-- the event cut there, with no rows more, and the traversal not in its check any more; the run of discarded documents that lasts goes on
abbrev pub gone_on : InEvent → ReqId → InEvent
gone_on e req = running (cut e [] (without e.checking req) (due_without e req)) e.ran

-- and the pass in it
abbrev pub pass_on : InPass → ReqId → InPass
pass_on p req = record p { event = gone_on p.event req }

-- it has gone on: a pass may follow for it; what is known of the event's checks is so anew, no traversal in its check having passed; a document may be discarded, as no step is in its check; nothing is owed that later rows could undo; and orders on their way are for what they may be
pub record HasGoneOn (p : InPass) (u : Tables) (left : Queue) (blame : List (StateId × ReqId)) (req : ReqId) : Type 0 where
  pub ready : IsReady (pass_on p req) [] u left blame (whys.Req req)
  pub begins : BeginsAsked (gone_on p.event req) u.checks
  pub free : MayDiscardIn false (gone_on p.event req)
  pub loose : IsLoose (gone_on p.event req) []
  pub makes : MakesServe (now_of (gone_on p.event req) [])
  pub sound : OrdersAreSound (now_of (gone_on p.event req) [])
