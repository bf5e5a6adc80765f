-- The user stays, where a traversal in its unload check asked: it is dropped, and a pass may follow, with the queue free for the next step.
-- HTML Standard, "checking if unloading is canceled" and "traverse the history by a delta". Who is in its check, the table of checks, where an event is cut, and the log without questions are this project's own.
use Rattle.asking_facts.specs.Known.{AskingKnown}
use Rattle.log_model.specs.Formed.{awaits_answer}
use Rattle.log_model.specs.Places.{is_traversal}
use Rattle.log_model.specs.Seen.{Asked, request_of}
use Rattle.log_model.specs.declared.job.Why.TheVariants as whys
use Rattle.log_model.specs.declared.outcome.Cause.TheVariants as drops
use Rattle.log_model.specs.declared.row_kind.Actor.TheVariants as actors
use Rattle.log_model.specs.declared.row_kind.RowKind.TheVariants as rows
use Rattle.log_model.specs.declared.row_kind.RowKind.{RowKind}
use Rattle.move_queue.specs.Queue.{Queue}
use Rattle.row_facts.specs.Owed.Owed.{IsLoose}
use Rattle.seen_laws.specs.InEvent.{InEvent, cut, log_of, now_of}
use Rattle.std.specs.Prelude.{List, Some, [], true, ◌∷◌, ◌≡◌}
use Rattle.tab_doors.specs.Working.{MayDiscardIn}
use Rattle.tab_doors.specs.declared.tables.Tables.{Tables}
use Rattle.tab_ids.specs.declared.ReqId.{ReqId}
use Rattle.tab_ids.specs.declared.StateId.{StateId}
use Rattle.tab_prompts.specs.Asking.{BeginsAsked}
use Rattle.tab_settles.specs.PassedOn.{InPass}
use Rattle.tab_settles.specs.Settling.{MakesServe, OrdersAreSound}
use Rattle.tab_stands.specs.GoingOn.{GoesOn}
use Rattle.tab_stands.specs.Offs.{AreShownUnder}
use Rattle.tab_stands.specs.PassedOn.{IsReady}
use Rattle.std.specs.Prelude.{false}

-- the request is a traversal in its check, its prompt is up as the event begins, and by the event's own row the user stays
pub record IsToStay (e : InEvent) (req : ReqId) (q : Asked) : Type 0 where
  pub at : request_of e.start req ≡ Some q
  pub goes : is_traversal q.what ≡ true
  pub on : e.checking req ≡ true
  pub awaits : awaits_answer q ≡ true
  pub by_user : e.actor ≡ actors.Ui
  pub own : e.own ≡ rows.Answered req true

-- the row by which it is dropped
abbrev pub stayed : ReqId → List RowKind
stayed req = rows.Dropped req drops.Stay ∷ []

-- the event cut behind it: a request that is dropped in its check stays among those in theirs, and the row owes nothing
abbrev pub cut_stayed : InEvent → ReqId → InEvent
cut_stayed e req = cut e (stayed req) e.checking (λ end. true)

abbrev pub pass_stayed : InEvent → List ReqId → ReqId → InPass
pass_stayed e loads req = record { event = cut_stayed e req; loads = loads; hand = [] }

-- the event goes on behind it as one that begins: a pass may follow; no step is in its check, nothing is owed, and orders on their way are for what they may be
pub record HasStayed (e : InEvent) (loads : List ReqId) (u : Tables) (queue : Queue) (blame : List (StateId × ReqId)) (req : ReqId) : Type 0 where
  pub goes : GoesOn e (stayed req) (cut_stayed e req)
  pub ready : IsReady (pass_stayed e loads req) [] u queue blame whys.Start
  pub begins : BeginsAsked (cut_stayed e req) u.checks
  pub free : MayDiscardIn false (cut_stayed e req)
  pub loose : IsLoose (cut_stayed e req) []
  pub shows : AreShownUnder (log_of (cut_stayed e req) [])
  pub known : AskingKnown (log_of (cut_stayed e req) [])
  pub makes : MakesServe (now_of (cut_stayed e req) [])
  pub sound : OrdersAreSound (now_of (cut_stayed e req) [])
