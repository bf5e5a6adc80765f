-- A traversal that begins and asks: who is in its check as it enters it, what it may, and how the coordinator goes on.
-- HTML Standard, "checking if unloading is canceled" and "traverse the history by a delta". Which requests are in their check as the coordinator has it, and the log without questions, are this project's own.
use Rattle.asking_facts.specs.Asking.{BeginsToAsk, MayBeginTo, begun_asking}
use Rattle.checking_facts.specs.Checks.{MayEnter, NoOtherUnderWay}
use Rattle.checking_facts.specs.States.{IsNextState}
use Rattle.log_model.specs.Orders.{due_questions}
use Rattle.log_model.specs.Places.{is_traversal}
use Rattle.log_model.specs.Seen.{Asked, Seen}
use Rattle.log_model.specs.declared.job.Job.{Job}
use Rattle.log_model.specs.declared.row_kind.RowKind.TheVariants as rows
use Rattle.log_model.specs.declared.row_kind.RowKind.{RowKind}
use Rattle.row_facts.specs.Owed.Owed.{IsOwed, owes_seen}
use Rattle.seen_laws.specs.InEvent.{InEvent, begins, cut, here_of, log_of, now_of, row_of}
use Rattle.seen_laws.specs.Unasked.{unasked}
use Rattle.std.specs.List.{list_any}
use Rattle.std.specs.Prelude.{Bool, List, None, Some, [], false, true, ◌+◌, ◌++◌, ◌==◌, ◌||◌, ◌≡◌, ◌≤◌}
use Rattle.tab_cuts.specs.Cut.{TiesCut}
use Rattle.tab_doors.proofs.Works.{BeginsSole}
use Rattle.tab_doors.specs.Working.{IsAtWork}
use Rattle.tab_doors.specs.declared.tables.Tables.{Tables}
use Rattle.tab_ids.specs.declared.ReqId.{ReqId}
use Rattle.tab_ids.specs.declared.Step.{Step}
use Rattle.unasked.proofs.Whole.{silent}

-- this request is in its check, and those that were
abbrev pub entered_by : (ReqId → Bool) → ReqId → ReqId → Bool
entered_by checking req r = r.0 == req.0 || checking r

-- the traversal may begin behind these rows, to go to the step, and ask whom it is due to ask; it began as none of them, and isn't in its check; it may enter it
pub record MayAsk (e : InEvent) (out : List RowKind) (req : ReqId) (goal : Step) (q : Asked) : Type 0 where
  pub asks : BeginsToAsk (log_of e out) req (Some goal) (due_questions (log_of e out) q.what (Some goal)) q
  pub goes : is_traversal q.what ≡ true
  pub turn : MayBeginTo (here_of e out) (row_of e (rows.Started req (Some goal))) req (Some goal) q
  pub unbegun : list_any (begins req) (e.before ++ out) ≡ false
  pub off : e.checking req ≡ false
  pub enters : MayEnter q
  -- no other traversal is under way, it is no load, and the document state that is numbered next is nobody's
  pub alone : NoOtherUnderWay (log_of e out) req
  pub sole : BeginsSole e out (rows.Started req (Some goal))
  pub next : IsNextState (log_of e out) (record { 0 = (log_of e out).states + 1 })

-- the event cut where it has begun and these orders were sent, with the request in its check; what the rows before them owe is what is due
abbrev pub then_asked : InEvent → List RowKind → ReqId → Step → List Job → InEvent
then_asked e out req goal jobs =
    cut e (out ++ begun_asking req (Some goal) jobs) (entered_by e.checking req) (owes_seen e out)

-- what the log has come to then
abbrev pub log_asked : InEvent → List RowKind → ReqId → Step → List Job → Seen
log_asked e out req goal jobs = log_of e (out ++ begun_asking req (Some goal) jobs)

-- the coordinator goes on working there, what was owed is paid, and these tables tie to the log without questions, of which no more changed than the event's number, that no order was just finished, and how many orders there are
pub record GoesOnAsking (e : InEvent) (out : List RowKind) (req : ReqId) (goal : Step) (jobs : List Job) (u : Tables) : Type 0 where
  pub work : IsAtWork (then_asked e out req goal jobs) [] u
  pub owed : IsOwed e out → IsOwed (then_asked e out req goal jobs) []
  pub ties : TiesCut None (unasked (entered_by e.checking req) (log_asked e out req goal jobs)) u
  pub same : unasked (entered_by e.checking req) (log_asked e out req goal jobs) ≡ silent (now_of e out) e.event (log_asked e out req goal jobs).jobs (now_of e out).states
  pub more : (now_of e out).jobs ≤ (log_asked e out req goal jobs).jobs
