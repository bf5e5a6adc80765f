-- A traversal passes its check by an event's own row, from what stands between two events to a pass that may follow for it: the user leaves, or the last answer is delivered and no document wants a prompt.
use Rattle.log_model.specs.Formed.{awaits_answer}
use Rattle.log_model.specs.Places.{has_passed, is_under_way}
use Rattle.log_model.specs.Queue.{is_step_under_way}
use Rattle.log_model.specs.Seen.{Asked, Seen}
use Rattle.log_model.specs.declared.handler.Verdict.{Verdict}
use Rattle.log_model.specs.declared.job.Job.{Job}
use Rattle.log_model.specs.declared.row_kind.Actor.TheVariants as actors
use Rattle.log_model.specs.declared.row_kind.RowKind.TheVariants as rows
use Rattle.move_queue.specs.Queue.{Queue}
use Rattle.move_queue.specs.declared.queue_step.QueueStep.{QueueStep}
use Rattle.seen_facts.proofs.Request.Readers.{SameReads}
use Rattle.seen_laws.specs.InEvent.{InEvent, OwesNothing, log_of}
use Rattle.seen_laws.specs.Unasked.{unasked}
use Rattle.std.proofs.Common.{Bool, List, None, Option, Some, [], false, not, refl, true, ℤ, ◌&&◌, ◌≡◌}
use Rattle.std.proofs.lemmas.Bool.{and_parts}
use Rattle.std.specs.Prelude.{is_none}
use Rattle.tab_answers.proofs.Asked.{waits_in}
use Rattle.tab_answers.specs.Answering.{IsAnswer, told_of}
use Rattle.tab_doors.specs.declared.tables.Tables.{Tables}
use Rattle.tab_ids.specs.declared.ProcId.{ProcId}
use Rattle.tab_ids.specs.declared.ReqId.{ReqId}
use Rattle.tab_ids.specs.declared.StateId.{StateId}
use Rattle.tab_ids.specs.declared.Step.{Step}
use Rattle.tab_passed.proofs.Free.{no_steps}
use Rattle.tab_passed.proofs.Heard.{heard_steps, table_passed}
use Rattle.tab_passed.proofs.Left as leaves
use Rattle.tab_passed.proofs.Start.{start_past}
use Rattle.tab_passed.proofs.Who.{traversal_leaves}
use Rattle.tab_passed.specs.Passing.{HasPassedBy, IsInFront, IsPastCheck, IsToPass, LeavesAsking, passed_tables}
use Rattle.tab_stands.specs.Checked.{ChecksStand}
use Rattle.tab_stands.specs.Standing.{HasRoomFor, InCheck, LastsInLog, StandsFor}
use Rattle.unload_check.specs.Checks.{OpenCheck, ended, outcome_at}
use Rattle.unload_check.specs.declared.check.Check.TheVariants as checks
use Rattle.check_facts.specs.Checking.{is_checking}
use Rattle.log_model.specs.Checks.{is_checked}

-- one that is under way has begun, and is open
under_parts : (q : Asked) → is_under_way q ≡ true → (q.is_started ≡ true) × (q.ending ≡ None)
under_parts q under =
    let parts = and_parts q.is_started (is_none q.ending) under in
    (parts.0, none_is q.ending parts.1)
  where
    none_is : {A : Type 0} (o : Option A) → is_none o ≡ true → o ≡ None
    none_is None is = refl
    none_is (Some x) is = absurd cc

-- one that is in its check is under way
under_check : (s : Seen) (q : Asked) → is_checking s q ≡ true → is_under_way q ≡ true
under_check s q in_check =
    (and_parts (is_checked q) (is_under_way q) (and_parts (is_checked q && is_under_way q) (not (has_passed s q)) in_check).0).1

module _ (was : ReqId → Bool) (e : InEvent) (t : Tables) (queue : Queue) (blame : List (StateId × ReqId)) {check : InCheck} (stands : StandsFor check (unasked was e.start) t queue blame) (lasts : LastsInLog was t.asking e.start) (asks : ChecksStand was e.start t.checks) (holds : check.holds ≡ true) (room : HasRoomFor e.start) (header : t.kept.keep ≡ e.header.keep) (uncut : e.before ≡ []) (undue : OwesNothing e) (req : ReqId) (q : Asked) (goal : Step) (pass : IsToPass was e req q goal) (delta : ℤ) (rest : List QueueStep) (front : IsInFront queue req delta rest) where
  -- the row was logged by which it passes, and it is under way
  passes : is_under_way q ≡ true → SameReads is_step_under_way e.start.requests (log_of e []).requests → (table : List (ReqId × OpenCheck)) → HasPassedBy e table t.asking → IsPastCheck e check.loads (passed_tables t req goal table) (record queue { waiting = rest }) blame req
  passes under steps table own =
      let parts = under_parts q under in
      start_past was e t queue blame stands holds room header req q goal pass parts.0 parts.1 delta rest front table own (no_steps was e.checking e.start lasts.checks stands.between.tab.asked.each req q pass.passes.at under pass.goes pass.passes.on pass.passes.off pass.passes.same (log_of e []) steps)

  -- it is none of the loads in their checks
  off : LeavesAsking was e.checking req q.what t.asking t.asking
  off = traversal_leaves was e req q pass.passes pass.goes t.asking

  -- ---- the user leaves

  pub left_past : e.actor ≡ actors.Ui → e.own ≡ rows.Answered req false → awaits_answer q ≡ true → IsPastCheck e check.loads (passed_tables t req goal (ended req t.checks)) (record queue { waiting = rest }) blame req
  left_past by_user own awaits =
      passes
      (leaves.under was e t.checks asks lasts uncut undue req q pass.passes off by_user own awaits)
      (leaves.left_steps was e t.checks asks lasts uncut undue req q pass.passes off by_user own awaits)
      (ended req t.checks)
      (leaves.left_passed was e t.checks asks lasts uncut undue req q pass.passes off by_user own awaits)

  -- ---- the last answer is delivered, by the table: its check waited, and goes on once it was told of the answer

  pub heard_past : (proc : ProcId) (job : Job) (verdict : Verdict) → IsAnswer e proc job verdict req → outcome_at req t.checks ≡ Some checks.Waiting → outcome_at req (told_of job verdict req t.checks) ≡ Some checks.Go → IsPastCheck e check.loads (passed_tables t req goal (ended req (told_of job verdict req t.checks))) (record queue { waiting = rest }) blame req
  heard_past proc job verdict is waited goes =
      passes
      (under_check e.start q (waits_in was e.start t.checks asks req q pass.passes.at waited).0)
      (heard_steps was e t.checks asks lasts stands.between.tab.desks uncut undue req q pass.passes off proc job verdict is)
      (ended req (told_of job verdict req t.checks))
      (table_passed was e t.checks asks lasts stands.between.tab.desks uncut undue req q pass.passes off proc job verdict is waited goes)
