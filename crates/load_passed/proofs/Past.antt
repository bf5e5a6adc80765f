-- A load passes its check by an event's own row, from what stands between two events to where its document is to be made: the user leaves, or the last answer is delivered and no document wants a prompt.
use Rattle.check_facts.proofs.Tables.{check_ended}
use Rattle.checking_facts.specs.Checks.{NumbersNext}
use Rattle.load_passed.proofs.Held.{begins_past, heard_table, left_table}
use Rattle.load_passed.proofs.Start.{start_make, start_settled, start_taken}
use Rattle.load_passed.proofs.Asking.{load_leaves}
use Rattle.load_passed.specs.Passing.{IsLoadToPass, IsToMake, WasSettled, WasTaken, load_tables}
use Rattle.load_table.specs.Loads.{cancelled, ongoing_load}
use Rattle.load_table.specs.declared.phase.Phase.TheVariants as phases
use Rattle.log_model.specs.Formed.{awaits_answer}
use Rattle.log_model.specs.Seen.{Asked}
use Rattle.log_model.specs.declared.handler.Verdict.{Verdict}
use Rattle.log_model.specs.declared.job.Job.{Job}
use Rattle.log_model.specs.declared.request.Mode.{Mode}
use Rattle.log_model.specs.declared.row_kind.Actor.TheVariants as actors
use Rattle.log_model.specs.declared.row_kind.RowKind.TheVariants as rows
use Rattle.log_model.specs.declared.row_kind.RowKind.{RowKind}
use Rattle.move_queue.specs.Queue.{Queue}
use Rattle.seen_facts.specs.LoadEnds.Standing.{is_reached}
use Rattle.seen_laws.specs.InEvent.{InEvent, OwesNothing}
use Rattle.seen_laws.specs.Unasked.{unasked}
use Rattle.log_model.proofs.Refl.{nat_eq_refl}
use Rattle.log_model.specs.Once.{loads}
use Rattle.log_model.specs.declared.request.Request.{Request}
use Rattle.std.proofs.Common.{Bool, List, None, Some, [], ap, false, subst, sym, true, ℕ, ◌∙◌, ◌∷◌, ◌≡◌}
use Rattle.tab_answers.specs.Answering.{IsAnswer, told_of}
use Rattle.tab_doors.specs.declared.tables.Tables.{Tables}
use Rattle.tab_ids.specs.declared.NavId.{NavId}
use Rattle.tab_ids.specs.declared.ProcId.{ProcId}
use Rattle.tab_ids.specs.declared.ReqId.{ReqId}
use Rattle.tab_ids.specs.declared.StateId.{StateId}
use Rattle.tab_passed.proofs.Heard as heard
use Rattle.tab_passed.proofs.Left as left
use Rattle.tab_passed.proofs.Start.{quiet}
use Rattle.tab_passed.specs.Passing.{HasPassedBy, LeavesAsking}
use Rattle.tab_prompts.specs.Asking.{BeginsAsked}
use Rattle.tab_stands.specs.Checked.{ChecksStand}
use Rattle.tab_stands.specs.Standing.{HasRoomFor, InCheck, LastsInLog, StandsFor}
use Rattle.unasked_dues.specs.Checking.{NoStepChecks}
use Rattle.unasked_tab.proofs.Reordered.{AreAsOften}
use Rattle.unload_check.specs.Checks.{ended, outcome_at}
use Rattle.unload_check.specs.declared.check.Check.TheVariants as checks

module _ (was : ReqId → Bool) (e : InEvent) (t : Tables) (queue : Queue) (blame : List (StateId × ReqId)) {check : InCheck} (stands : StandsFor check (unasked was e.start) t queue blame) (lasts : LastsInLog was t.asking e.start) (asks : ChecksStand was e.start t.checks) (room : HasRoomFor e.start) (header : t.kept.keep ≡ e.header.keep) (free : check.holds ≡ false → NoStepChecks was e.start) (uncut : e.before ≡ []) (undue : OwesNothing e) (req : ReqId) (q : Asked) (nav : NavId) (mode : Mode) (address : List ℕ) (replace : Bool) (state : StateId) (pass : IsLoadToPass was e req q nav mode address replace state) (rest : List ReqId) (hand : AreAsOften check.loads (req ∷ rest)) (reached : is_reached (unasked was e.start) nav ≡ true) (alone : ongoing_load nav t.loads ≡ None) where
  -- it leaves the table of loads in their checks
  leaves : LeavesAsking was e.checking req q.what t.asking (cancelled nav t.asking)
  leaves = load_leaves was e req q pass.passes t.asking lasts.asking pass.ongoing nav (ap (λ (w : Request). loads nav w) pass.what ∙ nat_eq_refl nav.0)

  -- ---- the user leaves

  module _ (by_user : e.actor ≡ actors.Ui) (own : e.own ≡ rows.Answered req false) (awaits : awaits_answer q ≡ true) where
    pub left_by : HasPassedBy e (ended req t.checks) (cancelled nav t.asking)
    left_by = left.left_passed was e t.checks asks lasts uncut undue req q pass.passes leaves by_user own awaits

    pub left_settled : WasSettled (record { event = e; before = quiet was e; loads = rest; req = req; nav = nav; mode = mode; address = address; replace = replace; state = state; queue = queue; noted = blame }) t.running
    left_settled =
        start_settled was e t queue blame stands lasts room header free req q nav mode address replace state pass rest hand reached alone (ended req t.checks) left_by (left.left_steps was e t.checks asks lasts uncut undue req q pass.passes leaves by_user own awaits)

    pub left_taken : WasTaken (record { event = e; before = quiet was e; loads = rest; req = req; nav = nav; mode = mode; address = address; replace = replace; state = state; queue = queue; noted = blame }) t.running
    left_taken =
        start_taken was e t queue blame stands lasts room header free req q nav mode address replace state pass rest hand reached alone (ended req t.checks) left_by (left.left_steps was e t.checks asks lasts uncut undue req q pass.passes leaves by_user own awaits)

    pub left_make : IsToMake (record { event = e; before = quiet was e; loads = rest; req = req; nav = nav; mode = mode; address = address; replace = replace; state = state; queue = queue; noted = blame }) (load_tables t (record { req = req; nav = nav; address = address; replace = replace; state = state; phase = phases.Asking }) (ended req t.checks))
    left_make =
        start_make was e t queue blame stands lasts room header free req q nav mode address replace state pass rest hand reached alone (ended req t.checks) left_by (left.left_steps was e t.checks asks lasts uncut undue req q pass.passes leaves by_user own awaits)

    -- what is known of checks and prompts then
    pub left_begins : BeginsAsked e (ended req t.checks)
    left_begins =
        begins_past was e t.checks (ended req t.checks) asks lasts req q pass.passes (left_table req t.checks) (check_ended req t.checks) (left.left_others was e t.checks asks lasts uncut undue req q pass.passes leaves by_user own awaits) left_by (subst (λ (k : RowKind). NumbersNext e.start k) (sym own) tt)

  -- ---- the last answer is delivered, by the table: its check waited, and goes on once it was told of the answer

  module _ (proc : ProcId) (job : Job) (verdict : Verdict) (is : IsAnswer e proc job verdict req) (waited : outcome_at req t.checks ≡ Some checks.Waiting) (goes : outcome_at req (told_of job verdict req t.checks) ≡ Some checks.Go) where
    pub heard_by : HasPassedBy e (ended req (told_of job verdict req t.checks)) (cancelled nav t.asking)
    heard_by =
        heard.table_passed was e t.checks asks lasts stands.between.tab.desks uncut undue req q pass.passes leaves proc job verdict is waited goes

    pub heard_settled : WasSettled (record { event = e; before = quiet was e; loads = rest; req = req; nav = nav; mode = mode; address = address; replace = replace; state = state; queue = queue; noted = blame }) t.running
    heard_settled =
        start_settled was e t queue blame stands lasts room header free req q nav mode address replace state pass rest hand reached alone (ended req (told_of job verdict req t.checks)) heard_by (heard.heard_steps was e t.checks asks lasts stands.between.tab.desks uncut undue req q pass.passes leaves proc job verdict is)

    pub heard_taken : WasTaken (record { event = e; before = quiet was e; loads = rest; req = req; nav = nav; mode = mode; address = address; replace = replace; state = state; queue = queue; noted = blame }) t.running
    heard_taken =
        start_taken was e t queue blame stands lasts room header free req q nav mode address replace state pass rest hand reached alone (ended req (told_of job verdict req t.checks)) heard_by (heard.heard_steps was e t.checks asks lasts stands.between.tab.desks uncut undue req q pass.passes leaves proc job verdict is)

    pub heard_make : IsToMake (record { event = e; before = quiet was e; loads = rest; req = req; nav = nav; mode = mode; address = address; replace = replace; state = state; queue = queue; noted = blame }) (load_tables t (record { req = req; nav = nav; address = address; replace = replace; state = state; phase = phases.Asking }) (ended req (told_of job verdict req t.checks)))
    heard_make =
        start_make was e t queue blame stands lasts room header free req q nav mode address replace state pass rest hand reached alone (ended req (told_of job verdict req t.checks)) heard_by (heard.heard_steps was e t.checks asks lasts stands.between.tab.desks uncut undue req q pass.passes leaves proc job verdict is)

    -- what is known of checks and prompts then
    pub heard_begins : BeginsAsked e (ended req (told_of job verdict req t.checks))
    heard_begins =
        begins_past was e t.checks (ended req (told_of job verdict req t.checks)) asks lasts req q pass.passes (heard_table job verdict req t.checks) (check_ended req (told_of job verdict req t.checks)) (heard.heard_others was e t.checks asks lasts stands.between.tab.desks uncut undue req q pass.passes leaves proc job verdict is) heard_by (subst (λ (k : RowKind). NumbersNext e.start k) (sym is.own) tt)
