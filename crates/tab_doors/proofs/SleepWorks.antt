-- A document is frozen or discarded, navigables fall asleep for it, and the coordinator goes on working; a move that has begun goes on.
use Rattle.tab_doors.proofs.Ahead.{step_sent}
use Rattle.tab_doors.proofs.Leavable.{in_log}
use Rattle.seen_laws.proofs.InEvents.{now_is}
use Rattle.unasked.proofs.Nows.{sent_goes}
use Rattle.unasked_dues.specs.Checking.{IsForOther}
use Rattle.checking_facts.proofs.Cases.{other_wakes}
use Rattle.checking_facts.proofs.Rows.{row_steps}
use Rattle.nav_tree.specs.Tree.{discarded}  -- keep
use Rattle.tab_doors.proofs.Discarding.{discard_holds}
use Rattle.tab_doors.proofs.Freezing.{freeze_holds}
use Rattle.tab_doors.proofs.Initial.{initial_same}
use Rattle.tab_doors.proofs.Keeping.{gone_tied}
use Rattle.tab_doors.proofs.ShowWorks.{served_same}
use Rattle.tab_doors.proofs.Telling.{SendsOne}
use Rattle.tab_doors.proofs.Works.{few_sent, goal_on, goal_read, kept_gone, kept_on, loads_sent, runs_on, steps_calm, work_more}
use Rattle.tab_doors.specs.Keeping.{LetsGo, Move}
use Rattle.tab_doors.specs.Look.{look_of, sight}
use Rattle.tab_doors.specs.Orders.{IsToGo, order_to, proc_at}
use Rattle.tab_doors.specs.Sleeping.{is_for, sleep_all}
use Rattle.tab_doors.specs.Ties.{Holds}
use Rattle.tab_doors.specs.Working.{IsAtWorkFor, IsAtWorkIn, IsCalmIn, MayDiscardIn, MaySend}
use Rattle.tab_doors.specs.declared.tables.Tables.{Tables}
use Rattle.row_facts.proofs.FrameRows.Discards.{discard_quiet}
use Rattle.seen_facts.proofs.Hang.Members.{into_map}
use Rattle.seen_facts.specs.Hang.Members.{Has}
use Rattle.seen_facts.proofs.Kept.States.{AreOfOwnStates}
use Rattle.seen_facts.specs.Kept.Keeping.{kept_states}
use Rattle.load_table.specs.Loads.{ongoing_load}
use Rattle.load_table.specs.declared.load.Load.{Load}
use Rattle.seen_facts.specs.LoadTies.Tying.{TiesLoads}
use Rattle.log_model.specs.After.{after}
use Rattle.log_model.specs.AfterDocuments.{addressed}
use Rattle.log_model.specs.AfterPlaces.{sleepers_with}
use Rattle.log_model.specs.History.{has_nav}
use Rattle.log_model.specs.Orders.{Question, is_for as is_of_request}
use Rattle.log_model.specs.Seen.{Document, Seen}
use Rattle.log_model.specs.declared.job.Job.{Job}
use Rattle.log_model.specs.declared.job.Why.{Why}
use Rattle.log_model.specs.declared.row_kind.RowKind.{RowKind}
use Rattle.seen_facts.specs.Each.Runs.{is_run}
use Rattle.page_cache.specs.Kept.{without}
use Rattle.seen_laws.proofs.InEvents.{IsQuiet}
use Rattle.seen_laws.specs.InEvent.{InEvent, log_of, now_of, row_of}
use Rattle.std.proofs.Common.{Bool, List, None, Option, [], ap, cond, false, inl, inr, refl, subst, sym, true, ◌++◌, ◌==◌, ◌∙◌, ◌∷◌, ◌≡◌, Some}
use Rattle.std.proofs.lemmas.List.{length-map}
use Rattle.tab_ids.specs.declared.DocId.{DocId}
use Rattle.tab_ids.specs.declared.NavId.{NavId}
use Rattle.tab_ids.specs.declared.ReqId.{ReqId}
use Rattle.tab_ids.specs.declared.StateId.{StateId}
use Rattle.log_model.specs.declared.job.Task.TheVariants as tasks
use Rattle.log_model.specs.declared.row_kind.RowKind.TheVariants as rows

-- ---- a document is frozen

none_if : (b : Bool) → (let o : Option Question = cond b None None in o) ≡ None
none_if true = refl
none_if false = refl

-- the order asks no document
pub freeze_quiet : (e : InEvent) (job : Job) → job.task ≡ tasks.Freeze → IsQuiet e (rows.Sent job)
freeze_quiet e job is req = rw is (none_if (is_of_request req job))

module _ {move : Option Move} (e : InEvent) (out : List RowKind) (t u : Tables) (doc : DocId) (why : Why) (navs : List NavId) (work : IsAtWorkFor move e out t) (for_other : IsForOther e.checking why) where
  abbrev pub freeze : Job
  freeze = order_to (now_of e out) doc why tasks.Freeze

  abbrev then_frozen : Seen
  then_frozen = after (now_of e out) (row_of e (rows.Sent freeze))

  pub freeze_work : MaySend move e out freeze → ((other : NavId) → has_nav (sleepers_with (now_of e out) doc) other ≡ has_nav navs other) → u.tree ≡ sleep_all navs why (is_for t.running why) t.tree → SendsOne t u t.shown.entries t.last.entries → u.running ≡ t.running → u.goal ≡ t.goal → u.kept ≡ t.kept → IsAtWorkFor move e (out ++ rows.Sent freeze ∷ []) u
  freeze_work may are tree one running goal kept =
      work_more e out (rows.Sent freeze) move t u work (sent_goes e out freeze refl) tt (other_wakes e.checking (log_of e out) freeze for_other) tt
      (subst (λ (r : Option ReqId). Holds (look_of then_frozen r) u) (sym running) (freeze_holds (now_of e out) t.running e.event e.actor (proc_at (now_of e out) doc) doc why navs t work.holds work.runs are u tree one))
      (runs_on (now_of e out).requests then_frozen.requests t u (served_same is_run (now_of e out) freeze tasks.Freeze why (λ q. refl)) running work.runs)
      (goal_on (now_of e out).requests then_frozen.requests t u (served_same goal_read (now_of e out) freeze tasks.Freeze why (λ q. refl)) running goal work.goal)
      (few_sent (now_of e out).documents _ (now_of e out).jobs (length-map (now_of e out).documents _) work.few)
      (initial_same (now_of e out).initial_states t.initial.entries u.initial.entries one.initial work.initial)
      (loads_sent e out t u freeze tt work one.loads)
      (kept_on (now_of e out) doc (addressed tasks.Freeze) (λ d. refl) (λ d. refl) move t.kept u.kept work.kept kept)
      for_other
      (step_sent e out move freeze (freeze_quiet e freeze refl) refl may)
      one.checks
      one.asking
      (inl refl)

-- ---- a document is discarded

module _ {sweeps : Bool} {move : Option Move} (e : InEvent) (out : List RowKind) (t u : Tables) (doc : DocId) (state : StateId) (why : Why) (navs : List NavId) (work : IsAtWorkIn sweeps move e out t) (for_other : IsForOther e.checking why) (its : IsToGo (now_of e out) t.tree t.loads navs doc state) where
  abbrev pub discard : Job
  discard = order_to (now_of e out) doc why tasks.Discard

  abbrev then_gone : Seen
  then_gone = after (now_of e out) (row_of e (rows.Sent discard))

  unloaded : (x : Document) (nav : NavId) (load : Load) → Has (now_of e out).documents x → (x.nr.0 == doc.0) ≡ true → ongoing_load nav t.loads ≡ Some load → (x.state.0 == load.state.0) ≡ false
  unloaded x nav load has is at =
      ap (λ (y : StateId). y.0 == load.state.0) (its.its_state (sight x) (into_map sight (now_of e out).documents x has) is) ∙ its.unloaded nav load at

  -- no traversal in its check has passed by that, unless that was let go
  calm_gone : (b : Bool) → MayDiscardIn b e → IsCalmIn b e.checking (after (log_of e out) (row_of e (rows.Sent discard)))
  calm_gone true free = tt
  calm_gone false free =
      steps_calm e.checking (after (log_of e out) (row_of e (rows.Sent discard)))
      (row_steps e.checking (log_of e out) (row_of e (rows.Sent discard)) tt (other_wakes e.checking (log_of e out) discard for_other) (work.unheld free))

  pub discard_work : MayDiscardIn sweeps e → MaySend move e out discard → u.tree ≡ sleep_all navs why (is_for t.running why) (discarded state t.tree) → SendsOne t u t.shown.entries t.last.entries → u.running ≡ t.running → u.goal ≡ t.goal → AreOfOwnStates (now_of e out).documents (now_of e out).kept doc state → LetsGo move t.kept.keep (kept_states (now_of e out)) state → u.kept ≡ record t.kept { states = without state t.kept.states } → IsAtWorkIn sweeps move e (out ++ rows.Sent discard ∷ []) u
  discard_work free may tree one running goal own lets kept =
      work_more e out (rows.Sent discard) move t u work (sent_goes e out discard refl) tt (other_wakes e.checking (log_of e out) discard for_other) tt
      (subst (λ (x : Option ReqId). Holds (look_of then_gone x) u) (sym running) (discard_holds (now_of e out) t.running e.event e.actor (proc_at (now_of e out) doc) doc why state navs t work.holds work.runs its.are its.its_state its.its u tree one))
      (runs_on (now_of e out).requests then_gone.requests t u (served_same is_run (now_of e out) discard tasks.Discard why (λ q. refl)) running work.runs)
      (goal_on (now_of e out).requests then_gone.requests t u (served_same goal_read (now_of e out) discard tasks.Discard why (λ q. refl)) running goal work.goal)
      (few_sent (now_of e out).documents _ (now_of e out).jobs (length-map (now_of e out).documents _) work.few)
      (initial_same (now_of e out).initial_states t.initial.entries u.initial.entries one.initial work.initial)
      (subst (λ (l : List Load). TiesLoads then_gone l) (sym one.loads) (gone_tied (now_of e out) e.event e.actor t.loads work.loads discard refl unloaded))
      (kept_gone (now_of e out) doc (λ (x : Document). record x { is_discarded = true }) (λ x. refl) (λ x. refl) state own move t.kept u.kept work.kept lets kept)
      (let its_own = in_log e out (now_is e out) doc its.document its.found in (its_own.d, its_own.found))
      (step_sent e out move discard (discard_quiet e discard refl) refl may)
      one.checks
      one.asking
      (inr (calm_gone sweeps free))
