-- A document is told something, or is to be made, and the coordinator goes on working.
use Rattle.tab_doors.proofs.Ahead.{IsStep, step_plain}
use Rattle.unasked.proofs.Nows.{sent_goes}
use Rattle.unasked_dues.proofs.Shows.{numbered_in, update_due}
use Rattle.unasked_dues.proofs.Making.{make_due}
use Rattle.unasked_dues.specs.Checking.{IsForOther, NoneChecksFor}
use Rattle.checking_facts.proofs.States.{of_entry}
use Rattle.seen_facts.proofs.Hang.Targets.{target_has}
use Rattle.seen_facts.specs.Hang.Members.{Has}
use Rattle.log_model.specs.Places.{aim_of}
use Rattle.tab_doors.proofs.ReadOff.{proc_same, there as there_log}
use Rattle.tab_doors.proofs.Initial.{initial_same}
use Rattle.tab_doors.proofs.Keeping.{unloaded_apart}
use Rattle.tab_doors.proofs.Making.{MakesOne, make_holds}
use Rattle.tab_doors.proofs.Telling.{SendsOne, tell_holds}
use Rattle.tab_doors.proofs.Whose.{proc_found}
use Rattle.tab_doors.proofs.Works.{aimed_log, at_seen, few_made, few_sent, goal_on, header_here, kept_made, kept_on, loads_sent, moving_log, numbered, passed_log, runs_on, sent_held, work_more}
use Rattle.tab_doors.specs.Look.{look_of, sight, sight_in}
use Rattle.tab_doors.specs.Orders.{IsThere, next_order, order_to, proc_at}
use Rattle.tab_doors.specs.Ties.{Holds, IsAwakeIn}
use Rattle.tab_doors.specs.Working.{IsAtWork}
use Rattle.tab_doors.specs.declared.tables.Tables.{Tables}
use Rattle.row_facts.proofs.FrameRows.Makes.{make_may, make_quiet}
use Rattle.row_facts.specs.FrameRows.Making.{IsMakeDue}
use Rattle.seen_facts.specs.Kept.Keeping.{AreKeptDocs}
use Rattle.load_table.specs.declared.load.Load.{Load}
use Rattle.seen_facts.proofs.LoadTies.Makes.{other_made}
use Rattle.seen_facts.specs.LoadTies.Tying.{TiesLoads}
use Rattle.log_model.specs.After.{after}
use Rattle.log_model.specs.AfterDocuments.{addressed}
use Rattle.log_model.specs.Orders.{ongoing_load as load_in_log}
use Rattle.log_model.specs.Seen.{Seen, desk_of}
use Rattle.log_model.specs.declared.header.Header.{Header}
use Rattle.log_model.specs.declared.job.Job.{Job}
use Rattle.log_model.specs.declared.job.Why.{Why}
use Rattle.log_model.specs.declared.row_kind.RowKind.{RowKind}
use Rattle.nav_tree.specs.Tree.{is_state, with_nav}
use Rattle.nav_tree.specs.declared.nav.Nav.{Nav}
use Rattle.seen_laws.proofs.InEvents.{led_here, order_quiet, now_is}
use Rattle.seen_laws.proofs.Sendings.{update_may}
use Rattle.seen_laws.specs.InEvent.{InEvent, here_of, log_of, now_of, row_of}
use Rattle.seen_laws.specs.Sending.{IsUpdateDue, IsNumbered}
use Rattle.std.proofs.Common.{Bool, List, None, Option, Some, [], ap, inl, map, refl, subst, sym, ℕ, ◌++◌, ◌∙◌, ◌∷◌, ◌≡◌}
use Rattle.std.proofs.lemmas.List.{length-map}
use Rattle.std.specs.Map.{lookup}
use Rattle.tab_ids.specs.declared.DocId.{DocId}
use Rattle.tab_ids.specs.declared.NavId.{NavId}
use Rattle.tab_ids.specs.declared.ProcId.{ProcId}
use Rattle.tab_ids.specs.declared.ReqId.{ReqId}
use Rattle.tab_ids.specs.declared.StateId.{StateId}
use Rattle.log_model.specs.declared.job.Task.TheVariants as tasks
use Rattle.log_model.specs.declared.row_kind.RowKind.TheVariants as rows

-- ---- a document is told length and index

module _ (e : InEvent) (out : List RowKind) (t u : Tables) (nav : NavId) (doc : DocId) (why : Why) (long at : ℕ) (work : IsAtWork e out t) (awake_ : IsAwakeIn t.tree nav doc) (there : IsThere (now_of e out) doc) where
  abbrev pub update : Job
  update = order_to (now_of e out) doc why (tasks.Update long at)

  abbrev then_told : Seen
  then_told = after (now_of e out) (row_of e (rows.Sent update))

  same_proc : proc_at (now_of e out) doc ≡ there.document.proc
  same_proc = proc_found (now_of e out) doc there.document there.found

  -- of the log itself
  in_log : IsThere (log_of e out) doc
  in_log = there_log e.checking (log_of e out) doc (at_seen e out t work (λ (s : Seen). IsThere s doc) there)

  its_proc : proc_at (now_of e out) doc ≡ in_log.document.proc
  its_proc =
      ap (λ (s : Seen). proc_at s doc) (now_is e out)
      ∙ proc_same e.checking (log_of e out) doc
      ∙ proc_found (log_of e out) doc in_log.document in_log.found

  update_step : IsUpdateDue (now_of e out) update (long, at) → IsStep None None e out (rows.Sent update)
  update_step due =
      step_plain e out (rows.Sent update) (order_quiet e update (tasks.Update long at) refl tt) (sent_held e out update) (update_may (here_of e out) e.event e.actor update in_log.document long at refl (led_here e out work.own) is_numbered (record { found = in_log.found; proc = sym its_proc; alive = in_log.alive }) (update_due e.checking (log_of e out) (moving_log e out t work) update (long, at) (at_seen e out t work (λ (s : Seen). IsUpdateDue s update (long, at)) due)))
    where
      is_numbered : IsNumbered (log_of e out) update
      is_numbered =
          numbered_in e.checking (log_of e out) update (at_seen e out t work (λ (s : Seen). IsNumbered s update) (numbered (now_of e out) (proc_at (now_of e out) doc) doc why (tasks.Update long at) (rw same_proc there.known)))

  pub tell_work : IsUpdateDue (now_of e out) update (long, at) → u.tree ≡ with_nav (λ (n : Nav). record n { told = Some (long, at) }) nav t.tree → SendsOne t u t.shown.entries t.last.entries → u.running ≡ t.running → u.goal ≡ t.goal → u.kept ≡ t.kept → IsAtWork e (out ++ rows.Sent update ∷ []) u
  tell_work due tree one running goal kept =
      work_more e out (rows.Sent update) None t u work (sent_goes e out update refl) tt tt tt
      (subst (λ (r : Option ReqId). Holds (look_of then_told r) u) (sym running) (tell_holds (now_of e out) t.running e.event e.actor (proc_at (now_of e out) doc) doc why (long, at) nav awake_.node t awake_.there awake_.wakes work.holds u tree one))
      (runs_on (now_of e out).requests then_told.requests t u (λ r. refl) running work.runs)
      (goal_on (now_of e out).requests then_told.requests t u (λ r. refl) running goal work.goal)
      (few_sent (now_of e out).documents _ (now_of e out).jobs (length-map (now_of e out).documents _) work.few)
      (initial_same (now_of e out).initial_states t.initial.entries u.initial.entries one.initial work.initial)
      (loads_sent e out t u update tt work one.loads)
      (kept_on (now_of e out) doc (addressed (tasks.Update long at)) (λ d. refl) (λ d. refl) None t.kept u.kept work.kept kept)
      tt
      (update_step due)
      one.checks
      one.asking
      (inl refl)

-- ---- a document is to be made

module _ (e : InEvent) (out : List RowKind) (t u : Tables) (proc : ProcId) (doc : DocId) (why : Why) (nav : NavId) (state : StateId) (address : List ℕ) (initial : Bool) (work : IsAtWork e out t) (for_other : IsForOther e.checking why) where
  abbrev pub make : Job
  make = next_order (now_of e out).jobs proc doc why (tasks.Populate nav state address initial)

  abbrev then_made : Seen
  then_made = after (now_of e out) (row_of e (rows.Sent make))

  make_step : IsMakeDue e.header (now_of e out) make nav state address initial → (desk_of (now_of e out) proc).known ≡ 0 → IsStep None None e out (rows.Sent make)
  make_step due known =
      step_plain e out (rows.Sent make) (make_quiet e make nav state address initial refl) (sent_held e out make) (make_may (here_of e out) e.event e.actor make nav state address initial (led_here e out work.own) is_numbered (subst (λ (hd : Header). IsMakeDue hd (log_of e out) make nav state address initial) (sym (header_here e out)) in_log))
    where
      is_numbered : IsNumbered (log_of e out) make
      is_numbered =
          numbered_in e.checking (log_of e out) make (at_seen e out t work (λ (s : Seen). IsNumbered s make) (record { number = refl; incarnation = sym known }))

      in_log : IsMakeDue e.header (log_of e out) make nav state address initial
      in_log =
          make_due e.checking (log_of e out) (aimed_log e out t work) e.header make nav state address initial (passed_log e out t work make.task why for_other due.passed) (at_seen e out t work (λ (s : Seen). IsMakeDue e.header s make nav state address initial) due)

  -- of no load in its check
  none_makes : IsMakeDue e.header (now_of e out) make nav state address initial → NoneChecksFor e.checking (log_of e out) state
  none_makes due =
      subst (λ (x : StateId). NoneChecksFor e.checking (log_of e out) x) due.state_is (of_entry e.checking (log_of e out) work.checks.states due.target (subst (λ (x : Seen). Has x.history.rows due.target) (now_is e out) (target_has (now_of e out).history.rows nav (aim_of (now_of e out)) due.target due.at).there))

  pub make_work : IsMakeDue e.header (now_of e out) make nav state address initial → (desk_of (now_of e out) proc).known ≡ 0 → sight_in (map sight (now_of e out).documents) doc ≡ None → lookup (is_state state) t.making.entries ≡ None → load_in_log (now_of e out) state ≡ None → AreKeptDocs (now_of e out) → MakesOne nav state proc doc t u → u.running ≡ t.running → u.goal ≡ t.goal → u.loads ≡ t.loads → IsAtWork e (out ++ rows.Sent make ∷ []) u
  make_work due known unknown unmade unloaded kept_docs one running goal loads =
      work_more e out (rows.Sent make) None t u work (sent_goes e out make refl) tt tt (none_makes due)
      (subst (λ (r : Option ReqId). Holds (look_of then_made r) u) (sym running) (make_holds (now_of e out) t.running e.event e.actor proc doc why nav state address initial t work.holds unknown unmade u one))
      (runs_on (now_of e out).requests then_made.requests t u (λ r. refl) running work.runs)
      (goal_on (now_of e out).requests then_made.requests t u (λ r. refl) running goal work.goal)
      (few_made e out t make nav state work)
      (initial_same (now_of e out).initial_states t.initial.entries u.initial.entries one.initial work.initial)
      (subst (λ (l : List Load). TiesLoads then_made l) (sym loads) (other_made (now_of e out) e.event e.actor t.loads work.loads make nav state address initial refl (unloaded_apart (now_of e out) t.loads work.loads state unloaded)))
      (kept_made e out t u make nav state work kept_docs one.kept)
      for_other
      (make_step due known)
      one.checks
      one.asking
      (inl refl)
