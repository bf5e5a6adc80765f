-- The document of a load is sent for, and the coordinator goes on working.
use Rattle.unasked.proofs.Nows.{sent_goes}
use Rattle.unasked_dues.specs.Checking.{IsForOther, NoneChecksFor}
use Rattle.checking_facts.proofs.States.{of_ongoing}
use Rattle.log_model.specs.Orders.{ongoing_load as load_in_log}
use Rattle.unasked_dues.proofs.Shows.{numbered_in}
use Rattle.unasked_dues.proofs.Making.{make_of_load_due}
use Rattle.seen_laws.specs.Sending.{IsNumbered}
use Rattle.seen_facts.specs.Kept.Keeping.{AreKeptDocs}
use Rattle.row_facts.proofs.LoadRows.LoadMakes.{make_load_may, make_load_quiet}
use Rattle.row_facts.specs.LoadRows.LoadMaking.{IsMakeOfLoadDue}
use Rattle.load_table.specs.Loads.{KeepsOthers, in_phase, is_of, moved_on, ongoing_load}
use Rattle.load_table.specs.declared.load.Load.{Load}
use Rattle.seen_facts.proofs.LoadTies.Makes.{moved_own, own_made}
use Rattle.log_model.specs.After.{after}
use Rattle.log_model.specs.Seen.{Seen, desk_of}
use Rattle.log_model.specs.declared.header.Header.{Header}
use Rattle.log_model.specs.declared.job.Job.{Job}
use Rattle.log_model.specs.declared.job.Why.{Why}
use Rattle.log_model.specs.declared.row_kind.RowKind.{RowKind}
use Rattle.nav_tree.specs.Tree.{is_state}
use Rattle.seen_laws.proofs.InEvents.{led_here, now_is}
use Rattle.seen_laws.specs.InEvent.{InEvent, here_of, log_of, now_of, row_of}
use Rattle.std.proofs.Common.{List, None, Option, Some, [], ap, false, inl, map, refl, subst, sym, ℕ, ◌++◌, ◌∙◌, ◌∷◌, ◌≡◌}
use Rattle.std.specs.Map.{lookup}
use Rattle.std.specs.Prelude.{option_map}
use Rattle.tab_doors.proofs.Ahead.{IsStep, step_plain}
use Rattle.tab_doors.proofs.Initial.{initial_same}
use Rattle.tab_doors.proofs.Making.{MakesOne, make_holds}
use Rattle.tab_doors.proofs.Works.{aimed_log, at_seen, few_made, header_here, kept_made, passed_log, sent_held, work_more}
use Rattle.tab_doors.specs.Keeping.{IsUnmadeLoad}
use Rattle.tab_doors.specs.Look.{look_of, sight, sight_in}
use Rattle.tab_doors.specs.Orders.{next_order}
use Rattle.tab_doors.specs.Ties.{Holds, IsRunning}
use Rattle.tab_doors.specs.Working.{HasGoal, IsAtWork}
use Rattle.tab_doors.specs.declared.tables.Tables.{Tables}
use Rattle.tab_ids.specs.declared.DocId.{DocId}
use Rattle.tab_ids.specs.declared.NavId.{NavId}
use Rattle.tab_ids.specs.declared.ProcId.{ProcId}
use Rattle.tab_ids.specs.declared.ReqId.{ReqId}
use Rattle.tab_ids.specs.declared.StateId.{StateId}
use Rattle.tab_ids.specs.declared.Step.{Step}
use Rattle.load_table.specs.declared.phase.Phase.TheVariants as phases
use Rattle.log_model.specs.declared.job.Task.TheVariants as tasks
use Rattle.log_model.specs.declared.row_kind.RowKind.TheVariants as rows

module _ (e : InEvent) (out : List RowKind) (t u : Tables) (proc : ProcId) (doc : DocId) (why : Why) (nav : NavId) (state : StateId) (address : List ℕ) (work : IsAtWork e out t) (for_other : IsForOther e.checking why) where
  abbrev pub load_make : Job
  load_make = next_order (now_of e out).jobs proc doc why (tasks.Populate nav state address false)

  abbrev then_made : Seen
  then_made = after (now_of e out) (row_of e (rows.Sent load_make))

  -- the document state is that of a load that has passed
  none_checks : IsMakeOfLoadDue e.header (now_of e out) load_make nav state address → NoneChecksFor e.checking (log_of e out) state
  none_checks due =
      of_ongoing e.checking (log_of e out) work.checks.states work.checks.numbered state due.q (subst (λ (s : Seen). load_in_log s state ≡ Some due.q) (now_is e out) due.loads)

  load_make_step : IsMakeOfLoadDue e.header (now_of e out) load_make nav state address → (desk_of (now_of e out) proc).known ≡ 0 → IsStep None None e out (rows.Sent load_make)
  load_make_step due known =
      step_plain e out (rows.Sent load_make) (make_load_quiet e load_make nav state address refl) (sent_held e out load_make) (make_load_may (here_of e out) e.event e.actor load_make nav state address (led_here e out work.own) is_numbered (subst (λ (hd : Header). IsMakeOfLoadDue hd (log_of e out) load_make nav state address) (sym (header_here e out)) in_log))
    where
      is_numbered : IsNumbered (log_of e out) load_make
      is_numbered =
          numbered_in e.checking (log_of e out) load_make (at_seen e out t work (λ (s : Seen). IsNumbered s load_make) (record { number = refl; incarnation = sym known }))

      in_log : IsMakeOfLoadDue e.header (log_of e out) load_make nav state address
      in_log =
          make_of_load_due e.checking (log_of e out) (aimed_log e out t work) e.header load_make nav state address (none_checks due) (passed_log e out t work load_make.task why for_other due.passed) (at_seen e out t work (λ (s : Seen). IsMakeOfLoadDue e.header s load_make nav state address) due)

  pub load_make_work : IsMakeOfLoadDue e.header (now_of e out) load_make nav state address → (desk_of (now_of e out) proc).known ≡ 0 → sight_in (map sight (now_of e out).documents) doc ≡ None → lookup (is_state state) t.making.entries ≡ None → IsUnmadeLoad (now_of e out) t.loads nav state → AreKeptDocs (now_of e out) → MakesOne nav state proc doc t u → u.running ≡ t.running → u.goal ≡ t.goal → u.initial.entries ≡ t.initial.entries → u.loads ≡ moved_on (is_of nav) (phases.Populating doc) t.loads → KeepsOthers nav t.loads u.loads → IsAtWork e (out ++ rows.Sent load_make ∷ []) u
  load_make_work due known unknown unmade its kept_docs one running goal initial loads others =
      work_more e out (rows.Sent load_make) None t u work (sent_goes e out load_make refl) tt tt (none_checks due)
      (subst (λ (r : Option ReqId). Holds (look_of then_made r) u) (sym running) (make_holds (now_of e out) t.running e.event e.actor proc doc why nav state address false t work.holds unknown unmade u one))
      (subst (λ (r : Option ReqId). IsRunning (now_of e out).requests r) (sym running) work.runs)
      (subst (λ (r : Option ReqId). HasGoal (now_of e out).requests r u.goal) (sym running) (subst (λ (g : Step). HasGoal (now_of e out).requests t.running g) (sym goal) work.goal))
      (few_made e out t load_make nav state work)
      (initial_same (now_of e out).initial_states t.initial.entries u.initial.entries initial work.initial)
      (own_made (now_of e out) e.event e.actor t.loads work.loads load_make nav state address false refl its.load its.at its.state_is its.unmade u.loads own others its.alone)
      (kept_made e out t u load_make nav state work kept_docs one.kept)
      for_other
      (load_make_step due known)
      one.checks
      one.asking
      (inl refl)
    where
      own : ongoing_load nav u.loads ≡ Some (in_phase (phases.Populating doc) its.load)
      own =
          ap (λ (l : List Load). ongoing_load nav l) loads
          ∙ moved_own nav (phases.Populating doc) t.loads
          ∙ ap (λ (o : Option Load). option_map (in_phase (phases.Populating doc)) o) its.at
