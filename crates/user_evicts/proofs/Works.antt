-- The document that the user evicts is discarded by the first row that is put out, and the coordinator is at work then.
use Rattle.tab_doors.proofs.AskingLoads.{row_asking}
use Rattle.tab_doors.specs.AskingLoads.{TiesAsking}
use Rattle.tab_doors.proofs.PassedOn.{debts_own, read_more, read_own, sole_own}
use Rattle.unasked.proofs.Nows.{sent_now, sent_goes}
use Rattle.checking_facts.proofs.Besides.{ends_more}
use Rattle.checking_facts.proofs.Cases.{other_wakes}
use Rattle.checking_facts.proofs.Rows.{row_checks, row_steps}
use Rattle.checking_facts.specs.Checks.{AreInCheck, PutsNoneAsleep}
use Rattle.checking_facts.specs.Prompts.{PassIf, noted_in}
use Rattle.row_facts.specs.LeaveRows.Evicting.{IsDiscardedLater}
use Rattle.tab_doors.proofs.Leavable.{IsLeftAs}
use Rattle.nav_tree.specs.Tree.{discarded}  -- keep
use Rattle.seen_facts.proofs.Hang.Members.{into_map}
use Rattle.seen_facts.specs.Hang.Members.{Has}
use Rattle.seen_facts.specs.Kept.Keeping.{kept_states}
use Rattle.load_doors.specs.Tied.{AreTied}
use Rattle.load_table.specs.Loads.{ongoing_load}
use Rattle.load_table.specs.declared.load.Load.{Load}
use Rattle.seen_facts.specs.LoadTies.Tying.{TiesLoads}
use Rattle.log_model.specs.After.{after}
use Rattle.log_model.specs.Seen.{Document, Seen, document_of}
use Rattle.log_model.specs.declared.job.Job.{Job}
use Rattle.log_model.specs.declared.row_kind.Actor.{Actor}
use Rattle.log_model.specs.declared.row_kind.RowKind.{RowKind}
use Rattle.page_cache.specs.Kept.{without}
use Rattle.seen_facts.specs.Each.Runs.{is_run}
use Rattle.seen_laws.proofs.InEvents.{log_more, goes_more, none_goes}
use Rattle.seen_laws.specs.InEvent.{InEvent, log_of, now_of, row_of}
use Rattle.seen_laws.specs.Sending.{leads}
use Rattle.std.proofs.Common.{Bool, List, None, Option, Some, [], ap, false, length, refl, subst, sym, true, ℕ, ◌++◌, ◌+◌, ◌==◌, ◌∙◌, ◌∷◌, ◌≡◌, ◌≤◌}
use Rattle.std.proofs.lemmas.List.{length-map}
use Rattle.tab_doors.specs.PassedOn.{AreAskedDuly, noted_by, told_by}
use Rattle.checking_facts.proofs.Steps.{more_duly, more_pass}
use Rattle.unload_check.specs.Checks.{OpenCheck}
use Rattle.row_facts.proofs.FrameRows.Discards.{discard_quiet}
use Rattle.row_facts.proofs.FrameRows.LawfulLaws.{keeps_held}
use Rattle.unasked_dues.specs.Checking.{AllOthersPass, NoStepChecks}
use Rattle.tab_doors.proofs.Discarding.{discard_holds}
use Rattle.tab_doors.proofs.Initial.{initial_same}
use Rattle.tab_doors.proofs.Keeping.{gone_tied}
use Rattle.tab_doors.proofs.ShowWorks.{served_same}
use Rattle.tab_doors.proofs.Telling.{SendsOne}
use Rattle.tab_doors.proofs.Works.{few_sent, goal_on, goal_read, kept_gone, runs_on, soles_more, steps_calm}
use Rattle.tab_doors.specs.Look.{look_of, sight}
use Rattle.tab_doors.proofs.Whose.{proc_known, proc_same}
use Rattle.tab_doors.specs.Orders.{numbered_order, order_to, proc_at}
use Rattle.tab_doors.specs.Ties.{AreInitial, Holds, IsRunning, proc_in}
use Rattle.tab_doors.specs.Working.{HasGoal, IsAhead, IsAtWorkIn, IsCalmIn, IsToCome, IsWorker, MayDiscardIn}
use Rattle.tab_doors.specs.declared.tables.Tables.{Tables}
use Rattle.tab_ids.specs.declared.DocId.{DocId}
use Rattle.std.specs.Option.{IsSome}
use Rattle.tab_ids.specs.declared.NavId.{NavId}
use Rattle.tab_ids.specs.declared.ProcId.{ProcId}
use Rattle.tab_ids.specs.declared.ReqId.{ReqId}
use Rattle.tab_ids.specs.declared.StateId.{StateId}
use Rattle.user_evicts.proofs.Lawful.{discard, discarded_next, left_as, own_passes, second_passes}
use Rattle.user_evicts.specs.Discarding.{IsEvicted}
use Rattle.log_model.specs.declared.job.Task.TheVariants as tasks
use Rattle.log_model.specs.declared.job.Why.TheVariants as whys
use Rattle.log_model.specs.declared.row_kind.RowKind.TheVariants as rows

module _ (sweeps : Bool) (e : InEvent) (t u : Tables) (doc : DocId) (state : StateId) (tied : AreTied (now_of e []) t) (its : IsEvicted e t doc state) where
  abbrev n : Seen
  n = now_of e []

  abbrev order : Job
  order = discard e t doc state its

  abbrev then_ : Seen
  then_ = after n (row_of e (rows.Sent order))

  unloaded : (x : Document) (nav : NavId) (load : Load) → Has n.documents x → (x.nr.0 == doc.0) ≡ true → ongoing_load nav t.loads ≡ Some load → (x.state.0 == load.state.0) ≡ false
  unloaded x nav load has is at =
      ap (λ (y : StateId). y.0 == load.state.0) (its.gone.its_state (sight x) (into_map sight n.documents x has) is) ∙ its.gone.unloaded nav load at

  now_then : then_ ≡ now_of e (rows.Sent order ∷ [])
  now_then = sym (sent_now e [] order refl)

  -- it is for no request, so none in its check puts anybody to sleep by it
  wakes : PutsNoneAsleep e.checking (log_of e []) order
  wakes = other_wakes e.checking (log_of e []) order (λ req never. absurd cc)

  -- no step is in its check, if none was
  unheld_then : NoStepChecks e.checking (log_of e []) → NoStepChecks e.checking (log_of e (rows.Sent order ∷ []))
  unheld_then free =
      subst (λ (x : Seen). NoStepChecks e.checking x) (sym (log_more e [] (rows.Sent order))) (row_steps e.checking (log_of e []) (row_of e (rows.Sent order)) tt wakes free)

  -- so no traversal in its check has passed, unless that was let go
  calm_then : (b : Bool) → MayDiscardIn b e → IsCalmIn b e.checking (log_of e (rows.Sent order ∷ []))
  calm_then true free = tt
  calm_then false free = steps_calm e.checking (log_of e (rows.Sent order ∷ [])) (unheld_then free)

  pub evicted_work : MayDiscardIn sweeps e → u.tree ≡ discarded state t.tree → SendsOne t u t.shown.entries t.last.entries → u.running ≡ t.running → u.goal ≡ t.goal → u.kept ≡ record t.kept { states = without state t.kept.states } → IsAtWorkIn sweeps None e (rows.Sent order ∷ []) u
  evicted_work free tree one running goal kept =
      record {
        own = ap (λ (k : RowKind). leads k) its.own;
        worker = subst (λ (a : Actor). IsWorker a) (sym its.by_user) tt;
        goes = goes_more e [] [] (rows.Sent order) (none_goes e []) (sent_goes e [] order refl);
        numbered = its.logged.numbered;
        read = read_more e [] (rows.Sent order) (read_own e (record { numbered = its.logged.checking.numbered; others = its.logged.checking.others })) (record { numbered = checks_.numbered; others = checks_.others });
        sole = soles_more e [] (rows.Sent order) tt (sole_own e (log_of e []) its.logged.uncut);
        debts = debts_own e its.logged.uncut;
        checks = checks_;
        calm = calm_then sweeps free;
        unheld = unheld_then;
        off = ends_more e.checking [] (rows.Sent order) (λ row has. absurd has) tt;
        holds = subst (λ (x : Seen). Holds (look_of x u.running) u) now_then (subst (λ (r : Option ReqId). Holds (look_of then_ r) u) (sym running) (discard_holds n t.running e.event e.actor (proc_at n doc) doc whys.Evict state [] t tied.holds tied.runs its.gone.are its.gone.its_state its.gone.its u tree one));
        runs = subst (λ (x : Seen). IsRunning x.requests u.running) now_then (runs_on n.requests then_.requests t u (served_same is_run n order tasks.Discard whys.Evict (λ q. refl)) running tied.runs);
        goal = subst (λ (x : Seen). HasGoal x.requests u.running u.goal) now_then (goal_on n.requests then_.requests t u (served_same goal_read n order tasks.Discard whys.Evict (λ q. refl)) running goal tied.goal);
        few = subst (λ (x : Seen). length x.documents ≤ x.jobs + 1) now_then (few_sent n.documents then_.documents n.jobs (length-map n.documents _) tied.few);
        initial = subst (λ (x : Seen). AreInitial x.initial_states u.initial.entries) now_then (initial_same n.initial_states t.initial.entries u.initial.entries one.initial tied.initial);
        loads = subst (λ (x : Seen). TiesLoads x u.loads) now_then (subst (λ (l : List Load). TiesLoads then_ l) (sym one.loads) (gone_tied n e.event e.actor t.loads tied.loads order refl unloaded));
        asking =
            subst (λ (x : Seen). TiesAsking e.checking x u.asking) (sym (log_more e [] (rows.Sent order)))
            (subst (λ (l : List Load). TiesAsking e.checking (after (log_of e []) (row_of e (rows.Sent order))) l) (sym one.asking) (row_asking e.checking (log_of e []) e.event e.actor t.asking its.asking (rows.Sent order) tt));
        kept = kept_gone n doc (λ (x : Document). record x { is_discarded = true }) (λ x. refl) (λ x. refl) state its.own_state None t.kept u.kept tied.kept refl kept ∙ ap (λ (x : Seen). kept_states x) now_then;
        asked = asked_then one.checks;
        lawful = passes_then one.checks;
      }
    where
      checks_ : AreInCheck e.checking (log_of e (rows.Sent order ∷ []))
      checks_ =
          subst (λ (x : Seen). AreInCheck e.checking x) (sym (log_more e [] (rows.Sent order)))
          (row_checks e.checking (log_of e []) (row_of e (rows.Sent order)) wakes tt its.logged.checking)

      -- the document as the log has it
      left : IsLeftAs e [] order its.document
      left = left_as e t doc state its

      there : document_of (log_of e []) doc ≡ Some left.d
      there = left.discards.to.found

      asked_then : u.checks ≡ t.checks → AreAskedDuly e.checking e.start (log_of e (rows.Sent order ∷ [])) (told_by e.ran u.checks (rows.Sent order ∷ []))
      asked_then same =
          subst (λ (x : Seen). AreAskedDuly e.checking e.start x (told_by e.ran u.checks (rows.Sent order ∷ []))) (sym (log_more e [] (rows.Sent order)))
          (subst (λ (es : List (ReqId × OpenCheck)). AreAskedDuly e.checking e.start (after (log_of e []) (row_of e (rows.Sent order))) (told_by e.ran es (rows.Sent order ∷ []))) (sym same)
          (more_duly e [] (told_by e.ran t.checks []) its.logged.asked (rows.Sent order) (left.d, there) (discard_quiet e order refl) (keeps_held e [] (rows.Sent order) refl refl) (IsAhead None) (IsAhead None) (λ later is. tt) (subst (λ (x : Seen). AllOthersPass e.checking x) (log_more e [] (rows.Sent order)) checks_.others)))

      passes_then : u.checks ≡ t.checks → PassIf (IsToCome None e (rows.Sent order ∷ [])) e (noted_by e.ran u.checks (rows.Sent order ∷ [])) (rows.Sent order ∷ [])
      passes_then same =
          subst (λ (es : List (ReqId × OpenCheck)). PassIf (IsToCome None e (rows.Sent order ∷ [])) e (noted_by e.ran es (rows.Sent order ∷ [])) (rows.Sent order ∷ [])) (sym same)
          (more_pass e [] (told_by e.ran t.checks []) its.logged.asked (rows.Sent order) (left.d, there) (discard_quiet e order refl) (keeps_held e [] (rows.Sent order) refl refl) (IsDiscardedLater doc) (IsToCome None e (rows.Sent order ∷ [])) (λ later is. discarded_next e t doc state its later) (own_passes e t doc state its (noted_in (told_by e.ran t.checks []))) (λ later asks rest prompts. second_passes e t doc state its later prompts))

-- ---- the order that is counted and put out

module _ (e : InEvent) (t : Tables) (doc : DocId) (state : StateId) (tied : AreTied (now_of e []) t) (its : IsEvicted e t doc state) where
  -- the tables have the process to which it goes
  pub evicted_proc : IsSome (proc_in t.whose.entries doc)
  evicted_proc = proc_known (now_of e []) t.whose.entries tied.holds.whose doc its.gone.document its.gone.found

  -- it is the next one to the document
  pub evicted_out : (old new : List RowKind) (job : Job) {proc : ProcId} → old ≡ [] → proc_in t.whose.entries doc ≡ Some proc → new ≡ old ++ rows.Sent job ∷ [] → job ≡ numbered_order (length t.sent.items) proc doc whys.Evict tasks.Discard → new ≡ rows.Sent (order_to (now_of e []) doc whys.Evict tasks.Discard) ∷ []
  evicted_out old new job {proc} first has is counted =
      is
      ∙ ap (λ (l : List RowKind). l ++ rows.Sent job ∷ []) first
      ∙ ap (λ (j : Job). let l : List RowKind = rows.Sent j ∷ [] in l) (counted ∙ ap (λ (k : ℕ). numbered_order k proc doc whys.Evict tasks.Discard) tied.holds.sent ∙ ap (λ (p : ProcId). numbered_order ((now_of e []).jobs + 1) p doc whys.Evict tasks.Discard) (proc_same (now_of e []) t.whose.entries tied.holds.whose doc its.gone.document its.gone.found proc has))
