-- A load is refused as it is accepted: the two rows may be logged together, and the coordinator is at work then.
use Rattle.tab_doors.proofs.AskingLoads.{row_asking}
use Rattle.tab_doors.specs.AskingLoads.{TiesAsking}
use Rattle.unasked_dues.proofs.Read.{read_more, read_own}
use Rattle.unasked_dues.proofs.Sole.{debts_own, sole_own}
use Rattle.unasked.proofs.Nows.{refused_goes, refused_now}
use Rattle.checking_facts.proofs.Besides.{ends_more}
use Rattle.checking_facts.proofs.Rows.{row_checks, row_steps}
use Rattle.checking_facts.proofs.Steps.{more_duly}
use Rattle.checking_facts.specs.Prompts.{AreAskedDuly, IsUndropped, told_by}
use Rattle.tab_doors.proofs.Calm.{row_calm}
use Rattle.unasked_dues.specs.Checking.{AllOthersPass, NoStepChecks, NonePasses}
use Rattle.row_facts.proofs.FrameRows.LawfulLaws.{ends_other}
use Rattle.row_facts.specs.FrameRows.Lawful.{KeepsHeld, held_at_first}
use Rattle.log_model.specs.Equal.{has_req, holds}
use Rattle.log_model.specs.Outcomes.{is_drop}
use Rattle.load_doors.specs.Logged.{IsLogged, seen_start}
use Rattle.seen_laws.specs.Unasked.{unasked_request}
use Rattle.std.proofs.lemmas.Option.{same_Some}
use Rattle.std.proofs.lemmas.List.{length-map}
use Rattle.checking_facts.specs.Checks.{AreInCheck}
use Rattle.seen_facts.specs.Each.Runs.{is_this}
use Rattle.row_facts.specs.FrameRows.Lawful.{AreLawful}
use Rattle.load_doors.specs.Refusing.{IsDeniedLoad}
use Rattle.load_doors.specs.Tied.{AreTied}
use Rattle.row_facts.proofs.LoadRows.Accepts.{denied_load_may, load_there}
use Rattle.seen_facts.specs.Kept.Keeping.{kept_states}
use Rattle.seen_facts.proofs.LoadTies.Ends.{other_ends, refused_ended}
use Rattle.seen_facts.specs.LoadTies.Tying.{TiesLoads}
use Rattle.log_model.specs.After.{after, new_request}
use Rattle.log_model.specs.AfterRequests.{on_request}
use Rattle.log_model.specs.Seen.{Asked, Seen, request_of}
use Rattle.log_model.specs.declared.outcome.Denial.{Denial}
use Rattle.log_model.specs.declared.row_kind.Actor.{Actor}
use Rattle.log_model.specs.declared.row_kind.LogRow.{LogRow}
use Rattle.log_model.specs.declared.row_kind.RowKind.{RowKind}
use Rattle.seen_facts.proofs.Request.Readers.{on_read}
use Rattle.seen_laws.proofs.InEvents.{log_more, goes_more, none_goes, uncut_log, uncut_rows}
use Rattle.seen_laws.specs.Blocks.{EachPass, MayLog}
use Rattle.seen_laws.specs.InEvent.{InEvent, log_of, now_of, row_of, start_of}
use Rattle.seen_laws.specs.Sending.{leads}
use Rattle.std.proofs.Common.{List, None, Some, [], ap, false, length, refl, subst, sym, ℕ, ◌+◌, ◌∙◌, ◌∷◌, ◌≡◌, ◌≤◌}
use Rattle.tab_doors.proofs.PassedOn.{lawful_pass}
use Rattle.tab_doors.specs.PassedOn.{noted_by}
use Rattle.tab_doors.proofs.EndLaws.{left_holds}
use Rattle.tab_doors.proofs.Keeping.{unstarted_no_load}
use Rattle.tab_doors.proofs.Requests.{ended_moved, moved_same, runs_ended_apart}
use Rattle.tab_doors.proofs.Works.{goal_read, goal_same, soles_more}
use Rattle.tab_doors.specs.Look.{look_of, moved_by}
use Rattle.tab_doors.specs.Ties.{AreInitial, Holds, IsRunning}
use Rattle.tab_doors.specs.Working.{HasGoal, IsAhead, IsAtWork, IsToCome, IsWorker}
use Rattle.tab_doors.specs.declared.tables.Tables.{Tables}
use Rattle.tab_ids.specs.declared.ReqId.{ReqId}
use Rattle.log_model.specs.declared.outcome.Ending.TheVariants as endings
use Rattle.log_model.specs.declared.request.Request.TheVariants as requests
use Rattle.log_model.specs.declared.row_kind.Actor.TheVariants as actors
use Rattle.log_model.specs.declared.row_kind.RowKind.TheVariants as rows

module _ (e : InEvent) (t : Tables) (req : ReqId) (reason : Denial) (denied : IsDeniedLoad e req reason) (logged : IsLogged e t.checks) (tied : AreTied (now_of e []) t) (asking : TiesAsking e.checking (log_of e []) t.asking) where
  -- ---- the two rows may be logged

  own_row : row_of e e.own ≡ (let row : LogRow = record { event = e.event; actor = actors.Ui; row = rows.Accepted req None (requests.Load denied.nav denied.mode denied.address) } in row)
  own_row =
      ap (λ (a : Actor). let row : LogRow = record { event = e.event; actor = a; row = e.own } in row) denied.by_user
      ∙ ap (λ (k : RowKind). let row : LogRow = record { event = e.event; actor = actors.Ui; row = k } in row) denied.own

  refusal_row : row_of e (rows.Refused req reason) ≡ (let row : LogRow = record { event = e.event; actor = actors.Ui; row = rows.Refused req reason } in row)
  refusal_row = ap (λ (a : Actor). let row : LogRow = record { event = e.event; actor = a; row = rows.Refused req reason } in row) denied.by_user

  lawful : AreLawful e (rows.Refused req reason ∷ [])
  unfolding AreLawful
  lawful later rest =
      subst (λ (l : List LogRow). EachPass (start_of e) l later) (sym (uncut_rows e (rows.Refused req reason ∷ []) logged.uncut))
      ((subst (λ (second : LogRow). MayLog (start_of e) (row_of e e.own ∷ second ∷ []) (λ (l : List LogRow). Unit {0})) (sym refusal_row)
      (subst (λ (own : LogRow). MayLog (start_of e) (own ∷ (let row : LogRow = record { event = e.event; actor = actors.Ui; row = rows.Refused req reason } in row) ∷ []) (λ (l : List LogRow). Unit {0})) (sym own_row)
      (denied_load_may e.header e.start e.event req denied.nav denied.mode denied.address reason denied.next denied.reason_is denied.unparked)))
      later tt)

  -- ---- the tables stand for what the log has come to then

  abbrev s : Seen
  s = now_of e []

  abbrev n : Seen
  n = after s (row_of e (rows.Refused req reason))

  there : request_of s req ≡ Some (new_request req None (requests.Load denied.nav denied.mode denied.address))
  there =
      ap (λ (x : Seen). request_of x req) (logged.read ∙ ap (λ (row : LogRow). after (seen_start e) row) own_row)
      ∙ load_there (seen_start e) e.event req denied.nav denied.mode denied.address (denied.next ∙ ap (λ (k : ℕ). k + 1) (sym (length-map e.start.requests (unasked_request e.checking))))

  -- in the log it was just accepted, and its report isn't held back
  abbrev new_log : Asked
  new_log = new_request req None (requests.Load denied.nav denied.mode denied.address)

  there_log : request_of (log_of e []) req ≡ Some new_log
  there_log =
      ap (λ (x : Seen). request_of x req) (uncut_log e logged.uncut)
      ∙ ap (λ (row : LogRow). request_of (after e.start row) req) own_row
      ∙ load_there e.start e.event req denied.nav denied.mode denied.address denied.next

  undropped : IsUndropped (log_of e []) req
  undropped q at =
      let same : new_log ≡ q = same_Some _ _ (sym there_log ∙ at) in
      ap (λ (x : Asked). holds is_drop x.ending) (sym same)

  parked_same : held_at_first e ≡ e.start.parked
  parked_same = ap (λ (row : LogRow). (after e.start row).parked) own_row

  unheld_first : has_req (held_at_first e) req ≡ false
  unheld_first = ap (λ (l : List ReqId). has_req l req) parked_same ∙ denied.unparked

  unheld_log : has_req (log_of e []).parked req ≡ false
  unheld_log = ap (λ (x : Seen). has_req x.parked req) (uncut_log e logged.uncut) ∙ unheld_first

  held : KeepsHeld e [] (rows.Refused req reason)
  unfolding now_of
  held = ends_other e [] (rows.Refused req reason) req (refl, λ x. refl) unheld_first unheld_log

  -- the traversal that runs has begun
  apart : is_this t.running req ≡ false
  apart = sym (tied.runs.only req (new_request req None (requests.Load denied.nav denied.mode denied.address)) there)

  abbrev over : List Asked
  over = on_request req (λ (q : Asked). record q { ending = Some (endings.Refused reason) }) s.requests

  moved : moved_by n.requests t.running ≡ moved_by s.requests t.running
  moved = moved_same s.requests over t.running (ended_moved s e.event e.actor req (endings.Refused reason))

  pub refused_work : IsAtWork e (rows.Refused req reason ∷ []) t
  refused_work =
      record {
        own = ap (λ (k : RowKind). leads k) denied.own;
        worker = subst (λ (a : Actor). IsWorker a) (sym denied.by_user) tt;
        goes = goes_more e [] [] (rows.Refused req reason) (none_goes e []) (refused_goes e [] req reason);
        numbered = logged.numbered;
        read = read_more e [] (rows.Refused req reason) (read_own e (record { numbered = logged.checking.numbered; others = logged.checking.others })) (record { numbered = checks_.numbered; others = checks_.others });
        sole = soles_more e [] (rows.Refused req reason) tt (sole_own e (log_of e []) logged.uncut);
        debts = debts_own e logged.uncut;
        checks = checks_;
        calm =
            subst (λ (x : Seen). NonePasses e.checking x) (sym (log_more e [] (rows.Refused req reason)))
            (row_calm e.checking (log_of e []) (row_of e (rows.Refused req reason)) logged.calm (denied.off, undropped) refl);
        unheld = λ free.
            subst (λ (x : Seen). NoStepChecks e.checking x) (sym (log_more e [] (rows.Refused req reason)))
            (row_steps e.checking (log_of e []) (row_of e (rows.Refused req reason)) tt tt free);
        off = ends_more e.checking [] (rows.Refused req reason) (λ row has. absurd has) denied.off;
        holds = subst (λ (x : Seen). Holds (look_of x t.running) t) (sym now_is) (left_holds (look_of s t.running) (look_of n t.running) t refl refl refl moved refl refl refl tied.holds);
        runs = subst (λ (x : Seen). IsRunning x.requests t.running) (sym now_is) (runs_ended_apart s.requests t.running req (endings.Refused reason) apart tied.runs);
        goal = subst (λ (x : Seen). HasGoal x.requests t.running t.goal) (sym now_is) (goal_same s.requests over t.running t.goal (on_read goal_read s.requests req (λ q. record q { ending = Some (endings.Refused reason) }) (λ q. refl)) tied.goal);
        few = subst (λ (x : Seen). length x.documents ≤ x.jobs + 1) (sym now_is) tied.few;
        initial = subst (λ (x : Seen). AreInitial x.initial_states t.initial.entries) (sym now_is) tied.initial;
        loads = subst (λ (x : Seen). TiesLoads x t.loads) (sym now_is) (other_ends s n req (refused_ended s e.event e.actor req reason) t.loads tied.loads (unstarted_no_load s req (new_request req None (requests.Load denied.nav denied.mode denied.address)) there refl));
        asking =
            subst (λ (x : Seen). TiesAsking e.checking x t.asking) (sym (log_more e [] (rows.Refused req reason)))
            (row_asking e.checking (log_of e []) e.event e.actor t.asking asking (rows.Refused req reason) denied.off);
        kept = tied.kept ∙ ap (λ (x : Seen). kept_states x) (sym now_is);
        asked =
            subst (λ (x : Seen). AreAskedDuly e.checking e.start x (told_by e.ran t.checks (rows.Refused req reason ∷ []))) (sym (log_more e [] (rows.Refused req reason)))
            (more_duly e [] (told_by e.ran t.checks []) logged.asked (rows.Refused req reason) (denied.off, undropped) (λ r. refl) held (IsAhead None) (IsAhead None) (λ later is. tt) (subst (λ (x : Seen). AllOthersPass e.checking x) (log_more e [] (rows.Refused req reason)) checks_.others));
        lawful = lawful_pass (IsToCome None e (rows.Refused req reason ∷ [])) e (noted_by e.ran t.checks (rows.Refused req reason ∷ [])) (rows.Refused req reason ∷ []) lawful;
      }
    where
      now_is : now_of e (rows.Refused req reason ∷ []) ≡ n
      now_is = refused_now e [] req reason

      checks_ : AreInCheck e.checking (log_of e (rows.Refused req reason ∷ []))
      checks_ =
          subst (λ (x : Seen). AreInCheck e.checking x) (sym (log_more e [] (rows.Refused req reason)))
          (row_checks e.checking (log_of e []) (row_of e (rows.Refused req reason)) tt tt logged.checking)
