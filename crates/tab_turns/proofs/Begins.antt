-- The traversal that waits first begins, or is refused where its delta leads nowhere; and all goes on then.
use Rattle.tab_doors.specs.Dues.{AsksNone}
use Rattle.tab_ids.specs.declared.NavId.{NavId}
use Rattle.tab_facts.specs.FrameWhole.Tab.{AreAwakeWithRows}
use Rattle.tab_facts.proofs.Calm.Awakes.{calm_stood}
use Rattle.tab_facts.specs.Calm.Calm.{IsCalm, IsCalmYet, IsHere}
use Rattle.seen_facts.specs.Home.Homes.{AreHomed}
use Rattle.seen_facts.specs.Hang.Hanging.{Hangs}
use Rattle.log_model.specs.Soundness.{IsSound}
use Rattle.seen_laws.specs.Unasked.{unasked, unasked_request, unbegun, without_asks}
use Rattle.tab_passes.proofs.PassedOn.{AreLeftDuly, IsNoProcess, bare_traversal_duly, begun_going, begun_tab, duly_then, joined_unheld, no_load, nowhere_tab, refused_duly, refused_going, refused_lasting, started_lasting}
use Rattle.seen_laws.proofs.InEvents.{last_goes, now_at, now_is}
use Rattle.tab_doors.proofs.PassedOn.{refused_goes, refused_now}
use Rattle.seen_facts.proofs.Coord.Held.{without_same}
use Rattle.seen_facts.proofs.Coord.Unread.{next}
use Rattle.seen_facts.specs.Each.Runs.{is_this}
use Rattle.tab_passes.specs.PassedOn.{wish}
use Rattle.row_facts.proofs.FrameRows.LawfulLaws.{ends_other}
use Rattle.row_facts.specs.FrameRows.Lawful.{held_at_first}
use Rattle.tab_passes.proofs.SetOuts.{course_of}
use Rattle.history_laws.proofs.InOrder.{used_steps-ordered}
use Rattle.log_model.specs.AfterRequests.{on_request, request_begun}
use Rattle.log_model.specs.Causes.{denial_at_acceptance}
use Rattle.log_model.specs.Equal.{has_req}
use Rattle.log_model.specs.History.{History, history_index, used_steps, has_row}
use Rattle.log_model.specs.Once.{index_at_delta, step_at_delta}
use Rattle.log_model.specs.Places.{all_stand, is_traversal, is_awake}
use Rattle.log_model.specs.Queue.{begins_in_turn}
use Rattle.log_model.specs.Seen.{Asked, Seen, request_of, Place}
use Rattle.log_model.specs.declared.request.Request.{Request}
use Rattle.log_model.specs.declared.row.Row.{Row}
use Rattle.log_model.specs.declared.row_kind.Actor.{Actor}
use Rattle.log_model.specs.declared.row_kind.RowKind.{RowKind}
use Rattle.row_facts.proofs.Owed.Ends.{loose_more, loose_owed}
use Rattle.row_facts.proofs.Owed.Rows.{begun_lasts, refused_lasts}
use Rattle.row_facts.specs.Owed.Owed.{IsLoose}
use Rattle.seen_facts.proofs.Request.Readers.{on_read, reads_then}
use Rattle.row_facts.proofs.RestRows.Rows.{refused_rests, started_rests}
use Rattle.row_facts.specs.RestRows.Moving.{AllRest}
use Rattle.seen_laws.specs.InEvent.{InEvent, now_of, row_of, seen_here, log_of}
use Rattle.seen_laws.specs.Owing.{is_sole_load, owes_row}
use Rattle.std.proofs.Common.{Bool, List, None, Option, Some, [], ap, false, length, negsuc, pos, refl, subst, sym, true, ℕ, ℤ, ◌+ℤ◌, ◌++◌, ◌∙◌, ◌∷◌, ◌≡◌, ◌≤◌, ◌⊎◌, inl, inr, cond}
use Rattle.std.specs.Prelude.{nat_lt, option_map}
use Rattle.step_index.specs.contracts.step_index.StepIndexStore.TheImpl.Laws.{sound-law}
use Rattle.step_index.specs.Held.{history_held}
use Rattle.tab_doors.proofs.Histories.{log_steps}
use Rattle.tab_doors.proofs.LogDues.{turn_off, found_from}
use Rattle.tab_doors.specs.Dues.{IsBeginDue, IsNowhere}
use Rattle.tab_doors.specs.Working.{IsAtWork, IsWorker}
use Rattle.tab_doors.specs.declared.tables.Tables.{Tables}
pub use Rattle.tab_passes.specs.Leaving.{IsGoing}
use Rattle.tab_ids.specs.declared.DocId.{DocId}
use Rattle.tab_ids.specs.declared.ReqId.{ReqId}
use Rattle.tab_ids.specs.declared.Step.{Step}
use Rattle.tab_passes.proofs.Aims.{held_pair}
pub use Rattle.tab_passes.proofs.Aims.{aim_is}
use Rattle.tab_passes.specs.Passing.{InPass, IsPassing}
use Rattle.tab_turns.proofs.Firsts.{IsWaitingFirst, first_turn, first_waits, none_asked, not_begun}
use Rattle.tab_turns.proofs.Turned.{IsTurned, alone_turned, begun_as_it_was, begun_with, still_joined, turning_turned}
use Rattle.tab_turns.specs.Beginning.{HasGone, IsFirst, WentTo, at_place, joined_then, step_by}
use Rattle.tab_turns.specs.Turning.{IsTurning, LeavesAlone}
pub use Rattle.tab_passes.proofs.PassedOn.{IsUnheld}
pub use Rattle.tab_passes.proofs.Passings.{IsTab}
use Rattle.log_model.specs.declared.outcome.Denial.TheVariants as denials
use Rattle.log_model.specs.declared.outcome.Ending.TheVariants as endings
use Rattle.log_model.specs.declared.request.Request.TheVariants as requests
use Rattle.log_model.specs.declared.row_kind.Actor.TheVariants as actors
use Rattle.log_model.specs.declared.row_kind.RowKind.TheVariants as rows

-- ---- where a delta leads

index_is : (s : Seen) (delta : ℤ) → step_at_delta s delta ≡ at_place (used_steps s.history.rows) (index_at_delta s delta)
index_is s delta = by_index (index_at_delta s delta) refl
  where
    by_index : (z : ℤ) → index_at_delta s delta ≡ z → step_at_delta s delta ≡ at_place (used_steps s.history.rows) (index_at_delta s delta)
    by_index (pos k) e = rw e refl
    by_index (negsuc k) e = rw e refl

-- in the store and in the log
pub leads_same : (e : InEvent) (out : List RowKind) (t : Tables) → IsAtWork e out t → (delta : ℤ) → step_by (history_held t.store) delta ≡ step_at_delta (now_of e out) delta
leads_same e out t work delta =
    ap (λ (l : List ℕ). at_place l (pos (history_index held.rows held.current) +ℤ delta)) used
    ∙ ap (λ (k : ℕ). at_place (used_steps log.rows) (pos k +ℤ delta)) index
    ∙ sym (index_is (now_of e out) delta)
  where
    held : History
    held = history_held t.store

    log : History
    log = (now_of e out).history

    used : used_steps held.rows ≡ used_steps log.rows
    used =
        sym (used_steps-ordered held.rows (sound-law t.store).steps)
        ∙ ap (λ (l : List Row). used_steps l) work.holds.history.rows
        ∙ used_steps-ordered log.rows (log_steps t.store log work.holds.history)

    index : history_index held.rows held.current ≡ history_index log.rows log.current
    index =
        (held_pair t.store log work.holds.history held.current).1 ∙ ap (λ (k : ℕ). history_index log.rows k) work.holds.history.current

-- what is found of it in the store is the goal, or tells that there is none
pub to_goal : (e : InEvent) (out : List RowKind) (t : Tables) → IsAtWork e out t → (delta z : ℤ) → z ≡ delta → (o : Option Step) → option_map (λ (step : Step). step.0) o ≡ step_by (history_held t.store) z → (goal : Step) → o ≡ Some goal → step_at_delta (now_of e out) delta ≡ Some goal.0
to_goal e out t work delta z same o found goal is =
    sym (ap (λ (y : ℤ). step_at_delta (now_of e out) y) same) ∙ sym (leads_same e out t work z) ∙ sym found ∙ ap (λ (x : Option Step). option_map (λ (step : Step). step.0) x) is

pub to_none : (e : InEvent) (out : List RowKind) (t : Tables) → IsAtWork e out t → (delta z : ℤ) → z ≡ delta → (o : Option Step) → option_map (λ (step : Step). step.0) o ≡ step_by (history_held t.store) z → o ≡ None → step_at_delta (now_of e out) delta ≡ None
to_none e out t work delta z same o found is =
    sym (ap (λ (y : ℤ). step_at_delta (now_of e out) y) same) ∙ sym (leads_same e out t work z) ∙ sym found ∙ ap (λ (x : Option Step). option_map (λ (step : Step). step.0) x) is

-- ---- what it owes

-- a traversal is no load
sole : (what : Request) → is_traversal what ≡ true → (req : ReqId) (end : Seen) → is_sole_load what req end ≡ true
sole (requests.Go d) is req end = refl
sole (requests.Poke nav action) is req end = refl
sole (requests.Reload nav) is req end = refl
sole (requests.Load nav mode address) is req end = absurd cc

-- so one that begins owes nothing
owes_none : (e : InEvent) (out : List RowKind) (req : ReqId) (goal : Step) (q : Asked) → request_of (now_of e out) req ≡ Some q → is_traversal q.what ≡ true → (end : Seen) → owes_row (seen_here e out) (row_of e (rows.Started req (Some goal))) end ≡ true
unfolding now_of
owes_none e out req goal q at goes end = rw at (sole q.what goes q.nr end)

-- ---- its turn

-- what a request asks for is the same without questions
pub what_bare : (checking : ReqId → Bool) (q : Asked) → (unasked_request checking q).what ≡ q.what
what_bare checking q =
    elim (checking q.nr) as (λ b. (let r : Asked = cond b (unbegun q) (without_asks q) in r).what ≡ q.what) [
      | true ↦ refl
      | false ↦ refl
    ]

module _ (p : InPass) (out : List RowKind) (t : Tables) (passing : IsPassing p out t) (turning : IsTurning p.event out) (idle : t.running ≡ None) (req : ReqId) (delta : ℤ) (first : IsFirst (now_of p.event out) req delta) (stand : all_stand (now_of p.event out) (now_of p.event out).history.current ≡ true) where
  abbrev e : InEvent
  e = p.event

  abbrev s : Seen
  s = now_of e out

  going : IsGoing None p.loads p.hand s
  going = subst (λ (r : Option ReqId). IsGoing r p.loads p.hand s) idle passing.going

  tab : IsTab None p.loads p.hand s
  tab = going.tab

  its : IsWaitingFirst s req delta
  its = first_waits None p.loads p.hand s tab req delta first

  unstarted : its.q.is_started ≡ false
  unstarted = not_begun its.q its.goes its.open_ (tab.asked.only req its.q its.at)

  -- it isn't in its check
  off : e.checking req ≡ false
  off = turn_off e out (now_is e out) passing.work.checks.begun (passing.work.unheld turning.free) req its.q its.at its.open_ its.goes

  turn : begins_in_turn s req ≡ true
  turn = first_turn s req delta tab.asked stand first

  unheld : IsUnheld None p.loads p.hand s tab req
  unheld = joined_unheld None p.loads p.hand s tab req its.joined

  -- where all stand, what the rows so far owe is paid by any end
  loose : IsLoose e out
  loose =
      passing.loose (ap (all_stand s) (aim_is s None tab.asked t.goal (λ r q never found. absurd (let no_ : None ≡ Some r = never in cc))) ∙ stand)

  -- ---- it begins

  module _ (goal : Step) (there : step_at_delta s delta ≡ Some goal.0) where
    pub begin_due : IsBeginDue s req goal
    begin_due =
        record {
          asked = its.q;
          delta = delta;
          at = its.at;
          asks = its.asks;
          unstarted = unstarted;
          open_ = its.open_;
          there = there;
          turn = turn;
          unasked = none_asked s tab.docs its.q.what (Some goal);
          unmoved = going.lasting.moves.unmoved req its.q its.at its.goes unstarted;
        }

    module _ (more : List RowKind) (u : Tables) (out_is : more ≡ out ++ rows.Started req (Some goal) ∷ []) (work : IsAtWork e more u) (tables : u ≡ record t { running = Some req; goal = goal }) where
      abbrev n : Seen
      n = next s e.event e.actor (rows.Started req (Some goal))

      now : now_of e more ≡ n
      now = now_at e out (rows.Started req (Some goal)) more out_is work.goes

      abbrev begin : Asked → Asked
      begin q = record q { is_started = true; goal = Some goal }

      tab_then : IsTab (Some req) p.loads p.hand n
      tab_then =
          begun_tab p.loads p.hand s e.event e.actor tab req its.q goal (record { there = its.at; goes = its.goes; open_ = its.open_; queued = its.joined })

      going_then : s.parked ≡ [] → IsGoing (Some req) p.loads p.hand n
      going_then none =
          begun_going None p.loads p.hand s e.event e.actor going req its.q its.at (Some goal) none p.loads p.hand tab_then (started_lasting s e.event e.actor going.lasting req (Some goal))

      turned : IsTurned s n
      turned =
          record {
            documents = refl;
            places = refl;
            rows_ = refl;
            desks = refl;
            kept = refl;
            parked = refl;
            wishes = reads_then wish s.requests (on_request req begin s.requests) n.requests (on_read wish s.requests req begin (λ q. refl)) (on_read wish (on_request req begin s.requests) req (request_begun s) (λ q. refl));
            begun = begun_with s req (Some goal);
          }

      loose_then : IsLoose e more
      loose_then =
          subst (λ (l : List RowKind). IsLoose e l) (sym out_is)
          (loose_more e out (rows.Started req (Some goal)) (last_goes e out (rows.Started req (Some goal)) _ out_is work.goes).read loose (begun_lasts s e.event e.actor req (Some goal) its.q its.at (no_load its.q.what its.goes)) (λ end on. owes_none e out req goal its.q its.at its.goes end))

      -- whom requests leave was asked, as the tab is calm, and the traversal asks nobody
      begun_duly : AsksNone (log_of e out) req (Some goal) → AreAwakeWithRows s → AreLeftDuly (log_of e more)
      begun_duly asks_nobody with_rows =
          duly_then e out (rows.Started req (Some goal)) more out_is
          (bare_traversal_duly e.checking (log_of e out) e.event e.actor passing.duly (by_now tab.sound) (at_bare Hangs tab.hangs) (at_bare AreHomed tab.homes) req real.0 real.1 goal goes_log (at_bare IsCalmYet calm) (asks_nobody real.0 real.1))
        where
          at_bare : (P : Seen → Type 0) → P s → P (unasked e.checking (log_of e out))
          at_bare P is = subst P (now_is e out) is

          by_now : IsSound s.history → IsSound (log_of e out).history
          by_now is = at_bare (λ (x : Seen). IsSound x.history) is

          -- the request as the log itself has it
          real : (q : Asked) × (request_of (log_of e out) req ≡ Some q) × (its.q ≡ unasked_request e.checking q)
          real = found_from e.checking (log_of e out) req its.q (subst (λ (x : Seen). request_of x req ≡ Some its.q) (now_is e out) its.at)

          goes_log : is_traversal real.0.what ≡ true
          goes_log = ap (λ (w : Request). is_traversal w) (sym (what_bare e.checking real.0)) ∙ ap (λ (q : Asked). is_traversal q.what) (sym real.2) ∙ its.goes

          stood : IsCalm s
          stood = calm_stood s tab.sound tab.hangs tab.homes tab.standing with_rows stand

          calm : IsCalmYet s
          calm =
              record {
                here = λ nav place doc at wakes. by_here nav place (stood.here nav place doc at wakes);
                wakes = λ nav place at shown ever. by_wakes nav place (stood.wakes nav place at shown ever);
              }
            where
              by_here : (nav : NavId) (place : Place) → ⊥ ⊎ IsHere s place → (has_row nav s.history.rows ≡ false) ⊎ IsHere s place
              by_here nav place (inl never) = absurd never
              by_here nav place (inr here) = inr here

              by_wakes : (nav : NavId) (place : Place) → ⊥ ⊎ (is_awake place ≡ true) → (has_row nav s.history.rows ≡ false) ⊎ (is_awake place ≡ true)
              by_wakes nav place (inl never) = absurd never
              by_wakes nav place (inr wakes) = inr wakes

      pub begin_passing : AsksNone (log_of e out) req (Some goal) → s.parked ≡ [] → AreAwakeWithRows s → IsPassing p more u
      begin_passing asks_nobody none with_rows =
          record {
            work = work;
            going = subst (λ (x : Seen). IsGoing u.running p.loads p.hand x) (sym now) (subst (λ (x : Tables). IsGoing x.running p.loads p.hand n) (sym tables) (going_then none));
            owed = loose_owed e more loose_then;
            loose = λ all. loose_then;
            rests = subst (λ (x : Seen). AllRest x) (sym now) (started_rests s e.event e.actor [] passing.rests req (Some goal));
            duly = begun_duly asks_nobody with_rows;
            few = subst (λ (x : Tables). length (now_of e more).kept ≤ x.kept.keep) (sym tables) (subst (λ (l : List DocId). length l ≤ t.kept.keep) (sym (ap (λ (x : Seen). x.kept) now)) passing.few);
          }

      pub begin_turning : IsTurning e more
      begin_turning = turning_turned e out more n now turned (λ r has. has) turning

      pub has_begun : HasGone e out more t u req delta
      has_begun =
          record {
            went = subst (λ (o : Option ℕ). WentTo out more t u req o) (sym there) (out_is, tables);
            history = ap (λ (x : Seen). x.history) now;
            alone = subst (λ (x : Seen). LeavesAlone s x) (sym now) (alone_turned s n turned (Some req) tab_then.asked);
            joined = ap (λ (x : Seen). x.joined) now ∙ sym (ap (joined_then s.joined req) there);
          }

  -- ---- it is refused

  module _ (nowhere : step_at_delta s delta ≡ None) where
    not_held : has_req (held_at_first e) req ≡ false
    not_held = by_test (has_req (held_at_first e) req) refl
      where
        by_test : (b : Bool) → has_req (held_at_first e) req ≡ b → b ≡ false
        by_test false is = refl
        by_test true is =
            let never : true ≡ false = sym its.goes ∙ turning.waits.apart req its.q is its.at in absurd cc

    pub refuse_due : IsNowhere e out req
    refuse_due =
        record {
          asked = its.q;
          delta = delta;
          at = its.at;
          asks = its.asks;
          open_ = its.open_;
          early = subst (λ (r : ReqId). (denial_at_acceptance e.start its.q.what ≡ None) ⊎ (nat_lt (length e.start.requests) r.0 ≡ false)) (sym (tab.asked.each req its.q its.at).nr) (turning.waits.early req its.q its.joined its.at);
          nowhere = nowhere;
          turn = turn;
          unparked = unheld.parked;
          held = ends_other e out (rows.Refused req denials.NoStep) req (refl, λ x. refl) not_held unheld.parked;
        }

    module _ (more : List RowKind) (u : Tables) (out_is : more ≡ out ++ rows.Refused req denials.NoStep ∷ []) (work : IsAtWork e more u) (tables : u ≡ t) where
      abbrev gone : Seen
      gone = next s e.event e.actor (rows.Refused req denials.NoStep)

      now_gone : now_of e more ≡ gone
      now_gone = ap (λ (l : List RowKind). now_of e l) out_is ∙ refused_now e out req denials.NoStep

      no_process : (actor : Actor) → IsWorker actor → IsNoProcess actor
      no_process actors.Ui works = tt
      no_process actors.Coord works = tt
      no_process actors.Start never = absurd never
      no_process (actors.Proc proc) never = absurd never

      apart : is_this None req ≡ false
      apart = refl

      tab_gone : IsTab None p.loads p.hand gone
      tab_gone =
          nowhere_tab None p.loads p.hand s e.event tab req apart turn e.actor denials.NoStep (no_process e.actor passing.work.worker)

      desks_as : (actor : Actor) → IsWorker actor → (next s e.event actor (rows.Refused req denials.NoStep)).desks ≡ s.desks
      desks_as actors.Ui works = refl
      desks_as actors.Coord works = refl
      desks_as actors.Start never = absurd never
      desks_as (actors.Proc proc) never = absurd never

      turned_gone : IsTurned s gone
      turned_gone =
          record {
            documents = refl;
            places = refl;
            rows_ = refl;
            desks = desks_as e.actor passing.work.worker;
            kept = refl;
            parked = without_same s.parked req unheld.parked;
            wishes = on_read wish s.requests req (λ (q : Asked). record q { ending = Some (endings.Refused denials.NoStep) }) (λ q. refl);
            begun = begun_as_it_was s.requests gone.requests (on_read course_of s.requests req (λ (q : Asked). record q { ending = Some (endings.Refused denials.NoStep) }) (λ q. refl));
          }

      loose_gone : IsLoose e more
      loose_gone =
          subst (λ (l : List RowKind). IsLoose e l) (sym out_is)
          (loose_more e out (rows.Refused req denials.NoStep) (refused_goes e out req denials.NoStep).read loose (refused_lasts s e.event e.actor req denials.NoStep) (λ end on. refl))

      going_gone : IsGoing None p.loads p.hand gone
      going_gone =
          refused_going None p.loads p.hand s e.event e.actor going req its.q its.at its.open_ denials.NoStep p.loads p.hand tab_gone (refused_lasting s e.event e.actor going.lasting req denials.NoStep)

      pub refuse_passing : IsPassing p more u
      refuse_passing =
          record {
            work = work;
            going = subst (λ (x : Seen). IsGoing u.running p.loads p.hand x) (sym now_gone) (subst (λ (x : Tables). IsGoing x.running p.loads p.hand gone) (sym tables) (subst (λ (r : Option ReqId). IsGoing r p.loads p.hand gone) (sym idle) going_gone));
            owed = loose_owed e more loose_gone;
            loose = λ all. loose_gone;
            rests = subst (λ (x : Seen). AllRest x) (sym now_gone) (refused_rests s e.event e.actor [] passing.rests req denials.NoStep);
            duly = refused_duly e out req denials.NoStep more out_is passing.duly;
            few = subst (λ (x : Tables). length (now_of e more).kept ≤ x.kept.keep) (sym tables) (subst (λ (l : List DocId). length l ≤ t.kept.keep) (sym (ap (λ (x : Seen). x.kept) now_gone)) passing.few);
          }

      pub refuse_turning : IsTurning e more
      refuse_turning = turning_turned e out more gone now_gone turned_gone (λ r has. still_joined req r s.joined has) turning

      pub has_refused : HasGone e out more t u req delta
      has_refused =
          record {
            went = subst (λ (o : Option ℕ). WentTo out more t u req o) (sym nowhere) (out_is, tables);
            history = ap (λ (x : Seen). x.history) now_gone;
            alone = subst (λ (x : Seen). LeavesAlone s x) (sym now_gone) (alone_turned s gone turned_gone None tab_gone.asked);
            joined = ap (λ (x : Seen). x.joined) now_gone ∙ sym (ap (joined_then s.joined req) nowhere);
          }
