-- What a coordinator stands for, once an event's own row was logged: what documents made may be taken, so that a pass may follow.
use Rattle.tab_ids.specs.declared.StateId.{StateId}
use Rattle.move_queue.specs.Queue.{Queue}
use Rattle.seen_laws.specs.InEvent.{InEvent}
use Rattle.tab_one_pass.specs.Passing.{HasPassed, StillAwake}
use Rattle.log_model.specs.History.{has_row}
use Rattle.log_model.specs.Places.{aim_of}
use Rattle.log_model.specs.Seen.{Seen}
use Rattle.log_model.specs.declared.job.Why.TheVariants as whys
use Rattle.log_model.specs.declared.job.Why.{Why}
use Rattle.row_facts.proofs.WalkRows.Moved.{run_moves}
use Rattle.row_facts.specs.WalkRows.Since.{AwakeSince, MovesVisited}
use Rattle.std.proofs.Common.{List, None, Option, Some, [], ap, arith, false, refl, subst, ◌∙◌, ◌≡◌}
use Rattle.tab_doors.specs.declared.tables.Tables.{Tables}
use Rattle.tab_facts.proofs.Calm.Calms.{calm_but, calm_need, calm_rooted}
use Rattle.tab_facts.specs.Calm.Calm.{AreRooted, CalmUnless, IsCalmYet, NeedIsNew, UnmovedAreHere}
use Rattle.tab_facts.specs.TabWhole.Tab.{IsTab}
use Rattle.tab_ids.specs.declared.NavId.{NavId}
use Rattle.tab_ids.specs.declared.ReqId.{ReqId}
use Rattle.tab_one_pass.proofs.Passes.{left_blamed}
use Rattle.tab_settles.proofs.PassedOn.{aim_is, bare_move, calm_unmoved, own_document, run_leavers, show_causes, stand_awake, stand_bare}
use Rattle.tab_settles.specs.PassedOn.{AreBlamed, IsTaking, LoadsLive, MayCause, MayServe, MayStand, aim_in, show_why}
use Rattle.tab_settles.specs.Settling.{IsCalmAfter}
use Rattle.tab_stands.specs.Standing.{InCheck, StandsFor}

module _ (e : InEvent) (check : InCheck) (s : Seen) (t : Tables) (queue : Queue) (noted : List (StateId × ReqId)) (stands : StandsFor check s t queue noted) where
  tab : IsTab t.running check.loads [] s
  tab = stands.between.tab

  -- ---- how calm the tab is

  yet_of : (r : Option ReqId) → IsCalmAfter r s → CalmUnless IsCalmYet r s
  yet_of None calm = calm_but s calm (λ (nav : NavId). has_row nav s.history.rows ≡ false)
  yet_of (Some req) calm = tt

  unmoved_of : (r : Option ReqId) → IsCalmAfter r s → UnmovedAreHere s
  unmoved_of None calm = calm_unmoved s calm
  unmoved_of (Some req) calm = calm.0

  rooted_of : (r : Option ReqId) → IsCalmAfter r s → AreRooted s
  rooted_of None calm = calm_rooted s calm
  rooted_of (Some req) calm = calm.1

  -- ---- who is visited in need

  needs_new : t.running ≡ None → NeedIsNew s
  needs_new is nav place there need =
      let calm : IsCalmAfter None s = subst (λ (r : Option ReqId). IsCalmAfter r s) is stands.lasts.calm in
      let idle : aim_of s ≡ s.history.current = aim_is s t.running tab.asked t.goal stands.tied.goal ∙ ap (λ (r : Option ReqId). aim_in s.history r t.goal) is in
      calm_need s tab.standing idle tab.sound tab.hangs (calm_but s calm (λ (x : NavId). has_row x s.history.rows ≡ false)) nav place there need

  moves_of : (r : Option ReqId) → t.running ≡ r → (cause : Why) → MovesVisited s (show_why r cause)
  moves_of None is cause nav place there need epoch =
      let zero_ : place.epoch.0 ≡ 0 = needs_new is nav place there need in
      absurd (omega (arith, zero_, epoch))
  moves_of (Some req) is cause nav place there need epoch =
      let it = tab.asked.runs req is in
      let may : MayServe s req = subst (λ (r : Option ReqId). MayCause s (show_why r whys.Start)) is (show_causes s t.running tab.asked whys.Start (λ r never. absurd cc)) req refl in
      run_moves s req it.q nav it.found it.traverses ((may.begun it.q it.found).traverses it.traverses) (tab.asked.passed req it.q it.found)

  -- ---- loads

  pub live_before : LoadsLive s
  live_before = record { awake = stand_awake t.running check.loads [] s tab stands.between.stands; loading = stands.between.loading }

  stand_of : (r : Option ReqId) → MayStand r s
  stand_of None = stand_bare s stands.between.stands
  stand_of (Some req) = bare_move s (stand_bare s stands.between.stands)

  -- for each stray document a request is noted
  pub blames : AreBlamed s noted
  blames =
      left_blamed s noted stands.between.rows_ (own_document t.running check.loads [] s tab) stands.strays

  -- ---- all of it

  pub taking : HasPassed e s → AwakeSince e.start [] s → StillAwake e.start s → IsTaking e t.running noted s
  taking start unwoken still =
      record {
        open_ = λ cause may. record {
          may = may;
          since = start.walked.since;
          unwoken = unwoken;
          still = still;
          moves = moves_of t.running refl cause;
          leavers = run_leavers s t.running tab.asked needs_new cause;
          were = start.walked.were;
          parents = start.walked.parents;
          held = start.held;
          takers = start.takers;
        };
        loads = stand_of t.running;
        blamed = blames;
        calm = yet_of t.running stands.lasts.calm;
        unmoved = unmoved_of t.running stands.lasts.calm;
        rooted = rooted_of t.running stands.lasts.calm;
        live = live_before;
      }
