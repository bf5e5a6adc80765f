-- After a pass: the queue waits on, and what is held back is.
use Rattle.seen_facts.specs.Asked.Asking.{IsThere}
use Rattle.tab_facts.proofs.Calm.Moves.{AreUnmoved}
use Rattle.seen_facts.specs.Each.Runs.{OnlyRuns}
use Rattle.log_model.specs.History.{History}
use Rattle.seen_facts.proofs.Coord.Held.{held_alike}
use Rattle.seen_facts.specs.Coord.Leading.{held_back}
use Rattle.seen_facts.proofs.Each.Courses.{was_asked}
use Rattle.tab_facts.specs.Frame.Lasting.{Wish, wish}
use Rattle.log_model.specs.ActsAtOnce.{ends_told}
use Rattle.log_model.specs.Equal.{has_req}
use Rattle.log_model.specs.Places.{is_load, aim_of, all_stand, all_stand_in}
use Rattle.log_model.specs.Points.{nav_of_request}
use Rattle.log_model.specs.Seen.{Seen}
use Rattle.log_model.specs.declared.job.Why.{Why}
use Rattle.log_model.specs.declared.row_kind.RowKind.{RowKind}
use Rattle.move_queue.specs.Queue.{Queue}
use Rattle.seen_laws.specs.InEvent.{InEvent, now_of}
use Rattle.std.proofs.Common.{Bool, List, None, Option, Some, ap, false, inl, inr, refl, subst, sym, true, ℕ, ◌∙◌, ◌≡◌, ◌⊎◌}
use Rattle.tab_releases.proofs.PassedOn.{aim_is, queue_left, stand_awake, waiting_passed}
use Rattle.tab_releases.proofs.Releases.{IsByItsOwn, mades_same, queue_over}
use Rattle.tab_facts.specs.TabEvents.Between.{AreSwept, orders_go}
use Rattle.tab_releases.specs.PassedOn.{AreBlamed, AreLeftStrays, HasOnly, HasPassed, HasPutOut, HasQueue, KeepsStore, LeavesCalm, LeavesPass, LoadsLive, MayPass, SendsForStrays, aim_in}
use Rattle.tab_releases.specs.Releasing.{HoldsParked, InPass, IsPassing, LoadsMadeOwn, Tables}
use Rattle.tab_ids.specs.declared.NavId.{NavId}
use Rattle.tab_ids.specs.declared.ReqId.{ReqId}
use Rattle.tab_ids.specs.declared.StateId.{StateId}
use Rattle.seen_facts.specs.LoadEnds.Standing.{LoadsStand}
use Rattle.tab_settles.proofs.Lates.{late_after}
use Rattle.tab_settles.proofs.LoadsOff.{off_passed}
use Rattle.tab_settles.proofs.MovedPasses.{put_shown}
use Rattle.tab_settles.proofs.MovedRows.{shown_idle}
use Rattle.tab_settles.proofs.PutOuts.{only_applies_none, only_leaves, put_only, KeepsOff, only_off}
use Rattle.tab_settles.proofs.Sweeps.{swept_or}
use Rattle.tab_settles.proofs.Puts.{pass_put, put_then}
use Rattle.tab_settles.specs.Offs.{LateKnown}
use Rattle.tab_settles.specs.Settling.{FreesVisited, HasPut, HasSettled, IsPassingIn, IsReadyIn, IsCalmAfter, IsCalmBefore, IsOrderOrDrop, IsQueueing, IsReady, LeavesOff, LeavesPut, MayRelease, MovedAreShown}
use Rattle.seen_facts.specs.Walk.Serving.{AreServed}

-- what a pass asks
-- how calm the tab is once a pass went by
pub calm_after : (run : Option ReqId) (cause : Why) (s n : Seen) → LeavesCalm run s n → IsCalmBefore run cause s → IsCalmAfter run n
calm_after None cause s n leaves_ (inl yet) = leaves_.yet yet
calm_after None cause s n leaves_ (inr around) = leaves_.around around.0 around.1.0
calm_after (Some run) cause s n leaves_ before_ = (leaves_.unmoved run refl before_.0, leaves_.rooted before_.1)

pub pass_asks : (p : InPass) (out : List RowKind) (t : Tables) (queue : Queue) (blame : List (StateId × ReqId)) (cause : Why) → IsReady p out t queue blame cause → IsPassing p out t × (MayPass p.event t.running t.kept.keep cause (now_of p.event out) × (AreBlamed (now_of p.event out) blame × FreesVisited p.event (now_of p.event out)))
pass_asks p out t queue blame cause ready =
    (ready.passing, (record { open_ = ready.open_; loads = ready.loads; header = ready.header }, (ready.blamed, ready.frees)))

module _ {before : Bool} (p : InPass) (out : List RowKind) (t : Tables) (queue : Queue) (blame : List (StateId × ReqId)) (cause : Why) (ready : IsReadyIn before p out t queue blame cause) where
  -- ---- what is so behind a pass, or a part of one

  module _ {sweeps : Bool} (new : List RowKind) (u : Tables) (noted : List (StateId × ReqId)) (tells : Why) (passing : IsPassingIn sweeps p new u) (left : LeavesPass (now_of p.event out) (now_of p.event new)) (only : HasPutOut p.event t.running cause tells out new) (kept : KeepsStore t u) where
    abbrev s : Seen
    s = now_of p.event out

    abbrev n : Seen
    n = now_of p.event new

    pub put : HasOnly IsOrderOrDrop out new
    put = put_only p.event t.running cause tells out new only

    pub leaves : LeavesPut s n
    leaves = only_leaves p.event out new put

    -- ---- the queue

    queued_then : HasQueue n u.running queue.waiting
    queued_then =
        subst (λ (r : Option ReqId). HasQueue n r queue.waiting) (sym kept.running) (queue_over s n (queue_left s n left) t.running queue.waiting ready.queueing.queued)

    -- ---- what is held back

    parked_then : HoldsParked n queue.parked
    parked_then =
        ready.queueing.parked
        ∙ sym (held_alike s.requests n.requests s.parked (mades_same s n leaves.wishes))
        ∙ ap (λ (l : List ReqId). held_back n.requests l) (sym left.parked)

    -- ---- what was made

    pub theirs_then : LoadsMadeOwn n
    theirs_then req q made at load makes =
        let asked = was_asked wish s.requests n.requests leaves.wishes req q at in
        let both = ready.theirs req asked.0 made asked.1 (ap (λ (w : Wish). is_load w.what) asked.2 ∙ load) (ap (λ (w : Wish). w.made) asked.2 ∙ makes) in
        let had : IsByItsOwn s asked.0 made = both.0 in
        let home = leaves.homes made.doc had.d had.found in
        (record { d = home.0; found = home.1; nav_is = ap (λ (w : Wish). nav_of_request w.what) (sym asked.2) ∙ had.nav_is ∙ ap (λ (x : NavId). Some x) (sym home.2) }, both.1)

    -- where all stand, they did before the pass
    stood_before : all_stand n (aim_of n) ≡ true → all_stand s (aim_of s) ≡ true
    stood_before all = by_test (all_stand s (aim_of s)) refl
      where
        off : KeepsOff s n
        off = only_off p.event out new put

        by_test : (b : Bool) → all_stand s (aim_of s) ≡ b → b ≡ true
        by_test true is = refl
        by_test false is =
            let unsettled : all_stand_in s.history.rows n.places (aim_of s) ≡ false = off.unsettled s.history.rows (aim_of s) is in
            let same : all_stand n (aim_of n) ≡ all_stand_in s.history.rows n.places (aim_of s) = ap (λ (k : ℕ). all_stand n k) left.aim ∙ ap (λ (h : History). all_stand_in h.rows n.places (aim_of s)) left.history in
            let never : false ≡ true = sym unsettled ∙ sym same ∙ all in
            absurd cc

    pub queueing_then : IsQueueing p new u queue
    queueing_then =
        record {
          waits = waiting_passed p.event out new left ready.queueing.waits;
          queued = queued_then;
          parked = parked_then;
          held = λ none. left.parked ∙ ready.queueing.held (sym kept.running ∙ none);
          over = λ has. left.parked ∙ ready.queueing.over (sym (only_applies_none p.event out new put) ∙ has);
          releasing = λ some all. (let may : MayRelease p.event out = ready.queueing.releasing (λ none. some (left.parked ∙ none)) (stood_before all) in record {
            by_coord = may.by_coord;
            takes = may.takes;
            many = leaves.many ∙ may.many;
            old = λ req has. may.old req (ap (λ (l : List ReqId). has_req l req) (sym left.parked) ∙ has);
          });
        }

    -- ---- whom the traversal has moved

    pub moved_then : MovedAreShown u.running n
    moved_then =
        subst (λ (r : Option ReqId). MovedAreShown r n) (sym kept.running) (by_run t.running refl ready.calm ready.moved only)
      where
        by_run : (r : Option ReqId) → t.running ≡ r → IsCalmBefore r cause s → MovedAreShown r s → HasPutOut p.event r cause tells out new → MovedAreShown r n
        by_run None is before shown puts = shown_idle n
        by_run (Some run) is before shown puts = (put_shown p.event run cause tells out new puts (unmoved, shown)).1
          where
            it : IsThere s run
            it = ready.passing.going.tab.asked.runs run is

            unmoved : AreUnmoved run s
            unmoved =
                record {
                  only = subst (λ (r : Option ReqId). OnlyRuns r s) is ready.passing.going.tab.asked.only;
                  q = it.q;
                  found = it.found;
                  traverses = it.traverses;
                  here = before.0;
                }

    -- ---- who is late

    pub late_then : LateKnown u.running n
    late_then =
        subst (λ (r : Option ReqId). LateKnown r n) (sym kept.running) (by_run t.running refl ready.calm ready.late only)
      where
        by_run : (r : Option ReqId) → t.running ≡ r → IsCalmBefore r cause s → LateKnown r s → HasPutOut p.event r cause tells out new → LateKnown r n
        by_run None is before late puts =
            late_after p.event cause tells out new passing.work.goes puts left.history (aim_is s t.running ready.passing.going.tab.asked t.goal ready.passing.work.goal ∙ ap (λ (r : Option ReqId). aim_in s.history r t.goal) is) left.up before late
        by_run (Some run) is before late puts = tt

    -- ---- ongoing loads

    pub live_then : LoadsStand n → LoadsLive n
    live_then stand =
        record {
          awake = stand_awake u.running p.loads p.hand n passing.going.tab stand;
          loading = left.loading ready.live.loading;
        }

    -- no document is stray, or an order is on its way
    pub swept_then : SendsForStrays s n out new → AreSwept n ⊎ (orders_go n ≡ true)
    swept_then sent =
        swept_or p.event out new put (λ doc d found stray. sent (λ req nav its bare. ready.live.awake req nav its) doc d.state stray)

    -- ---- the pass is over

    module _ (went : IsPassing p new u) (served : AreServed n) (told : ends_told n ≡ true) (strays : AreLeftStrays n noted) (passed : HasPassed p.event n) where
      pub settled_in : IsCalmAfter u.running n → AreSwept n ⊎ (orders_go n ≡ true) → HasSettled p new u queue noted cause
      settled_in calm swept =
          record {
            passing = went;
            empty = ready.empty;
            header = kept.keep ∙ ready.header;
            may = left.causes cause ready.open_.may;
            passed = passed;
            strays = strays;
            served = served;
            told = told;
            swept = swept;
            calm = calm;
            late = late_then;
            moved = moved_then;
            live = live_then passed.walked.loads;
            theirs = theirs_then;
            queueing = queueing_then;
          }

  pub settled : (new : List RowKind) (u : Tables) (noted : List (StateId × ReqId)) (tells : Why) → IsPassing p new u → AreServed (now_of p.event new) → ends_told (now_of p.event new) ≡ true → AreLeftStrays (now_of p.event new) noted → HasPassed p.event (now_of p.event new) → LeavesPass (now_of p.event out) (now_of p.event new) → HasPutOut p.event t.running cause tells out new → KeepsStore t u → LeavesCalm t.running (now_of p.event out) (now_of p.event new) → SendsForStrays (now_of p.event out) (now_of p.event new) out new → HasSettled p new u queue noted cause
  settled new u noted tells passing served told strays passed left only kept calm sent =
      settled_in new u noted tells passing left only kept passing served told strays passed (subst (λ (r : Option ReqId). IsCalmAfter r (now_of p.event new)) (sym kept.running) (calm_after t.running cause (now_of p.event out) (now_of p.event new) calm ready.calm)) (swept_then new u noted tells passing left only kept sent)

-- ---- what was put out

-- by a pass
pub pass_ready_put : {before : Bool} (p : InPass) (out : List RowKind) (t : Tables) (queue : Queue) (blame : List (StateId × ReqId)) (cause : Why) → IsReadyIn before p out t queue blame cause → (new : List RowKind) (tells : Why) → HasPutOut p.event t.running cause tells out new → LeavesPass (now_of p.event out) (now_of p.event new) → HasPut p.event out new
pass_ready_put p out t queue blame cause ready new tells only left =
    pass_put p.event t.running cause tells out new only ready.passing.going.tab.asked ready.open_.may left.causes

-- so who was moved before is off still
pub pass_off : (e : InEvent) (first out new : List RowKind) (run : Option ReqId) (cause tells : Why) → LeavesOff e first out → HasPutOut e run cause tells out new → LeavesPass (now_of e out) (now_of e new) → LeavesOff e first new
pass_off e first out new run cause tells off only left =
    off_passed e first out new off (put_only e run cause tells out new only) left.history left.aim

-- before, and by a pass
pub put_passed : {sweeps : Bool} (p : InPass) (first out mid : List RowKind) (u : Tables) → IsPassingIn sweeps p mid u → HasPut p.event first out → HasPut p.event out mid → HasPut p.event first mid
put_passed p first out mid u passing one two =
    put_then p.event u.running first out mid passing.work.goes passing.going.tab.asked one two

-- before, by a pass, and by a turn
pub put_both : (p : InPass) (first out mid new : List RowKind) (u : Tables) → IsPassing p new u → HasPut p.event first out → HasPut p.event out mid → HasPut p.event mid new → HasPut p.event first new
put_both p first out mid new u passing one two three =
    put_then p.event u.running first out new passing.work.goes passing.going.tab.asked one (put_then p.event u.running out mid new passing.work.goes passing.going.tab.asked two three)
