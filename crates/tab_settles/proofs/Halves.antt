-- One pass in two parts, whatever runs: what is so between them, and behind them.
use Rattle.log_model.specs.ActsAtOnce.{ends_told}
use Rattle.log_model.specs.History.{has_state}
use Rattle.log_model.specs.Orders.{ongoing_load}
use Rattle.log_model.specs.Places.{aim_of}
use Rattle.log_model.specs.Seen.{Asked, Document, Seen, document_of}
use Rattle.log_model.specs.declared.job.Why.{Why}
use Rattle.log_model.specs.declared.row_kind.RowKind.{RowKind}
use Rattle.move_queue.specs.Queue.{Queue}
use Rattle.seen_facts.specs.LoadEnds.Standing.{LoadsStand}
use Rattle.seen_facts.specs.Rest.Between.{IsOfLoad}
use Rattle.seen_facts.specs.Walk.Serving.{AreServed}
use Rattle.seen_laws.specs.InEvent.{now_of}
use Rattle.std.proofs.Common.{Bool, List, None, Option, Some, ap, false, inl, inr, refl, subst, sym, true, ◌∙◌, ◌≡◌, ◌⊎◌}
use Rattle.tab_doors.specs.declared.tables.Tables.{Tables}
use Rattle.tab_facts.specs.FrameWhole.Tab.{AreAwakeWithRows}
use Rattle.tab_facts.specs.TabEvents.Between.{AreSwept, orders_go}
use Rattle.tab_ids.specs.declared.ReqId.{ReqId}
use Rattle.tab_ids.specs.declared.StateId.{StateId}
use Rattle.tab_releases.proofs.PassedOn.{aim_is, bare_move, cleared_put, left_blamed, loaded_never, of_load, own_document, served_put, served_quiet, stand_bare}
use Rattle.tab_releases.specs.PassedOn.{AreBlamed, AreLeftStrays, DiscardsUnheld, HasClearedAll, HasOnly, HasPassed, HasPutOut, HasServedAll, IsOpen, KeepsLeftStrays, KeepsStore, KeepsUnmoved, LeavesCalm, LeavesPass, MayServeAll, MayStand, SendsForStrays, WereStray, aim_in}
use Rattle.tab_releases.specs.Releasing.{InPass, IsPassing}
use Rattle.tab_settles.proofs.Lates.{applied_after}
use Rattle.tab_settles.proofs.LoadsOff.{off_none, off_passed}
use Rattle.tab_settles.proofs.Passed as passed
use Rattle.tab_settles.proofs.Passed.{calm_after}
use Rattle.tab_settles.proofs.PutOuts.{put_only}
use Rattle.tab_settles.proofs.Sweeps.{go_on}
use Rattle.tab_settles.specs.Held.{HasCleared}
use Rattle.tab_settles.specs.Settling.{FreesVisited, HasPut, HasSettled, IsCalmAfter, IsCalmBefore, IsOrderOrDrop, IsReady, LeavesOff}

-- ---- the first part

module _ (p : InPass) (out : List RowKind) (t : Tables) (queue : Queue) (blame : List (StateId × ReqId)) (cause : Why) (ready : IsReady p out t queue blame cause) where
  pub first_asks : IsPassing p out t × (IsOpen p.event t.running cause (now_of p.event out) × (MayStand t.running (now_of p.event out) × AreBlamed (now_of p.event out) blame))
  first_asks = (ready.passing, (ready.open_, (ready.loads, ready.blamed)))

  module _ (new : List RowKind) (u : Tables) (noted : List (StateId × ReqId)) (passing : IsPassing p new u) (left : LeavesPass (now_of p.event out) (now_of p.event new)) (clears : HasClearedAll p.event t.running out new) (kept : KeepsStore t u) where
    abbrev s : Seen
    s = now_of p.event out

    abbrev m : Seen
    m = now_of p.event new

    only : HasPutOut p.event t.running cause cause out new
    only = cleared_put p.event t.running cause cause out new clears

    calm_between : (r : Option ReqId) → t.running ≡ r → KeepsUnmoved r s m → IsCalmBefore r cause s → IsCalmBefore r cause m
    calm_between (Some run) is keeps calm = (keeps run refl calm.0, left.calms.rooted calm.1)
    calm_between None is keeps (inl yet) = inl (left.calms.yet aim_now yet)
      where
        aim_now : aim_of s ≡ s.history.current
        aim_now =
            aim_is s t.running ready.passing.going.tab.asked t.goal ready.passing.work.goal ∙ ap (λ (r : Option ReqId). aim_in s.history r t.goal) is
    calm_between None is keeps (inr around) =
        inr (around.0, (left.calms.around aim_now around.0 around.1.0, applied_after p.event cause cause out new passing.work.goes (subst (λ (r : Option ReqId). HasPutOut p.event r cause cause out new) is only) around.0 around.1.1))
      where
        aim_now : aim_of s ≡ s.history.current
        aim_now =
            aim_is s t.running ready.passing.going.tab.asked t.goal ready.passing.work.goal ∙ ap (λ (r : Option ReqId). aim_in s.history r t.goal) is

    -- where all ongoing loads stand they may
    may_stand : (r : Option ReqId) → LoadsStand m → MayStand r m
    may_stand None stand = stand_bare m stand
    may_stand (Some run) stand = bare_move m (stand_bare m stand)

    pub first_cleared : IsOpen p.event u.running cause (now_of p.event new) → LoadsStand (now_of p.event new) → AreLeftStrays (now_of p.event new) noted → AreAwakeWithRows (now_of p.event new) → FreesVisited p.event (now_of p.event new) → SendsForStrays (now_of p.event out) (now_of p.event new) out new → KeepsUnmoved t.running (now_of p.event out) (now_of p.event new) → HasCleared false p new u queue noted cause
    first_cleared open_ stand strays with_rows frees sent keeps =
        record {
          ready = record {
            passing = passing;
            empty = ready.empty;
            header = kept.keep ∙ ready.header;
            open_ = open_;
            loads = may_stand u.running stand;
            frees = frees;
            blamed = left_blamed m noted with_rows (λ nav place doc d at wakes found. own_document u.running p.loads p.hand m passing.going.tab nav place doc d at wakes found) strays;
            calm = subst (λ (r : Option ReqId). IsCalmBefore r cause m) (sym kept.running) (calm_between t.running refl keeps ready.calm);
            late = passed.late_then p out t queue blame cause ready new u noted cause passing left only kept;
            moved = passed.moved_then p out t queue blame cause ready new u noted cause passing left only kept;
            live = passed.live_then p out t queue blame cause ready new u noted cause passing left only kept stand;
            theirs = passed.theirs_then p out t queue blame cause ready new u noted cause passing left only kept;
            queueing = passed.queueing_then p out t queue blame cause ready new u noted cause passing left only kept;
          };
          stand = stand;
          rows_ = with_rows;
          strays = strays;
          swept = passed.swept_then p out t queue blame cause ready new u noted cause passing left only kept sent;
        }

    -- what the first part put out
    pub first_put : HasPut p.event out new
    first_put = passed.pass_ready_put p out t queue blame cause ready new cause only left

    pub first_off : LeavesOff p.event out new
    first_off = off_passed p.event out out new (off_none p.event out) (put_only p.event t.running cause cause out new only) left.history left.aim

-- ---- the second part

module _ (p : InPass) (out : List RowKind) (t : Tables) (queue : Queue) (blame : List (StateId × ReqId)) (cause : Why) (at : HasCleared false p out t queue blame cause) where
  pub rest_asks : IsPassing p out t × MayServeAll p.event t.running t.kept.keep cause (now_of p.event out)
  rest_asks =
      (at.ready.passing, record { open_ = at.ready.open_; rows_ = at.rows_; loads = at.stand; header = at.ready.header; frees = at.ready.frees })

  module _ (new : List RowKind) (u : Tables) (tells : Why) (passing : IsPassing p new u) (left : LeavesPass (now_of p.event out) (now_of p.event new)) (serves : HasServedAll p.event t.running cause tells out new) (kept : KeepsStore t u) where
    whole : HasPutOut p.event t.running cause tells out new
    whole = served_put p.event t.running cause tells out new serves

    put : HasOnly IsOrderOrDrop out new
    put = put_only p.event t.running cause tells out new whole

    swept_rest : WereStray (now_of p.event out) (now_of p.event new) → AreSwept (now_of p.event out) ⊎ (orders_go (now_of p.event out) ≡ true) → AreSwept (now_of p.event new) ⊎ (orders_go (now_of p.event new) ≡ true)
    swept_rest before (inr go) = inr (go_on p.event out new put go)
    swept_rest before (inl swept) = inl still
      where
        still : AreSwept (now_of p.event new)
        still doc d found ready undiscarded = by_row (has_state d.state (now_of p.event new).history.rows) refl
          where
            was_swept : (e : Document) → document_of (now_of p.event out) doc ≡ Some e → e.is_ready ≡ true → e.is_discarded ≡ false → has_state d.state (now_of p.event out).history.rows ≡ false → e.state ≡ d.state → ongoing_load (now_of p.event out) d.state ≡ None → ⊥
            was_swept e at_ ready_ undiscarded_ bare its unloaded = by_case (swept doc e at_ ready_ undiscarded_)
              where
                by_case : (has_state e.state (now_of p.event out).history.rows ≡ true) ⊎ IsOfLoad (now_of p.event out) e → ⊥
                by_case (inl has) =
                    let never : true ≡ false = sym has ∙ ap (λ (x : StateId). has_state x (now_of p.event out).history.rows) its ∙ bare in cc
                by_case (inr loaded) =
                    loaded_never (now_of p.event out) d.state unloaded loaded.req loaded.q e.state loaded.found loaded.ongoing loaded.own (ap (λ (x : StateId). x.0) its)

            by_load : has_state d.state (now_of p.event new).history.rows ≡ false → (o : Option Asked) → ongoing_load (now_of p.event new) d.state ≡ o → (has_state d.state (now_of p.event new).history.rows ≡ true) ⊎ IsOfLoad (now_of p.event new) d
            by_load bare (Some q) is = inr (of_load (now_of p.event new) d q is)
            by_load bare None is =
                let was = before doc d.state (record { document = d; found = found; its_state = refl; ready = ready; undiscarded = undiscarded; bare = bare; unloaded = is }) in
                absurd (was_swept was.document was.found was.ready was.undiscarded was.bare was.its_state was.unloaded)

            by_row : (b : Bool) → has_state d.state (now_of p.event new).history.rows ≡ b → (has_state d.state (now_of p.event new).history.rows ≡ true) ⊎ IsOfLoad (now_of p.event new) d
            by_row true is = inl is
            by_row false bare = by_load bare (ongoing_load (now_of p.event new) d.state) refl

    pub rested : AreServed (now_of p.event new) → ends_told (now_of p.event new) ≡ true → HasPassed p.event (now_of p.event new) → KeepsLeftStrays (now_of p.event out) (now_of p.event new) → WereStray (now_of p.event out) (now_of p.event new) → LeavesCalm t.running (now_of p.event out) (now_of p.event new) → HasSettled p new u queue blame cause
    rested served told passed_ strays before calm =
        passed.settled_in p out t queue blame cause at.ready new u blame tells passing left whole kept passing served told (strays blame at.strays) passed_ (subst (λ (r : Option ReqId). IsCalmAfter r (now_of p.event new)) (sym kept.running) (calm_after t.running cause (now_of p.event out) (now_of p.event new) calm at.ready.calm)) (swept_rest before at.swept)

    -- what the second part put out
    pub rested_put : HasPut p.event out new
    rested_put = passed.pass_ready_put p out t queue blame cause at.ready new tells whole left

    pub rested_off : LeavesOff p.event out new
    rested_off = off_passed p.event out out new (off_none p.event out) put left.history left.aim

    pub rested_quiet : DiscardsUnheld p.event out new
    rested_quiet = served_quiet p.event t.running cause tells out new serves
