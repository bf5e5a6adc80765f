-- While a traversal in its check holds the queue the tab is brought to rest by one pass in two parts: what is so between them, and behind them.
use Rattle.log_model.specs.Places.{aim_of}
use Rattle.log_model.specs.Seen.{Seen}
use Rattle.log_model.specs.declared.job.Task.{Task}
use Rattle.log_model.specs.declared.job.Why.{Why}
use Rattle.log_model.specs.declared.outcome.Cause.TheVariants as causes
use Rattle.log_model.specs.declared.row_kind.RowKind.TheVariants as rows
use Rattle.log_model.specs.declared.row_kind.RowKind.{RowKind}
use Rattle.move_queue.specs.Queue.{Queue}
use Rattle.row_facts.proofs.Owed.Ends.{loose_more}
use Rattle.row_facts.proofs.Owed.Rows.{dropped_lasts, sent_lasts}
use Rattle.row_facts.specs.Owed.Owed.{IsLoose}
use Rattle.seen_facts.proofs.Hang.Members.{has_map}
use Rattle.seen_facts.specs.Hang.Members.{Has}
use Rattle.seen_facts.specs.LoadEnds.Standing.{LoadsStand}
use Rattle.seen_laws.specs.InEvent.{InEvent, now_of}
use Rattle.seen_laws.specs.Unasked.{is_question}
use Rattle.std.proofs.Common.{Bool, List, None, Option, [], ap, append-nil, append_assoc, inl, inr, map, not, refl, subst, sym, true, ◌++◌, ◌∙◌, ◌∷◌, ◌≡◌}
use Rattle.tab_doors.specs.declared.tables.Tables.{Tables}
use Rattle.tab_facts.proofs.Calm.Calms.{calm_rows}
use Rattle.tab_facts.specs.Calm.Calm.{IsCalmYet}
use Rattle.tab_facts.specs.FrameWhole.Tab.{AreAwakeWithRows}
use Rattle.tab_ids.specs.declared.ReqId.{ReqId}
use Rattle.tab_ids.specs.declared.StateId.{StateId}
use Rattle.tab_releases.proofs.PassedOn.{StandOrBare, cleared_put as put_cleared, aim_is, left_blamed, own_document, stand_bare}
use Rattle.tab_releases.specs.PassedOn.{AreBlamed, AreLeftStrays, HasClearedOut, HasGivenWay, HasPutOut, IsOpen, KeepsStore, LeavesPass, MayStand, SendsForStrays, aim_in, row_of_drop}
use Rattle.tab_releases.specs.Releasing.{InPass}
use Rattle.tab_settles.proofs.Lates.{applied_after}
use Rattle.tab_settles.proofs.LoadsOff.{off_none, off_passed}
use Rattle.tab_settles.proofs.PutOuts.{order_or_drop_goes, put_only}
use Rattle.tab_settles.proofs.Passed as passed
use Rattle.tab_settles.specs.Held.{HasCleared, IsClearedIn}
use Rattle.tab_settles.specs.Settling.{FreesVisited, HasPut, IsCalmBefore, IsPassingIn, IsReadyIn, LeavesOff}

-- ---- the first part is a pass of which the other one puts out nothing

pub cleared_put : (e : InEvent) (run : Option ReqId) (cause tells : Why) (blame : List (StateId × ReqId)) (was out : List RowKind) → run ≡ None → HasClearedOut e blame was out → HasPutOut e run cause tells was out
cleared_put e run cause tells blame was out idle clears =
    put_cleared e run cause tells was out (record { given = was; gives = subst (λ (r : Option ReqId). HasGivenWay (now_of e was) r was was) (sym idle) refl; blame = blame; clears = clears })

-- ---- what the first part owes

-- orders, and drops of loads whose navigables lost their entries
abbrev IsClearing : RowKind → Type 0
IsClearing (rows.Sent job) = not (is_question job.task) ≡ true
IsClearing (rows.Dropped req (causes.Destroyed by)) = Unit {0}
IsClearing _ = ⊥

module _ (e : InEvent) where
  -- one of them owes nothing
  one_loose : (out : List RowKind) (row : RowKind) → IsClearing row → IsLoose e out → IsLoose e (out ++ row ∷ [])
  one_loose out (rows.Sent job) is loose =
      loose_more e out (rows.Sent job) (order_or_drop_goes e out (rows.Sent job) is).read loose (sent_lasts (now_of e out) e.event e.actor job) (λ end lasts. refl)
  one_loose out (rows.Dropped req (causes.Destroyed by)) is loose =
      loose_more e out (rows.Dropped req (causes.Destroyed by)) (order_or_drop_goes e out (rows.Dropped req (causes.Destroyed by)) tt).read loose (dropped_lasts (now_of e out) e.event e.actor req (causes.Destroyed by)) (λ end lasts. refl)
  one_loose out row is loose = elim is [ ]

  all_loose : (more out : List RowKind) → ((row : RowKind) → Has more row → IsClearing row) → IsLoose e out → IsLoose e (out ++ more)
  all_loose [] out each loose = subst (λ (l : List RowKind). IsLoose e l) (sym (append-nil out)) loose
  all_loose (row ∷ more) out each loose =
      subst (λ (l : List RowKind). IsLoose e l) (append_assoc out (row ∷ []) more)
      (all_loose more (out ++ row ∷ []) (λ r has. each r (inr has)) (one_loose out row (each row (inl refl)) loose))

  pub cleared_loose : (blame : List (StateId × ReqId)) (was out : List RowKind) → HasClearedOut e blame was out → IsLoose e was → IsLoose e out
  cleared_loose blame was out clears loose =
      subst (λ (l : List RowKind). IsLoose e l) (sym clears.destroys.is)
      (all_loose (map row_of_drop clears.destroys.drops) clears.swept dropped
      (subst (λ (l : List RowKind). IsLoose e l) (sym clears.sweeps.is) (all_loose clears.sweeps.more was swept loose)))
    where
      swept : (row : RowKind) → Has clears.sweeps.more row → IsClearing row
      swept row has =
          let it = clears.sweeps.each row has in
          subst IsClearing (sym it.is) (ap (λ (k : Task). not (is_question k)) it.discards)

      dropped : (row : RowKind) → Has (map row_of_drop clears.destroys.drops) row → IsClearing row
      dropped row has =
          let b = has_map row_of_drop clears.destroys.drops row has in
          let its = clears.destroys.each b.it b.there in
          subst IsClearing (b.is) (subst (λ (c : _). IsClearing (rows.Dropped b.it.req c)) (sym its.cause_is) tt)

-- ---- between the parts

-- where no traversal runs the current step is the aim
idle_aim : {before : Bool} (p : InPass) (out : List RowKind) (t : Tables) → t.running ≡ None → IsPassingIn before p out t → aim_of (now_of p.event out) ≡ (now_of p.event out).history.current
idle_aim p out t idle passing =
    aim_is (now_of p.event out) t.running passing.going.tab.asked t.goal passing.work.goal ∙ ap (λ (r : Option ReqId). aim_in (now_of p.event out).history r t.goal) idle

module _ {before : Bool} (p : InPass) (out : List RowKind) (t : Tables) (queue : Queue) (blame : List (StateId × ReqId)) (cause : Why) (idle : t.running ≡ None) (ready : IsReadyIn before p out t queue blame cause) where
  aim_now : aim_of (now_of p.event out) ≡ (now_of p.event out).history.current
  aim_now = idle_aim p out t idle ready.passing

  -- what the first part asks
  pub clear_asks : IsReadyIn true p out t queue blame cause → IsPassingIn true p out t × (IsOpen p.event t.running cause (now_of p.event out) × (StandOrBare (now_of p.event out) × AreBlamed (now_of p.event out) blame))
  clear_asks at = (at.passing, (at.open_, (subst (λ (r : Option ReqId). MayStand r (now_of p.event out)) idle at.loads, at.blamed)))

  module _ (new : List RowKind) (u : Tables) (noted : List (StateId × ReqId)) (passing : IsPassingIn true p new u) (left : LeavesPass (now_of p.event out) (now_of p.event new)) (clears : HasClearedOut p.event blame out new) (kept : KeepsStore t u) where
    abbrev s : Seen
    s = now_of p.event out

    abbrev m : Seen
    m = now_of p.event new

    no_run : u.running ≡ None
    no_run = kept.running ∙ idle

    only : HasPutOut p.event t.running cause cause out new
    only = cleared_put p.event t.running cause cause blame out new idle clears

    calm_before : IsCalmBefore None cause m
    calm_before = by_calm (subst (λ (r : Option ReqId). IsCalmBefore r cause s) idle ready.calm)
      where
        by_calm : IsCalmBefore None cause s → IsCalmBefore None cause m
        by_calm (inl yet) = inl (left.calms.yet aim_now yet)
        by_calm (inr around) =
            inr (around.0, (left.calms.around aim_now around.0 around.1.0, applied_after p.event cause cause out new passing.work.goes (subst (λ (r : Option ReqId). HasPutOut p.event r cause cause out new) idle only) around.0 around.1.1))

    pub cleared_held : IsOpen p.event u.running cause (now_of p.event new) → LoadsStand (now_of p.event new) → AreLeftStrays (now_of p.event new) noted → AreAwakeWithRows (now_of p.event new) → FreesVisited p.event (now_of p.event new) → SendsForStrays (now_of p.event out) (now_of p.event new) out new → IsCalmYet (now_of p.event out) → IsClearedIn true p new u queue noted cause
    cleared_held open_ stand strays with_rows frees sent yet =
        record {
          idle = no_run;
          ready = record {
            passing = passing;
            empty = ready.empty;
            header = kept.keep ∙ ready.header;
            open_ = open_;
            loads = subst (λ (r : Option ReqId). MayStand r m) (sym no_run) (stand_bare m stand);
            frees = frees;
            blamed = left_blamed m noted with_rows (λ nav place doc d at wakes found. own_document u.running p.loads p.hand m passing.going.tab nav place doc d at wakes found) strays;
            calm = subst (λ (r : Option ReqId). IsCalmBefore r cause m) (sym no_run) calm_before;
            late = passed.late_then p out t queue blame cause ready new u noted cause passing left only kept;
            moved = passed.moved_then p out t queue blame cause ready new u noted cause passing left only kept;
            live = passed.live_then p out t queue blame cause ready new u noted cause passing left only kept stand;
            theirs = passed.theirs_then p out t queue blame cause ready new u noted cause passing left only kept;
            queueing = passed.queueing_then p out t queue blame cause ready new u noted cause passing left only kept;
          };
          stand = stand;
          rows_ = with_rows;
          strays = strays;
          swept = passed.swept_then p out t queue blame cause ready new u noted cause passing left only kept sent;
          calm = calm_rows m passing.going.tab.sound passing.going.tab.hangs with_rows (left.calms.yet aim_now yet);
        }

    -- what the first part put out
    pub cleared_more : HasPut p.event out new
    cleared_more =
        passed.pass_ready_put p out t queue blame cause ready new cause only left

    pub cleared_off : LeavesOff p.event out new
    cleared_off = off_passed p.event out out new (off_none p.event out) (put_only p.event t.running cause cause out new only) left.history left.aim

-- so it is whatever runs
pub whatever_runs : {sweeps : Bool} (p : InPass) (out : List RowKind) (t : Tables) (queue : Queue) (blame : List (StateId × ReqId)) (cause : Why) → IsClearedIn sweeps p out t queue blame cause → HasCleared sweeps p out t queue blame cause
whatever_runs p out t queue blame cause at =
    record { ready = at.ready; stand = at.stand; rows_ = at.rows_; strays = at.strays; swept = at.swept }
