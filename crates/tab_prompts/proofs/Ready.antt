-- The table of checks was told between the two parts of a pass, and the user was asked: the event is cut behind the prompts, and a pass may follow as before.
use Rattle.asking_facts.specs.Standing.{StandsAsked}
use Rattle.leave_facts.proofs.Carried.{AreLeftDuly, row_duly}
use Rattle.log_model.specs.After.{after}
use Rattle.log_model.specs.Equal.{has_req}
use Rattle.log_model.specs.Places.{aim_of, all_stand}
use Rattle.log_model.specs.Queue.{is_step_under_way}
use Rattle.log_model.specs.Queue.{is_traverse}
use Rattle.log_model.specs.Seen.{Seen, request_of}
use Rattle.log_model.specs.declared.job.Why.{Why}
use Rattle.log_model.specs.declared.row_kind.LogRow.{LogRow}
use Rattle.log_model.specs.declared.row_kind.RowKind.TheVariants as rows
use Rattle.log_model.specs.declared.row_kind.RowKind.{RowKind}
use Rattle.move_queue.specs.Queue.{Queue}
use Rattle.row_facts.specs.FrameRows.Lawful.{has_traversed, held_at_first}
use Rattle.row_facts.specs.Left.Left.{WereShown}
use Rattle.row_facts.specs.Owed.Owed.{owes_seen}
use Rattle.row_facts.specs.RestRows.Moving.{AllRest}
use Rattle.row_facts.specs.WalkRows.Since.{AwakeSince, MovesVisited}
use Rattle.seen_facts.proofs.Each.Courses.{was_asked}
use Rattle.seen_facts.proofs.Request.Readers.{on_read}
use Rattle.seen_laws.proofs.Cuts.{later_cut, log_cut}
use Rattle.seen_laws.proofs.InEvents.{later_more}
use Rattle.seen_laws.specs.InEvent.{InEvent, later_of, log_of, now_of, row_of}
use Rattle.std.proofs.Common.{Bool, List, None, Some, [], ap, append-nil, false, length, map, refl, subst, sym, ◌++◌, ◌||◌, ◌∙◌, ◌∷◌, ◌≡◌, ◌≤◌, ◌⊎◌}
use Rattle.std.specs.List.{list_any}
use Rattle.tab_doors.specs.Working.{IsCalmIn, IsToCome, MayDiscardIn}
use Rattle.tab_doors.specs.declared.tables.Tables.{Tables}
use Rattle.tab_facts.specs.FrameTab.Asking.{NoneHeld}
use Rattle.tab_ids.specs.declared.DocId.{DocId}
use Rattle.tab_ids.specs.declared.ReqId.{ReqId}
use Rattle.tab_ids.specs.declared.StateId.{StateId}
use Rattle.tab_prompts.proofs.Works.{loose_prompted, owed_prompted, prompts_keep, same_prompted, then_prompted, work_prompted}
use Rattle.tab_prompts.specs.Asking.{ArePrompts}
use Rattle.tab_serves.specs.Serving.{IsSince, LeavesVisited, StillAwake}
use Rattle.tab_settles.specs.Offs.{LateKnown}
use Rattle.tab_settles.specs.PassedOn.{AreBlamed, AreUnheld, HasQueue, InPass, IsGoing, IsOpen, LoadsLive, LoadsMadeOwn, MayCause, MayStand, ParentsShown, TakersServe, show_why}
use Rattle.tab_settles.specs.Settling.{FreesVisited, HoldsParked, IsCalmBefore, IsPassingIn, IsQueueing, IsReadyIn, IsWaiting, MayRelease, MovedAreShown}
use Rattle.unasked_dues.specs.Checking.{NoStepChecks}
use Rattle.unload_check.specs.Checks.{OpenCheck}

-- ---- what prompts leave of the log

-- none ends a traversal
none_traverses : (e : InEvent) (more : List RowKind) → ArePrompts more → list_any is_traverse (map (row_of e) more) ≡ false
none_traverses e [] are = refl
none_traverses e (rows.Prompted req doc ∷ more) are = none_traverses e more are
none_traverses e (_ ∷ more) never = absurd never

any_on : (rows_ more : List LogRow) → list_any is_traverse more ≡ false → list_any is_traverse (rows_ ++ more) ≡ list_any is_traverse rows_
any_on [] more none = none
any_on (row ∷ rows_) more none = ap (λ (b : Bool). is_traverse row || b) (any_on rows_ more none)

-- no step enters its check
steps_prompt : (checking : ReqId → Bool) (e : InEvent) (s : Seen) (req : ReqId) (doc : DocId) → NoStepChecks checking s → NoStepChecks checking (after s (row_of e (rows.Prompted req doc)))
steps_prompt checking e s req doc none r q at on =
    let p = was_asked is_step_under_way s.requests (after s (row_of e (rows.Prompted req doc))).requests (on_read is_step_under_way s.requests req (λ x. record x { prompted = Some doc }) (λ x. refl)) r q at in
    sym p.2 ∙ none r p.0 p.1 on

-- ---- the event is cut behind them

module _ {sweeps : Bool} (p : InPass) (out : List RowKind) (t : Tables) (queue : Queue) (passing : IsPassingIn sweeps p out t) (queueing : IsQueueing p out t queue) (checks : List (ReqId × OpenCheck)) (more : List RowKind) (are : ArePrompts more) (finished : (log_of p.event out).just_finished ≡ None) (test : List LogRow → Bool) (ran : List DocId) where
  abbrev e : InEvent
  e = p.event

  abbrev pub then_ : InEvent
  then_ = then_prompted e out more are finished test ran

  abbrev pub pass_then : InPass
  pass_then = record p { event = then_ }

  abbrev pub tables_then : Tables
  tables_then = record t { checks = checks }

  abbrev s : Seen
  s = now_of e out

  abbrev n : Seen
  n = now_of then_ []

  -- the log without questions is as it was
  pub same : n ≡ s
  same = same_prompted e out more are finished test ran

  -- so is what is known of it
  pub over : (P : Seen → Type 0) → P s → P n
  over P is = subst P (sym same) is

  -- ---- the event has the same start, and the same own row

  waits_then : IsWaiting then_ []
  waits_then =
      record {
        parked = over (λ (x : Seen). (x.parked ≡ held_at_first e) ⊎ (x.parked ≡ [])) queueing.waits.parked;
        apart = λ req q has found. queueing.waits.apart req q has (ap (λ (x : Seen). request_of x req) (sym same) ∙ found);
        early = λ req q joined found. queueing.waits.early req q (ap (λ (x : Seen). has_req x.joined req) (sym same) ∙ joined) (ap (λ (x : Seen). request_of x req) (sym same) ∙ found);
      }

  -- ---- the queue

  -- the rows before the cut are rows of the event still
  traversed : has_traversed then_ [] ≡ has_traversed e out
  traversed =
      ap (λ (rows_ : List LogRow). list_any is_traverse rows_) (later_cut e (out ++ more) e.checking (owes_seen e out) [] ∙ ap (λ (l : List RowKind). later_of e l) (append-nil (out ++ more)) ∙ later_more e out more)
      ∙ any_on (later_of e out) (map (row_of e) more) (none_traverses e more are)

  pub queueing_then : IsQueueing pass_then [] tables_then queue
  queueing_then =
      record {
        waits = waits_then;
        queued = over (λ (x : Seen). HasQueue x t.running queue.waiting) queueing.queued;
        parked = over (λ (x : Seen). HoldsParked x queue.parked) queueing.parked;
        held = over (λ (x : Seen). NoneHeld t.running x) queueing.held;
        over = λ has. ap (λ (x : Seen). x.parked) same ∙ queueing.over (sym traversed ∙ has);
        releasing = λ some all. release (queueing.releasing (λ none. some (ap (λ (x : Seen). x.parked) same ∙ none)) (ap (λ (x : Seen). all_stand x (aim_of x)) (sym same) ∙ all));
      }
    where
      release : MayRelease e out → MayRelease then_ []
      release may =
          record {
            by_coord = may.by_coord;
            takes = may.takes;
            many = ap (λ (x : Seen). length x.requests) same ∙ may.many;
            old = λ req has. may.old req (ap (λ (x : Seen). has_req x.parked req) (sym same) ∙ has);
          }

  -- ---- no step is in its check now, if none was

  pub free_then : MayDiscardIn false e → MayDiscardIn false then_
  free_then free =
      subst (λ (x : Seen). NoStepChecks e.checking x) (sym (log_cut e (out ++ more) e.checking (owes_seen e out))) (prompts_keep (λ (x : Seen). NoStepChecks e.checking x) e (steps_prompt e.checking e) more out are (passing.work.unheld free))

  -- ---- the coordinator goes on, as the table stands beside the log

  module _ (but : ReqId → Bool) (stands : StandsAsked (IsToCome None then_ []) but then_ [] (record { checks = checks; run = ran })) {then_sweeps : Bool} (calm : IsCalmIn then_sweeps e.checking (log_of then_ [])) where
    pub passing_then : IsPassingIn then_sweeps pass_then [] tables_then
    unfolding now_of
    passing_then =
        record {
          work = work_prompted e out more are finished test ran None t passing.work but tables_then refl stands calm;
          going = over (λ (x : Seen). IsGoing t.running p.loads p.hand x) passing.going;
          owed = owed_prompted e out more are finished test ran passing.owed;
          loose = λ all. loose_prompted e out more are finished test ran (passing.loose (ap (λ (x : Seen). all_stand x (aim_of x)) (sym same) ∙ all));
          rests = over AllRest passing.rests;
          few = subst (λ (x : Seen). length x.kept ≤ t.kept.keep) (sym same) passing.few;
          duly = subst AreLeftDuly (sym (log_cut e (out ++ more) e.checking (owes_seen e out))) (prompts_keep AreLeftDuly e (λ x req doc duly. row_duly x e.event e.actor duly (rows.Prompted req doc) tt) more out are passing.duly);
        }

-- ---- a pass may follow, as before

module _ {sweeps : Bool} (p : InPass) (out : List RowKind) (t : Tables) (queue : Queue) (blame : List (StateId × ReqId)) (cause : Why) (ready : IsReadyIn sweeps p out t queue blame cause) (checks : List (ReqId × OpenCheck)) (more : List RowKind) (are : ArePrompts more) (finished : (log_of p.event out).just_finished ≡ None) (test : List LogRow → Bool) (ran : List DocId) where
  abbrev there : InPass
  there = pass_then p out t queue ready.passing ready.queueing checks more are finished test ran

  abbrev on : (P : Seen → Type 0) → P (now_of p.event out) → P (now_of there.event [])
  on P is = over p out t queue ready.passing ready.queueing checks more are finished test ran P is

  open_then : IsOpen there.event t.running cause (now_of there.event [])
  open_then =
      record {
        may = on (λ (x : Seen). MayCause x cause) ready.open_.may;
        since = on (λ (x : Seen). IsSince p.event.start x) ready.open_.since;
        unwoken = on (λ (x : Seen). AwakeSince p.event.start [] x) ready.open_.unwoken;
        still = on (λ (x : Seen). StillAwake p.event.start x) ready.open_.still;
        moves = on (λ (x : Seen). MovesVisited x (show_why t.running cause)) ready.open_.moves;
        leavers = on (λ (x : Seen). LeavesVisited x (show_why t.running cause)) ready.open_.leavers;
        were = on WereShown ready.open_.were;
        parents = on ParentsShown ready.open_.parents;
        held = on (λ (x : Seen). AreUnheld p.event x) ready.open_.held;
        takers = on TakersServe ready.open_.takers;
      }

  frees_then : FreesVisited there.event (now_of there.event [])
  frees_then = on (λ (x : Seen). FreesVisited there.event x) (λ nav place placed need since. free_then p out t queue ready.passing ready.queueing checks more are finished test ran (ready.frees nav place placed need since))

  module _ (but : ReqId → Bool) (stands : StandsAsked (IsToCome None there.event []) but there.event [] (record { checks = checks; run = ran })) {then_sweeps : Bool} (calm : IsCalmIn then_sweeps p.event.checking (log_of there.event [])) where
    pub ready_prompted : IsReadyIn then_sweeps there [] (record t { checks = checks }) queue blame cause
    ready_prompted =
        record {
          passing = passing_then p out t queue ready.passing ready.queueing checks more are finished test ran but stands calm;
          empty = ready.empty;
          header = ready.header;
          open_ = open_then;
          loads = on (λ (x : Seen). MayStand t.running x) ready.loads;
          frees = frees_then;
          blamed = on (λ (x : Seen). AreBlamed x blame) ready.blamed;
          calm = on (λ (x : Seen). IsCalmBefore t.running cause x) ready.calm;
          late = on (λ (x : Seen). LateKnown t.running x) ready.late;
          moved = on (λ (x : Seen). MovedAreShown t.running x) ready.moved;
          live = on LoadsLive ready.live;
          theirs = on LoadsMadeOwn ready.theirs;
          queueing = queueing_then p out t queue ready.passing ready.queueing checks more are finished test ran;
        }
