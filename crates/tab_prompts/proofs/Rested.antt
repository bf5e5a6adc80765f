-- The tab is at rest, the table of checks was told and the user was asked: the event is cut behind the prompts, and the tab is at rest as before.
use Rattle.asking_facts.specs.Standing.{StandsAsked}
use Rattle.log_model.specs.ActsAtOnce.{ends_told}
use Rattle.log_model.specs.Places.{aim_of, all_stand}
use Rattle.log_model.specs.Seen.{Seen}
use Rattle.log_model.specs.declared.job.Why.{Why}
use Rattle.log_model.specs.declared.row_kind.LogRow.{LogRow}
use Rattle.log_model.specs.declared.row_kind.RowKind.{RowKind}
use Rattle.move_queue.specs.Queue.{Queue}
use Rattle.row_facts.specs.Left.Left.{WereShown}
use Rattle.row_facts.specs.WalkRows.Since.{AwakeSince}
use Rattle.seen_facts.specs.LoadEnds.Standing.{LoadsStand}
use Rattle.seen_facts.specs.Walk.Serving.{AreServed}
use Rattle.seen_laws.specs.InEvent.{log_of, now_of}
use Rattle.std.proofs.Common.{Bool, List, None, [], false, true, ◌≡◌, ◌⊎◌}
use Rattle.tab_doors.specs.Working.{IsCalmIn, IsToCome}
use Rattle.tab_doors.specs.declared.tables.Tables.{Tables}
use Rattle.tab_facts.specs.FrameWhole.Tab.{AreAwakeWithRows}
use Rattle.tab_facts.specs.TabEvents.Between.{AreSwept, orders_go}
use Rattle.tab_ids.specs.declared.ReqId.{ReqId}
use Rattle.tab_ids.specs.declared.StateId.{StateId}
use Rattle.tab_prompts.proofs.Ready.{over, pass_then, passing_then, queueing_then}
use Rattle.tab_prompts.specs.Asking.{ArePrompts}
use Rattle.tab_serves.specs.Serving.{HasWalked, IsSince, StillAwake}
use Rattle.tab_settles.specs.Offs.{LateKnown}
use Rattle.tab_settles.specs.PassedOn.{AreLeftStrays, AreUnheld, HasPassed, InPass, LoadsLive, LoadsMadeOwn, MayCause, ParentsShown, TakersServe}
use Rattle.tab_settles.specs.Settling.{HasSettled, IsCalmAfter, MovedAreShown}
use Rattle.unload_check.specs.Checks.{OpenCheck}

module _ (p : InPass) (out : List RowKind) (t : Tables) (queue : Queue) (blame : List (StateId × ReqId)) (cause : Why) (at : HasSettled p out t queue blame cause) (checks : List (ReqId × OpenCheck)) (more : List RowKind) (are : ArePrompts more) (finished : (log_of p.event out).just_finished ≡ None) (test : List LogRow → Bool) where
  abbrev pub rested_pass : InPass
  rested_pass = pass_then p out t queue at.passing at.queueing checks more are finished test []

  on : (P : Seen → Type 0) → P (now_of p.event out) → P (now_of rested_pass.event [])
  on P is = over p out t queue at.passing at.queueing checks more are finished test [] P is

  module _ (but : ReqId → Bool) (stands : StandsAsked (IsToCome None rested_pass.event []) but rested_pass.event [] (record { checks = checks; run = [] })) (calm : IsCalmIn false p.event.checking (log_of rested_pass.event [])) where
    pub settled_prompted : HasSettled rested_pass [] (record t { checks = checks }) queue blame cause
    settled_prompted =
        record {
          passing = passing_then p out t queue at.passing at.queueing checks more are finished test [] but stands calm;
          empty = at.empty;
          header = at.header;
          may = on (λ (x : Seen). MayCause x cause) at.may;
          passed = passed_then;
          strays = on (λ (x : Seen). AreLeftStrays x blame) at.strays;
          served = on AreServed at.served;
          told = on (λ (x : Seen). ends_told x ≡ true) at.told;
          swept = on (λ (x : Seen). AreSwept x ⊎ (orders_go x ≡ true)) at.swept;
          calm = on (λ (x : Seen). IsCalmAfter t.running x) at.calm;
          late = on (λ (x : Seen). LateKnown t.running x) at.late;
          moved = on (λ (x : Seen). MovedAreShown t.running x) at.moved;
          live = on LoadsLive at.live;
          theirs = on LoadsMadeOwn at.theirs;
          queueing = queueing_then p out t queue at.passing at.queueing checks more are finished test [];
        }
      where
        walked_then : HasWalked rested_pass.event (now_of rested_pass.event [])
        walked_then =
            let walked = at.passed.walked in
            record {
              since = on (λ (x : Seen). IsSince p.event.start x) walked.since;
              unwoken = on (λ (x : Seen). all_stand x (aim_of x) ≡ true → AwakeSince p.event.start [] x) walked.unwoken;
              still = on (λ (x : Seen). all_stand x (aim_of x) ≡ true → StillAwake p.event.start x) walked.still;
              were = on WereShown walked.were;
              parents = on ParentsShown walked.parents;
              loads = on LoadsStand walked.loads;
            }

        passed_then : HasPassed rested_pass.event (now_of rested_pass.event [])
        passed_then =
            record {
              walked = walked_then;
              held = on (λ (x : Seen). AreUnheld p.event x) at.passed.held;
              takers = on TakersServe at.passed.takers;
              rows_ = on AreAwakeWithRows at.passed.rows_;
            }
