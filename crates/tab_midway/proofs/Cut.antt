-- Behind the first part of a pass the event is cut, where the table of checks was told of each run of discarded documents that a row has ended: what is known there is what a traversal goes on from, if of all traversals it alone waited.
use Rattle.log_model.specs.Places.{is_traversal}
use Rattle.log_model.specs.Seen.{Asked, Seen, request_of}
use Rattle.log_model.specs.declared.job.Why.{Why}
use Rattle.log_model.specs.declared.row_kind.RowKind.{RowKind}
use Rattle.move_queue.specs.Queue.{Queue}
use Rattle.row_facts.specs.Owed.Owed.{IsLoose}
use Rattle.seen_facts.specs.LoadEnds.Standing.{LoadsStand}
use Rattle.seen_laws.specs.InEvent.{log_of, now_of}
use Rattle.std.proofs.Common.{List, Some, [], subst, sym, true, ◌≡◌}
use Rattle.tab_doors.specs.declared.tables.Tables.{Tables}
use Rattle.tab_facts.specs.Calm.Calm.{IsCalm}
use Rattle.tab_facts.specs.FrameWhole.Tab.{AreAwakeWithRows}
use Rattle.tab_ids.specs.declared.ReqId.{ReqId}
use Rattle.tab_ids.specs.declared.StateId.{StateId}
use Rattle.tab_midway.specs.Midway.{IsCutFor}
use Rattle.tab_prompts.proofs.Lasting.{lasting_loose, lasting_most, lasting_pass, lasting_ready, lasting_same, lasting_stands, lasting_tables}
use Rattle.tab_prompts.specs.Asking.{BeginsAsked, BeginsMost}
use Rattle.tab_prompts.specs.Prompts.{is_waiting}
use Rattle.tab_settles.specs.Held.{IsClearedIn}
use Rattle.tab_settles.specs.PassedOn.{InPass}
use Rattle.tab_settles.specs.Settling.{IsReadyIn, MakesServe, OrdersAreSound}

module _ (p : InPass) (out : List RowKind) (t : Tables) (queue : Queue) (blame : List (StateId × ReqId)) (cause : Why) (cleared : IsClearedIn true p out t queue blame cause) (begins : BeginsAsked p.event t.checks) where
  ready : IsReadyIn true p out t queue blame cause
  ready = cleared.ready

  -- the pass that goes on, and its tables
  abbrev pub pass_then : InPass
  pass_then = lasting_pass p out t queue blame cause cleared.ready begins

  abbrev pub tables_then : Tables
  tables_then = lasting_tables p out t queue blame cause cleared.ready begins

  -- the log without questions is as it was
  over : (P : Seen → Type 0) → P (now_of p.event out) → P (now_of pass_then.event [])
  over P holds = subst P (sym (lasting_same p out t queue blame cause ready begins)) holds

  -- where nothing is owed that later rows could undo, and orders are for what they may be; of all traversals this one alone may have a check that waited
  module _ (loose : IsLoose p.event out) (makes : MakesServe (now_of p.event out)) (sound : OrdersAreSound (now_of p.event out)) (req : ReqId) (alone : (r : ReqId) (q : Asked) → request_of (log_of p.event out) r ≡ Some q → is_traversal q.what ≡ true → is_waiting t.checks r ≡ true → r ≡ req) where
    most : BeginsMost pass_then.event tables_then.checks
    most = lasting_most p out t queue blame cause ready begins req alone

    pub cut_for : IsCutFor pass_then tables_then queue blame cause req
    cut_for =
        record {
          idle = cleared.idle;
          ready = lasting_ready p out t queue blame cause ready begins req alone;
          stand = over LoadsStand cleared.stand;
          calm = over IsCalm cleared.calm;
          rows_ = over AreAwakeWithRows cleared.rows_;
          loose = lasting_loose p out t queue blame cause ready begins loose;
          stands = lasting_stands p out t queue blame cause ready begins req alone;
          unanswered = most.unanswered;
          opens = most.opens;
          there = most.there;
          finished = most.finished;
          makes = over MakesServe makes;
          sound = over OrdersAreSound sound;
        }
