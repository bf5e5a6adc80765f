-- The event in which a load passed its check ends, once the tab has come to rest: where no traversal is in its check, and where one holds the queue.
use Rattle.asking_facts.specs.Noting.{IsAllTied}
use Rattle.load_passed.specs.Passing.{InLoadPass, IsPastLoad}
use Rattle.log_model.specs.declared.job.Why.{Why}
use Rattle.log_model.specs.declared.row_kind.LogRow.{LogRow}
use Rattle.log_model.specs.declared.row_kind.RowKind.{RowKind}
use Rattle.move_queue.specs.Queue.{Queue}
use Rattle.seen_facts.specs.Hang.Members.{Has}
use Rattle.seen_laws.specs.InEvent.{EndAsWanted, later_of, log_of, now_of}
use Rattle.std.proofs.Common.{List, [], false, inl, inr, subst, true, ◌++◌, ◌⊎◌}
use Rattle.tab_doors.specs.declared.tables.Tables.{Tables}
use Rattle.tab_facts.specs.Order.Orders.{IsOfCoord}
use Rattle.tab_held.proofs.Ends.{held_acts}
use Rattle.tab_held.specs.Holding.{HasRestedHeld}
use Rattle.tab_ids.specs.declared.ReqId.{ReqId}
use Rattle.tab_ids.specs.declared.StateId.{StateId}
use Rattle.tab_passed.specs.Passing.{HasPassedBy}
use Rattle.tab_settles.specs.Settling.{HasPut, HasSettled, MakesServe, OrdersAreSound}
use Rattle.tab_stands.proofs.Ended.{acted}
use Rattle.tab_stands.proofs.PassedOn.{IsNoneDue, put_makes, put_sound}
use Rattle.tab_stands.proofs.Placing.{either_of}
use Rattle.tab_stands.specs.Checked.{told_all}
use Rattle.tab_stands.specs.Standing.{HasActed}

module _ (l : InLoadPass) (u : Tables) (first : List RowKind) (past : IsPastLoad l u first) (own : HasPassedBy l.event u.checks u.asking) where
  -- the order is a coordinator's row
  first_coord : (row : RowKind) → Has first row → IsOfCoord row
  first_coord row has = past.put.each row (subst (λ (o : List RowKind). Has o row) past.put.is has)

  -- ---- no traversal is in its check

  module _ (out : List RowKind) (t : Tables) (left : Queue) (noted : List (StateId × ReqId)) (cause : Why) (at : HasSettled (record { event = l.event; loads = l.loads; hand = [] }) out t left noted cause) (put : HasPut l.event first out) where
    -- the rows are a coordinator's
    pub load_coord : (row : RowKind) → Has out row → IsOfCoord row
    load_coord row has = by_part (either_of first put.more row (subst (λ (o : List RowKind). Has o row) put.is has))
      where
        by_part : Has first row ⊎ Has put.more row → IsOfCoord row
        by_part (inl there) = first_coord row there
        by_part (inr there) = put.each row there

    -- orders on their way are for what they may be, and sound
    pub load_makes : MakesServe (now_of l.event out)
    load_makes =
        put_makes l.event t.running first out at.passing.work.goes at.passing.going.tab.asked put past.makes

    pub load_sound : OrdersAreSound (now_of l.event out)
    load_sound = put_sound l.event first out at.passing.work.goes put past.sound

    -- no turn is due, each check that is settled has its prompt up, and the rows are as they were wanted: the coordinator stands for what the log would have come to, with the load in its check no more
    pub load_acts : IsAllTied (log_of l.event out) (told_all l.event.ran t.checks out) → EndAsWanted l.event out → IsNoneDue (now_of l.event out) t.running left.waiting → HasActed (record { loads = l.loads; holds = false }) l.event out (record t { checks = told_all l.event.ran t.checks out }) left noted
    load_acts settled wanted due =
        acted (record { event = l.event; loads = l.loads; hand = [] }) out t left noted cause false (λ never. absurd cc) at load_makes load_sound load_coord (λ pass. own.lasts.shows) (λ pass. own.lasts.known) settled wanted (λ free. due) (own.takes (later_of l.event out))

  -- ---- a traversal in its check holds the queue

  -- the tab has come to rest while it does: the coordinator stands for what the log would have come to, with that in its check still
  pub held_load_acts : (out : List RowKind) (t : Tables) (queue : Queue) (noted : List (StateId × ReqId)) (cause : Why) (by : ReqId) (rested : HasRestedHeld (record { event = l.event; loads = l.loads; hand = [] }) first out u t queue noted cause by) → IsAllTied (log_of rested.at rested.rested.more) (told_all rested.at.ran t.checks rested.rested.more) → EndAsWanted l.event out → HasActed (record { loads = l.loads; holds = true }) l.event out (record t { checks = told_all rested.at.ran t.checks rested.rested.more }) queue noted
  held_load_acts out t queue noted cause by rested settled wanted =
      held_acts (record { event = l.event; loads = l.loads; hand = [] }) first out u t queue noted cause by rested first_coord past.makes past.sound own.lasts.shows own.lasts.known (λ later. own.takes (taken later)) settled wanted
    where
      taken : List LogRow → List LogRow
      taken later = later_of l.event first ++ later
