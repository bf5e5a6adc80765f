-- The event in which a traversal passed its check ends, once the tab has come to rest.
use Rattle.asking_facts.specs.Noting.{IsAllTied}
use Rattle.log_model.specs.declared.job.Why.{Why}
use Rattle.log_model.specs.declared.row_kind.RowKind.{RowKind}
use Rattle.move_queue.specs.Queue.{Queue}
use Rattle.seen_facts.specs.Hang.Members.{Has}
use Rattle.seen_laws.specs.InEvent.{EndAsWanted, InEvent, later_of, log_of, now_of}
use Rattle.std.proofs.Common.{List, [], false, subst}
use Rattle.tab_doors.specs.declared.tables.Tables.{Tables}
use Rattle.tab_facts.specs.Order.Orders.{IsOfCoord}
use Rattle.tab_ids.specs.declared.ReqId.{ReqId}
use Rattle.tab_ids.specs.declared.StateId.{StateId}
use Rattle.tab_passed.specs.Passing.{IsPastCheck}
use Rattle.tab_settles.specs.Settling.{HasPut, HasSettled, MakesServe, OrdersAreSound}
use Rattle.tab_stands.proofs.Ended.{acted}
use Rattle.tab_stands.proofs.PassedOn.{IsNoneDue, put_makes, put_sound}
use Rattle.tab_stands.specs.Checked.{told_all}
use Rattle.tab_stands.specs.Standing.{HasActed}

module _ (e : InEvent) (loads : List ReqId) (u : Tables) (queue : Queue) (blame : List (StateId × ReqId)) (req : ReqId) (past : IsPastCheck e loads u queue blame req) (out : List RowKind) (t : Tables) (left : Queue) (noted : List (StateId × ReqId)) (cause : Why) (at : HasSettled (record { event = e; loads = loads; hand = [] }) out t left noted cause) (put : HasPut e [] out) where
  -- the rows are a coordinator's
  pub past_coord : (row : RowKind) → Has out row → IsOfCoord row
  past_coord row has = put.each row (subst (λ (l : List RowKind). Has l row) put.is has)

  -- orders on their way are for what they may be, and sound
  pub past_makes : MakesServe (now_of e out)
  past_makes = put_makes e t.running [] out at.passing.work.goes at.passing.going.tab.asked put past.makes

  pub past_sound : OrdersAreSound (now_of e out)
  past_sound = put_sound e [] out at.passing.work.goes put past.sound

  -- no turn is due, each check that is settled has its prompt up, and the rows are as they were wanted: the coordinator stands for what the log would have come to, with no traversal in its check
  pub past_acts : IsAllTied (log_of e out) (told_all e.ran t.checks out) → EndAsWanted e out → IsNoneDue (now_of e out) t.running left.waiting → HasActed (record { loads = loads; holds = false }) e out (record t { checks = told_all e.ran t.checks out }) left noted
  past_acts settled wanted due =
      acted (record { event = e; loads = loads; hand = [] }) out t left noted cause false (λ never. absurd cc) at past_makes past_sound past_coord (λ pass. past.own.lasts.shows) (λ pass. past.own.lasts.known) settled wanted (λ free. due) (past.own.takes (later_of e out))
