-- An event of the coordinator begins: all goes on once its own row was logged, whatever it leaves of a tab as one is between two events.
use Rattle.tab_doors.proofs.PassedOn.{debts_own, read_own, sole_own}
use Rattle.seen_laws.proofs.InEvents.{none_goes}
use Rattle.tab_stands.proofs.Orders.{keeps_coming, makes_first, sound_first}
use Rattle.load_doors.specs.Tied.{AreTied}
use Rattle.move_queue.specs.Queue.{Queue}
use Rattle.row_facts.proofs.Owed.Ends.{loose_first, loose_owed}
use Rattle.leave_facts.proofs.Carried.{AreLeftDuly}
use Rattle.row_facts.specs.Owed.Owed.{IsLoose}
use Rattle.row_facts.specs.RestRows.Moving.{AllRest}
use Rattle.seen_laws.specs.InEvent.{InEvent, log_of, now_of}
use Rattle.seen_laws.specs.Sending.{leads}
use Rattle.std.proofs.Common.{Bool, List, [], ap, length, subst, sym, true, ℕ, ◌≡◌, ◌≤◌, refl}
use Rattle.tab_doors.specs.Working.{HasGoal, IsAtWork, IsWorker}
use Rattle.tab_doors.specs.declared.tables.Tables.{Tables}
use Rattle.tab_settles.proofs.PassedOn.{unheld_first}
use Rattle.tab_facts.specs.TabEvents.Between.{IsBetweenChecks}
use Rattle.tab_settles.specs.PassedOn.{AreUnheld, InPass, IsGoing, IsPassing}
use Rattle.tab_ids.specs.declared.DocId.{DocId}
use Rattle.tab_ids.specs.declared.ReqId.{ReqId}
use Rattle.tab_ids.specs.declared.StateId.{StateId}
use Rattle.tab_settles.specs.Settling.{IsQueueing, MakesServe, OrdersAreSound}
use Rattle.tab_stands.proofs.Coming.{IsComing, stand_then, taking_then}
use Rattle.tab_stands.proofs.LateEvents.{late_first}
use Rattle.tab_stands.proofs.MovedEvents.{moved_coming}
use Rattle.tab_stands.specs.Offs.{AreShownUnder}
use Rattle.tab_stands.specs.Standing.{HasBegun, HasLogged, Lasts, seen_start}

-- a coordinator is at work once the own row was logged, whose tables stand for what the log would have come to
pub work_first : (e : InEvent) (t : Tables) → HasLogged e t.checks t.asking → leads e.own ≡ true → IsWorker e.actor → AreTied (now_of e []) t → IsAtWork e [] t
work_first e t at own worker tied =
    record {
      own = own;
      worker = worker;
      goes = none_goes e [];
      numbered = at.logged.numbered;
      read = read_own e (record { numbered = at.logged.checking.numbered; others = at.logged.checking.others });
      sole = sole_own e (log_of e []) at.logged.uncut;
      debts = debts_own e at.logged.uncut;
      checks = at.logged.checking;
      calm = at.logged.calm;
      unheld = λ free. free;
      off = λ row has. absurd has;
      holds = tied.holds;
      runs = tied.runs;
      goal = tied.goal;
      few = tied.few;
      initial = tied.initial;
      loads = tied.loads;
      asking = at.lasts.asking;
      kept = tied.kept;
      asked = at.logged.asked;
      lawful = at.lawful;
    }

-- whatever row was its own and whether it was cut behind others: where a coordinator is at work and nothing was put out since, all goes on
module _ (p : InPass) (t : Tables) (queue : Queue) (blame : List (StateId × ReqId)) {loads : List ReqId} {waits : Bool} (between : IsBetweenChecks t.kept.keep t.running loads waits (seen_start p.event)) (lasts : Lasts t.running (seen_start p.event)) (goal : HasGoal (seen_start p.event).requests t.running t.goal) (header : t.kept.keep ≡ p.event.header.keep) (work : IsAtWork p.event [] t) (loose : IsLoose p.event []) (duly : AreLeftDuly (log_of p.event [])) (going : IsGoing t.running p.loads p.hand (now_of p.event [])) (rests : AllRest (now_of p.event [])) (comes : IsComing blame (seen_start p.event) (now_of p.event [])) where
  passing_there : IsPassing p [] t
  passing_there =
      record {
        work = work;
        going = going;
        owed = loose_owed p.event [] loose;
        loose = λ all. loose;
        rests = rests;
        duly = duly;
        few = subst (λ (k : ℕ). k ≤ t.kept.keep) (sym (ap (λ (l : List DocId). length l) comes.kept)) between.few;
      }

  pub begun_there : AreUnheld p.event (now_of p.event []) → AreShownUnder (log_of p.event []) → MakesServe (now_of p.event []) → OrdersAreSound (now_of p.event []) → IsQueueing p [] t queue → HasBegun p t queue blame
  begun_there unheld shows makes sound queueing =
      record {
        passing = passing_there;
        header = header;
        taking = taking_then (seen_start p.event) t.running t.kept.keep t.goal blame (now_of p.event []) between lasts goal p.loads p.hand going.tab work.goal comes p.event refl unheld;
        loose = loose;
        stand = stand_then (seen_start p.event) t.running t.kept.keep t.goal blame (now_of p.event []) between lasts goal p.loads p.hand going.tab work.goal comes;
        moved = moved_coming blame (seen_start p.event) (now_of p.event []) comes t.running between.tab.asked lasts.moved;
        theirs = comes.theirs;
        late = late_first blame (seen_start p.event) (now_of p.event []) comes t.running going.tab.standing lasts.off;
        shows = shows;
        makes = makes;
        sound = sound;
        queueing = queueing;
      }

-- its own row was logged, and nothing was put out
module _ (p : InPass) (t : Tables) (queue : Queue) (blame : List (StateId × ReqId)) {loads : List ReqId} {waits : Bool} (between : IsBetweenChecks t.kept.keep t.running loads waits (seen_start p.event)) (lasts : Lasts t.running (seen_start p.event)) (goal : HasGoal (seen_start p.event).requests t.running t.goal) (header : t.kept.keep ≡ p.event.header.keep) (logged : HasLogged p.event t.checks t.asking) (own : leads p.event.own ≡ true) (worker : IsWorker p.event.actor) (tied : AreTied (now_of p.event []) t) (going : IsGoing t.running p.loads p.hand (now_of p.event [])) (rests : AllRest (now_of p.event [])) (comes : IsComing blame (seen_start p.event) (now_of p.event [])) where
  loose_here : IsLoose p.event []
  loose_here = loose_first p.event logged.logged.undue

  work_here : IsAtWork p.event [] t
  work_here = work_first p.event t logged own worker tied

  passing : IsPassing p [] t
  passing =
      passing_there p t queue blame between lasts goal header work_here loose_here logged.lasts.duly going rests comes

  pub begun : IsQueueing p [] t queue → HasBegun p t queue blame
  begun =
      begun_there p t queue blame between lasts goal header work_here loose_here logged.lasts.duly going rests comes (unheld_first p t logged.logged.uncut passing) logged.lasts.shows (makes_first p.event logged.logged.read own comes.serves lasts.makes) (sound_first p.event logged.logged.read own (keeps_coming blame (seen_start p.event) (now_of p.event []) comes) lasts.sound)
