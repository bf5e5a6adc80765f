-- Where what came leaves all that goes on from event to event as it was, the coordinator that stood for the log stands for it still.
use Rattle.load_doors.specs.Tied.{AreTied}
use Rattle.log_model.specs.Seen.{Seen}
use Rattle.move_queue.specs.Queue.{Queue}
use Rattle.std.proofs.Common.{List, []}
use Rattle.tab_settles.specs.PassedOn.{AreLeftStrays, HasQueue, IsGoing}
use Rattle.tab_doors.specs.declared.tables.Tables.{Tables}
use Rattle.tab_facts.specs.TabEvents.Between.{IsBetweenChecks}
use Rattle.tab_ids.specs.declared.ReqId.{ReqId}
use Rattle.tab_ids.specs.declared.StateId.{StateId}
use Rattle.tab_settles.specs.Settling.{HoldsParked, IsCalmAfter, MakesServe, OrdersAreSound}
use Rattle.tab_stands.proofs.Coming.{IsComing, calm_then, parents_then, takers_then}
use Rattle.tab_stands.proofs.MovedEvents.{moved_coming}
use Rattle.tab_stands.proofs.LateEvents.{late_first, off_of}
use Rattle.tab_stands.specs.Offs.{AreShownOnce}
use Rattle.tab_stands.specs.Standing.{InCheck, Lasts, StandsFor}

module _ (s : Seen) (t : Tables) (queue : Queue) (blame : List (StateId × ReqId)) {check : InCheck} (stands : StandsFor check s t queue blame) (n : Seen) (comes : IsComing blame s n) (between : IsBetweenChecks t.kept.keep t.running check.loads check.holds n) (going : IsGoing t.running check.loads [] n) (tied : AreTied n t) (makes : MakesServe n) (sound : OrdersAreSound n) (shows : AreShownOnce n.places) where
  calm : IsCalmAfter t.running n
  calm =
      calm_then s t.running t.kept.keep t.goal blame n stands.between stands.lasts stands.tied.goal check.loads [] between.tab tied.goal comes

  lasts : Lasts t.running n
  lasts =
      record {
        lasting = going.lasting;
        counted = going.counted;
        steps = going.steps;
        held = going.held;
        were = comes.were;
        parents = parents_then s t.running t.kept.keep t.goal blame n stands.between stands.lasts stands.tied.goal check.loads [] between.tab tied.goal comes;
        takers = takers_then s t.running t.kept.keep t.goal blame n stands.between stands.lasts stands.tied.goal check.loads [] between.tab tied.goal comes;
        calm = calm;
        off = off_of n shows between.tab.standing t.running calm (late_first blame s n comes t.running between.tab.standing stands.lasts.off);
        moved = moved_coming blame s n comes t.running stands.between.tab.asked stands.lasts.moved;
        made = comes.theirs;
        makes = makes;
        sound = sound;
      }

  pub stands_still : AreLeftStrays n blame → HasQueue n t.running queue.waiting → HoldsParked n queue.parked → StandsFor check n t queue blame
  stands_still strays queued parked =
      record { between = between; alone = stands.alone; lasts = lasts; tied = tied; strays = strays; queue = queued; parked = parked }
