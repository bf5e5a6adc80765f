-- Questions are sent: in the log without questions that changes the event's number, how many orders there are, and that no order was just finished. A coordinator that stood for that log stands for it still.
use Rattle.load_doors.specs.Tied.{AreTied}
use Rattle.log_model.specs.Seen.{Seen}
use Rattle.log_model.specs.declared.job.Job.{Job}
use Rattle.move_queue.specs.Queue.{Queue}
use Rattle.move_queue.specs.declared.queue_step.QueueStep.{QueueStep}
use Rattle.row_facts.specs.Left.Left.{WereShown}
use Rattle.std.proofs.Common.{List, None, Option, Some, arith, refl, subst, sym, ℕ, ◌+◌, ◌≡◌, ◌≤◌}
use Rattle.tab_doors.specs.declared.tables.Tables.{Tables}
use Rattle.tab_facts.proofs.Calm.Sames.{calm_same, here_same, rooted_kept}
use Rattle.tab_facts.proofs.Order.Rows.{orders_on}
use Rattle.tab_facts.specs.Calm.Calm.{AreRooted, IsCalm, UnmovedAreHere}
use Rattle.tab_facts.specs.Last.Lasting.{AreLasting}
use Rattle.tab_facts.specs.TabEvents.Between.{IsBetweenChecks}
use Rattle.tab_facts.specs.TabGoing.Going.{AreCounted, AreHeldUp, AreSteps}
use Rattle.tab_ids.specs.declared.ReqId.{ReqId}
use Rattle.tab_ids.specs.declared.StateId.{StateId}
use Rattle.tab_settles.proofs.Lates.{off_still}
use Rattle.tab_settles.specs.PassedOn.{HaveJoined}
use Rattle.tab_settles.specs.Settling.{IsCalmAfter, NoneRunsWhileHeld}
use Rattle.tab_stands.proofs.PassedOn.{KeepsWhat, sound_on}
use Rattle.tab_stands.specs.Offs.{AreOffKnown}
use Rattle.tab_stands.specs.PassedOn.{AreLeftStrays, HasQueue, IsMake, LoadsMadeOwn, MakesServe, MayCause, MayServe}
use Rattle.tab_stands.specs.Standing.{InCheck, Lasts, StandsFor}
use Rattle.unasked.proofs.Whole.{silent}
use Rattle.unasked_tab.proofs.Between.{silent_between}

module _ (s : Seen) (event jobs : ℕ) where
  -- the log then
  abbrev n : Seen
  n = silent s event jobs s.states

  -- ---- what lasts in a tab

  lasting_stays : AreLasting s → AreLasting n
  lasting_stays are =
      record {
        shown = are.shown;
        made = are.made;
        poked = are.poked;
        taken = are.taken;
        populates = are.populates;
        moves = record { unmoved = are.moves.unmoved; there = are.moves.there; goes = are.moves.goes };
      }

  counted_stays : s.jobs ≤ jobs → AreCounted s → AreCounted n
  counted_stays more are =
      record {
        entries = are.entries;
        epochs = λ nav place at. (let low : place.epoch.0 ≤ s.jobs + 1 = are.epochs nav place at in omega (arith, low, more));
      }

  steps_stay : AreSteps s → AreSteps n
  steps_stay are = record { rows_ = are.rows_; current = are.current }

  held_stay : (run : Option ReqId) → AreHeldUp run s → AreHeldUp run n
  held_stay None held = tt
  held_stay (Some run) held = held

  were_stay : WereShown s → WereShown n
  were_stay were = record { lasts = were.lasts; kept = were.kept; owned = were.owned }

  -- ---- how calm the tab is

  calm_stays : IsCalm s → IsCalm n
  calm_stays calm = calm_same s n refl (λ nav. refl) (λ nav. ⊥) calm

  here_stays : UnmovedAreHere s → UnmovedAreHere n
  here_stays here nav place doc there wakes has unmoved =
      here_same s n refl place place refl refl (here nav place doc there wakes has unmoved)

  rooted_stays : AreRooted s → AreRooted n
  rooted_stays rooted = rooted_kept s n refl (λ nav. refl) (λ doc. refl) rooted

  calm_after : (run : Option ReqId) → IsCalmAfter run s → IsCalmAfter run n
  calm_after None is = calm_stays is
  calm_after (Some req) is = (here_stays is.0, rooted_stays is.1)

  -- ---- the coordinator

  module _ (more : s.jobs ≤ jobs) (t : Tables) (queue : Queue) (blame : List (StateId × ReqId)) {check : InCheck} (stands : StandsFor check s t queue blame) where
    serves : (req : ReqId) → MayServe s req → MayServe n req
    serves req may = record { goes = may.goes; begun = may.begun }

    keeps : KeepsWhat s n
    keeps = record { asked = λ req q at. (q, at, refl); homes = λ doc d found. (d, found, refl) }

    makes : MakesServe n
    makes =
        orders_on (λ (job : Job). IsMake job.task → MayCause s job.why) (λ (job : Job). IsMake job.task → MayCause n job.why) s (λ job its make req why. serves req (its make req why)) stands.lasts.makes

    made : LoadsMadeOwn n
    made req q made_ found load is =
        let its = stands.lasts.made req q made_ found load is in
        (record { d = its.0.d; found = its.0.found; nav_is = its.0.nav_is }, its.1)

    off : AreOffKnown t.running n
    off =
        record {
          unshown = stands.lasts.off.unshown;
          top_shown = stands.lasts.off.top_shown;
          since = λ idle nav place at shown away old. off_still s n nav place place (record {
            changes = λ req q change found changed. (q, found, changed);
            last = refl;
            unstood = λ none. none;
          }) at at refl refl (stands.lasts.off.since idle nav place at shown away old);
        }

    lasts : Lasts t.running n
    lasts =
        record {
          lasting = lasting_stays stands.lasts.lasting;
          counted = counted_stays more stands.lasts.counted;
          steps = steps_stay stands.lasts.steps;
          held = held_stay t.running stands.lasts.held;
          were = were_stay stands.lasts.were;
          parents = stands.lasts.parents;
          takers = λ nav place req at is. serves req (stands.lasts.takers nav place req at is);
          calm = calm_after t.running stands.lasts.calm;
          moved = stands.lasts.moved;
          made = made;
          makes = makes;
          sound = sound_on s n keeps stands.lasts.sound;
          off = off;
        }

    strays : AreLeftStrays n blame
    strays doc state stray =
        let it = stands.strays doc state (record { document = stray.document; found = stray.found; its_state = stray.its_state; ready = stray.ready; undiscarded = stray.undiscarded; bare = stray.bare; unloaded = stray.unloaded }) in
        record { req = it.req; noted = it.noted; may = serves it.req it.may; bare = it.bare }

    joined : (run : Option ReqId) (steps : List QueueStep) → HaveJoined s run steps → HaveJoined n run steps
    joined None steps have = have
    joined (Some req) steps have = record { rest = have.rest; joined = have.joined; steps_ = have.steps_ }

    queued : HasQueue n t.running queue.waiting
    queued =
        record { traversals = joined t.running _ stands.queue.traversals; ready = stands.queue.ready; steps = stands.queue.steps }

    -- whose tables tie to it, and are as they were but for the orders that they count and their checks
    pub silent_stands : (u : Tables) → u ≡ record t { sent = u.sent; checks = u.checks } → AreTied n u → StandsFor check n u queue blame
    silent_stands u is tied =
        record {
          between = subst (λ (x : Tables). IsBetweenChecks x.kept.keep x.running check.loads check.holds n) (sym is) (silent_between s event jobs s.states (omega arith) t.kept.keep t.running check.loads check.holds stands.between);
          alone = subst (λ (x : Tables). NoneRunsWhileHeld check.holds x.running) (sym is) stands.alone;
          lasts = subst (λ (x : Tables). Lasts x.running n) (sym is) lasts;
          tied = tied;
          strays = strays;
          queue = subst (λ (x : Tables). HasQueue n x.running queue.waiting) (sym is) queued;
          parked = stands.parked;
        }
