-- A row of a question comes: in the log without questions it changes the event's number, no order was just finished then, and it is noted that all stand if they do. A coordinator that stood for that log stands for it still.
use Rattle.load_doors.specs.Tied.{AreTied}
use Rattle.load_table.specs.declared.load.Load.{Load}
use Rattle.log_model.specs.Equal.{holds}
use Rattle.log_model.specs.Places.{all_stand, is_shown, is_standing, stands as stands_at}
use Rattle.log_model.specs.Seen.{Place, Seen, place_of}
use Rattle.log_model.specs.declared.job.Job.{Job}
use Rattle.move_queue.specs.Queue.{Queue}
use Rattle.move_queue.specs.declared.queue_step.QueueStep.{QueueStep}
use Rattle.seen_facts.specs.LoadTies.Tying.{IsLoadTied}
use Rattle.std.proofs.Common.{Bool, List, None, Option, Some, ap, false, refl, sym, true, ℕ, ◌∙◌, ◌≡◌}
use Rattle.tab_answers.proofs.QuietTab.{between_quiet, calm_quiet, counted_quiet, held_quiet, here_quiet, lasting_quiet, rooted_quiet, steps_quiet, were_quiet}
use Rattle.tab_answers.proofs.Stood.{quieted}
use Rattle.tab_doors.specs.declared.tables.Tables.{Tables}
use Rattle.tab_facts.proofs.Calm.Awakes.{stand_each}
use Rattle.tab_facts.proofs.Order.Rows.{orders_on}
use Rattle.tab_ids.specs.declared.NavId.{NavId}
use Rattle.tab_ids.specs.declared.ReqId.{ReqId}
use Rattle.tab_ids.specs.declared.StateId.{StateId}
use Rattle.tab_settles.proofs.Lates.{off_still}
use Rattle.tab_settles.specs.PassedOn.{HaveJoined}
use Rattle.tab_settles.specs.Settling.{IsCalmAfter}
use Rattle.tab_stands.proofs.PassedOn.{KeepsWhat, sound_on}
use Rattle.tab_stands.specs.Offs.{AreOffKnown}
use Rattle.tab_stands.specs.PassedOn.{AreLeftStrays, HasQueue, IsMake, LoadsMadeOwn, MakesServe, MayCause, MayServe}
use Rattle.tab_stands.specs.Standing.{InCheck, Lasts, StandsFor}

module _ (s : Seen) (event : ℕ) (stood : Bool) (t : Tables) (queue : Queue) (blame : List (StateId × ReqId)) {check : InCheck} (stands : StandsFor check s t queue blame) (unstood : s.has_stood ≡ false → all_stand s s.history.current ≡ false → stood ≡ false) where
  -- the log then
  abbrev n : Seen
  n = quieted s event stood

  -- ---- orders, and what documents made

  serves : (req : ReqId) → MayServe s req → MayServe n req
  serves req may = record { goes = may.goes; begun = may.begun }

  keeps : KeepsWhat s n
  keeps = record { asked = λ req q at. (q, at, refl); homes = λ doc d found. (d, found, refl) }

  makes : MakesServe n
  makes =
      orders_on (λ (job : Job). IsMake job.task → MayCause s job.why) (λ (job : Job). IsMake job.task → MayCause n job.why) s (λ job its make req why. serves req (its make req why)) stands.lasts.makes

  made : LoadsMadeOwn n
  made req q made_ found load is =
      let its = stands.lasts.made req q made_ found load is in
      (record { d = its.0.d; found = its.0.found; nav_is = its.0.nav_is }, its.1)

  -- ---- why navigables don't stand

  -- where one that is shown doesn't, not all do
  some_away : (nav : NavId) (place : Place) → place_of s nav ≡ Some place → is_shown s.history.rows s.history.current nav ≡ true → stands_at s s.history.current nav ≡ false → all_stand s s.history.current ≡ false
  some_away nav place at shown away = by_all (all_stand s s.history.current) refl
    where
      by_all : (b : Bool) → all_stand s s.history.current ≡ b → b ≡ false
      by_all false is = refl
      by_all true is =
          let up : is_standing s.history.rows s.history.current place ≡ true = stand_each s stands.between.tab.standing s.history.current is nav place at shown in
          let never : true ≡ false = sym (ap (λ (o : Option Place). holds (is_standing s.history.rows s.history.current) o) at ∙ up) ∙ away in
          cc

  off : AreOffKnown t.running n
  off =
      record {
        unshown = stands.lasts.off.unshown;
        top_shown = stands.lasts.off.top_shown;
        since = λ idle nav place at shown away old. off_still s n nav place place (record {
          changes = λ req q change found changed. (q, found, changed);
          last = refl;
          unstood = λ none. unstood none (some_away nav place at shown away);
        }) at at refl refl (stands.lasts.off.since idle nav place at shown away old);
      }

  -- ---- all of it

  calm : (run : Option ReqId) → IsCalmAfter run s → IsCalmAfter run n
  calm None is = calm_quiet s event stood is
  calm (Some req) is = (here_quiet s event stood is.0, rooted_quiet s event stood is.1)

  lasts : Lasts t.running n
  lasts =
      record {
        lasting = lasting_quiet s event stood stands.lasts.lasting;
        counted = counted_quiet s event stood stands.lasts.counted;
        steps = steps_quiet s event stood stands.lasts.steps;
        held = held_quiet s event stood t.running stands.lasts.held;
        were = were_quiet s event stood stands.lasts.were;
        parents = stands.lasts.parents;
        takers = λ nav place req at is. serves req (stands.lasts.takers nav place req at is);
        calm = calm t.running stands.lasts.calm;
        moved = stands.lasts.moved;
        made = made;
        makes = makes;
        sound = sound_on s n keeps stands.lasts.sound;
        off = off;
      }

  load_tied : (load : Load) → IsLoadTied s load → IsLoadTied n load
  load_tied load is =
      record {
        q = is.q;
        found = is.found;
        ongoing = is.ongoing;
        mode = is.mode;
        what = is.what;
        state = is.state;
        replace = is.replace;
        phase = is.phase;
      }

  tied : AreTied n t
  tied =
      record {
        holds = stands.tied.holds;
        runs = stands.tied.runs;
        goal = stands.tied.goal;
        few = stands.tied.few;
        initial = stands.tied.initial;
        loads = record { there = λ nav load at. load_tied load (stands.tied.loads.there nav load at); all = stands.tied.loads.all };
        kept = stands.tied.kept;
      }

  strays : AreLeftStrays n blame
  strays doc state stray =
      let it = stands.strays doc state (record { document = stray.document; found = stray.found; its_state = stray.its_state; ready = stray.ready; undiscarded = stray.undiscarded; bare = stray.bare; unloaded = stray.unloaded }) in
      record { req = it.req; noted = it.noted; may = serves it.req it.may; bare = it.bare }

  joined : (run : Option ReqId) (steps : List QueueStep) → HaveJoined s run steps → HaveJoined n run steps
  joined None steps have = have
  joined (Some req) steps have = record { rest = have.rest; joined = have.joined; steps_ = have.steps_ }

  queued : HasQueue n t.running queue.waiting
  queued =
      record { traversals = joined t.running _ stands.queue.traversals; ready = stands.queue.ready; steps = stands.queue.steps }

  pub quiet_stands : StandsFor check (quieted s event stood) t queue blame
  quiet_stands =
      record {
        between = between_quiet s event stood t.kept.keep t.running check.loads check.holds stands.between;
        alone = stands.alone;
        lasts = lasts;
        tied = tied;
        strays = strays;
        queue = queued;
        parked = stands.parked;
      }
