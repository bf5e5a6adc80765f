-- A load that is in its unload check is dropped: a coordinator that stood for the log stands for it with one fewer in its check.
use Rattle.load_doors.specs.Tied.{AreTied}
use Rattle.log_model.specs.ActsAtOnce.{is_ready_load}
use Rattle.log_model.specs.AfterRequests.{without_req}
use Rattle.log_model.specs.Checks.{is_checked}
use Rattle.log_model.specs.Equal.{has_req, holds, implies}
use Rattle.log_model.specs.History.{has_nav}
use Rattle.log_model.specs.Once.{loads as loads_of}
use Rattle.log_model.specs.Orders as orders
use Rattle.log_model.specs.Places.{has_passed, is_load, is_moved, is_ongoing_load}
use Rattle.log_model.specs.Points.{nav_of_request}
use Rattle.log_model.specs.Seen.{Asked, Seen, request_in, request_of}
use Rattle.log_model.specs.declared.made.Made.{Made}
use Rattle.log_model.specs.declared.outcome.Cause.{Cause}
use Rattle.log_model.specs.declared.outcome.Ending.TheVariants as endings
use Rattle.log_model.specs.declared.request.Request.{Request}
use Rattle.log_model.specs.declared.row_kind.Actor.{Actor}
use Rattle.log_model.specs.declared.row_kind.LogRow.{LogRow}
use Rattle.log_model.specs.declared.row_kind.RowKind.TheVariants as rows
use Rattle.move_queue.specs.Queue.{Queue}
use Rattle.row_facts.proofs.Left.Rows.{were_shown}
use Rattle.seen_facts.proofs.Asked.Running.{run_in, running_is}
use Rattle.seen_facts.proofs.Coord.Held.{on_else, without_same}
use Rattle.seen_facts.proofs.Coord.Unread.{dropped_held}
use Rattle.seen_facts.proofs.Each.Courses.{was_asked}
use Rattle.seen_facts.proofs.Each.Runs.{none_passes}
use Rattle.seen_facts.proofs.Hang.Members.{has_found}
use Rattle.seen_facts.proofs.Load.Rows.{req_same}
use Rattle.seen_facts.proofs.Request.LookUps.{on_itself}
use Rattle.seen_facts.proofs.Request.Readers.{on_read}
use Rattle.seen_facts.proofs.Rest.Stands.{request_has}
use Rattle.seen_facts.specs.Each.Runs.{is_this}
use Rattle.seen_facts.specs.Load.Loading.{Look, is_ongoing, look, look_of}
use Rattle.std.proofs.Common.{Bool, List, None, Option, Some, [], ap, arith, false, inl, length, refl, subst, sym, true, ℕ, ◌&&◌, ◌+◌, ◌<◌, ◌==◌, ◌∙◌, ◌≡◌}
use Rattle.std.proofs.lemmas.List.{map-id}
use Rattle.std.specs.Prelude.{option_map}
use Rattle.tab_answers.proofs.AtHand.{between_left, going_left, idle_hand, left, unjoined_hand, unparked_hand}
use Rattle.tab_answers.proofs.Leaves as leaving
use Rattle.tab_answers.proofs.TiedLeft.{tied_left}
use Rattle.tab_doors.specs.declared.tables.Tables.{Tables}
use Rattle.tab_facts.proofs.TabWhole.Refusing.{load_other}
use Rattle.tab_facts.specs.TabEvents.Between.{IsBetweenChecks}
use Rattle.tab_facts.specs.TabGoing.Going.{IsGoing}
use Rattle.tab_ids.specs.declared.NavId.{NavId}
use Rattle.tab_ids.specs.declared.ReqId.{ReqId}
use Rattle.tab_ids.specs.declared.StateId.{StateId}
use Rattle.tab_settles.specs.Settling.{IsCalmAfter}
use Rattle.tab_stands.proofs.Coming.{IsAlike, IsComing, calm_then, parents_then, takers_then}
use Rattle.tab_stands.proofs.LateEvents.{late_first, off_of}
use Rattle.tab_stands.proofs.MovedEvents.{moved_coming}
use Rattle.tab_stands.proofs.Orders.{keeps_coming, makes_after, sound_after}
use Rattle.tab_stands.proofs.PassedOn.{course_of, out_alike, queue_over, unstood_by}
use Rattle.tab_stands.specs.Offs.{AreShownOnce}
use Rattle.tab_stands.specs.PassedOn.{AreLeftStrays, HasQueue, IsReadyLoadOf, IsStray, LoadsMadeOwn, MayServe}
use Rattle.tab_stands.specs.Standing.{HasRoomFor, InCheck, Lasts, StandsFor}

some_same : {A : Type 0} {a b : A} → (let o : Option A = Some a in o) ≡ Some b → a ≡ b
some_same e = cc

-- what a request asks, and what was made of it
record AsksMade : Type 0 where
  what : Request
  made : Option Made

abbrev asks_made : Asked → AsksMade
asks_made x = record { what = x.what; made = x.made }

module _ (s : Seen) (t : Tables) (queue : Queue) (blame : List (StateId × ReqId)) {check : InCheck} (stands : StandsFor check s t queue blame) (room : HasRoomFor s) (once : AreShownOnce s.places) (req : ReqId) (hand : has_req check.loads req ≡ true) (q : Asked) (found : request_of s req ≡ Some q) (load : is_load q.what ≡ true) (open_ : q.ending ≡ None) (event : ℕ) (actor : Actor) (cause : Cause) where
  abbrev run : Option ReqId
  run = t.running

  -- the loads that are left in their check
  abbrev loads : List ReqId
  loads = without_req req check.loads

  -- the log then
  abbrev n : Seen
  n = left t.kept.keep run check.loads check.holds s stands.between req hand q found load event actor cause

  abbrev row : LogRow
  row = record { event = event; actor = actor; row = rows.Dropped req cause }

  abbrev drop : Asked → Asked
  drop x = record x { ending = Some (endings.Dropped cause) }

  between : IsBetweenChecks t.kept.keep run loads check.holds n
  between =
      between_left t.kept.keep run check.loads check.holds s stands.between req hand q found load event actor cause open_

  idle : is_ongoing_load q ≡ false
  idle = idle_hand t.kept.keep run check.loads check.holds s stands.between req hand q found load

  other : is_this run req ≡ false
  other = load_other run check.loads [] s stands.between.tab req (rw found load)

  -- ---- what it leaves

  comes : IsComing blame s n
  comes =
      leaving.comes s t queue blame stands req q found idle other event actor cause between.tab.asked.only between.loading

  going : IsGoing run loads [] n
  going =
      going_left t.kept.keep run check.loads check.holds s stands.between req hand q found load event actor cause open_ (record {
        tab = stands.between.tab;
        lasting = stands.lasts.lasting;
        counted = stands.lasts.counted;
        steps = stands.lasts.steps;
        held = stands.lasts.held;
        room = (let few : length s.requests + 3 < 4294967296 = room in omega (arith, few));
      })

  tied : AreTied n t
  tied =
      tied_left s t event actor req cause other (λ x at. subst (λ (y : Asked). is_ongoing_load y ≡ false) (some_same (sym found ∙ at)) idle) stands.tied

  -- ---- the queue, and what is held back

  unjoined : has_req s.joined req ≡ false
  unjoined = unjoined_hand t.kept.keep run check.loads check.holds s stands.between req hand q found load

  unparked : has_req s.parked req ≡ false
  unparked = unparked_hand t.kept.keep run check.loads check.holds s stands.between req hand q found load

  queued : HasQueue n run queue.waiting
  queued =
      queue_over s n (record { joined = without_same s.joined req unjoined; whats = on_read (λ (x : Asked). x.what) s.requests req drop (λ x. refl); ready = leaving.was_ready s t queue blame stands req q found idle other event actor cause }) run queue.waiting stands.queue

  -- ---- all of it

  calm : IsCalmAfter run n
  calm =
      calm_then s run t.kept.keep t.goal blame n stands.between stands.lasts stands.tied.goal loads [] between.tab tied.goal comes

  lasts : Lasts run n
  lasts =
      record {
        lasting = going.lasting;
        counted = going.counted;
        steps = going.steps;
        held = going.held;
        were = comes.were;
        parents = parents_then s run t.kept.keep t.goal blame n stands.between stands.lasts stands.tied.goal loads [] between.tab tied.goal comes;
        takers = takers_then s run t.kept.keep t.goal blame n stands.between stands.lasts stands.tied.goal loads [] between.tab tied.goal comes;
        calm = calm;
        off = off_of n once between.tab.standing run calm (late_first blame s n comes run between.tab.standing stands.lasts.off);
        moved = moved_coming blame s n comes run stands.between.tab.asked stands.lasts.moved;
        made = comes.theirs;
        makes = makes_after s n event actor (rows.Dropped req cause) tt (λ job is. cc) comes.serves refl stands.lasts.makes;
        sound = sound_after s n event actor (rows.Dropped req cause) tt (λ job is. cc) (keeps_coming blame s n comes) refl stands.lasts.sound;
      }

  pub dropped_stands : StandsFor (record check { loads = without_req req check.loads }) n t queue blame
  dropped_stands =
      record {
        between = between;
        alone = stands.alone;
        lasts = lasts;
        tied = tied;
        strays = leaving.strays_then s t queue blame stands req q found idle other event actor cause;
        queue = queued;
        parked = stands.parked ∙ sym (dropped_held s event actor req cause unparked);
      }
