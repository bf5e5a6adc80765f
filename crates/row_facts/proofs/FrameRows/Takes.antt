-- What a document made may be applied, refused or dropped, as its report is taken or after the traversal for which it was held back.
use Rattle.row_facts.specs.FrameRows.Taking.{IsDueNow, IsFree, IsPoked, IsTakenNow}
use Rattle.log_model.proofs.Refl.{same_change_refl, same_denial_refl}
use Rattle.log_model.specs.ActsAtOnce.{is_applied_in_time}
use Rattle.log_model.specs.AfterRequests.{changes_history}
use Rattle.log_model.specs.Causes.{by_event, by_mover, denial_at_delivery, due_denial, is_destroyed_by, takes_report}
use Rattle.log_model.specs.Equal.{implies}
use Rattle.log_model.specs.Checks.{is_checked}
use Rattle.log_model.specs.Places.{goes, has_passed}
use Rattle.log_model.specs.Points.{end_of, is_accepted_here, own_row}
use Rattle.log_model.specs.Queue.{is_jump, is_load_step, is_refused_step, is_taken_up_at_once, is_traversed_duly}
use Rattle.log_model.specs.Seen.{Asked, request_of}
use Rattle.log_model.specs.declared.action.Action.{Action}
use Rattle.log_model.specs.declared.change.Change.{Change}
use Rattle.log_model.specs.declared.made.Made.{Made}
use Rattle.log_model.specs.declared.outcome.Denial.{Denial}
use Rattle.log_model.specs.declared.row_kind.Actor.{Actor}
use Rattle.log_model.specs.declared.row_kind.LogRow.{LogRow}
use Rattle.log_model.specs.declared.row_kind.RowKind.{RowKind}
use Rattle.seen_facts.specs.Request.Whereabouts.{poked}
use Rattle.seen_laws.proofs.Sendings.{both, led_follows}
use Rattle.seen_laws.proofs.Startings.{implied}
use Rattle.seen_laws.specs.Blocks.{Here, MayLog, Passes, point_at}
use Rattle.seen_laws.specs.InEvent.{Anything}
use Rattle.seen_laws.specs.Sending.{is_led}
use Rattle.std.proofs.Common.{Bool, List, None, Some, [], false, length, refl, true, ℕ, ◌||◌, ◌∷◌, ◌≡◌}
use Rattle.std.specs.Prelude.{nat_lt}
use Rattle.tab_ids.specs.declared.NavId.{NavId}
use Rattle.tab_ids.specs.declared.ReqId.{ReqId}
use Rattle.log_model.specs.declared.outcome.Cause.TheVariants as drops
use Rattle.log_model.specs.declared.request.Request.TheVariants as requests
use Rattle.log_model.specs.declared.row_kind.Actor.TheVariants as actors
use Rattle.log_model.specs.declared.row_kind.RowKind.TheVariants as rows

module _ (h : Here) (event : ℕ) (actor : Actor) (led : is_led h.done ≡ true) where
  abbrev row_ : RowKind → LogRow
  row_ kind = record { event = event; actor = actor; row = kind }

  -- a poke that asks for no traversal is neither checked nor a load, and doesn't begin
  unchecked : (q : Asked) (nav : NavId) (action : Action) → q.what ≡ requests.Poke nav action → goes action ≡ false → is_checked q ≡ false
  unchecked q nav action what no_step = rw what (rw no_step refl)

  -- it is applied
  pub taken_may : (req : ReqId) (q : Asked) (made : Made) (change : Change) → IsDueNow h.now req q change → IsPoked h.now req q made → q.is_started ≡ false → changes_history made.what ≡ true → is_taken_up_at_once h.now made ≡ true → IsFree h req → IsTakenNow h (row_ (rows.Applied req change)) made → ((later : List LogRow) → is_traversed_duly (point_at h later) change ≡ true) → MayLog h (row_ (rows.Applied req change) ∷ []) Anything
  taken_may req q made change due poked unstarted changes at_once free taken traversed later rest = (passes, tt)
    where
      jump : is_jump h.now q ≡ true
      jump = rw poked.makes (rw at_once (implied (changes_history made.what) refl))

      step : is_load_step h.now q ≡ true
      step = rw unstarted refl

      in_time : is_applied_in_time (point_at h later) (row_ (rows.Applied req change)) q ≡ true
      in_time = rw unstarted (rw poked.makes (rw changes (rw (taken later) refl)))

      goes_on : implies (is_checked q) (has_passed h.now q) ≡ true
      goes_on = rw (unchecked q poked.nav poked.action poked.what poked.no_step) refl

      passes : Passes h.header (point_at h later) (row_ (rows.Applied req change))
      passes =
          record {
            formed = both (led_follows h.done (point_at h later) (row_ (rows.Applied req change)) refl led refl) (rw due.at refl);
            once = rw due.at (rw due.open_ (both (both due.fit (rw due.due (same_change_refl change))) due.in_order));
            caused = refl;
            queued = both (both free (traversed later)) (rw due.at (both jump step));
            ordered = refl;
            checked = rw due.at goes_on;
            in_time = rw due.at in_time;
            suits = refl;
          }

  -- it is refused
  module _ (by_coord : actor ≡ actors.Coord) where
    denial_is : (req : ReqId) (reason : Denial) (q : Asked) (made : Made) (later : List LogRow) → IsPoked h.now req q made → q.is_started ≡ false → takes_report (own_row (point_at h later) (row_ (rows.Refused req reason))) ≡ true → is_accepted_here (point_at h later) q.nr ≡ false → denial_at_delivery h.now made ≡ Some reason → due_denial (point_at h later) (row_ (rows.Refused req reason)) q ≡ Some reason
    denial_is req reason q made later poked unstarted takes before is =
        rw by_coord (rw before (rw poked.what (rw poked.no_step (rw poked.makes (rw takes is)))))

    pub denied_may : (req : ReqId) (reason : Denial) (q : Asked) (made : Made) → IsPoked h.now req q made → q.is_started ≡ false → ((later : List LogRow) → takes_report (own_row (point_at h later) (row_ (rows.Refused req reason))) ≡ true) → nat_lt (length h.start.requests) q.nr.0 ≡ false → denial_at_delivery h.now made ≡ Some reason → IsFree h req → MayLog h (row_ (rows.Refused req reason) ∷ []) Anything
    denied_may req reason q made poked unstarted takes before is free later rest = (passes, tt)
      where
        no_step : is_refused_step (point_at h later) q reason ≡ false
        no_step = rw poked.what (rw poked.no_step refl)

        passes : Passes h.header (point_at h later) (row_ (rows.Refused req reason))
        passes =
            record {
              formed = both (led_follows h.done (point_at h later) (row_ (rows.Refused req reason)) refl led refl) (rw poked.at refl);
              once = rw poked.at (rw poked.open_ refl);
              caused = rw poked.at (rw (denial_is req reason q made later poked unstarted (takes later) before is) (same_denial_refl reason));
              queued = both free (rw poked.at (rw no_step refl));
              ordered = refl;
              checked = refl;
              in_time = refl;
              suits = refl;
            }

  -- it is dropped, since its navigable lost its entries
  pub destroyed_may : (req by : ReqId) (q : Asked) → request_of h.now req ≡ Some q → q.ending ≡ None → is_destroyed_by h.now q by ≡ true → IsFree h req → MayLog h (row_ (rows.Dropped req (drops.Destroyed by)) ∷ []) Anything
  destroyed_may req by q at open_ is free later rest = (passes, tt)
    where
      passes : Passes h.header (point_at h later) (row_ (rows.Dropped req (drops.Destroyed by)))
      passes =
          record {
            formed = both (led_follows h.done (point_at h later) (row_ (rows.Dropped req (drops.Destroyed by))) refl led refl) (rw at refl);
            once = rw at (rw open_ refl);
            caused = rw at is;
            queued = free;
            ordered = refl;
            checked = refl;
            in_time = refl;
            suits = refl;
          }

  -- or since another request moved its navigable on
  pub moved_may : (req by : ReqId) (q mover : Asked) → request_of h.now req ≡ Some q → q.ending ≡ None → request_of h.now by ≡ Some mover → by_mover h.now q mover ≡ true → IsFree h req → MayLog h (row_ (rows.Dropped req (drops.By by)) ∷ []) Anything
  moved_may req by q mover at open_ found moved free later rest = (passes, tt)
    where
      or_true : (a : Bool) {b : Bool} → b ≡ true → (a || b) ≡ true
      or_true true is = refl
      or_true false is = is

      passes : Passes h.header (point_at h later) (row_ (rows.Dropped req (drops.By by)))
      passes =
          record {
            formed = both (led_follows h.done (point_at h later) (row_ (rows.Dropped req (drops.By by))) refl led refl) (rw at refl);
            once = rw at (rw open_ refl);
            caused = rw at (or_true (by_event (point_at h later) (end_of (point_at h later) (row_ (rows.Dropped req (drops.By by)))) q by) (rw found moved));
            queued = free;
            ordered = refl;
            checked = refl;
            in_time = refl;
            suits = refl;
          }
