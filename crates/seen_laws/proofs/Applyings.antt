-- A change that is due may be applied, wherever in its event it is.
use Rattle.std.proofs.Common.{◌≡◌, ℕ, Bool, true, false, ◌&&◌, ◌==◌, List, [], ◌∷◌, refl}
use Rattle.std.specs.Prelude.{filter, option_and_then}
use Rattle.std.specs.List.{filter_map}
use Rattle.tab_ids.specs.declared.ReqId.{ReqId}
use Rattle.tab_ids.specs.declared.Step.{Step}
use Rattle.log_model.specs.declared.change.Change.{Change}
use Rattle.log_model.specs.declared.change.Change.TheVariants as changes
use Rattle.log_model.specs.declared.made.Made.{Made}
use Rattle.log_model.specs.declared.row_kind.Actor.{Actor}
use Rattle.log_model.specs.declared.row_kind.LogRow.{LogRow}
use Rattle.log_model.specs.declared.row_kind.RowKind.TheVariants as rows
use Rattle.log_model.specs.Equal.{holds, implies, has_req}
use Rattle.log_model.specs.Seen.{Asked}
use Rattle.log_model.specs.Places.{is_shown, has_passed}
use Rattle.log_model.specs.AfterRequests.{made_of_report, changes_history}
use Rattle.log_model.specs.Points.{taken_report, ends_in, nav_of_request}
use Rattle.log_model.specs.Queue.{is_queue_free, is_traversed_duly, is_jump, is_load_step}
use Rattle.log_model.specs.Checks.{is_checked}
use Rattle.log_model.specs.ActsAtOnce.{has_document, is_applied_in_time}
use Rattle.log_model.proofs.Refl.{same_change_refl}
use Rattle.seen_laws.specs.Blocks.{Passes, Here, point_at, MayLog}
use Rattle.seen_laws.specs.InEvent.{Anything}
use Rattle.seen_laws.specs.Sending.{is_led}
use Rattle.seen_laws.specs.Applying.{IsDue, IsTakenUp, IsAtGoal}
use Rattle.seen_laws.proofs.Sendings.{led_follows, both}
use Rattle.seen_laws.proofs.Startings.{implied}

-- the row of an applied change
abbrev pub applied_row : ℕ → Actor → ReqId → Change → LogRow
applied_row event actor req change = record { event = event; actor = actor; row = rows.Applied req change }

-- a due change passes, by what its kind asks of the queue, of the check and of the time
due_passes : (h : Here) (event : ℕ) (actor : Actor) (req : ReqId) (q : Asked) (change : Change) (later : List LogRow) → is_led h.done ≡ true → IsDue h.now req q change → is_traversed_duly (point_at h later) change ≡ true → is_jump h.now q ≡ true → is_load_step h.now q ≡ true → implies (is_checked q) (has_passed h.now q) ≡ true → is_applied_in_time (point_at h later) (applied_row event actor req change) q ≡ true → Passes h.header (point_at h later) (applied_row event actor req change)
due_passes h event actor req q change later led is traversed jump step passed in_time =
    let row : LogRow = applied_row event actor req change in
    record {
      formed = both (led_follows h.done (point_at h later) row refl led refl) (rw is.at refl);
      once = rw is.at (rw is.open_ (both (both is.fit (rw is.due (same_change_refl change))) is.in_order));
      caused = refl;
      queued = both (both (rw is.unparked refl) traversed) (rw is.at (both jump step));
      ordered = refl;
      checked = rw is.at passed;
      in_time = rw is.at in_time;
      suits = refl;
    }

-- what a document made is applied in the event that takes its report
pub taken_up_may : (h : Here) (event : ℕ) (actor : Actor) (req : ReqId) (q : Asked) (made : Made) (change : Change) → is_led h.done ≡ true → IsDue h.now req q change → IsTakenUp h.now q made → ((later : List LogRow) → is_traversed_duly (point_at h later) change ≡ true) → ((later : List LogRow) → holds (λ (taken : Made). taken.req.0 == made.req.0) (option_and_then made_of_report (taken_report (point_at h later) (applied_row event actor req change))) ≡ true) → MayLog h (applied_row event actor req change ∷ []) Anything
taken_up_may h event actor req q made change led is up traversed taken later rest =
    (due_passes h event actor req q change later led is (traversed later) jump step (rw up.unchecked refl) in_time, tt)
  where
    jump : is_jump h.now q ≡ true
    jump = rw up.makes (rw up.at_once (implied (changes_history made.what) refl))

    step : is_load_step h.now q ≡ true
    step = rw up.unstarted refl

    in_time : is_applied_in_time (point_at h later) (applied_row event actor req change) q ≡ true
    in_time = rw up.unstarted (rw up.makes (rw up.changes (rw (taken later) refl)))

-- a traversal ends
pub traverse_may : (h : Here) (event : ℕ) (actor : Actor) (req : ReqId) (q : Asked) (goal : Step) → is_led h.done ≡ true → IsDue h.now req q (changes.Traverse goal) → IsAtGoal h.now q → MayLog h (applied_row event actor req (changes.Traverse goal) ∷ []) Anything
traverse_may h event actor req q goal led is at later rest =
    (due_passes h event actor req q (changes.Traverse goal) later led is traversed jump step (implied (is_checked q) at.passed) in_time, tt)
  where
    none_ends : (ended : List ReqId) → filter (has_req []) ended ≡ []
    none_ends [] = refl
    none_ends (r ∷ ended) = none_ends ended

    traversed : is_traversed_duly (point_at h later) (changes.Traverse goal) ≡ true
    traversed = both at.stand (rw at.none_parked (rw (none_ends (filter_map ends_in later)) refl))

    jump : is_jump h.now q ≡ true
    jump = rw at.unmade refl

    step : is_load_step h.now q ≡ true
    step = rw at.no_load (not_started q.is_started)
      where
        not_started : (b : Bool) → implies (b && false) (is_queue_free h.now && holds (is_shown h.now.history.rows h.now.history.current) (nav_of_request q.what)) ≡ true
        not_started true = refl
        not_started false = refl

    in_time : is_applied_in_time (point_at h later) (applied_row event actor req (changes.Traverse goal)) q ≡ true
    in_time = rw (at.no_load, at.unmade) (not_started q.is_started)
      where
        not_started : (b : Bool) → (implies (b && false) (has_document h.now q) && true) ≡ true
        not_started true = refl
        not_started false = refl
