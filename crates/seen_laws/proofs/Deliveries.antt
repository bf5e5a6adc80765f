-- A report is delivered, and a request is dropped, wherever in its event.
use Rattle.std.proofs.Common.{◌≡◌, ℕ, Bool, true, false, not, ◌&&◌, ◌||◌, List, [], ◌∷◌, Some, None, refl}
use Rattle.std.specs.Prelude.{slice_get, filter}
use Rattle.std.specs.List.{list_all}
use Rattle.tab_ids.specs.declared.ProcId.{ProcId}
use Rattle.tab_ids.specs.declared.ReqId.{ReqId}
use Rattle.log_model.specs.declared.made.Report.{Report}
use Rattle.log_model.specs.declared.outcome.Cause.TheVariants as drops
use Rattle.log_model.specs.declared.row_kind.Actor.{Actor}
use Rattle.log_model.specs.declared.row_kind.Actor.TheVariants as actors
use Rattle.log_model.specs.declared.row_kind.LogRow.{LogRow}
use Rattle.log_model.specs.declared.row_kind.RowKind.TheVariants as rows
use Rattle.log_model.specs.Equal.{has_req}
use Rattle.log_model.specs.Seen.{Asked, desk_of, request_of}
use Rattle.log_model.specs.After.{after}
use Rattle.log_model.specs.Causes.{by_event, by_mover}
use Rattle.log_model.specs.Points.{end_of}
use Rattle.log_model.specs.Queue.{is_delivered_duly}
use Rattle.log_model.specs.Checks.{is_prompted_after, is_settled_by}
use Rattle.seen_laws.specs.Blocks.{Passes, Here, point_at, MayLog}
use Rattle.seen_laws.specs.InEvent.{Anything}
use Rattle.seen_laws.specs.Sending.{is_led}
use Rattle.seen_laws.proofs.Sendings.{led_follows, both}

-- the row of a delivered report
abbrev pub delivered_row : ℕ → ProcId → LogRow
delivered_row event proc = record { event = event; actor = actors.Coord; row = rows.Delivered proc }

-- where a row settles no question, nobody is asked
none_asked : (test asks : Asked → Bool) (asked : List Asked) → list_all (λ (q : Asked). not (test q)) asked ≡ true → list_all asks (filter test asked) ≡ true
none_asked test asks [] none = refl
none_asked test asks (q ∷ asked) none = by_test (none_asked test asks asked) (test q) refl none
  where
    by_test : (list_all (λ (q : Asked). not (test q)) asked ≡ true → list_all asks (filter test asked) ≡ true) → (b : Bool) → test q ≡ b → (not b && list_all (λ (q : Asked). not (test q)) asked) ≡ true → list_all asks (filter test (q ∷ asked)) ≡ true
    by_test others true is e = cc
    by_test others false is e = rw is (others e)

-- a report is delivered that settles no question: what it tells is ended by the later rows where it is to be taken up at once
pub delivered_may : (h : Here) (event : ℕ) (proc : ProcId) (report : Report) → h.done ≡ [] → slice_get (desk_of h.now proc).reports 0 ≡ Some report → list_all (λ (q : Asked). not (is_settled_by h.now (after h.now (delivered_row event proc)) q)) h.now.requests ≡ true → MayLog h (delivered_row event proc ∷ []) (λ later. is_delivered_duly (point_at h later) (delivered_row event proc) ≡ true)
delivered_may h event proc report first there none later duly = (passes, tt)
  where
    row : LogRow
    row = delivered_row event proc

    passes : Passes h.header (point_at h later) row
    passes =
        record {
          formed = rw first (rw there refl);
          once = refl;
          caused = refl;
          queued = duly;
          ordered = refl;
          checked = none_asked (is_settled_by h.now (after h.now row)) (is_prompted_after (point_at h later) row) h.now.requests none;
          in_time = refl;
          suits = refl;
        }

-- what a document made is dropped by the request that moved its navigable on
pub outdated_may : (h : Here) (event : ℕ) (actor : Actor) (req r : ReqId) (q mover : Asked) → is_led h.done ≡ true → request_of h.now req ≡ Some q → q.ending ≡ None → has_req h.now.parked req ≡ false → request_of h.now r ≡ Some mover → by_mover h.now q mover ≡ true → MayLog h (record { event = event; actor = actor; row = rows.Dropped req (drops.By r) } ∷ []) Anything
outdated_may h event actor req r q mover led at open_ unparked found moved later rest = (passes, tt)
  where
    row : LogRow
    row = record { event = event; actor = actor; row = rows.Dropped req (drops.By r) }

    or_true : (a : Bool) {b : Bool} → b ≡ true → (a || b) ≡ true
    or_true true e = refl
    or_true false e = e

    passes : Passes h.header (point_at h later) row
    passes =
        record {
          formed = both (led_follows h.done (point_at h later) row refl led refl) (rw at refl);
          once = rw at (rw open_ refl);
          caused = rw at (or_true (by_event (point_at h later) (end_of (point_at h later) row) q r) (rw found moved));
          queued = rw unparked refl;
          ordered = refl;
          checked = refl;
          in_time = refl;
          suits = refl;
        }
