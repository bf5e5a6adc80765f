-- A document that is left may be frozen, since the one that the move shows comes later.
use Rattle.leave_facts.proofs.Carried.{AreLeftDuly}
use Rattle.leave_facts.specs.Leaving.{IsLeftDulyFor}
use Rattle.row_facts.specs.LeaveRows.Freezing.{IsFreezeDue}
use Rattle.row_facts.specs.LeaveRows.Leaving.{is_for_one}
use Rattle.log_model.specs.History.{has_nav}
use Rattle.log_model.specs.ActsAtOnce.{is_for_passed}
use Rattle.log_model.specs.Equal.{holds}
use Rattle.log_model.specs.Places.{is_awake_on, shower_of, way_of}
use Rattle.log_model.specs.Checks.{may_go_on}
use Rattle.log_model.specs.Seen.{Asked, Document, Place, Seen, desk_of, place_of, request_of}
use Rattle.log_model.specs.declared.job.Job.{Job}
use Rattle.log_model.specs.declared.job.Why.{Why}
use Rattle.log_model.specs.declared.row_kind.RowKind.{RowKind}
use Rattle.seen_laws.proofs.InEvents.{led_here, now_is}
use Rattle.seen_laws.specs.InEvent.{InEvent, here_of, log_of, now_of}
use Rattle.seen_laws.specs.Sending.{is_passed}
use Rattle.std.proofs.Common.{List, None, Option, Some, ap, false, refl, subst, sym, true, ◌∙◌, ◌≡◌}
use Rattle.std.specs.Prelude.{is_some}
use Rattle.tab_doors.proofs.Leavable.{IsFrozenAs, IsInLog, freezes_log, in_log, numbered_log, seen_at}
use Rattle.tab_doors.proofs.Whose.{proc_found}
use Rattle.tab_doors.proofs.Works.{numbered, start_here}
use Rattle.tab_doors.specs.Keeping.{Move}
use Rattle.tab_doors.specs.Orders.{IsForOther, order_to, proc_at}
use Rattle.tab_doors.specs.Working.{IsAtWorkFor, MaySend}
use Rattle.tab_doors.specs.declared.tables.Tables.{Tables}
use Rattle.tab_ids.specs.declared.DocId.{DocId}
use Rattle.tab_ids.specs.declared.NavId.{NavId}
use Rattle.tab_passes.proofs.Aheads.{freeze_sends}
use Rattle.tab_passes.proofs.LeftFor.{left_for}
use Rattle.tab_passes.specs.Leaving.{IsNewFor, IsToFreeze}
use Rattle.log_model.specs.declared.job.Task.TheVariants as tasks
use Rattle.log_model.specs.declared.job.Why.TheVariants as whys

-- a request that has passed is there
passed_there : (s : Seen) (why : Why) → is_passed s tasks.Freeze why ≡ true → is_for_one s why ≡ true
passed_there s (whys.Req req) passed = by_found (request_of s req) refl
  where
    by_found : (o : Option Asked) → request_of s req ≡ o → is_some o ≡ true
    by_found (Some q) at = refl
    by_found None at = let never : may_go_on s req ≡ false = rw at refl in let no_ : true ≡ false = sym passed ∙ never in absurd cc
passed_there s (whys.Death death) passed = refl
passed_there s whys.Evict passed = refl
passed_there s whys.Start passed = refl

-- the order that freezes it may be sent
pub freeze_ahead : (e : InEvent) (out : List RowKind) (move : Move) (t : Tables) (nav : NavId) (doc : DocId) (why : Why) → IsAtWorkFor (Some move) e out t → AreLeftDuly (log_of e out) → IsLeftDulyFor (log_of e out) doc why → IsToFreeze e (now_of e out) nav doc → (desk_of (now_of e out) (proc_at (now_of e out) doc)).known ≡ 0 → is_passed (now_of e out) tasks.Freeze why ≡ true → is_for_passed (now_of e out) (order_to (now_of e out) doc why tasks.Freeze) ≡ true → IsForOther e.checking why → IsNewFor e (now_of e out) move nav → MaySend (Some move) e out (order_to (now_of e out) doc why tasks.Freeze)
freeze_ahead e out move t nav doc why work duly left its known passed for_passed for_other new later both =
    freeze_sends (here_of e out) e.event e.actor order move (led_here e out work.own) (numbered_log e out (now_is e out) order (numbered s (proc_at s doc) doc why tasks.Freeze known)) shown.d shown.found frozen.d frozen.freezes
    (subst (λ (place : Place). has_nav (way_of place) shown.d.nav ≡ true) (sym frozen.place_is) (subst (λ (n : NavId). has_nav (way_of its.place) n ≡ true) nav_is its.below))
    (subst (λ (n : NavId). holds (is_awake_on move.doc) (place_of (here_of e out).start n) ≡ false) nav_is (subst (λ (x : Seen). holds (is_awake_on move.doc) (place_of x nav) ≡ false) (sym (start_here e out)) new.other))
    later
    both.0
  where
    s : Seen
    s = now_of e out

    order : Job
    order = order_to s doc why tasks.Freeze

    -- the document that is shown, as the log has it
    shown : IsInLog e out move.doc new.document
    shown = in_log e out (now_is e out) move.doc new.document new.found

    nav_is : nav ≡ shown.d.nav
    nav_is = sym new.nav_is ∙ ap (λ (x : Document). x.nav) shown.is

    due : IsFreezeDue (seen_at e out (now_is e out)) order its.document
    due =
        record {
          task = refl;
          to = record { found = its.found; proc = sym (proc_found s doc its.document its.found); alive = its.alive };
          place = its.place;
          was_awake = subst (λ (x : Seen). shower_of x doc ≡ Some its.place) (sym (start_here e out)) its.was_awake;
          unfrozen = its.unfrozen;
          unhandled = its.unhandled;
          passed = passed;
          for_passed = for_passed;
        }

    frozen : IsFrozenAs e out order its.place
    frozen =
        freezes_log e out t work order its.document (left_for e out duly order its.document its.found (passed_there s why passed) left) for_other due
