-- A load is dropped for another request: what the event's end pays, and where the other request took its navigable's last entries.
use Rattle.row_facts.specs.LoadRows.Dropping.{IsLoadBy, IsLoadDestroyed, IsMovedBy, IsReplacedBy, IsStillMovedBy, IsUnderAdder}
use Rattle.log_model.proofs.Refl.{nat_eq_refl}
use Rattle.log_model.specs.Causes.{any_displaced, any_place, by_adder, by_event, by_last_step, by_later_load, by_mover, by_traversal, is_destroyed_by}
use Rattle.log_model.specs.Equal.{holds}
use Rattle.log_model.specs.Events.{Point}
use Rattle.log_model.specs.History.{has_nav}
use Rattle.log_model.specs.Places.{is_placed, stands, way_to}
use Rattle.log_model.specs.Points.{had_started, is_accepted_here}
use Rattle.log_model.specs.Seen.{Asked, Place, Seen, place_of, request_of}
use Rattle.log_model.specs.declared.outcome.Cause.{Cause}
use Rattle.log_model.specs.declared.row_kind.Actor.{Actor}
use Rattle.log_model.specs.declared.row_kind.LogRow.{LogRow}
use Rattle.seen_laws.proofs.Sendings.{both, led_follows}
use Rattle.seen_laws.specs.Blocks.{Here, MayLog, Passes, point_at}
use Rattle.seen_laws.specs.InEvent.{Anything}
use Rattle.seen_laws.specs.Owing.{owes_row}
use Rattle.seen_laws.specs.Sending.{is_led}
use Rattle.std.proofs.Common.{Bool, List, None, [], ap, arith, cond, false, length, not, refl, subst, sym, true, ℕ, ◌&&◌, ◌-◌, ◌==◌, ◌||◌, ◌≤◌, ◌∷◌, ◌≡◌}
use Rattle.std.proofs.lemmas.Bool.{or_left, or_right}
use Rattle.std.proofs.lemmas.Bool.Decides.{nat_tests}
use Rattle.std.proofs.lemmas.Option.{slice_get_past}
use Rattle.std.specs.List.{list_any}
use Rattle.std.specs.Prelude.{nat_lt, slice_get}
use Rattle.tab_ids.specs.declared.NavId.{NavId}
use Rattle.tab_ids.specs.declared.ReqId.{ReqId}
use Rattle.log_model.specs.declared.outcome.Cause.TheVariants as drops
use Rattle.log_model.specs.declared.row_kind.RowKind.TheVariants as rows

-- the row of a dropped load
abbrev pub dropped_row : ℕ → Actor → ReqId → Cause → LogRow
dropped_row event actor req cause = record { event = event; actor = actor; row = rows.Dropped req cause }

-- ---- one of the navigables on the way

nav_same : (a b : NavId) → (a.0 == b.0) ≡ true → a ≡ b
nav_same a b is = ap (λ (n : ℕ). let nav : NavId = record { 0 = n } in nav) (grind (arith, nat_tests, is))

-- one of them passes the test
pub any_at : (test : NavId → Bool) (navs : List NavId) (nav : NavId) → has_nav navs nav ≡ true → test nav ≡ true → list_any test navs ≡ true
any_at test [] nav on_way is = cc
any_at test (n ∷ navs) nav on_way is = by_test (n.0 == nav.0) refl (λ on. any_at test navs nav on is) on_way
  where
    by_test : (b : Bool) → (n.0 == nav.0) ≡ b → (has_nav navs nav ≡ true → list_any test navs ≡ true) → (b || has_nav navs nav) ≡ true → (test n || list_any test navs) ≡ true
    by_test true same more on = or_left _ (list_any test navs) (subst (λ (x : NavId). test x ≡ true) (sym (nav_same n nav same)) is)
    by_test false same more on = or_right (test n) _ (more on)

-- one that isn't shown at the step, or doesn't stand there
pub displaced_at : (s : Seen) (step : ℕ) (navs : List NavId) (nav : NavId) → has_nav navs nav ≡ true → is_placed s step nav ≡ false → any_displaced s step navs ≡ true
displaced_at s step navs nav on_way is = any_at (λ (n : NavId). not (is_placed s step n)) navs nav on_way (rw is refl)

-- one that doesn't stand there
pub off_at : (s : Seen) (step : ℕ) (navs : List NavId) (nav : NavId) → has_nav navs nav ≡ true → stands s step nav ≡ false → list_any (λ (n : NavId). not (stands s step n)) navs ≡ true
off_at s step navs nav on_way is = any_at (λ (n : NavId). not (stands s step n)) navs nav on_way (rw is refl)

-- a request that was accepted in this event hadn't begun before it
pub new_unstarted : (p : Point) (req : ReqId) → is_accepted_here p req ≡ true → had_started p req ≡ false
new_unstarted p req here = by_number (req.0 == 0)
  where
    past : length p.start.requests ≤ (req.0 - 1)
    past = grind (arith, nat_tests, here)

    by_number : (b : Bool) → holds (λ (q : Asked). q.is_started) (cond b None (slice_get p.start.requests (req.0 - 1))) ≡ false
    by_number true = refl
    by_number false = rw (slice_get_past p.start.requests (req.0 - 1) past) refl

-- ---- another request, by what the event's end pays

module _ (h : Here) (e : Seen) (event : ℕ) (actor : Actor) (req by : ReqId) (nav : NavId) (q r : Asked) (is : IsLoadBy h e req by nav q r) where
  abbrev p : Point
  p = point_at h []

  paid : (by_later_load p e q r || by_traversal p e q r || by_last_step e q r || by_adder p e q r) ≡ true → owes_row h (dropped_row event actor req (drops.By by)) e ≡ true
  paid cause = rw is.at (or_left _ (holds (by_mover h.now q) (request_of h.now by)) at_end)
    where
      at_end : by_event p e q by ≡ true
      at_end = rw is.other cause

  -- a later load of its navigable begins
  pub replaced_paid : IsReplacedBy h nav q r → owes_row h (dropped_row event actor req (drops.By by)) e ≡ true
  replaced_paid by_ = paid (or_left _ (by_adder p e q r) (or_left _ (by_last_step e q r) (or_left _ (by_traversal p e q r) cause)))
    where
      less : nat_lt q.nr.0 r.nr.0 ≡ true
      less = grind (arith, nat_tests, by_.later)

      cause : by_later_load p e q r ≡ true
      cause = rw (is.what, by_.what) (rw (less, nat_eq_refl nav.0) (rw (by_.began, by_.begins_here) refl))

  -- a passed traversal leads elsewhere
  pub moved_paid : IsMovedBy h e nav r → owes_row h (dropped_row event actor req (drops.By by)) e ≡ true
  moved_paid by_ = paid (or_left _ (by_adder p e q r) (or_left _ (by_last_step e q r) (or_right (by_later_load p e q r) _ cause)))
    where
      cause : by_traversal p e q r ≡ true
      cause = rw is.what (rw (by_.traverses, by_.began) (rw (by_.passed, by_.unended) by_.displaced))

  -- the last step has moved it, and not all have stood since
  pub still_moved_paid : IsStillMovedBy e nav r → owes_row h (dropped_row event actor req (drops.By by)) e ≡ true
  still_moved_paid by_ = paid (or_left _ (by_adder p e q r) (or_right (by_later_load p e q r || by_traversal p e q r) _ cause))
    where
      cause : by_last_step e q r ≡ true
      cause = rw is.what (rw (by_.last, nat_eq_refl r.nr.0, by_.unsettled) (rw (by_.changed, by_.off) refl))

  -- the other request added the navigable, or one above, and none was ever shown a document there
  pub adder_paid : IsUnderAdder h e nav q r → owes_row h (dropped_row event actor req (drops.By by)) e ≡ true
  adder_paid by_ = paid (or_right (by_later_load p e q r || by_traversal p e q r || by_last_step e q r) _ cause)
    where
      unshown : holds (λ (place : Place). not place.was_activated && holds (λ (adder : ReqId). adder.0 == r.nr.0) place.added_by) (place_of e by_.above) ≡ true
      unshown = rw by_.placed (rw (by_.unshown, by_.added) (nat_eq_refl r.nr.0))

      under : any_place e (way_to e nav) (λ (place : Place). not place.was_activated && holds (λ (adder : ReqId). adder.0 == r.nr.0) place.added_by) ≡ true
      under = any_at _ (way_to e nav) by_.above by_.on_way unshown

      cause : by_adder p e q r ≡ true
      cause = rw is.what (both by_.accepted under)

-- ---- the request that took its navigable's last entries

pub destroyed_may : (h : Here) (event : ℕ) (actor : Actor) (req by : ReqId) (nav : NavId) (q : Asked) → is_led h.done ≡ true → IsLoadDestroyed h.now req by nav q → MayLog h (dropped_row event actor req (drops.Destroyed by) ∷ []) Anything
destroyed_may h event actor req by nav q led is later rest = (passes, tt)
  where
    row : LogRow
    row = dropped_row event actor req (drops.Destroyed by)

    cause : is_destroyed_by h.now q by ≡ true
    cause = rw is.what (rw is.gone (rw (is.placed, is.taken) (nat_eq_refl by.0)))

    passes : Passes h.header (point_at h later) row
    passes =
        record {
          formed = both (led_follows h.done (point_at h later) row refl led refl) (rw is.at refl);
          once = rw is.at (rw is.open_ refl);
          caused = rw is.at cause;
          queued = rw is.unparked refl;
          ordered = refl;
          checked = refl;
          in_time = refl;
          suits = refl;
        }
