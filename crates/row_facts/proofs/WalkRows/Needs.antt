-- A navigable that is visited in need doesn't stand, so not all stand; and where all stand after an order, or as a request ends, all stood before.
use Rattle.seen_facts.proofs.Coord.Unread.{next}
use Rattle.seen_facts.proofs.Hang.Members.{find_has}
use Rattle.seen_facts.specs.Hang.Members.{Has}
use Rattle.log_model.specs.Equal.{holds}
use Rattle.log_model.specs.Places.{aim_of, all_stand, all_stand_in, has_arrived, is_asleep, is_given_target, is_gone, is_lost_in, is_shown, is_standing, is_wanted, stands}
use Rattle.log_model.specs.Seen.{Place, Seen, Status, asleep, awake, lost, place_in, place_of}
use Rattle.log_model.specs.declared.job.Job.{Job}
use Rattle.log_model.specs.declared.outcome.Cause.{Cause}
use Rattle.log_model.specs.declared.outcome.Denial.{Denial}
use Rattle.log_model.specs.declared.row.Row.{Row}
use Rattle.log_model.specs.declared.row_kind.Actor.{Actor}
use Rattle.row_facts.proofs.Owed.Aims.{ended_aim}
use Rattle.row_facts.proofs.Owed.Requests.{AsksNone}
use Rattle.row_facts.proofs.Owed.Rows.{IsIdle}
use Rattle.row_facts.proofs.Owed.Standing.{AreEased, sent_eased}
use Rattle.seen_facts.specs.Asked.Asking.{HavePassed}
use Rattle.std.proofs.Common.{Bool, List, None, Option, Some, [], ap, cond, false, inl, inr, not, refl, sym, true, ℕ, ◌&&◌, ◌==◌, ◌||◌, ◌∙◌, ◌∷◌, ◌≡◌}
use Rattle.std.proofs.lemmas.Bool.{and_from, and_left, and_right, or_from, or_parts}
use Rattle.std.specs.List.{list_all, list_any}
use Rattle.tab_ids.specs.declared.NavId.{NavId}
use Rattle.tab_ids.specs.declared.ReqId.{ReqId}
use Rattle.seen_facts.proofs.Walk.Placed.{found_nav}
use Rattle.seen_facts.specs.Walk.Serving.{is_needing, is_stopping}
use Rattle.row_facts.proofs.WalkRows.Leaves.{sent_aim}
use Rattle.row_facts.specs.WalkRows.Since.{IsVisitedInNeed}
use Rattle.log_model.specs.declared.outcome.Ending.TheVariants as endings
use Rattle.log_model.specs.declared.row_kind.RowKind.TheVariants as rows

-- ---- one navigable

-- a place that needs something doesn't stand
needing_stands_not : (rows : List Row) (step : ℕ) (place : Place) → is_needing rows step place ≡ true → is_standing rows step place ≡ false
needing_stands_not rows step place needs = by_status place.status refl
  where
    by_tests : (given unmet arrived : Bool) → (unmet || not given) ≡ true → (given && not unmet && arrived) ≡ false
    by_tests true true arrived is = refl
    by_tests true false arrived is = absurd cc
    by_tests false unmet arrived is = refl

    woken : is_asleep place ≡ false → is_standing rows step place ≡ false
    woken wakes =
        by_tests (is_given_target rows step place) place.is_unmet (has_arrived place) (sym (ap (λ (b : Bool). b || place.is_unmet || not (is_given_target rows step place)) wakes) ∙ needs)

    by_status : (status : Status) → place.status ≡ status → is_standing rows step place ≡ false
    by_status asleep is =
        and_right (is_given_target rows step place && not place.is_unmet) (has_arrived place) (rw is refl)
    by_status (awake doc) is = woken (rw is refl)
    by_status lost is = woken (rw is refl)

-- so does one that is visited in need
pub need_stands_not : (s : Seen) (nav : NavId) (place : Place) → place_of s nav ≡ Some place → IsVisitedInNeed s place → stands s (aim_of s) nav ≡ false
need_stands_not s nav place at visited =
    ap (holds (is_standing s.history.rows (aim_of s))) at ∙ needing_stands_not s.history.rows (aim_of s) place visited.needs

-- who is awake on its target isn't lost
unlost : (rows : List Row) (step : ℕ) (places : List Place) (nav : NavId) → is_stopping rows step places nav ≡ false → is_lost_in places nav ≡ false
unlost rows step places nav goes_on = by_place (place_in places nav) refl
  where
    by_status : (place : Place) → place_in places nav ≡ Some place → (status : Status) → place.status ≡ status → is_lost_in places nav ≡ false
    by_status place at (awake doc) is = rw at (rw is refl)
    by_status place at asleep is = rw at (rw is refl)
    by_status place at lost is =
        let stops : is_stopping rows step places nav ≡ true = rw at (rw is refl) in
        let never : false ≡ true = sym goes_on ∙ stops in absurd cc

    by_place : (o : Option Place) → place_in places nav ≡ o → is_lost_in places nav ≡ false
    by_place None at = rw at refl
    by_place (Some place) at = by_status place at place.status refl

-- nor is any of several
none_lost : (rows : List Row) (step : ℕ) (places : List Place) (navs : List NavId) → list_any (is_stopping rows step places) navs ≡ false → list_any (is_lost_in places) navs ≡ false
none_lost rows step places [] go_on = refl
none_lost rows step places (nav ∷ navs) go_on =
    let parts = or_parts (is_stopping rows step places nav) (list_any (is_stopping rows step places) navs) go_on in
    or_from (is_lost_in places nav) (list_any (is_lost_in places) navs) (unlost rows step places nav parts.0) (none_lost rows step places navs parts.1)

-- where one of several fails a test, not all pass it
one_fails : {A : Type 0} (test : A → Bool) (xs : List A) (x : A) → Has xs x → test x ≡ false → list_all test xs ≡ false
one_fails test [] x never is = absurd never
one_fails {A} test (y ∷ ys) x (inl same) is =
    and_left (test y) (list_all test ys) (ap test same ∙ is)
one_fails test (y ∷ ys) x (inr more) is = and_right (test y) (list_all test ys) (one_fails test ys x more is)

-- one that the walk visits is to stand, so where it doesn't, not all stand
pub visited_not_all_stand : (s : Seen) (nav : NavId) (place : Place) → place_of s nav ≡ Some place → is_shown s.history.rows (aim_of s) place.nav ≡ true → list_any (is_stopping s.history.rows (aim_of s) s.places) place.above ≡ false → stands s (aim_of s) nav ≡ false → all_stand s (aim_of s) ≡ false
visited_not_all_stand s nav place at shown reached stands_not =
    one_fails stands_if_wanted s.places place (find_has (λ (p : Place). p.nav.0 == nav.0) s.places place at).0 (rw wanted off)
  where
    stands_if_wanted : Place → Bool
    stands_if_wanted p = cond (is_wanted s.history.rows s.places (aim_of s) p) (stands s (aim_of s) p.nav) true

    wanted : is_wanted s.history.rows s.places (aim_of s) place ≡ true
    wanted =
        let none : list_any (is_lost_in s.places) place.above ≡ false = none_lost s.history.rows (aim_of s) s.places place.above reached in
        and_from (is_shown s.history.rows (aim_of s) place.nav) (not (list_any (is_lost_in s.places) place.above)) shown (rw none refl)

    off : stands s (aim_of s) place.nav ≡ false
    off = ap (stands s (aim_of s)) (found_nav s.places nav place at) ∙ stands_not

-- as one doesn't that needs something
pub need_not_all_stand : (s : Seen) (nav : NavId) (place : Place) → place_of s nav ≡ Some place → IsVisitedInNeed s place → all_stand s (aim_of s) ≡ false
need_not_all_stand s nav place at visited =
    visited_not_all_stand s nav place at visited.shown visited.reached (need_stands_not s nav place at visited)

-- ---- where all stand, all stood before

-- after a change of places that lets none stand who didn't
stood_before : (s t : Seen) → AreEased s.places t.places → t.history ≡ s.history → aim_of t ≡ aim_of s → all_stand t (aim_of t) ≡ true → all_stand s (aim_of s) ≡ true
stood_before s t eased history aim all = by_test (all_stand s (aim_of s)) refl
  where
    then_ : all_stand t (aim_of t) ≡ all_stand_in s.history.rows t.places (aim_of s)
    then_ =
        ap (λ h. all_stand_in h.rows t.places (aim_of t)) history ∙ ap (all_stand_in s.history.rows t.places) aim

    by_test : (b : Bool) → all_stand s (aim_of s) ≡ b → all_stand s (aim_of s) ≡ true
    by_test true is = is
    by_test false is =
        let never : false ≡ true = sym (eased.unsettled s.history.rows (aim_of s) is) ∙ sym then_ ∙ all in absurd cc

module _ (s : Seen) (event : ℕ) (actor : Actor) where
  -- after an order that asks no document, where all have passed their checks
  pub sent_stood : (job : Job) → HavePassed s → AsksNone job.task → all_stand (next s event actor (rows.Sent job)) (aim_of (next s event actor (rows.Sent job))) ≡ true → all_stand s (aim_of s) ≡ true
  sent_stood job passed none =
      stood_before s (next s event actor (rows.Sent job)) (sent_eased s job job.task) refl (sent_aim s event actor job passed none)

  -- as a request ends that isn't the running traversal: it is dropped
  pub dropped_stood : (req : ReqId) (cause : Cause) → IsIdle s req → all_stand (next s event actor (rows.Dropped req cause)) (aim_of (next s event actor (rows.Dropped req cause))) ≡ true → all_stand s (aim_of s) ≡ true
  dropped_stood req cause idle all =
      ap (all_stand s) (sym (ended_aim (is_gone s) s.history s.requests req (endings.Dropped cause) idle)) ∙ all

  -- or refused
  pub refused_stood : (req : ReqId) (reason : Denial) → IsIdle s req → all_stand (next s event actor (rows.Refused req reason)) (aim_of (next s event actor (rows.Refused req reason))) ≡ true → all_stand s (aim_of s) ≡ true
  refused_stood req reason idle all =
      ap (all_stand s) (sym (ended_aim (is_gone s) s.history s.requests req (endings.Refused reason) idle)) ∙ all
