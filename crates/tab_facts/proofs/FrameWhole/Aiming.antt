-- Where navigables are to be: the step of the goal of the traversal that runs, or the current step; and where all stand there, each awake one was given its target.
use Rattle.tab_facts.proofs.FrameTab.Plainly.{plain_passes}
use Rattle.tab_facts.proofs.FrameTab.Shown.{shown_is}
use Rattle.tab_facts.specs.FrameTab.Asking.{ArePlainlyAsked}
use Rattle.tab_facts.specs.FrameWhole.Tab.{IsTab}
use Rattle.log_model.specs.Equal.{holds}
use Rattle.log_model.specs.History.{has_row, used_step_at}
use Rattle.log_model.specs.Places.{aim_of, all_stand, has_arrived, has_passed_with, is_given_target, is_gone, is_lost_in, is_shown, is_standing, is_traversal, is_under_way, is_wanted}
use Rattle.log_model.specs.Seen.{Asked, Place, Seen, Status, asleep, awake, lost, place_in, place_of, request_in}
use Rattle.log_model.specs.declared.made.Made.{Made}
use Rattle.log_model.specs.declared.row.Row.{Row}
use Rattle.seen_facts.proofs.Each.Runs.{none_passes, only_passes}
use Rattle.seen_facts.specs.Each.Runs.{is_run, is_this}
use Rattle.seen_facts.proofs.Rest.Seated.{all_has}
use Rattle.seen_facts.proofs.Hang.Members.{find_has}  -- keep
use Rattle.std.proofs.Common.{Bool, List, None, Option, Some, [], ap, arith, cond, false, fold, inl, inr, map, not, refl, sym, true, ℕ, ◌&&◌, ◌==◌, ◌∙◌, ◌∷◌, ◌≡◌, ◌≤◌}
use Rattle.std.proofs.lemmas.Bool.{cases_Bool, eqb-true, le-leb, leb-true}
use Rattle.std.specs.List.{list_any}
use Rattle.std.specs.Option.{option_map_or}
use Rattle.std.specs.Prelude.{filter, max, nat_le}
use Rattle.tab_ids.specs.declared.NavId.{NavId}
use Rattle.tab_ids.specs.declared.ProcId.{ProcId}
use Rattle.tab_ids.specs.declared.ReqId.{ReqId}
use Rattle.tab_ids.specs.declared.Step.{Step}

-- ---- used steps

upto_bound : (step best : ℕ) (steps : List ℕ) → best ≤ step → fold max best (filter (λ used. nat_le used step) steps) ≤ step
upto_bound step best [] within = within
upto_bound step best (first ∷ steps) within =
    elim (cases_Bool (nat_le first step)) [
      | inl in_ ↦ rw in_ (upto_bound step (max best first) steps (omega (arith, within, leb-true first step in_)))
      | inr out ↦ rw out (upto_bound step best steps within)
    ]

from_best : (best : ℕ) (steps : List ℕ) → best ≤ fold max best steps
from_best best [] = omega arith
from_best best (first ∷ steps) = omega (arith, from_best (max best first) steps)

greater_best : (low high : ℕ) (steps : List ℕ) → low ≤ high → fold max low steps ≤ fold max high steps
greater_best low high [] less = less
greater_best low high (first ∷ steps) less = greater_best (max low first) (max high first) steps (omega (arith, less))

-- those up to a step are up to the greatest of them
up_again : (best step bound : ℕ) (steps : List ℕ) → fold max best (filter (λ used. nat_le used step) steps) ≤ bound → fold max best (filter (λ used. nat_le used step) steps) ≤ fold max best (filter (λ used. nat_le used bound) steps)
up_again best step bound [] within = omega arith
up_again best step bound (first ∷ steps) within =
    by_test (nat_le first step) refl (λ best_ low. up_again best_ step bound steps low) within
  where
    -- one that isn't up to the step makes the other side no less
    past : (b : Bool) → fold max best (filter (λ used. nat_le used bound) steps) ≤ fold max best (cond b (first ∷ filter (λ used. nat_le used bound) steps) (filter (λ used. nat_le used bound) steps))
    past true = greater_best best (max best first) (filter (λ used. nat_le used bound) steps) (omega arith)
    past false = omega arith

    by_test : (b : Bool) → nat_le first step ≡ b → ((best_ : ℕ) → fold max best_ (filter (λ used. nat_le used step) steps) ≤ bound → fold max best_ (filter (λ used. nat_le used step) steps) ≤ fold max best_ (filter (λ used. nat_le used bound) steps)) → fold max best (cond b (first ∷ filter (λ used. nat_le used step) steps) (filter (λ used. nat_le used step) steps)) ≤ bound → fold max best (cond b (first ∷ filter (λ used. nat_le used step) steps) (filter (λ used. nat_le used step) steps)) ≤ fold max best (cond (nat_le first bound) (first ∷ filter (λ used. nat_le used bound) steps) (filter (λ used. nat_le used bound) steps))
    by_test true e again low =
        let reach : max best first ≤ fold max (max best first) (filter (λ used. nat_le used step) steps) = from_best (max best first) (filter (λ used. nat_le used step) steps) in
        let in_ : nat_le first bound ≡ true = le-leb first bound (omega (arith, reach, low)) in
        rw in_ (again (max best first) low)
    by_test false e again low =
        let more : fold max best (filter (λ used. nat_le used step) steps) ≤ fold max best (filter (λ used. nat_le used bound) steps) = again best low in
        let over_ = past (nat_le first bound) in
        omega (arith, more, over_)

-- a used step is the one that is used at it
pub used_used : (rows : List Row) (step : ℕ) → used_step_at rows (used_step_at rows step) ≡ used_step_at rows step
used_used rows step =
    omega (arith, upto_bound (used_step_at rows step) 0 (map (λ (row : Row). row.step.0) rows) (omega arith), up_again 0 step (used_step_at rows step) (map (λ (row : Row). row.step.0) rows) (omega arith))

-- ---- the aim

module _ (s : Seen) where
  abbrev is_passed_run : Asked → Bool
  is_passed_run q = is_under_way q && is_traversal q.what && has_passed_with (is_gone s) q

  passed_only : (run : Option ReqId) → ArePlainlyAsked run s → (req : ReqId) (q : Asked) → request_in s.requests req ≡ Some q → is_passed_run q ≡ is_this run req
  passed_only run plain req q at =
      ap (λ (b : Bool). is_run q && b) (plain_passes (is_gone s) req q (plain.each req q at)) ∙ by_test (is_run q) ∙ plain.only req q at
    where
      by_test : (b : Bool) → (b && true) ≡ b
      by_test true = refl
      by_test false = refl

  -- where none runs
  pub aim_idle : ArePlainlyAsked None s → aim_of s ≡ s.history.current
  aim_idle plain =
      ap (λ (o : Option Asked). option_map_or (λ (q : Asked). option_map_or (λ (goal : Step). used_step_at s.history.rows goal.0) q.goal s.history.current) o s.history.current) (none_passes is_passed_run s.requests (passed_only None plain))

  -- where one does
  pub aim_running : (req : ReqId) (q : Asked) (goal : Step) → ArePlainlyAsked (Some req) s → request_in s.requests req ≡ Some q → q.goal ≡ Some goal → aim_of s ≡ used_step_at s.history.rows goal.0
  aim_running req q goal plain at leads =
      ap (λ (o : Option Asked). option_map_or (λ (x : Asked). option_map_or (λ (g : Step). used_step_at s.history.rows g.0) x.goal s.history.current) o s.history.current) (only_passes is_passed_run s.requests req q at (passed_only (Some req) plain))
      ∙ ap (λ (o : Option Step). option_map_or (λ (g : Step). used_step_at s.history.rows g.0) o s.history.current) leads

-- ---- where all stand

module _ (home : ProcId) (run : Option ReqId) (hand : List Made) (s : Seen) (tab : IsTab home run hand s) where
  none_lost : (navs : List NavId) → list_any (is_lost_in s.places) navs ≡ false
  none_lost [] = refl
  none_lost (nav ∷ navs) = rw (known (place_of s nav) refl) (none_lost navs)
    where
      by_status : (p : Place) (st : Status) → p.status ≡ st → place_of s nav ≡ Some p → is_lost_in s.places nav ≡ false
      by_status p (awake doc) is at = rw at (rw is refl)
      by_status p asleep is at = rw at (rw is refl)
      by_status p lost is at = absurd ((tab.framed.steady nav p at).unlost is)

      known : (o : Option Place) → place_of s nav ≡ o → is_lost_in s.places nav ≡ false
      known None e = rw e refl
      known (Some p) e = by_status p p.status refl e

  -- each navigable that is shown at the step stands there
  pub stands_there : (step : ℕ) → all_stand s step ≡ true → (nav : NavId) (place : Place) → place_of s nav ≡ Some place → is_shown s.history.rows step place.nav ≡ true → is_standing s.history.rows step place ≡ true
  stands_there step stand nav place placed shown =
      let has = find_has (λ (p : Place). p.nav.0 == nav.0) s.places place placed in
      let all = all_has (λ (p : Place). cond (is_wanted s.history.rows s.places step p) (holds (is_standing s.history.rows step) (place_in s.places p.nav)) true) s.places stand place has.0 in
      let wanted : is_wanted s.history.rows s.places step place ≡ true = rw shown (rw (none_lost place.above) refl) in
      let here : holds (is_standing s.history.rows step) (place_in s.places place.nav) ≡ true = (rw wanted at all) in
      let number : place.nav ≡ nav = ap (λ (n : ℕ). let x : NavId = record { 0 = n } in x) (eqb-true place.nav.0 nav.0 has.1) in
      sym (ap (λ (o : Option Place). holds (is_standing s.history.rows step) o) (ap (λ (x : NavId). place_of s x) number ∙ placed)) ∙ here

  -- so one with an entry was given its target
  pub given_there : (step : ℕ) → all_stand s step ≡ true → (nav : NavId) (place : Place) → place_of s nav ≡ Some place → has_row place.nav s.history.rows ≡ true → is_given_target s.history.rows step place ≡ true
  given_there step stand nav place placed has =
      first (is_given_target s.history.rows step place) (not place.is_unmet)
      (first (is_given_target s.history.rows step place && not place.is_unmet) (has_arrived place)
      (stands_there step stand nav place placed (shown_is s tab.sound tab.hangs tab.framed.stated step place.nav ∙ has)))
    where
      first : (a b : Bool) → (a && b) ≡ true → a ≡ true
      first true b e = refl
      first false b e = absurd cc
