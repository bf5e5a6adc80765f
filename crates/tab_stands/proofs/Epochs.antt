-- Which navigables were shown a document, as their epochs and the orders on their way tell: so it is after each row, where an order that shows a document does so under a greater epoch.
use Rattle.seen_facts.proofs.Coord.Unread.{next}
use Rattle.seen_facts.proofs.Desk.Again.{AllStay, StaysIn}
use Rattle.log_model.specs.After.{documents_after}
use Rattle.log_model.specs.AfterPlaces.{places_after}
use Rattle.log_model.specs.History.{has_nav}
use Rattle.log_model.specs.Places.{is_awake, top}
use Rattle.log_model.specs.Seen.{Document, Place, Seen, asleep, place_in}
use Rattle.log_model.specs.declared.job.Job.{Job}
use Rattle.log_model.specs.declared.job.Task.{Task}
use Rattle.log_model.specs.declared.job.Why.{Why}
use Rattle.log_model.specs.declared.row_kind.Actor.{Actor}
use Rattle.log_model.specs.declared.row_kind.RowKind.{RowKind}
use Rattle.seen_facts.proofs.Mover.Places.{WasThere, place_then, was_there}
use Rattle.tab_facts.proofs.Order.Rows.{IsWithin, orders_after, orders_on}
use Rattle.std.proofs.Common.{Bool, List, Some, ap, arith, cond, false, inl, inr, map, not, refl, subst, sym, true, ℕ, ◌&&◌, ◌<◌, ◌==◌, ◌||◌, ◌∙◌, ◌≡◌, ◌≤◌, ◌⊎◌}
use Rattle.std.proofs.lemmas.Bool.Decides.{nat_tests}
use Rattle.std.specs.Prelude.{option_map}
use Rattle.tab_ids.specs.declared.Epoch.{Epoch}
use Rattle.tab_ids.specs.declared.NavId.{NavId}
use Rattle.tab_stands.specs.Offs.{AreNewUnshown, AreShownUnder, IsOfEpoch, IsTopShown, IsUnderEpoch, is_new_place}
use Rattle.seen_facts.proofs.Walk.Sleepers.{slept}
use Rattle.log_model.specs.declared.job.Task.TheVariants as tasks
use Rattle.log_model.specs.declared.row_kind.RowKind.TheVariants as rows

-- ---- one place

-- its epoch stays with its last order, or is greater then; and where a document was shown in it, one was
pub record GoesOn (old new : Place) : Type 0 where
  pub epoch : ((new.epoch ≡ old.epoch) × (new.last_job ≡ old.last_job)) ⊎ (old.epoch.0 < new.epoch.0)
  pub shown : old.was_activated ≡ true → new.was_activated ≡ true

pub goes_itself : (place : Place) → GoesOn place place
goes_itself place = record { epoch = inl (refl, refl); shown = λ is. is }

-- it isn't new, if it isn't under its first epoch
pub old_by : (place : Place) → 2 ≤ place.epoch.0 → is_new_place place ≡ false
old_by place low =
    let zero_ : (place.epoch.0 == 0) ≡ false = grind (arith, nat_tests, low) in
    let one : (place.epoch.0 == 1) ≡ false = grind (arith, nat_tests, low) in
    ap (λ (b : Bool). b || (place.epoch.0 == 1 && (is_awake place && not place.is_delivered))) zero_
    ∙ ap (λ (b : Bool). b && (is_awake place && not place.is_delivered)) one

-- if it is new, no document was shown in it
abbrev pub IsUnshown : Place → Type 0
IsUnshown place = is_new_place place ≡ true → place.was_activated ≡ false

-- ---- each place

abbrev pub AllGoOn : List Place → List Place → Type 0
AllGoOn old new = (nav : NavId) (place : Place) → place_in old nav ≡ Some place → (then_ : Place) × (place_in new nav ≡ Some then_) × GoesOn place then_

pub all_itself : (places : List Place) → AllGoOn places places
all_itself places nav place at = (place, at, goes_itself place)

pub all_then : (a b c : List Place) → AllGoOn a b → AllGoOn b c → AllGoOn a c
all_then a b c one two nav place at =
    (later.0, later.1, record { epoch = by_two later.2.epoch; shown = λ is. later.2.shown (first.2.shown is) })
  where
    first : (then_ : Place) × (place_in b nav ≡ Some then_) × GoesOn place then_
    first = one nav place at

    later : (then_ : Place) × (place_in c nav ≡ Some then_) × GoesOn first.0 then_
    later = two nav first.0 first.1

    by_one : ((later.0.epoch ≡ first.0.epoch) × (later.0.last_job ≡ first.0.last_job)) → ((first.0.epoch ≡ place.epoch) × (first.0.last_job ≡ place.last_job)) ⊎ (place.epoch.0 < first.0.epoch.0) → ((later.0.epoch ≡ place.epoch) × (later.0.last_job ≡ place.last_job)) ⊎ (place.epoch.0 < later.0.epoch.0)
    by_one same (inl is) = inl (same.0 ∙ is.0, same.1 ∙ is.1)
    by_one same (inr less) = inr (subst (λ (x : Epoch). place.epoch.0 < x.0) (sym same.0) less)

    by_two : ((later.0.epoch ≡ first.0.epoch) × (later.0.last_job ≡ first.0.last_job)) ⊎ (first.0.epoch.0 < later.0.epoch.0) → ((later.0.epoch ≡ place.epoch) × (later.0.last_job ≡ place.last_job)) ⊎ (place.epoch.0 < later.0.epoch.0)
    by_two (inl same) = by_one same first.2.epoch
    by_two (inr less) = inr (by_first first.2.epoch)
      where
        by_first : ((first.0.epoch ≡ place.epoch) × (first.0.last_job ≡ place.last_job)) ⊎ (place.epoch.0 < first.0.epoch.0) → place.epoch.0 < later.0.epoch.0
        by_first (inl is) = subst (λ (x : Epoch). x.0 < later.0.epoch.0) is.0 less
        by_first (inr lower) = omega (arith, lower, less)

-- a change of each
module _ (g : Place → Place) (places : List Place) (navs : (p : Place) → (g p).nav ≡ p.nav) where
  pub map_goes : ((nav : NavId) (p : Place) → place_in places nav ≡ Some p → GoesOn p (g p)) → AllGoOn places (map g places)
  map_goes goes nav place at =
      (g place, place_then g places navs nav ∙ ap (option_map g) at, goes nav place at)

  pub map_new : ((nav : NavId) (p : Place) → place_in places nav ≡ Some p → IsUnshown p → IsUnshown (g p)) → AreNewUnshown places → AreNewUnshown (map g places)
  map_new stays are nav place at =
      let w : WasThere g places nav place = was_there g places navs nav place at in
      subst IsUnshown w.is (stays nav w.before w.found (are nav w.before w.found))

-- one that leaves epochs, last orders and what was shown, and wakes nobody
pub record IsQuiet (old new : Place) : Type 0 where
  pub nav : new.nav ≡ old.nav
  pub epoch : new.epoch ≡ old.epoch
  pub last_job : new.last_job ≡ old.last_job
  pub shown : new.was_activated ≡ old.was_activated
  pub new_ : is_new_place new ≡ true → is_new_place old ≡ true

quiet_itself : (place : Place) → IsQuiet place place
quiet_itself place = record { nav = refl; epoch = refl; last_job = refl; shown = refl; new_ = λ is. is }

pub quiet_if : (b : Bool) (old new : Place) → IsQuiet old new → IsQuiet old (let p : Place = cond b new old in p)
quiet_if true old new quiet = quiet
quiet_if false old new quiet = quiet_itself old

quiet_goes : (old new : Place) → IsQuiet old new → GoesOn old new
quiet_goes old new quiet = record { epoch = inl (quiet.epoch, quiet.last_job); shown = λ is. quiet.shown ∙ is }

quiet_new : (old new : Place) → IsQuiet old new → IsUnshown old → IsUnshown new
quiet_new old new quiet unshown is = quiet.shown ∙ unshown (quiet.new_ is)

module _ (g : Place → Place) (places : List Place) (quiet : (p : Place) → IsQuiet p (g p)) where
  pub quietly_goes : AllGoOn places (map g places)
  quietly_goes = map_goes g places (λ p. (quiet p).nav) (λ nav p at. quiet_goes p (g p) (quiet p))

  pub quietly_new : AreNewUnshown places → AreNewUnshown (map g places)
  quietly_new = map_new g places (λ p. (quiet p).nav) (λ nav p at. quiet_new p (g p) (quiet p))

-- who falls asleep
sleep_quiet : (why : Why) (place : Place) → IsQuiet place (record place { status = asleep; why = why })
sleep_quiet why place = record { nav = refl; epoch = refl; last_job = refl; shown = refl; new_ = new_ }
  where
    new_ : (place.epoch.0 == 0 || (place.epoch.0 == 1 && (false && not place.is_delivered))) ≡ true → is_new_place place ≡ true
    new_ = by_tests (place.epoch.0 == 0) (place.epoch.0 == 1)
      where
        by_tests : (a b : Bool) → (a || (b && (false && not place.is_delivered))) ≡ true → (a || (b && (is_awake place && not place.is_delivered))) ≡ true
        by_tests true b is = refl
        by_tests false true is = absurd cc
        by_tests false false is = absurd cc

pub slept_quiet : (navs : List NavId) (why : Why) (place : Place) → IsQuiet place (slept navs why place)
slept_quiet navs why place =
    quiet_if (has_nav navs place.nav) place (record place { status = asleep; why = why }) (sleep_quiet why place)

-- ---- orders on their way

module _ (documents docs : List Document) (places news : List Place) (homes : AllStay documents docs) (goes : AllGoOn places news) where
  of_epoch : (job : Job) (epoch : ℕ) → IsOfEpoch documents places job epoch → IsOfEpoch docs news job epoch
  of_epoch job epoch it =
      record {
        d = home.new;
        found = home.found;
        place = then_.0;
        placed = ap (λ (n : NavId). place_in news n) home.nav ∙ then_.1;
        one = it.one;
        low = by_low then_.2.epoch;
        last = by_last then_.2.epoch;
      }
    where
      home : StaysIn docs job.doc it.d
      home = homes job.doc it.d it.found

      then_ : (p : Place) × (place_in news it.d.nav ≡ Some p) × GoesOn it.place p
      then_ = goes it.d.nav it.place it.placed

      by_low : ((then_.0.epoch ≡ it.place.epoch) × (then_.0.last_job ≡ it.place.last_job)) ⊎ (it.place.epoch.0 < then_.0.epoch.0) → epoch ≤ then_.0.epoch.0
      by_low (inl same) = subst (λ (x : Epoch). epoch ≤ x.0) (sym same.0) it.low
      by_low (inr less) = let low = it.low in omega (arith, low, less)

      by_last : ((then_.0.epoch ≡ it.place.epoch) × (then_.0.last_job ≡ it.place.last_job)) ⊎ (it.place.epoch.0 < then_.0.epoch.0) → epoch ≡ then_.0.epoch.0 → then_.0.last_job ≡ Some job.nr
      by_last (inl same) is = same.1 ∙ it.last (is ∙ ap (λ (x : Epoch). x.0) same.0)
      by_last (inr less) is = let low = it.low in absurd (omega (arith, low, less, is))

  under_still : (job : Job) → IsUnderEpoch documents places job job.task → IsUnderEpoch docs news job job.task
  under_still job = by_task job.task
    where
      by_task : (task : Task) → IsUnderEpoch documents places job task → IsUnderEpoch docs news job task
      by_task (tasks.Activate entry epoch long at memo address) it = of_epoch job epoch.0 it
      by_task _ it = tt

-- ---- one row

-- what a row leaves of the documents and the places
pub record LeavesShown (s t : Seen) : Type 0 where
  pub homes : AllStay s.documents t.documents
  pub goes : AllGoOn s.places t.places
  pub new : AreNewUnshown t.places

top_still : (old new : List Place) → AllGoOn old new → IsTopShown old → IsTopShown new
top_still old new goes it =
    let then_ = goes top it.place it.placed in
    record { place = then_.0; placed = then_.1; shown = then_.2.shown it.shown }

pub under_after : (s : Seen) (event : ℕ) (actor : Actor) (kind : RowKind) → IsWithin kind → LeavesShown s (next s event actor kind) → ((job : Job) → kind ≡ rows.Sent job → IsUnderEpoch (next s event actor kind).documents (next s event actor kind).places job job.task) → AreShownUnder s → AreShownUnder (next s event actor kind)
under_after s event actor kind within left sent are =
    record {
      orders = orders_after (λ (job : Job). IsUnderEpoch t.documents t.places job job.task) s event actor kind within sent
          (orders_on (λ (job : Job). IsUnderEpoch s.documents s.places job job.task) (λ (job : Job). IsUnderEpoch t.documents t.places job job.task) s (under_still s.documents t.documents s.places t.places left.homes left.goes) are.orders);
      unshown = left.new;
      top_ = top_still s.places t.places left.goes are.top_;
    }
  where
    t : Seen
    t = next s event actor kind

-- where places are as they were
pub quietly_under : (s : Seen) (event : ℕ) (actor : Actor) (kind : RowKind) → IsWithin kind → ((job : Job) → kind ≡ rows.Sent job → ⊥) → AllStay s.documents (documents_after s kind) → places_after s kind ≡ s.places → AreShownUnder s → AreShownUnder (next s event actor kind)
quietly_under s event actor kind within unsent documents places are =
    under_after s event actor kind within (record {
      homes = documents;
      goes = subst (λ (l : List Place). AllGoOn s.places l) (sym places) (all_itself s.places);
      new = subst (λ (l : List Place). AreNewUnshown l) (sym places) are.unshown;
    }) (λ job is. absurd (unsent job is)) are
