-- What an order leaves of who stands: it lets no navigable stand that didn't, and not all where not all did.
use Rattle.log_model.specs.AfterPlaces.{activated, on_place, places_sent, put_to_sleep, sleepers_below, sleepers_with}
use Rattle.log_model.specs.Equal.{holds}
use Rattle.log_model.specs.History.{has_nav}
use Rattle.log_model.specs.Places.{all_stand_in, is_given_target, is_lost_in, is_shown, is_standing, is_wanted}
use Rattle.log_model.specs.Seen.{Document, Place, Seen, Status, asleep, awake, document_of, lost, place_in, place_of}
use Rattle.log_model.specs.declared.job.Job.{Job}
use Rattle.log_model.specs.declared.job.Task.{Task}
use Rattle.log_model.specs.declared.job.Why.{Why}
use Rattle.log_model.specs.declared.row.Row.{Row}
use Rattle.row_facts.proofs.Owed.Hanging.{HangsAlike, StayThere, found_map, same_hangs, there_map, there_same, there_then}
use Rattle.std.proofs.Common.{Bool, List, None, Option, Some, [], ap, cond, false, map, not, refl, sym, true, ℕ, ◌&&◌, ◌==◌, ◌∙◌, ◌∷◌, ◌≡◌}
use Rattle.std.proofs.lemmas.Bool.{and_from, and_parts, not-true, or_from, or_parts}
use Rattle.std.specs.List.{list_all, list_any}
use Rattle.std.specs.Option.{option_map_or}
use Rattle.std.specs.Prelude.{if◌then◌else◌, option_map}
use Rattle.tab_ids.specs.declared.EntryId.{EntryId}
use Rattle.tab_ids.specs.declared.Epoch.{Epoch}
use Rattle.tab_ids.specs.declared.NavId.{NavId}
use Rattle.log_model.specs.declared.job.Task.TheVariants as tasks

-- ---- one place

-- the status is that of a navigable that is known lost
abbrev pub is_lost_status : Status → Bool
is_lost_status lost = true
is_lost_status _ = false

-- it hangs as before, stands nowhere where it didn't, and isn't lost where it wasn't
pub record IsEased (old new : Place) : Type 0 where
  pub hangs : HangsAlike old new
  pub off : (rows : List Row) (step : ℕ) → is_standing rows step old ≡ false → is_standing rows step new ≡ false
  pub unlost : is_lost_status old.status ≡ false → is_lost_status new.status ≡ false

-- a place that stays
same_eased : (place : Place) → IsEased place place
same_eased place = record { hangs = same_hangs place; off = λ rows step is. is; unlost = λ is. is }

-- what asks for what isn't so
never_last : (a b : Bool) → (a && b && false) ≡ false
never_last true true = refl
never_last true false = refl
never_last false b = refl

-- one that falls asleep
slept_eased : (why : Why) (place : Place) → IsEased place (record place { status = asleep; why = why })
slept_eased why place =
    record {
      hangs = record { nav_is = refl; above = refl; added = refl; shown = refl };
      off = λ rows step is. never_last (is_given_target rows step place) (not place.is_unmet);
      unlost = λ is. refl;
    }

-- one that is shown a document, which no report has told of
shown_eased : (job : Job) (entry : EntryId) (epoch : Epoch) (d : Document) (place : Place) → IsEased place (activated job entry epoch d place)
shown_eased job entry epoch d place =
    record {
      hangs = record { nav_is = refl; above = refl; added = refl; shown = refl };
      off = λ rows step is. never_last (is_given_target rows step (activated job entry epoch d place)) (not (activated job entry epoch d place).is_unmet);
      unlost = λ is. refl;
    }

-- one that changes where a test says so
if_eased : (b : Bool) (old new : Place) → IsEased old new → IsEased old (cond b new old)
if_eased true old new is = is
if_eased false old new is = same_eased old

-- ---- what an order does: who stands, and who is to stand

-- the places after: each hangs as before, who didn't stand doesn't, and not all stand if not all did
pub record AreEased (old new : List Place) : Type 0 where
  pub there : StayThere old new
  pub off : (rows : List Row) (step : ℕ) (nav : NavId) → holds (is_standing rows step) (place_in old nav) ≡ false → holds (is_standing rows step) (place_in new nav) ≡ false
  pub unsettled : (rows : List Row) (step : ℕ) → all_stand_in rows old step ≡ false → all_stand_in rows new step ≡ false

-- where nothing changes
eased_same : (places : List Place) → AreEased places places
eased_same places =
    record { there = there_same places; off = λ rows step nav is. is; unsettled = λ rows step is. is }

-- over two changes, one after the other
eased_then : (a b c : List Place) → AreEased a b → AreEased b c → AreEased a c
eased_then a b c first second =
    record {
      there = there_then a b c first.there second.there;
      off = λ rows step nav is. second.off rows step nav (first.off rows step nav is);
      unsettled = λ rows step is. second.unsettled rows step (first.unsettled rows step is);
    }

-- who is lost, by its status
lost_is : (places : List Place) (nav : NavId) (place : Place) (status : Status) → place_in places nav ≡ Some place → place.status ≡ status → is_lost_in places nav ≡ is_lost_status status
lost_is places nav place (awake doc) at is = rw at (rw is refl)
lost_is places nav place lost at is = rw at (rw is refl)
lost_is places nav place asleep at is = rw at (rw is refl)

-- the place stands at the step, where it is to
abbrev stands_if_wanted : List Row → List Place → ℕ → Place → Bool
stands_if_wanted rows places step place = if is_wanted rows places step place then holds (is_standing rows step) (place_in places place.nav) else true

module _ (f : Place → Place) (eases : (place : Place) → IsEased place (f place)) (places : List Place) where
  -- the place of a navigable is the changed one
  found : (nav : NavId) → place_in (map f places) nav ≡ option_map f (place_in places nav)
  found nav = found_map f (λ place. (eases place).hangs) places nav

  -- who didn't stand doesn't
  off_map : (rows : List Row) (step : ℕ) (nav : NavId) → holds (is_standing rows step) (place_in places nav) ≡ false → holds (is_standing rows step) (place_in (map f places) nav) ≡ false
  off_map rows step nav is =
      ap (λ (o : Option Place). holds (is_standing rows step) o) (found nav) ∙ by_place (place_in places nav) is
    where
      by_place : (o : Option Place) → holds (is_standing rows step) o ≡ false → holds (is_standing rows step) (option_map f o) ≡ false
      by_place None off = refl
      by_place (Some place) off = (eases place).off rows step off

  -- who wasn't lost isn't
  unlost_map : (nav : NavId) → is_lost_in places nav ≡ false → is_lost_in (map f places) nav ≡ false
  unlost_map nav is = by_place (place_in places nav) refl
    where
      by_place : (o : Option Place) → place_in places nav ≡ o → is_lost_in (map f places) nav ≡ false
      by_place None at =
          let none : place_in (map f places) nav ≡ None = found nav ∙ ap (λ (o : Option Place). option_map f o) at in
          rw none refl
      by_place (Some place) at =
          let then_ : place_in (map f places) nav ≡ Some (f place) = found nav ∙ ap (λ (o : Option Place). option_map f o) at in
          let before : is_lost_status place.status ≡ false = sym (lost_is places nav place place.status at refl) ∙ is in
          lost_is (map f places) nav (f place) (f place).status then_ refl ∙ (eases place).unlost before

  -- nor is any of several
  none_lost : (navs : List NavId) → list_any (is_lost_in places) navs ≡ false → list_any (is_lost_in (map f places)) navs ≡ false
  none_lost [] is = refl
  none_lost (nav ∷ navs) is =
      let parts = or_parts (is_lost_in places nav) (list_any (is_lost_in places) navs) is in
      or_from (is_lost_in (map f places) nav) (list_any (is_lost_in (map f places)) navs) (unlost_map nav parts.0) (none_lost navs parts.1)

  -- who was to stand is to stand
  wanted_map : (rows : List Row) (step : ℕ) (place : Place) → is_wanted rows places step place ≡ true → is_wanted rows (map f places) step (f place) ≡ true
  wanted_map rows step place is =
      let hangs : HangsAlike place (f place) = (eases place).hangs in
      let parts = and_parts (is_shown rows step place.nav) (not (list_any (is_lost_in places) place.above)) is in
      let none : list_any (is_lost_in (map f places)) (f place).above ≡ false = ap (list_any (is_lost_in (map f places))) hangs.above ∙ none_lost place.above (not-true (list_any (is_lost_in places) place.above) parts.1) in
      and_from (is_shown rows step (f place).nav) (not (list_any (is_lost_in (map f places)) (f place).above)) (ap (is_shown rows step) hangs.nav_is ∙ parts.0) (rw none refl)

  -- so one that was to stand and didn't is so still
  off_wanted : (rows : List Row) (step : ℕ) (place : Place) → stands_if_wanted rows places step place ≡ false → stands_if_wanted rows (map f places) step (f place) ≡ false
  off_wanted rows step place is = by_test (is_wanted rows places step place) refl is
    where
      by_test : (b : Bool) → is_wanted rows places step place ≡ b → cond b (holds (is_standing rows step) (place_in places place.nav)) true ≡ false → stands_if_wanted rows (map f places) step (f place) ≡ false
      by_test true wanted off =
          let then_ : holds (is_standing rows step) (place_in (map f places) (f place).nav) ≡ false = ap (λ (nav : NavId). holds (is_standing rows step) (place_in (map f places) nav)) (eases place).hangs.nav_is ∙ off_map rows step place.nav off in
          rw (wanted_map rows step place wanted) then_
      by_test false wanted off = cc

  -- and where one of several was, one is
  some_off : (rows : List Row) (step : ℕ) (xs : List Place) → list_all (stands_if_wanted rows places step) xs ≡ false → list_all (stands_if_wanted rows (map f places) step) (map f xs) ≡ false
  some_off rows step [] is = cc
  some_off rows step (place ∷ xs) is = by_test (stands_if_wanted rows places step place) refl (some_off rows step xs) is
    where
      and_off : (b : Bool) {c : Bool} → c ≡ false → (b && c) ≡ false
      and_off true is = is
      and_off false is = refl

      by_test : (b : Bool) → stands_if_wanted rows places step place ≡ b → (list_all (stands_if_wanted rows places step) xs ≡ false → list_all (stands_if_wanted rows (map f places) step) (map f xs) ≡ false) → (b && list_all (stands_if_wanted rows places step) xs) ≡ false → (stands_if_wanted rows (map f places) step (f place) && list_all (stands_if_wanted rows (map f places) step) (map f xs)) ≡ false
      by_test true own more is = and_off (stands_if_wanted rows (map f places) step (f place)) (more is)
      by_test false own more is = rw (off_wanted rows step place own) refl

  -- all of it
  eased_map : AreEased places (map f places)
  eased_map =
      record {
        there = there_map f (λ place. (eases place).hangs) places;
        off = off_map;
        unsettled = λ rows step is. some_off rows step places is;
      }

-- some fall asleep
slept_all : (navs : List NavId) (why : Why) (places : List Place) → AreEased places (put_to_sleep navs why places)
slept_all navs why places =
    eased_map (λ (place : Place). cond (has_nav navs place.nav) (record place { status = asleep; why = why }) place) (λ place. if_eased (has_nav navs place.nav) place (record place { status = asleep; why = why }) (slept_eased why place)) places

-- an order shows a navigable a document, or puts navigables to sleep, or leaves all places
pub sent_eased : (s : Seen) (job : Job) (task : Task) → AreEased s.places (places_sent s job task)
sent_eased s job (tasks.Activate entry epoch length index memo address) = by_document (document_of s job.doc)
  where
    by_document : (o : Option Document) → AreEased s.places (option_map_or (λ (d : Document). on_place d.nav (activated job entry epoch d) (put_to_sleep (option_map_or (sleepers_below s job.doc) (place_of s d.nav) []) job.why s.places)) o s.places)
    by_document None = eased_same s.places
    by_document (Some d) =
        let slept : List Place = put_to_sleep (option_map_or (sleepers_below s job.doc) (place_of s d.nav) []) job.why s.places in
        eased_then s.places slept _ (slept_all (option_map_or (sleepers_below s job.doc) (place_of s d.nav) []) job.why s.places)
        (eased_map (λ (place : Place). cond (place.nav.0 == d.nav.0) (activated job entry epoch d place) place) (λ place. if_eased (place.nav.0 == d.nav.0) place (activated job entry epoch d place) (shown_eased job entry epoch d place)) slept)
sent_eased s job tasks.Freeze = slept_all (sleepers_with s job.doc) job.why s.places
sent_eased s job tasks.Discard = slept_all (sleepers_with s job.doc) job.why s.places
sent_eased s job (tasks.Populate nav state address initial) = eased_same s.places
sent_eased s job (tasks.Update length index) = eased_same s.places
sent_eased s job (tasks.DoFragment req mode address) = eased_same s.places
sent_eased s job (tasks.Ask slot cause) = eased_same s.places
