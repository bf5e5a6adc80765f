-- Who falls asleep with a document that is frozen or discarded: the navigable that is awake on it, and those below it; and after the order all of these are asleep.
use Rattle.seen_facts.proofs.Coord.Unread.{next}
use Rattle.seen_facts.proofs.Hang.Members.{find_has}
use Rattle.seen_facts.specs.Hang.AsPlaces.{AreDistinct}
use Rattle.seen_facts.specs.Hang.Members.{Has}
use Rattle.seen_facts.specs.Home.Homes.{EachWake, IsHomed}
use Rattle.log_model.specs.AfterPlaces.{places_sent, put_to_sleep, sleepers_with, woken_below}
use Rattle.log_model.specs.Equal.{holds}
use Rattle.log_model.specs.History.{has_nav}
use Rattle.log_model.specs.Places.{is_asleep, is_awake_on, is_below, shower_of}
use Rattle.log_model.specs.Seen.{Document, Place, Seen, Status, asleep, awake, document_of, lost, place_in, place_of}
use Rattle.log_model.specs.declared.job.Job.{Job}
use Rattle.log_model.specs.declared.job.Task.{Task}
use Rattle.log_model.specs.declared.row_kind.Actor.{Actor}
use Rattle.seen_facts.proofs.Mover.Orders.{PutsToSleep}
use Rattle.seen_laws.proofs.Keyed.{find_map}
use Rattle.std.proofs.Common.{Bool, List, None, Option, Some, [], ap, arith, cond, false, inl, inr, not, refl, subst, suc, sym, true, ℕ, ◌&&◌, ◌==◌, ◌||◌, ◌∙◌, ◌∷◌, ◌≡◌, ◌⊎◌}
use Rattle.std.proofs.lemmas.Bool.{and_parts, eqb-true, or_parts}
use Rattle.std.proofs.lemmas.Bool.Decides.{nat_tests}
use Rattle.std.proofs.lemmas.Option.{same_Some}
use Rattle.std.specs.Option.{option_map_or}
use Rattle.std.specs.Prelude.{option_map, slice_get}
use Rattle.tab_ids.specs.declared.DocId.{DocId}
use Rattle.tab_ids.specs.declared.NavId.{NavId}
use Rattle.seen_facts.proofs.Walk.Placed.{each_found, found_nav}
use Rattle.seen_facts.proofs.Walk.Sleepers.{has_nav_where, slept, slept_same}
use Rattle.log_model.specs.declared.job.Task.TheVariants as tasks
use Rattle.log_model.specs.declared.row_kind.RowKind.TheVariants as rows

-- ---- who falls asleep

-- the other navigable is this one, or below it
abbrev pub IsUnder : Seen → NavId → NavId → Type 0
IsUnder s nav other =
    ((other.0 == nav.0) ≡ true) ⊎ ((place : Place) → place_of s other ≡ Some place → is_below nav place ≡ true)

-- each navigable that falls asleep with the document is this one, or below it
abbrev pub SleepUnder : Seen → DocId → NavId → Type 0
SleepUnder s doc nav = (other : NavId) → has_nav (sleepers_with s doc) other ≡ true → IsUnder s nav other

-- equal numbers, the other way round
turned : (a b : NavId) → (a.0 == b.0) ≡ true → (b.0 == a.0) ≡ true
turned a b is = grind (arith, nat_tests, is)

-- so it is where this navigable is awake on the document, if one is
pub each_under : (s : Seen) (doc : DocId) (nav : NavId) → AreDistinct s.places → ((place : Place) → shower_of s doc ≡ Some place → place.nav ≡ nav) → SleepUnder s doc nav
each_under s doc nav distinct own other has = by_shower (shower_of s doc) refl has
  where
    test : Place → Bool
    test place = is_below nav place && not (is_asleep place)

    below : has_nav (woken_below s nav) other ≡ true → IsUnder s nav other
    below in_ =
        inr (λ place there. (and_parts (is_below nav place) (not (is_asleep place)) (sym (has_nav_where test s.places other distinct ∙ ap (holds test) there) ∙ in_)).0)

    by_head : (b : Bool) → (nav.0 == other.0) ≡ b → (b || has_nav (woken_below s nav) other) ≡ true → IsUnder s nav other
    by_head true same in_ = inl (turned nav other same)
    by_head false apart in_ = below in_

    by_shower : (o : Option Place) → shower_of s doc ≡ o → has_nav (option_map_or (λ (place : Place). place.nav ∷ woken_below s place.nav) o []) other ≡ true → IsUnder s nav other
    by_shower None is in_ = absurd cc
    by_shower (Some place) is in_ =
        by_head (nav.0 == other.0) refl (subst (λ (n : NavId). ((n.0 == other.0) || has_nav (woken_below s n) other) ≡ true) (own place is) in_)

-- where it is awake on the document
pub sleepers_under : (s : Seen) (doc : DocId) (nav : NavId) (place : Place) → AreDistinct s.places → shower_of s doc ≡ Some place → place.nav ≡ nav → SleepUnder s doc nav
sleepers_under s doc nav place distinct showed own =
    each_under s doc nav distinct (λ other is. ap (λ (p : Place). p.nav) (same_Some other place (sym is ∙ showed)) ∙ own)

-- nobody does where no navigable is awake on it
pub nobody_awake : (s : Seen) (doc : DocId) → shower_of s doc ≡ None → sleepers_with s doc ≡ []
nobody_awake s doc none =
    ap (λ (o : Option Place). option_map_or (λ (place : Place). place.nav ∷ woken_below s place.nav) o []) none

-- ---- who is awake on a document

-- the status of who is awake on it
status_on : (doc : DocId) (place : Place) → is_awake_on doc place ≡ true → place.status ≡ awake doc
status_on doc place on = by_status place.status refl on
  where
    by_status : (status : Status) → place.status ≡ status → is_awake_on doc (record place { status = status }) ≡ true → place.status ≡ awake doc
    by_status (awake d) is same =
        let number : d.0 ≡ doc.0 = eqb-true d.0 doc.0 same in
        is ∙ ap (λ (n : ℕ). let x : DocId = record { 0 = n } in awake x) number
    by_status lost is never = absurd cc
    by_status asleep is never = absurd cc

-- the navigable that is awake on it has its place, and is so
pub record IsShower (s : Seen) (doc : DocId) (place : Place) : Type 0 where
  pub placed : place_of s place.nav ≡ Some place
  pub wakes : place.status ≡ awake doc

-- what is found is such
pub shower_is : (s : Seen) (doc : DocId) (place : Place) → AreDistinct s.places → shower_of s doc ≡ Some place → IsShower s doc place
shower_is s doc place distinct found =
    let it = find_has (is_awake_on doc) s.places place found in
    let at = index_of s.places it.0 in
    record { placed = each_found s.places distinct at.0 place at.1; wakes = status_on doc place it.1 }
  where
    index_of : (places : List Place) → Has places place → (i : ℕ) × (slice_get places i ≡ Some place)
    index_of [] never = absurd never
    index_of (first ∷ places) (inl same) = (0, ap (λ (p : Place). Some p) same)
    index_of (first ∷ places) (inr more) = let at = index_of places more in (suc at.0, at.1)

-- none is found where none is awake on it
pub no_shower : (s : Seen) (doc : DocId) → AreDistinct s.places → ((nav : NavId) (place : Place) → place_of s nav ≡ Some place → place.status ≡ awake doc → ⊥) → shower_of s doc ≡ None
no_shower s doc distinct never = by_shower (shower_of s doc) refl
  where
    by_shower : (o : Option Place) → shower_of s doc ≡ o → shower_of s doc ≡ None
    by_shower None is = is
    by_shower (Some place) is =
        let it = shower_is s doc place distinct is in absurd (never place.nav place it.placed it.wakes)

-- where the document of each awake navigable is its own, those who fall asleep with one are its navigable and those below
pub home_under : (s : Seen) (doc : DocId) (d : Document) → AreDistinct s.places → EachWake (IsHomed s.documents) s → document_of s doc ≡ Some d → SleepUnder s doc d.nav
home_under s doc d distinct homed found = each_under s doc d.nav distinct own
  where
    own : (place : Place) → shower_of s doc ≡ Some place → place.nav ≡ d.nav
    own place is =
        let it = shower_is s doc place distinct is in
        let home = (homed place.nav place doc it.placed it.wakes).home in
        sym home.nav_is ∙ ap (λ (x : Document). x.nav) (same_Some home.document d (sym home.found ∙ found))

-- ---- after the order

module _ (s : Seen) (event : ℕ) (actor : Actor) (job : Job) where
  -- an order that freezes a document or discards it puts to sleep who is awake on it, and those below
  pub sleep_places : (task : Task) → job.task ≡ task → PutsToSleep task → (next s event actor (rows.Sent job)).places ≡ put_to_sleep (sleepers_with s job.doc) job.why s.places
  sleep_places tasks.Freeze is puts = ap (places_sent s job) is
  sleep_places tasks.Discard is puts = ap (places_sent s job) is
  sleep_places (tasks.Populate nav state address initial) is never = absurd never
  sleep_places (tasks.Activate entry epoch length index memo address) is never = absurd never
  sleep_places (tasks.Update length index) is never = absurd never
  sleep_places (tasks.Ask slot cause) is never = absurd never
  sleep_places (tasks.DoFragment req mode address) is never = absurd never

  -- so each place then is what became of the one before
  pub place_sleeps : (task : Task) → job.task ≡ task → PutsToSleep task → (nav : NavId) → place_of (next s event actor (rows.Sent job)) nav ≡ option_map (slept (sleepers_with s job.doc) job.why) (place_of s nav)
  place_sleeps task is puts nav =
      ap (λ (places : List Place). place_in places nav) (sleep_places task is puts)
      ∙ find_map (λ (place : Place). place.nav.0) (slept (sleepers_with s job.doc) job.why) nav.0 s.places (λ place. ap (λ (n : NavId). n.0) (slept_same (sleepers_with s job.doc) job.why place).0)

  -- the navigable that was awake on it, and all below, are asleep
  pub slept_under : (task : Task) → job.task ≡ task → PutsToSleep task → AreDistinct s.places → (nav : NavId) (shower : Place) → shower_of s job.doc ≡ Some shower → shower.nav ≡ nav → (other : NavId) (place : Place) → IsUnder s nav other → place_of (next s event actor (rows.Sent job)) other ≡ Some place → place.status ≡ asleep
  slept_under task is puts distinct nav shower showed own other place under at =
      by_old (place_of s other) refl
    where
      test : Place → Bool
      test p = is_below nav p && not (is_asleep p)

      -- those who fall asleep are it, and those below who weren't asleep
      among : (n : NavId) → has_nav (sleepers_with s job.doc) n ≡ ((nav.0 == n.0) || holds test (place_of s n))
      among n =
          ap (λ (o : Option Place). has_nav (option_map_or (λ (p : Place). p.nav ∷ woken_below s p.nav) o []) n) showed
          ∙ ap (λ (m : NavId). (m.0 == n.0) || has_nav (woken_below s m) n) own
          ∙ ap (λ (b : Bool). (nav.0 == n.0) || b) (has_nav_where test s.places n distinct)

      neither : has_nav (sleepers_with s job.doc) other ≡ false → ((nav.0 == other.0) ≡ false) × (holds test (place_of s other) ≡ false)
      neither out =
          or_parts (nav.0 == other.0) (holds test (place_of s other)) (sym (among other) ∙ out)

      asleep_is : (p : Place) → is_asleep p ≡ true → p.status ≡ asleep
      asleep_is p sleeps = by_status p.status refl sleeps
        where
          by_status : (status : Status) → p.status ≡ status → is_asleep (record p { status = status }) ≡ true → p.status ≡ asleep
          by_status asleep same sure = same
          by_status lost same never = absurd cc
          by_status (awake d) same never = absurd cc

      -- one below that isn't among them was asleep
      was_asleep : (p : Place) → place_of s other ≡ Some p → has_nav (sleepers_with s job.doc) other ≡ false → is_below nav p ≡ true → p.status ≡ asleep
      was_asleep p there out below = by_test (is_asleep p) refl
        where
          by_test : (b : Bool) → is_asleep p ≡ b → p.status ≡ asleep
          by_test true sure = asleep_is p sure
          by_test false no_ =
              let passes : holds test (place_of s other) ≡ true = ap (holds test) there ∙ rw (below, no_) refl in
              let never : false ≡ true = sym (neither out).1 ∙ passes in
              absurd cc

      by_case : (p : Place) → place_of s other ≡ Some p → has_nav (sleepers_with s job.doc) other ≡ false → IsUnder s nav other → p.status ≡ asleep
      by_case p there out (inl same) =
          let never : false ≡ true = sym (neither out).0 ∙ turned other nav same in
          absurd cc
      by_case p there out (inr below) = was_asleep p there out (below p there)

      by_test : (p : Place) → place_of s other ≡ Some p → p.nav ≡ other → (b : Bool) → has_nav (sleepers_with s job.doc) p.nav ≡ b → (let q : Place = cond b (record p { status = asleep; why = job.why }) p in q) ≡ place → place.status ≡ asleep
      by_test p there its true in_ same = ap (λ (q : Place). q.status) (sym same)
      by_test p there its false out same =
          ap (λ (q : Place). q.status) (sym same) ∙ by_case p there (ap (has_nav (sleepers_with s job.doc)) (sym its) ∙ out) under

      by_old : (o : Option Place) → place_of s other ≡ o → place.status ≡ asleep
      by_old None there =
          let never : None ≡ Some place = sym (place_sleeps task is puts other ∙ ap (option_map (slept (sleepers_with s job.doc) job.why)) there) ∙ at in
          absurd cc
      by_old (Some p) there =
          let both : Some (slept (sleepers_with s job.doc) job.why p) ≡ Some place = sym (place_sleeps task is puts other ∙ ap (option_map (slept (sleepers_with s job.doc) job.why)) there) ∙ at in
          by_test p there (found_nav s.places other p there) (has_nav (sleepers_with s job.doc) p.nav) refl (let same : slept (sleepers_with s job.doc) job.why p ≡ place = cc in same)
