-- Who falls asleep as a navigable is shown a document, and what becomes of each place.
use Rattle.std.proofs.Common.{◌≡◌, ℕ, Bool, true, false, cond, not, ◌&&◌, ◌==◌, List, [], ◌∷◌, map, Option, Some, None, refl, sym, ap, ◌∙◌, subst}
use Rattle.std.specs.Prelude.{filter, option_map}
use Rattle.std.specs.Option.{option_map_or}
use Rattle.tab_ids.specs.declared.DocId.{DocId}
use Rattle.tab_ids.specs.declared.EntryId.{EntryId}
use Rattle.tab_ids.specs.declared.Epoch.{Epoch}
use Rattle.tab_ids.specs.declared.NavId.{NavId}
use Rattle.log_model.specs.declared.job.Job.{Job}
use Rattle.log_model.specs.declared.job.Why.{Why}
use Rattle.log_model.specs.declared.job.Task.TheVariants as tasks
use Rattle.log_model.specs.declared.row_kind.Actor.{Actor}
use Rattle.log_model.specs.declared.row_kind.RowKind.TheVariants as rows
use Rattle.log_model.specs.After.{after}
use Rattle.log_model.specs.AfterPlaces.{navs_where, woken_below, sleepers_below, on_place, put_to_sleep, activated}
use Rattle.log_model.specs.Equal.{holds}
use Rattle.log_model.specs.History.{has_nav}
use Rattle.log_model.specs.Places.{is_asleep, is_below}
use Rattle.log_model.specs.Seen.{Seen, Document, Place, asleep, place_in, place_of, document_of}
use Rattle.seen_laws.proofs.Keyed.{find_map}
use Rattle.seen_facts.specs.Hang.AsPlaces.{AreDistinct}
use Rattle.seen_facts.proofs.Hang.Forms.{nav_is}
use Rattle.seen_facts.proofs.Walk.Placed.{found_nav}

-- a number is among those of the places that pass exactly where its place passes
pub has_nav_where : (test : Place → Bool) (places : List Place) (nav : NavId) → AreDistinct places → has_nav (navs_where test places) nav ≡ holds test (place_in places nav)
has_nav_where test [] nav distinct = refl
has_nav_where test (place ∷ places) nav distinct = by_tests (place.nav.0 == nav.0) (test place) refl refl (has_nav_where test places nav distinct.1)
  where
    by_tests : (b c : Bool) → (place.nav.0 == nav.0) ≡ b → test place ≡ c → has_nav (navs_where test places) nav ≡ holds test (place_in places nav) → has_nav (map (λ (p : Place). p.nav) (cond c (place ∷ filter test places) (filter test places))) nav ≡ holds test (cond b (Some place) (place_in places nav))
    by_tests true true e t more = rw (e, t) refl
    by_tests true false e t more =
        let none : place_in places nav ≡ None = subst (λ (m : NavId). place_in places m ≡ None) (nav_is place.nav nav e) distinct.0 in
        let more_ : has_nav (navs_where test places) nav ≡ false = more ∙ ap (λ (o : Option Place). holds test o) none in
        rw t more_
    by_tests false true e t more = rw e more
    by_tests false false e t more = more

-- those who fall asleep
abbrev pub sleepers_of : Seen → DocId → NavId → List NavId
sleepers_of s doc nav = option_map_or (sleepers_below s doc) (place_of s nav) []

abbrev pub slept : List NavId → Why → Place → Place
slept navs why place = cond (has_nav navs place.nav) (record place { status = asleep; why = why }) place

abbrev pub shown_on : NavId → Job → EntryId → Epoch → Document → Place → Place
shown_on nav job entry epoch d place = cond (place.nav.0 == nav.0) (activated job entry epoch d place) place

pub slept_same : (navs : List NavId) (why : Why) (place : Place) → ((slept navs why place).nav ≡ place.nav) × ((slept navs why place).above ≡ place.above)
slept_same navs why place = by_test (has_nav navs place.nav)
  where
    by_test : (b : Bool) → ((let p : Place = cond b (record place { status = asleep; why = why }) place in p).nav ≡ place.nav) × ((let p : Place = cond b (record place { status = asleep; why = why }) place in p).above ≡ place.above)
    by_test true = (refl, refl)
    by_test false = (refl, refl)

pub shown_same : (nav : NavId) (job : Job) (entry : EntryId) (epoch : Epoch) (d : Document) (place : Place) → ((shown_on nav job entry epoch d place).nav ≡ place.nav) × ((shown_on nav job entry epoch d place).above ≡ place.above)
shown_same nav job entry epoch d place = by_test (place.nav.0 == nav.0)
  where
    by_test : (b : Bool) → ((let p : Place = cond b (activated job entry epoch d place) place in p).nav ≡ place.nav) × ((let p : Place = cond b (activated job entry epoch d place) place in p).above ≡ place.above)
    by_test true = (refl, refl)
    by_test false = (refl, refl)

module _ (s : Seen) (event : ℕ) (actor : Actor) (job : Job) (d : Document) (entry : EntryId) (epoch : Epoch) (long at : ℕ) (memo : Option (List ℕ)) (address : List ℕ) (task : job.task ≡ tasks.Activate entry epoch long at memo address) (found : document_of s job.doc ≡ Some d) where
  abbrev pub after_show : Seen
  after_show = after s (record { event = event; actor = actor; row = rows.Sent job })

  -- what becomes of a place
  abbrev pub becomes : Place → Place
  becomes p = shown_on d.nav job entry epoch d (slept (sleepers_of s job.doc d.nav) job.why p)

  places_are : after_show.places ≡ on_place d.nav (activated job entry epoch d) (put_to_sleep (sleepers_of s job.doc d.nav) job.why s.places)
  places_are = rw task (rw found refl)

  pub place_becomes : (nav : NavId) → place_of after_show nav ≡ option_map becomes (place_of s nav)
  place_becomes nav =
      ap (λ (l : List Place). place_in l nav) places_are
      ∙ find_map (λ (p : Place). p.nav.0) (shown_on d.nav job entry epoch d) nav.0 (put_to_sleep (sleepers_of s job.doc d.nav) job.why s.places) (λ p. ap (λ (n : NavId). n.0) (shown_same d.nav job entry epoch d p).0)
      ∙ ap (λ (o : Option Place). option_map (shown_on d.nav job entry epoch d) o) (find_map (λ (p : Place). p.nav.0) (slept (sleepers_of s job.doc d.nav) job.why) nav.0 s.places (λ p. ap (λ (n : NavId). n.0) (slept_same (sleepers_of s job.doc d.nav) job.why p).0))
      ∙ once (place_of s nav)
    where
      once : (o : Option Place) → option_map (shown_on d.nav job entry epoch d) (option_map (slept (sleepers_of s job.doc d.nav) job.why) o) ≡ option_map becomes o
      once None = refl
      once (Some p) = refl

  -- who isn't below the navigable doesn't fall asleep
  pub wakes_on : (place other : Place) → AreDistinct s.places → place_of s d.nav ≡ Some place → place_of s other.nav ≡ Some other → is_below d.nav other ≡ false → has_nav (sleepers_of s job.doc d.nav) other.nav ≡ false
  wakes_on place other distinct there here apart =
      let woken : has_nav (woken_below s d.nav) other.nav ≡ false = has_nav_where (λ (p : Place). is_below d.nav p && not (is_asleep p)) s.places other.nav distinct ∙ rw here (rw apart refl) in
      rw there (by_last (holds (λ (last : DocId). last.0 == job.doc.0) place.last) (subst (λ (m : NavId). has_nav (woken_below s m) other.nav ≡ false) (sym (found_nav s.places d.nav place there)) woken))
    where
      by_last : (b : Bool) → has_nav (woken_below s place.nav) other.nav ≡ false → has_nav (cond b [] (woken_below s place.nav)) other.nav ≡ false
      by_last true woken = refl
      by_last false woken = woken
