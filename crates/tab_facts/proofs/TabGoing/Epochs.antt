-- No navigable is under a later epoch than orders were sent: over each row.
use Rattle.tab_facts.proofs.Frame.Orders.{found_last}
use Rattle.log_model.specs.AfterPlaces.{activated, given_entry, new_place, on_place, places_added, places_applied, places_given, places_sent, put_to_sleep, sleepers_below, sleepers_with, with_taker}
use Rattle.log_model.specs.History.{History, applied, has_nav, has_row}
use Rattle.log_model.specs.Places.{holder_of}
use Rattle.log_model.specs.Seen.{Asked, Document, Place, Seen, asleep, document_of, place_in, place_of, request_of}
use Rattle.log_model.specs.declared.change.Change.{Change}
use Rattle.log_model.specs.declared.job.Job.{Job}
use Rattle.log_model.specs.declared.job.Task.{Task}
use Rattle.log_model.specs.declared.job.Why.{Why}
use Rattle.log_model.specs.declared.made.Made.{Made}
use Rattle.seen_laws.proofs.Keyed.{find_map}
use Rattle.std.proofs.Common.{Bool, List, None, Option, Some, [], ap, arith, cond, inl, inr, map, not, refl, subst, sym, true, false, ℕ, ◌&&◌, ◌++◌, ◌==◌, ◌∙◌, ◌∷◌, ◌≡◌, ◌≤◌, ◌⊎◌}
use Rattle.std.specs.Option.{option_map_or}
use Rattle.std.specs.Prelude.{option_and_then, option_map}
use Rattle.tab_facts.proofs.TabGoing.Counts.{some_same}
use Rattle.tab_ids.specs.declared.EntryId.{EntryId}
use Rattle.tab_ids.specs.declared.NavId.{NavId}
use Rattle.tab_ids.specs.declared.ReqId.{ReqId}
use Rattle.tab_ids.specs.declared.StateId.{StateId}
use Rattle.log_model.specs.declared.change.Change.TheVariants as changes
use Rattle.log_model.specs.declared.job.Task.TheVariants as tasks

-- each of the places is under an epoch up to this one
abbrev pub AreUpTo : ℕ → List Place → Type 0
AreUpTo most places = (nav : NavId) (place : Place) → place_in places nav ≡ Some place → place.epoch.0 ≤ most

pub later_up : (few most : ℕ) (places : List Place) → few ≤ most → AreUpTo few places → AreUpTo most places
later_up few most places up are nav place at = (let low : place.epoch.0 ≤ few = are nav place at in omega (arith, low, up))

-- each changes, but not in number, and stays so
up_map : (most : ℕ) (f : Place → Place) (places : List Place) → ((p : Place) → (f p).nav ≡ p.nav) → ((p : Place) → p.epoch.0 ≤ most → (f p).epoch.0 ≤ most) → AreUpTo most places → AreUpTo most (map f places)
up_map most f places navs stays are nav place at =
    by_found (place_in places nav) refl (sym (find_map (λ (p : Place). p.nav.0) f nav.0 places (λ p. ap (λ (n : NavId). n.0) (navs p))) ∙ at)
  where
    by_found : (o : Option Place) → place_in places nav ≡ o → option_map f o ≡ Some place → place.epoch.0 ≤ most
    by_found None e is = absurd cc
    by_found (Some p) e is = subst (λ (x : Place). x.epoch.0 ≤ most) (some_same is) (stays p (are nav p e))

-- those that pass a test do
up_if : (most : ℕ) (test : Place → Bool) (f : Place → Place) (places : List Place) → ((p : Place) → (f p).nav ≡ p.nav) → ((p : Place) → p.epoch.0 ≤ most → (f p).epoch.0 ≤ most) → AreUpTo most places → AreUpTo most (map (λ (p : Place). cond (test p) (f p) p) places)
up_if most test f places navs stays =
    up_map most (λ (p : Place). cond (test p) (f p) p) places (λ p. by_nav p (test p)) (λ p low. by_epoch p low (test p))
  where
    by_nav : (p : Place) (b : Bool) → (let x : Place = cond b (f p) p in x).nav ≡ p.nav
    by_nav p true = navs p
    by_nav p false = refl

    by_epoch : (p : Place) → p.epoch.0 ≤ most → (b : Bool) → (let x : Place = cond b (f p) p in x).epoch.0 ≤ most
    by_epoch p low true = stays p low
    by_epoch p low false = low

up_or : {A : Type 0} (most : ℕ) (f : A → List Place) (o : Option A) (places : List Place) → AreUpTo most places → ((x : A) → AreUpTo most (f x)) → AreUpTo most (option_map_or f o places)
up_or most f None places are each = are
up_or most f (Some x) places are each = each x

-- one more, that was shown nothing
up_more : (most : ℕ) (places : List Place) (new : Place) → new.epoch.0 ≡ 0 → AreUpTo most places → AreUpTo most (places ++ new ∷ [])
up_more most places new zero_ are nav place at = by_found (found_last (λ (p : Place). p.nav.0 == nav.0) places new place at)
  where
    by_found : (place_in places nav ≡ Some place) ⊎ (new ≡ place) → place.epoch.0 ≤ most
    by_found (inl old) = are nav place old
    by_found (inr is) = (let none : place.epoch.0 ≡ 0 = ap (λ (p : Place). p.epoch.0) (sym is) ∙ zero_ in omega (arith, none))

slept_up : (most : ℕ) (navs : List NavId) (why : Why) (places : List Place) → AreUpTo most places → AreUpTo most (put_to_sleep navs why places)
slept_up most navs why places = up_if most (λ (p : Place). has_nav navs p.nav) (λ (p : Place). record p { status = asleep; why = why }) places (λ p. refl) (λ p low. low)

-- ---- an order

-- the epoch of one that shows a document is the next after those
abbrev pub EpochFits : ℕ → Task → Type 0
EpochFits most (tasks.Activate entry epoch length index memo address) = epoch.0 ≤ most
EpochFits most _ = Unit {0}

pub sent_up : (most : ℕ) (s : Seen) (job : Job) (task : Task) → EpochFits most task → AreUpTo most s.places → AreUpTo most (places_sent s job task)
sent_up most s job (tasks.Activate entry epoch length index memo address) fits are =
    up_or most (λ (d : Document). on_place d.nav (activated job entry epoch d) (put_to_sleep (option_map_or (sleepers_below s job.doc) (place_of s d.nav) []) job.why s.places)) (document_of s job.doc) s.places are
    (λ d. up_if most (λ (p : Place). p.nav.0 == d.nav.0) (activated job entry epoch d) (put_to_sleep (option_map_or (sleepers_below s job.doc) (place_of s d.nav) []) job.why s.places) (λ p. refl) (λ p low. fits) (slept_up most (option_map_or (sleepers_below s job.doc) (place_of s d.nav) []) job.why s.places are))
sent_up most s job tasks.Freeze fits are = slept_up most (sleepers_with s job.doc) job.why s.places are
sent_up most s job tasks.Discard fits are = slept_up most (sleepers_with s job.doc) job.why s.places are
sent_up most s job (tasks.Update length index) fits are = are
sent_up most s job (tasks.Populate nav state address initial) fits are = are
sent_up most s job (tasks.Ask slot cause) fits are = are
sent_up most s job (tasks.DoFragment req mode address) fits are = are

-- ---- a change

given_up : (most : ℕ) (s : Seen) (req : ReqId) (nav : NavId) (entry : EntryId) → AreUpTo most s.places → AreUpTo most (places_given s req nav entry)
given_up most s req nav entry are =
    up_or most (λ (made : Made). on_place nav (given_entry entry) s.places) (option_and_then (λ (q : Asked). q.made) (request_of s req)) s.places are
    (λ made. up_if most (λ (p : Place). p.nav.0 == nav.0) (given_entry entry) s.places (λ p. refl) (λ p low. low) are)

added_up : (most : ℕ) (s : Seen) (req : ReqId) (owner : StateId) (nav : NavId) → AreUpTo most s.places → AreUpTo most (places_added s req owner nav)
added_up most s req owner nav are =
    up_or most (λ (parent : Place). s.places ++ new_place req nav owner parent ∷ []) (option_and_then (place_of s) (holder_of owner s.history.rows)) s.places are
    (λ parent. up_more most s.places (new_place req nav owner parent) refl are)

taken_up : (most : ℕ) (s : Seen) (new : History) (req : ReqId) (places : List Place) → AreUpTo most places → AreUpTo most (with_taker s.history new req places)
taken_up most s new req places =
    up_if most (λ (p : Place). has_row p.nav s.history.rows && not (has_row p.nav new.rows)) (λ (p : Place). record p { taken_by = Some req }) places (λ p. refl) (λ p low. low)

-- the change is none of a reload
abbrev pub IsNoReload : Change → Type 0
IsNoReload (changes.Reload nav) = ⊥
IsNoReload _ = Unit {0}

pub applied_up : (most : ℕ) (s : Seen) (req : ReqId) (change : Change) → IsNoReload change → AreUpTo most s.places → AreUpTo most (places_applied s req change)
applied_up most s req (changes.Push nav entry state address memo) is are = taken_up most s (applied s.history (changes.Push nav entry state address memo)) req (places_given s req nav entry) (given_up most s req nav entry are)
applied_up most s req (changes.Replace nav over entry state address memo) is are = taken_up most s (applied s.history (changes.Replace nav over entry state address memo)) req (places_given s req nav entry) (given_up most s req nav entry are)
applied_up most s req (changes.AddFrame owner nav entry state) is are = taken_up most s (applied s.history (changes.AddFrame owner nav entry state)) req (places_added s req owner nav) (added_up most s req owner nav are)
applied_up most s req (changes.RemoveFrame nav) is are = taken_up most s (applied s.history (changes.RemoveFrame nav)) req s.places are
applied_up most s req (changes.Traverse goal) is are = taken_up most s (applied s.history (changes.Traverse goal)) req s.places are
applied_up most s req changes.Edit is are = taken_up most s (applied s.history changes.Edit) req s.places are
applied_up most s req (changes.Reload nav) is are = absurd is
