-- Who is awake after a row was so before it: after an order its place is as it was, or the order shows it its document; after a row of a turn its place is the same but in what it was given and in who took its last entries.
use Rattle.tab_releases.proofs.PassedOn.{over_with}
use Rattle.tab_facts.proofs.Calm.Awakes.{stand_each}
use Rattle.tab_facts.specs.Calm.Calm.{IsCalm, IsHere, ShowsOne}
use Rattle.seen_facts.proofs.Coord.Unread.{next}
use Rattle.log_model.specs.After.{after}
use Rattle.log_model.specs.AfterPlaces.{activated, given_entry, new_place, on_place, places_applied, places_given, places_sent, sleepers_with, with_taker}
use Rattle.log_model.specs.History.{History, applied, has_nav, has_row}
use Rattle.log_model.specs.Places.{all_stand, has_arrived, holder_of, is_given_target, is_shown, is_standing}
use Rattle.log_model.specs.Seen.{Asked, Document, Place, Seen, asleep, awake, document_of, place_in, place_of, request_of}
use Rattle.log_model.specs.declared.change.Change.{Change}
use Rattle.log_model.specs.declared.job.Job.{Job}
use Rattle.log_model.specs.declared.job.Task.{Task}
use Rattle.log_model.specs.declared.made.Made.{Made}
use Rattle.log_model.specs.declared.row_kind.Actor.{Actor}
use Rattle.log_model.specs.declared.row_kind.RowKind.{RowKind}
use Rattle.seen_facts.proofs.Mover.Orders.{PutsToSleep}
use Rattle.seen_facts.proofs.Mover.Places.{WasThere, was_there}
use Rattle.seen_facts.specs.Place.Standing.{AreStanding}
use Rattle.seen_laws.specs.InEvent.{InEvent, now_of, row_of, EachGoes}
use Rattle.std.proofs.Common.{Bool, List, None, Option, Some, [], ap, cond, false, inl, inr, map, not, refl, subst, sym, true, ℕ, ◌&&◌, ◌++◌, ◌==◌, ◌∙◌, ◌∷◌, ◌≡◌, ◌⊎◌}
use Rattle.std.proofs.lemmas.Bool.{and_parts}
use Rattle.std.specs.Option.{option_map_or}
use Rattle.std.specs.Prelude.{option_and_then, option_map}
use Rattle.tab_ids.specs.declared.DocId.{DocId}
use Rattle.tab_ids.specs.declared.EntryId.{EntryId}
use Rattle.tab_ids.specs.declared.Epoch.{Epoch}
use Rattle.tab_ids.specs.declared.NavId.{NavId}
use Rattle.tab_ids.specs.declared.ReqId.{ReqId}
use Rattle.tab_releases.specs.PassedOn.{HasOnly, IsOfTurn}
use Rattle.seen_facts.proofs.Walk.Placed.{found_nav}
use Rattle.seen_facts.proofs.Walk.Sleepers.{becomes, place_becomes, sleepers_of, slept}
use Rattle.row_facts.proofs.WalkRows.Sleeping.{place_sleeps}
use Rattle.log_model.specs.declared.change.Change.TheVariants as changes
use Rattle.log_model.specs.declared.job.Task.TheVariants as tasks
use Rattle.log_model.specs.declared.row_kind.RowKind.TheVariants as rows

-- ---- an order

module _ (s : Seen) (event : ℕ) (actor : Actor) (job : Job) where
  abbrev t : Seen
  t = next s event actor (rows.Sent job)

  -- the place is as it was, or the order shows the navigable its document
  abbrev IsSameOrShown : NavId → Place → Type 0
  IsSameOrShown nav place = (place_of s nav ≡ Some place) ⊎ (ShowsOne job.task × (place.why ≡ job.why))

  slept_not : (navs : List NavId) (nav : NavId) (old place : Place) (doc : DocId) → place_of s nav ≡ Some old → slept navs job.why old ≡ place → place.status ≡ awake doc → place_of s nav ≡ Some place
  slept_not navs nav old place doc at is wakes = by_test (has_nav navs old.nav) is
    where
      by_test : (b : Bool) → (let p : Place = cond b (record old { status = asleep; why = job.why }) old in p) ≡ place → place_of s nav ≡ Some place
      by_test true same =
          absurd (let never : asleep ≡ awake doc = ap (λ (p : Place). p.status) same ∙ wakes in cc)
      by_test false same = at ∙ ap (λ (p : Place). let o : Option Place = Some p in o) same

  sleeps : (task : Task) → job.task ≡ task → PutsToSleep task → (nav : NavId) (place : Place) (doc : DocId) → place_of t nav ≡ Some place → place.status ≡ awake doc → place_of s nav ≡ Some place
  sleeps task is puts nav place doc now wakes = by_old (place_of s nav) refl
    where
      by_old : (o : Option Place) → place_of s nav ≡ o → place_of s nav ≡ Some place
      by_old None was =
          let never : None ≡ Some place = sym (place_sleeps s event actor job task is puts nav ∙ ap (option_map (slept (sleepers_with s job.doc) job.why)) was) ∙ now in absurd cc
      by_old (Some old) was =
          let both : Some (slept (sleepers_with s job.doc) job.why old) ≡ Some place = sym (place_sleeps s event actor job task is puts nav ∙ ap (option_map (slept (sleepers_with s job.doc) job.why)) was) ∙ now in
          let one : slept (sleepers_with s job.doc) job.why old ≡ place = cc in
          slept_not (sleepers_with s job.doc) nav old place doc was one wakes

  shows : (d : Document) (entry : EntryId) (epoch : Epoch) (long at : ℕ) (memo : Option (List ℕ)) (address : List ℕ) (task : job.task ≡ tasks.Activate entry epoch long at memo address) → (there : document_of s job.doc ≡ Some d) → (nav : NavId) (place : Place) (doc : DocId) → place_of t nav ≡ Some place → place.status ≡ awake doc → IsSameOrShown nav place
  shows d entry epoch long at memo address task there nav place doc now wakes = by_old (place_of s nav) refl
    where
      become : Place → Place
      become = becomes s event actor job d entry epoch long at memo address task there

      navs : List NavId
      navs = sleepers_of s job.doc d.nav

      by_test : (old : Place) → place_of s nav ≡ Some old → (b : Bool) → (let p : Place = cond b (activated job entry epoch d (slept (sleepers_of s job.doc d.nav) job.why old)) (slept (sleepers_of s job.doc d.nav) job.why old) in p) ≡ place → IsSameOrShown nav place
      by_test old was true same =
          inr (subst (λ (k : Task). ShowsOne k) (sym task) tt, ap (λ (p : Place). p.why) (sym same))
      by_test old was false same = inl (slept_not navs nav old place doc was same wakes)

      by_old : (o : Option Place) → place_of s nav ≡ o → IsSameOrShown nav place
      by_old None was =
          let never : None ≡ Some place = sym (place_becomes s event actor job d entry epoch long at memo address task there nav ∙ ap (option_map become) was) ∙ now in absurd cc
      by_old (Some old) was =
          let both : Some (become old) ≡ Some place = sym (place_becomes s event actor job d entry epoch long at memo address task there nav ∙ ap (option_map become) was) ∙ now in
          by_test old was ((slept (sleepers_of s job.doc d.nav) job.why old).nav.0 == d.nav.0) (let one : become old ≡ place = cc in one)

  pub sent_place : (nav : NavId) (place : Place) (doc : DocId) → place_of t nav ≡ Some place → place.status ≡ awake doc → IsSameOrShown nav place
  sent_place nav place doc now wakes = by_task job.task refl
    where
      unmoved : (task : Task) → job.task ≡ task → places_sent s job task ≡ s.places → IsSameOrShown nav place
      unmoved task is same =
          inl (ap (λ (l : List Place). place_in l nav) (sym (ap (λ (k : Task). places_sent s job k) is ∙ same)) ∙ now)

      by_task : (task : Task) → job.task ≡ task → IsSameOrShown nav place
      by_task (tasks.Activate entry epoch long at memo address) is = by_document (document_of s job.doc) refl
        where
          by_document : (o : Option Document) → document_of s job.doc ≡ o → IsSameOrShown nav place
          by_document None none = unmoved (tasks.Activate entry epoch long at memo address) is (rw none refl)
          by_document (Some d) there = shows d entry epoch long at memo address is there nav place doc now wakes
      by_task tasks.Freeze is = inl (sleeps tasks.Freeze is tt nav place doc now wakes)
      by_task tasks.Discard is = inl (sleeps tasks.Discard is tt nav place doc now wakes)
      by_task (tasks.Ask slot cause) is = unmoved (tasks.Ask slot cause) is refl
      by_task (tasks.Populate n state address initial) is = unmoved (tasks.Populate n state address initial) is refl
      by_task (tasks.Update long at) is = unmoved (tasks.Update long at) is refl
      by_task (tasks.DoFragment req mode address) is = unmoved (tasks.DoFragment req mode address) is refl

-- ---- a row of a turn

-- the place is the same but in what it was given and in who took its last entries
pub record IsSameBut (old new : Place) : Type 0 where
  pub nav : new.nav ≡ old.nav
  pub above : new.above ≡ old.above
  pub status : new.status ≡ old.status
  pub epoch : new.epoch ≡ old.epoch
  pub why : new.why ≡ old.why
  pub told : new.is_delivered ≡ old.is_delivered

-- so the navigable's was before
pub record WasBefore (places : List Place) (nav : NavId) (place : Place) : Type 0 where
  pub old : Place
  pub at : place_in places nav ≡ Some old
  pub same : IsSameBut old place

same_itself : (place : Place) → IsSameBut place place
same_itself place = record { nav = refl; above = refl; status = refl; epoch = refl; why = refl; told = refl }

same_if : (b : Bool) (old new : Place) → IsSameBut old new → IsSameBut old (let p : Place = cond b new old in p)
same_if true old new same = same
same_if false old new same = same_itself old

pub before_itself : (places : List Place) (nav : NavId) (place : Place) → place_in places nav ≡ Some place → WasBefore places nav place
before_itself places nav place at = record { old = place; at = at; same = same_itself place }

pub before_then : (places mid : List Place) (nav : NavId) (place : Place) (later : WasBefore mid nav place) → WasBefore places nav later.old → WasBefore places nav place
before_then places mid nav place later first =
    record {
      old = first.old;
      at = first.at;
      same = record {
        nav = later.same.nav ∙ first.same.nav;
        above = later.same.above ∙ first.same.above;
        status = later.same.status ∙ first.same.status;
        epoch = later.same.epoch ∙ first.same.epoch;
        why = later.same.why ∙ first.same.why;
        told = later.same.told ∙ first.same.told;
      };
    }

mapped_before : (f : Place → Place) → ((p : Place) → IsSameBut p (f p)) → (places : List Place) (nav : NavId) (place : Place) → place_in (map f places) nav ≡ Some place → WasBefore places nav place
mapped_before f same places nav place now =
    let w : WasThere f places nav place = was_there f places (λ p. (same p).nav) nav place now in
    record { old = w.before; at = w.found; same = subst (λ (p : Place). IsSameBut w.before p) w.is (same w.before) }

-- one that joins at the end is asleep
more_before : (places : List Place) (new : Place) (nav : NavId) (place : Place) (doc : DocId) → new.status ≡ asleep → place_in (places ++ new ∷ []) nav ≡ Some place → place.status ≡ awake doc → place_in places nav ≡ Some place
more_before [] new nav place doc sleeps now wakes = by_test (new.nav.0 == nav.0) now
  where
    by_test : (b : Bool) → (let o : Option Place = cond b (Some new) None in o) ≡ Some place → place_in [] nav ≡ Some place
    by_test true same =
        absurd (let one : new ≡ place = cc in let never : asleep ≡ awake doc = sym sleeps ∙ ap (λ (p : Place). p.status) one ∙ wakes in cc)
    by_test false same = absurd cc
more_before (p ∷ places) new nav place doc sleeps now wakes =
    by_test (p.nav.0 == nav.0) now (λ later. more_before places new nav place doc sleeps later wakes)
  where
    by_test : (b : Bool) → (let o : Option Place = cond b (Some p) (place_in (places ++ new ∷ []) nav) in o) ≡ Some place → (place_in (places ++ new ∷ []) nav ≡ Some place → place_in places nav ≡ Some place) → (let o : Option Place = cond b (Some p) (place_in places nav) in o) ≡ Some place
    by_test true same later = same
    by_test false same later = later same

taken_before : (old new : History) (req : ReqId) (places : List Place) (nav : NavId) (place : Place) → place_in (with_taker old new req places) nav ≡ Some place → WasBefore places nav place
taken_before old new req places nav place now =
    mapped_before (λ (p : Place). cond (has_row p.nav old.rows && not (has_row p.nav new.rows)) (record p { taken_by = Some req }) p)
    (λ p. same_if (has_row p.nav old.rows && not (has_row p.nav new.rows)) p (record p { taken_by = Some req }) (record { nav = refl; above = refl; status = refl; epoch = refl; why = refl; told = refl })) places nav place now

on_before : (at : NavId) (f : Place → Place) → ((p : Place) → IsSameBut p (f p)) → (places : List Place) (nav : NavId) (place : Place) → place_in (on_place at f places) nav ≡ Some place → WasBefore places nav place
on_before at f same places nav place now =
    mapped_before (λ (p : Place). cond (p.nav.0 == at.0) (f p) p) (λ p. same_if (p.nav.0 == at.0) p (f p) (same p)) places nav place now

module _ (s : Seen) (req : ReqId) (nav : NavId) (place : Place) (doc : DocId) where
  given_before : (at : NavId) (entry : EntryId) → place_in (places_given s req at entry) nav ≡ Some place → WasBefore s.places nav place
  given_before at entry = by_made (option_and_then (λ (q : Asked). q.made) (request_of s req))
    where
      by_made : (o : Option Made) → place_in (option_map_or (λ (made : Made). on_place at (given_entry entry) s.places) o s.places) nav ≡ Some place → WasBefore s.places nav place
      by_made None now = before_itself s.places nav place now
      by_made (Some made) now =
          on_before at (given_entry entry) (λ p. record { nav = refl; above = refl; status = refl; epoch = refl; why = refl; told = refl }) s.places nav place now

module _ (s : Seen) (req : ReqId) (nav : NavId) (place : Place) (doc : DocId) (wakes : place.status ≡ awake doc) where
  abbrev Before : List Place → Type 0
  Before places = WasBefore places nav place

  -- who took the last entries is noted last
  taken : (change : Change) (mid : List Place) → place_in (with_taker s.history (applied s.history change) req mid) nav ≡ Some place → ((p : Place) → place_in mid nav ≡ Some p → p.status ≡ awake doc → WasBefore s.places nav p) → WasBefore s.places nav place
  taken change mid now first =
      let w : WasBefore mid nav place = taken_before s.history (applied s.history change) req mid nav place now in
      before_then s.places mid nav place w (first w.old w.at (sym w.same.status ∙ wakes))

  pub applied_before : (change : Change) → place_in (places_applied s req change) nav ≡ Some place → WasBefore s.places nav place
  applied_before (changes.Push at entry state address memo) now =
      taken (changes.Push at entry state address memo) (places_given s req at entry) now (λ p there up. given_before s req nav p doc at entry there)
  applied_before (changes.Replace at over entry state address memo) now =
      taken (changes.Replace at over entry state address memo) (places_given s req at entry) now (λ p there up. given_before s req nav p doc at entry there)
  applied_before (changes.AddFrame owner at entry state) now =
      taken (changes.AddFrame owner at entry state) (joined parent) now (λ p there up. by_parent p up parent there)
    where
      parent : Option Place
      parent = option_and_then (place_of s) (holder_of owner s.history.rows)

      joined : Option Place → List Place
      joined o = option_map_or (λ (up : Place). s.places ++ new_place req at owner up ∷ []) o s.places

      by_parent : (p : Place) → p.status ≡ awake doc → (o : Option Place) → place_in (joined o) nav ≡ Some p → WasBefore s.places nav p
      by_parent p up None there = before_itself s.places nav p there
      by_parent p up (Some over) there =
          before_itself s.places nav p (more_before s.places (new_place req at owner over) nav p doc refl there up)
  applied_before (changes.RemoveFrame at) now =
      taken (changes.RemoveFrame at) s.places now (λ p there up. before_itself s.places nav p there)
  applied_before (changes.Traverse goal) now =
      taken (changes.Traverse goal) s.places now (λ p there up. before_itself s.places nav p there)
  applied_before (changes.Reload at) now =
      taken (changes.Reload at) (on_place at (λ (p : Place). record p { is_pending = true; is_unmet = true }) s.places) now
      (λ p there up. on_before at (λ (x : Place). record x { is_pending = true; is_unmet = true }) (λ x. record { nav = refl; above = refl; status = refl; epoch = refl; why = refl; told = refl }) s.places nav p there)
  applied_before changes.Edit now =
      taken changes.Edit s.places now (λ p there up. before_itself s.places nav p there)

-- after a row of a turn
pub turn_before : (s : Seen) (event : ℕ) (actor : Actor) (kind : RowKind) → IsOfTurn kind → (nav : NavId) (place : Place) (doc : DocId) → place.status ≡ awake doc → place_of (next s event actor kind) nav ≡ Some place → WasBefore s.places nav place
turn_before s event actor (rows.Started req goal) is nav place doc wakes now = before_itself s.places nav place now
turn_before s event actor (rows.Applied req change) is nav place doc wakes now = applied_before s req nav place doc wakes change now
turn_before s event actor (rows.Refused req reason) is nav place doc wakes now = before_itself s.places nav place now
turn_before s event actor (rows.Dropped req cause) is nav place doc wakes now = before_itself s.places nav place now
turn_before s event actor _ never nav place doc wakes now = absurd never

-- ---- of each that is awake it is told that it is shown

abbrev pub AllTold : Seen → Type 0
AllTold s = (nav : NavId) (place : Place) (doc : DocId) → place_of s nav ≡ Some place → place.status ≡ awake doc → place.is_delivered ≡ true

-- so it is still over rows of a turn
pub turns_told : (e : InEvent) (was out : List RowKind) → EachGoes e [] out → HasOnly IsOfTurn was out → AllTold (now_of e was) → AllTold (now_of e out)
turns_told = λ e. over_with IsOfTurn AllTold e (one e)
  where
    one : (e : InEvent) (x : Seen) (kind : RowKind) → IsOfTurn kind → AllTold x → AllTold (after x (row_of e kind))
    one e x kind is told nav place doc now wakes =
        let w : WasBefore x.places nav place = turn_before x e.event e.actor kind is nav place doc wakes now in
        w.same.told ∙ told nav w.old doc w.at (sym w.same.status ∙ wakes)

-- and where all stand in a calm tab
pub stood_told : (s : Seen) → AreStanding s → IsCalm s → all_stand s s.history.current ≡ true → AllTold s
stood_told s standing calm all nav place doc now wakes = by_case (calm.here nav place doc now wakes)
  where
    by_case : ⊥ ⊎ IsHere s place → place.is_delivered ≡ true
    by_case (inl never) = absurd never
    by_case (inr here) =
        let shown : is_shown s.history.rows s.history.current nav ≡ true = ap (λ (n : NavId). is_shown s.history.rows s.history.current n) (sym (found_nav s.places nav place now)) ∙ here.shown in
        let stands : is_standing s.history.rows s.history.current place ≡ true = stand_each s standing s.history.current all nav place now shown in
        let arrived : has_arrived place ≡ true = (and_parts (is_given_target s.history.rows s.history.current place && not place.is_unmet) (has_arrived place) stands).1 in
        (let a = arrived in rw wakes at a)
