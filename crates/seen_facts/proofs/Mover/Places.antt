-- Places that a row leaves as they hang and as they are awake or asleep, and for the reason they are.
use Rattle.std.proofs.Common.{◌≡◌, Bool, true, false, cond, ◌==◌, ◌||◌, List, [], ◌∷◌, ◌++◌, map, Option, Some, None, refl, sym, ap, ◌∙◌, subst, inl, inr, ◌⊎◌}
use Rattle.std.specs.Prelude.{option_map}
use Rattle.std.specs.List.{list_any}
use Rattle.tab_ids.specs.declared.EntryId.{EntryId}
use Rattle.tab_ids.specs.declared.NavId.{NavId}
use Rattle.log_model.specs.declared.job.Why.{Why}
use Rattle.log_model.specs.AfterPlaces.{put_to_sleep}
use Rattle.log_model.specs.History.{has_nav}
use Rattle.log_model.specs.Seen.{Seen, Place, Status, asleep, place_in}
use Rattle.seen_laws.proofs.Keyed.{find_map}
use Rattle.seen_facts.specs.Mover.Movers.{AreMovedAway, IsMovedAway, IsMovedBy, was_moved, was_moved_at}
use Rattle.seen_facts.proofs.Mover.Stays.{KeepWays, WasMoved}

-- ---- how places hang, and what they were given

pub same_ways : (places : List Place) → KeepWays places places
same_ways places nav place found = record { new = place; found = found; nav_is = refl; above = refl; given = λ test any. any }

-- a change of a place that leaves how it hangs and what it was given
pub record LeavesWay (g : Place → Place) : Type 0 where
  pub nav : (p : Place) → (g p).nav ≡ p.nav
  pub above : (p : Place) → (g p).above ≡ p.above
  pub given : (p : Place) (test : EntryId → Bool) → list_any test p.ever_given ≡ true → list_any test (g p).ever_given ≡ true

pub ways_if : (test : Place → Bool) (f : Place → Place) → LeavesWay f → LeavesWay (λ (p : Place). cond (test p) (f p) p)
ways_if test f leaves =
    record {
      nav = λ p. elim (test p) as (λ b. (let q : Place = cond b (f p) p in q).nav ≡ p.nav) [ true ↦ leaves.nav p | false ↦ refl ];
      above = λ p. elim (test p) as (λ b. (let q : Place = cond b (f p) p in q).above ≡ p.above) [ true ↦ leaves.above p | false ↦ refl ];
      given = λ p any. by_test p any (test p);
    }
  where
    by_test : (p : Place) (any : EntryId → Bool) (b : Bool) → list_any any p.ever_given ≡ true → list_any any (let q : Place = cond b (f p) p in q).ever_given ≡ true
    by_test p any true e = leaves.given p any e
    by_test p any false e = e

-- what is found of a changed list was there
pub record WasThere (g : Place → Place) (places : List Place) (nav : NavId) (place : Place) : Type 0 where
  pub before : Place
  pub found : place_in places nav ≡ Some before
  pub is : g before ≡ place

module _ (g : Place → Place) (places : List Place) (same : (p : Place) → (g p).nav ≡ p.nav) where
  pub place_then : (nav : NavId) → place_in (map g places) nav ≡ option_map g (place_in places nav)
  place_then nav = find_map (λ (p : Place). p.nav.0) g nav.0 places (λ p. ap (λ (n : NavId). n.0) (same p))

  pub was_there : (nav : NavId) (place : Place) → place_in (map g places) nav ≡ Some place → WasThere g places nav place
  was_there nav place there = by_old (place_in places nav) refl
    where
      by_old : (o : Option Place) → place_in places nav ≡ o → WasThere g places nav place
      by_old None e = let no_ : None ≡ Some place = sym (place_then nav ∙ ap (option_map g) e) ∙ there in absurd cc
      by_old (Some old) e =
          let both : Some (g old) ≡ Some place = sym (place_then nav ∙ ap (option_map g) e) ∙ there in
          record { before = old; found = e; is = (let is : g old ≡ place = cc in is) }

-- what passes among some passes among one more
pub any_behind : (test : EntryId → Bool) (entry : EntryId) (entries : List EntryId) → list_any test entries ≡ true → list_any test (entry ∷ entries) ≡ true
any_behind test entry entries any = by_first (test entry)
  where
    by_first : (b : Bool) → (b || list_any test entries) ≡ true
    by_first true = refl
    by_first false = any

pub ways_mapped : (g : Place → Place) (places : List Place) → LeavesWay g → KeepWays places (map g places)
ways_mapped g places leaves nav place found =
    record {
      new = g place;
      found = place_then g places leaves.nav nav ∙ ap (option_map g) found;
      nav_is = leaves.nav place;
      above = leaves.above place;
      given = leaves.given place;
    }

-- a new place comes behind
found_more : (nav : NavId) (places : List Place) (new place : Place) → place_in places nav ≡ Some place → place_in (places ++ new ∷ []) nav ≡ Some place
found_more nav [] new place e = cc
found_more nav (p ∷ places) new place e = by_test (p.nav.0 == nav.0) (found_more nav places new place) e
  where
    by_test : (b : Bool) → (place_in places nav ≡ Some place → place_in (places ++ new ∷ []) nav ≡ Some place) → cond b (Some p) (place_in places nav) ≡ Some place → cond b (Some p) (place_in (places ++ new ∷ []) nav) ≡ Some place
    by_test true more f = f
    by_test false more f = more f

was_or_is_new : (nav : NavId) (places : List Place) (new place : Place) → place_in (places ++ new ∷ []) nav ≡ Some place → (place_in places nav ≡ Some place) ⊎ (new ≡ place)
was_or_is_new nav [] new place e = by_test (new.nav.0 == nav.0) e
  where
    by_test : (b : Bool) → (let o : Option Place = cond b (Some new) None in o) ≡ Some place → (place_in [] nav ≡ Some place) ⊎ (new ≡ place)
    by_test true f = inr (let is : new ≡ place = cc in is)
    by_test false f = absurd cc
was_or_is_new nav (p ∷ places) new place e = by_test (p.nav.0 == nav.0) (was_or_is_new nav places new place) e
  where
    by_test : (b : Bool) → (place_in (places ++ new ∷ []) nav ≡ Some place → (place_in places nav ≡ Some place) ⊎ (new ≡ place)) → cond b (Some p) (place_in (places ++ new ∷ []) nav) ≡ Some place → ((let o : Option Place = cond b (Some p) (place_in places nav) in o) ≡ Some place) ⊎ (new ≡ place)
    by_test true more f = inl f
    by_test false more f = more f

pub ways_more : (places : List Place) (new : Place) → KeepWays places (places ++ new ∷ [])
ways_more places new nav place found =
    record { new = place; found = found_more nav places new place found; nav_is = refl; above = refl; given = λ test any. any }

pub ways_both : (old mid new : List Place) → KeepWays old mid → KeepWays mid new → KeepWays old new
ways_both old mid new one two nav place found =
    let a = one nav place found in
    let b = two nav a.new a.found in
    record { new = b.new; found = b.found; nav_is = b.nav_is ∙ a.nav_is; above = b.above ∙ a.above; given = λ test any. b.given test (a.given test any) }

-- ---- how awake places are, and why

-- the navigable's place was moved before, for the same reason
pub record WasSo (places : List Place) (nav : NavId) (place : Place) : Type 0 where
  pub before : Place
  pub found : place_in places nav ≡ Some before
  pub nav_is : before.nav ≡ place.nav
  pub why : before.why ≡ place.why
  pub moved : was_moved before ≡ true

-- each moved place was so before
abbrev pub KeepWhys : List Place → List Place → Type 0
KeepWhys old new = (nav : NavId) (place : Place) → place_in new nav ≡ Some place → was_moved place ≡ true → WasSo old nav place

pub same_whys : (places : List Place) → KeepWhys places places
same_whys places nav place found moved = record { before = place; found = found; nav_is = refl; why = refl; moved = moved }

-- a change of a place that leaves how awake it is, and why
pub record LeavesWhy (g : Place → Place) : Type 0 where
  pub nav : (p : Place) → (g p).nav ≡ p.nav
  pub status : (p : Place) → (g p).status ≡ p.status
  pub epoch : (p : Place) → (g p).epoch ≡ p.epoch
  pub why : (p : Place) → (g p).why ≡ p.why

pub whys_if : (test : Place → Bool) (f : Place → Place) → LeavesWhy f → LeavesWhy (λ (p : Place). cond (test p) (f p) p)
whys_if test f leaves =
    record {
      nav = λ p. elim (test p) as (λ b. (let q : Place = cond b (f p) p in q).nav ≡ p.nav) [ true ↦ leaves.nav p | false ↦ refl ];
      status = λ p. elim (test p) as (λ b. (let q : Place = cond b (f p) p in q).status ≡ p.status) [ true ↦ leaves.status p | false ↦ refl ];
      epoch = λ p. elim (test p) as (λ b. (let q : Place = cond b (f p) p in q).epoch ≡ p.epoch) [ true ↦ leaves.epoch p | false ↦ refl ];
      why = λ p. elim (test p) as (λ b. (let q : Place = cond b (f p) p in q).why ≡ p.why) [ true ↦ leaves.why p | false ↦ refl ];
    }

pub moved_same : (p q : Place) → p.status ≡ q.status → p.epoch ≡ q.epoch → was_moved p ≡ was_moved q
moved_same p q status epoch =
    ap (λ (st : Status). was_moved_at st p.epoch.0) status ∙ ap (λ (e : _). was_moved_at q.status e.0) epoch

pub whys_mapped : (g : Place → Place) (places : List Place) → LeavesWhy g → KeepWhys places (map g places)
whys_mapped g places leaves nav place found moved =
    let w = was_there g places leaves.nav nav place found in
    record {
      before = w.before;
      found = w.found;
      nav_is = sym (leaves.nav w.before) ∙ ap (λ (p : Place). p.nav) w.is;
      why = sym (leaves.why w.before) ∙ ap (λ (p : Place). p.why) w.is;
      moved = sym (moved_same (g w.before) w.before (leaves.status w.before) (leaves.epoch w.before)) ∙ ap was_moved w.is ∙ moved;
    }

-- a new place wasn't moved
pub whys_more : (places : List Place) (new : Place) → was_moved new ≡ false → KeepWhys places (places ++ new ∷ [])
whys_more places new still nav place found moved = by_which (was_or_is_new nav places new place found)
  where
    by_which : (place_in places nav ≡ Some place) ⊎ (new ≡ place) → WasSo places nav place
    by_which (inl was) = record { before = place; found = was; nav_is = refl; why = refl; moved = moved }
    by_which (inr is) = let no_ : false ≡ true = sym still ∙ ap was_moved is ∙ moved in absurd cc

pub whys_both : (old mid new : List Place) → KeepWhys old mid → KeepWhys mid new → KeepWhys old new
whys_both old mid new one two nav place found moved =
    let b = two nav place found moved in
    let a = one nav b.before b.found b.moved in
    record { before = a.before; found = a.found; nav_is = a.nav_is ∙ b.nav_is; why = a.why ∙ b.why; moved = a.moved }

-- ---- both

pub record KeepPlaces (old new : List Place) : Type 0 where
  pub ways : KeepWays old new
  pub whys : KeepWhys old new

pub same_places : (places : List Place) → KeepPlaces places places
same_places places = record { ways = same_ways places; whys = same_whys places }

pub places_both : (old mid new : List Place) → KeepPlaces old mid → KeepPlaces mid new → KeepPlaces old new
places_both old mid new one two =
    record { ways = ways_both old mid new one.ways two.ways; whys = whys_both old mid new one.whys two.whys }

pub places_if : (test : Place → Bool) (f : Place → Place) (places : List Place) → LeavesWay f → LeavesWhy f → KeepPlaces places (map (λ (p : Place). cond (test p) (f p) p) places)
places_if test f places way why =
    record {
      ways = ways_mapped (λ (p : Place). cond (test p) (f p) p) places (ways_if test f way);
      whys = whys_mapped (λ (p : Place). cond (test p) (f p) p) places (whys_if test f why);
    }

pub places_more : (places : List Place) (new : Place) → was_moved new ≡ false → KeepPlaces places (places ++ new ∷ [])
places_more places new still = record { ways = ways_more places new; whys = whys_more places new still }

-- the reason of one that was so still is its reason
pub moved_again : (s : Seen) (nav : NavId) (place : Place) → AreMovedAway s → WasSo s.places nav place → WasMoved s nav place
moved_again s nav place away was =
    record {
      before = was.before;
      found = was.found;
      by = by_why (away nav was.before was.found was.moved);
    }
  where
    by_why : IsMovedAway s was.before → IsMovedAway s place
    by_why is =
        subst (λ (n : NavId). IsMovedBy s place.why n) was.nav_is (subst (λ (w : Why). IsMovedBy s w was.before.nav) was.why is)

-- ---- who falls asleep

-- the place of one that falls asleep
abbrev pub slept_for : Why → Place → Place
slept_for why p = record p { status = asleep; why = why }

pub slept_nav : (navs : List NavId) (why : Why) (p : Place) → (let q : Place = cond (has_nav navs p.nav) (slept_for why p) p in q).nav ≡ p.nav
slept_nav navs why p =
    elim (has_nav navs p.nav) as (λ b. (let q : Place = cond b (slept_for why p) p in q).nav ≡ p.nav) [ true ↦ refl | false ↦ refl ]

pub sleep_ways : (navs : List NavId) (why : Why) (places : List Place) → KeepWays places (put_to_sleep navs why places)
sleep_ways navs why places =
    ways_mapped (λ (p : Place). cond (has_nav navs p.nav) (slept_for why p) p) places (ways_if (λ (p : Place). has_nav navs p.nav) (slept_for why) (record { nav = λ p. refl; above = λ p. refl; given = λ p test any. any }))

-- each moved place then is of one that falls asleep, for that reason, or it was so before
pub record FellAsleep (navs : List NavId) (reason : Why) (places : List Place) (nav : NavId) (place : Place) : Type 0 where
  pub before : Place
  pub found : place_in places nav ≡ Some before
  pub nav_is : before.nav ≡ place.nav
  pub among : has_nav navs place.nav ≡ true
  pub why : place.why ≡ reason

pub asleep_then : (navs : List NavId) (why : Why) (places : List Place) (nav : NavId) (place : Place) → place_in (put_to_sleep navs why places) nav ≡ Some place → was_moved place ≡ true → FellAsleep navs why places nav place ⊎ WasSo places nav place
asleep_then navs why places nav place found moved =
    let w = was_there (λ (p : Place). cond (has_nav navs p.nav) (slept_for why p) p) places (slept_nav navs why) nav place found in by_test w.before w.found (has_nav navs w.before.nav) refl w.is
  where
    by_test : (old : Place) → place_in places nav ≡ Some old → (b : Bool) → has_nav navs old.nav ≡ b → (let q : Place = cond (has_nav navs old.nav) (slept_for why old) old in q) ≡ place → FellAsleep navs why places nav place ⊎ WasSo places nav place
    by_test old at true e is =
        let value : slept_for why old ≡ place = sym (ap (λ (b : Bool). let q : Place = cond b (slept_for why old) old in q) e) ∙ is in
        let navs_ : old.nav ≡ place.nav = ap (λ (p : Place). p.nav) value in
        inl (record { before = old; found = at; nav_is = navs_; among = ap (has_nav navs) (sym navs_) ∙ e; why = ap (λ (p : Place). p.why) (sym value) })
    by_test old at false e is =
        let value : old ≡ place = sym (ap (λ (b : Bool). let q : Place = cond b (slept_for why old) old in q) e) ∙ is in
        inr (record { before = old; found = at; nav_is = ap (λ (p : Place). p.nav) value; why = ap (λ (p : Place). p.why) value; moved = ap was_moved value ∙ moved })
