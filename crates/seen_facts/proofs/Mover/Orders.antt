-- Who moved each navigable away, over each order: the one for which an order shows a document again, or puts navigables to sleep, moves these.
use Rattle.std.proofs.Common.{◌≡◌, ℕ, Bool, true, false, cond, ◌==◌, List, [], map, Option, Some, refl, sym, ap, ◌∙◌, subst, inl, inr, ◌⊎◌}
use Rattle.std.specs.Prelude.{nat_lt}
use Rattle.std.specs.Option.{option_map_or}
use Rattle.tab_ids.specs.declared.EntryId.{EntryId}
use Rattle.tab_ids.specs.declared.Epoch.{Epoch}
use Rattle.tab_ids.specs.declared.NavId.{NavId}
use Rattle.log_model.specs.declared.job.Job.{Job}
use Rattle.log_model.specs.declared.job.Task.{Task}
use Rattle.log_model.specs.declared.job.Task.TheVariants as tasks
use Rattle.log_model.specs.declared.job.Why.{Why}
use Rattle.log_model.specs.declared.row_kind.Actor.{Actor}
use Rattle.log_model.specs.declared.row_kind.RowKind.TheVariants as rows
use Rattle.log_model.specs.After.{after}
use Rattle.log_model.specs.AfterPlaces.{activated, on_place, places_sent, put_to_sleep, sleepers_below, sleepers_with}
use Rattle.log_model.specs.History.{has_nav}
use Rattle.log_model.specs.Seen.{Seen, Document, Place, document_of, place_in, place_of}
use Rattle.seen_facts.proofs.Hang.Forms.{nav_is}
use Rattle.seen_facts.proofs.Walk.Sleepers.{sleepers_of}
use Rattle.seen_facts.specs.Mover.Movers.{AreMovers, IsMovedBy, was_moved}
use Rattle.seen_facts.proofs.Asked.Passed.{have_passed}
use Rattle.seen_facts.proofs.Mover.Asked.{AllFollow, AsksNone, all_go_on, all_ends, sent_follow}
use Rattle.seen_facts.proofs.Mover.Places.{FellAsleep, KeepPlaces, LeavesWay, WasSo, any_behind, asleep_then, moved_again, same_places, sleep_ways, slept_for, slept_nav, was_there, ways_both, ways_if, ways_mapped}
use Rattle.seen_facts.proofs.Mover.Rows.{quietly_follow}
use Rattle.seen_facts.proofs.Mover.Stays.{KeepWays, WasMoved, left_movers}

-- the order leaves all places, and asks nobody
abbrev pub LeavesPlaces : Task → Type 0
LeavesPlaces (tasks.Populate nav state address initial) = Unit {0}
LeavesPlaces (tasks.Update length index) = Unit {0}
LeavesPlaces (tasks.DoFragment req mode address) = Unit {0}
LeavesPlaces _ = ⊥

-- the order puts navigables to sleep, and shows none a document
abbrev pub PutsToSleep : Task → Type 0
PutsToSleep tasks.Freeze = Unit {0}
PutsToSleep tasks.Discard = Unit {0}
PutsToSleep _ = ⊥

-- its reason moves each of these navigables
abbrev pub MovesEach : Seen → Why → List NavId → Type 0
MovesEach s why navs = (nav : NavId) → has_nav navs nav ≡ true → IsMovedBy s why nav

-- who fell asleep was moved for the reason of that
slept_away : (s : Seen) (why : Why) (navs : List NavId) (nav : NavId) (place : Place) → MovesEach s why navs → FellAsleep navs why s.places nav place → WasMoved s nav place
slept_away s why navs nav place each fell =
    record { before = fell.before; found = fell.found; by = subst (λ (w : Why). IsMovedBy s w place.nav) (sym fell.why) (each place.nav fell.among) }

module _ (s : Seen) (event : ℕ) (actor : Actor) (are : AreMovers s) where
  abbrev then_ : Job → Seen
  then_ job = after s (record { event = event; actor = actor; row = rows.Sent job })

  -- an order that makes a document, tells one something, or sends it to a fragment
  pub told_movers : (job : Job) (task : Task) → job.task ≡ task → LeavesPlaces task → AreMovers (then_ job)
  told_movers job task is leaves =
      quietly_follow s (then_ job) are (sent_follow s job job.task s.requests (subst AsksNone (sym is) (asks_none task leaves))) (have_passed s (record { event = event; actor = actor; row = rows.Sent job }) (subst AsksNone (sym is) (asks_none task leaves)) tt are.passed) (subst (λ (k : Task). KeepPlaces s.places (places_sent s job k)) (sym is) (places_stay task leaves))
    where
      asks_none : (k : Task) → LeavesPlaces k → AsksNone k
      asks_none (tasks.Populate nav state address initial) leaves_ = tt
      asks_none (tasks.Update length index) leaves_ = tt
      asks_none (tasks.DoFragment req mode address) leaves_ = tt
      asks_none (tasks.Activate entry epoch length index memo address) never = absurd never
      asks_none tasks.Freeze never = absurd never
      asks_none tasks.Discard never = absurd never
      asks_none (tasks.Ask slot cause) never = absurd never

      places_stay : (k : Task) → LeavesPlaces k → KeepPlaces s.places (places_sent s job k)
      places_stay (tasks.Populate nav state address initial) leaves_ = same_places s.places
      places_stay (tasks.Update length index) leaves_ = same_places s.places
      places_stay (tasks.DoFragment req mode address) leaves_ = same_places s.places
      places_stay (tasks.Activate entry epoch length index memo address) never = absurd never
      places_stay tasks.Freeze never = absurd never
      places_stay tasks.Discard never = absurd never
      places_stay (tasks.Ask slot cause) never = absurd never

  -- an order that freezes or discards a document: its navigable and those below it are moved by its reason
  pub slept_movers : (job : Job) (task : Task) → job.task ≡ task → PutsToSleep task → MovesEach s job.why (sleepers_with s job.doc) → AreMovers (then_ job)
  slept_movers job task is puts each =
      left_movers s (then_ job) (record {
        ways = subst (λ (l : List Place). KeepWays s.places l) (sym places) (sleep_ways (sleepers_with s job.doc) job.why s.places);
        requests = all_go_on s.requests (then_ job).requests follow;
        ends = all_ends s.requests (then_ job).requests follow are.ends;
        passed = have_passed s (record { event = event; actor = actor; row = rows.Sent job }) (subst AsksNone (sym is) (asks_none task puts)) tt are.passed;
        moved = λ nav place there moved. by_case nav place (asleep_then (sleepers_with s job.doc) job.why s.places nav place (ap (λ (l : List Place). place_in l nav) (sym places) ∙ there) moved);
      })
    where
      asks_none : (k : Task) → PutsToSleep k → AsksNone k
      asks_none tasks.Freeze puts_ = tt
      asks_none tasks.Discard puts_ = tt
      asks_none (tasks.Populate nav state address initial) never = absurd never
      asks_none (tasks.Update length index) never = absurd never
      asks_none (tasks.DoFragment req mode address) never = absurd never
      asks_none (tasks.Activate entry epoch length index memo address) never = absurd never
      asks_none (tasks.Ask slot cause) never = absurd never

      follow : AllFollow s.requests (then_ job).requests
      follow = sent_follow s job job.task s.requests (subst AsksNone (sym is) (asks_none task puts))

      sleep : (k : Task) → PutsToSleep k → places_sent s job k ≡ put_to_sleep (sleepers_with s job.doc) job.why s.places
      sleep tasks.Freeze puts_ = refl
      sleep tasks.Discard puts_ = refl
      sleep (tasks.Populate nav state address initial) never = absurd never
      sleep (tasks.Update length index) never = absurd never
      sleep (tasks.DoFragment req mode address) never = absurd never
      sleep (tasks.Activate entry epoch length index memo address) never = absurd never
      sleep (tasks.Ask slot cause) never = absurd never

      places : (then_ job).places ≡ put_to_sleep (sleepers_with s job.doc) job.why s.places
      places = ap (places_sent s job) is ∙ sleep task puts

      by_case : (nav : NavId) (place : Place) → FellAsleep (sleepers_with s job.doc) job.why s.places nav place ⊎ WasSo s.places nav place → WasMoved s nav place
      by_case nav place (inl fell) = slept_away s job.why (sleepers_with s job.doc) nav place each fell
      by_case nav place (inr was) = moved_again s nav place are.away was

-- ---- an order that shows a navigable a document

-- the navigable is moved by the order's reason, where this isn't its first document; and so is each that falls asleep below it
pub record MovesShown (s : Seen) (job : Job) (nav : NavId) (epoch : Epoch) : Type 0 where
  pub own : nat_lt 1 epoch.0 ≡ true → IsMovedBy s job.why nav
  pub below : MovesEach s job.why (sleepers_of s job.doc nav)

module _ (s : Seen) (event : ℕ) (actor : Actor) (are : AreMovers s) (job : Job) (d : Document) (entry : EntryId) (epoch : Epoch) (long at : ℕ) (memo : Option (List ℕ)) (address : List ℕ) (task : job.task ≡ tasks.Activate entry epoch long at memo address) (found : document_of s job.doc ≡ Some d) (moves : MovesShown s job d.nav epoch) where
  abbrev t : Seen
  t = after s (record { event = event; actor = actor; row = rows.Sent job })

  abbrev asleep_now : List Place
  asleep_now = put_to_sleep (sleepers_of s job.doc d.nav) job.why s.places

  abbrev show : Place → Place
  show p = cond (p.nav.0 == d.nav.0) (activated job entry epoch d p) p

  places_are : t.places ≡ map show asleep_now
  places_are =
      ap (λ (k : Task). places_sent s job k) task
      ∙ ap (λ (o : Option Document). option_map_or (λ (x : Document). on_place x.nav (activated job entry epoch x) (put_to_sleep (option_map_or (sleepers_below s job.doc) (place_of s x.nav) []) job.why s.places)) o s.places) found

  shows_way : LeavesWay show
  shows_way =
      ways_if (λ (p : Place). p.nav.0 == d.nav.0) (activated job entry epoch d) (record { nav = λ p. refl; above = λ p. refl; given = λ p test any. any_behind test entry p.ever_given any })

  ways : KeepWays s.places t.places
  ways =
      subst (λ (l : List Place). KeepWays s.places l) (sym places_are) (ways_both s.places asleep_now (map show asleep_now) (sleep_ways (sleepers_of s job.doc d.nav) job.why s.places) (ways_mapped show asleep_now shows_way))

  -- a moved place then is the one that is shown, one that fell asleep, or as it was
  moved_then : (nav : NavId) (place : Place) → place_of t nav ≡ Some place → was_moved place ≡ true → WasMoved s nav place
  moved_then nav place there moved =
      let w = was_there show asleep_now shows_way.nav nav place (ap (λ (l : List Place). place_in l nav) (sym places_are) ∙ there) in
      by_nav w.before w.found (w.before.nav.0 == d.nav.0) refl w.is
    where
      was_at : (mid : Place) → place_in asleep_now nav ≡ Some mid → (old : Place) × (place_of s nav ≡ Some old)
      was_at mid at_ =
          let w = was_there (λ (p : Place). cond (has_nav (sleepers_of s job.doc d.nav) p.nav) (slept_for job.why p) p) s.places (slept_nav (sleepers_of s job.doc d.nav) job.why) nav mid at_ in
          (w.before, w.found)

      by_case : (mid : Place) → mid ≡ place → FellAsleep (sleepers_of s job.doc d.nav) job.why s.places nav mid ⊎ WasSo s.places nav mid → WasMoved s nav place
      by_case mid same (inl fell) =
          subst (WasMoved s nav) same (slept_away s job.why (sleepers_of s job.doc d.nav) nav mid moves.below fell)
      by_case mid same (inr was) = subst (WasMoved s nav) same (moved_again s nav mid are.away was)

      by_nav : (mid : Place) → place_in asleep_now nav ≡ Some mid → (b : Bool) → (mid.nav.0 == d.nav.0) ≡ b → show mid ≡ place → WasMoved s nav place
      by_nav mid at_ true e is =
          let value : activated job entry epoch d mid ≡ place = sym (ap (λ (b : Bool). let q : Place = cond b (activated job entry epoch d mid) mid in q) e) ∙ is in
          let late : nat_lt 1 epoch.0 ≡ true = ap was_moved value ∙ moved in
          let old = was_at mid at_ in
          let own : d.nav ≡ place.nav = sym (nav_is mid.nav d.nav e) ∙ ap (λ (p : Place). p.nav) value in
          record {
            before = old.0;
            found = old.1;
            by = subst (λ (n : NavId). IsMovedBy s place.why n) own (subst (λ (w : Why). IsMovedBy s w d.nav) (ap (λ (p : Place). p.why) value) (moves.own late));
          }
      by_nav mid at_ false e is =
          let value : mid ≡ place = sym (ap (λ (b : Bool). let q : Place = cond b (activated job entry epoch d mid) mid in q) e) ∙ is in
          by_case mid value (asleep_then (sleepers_of s job.doc d.nav) job.why s.places nav mid at_ (ap was_moved value ∙ moved))

  pub shown_movers : AreMovers t
  shown_movers =
      left_movers s t (record {
        ways = ways;
        requests = all_go_on s.requests t.requests follow;
        ends = all_ends s.requests t.requests follow are.ends;
        passed = have_passed s (record { event = event; actor = actor; row = rows.Sent job }) (subst AsksNone (sym task) tt) tt are.passed;
        moved = moved_then;
      })
    where
      follow : AllFollow s.requests t.requests
      follow = sent_follow s job job.task s.requests (subst AsksNone (sym task) tt)
