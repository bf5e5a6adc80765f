-- Ongoing loads stand still as a navigable is served that is in need: none is of that one, or of one below it.
use Rattle.seen_facts.proofs.Hang.Forms.{nav_is}
use Rattle.seen_facts.proofs.Hang.Hung.{place_chain}
use Rattle.seen_facts.specs.Hang.Hanging.{Hangs}
use Rattle.seen_facts.proofs.LoadEnds.Each.{all_weaker, at_nav}
use Rattle.seen_facts.specs.LoadEnds.Standing.{LoadsStand, is_reached}
use Rattle.seen_facts.specs.Load.Loading.{Look, is_ongoing, look}
use Rattle.log_model.proofs.Refl.{nat_eq_refl}
use Rattle.log_model.specs.Equal.{holds}
use Rattle.log_model.specs.History.{History, has_nav}
use Rattle.log_model.specs.Places.{aim_of, is_below_known_lost, is_known_lost, is_ongoing_load, is_placed, is_shown, is_standing, stands, way_of, way_to}
use Rattle.log_model.specs.Points.{nav_of_request}
use Rattle.log_model.specs.Seen.{Asked, Place, Seen, place_of}
use Rattle.log_model.specs.Soundness.{IsSound}
use Rattle.std.proofs.Common.{Bool, List, None, Option, Some, [], ap, false, map, not, refl, subst, sym, true, ℕ, ◌&&◌, ◌==◌, ◌||◌, ◌∙◌, ◌∷◌, ◌≡◌}
use Rattle.std.proofs.lemmas.Bool.{and_parts, or_parts}
use Rattle.std.specs.List.{list_all, list_any}
use Rattle.std.specs.Option.{option_map_or}
use Rattle.tab_ids.specs.declared.NavId.{NavId}
use Rattle.seen_facts.proofs.Walk.Placed.{found_nav}
use Rattle.seen_facts.specs.Walk.Walking.{IsApart, LeavesOthers}
use Rattle.row_facts.proofs.WalkRows.Needs.{need_stands_not}
use Rattle.row_facts.proofs.WalkRows.Walks.{above_apart}
use Rattle.row_facts.specs.WalkRows.Since.{IsVisitedInNeed}

-- ---- tests of several navigables

own_has : (nav : NavId) (navs : List NavId) → has_nav (nav ∷ navs) nav ≡ true
own_has nav navs = ap (λ (b : Bool). b || has_nav navs nav) (nat_eq_refl nav.0)

more_has : (nav other : NavId) (navs : List NavId) → has_nav navs other ≡ true → has_nav (nav ∷ navs) other ≡ true
more_has nav other navs has = by_test (nav.0 == other.0)
  where
    by_test : (b : Bool) → (b || has_nav navs other) ≡ true
    by_test true = refl
    by_test false = has

all_alike : (f g : NavId → Bool) (navs : List NavId) → ((nav : NavId) → has_nav navs nav ≡ true → f nav ≡ g nav) → list_all f navs ≡ list_all g navs
all_alike f g [] same = refl
all_alike f g (nav ∷ navs) same =
    rw (same nav (own_has nav navs)) (ap (λ (b : Bool). g nav && b) (all_alike f g navs (λ other has. same other (more_has nav other navs has))))

any_alike : (f g : NavId → Bool) (navs : List NavId) → ((nav : NavId) → has_nav navs nav ≡ true → f nav ≡ g nav) → list_any f navs ≡ list_any g navs
any_alike f g [] same = refl
any_alike f g (nav ∷ navs) same =
    rw (same nav (own_has nav navs)) (ap (λ (b : Bool). g nav || b) (any_alike f g navs (λ other has. same other (more_has nav other navs has))))

-- ---- one that is reached

-- it has a place, and it and those above stand
pub record IsReachedAt (s : Seen) (nav : NavId) : Type 0 where
  pub place : Place
  pub placed : place_of s nav ≡ Some place
  pub each : (n : NavId) → has_nav (nav ∷ place.above) n ≡ true → is_placed s (aim_of s) n ≡ true
  pub kept : is_below_known_lost s place ≡ false

pub reached_at : (s : Seen) (nav : NavId) → is_reached s nav ≡ true → IsReachedAt s nav
reached_at s nav is = by_place (place_of s nav) refl
  where
    parts : (list_all (is_placed s (aim_of s)) (way_to s nav) ≡ true) × (holds (λ (p : Place). not (is_below_known_lost s p)) (place_of s nav) ≡ true)
    parts = and_parts (list_all (is_placed s (aim_of s)) (way_to s nav)) (holds (λ (p : Place). not (is_below_known_lost s p)) (place_of s nav)) is

    unlost : (b : Bool) → not b ≡ true → b ≡ false
    unlost false h = refl
    unlost true h = absurd cc

    by_place : (o : Option Place) → place_of s nav ≡ o → IsReachedAt s nav
    by_place None at =
        let never : false ≡ true = sym (ap (holds (λ (p : Place). not (is_below_known_lost s p))) at) ∙ parts.1 in
        absurd cc
    by_place (Some place) at =
        let own : place.nav ≡ nav = found_nav s.places nav place at in
        let way : way_to s nav ≡ nav ∷ place.above = ap (λ (o : Option Place). option_map_or way_of o (nav ∷ [])) at ∙ ap (λ (n : NavId). n ∷ place.above) own in
        record {
          place = place;
          placed = at;
          each = λ n has. at_nav (is_placed s (aim_of s)) (nav ∷ place.above) n (ap (list_all (is_placed s (aim_of s))) (sym way) ∙ parts.0) has;
          kept = unlost (is_below_known_lost s place) (sym (ap (holds (λ (p : Place). not (is_below_known_lost s p))) at) ∙ parts.1);
        }

-- one in need isn't on the way to it
pub need_off : (s : Seen) (x : NavId) (place : Place) → place_of s x ≡ Some place → IsVisitedInNeed s place → (nav : NavId) (its : IsReachedAt s nav) → has_nav (nav ∷ its.place.above) x ≡ false
need_off s x place at visited nav its = by_test (has_nav (nav ∷ its.place.above) x) refl
  where
    by_test : (b : Bool) → has_nav (nav ∷ its.place.above) x ≡ b → has_nav (nav ∷ its.place.above) x ≡ false
    by_test false is = is
    by_test true is =
        let stand : stands s (aim_of s) x ≡ true = (and_parts (is_shown s.history.rows (aim_of s) x) (stands s (aim_of s) x) (its.each x is)).1 in
        let never : true ≡ false = sym stand ∙ need_stands_not s x place at visited in
        absurd cc

-- it is so still where it, and those above it, are where they were
module _ (s t : Seen) (history : t.history ≡ s.history) (aim : aim_of t ≡ aim_of s) (nav : NavId) (its : IsReachedAt s nav) (stays : (n : NavId) → has_nav (nav ∷ its.place.above) n ≡ true → place_of t n ≡ place_of s n) where
  placed_still : (n : NavId) → has_nav (nav ∷ its.place.above) n ≡ true → is_placed t (aim_of t) n ≡ is_placed s (aim_of s) n
  placed_still n has =
      ap (λ (h : History). is_shown h.rows (aim_of t) n && holds (is_standing h.rows (aim_of t)) (place_of t n)) history
      ∙ ap (λ (step : ℕ). is_shown s.history.rows step n && holds (is_standing s.history.rows step) (place_of t n)) aim
      ∙ ap (λ (o : Option Place). is_shown s.history.rows (aim_of s) n && holds (is_standing s.history.rows (aim_of s)) o) (stays n has)

  pub reached_where : is_reached t nav ≡ true
  reached_where =
      let there : place_of t nav ≡ Some its.place = stays nav (own_has nav its.place.above) ∙ its.placed in
      let way : way_to t nav ≡ nav ∷ its.place.above = ap (λ (o : Option Place). option_map_or way_of o (nav ∷ [])) there ∙ ap (λ (n : NavId). n ∷ its.place.above) (found_nav s.places nav its.place its.placed) in
      let all : list_all (is_placed t (aim_of t)) (way_to t nav) ≡ true = ap (list_all (is_placed t (aim_of t))) way ∙ all_alike (is_placed t (aim_of t)) (λ (n : NavId). true) (nav ∷ its.place.above) (λ n has. placed_still n has ∙ its.each n has) ∙ all_true (nav ∷ its.place.above) in
      let unlost : is_below_known_lost t its.place ≡ false = any_alike (is_known_lost t) (is_known_lost s) its.place.above (λ n has. lost_same n (stays n (more_has nav n its.place.above has))) ∙ its.kept in
      let holds_ : holds (λ (p : Place). not (is_below_known_lost t p)) (place_of t nav) ≡ true = ap (holds (λ (p : Place). not (is_below_known_lost t p))) there ∙ ap not unlost in
      both (list_all (is_placed t (aim_of t)) (way_to t nav)) (holds (λ (p : Place). not (is_below_known_lost t p)) (place_of t nav)) all holds_
    where
      all_true : (navs : List NavId) → list_all (λ (n : NavId). true) navs ≡ true
      all_true [] = refl
      all_true (n ∷ navs) = all_true navs

      lost_same : (n : NavId) → place_of t n ≡ place_of s n → is_known_lost t n ≡ is_known_lost s n
      lost_same n same = rw same refl

      both : (a b : Bool) → a ≡ true → b ≡ true → (a && b) ≡ true
      both a b h k = rw (h, k) refl

module _ (s t : Seen) (x : NavId) (place : Place) (sound : IsSound s.history) (hangs : Hangs s) (leaves : LeavesOthers s t x) (at : place_of s x ≡ Some place) (visited : IsVisitedInNeed s place) where
  module _ (nav : NavId) (its : IsReachedAt s nav) where
    parts : ((nav.0 == x.0) ≡ false) × (has_nav its.place.above x ≡ false)
    parts = or_parts (nav.0 == x.0) (has_nav its.place.above x) (need_off s x place at visited nav its)

    own_apart : IsApart s x nav
    own_apart =
        record {
          differs = parts.0;
          beside = λ q there.
              let both : Some q ≡ Some its.place = sym there ∙ its.placed in
              let one : q ≡ its.place = cc in
              ap (λ (p : Place). has_nav p.above x) one ∙ parts.1;
        }

    -- they are where they were
    stays_at : (n : NavId) → has_nav (nav ∷ its.place.above) n ≡ true → place_of t n ≡ place_of s n
    stays_at n has = by_test (nav.0 == n.0) refl has
      where
        by_test : (b : Bool) → (nav.0 == n.0) ≡ b → (b || has_nav its.place.above n) ≡ true → place_of t n ≡ place_of s n
        by_test true same h =
            subst (λ (m : NavId). place_of t m ≡ place_of s m) (nav_is nav n same) (leaves.others nav own_apart)
        by_test false apart h =
            leaves.others n (above_apart s x its.place.above (place_chain s sound hangs nav its.place its.placed) parts.1 n h)

    reached_then : is_reached t nav ≡ true
    reached_then = reached_where s t leaves.history leaves.aim nav its stays_at

  pub reached_still : (nav : NavId) → is_reached s nav ≡ true → is_reached t nav ≡ true
  reached_still nav is = reached_then nav (reached_at s nav is)

-- ---- ongoing loads

-- the look is of no ongoing load, or its navigable is reached
abbrev reached_of : Seen → Look → Bool
reached_of e l = not (is_ongoing l) || holds (is_reached e) (nav_of_request l.what)

pub of_looks : (e : Seen) (asked : List Asked) → list_all (λ (q : Asked). not (is_ongoing_load q) || holds (is_reached e) (nav_of_request q.what)) asked ≡ list_all (reached_of e) (map look asked)
of_looks e [] = refl
of_looks e (q ∷ asked) =
    ap (λ (b : Bool). (not (is_ongoing_load q) || holds (is_reached e) (nav_of_request q.what)) && b) (of_looks e asked)

-- where the same is read of requests, and each that was reached is
pub loads_stand_still : (s t : Seen) → map look t.requests ≡ map look s.requests → ((nav : NavId) → is_reached s nav ≡ true → is_reached t nav ≡ true) → LoadsStand s → LoadsStand t
loads_stand_still s t looks still stand =
    of_looks t t.requests ∙ ap (list_all (reached_of t)) looks
    ∙ all_weaker (reached_of s) (reached_of t) (λ l. weaker (is_ongoing l) (nav_of_request l.what)) (map look s.requests) (sym (of_looks s s.requests) ∙ stand)
  where
    weaker : (b : Bool) (o : Option NavId) → (not b || holds (is_reached s) o) ≡ true → (not b || holds (is_reached t) o) ≡ true
    weaker false o is = refl
    weaker true None is = is
    weaker true (Some nav) is = still nav is
