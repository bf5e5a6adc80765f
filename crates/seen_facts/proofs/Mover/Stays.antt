-- What a row has to leave of requests and places, so that who moved a navigable away still did.
use Rattle.std.proofs.Common.{◌≡◌, Bool, true, false, ◌&&◌, ◌||◌, List, [], ◌∷◌, Option, Some, None, refl, sym, ap, ◌∙◌, inl, inr, ◌⊎◌}
use Rattle.std.specs.Prelude.{option_and_then}
use Rattle.std.specs.List.{list_any}
use Rattle.std.specs.Option.{option_map_or}
use Rattle.tab_ids.specs.declared.EntryId.{EntryId}
use Rattle.tab_ids.specs.declared.NavId.{NavId}
use Rattle.tab_ids.specs.declared.ReqId.{ReqId}
use Rattle.log_model.specs.declared.change.Change.{Change}
use Rattle.log_model.specs.Causes.{any_place, changed_one_of, is_passed_traversal, nav_of_change}
use Rattle.log_model.specs.Equal.{holds}
use Rattle.log_model.specs.History.{has_nav, same_entry}
use Rattle.log_model.specs.Places.{has_passed, is_traversal, way_of, way_to}
use Rattle.log_model.specs.Seen.{Seen, Asked, Place, place_in, place_of, request_in}
use Rattle.seen_facts.proofs.Walk.Placed.{found_nav}
use Rattle.seen_facts.specs.Asked.Asking.{HavePassed}
use Rattle.seen_facts.specs.Mover.Movers.{AllChangeAsTheyEnd, AreMovers, IsMovedAway, MovesAway, took_of, was_moved}

-- ---- any of a list

pub any_more : {A : Type 0} (f g : A → Bool) (xs : List A) → ((x : A) → f x ≡ true → g x ≡ true) → list_any f xs ≡ true → list_any g xs ≡ true
any_more f g [] more any = any
any_more {A} f g (x ∷ xs) more any = by_first (f x) refl (any_more f g xs more) any
  where
    or_last : (b : Bool) {c : Bool} → c ≡ true → (b || c) ≡ true
    or_last true e = refl
    or_last false e = e

    by_first : (b : Bool) → f x ≡ b → (list_any f xs ≡ true → list_any g xs ≡ true) → (b || list_any f xs) ≡ true → (g x || list_any g xs) ≡ true
    by_first true e rest h = rw (more x e) refl
    by_first false e rest h = or_last (g x) (rest h)

-- ---- requests

-- what a request has become still moves those that it moved
pub record GoesOn (q new : Asked) : Type 0 where
  pub what : new.what ≡ q.what
  pub begun : q.is_started ≡ true → new.is_started ≡ true
  pub change : (c : Change) → q.change ≡ Some c → new.change ≡ Some c
  pub took : (test : EntryId → Bool) → list_any test q.took ≡ true → list_any test new.took ≡ true

pub record GoesTo (asked : List Asked) (req : ReqId) (q : Asked) : Type 0 where
  pub new : Asked
  pub found : request_in asked req ≡ Some new
  pub on : GoesOn q new

abbrev pub GoOn : List Asked → List Asked → Type 0
GoOn asked next = (req : ReqId) (q : Asked) → request_in asked req ≡ Some q → GoesTo next req q

-- ---- places

-- a navigable's place then: it hangs as before, and was given what it was given
pub record StaysAt (places : List Place) (nav : NavId) (place : Place) : Type 0 where
  pub new : Place
  pub found : place_in places nav ≡ Some new
  pub nav_is : new.nav ≡ place.nav
  pub above : new.above ≡ place.above
  pub given : (test : EntryId → Bool) → list_any test place.ever_given ≡ true → list_any test new.ever_given ≡ true

abbrev pub KeepWays : List Place → List Place → Type 0
KeepWays old new = (nav : NavId) (place : Place) → place_in old nav ≡ Some place → StaysAt new nav place

-- a moved place was there, and the request that is its reason had moved it before the row
pub record WasMoved (s : Seen) (nav : NavId) (place : Place) : Type 0 where
  pub before : Place
  pub found : place_of s nav ≡ Some before
  pub by : IsMovedAway s place

-- what the row leaves
pub record Leaves (s t : Seen) : Type 0 where
  pub ways : KeepWays s.places t.places
  pub requests : GoOn s.requests t.requests
  pub ends : AllChangeAsTheyEnd t.requests
  pub passed : HavePassed t
  pub moved : (nav : NavId) (place : Place) → place_of t nav ≡ Some place → was_moved place ≡ true → WasMoved s nav place

-- ---- who moved a navigable still did

pub one_of : (a b c : Bool) → (a || b || c) ≡ true → (a ≡ true) ⊎ ((b ≡ true) ⊎ (c ≡ true))
one_of true b c e = inl refl
one_of false true c e = inr (inl refl)
one_of false false c e = inr (inr e)

pub any_of : (a b c : Bool) → (a ≡ true) ⊎ ((b ≡ true) ⊎ (c ≡ true)) → (a || b || c) ≡ true
any_of a b c (inl e) = rw e refl
any_of true b c (inr e) = refl
any_of false b c (inr (inl e)) = rw e refl
any_of false true c (inr (inr e)) = refl
any_of false false c (inr (inr e)) = e

all_of : (a b c : Bool) → (a && b && c) ≡ true → (a ≡ true) × (b ≡ true)
all_of true true c e = (refl, refl)
all_of true false c e = cc
all_of false b c e = cc

module _ (s t : Seen) (ways : KeepWays s.places t.places) (req : ReqId) (q new : Asked) (on : GoesOn q new) (passes : has_passed t new ≡ true) where
  passed_on : is_passed_traversal s q ≡ true → is_passed_traversal t new ≡ true
  passed_on e =
      let both = all_of (is_traversal q.what) q.is_started (has_passed s q) e in
      let goes : is_traversal new.what ≡ true = ap is_traversal on.what ∙ both.0 in
      let begun : new.is_started ≡ true = on.begun both.1 in
      rw (goes, begun) passes

  changed_on : (navs : List NavId) → changed_one_of q navs ≡ true → changed_one_of new navs ≡ true
  changed_on navs e = by_change q.change refl
    where
      by_change : (o : Option Change) → q.change ≡ o → changed_one_of new navs ≡ true
      by_change None at =
          let no_ : false ≡ true = sym (ap (λ (o : Option Change). holds (has_nav navs) (option_and_then nav_of_change o)) at) ∙ e in
          cc
      by_change (Some c) at =
          ap (λ (o : Option Change). holds (has_nav navs) (option_and_then nav_of_change o)) (on.change c at ∙ sym at) ∙ e

  took_on : (nav : NavId) → holds (took_of q) (place_of s nav) ≡ true → holds (took_of new) (place_of t nav) ≡ true
  took_on nav e = by_place (place_of s nav) refl
    where
      by_place : (o : Option Place) → place_of s nav ≡ o → holds (took_of new) (place_of t nav) ≡ true
      by_place None at = let no_ : false ≡ true = sym (ap (holds (took_of q)) at) ∙ e in cc
      by_place (Some place) at =
          let its : took_of q place ≡ true = sym (ap (holds (took_of q)) at) ∙ e in
          let k = ways nav place at in
          let grown : took_of q k.new ≡ true =
          any_more (λ entry. list_any (same_entry entry) place.ever_given) (λ entry. list_any (same_entry entry) k.new.ever_given) q.took (λ entry h. k.given (same_entry entry) h) its in
          ap (holds (took_of new)) k.found ∙ on.took (λ entry. list_any (same_entry entry) k.new.ever_given) grown

  way_on : (nav : NavId) (place : Place) → place_of s nav ≡ Some place → way_to t nav ≡ way_to s nav
  way_on nav place found =
      let k = ways nav place found in
      let then_ : way_to t nav ≡ way_of k.new = ap (λ (o : Option Place). option_map_or way_of o (nav ∷ [])) k.found in
      let before : way_to s nav ≡ way_of place = ap (λ (o : Option Place). option_map_or way_of o (nav ∷ [])) found in
      let same : way_of k.new ≡ way_of place = ap (λ (n : NavId). n ∷ k.new.above) k.nav_is ∙ ap (λ (l : List NavId). place.nav ∷ l) k.above in
      then_ ∙ same ∙ sym before

  pub moves_on : (nav : NavId) (place : Place) → place_of s nav ≡ Some place → MovesAway s q nav → MovesAway t new nav
  moves_on nav place found moves =
      any_of (is_passed_traversal t new) (changed_one_of new (way_to t nav)) (any_place t (way_to t nav) (took_of new)) (by_case (one_of (is_passed_traversal s q) (changed_one_of q (way_to s nav)) (any_place s (way_to s nav) (took_of q)) moves))
    where
      by_case : (is_passed_traversal s q ≡ true) ⊎ ((changed_one_of q (way_to s nav) ≡ true) ⊎ (any_place s (way_to s nav) (took_of q) ≡ true)) → (is_passed_traversal t new ≡ true) ⊎ ((changed_one_of new (way_to t nav) ≡ true) ⊎ (any_place t (way_to t nav) (took_of new) ≡ true))
      by_case (inl e) = inl (passed_on e)
      by_case (inr (inl e)) =
          inr (inl (ap (changed_one_of new) (way_on nav place found) ∙ changed_on (way_to s nav) e))
      by_case (inr (inr e)) =
          inr (inr (ap (λ (l : List NavId). any_place t l (took_of new)) (way_on nav place found) ∙ any_more (λ n. holds (took_of q) (place_of s n)) (λ n. holds (took_of new) (place_of t n)) (way_to s nav) took_on e))

-- ---- all of it

pub left_movers : (s t : Seen) → Leaves s t → AreMovers t
left_movers s t leaves =
    record {
      ends = leaves.ends;
      passed = leaves.passed;
      away = away;
    }
  where
    away : (nav : NavId) (place : Place) → place_of t nav ≡ Some place → was_moved place ≡ true → IsMovedAway t place
    away nav place there moved =
        let was = leaves.moved nav place there moved in
        let own : nav ≡ place.nav = sym (found_nav t.places nav place there) in
        let goes = leaves.requests was.by.req was.by.q was.by.there in
        record {
          req = was.by.req;
          q = goes.new;
          why = was.by.why;
          there = goes.found;
          moves = moves_on s t leaves.ways was.by.req was.by.q goes.new goes.on (leaves.passed was.by.req goes.new goes.found) place.nav was.before (ap (place_of s) (sym own) ∙ was.found) was.by.moves;
        }
