-- Tests of all items and of each ongoing load: a weaker one, and one of another navigable on the way.
use Rattle.std.proofs.Common.{◌≡◌, Bool, true, false, not, ◌||◌, ◌==◌, List, [], ◌∷◌, Option, Some, None, refl, subst}
use Rattle.std.specs.List.{list_all}
use Rattle.std.proofs.lemmas.Bool.{and_parts}
use Rattle.tab_ids.specs.declared.NavId.{NavId}
use Rattle.log_model.specs.Equal.{holds}
use Rattle.log_model.specs.History.{has_nav}
use Rattle.log_model.specs.LoadsEndInTime.{each_load}
use Rattle.log_model.specs.Places.{is_ongoing_load}
use Rattle.log_model.specs.Points.{nav_of_request}
use Rattle.log_model.specs.Seen.{Asked, Seen}
use Rattle.seen_facts.proofs.Hang.Forms.{nav_is}
use Rattle.seen_laws.proofs.Sendings.{both}

-- a test that each one passes that passes the other
pub all_weaker : {A : Type 0} (f g : A → Bool) → ((x : A) → f x ≡ true → g x ≡ true) → (xs : List A) → list_all f xs ≡ true → list_all g xs ≡ true
all_weaker f g so [] all = refl
all_weaker f g so (x ∷ xs) all =
    let parts = and_parts (f x) (list_all f xs) all in
    both (so x parts.0) (all_weaker f g so xs parts.1)

-- what all navigables pass, one of them does
pub at_nav : (f : NavId → Bool) (navs : List NavId) (nav : NavId) → list_all f navs ≡ true → has_nav navs nav ≡ true → f nav ≡ true
at_nav f [] nav all on = cc
at_nav f (n ∷ navs) nav all on = by_test (n.0 == nav.0) refl (λ more. at_nav f navs nav parts.1 more) on
  where
    parts : (f n ≡ true) × (list_all f navs ≡ true)
    parts = and_parts (f n) (list_all f navs) all

    by_test : (b : Bool) → (n.0 == nav.0) ≡ b → (has_nav navs nav ≡ true → f nav ≡ true) → (b || has_nav navs nav) ≡ true → f nav ≡ true
    by_test true same more on = subst (λ (m : NavId). f m ≡ true) (nav_is n nav same) parts.0
    by_test false same more on = more on

-- a test that the navigable of each ongoing load passes which passes the other
pub each_weaker : (e : Seen) (f g : Asked → NavId → Bool) → ((q : Asked) (nav : NavId) → f q nav ≡ true → g q nav ≡ true) → each_load e f ≡ true → each_load e g ≡ true
each_weaker e f g so each =
    all_weaker
    (λ (q : Asked). not (is_ongoing_load q) || holds (f q) (nav_of_request q.what))
    (λ (q : Asked). not (is_ongoing_load q) || holds (g q) (nav_of_request q.what))
    (λ q. of_request q (is_ongoing_load q) (nav_of_request q.what))
    e.requests
    each
  where
    of_request : (q : Asked) (b : Bool) (o : Option NavId) → (not b || holds (f q) o) ≡ true → (not b || holds (g q) o) ≡ true
    of_request q false o is = refl
    of_request q true None is = is
    of_request q true (Some nav) is = so q nav is
