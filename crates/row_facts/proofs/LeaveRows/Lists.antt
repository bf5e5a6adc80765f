-- Tests on lists and truth values that the proofs share.
use Rattle.log_model.specs.History.{has_nav}
use Rattle.std.proofs.Common.{Bool, List, [], arith, false, refl, true, ◌++◌, ◌==◌, ◌||◌, ◌∷◌, ◌≡◌}
use Rattle.std.proofs.lemmas.Bool.Decides.{nat_tests}
use Rattle.std.specs.List.{list_any}
use Rattle.tab_ids.specs.declared.NavId.{NavId}

pub or_left : (a b : Bool) → a ≡ true → (a || b) ≡ true
or_left true b is = refl
or_left false b is = cc

pub or_right : (a : Bool) {b : Bool} → b ≡ true → (a || b) ≡ true
or_right true is = refl
or_right false is = is

-- one of these items passes, whatever stands before and after it
pub any_at : {A : Type 0} (test : A → Bool) (first : List A) (x : A) (rest : List A) → test x ≡ true → list_any test (first ++ x ∷ rest) ≡ true
any_at test [] x rest is = or_left (test x) (list_any test rest) is
any_at test (y ∷ first) x rest is = or_right (test y) (any_at test first x rest is)

-- what passes among the later items passes among all
pub any_later : {A : Type 0} (test : A → Bool) (first later : List A) → list_any test later ≡ true → list_any test (first ++ later) ≡ true
any_later test [] later is = is
any_later test (y ∷ first) later is = or_right (test y) (any_later test first later is)

-- a weaker test passes too
pub any_weaker : {A : Type 0} (one two : A → Bool) (items : List A) → ((x : A) → one x ≡ true → two x ≡ true) → list_any one items ≡ true → list_any two items ≡ true
any_weaker one two [] more is = cc
any_weaker one two (x ∷ items) more is = by_test (one x) refl (any_weaker one two items more) is
  where
    by_test : (b : Bool) → one x ≡ b → (list_any one items ≡ true → list_any two items ≡ true) → (b || list_any one items) ≡ true → list_any two (x ∷ items) ≡ true
    by_test true passes others is = or_left (two x) (list_any two items) (more x passes)
    by_test false passes others is = or_right (two x) (others is)

-- a navigable of the list passes
pub any_of : (test : NavId → Bool) (navs : List NavId) (nav : NavId) → has_nav navs nav ≡ true → test nav ≡ true → list_any test navs ≡ true
any_of test navs nav has is = any_weaker (λ (n : NavId). n.0 == nav.0) test navs same has
  where
    same : (n : NavId) → (n.0 == nav.0) ≡ true → test n ≡ true
    same n e =
        let number : n.0 ≡ nav.0 = grind (arith, nat_tests, e) in
        let alike : n ≡ nav = rw number refl in
        rw alike is
