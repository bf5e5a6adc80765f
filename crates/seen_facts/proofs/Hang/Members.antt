-- The items of a list, and what filters, changes of each and longer lists make of them.
use Rattle.std.proofs.Common.{◌≡◌, ◌⊎◌, inl, inr, ℕ, zero, suc, Bool, true, false, cond, ◌||◌, List, [], ◌∷◌, ◌++◌, map, refl, sym, ap, ◌∙◌, subst, Some}
use Rattle.std.specs.Prelude.{filter, find, slice_get}
use Rattle.std.specs.List.{list_any}
use Rattle.log_model.specs.declared.row.Row.{Row}
use Rattle.log_model.specs.History.{is_anchored, tidied}
use Rattle.history_laws.proofs.Members.{IsIn}
use Rattle.history_laws.proofs.Tidying.{tidied-filter}
use Rattle.seen_facts.specs.Hang.Members.{Has}

-- what a filter keeps passes
pub has_filter : {A : Type 0} (p : A → Bool) (xs : List A) (x : A) → Has (filter p xs) x → Has xs x × (p x ≡ true)
has_filter p [] x h = absurd h
has_filter {A} p (y ∷ ys) x h = by_test (p y) refl (has_filter p ys x) h
  where
    by_test : (b : Bool) → p y ≡ b → (Has (filter p ys) x → Has ys x × (p x ≡ true)) → Has (cond b (y ∷ filter p ys) (filter p ys)) x → ((y ≡ x) ⊎ Has ys x) × (p x ≡ true)
    by_test true e rest (inl same) = (inl same, subst (λ (z : A). p z ≡ true) same e)
    by_test true e rest (inr more) = (inr (rest more).0, (rest more).1)
    by_test false e rest more = (inr (rest more).0, (rest more).1)

pub into_filter : {A : Type 0} (p : A → Bool) (xs : List A) (x : A) → Has xs x → p x ≡ true → Has (filter p xs) x
into_filter p [] x h e = absurd h
into_filter {A} p (y ∷ ys) x (inl same) e = rw (subst (λ (z : A). p z ≡ true) (sym same) e) (inl same)
into_filter p (y ∷ ys) x (inr more) e = by_test (p y) (into_filter p ys x more e)
  where
    by_test : (b : Bool) → Has (filter p ys) x → Has (cond b (y ∷ filter p ys) (filter p ys)) x
    by_test true rest = inr rest
    by_test false rest = rest

-- what each becomes
pub record IsOf {A : Type 0} {B : Type 0} (f : A → B) (xs : List A) (y : B) : Type 0 where
  pub it : A
  pub there : Has xs it
  pub is : f it ≡ y

pub has_map : {A : Type 0} {B : Type 0} (f : A → B) (xs : List A) (y : B) → Has (map f xs) y → IsOf f xs y
has_map f [] y h = absurd h
has_map f (x ∷ xs) y (inl same) = record { it = x; there = inl refl; is = same }
has_map f (x ∷ xs) y (inr more) = let rest = has_map f xs y more in record { it = rest.it; there = inr rest.there; is = rest.is }

pub into_map : {A : Type 0} {B : Type 0} (f : A → B) (xs : List A) (x : A) → Has xs x → Has (map f xs) (f x)
into_map f [] x h = absurd h
into_map f (y ∷ ys) x (inl same) = inl (ap f same)
into_map f (y ∷ ys) x (inr more) = inr (into_map f ys x more)

-- longer lists
pub has_more : {A : Type 0} (xs : List A) (y x : A) → Has (xs ++ y ∷ []) x → Has xs x ⊎ (y ≡ x)
has_more [] y x (inl same) = inr same
has_more [] y x (inr none) = absurd none
has_more (z ∷ zs) y x (inl same) = inl (inl same)
has_more (z ∷ zs) y x (inr more) = by_case (has_more zs y x more)
  where
    by_case : Has zs x ⊎ (y ≡ x) → ((z ≡ x) ⊎ Has zs x) ⊎ (y ≡ x)
    by_case (inl there) = inl (inr there)
    by_case (inr same) = inr same

pub into_more : {A : Type 0} (xs : List A) (y x : A) → Has xs x → Has (xs ++ y ∷ []) x
into_more [] y x h = absurd h
into_more (z ∷ zs) y x (inl same) = inl same
into_more (z ∷ zs) y x (inr more) = inr (into_more zs y x more)

pub into_last : {A : Type 0} (xs : List A) (y : A) → Has (xs ++ y ∷ []) y
into_last [] y = inl refl
into_last (z ∷ zs) y = inr (into_last zs y)

-- the items that pass tests
pub has_any : {A : Type 0} (test : A → Bool) (xs : List A) (x : A) → Has xs x → test x ≡ true → list_any test xs ≡ true
has_any test [] x h e = absurd h
has_any {A} test (y ∷ ys) x (inl same) e = ap (λ (b : Bool). b || list_any test ys) (subst (λ (z : A). test z ≡ true) (sym same) e)
has_any test (y ∷ ys) x (inr more) e = by_test (test y) (has_any test ys x more e)
  where
    by_test : (b : Bool) → list_any test ys ≡ true → (b || list_any test ys) ≡ true
    by_test true rest = refl
    by_test false rest = rest

pub is_in : {A : Type 0} (xs : List A) (x : A) → Has xs x → IsIn xs x
is_in xs x h test e = has_any test xs x h e

pub record Passing {A : Type 0} (test : A → Bool) (xs : List A) : Type 0 where
  pub it : A
  pub there : Has xs it
  pub passes : test it ≡ true

pub any_has : {A : Type 0} (test : A → Bool) (xs : List A) → list_any test xs ≡ true → Passing test xs
any_has test [] any = cc
any_has test (x ∷ xs) any = by_test (test x) refl (any_has test xs) any
  where
    by_test : (b : Bool) → test x ≡ b → (list_any test xs ≡ true → Passing test xs) → (b || list_any test xs) ≡ true → Passing test (x ∷ xs)
    by_test true e rest any = record { it = x; there = inl refl; passes = e }
    by_test false e rest any = let w = rest any in record { it = w.it; there = inr w.there; passes = w.passes }

pub find_has : {A : Type 0} (test : A → Bool) (xs : List A) (x : A) → find test xs ≡ Some x → Has xs x × (test x ≡ true)
find_has test [] x e = cc
find_has {A} test (y ∷ ys) x e = by_test (test y) refl (find_has test ys x) e
  where
    by_test : (b : Bool) → test y ≡ b → (find test ys ≡ Some x → Has ys x × (test x ≡ true)) → cond b (Some y) (find test ys) ≡ Some x → ((y ≡ x) ⊎ Has ys x) × (test x ≡ true)
    by_test true t rest e = let same : y ≡ x = cc in (inl same, subst (λ (z : A). test z ≡ true) same t)
    by_test false t rest e = (inr (rest e).0, (rest e).1)

-- an item that passes is found
pub has_found : {A : Type 0} (test : A → Bool) (xs : List A) (x : A) → Has xs x → test x ≡ true → (y : A) × (find test xs ≡ Some y)
has_found test [] x h e = absurd h
has_found {A} test (y ∷ ys) x h e = by_test (test y) refl (λ more. has_found test ys x more e) h
  where
    by_test : (b : Bool) → test y ≡ b → (Has ys x → (z : A) × (find test ys ≡ Some z)) → (y ≡ x) ⊎ Has ys x → (z : A) × (cond b (Some y) (find test ys) ≡ Some z)
    by_test true t rest h = (y, refl)
    by_test false t rest (inl same) = let no_ : true ≡ false = sym (subst (λ (z : A). test z ≡ true) (sym same) e) ∙ t in cc
    by_test false t rest (inr more) = rest more

pub slice_has : {A : Type 0} (xs : List A) (i : ℕ) (x : A) → slice_get xs i ≡ Some x → Has xs x
slice_has [] i x e = cc
slice_has (y ∷ ys) zero x e = let same : y ≡ x = cc in inl same
slice_has (y ∷ ys) (suc i) x e = inr (slice_has ys i x e)

-- what tidying keeps is anchored in what it keeps
pub has_tidied : (rows : List Row) (row : Row) → Has (tidied rows) row → Has rows row × (is_anchored (tidied rows) row ≡ true)
has_tidied rows row h =
    has_filter (is_anchored (tidied rows)) rows row (subst (λ (l : List Row). Has l row) (tidied-filter rows) h)

pub into_tidied : (rows : List Row) (row : Row) → Has rows row → is_anchored (tidied rows) row ≡ true → Has (tidied rows) row
into_tidied rows row h anchored =
    subst (λ (l : List Row). Has l row) (sym (tidied-filter rows)) (into_filter (is_anchored (tidied rows)) rows row h anchored)
