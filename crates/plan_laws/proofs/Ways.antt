-- Ways as lists of navigables and as lists of their numbers.
use Rattle.std.proofs.Common.{◌≡◌, ℕ, Bool, true, false, cond, List, [], ◌∷◌, ◌++◌, map, refl, sym, ap, ◌∙◌, arith}
use Rattle.std.specs.Prelude.{◌==◌, fold, reverse, nat_lt}
use Rattle.std.proofs.lemmas.Bool.Decides.{nat_tests}
use Rattle.std.proofs.lemmas.List.{map-append, reverse-append}
use Rattle.std.specs.declared.cmp.Ordering.{Ordering}
use Rattle.std.specs.declared.cmp.Ordering.TheVariants.{Less, Equal, Greater}
use Rattle.std.specs.Ordering.{nat_cmp, ordering_then}
use Rattle.std.specs.Cmp.Lexicographic.{slice_cmp}
use Rattle.tab_ids.specs.declared.NavId.{NavId}
use Rattle.log_model.specs.Walk.{backwards, is_way_before}

-- the numbers of the navigables
abbrev pub numbers : List NavId → List ℕ
numbers navs = map (λ (nav : NavId). nav.0) navs

back_onto : (acc l : List NavId) → fold (λ (done : List NavId) (nav : NavId). nav ∷ done) acc l ≡ backwards l ++ acc
back_onto acc [] = refl
back_onto acc (x ∷ l) = back_onto (x ∷ acc) l ∙ sym (moved (backwards l) x acc) ∙ ap (λ (m : List NavId). m ++ acc) (sym (back_onto (x ∷ []) l))
  where
    moved : (m : List NavId) (x : NavId) (acc : List NavId) → (m ++ x ∷ []) ++ acc ≡ m ++ x ∷ acc
    moved [] x acc = refl
    moved (y ∷ m) x acc = ap (λ (k : List NavId). y ∷ k) (moved m x acc)

pub numbers_back : (l : List NavId) → reverse (numbers l) ≡ numbers (backwards l)
numbers_back [] = refl
numbers_back (x ∷ l) =
    reverse-append (x.0 ∷ []) (numbers l)
    ∙ ap (λ (m : List ℕ). m ++ x.0 ∷ []) (numbers_back l)
    ∙ sym (map-append (λ (nav : NavId). nav.0) (backwards l) (x ∷ []))
    ∙ ap numbers (sym (back_onto (x ∷ []) l))

pub back_back : (l : List NavId) → backwards (backwards l) ≡ l
back_back [] = refl
back_back (x ∷ l) = ap backwards (back_onto (x ∷ []) l) ∙ last (backwards l) ∙ ap (λ (m : List NavId). x ∷ m) (back_back l)
  where
    last : (m : List NavId) → backwards (m ++ x ∷ []) ≡ x ∷ backwards m
    last [] = refl
    last (y ∷ m) = back_onto (y ∷ []) (m ++ x ∷ []) ∙ ap (λ (k : List NavId). k ++ y ∷ []) (last m) ∙ ap (λ (k : List NavId). x ∷ k) (sym (back_onto (y ∷ []) m))

-- what the order of their numbers tells of two ways
abbrev pub Tells : List NavId → List NavId → Ordering → Type 0
Tells a b Less = is_way_before a b ≡ true
Tells a b Equal = a ≡ b
Tells a b Greater = is_way_before a b ≡ false

pub tells : (a b : List NavId) → Tells a b (slice_cmp nat_cmp (numbers a) (numbers b))
tells [] [] = refl
tells [] (y ∷ b) = refl
tells (x ∷ a) [] = refl
tells (x ∷ a) (y ∷ b) = by_first (nat_lt x.0 y.0) (x.0 == y.0) refl refl (tells a b)
  where
    more : (o : Ordering) → (x.0 == y.0) ≡ true → Tells a b o → Tells (x ∷ a) (y ∷ b) o
    more Less e t = rw e t
    more Equal e t =
        let same : x ≡ y = ap (λ (n : ℕ). let m : NavId = record { 0 = n } in m) (let s : x.0 ≡ y.0 = grind (arith, nat_tests, e) in s) in
        ap (λ (m : NavId). m ∷ a) same ∙ ap (λ (l : List NavId). y ∷ l) t
    more Greater e t = rw e t

    by_first : (p q : Bool) → nat_lt x.0 y.0 ≡ p → (x.0 == y.0) ≡ q → Tells a b (slice_cmp nat_cmp (numbers a) (numbers b)) → Tells (x ∷ a) (y ∷ b) (ordering_then (cond p Less (cond q Equal Greater)) (slice_cmp nat_cmp (numbers a) (numbers b)))
    by_first true true e f t = let no_ : false ≡ true = grind (arith, nat_tests, e, f) in cc
    by_first true false e f t = rw f e
    by_first false true e f t = more (slice_cmp nat_cmp (numbers a) (numbers b)) f t
    by_first false false e f t = rw f e
