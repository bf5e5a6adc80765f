-- The document for whose sake the user is to be asked is there, and stays the same as others go.
use Rattle.log_model.specs.Checks.{due_prompt, lower_doc, prompting}
use Rattle.log_model.specs.Equal.{holds}
use Rattle.log_model.specs.Outcomes.{is_drop}
use Rattle.log_model.specs.Places.{is_gone}
use Rattle.log_model.specs.Seen.{Asked, Seen}
use Rattle.std.proofs.Common.{Bool, List, None, Option, Some, [], ap, arith, false, filter, not, refl, subst, sym, true, ℕ, ◌==◌, ◌∙◌, ◌∷◌, ◌≡◌}
use Rattle.std.proofs.lemmas.Bool.Decides.{nat_tests}
use Rattle.std.specs.Prelude.{fold, if◌then◌else◌, nat_lt}
use Rattle.tab_ids.specs.declared.DocId.{DocId}

some_same : {A : Type 0} {a b : A} → (let o : Option A = Some a in o) ≡ Some b → a ≡ b
some_same is = cc

never : {A : Type 0} → true ≡ false → A
never is = absurd cc

doc_same : (a b : DocId) → (a.0 == b.0) ≡ true → a ≡ b
doc_same a b e =
    let n : a.0 ≡ b.0 = grind (arith, nat_tests, e) in ap (λ (i : ℕ). let x : DocId = record { 0 = i } in x) n

itself : (d : DocId) → (d.0 == d.0) ≡ true
itself d = grind (arith, nat_tests)

-- the lowest of more documents, and of fewer: where the one is this document the other is
abbrev Fits : DocId → Option DocId → Option DocId → Type 0
Fits d None None = Unit {0}
Fits d None (Some b) = ⊥
Fits d (Some a) None = (a.0 == d.0) ≡ false
Fits d (Some a) (Some b) = (nat_lt b.0 a.0 ≡ false) × ((a.0 == d.0) ≡ true → (b.0 == d.0) ≡ true)

fits_end : (d : DocId) (a b : Option DocId) → Fits d a b → a ≡ Some d → b ≡ Some d
fits_end d None b fits is = absurd cc
fits_end d (Some a) None fits is =
    let it : (a.0 == d.0) ≡ true = subst (λ (x : DocId). (x.0 == d.0) ≡ true) (sym (some_same is)) (itself d) in
    never (sym it ∙ fits)
fits_end d (Some a) (Some b) fits is =
    let it : (a.0 == d.0) ≡ true = subst (λ (x : DocId). (x.0 == d.0) ≡ true) (sym (some_same is)) (itself d) in
    ap (λ (x : DocId). let o : Option DocId = Some x in o) (doc_same b d (fits.1 it))

below_none : (x : DocId) → nat_lt x.0 x.0 ≡ false
below_none x = grind (arith, nat_tests)

-- one more in both
fits_both : (d : DocId) (a b : Option DocId) (x : DocId) → Fits d a b → Fits d (lower_doc a x) (lower_doc b x)
fits_both d None None x fits = (below_none x, λ is. is)
fits_both d None (Some b) x fits = absurd fits
fits_both d (Some a) None x fits = by_less (nat_lt x.0 a.0) refl
  where
    by_less : (l : Bool) → nat_lt x.0 a.0 ≡ l → Fits d (if l then Some x else Some a) (Some x)
    by_less true e = (below_none x, λ is. is)
    by_less false e = (e, λ is. never (sym is ∙ fits))
fits_both d (Some a) (Some b) x fits = by_less (nat_lt x.0 a.0) (nat_lt x.0 b.0) refl refl
  where
    by_less : (l m : Bool) → nat_lt x.0 a.0 ≡ l → nat_lt x.0 b.0 ≡ m → Fits d (if l then Some x else Some a) (if m then Some x else Some b)
    by_less true true e f = (below_none x, λ is. is)
    by_less true false e f = absurd (let low : nat_lt b.0 a.0 ≡ false = fits.0 in grind (arith, nat_tests, e, f, low))
    by_less false true e f = (e, λ is. (let at : (b.0 == d.0) ≡ true = fits.1 is in let low : nat_lt b.0 a.0 ≡ false = fits.0 in grind (arith, nat_tests, e, f, low, is, at)))
    by_less false false e f = fits

-- or in the one alone, another document
fits_one : (d : DocId) (a b : Option DocId) (x : DocId) → (x.0 == d.0) ≡ false → Fits d a b → Fits d (lower_doc a x) b
fits_one d None None x apart fits = apart
fits_one d None (Some b) x apart fits = absurd fits
fits_one d (Some a) None x apart fits = by_less (nat_lt x.0 a.0)
  where
    by_less : (l : Bool) → Fits d (if l then Some x else Some a) None
    by_less true = apart
    by_less false = fits
fits_one d (Some a) (Some b) x apart fits = by_less (nat_lt x.0 a.0) refl
  where
    by_less : (l : Bool) → nat_lt x.0 a.0 ≡ l → Fits d (if l then Some x else Some a) (Some b)
    by_less true e = (let low : nat_lt b.0 a.0 ≡ false = fits.0 in grind (arith, nat_tests, e, low), λ is. never (sym is ∙ apart))
    by_less false e = fits

-- over all
module _ (d : DocId) (p r : DocId → Bool) (fewer : (x : DocId) → r x ≡ true → p x ≡ true) (stays : r d ≡ true) where
  lowest_on : (xs : List DocId) (a b : Option DocId) → Fits d a b → Fits d (fold lower_doc a (filter p xs)) (fold lower_doc b (filter r xs))
  lowest_on [] a b fits = fits
  lowest_on (x ∷ xs) a b fits = by_tests (p x) (r x) refl refl (lowest_on xs)
    where
      apart : r x ≡ false → (x.0 == d.0) ≡ false
      apart out_ = by_test (x.0 == d.0) refl
        where
          by_test : (t : Bool) → (x.0 == d.0) ≡ t → t ≡ false
          by_test false e = refl
          by_test true e = never (sym stays ∙ ap r (sym (doc_same x d e)) ∙ out_)

      by_tests : (t u : Bool) → p x ≡ t → r x ≡ u → ((a b : Option DocId) → Fits d a b → Fits d (fold lower_doc a (filter p xs)) (fold lower_doc b (filter r xs))) → Fits d (fold lower_doc a (if t then x ∷ filter p xs else filter p xs)) (fold lower_doc b (if u then x ∷ filter r xs else filter r xs))
      by_tests true true e f rest = rest (lower_doc a x) (lower_doc b x) (fits_both d a b x fits)
      by_tests true false e f rest = rest (lower_doc a x) b (fits_one d a b x (apart f) fits)
      by_tests false true e f rest = never (sym (fewer x f) ∙ e)
      by_tests false false e f rest = rest a b fits

  pub lowest_stays : (xs : List DocId) → fold lower_doc None (filter p xs) ≡ Some d → fold lower_doc None (filter r xs) ≡ Some d
  lowest_stays xs is = fits_end d (fold lower_doc None (filter p xs)) (fold lower_doc None (filter r xs)) (lowest_on xs None None tt) is

-- ---- the prompt that is due

-- stays, where more documents are gone, but not its own
pub due_stays : (s t : Seen) (q : Asked) (d : DocId) → ((doc : DocId) → is_gone s doc ≡ true → is_gone t doc ≡ true) → is_gone t d ≡ false → due_prompt s q ≡ Some d → due_prompt t q ≡ Some d
due_stays s t q d gone there is = by_drop (holds is_drop q.ending) is
  where
    fewer : (x : DocId) → not (is_gone t x) ≡ true → not (is_gone s x) ≡ true
    fewer x on = by_gone (is_gone s x) refl
      where
        by_gone : (b : Bool) → is_gone s x ≡ b → not b ≡ true
        by_gone false e = refl
        by_gone true e = (let no : false ≡ true = sym (ap not (gone x e)) ∙ on in absurd cc)

    by_drop : (b : Bool) → (if b then None else fold lower_doc None (prompting s q)) ≡ Some d → (if b then None else fold lower_doc None (prompting t q)) ≡ Some d
    by_drop true at = absurd cc
    by_drop false at =
        lowest_stays d (λ doc. not (is_gone s doc)) (λ doc. not (is_gone t doc)) fewer (ap not there) _ at

-- and its document is there
lowest_passes : (p : DocId → Bool) (d : DocId) (xs : List DocId) (a : Option DocId) → ((x : DocId) → a ≡ Some x → p x ≡ true) → fold lower_doc a (filter p xs) ≡ Some d → p d ≡ true
lowest_passes p d [] a passes is = passes d is
lowest_passes p d (x ∷ xs) a passes is = by_test (p x) refl is (lowest_passes p d xs)
  where
    lower : p x ≡ true → (b : Option DocId) → a ≡ b → (y : DocId) → lower_doc b x ≡ Some y → p y ≡ true
    lower on None at y same = subst (λ (z : DocId). p z ≡ true) (some_same same) on
    lower on (Some b) at y same = by_less (nat_lt x.0 b.0) same
      where
        by_less : (l : Bool) → (if l then Some x else Some b) ≡ Some y → p y ≡ true
        by_less true e = subst (λ (z : DocId). p z ≡ true) (some_same e) on
        by_less false e = passes y (at ∙ e)

    by_test : (t : Bool) → p x ≡ t → fold lower_doc a (if t then x ∷ filter p xs else filter p xs) ≡ Some d → ((b : Option DocId) → ((y : DocId) → b ≡ Some y → p y ≡ true) → fold lower_doc b (filter p xs) ≡ Some d → p d ≡ true) → p d ≡ true
    by_test true on at rest = rest (lower_doc a x) (lower on a refl) at
    by_test false off at rest = rest a passes at

pub due_there : (s : Seen) (q : Asked) (d : DocId) → due_prompt s q ≡ Some d → is_gone s d ≡ false
due_there s q d is = by_drop (holds is_drop q.ending) is
  where
    out_of : (b : Bool) → not b ≡ true → b ≡ false
    out_of false e = refl
    out_of true e = absurd cc

    by_drop : (b : Bool) → (if b then None else fold lower_doc None (prompting s q)) ≡ Some d → is_gone s d ≡ false
    by_drop true at = absurd cc
    by_drop false at =
        out_of (is_gone s d) (lowest_passes (λ doc. not (is_gone s doc)) d _ None (λ x never_. absurd cc) at)
