-- Histories that grow: what was seen is a beginning, and the turns of one seat in it.
use Rattle.std.proofs.Common.{◌≡◌, ◌≢◌, ◌⊎◌, ℕ, suc, ◌+◌, ◌<◌, ◌≤◌, Bool, true, false, List, [], ◌∷◌, ◌++◌, length, cond, sym, refl, ap, ◌∙◌, subst, inl, inr, ⊎_elim, arith, append_assoc, append-nil, bytes_eq, Option, lt-ltb, le-ltb, lt_of_not-le, if◌then◌else◌}
use mathlib.Core.Logic.{dite}
use mathlib.Core.List.{IsPrefix, cons≢nil, head-eq_of_cons-eq, tail-eq_of_cons-eq}
use native.Mathlib.Decide.{dec_le}
use lib.ListN.{length-append}
use Rattle.std.proofs.lemmas.List.Elements.{filter-append}
use Rattle.std.proofs.lemmas.Slice.Eq.{bytes_eq-Decides}
use Rattle.turn_table.specs.declared.view.Row.{Row}
use Rattle.turn_table.specs.History.{turns_of, longer, Leads, StandsFor}

bool_cases : (b : Bool) → (b ≡ true) ⊎ (b ≡ false)
bool_cases true = inl refl
bool_cases false = inr refl

module _ {A : Type 0} where
  pub prefix_refl : (xs : List A) → IsPrefix xs xs
  prefix_refl xs = ([], append-nil xs)

  pub prefix_trans : (xs ys zs : List A) → IsPrefix xs ys → IsPrefix ys zs → IsPrefix xs zs
  prefix_trans xs ys zs p q = (p.0 ++ q.0, sym (append_assoc xs p.0 q.0) ∙ (ap (λ l. l ++ q.0) p.1 ∙ q.1))

  pub prefix_snoc : (xs ys : List A) (a : A) → IsPrefix xs ys → IsPrefix xs (ys ++ a ∷ [])
  prefix_snoc xs ys a p = (p.0 ++ a ∷ [], sym (append_assoc xs p.0 (a ∷ [])) ∙ ap (λ l. l ++ a ∷ []) p.1)

  pub shorter : (xs ys zs : List A) → IsPrefix xs zs → IsPrefix ys zs → length xs ≤ length ys → IsPrefix xs ys
  shorter [] ys zs p q h = (ys, refl)
  shorter (x ∷ xs) [] zs p q h = absurd (omega arith)
  shorter (x ∷ xs) (y ∷ ys) [] p q h = absurd (cons≢nil p.1)
  shorter (x ∷ xs) (y ∷ ys) (z ∷ zs) p q h = let t = shorter xs ys zs (p.0, tail-eq_of_cons-eq p.1) (q.0, tail-eq_of_cons-eq q.1) (omega arith) in let e : x ≡ y = head-eq_of_cons-eq p.1 ∙ sym (head-eq_of_cons-eq q.1) in
      (t.0, λ i. e i ∷ t.1 i)

  pub nothing_longer : (xs : List A) → length xs ≡ 0 → xs ≡ []
  nothing_longer [] e = refl
  nothing_longer (x ∷ xs) e = absurd (omega arith)

module _ {E R : Type 0} where
  longer_cases : (xs ys : List (Row E R)) → ((length xs < length ys) × (longer xs ys ≡ ys)) ⊎ ((length ys ≤ length xs) × (longer xs ys ≡ xs))
  longer_cases xs ys = dite (dec_le (length ys) (length xs)) (λ h. inr (h, ap (λ (b : Bool). if b then ys else xs) (le-ltb (length xs) (length ys) h)))
      (λ h. let lt = lt_of_not-le h in inl (lt, ap (λ (b : Bool). if b then ys else xs) (lt-ltb (length xs) (length ys) lt)))

  pub longer_nothing : (xs : List (Row E R)) → longer xs [] ≡ xs
  longer_nothing xs = elim (longer_cases xs []) [
    | inl t ↦ let h : length xs < length {A = Row E R} [] = t.0 in absurd (omega arith)
    | inr t ↦ t.1
  ]

  -- the longer of two beginnings of one history begins with both, and is one
  pub longer_of : (xs ys log : List (Row E R)) → IsPrefix xs log → IsPrefix ys log → IsPrefix xs (longer xs ys) × IsPrefix ys (longer xs ys) × IsPrefix (longer xs ys) log
  longer_of xs ys log p q = elim (longer_cases xs ys) [
    | inl t ↦ let h : length xs < length ys = t.0 in subst (λ (l : List (Row E R)). IsPrefix xs l × IsPrefix ys l × IsPrefix l log) (sym t.1) (shorter xs ys log p q (omega arith), prefix_refl ys, q)
    | inr t ↦ subst (λ (l : List (Row E R)). IsPrefix xs l × IsPrefix ys l × IsPrefix l log) (sym t.1) (prefix_refl xs, shorter ys xs log q p t.0, p)
  ]

  abbrev by : List ℕ → Row E R → Bool
  by name row = bytes_eq row.seat name

  pub own_turn : (name : List ℕ) (log : List (Row E R)) (row : Row E R) → row.seat ≡ name → turns_of name (log ++ row ∷ []) ≡ turns_of name log ++ row ∷ []
  own_turn name log row e = filter-append (by name) log (row ∷ []) ∙ ap (λ (b : Bool). turns_of name log ++ cond b (row ∷ []) []) ((bytes_eq-Decides row.seat name).1 e)

  pub other_turn : (name : List ℕ) (log : List (Row E R)) (row : Row E R) → row.seat ≢ name → turns_of name (log ++ row ∷ []) ≡ turns_of name log
  other_turn name log row n = filter-append (by name) log (row ∷ []) ∙ (ap (λ (b : Bool). turns_of name log ++ cond b (row ∷ []) []) not_by ∙ append-nil (turns_of name log))
    where
      not_by : bytes_eq row.seat name ≡ false
      not_by = ⊎_elim (λ h. absurd (n ((bytes_eq-Decides row.seat name).0 h))) (λ h. h) (bool_cases (bytes_eq row.seat name))

  -- what lies between two histories with the same turns of a seat has these too
  pub between : (name : List ℕ) (xs ys zs own : List (Row E R)) → IsPrefix xs ys → IsPrefix ys zs → turns_of name xs ≡ own → turns_of name zs ≡ own → turns_of name ys ≡ own
  between name xs ys zs own p q at_xs at_zs =
      let f : List (Row E R) → List (Row E R) = turns_of name in
      let a : f ys ≡ f xs ++ f p.0 = ap f (sym p.1) ∙ filter-append (by name) xs p.0 in
      let b : f zs ≡ f ys ++ f q.0 = ap f (sym q.1) ∙ filter-append (by name) ys q.0 in
      let x : length (f xs) ≡ length own = ap (λ (l : List (Row E R)). length l) at_xs in
      let z : length (f zs) ≡ length own = ap (λ (l : List (Row E R)). length l) at_zs in
      let c : length (f ys) ≡ length (f xs) + length (f p.0) = ap (λ (l : List (Row E R)). length l) a ∙ length-append (f xs) (f p.0) in
      let d : length (f zs) ≡ length (f ys) + length (f q.0) = ap (λ (l : List (Row E R)). length l) b ∙ length-append (f ys) (f q.0) in
      let none : length (f p.0) ≡ 0 = omega arith in
      a ∙ (ap (λ (l : List (Row E R)). f xs ++ l) (nothing_longer (f p.0) none) ∙ (append-nil (f xs) ∙ at_xs))

  -- a name that no turn has
  pub no_turns : (name : List ℕ) (log : List (Row E R)) → ((i : ℕ) (row : Row E R) → lib.ListN.get_elem? log i ≡ mathlib.Core.Option.some row → row.seat ≢ name) → turns_of name log ≡ []
  no_turns name [] h = refl
  no_turns name (row ∷ log) h = elim (bool_cases (bytes_eq row.seat name)) [
    | inl e ↦ absurd (h 0 row refl ((bytes_eq-Decides row.seat name).0 e))
    | inr e ↦ ap (λ (b : Bool). cond b (row ∷ turns_of name log) (turns_of name log)) e ∙ no_turns name log (λ i r g. h (suc i) r g)
  ]

  pub few : (name : List ℕ) (log : List (Row E R)) → length (turns_of name log) ≤ length log
  few name [] = omega arith
  few name (row ∷ log) = let h = few name log in elim (bool_cases (bytes_eq row.seat name)) [
    | inl e ↦ let g : length (turns_of name (row ∷ log)) ≡ suc (length (turns_of name log)) = ap (λ (b : Bool). length (cond b (row ∷ turns_of name log) (turns_of name log))) e in omega arith
    | inr e ↦ let g : length (turns_of name (row ∷ log)) ≡ length (turns_of name log) = ap (λ (b : Bool). length (cond b (row ∷ turns_of name log) (turns_of name log))) e in omega arith
  ]

module _ {V E R : Type 0} (goes : V → E → R → V → Type 0) where
  leads_on : (a b c : V) (log : List (Row E R)) (row : Row E R) → Leads goes a log b → goes b row.event row.reply c → Leads goes a (log ++ row ∷ []) c
  leads_on a b c [] row h g = (c, subst (λ (x : V). goes x row.event row.reply c) (sym h) g, refl)
  leads_on a b c (x ∷ xs) row h g = (h.0, h.1, leads_on h.0 b c xs row h.2 g)

  pub stands_on : (opening : Option V) (b c : V) (log : List (Row E R)) (row : Row E R) → StandsFor goes opening log b → goes b row.event row.reply c → StandsFor goes opening (log ++ row ∷ []) c
  stands_on opening b c log row h g = (h.0, h.1, leads_on h.0 b c log row h.2 g)
