-- What each step does to the tickets.
use Rattle.std.proofs.Common.{◌≡◌, ◌≢◌, ◌⊎◌, ℕ, zero, suc, ◌+◌, ◌<◌, ◌≤◌, List, [], ◌∷◌, ◌++◌, set, length, sym, refl, ap, ◌∙◌, inl, inr, ⊎_elim, lt_of_not-le, arith}
use mathlib.Core.Logic.{dite}
use mathlib.Core.Option.{some, some-injective, some-ne-none}
use native.Mathlib.Decide.{ℕ_discrete, dec_le}
use lib.ListN.{get_elem?}
use Rattle.atomic_table.proofs.Lists.{at_set, set_here, set_else, at_longer}
use Rattle.turn_table.specs.Rule.{ticket_count, with_ticket, AreTickets}
use Rattle.turn_table.proofs.Lists.{in_range, at_end}

abbrev Pass : Type 0
Pass = ℕ × ℕ

counts_set : (xs : List Pass) (i : ℕ) (x y : Pass) → get_elem? xs i ≡ some x → with_ticket (set xs i y) + ticket_count x.0 ≡ with_ticket xs + ticket_count y.0
counts_set [] i x y e = absurd (some-ne-none x (sym e))
counts_set (z ∷ zs) zero x y e = let h : ticket_count z.0 ≡ ticket_count x.0 = ap (λ (p : Pass). ticket_count p.0) (some-injective z x e) in omega arith
counts_set (z ∷ zs) (suc i) x y e = let h = counts_set zs i x y e in omega arith

counts_snoc : (xs : List Pass) (y : Pass) → with_ticket (xs ++ y ∷ []) ≡ with_ticket xs + ticket_count y.0
counts_snoc [] y = omega arith
counts_snoc (z ∷ zs) y = let h = counts_snoc zs y in omega arith

-- what stands after a set, by its two numbers
at_pass : (xs : List Pass) (i j : ℕ) (a b : ℕ) (y : Pass) → get_elem? (set xs i (a, b)) j ≡ some y → ((j ≡ i) × (y.0 ≡ a) × (y.1 ≡ b)) ⊎ ((j ≢ i) × (get_elem? xs j ≡ some y))
at_pass xs i j a b y e = ⊎_elim (λ (t : (j ≡ i) × ((a, b) ≡ y)). inl (t.0, sym (ap (λ (p : Pass). p.0) t.1), sym (ap (λ (p : Pass). p.1) t.1))) (λ t. inr t) (at_set xs i j (a, b) y e)

has_ticket : (n : ℕ) → 2 ≤ n → ticket_count n ≡ 1
has_ticket zero h = absurd (omega arith)
has_ticket (suc zero) h = absurd (omega arith)
has_ticket (suc (suc n)) h = refl

module _ (serving ticket : ℕ) (xs : List Pass) (r : AreTickets serving ticket xs) (i : ℕ) (x : Pass) (at : get_elem? xs i ≡ some x) where
  pub draws : x.0 ≡ 1 → AreTickets serving (ticket + 1) (set xs i (2, ticket))
  draws free = record {
    in_step = let h = r.in_step in omega arith;
    counted = let h = r.counted in let g = counts_set xs i x (2, ticket) at in let k : ticket_count x.0 ≡ 0 = ap ticket_count free in omega arith;
    drawn = λ k low high. dite (ℕ_discrete k ticket) (λ e. (i, (2, ticket), set_here xs i (2, ticket) (in_range xs i x at), omega arith, sym e))
        (λ n. let t = r.drawn k low (omega arith) in let two : 2 ≤ t.1.0 = t.3 in
        (t.0, t.1, set_else xs i t.0 (2, ticket) (λ e. let same : t.1 ≡ x = some-injective t.1 x (sym t.2 ∙ (ap (get_elem? xs) e ∙ at)) in let one : t.1.0 ≡ x.0 = ap (λ (p : Pass). p.0) same in omega arith) ∙ t.2, t.3, t.4));
    once = λ a b y z p q ty tz same. elim (at_pass xs i a 2 ticket y p) [
      | inl u ↦ elim (at_pass xs i b 2 ticket z q) [
        | inl v ↦ u.0 ∙ sym v.0
        | inr v ↦ let h : z.1 < ticket = (r.between b z v.1 tz).1 in let g : y.1 ≡ ticket = u.2 in absurd (omega arith)
      ]
      | inr u ↦ elim (at_pass xs i b 2 ticket z q) [
        | inl v ↦ let h : y.1 < ticket = (r.between a y u.1 ty).1 in let g : z.1 ≡ ticket = v.2 in absurd (omega arith)
        | inr v ↦ r.once a b y z u.1 v.1 ty tz same
      ]
    ];
    between = λ j y p ty. elim (at_pass xs i j 2 ticket y p) [
      | inl u ↦ let g : y.1 ≡ ticket = u.2 in let h = r.in_step in (omega arith, omega arith)
      | inr u ↦ let h = r.between j y u.1 ty in (h.0, let k : y.1 < ticket = h.1 in omega arith)
    ];
    served = λ j y p ty. elim (at_pass xs i j 2 ticket y p) [
      | inl u ↦ let g : y.0 ≡ 2 = u.1 in absurd (omega arith)
      | inr u ↦ r.served j y u.1 ty
    ];
  }

  pub comes : x.0 ≡ 2 → x.1 ≡ serving → AreTickets serving ticket (set xs i (3, serving))
  comes waits mine = record {
    in_step = r.in_step;
    counted = let h = r.counted in let g = counts_set xs i x (3, serving) at in let k : ticket_count x.0 ≡ 1 = ap ticket_count waits in omega arith;
    drawn = λ k low high. let t = r.drawn k low high in dite (ℕ_discrete t.0 i)
        (λ e. let same : t.1 ≡ x = some-injective t.1 x (sym t.2 ∙ (ap (get_elem? xs) e ∙ at)) in
        (i, (3, serving), set_here xs i (3, serving) (in_range xs i x at), omega arith, sym mine ∙ (sym (ap (λ (p : Pass). p.1) same) ∙ t.4)))
        (λ n. (t.0, t.1, set_else xs i t.0 (3, serving) n ∙ t.2, t.3, t.4));
    once = λ a b y z p q ty tz same. elim (at_pass xs i a 3 serving y p) [
      | inl u ↦ elim (at_pass xs i b 3 serving z q) [
        | inl v ↦ u.0 ∙ sym v.0
        | inr v ↦ u.0 ∙ r.once i b x z at v.1 (let w : x.0 ≡ 2 = waits in omega arith) tz (mine ∙ (sym u.2 ∙ same))
      ]
      | inr u ↦ elim (at_pass xs i b 3 serving z q) [
        | inl v ↦ r.once a i y x u.1 at ty (let w : x.0 ≡ 2 = waits in omega arith) (same ∙ (v.2 ∙ sym mine)) ∙ sym v.0
        | inr v ↦ r.once a b y z u.1 v.1 ty tz same
      ]
    ];
    between = λ j y p ty. elim (at_pass xs i j 3 serving y p) [
      | inl u ↦ let g : y.1 ≡ serving = u.2 in let w : 2 ≤ x.0 = (let v : x.0 ≡ 2 = waits in omega arith) in let h : x.1 < ticket = (r.between i x at w).1 in (omega arith, omega arith)
      | inr u ↦ r.between j y u.1 ty
    ];
    served = λ j y p ty. elim (at_pass xs i j 3 serving y p) [
      | inl u ↦ u.2
      | inr u ↦ r.served j y u.1 ty
    ];
  }

  -- no other view is served beside one whose ticket is
  pub alone : 2 ≤ x.0 → x.1 ≡ serving → (j : ℕ) (y : Pass) → j ≢ i → get_elem? xs j ≡ some y → y.0 < 3
  alone two mine j y n e = dite (dec_le 3 y.0) (λ h. absurd (n (r.once j i y x e at (let g : 3 ≤ y.0 = h in omega arith) two (r.served j y e h ∙ sym mine)))) (λ h. lt_of_not-le h)

  pub ends : 3 ≤ x.0 → AreTickets (serving + 1) ticket (set xs i (1, 0))
  ends three = let two : 2 ≤ x.0 = omega arith in let mine : x.1 ≡ serving = r.served i x at three in let room : x.1 < ticket = (r.between i x at two).1 in record {
    in_step = omega arith;
    counted = let h = r.counted in let g = counts_set xs i x (1, 0) at in let k = has_ticket x.0 two in omega arith;
    drawn = λ k low high. let t = r.drawn k (omega arith) high in let is : t.1.1 ≡ k = t.4 in
        (t.0, t.1, set_else xs i t.0 (1, 0) (λ e. let same : t.1 ≡ x = some-injective t.1 x (sym t.2 ∙ (ap (get_elem? xs) e ∙ at)) in let one : t.1.1 ≡ x.1 = ap (λ (p : Pass). p.1) same in omega arith) ∙ t.2, t.3, t.4);
    once = λ a b y z p q ty tz same. elim (at_pass xs i a 1 0 y p) [
      | inl u ↦ let g : y.0 ≡ 1 = u.1 in absurd (omega arith)
      | inr u ↦ elim (at_pass xs i b 1 0 z q) [
        | inl v ↦ let g : z.0 ≡ 1 = v.1 in absurd (omega arith)
        | inr v ↦ r.once a b y z u.1 v.1 ty tz same
      ]
    ];
    between = λ j y p ty. elim (at_pass xs i j 1 0 y p) [
      | inl u ↦ let g : y.0 ≡ 1 = u.1 in absurd (omega arith)
      | inr u ↦ let h = r.between j y u.1 ty in let low : serving ≤ y.1 = h.0 in let other : y.1 ≢ serving = (λ e. u.0 (r.once j i y x u.1 at ty two (e ∙ sym mine))) in (omega arith, h.1)
    ];
    served = λ j y p ty. elim (at_pass xs i j 1 0 y p) [
      | inl u ↦ let g : y.0 ≡ 1 = u.1 in absurd (omega arith)
      | inr u ↦ absurd (u.0 (r.once j i y x u.1 at (let g : 3 ≤ y.0 = ty in omega arith) two (r.served j y u.1 ty ∙ sym mine)))
    ];
  }

  pub joins : x.0 ≡ 1 → AreTickets serving ticket (set xs i (0, 0))
  joins free = record {
    in_step = r.in_step;
    counted = let h = r.counted in let g = counts_set xs i x (0, 0) at in let k : ticket_count x.0 ≡ 0 = ap ticket_count free in omega arith;
    drawn = λ k low high. let t = r.drawn k low high in let two : 2 ≤ t.1.0 = t.3 in
        (t.0, t.1, set_else xs i t.0 (0, 0) (λ e. let same : t.1 ≡ x = some-injective t.1 x (sym t.2 ∙ (ap (get_elem? xs) e ∙ at)) in let one : t.1.0 ≡ x.0 = ap (λ (p : Pass). p.0) same in omega arith) ∙ t.2, t.3, t.4);
    once = λ a b y z p q ty tz same. elim (at_pass xs i a 0 0 y p) [
      | inl u ↦ let g : y.0 ≡ 0 = u.1 in absurd (omega arith)
      | inr u ↦ elim (at_pass xs i b 0 0 z q) [
        | inl v ↦ let g : z.0 ≡ 0 = v.1 in absurd (omega arith)
        | inr v ↦ r.once a b y z u.1 v.1 ty tz same
      ]
    ];
    between = λ j y p ty. elim (at_pass xs i j 0 0 y p) [
      | inl u ↦ let g : y.0 ≡ 0 = u.1 in absurd (omega arith)
      | inr u ↦ r.between j y u.1 ty
    ];
    served = λ j y p ty. elim (at_pass xs i j 0 0 y p) [
      | inl u ↦ let g : y.0 ≡ 0 = u.1 in absurd (omega arith)
      | inr u ↦ r.served j y u.1 ty
    ];
  }

module _ (serving ticket : ℕ) (xs : List Pass) (r : AreTickets serving ticket xs) where
  pub splits : AreTickets serving ticket (xs ++ (1, 0) ∷ [])
  splits = record {
    in_step = r.in_step;
    counted = let h = r.counted in let g = counts_snoc xs (1, 0) in omega arith;
    drawn = λ k low high. let t = r.drawn k low high in (t.0, t.1, at_longer xs ((1, 0) ∷ []) t.0 t.1 t.2, t.3, t.4);
    once = λ a b y z p q ty tz same. r.once a b y z (old a y p ty) (old b z q tz) ty tz same;
    between = λ j y p ty. r.between j y (old j y p ty) ty;
    served = λ j y p ty. r.served j y (old j y p (let g : 3 ≤ y.0 = ty in omega arith)) ty;
  }
    where
      old : (j : ℕ) (y : Pass) → get_elem? (xs ++ (1, 0) ∷ []) j ≡ some y → 2 ≤ y.0 → get_elem? xs j ≡ some y
      old j y p ty = ⊎_elim (λ t. t) (λ (t : (j ≡ length xs) × ((1, 0) ≡ y)). let g : 1 ≡ y.0 = ap (λ (p : Pass). p.0) t.1 in absurd (omega arith)) (at_end xs (1, 0) y j p)

pub opens : AreTickets 0 0 ((1, 0) ∷ [])
opens = record {
  in_step = omega arith;
  counted = refl;
  drawn = λ k low high. absurd (omega arith);
  once = λ a b y z p q ty tz same. absurd (only a y p ty);
  between = λ j y p ty. absurd (only j y p ty);
  served = λ j y p ty. absurd (only j y p (let g : 3 ≤ y.0 = ty in omega arith));
}
  where
    only : (j : ℕ) (y : Pass) → get_elem? ((1, 0) ∷ []) j ≡ some y → 2 ≤ y.0 → ⊥
    only zero y p ty = let g : 1 ≡ y.0 = ap (λ (p : Pass). p.0) (some-injective (1, 0) y p) in omega arith
    only (suc j) y p ty = some-ne-none y (sym p)
