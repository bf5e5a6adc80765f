-- What each step does to the names of the seats.
use Rattle.std.proofs.Common.{◌≡◌, ◌≢◌, ◌⊎◌, ℕ, zero, suc, ◌+◌, ◌<◌, ◌≤◌, List, [], ◌∷◌, ◌++◌, set, length, sym, refl, ap, ◌∙◌, inl, inr, ⊎_elim, arith, append_assoc}
use mathlib.Core.Logic.{dite}
use mathlib.Core.List.{cons≢nil, head-eq_of_cons-eq, tail-eq_of_cons-eq}
use mathlib.Core.Option.{some, some-injective, some-ne-none}
use native.Mathlib.Decide.{ℕ_discrete}
use lib.ListN.{get_elem?, length-append, length-set}
use Rattle.atomic_table.proofs.Lists.{at_set, set_here, set_else, at_longer}
use Rattle.turn_table.specs.declared.view.Row.{Row}
use Rattle.turn_table.specs.Rule.{Tag, AreNames}
use Rattle.turn_table.proofs.Lists.{in_range, at_end, at_joined, at_rest}

-- a name with one number more begins with another and a number: that is the whole name, or the name before begins so
last_number : (xs ys rest : List ℕ) (k s : ℕ) → xs ++ s ∷ [] ≡ ys ++ k ∷ rest → ((xs ≡ ys) × (s ≡ k)) ⊎ ((more : List ℕ) × (xs ≡ ys ++ k ∷ more))
last_number [] [] rest k s e = inl (refl, head-eq_of_cons-eq e)
last_number [] (y ∷ []) rest k s e = absurd (cons≢nil (sym (tail-eq_of_cons-eq e)))
last_number [] (y ∷ z ∷ ys) rest k s e = absurd (cons≢nil (sym (tail-eq_of_cons-eq e)))
last_number (x ∷ xs) [] rest k s e = inr (xs, ap (λ h. h ∷ xs) (head-eq_of_cons-eq e))
last_number (x ∷ xs) (y ∷ ys) rest k s e = let h : x ≡ y = head-eq_of_cons-eq e in
    ⊎_elim (λ t. inl ((λ i. h i ∷ t.0 i), t.1)) (λ t. inr (t.0, λ i. h i ∷ t.1 i)) (last_number xs ys rest k s (tail-eq_of_cons-eq e))

longer_differs : (xs rest : List ℕ) (k : ℕ) → xs ≢ xs ++ k ∷ rest
longer_differs xs rest k e = let h : length xs ≡ length xs + length (k ∷ rest) = ap (λ l. length l) e ∙ length-append xs (k ∷ rest) in let g : length (k ∷ rest) ≡ suc (length rest) = refl in omega arith

single : (x n : List ℕ) (q : ℕ) → get_elem? (x ∷ []) q ≡ some n → (q ≡ 0) × (x ≡ n)
single x n zero e = (refl, some-injective x n e)
single x n (suc q) e = absurd (some-ne-none n (sym e))

module _ {E R : Type 0} (log : List (Row E R)) where
  pub opens : (splits : ℕ) → AreNames {E = E} {R = R} [] (record { names = [] ∷ []; splits = splits } ∷ [])
  opens splits = record {
    differ = λ i j p q t u n a b c d. (only i t a ∙ sym (only j u b), (single [] n p (named i t p n a c)).0 ∙ sym (single [] n q (named j u q n b d)).0);
    unsplit = λ i j q k t u own n rest a b c le d e. longer_differs own rest k
        ((sym (single [] own 0 (named i t 0 own a c)).1 ∙ (single [] n q (named j u q n b d)).1) ∙ e);
    known = λ i row e. absurd (some-ne-none row (sym e));
  }
    where
      only : (i : ℕ) (t : Tag) → get_elem? (record { names = [] ∷ []; splits = splits } ∷ []) i ≡ some t → i ≡ 0
      only zero t a = refl
      only (suc i) t a = absurd (some-ne-none t (sym a))

      named : (i : ℕ) (t : Tag) (p : ℕ) (n : List ℕ) → get_elem? (record { names = [] ∷ []; splits = splits } ∷ []) i ≡ some t → get_elem? t.names p ≡ some n → get_elem? ([] ∷ []) p ≡ some n
      named zero t p n a c = ap (λ (z : Tag). get_elem? z.names p) (some-injective _ t a) ∙ c
      named (suc i) t p n a c = absurd (some-ne-none t (sym a))

module _ {E R : Type 0} (log : List (Row E R)) (tags : List Tag) (r : AreNames log tags) (i : ℕ) (t : Tag) (at : get_elem? tags i ≡ some t) where
  pub adds : (row : Row E R) (p : ℕ) → get_elem? t.names p ≡ some row.seat → AreNames (log ++ row ∷ []) tags
  adds row p named = record {
    differ = r.differ;
    unsplit = r.unsplit;
    known = λ k row' e. elim (at_end log row row' k e) [
      | inl u ↦ r.known k row' u
      | inr v ↦ (i, t, p, at, named ∙ ap (λ (x : Row E R). some x.seat) v.1)
    ];
  }

  module _ (own : List ℕ) (head : get_elem? t.names 0 ≡ some own) where
    abbrev parted : List Tag
    parted = set tags i (record { names = t.names; splits = t.splits + 1 }) ++ record { names = (own ++ t.splits ∷ []) ∷ []; splits = 0 } ∷ []

    record Old (j : ℕ) (u : Tag) : Type 0 where
      pub tag : Tag
      pub stands : get_elem? tags j ≡ some tag
      pub names : u.names ≡ tag.names
      pub splits : tag.splits ≤ u.splits
      pub more : j ≡ i → t.splits < u.splits

    record New (j : ℕ) (u : Tag) : Type 0 where
      pub last : j ≡ length tags
      pub names : u.names ≡ (own ++ t.splits ∷ []) ∷ []

    was : (j : ℕ) (u : Tag) → get_elem? parted j ≡ some u → Old j u ⊎ New j u
    was j u e = elim (at_end (set tags i (record { names = t.names; splits = t.splits + 1 })) _ u j e) [
      | inl a ↦ elim (at_set tags i j (record { names = t.names; splits = t.splits + 1 }) u a) [
        | inl b ↦ inl record {
          tag = t;
          stands = ap (get_elem? tags) b.0 ∙ at;
          names = sym (ap (λ (z : Tag). z.names) b.1);
          splits = (let h : t.splits + 1 ≡ u.splits = ap (λ (z : Tag). z.splits) b.1 in omega arith);
          more = λ _. (let h : t.splits + 1 ≡ u.splits = ap (λ (z : Tag). z.splits) b.1 in omega arith);
        }
        | inr b ↦ inl record { tag = u; stands = b.1; names = refl; splits = omega arith; more = λ e. absurd (b.0 e) }
      ]
      | inr a ↦ inr record { last = a.0 ∙ length-set tags i (record { names = t.names; splits = t.splits + 1 }); names = sym (ap (λ (z : Tag). z.names) a.1) }
    ]

    named_new : (j : ℕ) (u : Tag) → New j u → (p : ℕ) (n : List ℕ) → get_elem? u.names p ≡ some n → (p ≡ 0) × (own ++ t.splits ∷ [] ≡ n)
    named_new j u new p n e = single (own ++ t.splits ∷ []) n p (ap (λ l. get_elem? l p) (sym new.names) ∙ e)

    named_old : (j : ℕ) (u : Tag) (old : Old j u) (p : ℕ) (n : List ℕ) → get_elem? u.names p ≡ some n → get_elem? old.tag.names p ≡ some n
    named_old j u old p n e = ap (λ l. get_elem? l p) (sym old.names) ∙ e

    -- the new name is none of the old ones
    not_old : (j : ℕ) (u : Tag) (old : Old j u) (p : ℕ) (n : List ℕ) → get_elem? u.names p ≡ some n → own ++ t.splits ∷ [] ≢ n
    not_old j u old p n e same = r.unsplit i j p t.splits t old.tag own n [] at old.stands head (omega arith) (named_old j u old p n e) (sym same)

    -- no new name is a name with a number that is still free
    old_then_new : (a : ℕ) (u : Tag) (old : Old a u) (o rest : List ℕ) (k : ℕ) → get_elem? u.names 0 ≡ some o → u.splits ≤ k → own ++ t.splits ∷ [] ≢ o ++ k ∷ rest
    old_then_new a u old o rest k first le e = elim (last_number own o rest k t.splits e) [
      | inl x ↦ let same = r.differ i a 0 0 t old.tag own at old.stands head (named_old a u old 0 own (first ∙ ap some (sym x.0))) in
          let h : t.splits < u.splits = old.more (sym same.0) in let g : t.splits ≡ k = x.1 in absurd (omega arith)
      | inr x ↦ absurd (r.unsplit a i 0 k old.tag t o own x.0 old.stands at (named_old a u old 0 o first) (let h = old.splits in omega arith) head x.1)
    ]

    pub splits : AreNames log parted
    splits = record {
      differ = λ a b p q u w n eu ew ep eq. elim (was a u eu) [
        | inl x ↦ elim (was b w ew) [
          | inl y ↦ r.differ a b p q x.tag y.tag n x.stands y.stands (named_old a u x p n ep) (named_old b w y q n eq)
          | inr y ↦ absurd (not_old a u x p n ep (named_new b w y q n eq).1)
        ]
        | inr x ↦ elim (was b w ew) [
          | inl y ↦ absurd (not_old b w y q n eq (named_new a u x p n ep).1)
          | inr y ↦ (x.last ∙ sym y.last, (named_new a u x p n ep).0 ∙ sym (named_new b w y q n eq).0)
        ]
      ];
      unsplit = λ a b q k u w o n rest eu ew eo le en same. elim (was a u eu) [
        | inl x ↦ elim (was b w ew) [
          | inl y ↦ r.unsplit a b q k x.tag y.tag o n rest x.stands y.stands (named_old a u x 0 o eo) (let h = x.splits in omega arith) (named_old b w y q n en) same
          | inr y ↦ old_then_new a u x o rest k eo le ((named_new b w y q n en).1 ∙ same)
        ]
        | inr x ↦ let is : own ++ t.splits ∷ [] ≡ o = (named_new a u x 0 o eo).1 in elim (was b w ew) [
          | inl y ↦ r.unsplit i b q t.splits t y.tag own n (k ∷ rest) at y.stands head (omega arith) (named_old b w y q n en)
              (same ∙ (ap (λ l. l ++ k ∷ rest) (sym is) ∙ append_assoc own (t.splits ∷ []) (k ∷ rest)))
          | inr y ↦ longer_differs o rest k ((sym is ∙ (named_new b w y q n en).1) ∙ same)
        ]
      ];
      known = λ k row e. let f = r.known k row e in dite (ℕ_discrete f.0 i)
          (λ c. (
            i,
            record { names = t.names; splits = t.splits + 1 },
            f.2,
            at_longer _ _ i _ (set_here tags i _ (in_range tags i t at)),
            ap (λ (z : Tag). get_elem? z.names f.2) (some-injective t f.1 (sym at ∙ (ap (get_elem? tags) (sym c) ∙ f.3))) ∙ f.4,
          ))
          (λ c. (f.0, f.1, f.2, at_longer _ _ f.0 f.1 (set_else tags i f.0 _ c ∙ f.3), f.4));
    }

    module _ (j : ℕ) (u : Tag) (there : get_elem? tags j ≡ some u) (apart : j ≢ i) where
      abbrev joined : List Tag
      joined = set (set tags i (record { names = t.names ++ u.names; splits = t.splits })) j (record { names = []; splits = 0 })

      record Stayed (a p : ℕ) (w : Tag) (n : List ℕ) : Type 0 where
        pub tag : Tag
        pub stands : get_elem? tags a ≡ some tag
        pub name : get_elem? tag.names p ≡ some n
        pub other : a ≢ j
        pub splits : tag.splits ≡ w.splits

      record Moved (a p : ℕ) (n : List ℕ) : Type 0 where
        pub place : ℕ
        pub name : get_elem? u.names place ≡ some n
        pub to : a ≡ i
        pub further : p ≡ length t.names + place

      origin : (a p : ℕ) (w : Tag) (n : List ℕ) → get_elem? joined a ≡ some w → get_elem? w.names p ≡ some n → Stayed a p w n ⊎ Moved a p n
      origin a p w n e name = elim (at_set (set tags i (record { names = t.names ++ u.names; splits = t.splits })) j a (record { names = []; splits = 0 }) w e) [
        | inl x ↦ absurd (some-ne-none n (sym (ap (λ (z : Tag). get_elem? z.names p) x.1 ∙ name)))
        | inr x ↦ elim (at_set tags i a (record { names = t.names ++ u.names; splits = t.splits }) w x.1) [
          | inl y ↦ elim (at_joined t.names u.names p n (ap (λ (z : Tag). get_elem? z.names p) y.1 ∙ name)) [
            | inl z ↦ inl record { tag = t; stands = ap (get_elem? tags) y.0 ∙ at; name = z; other = x.0; splits = ap (λ (z : Tag). z.splits) y.1 }
            | inr z ↦ inr record { place = z.0; name = z.2; to = y.0; further = z.1 }
          ]
          | inr y ↦ inl record { tag = w; stands = y.1; name = name; other = x.0; splits = refl }
        ]
      ]

      pub joins : AreNames log joined
      joins = record {
        differ = λ a b p q v w n ev ew ep eq. elim (origin a p v n ev ep) [
          | inl x ↦ elim (origin b q w n ew eq) [
            | inl y ↦ r.differ a b p q x.tag y.tag n x.stands y.stands x.name y.name
            | inr y ↦ absurd (x.other (r.differ a j p y.place x.tag u n x.stands there x.name y.name).0)
          ]
          | inr x ↦ elim (origin b q w n ew eq) [
            | inl y ↦ absurd (y.other (r.differ b j q x.place y.tag u n y.stands there y.name x.name).0)
            | inr y ↦ let same : x.place ≡ y.place = (r.differ j j x.place y.place u u n there there x.name y.name).1 in
                (x.to ∙ sym y.to, x.further ∙ (ap (λ (k : ℕ). length t.names + k) same ∙ sym y.further))
          ]
        ];
        unsplit = λ a b q k v w o n rest ev ew eo le en same. elim (origin a 0 v o ev eo) [
          | inl x ↦ let h = x.splits in elim (origin b q w n ew en) [
            | inl y ↦ r.unsplit a b q k x.tag y.tag o n rest x.stands y.stands x.name (omega arith) y.name same
            | inr y ↦ r.unsplit a j y.place k x.tag u o n rest x.stands there x.name (omega arith) y.name same
          ]
          | inr x ↦ let h : 0 < length t.names = in_range t.names 0 own head in let g : 0 ≡ length t.names + x.place = x.further in absurd (omega arith)
        ];
        known = λ k row e. let f = r.known k row e in dite (ℕ_discrete f.0 i)
            (λ c. (
              i,
              record { names = t.names ++ u.names; splits = t.splits },
              f.2,
              set_else _ j i _ (λ h. apart (sym h)) ∙ set_here tags i _ (in_range tags i t at),
              at_longer t.names u.names f.2 row.seat (ap (λ (z : Tag). get_elem? z.names f.2) (some-injective t f.1 (sym at ∙ (ap (get_elem? tags) (sym c) ∙ f.3))) ∙ f.4),
            ))
            (λ c. dite (ℕ_discrete f.0 j)
            (λ d. (
              i,
              record { names = t.names ++ u.names; splits = t.splits },
              length t.names + f.2,
              set_else _ j i _ (λ h. apart (sym h)) ∙ set_here tags i _ (in_range tags i t at),
              at_rest t.names u.names f.2 row.seat (ap (λ (z : Tag). get_elem? z.names f.2) (some-injective u f.1 (sym there ∙ (ap (get_elem? tags) (sym d) ∙ f.3))) ∙ f.4),
            ))
            (λ d. (f.0, f.1, f.2, set_else _ j f.0 _ d ∙ (set_else tags i f.0 _ c ∙ f.3), f.4)));
      }
