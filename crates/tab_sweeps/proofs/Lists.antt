-- Lists of documents: what one has, and that a sorted one without repeats ascends.
use Rattle.seen_facts.proofs.Hang.Members.{has_filter, has_map, into_filter, into_map}
use Rattle.seen_facts.specs.Hang.Members.{Has}
use Rattle.log_model.proofs.Refl.{nat_eq_refl}
use Rattle.log_model.specs.Equal.{has_doc}
use Rattle.nav_tree.specs.Tree.{is_state}
use Rattle.nav_tree.specs.declared.place.Place as live_place
use Rattle.row_facts.proofs.RestRows.Again.{doc_same}
use Rattle.std.proofs.Common.{Bool, List, None, Option, Some, [], ap, arith, cond, false, filter, inl, inr, length, map, refl, subst, suc, sym, true, ℕ, ◌+◌, ◌<◌, ◌==◌, ◌||◌, ◌∙◌, ◌∷◌, ◌≡◌, ◌≤◌, ◌⊎◌}
use Rattle.std.proofs.lemmas.Bool.Decides.{nat_tests}
use Rattle.std.proofs.lemmas.List.Sorted.{IsNonDecreasingBy-drop, sum_by-IsPermutation}
use Rattle.std.proofs.lemmas.List.Sums.{sum_by-cons}
use Rattle.std.proofs.lemmas.Option.{get_or_from_slice_get, slice_get_within}
use Rattle.std.specs.List.Sorted.{IsNonDecreasingBy, IsPermutation}
use Rattle.std.specs.List.{sum_by}
use Rattle.std.specs.Map.{lookup}
use Rattle.std.specs.Prelude.{get_or, slice_get}
use Rattle.tab_doors.specs.Ties.{AreOnceKeyed}
use Rattle.tab_ids.specs.declared.DocId.{DocId}
use Rattle.tab_ids.specs.declared.StateId.{StateId}
use Rattle.tab_passes.proofs.Lives.{keyed_found}
use Rattle.tab_sweeps.specs.Sweeping.{AreAscending}
use Rattle.tab_sweeps.specs.Turns.{numbers_of}

-- ---- what a list has

pub has_of : (docs : List DocId) (doc : DocId) → has_doc docs doc ≡ true → Has docs doc
has_of [] doc has = absurd cc
has_of (d ∷ docs) doc has = by_test (d.0 == doc.0) refl has (has_of docs doc)
  where
    by_test : (b : Bool) → (d.0 == doc.0) ≡ b → (b || has_doc docs doc) ≡ true → (has_doc docs doc ≡ true → Has docs doc) → (d ≡ doc) ⊎ Has docs doc
    by_test true same h more = inl (doc_same d doc same)
    by_test false apart h more = inr (more h)

pub of_has : (docs : List DocId) (doc : DocId) → Has docs doc → has_doc docs doc ≡ true
of_has [] doc there = absurd there
of_has (d ∷ docs) doc (inl same) = ap (λ (x : DocId). (x.0 == doc.0) || has_doc docs doc) same ∙ rw (nat_eq_refl doc.0) refl
of_has (d ∷ docs) doc (inr more) = by_test (d.0 == doc.0) (of_has docs doc more)
  where
    by_test : (b : Bool) → has_doc docs doc ≡ true → (b || has_doc docs doc) ≡ true
    by_test true rest = refl
    by_test false rest = rest

-- ---- how often

abbrev one_if : Bool → ℕ
one_if b = cond b 1 0

abbrev pub times : List DocId → DocId → ℕ
times docs doc = sum_by (λ (d : DocId). one_if (d.0 == doc.0)) docs

no_times : (doc : DocId) (docs : List DocId) → has_doc docs doc ≡ false → times docs doc ≡ 0
no_times doc [] none = refl
no_times doc (d ∷ docs) none = by_test (d.0 == doc.0) refl none (no_times doc docs)
  where
    by_test : (b : Bool) → (d.0 == doc.0) ≡ b → (b || has_doc docs doc) ≡ false → (has_doc docs doc ≡ false → times docs doc ≡ 0) → times (d ∷ docs) doc ≡ 0
    by_test true is h more = absurd cc
    by_test false is h more = rw is (more h)

some_times : (doc : DocId) (docs : List DocId) → Has docs doc → 1 ≤ times docs doc
some_times doc [] there = absurd there
some_times doc (d ∷ docs) (inl same) =
    let one : one_if (d.0 == doc.0) ≡ 1 = ap (λ (x : DocId). one_if (x.0 == doc.0)) same ∙ ap one_if (nat_eq_refl doc.0) in
    let all : times (d ∷ docs) doc ≡ one_if (d.0 == doc.0) + times docs doc = sum_by-cons (λ (x : DocId). one_if (x.0 == doc.0)) d docs in
    omega (arith, one, all)
some_times doc (d ∷ docs) (inr more) =
    let low : 1 ≤ times docs doc = some_times doc docs more in
    let all : times (d ∷ docs) doc ≡ one_if (d.0 == doc.0) + times docs doc = sum_by-cons (λ (x : DocId). one_if (x.0 == doc.0)) d docs in
    omega (arith, low, all)

-- a list in another order has the same, as often
pub ordered_times : (docs other : List DocId) → IsPermutation docs other → (doc : DocId) → times other doc ≡ times docs doc
ordered_times docs other order doc = sum_by-IsPermutation (λ (d : DocId). one_if (d.0 == doc.0)) docs other order

pub ordered_has : (docs other : List DocId) (doc : DocId) → IsPermutation docs other → Has docs doc → has_doc other doc ≡ true
ordered_has docs other doc order there = by_test (has_doc other doc) refl
  where
    by_test : (b : Bool) → has_doc other doc ≡ b → has_doc other doc ≡ true
    by_test true is = is
    by_test false is =
        let none : times other doc ≡ 0 = no_times doc other is in
        let same : times other doc ≡ times docs doc = ordered_times docs other order doc in
        let low : 1 ≤ times docs doc = some_times doc docs there in
        absurd (omega (arith, none, same, low))

-- the documents of a table with a key each stand in it once, where the document tells the key
pub keyed_once : (key : DocId → Option StateId) (l : List (StateId × live_place.Place)) → AreOnceKeyed l → ((e : StateId × live_place.Place) → Has l e → key e.1.doc ≡ Some e.0) → (doc : DocId) → times (map (λ (e : StateId × live_place.Place). e.1.doc) l) doc ≤ 1
keyed_once key [] once own doc = omega arith
keyed_once key (x ∷ l) once own doc = by_test (x.1.doc.0 == doc.0) refl (keyed_once key l once.1 (λ e there. own e (inr there)) doc)
  where
    all : times (x.1.doc ∷ map (λ (e : StateId × live_place.Place). e.1.doc) l) doc ≡ one_if (x.1.doc.0 == doc.0) + times (map (λ (e : StateId × live_place.Place). e.1.doc) l) doc
    all =
        sum_by-cons (λ (d : DocId). one_if (d.0 == doc.0)) x.1.doc (map (λ (e : StateId × live_place.Place). e.1.doc) l)

    never : (x.1.doc.0 == doc.0) ≡ true → has_doc (map (λ (e : StateId × live_place.Place). e.1.doc) l) doc ≡ true → ⊥
    never same has =
        let it = has_map (λ (e : StateId × live_place.Place). e.1.doc) l doc (has_of (map (λ (e : StateId × live_place.Place). e.1.doc) l) doc has) in
        let docs_ : x.1.doc ≡ it.it.1.doc = doc_same x.1.doc doc same ∙ sym it.is in
        let keys : Some x.0 ≡ Some it.it.0 = sym (own x (inl refl)) ∙ ap key docs_ ∙ own it.it (inr it.there) in
        let one : x.0 ≡ it.it.0 = cc in
        let no_ : None ≡ Some it.it.1 = sym once.0 ∙ ap (λ (y : StateId). lookup (is_state y) l) one ∙ keyed_found l once.1 it.it it.there in
        cc

    none : (x.1.doc.0 == doc.0) ≡ true → (b : Bool) → has_doc (map (λ (e : StateId × live_place.Place). e.1.doc) l) doc ≡ b → has_doc (map (λ (e : StateId × live_place.Place). e.1.doc) l) doc ≡ false
    none same false is = is
    none same true is = absurd (never same is)

    by_test : (b : Bool) → (x.1.doc.0 == doc.0) ≡ b → times (map (λ (e : StateId × live_place.Place). e.1.doc) l) doc ≤ 1 → times (x.1.doc ∷ map (λ (e : StateId × live_place.Place). e.1.doc) l) doc ≤ 1
    by_test true same rest =
        let first : one_if (x.1.doc.0 == doc.0) ≡ 1 = ap one_if same in
        let none_ : times (map (λ (e : StateId × live_place.Place). e.1.doc) l) doc ≡ 0 = no_times doc (map (λ (e : StateId × live_place.Place). e.1.doc) l) (none same (has_doc (map (λ (e : StateId × live_place.Place). e.1.doc) l) doc) refl) in
        let both = all in
        omega (arith, both, first, none_)
    by_test false apart rest =
        let first : one_if (x.1.doc.0 == doc.0) ≡ 0 = ap one_if apart in
        let both = all in
        omega (arith, both, first, rest)

-- ---- in the order of their numbers

-- the numbers have its number
into_numbers : (docs : List DocId) (doc : DocId) → Has docs doc → Has (numbers_of docs) doc.0
into_numbers docs doc there = into_map (λ (d : DocId). d.0) docs doc there

-- the place of one of a list
record IsAt (docs : List DocId) (doc : DocId) : Type 0 where
  i : ℕ
  at : slice_get docs i ≡ Some doc

at_of : (docs : List DocId) (doc : DocId) → Has docs doc → IsAt docs doc
at_of [] doc there = absurd there
at_of (d ∷ docs) doc (inl same) = record { i = 0; at = ap (λ (x : DocId). Some x) same }
at_of (d ∷ docs) doc (inr more) = let its = at_of docs doc more in record { i = suc its.i; at = its.at }

-- the first is no greater than any other
first_least : (x : DocId) (docs : List DocId) → IsNonDecreasingBy (λ (d : DocId). d.0) (x ∷ docs) → (doc : DocId) → Has docs doc → x.0 ≤ doc.0
first_least x docs up doc there =
    let its = at_of docs doc there in
    let within : its.i < length docs = slice_get_within docs its.i doc its.at in
    let low : suc its.i < length (x ∷ docs) = omega (arith, within) in
    let none : 0 ≤ suc its.i = omega arith in
    let le : (get_or (x ∷ docs) 0 x).0 ≤ (get_or (x ∷ docs) (suc its.i) x).0 = up 0 (suc its.i) x none low in
    let last : get_or (x ∷ docs) (suc its.i) x ≡ doc = get_or_from_slice_get (x ∷ docs) (suc its.i) doc x its.at in
    let number : (get_or (x ∷ docs) (suc its.i) x).0 ≡ doc.0 = ap (λ (d : DocId). d.0) last in
    let first : (get_or (x ∷ docs) 0 x).0 ≡ x.0 = refl in
    omega (arith, le, number, first)

pub ascends : (docs : List DocId) → IsNonDecreasingBy (λ (d : DocId). d.0) docs → ((doc : DocId) → times docs doc ≤ 1) → AreAscending (numbers_of docs)
ascends [] up once = tt
ascends (x ∷ docs) up once =
    (above, ascends docs (IsNonDecreasingBy-drop (λ (d : DocId). d.0) 1 (x ∷ docs) up) rest)
  where
    all : (doc : DocId) → times (x ∷ docs) doc ≡ one_if (x.0 == doc.0) + times docs doc
    all doc = sum_by-cons (λ (d : DocId). one_if (d.0 == doc.0)) x docs

    rest : (doc : DocId) → times docs doc ≤ 1
    rest doc =
        let sum = all doc in
        let low = once doc in
        omega (arith, sum, low)

    above : (m : ℕ) → Has (numbers_of docs) m → x.0 < m
    above m there =
        let it = has_map (λ (d : DocId). d.0) docs m there in
        let least : x.0 ≤ it.it.0 = first_least x docs up it.it it.there in
        let is : it.it.0 ≡ m = it.is in
        by_test it.it it.there least is (x.0 == it.it.0) refl
      where
        by_test : (y : DocId) → Has docs y → x.0 ≤ y.0 → y.0 ≡ m → (b : Bool) → (x.0 == y.0) ≡ b → x.0 < m
        by_test y has least is false apart = grind (arith, nat_tests, least, is, apart)
        by_test y has least is true same =
            let first : one_if (x.0 == y.0) ≡ 1 = ap one_if same in
            let more : 1 ≤ times docs y = some_times y docs has in
            let sum = all y in
            let low = once y in
            absurd (omega (arith, first, more, sum, low))

-- some of them do, too
pub some_ascend : (test : DocId → Bool) (docs : List DocId) → AreAscending (numbers_of docs) → AreAscending (numbers_of (filter test docs))
some_ascend test [] up = tt
some_ascend test (x ∷ docs) up = by_test (test x) (some_ascend test docs up.1)
  where
    above : (m : ℕ) → Has (numbers_of (filter test docs)) m → x.0 < m
    above m there =
        let it = has_map (λ (d : DocId). d.0) (filter test docs) m there in
        let has : Has (numbers_of docs) it.it.0 = into_numbers docs it.it (has_filter test docs it.it it.there).0 in
        subst (λ (n : ℕ). x.0 < n) it.is (up.0 it.it.0 has)

    by_test : (b : Bool) → AreAscending (numbers_of (filter test docs)) → AreAscending (numbers_of (let l : List DocId = cond b (x ∷ filter test docs) (filter test docs) in l))
    by_test true rest = (above, rest)
    by_test false rest = rest

-- the first is another one than the others
pub first_apart : (x : DocId) (docs : List DocId) → AreAscending (numbers_of (x ∷ docs)) → (doc : DocId) → has_doc docs doc ≡ true → (x.0 == doc.0) ≡ false
first_apart x docs up doc has =
    let less : x.0 < doc.0 = up.0 doc.0 (into_numbers docs doc (has_of docs doc has)) in
    grind (arith, nat_tests, less)

-- ---- those that pass a test

pub passes_of : (test : DocId → Bool) (docs : List DocId) (doc : DocId) → has_doc (filter test docs) doc ≡ true → test doc ≡ true
passes_of test docs doc has = (has_filter test docs doc (has_of (filter test docs) doc has)).1

pub of_passes : (test : DocId → Bool) (docs : List DocId) (doc : DocId) → has_doc docs doc ≡ true → test doc ≡ true → has_doc (filter test docs) doc ≡ true
of_passes test docs doc has passes = of_has (filter test docs) doc (into_filter test docs doc (has_of docs doc has) passes)
