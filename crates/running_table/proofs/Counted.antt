-- How many documents run in a navigable: as many as the table has there.
use Rattle.std.proofs.Common.{◌≡◌, ℕ, ◌+◌, Bool, true, false, cond, ◌==◌, List, [], ◌∷◌, length, map, Option, Some, None, refl, sym, ap, ◌∙◌, subst, arith}
use Rattle.std.specs.Prelude.{filter, if◌then◌else◌}
use Rattle.std.proofs.lemmas.Bool.Decides.{nat_tests}
use Rattle.tab_ids.specs.declared.DocId.{DocId}
use Rattle.tab_ids.specs.declared.Epoch.{Epoch}
use Rattle.tab_ids.specs.declared.NavId.{NavId}
use Rattle.log_model.proofs.Refl.{nat_eq_refl}
use Rattle.log_model.specs.Formed.{running_documents}
use Rattle.log_model.specs.Seen.{Document, Seen}
use Rattle.running_table.specs.Making.{IsTold}
use Rattle.running_table.specs.Runners.{AreOnce, epoch_of, is_doc, runners_in, RunnersState}
use Rattle.running_table.proofs.Numbers.{numbered_in_order}
use Rattle.running_table.proofs.Poked.{as_runner, ascend_filter, is_running_in, once_in, runner_found, runners_of}

-- ---- two lists of the same documents

-- those of the list but one
abbrev without : DocId → List (DocId × Epoch) → List (DocId × Epoch)
without doc [] = []
without doc (e ∷ es) = if e.0.0 == doc.0 then without doc es else e ∷ without doc es

same_number : (a b c : DocId) → (a.0 == b.0) ≡ true → (a.0 == c.0) ≡ (b.0 == c.0)
same_number a b c same = let n : a.0 ≡ b.0 = grind (arith, nat_tests, same) in ap (λ (i : ℕ). i == c.0) n

-- of another document it says the same
without_other : (doc other : DocId) (es : List (DocId × Epoch)) → (doc.0 == other.0) ≡ false → epoch_of (without doc es) other ≡ epoch_of es other
without_other doc other [] apart = refl
without_other doc other (e ∷ es) apart = by_test (e.0.0 == doc.0) refl (without_other doc other es apart)
  where
    by_test : (b : Bool) → (e.0.0 == doc.0) ≡ b → epoch_of (without doc es) other ≡ epoch_of es other → epoch_of (cond b (without doc es) (e ∷ without doc es)) other ≡ epoch_of (e ∷ es) other
    by_test true same more =
        let n : (other.0 == e.0.0) ≡ false = grind (arith, nat_tests, same, apart) in
        rw n more
    by_test false apart_ more = by_own (other.0 == e.0.0) refl more
      where
        by_own : (b : Bool) → (other.0 == e.0.0) ≡ b → epoch_of (without doc es) other ≡ epoch_of es other → epoch_of (e ∷ without doc es) other ≡ epoch_of (e ∷ es) other
        by_own true at more_ = rw at refl
        by_own false at more_ = rw at more_

-- of that one nothing
without_itself : (doc : DocId) (es : List (DocId × Epoch)) → epoch_of (without doc es) doc ≡ None
without_itself doc [] = refl
without_itself doc (e ∷ es) = by_test (e.0.0 == doc.0) refl (without_itself doc es)
  where
    by_test : (b : Bool) → (e.0.0 == doc.0) ≡ b → epoch_of (without doc es) doc ≡ None → epoch_of (cond b (without doc es) (e ∷ without doc es)) doc ≡ None
    by_test true same more = more
    by_test false apart more = let n : (doc.0 == e.0.0) ≡ false = grind (arith, nat_tests, apart) in rw n more

-- where it isn't there, nothing goes
without_none : (doc : DocId) (es : List (DocId × Epoch)) → epoch_of es doc ≡ None → without doc es ≡ es
without_none doc [] none = refl
without_none doc (e ∷ es) none = by_test (doc.0 == e.0.0) refl none (λ none_. without_none doc es none_)
  where
    by_test : (b : Bool) → (doc.0 == e.0.0) ≡ b → (let o : Option Epoch = cond b (Some e.1) (epoch_of es doc) in o) ≡ None → (epoch_of es doc ≡ None → without doc es ≡ es) → without doc (e ∷ es) ≡ e ∷ es
    by_test true at never more = cc
    by_test false at none_ more =
        let n : (e.0.0 == doc.0) ≡ false = grind (arith, nat_tests, at) in
        rw n (ap (λ (l : List (DocId × Epoch)). e ∷ l) (more none_))

-- where it is there, one goes
without_some : (doc : DocId) (es : List (DocId × Epoch)) (epoch : Epoch) → AreOnce es → epoch_of es doc ≡ Some epoch → length es ≡ length (without doc es) + 1
without_some doc [] epoch once some = cc
without_some doc (e ∷ es) epoch once some = by_test (doc.0 == e.0.0) refl some (λ some_. without_some doc es epoch once.1 some_)
  where
    by_test : (b : Bool) → (doc.0 == e.0.0) ≡ b → (let o : Option Epoch = cond b (Some e.1) (epoch_of es doc) in o) ≡ Some epoch → (epoch_of es doc ≡ Some epoch → length es ≡ length (without doc es) + 1) → length (e ∷ es) ≡ length (without doc (e ∷ es)) + 1
    by_test true at some_ rest =
        let n : (e.0.0 == doc.0) ≡ true = grind (arith, nat_tests, at) in
        let one : doc ≡ e.0 = (let m : doc.0 ≡ e.0.0 = grind (arith, nat_tests, at) in ap (λ (i : ℕ). let d : DocId = record { 0 = i } in d) m) in
        let gone : without doc es ≡ es = without_none doc es (ap (λ (d : DocId). epoch_of es d) one ∙ once.0) in
        rw n (let long : length (without doc es) ≡ length es = ap (λ (l : List (DocId × Epoch)). length l) gone in omega (arith, long))
    by_test false at some_ rest =
        let n : (e.0.0 == doc.0) ≡ false = grind (arith, nat_tests, at) in
        let more : length es ≡ length (without doc es) + 1 = rest some_ in
        rw n (omega (arith, more))

without_once : (doc : DocId) (es : List (DocId × Epoch)) → AreOnce es → AreOnce (without doc es)
without_once doc [] once = tt
without_once doc (e ∷ es) once = by_test (e.0.0 == doc.0) refl (without_once doc es once.1)
  where
    by_test : (b : Bool) → (e.0.0 == doc.0) ≡ b → AreOnce (without doc es) → AreOnce (cond b (without doc es) (e ∷ without doc es))
    by_test true same more = more
    by_test false apart more =
        let n : (doc.0 == e.0.0) ≡ false = grind (arith, nat_tests, apart) in
        (without_other doc e.0 es n ∙ once.0, more)

-- they are as many
same_many : (xs ys : List (DocId × Epoch)) → AreOnce xs → AreOnce ys → ((doc : DocId) → epoch_of xs doc ≡ epoch_of ys doc) → length xs ≡ length ys
same_many [] [] one two same = refl
same_many [] (y ∷ ys) one two same =
    let here : (y.0.0 == y.0.0) ≡ true = nat_eq_refl y.0.0 in
    let some : epoch_of (y ∷ ys) y.0 ≡ Some y.1 = rw here refl in
    let never : None ≡ Some y.1 = same y.0 ∙ some in cc
same_many (x ∷ xs) ys one two same =
    let here : (x.0.0 == x.0.0) ≡ true = nat_eq_refl x.0.0 in
    let some : epoch_of (x ∷ xs) x.0 ≡ Some x.1 = rw here refl in
    let long : length ys ≡ length (without x.0 ys) + 1 = without_some x.0 ys x.1 two (sym (same x.0) ∙ some) in
    let more : length xs ≡ length (without x.0 ys) = same_many xs (without x.0 ys) one.1 (without_once x.0 ys two) rest in
    omega (arith, long, more)
  where
    rest : (doc : DocId) → epoch_of xs doc ≡ epoch_of (without x.0 ys) doc
    rest doc = by_test (x.0.0 == doc.0) refl
      where
        by_test : (b : Bool) → (x.0.0 == doc.0) ≡ b → epoch_of xs doc ≡ epoch_of (without x.0 ys) doc
        by_test true at =
            let at_ : x.0 ≡ doc = (let m : x.0.0 ≡ doc.0 = grind (arith, nat_tests, at) in ap (λ (i : ℕ). let d : DocId = record { 0 = i } in d) m) in
            subst (λ (d : DocId). epoch_of xs d ≡ epoch_of (without x.0 ys) d) at_ (one.0 ∙ sym (without_itself x.0 ys))
        by_test false at =
            let n : (doc.0 == x.0.0) ≡ false = grind (arith, nat_tests, at) in
            let behind : epoch_of (x ∷ xs) doc ≡ epoch_of xs doc = rw n refl in
            sym behind ∙ same doc ∙ sym (without_other x.0 doc ys at)

-- ---- those that run

as_many : (documents : List Document) → length (map as_runner documents) ≡ length documents
as_many [] = refl
as_many (d ∷ documents) = omega (arith, as_many documents)

pub counted_told : (s : Seen) (t : RunnersState) (nav : NavId) → IsTold s t → AreOnce (runners_in t.running nav) → length (runners_in t.running nav) ≡ length (running_documents s nav)
counted_told s t nav told once =
    let order = numbered_in_order s told.numbered in
    same_many (runners_in t.running nav) (runners_of nav s.documents) once (once_in 0 (filter (is_running_in nav) s.documents) (ascend_filter (is_running_in nav) 0 s.documents order)) (λ doc. told.runners.runs nav doc ∙ sym (runner_found nav 0 s.documents doc order))
    ∙ as_many (running_documents s nav)
