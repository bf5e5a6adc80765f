-- The document states of the kept documents, as a cache of states has them: what joins, leaves or is longest kept there does so here.
use Rattle.std.proofs.Common.{◌≡◌, ℕ, suc, Bool, true, false, cond, not, ◌==◌, List, [], ◌∷◌, length, Option, Some, refl, sym, ap, ◌∙◌, inl, inr, eqb-true, arith, ◌-◌}
use Rattle.std.specs.Prelude.{filter_map, option_and_then, option_map, slice_get}
use Rattle.tab_ids.specs.declared.DocId.{DocId}
use Rattle.tab_ids.specs.declared.StateId.{StateId}
use Rattle.log_model.specs.AfterPlaces.{without_doc}
use Rattle.log_model.specs.Formed.{last_of}
use Rattle.log_model.specs.Seen.{Seen, Document}
use Rattle.seen_facts.specs.Hang.Members.{Has}
use Rattle.seen_facts.proofs.Home.Again.{AllStayIn}
use Rattle.seen_facts.specs.Home.Homes.{document_in}
use Rattle.page_cache.specs.Kept.{is_state, without, left_first, oldest_of}
use Rattle.seen_facts.specs.Kept.Keeping.{AreKeptDocs, IsKeptDoc, state_in}
use Rattle.log_model.proofs.Refl.{nat_eq_refl}
use Rattle.seen_laws.proofs.Keyed.{find_has}

-- each of these documents is there, and none of them but the one has its document state
pub record AreOfOwnStates (documents : List Document) (docs : List DocId) (doc : DocId) (state : StateId) : Type 0 where
  pub own : state_in documents doc ≡ Some state
  pub others : (other : DocId) (s : StateId) → Has docs other → state_in documents other ≡ Some s → (other.0 == doc.0) ≡ (s.0 == state.0)
  pub there : (other : DocId) → Has docs other → (s : StateId) × (state_in documents other ≡ Some s)

fewer : (documents : List Document) (first : DocId) (docs : List DocId) (doc : DocId) (state : StateId) → AreOfOwnStates documents (first ∷ docs) doc state → AreOfOwnStates documents docs doc state
fewer documents first docs doc state are =
    record { own = are.own; others = λ other s has. are.others other s (inr has); there = λ other has. are.there other (inr has) }

-- the states of the others are the other states
pub states_without : (documents : List Document) (docs : List DocId) (doc : DocId) (state : StateId) → AreOfOwnStates documents docs doc state → filter_map (state_in documents) (without_doc doc docs) ≡ without state (filter_map (state_in documents) docs)
states_without documents [] doc state are = refl
states_without documents (first ∷ docs) doc state are =
    let at = are.there first (inl refl) in
    let same : (first.0 == doc.0) ≡ (at.0.0 == state.0) = are.others first at.0 (inl refl) at.1 in
    let more = states_without documents docs doc state (fewer documents first docs doc state are) in
    by_test at.0 at.1 (first.0 == doc.0) refl same more
  where
    by_test : (s : StateId) → state_in documents first ≡ Some s → (b : Bool) → (first.0 == doc.0) ≡ b → (first.0 == doc.0) ≡ (s.0 == state.0) → filter_map (state_in documents) (without_doc doc docs) ≡ without state (filter_map (state_in documents) docs) → filter_map (state_in documents) (cond (not (first.0 == doc.0)) (first ∷ without_doc doc docs) (without_doc doc docs)) ≡ without state (filter_map (state_in documents) (first ∷ docs))
    by_test s is true e same more = rw (e, is) (rw (flipped s state (sym same ∙ e)) more)
      where
        flipped : (a b : StateId) → (a.0 == b.0) ≡ true → is_state b a ≡ true
        flipped a b e = let n : a.0 ≡ b.0 = eqb-true a.0 b.0 e in ap (λ (k : ℕ). b.0 == k) n ∙ nat_eq_refl b.0
    by_test s is false e same more = rw (e, is) (rw (flipped s state (sym same ∙ e)) (ap (λ (l : List StateId). s ∷ l) more))
      where
        flipped : (a b : StateId) → (a.0 == b.0) ≡ false → is_state b a ≡ false
        flipped a b e = by_number (b.0 == a.0) refl
          where
            by_number : (c : Bool) → (b.0 == a.0) ≡ c → is_state b a ≡ false
            by_number false at = at
            by_number true at =
                let n : b.0 ≡ a.0 = eqb-true b.0 a.0 at in
                let no_ : true ≡ false = sym (nat_eq_refl a.0) ∙ ap (λ (k : ℕ). a.0 == k) (sym n) ∙ e in
                absurd cc

-- one that is left comes first
pub states_left : (documents : List Document) (docs : List DocId) (doc : DocId) (state : StateId) → AreOfOwnStates documents docs doc state → filter_map (state_in documents) (doc ∷ without_doc doc docs) ≡ left_first state (filter_map (state_in documents) docs)
states_left documents docs doc state are = rw are.own (ap (λ (l : List StateId). state ∷ l) (states_without documents docs doc state are))

-- ---- how many, and the one kept longest

abbrev AreThere : List Document → List DocId → Type 0
AreThere documents docs = (doc : DocId) → Has docs doc → (s : StateId) × (state_in documents doc ≡ Some s)

-- as many states are kept as documents
pub states_many : (documents : List Document) (docs : List DocId) → AreThere documents docs → length (filter_map (state_in documents) docs) ≡ length docs
states_many documents [] there = refl
states_many documents (doc ∷ docs) there =
    let at = there doc (inl refl) in
    rw at.1 (ap suc (states_many documents docs (λ other has. there other (inr has))))

less_one : (n : ℕ) → suc n - 1 ≡ n
less_one n = omega arith

-- one in front changes nothing of which is the last
oldest_more : (first next : StateId) (states : List StateId) → oldest_of (first ∷ next ∷ states) ≡ oldest_of (next ∷ states)
oldest_more first next states =
    ap (λ (n : ℕ). slice_get (first ∷ next ∷ states) n) (less_one (suc (length states)))
    ∙ sym (ap (λ (n : ℕ). slice_get (next ∷ states) n) (less_one (length states)))

-- the state that is kept longest is that of the document which is
pub states_oldest : (documents : List Document) (docs : List DocId) → AreThere documents docs → oldest_of (filter_map (state_in documents) docs) ≡ option_and_then (state_in documents) (last_of docs)
states_oldest documents [] there = refl
states_oldest documents (doc ∷ []) there = let at = there doc (inl refl) in rw at.1 refl
states_oldest documents (doc ∷ next ∷ docs) there =
    let at = there doc (inl refl) in
    let then_ = there next (inr (inl refl)) in
    let more : oldest_of (filter_map (state_in documents) (next ∷ docs)) ≡ option_and_then (state_in documents) (last_of (next ∷ docs)) = states_oldest documents (next ∷ docs) (λ other has. there other (inr has)) in
    longer at.0 then_.0 at.1 then_.1 more
  where
    longer : (a b : StateId) → state_in documents doc ≡ Some a → state_in documents next ≡ Some b → oldest_of (filter_map (state_in documents) (next ∷ docs)) ≡ option_and_then (state_in documents) (last_of (next ∷ docs)) → oldest_of (filter_map (state_in documents) (doc ∷ next ∷ docs)) ≡ option_and_then (state_in documents) (last_of (next ∷ docs))
    longer a b one two more =
        let states : List StateId = filter_map (state_in documents) docs in
        let here : filter_map (state_in documents) (doc ∷ next ∷ docs) ≡ a ∷ b ∷ states = rw (one, two) refl in
        let rest : filter_map (state_in documents) (next ∷ docs) ≡ b ∷ states = rw two refl in
        ap oldest_of here ∙ oldest_more a b states ∙ ap oldest_of (sym rest) ∙ more

-- ---- of the kept documents

-- a document that isn't discarded, and no other one of its state that isn't
pub record IsSole (s : Seen) (doc : DocId) (d : Document) : Type 0 where
  pub found : document_in s.documents doc ≡ Some d
  pub only : (other : DocId) (o : Document) → document_in s.documents other ≡ Some o → o.state.0 ≡ d.state.0 → o.is_discarded ≡ false → o.nr.0 ≡ d.nr.0

-- its state is its own among those of the kept ones
pub sole_states : (s : Seen) (doc : DocId) (d : Document) → AreKeptDocs s → IsSole s doc d → AreOfOwnStates s.documents s.kept doc d.state
sole_states s doc d are sole =
    record {
      own = ap (λ (o : Option Document). option_map (λ (x : Document). x.state) o) sole.found;
      others = others;
      there = there;
    }
  where
    there : (other : DocId) → Has s.kept other → (state : StateId) × (state_in s.documents other ≡ Some state)
    there other has = let is = are.each other has in (is.d.state, ap (λ (o : Option Document). option_map (λ (x : Document). x.state) o) is.found)

    others : (other : DocId) (state : StateId) → Has s.kept other → state_in s.documents other ≡ Some state → (other.0 == doc.0) ≡ (state.0 == d.state.0)
    others other state has at = by_state (state.0 == d.state.0) refl (other.0 == doc.0) refl
      where
        is : IsKeptDoc s.documents s.places other
        is = are.each other has

        its : is.d.state ≡ state
        its =
            let both : Some is.d.state ≡ Some state = sym (ap (λ (o : Option Document). option_map (λ (x : Document). x.state) o) is.found) ∙ at in
            cc

        its_number : is.d.nr.0 ≡ other.0
        its_number = find_has (λ (x : Document). x.nr.0) other.0 s.documents is.d is.found

        number : d.nr.0 ≡ doc.0
        number = find_has (λ (x : Document). x.nr.0) doc.0 s.documents d sole.found

        by_state : (b : Bool) → (state.0 == d.state.0) ≡ b → (c : Bool) → (other.0 == doc.0) ≡ c → (other.0 == doc.0) ≡ (state.0 == d.state.0)
        by_state true e true f = f ∙ sym e
        by_state false e false f = f ∙ sym e
        by_state true e false f =
            let states : state.0 ≡ d.state.0 = eqb-true state.0 d.state.0 e in
            let same : is.d.nr.0 ≡ d.nr.0 = sole.only other is.d is.found (ap (λ (x : StateId). x.0) its ∙ states) is.undiscarded in
            let docs : other.0 ≡ doc.0 = sym its_number ∙ same ∙ number in
            let no_ : true ≡ false = sym (nat_eq_refl doc.0) ∙ ap (λ (n : ℕ). n == doc.0) (sym docs) ∙ f in
            absurd cc
        by_state false e true f =
            let docs : other.0 ≡ doc.0 = eqb-true other.0 doc.0 f in
            let same : other ≡ doc = ap (λ (n : ℕ). let x : DocId = record { 0 = n } in x) docs in
            let both : Some is.d ≡ Some d = sym is.found ∙ ap (document_in s.documents) same ∙ sole.found in
            let one : is.d ≡ d = cc in
            let states : state.0 ≡ d.state.0 = ap (λ (x : StateId). x.0) (sym its) ∙ ap (λ (x : Document). x.state.0) one in
            let no_ : true ≡ false = sym (nat_eq_refl d.state.0) ∙ ap (λ (n : ℕ). n == d.state.0) (sym states) ∙ e in
            absurd cc

-- ---- over a row

-- documents that stay keep their states
pub states_again : (old new : List Document) (docs : List DocId) → AllStayIn old new → ((doc : DocId) → Has docs doc → (d : Document) × (document_in old doc ≡ Some d)) → filter_map (state_in new) docs ≡ filter_map (state_in old) docs
states_again old new [] stay there = refl
states_again old new (doc ∷ docs) stay there =
    let at = there doc (inl refl) in
    let k = stay doc at.0 at.1 in
    let before : state_in old doc ≡ Some at.0.state = ap (λ (o : Option Document). option_map (λ (x : Document). x.state) o) at.1 in
    let then_ : state_in new doc ≡ Some at.0.state = ap (λ (o : Option Document). option_map (λ (x : Document). x.state) o) k.found ∙ ap (λ (x : StateId). Some x) k.keeps.state in
    rw (before, then_) (ap (λ (l : List StateId). at.0.state ∷ l) (states_again old new docs stay (λ other has. there other (inr has))))
