-- What is there for a document state, as the tables tell, is so in the log.
use Rattle.seen_facts.proofs.Hang.Members.{find_has, has_any, has_found}
use Rattle.seen_facts.proofs.Hang.Parts.{state_is}
use Rattle.seen_facts.specs.Hang.Members.{Has}
use Rattle.log_model.proofs.Refl.{nat_eq_refl}
use Rattle.nav_tree.specs.Tree.{document_of as document_in_tree, is_placed, is_state, state_of}
use Rattle.nav_tree.specs.declared.place.Place as live_place
use Rattle.row_facts.proofs.RestRows.Again.{doc_same}
use Rattle.std.proofs.Common.{Bool, List, None, Option, Some, [], ap, arith, cond, false, inl, inr, not, refl, subst, sym, true, ◌&&◌, ◌==◌, ◌∙◌, ◌∷◌, ◌≡◌}
use Rattle.std.proofs.lemmas.Bool.Decides.{nat_tests}
use Rattle.std.specs.List.{list_any}
use Rattle.std.specs.Map.{lookup}
use Rattle.std.specs.Prelude.{find, option_map}
use Rattle.log_model.specs.Seen.{Document}
use Rattle.tab_doors.specs.Look.{Sight, is_live_for, sight, sight_in}
use Rattle.tab_doors.specs.Ties.{AreListed, AreOnceKeyed, IsListed, IsOneSuch}
use Rattle.tab_doors.specs.declared.tables.Tables.{Tables}
use Rattle.tab_ids.specs.declared.DocId.{DocId}
use Rattle.tab_ids.specs.declared.StateId.{StateId}

-- ---- the table of what is there

-- the entry that a look-up finds
record IsEntryOf (l : List (StateId × live_place.Place)) (v : live_place.Place) : Type 0 where
  it : StateId × live_place.Place
  there : Has l it
  is : it.1 ≡ v

lookup_has : (state : StateId) (l : List (StateId × live_place.Place)) (v : live_place.Place) → lookup (is_state state) l ≡ Some v → IsEntryOf l v
lookup_has state [] v is = absurd cc
lookup_has state (x ∷ l) v is = by_test (is_state state x.0) is (lookup_has state l v)
  where
    by_test : (b : Bool) → (let o : Option live_place.Place = cond b (Some x.1) (lookup (is_state state) l) in o) ≡ Some v → (lookup (is_state state) l ≡ Some v → IsEntryOf l v) → IsEntryOf (x ∷ l) v
    by_test true h more = record { it = x; there = inl refl; is = (let same : x.1 ≡ v = cc in same) }
    by_test false h more = let its = more h in record { it = its.it; there = inr its.there; is = its.is }

pub keyed_found : (l : List (StateId × live_place.Place)) → AreOnceKeyed l → (e : StateId × live_place.Place) → Has l e → lookup (is_state e.0) l ≡ Some e.1
keyed_found [] once e there = absurd there
keyed_found (x ∷ l) once e (inl same) = subst (λ (y : StateId × live_place.Place). lookup (is_state y.0) (x ∷ l) ≡ Some y.1) same (rw (nat_eq_refl x.0.0) refl)
keyed_found (x ∷ l) once e (inr more) = by_test (e.0.0 == x.0.0) refl (keyed_found l once.1 e more)
  where
    by_test : (b : Bool) → (e.0.0 == x.0.0) ≡ b → lookup (is_state e.0) l ≡ Some e.1 → lookup (is_state e.0) (x ∷ l) ≡ Some e.1
    by_test false apart rest = rw apart rest
    by_test true same rest =
        let one : e.0 ≡ x.0 = state_is e.0 x.0 same in
        let never : None ≡ Some e.1 = sym once.0 ∙ ap (λ (y : StateId). lookup (is_state y) l) (sym one) ∙ rest in
        absurd cc

module _ (documents : List Sight) (t : Tables) (listed : AreListed documents t.tree t.making.entries) where
  -- the document of a number that is there for a state
  pub record IsThereFor (doc : DocId) (state : StateId) : Type 0 where
    pub document : Sight
    pub found : sight_in documents doc ≡ Some document
    pub lives : is_live_for state document ≡ true
    pub its : option_map (λ (q : live_place.Place). q.doc) (document_in_tree state t.tree) ≡ Some doc

  pub there_for : (doc : DocId) (state : StateId) → state_of doc t.tree ≡ Some state → IsThereFor doc state
  there_for doc state is = by_found (find (is_placed doc) t.tree.places) refl is
    where
      by_found : (o : Option (StateId × live_place.Place)) → find (is_placed doc) t.tree.places ≡ o → option_map (λ (e : StateId × live_place.Place). e.0) o ≡ Some state → IsThereFor doc state
      by_found None at h = absurd cc
      by_found (Some e) at h =
          let its = find_has (is_placed doc) t.tree.places e at in
          let number : e.1.doc ≡ doc = doc_same e.1.doc doc its.1 in
          let key : e.0 ≡ state = cc in
          let live_at : lookup (is_state e.0) t.tree.places ≡ Some e.1 = keyed_found t.tree.places listed.live_once e its.0 in
          let one : IsOneSuch (is_live_for e.0) documents e.1.doc = subst (λ (o : Option live_place.Place). IsListed (is_live_for e.0) documents (option_map (λ (q : live_place.Place). q.doc) o)) live_at (listed.live e.0) in
          record {
            document = one.document;
            found = ap (λ (d : DocId). sight_in documents d) (sym number) ∙ one.found;
            lives = ap (λ (x : StateId). is_live_for x one.document) (sym key) ∙ one.passes;
            its = ap (λ (x : StateId). option_map (λ (q : live_place.Place). q.doc) (document_in_tree x t.tree)) (sym key) ∙ ap (λ (o : Option live_place.Place). option_map (λ (q : live_place.Place). q.doc) o) live_at ∙ ap (λ (d : DocId). Some d) number;
          }

  -- one that is there has its state in the table
  pub has_state_in : (doc : DocId) (x : Sight) → sight_in documents doc ≡ Some x → (state : StateId) → is_live_for state x ≡ true → state_of doc t.tree ≡ None → ⊥
  has_state_in doc x found state lives none = by_place (document_in_tree state t.tree) refl (listed.live state)
    where
      there : Has documents x
      there = (find_has (λ (d : Sight). d.nr.0 == doc.0) documents x found).0

      by_place : (o : Option live_place.Place) → document_in_tree state t.tree ≡ o → IsListed (is_live_for state) documents (option_map (λ (q : live_place.Place). q.doc) o) → ⊥
      by_place None at none_live =
          let passes : list_any (is_live_for state) documents ≡ true = has_any (is_live_for state) documents x there lives in
          let never : true ≡ false = sym passes ∙ none_live in cc
      by_place (Some q) at one =
          let number : (x.nr.0 == q.doc.0) ≡ true = one.only x there lives in
          let own : (x.nr.0 == doc.0) ≡ true = (find_has (λ (d : Sight). d.nr.0 == doc.0) documents x found).1 in
          let placed : (q.doc.0 == doc.0) ≡ true = grind (arith, nat_tests, number, own) in
          let its = lookup_has state t.tree.places q at in
          let found_ = has_found (is_placed doc) t.tree.places its.it its.there (ap (λ (v : live_place.Place). v.doc.0 == doc.0) its.is ∙ placed) in
          let some : state_of doc t.tree ≡ Some found_.0.0 = ap (λ (o : Option (StateId × live_place.Place)). option_map (λ (e : StateId × live_place.Place). e.0) o) found_.1 in
          let never : None ≡ Some found_.0.0 = sym none ∙ some in
          cc

  -- and stands there
  pub listed_at : (doc : DocId) (x : Sight) → sight_in documents doc ≡ Some x → (state : StateId) → is_live_for state x ≡ true → option_map (λ (q : live_place.Place). q.doc) (document_in_tree state t.tree) ≡ Some doc
  listed_at doc x found state lives = by_place (option_map (λ (q : live_place.Place). q.doc) (document_in_tree state t.tree)) (listed.live state)
    where
      there : Has documents x × ((x.nr.0 == doc.0) ≡ true)
      there = find_has (λ (d : Sight). d.nr.0 == doc.0) documents x found

      by_place : (o : Option DocId) → IsListed (is_live_for state) documents o → o ≡ Some doc
      by_place None none =
          let passes : list_any (is_live_for state) documents ≡ true = has_any (is_live_for state) documents x there.0 lives in
          let never : true ≡ false = sym passes ∙ none in
          cc
      by_place (Some q) one =
          let number : (x.nr.0 == q.0) ≡ true = one.only x there.0 lives in
          let own = there.1 in
          let same : (q.0 == doc.0) ≡ true = grind (arith, nat_tests, number, own) in
          ap (λ (d : DocId). Some d) (doc_same q doc same)

-- what it is that one is there for
pub live_parts : (state : StateId) (d : Document) → is_live_for state (sight d) ≡ true → (d.state ≡ state) × (d.is_ready ≡ true) × (d.is_discarded ≡ false) × (d.is_known_dead ≡ false)
live_parts state d lives = by_parts (d.state.0 == state.0) d.is_ready d.is_discarded d.is_known_dead refl lives
  where
    by_parts : (a b c x : Bool) → (d.state.0 == state.0) ≡ a → (a && b && not c && not x) ≡ true → (d.state ≡ state) × (b ≡ true) × (c ≡ false) × (x ≡ false)
    by_parts true true false false is h = (state_is d.state state is, refl, refl, refl)
    by_parts true true false true is h = absurd cc
    by_parts true true true x is h = absurd cc
    by_parts true false c x is h = absurd cc
    by_parts false b c x is h = absurd cc
