-- The document state that is numbered next is nobody's: entries, documents and ongoing loads have lower ones, those of loads in their check among them.
use Rattle.checking_facts.specs.States.{AreOwnStates, IsNextState}
use Rattle.log_model.specs.Equal.{holds}
use Rattle.log_model.specs.Places.{is_ongoing_load}
use Rattle.log_model.specs.Seen.{Asked, Document, Seen, request_of}
use Rattle.seen_facts.specs.Coord.Apart.{AreApart}
use Rattle.seen_facts.specs.Hang.Members.{Has}
use Rattle.seen_facts.specs.Home.Homes.{document_in}
use Rattle.seen_facts.specs.Load.Loading.{AreLoading, look}
use Rattle.seen_laws.specs.Unasked.{unasked, unasked_request, unhandled, without_asks}
use Rattle.std.proofs.Common.{Bool, List, None, Option, Some, [], ap, arith, cond, false, inl, inr, map, refl, subst, sym, true, ℕ, ◌&&◌, ◌+◌, ◌==◌, ◌∙◌, ◌∷◌, ◌≡◌, ◌≤◌, ◌⊎◌}
use Rattle.std.proofs.lemmas.Bool.Decides.{nat_tests}
use Rattle.std.specs.List.{list_any}
use Rattle.std.specs.Prelude.{find, option_map}
use Rattle.tab_ids.specs.declared.ReqId.{ReqId}
use Rattle.tab_ids.specs.declared.StateId.{StateId}
use Rattle.unasked.proofs.Readings.{checked_off, request_read}
use Rattle.unasked_dues.specs.Checking.{AreNumbered, is_ongoing_of}

-- a document of a list in which they have numbers of their own is found by its number
found_by : (l : List Document) (x : Document) → AreApart (λ (d : Document). d.nr.0) l → Has l x → document_in l x.nr ≡ Some x
found_by [] x apart has = absurd has
found_by (d ∷ l) x apart has = by_number (d.nr.0 == x.nr.0) refl has (found_by l x apart.1)
  where
    by_number : (b : Bool) → (d.nr.0 == x.nr.0) ≡ b → (d ≡ x) ⊎ Has l x → (Has l x → document_in l x.nr ≡ Some x) → (let o : Option Document = cond b (Some d) (document_in l x.nr) in o) ≡ Some x
    by_number true e (inl same) more = ap (λ (y : Document). let o : Option Document = Some y in o) same
    by_number true e (inr later) more =
        let n : d.nr.0 ≡ x.nr.0 = grind (arith, nat_tests, e) in
        let none : document_in l x.nr ≡ None = ap (λ (k : ℕ). find (λ (y : Document). y.nr.0 == k) l) (sym n) ∙ apart.0 in
        let never : (let o : Option Document = None in o) ≡ Some x = sym none ∙ more later in
        absurd cc
    by_number false e (inl same) more =
        let n : d.nr.0 ≡ x.nr.0 = ap (λ (y : Document). y.nr.0) same in
        let never : false ≡ true = grind (arith, nat_tests, n, e) in
        absurd cc
    by_number false e (inr later) more = more later

-- none of a list has a number above those that they have
none_next : (states : ℕ) (l : List Document) → ((d : Document) → Has (map unhandled l) d → d.state.0 ≤ states) → list_any (λ (d : Document). (states + 1) == d.state.0) l ≡ false
none_next states [] low = refl
none_next states (d ∷ l) low =
    let less : d.state.0 ≤ states = low (unhandled d) (inl refl) in
    let apart : ((states + 1) == d.state.0) ≡ false = grind (arith, nat_tests, less) in
    rw apart (none_next states l (λ x has. low x (inr has)))

module _ (checking : ReqId → Bool) (s : Seen) (numbered : AreNumbered s) (loading : AreLoading (unasked checking s)) (apart : AreApart (λ (d : Document). d.nr.0) (unasked checking s).documents) (own : AreOwnStates checking s) where
  -- that of an ongoing load is no higher than those that were numbered
  ongoing_low : (req : ReqId) (q : Asked) → request_of s req ≡ Some q → is_ongoing_load q ≡ true → (state : StateId) → q.state ≡ Some state → state.0 ≤ s.states
  ongoing_low req q at goes state its = by_check (checking req) refl
    where
      by_check : (b : Bool) → checking req ≡ b → state.0 ≤ s.states
      by_check true on =
          (own state (record { req = req; q = q; at = at; on = on; going = goes; own = its })).numbered
      by_check false off =
          let there : request_of (unasked checking s) req ≡ Some (without_asks q) = request_read checking s req ∙ ap (λ (o : Option Asked). option_map (unasked_request checking) o) at ∙ ap (λ (x : Asked). let o : Option Asked = Some x in o) (checked_off checking q (ap checking (numbered req q at) ∙ off)) in
          let it = loading.each req (look (without_asks q)) (ap (option_map look) there) goes in
          let same : it.state ≡ state = (let both : Some it.state ≡ Some state = sym it.state_is ∙ its in cc) in
          subst (λ (x : StateId). x.0 ≤ s.states) same it.numbered

  pub next_state : IsNextState s (record { 0 = s.states + 1 })
  next_state =
      record {
        next = refl;
        entries = λ row has. (let less : row.state.0 ≤ s.states = loading.rows_ row has in grind (arith, nat_tests, less));
        documents = none_next s.states s.documents (λ d has. loading.documents d.nr d (found_by (unasked checking s).documents d apart has));
        free = free;
      }
    where
      both : (a b : Bool) → (a ≡ true → b ≡ false) → (a && b) ≡ false
      both true b is = is refl
      both false b is = refl

      free : (other : ReqId) (q : Asked) → request_of s other ≡ Some q → is_ongoing_of (record { 0 = s.states + 1 }) q ≡ false
      free other q at = both (is_ongoing_load q) _ (λ goes. by_state goes q.state refl)
        where
          by_state : is_ongoing_load q ≡ true → (o : Option StateId) → q.state ≡ o → holds (λ (state : StateId). state.0 == (s.states + 1)) o ≡ false
          by_state goes None is = refl
          by_state goes (Some state) is =
              let less : state.0 ≤ s.states = ongoing_low other q at goes state is in
              grind (arith, nat_tests, less)
