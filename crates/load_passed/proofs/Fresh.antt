-- The document state of a load in its check is nothing's yet, in the log without questions.
use Rattle.checking_facts.specs.Checks.{AreInCheck}
use Rattle.checking_facts.specs.States.{IsOwnState}
use Rattle.log_model.specs.Places.{is_ongoing_load}
use Rattle.log_model.specs.Seen.{Asked, Document, Seen, request_of}
use Rattle.seen_facts.proofs.Hang.Members.{find_has}
use Rattle.seen_facts.proofs.Load.Rows.{req_same}
use Rattle.seen_facts.specs.Hang.Members.{Has}
use Rattle.seen_facts.specs.Home.Homes.{document_in}
use Rattle.seen_facts.specs.Load.Loading.{Look, is_ongoing, look, look_of}
use Rattle.seen_laws.specs.Unasked.{unasked, unasked_request, unbegun, unhandled, without_asks}
use Rattle.std.proofs.Common.{Bool, List, None, Option, Some, [], ap, arith, cond, false, inl, inr, map, refl, sym, true, ℕ, ◌==◌, ◌||◌, ◌∙◌, ◌∷◌, ◌≡◌, ◌⊎◌}
use Rattle.std.proofs.lemmas.Bool.Decides.{nat_tests}
use Rattle.std.specs.List.{list_any}
use Rattle.std.specs.Prelude.{option_map}
use Rattle.tab_ids.specs.declared.DocId.{DocId}
use Rattle.tab_ids.specs.declared.ReqId.{ReqId}
use Rattle.tab_ids.specs.declared.StateId.{StateId}
use Rattle.unasked.proofs.Readings.{request_read}
use Rattle.unasked_dues.specs.Checking.{is_ongoing_of}
use Rattle.unasked_tab.specs.Passing.{IsFreshState}

-- two numbers aren't the same and apart
never_apart : {A : Type 0} (a b : ℕ) → a ≡ b → (a == b) ≡ false → A
never_apart a b number apart_ = absurd (grind (arith, nat_tests, number, apart_))

-- where none passes a test, none does without a handler, if it isn't read of that
none_unhandled : (test : Document → Bool) → ((d : Document) → test (unhandled d) ≡ test d) → (xs : List Document) → list_any test xs ≡ false → (d : Document) → Has (map unhandled xs) d → test d ≡ false
none_unhandled test blind [] none d has = absurd has
none_unhandled test blind (x ∷ xs) none d has =
    by_place has (λ none_later. none_unhandled test blind xs none_later d)
  where
    first : (a b : Bool) → (a || b) ≡ false → a ≡ false
    first false b is = refl
    first true b is = is

    later : (a b : Bool) → (a || b) ≡ false → b ≡ false
    later false b is = is
    later true b is = absurd (let never : true ≡ false = is in cc)

    by_place : (unhandled x ≡ d) ⊎ Has (map unhandled xs) d → (list_any test xs ≡ false → Has (map unhandled xs) d → test d ≡ false) → test d ≡ false
    by_place (inl same) more = ap test (sym same) ∙ blind x ∙ first (test x) (list_any test xs) none
    by_place (inr rest) more = more (later (test x) (list_any test xs) none) rest

module _ (was : ReqId → Bool) (s : Seen) (are : AreInCheck was s) (req : ReqId) (q : Asked) (at : request_of s req ≡ Some q) (on : was req ≡ true) (going : is_ongoing_load q ≡ true) (state : StateId) (own : q.state ≡ Some state) where
  its : IsOwnState s req state
  its = are.states state (record { req = req; q = q; at = at; on = on; going = going; own = own })

  -- no document has it
  undocumented : (doc : DocId) (d : Document) → document_in (map unhandled s.documents) doc ≡ Some d → d.state.0 ≡ state.0 → ⊥
  undocumented doc d found same =
      never_apart state.0 d.state.0 (sym same) (none_unhandled (λ (x : Document). state.0 == x.state.0) (λ x. refl) s.documents its.documents d (find_has (λ (x : Document). x.nr.0 == doc.0) (map unhandled s.documents) d found).0)

  -- no ongoing load of the log without questions has it
  free : (r : ReqId) (l : Look) → look_of (unasked was s) r ≡ Some l → is_ongoing l ≡ true → l.state ≡ Some state → ⊥
  free r l there ongoing is =
      by_found (request_of s r) refl (sym (ap (λ (o : Option Asked). option_map look o) (request_read was s r)) ∙ there)
    where
      by_number : (x : Asked) → request_of s r ≡ Some x → was x.nr ≡ false → look x ≡ l → (b : Bool) → (r.0 == req.0) ≡ b → ⊥
      by_number x found off same true e =
          let one : r ≡ req = req_same r req e in
          let never : false ≡ true = sym off ∙ ap was (are.numbered r x found ∙ one) ∙ on in
          cc
      by_number x found off same false e =
          let alone : is_ongoing_of state x ≡ false = its.alone r x e found in
          let on_ : is_ongoing_load x ≡ true = ap is_ongoing same ∙ ongoing in
          let has : x.state ≡ Some state = ap (λ (y : Look). y.state) same ∙ is in
          let its_own : is_ongoing_of state x ≡ true = (let equal : (state.0 == state.0) ≡ true = grind (arith, nat_tests) in rw on_ (rw has equal)) in
          let never : true ≡ false = sym its_own ∙ alone in
          cc

      by_test : (x : Asked) → request_of s r ≡ Some x → (b : Bool) → was x.nr ≡ b → look (let y : Asked = cond b (unbegun x) (without_asks x) in y) ≡ l → ⊥
      by_test x found true e same = let never : false ≡ true = ap is_ongoing same ∙ ongoing in cc
      by_test x found false e same = by_number x found e same (r.0 == req.0) refl

      by_found : (o : Option Asked) → request_of s r ≡ o → option_map look (option_map (unasked_request was) o) ≡ Some l → ⊥
      by_found None found none = cc
      by_found (Some x) found some =
          by_test x found (was x.nr) refl (let same : look (unasked_request was x) ≡ l = cc in same)

  pub fresh_state : IsFreshState (unasked was s) state
  fresh_state =
      record {
        numbered = its.numbered;
        unheld = λ row has same. never_apart state.0 row.state.0 (sym same) (its.entries row has);
        undocumented = undocumented;
        free = free;
      }
