-- A request passes its check: no step under way is in its check, if none was; and where it is a traversal none is any more, since no other one was under way beside it.
use Rattle.checking_facts.specs.Checks.{AreInCheck, SameBut}
use Rattle.log_model.specs.Places.{is_traversal, is_under_way}
use Rattle.log_model.specs.Queue.{is_step_under_way}
use Rattle.log_model.specs.Seen.{Asked, Seen, request_of}
use Rattle.log_model.specs.Places.{is_reload}
use Rattle.log_model.specs.declared.request.Request.{Request}
use Rattle.log_model.specs.declared.request.Request.TheVariants as requests
use Rattle.seen_facts.proofs.Each.Courses.{was_asked}
use Rattle.seen_facts.proofs.Request.Readers.{SameReads}
use Rattle.seen_facts.specs.Asked.Asking.{IsAskedPlainly, IsTabRequest}
use Rattle.seen_facts.specs.Each.Runs.{EachAsked}
use Rattle.seen_laws.specs.Unasked.{unasked, unasked_request, unbegun, without_asks}
use Rattle.std.proofs.Common.{Bool, Option, Some, ap, arith, cond, false, refl, subst, sym, true, ◌==◌, ◌∙◌, ◌≡◌, ◌||◌}
use Rattle.std.proofs.lemmas.Bool.Decides.{nat_tests}
use Rattle.std.proofs.lemmas.Bool.{and_parts}
use Rattle.std.specs.Prelude.{option_map}
use Rattle.tab_ids.specs.declared.ReqId.{ReqId}
use Rattle.unasked.proofs.Readings.{request_read}
use Rattle.unasked_dues.specs.Checking.{NoStepChecks}

-- a request of a tab is no reload
never_reload : (what : Request) → IsTabRequest what → is_reload what ≡ false
never_reload (requests.Go delta) is = refl
never_reload (requests.Load nav mode address) is = refl
never_reload (requests.Poke nav action) is = refl
never_reload (requests.Reload nav) never = absurd never

-- no step was, and none enters
pub still_none : (was passed : ReqId → Bool) (s t : Seen) (req : ReqId) → passed req ≡ false → SameBut req was passed → SameReads is_step_under_way s.requests t.requests → NoStepChecks was s → NoStepChecks passed t
still_none was passed s t req off same reads none r x found in_ = by_number (r.0 == req.0) refl
  where
    by_number : (b : Bool) → (r.0 == req.0) ≡ b → is_step_under_way x ≡ false
    by_number false apart =
        let old = was_asked is_step_under_way s.requests t.requests reads r x found in
        sym old.2 ∙ none r old.0 old.1 (sym (same r apart) ∙ in_)
    by_number true e =
        let one : r ≡ req = (let n : r.0 ≡ req.0 = grind (arith, nat_tests, e) in ap (λ i. let y : ReqId = record { 0 = i } in y) n) in
        let never : true ≡ false = sym in_ ∙ ap passed one ∙ off in
        absurd cc

module _ (was passed : ReqId → Bool) (s : Seen) (are : AreInCheck was s) (plain : EachAsked IsAskedPlainly (unasked was s).requests) (req : ReqId) (q : Asked) (at : request_of s req ≡ Some q) (under : is_under_way q ≡ true) (goes : is_traversal q.what ≡ true) (on : was req ≡ true) (off : passed req ≡ false) (same : SameBut req was passed) where
  -- whatever the log without questions has of it, it asks the same
  what_seen : (x : Asked) → (unasked_request was x).what ≡ x.what
  what_seen x = by_test (was x.nr)
    where
      by_test : (b : Bool) → (let y : Asked = cond b (unbegun x) (without_asks x) in y).what ≡ x.what
      by_test true = refl
      by_test false = refl

  stays : (r : ReqId) (x : Asked) → request_of s r ≡ Some x → is_reload x.what ≡ false
  stays r x found =
      never_reload x.what (subst (λ (w : Request). IsTabRequest w) (what_seen x) (plain r (unasked_request was x) (request_read was s r ∙ ap (λ (o : Option Asked). option_map (unasked_request was) o) found)).what)

  -- another one in its check isn't under way, where it is a step
  at_start : (r : ReqId) (x : Asked) → request_of s r ≡ Some x → passed r ≡ true → is_step_under_way x ≡ false
  at_start r x found in_ = by_step (is_step_under_way x) refl
    where
      apart : (r.0 == req.0) ≡ false
      apart = by_test (r.0 == req.0) refl
        where
          by_test : (b : Bool) → (r.0 == req.0) ≡ b → b ≡ false
          by_test false e = refl
          by_test true e =
              let one : r ≡ req = (let n : r.0 ≡ req.0 = grind (arith, nat_tests, e) in ap (λ i. let y : ReqId = record { 0 = i } in y) n) in
              let never : true ≡ false = sym in_ ∙ ap passed one ∙ off in
              absurd cc

      by_step : (b : Bool) → is_step_under_way x ≡ b → b ≡ false
      by_step false e = refl
      by_step true e =
          let parts = and_parts (is_under_way x) (is_traversal x.what || is_reload x.what) e in
          let steps : is_traversal x.what ≡ true = sym (or_none (is_traversal x.what) (is_reload x.what) (stays r x found)) ∙ parts.1 in
          let one : q.nr ≡ x.nr = are.alone req r q x at found under parts.0 goes steps on in
          let nr : req ≡ r = sym (are.numbered req q at) ∙ one ∙ are.numbered r x found in
          let never : (r.0 == req.0) ≡ true = (let n : req.0 ≡ r.0 = ap (λ (y : ReqId). y.0) nr in grind (arith, nat_tests, n)) in
          let no : true ≡ false = sym never ∙ apart in
          absurd cc
        where
          or_none : (a b : Bool) → b ≡ false → (a || b) ≡ a
          or_none true false off_ = refl
          or_none false false off_ = refl
          or_none a true off_ = absurd cc

  -- nor is it once a row has come that ends and begins nothing
  pub no_steps : (t : Seen) → SameReads is_step_under_way s.requests t.requests → NoStepChecks passed t
  no_steps t reads r x found in_ =
      let old = was_asked is_step_under_way s.requests t.requests reads r x found in
      sym old.2 ∙ at_start r old.0 old.1 in_
