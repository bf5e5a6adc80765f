-- A request enters its check, or passes it: what is carried of the checks stays.
use Rattle.std.proofs.Common.{◌≡◌, inl, inr, ℕ, ◌+◌, Bool, true, false, ◌||◌, ◌==◌, Option, Some, refl, sym, ap, ◌∙◌}
use Rattle.std.proofs.lemmas.Bool.{and_parts}
use Rattle.tab_ids.specs.declared.ReqId.{ReqId}
use Rattle.tab_ids.specs.declared.Step.{Step}
use Rattle.log_model.specs.declared.request.Request.{Request}
use Rattle.log_model.specs.declared.row_kind.Actor.{Actor}
use Rattle.log_model.specs.declared.row_kind.RowKind.TheVariants as rows
use Rattle.log_model.specs.After.{after}
use Rattle.log_model.specs.Places.{has_passed, is_gone, is_load, is_reload, is_traversal, is_under_way}
use Rattle.log_model.specs.Seen.{Asked, Seen, request_in, request_of}
use Rattle.unasked_dues.specs.Checking.{IsChecking}
use Rattle.checking_facts.proofs.Grown.{Deeds, Goes, deeds_of, req_same}
use Rattle.checking_facts.proofs.Rows.{begun_all, row_checks}
use Rattle.checking_facts.proofs.States.{begun_states, has_begun}
use Rattle.checking_facts.specs.Checks.{AreInCheck, MayEnter, NoOtherUnderWay, SameBut, just}
use Rattle.checking_facts.specs.States.{AreOwnStates, IsNextState, IsOwnState, IsUnspent}

-- a request enters its check as it begins
module _ (checking entered : ReqId → Bool) (s : Seen) (event : ℕ) (actor : Actor) (req : ReqId) (goal : Option Step) (same : SameBut req checking entered) (off : checking req ≡ false) (on : entered req ≡ true) (may : (q : Asked) → request_of s req ≡ Some q → MayEnter q) where
  -- what the log has come to then
  abbrev then_ : Seen
  then_ = after s (record { event = event; actor = actor; row = rows.Started req goal })

  was : (r : ReqId) → entered r ≡ true → just req r ≡ false → checking r ≡ true
  was r is other = sym (same r other) ∙ is

  -- the request as it was
  was_one : (r : ReqId) (q : Asked) → request_of then_ r ≡ Some q → just req r ≡ true → (p : Asked) × (request_in s.requests req ≡ Some p) × Goes entered (just req) (is_gone s) req p q
  was_one r q at e =
      begun_all entered s event actor req goal req q (ap (λ (n : ReqId). request_of then_ n) (sym (req_same r req e)) ∙ at)

  -- no load in its check begins
  were_own : AreOwnStates checking s → AreOwnStates entered s
  were_own own state held = by_one (just req held.req) refl
    where
      by_one : (b : Bool) → just req held.req ≡ b → IsOwnState s held.req state
      by_one true e =
          let is_one : MayEnter held.q = may held.q (ap (λ (n : ReqId). request_of s n) (sym (req_same held.req req e)) ∙ held.at) in
          let never : true ≡ false = sym (and_parts (is_under_way held.q) (is_load held.q.what) held.going).0 ∙ is_one.waits in
          absurd cc
      by_one false e =
          own state (record { req = held.req; q = held.q; at = held.at; on = was held.req held.on e; going = held.going; own = held.own })

  pub entered_checks : IsNextState s (record { 0 = s.states + 1 }) → IsUnspent s req → ((q : Asked) → request_of s req ≡ Some q → is_traversal q.what ≡ true → NoOtherUnderWay s req) → AreInCheck checking s → AreInCheck entered then_
  entered_checks next unspent none are =
      record {
        numbered = outside.numbered;
        others = λ r q at out. outside.others r q at (by_out r out (just req r) refl);
        begun = λ r q at is. begun_ r q at is (just req r) refl;
        checks = λ r q at is. checks r q at is (just req r) refl;
        alone = λ r by q p at there runs runs_ goes goes_ is. alone r by q p at there runs runs_ goes goes_ is (just req r) refl;
        states = begun_states entered s event actor req goal (begun_all entered s event actor req goal) (inr next) (were_own are.states);
        spent = outside.spent;
      }
    where
      outside : AreInCheck checking then_
      outside =
          row_checks checking s (record { event = event; actor = actor; row = rows.Started req goal }) (λ by q r at there other goes runs goes_. absurd (none q at goes by r there other runs goes_)) (inl off, unspent) are

      by_out : (r : ReqId) → entered r ≡ false → (b : Bool) → just req r ≡ b → checking r ≡ false
      by_out r out true e =
          let never : false ≡ true = sym out ∙ ap entered (req_same r req e) ∙ on in absurd cc
      by_out r out false e = sym (same r e) ∙ out

      begun_ : (r : ReqId) (q : Asked) → request_of then_ r ≡ Some q → entered r ≡ true → (b : Bool) → just req r ≡ b → q.is_started ≡ true
      begun_ r q at is true e = has_begun entered s event actor req goal r q at e
      begun_ r q at is false e = outside.begun r q at (was r is e)

      checks : (r : ReqId) (q : Asked) → request_of then_ r ≡ Some q → entered r ≡ true → (b : Bool) → just req r ≡ b → IsChecking r q
      checks r q at is true e =
          let p = was_one r q at e in
          let is_one : MayEnter p.0 = may p.0 p.1 in
          let still : deeds_of q ≡ deeds_of p.0 = p.2.still on in
          record {
            nr = outside.numbered r q at;
            checked = ap (λ (w : Request). is_load w || is_traversal w || is_reload w) p.2.what ∙ is_one.checked;
            unmoved = ap (λ (d : Deeds). d.moved) still ∙ is_one.unmoved;
            shows = ap (λ (d : Deeds). d.activated) still ∙ is_one.shows;
            unchanged = ap (λ (d : Deeds). d.change) still ∙ is_one.unchanged;
            unsent = ap (λ (d : Deeds). d.fragment) still ∙ is_one.unsent;
          }
      checks r q at is false e = outside.checks r q at (was r is e)

      alone : (r by : ReqId) (q p : Asked) → request_of then_ r ≡ Some q → request_of then_ by ≡ Some p → is_under_way q ≡ true → is_under_way p ≡ true → is_traversal q.what ≡ true → is_traversal p.what ≡ true → entered r ≡ true → (b : Bool) → just req r ≡ b → q.nr ≡ p.nr
      alone r by q p at there runs runs_ goes goes_ is true e = by_other (just req by) refl
        where
          by_other : (b : Bool) → just req by ≡ b → q.nr ≡ p.nr
          by_other true f =
              outside.numbered r q at ∙ req_same r req e ∙ sym (req_same by req f) ∙ sym (outside.numbered by p there)
          by_other false f =
              let w = was_one r q at e in
              let o = begun_all entered s event actor req goal by p there in
              absurd (none w.0 w.1 (ap is_traversal (sym w.2.what) ∙ goes) by o.0 o.1 f (o.2.runs f runs_) (ap is_traversal (sym o.2.what) ∙ goes_))
      alone r by q p at there runs runs_ goes goes_ is false e =
          outside.alone r by q p at there runs runs_ goes goes_ (was r is e)

-- a request passes its check
pub passed_checks : (checking passed : ReqId → Bool) (s : Seen) (req : ReqId) → SameBut req checking passed → passed req ≡ false → ((q : Asked) → request_of s req ≡ Some q → has_passed s q ≡ true) → AreInCheck checking s → AreInCheck passed s
passed_checks checking passed s req same off has are =
    record {
      numbered = are.numbered;
      others = λ r q at out. others r q at out (r.0 == req.0) refl;
      begun = λ r q at is. are.begun r q at (was r is (r.0 == req.0) refl);
      checks = λ r q at is. are.checks r q at (was r is (r.0 == req.0) refl);
      alone = λ r by q p at there runs runs_ goes goes_ is. are.alone r by q p at there runs runs_ goes goes_ (was r is (r.0 == req.0) refl);
      states = λ state held. are.states state (record { req = held.req; q = held.q; at = held.at; on = was held.req held.on (held.req.0 == req.0) refl; going = held.going; own = held.own });
      spent = are.spent;
    }
  where
    others : (r : ReqId) (q : Asked) → request_of s r ≡ Some q → passed r ≡ false → (b : Bool) → (r.0 == req.0) ≡ b → has_passed s q ≡ true
    others r q at out true e = has q (ap (λ (n : ReqId). request_of s n) (sym (req_same r req e)) ∙ at)
    others r q at out false e = are.others r q at (sym (same r e) ∙ out)

    was : (r : ReqId) → passed r ≡ true → (b : Bool) → (r.0 == req.0) ≡ b → checking r ≡ true
    was r is true e = let never : true ≡ false = sym is ∙ ap passed (req_same r req e) ∙ off in absurd cc
    was r is false e = sym (same r e) ∙ is
