-- A traversal begins in a log as another one began, and nothing else changes: what is read of requests, and for whom orders may be.
use Rattle.log_model.specs.Places.{is_load, is_ongoing_load, is_traversal, is_under_way}
use Rattle.log_model.specs.Seen.{Asked, Seen, request_in, request_of}
use Rattle.log_model.specs.declared.job.Why.{Why}
use Rattle.seen_facts.proofs.Coord.Held.{on_else}
use Rattle.seen_facts.proofs.Each.Runs.{each_asked_on}
use Rattle.seen_facts.proofs.Load.Rows.{changed_looks, req_same}
use Rattle.seen_facts.proofs.Request.Readers.{SameReads, on_read}
use Rattle.seen_facts.specs.Asked.Asking.{ArePlain}
use Rattle.seen_facts.specs.Load.Loading.{Look, is_ongoing, look, look_of}
use Rattle.std.proofs.Common.{Bool, Option, Some, ap, false, refl, sym, true, ◌&&◌, ◌==◌, ◌∙◌, ◌≡◌}
use Rattle.std.proofs.lemmas.Bool.{and_parts}
use Rattle.std.specs.Prelude.{is_none, option_map}
use Rattle.tab_facts.proofs.TabWhole.Beginning.{IsToGo, no_load}
use Rattle.tab_facts.specs.Frame.Lasting.{wish}
use Rattle.tab_ids.specs.declared.ReqId.{ReqId}
use Rattle.tab_turns.proofs.Turned.{IsBegun, KeepBegun, alone_turned, causes_on, started_out}
use Rattle.tab_turns.specs.Turning.{LeavesAlone, MayCause}
use Rattle.unasked.proofs.Passings.{begun_as}
use Rattle.unasked_tab.proofs.Begun.{begun_now, with_begun}

module _ (s : Seen) (req : ReqId) (p : Asked) (is : IsToGo s req p) (b : Asked) (starts : b.is_started ≡ true) where
  -- the log then
  abbrev pub n : Seen
  n = with_begun s req b

  -- the request then
  pub there : request_of (with_begun s req b) req ≡ Some (begun_as b p)
  there = begun_now s req b p is.there

  -- it is no load
  no_ongoing : (x : Asked) → is_traversal x.what ≡ true → is_ongoing_load x ≡ false
  no_ongoing x goes = by_test (is_under_way x) (no_load x.what goes)
    where
      by_test : (u : Bool) {l : Bool} → l ≡ false → (u && l) ≡ false
      by_test true e = e
      by_test false e = refl

  no_look : (l : Look) → is_traversal l.what ≡ true → is_ongoing l ≡ true → ⊥
  no_look l goes on =
      let never : true ≡ false = sym (and_parts (l.is_started && is_none l.ending) (is_load l.what) on).1 ∙ no_load l.what goes in cc

  -- ---- ongoing loads

  -- each that is found then was found, and the other way round
  pub ongoing_was : (r : ReqId) (q : Asked) → request_of (with_begun s req b) r ≡ Some q → is_ongoing_load q ≡ true → request_of s r ≡ Some q
  ongoing_was r q at on = by_number (r.0 == req.0) refl
    where
      by_number : (c : Bool) → (r.0 == req.0) ≡ c → request_of s r ≡ Some q
      by_number false e = sym (on_else s.requests req (begun_as b) r e) ∙ at
      by_number true e =
          let one : r ≡ req = req_same r req e in
          let both : Some (begun_as b p) ≡ Some q = sym there ∙ ap (λ (x : ReqId). request_of n x) (sym one) ∙ at in
          let same : begun_as b p ≡ q = cc in
          let never : false ≡ true = sym (no_ongoing q (ap (λ (x : Asked). is_traversal x.what) (sym same) ∙ is.goes)) ∙ on in
          absurd cc

  pub ongoing_now : (r : ReqId) (q : Asked) → request_of s r ≡ Some q → is_ongoing_load q ≡ true → request_of (with_begun s req b) r ≡ Some q
  ongoing_now r q at on = by_number (r.0 == req.0) refl
    where
      by_number : (c : Bool) → (r.0 == req.0) ≡ c → request_of n r ≡ Some q
      by_number false e = on_else s.requests req (begun_as b) r e ∙ at
      by_number true e =
          let one : r ≡ req = req_same r req e in
          let both : Some p ≡ Some q = sym is.there ∙ ap (λ (x : ReqId). request_of s x) (sym one) ∙ at in
          let same : p ≡ q = cc in
          let never : false ≡ true = sym (no_ongoing q (ap (λ (x : Asked). is_traversal x.what) (sym same) ∙ is.goes)) ∙ on in
          absurd cc

  -- and so by what is read of them
  pub looks_were : (r : ReqId) (l : Look) → look_of (with_begun s req b) r ≡ Some l → is_ongoing l ≡ true → look_of s r ≡ Some l
  looks_were = changed_looks s.requests req (begun_as b) (λ x at. none (look (begun_as b x)) (goes x at))
    where
      goes : (x : Asked) → request_in s.requests req ≡ Some x → is_traversal x.what ≡ true
      goes x at =
          let both : Some p ≡ Some x = sym is.there ∙ at in
          let same : p ≡ x = cc in
          ap (λ (y : Asked). is_traversal y.what) (sym same) ∙ is.goes

      none : (l : Look) → is_traversal l.what ≡ true → is_ongoing l ≡ false
      none l traverses = by_test (is_ongoing l) refl
        where
          by_test : (c : Bool) → is_ongoing l ≡ c → c ≡ false
          by_test false e = refl
          by_test true e = absurd (no_look l traverses e)

  pub looks_stay : (r : ReqId) (l : Look) → look_of s r ≡ Some l → is_ongoing l ≡ true → look_of (with_begun s req b) r ≡ Some l
  looks_stay r l at on = by_number (r.0 == req.0) refl
    where
      by_number : (c : Bool) → (r.0 == req.0) ≡ c → look_of n r ≡ Some l
      by_number false e = ap (λ (o : Option Asked). option_map look o) (on_else s.requests req (begun_as b) r e) ∙ at
      by_number true e =
          let one : r ≡ req = req_same r req e in
          let both : Some (look p) ≡ Some l = sym (ap (λ (o : Option Asked). option_map look o) is.there) ∙ ap (λ (x : ReqId). look_of s x) (sym one) ∙ at in
          let same : look p ≡ l = cc in
          absurd (no_look l (ap (λ (x : Look). is_traversal x.what) (sym same) ∙ is.goes) on)

  -- ---- what is as it was

  -- what each asks, and what was made of it
  pub wishes : SameReads wish s.requests (with_begun s req b).requests
  wishes = on_read wish s.requests req (begun_as b) (λ q. refl)

  -- whoever has set out has so still
  keep : KeepBegun s.requests n.requests
  keep this each =
      each_asked_on (IsBegun this) (IsBegun this) s.requests req (begun_as b) (λ r q apart has. has) (λ q at has same. started_out (begun_as b q) starts) each

  -- so orders may be for whom they might be
  pub alone : (run : Option ReqId) → ArePlain run (with_begun s req b) → LeavesAlone s (with_begun s req b)
  alone run plain =
      alone_turned s n (record {
        documents = refl;
        places = refl;
        rows_ = refl;
        desks = refl;
        kept = refl;
        parked = refl;
        wishes = wishes;
        begun = keep;
      }) run plain

  pub causes : (run : Option ReqId) → ArePlain run (with_begun s req b) → (why : Why) → MayCause s why → MayCause (with_begun s req b) why
  causes run plain = causes_on s n run plain wishes keep
