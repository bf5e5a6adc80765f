-- One more request is there, which does nothing yet, or nothing any more: each that was there is there, and what comes is as it was.
use Rattle.tab_facts.proofs.Calm.Loads.{loads_same}
use Rattle.seen_facts.proofs.Each.Earlier.{still_there}
use Rattle.row_facts.specs.Left.Left.{WereShown}
use Rattle.seen_facts.specs.Load.Loading.{Look, is_ongoing, look, look_of}
use Rattle.log_model.specs.Checks.{is_checked}
use Rattle.log_model.specs.Equal.{holds, implies}
use Rattle.log_model.specs.History.{has_nav}
use Rattle.log_model.specs.Orders.{ongoing_load}
use Rattle.log_model.specs.Places.{all_stand, has_passed, is_moved, is_ongoing_load, is_traversal, is_under_way}
use Rattle.log_model.specs.Seen.{Asked, Seen, request_in, request_of}
use Rattle.seen_facts.proofs.Request.LookUps.{one_more, others_before}
use Rattle.std.proofs.Common.{Bool, List, None, Option, Some, [], ap, arith, cond, eqb-true, false, filter, inl, inr, length, refl, sym, true, ℕ, ◌&&◌, ◌++◌, ◌+◌, ◌==◌, ◌∙◌, ◌∷◌, ◌≡◌, ◌⊎◌}
use Rattle.std.proofs.lemmas.List.{map-id}
use Rattle.std.specs.Prelude.{find, option_map}
use Rattle.tab_doors.specs.declared.tables.Tables.{Tables}
use Rattle.tab_settles.specs.PassedOn.{AreLeftStrays, IsByItsOwn, IsStray, LoadsMadeOwn, MayServe, count_of, is_new_entry}
use Rattle.tab_ids.specs.declared.NavId.{NavId}
use Rattle.tab_ids.specs.declared.ReqId.{ReqId}
use Rattle.tab_ids.specs.declared.StateId.{StateId}
use Rattle.move_queue.specs.Queue.{Queue}
use Rattle.tab_stands.proofs.Coming.{IsComing}
use Rattle.tab_stands.specs.Standing.{InCheck, StandsFor}

-- ---- one more request that doesn't pass a test

module _ (test : Asked → Bool) (new : Asked) (fails : test new ≡ false) where
  -- as many pass
  pub count_as : (asked : List Asked) → count_of test (asked ++ new ∷ []) ≡ count_of test asked
  count_as [] = by_test (test new) fails
    where
      by_test : (b : Bool) → b ≡ false → length (let l : List Asked = cond b (new ∷ []) [] in l) ≡ 0
      by_test false e = refl
      by_test true e = absurd cc
  count_as (x ∷ asked) = by_test (test x) (count_as asked)
    where
      by_test : (b : Bool) → count_of test (asked ++ new ∷ []) ≡ count_of test asked → length (let l : List Asked = cond b (x ∷ filter test (asked ++ new ∷ [])) (filter test (asked ++ new ∷ [])) in l) ≡ length (let l : List Asked = cond b (x ∷ filter test asked) (filter test asked) in l)
      by_test true same = omega (arith, same)
      by_test false same = same

  -- the first that passes is the same
  find_as : (asked : List Asked) → find test (asked ++ new ∷ []) ≡ find test asked
  find_as [] = by_test (test new) fails
    where
      by_test : (b : Bool) → b ≡ false → (let o : Option Asked = cond b (Some new) None in o) ≡ None
      by_test false e = refl
      by_test true e = absurd cc
  find_as (x ∷ asked) = by_test (test x) (find_as asked)
    where
      by_test : (b : Bool) → find test (asked ++ new ∷ []) ≡ find test asked → (let o : Option Asked = cond b (Some x) (find test (asked ++ new ∷ [])) in o) ≡ cond b (Some x) (find test asked)
      by_test true same = refl
      by_test false same = same

-- ---- a state of the log with one more request

module _ (s rest : Seen) (new : Asked) (req : ReqId) (nr : req.0 ≡ length s.requests + 1) where
  -- like the other in what isn't read here
  abbrev pub more : Seen
  more = record rest { history = s.history; documents = s.documents; places = s.places; kept = s.kept; requests = s.requests ++ new ∷ [] }

  pub new_there : request_in more.requests req ≡ Some new
  new_there = one_more s.requests new req nr

  -- a request that was there is there still
  pub old_stays : (r : ReqId) (q : Asked) → request_in s.requests r ≡ Some q → request_in more.requests r ≡ Some q
  old_stays r q at = still_there s.requests new q req r nr at

  -- each was there, or is this one
  pub one_of : (r : ReqId) (q : Asked) → request_in more.requests r ≡ Some q → (request_in s.requests r ≡ Some q) ⊎ ((r ≡ req) × (q ≡ new))
  one_of r q at = by_test (req.0 == r.0) refl
    where
      by_test : (b : Bool) → (req.0 == r.0) ≡ b → (request_in s.requests r ≡ Some q) ⊎ ((r ≡ req) × (q ≡ new))
      by_test false apart = inl (sym (others_before s.requests new req nr r apart) ∙ at)
      by_test true same =
          let one : r ≡ req = ap (λ (n : ℕ). let x : ReqId = record { 0 = n } in x) (sym (eqb-true req.0 r.0 same)) in
          let two : Some q ≡ Some new = sym at ∙ ap (λ (x : ReqId). request_in more.requests x) one ∙ new_there in
          inr (one, (let is : q ≡ new = cc in is))

  -- ---- what comes

  module _ (idle : is_ongoing_load new ≡ false) (idle_look : is_ongoing (look new) ≡ false) (no_run : (is_under_way new && is_traversal new.what) ≡ false) (none_made : new.made ≡ None) where
    loads_were : (r : ReqId) (l : Look) → look_of more r ≡ Some l → is_ongoing l ≡ true → look_of s r ≡ Some l
    loads_were r l at on = by_found (request_in more.requests r) refl
      where
        by_old : (q : Asked) → look q ≡ l → (request_in s.requests r ≡ Some q) ⊎ ((r ≡ req) × (q ≡ new)) → look_of s r ≡ Some l
        by_old q is (inl old) = ap (λ (o : Option Asked). option_map look o) old ∙ ap (λ (x : Look). let o : Option Look = Some x in o) is
        by_old q is (inr it) =
            let never : false ≡ true = sym idle_look ∙ ap (λ (x : Asked). is_ongoing (look x)) (sym it.1) ∙ ap is_ongoing is ∙ on in absurd cc

        by_found : (o : Option Asked) → request_in more.requests r ≡ o → look_of s r ≡ Some l
        by_found None none =
            let never : None ≡ Some l = sym (ap (λ (o : Option Asked). option_map look o) none) ∙ at in absurd cc
        by_found (Some q) found =
            let two : Some (look q) ≡ Some l = sym (ap (λ (o : Option Asked). option_map look o) found) ∙ at in
            let one : look q ≡ l = cc in
            by_old q one (one_of r q found)

    serves_still : (r : ReqId) → MayServe s r → MayServe more r
    serves_still r may = by_found (request_of s r) refl
      where
        by_found : (o : Option Asked) → request_of s r ≡ o → MayServe more r
        by_found None none =
            let never : false ≡ true = ap (λ (o : Option Asked). holds (λ (q : Asked). implies (is_checked q) (has_passed s q)) o) (sym none) ∙ may.goes in absurd cc
        by_found (Some q) at =
            record {
              goes = ap (λ (o : Option Asked). holds (λ (x : Asked). implies (is_checked x) (has_passed more x)) o) (old_stays r q at) ∙ (ap (λ (o : Option Asked). holds (λ (x : Asked). implies (is_checked x) (has_passed s x)) o) (sym at) ∙ may.goes);
              begun = λ x found. (let both : Some q ≡ Some x = sym (old_stays r q at) ∙ found in let same : q ≡ x = cc in may.begun x (at ∙ ap (λ (y : Asked). let o : Option Asked = Some y in o) same));
            }

    moved_same : (nav : NavId) → is_moved more nav ≡ is_moved s nav
    moved_same nav =
        ap (λ (o : Option Asked). holds (λ (q : Asked). has_nav q.moved nav) o) (find_as (λ (q : Asked). is_under_way q && is_traversal q.what) new no_run s.requests)

    loaded_same : (state : StateId) → ongoing_load more state ≡ ongoing_load s state
    loaded_same state =
        find_as (λ (q : Asked). is_ongoing_load q && holds (λ (x : StateId). x.0 == state.0) q.state) new (rw idle refl) s.requests

    module _ (t : Tables) (queue : Queue) (blame : List (StateId × ReqId)) {check : InCheck} (stands : StandsFor check s t queue blame) where
      pub strays_more : AreLeftStrays more blame
      strays_more doc state stray =
          let was : IsStray s doc state = record { document = stray.document; found = stray.found; its_state = stray.its_state; ready = stray.ready; undiscarded = stray.undiscarded; bare = stray.bare; unloaded = sym (loaded_same state) ∙ stray.unloaded } in
          let it = stands.strays doc state was in
          record { req = it.req; noted = it.noted; may = serves_still it.req it.may; bare = it.bare }

      theirs_more : LoadsMadeOwn more
      theirs_more r q made found load makes = by_old (one_of r q found)
        where
          by_old : (request_in s.requests r ≡ Some q) ⊎ ((r ≡ req) × (q ≡ new)) → IsByItsOwn more q made × (is_new_entry made.what ≡ true)
          by_old (inl old) =
              let its = stands.lasts.made r q made old load makes in
              (record { d = its.0.d; found = its.0.found; nav_is = its.0.nav_is }, its.1)
          by_old (inr it) =
              let never : None ≡ Some made = sym none_made ∙ ap (λ (x : Asked). x.made) (sym it.1) ∙ makes in absurd cc

      pub coming_more : WereShown more → rest.last_step ≡ s.last_step → (s.has_stood ≡ false → all_stand more more.history.current ≡ false → rest.has_stood ≡ false) → IsComing blame s more
      coming_more were step unstood =
          record {
            g = λ p. p;
            arrives = record { nav = λ p. refl; sight = λ p. refl; last = λ p. refl; why = λ p. refl; taken = λ p. refl; ever = λ p. refl; arrived = λ p is. is };
            places = sym (map-id s.places);
            history = refl;
            kept = refl;
            asked = λ r q at. record { now = q; at = old_stays r q at; same = refl; changed = λ change is. is };
            loads = loads_were;
            loading = loads_same s more loads_were (λ doc. refl) stands.between.loading;
            serves = serves_still;
            moved = moved_same;
            states = λ doc. refl;
            homes = λ doc d found. (d, found, refl);
            strays = λ doc state stray. inl (strays_more doc state stray);
            were = were;
            theirs = theirs_more;
            step = step;
            unstood = unstood;
          }
