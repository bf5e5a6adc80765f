-- A traversal passes its unload check, where none runs: it begins, and runs.
use Rattle.std.proofs.Common.{◌≡◌, Bool, true, false, ◌==◌, ◌&&◌, List, Some, None, refl, sym, ap, ◌∙◌, subst, arith}
use Rattle.std.specs.Prelude.{is_none, is_some}
use Rattle.std.proofs.lemmas.Bool.Decides.{nat_tests}
use Rattle.tab_ids.specs.declared.ReqId.{ReqId}
use Rattle.log_model.specs.declared.made.Made.{Made}
use Rattle.log_model.specs.Equal.{has_req}
use Rattle.log_model.specs.Places.{is_load, is_traversal}
use Rattle.log_model.specs.Seen.{Asked, Seen, request_in, request_of}
use Rattle.seen_facts.specs.Asked.Asking.{ArePlain, IsAskedPlainly, IsThere}
use Rattle.seen_facts.specs.Each.Runs.{is_run, is_this}
use Rattle.seen_facts.specs.Load.Loading.{is_ongoing, look}
use Rattle.seen_facts.specs.LoadWhereabouts.Whereabouts.{AreLoadsOnce}
use Rattle.seen_facts.specs.Request.Whereabouts.{is_of_load}
use Rattle.seen_facts.proofs.Asked.Plainly.{plain_on}
use Rattle.seen_facts.proofs.Asked.Stays.{of_found, there_still}
use Rattle.seen_facts.proofs.Coord.Held.{on_else}
use Rattle.seen_facts.proofs.Each.Runs.{each_asked_on}
use Rattle.seen_facts.proofs.Load.Rows.{KeepLooks, changed_looks}
use Rattle.seen_facts.proofs.LoadWhereabouts.Counts.{but_one}
use Rattle.seen_facts.proofs.Request.Readers.{on_read}
use Rattle.tab_facts.specs.FrameWhole.Beside.{IsQueued}
use Rattle.tab_facts.specs.TabWhole.Tab.{IsTab, at_hand, open_among}
use Rattle.tab_facts.proofs.TabWhole.Beginning.{IsToGo, no_load}
use Rattle.unasked.proofs.Passings.{begun_as}
use Rattle.unasked_tab.proofs.Alike.{alike_tab, read_alike}
use Rattle.unasked_tab.proofs.Begun.{begun, begun_alike, begun_movers, begun_passed, kept_loading, kept_placed, some_same, with_begun}

module _ (loads : List ReqId) (hand : List Made) (s : Seen) (tab : IsTab None loads hand s) (req : ReqId) (q : Asked) (is : IsToGo s req q) (b : Asked) (starts : b.is_started ≡ true) (goes : is_some b.goal ≡ true) where
  -- whatever holds of the request holds of what is found by its number
  its : (P : Asked → Type 0) → P q → (x : Asked) → request_of s req ≡ Some x → P x
  its = of_found s.requests req q is.there

  -- it is no load
  other : is_of_load (request_in s.requests req) ≡ false
  other = ap is_of_load is.there ∙ no_load q.what is.goes

  -- as it begins it is plain, with its goal
  going : (x : Asked) → is_traversal x.what ≡ true → IsAskedPlainly req x → IsAskedPlainly req (begun_as b x)
  going x traverses plain =
      record {
        nr = plain.nr;
        what = plain.what;
        unstarted = λ stays none. (let never : true ≡ false = sym traverses ∙ stays in absurd cc);
        goal = λ one two. goes;
        sent = plain.sent;
        begun = λ one. plain.sent (no_load x.what traverses);
        moved = plain.moved;
      }

  -- and it runs
  runs : (x : Asked) → is_traversal x.what ≡ true → x.ending ≡ None → is_run (begun_as b x) ≡ true
  runs x traverses open_ = rw starts (rw open_ traverses)

  -- no other one runs then
  alone : (r : ReqId) → (r.0 == req.0) ≡ false → is_this (Some req) r ≡ false
  alone r apart = grind (arith, nat_tests, apart)

  -- it is the one that runs
  itself : is_this (Some req) req ≡ true
  itself = grind (arith, nat_tests)

  -- all are plain, with this one running
  plain : ArePlain (Some req) (with_begun s req b)
  plain =
      record {
        each = plain_on s.requests req (begun_as b) (λ x at is_plain. going x (its (λ y. is_traversal y.what ≡ true) is.goes x at) is_plain) tab.asked.each;
        passed = begun_passed s req b tab.asked.passed;
        only = each_asked_on (λ r x. is_run x ≡ is_this None r) (λ r x. is_run x ≡ is_this (Some req) r) s.requests req (begun_as b) (λ r x apart idle. idle ∙ sym (alone r apart)) (λ x at idle. runs x (its (λ y. is_traversal y.what ≡ true) is.goes x at) (its (λ y. y.ending ≡ None) is.open_ x at) ∙ sym itself) tab.asked.only;
        runs = λ r e. subst (IsThere (with_begun s req b)) (some_same e) there;
        died = tab.asked.died;
      }
    where
      there : IsThere (with_begun s req b) req
      there =
          there_still s (with_begun s req b) req (on_read (λ x. x.what) s.requests req (begun_as b) (λ x. refl)) (record { q = q; found = is.there; traverses = is.goes })

  -- it is in the queue
  waits : IsQueued (Some req) (with_begun s req b)
  waits r e = subst (λ (x : ReqId). has_req s.joined x ≡ true) (some_same e) is.queued

  -- no load began
  looks : KeepLooks s.requests (begun s req b)
  looks =
      changed_looks s.requests req (begun_as b) (λ x at. by_test x (ap is_of_load (sym at) ∙ other))
    where
      none : (c : Bool) → (c && false) ≡ false
      none true = refl
      none false = refl

      by_test : (x : Asked) → is_load x.what ≡ false → is_ongoing (look (begun_as b x)) ≡ false
      by_test x stays = rw stays (none (b.is_started && is_none x.ending))

  -- each load is where it was
  trips : AreLoadsOnce (with_begun s req b) (at_hand (open_among s.requests loads) hand)
  trips =
      but_one s (with_begun s req b) (at_hand (open_among s.requests loads) hand) (at_hand (open_among s.requests loads) hand) req (record {
        others = λ r apart. on_else s.requests req (begun_as b) r apart;
        elsewhere = λ r apart. refl;
        one = λ load. (let never : false ≡ true = sym (read_alike is_of_load (λ x. refl) s.requests (begun s req b) (begun_alike s req b) req ∙ other) ∙ load in absurd cc);
      }) tab.trips

  -- what holds of the tab holds with that traversal running
  pub passed_tab : IsTab (Some req) loads hand (with_begun s req b)
  passed_tab =
      alike_tab s (begun s req b) s.events s.jobs s.states s.just_finished s.has_stood (begun_alike s req b) None loads hand tab (Some req) loads (record {
        asked = plain;
        queued = waits;
        loading = kept_loading s req b looks tab.loading;
        placed = kept_placed s req b looks tab.shown.placed;
        movers = begun_movers s req b starts tab.movers;
        once = tab.once;
        trips = trips;
      })
