-- A load passes its unload check: it begins, and is on its way. What is known of the ongoing loads with it is a premise.
use Rattle.std.proofs.Common.{◌≡◌, ℕ, ◌+◌, Bool, true, false, ◌&&◌, List, ◌∷◌, Option, Some, None, refl, sym, ap, ◌∙◌, subst, arith}
use Rattle.std.specs.Prelude.{is_none}
use Rattle.tab_ids.specs.declared.NavId.{NavId}
use Rattle.tab_ids.specs.declared.ReqId.{ReqId}
use Rattle.log_model.specs.declared.made.Made.{Made}
use Rattle.log_model.specs.declared.request.Mode.{Mode}
use Rattle.log_model.specs.declared.request.Request.TheVariants as requests
use Rattle.log_model.specs.Equal.{holds}
use Rattle.log_model.specs.Places.{is_load}
use Rattle.log_model.specs.Seen.{Asked, Seen, request_in, request_of}
use Rattle.seen_facts.specs.Asked.Asking.{ArePlain, IsAskedPlainly}
use Rattle.seen_facts.specs.Doc.Docs.{HasPlace}
use Rattle.seen_facts.specs.Each.Runs.{is_run, is_this}
use Rattle.seen_facts.specs.Load.Loading.{AreLoading, Look}
use Rattle.seen_facts.specs.LoadWhereabouts.Whereabouts.{AreLoadsOnce, times_of_load, times_on_way, waits_to_fragment, ways_of}
use Rattle.seen_facts.specs.Request.Whereabouts.{is_of_load, times_due, times_found}
use Rattle.seen_facts.proofs.Asked.Plainly.{plain_on}
use Rattle.seen_facts.proofs.Asked.Stays.{left_plain, no_traversal, of_found, unrun}
use Rattle.seen_facts.proofs.Coord.Held.{on_else}
use Rattle.seen_facts.proofs.Each.Runs.{each_asked_on}
use Rattle.seen_facts.proofs.LoadWhereabouts.Begun as whereabouts
use Rattle.seen_facts.proofs.LoadWhereabouts.Counts.{but_one, count, one_other}
use Rattle.seen_facts.proofs.LoadWhereabouts.Others.{load_not_at_hand}
use Rattle.seen_facts.proofs.Request.Placings.{one_if}
use Rattle.seen_facts.proofs.Request.Readers.{on_read}
use Rattle.tab_facts.specs.Shown.Shown.{LoadsArePlaced}
use Rattle.tab_facts.specs.TabWhole.Tab.{IsTab, at_hand, has_ended, open_among}
use Rattle.tab_facts.proofs.TabWhole.OpenAmong.{first_once, first_trips, unended_open}
use Rattle.unasked.proofs.Passings.{begun_as}
use Rattle.unasked_tab.specs.Passing.{IsToPass}
use Rattle.unasked_tab.proofs.Alike.{alike_tab}
use Rattle.unasked_tab.proofs.Begun.{begun, begun_alike, begun_movers, begun_now, begun_passed, by_look, with_begun}

module _ (run : Option ReqId) (req : ReqId) (rest : List ReqId) (hand : List Made) (s : Seen) (tab : IsTab run (req ∷ rest) hand s) (q : Asked) (nav : NavId) (mode : Mode) (address : List ℕ) (is : IsToPass s req q nav mode address) (b : Asked) (starts : b.is_started ≡ true) (loading : AreLoading (with_begun s req b)) where
  -- whatever holds of the request holds of what is found by its number
  its : (P : Asked → Type 0) → P q → (x : Asked) → request_of s req ≡ Some x → P x
  its = of_found s.requests req q is.there

  -- it is a load
  its_load : is_load q.what ≡ true
  its_load = ap is_load is.what

  -- it is found then as it began
  now : request_in (begun s req b) req ≡ Some (begun_as b q)
  now = begun_now s req b q is.there

  -- as it begins it is plain
  going : (x : Asked) → is_load x.what ≡ true → x.fragment ≡ None → IsAskedPlainly req x → IsAskedPlainly req (begun_as b x)
  going x load unsent plain =
      record {
        nr = plain.nr;
        what = plain.what;
        unstarted = λ stays none. (let never : true ≡ false = sym load ∙ none in absurd cc);
        goal = λ traverses begins. (let never : true ≡ false = sym traverses ∙ no_traversal x.what load in absurd cc);
        sent = plain.sent;
        begun = λ begins. unsent;
        moved = plain.moved;
      }

  -- all are plain, and the same one runs
  plain : ArePlain run (with_begun s req b)
  plain =
      left_plain run s (with_begun s req b) tab.asked (record {
        whats = on_read (λ x. x.what) s.requests req (begun_as b) (λ x. refl);
        passed = begun_passed s req b tab.asked.passed;
        each = plain_on s.requests req (begun_as b) (λ x at is_plain. going x (its (λ y. is_load y.what ≡ true) its_load x at) (its (λ y. y.fragment ≡ None) is.unsent x at) is_plain) tab.asked.each;
        only = each_asked_on (λ r x. is_run x ≡ is_this run r) (λ r x. is_run x ≡ is_this run r) s.requests req (begun_as b) (λ r x apart runs. runs) (λ x at runs. still x (its (λ y. is_load y.what ≡ true) its_load x at) runs) tab.asked.only;
        died = tab.asked.died;
      })
    where
      -- it doesn't run, neither before nor then
      still : (x : Asked) → is_load x.what ≡ true → is_run x ≡ is_this run req → is_run (begun_as b x) ≡ is_this run req
      still x load runs =
          unrun (begun_as b x) (no_traversal x.what load) ∙ sym (unrun x (no_traversal x.what load)) ∙ runs

  -- its navigable has a place
  placed : LoadsArePlaced (with_begun s req b)
  placed r l n m a at on what =
      by_look s req b q is.there r l at (HasPlace s.places n) (λ number same. subst (λ (k : NavId). HasPlace s.places k) (of_what (sym is.what ∙ ap (λ (x : Look). x.what) same ∙ what)) is.placed) (λ was. tab.shown.placed r l n m a was on what)
    where
      of_what : requests.Load nav mode address ≡ requests.Load n m a → nav ≡ n
      of_what same = cc

  -- the others at hand that haven't ended
  abbrev others : List ReqId
  others = at_hand (open_among s.requests rest) hand

  its_open : holds has_ended (request_in s.requests req) ≡ false
  its_open = ap (λ (o : Option Asked). holds has_ended o) is.there ∙ unended_open q is.open_

  -- it was at hand with them, and nowhere else
  was_trips : AreLoadsOnce s (req ∷ others)
  was_trips = first_trips s req rest hand its_open tab.trips

  was : whereabouts.IsAtHand q × (times_found req s.desks s.joined s.parked others ≡ 0)
  was = whereabouts.at_hand s others req q is.there its_load was_trips

  -- and it is on its way
  way : ways_of (begun_as b q) ≡ 1
  way =
      let ongoing : count ((b.is_started && is_none q.ending) && is_load q.what) ≡ 1 = rw (starts, was.0.unended, its_load) refl in
      let none : count (waits_to_fragment q) ≡ 0 = waits_not _ (waits_to_fragment q) was.0.still in
      omega (arith, ongoing, none)
    where
      waits_not : (x y : Bool) → count x + count y ≡ 0 → count y ≡ 0
      waits_not x y none = omega (arith, none)

  -- each load is where it is to be
  trips : AreLoadsOnce (with_begun s req b) others
  trips =
      but_one s (with_begun s req b) (req ∷ others) others req (record {
        others = λ r apart. on_else s.requests req (begun_as b) r apart;
        elsewhere = λ r apart. (let none : one_if req r ≡ 0 = one_other req r apart in omega (arith, none));
        one = λ load. once;
      }) was_trips
    where
      once : times_of_load req (begun s req b) s.desks s.joined s.parked others ≡ times_due (request_in (begun s req b) req)
      once =
          let ways : times_on_way (request_in (begun s req b) req) ≡ 1 = ap times_on_way now ∙ way in
          let due : times_due (request_in (begun s req b) req) ≡ 1 = ap times_due now ∙ rw was.0.unended refl in
          omega (arith, was.1, ways, due)

  -- what holds of the tab holds with that load on its way
  pub load_tab : IsTab run rest hand (with_begun s req b)
  load_tab =
      alike_tab s (begun s req b) s.events s.jobs s.states s.just_finished s.has_stood (begun_alike s req b) run (req ∷ rest) hand tab run rest (record {
        asked = plain;
        queued = tab.queued;
        loading = loading;
        placed = placed;
        movers = begun_movers s req b starts tab.movers;
        once = load_not_at_hand s others req (ap is_of_load is.there ∙ its_load) (first_once s req rest hand its_open tab.once);
        trips = trips;
      })
