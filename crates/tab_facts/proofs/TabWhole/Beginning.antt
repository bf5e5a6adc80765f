-- All that holds of a tab between two rows holds after a traversal begins, where none runs; after a load begins that is at hand; and after a document state is evicted.
use Rattle.tab_facts.proofs.Past.Places.{same_last}
use Rattle.tab_facts.proofs.Past.Rows.{still_past}
use Rattle.seen_facts.proofs.Asked.Begun.{begun_plain, load_begun_plain}
use Rattle.seen_facts.proofs.Asked.Rows.{evicted_plain}
use Rattle.seen_facts.proofs.Coord.Flowings.{left_flows}
use Rattle.seen_facts.proofs.Coord.Unread.{evicted_left, next, started_left, started_held}
use Rattle.seen_facts.specs.Coord.Flowing.{Flows}
use Rattle.seen_facts.proofs.Desk.Rows.{evicted_desks, started_desks}
use Rattle.seen_facts.proofs.Doc.Rows.{evicted_docs, started_docs}
use Rattle.seen_facts.specs.Doc.Docs.{HasPlace}
use Rattle.seen_facts.proofs.Entry.Rows.{evicted_entries, started_entries}
use Rattle.tab_facts.proofs.FragmentOrders.Rows.{evicted_fragments, started_fragments}
use Rattle.tab_facts.proofs.FrameWhole.FlowsAlike.{flows_if}
use Rattle.tab_facts.proofs.FrameWhole.FlowsEnds.{started_if}
use Rattle.tab_facts.proofs.FrameWhole.Queued.{queued_after}
use Rattle.tab_facts.specs.FrameWhole.Beside.{IsQueued}
use Rattle.seen_facts.proofs.Hang.Rows.{left_hangs}
use Rattle.seen_facts.proofs.Home.Rows as homing
use Rattle.seen_facts.proofs.Kept.Rows as keeping
use Rattle.seen_facts.proofs.Load.Begun.{begun_loading}
use Rattle.seen_facts.proofs.Load.Rows.{begun_other, evicted_loading}
use Rattle.seen_facts.specs.Load.Loading.{Look, is_ongoing, look_of}
use Rattle.seen_facts.proofs.LoadWhereabouts.Begun.{started_load, started_other}
use Rattle.seen_facts.proofs.LoadWhereabouts.Others.{started_load_once}
use Rattle.seen_facts.proofs.LoadWhereabouts.Rows.{evicted_loads}
use Rattle.log_model.specs.Equal.{has_req, holds}
use Rattle.log_model.specs.Once.{loads}
use Rattle.log_model.specs.Places.{is_load, is_traversal}
use Rattle.log_model.specs.Seen.{Asked, Seen, request_in, request_of}
use Rattle.log_model.specs.declared.made.Made.{Made}
use Rattle.log_model.specs.declared.request.Mode.{Mode}
use Rattle.log_model.specs.declared.request.Request.{Request}
use Rattle.log_model.specs.declared.row_kind.Actor.{Actor}
use Rattle.seen_facts.proofs.Mover.Rows.{evicted_movers, started_movers}
use Rattle.seen_facts.proofs.Place.Rows.{evicted_standing, started_standing}
use Rattle.seen_facts.proofs.Request.KnownRows.{started_known}
use Rattle.seen_facts.proofs.Request.Onces.{evicted_once, started_once}
use Rattle.seen_facts.specs.Request.Whereabouts.{is_of_load}
use Rattle.seen_facts.proofs.Rest.Kept.{left_kept}
use Rattle.tab_facts.proofs.Shown.Rows.{begun_load_shown, begun_other_shown, evicted_shown}
use Rattle.std.proofs.Common.{List, None, Option, Some, [], ap, false, refl, subst, sym, true, ℕ, ◌∙◌, ◌∷◌, ◌≡◌, ◌++◌}
use Rattle.tab_ids.specs.declared.NavId.{NavId}
use Rattle.tab_ids.specs.declared.ReqId.{ReqId}
use Rattle.tab_ids.specs.declared.StateId.{StateId}
use Rattle.tab_ids.specs.declared.Step.{Step}
use Rattle.tab_facts.proofs.TabWhole.OpenAmong.{first_once, first_trips, once_on, started_ends, trips_on, unended_open}
use Rattle.tab_facts.specs.TabWhole.Tab.{IsTab, at_hand, has_ended, open_among}
use Rattle.seen_facts.proofs.Transit.Rows.{left_ways}
use Rattle.log_model.specs.declared.request.Request.TheVariants as requests
use Rattle.log_model.specs.declared.row_kind.RowKind.TheVariants as rows

some_same : {A : Type 0} {a b : A} → (let o : Option A = Some a in o) ≡ Some b → a ≡ b
some_same e = cc

-- a traversal is no load
pub no_load : (what : Request) → is_traversal what ≡ true → is_load what ≡ false
no_load (requests.Go delta) is = refl
no_load (requests.Poke nav action) is = refl
no_load (requests.Load nav mode address) never = absurd cc
no_load (requests.Reload nav) never = absurd cc

-- ---- a traversal

-- the request is there, asks for a traversal, has no outcome, and is in the queue
pub record IsToGo (s : Seen) (req : ReqId) (q : Asked) : Type 0 where
  pub there : request_of s req ≡ Some q
  pub goes : is_traversal q.what ≡ true
  pub open_ : q.ending ≡ None
  pub queued : has_req s.joined req ≡ true

module _ (at : List ReqId) (hand : List Made) (s : Seen) (event : ℕ) (actor : Actor) (tab : IsTab None at hand s) (req : ReqId) (q : Asked) (goal : Step) (is : IsToGo s req q) where
  abbrev pub begun : Seen
  begun = next s event actor (rows.Started req (Some goal))

  other : is_of_load (request_in s.requests req) ≡ false
  other = ap is_of_load is.there ∙ no_load q.what is.goes

  pub begun_tab : IsTab (Some req) at hand begun
  begun_tab =
      record {
        sound = tab.sound;
        hangs = left_hangs s event actor tab.hangs (rows.Started req (Some goal)) tt;
        docs = started_docs s event actor tab.docs req (Some goal);
        whose = left_kept s event actor tab.whose (rows.Started req (Some goal)) tt;
        shown = begun_other_shown s event actor tab.shown req (Some goal) no_loads;
        homes = homing.left_rows s event actor tab.homes (rows.Started req (Some goal)) tt;
        kept = keeping.left_rows s event actor tab.kept (rows.Started req (Some goal)) tt;
        standing = started_standing s event actor tab.standing req (Some goal);
        movers = started_movers s event actor tab.movers req (Some goal);
        asked = begun_plain s event actor tab.asked req q goal is.there is.goes is.open_;
        queued = runs_queued;
        loading = begun_other s event actor tab.loading req (Some goal) no_loads;
        fragments = started_fragments s event actor tab.fragments req (Some goal);
        once = once_on s begun at hand (started_ends s event actor req (Some goal)) (started_once s (at_hand (open_among s.requests at) hand) event actor req (Some goal) tab.once);
        trips = trips_on s begun at hand (started_ends s event actor req (Some goal)) (started_other s event actor req (Some goal) (at_hand (open_among s.requests at) hand) other tab.trips);
        known = started_known s event actor req (Some goal) tab.known;
        desks = started_desks s event actor tab.desks req (Some goal);
        ways = left_ways s event actor tab.ways (rows.Started req (Some goal)) (started_left s event actor req (Some goal)) refl refl;
        entries = started_entries hand s event actor tab.entries req (Some goal);
        flows = started_if s event actor hand req (Some goal) tab.flows;
        past = still_past hand hand s (next s event actor (rows.Started req (Some goal))) tab.docs (started_left s event actor req (Some goal)) refl (same_last s.places) (ap (λ (l : List Made). l ++ hand) (started_held s event actor req (Some goal))) tab.past;
      }
    where
      no_loads : (p : Asked) → request_of s req ≡ Some p → is_load p.what ≡ false
      no_loads p found =
          let both : Some q ≡ Some p = sym is.there ∙ found in
          let one : q ≡ p = cc in
          ap (λ (x : Asked). is_load x.what) (sym one) ∙ no_load q.what is.goes

      -- it is in the queue, and runs from here on
      runs_queued : IsQueued (Some req) begun
      runs_queued r runs =
          let one : req ≡ r = some_same runs in subst (λ (x : ReqId). has_req s.joined x ≡ true) one is.queued

-- ---- a load

-- the request is a load of the navigable, which is there, it hasn't ended, no document was sent to a fragment for it, and no other load of that navigable is ongoing
pub record IsToLoad (s : Seen) (req : ReqId) (q : Asked) (nav : NavId) (mode : Mode) (address : List ℕ) : Type 0 where
  pub there : request_of s req ≡ Some q
  pub what : q.what ≡ requests.Load nav mode address
  pub open_ : q.ending ≡ None
  pub placed : HasPlace s.places nav
  pub unsent : q.fragment ≡ None
  pub alone : (other : ReqId) (m : Look) → look_of s other ≡ Some m → is_ongoing m ≡ true → loads nav m.what ≡ true → ⊥

module _ (run : Option ReqId) (req : ReqId) (at : List ReqId) (hand : List Made) (s : Seen) (event : ℕ) (actor : Actor) (tab : IsTab run (req ∷ at) hand s) (q : Asked) (nav : NavId) (mode : Mode) (address : List ℕ) (is : IsToLoad s req q nav mode address) where
  abbrev pub load_begun : Seen
  load_begun = next s event actor (rows.Started req None)

  its_load : is_load q.what ≡ true
  its_load = ap is_load is.what

  its_open : holds has_ended (request_in s.requests req) ≡ false
  its_open = ap (λ (o : Option Asked). holds has_ended o) is.there ∙ unended_open q is.open_

  -- so nothing was made of it
  unmade : q.made ≡ None
  unmade = tab.fragments.unsent req q is.there its_load is.unsent

  pub load_begun_tab : IsTab run at hand load_begun
  load_begun_tab =
      record {
        sound = tab.sound;
        hangs = left_hangs s event actor tab.hangs (rows.Started req None) tt;
        docs = started_docs s event actor tab.docs req None;
        whose = left_kept s event actor tab.whose (rows.Started req None) tt;
        shown = begun_load_shown s event actor tab.shown req None q nav mode address is.there is.what is.placed;
        homes = homing.left_rows s event actor tab.homes (rows.Started req None) tt;
        kept = keeping.left_rows s event actor tab.kept (rows.Started req None) tt;
        standing = started_standing s event actor tab.standing req None;
        movers = started_movers s event actor tab.movers req None;
        asked = load_begun_plain run s event actor tab.asked req q is.there its_load is.unsent;
        queued = queued_after run s event actor tab.queued (rows.Started req None) tt;
        loading = begun_loading s event actor tab.loading req q nav mode address is.there is.what unmade is.alone;
        fragments = started_fragments s event actor tab.fragments req None;
        once = once_on s load_begun at hand (started_ends s event actor req None) (started_load_once s (at_hand (open_among s.requests at) hand) event actor req None (ap is_of_load is.there ∙ its_load) (first_once s req at hand its_open tab.once));
        trips = trips_on s load_begun at hand (started_ends s event actor req None) (started_load s event actor req None (at_hand (open_among s.requests at) hand) q is.there its_load (first_trips s req at hand its_open tab.trips));
        known = started_known s event actor req None tab.known;
        desks = started_desks s event actor tab.desks req None;
        ways = left_ways s event actor tab.ways (rows.Started req None) (started_left s event actor req None) refl refl;
        entries = started_entries hand s event actor tab.entries req None;
        flows = started_if s event actor hand req None tab.flows;
        past = still_past hand hand s (next s event actor (rows.Started req None)) tab.docs (started_left s event actor req None) refl (same_last s.places) (ap (λ (l : List Made). l ++ hand) (started_held s event actor req None)) tab.past;
      }

-- ---- a document state is evicted

module _ (run : Option ReqId) {at : List ReqId} (s : Seen) (event : ℕ) (actor : Actor) (tab : IsTab run at [] s) (flows : Flows s) (state : StateId) where
  abbrev pub evicted : Seen
  evicted = next s event actor (rows.Evicted state)

  pub evicted_flows : Flows evicted
  evicted_flows = left_flows s evicted (evicted_left s event actor state) refl refl refl refl flows

  pub evicted_tab : IsTab run at [] evicted
  evicted_tab =
      record {
        sound = tab.sound;
        hangs = left_hangs s event actor tab.hangs (rows.Evicted state) tt;
        docs = evicted_docs s event actor tab.docs state;
        whose = left_kept s event actor tab.whose (rows.Evicted state) tt;
        shown = evicted_shown s event actor tab.shown state;
        homes = homing.left_rows s event actor tab.homes (rows.Evicted state) tt;
        kept = keeping.left_rows s event actor tab.kept (rows.Evicted state) tt;
        standing = evicted_standing s event actor tab.standing state;
        movers = evicted_movers s event actor tab.movers state;
        asked = evicted_plain run s event actor tab.asked state;
        queued = queued_after run s event actor tab.queued (rows.Evicted state) tt;
        loading = evicted_loading s event actor tab.loading state;
        fragments = evicted_fragments s event actor tab.fragments state;
        once = evicted_once s (at_hand (open_among s.requests at) []) event actor state tab.once;
        trips = evicted_loads s (at_hand (open_among s.requests at) []) event actor tab.trips state;
        known = record { desks = tab.known.desks; joined = tab.known.joined; parked = tab.known.parked };
        desks = evicted_desks s event actor tab.desks state;
        ways = left_ways s event actor tab.ways (rows.Evicted state) (evicted_left s event actor state) refl refl;
        entries = evicted_entries [] s event actor tab.entries state;
        flows = flows_if evicted evicted_flows;
        past = still_past [] [] s evicted tab.docs (evicted_left s event actor state) refl (same_last s.places) refl tab.past;
      }
