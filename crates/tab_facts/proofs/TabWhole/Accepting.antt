-- All that holds of a tab between two rows holds after a request is accepted with the next number, whichever loads are at hand: a traversal joins the queue, a load is at hand, a poke joins the input of its document's process, and one that reaches no document is at hand, too.
use Rattle.seen_facts.specs.LoadWhereabouts.Whereabouts.{AreLoadsOnce}
use Rattle.log_model.specs.Equal.{holds}
use Rattle.log_model.specs.declared.made.Made.{Made}
use Rattle.tab_facts.specs.Past.Past.{ArePast}
use Rattle.tab_facts.proofs.Past.Places.{same_last}
use Rattle.tab_facts.proofs.Past.Rows.{still_past}
use Rattle.seen_facts.proofs.Asked.Rows.{accepted_plain}
use Rattle.seen_facts.proofs.Coord.Flowings.{left_flows}
use Rattle.seen_facts.proofs.Coord.Unread.{accepted_held, accepted_left, next}
use Rattle.seen_facts.specs.Coord.Flowing.{Flows}
use Rattle.seen_facts.proofs.Desk.Rows.{poked_desks, unpoked}
use Rattle.seen_facts.proofs.Doc.Rows.{accepted_docs}
use Rattle.seen_facts.proofs.Entry.Rows.{accepted_entries}
use Rattle.tab_facts.proofs.FragmentOrders.Rows.{accepted_fragments}
use Rattle.tab_facts.proofs.FrameWhole.FlowsAlike.{flows_if}
use Rattle.tab_facts.proofs.FrameWhole.Queued.{queued_after}
use Rattle.seen_facts.proofs.Hang.Rows.{left_hangs}
use Rattle.seen_facts.proofs.Kept.Rows as keeping
use Rattle.seen_facts.proofs.Home.Rows as homing
use Rattle.seen_facts.proofs.Load.Rows.{accepted_loading}
use Rattle.seen_facts.proofs.LoadWhereabouts.Begun.{accepted_load, accepted_other}
use Rattle.seen_facts.proofs.LoadWhereabouts.Counts.{at_hand_else}
use Rattle.seen_facts.proofs.LoadWhereabouts.Others.{accepted_load_once}
use Rattle.log_model.specs.After.{new_request}
use Rattle.log_model.specs.Seen.{Document, Seen, document_of, request_in, Asked}
use Rattle.log_model.specs.declared.action.Action.{Action}
use Rattle.log_model.specs.declared.request.Mode.{Mode}
use Rattle.log_model.specs.declared.request.Request.{Request}
use Rattle.log_model.specs.declared.row_kind.Actor.{Actor}
use Rattle.log_model.specs.declared.row_kind.RowKind.{RowKind}
use Rattle.seen_facts.proofs.Mover.Rows.{accepted_movers}
use Rattle.seen_facts.proofs.Place.Rows.{accepted_standing}
use Rattle.seen_facts.proofs.Request.KnownMoved.{go_known, poke_known, stray_known}
use Rattle.seen_facts.proofs.Request.KnownRows.{known_else}
use Rattle.seen_facts.proofs.Request.LookUps.{none_before, one_more, others_before}
use Rattle.seen_facts.proofs.Request.Placings.{go_once, poke_once, stray_once}
use Rattle.seen_facts.specs.Request.Cores.{core_of}
use Rattle.seen_facts.specs.Request.Knowns.{AreKnown}
use Rattle.seen_facts.specs.Request.Whereabouts.{is_of_load, times_found, AreOnce}
use Rattle.seen_facts.proofs.Rest.Kept.{left_kept}
use Rattle.tab_facts.proofs.Shown.Rows.{accepted_shown}
use Rattle.std.proofs.Common.{List, None, Option, Some, [], ap, arith, false, length, refl, ℕ, ℤ, ◌+◌, ◌++◌, ◌==◌, ◌∙◌, ◌∷◌, ◌≡◌, subst, sym}
use Rattle.std.proofs.lemmas.Bool.Decides.{nat_tests}
use Rattle.tab_ids.specs.declared.DocId.{DocId}
use Rattle.tab_ids.specs.declared.NavId.{NavId}
use Rattle.tab_ids.specs.declared.ReqId.{ReqId}
use Rattle.tab_facts.proofs.TabWhole.OpenAmong.{accepted_ends, once_on, open_first, open_same, trips_on}
use Rattle.tab_facts.specs.TabWhole.Tab.{IsTab, at_hand, has_ended, open_among}
use Rattle.seen_facts.proofs.Transit.Rows.{left_ways}
use Rattle.log_model.specs.declared.request.Request.TheVariants as requests
use Rattle.log_model.specs.declared.row_kind.RowKind.TheVariants as rows

module _ (run : Option ReqId) {loads : List ReqId} (s : Seen) (event : ℕ) (actor : Actor) (tab : IsTab run loads [] s) (flows : Flows s) (req : ReqId) (nr : req.0 ≡ length s.requests + 1) where
  abbrev accepts : Option DocId → Request → RowKind
  accepts doc what = rows.Accepted req doc what

  accept_flows : (doc : Option DocId) (what : Request) → Flows (next s event actor (accepts doc what))
  accept_flows doc what =
      left_flows s (next s event actor (accepts doc what)) (accepted_left s event actor req doc what) refl refl refl (accepted_held s event actor req doc what) flows

  accept_past : (doc : Option DocId) (what : Request) → ArePast [] (next s event actor (accepts doc what))
  accept_past doc what =
      still_past [] [] s (next s event actor (accepts doc what)) tab.docs (accepted_left s event actor req doc what) refl (same_last s.places) (ap (λ (l : List Made). l ++ []) (accepted_held s event actor req doc what)) tab.past

  -- it is at hand, which hasn't ended, and the others are as they were
  module _ (doc : Option DocId) (what : Request) where
    abbrev accepted : Seen
    accepted = next s event actor (accepts doc what)

    newly : open_among accepted.requests (req ∷ loads) ≡ req ∷ open_among s.requests loads
    newly =
        open_first accepted.requests req loads (ap (λ (o : Option Asked). holds has_ended o) (one_more s.requests (new_request req doc what) req nr))
        ∙ ap (λ (l : List ReqId). req ∷ l) (open_same s.requests accepted.requests loads (accepted_ends s event actor req nr doc what))

    once_newly : AreOnce accepted (req ∷ at_hand (open_among s.requests loads) []) → AreOnce accepted (at_hand (open_among accepted.requests (req ∷ loads)) [])
    once_newly = subst (λ (l : List ReqId). AreOnce accepted (at_hand l [])) (sym newly)

    trips_newly : AreLoadsOnce accepted (req ∷ at_hand (open_among s.requests loads) []) → AreLoadsOnce accepted (at_hand (open_among accepted.requests (req ∷ loads)) [])
    trips_newly = subst (λ (l : List ReqId). AreLoadsOnce accepted (at_hand l [])) (sym newly)

  -- ---- a traversal

  module _ (delta : ℤ) where
    abbrev pub went : Seen
    went = next s event actor (rows.Accepted req None (requests.Go delta))

    pub went_flows : Flows went
    went_flows = accept_flows None (requests.Go delta)

    pub went_tab : IsTab run loads [] went
    went_tab =
        record {
          sound = tab.sound;
          hangs = left_hangs s event actor tab.hangs (accepts None (requests.Go delta)) tt;
          docs = accepted_docs s event actor tab.docs req None (requests.Go delta);
          whose = left_kept s event actor tab.whose (accepts None (requests.Go delta)) tt;
          shown = accepted_shown s event actor tab.shown req None (requests.Go delta) nr;
          homes = homing.left_rows s event actor tab.homes (accepts None (requests.Go delta)) tt;
          kept = keeping.left_rows s event actor tab.kept (accepts None (requests.Go delta)) tt;
          standing = accepted_standing s event actor tab.standing req None (requests.Go delta) nr;
          movers = accepted_movers s event actor tab.movers req None (requests.Go delta) nr;
          asked = accepted_plain run s event actor tab.asked req None (requests.Go delta) nr tt;
          queued = queued_after run s event actor tab.queued (accepts None (requests.Go delta)) tt;
          loading = accepted_loading s event actor tab.loading req None (requests.Go delta) nr;
          fragments = accepted_fragments s event actor tab.fragments req None (requests.Go delta) nr;
          once = once_on s went loads [] (accepted_ends s event actor req nr None (requests.Go delta)) (go_once s (at_hand (open_among s.requests loads) []) event actor req nr delta tab.once);
          trips = trips_on s went loads [] (accepted_ends s event actor req nr None (requests.Go delta)) (accepted_other s (at_hand (open_among s.requests loads) []) event actor req nr tab.trips None (requests.Go delta) refl);
          known = go_known s (at_hand (open_among s.requests loads) []) event actor req nr tab.once delta tab.known;
          desks = unpoked s event actor tab.desks req (requests.Go delta);
          ways = left_ways s event actor tab.ways (accepts None (requests.Go delta)) (accepted_left s event actor req None (requests.Go delta)) refl refl;
          entries = accepted_entries [] s event actor tab.entries req None (requests.Go delta);
          flows = flows_if went went_flows;
          past = accept_past None (requests.Go delta);
        }

  -- ---- a load, which is at hand

  module _ (nav : NavId) (mode : Mode) (address : List ℕ) where
    abbrev load : Request
    load = requests.Load nav mode address

    abbrev pub load_accepted : Seen
    load_accepted = next s event actor (rows.Accepted req None (requests.Load nav mode address))

    pub load_accepted_flows : Flows load_accepted
    load_accepted_flows = accept_flows None load

    -- it was nowhere before
    nowhere : times_found req s.desks s.joined s.parked (at_hand (open_among s.requests loads) []) ≡ 0
    nowhere =
        let none : request_in s.requests req ≡ None = none_before s.requests (new_request req None load) req nr in
        tab.once req (rw none refl) ∙ rw none refl

    -- so what is known of the others stays
    load_known : AreKnown load_accepted
    load_known = record { desks = known.desks; joined = known.joined; parked = known.parked }
      where
        others : (r : ReqId) → (r.0 == req.0) ≡ false → core_of (request_in load_accepted.requests r) ≡ core_of (request_in s.requests r)
        others r apart =
            let other : (req.0 == r.0) ≡ false = grind (arith, nat_tests, apart) in
            ap core_of (others_before s.requests (new_request req None load) req nr r other)

        known : AreKnown (record s { requests = s.requests ++ new_request req None (requests.Load nav mode address) ∷ [] })
        known = known_else s (at_hand (open_among s.requests loads) []) req nowhere load_accepted.requests others tab.known

    pub load_accepted_tab : IsTab run (req ∷ loads) [] load_accepted
    load_accepted_tab =
        record {
          sound = tab.sound;
          hangs = left_hangs s event actor tab.hangs (accepts None load) tt;
          docs = accepted_docs s event actor tab.docs req None load;
          whose = left_kept s event actor tab.whose (accepts None load) tt;
          shown = accepted_shown s event actor tab.shown req None load nr;
          homes = homing.left_rows s event actor tab.homes (accepts None load) tt;
          kept = keeping.left_rows s event actor tab.kept (accepts None load) tt;
          standing = accepted_standing s event actor tab.standing req None load nr;
          movers = accepted_movers s event actor tab.movers req None load nr;
          asked = accepted_plain run s event actor tab.asked req None load nr tt;
          queued = queued_after run s event actor tab.queued (accepts None load) tt;
          loading = accepted_loading s event actor tab.loading req None load nr;
          fragments = accepted_fragments s event actor tab.fragments req None load nr;
          once = once_newly None load (accepted_load_once s (at_hand (open_among s.requests loads) []) event actor req nr nav mode address tab.once);
          trips = trips_newly None load (accepted_load s (at_hand (open_among s.requests loads) []) event actor req nr tab.trips nav mode address tab.once);
          known = load_known;
          desks = unpoked s event actor tab.desks req load;
          ways = left_ways s event actor tab.ways (accepts None load) (accepted_left s event actor req None load) refl refl;
          entries = accepted_entries [] s event actor tab.entries req None load;
          flows = flows_if load_accepted load_accepted_flows;
          past = accept_past None load;
        }

  -- ---- a poke

  module _ (nav : NavId) (action : Action) where
    abbrev poke : Request
    poke = requests.Poke nav action

    -- of a document that is there
    module _ (doc : DocId) (d : Document) (found : document_of s doc ≡ Some d) where
      abbrev pub poked : Seen
      poked = next s event actor (rows.Accepted req (Some doc) (requests.Poke nav action))

      pub poked_flows : Flows poked
      poked_flows = accept_flows (Some doc) poke

      pub poked_tab : IsTab run loads [] poked
      poked_tab =
          record {
            sound = tab.sound;
            hangs = left_hangs s event actor tab.hangs (accepts (Some doc) poke) tt;
            docs = accepted_docs s event actor tab.docs req (Some doc) poke;
            whose = left_kept s event actor tab.whose (accepts (Some doc) poke) tt;
            shown = accepted_shown s event actor tab.shown req (Some doc) poke nr;
            homes = homing.left_rows s event actor tab.homes (accepts (Some doc) poke) tt;
            kept = keeping.left_rows s event actor tab.kept (accepts (Some doc) poke) tt;
            standing = accepted_standing s event actor tab.standing req (Some doc) poke nr;
            movers = accepted_movers s event actor tab.movers req (Some doc) poke nr;
            asked = accepted_plain run s event actor tab.asked req (Some doc) poke nr tt;
            queued = queued_after run s event actor tab.queued (accepts (Some doc) poke) tt;
            loading = accepted_loading s event actor tab.loading req (Some doc) poke nr;
            fragments = accepted_fragments s event actor tab.fragments req (Some doc) poke nr;
            once = once_on s poked loads [] (accepted_ends s event actor req nr (Some doc) poke) (poke_once s (at_hand (open_among s.requests loads) []) event actor req nr doc d nav action found tab.once);
            trips = trips_on s poked loads [] (accepted_ends s event actor req nr (Some doc) poke) (accepted_other s (at_hand (open_among s.requests loads) []) event actor req nr tab.trips (Some doc) poke refl);
            known = poke_known s (at_hand (open_among s.requests loads) []) event actor req nr tab.once doc d nav action found tab.known;
            desks = poked_desks s event actor tab.desks req nav action doc d found;
            ways = left_ways s event actor tab.ways (accepts (Some doc) poke) (accepted_left s event actor req (Some doc) poke) refl refl;
            entries = accepted_entries [] s event actor tab.entries req (Some doc) poke;
            flows = flows_if poked poked_flows;
            past = accept_past (Some doc) poke;
          }

    -- one that reaches no document is at hand, and to be refused
    abbrev pub strayed : Seen
    strayed = next s event actor (rows.Accepted req None (requests.Poke nav action))

    pub strayed_flows : Flows strayed
    strayed_flows = accept_flows None poke

    pub strayed_tab : IsTab run (req ∷ loads) [] strayed
    strayed_tab =
        record {
          sound = tab.sound;
          hangs = left_hangs s event actor tab.hangs (accepts None poke) tt;
          docs = accepted_docs s event actor tab.docs req None poke;
          whose = left_kept s event actor tab.whose (accepts None poke) tt;
          shown = accepted_shown s event actor tab.shown req None poke nr;
          homes = homing.left_rows s event actor tab.homes (accepts None poke) tt;
          kept = keeping.left_rows s event actor tab.kept (accepts None poke) tt;
          standing = accepted_standing s event actor tab.standing req None poke nr;
          movers = accepted_movers s event actor tab.movers req None poke nr;
          asked = accepted_plain run s event actor tab.asked req None poke nr tt;
          queued = queued_after run s event actor tab.queued (accepts None poke) tt;
          loading = accepted_loading s event actor tab.loading req None poke nr;
          fragments = accepted_fragments s event actor tab.fragments req None poke nr;
          once = once_newly None poke (stray_once s (at_hand (open_among s.requests loads) []) event actor req nr nav action tab.once);
          trips = trips_newly None poke (at_hand_else strayed (at_hand (open_among s.requests loads) []) req (ap is_of_load (one_more s.requests (new_request req None poke) req nr)) (accepted_other s (at_hand (open_among s.requests loads) []) event actor req nr tab.trips None poke refl));
          known = stray_known s (at_hand (open_among s.requests loads) []) event actor req nr tab.once nav action tab.known;
          desks = unpoked s event actor tab.desks req poke;
          ways = left_ways s event actor tab.ways (accepts None poke) (accepted_left s event actor req None poke) refl refl;
          entries = accepted_entries [] s event actor tab.entries req None poke;
          flows = flows_if strayed strayed_flows;
          past = accept_past None poke;
        }
