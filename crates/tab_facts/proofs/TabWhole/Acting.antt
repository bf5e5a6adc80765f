-- All that holds of a tab between two events holds after a document acts on the first poke of its process, with no edit, and after the process refuses that poke. An edit is in `Editing`.
use Rattle.log_model.specs.declared.made.Report.{Report}
use Rattle.std.proofs.lemmas.List.Elements.{filter_map-append}
use Rattle.log_model.specs.AfterRequests.{made_of_report}
use Rattle.seen_facts.proofs.Coord.OneMade.{reported}
use Rattle.log_model.specs.declared.made.Made.{Made}
use Rattle.tab_facts.proofs.Past.Places.{same_last}
use Rattle.tab_facts.proofs.Past.Rows.{acted_row_past, still_past}
use Rattle.seen_facts.proofs.Asked.Rows.{made_plain, refused_plain}
use Rattle.seen_facts.proofs.Coord.Flowings.{left_flows, made_flows}
use Rattle.seen_facts.proofs.Coord.Held.{held_apart}
use Rattle.seen_facts.proofs.Coord.Unread.{next, refused_held, refused_left}
use Rattle.seen_facts.specs.Coord.Flowing.{Flows}
use Rattle.seen_facts.proofs.Desk.Rows.{made_desks, unmade_desks}
use Rattle.seen_facts.specs.Desk.Own as owning
use Rattle.seen_facts.proofs.Doc.Rows.{made_docs, refused_docs}
use Rattle.seen_facts.proofs.Each.Eaches.{each_first}
use Rattle.seen_facts.specs.Each.Runs.{is_this}
use Rattle.seen_facts.proofs.Entry.Ends.{refused_entries}
use Rattle.seen_facts.proofs.Entry.Grounds.{faced_by}
use Rattle.seen_facts.proofs.Entry.Makes.{IsMadeNew, IsToMake, poke_entries}
use Rattle.seen_facts.proofs.Entry.Stays.{its_number}
use Rattle.tab_facts.proofs.FragmentOrders.Ends.{other_waits_not}
use Rattle.tab_facts.proofs.FragmentOrders.Rows.{refused_fragments}
use Rattle.tab_facts.proofs.FragmentOrders.Works.{made_other_fragments}
use Rattle.tab_facts.proofs.FrameEvents.Processes.{IsMadeByAction, made_of_action, no_editing}
use Rattle.tab_facts.proofs.FrameWhole.FlowsAlike.{flows_if}
use Rattle.tab_facts.proofs.FrameWhole.Queued.{queued_after}
use Rattle.seen_facts.proofs.Hang.Rows.{left_hangs}
use Rattle.seen_facts.proofs.Home.Rows as homing
use Rattle.seen_facts.proofs.Kept.Rows as keeping
use Rattle.seen_facts.proofs.Load.Rows.{made_loading, refused_loading}
use Rattle.seen_facts.specs.Load.Loading.{is_ongoing, look}
use Rattle.seen_facts.proofs.LoadWhereabouts.Answered.{made_other}
use Rattle.seen_facts.proofs.LoadWhereabouts.Ended.{poke_refused_loads}
use Rattle.log_model.specs.After.{follows_finished, desks_made}
use Rattle.log_model.specs.AfterRequests.{without_req}
use Rattle.log_model.specs.Equal.{has_req, holds}
use Rattle.log_model.specs.Places.{is_load}
use Rattle.log_model.specs.Seen.{Asked, Document, Seen, desk_of, document_of, request_in, request_of}
use Rattle.log_model.specs.Views.{View, made_by, made_for}
use Rattle.log_model.specs.declared.made.What.{What}
use Rattle.log_model.specs.declared.outcome.Denial.{Denial}
use Rattle.log_model.specs.declared.request.Poke.{Poke}
use Rattle.seen_facts.proofs.Mover.Rows.{made_movers, refused_movers}
use Rattle.seen_facts.proofs.Place.Rows.{made_standing, refused_standing}
use Rattle.seen_facts.proofs.Request.Endings.{due_small, poke_refused_once}
use Rattle.seen_facts.proofs.Request.KnownEnded.{poke_refused_known}
use Rattle.seen_facts.proofs.Request.KnownMoved.{IsAlone, alone, first_poke, made_known}
use Rattle.seen_facts.proofs.Request.Alls.{one_of_all}
use Rattle.seen_facts.proofs.Request.Placings.{first_poked, made_once, one_if}
use Rattle.seen_facts.proofs.Request.Times.{itself, times_none, times_append}
use Rattle.seen_facts.specs.Request.Cores.{Core, core, core_of}
use Rattle.seen_facts.specs.Request.Knowns.{IsPoke}
use Rattle.seen_facts.specs.LoadWhereabouts.Whereabouts.{AreLoadsOnce}
use Rattle.seen_facts.specs.Request.Whereabouts.{AreOnce, is_of_load, poked, times, times_at, times_due, times_found}
use Rattle.seen_facts.proofs.Rest.Kept.{left_kept}
use Rattle.seen_laws.proofs.Sums.{over}
use Rattle.seen_laws.specs.Acting.{IsNoEdit, IsToAct}
use Rattle.tab_facts.proofs.Shown.Rows.{made_shown, refused_shown}
use Rattle.std.proofs.Common.{Bool, None, Option, Some, [], ap, arith, false, refl, subst, sym, true, ℕ, ◌&&◌, ◌+◌, ◌<◌, ◌≤◌, ◌==◌, ◌∙◌, ◌≡◌, List, ◌++◌, ◌∷◌, drop}
use Rattle.std.proofs.lemmas.Bool.{eqb-true}
use Rattle.std.proofs.lemmas.Bool.Decides.{nat_tests}
use Rattle.std.specs.Prelude.{is_none, option_and_then, slice_get, filter_map}
use Rattle.tab_ids.specs.declared.DocId.{DocId}
use Rattle.tab_ids.specs.declared.NavId.{NavId}
use Rattle.tab_ids.specs.declared.ProcId.{ProcId}
use Rattle.tab_ids.specs.declared.ReqId.{ReqId}
use Rattle.tab_facts.proofs.TabWhole.Where.{nothing_goes}
use Rattle.tab_facts.proofs.TabWhole.OpenAmong.{ended_else, ended_itself, hands_left, made_ends, once_on, open_else, times_open, trips_on, unended_open}
use Rattle.tab_facts.specs.TabWhole.Tab.{IsTab, at_hand, has_ended, open_among}
use Rattle.seen_facts.proofs.Transit.Rows.{left_ways, made_ways}
use Rattle.log_model.specs.declared.made.Report.TheVariants as reports
use Rattle.log_model.specs.declared.made.What.TheVariants as whats
use Rattle.log_model.specs.declared.outcome.Ending.TheVariants as endings
use Rattle.log_model.specs.declared.request.Request.TheVariants as requests
use Rattle.log_model.specs.declared.row_kind.Actor.TheVariants as actors
use Rattle.log_model.specs.declared.row_kind.RowKind.TheVariants as rows

some_same : {A : Type 0} {a b : A} → (let o : Option A = Some a in o) ≡ Some b → a ≡ b
some_same e = cc

-- a new entry is the document's that made it
its_own : (view : View) (what : What) → IsMadeNew view what → owning.IsItsOwn view.doc what
its_own view (whats.Push entry memo address) new = rw new refl
its_own view (whats.Replace over entry memo address) new = rw new.1 refl
its_own view (whats.AddFrame nav) new = tt
its_own view (whats.RemoveFrame nav) new = tt
its_own view (whats.Go delta) new = tt
its_own view whats.Edit never = absurd never

module _ (run : Option ReqId) {loads : List ReqId} (s : Seen) (proc : ProcId) (tab : IsTab run loads [] s) (flows : Flows s) (poke : Poke) (first : slice_get (desk_of s proc).input 0 ≡ Some poke) where
  -- the request of the poke
  pub record Asks : Type 0 where
    pub nav : NavId
    pub q : Asked
    pub there : request_in s.requests poke.req ≡ Some q
    pub what : q.what ≡ requests.Poke nav poke.action
    pub doc : q.doc ≡ Some poke.doc
    pub unmade : q.made ≡ None
    pub unended : q.ending ≡ None

  pub its_asked : Asks
  its_asked = by_found (request_in s.requests poke.req) refl (first_poke s (at_hand (open_among s.requests loads) []) proc poke first tab.once tab.known)
    where
      by_found : (o : Option Asked) → request_in s.requests poke.req ≡ o → IsPoke (core_of o) poke → Asks
      by_found None e k = (let never : None ≡ Some _ = k.is in absurd cc)
      by_found (Some q) e k =
          let same : core q ≡ record { what = requests.Poke k.nav poke.action; doc = Some poke.doc; made = None; ending = None } = some_same k.is in
          let what : q.what ≡ requests.Poke k.nav poke.action = ap (λ (c : Core). c.what) same in
          record {
            nav = k.nav;
            q = q;
            there = e;
            what = what;
            doc = ap (λ (c : Core). c.doc) same;
            unmade = ap (λ (c : Core). c.made) same;
            unended = ap (λ (c : Core). c.ending) same;
          }

  pub no_load : is_of_load (request_in s.requests poke.req) ≡ false
  no_load = ap is_of_load its_asked.there ∙ ap is_load its_asked.what

  -- it has no outcome
  pub its_ending : option_and_then (λ (q : Asked). q.ending) (request_in s.requests poke.req) ≡ None
  its_ending =
      ap (λ (o : Option Asked). option_and_then (λ (q : Asked). q.ending) o) its_asked.there ∙ its_asked.unended

  pub its_open : holds has_ended (request_in s.requests poke.req) ≡ false
  its_open =
      ap (λ (o : Option Asked). holds has_ended o) its_asked.there ∙ unended_open its_asked.q its_asked.unended

  its_place : IsAlone s proc poke.req
  its_place = alone s (at_hand (open_among s.requests loads) []) proc poke first tab.once tab.known

  -- it isn't held back, nor in the queue
  pub unparked : has_req s.parked poke.req ≡ false
  unparked = times_none poke.req s.parked its_place.parked

  pub unjoined : has_req s.joined poke.req ≡ false
  unjoined = times_none poke.req s.joined its_place.joined

  -- nor at hand
  pub unhanded : has_req (at_hand loads []) poke.req ≡ false
  unhanded =
      let one : one_if poke.req poke.req ≡ 1 = rw (itself poke.req) refl in
      let here : times_at poke.req (desk_of s proc) ≤ over (times_at poke.req) s.desks = one_of_all (times_at poke.req) s.desks proc refl in
      let was : times poke.req (poked (desk_of s proc).input) ≡ one_if poke.req poke.req + times poke.req (poked (drop 1 (desk_of s proc).input)) = first_poked poke.req (desk_of s proc).input poke first in
      let small : times_due (request_in s.requests poke.req) < 2 = due_small (request_in s.requests poke.req) in
      let all : times_found poke.req s.desks s.joined s.parked (at_hand (open_among s.requests loads) []) ≡ times_due (request_in s.requests poke.req) = tab.once poke.req no_load in
      let same : times poke.req (open_among s.requests loads) ≡ times poke.req loads = times_open s.requests poke.req loads its_open in
      let now_ : times poke.req (at_hand (open_among s.requests loads) []) ≡ times poke.req (open_among s.requests loads) + 0 = times_append poke.req (open_among s.requests loads) [] in
      let then_ : times poke.req (at_hand loads []) ≡ times poke.req loads + 0 = times_append poke.req loads [] in
      times_none poke.req (at_hand loads []) (omega (arith, one, here, was, small, all, same, now_, then_))

  -- the document of the poke lives in the process
  lives : owning.LivesIn s.documents proc poke.doc
  lives = each_first (owning.IsPokeIn s.documents proc) (desk_of s proc).input poke first (tab.desks proc).pokes

  -- ---- its document acts

  -- the document of the poke runs, with this view, and makes this of it
  pub record IsActing (d : Document) (view : View) (what : What) : Type 0 where
    pub found : document_of s poke.doc ≡ Some d
    pub has : d.view ≡ Some view
    pub runs : view.running ≡ true
    pub makes : made_by view poke.action ≡ Some what

  module _ (d : Document) (view : View) (what : What) (is : IsActing d view what) where
    number : view.doc ≡ poke.doc
    number =
        (tab.docs.each poke.doc d is.found).live.viewed view is.has ∙ ap (λ (n : ℕ). let x : DocId = record { 0 = n } in x) (its_number s.documents poke.doc d is.found)

    pub its_home : d.proc ≡ proc
    its_home =
        let one : lives.d ≡ d = some_same (sym lives.found ∙ is.found) in
        let same : d.proc.0 ≡ proc.0 = ap (λ (x : Document). x.proc.0) (sym one) ∙ lives.home in
        ap (λ (n : ℕ). let p : ProcId = record { 0 = n } in p) same

    pub found : document_of s view.doc ≡ Some d
    found = ap (λ (n : DocId). document_of s n) number ∙ is.found

    pub acts : IsToAct s proc poke its_asked.q its_asked.nav d view
    acts =
        record {
          first = first;
          asked = its_asked.there;
          unmade = its_asked.unmade;
          unended = its_asked.unended;
          asks = its_asked.what;
          named = its_asked.doc ∙ ap (λ (n : DocId). Some n) (sym number);
          there = found;
          home = its_home;
          has = is.has;
          runs = is.runs;
        }

    abbrev pub acted : Seen
    acted = next s s.events (actors.Proc proc) (rows.Made proc (made_for view poke.req what))

    -- the row begins an event, so it isn't of an order that was just finished
    pub anew : follows_finished s (record { event = s.events; actor = actors.Proc proc; row = rows.Made proc (made_for view poke.req what) }) ≡ false
    anew = (let later : (s.events == (s.events + 1)) ≡ false = grind (arith, nat_tests) in rw later refl)

    -- it is made
    ready : d.is_ready ≡ true
    ready = by_ready d.is_ready refl
      where
        by_ready : (b : Bool) → d.is_ready ≡ b → d.is_ready ≡ true
        by_ready true e = e
        by_ready false e =
            let never : true ≡ false = sym is.runs ∙ (tab.docs.each poke.doc d is.found).live.unmade view is.has e in absurd cc

    pub no_ongoing : (q : Asked) → request_of s poke.req ≡ Some q → is_ongoing (look q) ≡ false
    no_ongoing q there =
        let one : its_asked.q ≡ q = some_same (sym its_asked.there ∙ there) in
        let other : is_load q.what ≡ false = ap (λ (x : Asked). is_load x.what) (sym one) ∙ ap is_load its_asked.what in
        neither (q.is_started && is_none q.ending) (is_load q.what) other
      where
        neither : (a b : Bool) → b ≡ false → (a && b) ≡ false
        neither true b e = e
        neither false b e = refl

    pub acted_flows : Flows acted
    acted_flows =
        made_flows s proc poke its_asked.q its_asked.nav d view what acts flows (held_apart s.requests s.parked poke.req (λ x. record x { made = Some (made_for view poke.req what) }) unparked)

    -- what it made is no edit
    module _ (no_edit : IsNoEdit what) where
      by_action : IsMadeByAction view poke.action what
      by_action =
          made_of_action view poke.action what (no_editing view poke.action what is.makes no_edit) is.makes

      make : IsToMake [] s proc d view (made_for view poke.req what)
      make =
          record {
            there = found;
            home = its_home;
            ready = ready;
            has = is.has;
            own = refl;
            new = by_action.new;
            unparked = unparked;
            faced = faced_by s d view (made_for view poke.req what) flows found is.has refl;
          }

      made_in : owning.IsMadeIn s.documents proc (made_for view poke.req what)
      made_in =
          record {
            lives = record { d = d; found = found; home = ap (λ (p : ProcId). p.0) its_home };
            own = its_own view what by_action.new;
          }

      -- it has a report of its own
      its_told : filter_map made_of_report (desks_made false (made_for view poke.req what) (desk_of s proc)).reports ≡ filter_map made_of_report (desk_of s proc).reports ++ made_for view poke.req what ∷ []
      its_told =
          ap (λ (l : List Report). filter_map made_of_report l) (reported (desk_of s proc).reports (made_for view poke.req what) what by_action.no_edit)
          ∙ filter_map-append made_of_report (desk_of s proc).reports (reports.Made (made_for view poke.req what) ∷ [])

      pub acted_tab : IsTab run loads [] acted
      acted_tab =
          record {
            sound = tab.sound;
            hangs = left_hangs s s.events (actors.Proc proc) tab.hangs (rows.Made proc (made_for view poke.req what)) tt;
            docs = made_docs s s.events (actors.Proc proc) tab.docs proc (made_for view poke.req what);
            whose = left_kept s s.events (actors.Proc proc) tab.whose (rows.Made proc (made_for view poke.req what)) tt;
            shown = made_shown s s.events (actors.Proc proc) tab.shown proc (made_for view poke.req what);
            homes = homing.left_rows s s.events (actors.Proc proc) tab.homes (rows.Made proc (made_for view poke.req what)) tt;
            kept = keeping.left_rows s s.events (actors.Proc proc) tab.kept (rows.Made proc (made_for view poke.req what)) tt;
            standing = made_standing s s.events (actors.Proc proc) tab.standing proc (made_for view poke.req what);
            movers = made_movers s s.events (actors.Proc proc) tab.movers proc (made_for view poke.req what);
            asked = made_plain run s s.events (actors.Proc proc) tab.asked proc (made_for view poke.req what);
            queued = queued_after run s s.events (actors.Proc proc) tab.queued (rows.Made proc (made_for view poke.req what)) tt;
            loading = made_loading s s.events (actors.Proc proc) tab.loading proc (made_for view poke.req what) no_ongoing;
            fragments = made_other_fragments s s.events (actors.Proc proc) proc (made_for view poke.req what) no_load tab.fragments;
            once = once_on s acted loads [] (made_ends s s.events (actors.Proc proc) proc (made_for view poke.req what)) (made_once s (at_hand (open_among s.requests loads) []) s.events (actors.Proc proc) proc (made_for view poke.req what) poke first refl by_action.no_edit anew tab.once);
            trips = trips_on s acted loads [] (made_ends s s.events (actors.Proc proc) proc (made_for view poke.req what)) (made_other s (at_hand (open_among s.requests loads) []) s.events (actors.Proc proc) proc (made_for view poke.req what) poke first refl no_load anew tab.trips);
            known = made_known s (at_hand (open_among s.requests loads) []) s.events (actors.Proc proc) proc (made_for view poke.req what) poke first refl (sym number) by_action.no_edit by_action.goes_ anew tab.once tab.known;
            desks = made_desks s s.events (actors.Proc proc) tab.desks proc (made_for view poke.req what) made_in anew;
            ways = made_ways s s.events (actors.Proc proc) tab.ways proc (made_for view poke.req what) anew;
            entries = poke_entries [] s s.events (actors.Proc proc) tab.entries proc (made_for view poke.req what) d view make anew;
            flows = flows_if acted acted_flows;
            past = acted_row_past s s.events proc tab.docs (made_for view poke.req what) d view found is.has its_home refl false anew its_told (ap (λ (l : List Made). l ++ []) (held_apart s.requests s.parked poke.req (λ x. record x { made = Some (made_for view poke.req what) }) unparked)) tab.past;
          }

  -- ---- its process refuses it

  -- it isn't the running traversal, since that is in the queue
  pub not_running : is_this run poke.req ≡ false
  not_running = by_run run refl
    where
      by_run : (r : Option ReqId) → run ≡ r → is_this r poke.req ≡ false
      by_run None e = refl
      by_run (Some r) e = by_test (r.0 == poke.req.0) refl
        where
          by_test : (b : Bool) → (r.0 == poke.req.0) ≡ b → (r.0 == poke.req.0) ≡ false
          by_test false h = h
          by_test true h =
              let n : r.0 ≡ poke.req.0 = eqb-true r.0 poke.req.0 h in
              let one : r ≡ poke.req = ap (λ (i : ℕ). let x : ReqId = record { 0 = i } in x) n in
              let never : true ≡ false = sym (tab.queued r e) ∙ ap (λ (x : ReqId). has_req s.joined x) one ∙ unjoined in absurd cc

  module _ (event : ℕ) (reason : Denial) where
    abbrev pub unpoked : Seen
    unpoked = next s event (actors.Proc proc) (rows.Refused poke.req reason)

    pub unmade_flows : Flows unpoked
    unmade_flows =
        left_flows s unpoked (refused_left s event (actors.Proc proc) poke.req reason) refl refl refl (refused_held s event (actors.Proc proc) poke.req reason unparked) flows

    -- it isn't at hand, so whatever is stays so
    stays : at_hand (open_among unpoked.requests loads) [] ≡ without_req poke.req (at_hand (open_among s.requests loads) [])
    stays =
        ap (λ (l : List ReqId). at_hand l []) (sym (open_else unpoked.requests poke.req loads (ended_itself s.requests poke.req its_asked.q (endings.Refused reason) its_asked.there)))
        ∙ hands_left s unpoked loads [] poke.req (ended_else s.requests poke.req (endings.Refused reason))

    pub unmade_tab : IsTab run loads [] unpoked
    unmade_tab =
        record {
          sound = tab.sound;
          hangs = left_hangs s event (actors.Proc proc) tab.hangs (rows.Refused poke.req reason) tt;
          docs = refused_docs s event (actors.Proc proc) tab.docs poke.req reason;
          whose = left_kept s event (actors.Proc proc) tab.whose (rows.Refused poke.req reason) tt;
          shown = refused_shown s event (actors.Proc proc) tab.shown poke.req reason;
          homes = homing.left_rows s event (actors.Proc proc) tab.homes (rows.Refused poke.req reason) tt;
          kept = keeping.left_rows s event (actors.Proc proc) tab.kept (rows.Refused poke.req reason) tt;
          standing = refused_standing s event (actors.Proc proc) tab.standing poke.req reason;
          movers = refused_movers s event (actors.Proc proc) tab.movers poke.req reason;
          asked = refused_plain run s event (actors.Proc proc) tab.asked poke.req reason not_running;
          queued = queued_after run s event (actors.Proc proc) tab.queued (rows.Refused poke.req reason) not_running;
          loading = refused_loading s event (actors.Proc proc) tab.loading poke.req reason;
          fragments = refused_fragments s event (actors.Proc proc) tab.fragments poke.req reason (other_waits_not s tab.fragments poke.req no_load);
          once = subst (λ (l : List ReqId). AreOnce unpoked l) (sym stays) (poke_refused_once s (at_hand (open_among s.requests loads) []) event proc poke.req reason poke first refl tab.once);
          trips = subst (λ (l : List ReqId). AreLoadsOnce unpoked l) (sym stays) (poke_refused_loads s (at_hand (open_among s.requests loads) []) event proc poke.req reason poke first refl no_load tab.trips);
          known = poke_refused_known s (at_hand (open_among s.requests loads) []) event proc reason poke first tab.once tab.known;
          desks = unmade_desks s event proc poke.req reason tab.desks;
          ways = left_ways s event (actors.Proc proc) tab.ways (rows.Refused poke.req reason) (refused_left s event (actors.Proc proc) poke.req reason) refl refl;
          entries = refused_entries [] s event tab.entries poke.req (nothing_goes [] s poke.req unparked refl) (actors.Proc proc) reason;
          flows = flows_if unpoked unmade_flows;
          past = still_past [] [] s unpoked tab.docs (refused_left s event (actors.Proc proc) poke.req reason) refl (same_last s.places) (ap (λ (l : List Made). l ++ []) (refused_held s event (actors.Proc proc) poke.req reason unparked)) tab.past;
        }
