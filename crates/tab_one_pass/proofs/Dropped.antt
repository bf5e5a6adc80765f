-- Loads were dropped: the documents that are stray then, and what is noted for their states.
use Rattle.apply_plan.specs.Order.{made_in}
use Rattle.seen_facts.proofs.Hang.Forms.{nav_is}
use Rattle.seen_facts.specs.Hang.Members.{Has}
use Rattle.seen_facts.specs.Home.Homes.{document_in}
use Rattle.seen_facts.specs.Load.Loading.{IsLoading, Look, look, look_of}
use Rattle.load_table.specs.Loads.{ongoing_load as load_in}
use Rattle.load_table.specs.declared.load.Load.{Load}
use Rattle.seen_facts.specs.LoadTies.Tying.{HasLoad, IsLoadTied}
use Rattle.log_model.proofs.Refl.{nat_eq_refl}
use Rattle.log_model.specs.History.{History, has_row, has_state}
use Rattle.log_model.specs.Once.{loads}
use Rattle.log_model.specs.Orders.{ongoing_load}
use Rattle.log_model.specs.Places.{is_ongoing_load}
use Rattle.log_model.specs.Seen.{Asked, Document, Place, Seen, awake, document_of, place_in, place_of, request_in}
use Rattle.log_model.specs.declared.request.Request.{Request}
use Rattle.log_model.specs.declared.row_kind.RowKind.{RowKind}
use Rattle.nav_tree.specs.Tree.{node_of}
use Rattle.nav_tree.specs.declared.node.Node.{Node}
use Rattle.seen_facts.specs.Rest.Between.{IsOfLoad}
use Rattle.seen_laws.specs.InEvent.{now_of}
use Rattle.std.proofs.Common.{Bool, List, None, Option, Some, ap, false, not, refl, subst, sym, true, ◌==◌, ◌∙◌, ◌≡◌}
use Rattle.std.specs.Prelude.{if◌then◌else◌, option_and_then, option_map}
use Rattle.step_index.specs.Held.{history_held}
use Rattle.tab_doors.proofs.Holding.{HasNode, its_node, its_place}
use Rattle.tab_doors.specs.Dues.{has_none}
use Rattle.tab_doors.specs.Look as tables
use Rattle.tab_doors.specs.declared.tables.Tables.{Tables}
use Rattle.tab_drops.proofs.Bares.{bare_is}
pub use Rattle.tab_drops.proofs.ForCallers.{tab_placed}
pub use Rattle.tab_drops.proofs.Loads.{IsAskedFor, asked_for, load_now}
use Rattle.tab_drops.proofs.Sortings.{lookup_has}
use Rattle.tab_drops.specs.Dropping.{IsBare, IsLoadOf, LeavesAll}
pub use Rattle.tab_drops.specs.Dropping.{EndsLoads}
use Rattle.tab_ids.specs.declared.DocId.{DocId}
use Rattle.tab_ids.specs.declared.NavId.{NavId}
use Rattle.tab_ids.specs.declared.ReqId.{ReqId}
use Rattle.tab_ids.specs.declared.StateId.{StateId}
use Rattle.tab_one_pass.proofs.Lefts.{may_leave_left}
use Rattle.tab_one_pass.specs.Noting.{AreNoted, IsNotedBy, IsToNote, noted_for, noting_in}
use Rattle.tab_one_pass.specs.Passing.{AreLeftStrays, IsLeftStray, TakersServe}
use Rattle.tab_serves.specs.PassedOn.{MayServe}
use Rattle.tab_passes.specs.Passing.{IsPassingIn}
use Rattle.tab_serves.specs.Serving.{InPass}
use Rattle.tab_sweeps.proofs.Loads.{awake_unloaded, loaded_never, table_unloaded}
pub use Rattle.tab_sweeps.proofs.Loads.{of_load}
use Rattle.tab_sweeps.specs.Sweeping.{AreBlamed, IsStray, NoneStray}
pub use Rattle.tab_sweeps.specs.Sweeping.{AreBlamedBy, IsBlamed, IsBlamedBy}
use Rattle.seen_facts.proofs.Walk.Placed.{found_nav}
use Rattle.log_model.specs.declared.job.Why.TheVariants as whys

-- what is to be noted for a navigable's load
record IsNoting (t : Tables) (by : Option ReqId) (nav : NavId) (state : StateId) (req : ReqId) : Type 0 where
  load : Load
  at : load_in nav t.loads ≡ Some load
  state_is : load.state ≡ state
  noted : noted_for t by nav ≡ Some req

noting_is : (t : Tables) (by : Option ReqId) (nav : NavId) (state : StateId) (req : ReqId) → noting_in t by nav ≡ Some (state, req) → IsNoting t by nav state req
noting_is t by nav state req is = by_parts (load_in nav t.loads) refl (noted_for t by nav) refl is
  where
    by_parts : (o : Option Load) → load_in nav t.loads ≡ o → (r : Option ReqId) → noted_for t by nav ≡ r → option_and_then (λ (own : StateId). option_map {U = StateId × ReqId} (λ (x : ReqId). (own, x)) r) (option_map (λ (load : Load). load.state) o) ≡ Some (state, req) → IsNoting t by nav state req
    by_parts None at r noted h = absurd cc
    by_parts (Some load) at None noted h = absurd cc
    by_parts (Some load) at (Some x) noted h =
        let pair : (let one : StateId × ReqId = (load.state, x) in one) ≡ (state, req) = cc in
        record {
          load = load;
          at = at;
          state_is = ap (λ (one : StateId × ReqId). one.0) pair;
          noted = noted ∙ ap (λ (one : StateId × ReqId). Some one.1) pair;
        }

noting_of : (t : Tables) (by : Option ReqId) (nav : NavId) (load : Load) (req : ReqId) → load_in nav t.loads ≡ Some load → noted_for t by nav ≡ Some req → noting_in t by nav ≡ (let one : StateId × ReqId = (load.state, req) in Some one)
noting_of t by nav load req at noted = rw at (rw noted refl)

module _ {sweeps : Bool} (p : InPass) (was : List RowKind) (t : Tables) (pass : IsPassingIn sweeps p was t) where
  abbrev s : Seen
  s = now_of p.event was

  -- the load of a document's state
  record IsItsLoad (d : Document) : Type 0 where
    nav : NavId
    req : ReqId
    its : IsLoadOf s req nav
    load : Load
    at : load_in nav t.loads ≡ Some load
    state_is : load.state ≡ d.state
    there : Has (made_in t.tree) nav
    place : Place
    placed : place_of s nav ≡ Some place

  its_load : (doc : DocId) (d : Document) (q : Asked) → document_of s doc ≡ Some d → ongoing_load s d.state ≡ Some q → IsItsLoad d
  its_load doc d q found is =
      record {
        nav = loading.nav;
        req = of.req;
        its = its;
        load = held.load;
        at = held.at;
        state_is = own_state;
        there = lookup_has t.tree.navs loading.nav node.node node.there;
        place = place.0;
        placed = place.1;
      }
    where
      of : IsOfLoad s d
      of = of_load s d q is

      loading : IsLoading s (look of.q)
      loading =
          pass.going.tab.loading.each of.req (look of.q) (ap (λ (o : Option Asked). option_map look o) of.found) of.ongoing

      loads_it : loads loading.nav of.q.what ≡ true
      loads_it = ap (λ (w : Request). loads loading.nav w) loading.what ∙ nat_eq_refl loading.nav.0

      its : IsLoadOf s of.req loading.nav
      its = load_now s of.req loading.nav of.q of.found of.ongoing loads_it

      held : HasLoad t.loads loading.nav of.req
      held = pass.work.loads.all of.req of.q loading.nav of.found of.ongoing loads_it

      own_state : held.load.state ≡ d.state
      own_state =
          let tied : IsLoadTied s held.load = pass.work.loads.there loading.nav held.load held.at in
          let both : Some tied.q ≡ Some of.q = sym tied.found ∙ ap (λ (r : ReqId). request_in s.requests r) held.req_is ∙ of.found in
          let one : tied.q ≡ of.q = cc in
          let states : Some held.load.state ≡ Some d.state = sym tied.state ∙ ap (λ (x : Asked). x.state) one ∙ of.own in
          cc

      place : (it : Place) × (place_of s loading.nav ≡ Some it)
      place = tab_placed t.running p.loads p.hand s pass.going.tab of.req loading.nav its

      node : HasNode (tables.look_of s t.running) t.tree loading.nav place.0
      node = its_node (tables.look_of s t.running) t.tree loading.nav place.0 pass.work.holds.navs place.1

  -- nothing is noted for a state without an ongoing load
  unnoted : (by : Option ReqId) (state : StateId) → ongoing_load s state ≡ None → (req : ReqId) → IsToNote t by (made_in t.tree) state req → ⊥
  unnoted by state none req its =
      let it : IsNoting t by its.it state req = noting_is t by its.it state req its.is in
      let apart : (state.0 == it.load.state.0) ≡ false = table_unloaded s t.loads pass.work.loads state none its.it it.load it.at in
      let same : (state.0 == it.load.state.0) ≡ true = ap (λ (x : StateId). state.0 == x.0) it.state_is ∙ nat_eq_refl state.0 in
      let never : true ≡ false = sym same ∙ apart in
      cc

  -- nobody is awake on a document of a load
  unwoken : (doc : DocId) (d : Document) (q : Asked) → document_of s doc ≡ Some d → ongoing_load s d.state ≡ Some q → (nav : NavId) (place : Place) → place_of s nav ≡ Some place → place.status ≡ awake doc → ⊥
  unwoken doc d q found is nav place placed wakes =
      let none : ongoing_load s d.state ≡ None = awake_unloaded s pass.going.tab.loading pass.going.tab.shown.ever nav place doc d placed wakes found in
      let never : None ≡ Some q = sym none ∙ is in
      cc

  module _ (out : List RowKind) (blame noted : List (StateId × ReqId)) (left : LeavesAll (now_of p.event was) (now_of p.event out)) where
    abbrev x : Seen
    x = now_of p.event out

    -- a stray document then was so before, or its load gave way
    record WasLoads (doc : DocId) (state : StateId) (stray : IsStray x doc state) : Type 0 where
      found : document_of s doc ≡ Some stray.document
      bare : has_state state s.history.rows ≡ false

    was_loads : (doc : DocId) (state : StateId) (stray : IsStray x doc state) → WasLoads doc state stray
    was_loads doc state stray =
        record {
          found = ap (λ (l : List Document). document_in l doc) (sym left.documents) ∙ stray.found;
          bare = ap (λ (h : History). has_state state h.rows) (sym left.history) ∙ stray.bare;
        }

    was_stray : (doc : DocId) (state : StateId) (stray : IsStray x doc state) → ongoing_load s state ≡ None → IsStray s doc state
    was_stray doc state stray none =
        let it : WasLoads doc state stray = was_loads doc state stray in
        record { document = stray.document; found = it.found; its_state = stray.its_state; ready = stray.ready; undiscarded = stray.undiscarded; bare = it.bare; unloaded = none }

    place_was : (nav : NavId) → place_of x nav ≡ place_of s nav
    place_was nav = ap (λ (l : List Place). place_in l nav) left.places

    -- ---- for one request, as the traversal that runs

    module _ (serves : ReqId → Type 0) (on : (r : ReqId) → MayServe x r → serves r) (by : ReqId) (may : serves by) (are : AreNoted t (Some by) (made_in t.tree) blame noted) (blamed : AreBlamed s blame) where
      still_blamed : (doc : DocId) (state : StateId) → IsStray s doc state → ongoing_load s state ≡ None → IsBlamedBy serves x noted doc state
      still_blamed doc state stray none =
          let it : IsBlamed s blame doc state = blamed doc state stray in
          record {
            req = it.req;
            noted = are.others state (unnoted (Some by) state none) ∙ it.noted;
            may = on it.req (its_may it.req it.may);
            moves = λ nav place other under placed wakes at is. left.movers (whys.Req it.req) other (it.moves nav place other under (sym (place_was nav) ∙ placed) wakes (sym (place_was other) ∙ at) is);
            leaves = λ nav place placed wakes. may_leave_left s x left it.req nav (its_may it.req it.may) (it.leaves nav place (sym (place_was nav) ∙ placed) wakes);
          }
        where
          its_may : (req : ReqId) → MayServe s req → MayServe x req
          its_may req may_ =
              left.orders (whys.Req req) (λ r same. let one : req ≡ r = cc in subst (λ (y : ReqId). MayServe s y) one may_) req refl

      now_blamed : (doc : DocId) (state : StateId) (stray : IsStray x doc state) (q : Asked) → ongoing_load s state ≡ Some q → IsBlamedBy serves x noted doc state
      now_blamed doc state stray q is =
          record {
            req = one.req;
            noted = one.found;
            may = subst (λ (r : ReqId). serves r) by_is may;
            moves = λ nav place other under placed wakes at below. absurd (unwoken doc stray.document q found here nav place (sym (place_was nav) ∙ placed) wakes);
            leaves = λ nav place placed wakes. absurd (unwoken doc stray.document q found here nav place (sym (place_was nav) ∙ placed) wakes);
          }
        where
          found : document_of s doc ≡ Some stray.document
          found = (was_loads doc state stray).found

          here : ongoing_load s stray.document.state ≡ Some q
          here = ap (λ (st : StateId). ongoing_load s st) stray.its_state ∙ is

          its : IsItsLoad stray.document
          its = its_load doc stray.document q found here

          one : IsNotedBy (noting_in t (Some by)) (made_in t.tree) noted state
          one =
              are.own state by (record {
                it = its.nav;
                there = its.there;
                is = noting_of t (Some by) its.nav its.load by its.at refl ∙ ap (λ (st : StateId). let pair : StateId × ReqId = (st, by) in Some pair) (its.state_is ∙ stray.its_state);
              })

          by_is : by ≡ one.req
          by_is =
              let it : IsNoting t (Some by) one.its.it state one.req = noting_is t (Some by) one.its.it state one.req one.its.is in
              let same : Some by ≡ Some one.req = it.noted in cc

      pub noted_blamed : AreBlamedBy serves x noted
      noted_blamed doc state stray = by_load (ongoing_load s state) refl
        where
          by_load : (o : Option Asked) → ongoing_load s state ≡ o → IsBlamedBy serves x noted doc state
          by_load None is = still_blamed doc state (was_stray doc state stray is) is
          by_load (Some q) is = now_blamed doc state stray q is

    -- for which orders may be sent
    pub moved_blamed : (by : ReqId) → MayServe x by → AreNoted t (Some by) (made_in t.tree) blame noted → AreBlamed s blame → AreBlamed x noted
    moved_blamed by may are blamed = noted_blamed (MayServe x) (λ r so. so) by may are blamed

    -- ---- for those that took the entries

    module _ (are : AreNoted t None (made_in t.tree) blame noted) (none : NoneStray s) (ends : EndsLoads (IsBare (now_of p.event was)) (now_of p.event was) (now_of p.event out)) (takers : TakersServe (now_of p.event out)) where
      module _ (doc : DocId) (state : StateId) (stray : IsStray x doc state) (q : Asked) (is : ongoing_load s state ≡ Some q) where
        found : document_of s doc ≡ Some stray.document
        found = (was_loads doc state stray).found

        here : ongoing_load s stray.document.state ≡ Some q
        here = ap (λ (st : StateId). ongoing_load s st) stray.its_state ∙ is

        its : IsItsLoad stray.document
        its = its_load doc stray.document q found here

        -- the load has ended, so its navigable had no entry
        gone : IsBare s its.nav
        gone = by_test (has_row its.nav s.history.rows) refl
          where
            by_test : (b : Bool) → has_row its.nav s.history.rows ≡ b → IsBare s its.nav
            by_test false e = e
            by_test true e =
                absurd (goes_on (ends.others its.req its.nav its.its (λ bare. let never : true ≡ false = sym e ∙ bare in cc)))
              where
                goes_on : request_in x.requests its.req ≡ request_in s.requests its.req → ⊥
                goes_on same =
                    let tied : IsLoadTied s its.load = pass.work.loads.there its.nav its.load its.at in
                    let held : HasLoad t.loads its.nav its.req = pass.work.loads.all its.req (asked.0) its.nav asked.1.0 asked.1.1.0 asked.1.1.1 in
                    let loads_same : Some held.load ≡ Some its.load = sym held.at ∙ its.at in
                    let one : held.load ≡ its.load = cc in
                    let req_is : its.load.req ≡ its.req = ap (λ (l : Load). l.req) (sym one) ∙ held.req_is in
                    let there : request_in x.requests its.req ≡ Some tied.q = same ∙ ap (λ (r : ReqId). request_in s.requests r) (sym req_is) ∙ tied.found in
                    loaded_never x state stray.unloaded its.req tied.q its.load.state there tied.ongoing tied.state (ap (λ (st : StateId). st.0) (its.state_is ∙ stray.its_state))
                  where
                    asked : (r : Asked) × ((request_in s.requests its.req ≡ Some r) × ((is_ongoing_load r ≡ true) × (loads its.nav r.what ≡ true)))
                    asked = let it = asked_for s its.req its.nav its.its in (it.q, (it.at, (it.ongoing, it.loads_it)))

        taker : (by : ReqId) × (its.place.taken_by ≡ Some by)
        taker =
            let it = (pass.going.tab.standing its.nav its.place its.placed).taken (ap (λ (n : NavId). has_row n s.history.rows) (found_nav s.places its.nav its.place its.placed) ∙ gone) in
            (it.req, it.is)

        noted_now : noted_for t None its.nav ≡ Some taker.0
        noted_now =
            let node = its_node (tables.look_of s t.running) t.tree its.nav its.place pass.work.holds.navs its.placed in
            let bare_ : has_none (history_held t.store).rows its.nav ≡ true = bare_is p was t pass its.nav ∙ ap not gone in
            let taken : node.node.destroyed_by ≡ Some taker.0 = node.tied.destroyed_by ∙ taker.1 in
            rw bare_ (rw node.there taken)

        one : IsNotedBy (noting_in t None) (made_in t.tree) noted state
        one =
            are.own state taker.0 (record {
              it = its.nav;
              there = its.there;
              is = noting_of t None its.nav its.load taker.0 its.at noted_now ∙ ap (λ (st : StateId). let pair : StateId × ReqId = (st, taker.0) in Some pair) (its.state_is ∙ stray.its_state);
            })

        -- whoever is noted took the entries of a navigable
        serves : MayServe x one.req
        serves = by_node (has_none (history_held t.store).rows one.its.it) refl (node_of one.its.it t.tree) refl it.noted
          where
            it : IsNoting t None one.its.it state one.req
            it = noting_is t None one.its.it state one.req one.its.is

            by_node : (b : Bool) → has_none (history_held t.store).rows one.its.it ≡ b → (o : Option Node) → node_of one.its.it t.tree ≡ o → (let r : Option ReqId = if b then (option_and_then (λ (node : Node). node.destroyed_by) o) else None in r) ≡ Some one.req → MayServe x one.req
            by_node false bare_ o there h = absurd cc
            by_node true bare_ None there h = absurd cc
            by_node true bare_ (Some node) there h =
                let place = its_place (tables.look_of s t.running) t.tree one.its.it node pass.work.holds.navs there in
                takers one.its.it place.place one.req (place_was one.its.it ∙ place.at) (sym place.tied.destroyed_by ∙ h)

        nav_bare : has_row stray.document.nav s.history.rows ≡ false
        nav_bare =
            ap (λ (n : NavId). has_row n s.history.rows) own_nav ∙ gone
          where
            own_nav : stray.document.nav ≡ its.nav
            own_nav =
                nav_of (pass.going.tab.loading.each its.req its.its.look its.its.at its.its.ongoing)
              where
                nav_of : IsLoading s its.its.look → stray.document.nav ≡ its.nav
                nav_of loading = loading.whose doc stray.document found (ap (λ (st : StateId). st.0) states) ∙ nav_same
                  where
                    nav_same : loading.nav ≡ its.nav
                    nav_same = nav_is loading.nav its.nav (ap (λ (w : Request). loads its.nav w) (sym loading.what) ∙ its.its.loads_it)

                    asked : IsAskedFor s its.req its.nav
                    asked = asked_for s its.req its.nav its.its

                    held : HasLoad t.loads its.nav its.req
                    held = pass.work.loads.all its.req asked.q its.nav asked.at asked.ongoing asked.loads_it

                    states : stray.document.state ≡ loading.state
                    states =
                        let both : Some held.load ≡ Some its.load = sym held.at ∙ its.at in
                        let load_same : held.load ≡ its.load = cc in
                        let req_is : its.load.req ≡ its.req = ap (λ (l : Load). l.req) (sym load_same) ∙ held.req_is in
                        let tied : IsLoadTied s its.load = pass.work.loads.there its.nav its.load its.at in
                        let looks : Some (look tied.q) ≡ Some its.its.look = sym (ap (λ (o : Option Asked). option_map look o) tied.found) ∙ ap (λ (r : ReqId). look_of s r) req_is ∙ its.its.at in
                        let look_same : look tied.q ≡ its.its.look = cc in
                        let two : Some its.load.state ≡ Some loading.state = sym tied.state ∙ ap (λ (l : Look). l.state) look_same ∙ loading.state_is in
                        let one_ : its.load.state ≡ loading.state = cc in
                        sym its.state_is ∙ one_

        left_one : IsLeftStray x noted doc state
        left_one =
            record {
              req = one.req;
              noted = one.found;
              may = serves;
              bare = λ d at. (let both : Some d ≡ Some stray.document = sym at ∙ stray.found in let same : d ≡ stray.document = cc in ap (λ (y : Document). has_row y.nav x.history.rows) same ∙ ap (λ (h : History). has_row stray.document.nav h.rows) left.history ∙ nav_bare);
            }

      pub destroyed_left : AreLeftStrays x noted
      destroyed_left doc state stray = by_load (ongoing_load s state) refl
        where
          by_load : (o : Option Asked) → ongoing_load s state ≡ o → IsLeftStray x noted doc state
          by_load None is = absurd (none doc state (was_stray doc state stray is))
          by_load (Some q) is = left_one doc state stray q is
