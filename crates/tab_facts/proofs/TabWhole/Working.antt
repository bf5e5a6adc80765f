-- All that holds of a tab between two events holds after a process takes up a live order, or finishes one that makes, shows, tells, freezes, discards or asks its document; what is on its way leads on after one that sends it to a fragment, too.
use Rattle.log_model.specs.declared.made.Made.{Made}
use Rattle.tab_facts.proofs.Past.Rows.{finished_past, taken_past}
use Rattle.seen_facts.proofs.Asked.Rows.{finished_plain, taken_plain}
use Rattle.seen_facts.proofs.Coord.Answered.{IsAnswer, answer_flows}
use Rattle.seen_facts.proofs.Coord.Flowings.{finished_flows, taken_flows}
use Rattle.seen_facts.proofs.Coord.Held.{held_alike, made_of}
use Rattle.seen_facts.proofs.Coord.Kept.{IsInHand, IsPlainOutcome}
use Rattle.seen_facts.proofs.Coord.Populated.{making_flows}
use Rattle.seen_facts.proofs.Coord.Reached.{IsOfOne}
use Rattle.seen_facts.proofs.Coord.Unread.{next}
use Rattle.seen_facts.specs.Coord.Flowing.{Flows}
use Rattle.seen_facts.specs.Coord.Leading.{held_back, orders_of_desk}
use Rattle.seen_facts.proofs.Desk.Rows.{finished_desks, taken_desks}
use Rattle.seen_facts.specs.Desk.Own.{IsOrderIn}
use Rattle.seen_facts.proofs.Doc.Rows.{taken_docs}
use Rattle.seen_facts.proofs.Doc.Works.{HasNoSlot, finished_docs}
use Rattle.seen_facts.specs.Doc.Docs.{makes_at, makes_due, makes_it, makes_sent}
use Rattle.seen_facts.proofs.Each.Eaches.{each_first}
use Rattle.seen_facts.specs.Each.Items.{Each}
use Rattle.seen_facts.proofs.Entry.Docs.{IsOfUnmade, MakesUnmade}
use Rattle.seen_facts.proofs.Entry.Finishes.{FinishesUnmade, finished_entries}
use Rattle.seen_facts.proofs.Entry.Rows.{taken_entries}
use Rattle.seen_facts.proofs.Entry.Stays.{its_number}
use Rattle.tab_facts.proofs.FragmentOrders.Rows.{finished_other_fragments, taken_fragments}
use Rattle.tab_facts.proofs.FrameWhole.FlowsAlike.{flows_if}
use Rattle.tab_facts.proofs.FrameWhole.Queued.{queued_after}
use Rattle.seen_facts.proofs.Hang.Rows.{left_hangs}
use Rattle.seen_facts.proofs.Home.Rows as homing
use Rattle.seen_facts.specs.Home.Homes.{IsHomed}
use Rattle.seen_facts.proofs.Kept.Rows as keeping
use Rattle.seen_facts.proofs.Load.Rows.{finished_loading, taken_loading}
use Rattle.seen_facts.proofs.LoadWhereabouts.Rows.{finished_loads, taken_loads}
use Rattle.seen_facts.proofs.LoadWhereabouts.Trips.{IsNoFragment}
use Rattle.log_model.proofs.Refl.{nat_eq_refl}
use Rattle.log_model.specs.Seen.{Asked, Document, Place, Seen, awake, desk_of, document_of, place_of, request_in}
use Rattle.log_model.specs.declared.job.Job.{Job}
use Rattle.log_model.specs.declared.job.Order.{Order}
use Rattle.log_model.specs.declared.job.Task.{Task}
use Rattle.log_model.specs.declared.outcome.Outcome.{Outcome}
use Rattle.seen_facts.proofs.Mover.Rows.{finished_movers, taken_movers}
use Rattle.seen_facts.proofs.Place.Rows.{finished_standing, taken_standing}
use Rattle.seen_facts.proofs.Request.Cores.{SameCores, finished_cores}
use Rattle.seen_facts.proofs.Request.KnownRows.{finished_known, taken_known}
use Rattle.seen_facts.proofs.Request.Onces.{finished_once, taken_once}
use Rattle.seen_facts.specs.Request.Cores.{Core, core_of}
use Rattle.seen_facts.proofs.Rest.Kept.{left_kept}
use Rattle.tab_facts.proofs.Shown.Rows.{finished_shown, taken_shown}
use Rattle.std.proofs.Common.{Bool, List, None, Option, Some, [], ap, arith, false, length, refl, subst, sym, true, ℕ, ◌++◌, ◌+◌, ◌==◌, ◌∙◌, ◌∷◌, ◌≡◌}
use Rattle.std.specs.Prelude.{option_and_then, option_map, option_to_list, slice_get}
use Rattle.tab_ids.specs.declared.Death.{Death}
use Rattle.tab_ids.specs.declared.DocId.{DocId}
use Rattle.tab_ids.specs.declared.NavId.{NavId}
use Rattle.tab_ids.specs.declared.ProcId.{ProcId}
use Rattle.tab_ids.specs.declared.ReqId.{ReqId}
use Rattle.tab_ids.specs.declared.StateId.{StateId}
use Rattle.tab_facts.proofs.TabWhole.OpenAmong.{finished_ends, once_on, trips_on}
use Rattle.tab_facts.specs.TabWhole.Tab.{IsTab, at_hand, open_among}
use Rattle.seen_facts.proofs.Transit.Rows.{finished_ways, taken_ways}
use Rattle.seen_facts.specs.Transit.Orders.{IsOutcomeOf}
use Rattle.log_model.specs.declared.job.Task.TheVariants as tasks
use Rattle.log_model.specs.declared.outcome.Outcome.TheVariants as outcomes
use Rattle.log_model.specs.declared.row_kind.Actor.TheVariants as actors
use Rattle.log_model.specs.declared.row_kind.RowKind.TheVariants as rows

-- what is held back stays, where what is known of each request does
pub held_by_cores : (asked then : List Asked) (parked : List ReqId) → SameCores asked then → held_back then parked ≡ held_back asked parked
held_by_cores asked then parked same =
    held_alike asked then parked (λ r. by_core (request_in then r) ∙ ap (λ (o : Option Core). option_and_then (λ (c : Core). c.made) o) (same r) ∙ sym (by_core (request_in asked r)))
  where
    by_core : (o : Option Asked) → made_of o ≡ option_and_then (λ (c : Core). c.made) (core_of o)
    by_core None = refl
    by_core (Some q) = refl

module _ (run : Option ReqId) {loads : List ReqId} (s : Seen) (event : ℕ) (proc : ProcId) (tab : IsTab run loads [] s) (flows : Flows s) where
  -- ---- an order is taken up

  module _ (job : Job) (dirty : Bool) (free : (desk_of s proc).in_hand ≡ None) (first : slice_get (desk_of s proc).mail 0 ≡ Some job) where
    -- it is of the incarnation that lives
    pub taken_lives : (job.incarnation == length (desk_of s proc).killed) ≡ true
    taken_lives =
        let orders_are : orders_of_desk (desk_of s proc) ≡ (desk_of s proc).mail = rw free refl in
        let its : IsOrderIn s.documents s.places proc job = each_first (IsOrderIn s.documents s.places proc) (desk_of s proc).mail job first (subst (λ (l : List Job). Each (IsOrderIn s.documents s.places proc) l) orders_are (tab.desks proc).orders) in
        rw (its.incarnation, (tab.asked.died proc).1) refl

    abbrev pub taken : Seen
    taken = next s event (actors.Proc proc) (rows.Taken proc job.nr true dirty)

    pub took_flows : Flows taken
    took_flows = taken_flows s event proc job dirty free first flows

    pub taken_tab : IsTab run loads [] taken
    taken_tab =
        record {
          sound = tab.sound;
          hangs = left_hangs s event (actors.Proc proc) tab.hangs (rows.Taken proc job.nr true dirty) tt;
          docs = taken_docs s event (actors.Proc proc) tab.docs proc job dirty free first;
          whose = left_kept s event (actors.Proc proc) tab.whose (rows.Taken proc job.nr true dirty) tt;
          shown = taken_shown s event (actors.Proc proc) tab.shown proc job dirty free first;
          homes = homing.left_rows s event (actors.Proc proc) tab.homes (rows.Taken proc job.nr true dirty) tt;
          kept = keeping.left_rows s event (actors.Proc proc) tab.kept (rows.Taken proc job.nr true dirty) tt;
          standing = taken_standing s event (actors.Proc proc) tab.standing proc job.nr true dirty;
          movers = taken_movers s event (actors.Proc proc) tab.movers proc job.nr true dirty;
          asked = taken_plain run s event (actors.Proc proc) tab.asked proc job.nr true dirty;
          queued = queued_after run s event (actors.Proc proc) tab.queued (rows.Taken proc job.nr true dirty) tt;
          loading = taken_loading s event (actors.Proc proc) tab.loading proc job.nr true dirty;
          fragments = taken_fragments s event (actors.Proc proc) tab.fragments proc job dirty free first;
          once = taken_once s (at_hand (open_among s.requests loads) []) event (actors.Proc proc) proc job.nr true dirty tab.once;
          trips = taken_loads s (at_hand (open_among s.requests loads) []) event (actors.Proc proc) tab.trips proc job.nr true dirty;
          known = taken_known s event (actors.Proc proc) proc job.nr true dirty tab.known;
          desks = taken_desks s event (actors.Proc proc) tab.desks proc job dirty free;
          ways = taken_ways s event (actors.Proc proc) tab.ways proc job dirty free first;
          entries = taken_entries [] s event (actors.Proc proc) tab.entries proc job.nr true dirty;
          flows = flows_if taken took_flows;
          past = taken_past s event proc tab.docs job dirty free first tab.past;
        }

  -- ---- an order is finished

  module _ (order : Order) (outcome : Outcome) (in_hand : (desk_of s proc).in_hand ≡ Some order) (its : IsOutcomeOf order.job.task outcome) (bare : HasNoSlot outcome) where
    -- it is to a document of the process
    pub in_hand_in : IsOrderIn s.documents s.places proc order.job
    in_hand_in =
        let orders_are : orders_of_desk (desk_of s proc) ≡ order.job ∷ (desk_of s proc).mail = rw in_hand refl in
        (subst (λ (l : List Job). Each (IsOrderIn s.documents s.places proc) l) orders_are (tab.desks proc).orders).0

    -- which lives there
    its_home : (d : Document) → document_of s order.job.doc ≡ Some d → d.proc ≡ proc
    its_home d found =
        let both : Some in_hand_in.lives.d ≡ Some d = sym in_hand_in.lives.found ∙ found in
        let one : in_hand_in.lives.d ≡ d = cc in
        let number : d.proc.0 ≡ proc.0 = ap (λ (x : Document). x.proc.0) (sym one) ∙ in_hand_in.lives.home in
        ap (λ (n : ℕ). let p : ProcId = record { 0 = n } in p) number

    pub in_hand_lives : IsInHand s proc order
    in_hand_lives =
        record {
          hand = in_hand;
          lives = in_hand_in.incarnation ∙ sym (ap (λ (l : List Death). length l) (tab.asked.died proc).1);
          home = its_home;
        }

    -- where it makes a document, this isn't made yet
    pub unready : (task : Task) → order.job.task ≡ task → (d : Document) → document_of s order.job.doc ≡ Some d → IsOfUnmade task d
    unready (tasks.Populate nav state address initial) task d found = by_ready d.is_ready refl
      where
        number : d.nr ≡ order.job.doc
        number = ap (λ (n : ℕ). let x : DocId = record { 0 = n } in x) (its_number s.documents order.job.doc d found)

        once : makes_at d.nr (desk_of s proc) ≡ makes_due d.is_ready
        once =
            ap (λ (p : ProcId). makes_at d.nr (desk_of s p)) (sym (its_home d found)) ∙ (tab.docs.each order.job.doc d found).once

        sent : makes_sent d.nr (orders_of_desk (desk_of s proc)) ≡ makes_it d.nr order.job + makes_sent d.nr (desk_of s proc).mail
        sent = ap (λ (o : Option Order). makes_sent d.nr (option_to_list (option_map (λ (x : Order). x.job) o) ++ (desk_of s proc).mail)) in_hand

        one : makes_it d.nr order.job ≡ 1
        one = rw number (rw (task, nat_eq_refl order.job.doc.0) refl)

        by_ready : (b : Bool) → d.is_ready ≡ b → d.is_ready ≡ false
        by_ready false e = e
        by_ready true e = (let due : makes_due d.is_ready ≡ 0 = ap makes_due e in absurd (omega (arith, once, sent, one, due)))
    unready (tasks.Activate entry epoch long at memo address) task d found = tt
    unready (tasks.Update long at) task d found = tt
    unready tasks.Freeze task d found = tt
    unready tasks.Discard task d found = tt
    unready (tasks.Ask slot cause) task d found = tt
    unready (tasks.DoFragment req mode address) task d found = tt

    pub unmade : FinishesUnmade s proc
    unmade other is d found =
        let both : Some order ≡ Some other = sym in_hand ∙ is in
        let same : order ≡ other = cc in
        subst (λ (o : Order). MakesUnmade s.documents o.job) same (λ x there. unready order.job.task refl x there) d found

    -- no navigable is awake on it then
    unused : (nav_ : NavId) (state : StateId) (address : List ℕ) (initial : Bool) → order.job.task ≡ tasks.Populate nav_ state address initial → (nav : NavId) (place : Place) → place_of s nav ≡ Some place → place.status ≡ awake order.job.doc → ⊥
    unused nav_ state address initial task nav place placed wakes =
        let h : IsHomed s.documents place order.job.doc = tab.homes.homed nav place order.job.doc placed wakes in
        let never : true ≡ false = sym h.home.ready ∙ unready (tasks.Populate nav_ state address initial) task h.home.document h.home.found in cc

    abbrev pub finished : Seen
    finished = next s event (actors.Proc proc) (rows.Finished proc order.job.nr outcome)

    held_stays : held_back finished.requests finished.parked ≡ held_back s.requests s.parked
    held_stays = held_by_cores s.requests finished.requests s.parked (finished_cores s (desk_of s proc).in_hand outcome s.requests)

    by_task : (task : Task) (o : Outcome) → order.job.task ≡ task → outcome ≡ o → IsOutcomeOf task o → Flows finished
    by_task (tasks.Update long at) outcomes.Updated task o out = finished_flows s event proc order outcome in_hand_lives (subst IsPlainOutcome (sym o) tt) (subst IsOfOne (sym task) tt) flows
    by_task tasks.Freeze outcomes.Frozen task o out = finished_flows s event proc order outcome in_hand_lives (subst IsPlainOutcome (sym o) tt) (subst IsOfOne (sym task) tt) flows
    by_task tasks.Discard outcomes.Discarded task o out = finished_flows s event proc order outcome in_hand_lives (subst IsPlainOutcome (sym o) tt) (subst IsOfOne (sym task) tt) flows
    by_task (tasks.Activate entry epoch long at memo address) outcomes.Activated task o out = finished_flows s event proc order outcome in_hand_lives (subst IsPlainOutcome (sym o) tt) (subst IsOfOne (sym task) tt) flows
    by_task (tasks.Populate nav_ state address initial) (outcomes.Populated slot) task o out =
        subst (λ (x : Outcome). Flows (next s event (actors.Proc proc) (rows.Finished proc order.job.nr x))) (sym o) (making_flows s event proc order slot in_hand_lives (unused nav_ state address initial task) flows)
    by_task (tasks.Ask slot cause) (outcomes.Asked verdict) task o out = answer_flows s event proc order outcome in_hand_lives (subst IsAnswer (sym o) tt) (subst IsOfOne (sym task) tt) held_stays flows
    by_task (tasks.DoFragment req mode address) outcomes.Fragmented task o out = answer_flows s event proc order outcome in_hand_lives (subst IsAnswer (sym o) tt) (subst IsOfOne (sym task) tt) held_stays flows
    by_task (tasks.Update long at) o task is never = absurd never
    by_task tasks.Freeze o task is never = absurd never
    by_task tasks.Discard o task is never = absurd never
    by_task (tasks.Activate entry epoch long at memo address) o task is never = absurd never
    by_task (tasks.Populate nav_ state address initial) o task is never = absurd never
    by_task (tasks.Ask slot cause) o task is never = absurd never
    by_task (tasks.DoFragment req mode address) o task is never = absurd never

    pub finish_flows : Flows finished
    finish_flows = by_task order.job.task outcome refl refl its

    -- where it sends no document to a fragment; what is made of one that does is made in the same event
    pub finished_tab : IsNoFragment order.job.task → IsTab run loads [] finished
    finished_tab other =
        record {
          sound = tab.sound;
          hangs = left_hangs s event (actors.Proc proc) tab.hangs (rows.Finished proc order.job.nr outcome) tt;
          docs = finished_docs s event (actors.Proc proc) tab.docs tab.desks proc order outcome in_hand bare;
          whose = left_kept s event (actors.Proc proc) tab.whose (rows.Finished proc order.job.nr outcome) tt;
          shown = finished_shown s event (actors.Proc proc) tab.shown proc order outcome in_hand_lives;
          homes = homing.left_rows s event (actors.Proc proc) tab.homes (rows.Finished proc order.job.nr outcome) tt;
          kept = keeping.left_rows s event (actors.Proc proc) tab.kept (rows.Finished proc order.job.nr outcome) tt;
          standing = finished_standing s event (actors.Proc proc) tab.standing proc order.job.nr outcome;
          movers = finished_movers s event (actors.Proc proc) tab.movers proc order.job.nr outcome;
          asked = finished_plain run s event (actors.Proc proc) tab.asked proc order.job.nr outcome;
          queued = queued_after run s event (actors.Proc proc) tab.queued (rows.Finished proc order.job.nr outcome) tt;
          loading = finished_loading s event (actors.Proc proc) tab.loading proc order.job.nr outcome;
          fragments = finished_other_fragments s event (actors.Proc proc) tab.fragments proc order.job.nr outcome order in_hand other;
          once = once_on s finished loads [] (finished_ends s event (actors.Proc proc) proc order.job.nr outcome) (finished_once s (at_hand (open_among s.requests loads) []) event (actors.Proc proc) proc order.job.nr outcome tab.once);
          trips = trips_on s finished loads [] (finished_ends s event (actors.Proc proc) proc order.job.nr outcome) (finished_loads s (at_hand (open_among s.requests loads) []) event (actors.Proc proc) tab.trips proc order.job.nr outcome);
          known = finished_known s event (actors.Proc proc) proc order.job.nr outcome tab.known;
          desks = finished_desks s event (actors.Proc proc) tab.desks proc order outcome in_hand its;
          ways = finished_ways s event (actors.Proc proc) tab.ways proc order outcome in_hand its;
          entries = finished_entries [] s event (actors.Proc proc) tab.entries proc order.job.nr outcome unmade;
          flows = flows_if finished finish_flows;
          past = finished_past s event proc tab.docs order outcome in_hand_lives (ap (λ (l : List Made). l ++ []) held_stays) tab.past;
        }
