-- All that holds between two rows holds after a document that is made is frozen or discarded: who is awake on it falls asleep, and those below.
-- This project's own.
use Rattle.tab_facts.proofs.Past.Orders.{told_past}
use Rattle.seen_facts.proofs.Asked.Orders.{slept_plain}
use Rattle.seen_facts.proofs.Coord.Leadings.{doc_same}
use Rattle.seen_facts.proofs.Coord.Unread.{next}
use Rattle.seen_facts.proofs.Desk.Orders.{told_desks}
use Rattle.seen_facts.proofs.Desk.Orders as desk_orders
use Rattle.seen_facts.proofs.Doc.Orders.{discarded_docs, frozen_docs}
use Rattle.seen_facts.specs.Doc.Docs.{AreDocs}
use Rattle.seen_facts.proofs.Entry.Orders.{TellsAlone, sent_entries}
use Rattle.tab_facts.proofs.FragmentOrders.Rows.{sent_other_fragments}
use Rattle.tab_facts.proofs.FrameWhole.FlowsGone.{discard_if}
use Rattle.tab_facts.proofs.FrameWhole.Queued.{queued_after}
use Rattle.seen_facts.proofs.Hang.Hung.{places_distinct}
use Rattle.seen_facts.proofs.Hang.Members as members
use Rattle.seen_facts.proofs.Hang.Rows.{left_hangs}
use Rattle.seen_facts.proofs.Home.Left.{discarded_homed, frozen_homed}
use Rattle.seen_facts.specs.Home.Homes.{AreHomed, IsAtHome, document_in}
use Rattle.seen_facts.proofs.Kept.Orders.{discarded_kept, told_kept}
use Rattle.seen_facts.proofs.Kept.Orders as kept_orders
use Rattle.seen_facts.proofs.Load.Docs as load_docs
use Rattle.seen_facts.proofs.Load.Orders.{told_loading}
use Rattle.seen_facts.proofs.LoadWhereabouts.Rows.{sent_loads}
use Rattle.seen_facts.proofs.LoadWhereabouts.Trips.{IsNoFragment}
use Rattle.log_model.specs.AfterDocuments.{addressed, documents_sent}
use Rattle.log_model.specs.AfterPlaces.{sleepers_with}
use Rattle.log_model.specs.Places.{is_awake_on, shower_of}
use Rattle.log_model.specs.Seen.{Document, Place, Seen, Status, asleep, awake, document_of, lost, place_of}
use Rattle.log_model.specs.declared.job.Job.{Job}
use Rattle.log_model.specs.declared.job.Task.{Task}
use Rattle.log_model.specs.declared.made.Made.{Made}
use Rattle.log_model.specs.declared.row_kind.Actor.{Actor}
use Rattle.seen_facts.proofs.Mover.Below.{sleepers_move}
use Rattle.seen_facts.proofs.Mover.Orders.{MovesEach, slept_movers}
use Rattle.seen_facts.specs.Mover.Movers.{IsMovedBy}
use Rattle.seen_facts.proofs.Place.Orders.{slept_standing}
use Rattle.seen_facts.proofs.Request.KnownRows.{sent_known}
use Rattle.seen_facts.proofs.Request.Onces.{sent_once}
use Rattle.seen_facts.proofs.Rest.Kept.{IsNoMaking, left_kept}
use Rattle.seen_facts.proofs.Rest.Stands.{get_of}
use Rattle.seen_laws.proofs.Keyed.{find_on_same}
use Rattle.std.proofs.Common.{List, Option, Some, ap, false, refl, subst, sym, true, ℕ, ◌∙◌, ◌≡◌}
use Rattle.std.specs.Prelude.{option_map}
use Rattle.tab_ids.specs.declared.DocId.{DocId}
use Rattle.tab_ids.specs.declared.NavId.{NavId}
use Rattle.tab_ids.specs.declared.ReqId.{ReqId}
use Rattle.tab_facts.proofs.TabWhole.FreezeFlows.{freeze_if}
use Rattle.tab_facts.proofs.TabWhole.Sending.{IsToMade, ordered_home, sent_home, some_same}
use Rattle.tab_facts.proofs.TabWhole.OpenAmong.{once_on, sent_ends, trips_on}
use Rattle.tab_facts.specs.TabWhole.Tab.{IsTab, at_hand, open_among}
use Rattle.seen_facts.proofs.Transit.Rows.{discarded_ways, frozen_ways}
use Rattle.seen_facts.proofs.Walk.Placed.{each_found}
use Rattle.log_model.specs.declared.job.Task.TheVariants as tasks
use Rattle.log_model.specs.declared.row_kind.RowKind.TheVariants as rows
use Rattle.tab_facts.proofs.Shown.Orders.{told_shown}

module _ (run : Option ReqId) (loads : List ReqId) (hand : List Made) (s : Seen) (tab : IsTab run loads hand s) (job : Job) where
  -- all who fall asleep are moved by the order's reason, where each navigable that is awake on the document is
  pub moves_with : ((nav : NavId) (place : Place) → place_of s nav ≡ Some place → place.status ≡ awake job.doc → IsMovedBy s job.why nav) → MovesEach s job.why (sleepers_with s job.doc)
  moves_with each = sleepers_move s tab.sound tab.hangs job.why job.doc by_shower
    where
      awake_is : (st : Status) (place : Place) → is_awake_on job.doc (record place { status = st }) ≡ true → st ≡ awake job.doc
      awake_is (awake x) place e = ap (λ (y : DocId). awake y) (doc_same x job.doc e)
      awake_is asleep place e = absurd cc
      awake_is lost place e = absurd cc

      by_shower : (place : Place) → shower_of s job.doc ≡ Some place → IsMovedBy s job.why place.nav
      by_shower place is =
          let f = members.find_has (is_awake_on job.doc) s.places place is in
          let i = get_of s.places place f.0 in
          each place.nav place (each_found s.places (places_distinct s tab.sound tab.hangs) i.0 place i.1) (awake_is place.status place f.1)

module _ (run : Option ReqId) (loads : List ReqId) (hand : List Made) (s : Seen) (event : ℕ) (actor : Actor) (tab : IsTab run loads hand s) (job : Job) (d : Document) (to : IsToMade s job d) (moves : MovesEach s job.why (sleepers_with s job.doc)) where
  abbrev pub left : Seen
  left = next s event actor (rows.Sent job)

  -- ---- it is frozen

  module _ (task : job.task ≡ tasks.Freeze) where
    docs_frozen : AreDocs left
    docs_frozen = frozen_docs s event actor tab.docs job tab.sound tab.hangs tab.homes task

    its_frozen : document_of left job.doc ≡ Some (addressed tasks.Freeze d)
    its_frozen =
        ap (λ (l : List Document). document_in l job.doc) (ap (λ (t : Task). documents_sent s job t) task)
        ∙ find_on_same (λ (x : Document). x.nr.0) (addressed tasks.Freeze) job.doc.0 s.documents (λ x. refl)
        ∙ ap (λ (o : Option Document). option_map (addressed tasks.Freeze) o) to.found

    -- no navigable is awake on it any more
    thawed_not : (nav : NavId) (place : Place) → place_of left nav ≡ Some place → place.status ≡ awake job.doc → ⊥
    thawed_not nav place placed wakes =
        let thawed : (addressed tasks.Freeze d).is_frozen ≡ false = docs_frozen.thawed nav place job.doc (addressed tasks.Freeze d) placed wakes its_frozen in
        let never : true ≡ false = thawed in cc

    pub freeze_tab : IsTab run loads hand left
    freeze_tab =
        record {
          sound = tab.sound;
          hangs = left_hangs s event actor tab.hangs (rows.Sent job) tt;
          docs = docs_frozen;
          whose = left_kept s event actor tab.whose (rows.Sent job) (subst (λ (t : Task). IsNoMaking t) (sym task) tt);
          shown = told_shown s event actor tab.shown job (subst (λ (t : Task). load_docs.MakesNone t) (sym task) tt) (subst (λ (t : Task). load_docs.ShowsNone t) (sym task) tt);
          homes = frozen_homed s event actor job tab.sound tab.hangs tab.homes task;
          kept = told_kept s event actor tab.kept job (subst (λ (t : Task). kept_orders.ShowsNone t) (sym task) tt);
          standing = slept_standing s event actor tab.standing job tasks.Freeze task tt;
          movers = slept_movers s event actor tab.movers job tasks.Freeze task tt moves;
          asked = slept_plain run s event actor tab.asked job tasks.Freeze task tt;
          queued = queued_after run s event actor tab.queued (rows.Sent job) tt;
          loading = told_loading s event actor tab.loading job (subst (λ (t : Task). load_docs.MakesNone t) (sym task) tt) (subst (λ (t : Task). load_docs.ShowsNone t) (sym task) tt);
          fragments = sent_other_fragments s event actor tab.fragments job (subst (λ (t : Task). IsNoFragment t) (sym task) tt);
          once = once_on s (next s event actor (rows.Sent job)) loads hand (sent_ends s event actor job) (sent_once s (at_hand (open_among s.requests loads) hand) event actor job tab.once);
          trips = trips_on s (next s event actor (rows.Sent job)) loads hand (sent_ends s event actor job) (sent_loads s (at_hand (open_among s.requests loads) hand) event actor tab.trips job (subst (λ (t : Task). IsNoFragment t) (sym task) tt));
          known = sent_known s event actor job tab.known;
          desks = told_desks s event actor tab.desks job (subst (λ (t : Task). desk_orders.IsTold t) (sym task) tt) (ordered_home run loads hand s tab job d to);
          ways = frozen_ways s event actor tab.ways job task;
          entries = sent_entries hand s event actor tab.entries job (subst (λ (t : Task). TellsAlone t) (sym task) tt);
          flows = freeze_if s event actor hand job task (sent_home run loads hand s tab job d to) thawed_not tab.flows;
          past = told_past hand s event actor tab.docs job (sent_home run loads hand s tab job d to) (subst (λ (t : Task). load_docs.MakesNone t) (sym task) tt) (subst (λ (t : Task). load_docs.ShowsNone t) (sym task) tt) tab.past;
        }

  -- ---- it is discarded

  module _ (task : job.task ≡ tasks.Discard) where
    homes_left : AreHomed left
    homes_left = discarded_homed s event actor job tab.sound tab.hangs tab.homes task

    its_discarded : document_in left.documents job.doc ≡ Some (record d { is_discarded = true })
    its_discarded =
        ap (λ (l : List Document). document_in l job.doc) (ap (λ (t : Task). documents_sent s job t) task)
        ∙ find_on_same (λ (x : Document). x.nr.0) (λ (x : Document). record x { is_discarded = true }) job.doc.0 s.documents (λ x. refl)
        ∙ ap (λ (o : Option Document). option_map (λ (x : Document). let y : Document = record x { is_discarded = true } in y) o) to.found

    unused : (nav : NavId) (place : Place) → place_of left nav ≡ Some place → place.status ≡ awake job.doc → ⊥
    unused nav place placed wakes =
        let at : IsAtHome left.documents place.nav job.doc = (homes_left.homed nav place job.doc placed wakes).home in
        let same : at.document ≡ record d { is_discarded = true } = some_same (sym at.found ∙ its_discarded) in
        let never : true ≡ false = ap (λ (x : Document). x.is_discarded) (sym same) ∙ at.undiscarded in cc

    pub discard_tab : IsTab run loads hand left
    discard_tab =
        record {
          sound = tab.sound;
          hangs = left_hangs s event actor tab.hangs (rows.Sent job) tt;
          docs = discarded_docs s event actor tab.docs job task (λ x found. ap (λ (y : Document). y.is_ready) (some_same (sym found ∙ to.found)) ∙ to.ready);
          whose = left_kept s event actor tab.whose (rows.Sent job) (subst (λ (t : Task). IsNoMaking t) (sym task) tt);
          shown = told_shown s event actor tab.shown job (subst (λ (t : Task). load_docs.MakesNone t) (sym task) tt) (subst (λ (t : Task). load_docs.ShowsNone t) (sym task) tt);
          homes = homes_left;
          kept = discarded_kept s event actor tab.kept job task;
          standing = slept_standing s event actor tab.standing job tasks.Discard task tt;
          movers = slept_movers s event actor tab.movers job tasks.Discard task tt moves;
          asked = slept_plain run s event actor tab.asked job tasks.Discard task tt;
          queued = queued_after run s event actor tab.queued (rows.Sent job) tt;
          loading = told_loading s event actor tab.loading job (subst (λ (t : Task). load_docs.MakesNone t) (sym task) tt) (subst (λ (t : Task). load_docs.ShowsNone t) (sym task) tt);
          fragments = sent_other_fragments s event actor tab.fragments job (subst (λ (t : Task). IsNoFragment t) (sym task) tt);
          once = once_on s (next s event actor (rows.Sent job)) loads hand (sent_ends s event actor job) (sent_once s (at_hand (open_among s.requests loads) hand) event actor job tab.once);
          trips = trips_on s (next s event actor (rows.Sent job)) loads hand (sent_ends s event actor job) (sent_loads s (at_hand (open_among s.requests loads) hand) event actor tab.trips job (subst (λ (t : Task). IsNoFragment t) (sym task) tt));
          known = sent_known s event actor job tab.known;
          desks = told_desks s event actor tab.desks job (subst (λ (t : Task). desk_orders.IsTold t) (sym task) tt) (ordered_home run loads hand s tab job d to);
          ways = discarded_ways s event actor tab.ways job task;
          entries = sent_entries hand s event actor tab.entries job (subst (λ (t : Task). TellsAlone t) (sym task) tt);
          flows = discard_if s event actor hand job task (sent_home run loads hand s tab job d to) unused tab.flows;
          past = told_past hand s event actor tab.docs job (sent_home run loads hand s tab job d to) (subst (λ (t : Task). load_docs.MakesNone t) (sym task) tt) (subst (λ (t : Task). load_docs.ShowsNone t) (sym task) tt) tab.past;
        }
