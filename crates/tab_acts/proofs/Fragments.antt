-- A process finishes an order that sends a document to a fragment, and the document makes an entry of it: the coordinator has acted, which does nothing itself, whoever is in a check.
use Rattle.tab_doors.proofs.AskingLoads.{row_asking}
use Rattle.asking_facts.proofs.Passed.{known_on, known_passed}
use Rattle.tab_stands.proofs.Logged.{once_of}
use Rattle.seen_facts.proofs.Coord.Held.{held_apart, on_else}
use Rattle.seen_facts.proofs.Coord.Unread.{next}
use Rattle.seen_facts.proofs.Entry.Stays.{its_number}
use Rattle.seen_facts.proofs.Fragment.Knowns.{IsUnmadeLoad, unmade_unheld}
use Rattle.seen_facts.specs.Fragment.Fragments.{fragment_of}
use Rattle.tab_facts.proofs.FragmentOrders.Works.{IsWaiting, in_hand_waits, waiting_load}
use Rattle.seen_facts.specs.Coord.Leading.{held_back}
use Rattle.tab_facts.proofs.Last.Rows.{finished_lasting, made_lasting}
use Rattle.tab_facts.specs.Last.Lasting.{AreLasting}
use Rattle.log_model.specs.AfterDocuments.{documents_finished, slot_finished, view_finished}
use Rattle.log_model.specs.AfterRequests.{on_request}
use Rattle.log_model.specs.Points.{nav_of_request}
use Rattle.log_model.specs.declared.job.Job.{Job}
use Rattle.tab_facts.proofs.Order.Rows.{orders_after}
use Rattle.seen_laws.proofs.Keyed.{find_map}
use Rattle.row_facts.proofs.LeaveRows.FragmentMakes.{fragment_event_passes}
use Rattle.row_facts.specs.LeaveRows.Fragments.{IsFragmentInHand}
use Rattle.row_facts.proofs.Left.Rows.{were_shown}
use Rattle.log_model.specs.AfterRequests.{is_running, requests_finished}
use Rattle.log_model.specs.Equal.{has_req}
use Rattle.log_model.specs.Once.{delta_of}
use Rattle.log_model.specs.Places.{is_load}
use Rattle.log_model.specs.After.{desk_finished}
use Rattle.log_model.specs.Seen.{Asked, Desk, Document, Seen, desk_of, document_of, request_in, request_of}
use Rattle.log_model.specs.Views.{View, after_made, made_for, new_entry, is_fragment_replace}
use Rattle.log_model.specs.declared.job.Order.{Order}
use Rattle.log_model.specs.declared.job.Task.{Task}
use Rattle.log_model.specs.declared.made.Made.{Made}
use Rattle.log_model.specs.declared.made.Report.TheVariants as reports
use Rattle.log_model.specs.declared.row_kind.LogRow.{LogRow}
use Rattle.log_model.specs.declared.request.Mode.{Mode}
use Rattle.log_model.specs.declared.request.Request.{Request}
use Rattle.move_queue.specs.Queue.{Queue}
use Rattle.seen_facts.specs.Each.Items.{Each}
use Rattle.seen_facts.specs.Request.Cores.{Core}
use Rattle.seen_facts.proofs.Request.LookUps.{on_itself}
use Rattle.seen_facts.proofs.Request.Readers.{SameReads, on_read}
use Rattle.seen_laws.proofs.Desks.{desk_on_same}
use Rattle.seen_laws.specs.Blocks.{EachPass, point_at}
use Rattle.seen_laws.specs.InEvent.{InEvent, IsReadOff, log_of, start_of}
use Rattle.seen_laws.specs.Unasked.{is_question, unhandled}
use Rattle.std.proofs.Common.{Bool, List, None, Option, Some, [], ap, arith, cond, eqb-true, false, map, not, refl, subst, sym, true, ℕ, ℤ, ◌++◌, ◌&&◌, ◌==◌, ◌∙◌, ◌∷◌, ◌≡◌}
use Rattle.std.specs.Prelude.{find, is_none, is_some, length, option_map, option_to_list}
use Rattle.tab_acts.proofs.Checks.{finished_beside, made_beside}
use Rattle.tab_acts.proofs.Events.{log_is, seen_room, two_act}
use Rattle.tab_acts.proofs.Left.{StaysTold, changes_kept, left_stands}
use Rattle.tab_acts.proofs.Readings.{core_same, found_read, hand_read}
use Rattle.tab_stands.proofs.Coming.{bare}
use Rattle.tab_doors.proofs.Sights.{IsSeen, seen_of, sight_of, sights_same, unseen_at}
use Rattle.tab_doors.specs.Look.{Sight, sight, sight_in}
use Rattle.tab_doors.specs.declared.tables.Tables.{Tables}
use Rattle.tab_facts.proofs.TabEvents.Left.{but_of, left_twice}
use Rattle.tab_facts.proofs.TabEvents.Rows.{finished_left, made_left}
use Rattle.tab_facts.proofs.TabEvents.Working.{fragment_made_between}
use Rattle.tab_facts.proofs.TabGoing.Counts.{as_many, count_same}
use Rattle.tab_facts.specs.TabGoing.Going.{count_of, has_ended}
use Rattle.tab_ids.specs.declared.DocId.{DocId}
use Rattle.tab_ids.specs.declared.NavId.{NavId}
use Rattle.tab_ids.specs.declared.ProcId.{ProcId}
use Rattle.tab_ids.specs.declared.ReqId.{ReqId}
use Rattle.tab_ids.specs.declared.StateId.{StateId}
use Rattle.tab_stands.proofs.EpochRows.{finished_under, made_under}
use Rattle.tab_stands.proofs.PassedOn.{finished_duly, row_checks, row_duly, unstood_by}
use Rattle.tab_stands.specs.PassedOn.{IsByItsOwn, IsOfItsLoad, IsSoundTask, LoadsMadeOwn, is_new_entry}
use Rattle.tab_stands.specs.Checked.{ChecksStand}
use Rattle.tab_stands.specs.Offs.{AreShownOnce}
use Rattle.tab_stands.specs.Standing.{HasActed, HasRoomFor, InCheck, LastsInLog, StandsFor, seen_start}
use Rattle.unasked.proofs.Readings.{found_from}
use Rattle.unasked.proofs.Works.{finished_seen, joined_seen}
use Rattle.tab_facts.proofs.TabWhole.Fragments.{IsToFragment}
use Rattle.tab_facts.proofs.TabWhole.Working.{in_hand_lives}
use Rattle.seen_facts.specs.Transit.Orders.{IsOutcomeOf}
use Rattle.log_model.specs.declared.made.What.TheVariants as whats
use Rattle.log_model.specs.declared.job.Task.TheVariants as tasks
use Rattle.log_model.specs.declared.outcome.Outcome.TheVariants as outcomes
use Rattle.log_model.specs.declared.request.Request.TheVariants as requests
use Rattle.log_model.specs.declared.row_kind.Actor.TheVariants as actors
use Rattle.log_model.specs.declared.row_kind.RowKind.TheVariants as rows

some_same : {A : Type 0} {a b : A} → (let o : Option A = Some a in o) ≡ Some b → a ≡ b
some_same e = cc

-- what it makes is a new entry
fragment_new : (view : View) (mode : Mode) (address : List ℕ) → is_new_entry (fragment_of view mode address) ≡ true
fragment_new view mode address = by_push (not (is_fragment_replace view mode address))
  where
    by_push : (b : Bool) → is_new_entry (new_entry view b None address) ≡ true
    by_push true = refl
    by_push false = refl

-- the load that waits: it has no outcome, and nothing was made of it
pub record IsOpenLoad (s : Seen) (req : ReqId) : Type 0 where
  pub q : Asked
  pub nav : NavId
  pub mode : Mode
  pub address : List ℕ
  pub is : IsUnmadeLoad s req q nav mode address

open_load : (s : Seen) (req : ReqId) (w : IsWaiting s req) → is_load w.q.what ≡ true → IsOpenLoad s req
open_load s req w load = by_what w.q.what refl load
  where
    two : (a b c : Bool) → ((a && b) && c) ≡ true → (a ≡ true) × (b ≡ true)
    two true true c is = (refl, refl)
    two true false c is = absurd cc
    two false b c is = absurd cc

    none_is : {A : Type 0} (o : Option A) → is_none o ≡ true → o ≡ None
    none_is None is = refl
    none_is (Some x) is = absurd cc

    parts : (is_none w.q.ending ≡ true) × (is_none w.q.made ≡ true)
    parts = two (is_none w.q.ending) (is_none w.q.made) (is_some w.q.fragment) w.waits

    by_what : (what : Request) → w.q.what ≡ what → is_load what ≡ true → IsOpenLoad s req
    by_what (requests.Load nav mode address) is load_ =
        record { q = w.q; nav = nav; mode = mode; address = address; is = record { asked = w.found; what = is; unmade = none_is w.q.made parts.1; unended = none_is w.q.ending parts.0 } }
    by_what (requests.Go delta) is never = absurd cc
    by_what (requests.Poke nav action) is never = absurd cc
    by_what (requests.Reload nav) is never = absurd cc

-- ---- the tables, of whatever the log has come to

module _ (s : Seen) (event : ℕ) (t : Tables) (queue : Queue) (blame : List (StateId × ReqId)) {check : InCheck} (stands : StandsFor check s t queue blame) (room : HasRoomFor s) (once : AreShownOnce s.places) (proc : ProcId) (order : Order) (req : ReqId) (mode : Mode) (address : List ℕ) (d : Document) (view : View) (to : IsToFragment s proc order req mode address d view) where
  abbrev half : Seen
  half = next s event (actors.Proc proc) (rows.Finished proc order.job.nr outcomes.Fragmented)

  abbrev made : Made
  made = made_for view req (fragment_of view mode address)

  abbrev n : Seen
  n = next half event (actors.Proc proc) (rows.Made proc (made_for view req (fragment_of view mode address)))

  pub load : IsOpenLoad s req
  load =
      let w : IsWaiting s req = in_hand_waits s stands.between.tab.fragments.once proc order req mode address to.in_hand to.task in
      open_load s req w (waiting_load s stands.between.tab.fragments req w)

  unheld : has_req s.parked req ≡ false
  unheld = unmade_unheld s req load.q load.nav load.mode load.address load.is stands.between.tab.known

  pub number : view.doc ≡ order.job.doc
  number =
      (stands.between.tab.docs.each order.job.doc d to.found).live.viewed view to.has ∙ ap (λ (i : ℕ). let x : DocId = record { 0 = i } in x) (its_number s.documents order.job.doc d to.found)

  -- ---- what is told of the documents

  abbrev done : Document → Document
  done x = cond (x.nr.0 == order.job.doc.0) (record x { view = view_finished x order.job.task }) x

  abbrev told_of : Document → Document
  told_of x = cond (x.nr.0 == view.doc.0) (record x { view = option_map (λ (v : View). after_made v made.what) x.view }) x

  half_documents : half.documents ≡ map done s.documents
  half_documents =
      ap (λ (o : Option Order). slot_finished (documents_finished s.documents (option_map (λ (x : Order). x.job) o)) (option_map (λ (x : Order). x.job) o) outcomes.Fragmented) to.in_hand

  sights : map sight n.documents ≡ map sight s.documents
  sights =
      sights_same told_of (unseen_at view.doc (λ (x : Document). record x { view = option_map (λ (v : View). after_made v made.what) x.view }) (λ x. refl)) half.documents
      ∙ ap (λ (l : List Document). map sight l) half_documents
      ∙ sights_same done (unseen_at order.job.doc (λ (x : Document). record x { view = view_finished x order.job.task }) (λ x. refl)) s.documents

  homes : (doc : DocId) (x : Document) → document_of s doc ≡ Some x → (new : Document) × (document_of n doc ≡ Some new) × (new.nav ≡ x.nav)
  homes doc x at =
      let seen : IsSeen n doc (sight x) = seen_of n doc (sight x) (ap (λ (l : List Sight). sight_in l doc) sights ∙ sight_of s doc x at) in
      (seen.document, seen.found, ap (λ (y : Sight). y.nav) seen.is)

  -- ---- the request

  abbrev found : Asked → Asked
  found q = record q { is_not_found = not (is_running s order.job.doc) }

  abbrev with_made : Asked → Asked
  with_made q = record q { made = Some made }

  half_requests : half.requests ≡ on_request req found s.requests
  half_requests = ap (λ (o : Option Order). requests_finished s o outcomes.Fragmented s.requests) to.in_hand ∙ by_task order.job.task to.task
    where
      by_task : (task : Task) → task ≡ tasks.DoFragment req mode address → requests_finished s (Some (record order { job = record order.job { task = task } })) outcomes.Fragmented s.requests ≡ on_request req found s.requests
      by_task task is = rw is refl

  requests_are : n.requests ≡ on_request req with_made (on_request req found s.requests)
  requests_are = ap (λ (l : List Asked). on_request req with_made l) half_requests

  ways : SameReads bare s.requests n.requests
  ways r =
      ap (λ (l : List Asked). option_map bare (request_in l r)) requests_are
      ∙ on_read bare (on_request req found s.requests) req with_made (λ q. refl) r
      ∙ on_read bare s.requests req found (λ q. refl) r

  changes : SameReads (λ (q : Asked). q.change) s.requests n.requests
  changes r =
      ap (λ (l : List Asked). option_map (λ (q : Asked). q.change) (request_in l r)) requests_are
      ∙ on_read (λ (q : Asked). q.change) (on_request req found s.requests) req with_made (λ q. refl) r
      ∙ on_read (λ (q : Asked). q.change) s.requests req found (λ q. refl) r

  same_count : (test : Asked → Bool) → ((q : Asked) → test (found q) ≡ test q) → ((q : Asked) → test (with_made q) ≡ test q) → count_of test n.requests ≡ count_of test s.requests
  same_count test first second =
      ap (λ (l : List Asked). count_of test l) requests_are
      ∙ count_same test (on_request req found s.requests) req with_made (λ q at. second q)
      ∙ count_same test s.requests req found (λ q at. first q)

  told : StaysTold s n
  told =
      record {
        sights = sights;
        ways = ways;
        changes = changes_kept s.requests n.requests changes;
        held = ap (λ (l : List Asked). held_back l s.parked) requests_are ∙ held_apart (on_request req found s.requests) s.parked req with_made unheld ∙ held_apart s.requests s.parked req found unheld;
        jobs = refl;
        states = refl;
        entries = refl;
        initial = refl;
        ended = (let same : count_of has_ended n.requests ≡ count_of has_ended s.requests = same_count has_ended (λ q. refl) (λ q. refl) in omega (arith, same));
        long = ap (λ (l : List Asked). length l) requests_are ∙ as_many (on_request req found s.requests) req with_made ∙ as_many s.requests req found;
        step = refl;
        unstood = λ off away. unstood_by half (record { event = event; actor = actors.Proc proc; row = rows.Made proc made }) refl away (unstood_by s (record { event = event; actor = actors.Proc proc; row = rows.Finished proc order.job.nr outcomes.Fragmented }) refl away off);
      }

  -- ---- what was made is the load's, by a document of its navigable

  -- the order is sound
  its_own : IsOfItsLoad s order.job.doc req
  its_own = by_task order.job.task to.task (its_order (desk_of s proc).in_hand to.in_hand (stands.lasts.sound proc).orders)
    where
      its_order : (o : Option Order) → o ≡ Some order → Each (λ (job : Job). IsSoundTask s job.doc job.task) (option_to_list (option_map (λ (x : Order). x.job) o) ++ (desk_of s proc).mail) → IsSoundTask s order.job.doc order.job.task
      its_order None never each = absurd cc
      its_order (Some x) is each = subst (λ (y : Order). IsSoundTask s y.job.doc y.job.task) (let same : x ≡ order = cc in same) each.0

      by_task : (task : Task) → task ≡ tasks.DoFragment req mode address → IsSoundTask s order.job.doc task → IsOfItsLoad s order.job.doc req
      by_task task is sound = subst (λ (k : Task). IsSoundTask s order.job.doc k) is sound

  theirs : LoadsMadeOwn n
  theirs r q was there load_ makes = by_test (r.0 == req.0) refl
    where
      by_test : (b : Bool) → (r.0 == req.0) ≡ b → IsByItsOwn n q was × (is_new_entry was.what ≡ true)
      by_test false apart =
          let old : request_in s.requests r ≡ Some q = sym (on_else s.requests req found r apart) ∙ sym (on_else (on_request req found s.requests) req with_made r apart) ∙ ap (λ (l : List Asked). request_in l r) (sym requests_are) ∙ there in
          let its = stands.lasts.made r q was old load_ makes in
          let x = homes was.doc its.0.d its.0.found in
          (record { d = x.0; found = x.1; nav_is = its.0.nav_is ∙ ap (λ (y : NavId). let o : Option NavId = Some y in o) (sym x.2) }, its.1)
      by_test true same =
          let one : r ≡ req = ap (λ (i : ℕ). let x : ReqId = record { 0 = i } in x) (eqb-true r.0 req.0 same) in
          let is : with_made (found its_own.q) ≡ q = some_same (sym (on_itself (on_request req found s.requests) req with_made ∙ ap (λ (o : Option Asked). option_map with_made o) (on_itself s.requests req found ∙ ap (λ (o : Option Asked). option_map found o) its_own.found)) ∙ ap (λ (l : List Asked). request_in l req) (sym requests_are) ∙ ap (λ (x : ReqId). request_in n.requests x) (sym one) ∙ there) in
          let made_is : made ≡ was = some_same (ap (λ (x : Asked). x.made) is ∙ makes) in
          let x = homes order.job.doc its_own.d its_own.there in (
            record {
              d = x.0;
              found = ap (λ (m : Made). document_of n m.doc) (sym made_is) ∙ ap (λ (i : DocId). document_of n i) number ∙ x.1;
              nav_is = ap (λ (y : Asked). nav_of_request y.what) (sym is) ∙ its_own.its ∙ ap (λ (y : NavId). let o : Option NavId = Some y in o) (sym x.2);
            },
            ap (λ (m : Made). is_new_entry m.what) (sym made_is) ∙ fragment_new view mode address,
          )

  -- ---- all of it

  half_lasting : AreLasting half
  half_lasting =
      finished_lasting s event (actors.Proc proc) stands.lasts.lasting stands.between.tab.desks proc order outcomes.Fragmented

  -- its document is as it was in between
  done_nr : (x : Document) → (done x).nr.0 ≡ x.nr.0
  done_nr x = elim (x.nr.0 == order.job.doc.0) as (λ b. (let y : Document = cond b (record x { view = view_finished x order.job.task }) x in y).nr.0 ≡ x.nr.0) [ true ↦ refl | false ↦ refl ]

  done_is : done d ≡ d
  done_is = by_test (d.nr.0 == order.job.doc.0)
    where
      by_test : (b : Bool) → (let y : Document = cond b (record d { view = view_finished d order.job.task }) d in y) ≡ d
      by_test true = rw to.task refl
      by_test false = refl

  half_found : document_of half view.doc ≡ Some d
  half_found =
      ap (λ (i : DocId). document_of half i) number
      ∙ ap (λ (l : List Document). find (λ (x : Document). x.nr.0 == order.job.doc.0) l) half_documents
      ∙ find_map (λ (x : Document). x.nr.0) done order.job.doc.0 s.documents done_nr
      ∙ ap (λ (o : Option Document). option_map done o) to.found
      ∙ ap (λ (x : Document). let o : Option Document = Some x in o) done_is

  -- it is no traversal
  goes : (q : Asked) (delta : ℤ) → request_of half req ≡ Some q → delta_of q.what ≡ Some delta → made.what ≡ whats.Go delta
  goes q delta at asks =
      let is : found load.q ≡ q = some_same (sym (on_itself s.requests req found ∙ ap (λ (o : Option Asked). option_map found o) load.is.asked) ∙ ap (λ (l : List Asked). request_in l req) (sym half_requests) ∙ at) in
      let never : None ≡ Some delta = ap delta_of (sym load.is.what) ∙ ap (λ (x : Asked). delta_of x.what) is ∙ asks in absurd cc

  lasting : AreLasting n
  lasting = made_lasting half event (actors.Proc proc) half_lasting proc made d view half_found to.has to.runs refl goes

  pub fragment_stands : StandsFor check (next (next s event (actors.Proc proc) (rows.Finished proc order.job.nr outcomes.Fragmented)) event (actors.Proc proc) (rows.Made proc (made_for view req (fragment_of view mode address)))) t queue blame
  fragment_stands =
      left_stands s t queue blame stands room n
      (but_of t.running s n (left_twice t.running s half n (finished_left t.running s event (actors.Proc proc) proc order outcomes.Fragmented to.in_hand) (made_left t.running half event (actors.Proc proc) proc made)))
      told (fragment_made_between t.kept.keep t.running s event proc stands.between order req mode address d view to) lasting
      (λ F are. orders_after F half event (actors.Proc proc) (rows.Made proc made) tt (λ job is. cc) (orders_after F s event (actors.Proc proc) (rows.Finished proc order.job.nr outcomes.Fragmented) tt (λ job is. cc) are)) theirs
      (were_shown half event (actors.Proc proc) (were_shown s event (actors.Proc proc) stands.lasts.were (rows.Finished proc order.job.nr outcomes.Fragmented) tt) (rows.Made proc made) tt)
      once

  pub home : d.proc ≡ proc
  home =
      (in_hand_lives t.running s event proc stands.between.tab stands.between.flows order outcomes.Fragmented to.in_hand (subst (λ (k : Task). IsOutcomeOf k outcomes.Fragmented) (sym to.task) tt) tt).home d to.found

-- ---- the event, of the log itself

module _ (e : InEvent) (t : Tables) (queue : Queue) (blame : List (StateId × ReqId)) {check : InCheck} (stands : StandsFor check (seen_start e) t queue blame) (lasts : LastsInLog e.checking t.asking e.start) (asks : ChecksStand e.checking e.start t.checks) (room : HasRoomFor e.start) (proc : ProcId) (order : Order) (req : ReqId) (mode : Mode) (address : List ℕ) (d : Document) (view : View) (to : IsToFragment e.start proc order req mode address d view) where
  abbrev its_made : Made
  its_made = made_for view req (fragment_of view mode address)

  abbrev half_log : Seen
  half_log = next e.start e.event (actors.Proc proc) (rows.Finished proc order.job.nr outcomes.Fragmented)

  shown_once : AreShownOnce (seen_start e).places
  shown_once = once_of lasts.shows

  -- it is no question
  silent : is_question order.job.task ≡ false
  silent = ap (λ (k : Task). is_question k) to.task

  -- as it would be had nobody been asked
  seen_to : IsToFragment (seen_start e) proc order req mode address (unhandled d) view
  seen_to =
      record {
        in_hand = hand_read e.checking e.start proc order to.in_hand silent;
        task = to.task;
        found = found_read e.checking e.start order.job.doc d to.found;
        has = to.has;
        runs = to.runs;
      }

  in_hand : IsFragmentInHand e.start proc order req mode address d view
  in_hand =
      record {
        hand = to.in_hand;
        task = to.task;
        found = to.found;
        home = home (seen_start e) e.event t queue blame stands (seen_room e room) shown_once proc order req mode address (unhandled d) view seen_to;
        has = to.has;
        of = number (seen_start e) e.event t queue blame stands (seen_room e room) shown_once proc order req mode address (unhandled d) view seen_to;
        runs = to.runs;
      }

  -- the load that waits, of which nothing was made
  record IsUnmade : Type 0 where
    q : Asked
    found : request_of e.start req ≡ Some q
    unmade : q.made ≡ None

  its_load : IsUnmade
  its_load =
      let its = (load (seen_start e) e.event t queue blame stands (seen_room e room) shown_once proc order req mode address (unhandled d) view seen_to).is in
      let from = found_from e.checking e.start req _ its.asked in
      record {
        q = from.0;
        found = from.1;
        unmade = sym (ap (λ (c : Core). c.made) (core_same e.checking e.start from.0)) ∙ sym (ap (λ (x : Asked). x.made) from.2) ∙ its.unmade;
      }

  both_pass : EachPass (start_of e) ((let r : LogRow = record { event = e.event; actor = actors.Proc proc; row = rows.Finished proc order.job.nr outcomes.Fragmented } in r) ∷ (let r : LogRow = record { event = e.event; actor = actors.Proc proc; row = rows.Made proc (made_for view req (fragment_of view mode address)) } in r) ∷ []) []
  both_pass = fragment_event_passes e.header e.start e.event proc order req mode address d view in_hand its_load.q its_load.found its_load.unmade

  fragment_lasts : LastsInLog e.checking t.asking (next half_log e.event (actors.Proc proc) (rows.Made proc (made_for view req (fragment_of view mode address))))
  fragment_lasts =
      record {
        checks =
            row_checks e.checking half_log (record { event = e.event; actor = actors.Proc proc; row = rows.Made proc its_made }) tt tt
            (row_checks e.checking e.start (record { event = e.event; actor = actors.Proc proc; row = rows.Finished proc order.job.nr outcomes.Fragmented }) tt tt lasts.checks);
        asking =
            row_asking e.checking half_log e.event (actors.Proc proc) t.asking (row_asking e.checking e.start e.event (actors.Proc proc) t.asking lasts.asking (rows.Finished proc order.job.nr outcomes.Fragmented) tt) (rows.Made proc its_made) tt;
        shows = made_under half_log e.event (actors.Proc proc) proc its_made (finished_under e.start e.event (actors.Proc proc) proc order.job.nr outcomes.Fragmented lasts.shows);
        duly = row_duly half_log e.event (actors.Proc proc) (finished_duly e.start e.event (actors.Proc proc) lasts.duly proc order outcomes.Fragmented to.in_hand (λ slot is. cc)) (rows.Made proc its_made) tt;
        known =
            known_on half_log (record { event = e.event; actor = actors.Proc proc; row = rows.Made proc its_made }) tt tt tt tt
            (known_passed e.header (point_at (start_of e) ((let r : LogRow = record { event = e.event; actor = actors.Proc proc; row = rows.Made proc its_made } in r) ∷ [])) (record { event = e.event; actor = actors.Proc proc; row = rows.Finished proc order.job.nr outcomes.Fragmented }) both_pass.0 tt lasts.known);
      }

  pub fragment_acts : e.before ≡ [] → e.actor ≡ actors.Proc proc → e.own ≡ rows.Finished proc order.job.nr outcomes.Fragmented → HasActed check e (rows.Made proc (made_for view req (fragment_of view mode address)) ∷ []) t queue blame
  fragment_acts uncut by own =
      two_act e (actors.Proc proc) (rows.Finished proc order.job.nr outcomes.Fragmented) by own uncut (rows.Finished proc order.job.nr outcomes.Fragmented)
      (finished_seen e.checking e.start e.event (actors.Proc proc) proc order.job.nr outcomes.Fragmented order to.in_hand silent)
      (rows.Made proc its_made) joined
      t queue blame
      (fragment_stands (seen_start e) e.event t queue blame stands (seen_room e room) shown_once proc order req mode address (unhandled d) view seen_to)
      fragment_lasts
      (finished_beside e.start e.event (actors.Proc proc) proc order.job.nr outcomes.Fragmented tt)
      (made_beside half_log e.event (actors.Proc proc) proc its_made)
      asks
      both_pass
    where
      first_is : log_of e [] ≡ half_log
      first_is = log_is e (actors.Proc proc) (rows.Finished proc order.job.nr outcomes.Fragmented) by own uncut

      reports_then : (desk_of half_log proc).reports ≡ (desk_of e.start proc).reports ++ reports.Done order.job outcomes.Fragmented None ∷ []
      reports_then =
          ap (λ (desk : Desk). desk.reports) (desk_on_same (desk_finished outcomes.Fragmented) e.start.desks proc (λ desk. refl))
          ∙ ap (λ (o : Option Order). (desk_finished outcomes.Fragmented (record (desk_of e.start proc) { in_hand = o })).reports) to.in_hand

      -- what was made joins the report of the order
      joined : IsReadOff e [] (rows.Made proc its_made)
      joined =
          joined_seen e.checking (log_of e []) e.event e.actor proc its_made (desk_of e.start proc).reports order.job outcomes.Fragmented None
          (ap (λ (x : Seen). x.events) first_is)
          (ap (λ (x : Seen). x.just_finished) first_is ∙ ap (λ (o : Option Order). option_map (λ (x : Order). x.job) o) to.in_hand)
          (ap (λ (x : Seen). (desk_of x proc).reports) first_is ∙ reports_then)
          silent
