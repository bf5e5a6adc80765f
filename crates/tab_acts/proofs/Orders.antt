-- A process takes up an order, or finishes one that is no fragment order, either of which is no question: the coordinator has acted, which does nothing itself, whoever is in a check.
use Rattle.tab_doors.proofs.AskingLoads.{row_asking}
use Rattle.asking_facts.proofs.Passed.{known_on, known_passed}
use Rattle.tab_stands.proofs.Logged.{once_of}
use Rattle.seen_facts.proofs.Coord.Unread.{next}
use Rattle.seen_facts.specs.Coord.Leading.{held_back}
use Rattle.seen_facts.proofs.Doc.Works.{HasNoSlot}
use Rattle.seen_facts.specs.Each.Items.{Each}
use Rattle.seen_facts.specs.Hang.Members.{Has}
use Rattle.tab_facts.proofs.Last.Rows.{finished_lasting, taken_lasting}
use Rattle.row_facts.proofs.Left.Rows.{were_shown}
use Rattle.seen_facts.proofs.LoadWhereabouts.Trips.{IsNoFragment}
use Rattle.log_model.specs.AfterDocuments.{documents_finished, slot_finished, view_finished}
use Rattle.log_model.specs.AfterRequests.{requests_finished}
use Rattle.log_model.specs.Equal.{holds}
use Rattle.log_model.specs.Formed.{is_followed_duly}
use Rattle.log_model.specs.Outcomes.{is_outcome_of}
use Rattle.log_model.specs.Seen.{Asked, Desk, Document, Seen, desk_of, document_of, request_in}
use Rattle.log_model.specs.Suits.{is_slotted}
use Rattle.log_model.specs.Views.{View}
use Rattle.log_model.specs.declared.job.Job.{Job}
use Rattle.log_model.specs.declared.job.Order.{Order}
use Rattle.log_model.specs.declared.job.Task.{Task}
use Rattle.log_model.specs.declared.outcome.Outcome.{Outcome}
use Rattle.log_model.proofs.Refl.{nat_eq_refl}
use Rattle.move_queue.specs.Queue.{Queue}
use Rattle.tab_facts.proofs.Order.Rows.{orders_after}
use Rattle.seen_facts.proofs.Rest.Still.{found_itself}
use Rattle.seen_laws.proofs.Processes.{taken_passes}
use Rattle.seen_laws.specs.InEvent.{InEvent}
use Rattle.seen_laws.specs.Unasked.{is_question, without_slot}
use Rattle.seen_laws.specs.Blocks.{Passes}
use Rattle.std.proofs.Common.{Bool, List, None, Option, Some, [], ap, arith, cond, false, inl, inr, length, map, refl, subst, sym, true, ℕ, ◌++◌, ◌==◌, ◌∙◌, ◌∷◌, ◌≡◌, ◌≤◌}
use Rattle.std.proofs.lemmas.List.{map-id}
use Rattle.std.specs.Prelude.{option_map, option_to_list, slice_get}
use Rattle.tab_acts.proofs.Checks.{finished_beside, taken_beside}
use Rattle.tab_acts.proofs.Events.{alone_acts, seen_room}
use Rattle.tab_acts.proofs.Left.{StaysTold, changes_kept, left_stands}
use Rattle.tab_acts.proofs.Readings.{free_read, hand_read, mail_read}
use Rattle.tab_stands.proofs.Coming.{bare as as_read}
use Rattle.tab_doors.proofs.Sights.{IsSeen, seen_of, sight_of, sights_same, unseen_at}
use Rattle.tab_doors.specs.Look.{Sight, sight, sight_in}
use Rattle.tab_doors.specs.declared.tables.Tables.{Tables}
use Rattle.tab_facts.proofs.TabEvents.Left.{IsLeft, but_of, keeps_all}
use Rattle.tab_facts.proofs.TabEvents.Ordered.{taken_orders}
use Rattle.tab_facts.proofs.TabEvents.Requests.{same_left}
use Rattle.tab_facts.proofs.TabEvents.Rows.{finished_left}
use Rattle.tab_facts.proofs.TabEvents.Working.{finished_between, taken_between}
use Rattle.tab_facts.specs.TabGoing.Going.{count_of, has_ended}
use Rattle.tab_ids.specs.declared.DocId.{DocId}
use Rattle.tab_ids.specs.declared.NavId.{NavId}
use Rattle.tab_ids.specs.declared.ProcId.{ProcId}
use Rattle.tab_ids.specs.declared.ReqId.{ReqId}
use Rattle.tab_ids.specs.declared.StateId.{StateId}
use Rattle.tab_stands.proofs.EpochRows.{finished_under, taken_under}
use Rattle.tab_stands.proofs.PassedOn.{finished_duly, is_made, row_checks, row_duly, unstood_by}
use Rattle.tab_stands.specs.PassedOn.{IsSoundTask, LoadsMadeOwn}
use Rattle.tab_stands.specs.Checked.{ChecksStand}
use Rattle.tab_stands.specs.Offs.{AreShownOnce}
use Rattle.tab_stands.specs.Standing.{HasActed, HasRoomFor, InCheck, LastsInLog, StandsFor, seen_start}
use Rattle.tab_facts.proofs.TabWhole.Working.{taken_lives, unready}
use Rattle.check_facts.specs.Rows.{IsNoAnswerOf}
use Rattle.seen_facts.specs.Transit.Orders.{IsOutcomeOf}
use Rattle.unasked.proofs.Events.{taken_seen}
use Rattle.unasked.proofs.Readings.{desk_read, tested_read}
use Rattle.unasked.proofs.Works.{finished_seen}
use Rattle.log_model.specs.declared.job.Task.TheVariants as tasks
use Rattle.log_model.specs.declared.outcome.Outcome.TheVariants as outcomes
use Rattle.log_model.specs.declared.row_kind.Actor.TheVariants as actors
use Rattle.log_model.specs.declared.row_kind.RowKind.TheVariants as rows

-- what was made of loads is as it was, where requests and the documents' navigables are
pub theirs_same : (s n : Seen) → n.requests ≡ s.requests → ((doc : DocId) (d : Document) → document_of s doc ≡ Some d → (new : Document) × (document_of n doc ≡ Some new) × (new.nav ≡ d.nav)) → LoadsMadeOwn s → LoadsMadeOwn n
theirs_same s n same homes theirs req q made found load makes =
    let its = theirs req q made (ap (λ (l : List Asked). request_in l req) (sym same) ∙ found) load makes in
    let d = homes made.doc its.0.d its.0.found in
    (record { d = d.0; found = d.1; nav_is = its.0.nav_is ∙ ap (λ (x : NavId). let o : Option NavId = Some x in o) (sym d.2) }, its.1)

-- ---- the tables, of whatever the log has come to

module _ (s : Seen) (event : ℕ) (t : Tables) (queue : Queue) (blame : List (StateId × ReqId)) {check : InCheck} (stands : StandsFor check s t queue blame) (room : HasRoomFor s) (once : AreShownOnce s.places) (proc : ProcId) where
  -- ---- an order is taken up

  module _ (job : Job) (dirty : Bool) (free : (desk_of s proc).in_hand ≡ None) (first : slice_get (desk_of s proc).mail 0 ≡ Some job) where
    abbrev took : Seen
    took = next s event (actors.Proc proc) (rows.Taken proc job.nr true dirty)

    took_left : IsLeft t.running s took
    took_left =
        record { g = λ x. x; keeps = keeps_all; documents = sym (map-id s.documents); asked = same_left t.running s.requests took.requests (λ r. refl); history = refl; places = refl; kept = refl; joined = refl; parked = refl; orders = λ go. taken_orders proc dirty s.desks job first }

    took_told : StaysTold s took
    took_told =
        record { sights = refl; ways = λ r. refl; changes = changes_kept s.requests took.requests (λ r. refl); held = refl; jobs = refl; states = refl; entries = refl; initial = refl; ended = omega arith; long = refl; step = refl; unstood = λ off away. unstood_by s (record { event = event; actor = actors.Proc proc; row = rows.Taken proc job.nr true dirty }) refl away off }

    pub taken_stands : StandsFor check (next s event (actors.Proc proc) (rows.Taken proc job.nr true dirty)) t queue blame
    taken_stands =
        left_stands s t queue blame stands room took (but_of t.running s took took_left) took_told (taken_between t.kept.keep t.running s event proc stands.between job dirty free first) (taken_lasting s event (actors.Proc proc) stands.lasts.lasting proc job dirty)
        (λ F. orders_after F s event (actors.Proc proc) (rows.Taken proc job.nr true dirty) tt (λ x is. cc))
        (theirs_same s took refl (λ doc d found. (d, found, refl)) stands.lasts.made)
        (were_shown s event (actors.Proc proc) stands.lasts.were (rows.Taken proc job.nr true dirty) tt)
        once

  -- ---- an order is finished

  module _ (order : Order) (outcome : Outcome) (hand : (desk_of s proc).in_hand ≡ Some order) (its : IsOutcomeOf order.job.task outcome) (bare : HasNoSlot outcome) (other : IsNoFragment order.job.task) where
    abbrev did : Seen
    did = next s event (actors.Proc proc) (rows.Finished proc order.job.nr outcome)

    -- nobody is asked
    asks_none : IsSoundTask s order.job.doc order.job.task
    asks_none = its_order (desk_of s proc).in_hand hand (stands.lasts.sound proc).orders
      where
        its_order : (o : Option Order) → o ≡ Some order → Each (λ (job : Job). IsSoundTask s job.doc job.task) (option_to_list (option_map (λ (x : Order). x.job) o) ++ (desk_of s proc).mail) → IsSoundTask s order.job.doc order.job.task
        its_order None never each = absurd cc
        its_order (Some x) is each = subst (λ (y : Order). IsSoundTask s y.job.doc y.job.task) (let same : x ≡ order = cc in same) each.0

    requests_same : did.requests ≡ s.requests
    requests_same =
        ap (λ (o : Option Order). requests_finished s o outcome s.requests) hand ∙ by_task order.job.task outcome its asks_none other
      where
        by_task : (task : Task) (o : Outcome) → IsOutcomeOf task o → IsSoundTask s order.job.doc task → IsNoFragment task → requests_finished s (Some order) o s.requests ≡ s.requests
        by_task (tasks.Populate nav state address initial) (outcomes.Populated slot) out none plain = refl
        by_task (tasks.Activate entry epoch long at memo address) outcomes.Activated out none plain = refl
        by_task (tasks.Update long at) outcomes.Updated out none plain = refl
        by_task tasks.Discard outcomes.Discarded out none plain = refl
        by_task tasks.Freeze outcomes.Frozen out none plain = refl
        by_task (tasks.Ask slot cause) o out never plain = absurd never
        by_task (tasks.DoFragment req mode address) o out none never = absurd never
        by_task _ _ out none plain = elim out [ ]

    -- ---- what is told of the documents

    did_left : IsLeft t.running s did
    did_left = finished_left t.running s event (actors.Proc proc) proc order outcome hand

    no_slots : (x : Document) → Has s.documents x → x.slot ≡ None
    no_slots x has =
        (stands.between.tab.docs.each x.nr x (found_itself s.documents x stands.between.tab.whose.numbered has)).live.slot

    abbrev done : Document → Document
    done x = cond (x.nr.0 == order.job.doc.0) (record x { view = view_finished x order.job.task }) x

    done_sights : map sight (map done s.documents) ≡ map sight s.documents
    done_sights =
        sights_same done (unseen_at order.job.doc (λ (x : Document). record x { view = view_finished x order.job.task }) (λ x. refl)) s.documents

    -- no document has a handler
    made_sights : (documents : List Document) → ((x : Document) → Has documents x → x.slot ≡ None) → map sight (map (λ (y : Document). cond (y.nr.0 == order.job.doc.0) (record y { slot = None }) y) (map done documents)) ≡ map sight documents
    made_sights [] none = refl
    made_sights (x ∷ documents) none =
        by_test (x.nr.0 == order.job.doc.0) refl (made_sights documents (λ y has. none y (inr has)))
      where
        rest : List Document
        rest = map (λ (y : Document). cond (y.nr.0 == order.job.doc.0) (record y { slot = None }) y) (map done documents)

        bare_sight : sight (record x { slot = None }) ≡ sight x
        bare_sight = ap (λ (o : Option ℕ). sight (record x { slot = o })) (sym (none x (inl refl)))

        by_test : (b : Bool) → (x.nr.0 == order.job.doc.0) ≡ b → map sight rest ≡ map sight documents → sight (let z : Document = (let y : Document = cond b (record x { view = view_finished x order.job.task }) x in cond (y.nr.0 == order.job.doc.0) (record y { slot = None }) y) in z) ∷ map sight rest ≡ sight x ∷ map sight documents
        by_test true e more = rw e (ap (λ (y : Sight). y ∷ map sight rest) bare_sight ∙ ap (λ (l : List Sight). sight x ∷ l) more)
        by_test false e more = rw e (ap (λ (l : List Sight). sight x ∷ l) more)

    sights_by : (o : Outcome) → HasNoSlot o → map sight (slot_finished (map done s.documents) (Some order.job) o) ≡ map sight s.documents
    sights_by (outcomes.Populated slot) none =
        ap (λ (n : Option ℕ). map sight (slot_finished (map done s.documents) (Some order.job) (outcomes.Populated n))) none ∙ made_sights s.documents no_slots
    sights_by outcomes.Activated none = done_sights
    sights_by outcomes.Updated none = done_sights
    sights_by outcomes.Frozen none = done_sights
    sights_by outcomes.Discarded none = done_sights
    sights_by (outcomes.Asked verdict) none = done_sights
    sights_by outcomes.Fragmented none = done_sights

    did_told : StaysTold s did
    did_told =
        record {
          sights = ap (λ (o : Option Order). map sight (slot_finished (documents_finished s.documents (option_map (λ (x : Order). x.job) o)) (option_map (λ (x : Order). x.job) o) outcome)) hand ∙ sights_by outcome bare;
          ways = λ r. ap (λ (l : List Asked). option_map as_read (request_in l r)) requests_same;
          changes = changes_kept s.requests did.requests (λ r. ap (λ (l : List Asked). option_map (λ (q : Asked). q.change) (request_in l r)) requests_same);
          held = ap (λ (l : List Asked). held_back l s.parked) requests_same;
          jobs = refl;
          states = refl;
          entries = refl;
          initial = refl;
          ended = subst (λ (l : List Asked). count_of has_ended s.requests ≤ count_of has_ended l) (sym requests_same) (omega arith);
          long = ap (λ (l : List Asked). length l) requests_same;
          step = refl;
          unstood = λ off away. unstood_by s (record { event = event; actor = actors.Proc proc; row = rows.Finished proc order.job.nr outcome }) refl away off;
        }

    homes : (doc : DocId) (d : Document) → document_of s doc ≡ Some d → (new : Document) × (document_of did doc ≡ Some new) × (new.nav ≡ d.nav)
    homes doc d found =
        let seen : IsSeen did doc (sight d) = seen_of did doc (sight d) (ap (λ (l : List Sight). sight_in l doc) did_told.sights ∙ sight_of s doc d found) in
        (seen.document, seen.found, ap (λ (x : Sight). x.nav) seen.is)

    -- where it makes a document, this isn't made yet
    pub unmade : (slot : Option ℕ) → outcome ≡ outcomes.Populated slot → is_made s.documents order.job.doc ≡ false
    unmade slot is = by_task order.job.task refl (subst (λ (o : Outcome). IsOutcomeOf order.job.task o) is its)
      where
        by_found : (o : Option Document) → document_of s order.job.doc ≡ o → ((x : Document) → document_of s order.job.doc ≡ Some x → x.is_ready ≡ false) → holds (λ (x : Document). x.is_ready) o ≡ false
        by_found None found none = refl
        by_found (Some x) found none = none x found

        by_task : (task : Task) → order.job.task ≡ task → IsOutcomeOf task (outcomes.Populated slot) → is_made s.documents order.job.doc ≡ false
        by_task (tasks.Populate nav state address initial) task out =
            by_found (document_of s order.job.doc) refl (λ x found. unready t.running s event proc stands.between.tab stands.between.flows order outcome hand its bare (tasks.Populate nav state address initial) task x found)
        by_task _ task out = elim out [ ]

    pub finished_stands : StandsFor check (next s event (actors.Proc proc) (rows.Finished proc order.job.nr outcome)) t queue blame
    finished_stands =
        left_stands s t queue blame stands room did (but_of t.running s did did_left) did_told (finished_between t.kept.keep t.running s event proc stands.between order outcome hand its bare other)
        (finished_lasting s event (actors.Proc proc) stands.lasts.lasting stands.between.tab.desks proc order outcome)
        (λ F. orders_after F s event (actors.Proc proc) (rows.Finished proc order.job.nr outcome) tt (λ x is. cc))
        (theirs_same s did requests_same homes stands.lasts.made)
        (were_shown s event (actors.Proc proc) stands.lasts.were (rows.Finished proc order.job.nr outcome) tt)
        once

-- ---- the event, of the log itself

-- an outcome without a handler is one of its task
with_bare : (task : Task) (o : Outcome) → IsOutcomeOf task o → IsOutcomeOf task (without_slot o)
with_bare (tasks.Populate nav state address initial) (outcomes.Populated slot) its = tt
with_bare (tasks.Activate entry epoch long at memo address) outcomes.Activated its = tt
with_bare (tasks.Update long at) outcomes.Updated its = tt
with_bare tasks.Discard outcomes.Discarded its = tt
with_bare tasks.Freeze outcomes.Frozen its = tt
with_bare (tasks.Ask slot cause) (outcomes.Asked verdict) its = tt
with_bare (tasks.DoFragment req mode address) outcomes.Fragmented its = tt
with_bare _ _ its = elim its [ ]

none_slotted : (o : Outcome) → HasNoSlot (without_slot o)
none_slotted (outcomes.Populated slot) = refl
none_slotted outcomes.Activated = tt
none_slotted outcomes.Updated = tt
none_slotted outcomes.Frozen = tt
none_slotted outcomes.Discarded = tt
none_slotted outcomes.Fragmented = tt
none_slotted (outcomes.Asked verdict) = tt

-- one of a task that is no question is no answer
pub no_answer_of : (task : Task) (o : Outcome) → IsOutcomeOf task o → is_question task ≡ false → IsNoAnswerOf o
no_answer_of (tasks.Populate nav state address initial) (outcomes.Populated slot) its silent = tt
no_answer_of (tasks.Activate entry epoch long at memo address) outcomes.Activated its silent = tt
no_answer_of (tasks.Update long at) outcomes.Updated its silent = tt
no_answer_of tasks.Discard outcomes.Discarded its silent = tt
no_answer_of tasks.Freeze outcomes.Frozen its silent = tt
no_answer_of (tasks.Ask slot cause) (outcomes.Asked verdict) its never = absurd cc
no_answer_of (tasks.DoFragment req mode address) outcomes.Fragmented its silent = tt
no_answer_of _ _ its silent = elim its [ ]

module _ (e : InEvent) (t : Tables) (queue : Queue) (blame : List (StateId × ReqId)) {check : InCheck} (stands : StandsFor check (seen_start e) t queue blame) (lasts : LastsInLog e.checking t.asking e.start) (asks : ChecksStand e.checking e.start t.checks) (room : HasRoomFor e.start) (proc : ProcId) where
  shown_once : AreShownOnce (seen_start e).places
  shown_once = once_of lasts.shows

  -- ---- an order is taken up, which is no question

  module _ (job : Job) (dirty : Bool) (free : (desk_of e.start proc).in_hand ≡ None) (first : slice_get (desk_of e.start proc).mail 0 ≡ Some job) (silent : is_question job.task ≡ false) where
    abbrev seen_free : (desk_of (seen_start e) proc).in_hand ≡ None
    seen_free = free_read e.checking e.start proc free

    abbrev seen_first : slice_get (desk_of (seen_start e) proc).mail 0 ≡ Some job
    seen_first = mail_read e.checking e.start proc job first silent

    taken_lasts : LastsInLog e.checking t.asking (next e.start e.event (actors.Proc proc) (rows.Taken proc job.nr true dirty))
    taken_lasts =
        record {
          checks = row_checks e.checking e.start (record { event = e.event; actor = actors.Proc proc; row = rows.Taken proc job.nr true dirty }) tt tt lasts.checks;
          asking = row_asking e.checking e.start e.event (actors.Proc proc) t.asking lasts.asking (rows.Taken proc job.nr true dirty) tt;
          shows = taken_under e.start e.event (actors.Proc proc) proc job.nr true dirty lasts.shows;
          duly = row_duly e.start e.event (actors.Proc proc) lasts.duly (rows.Taken proc job.nr true dirty) tt;
          known = known_on e.start (record { event = e.event; actor = actors.Proc proc; row = rows.Taken proc job.nr true dirty }) tt tt tt tt lasts.known;
        }

    -- nobody has died
    lives : (job.incarnation == length (desk_of e.start proc).killed) ≡ true
    lives =
        ap (λ (desk : Desk). job.incarnation == length desk.killed) (sym (desk_read e.checking e.start proc))
        ∙ taken_lives t.running (seen_start e) e.event proc stands.between.tab stands.between.flows job dirty seen_free seen_first

    pub taken_acts : (uncut : e.before ≡ []) (by : e.actor ≡ actors.Proc proc) (event : e.event ≡ e.start.events) (is_dirty : dirty ≡ holds (λ (d : Document). holds (λ (view : View). view.dirty) d.view) (document_of e.start job.doc)) (own : e.own ≡ rows.Taken proc job.nr true dirty) → HasActed check e [] t queue blame
    taken_acts uncut by event is_dirty own =
        alone_acts e (actors.Proc proc) (rows.Taken proc job.nr true dirty) by own uncut (rows.Taken proc job.nr true dirty)
        (taken_seen e.checking e.start e.event (actors.Proc proc) proc job.nr true dirty job first silent)
        t queue blame
        (taken_stands (seen_start e) e.event t queue blame stands (seen_room e room) shown_once proc job dirty seen_free seen_first)
        taken_lasts (taken_beside e.start e.event (actors.Proc proc) proc job.nr true dirty) asks
        (subst (λ (b : Bool). Passes e.header (record { start = e.start; now = e.start; done = []; later = [] }) (record { event = e.event; actor = actors.Proc proc; row = rows.Taken proc job.nr true b })) (sym is_dirty)
        (taken_passes e.header e.start e.event proc job free first lives))

  -- ---- an order is finished, which is no question and no fragment order

  module _ (order : Order) (outcome : Outcome) (hand : (desk_of e.start proc).in_hand ≡ Some order) (its : IsOutcomeOf order.job.task outcome) (silent : is_question order.job.task ≡ false) (other : IsNoFragment order.job.task) where
    abbrev seen_hand : (desk_of (seen_start e) proc).in_hand ≡ Some order
    seen_hand = hand_read e.checking e.start proc order hand silent

    -- where it makes a document, this isn't made yet
    unmade_log : (slot : Option ℕ) → outcome ≡ outcomes.Populated slot → is_made e.start.documents order.job.doc ≡ false
    unmade_log slot is =
        sym (tested_read e.checking e.start (λ (d : Document). d.is_ready) (λ d. refl) order.job.doc)
        ∙ unmade (seen_start e) e.event t queue blame stands (seen_room e room) shown_once proc order (without_slot outcome) seen_hand (with_bare order.job.task outcome its) (none_slotted outcome) other None (ap (λ (o : Outcome). without_slot o) is)

    -- what a task asks of the row
    record IsFinishedDuly (task : Task) (o : Outcome) : Type 0 where
      outcome_of : is_outcome_of task o ≡ true
      followed : is_followed_duly e.start order.job task [] ≡ true

    duly : (task : Task) (o : Outcome) → IsOutcomeOf task o → is_question task ≡ false → IsNoFragment task → IsFinishedDuly task o
    duly (tasks.Update long at) outcomes.Updated out quiet plain = record { outcome_of = refl; followed = refl }
    duly tasks.Discard outcomes.Discarded out quiet plain = record { outcome_of = refl; followed = refl }
    duly tasks.Freeze outcomes.Frozen out quiet plain = record { outcome_of = refl; followed = refl }
    duly (tasks.Activate entry epoch long at memo address) outcomes.Activated out quiet plain = record { outcome_of = refl; followed = refl }
    duly (tasks.Populate nav state address initial) (outcomes.Populated slot) out quiet plain = record { outcome_of = refl; followed = refl }
    duly (tasks.Ask slot cause) o out never plain = absurd cc
    duly (tasks.DoFragment req mode address) o out quiet never = absurd never
    duly _ _ out quiet plain = elim out [ ]

    -- it passes, where a document that was made has the handler of its page
    finished_passes : is_slotted e.header order.job.task outcome ≡ true → Passes e.header (record { start = e.start; now = e.start; done = []; later = [] }) (record { event = e.event; actor = actors.Proc proc; row = rows.Finished proc order.job.nr outcome })
    finished_passes slotted =
        let done_ : IsFinishedDuly order.job.task outcome = duly order.job.task outcome its silent other in
        record {
          formed = rw (nat_eq_refl proc.0, hand) (rw (nat_eq_refl order.job.nr.0, done_.outcome_of, done_.followed) refl);
          once = refl;
          caused = refl;
          queued = refl;
          ordered = refl;
          checked = refl;
          in_time = refl;
          suits = rw hand slotted;
        }

    finished_lasts : is_slotted e.header order.job.task outcome ≡ true → LastsInLog e.checking t.asking (next e.start e.event (actors.Proc proc) (rows.Finished proc order.job.nr outcome))
    finished_lasts slotted =
        record {
          checks = row_checks e.checking e.start (record { event = e.event; actor = actors.Proc proc; row = rows.Finished proc order.job.nr outcome }) tt tt lasts.checks;
          asking = row_asking e.checking e.start e.event (actors.Proc proc) t.asking lasts.asking (rows.Finished proc order.job.nr outcome) tt;
          shows = finished_under e.start e.event (actors.Proc proc) proc order.job.nr outcome lasts.shows;
          duly = finished_duly e.start e.event (actors.Proc proc) lasts.duly proc order outcome hand unmade_log;
          known = known_passed e.header (record { start = e.start; now = e.start; done = []; later = [] }) (record { event = e.event; actor = actors.Proc proc; row = rows.Finished proc order.job.nr outcome }) (finished_passes slotted) tt lasts.known;
        }

    pub finished_acts : is_slotted e.header order.job.task outcome ≡ true → e.before ≡ [] → e.actor ≡ actors.Proc proc → e.own ≡ rows.Finished proc order.job.nr outcome → HasActed check e [] t queue blame
    finished_acts slotted uncut by own =
        alone_acts e (actors.Proc proc) (rows.Finished proc order.job.nr outcome) by own uncut (rows.Finished proc order.job.nr (without_slot outcome))
        (finished_seen e.checking e.start e.event (actors.Proc proc) proc order.job.nr outcome order hand silent)
        t queue blame
        (finished_stands (seen_start e) e.event t queue blame stands (seen_room e room) shown_once proc order (without_slot outcome) seen_hand (with_bare order.job.task outcome its) (none_slotted outcome) other)
        (finished_lasts slotted) (finished_beside e.start e.event (actors.Proc proc) proc order.job.nr outcome (no_answer_of order.job.task outcome its silent)) asks (finished_passes slotted)
