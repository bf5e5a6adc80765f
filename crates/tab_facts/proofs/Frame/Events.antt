-- What lasts is there as the tab opens, and stays over the rows of users and processes.
use Rattle.seen_facts.proofs.Coord.Unread.{accepted_left, next}
use Rattle.tab_facts.proofs.Frame.Naming.{acted_names, delivered_names, finished_names, left_names, taken_names}
use Rattle.tab_facts.proofs.Frame.Orders.{KeepsRuns, if_runs, mapped_lasting, on_takers, or_takers, quiet_lasting, run_shown, same_runs, unmade_runs, wish_blind}
use Rattle.tab_facts.proofs.Frame.Parts.{TakersWere, WasIn, lasting_on, names_map, pokes_map, single_map, sole_map, some_same, takers_same, was_in}
use Rattle.tab_facts.specs.Frame.Lasting.{IsKeptUnmade, IsLasting, IsMadeShown, IsOfItsNav, IsRunShown, NameTheirStates, PokesItsNav, Wish, wish}
use Rattle.tab_facts.specs.FrameTab.Alive.{AreThere}
use Rattle.log_model.specs.After.{new_request}
use Rattle.log_model.specs.AfterDocuments.{documents_delivered, documents_finished, opening_document, slot_finished, view_finished}
use Rattle.log_model.specs.AfterPlaces.{is_dead_by, on_place, opening_place, place_arrived, places_delivered}
use Rattle.log_model.specs.Seen.{Asked, Desk, Document, Place, Seen, desk_of, document_of, empty_desk, nothing, request_in, request_of}
use Rattle.log_model.specs.Views.{View, after_made, after_task}
use Rattle.log_model.specs.declared.job.Job.{Job}
use Rattle.log_model.specs.declared.job.Order.{Order}
use Rattle.log_model.specs.declared.job.Task.{Task}
use Rattle.log_model.specs.declared.made.Made.{Made}
use Rattle.log_model.specs.declared.made.Report.{Report}
use Rattle.log_model.specs.declared.outcome.Outcome.{Outcome}
use Rattle.log_model.specs.declared.request.Request.{Request}
use Rattle.log_model.specs.declared.row_kind.Actor.{Actor}
use Rattle.seen_facts.proofs.Each.Runs.{each_asked_more, each_asked_on}
use Rattle.log_model.specs.History.{has_row}
use Rattle.log_model.specs.declared.made.What.{What}
use Rattle.log_model.specs.declared.made.What.TheVariants as whats
use Rattle.seen_facts.proofs.Request.Readers.{delivered_reads, finished_reads}
use Rattle.std.proofs.Common.{Bool, List, None, Option, Some, [], ap, arith, cond, false, inl, length, map, refl, subst, sym, true, ℕ, ◌+◌, ◌==◌, ◌∙◌, ◌∷◌, ◌≡◌, ◌≤◌}
use Rattle.std.specs.Prelude.{option_map, slice_get}
use Rattle.tab_ids.specs.declared.DocId.{DocId}
use Rattle.tab_ids.specs.declared.EntryId.{EntryId}
use Rattle.tab_ids.specs.declared.Epoch.{Epoch}
use Rattle.tab_ids.specs.declared.NavId.{NavId}
use Rattle.tab_ids.specs.declared.ProcId.{ProcId}
use Rattle.tab_ids.specs.declared.ReqId.{ReqId}
use Rattle.tab_ids.specs.declared.StateId.{StateId}
use Rattle.log_model.specs.declared.job.Task.TheVariants as tasks
use Rattle.log_model.specs.declared.made.Report.TheVariants as reports
use Rattle.log_model.specs.declared.outcome.Outcome.TheVariants as outcomes
use Rattle.log_model.specs.declared.row_kind.RowKind.TheVariants as rows

-- ---- a report is delivered

ready_runs : (job : Job) → KeepsRuns (λ (x : Document). cond (x.nr.0 == job.doc.0) (record x { is_ready = true; is_fresh = true }) x)
ready_runs job =
    if_runs (λ (x : Document). x.nr.0 == job.doc.0) (λ (x : Document). record x { is_ready = true; is_fresh = true }) (record { nr = λ x. refl; nav = λ x. refl; state = λ x. refl; view = λ x. refl; discarded = λ x. refl; unready = λ x e. absurd cc })

record IsChangedBy (documents next : List Document) : Type 0 where
  g : Document → Document
  keeps : KeepsRuns g
  is : next ≡ map g documents

map_same : (documents : List Document) → documents ≡ map (λ (x : Document). x) documents
map_same [] = refl
map_same (d ∷ documents) = ap (λ (l : List Document). d ∷ l) (map_same documents)

delivered_runs : (documents : List Document) (report : Option Report) → IsChangedBy documents (documents_delivered documents report)
delivered_runs documents None = record { g = λ x. x; keeps = same_runs; is = map_same documents }
delivered_runs documents (Some (reports.Made made)) = record { g = λ x. x; keeps = same_runs; is = map_same documents }
delivered_runs documents (Some (reports.Died death)) =
    record {
      g = λ (x : Document). cond (is_dead_by death x) (record x { is_known_dead = true }) x;
      keeps = if_runs (is_dead_by death) (λ (x : Document). record x { is_known_dead = true }) (record { nr = λ x. refl; nav = λ x. refl; state = λ x. refl; view = λ x. refl; discarded = λ x. refl; unready = λ x e. e });
      is = refl;
    }
delivered_runs documents (Some (reports.Done job (outcomes.Populated slot) made)) =
    record { g = λ (x : Document). cond (x.nr.0 == job.doc.0) (record x { is_ready = true; is_fresh = true }) x; keeps = ready_runs job; is = refl }
delivered_runs documents (Some (reports.Done job outcomes.Activated made)) = record { g = λ x. x; keeps = same_runs; is = map_same documents }
delivered_runs documents (Some (reports.Done job outcomes.Updated made)) = record { g = λ x. x; keeps = same_runs; is = map_same documents }
delivered_runs documents (Some (reports.Done job outcomes.Frozen made)) = record { g = λ x. x; keeps = same_runs; is = map_same documents }
delivered_runs documents (Some (reports.Done job outcomes.Discarded made)) = record { g = λ x. x; keeps = same_runs; is = map_same documents }
delivered_runs documents (Some (reports.Done job (outcomes.Asked verdict) made)) = record { g = λ x. x; keeps = same_runs; is = map_same documents }
delivered_runs documents (Some (reports.Done job outcomes.Fragmented made)) = record { g = λ x. x; keeps = same_runs; is = map_same documents }

done_takers : (s : Seen) (job : Job) (outcome : Outcome) (made : Option Made) (task : Task) → job.task ≡ task → TakersWere s.places (places_delivered s (Some (reports.Done job outcome made)))
done_takers s job outcome made (tasks.Activate entry epoch long at memo address) e =
    rw e (or_takers (λ (d : Document). on_place d.nav (place_arrived job) s.places) (document_of s job.doc) s.places (λ d. on_takers d.nav (place_arrived job) s.places (λ p. refl) (λ p. refl)))
done_takers s job outcome made tasks.Freeze e = rw e (takers_same s.places s.places refl)
done_takers s job outcome made tasks.Discard e = rw e (takers_same s.places s.places refl)
done_takers s job outcome made (tasks.Populate nav state address initial) e = rw e (takers_same s.places s.places refl)
done_takers s job outcome made (tasks.Update long at) e = rw e (takers_same s.places s.places refl)
done_takers s job outcome made (tasks.Ask slot cause) e = rw e (takers_same s.places s.places refl)
done_takers s job outcome made (tasks.DoFragment req mode address) e = rw e (takers_same s.places s.places refl)

-- no death is reported
abbrev pub NoDeath : Option Report → Type 0
NoDeath (Some (reports.Died death)) = ⊥
NoDeath _ = Unit {0}

delivered_takers : (s : Seen) (report : Option Report) → NoDeath report → TakersWere s.places (places_delivered s report)
delivered_takers s None fine = takers_same s.places s.places refl
delivered_takers s (Some (reports.Made made)) fine = takers_same s.places s.places refl
delivered_takers s (Some (reports.Done job outcome made)) fine = done_takers s job outcome made job.task refl
delivered_takers s (Some (reports.Died death)) never = absurd never

module _ (home : ProcId) (s : Seen) (event : ℕ) (actor : Actor) (there : AreThere home s) (is : IsLasting s) where
  pub delivered_lasting : (proc : ProcId) → NoDeath (slice_get (desk_of s proc).reports 0) → IsLasting (next s event actor (rows.Delivered proc))
  delivered_lasting proc fine =
      let by = delivered_runs s.documents (slice_get (desk_of s proc).reports 0) in
      mapped_lasting home s (next s event actor (rows.Delivered proc)) there by.g by.keeps by.is refl (delivered_reads wish wish_blind (slice_get (desk_of s proc).reports 0) s.requests) (delivered_takers s (slice_get (desk_of s proc).reports 0) fine) (delivered_names s event actor proc) is

  -- ---- the process takes up an order

  pub taken_lasting : (proc : ProcId) (job : Job) (dirty : Bool) → IsLasting (next s event actor (rows.Taken proc job.nr true dirty))
  taken_lasting proc job dirty =
      quiet_lasting home s (next s event actor (rows.Taken proc job.nr true dirty)) there refl refl (λ r. refl) refl (taken_names s event actor proc job true dirty) is

  -- ---- it finishes one

  -- an order that shows a document does so under an epoch
  abbrev pub IsShownUnder : Task → Type 0
  IsShownUnder (tasks.Activate entry epoch long at memo address) = 1 ≤ epoch.0
  IsShownUnder _ = Unit {0}

  mapped_view : (f : View → View) (o : Option View) → ((view : View) → (f view).running ≡ true → (o ≡ Some view → 1 ≤ (f view).epoch.0)) → (view : View) → option_map f o ≡ Some view → view.running ≡ true → 1 ≤ view.epoch.0
  mapped_view f None each view has runs = absurd cc
  mapped_view f (Some old) each view has runs =
      let same : f old ≡ view = some_same has in
      subst (λ (v : View). 1 ≤ v.epoch.0) same (each old (ap (λ (v : View). v.running) same ∙ runs) refl)

  finished_shown : (d : Document) (task : Task) → IsShownUnder task → IsRunShown d → IsRunShown (record d { view = view_finished d task })
  finished_shown d (tasks.Populate nav state address initial) under shown view has runs =
      (let never : false ≡ true = ap (λ (v : View). v.running) (some_same has) ∙ runs in absurd cc)
  finished_shown d tasks.Discard under shown view has runs = absurd cc
  finished_shown d (tasks.DoFragment req mode address) under shown view has runs = shown view has runs
  finished_shown d (tasks.Activate entry epoch long at memo address) under shown view has runs =
      mapped_view (λ (v : View). after_task v (tasks.Activate entry epoch long at memo address)) d.view (λ v runs_ at_. under) view has runs
  finished_shown d (tasks.Update long at) under shown view has runs =
      mapped_view (λ (v : View). after_task v (tasks.Update long at)) d.view (λ v runs_ at_. shown v at_ runs_) view has runs
  finished_shown d tasks.Freeze under shown view has runs =
      mapped_view (λ (v : View). after_task v tasks.Freeze) d.view (λ v runs_ at_. absurd cc) view has runs
  finished_shown d (tasks.Ask slot cause) under shown view has runs =
      mapped_view (λ (v : View). after_task v (tasks.Ask slot cause)) d.view (λ v runs_ at_. shown v at_ runs_) view has runs

  module _ (proc : ProcId) (order : Order) (outcome : Outcome) (hand : (desk_of s proc).in_hand ≡ Some order) where
    abbrev done : Document → Document
    done x = cond (x.nr.0 == order.job.doc.0) (record x { view = view_finished x order.job.task }) x

    by_done : {B : Type 0} (read : Document → B) → ((x : Document) (o : Option View) → read (record x { view = o }) ≡ read x) → (x : Document) → read (done x) ≡ read x
    by_done read same x = elim (x.nr.0 == order.job.doc.0) as (λ b. read (let y : Document = cond b (record x { view = view_finished x order.job.task }) x in y) ≡ read x) [ true ↦ same x (view_finished x order.job.task) | false ↦ refl ]

    slots_keep : (o : Outcome) (documents : List Document) → IsChangedBy documents (slot_finished documents (Some order.job) o)
    slots_keep (outcomes.Populated slot) documents =
        record {
          g = λ (x : Document). cond (x.nr.0 == order.job.doc.0) (record x { slot = slot }) x;
          keeps = if_runs (λ (x : Document). x.nr.0 == order.job.doc.0) (λ (x : Document). record x { slot = slot }) (record { nr = λ x. refl; nav = λ x. refl; state = λ x. refl; view = λ x. refl; discarded = λ x. refl; unready = λ x e. e });
          is = refl;
        }
    slots_keep outcomes.Activated documents = record { g = λ x. x; keeps = same_runs; is = map_same documents }
    slots_keep outcomes.Updated documents = record { g = λ x. x; keeps = same_runs; is = map_same documents }
    slots_keep outcomes.Frozen documents = record { g = λ x. x; keeps = same_runs; is = map_same documents }
    slots_keep outcomes.Discarded documents = record { g = λ x. x; keeps = same_runs; is = map_same documents }
    slots_keep (outcomes.Asked verdict) documents = record { g = λ x. x; keeps = same_runs; is = map_same documents }
    slots_keep outcomes.Fragmented documents = record { g = λ x. x; keeps = same_runs; is = map_same documents }

    map_then : (f g : Document → Document) (documents : List Document) → map g (map f documents) ≡ map (λ (x : Document). g (f x)) documents
    map_then f g [] = refl
    map_then f g (d ∷ documents) = ap (λ (l : List Document). g (f d) ∷ l) (map_then f g documents)

    pub finished_lasting : IsShownUnder order.job.task → IsLasting (next s event actor (rows.Finished proc order.job.nr outcome))
    finished_lasting under =
        lasting_on home s (next s event actor (rows.Finished proc order.job.nr outcome)) (λ (x : Document). by.g (done x)) there (record {
          documents = documents_;
          nr = λ x. by.keeps.nr (done x) ∙ by_done (λ y. y.nr) (λ y o. refl) x;
          nav = λ x. by.keeps.nav (done x) ∙ by_done (λ y. y.nav) (λ y o. refl) x;
          state = λ x. by.keeps.state (done x) ∙ by_done (λ y. y.state) (λ y o. refl) x;
          undone = λ x there_. sym (by_done (λ y. y.is_discarded) (λ y o. refl) x) ∙ (sym (by.keeps.discarded (done x)) ∙ there_);
          unmade = λ doc x found kept. unmade_runs by.g by.keeps (done x) (λ unready. by_done (λ y. y.is_discarded) (λ y o. refl) x ∙ kept (sym (by_done (λ y. y.is_ready) (λ y o. refl) x) ∙ unready));
          names = finished_names s event actor proc order outcome;
          runs = λ doc x found shown. run_shown by.g (done x) (by.keeps.view (done x)) (done_shown x (x.nr.0 == order.job.doc.0) shown);
          gone = λ doc x found gone. inl (sym (by_done (λ y. y.is_discarded) (λ y o. refl) x) ∙ (sym (by.keeps.discarded (done x)) ∙ gone));
          wishes = finished_reads wish wish_blind s (desk_of s proc).in_hand outcome s.requests;
          bare = λ nav placed none. none;
          takers = λ nav place req found taken. inl (takers_same s.places s.places refl nav place req found taken);
        }) is
      where
        by : IsChangedBy (map done s.documents) (slot_finished (map done s.documents) (Some order.job) outcome)
        by = slots_keep outcome (map done s.documents)

        documents_ : (next s event actor (rows.Finished proc order.job.nr outcome)).documents ≡ map (λ (x : Document). by.g (done x)) s.documents
        documents_ =
            ap (λ (o : Option Order). slot_finished (documents_finished s.documents (option_map (λ (x : Order). x.job) o)) (option_map (λ (x : Order). x.job) o) outcome) hand
            ∙ by.is ∙ map_then done by.g s.documents

        done_shown : (x : Document) (b : Bool) → IsRunShown x → IsRunShown (let y : Document = cond b (record x { view = view_finished x order.job.task }) x in y)
        done_shown x true shown = finished_shown x order.job.task under shown
        done_shown x false shown = shown

  -- ---- a document makes something of a poke

  module _ (proc : ProcId) (made : Made) (q : Asked) (d : Document) (view : View) (asked : request_of s made.req ≡ Some q) (doc : q.doc ≡ Some made.doc) (found : document_of s made.doc ≡ Some d) (has : d.view ≡ Some view) (runs : view.running ≡ true) (epoch : made.epoch ≡ view.epoch) where
    abbrev acts : Document → Document
    acts x = cond (x.nr.0 == made.doc.0) (record x { view = option_map (λ (v : View). after_made v made.what) x.view }) x

    by_acts : {B : Type 0} (read : Document → B) → ((x : Document) (o : Option View) → read (record x { view = o }) ≡ read x) → (x : Document) → read (acts x) ≡ read x
    by_acts read same x = elim (x.nr.0 == made.doc.0) as (λ b. read (let y : Document = cond b (record x { view = option_map (λ (v : View). after_made v made.what) x.view }) x in y) ≡ read x) [ true ↦ same x (option_map (λ (v : View). after_made v made.what) x.view) | false ↦ refl ]

    made_runs : (v : View) (what : What) → ((after_made v what).running ≡ v.running) × ((after_made v what).epoch ≡ v.epoch)
    made_runs v (whats.Push entry memo address) = (refl, refl)
    made_runs v (whats.Replace over entry memo address) = (refl, refl)
    made_runs v (whats.AddFrame nav) = (refl, refl)
    made_runs v (whats.RemoveFrame nav) = (refl, refl)
    made_runs v (whats.Go delta) = (refl, refl)
    made_runs v whats.Edit = (refl, refl)

    acts_shown : (x : Document) (b : Bool) → IsRunShown x → IsRunShown (let y : Document = cond b (record x { view = option_map (λ (v : View). after_made v made.what) x.view }) x in y)
    acts_shown x false shown new has_ runs_ = shown new has_ runs_
    acts_shown x true shown new has_ runs_ =
        mapped_view (λ (v : View). after_made v made.what) x.view (λ v at_ is_. (let same = made_runs v made.what in let low : 1 ≤ v.epoch.0 = shown v is_ (sym same.0 ∙ at_) in subst (λ (e : Epoch). 1 ≤ e.0) (sym same.1) low)) new has_ runs_

    was : (of : DocId) (x : Document) → document_of (next s event actor (rows.Made proc made)) of ≡ Some x → WasIn s.documents acts of x
    was of x at = was_in s.documents acts of x (λ y. by_acts (λ z. z.nr) (λ z o. refl) y) at

    pub acted_lasting : IsLasting (next s event actor (rows.Made proc made))
    acted_lasting =
        record {
          shown = λ of x at. (let w = was of x at in subst IsRunShown w.new (acts_shown w.old (w.old.nr.0 == made.doc.0) (is.shown of w.old w.there)));
          made = each_asked_on (λ (req : ReqId) (a : Asked). IsMadeShown (wish a)) (λ (req : ReqId) (a : Asked). IsMadeShown (wish a)) s.requests made.req (λ (a : Asked). record a { made = Some made }) (λ r a apart fine. fine) (λ a at fine m same. subst (λ (x : Made). 1 ≤ x.epoch.0) (some_same same) its_epoch) is.made;
          poked = each_asked_on (λ (req : ReqId) (a : Asked). PokesItsNav s.documents (wish a)) (λ (req : ReqId) (a : Asked). PokesItsNav (next s event actor (rows.Made proc made)).documents (wish a)) s.requests made.req (λ (a : Asked). record a { made = Some made }) (λ r a apart pokes. pokes_on (wish a) pokes) (λ a at pokes. pokes_on (wish (record a { made = Some made })) (made_too a pokes)) is.poked;
          taken = is.taken;
          gone = λ of x at gone. (let w = was of x at in
              subst (λ (n : NavId). has_row n s.history.rows ≡ false) (sym (by_acts (λ z. z.nav) (λ z o. refl) w.old) ∙ ap (λ (y : Document). y.nav) w.new)
              (is.gone of w.old w.there (sym (by_acts (λ z. z.is_discarded) (λ z o. refl) w.old) ∙ ap (λ (y : Document). y.is_discarded) w.new ∙ gone)));
          populates = λ p. names_map s.documents acts (desk_of (next s event actor (rows.Made proc made)) p) (by_acts (λ z. z.nr) (λ z o. refl)) (by_acts (λ z. z.state) (λ z o. refl)) (acted_names s event actor proc made s.documents p (is.populates p));
          unmade = λ of x at. (let w = was of x at in
              subst IsKeptUnmade w.new (λ unready. by_acts (λ z. z.is_discarded) (λ z o. refl) w.old ∙ is.unmade of w.old w.there (sym (by_acts (λ z. z.is_ready) (λ z o. refl) w.old) ∙ unready)));
          sole = sole_map s.documents acts (by_acts (λ z. z.nr) (λ z o. refl)) (by_acts (λ z. z.state) (λ z o. refl)) (λ x there_. sym (by_acts (λ z. z.is_discarded) (λ z o. refl) x) ∙ there_) is.sole;
          single = single_map s.documents acts (by_acts (λ z. z.nr) (λ z o. refl)) (by_acts (λ z. z.nav) (λ z o. refl)) is.single;
        }
      where
        its_epoch : 1 ≤ made.epoch.0
        its_epoch = subst (λ (e : Epoch). 1 ≤ e.0) (sym epoch) (is.shown made.doc d found view has runs)

        -- of whatever was made
        made_too : (a : Asked) → PokesItsNav s.documents (wish a) → PokesItsNav s.documents (wish (record a { made = Some made }))
        made_too a pokes of is_ = (let its = pokes of is_ in record { d = its.d; found = its.found; nav_is = its.nav_is })

        pokes_on : (w : Wish) → PokesItsNav s.documents w → PokesItsNav (map acts s.documents) w
        pokes_on w pokes = pokes_map s.documents acts w (λ y. by_acts (λ z. z.nr) (λ z o. refl) y) (λ y. by_acts (λ z. z.nav) (λ z o. refl) y) pokes

  -- ---- a request is accepted, which pokes a document of its navigable, or none

  pub accepted_lasting : (req : ReqId) (doc : Option DocId) (what : Request) → req.0 ≡ length s.requests + 1 → ((x : DocId) → doc ≡ Some x → IsOfItsNav s.documents (wish (new_request req doc what)) x) → IsLasting (next s event actor (rows.Accepted req doc what))
  accepted_lasting req doc what nr pokes =
      record {
        shown = is.shown;
        made = each_asked_more (λ (r : ReqId) (a : Asked). IsMadeShown (wish a)) s.requests (new_request req doc what) req nr (λ m same. absurd cc) is.made;
        poked = each_asked_more (λ (r : ReqId) (a : Asked). PokesItsNav s.documents (wish a)) s.requests (new_request req doc what) req nr pokes is.poked;
        taken = is.taken;
        gone = is.gone;
        populates = λ proc. left_names s (next s event actor (rows.Accepted req doc what)) (accepted_left s event actor req doc what) s.documents proc (is.populates proc);
        unmade = is.unmade;
        sole = is.sole;
        single = is.single;
      }

-- ---- the tab opens

pub opened_lasting : (event : ℕ) (actor : Actor) (entry : EntryId) (state : StateId) (doc : DocId) (proc : ProcId) (slot : Option ℕ) (address : List ℕ) → IsLasting (next nothing event actor (rows.Opened entry state doc proc slot address))
opened_lasting event actor entry state doc proc slot address =
    record {
      shown = λ of x found. shown_by of x (doc.0 == of.0) found;
      made = λ req q there. absurd (none_asked req q there);
      poked = λ req q there. absurd (none_asked req q there);
      taken = λ nav place req found taken. absurd (none_taken nav place req (0 == nav.0) found taken);
      gone = λ of x found gone. absurd (none_gone of x (doc.0 == of.0) found gone);
      populates = λ p. none_named (first ∷ []) p (proc.0 == p.0);
      unmade = λ of x found unready. absurd (none_unmade of x (doc.0 == of.0) found unready);
      sole = λ of other d o at_d at_o same there_d there_o. ap (λ (y : Document). y.nr) (sym (is_first other o (doc.0 == other.0) at_o) ∙ is_first of d (doc.0 == of.0) at_d);
      single = λ of other d o at_d at_o same. ap (λ (y : Document). y.nr) (sym (is_first other o (doc.0 == other.0) at_o) ∙ is_first of d (doc.0 == of.0) at_d);
    }
  where
    first : Document
    first = opening_document entry state doc proc slot address

    -- there is none but this
    is_first : (of : DocId) (x : Document) (b : Bool) → (let o : Option Document = cond b (Some (opening_document entry state doc proc slot address)) None in o) ≡ Some x → first ≡ x
    is_first of x false e = absurd cc
    is_first of x true e = some_same e

    none_unmade : (of : DocId) (x : Document) (b : Bool) → (let o : Option Document = cond b (Some (opening_document entry state doc proc slot address)) None in o) ≡ Some x → x.is_ready ≡ false → ⊥
    none_unmade of x false e unready = cc
    none_unmade of x true e unready = (let never : true ≡ false = ap (λ (y : Document). y.is_ready) (some_same e) ∙ unready in cc)

    none_named : (documents : List Document) (p : ProcId) (b : Bool) → NameTheirStates documents (let desk : Desk = cond b (empty_desk proc) (empty_desk p) in desk)
    none_named documents p true = record { orders = tt; told = tt }
    none_named documents p false = record { orders = tt; told = tt }

    shown_by : (of : DocId) (x : Document) (b : Bool) → (let o : Option Document = cond b (Some (opening_document entry state doc proc slot address)) None in o) ≡ Some x → IsRunShown x
    shown_by of x false e = absurd cc
    shown_by of x true e = subst IsRunShown (some_same e) (λ view has runs. subst (λ (v : View). 1 ≤ v.epoch.0) (some_same has) (omega arith))

    none_gone : (of : DocId) (x : Document) (b : Bool) → (let o : Option Document = cond b (Some (opening_document entry state doc proc slot address)) None in o) ≡ Some x → x.is_discarded ≡ true → ⊥
    none_gone of x false e gone = cc
    none_gone of x true e gone = (let never : false ≡ true = ap (λ (y : Document). y.is_discarded) (some_same e) ∙ gone in cc)

    none_taken : (nav : NavId) (place : Place) (req : ReqId) (b : Bool) → (let o : Option Place = cond b (Some (opening_place entry doc)) None in o) ≡ Some place → place.taken_by ≡ Some req → ⊥
    none_taken nav place req false e taken = cc
    none_taken nav place req true e taken = (let never : None ≡ Some req = ap (λ (p : Place). p.taken_by) (some_same e) ∙ taken in cc)

    none_asked : (req : ReqId) (q : Asked) → request_in [] req ≡ Some q → ⊥
    none_asked req q there = by_number (req.0 == 0) there
      where
        by_number : (b : Bool) → (let o : Option Asked = cond b None None in o) ≡ Some q → ⊥
        by_number true e = cc
        by_number false e = cc
