-- Where each navigable stands, over each row that sends no order and applies nothing: what users and processes do, requests that begin and end, reports but of a death, and the tab's opening.
use Rattle.std.proofs.Common.{◌≡◌, ℕ, ◌≤◌, ◌+◌, Bool, true, false, cond, ◌==◌, List, length, map, Option, Some, None, refl, sym, ap, ◌∙◌, subst, inl, inr, arith}
use Rattle.std.specs.Prelude.{slice_get}
use Rattle.std.specs.Option.{option_map_or}
use Rattle.std.proofs.lemmas.List.{map-id}
use Rattle.tab_ids.specs.declared.DocId.{DocId}
use Rattle.tab_ids.specs.declared.EntryId.{EntryId}
use Rattle.tab_ids.specs.declared.JobId.{JobId}
use Rattle.tab_ids.specs.declared.NavId.{NavId}
use Rattle.tab_ids.specs.declared.ProcId.{ProcId}
use Rattle.tab_ids.specs.declared.ReqId.{ReqId}
use Rattle.tab_ids.specs.declared.StateId.{StateId}
use Rattle.tab_ids.specs.declared.Step.{Step}
use Rattle.log_model.specs.declared.job.Job.{Job}
use Rattle.log_model.specs.declared.job.Task.{Task}
use Rattle.log_model.specs.declared.job.Task.TheVariants as tasks
use Rattle.log_model.specs.declared.made.Made.{Made}
use Rattle.log_model.specs.declared.made.Report.{Report}
use Rattle.log_model.specs.declared.made.Report.TheVariants as reports
use Rattle.log_model.specs.declared.outcome.Cause.{Cause}
use Rattle.log_model.specs.declared.outcome.Denial.{Denial}
use Rattle.log_model.specs.declared.outcome.Outcome.{Outcome}
use Rattle.log_model.specs.declared.request.Request.{Request}
use Rattle.log_model.specs.declared.row.Row.{Row}
use Rattle.log_model.specs.declared.row_kind.Actor.{Actor}
use Rattle.log_model.specs.declared.row_kind.RowKind.{RowKind}
use Rattle.log_model.specs.declared.row_kind.RowKind.TheVariants as rows
use Rattle.log_model.specs.After.{after}
use Rattle.log_model.specs.AfterDocuments.{opening_document}
use Rattle.log_model.specs.AfterPlaces.{on_place, opening_place, place_arrived, places_delivered}
use Rattle.log_model.specs.History.{has_row}
use Rattle.log_model.specs.Seen.{Seen, Document, Place, document_of, desk_of, nothing, place_in, place_of}
use Rattle.seen_facts.specs.Hang.Members.{Has}
use Rattle.seen_facts.proofs.Mover.Places.{was_there}
use Rattle.seen_facts.proofs.Mover.Rows.{NoDeath}
use Rattle.seen_facts.specs.Place.Standing.{AreStanding, IsOfItsLast, IsStanding}
use Rattle.seen_facts.proofs.Place.Asked.{StayAsked, asked_more, asked_stay}
use Rattle.seen_facts.proofs.Place.Documents.{KeepStates, state_in, states_stay}
use Rattle.seen_facts.proofs.Place.Stays.{Bearing, bearing, still_standing}

-- ---- places that nobody leaves

-- a change of a place that leaves all that is read of it here
pub record LeavesBearing (g : Place → Place) : Type 0 where
  pub same : (p : Place) → bearing (g p) ≡ bearing p
  pub status : (p : Place) → (g p).status ≡ p.status
  pub taken : (p : Place) → (g p).taken_by ≡ p.taken_by

-- what a row leaves that changes each place so
pub record LeavesStanding (s t : Seen) : Type 0 where
  pub g : Place → Place
  pub leaves : LeavesBearing g
  pub places : t.places ≡ map g s.places
  pub rows_ : t.history.rows ≡ s.history.rows
  pub asked : StayAsked s.requests t.requests
  pub states : (nav : NavId) (place : Place) (doc : DocId) → place_of s nav ≡ Some place → place.last ≡ Some doc → state_in t.documents doc ≡ state_in s.documents doc

-- each navigable then stands as before
pub left_standing : (s t : Seen) → LeavesStanding s t → AreStanding s → AreStanding t
left_standing s t left are nav place there =
    let w = was_there left.g s.places (λ p. ap (λ (b : Bearing). b.nav) (left.leaves.same p)) nav place (ap (λ (l : List Place). place_in l nav) (sym left.places) ∙ there) in
    still_standing s t w.before place
    (record {
      same = ap bearing (sym w.is) ∙ left.leaves.same w.before;
      status = inl (ap (λ (p : Place). p.status) (sym w.is) ∙ left.leaves.status w.before);
      asked = left.asked;
      states = λ doc last. left.states nav w.before doc w.found last;
      part = λ row has navs given. subst (λ (l : List Row). Has l row) left.rows_ has;
    })
    (ap (λ (p : Place). p.taken_by) (sym w.is) ∙ left.leaves.taken w.before) (λ none. ap (has_row w.before.nav) (sym left.rows_) ∙ none) (are nav w.before w.found)

-- what is done to each place leaves it
pub record IsLeft (s : Seen) (places : List Place) : Type 0 where
  pub g : Place → Place
  pub leaves : LeavesBearing g
  pub are : places ≡ map g s.places

-- nothing is done
pub all_left : (s : Seen) → IsLeft s s.places
all_left s =
    record {
      g = λ p. p;
      leaves = record { same = λ p. refl; status = λ p. refl; taken = λ p. refl };
      are = sym (map-id s.places);
    }

arrived_left : (s : Seen) (job : Job) (o : Option Document) → IsLeft s (option_map_or (λ (d : Document). on_place d.nav (place_arrived job) s.places) o s.places)
arrived_left s job None = all_left s
arrived_left s job (Some d) =
    record {
      g = λ (p : Place). cond (p.nav.0 == d.nav.0) (place_arrived job p) p;
      leaves = record {
        same = λ p. elim (p.nav.0 == d.nav.0) as (λ b. bearing (let q : Place = cond b (place_arrived job p) p in q) ≡ bearing p) [ true ↦ refl | false ↦ refl ];
        status = λ p. elim (p.nav.0 == d.nav.0) as (λ b. (let q : Place = cond b (place_arrived job p) p in q).status ≡ p.status) [ true ↦ refl | false ↦ refl ];
        taken = λ p. elim (p.nav.0 == d.nav.0) as (λ b. (let q : Place = cond b (place_arrived job p) p in q).taken_by ≡ p.taken_by) [ true ↦ refl | false ↦ refl ];
      };
      are = refl;
    }

delivered_left : (s : Seen) (o : Option Report) → NoDeath o → IsLeft s (places_delivered s o)
delivered_left s None no_death = all_left s
delivered_left s (Some (reports.Died death)) never = absurd never
delivered_left s (Some (reports.Made made)) no_death = all_left s
delivered_left s (Some (reports.Done job outcome made)) no_death = by_task job.task
  where
    by_task : (task : Task) → IsLeft s (places_delivered s (Some (reports.Done (record job { task = task }) outcome made)))
    by_task (tasks.Activate entry epoch length index memo address) = arrived_left s job (document_of s job.doc)
    by_task (tasks.Populate nav state address initial) = all_left s
    by_task (tasks.Update length index) = all_left s
    by_task tasks.Freeze = all_left s
    by_task tasks.Discard = all_left s
    by_task (tasks.Ask slot cause) = all_left s
    by_task (tasks.DoFragment req mode address) = all_left s

-- ---- the rows

-- a row that leaves the history, and the document state of each document
pub quietly_standing : (s t : Seen) → AreStanding s → StayAsked s.requests t.requests → KeepStates s.documents t.documents → t.history.rows ≡ s.history.rows → IsLeft s t.places → AreStanding t
quietly_standing s t are asked states rows_ left =
    left_standing s t (record {
      g = left.g;
      leaves = left.leaves;
      places = left.are;
      rows_ = rows_;
      asked = asked;
      states = λ nav place doc there last. states doc;
    }) are

module _ (s : Seen) (event : ℕ) (actor : Actor) (are : AreStanding s) where
  abbrev then_ : RowKind → Seen
  then_ kind = after s (record { event = event; actor = actor; row = kind })

  -- a request is accepted: it has the next number
  pub accepted_standing : (req : ReqId) (doc : Option DocId) (what : Request) → req.0 ≡ length s.requests + 1 → AreStanding (then_ (rows.Accepted req doc what))
  accepted_standing req doc what next =
      quietly_standing s (then_ (rows.Accepted req doc what)) are (asked_more s.requests req doc what next) (λ d. refl) refl (all_left s)

  -- a request begins
  pub started_standing : (req : ReqId) (goal : Option Step) → AreStanding (then_ (rows.Started req goal))
  started_standing req goal =
      quietly_standing s (then_ (rows.Started req goal)) are (asked_stay s (rows.Started req goal) tt) (λ d. refl) refl (all_left s)

  -- the user is asked
  pub prompted_standing : (req : ReqId) (doc : DocId) → AreStanding (then_ (rows.Prompted req doc))
  prompted_standing req doc =
      quietly_standing s (then_ (rows.Prompted req doc)) are (asked_stay s (rows.Prompted req doc) tt) (λ d. refl) refl (all_left s)

  -- the user answers
  pub answered_standing : (req : ReqId) (stay : Bool) → AreStanding (then_ (rows.Answered req stay))
  answered_standing req stay =
      quietly_standing s (then_ (rows.Answered req stay)) are (asked_stay s (rows.Answered req stay) tt) (λ d. refl) refl (all_left s)

  -- a request is refused
  pub refused_standing : (req : ReqId) (reason : Denial) → AreStanding (then_ (rows.Refused req reason))
  refused_standing req reason =
      quietly_standing s (then_ (rows.Refused req reason)) are (asked_stay s (rows.Refused req reason) tt) (λ d. refl) refl (all_left s)

  -- a request is dropped
  pub dropped_standing : (req : ReqId) (cause : Cause) → AreStanding (then_ (rows.Dropped req cause))
  dropped_standing req cause =
      quietly_standing s (then_ (rows.Dropped req cause)) are (asked_stay s (rows.Dropped req cause) tt) (λ d. refl) refl (all_left s)

  -- a document state is evicted
  pub evicted_standing : (state : StateId) → AreStanding (then_ (rows.Evicted state))
  evicted_standing state =
      quietly_standing s (then_ (rows.Evicted state)) are (asked_stay s (rows.Evicted state) tt) (λ d. refl) refl (all_left s)

  -- a process takes an order
  pub taken_standing : (proc : ProcId) (job : JobId) (live dirty : Bool) → AreStanding (then_ (rows.Taken proc job live dirty))
  taken_standing proc job live dirty =
      quietly_standing s (then_ (rows.Taken proc job live dirty)) are (asked_stay s (rows.Taken proc job live dirty) tt) (λ d. refl) refl (all_left s)

  -- a process finishes an order
  pub finished_standing : (proc : ProcId) (job : JobId) (outcome : Outcome) → AreStanding (then_ (rows.Finished proc job outcome))
  finished_standing proc job outcome =
      quietly_standing s (then_ (rows.Finished proc job outcome)) are (asked_stay s (rows.Finished proc job outcome) tt) (states_stay s (rows.Finished proc job outcome) tt) refl (all_left s)

  -- a document makes something of a poke
  pub made_standing : (proc : ProcId) (made : Made) → AreStanding (then_ (rows.Made proc made))
  made_standing proc made =
      quietly_standing s (then_ (rows.Made proc made)) are (asked_stay s (rows.Made proc made) tt) (states_stay s (rows.Made proc made) tt) refl (all_left s)

  -- a report is delivered, but of no death, which makes navigables lost
  pub delivered_standing : (proc : ProcId) → NoDeath (slice_get (desk_of s proc).reports 0) → AreStanding (then_ (rows.Delivered proc))
  delivered_standing proc no_death =
      quietly_standing s (then_ (rows.Delivered proc)) are (asked_stay s (rows.Delivered proc) tt) (states_stay s (rows.Delivered proc) tt) refl (delivered_left s (slice_get (desk_of s proc).reports 0) no_death)

-- as the tab opens, its top navigable was given the entry of the document that it was shown
pub opened_standing : (event : ℕ) (actor : Actor) (entry : EntryId) (state : StateId) (doc : DocId) (proc : ProcId) (slot : Option ℕ) (address : List ℕ) → AreStanding (after nothing (record { event = event; actor = actor; row = rows.Opened entry state doc proc slot address }))
opened_standing event actor entry state doc proc slot address nav place there = by_nav (0 == nav.0) there
  where
    opened : Seen
    opened = after nothing (record { event = event; actor = actor; row = rows.Opened entry state doc proc slot address })

    first : Row
    first = record { owner = None; nav = record { 0 = 0 }; entry = entry; step = record { 0 = 0 }; state = state; address = address; memo = None }

    of_last : IsOfItsLast opened (opening_place entry doc)
    of_last of_doc d row last found (inr never) navs given = absurd never
    of_last of_doc d row last found (inl is) navs given = ap (λ (r : Row). r.state) (sym is) ∙ by_doc (doc.0 == of_doc.0) found
      where
        by_doc : (b : Bool) → (let o : Option Document = cond b (Some (opening_document entry state doc proc slot address)) None in o) ≡ Some d → state ≡ d.state
        by_doc true e =
            let same : opening_document entry state doc proc slot address ≡ d = cc in ap (λ (x : Document). x.state) same
        by_doc false e = absurd cc

    stands : IsStanding opened (opening_place entry doc)
    stands =
        record {
          unlost = λ e. absurd cc;
          unpending = refl;
          met = refl;
          shown = λ d e. (let least : 1 ≤ 1 = omega arith in least);
          told = (λ zero. absurd cc, λ some. record { doc = doc; last = refl; entry = entry; given = refl; ever = inl refl });
          of_last = of_last;
          taken = λ none. absurd cc;
          added = λ child. absurd (child refl);
        }

    by_nav : (b : Bool) → (let o : Option Place = cond b (Some (opening_place entry doc)) None in o) ≡ Some place → IsStanding opened place
    by_nav true e =
        let same : opening_place entry doc ≡ place = cc in subst (λ (p : Place). IsStanding opened p) same stands
    by_nav false e = absurd cc
