-- Each row of a job, of a process or of a delivery keeps what is true between two rows of the documents of all awake navigables.
use Rattle.std.proofs.Common.{◌≡◌, ℕ, ◌<◌, ◌≤◌, Bool, true, false, List, [], ◌∷◌, ◌++◌, Option, Some, None, refl, sym, ap, ◌∙◌, subst, arith}
use Rattle.std.specs.Prelude.{filter, slice_get}
use Rattle.tab_ids.specs.declared.DocId.{DocId}
use Rattle.tab_ids.specs.declared.EntryId.{EntryId}
use Rattle.tab_ids.specs.declared.Epoch.{Epoch}
use Rattle.tab_ids.specs.declared.NavId.{NavId}
use Rattle.tab_ids.specs.declared.ProcId.{ProcId}
use Rattle.tab_ids.specs.declared.ReqId.{ReqId}
use Rattle.tab_ids.specs.declared.Step.{Step}
use Rattle.log_model.specs.declared.job.Job.{Job}
use Rattle.log_model.specs.declared.job.Order.{Order}
use Rattle.log_model.specs.declared.job.Task.{Task}
use Rattle.log_model.specs.declared.job.Task.TheVariants as tasks
use Rattle.log_model.specs.declared.made.Made.{Made}
use Rattle.log_model.specs.declared.made.What.{What}
use Rattle.log_model.specs.declared.outcome.Outcome.{Outcome}
use Rattle.log_model.specs.declared.request.Poke.{Poke}
use Rattle.log_model.specs.declared.row.Row.{Row}
use Rattle.log_model.specs.declared.row_kind.Actor.{Actor}
use Rattle.log_model.specs.declared.row_kind.Actor.TheVariants as actors
use Rattle.log_model.specs.declared.row_kind.RowKind.TheVariants as rows
use Rattle.log_model.specs.Views.{View, made_for}
use Rattle.log_model.specs.Seen.{Seen, Document, Asked, Place, awake, document_of, desk_of, place_of}
use Rattle.log_model.specs.After.{after, on_document}
use Rattle.log_model.specs.AfterDocuments.{addressed, documents_sent}
use Rattle.log_model.specs.AfterRequests.{requests_sent}
use Rattle.seen_laws.specs.Acting.{IsToAct}
use Rattle.seen_facts.specs.Coord.Leading.{Leads, is_made_under, held_back, pending_view, once_finished}
use Rattle.seen_facts.specs.Coord.Epochs.{IsWithin}
use Rattle.seen_facts.specs.Coord.Flowing.{Flows}
use Rattle.seen_facts.proofs.Coord.Leadings.{as_placed}
use Rattle.seen_facts.proofs.Coord.Kept as kept
use Rattle.seen_facts.proofs.Coord.Kept.{IsInHand, IsPlainOutcome, IsSentHome, same_places}
use Rattle.seen_facts.proofs.Coord.Whose.{had_status, whose_same, whose_one}
use Rattle.seen_facts.proofs.Coord.Reached.{IsOfOne}
use Rattle.seen_facts.proofs.Coord.Reachings as reachings
use Rattle.seen_facts.proofs.Coord.Withins as withins
use Rattle.seen_facts.proofs.Coord.WithinLeft as left
use Rattle.seen_facts.proofs.Coord.WithinRows as within_rows
use Rattle.seen_facts.proofs.Coord.WithinShown as within_shown
use Rattle.seen_facts.proofs.Coord.NewEpoch as anew
use Rattle.seen_facts.proofs.Coord.OneMade.{once_made}
use Rattle.seen_facts.proofs.Coord.OneTaken.{IsFirstMade}
use Rattle.seen_facts.proofs.Coord.Makes as makes
use Rattle.seen_facts.proofs.Coord.Settlings.{IsIdleDesk, ShowsRow, shows_its_row}
use Rattle.seen_facts.proofs.Coord.Shown as shown
use Rattle.seen_facts.proofs.Coord.Shown.{IsToBeShown}
use Rattle.seen_facts.proofs.Coord.Arrived as arrived
use Rattle.seen_facts.proofs.Coord.Arrived.{IsFirstReport}
use Rattle.seen_facts.proofs.Coord.DeliveredMade as delivered
use Rattle.seen_facts.proofs.Coord.DeliveredMade.{ShowsNone}
use Rattle.seen_facts.proofs.Coord.Traversed as traversed
use Rattle.seen_facts.proofs.Coord.Unread.{DesksLeft, left_leads, left_reaches, left_within}

-- ---- orders

-- an order in hand to a document that is there is finished
module _ (s : Seen) (event : ℕ) (proc : ProcId) (order : Order) (outcome : Outcome) (in_ : IsInHand s proc order) (plain : IsPlainOutcome outcome) (of : IsOfOne order.job.task) where
  pub finished_flows : Flows s → Flows (kept.after_finish s event proc order outcome in_ plain)
  finished_flows is =
      record {
        leads = kept.finished_leads s event proc order outcome in_ plain is.leads;
        whose = whose_one s (kept.after_finish s event proc order outcome in_ plain) order.job.doc (λ d. once_finished d order.job) (kept.finished_documents s event proc order outcome in_ plain) (λ d. refl) (λ d. refl) (had_status s (kept.after_finish s event proc order outcome in_ plain) (same_places s (kept.after_finish s event proc order outcome in_ plain) refl)) is.whose;
        reaches = reachings.finished_reach s event proc order outcome in_ plain of is.reaches;
        within = withins.finished_stays s event proc order outcome in_ plain is.within;
      }

-- a live order is taken up
module _ (s : Seen) (event : ℕ) (proc : ProcId) (job : Job) (dirty : Bool) (free : (desk_of s proc).in_hand ≡ None) (first : slice_get (desk_of s proc).mail 0 ≡ Some job) where
  abbrev after_taking : Seen
  after_taking =
      after s (record { event = event; actor = actors.Proc proc; row = rows.Taken proc job.nr true dirty })

  pub taken_flows : Flows s → Flows after_taking
  taken_flows is =
      record {
        leads = kept.taken_leads s event proc job dirty free first is.leads;
        whose = whose_same s after_taking refl (had_status s after_taking (same_places s after_taking refl)) is.whose;
        reaches = reachings.taken_reach s event proc job dirty free first is.reaches;
        within = within_rows.taken_stays s event proc job dirty free first is.within;
      }

-- an Update is sent
module _ (s : Seen) (event : ℕ) (actor : Actor) (job : Job) (long at : ℕ) (task : job.task ≡ tasks.Update long at) (sent : IsSentHome s job) where
  abbrev after_update : Seen
  after_update = after s (record { event = event; actor = actor; row = rows.Sent job })

  pub update_flows : Flows s → Flows after_update
  update_flows is =
      record {
        leads = kept.update_leads s event actor job long at task sent is.leads;
        whose = whose_one s after_update job.doc (addressed job.task) (ap (λ (t : Task). documents_sent s job t) task ∙ ap (λ (t : Task). on_document job.doc (addressed t) s.documents) (sym task)) (λ d. refl) (λ d. refl) (had_status s after_update (λ nav place placed. as_placed s nav place (kept.was_placed s event actor job long at task sent nav place placed))) is.whose;
        reaches = reachings.update_reach s event actor job long at task sent is.reaches;
        within = withins.update_stays s event actor job long at task sent is.within;
      }

-- a document that its navigable is to be shown, under an epoch that the navigable hasn't come to
pub record IsShownAnew (s : Seen) (job : Job) (d : Document) (place : Place) (view : View) (entry : EntryId) (epoch : Epoch) (memo : Option (List ℕ)) (address : List ℕ) : Type 0 where
  pub there : document_of s job.doc ≡ Some d
  pub placed : place_of s d.nav ≡ Some place
  pub later : place.epoch.0 < epoch.0
  pub pending : pending_view d (desk_of s job.proc) ≡ Some view
  pub shown : (i : ℕ) (row : Row) → slice_get s.history.rows i ≡ Some row → row.entry ≡ entry → (row.address ≡ address) × (row.memo ≡ memo)

-- it is shown
module _ (s : Seen) (event : ℕ) (actor : Actor) (job : Job) (d : Document) (place : Place) (view : View) (entry : EntryId) (epoch : Epoch) (long at : ℕ) (memo : Option (List ℕ)) (address : List ℕ) (task : job.task ≡ tasks.Activate entry epoch long at memo address) (sent : IsSentHome s job) (is : IsShownAnew s job d place view entry epoch memo address) (requests : held_back (requests_sent s job job.task s.requests) s.parked ≡ held_back s.requests s.parked) (flows : Flows s) where
  abbrev after_show : Seen
  after_show = after s (record { event = event; actor = actor; row = rows.Sent job })

  within_here : IsWithin (held_back s.requests s.parked) (desk_of s job.proc) d place.epoch.0
  within_here =
      subst (λ (p : ProcId). IsWithin (held_back s.requests s.parked) (desk_of s p) d place.epoch.0) (sent.home d is.there) (flows.within job.doc d place is.there is.placed)

  to_be_shown : IsToBeShown s job d view entry epoch memo address
  to_be_shown =
      record {
        there = is.there;
        pending = is.pending;
        none = anew.nothing_comes place.epoch.0 epoch is.later (held_back s.requests s.parked) (desk_of s job.proc) d within_here;
        shown = is.shown;
      }

  rises : (p : Place) → place_of s d.nav ≡ Some p → p.epoch.0 ≤ epoch.0
  rises p there =
      let same : place ≡ p = (let some : Some place ≡ Some p = sym is.placed ∙ there in cc) in
      subst (λ (x : Place). x.epoch.0 ≤ epoch.0) same (omega (arith, is.later))

  pub show_flows : Flows after_show
  show_flows =
      record {
        leads = shown.show_leads s event actor job d view entry epoch long at memo address task sent to_be_shown flows.whose requests flows.leads;
        whose = shown.whose_shown s event actor job d view entry epoch long at memo address task sent to_be_shown flows.whose requests;
        reaches = shown.show_reaches s event actor job d view entry epoch long at memo address task sent to_be_shown flows.whose requests (anew.no_view place.epoch.0 epoch is.later (held_back s.requests s.parked) (desk_of s job.proc) d within_here) (anew.no_order place.epoch.0 epoch is.later (held_back s.requests s.parked) (desk_of s job.proc) d within_here) flows.reaches;
        within = within_shown.show_stays s event actor job d entry epoch long at memo address task sent is.there rises requests flows.within;
      }

-- ---- a document makes something

-- where the request isn't one that is held back
module _ (s : Seen) (proc : ProcId) (poke : Poke) (q : Asked) (of : NavId) (d : Document) (view : View) (what : What) (acts : IsToAct s proc poke q of d view) (flows : Flows s) where
  abbrev after_making : Seen
  after_making =
      after s (record { event = s.events; actor = actors.Proc proc; row = rows.Made proc (made_for view poke.req what) })

  pub made_flows : held_back after_making.requests s.parked ≡ held_back s.requests s.parked → Flows after_making
  made_flows held =
      record {
        leads = makes.made_leads s proc poke q of d view what acts flows.reaches held flows.leads;
        whose = whose_one s after_making view.doc (once_made what) refl (λ x. refl) (λ x. refl) (had_status s after_making (same_places s after_making refl)) flows.whose;
        reaches = reachings.made_reach s proc poke q of d view what acts flows.reaches;
        within = within_rows.making_stays s proc poke q of d view what acts flows.reaches held flows.within;
      }

-- ---- a report is delivered

-- that of an order that made nothing
module _ (s : Seen) (event : ℕ) (proc : ProcId) (job : Job) (outcome : Outcome) (first : IsFirstReport (desk_of s proc) job outcome) (plain : IsPlainOutcome outcome) where
  abbrev after_report : Seen
  after_report = after s (record { event = event; actor = actors.Coord; row = rows.Delivered proc })

  pub report_flows : Flows s → Flows after_report
  report_flows is =
      record {
        leads = arrived.delivered_leads s event proc job outcome first plain is.leads;
        whose = whose_same s after_report (arrived.documents_as s event proc job outcome first plain) (had_status s after_report (arrived.places_before s event proc job outcome first plain)) is.whose;
        reaches = reachings.delivered_reach s event proc job outcome first plain is.reaches;
        within = within_rows.report_stays s event proc job outcome first plain is.within;
      }

-- what a document made, and nothing is applied yet
module _ (s : Seen) (event : ℕ) (proc : ProcId) (made : Made) (first : IsFirstMade (desk_of s proc) made) (home : (d : Document) → document_of s made.doc ≡ Some d → d.proc ≡ proc) (flows : Flows s) where
  abbrev after_delivery : Seen
  after_delivery = delivered.after_delivery s event proc made first

  -- of an earlier epoch: nothing of it was coming
  pub outdated_flows : ((nav : NavId) (place : Place) (d : Document) → place_of s nav ≡ Some place → place.status ≡ awake made.doc → document_of s made.doc ≡ Some d → is_made_under d.nr place.epoch made ≡ false) → held_back after_delivery.requests after_delivery.parked ≡ held_back s.requests s.parked → Flows after_delivery
  outdated_flows old held =
      record {
        leads = delivered.outdated_leads s event proc made first home old held flows.leads;
        whose = whose_same s after_delivery (delivered.documents_are s event proc made first) (had_status s after_delivery (same_places s after_delivery (delivered.places_are s event proc made first))) flows.whose;
        reaches = delivered.delivery_reaches s event proc made first flows.reaches;
        within = left.delivered_stays s event proc made first home held flows.within;
      }

  -- of the present one, and no entry: a frame that is added or removed, or a traversal
  pub neutral_flows : ((nav : NavId) (place : Place) (d : Document) → place_of s nav ≡ Some place → place.status ≡ awake made.doc → document_of s made.doc ≡ Some d → (is_made_under d.nr place.epoch made ≡ true) × (filter (is_made_under d.nr place.epoch) (held_back s.requests s.parked) ≡ [])) → ShowsNone made.what → held_back after_delivery.requests after_delivery.parked ≡ held_back s.requests s.parked → Flows after_delivery
  neutral_flows present shows held =
      record {
        leads = delivered.neutral_leads s event proc made first home present shows held flows.leads;
        whose = whose_same s after_delivery (delivered.documents_are s event proc made first) (had_status s after_delivery (same_places s after_delivery (delivered.places_are s event proc made first))) flows.whose;
        reaches = delivered.delivery_reaches s event proc made first flows.reaches;
        within = left.delivered_stays s event proc made first home held flows.within;
      }

  -- it is held back
  pub parked_flows : held_back after_delivery.requests after_delivery.parked ≡ held_back s.requests s.parked ++ made ∷ [] → Flows after_delivery
  parked_flows held =
      record {
        leads = delivered.parked_leads s event proc made first home held flows.leads;
        whose = whose_same s after_delivery (delivered.documents_are s event proc made first) (had_status s after_delivery (same_places s after_delivery (delivered.places_are s event proc made first))) flows.whose;
        reaches = delivered.delivery_reaches s event proc made first flows.reaches;
        within = within_rows.parked_stays s event proc made first home held flows.within;
      }

-- ---- rows that are not looked at, and the end of a traversal

-- each process is as it was but for its input
pub left_flows : (s t : Seen) → DesksLeft s t → t.documents ≡ s.documents → t.places ≡ s.places → t.history.rows ≡ s.history.rows → held_back t.requests t.parked ≡ held_back s.requests s.parked → Flows s → Flows t
left_flows s t unread documents places rows_ held is =
    record {
      leads = left_leads s t unread documents places rows_ held is.leads;
      whose = whose_same s t documents (had_status s t (same_places s t places)) is.whose;
      reaches = left_reaches s t unread documents places is.reaches;
      within = left_within s t unread documents places held is.within;
    }

module _ (s : Seen) (event : ℕ) (actor : Actor) (req : ReqId) (goal : Step) where
  -- no report is held back then
  pub traversed_flows : s.parked ≡ [] → Flows s → Flows (traversed.after_traverse s event actor req goal)
  traversed_flows none is =
      record {
        leads = traversed.traversed_leads s event actor req goal none is.leads;
        whose = whose_same s (traversed.after_traverse s event actor req goal) (traversed.documents_as s event actor req goal) (had_status s (traversed.after_traverse s event actor req goal) (traversed.stood s event actor req goal)) is.whose;
        reaches = traversed.traversed_reach s event actor req goal is.reaches;
        within = within_rows.traversed_stays s event actor req goal none is.within;
      }

-- ---- what follows

-- where nothing is in transit and no report is held back, the document of an awake navigable shows the row of the given entry, with the pair it was told, and runs
pub settles : (s : Seen) → Flows s → s.parked ≡ [] → ((proc : ProcId) → IsIdleDesk (desk_of s proc)) → (nav : NavId) (place : Place) (doc : DocId) (d : Document) → place_of s nav ≡ Some place → place.status ≡ awake doc → document_of s doc ≡ Some d → (i : ℕ) (row : Row) (pair : ℕ × ℕ) → slice_get s.history.rows i ≡ Some row → place.given ≡ Some row.entry → d.told ≡ Some pair → (view : View) × ShowsRow d row view pair
settles s is none idle nav place doc d placed wakes found i row pair there given told =
    let held : held_back s.requests s.parked ≡ [] = ap (λ (parked : List ReqId). held_back s.requests parked) none in
    let led : Leads s.history.rows (held_back s.requests s.parked) (desk_of s d.proc) d place.given place.epoch = is.leads nav place doc d placed wakes found in
    let bare : Leads s.history.rows [] (desk_of s d.proc) d (Some row.entry) place.epoch = subst (λ (o : Option EntryId). Leads s.history.rows [] (desk_of s d.proc) d o place.epoch) given (subst (λ (l : List Made). Leads s.history.rows l (desk_of s d.proc) d place.given place.epoch) held led) in
    (bare.view, shows_its_row s.history.rows (desk_of s d.proc) d place.epoch i row pair (idle d.proc) bare there told)
