-- A document is made, and the report of it delivered: what is true between two rows of the documents of all awake navigables stays, as no navigable is awake on it yet.
use Rattle.std.proofs.Common.{◌≡◌, ℕ, Bool, true, false, cond, ◌==◌, List, [], ◌∷◌, length, Option, Some, refl, sym, ap, ◌∙◌}
use Rattle.std.specs.Prelude.{option_map}
use Rattle.tab_ids.specs.declared.DocId.{DocId}
use Rattle.tab_ids.specs.declared.EntryId.{EntryId}
use Rattle.tab_ids.specs.declared.Epoch.{Epoch}
use Rattle.tab_ids.specs.declared.NavId.{NavId}
use Rattle.tab_ids.specs.declared.ProcId.{ProcId}
use Rattle.log_model.specs.declared.job.Job.{Job}
use Rattle.log_model.specs.declared.job.Order.{Order}
use Rattle.log_model.specs.declared.made.Report.{Report}
use Rattle.log_model.specs.declared.outcome.Outcome.TheVariants as outcomes
use Rattle.log_model.specs.declared.row_kind.Actor.TheVariants as actors
use Rattle.log_model.specs.declared.row_kind.RowKind.TheVariants as rows
use Rattle.log_model.specs.Seen.{Seen, Document, Desk, Asked, Place, awake, document_of, desk_of, place_of, place_in}
use Rattle.log_model.specs.After.{after, on_document, desk_finished, desk_delivered}
use Rattle.log_model.specs.AfterDocuments.{documents_finished, slot_finished, documents_delivered}
use Rattle.log_model.specs.AfterPlaces.{places_delivered}
use Rattle.log_model.specs.AfterRequests.{requests_finished}
use Rattle.seen_laws.proofs.Keyed.{find_has}
use Rattle.seen_facts.specs.Coord.Leading.{held_back, once_finished, EachAwake}
use Rattle.seen_facts.specs.Coord.Reaching.{Reaches}
use Rattle.seen_facts.specs.Coord.Flowing.{Flows}
use Rattle.seen_facts.proofs.Coord.Leadings.{WasAwake, EachWasAwake, as_placed, one_stays, LeadsIn, leads_again}
use Rattle.seen_facts.proofs.Coord.OneDocument.{leads_alike, finished_other}
use Rattle.seen_facts.proofs.Coord.Kept.{IsInHand, is_mine, same_places}
use Rattle.seen_facts.proofs.Coord.Reached.{delivered_reaches, finished_elsewhere}
use Rattle.seen_facts.proofs.Coord.Arrived.{IsFirstReport, coming_alike, delivered_before}
use Rattle.seen_facts.proofs.Coord.Whose.{had_status, whose_one}
use Rattle.seen_facts.proofs.Coord.EachDocuments.{IsOneOfEach, each_stays}
use Rattle.seen_facts.proofs.Coord.Within.{within_more, finished_within, finished_apart}
use Rattle.seen_facts.proofs.Coord.Withins.{WithinIn, within_again, unmoved}
use Rattle.seen_facts.proofs.Coord.WithinLeft.{delivered_within}
use Rattle.seen_facts.proofs.Coord.WithinRows.{as_far}

-- a document is changed twice
on_twice : (doc : DocId) (f g : Document → Document) (documents : List Document) → ((d : Document) → (g d).nr ≡ d.nr) → on_document doc f (on_document doc g documents) ≡ on_document doc (λ d. f (g d)) documents
on_twice doc f g [] keeps = refl
on_twice doc f g (d ∷ documents) keeps =
    ap (λ (first : Document). first ∷ on_document doc f (on_document doc g documents)) (by_test (d.nr.0 == doc.0) refl)
    ∙ ap (λ (rest : List Document). (let x : Document = cond (d.nr.0 == doc.0) (f (g d)) d in x) ∷ rest) (on_twice doc f g documents keeps)
  where
    by_test : (b : Bool) → (d.nr.0 == doc.0) ≡ b → (let x : Document = cond ((let y : Document = cond b (g d) d in y).nr.0 == doc.0) (f (let y : Document = cond b (g d) d in y)) (let y : Document = cond b (g d) d in y) in x) ≡ (let x : Document = cond b (f (g d)) d in x)
    by_test true e =
        let still : ((g d).nr.0 == doc.0) ≡ true = ap (λ (nr : DocId). nr.0 == doc.0) (keeps d) ∙ e in rw still refl
    by_test false e = rw e refl

-- ---- it is made

module _ (s : Seen) (event : ℕ) (proc : ProcId) (order : Order) (slot : Option ℕ) (in_ : IsInHand s proc order) (unused : (nav : NavId) (place : Place) → place_of s nav ≡ Some place → place.status ≡ awake order.job.doc → ⊥) where
  abbrev pub after_making : Seen
  after_making =
      after s (record { event = event; actor = actors.Proc proc; row = rows.Finished proc order.job.nr (outcomes.Populated slot) })

  abbrev once_populated : Document → Document
  once_populated d = record (once_finished d order.job) { slot = slot }

  documents_are : after_making.documents ≡ on_document order.job.doc once_populated s.documents
  documents_are =
      ap (λ (job : Option Job). slot_finished (documents_finished s.documents job) job (outcomes.Populated slot)) (ap (λ (o : Option Order). option_map (λ (x : Order). x.job) o) in_.hand)
      ∙ on_twice order.job.doc (λ d. record d { slot = slot }) (λ d. once_finished d order.job) s.documents (λ d. refl)

  requests_are : after_making.requests ≡ s.requests
  requests_are = ap (λ (o : Option Order). requests_finished s o (outcomes.Populated slot) s.requests) in_.hand

  making_stays : (F : Desk → Document → Option EntryId → Epoch → Type 0) → ((x : Document) (given : Option EntryId) (epoch : Epoch) → (order.job.doc.0 == x.nr.0) ≡ false → F (desk_of s proc) x given epoch → F (desk_finished (outcomes.Populated slot) (desk_of s proc)) x given epoch) → EachAwake F s → EachAwake F after_making
  making_stays F other each =
      one_stays F s after_making proc (desk_finished (outcomes.Populated slot)) order.job.doc once_populated
      (record {
        desks = refl;
        documents = documents_are;
        keeps_proc = λ desk. refl;
        keeps_number = λ d. refl;
        stays = λ d. refl;
        home = in_.home;
        own = λ nav place d placed wakes there. absurd (unused nav place placed wakes);
        others = λ nav place at placed wakes apart. as_placed s nav place placed;
        other = other;
      })
      each

  within_change : IsOneOfEach (WithinIn s) s after_making proc (desk_finished (outcomes.Populated slot)) order.job.doc once_populated
  within_change =
      record {
        desks = refl;
        documents = documents_are;
        keeps_proc = λ desk. refl;
        keeps_number = λ d. refl;
        stays = λ d. refl;
        stays_in = λ d. refl;
        had = λ nav place placed. unmoved s nav place placed;
        grows = λ desk d m n more is. within_more (held_back s.requests s.parked) desk d m n more is;
        home = in_.home;
        own = λ d place there placed is. made_within d place.epoch.0 there is;
        other = λ d bound apart is. finished_apart (held_back s.requests s.parked) (desk_of s proc) order (outcomes.Populated slot) d bound in_.hand apart is;
      }
    where
      made_within : (d : Document) (bound : ℕ) → document_of s order.job.doc ≡ Some d → WithinIn s (desk_of s proc) d bound → WithinIn s (desk_finished (outcomes.Populated slot) (desk_of s proc)) (once_populated d) bound
      made_within d bound there is =
          let made = finished_within (held_back s.requests s.parked) (desk_of s proc) order (outcomes.Populated slot) d bound in_.hand (is_mine d.nr (length (desk_of s proc).killed) order.job (sym (find_has (λ (x : Document). x.nr.0) order.job.doc.0 s.documents d there)) in_.lives) is in
          record { view = made.view; orders = made.orders; held_back = made.held_back; reports = made.reports }

  pub making_flows : Flows s → Flows after_making
  making_flows flows =
      record {
        leads = leads_again s after_making refl held (making_stays (LeadsIn s) (λ x given epoch apart leads. leads_alike s.history.rows (held_back s.requests s.parked) (desk_of s proc) (desk_finished (outcomes.Populated slot) (desk_of s proc)) x x given epoch (finished_other (held_back s.requests s.parked) (desk_of s proc) order (outcomes.Populated slot) x epoch in_.hand apart) leads) flows.leads);
        whose = whose_one s after_making order.job.doc once_populated documents_are (λ d. refl) (λ d. refl) (had_status s after_making (same_places s after_making refl)) flows.whose;
        reaches = making_stays (λ desk x given epoch. Reaches desk x epoch) (λ x given epoch apart reaches. finished_elsewhere (desk_of s proc) order (outcomes.Populated slot) x epoch in_.hand apart reaches) flows.reaches;
        within = within_again s after_making held (each_stays (WithinIn s) s after_making proc (desk_finished (outcomes.Populated slot)) order.job.doc once_populated within_change flows.within);
      }
    where
      held : held_back after_making.requests after_making.parked ≡ held_back s.requests s.parked
      held = ap (λ (asked : List Asked). held_back asked s.parked) requests_are

-- ---- the report of it is delivered

module _ (s : Seen) (event : ℕ) (proc : ProcId) (job : Job) (slot : Option ℕ) (first : IsFirstReport (desk_of s proc) job (outcomes.Populated slot)) (home : (d : Document) → document_of s job.doc ≡ Some d → d.proc ≡ proc) (unused : (nav : NavId) (place : Place) → place_of s nav ≡ Some place → place.status ≡ awake job.doc → ⊥) where
  abbrev pub after_report : Seen
  after_report = after s (record { event = event; actor = actors.Coord; row = rows.Delivered proc })

  abbrev once_ready : Document → Document
  once_ready d = record d { is_ready = true; is_fresh = true }

  documents_told : after_report.documents ≡ on_document job.doc once_ready s.documents
  documents_told = ap (λ (o : Option Report). documents_delivered s.documents o) first

  places_before : EachWasAwake s after_report
  places_before nav place placed =
      delivered_before s job (outcomes.Populated slot) job.task refl nav place (ap (λ (places : List Place). place_in places nav) (sym (ap (λ (o : Option Report). places_delivered s o) first)) ∙ placed)

  -- none was awake on it, and none is
  still_unused : (nav : NavId) (place : Place) → place_of after_report nav ≡ Some place → place.status ≡ awake job.doc → ⊥
  still_unused nav place placed wakes =
      let was : WasAwake s nav place = places_before nav place placed in
      unused nav was.before was.there (was.status ∙ wakes)

  report_stays : (F : Desk → Document → Option EntryId → Epoch → Type 0) → ((x : Document) (given : Option EntryId) (epoch : Epoch) → F (desk_of s proc) x given epoch → F (desk_delivered (desk_of s proc)) x given epoch) → EachAwake F s → EachAwake F after_report
  report_stays F other each =
      one_stays F s after_report proc desk_delivered job.doc once_ready
      (record {
        desks = refl;
        documents = documents_told;
        keeps_proc = λ desk. refl;
        keeps_number = λ d. refl;
        stays = λ d. refl;
        home = home;
        own = λ nav place d placed wakes there. absurd (still_unused nav place placed wakes);
        others = λ nav place at placed wakes apart. places_before nav place placed;
        other = λ x given epoch apart is. other x given epoch is;
      })
      each

  within_told : IsOneOfEach (WithinIn s) s after_report proc desk_delivered job.doc once_ready
  within_told =
      record {
        desks = refl;
        documents = documents_told;
        keeps_proc = λ desk. refl;
        keeps_number = λ d. refl;
        stays = λ d. refl;
        stays_in = λ d. refl;
        had = λ nav place placed. as_far s nav place (places_before nav place placed);
        grows = λ desk d m n more is. within_more (held_back s.requests s.parked) desk d m n more is;
        home = home;
        own = λ d place there placed is. delivered_within (held_back s.requests s.parked) (desk_of s proc) d (once_ready d) place.epoch.0 refl refl is;
        other = λ d bound apart is. delivered_within (held_back s.requests s.parked) (desk_of s proc) d d bound refl refl is;
      }

  pub report_flows : held_back after_report.requests after_report.parked ≡ held_back s.requests s.parked → Flows s → Flows after_report
  report_flows held flows =
      record {
        leads = leads_again s after_report refl held (report_stays (LeadsIn s) (λ x given epoch leads. leads_alike s.history.rows (held_back s.requests s.parked) (desk_of s proc) (desk_delivered (desk_of s proc)) x x given epoch (coming_alike (held_back s.requests s.parked) (desk_of s proc) job (outcomes.Populated slot) x epoch first) leads) flows.leads);
        whose = whose_one s after_report job.doc once_ready documents_told (λ d. refl) (λ d. refl) (had_status s after_report places_before) flows.whose;
        reaches = report_stays (λ desk x given epoch. Reaches desk x epoch) (λ x given epoch reaches. delivered_reaches (desk_of s proc) x epoch reaches) flows.reaches;
        within = within_again s after_report held (each_stays (WithinIn s) s after_report proc desk_delivered job.doc once_ready within_told flows.within);
      }
