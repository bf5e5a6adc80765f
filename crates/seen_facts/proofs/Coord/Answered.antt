-- An order in hand that a document answers is finished, and its report delivered, of whatever outcome that changes no document by itself: what is true between two rows of the documents of all awake navigables stays.
use Rattle.std.proofs.Common.{◌≡◌, ℕ, true, false, ◌==◌, List, length, Option, Some, None, refl, sym, ap, ◌∙◌, subst}
use Rattle.std.specs.Prelude.{option_map}
use Rattle.tab_ids.specs.declared.ProcId.{ProcId}
use Rattle.tab_ids.specs.declared.EntryId.{EntryId}
use Rattle.tab_ids.specs.declared.Epoch.{Epoch}
use Rattle.log_model.specs.declared.job.Job.{Job}
use Rattle.log_model.specs.declared.job.Order.{Order}
use Rattle.log_model.specs.declared.made.Report.{Report}
use Rattle.log_model.specs.declared.made.Report.TheVariants as reports
use Rattle.log_model.specs.declared.outcome.Outcome.{Outcome}
use Rattle.log_model.specs.declared.outcome.Outcome.TheVariants as outcomes
use Rattle.log_model.specs.declared.row_kind.Actor.TheVariants as actors
use Rattle.log_model.specs.declared.row_kind.RowKind.TheVariants as rows
use Rattle.log_model.specs.Seen.{Seen, Document, Desk, Place, document_of, desk_of, place_in}
use Rattle.log_model.specs.After.{after, on_document, desk_finished, desk_delivered}
use Rattle.log_model.specs.AfterDocuments.{documents_finished, slot_finished, documents_delivered}
use Rattle.log_model.specs.AfterPlaces.{places_delivered}
use Rattle.seen_laws.proofs.Keyed.{find_has}
use Rattle.seen_facts.specs.Coord.Leading.{is_live_order, held_back, once_finished, EachAwake}
use Rattle.seen_facts.specs.Coord.Reaching.{Reaches}
use Rattle.seen_facts.specs.Coord.Flowing.{Flows}
use Rattle.seen_facts.proofs.Coord.Leadings.{EachWasAwake, as_placed, one_stays, LeadsIn, leads_again}
use Rattle.seen_facts.proofs.Coord.OneDocument.{leads_alike, finished_own, finished_other}
use Rattle.seen_facts.proofs.Coord.Kept.{IsInHand, is_mine, unread_stays, same_places, desk_stays_on}
use Rattle.seen_facts.proofs.Coord.Reached.{IsOfOne, delivered_reaches, finished_reaches, finished_elsewhere}
use Rattle.seen_facts.proofs.Coord.Arrived.{IsFirstReport, coming_alike, delivered_before}
use Rattle.seen_facts.proofs.Coord.Whose.{had_status, whose_same, whose_one}
use Rattle.seen_facts.proofs.Coord.EachDocuments.{IsOneOfEach, each_stays}
use Rattle.seen_facts.proofs.Coord.Within.{within_more, finished_within, finished_apart}
use Rattle.seen_facts.proofs.Coord.Withins.{WithinIn, within_again, unmoved}
use Rattle.seen_facts.proofs.Coord.WithinLeft.{delivered_within}
use Rattle.seen_facts.proofs.Coord.WithinRows.{as_far, desk_within}

-- what a question or a fragment navigation comes to
abbrev pub IsAnswer : Outcome → Type 0
IsAnswer (outcomes.Asked verdict) = Unit {0}
IsAnswer outcomes.Fragmented = Unit {0}
IsAnswer _ = ⊥

same_slots : (documents : List Document) (job : Job) (outcome : Outcome) → IsAnswer outcome → slot_finished documents (Some job) outcome ≡ documents
same_slots documents job (outcomes.Asked verdict) is = refl
same_slots documents job outcomes.Fragmented is = refl
same_slots documents job _ is = elim is [ ]

same_told : (documents : List Document) (job : Job) (outcome : Outcome) → IsAnswer outcome → documents_delivered documents (Some (reports.Done job outcome None)) ≡ documents
same_told documents job (outcomes.Asked verdict) is = refl
same_told documents job outcomes.Fragmented is = refl
same_told documents job _ is = elim is [ ]

-- ---- it is finished

module _ (s : Seen) (event : ℕ) (proc : ProcId) (order : Order) (outcome : Outcome) (in_ : IsInHand s proc order) (is : IsAnswer outcome) (of : IsOfOne order.job.task) where
  abbrev pub after_answer : Seen
  after_answer =
      after s (record { event = event; actor = actors.Proc proc; row = rows.Finished proc order.job.nr outcome })

  abbrev once_answered : Document → Document
  once_answered d = once_finished d order.job

  documents_are : after_answer.documents ≡ on_document order.job.doc once_answered s.documents
  documents_are =
      ap (λ (job : Option Job). slot_finished (documents_finished s.documents job) job outcome) (ap (λ (o : Option Order). option_map (λ (x : Order). x.job) o) in_.hand)
      ∙ same_slots (documents_finished s.documents (Some order.job)) order.job outcome is

  mine : (d : Document) → document_of s order.job.doc ≡ Some d → is_live_order d.nr (length (desk_of s proc).killed) order.job ≡ true
  mine d there =
      is_mine d.nr (length (desk_of s proc).killed) order.job (sym (find_has (λ (x : Document). x.nr.0) order.job.doc.0 s.documents d there)) in_.lives

  answer_stays : (F : Desk → Document → Option EntryId → Epoch → Type 0) → ((d : Document) (given : Option EntryId) (epoch : Epoch) → document_of s order.job.doc ≡ Some d → F (desk_of s proc) d given epoch → F (desk_finished outcome (desk_of s proc)) (once_answered d) given epoch) → ((x : Document) (given : Option EntryId) (epoch : Epoch) → (order.job.doc.0 == x.nr.0) ≡ false → F (desk_of s proc) x given epoch → F (desk_finished outcome (desk_of s proc)) x given epoch) → EachAwake F s → EachAwake F after_answer
  answer_stays F own other each =
      one_stays F s after_answer proc (desk_finished outcome) order.job.doc once_answered
      (record {
        desks = refl;
        documents = documents_are;
        keeps_proc = λ desk. refl;
        keeps_number = λ d. refl;
        stays = λ d. refl;
        home = in_.home;
        own = λ nav place d placed wakes there. own d place.given place.epoch there (subst (λ (p : ProcId). F (desk_of s p) d place.given place.epoch) (in_.home d there) (each nav place order.job.doc d placed wakes there));
        others = λ nav place at placed wakes apart. as_placed s nav place placed;
        other = other;
      })
      each

  within_change : IsOneOfEach (WithinIn s) s after_answer proc (desk_finished outcome) order.job.doc once_answered
  within_change =
      record {
        desks = refl;
        documents = documents_are;
        keeps_proc = λ desk. refl;
        keeps_number = λ d. refl;
        stays = λ d. refl;
        stays_in = λ d. refl;
        had = λ nav place placed. unmoved s nav place placed;
        grows = λ desk d m n more was. within_more (held_back s.requests s.parked) desk d m n more was;
        home = in_.home;
        own = λ d place there placed was. finished_within (held_back s.requests s.parked) (desk_of s proc) order outcome d place.epoch.0 in_.hand (mine d there) was;
        other = λ d bound apart was. finished_apart (held_back s.requests s.parked) (desk_of s proc) order outcome d bound in_.hand apart was;
      }

  pub answer_flows : held_back after_answer.requests after_answer.parked ≡ held_back s.requests s.parked → Flows s → Flows after_answer
  answer_flows held flows =
      record {
        leads = leads_again s after_answer refl held (answer_stays (LeadsIn s) (λ d given epoch there leads. leads_alike s.history.rows (held_back s.requests s.parked) (desk_of s proc) (desk_finished outcome (desk_of s proc)) d (once_answered d) given epoch (finished_own (held_back s.requests s.parked) (desk_of s proc) order outcome d epoch in_.hand (mine d there)) leads) (λ x given epoch apart leads. leads_alike s.history.rows (held_back s.requests s.parked) (desk_of s proc) (desk_finished outcome (desk_of s proc)) x x given epoch (finished_other (held_back s.requests s.parked) (desk_of s proc) order outcome x epoch in_.hand apart) leads) flows.leads);
        whose = whose_one s after_answer order.job.doc once_answered documents_are (λ d. refl) (λ d. refl) (had_status s after_answer (same_places s after_answer refl)) flows.whose;
        reaches = answer_stays (λ desk x given epoch. Reaches desk x epoch) (λ d given epoch there reaches. finished_reaches (desk_of s proc) order outcome d epoch in_.hand (mine d there) of reaches) (λ x given epoch apart reaches. finished_elsewhere (desk_of s proc) order outcome x epoch in_.hand apart reaches) flows.reaches;
        within = within_again s after_answer held (each_stays (WithinIn s) s after_answer proc (desk_finished outcome) order.job.doc once_answered within_change flows.within);
      }

-- ---- the report of it is delivered, where nothing was made

module _ (s : Seen) (event : ℕ) (proc : ProcId) (job : Job) (outcome : Outcome) (first : IsFirstReport (desk_of s proc) job outcome) (is : IsAnswer outcome) where
  abbrev pub after_report : Seen
  after_report = after s (record { event = event; actor = actors.Coord; row = rows.Delivered proc })

  documents_as : after_report.documents ≡ s.documents
  documents_as = ap (λ (o : Option Report). documents_delivered s.documents o) first ∙ same_told s.documents job outcome is

  places_before : EachWasAwake s after_report
  places_before nav place placed =
      delivered_before s job outcome job.task refl nav place (ap (λ (places : List Place). place_in places nav) (sym (ap (λ (o : Option Report). places_delivered s o) first)) ∙ placed)

  report_stays : (F : Desk → Document → Option EntryId → Epoch → Type 0) → ((d : Document) (given : Option EntryId) (epoch : Epoch) → F (desk_of s proc) d given epoch → F (desk_delivered (desk_of s proc)) d given epoch) → EachAwake F s → EachAwake F after_report
  report_stays F on each =
      unread_stays F s after_report
      (record {
        documents = documents_as;
        places = places_before;
        stays_on = desk_stays_on F s after_report proc desk_delivered refl (λ desk. refl) on;
      })
      each

  pub report_flows : held_back after_report.requests after_report.parked ≡ held_back s.requests s.parked → Flows s → Flows after_report
  report_flows held flows =
      record {
        leads = leads_again s after_report refl held (report_stays (LeadsIn s) (λ d given epoch leads. leads_alike s.history.rows (held_back s.requests s.parked) (desk_of s proc) (desk_delivered (desk_of s proc)) d d given epoch (coming_alike (held_back s.requests s.parked) (desk_of s proc) job outcome d epoch first) leads) flows.leads);
        whose = whose_same s after_report documents_as (had_status s after_report places_before) flows.whose;
        reaches = report_stays (λ desk x given epoch. Reaches desk x epoch) (λ d given epoch reaches. delivered_reaches (desk_of s proc) d epoch reaches) flows.reaches;
        within = desk_within s after_report proc desk_delivered documents_as (λ nav place placed. as_far s nav place (places_before nav place placed)) held refl (λ desk. refl) (λ d bound was. delivered_within (held_back s.requests s.parked) (desk_of s proc) d d bound refl refl was) flows.within;
      }
