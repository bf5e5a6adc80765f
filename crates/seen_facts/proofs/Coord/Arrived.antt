-- The report of an order that made nothing is delivered: what is on its way for each document stays.
use Rattle.std.proofs.Common.{◌≡◌, ℕ, Bool, true, false, ◌==◌, List, [], ◌∷◌, ◌++◌, drop, Option, Some, None, refl, sym, ap, ◌∙◌, arith}
use Rattle.std.specs.Prelude.{filter, filter_map, slice_get, option_map, option_and_then, if◌then◌else◌}
use Rattle.std.specs.Option.{option_map_or}
use Rattle.std.proofs.lemmas.Bool.Decides.{nat_tests}
use Rattle.tab_ids.specs.declared.Epoch.{Epoch}
use Rattle.tab_ids.specs.declared.NavId.{NavId}
use Rattle.tab_ids.specs.declared.ProcId.{ProcId}
use Rattle.tab_ids.specs.declared.ReqId.{ReqId}
use Rattle.log_model.specs.declared.job.Job.{Job}
use Rattle.log_model.specs.declared.job.Task.{Task}
use Rattle.log_model.specs.declared.job.Task.TheVariants as tasks
use Rattle.log_model.specs.declared.made.Made.{Made}
use Rattle.log_model.specs.declared.made.Report.{Report}
use Rattle.log_model.specs.declared.made.Report.TheVariants as reports
use Rattle.log_model.specs.declared.outcome.Outcome.{Outcome}
use Rattle.log_model.specs.declared.outcome.Outcome.TheVariants as outcomes
use Rattle.log_model.specs.declared.row_kind.Actor.TheVariants as actors
use Rattle.log_model.specs.declared.row_kind.RowKind.TheVariants as rows
use Rattle.log_model.specs.Seen.{Seen, Document, Desk, Asked, Place, document_of, desk_of, place_in}
use Rattle.log_model.specs.After.{after, desk_delivered}
use Rattle.log_model.specs.AfterDocuments.{documents_delivered}
use Rattle.log_model.specs.AfterPlaces.{on_place, place_arrived, places_delivered}
use Rattle.log_model.specs.AfterRequests.{made_of_report, requests_delivered, is_held_back}
use Rattle.seen_laws.proofs.Keyed.{find_on_same, find_on_other}
use Rattle.seen_facts.specs.Coord.Leading.{is_made_under, held_back, EachLeads}
use Rattle.seen_facts.proofs.Coord.Leadings.{WasAwake, EachWasAwake, as_placed, LeadsIn, leads_again}
use Rattle.seen_facts.proofs.Coord.OneDocument.{LooksAlike, leads_alike}
use Rattle.seen_facts.proofs.Coord.Kept.{IsPlainOutcome, unread_stays, desk_stays_on}

-- the report of an order is the first
abbrev pub IsFirstReport : Desk → Job → Outcome → Type 0
IsFirstReport desk job outcome = slice_get desk.reports 0 ≡ Some (reports.Done job outcome None)

-- it tells of nothing made
pub coming_alike : (held : List Made) (desk : Desk) (job : Job) (outcome : Outcome) (d : Document) (epoch : Epoch) → IsFirstReport desk job outcome → LooksAlike held desk (desk_delivered desk) d d epoch
coming_alike held desk job outcome d epoch first =
    record {
      pending = refl;
      coming = ap (λ (made : List Made). filter (is_made_under d.nr epoch) (held ++ made)) (by_reports desk.reports first);
      told = refl;
    }
  where
    by_reports : (waiting : List Report) → slice_get waiting 0 ≡ Some (reports.Done job outcome None) → filter_map made_of_report (drop 1 waiting) ≡ filter_map made_of_report waiting
    by_reports [] first = cc
    by_reports (report ∷ waiting) first =
        let same : report ≡ reports.Done job outcome None = cc in rw same refl

-- it changes no document and no request
same_documents : (documents : List Document) (job : Job) (outcome : Outcome) → IsPlainOutcome outcome → documents_delivered documents (Some (reports.Done job outcome None)) ≡ documents
same_documents documents job outcomes.Activated is = refl
same_documents documents job outcomes.Updated is = refl
same_documents documents job outcomes.Frozen is = refl
same_documents documents job outcomes.Discarded is = refl
same_documents documents job _ is = elim is [ ]

same_requests : (asked : List Asked) (job : Job) (outcome : Outcome) → IsPlainOutcome outcome → requests_delivered (Some (reports.Done job outcome None)) asked ≡ asked
same_requests asked job outcomes.Activated is = refl
same_requests asked job outcomes.Updated is = refl
same_requests asked job outcomes.Frozen is = refl
same_requests asked job outcomes.Discarded is = refl
same_requests asked job _ is = elim is [ ]

-- the place of an arrival is as it was but for that
arrived_before : (s : Seen) (job : Job) (d : Document) (nav : NavId) (place : Place) → place_in (on_place d.nav (place_arrived job) s.places) nav ≡ Some place → WasAwake s nav place
arrived_before s job d nav place there = by_nav (d.nav.0 == nav.0) refl
  where
    found : place_in (on_place d.nav (place_arrived job) s.places) d.nav ≡ option_map (place_arrived job) (place_in s.places d.nav)
    found = find_on_same (λ (p : Place). p.nav.0) (place_arrived job) d.nav.0 s.places (λ p. refl)

    by_place : (o : Option Place) → place_in s.places d.nav ≡ o → option_map (place_arrived job) o ≡ Some place → d.nav ≡ nav → WasAwake s nav place
    by_place None e marked same = cc
    by_place (Some p) e marked same =
        let is : place_arrived job p ≡ place = cc in
        record {
          before = p;
          there = ap (λ (n : NavId). place_in s.places n) (sym same) ∙ e;
          status = ap (λ (q : Place). q.status) is;
          given = ap (λ (q : Place). q.given) is;
          epoch = ap (λ (q : Place). q.epoch) is;
        }

    by_nav : (b : Bool) → (d.nav.0 == nav.0) ≡ b → WasAwake s nav place
    by_nav true e =
        let same : d.nav ≡ nav = ap (λ (n : ℕ). let x : NavId = record { 0 = n } in x) (let is : d.nav.0 ≡ nav.0 = grind (arith, nat_tests, e) in is) in
        by_place (place_in s.places d.nav) refl (sym found ∙ ap (λ (n : NavId). place_in (on_place d.nav (place_arrived job) s.places) n) same ∙ there) same
    by_nav false e =
        record {
          before = place;
          there = sym (find_on_other (λ (p : Place). p.nav.0) (place_arrived job) d.nav.0 nav.0 s.places (λ p. refl) e) ∙ there;
          status = refl;
          given = refl;
          epoch = refl;
        }

-- only the report of an Activate tells of a place
pub delivered_before : (s : Seen) (job : Job) (outcome : Outcome) (task : Task) → job.task ≡ task → (nav : NavId) (place : Place) → place_in (places_delivered s (Some (reports.Done job outcome None))) nav ≡ Some place → WasAwake s nav place
delivered_before s job outcome (tasks.Activate entry epoch long at memo address) is nav place there = by_document (document_of s job.doc) refl
  where
    by_document : (o : Option Document) → document_of s job.doc ≡ o → WasAwake s nav place
    by_document None e = as_placed s nav place (sym (rw (is, e) refl) ∙ there)
    by_document (Some d) e = arrived_before s job d nav place (sym (rw (is, e) refl) ∙ there)
delivered_before s job outcome (tasks.Populate of state address initial) is nav place there = as_placed s nav place (sym (rw is refl) ∙ there)
delivered_before s job outcome (tasks.Update long at) is nav place there = as_placed s nav place (sym (rw is refl) ∙ there)
delivered_before s job outcome tasks.Freeze is nav place there = as_placed s nav place (sym (rw is refl) ∙ there)
delivered_before s job outcome tasks.Discard is nav place there = as_placed s nav place (sym (rw is refl) ∙ there)
delivered_before s job outcome (tasks.Ask slot cause) is nav place there = as_placed s nav place (sym (rw is refl) ∙ there)
delivered_before s job outcome (tasks.DoFragment req mode address) is nav place there = as_placed s nav place (sym (rw is refl) ∙ there)

module _ (s : Seen) (event : ℕ) (proc : ProcId) (job : Job) (outcome : Outcome) (first : IsFirstReport (desk_of s proc) job outcome) (plain : IsPlainOutcome outcome) where
  abbrev after_delivery : Seen
  after_delivery = after s (record { event = event; actor = actors.Coord; row = rows.Delivered proc })

  parked_as : after_delivery.parked ≡ s.parked
  parked_as =
      ap (λ (o : Option Report). option_map_or (λ (made : Made). if is_held_back s made then s.parked ++ made.req ∷ [] else s.parked) (option_and_then made_of_report o) s.parked) first

  requests_as : after_delivery.requests ≡ s.requests
  requests_as =
      ap (λ (o : Option Report). requests_delivered o s.requests) first ∙ same_requests s.requests job outcome plain

  places_as : after_delivery.places ≡ places_delivered s (Some (reports.Done job outcome None))
  places_as = ap (λ (o : Option Report). places_delivered s o) first

  pub places_before : EachWasAwake s after_delivery
  places_before nav place placed =
      delivered_before s job outcome job.task refl nav place (ap (λ (places : List Place). place_in places nav) (sym places_as) ∙ placed)

  pub documents_as : after_delivery.documents ≡ s.documents
  documents_as =
      ap (λ (o : Option Report). documents_delivered s.documents o) first ∙ same_documents s.documents job outcome plain

  pub held_as : held_back after_delivery.requests after_delivery.parked ≡ held_back s.requests s.parked
  held_as =
      ap (λ (asked : List Asked). held_back asked after_delivery.parked) requests_as ∙ ap (λ (parked : List ReqId). held_back s.requests parked) parked_as

  pub delivered_leads : EachLeads s → EachLeads after_delivery
  delivered_leads each =
      leads_again s after_delivery refl held_as
      (unread_stays (LeadsIn s) s after_delivery
      (record {
        documents = documents_as;
        places = places_before;
        stays_on = desk_stays_on (LeadsIn s) s after_delivery proc desk_delivered refl (λ desk. refl) (λ d given epoch leads. leads_alike s.history.rows (held_back s.requests s.parked) (desk_of s proc) (desk_delivered (desk_of s proc)) d d given epoch (coming_alike (held_back s.requests s.parked) (desk_of s proc) job outcome d epoch first) leads);
      })
      each)
