-- The report of what a document made is delivered, whether of a poke or of a fragment order, and nothing is applied yet: where it is of an earlier epoch, or shows no entry, or is held back, what is true between two rows of the documents of all awake navigables stays.
-- The state is read as if the report were of a poke: its process says the same.
use Rattle.std.proofs.Common.{◌≡◌, ℕ, Bool, true, false, ◌==◌, List, [], ◌∷◌, ◌++◌, drop, Option, Some, refl, sym, ap, ◌∙◌, subst}
use Rattle.std.specs.Prelude.{filter, filter_map, slice_get, option_and_then, if◌then◌else◌}
use Rattle.std.specs.Option.{option_map_or}
use Rattle.tab_ids.specs.declared.NavId.{NavId}
use Rattle.tab_ids.specs.declared.ProcId.{ProcId}
use Rattle.tab_ids.specs.declared.ReqId.{ReqId}
use Rattle.log_model.specs.declared.job.Job.{Job}
use Rattle.log_model.specs.declared.made.Made.{Made}
use Rattle.log_model.specs.declared.made.Report.{Report}
use Rattle.log_model.specs.declared.made.Report.TheVariants as reports
use Rattle.log_model.specs.declared.outcome.Outcome.TheVariants as outcomes
use Rattle.log_model.specs.declared.row_kind.Actor.TheVariants as actors
use Rattle.log_model.specs.declared.row_kind.RowKind.TheVariants as rows
use Rattle.log_model.specs.After.{after, on_desk, desk_delivered}
use Rattle.log_model.specs.AfterDocuments.{documents_delivered}
use Rattle.log_model.specs.AfterPlaces.{places_delivered}
use Rattle.log_model.specs.AfterRequests.{made_of_report, is_held_back, requests_delivered}
use Rattle.log_model.specs.Seen.{request_in, request_of, Seen, Document, Desk, Asked, Place, awake, document_of, desk_of, place_of, place_in}
use Rattle.std.proofs.lemmas.List.Elements.{filter_map-append}
use Rattle.seen_laws.proofs.Desks.{desk_on_same, desk_on_other}
use Rattle.seen_facts.specs.Coord.Flowing.{Flows}
use Rattle.seen_facts.specs.Coord.Leading.{held_back, is_made_under}
use Rattle.seen_facts.proofs.Coord.Arrived.{delivered_before}
use Rattle.seen_facts.proofs.Coord.DeliveredMade.{ShowsNone}
use Rattle.seen_facts.proofs.Coord.Flowings as flowings
use Rattle.seen_facts.proofs.Coord.Kept.{same_places}
use Rattle.seen_facts.proofs.Coord.Leadings.{EachWasAwake, WasAwake, as_placed, proc_same}
use Rattle.seen_facts.proofs.Coord.OneTaken.{IsFirstMade}
use Rattle.seen_facts.specs.Fragment.Fragments.{IsQuiet, IsFirstMadeOf}
use Rattle.seen_facts.proofs.Fragment.Alike.{SaysAlike, IsUnseen, flows_again}

-- ---- what the report leaves

same_documents : (documents : List Document) (report : Report) → IsQuiet report → documents_delivered documents (Some report) ≡ documents
same_documents documents (reports.Made made) quiet = refl
same_documents documents (reports.Done job outcome made) quiet = rw quiet refl
same_documents documents (reports.Died death) quiet = elim quiet [ ]

same_requests : (asked : List Asked) (report : Report) → IsQuiet report → requests_delivered (Some report) asked ≡ asked
same_requests asked (reports.Made made) quiet = refl
same_requests asked (reports.Done job outcome made) quiet = rw quiet refl
same_requests asked (reports.Died death) quiet = elim quiet [ ]

was_placed : (s : Seen) (report : Report) → IsQuiet report → (nav : NavId) (place : Place) → place_in (places_delivered s (Some report)) nav ≡ Some place → WasAwake s nav place
was_placed s (reports.Made made) quiet nav place there = as_placed s nav place there
was_placed s (reports.Done job outcome made) quiet nav place there = delivered_before s job outcome job.task refl nav place there
was_placed s (reports.Died death) quiet nav place there = elim quiet [ ]

-- what was made of a poke, and of a fragment order
pub of_poke : (desk : Desk) (made : Made) → slice_get desk.reports 0 ≡ Some (reports.Made made) → IsFirstMadeOf desk made
of_poke desk made first = record { report = reports.Made made; first = first; tells = refl; quiet = tt }

pub of_order : (desk : Desk) (job : Job) (made : Made) → slice_get desk.reports 0 ≡ Some (reports.Done job outcomes.Fragmented (Some made)) → IsFirstMadeOf desk made
of_order desk job made first =
    record { report = reports.Done job outcomes.Fragmented (Some made); first = first; tells = refl; quiet = refl }

-- the reports tell of what was made, and then of the rest
pub first_told : (desk : Desk) (made : Made) → IsFirstMadeOf desk made → filter_map made_of_report desk.reports ≡ made ∷ filter_map made_of_report (drop 1 desk.reports)
first_told desk made is = by_reports desk.reports is.first
  where
    by_reports : (waiting : List Report) → slice_get waiting 0 ≡ Some is.report → filter_map made_of_report waiting ≡ made ∷ filter_map made_of_report (drop 1 waiting)
    by_reports [] first = cc
    by_reports (report ∷ waiting) first =
        let same : report ≡ is.report = cc in rw same (rw is.tells refl)

module _ (s : Seen) (event : ℕ) (proc : ProcId) (made : Made) (is : IsFirstMadeOf (desk_of s proc) made) where
  abbrev pub after_delivery : Seen
  after_delivery = after s (record { event = event; actor = actors.Coord; row = rows.Delivered proc })

  pub documents_are : after_delivery.documents ≡ s.documents
  documents_are = ap (λ (o : Option Report). documents_delivered s.documents o) is.first ∙ same_documents s.documents is.report is.quiet

  pub requests_are : after_delivery.requests ≡ s.requests
  requests_are = ap (λ (o : Option Report). requests_delivered o s.requests) is.first ∙ same_requests s.requests is.report is.quiet

  pub places_were : EachWasAwake s after_delivery
  places_were nav place placed =
      was_placed s is.report is.quiet nav place (ap (λ (places : List Place). place_in places nav) (sym (ap (λ (o : Option Report). places_delivered s o) is.first)) ∙ placed)

  -- what is held back then
  abbrev parked_by : Option Made → List ReqId
  parked_by o = option_map_or (λ (m : Made). if is_held_back s m then s.parked ++ m.req ∷ [] else s.parked) o s.parked

  pub parked_is : after_delivery.parked ≡ parked_by (Some made)
  parked_is = ap (λ (o : Option Report). parked_by (option_and_then made_of_report o)) is.first ∙ ap parked_by is.tells

  -- it isn't held back: what is stays
  pub unheld_then : is_held_back s made ≡ false → held_back after_delivery.requests after_delivery.parked ≡ held_back s.requests s.parked
  unheld_then not_held =
      ap (λ (asked : List Asked). held_back asked after_delivery.parked) requests_are
      ∙ ap (λ (parked : List ReqId). held_back s.requests parked) same
    where
      same : after_delivery.parked ≡ s.parked
      same = parked_is ∙ rw not_held refl

  -- it is: it waits behind what was held back before
  pub held_then : (q : Asked) → request_of s made.req ≡ Some q → q.made ≡ Some made → is_held_back s made ≡ true → held_back after_delivery.requests after_delivery.parked ≡ held_back s.requests s.parked ++ made ∷ []
  held_then q asked makes is_held =
      ap (λ (asked : List Asked). held_back asked after_delivery.parked) requests_are
      ∙ ap (λ (parked : List ReqId). held_back s.requests parked) more
      ∙ filter_map-append (λ req. option_and_then (λ (x : Asked). x.made) (request_in s.requests req)) s.parked (made.req ∷ [])
      ∙ ap (λ (l : List Made). held_back s.requests s.parked ++ l) one
    where
      more : after_delivery.parked ≡ s.parked ++ made.req ∷ []
      more = parked_is ∙ rw is_held refl

      one : held_back s.requests (made.req ∷ []) ≡ made ∷ []
      one = rw asked (rw makes refl)

  -- ---- as if it were of a poke

  abbrev pub poke_first : Desk → Desk
  poke_first desk = record desk { reports = reports.Made made ∷ drop 1 desk.reports }

  abbrev pub as_poke : Seen
  as_poke = record s { desks = on_desk proc poke_first s.desks }

  own : desk_of as_poke proc ≡ poke_first (desk_of s proc)
  own = desk_on_same poke_first s.desks proc (λ desk. refl)

  pub poke_is_first : IsFirstMade (desk_of as_poke proc) made
  poke_is_first = ap (λ (desk : Desk). slice_get desk.reports 0) own

  says : (p : ProcId) → SaysAlike (desk_of s p) (desk_of as_poke p)
  says p = by_process (proc.0 == p.0) refl
    where
      by_process : (b : Bool) → (proc.0 == p.0) ≡ b → SaysAlike (desk_of s p) (desk_of as_poke p)
      by_process true e =
          subst (λ (x : ProcId). SaysAlike (desk_of s x) (desk_of as_poke x)) (proc_same proc p e)
          (subst (λ (desk : Desk). SaysAlike (desk_of s proc) desk) (sym own) (record { orders = refl; killed = refl; told = sym (first_told (desk_of s proc) made is) }))
      by_process false e =
          subst (λ (desk : Desk). SaysAlike (desk_of s p) desk) (sym (desk_on_other poke_first s.desks proc p (λ desk. refl) e)) (record { orders = refl; killed = refl; told = refl })

  pub there : IsUnseen s as_poke
  there = record { documents = refl; places = same_places s as_poke refl; rows = refl; held = refl; desks = says }

  abbrev pub poke_delivered : Seen
  poke_delivered = after as_poke (record { event = event; actor = actors.Coord; row = rows.Delivered proc })

  says_then : (p : ProcId) → SaysAlike (desk_of poke_delivered p) (desk_of after_delivery p)
  says_then p = by_process (proc.0 == p.0) refl
    where
      new : desk_of poke_delivered proc ≡ desk_delivered (poke_first (desk_of s proc))
      new = desk_on_same desk_delivered (on_desk proc poke_first s.desks) proc (λ desk. refl) ∙ ap desk_delivered own

      old : desk_of after_delivery proc ≡ desk_delivered (desk_of s proc)
      old = desk_on_same desk_delivered s.desks proc (λ desk. refl)

      by_process : (b : Bool) → (proc.0 == p.0) ≡ b → SaysAlike (desk_of poke_delivered p) (desk_of after_delivery p)
      by_process true e =
          subst (λ (x : ProcId). SaysAlike (desk_of poke_delivered x) (desk_of after_delivery x)) (proc_same proc p e)
          (subst (λ (desk : Desk). SaysAlike desk (desk_of after_delivery proc)) (sym new)
          (subst (λ (desk : Desk). SaysAlike (desk_delivered (poke_first (desk_of s proc))) desk) (sym old) (record { orders = refl; killed = refl; told = refl })))
      by_process false e =
          let one : desk_of poke_delivered p ≡ desk_of s p = desk_on_other desk_delivered (on_desk proc poke_first s.desks) proc p (λ desk. refl) e ∙ desk_on_other poke_first s.desks proc p (λ desk. refl) e in
          let two : desk_of after_delivery p ≡ desk_of s p = desk_on_other desk_delivered s.desks proc p (λ desk. refl) e in
          subst (λ (desk : Desk). SaysAlike desk (desk_of after_delivery p)) (sym one)
          (subst (λ (desk : Desk). SaysAlike (desk_of s p) desk) (sym two) (record { orders = refl; killed = refl; told = refl }))

  pub parked_alike : after_delivery.parked ≡ poke_delivered.parked
  parked_alike =
      parked_is ∙ sym (ap (λ (o : Option Report). parked_by (option_and_then made_of_report o)) poke_is_first)

  -- the same is held back
  same_held : held_back after_delivery.requests after_delivery.parked ≡ held_back poke_delivered.requests poke_delivered.parked
  same_held =
      ap (λ (asked : List Asked). held_back asked after_delivery.parked) requests_are
      ∙ ap (λ (parked : List ReqId). held_back s.requests parked) parked_alike
      ∙ ap (λ (asked : List Asked). held_back asked poke_delivered.parked) (sym then_requests)
    where
      then_requests : poke_delivered.requests ≡ s.requests
      then_requests = ap (λ (o : Option Report). requests_delivered o s.requests) poke_is_first

  pub back : IsUnseen poke_delivered after_delivery
  back =
      record {
        documents = documents_are ∙ sym (ap (λ (o : Option Report). documents_delivered s.documents o) poke_is_first);
        places = λ nav place placed. were nav place (places_were nav place placed);
        rows = refl;
        held = same_held;
        desks = says_then;
      }
    where
      were : (nav : NavId) (place : Place) → WasAwake s nav place → WasAwake poke_delivered nav place
      were nav place was =
          record {
            before = was.before;
            there = ap (λ (places : List Place). place_in places nav) (ap (λ (o : Option Report). places_delivered as_poke o) poke_is_first) ∙ was.there;
            status = was.status;
            given = was.given;
            epoch = was.epoch;
          }

  -- ---- what stays

  module _ (home : (d : Document) → document_of s made.doc ≡ Some d → d.proc ≡ proc) (flows : Flows s) where
    -- of an earlier epoch: nothing of it was coming
    pub outdated_flows : ((nav : NavId) (place : Place) (d : Document) → place_of s nav ≡ Some place → place.status ≡ awake made.doc → document_of s made.doc ≡ Some d → is_made_under d.nr place.epoch made ≡ false) → held_back after_delivery.requests after_delivery.parked ≡ held_back s.requests s.parked → Flows after_delivery
    outdated_flows old held =
        flows_again poke_delivered after_delivery back (flowings.outdated_flows as_poke event proc made poke_is_first home (flows_again s as_poke there flows) old (sym same_held ∙ held))

    -- of the present one, and no entry: a frame that is added or removed, or a traversal
    pub neutral_flows : ((nav : NavId) (place : Place) (d : Document) → place_of s nav ≡ Some place → place.status ≡ awake made.doc → document_of s made.doc ≡ Some d → (is_made_under d.nr place.epoch made ≡ true) × (filter (is_made_under d.nr place.epoch) (held_back s.requests s.parked) ≡ [])) → ShowsNone made.what → held_back after_delivery.requests after_delivery.parked ≡ held_back s.requests s.parked → Flows after_delivery
    neutral_flows present shows held =
        flows_again poke_delivered after_delivery back (flowings.neutral_flows as_poke event proc made poke_is_first home (flows_again s as_poke there flows) present shows (sym same_held ∙ held))

    -- it is held back
    pub parked_flows : held_back after_delivery.requests after_delivery.parked ≡ held_back s.requests s.parked ++ made ∷ [] → Flows after_delivery
    parked_flows held =
        flows_again poke_delivered after_delivery back (flowings.parked_flows as_poke event proc made poke_is_first home (flows_again s as_poke there flows) (sym same_held ∙ held))
