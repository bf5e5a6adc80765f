-- A report that is no answer to a question is seen as it is delivered.
use Rattle.std.proofs.Common.{◌≡◌, ℕ, Bool, true, false, cond, not, ◌&&◌, ◌==◌, List, [], ◌∷◌, ◌++◌, map, Option, Some, None, refl, sym, ap, ◌∙◌}
use Rattle.std.specs.Prelude.{filter, option_map, option_and_then, slice_get, if◌then◌else◌}
use Rattle.std.specs.List.{list_any}
use Rattle.std.specs.Option.{option_map_or}
use Rattle.tab_ids.specs.declared.Death.{Death}
use Rattle.tab_ids.specs.declared.DocId.{DocId}
use Rattle.tab_ids.specs.declared.NavId.{NavId}
use Rattle.tab_ids.specs.declared.ProcId.{ProcId}
use Rattle.tab_ids.specs.declared.ReqId.{ReqId}
use Rattle.log_model.specs.declared.job.Task.{Task}
use Rattle.log_model.specs.declared.job.Task.TheVariants as tasks
use Rattle.log_model.specs.declared.job.Why.TheVariants as whys
use Rattle.log_model.specs.declared.made.Made.{Made}
use Rattle.log_model.specs.declared.made.Report.{Report}
use Rattle.log_model.specs.declared.made.Report.TheVariants as reports
use Rattle.log_model.specs.declared.outcome.Outcome.TheVariants as outcomes
use Rattle.log_model.specs.declared.row_kind.Actor.{Actor}
use Rattle.log_model.specs.declared.row_kind.RowKind.TheVariants as rows
use Rattle.log_model.specs.Equal.{holds}
use Rattle.log_model.specs.History.{has_row}
use Rattle.log_model.specs.Places.{awake_document, is_asleep, is_awake}
use Rattle.log_model.specs.Seen.{Asked, Desk, Document, Place, Seen, document_of, desk_of, place_of, asleep, lost}
use Rattle.log_model.specs.After.{after, desk_delivered, known_after}
use Rattle.log_model.specs.AfterDocuments.{documents_delivered}
use Rattle.log_model.specs.AfterPlaces.{is_dead_by, is_taken_by, kept_delivered, on_place, place_arrived, places_delivered}
use Rattle.log_model.specs.AfterRequests.{changes_history, is_held_back, is_held_up, is_in_place, is_traversed, joined_delivered, made_of_report, requests_delivered}
use Rattle.unasked.specs.Premises.{IsUnheld}
use Rattle.seen_laws.specs.Unasked.{is_question, no_answer, quiet_desk, unasked, unasked_request, unhandled, without_slot}
use Rattle.unasked.proofs.Lists.{desk_past, map_past}
use Rattle.unasked.proofs.Readings.{desk_read, document_read, tested_read, traversed_read}
use Rattle.unasked.proofs.Rows.{document_past, reports_first, reports_rest, served_past}
use Rattle.unasked.proofs.Works.{heard_past}
use Rattle.unasked.proofs.Whole.{row_of, seen}

-- functions that give the same are the same
pub fun_ext : {A B : Type 0} {f g : A → B} → ((x : A) → f x ≡ g x) → f ≡ g
fun_ext h = λ i x. h x i

-- ---- a report

-- it tells of no handler
abbrev pub untold : Report → Report
untold (reports.Done job outcome made) = reports.Done job (without_slot outcome) made
untold report = report

-- which is all that is left out of one that answers no question
pub untold_is : (report told : Report) → no_answer report ≡ Some told → told ≡ untold report
untold_is (reports.Done job outcome made) told is = by_task (is_question job.task) is
  where
    by_task : (b : Bool) → (let o : Option Report = cond b None (Some (reports.Done job (without_slot outcome) made)) in o) ≡ Some told → told ≡ reports.Done job (without_slot outcome) made
    by_task true e = absurd cc
    by_task false e = cc
untold_is (reports.Made made) told is = cc
untold_is (reports.Died death) told is = cc

-- what was made
pub made_same : (report : Report) → made_of_report report ≡ made_of_report (untold report)
made_same (reports.Done job outcome made) = refl
made_same (reports.Made made) = refl
made_same (reports.Died death) = refl

-- how many deaths are known
pub known_same : (known : ℕ) (report : Report) → known_after known (Some report) ≡ known_after known (Some (untold report))
known_same known (reports.Done job outcome made) = refl
known_same known (reports.Made made) = refl
known_same known (reports.Died death) = refl

-- the documents
pub documents_past : (documents : List Document) (report : Report) → map unhandled (documents_delivered documents (Some report)) ≡ documents_delivered (map unhandled documents) (Some (untold report))
documents_past documents (reports.Done job (outcomes.Populated slot) made) =
    document_past job.doc (λ d. record d { is_ready = true; is_fresh = true }) (λ d. record d { is_ready = true; is_fresh = true }) documents (λ d. refl)
documents_past documents (reports.Done job outcomes.Activated made) = refl
documents_past documents (reports.Done job outcomes.Updated made) = refl
documents_past documents (reports.Done job outcomes.Frozen made) = refl
documents_past documents (reports.Done job outcomes.Discarded made) = refl
documents_past documents (reports.Done job (outcomes.Asked verdict) made) = refl
documents_past documents (reports.Done job outcomes.Fragmented made) = refl
documents_past documents (reports.Made made) = refl
documents_past documents (reports.Died death) =
    map_past unhandled (λ d. if is_dead_by death d then record d { is_known_dead = true } else d) (λ d. if is_dead_by death d then record d { is_known_dead = true } else d) documents (λ d. elim (is_dead_by death d) as (λ b. unhandled (cond b (record d { is_known_dead = true }) d) ≡ cond b (record (unhandled d) { is_known_dead = true }) (unhandled d)) [ true ↦ refl | false ↦ refl ])

-- the requests
pub requests_past : (checking : ReqId → Bool) (asked : List Asked) (report : Report) → map (unasked_request checking) (requests_delivered (Some report) asked) ≡ requests_delivered (Some (untold report)) (map (unasked_request checking) asked)
requests_past checking asked (reports.Done job (outcomes.Asked verdict) made) =
    served_past checking job.why _ _ asked (heard_past job.nr (λ asking. record asking { is_delivered = true }))
requests_past checking asked (reports.Done job (outcomes.Populated slot) made) = refl
requests_past checking asked (reports.Done job outcomes.Activated made) = refl
requests_past checking asked (reports.Done job outcomes.Updated made) = refl
requests_past checking asked (reports.Done job outcomes.Frozen made) = refl
requests_past checking asked (reports.Done job outcomes.Discarded made) = refl
requests_past checking asked (reports.Done job outcomes.Fragmented made) = refl
requests_past checking asked (reports.Made made) = refl
requests_past checking asked (reports.Died death) = refl

-- a desk whose first report is no answer to a question
pub delivered_past : (desk : Desk) (report told : Report) → slice_get desk.reports 0 ≡ Some report → no_answer report ≡ Some told → quiet_desk (desk_delivered desk) ≡ desk_delivered (quiet_desk desk)
delivered_past desk report told at is =
    λ i. record (quiet_desk desk) {
      reports = reports_rest desk.reports report told at is i;
      known = (ap (known_after desk.known) at ∙ known_same desk.known report ∙ ap (λ r. known_after desk.known (Some r)) (sym (untold_is report told is)) ∙ ap (known_after desk.known) (sym (reports_first desk.reports report told at is))) i;
    }

module _ (checking : ReqId → Bool) (s : Seen) where
  -- ---- whom a death takes

  -- a document that a death takes
  pub taken_same : (death : Death) → is_taken_by s death ≡ is_taken_by (unasked checking s) death
  taken_same death = fun_ext (λ doc. sym (tested_read checking s (is_dead_by death) (λ d. refl) doc))

  -- a place that loses its document, by which documents the death takes
  abbrev pub bereft : (DocId → Bool) → Death → Place → Place
  bereft taken death place =
      if list_any (λ nav. holds (λ (p : Place). holds taken (awake_document p)) (place_of s nav)) place.above && not (is_asleep place) then
      record place { status = asleep; why = whys.Death death }
      else (if holds taken (awake_document place) then record place { status = lost; why = whys.Death death } else place)

  -- the places
  pub places_same : (report : Report) → places_delivered s (Some report) ≡ places_delivered (unasked checking s) (Some (untold report))
  places_same (reports.Died death) = ap (λ taken. map (bereft taken death) s.places) (taken_same death)
  places_same (reports.Made made) = refl
  places_same (reports.Done job outcome made) = by_task job.task refl
    where
      shown : (o : Option Document) → option_map_or (λ (d : Document). on_place d.nav (place_arrived job) s.places) o s.places ≡ option_map_or (λ (d : Document). on_place d.nav (place_arrived job) s.places) (option_map unhandled o) s.places
      shown None = refl
      shown (Some d) = refl

      by_task : (task : Task) → job.task ≡ task → places_delivered s (Some (reports.Done job outcome made)) ≡ places_delivered (unasked checking s) (Some (reports.Done job (without_slot outcome) made))
      by_task (tasks.Activate entry epoch length index memo address) e =
          rw e (shown (document_of s job.doc) ∙ ap (λ o. option_map_or (λ (d : Document). on_place d.nav (place_arrived job) s.places) o s.places) (sym (document_read checking s job.doc)))
      by_task (tasks.Populate nav state address initial) e = rw e refl
      by_task (tasks.Update length index) e = rw e refl
      by_task tasks.Freeze e = rw e refl
      by_task tasks.Discard e = rw e refl
      by_task (tasks.Ask slot cause) e = rw e refl
      by_task (tasks.DoFragment req mode address) e = rw e refl

  -- the kept documents
  pub kept_same : (report : Report) → kept_delivered s (Some report) ≡ kept_delivered (unasked checking s) (Some (untold report))
  kept_same (reports.Died death) = ap (λ taken. filter (λ (doc : DocId). not (taken doc)) s.kept) (taken_same death)
  kept_same (reports.Made made) = refl
  kept_same (reports.Done job outcome made) = refl

  -- ---- what is held back

  -- what was made is present, in a navigable that has a row
  pub in_place_same : (made : Made) → is_in_place (unasked checking s) made ≡ is_in_place s made
  in_place_same made =
      λ i. tested_read checking s (λ (d : Document). holds (λ (place : Place). is_awake place && place.epoch.0 == made.epoch.0) (place_of s d.nav)) (λ d. refl) made.doc i && tested_read checking s (λ (d : Document). has_row d.nav s.history.rows) (λ d. refl) made.doc i

  -- its navigable was shown a document
  pub held_up_same : IsUnheld checking s → (made : Made) → is_held_up (unasked checking s) made ≡ is_held_up s made
  held_up_same unheld made =
      ap (λ (shows : NavId → Bool). holds (λ (d : Document). shows d.nav) (document_of (unasked checking s) made.doc)) (fun_ext (traversed_read checking s unheld))
      ∙ tested_read checking s (λ (d : Document). is_traversed s d.nav) (λ d. refl) made.doc

  -- so the same is held back
  pub held_back_same : IsUnheld checking s → (made : Made) → is_held_back s made ≡ is_held_back (unasked checking s) made
  held_back_same unheld made =
      sym (λ i. changes_history made.what && in_place_same made i && held_up_same unheld made i)

  -- ---- the row

  -- a report that is no answer to a question is delivered
  pub delivered_seen : (event : ℕ) (actor : Actor) (proc : ProcId) (report told : Report) → slice_get (desk_of s proc).reports 0 ≡ Some report → no_answer report ≡ Some told → IsUnheld checking s → unasked checking (after s (row_of event actor (rows.Delivered proc))) ≡ after (unasked checking s) (row_of event actor (rows.Delivered proc))
  delivered_seen event actor proc report told at is unheld =
      let row = row_of event actor (rows.Delivered proc) in
      let new : slice_get (desk_of (unasked checking s) proc).reports 0 ≡ Some (untold report) = ap (λ (desk : Desk). slice_get desk.reports 0) (desk_read checking s proc) ∙ reports_first (desk_of s proc).reports report told at is ∙ ap (λ r. let o : Option Report = Some r in o) (untold_is report told is) in
      seen checking s row row (record {
        fixed = refl;
        documents =
            ap (λ o. map unhandled (documents_delivered s.documents o)) at
            ∙ documents_past s.documents report
            ∙ ap (documents_delivered (map unhandled s.documents)) (sym new);
        desks = desk_past desk_delivered desk_delivered proc s.desks (delivered_past (desk_of s proc) report told at is);
        requests =
            ap (λ o. map (unasked_request checking) (requests_delivered o s.requests)) at
            ∙ requests_past checking s.requests report
            ∙ ap (λ o. requests_delivered o (map (unasked_request checking) s.requests)) (sym new);
        places = ap (places_delivered s) at ∙ places_same report ∙ ap (places_delivered (unasked checking s)) (sym new);
        kept = ap (kept_delivered s) at ∙ kept_same report ∙ ap (kept_delivered (unasked checking s)) (sym new);
        joined = ap (λ o. joined_delivered s.joined (option_and_then made_of_report o)) at ∙ ap (joined_delivered s.joined) (made_same report) ∙ ap (λ o. joined_delivered s.joined (option_and_then made_of_report o)) (sym new);
        parked = ap (λ o. parks (is_held_back s) (option_and_then made_of_report o)) at ∙ (λ i. parks (λ made. held_back_same unheld made i) (made_same report i)) ∙ ap (λ o. parks (is_held_back (unasked checking s)) (option_and_then made_of_report o)) (sym new);
        states = refl;
        finished = refl;
        step = refl;
        stood = refl;
      })
    where
      parks : (Made → Bool) → Option Made → List ReqId
      parks holds_back o =
          option_map_or (λ (made : Made). if holds_back made then s.parked ++ made.req ∷ [] else s.parked) o s.parked
