-- An order that asks nobody is seen.
use Rattle.std.proofs.Common.{◌≡◌, ℕ, Bool, true, false, cond, ◌==◌, [], ◌∷◌, ◌++◌, map, Option, Some, None, refl, sym, ap, ◌∙◌}
use Rattle.std.specs.Prelude.{option_map, option_and_then, slice_get}
use Rattle.std.specs.Option.{option_map_or}
use Rattle.std.proofs.lemmas.List.{map-append}
use Rattle.tab_ids.specs.declared.DocId.{DocId}
use Rattle.tab_ids.specs.declared.ReqId.{ReqId}
use Rattle.log_model.specs.declared.job.Job.{Job}
use Rattle.log_model.specs.declared.job.Task.{Task}
use Rattle.log_model.specs.declared.job.Task.TheVariants as tasks
use Rattle.log_model.specs.declared.row_kind.Actor.{Actor}
use Rattle.log_model.specs.declared.row_kind.RowKind.TheVariants as rows
use Rattle.log_model.specs.Seen.{Asked, Desk, Document, Place, Seen, document_of, desk_of, place_of}
use Rattle.log_model.specs.After.{after}
use Rattle.log_model.specs.AfterDocuments.{addressed, documents_sent, new_document}
use Rattle.log_model.specs.AfterPlaces.{activated, kept_leaving, kept_sent, on_place, places_sent, put_to_sleep, sleepers_below, without_doc}
use Rattle.log_model.specs.AfterRequests.{request_served, requests_sent, with_activated, with_moved}
use Rattle.seen_laws.specs.Unasked.{is_question, quiet_desk, unasked, unasked_request, unbegun, unhandled, without_asks}
use Rattle.unasked.proofs.Lists.{desk_past}
use Rattle.unasked.proofs.Readings.{desk_read, document_read, gone_read}
use Rattle.unasked.proofs.Rows.{IsAside, document_past, mail_more, request_past, served_past}
use Rattle.unasked.proofs.Whole.{row_of, seen}

module _ (checking : ReqId → Bool) (s : Seen) (job : Job) where
  -- the documents
  pub documents_same : (task : Task) → is_question task ≡ false → map unhandled (documents_sent s job task) ≡ documents_sent (unasked checking s) job task
  documents_same (tasks.Populate nav state address initial) none =
      map-append unhandled s.documents (new_document s job nav state ∷ [])
      ∙ ap (λ (desk : Desk). map unhandled s.documents ++ record (new_document s job nav state) { dead_by = slice_get desk.killed job.incarnation } ∷ []) (sym (desk_read checking s job.proc))
  documents_same (tasks.Activate entry epoch length index memo address) none =
      let task = tasks.Activate entry epoch length index memo address in
      document_past job.doc (addressed task) (addressed task) s.documents (λ d. refl)
  documents_same (tasks.Update length index) none =
      document_past job.doc (addressed (tasks.Update length index)) (addressed (tasks.Update length index)) s.documents (λ d. refl)
  documents_same tasks.Freeze none =
      document_past job.doc (addressed tasks.Freeze) (addressed tasks.Freeze) s.documents (λ d. refl)
  documents_same tasks.Discard none =
      document_past job.doc (λ d. record d { is_discarded = true }) (λ d. record d { is_discarded = true }) s.documents (λ d. refl)
  documents_same (tasks.DoFragment req mode address) none =
      let task = tasks.DoFragment req mode address in
      document_past job.doc (addressed task) (addressed task) s.documents (λ d. refl)
  documents_same (tasks.Ask slot cause) none = cc

  -- what is moved for a request
  pub served_aside : (task : Task) → is_question task ≡ false → IsAside (request_served s job task) (request_served (unasked checking s) job task)
  served_aside (tasks.Activate entry epoch length index memo address) none =
      record {
        nr = λ q. by_nr q (document_of s job.doc);
        off = λ q. rw (document_read checking s job.doc) (by_off q (document_of s job.doc));
        on = λ q. rw (document_read checking s job.doc) (by_on q (document_of s job.doc));
      }
    where
      by_nr : (q : Asked) (o : Option Document) → (option_map_or (λ (d : Document). with_activated d.nav (with_moved (option_map_or (sleepers_below s job.doc) (place_of s d.nav) []) q)) o q).nr ≡ q.nr
      by_nr q None = refl
      by_nr q (Some d) = refl

      by_off : (q : Asked) (o : Option Document) → without_asks (option_map_or (λ (d : Document). with_activated d.nav (with_moved (option_map_or (sleepers_below s job.doc) (place_of s d.nav) []) q)) o q) ≡ option_map_or (λ (d : Document). with_activated d.nav (with_moved (option_map_or (sleepers_below s job.doc) (place_of s d.nav) []) (without_asks q))) (option_map unhandled o) (without_asks q)
      by_off q None = refl
      by_off q (Some d) = refl

      by_on : (q : Asked) (o : Option Document) → unbegun (option_map_or (λ (d : Document). with_activated d.nav (with_moved (option_map_or (sleepers_below s job.doc) (place_of s d.nav) []) q)) o q) ≡ option_map_or (λ (d : Document). with_activated d.nav (with_moved (option_map_or (sleepers_below s job.doc) (place_of s d.nav) []) (unbegun q))) (option_map unhandled o) (unbegun q)
      by_on q None = refl
      by_on q (Some d) = refl
  served_aside tasks.Freeze none = record { nr = λ q. refl; off = λ q. refl; on = λ q. refl }
  served_aside tasks.Discard none = record { nr = λ q. refl; off = λ q. refl; on = λ q. refl }
  served_aside (tasks.Populate nav state address initial) none = record { nr = λ q. refl; off = λ q. refl; on = λ q. refl }
  served_aside (tasks.Update length index) none = record { nr = λ q. refl; off = λ q. refl; on = λ q. refl }
  served_aside (tasks.DoFragment req mode address) none = record { nr = λ q. refl; off = λ q. refl; on = λ q. refl }
  served_aside (tasks.Ask slot cause) none = cc

  -- the requests
  pub requests_same : (task : Task) → is_question task ≡ false → map (unasked_request checking) (requests_sent s job task s.requests) ≡ requests_sent (unasked checking s) job task (map (unasked_request checking) s.requests)
  requests_same (tasks.DoFragment req mode address) none =
      request_past checking (λ q. record q { fragment = Some job.doc }) (λ q. record q { fragment = Some job.doc }) req s.requests (record { nr = λ q. refl; off = λ q. refl; on = λ q. refl })
  requests_same (tasks.Populate nav state address initial) none = refl
  requests_same (tasks.Update length index) none = refl
  requests_same (tasks.Activate entry epoch length index memo address) none =
      served_past checking job.why _ _ s.requests (served_aside (tasks.Activate entry epoch length index memo address) none)
  requests_same tasks.Freeze none =
      served_past checking job.why _ _ s.requests (served_aside tasks.Freeze none)
  requests_same tasks.Discard none =
      served_past checking job.why _ _ s.requests (served_aside tasks.Discard none)
  requests_same (tasks.Ask slot cause) none = cc

  -- the places
  pub places_same : (task : Task) → places_sent s job task ≡ places_sent (unasked checking s) job task
  places_same (tasks.Activate entry epoch length index memo address) =
      rw (document_read checking s job.doc) (by_found (document_of s job.doc))
    where
      by_found : (o : Option Document) → option_map_or (λ (d : Document). on_place d.nav (activated job entry epoch d) (put_to_sleep (option_map_or (sleepers_below s job.doc) (place_of s d.nav) []) job.why s.places)) o s.places ≡ option_map_or (λ (d : Document). on_place d.nav (activated job entry epoch d) (put_to_sleep (option_map_or (sleepers_below s job.doc) (place_of s d.nav) []) job.why s.places)) (option_map unhandled o) s.places
      by_found None = refl
      by_found (Some d) = refl
  places_same tasks.Freeze = refl
  places_same tasks.Discard = refl
  places_same (tasks.Populate nav state address initial) = refl
  places_same (tasks.Update length index) = refl
  places_same (tasks.DoFragment req mode address) = refl
  places_same (tasks.Ask slot cause) = refl

  -- who is kept as one is left
  pub leaving_same : (left : Option DocId) → kept_leaving s job.doc left ≡ kept_leaving (unasked checking s) job.doc left
  leaving_same None = refl
  leaving_same (Some left) =
      ap (λ b. cond (left.0 == job.doc.0) s.kept (without_doc job.doc (cond b s.kept (left ∷ without_doc left s.kept)))) (sym (gone_read checking s left))

  -- the kept documents
  pub kept_same : (task : Task) → kept_sent s job.doc task ≡ kept_sent (unasked checking s) job.doc task
  kept_same (tasks.Activate entry epoch length index memo address) =
      leaving_same (option_and_then (λ (d : Document). option_and_then (λ (place : Place). place.last) (place_of s d.nav)) (document_of s job.doc))
      ∙ ap (λ o. kept_leaving (unasked checking s) job.doc o) (by_found (document_of s job.doc) ∙ ap (λ o. option_and_then (λ (d : Document). option_and_then (λ (place : Place). place.last) (place_of s d.nav)) o) (sym (document_read checking s job.doc)))
    where
      by_found : (o : Option Document) → option_and_then (λ (d : Document). option_and_then (λ (place : Place). place.last) (place_of s d.nav)) o ≡ option_and_then (λ (d : Document). option_and_then (λ (place : Place). place.last) (place_of s d.nav)) (option_map unhandled o)
      by_found None = refl
      by_found (Some d) = refl
  kept_same tasks.Freeze = refl
  kept_same tasks.Discard = refl
  kept_same (tasks.Populate nav state address initial) = refl
  kept_same (tasks.Update length index) = refl
  kept_same (tasks.DoFragment req mode address) = refl
  kept_same (tasks.Ask slot cause) = refl

  -- an order that asks nobody is seen
  pub sent_seen : (event : ℕ) (actor : Actor) → is_question job.task ≡ false → unasked checking (after s (row_of event actor (rows.Sent job))) ≡ after (unasked checking s) (row_of event actor (rows.Sent job))
  sent_seen event actor none =
      let row = row_of event actor (rows.Sent job) in
      seen checking s row row (record {
        fixed = refl;
        documents = documents_same job.task none;
        desks = desk_past (λ desk. record desk { mail = desk.mail ++ job ∷ [] }) (λ desk. record desk { mail = desk.mail ++ job ∷ [] }) job.proc s.desks (ap (λ mail. record (quiet_desk (desk_of s job.proc)) { mail = mail }) (mail_more (desk_of s job.proc).mail job none));
        requests = requests_same job.task none;
        places = places_same job.task;
        kept = kept_same job.task;
        joined = refl;
        parked = refl;
        states = refl;
        finished = refl;
        step = refl;
        stood = refl;
      })
