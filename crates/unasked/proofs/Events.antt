-- What users and processes do is seen, but for questions and their answers.
use Rattle.std.proofs.Common.{◌≡◌, ℕ, Bool, true, false, cond, ◌&&◌, ◌==◌, List, [], ◌∷◌, ◌++◌, map, Option, Some, None, refl, sym, ap, ◌∙◌}
use Rattle.std.specs.Prelude.{is_none, option_map, option_and_then, slice_get, if◌then◌else◌}
use Rattle.std.specs.Option.{option_map_or}
use Rattle.std.proofs.lemmas.List.{map-append}
use Rattle.tab_ids.specs.declared.Death.{Death}
use Rattle.tab_ids.specs.declared.DocId.{DocId}
use Rattle.tab_ids.specs.declared.EntryId.{EntryId}
use Rattle.tab_ids.specs.declared.JobId.{JobId}
use Rattle.tab_ids.specs.declared.ProcId.{ProcId}
use Rattle.tab_ids.specs.declared.ReqId.{ReqId}
use Rattle.tab_ids.specs.declared.StateId.{StateId}
use Rattle.log_model.specs.declared.action.Action.{Action}
use Rattle.log_model.specs.declared.job.Job.{Job}
use Rattle.log_model.specs.declared.job.Order.{Order}
use Rattle.log_model.specs.declared.made.Report.TheVariants as reports
use Rattle.log_model.specs.declared.request.Request.{Request}
use Rattle.log_model.specs.declared.request.Request.TheVariants as requests
use Rattle.log_model.specs.declared.row_kind.Actor.{Actor}
use Rattle.log_model.specs.declared.row_kind.RowKind.TheVariants as rows
use Rattle.log_model.specs.Seen.{Desk, Document, Seen, document_of, desk_of}
use Rattle.log_model.specs.After.{after, desk_killed, desk_taken, desks_accepted, new_request, on_desk, poked}
use Rattle.seen_laws.specs.Unasked.{is_question, no_question_in_hand, quiet_desk, unasked, unasked_request, unbegun, unhandled, without_asks}
use Rattle.unasked.proofs.Lists.{desk_past, map_past}
use Rattle.unasked.proofs.Readings.{document_read}
use Rattle.unasked.proofs.Rows.{mail_first, mail_rest, reports_more}
use Rattle.unasked.proofs.Whole.{row_of, seen}

module _ (checking : ReqId → Bool) (s : Seen) (event : ℕ) (actor : Actor) where
  -- ---- the user

  -- the tab opens, with a document without a handler
  pub opened_seen : (entry : EntryId) (state : StateId) (doc : DocId) (proc : ProcId) (slot : Option ℕ) (address : List ℕ) → unasked checking (after s (row_of event actor (rows.Opened entry state doc proc slot address))) ≡ after (unasked checking s) (row_of event actor (rows.Opened entry state doc proc None address))
  opened_seen entry state doc proc slot address =
      seen checking s (row_of event actor (rows.Opened entry state doc proc slot address)) (row_of event actor (rows.Opened entry state doc proc None address)) (record {
        fixed = refl;
        documents = refl;
        desks = refl;
        requests = refl;
        places = refl;
        kept = refl;
        joined = refl;
        parked = refl;
        states = refl;
        finished = refl;
        step = refl;
        stood = refl;
      })

  -- a poke that waits
  pub poked_same : (req : ReqId) (doc : DocId) (action : Action) → map quiet_desk (poked s req doc action) ≡ poked (unasked checking s) req doc action
  poked_same req doc action =
      by_found (document_of s doc)
      ∙ ap (λ o. option_map_or (λ (d : Document). on_desk d.proc (λ desk. record desk { input = desk.input ++ record { req = req; doc = doc; action = action } ∷ [] }) (map quiet_desk s.desks)) o (map quiet_desk s.desks)) (sym (document_read checking s doc))
    where
      by_found : (o : Option Document) → map quiet_desk (option_map_or (λ (d : Document). on_desk d.proc (λ desk. record desk { input = desk.input ++ record { req = req; doc = doc; action = action } ∷ [] }) s.desks) o s.desks) ≡ option_map_or (λ (d : Document). on_desk d.proc (λ desk. record desk { input = desk.input ++ record { req = req; doc = doc; action = action } ∷ [] }) (map quiet_desk s.desks)) (option_map unhandled o) (map quiet_desk s.desks)
      by_found None = refl
      by_found (Some d) = desk_past (λ desk. record desk { input = desk.input ++ record { req = req; doc = doc; action = action } ∷ [] }) (λ desk. record desk { input = desk.input ++ record { req = req; doc = doc; action = action } ∷ [] }) d.proc s.desks refl

  -- the desks, as a request is accepted
  pub accepted_desks : (req : ReqId) (doc : Option DocId) (what : Request) → map quiet_desk (desks_accepted s req doc what) ≡ desks_accepted (unasked checking s) req doc what
  accepted_desks req None what = refl
  accepted_desks req (Some doc) (requests.Poke nav action) = poked_same req doc action
  accepted_desks req (Some doc) (requests.Load nav mode address) = refl
  accepted_desks req (Some doc) (requests.Go delta) = refl
  accepted_desks req (Some doc) (requests.Reload nav) = refl

  -- a request that is new asks nobody, and hasn't begun
  pub new_same : (req : ReqId) (doc : Option DocId) (what : Request) → unasked_request checking (new_request req doc what) ≡ new_request req doc what
  new_same req doc what =
      elim (checking req) as (λ b. cond b (unbegun (new_request req doc what)) (without_asks (new_request req doc what)) ≡ new_request req doc what) [
        | true ↦ refl
        | false ↦ refl
      ]

  -- a request is accepted
  pub accepted_seen : (req : ReqId) (doc : Option DocId) (what : Request) → unasked checking (after s (row_of event actor (rows.Accepted req doc what))) ≡ after (unasked checking s) (row_of event actor (rows.Accepted req doc what))
  accepted_seen req doc what =
      let row = row_of event actor (rows.Accepted req doc what) in
      seen checking s row row (record {
        fixed = refl;
        documents = refl;
        desks = accepted_desks req doc what;
        requests =
            map-append (unasked_request checking) s.requests (new_request req doc what ∷ [])
            ∙ ap (λ q. map (unasked_request checking) s.requests ++ q ∷ []) (new_same req doc what);
        places = refl;
        kept = refl;
        joined = refl;
        parked = refl;
        states = refl;
        finished = refl;
        step = refl;
        stood = refl;
      })

  -- the user evicts a document
  pub evicted_seen : (state : StateId) → unasked checking (after s (row_of event actor (rows.Evicted state))) ≡ after (unasked checking s) (row_of event actor (rows.Evicted state))
  evicted_seen state =
      let row = row_of event actor (rows.Evicted state) in
      seen checking s row row (record {
        fixed = refl;
        documents = refl;
        desks = refl;
        requests = refl;
        places = refl;
        kept = refl;
        joined = refl;
        parked = refl;
        states = refl;
        finished = refl;
        step = refl;
        stood = refl;
      })

  -- ---- a process

  -- it dies
  pub killed_seen : (proc : ProcId) (death : Death) → unasked checking (after s (row_of event actor (rows.Killed proc death))) ≡ after (unasked checking s) (row_of event actor (rows.Killed proc death))
  killed_seen proc death =
      let row = row_of event actor (rows.Killed proc death) in
      seen checking s row row (record {
        fixed = refl;
        documents = map_past unhandled _ (λ (d : Document). if d.proc.0 == proc.0 && is_none d.dead_by then record d { dead_by = Some death; view = None } else d) s.documents (λ d. by_test d (d.proc.0 == proc.0 && is_none d.dead_by));
        desks = desk_past (desk_killed death) (desk_killed death) proc s.desks (ap (λ waiting. record (quiet_desk (desk_killed death (desk_of s proc))) { reports = waiting }) (reports_more (desk_of s proc).reports (reports.Died death) (reports.Died death) refl));
        requests = refl;
        places = refl;
        kept = refl;
        joined = refl;
        parked = refl;
        states = refl;
        finished = refl;
        step = refl;
        stood = refl;
      })
    where
      by_test : (d : Document) (b : Bool) → unhandled (cond b (record d { dead_by = Some death; view = None }) d) ≡ cond b (record (unhandled d) { dead_by = Some death; view = None }) (unhandled d)
      by_test d true = refl
      by_test d false = refl

  -- a desk takes an order that asks nobody
  pub taken_past : (live dirty : Bool) (desk : Desk) (first : Job) → slice_get desk.mail 0 ≡ Some first → is_question first.task ≡ false → quiet_desk (desk_taken live dirty desk) ≡ desk_taken live dirty (quiet_desk desk)
  taken_past live dirty desk first at none =
      λ i. record (quiet_desk desk) { mail = mail_rest desk.mail first at none i; in_hand = hand live i }
    where
      hand : (b : Bool) → option_and_then no_question_in_hand (if b then option_map (λ job. let order : Order = record { job = job; dirty = dirty } in order) (slice_get desk.mail 0) else None) ≡ (if b then option_map (λ job. let order : Order = record { job = job; dirty = dirty } in order) (slice_get (quiet_desk desk).mail 0) else None)
      hand true =
          ap (λ o. option_and_then no_question_in_hand (option_map (λ job. let order : Order = record { job = job; dirty = dirty } in order) o)) at
          ∙ ap (λ b. let o : Option Order = cond b None (Some (record { job = first; dirty = dirty })) in o) none
          ∙ ap (λ o. option_map (λ job. let order : Order = record { job = job; dirty = dirty } in order) o) (sym (mail_first desk.mail first at none))
      hand false = refl

  -- it takes an order that asks nobody
  pub taken_seen : (proc : ProcId) (nr : JobId) (live dirty : Bool) (job : Job) → slice_get (desk_of s proc).mail 0 ≡ Some job → is_question job.task ≡ false → unasked checking (after s (row_of event actor (rows.Taken proc nr live dirty))) ≡ after (unasked checking s) (row_of event actor (rows.Taken proc nr live dirty))
  taken_seen proc nr live dirty job at none =
      let row = row_of event actor (rows.Taken proc nr live dirty) in
      seen checking s row row (record {
        fixed = refl;
        documents = refl;
        desks = desk_past (desk_taken live dirty) (desk_taken live dirty) proc s.desks (taken_past live dirty (desk_of s proc) job at none);
        requests = refl;
        places = refl;
        kept = refl;
        joined = refl;
        parked = refl;
        states = refl;
        finished = refl;
        step = refl;
        stood = refl;
      })
