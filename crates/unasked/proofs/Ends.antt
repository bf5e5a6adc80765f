-- A request that ends is seen; one that begins, or is applied, where it isn't in its check.
use Rattle.std.proofs.Common.{◌≡◌, ℕ, ◌+◌, Bool, true, false, cond, not, ◌&&◌, ◌||◌, ◌==◌, List, map, Option, Some, None, refl, sym, ap, ◌∙◌}
use Rattle.std.specs.Prelude.{drop, option_map, option_and_then}
use Rattle.std.specs.Option.{option_map_or}
use Rattle.tab_ids.specs.declared.EntryId.{EntryId}
use Rattle.tab_ids.specs.declared.NavId.{NavId}
use Rattle.tab_ids.specs.declared.ReqId.{ReqId}
use Rattle.tab_ids.specs.declared.Step.{Step}
use Rattle.log_model.specs.declared.change.Change.{Change}
use Rattle.log_model.specs.declared.change.Change.TheVariants as changes
use Rattle.log_model.specs.declared.outcome.Cause.{Cause}
use Rattle.log_model.specs.declared.outcome.Denial.{Denial}
use Rattle.log_model.specs.declared.outcome.Ending.{Ending}
use Rattle.log_model.specs.declared.outcome.Ending.TheVariants as endings
use Rattle.log_model.specs.declared.row_kind.Actor.{Actor}
use Rattle.log_model.specs.declared.row_kind.Actor.TheVariants as actors
use Rattle.log_model.specs.declared.row_kind.RowKind.TheVariants as rows
use Rattle.log_model.specs.Equal.{holds}
use Rattle.log_model.specs.History.{applied}
use Rattle.log_model.specs.Places.{is_load, is_reload}
use Rattle.log_model.specs.Seen.{Asked, Document, Seen, request_of}
use Rattle.log_model.specs.After.{after, desk_dropped, desks_refused, ended, is_load_request, is_new_step, states_after}
use Rattle.log_model.specs.AfterDocuments.{applied_to, told_after_change, with_applied}
use Rattle.log_model.specs.AfterPlaces.{given_entry, on_place, places_after, places_given, with_taker}
use Rattle.log_model.specs.AfterRequests.{entries_taken, on_request, request_begun}
use Rattle.unasked.specs.Premises.{IsNumbered, IsOff}
use Rattle.seen_laws.specs.Unasked.{quiet_desk, unasked, unasked_request, unbegun, unhandled, without_asks}
use Rattle.unasked.proofs.Lists.{desk_past, map_past, on_past, on_twice}
use Rattle.unasked.proofs.Readings.{request_read}
use Rattle.unasked.proofs.Rows.{IsAside, request_past}
use Rattle.unasked.proofs.Whole.{row_of, seen}

-- a request is changed in what no check reads
pub ended_aside : (ending : Ending) → IsAside (λ q. record q { ending = Some ending }) (λ q. record q { ending = Some ending })
ended_aside ending = record { nr = λ q. refl; off = λ q. refl; on = λ q. refl }

-- an entry that is applied, for a document
pub with_entry : (entry : EntryId) (d : Document) → unhandled (with_applied entry d) ≡ with_applied entry (unhandled d)
with_entry entry d = elim (d.nr.0 == entry.maker) as (λ b. unhandled (cond b (record d { last_applied = entry.nr }) d) ≡ cond b (record (unhandled d) { last_applied = entry.nr }) (unhandled d)) [ true ↦ refl | false ↦ refl ]

-- what it was told, as a change is applied
pub told_changed : (change : Change) (d : Document) → unhandled (told_after_change d change) ≡ told_after_change (unhandled d) change
told_changed (changes.Push nav entry state address memo) d = elim (d.nr.0 == entry.maker) as (λ b. unhandled (cond b (record d { told = None }) d) ≡ cond b (record (unhandled d) { told = None }) (unhandled d)) [ true ↦ refl | false ↦ refl ]
told_changed (changes.Replace nav over entry state address memo) d = refl
told_changed (changes.AddFrame owner nav entry state) d = refl
told_changed (changes.RemoveFrame nav) d = refl
told_changed (changes.Traverse goal) d = refl
told_changed (changes.Reload nav) d = refl
told_changed changes.Edit d = refl

-- whatever the change
pub changed_document : (change : Change) (d : Document) → unhandled (applied_to change d) ≡ applied_to change (unhandled d)
changed_document (changes.Push nav entry state address memo) d = with_entry entry d
changed_document (changes.Replace nav over entry state address memo) d = with_entry entry d
changed_document (changes.Reload nav) d = elim (d.nav.0 == nav.0) as (λ b. unhandled (cond b (record d { is_fresh = false }) d) ≡ cond b (record (unhandled d) { is_fresh = false }) (unhandled d)) [ true ↦ refl | false ↦ refl ]
changed_document (changes.AddFrame owner nav entry state) d = refl
changed_document (changes.RemoveFrame nav) d = refl
changed_document (changes.Traverse goal) d = refl
changed_document changes.Edit d = refl

-- what it does to its request
pub change_aside : (change : Change) → IsAside (λ q. record q { change = Some change }) (λ q. record q { change = Some change })
change_aside change = record { nr = λ q. refl; off = λ q. refl; on = λ q. refl }

-- and the entries that it took
pub took_aside : (took : List EntryId) → IsAside (λ q. record q { took = took }) (λ q. record q { took = took })
took_aside took = record { nr = λ q. refl; off = λ q. refl; on = λ q. refl }

module _ (checking : ReqId → Bool) (s : Seen) (event : ℕ) (actor : Actor) where
  -- a request that is refused
  pub refused_seen : (req : ReqId) (reason : Denial) → unasked checking (after s (row_of event actor (rows.Refused req reason))) ≡ after (unasked checking s) (row_of event actor (rows.Refused req reason))
  refused_seen req reason =
      let row = row_of event actor (rows.Refused req reason) in
      seen checking s row row (record {
        fixed = refl;
        documents = refl;
        desks = by_actor actor;
        requests = request_past checking _ _ req s.requests (ended_aside (endings.Refused reason));
        places = refl;
        kept = refl;
        joined = refl;
        parked = refl;
        states = refl;
        finished = refl;
        step = refl;
        stood = refl;
      })
    where
      by_actor : (a : Actor) → map quiet_desk (desks_refused s.desks a) ≡ desks_refused (map quiet_desk s.desks) a
      by_actor (actors.Proc proc) = desk_past (λ desk. record desk { input = drop 1 desk.input }) (λ desk. record desk { input = drop 1 desk.input }) proc s.desks refl
      by_actor actors.Start = refl
      by_actor actors.Ui = refl
      by_actor actors.Coord = refl

  -- one that is dropped
  pub dropped_seen : (req : ReqId) (cause : Cause) → unasked checking (after s (row_of event actor (rows.Dropped req cause))) ≡ after (unasked checking s) (row_of event actor (rows.Dropped req cause))
  dropped_seen req cause =
      let row = row_of event actor (rows.Dropped req cause) in
      seen checking s row row (record {
        fixed = refl;
        documents = refl;
        desks = map_past quiet_desk (desk_dropped req) (desk_dropped req) s.desks (λ desk. refl);
        requests = request_past checking _ _ req s.requests (ended_aside (endings.Dropped cause));
        places = refl;
        kept = refl;
        joined = refl;
        parked = refl;
        states = refl;
        finished = refl;
        step = refl;
        stood = refl;
      })

  -- a request that isn't in its check is found so
  pub found_off : (req : ReqId) → checking req ≡ false → IsNumbered s req → IsOff checking s req
  found_off req off numbered q found = ap checking (numbered q found) ∙ off

  -- it loads or doesn't
  pub load_same : (req : ReqId) → is_load_request s req ≡ is_load_request (unasked checking s) req
  load_same req = by_found (request_of s req) ∙ ap (λ o. holds (λ (q : Asked). is_load q.what) o) (sym (request_read checking s req))
    where
      by_found : (o : Option Asked) → holds (λ (q : Asked). is_load q.what) o ≡ holds (λ (q : Asked). is_load q.what) (option_map (unasked_request checking) o)
      by_found None = refl
      by_found (Some q) = elim (checking q.nr) as (λ b. is_load q.what ≡ is_load (let r : Asked = cond b (unbegun q) (without_asks q) in r).what) [ true ↦ refl | false ↦ refl ]

  -- one that begins, and isn't in its check
  pub started_seen : (req : ReqId) (goal : Option Step) → IsOff checking s req → unasked checking (after s (row_of event actor (rows.Started req goal))) ≡ after (unasked checking s) (row_of event actor (rows.Started req goal))
  started_seen req goal off =
      let row = row_of event actor (rows.Started req goal) in
      seen checking s row row (record {
        fixed = refl;
        documents = refl;
        desks = refl;
        requests =
            ap (λ l. map (unasked_request checking) l) (on_twice (λ q. record q { is_started = true; goal = goal }) (request_begun s) req s.requests)
            ∙ on_past (unasked_request checking) _ (λ q. request_begun (unasked checking s) (record q { is_started = true; goal = goal })) req s.requests (λ q found. begun q (off q found))
            ∙ sym (on_twice (λ q. record q { is_started = true; goal = goal }) (request_begun (unasked checking s)) req (map (unasked_request checking) s.requests));
        places = refl;
        kept = refl;
        joined = refl;
        parked = refl;
        states = ap (λ b. cond b (s.states + 1) s.states) (load_same req);
        finished = refl;
        step = refl;
        stood = refl;
      })
    where
      begun : (q : Asked) → checking q.nr ≡ false → unasked_request checking (request_begun s (record q { is_started = true; goal = goal })) ≡ request_begun (unasked checking s) (record (unasked_request checking q) { is_started = true; goal = goal })
      begun q e = rw e refl

  -- it is a new step or isn't
  pub step_same : (req : ReqId) → IsOff checking s req → is_new_step s req ≡ is_new_step (unasked checking s) req
  step_same req off =
      by_found (request_of s req) refl
      ∙ ap (λ o. holds (λ (q : Asked). is_reload q.what || (is_load q.what && q.is_started)) o) (sym (request_read checking s req))
    where
      by_found : (o : Option Asked) → request_of s req ≡ o → holds (λ (q : Asked). is_reload q.what || (is_load q.what && q.is_started)) o ≡ holds (λ (q : Asked). is_reload q.what || (is_load q.what && q.is_started)) (option_map (unasked_request checking) o)
      by_found None e = refl
      by_found (Some q) e = rw (off q e) refl

  -- what was made of a request
  pub made_same : (req : ReqId) → option_and_then (λ (q : Asked). q.made) (request_of s req) ≡ option_and_then (λ (q : Asked). q.made) (request_of (unasked checking s) req)
  made_same req =
      by_found (request_of s req) ∙ ap (λ o. option_and_then (λ (q : Asked). q.made) o) (sym (request_read checking s req))
    where
      by_found : (o : Option Asked) → option_and_then (λ (q : Asked). q.made) o ≡ option_and_then (λ (q : Asked). q.made) (option_map (unasked_request checking) o)
      by_found None = refl
      by_found (Some q) = elim (checking q.nr) as (λ b. q.made ≡ (let r : Asked = cond b (unbegun q) (without_asks q) in r).made) [ true ↦ refl | false ↦ refl ]

  -- a navigable that is given an entry
  pub given_same : (req : ReqId) (nav : NavId) (entry : EntryId) → places_given s req nav entry ≡ places_given (unasked checking s) req nav entry
  given_same req nav entry =
      ap (λ o. option_map_or (λ made. on_place nav (given_entry entry) s.places) o s.places) (made_same req)

  -- what a change does to the places
  pub change_places : (req : ReqId) (change : Change) → places_after s (rows.Applied req change) ≡ places_after (unasked checking s) (rows.Applied req change)
  change_places req (changes.Push nav entry state address memo) =
      ap (with_taker s.history (applied s.history (changes.Push nav entry state address memo)) req) (given_same req nav entry)
  change_places req (changes.Replace nav over entry state address memo) =
      ap (with_taker s.history (applied s.history (changes.Replace nav over entry state address memo)) req) (given_same req nav entry)
  change_places req (changes.AddFrame owner nav entry state) = refl
  change_places req (changes.RemoveFrame nav) = refl
  change_places req (changes.Traverse goal) = refl
  change_places req (changes.Reload nav) = refl
  change_places req changes.Edit = refl

  -- how many states there are
  pub change_states : (req : ReqId) (change : Change) → states_after s (rows.Applied req change) ≡ states_after (unasked checking s) (rows.Applied req change)
  change_states req (changes.Push nav entry state address memo) = refl
  change_states req (changes.Replace nav over entry state address memo) = refl
  change_states req (changes.AddFrame owner nav entry state) = refl
  change_states req (changes.RemoveFrame nav) = refl
  change_states req (changes.Traverse goal) = refl
  change_states req (changes.Reload nav) = refl
  change_states req changes.Edit = refl

  -- what a change does to its request
  pub change_requests : (req : ReqId) (change : Change) (took : List EntryId) → map (unasked_request checking) (on_request req (λ q. record q { took = took }) (on_request req (λ q. record q { change = Some change }) (ended s.requests req endings.Applied))) ≡ on_request req (λ q. record q { took = took }) (on_request req (λ q. record q { change = Some change }) (ended (map (unasked_request checking) s.requests) req endings.Applied))
  change_requests req change took =
      request_past checking _ _ req _ (took_aside took)
      ∙ ap (on_request req (λ q. record q { took = took })) (request_past checking _ _ req _ (change_aside change) ∙ ap (on_request req (λ q. record q { change = Some change })) (request_past checking _ _ req s.requests (ended_aside endings.Applied)))

  -- one that is applied, and isn't in its check
  pub applied_seen : (req : ReqId) (change : Change) → IsOff checking s req → unasked checking (after s (row_of event actor (rows.Applied req change))) ≡ after (unasked checking s) (row_of event actor (rows.Applied req change))
  applied_seen req change off =
      let row = row_of event actor (rows.Applied req change) in
      seen checking s row row (record {
        fixed = refl;
        documents = map_past unhandled _ (λ d. applied_to change (told_after_change d change)) s.documents (λ d. changed_document change (told_after_change d change) ∙ ap (applied_to change) (told_changed change d));
        desks = refl;
        requests = change_requests req change (entries_taken s.history change);
        places = change_places req change;
        kept = refl;
        joined = refl;
        parked = refl;
        states = change_states req change;
        finished = refl;
        step = ap (λ b. cond b (Some req) s.last_step) (step_same req off);
        stood = ap (λ b. not b && s.has_stood) (step_same req off);
      })
