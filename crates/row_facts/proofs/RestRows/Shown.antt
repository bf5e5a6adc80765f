-- Who was awake on a document before a row is so after it: over each row but an order that shows one, or puts navigables to sleep.
use Rattle.std.proofs.Common.{◌≡◌, Bool, true, false, cond, not, ◌&&◌, ◌==◌, List, [], ◌∷◌, ◌++◌, map, Option, Some, None, refl, ap, ◌∙◌}
use Rattle.std.specs.Option.{option_map_or}
use Rattle.std.specs.Prelude.{option_and_then, option_map}
use Rattle.tab_ids.specs.declared.DocId.{DocId}
use Rattle.tab_ids.specs.declared.EntryId.{EntryId}
use Rattle.tab_ids.specs.declared.NavId.{NavId}
use Rattle.tab_ids.specs.declared.ReqId.{ReqId}
use Rattle.tab_ids.specs.declared.StateId.{StateId}
use Rattle.log_model.specs.declared.change.Change.{Change}
use Rattle.log_model.specs.declared.change.Change.TheVariants as changes
use Rattle.log_model.specs.declared.job.Job.{Job}
use Rattle.log_model.specs.declared.job.Task.{Task}
use Rattle.log_model.specs.declared.job.Task.TheVariants as tasks
use Rattle.log_model.specs.declared.made.Made.{Made}
use Rattle.log_model.specs.declared.made.Report.{Report}
use Rattle.log_model.specs.declared.made.Report.TheVariants as reports
use Rattle.log_model.specs.AfterPlaces.{given_entry, new_place, on_place, place_arrived, places_added, places_applied, places_delivered, places_given, with_taker}
use Rattle.log_model.specs.History.{History, has_row, applied}
use Rattle.log_model.specs.Places.{holder_of}
use Rattle.log_model.specs.Seen.{Asked, Document, Place, Seen, awake, document_of, place_in, place_of, request_of}
use Rattle.seen_facts.proofs.Desk.Stays.{NoDeath}
use Rattle.seen_laws.proofs.Keyed.{find_map}

-- the navigable is awake on the document
pub record IsAwakeIn (places : List Place) (nav : NavId) (doc : DocId) : Type 0 where
  pub new : Place
  pub there : (let o : Option Place = place_in places nav in o) ≡ Some new
  pub wakes : new.status ≡ awake doc

abbrev pub AllStayAwake : List Place → List Place → Type 0
AllStayAwake places next =
    (nav : NavId) (place : Place) (doc : DocId) → place_in places nav ≡ Some place → place.status ≡ awake doc → IsAwakeIn next nav doc

pub awake_same : (places : List Place) → AllStayAwake places places
awake_same places nav place doc there wakes = record { new = place; there = there; wakes = wakes }

awake_both : (places mid next : List Place) → AllStayAwake places mid → AllStayAwake mid next → AllStayAwake places next
awake_both places mid next one two nav place doc there wakes =
    let m = one nav place doc there wakes in two nav m.new doc m.there m.wakes

-- each place changes, but for its number and status
record KeepsStatus (g : Place → Place) : Type 0 where
  nav : (p : Place) → (g p).nav ≡ p.nav
  status : (p : Place) → (g p).status ≡ p.status

awake_mapped : (places : List Place) (g : Place → Place) → KeepsStatus g → AllStayAwake places (map g places)
awake_mapped places g keeps nav place doc there wakes =
    record {
      new = g place;
      there = find_map (λ (p : Place). p.nav.0) g nav.0 places (λ p. ap (λ (n : NavId). n.0) (keeps.nav p)) ∙ ap (λ (o : Option Place). option_map g o) there;
      wakes = keeps.status place ∙ wakes;
    }

awake_if : (test : Place → Bool) (f : Place → Place) → KeepsStatus f → KeepsStatus (λ (p : Place). cond (test p) (f p) p)
awake_if test f keeps =
    record {
      nav = λ p. elim (test p) as (λ b. (let x : Place = cond b (f p) p in x).nav ≡ p.nav) [ true ↦ keeps.nav p | false ↦ refl ];
      status = λ p. elim (test p) as (λ b. (let x : Place = cond b (f p) p in x).status ≡ p.status) [ true ↦ keeps.status p | false ↦ refl ];
    }

-- ---- a report is delivered

arrived_awake : (job : Job) (places : List Place) (o : Option Document) → AllStayAwake places (option_map_or (λ (d : Document). on_place d.nav (place_arrived job) places) o places)
arrived_awake job places None = awake_same places
arrived_awake job places (Some d) =
    awake_mapped places (λ (p : Place). cond (p.nav.0 == d.nav.0) (place_arrived job p) p) (awake_if (λ (p : Place). p.nav.0 == d.nav.0) (place_arrived job) (record { nav = λ p. refl; status = λ p. refl }))

pub delivered_awake : (s : Seen) (report : Option Report) → NoDeath report → AllStayAwake s.places (places_delivered s report)
delivered_awake s None fine = awake_same s.places
delivered_awake s (Some (reports.Died death)) never = absurd never
delivered_awake s (Some (reports.Made made)) fine = awake_same s.places
delivered_awake s (Some (reports.Done job outcome made)) fine = by_task job.task
  where
    by_task : (task : Task) → AllStayAwake s.places (places_delivered s (Some (reports.Done (record job { task = task }) outcome made)))
    by_task (tasks.Activate entry epoch length index memo address) = arrived_awake job s.places (document_of s job.doc)
    by_task (tasks.Populate nav state address initial) = awake_same s.places
    by_task (tasks.Update length index) = awake_same s.places
    by_task tasks.Freeze = awake_same s.places
    by_task tasks.Discard = awake_same s.places
    by_task (tasks.Ask slot cause) = awake_same s.places
    by_task (tasks.DoFragment req mode address) = awake_same s.places

-- ---- a change is applied

given_awake : (places : List Place) (nav : NavId) (entry : EntryId) (o : Option Made) → AllStayAwake places (option_map_or (λ (m : Made). on_place nav (given_entry entry) places) o places)
given_awake places nav entry None = awake_same places
given_awake places nav entry (Some made) =
    awake_mapped places (λ (p : Place). cond (p.nav.0 == nav.0) (given_entry entry p) p) (awake_if (λ (p : Place). p.nav.0 == nav.0) (given_entry entry) (record { nav = λ p. refl; status = λ p. refl }))

-- one more comes last
more_awake : (places : List Place) (new : Place) → AllStayAwake places (places ++ new ∷ [])
more_awake places new nav place doc there wakes =
    record { new = place; there = first_in places there; wakes = wakes }
  where
    first_in : (l : List Place) → place_in l nav ≡ Some place → place_in (l ++ new ∷ []) nav ≡ Some place
    first_in [] e = cc
    first_in (x ∷ l) e = by_test (x.nav.0 == nav.0) (first_in l) e
      where
        by_test : (b : Bool) → (place_in l nav ≡ Some place → place_in (l ++ new ∷ []) nav ≡ Some place) → cond b (Some x) (place_in l nav) ≡ Some place → cond b (Some x) (place_in (l ++ new ∷ []) nav) ≡ Some place
        by_test true rest e = e
        by_test false rest e = rest e

added_awake : (s : Seen) (req : ReqId) (owner : StateId) (nav : NavId) (o : Option Place) → AllStayAwake s.places (option_map_or (λ (parent : Place). s.places ++ new_place req nav owner parent ∷ []) o s.places)
added_awake s req owner nav None = awake_same s.places
added_awake s req owner nav (Some parent) = more_awake s.places (new_place req nav owner parent)

taker_awake : (old new : History) (req : ReqId) (places : List Place) → AllStayAwake places (with_taker old new req places)
taker_awake old new req places =
    awake_mapped places (λ (p : Place). cond (has_row p.nav old.rows && not (has_row p.nav new.rows)) (record p { taken_by = Some req }) p)
    (awake_if (λ (p : Place). has_row p.nav old.rows && not (has_row p.nav new.rows)) (λ (p : Place). record p { taken_by = Some req }) (record { nav = λ p. refl; status = λ p. refl }))

pub applied_awake : (s : Seen) (req : ReqId) (change : Change) → AllStayAwake s.places (places_applied s req change)
applied_awake s req change = by_change change
  where
    made_of_request : Option Made
    made_of_request = option_and_then (λ (q : Asked). q.made) (request_of s req)

    then_taker : (c : Change) (mid : List Place) → AllStayAwake s.places mid → AllStayAwake s.places (with_taker s.history (applied s.history c) req mid)
    then_taker c mid one = awake_both s.places mid (with_taker s.history (applied s.history c) req mid) one (taker_awake s.history (applied s.history c) req mid)

    by_change : (c : Change) → AllStayAwake s.places (places_applied s req c)
    by_change (changes.Push nav entry state address memo) =
        then_taker (changes.Push nav entry state address memo) (places_given s req nav entry) (given_awake s.places nav entry made_of_request)
    by_change (changes.Replace nav over entry state address memo) =
        then_taker (changes.Replace nav over entry state address memo) (places_given s req nav entry) (given_awake s.places nav entry made_of_request)
    by_change (changes.AddFrame owner nav entry state) =
        then_taker (changes.AddFrame owner nav entry state) (places_added s req owner nav) (added_awake s req owner nav (option_and_then (place_of s) (holder_of owner s.history.rows)))
    by_change (changes.RemoveFrame nav) = then_taker (changes.RemoveFrame nav) s.places (awake_same s.places)
    by_change (changes.Traverse goal) = then_taker (changes.Traverse goal) s.places (awake_same s.places)
    by_change (changes.Reload nav) =
        then_taker (changes.Reload nav) (on_place nav (λ (p : Place). record p { is_pending = true; is_unmet = true }) s.places)
        (awake_mapped s.places (λ (p : Place). cond (p.nav.0 == nav.0) (record p { is_pending = true; is_unmet = true }) p) (awake_if (λ (p : Place). p.nav.0 == nav.0) (λ (p : Place). record p { is_pending = true; is_unmet = true }) (record { nav = λ p. refl; status = λ p. refl })))
    by_change changes.Edit = then_taker changes.Edit s.places (awake_same s.places)
