-- Which rows leave of each navigable the document that it was shown last, and its epoch: all but an order that shows one.
use Rattle.seen_facts.proofs.Desk.Stays.{NoDeath}
use Rattle.seen_facts.proofs.Entry.Parts.{WasPlace, was_place}
use Rattle.log_model.specs.AfterPlaces.{given_entry, new_place, on_place, place_arrived, places_added, places_applied, places_delivered, places_given, put_to_sleep, with_taker}
use Rattle.log_model.specs.History.{applied, has_nav, has_row}
use Rattle.log_model.specs.Places.{holder_of}
use Rattle.log_model.specs.Seen.{Asked, Document, Place, Seen, asleep, document_of, place_in, place_of, request_of}
use Rattle.log_model.specs.declared.change.Change.{Change}
use Rattle.log_model.specs.declared.job.Job.{Job}
use Rattle.log_model.specs.declared.job.Task.{Task}
use Rattle.log_model.specs.declared.job.Why.{Why}
use Rattle.log_model.specs.declared.made.Made.{Made}
use Rattle.log_model.specs.declared.made.Report.{Report}
use Rattle.tab_facts.proofs.Past.Past.{AllWereLast, WasLast}
use Rattle.std.proofs.Common.{Bool, List, None, Option, Some, [], ap, cond, false, map, not, refl, sym, true, ◌&&◌, ◌++◌, ◌==◌, ◌∙◌, ◌∷◌, ◌≡◌}
use Rattle.std.specs.Option.{option_map_or}
use Rattle.std.specs.Prelude.{option_and_then}
use Rattle.tab_ids.specs.declared.EntryId.{EntryId}
use Rattle.tab_ids.specs.declared.NavId.{NavId}
use Rattle.tab_ids.specs.declared.ReqId.{ReqId}
use Rattle.tab_ids.specs.declared.StateId.{StateId}
use Rattle.log_model.specs.declared.change.Change.TheVariants as changes
use Rattle.log_model.specs.declared.job.Task.TheVariants as tasks
use Rattle.log_model.specs.declared.made.Report.TheVariants as reports

pub same_last : (places : List Place) → AllWereLast places places
same_last places nav place has there = record { before = place; there = there; last = refl; epoch = refl }

-- ---- each place changes

pub record KeepsLast (g : Place → Place) : Type 0 where
  pub nav : (p : Place) → (g p).nav ≡ p.nav
  pub last : (p : Place) → (g p).last ≡ p.last
  pub epoch : (p : Place) → (g p).epoch ≡ p.epoch

last_if : (test : Place → Bool) (f : Place → Place) → KeepsLast f → KeepsLast (λ (p : Place). cond (test p) (f p) p)
last_if test f keeps =
    record {
      nav = λ p. elim (test p) as (λ b. (let x : Place = cond b (f p) p in x).nav ≡ p.nav) [ true ↦ keeps.nav p | false ↦ refl ];
      last = λ p. elim (test p) as (λ b. (let x : Place = cond b (f p) p in x).last ≡ p.last) [ true ↦ keeps.last p | false ↦ refl ];
      epoch = λ p. elim (test p) as (λ b. (let x : Place = cond b (f p) p in x).epoch ≡ p.epoch) [ true ↦ keeps.epoch p | false ↦ refl ];
    }

-- after other changes
last_mapped : (places mid : List Place) (g : Place → Place) → KeepsLast g → AllWereLast places mid → AllWereLast places (map g mid)
last_mapped places mid g keeps first nav place has there =
    record {
      before = was.before;
      there = was.there;
      last = was.last ∙ sym (keeps.last w.before) ∙ ap (λ (p : Place). p.last) w.is;
      epoch = was.epoch ∙ sym (keeps.epoch w.before) ∙ ap (λ (p : Place). p.epoch) w.is;
    }
  where
    w : WasPlace mid g nav place
    w = was_place mid g keeps.nav nav place there

    was : WasLast places nav w.before
    was = first nav w.before has w.there

-- ---- who falls asleep

pub asleep_last : (navs : List NavId) (why : Why) (places : List Place) → AllWereLast places (put_to_sleep navs why places)
asleep_last navs why places =
    last_mapped places places (λ (p : Place). cond (has_nav navs p.nav) (record p { status = asleep; why = why }) p)
    (last_if (λ (p : Place). has_nav navs p.nav) (λ (p : Place). record p { status = asleep; why = why }) (record { nav = λ p. refl; last = λ p. refl; epoch = λ p. refl }))
    (same_last places)

-- ---- a report is delivered

on_last : (nav : NavId) (f : Place → Place) (places : List Place) → KeepsLast f → AllWereLast places (on_place nav f places)
on_last nav f places keeps =
    last_mapped places places (λ (p : Place). cond (p.nav.0 == nav.0) (f p) p) (last_if (λ (p : Place). p.nav.0 == nav.0) f keeps) (same_last places)

arrived_last : (job : Job) (places : List Place) (o : Option Document) → AllWereLast places (option_map_or (λ (d : Document). on_place d.nav (place_arrived job) places) o places)
arrived_last job places None = same_last places
arrived_last job places (Some d) =
    on_last d.nav (place_arrived job) places (record { nav = λ p. refl; last = λ p. refl; epoch = λ p. refl })

pub delivered_last : (s : Seen) (report : Option Report) → NoDeath report → AllWereLast s.places (places_delivered s report)
delivered_last s None fine = same_last s.places
delivered_last s (Some (reports.Died death)) never = absurd never
delivered_last s (Some (reports.Made made)) fine = same_last s.places
delivered_last s (Some (reports.Done job outcome made)) fine = by_task job.task
  where
    by_task : (task : Task) → AllWereLast s.places (places_delivered s (Some (reports.Done (record job { task = task }) outcome made)))
    by_task (tasks.Activate entry epoch length index memo address) = arrived_last job s.places (document_of s job.doc)
    by_task (tasks.Populate nav state address initial) = same_last s.places
    by_task (tasks.Update length index) = same_last s.places
    by_task tasks.Freeze = same_last s.places
    by_task tasks.Discard = same_last s.places
    by_task (tasks.Ask slot cause) = same_last s.places
    by_task (tasks.DoFragment req mode address) = same_last s.places

-- ---- a change is applied

given_last : (s : Seen) (req : ReqId) (nav : NavId) (entry : EntryId) → AllWereLast s.places (places_given s req nav entry)
given_last s req nav entry = by_made (option_and_then (λ (q : Asked). q.made) (request_of s req))
  where
    by_made : (o : Option Made) → AllWereLast s.places (option_map_or (λ (m : Made). on_place nav (given_entry entry) s.places) o s.places)
    by_made None = same_last s.places
    by_made (Some made) =
        on_last nav (given_entry entry) s.places (record { nav = λ p. refl; last = λ p. refl; epoch = λ p. refl })

still_found : (nav : NavId) (places : List Place) (new place : Place) → place_in places nav ≡ Some place → place_in (places ++ new ∷ []) nav ≡ Some place
still_found nav [] new place found = absurd cc
still_found nav (p ∷ places) new place found = by_test (p.nav.0 == nav.0) found (still_found nav places new place)
  where
    by_test : (b : Bool) → (let o : Option Place = cond b (Some p) (place_in places nav) in o) ≡ Some place → (place_in places nav ≡ Some place → place_in (places ++ new ∷ []) nav ≡ Some place) → (let o : Option Place = cond b (Some p) (place_in (places ++ new ∷ []) nav) in o) ≡ Some place
    by_test true h later = h
    by_test false h later = later h

-- a new one is of no navigable that had a place
new_last : (places : List Place) (new : Place) → AllWereLast places (places ++ new ∷ [])
new_last places new nav place has there =
    record { before = has.place; there = has.found; last = ap (λ (p : Place). p.last) same; epoch = ap (λ (p : Place). p.epoch) same }
  where
    same : has.place ≡ place
    same =
        (let both : Some has.place ≡ Some place = sym (still_found nav places new has.place has.found) ∙ there in cc)

added_last : (s : Seen) (req : ReqId) (owner : StateId) (nav : NavId) → AllWereLast s.places (places_added s req owner nav)
added_last s req owner nav = by_parent (option_and_then (place_of s) (holder_of owner s.history.rows))
  where
    by_parent : (o : Option Place) → AllWereLast s.places (option_map_or (λ (parent : Place). s.places ++ new_place req nav owner parent ∷ []) o s.places)
    by_parent None = same_last s.places
    by_parent (Some parent) = new_last s.places (new_place req nav owner parent)

taken_last : (s : Seen) (req : ReqId) (change : Change) (places : List Place) → AllWereLast s.places places → AllWereLast s.places (with_taker s.history (applied s.history change) req places)
taken_last s req change places first =
    last_mapped s.places places (λ (p : Place). cond (has_row p.nav s.history.rows && not (has_row p.nav (applied s.history change).rows)) (record p { taken_by = Some req }) p)
    (last_if (λ (p : Place). has_row p.nav s.history.rows && not (has_row p.nav (applied s.history change).rows)) (λ (p : Place). record p { taken_by = Some req }) (record { nav = λ p. refl; last = λ p. refl; epoch = λ p. refl })) first

pub applied_last : (s : Seen) (req : ReqId) (change : Change) → AllWereLast s.places (places_applied s req change)
applied_last s req (changes.Push nav entry state address memo) =
    taken_last s req (changes.Push nav entry state address memo) (places_given s req nav entry) (given_last s req nav entry)
applied_last s req (changes.Replace nav over entry state address memo) =
    taken_last s req (changes.Replace nav over entry state address memo) (places_given s req nav entry) (given_last s req nav entry)
applied_last s req (changes.AddFrame owner nav entry state) =
    taken_last s req (changes.AddFrame owner nav entry state) (places_added s req owner nav) (added_last s req owner nav)
applied_last s req (changes.RemoveFrame nav) = taken_last s req (changes.RemoveFrame nav) s.places (same_last s.places)
applied_last s req (changes.Traverse goal) = taken_last s req (changes.Traverse goal) s.places (same_last s.places)
applied_last s req (changes.Reload nav) =
    taken_last s req (changes.Reload nav) (on_place nav (λ place. record place { is_pending = true; is_unmet = true }) s.places)
    (on_last nav (λ place. record place { is_pending = true; is_unmet = true }) s.places (record { nav = λ p. refl; last = λ p. refl; epoch = λ p. refl }))
applied_last s req changes.Edit = taken_last s req changes.Edit s.places (same_last s.places)
