-- Places that are changed, but awake only as they were, on documents that they were shown before: over each change, a delivered report, and as navigables fall asleep.
use Rattle.std.proofs.Common.{◌≡◌, ◌⊎◌, inl, inr, Bool, true, false, cond, not, ◌&&◌, ◌==◌, List, [], ◌∷◌, ◌++◌, map, Option, Some, None, refl, sym, ap, ◌∙◌}
use Rattle.std.specs.Option.{option_map_or}
use Rattle.std.specs.Prelude.{option_and_then, option_map}
use Rattle.tab_ids.specs.declared.DocId.{DocId}
use Rattle.tab_ids.specs.declared.EntryId.{EntryId}
use Rattle.tab_ids.specs.declared.NavId.{NavId}
use Rattle.tab_ids.specs.declared.ReqId.{ReqId}
use Rattle.tab_ids.specs.declared.StateId.{StateId}
use Rattle.log_model.specs.declared.change.Change.{Change}
use Rattle.log_model.specs.declared.change.Change.TheVariants as changes
use Rattle.log_model.specs.declared.job.Job.{Job}
use Rattle.log_model.specs.declared.job.Task.{Task}
use Rattle.log_model.specs.declared.job.Task.TheVariants as tasks
use Rattle.log_model.specs.declared.job.Why.{Why}
use Rattle.log_model.specs.declared.made.Made.{Made}
use Rattle.log_model.specs.declared.made.Report.{Report}
use Rattle.log_model.specs.declared.made.Report.TheVariants as reports
use Rattle.log_model.specs.AfterPlaces.{given_entry, new_place, on_place, place_arrived, places_added, places_applied, places_delivered, places_given, put_to_sleep, with_taker}
use Rattle.log_model.specs.History.{applied, has_nav, has_row}
use Rattle.log_model.specs.Places.{holder_of}
use Rattle.log_model.specs.Seen.{Asked, Document, Place, Seen, asleep, awake, document_of, place_in, place_of, request_of}
use Rattle.seen_facts.proofs.Desk.Stays.{NoDeath}
use Rattle.seen_facts.proofs.Entry.Parts.{WasPlace, place_then, was_place}
use Rattle.seen_facts.proofs.Doc.Leaves.{KeepPlaces}
use Rattle.seen_facts.proofs.Load.Docs.{found_behind}

-- the navigable was shown the same documents, and is awake only as it was
pub record WasAlike (places : List Place) (nav : NavId) (place : Place) : Type 0 where
  pub before : Place
  pub there : (let o : Option Place = place_in places nav in o) ≡ Some before
  pub ever : place.ever_awake ≡ before.ever_awake
  pub wakes : (doc : DocId) → place.status ≡ awake doc → before.status ≡ awake doc

-- it was shown none
pub record IsBlank (place : Place) : Type 0 where
  pub ever : place.ever_awake ≡ []
  pub sleeps : (doc : DocId) → place.status ≡ awake doc → ⊥

abbrev pub AllWereAlike : List Place → List Place → Type 0
AllWereAlike places next =
    (nav : NavId) (place : Place) → place_in next nav ≡ Some place → WasAlike places nav place ⊎ IsBlank place

pub same_alike : (places : List Place) → AllWereAlike places places
same_alike places nav place there = inl (record { before = place; there = there; ever = refl; wakes = λ doc e. e })

-- ---- each place changes

pub record KeepsShown (g : Place → Place) : Type 0 where
  pub nav : (p : Place) → (g p).nav ≡ p.nav
  pub ever : (p : Place) → (g p).ever_awake ≡ p.ever_awake
  pub status : (p : Place) (doc : DocId) → (g p).status ≡ awake doc → p.status ≡ awake doc

pub shown_if : (test : Place → Bool) (f : Place → Place) → KeepsShown f → KeepsShown (λ (p : Place). cond (test p) (f p) p)
shown_if test f keeps =
    record {
      nav = λ p. elim (test p) as (λ b. (let x : Place = cond b (f p) p in x).nav ≡ p.nav) [ true ↦ keeps.nav p | false ↦ refl ];
      ever = λ p. elim (test p) as (λ b. (let x : Place = cond b (f p) p in x).ever_awake ≡ p.ever_awake) [ true ↦ keeps.ever p | false ↦ refl ];
      status = λ p doc. by_test p doc (test p);
    }
  where
    by_test : (p : Place) (doc : DocId) (b : Bool) → (let x : Place = cond b (f p) p in x).status ≡ awake doc → p.status ≡ awake doc
    by_test p doc true e = keeps.status p doc e
    by_test p doc false e = e

-- after other changes
pub alike_mapped : (places mid : List Place) (g : Place → Place) → KeepsShown g → AllWereAlike places mid → AllWereAlike places (map g mid)
alike_mapped places mid g keeps first nav place there = by_before (first nav w.before w.there)
  where
    w : WasPlace mid g nav place
    w = was_place mid g keeps.nav nav place there

    ever : place.ever_awake ≡ w.before.ever_awake
    ever = ap (λ (p : Place). p.ever_awake) (sym w.is) ∙ keeps.ever w.before

    wakes : (doc : DocId) → place.status ≡ awake doc → w.before.status ≡ awake doc
    wakes doc e = keeps.status w.before doc (ap (λ (p : Place). p.status) w.is ∙ e)

    by_before : WasAlike places nav w.before ⊎ IsBlank w.before → WasAlike places nav place ⊎ IsBlank place
    by_before (inl was) =
        inl (record { before = was.before; there = was.there; ever = ever ∙ was.ever; wakes = λ doc e. was.wakes doc (wakes doc e) })
    by_before (inr blank) = inr (record { ever = ever ∙ blank.ever; sleeps = λ doc e. blank.sleeps doc (wakes doc e) })

-- a change of the places keeps them
pub kept_mapped : (places : List Place) (g : Place → Place) → ((p : Place) → (g p).nav ≡ p.nav) → KeepPlaces places (map g places)
kept_mapped places g same nav has =
    record { place = g has.place; found = place_then places g same nav ∙ ap (λ (o : Option Place). option_map g o) has.found }

-- ---- who falls asleep

abbrev pub sleeps_so : List NavId → Why → Place → Place
sleeps_so navs why p = cond (has_nav navs p.nav) (record p { status = asleep; why = why }) p

pub sleeps_shown : (navs : List NavId) (why : Why) → KeepsShown (sleeps_so navs why)
sleeps_shown navs why =
    shown_if (λ (p : Place). has_nav navs p.nav) (λ (p : Place). record p { status = asleep; why = why }) (record { nav = λ p. refl; ever = λ p. refl; status = λ p doc never. absurd cc })

pub asleep_alike : (navs : List NavId) (why : Why) (places : List Place) → AllWereAlike places (put_to_sleep navs why places)
asleep_alike navs why places = alike_mapped places places (sleeps_so navs why) (sleeps_shown navs why) (same_alike places)

-- ---- a report is delivered

-- the place of one navigable changes
on_alike : (nav : NavId) (f : Place → Place) (places : List Place) → KeepsShown f → AllWereAlike places (on_place nav f places)
on_alike nav f places keeps =
    alike_mapped places places (λ (p : Place). cond (p.nav.0 == nav.0) (f p) p) (shown_if (λ (p : Place). p.nav.0 == nav.0) f keeps) (same_alike places)

arrived_alike : (job : Job) (places : List Place) (o : Option Document) → AllWereAlike places (option_map_or (λ (d : Document). on_place d.nav (place_arrived job) places) o places)
arrived_alike job places None = same_alike places
arrived_alike job places (Some d) =
    on_alike d.nav (place_arrived job) places (record { nav = λ p. refl; ever = λ p. refl; status = λ p doc e. e })

pub delivered_alike : (s : Seen) (report : Option Report) → NoDeath report → AllWereAlike s.places (places_delivered s report)
delivered_alike s None fine = same_alike s.places
delivered_alike s (Some (reports.Died death)) never = absurd never
delivered_alike s (Some (reports.Made made)) fine = same_alike s.places
delivered_alike s (Some (reports.Done job outcome made)) fine = by_task job.task
  where
    by_task : (task : Task) → AllWereAlike s.places (places_delivered s (Some (reports.Done (record job { task = task }) outcome made)))
    by_task (tasks.Activate entry epoch length index memo address) = arrived_alike job s.places (document_of s job.doc)
    by_task (tasks.Populate nav state address initial) = same_alike s.places
    by_task (tasks.Update length index) = same_alike s.places
    by_task tasks.Freeze = same_alike s.places
    by_task tasks.Discard = same_alike s.places
    by_task (tasks.Ask slot cause) = same_alike s.places
    by_task (tasks.DoFragment req mode address) = same_alike s.places

-- ---- a change is applied

given_alike : (s : Seen) (req : ReqId) (nav : NavId) (entry : EntryId) → AllWereAlike s.places (places_given s req nav entry)
given_alike s req nav entry = by_made (option_and_then (λ (q : Asked). q.made) (request_of s req))
  where
    by_made : (o : Option Made) → AllWereAlike s.places (option_map_or (λ (m : Made). on_place nav (given_entry entry) s.places) o s.places)
    by_made None = same_alike s.places
    by_made (Some made) =
        on_alike nav (given_entry entry) s.places (record { nav = λ p. refl; ever = λ p. refl; status = λ p doc e. e })

-- a new one was shown none
new_alike : (places : List Place) (new : Place) → IsBlank new → AllWereAlike places (places ++ new ∷ [])
new_alike places new blank nav place there = by_which (found_behind nav places new place there)
  where
    by_which : (place_in places nav ≡ Some place) ⊎ (new ≡ place) → WasAlike places nav place ⊎ IsBlank place
    by_which (inl was) = same_alike places nav place was
    by_which (inr is) =
        inr (record { ever = ap (λ (p : Place). p.ever_awake) (sym is) ∙ blank.ever; sleeps = λ doc e. blank.sleeps doc (ap (λ (p : Place). p.status) is ∙ e) })

added_alike : (s : Seen) (req : ReqId) (owner : StateId) (nav : NavId) → AllWereAlike s.places (places_added s req owner nav)
added_alike s req owner nav = by_parent (option_and_then (place_of s) (holder_of owner s.history.rows))
  where
    by_parent : (o : Option Place) → AllWereAlike s.places (option_map_or (λ (parent : Place). s.places ++ new_place req nav owner parent ∷ []) o s.places)
    by_parent None = same_alike s.places
    by_parent (Some parent) =
        new_alike s.places (new_place req nav owner parent) (record { ever = refl; sleeps = λ doc e. absurd cc })

taken_alike : (s : Seen) (req : ReqId) (change : Change) (places : List Place) → AllWereAlike s.places places → AllWereAlike s.places (with_taker s.history (applied s.history change) req places)
taken_alike s req change places first =
    alike_mapped s.places places (λ (p : Place). cond (has_row p.nav s.history.rows && not (has_row p.nav (applied s.history change).rows)) (record p { taken_by = Some req }) p)
    (shown_if (λ (p : Place). has_row p.nav s.history.rows && not (has_row p.nav (applied s.history change).rows)) (λ (p : Place). record p { taken_by = Some req }) (record { nav = λ p. refl; ever = λ p. refl; status = λ p doc e. e })) first

pub applied_alike : (s : Seen) (req : ReqId) (change : Change) → AllWereAlike s.places (places_applied s req change)
applied_alike s req (changes.Push nav entry state address memo) =
    taken_alike s req (changes.Push nav entry state address memo) (places_given s req nav entry) (given_alike s req nav entry)
applied_alike s req (changes.Replace nav over entry state address memo) =
    taken_alike s req (changes.Replace nav over entry state address memo) (places_given s req nav entry) (given_alike s req nav entry)
applied_alike s req (changes.AddFrame owner nav entry state) =
    taken_alike s req (changes.AddFrame owner nav entry state) (places_added s req owner nav) (added_alike s req owner nav)
applied_alike s req (changes.RemoveFrame nav) = taken_alike s req (changes.RemoveFrame nav) s.places (same_alike s.places)
applied_alike s req (changes.Traverse goal) = taken_alike s req (changes.Traverse goal) s.places (same_alike s.places)
applied_alike s req (changes.Reload nav) =
    taken_alike s req (changes.Reload nav) (on_place nav (λ place. record place { is_pending = true; is_unmet = true }) s.places)
    (on_alike nav (λ place. record place { is_pending = true; is_unmet = true }) s.places (record { nav = λ p. refl; ever = λ p. refl; status = λ p doc e. e }))
applied_alike s req changes.Edit = taken_alike s req changes.Edit s.places (same_alike s.places)
