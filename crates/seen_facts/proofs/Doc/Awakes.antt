-- Who is awake on a document after a row was so before it: over each row but an order that shows one.
use Rattle.std.proofs.Common.{◌≡◌, Bool, true, false, cond, not, ◌&&◌, ◌==◌, List, [], ◌∷◌, ◌++◌, map, Option, Some, None, refl, sym, ap, ◌∙◌}
use Rattle.std.specs.Option.{option_map_or}
use Rattle.std.specs.Prelude.{option_and_then}
use Rattle.tab_ids.specs.declared.DocId.{DocId}
use Rattle.tab_ids.specs.declared.EntryId.{EntryId}
use Rattle.tab_ids.specs.declared.NavId.{NavId}
use Rattle.tab_ids.specs.declared.ReqId.{ReqId}
use Rattle.tab_ids.specs.declared.StateId.{StateId}
use Rattle.log_model.specs.declared.change.Change.{Change}
use Rattle.log_model.specs.declared.change.Change.TheVariants as changes
use Rattle.log_model.specs.declared.job.Job.{Job}
use Rattle.log_model.specs.declared.job.Task.{Task}
use Rattle.log_model.specs.declared.job.Task.TheVariants as tasks
use Rattle.log_model.specs.declared.job.Why.{Why}
use Rattle.log_model.specs.declared.made.Made.{Made}
use Rattle.log_model.specs.declared.made.Report.{Report}
use Rattle.log_model.specs.declared.made.Report.TheVariants as reports
use Rattle.log_model.specs.AfterPlaces.{given_entry, new_place, on_place, place_arrived, places_applied, places_delivered, places_given, put_to_sleep, with_taker}
use Rattle.log_model.specs.History.{History, has_nav, has_row, applied}
use Rattle.log_model.specs.Places.{holder_of}
use Rattle.log_model.specs.Seen.{Asked, Document, Place, Seen, asleep, awake, document_of, place_in, place_of, request_of}
use Rattle.seen_facts.proofs.Desk.Stays.{NoDeath}
use Rattle.seen_facts.proofs.Entry.Parts.{WasPlace, was_place}

-- the navigable was awake on the document
pub record WasAwake (places : List Place) (nav : NavId) (doc : DocId) : Type 0 where
  pub before : Place
  pub there : (let o : Option Place = place_in places nav in o) ≡ Some before
  pub wakes : before.status ≡ awake doc

abbrev pub AllWereAwake : List Place → List Place → Type 0
AllWereAwake places next =
    (nav : NavId) (place : Place) (doc : DocId) → place_in next nav ≡ Some place → place.status ≡ awake doc → WasAwake places nav doc

pub awake_same : (places : List Place) → AllWereAwake places places
awake_same places nav place doc there wakes = record { before = place; there = there; wakes = wakes }

pub awake_both : (places mid next : List Place) → AllWereAwake places mid → AllWereAwake mid next → AllWereAwake places next
awake_both places mid next one two nav place doc there wakes =
    let w = two nav place doc there wakes in one nav w.before doc w.there w.wakes

-- each place changes, and is awake only as it was
pub record KeepsAwake (g : Place → Place) : Type 0 where
  pub nav : (p : Place) → (g p).nav ≡ p.nav
  pub status : (p : Place) (doc : DocId) → (g p).status ≡ awake doc → p.status ≡ awake doc

pub awake_mapped : (places : List Place) (g : Place → Place) → KeepsAwake g → AllWereAwake places (map g places)
awake_mapped places g keeps nav place doc there wakes =
    let w : WasPlace places g nav place = was_place places g keeps.nav nav place there in
    record { before = w.before; there = w.there; wakes = keeps.status w.before doc (ap (λ (p : Place). p.status) w.is ∙ wakes) }

pub awake_if : (test : Place → Bool) (f : Place → Place) → KeepsAwake f → KeepsAwake (λ (p : Place). cond (test p) (f p) p)
awake_if test f keeps =
    record {
      nav = λ p. elim (test p) as (λ b. (let x : Place = cond b (f p) p in x).nav ≡ p.nav) [ true ↦ keeps.nav p | false ↦ refl ];
      status = λ p doc. by_test p doc (test p);
    }
  where
    by_test : (p : Place) (doc : DocId) (b : Bool) → (let x : Place = cond b (f p) p in x).status ≡ awake doc → p.status ≡ awake doc
    by_test p doc true e = keeps.status p doc e
    by_test p doc false e = e

-- ---- who falls asleep

pub asleep_awake : (navs : List NavId) (why : Why) (places : List Place) → AllWereAwake places (put_to_sleep navs why places)
asleep_awake navs why places =
    awake_mapped places (λ (p : Place). cond (has_nav navs p.nav) (record p { status = asleep; why = why }) p)
    (awake_if (λ (p : Place). has_nav navs p.nav) (λ (p : Place). record p { status = asleep; why = why }) (record { nav = λ p. refl; status = λ p doc never. absurd cc }))

abbrev sleeps_so : List NavId → Why → Place → Place
sleeps_so navs why p = cond (has_nav navs p.nav) (record p { status = asleep; why = why }) p

-- and then isn't awake
pub not_asleep : (navs : List NavId) (why : Why) (places : List Place) (nav : NavId) (place : Place) (doc : DocId) → place_in (put_to_sleep navs why places) nav ≡ Some place → place.status ≡ awake doc → has_nav navs place.nav ≡ false
not_asleep navs why places nav place doc there wakes =
    by_test (has_nav navs w.before.nav) refl
  where
    nav_same : (p : Place) → (sleeps_so navs why p).nav ≡ p.nav
    nav_same p = elim (has_nav navs p.nav) as (λ b. (let x : Place = cond b (record p { status = asleep; why = why }) p in x).nav ≡ p.nav) [ true ↦ refl | false ↦ refl ]

    w : WasPlace places (sleeps_so navs why) nav place
    w = was_place places (sleeps_so navs why) nav_same nav place there

    by_test : (b : Bool) → has_nav navs w.before.nav ≡ b → has_nav navs place.nav ≡ false
    by_test false e = ap (λ (n : NavId). has_nav navs n) (ap (λ (p : Place). p.nav) (sym w.is) ∙ nav_same w.before) ∙ e
    by_test true e =
        let is : asleep ≡ awake doc = ap (λ (b : Bool). (let x : Place = cond b (record w.before { status = asleep; why = why }) w.before in x).status) (sym e) ∙ ap (λ (p : Place). p.status) w.is ∙ wakes in
        absurd cc

-- ---- a report is delivered

arrived_awake : (job : Job) (places : List Place) (o : Option Document) → AllWereAwake places (option_map_or (λ (d : Document). on_place d.nav (place_arrived job) places) o places)
arrived_awake job places None = awake_same places
arrived_awake job places (Some d) =
    awake_mapped places (λ (p : Place). cond (p.nav.0 == d.nav.0) (place_arrived job p) p) (awake_if (λ (p : Place). p.nav.0 == d.nav.0) (place_arrived job) (record { nav = λ p. refl; status = λ p doc e. e }))

pub delivered_awake : (s : Seen) (report : Option Report) → NoDeath report → AllWereAwake s.places (places_delivered s report)
delivered_awake s None fine = awake_same s.places
delivered_awake s (Some (reports.Died death)) never = absurd never
delivered_awake s (Some (reports.Made made)) fine = awake_same s.places
delivered_awake s (Some (reports.Done job outcome made)) fine = by_task job.task
  where
    by_task : (task : Task) → AllWereAwake s.places (places_delivered s (Some (reports.Done (record job { task = task }) outcome made)))
    by_task (tasks.Activate entry epoch length index memo address) = arrived_awake job s.places (document_of s job.doc)
    by_task (tasks.Populate nav state address initial) = awake_same s.places
    by_task (tasks.Update length index) = awake_same s.places
    by_task tasks.Freeze = awake_same s.places
    by_task tasks.Discard = awake_same s.places
    by_task (tasks.Ask slot cause) = awake_same s.places
    by_task (tasks.DoFragment req mode address) = awake_same s.places

-- ---- a change is applied

given_awake : (places : List Place) (nav : NavId) (entry : EntryId) (o : Option Made) → AllWereAwake places (option_map_or (λ (m : Made). on_place nav (given_entry entry) places) o places)
given_awake places nav entry None = awake_same places
given_awake places nav entry (Some made) =
    awake_mapped places (λ (p : Place). cond (p.nav.0 == nav.0) (given_entry entry p) p) (awake_if (λ (p : Place). p.nav.0 == nav.0) (given_entry entry) (record { nav = λ p. refl; status = λ p doc e. e }))

-- the new one is asleep
new_awake : (places : List Place) (new : Place) → new.status ≡ asleep → AllWereAwake places (places ++ new ∷ [])
new_awake places new sleeps nav place doc there wakes = by_list places there
  where
    by_list : (l : List Place) → place_in (l ++ new ∷ []) nav ≡ Some place → WasAwake l nav doc
    by_list [] e = by_test (new.nav.0 == nav.0) e
      where
        by_test : (b : Bool) → (let o : Option Place = cond b (Some new) None in o) ≡ Some place → WasAwake [] nav doc
        by_test false h = absurd cc
        by_test true h =
            let same : new ≡ place = cc in
            let is : asleep ≡ awake doc = sym sleeps ∙ ap (λ (p : Place). p.status) same ∙ wakes in absurd cc
    by_list (p ∷ l) e = by_test (p.nav.0 == nav.0) refl e (by_list l)
      where
        by_test : (b : Bool) → (p.nav.0 == nav.0) ≡ b → (let o : Option Place = cond b (Some p) (place_in (l ++ new ∷ []) nav) in o) ≡ Some place → (place_in (l ++ new ∷ []) nav ≡ Some place → WasAwake l nav doc) → WasAwake (p ∷ l) nav doc
        by_test true h is more =
            let same : p ≡ place = cc in
            record { before = place; there = ap (λ (b : Bool). let o : Option Place = cond b (Some p) (place_in l nav) in o) h ∙ ap (λ (x : Place). Some x) same; wakes = wakes }
        by_test false h is more =
            let w = more is in
            record { before = w.before; there = ap (λ (b : Bool). let o : Option Place = cond b (Some p) (place_in l nav) in o) h ∙ w.there; wakes = w.wakes }

added_awake : (s : Seen) (req : ReqId) (owner : StateId) (nav : NavId) (o : Option Place) → AllWereAwake s.places (option_map_or (λ (parent : Place). s.places ++ new_place req nav owner parent ∷ []) o s.places)
added_awake s req owner nav None = awake_same s.places
added_awake s req owner nav (Some parent) = new_awake s.places (new_place req nav owner parent) refl

taker_awake : (old new : History) (req : ReqId) (places : List Place) → AllWereAwake places (with_taker old new req places)
taker_awake old new req places =
    awake_mapped places (λ (p : Place). cond (has_row p.nav old.rows && not (has_row p.nav new.rows)) (record p { taken_by = Some req }) p)
    (awake_if (λ (p : Place). has_row p.nav old.rows && not (has_row p.nav new.rows)) (λ (p : Place). record p { taken_by = Some req }) (record { nav = λ p. refl; status = λ p doc e. e }))

pub applied_awake : (s : Seen) (req : ReqId) (change : Change) → AllWereAwake s.places (places_applied s req change)
applied_awake s req change = by_change change
  where
    made_of_request : Option Made
    made_of_request = option_and_then (λ (q : Asked). q.made) (request_of s req)

    then_taker : (c : Change) (mid : List Place) → AllWereAwake s.places mid → AllWereAwake s.places (with_taker s.history (applied s.history c) req mid)
    then_taker c mid one = awake_both s.places mid (with_taker s.history (applied s.history c) req mid) one (taker_awake s.history (applied s.history c) req mid)

    by_change : (c : Change) → AllWereAwake s.places (places_applied s req c)
    by_change (changes.Push nav entry state address memo) =
        then_taker (changes.Push nav entry state address memo) (places_given s req nav entry) (given_awake s.places nav entry made_of_request)
    by_change (changes.Replace nav over entry state address memo) =
        then_taker (changes.Replace nav over entry state address memo) (places_given s req nav entry) (given_awake s.places nav entry made_of_request)
    by_change (changes.AddFrame owner nav entry state) =
        then_taker (changes.AddFrame owner nav entry state) (option_map_or (λ (parent : Place). s.places ++ new_place req nav owner parent ∷ []) (option_and_then (place_of s) (holder_of owner s.history.rows)) s.places) (added_awake s req owner nav (option_and_then (place_of s) (holder_of owner s.history.rows)))
    by_change (changes.RemoveFrame nav) = then_taker (changes.RemoveFrame nav) s.places (awake_same s.places)
    by_change (changes.Traverse goal) = then_taker (changes.Traverse goal) s.places (awake_same s.places)
    by_change (changes.Reload nav) =
        then_taker (changes.Reload nav) (on_place nav (λ (p : Place). record p { is_pending = true; is_unmet = true }) s.places)
        (awake_mapped s.places (λ (p : Place). cond (p.nav.0 == nav.0) (record p { is_pending = true; is_unmet = true }) p) (awake_if (λ (p : Place). p.nav.0 == nav.0) (λ (p : Place). record p { is_pending = true; is_unmet = true }) (record { nav = λ p. refl; status = λ p doc e. e })))
    by_change changes.Edit = then_taker changes.Edit s.places (awake_same s.places)
