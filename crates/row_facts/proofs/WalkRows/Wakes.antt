-- No row wakes a navigable but an order that shows it a document: each that is awake then was awake on the same document before.
use Rattle.log_model.specs.AfterPlaces.{given_entry, is_taken_by, new_place, on_place, place_arrived, place_bereft, places_added, places_applied, places_delivered, places_given, places_sent, put_to_sleep, sleepers_with, with_taker}
use Rattle.log_model.specs.Equal.{holds}
use Rattle.log_model.specs.History.{applied, has_nav, has_row}
use Rattle.log_model.specs.Places.{awake_document, holder_of, is_asleep}
use Rattle.log_model.specs.Seen.{Asked, Document, Place, Seen, asleep, awake, document_of, lost, place_in, place_of, request_of}
use Rattle.log_model.specs.declared.change.Change.{Change}
use Rattle.log_model.specs.declared.job.Job.{Job}
use Rattle.log_model.specs.declared.job.Task.{Task}
use Rattle.log_model.specs.declared.job.Why.{Why}
use Rattle.log_model.specs.declared.made.Made.{Made}
use Rattle.log_model.specs.declared.made.Report.{Report}
use Rattle.seen_facts.proofs.Mover.Places.{was_there}
use Rattle.std.proofs.Common.{Bool, List, None, Option, Some, [], ap, cond, false, map, not, refl, sym, true, ◌&&◌, ◌++◌, ◌==◌, ◌∙◌, ◌∷◌, ◌≡◌}
use Rattle.std.proofs.lemmas.List.Folds.{find-append}
use Rattle.std.specs.List.{list_any}
use Rattle.std.specs.Option.{option_map_or, option_or}
use Rattle.std.specs.Prelude.{option_and_then}
use Rattle.tab_ids.specs.declared.Death.{Death}
use Rattle.tab_ids.specs.declared.DocId.{DocId}
use Rattle.tab_ids.specs.declared.EntryId.{EntryId}
use Rattle.tab_ids.specs.declared.NavId.{NavId}
use Rattle.tab_ids.specs.declared.ReqId.{ReqId}
use Rattle.tab_ids.specs.declared.StateId.{StateId}
use Rattle.log_model.specs.declared.change.Change.TheVariants as changes
use Rattle.log_model.specs.declared.job.Task.TheVariants as tasks
use Rattle.log_model.specs.declared.job.Why.TheVariants as whys
use Rattle.log_model.specs.declared.made.Report.TheVariants as reports

-- ---- places

-- the navigable was awake on the document
pub record WokeIn (places : List Place) (nav : NavId) (doc : DocId) : Type 0 where
  pub place : Place
  pub placed : place_in places nav ≡ Some place
  pub wakes : place.status ≡ awake doc

-- each that is awake was awake on the same document before
abbrev pub WokeBefore : List Place → List Place → Type 0
WokeBefore old new =
    (nav : NavId) (place : Place) (doc : DocId) → place_in new nav ≡ Some place → place.status ≡ awake doc → WokeIn old nav doc

-- where nothing changes
woke_same : (places : List Place) → WokeBefore places places
woke_same places nav place doc at wakes = record { place = place; placed = at; wakes = wakes }

-- over two changes, one after the other
woke_then : (a b c : List Place) → WokeBefore a b → WokeBefore b c → WokeBefore a c
woke_then a b c first second nav place doc at wakes =
    let then_ = second nav place doc at wakes in first nav then_.place doc then_.placed then_.wakes

-- a change of a place that wakes none
record WakesNone (f : Place → Place) : Type 0 where
  nav : (p : Place) → (f p).nav ≡ p.nav
  wakes : (p : Place) (doc : DocId) → (f p).status ≡ awake doc → p.status ≡ awake doc

-- where each place changes so
woke_map : (f : Place → Place) → WakesNone f → (places : List Place) → WokeBefore places (map f places)
woke_map f none places nav place doc at wakes =
    let was = was_there f places none.nav nav place at in
    record { place = was.before; placed = was.found; wakes = none.wakes was.before doc (ap (λ (p : Place). p.status) was.is ∙ wakes) }

-- where some do
woke_if : (test : Place → Bool) (f : Place → Place) → WakesNone f → (places : List Place) → WokeBefore places (map (λ (p : Place). cond (test p) (f p) p) places)
woke_if test f none places =
    woke_map (λ (p : Place). cond (test p) (f p) p) (record { nav = λ p. nav_same p (test p); wakes = λ p doc. wakes_same p doc (test p) }) places
  where
    nav_same : (p : Place) (b : Bool) → (let q : Place = cond b (f p) p in q).nav ≡ p.nav
    nav_same p true = none.nav p
    nav_same p false = refl

    wakes_same : (p : Place) (doc : DocId) (b : Bool) → (let q : Place = cond b (f p) p in q).status ≡ awake doc → p.status ≡ awake doc
    wakes_same p doc true is = none.wakes p doc is
    wakes_same p doc false is = is

-- a place more, of one that sleeps
woke_more : (places : List Place) (new : Place) → new.status ≡ asleep → WokeBefore places (places ++ new ∷ [])
woke_more places new sleeps nav place doc at wakes =
    by_place (place_in places nav) refl (sym (find-append (λ (p : Place). p.nav.0 == nav.0) places (new ∷ [])) ∙ at)
  where
    by_new : (b : Bool) → (let o : Option Place = cond b (Some new) None in o) ≡ Some place → WokeIn places nav doc
    by_new true is =
        let same : new ≡ place = cc in
        let never : asleep ≡ awake doc = sym sleeps ∙ ap (λ (p : Place). p.status) same ∙ wakes in absurd cc
    by_new false is = absurd cc

    by_place : (o : Option Place) → place_in places nav ≡ o → option_or o (place_in (new ∷ []) nav) ≡ Some place → WokeIn places nav doc
    by_place None there is = by_new (new.nav.0 == nav.0) is
    by_place (Some p) there is =
        let same : p ≡ place = cc in
        record { place = p; placed = there; wakes = ap (λ (q : Place). q.status) same ∙ wakes }

-- some fall asleep
woke_slept : (navs : List NavId) (why : Why) (places : List Place) → WokeBefore places (put_to_sleep navs why places)
woke_slept navs why places =
    woke_if (λ (p : Place). has_nav navs p.nav) (λ (p : Place). record p { status = asleep; why = why }) (record { nav = λ p. refl; wakes = λ p doc is. absurd cc }) places

-- ---- what an applied change does

-- it gives a navigable an entry
given_woke : (s : Seen) (req : ReqId) (nav : NavId) (entry : EntryId) → WokeBefore s.places (places_given s req nav entry)
given_woke s req nav entry = by_made (option_and_then (λ (q : Asked). q.made) (request_of s req))
  where
    by_made : (o : Option Made) → WokeBefore s.places (option_map_or (λ (made : Made). on_place nav (given_entry entry) s.places) o s.places)
    by_made None = woke_same s.places
    by_made (Some made) =
        woke_if (λ (p : Place). p.nav.0 == nav.0) (given_entry entry) (record { nav = λ p. refl; wakes = λ p doc is. is }) s.places

-- it adds a navigable, which sleeps
added_woke : (s : Seen) (req : ReqId) (owner : StateId) (nav : NavId) → WokeBefore s.places (places_added s req owner nav)
added_woke s req owner nav = by_parent (option_and_then (place_of s) (holder_of owner s.history.rows))
  where
    by_parent : (o : Option Place) → WokeBefore s.places (option_map_or (λ parent. s.places ++ new_place req nav owner parent ∷ []) o s.places)
    by_parent None = woke_same s.places
    by_parent (Some parent) = woke_more s.places (new_place req nav owner parent) refl

-- it takes the last entries of a navigable, after that
taken_woke : (s : Seen) (req : ReqId) (change : Change) (places : List Place) → WokeBefore s.places places → WokeBefore s.places (with_taker s.history (applied s.history change) req places)
taken_woke s req change places first =
    woke_then s.places places (with_taker s.history (applied s.history change) req places) first
    (woke_if (λ (p : Place). has_row p.nav s.history.rows && not (has_row p.nav (applied s.history change).rows)) (λ (p : Place). record p { taken_by = Some req }) (record { nav = λ p. refl; wakes = λ p doc is. is }) places)

-- whichever it is
pub applied_woke : (s : Seen) (req : ReqId) (change : Change) → WokeBefore s.places (places_applied s req change)
applied_woke s req (changes.Push nav entry state address memo) =
    taken_woke s req (changes.Push nav entry state address memo) (places_given s req nav entry) (given_woke s req nav entry)
applied_woke s req (changes.Replace nav over entry state address memo) =
    taken_woke s req (changes.Replace nav over entry state address memo) (places_given s req nav entry) (given_woke s req nav entry)
applied_woke s req (changes.AddFrame owner nav entry state) =
    taken_woke s req (changes.AddFrame owner nav entry state) (places_added s req owner nav) (added_woke s req owner nav)
applied_woke s req (changes.RemoveFrame nav) = taken_woke s req (changes.RemoveFrame nav) s.places (woke_same s.places)
applied_woke s req (changes.Traverse goal) = taken_woke s req (changes.Traverse goal) s.places (woke_same s.places)
applied_woke s req (changes.Reload nav) =
    taken_woke s req (changes.Reload nav) (on_place nav (λ place. record place { is_pending = true; is_unmet = true }) s.places)
    (woke_if (λ (p : Place). p.nav.0 == nav.0) (λ (p : Place). record p { is_pending = true; is_unmet = true }) (record { nav = λ p. refl; wakes = λ p doc is. is }) s.places)
applied_woke s req changes.Edit = taken_woke s req changes.Edit s.places (woke_same s.places)

-- ---- what a delivered report does

-- it tells that a document is shown
arrived_woke : (s : Seen) (job : Job) (o : Option Document) → WokeBefore s.places (option_map_or (λ (d : Document). on_place d.nav (place_arrived job) s.places) o s.places)
arrived_woke s job None = woke_same s.places
arrived_woke s job (Some d) =
    woke_if (λ (p : Place). p.nav.0 == d.nav.0) (place_arrived job) (record { nav = λ p. refl; wakes = λ p doc is. is }) s.places

-- it tells of a death, which makes navigables lost, and puts others to sleep
bereft_woke : (s : Seen) (death : Death) → WokeBefore s.places (map (place_bereft s death) s.places)
bereft_woke s death =
    woke_map (place_bereft s death) (record { nav = λ p. nav_same p (below p) (hit p); wakes = λ p doc. wakes_same p doc (below p) (hit p) }) s.places
  where
    hit : Place → Bool
    hit p = holds (is_taken_by s death) (awake_document p)

    below : Place → Bool
    below p = list_any (λ nav. holds hit (place_of s nav)) p.above && not (is_asleep p)

    nav_same : (p : Place) (b c : Bool) → (let q : Place = cond b (record p { status = asleep; why = whys.Death death }) (cond c (record p { status = lost; why = whys.Death death }) p) in q).nav ≡ p.nav
    nav_same p true c = refl
    nav_same p false true = refl
    nav_same p false false = refl

    wakes_same : (p : Place) (doc : DocId) (b c : Bool) → (let q : Place = cond b (record p { status = asleep; why = whys.Death death }) (cond c (record p { status = lost; why = whys.Death death }) p) in q).status ≡ awake doc → p.status ≡ awake doc
    wakes_same p doc true c is = absurd cc
    wakes_same p doc false true is = absurd cc
    wakes_same p doc false false is = is

-- whichever it is
pub delivered_woke : (s : Seen) (report : Option Report) → WokeBefore s.places (places_delivered s report)
delivered_woke s None = woke_same s.places
delivered_woke s (Some (reports.Died death)) = bereft_woke s death
delivered_woke s (Some (reports.Made made)) = woke_same s.places
delivered_woke s (Some (reports.Done job outcome made)) = by_task job.task
  where
    by_task : (task : Task) → WokeBefore s.places (places_delivered s (Some (reports.Done (record job { task = task }) outcome made)))
    by_task (tasks.Activate entry epoch length index memo address) = arrived_woke s job (document_of s job.doc)
    by_task (tasks.Populate nav state address initial) = woke_same s.places
    by_task (tasks.Update length index) = woke_same s.places
    by_task tasks.Freeze = woke_same s.places
    by_task tasks.Discard = woke_same s.places
    by_task (tasks.Ask slot cause) = woke_same s.places
    by_task (tasks.DoFragment req mode address) = woke_same s.places

-- ---- what an order does

-- the order shows no navigable a document
abbrev pub ShowsNone : Task → Type 0
ShowsNone (tasks.Activate entry epoch length index memo address) = ⊥
ShowsNone _ = Unit {0}

-- then it wakes none
pub sent_woke : (s : Seen) (job : Job) (task : Task) → ShowsNone task → WokeBefore s.places (places_sent s job task)
sent_woke s job (tasks.Activate entry epoch length index memo address) never = absurd never
sent_woke s job tasks.Freeze none = woke_slept (sleepers_with s job.doc) job.why s.places
sent_woke s job tasks.Discard none = woke_slept (sleepers_with s job.doc) job.why s.places
sent_woke s job (tasks.Populate nav state address initial) none = woke_same s.places
sent_woke s job (tasks.Update length index) none = woke_same s.places
sent_woke s job (tasks.Ask slot cause) none = woke_same s.places
sent_woke s job (tasks.DoFragment req mode address) none = woke_same s.places
