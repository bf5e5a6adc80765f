-- Documents stay where they live, and navigables under no lower epoch, over each row.
use Rattle.std.proofs.Common.{◌≡◌, ℕ, ◌≤◌, Bool, true, false, cond, not, ◌&&◌, ◌==◌, List, [], ◌∷◌, ◌++◌, map, Option, Some, None, refl, ap, ◌∙◌, arith}
use Rattle.std.specs.Prelude.{option_and_then, option_map}
use Rattle.std.specs.Option.{option_map_or}
use Rattle.tab_ids.specs.declared.DocId.{DocId}
use Rattle.tab_ids.specs.declared.EntryId.{EntryId}
use Rattle.tab_ids.specs.declared.NavId.{NavId}
use Rattle.tab_ids.specs.declared.ProcId.{ProcId}
use Rattle.tab_ids.specs.declared.ReqId.{ReqId}
use Rattle.tab_ids.specs.declared.StateId.{StateId}
use Rattle.log_model.specs.declared.change.Change.{Change}
use Rattle.log_model.specs.declared.change.Change.TheVariants as changes
use Rattle.log_model.specs.declared.job.Job.{Job}
use Rattle.log_model.specs.declared.job.Task.{Task}
use Rattle.log_model.specs.declared.job.Task.TheVariants as tasks
use Rattle.log_model.specs.declared.job.Why.{Why}
use Rattle.log_model.specs.declared.made.Made.{Made}
use Rattle.log_model.specs.declared.made.Report.{Report}
use Rattle.log_model.specs.declared.made.Report.TheVariants as reports
use Rattle.log_model.specs.declared.outcome.Outcome.{Outcome}
use Rattle.log_model.specs.declared.outcome.Outcome.TheVariants as outcomes
use Rattle.log_model.specs.AfterDocuments.{addressed, applied_to, documents_delivered, documents_finished, documents_sent, new_document, on_document, slot_finished, told_after_change, view_finished, with_applied}
use Rattle.log_model.specs.AfterPlaces.{given_entry, new_place, on_place, place_arrived, places_added, places_applied, places_delivered, places_given, places_sent, put_to_sleep, sleepers_with, with_taker}
use Rattle.log_model.specs.History.{applied, has_nav, has_row}
use Rattle.log_model.specs.Places.{holder_of}
use Rattle.log_model.specs.Seen.{Seen, Asked, Document, Place, asleep, document_of, place_in, place_of, request_of}
use Rattle.log_model.specs.Views.{View, after_made}
use Rattle.seen_facts.specs.Home.Homes.{document_in}
use Rattle.seen_laws.proofs.Keyed.{find_map}
use Rattle.seen_facts.proofs.Desk.Again.{AllStay, AllStayAt, same_documents, same_places}

-- ---- documents

-- a change that leaves a document's number, navigable and process, and doesn't unmake it
pub record KeepsLife (g : Document → Document) : Type 0 where
  pub nr : (d : Document) → (g d).nr ≡ d.nr
  pub nav : (d : Document) → (g d).nav ≡ d.nav
  pub proc : (d : Document) → (g d).proc ≡ d.proc
  pub ready : (d : Document) → d.is_ready ≡ true → (g d).is_ready ≡ true

pub stay_mapped : (g : Document → Document) (documents : List Document) → KeepsLife g → AllStay documents (map g documents)
stay_mapped g documents keeps doc d found =
    record {
      new = g d;
      found = find_map (λ (x : Document). x.nr.0) g doc.0 documents (λ x. ap (λ (n : DocId). n.0) (keeps.nr x)) ∙ ap (λ (o : Option Document). option_map g o) found;
      nav = keeps.nav d;
      proc = ap (λ (p : ProcId). p.0) (keeps.proc d);
      ready = keeps.ready d;
    }

life_if : (test : Document → Bool) (f : Document → Document) → KeepsLife f → KeepsLife (λ (d : Document). cond (test d) (f d) d)
life_if test f keeps =
    record {
      nr = λ d. elim (test d) as (λ b. (let x : Document = cond b (f d) d in x).nr ≡ d.nr) [ true ↦ keeps.nr d | false ↦ refl ];
      nav = λ d. elim (test d) as (λ b. (let x : Document = cond b (f d) d in x).nav ≡ d.nav) [ true ↦ keeps.nav d | false ↦ refl ];
      proc = λ d. elim (test d) as (λ b. (let x : Document = cond b (f d) d in x).proc ≡ d.proc) [ true ↦ keeps.proc d | false ↦ refl ];
      ready = λ d e. elim (test d) as (λ b. (let x : Document = cond b (f d) d in x).is_ready ≡ true) [ true ↦ keeps.ready d e | false ↦ e ];
    }

stay_on : (doc : DocId) (f : Document → Document) (documents : List Document) → KeepsLife f → AllStay documents (on_document doc f documents)
stay_on doc f documents keeps = stay_mapped (λ (d : Document). cond (d.nr.0 == doc.0) (f d) d) documents (life_if (λ (d : Document). d.nr.0 == doc.0) f keeps)

stay_both : (old mid new : List Document) → AllStay old mid → AllStay mid new → AllStay old new
stay_both old mid new one two doc d found =
    let a = one doc d found in
    let b = two doc a.new a.found in
    record { new = b.new; found = b.found; nav = b.nav ∙ a.nav; proc = b.proc ∙ a.proc; ready = λ e. b.ready (a.ready e) }

stay_more : (documents : List Document) (new : Document) → AllStay documents (documents ++ new ∷ [])
stay_more documents new doc d found =
    record { new = d; found = first documents found; nav = refl; proc = refl; ready = λ e. e }
  where
    first : (l : List Document) → document_in l doc ≡ Some d → document_in (l ++ new ∷ []) doc ≡ Some d
    first [] e = cc
    first (x ∷ l) e = by_test (x.nr.0 == doc.0) (first l) e
      where
        by_test : (b : Bool) → (document_in l doc ≡ Some d → document_in (l ++ new ∷ []) doc ≡ Some d) → cond b (Some x) (document_in l doc) ≡ Some d → cond b (Some x) (document_in (l ++ new ∷ []) doc) ≡ Some d
        by_test true rest e = e
        by_test false rest e = rest e

pub finished_stay : (documents : List Document) (hand : Option Job) (outcome : Outcome) → AllStay documents (slot_finished (documents_finished documents hand) hand outcome)
finished_stay documents None (outcomes.Populated slot) = same_documents documents
finished_stay documents None outcomes.Activated = same_documents documents
finished_stay documents None outcomes.Updated = same_documents documents
finished_stay documents None outcomes.Frozen = same_documents documents
finished_stay documents None outcomes.Discarded = same_documents documents
finished_stay documents None (outcomes.Asked verdict) = same_documents documents
finished_stay documents None outcomes.Fragmented = same_documents documents
finished_stay documents (Some job) outcome = by_outcome outcome
  where
    viewed : AllStay documents (documents_finished documents (Some job))
    viewed = stay_on job.doc (λ (d : Document). record d { view = view_finished d job.task }) documents (record { nr = λ d. refl; nav = λ d. refl; proc = λ d. refl; ready = λ d e. e })

    by_outcome : (u : Outcome) → AllStay documents (slot_finished (documents_finished documents (Some job)) (Some job) u)
    by_outcome (outcomes.Populated slot) =
        stay_both documents (documents_finished documents (Some job)) (slot_finished (documents_finished documents (Some job)) (Some job) (outcomes.Populated slot)) viewed (stay_on job.doc (λ (d : Document). record d { slot = slot }) (documents_finished documents (Some job)) (record { nr = λ d. refl; nav = λ d. refl; proc = λ d. refl; ready = λ d e. e }))
    by_outcome outcomes.Activated = viewed
    by_outcome outcomes.Updated = viewed
    by_outcome outcomes.Frozen = viewed
    by_outcome outcomes.Discarded = viewed
    by_outcome (outcomes.Asked verdict) = viewed
    by_outcome outcomes.Fragmented = viewed

pub made_stay : (made : Made) (documents : List Document) → AllStay documents (on_document made.doc (λ d. record d { view = option_map (λ (view : View). after_made view made.what) d.view }) documents)
made_stay made documents =
    stay_on made.doc (λ d. record d { view = option_map (λ (view : View). after_made view made.what) d.view }) documents (record { nr = λ d. refl; nav = λ d. refl; proc = λ d. refl; ready = λ d e. e })

-- no death is reported
abbrev pub NoDeath : Option Report → Type 0
NoDeath (Some (reports.Died death)) = ⊥
NoDeath _ = Unit {0}

pub delivered_stay : (documents : List Document) (report : Option Report) → NoDeath report → AllStay documents (documents_delivered documents report)
delivered_stay documents None fine = same_documents documents
delivered_stay documents (Some (reports.Died death)) never = absurd never
delivered_stay documents (Some (reports.Made made)) fine = same_documents documents
delivered_stay documents (Some (reports.Done job (outcomes.Populated slot) made)) fine =
    stay_on job.doc (λ (d : Document). record d { is_ready = true; is_fresh = true }) documents (record { nr = λ d. refl; nav = λ d. refl; proc = λ d. refl; ready = λ d e. refl })
delivered_stay documents (Some (reports.Done job outcomes.Activated made)) fine = same_documents documents
delivered_stay documents (Some (reports.Done job outcomes.Updated made)) fine = same_documents documents
delivered_stay documents (Some (reports.Done job outcomes.Frozen made)) fine = same_documents documents
delivered_stay documents (Some (reports.Done job outcomes.Discarded made)) fine = same_documents documents
delivered_stay documents (Some (reports.Done job (outcomes.Asked verdict) made)) fine = same_documents documents
delivered_stay documents (Some (reports.Done job outcomes.Fragmented made)) fine = same_documents documents

addressed_stay : (doc : DocId) (task : Task) (documents : List Document) → AllStay documents (on_document doc (addressed task) documents)
addressed_stay doc task documents = stay_on doc (addressed task) documents (record { nr = λ d. refl; nav = λ d. refl; proc = λ d. refl; ready = λ d e. e })

pub sent_stay : (s : Seen) (job : Job) (task : Task) → AllStay s.documents (documents_sent s job task)
sent_stay s job (tasks.Populate nav state address initial) = stay_more s.documents (new_document s job nav state)
sent_stay s job tasks.Discard = stay_on job.doc (λ (d : Document). record d { is_discarded = true }) s.documents (record { nr = λ d. refl; nav = λ d. refl; proc = λ d. refl; ready = λ d e. e })
sent_stay s job (tasks.Activate entry epoch length index memo address) = addressed_stay job.doc (tasks.Activate entry epoch length index memo address) s.documents
sent_stay s job (tasks.Update length index) = addressed_stay job.doc (tasks.Update length index) s.documents
sent_stay s job tasks.Freeze = addressed_stay job.doc tasks.Freeze s.documents
sent_stay s job (tasks.Ask slot cause) = addressed_stay job.doc (tasks.Ask slot cause) s.documents
sent_stay s job (tasks.DoFragment req mode address) = addressed_stay job.doc (tasks.DoFragment req mode address) s.documents

told_life : (c : Change) → KeepsLife (λ (d : Document). told_after_change d c)
told_life (changes.Push nav entry state address memo) = life_if (λ (d : Document). d.nr.0 == entry.maker) (λ (d : Document). record d { told = None }) (record { nr = λ d. refl; nav = λ d. refl; proc = λ d. refl; ready = λ d e. e })
told_life (changes.Replace nav over entry state address memo) = record { nr = λ d. refl; nav = λ d. refl; proc = λ d. refl; ready = λ d e. e }
told_life (changes.AddFrame owner nav entry state) = record { nr = λ d. refl; nav = λ d. refl; proc = λ d. refl; ready = λ d e. e }
told_life (changes.RemoveFrame nav) = record { nr = λ d. refl; nav = λ d. refl; proc = λ d. refl; ready = λ d e. e }
told_life (changes.Traverse goal) = record { nr = λ d. refl; nav = λ d. refl; proc = λ d. refl; ready = λ d e. e }
told_life (changes.Reload nav) = record { nr = λ d. refl; nav = λ d. refl; proc = λ d. refl; ready = λ d e. e }
told_life changes.Edit = record { nr = λ d. refl; nav = λ d. refl; proc = λ d. refl; ready = λ d e. e }

with_life : (entry : EntryId) → KeepsLife (λ (d : Document). with_applied entry d)
with_life entry = life_if (λ (d : Document). d.nr.0 == entry.maker) (λ (d : Document). record d { last_applied = entry.nr }) (record { nr = λ d. refl; nav = λ d. refl; proc = λ d. refl; ready = λ d e. e })

applied_life : (c : Change) → KeepsLife (λ (d : Document). applied_to c d)
applied_life (changes.Push nav entry state address memo) = with_life entry
applied_life (changes.Replace nav over entry state address memo) = with_life entry
applied_life (changes.AddFrame owner nav entry state) = record { nr = λ d. refl; nav = λ d. refl; proc = λ d. refl; ready = λ d e. e }
applied_life (changes.RemoveFrame nav) = record { nr = λ d. refl; nav = λ d. refl; proc = λ d. refl; ready = λ d e. e }
applied_life (changes.Traverse goal) = record { nr = λ d. refl; nav = λ d. refl; proc = λ d. refl; ready = λ d e. e }
applied_life (changes.Reload nav) = life_if (λ (d : Document). d.nav.0 == nav.0) (λ (d : Document). record d { is_fresh = false }) (record { nr = λ d. refl; nav = λ d. refl; proc = λ d. refl; ready = λ d e. e })
applied_life changes.Edit = record { nr = λ d. refl; nav = λ d. refl; proc = λ d. refl; ready = λ d e. e }

pub changed_stay : (c : Change) (documents : List Document) → AllStay documents (map (λ (d : Document). applied_to c (told_after_change d c)) documents)
changed_stay c documents =
    stay_mapped (λ (d : Document). applied_to c (told_after_change d c)) documents (record {
      nr = λ d. (applied_life c).nr (told_after_change d c) ∙ (told_life c).nr d;
      nav = λ d. (applied_life c).nav (told_after_change d c) ∙ (told_life c).nav d;
      proc = λ d. (applied_life c).proc (told_after_change d c) ∙ (told_life c).proc d;
      ready = λ d e. (applied_life c).ready (told_after_change d c) ((told_life c).ready d e);
    })

-- ---- places

-- a change that leaves a place's number, and lowers no epoch
pub record KeepsEpoch (g : Place → Place) : Type 0 where
  pub nav : (p : Place) → (g p).nav ≡ p.nav
  pub epoch : (p : Place) → p.epoch.0 ≤ (g p).epoch.0

least : (n : ℕ) → n ≤ n
least n = omega arith

pub epoch_if : (test : Place → Bool) (f : Place → Place) → KeepsEpoch f → KeepsEpoch (λ (p : Place). cond (test p) (f p) p)
epoch_if test f keeps =
    record {
      nav = λ p. elim (test p) as (λ b. (let q : Place = cond b (f p) p in q).nav ≡ p.nav) [ true ↦ keeps.nav p | false ↦ refl ];
      epoch = λ p. elim (test p) as (λ b. p.epoch.0 ≤ (let q : Place = cond b (f p) p in q).epoch.0) [ true ↦ keeps.epoch p | false ↦ least p.epoch.0 ];
    }

pub at_mapped : (g : Place → Place) (places : List Place) → KeepsEpoch g → AllStayAt places (map g places)
at_mapped g places keeps nav place found =
    record {
      new = g place;
      found = find_map (λ (p : Place). p.nav.0) g nav.0 places (λ p. ap (λ (n : NavId). n.0) (keeps.nav p)) ∙ ap (λ (o : Option Place). option_map g o) found;
      epoch = keeps.epoch place;
    }

pub at_on : (nav : NavId) (f : Place → Place) (places : List Place) → KeepsEpoch f → AllStayAt places (on_place nav f places)
at_on nav f places keeps = at_mapped (λ (p : Place). cond (p.nav.0 == nav.0) (f p) p) places (epoch_if (λ (p : Place). p.nav.0 == nav.0) f keeps)

pub at_both : (old mid new : List Place) → AllStayAt old mid → AllStayAt mid new → AllStayAt old new
at_both old mid new one two nav place found =
    let a = one nav place found in
    let b = two nav a.new a.found in
    record { new = b.new; found = b.found; epoch = (let low : place.epoch.0 ≤ a.new.epoch.0 = a.epoch in let high : a.new.epoch.0 ≤ b.new.epoch.0 = b.epoch in omega (arith, low, high)) }

at_more : (places : List Place) (new : Place) → AllStayAt places (places ++ new ∷ [])
at_more places new nav place found = record { new = place; found = first places found; epoch = least place.epoch.0 }
  where
    first : (l : List Place) → place_in l nav ≡ Some place → place_in (l ++ new ∷ []) nav ≡ Some place
    first [] e = cc
    first (x ∷ l) e = by_test (x.nav.0 == nav.0) (first l) e
      where
        by_test : (b : Bool) → (place_in l nav ≡ Some place → place_in (l ++ new ∷ []) nav ≡ Some place) → cond b (Some x) (place_in l nav) ≡ Some place → cond b (Some x) (place_in (l ++ new ∷ []) nav) ≡ Some place
        by_test true rest e = e
        by_test false rest e = rest e

pub asleep_stay : (navs : List NavId) (why : Why) (places : List Place) → AllStayAt places (put_to_sleep navs why places)
asleep_stay navs why places =
    at_mapped (λ (p : Place). cond (has_nav navs p.nav) (record p { status = asleep; why = why }) p) places (epoch_if (λ (p : Place). has_nav navs p.nav) (λ (p : Place). record p { status = asleep; why = why }) (record { nav = λ p. refl; epoch = λ p. least p.epoch.0 }))

arrived_stay : (s : Seen) (job : Job) (o : Option Document) → AllStayAt s.places (option_map_or (λ (d : Document). on_place d.nav (place_arrived job) s.places) o s.places)
arrived_stay s job None = same_places s.places
arrived_stay s job (Some d) = at_on d.nav (place_arrived job) s.places (record { nav = λ p. refl; epoch = λ p. least p.epoch.0 })

pub delivered_at : (s : Seen) (report : Option Report) → NoDeath report → AllStayAt s.places (places_delivered s report)
delivered_at s None fine = same_places s.places
delivered_at s (Some (reports.Died death)) never = absurd never
delivered_at s (Some (reports.Made made)) fine = same_places s.places
delivered_at s (Some (reports.Done job outcome made)) fine = by_task job.task
  where
    by_task : (task : Task) → AllStayAt s.places (places_delivered s (Some (reports.Done (record job { task = task }) outcome made)))
    by_task (tasks.Activate entry epoch length index memo address) = arrived_stay s job (document_of s job.doc)
    by_task (tasks.Populate nav state address initial) = same_places s.places
    by_task (tasks.Update length index) = same_places s.places
    by_task tasks.Freeze = same_places s.places
    by_task tasks.Discard = same_places s.places
    by_task (tasks.Ask slot cause) = same_places s.places
    by_task (tasks.DoFragment req mode address) = same_places s.places

-- the order shows no document
abbrev pub ShowsNone : Task → Type 0
ShowsNone (tasks.Activate entry epoch length index memo address) = ⊥
ShowsNone _ = Unit {0}

pub sent_at : (s : Seen) (job : Job) (task : Task) → ShowsNone task → AllStayAt s.places (places_sent s job task)
sent_at s job (tasks.Activate entry epoch length index memo address) never = absurd never
sent_at s job (tasks.Populate nav state address initial) none = same_places s.places
sent_at s job (tasks.Update length index) none = same_places s.places
sent_at s job tasks.Freeze none = asleep_stay (sleepers_with s job.doc) job.why s.places
sent_at s job tasks.Discard none = asleep_stay (sleepers_with s job.doc) job.why s.places
sent_at s job (tasks.Ask slot cause) none = same_places s.places
sent_at s job (tasks.DoFragment req mode address) none = same_places s.places

given_at : (s : Seen) (req : ReqId) (nav : NavId) (entry : EntryId) → AllStayAt s.places (places_given s req nav entry)
given_at s req nav entry = by_made (option_and_then (λ (q : Asked). q.made) (request_of s req))
  where
    by_made : (o : Option Made) → AllStayAt s.places (option_map_or (λ (made : Made). on_place nav (given_entry entry) s.places) o s.places)
    by_made None = same_places s.places
    by_made (Some made) = at_on nav (given_entry entry) s.places (record { nav = λ p. refl; epoch = λ p. least p.epoch.0 })

added_at : (s : Seen) (req : ReqId) (owner : StateId) (nav : NavId) → AllStayAt s.places (places_added s req owner nav)
added_at s req owner nav = by_parent (option_and_then (place_of s) (holder_of owner s.history.rows))
  where
    by_parent : (o : Option Place) → AllStayAt s.places (option_map_or (λ parent. s.places ++ new_place req nav owner parent ∷ []) o s.places)
    by_parent None = same_places s.places
    by_parent (Some parent) = at_more s.places (new_place req nav owner parent)

taken_at : (s : Seen) (req : ReqId) (change : Change) (places : List Place) → AllStayAt s.places places → AllStayAt s.places (with_taker s.history (applied s.history change) req places)
taken_at s req change places first =
    at_both s.places places (with_taker s.history (applied s.history change) req places) first (at_mapped (λ (p : Place). cond (has_row p.nav s.history.rows && not (has_row p.nav (applied s.history change).rows)) (record p { taken_by = Some req }) p) places (epoch_if (λ (p : Place). has_row p.nav s.history.rows && not (has_row p.nav (applied s.history change).rows)) (λ (p : Place). record p { taken_by = Some req }) (record { nav = λ p. refl; epoch = λ p. least p.epoch.0 })))

pub applied_at : (s : Seen) (req : ReqId) (change : Change) → AllStayAt s.places (places_applied s req change)
applied_at s req (changes.Push nav entry state address memo) = taken_at s req (changes.Push nav entry state address memo) (places_given s req nav entry) (given_at s req nav entry)
applied_at s req (changes.Replace nav over entry state address memo) = taken_at s req (changes.Replace nav over entry state address memo) (places_given s req nav entry) (given_at s req nav entry)
applied_at s req (changes.AddFrame owner nav entry state) = taken_at s req (changes.AddFrame owner nav entry state) (places_added s req owner nav) (added_at s req owner nav)
applied_at s req (changes.RemoveFrame nav) = taken_at s req (changes.RemoveFrame nav) s.places (same_places s.places)
applied_at s req (changes.Traverse goal) = taken_at s req (changes.Traverse goal) s.places (same_places s.places)
applied_at s req (changes.Reload nav) =
    taken_at s req (changes.Reload nav) (on_place nav (λ place. record place { is_pending = true; is_unmet = true }) s.places) (at_on nav (λ place. record place { is_pending = true; is_unmet = true }) s.places (record { nav = λ p. refl; epoch = λ p. least p.epoch.0 }))
applied_at s req changes.Edit = taken_at s req changes.Edit s.places (same_places s.places)
