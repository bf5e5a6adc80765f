-- As reports are delivered, of no death, and changes applied, documents that no navigable shows rest; so they do as a tab is opened.
use Rattle.std.proofs.Common.{◌≡◌, ◌⊎◌, inl, inr, ℕ, Bool, true, false, cond, not, ◌&&◌, ◌==◌, List, [], ◌∷◌, ◌++◌, map, Option, Some, None, refl, sym, ap, ◌∙◌}
use Rattle.std.specs.Prelude.{option_map, option_and_then, slice_get}
use Rattle.std.specs.Option.{option_map_or}
use Rattle.std.proofs.lemmas.Bool.{eqb-true}
use Rattle.std.proofs.lemmas.List.{map-id}
use Rattle.tab_ids.specs.declared.DocId.{DocId}
use Rattle.tab_ids.specs.declared.EntryId.{EntryId}
use Rattle.tab_ids.specs.declared.NavId.{NavId}
use Rattle.tab_ids.specs.declared.ProcId.{ProcId}
use Rattle.tab_ids.specs.declared.ReqId.{ReqId}
use Rattle.tab_ids.specs.declared.StateId.{StateId}
use Rattle.log_model.specs.declared.change.Change.{Change}
use Rattle.log_model.specs.declared.change.Change.TheVariants as changes
use Rattle.log_model.specs.declared.job.Job.{Job}
use Rattle.log_model.specs.declared.job.Task.{Task}
use Rattle.log_model.specs.declared.job.Task.TheVariants as tasks
use Rattle.log_model.specs.declared.made.Made.{Made}
use Rattle.log_model.specs.declared.made.Report.{Report}
use Rattle.log_model.specs.declared.made.Report.TheVariants as reports
use Rattle.log_model.specs.declared.outcome.Outcome.TheVariants as outcomes
use Rattle.log_model.specs.declared.row_kind.Actor.{Actor}
use Rattle.log_model.specs.declared.row_kind.RowKind.TheVariants as rows
use Rattle.log_model.specs.After.{after, desk_delivered}
use Rattle.log_model.specs.AfterDocuments.{told_after_change, applied_to, opening_document, documents_delivered}
use Rattle.log_model.specs.AfterPlaces.{on_place, given_entry, new_place, opening_place, with_taker, place_arrived, places_added, places_given, places_applied}
use Rattle.log_model.specs.History.{has_row, applied}
use Rattle.log_model.specs.Places.{holder_of}
use Rattle.log_model.specs.Seen.{nothing, Seen, Document, Asked, Place, awake, document_of, desk_of, place_in, place_of, request_of}
use Rattle.seen_laws.proofs.Keyed.{find_map}
use Rattle.seen_facts.proofs.Hang.Members.{find_has}
use Rattle.seen_facts.specs.Rest.Resting.{runs_in, EachRests}
use Rattle.seen_facts.proofs.Rest.Again.{StayShown, same_shown, mapped_shown, KeepsRunning, keeps_at, NoNewStates, old_states, rests_left, orders_on}

-- the report tells of no death
abbrev pub IsNoDeath : Option Report → Type 0
IsNoDeath (Some (reports.Died death)) = ⊥
IsNoDeath _ = Unit {0}

unchanged : KeepsRunning (λ d. d)
unchanged = record { nr = λ d. refl; proc = λ d. refl; state = λ d. refl; discarded = λ d. refl; runs = λ d. refl }

-- ---- a report

module _ (s : Seen) (event : ℕ) (actor : Actor) (each : EachRests s) (proc : ProcId) where
  abbrev told : Seen
  told = after s (record { event = event; actor = actor; row = rows.Delivered proc })

  abbrev first : Option Report
  first = slice_get (desk_of s proc).reports 0

  record IsChanged (o : Option Report) : Type 0 where
    g : Document → Document
    keeps : KeepsRunning g
    are : documents_delivered s.documents o ≡ map g s.documents

  itself : IsChanged None
  itself = record { g = λ d. d; keeps = unchanged; are = sym (map-id s.documents) }

  changed_by : (o : Option Report) → IsNoDeath o → IsChanged o
  changed_by None no_death = itself
  changed_by (Some (reports.Died death)) never = absurd never
  changed_by (Some (reports.Made made)) no_death = record { g = λ d. d; keeps = unchanged; are = sym (map-id s.documents) }
  changed_by (Some (reports.Done job (outcomes.Populated slot) made)) no_death =
      record { g = λ (d : Document). cond (d.nr.0 == job.doc.0) (record d { is_ready = true; is_fresh = true }) d; keeps = keeps_at job.doc (λ d. record d { is_ready = true; is_fresh = true }) (record { nr = λ d. refl; proc = λ d. refl; state = λ d. refl; discarded = λ d. refl; runs = λ d. refl }); are = refl }
  changed_by (Some (reports.Done job outcomes.Activated made)) no_death = record { g = λ d. d; keeps = unchanged; are = sym (map-id s.documents) }
  changed_by (Some (reports.Done job outcomes.Updated made)) no_death = record { g = λ d. d; keeps = unchanged; are = sym (map-id s.documents) }
  changed_by (Some (reports.Done job outcomes.Frozen made)) no_death = record { g = λ d. d; keeps = unchanged; are = sym (map-id s.documents) }
  changed_by (Some (reports.Done job outcomes.Discarded made)) no_death = record { g = λ d. d; keeps = unchanged; are = sym (map-id s.documents) }
  changed_by (Some (reports.Done job (outcomes.Asked verdict) made)) no_death = record { g = λ d. d; keeps = unchanged; are = sym (map-id s.documents) }
  changed_by (Some (reports.Done job outcomes.Fragmented made)) no_death = record { g = λ d. d; keeps = unchanged; are = sym (map-id s.documents) }

  arrived_shown : (job : Job) (o : Option Document) → told.places ≡ option_map_or (λ (d : Document). on_place d.nav (place_arrived job) s.places) o s.places → StayShown s told
  arrived_shown job None are = same_shown s told are
  arrived_shown job (Some d) are =
      mapped_shown s told (λ (p : Place). cond (p.nav.0 == d.nav.0) (place_arrived job p) p) (λ p. elim (p.nav.0 == d.nav.0) as (λ b. (let q : Place = cond b (place_arrived job p) p in q).nav ≡ p.nav) [ true ↦ refl | false ↦ refl ]) (λ p. elim (p.nav.0 == d.nav.0) as (λ b. (let q : Place = cond b (place_arrived job p) p in q).status ≡ p.status) [ true ↦ refl | false ↦ refl ]) are

  shown_by : (o : Option Report) → first ≡ o → IsNoDeath o → StayShown s told
  shown_by None e no_death = same_shown s told (rw e refl)
  shown_by (Some (reports.Died death)) e never = absurd never
  shown_by (Some (reports.Made made)) e no_death = same_shown s told (rw e refl)
  shown_by (Some (reports.Done job outcome made)) e no_death = by_task job.task refl
    where
      by_task : (task : Task) → job.task ≡ task → StayShown s told
      by_task (tasks.Activate entry epoch length index memo address) is = arrived_shown job (document_of s job.doc) (rw e (rw is refl))
      by_task (tasks.Populate nav state address initial) is = same_shown s told (rw e (rw is refl))
      by_task (tasks.Update length index) is = same_shown s told (rw e (rw is refl))
      by_task tasks.Freeze is = same_shown s told (rw e (rw is refl))
      by_task tasks.Discard is = same_shown s told (rw e (rw is refl))
      by_task (tasks.Ask slot cause) is = same_shown s told (rw e (rw is refl))
      by_task (tasks.DoFragment req mode address) is = same_shown s told (rw e (rw is refl))

  pub delivered_rests : IsNoDeath first → EachRests told
  delivered_rests no_death =
      let c : IsChanged first = changed_by first no_death in
      rests_left s told c.g c.keeps c.are (orders_on s told proc desk_delivered refl (λ desk. refl) (λ doc. refl)) (old_states s told refl) (shown_by first refl no_death) each

-- ---- a change

told_keeps : (c : Change) → KeepsRunning (λ (d : Document). told_after_change d c)
told_keeps (changes.Push nav entry state address memo) =
    record {
      nr = λ d. elim (d.nr.0 == entry.maker) as (λ b. (let x : Document = cond b (record d { told = None }) d in x).nr ≡ d.nr) [ true ↦ refl | false ↦ refl ];
      proc = λ d. elim (d.nr.0 == entry.maker) as (λ b. (let x : Document = cond b (record d { told = None }) d in x).proc ≡ d.proc) [ true ↦ refl | false ↦ refl ];
      state = λ d. elim (d.nr.0 == entry.maker) as (λ b. (let x : Document = cond b (record d { told = None }) d in x).state ≡ d.state) [ true ↦ refl | false ↦ refl ];
      discarded = λ d. elim (d.nr.0 == entry.maker) as (λ b. (let x : Document = cond b (record d { told = None }) d in x).is_discarded ≡ d.is_discarded) [ true ↦ refl | false ↦ refl ];
      runs = λ d. elim (d.nr.0 == entry.maker) as (λ b. runs_in (let x : Document = cond b (record d { told = None }) d in x).view ≡ runs_in d.view) [ true ↦ refl | false ↦ refl ];
    }
told_keeps (changes.Replace nav over entry state address memo) = unchanged
told_keeps (changes.AddFrame owner nav entry state) = unchanged
told_keeps (changes.RemoveFrame nav) = unchanged
told_keeps (changes.Traverse goal) = unchanged
told_keeps (changes.Reload nav) = unchanged
told_keeps changes.Edit = unchanged

numbered_keeps : (entry : EntryId) → KeepsRunning (λ (d : Document). cond (d.nr.0 == entry.maker) (record d { last_applied = entry.nr }) d)
numbered_keeps entry =
    record {
      nr = λ d. elim (d.nr.0 == entry.maker) as (λ b. (let x : Document = cond b (record d { last_applied = entry.nr }) d in x).nr ≡ d.nr) [ true ↦ refl | false ↦ refl ];
      proc = λ d. elim (d.nr.0 == entry.maker) as (λ b. (let x : Document = cond b (record d { last_applied = entry.nr }) d in x).proc ≡ d.proc) [ true ↦ refl | false ↦ refl ];
      state = λ d. elim (d.nr.0 == entry.maker) as (λ b. (let x : Document = cond b (record d { last_applied = entry.nr }) d in x).state ≡ d.state) [ true ↦ refl | false ↦ refl ];
      discarded = λ d. elim (d.nr.0 == entry.maker) as (λ b. (let x : Document = cond b (record d { last_applied = entry.nr }) d in x).is_discarded ≡ d.is_discarded) [ true ↦ refl | false ↦ refl ];
      runs = λ d. elim (d.nr.0 == entry.maker) as (λ b. runs_in (let x : Document = cond b (record d { last_applied = entry.nr }) d in x).view ≡ runs_in d.view) [ true ↦ refl | false ↦ refl ];
    }

stale_keeps : (nav : NavId) → KeepsRunning (λ (d : Document). cond (d.nav.0 == nav.0) (record d { is_fresh = false }) d)
stale_keeps nav =
    record {
      nr = λ d. elim (d.nav.0 == nav.0) as (λ b. (let x : Document = cond b (record d { is_fresh = false }) d in x).nr ≡ d.nr) [ true ↦ refl | false ↦ refl ];
      proc = λ d. elim (d.nav.0 == nav.0) as (λ b. (let x : Document = cond b (record d { is_fresh = false }) d in x).proc ≡ d.proc) [ true ↦ refl | false ↦ refl ];
      state = λ d. elim (d.nav.0 == nav.0) as (λ b. (let x : Document = cond b (record d { is_fresh = false }) d in x).state ≡ d.state) [ true ↦ refl | false ↦ refl ];
      discarded = λ d. elim (d.nav.0 == nav.0) as (λ b. (let x : Document = cond b (record d { is_fresh = false }) d in x).is_discarded ≡ d.is_discarded) [ true ↦ refl | false ↦ refl ];
      runs = λ d. elim (d.nav.0 == nav.0) as (λ b. runs_in (let x : Document = cond b (record d { is_fresh = false }) d in x).view ≡ runs_in d.view) [ true ↦ refl | false ↦ refl ];
    }

applied_keeps : (c : Change) → KeepsRunning (applied_to c)
applied_keeps (changes.Push nav entry state address memo) = numbered_keeps entry
applied_keeps (changes.Replace nav over entry state address memo) = numbered_keeps entry
applied_keeps (changes.AddFrame owner nav entry state) = unchanged
applied_keeps (changes.RemoveFrame nav) = unchanged
applied_keeps (changes.Traverse goal) = unchanged
applied_keeps (changes.Reload nav) = stale_keeps nav
applied_keeps changes.Edit = unchanged

changed_keeps : (c : Change) → KeepsRunning (λ (d : Document). applied_to c (told_after_change d c))
changed_keeps c =
    record {
      nr = λ d. (applied_keeps c).nr (told_after_change d c) ∙ (told_keeps c).nr d;
      proc = λ d. (applied_keeps c).proc (told_after_change d c) ∙ (told_keeps c).proc d;
      state = λ d. (applied_keeps c).state (told_after_change d c) ∙ (told_keeps c).state d;
      discarded = λ d. (applied_keeps c).discarded (told_after_change d c) ∙ (told_keeps c).discarded d;
      runs = λ d. (applied_keeps c).runs (told_after_change d c) ∙ (told_keeps c).runs d;
    }

module _ (s : Seen) (event : ℕ) (actor : Actor) (each : EachRests s) (req : ReqId) (c : Change) where
  abbrev pub applied_ : Seen
  applied_ = after s (record { event = event; actor = actor; row = rows.Applied req c })

  abbrev takes : Place → Place
  takes place = cond (has_row place.nav s.history.rows && not (has_row place.nav (applied s.history c).rows)) (record place { taken_by = Some req }) place

  takes_nav : (p : Place) → (takes p).nav ≡ p.nav
  takes_nav p = elim (has_row p.nav s.history.rows && not (has_row p.nav (applied s.history c).rows)) as (λ b. (let q : Place = cond b (record p { taken_by = Some req }) p in q).nav ≡ p.nav) [ true ↦ refl | false ↦ refl ]

  takes_status : (p : Place) → (takes p).status ≡ p.status
  takes_status p = elim (has_row p.nav s.history.rows && not (has_row p.nav (applied s.history c).rows)) as (λ b. (let q : Place = cond b (record p { taken_by = Some req }) p in q).status ≡ p.status) [ true ↦ refl | false ↦ refl ]

  -- who is awake in these places, is so with the taker noted
  shown_in : (places : List Place) → applied_.places ≡ map takes places → ((nav : NavId) (p : Place) (doc : DocId) → place_of s nav ≡ Some p → p.status ≡ awake doc → (new : Place) × (place_in places nav ≡ Some new) × (new.status ≡ awake doc)) → StayShown s applied_
  shown_in places are in_ nav p doc there wakes =
      let n = in_ nav p doc there wakes in
      (takes n.0, ap (λ (l : List Place). place_in l nav) are ∙ find_map (λ (x : Place). x.nav.0) takes nav.0 places (λ x. ap (λ (k : NavId). k.0) (takes_nav x)) ∙ ap (λ (o : Option Place). option_map takes o) n.1, takes_status n.0 ∙ n.2)

  mapped_in : (f : Place → Place) → ((p : Place) → (f p).nav ≡ p.nav) → ((p : Place) → (f p).status ≡ p.status) → (nav : NavId) (p : Place) (doc : DocId) → place_of s nav ≡ Some p → p.status ≡ awake doc → (new : Place) × (place_in (map f s.places) nav ≡ Some new) × (new.status ≡ awake doc)
  mapped_in f navs status nav p doc there wakes =
      (f p, find_map (λ (x : Place). x.nav.0) f nav.0 s.places (λ x. ap (λ (k : NavId). k.0) (navs x)) ∙ ap (λ (o : Option Place). option_map f o) there, status p ∙ wakes)

  same_in : (nav : NavId) (p : Place) (doc : DocId) → place_of s nav ≡ Some p → p.status ≡ awake doc → (new : Place) × (place_in s.places nav ≡ Some new) × (new.status ≡ awake doc)
  same_in nav p doc there wakes = (p, there, wakes)

  given_in : (of : NavId) (entry : EntryId) (nav : NavId) (p : Place) (doc : DocId) → place_of s nav ≡ Some p → p.status ≡ awake doc → (new : Place) × (place_in (places_given s req of entry) nav ≡ Some new) × (new.status ≡ awake doc)
  given_in of entry nav p doc there wakes = by_made (option_and_then (λ (q : Asked). q.made) (request_of s req))
    where
      by_made : (o : Option Made) → (new : Place) × (place_in (option_map_or (λ (m : Made). on_place of (given_entry entry) s.places) o s.places) nav ≡ Some new) × (new.status ≡ awake doc)
      by_made None = same_in nav p doc there wakes
      by_made (Some made) =
          mapped_in (λ (x : Place). cond (x.nav.0 == of.0) (given_entry entry x) x) (λ x. elim (x.nav.0 == of.0) as (λ b. (let q : Place = cond b (given_entry entry x) x in q).nav ≡ x.nav) [ true ↦ refl | false ↦ refl ]) (λ x. elim (x.nav.0 == of.0) as (λ b. (let q : Place = cond b (given_entry entry x) x in q).status ≡ x.status) [ true ↦ refl | false ↦ refl ]) nav p doc there wakes

  added_in : (owner : StateId) (of nav : NavId) (p : Place) (doc : DocId) → place_of s nav ≡ Some p → p.status ≡ awake doc → (new : Place) × (place_in (places_added s req owner of) nav ≡ Some new) × (new.status ≡ awake doc)
  added_in owner of nav p doc there wakes = by_parent (option_and_then (place_of s) (holder_of owner s.history.rows))
    where
      first_in : (l : List Place) (new : Place) → place_in l nav ≡ Some p → place_in (l ++ new ∷ []) nav ≡ Some p
      first_in [] new e = cc
      first_in (x ∷ l) new e = by_test (x.nav.0 == nav.0) (first_in l new) e
        where
          by_test : (b : Bool) → (place_in l nav ≡ Some p → place_in (l ++ new ∷ []) nav ≡ Some p) → cond b (Some x) (place_in l nav) ≡ Some p → cond b (Some x) (place_in (l ++ new ∷ []) nav) ≡ Some p
          by_test true rest e = e
          by_test false rest e = rest e

      by_parent : (o : Option Place) → (new : Place) × (place_in (option_map_or (λ (parent : Place). s.places ++ new_place req of owner parent ∷ []) o s.places) nav ≡ Some new) × (new.status ≡ awake doc)
      by_parent None = same_in nav p doc there wakes
      by_parent (Some parent) = (p, first_in s.places (new_place req of owner parent) there, wakes)

  shown_by_change : (d : Change) → c ≡ d → StayShown s applied_
  shown_by_change (changes.Push nav entry state address memo) is = shown_in (places_given s req nav entry) (ap (λ (x : Change). places_applied s req x) is ∙ ap (λ (x : Change). with_taker s.history (applied s.history x) req (places_given s req nav entry)) (sym is)) (given_in nav entry)
  shown_by_change (changes.Replace nav over entry state address memo) is = shown_in (places_given s req nav entry) (ap (λ (x : Change). places_applied s req x) is ∙ ap (λ (x : Change). with_taker s.history (applied s.history x) req (places_given s req nav entry)) (sym is)) (given_in nav entry)
  shown_by_change (changes.AddFrame owner nav entry state) is = shown_in (places_added s req owner nav) (ap (λ (x : Change). places_applied s req x) is ∙ ap (λ (x : Change). with_taker s.history (applied s.history x) req (places_added s req owner nav)) (sym is)) (added_in owner nav)
  shown_by_change (changes.RemoveFrame nav) is = shown_in s.places (ap (λ (x : Change). places_applied s req x) is ∙ ap (λ (x : Change). with_taker s.history (applied s.history x) req s.places) (sym is)) same_in
  shown_by_change (changes.Traverse goal) is = shown_in s.places (ap (λ (x : Change). places_applied s req x) is ∙ ap (λ (x : Change). with_taker s.history (applied s.history x) req s.places) (sym is)) same_in
  shown_by_change (changes.Reload nav) is =
      shown_in (on_place nav (λ (p : Place). record p { is_pending = true; is_unmet = true }) s.places) (ap (λ (x : Change). places_applied s req x) is ∙ ap (λ (x : Change). with_taker s.history (applied s.history x) req (on_place nav (λ (p : Place). record p { is_pending = true; is_unmet = true }) s.places)) (sym is)) (mapped_in (λ (x : Place). cond (x.nav.0 == nav.0) (record x { is_pending = true; is_unmet = true }) x) (λ x. elim (x.nav.0 == nav.0) as (λ b. (let q : Place = cond b (record x { is_pending = true; is_unmet = true }) x in q).nav ≡ x.nav) [ true ↦ refl | false ↦ refl ]) (λ x. elim (x.nav.0 == nav.0) as (λ b. (let q : Place = cond b (record x { is_pending = true; is_unmet = true }) x in q).status ≡ x.status) [ true ↦ refl | false ↦ refl ]))
  shown_by_change changes.Edit is = shown_in s.places (ap (λ (x : Change). places_applied s req x) is ∙ ap (λ (x : Change). with_taker s.history (applied s.history x) req s.places) (sym is)) same_in

  -- where no document state gets entries of which a document is there, but rests unseen
  pub applied_rests : NoNewStates s applied_ → EachRests applied_
  applied_rests none =
      rests_left s applied_ (λ (d : Document). applied_to c (told_after_change d c)) (changed_keeps c) refl (λ proc doc. refl) none (shown_by_change c refl) each

-- ---- the opening: the one document is shown

pub opened_rests : (event : ℕ) (actor : Actor) (entry : EntryId) (state : StateId) (doc : DocId) (proc : ProcId) (slot : Option ℕ) (address : List ℕ) → EachRests (after nothing (record { event = event; actor = actor; row = rows.Opened entry state doc proc slot address }))
opened_rests event actor entry state doc proc slot address other d found unshown swept =
    absurd (unshown (record { 0 = 0 }) (opening_place entry doc) refl (ap awake (its (find_has (λ (x : Document). x.nr.0 == other.0) (opening_document entry state doc proc slot address ∷ []) d found).0 (find_has (λ (x : Document). x.nr.0 == other.0) (opening_document entry state doc proc slot address ∷ []) d found).1)))
  where
    its : (opening_document entry state doc proc slot address ≡ d) ⊎ ⊥ → (d.nr.0 == other.0) ≡ true → doc ≡ other
    its (inl same) e =
        let number : d.nr.0 ≡ other.0 = eqb-true d.nr.0 other.0 e in
        ap (λ (x : Document). x.nr) same ∙ ap (λ (n : ℕ). let x : DocId = record { 0 = n } in x) number
    its (inr never) e = absurd never
