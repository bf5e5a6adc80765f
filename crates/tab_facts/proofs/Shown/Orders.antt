-- All of it stays as an order is sent to a document that is there: it is told something, asked, frozen, discarded or shown.
use Rattle.std.proofs.Common.{◌≡◌, ◌⊎◌, inl, inr, ℕ, Bool, true, false, cond, ◌||◌, ◌==◌, List, [], map, Option, Some, refl, sym, ap, ◌∙◌, subst, eqb-true}
use Rattle.std.specs.Option.{option_map_or}
use Rattle.tab_ids.specs.declared.DocId.{DocId}
use Rattle.tab_ids.specs.declared.EntryId.{EntryId}
use Rattle.tab_ids.specs.declared.Epoch.{Epoch}
use Rattle.tab_ids.specs.declared.NavId.{NavId}
use Rattle.log_model.specs.declared.job.Job.{Job}
use Rattle.log_model.specs.declared.job.Task.{Task}
use Rattle.log_model.specs.declared.job.Task.TheVariants as tasks
use Rattle.log_model.specs.declared.row_kind.Actor.{Actor}
use Rattle.log_model.specs.AfterPlaces.{activated, on_place, places_sent, put_to_sleep, sleepers_below, sleepers_with}
use Rattle.log_model.specs.Equal.{has_doc}
use Rattle.log_model.specs.Seen.{Document, Place, Seen, awake, document_of, place_in, place_of}
use Rattle.log_model.proofs.Refl.{nat_eq_refl}
use Rattle.seen_facts.proofs.Entry.Parts.{WasPlace, was_place}
use Rattle.seen_facts.proofs.Request.Readers.{sent_reads}
use Rattle.seen_facts.proofs.Doc.Leaves.{KeepPlaces}
use Rattle.seen_facts.specs.Load.Loading.{look}
use Rattle.seen_facts.proofs.Load.Docs.{AreSame, MakesNone, ShowsNone, sent_docs}
use Rattle.seen_facts.proofs.Load.Rows.{look_blind, read_looks}
use Rattle.tab_facts.specs.Shown.Shown.{AreShown, HasDocument}
use Rattle.tab_facts.proofs.Shown.Places.{AllWereAlike, IsBlank, WasAlike, asleep_alike, kept_mapped, same_alike, sleeps_shown, sleeps_so}
use Rattle.tab_facts.proofs.Shown.Leaves.{KeepDocuments, KeepLoads, left_shown, looks_loads, of_one_again, placed_again, same_there}
use Rattle.tab_facts.proofs.Shown.Sent.{after_sent, sent_viewed}

awake_doc : (a b : DocId) → awake a ≡ awake b → a ≡ b
awake_doc a b same = cc

asleep_kept : (s : Seen) (job : Job) → KeepPlaces s.places (put_to_sleep (sleepers_with s job.doc) job.why s.places)
asleep_kept s job =
    kept_mapped s.places (sleeps_so (sleepers_with s job.doc) job.why) (sleeps_shown (sleepers_with s job.doc) job.why).nav

-- an order that shows no document
sent_alike : (s : Seen) (job : Job) (task : Task) → ShowsNone task → AllWereAlike s.places (places_sent s job task)
sent_alike s job (tasks.Activate entry epoch length index memo address) never = absurd never
sent_alike s job (tasks.Populate nav state address initial) none = same_alike s.places
sent_alike s job (tasks.Update length index) none = same_alike s.places
sent_alike s job tasks.Freeze none = asleep_alike (sleepers_with s job.doc) job.why s.places
sent_alike s job tasks.Discard none = asleep_alike (sleepers_with s job.doc) job.why s.places
sent_alike s job (tasks.Ask slot cause) none = same_alike s.places
sent_alike s job (tasks.DoFragment req mode address) none = same_alike s.places

sent_kept : (s : Seen) (job : Job) (task : Task) → ShowsNone task → KeepPlaces s.places (places_sent s job task)
sent_kept s job (tasks.Activate entry epoch length index memo address) never = absurd never
sent_kept s job (tasks.Populate nav state address initial) none = λ n has. has
sent_kept s job (tasks.Update length index) none = λ n has. has
sent_kept s job tasks.Freeze none = asleep_kept s job
sent_kept s job tasks.Discard none = asleep_kept s job
sent_kept s job (tasks.Ask slot cause) none = λ n has. has
sent_kept s job (tasks.DoFragment req mode address) none = λ n has. has

-- ongoing loads stay over each order
pub sent_loads : (s : Seen) (event : ℕ) (actor : Actor) (job : Job) → KeepLoads s.requests (after_sent s event actor job).requests
sent_loads s event actor job =
    looks_loads s.requests (after_sent s event actor job).requests (read_looks s.requests (after_sent s event actor job).requests (sent_reads look look_blind s job job.task s.requests))

module _ (s : Seen) (event : ℕ) (actor : Actor) (are : AreShown s) (job : Job) where
  abbrev then_ : Seen
  then_ = after_sent s event actor job

  -- ---- it is told something, asked, frozen or discarded

  pub told_shown : MakesNone job.task → ShowsNone job.task → AreShown then_
  told_shown makes shows =
      left_shown s then_ (record {
        documents = sent_docs s job job.task makes;
        alike = sent_alike s job job.task shows;
        places = sent_kept s job job.task shows;
        loads = sent_loads s event actor job;
        viewed = sent_viewed s event actor are.viewed job makes;
      }) are

  -- ---- it is shown

  module _ (d : Document) (found : document_of s job.doc ≡ Some d) (entry : EntryId) (epoch : Epoch) (long at : ℕ) (memo : Option (List ℕ)) (address : List ℕ) (task : job.task ≡ tasks.Activate entry epoch long at memo address) where
    makes_none : MakesNone job.task
    makes_none = subst MakesNone (sym task) tt

    documents_are : AreSame s.documents then_.documents
    documents_are = sent_docs s job job.task makes_none

    documents_stay : KeepDocuments s then_
    documents_stay = same_there s then_ documents_are

    abbrev below : List NavId
    below = option_map_or (sleepers_below s job.doc) (place_of s d.nav) []

    abbrev slept : List Place
    slept = put_to_sleep below job.why s.places

    abbrev show : Place → Place
    show p = cond (p.nav.0 == d.nav.0) (activated job entry epoch d p) p

    places_are : then_.places ≡ map show slept
    places_are =
        ap (λ (t : Task). places_sent s job t) task
        ∙ ap (λ (o : Option Document). option_map_or (λ (x : Document). on_place x.nav (activated job entry epoch x) (put_to_sleep (option_map_or (sleepers_below s job.doc) (place_of s x.nav) []) job.why s.places)) o s.places) found

    show_nav : (p : Place) → (show p).nav ≡ p.nav
    show_nav p = elim (p.nav.0 == d.nav.0) as (λ b. (let x : Place = cond b (activated job entry epoch d p) p in x).nav ≡ p.nav) [ true ↦ refl | false ↦ refl ]

    places_stay : KeepPlaces s.places then_.places
    places_stay =
        subst (λ (l : List Place). KeepPlaces s.places l) (sym places_are)
        (λ nav has. kept_mapped slept show show_nav nav (kept_mapped s.places (sleeps_so below job.why) (sleeps_shown below job.why).nav nav has))

    -- a place then is that of the document's navigable, or was alike
    module _ (nav : NavId) (place : Place) (there : place_of then_ nav ≡ Some place) where
      w : WasPlace slept show nav place
      w = was_place slept show show_nav nav place (ap (λ (l : List Place). place_in l nav) (sym places_are) ∙ there)

      was : WasAlike s.places nav w.before ⊎ IsBlank w.before
      was = asleep_alike below job.why s.places nav w.before w.there

      shown_is : (b : Bool) → (w.before.nav.0 == d.nav.0) ≡ b → cond b (activated job entry epoch d w.before) w.before ≡ place
      shown_is b e =
          ap (λ (c : Bool). let x : Place = cond c (activated job entry epoch d w.before) w.before in x) (sym e) ∙ w.is

      old_there : (doc : DocId) → has_doc w.before.ever_awake doc ≡ true → HasDocument then_ doc
      old_there doc has = by_was was
        where
          by_was : WasAlike s.places nav w.before ⊎ IsBlank w.before → HasDocument then_ doc
          by_was (inl old) =
              documents_stay doc (are.there nav old.before doc old.there (ap (λ (l : List DocId). has_doc l doc) (sym old.ever) ∙ has))
          by_was (inr blank) =
              let never : false ≡ true = ap (λ (l : List DocId). has_doc l doc) (sym blank.ever) ∙ has in absurd cc

      new_there : (doc : DocId) (b : Bool) → (job.doc.0 == doc.0) ≡ b → (b || has_doc w.before.ever_awake doc) ≡ true → HasDocument then_ doc
      new_there doc true e has =
          subst (λ (x : DocId). HasDocument then_ x) (ap (λ (n : ℕ). let x : DocId = record { 0 = n } in x) (eqb-true job.doc.0 doc.0 e)) (documents_stay job.doc (record { document = d; found = found }))
      new_there doc false e has = old_there doc has

      is_there : (doc : DocId) → has_doc place.ever_awake doc ≡ true → HasDocument then_ doc
      is_there doc has = by_test (w.before.nav.0 == d.nav.0) refl
        where
          by_test : (b : Bool) → (w.before.nav.0 == d.nav.0) ≡ b → HasDocument then_ doc
          by_test true e =
              new_there doc (job.doc.0 == doc.0) refl (ap (λ (p : Place). has_doc p.ever_awake doc) (shown_is true e) ∙ has)
          by_test false e = old_there doc (ap (λ (p : Place). has_doc p.ever_awake doc) (shown_is false e) ∙ has)

      was_shown : (doc : DocId) → place.status ≡ awake doc → has_doc place.ever_awake doc ≡ true
      was_shown doc wakes = by_test (w.before.nav.0 == d.nav.0) refl
        where
          by_was : w.before.status ≡ awake doc → WasAlike s.places nav w.before ⊎ IsBlank w.before → has_doc w.before.ever_awake doc ≡ true
          by_was woke (inl old) =
              ap (λ (l : List DocId). has_doc l doc) old.ever ∙ are.ever nav old.before doc old.there (old.wakes doc woke)
          by_was woke (inr blank) = absurd (blank.sleeps doc woke)

          by_test : (b : Bool) → (w.before.nav.0 == d.nav.0) ≡ b → has_doc place.ever_awake doc ≡ true
          by_test true e =
              let same : job.doc ≡ doc = awake_doc job.doc doc (ap (λ (p : Place). p.status) (shown_is true e) ∙ wakes) in
              ap (λ (p : Place). has_doc p.ever_awake doc) (sym (shown_is true e))
              ∙ ap (λ (x : DocId). (x.0 == doc.0) || has_doc w.before.ever_awake doc) same ∙ rw (nat_eq_refl doc.0) refl
          by_test false e =
              ap (λ (p : Place). has_doc p.ever_awake doc) (sym (shown_is false e)) ∙ by_was (ap (λ (p : Place). p.status) (shown_is false e) ∙ wakes) was

    pub shown_shown : AreShown then_
    shown_shown =
        record {
          there = λ nav place doc there has. is_there nav place there doc has;
          ever = λ nav place doc there wakes. was_shown nav place there doc wakes;
          of_one = of_one_again s then_ documents_are are.of_one;
          placed = placed_again s then_ places_stay (sent_loads s event actor job) are.placed;
          viewed = sent_viewed s event actor are.viewed job makes_none;
        }
