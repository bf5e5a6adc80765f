-- What is known of entries, over an order that shows a navigable a document: under its new epoch nothing is coming.
use Rattle.std.proofs.Common.{◌≡◌, ◌⊎◌, inl, inr, ℕ, Bool, true, false, cond, ◌==◌, List, [], ◌++◌, map, Option, Some, refl, sym, ap, ◌∙◌, subst, arith}
use Rattle.std.specs.Prelude.{filter}
use Rattle.std.specs.Option.{option_map_or}
use Rattle.tab_ids.specs.declared.DocId.{DocId}
use Rattle.tab_ids.specs.declared.EntryId.{EntryId}
use Rattle.tab_ids.specs.declared.Epoch.{Epoch}
use Rattle.tab_ids.specs.declared.NavId.{NavId}
use Rattle.tab_ids.specs.declared.ProcId.{ProcId}
use Rattle.log_model.specs.declared.job.Job.{Job}
use Rattle.log_model.specs.declared.job.Task.{Task}
use Rattle.log_model.specs.declared.job.Task.TheVariants as tasks
use Rattle.log_model.specs.declared.made.Made.{Made}
use Rattle.log_model.specs.declared.row_kind.Actor.{Actor}
use Rattle.log_model.specs.AfterDocuments.{documents_sent}
use Rattle.log_model.specs.AfterPlaces.{activated, on_place, places_sent, put_to_sleep, sleepers_below}
use Rattle.log_model.specs.History.{has_nav}
use Rattle.log_model.specs.Seen.{Seen, Document, Place, awake, asleep, desk_of, document_of, place_in, place_of}
use Rattle.seen_facts.specs.Coord.Leading.{coming, is_made_under}
use Rattle.seen_facts.specs.Hang.Members.{Has}
use Rattle.seen_facts.specs.Entry.Entries.{AreEntries, mades_of, waiting}
use Rattle.seen_facts.proofs.Entry.Docs.{DocsAre, sent_docs}
use Rattle.seen_facts.proofs.Entry.Orders.{asked, same, sent, told}
use Rattle.seen_facts.proofs.Entry.Parts.{WasPlace, applied_mapped, docs_mapped, given_mapped, had_same, home_same, is_of_map, lists_same, shown_mapped, sleep_leaves, took_before, views_mapped, waiting_same, waits_same, was_place}
use Rattle.seen_facts.proofs.Entry.Stays.{AllGoOn, ComesNone, IsKnownEntry, WasShown, left_entries}

-- a document may be shown at an entry under an epoch: it is there, the entry is known, and nothing is coming of it under that epoch
pub record IsToShow (hand : List Made) (s : Seen) (job : Job) (d : Document) (entry : EntryId) (epoch : Epoch) : Type 0 where
  pub found : document_of s job.doc ≡ Some d
  pub known : IsKnownEntry s entry
  pub fresh : coming (waiting s hand) (desk_of s d.proc) job.doc epoch ≡ []

module _ (hand : List Made) (s : Seen) (event : ℕ) (actor : Actor) (are : AreEntries hand s) (job : Job) (d : Document) (entry : EntryId) (epoch : Epoch) (long at : ℕ) (memo : Option (List ℕ)) (address : List ℕ) (task : job.task ≡ tasks.Activate entry epoch long at memo address) (show : IsToShow hand s job d entry epoch) where
  abbrev pub shown : Seen
  shown = sent hand s event actor are job

  abbrev falls : Place → Place
  falls p = cond (has_nav (option_map_or (sleepers_below s job.doc) (place_of s d.nav) []) p.nav) (record p { status = asleep; why = job.why }) p

  abbrev wakes_up : Place → Place
  wakes_up p = cond (p.nav.0 == d.nav.0) (activated job entry epoch d p) p

  places_are : shown.places ≡ map wakes_up (map falls s.places)
  places_are =
      ap (λ (k : Task). places_sent s job k) task
      ∙ ap (λ (o : Option Document). option_map_or (λ (x : Document). on_place x.nav (activated job entry epoch x) (put_to_sleep (option_map_or (sleepers_below s job.doc) (place_of s x.nav) []) job.why s.places)) o s.places) show.found

  falls_nav : (p : Place) → (falls p).nav ≡ p.nav
  falls_nav = (sleep_leaves (option_map_or (sleepers_below s job.doc) (place_of s d.nav) []) job.why).nav

  wakes_nav : (p : Place) → (wakes_up p).nav ≡ p.nav
  wakes_nav p = elim (p.nav.0 == d.nav.0) as (λ b. (let q : Place = cond b (activated job entry epoch d p) p in q).nav ≡ p.nav) [ true ↦ refl | false ↦ refl ]

  -- a place then: fallen asleep or as before, or that of the document
  was : (nav : NavId) (place : Place) → place_of shown nav ≡ Some place → WasPlace (map falls s.places) wakes_up nav place
  was nav place there =
      was_place (map falls s.places) wakes_up wakes_nav nav place (subst (λ (l : List Place). place_in l nav ≡ Some place) places_are there)

  -- the places once they fell asleep
  abbrev fallen : Seen
  fallen = record shown { places = map falls s.places }

  docs : DocsAre s.documents shown.documents
  docs = subst (λ (k : Task). DocsAre s.documents (documents_sent s job k)) (sym task) (sent_docs s job (tasks.Activate entry epoch long at memo address) tt)

  go_on : AllGoOn hand s shown
  go_on nav place doc there wakes = by_nav (was nav place there)
    where
      by_nav : WasPlace (map falls s.places) wakes_up nav place → WasShown s nav place ⊎ ComesNone hand shown doc place.epoch
      by_nav w = by_test (w.before.nav.0 == d.nav.0) refl
        where
          by_test : (b : Bool) → (w.before.nav.0 == d.nav.0) ≡ b → WasShown s nav place ⊎ ComesNone hand shown doc place.epoch
          by_test true e =
              let value : activated job entry epoch d w.before ≡ place = sym (ap (λ (b : Bool). let q : Place = cond b (activated job entry epoch d w.before) w.before in q) e) ∙ w.is in
              let on : awake job.doc ≡ awake doc = ap (λ (p : Place). p.status) value ∙ wakes in
              let its : job.doc ≡ doc = cc in
              let epochs : epoch ≡ place.epoch = ap (λ (p : Place). p.epoch) value in
              inr (λ x found. none x (subst (λ (n : DocId). document_of shown n ≡ Some x) (sym its) found) its epochs)
            where
              none : (x : Document) → document_of shown job.doc ≡ Some x → job.doc ≡ doc → epoch ≡ place.epoch → coming (waiting shown hand) (desk_of shown x.proc) doc place.epoch ≡ []
              none x found its epochs =
                  let is : docs.g d ≡ x = is_of_map s shown docs.g docs.keeps.nr docs.are job.doc x d found show.found in
                  let proc : x.proc ≡ d.proc = ap (λ (y : Document). y.proc) (sym is) ∙ docs.keeps.proc d in
                  ap (λ (p : ProcId). coming (waiting shown hand) (desk_of shown p) doc place.epoch) proc
                  ∙ ap (λ (l : List Made). filter (is_made_under doc place.epoch) (l ++ mades_of (desk_of shown d.proc))) (waiting_same hand s shown (same hand s event actor are job))
                  ∙ ap (λ (l : List Made). filter (is_made_under doc place.epoch) (waiting s hand ++ l)) (told hand s event actor are job d.proc)
                  ∙ ap (λ (n : DocId). coming (waiting s hand) (desk_of s d.proc) n place.epoch) (sym its)
                  ∙ ap (λ (n : Epoch). coming (waiting s hand) (desk_of s d.proc) job.doc n) (sym epochs)
                  ∙ show.fresh
          by_test false e =
              let value : w.before ≡ place = sym (ap (λ (b : Bool). let q : Place = cond b (activated job entry epoch d w.before) w.before in q) e) ∙ w.is in
              inl (shown_mapped s fallen falls (sleep_leaves (option_map_or (sleepers_below s job.doc) (place_of s d.nav) []) job.why) refl nav place doc (w.there ∙ ap (λ (p : Place). Some p) value) wakes)

  given_then : (nav : NavId) (place : Place) (e : EntryId) → place_of shown nav ≡ Some place → Has place.ever_given e → IsKnownEntry s e
  given_then nav place e there has = by_nav (was nav place there)
    where
      by_nav : WasPlace (map falls s.places) wakes_up nav place → IsKnownEntry s e
      by_nav w = by_test (w.before.nav.0 == d.nav.0) refl
        where
          old : Has w.before.ever_given e → IsKnownEntry s e
          old has_ =
              inr (inl (given_mapped s.places (map falls s.places) falls falls_nav (sleep_leaves (option_map_or (sleepers_below s job.doc) (place_of s d.nav) []) job.why).ever refl nav w.before e w.there has_))

          by_test : (b : Bool) → (w.before.nav.0 == d.nav.0) ≡ b → IsKnownEntry s e
          by_test true h =
              let value : activated job entry epoch d w.before ≡ place = sym (ap (λ (b : Bool). let q : Place = cond b (activated job entry epoch d w.before) w.before in q) h) ∙ w.is in
              either (subst (λ (p : Place). Has p.ever_given e) (sym value) has)
            where
              either : (entry ≡ e) ⊎ Has w.before.ever_given e → IsKnownEntry s e
              either (inl is) = subst (IsKnownEntry s) is show.known
              either (inr has_) = old has_
          by_test false h =
              let value : w.before ≡ place = sym (ap (λ (b : Bool). let q : Place = cond b (activated job entry epoch d w.before) w.before in q) h) ∙ w.is in
              old (subst (λ (p : Place). Has p.ever_given e) (sym value) has)

  pub shown_entries : AreEntries hand shown
  shown_entries =
      left_entries hand hand s shown
      (record {
        docs = docs_mapped s shown docs.g docs.keeps docs.are;
        applied = applied_mapped s shown docs.g docs.keeps.nr docs.are docs.applied;
        views = views_mapped s shown docs.g docs.keeps.nr docs.are docs.views;
        lists = lists_same hand s shown (same hand s event actor are job);
        waits = waits_same hand s shown (same hand s event actor are job) are;
        home = home_same hand s shown (told hand s event actor are job) are;
        shown = go_on;
        had = had_same s shown refl;
        numbers = omega arith;
        entries =
            record {
              of_rows = λ row there. inl (inl (record { row = row; there = there; is = refl }));
              givens = λ nav place e there has. inl (given_then nav place e there has);
              tooks = λ req q e there has. inl (inr (inr (took_before s.requests shown.requests (asked hand s event actor are job) req q e there has)));
            };
      })
      are
