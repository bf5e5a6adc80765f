-- The kept documents over each order: one that shows a navigable another document keeps the one that is left, one that discards a document takes it out.
use Rattle.std.proofs.Common.{◌≡◌, ℕ, Bool, true, false, cond, not, ◌||◌, ◌==◌, List, [], ◌∷◌, Option, Some, None, refl, sym, ap, ◌∙◌, subst, inl, inr, ◌⊎◌, eqb-true}
use Rattle.std.specs.Prelude.{filter, find, option_map, option_and_then}
use Rattle.std.specs.Option.{option_map_or}
use Rattle.tab_ids.specs.declared.DocId.{DocId}
use Rattle.tab_ids.specs.declared.EntryId.{EntryId}
use Rattle.tab_ids.specs.declared.Epoch.{Epoch}
use Rattle.tab_ids.specs.declared.NavId.{NavId}
use Rattle.log_model.specs.declared.job.Job.{Job}
use Rattle.log_model.specs.declared.job.Task.{Task}
use Rattle.log_model.specs.declared.job.Task.TheVariants as tasks
use Rattle.log_model.specs.declared.job.Why.{Why}
use Rattle.log_model.specs.declared.row_kind.Actor.{Actor}
use Rattle.log_model.specs.declared.row_kind.RowKind.TheVariants as rows
use Rattle.log_model.specs.After.{after}
use Rattle.log_model.specs.AfterDocuments.{addressed, documents_sent, new_document, on_document}
use Rattle.log_model.specs.AfterPlaces.{activated, kept_leaving, kept_sent, on_place, places_sent, put_to_sleep, sleepers_below, sleepers_with, without_doc}
use Rattle.log_model.specs.Equal.{holds}
use Rattle.log_model.specs.History.{has_nav}
use Rattle.log_model.specs.Places.{is_gone}
use Rattle.log_model.specs.Seen.{Seen, Document, Place, asleep, document_of, place_in, place_of}
use Rattle.log_model.proofs.Refl.{nat_eq_refl}
use Rattle.seen_facts.specs.Hang.Members.{Has}
use Rattle.seen_facts.proofs.Hang.Members.{has_filter}
use Rattle.seen_facts.specs.Home.Homes.{document_in}
use Rattle.seen_facts.proofs.Home.Again.{AllStayIn, StaysIn, all_more, all_on}
use Rattle.seen_laws.proofs.Keyed.{find_map, find_has, find_on_other}
use Rattle.seen_facts.proofs.Coord.Singles.{AreApart}
use Rattle.seen_facts.specs.Kept.Keeping.{AreKeptDocs, IsKeptDoc, IsMadeFor, is_last}
use Rattle.seen_facts.proofs.Kept.Stays.{KeepLasts, LastIs, if_last, lasts_mapped, left_kept, made_again, same_lasts, was_there}

-- ---- lists of documents

-- what isn't found in a list isn't found in a filtered one
none_filtered : {A : Type 0} (key : A → ℕ) (k : ℕ) (test : A → Bool) (xs : List A) → find (λ (x : A). key x == k) xs ≡ None → find (λ (x : A). key x == k) (filter test xs) ≡ None
none_filtered key k test [] none = refl
none_filtered {A} key k test (y ∷ xs) none = by_key (key y == k) refl none (none_filtered key k test xs)
  where
    by_test : (b : Bool) → (key y == k) ≡ false → find (λ (x : A). key x == k) (filter test xs) ≡ None → find (λ (x : A). key x == k) (cond b (y ∷ filter test xs) (filter test xs)) ≡ None
    by_test true other none = rw other none
    by_test false other none = none

    by_key : (c : Bool) → (key y == k) ≡ c → (let o : Option A = cond c (Some y) (find (λ (x : A). key x == k) xs) in o) ≡ None → (find (λ (x : A). key x == k) xs ≡ None → find (λ (x : A). key x == k) (filter test xs) ≡ None) → find (λ (x : A). key x == k) (cond (test y) (y ∷ filter test xs) (filter test xs)) ≡ None
    by_key true e none more = absurd cc
    by_key false e none more = by_test (test y) e (more none)

-- items that are apart stay so, filtered
pub apart_filtered : {A : Type 0} (key : A → ℕ) (test : A → Bool) (xs : List A) → AreApart key xs → AreApart key (filter test xs)
apart_filtered key test [] apart = tt
apart_filtered {A} key test (y ∷ xs) apart = by_test (test y) (apart_filtered key test xs apart.1)
  where
    by_test : (b : Bool) → AreApart key (filter test xs) → AreApart key (cond b (y ∷ filter test xs) (filter test xs))
    by_test true more = (none_filtered key (key y) test xs apart.0, more)
    by_test false more = more

-- a document isn't among the others
none_without : (doc : DocId) (docs : List DocId) → find (λ (d : DocId). d.0 == doc.0) (without_doc doc docs) ≡ None
none_without doc [] = refl
none_without doc (d ∷ docs) = by_test (d.0 == doc.0) refl (none_without doc docs)
  where
    by_test : (b : Bool) → (d.0 == doc.0) ≡ b → find (λ (d : DocId). d.0 == doc.0) (without_doc doc docs) ≡ None → find (λ (d : DocId). d.0 == doc.0) (cond (not b) (d ∷ without_doc doc docs) (without_doc doc docs)) ≡ None
    by_test true e more = more
    by_test false e more = rw e more

-- one in front of the others
pub apart_in_front : (doc : DocId) (docs : List DocId) → AreApart (λ (d : DocId). d.0) docs → AreApart (λ (d : DocId). d.0) (doc ∷ without_doc doc docs)
apart_in_front doc docs apart = (none_without doc docs, apart_filtered (λ (d : DocId). d.0) (λ (d : DocId). not (d.0 == doc.0)) docs apart)

-- which of them is another one
other_of : (doc other : DocId) → not (other.0 == doc.0) ≡ true → (other.0 == doc.0) ≡ false
other_of doc other e = by_test (other.0 == doc.0) refl e
  where
    by_test : (b : Bool) → (other.0 == doc.0) ≡ b → not b ≡ true → (other.0 == doc.0) ≡ false
    by_test true at e = cc
    by_test false at e = at

-- two numbers differ, whichever is first
turned : (n m : ℕ) → (n == m) ≡ false → (m == n) ≡ false
turned n m e = by_test (m == n) refl
  where
    by_test : (b : Bool) → (m == n) ≡ b → (m == n) ≡ false
    by_test false at = at
    by_test true at =
        let same : m ≡ n = eqb-true m n at in
        let no_ : true ≡ false = sym (nat_eq_refl n) ∙ ap (λ (k : ℕ). n == k) (sym same) ∙ e in
        absurd cc

-- ---- orders that tell, make or freeze

sleep_lasts : (navs : List NavId) (why : Why) (places : List Place) → KeepLasts places (put_to_sleep navs why places)
sleep_lasts navs why places =
    lasts_mapped (λ (p : Place). cond (has_nav navs p.nav) (record p { status = asleep; why = why }) p) places (if_last (λ (p : Place). has_nav navs p.nav) (λ (p : Place). record p { status = asleep; why = why }) (record { nav = λ p. refl; last = λ p. refl }))

-- the order shows no document and discards none
abbrev pub ShowsNone : Task → Type 0
ShowsNone (tasks.Activate entry epoch length index memo address) = ⊥
ShowsNone tasks.Discard = ⊥
ShowsNone _ = Unit {0}

addressed_stay : (doc : DocId) (task : Task) (documents : List Document) → AllStayIn documents (on_document doc (addressed task) documents)
addressed_stay doc task documents =
    all_on doc (addressed task) documents (λ d. refl) (λ d. record { nav = refl; state = refl; ready = λ e. e; discarded = refl; known = refl })

module _ (s : Seen) (event : ℕ) (actor : Actor) (are : AreKeptDocs s) where
  abbrev then_ : Job → Seen
  then_ job = after s (record { event = event; actor = actor; row = rows.Sent job })

  sent_stay : (job : Job) (task : Task) → ShowsNone task → AllStayIn s.documents (documents_sent s job task)
  sent_stay job (tasks.Populate nav state address initial) none = all_more s.documents (new_document s job nav state)
  sent_stay job (tasks.Update length index) none = addressed_stay job.doc (tasks.Update length index) s.documents
  sent_stay job tasks.Freeze none = addressed_stay job.doc tasks.Freeze s.documents
  sent_stay job (tasks.Ask slot cause) none = addressed_stay job.doc (tasks.Ask slot cause) s.documents
  sent_stay job (tasks.DoFragment req mode address) none = addressed_stay job.doc (tasks.DoFragment req mode address) s.documents
  sent_stay job (tasks.Activate entry epoch length index memo address) never = absurd never
  sent_stay job tasks.Discard never = absurd never

  sent_lasts : (job : Job) (task : Task) → ShowsNone task → KeepLasts s.places (places_sent s job task)
  sent_lasts job (tasks.Populate nav state address initial) none = same_lasts s.places
  sent_lasts job (tasks.Update length index) none = same_lasts s.places
  sent_lasts job tasks.Freeze none = sleep_lasts (sleepers_with s job.doc) job.why s.places
  sent_lasts job (tasks.Ask slot cause) none = same_lasts s.places
  sent_lasts job (tasks.DoFragment req mode address) none = same_lasts s.places
  sent_lasts job (tasks.Activate entry epoch length index memo address) never = absurd never
  sent_lasts job tasks.Discard never = absurd never

  sent_same : (doc : DocId) (task : Task) → ShowsNone task → kept_sent s doc task ≡ s.kept
  sent_same doc (tasks.Populate nav state address initial) none = refl
  sent_same doc (tasks.Update length index) none = refl
  sent_same doc tasks.Freeze none = refl
  sent_same doc (tasks.Ask slot cause) none = refl
  sent_same doc (tasks.DoFragment req mode address) none = refl
  sent_same doc (tasks.Activate entry epoch length index memo address) never = absurd never
  sent_same doc tasks.Discard never = absurd never

  pub told_kept : (job : Job) → ShowsNone job.task → AreKeptDocs (then_ job)
  told_kept job none =
      left_kept s (then_ job) (sent_same job.doc job.task none) (sent_stay job job.task none) (sent_lasts job job.task none) are

  -- ---- an order that discards a document

  abbrev gone : Document → Document
  gone d = record d { is_discarded = true }

  module _ (job : Job) (task : job.task ≡ tasks.Discard) where
    discarded_documents : (then_ job).documents ≡ on_document job.doc gone s.documents
    discarded_documents = ap (λ (t : Task). documents_sent s job t) task

    discarded_places : KeepLasts s.places (then_ job).places
    discarded_places =
        subst (λ (l : List Place). KeepLasts s.places l) (sym (ap (λ (t : Task). places_sent s job t) task)) (sleep_lasts (sleepers_with s job.doc) job.why s.places)

    discarded_list : (then_ job).kept ≡ without_doc job.doc s.kept
    discarded_list = ap (λ (t : Task). kept_sent s job.doc t) task

    -- the other documents are as they were
    other_found : (doc : DocId) → (job.doc.0 == doc.0) ≡ false → document_in (then_ job).documents doc ≡ document_in s.documents doc
    other_found doc other =
        ap (λ (l : List Document). document_in l doc) discarded_documents ∙ find_on_other (λ (d : Document). d.nr.0) gone job.doc.0 doc.0 s.documents (λ d. refl) other

    other_kept : (doc : DocId) → (job.doc.0 == doc.0) ≡ false → IsKeptDoc s.documents s.places doc → IsKeptDoc (then_ job).documents (then_ job).places doc
    other_kept doc other is =
        let p = discarded_places.on is.d.nav is.place is.placed in
        record {
          d = is.d;
          found = other_found doc other ∙ is.found;
          ready = is.ready;
          undiscarded = is.undiscarded;
          unknown = is.unknown;
          place = p.place;
          placed = p.found;
          left = ap (λ (o : Option DocId). is_last doc (record p.place { last = o })) p.same ∙ is.left;
        }

    -- one that is made stays made
    made_then : (nav : NavId) (doc : DocId) → IsMadeFor s.documents nav doc → IsMadeFor (then_ job).documents nav doc
    made_then nav doc is =
        record {
          d = cond (is.d.nr.0 == job.doc.0) (gone is.d) is.d;
          found = ap (λ (l : List Document). document_in l doc) discarded_documents ∙ find_map (λ (d : Document). d.nr.0) (λ (d : Document). cond (d.nr.0 == job.doc.0) (gone d) d) doc.0 s.documents (λ d. number d (d.nr.0 == job.doc.0)) ∙ ap (λ (o : Option Document). option_map (λ (d : Document). cond (d.nr.0 == job.doc.0) (gone d) d) o) is.found;
          nav_is = nav_ (is.d.nr.0 == job.doc.0) ∙ is.nav_is;
          ready = ready_ (is.d.nr.0 == job.doc.0) ∙ is.ready;
        }
      where
        number : (d : Document) (b : Bool) → (let x : Document = cond b (gone d) d in x).nr.0 ≡ d.nr.0
        number d true = refl
        number d false = refl

        nav_ : (b : Bool) → (let x : Document = cond b (gone is.d) is.d in x).nav.0 ≡ is.d.nav.0
        nav_ true = refl
        nav_ false = refl

        ready_ : (b : Bool) → (let x : Document = cond b (gone is.d) is.d in x).is_ready ≡ is.d.is_ready
        ready_ true = refl
        ready_ false = refl

    pub discarded_kept : AreKeptDocs (then_ job)
    discarded_kept =
        record {
          each = each;
          apart = subst (λ (l : List DocId). AreApart (λ (doc : DocId). doc.0) l) (sym discarded_list) (apart_filtered (λ (doc : DocId). doc.0) (λ (doc : DocId). not (doc.0 == job.doc.0)) s.kept are.apart);
          lasts = lasts;
        }
      where
        each : (doc : DocId) → Has (then_ job).kept doc → IsKeptDoc (then_ job).documents (then_ job).places doc
        each doc has =
            let was = has_filter (λ (d : DocId). not (d.0 == job.doc.0)) s.kept doc (subst (λ (l : List DocId). Has l doc) discarded_list has) in
            other_kept doc (turned doc.0 job.doc.0 (other_of job.doc doc was.1)) (are.each doc was.0)

        lasts : (nav : NavId) (place : Place) (doc : DocId) → place_of (then_ job) nav ≡ Some place → place.last ≡ Some doc → IsMadeFor (then_ job).documents nav doc
        lasts nav place doc there last = by_back (discarded_places.back nav place there)
          where
            by_back : (place.last ≡ None) ⊎ LastIs s.places nav place.last → IsMadeFor (then_ job).documents nav doc
            by_back (inl none) = let no_ : None ≡ Some doc = sym none ∙ last in absurd cc
            by_back (inr was) = made_then nav doc (are.lasts nav was.place doc was.found (was.same ∙ last))

-- ---- an order that shows a navigable a document

-- one navigable's place tells of this document as the last that was shown, the others' stay
module _ (nav : NavId) (f : Place → Place) (doc : DocId) (number : (p : Place) → (f p).nav ≡ p.nav) (shown : (p : Place) → (f p).last ≡ Some doc) (places : List Place) where
  abbrev g : Place → Place
  g p = cond (p.nav.0 == nav.0) (f p) p

  g_number : (p : Place) → (g p).nav ≡ p.nav
  g_number p = elim (p.nav.0 == nav.0) as (λ b. (let q : Place = cond b (f p) p in q).nav ≡ p.nav) [ true ↦ number p | false ↦ refl ]

  own_last : (other : NavId) (place : Place) → place_in places other ≡ Some place → (other.0 == nav.0) ≡ true → LastIs (on_place nav f places) other (Some doc)
  own_last other place found is =
      record {
        place = f place;
        found = find_map (λ (p : Place). p.nav.0) g other.0 places (λ p. ap (λ (n : NavId). n.0) (g_number p)) ∙ ap (λ (o : Option Place). option_map g o) found ∙ ap (λ (b : Bool). Some (cond b (f place) place)) here;
        same = shown place;
      }
    where
      here : (place.nav.0 == nav.0) ≡ true
      here = ap (λ (n : ℕ). n == nav.0) (find_has (λ (p : Place). p.nav.0) other.0 places place found) ∙ is

  other_last : (other : NavId) (place : Place) → place_in places other ≡ Some place → (other.0 == nav.0) ≡ false → LastIs (on_place nav f places) other place.last
  other_last other place found is =
      record {
        place = place;
        found = find_map (λ (p : Place). p.nav.0) g other.0 places (λ p. ap (λ (n : NavId). n.0) (g_number p)) ∙ ap (λ (o : Option Place). option_map g o) found ∙ ap (λ (b : Bool). Some (cond b (f place) place)) here;
        same = refl;
      }
    where
      here : (place.nav.0 == nav.0) ≡ false
      here = ap (λ (n : ℕ). n == nav.0) (find_has (λ (p : Place). p.nav.0) other.0 places place found) ∙ is

  -- what is told then: the document, of the navigable itself, or what was told before
  last_then : (other : NavId) (place : Place) (last : DocId) → place_in (on_place nav f places) other ≡ Some place → place.last ≡ Some last → ((other.0 ≡ nav.0) × (doc ≡ last)) ⊎ LastIs places other (Some last)
  last_then other place last found is =
      let w = was_there g places other place g_number found in
      by_test w.0 w.1 w.2 (w.0.nav.0 == nav.0) refl
    where
      by_test : (old : Place) → place_in places other ≡ Some old → g old ≡ place → (b : Bool) → (old.nav.0 == nav.0) ≡ b → ((other.0 ≡ nav.0) × (doc ≡ last)) ⊎ LastIs places other (Some last)
      by_test old at same true e =
          let value : f old ≡ place = sym (ap (λ (b : Bool). let q : Place = cond b (f old) old in q) e) ∙ same in
          let docs : Some doc ≡ Some last = sym (shown old) ∙ ap (λ (p : Place). p.last) value ∙ is in
          inl (sym (find_has (λ (p : Place). p.nav.0) other.0 places old at) ∙ eqb-true old.nav.0 nav.0 e, let one : doc ≡ last = cc in one)
      by_test old at same false e =
          let value : old ≡ place = sym (ap (λ (b : Bool). let q : Place = cond b (f old) old in q) e) ∙ same in
          inr (record { place = old; found = at; same = ap (λ (p : Place). p.last) value ∙ is })

module _ (s : Seen) (event : ℕ) (actor : Actor) (are : AreKeptDocs s) (job : Job) (d : Document) (entry : EntryId) (epoch : Epoch) (long at : ℕ) (memo : Option (List ℕ)) (address : List ℕ) (task : job.task ≡ tasks.Activate entry epoch long at memo address) (found : document_of s job.doc ≡ Some d) (ready : d.is_ready ≡ true) (place : Place) (placed : place_of s d.nav ≡ Some place) where
  abbrev t : Seen
  t = after s (record { event = event; actor = actor; row = rows.Sent job })

  abbrev asleep_then : List Place
  asleep_then = put_to_sleep (option_map_or (sleepers_below s job.doc) (place_of s d.nav) []) job.why s.places

  sleep : KeepLasts s.places asleep_then
  sleep = sleep_lasts (option_map_or (sleepers_below s job.doc) (place_of s d.nav) []) job.why s.places

  places_are : t.places ≡ on_place d.nav (activated job entry epoch d) asleep_then
  places_are =
      ap (λ (k : Task). places_sent s job k) task
      ∙ ap (λ (o : Option Document). option_map_or (λ (x : Document). on_place x.nav (activated job entry epoch x) (put_to_sleep (option_map_or (sleepers_below s job.doc) (place_of s x.nav) []) job.why s.places)) o s.places) found

  stay : AllStayIn s.documents t.documents
  stay =
      subst (λ (l : List Document). AllStayIn s.documents l) (sym (ap (λ (k : Task). documents_sent s job k) task)) (addressed_stay job.doc (tasks.Activate entry epoch long at memo address) s.documents)

  kept_is : t.kept ≡ kept_leaving s job.doc place.last
  kept_is =
      ap (λ (k : Task). kept_sent s job.doc k) task
      ∙ ap (λ (o : Option Document). kept_leaving s job.doc (option_and_then (λ (x : Document). option_and_then (λ (p : Place). p.last) (place_of s x.nav)) o)) found
      ∙ ap (λ (o : Option Place). kept_leaving s job.doc (option_and_then (λ (p : Place). p.last) o)) placed

  -- a kept document but the one that is shown stays kept
  stays_kept : (doc : DocId) → (job.doc.0 == doc.0) ≡ false → IsKeptDoc s.documents s.places doc → IsKeptDoc t.documents t.places doc
  stays_kept doc other is = by_nav (is.d.nav.0 == d.nav.0) refl
    where
      mid : LastIs asleep_then is.d.nav is.place.last
      mid = sleep.on is.d.nav is.place is.placed

      k : StaysIn t.documents doc is.d
      k = stay doc is.d is.found

      finish : (p : Place) → place_in t.places is.d.nav ≡ Some p → is_last doc p ≡ false → IsKeptDoc t.documents t.places doc
      finish p there left =
          record {
            d = k.new;
            found = k.found;
            ready = k.keeps.ready is.ready;
            undiscarded = k.keeps.discarded ∙ is.undiscarded;
            unknown = k.keeps.known ∙ is.unknown;
            place = p;
            placed = ap (λ (n : NavId). place_in t.places n) k.keeps.nav ∙ there;
            left = left;
          }

      by_nav : (b : Bool) → (is.d.nav.0 == d.nav.0) ≡ b → IsKeptDoc t.documents t.places doc
      by_nav true e =
          let own = own_last d.nav (activated job entry epoch d) job.doc (λ p. refl) (λ p. refl) asleep_then is.d.nav mid.place mid.found e in
          finish own.place (ap (λ (l : List Place). place_in l is.d.nav) places_are ∙ own.found) (ap (λ (o : Option DocId). holds (λ (last : DocId). last.0 == doc.0) o) own.same ∙ other)
      by_nav false e =
          let its = other_last d.nav (activated job entry epoch d) job.doc (λ p. refl) (λ p. refl) asleep_then is.d.nav mid.place mid.found e in
          finish its.place (ap (λ (l : List Place). place_in l is.d.nav) places_are ∙ its.found) (ap (λ (o : Option DocId). holds (λ (last : DocId). last.0 == doc.0) o) (its.same ∙ mid.same) ∙ is.left)

  -- so does the one that is left, which joins them, unless it is gone
  left_is_kept : (left : DocId) → place.last ≡ Some left → (left.0 == job.doc.0) ≡ false → is_gone s left ≡ false → IsKeptDoc t.documents t.places left
  left_is_kept left last other there =
      let was = are.lasts d.nav place left placed last in
      let k = stay left was.d was.found in
      let apart : (was.d.is_discarded || was.d.is_known_dead) ≡ false = sym (ap (λ (o : Option Document). holds (λ (x : Document). x.is_discarded || x.is_known_dead) o) was.found) ∙ there in
      let parts = none_of was.d.is_discarded was.d.is_known_dead apart in
      let mid = sleep.on d.nav place placed in
      let own = own_last d.nav (activated job entry epoch d) job.doc (λ p. refl) (λ p. refl) asleep_then d.nav mid.place mid.found (nat_eq_refl d.nav.0) in
      let navs : k.new.nav.0 ≡ d.nav.0 = ap (λ (n : NavId). n.0) k.keeps.nav ∙ was.nav_is in
      let same : k.new.nav ≡ d.nav = ap (λ (n : ℕ). let x : NavId = record { 0 = n } in x) navs in
      record {
        d = k.new;
        found = k.found;
        ready = k.keeps.ready was.ready;
        undiscarded = k.keeps.discarded ∙ parts.0;
        unknown = k.keeps.known ∙ parts.1;
        place = own.place;
        placed = ap (λ (n : NavId). place_in t.places n) same ∙ ap (λ (l : List Place). place_in l d.nav) places_are ∙ own.found;
        left = ap (λ (o : Option DocId). holds (λ (x : DocId). x.0 == left.0) o) own.same ∙ turned left.0 job.doc.0 other;
      }
    where
      none_of : (a b : Bool) → (a || b) ≡ false → (a ≡ false) × (b ≡ false)
      none_of true b e = absurd cc
      none_of false b e = (refl, e)

  -- who is kept then: one that was, and isn't the document, or the one that is left
  kept_then : (doc : DocId) → Has (kept_leaving s job.doc place.last) doc → IsKeptDoc t.documents t.places doc
  kept_then doc has = by_last place.last refl has
    where
      stays : Has (without_doc job.doc s.kept) doc → IsKeptDoc t.documents t.places doc
      stays has =
          let was = has_filter (λ (x : DocId). not (x.0 == job.doc.0)) s.kept doc has in
          stays_kept doc (turned doc.0 job.doc.0 (other_of job.doc doc was.1)) (are.each doc was.0)

      -- the same document is shown again: it isn't kept, since it was its navigable's last
      again : (left : DocId) → place.last ≡ Some left → (left.0 == job.doc.0) ≡ true → Has s.kept doc → IsKeptDoc t.documents t.places doc
      again left last same has = stays_kept doc (by_test (job.doc.0 == doc.0) refl) is
        where
          is : IsKeptDoc s.documents s.places doc
          is = are.each doc has

          by_test : (b : Bool) → (job.doc.0 == doc.0) ≡ b → (job.doc.0 == doc.0) ≡ false
          by_test false e = e
          by_test true e =
              let number : job.doc.0 ≡ doc.0 = eqb-true job.doc.0 doc.0 e in
              let docs : job.doc ≡ doc = ap (λ (n : ℕ). let x : DocId = record { 0 = n } in x) number in
              let both : Some d ≡ Some is.d = sym found ∙ ap (λ (x : DocId). document_in s.documents x) docs ∙ is.found in
              let one : d ≡ is.d = cc in
              let places : Some place ≡ Some is.place = sym placed ∙ ap (λ (x : Document). place_in s.places x.nav) one ∙ is.placed in
              let own : place ≡ is.place = cc in
              let said : is_last doc place ≡ false = ap (λ (p : Place). is_last doc p) own ∙ is.left in
              let at_last : (left.0 == doc.0) ≡ false = sym (ap (λ (o : Option DocId). holds (λ (x : DocId). x.0 == doc.0) o) last) ∙ said in
              let no_ : true ≡ false = sym same ∙ ap (λ (n : ℕ). left.0 == n) number ∙ at_last in
              absurd cc

      by_gone : (left : DocId) → place.last ≡ Some left → (left.0 == job.doc.0) ≡ false → (b : Bool) → is_gone s left ≡ b → Has (without_doc job.doc (cond b s.kept (left ∷ without_doc left s.kept))) doc → IsKeptDoc t.documents t.places doc
      by_gone left last other true gone has = stays has
      by_gone left last other false there has =
          let was = has_filter (λ (x : DocId). not (x.0 == job.doc.0)) (left ∷ without_doc left s.kept) doc has in
          by_place (turned doc.0 job.doc.0 (other_of job.doc doc was.1)) was.0
        where
          by_place : (job.doc.0 == doc.0) ≡ false → Has (left ∷ without_doc left s.kept) doc → IsKeptDoc t.documents t.places doc
          by_place apart (inl same) = subst (λ (x : DocId). IsKeptDoc t.documents t.places x) same (left_is_kept left last other there)
          by_place apart (inr later) = stays_kept doc apart (are.each doc (has_filter (λ (x : DocId). not (x.0 == left.0)) s.kept doc later).0)

      by_same : (left : DocId) → place.last ≡ Some left → (b : Bool) → (left.0 == job.doc.0) ≡ b → Has (cond b s.kept (without_doc job.doc (cond (is_gone s left) s.kept (left ∷ without_doc left s.kept)))) doc → IsKeptDoc t.documents t.places doc
      by_same left last true same has = again left last same has
      by_same left last false other has = by_gone left last other (is_gone s left) refl has

      by_last : (o : Option DocId) → place.last ≡ o → Has (kept_leaving s job.doc o) doc → IsKeptDoc t.documents t.places doc
      by_last None last has = stays has
      by_last (Some left) last has = by_same left last (left.0 == job.doc.0) refl has

  apart_then : AreApart (λ (doc : DocId). doc.0) (kept_leaving s job.doc place.last)
  apart_then = by_last place.last
    where
      taken : (l : List DocId) → AreApart (λ (doc : DocId). doc.0) l → AreApart (λ (doc : DocId). doc.0) (without_doc job.doc l)
      taken l apart = apart_filtered (λ (doc : DocId). doc.0) (λ (doc : DocId). not (doc.0 == job.doc.0)) l apart

      by_gone : (left : DocId) (b : Bool) → AreApart (λ (doc : DocId). doc.0) (cond b s.kept (left ∷ without_doc left s.kept))
      by_gone left true = are.apart
      by_gone left false = apart_in_front left s.kept are.apart

      by_same : (left : DocId) (b : Bool) → AreApart (λ (doc : DocId). doc.0) (cond b s.kept (without_doc job.doc (cond (is_gone s left) s.kept (left ∷ without_doc left s.kept))))
      by_same left true = are.apart
      by_same left false = taken (cond (is_gone s left) s.kept (left ∷ without_doc left s.kept)) (by_gone left (is_gone s left))

      by_last : (o : Option DocId) → AreApart (λ (doc : DocId). doc.0) (kept_leaving s job.doc o)
      by_last None = taken s.kept are.apart
      by_last (Some left) = by_same left (left.0 == job.doc.0)

  lasts_then : (nav : NavId) (p : Place) (doc : DocId) → place_of t nav ≡ Some p → p.last ≡ Some doc → IsMadeFor t.documents nav doc
  lasts_then nav p doc there last =
      by_which (last_then d.nav (activated job entry epoch d) job.doc (λ q. refl) (λ q. refl) asleep_then nav p doc (sym (ap (λ (l : List Place). place_in l nav) places_are) ∙ there) last)
    where
      by_back : (m : LastIs asleep_then nav (Some doc)) → (m.place.last ≡ None) ⊎ LastIs s.places nav m.place.last → IsMadeFor t.documents nav doc
      by_back m (inl none) = let no_ : None ≡ Some doc = sym none ∙ m.same in absurd cc
      by_back m (inr was) = made_again s.documents t.documents nav doc stay (are.lasts nav was.place doc was.found (was.same ∙ m.same))

      by_which : ((nav.0 ≡ d.nav.0) × (job.doc ≡ doc)) ⊎ LastIs asleep_then nav (Some doc) → IsMadeFor t.documents nav doc
      by_which (inl own) =
          subst (λ (x : DocId). IsMadeFor t.documents nav x) own.1 (made_again s.documents t.documents nav job.doc stay (record { d = d; found = found; nav_is = sym own.0; ready = ready }))
      by_which (inr m) = by_back m (sleep.back nav m.place m.found)

  -- all of it
  pub shown_kept : AreKeptDocs t
  shown_kept =
      record {
        each = λ doc has. kept_then doc (subst (λ (l : List DocId). Has l doc) kept_is has);
        apart = subst (λ (l : List DocId). AreApart (λ (doc : DocId). doc.0) l) (sym kept_is) apart_then;
        lasts = lasts_then;
      }
