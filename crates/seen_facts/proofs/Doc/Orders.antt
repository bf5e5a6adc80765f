-- What is true of documents stays as an order is sent to one that is there: it is told something, frozen, discarded or shown.
use Rattle.std.proofs.Common.{◌≡◌, ◌⊎◌, inl, inr, ℕ, suc, Bool, true, false, cond, ◌||◌, ◌==◌, List, [], ◌∷◌, map, Option, Some, refl, sym, ap, ◌∙◌, subst, arith, eqb-true}
use Rattle.std.specs.Option.{option_map_or}
use Rattle.std.specs.Prelude.{option_map, slice_get}
use Rattle.tab_ids.specs.declared.DocId.{DocId}
use Rattle.tab_ids.specs.declared.EntryId.{EntryId}
use Rattle.tab_ids.specs.declared.Epoch.{Epoch}
use Rattle.tab_ids.specs.declared.NavId.{NavId}
use Rattle.tab_ids.specs.declared.ProcId.{ProcId}
use Rattle.log_model.specs.declared.job.Job.{Job}
use Rattle.log_model.specs.declared.job.Task.{Task}
use Rattle.log_model.specs.declared.job.Task.TheVariants as tasks
use Rattle.log_model.specs.declared.row_kind.Actor.{Actor}
use Rattle.log_model.specs.declared.row_kind.RowKind.TheVariants as rows
use Rattle.log_model.specs.After.{after, on_document}
use Rattle.log_model.specs.AfterDocuments.{addressed, documents_sent}
use Rattle.log_model.specs.AfterPlaces.{activated, on_place, places_sent, put_to_sleep, sleepers_below, sleepers_with, woken_below}
use Rattle.log_model.specs.History.{has_nav}
use Rattle.log_model.specs.Places.{is_awake_on}
use Rattle.log_model.specs.Seen.{Document, Place, Seen, Status, awake, asleep, lost, desk_of, document_of, place_in, place_of}
use Rattle.log_model.specs.Soundness.{IsSound}
use Rattle.log_model.proofs.Refl.{nat_eq_refl}
use Rattle.seen_facts.proofs.Coord.OneDocument.{mailed}
use Rattle.seen_facts.proofs.Desk.Stays.{ShowsNone, sent_at}
use Rattle.seen_facts.proofs.Entry.Parts.{WasOf, WasPlace, place_then, was_place}
use Rattle.seen_facts.proofs.Entry.Docs.{its_own}
use Rattle.seen_facts.proofs.Entry.Stays.{its_number}
use Rattle.seen_facts.specs.Hang.Hanging.{Hangs}
use Rattle.seen_facts.specs.Hang.Members.{Has}
use Rattle.seen_facts.proofs.Hang.Hung.{places_distinct}
use Rattle.seen_facts.proofs.Hang.Members.{find_has, has_found}
use Rattle.seen_facts.specs.Home.Homes.{AreHomed, IsHomed}
use Rattle.seen_laws.proofs.Keyed.{find_has as keyed_has}
use Rattle.seen_facts.proofs.Walk.Placed.{each_found}
use Rattle.seen_facts.specs.Doc.Docs.{AreDocs, AreThawed, IsLive, makes_at, makes_it}
use Rattle.seen_facts.proofs.Doc.Makes.{MakesNone, mailed_makes, makes_none, same_makes}
use Rattle.seen_facts.proofs.Doc.Awakes.{AllWereAwake, WasAwake, asleep_awake, awake_same, not_asleep}
use Rattle.seen_facts.proofs.Doc.Leaves.{KeepPlaces, KeepsDoc, kept_places, before_of, keeps_if, left_docs, once_alike, thawed_again}
use Rattle.seen_facts.proofs.Doc.Lives.{IsAsBefore, itself_as, live_as}

some_same : {A : Type 0} {a b : A} → (let o : Option A = Some a in o) ≡ Some b → a ≡ b
some_same e = cc

awake_on : (place : Place) (doc : DocId) → place.status ≡ awake doc → is_awake_on doc place ≡ true
awake_on place doc wakes = rw wakes (nat_eq_refl doc.0)

on_awake : (place : Place) (doc : DocId) → is_awake_on doc place ≡ true → place.status ≡ awake doc
on_awake place doc is = by_status place.status refl is
  where
    by_status : (st : Status) → place.status ≡ st → is_awake_on doc (record place { status = st }) ≡ true → place.status ≡ awake doc
    by_status (awake d) e h = e ∙ ap awake (ap (λ (n : ℕ). let x : DocId = record { 0 = n } in x) (eqb-true d.0 doc.0 h))
    by_status lost e h = absurd cc
    by_status asleep e h = absurd cc

awake_doc : (a b : DocId) → awake a ≡ awake b → a ≡ b
awake_doc a b same = cc

module _ (s : Seen) (event : ℕ) (actor : Actor) (are : AreDocs s) (job : Job) where
  abbrev pub sent : Seen
  sent = after s (record { event = event; actor = actor; row = rows.Sent job })

  makes : MakesNone job.task → (n : DocId) (p : ProcId) → makes_at n (desk_of sent p) ≡ makes_at n (desk_of s p)
  makes none =
      same_makes s sent job.proc (mailed job) refl (λ desk. refl) (λ doc. mailed_makes doc job (desk_of s job.proc) ∙ (let zero : makes_it doc job ≡ 0 = makes_none doc job none in omega (arith, zero)))

  -- the order changes its document so
  module _ (f : Document → Document) (as_before : (d : Document) → IsAsBefore d (f d)) (keeps : KeepsDoc f) (none : MakesNone job.task) (documents : sent.documents ≡ on_document job.doc f s.documents) where
    abbrev at_doc : Document → Document
    at_doc d = cond (d.nr.0 == job.doc.0) (f d) d

    as_doc : (d : Document) (b : Bool) → IsAsBefore d (cond b (f d) d)
    as_doc d true = as_before d
    as_doc d false = itself_as d

    addressed_docs : KeepPlaces s.places sent.places → AreThawed sent → AreDocs sent
    addressed_docs places thawed =
        left_docs s sent (record {
          g = at_doc;
          keeps = keeps_if (λ (d : Document). d.nr.0 == job.doc.0) f keeps;
          documents = documents;
          live = λ doc d found is. live_as d (at_doc d) (as_doc d (d.nr.0 == job.doc.0)) is;
          places = places;
          once = λ doc d found is. once_alike (desk_of s d.proc) (desk_of sent d.proc) d (at_doc d) (as_doc d (d.nr.0 == job.doc.0)).nr (as_doc d (d.nr.0 == job.doc.0)).ready (λ n. makes none n d.proc) is;
          thawed = thawed;
        }) are

  told_as : (task : Task) (d : Document) → IsAsBefore d (addressed task d)
  told_as task d = record { nr = refl; incarnation = refl; slot = refl; lives = refl; unknown = refl; view = refl; ready = refl; discarded = refl }

  told_keeps : (task : Task) → KeepsDoc (addressed task)
  told_keeps task = record { nr = λ d. refl; nav = λ d. refl; state = λ d. refl; proc = λ d. refl; discarded = λ d e. e }

  -- ---- it is told something

  -- an order that tells a document something, or asks it
  abbrev pub OnlyTells : Task → Type 0
  OnlyTells (tasks.Update length index) = Unit {0}
  OnlyTells (tasks.Ask slot cause) = Unit {0}
  OnlyTells (tasks.DoFragment req mode address) = Unit {0}
  OnlyTells _ = ⊥

  tells_frozen : (task : Task) → OnlyTells task → (d : Document) → (addressed task d).is_frozen ≡ d.is_frozen
  tells_frozen (tasks.Update length index) tells d = refl
  tells_frozen (tasks.Ask slot cause) tells d = refl
  tells_frozen (tasks.DoFragment req mode address) tells d = refl
  tells_frozen (tasks.Populate nav state address initial) never d = absurd never
  tells_frozen (tasks.Activate entry epoch length index memo address) never d = absurd never
  tells_frozen tasks.Freeze never d = absurd never
  tells_frozen tasks.Discard never d = absurd never

  told_so : (task : Task) → job.task ≡ task → OnlyTells task → MakesNone task → documents_sent s job task ≡ on_document job.doc (addressed task) s.documents → places_sent s job task ≡ s.places → AreDocs sent
  told_so task is tells none documents places =
      addressed_docs (addressed task) (told_as task) (told_keeps task) (subst (λ (t : Task). MakesNone t) (sym is) none) documents_are
      (subst (λ (l : List Place). KeepPlaces s.places l) (sym places_are) (λ nav has. has))
      (thawed_again s sent (λ (d : Document). cond (d.nr.0 == job.doc.0) (addressed task d) d) (keeps_if (λ (d : Document). d.nr.0 == job.doc.0) (addressed task) (told_keeps task)) documents_are
      (λ d. elim (d.nr.0 == job.doc.0) as (λ b. (let x : Document = cond b (addressed task d) d in x).is_frozen ≡ d.is_frozen) [ true ↦ tells_frozen task tells d | false ↦ refl ])
      (subst (λ (l : List Place). AllWereAwake s.places l) (sym places_are) (awake_same s.places)) are.thawed)
    where
      documents_are : sent.documents ≡ on_document job.doc (addressed task) s.documents
      documents_are = ap (λ (t : Task). documents_sent s job t) is ∙ documents

      places_are : sent.places ≡ s.places
      places_are = ap (λ (t : Task). places_sent s job t) is ∙ places

  pub told_docs : OnlyTells job.task → AreDocs sent
  told_docs tells = by_task job.task refl tells
    where
      by_task : (task : Task) → job.task ≡ task → OnlyTells task → AreDocs sent
      by_task (tasks.Update length index) is tells_ = told_so (tasks.Update length index) is tt tt refl refl
      by_task (tasks.Ask slot cause) is tells_ = told_so (tasks.Ask slot cause) is tt tt refl refl
      by_task (tasks.DoFragment req mode address) is tells_ = told_so (tasks.DoFragment req mode address) is tt tt refl refl
      by_task (tasks.Populate nav state address initial) is never = absurd never
      by_task (tasks.Activate entry epoch length index memo address) is never = absurd never
      by_task tasks.Freeze is never = absurd never
      by_task tasks.Discard is never = absurd never

  -- ---- it is discarded, once it was made

  pub discarded_docs : job.task ≡ tasks.Discard → ((d : Document) → document_of s job.doc ≡ Some d → d.is_ready ≡ true) → AreDocs sent
  discarded_docs task ready =
      left_docs s sent (record {
        g = at_gone;
        keeps = gone_keeps;
        documents = documents_are;
        live = λ doc d found is. by_doc doc d found (d.nr.0 == job.doc.0) refl is;
        places = kept_places s.places sent.places (sent_at s job job.task (subst (λ (t : Task). ShowsNone t) (sym task) tt));
        once = λ doc d found is. once_alike (desk_of s d.proc) (desk_of sent d.proc) d (at_gone d) (gone_keeps.nr d) (gone_ready d (d.nr.0 == job.doc.0)) (λ n. makes (subst (λ (t : Task). MakesNone t) (sym task) tt) n d.proc) is;
        thawed = thawed_again s sent at_gone gone_keeps documents_are (λ d. gone_frozen d (d.nr.0 == job.doc.0)) (subst (λ (l : List Place). AllWereAwake s.places l) (sym places_are) (asleep_awake (sleepers_with s job.doc) job.why s.places)) are.thawed;
      }) are
    where
      gone : Document → Document
      gone d = record d { is_discarded = true }

      at_gone : Document → Document
      at_gone d = cond (d.nr.0 == job.doc.0) (gone d) d

      gone_keeps : KeepsDoc at_gone
      gone_keeps =
          keeps_if (λ (d : Document). d.nr.0 == job.doc.0) gone (record { nr = λ d. refl; nav = λ d. refl; state = λ d. refl; proc = λ d. refl; discarded = λ d never. cc })

      documents_are : sent.documents ≡ map at_gone s.documents
      documents_are = ap (λ (t : Task). documents_sent s job t) task

      places_are : sent.places ≡ put_to_sleep (sleepers_with s job.doc) job.why s.places
      places_are = ap (λ (t : Task). places_sent s job t) task

      by_doc : (doc : DocId) (d : Document) → document_of s doc ≡ Some d → (b : Bool) → (d.nr.0 == job.doc.0) ≡ b → IsLive d → IsLive (cond b (gone d) d)
      by_doc doc d found false e is = is
      by_doc doc d found true e is =
          record { incarnation = is.incarnation; slot = is.slot; lives = is.lives; unknown = is.unknown; viewed = is.viewed; unmade = is.unmade; made = λ gone_. ready d (its_own s.documents doc job.doc d found e) }

      gone_ready : (d : Document) (b : Bool) → (let x : Document = cond b (gone d) d in x).is_ready ≡ d.is_ready
      gone_ready d true = refl
      gone_ready d false = refl

      gone_frozen : (d : Document) (b : Bool) → (let x : Document = cond b (gone d) d in x).is_frozen ≡ d.is_frozen
      gone_frozen d true = refl
      gone_frozen d false = refl

  -- ---- it is frozen

  module _ (sound : IsSound s.history) (hangs : Hangs s) (homes : AreHomed s) where
    -- who is awake on it falls asleep
    none_on_it : (nav : NavId) (place : Place) → place_of s nav ≡ Some place → place.status ≡ awake job.doc → has_nav (sleepers_with s job.doc) place.nav ≡ true
    none_on_it nav place found wakes =
        let some = has_found (is_awake_on job.doc) s.places place (find_has (λ (p : Place). p.nav.0 == nav.0) s.places place found).0 (awake_on place job.doc wakes) in
        let h = find_has (is_awake_on job.doc) s.places some.0 some.1 in
        let at = index_of s.places some.0 h.0 in
        let there : place_of s some.0.nav ≡ Some some.0 = each_found s.places (places_distinct s sound hangs) at.0 some.0 at.1 in
        let one : IsHomed s.documents place job.doc = homes.homed nav place job.doc found wakes in
        let two : IsHomed s.documents some.0 job.doc = homes.homed some.0.nav some.0 job.doc there (on_awake some.0 job.doc h.1) in
        let doc : one.home.document ≡ two.home.document = some_same (sym one.home.found ∙ two.home.found) in
        let navs : some.0.nav ≡ place.nav = sym two.home.nav_is ∙ ap (λ (d : Document). d.nav) (sym doc) ∙ one.home.nav_is in
        ap (λ (o : Option Place). has_nav (option_map_or (λ (p : Place). p.nav ∷ woken_below s p.nav) o []) place.nav) some.1
        ∙ ap (λ (n : NavId). (n.0 == place.nav.0) || has_nav (woken_below s some.0.nav) place.nav) navs
        ∙ rw (nat_eq_refl place.nav.0) refl
      where
        index_of : (l : List Place) (p : Place) → Has l p → (i : ℕ) × (slice_get l i ≡ Some p)
        index_of [] p h = absurd h
        index_of (q ∷ l) p (inl same) = (0, ap (λ (x : Place). Some x) same)
        index_of (q ∷ l) p (inr more) = let m = index_of l p more in (suc m.0, m.1)

    module _ (task : job.task ≡ tasks.Freeze) where
      abbrev frozen_at : Document → Document
      frozen_at d = cond (d.nr.0 == job.doc.0) (addressed tasks.Freeze d) d

      frozen_keeps : KeepsDoc frozen_at
      frozen_keeps = keeps_if (λ (x : Document). x.nr.0 == job.doc.0) (addressed tasks.Freeze) (told_keeps tasks.Freeze)

      frozen_documents : sent.documents ≡ map frozen_at s.documents
      frozen_documents = ap (λ (t : Task). documents_sent s job t) task

      frozen_places : sent.places ≡ put_to_sleep (sleepers_with s job.doc) job.why s.places
      frozen_places = ap (λ (t : Task). places_sent s job t) task

      slept : (nav : NavId) (place : Place) → place_of sent nav ≡ Some place → place_in (put_to_sleep (sleepers_with s job.doc) job.why s.places) nav ≡ Some place
      slept nav place there = ap (λ (l : List Place). place_in l nav) (sym frozen_places) ∙ there

      was : (nav : NavId) (place : Place) (doc : DocId) → place_of sent nav ≡ Some place → place.status ≡ awake doc → WasAwake s.places nav doc
      was nav place doc there wakes =
          asleep_awake (sleepers_with s job.doc) job.why s.places nav place doc (slept nav place there) wakes

      -- who is awake still is so on another document
      another : (nav : NavId) (place : Place) (doc : DocId) → place_of sent nav ≡ Some place → place.status ≡ awake doc → (doc.0 == job.doc.0) ≡ false
      another nav place doc there wakes = by_test (doc.0 == job.doc.0) refl
        where
          by_test : (b : Bool) → (doc.0 == job.doc.0) ≡ b → (doc.0 == job.doc.0) ≡ false
          by_test false e = e
          by_test true e =
              let same : doc ≡ job.doc = ap (λ (n : ℕ). let x : DocId = record { 0 = n } in x) (eqb-true doc.0 job.doc.0 e) in
              let w = was nav place doc there wakes in
              let sleeps : has_nav (sleepers_with s job.doc) w.before.nav ≡ true = none_on_it nav w.before w.there (w.wakes ∙ ap awake same) in
              let one : w.before.nav.0 ≡ nav.0 = keyed_has (λ (p : Place). p.nav.0) nav.0 s.places w.before w.there in
              let two : place.nav.0 ≡ nav.0 = keyed_has (λ (p : Place). p.nav.0) nav.0 sent.places place there in
              let navs : w.before.nav ≡ place.nav = ap (λ (n : ℕ). let x : NavId = record { 0 = n } in x) (one ∙ sym two) in
              let stays : has_nav (sleepers_with s job.doc) place.nav ≡ false = not_asleep (sleepers_with s job.doc) job.why s.places nav place doc (slept nav place there) wakes in
              let never : true ≡ false = sym sleeps ∙ ap (λ (n : NavId). has_nav (sleepers_with s job.doc) n) navs ∙ stays in
              cc

      still_thawed : AreThawed sent
      still_thawed nav place doc d there wakes found =
          let w = was nav place doc there wakes in
          let b = before_of s sent frozen_at frozen_keeps frozen_documents doc d found in
          let number : b.before.nr.0 ≡ doc.0 = its_number s.documents doc b.before b.there in
          let apart : (b.before.nr.0 == job.doc.0) ≡ false = ap (λ (n : ℕ). n == job.doc.0) number ∙ another nav place doc there wakes in
          ap (λ (x : Document). x.is_frozen) (sym b.is)
          ∙ ap (λ (c : Bool). (let x : Document = cond c (addressed tasks.Freeze b.before) b.before in x).is_frozen) apart
          ∙ are.thawed nav w.before doc b.before w.there w.wakes b.there

      pub frozen_docs : AreDocs sent
      frozen_docs =
          addressed_docs (addressed tasks.Freeze) (told_as tasks.Freeze) (told_keeps tasks.Freeze) (subst (λ (t : Task). MakesNone t) (sym task) tt) frozen_documents (kept_places s.places sent.places (sent_at s job job.task (subst (λ (t : Task). ShowsNone t) (sym task) tt))) still_thawed

  -- ---- it is shown

  module _ (d : Document) (found : document_of s job.doc ≡ Some d) (entry : EntryId) (epoch : Epoch) (long at : ℕ) (memo : Option (List ℕ)) (address : List ℕ) (task : job.task ≡ tasks.Activate entry epoch long at memo address) where
    abbrev show_task : Task
    show_task = tasks.Activate entry epoch long at memo address

    abbrev shown_at : Document → Document
    shown_at x = cond (x.nr.0 == job.doc.0) (addressed show_task x) x

    shown_keeps : KeepsDoc shown_at
    shown_keeps = keeps_if (λ (x : Document). x.nr.0 == job.doc.0) (addressed show_task) (told_keeps show_task)

    shown_documents : sent.documents ≡ map shown_at s.documents
    shown_documents = ap (λ (t : Task). documents_sent s job t) task

    abbrev below : List NavId
    below = option_map_or (sleepers_below s job.doc) (place_of s d.nav) []

    abbrev show : Place → Place
    show p = cond (p.nav.0 == d.nav.0) (activated job entry epoch d p) p

    shown_places : sent.places ≡ map show (put_to_sleep below job.why s.places)
    shown_places =
        ap (λ (t : Task). places_sent s job t) task
        ∙ ap (λ (o : Option Document). option_map_or (λ (x : Document). on_place x.nav (activated job entry epoch x) (put_to_sleep (option_map_or (sleepers_below s job.doc) (place_of s x.nav) []) job.why s.places)) o s.places) found

    show_nav : (p : Place) → (show p).nav ≡ p.nav
    show_nav p = elim (p.nav.0 == d.nav.0) as (λ b. (let x : Place = cond b (activated job entry epoch d p) p in x).nav ≡ p.nav) [ true ↦ refl | false ↦ refl ]

    -- who is awake is so on it, or was so before
    shown_or : (nav : NavId) (place : Place) (doc : DocId) → place_of sent nav ≡ Some place → place.status ≡ awake doc → (job.doc ≡ doc) ⊎ WasAwake s.places nav doc
    shown_or nav place doc there wakes = by_test (w.before.nav.0 == d.nav.0) refl
      where
        w : WasPlace (put_to_sleep below job.why s.places) show nav place
        w =
            was_place (put_to_sleep below job.why s.places) show show_nav nav place (ap (λ (l : List Place). place_in l nav) (sym shown_places) ∙ there)

        by_test : (b : Bool) → (w.before.nav.0 == d.nav.0) ≡ b → (job.doc ≡ doc) ⊎ WasAwake s.places nav doc
        by_test true e =
            let is : awake job.doc ≡ awake doc = ap (λ (b : Bool). (let x : Place = cond b (activated job entry epoch d w.before) w.before in x).status) (sym e) ∙ ap (λ (p : Place). p.status) w.is ∙ wakes in
            inl (awake_doc job.doc doc is)
        by_test false e =
            let is : w.before.status ≡ awake doc = ap (λ (b : Bool). (let x : Place = cond b (activated job entry epoch d w.before) w.before in x).status) (sym e) ∙ ap (λ (p : Place). p.status) w.is ∙ wakes in
            inr (asleep_awake below job.why s.places nav w.before doc w.there is)

    shown_thawed : AreThawed sent
    shown_thawed nav place doc x there wakes at_ =
        by_case (shown_or nav place doc there wakes)
      where
        b : WasOf s.documents shown_at doc x
        b = before_of s sent shown_at shown_keeps shown_documents doc x at_

        number : b.before.nr.0 ≡ doc.0
        number = its_number s.documents doc b.before b.there

        by_test : (c : Bool) → b.before.is_frozen ≡ false ⊎ (c ≡ true) → (let y : Document = cond c (addressed show_task b.before) b.before in y).is_frozen ≡ false
        by_test true e = refl
        by_test false (inl e) = e
        by_test false (inr never) = cc

        by_case : (job.doc ≡ doc) ⊎ WasAwake s.places nav doc → x.is_frozen ≡ false
        by_case (inl same) =
            let own : (b.before.nr.0 == job.doc.0) ≡ true = ap (λ (n : ℕ). n == job.doc.0) (number ∙ ap (λ (y : DocId). y.0) (sym same)) ∙ nat_eq_refl job.doc.0 in
            ap (λ (y : Document). y.is_frozen) (sym b.is) ∙ by_test (b.before.nr.0 == job.doc.0) (inr own)
        by_case (inr w) =
            ap (λ (y : Document). y.is_frozen) (sym b.is) ∙ by_test (b.before.nr.0 == job.doc.0) (inl (are.thawed nav w.before doc b.before w.there w.wakes b.there))

    -- places stay
    shown_kept : KeepPlaces s.places sent.places
    shown_kept nav has =
        record { place = show (sleeps has.place); found = ap (λ (l : List Place). place_in l nav) shown_places ∙ place_then (put_to_sleep below job.why s.places) show show_nav nav ∙ ap (λ (o : Option Place). option_map show o) (place_then s.places sleeps sleeps_nav nav ∙ ap (λ (o : Option Place). option_map sleeps o) has.found) }
      where
        sleeps : Place → Place
        sleeps p = cond (has_nav below p.nav) (record p { status = asleep; why = job.why }) p

        sleeps_nav : (p : Place) → (sleeps p).nav ≡ p.nav
        sleeps_nav p = elim (has_nav below p.nav) as (λ b. (let x : Place = cond b (record p { status = asleep; why = job.why }) p in x).nav ≡ p.nav) [ true ↦ refl | false ↦ refl ]

    pub shown_docs : AreDocs sent
    shown_docs =
        addressed_docs (addressed show_task) (told_as show_task) (told_keeps show_task) (subst (λ (t : Task). MakesNone t) (sym task) tt) shown_documents shown_kept shown_thawed
