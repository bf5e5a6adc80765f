-- A navigable is shown a document: what is on its way for each document stays, and for this one leads on from the new given entry; and where the epoch is new to it, only orders come after that leave what it shows.
use Rattle.std.proofs.Common.{◌≡◌, ℕ, Bool, true, false, cond, ◌==◌, List, [], length, Option, Some, None, refl, sym, ap, ◌∙◌, subst, arith}
use Rattle.std.specs.Prelude.{find, slice_get, option_map}
use Rattle.std.specs.Option.{option_map_or}
use Rattle.std.proofs.lemmas.Bool.Decides.{nat_tests}
use Rattle.tab_ids.specs.declared.DocId.{DocId}
use Rattle.tab_ids.specs.declared.EntryId.{EntryId}
use Rattle.tab_ids.specs.declared.Epoch.{Epoch}
use Rattle.tab_ids.specs.declared.NavId.{NavId}
use Rattle.log_model.specs.declared.job.Job.{Job}
use Rattle.log_model.specs.declared.job.Task.{Task}
use Rattle.log_model.specs.declared.job.Task.TheVariants as tasks
use Rattle.log_model.specs.declared.job.Why.{Why}
use Rattle.log_model.specs.declared.row.Row.{Row}
use Rattle.log_model.specs.declared.row_kind.Actor.{Actor}
use Rattle.log_model.specs.declared.row_kind.RowKind.TheVariants as rows
use Rattle.log_model.specs.History.{has_nav}
use Rattle.log_model.specs.Views.{View}
use Rattle.log_model.specs.Seen.{Seen, Document, Desk, Place, awake, asleep, document_of, desk_of, place_in, place_of}
use Rattle.log_model.specs.After.{after, on_document}
use Rattle.log_model.specs.AfterDocuments.{addressed, documents_sent}
use Rattle.log_model.specs.AfterPlaces.{on_place, put_to_sleep, activated, sleepers_below, places_sent}
use Rattle.log_model.specs.AfterRequests.{requests_sent}
use Rattle.log_model.proofs.Refl.{nat_eq_refl}
use Rattle.seen_laws.proofs.Keyed.{find_map, find_on_same, find_on_other, find_has}
use Rattle.seen_facts.specs.Coord.Leading.{is_live_order, orders_for, held_back, coming, pending_view, EachAwake, EachLeads, EachIsOfItsNavigable}
use Rattle.seen_facts.specs.Coord.Reaching.{Reaches, EachReaches}
use Rattle.seen_facts.proofs.Coord.Leadings.{doc_same, as_placed, IsOneChange, one_stays, LeadsIn, leads_again}
use Rattle.seen_facts.proofs.Coord.OneDocument.{leads_alike, mailed, mailed_other, activated_leads}
use Rattle.seen_facts.proofs.Coord.Kept.{IsSentHome, is_mine}
use Rattle.seen_facts.proofs.Coord.Reached.{NoneShows, mailed_elsewhere, shown_reaches}

-- ---- places once one is shown a document

-- a navigable that is awake where some were put to sleep was so before
pub still_awake : (navs : List NavId) (why : Why) (places : List Place) (nav : NavId) (place : Place) (at : DocId) → place_in (put_to_sleep navs why places) nav ≡ Some place → place.status ≡ awake at → place_in places nav ≡ Some place
still_awake navs why places nav place at there wakes = by_place (place_in places nav) refl
  where
    keeps : (p : Place) → (let q : Place = cond (has_nav navs p.nav) (record p { status = asleep; why = why }) p in q).nav.0 ≡ p.nav.0
    keeps p = by_test (has_nav navs p.nav)
      where
        by_test : (b : Bool) → (let q : Place = cond b (record p { status = asleep; why = why }) p in q).nav.0 ≡ p.nav.0
        by_test true = refl
        by_test false = refl

    mapped : place_in (put_to_sleep navs why places) nav ≡ option_map (λ (p : Place). let q : Place = cond (has_nav navs p.nav) (record p { status = asleep; why = why }) p in q) (place_in places nav)
    mapped = find_map (λ (p : Place). p.nav.0) (λ (p : Place). let q : Place = cond (has_nav navs p.nav) (record p { status = asleep; why = why }) p in q) nav.0 places keeps

    by_test : (p : Place) (b : Bool) → (let q : Place = cond b (record p { status = asleep; why = why }) p in q) ≡ place → place_in places nav ≡ Some p → place_in places nav ≡ Some place
    by_test p true same e =
        let no_ : asleep ≡ awake at = ap (λ (q : Place). q.status) same ∙ wakes in absurd cc
    by_test p false same e = e ∙ ap (λ (q : Place). let o : Option Place = Some q in o) same

    by_place : (o : Option Place) → place_in places nav ≡ o → place_in places nav ≡ Some place
    by_place None e =
        let no_ : None ≡ Some place = sym (mapped ∙ ap (λ (o : Option Place). option_map (λ (p : Place). let q : Place = cond (has_nav navs p.nav) (record p { status = asleep; why = why }) p in q) o) e) ∙ there in absurd cc
    by_place (Some p) e =
        let some : Some (let q : Place = cond (has_nav navs p.nav) (record p { status = asleep; why = why }) p in q) ≡ Some place = sym (mapped ∙ ap (λ (o : Option Place). option_map (λ (p : Place). let q : Place = cond (has_nav navs p.nav) (record p { status = asleep; why = why }) p in q) o) e) ∙ there in
        let same : (let q : Place = cond (has_nav navs p.nav) (record p { status = asleep; why = why }) p in q) ≡ place = cc in
        by_test p (has_nav navs p.nav) same e

-- the one that is shown the document is awake on it, under the new epoch and with the new given entry
shown_place : (job : Job) (entry : EntryId) (epoch : Epoch) (d : Document) (places : List Place) (nav : NavId) (place : Place) → (d.nav.0 == nav.0) ≡ true → place_in (on_place d.nav (activated job entry epoch d) places) nav ≡ Some place → (place.status ≡ awake job.doc) × (place.given ≡ Some entry) × (place.epoch ≡ epoch)
shown_place job entry epoch d places nav place here there = by_place (place_in places d.nav) refl
  where
    same_nav : d.nav ≡ nav
    same_nav = ap (λ (n : ℕ). let x : NavId = record { 0 = n } in x) (let same : d.nav.0 ≡ nav.0 = grind (arith, nat_tests, here) in same)

    found : place_in (on_place d.nav (activated job entry epoch d) places) d.nav ≡ option_map (activated job entry epoch d) (place_in places d.nav)
    found = find_on_same (λ (p : Place). p.nav.0) (activated job entry epoch d) d.nav.0 places (λ p. refl)

    at_nav : place_in (on_place d.nav (activated job entry epoch d) places) d.nav ≡ Some place
    at_nav = ap (λ (n : NavId). place_in (on_place d.nav (activated job entry epoch d) places) n) same_nav ∙ there

    by_place : (o : Option Place) → place_in places d.nav ≡ o → (place.status ≡ awake job.doc) × (place.given ≡ Some entry) × (place.epoch ≡ epoch)
    by_place None e =
        let no_ : None ≡ Some place = sym (found ∙ ap (λ (o : Option Place). option_map (activated job entry epoch d) o) e) ∙ at_nav in absurd cc
    by_place (Some p) e =
        let some : Some (activated job entry epoch d p) ≡ Some place = sym (found ∙ ap (λ (o : Option Place). option_map (activated job entry epoch d) o) e) ∙ at_nav in
        let same : activated job entry epoch d p ≡ place = cc in
        (ap (λ (q : Place). q.status) (sym same), ap (λ (q : Place). q.given) (sym same), ap (λ (q : Place). q.epoch) (sym same))

-- ---- the row

-- the document that is shown: it is there, its orders lead to a view, and nothing that it made under the new epoch is coming; each row with the entry shows what it is shown
pub record IsToBeShown (s : Seen) (job : Job) (d : Document) (view : View) (entry : EntryId) (epoch : Epoch) (memo : Option (List ℕ)) (address : List ℕ) : Type 0 where
  pub there : document_of s job.doc ≡ Some d
  pub pending : pending_view d (desk_of s job.proc) ≡ Some view
  pub none : coming (held_back s.requests s.parked) (desk_of s job.proc) d.nr epoch ≡ []
  pub shown : (i : ℕ) (row : Row) → slice_get s.history.rows i ≡ Some row → row.entry ≡ entry → (row.address ≡ address) × (row.memo ≡ memo)

module _ (s : Seen) (event : ℕ) (actor : Actor) (job : Job) (d : Document) (view : View) (entry : EntryId) (epoch : Epoch) (long at : ℕ) (memo : Option (List ℕ)) (address : List ℕ) (task : job.task ≡ tasks.Activate entry epoch long at memo address) (sent : IsSentHome s job) (is : IsToBeShown s job d view entry epoch memo address) (whose : EachIsOfItsNavigable s) (requests : held_back (requests_sent s job job.task s.requests) s.parked ≡ held_back s.requests s.parked) where
  abbrev after_show : Seen
  after_show = after s (record { event = event; actor = actor; row = rows.Sent job })

  abbrev sleeping : List Place
  sleeping = put_to_sleep (option_map_or (sleepers_below s job.doc) (place_of s d.nav) []) job.why s.places

  places_are : after_show.places ≡ on_place d.nav (activated job entry epoch d) sleeping
  places_are =
      ap (λ (t : Task). places_sent s job t) task
      ∙ ap (λ (o : Option Document). option_map_or (λ (d : Document). on_place d.nav (activated job entry epoch d) (put_to_sleep (option_map_or (sleepers_below s job.doc) (place_of s d.nav) []) job.why s.places)) o s.places) is.there

  others_stay : (nav : NavId) (place : Place) (doc : DocId) → place_of after_show nav ≡ Some place → place.status ≡ awake doc → (job.doc.0 == doc.0) ≡ false → place_of s nav ≡ Some place
  others_stay nav place doc placed wakes apart = by_nav (d.nav.0 == nav.0) refl
    where
      found : place_in (on_place d.nav (activated job entry epoch d) sleeping) nav ≡ Some place
      found = ap (λ (places : List Place). place_in places nav) (sym places_are) ∙ placed

      by_nav : (b : Bool) → (d.nav.0 == nav.0) ≡ b → place_of s nav ≡ Some place
      by_nav true e =
          let on_it : awake job.doc ≡ awake doc = sym (shown_place job entry epoch d sleeping nav place e found).0 ∙ wakes in
          let same : job.doc ≡ doc = cc in
          let yes : (job.doc.0 == doc.0) ≡ true = rw same (nat_eq_refl doc.0) in
          let no_ : true ≡ false = sym yes ∙ apart in absurd cc
      by_nav false e =
          still_awake (option_map_or (sleepers_below s job.doc) (place_of s d.nav) []) job.why s.places nav place doc (sym (find_on_other (λ (p : Place). p.nav.0) (activated job entry epoch d) d.nav.0 nav.0 sleeping (λ p. refl) e) ∙ found) wakes

  mine : is_live_order d.nr (length (desk_of s job.proc).killed) job ≡ true
  mine = is_mine d.nr (length (desk_of s job.proc).killed) job (sym (find_has (λ (x : Document). x.nr.0) job.doc.0 s.documents d is.there)) sent.lives

  -- only the navigable that is shown the document is awake on it: a fact of it is to hold under the new epoch, with the new given entry
  module _ (F : Desk → Document → Option EntryId → Epoch → Type 0) (here : F (mailed job (desk_of s job.proc)) (addressed job.task d) (Some entry) epoch) where
    own_holds : (nav : NavId) (place : Place) (old : Document) → place_of after_show nav ≡ Some place → place.status ≡ awake job.doc → document_of s job.doc ≡ Some old → F (mailed job (desk_of s job.proc)) (addressed job.task old) place.given place.epoch
    own_holds nav place old placed wakes there = by_nav (d.nav.0 == nav.0) refl
      where
        found : place_in (on_place d.nav (activated job entry epoch d) sleeping) nav ≡ Some place
        found = ap (λ (places : List Place). place_in places nav) (sym places_are) ∙ placed

        same_d : d ≡ old
        same_d = let some : Some d ≡ Some old = sym is.there ∙ there in cc

        by_nav : (b : Bool) → (d.nav.0 == nav.0) ≡ b → F (mailed job (desk_of s job.proc)) (addressed job.task old) place.given place.epoch
        by_nav true e =
            let shown = shown_place job entry epoch d sleeping nav place e found in
            subst (λ (x : Document). F (mailed job (desk_of s job.proc)) (addressed job.task x) place.given place.epoch) same_d
            (subst (λ (given : Option EntryId). F (mailed job (desk_of s job.proc)) (addressed job.task d) given place.epoch) (sym shown.1)
            (subst (λ (k : Epoch). F (mailed job (desk_of s job.proc)) (addressed job.task d) (Some entry) k) (sym shown.2) here))
        by_nav false e =
            let before : place_of s nav ≡ Some place = still_awake (option_map_or (sleepers_below s job.doc) (place_of s d.nav) []) job.why s.places nav place job.doc (sym (find_on_other (λ (p : Place). p.nav.0) (activated job entry epoch d) d.nav.0 nav.0 sleeping (λ p. refl) e) ∙ found) wakes in
            let yes : (d.nav.0 == nav.0) ≡ true = rw (whose nav place job.doc d before wakes is.there) (nat_eq_refl nav.0) in
            let no_ : true ≡ false = sym yes ∙ e in absurd cc

    show_change : ((x : Document) (given : Option EntryId) (epoch : Epoch) → (job.doc.0 == x.nr.0) ≡ false → F (desk_of s job.proc) x given epoch → F (mailed job (desk_of s job.proc)) x given epoch) → IsOneChange F s after_show job.proc (mailed job) job.doc (addressed job.task)
    show_change other =
        record {
          desks = refl;
          documents = ap (λ (t : Task). documents_sent s job t) task ∙ ap (λ (t : Task). on_document job.doc (addressed t) s.documents) (sym task);
          keeps_proc = λ desk. refl;
          keeps_number = λ d. refl;
          stays = λ d. refl;
          home = sent.home;
          own = own_holds;
          others = λ nav place at placed wakes apart. as_placed s nav place (others_stay nav place at placed wakes apart);
          other = other;
        }

    show_stays : ((x : Document) (given : Option EntryId) (epoch : Epoch) → (job.doc.0 == x.nr.0) ≡ false → F (desk_of s job.proc) x given epoch → F (mailed job (desk_of s job.proc)) x given epoch) → EachAwake F s → EachAwake F after_show
    show_stays other each =
        one_stays F s after_show job.proc (mailed job) job.doc (addressed job.task) (show_change other) each

  shown_leads : LeadsIn s (mailed job (desk_of s job.proc)) (addressed job.task d) (Some entry) epoch
  shown_leads = activated_leads s.history.rows (held_back s.requests s.parked) (desk_of s job.proc) d job view entry epoch long at memo address task mine is.pending is.none is.shown

  pub show_leads : EachLeads s → EachLeads after_show
  show_leads each =
      leads_again s after_show refl requests
      (show_stays (LeadsIn s) shown_leads (λ x given epoch_ apart leads. leads_alike s.history.rows (held_back s.requests s.parked) (desk_of s job.proc) (mailed job (desk_of s job.proc)) x x given epoch_ (mailed_other (held_back s.requests s.parked) (desk_of s job.proc) job x epoch_ apart) leads) each)

  -- the epoch is new to the document
  pub show_reaches : ((seen : View) → d.view ≡ Some seen → seen.epoch.0 ≡ epoch.0 → ⊥) → NoneShows epoch (orders_for (desk_of s job.proc) d.nr) → EachReaches s → EachReaches after_show
  show_reaches new none each =
      show_stays (λ desk x given k. Reaches desk x k) (shown_reaches (desk_of s job.proc) d job epoch mine new none) (λ x given k apart reaches. mailed_elsewhere (desk_of s job.proc) x job k apart reaches) each

  -- the document that is shown is of the navigable that is awake on it
  pub whose_shown : EachIsOfItsNavigable after_show
  whose_shown nav place doc x placed wakes found = by_nav (d.nav.0 == nav.0) refl
    where
      found_place : place_in (on_place d.nav (activated job entry epoch d) sleeping) nav ≡ Some place
      found_place = ap (λ (places : List Place). place_in places nav) (sym places_are) ∙ placed

      documents_are : after_show.documents ≡ on_document job.doc (addressed job.task) s.documents
      documents_are =
          ap (λ (t : Task). documents_sent s job t) task ∙ ap (λ (t : Task). on_document job.doc (addressed t) s.documents) (sym task)

      own : document_of after_show job.doc ≡ option_map (addressed job.task) (document_of s job.doc)
      own =
          ap (λ (docs : List Document). find (λ (y : Document). y.nr.0 == job.doc.0) docs) documents_are
          ∙ find_on_same (λ (y : Document). y.nr.0) (addressed job.task) job.doc.0 s.documents (λ y. refl)

      by_nav : (b : Bool) → (d.nav.0 == nav.0) ≡ b → x.nav.0 ≡ nav.0
      by_nav true e =
          let on_it : awake job.doc ≡ awake doc = sym (shown_place job entry epoch d sleeping nav place e found_place).0 ∙ wakes in
          let same : job.doc ≡ doc = cc in
          let it : Some (addressed job.task d) ≡ Some x = sym (own ∙ ap (λ (o : Option Document). option_map (addressed job.task) o) is.there) ∙ ap (λ (k : DocId). document_of after_show k) same ∙ found in
          let is_it : addressed job.task d ≡ x = cc in
          ap (λ (y : Document). y.nav.0) (sym is_it) ∙ (let n : d.nav.0 ≡ nav.0 = grind (arith, nat_tests, e) in n)
      by_nav false e = by_document (job.doc.0 == doc.0) refl
        where
          before : place_of s nav ≡ Some place
          before =
              still_awake (option_map_or (sleepers_below s job.doc) (place_of s d.nav) []) job.why s.places nav place doc (sym (find_on_other (λ (p : Place). p.nav.0) (activated job entry epoch d) d.nav.0 nav.0 sleeping (λ p. refl) e) ∙ found_place) wakes

          by_document : (b : Bool) → (job.doc.0 == doc.0) ≡ b → x.nav.0 ≡ nav.0
          by_document true same_ =
              let same : job.doc ≡ doc = doc_same job.doc doc same_ in
              let yes : (d.nav.0 == nav.0) ≡ true = rw (whose nav place doc d before wakes (ap (λ (k : DocId). document_of s k) (sym same) ∙ is.there)) (nat_eq_refl nav.0) in
              let no_ : true ≡ false = sym yes ∙ e in absurd cc
          by_document false apart =
              let old : document_of s doc ≡ Some x = sym (ap (λ (docs : List Document). find (λ (y : Document). y.nr.0 == doc.0) docs) documents_are ∙ find_on_other (λ (y : Document). y.nr.0) (addressed job.task) job.doc.0 doc.0 s.documents (λ y. refl) apart) ∙ found in
              whose nav place doc x before wakes old
