-- What a document made is applied, a push or a replace: its entry is new and later than each that was applied of the document, its navigable is given it, and what leads on where documents are shown does so then.
use Rattle.seen_facts.proofs.Coord.Applied.{WereThere}
use Rattle.seen_facts.proofs.Coord.EachDocuments.{HadEpoch}
use Rattle.seen_facts.proofs.Coord.Given.{WasGiven, was_given}
use Rattle.seen_facts.proofs.Coord.TakenUp.{IsItsChange}
use Rattle.seen_facts.proofs.Coord.Unread.{next}
use Rattle.seen_facts.specs.Coord.Leading.{Face, face_after, is_live_order, is_push, once_finished, orders_of_desk, pending_view}
use Rattle.seen_facts.specs.Doc.Docs.{makes_at, makes_by, makes_due, makes_it, makes_sent}
use Rattle.seen_facts.specs.Each.Items.{Each}
use Rattle.seen_facts.specs.Each.Mades.{Ascend, IsNext, entry_after}
use Rattle.seen_facts.specs.Each.Runs.{is_this}
use Rattle.seen_facts.proofs.Entry.Firsts.{IsFirstOf, each_parts, first_with, own_first}
use Rattle.seen_facts.proofs.Entry.Skips.{without_made}
use Rattle.seen_facts.proofs.Entry.Stays.{its_number, some_same}
use Rattle.seen_facts.proofs.Entry.Takings.{IsToTake}
use Rattle.seen_facts.specs.Entry.Entries.{IsItsOwn, IsMadeThere, IsNumbered, mades_of, untaken, untold, waiting}
use Rattle.tab_facts.proofs.FrameWhole.Entries.{IsNewRow, by_own, turned}
use Rattle.tab_facts.specs.FrameWhole.Untold.{FlowsIf, LeadsIf}
use Rattle.seen_facts.proofs.Hang.Forms.{nav_is}
use Rattle.seen_facts.proofs.Hang.Members.{slice_has}
use Rattle.seen_facts.specs.Hang.Members.{Has}
use Rattle.seen_facts.proofs.Home.Changed.{IsNewGiven}
use Rattle.seen_facts.specs.Home.Homes.{IsHomed, document_in}
use Rattle.seen_facts.proofs.Load.Changes.{IsOthersFree, document_free}
use Rattle.log_model.proofs.Refl.{nat_eq_refl}
use Rattle.log_model.specs.AfterDocuments.{view_finished}
use Rattle.log_model.specs.AfterPlaces.{given_entry, on_place, with_taker}
use Rattle.log_model.specs.History.{applied, fits, has_row}
use Rattle.log_model.specs.Seen.{Asked, Desk, Document, Place, Seen, awake, desk_of, document_of, place_in, place_of, request_of}
use Rattle.log_model.specs.Views.{View}
use Rattle.log_model.specs.declared.change.Change.{Change}
use Rattle.log_model.specs.declared.job.Job.{Job}
use Rattle.log_model.specs.declared.job.Task.{Task}
use Rattle.log_model.specs.declared.job.Task.TheVariants as tasks
use Rattle.log_model.specs.declared.made.Made.{Made}
use Rattle.log_model.specs.declared.row.Row.{Row}
use Rattle.log_model.specs.declared.row_kind.Actor.{Actor}
use Rattle.log_model.specs.declared.row_kind.RowKind.TheVariants as rows
use Rattle.seen_facts.proofs.Place.Changes.{IsToGive}
use Rattle.seen_facts.specs.Place.Standing.{IsShownOnce, IsStanding}
use Rattle.seen_facts.proofs.Rest.Stands.{get_of}
use Rattle.std.proofs.Common.{Bool, List, None, Option, Some, [], ap, arith, cond, false, fold, inl, inr, length, refl, subst, suc, sym, true, zero, ℕ, ◌&&◌, ◌<◌, ◌==◌, ◌∙◌, ◌∷◌, ◌≡◌, ◌≤◌, ◌⊎◌}
use Rattle.std.proofs.lemmas.Bool.{eqb-true}
use Rattle.std.specs.Prelude.{filter, if◌then◌else◌, is_some, option_and_then, slice_get}
use Rattle.tab_ids.specs.declared.DocId.{DocId}
use Rattle.tab_ids.specs.declared.EntryId.{EntryId}
use Rattle.tab_ids.specs.declared.Epoch.{Epoch}
use Rattle.tab_ids.specs.declared.NavId.{NavId}
use Rattle.tab_ids.specs.declared.ReqId.{ReqId}
use Rattle.tab_facts.proofs.TabWhole.FlowsTaken.{IsTakenUp, ShowsFace, WasTaken, taken_if}
use Rattle.tab_facts.proofs.TabWhole.Where.{IsCarried}
use Rattle.tab_facts.specs.TabWhole.Tab.{IsTab}

-- what is known of what a document made, and of its change
pub record IsToTakeUp (run : Option ReqId) (loads : List ReqId) (hand : List Made) (s : Seen) (event : ℕ) (actor : Actor) (req : ReqId) (made : Made) (d : Document) (change : Change) : Type 0 where
  -- its request has no outcome, isn't the traversal that runs, and is at a place that is no desk
  pub q : Asked
  pub there : request_of s req ≡ Some q
  pub makes : q.made ≡ Some made
  pub unended : q.ending ≡ None
  pub other : is_this run req ≡ false
  pub carried : IsCarried loads hand s req
  -- its document is shown in its navigable under the epoch in which it was made
  pub found : document_of s made.doc ≡ Some d
  pub place : Place
  pub placed : place_of s d.nav ≡ Some place
  pub wakes : place.status ≡ awake made.doc
  pub under : (made.epoch.0 == place.epoch.0) ≡ true
  -- it waits first of all that the document made
  pub list : IsFirstOf (waiting s hand) made (waiting (next s event actor (rows.Applied req change)) (without_made req hand))
  -- its change fits
  pub fit : fits s.history change ≡ true

-- the change brings a row of its new entry, which shows what the document shows then, and changes no other document
pub record IsItsEntry (s : Seen) (made : Made) (d : Document) (change : Change) (entry : EntryId) (memo : Option (List ℕ)) (address : List ℕ) (f : Document → Document) : Type 0 where
  -- the entry
  pub after_ : (old : EntryId) → entry_after old made.what ≡ entry
  pub face : (face : Face) → face_after face made ≡ record { entry = entry; address = address; memo = memo }
  pub maker : IsItsOwn made.doc made.what → entry.maker ≡ made.doc.0
  pub later : (from : ℕ) → IsNext from made.what → from < entry.nr
  -- the rows
  pub has : has_row d.nav s.history.rows ≡ true
  pub had : (nav : NavId) → has_row nav (applied s.history change).rows ≡ true → has_row nav s.history.rows ≡ true
  pub rows_are : (row : Row) → Has (applied s.history change).rows row → Has s.history.rows row ⊎ IsNewRow d entry address memo row
  -- the places and the documents
  pub its : entry.maker ≡ made.doc.0 → IsItsChange made d.nav entry change f
  pub nav : (x : Document) → (f x).nav ≡ x.nav
  pub told : is_push made ≡ false → (x : Document) → (f x).told ≡ x.told
  pub push_told : is_push made ≡ true → (x : Document) → (f x).told ≡ None

-- ---- a document without a view gets none from orders that don't make it

none_done : (d : Document) (task : Task) → d.view ≡ None → makes_by true task ≡ 0 → view_finished d task ≡ None
none_done d (tasks.Populate nav state address initial) none once = absurd (let never : 1 ≡ 0 = once in omega (arith, never))
none_done d (tasks.Activate entry epoch length index memo address) none once = rw none refl
none_done d (tasks.Update length index) none once = rw none refl
none_done d tasks.Freeze none once = rw none refl
none_done d tasks.Discard none once = refl
none_done d (tasks.Ask slot cause) none once = rw none refl
none_done d (tasks.DoFragment req mode address) none once = none

no_view : (d : Document) (doc : DocId) (incarnation : ℕ) (jobs : List Job) → d.view ≡ None → makes_sent doc jobs ≡ 0 → (fold once_finished d (filter (is_live_order doc incarnation) jobs)).view ≡ None
no_view d doc incarnation [] none once = none
no_view d doc incarnation (job ∷ jobs) none once =
    by_test (job.doc.0 == doc.0) (job.incarnation == incarnation) refl (λ x h. no_view x doc incarnation jobs h (omega (arith, once)))
  where
    by_test : (a b : Bool) → (job.doc.0 == doc.0) ≡ a → ((x : Document) → x.view ≡ None → (fold once_finished x (filter (is_live_order doc incarnation) jobs)).view ≡ None) → (fold once_finished d (cond (a && b) (job ∷ filter (is_live_order doc incarnation) jobs) (filter (is_live_order doc incarnation) jobs))).view ≡ None
    by_test true true e more =
        let first : makes_it doc job ≡ 0 = omega (arith, once) in
        more (once_finished d job) (none_done d job.task none (sym (ap (λ (b : Bool). makes_by b job.task) e) ∙ first))
    by_test true false e more = more d none
    by_test false b e more = more d none

-- the document's view
record HasView (d : Document) : Type 0 where
  view : View
  has : d.view ≡ Some view

module _ (run : Option ReqId) (loads : List ReqId) (hand : List Made) (s : Seen) (event : ℕ) (actor : Actor) (tab : IsTab run loads hand s) (req : ReqId) (made : Made) (d : Document) (change : Change) (up : IsToTakeUp run loads hand s event actor req made d change) where
  abbrev t : Seen
  t = next s event actor (rows.Applied req change)

  abbrev rest : List Made
  rest = without_made req hand

  number : d.nr.0 ≡ made.doc.0
  number = its_number s.documents made.doc d up.found

  number_is : d.nr ≡ made.doc
  number_is = ap (λ (n : ℕ). let x : DocId = record { 0 = n } in x) number

  -- it waits, so its entry is the document's
  own : IsItsOwn made.doc made.what
  own =
      let all = each_parts (IsMadeThere s.documents) up.list.before made up.list.later (subst (λ (l : List Made). Each (IsMadeThere s.documents) l) up.list.whole tab.entries.waits) in
      all.0.own

  -- its navigable was given an entry
  pub shown_once : IsShownOnce up.place
  shown_once = (let is : IsStanding s up.place = tab.standing d.nav up.place up.placed in is.told.1 (is.shown made.doc up.wakes))

  homed : IsHomed s.documents up.place made.doc
  homed = tab.homes.homed d.nav up.place made.doc up.placed up.wakes

  ready : d.is_ready ≡ true
  ready =
      let same : homed.home.document ≡ d = some_same (sym homed.home.found ∙ up.found) in
      ap (λ (x : Document). x.is_ready) (sym same) ∙ homed.home.ready

  -- ---- it is the document's next

  unsent : makes_sent d.nr (orders_of_desk (desk_of s d.proc)) ≡ 0
  unsent =
      let once : makes_at d.nr (desk_of s d.proc) ≡ 0 = (tab.docs.each made.doc d up.found).once ∙ ap makes_due ready in omega (arith, once)

  has_view : has_row d.nav s.history.rows ≡ true → HasView d
  has_view has = by_view d.view refl
    where
      led : LeadsIf s.history.rows (waiting s hand) (desk_of s d.proc) d up.place.given up.place.epoch
      led = tab.flows.leads d.nav up.place made.doc d up.placed up.wakes up.found has

      by_view : (o : Option View) → d.view ≡ o → HasView d
      by_view (Some view) e = record { view = view; has = e }
      by_view None e =
          let gone : pending_view d (desk_of s d.proc) ≡ None = no_view d d.nr (length (desk_of s d.proc).killed) (orders_of_desk (desk_of s d.proc)) e unsent in
          let never : None ≡ Some led.view = sym gone ∙ led.pending in absurd cc

  its_next : has_row d.nav s.history.rows ≡ true → IsNext d.last_applied made.what
  its_next has =
      let v : HasView d = has_view has in
      let all : Ascend d.last_applied (untaken (waiting s hand) desk d.nr) v.view.numbered = tab.entries.ascends made.doc d up.found v.view v.has in
      let own_ : Ascend d.last_applied (untaken (waiting s hand) desk made.doc) v.view.numbered = subst (λ (n : DocId). Ascend d.last_applied (untaken (waiting s hand) desk n) v.view.numbered) number_is all in
      (subst (λ (l : List Made). Ascend d.last_applied l v.view.numbered) front own_).0
    where
      desk : Desk
      desk = desk_of s d.proc

      front : untaken (waiting s hand) (desk_of s d.proc) made.doc ≡ made ∷ untaken (waiting t rest) (desk_of s d.proc) made.doc
      front =
          own_first (untold (waiting s hand) (desk_of s d.proc)) made (untold (waiting t rest) (desk_of s d.proc))
          (first_with (waiting s hand) made (waiting t rest) (mades_of (desk_of s d.proc)) up.list)

  to_take : has_row d.nav s.history.rows ≡ true → IsToTake hand rest s t req made d
  to_take has =
      record {
        makes = ap (λ (o : Option Asked). option_and_then (λ (x : Asked). x.made) o) up.there ∙ up.makes;
        found = up.found;
        place = up.place;
        placed = up.placed;
        wakes = up.wakes;
        under = up.under;
        gave = shown_once.entry;
        given = shown_once.given;
        next_ = its_next has;
        list = up.list;
      }

  -- ---- where its navigable is awake, it is so on the document, and no other is

  own_doc : (place : Place) (doc : DocId) → place_of s d.nav ≡ Some place → place.status ≡ awake doc → made.doc ≡ doc
  own_doc place doc placed wakes =
      let same : up.place ≡ place = some_same (sym up.placed ∙ placed) in
      awake_same made.doc doc (sym up.wakes ∙ ap (λ (p : Place). p.status) same ∙ wakes)
    where
      awake_same : (a b : DocId) → awake a ≡ awake b → a ≡ b
      awake_same a b e = cc

  own_state : (place : Place) (doc : DocId) (x : Document) → place_of s d.nav ≡ Some place → place.status ≡ awake doc → document_in s.documents doc ≡ Some x → d.state ≡ x.state
  own_state place doc x placed wakes found =
      let one : d ≡ x = some_same (sym up.found ∙ (ap (λ (n : DocId). document_of s n) (own_doc place doc placed wakes) ∙ found)) in
      ap (λ (y : Document). y.state) one

  other_doc : (nav : NavId) (place : Place) (doc : DocId) → place_of s nav ≡ Some place → place.status ≡ awake doc → (nav.0 == d.nav.0) ≡ false → (made.doc.0 == doc.0) ≡ false
  other_doc nav place doc placed wakes apart = by_test (made.doc.0 == doc.0) refl
    where
      by_test : (b : Bool) → (made.doc.0 == doc.0) ≡ b → (made.doc.0 == doc.0) ≡ false
      by_test false e = e
      by_test true e =
          let same : made.doc ≡ doc = ap (λ (n : ℕ). let x : DocId = record { 0 = n } in x) (eqb-true made.doc.0 doc.0 e) in
          let navs : d.nav.0 ≡ nav.0 = tab.flows.whose nav place doc d placed wakes (ap (λ (n : DocId). document_of s n) (sym same) ∙ up.found) in
          let yes : (nav.0 == d.nav.0) ≡ true = ap (λ (n : ℕ). nav.0 == n) navs ∙ nat_eq_refl nav.0 in
          let never : true ≡ false = sym yes ∙ apart in absurd cc

  -- ---- with its entry

  module _ (entry : EntryId) (memo : Option (List ℕ)) (address : List ℕ) (f : Document → Document) (is : IsItsEntry s made d change entry memo address f) where
    pub maker : entry.maker ≡ made.doc.0
    maker = is.maker own

    later : d.last_applied < entry.nr
    later = is.later d.last_applied (its_next is.has)

    -- an entry that was numbered isn't it
    unnumbered : (old : EntryId) → IsNumbered s.entries (length s.documents) s.documents old → old ≡ entry → ⊥
    unnumbered old numbered same =
        let low : old.nr ≤ d.last_applied = numbered.applied made.doc d up.found (ap (λ (e : EntryId). e.maker) same ∙ maker ∙ sym number) in
        let nr : old.nr ≡ entry.nr = ap (λ (e : EntryId). e.nr) same in
        omega (arith, low, nr, later)

    fresh : (row : Row) → Has s.history.rows row → row.entry ≡ entry → ⊥
    fresh row has same = unnumbered row.entry (tab.entries.entries.of_row row has) same

    -- nor was a navigable given it
    ungiven : (nav : NavId) (place : Place) → place_of s nav ≡ Some place → place.given ≡ Some entry → ⊥
    ungiven nav place placed given = by_epoch place.epoch.0 refl
      where
        by_shown : IsShownOnce place → ⊥
        by_shown once =
            unnumbered once.entry (tab.entries.entries.given nav place once.entry placed once.ever) (some_same (sym once.given ∙ given))

        by_epoch : (n : ℕ) → place.epoch.0 ≡ n → ⊥
        by_epoch zero e =
            let none : place.given ≡ None = ((tab.standing nav place placed).told.0 e).given in
            let no_ : None ≡ Some entry = sym none ∙ given in cc
        by_epoch (suc n) e = by_shown ((tab.standing nav place placed).told.1 (omega (arith, e)))

    -- ---- rows

    other_there : (nav : NavId) (place : Place) → place_of s nav ≡ Some place → WereThere s.history.rows t.history.rows place.given
    other_there nav place placed i row at given = by_case (is.rows_are row (slice_has t.history.rows i row at))
      where
        by_case : Has s.history.rows row ⊎ IsNewRow d entry address memo row → (j : ℕ) × (slice_get s.history.rows j ≡ Some row)
        by_case (inl old) = get_of s.history.rows row old
        by_case (inr new) =
            absurd (ungiven nav place placed (given ∙ ap (λ (e : EntryId). let o : Option EntryId = Some e in o) new.entry_is))

    new_shows : (face : Face) → ShowsFace t.history.rows (face_after face made)
    new_shows face i row at same = by_case (is.rows_are row (slice_has t.history.rows i row at))
      where
        entry_now : row.entry ≡ entry
        entry_now = same ∙ ap (λ (x : Face). x.entry) (is.face face)

        by_case : Has s.history.rows row ⊎ IsNewRow d entry address memo row → (row.address ≡ (face_after face made).address) × (row.memo ≡ (face_after face made).memo)
        by_case (inl old) = absurd (fresh row old entry_now)
        by_case (inr new) =
            (new.address_is ∙ sym (ap (λ (x : Face). x.address) (is.face face)), new.memo_is ∙ sym (ap (λ (x : Face). x.memo) (is.face face)))

    -- ---- places

    -- each navigable stood so, and its own is given the entry
    stood : (nav : NavId) (place : Place) → place_of t nav ≡ Some place → WasGiven s.places d.nav nav entry place
    stood nav place placed =
        was_given s.history (applied s.history change) req d.nav entry s.places nav place (ap (λ (l : List Place). place_in l nav) (sym places) ∙ placed)
      where
        places : t.places ≡ with_taker s.history (applied s.history change) req (on_place d.nav (given_entry entry) s.places)
        places = (is.its maker).places s req up.q up.there up.makes

    module _ (nav : NavId) (place : Place) (doc : DocId) (placed : place_of t nav ≡ Some place) (wakes : place.status ≡ awake doc) where
      was : WasGiven s.places d.nav nav entry place
      was = stood nav place placed

      woke : (stood nav place placed).before.status ≡ awake doc
      woke = (stood nav place placed).status ∙ wakes

      -- it was given an entry
      had_given : IsShownOnce (stood nav place placed).before
      had_given =
          let at : IsStanding s (stood nav place placed).before = tab.standing nav (stood nav place placed).before (stood nav place placed).there in
          at.told.1 (at.shown doc woke)

      gave : is_some place.given ≡ true
      gave = ap is_some (stood nav place placed).given ∙ by_nav (nav.0 == d.nav.0)
        where
          by_nav : (b : Bool) → is_some (let o : Option EntryId = cond b (Some entry) (stood nav place placed).before.given in o) ≡ true
          by_nav true = refl
          by_nav false = ap is_some had_given.given

      own_place : (nav.0 == d.nav.0) ≡ true → (stood nav place placed).before ≡ up.place
      own_place e =
          some_same (sym (stood nav place placed).there ∙ ap (λ (n : NavId). place_of s n) (nav_is nav d.nav e) ∙ up.placed)

      its_doc : (nav.0 == d.nav.0) ≡ true → made.doc ≡ doc
      its_doc e =
          own_doc (stood nav place placed).before doc (ap (λ (n : NavId). place_of s n) (sym (nav_is nav d.nav e)) ∙ (stood nav place placed).there) woke

      its_yes : (nav.0 == d.nav.0) ≡ true → (made.doc.0 == doc.0) ≡ true
      its_yes e = subst (λ (n : DocId). (made.doc.0 == n.0) ≡ true) (its_doc e) (nat_eq_refl made.doc.0)

      its_no : (nav.0 == d.nav.0) ≡ false → (made.doc.0 == doc.0) ≡ false
      its_no e = other_doc nav (stood nav place placed).before doc (stood nav place placed).there woke e

      were_taken : WasTaken s made nav place doc
      were_taken =
          record {
            before = (stood nav place placed).before;
            there = (stood nav place placed).there;
            status = woke;
            epoch = (stood nav place placed).epoch;
            given = λ given given_is. by_given given given_is (nav.0 == d.nav.0) refl;
            under = λ its. by_under its (nav.0 == d.nav.0) refl;
          }
        where
          by_given : (given : EntryId) → place.given ≡ Some given → (b : Bool) → (nav.0 == d.nav.0) ≡ b → (old : EntryId) × ((stood nav place placed).before.given ≡ Some old) × (given ≡ (if made.doc.0 == doc.0 then entry_after old made.what else old))
          by_given given given_is true e =
              let now : entry ≡ given = some_same (sym (ap (λ (b : Bool). let o : Option EntryId = cond b (Some entry) (stood nav place placed).before.given in o) e) ∙ sym (stood nav place placed).given ∙ given_is) in
              (had_given.entry, had_given.given, sym now ∙ sym (is.after_ had_given.entry) ∙ sym (ap (λ (b : Bool). if b then entry_after had_given.entry made.what else had_given.entry) (its_yes e)))
          by_given given given_is false e =
              let now : had_given.entry ≡ given = some_same (sym had_given.given ∙ sym (ap (λ (b : Bool). let o : Option EntryId = cond b (Some entry) (stood nav place placed).before.given in o) e) ∙ sym (stood nav place placed).given ∙ given_is) in
              (had_given.entry, had_given.given, sym now ∙ sym (ap (λ (b : Bool). if b then entry_after had_given.entry made.what else had_given.entry) (its_no e)))

          by_under : (made.doc.0 == doc.0) ≡ true → (b : Bool) → (nav.0 == d.nav.0) ≡ b → (made.epoch.0 == place.epoch.0) ≡ true
          by_under its true e =
              subst (λ (n : Epoch). (made.epoch.0 == n.0) ≡ true) (ap (λ (p : Place). p.epoch) (sym (own_place e)) ∙ (stood nav place placed).epoch) up.under
          by_under its false e = (let never : true ≡ false = sym its ∙ its_no e in absurd cc)

    had_epoch : (x : Document) (place : Place) → place_of t x.nav ≡ Some place → HadEpoch s x.nav place
    had_epoch x place placed =
        let w : WasGiven s.places d.nav x.nav entry place = stood x.nav place placed in
        record { before = w.before; there = w.there; rises = subst (λ (k : Epoch). w.before.epoch.0 ≤ k.0) w.epoch (omega arith) }

    -- ---- documents

    abbrev g : Document → Document
    g x = cond (x.nr.0 == made.doc.0) (f x) x

    taken_up : IsTakenUp hand rest s t made g
    taken_up =
        record {
          desks = refl;
          documents = (is.its maker).documents s.documents;
          nr = by_own made.doc f (λ x. x.nr) (is.its maker).keeps_number;
          nav = by_own made.doc f (λ x. x.nav) is.nav;
          proc = by_own made.doc f (λ x. x.proc) (is.its maker).stays;
          view = by_own made.doc f (λ x. x.view) (is.its maker).keeps_view;
          told = λ no_. by_own made.doc f (λ x. x.told) (is.told no_);
          other_told = λ x apart. ap (λ (b : Bool). (let y : Document = cond b (f x) x in y).told) (turned made.doc.0 x.nr.0 false apart);
          push_told = λ push x its. ap (λ (b : Bool). (let y : Document = cond b (f x) x in y).told) (turned made.doc.0 x.nr.0 true its) ∙ is.push_told push x;
          list = up.list;
          were = were_taken;
          had_row = λ nav place doc placed wakes. is.had place.nav;
          gave = gave;
          had = λ doc x place found placed. had_epoch x place placed;
          own_rows = λ nav place face placed wakes given shows. new_shows face;
          other_rows = λ nav place doc placed wakes apart. other_there nav place placed;
        }

    -- ---- all of it

    -- what is known then of the entry, and of what leads on
    pub record IsTakenIn : Type 0 where
      pub new : (row : Row) → Has s.history.rows row → row.entry ≡ entry → ⊥
      pub take : IsToTake hand (without_made req hand) s t req made d
      pub gives : IsToGive s req d.nav entry d.state
      pub gives_new : IsNewGiven s event actor req tab.homes d.nav entry d.state
      pub free : IsOthersFree s req d.state
      pub flows : FlowsIf (without_made req hand) t

    pub taken : IsTakenIn
    taken =
        record {
          new = fresh;
          take = to_take is.has;
          gives = record {
            q = up.q;
            found = up.there;
            made = made;
            makes = up.makes;
            place = up.place;
            placed = up.placed;
            later = (tab.standing d.nav up.place up.placed).shown made.doc up.wakes;
            of_last = λ doc x last found. own_last doc x last found;
            of_state = λ row has navs same. absurd (fresh row has same);
          };
          gives_new = record { q = up.q; made = made; asked = up.there; makes = up.makes; fresh = fresh; own = own_state };
          free = document_free s req made.doc d d.nav up.place tab.loading up.found up.placed (tab.shown.ever d.nav up.place made.doc up.placed up.wakes);
          flows = taken_if hand rest s t made g taken_up tab.flows;
        }
      where
        own_last : (doc : DocId) (x : Document) → up.place.last ≡ Some doc → document_of s doc ≡ Some x → d.state ≡ x.state
        own_last doc x last found =
            let docs : made.doc ≡ doc = some_same (sym homed.last ∙ last) in
            let one : d ≡ x = some_same (sym up.found ∙ (ap (λ (n : DocId). document_of s n) docs ∙ found)) in
            ap (λ (y : Document). y.state) one
