-- All that holds in a tab of frames holds after what a document made is applied: a push, a replace, or a frame removed.
pub use Rattle.tab_facts.specs.FrameTab.MadeHere.{IsMadeHere}
use Rattle.std.proofs.Common.{◌≡◌, ℕ, ◌≤◌, Bool, true, false, cond, not, ◌&&◌, ◌==◌, List, map, Option, Some, None, refl, sym, ap, ◌∙◌, subst, arith}
use Rattle.std.specs.Prelude.{is_some, if◌then◌else◌}
use Rattle.std.proofs.lemmas.Bool.{eqb-true}
use Rattle.tab_ids.specs.declared.DocId.{DocId}
use Rattle.tab_ids.specs.declared.EntryId.{EntryId}
use Rattle.tab_ids.specs.declared.Epoch.{Epoch}
use Rattle.tab_ids.specs.declared.NavId.{NavId}
use Rattle.tab_ids.specs.declared.ReqId.{ReqId}
use Rattle.log_model.specs.declared.change.Change.{Change}
use Rattle.log_model.specs.declared.made.Made.{Made}
use Rattle.log_model.specs.declared.made.What.{What}
use Rattle.log_model.specs.declared.row.Row.{Row}
use Rattle.log_model.specs.declared.row_kind.Actor.{Actor}
use Rattle.log_model.specs.declared.row_kind.RowKind.TheVariants as rows
use Rattle.log_model.specs.Equal.{holds}
use Rattle.log_model.specs.History.{History, same_entry, has_row, target_entry, applied}
use Rattle.log_model.specs.Places.{is_moved_in, is_given_target}
use Rattle.log_model.specs.Seen.{Seen, Document, Asked, Place, awake, asleep, document_of, place_of, request_in}
use Rattle.seen_facts.proofs.Coord.Unread.{next}
use Rattle.seen_facts.specs.Home.Homes.{IsHomed, AreHomed}
use Rattle.seen_facts.proofs.Home.Changed.{taker}
use Rattle.log_model.proofs.Refl.{nat_eq_refl}
use Rattle.seen_laws.proofs.Keyed.{find_has}
use Rattle.seen_facts.specs.Each.Mades.{entry_after}
use Rattle.tab_facts.specs.FrameTab.Steady.{IsAskedBy, IsUnshownYet, IsSteady, AreSteady, AreGiven}
use Rattle.tab_facts.proofs.FrameTab.Goings.{StaysAsked, asked_by_stays, mover_stays}
use Rattle.tab_facts.proofs.FrameTab.Steadies.{steady_mapped, WasPlace, was_place}
use Rattle.tab_facts.proofs.FrameTab.Desking.{AllStayPlaced}
use Rattle.tab_facts.proofs.FrameTab.Arrived.{mapped_placed}
use Rattle.tab_facts.proofs.FrameTab.Takings.{WasTaken, applied_stay}
use Rattle.tab_facts.proofs.FrameTab.Leaving.{target_alike}

some_same : {A : Type 0} {a b : A} → (let o : Option A = Some a in o) ≡ Some b → a ≡ b
some_same e = cc

-- what becomes of a place but for the taker of its rows: the navigable of what was made is given the entry after it, the others what they were
pub record IsGiving (nav : NavId) (what : What) (f : Place → Place) : Type 0 where
  pub nav_is : (x : Place) → (f x).nav ≡ x.nav
  pub status : (x : Place) → (f x).status ≡ x.status
  pub epoch : (x : Place) → (f x).epoch ≡ x.epoch
  pub why : (x : Place) → (f x).why ≡ x.why
  pub last : (x : Place) → (f x).last ≡ x.last
  pub pending : (x : Place) → (f x).is_pending ≡ x.is_pending
  pub unmet : (x : Place) → (f x).is_unmet ≡ x.is_unmet
  pub added : (x : Place) → (f x).added_by ≡ x.added_by
  pub taken : (x : Place) → (f x).taken_by ≡ x.taken_by
  pub own : (x : Place) (old : EntryId) → (x.nav.0 == nav.0) ≡ true → x.given ≡ Some old → (f x).given ≡ Some (entry_after old what)
  pub other : (x : Place) → (x.nav.0 == nav.0) ≡ false → (f x).given ≡ x.given

module _ (s : Seen) (event : ℕ) (actor : Actor) (req : ReqId) (c : Change) (made : Made) (d : Document) (here : IsMadeHere s made d) (homes : AreHomed s) (are : AreSteady s) (f : Place → Place) (giving : IsGiving d.nav made.what f) where
  abbrev pub then_ : Seen
  then_ = next s event actor (rows.Applied req c)

  abbrev new : History
  new = applied s.history c

  abbrev pub g : Place → Place
  g x = taker s.history new req (f x)

  -- the taker alone is noted
  by_taker : {B : Type 0} (read : Place → B) → ((x : Place) → read (record x { taken_by = Some req }) ≡ read x) → (x : Place) → read (taker s.history new req x) ≡ read x
  by_taker read same x = elim (has_row x.nav s.history.rows && not (has_row x.nav new.rows)) as (λ b. read (let y : Place = cond b (record x { taken_by = Some req }) x in y) ≡ read x) [ true ↦ same x | false ↦ refl ]

  pub g_nav : (x : Place) → (g x).nav ≡ x.nav
  g_nav x = by_taker (λ y. y.nav) (λ y. refl) (f x) ∙ giving.nav_is x

  g_status : (x : Place) → (g x).status ≡ x.status
  g_status x = by_taker (λ y. y.status) (λ y. refl) (f x) ∙ giving.status x

  g_epoch : (x : Place) → (g x).epoch ≡ x.epoch
  g_epoch x = by_taker (λ y. y.epoch) (λ y. refl) (f x) ∙ giving.epoch x

  g_given : (x : Place) → (g x).given ≡ (f x).given
  g_given x = by_taker (λ y. y.given) (λ y. refl) (f x)

  -- the navigable is that of what was made
  own_place : (nav : NavId) (x : Place) → place_of s nav ≡ Some x → (x.nav.0 == d.nav.0) ≡ true → x ≡ here.place
  own_place nav x there e =
      let n : x.nav.0 ≡ nav.0 = find_has (λ (y : Place). y.nav.0) nav.0 s.places x there in
      let m : x.nav.0 ≡ d.nav.0 = eqb-true x.nav.0 d.nav.0 e in
      let same : nav ≡ d.nav = ap (λ (n : ℕ). let y : NavId = record { 0 = n } in y) (sym n ∙ m) in
      let both : Some x ≡ Some here.place = sym there ∙ (ap (λ (y : NavId). place_of s y) same ∙ here.placed) in
      some_same both

  -- no other is awake on the document
  other_doc : (nav : NavId) (x : Place) (doc : DocId) → place_of s nav ≡ Some x → x.status ≡ awake doc → (x.nav.0 == d.nav.0) ≡ false → (made.doc.0 == doc.0) ≡ false
  other_doc nav x doc there wakes apart = by_test (made.doc.0 == doc.0) refl
    where
      h : IsHomed s.documents x doc
      h = homes.homed nav x doc there wakes

      by_test : (b : Bool) → (made.doc.0 == doc.0) ≡ b → (made.doc.0 == doc.0) ≡ false
      by_test false e = e
      by_test true e =
          let n : made.doc.0 ≡ doc.0 = eqb-true made.doc.0 doc.0 e in
          let same : made.doc ≡ doc = ap (λ (n : ℕ). let y : DocId = record { 0 = n } in y) n in
          let one : d ≡ h.home.document = some_same (sym here.found ∙ (ap (λ (y : DocId). document_of s y) same ∙ h.home.found)) in
          let navs : x.nav ≡ d.nav = sym h.home.nav_is ∙ ap (λ (y : Document). y.nav) (sym one) in
          let yes : (x.nav.0 == d.nav.0) ≡ true = subst (λ (n : NavId). (n.0 == d.nav.0) ≡ true) (sym navs) (nat_eq_refl d.nav.0) in
          let never : true ≡ false = sym yes ∙ apart in absurd cc

  some_of : {A : Type 0} (o : Option A) → is_some o ≡ true → (x : A) × (o ≡ Some x)
  some_of None e = absurd cc
  some_of (Some x) e = (x, refl)

  module _ (places : then_.places ≡ map g s.places) where
    pub were_taken : (nav : NavId) (place : Place) (doc : DocId) → place_of then_ nav ≡ Some place → place.status ≡ awake doc → WasTaken s made nav place doc
    were_taken nav place doc there wakes =
        record {
          before = x;
          there = w.there;
          status = woke;
          epoch = sym (g_epoch x) ∙ ap (λ (y : Place). y.epoch) w.is;
          given = by_given;
          under = by_under;
        }
      where
        w : WasPlace s g nav place
        w = was_place s then_ g g_nav places nav place there

        x : Place
        x = (was_place s then_ g g_nav places nav place there).before

        woke : (was_place s then_ g g_nav places nav place there).before.status ≡ awake doc
        woke = sym (g_status (was_place s then_ g g_nav places nav place there).before) ∙ ap (λ (y : Place). y.status) (was_place s then_ g g_nav places nav place there).is ∙ wakes

        by_given : (given : EntryId) → place.given ≡ Some given → (old : EntryId) × ((was_place s then_ g g_nav places nav place there).before.given ≡ Some old) × (given ≡ (if made.doc.0 == doc.0 then entry_after old made.what else old))
        by_given given is = by_nav ((was_place s then_ g g_nav places nav place there).before.nav.0 == d.nav.0) refl
          where
            v : WasPlace s g nav place
            v = was_place s then_ g g_nav places nav place there

            now : (f (was_place s then_ g g_nav places nav place there).before).given ≡ Some given
            now = sym (g_given (was_place s then_ g g_nav places nav place there).before) ∙ ap (λ (y : Place). y.given) (was_place s then_ g g_nav places nav place there).is ∙ is

            had : (old : EntryId) × ((was_place s then_ g g_nav places nav place there).before.given ≡ Some old)
            had = some_of (was_place s then_ g g_nav places nav place there).before.given ((are nav (was_place s then_ g g_nav places nav place there).before (was_place s then_ g g_nav places nav place there).there).gave doc woke)

            by_nav : (b : Bool) → ((was_place s then_ g g_nav places nav place there).before.nav.0 == d.nav.0) ≡ b → (old : EntryId) × ((was_place s then_ g g_nav places nav place there).before.given ≡ Some old) × (given ≡ (if made.doc.0 == doc.0 then entry_after old made.what else old))
            by_nav true e =
                let own : (was_place s then_ g g_nav places nav place there).before ≡ here.place = own_place nav (was_place s then_ g g_nav places nav place there).before (was_place s then_ g g_nav places nav place there).there e in
                let on : awake made.doc ≡ awake doc = sym here.wakes ∙ ap (λ (y : Place). y.status) (sym own) ∙ woke in
                let docs : made.doc ≡ doc = cc in
                let yes : (made.doc.0 == doc.0) ≡ true = subst (λ (n : DocId). (made.doc.0 == n.0) ≡ true) docs (nat_eq_refl made.doc.0) in
                let value : given ≡ entry_after had.0 made.what = some_same (sym now ∙ giving.own (was_place s then_ g g_nav places nav place there).before had.0 e had.1) in
                (had.0, had.1, value ∙ sym (ap (λ (b : Bool). if b then entry_after had.0 made.what else had.0) yes))
            by_nav false e =
                let no_ : (made.doc.0 == doc.0) ≡ false = other_doc nav (was_place s then_ g g_nav places nav place there).before doc (was_place s then_ g g_nav places nav place there).there woke e in
                let value : given ≡ had.0 = some_same (sym now ∙ giving.other (was_place s then_ g g_nav places nav place there).before e ∙ had.1) in
                (had.0, had.1, value ∙ sym (ap (λ (b : Bool). if b then entry_after had.0 made.what else had.0) no_))

        by_under : (made.doc.0 == doc.0) ≡ true → (made.epoch.0 == place.epoch.0) ≡ true
        by_under its = by_nav ((was_place s then_ g g_nav places nav place there).before.nav.0 == d.nav.0) refl
          where
            by_nav : (b : Bool) → ((was_place s then_ g g_nav places nav place there).before.nav.0 == d.nav.0) ≡ b → (made.epoch.0 == place.epoch.0) ≡ true
            by_nav true e =
                let own : (was_place s then_ g g_nav places nav place there).before ≡ here.place = own_place nav (was_place s then_ g g_nav places nav place there).before (was_place s then_ g g_nav places nav place there).there e in
                let epochs : here.place.epoch ≡ place.epoch = ap (λ (y : Place). y.epoch) (sym own) ∙ sym (g_epoch (was_place s then_ g g_nav places nav place there).before) ∙ ap (λ (y : Place). y.epoch) (was_place s then_ g g_nav places nav place there).is in
                subst (λ (n : Epoch). (made.epoch.0 == n.0) ≡ true) epochs here.under
            by_nav false e = (let never : true ≡ false = sym its ∙ other_doc nav (was_place s then_ g g_nav places nav place there).before doc (was_place s then_ g g_nav places nav place there).there woke e in absurd cc)

    pub placed_on : AllStayPlaced s.places then_.places
    placed_on = subst (λ (l : List Place). AllStayPlaced s.places l) (sym places) (mapped_placed s.places g g_nav (λ x. (let same : (g x).epoch.0 ≡ x.epoch.0 = ap (λ (n : Epoch). n.0) (g_epoch x) in omega (arith, same))))

    -- ---- the places stay steady, where the request is there, and no navigable has a row that had none
    pub steady_then : (q : Asked) → request_in s.requests req ≡ Some q → ((nav : NavId) → has_row nav new.rows ≡ true → has_row nav s.history.rows ≡ true) → AreSteady then_
    steady_then q there old =
        steady_mapped s then_ g (record { nav = g_nav; steady = steady_g }) places are
      where
        now : StaysAsked then_.requests req q
        now = applied_stay s event actor req c req q there

        by_row : IsAskedBy then_.requests (Some req)
        by_row = (let n : StaysAsked then_.requests req q = applied_stay s event actor req c req q there in record { req = req; is = refl; q = n.new; there = n.there })

        steady_g : (nav : NavId) (x : Place) → place_of s nav ≡ Some x → IsSteady s x → IsSteady then_ (g x)
        steady_g nav x at is =
            record {
              unlost = λ e. is.unlost (sym (g_status x) ∙ e);
              unpending = by_taker (λ y. y.is_pending) (λ y. refl) (f x) ∙ giving.pending x ∙ is.unpending;
              met = by_taker (λ y. y.is_unmet) (λ y. refl) (f x) ∙ giving.unmet x ∙ is.met;
              shown = λ doc e. subst (λ (n : Epoch). 1 ≤ n.0) (sym (g_epoch x)) (is.shown doc (sym (g_status x) ∙ e));
              gave = λ doc e. ap is_some (g_given x) ∙ gave_f doc (sym (g_status x) ∙ e);
              unshown = λ e has.
                  let sleeps : x.status ≡ asleep = sym (g_status x) ∙ e in
                  let u : IsUnshownYet x = is.unshown sleeps (old x.nav (ap (λ (n : NavId). has_row n new.rows) (sym (g_nav x)) ∙ has)) in
                  record {
                    epoch = ap (λ (n : Epoch). n.0) (g_epoch x) ∙ u.epoch;
                    given = g_given x ∙ giving.other x (not_own sleeps) ∙ u.given;
                    last = by_taker (λ y. y.last) (λ y. refl) (f x) ∙ giving.last x ∙ u.last;
                  };
              taken = λ none. taken_by none;
              moved = λ doc e high. mover_stays s then_ x (g x) (applied_stay s event actor req c) (by_taker (λ y. y.why) (λ y. refl) (f x) ∙ giving.why x) (is.moved doc (sym (g_status x) ∙ e) (subst (λ (n : Epoch). 2 ≤ n.0) (g_epoch x) high));
              added = λ child. subst (λ (by : Option ReqId). IsAskedBy then_.requests by) (sym (by_taker (λ y. y.added_by) (λ y. refl) (f x) ∙ giving.added x)) (asked_by_stays s.requests then_.requests x.added_by (applied_stay s event actor req c) (is.added (λ e. child (g_nav x ∙ e))));
            }
          where
            -- the navigable of what was made is awake
            not_own : x.status ≡ asleep → (x.nav.0 == d.nav.0) ≡ false
            not_own sleeps = by_test (x.nav.0 == d.nav.0) refl
              where
                by_test : (b : Bool) → (x.nav.0 == d.nav.0) ≡ b → (x.nav.0 == d.nav.0) ≡ false
                by_test false h = h
                by_test true h =
                    let own : x ≡ here.place = own_place nav x at h in
                    let never : asleep ≡ awake made.doc = sym sleeps ∙ ap (λ (y : Place). y.status) own ∙ here.wakes in absurd cc

            gave_f : (doc : DocId) → x.status ≡ awake doc → is_some (f x).given ≡ true
            gave_f doc wakes = by_test (x.nav.0 == d.nav.0) refl
              where
                by_test : (b : Bool) → (x.nav.0 == d.nav.0) ≡ b → is_some (f x).given ≡ true
                by_test true h = (let had : (old_ : EntryId) × (x.given ≡ Some old_) = some_of x.given (is.gave doc wakes) in ap is_some (giving.own x had.0 h had.1))
                by_test false h = ap is_some (giving.other x h) ∙ is.gave doc wakes

            taken_by : has_row (g x).nav new.rows ≡ false → IsAskedBy then_.requests (g x).taken_by
            taken_by none = by_test (has_row (f x).nav s.history.rows) (has_row (f x).nav new.rows) refl (ap (λ (n : NavId). has_row n new.rows) (giving.nav_is x ∙ sym (g_nav x)) ∙ none)
              where
                by_test : (a b : Bool) → has_row (f x).nav s.history.rows ≡ a → has_row (f x).nav new.rows ≡ false → IsAskedBy then_.requests (g x).taken_by
                by_test true b h low =
                    let is_ : (g x).taken_by ≡ Some req = rw (h, low) refl in
                    subst (λ (by : Option ReqId). IsAskedBy then_.requests by) (sym is_) by_row
                by_test false b h low =
                    let is_ : (g x).taken_by ≡ (f x).taken_by = rw h refl in
                    subst (λ (by : Option ReqId). IsAskedBy then_.requests by) (sym (is_ ∙ giving.taken x)) (asked_by_stays s.requests then_.requests x.taken_by (applied_stay s event actor req c) (is.taken (ap (λ (n : NavId). has_row n s.history.rows) (sym (giving.nav_is x)) ∙ h)))

    -- ---- who isn't moved is given its target, where targets stay, but that of the navigable of what was made, which is given the entry after it
    pub given_then : AreGiven s → ((nav : NavId) → is_moved_in then_.requests nav ≡ false → is_moved_in s.requests nav ≡ false) → ((nav : NavId) → has_row nav new.rows ≡ true → has_row nav s.history.rows ≡ true) → ((nav : NavId) → (nav.0 == d.nav.0) ≡ false → has_row nav new.rows ≡ true → target_entry new.rows nav new.current ≡ target_entry s.history.rows nav s.history.current) → (is_given_target s.history.rows s.history.current here.place ≡ true → has_row d.nav new.rows ≡ true → is_given_target new.rows new.current (f here.place) ≡ true) → AreGiven then_
    given_then given moved old targets own nav place doc there wakes has unmoved =
        subst (λ (y : Place). is_given_target new.rows new.current y ≡ true) w.is (by_nav (w.before.nav.0 == d.nav.0) refl)
      where
        w : WasPlace s g nav place
        w = was_place s then_ g g_nav places nav place there

        navs : place.nav ≡ (was_place s then_ g g_nav places nav place there).before.nav
        navs = ap (λ (y : Place). y.nav) (sym (was_place s then_ g g_nav places nav place there).is) ∙ g_nav (was_place s then_ g g_nav places nav place there).before

        rows_now : has_row (was_place s then_ g g_nav places nav place there).before.nav new.rows ≡ true
        rows_now = ap (λ (n : NavId). has_row n new.rows) (sym navs) ∙ has

        was_given : is_given_target s.history.rows s.history.current (was_place s then_ g g_nav places nav place there).before ≡ true
        was_given =
            given nav (was_place s then_ g g_nav places nav place there).before doc (was_place s then_ g g_nav places nav place there).there
            (sym (g_status (was_place s then_ g g_nav places nav place there).before) ∙ ap (λ (y : Place). y.status) (was_place s then_ g g_nav places nav place there).is ∙ wakes)
            (old (was_place s then_ g g_nav places nav place there).before.nav rows_now)
            (ap (λ (n : NavId). is_moved_in s.requests n) (sym navs) ∙ moved place.nav unmoved)

        as_f : (x : Place) → is_given_target new.rows new.current (g x) ≡ is_given_target new.rows new.current (f x)
        as_f x = target_alike new.rows new.current (g x) (f x) (by_taker (λ y. y.nav) (λ y. refl) (f x)) (g_given x)

        by_nav : (b : Bool) → ((was_place s then_ g g_nav places nav place there).before.nav.0 == d.nav.0) ≡ b → is_given_target new.rows new.current (g (was_place s then_ g g_nav places nav place there).before) ≡ true
        by_nav true e =
            let its : (was_place s then_ g g_nav places nav place there).before ≡ here.place = own_place nav (was_place s then_ g g_nav places nav place there).before (was_place s then_ g g_nav places nav place there).there e in
            let n : (was_place s then_ g g_nav places nav place there).before.nav.0 ≡ d.nav.0 = eqb-true (was_place s then_ g g_nav places nav place there).before.nav.0 d.nav.0 e in
            let nav_d : (was_place s then_ g g_nav places nav place there).before.nav ≡ d.nav = ap (λ (n : ℕ). let y : NavId = record { 0 = n } in y) n in
            as_f (was_place s then_ g g_nav places nav place there).before
            ∙ subst (λ (y : Place). is_given_target new.rows new.current (f y) ≡ true) (sym its) (own (subst (λ (y : Place). is_given_target s.history.rows s.history.current y ≡ true) its was_given) (ap (λ (n : NavId). has_row n new.rows) (sym nav_d) ∙ rows_now))
        by_nav false e =
            as_f (was_place s then_ g g_nav places nav place there).before
            ∙ ap (λ (n : NavId). holds (λ (row : Row). holds (same_entry row.entry) (f (was_place s then_ g g_nav places nav place there).before).given) (target_entry new.rows n new.current)) (giving.nav_is (was_place s then_ g g_nav places nav place there).before)
            ∙ ap (λ (o : Option EntryId). holds (λ (row : Row). holds (same_entry row.entry) o) (target_entry new.rows (was_place s then_ g g_nav places nav place there).before.nav new.current)) (giving.other (was_place s then_ g g_nav places nav place there).before e)
            ∙ ap (λ (o : Option Row). holds (λ (row : Row). holds (same_entry row.entry) (was_place s then_ g g_nav places nav place there).before.given) o) (targets (was_place s then_ g g_nav places nav place there).before.nav e rows_now)
            ∙ was_given
