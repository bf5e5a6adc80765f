-- What a document made is applied: a frame is added to it, which sleeps and was never shown a document.
use Rattle.tab_doors.proofs.Rooms.{states_fit}
use Rattle.leave_facts.proofs.Frames.{nobodys_yet}
use Rattle.leave_facts.proofs.Applied.{FitsWell}
use Rattle.tab_facts.specs.Calm.Calm.{AreRooted, CalmUnless, IsCalmYet, IsHere, IsRooted, UnmovedAreHere}
use Rattle.seen_facts.proofs.Entry.Ends.{IsToEnd, no_entry_end}
use Rattle.seen_facts.proofs.Entry.Skips.{IsNoEntry}
use Rattle.entry_store.specs.Store.{MayTake}
use Rattle.tab_facts.proofs.FrameWhole.Soundly.{none_entry}
use Rattle.seen_facts.proofs.Hang.Forms.{form_there, nav_is}
use Rattle.seen_facts.proofs.Hang.Members.{Passing, any_has, find_has, has_any, has_found, has_more, into_more}
use Rattle.seen_facts.proofs.Hang.Parts.{state_is}
use Rattle.seen_facts.specs.Hang.Forms.{form_of}
use Rattle.seen_facts.specs.Hang.Members.{Has}
use Rattle.seen_facts.specs.Home.Homes.{IsHomed, document_in}
use Rattle.tab_facts.proofs.Last.Applied.{added_lasting}
use Rattle.seen_facts.specs.LoadEnds.Standing.{is_reached}
use Rattle.log_model.specs.AfterPlaces.{new_place, places_added, with_taker}
use Rattle.address.specs.Addresses.{blank_text}
use Rattle.log_model.specs.History.{History, first_step, fits, has_nav, has_row, has_state, is_of}
use Rattle.log_model.specs.Once.{change_of_made, next_entry_of, next_state}
use Rattle.log_model.specs.Orders.{is_usable}
use Rattle.log_model.specs.Places.{aim_of, holder_of, is_awake, is_below, is_shown, way_to}
use Rattle.log_model.specs.Seen.{Asked, Document, Place, Seen, asleep, awake, document_of, place_of, request_in}
use Rattle.log_model.specs.declared.change.Change.{Change}
use Rattle.log_model.specs.declared.made.Made.{Made}
use Rattle.log_model.specs.declared.made.What.{What}
use Rattle.log_model.specs.declared.row.Row.{Row}
use Rattle.log_model.specs.declared.row_kind.RowKind.{RowKind}
use Rattle.seen_facts.specs.Mover.Movers.{IsMovedBy}
use Rattle.nav_tree.specs.Tree.{node_of}
use Rattle.nav_tree.specs.declared.node.Node.{Node}
use Rattle.seen_laws.specs.InEvent.{InEvent}
use Rattle.tab_facts.proofs.ShownWays.Keeps.{way_there}
use Rattle.std.proofs.Common.{Bool, List, None, Option, Some, [], ap, arith, cond, false, inl, inr, map, not, refl, subst, sym, true, ℕ, ◌&&◌, ◌++◌, ◌+◌, ◌<◌, ◌==◌, ◌||◌, ◌∙◌, ◌∷◌, ◌≡◌, ◌≤◌, ◌⊎◌}
use Rattle.std.proofs.lemmas.Bool.{or_parts}
use Rattle.std.specs.List.{list_any}
use Rattle.std.specs.Option.{option_map_or}
use Rattle.std.specs.Prelude.{is_some, option_and_then, option_map}
use Rattle.sync_core.specs.declared.judging.Judged.TheVariants as verdicts
use Rattle.tab_doors.specs.Dues.{IsAdded, IsTakeDue, KeepsRows, MayChange}
use Rattle.tab_doors.specs.Look.{sight}
pub use Rattle.tab_doors.specs.Look.{moved_by}
use Rattle.tab_doors.specs.Ties.{AreTied}
use Rattle.tab_doors.specs.Working.{IsAtWork, KeepsRun}
use Rattle.tab_doors.specs.declared.tables.Tables.{Tables}
use Rattle.tab_rests.proofs.PassedOn.{IsBare, IsBlamed, IsUnsettled, MayServe, ParentsShown, StandOrBare, TakersServe, added_going, added_tab, count_few, fresh, new_state, new_to, serve_on, tab_placed, way_same}
use Rattle.tab_rests.specs.PassedOn.{AreBlamed, InPass, IsGoing, IsLoadOf, IsOpen, MayStand, StandOrMove, aim_in, count_of, has_ended}
use Rattle.tab_ids.specs.declared.DocId.{DocId}
use Rattle.tab_ids.specs.declared.EntryId.{EntryId}
use Rattle.tab_ids.specs.declared.NavId.{NavId}
use Rattle.tab_ids.specs.declared.ReqId.{ReqId}
use Rattle.tab_ids.specs.declared.StateId.{StateId}
use Rattle.tab_takes.proofs.Adds.{apart, old_place, reached_on, shown_same, given_same, visited_on, was_or_new}
use Rattle.tab_takes.proofs.Applied.{IsAfter, aim_then, aim_was, causes, has_applied, leave_on, loads_back, moved_on, moved_same, n as after_change, stray_unloaded}
use Rattle.tab_takes.proofs.Asks.{free_is, unlike, what_is}
use Rattle.tab_takes.proofs.Entered.{IsLeast, least_row, used_more, way_entered}
use Rattle.tab_takes.proofs.Entries.{has_its_state}
use Rattle.tab_takes.proofs.Now.{due, e, has, may_change, now_, own, q, rest, take_due, wakes, whole}
use Rattle.tab_takes.proofs.Verdicts.{IsOfIt, Tells, apart as apart_run}
use Rattle.tab_takes.proofs.Where.{carried, its_hand, loads_same}
use Rattle.tab_takes.specs.Taking.{HasTaken, IsToTake, asked_in, nav_found}
pub use Rattle.tab_rests.specs.PassedOn.{IsTab}
use Rattle.seen_facts.proofs.Walk.Placed.{found_nav}
use Rattle.log_model.specs.declared.change.Change.TheVariants as changes
use Rattle.log_model.specs.declared.job.Why.TheVariants as whys
use Rattle.log_model.specs.declared.made.What.TheVariants as whats
use Rattle.log_model.specs.declared.row_kind.RowKind.TheVariants as rows

some_same : {A : Type 0} {a b : A} → (let o : Option A = Some a in o) ≡ Some b → a ≡ b
some_same e = cc

map_itself : (documents : List Document) → map (λ (d : Document). d) documents ≡ documents
map_itself [] = refl
map_itself (d ∷ documents) = ap (λ (l : List Document). d ∷ l) (map_itself documents)

-- a longer list has what passed in a shorter one
any_left : {A : Type 0} (test : A → Bool) (l : List A) (x : A) → list_any test l ≡ true → list_any test (l ++ x ∷ []) ≡ true
any_left test l x is = (let a : Passing test l = any_has test l is in has_any test (l ++ x ∷ []) a.it (into_more l x a.it a.there) a.passes)

-- where none loses its last entries, none is noted
none_taken : (old new : History) (req : ReqId) (places : List Place) → ((p : Place) → (has_row p.nav old.rows && not (has_row p.nav new.rows)) ≡ false) → with_taker old new req places ≡ places
none_taken old new req [] none = refl
none_taken old new req (p ∷ places) none =
    ap (λ (b : Bool). (let x : Place = cond b (record p { taken_by = Some req }) p in x) ∷ with_taker old new req places) (none p) ∙ ap (λ (l : List Place). p ∷ l) (none_taken old new req places none)

module _ (p : InPass) (out : List RowKind) (t : Tables) (blame : List (StateId × ReqId)) (made : Made) (at : IsToTake p out t blame made) (told : Tells p out t blame made at verdicts.Now) where
  abbrev now : Seen
  now = now_ p out t blame made at told

  pub states_room : t.states + 1 < 4294967296
  states_room = states_fit p.event out t at.passing.work at.passing.going.room

  pub entries_room : t.entries + 1 < 4294967296
  entries_room =
      (let low : now.entries ≤ 1 + count_of has_ended now.requests = at.passing.going.counted.entries in let few = count_few has_ended now.requests in let room = at.passing.going.room in let same : t.entries ≡ now.entries = at.passing.work.holds.entries in omega (arith, low, few, room, same))

  module _ (owner : StateId) (nav : NavId) (entry : EntryId) (state : StateId) (asked : asked_in t made ≡ Some (changes.AddFrame owner nav entry state)) where
    abbrev s : Seen
    s = now_ p out t blame made at told

    abbrev ev : InEvent
    ev = e p out t blame made at told

    abbrev its : IsOfIt p out t blame made at
    its = own p out t blame made at told

    abbrev tab : IsTab t.running p.loads p.hand s
    tab = whole p out t blame made at told

    abbrev left : List Made
    left = rest p out t blame made at told

    abbrev add : Change
    add = changes.AddFrame its.d.state nav (next_entry_of s) (next_state s)

    add_is : changes.AddFrame owner nav entry state ≡ add
    add_is = unlike p out t blame made at told (changes.AddFrame owner nav entry state) asked add refl

    owner_is : owner ≡ its.d.state
    owner_is = (let both : changes.AddFrame owner nav entry state ≡ add = add_is in cc)

    what : made.what ≡ whats.AddFrame nav
    what = what_is p out t blame made at told (changes.AddFrame owner nav entry state) asked

    unused_number : ((nav.0 == 0) ≡ false) × (has_nav s.history.added nav ≡ false)
    unused_number =
        or_parts (nav.0 == 0) (has_nav s.history.added nav) (free_is p out t blame made at told (changes.AddFrame owner nav entry state) asked)

    -- as the door puts it out
    abbrev put : Change
    put = changes.AddFrame owner nav (record { maker = 0; nr = t.entries + 1 }) (record { 0 = t.states + 1 })

    put_is : put ≡ add
    put_is =
        ap (λ (x : StateId). changes.AddFrame x nav (record { maker = 0; nr = t.entries + 1 }) (record { 0 = t.states + 1 })) owner_is
        ∙ ap (λ (k : ℕ). changes.AddFrame its.d.state nav (record { maker = 0; nr = k + 1 }) (record { 0 = t.states + 1 })) at.passing.work.holds.entries
        ∙ ap (λ (k : ℕ). changes.AddFrame its.d.state nav (next_entry_of s) (record { 0 = k + 1 })) at.passing.work.holds.states

    state_has : has_state its.d.state s.history.rows ≡ true
    state_has = has_its_state p out t blame made at told

    fit : fits s.history add ≡ true
    fit = rw (state_has, unused_number.0, unused_number.1) refl

    abbrev f : Row
    f = record { owner = Some its.d.state; nav = nav; entry = next_entry_of s; step = record { 0 = first_step its.d.state s.history.rows }; state = next_state s; address = blank_text; memo = None }

    numbers : MayTake s.history add
    numbers = (
      none_entry s.history.rows (next_entry_of s) (fresh t.running p.loads p.hand s tab),
      unused_state (has_state (next_state s) s.history.rows) refl,
    )
      where
        unused_state : (b : Bool) → has_state (next_state s) s.history.rows ≡ b → b ≡ false
        unused_state false is = refl
        unused_state true is =
            let a : Passing (λ (row : Row). row.state.0 == (s.states + 1)) s.history.rows = any_has (λ (row : Row). row.state.0 == (s.states + 1)) s.history.rows is in
            absurd (new_state t.running p.loads p.hand s tab a.it a.there (ap (λ (x : StateId). x.0) (state_is a.it.state (next_state s) a.passes)))

    keeps_rows : KeepsRows s add
    keeps_rows m has_ = any_left (is_of m) s.history.rows f has_

    pub add_ready : IsTakeDue ev out made.req put × (MayChange s put × KeepsRows s put)
    add_ready =
        subst (λ (c : Change). IsTakeDue ev out made.req c × (MayChange s c × KeepsRows s c)) (sym put_is) (
          take_due p out t blame made at told add (due p out t blame made at told add (ap (λ (w : What). change_of_made s its.d w) what)) fit refl,
          (may_change p out t blame made at told add fit numbers, keeps_rows),
        )

    -- ---- it is new

    unused : place_of s nav ≡ None
    unused = by_place (place_of s nav) refl
      where
        known_not : (number : ℕ) → number ≡ nav.0 → (number ≡ 0) ⊎ (has_nav s.history.added (record { 0 = number }) ≡ true) → ⊥
        known_not number same (inl zero_) =
            let is : (nav.0 == 0) ≡ true = rw (sym same ∙ zero_) refl in
            let never : true ≡ false = sym is ∙ unused_number.0 in cc
        known_not number same (inr known) =
            let never : true ≡ false = sym known ∙ ap (λ (k : ℕ). has_nav s.history.added (record { 0 = k })) same ∙ unused_number.1 in cc

        by_place : (o : Option Place) → place_of s nav ≡ o → place_of s nav ≡ None
        by_place None is = is
        by_place (Some x) is =
            absurd (known_not x.nav.0 (ap (λ (m : NavId). m.0) (found_nav s.places nav x is)) (tab.hangs.woven.each nav (form_of x) (form_there s.places nav x is)).known)

    unmoved_new : has_nav (moved_by s.requests t.running) nav ≡ false
    unmoved_new = by_run t.running
      where
        by_test : (x : Asked) (b : Bool) → has_nav x.moved nav ≡ b → (has_nav x.moved nav ≡ true → place_of s nav ≡ None → ⊥) → b ≡ false
        by_test x false is there = refl
        by_test x true is there = absurd (there is unused)

        placed : (r : ReqId) (x : Asked) → request_in s.requests r ≡ Some x → has_nav x.moved nav ≡ true → place_of s nav ≡ None → ⊥
        placed r x found is none =
            let has_ = at.passing.going.lasting.moves.there r x found nav is in
            let never : None ≡ Some has_.place = sym none ∙ has_.found in cc

        by_found : (r : ReqId) (o : Option Asked) → request_in s.requests r ≡ o → has_nav (option_map_or (λ (x : Asked). x.moved) o []) nav ≡ false
        by_found r None found = refl
        by_found r (Some x) found = by_test x (has_nav x.moved nav) refl (placed r x found)

        by_run : (o : Option ReqId) → has_nav (moved_by s.requests o) nav ≡ false
        by_run None = refl
        by_run (Some r) = by_found r (request_in s.requests r) refl

    no_node : node_of nav t.tree ≡ None
    no_node =
        by_node (node_of nav t.tree) (subst (λ (o : Option Place). AreTied (map sight s.documents) (moved_by s.requests t.running) nav (node_of nav t.tree) o) unused (at.passing.work.holds.navs.navs nav))
      where
        by_node : (o : Option Node) → AreTied (map sight s.documents) (moved_by s.requests t.running) nav o None → o ≡ None
        by_node None tied = refl
        by_node (Some node) tied = absurd tied

    -- ---- its parent

    holder_is : holder_of its.d.state s.history.rows ≡ Some its.d.nav
    holder_is =
        let a : Passing (λ (r : Row). r.state.0 == its.d.state.0) s.history.rows = any_has (λ (r : Row). r.state.0 == its.d.state.0) s.history.rows state_has in
        let found = has_found (λ (r : Row). r.state.0 == its.d.state.0) s.history.rows a.it a.there a.passes in
        let h = find_has (λ (r : Row). r.state.0 == its.d.state.0) s.history.rows found.0 found.1 in
        let nav_is_ : found.0.nav ≡ its.d.nav = tab.whose.whose made.doc its.d found.0 its.found h.0 (state_is found.0.state its.d.state h.1) in
        ap (λ (o : Option Row). option_map (λ (r : Row). r.nav) o) found.1 ∙ ap (λ (m : NavId). Some m) nav_is_

    pub is_added : (parent : NavId) → nav_found t made.doc ≡ Some parent → IsAdded s t.tree t.running owner nav parent
    is_added parent found =
        let same : its.d.nav ≡ parent = some_same (sym its.noted ∙ found) in
        subst (λ (m : NavId). IsAdded s t.tree t.running owner nav m) same (subst (λ (x : StateId). IsAdded s t.tree t.running x nav its.d.nav) (sym owner_is) (record {
          up = its.place;
          holder = holder_is;
          up_there = its.placed;
          new_nav = unused;
          unmoved = unmoved_new;
          no_node = no_node;
          parent_node = ap (λ (o : Option Node). is_some o) its.there;
        }))

    -- ---- all goes on

    abbrev n : Seen
    n = after_change p out t blame made at add

    ends : IsToEnd p.hand s made.req
    ends =
        no_entry_end p.hand s made.req made (ap (λ (o : Option Asked). option_and_then (λ (x : Asked). x.made) o) at.taking.there ∙ at.taking.makes) none (λ m there same. subst (λ (x : Made). IsNoEntry x.what) (sym (its_hand p out t blame made at m there same)) none)
      where
        none : IsNoEntry made.what
        none = subst (λ (w : What). IsNoEntry w) (sym what) tt

    tab_n : IsTab t.running p.loads left n
    tab_n =
        loads_same p out t blame made at n
        (added_tab t.running p.loads p.hand s ev.event ev.actor tab made.req (q p out t blame made at told) at.taking.there at.taking.open_ (apart_run p out t blame made at) (carried p out t blame made at) ends its.d.state nav fit)

    going_n : IsGoing t.running p.loads left n
    going_n =
        added_going t.running p.loads p.hand s ev.event ev.actor at.passing.going made.req (q p out t blame made at told) at.taking.there at.taking.open_ its.d.state nav (next_entry_of s) (next_state s) state_has p.loads left tab_n (added_lasting s ev.event ev.actor at.passing.going.lasting made.req its.d.state nav (next_entry_of s) (next_state s) unused)

    abbrev new : Place
    new = new_place made.req nav its.d.state its.place

    places_n : n.places ≡ s.places ++ new ∷ []
    places_n =
        none_taken s.history n.history made.req (places_added s made.req its.d.state nav) none_lost
        ∙ ap (λ (o : Option NavId). option_map_or (λ (parent : Place). s.places ++ new_place made.req nav its.d.state parent ∷ []) (option_and_then (place_of s) o) s.places) holder_is
        ∙ ap (λ (o : Option Place). option_map_or (λ (parent : Place). s.places ++ new_place made.req nav its.d.state parent ∷ []) o s.places) its.placed
      where
        none_lost : (x : Place) → (has_row x.nav s.history.rows && not (has_row x.nav n.history.rows)) ≡ false
        none_lost x = by_test (has_row x.nav s.history.rows) refl
          where
            by_test : (b : Bool) → has_row x.nav s.history.rows ≡ b → (b && not (has_row x.nav n.history.rows)) ≡ false
            by_test false is = refl
            by_test true is = rw (keeps_rows x.nav is) refl

    documents_n : n.documents ≡ s.documents
    documents_n = map_itself s.documents

    document_same : (doc : DocId) → document_of n doc ≡ document_of s doc
    document_same doc = ap (λ (l : List Document). document_in l doc) documents_n

    -- ---- the places

    old_in : (m : NavId) (x : Place) → place_of s m ≡ Some x → place_of n m ≡ Some x
    old_in = old_place s n tab.sound tab.hangs tab_n.sound tab_n.hangs nav f refl refl unused new places_n

    was : (m : NavId) (x : Place) → place_of n m ≡ Some x → (place_of s m ≡ Some x) ⊎ ((new ≡ x) × ((new.nav.0 == m.0) ≡ true))
    was = was_or_new s n tab.sound tab.hangs tab_n.sound tab_n.hangs nav f refl refl unused new places_n

    -- who is awake was there
    was_awake : (m : NavId) (x : Place) (doc : DocId) → place_of n m ≡ Some x → x.status ≡ awake doc → place_of s m ≡ Some x
    was_awake m x doc found wakes_ = by_case (was m x found)
      where
        by_case : (place_of s m ≡ Some x) ⊎ ((new ≡ x) × ((new.nav.0 == m.0) ≡ true)) → place_of s m ≡ Some x
        by_case (inl is) = is
        by_case (inr is) = (let never : asleep ≡ awake doc = ap (λ (y : Place). y.status) is.0 ∙ wakes_ in absurd cc)

    base : IsOpen ev t.running whys.Start s
    base = at.open_.open_ whys.Start (λ r never. absurd cc)

    parent_last : is_some its.place.last ≡ true
    parent_last =
        let home : IsHomed s.documents its.place made.doc = tab.homes.homed its.d.nav its.place made.doc its.placed (wakes p out t blame made at told) in
        ap (λ (o : Option DocId). is_some o) home.last

    parents_n : ParentsShown n
    parents_n m above x up placed has_ there = by_up (was above up there)
      where
        of_old : place_of s above ≡ Some up → is_some up.last ≡ true
        of_old up_there = by_own (was m x placed)
          where
            in_new : has_nav (its.place.nav ∷ its.place.above) above ≡ true → is_some up.last ≡ true
            in_new in_ = by_first (its.place.nav.0 == above.0) refl in_
              where
                by_first : (b : Bool) → (its.place.nav.0 == above.0) ≡ b → (b || has_nav its.place.above above) ≡ true → is_some up.last ≡ true
                by_first true same h =
                    let one : its.place ≡ up = some_same (sym its.placed ∙ ap (λ (y : NavId). place_of s y) (sym its.nav_is ∙ nav_is its.place.nav above same) ∙ up_there) in
                    ap (λ (y : Place). is_some y.last) (sym one) ∙ parent_last
                by_first false other h = base.parents its.d.nav above its.place up its.placed h up_there

            by_own : (place_of s m ≡ Some x) ⊎ ((new ≡ x) × ((new.nav.0 == m.0) ≡ true)) → is_some up.last ≡ true
            by_own (inl is) = base.parents m above x up is has_ up_there
            by_own (inr is) = in_new (ap (λ (y : Place). has_nav y.above above) is.0 ∙ has_)

        by_up : (place_of s above ≡ Some up) ⊎ ((new ≡ up) × ((new.nav.0 == above.0) ≡ true)) → is_some up.last ≡ true
        by_up (inl is) = of_old is
        by_up (inr is) = absurd (no_above (nav_is nav above is.1) (was m x placed))
          where
            -- nobody is below the new one
            none_in : (y : NavId) (z : Place) → place_of s y ≡ Some z → has_nav (y ∷ z.above) nav ≡ true → ⊥
            none_in y z found in_ = by_first (y.0 == nav.0) refl in_
              where
                by_first : (b : Bool) → (y.0 == nav.0) ≡ b → (b || has_nav z.above nav) ≡ true → ⊥
                by_first true same h =
                    let never : None ≡ Some z = sym unused ∙ ap (λ (k : NavId). place_of s k) (sym (nav_is y nav same)) ∙ found in cc
                by_first false other h =
                    let w = way_there s tab.sound tab.hangs y z found nav h in
                    let never : None ≡ Some w.0 = sym unused ∙ w.1 in cc

            later : (a b : Bool) → b ≡ true → (a || b) ≡ true
            later true b h = refl
            later false b h = h

            no_above : nav ≡ above → (place_of s m ≡ Some x) ⊎ ((new ≡ x) × ((new.nav.0 == m.0) ≡ true)) → ⊥
            no_above same (inl found) =
                none_in m x found (later (m.0 == nav.0) (has_nav x.above nav) (ap (λ (k : NavId). has_nav x.above k) same ∙ has_))
            no_above same (inr new_is) =
                none_in its.d.nav its.place its.placed (ap (λ (k : NavId). has_nav (k ∷ its.place.above) nav) (sym its.nav_is) ∙ ap (λ (k : NavId). has_nav (its.place.nav ∷ its.place.above) k) same ∙ ap (λ (y : Place). has_nav y.above above) new_is.0 ∙ has_)

    takers_n : TakersServe n
    takers_n m x r found is = by_case (was m x found)
      where
        by_case : (place_of s m ≡ Some x) ⊎ ((new ≡ x) × ((new.nav.0 == m.0) ≡ true)) → MayServe n r
        by_case (inl there) =
            serve_on s n r (causes p out t blame made at add tab_n) (base.takers m x r there is)
        by_case (inr new_is) = (let never : None ≡ Some r = ap (λ (y : Place). y.taken_by) new_is.0 ∙ is in absurd cc)

    -- ---- the aim, and loads

    aim : aim_of n ≡ aim_of s
    aim = aim_then p out t blame made at add tab_n ∙ by_run t.running ∙ sym (aim_was p out t blame made at add)
      where
        least : IsLeast s.history.rows its.d.state
        least = least_row s.history.rows its.d.state state_has

        by_run : (run : Option ReqId) → aim_in n.history run t.goal ≡ aim_in s.history run t.goal
        by_run None = refl
        by_run (Some run) = used_more s.history.rows f least.row least.there least.is t.goal.0

    row_on : (m : NavId) (x : Place) → place_of s m ≡ Some x → has_row m n.history.rows ≡ has_row m s.history.rows
    row_on m x found = by_test (has_row m s.history.rows) refl
      where
        other : is_of m f ≡ false
        other = apart s n tab.sound tab.hangs tab_n.sound tab_n.hangs nav f refl refl unused new places_n m x found

        back : has_row m n.history.rows ≡ true → has_row m s.history.rows ≡ true
        back is = by_place (has_more s.history.rows f a.it a.there)
          where
            a : Passing (is_of m) (s.history.rows ++ f ∷ [])
            a = any_has (is_of m) (s.history.rows ++ f ∷ []) is

            by_place : Has s.history.rows a.it ⊎ (f ≡ a.it) → has_row m s.history.rows ≡ true
            by_place (inl there) = has_any (is_of m) s.history.rows a.it there a.passes
            by_place (inr same) =
                let never : false ≡ true = sym other ∙ ap (λ (r : Row). is_of m r) same ∙ a.passes in absurd cc

        by_then : (b : Bool) → has_row m n.history.rows ≡ b → has_row m s.history.rows ≡ false → b ≡ false
        by_then false is none = refl
        by_then true is none = (let never : true ≡ false = sym (back is) ∙ none in absurd cc)

        by_test : (b : Bool) → has_row m s.history.rows ≡ b → has_row m n.history.rows ≡ b
        by_test true is = keeps_rows m is
        by_test false is = by_then (has_row m n.history.rows) refl is

    stand_bare : StandOrBare s → (r : ReqId) (m : NavId) → IsLoadOf n r m → (is_reached n m ≡ true) ⊎ IsBare n m
    stand_bare so r m load = by_case (so r m was_load)
      where
        was_load : IsLoadOf s r m
        was_load = loads_back p out t blame made at add r m load

        x : (y : Place) × (place_of s m ≡ Some y)
        x = tab_placed t.running p.loads p.hand s tab r m was_load

        by_case : (is_reached s m ≡ true) ⊎ IsBare s m → (is_reached n m ≡ true) ⊎ IsBare n m
        by_case (inl is) =
            inl (reached_on s n tab.sound tab.hangs tab_n.sound tab_n.hangs nav f refl refl unused new places_n aim m x.0 x.1 ∙ is)
        by_case (inr is) = inr (row_on m x.0 x.1 ∙ is)

    stand_move : StandOrMove s → (r : ReqId) (m : NavId) → IsLoadOf n r m → (is_reached n m ≡ true) ⊎ (IsUnsettled n m ⊎ IsBare n m)
    stand_move so r m load = by_case (so r m was_load)
      where
        was_load : IsLoadOf s r m
        was_load = loads_back p out t blame made at add r m load

        x : (y : Place) × (place_of s m ≡ Some y)
        x = tab_placed t.running p.loads p.hand s tab r m was_load

        unsettled_on : IsUnsettled s m → IsUnsettled n m
        unsettled_on away =
            record {
              place = away.place;
              placed = old_in m away.place away.placed;
              mover = away.mover;
              on_way = away.on_way;
              own = away.own;
              there = old_in away.mover away.own away.there;
              need = visited_on s n tab.sound tab.hangs tab_n.sound tab_n.hangs nav f refl refl unused new places_n aim away.mover away.own away.there away.need;
            }

        by_case : (is_reached s m ≡ true) ⊎ (IsUnsettled s m ⊎ IsBare s m) → (is_reached n m ≡ true) ⊎ (IsUnsettled n m ⊎ IsBare n m)
        by_case (inl is) =
            inl (reached_on s n tab.sound tab.hangs tab_n.sound tab_n.hangs nav f refl refl unused new places_n aim m x.0 x.1 ∙ is)
        by_case (inr (inl is)) = inr (inl (unsettled_on is))
        by_case (inr (inr is)) = inr (inr (row_on m x.0 x.1 ∙ is))

    stand : (run : Option ReqId) → MayStand run s → MayStand run n
    stand None so = stand_bare so
    stand (Some run) so = stand_move so

    -- ---- stray documents

    state_was : (x : StateId) → has_state x n.history.rows ≡ false → has_state x s.history.rows ≡ false
    state_was x none = by_test (has_state x s.history.rows) refl
      where
        by_test : (b : Bool) → has_state x s.history.rows ≡ b → b ≡ false
        by_test false is = refl
        by_test true is =
            (let never : true ≡ false = sym (any_left (λ (r : Row). r.state.0 == x.0) s.history.rows f is) ∙ none in absurd cc)

    blamed : AreBlamed n blame
    blamed doc state_ stray =
        by_old (at.open_.blamed doc state_ (record {
          document = stray.document;
          found = sym (document_same doc) ∙ stray.found;
          its_state = stray.its_state;
          ready = stray.ready;
          undiscarded = stray.undiscarded;
          bare = state_was state_ stray.bare;
          unloaded = stray_unloaded p out t blame made at add stray.document state_ stray.its_state stray.unloaded;
        }))
      where
        -- nobody awake on it is above the new frame
        not_above : (m : NavId) (x : Place) → place_of s m ≡ Some x → x.status ≡ awake doc → has_nav (its.place.nav ∷ its.place.above) m ≡ true → ⊥
        not_above m x found wakes_ in_ = by_first (its.place.nav.0 == m.0) refl in_
          where
            found_s : document_of s doc ≡ Some stray.document
            found_s = sym (document_same doc) ∙ stray.found

            contra : has_state stray.document.state s.history.rows ≡ true → ⊥
            contra has_ =
                let never : true ≡ false = sym has_ ∙ ap (λ (y : StateId). has_state y s.history.rows) stray.its_state ∙ state_was state_ stray.bare in cc

            by_first : (b : Bool) → (its.place.nav.0 == m.0) ≡ b → (b || has_nav its.place.above m) ≡ true → ⊥
            by_first true same h =
                let one : its.place ≡ x = some_same (sym its.placed ∙ ap (λ (y : NavId). place_of s y) (sym its.nav_is ∙ nav_is its.place.nav m same) ∙ found) in
                let status : awake made.doc ≡ awake doc = sym (wakes p out t blame made at told) ∙ ap (λ (y : Place). y.status) one ∙ wakes_ in
                let docs : made.doc ≡ doc = cc in
                let documents : its.d ≡ stray.document = some_same (sym its.found ∙ ap (λ (y : DocId). document_of s y) docs ∙ found_s) in
                contra (ap (λ (y : Document). has_state y.state s.history.rows) (sym documents) ∙ state_has)
            by_first false other h =
                contra (way_entered t.running p.loads p.hand s tab its.d.nav its.place made.doc its.placed (wakes p out t blame made at told) (has p out t blame made at told) m x doc stray.document h found wakes_ found_s)

        by_old : IsBlamed s blame doc state_ → IsBlamed n blame doc state_
        by_old before =
            record {
              req = before.req;
              noted = before.noted;
              may = serve_on s n before.req (causes p out t blame made at add tab_n) before.may;
              moves = λ m x other under placed wakes_ there is. by_under m x other under (was_awake m x doc placed wakes_) wakes_ (was other under there) is;
              leaves = λ m x placed wakes_. leave_on p out t blame made at add tab_n before.req m before.may (way_was m x placed wakes_) (before.leaves m x (was_awake m x doc placed wakes_) wakes_);
            }
          where
            way_was : (m : NavId) (x : Place) → place_of n m ≡ Some x → x.status ≡ awake doc → way_to n m ≡ way_to s m
            way_was m x placed wakes_ =
                way_same s n m (ap (option_map (λ (y : Place). y.above)) placed ∙ sym (ap (option_map (λ (y : Place). y.above)) (was_awake m x doc placed wakes_)))

            by_under : (m : NavId) (x : Place) (other : NavId) (under : Place) → place_of s m ≡ Some x → x.status ≡ awake doc → (place_of s other ≡ Some under) ⊎ ((new ≡ under) × ((new.nav.0 == other.0) ≡ true)) → ((other.0 == m.0) ≡ true) ⊎ (is_below m under ≡ true) → IsMovedBy n (whys.Req before.req) other
            by_under m x other under found wakes_ (inl there) is =
                moved_on p out t blame made at add (whys.Req before.req) other (before.moves m x other under found wakes_ there is)
            by_under m x other under found wakes_ (inr new_is) (inl same) =
                let named : nav ≡ m = nav_is nav other new_is.1 ∙ nav_is other m same in
                let never : None ≡ Some x = sym unused ∙ ap (λ (y : NavId). place_of s y) named ∙ found in
                absurd cc
            by_under m x other under found wakes_ (inr new_is) (inr below) =
                absurd (not_above m x found wakes_ (ap (λ (y : Place). has_nav y.above m) new_is.0 ∙ below))

    -- ---- where navigables are

    here_on : (m : NavId) (x : Place) → place_of s m ≡ Some x → IsHere s x → IsHere n x
    here_on m x found is =
        record {
          shown = ap (λ (k : NavId). is_shown n.history.rows s.history.current k) own_nav ∙ shown_same s n tab.sound tab.hangs tab_n.sound tab_n.hangs nav f refl refl unused new places_n m x found s.history.current ∙ ap (λ (k : NavId). is_shown s.history.rows s.history.current k) (sym own_nav) ∙ is.shown;
          target = given_same s n tab.sound tab.hangs tab_n.sound tab_n.hangs nav f refl refl unused new places_n m x found s.history.current ∙ is.target;
        }
      where
        own_nav : x.nav ≡ m
        own_nav = found_nav s.places m x found

    calm_on : (run : Option ReqId) → CalmUnless IsCalmYet run s → CalmUnless IsCalmYet run n
    calm_on (Some run) so = tt
    calm_on None so =
        record {
          here = λ m x doc found wakes_. (let there = was_awake m x doc found wakes_ in by_here m x there (so.here m x doc there wakes_));
          wakes = λ m x found shown epoch. by_wakes m x (was m x found) shown epoch;
        }
      where
        by_here : (m : NavId) (x : Place) → place_of s m ≡ Some x → (has_row m s.history.rows ≡ false) ⊎ IsHere s x → (has_row m n.history.rows ≡ false) ⊎ IsHere n x
        by_here m x there (inl is) = inl (row_on m x there ∙ is)
        by_here m x there (inr is) = inr (here_on m x there is)

        again : (m : NavId) (x : Place) → place_of s m ≡ Some x → (has_row m s.history.rows ≡ false) ⊎ (is_awake x ≡ true) → (has_row m n.history.rows ≡ false) ⊎ (is_awake x ≡ true)
        again m x there (inl is) = inl (row_on m x there ∙ is)
        again m x there (inr is) = inr is

        by_wakes : (m : NavId) (x : Place) → (place_of s m ≡ Some x) ⊎ ((new ≡ x) × ((new.nav.0 == m.0) ≡ true)) → is_shown n.history.rows n.history.current x.nav ≡ true → 1 ≤ x.epoch.0 → (has_row m n.history.rows ≡ false) ⊎ (is_awake x ≡ true)
        by_wakes m x (inl there) shown epoch =
            let own_nav : x.nav ≡ m = found_nav s.places m x there in
            again m x there (so.wakes m x there (ap (λ (k : NavId). is_shown s.history.rows s.history.current k) own_nav ∙ sym (shown_same s n tab.sound tab.hangs tab_n.sound tab_n.hangs nav f refl refl unused new places_n m x there s.history.current) ∙ ap (λ (k : NavId). is_shown n.history.rows s.history.current k) (sym own_nav) ∙ shown) epoch)
        by_wakes m x (inr new_is) shown epoch =
            (let low : 1 ≤ new.epoch.0 = subst (λ (y : Place). 1 ≤ y.epoch.0) (sym new_is.0) epoch in absurd (omega (arith, low)))

    unmoved_n : UnmovedAreHere n
    unmoved_n m x doc found wakes_ has_ still =
        let there = was_awake m x doc found wakes_ in
        here_on m x there (at.open_.unmoved m x doc there wakes_ (sym (row_on m x there) ∙ has_) (sym (moved_same p out t blame made at add tab_n m) ∙ still))

    rooted_n : AreRooted n
    rooted_n m x doc d_ found wakes_ there has_ = by_has (has_state d_.state s.history.rows) refl
      where
        placed : place_of s m ≡ Some x
        placed = was_awake m x doc found wakes_

        found_s : document_of s doc ≡ Some d_
        found_s = sym (document_same doc) ∙ there

        by_root : IsRooted s x d_ → IsRooted n x d_
        by_root (inl root) = inl (root.0, into_more s.history.rows f root.0 root.1, root.2, root.3)
        by_root (inr root) = inr (root.0, into_more s.history.rows f root.0 root.1, root.2, root.3)

        only_new : has_state d_.state s.history.rows ≡ false → ⊥
        only_new none = by_place (has_more s.history.rows f a.it a.there)
          where
            a : Passing (λ (r : Row). r.state.0 == d_.state.0) (s.history.rows ++ f ∷ [])
            a = any_has (λ (r : Row). r.state.0 == d_.state.0) (s.history.rows ++ f ∷ []) has_

            by_place : Has s.history.rows a.it ⊎ (f ≡ a.it) → ⊥
            by_place (inl in_) =
                let never : true ≡ false = sym (has_any (λ (r : Row). r.state.0 == d_.state.0) s.history.rows a.it in_ a.passes) ∙ none in cc
            by_place (inr same) =
                new_to t.running p.loads p.hand s tab doc d_ found_s (ap (λ (r : Row). r.state) same ∙ state_is a.it.state d_.state a.passes)

        by_has : (b : Bool) → has_state d_.state s.history.rows ≡ b → IsRooted n x d_
        by_has true is = by_root (at.open_.rooted m x doc d_ placed wakes_ found_s is)
        by_has false is = absurd (only_new is)

    well : FitsWell s add
    well =
        record {
          sound = tab.sound;
          hangs = tab.hangs;
          fit = fit;
          brings = new_state t.running p.loads p.hand s tab;
          then_sound = tab_n.sound;
        }

    add_after : IsAfter p out t blame made at add blame
    add_after =
        record {
          tab_n = tab_n;
          going = going_n;
          parents = parents_n;
          takers = takers_n;
          loads = stand t.running at.open_.loads;
          blamed = blamed;
          calm = calm_on t.running at.open_.calm;
          unmoved = unmoved_n;
          rooted = rooted_n;
          usable = λ state_. ap (λ (l : List Document). list_any (λ (x : Document). is_usable x state_) l) documents_n;
          well = well;
          keeps = nobodys_yet s ev.event ev.actor made.req its.d.state nav (next_entry_of s) (next_state s) well (λ doc d found. (tab.docs.each doc d found).placed);
        }

    pub add_done : (more : List RowKind) (u : Tables) → more ≡ out ++ rows.Applied made.req put ∷ [] → KeepsRun t u → IsAtWork ev more u → HasTaken p t made out more u blame
    add_done more u out_is keeps work =
        has_applied p out t blame made at add blame add_after more u (out_is ∙ ap (λ (c : Change). out ++ rows.Applied made.req c ∷ []) put_is) keeps work refl refl
