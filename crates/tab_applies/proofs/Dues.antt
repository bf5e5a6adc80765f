-- What the door of an applied load asks, of a ready load whose navigable stands.
use Rattle.history_laws.proofs.Joining.{entry_same}
use Rattle.tab_facts.proofs.FrameWhole.Soundly.{none_entry}
use Rattle.seen_facts.proofs.Hang.Members.{any_has, find_has, has_any}
use Rattle.seen_facts.proofs.Hang.Targets.{IsTarget, target_has}
use Rattle.seen_facts.specs.Hang.Members.{Has}
use Rattle.load_doors.specs.Applying.{IsApplyDue, new_entry}
use Rattle.seen_facts.specs.Load.Loading.{IsLoading, look}
use Rattle.row_facts.proofs.LoadRows.Loads.{load_in_order}
use Rattle.load_table.specs.Loads.{ongoing_load}
use Rattle.load_table.specs.declared.load.Load.{Load}
use Rattle.seen_facts.proofs.LoadTies.Begins.{found_nav}
use Rattle.seen_facts.proofs.Walk.Placed.{found_nav as found_nav_of}
use Rattle.seen_facts.specs.LoadTies.Tying.{IsLoadTied, is_for_state, made_for, phase_with}
use Rattle.log_model.proofs.Refl.{nat_eq_refl}
use Rattle.log_model.specs.Equal.{holds}
use Rattle.log_model.specs.History.{fits, has_row, is_of, same_entry, target_entry}
use Rattle.log_model.specs.Once.{change_of_load, next_entry_of}
use Rattle.log_model.specs.Places.{aim_of, has_arrived, is_given_target, is_load, is_placed, is_shown, is_standing, stands}
use Rattle.log_model.specs.Seen.{Asked, Document, Place, Seen, document_of, place_of}
use Rattle.log_model.specs.declared.change.Change.{Change}
use Rattle.log_model.specs.declared.row.Row.{Row}
use Rattle.log_model.specs.declared.row_kind.RowKind.{RowKind}
use Rattle.navigate_core.specs.Navigations.{change_for}
use Rattle.seen_laws.specs.InEvent.{InEvent, now_of}
use Rattle.std.proofs.Common.{Bool, List, None, Option, Some, [], ap, arith, false, not, refl, subst, sym, true, ℕ, ◌&&◌, ◌+◌, ◌==◌, ◌∙◌, ◌≡◌, ◌≤◌}
use Rattle.std.proofs.lemmas.Bool.{and_parts}
use Rattle.tab_applies.specs.Applying.{MayApply, given_in}
use Rattle.tab_doors.proofs.Holding.{its_node}
use Rattle.std.specs.Prelude.{IsSome}
use Rattle.tab_doors.specs.Dues.{MayChange}
use Rattle.tab_doors.specs.declared.tables.Tables.{Tables}
use Rattle.tab_turns.proofs.Ends.{count_few}
use Rattle.tab_turns.proofs.Begins.{IsGoing, IsTab, IsUnheld, aim_is}
use Rattle.tab_turns.specs.PassedOn.{AreSteps, InPass, IsPassing, has_ended}
use Rattle.tab_ids.specs.declared.EntryId.{EntryId}
use Rattle.tab_ids.specs.declared.NavId.{NavId}
use Rattle.tab_ids.specs.declared.ReqId.{ReqId}
use Rattle.load_table.specs.declared.phase.Phase.TheVariants as phases
use Rattle.log_model.specs.declared.change.Change.TheVariants as changes
use Rattle.log_model.specs.declared.request.Request.TheVariants as requests
use Rattle.seen_facts.proofs.Coord.Unread.{next}
use Rattle.entry_store.specs.Store.{IsStateOf, MayTake}
use Rattle.seen_facts.specs.Hang.Forms.{forms_of}
use Rattle.row_facts.specs.LoadRows.Loaded.{AreDocumentsNumbered}
use Rattle.load_table.specs.declared.phase.Phase.{Phase}
use Rattle.seen_facts.specs.LoadWhereabouts.Whereabouts.{times_on_way}
use Rattle.log_model.specs.ActsAtOnce.{has_document}
use Rattle.log_model.specs.History.{cleared}
use Rattle.log_model.specs.Orders.{is_usable}
use Rattle.log_model.specs.Seen.{request_in}
use Rattle.log_model.specs.Soundness.{is_entry, is_in_state}
use Rattle.seen_facts.proofs.Hang.Members.{has_found}
use Rattle.std.proofs.Common.{if◌then◌else◌, inl, inr, map, ◌<◌, ◌^◌, ◌||◌, ◌∷◌}
use Rattle.std.specs.List.{list_all, list_any}
use Rattle.std.specs.Prelude.{is_none, nat_lt, option_and_then, option_map}
use Rattle.std.proofs.lemmas.Bool.Decides.{nat_tests}
use Rattle.tab_facts.proofs.ShownWays.Cleared.{shown_left}
use Rattle.tab_applies.proofs.Sees.{sees}
use Rattle.tab_doors.proofs.Sights.{seen_of}
use Rattle.tab_doors.specs.Dues.{SeesRows}
use Rattle.tab_doors.specs.Look.{Sight, look_of, sight, sight_in}
use Rattle.tab_turns.proofs.PassedOn.{fresh, pushed_steps, replaced_steps, way_unheld}
use Rattle.tab_ids.specs.declared.DocId.{DocId}
use Rattle.tab_ids.specs.declared.StateId.{StateId}
use Rattle.tab_turns.proofs.Turned.{goes_on}
use Rattle.tab_turns.proofs.Firsts.{none_under_way}
use Rattle.log_model.specs.declared.row_kind.RowKind.TheVariants as rows

-- the navigable's target at the aim, which it was given
pub record IsGivenAt (s : Seen) (nav : NavId) : Type 0 where
  pub place : Place
  pub placed : place_of s nav ≡ Some place
  pub target : Row
  pub at : target_entry s.history.rows nav (aim_of s) ≡ Some target
  pub given : place.given ≡ Some target.entry
  pub shown : is_shown s.history.rows (aim_of s) nav ≡ true

-- so it is of one that is placed
pub given_at : (s : Seen) (nav : NavId) → is_placed s (aim_of s) nav ≡ true → IsGivenAt s nav
given_at s nav is = by_place (place_of s nav) refl
  where
    parts : (is_shown s.history.rows (aim_of s) nav ≡ true) × (stands s (aim_of s) nav ≡ true)
    parts = and_parts (is_shown s.history.rows (aim_of s) nav) (stands s (aim_of s) nav) is

    by_given : (place : Place) (target : Row) → place_of s nav ≡ Some place → target_entry s.history.rows nav (aim_of s) ≡ Some target → (o : Option EntryId) → place.given ≡ o → holds (same_entry target.entry) o ≡ true → IsGivenAt s nav
    by_given place target placed at None given h = absurd cc
    by_given place target placed at (Some entry) given h =
        record {
          place = place;
          placed = placed;
          target = target;
          at = at;
          given = given ∙ ap (λ (e : EntryId). Some e) (sym (entry_same target.entry entry h));
          shown = parts.0;
        }

    by_target : (place : Place) → place_of s nav ≡ Some place → (o : Option Row) → target_entry s.history.rows nav (aim_of s) ≡ o → holds (λ (row : Row). holds (same_entry row.entry) place.given) o ≡ true → IsGivenAt s nav
    by_target place placed None at h = absurd cc
    by_target place placed (Some target) at h = by_given place target placed at place.given refl h

    by_place : (o : Option Place) → place_of s nav ≡ o → IsGivenAt s nav
    by_place None placed =
        let never : false ≡ true = sym (ap (holds (is_standing s.history.rows (aim_of s))) placed) ∙ parts.1 in absurd cc
    by_place (Some place) placed =
        let standing : is_standing s.history.rows (aim_of s) place ≡ true = sym (ap (holds (is_standing s.history.rows (aim_of s))) placed) ∙ parts.1 in
        let target : is_given_target s.history.rows (aim_of s) place ≡ true = (and_parts (is_given_target s.history.rows (aim_of s) place) (not place.is_unmet) (and_parts (is_given_target s.history.rows (aim_of s) place && not place.is_unmet) (has_arrived place) standing).0).0 in
        by_target place placed (target_entry s.history.rows nav (aim_of s)) refl (ap (λ (n : NavId). holds (λ (row : Row). holds (same_entry row.entry) place.given) (target_entry s.history.rows n (aim_of s))) (sym (found_nav_of s.places nav place placed)) ∙ target)

-- ---- the load

module _ (p : InPass) (out : List RowKind) (t : Tables) (passing : IsPassing p out t) (nav : NavId) (load : Load) (at : ongoing_load nav t.loads ≡ Some load) (idle : t.running ≡ None) (may : MayApply p.event (now_of p.event out) nav load) where
  abbrev e : InEvent
  e = p.event

  abbrev s : Seen
  s = now_of e out

  pub going : IsGoing None p.loads p.hand s
  going = subst (λ (r : Option ReqId). IsGoing r p.loads p.hand s) idle passing.going

  pub tab : IsTab None p.loads p.hand s
  tab = going.tab

  pub tie : IsLoadTied s load
  tie = passing.work.loads.there nav load at

  pub own_nav : load.nav ≡ nav
  own_nav = found_nav nav t.loads load at

  pub what_is : tie.q.what ≡ requests.Load nav tie.mode load.address
  what_is = tie.what ∙ ap (λ (n : NavId). requests.Load n tie.mode load.address) own_nav

  pub given : IsGivenAt s nav
  given = given_at s nav may.placed

  -- none runs, so the aim is the current step
  pub aim_now : aim_of s ≡ s.history.current
  aim_now = aim_is s None tab.asked t.goal (λ r q never found. absurd (let no_ : None ≡ Some r = never in cc))

  pub next_is : new_entry t ≡ next_entry_of s
  next_is = ap (λ (n : ℕ). let x : EntryId = record { maker = 0; nr = n + 1 } in x) passing.work.holds.entries

  pub loading : IsLoading s (look tie.q)
  loading = tab.loading.each load.req (look tie.q) (ap (λ (o : Option Asked). option_map look o) tie.found) tie.ongoing

  -- the tables tell it
  given_is : given_in t.tree nav ≡ given.place.given
  given_is = let h = its_node (look_of s t.running) t.tree nav given.place passing.work.holds.navs given.placed in rw h.there h.tied.given

  pub given_some : IsSome (given_in t.tree nav)
  given_some = subst (λ (o : Option EntryId). IsSome o) (sym (given_is ∙ given.given)) refl

  pub given_there : (over : EntryId) → given_in t.tree nav ≡ Some over → given.place.given ≡ Some over
  given_there over is = sym given_is ∙ is

  module _ (over : EntryId) (over_is : given.place.given ≡ Some over) where
    abbrev pub change : Change
    change = change_for load over (new_entry t)

    over_target : over ≡ given.target.entry
    over_target = (let both : Some over ≡ Some given.target.entry = sym over_is ∙ given.given in cc)

    pub due_is : change_of_load s tie.q nav load.address ≡ Some change
    due_is = by_replace load.replace refl
      where
        with_state : option_map (λ (o : EntryId). changes.Replace nav o (next_entry_of s) load.state load.address None) (option_and_then (λ (q : Place). q.given) (place_of s nav)) ≡ Some (changes.Replace nav over (next_entry_of s) load.state load.address None)
        with_state = ap (λ (o : Option Place). option_map (λ (x : EntryId). changes.Replace nav x (next_entry_of s) load.state load.address None) (option_and_then (λ (q : Place). q.given) o)) given.placed ∙ ap (λ (o : Option EntryId). option_map (λ (x : EntryId). changes.Replace nav x (next_entry_of s) load.state load.address None) o) over_is

        by_replace : (b : Bool) → load.replace ≡ b → change_of_load s tie.q nav load.address ≡ Some change
        by_replace true is =
            rw (sym tie.replace ∙ is, tie.state) (with_state ∙ ap (λ (c : Change). Some c) (ap (λ (x : EntryId). changes.Replace nav over x load.state load.address None) (sym next_is) ∙ ap (λ (n : NavId). changes.Replace n over (new_entry t) load.state load.address None) (sym own_nav) ∙ sym (ap (λ (b : Bool). if b then changes.Replace load.nav over (new_entry t) load.state load.address None else changes.Push load.nav (new_entry t) load.state load.address None) is)))
        by_replace false is =
            rw (sym tie.replace ∙ is, tie.state) (ap (λ (c : Change). Some c) (ap (λ (x : EntryId). changes.Push nav x load.state load.address None) (sym next_is) ∙ ap (λ (n : NavId). changes.Push n (new_entry t) load.state load.address None) (sym own_nav) ∙ sym (ap (λ (b : Bool). if b then changes.Replace load.nav over (new_entry t) load.state load.address None else changes.Push load.nav (new_entry t) load.state load.address None) is)))

    -- ---- it fits, and its numbers are new

    tgt : IsTarget s.history.rows nav (aim_of s) given.target
    tgt = target_has s.history.rows nav (aim_of s) given.target given.at

    own_row : is_of load.nav given.target ≡ true
    own_row = ap (λ (n : NavId). n.0 == load.nav.0) (tgt.nav_is ∙ sym own_nav) ∙ nat_eq_refl load.nav.0

    same_over : same_entry given.target.entry over ≡ true
    same_over =
        ap (same_entry given.target.entry) over_target ∙ rw (nat_eq_refl given.target.entry.maker) (nat_eq_refl given.target.entry.nr)

    abbrev change_by : Bool → Change
    change_by b = if b then changes.Replace load.nav over (new_entry t) load.state load.address None else changes.Push load.nav (new_entry t) load.state load.address None

    fit_by : (b : Bool) → fits s.history (change_by b) ≡ true
    fit_by true =
        has_any (λ (row : Row). same_entry row.entry over && is_of load.nav row) s.history.rows given.target tgt.there (rw (same_over, own_row) refl)
    fit_by false =
        ap (λ (n : NavId). has_row n (cleared s.history)) own_nav
        ∙ shown_left s.history (forms_of s.places) tab.sound tab.hangs.rows nav given.target (ap (λ (step : ℕ). is_shown s.history.rows step nav) (sym aim_now) ∙ given.shown) (ap (λ (step : ℕ). target_entry s.history.rows nav step) (sym aim_now) ∙ given.at)

    pub fit : fits s.history change ≡ true
    fit = fit_by load.replace

    state_is : loading.state ≡ load.state
    state_is = (let both : Some loading.state ≡ Some load.state = sym loading.state_is ∙ tie.state in cc)

    -- no entry has its document state
    unheld : (row : Row) → Has s.history.rows row → row.state.0 ≡ load.state.0 → ⊥
    unheld row has same = loading.unheld row has (same ∙ ap (λ (x : StateId). x.0) (sym state_is))

    new_entry_here : list_any (is_entry (new_entry t)) s.history.rows ≡ false
    new_entry_here = none_entry s.history.rows (new_entry t) (λ row has same. fresh None p.loads p.hand s tab row has (same ∙ next_is))

    its_state : IsStateOf load.nav load.state s.history.rows
    its_state other is =
        let a = any_has (λ (row : Row). is_of other row && is_in_state load.state row) s.history.rows is in
        let both = and_parts (is_of other a.it) (is_in_state load.state a.it) a.passes in
        absurd (unheld a.it a.there (let same : a.it.state.0 ≡ load.state.0 = grind (arith, nat_tests, both.1) in same))

    may_by : (b : Bool) → MayTake s.history (change_by b)
    may_by true = (new_entry_here, its_state)
    may_by false = (new_entry_here, its_state)

    pub may_change : MayChange s change
    may_change =
        record { fits = fit; numbers = may_by load.replace; room = (let few = count_few has_ended s.requests in let now = going.steps.current in let room = going.room in omega (arith, few, now, room)) }

    -- ---- it is due

    unanswered : (a : Bool) (q : Asked) (c : Bool) → ((a && is_none q.ending) && c) ≡ true → (a ≡ true) × (q.ending ≡ None)
    unanswered a q c h = by_ending a q.ending c h
      where
        by_ending : {A : Type 0} (a : Bool) (o : Option A) (c : Bool) → ((a && is_none o) && c) ≡ true → (a ≡ true) × (o ≡ None)
        by_ending true None c e = (refl, refl)
        by_ending false None c e = absurd cc
        by_ending true (Some x) c e = absurd cc
        by_ending false (Some x) c e = absurd cc

    pub open_ : (tie.q.is_started ≡ true) × (tie.q.ending ≡ None)
    open_ = unanswered tie.q.is_started tie.q (is_load tie.q.what) tie.ongoing

    way : 0 < times_on_way (request_in s.requests load.req)
    way = (let found = tie.found in let going_ = tie.ongoing in let one : 0 < times_on_way (request_in s.requests load.req) = rw found (rw going_ (omega arith)) in one)

    pub unheld_at : IsUnheld None p.loads p.hand s tab load.req
    unheld_at = way_unheld None p.loads p.hand s tab load.req way

    -- each document has a number from 1 on
    numbered_from : (documents : List Document) → ((d : Document) → Has documents d → nat_lt 0 d.nr.0 ≡ true) → list_all (λ (d : Document). nat_lt 0 d.nr.0) documents ≡ true
    numbered_from [] each = refl
    numbered_from (d ∷ documents) each = rw (each d (inl refl)) (numbered_from documents (λ other has. each other (inr has)))

    real : (doc : DocId) (d : Document) → document_of s doc ≡ Some d → 1 ≤ d.nr.0
    real doc d found = (tab.entries.counted doc d found).real

    numbered : AreDocumentsNumbered s
    numbered = numbered_from s.documents (λ d has.
        let y = has_found (λ (x : Document). x.nr.0 == d.nr.0) s.documents d has (nat_eq_refl d.nr.0) in
        let low : 1 ≤ y.0.nr.0 = real d.nr y.0 y.1 in
        let same = (find_has (λ (x : Document). x.nr.0 == d.nr.0) s.documents y.0 y.1).1 in
        grind (arith, nat_tests, low, same))

    ready_by : (o : Option Document) → made_for s.documents load.state ≡ o → phase_with o ≡ phases.Ready may.doc → has_document s tie.q ≡ true
    ready_by None none h = absurd cc
    ready_by (Some d) found h =
        let it = find_has (is_for_state load.state) s.documents d found in
        let parts = and_parts (d.state.0 == load.state.0) (not (d.is_discarded || d.is_known_dead)) it.1 in
        rw tie.state (has_any (λ (x : Document). is_usable x load.state) s.documents d it.0 (usable d.is_ready d.is_discarded d.is_known_dead (d.state.0 == load.state.0) parts.0 parts.1 (made d.is_ready d.nr h)))
      where
        made : (b : Bool) (nr : DocId) → (let x : Phase = if b then phases.Ready nr else phases.Populating nr in x) ≡ phases.Ready may.doc → b ≡ true
        made true nr e = refl
        made false nr e = absurd cc

        usable : (ready discarded dead its : Bool) → its ≡ true → not (discarded || dead) ≡ true → ready ≡ true → (its && ready && not discarded && not dead) ≡ true
        usable true false false true a b c = refl
        usable ready true dead its a b c = absurd cc
        usable ready false true its a b c = absurd cc
        usable false false false its a b c = absurd cc
        usable true false false false a b c = absurd cc

    pub apply_due : IsApplyDue e out load.req nav change
    apply_due =
        record {
          mode = tie.mode;
          address = load.address;
          asked = tie.q;
          due = record {
            at = tie.found;
            what = what_is;
            open_ = open_.1;
            started = open_.0;
            unmade = loading.unmade;
            due = due_is;
            fit = fit;
            in_order = load_in_order s tie.q nav load.address change numbered due_is;
            free = rw (none_under_way s tab.asked, may.stand) refl;
            shown = ap (λ (step : ℕ). is_shown s.history.rows step nav) (sym aim_now) ∙ given.shown;
            ready = ready_by (made_for s.documents load.state) refl (sym tie.phase ∙ may.ready);
            passed = goes_on s None tab.asked load.req tie.q tie.found;
            unparked = unheld_at.parked;
          };
          unparked = unheld_at.parked;
          unheld = may.unheld;
        }

    steps_by : (b : Bool) → AreSteps (next s e.event e.actor (rows.Applied load.req (change_by b)))
    steps_by true =
        replaced_steps s e.event e.actor going.steps load.req tie.q tie.found open_.1 load.nav over (new_entry t) load.state load.address None
    steps_by false =
        pushed_steps s e.event e.actor going.steps load.req tie.q tie.found open_.1 load.nav (new_entry t) load.state load.address None

    pub sees_rows : SeesRows s change
    sees_rows = sees None p.loads p.hand s going e.event e.actor load.req change (steps_by load.replace)

    pub no_maker : sight_in (map sight s.documents) (record { 0 = 0 }) ≡ None
    no_maker = by_found (sight_in (map sight s.documents) (record { 0 = 0 })) refl
      where
        by_found : (o : Option Sight) → sight_in (map sight s.documents) (record { 0 = 0 }) ≡ o → sight_in (map sight s.documents) (record { 0 = 0 }) ≡ None
        by_found None is = is
        by_found (Some x) is =
            let d = seen_of s (record { 0 = 0 }) x is in
            let low : 1 ≤ d.document.nr.0 = real (record { 0 = 0 }) d.document d.found in
            let zero_ = (find_has (λ (y : Document). y.nr.0 == 0) s.documents d.document d.found).1 in
            absurd (let never : false ≡ true = grind (arith, nat_tests, low, zero_) in cc)

    pub few_entries : t.entries + 1 < 2 ^ 32
    few_entries =
        let same = passing.work.holds.entries in let few = going.counted.entries in let ended = count_few has_ended s.requests in let room = going.room in omega (arith, same, few, ended, room)
