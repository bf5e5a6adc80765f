-- A load was applied: for each document that is stray then, a request is noted for which it may be discarded.
use Rattle.tab_facts.specs.FrameWhole.Tab.{AreAwakeWithRows}
use Rattle.seen_facts.proofs.Hang.Forms.{nav_is}
use Rattle.seen_facts.proofs.Hang.Members.{has_any}
use Rattle.seen_facts.proofs.Hang.Targets.{IsTarget, target_has}
use Rattle.seen_facts.specs.Home.Homes.{IsAtHome, document_in}
use Rattle.seen_facts.specs.Load.Loading.{Look, is_ongoing, look}
use Rattle.load_table.specs.Loads.{ongoing_load as load_in}
use Rattle.load_table.specs.declared.load.Load.{Load}
use Rattle.seen_facts.specs.LoadTies.Tying.{IsLoadTied}
use Rattle.log_model.proofs.Refl.{nat_eq_refl}
use Rattle.log_model.specs.History.{has_nav, has_row, has_state, target_entry}
use Rattle.log_model.specs.Orders.{ongoing_load}
use Rattle.log_model.specs.Places.{is_below, is_shown, way_to}
use Rattle.log_model.specs.Seen.{Asked, Document, Place, Seen, awake, document_of, place_of, request_in}
use Rattle.log_model.specs.declared.row.Row.{Row}
use Rattle.log_model.specs.declared.row_kind.RowKind.{RowKind}
use Rattle.nav_tree.specs.Tree.{state_of}
use Rattle.row_facts.proofs.Owed.Requests.{req_same}
use Rattle.seen_facts.specs.Rest.Between.{IsOfLoad}
use Rattle.seen_laws.specs.InEvent.{now_of}
use Rattle.tab_facts.proofs.ShownWays.Keeps.{way_more}
use Rattle.tab_facts.specs.ShownWays.Ways.{hanging}
use Rattle.std.proofs.Common.{Bool, List, None, Option, Some, [], ap, false, inl, inr, refl, subst, sym, true, ℕ, ◌==◌, ◌||◌, ◌∙◌, ◌∷◌, ◌≡◌, ◌⊎◌}
use Rattle.std.specs.Prelude.{option_map}
use Rattle.step_index.specs.Held.{history_held}
use Rattle.tab_applies.proofs.Dues.{tie}
use Rattle.tab_applies.specs.Applying.{HasApplied, MayApply}
use Rattle.tab_begins.proofs.Afters.{documents_same, hung, leaves_under, moves_at, other_look, same_target, serves, state_entered, tab_n, tab_s, way_is}
use Rattle.tab_facts.proofs.Calm.Awakes.{awake_given, awake_shown}
use Rattle.tab_facts.proofs.Calm.Calms.{IsGivenRow}
use Rattle.tab_doors.specs.declared.tables.Tables.{Tables}
use Rattle.tab_ids.specs.declared.DocId.{DocId}
use Rattle.tab_ids.specs.declared.NavId.{NavId}
use Rattle.tab_ids.specs.declared.ReqId.{ReqId}
use Rattle.tab_ids.specs.declared.StateId.{StateId}
pub use Rattle.tab_one_pass.specs.Noting.{EntriesAreNoted, entered_in}
use Rattle.tab_one_pass.specs.Passing.{AreLeftStrays, IsLeftStray, MayServe}
pub use Rattle.tab_one_pass.proofs.PassedOn.{held, in_table, leaving_none, listed_here}
use Rattle.tab_one_pass.specs.PassedOn.{AreBlamed, InPass, IsLeaving, IsPassing, IsTab}
use Rattle.tab_one_pass.proofs.Calms.{loaded_never}
use Rattle.tab_one_pass.proofs.Dropped.{of_load}
pub use Rattle.tab_one_pass.proofs.Dropped.{IsBlamed}
pub use Rattle.tab_one_pass.specs.Passing.{IsStray}
use Rattle.seen_facts.proofs.Walk.Placed.{found_nav}
use Rattle.row_facts.specs.WalkRows.Since.{WasAwake}
use Rattle.log_model.specs.declared.job.Why.TheVariants as whys

module _ (p : InPass) (out : List RowKind) (t : Tables) (passing : IsPassing p out t) (nav : NavId) (load : Load) (at : load_in nav t.loads ≡ Some load) (idle : t.running ≡ None) (may : MayApply p.event (now_of p.event out) nav load) (more : List RowKind) (u : Tables) (then_ : IsPassing p more u) (it : HasApplied p.event nav load out more t u) (with_rows : AreAwakeWithRows (now_of p.event out)) (blame noted : List (StateId × ReqId)) (strays : AreLeftStrays (now_of p.event out) blame) (are : EntriesAreNoted t load.req blame noted) where
  abbrev s : Seen
  s = now_of p.event out

  abbrev n : Seen
  n = now_of p.event more

  abbrev now : ℕ
  now = s.history.current

  whole : IsTab None p.loads p.hand s
  whole = tab_s p out t passing nav load at idle may more u then_ it

  then_whole : IsTab u.running p.loads p.hand n
  then_whole = tab_n p out t passing nav load at idle may more u then_ it

  leaving : IsLeaving p None [] out t
  leaving = leaving_none p out t passing

  its : MayServe n load.req
  its = serves p out t passing nav load at idle may more u then_ it

  on_way : (m : NavId) (place : Place) → place_of n m ≡ Some place → way_to n m ≡ m ∷ place.above
  on_way m place placed = way_is p out t passing nav load at idle may more u then_ it m place placed

  module _ (doc : DocId) (state : StateId) (stray : IsStray n doc state) where
    found : document_of s doc ≡ Some stray.document
    found =
        ap (λ (l : List Document). document_in l doc) (sym (documents_same p out t passing nav load at idle may more u then_ it)) ∙ stray.found

    -- who is awake on it was so before, in the same place of the tree
    record WasOn (m : NavId) (place : Place) : Type 0 where
      old : Place
      there : place_of s m ≡ Some old
      wakes : old.status ≡ awake doc
      above_is : old.above ≡ place.above

    was_on : (m : NavId) (place : Place) → place_of n m ≡ Some place → place.status ≡ awake doc → WasOn m place
    was_on m place placed wakes =
        let was : WasAwake s m doc = it.wakes m place doc refl placed wakes in
        let hangs : Some (hanging was.place) ≡ Some (hanging place) = sym (ap (option_map hanging) was.placed) ∙ sym (hung p out t passing nav load at idle may more u then_ it m) ∙ ap (option_map hanging) placed in
        record { old = was.place; there = was.placed; wakes = was.wakes; above_is = (let same : hanging was.place ≡ hanging place = cc in ap (λ (x : List NavId × List StateId). x.0) same) }

    -- ---- its document state had an entry: it has lost it, so who is awake on it is the load's navigable, or below it

    module _ (had : has_state state s.history.rows ≡ true) where
      -- who is neither was given a target of that state, and still has it
      moved : (m : NavId) (place : Place) → WasOn m place → (m.0 == load.nav.0) ≡ false → has_nav place.above load.nav ≡ false → ⊥
      moved m place was apart beside =
          let never : true ≡ false = sym entered ∙ stray.bare in cc
        where
          shown : is_shown s.history.rows now m ≡ true
          shown = awake_shown s whole.sound whole.hangs whole.homes whole.standing with_rows now may.stand m was.old doc was.there was.wakes

          given : IsGivenRow s now was.old
          given = awake_given s whole.sound whole.hangs whole.homes whole.standing with_rows now may.stand m was.old was.there shown

          target : IsTarget s.history.rows was.old.nav now given.row
          target = target_has s.history.rows was.old.nav now given.row given.at

          of_state : given.row.state ≡ stray.document.state
          of_state =
              whole.homes.state m was.old doc was.there was.wakes given.row stray.document target.there target.nav_is given.given found

          at_then : target_entry n.history.rows m n.history.current ≡ Some given.row
          at_then =
              same_target p out t passing nav load at idle may more u then_ it m was.old was.there apart (ap (λ (l : List NavId). has_nav l load.nav) was.above_is ∙ beside) shown
              ∙ ap (λ (x : NavId). target_entry s.history.rows x now) (sym (found_nav s.places m was.old was.there))
              ∙ given.at

          entered : has_state state n.history.rows ≡ true
          entered =
              has_any (λ (row : Row). row.state.0 == state.0) n.history.rows given.row (target_has n.history.rows m n.history.current given.row at_then).there (ap (λ (x : StateId). x.0 == state.0) (of_state ∙ stray.its_state) ∙ nat_eq_refl state.0)

      mine : (m : NavId) (place : Place) → place_of n m ≡ Some place → place.status ≡ awake doc → has_nav (m ∷ place.above) load.nav ≡ true
      mine m place placed wakes = by_own (m.0 == load.nav.0) refl
        where
          by_below : (m.0 == load.nav.0) ≡ false → (b : Bool) → has_nav place.above load.nav ≡ b → b ≡ true
          by_below apart true below = refl
          by_below apart false beside = absurd (moved m place (was_on m place placed wakes) apart beside)

          by_own : (b : Bool) → (m.0 == load.nav.0) ≡ b → (b || has_nav place.above load.nav) ≡ true
          by_own true same = refl
          by_own false apart = by_below apart (has_nav place.above load.nav) refl

      -- so is who is below such a one
      under : (m : NavId) (place : Place) (other : NavId) (below : Place) → place_of n m ≡ Some place → place.status ≡ awake doc → place_of n other ≡ Some below → ((other.0 == m.0) ≡ true) ⊎ (is_below m below ≡ true) → has_nav (other ∷ below.above) load.nav ≡ true
      under m place other below placed wakes there (inl same) =
          let named : other ≡ m = nav_is other m same in
          let two : Some below ≡ Some place = sym there ∙ ap (λ (x : NavId). place_of n x) named ∙ placed in
          let one : below ≡ place = cc in
          ap (λ (x : NavId). has_nav (x ∷ below.above) load.nav) named ∙ ap (λ (x : Place). has_nav (m ∷ x.above) load.nav) one ∙ mine m place placed wakes
      under m place other below placed wakes there (inr is) =
          later (by_own (m.0 == load.nav.0) refl (mine m place placed wakes))
        where
          later : has_nav below.above load.nav ≡ true → has_nav (other ∷ below.above) load.nav ≡ true
          later has = by_test (other.0 == load.nav.0)
            where
              by_test : (b : Bool) → (b || has_nav below.above load.nav) ≡ true
              by_test true = refl
              by_test false = has

          on_below : has_nav (other ∷ below.above) m ≡ true
          on_below = by_test (other.0 == m.0)
            where
              by_test : (b : Bool) → (b || has_nav below.above m) ≡ true
              by_test true = refl
              by_test false = is

          by_own : (b : Bool) → (m.0 == load.nav.0) ≡ b → (b || has_nav place.above load.nav) ≡ true → has_nav below.above load.nav ≡ true
          by_own true same h = ap (λ (x : NavId). has_nav below.above x) (sym (nav_is m load.nav same)) ∙ is
          by_own false apart h =
              way_more n then_whole.sound then_whole.hangs other below there m place on_below placed load.nav h

      listed : state_of doc t.tree ≡ Some state
      listed =
          listed_here p None out t leaving doc state (record { document = stray.document; found = found; its_state = stray.its_state; ready = stray.ready; undiscarded = stray.undiscarded })

      entered : entered_in t doc ≡ Some state
      entered =
          let kept : has_state state (history_held t.store).rows ≡ true = held p None out t leaving state ∙ had in
          rw listed (rw kept refl)

      lost_blamed : IsBlamed n noted doc state
      lost_blamed =
          record {
            req = load.req;
            noted = are.own doc state (in_table p None out t leaving doc state listed) entered;
            may = its;
            moves = λ m place other below placed wakes there is. moves_at p out t passing nav load at idle may more u then_ it other (ap (λ (l : List NavId). has_nav l load.nav) (on_way other below there) ∙ under m place other below placed wakes there is);
            leaves = λ m place placed wakes. leaves_under p out t passing nav load at idle may more u then_ it m (ap (λ (l : List NavId). has_nav l load.nav) (on_way m place placed) ∙ mine m place placed wakes);
          }

    -- ---- it had none, and was no load's: it is one that was left

    module _ (bare : has_state state s.history.rows ≡ false) (unloaded : ongoing_load s state ≡ None) where
      before : IsLeftStray s blame doc state
      before =
          strays doc state (record { document = stray.document; found = found; its_state = stray.its_state; ready = stray.ready; undiscarded = stray.undiscarded; bare = bare; unloaded = unloaded })

      -- nobody is awake on it, since its navigable has no entry
      unwoken : (m : NavId) (place : Place) → WasOn m place → ⊥
      unwoken m place was =
          let home : IsAtHome s.documents was.old.nav doc = (whole.homes.homed m was.old doc was.there was.wakes).home in
          let two : Some home.document ≡ Some stray.document = sym home.found ∙ found in
          let one : home.document ≡ stray.document = cc in
          let none : has_row was.old.nav s.history.rows ≡ false = ap (λ (x : NavId). has_row x s.history.rows) (sym (ap (λ (d : Document). d.nav) (sym one) ∙ home.nav_is)) ∙ before.bare stray.document found in
          let never : true ≡ false = sym (with_rows m was.old doc was.there was.wakes) ∙ none in
          cc

      left_blamed : IsBlamed n noted doc state
      left_blamed =
          record {
            req = before.req;
            noted = are.others state (held p None out t leaving state ∙ bare) ∙ before.noted;
            may = it.causes (whys.Req before.req) (λ r same. let one : before.req ≡ r = cc in subst (λ (x : ReqId). MayServe s x) one before.may) before.req refl;
            moves = λ m place other below placed wakes there is. absurd (unwoken m place (was_on m place placed wakes));
            leaves = λ m place placed wakes. absurd (unwoken m place (was_on m place placed wakes));
          }

    -- ---- it was a load's: that goes on, or has an entry now

    module _ (q : Asked) (is : ongoing_load s state ≡ Some q) where
      of_it : IsOfLoad s stray.document
      of_it = of_load s stray.document q (ap (λ (x : StateId). ongoing_load s x) stray.its_state ∙ is)

      its_own : (of_it.req.0 == load.req.0) ≡ true → ⊥
      its_own same =
          let tied : IsLoadTied s load = tie p out t passing nav load at idle may in
          let two : Some of_it.q ≡ Some tied.q = sym of_it.found ∙ ap (λ (r : ReqId). request_in s.requests r) (req_same of_it.req load.req same) ∙ tied.found in
          let one : of_it.q ≡ tied.q = cc in
          let states : Some stray.document.state ≡ Some load.state = sym of_it.own ∙ ap (λ (x : Asked). x.state) one ∙ tied.state in
          let state_is : stray.document.state ≡ load.state = cc in
          let entered : has_state state n.history.rows ≡ true = ap (λ (x : StateId). has_state x n.history.rows) (sym stray.its_state ∙ state_is) ∙ state_entered p out t passing nav load at idle may more u then_ it in
          let never : true ≡ false = sym entered ∙ stray.bare in
          cc

      others : (of_it.req.0 == load.req.0) ≡ false → ⊥
      others apart = by_then (request_in n.requests of_it.req) refl
        where
          by_then : (o : Option Asked) → request_in n.requests of_it.req ≡ o → ⊥
          by_then None none =
              let two : None ≡ Some (look of_it.q) = sym (ap (option_map look) none) ∙ other_look p out t passing nav load at idle may more u then_ it of_it.req apart ∙ ap (option_map look) of_it.found in
              cc
          by_then (Some r) there =
              let two : Some (look r) ≡ Some (look of_it.q) = sym (ap (option_map look) there) ∙ other_look p out t passing nav load at idle may more u then_ it of_it.req apart ∙ ap (option_map look) of_it.found in
              let one : look r ≡ look of_it.q = cc in
              loaded_never n state stray.unloaded of_it.req r stray.document.state there (ap is_ongoing one ∙ of_it.ongoing) (ap (λ (l : Look). l.state) one ∙ of_it.own) (ap (λ (x : StateId). x.0) stray.its_state)

      loads_on : ⊥
      loads_on = by_own (of_it.req.0 == load.req.0) refl
        where
          by_own : (b : Bool) → (of_it.req.0 == load.req.0) ≡ b → ⊥
          by_own true same = its_own same
          by_own false apart = others apart

  pub blamed_then : AreBlamed n noted
  blamed_then doc state stray = by_entry (has_state state s.history.rows) refl (ongoing_load s state) refl
    where
      by_entry : (b : Bool) → has_state state s.history.rows ≡ b → (o : Option Asked) → ongoing_load s state ≡ o → IsBlamed n noted doc state
      by_entry true had o is = lost_blamed doc state stray had
      by_entry false bare None unloaded = left_blamed doc state stray bare unloaded
      by_entry false bare (Some q) is = absurd (loads_on doc state stray q is)
