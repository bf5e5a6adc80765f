-- Who has no entry by the tables has none in the log; and a load of such a navigable may be dropped by the request that took the last ones.
use Rattle.seen_laws.proofs.InEvents.{now_is}
use Rattle.tab_doors.proofs.PassedOn.{dropped_goes}
use Rattle.row_facts.proofs.FrameRows.LawfulLaws.{ends_other}
use Rattle.row_facts.specs.FrameRows.Taking.{IsFree}
use Rattle.seen_facts.proofs.Hang.Forms.{nav_is}
use Rattle.seen_facts.proofs.Hang.Members.{any_has, has_any}
use Rattle.seen_facts.proofs.Hang.Targets.{some_is, target_has, target_there}
use Rattle.seen_facts.specs.Hang.Members.{Has}
use Rattle.load_table.specs.Loads.{ongoing_load}
use Rattle.load_table.specs.declared.load.Load.{Load}
use Rattle.log_model.proofs.Refl.{nat_eq_refl}
use Rattle.log_model.specs.Causes.{is_destroyed_by}
use Rattle.log_model.specs.Equal.{has_req, implies}
use Rattle.log_model.specs.History.{has_row, is_of, target_entry}
use Rattle.log_model.specs.Places.{aim_of, all_stand}
use Rattle.log_model.specs.Queue.{is_traverse}
use Rattle.log_model.specs.Seen.{Place, Seen, place_of}
use Rattle.log_model.specs.declared.row.Row.{Row}
use Rattle.log_model.specs.declared.row_kind.RowKind.{RowKind}
use Rattle.nav_tree.specs.Tree.{node_of}
use Rattle.nav_tree.specs.declared.node.Node.{Node}
use Rattle.row_facts.proofs.Owed.Ends.{loose_more, owed_more}
use Rattle.row_facts.proofs.Owed.Rows.{dropped_lasts, dropped_stays, reckoned_now}
use Rattle.row_facts.specs.Owed.Owed.{IsLoose, IsOwed}
use Rattle.seen_facts.proofs.Coord.Unread.{next}
use Rattle.seen_laws.specs.InEvent.{here_of, now_of}
use Rattle.std.proofs.Common.{Bool, List, None, Option, Some, [], ap, arith, false, length, not, refl, subst, sym, true, ◌+◌, ◌++◌, ◌<◌, ◌==◌, ◌∙◌, ◌∷◌, ◌≡◌, ◌≤◌}
use Rattle.std.specs.List.{list_any}
use Rattle.std.specs.Prelude.{if◌then◌else◌, option_and_then, option_map}
use Rattle.step_index.specs.Held.{history_held}
use Rattle.tab_doors.proofs.Histories.{held_begins}
use Rattle.tab_doors.proofs.Holding.{its_node, its_place}
use Rattle.tab_doors.specs.Dues.{IsDestroyDue, has_none}
use Rattle.tab_doors.specs.Dues as dues
use Rattle.tab_doors.specs.Look.{look_of}
use Rattle.tab_doors.specs.declared.tables.Tables.{Tables}
use Rattle.tab_drops.proofs.Drops.{idle, unheld}
use Rattle.tab_drops.proofs.Loads.{asked_for, load_held, open_of}
use Rattle.tab_drops.proofs.Turns.{tied_load}
use Rattle.tab_drops.specs.Dropping.{ArePlaced, AreUnheld, IsBare, IsLoadOf}
use Rattle.tab_drops.specs.Ways.{bare_load_in}
use Rattle.tab_moves.proofs.PassedOn.{count_few}
use Rattle.tab_moves.specs.PassedOn.{IsPassingIn, count_of, has_ended}
use Rattle.tab_ids.specs.declared.NavId.{NavId}
use Rattle.tab_ids.specs.declared.ReqId.{ReqId}
use Rattle.tab_moves.specs.Moving.{InPass}
use Rattle.seen_facts.proofs.Walk.Placed.{found_nav}
use Rattle.row_facts.proofs.WalkRows.Needs.{dropped_stood}
use Rattle.log_model.specs.declared.outcome.Cause.TheVariants as causes
use Rattle.log_model.specs.declared.row_kind.RowKind.TheVariants as rows

-- who has an entry has one at the last step that there may be
row_any : (entries : List Row) (nav : NavId) → ((row : Row) → Has entries row → row.step.0 ≤ 4294967295) → has_row nav entries ≡ dues.has_any entries nav
row_any entries nav low = by_tests (has_row nav entries) (dues.has_any entries nav) refl refl
  where
    onto : has_row nav entries ≡ true → dues.has_any entries nav ≡ true
    onto is =
        let its = any_has (is_of nav) entries is in
        target_there entries nav 4294967295 its.it its.there (nav_is its.it.nav nav its.passes) (low its.it its.there)

    back : dues.has_any entries nav ≡ true → has_row nav entries ≡ true
    back is =
        let some = some_is (target_entry entries nav 4294967295) is in
        let its = target_has entries nav 4294967295 some.0 some.1 in
        has_any (is_of nav) entries some.0 its.there (ap (λ (n : NavId). n.0 == nav.0) its.nav_is ∙ nat_eq_refl nav.0)

    by_tests : (a b : Bool) → has_row nav entries ≡ a → dues.has_any entries nav ≡ b → has_row nav entries ≡ dues.has_any entries nav
    by_tests true b is e = is ∙ sym (onto is)
    by_tests false true is e = let never : true ≡ false = sym (back e) ∙ is in absurd cc
    by_tests false false is e = is ∙ sym e

module _ {sweeps : Bool} (p : InPass) (out : List RowKind) (t : Tables) (pass : IsPassingIn sweeps p out t) where
  abbrev s : Seen
  s = now_of p.event out

  low_steps : (row : Row) → Has s.history.rows row → row.step.0 ≤ 4294967295
  low_steps row there =
      let step : row.step.0 ≤ count_of has_ended s.requests = pass.going.steps.rows_ row there in
      let few : count_of has_ended s.requests ≤ length s.requests = count_few has_ended s.requests in
      let room : length s.requests + 2 < 4294967296 = pass.going.room in
      omega (arith, step, few, room)

  pub bare_is : (nav : NavId) → has_none (history_held t.store).rows nav ≡ not (has_row nav s.history.rows)
  bare_is nav = ap not (held_begins t.store s.history pass.work.holds.history nav ∙ sym (row_any s.history.rows nav low_steps))

  -- ---- what the tables tell

  -- the load, and who took the last entries
  pub record IsBareLoad (nav : NavId) (req by : ReqId) : Type 0 where
    pub bare : IsBare s nav
    pub load : IsLoadOf s req nav
    pub place : Place
    pub placed : place_of s nav ≡ Some place
    pub taken : place.taken_by ≡ Some by

  bare_of : (b : Bool) → not b ≡ true → b ≡ false
  bare_of false e = refl
  bare_of true e = absurd cc

  pub bare_load : (nav : NavId) (req by : ReqId) → bare_load_in t nav ≡ Some (req, by) → IsBareLoad nav req by
  bare_load nav req by is =
      by_parts (has_none (history_held t.store).rows nav) refl (ongoing_load nav t.loads) refl (node_of nav t.tree) refl is
    where
      by_node : (load : Load) → ongoing_load nav t.loads ≡ Some load → has_none (history_held t.store).rows nav ≡ true → (node : Node) → node_of nav t.tree ≡ Some node → load.req ≡ req → node.destroyed_by ≡ Some by → IsBareLoad nav req by
      by_node load at none node there same taken =
          let it = its_place (look_of s t.running) t.tree nav node pass.work.holds.navs there in
          record {
            bare = bare_of (has_row nav s.history.rows) (sym (bare_is nav) ∙ none);
            load = subst (λ (r : ReqId). IsLoadOf s r nav) same (tied_load s t.loads nav load pass.work.loads at);
            place = it.place;
            placed = it.at;
            taken = sym it.tied.destroyed_by ∙ taken;
          }

      by_taker : (load : Load) → ongoing_load nav t.loads ≡ Some load → has_none (history_held t.store).rows nav ≡ true → (node : Node) → node_of nav t.tree ≡ Some node → (o : Option ReqId) → node.destroyed_by ≡ o → option_map {U = ReqId × ReqId} (λ (y : ReqId). (load.req, y)) o ≡ Some (req, by) → IsBareLoad nav req by
      by_taker load at none node there None taken h = absurd cc
      by_taker load at none node there (Some y) taken h =
          let pair : (let x : ReqId × ReqId = (load.req, y) in x) ≡ (req, by) = cc in
          by_node load at none node there (ap (λ (x : ReqId × ReqId). x.0) pair) (taken ∙ ap (λ (x : ReqId × ReqId). Some x.1) pair)

      by_parts : (b : Bool) → has_none (history_held t.store).rows nav ≡ b → (o : Option Load) → ongoing_load nav t.loads ≡ o → (n : Option Node) → node_of nav t.tree ≡ n → (let x : Option (ReqId × ReqId) = if b then (option_and_then (λ (r : ReqId). option_map {U = ReqId × ReqId} (λ (y : ReqId). (r, y)) (option_and_then (λ (node : Node). node.destroyed_by) n)) (option_map (λ (load : Load). load.req) o)) else None in x) ≡ Some (req, by) → IsBareLoad nav req by
      by_parts false none o at n there h = absurd cc
      by_parts true none None at n there h = absurd cc
      by_parts true none (Some load) at None there h = absurd cc
      by_parts true none (Some load) at (Some node) there h = by_taker load at none node there node.destroyed_by refl h

  -- where they tell of none, the navigable has no load or has an entry
  pub none_bare : (nav : NavId) → bare_load_in t nav ≡ None → ArePlaced s → (req : ReqId) → IsLoadOf s req nav → IsBare s nav → ⊥
  none_bare nav is placed req load bare =
      let place = placed req nav load in
      let node = its_node (look_of s t.running) t.tree nav place.0 pass.work.holds.navs place.1 in
      let held = load_held s t.loads req nav pass.work.loads load in
      let none : has_none (history_held t.store).rows nav ≡ true = bare_is nav ∙ ap not bare in
      let taker = (pass.going.tab.standing nav place.0 place.1).taken (ap (λ (n : NavId). has_row n s.history.rows) (found_nav s.places nav place.0 place.1) ∙ bare) in
      let taken : node.node.destroyed_by ≡ Some taker.req = node.tied.destroyed_by ∙ taker.is in
      let some : bare_load_in t nav ≡ (let x : ReqId × ReqId = (held.load.req, taker.req) in Some x) = rw none (rw held.at (rw node.there (rw taken refl))) in
      let never : (let o : Option (ReqId × ReqId) = None in o) ≡ (let x : ReqId × ReqId = (held.load.req, taker.req) in Some x) = sym is ∙ some in
      absurd cc

  -- ---- it is dropped

  module _ (req : ReqId) (nav : NavId) (by : ReqId) (it : IsBareLoad nav req by) where
    destroyed : is_destroyed_by s (asked_for s req nav it.load).q by ≡ true
    destroyed = rw (asked_for s req nav it.load).what (rw it.bare (rw (it.placed, it.taken) (nat_eq_refl by.0)))

    free : IsFree (here_of p.event out) req
    unfolding now_of
    free =
        ap (λ (x : Seen). implies (has_req x.parked req) (list_any is_traverse (here_of p.event out).done)) (sym (now_is p.event out)) ∙
        ap (λ (b : Bool). implies b (list_any is_traverse (here_of p.event out).done)) (unheld p out t pass req nav it.load).parked

    pub destroy_due : AreUnheld p.event s → IsDestroyDue p.event out req by
    destroy_due held =
        record {
          asked = (asked_for s req nav it.load).q;
          at = (asked_for s req nav it.load).at;
          open_ = open_of (asked_for s req nav it.load).q (asked_for s req nav it.load).ongoing;
          is = destroyed;
          free = free;
          held = ends_other p.event out (rows.Dropped req (causes.Destroyed by)) req (refl, λ x. refl) (held req nav it.load) (unheld p out t pass req nav it.load).parked;
        }

    pub destroy_owed : IsOwed p.event (out ++ rows.Dropped req (causes.Destroyed by) ∷ [])
    destroy_owed =
        owed_more p.event out (rows.Dropped req (causes.Destroyed by)) (dropped_goes p.event out req (causes.Destroyed by)).read pass.owed (dropped_stays s p.event.event p.event.actor req (reckoned_now p.event out) (idle p out t pass req nav it.load) (causes.Destroyed by)) (λ end stays. refl)

    pub destroy_loose : all_stand (next s p.event.event p.event.actor (rows.Dropped req (causes.Destroyed by))) (aim_of (next s p.event.event p.event.actor (rows.Dropped req (causes.Destroyed by)))) ≡ true → IsLoose p.event (out ++ rows.Dropped req (causes.Destroyed by) ∷ [])
    destroy_loose all =
        loose_more p.event out (rows.Dropped req (causes.Destroyed by)) (dropped_goes p.event out req (causes.Destroyed by)).read (pass.loose (dropped_stood s p.event.event p.event.actor req (causes.Destroyed by) (idle p out t pass req nav it.load) all)) (dropped_lasts s p.event.event p.event.actor req (causes.Destroyed by)) (λ end lasts. refl)
