-- Which documents are stray, as the tables tell, is so in the log; all that are listed are in the order of their numbers.
use Rattle.seen_facts.proofs.Hang.Members.{find_has, into_map}
use Rattle.seen_facts.specs.Hang.Members.{Has}
use Rattle.history_laws.proofs.InOrder.{count_by-ordered}
use Rattle.log_model.proofs.Refl.{nat_eq_refl}
use Rattle.log_model.specs.History.{History, has_state}
use Rattle.log_model.specs.Order.{SameHistory}
use Rattle.log_model.specs.Orders.{ongoing_load}
use Rattle.log_model.specs.Seen.{Document, Seen, document_of}
use Rattle.log_model.specs.declared.row.Row.{Row}
use Rattle.log_model.specs.declared.row_kind.RowKind.{RowKind}
use Rattle.nav_tree.specs.Tree.{docs_of, is_placed, is_state, state_of}
use Rattle.nav_tree.specs.declared.place.Place as live_place
use Rattle.row_facts.proofs.RestRows.Again.{doc_same}
use Rattle.seen_laws.specs.InEvent.{now_of}
use Rattle.std.proofs.Common.{Bool, List, None, Option, Some, ap, arith, cond, false, filter, map, refl, subst, sym, true, ◌==◌, ◌||◌, ◌∙◌, ◌≡◌, ◌≤◌}
use Rattle.std.proofs.lemmas.List.Sorted.{IsNonDecreasingBy-from_sort}
use Rattle.std.specs.List.Sorted.{IsPermutation, IsSortedByKey}
use Rattle.std.specs.List.{count_by}
use Rattle.std.specs.Map.{lookup}
use Rattle.std.specs.Ordering.{nat_cmp}
use Rattle.std.specs.Prelude.{find, is_some, nat_lt, option_and_then, option_map}
use Rattle.step_index.proofs.Counting.{any_counted}
use Rattle.step_index.specs.Held.{history_held}
use Rattle.tab_doors.proofs.Sights.{IsSeen, seen_of, sight_of}
use Rattle.tab_doors.specs.Keeping.{Move}
use Rattle.tab_doors.specs.Look.{Sight, is_live_for, sight, sight_in}
use Rattle.tab_doors.specs.Ties.{IsListed, IsOneSuch, birth_of, nav_in}
use Rattle.tab_doors.specs.declared.birth.Birth.{Birth}
use Rattle.tab_doors.specs.declared.tables.Tables.{Tables}
use Rattle.tab_ids.specs.declared.DocId.{DocId}
use Rattle.tab_ids.specs.declared.NavId.{NavId}
use Rattle.tab_ids.specs.declared.StateId.{StateId}
use Rattle.tab_passes.proofs.Lives.{IsThereFor, has_state_in, keyed_found, live_parts, there_for}
use Rattle.tab_passes.specs.Leaving.{IsLeavingIn}
use Rattle.tab_passes.specs.Passing.{InPass}
use Rattle.tab_sweeps.proofs.Lists.{ascends, keyed_once, of_passes, ordered_has, ordered_times, passes_of, some_ascend, times}
use Rattle.tab_sweeps.proofs.Loads.{log_unloaded, state_unloaded}
use Rattle.tab_sweeps.specs.Sweeping.{IsStray, is_stray_in, loads_state, stray_in, unneeded_in}
use Rattle.tab_sweeps.specs.Turns.{AreStrays, IsAnyStray}

-- whether a state has entries doesn't hang on their order
state_held : (state : StateId) (held history : History) → SameHistory held history → has_state state held.rows ≡ has_state state history.rows
state_held state held history same =
    sym (any_counted (λ (row : Row). row.state.0 == state.0) held.rows)
    ∙ ap (nat_lt 0) (sym (count_by-ordered (λ (row : Row). row.state.0 == state.0) held.rows) ∙ ap (count_by (λ (row : Row). row.state.0 == state.0)) same.rows ∙ count_by-ordered (λ (row : Row). row.state.0 == state.0) history.rows)
    ∙ any_counted (λ (row : Row). row.state.0 == state.0) history.rows

module _ {sweeps : Bool} (p : InPass) (move : Option Move) {left : List DocId} (out : List RowKind) (t : Tables) (leaving : IsLeavingIn sweeps p move left out t) where
  abbrev s : Seen
  s = now_of p.event out

  pub held : (state : StateId) → has_state state (history_held t.store).rows ≡ has_state state s.history.rows
  held state = state_held state (history_held t.store) s.history leaving.work.holds.history

  nav_known : (doc : DocId) (d : Document) → document_of s doc ≡ Some d → nav_in t.whose.entries doc ≡ Some d.nav
  nav_known doc d found =
      ap (λ (o : Option Birth). option_map (λ (b : Birth). b.nav) o) (leaving.work.holds.whose doc ∙ ap (λ (o : Option Sight). option_map birth_of o) (sight_of s doc d found))

  -- the document that is there for a state
  pub record IsHere (doc : DocId) (state : StateId) : Type 0 where
    pub document : Document
    pub found : document_of s doc ≡ Some document
    pub its_state : document.state ≡ state
    pub ready : document.is_ready ≡ true
    pub undiscarded : document.is_discarded ≡ false

  pub here_for : (doc : DocId) (state : StateId) → state_of doc t.tree ≡ Some state → IsHere doc state
  here_for doc state is =
      let there : IsThereFor (map sight s.documents) t leaving.work.holds.documents doc state = there_for (map sight s.documents) t leaving.work.holds.documents doc state is in
      let seen : IsSeen s doc there.document = seen_of s doc there.document there.found in
      let parts = live_parts state seen.document (ap (λ (y : Sight). is_live_for state y) seen.is ∙ there.lives) in
      record { document = seen.document; found = seen.found; its_state = parts.0; ready = parts.1; undiscarded = parts.2 }

  -- one that is made and there is the one for its state
  here_lives : (doc : DocId) (state : StateId) (it : IsHere doc state) → is_live_for state (sight it.document) ≡ true
  here_lives doc state it =
      rw (ap (λ (x : StateId). x.0 == state.0) it.its_state ∙ nat_eq_refl state.0) (rw it.ready (rw it.undiscarded (rw (leaving.going.tab.docs.each doc it.document it.found).live.unknown refl)))

  pub listed_here : (doc : DocId) (state : StateId) → IsHere doc state → state_of doc t.tree ≡ Some state
  listed_here doc state it = by_state (state_of doc t.tree) refl
    where
      lives : is_live_for state (sight it.document) ≡ true
      lives = here_lives doc state it

      by_state : (o : Option StateId) → state_of doc t.tree ≡ o → state_of doc t.tree ≡ Some state
      by_state None none =
          absurd (has_state_in (map sight s.documents) t leaving.work.holds.documents doc (sight it.document) (sight_of s doc it.document it.found) state lives none)
      by_state (Some x) is =
          let its = here_for doc x is in
          let two : Some its.document ≡ Some it.document = sym its.found ∙ it.found in
          let one : its.document ≡ it.document = cc in
          let same : x ≡ state = sym its.its_state ∙ ap (λ (d : Document). d.state) one ∙ it.its_state in
          is ∙ ap (λ (y : StateId). Some y) same

  -- ---- a stray one

  module _ (doc : DocId) (state : StateId) (stray : IsStray s doc state) where
    abbrev is_here : IsHere doc state
    is_here =
        record { document = stray.document; found = stray.found; its_state = stray.its_state; ready = stray.ready; undiscarded = stray.undiscarded }

    pub stray_lives : is_live_for state (sight stray.document) ≡ true
    stray_lives = here_lives doc state is_here

    pub stray_listed : state_of doc t.tree ≡ Some state
    stray_listed = listed_here doc state is_here

    pub stray_known : stray_in t doc ≡ Some state
    stray_known =
        ap (λ (o : Option NavId). option_and_then (λ (nav : NavId). option_and_then (unneeded_in t nav) (state_of doc t.tree)) o) (nav_known doc stray.document stray.found)
        ∙ ap (λ (o : Option StateId). option_and_then (unneeded_in t stray.document.nav) o) stray_listed
        ∙ neither (has_state state (history_held t.store).rows) (loads_state t.loads stray.document.nav state) (held state ∙ stray.bare) (state_unloaded s t.loads leaving.work.loads state stray.unloaded stray.document.nav)
      where
        neither : (a b : Bool) → a ≡ false → b ≡ false → (let o : Option StateId = cond (a || b) None (Some state) in o) ≡ Some state
        neither false false e f = refl
        neither true b e f = absurd cc
        neither false true e f = absurd cc

  pub stray_is : (doc : DocId) (state : StateId) → stray_in t doc ≡ Some state → IsStray s doc state
  stray_is doc state is = by_nav (nav_in t.whose.entries doc) refl is
    where
      by_here : (nav : NavId) → nav_in t.whose.entries doc ≡ Some nav → IsHere doc state → has_state state (history_held t.store).rows ≡ false → loads_state t.loads nav state ≡ false → IsStray s doc state
      by_here nav at its bare none =
          record {
            document = its.document;
            found = its.found;
            its_state = its.its_state;
            ready = its.ready;
            undiscarded = its.undiscarded;
            bare = sym (held state) ∙ bare;
            unloaded = subst (λ (x : StateId). ongoing_load s x ≡ None) its.its_state (log_unloaded s t.loads leaving.work.loads leaving.going.tab.loading doc its.document its.found (ap (λ (x : StateId). loads_state t.loads its.document.nav x) its.its_state ∙ ap (λ (n : NavId). loads_state t.loads n state) (sym nav_is) ∙ none));
          }
        where
          nav_is : nav ≡ its.document.nav
          nav_is = let two : Some nav ≡ Some its.document.nav = sym at ∙ nav_known doc its.document its.found in cc

      by_tests : (nav : NavId) → nav_in t.whose.entries doc ≡ Some nav → (x : StateId) → state_of doc t.tree ≡ Some x → (a : Bool) → has_state x (history_held t.store).rows ≡ a → (b : Bool) → loads_state t.loads nav x ≡ b → (let o : Option StateId = cond (a || b) None (Some x) in o) ≡ Some state → IsStray s doc state
      by_tests nav at x lives true bare b none h = absurd cc
      by_tests nav at x lives false bare true none h = absurd cc
      by_tests nav at x lives false bare false none h =
          let same : x ≡ state = cc in
          by_here nav at (here_for doc state (lives ∙ ap (λ (y : StateId). Some y) same)) (ap (λ (y : StateId). has_state y (history_held t.store).rows) (sym same) ∙ bare) (ap (λ (y : StateId). loads_state t.loads nav y) (sym same) ∙ none)

      by_state : (nav : NavId) → nav_in t.whose.entries doc ≡ Some nav → (o : Option StateId) → state_of doc t.tree ≡ o → option_and_then (unneeded_in t nav) o ≡ Some state → IsStray s doc state
      by_state nav at None lives h = absurd cc
      by_state nav at (Some x) lives h = by_tests nav at x lives (has_state x (history_held t.store).rows) refl (loads_state t.loads nav x) refl h

      by_nav : (o : Option NavId) → nav_in t.whose.entries doc ≡ o → option_and_then (λ (nav : NavId). option_and_then (unneeded_in t nav) (state_of doc t.tree)) o ≡ Some state → IsStray s doc state
      by_nav None at h = absurd cc
      by_nav (Some nav) at h = by_state nav at (state_of doc t.tree) refl h

  -- ---- all of them

  -- a document has one state in the table
  its_key : (e : StateId × live_place.Place) → Has t.tree.places e → option_map (λ (x : Sight). x.state) (sight_in (map sight s.documents) e.1.doc) ≡ Some e.0
  its_key e there =
      ap (λ (o : Option Sight). option_map (λ (x : Sight). x.state) o) one.found ∙ ap (λ (x : StateId). Some x) (ap (λ (x : Sight). x.state) (sym seen.is) ∙ parts.0)
    where
      live_at : lookup (is_state e.0) t.tree.places ≡ Some e.1
      live_at = keyed_found t.tree.places leaving.work.holds.documents.live_once e there

      one : IsOneSuch (is_live_for e.0) (map sight s.documents) e.1.doc
      one =
          subst (λ (o : Option live_place.Place). IsListed (is_live_for e.0) (map sight s.documents) (option_map (λ (q : live_place.Place). q.doc) o)) live_at (leaving.work.holds.documents.live e.0)

      seen : IsSeen s e.1.doc one.document
      seen = seen_of s e.1.doc one.document one.found

      parts : (seen.document.state ≡ e.0) × (seen.document.is_ready ≡ true) × (seen.document.is_discarded ≡ false) × (seen.document.is_known_dead ≡ false)
      parts = live_parts e.0 seen.document (ap (λ (y : Sight). is_live_for e.0 y) seen.is ∙ one.passes)

  -- one that is there is in the table
  pub in_table : (doc : DocId) (state : StateId) → state_of doc t.tree ≡ Some state → Has (docs_of t.tree) doc
  in_table doc state is = by_place (find (is_placed doc) t.tree.places) refl is
    where
      by_place : (o : Option (StateId × live_place.Place)) → find (is_placed doc) t.tree.places ≡ o → option_map (λ (e : StateId × live_place.Place). e.0) o ≡ Some state → Has (docs_of t.tree) doc
      by_place None at h = absurd cc
      by_place (Some e) at h =
          let its = find_has (is_placed doc) t.tree.places e at in
          subst (λ (d : DocId). Has (docs_of t.tree) d) (doc_same e.1.doc doc its.1) (into_map (λ (y : StateId × live_place.Place). y.1.doc) t.tree.places e its.0)

  pub are_strays : (docs : List DocId) → IsSortedByKey (λ (doc : DocId). doc.0) nat_cmp docs → IsPermutation (docs_of t.tree) docs → AreStrays s (filter (is_stray_in t) docs)
  are_strays docs sorted order =
      record {
        each = λ doc has. any_stray doc (stray_in t doc) refl (passes_of (is_stray_in t) docs doc has);
        all = λ doc state stray. of_passes (is_stray_in t) docs doc (ordered_has (docs_of t.tree) docs doc order (in_table doc state (stray_listed doc state stray))) (ap (λ (o : Option StateId). is_some o) (stray_known doc state stray));
        ascending = some_ascend (is_stray_in t) docs (ascends docs (IsNonDecreasingBy-from_sort (λ (doc : DocId). doc.0) docs sorted) once);
      }
    where
      any_stray : (doc : DocId) (o : Option StateId) → stray_in t doc ≡ o → is_some o ≡ true → IsAnyStray s doc
      any_stray doc None is h = absurd cc
      any_stray doc (Some state) is h = record { state = state; stray = stray_is doc state is }

      once : (doc : DocId) → times docs doc ≤ 1
      once doc =
          let same : times docs doc ≡ times (docs_of t.tree) doc = ordered_times (docs_of t.tree) docs order doc in
          let low : times (docs_of t.tree) doc ≤ 1 = keyed_once (λ (d : DocId). option_map (λ (x : Sight). x.state) (sight_in (map sight s.documents) d)) t.tree.places leaving.work.holds.documents.live_once its_key doc in
          omega (arith, same, low)
