-- What the walk finds of a navigable that is to be moved: its target's document, and what it leaves for it.
use Rattle.tab_moves.specs.Making.{show_why}
use Rattle.seen_facts.proofs.Hang.Targets.{IsTarget, target_has}
use Rattle.seen_facts.specs.Kept.Keeping.{IsMadeFor}
use Rattle.log_model.specs.AfterPlaces.{kept_leaving}
use Rattle.log_model.specs.History.{row_of}
use Rattle.log_model.specs.Orders.{is_usable}
use Rattle.log_model.specs.Places.{aim_of, is_shown}
use Rattle.log_model.specs.Seen.{Document, Place, Seen, document_of, place_of}
use Rattle.log_model.specs.declared.job.Why.{Why}
use Rattle.log_model.specs.declared.row.Row.{Row}
use Rattle.log_model.specs.declared.row_kind.RowKind.{RowKind}
use Rattle.nav_tree.specs.Tree.{document_of as document_at, nav_of}
use Rattle.nav_tree.specs.declared.nav.Nav.{Nav}
use Rattle.nav_tree.specs.declared.node.Node.{Node}
use Rattle.nav_tree.specs.declared.place.Place as live_place
use Rattle.seen_laws.specs.InEvent.{now_of}
use Rattle.std.proofs.Common.{subst, List, None, Option, Some, ap, arith, map, refl, suc, sym, true, zero, ℕ, ◌+◌, ◌∙◌, ◌≡◌, ◌≤◌}
use Rattle.std.specs.Prelude.{IsSome, if◌then◌else◌, is_some, option_and_then, option_map}
use Rattle.step_index.specs.Held.{history_held}
use Rattle.tab_doors.proofs.Sights.{IsSeen, seen_of}
use Rattle.tab_doors.proofs.Holding.{HasNode, its_node}
use Rattle.tab_doors.specs.Look.{Sight, is_live_for, look_of, sight}
use Rattle.tab_doors.specs.Ties.{IsListed}
use Rattle.tab_doors.specs.declared.tables.Tables.{Tables}
use Rattle.tab_ids.specs.declared.DocId.{DocId}
use Rattle.tab_ids.specs.declared.EntryId.{EntryId}
use Rattle.tab_ids.specs.declared.Epoch.{Epoch}
use Rattle.tab_ids.specs.declared.NavId.{NavId}
use Rattle.tab_ids.specs.declared.StateId.{StateId}
use Rattle.tab_moves.proofs.Lasts.{LeavesNothing, left_none, left_some, live_parts}
use Rattle.tab_moves.proofs.Needing.{NeedsIt}
pub use Rattle.tab_moves.proofs.Needing.{IsNeeding, needs_it}
use Rattle.tab_moves.specs.Leaving.{IsLeftFor, left_in}
use Rattle.tab_moves.specs.Showing.{IsToShow, need_in}
use Rattle.tab_moves.specs.PassedOn.{IsPassing}
use Rattle.tab_moves.specs.Moving.{InPass}
use Rattle.tab_evicts.specs.Evicting.{NoLoadBelow}
use Rattle.tab_walk.specs.Cutting.{MayCutFrom}
use Rattle.tab_moves.specs.Moving.{AreLeftUnder}
use Rattle.tab_walk.proofs.LeftUnder.{lefts_under}
use Rattle.tab_walk.specs.Moving.{IsBound, MayMoveFrom, MayMoveTo, in_move}
use Rattle.row_facts.specs.WalkRows.Since.{IsVisitedInNeed}
use Rattle.apply_plan.specs.declared.need.Need.TheVariants as needs

-- the epoch after that of a navigable that was never shown a document is the first
pub first_epoch : (p : InPass) (out : List RowKind) (t : Tables) → IsPassing p out t → (nav : NavId) (epoch : ℕ) → option_map (λ (n : Nav). n.epoch.0 + 1) (nav_of nav t.tree) ≡ Some epoch → (place : Place) → place_of (now_of p.event out) nav ≡ Some place → place.last ≡ None → epoch ≡ 1
first_epoch p out t pass nav epoch raised place placed none =
    let told : place.epoch.0 ≡ 0 = none_yet place.epoch.0 refl in
    let same : its.node.nav.epoch.0 ≡ place.epoch.0 = ap (λ (x : Epoch). x.0) its.tied.epoch in
    let both : Some (its.node.nav.epoch.0 + 1) ≡ Some epoch = sym (ap (λ (o : Option Node). option_map (λ (n : Nav). n.epoch.0 + 1) (option_map (λ (x : Node). x.nav) o)) its.there) ∙ raised in
    let one : its.node.nav.epoch.0 + 1 ≡ epoch = cc in
    omega (arith, one, same, told)
  where
    its : HasNode (look_of (now_of p.event out) t.running) t.tree nav place
    its = its_node (look_of (now_of p.event out) t.running) t.tree nav place pass.work.holds.navs placed

    none_yet : (k : ℕ) → place.epoch.0 ≡ k → place.epoch.0 ≡ 0
    none_yet zero is = is
    none_yet (suc k) is =
        let shown = (pass.going.tab.standing nav place placed).told.1 (omega (arith, is)) in
        let never : None ≡ Some shown.doc = sym none ∙ shown.last in
        absurd cc

module _ (p : InPass) (out : List RowKind) (t : Tables) (pass : IsPassing p out t) (nav : NavId) (entry : EntryId) (is : need_in t nav ≡ Some (needs.Move nav entry)) where
  abbrev s : Seen
  s = now_of p.event out

  -- its target's document is there
  record IsMovingDue : Type 0 where
    needing : IsNeeding p out t pass nav
    entry_is : needing.target.entry ≡ entry
    there : is_some (document_at needing.target.state t.tree) ≡ true

  due : IsMovingDue
  due = by_place (document_at its.needing.target.state t.tree) refl its.is
    where
      its : NeedsIt p out t pass nav (needs.Move nav entry)
      its = needs_it p out t pass nav (needs.Move nav entry) is

      by_place : (o : Option live_place.Place) → document_at its.needing.target.state t.tree ≡ o → needs.Move nav entry ≡ (if is_some o then needs.Move nav its.needing.target.entry else needs.Populate nav its.needing.target.entry) → IsMovingDue
      by_place None at h = absurd cc
      by_place (Some q) at h =
          record { needing = its.needing; entry_is = (let r : entry ≡ its.needing.target.entry = cc in sym r); there = ap (λ (o : Option live_place.Place). is_some o) at }

  abbrev target : Row
  target = due.needing.target

  its_target : IsTarget s.history.rows nav (aim_of s) target
  its_target = target_has s.history.rows nav (aim_of s) target due.needing.at

  row_found : row_of entry (history_held t.store).rows ≡ Some target
  row_found = ap (λ (x : EntryId). row_of x (history_held t.store).rows) (sym due.entry_is) ∙ due.needing.row_is

  pub row_there : IsSome (row_of entry (history_held t.store).rows)
  row_there = ap (λ (o : Option Row). is_some o) row_found

  module _ (row : Row) (at : row_of entry (history_held t.store).rows ≡ Some row) where
    same : row ≡ target
    same = let both : Some row ≡ Some target = sym at ∙ row_found in cc

    pub doc_there : IsSome (document_at row.state t.tree)
    doc_there = ap (λ (r : Row). is_some (document_at r.state t.tree)) same ∙ due.there

    module _ (doc : DocId) (placed : option_map (λ (q : live_place.Place). q.doc) (document_at row.state t.tree) ≡ Some doc) where
      -- the document, in the log
      record IsNew : Type 0 where
        document : Document
        found : document_of s doc ≡ Some document
        nav_is : document.nav ≡ nav
        usable : is_usable document target.state ≡ true

      new : IsNew
      new = by_listed (option_map (λ (q : live_place.Place). q.doc) (document_at target.state t.tree)) (pass.work.holds.documents.live target.state) (ap (λ (r : Row). option_map (λ (q : live_place.Place). q.doc) (document_at r.state t.tree)) (sym same) ∙ placed)
        where
          by_listed : (o : Option DocId) → IsListed (is_live_for target.state) (map sight s.documents) o → o ≡ Some doc → IsNew
          by_listed None none none_is = absurd cc
          by_listed (Some x) one doc_is =
              let named : x ≡ doc = cc in
              let seen : IsSeen s x one.document = seen_of s x one.document one.found in
              let usable_ : is_live_for target.state (sight seen.document) ≡ true = ap (λ (y : Sight). is_live_for target.state y) seen.is ∙ one.passes in
              let parts = live_parts target.state seen.document usable_ in
              record {
                document = seen.document;
                found = ap (λ (d : DocId). document_of s d) (sym named) ∙ seen.found;
                nav_is = sym (pass.going.tab.whose.whose x seen.document target seen.found its_target.there (sym parts.0)) ∙ its_target.nav_is;
                usable = usable_;
              }

      visited : IsVisitedInNeed s due.needing.place
      visited =
          record { shown = ap (λ (n : NavId). is_shown s.history.rows (aim_of s) n) due.needing.nav_is ∙ due.needing.shown; reached = due.needing.reached; needs = due.needing.needs }

      -- ---- it leaves one

      leaves_one : (left : DocId) (old : StateId) → left_in t nav doc ≡ Some (left, old) → due.needing.place.last ≡ Some left
      leaves_one left old leaves =
          let it : IsLeftFor s nav doc left old = left_some p out t pass nav due.needing.place due.needing.placed doc left old leaves in
          let both : Some it.place ≡ Some due.needing.place = sym it.placed ∙ due.needing.placed in
          let here : it.place ≡ due.needing.place = cc in
          ap (λ (q : Place). q.last) (sym here) ∙ it.last

      -- so it was shown a document before
      raised : (left : DocId) → due.needing.place.last ≡ Some left → 1 ≤ due.needing.place.epoch.0
      raised left last = by_epoch due.needing.place.epoch.0 refl
        where
          by_epoch : (k : ℕ) → due.needing.place.epoch.0 ≡ k → 1 ≤ due.needing.place.epoch.0
          by_epoch zero is_ =
              let none : due.needing.place.last ≡ None = (due.needing.standing.told.0 is_).last in
              let never : None ≡ Some left = sym none ∙ last in
              absurd cc
          by_epoch (suc k) is_ = omega (arith, is_)

      bound_from : (keep : ℕ) (cause : Why) → MayMoveTo p t.running keep s nav cause → (left : DocId) (old : StateId) → left_in t nav doc ≡ Some (left, old) → IsBound (in_move p nav cause doc entry left old) t.running s
      bound_from keep cause may left old leaves =
          record {
            place = due.needing.place;
            placed = due.needing.placed;
            visited = visited;
            target = target;
            at = due.needing.at;
            entry_is = due.entry_is;
            last = ap (λ (q : Place). q.last) (sym here) ∙ it.last;
            apart = it.apart;
            old = it.document;
            old_found = it.found;
            old_nav = old_nav;
            old_state = it.state_is;
            undiscarded = it.undiscarded;
            unknown = it.unknown;
            new = new.document;
            new_found = new.found;
            new_nav = new.nav_is;
            usable = new.usable;
            may = may.may;
            moved = may.movable.moved due.needing.place due.needing.placed;
          }
        where
          it : IsLeftFor s nav doc left old
          it = left_some p out t pass nav due.needing.place due.needing.placed doc left old leaves

          here : it.place ≡ due.needing.place
          here = let both : Some it.place ≡ Some due.needing.place = sym it.placed ∙ due.needing.placed in cc

          old_nav : it.document.nav ≡ nav
          old_nav =
              let made : IsMadeFor s.documents nav left = pass.going.tab.kept.lasts nav it.place left it.placed it.last in
              let both : Some made.d ≡ Some it.document = sym made.found ∙ it.found in
              let one : made.d ≡ it.document = cc in
              ap (λ (d : Document). d.nav) (sym one) ∙ ap (λ (n : ℕ). let x : NavId = record { 0 = n } in x) made.nav_is

      pub found_from : (run_keep : ℕ) (cause : Why) → MayMoveTo p t.running run_keep s nav cause → 1 ≤ run_keep → (left : DocId) (old : StateId) → left_in t nav doc ≡ Some (left, old) → MayMoveFrom (in_move p nav cause doc entry left old) t.running run_keep s row.state
      found_from keep cause may some left old leaves =
          record {
            bound = bound_from keep cause may left old leaves;
            is_state = ap (λ (r : Row). r.state) (at_target ∙ sym same);
            movable = may.movable;
            were = may.were;
            loads = may.loads;
            header = may.header;
            free = may.free due.needing.place due.needing.placed (raised left (leaves_one left old leaves));
            some = some;
          }
        where
          at_target : (bound_from keep cause may left old leaves).target ≡ target
          at_target = let both : Some (bound_from keep cause may left old leaves).target ≡ Some target = sym (bound_from keep cause may left old leaves).at ∙ due.needing.at in cc

      -- what it leaves, and what is shown below it, is left duly
      pub found_lefts : (run_keep : ℕ) (cause : Why) → MayMoveTo p t.running run_keep s nav cause → (left : DocId) (old : StateId) → left_in t nav doc ≡ Some (left, old) → AreLeftUnder p.event out nav (show_why t.running cause)
      found_lefts keep cause may left old leaves =
          let bound : IsBound (in_move p nav cause doc entry left old) t.running s = bound_from keep cause may left old leaves in
          lefts_under (in_move p nav cause doc entry left old) (show_why t.running cause) out t pass bound (may.leaves bound.place bound.placed) may.rows_

      -- ---- it leaves none

      pub found_none : (cause : Why) → MayMoveTo p t.running t.kept.keep s nav cause → left_in t nav doc ≡ None → IsToShow None t.running t.kept.keep s nav doc entry cause
      found_none cause may leaves =
          record {
            wanted = record {
              place = due.needing.place;
              placed = due.needing.placed;
              visited = visited;
              target = target;
              at = due.needing.at;
              entry_is = due.entry_is;
              document = new.document;
              found = new.found;
              nav_is = new.nav_is;
              usable = new.usable;
            };
            may = may.may;
            moved = may.movable.moved due.needing.place due.needing.placed;
            own = it.own;
            nobody = it.nobody;
            leaves =
                ap (λ (o : Option Document). kept_leaving s doc (option_and_then (λ (d : Document). option_and_then (λ (place : Place). place.last) (place_of s d.nav)) o)) new.found
                ∙ ap (λ (n : NavId). kept_leaving s doc (option_and_then (λ (place : Place). place.last) (place_of s n))) new.nav_is
                ∙ ap (λ (o : Option Place). kept_leaving s doc (option_and_then (λ (place : Place). place.last) o)) due.needing.placed
                ∙ it.kept;
            few = pass.few;
          }
        where
          it : LeavesNothing p out t pass nav due.needing.place due.needing.placed doc
          it = left_none p out t pass nav due.needing.place due.needing.placed doc leaves

      -- it leaves one, and none may be kept
      pub found_cut : (keep : ℕ) (cause : Why) → MayMoveTo p t.running keep s nav cause → keep ≡ 0 → (left : DocId) (old : StateId) → left_in t nav doc ≡ Some (left, old) → MayCutFrom (in_move p nav cause doc entry left old) t.running keep s
      found_cut keep cause may none left old leaves =
          record {
            bound = bound_from keep cause may left old leaves;
            movable = may.movable;
            were = may.were;
            loads = subst (λ (x : StateId). NoLoadBelow s x) it.state_is (may.left_loads it.place left it.document it.placed it.last it.found it.undiscarded);
            header = may.header;
            free = may.free due.needing.place due.needing.placed (raised left (leaves_one left old leaves));
            none = none;
          }
        where
          it : IsLeftFor s nav doc left old
          it = left_some p out t pass nav due.needing.place due.needing.placed doc left old leaves
