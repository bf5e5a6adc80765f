-- Where none may be kept: once all are discarded, the navigable may be shown its target.
use Rattle.log_model.proofs.Refl.{nat_eq_refl}
use Rattle.log_model.specs.AfterPlaces.{kept_leaving, sleepers_below, without_doc, woken_below}
use Rattle.log_model.specs.Checks.{may_go_on}
use Rattle.log_model.specs.Equal.{has_doc}
use Rattle.log_model.specs.History.{History, target_entry}
use Rattle.log_model.specs.Places.{aim_of, is_asleep, is_below, is_gone, is_shown}
use Rattle.log_model.specs.Seen.{Asked, Document, Place, Seen, asleep, awake, document_of, place_in, place_of, request_of}
use Rattle.log_model.specs.declared.job.Why.{Why}
use Rattle.log_model.specs.declared.row_kind.RowKind.{RowKind}
use Rattle.seen_facts.proofs.Hang.Hung.{places_distinct}
use Rattle.seen_facts.specs.Hang.Members.{Has}
use Rattle.seen_facts.specs.Mover.Movers.{IsMovedBy}
use Rattle.seen_facts.proofs.Rest.Stands.{get_of}
use Rattle.row_facts.proofs.RestRows.Again.{rest_more}
use Rattle.seen_laws.specs.InEvent.{now_of}
use Rattle.std.proofs.Common.{Bool, List, Option, Some, [], ap, arith, cond, false, inl, inr, length, map, not, refl, subst, sym, true, ℕ, ◌&&◌, ◌∙◌, ◌∷◌, ◌≡◌, ◌≤◌}
use Rattle.std.specs.List.{list_any}
use Rattle.std.specs.Prelude.{option_and_then}
use Rattle.tab_doors.specs.Keeping.{LeavesNone}
use Rattle.tab_doors.specs.Working.{KeepsStore}
use Rattle.tab_doors.specs.declared.tables.Tables.{Tables}
use Rattle.tab_evicts.proofs.Quiets.{one_document}
use Rattle.tab_evicts.specs.Evicting.{HasOnlyDiscarded, StaysPlaced}
use Rattle.tab_ids.specs.declared.DocId.{DocId}
use Rattle.tab_ids.specs.declared.NavId.{NavId}
use Rattle.tab_ids.specs.declared.ReqId.{ReqId}
use Rattle.tab_moves.specs.Moving.{AllAsleep}
use Rattle.tab_moves.specs.Showing.{IsToShow}
use Rattle.tab_moves.proofs.Frees.{goes_on}
use Rattle.tab_moves.specs.Making.{show_why}
use Rattle.tab_moves.specs.PassedOn.{HasOnly, IsLeaving}
use Rattle.tab_walk.proofs.Overs.{IsQuietRow, causes_over, discarded_quiet, moved_over, parked_over}
use Rattle.tab_walk.proofs.Rooms.{filter_none}
use Rattle.tab_walk.specs.Cutting.{IsCutting, cut_of}
use Rattle.tab_walk.specs.Moving.{InMove, IsAimed, IsPart}
use Rattle.seen_facts.proofs.Walk.Placed.{each_found, found_nav}
use Rattle.seen_facts.specs.Walk.Serving.{is_needing, is_stopping}
use Rattle.seen_facts.specs.Walk.Walking.{LeavesOthers}
use Rattle.row_facts.proofs.WalkRows.Walks.{stopping_same}
use Rattle.row_facts.specs.WalkRows.Since.{IsVisitedInNeed}

module _ (m : InMove) (why : Why) (out : List RowKind) (t : Tables) (new : Document) (rest : List DocId) (new_found : document_of (now_of m.pass.event out) m.doc ≡ Some new) (aimed : IsAimed m t.running (now_of m.pass.event out)) (sleeps : AllAsleep (now_of m.pass.event out) m.nav) (last_out : List RowKind) (u : Tables) (keeps : KeepsStore t u) (so : IsCutting (record { pass = m.pass; move = cut_of m; left = m.left; new = new }) m.state why rest [] last_out u) (done : (x : DocId) → has_doc rest x ≡ true → ⊥) (only : HasOnlyDiscarded why out last_out) (stays : StaysPlaced (now_of m.pass.event out) (now_of m.pass.event last_out)) where
  abbrev was : Seen
  was = now_of m.pass.event out

  abbrev now : Seen
  now = now_of m.pass.event last_out

  quiet : HasOnly IsQuietRow out last_out
  quiet = discarded_quiet why out last_out only

  each : (req : ReqId) (q : Asked) → request_of now req ≡ Some q → may_go_on now req ≡ true
  each = goes_on now u.running so.leaving.going.tab.asked

  abbrev leaves : LeavesOthers was now m.nav
  leaves = stays.leaves m.nav

  placed_then : (nav : NavId) → place_of now nav ≡ place_of was nav
  placed_then nav = ap (λ (l : List Place). place_in l nav) stays.places

  pub cut_leaving : IsLeaving m.pass (Some (cut_of m)) [] last_out u
  cut_leaving =
      record { work = so.leaving.work; going = so.leaving.going; owed = so.leaving.owed; rests = rest_more now rest [] (λ x has. absurd (done x has)) so.leaving.rests; duly = so.leaving.duly }

  visited_then : IsVisitedInNeed now aimed.place
  visited_then =
      record {
        shown = ap (λ (h : History). is_shown h.rows (aim_of now) aimed.place.nav) leaves.history ∙ ap (λ (step : ℕ). is_shown was.history.rows step aimed.place.nav) leaves.aim ∙ aimed.visited.shown;
        reached = ap (λ (step : ℕ). list_any (is_stopping now.history.rows step now.places) aimed.place.above) leaves.aim ∙ stopping_same was now (aim_of was) aimed.place.above leaves.history (λ nav has. placed_then nav) ∙ aimed.visited.reached;
        needs = ap (λ (h : History). is_needing h.rows (aim_of now) aimed.place) leaves.history ∙ ap (λ (step : ℕ). is_needing was.history.rows step aimed.place) leaves.aim ∙ aimed.visited.needs;
      }

  one : aimed.new ≡ new
  one = one_document was m.doc aimed.new new aimed.new_found new_found

  placed : place_of now m.nav ≡ Some aimed.place
  placed = placed_then m.nav ∙ aimed.placed

  own : aimed.place.nav ≡ m.nav
  own = found_nav now.places m.nav aimed.place placed

  sleeps_then : AllAsleep now m.nav
  sleeps_then other place at_or at = sleeps other place at_or (sym (placed_then other) ∙ at)

  nobody : sleepers_below now m.doc aimed.place ≡ []
  nobody = rw (aimed.last) (rw (aimed.apart) none)
    where
      each_asleep : (q : Place) → Has now.places q → (is_below aimed.place.nav q && not (is_asleep q)) ≡ false
      each_asleep q there = by_test (is_below aimed.place.nav q) refl
        where
          found : place_of now q.nav ≡ Some q
          found = let at = get_of now.places q there in each_found now.places (places_distinct now so.leaving.going.tab.sound so.leaving.going.tab.hangs) at.0 q at.1

          by_test : (b : Bool) → is_below aimed.place.nav q ≡ b → (b && not (is_asleep q)) ≡ false
          by_test false apart = refl
          by_test true below = rw (sleeps_then q.nav q (inr (ap (λ (n : NavId). is_below n q) (sym own) ∙ below)) found) refl

      none : woken_below now aimed.place.nav ≡ []
      none = ap (λ (l : List Place). map (λ (q : Place). q.nav) l) (filter_none (λ (q : Place). is_below aimed.place.nav q && not (is_asleep q)) now.places each_asleep)

  leaves_none_ : LeavesNone now m.doc
  leaves_none_ =
      ap (λ (o : Option Document). kept_leaving now m.doc (option_and_then (λ (d : Document). option_and_then (λ (place : Place). place.last) (place_of now d.nav)) o)) so.new_found
      ∙ ap (λ (n : NavId). kept_leaving now m.doc (option_and_then (λ (place : Place). place.last) (place_of now n))) (ap (λ (d : Document). d.nav) (sym one) ∙ aimed.new_nav)
      ∙ ap (λ (o : Option Place). kept_leaving now m.doc (option_and_then (λ (place : Place). place.last) o)) placed
      ∙ ap (λ (o : Option DocId). kept_leaving now m.doc o) aimed.last
      ∙ ap (λ (b : Bool). let l : List DocId = cond b now.kept (without_doc m.doc (cond (is_gone now m.left) now.kept (m.left ∷ without_doc m.left now.kept))) in l) aimed.apart
      ∙ ap (λ (b : Bool). without_doc m.doc (let l : List DocId = cond b now.kept (m.left ∷ without_doc m.left now.kept) in l)) so.gone_left

  pub cut_shows : IsToShow (Some (cut_of m)) u.running u.kept.keep now m.nav m.doc m.entry m.cause
  cut_shows =
      record {
        wanted = record {
          place = aimed.place;
          placed = placed;
          visited = visited_then;
          target = aimed.target;
          at = ap (λ (h : History). target_entry h.rows m.nav (aim_of now)) leaves.history ∙ ap (λ (step : ℕ). target_entry was.history.rows m.nav step) leaves.aim ∙ aimed.at;
          entry_is = aimed.entry_is;
          document = aimed.new;
          found = so.new_found ∙ ap (λ (d : Document). Some d) (sym one);
          nav_is = aimed.new_nav;
          usable = aimed.usable;
        };
        may = causes_over m.pass.event out last_out quiet each m.cause aimed.may;
        moved = λ low. subst (λ (r : Option ReqId). IsMovedBy now (show_why r m.cause) m.nav) (sym keeps.running) (moved_over m.pass.event out last_out quiet (show_why t.running m.cause) m.nav (aimed.moved low));
        own = λ other wakes. (let never : awake other ≡ asleep = sym wakes ∙ sleeps_then m.nav aimed.place (inl (nat_eq_refl m.nav.0)) placed in absurd cc);
        nobody = nobody;
        leaves = (refl, leaves_none_, tt);
        few = few_none;
      }
    where
      few_none : length now.kept ≤ u.kept.keep
      few_none = let none : length now.kept ≡ 0 = ap (λ (l : List DocId). length l) so.kept in omega (arith, none)

  pub cut_part : IsPart was now m.nav
  cut_part = record { others = leaves; parked = parked_over m.pass.event out last_out quiet; causes = causes_over m.pass.event out last_out quiet each; loading = stays.loading }
