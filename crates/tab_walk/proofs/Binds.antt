-- A navigable that is bound for a document is so still once it has left another one, and once others were discarded.
use Rattle.seen_facts.proofs.Hang.Hung.{not_above_itself, place_chain}
use Rattle.seen_facts.specs.Hang.Hanging.{Hangs}
use Rattle.seen_facts.specs.Hang.Members.{Has}
use Rattle.row_facts.specs.Left.Left.{WereShown}
use Rattle.log_model.specs.Checks.{may_go_on}
use Rattle.log_model.specs.History.{History, has_nav, target_entry}
use Rattle.log_model.specs.Places.{aim_of, is_shown}
use Rattle.log_model.specs.Seen.{Asked, Document, Place, Seen, asleep, document_of, place_of, request_of}
use Rattle.log_model.specs.Soundness.{IsSound}
use Rattle.log_model.specs.declared.job.Why.{Why}
use Rattle.log_model.specs.declared.row_kind.RowKind.{RowKind}
use Rattle.seen_laws.specs.InEvent.{now_of}
use Rattle.std.proofs.Common.{List, Option, Some, ap, map, refl, subst, sym, true, ◌∙◌, ◌≡◌}
use Rattle.std.specs.List.{list_any}
use Rattle.tab_doors.proofs.Sights.{IsSeen, seen_of, sight_of}
use Rattle.tab_doors.specs.Look.{Sight, is_live_for, sight, sight_in}
use Rattle.tab_ids.specs.declared.DocId.{DocId}
use Rattle.tab_ids.specs.declared.NavId.{NavId}
use Rattle.tab_ids.specs.declared.ReqId.{ReqId}
use Rattle.tab_ids.specs.declared.StateId.{StateId}
use Rattle.tab_moves.specs.Moving.{HasLeft}
use Rattle.tab_moves.specs.Making.{show_why}
use Rattle.tab_moves.proofs.Frees.{HasOnlyFrozen}
use Rattle.tab_walk.proofs.Overs.{causes_over, frozen_quiet, loads_over, moved_over, sights_over, were_over}
use Rattle.tab_walk.specs.Moving.{HasSetOff, InMove, IsBound, NoLoadBelowKept}
use Rattle.seen_facts.proofs.Walk.Placed.{found_nav}
use Rattle.seen_facts.specs.Walk.Serving.{is_stopping}
use Rattle.row_facts.proofs.WalkRows.Walks.{above_apart, stopping_same}
use Rattle.row_facts.specs.WalkRows.Since.{IsVisitedInNeed}

-- ---- a document that is seen as before

record IsAlike (s t : Seen) (doc : DocId) (d : Document) : Type 0 where
  new : Document
  found : document_of t doc ≡ Some new
  is : sight new ≡ sight d

alike : (s t : Seen) (doc : DocId) (d : Document) → map sight t.documents ≡ map sight s.documents → document_of s doc ≡ Some d → IsAlike s t doc d
alike s t doc d same found =
    let there : IsSeen t doc (sight d) = seen_of t doc (sight d) (ap (λ (l : List Sight). sight_in l doc) same ∙ sight_of s doc d found) in
    record { new = there.document; found = there.found; is = there.is }

-- ---- the navigable leaves what it is awake on

module _ (m : InMove) (run : Option ReqId) (was out : List RowKind) (bound : IsBound m run (now_of m.pass.event was)) (docs : List DocId) (why : Why) (only : HasOnlyFrozen why docs was out) (left : HasLeft docs why (now_of m.pass.event was) (now_of m.pass.event out) m.nav) (each : (req : ReqId) (q : Asked) → request_of (now_of m.pass.event out) req ≡ Some q → may_go_on (now_of m.pass.event out) req ≡ true) (sound : IsSound (now_of m.pass.event was).history) (hangs : Hangs (now_of m.pass.event was)) where
  abbrev s : Seen
  s = now_of m.pass.event was

  abbrev t : Seen
  t = now_of m.pass.event out

  -- where it is then
  asleep_place : Place
  asleep_place = record bound.place { status = asleep; why = why }

  own : bound.place.nav ≡ m.nav
  own = found_nav s.places m.nav bound.place bound.placed

  above_same : (nav : NavId) → has_nav bound.place.above nav ≡ true → place_of t nav ≡ place_of s nav
  above_same nav has =
      left.leaves.others nav (above_apart s m.nav bound.place.above (place_chain s sound hangs m.nav bound.place bound.placed) (ap (λ (n : NavId). has_nav bound.place.above n) (sym own) ∙ not_above_itself s sound hangs m.nav bound.place bound.placed) nav has)

  visited_then : IsVisitedInNeed t (record bound.place { status = asleep; why = why })
  visited_then =
      record {
        shown = ap (λ (h : History). is_shown h.rows (aim_of t) bound.place.nav) left.leaves.history ∙ ap (λ (step : _). is_shown s.history.rows step bound.place.nav) left.leaves.aim ∙ bound.visited.shown;
        reached = ap (λ (step : _). list_any (is_stopping t.history.rows step t.places) bound.place.above) left.leaves.aim ∙ stopping_same s t (aim_of s) bound.place.above left.leaves.history above_same ∙ bound.visited.reached;
        needs = refl;
      }

  target_same : target_entry t.history.rows m.nav (aim_of t) ≡ target_entry s.history.rows m.nav (aim_of s)
  target_same =
      ap (λ (h : History). target_entry h.rows m.nav (aim_of t)) left.leaves.history ∙ ap (λ (step : _). target_entry s.history.rows m.nav step) left.leaves.aim

  sights : map sight t.documents ≡ map sight s.documents
  sights = sights_over why docs m.pass.event was out only

  old_then : IsAlike s t m.left bound.old
  old_then = alike s t m.left bound.old sights bound.old_found

  new_then : IsAlike s t m.doc bound.new
  new_then = alike s t m.doc bound.new sights bound.new_found

  pub bound_left : IsBound m run t
  bound_left =
      record {
        place = record bound.place { status = asleep; why = why };
        placed = left.own bound.place bound.placed;
        visited = visited_then;
        target = bound.target;
        at = target_same ∙ bound.at;
        entry_is = bound.entry_is;
        last = bound.last;
        apart = bound.apart;
        old = old_then.new;
        old_found = old_then.found;
        old_nav = ap (λ (x : Sight). x.nav) old_then.is ∙ bound.old_nav;
        old_state = ap (λ (x : Sight). x.state) old_then.is ∙ bound.old_state;
        undiscarded = ap (λ (x : Sight). x.is_discarded) old_then.is ∙ bound.undiscarded;
        unknown = ap (λ (x : Sight). x.is_known_dead) old_then.is ∙ bound.unknown;
        new = new_then.new;
        new_found = new_then.found;
        new_nav = ap (λ (x : Sight). x.nav) new_then.is ∙ bound.new_nav;
        usable = ap (λ (x : Sight). is_live_for bound.target.state x) new_then.is ∙ bound.usable;
        may = causes_over m.pass.event was out (frozen_quiet why docs was out only) each m.cause bound.may;
        moved = λ low. moved_over m.pass.event was out (frozen_quiet why docs was out only) (show_why run m.cause) m.nav (bound.moved low);
      }

  pub set_off_left : WereShown s → NoLoadBelowKept s → HasSetOff m run t
  set_off_left were loads =
      record {
        bound = bound_left;
        sleeps = left.all;
        were = were_over m.pass.event was out (frozen_quiet why docs was out only) were;
        loads = λ gone has. loads_over m.pass.event was out (frozen_quiet why docs was out only) gone (loads gone (subst (λ (l : List StateId). Has l gone) left.states has));
      }
