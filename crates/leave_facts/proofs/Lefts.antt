-- A document that a walk leaves may be left for the traversal, as what is known of the log without questions tells.
use Rattle.leave_facts.proofs.Leaves.{left_going}
use Rattle.leave_facts.specs.Leaving.{AreAsked, IsGoing, stays_at}
use Rattle.log_model.specs.Checks.{may_be_left}
use Rattle.log_model.specs.Events.{Point}
use Rattle.log_model.specs.History.{has_nav, has_row, used_step_at}
use Rattle.log_model.specs.Places.{is_traversal, is_under_way, way_of}
use Rattle.log_model.specs.Seen.{Asked, Document, Place, Seen, awake, document_of, place_of, request_of}
use Rattle.log_model.specs.Soundness.{IsSound}
use Rattle.leave_facts.proofs.Moved.{moved_leaves}
use Rattle.leave_facts.specs.Moved.{IsMoved}
use Rattle.seen_facts.specs.Hang.Hanging.{Hangs}
use Rattle.seen_facts.specs.Home.Homes.{EachWake, HangsOnAwake}
use Rattle.seen_laws.specs.Unasked.{unasked, unasked_request, without_asks}
use Rattle.std.proofs.Common.{Bool, Some, ap, false, sym, true, ◌∙◌, ◌≡◌}
use Rattle.tab_ids.specs.declared.DocId.{DocId}
use Rattle.tab_ids.specs.declared.NavId.{NavId}
use Rattle.tab_ids.specs.declared.ReqId.{ReqId}
use Rattle.tab_ids.specs.declared.Step.{Step}
use Rattle.unasked.proofs.Readings.{checked_off, found_from, under_way_off}
use Rattle.unasked_dues.proofs.Base.{document_from}

-- a traversal that is under way there is under way in the log
pub record IsGoingIn (s : Seen) (req : ReqId) (goal : Step) : Type 0 where
  pub asked : Asked
  pub going : IsGoing s req asked goal

module _ (checking : ReqId → Bool) (s : Seen) where
  pub going_in : (req : ReqId) (bare : Asked) (goal : Step) → IsGoing (unasked checking s) req bare goal → IsGoingIn s req goal
  going_in req bare goal is =
      record {
        asked = from.0;
        going =
            record {
              found = from.1;
              going = ap is_under_way (sym same) ∙ is.going;
              traverses = ap (λ (q : Asked). is_traversal q.what) (sym same) ∙ is.traverses;
              goal_is = ap (λ (q : Asked). q.goal) (sym same) ∙ is.goal_is;
            };
      }
    where
      from : (p : Asked) × (request_of s req ≡ Some p) × (bare ≡ unasked_request checking p)
      from = found_from checking s req bare is.found

      off : checking from.0.nr ≡ false
      off = under_way_off checking from.0 (ap is_under_way (sym from.2) ∙ is.going)

      same : bare ≡ without_asks from.0
      same = from.2 ∙ checked_off checking from.0 off

module _ (p : Point) (checking : ReqId → Bool) (asked : AreAsked p.now) (sound : IsSound p.now.history) (hangs : Hangs (unasked checking p.now)) (hung : EachWake (HangsOnAwake (unasked checking p.now)) (unasked checking p.now)) where
  abbrev bare : Seen
  bare = unasked checking p.now

  pub left_moved : (req : ReqId) (q : Asked) (goal : Step) → IsGoing bare req q goal → (moved : NavId) → IsMoved bare (used_step_at p.now.history.rows goal.0) moved → (nav : NavId) (place : Place) (doc : DocId) (d : Document) → place_of bare nav ≡ Some place → place.status ≡ awake doc → document_of bare doc ≡ Some d → d.nav ≡ nav → has_nav (way_of place) moved ≡ true → has_row nav p.now.history.rows ≡ true → may_be_left p doc req ≡ true
  left_moved req q goal going moved its nav place doc d at wakes found home below placed =
      let from = document_from checking p.now doc d found in
      let run : IsGoingIn p.now req goal = going_in checking p.now req q goal going in
      let leaves : stays_at p.now.history.rows (used_step_at p.now.history.rows goal.0) d ≡ false = moved_leaves bare sound hangs hung (used_step_at p.now.history.rows goal.0) moved its nav place doc d at wakes found home below in
      left_going p asked doc from.0 from.1 (ap (λ (x : Document). has_row x.nav p.now.history.rows) (sym from.2) ∙ ap (λ (n : NavId). has_row n p.now.history.rows) home ∙ placed) req run.asked goal run.going
      (ap (λ (x : Document). stays_at p.now.history.rows (used_step_at p.now.history.rows goal.0) x) (sym from.2) ∙ leaves)
