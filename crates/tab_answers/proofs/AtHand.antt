-- A load that is at hand, as in its unload check, is dropped: what holds of the tab between two events holds without it, and what goes on goes on.
use Rattle.tab_facts.specs.TabWhole.Tab.{has_ended, open_among}
use Rattle.tab_facts.proofs.TabWhole.OpenAmong.{times_open, unended_open}
use Rattle.log_model.specs.AfterRequests.{without_req}
use Rattle.log_model.specs.Equal.{has_req, holds}
use Rattle.log_model.specs.Places.{is_load, is_ongoing_load}
use Rattle.log_model.specs.Seen.{Asked, Seen, request_in, request_of}
use Rattle.log_model.specs.declared.outcome.Cause.{Cause}
use Rattle.log_model.specs.declared.row_kind.Actor.{Actor}
use Rattle.log_model.specs.declared.row_kind.RowKind.TheVariants as rows
use Rattle.seen_facts.proofs.Coord.Unread.{next}
use Rattle.seen_facts.proofs.Load.Rows.{req_same}
use Rattle.seen_facts.proofs.Request.Times.{itself, times_none, without_it, without_other}
use Rattle.seen_facts.specs.LoadWhereabouts.Whereabouts.{times_on_way}
use Rattle.seen_facts.specs.Request.Whereabouts.{is_of_load, times}
use Rattle.std.proofs.Common.{Bool, List, None, Option, Some, [], arith, false, refl, subst, sym, true, ℕ, ◌+◌, ◌<◌, ◌==◌, ◌∷◌, ◌≡◌, ap, ◌∙◌}
use Rattle.std.proofs.lemmas.Bool.Decides.{nat_tests}
use Rattle.tab_facts.proofs.FrameWhole.Ending.{some_times}
use Rattle.tab_facts.proofs.Last.Rows.{dropped_lasting}
use Rattle.tab_facts.proofs.TabGoing.Rows.{dropped_going}
use Rattle.tab_facts.proofs.TabWhole.Where.{IsNowhereElse, at_most_once, listed_alone}
use Rattle.tab_facts.specs.TabEvents.Between.{IsBetweenChecks}
use Rattle.tab_facts.specs.TabGoing.Going.{IsGoing}
use Rattle.tab_ids.specs.declared.ReqId.{ReqId}
use Rattle.unasked_tab.proofs.InCheck.{dropped_in_check, reordered_between}
use Rattle.unasked_tab.proofs.Reordered.{AreAsOften}

-- an ongoing load is on its way
on_way : (q : Asked) → is_ongoing_load q ≡ true → 0 < times_on_way (Some q)
on_way q e = (let one : 0 < times_on_way (Some q) = rw e (omega arith) in one)

module _ (keep : ℕ) (run : Option ReqId) (loads : List ReqId) (waits : Bool) (s : Seen) (is : IsBetweenChecks keep run loads waits s) (req : ReqId) (hand : has_req loads req ≡ true) (q : Asked) (found : request_of s req ≡ Some q) (load : is_load q.what ≡ true) where
  -- it is at hand, and at no other place
  alone : IsNowhereElse run loads [] s is.tab req
  alone = listed_alone run loads [] s is.tab req hand

  pub unparked_hand : has_req s.parked req ≡ false
  unparked_hand = times_none req s.parked alone.parked

  pub unjoined_hand : has_req s.joined req ≡ false
  unjoined_hand = times_none req s.joined alone.joined

  -- it hasn't begun
  pub idle_hand : is_ongoing_load q ≡ false
  idle_hand = by_test (is_ongoing_load q) refl
    where
      by_test : (b : Bool) → is_ongoing_load q ≡ b → b ≡ false
      by_test false e = refl
      by_test true e =
          let way : 0 < times_on_way (request_in s.requests req) = subst (λ (o : Option Asked). 0 < times_on_way o) (sym found) (on_way q e) in
          let none = alone.way in
          absurd (omega (arith, none, way))

  of_load : is_of_load (request_in s.requests req) ≡ true
  of_load = rw found load

  -- it is at hand once, as it hasn't ended
  module _ (open_ : q.ending ≡ None) where
    unended : holds has_ended (request_in s.requests req) ≡ false
    unended = ap (λ (o : Option Asked). holds has_ended o) found ∙ unended_open q open_

    once : times req loads ≡ 1
    once =
        let few = at_most_once run loads [] s is.tab req in
        let some : 0 < times req loads = some_times req loads hand in
        let same : times req (open_among s.requests loads) ≡ times req loads = times_open s.requests req loads unended in
        omega (arith, few, some, same)

    -- so it may stand in front of the others
    often : AreAsOften loads (req ∷ without_req req loads)
    often r = by_number (r.0 == req.0) refl
      where
        turned : (r.0 == req.0) ≡ false → (req.0 == r.0) ≡ false
        turned apart = grind (arith, nat_tests, apart)

        by_number : (b : Bool) → (r.0 == req.0) ≡ b → times r (req ∷ without_req req loads) ≡ times r loads
        by_number true e =
            let it : r ≡ req = req_same r req e in
            subst (λ (x : ReqId). times x (req ∷ without_req req loads) ≡ times x loads) (sym it) (let own : times req (req ∷ without_req req loads) ≡ 1 + times req (without_req req loads) = rw (itself req) refl in let none = without_it req loads in let one = once in omega (arith, own, none, one))
        by_number false e =
            let other : times r (req ∷ without_req req loads) ≡ 0 + times r (without_req req loads) = rw (turned e) refl in
            let same = without_other req r loads e in
            omega (arith, other, same)

    front : IsBetweenChecks keep run (req ∷ without_req req loads) waits s
    front = reordered_between keep run loads (req ∷ without_req req loads) waits s often is

  module _ (event : ℕ) (actor : Actor) (cause : Cause) where
    abbrev pub left : Seen
    left = next s event actor (rows.Dropped req cause)

    module _ (open_ : q.ending ≡ None) where
      pub between_left : IsBetweenChecks keep run (without_req req loads) waits left
      between_left = dropped_in_check keep run (without_req req loads) waits s event actor req (front open_) of_load cause

      pub going_left : IsGoing run loads [] s → IsGoing run (without_req req loads) [] left
      going_left going =
          dropped_going run loads [] s event actor going req q found open_ cause (without_req req loads) [] between_left.tab (dropped_lasting s event actor going.lasting req cause)
