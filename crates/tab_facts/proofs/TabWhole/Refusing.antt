-- All that holds of a tab between two rows holds after a request is refused or dropped of which nothing is held back, and nothing made is at hand: one that was accepted in the event, or is in its unload check, whether or not the list of those at hand still has it then; one in the queue; and an ongoing load.
use Rattle.seen_facts.proofs.Coord.Unread.{next}
use Rattle.seen_facts.specs.Each.Runs.{is_this}
use Rattle.seen_facts.proofs.Entry.Skips.{without_made}
use Rattle.tab_facts.proofs.FrameWhole.Ending.{reqs_of}
use Rattle.tab_facts.proofs.FrameWhole.Refusing.{none_without, turn_joined}
use Rattle.seen_facts.specs.LoadWhereabouts.Whereabouts.{times_on_way, ways_of}
use Rattle.log_model.specs.After.{ended}
use Rattle.log_model.specs.AfterRequests.{without_req}
use Rattle.log_model.specs.Equal.{has_req, holds}
use Rattle.log_model.specs.Places.{is_load, is_ongoing_load, is_traversal, is_under_way}
use Rattle.log_model.specs.Queue.{begins_in_turn}
use Rattle.log_model.specs.Seen.{Asked, Seen, request_in, request_of}
use Rattle.log_model.specs.declared.made.Made.{Made}
use Rattle.log_model.specs.declared.outcome.Cause.{Cause}
use Rattle.log_model.specs.declared.outcome.Denial.{Denial}
use Rattle.log_model.specs.declared.outcome.Ending.{Ending}
use Rattle.log_model.specs.declared.outcome.Ending.TheVariants as endings
use Rattle.log_model.specs.declared.request.Request.{Request}
use Rattle.log_model.specs.declared.row_kind.Actor.{Actor}
use Rattle.seen_facts.proofs.Request.Times.{itself, times_none}
use Rattle.seen_facts.specs.Request.Whereabouts.{is_of_load, times_due}
use Rattle.std.proofs.Common.{Bool, List, None, Option, Some, [], ap, arith, false, inl, inr, refl, subst, sym, true, ℕ, ◌&&◌, ◌++◌, ◌<◌, ◌==◌, ◌||◌, ◌∙◌, ◌∷◌, ◌≡◌}
use Rattle.tab_ids.specs.declared.ReqId.{ReqId}
use Rattle.tab_facts.proofs.TabWhole.Ending.{IsNoProcess, MayEnd, dropped_tab, refused_tab}
use Rattle.tab_facts.proofs.TabWhole.OpenAmong.{ended_first, ended_itself, tab_alike, tab_else}
use Rattle.tab_facts.proofs.TabWhole.Where.{IsCarried, IsNowhereElse, IsUnheld, all_once, joined_unheld, listed_alone, nothing_goes, open_held, unheld_end, unheld_hand, unheld_loads, way_unheld}
use Rattle.tab_facts.specs.TabWhole.Tab.{IsTab, at_hand, has_ended}
use Rattle.log_model.specs.declared.request.Request.TheVariants as requests
use Rattle.log_model.specs.declared.row_kind.RowKind.TheVariants as rows

-- a load is no traversal
no_traversal : (what : Request) → is_load what ≡ true → is_traversal what ≡ false
no_traversal (requests.Load nav mode address) is = refl
no_traversal (requests.Go delta) never = absurd cc
no_traversal (requests.Poke nav action) never = absurd cc
no_traversal (requests.Reload nav) never = absurd cc

module _ (run : Option ReqId) (loads : List ReqId) (hand : List Made) (s : Seen) (tab : IsTab run loads hand s) (req : ReqId) where
  -- a load isn't the running traversal
  pub load_other : is_of_load (request_in s.requests req) ≡ true → is_this run req ≡ false
  load_other load = by_found (request_in s.requests req) refl load
    where
      neither : (a b : Bool) → b ≡ false → (a && b) ≡ false
      neither true b e = e
      neither false b e = refl

      by_found : (o : Option Asked) → request_in s.requests req ≡ o → is_of_load o ≡ true → is_this run req ≡ false
      by_found None e never = absurd cc
      by_found (Some q) e is =
          sym (tab.asked.only req q e) ∙ neither (is_under_way q) (is_traversal q.what) (no_traversal q.what is)

-- ---- a request of the list of those at hand, which stays in it

-- one of these is one of more
listed_on : (req : ReqId) (xs ys : List ReqId) → has_req xs req ≡ true → has_req (xs ++ ys) req ≡ true
listed_on req [] ys never = absurd cc
listed_on req (x ∷ xs) ys has = by_test (x.0 == req.0) has (listed_on req xs ys)
  where
    by_test : (b : Bool) → (b || has_req xs req) ≡ true → (has_req xs req ≡ true → has_req (xs ++ ys) req ≡ true) → (b || has_req (xs ++ ys) req) ≡ true
    by_test true is more = refl
    by_test false is more = more is

module _ (run : Option ReqId) (loads : List ReqId) (hand : List Made) (s : Seen) (event : ℕ) (tab : IsTab run loads hand s) (req : ReqId) (other : is_this run req ≡ false) (listed : has_req loads req ≡ true) where
  held : has_req (at_hand loads hand) req ≡ true
  held = listed_on req loads (reqs_of hand) listed

  alone : IsNowhereElse run loads hand s tab req
  alone = listed_alone run loads hand s tab req listed

  -- it was accepted, so it has ended then
  over : (ending : Ending) → holds has_ended (request_in (ended s.requests req ending) req) ≡ true
  over ending = by_found (request_in s.requests req) refl
    where
      by_found : (o : Option Asked) → request_in s.requests req ≡ o → holds has_ended (request_in (ended s.requests req ending) req) ≡ true
      by_found None e =
          let some = open_held run loads hand s tab req (ap (λ (o : Option Asked). holds has_ended o) e) held in
          let due : times_due (request_in s.requests req) ≡ 0 = ap times_due e in
          let all = all_once run loads hand s tab req in
          absurd (omega (arith, some, due, all))
      by_found (Some q) e = ended_itself s.requests req q ending e

  hand_left : without_made req hand ≡ hand
  hand_left = none_without req hand (times_none req (reqs_of hand) alone.hands)

  its_end : MayEnd run loads hand s req
  its_end =
      record {
        other = other;
        carried = inr (inr (inl held));
        passed = nothing_goes hand s req (times_none req s.parked alone.parked) (times_none req (reqs_of hand) alone.hands);
      }

  stays : (t : Seen) → holds has_ended (request_in t.requests req) ≡ true → IsTab run (without_req req loads) (without_made req hand) t → IsTab run loads hand t
  stays t is now =
      tab_else run loads hand t req is (subst (λ (m : List Made). IsTab run (without_req req loads) m t) hand_left now)

  pub listed_refused_tab : (actor : Actor) (reason : Denial) → IsNoProcess actor → IsTab run loads hand (next s event actor (rows.Refused req reason))
  listed_refused_tab actor reason by =
      stays (next s event actor (rows.Refused req reason)) (over (endings.Refused reason)) (refused_tab run loads hand s event tab req its_end actor reason by)

  pub listed_dropped_tab : (actor : Actor) (cause : Cause) → IsTab run loads hand (next s event actor (rows.Dropped req cause))
  listed_dropped_tab actor cause =
      stays (next s event actor (rows.Dropped req cause)) (over (endings.Dropped cause)) (dropped_tab run loads hand s event tab req its_end actor cause)

-- so it is of a load
pub listed_load_dropped_tab : (run : Option ReqId) (loads : List ReqId) (hand : List Made) (s : Seen) (event : ℕ) (tab : IsTab run loads hand s) (req : ReqId) → is_of_load (request_in s.requests req) ≡ true → has_req loads req ≡ true → (actor : Actor) (cause : Cause) → IsTab run loads hand (next s event actor (rows.Dropped req cause))
listed_load_dropped_tab run loads hand s event tab req load listed =
    listed_dropped_tab run loads hand s event tab req (load_other run loads hand s tab req load) listed

-- ---- a request at hand, that was accepted in the event: it is taken out of the list

module _ (run : Option ReqId) (req : ReqId) (loads : List ReqId) (hand : List Made) (s : Seen) (event : ℕ) (tab : IsTab run (req ∷ loads) hand s) (other : is_this run req ≡ false) where
  first : has_req (req ∷ loads) req ≡ true
  first = rw (itself req) refl

  pub first_refused_tab : (actor : Actor) (reason : Denial) → IsNoProcess actor → IsTab run loads hand (next s event actor (rows.Refused req reason))
  first_refused_tab actor reason by =
      tab_alike run (req ∷ loads) loads hand (next s event actor (rows.Refused req reason)) (ended_first (ended s.requests req (endings.Refused reason)) req loads (over run (req ∷ loads) hand s event tab req other first (endings.Refused reason)))
      (listed_refused_tab run (req ∷ loads) hand s event tab req other first actor reason by)

  pub first_dropped_tab : (actor : Actor) (cause : Cause) → IsTab run loads hand (next s event actor (rows.Dropped req cause))
  first_dropped_tab actor cause =
      tab_alike run (req ∷ loads) loads hand (next s event actor (rows.Dropped req cause)) (ended_first (ended s.requests req (endings.Dropped cause)) req loads (over run (req ∷ loads) hand s event tab req other first (endings.Dropped cause)))
      (listed_dropped_tab run (req ∷ loads) hand s event tab req other first actor cause)

-- so it is of a load
module _ (run : Option ReqId) (req : ReqId) (loads : List ReqId) (hand : List Made) (s : Seen) (event : ℕ) (tab : IsTab run (req ∷ loads) hand s) (load : is_of_load (request_in s.requests req) ≡ true) where
  pub load_refused_tab : (actor : Actor) (reason : Denial) → IsNoProcess actor → IsTab run loads hand (next s event actor (rows.Refused req reason))
  load_refused_tab =
      first_refused_tab run req loads hand s event tab (load_other run (req ∷ loads) hand s tab req load)

  pub hand_load_dropped_tab : (actor : Actor) (cause : Cause) → IsTab run loads hand (next s event actor (rows.Dropped req cause))
  hand_load_dropped_tab =
      first_dropped_tab run req loads hand s event tab (load_other run (req ∷ loads) hand s tab req load)

-- ---- a request of which nothing is held back or at hand: whatever is at hand stays

module _ (run : Option ReqId) (loads : List ReqId) (hand : List Made) (s : Seen) (event : ℕ) (tab : IsTab run loads hand s) (req : ReqId) (other : is_this run req ≡ false) where
  module _ (carried : IsCarried loads hand s req) (is : IsUnheld run loads hand s tab req) where
    unheld_ends : MayEnd run loads hand s req
    unheld_ends = record { other = other; carried = carried; passed = unheld_end run loads hand s tab req is }

    back : (t : Seen) → IsTab run (without_req req loads) (without_made req hand) t → IsTab run loads hand t
    back t now =
        subst (λ (l : List ReqId). IsTab run l hand t) (unheld_loads run loads hand s tab req is) (subst (λ (m : List Made). IsTab run (without_req req loads) m t) (unheld_hand run loads hand s tab req is) now)

    unheld_refused : (actor : Actor) (reason : Denial) → IsNoProcess actor → IsTab run loads hand (next s event actor (rows.Refused req reason))
    unheld_refused actor reason by =
        back (next s event actor (rows.Refused req reason)) (refused_tab run loads hand s event tab req unheld_ends actor reason by)

    unheld_dropped : (actor : Actor) (cause : Cause) → IsTab run loads hand (next s event actor (rows.Dropped req cause))
    unheld_dropped actor cause =
        back (next s event actor (rows.Dropped req cause)) (dropped_tab run loads hand s event tab req unheld_ends actor cause)

  -- one in the queue
  pub queued_refused_tab : has_req s.joined req ≡ true → (actor : Actor) (reason : Denial) → IsNoProcess actor → IsTab run loads hand (next s event actor (rows.Refused req reason))
  queued_refused_tab joined =
      unheld_refused (inl joined) (joined_unheld run loads hand s tab req joined)

  pub queued_dropped_tab : has_req s.joined req ≡ true → (actor : Actor) (cause : Cause) → IsTab run loads hand (next s event actor (rows.Dropped req cause))
  queued_dropped_tab joined =
      unheld_dropped (inl joined) (joined_unheld run loads hand s tab req joined)

  -- a traversal whose turn it is, and that leads nowhere
  pub nowhere_tab : begins_in_turn s req ≡ true → (actor : Actor) (reason : Denial) → IsNoProcess actor → IsTab run loads hand (next s event actor (rows.Refused req reason))
  nowhere_tab turn = queued_refused_tab (turn_joined s req turn)

-- an ongoing load
module _ (run : Option ReqId) (loads : List ReqId) (hand : List Made) (s : Seen) (event : ℕ) (tab : IsTab run loads hand s) (req : ReqId) (q : Asked) (found : request_of s req ≡ Some q) (load : is_load q.what ≡ true) (ongoing : is_ongoing_load q ≡ true) where
  its_load : is_of_load (request_in s.requests req) ≡ true
  its_load = ap is_of_load found ∙ load

  its_other : is_this run req ≡ false
  its_other = load_other run loads hand s tab req its_load

  its_carried : IsCarried loads hand s req
  its_carried = inr (inr (inr (ap (holds is_ongoing_load) found ∙ ongoing)))

  its_way : 0 < times_on_way (request_in s.requests req)
  its_way =
      subst (λ (o : Option Asked). 0 < times_on_way o) (sym found) (let way : 0 < ways_of q = rw ongoing (omega arith) in way)

  its_unheld : IsUnheld run loads hand s tab req
  its_unheld = way_unheld run loads hand s tab req its_way

  pub ongoing_refused_tab : (actor : Actor) (reason : Denial) → IsNoProcess actor → IsTab run loads hand (next s event actor (rows.Refused req reason))
  ongoing_refused_tab = unheld_refused run loads hand s event tab req its_other its_carried its_unheld

  pub load_dropped_tab : (actor : Actor) (cause : Cause) → IsTab run loads hand (next s event actor (rows.Dropped req cause))
  load_dropped_tab = unheld_dropped run loads hand s event tab req its_other its_carried its_unheld
