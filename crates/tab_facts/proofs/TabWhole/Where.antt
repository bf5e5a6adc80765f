-- Where a request of a tab is: at one place at most, be it a load or not.
use Rattle.seen_facts.specs.Asked.Asking.{IsAskedPlainly}
use Rattle.seen_facts.proofs.Coord.Held.{without_same}
use Rattle.seen_facts.proofs.Entry.Ends.{IsToEnd}
use Rattle.seen_facts.proofs.Entry.Skips.{without_made}
use Rattle.tab_facts.proofs.FragmentOrders.Ends.{WaitsNot}
use Rattle.tab_facts.proofs.FrameWhole.Ending.{reqs_of, some_times}
use Rattle.tab_facts.proofs.FrameWhole.Refusing.{none_without}
use Rattle.seen_facts.specs.Hang.Members.{Has}
use Rattle.seen_facts.specs.LoadWhereabouts.Whereabouts.{times_on_way, waits_to_fragment}
use Rattle.log_model.specs.AfterRequests.{without_req}
use Rattle.log_model.specs.Equal.{has_req, holds}
use Rattle.log_model.specs.Places.{is_load, is_ongoing_load, is_under_way}
use Rattle.log_model.specs.Seen.{Asked, Seen, request_in}
use Rattle.log_model.specs.declared.made.Made.{Made}
use Rattle.seen_facts.proofs.Request.Endings.{due_small}
use Rattle.seen_facts.proofs.Request.Times.{times_append, times_none}
use Rattle.seen_facts.specs.Request.Whereabouts.{is_of_load, times, times_at, times_due, times_found}
use Rattle.seen_laws.proofs.Sums.{over}
use Rattle.std.proofs.Common.{Bool, List, None, Option, Some, [], ap, arith, false, inl, inr, refl, sym, true, ℕ, ◌&&◌, ◌+◌, ◌<◌, ◌==◌, ◌||◌, ◌∙◌, ◌∷◌, ◌≡◌, ◌⊎◌}
use Rattle.std.proofs.lemmas.Bool.{eqb-true}
use Rattle.std.specs.Prelude.{if◌then◌else◌, is_none, is_some}
use Rattle.tab_ids.specs.declared.ReqId.{ReqId}
use Rattle.tab_facts.proofs.TabWhole.OpenAmong.{due_open, ended_due, times_open}
use Rattle.tab_facts.specs.TabWhole.Tab.{IsTab, at_hand, has_ended, open_among}

-- it is in the queue, held back, at hand, or an ongoing load
abbrev pub IsCarried : List ReqId → List Made → Seen → ReqId → Type 0
IsCarried loads hand s req =
    (has_req s.joined req ≡ true) ⊎ ((has_req s.parked req ≡ true) ⊎ ((has_req (at_hand loads hand) req ≡ true) ⊎ (holds is_ongoing_load (request_in s.requests req) ≡ true)))

-- what is of none of these
pub none_at : (req : ReqId) (hand : List Made) (made : Made) → has_req (reqs_of hand) req ≡ false → Has hand made → (made.req.0 == req.0) ≡ true → ⊥
none_at req [] made none has same = has
none_at req (x ∷ hand) made none (inl is) same =
    let one : (x.req.0 == req.0) ≡ true = ap (λ (y : Made). y.req.0 == req.0) is ∙ same in
    let yes : (x.req.0 == req.0 || has_req (reqs_of hand) req) ≡ true = rw one refl in
    let never : true ≡ false = sym yes ∙ none in cc
none_at req (x ∷ hand) made none (inr has) same = none_at req hand made (rest (x.req.0 == req.0) none) has same
  where
    rest : (b : Bool) → (b || has_req (reqs_of hand) req) ≡ false → has_req (reqs_of hand) req ≡ false
    rest true e = absurd cc
    rest false e = e

-- where it isn't held back, and nothing made of it is at hand, nothing goes with it
pub nothing_goes : (hand : List Made) (s : Seen) (req : ReqId) → has_req s.parked req ≡ false → has_req (reqs_of hand) req ≡ false → IsToEnd hand s req
nothing_goes hand s req unparked none =
    record {
      held = λ r made same parked of.
          let one : r ≡ req = ap (λ (n : ℕ). let x : ReqId = record { 0 = n } in x) (eqb-true r.0 req.0 same) in
          let never : true ≡ false = sym parked ∙ ap (λ (x : ReqId). has_req s.parked x) one ∙ unparked in absurd cc;
      at_hand = λ made has same. absurd (none_at req hand made none has same);
    }

-- an ongoing load is on its way, as that alone; and who isn't on its way doesn't wait
on_way : (o : Option Asked) → holds is_ongoing_load o ≡ true → 0 < times_on_way o
on_way None e = absurd cc
on_way (Some q) e = (let one : 0 < times_on_way (Some q) = rw e (omega arith) in one)

ongoing_no_wait : (o : Option Asked) → holds is_ongoing_load o ≡ true → times_on_way o < 2 → holds waits_to_fragment o ≡ false
ongoing_no_wait None e few = refl
ongoing_no_wait (Some q) e few = by_test (is_ongoing_load q) (waits_to_fragment q) e few
  where
    by_test : (a b : Bool) → a ≡ true → (if a then 1 else 0) + (if b then 1 else 0) < 2 → b ≡ false
    by_test true true e low = absurd (omega (arith, low))
    by_test true false e low = refl
    by_test false b e low = absurd cc

no_wait : (o : Option Asked) → times_on_way o ≡ 0 → holds waits_to_fragment o ≡ false
no_wait None e = refl
no_wait (Some q) e = by_test (is_ongoing_load q) (waits_to_fragment q) e
  where
    by_test : (a b : Bool) → (if a then 1 else 0) + (if b then 1 else 0) ≡ 0 → b ≡ false
    by_test a false e = refl
    by_test true true e = absurd (omega (arith, e))
    by_test false true e = absurd (omega (arith, e))

module _ (run : Option ReqId) (loads : List ReqId) (hand : List Made) (s : Seen) (tab : IsTab run loads hand s) (req : ReqId) where
  -- what is no load isn't on its way
  no_way : is_of_load (request_in s.requests req) ≡ false → times_on_way (request_in s.requests req) ≡ 0
  no_way other = by_found (request_in s.requests req) refl other
    where
      neither : (a b : Bool) → b ≡ false → (a && b) ≡ false
      neither true b e = e
      neither false b e = refl

      by_found : (o : Option Asked) → request_in s.requests req ≡ o → is_of_load o ≡ false → times_on_way o ≡ 0
      by_found None e no_load = refl
      by_found (Some q) e no_load =
          let plain : IsAskedPlainly req q = tab.asked.each req q e in
          let begun : is_ongoing_load q ≡ false = neither (is_under_way q) (is_load q.what) no_load in
          let none : is_some q.fragment ≡ false = rw (plain.sent no_load) refl in
          let waits : waits_to_fragment q ≡ false = neither (is_none q.ending && is_none q.made) (is_some q.fragment) none in
          rw begun (rw waits refl)

  -- it is at one place while it is open, and nowhere else
  pub all_once : times_found req s.desks s.joined s.parked (at_hand (open_among s.requests loads) hand) + times_on_way (request_in s.requests req) ≡ times_due (request_in s.requests req)
  all_once = by_load (is_of_load (request_in s.requests req)) refl
    where
      by_load : (b : Bool) → is_of_load (request_in s.requests req) ≡ b → times_found req s.desks s.joined s.parked (at_hand (open_among s.requests loads) hand) + times_on_way (request_in s.requests req) ≡ times_due (request_in s.requests req)
      by_load true load = tab.trips req load
      by_load false other = (let once = tab.once req other in let none = no_way other in omega (arith, once, none))

  -- one that has ended is at none, and doesn't wait
  pub ended_nowhere : holds has_ended (request_in s.requests req) ≡ true → times_found req s.desks s.joined s.parked (at_hand (open_among s.requests loads) hand) + times_on_way (request_in s.requests req) ≡ 0
  ended_nowhere over = all_once ∙ ended_due (request_in s.requests req) over

  pub at_most_once : over (times_at req) s.desks + (times req s.joined + (times req s.parked + (times req (open_among s.requests loads) + times req (reqs_of hand)))) + times_on_way (request_in s.requests req) < 2
  at_most_once =
      let small : times_due (request_in s.requests req) < 2 = due_small (request_in s.requests req) in
      let parts : times req (at_hand (open_among s.requests loads) hand) ≡ times req (open_among s.requests loads) + times req (reqs_of hand) = times_append req (open_among s.requests loads) (reqs_of hand) in
      omega (arith, all_once, small, parts)

  -- one that is in the queue, held back, made something that is at hand, or is on its way hasn't ended
  pub found_open : 0 < times req s.joined + (times req s.parked + (times req (reqs_of hand) + times_on_way (request_in s.requests req))) → holds has_ended (request_in s.requests req) ≡ false
  found_open some =
      let parts : times req (at_hand (open_among s.requests loads) hand) ≡ times req (open_among s.requests loads) + times req (reqs_of hand) = times_append req (open_among s.requests loads) (reqs_of hand) in
      let due : 0 < times_due (request_in s.requests req) = omega (arith, all_once, some, parts) in
      due_open (request_in s.requests req) due

  -- so it isn't among the loads
  pub found_unloaded : 0 < times req s.joined + (times req s.parked + (times req (reqs_of hand) + times_on_way (request_in s.requests req))) → times req loads ≡ 0
  found_unloaded some =
      let same : times req (open_among s.requests loads) ≡ times req loads = times_open s.requests req loads (found_open some) in
      omega (arith, at_most_once, same, some)

  -- at hand, where it hasn't ended
  pub open_held : holds has_ended (request_in s.requests req) ≡ false → has_req (at_hand loads hand) req ≡ true → 0 < times req (at_hand (open_among s.requests loads) hand)
  open_held open_ held =
      let n : 0 < times req (at_hand loads hand) = some_times req (at_hand loads hand) held in
      let same : times req (open_among s.requests loads) ≡ times req loads = times_open s.requests req loads open_ in
      let all : times req (at_hand loads hand) ≡ times req loads + times req (reqs_of hand) = times_append req loads (reqs_of hand) in
      let parts : times req (at_hand (open_among s.requests loads) hand) ≡ times req (open_among s.requests loads) + times req (reqs_of hand) = times_append req (open_among s.requests loads) (reqs_of hand) in
      omega (arith, n, same, all, parts)

  -- it is at no other place than in the list of those at hand
  pub record IsNowhereElse : Type 0 where
    pub joined : times req s.joined ≡ 0
    pub parked : times req s.parked ≡ 0
    pub hands : times req (reqs_of hand) ≡ 0
    pub way : times_on_way (request_in s.requests req) ≡ 0

  -- so it is of each in that list
  pub listed_alone : has_req loads req ≡ true → IsNowhereElse
  listed_alone listed = by_end (holds has_ended (request_in s.requests req)) refl
    where
      by_end : (b : Bool) → holds has_ended (request_in s.requests req) ≡ b → IsNowhereElse
      by_end true e =
          let parts : times req (at_hand (open_among s.requests loads) hand) ≡ times req (open_among s.requests loads) + times req (reqs_of hand) = times_append req (open_among s.requests loads) (reqs_of hand) in
          let none = ended_nowhere e in
          record {
            joined = omega (arith, none);
            parked = omega (arith, none);
            hands = omega (arith, none, parts);
            way = omega (arith, none);
          }
      by_end false e =
          let some : 0 < times req loads = some_times req loads listed in
          let same : times req (open_among s.requests loads) ≡ times req loads = times_open s.requests req loads e in
          record {
            joined = omega (arith, at_most_once, same, some);
            parked = omega (arith, at_most_once, same, some);
            hands = omega (arith, at_most_once, same, some);
            way = omega (arith, at_most_once, same, some);
          }

  -- at one of these places it is at no desk
  pub carried_off : IsCarried loads hand s req → over (times_at req) s.desks ≡ 0
  carried_off (inl joined) = (let n : 0 < times req s.joined = some_times req s.joined joined in omega (arith, n, at_most_once))
  carried_off (inr (inl parked)) = (let n : 0 < times req s.parked = some_times req s.parked parked in omega (arith, n, at_most_once))
  carried_off (inr (inr (inl held))) = by_end (holds has_ended (request_in s.requests req)) refl
    where
      by_end : (b : Bool) → holds has_ended (request_in s.requests req) ≡ b → over (times_at req) s.desks ≡ 0
      by_end true e = (let none = ended_nowhere e in omega (arith, none))
      by_end false e =
          let small : times_due (request_in s.requests req) < 2 = due_small (request_in s.requests req) in
          omega (arith, open_held e held, all_once, small)
  carried_off (inr (inr (inr ongoing))) =
      let way : 0 < times_on_way (request_in s.requests req) = on_way (request_in s.requests req) ongoing in
      omega (arith, way, at_most_once)

  -- and it doesn't wait for what is made of a fragment order
  pub carried_waits_not : IsCarried loads hand s req → WaitsNot s.requests req
  carried_waits_not carried = by_place carried
    where
      by_end : has_req (at_hand loads hand) req ≡ true → (b : Bool) → holds has_ended (request_in s.requests req) ≡ b → times_on_way (request_in s.requests req) ≡ 0
      by_end held true e = (let none = ended_nowhere e in omega (arith, none))
      by_end held false e =
          let small : times_due (request_in s.requests req) < 2 = due_small (request_in s.requests req) in
          omega (arith, open_held e held, all_once, small)

      by_place : IsCarried loads hand s req → WaitsNot s.requests req
      by_place (inl joined) =
          no_wait (request_in s.requests req) (let n : 0 < times req s.joined = some_times req s.joined joined in omega (arith, n, at_most_once))
      by_place (inr (inl parked)) =
          no_wait (request_in s.requests req) (let n : 0 < times req s.parked = some_times req s.parked parked in omega (arith, n, at_most_once))
      by_place (inr (inr (inl held))) =
          no_wait (request_in s.requests req) (by_end held (holds has_ended (request_in s.requests req)) refl)
      by_place (inr (inr (inr ongoing))) =
          ongoing_no_wait (request_in s.requests req) ongoing (let few : times_on_way (request_in s.requests req) < 2 = omega (arith, at_most_once) in few)

  -- it isn't held back, and nothing made of it is at hand
  pub record IsUnheld : Type 0 where
    pub parked : has_req s.parked req ≡ false
    pub loads_ : has_req loads req ≡ false
    pub hands : has_req (reqs_of hand) req ≡ false

  -- so it is of one in the queue, or on its way
  pub joined_unheld : has_req s.joined req ≡ true → IsUnheld
  joined_unheld joined =
      let n : 0 < times req s.joined = some_times req s.joined joined in
      record {
        parked = times_none req s.parked (omega (arith, n, at_most_once));
        loads_ = times_none req loads (found_unloaded (omega (arith, n)));
        hands = times_none req (reqs_of hand) (omega (arith, n, at_most_once));
      }

  pub way_unheld : 0 < times_on_way (request_in s.requests req) → IsUnheld
  way_unheld way =
      record {
        parked = times_none req s.parked (omega (arith, way, at_most_once));
        loads_ = times_none req loads (found_unloaded (omega (arith, way)));
        hands = times_none req (reqs_of hand) (omega (arith, way, at_most_once));
      }

  -- nothing goes with it then, and what is at hand stays
  pub unheld_end : IsUnheld → IsToEnd hand s req
  unheld_end is = nothing_goes hand s req is.parked is.hands

  pub unheld_loads : IsUnheld → without_req req loads ≡ loads
  unheld_loads is = without_same loads req is.loads_

  pub unheld_hand : IsUnheld → without_made req hand ≡ hand
  unheld_hand is = none_without req hand is.hands
