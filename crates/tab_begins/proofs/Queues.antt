-- The queue over the turns of its steps: the first one is off, and the others wait on.
use Rattle.tab_facts.specs.TabWhole.Tab.{open_among}
use Rattle.tab_facts.specs.Calm.Calm.{HasUsable}
use Rattle.seen_facts.proofs.Coord.Held.{without_same}
use Rattle.tab_facts.specs.Frame.Lasting.{Wish, wish}
use Rattle.seen_facts.specs.Hang.Members.{Has}
use Rattle.seen_facts.specs.Load.Loading.{Look, is_ongoing, look, look_of}
use Rattle.log_model.proofs.Refl.{nat_eq_refl}
use Rattle.log_model.specs.ActsAtOnce.{has_document, is_ready_load}
use Rattle.log_model.specs.AfterRequests.{without_req}
use Rattle.log_model.specs.Equal.{holds}
use Rattle.log_model.specs.Once.{delta_of, loads}
use Rattle.log_model.specs.Orders.{is_usable}
use Rattle.log_model.specs.Once.{step_at_delta}
use Rattle.log_model.specs.Places.{is_ongoing_load, is_traversal}
use Rattle.log_model.specs.declared.made.Made.{Made}
use Rattle.log_model.specs.declared.request.Request.{Request}
use Rattle.log_model.specs.declared.row_kind.RowKind.{RowKind}
use Rattle.log_model.specs.Seen.{Asked, Document, Seen, request_in, request_of}
use Rattle.move_queue.specs.declared.queue_step.QueueStep.{QueueStep}
use Rattle.move_queue.specs.declared.queue_step.QueueStep.TheVariants.{Ready, Reload, Traverse}
use Rattle.seen_facts.proofs.Request.Endings.{due_small}
use Rattle.seen_facts.proofs.Request.Readers.{SameReads, reads_then}
use Rattle.seen_facts.proofs.Request.Times.{itself, times_none}
use Rattle.seen_facts.specs.Request.Whereabouts.{is_of_load, times, times_at, times_due}
use Rattle.seen_laws.proofs.Sums.{over}
use Rattle.seen_laws.specs.InEvent.{InEvent, now_of}
use Rattle.std.proofs.Common.{List, None, Option, Some, [], ap, arith, filter, inl, inr, refl, subst, sym, true, ℕ, ℤ, ◌+◌, ◌==◌, ◌∙◌, ◌∷◌, ◌≡◌}
use Rattle.std.proofs.lemmas.Bool.{and_parts}
use Rattle.std.specs.List.{list_any}
use Rattle.std.specs.Prelude.{option_and_then, option_map, slice_get}
use Rattle.tab_begins.specs.Queueing.{AreStepsOf, AwaitTurns, HasQueue, HaveJoined, IsAheadOf, IsReadyLoadOf, LeavesQueue, delta_in, is_traverse}
use Rattle.tab_ids.specs.declared.NavId.{NavId}
use Rattle.tab_ids.specs.declared.ReqId.{ReqId}
use Rattle.tab_ids.specs.declared.StateId.{StateId}
use Rattle.tab_begins.specs.Taking.{KeepsQueue}
use Rattle.tab_doors.specs.declared.tables.Tables.{Tables}
use Rattle.tab_one_pass.specs.Passing.{LeavesPass}
use Rattle.tab_applies.proofs.PassedOn.{IsWaitingFirst, first_waits}
use Rattle.tab_applies.specs.PassedOn.{HasGone, IsFirst, WentTo, joined_then}
use Rattle.tab_one_pass.proofs.PassedOn.{no_load}
use Rattle.tab_one_pass.specs.PassedOn.{IsTab, at_hand}

-- ---- traversals

-- requests that ask as they did have the same deltas
pub deltas_same : (s t : Seen) → SameReads wish s.requests t.requests → (req : ReqId) → delta_in t.requests req ≡ delta_in s.requests req
deltas_same s t same req =
    sym (read (request_in t.requests req)) ∙ ap (λ (o : Option Wish). option_and_then (λ (w : Wish). delta_of w.what) o) (same req) ∙ read (request_in s.requests req)
  where
    read : (o : Option Asked) → option_and_then (λ (w : Wish). delta_of w.what) (option_map wish o) ≡ option_and_then (λ (q : Asked). delta_of q.what) o
    read None = refl
    read (Some q) = refl

-- so have those that ask what they asked
whats_deltas : (s t : Seen) → SameReads (λ (q : Asked). q.what) s.requests t.requests → (req : ReqId) → delta_in t.requests req ≡ delta_in s.requests req
whats_deltas s t same req =
    sym (read (request_in t.requests req)) ∙ ap (λ (o : Option Request). option_and_then delta_of o) (same req) ∙ read (request_in s.requests req)
  where
    read : (o : Option Asked) → option_and_then delta_of (option_map (λ (q : Asked). q.what) o) ≡ option_and_then (λ (q : Asked). delta_of q.what) o
    read None = refl
    read (Some q) = refl

pub steps_on : (old new : List Asked) (joined : List ReqId) (steps : List QueueStep) → ((req : ReqId) → delta_in new req ≡ delta_in old req) → AreStepsOf old joined steps → AreStepsOf new joined steps
steps_on old new [] [] same are = tt
steps_on old new [] (step ∷ steps) same are = absurd are
steps_on old new (req ∷ joined) [] same are = absurd are
steps_on old new (req ∷ joined) (Traverse nr delta ∷ steps) same are =
    ((are.0.0, same req ∙ are.0.1), steps_on old new joined steps same are.1)
steps_on old new (req ∷ joined) (Reload nr nav ∷ steps) same are = absurd are.0
steps_on old new (req ∷ joined) (Ready nr nav ∷ steps) same are = absurd are.0

-- the first step is of the first that joined, which the others wait behind
pub ahead : (s : Seen) (req : ReqId) (delta : ℤ) (steps : List QueueStep) → AreStepsOf s.requests s.joined (Traverse req delta ∷ steps) → IsFirst s req delta × IsAheadOf s req steps
ahead s req delta steps are = by_joined s.joined refl are
  where
    by_joined : (joined : List ReqId) → s.joined ≡ joined → AreStepsOf s.requests joined (Traverse req delta ∷ steps) → IsFirst s req delta × IsAheadOf s req steps
    by_joined [] e never = absurd never
    by_joined (r ∷ rest) e its =
        let same : s.joined ≡ req ∷ rest = e ∙ ap (λ (x : ReqId). x ∷ rest) (sym its.0.0) in (
          record {
            first = ap (λ (l : List ReqId). slice_get l 0) same;
            asks = subst (λ (x : ReqId). delta_in s.requests x ≡ Some delta) (sym its.0.0) its.0.1;
          },
          record { rest = rest; joined = same; steps_ = its.1 },
        )

-- ---- ready loads

-- where documents are as they were, each that is usable was so
usable_same : (s n : Seen) → n.documents ≡ s.documents → (state : StateId) → HasUsable n state → HasUsable s state
usable_same s n documents state some =
    ap (λ (docs : List Document). list_any (λ (d : Document). is_usable d state) docs) (sym documents) ∙ some

-- a load that is ready then was so, where each document that is usable and each ongoing load was so
module _ (s n : Seen) (usable : (state : StateId) → HasUsable n state → HasUsable s state) (were : (req : ReqId) (l : Look) → look_of n req ≡ Some l → is_ongoing l ≡ true → look_of s req ≡ Some l) where
  was_ready : (req : ReqId) (q : Asked) (nav : NavId) → request_of n req ≡ Some q → is_ready_load n q ≡ true → loads nav q.what ≡ true → IsReadyLoadOf s req nav
  was_ready req q nav at ready its = by_old (request_of s req) refl
    where
      both : (is_ongoing_load q ≡ true) × (has_document n q ≡ true)
      both = and_parts (is_ongoing_load q) (has_document n q) ready

      before : look_of s req ≡ Some (look q)
      before = were req (look q) (ap (option_map look) at) both.0

      there_before : (o : Option StateId) → holds (λ (state : StateId). list_any (λ (d : Document). is_usable d state) n.documents) o ≡ true → holds (λ (state : StateId). list_any (λ (d : Document). is_usable d state) s.documents) o ≡ true
      there_before None never = never
      there_before (Some state) some = usable state some

      by_old : (o : Option Asked) → request_of s req ≡ o → IsReadyLoadOf s req nav
      by_old None none = let never : None ≡ Some (look q) = sym (ap (option_map look) none) ∙ before in absurd cc
      by_old (Some old) there =
          let two : Some (look old) ≡ Some (look q) = sym (ap (option_map look) there) ∙ before in
          let one : look old ≡ look q = cc in
          record {
            q = old;
            at = there;
            ready = rw (ap is_ongoing one ∙ both.0) (ap (λ (l : Look). holds (λ (state : StateId). list_any (λ (d : Document). is_usable d state) s.documents) l.state) one ∙ there_before q.state both.1);
            its = ap (λ (l : Look). loads nav l.what) one ∙ its;
          }

  -- what leaves the queue
  pub queue_leaves : n.joined ≡ s.joined → SameReads (λ (q : Asked). q.what) s.requests n.requests → LeavesQueue s n
  queue_leaves joined whats = record { joined = joined; whats = whats; ready = λ req nav it. was_ready req it.q nav it.at it.ready it.its }

  pub await_on : (waiting : List QueueStep) → AwaitTurns s waiting → AwaitTurns n waiting
  await_on waiting await req q nav at ready its =
      let was : IsReadyLoadOf s req nav = was_ready req q nav at ready its in await req was.q nav was.at was.ready was.its

-- a traversal's step is off
pub await_traversed : (s : Seen) (nr : ReqId) (delta : ℤ) (rest : List QueueStep) → AwaitTurns s (Traverse nr delta ∷ rest) → AwaitTurns s rest
await_traversed s nr delta rest await req q nav at ready its = by_place (await req q nav at ready its)
  where
    by_place : Has (Traverse nr delta ∷ rest) (Ready req nav) → Has rest (Ready req nav)
    by_place (inl same) = absurd (let never : Traverse nr delta ≡ Ready req nav = same in cc)
    by_place (inr later) = later

-- a load's step is off, where that isn't ready
pub await_passed : (s : Seen) (nr : ReqId) (of : NavId) (rest : List QueueStep) → ((q : Asked) → request_of s nr ≡ Some q → is_ready_load s q ≡ true → loads of q.what ≡ true → ⊥) → AwaitTurns s (Ready nr of ∷ rest) → AwaitTurns s rest
await_passed s nr of rest unready await req q nav at ready its = by_place (await req q nav at ready its)
  where
    by_place : Has (Ready nr of ∷ rest) (Ready req nav) → Has rest (Ready req nav)
    by_place (inr later) = later
    by_place (inl same) =
        let reqs : nr ≡ req = cc in
        let navs : of ≡ nav = cc in
        absurd (unready q (ap (λ (r : ReqId). request_of s r) reqs ∙ at) ready (ap (λ (m : NavId). loads m q.what) navs ∙ its))

-- ---- the queue

-- who is off the queue was there once
module _ (run : Option ReqId) (at : List ReqId) (hand : List Made) (s : Seen) (tab : IsTab run at hand s) where
  pub rest_left : (req : ReqId) (rest : List ReqId) (q : Asked) → request_of s req ≡ Some q → is_traversal q.what ≡ true → s.joined ≡ req ∷ rest → without_req req s.joined ≡ rest
  rest_left req rest q found goes joined =
      ap (λ (l : List ReqId). without_req req l) joined
      ∙ (let same : (req.0 == req.0) ≡ true = nat_eq_refl req.0 in rw same (without_same rest req (times_none req rest none)))
    where
      once : over (times_at req) s.desks + (times req s.joined + (times req s.parked + times req (at_hand (open_among s.requests at) hand))) ≡ times_due (request_in s.requests req)
      once = tab.once req (ap is_of_load found ∙ no_load q.what goes)

      in_front : times req s.joined ≡ 1 + times req rest
      in_front = ap (λ (l : List ReqId). times req l) joined ∙ (rw (itself req) refl)

      none : times req rest ≡ 0
      none = (let small = due_small (request_in s.requests req) in omega (arith, once, in_front, small))

-- the traversal that joined first had its turn: it runs, or is off
module _ (e : InEvent) (out more : List RowKind) (t u : Tables) (req : ReqId) (delta : ℤ) (gone : HasGone e out more t u req delta) (at : List ReqId) (hand : List Made) (tab : IsTab None at hand (now_of e out)) (idle : t.running ≡ None) (were : (r : ReqId) (l : Look) → look_of (now_of e more) r ≡ Some l → is_ongoing l ≡ true → look_of (now_of e out) r ≡ Some l) where
  abbrev s : Seen
  s = now_of e out

  abbrev n : Seen
  n = now_of e more

  deltas : (r : ReqId) → delta_in n.requests r ≡ delta_in s.requests r
  deltas = deltas_same s n gone.alone.wishes

  pub queue_traversed : (rest : List QueueStep) → HasQueue s None (Traverse req delta ∷ rest) → HasQueue n u.running rest
  queue_traversed rest queue =
      record {
        traversals = by_step (step_at_delta s delta) gone.went gone.joined;
        ready = await_on s n (usable_same s n gone.alone.documents) were rest (await_traversed s req delta rest queue.ready);
        steps = λ step has. queue.steps step (inr has);
      }
    where
      front : IsFirst s req delta × IsAheadOf s req (filter is_traverse rest)
      front = ahead s req delta (filter is_traverse rest) queue.traversals

      its : IsWaitingFirst s req delta
      its = first_waits None at hand s tab req delta front.0

      behind : AreStepsOf n.requests front.1.rest (filter is_traverse rest)
      behind = steps_on s.requests n.requests front.1.rest (filter is_traverse rest) deltas front.1.steps_

      by_step : (o : Option ℕ) → WentTo out more t u req o → n.joined ≡ joined_then s.joined req o → HaveJoined n u.running (filter is_traverse rest)
      by_step None went joined =
          subst (λ (r : Option ReqId). HaveJoined n r (filter is_traverse rest)) (sym (ap (λ (x : Tables). x.running) went.1 ∙ idle))
          (subst (λ (l : List ReqId). AreStepsOf n.requests l (filter is_traverse rest)) (sym (joined ∙ rest_left None at hand s tab req front.1.rest its.q its.at its.goes front.1.joined)) behind)
      by_step (Some step) went joined =
          subst (λ (r : Option ReqId). HaveJoined n r (filter is_traverse rest)) (sym (ap (λ (x : Tables). x.running) went.1))
          (record { rest = front.1.rest; joined = joined ∙ front.1.joined; steps_ = behind })

-- a load's step is off
pub queue_passed : (s n : Seen) (kept : KeepsQueue s n) (nr : ReqId) (of : NavId) (rest : List QueueStep) → ((q : Asked) → request_of n nr ≡ Some q → is_ready_load n q ≡ true → loads of q.what ≡ true → ⊥) → HasQueue s None (Ready nr of ∷ rest) → HasQueue n None rest
queue_passed s n kept nr of rest unready queue =
    record {
      traversals = subst (λ (l : List ReqId). AreStepsOf n.requests l (filter is_traverse rest)) (sym kept.joined) (steps_on s.requests n.requests s.joined (filter is_traverse rest) (deltas_same s n kept.wishes) queue.traversals);
      ready = await_passed n nr of rest unready (await_on s n (usable_same s n kept.documents) kept.loads (Ready nr of ∷ rest) queue.ready);
      steps = λ step has. queue.steps step (inr has);
    }

-- ---- what leaves the queue

joined_on : (s n : Seen) → LeavesQueue s n → (run : Option ReqId) (steps : List QueueStep) → HaveJoined s run steps → HaveJoined n run steps
joined_on s n left None steps have =
    subst (λ (l : List ReqId). AreStepsOf n.requests l steps) (sym left.joined) (steps_on s.requests n.requests s.joined steps (whats_deltas s n left.whats) have)
joined_on s n left (Some req) steps have =
    record { rest = have.rest; joined = left.joined ∙ have.joined; steps_ = steps_on s.requests n.requests have.rest steps (whats_deltas s n left.whats) have.steps_ }

-- all that waited waits on
pub queue_over : (s n : Seen) → LeavesQueue s n → (run : Option ReqId) (waiting : List QueueStep) → HasQueue s run waiting → HasQueue n run waiting
queue_over s n left run waiting queue =
    record {
      traversals = joined_on s n left run (filter is_traverse waiting) queue.traversals;
      ready = λ req q nav at ready its. (let was = left.ready req nav (record { q = q; at = at; ready = ready; its = its }) in queue.ready req was.q nav was.at was.ready was.its);
      steps = queue.steps;
    }

-- nothing leaves it, and one after the other does
pub leaves_same : (s : Seen) → LeavesQueue s s
leaves_same s = record { joined = refl; whats = λ req. refl; ready = λ req nav its. its }

pub leaves_then : (s t u : Seen) → LeavesQueue s t → LeavesQueue t u → LeavesQueue s u
leaves_then s t u first then_ =
    record {
      joined = then_.joined ∙ first.joined;
      whats = reads_then (λ (q : Asked). q.what) s.requests t.requests u.requests first.whats then_.whats;
      ready = λ req nav its. first.ready req nav (then_.ready req nav its);
    }

-- a pass leaves it
pub queue_left : (s n : Seen) → LeavesPass s n → LeavesQueue s n
queue_left s n left = queue_leaves s n left.ready left.loads left.joined left.whats
