-- Where each load is, as a request is accepted or begins, or a fragment order is sent for a load: what was at hand is on its way.
use Rattle.std.proofs.Common.{◌≡◌, ℕ, ◌+◌, ◌<◌, Bool, true, false, ◌&&◌, ◌==◌, List, [], ◌∷◌, ◌++◌, length, Option, Some, None, refl, sym, ap, ◌∙◌, subst, arith}
use Rattle.std.specs.Prelude.{is_none, option_map}
use Rattle.std.proofs.lemmas.Bool.Decides.{nat_tests}
use Rattle.tab_ids.specs.declared.DocId.{DocId}
use Rattle.tab_ids.specs.declared.NavId.{NavId}
use Rattle.tab_ids.specs.declared.ReqId.{ReqId}
use Rattle.tab_ids.specs.declared.Step.{Step}
use Rattle.log_model.specs.declared.job.Job.{Job}
use Rattle.log_model.specs.declared.job.Task.{Task}
use Rattle.log_model.specs.declared.job.Task.TheVariants as tasks
use Rattle.log_model.specs.declared.outcome.Ending.{Ending}
use Rattle.log_model.specs.declared.request.Mode.{Mode}
use Rattle.log_model.specs.declared.request.Poke.{Poke}
use Rattle.log_model.specs.declared.request.Request.{Request}
use Rattle.log_model.specs.declared.request.Request.TheVariants as requests
use Rattle.log_model.specs.declared.row_kind.Actor.{Actor}
use Rattle.log_model.specs.declared.row_kind.RowKind.TheVariants as rows
use Rattle.log_model.specs.Seen.{Seen, Document, Asked, document_of, desk_in, request_in, request_of}
use Rattle.log_model.specs.Places.{is_load}
use Rattle.log_model.specs.After.{desks_accepted, new_request}
use Rattle.log_model.specs.AfterRequests.{on_request, request_begun, requests_sent, joined_accepted}
use Rattle.seen_laws.proofs.Sums.{over}
use Rattle.seen_facts.proofs.Coord.Held.{on_else}
use Rattle.seen_facts.proofs.Coord.Unread.{next}
use Rattle.seen_facts.specs.Request.Whereabouts.{times, poked, times_at, times_found, times_due, is_of_load, AreOnce}
use Rattle.seen_facts.proofs.Request.LookUps.{on_itself, one_more, none_before, others_before}
use Rattle.seen_facts.proofs.Request.Placings.{one_if}
use Rattle.seen_facts.proofs.Request.Times.{desk_same, times_append}
use Rattle.seen_facts.specs.LoadWhereabouts.Whereabouts.{waits_to_fragment, ways_of, times_on_way, times_of_load, AreLoadsOnce}
use Rattle.seen_facts.proofs.LoadWhereabouts.Counts.{count, few, but_one, one_other, one_itself}

-- ---- a request is accepted

module _ (s : Seen) (hand : List ReqId) (event : ℕ) (actor : Actor) (req : ReqId) (nr : req.0 ≡ length s.requests + 1) (each : AreLoadsOnce s hand) where
  others_there : (doc : Option DocId) (what : Request) (r : ReqId) → (r.0 == req.0) ≡ false → request_in (s.requests ++ new_request req doc what ∷ []) r ≡ request_in s.requests r
  others_there doc what r apart =
      others_before s.requests (new_request req doc what) req nr r (let other : (req.0 == r.0) ≡ false = grind (arith, nat_tests, apart) in other)

  -- a load: it is at hand, and was nowhere
  pub accepted_load : (nav : NavId) (mode : Mode) (address : List ℕ) → AreOnce s hand → AreLoadsOnce (next s event actor (rows.Accepted req None (requests.Load nav mode address))) (req ∷ hand)
  accepted_load nav mode address others =
      but_one s (next s event actor (rows.Accepted req None (requests.Load nav mode address))) hand (req ∷ hand) req (record {
        others = λ r apart. others_there None (requests.Load nav mode address) r apart;
        elsewhere = λ r apart. (let none : one_if req r ≡ 0 = one_other req r apart in omega (arith, none));
        one = λ load. once;
      }) each
    where
      q : Asked
      q = new_request req None (requests.Load nav mode address)

      was : request_in s.requests req ≡ None
      was = none_before s.requests q req nr

      here : request_in (s.requests ++ q ∷ []) req ≡ Some q
      here = one_more s.requests q req nr

      once : times_of_load req (s.requests ++ q ∷ []) s.desks s.joined s.parked (req ∷ hand) ≡ times_due (request_in (s.requests ++ q ∷ []) req)
      once =
          let nowhere : times_found req s.desks s.joined s.parked hand ≡ 0 = others req (rw was refl) ∙ rw was refl in
          let way : times_on_way (request_in (s.requests ++ q ∷ []) req) ≡ 0 = rw here refl in
          let due : times_due (request_in (s.requests ++ q ∷ []) req) ≡ 1 = rw here refl in
          let one : one_if req req ≡ 1 = one_itself req in
          omega (arith, nowhere, way, due, one)

  -- another request, wherever it goes
  pub accepted_other : (doc : Option DocId) (what : Request) → is_load what ≡ false → AreLoadsOnce (next s event actor (rows.Accepted req doc what)) hand
  accepted_other doc what other =
      but_one s (next s event actor (rows.Accepted req doc what)) hand hand req (record {
        others = λ r apart. others_there doc what r apart;
        elsewhere = λ r apart. (let joined : times r (joined_accepted s.joined req what) ≡ times r s.joined = by_queue r apart what in omega (arith, joined, by_desk r apart doc what));
        one = λ load. (let no_ : false ≡ true = sym other ∙ sym (ap is_of_load (one_more s.requests (new_request req doc what) req nr)) ∙ load in absurd cc);
      }) each
    where
      by_queue : (r : ReqId) → (r.0 == req.0) ≡ false → (w : Request) → times r (joined_accepted s.joined req w) ≡ times r s.joined
      by_queue r apart (requests.Go delta) =
          let one : times r (s.joined ++ req ∷ []) ≡ times r s.joined + (one_if req r + 0) = times_append r s.joined (req ∷ []) in
          omega (arith, one, one_other req r apart)
      by_queue r apart (requests.Reload nav) =
          let one : times r (s.joined ++ req ∷ []) ≡ times r s.joined + (one_if req r + 0) = times_append r s.joined (req ∷ []) in
          omega (arith, one, one_other req r apart)
      by_queue r apart (requests.Load nav mode address) = refl
      by_queue r apart (requests.Poke nav action) = refl

      more : (r : ReqId) (poke : Poke) (pokes : List Poke) → times r (poked (pokes ++ poke ∷ [])) ≡ times r (poked pokes) + one_if poke.req r
      more r poke [] = omega arith
      more r poke (p ∷ pokes) = omega (arith, more r poke pokes)

      by_desk : (r : ReqId) → (r.0 == req.0) ≡ false → (o : Option DocId) (w : Request) → over (times_at r) (desks_accepted s req o w) ≡ over (times_at r) s.desks
      by_desk r apart None w = refl
      by_desk r apart (Some at) (requests.Go delta) = refl
      by_desk r apart (Some at) (requests.Reload nav) = refl
      by_desk r apart (Some at) (requests.Load nav mode address) = refl
      by_desk r apart (Some at) (requests.Poke nav action) = by_found (document_of s at) refl
        where
          poke : Poke
          poke = record { req = req; doc = at; action = action }

          by_found : (o : Option Document) → document_of s at ≡ o → over (times_at r) (desks_accepted s req (Some at) (requests.Poke nav action)) ≡ over (times_at r) s.desks
          by_found None e = rw e refl
          by_found (Some d) e =
              rw e (desk_same r (λ desk. record desk { input = desk.input ++ poke ∷ [] }) s.desks d.proc (omega (arith, more r poke (desk_in s.desks d.proc).input, one_other req r apart)))

-- ---- what is at hand is open, and not on its way

open_due : (ending : Option Ending) → count (is_none ending) ≡ 1 → is_none ending ≡ true
open_due None one = refl
open_due (Some e) one = cc

pub record IsAtHand (q : Asked) : Type 0 where
  pub unended : is_none q.ending ≡ true
  pub still : ways_of q ≡ 0

pub at_hand : (s : Seen) (hand : List ReqId) (req : ReqId) (q : Asked) → request_of s req ≡ Some q → is_load q.what ≡ true → AreLoadsOnce s (req ∷ hand) → IsAtHand q × (times_found req s.desks s.joined s.parked hand ≡ 0)
at_hand s hand req q found load each = by_due (count (is_none q.ending)) refl (few (is_none q.ending))
  where
    one : one_if req req ≡ 1
    one = one_itself req

    once : times_found req s.desks s.joined s.parked (req ∷ hand) + ways_of q ≡ count (is_none q.ending)
    once =
        subst (λ (o : Option Asked). times_found req s.desks s.joined s.parked (req ∷ hand) + times_on_way o ≡ times_due o) found
        (each req (ap is_of_load found ∙ load))

    by_due : (n : ℕ) → count (is_none q.ending) ≡ n → n < 2 → IsAtHand q × (times_found req s.desks s.joined s.parked hand ≡ 0)
    by_due n due small = (
      record { unended = open_due q.ending (omega (arith, once, one, due, small)); still = omega (arith, once, one, due, small) },
      omega (arith, once, one, due, small),
    )

-- ---- a request begins

module _ (s : Seen) (event : ℕ) (actor : Actor) (req : ReqId) (goal : Option Step) where
  abbrev begin : Asked → Asked
  begin q = record q { is_started = true; goal = goal }

  abbrev started : Seen
  started = next s event actor (rows.Started req goal)

  others_started : (r : ReqId) → (r.0 == req.0) ≡ false → request_in started.requests r ≡ request_in s.requests r
  others_started r apart =
      on_else (on_request req begin s.requests) req (request_begun s) r apart ∙ on_else s.requests req begin r apart

  now_started : (q : Asked) → request_of s req ≡ Some q → request_in started.requests req ≡ Some (request_begun s (begin q))
  now_started q found =
      on_itself (on_request req begin s.requests) req (request_begun s)
      ∙ ap (λ (o : Option Asked). option_map (request_begun s) o) (on_itself s.requests req begin ∙ ap (λ (o : Option Asked). option_map begin o) found)

  -- a load that is at hand: it is on its way
  pub started_load : (hand : List ReqId) (q : Asked) → request_of s req ≡ Some q → is_load q.what ≡ true → AreLoadsOnce s (req ∷ hand) → AreLoadsOnce started hand
  started_load hand q found load each =
      but_one s started (req ∷ hand) hand req (record {
        others = others_started;
        elsewhere = λ r apart. (let none : one_if req r ≡ 0 = one_other req r apart in omega (arith, none));
        one = λ load_. once;
      }) each
    where
      was : IsAtHand q × (times_found req s.desks s.joined s.parked hand ≡ 0)
      was = at_hand s hand req q found load each

      -- it doesn't wait for a fragment order
      waits_not : (a b : Bool) → count a + count b ≡ 0 → count b ≡ 0
      waits_not a b none = omega (arith, none)

      way : ways_of (request_begun s (begin q)) ≡ 1
      way =
          let ongoing : count (is_none q.ending && is_load q.what) ≡ 1 = rw (was.0.unended, load) refl in
          let none : count (waits_to_fragment q) ≡ 0 = waits_not _ (waits_to_fragment q) was.0.still in
          omega (arith, ongoing, none)

      once : times_of_load req started.requests s.desks s.joined s.parked hand ≡ times_due (request_in started.requests req)
      once =
          let ways : times_on_way (request_in started.requests req) ≡ 1 = ap times_on_way (now_started q found) ∙ way in
          let due : times_due (request_in started.requests req) ≡ 1 = ap times_due (now_started q found) ∙ rw was.0.unended refl in
          omega (arith, was.1, ways, due)

  -- a traversal, or a reload
  pub started_other : (hand : List ReqId) → is_of_load (request_in s.requests req) ≡ false → AreLoadsOnce s hand → AreLoadsOnce started hand
  started_other hand other each =
      but_one s started hand hand req (record {
        others = others_started;
        elsewhere = λ r apart. refl;
        one = λ load. (let no_ : false ≡ true = sym other ∙ sym (by_found (request_in s.requests req) refl) ∙ load in absurd cc);
      }) each
    where
      by_found : (o : Option Asked) → request_in s.requests req ≡ o → is_of_load (request_in started.requests req) ≡ is_of_load (request_in s.requests req)
      by_found None e =
          ap is_of_load (on_itself (on_request req begin s.requests) req (request_begun s) ∙ ap (λ (o : Option Asked). option_map (request_begun s) o) (on_itself s.requests req begin ∙ ap (λ (o : Option Asked). option_map begin o) e)) ∙ sym (ap is_of_load e)
      by_found (Some q) e = ap is_of_load (now_started q e) ∙ sym (ap is_of_load e)

-- ---- a fragment order is sent for a load

module _ (s : Seen) (event : ℕ) (actor : Actor) (job : Job) (req : ReqId) (mode : Mode) (address : List ℕ) (task : job.task ≡ tasks.DoFragment req mode address) where
  abbrev ordered : Asked → Asked
  ordered q = record q { fragment = Some job.doc }

  abbrev sent : Seen
  sent = next s event actor (rows.Sent job)

  pub sent_requests : sent.requests ≡ on_request req ordered s.requests
  sent_requests = ap (λ (k : Task). requests_sent s job k s.requests) task

  same_desks : (r : ReqId) → over (times_at r) sent.desks ≡ over (times_at r) s.desks
  same_desks r = desk_same r (λ desk. record desk { mail = desk.mail ++ job ∷ [] }) s.desks job.proc refl

  -- one that is at hand, and of which nothing was made: it waits for its document
  pub sent_fragment : (hand : List ReqId) (q : Asked) → request_of s req ≡ Some q → is_load q.what ≡ true → q.made ≡ None → AreLoadsOnce s (req ∷ hand) → AreLoadsOnce sent hand
  sent_fragment hand q found load unmade each =
      but_one s sent (req ∷ hand) hand req (record {
        others = λ r apart. ap (λ (l : List Asked). request_in l r) sent_requests ∙ on_else s.requests req ordered r apart;
        elsewhere = λ r apart. (let none : one_if req r ≡ 0 = one_other req r apart in omega (arith, none, same_desks r));
        one = λ load_. once;
      }) each
    where
      was : IsAtHand q × (times_found req s.desks s.joined s.parked hand ≡ 0)
      was = at_hand s hand req q found load each

      now : request_in sent.requests req ≡ Some (ordered q)
      now =
          ap (λ (l : List Asked). request_in l req) sent_requests ∙ on_itself s.requests req ordered ∙ ap (λ (o : Option Asked). option_map ordered o) found

      begun_not : (a b : Bool) → count a + count b ≡ 0 → count a ≡ 0
      begun_not a b none = omega (arith, none)

      way : ways_of (ordered q) ≡ 1
      way =
          let waits : count (waits_to_fragment (ordered q)) ≡ 1 = rw (was.0.unended, unmade) refl in
          let none : count ((q.is_started && is_none q.ending) && is_load q.what) ≡ 0 = begun_not _ (waits_to_fragment q) was.0.still in
          omega (arith, waits, none)

      once : times_of_load req sent.requests sent.desks s.joined s.parked hand ≡ times_due (request_in sent.requests req)
      once =
          let ways : times_on_way (request_in sent.requests req) ≡ 1 = ap times_on_way now ∙ way in
          let due : times_due (request_in sent.requests req) ≡ 1 = ap times_due now ∙ rw was.0.unended refl in
          omega (arith, was.1, ways, due, same_desks req)
