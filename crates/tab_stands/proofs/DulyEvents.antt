-- As an event's own row is logged, whom requests leave was asked still.
use Rattle.seen_laws.proofs.InEvents.{uncut_log}
use Rattle.tab_ids.specs.declared.ProcId.{ProcId}
use Rattle.log_model.specs.declared.row_kind.Actor.{Actor}
use Rattle.log_model.specs.declared.outcome.Outcome.{Outcome}
use Rattle.log_model.specs.declared.outcome.Outcome.TheVariants as outcomes
use Rattle.log_model.specs.declared.job.Order.{Order}
use Rattle.log_model.specs.declared.job.Job.{Job}
use Rattle.leave_facts.proofs.Readies.{is_made}
use Rattle.std.specs.Prelude.{slice_get, option_map}
use Rattle.leave_facts.proofs.Carried.{AreLeftDuly, row_duly, FillsUnmade}
use Rattle.log_model.specs.After.{after, new_request}
use Rattle.log_model.specs.Seen.{Asked, request_in, Seen, desk_of}
use Rattle.log_model.specs.declared.request.Request.{Request}
use Rattle.log_model.specs.declared.row_kind.RowKind.TheVariants as rows
use Rattle.log_model.specs.declared.row_kind.RowKind.{RowKind}
use Rattle.seen_laws.specs.InEvent.{InEvent, log_of, row_of}
use Rattle.seen_laws.specs.Sending.{leads}
use Rattle.std.proofs.Common.{List, Option, Some, [], ap, arith, false, length, refl, subst, sym, true, ℕ, ◌++◌, ◌+◌, ◌-◌, ◌==◌, ◌∙◌, ◌∷◌, ◌≡◌}
use Rattle.std.proofs.lemmas.Bool.Decides.{nat_tests}
use Rattle.tab_doors.proofs.PassedOn.{AreNumbered}
use Rattle.tab_ids.specs.declared.DocId.{DocId}
use Rattle.tab_ids.specs.declared.ReqId.{ReqId}

-- the last of a list is found behind the others
last_there : (asked : List Asked) (q : Asked) → slice_get (asked ++ q ∷ []) (length asked) ≡ Some q
last_there [] q = refl
last_there (x ∷ asked) q = last_there asked q

-- a request that is added is found under the next number
added_there : (asked : List Asked) (q : Asked) → request_in (asked ++ q ∷ []) (record { 0 = length asked + 1 }) ≡ Some q
added_there asked q =
    let real : ((length asked + 1) == 0) ≡ false = grind (arith, nat_tests) in
    let last : ((length asked + 1) - 1) ≡ length asked = omega arith in
    rw real (rw last (last_there asked q))

-- which is its own, as requests have their numbers
number_is : (asked : List Asked) (q : Asked) → ((req : ReqId) (x : Asked) → request_in (asked ++ q ∷ []) req ≡ Some x → x.nr ≡ req) → q.nr.0 ≡ length asked + 1
number_is asked q numbered = ap (λ (r : ReqId). r.0) (numbered (record { 0 = length asked + 1 }) q (added_there asked q))

pub own_duly : (e : InEvent) → e.before ≡ [] → leads e.own ≡ true → AreNumbered (log_of e []) → AreLeftDuly e.start → AreLeftDuly (log_of e [])
own_duly e uncut own numbered duly = by_own e.own refl own
  where
    then_ : (kind : RowKind) → e.own ≡ kind → AreLeftDuly (after e.start (row_of e kind)) → AreLeftDuly (log_of e [])
    then_ kind is = subst AreLeftDuly (sym (uncut_log e uncut ∙ ap (λ (k : RowKind). after e.start (row_of e k)) is))

    next : (req : ReqId) (doc : Option DocId) (what : Request) → e.own ≡ rows.Accepted req doc what → req.0 ≡ length e.start.requests + 1
    next req doc what is =
        number_is e.start.requests (new_request req doc what) (λ r x at. numbered r x (ap (λ (x : Seen). request_in x.requests r) (uncut_log e uncut ∙ ap (λ (k : RowKind). after e.start (row_of e k)) is) ∙ at))

    by_own : (kind : RowKind) → e.own ≡ kind → leads kind ≡ true → AreLeftDuly (log_of e [])
    by_own (rows.Accepted req doc what) is led =
        then_ (rows.Accepted req doc what) is (row_duly e.start e.event e.actor duly (rows.Accepted req doc what) (next req doc what is))
    by_own (rows.Answered req stay) is led =
        then_ (rows.Answered req stay) is (row_duly e.start e.event e.actor duly (rows.Answered req stay) tt)
    by_own (rows.Evicted state) is led =
        then_ (rows.Evicted state) is (row_duly e.start e.event e.actor duly (rows.Evicted state) tt)
    by_own (rows.Delivered proc) is led =
        then_ (rows.Delivered proc) is (row_duly e.start e.event e.actor duly (rows.Delivered proc) tt)
    by_own _ is led = absurd (let never : false ≡ true = led in cc)

-- an order is finished: if a document was made, it wasn't made before
pub finished_duly : (s : Seen) (event : ℕ) (actor : Actor) → AreLeftDuly s → (proc : ProcId) (order : Order) (outcome : Outcome) → (desk_of s proc).in_hand ≡ Some order → ((slot : Option ℕ) → outcome ≡ outcomes.Populated slot → is_made s.documents order.job.doc ≡ false) → AreLeftDuly (after s (record { event = event; actor = actor; row = rows.Finished proc order.job.nr outcome }))
finished_duly s event actor duly proc order outcome hand unmade =
    row_duly s event actor duly (rows.Finished proc order.job.nr outcome)
    (subst (λ (o : Option Job). FillsUnmade s o outcome) (sym (ap (λ (o : Option Order). option_map (λ (x : Order). x.job) o) hand)) (fills outcome refl))
  where
    fills : (o : Outcome) → outcome ≡ o → FillsUnmade s (Some order.job) o
    fills (outcomes.Populated slot) is = unmade slot is
    fills outcomes.Activated is = tt
    fills outcomes.Updated is = tt
    fills outcomes.Frozen is = tt
    fills outcomes.Discarded is = tt
    fills (outcomes.Asked verdict) is = tt
    fills outcomes.Fragmented is = tt
