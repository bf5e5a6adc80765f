-- A fragment order is sent for a load that is open, is in hand only while its load waits, and is finished with what its document makes of it; and what is made of pokes.
use Rattle.std.proofs.Common.{◌≡◌, ℕ, ◌+◌, ◌≤◌, ◌<◌, Bool, true, false, ◌&&◌, ◌==◌, List, Option, Some, None, refl, sym, ap, ◌∙◌, arith}
use Rattle.std.specs.Prelude.{is_none, is_some, option_map}
use Rattle.tab_ids.specs.declared.DocId.{DocId}
use Rattle.tab_ids.specs.declared.JobId.{JobId}
use Rattle.tab_ids.specs.declared.ProcId.{ProcId}
use Rattle.tab_ids.specs.declared.ReqId.{ReqId}
use Rattle.log_model.specs.declared.job.Job.{Job}
use Rattle.log_model.specs.declared.job.Order.{Order}
use Rattle.log_model.specs.declared.job.Task.TheVariants as tasks
use Rattle.log_model.specs.declared.made.Made.{Made}
use Rattle.log_model.specs.declared.outcome.Outcome.{Outcome}
use Rattle.log_model.specs.declared.request.Mode.{Mode}
use Rattle.log_model.specs.declared.row_kind.Actor.{Actor}
use Rattle.log_model.specs.declared.row_kind.RowKind.TheVariants as rows
use Rattle.log_model.specs.Places.{is_load}
use Rattle.log_model.specs.Seen.{Seen, Asked, desk_in, desk_of, request_in, request_of}
use Rattle.log_model.specs.After.{desk_finished, desks_made, follows_finished, on_desk}
use Rattle.log_model.specs.AfterRequests.{on_request}
use Rattle.seen_laws.proofs.Sums.{over, over_on}
use Rattle.seen_facts.proofs.Coord.Held.{on_else}
use Rattle.seen_facts.proofs.Coord.OneDocument.{mailed}
use Rattle.seen_facts.proofs.Coord.Unread.{next}
use Rattle.seen_facts.specs.Request.Whereabouts.{is_of_load}
use Rattle.seen_facts.proofs.Request.LookUps.{on_itself}
use Rattle.seen_facts.proofs.Request.Placings.{one_if}
use Rattle.seen_facts.specs.LoadWhereabouts.Whereabouts.{waits_to_fragment}
use Rattle.seen_facts.proofs.LoadWhereabouts.Begun.{sent_requests}
use Rattle.seen_facts.proofs.LoadWhereabouts.Counts.{count, one_other, one_itself}
use Rattle.seen_facts.proofs.LoadWhereabouts.Trips.{finished_trips}
use Rattle.tab_facts.specs.FragmentOrders.Waiting.{fragment_by, fragments_in, fragments_at, fragments_due, FragmentsAreOnce, AreFragments}
use Rattle.tab_facts.proofs.FragmentOrders.Counts.{SameOrders, mailed_orders, finished_orders, made_orders, desk_same, desk_within}
use Rattle.tab_facts.proofs.FragmentOrders.Fates.{Fate, fate, fate_in, trip_fates, made_rests, IsRight, right_so, right_none, but_one}
use Rattle.tab_facts.proofs.FragmentOrders.Ends.{other_waits_not}

-- ---- a fragment order is sent

-- for a load that is open, and for which none was sent
pub sent_fragments : (s : Seen) (event : ℕ) (actor : Actor) (job : Job) (req : ReqId) (mode : Mode) (address : List ℕ) (q : Asked) → job.task ≡ tasks.DoFragment req mode address → request_of s req ≡ Some q → is_load q.what ≡ true → q.ending ≡ None → q.fragment ≡ None → AreFragments s → AreFragments (next s event actor (rows.Sent job))
sent_fragments s event actor job req mode address q task found load unended none are =
    but_one s then_ req (record {
      others = λ r apart. ap (λ (l : List Asked). fate_in l r) asked_then ∙ ap (λ (o : Option Asked). option_map fate o) (on_else s.requests req ordered r apart);
      elsewhere = λ r apart. (let more = one_more_order r in omega (arith, more, one_other req r apart));
      one = right_so then_ req (fate (ordered q)) (record {
        read = ap (λ (l : List Asked). fate_in l req) asked_then ∙ ap (λ (o : Option Asked). option_map fate o) (on_itself s.requests req ordered ∙ ap (λ (o : Option Asked). option_map ordered o) found);
        once = (let more = one_more_order req in omega (arith, more, one_itself req, was, due));
        unsent = λ load_ never. absurd cc;
        loads = λ waits. load;
      });
    }) are
  where
    then_ : Seen
    then_ = next s event actor (rows.Sent job)

    ordered : Asked → Asked
    ordered x = record x { fragment = Some job.doc }

    asked_then : then_.requests ≡ on_request req ordered s.requests
    asked_then = sent_requests s event actor job req mode address task

    unmade : q.made ≡ None
    unmade = are.unsent req q found load none

    was : over (fragments_at req) s.desks ≡ 0
    was = are.once req ∙ ap fragments_due found ∙ rw (unended, unmade, none) refl

    due : count ((is_none q.ending && is_none q.made) && true) ≡ 1
    due = rw (unended, unmade) refl

    one_more_order : (r : ReqId) → over (fragments_at r) then_.desks ≡ over (fragments_at r) s.desks + one_if req r
    one_more_order r =
        let by : fragment_by r job.task ≡ one_if req r = ap (fragment_by r) task in
        let more : over (fragments_at r) (on_desk job.proc (mailed job) s.desks) + fragments_at r (desk_in s.desks job.proc) ≡ over (fragments_at r) s.desks + fragments_at r (mailed job (desk_in s.desks job.proc)) = over_on (fragments_at r) (mailed job) s.desks job.proc refl in
        omega (arith, by, more, mailed_orders r job (desk_in s.desks job.proc))

-- ---- a fragment order is of a load that waits

pub record IsWaiting (s : Seen) (req : ReqId) : Type 0 where
  pub q : Asked
  pub found : request_of s req ≡ Some q
  pub waits : waits_to_fragment q ≡ true

-- wherever it is
pub order_waits : (s : Seen) → FragmentsAreOnce s → (req : ReqId) (proc : ProcId) → 0 < fragments_at req (desk_of s proc) → IsWaiting s req
order_waits s once req proc there = by_found (request_in s.requests req) refl
  where
    some : 0 < over (fragments_at req) s.desks
    some =
        let within : fragments_at req (desk_in s.desks proc) ≤ over (fragments_at req) s.desks = desk_within (fragments_at req) s.desks proc refl in
        omega (arith, there, within)

    by_waits : (q : Asked) (b : Bool) → request_in s.requests req ≡ Some q → waits_to_fragment q ≡ b → IsWaiting s req
    by_waits q true e waits = record { q = q; found = e; waits = waits }
    by_waits q false e waits =
        let due : over (fragments_at req) s.desks ≡ 0 = once req ∙ ap fragments_due e ∙ ap count waits in
        let never : ⊥ = omega (arith, some, due) in absurd never

    by_found : (o : Option Asked) → request_in s.requests req ≡ o → IsWaiting s req
    by_found None e =
        let due : over (fragments_at req) s.desks ≡ 0 = once req ∙ ap fragments_due e in
        let never : ⊥ = omega (arith, some, due) in absurd never
    by_found (Some q) e = by_waits q (waits_to_fragment q) e refl

-- in hand
pub in_hand_waits : (s : Seen) → FragmentsAreOnce s → (proc : ProcId) (order : Order) (req : ReqId) (mode : Mode) (address : List ℕ) → (desk_of s proc).in_hand ≡ Some order → order.job.task ≡ tasks.DoFragment req mode address → IsWaiting s req
in_hand_waits s once proc order req mode address in_hand task = order_waits s once req proc some
  where
    some : 0 < fragments_at req (desk_of s proc)
    some =
        let by : fragment_by req order.job.task ≡ one_if req req = ap (fragment_by req) task in
        let there : fragments_at req (desk_of s proc) ≡ fragment_by req order.job.task + fragments_in req (desk_of s proc).mail = rw in_hand refl in
        omega (arith, by, there, one_itself req)

-- and it is a load
pub waiting_load : (s : Seen) → AreFragments s → (req : ReqId) (is : IsWaiting s req) → is_load is.q.what ≡ true
waiting_load s are req is = are.loads req is.q is.found is.waits

-- ---- something is made of a poke, which is no load

pub made_other_fragments : (s : Seen) (event : ℕ) (actor : Actor) (proc : ProcId) (made : Made) → is_of_load (request_in s.requests made.req) ≡ false → AreFragments s → AreFragments (next s event actor (rows.Made proc made))
made_other_fragments s event actor proc made other are =
    but_one s t made.req (record {
      others = λ r apart. ap (λ (o : Option Asked). option_map fate o) (on_else s.requests made.req make_it r apart);
      elsewhere = λ r apart. orders r;
      one = by_found (request_in s.requests made.req) refl;
    }) are
  where
    t : Seen
    t = next s event actor (rows.Made proc made)

    make_it : Asked → Asked
    make_it q = record q { made = Some made }

    joins : Bool
    joins = follows_finished s (record { event = event; actor = actor; row = rows.Made proc made })

    orders : SameOrders s t
    orders r =
        desk_same r (desks_made joins made) s.desks proc (made_orders r joins made (desk_of s proc))

    none_left : over (fragments_at made.req) t.desks ≡ 0
    none_left =
        orders made.req ∙ are.once made.req ∙ ap count (other_waits_not s are made.req other)

    by_found : (o : Option Asked) → request_in s.requests made.req ≡ o → IsRight t made.req
    by_found None e =
        right_none t made.req (ap (λ (o : Option Asked). option_map fate o) (on_itself s.requests made.req make_it ∙ ap (λ (o : Option Asked). option_map make_it o) e)) none_left
    by_found (Some q) e =
        right_so t made.req (fate (make_it q)) (record {
          read = ap (λ (o : Option Asked). option_map fate o) (on_itself s.requests made.req make_it ∙ ap (λ (o : Option Asked). option_map make_it o) e);
          once = none_left ∙ sym (ap count (made_rests (is_none q.ending) (is_some q.fragment)));
          unsent = λ load none. (let never : false ≡ true = sym other ∙ ap is_of_load e ∙ load in absurd cc);
          loads = λ waits. (let never : false ≡ true = sym (made_rests (is_none q.ending) (is_some q.fragment)) ∙ waits in absurd cc);
        })

-- ---- a fragment order is finished, and its document makes something of it

module _ (s : Seen) (event : ℕ) (actor : Actor) (proc : ProcId) (job : JobId) (outcome : Outcome) (order : Order) (req : ReqId) (mode : Mode) (address : List ℕ) (in_hand : (desk_of s proc).in_hand ≡ Some order) (task : order.job.task ≡ tasks.DoFragment req mode address) (are : AreFragments s) where
  abbrev pub finished : Seen
  finished = next s event actor (rows.Finished proc job outcome)

  is : IsWaiting s req
  is = in_hand_waits s are.once proc order req mode address in_hand task

  load : is_load is.q.what ≡ true
  load = waiting_load s are req is

  reads : (r : ReqId) → fate_in finished.requests r ≡ fate_in s.requests r
  reads =
      trip_fates s.requests finished.requests (finished_trips s (desk_of s proc).in_hand outcome s.requests)

  one_less : (r : ReqId) → over (fragments_at r) finished.desks + one_if req r ≡ over (fragments_at r) s.desks
  one_less r =
      let by : fragment_by r order.job.task ≡ one_if req r = ap (fragment_by r) task in
      let less : over (fragments_at r) (on_desk proc (desk_finished outcome) s.desks) + fragments_at r (desk_in s.desks proc) ≡ over (fragments_at r) s.desks + fragments_at r (desk_finished outcome (desk_in s.desks proc)) = over_on (fragments_at r) (desk_finished outcome) s.desks proc refl in
      omega (arith, by, less, finished_orders r outcome (desk_in s.desks proc) order in_hand)

  -- both rows
  module _ (by : Actor) (made : Made) (of : made.req ≡ req) where
    abbrev pub answered : Seen
    answered = next (next s event actor (rows.Finished proc job outcome)) event by (rows.Made proc made)

    abbrev make_it : Asked → Asked
    make_it q = record q { made = Some made }

    abbrev made_fate : Fate → Fate
    made_fate x = record x { made = Some made }

    abbrev joins : Bool
    joins = follows_finished finished (record { event = event; actor = by; row = rows.Made proc made })

    orders : SameOrders finished answered
    orders r =
        desk_same r (desks_made joins made) finished.desks proc (made_orders r joins made (desk_of finished proc))

    others : (r : ReqId) → (r.0 == made.req.0) ≡ false → fate_in answered.requests r ≡ fate_in s.requests r
    others r apart =
        ap (λ (o : Option Asked). option_map fate o) (on_else finished.requests made.req make_it r apart) ∙ reads r

    read : fate_in answered.requests made.req ≡ Some (made_fate (fate is.q))
    read =
        ap (λ (o : Option Asked). option_map fate o) (on_itself finished.requests made.req make_it)
        ∙ by_found (request_in finished.requests made.req)
        ∙ ap (λ (o : Option Fate). option_map made_fate o) (reads made.req ∙ ap (fate_in s.requests) of ∙ ap (λ (o : Option Asked). option_map fate o) is.found)
      where
        by_found : (o : Option Asked) → option_map fate (option_map make_it o) ≡ option_map made_fate (option_map fate o)
        by_found None = refl
        by_found (Some q) = refl

    -- a document was sent for it
    was_sent : is.q.fragment ≡ None → ⊥
    was_sent none = by_tests (is_none is.q.ending && is_none is.q.made) (ap (λ (b : Option DocId). let x : Bool = (is_none is.q.ending && is_none is.q.made) && is_some b in x) (sym none) ∙ is.waits)
      where
        by_tests : (b : Bool) → (b && false) ≡ true → ⊥
        by_tests true never = cc
        by_tests false never = cc

    none_left : over (fragments_at made.req) answered.desks ≡ 0
    none_left =
        let was : over (fragments_at req) s.desks ≡ 1 = are.once req ∙ ap fragments_due is.found ∙ ap count is.waits in
        let left : over (fragments_at req) answered.desks ≡ 0 = omega (arith, was, one_less req, orders req, one_itself req) in
        ap (λ (r : ReqId). over (fragments_at r) answered.desks) of ∙ left

    pub finished_made_fragments : AreFragments answered
    finished_made_fragments =
        but_one s answered made.req (record {
          others = others;
          elsewhere = λ r apart. (let apart_ : (r.0 == req.0) ≡ false = ap (λ (x : ReqId). r.0 == x.0) (sym of) ∙ apart in omega (arith, one_less r, orders r, one_other req r apart_));
          one = right_so answered made.req (made_fate (fate is.q)) (record {
            read = read;
            once = none_left ∙ sym (ap count (made_rests (is_none is.q.ending) (is_some is.q.fragment)));
            unsent = λ load_ none. absurd (was_sent none);
            loads = λ waits. load;
          });
        }) are
