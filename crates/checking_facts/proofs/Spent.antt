-- How many document states were numbered: over each row at most one more, and that for one more request that has spent one.
use Rattle.checking_facts.proofs.Counts.{on_more, on_up, one_up}
use Rattle.checking_facts.specs.States.{AddsUnspent, AreSpent, BringsOff, IsUnspent, LeavesStates, has_spent}
use Rattle.log_model.specs.After.{after, ended, is_load_request, new_request, requests_after}
use Rattle.log_model.specs.AfterRequests.{entries_taken, is_running, on_asking, on_request, on_served, request_begun, request_served, requests_delivered, requests_finished, requests_sent, requests_told, with_activated, with_moved}
use Rattle.log_model.specs.AfterPlaces.{sleepers_below}
use Rattle.log_model.specs.Equal.{holds}
use Rattle.log_model.specs.Places.{is_load}
use Rattle.log_model.specs.Seen.{Asked, Asking, Document, Seen, desk_of, document_of, place_of, request_of}
use Rattle.log_model.specs.declared.change.Change.{Change}
use Rattle.log_model.specs.declared.change.Change.TheVariants as changes
use Rattle.log_model.specs.declared.job.Job.{Job}
use Rattle.log_model.specs.declared.job.Order.{Order}
use Rattle.log_model.specs.declared.job.Task.{Task}
use Rattle.log_model.specs.declared.job.Task.TheVariants as tasks
use Rattle.log_model.specs.declared.job.Why.{Why}
use Rattle.log_model.specs.declared.job.Why.TheVariants as whys
use Rattle.log_model.specs.declared.made.Report.{Report}
use Rattle.log_model.specs.declared.made.Report.TheVariants as reports
use Rattle.log_model.specs.declared.outcome.Ending.{Ending}
use Rattle.log_model.specs.declared.outcome.Ending.TheVariants as endings
use Rattle.log_model.specs.declared.outcome.Outcome.{Outcome}
use Rattle.log_model.specs.declared.outcome.Outcome.TheVariants as outcomes
use Rattle.log_model.specs.declared.row_kind.LogRow.{LogRow}
use Rattle.log_model.specs.declared.row_kind.RowKind.{RowKind}
use Rattle.log_model.specs.declared.row_kind.RowKind.TheVariants as rows
use Rattle.std.proofs.Common.{Bool, List, None, Option, Some, [], ap, arith, cond, false, length, refl, subst, sym, true, ℕ, ◌&&◌, ◌||◌, ◌+◌, ◌≡◌, ◌≤◌}
use Rattle.std.specs.Option.{option_map_or}
use Rattle.std.specs.Prelude.{filter, is_some, not, slice_get}
use Rattle.tab_ids.specs.declared.ReqId.{ReqId}
use Rattle.tab_ids.specs.declared.Step.{Step}

abbrev spent_in : List Asked → ℕ
spent_in asked = length (filter has_spent asked)

or_true : (b : Bool) → (b || true) ≡ true
or_true true = refl
or_true false = refl

and_false : (b : Bool) → (b && false) ≡ false
and_false true = refl
and_false false = refl

-- a request that hasn't begun and has no outcome has spent none
pub not_spent : (q : Asked) → q.ending ≡ None → q.is_started ≡ false → has_spent q ≡ false
not_spent q open_ unstarted = rw (open_, unstarted) (and_false (is_load q.what))

pub unspent_at : (s : Seen) (req : ReqId) (q : Asked) → request_of s req ≡ Some q → q.ending ≡ None → q.is_started ≡ false → IsUnspent s req
unspent_at s req q at open_ unstarted = record { q = q; at = at; unspent = not_spent q open_ unstarted }

-- ---- orders and answers

served_up : (why : Why) (f : Asked → Asked) (asked : List Asked) → ((q : Asked) → has_spent q ≡ true → has_spent (f q) ≡ true) → spent_in asked ≤ spent_in (on_served why f asked)
served_up (whys.Req req) f asked up = on_up has_spent asked req f up
served_up (whys.Death death) f asked up = omega arith
served_up whys.Evict f asked up = omega arith
served_up whys.Start f asked up = omega arith

sent_up : (s : Seen) (job : Job) (task : Task) (asked : List Asked) → spent_in asked ≤ spent_in (requests_sent s job task asked)
sent_up s job (tasks.DoFragment req mode address) asked = on_up has_spent asked req (λ q. record q { fragment = Some job.doc }) (λ q is. is)
sent_up s job (tasks.Populate nav state address initial) asked = omega arith
sent_up s job (tasks.Update length index) asked = omega arith
sent_up s job (tasks.Activate entry epoch length index memo address) asked =
    served_up job.why (request_served s job (tasks.Activate entry epoch length index memo address)) asked (λ q is. by_document q (document_of s job.doc) is)
  where
    by_document : (q : Asked) (o : Option Document) → has_spent q ≡ true → has_spent (option_map_or (λ (d : Document). with_activated d.nav (with_moved (option_map_or (sleepers_below s job.doc) (place_of s d.nav) []) q)) o q) ≡ true
    by_document q None is = is
    by_document q (Some d) is = is
sent_up s job tasks.Freeze asked = served_up job.why (request_served s job tasks.Freeze) asked (λ q is. is)
sent_up s job tasks.Discard asked = served_up job.why (request_served s job tasks.Discard) asked (λ q is. is)
sent_up s job (tasks.Ask slot cause) asked = served_up job.why (request_served s job (tasks.Ask slot cause)) asked (λ q is. is)

finished_up : (s : Seen) (hand : Option Order) (outcome : Outcome) (asked : List Asked) → spent_in asked ≤ spent_in (requests_finished s hand outcome asked)
finished_up s None outcome asked = omega arith
finished_up s (Some order) (outcomes.Asked verdict) asked =
    served_up order.job.why (on_asking order.job.nr (λ (asking : Asking). record asking { verdict = Some verdict })) asked (λ q is. is)
finished_up s (Some order) outcomes.Fragmented asked = by_task order.job.task refl
  where
    by_task : (task : Task) → order.job.task ≡ task → spent_in asked ≤ spent_in (requests_finished s (Some order) outcomes.Fragmented asked)
    by_task (tasks.DoFragment req mode address) is =
        rw is (on_up has_spent asked req (λ q. record q { is_not_found = not (is_running s order.job.doc) }) (λ q spent. spent))
    by_task (tasks.Populate nav state address initial) is = rw is (omega arith)
    by_task (tasks.Activate entry epoch length index memo address) is = rw is (omega arith)
    by_task (tasks.Update length index) is = rw is (omega arith)
    by_task tasks.Freeze is = rw is (omega arith)
    by_task tasks.Discard is = rw is (omega arith)
    by_task (tasks.Ask slot cause) is = rw is (omega arith)
finished_up s (Some order) (outcomes.Populated slot) asked = omega arith
finished_up s (Some order) outcomes.Activated asked = omega arith
finished_up s (Some order) outcomes.Updated asked = omega arith
finished_up s (Some order) outcomes.Frozen asked = omega arith
finished_up s (Some order) outcomes.Discarded asked = omega arith

delivered_up : (report : Option Report) (asked : List Asked) → spent_in asked ≤ spent_in (requests_delivered report asked)
delivered_up None asked = omega arith
delivered_up (Some (reports.Made made)) asked = omega arith
delivered_up (Some (reports.Died death)) asked = omega arith
delivered_up (Some (reports.Done job outcome made)) asked = by_outcome outcome
  where
    by_outcome : (o : Outcome) → spent_in asked ≤ spent_in (requests_delivered (Some (reports.Done job o made)) asked)
    by_outcome (outcomes.Asked verdict) =
        served_up job.why (on_asking job.nr (λ (asking : Asking). record asking { is_delivered = true })) asked (λ q is. is)
    by_outcome (outcomes.Populated slot) = omega arith
    by_outcome outcomes.Activated = omega arith
    by_outcome outcomes.Updated = omega arith
    by_outcome outcomes.Frozen = omega arith
    by_outcome outcomes.Discarded = omega arith
    by_outcome outcomes.Fragmented = omega arith

-- ---- ends, and what begins

ended_up : (asked : List Asked) (req : ReqId) (ending : Ending) → spent_in asked ≤ spent_in (ended asked req ending)
ended_up asked req ending = on_up has_spent asked req (λ (q : Asked). record q { ending = Some ending }) (λ q is. refl)

module _ (s : Seen) (req : ReqId) where
  abbrev over : List Asked
  over = ended s.requests req endings.Applied

  abbrev applied_in : Change → List Asked
  applied_in change = on_request req (λ q. record q { took = entries_taken s.history change }) (on_request req (λ q. record q { change = Some change }) over)

  behind_up : (change : Change) → spent_in over ≤ spent_in (applied_in change)
  behind_up change =
      let one : spent_in over ≤ spent_in (on_request req (λ q. record q { change = Some change }) over) = on_up has_spent over req (λ (q : Asked). record q { change = Some change }) (λ q is. is) in
      let two : spent_in (on_request req (λ q. record q { change = Some change }) over) ≤ spent_in (applied_in change) = on_up has_spent (on_request req (λ q. record q { change = Some change }) over) req (λ (q : Asked). record q { took = entries_taken s.history change }) (λ q is. is) in
      omega (arith, one, two)

  applied_up : (change : Change) → spent_in s.requests ≤ spent_in (applied_in change)
  applied_up change =
      let one : spent_in s.requests ≤ spent_in over = ended_up s.requests req endings.Applied in
      let two : spent_in over ≤ spent_in (applied_in change) = behind_up change in
      omega (arith, one, two)

  applied_more : (change : Change) → IsUnspent s req → spent_in s.requests + 1 ≤ spent_in (applied_in change)
  applied_more change is =
      let one : spent_in over ≡ spent_in s.requests + 1 = on_more has_spent s.requests req (λ (q : Asked). record q { ending = Some endings.Applied }) is.q is.at is.unspent refl in
      let two : spent_in over ≤ spent_in (applied_in change) = behind_up change in
      omega (arith, one, two)

  module _ (goal : Option Step) where
    abbrev begin : Asked → Asked
    begin q = record q { is_started = true; goal = goal }

    abbrev begun_in : List Asked
    begun_in = on_request req (request_begun s) (on_request req begin s.requests)

    last_up : spent_in (on_request req begin s.requests) ≤ spent_in begun_in
    last_up = on_up has_spent (on_request req begin s.requests) req (request_begun s) (λ q is. is)

    begun_up : spent_in s.requests ≤ spent_in begun_in
    begun_up =
        let one : spent_in s.requests ≤ spent_in (on_request req begin s.requests) = on_up has_spent s.requests req begin (λ q is. still (is_some q.ending) (is_load q.what) q.is_started is) in
        let two : spent_in (on_request req begin s.requests) ≤ spent_in begun_in = last_up in
        omega (arith, one, two)
      where
        still : (a b c : Bool) → (a || (b && c)) ≡ true → (a || (b && true)) ≡ true
        still true b c is = refl
        still false true c is = refl
        still false false c is = is

    begun_more : (is : IsUnspent s req) → is_load is.q.what ≡ true → spent_in s.requests + 1 ≤ spent_in begun_in
    begun_more is loads =
        let one : spent_in (on_request req begin s.requests) ≡ spent_in s.requests + 1 = on_more has_spent s.requests req begin is.q is.at is.unspent (rw loads (or_true (is_some is.q.ending))) in
        let two : spent_in (on_request req begin s.requests) ≤ spent_in begun_in = last_up in
        omega (arith, one, two)

    begun_spent : IsUnspent s req → AreSpent s → (let n : ℕ = cond (is_load_request s req) (s.states + 1) s.states in n) ≤ 1 + spent_in begun_in
    begun_spent is few =
        subst (λ (b : Bool). (let n : ℕ = cond b (s.states + 1) s.states in n) ≤ 1 + spent_in begun_in) (sym (ap (λ (o : Option Asked). holds (λ (q : Asked). is_load q.what) o) is.at)) (by_load (is_load is.q.what) refl)
      where
        by_load : (b : Bool) → is_load is.q.what ≡ b → (let n : ℕ = cond b (s.states + 1) s.states in n) ≤ 1 + spent_in begun_in
        by_load true loads =
            (let low : s.states ≤ 1 + spent_in s.requests = few in let more : spent_in s.requests + 1 ≤ spent_in begun_in = begun_more is loads in omega (arith, low, more))
        by_load false loads =
            (let low : s.states ≤ 1 + spent_in s.requests = few in let up : spent_in s.requests ≤ spent_in begun_in = begun_up in omega (arith, low, up))

-- ---- each row

module _ (checking : ReqId → Bool) (s : Seen) (row : LogRow) where
  abbrev asked_then : RowKind → List Asked
  asked_then kind = requests_told s kind (requests_after s.requests kind)

  applied_spent : (req : ReqId) (change : Change) → BringsOff checking s change × AddsUnspent s req change → AreSpent s → AreSpent (after s (record { event = row.event; actor = row.actor; row = rows.Applied req change }))
  applied_spent req (changes.AddFrame owner nav entry state) off few =
      (let low : s.states ≤ 1 + spent_in s.requests = few in let more : spent_in s.requests + 1 ≤ spent_in (applied_in s req (changes.AddFrame owner nav entry state)) = applied_more s req (changes.AddFrame owner nav entry state) off.1 in omega (arith, low, more))
  applied_spent req (changes.Push nav entry state address memo) off few =
      (let low : s.states ≤ 1 + spent_in s.requests = few in let up : spent_in s.requests ≤ spent_in (applied_in s req (changes.Push nav entry state address memo)) = applied_up s req (changes.Push nav entry state address memo) in omega (arith, low, up))
  applied_spent req (changes.Replace nav over entry state address memo) off few =
      (let low : s.states ≤ 1 + spent_in s.requests = few in let up : spent_in s.requests ≤ spent_in (applied_in s req (changes.Replace nav over entry state address memo)) = applied_up s req (changes.Replace nav over entry state address memo) in omega (arith, low, up))
  applied_spent req (changes.RemoveFrame nav) off few =
      (let low : s.states ≤ 1 + spent_in s.requests = few in let up : spent_in s.requests ≤ spent_in (applied_in s req (changes.RemoveFrame nav)) = applied_up s req (changes.RemoveFrame nav) in omega (arith, low, up))
  applied_spent req (changes.Traverse goal) off few =
      (let low : s.states ≤ 1 + spent_in s.requests = few in let up : spent_in s.requests ≤ spent_in (applied_in s req (changes.Traverse goal)) = applied_up s req (changes.Traverse goal) in omega (arith, low, up))
  applied_spent req (changes.Reload nav) off few =
      (let low : s.states ≤ 1 + spent_in s.requests = few in let up : spent_in s.requests ≤ spent_in (applied_in s req (changes.Reload nav)) = applied_up s req (changes.Reload nav) in omega (arith, low, up))
  applied_spent req changes.Edit off few =
      (let low : s.states ≤ 1 + spent_in s.requests = few in let up : spent_in s.requests ≤ spent_in (applied_in s req changes.Edit) = applied_up s req changes.Edit in omega (arith, low, up))

  pub row_spent : LeavesStates checking s row.row → AreSpent s → AreSpent (after s row)
  row_spent leaves few = by_kind row.row refl leaves
    where
      same : (kind : RowKind) → row.row ≡ kind → AreSpent (after s (record { event = row.event; actor = row.actor; row = kind })) → AreSpent (after s row)
      same kind is has = subst (λ (k : RowKind). AreSpent (after s (record { event = row.event; actor = row.actor; row = k }))) (sym is) has

      up : (kind : RowKind) → spent_in s.requests ≤ spent_in (asked_then kind) → s.states ≤ 1 + spent_in (asked_then kind)
      up kind more = (let low : s.states ≤ 1 + spent_in s.requests = few in omega (arith, low, more))

      by_kind : (kind : RowKind) → row.row ≡ kind → LeavesStates checking s kind → AreSpent (after s row)
      by_kind (rows.Opened entry state doc proc slot address) is never = absurd never
      by_kind (rows.Started req goal) is off = same (rows.Started req goal) is (begun_spent s req goal off.1 few)
      by_kind (rows.Applied req change) is off = same (rows.Applied req change) is (applied_spent req change off few)
      by_kind (rows.Accepted req doc what) is off = same (rows.Accepted req doc what) is (up (rows.Accepted req doc what) (one_up has_spent s.requests (new_request req doc what)))
      by_kind (rows.Refused req reason) is off = same (rows.Refused req reason) is (up (rows.Refused req reason) (ended_up s.requests req (endings.Refused reason)))
      by_kind (rows.Dropped req cause) is off = same (rows.Dropped req cause) is (up (rows.Dropped req cause) (ended_up s.requests req (endings.Dropped cause)))
      by_kind (rows.Prompted req doc) is off = same (rows.Prompted req doc) is (up (rows.Prompted req doc) (on_up has_spent s.requests req (λ q. record q { prompted = Some doc }) (λ q spent. spent)))
      by_kind (rows.Answered req stay) is off = same (rows.Answered req stay) is (up (rows.Answered req stay) (on_up has_spent s.requests req (λ q. record q { answered = Some stay }) (λ q spent. spent)))
      by_kind (rows.Sent job) is off = same (rows.Sent job) is (up (rows.Sent job) (sent_up s job job.task s.requests))
      by_kind (rows.Taken proc job live dirty) is off = same (rows.Taken proc job live dirty) is few
      by_kind (rows.Finished proc job outcome) is off = same (rows.Finished proc job outcome) is (up (rows.Finished proc job outcome) (finished_up s (desk_of s proc).in_hand outcome s.requests))
      by_kind (rows.Made proc made) is off = same (rows.Made proc made) is (up (rows.Made proc made) (on_up has_spent s.requests made.req (λ q. record q { made = Some made }) (λ q spent. spent)))
      by_kind (rows.Delivered proc) is off = same (rows.Delivered proc) is (up (rows.Delivered proc) (delivered_up (slice_get (desk_of s proc).reports 0) s.requests))
      by_kind (rows.Killed proc death) is off = same (rows.Killed proc death) is few
      by_kind (rows.Evicted state) is off = same (rows.Evicted state) is few

-- who has spent none may add a frame
pub adds_unspent : (s : Seen) (req : ReqId) → IsUnspent s req → (change : Change) → AddsUnspent s req change
adds_unspent s req is (changes.AddFrame owner nav entry state) = is
adds_unspent s req is (changes.Push nav entry state address memo) = tt
adds_unspent s req is (changes.Replace nav over entry state address memo) = tt
adds_unspent s req is (changes.RemoveFrame nav) = tt
adds_unspent s req is (changes.Traverse goal) = tt
adds_unspent s req is (changes.Reload nav) = tt
adds_unspent s req is changes.Edit = tt
