-- As a request begins that is in its check from then on, nothing is seen; of one that hasn't begun nothing is kept, from row to row.
use Rattle.std.proofs.Common.{◌≡◌, ℕ, zero, suc, ◌+◌, ◌-◌, Bool, true, false, cond, not, ◌==◌, List, [], ◌∷◌, ◌++◌, Option, Some, None, refl, sym, ap, ◌∙◌, subst, arith}
use Rattle.std.specs.Prelude.{slice_get, slice_set}
use Rattle.std.specs.Option.{option_map_or}
use Rattle.std.proofs.lemmas.Bool.Decides.{nat_tests}
use Rattle.tab_ids.specs.declared.ReqId.{ReqId}
use Rattle.log_model.specs.declared.job.Job.{Job}
use Rattle.log_model.specs.declared.job.Order.{Order}
use Rattle.log_model.specs.declared.job.Task.{Task}
use Rattle.log_model.specs.declared.job.Task.TheVariants as tasks
use Rattle.log_model.specs.declared.job.Why.{Why}
use Rattle.log_model.specs.declared.job.Why.TheVariants as whys
use Rattle.log_model.specs.declared.made.Report.{Report}
use Rattle.log_model.specs.declared.made.Report.TheVariants as reports
use Rattle.log_model.specs.declared.outcome.Ending.TheVariants as endings
use Rattle.log_model.specs.declared.outcome.Outcome.{Outcome}
use Rattle.log_model.specs.declared.outcome.Outcome.TheVariants as outcomes
use Rattle.log_model.specs.declared.row_kind.Actor.{Actor}
use Rattle.log_model.specs.declared.row_kind.RowKind.{RowKind}
use Rattle.log_model.specs.declared.row_kind.RowKind.TheVariants as rows
use Rattle.log_model.specs.Seen.{Asked, Document, Seen, desk_of, document_of, place_of, request_in, request_of}
use Rattle.log_model.specs.After.{after, new_request}
use Rattle.log_model.specs.AfterPlaces.{sleepers_below}
use Rattle.log_model.specs.AfterRequests.{entries_taken, is_running, on_asking, on_request, on_served, request_begun, request_served, requests_delivered, requests_finished, requests_sent, with_activated, with_moved}
use Rattle.unasked.specs.Premises.{AreFresh, Beginning, IsNumbered, beginning_of, unstarted}
use Rattle.seen_laws.specs.Unasked.{unasked, unasked_request, unbegun, without_asks}
use Rattle.unasked.proofs.Lists.{found_at, found_in, map_same, on_twice}
use Rattle.unasked.proofs.Whole.{row_of}

-- ---- a request that enters its check

-- of one that hasn't begun nothing more is left out
pub fresh_same : (q : Asked) → beginning_of q ≡ unstarted → (b c : Bool) → (let r : Asked = cond b (unbegun q) (without_asks q) in r) ≡ cond c (unbegun q) (without_asks q)
fresh_same q fresh b c = all b ∙ sym (all c)
  where
    same : without_asks q ≡ unbegun q
    same =
        λ i. record (without_asks q) {
          is_started = (fresh i).is_started;
          goal = (fresh i).goal;
          state = (fresh i).state;
          replaces = (fresh i).replaces;
          awake_then = (fresh i).awake_then;
        }

    all : (d : Bool) → (let r : Asked = cond d (unbegun q) (without_asks q) in r) ≡ unbegun q
    all true = refl
    all false = same

-- a request enters its check before it begins, and no other
pub entered_unasked : (checking entered : ReqId → Bool) (s : Seen) (req : ReqId) → AreFresh s.requests → ((q : Asked) → request_of s req ≡ Some q → q.is_started ≡ false) → ((r : ReqId) → IsNumbered s r) → ((r : ReqId) → (r.0 == req.0) ≡ false → entered r ≡ checking r) → unasked entered s ≡ unasked checking s
entered_unasked checking entered s req fresh unbegun_ numbered others =
    ap (λ (l : List Asked). record (unasked checking s) { requests = l }) (map_same (unasked_request entered) (unasked_request checking) s.requests (λ k q at. by_number k q at ((k + 1) == req.0) refl))
  where
    by_number : (k : ℕ) (q : Asked) → slice_get s.requests k ≡ Some q → (b : Bool) → ((k + 1) == req.0) ≡ b → unasked_request entered q ≡ unasked_request checking q
    by_number k q at true e =
        let nr : k + 1 ≡ req.0 = grind (arith, nat_tests, e) in
        let found : request_of s req ≡ Some q = ap (λ (n : ℕ). request_in s.requests (record { 0 = n })) (sym nr) ∙ found_in s.requests k q at in
        fresh_same q (fresh k q at (unbegun_ q found)) (entered q.nr) (checking q.nr)
    by_number k q at false e =
        let nr : q.nr ≡ record { 0 = k + 1 } = numbered (record { 0 = k + 1 }) q (found_in s.requests k q at) in
        ap (λ b. let r : Asked = cond b (unbegun q) (without_asks q) in r) (ap entered nr ∙ others (record { 0 = k + 1 }) e ∙ sym (ap checking nr))

-- ---- lists of requests

-- what is found after an item is set
pub found_set : {A : Type 0} (P : A → Type 0) (xs : List A) (k : ℕ) (x : A) → P x → ((j : ℕ) (y : A) → slice_get xs j ≡ Some y → P y) → (j : ℕ) (y : A) → slice_get (slice_set xs k x) j ≡ Some y → P y
found_set P [] k x own each j y at = absurd cc
found_set P (z ∷ xs) zero x own each zero y at = let it : x ≡ y = cc in subst P it own
found_set P (z ∷ xs) zero x own each (suc j) y at = each (suc j) y at
found_set P (z ∷ xs) (suc k) x own each zero y at = each zero y at
found_set P (z ∷ xs) (suc k) x own each (suc j) y at = found_set P xs k x own (λ i w here. each (suc i) w here) j y at

-- and behind one item more
pub found_more : {A : Type 0} (P : A → Type 0) (xs : List A) (x : A) → P x → ((j : ℕ) (y : A) → slice_get xs j ≡ Some y → P y) → (j : ℕ) (y : A) → slice_get (xs ++ x ∷ []) j ≡ Some y → P y
found_more P [] x own each zero y at = let it : x ≡ y = cc in subst P it own
found_more P [] x own each (suc j) y at = absurd cc
found_more P (z ∷ xs) x own each zero y at = each zero y at
found_more P (z ∷ xs) x own each (suc j) y at = found_more P xs x own (λ i w here. each (suc i) w here) j y at

-- nothing is kept of a request that hasn't begun
abbrev pub IsFresh : Asked → Type 0
IsFresh q = q.is_started ≡ false → beginning_of q ≡ unstarted

-- a change of one request that leaves it so
pub fresh_on : (req : ReqId) (f : Asked → Asked) (asked : List Asked) → ((q : Asked) → IsFresh q → IsFresh (f q)) → AreFresh asked → AreFresh (on_request req f asked)
fresh_on req f asked keeps fresh = by_found (request_in asked req) refl
  where
    by_found : (o : Option Asked) → request_in asked req ≡ o → AreFresh (option_map_or (λ q. slice_set asked (req.0 - 1) (f q)) o asked)
    by_found None e = fresh
    by_found (Some q) e =
        found_set IsFresh asked (req.0 - 1) (f q) (keeps q (fresh (req.0 - 1) q (found_at asked req q e))) fresh

-- a change of a request that leaves how it began
abbrev pub KeepsBeginning : (Asked → Asked) → Type 0
KeepsBeginning f = (q : Asked) → beginning_of (f q) ≡ beginning_of q

-- leaves it so
pub keeps_fresh : (f : Asked → Asked) → KeepsBeginning f → (q : Asked) → IsFresh q → IsFresh (f q)
keeps_fresh f keeps q fresh off =
    keeps q ∙ fresh (sym (ap (λ (b : Beginning). b.is_started) (keeps q)) ∙ off)

-- of the request of an order, too
pub fresh_served : (why : Why) (f : Asked → Asked) (asked : List Asked) → KeepsBeginning f → AreFresh asked → AreFresh (on_served why f asked)
fresh_served (whys.Req req) f asked keeps fresh = fresh_on req f asked (keeps_fresh f keeps) fresh
fresh_served (whys.Death death) f asked keeps fresh = fresh
fresh_served whys.Evict f asked keeps fresh = fresh
fresh_served whys.Start f asked keeps fresh = fresh

-- ---- the rows

module _ (s : Seen) (fresh : AreFresh s.requests) where
  -- what an order moves for a request
  pub served_keeps : (job : Job) (task : Task) → KeepsBeginning (request_served s job task)
  served_keeps job (tasks.Activate entry epoch length index memo address) q = by_found (document_of s job.doc)
    where
      by_found : (o : Option Document) → beginning_of (option_map_or (λ (d : Document). with_activated d.nav (with_moved (option_map_or (sleepers_below s job.doc) (place_of s d.nav) []) q)) o q) ≡ beginning_of q
      by_found None = refl
      by_found (Some d) = refl
  served_keeps job tasks.Freeze q = refl
  served_keeps job tasks.Discard q = refl
  served_keeps job (tasks.Ask slot cause) q = refl
  served_keeps job (tasks.Populate nav state address initial) q = refl
  served_keeps job (tasks.Update length index) q = refl
  served_keeps job (tasks.DoFragment req mode address) q = refl

  -- an order that is sent
  pub sent_fresh : (job : Job) (task : Task) → AreFresh (requests_sent s job task s.requests)
  sent_fresh job (tasks.DoFragment req mode address) =
      fresh_on req _ s.requests (keeps_fresh (λ q. record q { fragment = Some job.doc }) (λ q. refl)) fresh
  sent_fresh job (tasks.Populate nav state address initial) = fresh
  sent_fresh job (tasks.Update length index) = fresh
  sent_fresh job (tasks.Activate entry epoch length index memo address) =
      fresh_served job.why _ s.requests (served_keeps job (tasks.Activate entry epoch length index memo address)) fresh
  sent_fresh job tasks.Freeze = fresh_served job.why _ s.requests (served_keeps job tasks.Freeze) fresh
  sent_fresh job tasks.Discard = fresh_served job.why _ s.requests (served_keeps job tasks.Discard) fresh
  sent_fresh job (tasks.Ask slot cause) =
      fresh_served job.why _ s.requests (served_keeps job (tasks.Ask slot cause)) fresh

  -- one that is finished
  pub finished_fresh : (hand : Option Order) (outcome : Outcome) → AreFresh (requests_finished s hand outcome s.requests)
  finished_fresh None outcome = fresh
  finished_fresh (Some order) (outcomes.Asked verdict) =
      fresh_served order.job.why (on_asking order.job.nr (λ asking. record asking { verdict = Some verdict })) s.requests (λ q. refl) fresh
  finished_fresh (Some order) outcomes.Fragmented = by_task order.job.task refl
    where
      by_task : (task : Task) → order.job.task ≡ task → AreFresh (requests_finished s (Some order) outcomes.Fragmented s.requests)
      by_task (tasks.DoFragment req mode address) e =
          rw e (fresh_on req _ s.requests (keeps_fresh (λ q. record q { is_not_found = not (is_running s order.job.doc) }) (λ q. refl)) fresh)
      by_task (tasks.Populate nav state address initial) e = rw e fresh
      by_task (tasks.Activate entry epoch length index memo address) e = rw e fresh
      by_task (tasks.Update length index) e = rw e fresh
      by_task tasks.Freeze e = rw e fresh
      by_task tasks.Discard e = rw e fresh
      by_task (tasks.Ask slot cause) e = rw e fresh
  finished_fresh (Some order) (outcomes.Populated slot) = fresh
  finished_fresh (Some order) outcomes.Activated = fresh
  finished_fresh (Some order) outcomes.Updated = fresh
  finished_fresh (Some order) outcomes.Frozen = fresh
  finished_fresh (Some order) outcomes.Discarded = fresh

  -- a report that is delivered
  pub delivered_fresh : (report : Option Report) → AreFresh (requests_delivered report s.requests)
  delivered_fresh None = fresh
  delivered_fresh (Some (reports.Made made)) = fresh
  delivered_fresh (Some (reports.Died death)) = fresh
  delivered_fresh (Some (reports.Done job (outcomes.Asked verdict) made)) =
      fresh_served job.why (on_asking job.nr (λ asking. record asking { is_delivered = true })) s.requests (λ q. refl) fresh
  delivered_fresh (Some (reports.Done job (outcomes.Populated slot) made)) = fresh
  delivered_fresh (Some (reports.Done job outcomes.Activated made)) = fresh
  delivered_fresh (Some (reports.Done job outcomes.Updated made)) = fresh
  delivered_fresh (Some (reports.Done job outcomes.Frozen made)) = fresh
  delivered_fresh (Some (reports.Done job outcomes.Discarded made)) = fresh
  delivered_fresh (Some (reports.Done job outcomes.Fragmented made)) = fresh

  -- each row
  pub fresh_stays : (event : ℕ) (actor : Actor) (kind : RowKind) → AreFresh (after s (row_of event actor kind)).requests
  fresh_stays event actor (rows.Opened entry state doc proc slot address) = fresh
  fresh_stays event actor (rows.Accepted req doc what) =
      found_more IsFresh s.requests (new_request req doc what) (λ off. refl) fresh
  fresh_stays event actor (rows.Started req goal) =
      subst AreFresh (sym (on_twice (λ q. record q { is_started = true; goal = goal }) (request_begun s) req s.requests)) (fresh_on req (λ q. request_begun s (record q { is_started = true; goal = goal })) s.requests (λ q f off. absurd cc) fresh)
  fresh_stays event actor (rows.Applied req change) =
      fresh_on req _ _ (keeps_fresh (λ q. record q { took = entries_taken s.history change }) (λ q. refl)) (fresh_on req _ _ (keeps_fresh (λ q. record q { change = Some change }) (λ q. refl)) (fresh_on req _ s.requests (keeps_fresh (λ q. record q { ending = Some endings.Applied }) (λ q. refl)) fresh))
  fresh_stays event actor (rows.Refused req reason) =
      fresh_on req _ s.requests (keeps_fresh (λ q. record q { ending = Some (endings.Refused reason) }) (λ q. refl)) fresh
  fresh_stays event actor (rows.Dropped req cause) =
      fresh_on req _ s.requests (keeps_fresh (λ q. record q { ending = Some (endings.Dropped cause) }) (λ q. refl)) fresh
  fresh_stays event actor (rows.Prompted req doc) =
      fresh_on req _ s.requests (keeps_fresh (λ q. record q { prompted = Some doc }) (λ q. refl)) fresh
  fresh_stays event actor (rows.Answered req stay) =
      fresh_on req _ s.requests (keeps_fresh (λ q. record q { answered = Some stay }) (λ q. refl)) fresh
  fresh_stays event actor (rows.Sent job) = sent_fresh job job.task
  fresh_stays event actor (rows.Taken proc nr live dirty) = fresh
  fresh_stays event actor (rows.Finished proc nr outcome) = finished_fresh (desk_of s proc).in_hand outcome
  fresh_stays event actor (rows.Made proc made) =
      fresh_on made.req _ s.requests (keeps_fresh (λ q. record q { made = Some made }) (λ q. refl)) fresh
  fresh_stays event actor (rows.Delivered proc) = delivered_fresh (slice_get (desk_of s proc).reports 0)
  fresh_stays event actor (rows.Killed proc death) = fresh
  fresh_stays event actor (rows.Evicted state) = fresh
