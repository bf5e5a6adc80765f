-- A request that hasn't begun asked nobody, from row to row.
use Rattle.std.proofs.Common.{◌≡◌, ◌+◌, true, false, not, List, [], ◌∷◌, length, slice_get, Option, Some, None, refl, sym, ap, ◌∙◌, subst}
use Rattle.tab_ids.specs.declared.JobId.{JobId}
use Rattle.tab_ids.specs.declared.ReqId.{ReqId}
use Rattle.log_model.specs.declared.job.Job.{Job}
use Rattle.log_model.specs.declared.job.Order.{Order}
use Rattle.log_model.specs.declared.job.Task.{Task}
use Rattle.log_model.specs.declared.job.Task.TheVariants as tasks
use Rattle.log_model.specs.declared.job.Why.{Why}
use Rattle.log_model.specs.declared.job.Why.TheVariants as whys
use Rattle.log_model.specs.declared.made.Report.{Report}
use Rattle.log_model.specs.declared.made.Report.TheVariants as reports
use Rattle.log_model.specs.declared.outcome.Ending.TheVariants as endings
use Rattle.log_model.specs.declared.outcome.Outcome.{Outcome}
use Rattle.log_model.specs.declared.outcome.Outcome.TheVariants as outcomes
use Rattle.log_model.specs.declared.row_kind.LogRow.{LogRow}
use Rattle.log_model.specs.declared.row_kind.RowKind.{RowKind}
use Rattle.log_model.specs.declared.row_kind.RowKind.TheVariants as rows
use Rattle.log_model.specs.After.{after, ended, new_request}
use Rattle.log_model.specs.AfterRequests.{entries_taken, is_running, on_asking, on_request, on_served, request_begun, requests_delivered, requests_finished, requests_sent, with_asking}
use Rattle.log_model.specs.Seen.{Asked, Asking, Seen, desk_of, request_in}
use Rattle.seen_facts.proofs.Each.Courses.{was_asked}
use Rattle.seen_facts.proofs.Each.Runs.{each_asked_more, each_asked_on}
use Rattle.seen_facts.proofs.Request.Readers.{sent_reads}
use Rattle.seen_facts.specs.Each.Runs.{EachAsked}
use Rattle.check_facts.proofs.Rows.{Plain, plain_of, sent_plain}
use Rattle.check_facts.specs.Rows.{IsNoQuestion}
use Rattle.asking_facts.proofs.Started.{blind, has_started}
use Rattle.asking_facts.specs.Asking.{AsksBegun, IsForBegun, NoneAskedEarly}

-- of one request
abbrev IsEarly : ReqId → Asked → Type 0
IsEarly r q = q.is_started ≡ false → q.asks ≡ []

-- it was changed
one_early : (asked : List Asked) (req : ReqId) (f : Asked → Asked) → ((q : Asked) → IsEarly req q → IsEarly req (f q)) → EachAsked IsEarly asked → EachAsked IsEarly (on_request req f asked)
one_early asked req f own early =
    each_asked_on IsEarly IsEarly asked req f (λ r q apart is. is) (λ q at is. own q is) early

served_early : (asked : List Asked) (why : Why) (f : Asked → Asked) → ((req : ReqId) (q : Asked) → why ≡ whys.Req req → request_in asked req ≡ Some q → IsEarly req q → IsEarly req (f q)) → EachAsked IsEarly asked → EachAsked IsEarly (on_served why f asked)
served_early asked (whys.Req req) f own early =
    each_asked_on IsEarly IsEarly asked req f (λ r q apart is. is) (λ q at is. own req q refl at is) early
served_early asked (whys.Death death) f own early = early
served_early asked whys.Evict f own early = early
served_early asked whys.Start f own early = early

-- the answers of those that asked nobody
heard_early : (job : JobId) (f : Asking → Asking) (req : ReqId) (q : Asked) → IsEarly req q → IsEarly req (on_asking job f q)
heard_early job f req q is off = none q.asks (is off)
  where
    none : (asks : List Asking) → asks ≡ [] → (on_asking job f (record q { asks = asks })).asks ≡ []
    none [] e = refl
    none (asking ∷ asks) e = cc

-- ---- orders, what processes do, and reports

module _ (s : Seen) (early : EachAsked IsEarly s.requests) where
  sent_early : (row : LogRow) (job : Job) → row.row ≡ rows.Sent job → IsForBegun s job job.task → EachAsked IsEarly (requests_sent s job job.task s.requests)
  sent_early row job is begun = by_task job.task refl begun
    where
      plain : IsNoQuestion job.task → EachAsked IsEarly (requests_sent s job job.task s.requests)
      plain none r q at off =
          let p = was_asked plain_of s.requests (requests_sent s job job.task s.requests) (sent_plain s row.event row.actor job none) r q at in
          let w = was_asked has_started s.requests (requests_sent s job job.task s.requests) (sent_reads has_started blind s job job.task s.requests) r q at in
          let same : p.0 ≡ w.0 = (let both : Some p.0 ≡ Some w.0 = sym p.1 ∙ w.1 in cc) in
          ap (λ (x : Plain). x.asks) (sym p.2) ∙ early r p.0 p.1 (ap (λ (x : Asked). x.is_started) same ∙ w.2 ∙ off)

      by_task : (task : Task) → job.task ≡ task → IsForBegun s job task → EachAsked IsEarly (requests_sent s job job.task s.requests)
      by_task (tasks.Ask slot cause) e begun_ =
          rw e (served_early s.requests job.why (with_asking job) (λ req q why at is off. (let never : true ≡ false = sym (begun_ req q why at) ∙ off in absurd cc)) early)
      by_task (tasks.Populate nav state address initial) e begun_ = plain (subst IsNoQuestion (sym e) tt)
      by_task (tasks.Activate entry epoch long at memo address) e begun_ = plain (subst IsNoQuestion (sym e) tt)
      by_task (tasks.Update long at) e begun_ = plain (subst IsNoQuestion (sym e) tt)
      by_task tasks.Freeze e begun_ = plain (subst IsNoQuestion (sym e) tt)
      by_task tasks.Discard e begun_ = plain (subst IsNoQuestion (sym e) tt)
      by_task (tasks.DoFragment req mode address) e begun_ = plain (subst IsNoQuestion (sym e) tt)

  finished_early : (hand : Option Order) (outcome : Outcome) → EachAsked IsEarly (requests_finished s hand outcome s.requests)
  finished_early None outcome = early
  finished_early (Some order) (outcomes.Asked verdict) =
      served_early s.requests order.job.why _ (λ req q why at is. heard_early order.job.nr (λ asking. record asking { verdict = Some verdict }) req q is) early
  finished_early (Some order) outcomes.Fragmented = by_task order.job.task refl
    where
      by_task : (task : Task) → order.job.task ≡ task → EachAsked IsEarly (requests_finished s (Some order) outcomes.Fragmented s.requests)
      by_task (tasks.DoFragment req mode address) e =
          rw e (one_early s.requests req (λ q. record q { is_not_found = not (is_running s order.job.doc) }) (λ q is. is) early)
      by_task (tasks.Populate nav state address initial) e = rw e early
      by_task (tasks.Activate entry epoch long at memo address) e = rw e early
      by_task (tasks.Update long at) e = rw e early
      by_task tasks.Freeze e = rw e early
      by_task tasks.Discard e = rw e early
      by_task (tasks.Ask slot cause) e = rw e early
  finished_early (Some order) (outcomes.Populated slot) = early
  finished_early (Some order) outcomes.Activated = early
  finished_early (Some order) outcomes.Updated = early
  finished_early (Some order) outcomes.Frozen = early
  finished_early (Some order) outcomes.Discarded = early

  delivered_early : (report : Option Report) → EachAsked IsEarly (requests_delivered report s.requests)
  delivered_early None = early
  delivered_early (Some (reports.Made made)) = early
  delivered_early (Some (reports.Died death)) = early
  delivered_early (Some (reports.Done job outcome made)) = by_outcome outcome
    where
      by_outcome : (o : Outcome) → EachAsked IsEarly (requests_delivered (Some (reports.Done job o made)) s.requests)
      by_outcome (outcomes.Asked verdict) =
          served_early s.requests job.why _ (λ req q why at is. heard_early job.nr (λ asking. record asking { is_delivered = true }) req q is) early
      by_outcome (outcomes.Populated slot) = early
      by_outcome outcomes.Activated = early
      by_outcome outcomes.Updated = early
      by_outcome outcomes.Frozen = early
      by_outcome outcomes.Discarded = early
      by_outcome outcomes.Fragmented = early

-- ---- over a row

pub early_row : (s : Seen) (row : LogRow) → AsksBegun s row.row → NoneAskedEarly s → NoneAskedEarly (after s row)
early_row s row begun early = by_kind row.row refl begun
  where
    keeps : (req : ReqId) (f : Asked → Asked) → ((q : Asked) → IsEarly req q → IsEarly req (f q)) → EachAsked IsEarly (on_request req f s.requests)
    keeps req f own = one_early s.requests req f own early

    by_kind : (kind : RowKind) → row.row ≡ kind → AsksBegun s kind → EachAsked IsEarly (after s row).requests
    by_kind (rows.Opened entry state doc proc slot address) e is = rw e early
    by_kind (rows.Accepted req doc what) e is =
        rw e (each_asked_more IsEarly s.requests (new_request req doc what) (record { 0 = length s.requests + 1 }) refl (λ off. refl) early)
    by_kind (rows.Started req goal) e is =
        rw e (one_early (on_request req (λ q. record q { is_started = true; goal = goal }) s.requests) req (request_begun s) (λ q one. one) (keeps req (λ q. record q { is_started = true; goal = goal }) (λ q one off. (let never : true ≡ false = off in absurd cc))))
    by_kind (rows.Applied req change) e is =
        rw e (one_early (on_request req (λ q. record q { change = Some change }) (ended s.requests req endings.Applied)) req (λ q. record q { took = entries_taken s.history change }) (λ q one. one) (one_early (ended s.requests req endings.Applied) req (λ q. record q { change = Some change }) (λ q one. one) (keeps req (λ q. record q { ending = Some endings.Applied }) (λ q one. one))))
    by_kind (rows.Refused req reason) e is = rw e (keeps req (λ q. record q { ending = Some (endings.Refused reason) }) (λ q one. one))
    by_kind (rows.Dropped req cause) e is = rw e (keeps req (λ q. record q { ending = Some (endings.Dropped cause) }) (λ q one. one))
    by_kind (rows.Prompted req doc) e is = rw e (keeps req (λ q. record q { prompted = Some doc }) (λ q one. one))
    by_kind (rows.Answered req stay) e is = rw e (keeps req (λ q. record q { answered = Some stay }) (λ q one. one))
    by_kind (rows.Sent job) e is = rw e (sent_early s early row job e is)
    by_kind (rows.Taken proc job live dirty) e is = rw e early
    by_kind (rows.Finished proc job outcome) e is = rw e (finished_early s early (desk_of s proc).in_hand outcome)
    by_kind (rows.Made proc made) e is = rw e (keeps made.req (λ q. record q { made = Some made }) (λ q one. one))
    by_kind (rows.Delivered proc) e is = rw e (delivered_early s early (slice_get (desk_of s proc).reports 0))
    by_kind (rows.Killed proc death) e is = rw e early
    by_kind (rows.Evicted state) e is = rw e early
