-- The questions that wait, over whichever row; and what they say of a report that is delivered.
use Rattle.std.proofs.Common.{◌≡◌, ◌+◌, not, List, [], ◌∷◌, Option, Some, None, refl, sym, ◌∙◌, subst, arith}
use Rattle.std.specs.Prelude.{slice_get}
use Rattle.tab_ids.specs.declared.JobId.{JobId}
use Rattle.tab_ids.specs.declared.ProcId.{ProcId}
use Rattle.tab_ids.specs.declared.ReqId.{ReqId}
use Rattle.log_model.specs.declared.handler.Verdict.{Verdict}
use Rattle.log_model.specs.declared.job.Job.{Job}
use Rattle.log_model.specs.declared.job.Order.{Order}
use Rattle.log_model.specs.declared.job.Task.{Task}
use Rattle.log_model.specs.declared.job.Task.TheVariants as tasks
use Rattle.log_model.specs.declared.job.Why.TheVariants as whys
use Rattle.log_model.specs.declared.made.Made.{Made}
use Rattle.log_model.specs.declared.made.Report.TheVariants as reports
use Rattle.log_model.specs.declared.outcome.Outcome.{Outcome}
use Rattle.log_model.specs.declared.outcome.Outcome.TheVariants as outcomes
use Rattle.log_model.specs.declared.row_kind.LogRow.{LogRow}
use Rattle.log_model.specs.declared.row_kind.RowKind.{RowKind}
use Rattle.log_model.specs.declared.row_kind.RowKind.TheVariants as rows
use Rattle.log_model.specs.After.{after, desk_killed, follows_finished}
use Rattle.log_model.specs.AfterRequests.{is_running, requests_finished}
use Rattle.log_model.specs.Seen.{Asked, Asking, Seen, desk_of, request_of}
use Rattle.seen_facts.proofs.Each.Eaches.{each_first, each_more}
use Rattle.seen_facts.proofs.Request.Readers.{SameReads, on_read}
use Rattle.check_facts.proofs.Rows.{applied_plain, dropped_plain, plain_of, refused_plain, sent_plain, started_plain}
use Rattle.check_facts.specs.Checking.{AnswerIs, AreOneEach}
use Rattle.check_facts.specs.Rows.{IsNoQuestion}
use Rattle.asking_facts.proofs.Counts.{posted, sent_apart}
use Rattle.asking_facts.proofs.Waiting.{Carries, KeepsAsks, asks_carry, asks_of, asks_sent, desk_on, from_asks, plain_asks}
use Rattle.asking_facts.proofs.WaitingOver.{asked_finished, delivered_wait, none_finished, other_finished}
use Rattle.asking_facts.proofs.WaitingRows.{asked_wait, desks_on, some_same}
use Rattle.asking_facts.specs.Waiting.{DeskWaits, EndWaits, EndsSo, GoesWaiting, IsWaiting, JobWaits, OrderWaits, QuestionsWait, ReportWaits, SaysOf, SendsFirst, Waits}
use Rattle.asking_facts.proofs.WaitingDesks.{accepted_wait, dropped_wait, made_wait, on_wait, opened_wait, refused_wait, same_wait, taken_wait}

-- ---- what a delivered report says

-- of an answer: its order's document was asked in that order alone, and the answer is the order's
pub report_says : (s : Seen) → QuestionsWait s → (proc : ProcId) (job : Job) (verdict : Verdict) (made : Option Made) → slice_get (desk_of s proc).reports 0 ≡ Some (reports.Done job (outcomes.Asked verdict) made) → (r : ReqId) → job.why ≡ whys.Req r → (q : Asked) → request_of s r ≡ Some q → AreOneEach job.nr job.doc q.asks × AnswerIs job.nr verdict q.asks
report_says s waits proc job verdict made first r why q found =
    let its : Waits s job (Some verdict) = each_first (ReportWaits s) (desk_of s proc).reports (reports.Done job (outcomes.Asked verdict) made) first (waits.desks proc).reports in
    let w : IsWaiting s job (Some verdict) r = its.each r why in
    let same : w.q ≡ q = some_same (sym w.at ∙ found) in
    (subst (λ (x : Asked). AreOneEach job.nr job.doc x.asks) same w.one, answer q.asks (subst (λ (x : Asked). SaysOf job.nr (Some verdict) x.asks) same w.says))
  where
    answer : (asks : List Asking) → SaysOf job.nr (Some verdict) asks → AnswerIs job.nr verdict asks
    answer [] says = tt
    answer (asking ∷ asks) says = (says.0, answer asks says.1)

-- ---- orders

module _ (s : Seen) (row : LogRow) (waits : QuestionsWait s) where
  abbrev t : Seen
  t = after s row

  plain_sent : (job : Job) → row.row ≡ rows.Sent job → job.nr.0 ≡ s.jobs + 1 → IsNoQuestion job.task → ((u : Seen) → OrderWaits u job job.task) → QuestionsWait t
  plain_sent job is nr none free =
      record {
        desks = desks_on s t job.proc (posted job) carries_ (rw is refl) (λ d. refl) (left (desk_on s t carries_ (desk_of s job.proc) (waits.desks job.proc))) waits.desks;
        apart = sent_apart s t job (rw is refl) (rw is refl) nr waits.apart;
        sent = asks_sent s t keeps waits.sent;
      }
    where
      keeps : KeepsAsks s t
      keeps =
          from_asks s t (let e : t.jobs ≡ s.jobs + 1 = rw is refl in omega (arith, e)) (plain_asks s t (subst (λ (k : RowKind). SameReads plain_of s.requests (after s (record { event = row.event; actor = row.actor; row = k })).requests) (sym is) (sent_plain s row.event row.actor job none)))

      carries_ : Carries s t
      carries_ = asks_carry s t keeps

      left : DeskWaits t (desk_of s job.proc) → DeskWaits t (posted job (desk_of s job.proc))
      left w =
          record {
            mail = each_more (JobWaits t) (desk_of s job.proc).mail job w.mail (free t);
            hand = w.hand;
            reports = w.reports;
          }

  sent_wait : (job : Job) → row.row ≡ rows.Sent job → job.nr.0 ≡ s.jobs + 1 → SendsFirst s job job.task → QuestionsWait t
  sent_wait job is nr first = by_task job.task refl first
    where
      other : (task : Task) → job.task ≡ task → IsNoQuestion task → ((u : Seen) → OrderWaits u job task) → QuestionsWait t
      other task e none free =
          plain_sent job is nr (subst IsNoQuestion (sym e) none) (λ u. subst (λ (k : Task). OrderWaits u job k) (sym e) (free u))

      by_task : (task : Task) → job.task ≡ task → SendsFirst s job task → QuestionsWait t
      by_task (tasks.Ask slot cause) e f =
          asked_wait s job slot cause e nr f waits row is (sent_apart s t job (rw is refl) (rw is refl) nr waits.apart)
      by_task (tasks.Populate nav state address initial) e f =
          other (tasks.Populate nav state address initial) e tt (λ u. tt)
      by_task (tasks.Activate entry epoch long at memo address) e f =
          other (tasks.Activate entry epoch long at memo address) e tt (λ u. tt)
      by_task (tasks.Update long at) e f = other (tasks.Update long at) e tt (λ u. tt)
      by_task tasks.Freeze e f = other tasks.Freeze e tt (λ u. tt)
      by_task tasks.Discard e f = other tasks.Discard e tt (λ u. tt)
      by_task (tasks.DoFragment req mode address) e f = other (tasks.DoFragment req mode address) e tt (λ u. tt)

  finished_wait : (proc : ProcId) (nr : JobId) (outcome : Outcome) → row.row ≡ rows.Finished proc nr outcome → EndsSo (desk_of s proc).in_hand outcome → QuestionsWait t
  finished_wait proc nr outcome is ends = by_hand (desk_of s proc).in_hand refl
    where
      fragment : (order : Order) (task : Task) → order.job.task ≡ task → SameReads asks_of s.requests (requests_finished s (Some order) outcomes.Fragmented s.requests)
      fragment order (tasks.DoFragment req mode address) f =
          rw f (on_read asks_of s.requests req (λ q. record q { is_not_found = not (is_running s order.job.doc) }) (λ q. refl))
      fragment order (tasks.Populate nav state address initial) f = rw f (λ r. refl)
      fragment order (tasks.Activate entry epoch long at memo address) f = rw f (λ r. refl)
      fragment order (tasks.Update long at) f = rw f (λ r. refl)
      fragment order tasks.Freeze f = rw f (λ r. refl)
      fragment order tasks.Discard f = rw f (λ r. refl)
      fragment order (tasks.Ask slot cause) f = rw f (λ r. refl)

      other : (order : Order) → (desk_of s proc).in_hand ≡ Some order → (o : Outcome) → outcome ≡ o → SameReads asks_of s.requests (requests_finished s (Some order) o s.requests) → EndWaits t order.job o → QuestionsWait t
      other order e o f same end =
          other_finished s row proc nr outcome is ends waits order e (subst (λ (x : Outcome). SameReads asks_of s.requests (requests_finished s (Some order) x s.requests)) (sym f) same) (subst (λ (x : Outcome). EndWaits t order.job x) (sym f) end)

      by_outcome : (order : Order) → (desk_of s proc).in_hand ≡ Some order → (o : Outcome) → outcome ≡ o → QuestionsWait t
      by_outcome order e (outcomes.Asked verdict) f =
          asked_finished s row proc nr outcome is ends waits order e verdict f
      by_outcome order e (outcomes.Populated slot) f = other order e (outcomes.Populated slot) f (λ r. refl) tt
      by_outcome order e outcomes.Activated f = other order e outcomes.Activated f (λ r. refl) tt
      by_outcome order e outcomes.Updated f = other order e outcomes.Updated f (λ r. refl) tt
      by_outcome order e outcomes.Frozen f = other order e outcomes.Frozen f (λ r. refl) tt
      by_outcome order e outcomes.Discarded f = other order e outcomes.Discarded f (λ r. refl) tt
      by_outcome order e outcomes.Fragmented f = other order e outcomes.Fragmented f (fragment order order.job.task refl) tt

      by_hand : (hand : Option Order) → (desk_of s proc).in_hand ≡ hand → QuestionsWait t
      by_hand None e = none_finished s row proc nr outcome is ends waits e
      by_hand (Some order) e = by_outcome order e outcome refl

-- ---- whichever the row

pub waiting_row : (s : Seen) (row : LogRow) → GoesWaiting s row.row → QuestionsWait s → QuestionsWait (after s row)
waiting_row s row goes waits = by_kind row.row refl goes
  where
    -- the questions of each request stay
    plain : (kind : RowKind) → row.row ≡ kind → SameReads asks_of s.requests (after s (record { event = row.event; actor = row.actor; row = kind })).requests → (after s (record { event = row.event; actor = row.actor; row = kind })).jobs ≡ s.jobs → KeepsAsks s (after s row)
    plain kind is same jobs =
        subst (λ (k : RowKind). KeepsAsks s (after s (record { event = row.event; actor = row.actor; row = k }))) (sym is) (from_asks s (after s (record { event = row.event; actor = row.actor; row = kind })) (omega (arith, jobs)) same)

    by_kind : (kind : RowKind) → row.row ≡ kind → GoesWaiting s kind → QuestionsWait (after s row)
    by_kind (rows.Opened entry state doc proc slot address) is g =
        opened_wait s row waits (plain (rows.Opened entry state doc proc slot address) is (λ r. refl) refl) proc (rw is refl)
    by_kind (rows.Accepted req doc what) is g = accepted_wait s row waits req doc what is
    by_kind (rows.Started req goal) is g =
        same_wait s (after s row) (plain (rows.Started req goal) is (plain_asks s (after s (record { event = row.event; actor = row.actor; row = rows.Started req goal })) (started_plain s row.event row.actor req goal)) refl) waits (rw is refl)
    by_kind (rows.Applied req change) is g =
        same_wait s (after s row) (plain (rows.Applied req change) is (plain_asks s (after s (record { event = row.event; actor = row.actor; row = rows.Applied req change })) (applied_plain s row.event row.actor req change)) refl) waits (rw is refl)
    by_kind (rows.Refused req reason) is g =
        refused_wait s row waits (plain (rows.Refused req reason) is (plain_asks s (after s (record { event = row.event; actor = row.actor; row = rows.Refused req reason })) (refused_plain s row.event row.actor req reason)) refl) row.actor (rw is refl)
    by_kind (rows.Dropped req cause) is g =
        dropped_wait s row waits (plain (rows.Dropped req cause) is (plain_asks s (after s (record { event = row.event; actor = row.actor; row = rows.Dropped req cause })) (dropped_plain s row.event row.actor req cause)) refl) req (rw is refl)
    by_kind (rows.Prompted req doc) is g =
        same_wait s (after s row) (plain (rows.Prompted req doc) is (on_read asks_of s.requests req (λ q. record q { prompted = Some doc }) (λ q. refl)) refl) waits (rw is refl)
    by_kind (rows.Answered req stay) is g =
        same_wait s (after s row) (plain (rows.Answered req stay) is (on_read asks_of s.requests req (λ q. record q { answered = Some stay }) (λ q. refl)) refl) waits (rw is refl)
    by_kind (rows.Sent job) is g = sent_wait s row waits job is g.0 g.1
    by_kind (rows.Taken proc job live dirty) is g =
        taken_wait s row waits (plain (rows.Taken proc job live dirty) is (λ r. refl) refl) proc live dirty (rw is refl)
    by_kind (rows.Finished proc job outcome) is g = finished_wait s row waits proc job outcome is g
    by_kind (rows.Made proc made) is g =
        made_wait s row waits (plain (rows.Made proc made) is (on_read asks_of s.requests made.req (λ q. record q { made = Some made }) (λ q. refl)) refl) (follows_finished s row) proc made (rw is refl)
    by_kind (rows.Delivered proc) is g = delivered_wait s row proc is waits
    by_kind (rows.Killed proc death) is g =
        on_wait s (after s row) (plain (rows.Killed proc death) is (λ r. refl) refl) waits proc (desk_killed death) (rw is refl) (λ d. refl) (λ n. omega arith) (λ w. record {
          mail = w.mail;
          hand = tt;
          reports = each_more (ReportWaits (after s row)) (desk_of s proc).reports (reports.Died death) w.reports tt;
        })
    by_kind (rows.Evicted state) is g =
        same_wait s (after s row) (plain (rows.Evicted state) is (λ r. refl) refl) waits (rw is refl)
