-- Requests keep their numbers over each row.
use Rattle.std.proofs.Common.{◌≡◌, true, List, Some, refl, sym, ap, ◌∙◌}
use Rattle.std.specs.Prelude.{slice_get}
use Rattle.tab_ids.specs.declared.ReqId.{ReqId}
use Rattle.log_model.specs.declared.outcome.Ending.TheVariants as endings
use Rattle.log_model.specs.declared.row_kind.LogRow.{LogRow}
use Rattle.log_model.specs.declared.row_kind.RowKind.{RowKind}
use Rattle.log_model.specs.declared.row_kind.RowKind.TheVariants as rows
use Rattle.log_model.specs.After.{after, ended, new_request}
use Rattle.log_model.specs.AfterRequests.{on_request, request_begun}
use Rattle.log_model.specs.Seen.{Asked, Seen, desk_of, request_in}
use Rattle.seen_facts.proofs.Each.Courses.{was_asked}
use Rattle.seen_facts.proofs.Each.Runs.{each_asked_more}
use Rattle.seen_facts.proofs.Request.Readers.{IsBlind, SameReads, delivered_reads, finished_reads, on_read, reads_then, sent_reads}
use Rattle.unasked_dues.specs.Checking.{AreNumbered}
use Rattle.checking_facts.specs.Checks.{NumbersNext}

-- the number that a request has
abbrev nr_of : Asked → ReqId
nr_of q = q.nr

-- it reads nothing that orders and answers change
blind : IsBlind nr_of
blind =
    record {
      moves = λ q activated moved. refl;
      asks = λ q asks. refl;
      fragments = λ q doc. refl;
      misses = λ q is. refl;
    }

-- where each is read as before
same_numbers : (s t : Seen) → SameReads nr_of s.requests t.requests → AreNumbered s → AreNumbered t
same_numbers s t same numbered req q at =
    let p = was_asked nr_of s.requests t.requests same req q at in
    sym p.2 ∙ numbered req p.0 p.1

-- over each row: only one that accepts a request asks for its number
pub numbers_stay : (s : Seen) (row : LogRow) → NumbersNext s row.row → AreNumbered s → AreNumbered (after s row)
numbers_stay s row next numbered = by_kind row.row refl next
  where
    again : SameReads nr_of s.requests (after s row).requests → AreNumbered (after s row)
    again same = same_numbers s (after s row) same numbered

    one : (asked : List Asked) (req : ReqId) (f : Asked → Asked) → ((q : Asked) → nr_of (f q) ≡ nr_of q) → SameReads nr_of s.requests asked → SameReads nr_of s.requests (on_request req f asked)
    one asked req f same before =
        reads_then nr_of s.requests asked (on_request req f asked) before (on_read nr_of asked req f same)

    by_kind : (kind : RowKind) → row.row ≡ kind → NumbersNext s kind → AreNumbered (after s row)
    by_kind (rows.Opened entry state doc proc slot address) e n = again (rw e (λ r. refl))
    by_kind (rows.Accepted req doc what) e n =
        let told : (after s row).requests ≡ (after s (record row { row = rows.Accepted req doc what })).requests = ap (λ (kind : RowKind). (after s (record row { row = kind })).requests) e in
        λ r q at. each_asked_more (λ x y. nr_of y ≡ x) s.requests (new_request req doc what) req n refl numbered r q (ap (λ (l : List Asked). request_in l r) (sym told) ∙ at)
    by_kind (rows.Started req goal) e n =
        again (rw e (one (on_request req (λ q. record q { is_started = true; goal = goal }) s.requests) req (request_begun s) (λ q. refl) (one s.requests req _ (λ q. refl) (λ r. refl))))
    by_kind (rows.Applied req change) e n =
        again (rw e (one (on_request req (λ q. record q { change = Some change }) (ended s.requests req endings.Applied)) req _ (λ q. refl) (one (ended s.requests req endings.Applied) req _ (λ q. refl) (one s.requests req _ (λ q. refl) (λ r. refl)))))
    by_kind (rows.Refused req reason) e n = again (rw e (one s.requests req _ (λ q. refl) (λ r. refl)))
    by_kind (rows.Dropped req cause) e n = again (rw e (one s.requests req _ (λ q. refl) (λ r. refl)))
    by_kind (rows.Prompted req doc) e n = again (rw e (one s.requests req _ (λ q. refl) (λ r. refl)))
    by_kind (rows.Answered req stay) e n = again (rw e (one s.requests req _ (λ q. refl) (λ r. refl)))
    by_kind (rows.Sent job) e n = again (rw e (sent_reads nr_of blind s job job.task s.requests))
    by_kind (rows.Taken proc job live dirty) e n = again (rw e (λ r. refl))
    by_kind (rows.Finished proc job outcome) e n =
        again (rw e (finished_reads nr_of blind s (desk_of s proc).in_hand outcome s.requests))
    by_kind (rows.Made proc made) e n = again (rw e (one s.requests made.req _ (λ q. refl) (λ r. refl)))
    by_kind (rows.Delivered proc) e n =
        again (rw e (delivered_reads nr_of blind (slice_get (desk_of s proc).reports 0) s.requests))
    by_kind (rows.Killed proc death) e n = again (rw e (λ r. refl))
    by_kind (rows.Evicted state) e n = again (rw e (λ r. refl))
