-- What orders may be for, over an order.
use Rattle.log_model.specs.After.{after}
use Rattle.log_model.specs.Checks.{may_go_on}
use Rattle.log_model.specs.Seen.{Asked, Seen, request_of}
use Rattle.log_model.specs.declared.job.Job.{Job}
use Rattle.log_model.specs.declared.job.Why.{Why}
use Rattle.seen_laws.specs.InEvent.{InEvent, row_of}
use Rattle.std.proofs.Common.{Bool, None, Option, Some, ap, false, refl, sym, true, ◌∙◌, ◌≡◌}
use Rattle.std.specs.Prelude.{option_map}
use Rattle.seen_facts.proofs.Request.Readers.{IsBlind, sent_reads}
use Rattle.tab_ids.specs.declared.ReqId.{ReqId}
use Rattle.tab_passes.proofs.SetOuts.{kept_begun, sent_begun}
use Rattle.tab_passes.specs.Causes.{MayCause}
use Rattle.log_model.specs.declared.row_kind.RowKind.TheVariants as rows

-- whether a request has begun
abbrev began : Asked → Bool
began q = q.is_started

blind : IsBlind began
blind = record { moves = λ q activated moved. refl; asks = λ q asks. refl; fragments = λ q doc. refl; misses = λ q is. refl }

-- what may be caused still may be, where each request that is there may go on
pub served_causes : (s : Seen) (e : InEvent) (job : Job) (cause : Why) → (let t : Seen = after s (row_of e (rows.Sent job)) in (req : ReqId) (q : Asked) → request_of t req ≡ Some q → may_go_on t req ≡ true) → MayCause s cause → MayCause (after s (row_of e (rows.Sent job))) cause
served_causes s e job cause each may req is =
    record {
      goes = by_there (request_of t req) refl (request_of s req) refl same (may req is).goes;
      begun = kept_begun s t req (sent_begun s job job.task s.requests) (may req is).begun;
    }
  where
    t : Seen
    t = after s (row_of e (rows.Sent job))

    same : option_map began (request_of (after s (row_of e (rows.Sent job))) req) ≡ option_map began (request_of s req)
    same = sent_reads began blind s job job.task s.requests req

    by_there : (o : Option Asked) → request_of (after s (row_of e (rows.Sent job))) req ≡ o → (was : Option Asked) → request_of s req ≡ was → option_map began (request_of (after s (row_of e (rows.Sent job))) req) ≡ option_map began (request_of s req) → may_go_on s req ≡ true → may_go_on (after s (row_of e (rows.Sent job))) req ≡ true
    by_there (Some q) there was is_was same_ goes = each req q there
    by_there None there None is_was same_ goes = let never : may_go_on s req ≡ false = rw is_was refl in absurd cc
    by_there None there (Some q) is_was same_ goes =
        let one : option_map began None ≡ Some (began q) = sym (ap (λ (o : Option Asked). option_map began o) there) ∙ same_ ∙ ap (λ (o : Option Asked). option_map began o) is_was in
        absurd cc
