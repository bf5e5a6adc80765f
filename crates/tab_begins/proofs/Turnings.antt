-- What is known of the event in which traversals have their turns goes on over a pass.
use Rattle.seen_facts.proofs.Each.Courses.{was_asked}
use Rattle.row_facts.specs.FrameRows.Lawful.{held_at_first}
use Rattle.log_model.specs.Causes.{denial_at_acceptance}
use Rattle.log_model.specs.Equal.{has_req}
use Rattle.log_model.specs.Places.{is_traversal}
use Rattle.log_model.specs.Seen.{Asked, request_in, request_of}
use Rattle.log_model.specs.declared.request.Request.{Request}
use Rattle.log_model.specs.declared.row_kind.RowKind.{RowKind}
use Rattle.seen_laws.specs.InEvent.{InEvent, now_of}
use Rattle.std.proofs.Common.{List, None, Some, [], ap, false, inl, inr, length, subst, sym, ◌∙◌, ◌≡◌, ◌⊎◌}
use Rattle.std.specs.Prelude.{nat_lt}
use Rattle.tab_ids.specs.declared.ReqId.{ReqId}
use Rattle.tab_one_pass.specs.Passing.{LeavesPass}
use Rattle.tab_applies.specs.PassedOn.{IsWaiting}

pub waiting_passed : (e : InEvent) (out more : List RowKind) → LeavesPass (now_of e out) (now_of e more) → IsWaiting e out → IsWaiting e more
waiting_passed e out more left waits =
    record {
      parked = by_held waits.parked;
      apart = λ req q among at. (let w = was req q at in ap is_traversal (sym w.2) ∙ waits.apart req w.0 among w.1);
      early = λ req q joined at. (let w = was req q at in
          subst (λ (x : Request). denial_at_acceptance e.start x ≡ None ⊎ (nat_lt (length e.start.requests) req.0 ≡ false)) w.2
          (waits.early req w.0 (ap (λ (l : List ReqId). has_req l req) (sym left.joined) ∙ joined) w.1));
    }
  where
    was : (req : ReqId) (q : Asked) → request_of (now_of e more) req ≡ Some q → (p : Asked) × (request_in (now_of e out).requests req ≡ Some p) × (p.what ≡ q.what)
    was req q at = was_asked (λ (x : Asked). x.what) (now_of e out).requests (now_of e more).requests left.whats req q at

    by_held : ((now_of e out).parked ≡ held_at_first e) ⊎ ((now_of e out).parked ≡ []) → ((now_of e more).parked ≡ held_at_first e) ⊎ ((now_of e more).parked ≡ [])
    by_held (inl first) = inl (left.parked ∙ first)
    by_held (inr none) = inr (left.parked ∙ none)
