-- Whom requests leave was asked, over one row more of an event in which a coordinator works.
use Rattle.leave_facts.proofs.Bares.{bare_sent_duly, makes_log}
use Rattle.leave_facts.proofs.Carried.{AreLeftDuly, MakesNew, makes, row_duly}
use Rattle.leave_facts.proofs.Duly.{duly_left, duly_still}
use Rattle.leave_facts.proofs.Rows.{IsKeeping}
use Rattle.leave_facts.specs.Leaving.{IsLeftDuly, IsLeftDulyFor}
use Rattle.log_model.specs.After.{after}
use Rattle.log_model.specs.Checks.{may_be_left}
use Rattle.log_model.specs.Seen.{Asked, Document, Seen, document_of, request_of}
use Rattle.log_model.specs.declared.job.Job.{Job}
use Rattle.log_model.specs.declared.job.Why.{Why}
use Rattle.log_model.specs.declared.outcome.Cause.{Cause}
use Rattle.log_model.specs.declared.outcome.Denial.{Denial}
use Rattle.log_model.specs.declared.row_kind.RowKind.TheVariants as rows
use Rattle.log_model.specs.declared.row_kind.RowKind.{RowKind}
use Rattle.seen_laws.proofs.InEvents.{log_more, now_is}
use Rattle.seen_laws.specs.Blocks.{point_at}
use Rattle.seen_laws.specs.InEvent.{InEvent, here_of, log_of, now_of, row_of}
use Rattle.seen_laws.specs.Unasked.{unasked_request}
use Rattle.std.proofs.Common.{List, None, Option, Some, [], ap, refl, subst, sym, true, ◌++◌, ◌∙◌, ◌∷◌, ◌≡◌}
use Rattle.std.specs.Prelude.{is_some, option_map}
use Rattle.tab_ids.specs.declared.DocId.{DocId}
use Rattle.tab_ids.specs.declared.ReqId.{ReqId}
use Rattle.unasked.proofs.Readings.{request_read}
use Rattle.unasked_dues.proofs.Base.{document_from}

module _ (e : InEvent) (out : List RowKind) where
  -- what holds of the log with the row holds once the row is put out
  pub duly_then : (kind : RowKind) (new : List RowKind) → new ≡ out ++ kind ∷ [] → AreLeftDuly (after (log_of e out) (row_of e kind)) → AreLeftDuly (log_of e new)
  duly_then kind new is duly =
      subst AreLeftDuly (sym (ap (λ (l : List RowKind). log_of e l) is ∙ log_more e out kind)) duly

  -- an order: one that makes a document makes a new one
  pub sent_duly : (job : Job) (new : List RowKind) → new ≡ out ++ rows.Sent job ∷ [] → MakesNew (now_of e out) job job.task → AreLeftDuly (log_of e out) → AreLeftDuly (log_of e new)
  sent_duly job new is makes duly =
      duly_then (rows.Sent job) new is
      (bare_sent_duly e.checking (log_of e out) e.event e.actor duly job (subst (λ (s : Seen). MakesNew s job job.task) (now_is e out) makes))

  -- a request is dropped
  pub dropped_duly : (req : ReqId) (cause : Cause) (new : List RowKind) → new ≡ out ++ rows.Dropped req cause ∷ [] → AreLeftDuly (log_of e out) → AreLeftDuly (log_of e new)
  dropped_duly req cause new is duly =
      duly_then (rows.Dropped req cause) new is (row_duly (log_of e out) e.event e.actor duly (rows.Dropped req cause) tt)

  -- it is refused
  pub refused_duly : (req : ReqId) (reason : Denial) (new : List RowKind) → new ≡ out ++ rows.Refused req reason ∷ [] → AreLeftDuly (log_of e out) → AreLeftDuly (log_of e new)
  refused_duly req reason new is duly =
      duly_then (rows.Refused req reason) new is (row_duly (log_of e out) e.event e.actor duly (rows.Refused req reason) tt)

  -- a document that is left duly for a reason is so still, over a row that begins no request and changes no history
  pub left_on : (kind : RowKind) (new : List RowKind) → new ≡ out ++ kind ∷ [] → IsKeeping (log_of e out) kind → (doc : DocId) (why : Why) → IsLeftDulyFor (log_of e out) doc why → IsLeftDulyFor (log_of e new) doc why
  left_on kind new is keeps doc why left req why_is =
      subst (λ (s : Seen). IsLeftDuly s doc req) (sym (ap (λ (l : List RowKind). log_of e l) is ∙ log_more e out kind))
      (duly_still (log_of e out) e.event e.actor kind keeps doc req (left req why_is))

  -- also over an order that makes a new document
  pub left_made : AreLeftDuly (log_of e out) → (job : Job) (new : List RowKind) → new ≡ out ++ rows.Sent job ∷ [] → MakesNew (now_of e out) job job.task → (doc : DocId) (why : Why) → IsLeftDulyFor (log_of e out) doc why → IsLeftDulyFor (log_of e new) doc why
  left_made duly job new is new_one doc why left =
      left_on (rows.Sent job) new is (makes (log_of e out) e.event e.actor duly job job.task (makes_log e.checking (log_of e out) job job.task (subst (λ (s : Seen). MakesNew s job job.task) (now_is e out) new_one))) doc why left

  -- ---- so it may be left

  -- a request that is there in the log without questions is there in the log
  pub request_there : (req : ReqId) → is_some (request_of (now_of e out) req) ≡ true → (q : Asked) × (request_of (log_of e out) req ≡ Some q)
  request_there req there = by_found (request_of (log_of e out) req) refl
    where
      by_found : (o : Option Asked) → request_of (log_of e out) req ≡ o → (q : Asked) × (request_of (log_of e out) req ≡ Some q)
      by_found (Some q) at = (q, at)
      by_found None at =
          let none : request_of (now_of e out) req ≡ None = ap (λ (s : Seen). request_of s req) (now_is e out) ∙ request_read e.checking (log_of e out) req ∙ ap (λ (o : Option Asked). option_map (unasked_request e.checking) o) at in
          let never : true ≡ is_some (let o : Option Asked = None in o) = sym there ∙ ap (λ (o : Option Asked). is_some o) none in
          absurd cc

  pub left_here : AreLeftDuly (log_of e out) → (doc : DocId) (bare : Document) → document_of (now_of e out) doc ≡ Some bare → (req : ReqId) → is_some (request_of (now_of e out) req) ≡ true → IsLeftDuly (log_of e out) doc req → may_be_left (point_at (here_of e out) []) doc req ≡ true
  left_here duly doc bare found req there left =
      let d = document_from e.checking (log_of e out) doc bare (subst (λ (s : Seen). document_of s doc ≡ Some bare) (now_is e out) found) in
      let q = request_there req there in
      duly_left (point_at (here_of e out) []) duly.late doc d.0 req q.0 q.1 d.1 left
