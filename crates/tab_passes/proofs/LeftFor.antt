-- A document that is left duly for a reason may be left by an order for that.
use Rattle.leave_facts.proofs.Carried.{AreLeftDuly, MakesNew}
use Rattle.leave_facts.proofs.Events.{left_here, left_made, left_on, request_there}
use Rattle.leave_facts.proofs.Duly.{unshown_left}
use Rattle.leave_facts.proofs.Rows.{IsKeeping}
use Rattle.leave_facts.specs.Leaving.{IsLeftDulyFor}
use Rattle.log_model.specs.After.{after}
use Rattle.log_model.specs.AfterDocuments.{documents_sent, new_document}
use Rattle.log_model.specs.AfterPlaces.{places_sent}
use Rattle.log_model.specs.Places.{is_awake_on, shower_of}
use Rattle.log_model.specs.Seen.{Document, Seen, document_of}
use Rattle.log_model.specs.declared.job.Job.{Job}
use Rattle.log_model.specs.declared.job.Task.TheVariants as tasks
use Rattle.log_model.specs.declared.job.Task.{Task}
use Rattle.log_model.specs.declared.job.Why.{Why}
use Rattle.log_model.specs.declared.row_kind.RowKind.TheVariants as rows
use Rattle.log_model.specs.declared.row_kind.RowKind.{RowKind}
use Rattle.row_facts.specs.LeaveRows.Leaving.{is_for_one}
use Rattle.row_facts.specs.LeaveRows.MayLeave.{MayBeLeft}
use Rattle.seen_laws.specs.Blocks.{point_at}
use Rattle.tab_doors.proofs.Works.{start_here}
use Rattle.seen_laws.specs.InEvent.{InEvent, here_of, log_of, now_of, row_of}
use Rattle.seen_laws.specs.Unasked.{is_question}
use Rattle.std.proofs.lemmas.List.Folds.{find-append}
use Rattle.std.specs.Option.{option_or}
use Rattle.std.specs.Prelude.{find}
use Rattle.tab_doors.proofs.PassedOn.{sent_now}
use Rattle.tab_ids.specs.declared.NavId.{NavId}
use Rattle.tab_ids.specs.declared.StateId.{StateId}
use Rattle.std.proofs.Common.{Bool, List, None, Option, Some, [], ap, cond, false, inl, inr, refl, subst, sym, true, ℕ, ◌==◌, ◌++◌, ◌∙◌, ◌∷◌, ◌≡◌, ◌⊎◌}
use Rattle.tab_ids.specs.declared.DocId.{DocId}
use Rattle.tab_passes.specs.Leaving.{KeepsOff, WasOffOrLeft}

pub left_for : (e : InEvent) (out : List RowKind) → AreLeftDuly (log_of e out) → (job : Job) (bare : Document) → document_of (now_of e out) job.doc ≡ Some bare → is_for_one (now_of e out) job.why ≡ true → IsLeftDulyFor (log_of e out) job.doc job.why → MayBeLeft (here_of e out) job
left_for e out duly job bare found one left req why =
    left_here e out duly job.doc bare found req (ap (λ (w : Why). is_for_one (now_of e out) w) (sym why) ∙ one) (left req why)

-- so may one on which nobody was awake as the event began
pub off_for : (e : InEvent) (out : List RowKind) → AreLeftDuly (log_of e out) → (job : Job) (bare : Document) → document_of (now_of e out) job.doc ≡ Some bare → is_for_one (now_of e out) job.why ≡ true → WasOffOrLeft e out job.why job.doc → MayBeLeft (here_of e out) job
off_for e out duly job bare found one (inl none) req why =
    let q = request_there e out req (ap (λ (w : Why). is_for_one (now_of e out) w) (sym why) ∙ one) in
    unshown_left (point_at (here_of e out) []) job.doc req q.0 q.1 (subst (λ (s : Seen). shower_of s job.doc ≡ None) (sym (start_here e out)) none)
off_for e out duly job bare found one (inr left) req why = left_for e out duly job bare found one left req why

-- over a row that begins no request and changes no history it is so still
pub off_on : (e : InEvent) (out : List RowKind) (kind : RowKind) (new : List RowKind) → new ≡ out ++ kind ∷ [] → IsKeeping (log_of e out) kind → (doc : DocId) (why : Why) → WasOffOrLeft e out why doc → WasOffOrLeft e new why doc
off_on e out kind new is keeps doc why (inl none) = inl none
off_on e out kind new is keeps doc why (inr left) = inr (left_on e out kind new is keeps doc why left)

-- an order that makes a new document keeps all of that: nobody falls asleep for it, and the new one isn't made yet
pub made_off : (e : InEvent) (out : List RowKind) → AreLeftDuly (log_of e out) → (job : Job) (nav : NavId) (state : StateId) (address : List ℕ) (initial : Bool) → job.task ≡ tasks.Populate nav state address initial → document_of (now_of e out) job.doc ≡ None → (new : List RowKind) → new ≡ out ++ rows.Sent job ∷ [] → KeepsOff e out new
made_off e out duly job nav state address initial task none new is why off doc d found ready undiscarded shown =
    by_old (document_of s doc) refl (sym (find-append (λ (x : Document). x.nr.0 == doc.0) s.documents (new_document s job nav state ∷ [])) ∙ found_then)
  where
    s : Seen
    s = now_of e out

    now_as : now_of e new ≡ after s (row_of e (rows.Sent job))
    now_as = ap (λ (l : List RowKind). now_of e l) is ∙ sent_now e out job (ap is_question task)

    found_then : find (λ (x : Document). x.nr.0 == doc.0) (s.documents ++ new_document s job nav state ∷ []) ≡ Some d
    found_then =
        ap (λ (t : Task). find (λ (x : Document). x.nr.0 == doc.0) (documents_sent s job t)) (sym task)
        ∙ subst (λ (x : Seen). document_of x doc ≡ Some d) now_as found

    shown_then : shower_of s doc ≡ None
    shown_then =
        ap (λ (t : Task). find (is_awake_on doc) (places_sent s job t)) (sym task)
        ∙ subst (λ (x : Seen). shower_of x doc ≡ None) now_as shown

    keep : WasOffOrLeft e out why doc → WasOffOrLeft e new why doc
    keep (inl off_) = inl off_
    keep (inr left) = inr (left_made e out duly job new is (subst (λ (t : Task). MakesNew s job t) (sym task) none) doc why left)

    by_new : (b : Bool) → (job.doc.0 == doc.0) ≡ b → (let o : Option Document = cond b (Some (new_document s job nav state)) None in o) ≡ Some d → WasOffOrLeft e new why doc
    by_new true at h =
        let one : new_document s job nav state ≡ d = cc in
        let never : true ≡ false = sym ready ∙ ap (λ (x : Document). x.is_ready) (sym one) in
        absurd cc
    by_new false at h = absurd cc

    by_old : (o : Option Document) → document_of s doc ≡ o → option_or o (find (λ (x : Document). x.nr.0 == doc.0) (new_document s job nav state ∷ [])) ≡ Some d → WasOffOrLeft e new why doc
    by_old (Some old) at h =
        let one : old ≡ d = cc in
        keep (off doc d (at ∙ ap (λ (x : Document). Some x) one) ready undiscarded shown_then)
    by_old None at h = by_new (job.doc.0 == doc.0) refl h
