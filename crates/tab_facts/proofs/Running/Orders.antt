-- Fragment orders find their documents running as an order is sent: a fragment order where its document runs once all orders are done that come to it, an order that makes a document where no fragment order comes to that, and any other.
use Rattle.seen_facts.proofs.Coord.Leadings.{proc_same}
use Rattle.seen_facts.proofs.Coord.OneDocument.{mailed}
use Rattle.seen_facts.proofs.Coord.Unread.{next}
use Rattle.seen_facts.specs.Coord.Leading.{is_live_order, orders_for}
use Rattle.seen_facts.proofs.Entry.Docs.{MakesNone}
use Rattle.seen_facts.specs.Home.Homes.{document_in}
use Rattle.log_model.specs.AfterDocuments.{addressed, documents_sent, new_document, on_document}
use Rattle.log_model.specs.Seen.{Desk, Document, Seen, desk_of, document_of}
use Rattle.log_model.specs.declared.job.Job.{Job}
use Rattle.log_model.specs.declared.job.Task.{Task}
use Rattle.log_model.specs.declared.job.Task.TheVariants as tasks
use Rattle.log_model.specs.declared.row_kind.Actor.{Actor}
use Rattle.log_model.specs.declared.row_kind.RowKind.TheVariants as rows
use Rattle.seen_facts.proofs.Rest.Again.{its_number}
use Rattle.seen_facts.specs.Rest.Resting.{will_run}
use Rattle.tab_facts.proofs.Running.Again.{AreKeptRunning, kept_on, kept_running}
use Rattle.tab_facts.proofs.Running.Lists.{finds_mailed, live_doc}
use Rattle.tab_facts.specs.Running.Running.{AreFoundRunning, EachFinds, Finds, IsFoundRunning}
use Rattle.seen_laws.proofs.Desks.{desk_on_other, desk_on_same}
use Rattle.std.proofs.Common.{Bool, List, None, Option, Some, [], ap, cond, false, inl, inr, length, refl, subst, sym, true, ℕ, ◌++◌, ◌==◌, ◌∙◌, ◌∷◌, ◌≡◌, ◌⊎◌}
use Rattle.tab_ids.specs.declared.DocId.{DocId}
use Rattle.tab_ids.specs.declared.NavId.{NavId}
use Rattle.tab_ids.specs.declared.ProcId.{ProcId}
use Rattle.tab_ids.specs.declared.StateId.{StateId}

module _ (s : Seen) (event : ℕ) (actor : Actor) (are : AreFoundRunning s) (job : Job) where
  abbrev pub sent : Seen
  sent = next s event actor (rows.Sent job)

  -- but for the documents
  abbrev waits : Seen
  waits = record sent { documents = s.documents }

  desk_then : desk_of waits job.proc ≡ mailed job (desk_of s job.proc)
  desk_then = desk_on_same (mailed job) s.desks job.proc (λ desk. refl)

  -- the order finds its document running, if it is to
  abbrev pub IsFitting : Type 0
  IsFitting = (d : Document) → document_of s job.doc ≡ Some d → Finds (will_run (desk_of s d.proc) d) job.task

  waits_running : IsFitting → AreFoundRunning waits
  waits_running fits doc d found = by_process (job.proc.0 == d.proc.0) refl
    where
      here : IsFoundRunning (desk_of s d.proc) d
      here = are doc d found

      fits_it : is_live_order d.nr (length (desk_of s d.proc).killed) job ≡ true → Finds (will_run (desk_of s d.proc) d) job.task
      fits_it lives =
          fits d (ap (document_of s) (live_doc d.nr (length (desk_of s d.proc).killed) job lives ∙ its_number s doc d found) ∙ found)

      by_process : (b : Bool) → (job.proc.0 == d.proc.0) ≡ b → IsFoundRunning (desk_of waits d.proc) d
      by_process true e =
          let same : job.proc ≡ d.proc = proc_same job.proc d.proc e in
          let desk : desk_of waits d.proc ≡ mailed job (desk_of s d.proc) = ap (desk_of waits) (sym same) ∙ desk_then ∙ ap (λ (p : ProcId). mailed job (desk_of s p)) same in
          subst (λ (k : Desk). IsFoundRunning k d) (sym desk) (finds_mailed (desk_of s d.proc) job d fits_it here)
      by_process false e =
          subst (λ (k : Desk). IsFoundRunning k d) (sym (desk_on_other (mailed job) s.desks job.proc d.proc (λ desk. refl) e)) here

  -- ---- an order that makes no document

  addressed_kept : (task : Task) → AreKeptRunning s.documents (on_document job.doc (addressed task) s.documents)
  addressed_kept task = kept_on job.doc (addressed task) s.documents (record { nr = λ d. refl; proc = λ d. refl; runs = λ d. refl })

  told_kept : (task : Task) → MakesNone task → AreKeptRunning s.documents (documents_sent s job task)
  told_kept (tasks.Populate nav state address initial) never = absurd never
  told_kept tasks.Discard none = kept_on job.doc (λ (d : Document). record d { is_discarded = true }) s.documents (record { nr = λ d. refl; proc = λ d. refl; runs = λ d. refl })
  told_kept (tasks.Activate entry epoch length index memo address) none = addressed_kept (tasks.Activate entry epoch length index memo address)
  told_kept (tasks.Update length index) none = addressed_kept (tasks.Update length index)
  told_kept tasks.Freeze none = addressed_kept tasks.Freeze
  told_kept (tasks.Ask slot cause) none = addressed_kept (tasks.Ask slot cause)
  told_kept (tasks.DoFragment req mode address) none = addressed_kept (tasks.DoFragment req mode address)

  pub sent_running : MakesNone job.task → IsFitting → AreFoundRunning sent
  sent_running none fits = kept_running waits sent (told_kept job.task none) (λ proc doc. refl) (waits_running fits)

  -- ---- one that makes a document, to which no fragment order comes yet

  module _ (nav : NavId) (state : StateId) (address : List ℕ) (initial : Bool) (task : job.task ≡ tasks.Populate nav state address initial) (unordered : EachFinds None (orders_for (desk_of s job.proc) job.doc)) where
    abbrev new : Document
    new = new_document s job nav state

    either : (l : List Document) (doc : DocId) (d : Document) → document_in (l ++ new ∷ []) doc ≡ Some d → (document_in l doc ≡ Some d) ⊎ (new ≡ d)
    either [] doc d found = by_test (new.nr.0 == doc.0) found
      where
        by_test : (b : Bool) → (let o : Option Document = cond b (Some new) None in o) ≡ Some d → (None ≡ Some d) ⊎ (new ≡ d)
        by_test true h = inr (let same : new ≡ d = cc in same)
        by_test false h = absurd cc
    either (x ∷ l) doc d found = by_test (x.nr.0 == doc.0) (either l doc d) found
      where
        by_test : (b : Bool) → (document_in (l ++ new ∷ []) doc ≡ Some d → (document_in l doc ≡ Some d) ⊎ (new ≡ d)) → (let o : Option Document = cond b (Some x) (document_in (l ++ new ∷ []) doc) in o) ≡ Some d → ((let o : Option Document = cond b (Some x) (document_in l doc) in o) ≡ Some d) ⊎ (new ≡ d)
        by_test true rest h = inl h
        by_test false rest h = rest h

    fine : (runs : Option Bool) → Finds runs job.task
    fine runs = subst (λ (k : Task). Finds runs k) (sym task) tt

    new_found : IsFoundRunning (desk_of waits job.proc) new
    new_found =
        subst (λ (k : Desk). IsFoundRunning k new) (sym desk_then)
        (finds_mailed (desk_of s job.proc) job new (λ lives. fine (will_run (desk_of s job.proc) new)) unordered)

    pub making_running : AreFoundRunning sent
    making_running doc d found = by_case (either s.documents doc d (ap (λ (l : List Document). document_in l doc) (sym (ap (documents_sent s job) task)) ∙ found))
      where
        by_case : (document_of s doc ≡ Some d) ⊎ (new ≡ d) → IsFoundRunning (desk_of sent d.proc) d
        by_case (inl old) = waits_running (λ x there. fine (will_run (desk_of s x.proc) x)) doc d old
        by_case (inr is) = subst (λ (x : Document). IsFoundRunning (desk_of waits x.proc) x) is new_found
