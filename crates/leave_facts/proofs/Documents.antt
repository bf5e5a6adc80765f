-- What rows leave of the documents on which navigables were awake as requests began: their navigables, document states and handlers.
use Rattle.std.proofs.Common.{◌≡◌, ℕ, Bool, true, false, cond, ◌==◌, List, [], ◌∷◌, ◌++◌, map, Option, Some, None, refl, sym, ap, ◌∙◌, subst, arith}
use Rattle.std.specs.Prelude.{find, option_map}
use Rattle.std.proofs.lemmas.Bool.Decides.{nat_tests}
use Rattle.tab_ids.specs.declared.Death.{Death}
use Rattle.tab_ids.specs.declared.DocId.{DocId}
use Rattle.tab_ids.specs.declared.EntryId.{EntryId}
use Rattle.tab_ids.specs.declared.ProcId.{ProcId}
use Rattle.log_model.specs.declared.change.Change.{Change}
use Rattle.log_model.specs.declared.change.Change.TheVariants as changes
use Rattle.log_model.specs.declared.job.Job.{Job}
use Rattle.log_model.specs.declared.job.Task.{Task}
use Rattle.log_model.specs.declared.job.Task.TheVariants as tasks
use Rattle.log_model.specs.declared.made.Made.{Made}
use Rattle.log_model.specs.declared.made.Report.{Report}
use Rattle.log_model.specs.declared.made.Report.TheVariants as reports
use Rattle.log_model.specs.declared.outcome.Outcome.{Outcome}
use Rattle.log_model.specs.declared.outcome.Outcome.TheVariants as outcomes
use Rattle.log_model.specs.declared.row_kind.RowKind.TheVariants as rows
use Rattle.log_model.specs.AfterDocuments.{addressed, applied_to, documents_after, documents_delivered, documents_finished, documents_killed, documents_sent, new_document, on_document, slot_finished, told_after_change, with_applied}
use Rattle.log_model.specs.Seen.{Document, Seen}
use Rattle.seen_laws.proofs.Keyed.{find_map}
use Rattle.leave_facts.proofs.Stays.{IsAwakeFor, IsUnawake, WasDocument, unawake}

-- ---- one document

-- the document is of the same navigable and document state, and has the same handler
record IsAlike (old d : Document) : Type 0 where
  nr : old.nr.0 ≡ d.nr.0
  nav : old.nav ≡ d.nav
  state : old.state ≡ d.state
  slot : old.slot ≡ d.slot

-- a change of documents that leaves them so
abbrev KeepsAlike : (Document → Document) → Type 0
KeepsAlike f = (d : Document) → IsAlike d (f d)

alike : (d : Document) → IsAlike d d
alike d = record { nr = refl; nav = refl; state = refl; slot = refl }

alike_then : (f g : Document → Document) → KeepsAlike f → KeepsAlike g → KeepsAlike (λ d. g (f d))
alike_then f g one two d =
    record {
      nr = (one d).nr ∙ (two (f d)).nr;
      nav = (one d).nav ∙ (two (f d)).nav;
      state = (one d).state ∙ (two (f d)).state;
      slot = (one d).slot ∙ (two (f d)).slot;
    }

-- a change of some documents alone
alike_if : (test : Document → Bool) (f : Document → Document) → KeepsAlike f → KeepsAlike (λ d. cond (test d) (f d) d)
alike_if test f keeps d = by_test (test d)
  where
    by_test : (b : Bool) → IsAlike d (cond b (f d) d)
    by_test true = keeps d
    by_test false = alike d

told_alike : (change : Change) → KeepsAlike (λ d. told_after_change d change)
told_alike (changes.Push nav entry state address memo) =
    alike_if (λ d. d.nr.0 == entry.maker) (λ d. record d { told = None }) (λ d. record { nr = refl; nav = refl; state = refl; slot = refl })
told_alike (changes.Replace nav over entry state address memo) = alike
told_alike (changes.AddFrame owner nav entry state) = alike
told_alike (changes.RemoveFrame nav) = alike
told_alike (changes.Traverse goal) = alike
told_alike (changes.Reload nav) = alike
told_alike changes.Edit = alike

with_alike : (entry : EntryId) → KeepsAlike (with_applied entry)
with_alike entry =
    alike_if (λ d. d.nr.0 == entry.maker) (λ d. record d { last_applied = entry.nr }) (λ d. record { nr = refl; nav = refl; state = refl; slot = refl })

applied_alike : (change : Change) → KeepsAlike (applied_to change)
applied_alike (changes.Push nav entry state address memo) = with_alike entry
applied_alike (changes.Replace nav over entry state address memo) = with_alike entry
applied_alike (changes.Reload nav) =
    alike_if (λ d. d.nav.0 == nav.0) (λ d. record d { is_fresh = false }) (λ d. record { nr = refl; nav = refl; state = refl; slot = refl })
applied_alike (changes.AddFrame owner nav entry state) = alike
applied_alike (changes.RemoveFrame nav) = alike
applied_alike (changes.Traverse goal) = alike
applied_alike changes.Edit = alike

-- ---- all of them

doc_is : (one other : DocId) → (one.0 == other.0) ≡ true → one ≡ other
doc_is one other e =
    let number : one.0 ≡ other.0 = grind (arith, nat_tests, e) in
    ap (λ (n : ℕ). let doc : DocId = record { 0 = n } in doc) number

module _ (s : Seen) (P : DocId → Type 0) where
  -- each of these with the property was there so
  abbrev pub WereSo : List Document → Type 0
  WereSo documents = (doc : DocId) (d : Document) → P doc → find (λ (x : Document). x.nr.0 == doc.0) documents ≡ Some d → WasDocument s doc d

  -- those of the log itself
  pub were_so : WereSo s.documents
  were_so doc d for found = record { old = d; found = found; nav = refl; state = refl; slot = refl }

  -- each is changed
  documents_map : (documents : List Document) (f : Document → Document) → KeepsAlike f → WereSo documents → WereSo (map f documents)
  documents_map documents f keeps were doc d for found =
      by_found (find (λ (x : Document). x.nr.0 == doc.0) documents) refl (sym (find_map (λ (x : Document). x.nr.0) f doc.0 documents (λ x. sym (keeps x).nr)) ∙ found)
    where
      by_found : (o : Option Document) → find (λ (x : Document). x.nr.0 == doc.0) documents ≡ o → option_map f o ≡ Some d → WasDocument s doc d
      by_found None e never = absurd cc
      by_found (Some x) e is =
          let same : f x ≡ d = cc in
          let was : WasDocument s doc x = were doc x for e in
          record {
            old = was.old;
            found = was.found;
            nav = was.nav ∙ (keeps x).nav ∙ ap (λ (y : Document). y.nav) same;
            state = was.state ∙ (keeps x).state ∙ ap (λ (y : Document). y.state) same;
            slot = was.slot ∙ (keeps x).slot ∙ ap (λ (y : Document). y.slot) same;
          }

  documents_on : (doc : DocId) (documents : List Document) (f : Document → Document) → KeepsAlike f → WereSo documents → WereSo (on_document doc f documents)
  documents_on doc documents f keeps were = documents_map documents _ (alike_if (λ d. d.nr.0 == doc.0) f keeps) were

  -- one without it has a handler then
  documents_slot : (at : DocId) (slot : Option ℕ) (documents : List Document) → (P at → ⊥) → WereSo documents → WereSo (on_document at (λ d. record d { slot = slot }) documents)
  documents_slot at slot documents un were doc d for found =
      by_number (at.0 == doc.0) refl
    where
      -- another one is as it was
      other : (at.0 == doc.0) ≡ false → (l : List Document) → find (λ (x : Document). x.nr.0 == doc.0) (on_document at (λ x. record x { slot = slot }) l) ≡ find (λ (x : Document). x.nr.0 == doc.0) l
      other apart [] = refl
      other apart (x ∷ l) = by_own (x.nr.0 == at.0) refl (other apart l)
        where
          by_own : (b : Bool) → (x.nr.0 == at.0) ≡ b → find (λ (y : Document). y.nr.0 == doc.0) (on_document at (λ y. record y { slot = slot }) l) ≡ find (λ (y : Document). y.nr.0 == doc.0) l → find (λ (y : Document). y.nr.0 == doc.0) (cond b (record x { slot = slot }) x ∷ on_document at (λ y. record y { slot = slot }) l) ≡ cond (x.nr.0 == doc.0) (Some x) (find (λ (y : Document). y.nr.0 == doc.0) l)
          by_own true e rest =
              let no_ : (x.nr.0 == doc.0) ≡ false = grind (arith, nat_tests, e, apart) in
              rw no_ rest
          by_own false e rest = ap (λ (o : Option Document). cond (x.nr.0 == doc.0) (Some x) o) rest

      by_number : (b : Bool) → (at.0 == doc.0) ≡ b → WasDocument s doc d
      by_number true e = absurd (un (subst P (sym (doc_is at doc e)) for))
      by_number false e = were doc d for (sym (other e documents) ∙ found)

  -- one without it joins
  documents_more : (documents : List Document) (new : Document) → (P new.nr → ⊥) → WereSo documents → WereSo (documents ++ new ∷ [])
  documents_more documents new un were doc d for found = were doc d for (there documents found)
    where
      there : (l : List Document) → find (λ (x : Document). x.nr.0 == doc.0) (l ++ new ∷ []) ≡ Some d → find (λ (x : Document). x.nr.0 == doc.0) l ≡ Some d
      there [] is = by_own (new.nr.0 == doc.0) refl is
        where
          by_own : (b : Bool) → (new.nr.0 == doc.0) ≡ b → (let o : Option Document = cond b (Some new) None in o) ≡ Some d → None ≡ Some d
          by_own true e h = absurd (un (subst P (sym (doc_is new.nr doc e)) for))
          by_own false e h = h
      there (x ∷ l) is = by_first (x.nr.0 == doc.0) is (there l)
        where
          by_first : (b : Bool) → cond b (Some x) (find (λ (y : Document). y.nr.0 == doc.0) (l ++ new ∷ [])) ≡ Some d → (find (λ (y : Document). y.nr.0 == doc.0) (l ++ new ∷ []) ≡ Some d → find (λ (y : Document). y.nr.0 == doc.0) l ≡ Some d) → cond b (Some x) (find (λ (y : Document). y.nr.0 == doc.0) l) ≡ Some d
          by_first true h rest = h
          by_first false h rest = rest h

  -- an order is sent to one that is there
  pub documents_addressed : (job : Job) (task : Task) → WereSo (on_document job.doc (addressed task) s.documents)
  documents_addressed job task =
      documents_on job.doc s.documents (addressed task) (λ d. record { nr = refl; nav = refl; state = refl; slot = refl }) were_so

-- ---- rows

module _ (s : Seen) where
  abbrev for : DocId → Type 0
  for doc = IsAwakeFor s doc

  -- each of these on which a navigable was awake as a request began was there so
  abbrev pub WereDocuments : List Document → Type 0
  WereDocuments documents = WereSo s for documents

  -- those of the log itself
  pub were_documents : WereDocuments s.documents
  were_documents = were_so s for

  -- a change of the history
  pub documents_applied : (change : Change) → WereDocuments (map (λ d. applied_to change (told_after_change d change)) s.documents)
  documents_applied change =
      documents_map s for s.documents _ (alike_then (λ d. told_after_change d change) (applied_to change) (told_alike change) (applied_alike change)) were_documents

  -- a navigable is awake on no document that is to be made
  abbrev pub MakesUnawake : Job → Task → Type 0
  MakesUnawake job (tasks.Populate nav state address initial) = IsUnawake s job.doc
  MakesUnawake job _ = Unit {0}

  -- an order is sent
  pub documents_told : (job : Job) (task : Task) → MakesUnawake job task → WereDocuments (documents_sent s job task)
  documents_told job (tasks.Populate nav state address initial) un = documents_more s for s.documents (new_document s job nav state) (unawake s job.doc un) were_documents
  documents_told job tasks.Discard un =
      documents_on s for job.doc s.documents _ (λ d. record { nr = refl; nav = refl; state = refl; slot = refl }) were_documents
  documents_told job (tasks.Activate entry epoch length index memo address) un = documents_addressed s for job (tasks.Activate entry epoch length index memo address)
  documents_told job (tasks.Update length index) un = documents_addressed s for job (tasks.Update length index)
  documents_told job tasks.Freeze un = documents_addressed s for job tasks.Freeze
  documents_told job (tasks.Ask slot cause) un = documents_addressed s for job (tasks.Ask slot cause)
  documents_told job (tasks.DoFragment req mode address) un = documents_addressed s for job (tasks.DoFragment req mode address)

  -- a navigable is awake on no document that is made
  abbrev pub FillsUnawake : Option Job → Outcome → Type 0
  FillsUnawake (Some job) (outcomes.Populated slot) = IsUnawake s job.doc
  FillsUnawake _ _ = Unit {0}

  -- an order is finished
  pub documents_done : (hand : Option Job) (outcome : Outcome) → FillsUnawake hand outcome → WereDocuments (slot_finished (documents_finished s.documents hand) hand outcome)
  documents_done None outcome un = were_documents
  documents_done (Some job) outcome un = by_outcome outcome un
    where
      viewed : WereDocuments (documents_finished s.documents (Some job))
      viewed =
          documents_on s for job.doc s.documents _ (λ d. record { nr = refl; nav = refl; state = refl; slot = refl }) were_documents

      by_outcome : (o : Outcome) → FillsUnawake (Some job) o → WereDocuments (slot_finished (documents_finished s.documents (Some job)) (Some job) o)
      by_outcome (outcomes.Populated slot) un = documents_slot s for job.doc slot (documents_finished s.documents (Some job)) (unawake s job.doc un) viewed
      by_outcome outcomes.Activated un = viewed
      by_outcome outcomes.Updated un = viewed
      by_outcome outcomes.Frozen un = viewed
      by_outcome outcomes.Discarded un = viewed
      by_outcome (outcomes.Asked verdict) un = viewed
      by_outcome outcomes.Fragmented un = viewed

  -- a document makes something
  pub documents_made : (proc : ProcId) (made : Made) → WereDocuments (documents_after s (rows.Made proc made))
  documents_made proc made =
      documents_on s for made.doc s.documents _ (λ d. record { nr = refl; nav = refl; state = refl; slot = refl }) were_documents

  -- a process dies
  pub documents_dead : (proc : ProcId) (death : Death) → WereDocuments (documents_killed s proc death)
  documents_dead proc death =
      documents_map s for s.documents _ (alike_if _ (λ d. record d { dead_by = Some death; view = None }) (λ d. record { nr = refl; nav = refl; state = refl; slot = refl })) were_documents

  -- a report is delivered
  pub documents_heard : (report : Option Report) → WereDocuments (documents_delivered s.documents report)
  documents_heard None = were_documents
  documents_heard (Some (reports.Made made)) = were_documents
  documents_heard (Some (reports.Died death)) =
      documents_map s for s.documents _ (alike_if _ (λ d. record d { is_known_dead = true }) (λ d. record { nr = refl; nav = refl; state = refl; slot = refl })) were_documents
  documents_heard (Some (reports.Done job outcome made)) = by_outcome outcome
    where
      by_outcome : (o : Outcome) → WereDocuments (documents_delivered s.documents (Some (reports.Done job o made)))
      by_outcome (outcomes.Populated slot) =
          documents_on s for job.doc s.documents _ (λ d. record { nr = refl; nav = refl; state = refl; slot = refl }) were_documents
      by_outcome outcomes.Activated = were_documents
      by_outcome outcomes.Updated = were_documents
      by_outcome outcomes.Frozen = were_documents
      by_outcome outcomes.Discarded = were_documents
      by_outcome (outcomes.Asked verdict) = were_documents
      by_outcome outcomes.Fragmented = were_documents
