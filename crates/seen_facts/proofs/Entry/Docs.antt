-- Documents that keep number, process, last applied entry and how many entries their view has numbered, over each row that makes none and applies nothing of theirs.
use Rattle.std.proofs.Common.{◌≡◌, inl, inr, ℕ, Bool, true, false, cond, ◌==◌, List, [], ◌∷◌, map, Option, Some, None, refl, sym, ap, ◌∙◌}
use Rattle.std.specs.Prelude.{option_map}
use Rattle.std.proofs.lemmas.Bool.{eqb-true}
use Rattle.tab_ids.specs.declared.DocId.{DocId}
use Rattle.log_model.specs.declared.job.Job.{Job}
use Rattle.log_model.specs.declared.job.Task.{Task}
use Rattle.log_model.specs.declared.job.Task.TheVariants as tasks
use Rattle.log_model.specs.declared.made.Report.{Report}
use Rattle.log_model.specs.declared.made.Report.TheVariants as reports
use Rattle.log_model.specs.declared.outcome.Outcome.{Outcome}
use Rattle.log_model.specs.declared.outcome.Outcome.TheVariants as outcomes
use Rattle.log_model.specs.AfterDocuments.{addressed, documents_delivered, documents_finished, documents_sent, on_document, slot_finished, view_finished}
use Rattle.log_model.specs.AfterPlaces.{is_dead_by}
use Rattle.log_model.specs.Seen.{Seen, Document}
use Rattle.log_model.specs.Views.{View, after_task}
use Rattle.seen_facts.proofs.Hang.Members.{find_has}
use Rattle.seen_facts.specs.Home.Homes.{document_in}
use Rattle.seen_facts.proofs.Entry.Parts.{KeepsDoc, itself_keeps, keeps_if, map_itself, view_stays}
use Rattle.seen_facts.proofs.Entry.Stays.{IsNumberedSo, some_same}

-- the document of a number, by a number that is equal
pub its_own : (documents : List Document) (doc other : DocId) (d : Document) → document_in documents doc ≡ Some d → (d.nr.0 == other.0) ≡ true → document_in documents other ≡ Some d
its_own documents doc other d found e =
    let number : d.nr.0 ≡ doc.0 = eqb-true d.nr.0 doc.0 (find_has (λ (x : Document). x.nr.0 == doc.0) documents d found).1 in
    let same : doc.0 ≡ other.0 = sym number ∙ eqb-true d.nr.0 other.0 e in
    ap (λ (n : ℕ). document_in documents (record { 0 = n })) (sym same) ∙ found

-- what each becomes
pub record DocsAre (documents next : List Document) : Type 0 where
  pub g : Document → Document
  pub keeps : KeepsDoc g
  pub applied : (d : Document) → (g d).last_applied ≡ d.last_applied
  pub are : next ≡ map g documents
  pub views : (doc : DocId) (d : Document) → document_in documents doc ≡ Some d → (view : View) → (g d).view ≡ Some view → IsNumberedSo d view.numbered

pub docs_same : (documents : List Document) → DocsAre documents documents
docs_same documents = record { g = λ d. d; keeps = itself_keeps; applied = λ d. refl; are = map_itself documents; views = λ doc d found. view_stays d }

-- one that leaves its view
pub record KeepsView (f : Document → Document) : Type 0 where
  pub keeps : KeepsDoc f
  pub applied : (d : Document) → (f d).last_applied ≡ d.last_applied
  pub view : (d : Document) → (f d).view ≡ d.view

pub view_if : (test : Document → Bool) (f : Document → Document) → KeepsView f → KeepsView (λ (d : Document). cond (test d) (f d) d)
view_if test f same =
    record {
      keeps = keeps_if test f same.keeps;
      applied = λ d. elim (test d) as (λ b. (let x : Document = cond b (f d) d in x).last_applied ≡ d.last_applied) [ true ↦ same.applied d | false ↦ refl ];
      view = λ d. elim (test d) as (λ b. (let x : Document = cond b (f d) d in x).view ≡ d.view) [ true ↦ same.view d | false ↦ refl ];
    }

pub docs_left : (documents : List Document) (f : Document → Document) → KeepsView f → DocsAre documents (map f documents)
docs_left documents f same =
    record { g = f; keeps = same.keeps; applied = same.applied; are = refl; views = λ doc d found view has. view_stays d view (sym (same.view d) ∙ has) }

map_both : (f g : Document → Document) (documents : List Document) → map g (map f documents) ≡ map (λ (d : Document). g (f d)) documents
map_both f g [] = refl
map_both f g (d ∷ documents) = ap (λ (l : List Document). g (f d) ∷ l) (map_both f g documents)

pub docs_then : (documents mid : List Document) (f : Document → Document) → DocsAre documents mid → KeepsView f → DocsAre documents (map f mid)
docs_then documents mid f one same =
    record {
      g = λ d. f (one.g d);
      keeps = record { nr = λ d. same.keeps.nr (one.g d) ∙ one.keeps.nr d; proc = λ d. same.keeps.proc (one.g d) ∙ one.keeps.proc d; ready = λ d e. one.keeps.ready d (same.keeps.ready (one.g d) e) };
      applied = λ d. same.applied (one.g d) ∙ one.applied d;
      are = ap (λ (l : List Document). map f l) one.are ∙ map_both one.g f documents;
      views = λ doc d found view has. one.views doc d found view (sym (same.view (one.g d)) ∙ has);
    }

pub at_leaves : (doc : DocId) (f : Document → Document) (documents : List Document) → KeepsView f → DocsAre documents (on_document doc f documents)
at_leaves doc f documents same = docs_left documents (λ (d : Document). cond (d.nr.0 == doc.0) (f d) d) (view_if (λ (d : Document). d.nr.0 == doc.0) f same)

-- ---- a finished order

-- an order that makes a document is of one that isn't made yet
abbrev pub IsOfUnmade : Task → Document → Type 0
IsOfUnmade (tasks.Populate nav state address initial) d = d.is_ready ≡ false
IsOfUnmade _ d = Unit {0}

-- so it is of the order's document
abbrev pub MakesUnmade : List Document → Job → Type 0
MakesUnmade documents job = (d : Document) → document_in documents job.doc ≡ Some d → IsOfUnmade job.task d

by_view : (d : Document) (task : Task) → ((view : View) → (after_task view task).numbered ≡ view.numbered) → (o : Option View) → d.view ≡ o → (view : View) → option_map (λ (v : View). after_task v task) o ≡ Some view → IsNumberedSo d view.numbered
by_view d task same None e view h = absurd cc
by_view d task same (Some old) e view h = inr (old, e, sym (same old) ∙ ap (λ (v : View). v.numbered) (some_same h))

finished_view : (d : Document) (task : Task) → IsOfUnmade task d → (view : View) → view_finished d task ≡ Some view → IsNumberedSo d view.numbered
finished_view d (tasks.Populate nav state address initial) unready view has = inl unready
finished_view d tasks.Discard fits view has = absurd cc
finished_view d (tasks.DoFragment req mode address) fits view has = view_stays d view has
finished_view d (tasks.Activate entry epoch length index memo address) fits view has = by_view d (tasks.Activate entry epoch length index memo address) (λ v. refl) d.view refl view has
finished_view d (tasks.Update length index) fits view has = by_view d (tasks.Update length index) (λ v. refl) d.view refl view has
finished_view d tasks.Freeze fits view has = by_view d tasks.Freeze (λ v. refl) d.view refl view has
finished_view d (tasks.Ask slot cause) fits view has = by_view d (tasks.Ask slot cause) (λ v. refl) d.view refl view has

abbrev viewed : Job → Document → Document
viewed job d = record d { view = view_finished d job.task }

finished_by : (documents : List Document) (job : Job) → MakesUnmade documents job → DocsAre documents (documents_finished documents (Some job))
finished_by documents job makes =
    record {
      g = λ d. cond (d.nr.0 == job.doc.0) (viewed job d) d;
      keeps = keeps_if (λ (d : Document). d.nr.0 == job.doc.0) (viewed job) (record { nr = λ d. refl; proc = λ d. refl; ready = λ d e. e });
      applied = λ d. elim (d.nr.0 == job.doc.0) as (λ b. (let x : Document = cond b (viewed job d) d in x).last_applied ≡ d.last_applied) [ true ↦ refl | false ↦ refl ];
      are = refl;
      views = λ doc d found view has. by_test doc d found view (d.nr.0 == job.doc.0) refl has;
    }
  where
    by_test : (doc : DocId) (d : Document) → document_in documents doc ≡ Some d → (view : View) (b : Bool) → (d.nr.0 == job.doc.0) ≡ b → (let x : Document = cond b (viewed job d) d in x).view ≡ Some view → IsNumberedSo d view.numbered
    by_test doc d found view true e has = finished_view d job.task (makes d (its_own documents doc job.doc d found e)) view has
    by_test doc d found view false e has = view_stays d view has

pub finished_docs : (documents : List Document) (hand : Option Job) (outcome : Outcome) → ((job : Job) → hand ≡ Some job → MakesUnmade documents job) → DocsAre documents (slot_finished (documents_finished documents hand) hand outcome)
finished_docs documents None (outcomes.Populated slot) makes = docs_same documents
finished_docs documents None outcomes.Activated makes = docs_same documents
finished_docs documents None outcomes.Updated makes = docs_same documents
finished_docs documents None outcomes.Frozen makes = docs_same documents
finished_docs documents None outcomes.Discarded makes = docs_same documents
finished_docs documents None (outcomes.Asked verdict) makes = docs_same documents
finished_docs documents None outcomes.Fragmented makes = docs_same documents
finished_docs documents (Some job) outcome makes = by_outcome outcome
  where
    seen : DocsAre documents (documents_finished documents (Some job))
    seen = finished_by documents job (makes job refl)

    by_outcome : (u : Outcome) → DocsAre documents (slot_finished (documents_finished documents (Some job)) (Some job) u)
    by_outcome (outcomes.Populated slot) =
        docs_then documents (documents_finished documents (Some job)) (λ (d : Document). cond (d.nr.0 == job.doc.0) (record d { slot = slot }) d) seen (view_if (λ (d : Document). d.nr.0 == job.doc.0) (λ (d : Document). record d { slot = slot }) (record { keeps = record { nr = λ d. refl; proc = λ d. refl; ready = λ d e. e }; applied = λ d. refl; view = λ d. refl }))
    by_outcome outcomes.Activated = seen
    by_outcome outcomes.Updated = seen
    by_outcome outcomes.Frozen = seen
    by_outcome outcomes.Discarded = seen
    by_outcome (outcomes.Asked verdict) = seen
    by_outcome outcomes.Fragmented = seen

-- ---- a delivered report

pub delivered_docs : (documents : List Document) (report : Option Report) → DocsAre documents (documents_delivered documents report)
delivered_docs documents None = docs_same documents
delivered_docs documents (Some (reports.Made made)) = docs_same documents
delivered_docs documents (Some (reports.Died death)) =
    docs_left documents (λ (d : Document). cond (is_dead_by death d) (record d { is_known_dead = true }) d) (view_if (λ (d : Document). is_dead_by death d) (λ (d : Document). record d { is_known_dead = true }) (record { keeps = record { nr = λ d. refl; proc = λ d. refl; ready = λ d e. e }; applied = λ d. refl; view = λ d. refl }))
delivered_docs documents (Some (reports.Done job outcome made)) = by_outcome outcome
  where
    by_outcome : (u : Outcome) → DocsAre documents (documents_delivered documents (Some (reports.Done job u made)))
    by_outcome (outcomes.Populated slot) = at_leaves job.doc (λ (d : Document). record d { is_ready = true; is_fresh = true }) documents (record { keeps = record { nr = λ d. refl; proc = λ d. refl; ready = λ d e. (let never : true ≡ false = e in absurd cc) }; applied = λ d. refl; view = λ d. refl })
    by_outcome outcomes.Activated = docs_same documents
    by_outcome outcomes.Updated = docs_same documents
    by_outcome outcomes.Frozen = docs_same documents
    by_outcome outcomes.Discarded = docs_same documents
    by_outcome (outcomes.Asked verdict) = docs_same documents
    by_outcome outcomes.Fragmented = docs_same documents

-- ---- an order that makes no document

-- it makes none
abbrev pub MakesNone : Task → Type 0
MakesNone (tasks.Populate nav state address initial) = ⊥
MakesNone _ = Unit {0}

told_docs : (s : Seen) (job : Job) (task : Task) → DocsAre s.documents (on_document job.doc (addressed task) s.documents)
told_docs s job task = at_leaves job.doc (addressed task) s.documents (record { keeps = record { nr = λ d. refl; proc = λ d. refl; ready = λ d e. e }; applied = λ d. refl; view = λ d. refl })

pub sent_docs : (s : Seen) (job : Job) (task : Task) → MakesNone task → DocsAre s.documents (documents_sent s job task)
sent_docs s job (tasks.Populate nav state address initial) never = absurd never
sent_docs s job (tasks.Activate entry epoch length index memo address) none = told_docs s job (tasks.Activate entry epoch length index memo address)
sent_docs s job (tasks.Update length index) none = told_docs s job (tasks.Update length index)
sent_docs s job tasks.Freeze none = told_docs s job tasks.Freeze
sent_docs s job tasks.Discard none = at_leaves job.doc (λ (d : Document). record d { is_discarded = true }) s.documents (record { keeps = record { nr = λ d. refl; proc = λ d. refl; ready = λ d e. e }; applied = λ d. refl; view = λ d. refl })
sent_docs s job (tasks.Ask slot cause) none = told_docs s job (tasks.Ask slot cause)
sent_docs s job (tasks.DoFragment req mode address) none = told_docs s job (tasks.DoFragment req mode address)
