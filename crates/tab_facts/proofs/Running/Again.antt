-- Rows that leave of each document whether it runs, and the orders that come to it.
use Rattle.seen_facts.specs.Coord.Leading.{orders_for}
use Rattle.log_model.specs.AfterDocuments.{on_document}
use Rattle.log_model.specs.Seen.{Document, Seen, desk_of, document_of}
use Rattle.seen_facts.proofs.Rest.Again.{was_of}
use Rattle.seen_facts.specs.Rest.Resting.{runs_in}
use Rattle.tab_facts.proofs.Running.Lists.{finds_alike}
use Rattle.tab_facts.specs.Running.Running.{AreFoundRunning, IsFoundRunning}
use Rattle.std.proofs.Common.{Bool, List, Some, ap, cond, false, map, refl, subst, sym, true, ◌==◌, ◌∙◌, ◌≡◌}
use Rattle.std.proofs.lemmas.List.{map-id}
use Rattle.tab_ids.specs.declared.DocId.{DocId}
use Rattle.tab_ids.specs.declared.ProcId.{ProcId}

-- ---- documents that change

-- a change that leaves number, process, and whether the view runs
pub record KeepsRun (g : Document → Document) : Type 0 where
  pub nr : (d : Document) → (g d).nr ≡ d.nr
  pub proc : (d : Document) → (g d).proc ≡ d.proc
  pub runs : (d : Document) → runs_in (g d).view ≡ runs_in d.view

pub keeps_if : (test : Document → Bool) (f : Document → Document) → KeepsRun f → KeepsRun (λ (d : Document). cond (test d) (f d) d)
keeps_if test f keeps =
    record {
      nr = λ d. elim (test d) as (λ b. (let x : Document = cond b (f d) d in x).nr ≡ d.nr) [ true ↦ keeps.nr d | false ↦ refl ];
      proc = λ d. elim (test d) as (λ b. (let x : Document = cond b (f d) d in x).proc ≡ d.proc) [ true ↦ keeps.proc d | false ↦ refl ];
      runs = λ d. elim (test d) as (λ b. runs_in (let x : Document = cond b (f d) d in x).view ≡ runs_in d.view) [ true ↦ keeps.runs d | false ↦ refl ];
    }

-- so the documents have changed
pub record AreKeptRunning (documents next : List Document) : Type 0 where
  pub g : Document → Document
  pub keeps : KeepsRun g
  pub are : next ≡ map g documents

pub kept_same : (documents : List Document) → AreKeptRunning documents documents
kept_same documents =
    record { g = λ d. d; keeps = record { nr = λ d. refl; proc = λ d. refl; runs = λ d. refl }; are = sym (map-id documents) }

pub kept_on : (doc : DocId) (f : Document → Document) (documents : List Document) → KeepsRun f → AreKeptRunning documents (on_document doc f documents)
kept_on doc f documents keeps =
    record {
      g = λ (d : Document). cond (d.nr.0 == doc.0) (f d) d;
      keeps = keeps_if (λ (d : Document). d.nr.0 == doc.0) f keeps;
      are = refl;
    }

-- ---- from one state to another

-- each document is changed, and is found running again
pub found_by : (s t : Seen) (g : Document → Document) → ((d : Document) → (g d).nr ≡ d.nr) → t.documents ≡ map g s.documents → ((doc : DocId) (d : Document) → document_of s doc ≡ Some d → IsFoundRunning (desk_of t (g d).proc) (g d)) → AreFoundRunning t
found_by s t g nr documents again doc d found =
    let w = was_of s t g nr documents doc d found in
    subst (λ (x : Document). IsFoundRunning (desk_of t x.proc) x) w.is (again doc w.before w.there)

-- where the orders that come to each document stay
pub kept_running : (s t : Seen) → AreKeptRunning s.documents t.documents → ((proc : ProcId) (doc : DocId) → orders_for (desk_of t proc) doc ≡ orders_for (desk_of s proc) doc) → AreFoundRunning s → AreFoundRunning t
kept_running s t kept orders are =
    found_by s t kept.g kept.keeps.nr kept.are
    (λ doc d there. finds_alike (desk_of s d.proc) (desk_of t (kept.g d).proc) d (kept.g d) (ap (λ (p : ProcId). orders_for (desk_of t p) (kept.g d).nr) (kept.keeps.proc d) ∙ ap (λ (n : DocId). orders_for (desk_of t d.proc) n) (kept.keeps.nr d) ∙ orders d.proc d.nr) (kept.keeps.runs d) (are doc d there))
