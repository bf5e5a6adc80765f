-- How the tables of desks and views go with what the log has come to.
use Rattle.std.proofs.Common.{◌≡◌, ℕ, Bool, true, false, cond, ◌==◌, List, Option, Some, None, refl, sym, ap, ◌∙◌, subst, arith}
use Rattle.std.specs.Prelude.{option_and_then, option_map, if◌then◌else◌}
use Rattle.std.proofs.lemmas.Bool.Decides.{nat_tests}
use Rattle.tab_ids.specs.declared.DocId.{DocId}
use Rattle.tab_ids.specs.declared.ProcId.{ProcId}
use Rattle.log_model.specs.Seen.{Seen, Desk, Document, desk_of}
use Rattle.log_model.specs.Views.{View}
use Rattle.proc_tables.specs.Desks.{Changes, desk_at, on_proc}
use Rattle.log_model.specs.AfterDocuments.{on_document}
use Rattle.proc_tables.specs.Views.{view_at}
use Rattle.seen_laws.proofs.Keyed.{find_map, find_on_other, find_on_same}
use Rattle.world.specs.Shows.{Shows}
use Rattle.world.proofs.FaceLaws.{document_in, process_found, view_found}

-- ---- desks

-- two changes that do the same to the desk of a process
agrees : (of proc : ProcId) (g f : Desk → Desk) (desks : ProcId → Desk) → g (desks of) ≡ f (desks of) → on_proc of g proc (desks proc) ≡ on_proc of f proc (desks proc)
agrees of proc g f desks same = by_test (of.0 == proc.0) refl
  where
    by_test : (b : Bool) → (of.0 == proc.0) ≡ b → on_proc of g proc (desks proc) ≡ on_proc of f proc (desks proc)
    by_test true e =
        let n : of.0 ≡ proc.0 = grind (arith, nat_tests, e) in
        let at : of ≡ proc = ap (λ (i : ℕ). let p : ProcId = record { 0 = i } in p) n in
        rw e (subst (λ (p : ProcId). g (desks p) ≡ f (desks p)) at same)
    by_test false e = rw e refl

-- what a row does to the desk of one process, a change of the table does, too
pub desks_go : (s : Seen) (old new : List (ProcId × Desk)) (of : ProcId) (g f : Desk → Desk) → ((proc : ProcId) → desk_of s proc ≡ desk_at old proc) → g (desk_at old of) ≡ f (desk_at old of) → Changes of f old new → (proc : ProcId) → on_proc of g proc (desk_of s proc) ≡ desk_at new proc
desks_go s old new of g f holds same changes proc =
    ap (λ (d : Desk). on_proc of g proc d) (holds proc) ∙ (agrees of proc g f (desk_at old) same ∙ sym (changes proc))

-- one change, and then another
pub changes_then : (of : ProcId) (f g : Desk → Desk) (a b c : List (ProcId × Desk)) → Changes of f a b → Changes of g b c → Changes of (λ d. g (f d)) a c
changes_then of f g a b c first second proc =
    second proc ∙ (ap (λ (d : Desk). on_proc of g proc d) (first proc) ∙ by_test (of.0 == proc.0))
  where
    by_test : (here : Bool) → cond here (g (cond here (f (desk_at a proc)) (desk_at a proc))) (cond here (f (desk_at a proc)) (desk_at a proc)) ≡ cond here (g (f (desk_at a proc))) (desk_at a proc)
    by_test true = refl
    by_test false = refl

-- ---- documents of which one has another view

module _ (documents : List Document) (of : DocId) (f : Document → Option View) where
  abbrev pub viewed : Document → Document
  viewed d = record d { view = f d }

  pub viewed_on : (doc : DocId) → view_found (on_document of viewed documents) doc ≡ cond (of.0 == doc.0) (option_and_then f (document_in documents of)) (view_found documents doc)
  viewed_on doc = by_test (of.0 == doc.0) refl
    where
      by_found : (o : Option Document) → option_and_then (λ (x : Document). x.view) (option_map viewed o) ≡ option_and_then f o
      by_found None = refl
      by_found (Some d) = refl

      own : view_found (on_document of viewed documents) of ≡ option_and_then f (document_in documents of)
      own =
          ap (λ (o : Option Document). option_and_then (λ (x : Document). x.view) o) (find_on_same (λ (d : Document). d.nr.0) viewed of.0 documents (λ d. refl))
          ∙ by_found (document_in documents of)

      by_test : (b : Bool) → (of.0 == doc.0) ≡ b → view_found (on_document of viewed documents) doc ≡ cond b (option_and_then f (document_in documents of)) (view_found documents doc)
      by_test true e =
          let n : of.0 ≡ doc.0 = grind (arith, nat_tests, e) in
          let at : of ≡ doc = ap (λ (i : ℕ). let x : DocId = record { 0 = i } in x) n in
          subst (λ (x : DocId). view_found (on_document of viewed documents) x ≡ option_and_then f (document_in documents of)) at own
      by_test false e =
          ap (λ (o : Option Document). option_and_then (λ (x : Document). x.view) o) (find_on_other (λ (d : Document). d.nr.0) viewed of.0 doc.0 documents (λ d. refl) e)

  -- the table goes with it
  pub views_on : (views new : List (DocId × View)) (view : Option View) → ((doc : DocId) → view_found documents doc ≡ view_at views doc) → option_and_then f (document_in documents of) ≡ view → Shows of view views new → (doc : DocId) → view_found (on_document of viewed documents) doc ≡ view_at new doc
  views_on views new view holds is shows doc =
      viewed_on doc
      ∙ (ap (λ (o : Option View). cond (of.0 == doc.0) o (view_found documents doc)) is
      ∙ (ap (λ (o : Option View). cond (of.0 == doc.0) view o) (holds doc) ∙ sym (shows doc)))

  -- each is in its process
  pub placed_on : (doc : DocId) → process_found (on_document of viewed documents) doc ≡ process_found documents doc
  placed_on doc =
      ap (λ (o : Option Document). option_map (λ (d : Document). d.proc) o) (find_map (λ (d : Document). d.nr.0) (λ d. if d.nr.0 == of.0 then viewed d else d) doc.0 documents (λ d. same_number d (d.nr.0 == of.0)))
      ∙ by_found (document_in documents doc)
    where
      same_number : (d : Document) (b : Bool) → (let x : Document = cond b (viewed d) d in x).nr.0 ≡ d.nr.0
      same_number d true = refl
      same_number d false = refl

      same_process : (d : Document) (b : Bool) → (let x : Document = cond b (viewed d) d in x).proc ≡ d.proc
      same_process d true = refl
      same_process d false = refl

      by_found : (o : Option Document) → option_map (λ (d : Document). d.proc) (option_map (λ (d : Document). if d.nr.0 == of.0 then viewed d else d) o) ≡ option_map (λ (d : Document). d.proc) o
      by_found None = refl
      by_found (Some d) = ap (λ (p : ProcId). let o : Option ProcId = Some p in o) (same_process d (d.nr.0 == of.0))
