-- The navigable and the process of each document that was ever made, as a document changes or one more comes; and the process to which its orders go.
use Rattle.tab_doors.proofs.Keyed.{put_apart, put_itself}
use Rattle.tab_doors.proofs.Sights.{KeepsNumber, found_before, found_last, found_other, found_same, sight_of, sights_on}
use Rattle.tab_doors.specs.Look.{Sight, sight, sight_in}
use Rattle.tab_doors.specs.Orders.{proc_at}
use Rattle.tab_doors.specs.Ties.{AreWhose, birth_of, is_doc, proc_in}
use Rattle.tab_doors.specs.declared.birth.Birth.{Birth}
use Rattle.indexmap.specs.IndexMap.{insert_entry}
use Rattle.std.proofs.Common.{Bool, List, None, Option, Some, [], ap, arith, false, map, refl, subst, sym, true, ℕ, ◌++◌, ◌==◌, ◌∙◌, ◌∷◌, ◌≡◌}
use Rattle.std.proofs.lemmas.Bool.Decides.{nat_tests}
use Rattle.log_model.specs.Seen.{Document, Seen, document_of}
use Rattle.std.specs.Map.{lookup}
use Rattle.std.specs.Option.{IsSome}
use Rattle.std.specs.Prelude.{option_map}
use Rattle.tab_ids.specs.declared.DocId.{DocId}
use Rattle.tab_ids.specs.declared.ProcId.{ProcId}

module _ (documents : List Sight) (was : List (DocId × Birth)) (whose : AreWhose documents was) (new : List Sight) (now : List (DocId × Birth)) where
  -- neither changes
  pub whose_same : now ≡ was → new ≡ documents → AreWhose new now
  whose_same same are = subst (λ (l : List (DocId × Birth)). AreWhose new l) (sym same) (subst (λ (l : List Sight). AreWhose l was) (sym are) whose)

  -- a document changes but in its navigable and its process
  pub whose_on : (doc : DocId) (g : Sight → Sight) → now ≡ was → new ≡ sights_on doc g documents → KeepsNumber g → ((d : Sight) → birth_of (g d) ≡ birth_of d) → AreWhose new now
  whose_on doc g same are keeps births other =
      ap (λ (l : List (DocId × Birth)). lookup (is_doc other) l) same ∙ whose other ∙ sym (ap (λ (l : List Sight). option_map birth_of (sight_in l other)) are ∙ by_test (doc.0 == other.0) refl)
    where
      mapped : (o : Option Sight) → option_map birth_of (option_map g o) ≡ option_map birth_of o
      mapped None = refl
      mapped (Some d) = ap (λ (b : Birth). let o : Option Birth = Some b in o) (births d)

      by_test : (b : Bool) → (doc.0 == other.0) ≡ b → option_map birth_of (sight_in (sights_on doc g documents) other) ≡ option_map birth_of (sight_in documents other)
      by_test true is =
          let it : doc ≡ other = ap (λ (n : ℕ). let d : DocId = record { 0 = n } in d) (grind (arith, nat_tests, is)) in
          ap (λ (x : DocId). option_map birth_of (sight_in (sights_on x g documents) other)) it
          ∙ ap (option_map birth_of) (found_same documents other g keeps)
          ∙ mapped (sight_in documents other)
      by_test false is = ap (option_map birth_of) (found_other documents doc other g keeps is)

  -- a document more, which is noted with its navigable and its process
  pub whose_more : (d : Sight) → now ≡ insert_entry is_doc was d.nr (birth_of d) → new ≡ documents ++ d ∷ [] → sight_in documents d.nr ≡ None → AreWhose new now
  whose_more d noted are unknown other =
      ap (λ (l : List (DocId × Birth)). lookup (is_doc other) l) noted ∙ by_test (d.nr.0 == other.0) refl ∙ sym (ap (λ (l : List Sight). option_map birth_of (sight_in l other)) are)
    where
      by_test : (b : Bool) → (d.nr.0 == other.0) ≡ b → lookup (is_doc other) (insert_entry is_doc was d.nr (birth_of d)) ≡ option_map birth_of (sight_in (documents ++ d ∷ []) other)
      by_test true is =
          let it : d.nr ≡ other = ap (λ (n : ℕ). let x : DocId = record { 0 = n } in x) (grind (arith, nat_tests, is)) in
          subst (λ (x : DocId). lookup (is_doc x) (insert_entry is_doc was d.nr (birth_of d)) ≡ option_map birth_of (sight_in (documents ++ d ∷ []) x)) it (put_itself (λ (x : DocId). x.0) was d.nr (birth_of d) ∙ sym (ap (option_map birth_of) (found_last documents d unknown)))
      by_test false is =
          put_apart (λ (x : DocId). x.0) was d.nr other (birth_of d) is ∙ whose other ∙ sym (ap (option_map birth_of) (found_before documents d other is))

-- ---- the process to which a document's orders go

-- it is that of the document in the log
pub proc_found : (s : Seen) (doc : DocId) (d : Document) → document_of s doc ≡ Some d → proc_at s doc ≡ d.proc
proc_found s doc d found = rw found refl

module _ (s : Seen) (whose : List (DocId × Birth)) (are : AreWhose (map sight s.documents) whose) (doc : DocId) (d : Document) (found : document_of s doc ≡ Some d) where
  -- the table has it
  pub proc_noted : proc_in whose doc ≡ Some (proc_at s doc)
  proc_noted =
      ap (option_map (λ (b : Birth). b.proc)) (are doc ∙ ap (option_map birth_of) (sight_of s doc d found))
      ∙ ap (λ (p : ProcId). let o : Option ProcId = Some p in o) (sym (proc_found s doc d found))

  pub proc_known : IsSome (proc_in whose doc)
  proc_known = rw proc_noted refl

  -- what the table has is it
  pub proc_same : (proc : ProcId) → proc_in whose doc ≡ Some proc → proc ≡ proc_at s doc
  proc_same proc has = let both_ : Some proc ≡ Some (proc_at s doc) = sym has ∙ proc_noted in cc
