-- What a change of the table makes of the view of each document.
use Rattle.std.proofs.Common.{◌≡◌, ℕ, Bool, true, false, cond, ◌==◌, List, Option, Some, Ok, Err, refl, sym, ap, ◌∙◌, arith}
use Rattle.std.specs.Prelude.{OnErr, Result}
use Rattle.std.specs.Map.{lookup}
use Rattle.std.proofs.lemmas.Bool.Decides.{nat_tests}
use Rattle.tab_ids.specs.declared.DocId.{DocId}
use Rattle.log_model.specs.Views.{View}
use Rattle.proc_tables.specs.Views.{is_doc, Stays}

-- what follows from an error follows of a result
pub on_err : {T E : Type 0} (r : Result T E) (P Q : Type 0) → (P → Q) → OnErr r P → OnErr r Q
on_err (Ok x) P Q f p = p
on_err (Err e) P Q f p = f p

-- the view that is found is written again
pub stays : (old new : List (DocId × View)) (of : DocId) (view now : View) → lookup (is_doc of) old ≡ Some view → ((doc : DocId) → lookup (is_doc doc) new ≡ cond (of.0 == doc.0) (Some now) (lookup (is_doc doc) old)) → now ≡ view → Stays old new
stays old new of view now found updates is doc = updates doc ∙ by_test (of.0 == doc.0) refl
  where
    by_test : (b : Bool) → (of.0 == doc.0) ≡ b → cond (of.0 == doc.0) (Some now) (lookup (is_doc doc) old) ≡ lookup (is_doc doc) old
    by_test true e =
        let n : of.0 ≡ doc.0 = grind (arith, nat_tests, e) in
        let at : lookup (is_doc doc) old ≡ Some view = ap (λ (i : ℕ). lookup (is_doc (record { 0 = i })) old) (sym n) ∙ found in
        rw (e, at) (ap (λ (v : View). let o : Option View = Some v in o) is)
    by_test false e = rw e refl
