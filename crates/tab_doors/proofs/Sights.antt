-- What becomes of the documents as the tables tell of them, where one of them changes or one more comes.
use Rattle.tab_doors.specs.Look.{Sight, sight, sight_in}
use Rattle.tab_doors.specs.Ties.{IsListed, IsOneSuch}
use Rattle.seen_facts.proofs.Hang.Members.{has_any, has_map, has_more}
use Rattle.seen_facts.specs.Hang.Members.{Has}
use Rattle.log_model.proofs.Refl.{nat_eq_refl}
use Rattle.log_model.specs.After.{on_document}
use Rattle.log_model.specs.Seen.{Document, Seen, document_of}
use Rattle.seen_laws.proofs.Keyed.{find_has, find_on_other, find_on_same}
use Rattle.std.proofs.Common.{Bool, List, None, Option, Some, [], ap, arith, cond, false, inl, inr, map, refl, subst, sym, true, ℕ, ◌++◌, ◌==◌, ◌||◌, ◌∙◌, ◌∷◌, ◌≡◌, ◌⊎◌}
use Rattle.std.proofs.lemmas.Bool.Decides.{nat_tests}
use Rattle.std.specs.List.{list_any}
use Rattle.std.specs.Prelude.{find, option_map}
use Rattle.tab_ids.specs.declared.DocId.{DocId}

-- one of them changed
abbrev pub sights_on : DocId → (Sight → Sight) → List Sight → List Sight
sights_on doc g documents = map (λ (d : Sight). cond (d.nr.0 == doc.0) (g d) d) documents

-- as the log has it
pub sights_document : (doc : DocId) (f : Document → Document) (g : Sight → Sight) → ((d : Document) → sight (f d) ≡ g (sight d)) → (documents : List Document) → map sight (on_document doc f documents) ≡ sights_on doc g (map sight documents)
sights_document doc f g same [] = refl
sights_document doc f g same (d ∷ documents) = by_test (d.nr.0 == doc.0) (ap (λ (l : List Sight). l) (sights_document doc f g same documents))
  where
    by_test : (b : Bool) → map sight (on_document doc f documents) ≡ sights_on doc g (map sight documents) → sight (cond b (f d) d) ∷ map sight (on_document doc f documents) ≡ cond b (g (sight d)) (sight d) ∷ sights_on doc g (map sight documents)
    by_test true rest = rw (same d) (ap (λ (l : List Sight). g (sight d) ∷ l) rest)
    by_test false rest = ap (λ (l : List Sight). sight d ∷ l) rest

-- a change that can't be seen
pub sights_same : (g : Document → Document) → ((d : Document) → sight (g d) ≡ sight d) → (documents : List Document) → map sight (map g documents) ≡ map sight documents
sights_same g same [] = refl
sights_same g same (d ∷ documents) = rw (same d) (ap (λ (l : List Sight). sight d ∷ l) (sights_same g same documents))

pub unseen_at : (doc : DocId) (f : Document → Document) → ((d : Document) → sight (f d) ≡ sight d) → (d : Document) → sight (cond (d.nr.0 == doc.0) (f d) d) ≡ sight d
unseen_at doc f same d = elim (d.nr.0 == doc.0) as (λ b. sight (cond b (f d) d) ≡ sight d) [ true ↦ same d | false ↦ refl ]

-- a document is found as the tables tell of it
pub sight_found : (documents : List Document) (doc : DocId) → sight_in (map sight documents) doc ≡ option_map sight (find (λ (d : Document). d.nr.0 == doc.0) documents)
sight_found [] doc = refl
sight_found (d ∷ documents) doc = by_test (d.nr.0 == doc.0) (sight_found documents doc)
  where
    by_test : (b : Bool) → sight_in (map sight documents) doc ≡ option_map sight (find (λ (x : Document). x.nr.0 == doc.0) documents) → cond b (Some (sight d)) (sight_in (map sight documents) doc) ≡ option_map sight (cond b (Some d) (find (λ (x : Document). x.nr.0 == doc.0) documents))
    by_test true rest = refl
    by_test false rest = rest

pub sight_of : (s : Seen) (doc : DocId) (d : Document) → document_of s doc ≡ Some d → sight_in (map sight s.documents) doc ≡ Some (sight d)
sight_of s doc d found = sight_found s.documents doc ∙ ap (λ (o : Option Document). option_map sight o) found

pub record IsSeen (s : Seen) (doc : DocId) (x : Sight) : Type 0 where
  pub document : Document
  pub found : document_of s doc ≡ Some document
  pub is : sight document ≡ x

pub seen_of : (s : Seen) (doc : DocId) (x : Sight) → sight_in (map sight s.documents) doc ≡ Some x → IsSeen s doc x
seen_of s doc x at = by_found (document_of s doc) refl (sym (sight_found s.documents doc) ∙ at)
  where
    by_found : (o : Option Document) → document_of s doc ≡ o → option_map sight o ≡ Some x → IsSeen s doc x
    by_found None found is = cc
    by_found (Some d) found is = record { document = d; found = found; is = (let both_ : Some (sight d) ≡ Some x = is in cc) }

-- ---- look-ups after a change of one

-- a change that leaves the number
abbrev pub KeepsNumber : (Sight → Sight) → Type 0
KeepsNumber g = (d : Sight) → (g d).nr ≡ d.nr

pub found_same : (documents : List Sight) (doc : DocId) (g : Sight → Sight) → KeepsNumber g → sight_in (sights_on doc g documents) doc ≡ option_map g (sight_in documents doc)
found_same documents doc g keeps = find_on_same (λ (d : Sight). d.nr.0) g doc.0 documents (λ d. ap (λ (n : DocId). n.0) (keeps d))

pub found_other : (documents : List Sight) (doc other : DocId) (g : Sight → Sight) → KeepsNumber g → (doc.0 == other.0) ≡ false → sight_in (sights_on doc g documents) other ≡ sight_in documents other
found_other documents doc other g keeps apart = find_on_other (λ (d : Sight). d.nr.0) g doc.0 other.0 documents (λ d. ap (λ (n : DocId). n.0) (keeps d)) apart

pub found_more : (documents : List Sight) (new : Sight) (doc : DocId) (d : Sight) → sight_in documents doc ≡ Some d → sight_in (documents ++ new ∷ []) doc ≡ Some d
found_more [] new doc d at = cc
found_more (x ∷ documents) new doc d at = by_test (x.nr.0 == doc.0) at (found_more documents new doc d)
  where
    by_test : (b : Bool) → cond b (Some x) (sight_in documents doc) ≡ Some d → (sight_in documents doc ≡ Some d → sight_in (documents ++ new ∷ []) doc ≡ Some d) → cond b (Some x) (sight_in (documents ++ new ∷ []) doc) ≡ Some d
    by_test true is more = is
    by_test false is more = more is

pub found_last : (documents : List Sight) (new : Sight) → sight_in documents new.nr ≡ None → sight_in (documents ++ new ∷ []) new.nr ≡ Some new
found_last [] new none = rw (nat_eq_refl new.nr.0) refl
found_last (x ∷ documents) new none = by_test (x.nr.0 == new.nr.0) none (found_last documents new)
  where
    by_test : (b : Bool) → (let o : Option Sight = cond b (Some x) (sight_in documents new.nr) in o) ≡ None → (sight_in documents new.nr ≡ None → sight_in (documents ++ new ∷ []) new.nr ≡ Some new) → cond b (Some x) (sight_in (documents ++ new ∷ []) new.nr) ≡ Some new
    by_test true is more = cc
    by_test false is more = more is

-- another is found as before
pub found_before : (documents : List Sight) (new : Sight) (doc : DocId) → (new.nr.0 == doc.0) ≡ false → sight_in (documents ++ new ∷ []) doc ≡ sight_in documents doc
found_before [] new doc apart = rw apart refl
found_before (x ∷ documents) new doc apart = ap (λ (o : Option Sight). cond (x.nr.0 == doc.0) (Some x) o) (found_before documents new doc apart)

-- what is found is there
pub found_has : (documents : List Sight) (doc : DocId) (d : Sight) → sight_in documents doc ≡ Some d → Has documents d
found_has [] doc d at = cc
found_has (x ∷ documents) doc d at = by_test (x.nr.0 == doc.0) at (found_has documents doc d)
  where
    by_test : (b : Bool) → cond b (Some x) (sight_in documents doc) ≡ Some d → (sight_in documents doc ≡ Some d → Has documents d) → (x ≡ d) ⊎ Has documents d
    by_test true is more = inl (let same : x ≡ d = cc in same)
    by_test false is more = inr (more is)

-- ---- which document passes a test

any_none : (test : Sight → Bool) (documents : List Sight) (new : Sight) → list_any test documents ≡ false → test new ≡ false → list_any test (documents ++ new ∷ []) ≡ false
any_none test [] new none fails = rw fails refl
any_none test (x ∷ documents) new none fails = by_test (test x) none (any_none test documents new)
  where
    by_test : (b : Bool) → (b || list_any test documents) ≡ false → (list_any test documents ≡ false → test new ≡ false → list_any test (documents ++ new ∷ []) ≡ false) → (b || list_any test (documents ++ new ∷ [])) ≡ false
    by_test true is more = cc
    by_test false is more = more is fails

any_false : (test : Sight → Bool) (documents : List Sight) (d : Sight) → list_any test documents ≡ false → Has documents d → test d ≡ true → ⊥
any_false test documents d none there is =
    let never : true ≡ false = sym (has_any test documents d there is) ∙ none in cc

pub listed_more : (test : Sight → Bool) (documents : List Sight) (new : Sight) (doc : Option DocId) → test new ≡ false → IsListed test documents doc → IsListed test (documents ++ new ∷ []) doc
listed_more test documents new None fails none = any_none test documents new none fails
listed_more test documents new (Some doc) fails one =
    record {
      document = one.document;
      found = found_more documents new doc one.document one.found;
      passes = one.passes;
      only = λ d there is. by_place d (has_more documents new d there) is;
    }
  where
    by_place : (d : Sight) → Has documents d ⊎ (new ≡ d) → test d ≡ true → (d.nr.0 == doc.0) ≡ true
    by_place d (inl there) is = one.only d there is
    by_place d (inr same) is = let never : true ≡ false = sym is ∙ sym (ap test same) ∙ fails in absurd cc

pub listed_new : (test : Sight → Bool) (documents : List Sight) (new : Sight) → sight_in documents new.nr ≡ None → test new ≡ true → list_any test documents ≡ false → IsListed test (documents ++ new ∷ []) (Some new.nr)
listed_new test documents new none is nobody =
    record {
      document = new;
      found = found_last documents new none;
      passes = is;
      only = λ d there passes_. by_place d (has_more documents new d there) passes_;
    }
  where
    by_place : (d : Sight) → Has documents d ⊎ (new ≡ d) → test d ≡ true → (d.nr.0 == new.nr.0) ≡ true
    by_place d (inl there) passes_ = absurd (any_false test documents d nobody there passes_)
    by_place d (inr same) passes_ = rw (sym same) (nat_eq_refl new.nr.0)

-- a change of one that leaves what the test says of it
module _ (test : Sight → Bool) (doc : DocId) (g : Sight → Sight) (keeps : KeepsNumber g) where
  any_kept : (documents : List Sight) → ((d : Sight) → Has documents d → (d.nr.0 == doc.0) ≡ true → test (g d) ≡ test d) → list_any test documents ≡ false → list_any test (sights_on doc g documents) ≡ false
  any_kept [] same none = refl
  any_kept (d ∷ documents) same none = by_test (d.nr.0 == doc.0) refl (test d) refl none (any_kept documents (λ x there is. same x (inr there) is))
    where
      by_test : (b : Bool) → (d.nr.0 == doc.0) ≡ b → (c : Bool) → test d ≡ c → (c || list_any test documents) ≡ false → (list_any test documents ≡ false → list_any test (sights_on doc g documents) ≡ false) → (test (cond (d.nr.0 == doc.0) (g d) d) || list_any test (sights_on doc g documents)) ≡ false
      by_test b its true is none_ more = cc
      by_test true its false is none_ more = rw its (rw (same d (inl refl) its) (rw is (more none_)))
      by_test false its false is none_ more = rw its (rw is (more none_))

  module _ (documents : List Sight) (same : (d : Sight) → Has documents d → (d.nr.0 == doc.0) ≡ true → test (g d) ≡ test d) where
    -- who passes after it passed before, under the same number
    pub record Was (x : Sight) : Type 0 where
      pub before : Sight
      pub there : Has documents before
      pub nr : x.nr ≡ before.nr
      pub alike : test x ≡ test before

    was : (x : Sight) → Has (sights_on doc g documents) x → Was x
    was x there =
        let it = has_map (λ (d : Sight). cond (d.nr.0 == doc.0) (g d) d) documents x there in
        subst (λ (y : Sight). Was y) it.is (by_test it.it it.there (it.it.nr.0 == doc.0) refl)
      where
        by_test : (d : Sight) → Has documents d → (b : Bool) → (d.nr.0 == doc.0) ≡ b → Was (cond b (g d) d)
        by_test d there_ true is = record { before = d; there = there_; nr = keeps d; alike = same d there_ is }
        by_test d there_ false is = record { before = d; there = there_; nr = refl; alike = refl }

    only_still : (other : DocId) → ((d : Sight) → Has documents d → test d ≡ true → (d.nr.0 == other.0) ≡ true) → (x : Sight) → Has (sights_on doc g documents) x → test x ≡ true → (x.nr.0 == other.0) ≡ true
    only_still other only x there is =
        let it : Was x = was x there in
        ap (λ (n : DocId). n.0 == other.0) it.nr ∙ only it.before it.there (sym it.alike ∙ is)

    pub listed_kept : (o : Option DocId) → IsListed test documents o → IsListed test (sights_on doc g documents) o
    listed_kept None none = any_kept documents same none
    listed_kept (Some other) one = by_test (doc.0 == other.0) refl
      where
        by_test : (b : Bool) → (doc.0 == other.0) ≡ b → IsOneSuch test (sights_on doc g documents) other
        by_test true is =
            let it : doc ≡ other = ap (λ (n : ℕ). let d : DocId = record { 0 = n } in d) (grind (arith, nat_tests, is)) in
            let its : (one.document.nr.0 == doc.0) ≡ true = rw (find_has (λ (d : Sight). d.nr.0) other.0 documents one.document one.found) (rw it (nat_eq_refl other.0)) in
            record {
              document = g one.document;
              found = ap (λ (n : DocId). sight_in (sights_on n g documents) other) it ∙ found_same documents other g keeps ∙ ap (λ (o : Option Sight). option_map g o) one.found;
              passes = same one.document (found_has documents other one.document one.found) its ∙ one.passes;
              only = only_still other one.only;
            }
        by_test false is =
            record {
              document = one.document;
              found = found_other documents doc other g keeps is ∙ one.found;
              passes = one.passes;
              only = only_still other one.only;
            }

-- one that passes no more, of which the table had it
pub listed_gone : (test : Sight → Bool) (doc : DocId) (g : Sight → Sight) (documents : List Sight) → ((d : Sight) → test (g d) ≡ false) → ((d : Sight) → Has documents d → test d ≡ true → (d.nr.0 == doc.0) ≡ true) → IsListed test (sights_on doc g documents) None
listed_gone test doc g [] never only = refl
listed_gone test doc g (d ∷ documents) never only = by_test (d.nr.0 == doc.0) refl (test d) refl (listed_gone test doc g documents never (λ x there is. only x (inr there) is))
  where
    by_test : (b : Bool) → (d.nr.0 == doc.0) ≡ b → (c : Bool) → test d ≡ c → list_any test (sights_on doc g documents) ≡ false → (test (cond (d.nr.0 == doc.0) (g d) d) || list_any test (sights_on doc g documents)) ≡ false
    by_test true its c is rest = rw its (rw (never d) rest)
    by_test false its true is rest = let yes_ : (d.nr.0 == doc.0) ≡ true = only d (inl refl) is in let never_ : true ≡ false = sym yes_ ∙ its in absurd cc
    by_test false its false is rest = rw its (rw is rest)
