-- Documents that no navigable is awake on rest again, but for some: their orders lead to the same, and who is shown no more is among those.
use Rattle.std.proofs.Common.{◌≡◌, ℕ, Bool, true, false, ◌||◌, ◌==◌, List, [], ◌∷◌, ◌++◌, map, Some, refl, sym, ap, ◌∙◌, subst, eqb-true}
use Rattle.tab_ids.specs.declared.DocId.{DocId}
use Rattle.tab_ids.specs.declared.NavId.{NavId}
use Rattle.log_model.specs.AfterPlaces.{without_doc}
use Rattle.log_model.specs.Equal.{has_doc}
use Rattle.log_model.specs.Seen.{Seen, Document, Place, awake, desk_of, document_of, place_of}
use Rattle.log_model.proofs.Refl.{nat_eq_refl}
use Rattle.seen_facts.specs.Rest.Resting.{EachRests, IsUnshown, is_resting, will_run}
use Rattle.seen_facts.proofs.Rest.Again.{StayShown, unshown_before, was_of}
use Rattle.row_facts.specs.RestRows.Moving.{AllRest, RestBut}

-- ---- lists of documents

pub doc_same : (a b : DocId) → (a.0 == b.0) ≡ true → a ≡ b
doc_same a b e = ap (λ (n : ℕ). let x : DocId = record { 0 = n } in x) (eqb-true a.0 b.0 e)

pub turned : (a b : DocId) → (a.0 == b.0) ≡ false → (b.0 == a.0) ≡ false
turned a b e = by_test (b.0 == a.0) refl
  where
    by_test : (c : Bool) → (b.0 == a.0) ≡ c → (b.0 == a.0) ≡ false
    by_test false h = h
    by_test true h =
        let same : b ≡ a = doc_same b a h in
        let no_ : true ≡ false = sym (nat_eq_refl b.0) ∙ ap (λ (x : DocId). x.0 == b.0) same ∙ e in cc

-- each of the first is in the second
abbrev pub IsPart : List DocId → List DocId → Type 0
IsPart docs docs_ = (doc : DocId) → has_doc docs doc ≡ true → has_doc docs_ doc ≡ true

pub part_same : (docs : List DocId) → IsPart docs docs
part_same docs doc has = has

pub part_first : (docs more : List DocId) → IsPart docs (docs ++ more)
part_first [] more doc has = absurd cc
part_first (d ∷ docs) more doc has = by_test (d.0 == doc.0) (part_first docs more doc) has
  where
    by_test : (b : Bool) → (has_doc docs doc ≡ true → has_doc (docs ++ more) doc ≡ true) → (b || has_doc docs doc) ≡ true → (b || has_doc (docs ++ more) doc) ≡ true
    by_test true rest e = refl
    by_test false rest e = rest e

pub part_last : (more docs : List DocId) → IsPart docs (more ++ docs)
part_last [] docs doc has = has
part_last (d ∷ more) docs doc has = by_test (d.0 == doc.0) (part_last more docs doc has)
  where
    by_test : (b : Bool) → has_doc (more ++ docs) doc ≡ true → (b || has_doc (more ++ docs) doc) ≡ true
    by_test true rest = refl
    by_test false rest = rest

-- two parts are one
pub part_both : (one two docs : List DocId) → IsPart one docs → IsPart two docs → IsPart (one ++ two) docs
part_both [] two docs a b doc has = b doc has
part_both (d ∷ one) two docs a b doc has =
    by_test (d.0 == doc.0) refl (part_both one two docs (λ x is. a x (part_last (d ∷ []) one x is)) b doc) has
  where
    by_test : (c : Bool) → (d.0 == doc.0) ≡ c → (has_doc (one ++ two) doc ≡ true → has_doc docs doc ≡ true) → (c || has_doc (one ++ two) doc) ≡ true → has_doc docs doc ≡ true
    by_test true e rest is = a doc (ap (λ (c : Bool). c || has_doc one doc) e)
    by_test false e rest is = rest is

-- without one of them, the others stay
pub stays_without : (doc : DocId) (docs : List DocId) (other : DocId) → (other.0 == doc.0) ≡ false → has_doc docs other ≡ true → has_doc (without_doc doc docs) other ≡ true
stays_without doc [] other apart has = absurd cc
stays_without doc (d ∷ docs) other apart has =
    by_tests (d.0 == doc.0) (d.0 == other.0) refl refl has (stays_without doc docs other apart)
  where
    by_tests : (b c : Bool) → (d.0 == doc.0) ≡ b → (d.0 == other.0) ≡ c → (c || has_doc docs other) ≡ true → (has_doc docs other ≡ true → has_doc (without_doc doc docs) other ≡ true) → has_doc (without_doc doc (d ∷ docs)) other ≡ true
    by_tests true true e f is rest =
        let one : d ≡ doc = doc_same d doc e in
        let two : d ≡ other = doc_same d other f in
        let no_ : true ≡ false = sym (nat_eq_refl doc.0) ∙ ap (λ (x : DocId). x.0 == doc.0) (sym one ∙ two) ∙ apart in cc
    by_tests true false e f is rest = rw e (rest is)
    by_tests false true e f is rest = rw e (rw f refl)
    by_tests false false e f is rest = rw e (rw f (rest is))

pub part_without : (doc : DocId) (docs : List DocId) → IsPart (without_doc doc docs) docs
part_without doc [] other has = has
part_without doc (d ∷ docs) other has = by_tests (d.0 == doc.0) refl (part_without doc docs other)
  where
    by_tests : (b : Bool) → (d.0 == doc.0) ≡ b → (has_doc (without_doc doc docs) other ≡ true → has_doc docs other ≡ true) → has_doc (d ∷ docs) other ≡ true
    by_tests true e rest = skip (d.0 == other.0) (rest (was e has))
      where
        was : (d.0 == doc.0) ≡ true → has_doc (without_doc doc (d ∷ docs)) other ≡ true → has_doc (without_doc doc docs) other ≡ true
        was f is = rw f at is

        skip : (c : Bool) → has_doc docs other ≡ true → (c || has_doc docs other) ≡ true
        skip true is = refl
        skip false is = is
    by_tests false e rest = keep (d.0 == other.0) (was e has)
      where
        was : (d.0 == doc.0) ≡ false → has_doc (without_doc doc (d ∷ docs)) other ≡ true → ((d.0 == other.0) || has_doc (without_doc doc docs) other) ≡ true
        was f is = rw f at is

        keep : (c : Bool) → (c || has_doc (without_doc doc docs) other) ≡ true → (c || has_doc docs other) ≡ true
        keep true is = refl
        keep false is = rest is

-- ---- the list of those that don't rest

-- it may grow
pub rest_more : (s : Seen) (docs docs_ : List DocId) → IsPart docs docs_ → RestBut docs s → RestBut docs_ s
rest_more s docs docs_ part rest doc d found unshown apart =
    rest doc d found unshown (by_test (has_doc docs doc) refl)
  where
    by_test : (b : Bool) → has_doc docs doc ≡ b → has_doc docs doc ≡ false
    by_test false e = e
    by_test true e = let no_ : true ≡ false = sym (part doc e) ∙ apart in cc

-- a document leaves it that rests, or is shown
abbrev pub DoesRest : Seen → DocId → Type 0
DoesRest s doc =
    (d : Document) → document_of s doc ≡ Some d → IsUnshown s doc → is_resting (will_run (desk_of s d.proc) d) ≡ true

pub rest_less : (s : Seen) (docs : List DocId) (doc : DocId) → DoesRest s doc → RestBut docs s → RestBut (without_doc doc docs) s
rest_less s docs doc rests rest other d found unshown apart = by_test (other.0 == doc.0) refl
  where
    by_test : (b : Bool) → (other.0 == doc.0) ≡ b → is_resting (will_run (desk_of s d.proc) d) ≡ true
    by_test true e =
        let same : other ≡ doc = doc_same other doc e in
        rests d (ap (document_of s) (sym same) ∙ found) (subst (λ (x : DocId). IsUnshown s x) same unshown)
    by_test false e = rest other d found unshown (by_has (has_doc docs other) refl)
      where
        by_has : (c : Bool) → has_doc docs other ≡ c → has_doc docs other ≡ false
        by_has false h = h
        by_has true h = let no_ : true ≡ false = sym (stays_without doc docs other e h) ∙ apart in cc

-- so does the first
pub rest_first : (s : Seen) (doc : DocId) (docs : List DocId) → DoesRest s doc → RestBut (doc ∷ docs) s → RestBut docs s
rest_first s doc docs rests rest =
    rest_more s (without_doc doc (doc ∷ docs)) docs part (rest_less s (doc ∷ docs) doc rests rest)
  where
    part : IsPart (without_doc doc (doc ∷ docs)) docs
    part other has = part_without doc docs other (rw (nat_eq_refl doc.0) at has)

-- where each rests, those do that were swept
pub rests_each : (s : Seen) → AllRest s → EachRests s
rests_each s rest doc d found unshown swept = rest doc d found unshown refl

-- ---- from one state to another

-- a document then was there, and will run if it was to
pub record RanAlike (s t : Seen) (doc : DocId) (d : Document) : Type 0 where
  pub before : Document
  pub there : document_of s doc ≡ Some before
  pub runs : will_run (desk_of t d.proc) d ≡ will_run (desk_of s before.proc) before

-- who was shown, and then isn't, is among these
abbrev pub AreLeft : Seen → Seen → List DocId → Type 0
AreLeft s t docs =
    (nav : NavId) (place : Place) (doc : DocId) → place_of s nav ≡ Some place → place.status ≡ awake doc → IsUnshown t doc → has_doc docs doc ≡ true

pub rest_again : (s t : Seen) (docs docs_ : List DocId) → ((doc : DocId) (d : Document) → document_of t doc ≡ Some d → RanAlike s t doc d) → AreLeft s t docs_ → IsPart docs docs_ → RestBut docs s → RestBut docs_ t
rest_again s t docs docs_ ran left part rest doc d found unshown apart =
    let r = ran doc d found in
    ap is_resting r.runs ∙ rest_more s docs docs_ part rest doc r.before r.there was apart
  where
    was : IsUnshown s doc
    was nav place there wakes =
        let no_ : true ≡ false = sym (left nav place doc there wakes unshown) ∙ apart in cc

-- each document is changed so that it will run as it was to, and who was shown is shown
pub mapped_rests : (s t : Seen) (docs : List DocId) (g : Document → Document) → ((d : Document) → (g d).nr ≡ d.nr) → t.documents ≡ map g s.documents → ((doc : DocId) (d : Document) → document_of s doc ≡ Some d → will_run (desk_of t (g d).proc) (g d) ≡ will_run (desk_of s d.proc) d) → StayShown s t → RestBut docs s → RestBut docs t
mapped_rests s t docs g nr documents runs stay rest =
    rest_again s t docs docs ran (λ nav place doc there wakes unshown. absurd (unshown_before s t stay doc unshown nav place there wakes)) (part_same docs) rest
  where
    ran : (doc : DocId) (d : Document) → document_of t doc ≡ Some d → RanAlike s t doc d
    ran doc d found =
        let w = was_of s t g nr documents doc d found in
        subst (λ (x : Document). RanAlike s t doc x) w.is (record { before = w.before; there = w.there; runs = runs doc w.before w.there })
