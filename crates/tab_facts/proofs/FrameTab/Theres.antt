-- The documents of a tab of frames stay alive in their process: what changes of documents leave it.
use Rattle.std.proofs.Common.{◌≡◌, ℕ, ◌≤◌, Bool, true, false, cond, ◌==◌, List, map, length, Some, refl, sym, ap, ◌∙◌, subst, arith}
use Rattle.tab_ids.specs.declared.DocId.{DocId}
use Rattle.tab_ids.specs.declared.NavId.{NavId}
use Rattle.tab_ids.specs.declared.ProcId.{ProcId}
use Rattle.log_model.specs.Seen.{Seen, Document, document_of}
use Rattle.std.proofs.lemmas.Bool.{eqb-true}
use Rattle.std.proofs.lemmas.List.{length-map}
use Rattle.seen_facts.proofs.Rest.Again.{WasOf, was_of, its_number}
use Rattle.tab_facts.specs.FrameTab.Alive.{IsAlive, HasPlace, IsThere, AreThere}

-- a document was there, alive, with its number and of its navigable
pub record WasThere (home : ProcId) (s : Seen) (d : Document) : Type 0 where
  pub doc : DocId
  pub before : Document
  pub there : document_of s doc ≡ Some before
  pub nr : d.nr ≡ before.nr
  pub nav : d.nav ≡ before.nav
  pub alive : IsAlive home before → IsAlive home d

-- navigables keep their places
abbrev pub KeepPlaces : Seen → Seen → Type 0
KeepPlaces s t = (nav : NavId) → HasPlace s.places nav → HasPlace t.places nav

pub there_again : (home : ProcId) (s t : Seen) → ((doc : DocId) (d : Document) → document_of t doc ≡ Some d → WasThere home s d) → length s.documents ≤ length t.documents → KeepPlaces s t → AreThere home s → AreThere home t
there_again home s t were longer keep are doc d found =
    let w = were doc d found in
    let is : IsThere home (length s.documents) s.places w.before = are w.doc w.before w.there in
    record {
      alive = w.alive is.alive;
      placed = subst (λ (nav : NavId). HasPlace t.places nav) (sym w.nav) (keep w.before.nav is.placed);
      number =
          (let same : d.nr.0 ≡ w.before.nr.0 = ap (λ (n : DocId). n.0) w.nr in
          let low : w.before.nr.0 ≤ length s.documents = is.number in omega (arith, same, low, longer));
      real = subst (λ (n : DocId). 1 ≤ n.0) (sym w.nr) is.real;
    }

-- each document is changed, but for its number and navigable, and stays alive
pub record KeepsAlive (home : ProcId) (s : Seen) (g : Document → Document) : Type 0 where
  pub nr : (d : Document) → (g d).nr ≡ d.nr
  pub nav : (d : Document) → (g d).nav ≡ d.nav
  pub alive : (doc : DocId) (d : Document) → document_of s doc ≡ Some d → IsAlive home d → IsAlive home (g d)

mapped_long : (g : Document → Document) (documents : List Document) → length documents ≤ length (map g documents)
mapped_long g documents = (let same : length (map g documents) ≡ length documents = length-map documents g in omega (arith, same))

pub there_mapped : (home : ProcId) (s t : Seen) (g : Document → Document) → KeepsAlive home s g → t.documents ≡ map g s.documents → KeepPlaces s t → AreThere home s → AreThere home t
there_mapped home s t g keeps documents keep are =
    there_again home s t were (subst (λ (l : List Document). length s.documents ≤ length l) (sym documents) (mapped_long g s.documents)) keep are
  where
    were : (doc : DocId) (d : Document) → document_of t doc ≡ Some d → WasThere home s d
    were doc d found =
        let w : WasOf s g doc d = was_of s t g keeps.nr documents doc d found in
        record {
          doc = doc;
          before = w.before;
          there = w.there;
          nr = ap (λ (x : Document). x.nr) (sym w.is) ∙ keeps.nr w.before;
          nav = ap (λ (x : Document). x.nav) (sym w.is) ∙ keeps.nav w.before;
          alive = λ is. subst (λ (x : Document). IsAlive home x) w.is (keeps.alive doc w.before w.there is);
        }

-- a document is found by its own number
pub own_number : (s : Seen) (doc other : DocId) (d : Document) → document_of s other ≡ Some d → (d.nr.0 == doc.0) ≡ true → document_of s doc ≡ Some d
own_number s doc other d found e =
    let nr : d.nr ≡ other = its_number s other d found in
    let n : d.nr.0 ≡ doc.0 = eqb-true d.nr.0 doc.0 e in
    let same : d.nr ≡ doc = ap (λ (n : ℕ). let x : DocId = record { 0 = n } in x) n in
    ap (λ (x : DocId). document_of s x) (sym same ∙ nr) ∙ found

-- one document is changed
pub keeps_on : (home : ProcId) (s : Seen) (doc : DocId) (f : Document → Document) → ((d : Document) → (f d).nr ≡ d.nr) → ((d : Document) → (f d).nav ≡ d.nav) → ((d : Document) → document_of s doc ≡ Some d → IsAlive home d → IsAlive home (f d)) → KeepsAlive home s (λ (d : Document). cond (d.nr.0 == doc.0) (f d) d)
keeps_on home s doc f nr nav alive =
    record {
      nr = λ d. elim (d.nr.0 == doc.0) as (λ b. (let x : Document = cond b (f d) d in x).nr ≡ d.nr) [ true ↦ nr d | false ↦ refl ];
      nav = λ d. elim (d.nr.0 == doc.0) as (λ b. (let x : Document = cond b (f d) d in x).nav ≡ d.nav) [ true ↦ nav d | false ↦ refl ];
      alive = by_found;
    }
  where
    by_found : (other : DocId) (d : Document) → document_of s other ≡ Some d → IsAlive home d → IsAlive home (cond (d.nr.0 == doc.0) (f d) d)
    by_found other d found is = by_test (d.nr.0 == doc.0) refl
      where
        by_test : (b : Bool) → (d.nr.0 == doc.0) ≡ b → IsAlive home (cond b (f d) d)
        by_test true e = alive d (own_number s doc other d found e) is
        by_test false e = is
