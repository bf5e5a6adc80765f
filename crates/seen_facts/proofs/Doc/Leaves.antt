-- What a row that makes no document has to leave, and that all of it then holds of each document again.
use Rattle.std.proofs.Common.{◌≡◌, Bool, true, false, cond, List, map, Some, refl, sym, ap, ◌∙◌, subst}
use Rattle.tab_ids.specs.declared.DocId.{DocId}
use Rattle.tab_ids.specs.declared.NavId.{NavId}
use Rattle.tab_ids.specs.declared.ProcId.{ProcId}
use Rattle.log_model.specs.Seen.{Desk, Document, Place, Seen, desk_of, document_of}
use Rattle.seen_facts.specs.Home.Homes.{document_in}
use Rattle.seen_facts.proofs.Desk.Again.{AllStayAt}
use Rattle.seen_facts.proofs.Entry.Parts.{WasOf, was_of}
use Rattle.seen_facts.proofs.Doc.Awakes.{AllWereAwake}
use Rattle.seen_facts.specs.Doc.Docs.{AreDocs, AreSole, AreThawed, HasPlace, IsDoc, IsLive, IsMadeOnce, makes_at, makes_due}

-- ---- documents that change

-- what is left of each document as it changes
pub record KeepsDoc (g : Document → Document) : Type 0 where
  pub nr : (d : Document) → (g d).nr ≡ d.nr
  pub nav : (d : Document) → (g d).nav ≡ d.nav
  pub state : (d : Document) → (g d).state ≡ d.state
  pub proc : (d : Document) → (g d).proc ≡ d.proc
  pub discarded : (d : Document) → (g d).is_discarded ≡ false → d.is_discarded ≡ false

pub itself_keeps : KeepsDoc (λ (d : Document). d)
itself_keeps = record { nr = λ d. refl; nav = λ d. refl; state = λ d. refl; proc = λ d. refl; discarded = λ d e. e }

-- some of them change
pub keeps_if : (test : Document → Bool) (f : Document → Document) → KeepsDoc f → KeepsDoc (λ (d : Document). cond (test d) (f d) d)
keeps_if test f keeps =
    record {
      nr = λ d. elim (test d) as (λ b. (let x : Document = cond b (f d) d in x).nr ≡ d.nr) [ true ↦ keeps.nr d | false ↦ refl ];
      nav = λ d. elim (test d) as (λ b. (let x : Document = cond b (f d) d in x).nav ≡ d.nav) [ true ↦ keeps.nav d | false ↦ refl ];
      state = λ d. elim (test d) as (λ b. (let x : Document = cond b (f d) d in x).state ≡ d.state) [ true ↦ keeps.state d | false ↦ refl ];
      proc = λ d. elim (test d) as (λ b. (let x : Document = cond b (f d) d in x).proc ≡ d.proc) [ true ↦ keeps.proc d | false ↦ refl ];
      discarded = λ d. by_test d (test d);
    }
  where
    by_test : (d : Document) (b : Bool) → (let x : Document = cond b (f d) d in x).is_discarded ≡ false → d.is_discarded ≡ false
    by_test d true e = keeps.discarded d e
    by_test d false e = e

-- one change after the other
pub keeps_both : (f g : Document → Document) → KeepsDoc f → KeepsDoc g → KeepsDoc (λ (d : Document). g (f d))
keeps_both f g one two =
    record {
      nr = λ d. two.nr (f d) ∙ one.nr d;
      nav = λ d. two.nav (f d) ∙ one.nav d;
      state = λ d. two.state (f d) ∙ one.state d;
      proc = λ d. two.proc (f d) ∙ one.proc d;
      discarded = λ d e. one.discarded d (two.discarded (f d) e);
    }

-- ---- a row

-- navigables keep their places
abbrev pub KeepPlaces : List Place → List Place → Type 0
KeepPlaces places next = (nav : NavId) → HasPlace places nav → HasPlace next nav

pub kept_places : (places next : List Place) → AllStayAt places next → KeepPlaces places next
kept_places places next stay nav has = let k = stay nav has.place has.found in record { place = k.new; found = k.found }

pub record Leaves (s t : Seen) : Type 0 where
  pub g : Document → Document
  pub keeps : KeepsDoc g
  pub documents : t.documents ≡ map g s.documents
  pub live : (doc : DocId) (d : Document) → document_of s doc ≡ Some d → IsLive d → IsLive (g d)
  pub places : KeepPlaces s.places t.places
  pub once : (doc : DocId) (d : Document) → document_of s doc ≡ Some d → IsMadeOnce (desk_of s d.proc) d → IsMadeOnce (desk_of t d.proc) (g d)
  pub thawed : AreThawed t

-- a document then was one before
pub before_of : (s t : Seen) (g : Document → Document) → KeepsDoc g → t.documents ≡ map g s.documents → (doc : DocId) (d : Document) → document_of t doc ≡ Some d → WasOf s.documents g doc d
before_of s t g keeps documents doc d found =
    was_of s.documents g keeps.nr doc d (subst (λ (l : List Document). document_in l doc ≡ Some d) documents found)

pub left_sole : (s t : Seen) (g : Document → Document) → KeepsDoc g → t.documents ≡ map g s.documents → AreSole s → AreSole t
left_sole s t g keeps documents sole doc other d e found there same kept still =
    let w = before_of s t g keeps documents doc d found in
    let v = before_of s t g keeps documents other e there in
    ap (λ (x : Document). x.nr) (sym w.is) ∙ keeps.nr w.before
    ∙ sole doc other w.before v.before w.there v.there (sym (keeps.state w.before) ∙ ap (λ (x : Document). x.state) w.is ∙ same ∙ ap (λ (x : Document). x.state) (sym v.is) ∙ keeps.state v.before) (keeps.discarded w.before (ap (λ (x : Document). x.is_discarded) w.is ∙ kept)) (keeps.discarded v.before (ap (λ (x : Document). x.is_discarded) v.is ∙ still))
    ∙ sym (keeps.nr v.before) ∙ ap (λ (x : Document). x.nr) v.is

pub left_docs : (s t : Seen) → Leaves s t → AreDocs s → AreDocs t
left_docs s t leaves are =
    record { each = each; thawed = leaves.thawed; sole = left_sole s t leaves.g leaves.keeps leaves.documents are.sole }
  where
    each : (doc : DocId) (d : Document) → document_of t doc ≡ Some d → IsDoc t d
    each doc d found =
        let w = before_of s t leaves.g leaves.keeps leaves.documents doc d found in
        let is : IsDoc s w.before = are.each doc w.before w.there in
        subst (λ (x : Document). IsDoc t x) w.is
        (record {
          live = leaves.live doc w.before w.there is.live;
          placed = subst (λ (n : NavId). HasPlace t.places n) (sym (leaves.keeps.nav w.before)) (leaves.places w.before.nav is.placed);
          once = subst (λ (p : ProcId). IsMadeOnce (desk_of t p) (leaves.g w.before)) (sym (leaves.keeps.proc w.before)) (leaves.once doc w.before w.there is.once);
        })

-- ---- its parts

-- made as often, and as far
pub once_alike : (desk next : Desk) (d new : Document) → new.nr ≡ d.nr → new.is_ready ≡ d.is_ready → ((doc : DocId) → makes_at doc next ≡ makes_at doc desk) → IsMadeOnce desk d → IsMadeOnce next new
once_alike desk next d new nr ready same is =
    ap (λ (n : DocId). makes_at n next) nr ∙ same d.nr ∙ is ∙ ap makes_due (sym ready)

-- who is awake was so before, and none was frozen
pub thawed_again : (s t : Seen) (g : Document → Document) → KeepsDoc g → t.documents ≡ map g s.documents → ((d : Document) → (g d).is_frozen ≡ d.is_frozen) → AllWereAwake s.places t.places → AreThawed s → AreThawed t
thawed_again s t g keeps documents frozen were thawed nav place doc d there wakes found =
    let w = before_of s t g keeps documents doc d found in
    let p = were nav place doc there wakes in
    ap (λ (x : Document). x.is_frozen) (sym w.is) ∙ frozen w.before ∙ thawed nav p.before doc w.before p.there p.wakes w.there
