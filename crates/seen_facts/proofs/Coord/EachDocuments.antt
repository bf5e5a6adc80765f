-- A fact of each document, up to the epoch of its navigable, stays over a row that changes one desk and one document.
use Rattle.std.proofs.Common.{◌≡◌, ℕ, ◌≤◌, Bool, true, false, ◌==◌, List, Option, Some, None, refl, sym, ap, ◌∙◌, subst}
use Rattle.std.specs.Prelude.{find, option_map}
use Rattle.tab_ids.specs.declared.DocId.{DocId}
use Rattle.tab_ids.specs.declared.NavId.{NavId}
use Rattle.tab_ids.specs.declared.ProcId.{ProcId}
use Rattle.log_model.specs.Seen.{Seen, Document, Desk, Place, document_of, desk_of, desk_in, place_of}
use Rattle.log_model.specs.After.{on_desk, on_document}
use Rattle.seen_laws.proofs.Keyed.{find_on_same, find_on_other, find_has}
use Rattle.seen_laws.proofs.Desks.{desk_on_same, desk_on_other}
use Rattle.seen_facts.specs.Coord.Epochs.{EachDocument}
use Rattle.seen_facts.proofs.Coord.Leadings.{proc_same, doc_same}

-- the navigable had come to an epoch up to this one
pub record HadEpoch (s : Seen) (nav : NavId) (place : Place) : Type 0 where
  pub before : Place
  pub there : place_of s nav ≡ Some before
  pub rises : before.epoch.0 ≤ place.epoch.0

-- one desk and one document are changed, which stays in its navigable and process; epochs only rise, and the fact stays as they do; it holds of the changed document, and stays for each other one of that desk
pub record IsOneOfEach (F : Desk → Document → ℕ → Type 0) (s next : Seen) (proc : ProcId) (f : Desk → Desk) (doc : DocId) (g : Document → Document) : Type 0 where
  pub desks : next.desks ≡ on_desk proc f s.desks
  pub documents : next.documents ≡ on_document doc g s.documents
  pub keeps_proc : (desk : Desk) → (f desk).proc ≡ desk.proc
  pub keeps_number : (d : Document) → (g d).nr ≡ d.nr
  pub stays : (d : Document) → (g d).proc ≡ d.proc
  pub stays_in : (d : Document) → (g d).nav ≡ d.nav
  pub had : (nav : NavId) (place : Place) → place_of next nav ≡ Some place → HadEpoch s nav place
  pub grows : (desk : Desk) (d : Document) (m n : ℕ) → m ≤ n → F desk d m → F desk d n
  pub home : (d : Document) → document_of s doc ≡ Some d → d.proc ≡ proc
  pub own : (d : Document) (place : Place) → document_of s doc ≡ Some d → place_of next d.nav ≡ Some place → F (desk_of s proc) d place.epoch.0 → F (f (desk_of s proc)) (g d) place.epoch.0
  pub other : (d : Document) (bound : ℕ) → (doc.0 == d.nr.0) ≡ false → F (desk_of s proc) d bound → F (f (desk_of s proc)) d bound

module _ (F : Desk → Document → ℕ → Type 0) (s next : Seen) (proc : ProcId) (f : Desk → Desk) (doc : DocId) (g : Document → Document) (is : IsOneOfEach F s next proc f doc g) where
  desk_own : desk_of next proc ≡ f (desk_of s proc)
  desk_own =
      ap (λ (desks : List Desk). desk_in desks proc) is.desks ∙ desk_on_same f s.desks proc is.keeps_proc

  desk_other : (other : ProcId) → (proc.0 == other.0) ≡ false → desk_of next other ≡ desk_of s other
  desk_other other apart =
      ap (λ (desks : List Desk). desk_in desks other) is.desks ∙ desk_on_other f s.desks proc other is.keeps_proc apart

  -- what held before holds up to the new epoch
  grown : EachDocument F s → (at : DocId) (d : Document) (place : Place) → document_of s at ≡ Some d → place_of next d.nav ≡ Some place → F (desk_of s d.proc) d place.epoch.0
  grown each at d place there placed =
      let had : HadEpoch s d.nav place = is.had d.nav place placed in
      is.grows (desk_of s d.proc) d had.before.epoch.0 place.epoch.0 had.rises (each at d had.before there had.there)

  changed_holds : EachDocument F s → (old d : Document) (place : Place) → document_of s doc ≡ Some old → g old ≡ d → place_of next d.nav ≡ Some place → F (desk_of next d.proc) d place.epoch.0
  changed_holds each old d place there new placed =
      let placed_old : place_of next old.nav ≡ Some place = ap (λ (n : NavId). place_of next n) (sym (is.stays_in old) ∙ ap (λ (x : Document). x.nav) new) ∙ placed in
      let was : F (desk_of s proc) old place.epoch.0 = subst (λ (p : ProcId). F (desk_of s p) old place.epoch.0) (is.home old there) (grown each doc old place there placed_old) in
      let on : F (desk_of next proc) (g old) place.epoch.0 = subst (λ (k : Desk). F k (g old) place.epoch.0) (sym desk_own) (is.own old place there placed_old was) in
      subst (λ (x : Document). F (desk_of next x.proc) x place.epoch.0) new (subst (λ (p : ProcId). F (desk_of next p) (g old) place.epoch.0) (sym (is.stays old ∙ is.home old there)) on)

  other_holds : (d : Document) (bound : ℕ) → (doc.0 == d.nr.0) ≡ false → F (desk_of s d.proc) d bound → F (desk_of next d.proc) d bound
  other_holds d bound apart was = by_process (proc.0 == d.proc.0) refl
    where
      by_process : (b : Bool) → (proc.0 == d.proc.0) ≡ b → F (desk_of next d.proc) d bound
      by_process true e =
          let same : proc ≡ d.proc = proc_same proc d.proc e in
          subst (λ (p : ProcId). F (desk_of next p) d bound) same
          (subst (λ (k : Desk). F k d bound) (sym desk_own)
          (is.other d bound apart (subst (λ (p : ProcId). F (desk_of s p) d bound) (sym same) was)))
      by_process false e = subst (λ (k : Desk). F k d bound) (sym (desk_other d.proc e)) was

  pub each_stays : EachDocument F s → EachDocument F next
  each_stays each at d place found placed = by_document (doc.0 == at.0) refl
    where
      own : document_of next doc ≡ option_map g (document_of s doc)
      own =
          ap (λ (docs : List Document). find (λ (x : Document). x.nr.0 == doc.0) docs) is.documents
          ∙ find_on_same (λ (x : Document). x.nr.0) g doc.0 s.documents (λ x. ap (λ (nr : DocId). nr.0) (is.keeps_number x))

      by_old : (o : Option Document) → document_of s doc ≡ o → option_map g o ≡ Some d → F (desk_of next d.proc) d place.epoch.0
      by_old None e there = cc
      by_old (Some old) e there = (let new : g old ≡ d = cc in changed_holds each old d place e new placed)

      by_document : (b : Bool) → (doc.0 == at.0) ≡ b → F (desk_of next d.proc) d place.epoch.0
      by_document true e =
          let same : doc ≡ at = doc_same doc at e in
          by_old (document_of s doc) refl (sym own ∙ ap (λ (x : DocId). document_of next x) same ∙ found)
      by_document false e =
          let old : document_of s at ≡ Some d = sym (ap (λ (docs : List Document). find (λ (x : Document). x.nr.0 == at.0) docs) is.documents ∙ find_on_other (λ (x : Document). x.nr.0) g doc.0 at.0 s.documents (λ x. ap (λ (nr : DocId). nr.0) (is.keeps_number x)) e) ∙ found in
          let nr : d.nr.0 ≡ at.0 = find_has (λ (x : Document). x.nr.0) at.0 s.documents d old in
          other_holds d place.epoch.0 (rw nr e) (grown each at d place old placed)
