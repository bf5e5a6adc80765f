-- A document that a navigable is awake on is of that navigable, whatever row comes.
use Rattle.std.proofs.Common.{◌≡◌, Bool, true, false, ◌==◌, List, Option, Some, None, refl, sym, ap, ◌∙◌}
use Rattle.std.specs.Prelude.{find, option_map}
use Rattle.tab_ids.specs.declared.DocId.{DocId}
use Rattle.tab_ids.specs.declared.NavId.{NavId}
use Rattle.log_model.specs.Seen.{Seen, Document, Place, awake, document_of, place_of}
use Rattle.log_model.specs.After.{on_document}
use Rattle.seen_laws.proofs.Keyed.{find_on_same, find_on_other}
use Rattle.seen_facts.specs.Coord.Leading.{EachIsOfItsNavigable}
use Rattle.seen_facts.proofs.Coord.Leadings.{doc_same, WasAwake, EachWasAwake}

-- the navigable had its status before
pub record HadStatus (s : Seen) (nav : NavId) (place : Place) : Type 0 where
  pub before : Place
  pub there : place_of s nav ≡ Some before
  pub status : before.status ≡ place.status

-- each navigable that is awake was so before, on the same document
abbrev pub EachHadStatus : Seen → Seen → Type 0
EachHadStatus s next =
    (nav : NavId) (place : Place) (doc : DocId) → place_of next nav ≡ Some place → place.status ≡ awake doc → HadStatus s nav place

pub had_status : (s next : Seen) → EachWasAwake s next → EachHadStatus s next
had_status s next places nav place doc placed wakes =
    let was : WasAwake s nav place = places nav place placed in
    record { before = was.before; there = was.there; status = was.status }

-- no document is changed
pub whose_same : (s next : Seen) → next.documents ≡ s.documents → EachHadStatus s next → EachIsOfItsNavigable s → EachIsOfItsNavigable next
whose_same s next same places whose nav place at d placed wakes found =
    let was : HadStatus s nav place = places nav place at placed wakes in
    whose nav was.before at d was.there (was.status ∙ wakes) (ap (λ (documents : List Document). document_of (record s { documents = documents }) at) (sym same) ∙ found)

-- one document is changed, and stays in its navigable
pub whose_one : (s next : Seen) (doc : DocId) (g : Document → Document) → next.documents ≡ on_document doc g s.documents → ((d : Document) → (g d).nr ≡ d.nr) → ((d : Document) → (g d).nav ≡ d.nav) → EachHadStatus s next → EachIsOfItsNavigable s → EachIsOfItsNavigable next
whose_one s next doc g documents keeps stays places whose nav place at d placed wakes found = by_document (doc.0 == at.0) refl
  where
    was : HadStatus s nav place
    was = places nav place at placed wakes

    old_of : (old : Document) → document_of s at ≡ Some old → old.nav.0 ≡ nav.0
    old_of old there = whose nav was.before at old was.there (was.status ∙ wakes) there

    by_old : (o : Option Document) → document_of s doc ≡ o → option_map g o ≡ Some d → doc ≡ at → d.nav.0 ≡ nav.0
    by_old None e there same = cc
    by_old (Some old) e there same =
        let new : g old ≡ d = cc in
        ap (λ (x : Document). x.nav.0) (sym new) ∙ ap (λ (n : NavId). n.0) (stays old) ∙ old_of old (sym (ap (λ (x : DocId). document_of s x) same) ∙ e)

    by_document : (b : Bool) → (doc.0 == at.0) ≡ b → d.nav.0 ≡ nav.0
    by_document true e =
        let same : doc ≡ at = doc_same doc at e in
        let own : document_of next doc ≡ option_map g (document_of s doc) = ap (λ (docs : List Document). find (λ (x : Document). x.nr.0 == doc.0) docs) documents ∙ find_on_same (λ (x : Document). x.nr.0) g doc.0 s.documents (λ x. ap (λ (nr : DocId). nr.0) (keeps x)) in
        by_old (document_of s doc) refl (sym own ∙ ap (λ (x : DocId). document_of next x) same ∙ found) same
    by_document false e =
        let other : document_of next at ≡ document_of s at = ap (λ (docs : List Document). find (λ (x : Document). x.nr.0 == at.0) docs) documents ∙ find_on_other (λ (x : Document). x.nr.0) g doc.0 at.0 s.documents (λ x. ap (λ (nr : DocId). nr.0) (keeps x)) e in
        old_of d (sym other ∙ found)
