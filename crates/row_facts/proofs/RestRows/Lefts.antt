-- The documents that navigables are awake on are among those that are left with these navigables.
use Rattle.std.proofs.Common.{◌≡◌, inl, inr, Bool, true, false, ◌||◌, ◌==◌, List, [], ◌∷◌, Option, Some, None, refl, sym, subst}
use Rattle.tab_ids.specs.declared.DocId.{DocId}
use Rattle.tab_ids.specs.declared.NavId.{NavId}
use Rattle.log_model.specs.AfterPlaces.{without_doc}
use Rattle.log_model.specs.Equal.{has_doc}
use Rattle.log_model.specs.History.{has_nav}
use Rattle.log_model.specs.Places.{awake_document}
use Rattle.log_model.specs.Seen.{Place, awake, place_in}
use Rattle.log_model.proofs.Refl.{nat_eq_refl}
use Rattle.seen_facts.specs.Hang.Members.{Has}
use Rattle.seen_facts.proofs.Hang.Members.{find_has}
use Rattle.row_facts.specs.RestRows.Left.{shown_by}
use Rattle.row_facts.proofs.RestRows.Again.{stays_without}

shown_has : (navs : List NavId) (places : List Place) (place : Place) (doc : DocId) → Has places place → place.status ≡ awake doc → has_nav navs place.nav ≡ true → has_doc (shown_by navs places) doc ≡ true
shown_has navs [] place doc never wakes has = absurd never
shown_has navs (p ∷ places) place doc (inl same) wakes has =
    subst (λ (q : Place). has_doc (shown_by navs (q ∷ places)) doc ≡ true) (sym same) (rw has (rw wakes (rw (nat_eq_refl doc.0) refl)))
shown_has navs (p ∷ places) place doc (inr more) wakes has =
    by_test (has_nav navs p.nav) refl (shown_has navs places place doc more wakes has)
  where
    by_document : (o : Option DocId) → awake_document p ≡ o → has_nav navs p.nav ≡ true → has_doc (shown_by navs places) doc ≡ true → has_doc (shown_by navs (p ∷ places)) doc ≡ true
    by_document None f e rest = rw e (rw f rest)
    by_document (Some d) f e rest = rw e (rw f (skip (d.0 == doc.0)))
      where
        skip : (c : Bool) → (c || has_doc (shown_by navs places) doc) ≡ true
        skip true = refl
        skip false = rest

    by_test : (b : Bool) → has_nav navs p.nav ≡ b → has_doc (shown_by navs places) doc ≡ true → has_doc (shown_by navs (p ∷ places)) doc ≡ true
    by_test true e rest = by_document (awake_document p) refl e rest
    by_test false e rest = rw e rest

-- but one document that is left out
pub left_has : (navs : List NavId) (places : List Place) (nav : NavId) (place : Place) (doc out : DocId) → place_in places nav ≡ Some place → place.status ≡ awake doc → has_nav navs place.nav ≡ true → (doc.0 == out.0) ≡ false → has_doc (without_doc out (shown_by navs places)) doc ≡ true
left_has navs places nav place doc out there wakes has apart =
    stays_without out (shown_by navs places) doc apart
    (shown_has navs places place doc (find_has (λ (p : Place). p.nav.0 == nav.0) places place there).0 wakes has)
