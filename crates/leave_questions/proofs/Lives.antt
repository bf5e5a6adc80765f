-- Each document that a navigable is awake on is the one that the tables have for its document state.
use Rattle.leave_questions.proofs.Docs.{IsThere, wakes_there}
use Rattle.log_model.proofs.Refl.{nat_eq_refl}
use Rattle.log_model.specs.Equal.{holds}
use Rattle.log_model.specs.Seen.{Seen}
use Rattle.nav_tree.specs.Tree.{document_of}
use Rattle.nav_tree.specs.declared.place.Place as live
use Rattle.plan_laws.specs.Held.{AreLive}
use Rattle.seen_facts.proofs.Coord.Leadings.{doc_same}
use Rattle.seen_facts.proofs.Hang.Parts.{state_is}
use Rattle.seen_facts.specs.Home.Homes.{EachWake, IsHomed}
use Rattle.seen_laws.specs.Unasked.{unasked, unhandled}
use Rattle.std.proofs.Common.{Bool, List, None, Option, Some, ap, false, not, refl, sym, true, ◌&&◌, ◌==◌, ◌∙◌, ◌≡◌}
use Rattle.std.specs.Prelude.{option_map}
use Rattle.tab_doors.proofs.Sights.{sight_of}
use Rattle.tab_doors.specs.Look.{Sight, is_live_for, look_of, sight, sight_in}
use Rattle.tab_doors.specs.Ties.{Holds, IsListed}
use Rattle.tab_doors.specs.declared.tables.Tables.{Tables}
use Rattle.tab_ids.specs.declared.DocId.{DocId}
use Rattle.tab_ids.specs.declared.ReqId.{ReqId}
use Rattle.tab_ids.specs.declared.StateId.{StateId}
use Rattle.tab_passes.proofs.Lives.{listed_at, live_parts}
use Rattle.unasked.proofs.Readings.{document_read}

module _ (s : Seen) (checking : ReqId → Bool) (run : Option ReqId) (t : Tables) (holds_ : Holds (look_of (unasked checking s) run) t) where
  abbrev documents : List Sight
  documents = (look_of (unasked checking s) run).documents

  module _ (doc : DocId) (its : IsThere s doc) where
    seen_there : sight_in documents doc ≡ Some (sight (unhandled its.document))
    seen_there = sight_of (unasked checking s) doc (unhandled its.document) (document_read checking s doc ∙ ap (option_map unhandled) its.found)

    live_for : (state : StateId) → state ≡ its.document.state → is_live_for state (sight (unhandled its.document)) ≡ true
    live_for state same = rw (its.ready, its.undiscarded, its.unknown) (rw same (by_number (nat_eq_refl its.document.state.0)))
      where
        by_number : (its.document.state.0 == its.document.state.0) ≡ true → ((its.document.state.0 == its.document.state.0) && true && not false && not false) ≡ true
        by_number e = rw e refl

    pub live_state : (state : StateId) → holds (λ (place : live.Place). place.doc.0 == doc.0) (document_of state t.tree) ≡ (state.0 == its.document.state.0)
    live_state state = by_test (state.0 == its.document.state.0) refl
      where
        has_doc : Option live.Place → Bool
        has_doc o = holds (λ (place : live.Place). place.doc.0 == doc.0) o

        of_state : (o : Option live.Place) → option_map (λ (place : live.Place). place.doc) o ≡ Some doc → has_doc o ≡ true
        of_state None is = absurd cc
        of_state (Some place) is = let same : place.doc ≡ doc = cc in ap (λ (d : DocId). d.0 == doc.0) same ∙ nat_eq_refl doc.0

        of_other : (o : Option live.Place) → IsListed (is_live_for state) documents (option_map (λ (place : live.Place). place.doc) o) → (state.0 == its.document.state.0) ≡ false → has_doc o ≡ false
        of_other None is apart = refl
        of_other (Some place) one apart = by_doc (place.doc.0 == doc.0) refl
          where
            by_doc : (b : Bool) → (place.doc.0 == doc.0) ≡ b → (place.doc.0 == doc.0) ≡ false
            by_doc false is = is
            by_doc true is =
                let found : Some one.document ≡ Some (sight (unhandled its.document)) = sym one.found ∙ ap (λ (d : DocId). sight_in documents d) (doc_same place.doc doc is) ∙ seen_there in
                let same : one.document ≡ sight (unhandled its.document) = cc in
                let parts = live_parts state (unhandled its.document) (ap (is_live_for state) (sym same) ∙ one.passes) in
                let never : true ≡ false = sym (nat_eq_refl state.0) ∙ ap (λ (x : StateId). state.0 == x.0) (sym parts.0) ∙ apart in
                absurd cc

        by_test : (b : Bool) → (state.0 == its.document.state.0) ≡ b → has_doc (document_of state t.tree) ≡ b
        by_test true same = of_state (document_of state t.tree) (listed_at documents t holds_.documents doc (sight (unhandled its.document)) seen_there state (live_for state (state_is state its.document.state same)))
        by_test false apart = of_other (document_of state t.tree) (holds_.documents.live state) apart

  pub lives : EachWake (IsHomed (unasked checking s).documents) (unasked checking s) → AreLive s t.tree
  lives homed place doc placed wakes =
      let its = wakes_there s checking homed place.nav place doc placed wakes in
      record { document = its.document; found = its.found; nr = its.nr; live = live_state doc its }
