-- The tables of a tab that was just opened stand for the one place of its log.
use Rattle.std.proofs.Common.{◌≡◌, ◌≤◌, ℕ, zero, suc, Bool, true, false, cond, List, [], ◌∷◌, length, Some, None, refl, ap, ◌∙◌, subst, arith}
use Rattle.std.specs.Prelude.{◌==◌, nat_le, slice_get}
use Rattle.std.proofs.lemmas.Bool.{eq-eqb}
use Rattle.std.proofs.lemmas.Bool.Decides.{nat_tests}
use Rattle.std.proofs.lemmas.Option.{none-some, same_Some}
use Rattle.tab_ids.specs.declared.NavId.{NavId}
use Rattle.tab_ids.specs.declared.StateId.{StateId}
use Rattle.tab_ids.specs.declared.DocId.{DocId}
use Rattle.tab_ids.specs.declared.EntryId.{EntryId}
use Rattle.log_model.specs.declared.row.Row.{Row}
use Rattle.log_model.specs.Opening.{opening_history}
use Rattle.log_model.specs.Equal.{holds}
use Rattle.log_model.specs.Seen.{Seen, Document, Place, place_in}
use Rattle.log_model.specs.Seen as seen
use Rattle.log_model.specs.Places.{top}
use Rattle.log_model.specs.AfterPlaces.{opening_place}
use Rattle.nav_tree.specs.declared.place.Place as live
use Rattle.nav_tree.specs.Tree.{Tree, top_node, document_of}
use Rattle.plan_laws.specs.Held.{AreAbove, AreHeld, IsKept, StandFor, IsLive, AreLive}
use Rattle.seen_facts.specs.Hang.AsPlaces.{HangsAs, IsChain}

-- the first entry and document state
abbrev first_entry : EntryId
first_entry = record { maker = 0; nr = 1 }

abbrev first_state : StateId
first_state = record { 0 = 1 }

-- the navigables of a tree that has the top alone
abbrev pub IsOpened : DocId → Tree → Type 0
IsOpened doc tree = tree.navs ≡ (top, top_node doc) ∷ []

module _ (address : List ℕ) (doc : DocId) (tree : Tree) (opened : IsOpened doc tree) where
  abbrev its : Place
  its = opening_place first_entry doc

  abbrev rows : List Row
  rows = (opening_history first_entry first_state address).rows

  -- there is no other place
  only_found : (nav : NavId) (place : Place) → place_in (its ∷ []) nav ≡ Some place → its ≡ place
  only_found nav place e = by_test (0 == nav.0) e
    where
      by_test : (b : Bool) → cond b (Some its) None ≡ Some place → its ≡ place
      by_test true e = same_Some its place e
      by_test false e = absurd (none-some place e)

  only_there : (i : ℕ) (place : Place) → slice_get (its ∷ []) i ≡ Some place → its ≡ place
  only_there zero place e = same_Some its place e
  only_there (suc i) place e = let no_ : None ≡ Some place = e in cc

  held : AreHeld (its ∷ []) tree
  held =
      record {
        order = rw opened refl;
        distinct = (refl, tt);
        above = λ i place e. subst (λ (p : Place). AreAbove tree p.nav p.above) (only_there i place e) (rw opened refl);
        depth = λ i place e. subst (λ (p : Place). length p.above ≤ length tree.navs) (only_there i place e) (omega arith);
      }

  kept : IsKept tree its
  kept = record { fields = (top_node doc).nav; there = rw opened refl; owner = refl; status = refl; given = refl; unmet = refl; stands = λ e. refl }

  hangs : HangsAs rows its
  hangs =
      record {
        top = λ e. refl;
        child = λ parent above e. absurd (let no_ : [] ≡ parent ∷ above = e in cc);
        hung = λ step parent above some e. absurd (let no_ : [] ≡ parent ∷ above = e in cc);
        rooted = λ step some. omega arith;
        begun = λ step shown. (let low : nat_le 0 step ≡ true = grind (arith, nat_tests) in rw low refl);
      }

  pub opening_stands : StandFor rows (its ∷ []) tree
  opening_stands =
      record {
        held = held;
        kept = λ nav place e. subst (λ (p : Place). IsKept tree p) (only_found nav place e) kept;
        hangs = λ nav place e. subst (λ (p : Place). HangsAs rows p) (only_found nav place e) hangs;
        chains = λ nav place e. subst (λ (p : Place). IsChain (its ∷ []) p.above) (only_found nav place e) tt;
      }

  -- the first document is live, where the tree has it for the first document state
  pub opening_lives : (s : Seen) (document : Document) (place : live.Place) → s.places ≡ its ∷ [] → seen.document_of s doc ≡ Some document → document.nr ≡ doc → document.state ≡ first_state → tree.places ≡ (first_state, place) ∷ [] → place.doc ≡ doc → AreLive s tree
  opening_lives s document place places_are found nr state_is placed doc_is other d there awake_on =
      let mine : its ≡ other = only_found other.nav other (rw places_are at there) in
      let same : seen.awake doc ≡ seen.awake d = ap (λ (p : Place). p.status) mine ∙ awake_on in
      let docs : doc ≡ d = cc in
      subst (λ (x : DocId). IsLive s tree x) docs (record { document = document; found = found; nr = nr; live = λ state. by_state state (state.0 == 1) refl })
    where
      self : (place.doc.0 == doc.0) ≡ true
      self = eq-eqb place.doc.0 doc.0 (ap (λ (x : DocId). x.0) doc_is)

      by_state : (state : StateId) (b : Bool) → (state.0 == 1) ≡ b → holds (λ (p : live.Place). p.doc.0 == doc.0) (document_of state tree) ≡ (state.0 == document.state.0)
      by_state state true e = rw (placed, state_is) (rw e self)
      by_state state false e = rw (placed, state_is) (rw e refl)
