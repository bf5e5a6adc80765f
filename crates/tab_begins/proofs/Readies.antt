-- A load of the table that is ready in the log is ready by the table: its document is the one that is there for its state.
use Rattle.seen_facts.specs.Doc.Docs.{AreDocs}
use Rattle.seen_facts.proofs.Hang.Members.{Passing, any_has, find_has, has_found}
use Rattle.load_table.specs.declared.load.Load.{Load}
use Rattle.seen_facts.specs.LoadTies.Tying.{IsLoadTied, is_for_state, made_for, phase_with}
use Rattle.log_model.specs.ActsAtOnce.{has_document, is_ready_load}
use Rattle.log_model.specs.Equal.{holds}
use Rattle.log_model.specs.Orders.{is_usable}
use Rattle.log_model.specs.Places.{is_ongoing_load}
use Rattle.log_model.specs.Seen.{Document, Seen, document_of}
use Rattle.seen_facts.proofs.Rest.Still.{found_itself}
use Rattle.seen_facts.specs.Rest.Between.{AreKept}
use Rattle.std.proofs.Common.{Bool, Option, Some, ap, arith, false, not, refl, sym, true, ℕ, ◌&&◌, ◌==◌, ◌||◌, ◌∙◌, ◌≡◌}
use Rattle.std.proofs.lemmas.Bool.Decides.{nat_tests}
use Rattle.std.proofs.lemmas.Bool.{and_parts}
use Rattle.std.specs.List.{list_any}
use Rattle.tab_ids.specs.declared.DocId.{DocId}
use Rattle.tab_ids.specs.declared.StateId.{StateId}
use Rattle.load_table.specs.declared.phase.Phase.TheVariants as phases

-- four tests
parts_of : (a b c d : Bool) → (let e : Bool = a && b && not c && not d in e) ≡ true → (a ≡ true) × (b ≡ true) × (c ≡ false) × (d ≡ false)
parts_of true true false false e = (refl, refl, refl, refl)
parts_of false b c d e = absurd cc
parts_of true false c d e = absurd cc
parts_of true true true d e = absurd cc
parts_of true true false true e = absurd cc

both_of : (a b c : Bool) → a ≡ true → b ≡ false → c ≡ false → (a && not (b || c)) ≡ true
both_of true false false x y z = refl
both_of false b c x y z = absurd cc
both_of true true c x y z = absurd cc
both_of true false true x y z = absurd cc

neither : (a b c : Bool) → (a && not (b || c)) ≡ true → (a ≡ true) × (b ≡ false)
neither true false false e = (refl, refl)
neither false b c e = absurd cc
neither true true c e = absurd cc
neither true false true e = absurd cc

same_state : (a b : StateId) → (a.0 == b.0) ≡ true → a ≡ b
same_state a b e = ap (λ (n : ℕ). let x : StateId = record { 0 = n } in x) (let same : a.0 ≡ b.0 = grind (arith, nat_tests, e) in same)

module _ (s : Seen) (docs : AreDocs s) (kept : AreKept s) (load : Load) (tied : IsLoadTied s load) (ready : is_ready_load s tied.q ≡ true) where
  there : list_any (λ (d : Document). is_usable d load.state) s.documents ≡ true
  there =
      sym (ap (λ (o : Option StateId). holds (λ (state : StateId). list_any (λ (d : Document). is_usable d state) s.documents) o) tied.state)
      ∙ (and_parts (is_ongoing_load tied.q) (has_document s tied.q) ready).1

  pub usable : Passing (λ (d : Document). is_usable d load.state) s.documents
  usable = any_has (λ (d : Document). is_usable d load.state) s.documents there

  abbrev pub it : Document
  it = usable.it

  its : ((it.state.0 == load.state.0) ≡ true) × (it.is_ready ≡ true) × (it.is_discarded ≡ false) × (it.is_known_dead ≡ false)
  its = parts_of (it.state.0 == load.state.0) it.is_ready it.is_discarded it.is_known_dead usable.passes

  -- what the table looks for is this one
  made : made_for s.documents load.state ≡ Some it
  made =
      by_first (has_found (is_for_state load.state) s.documents it usable.there (both_of (it.state.0 == load.state.0) it.is_discarded it.is_known_dead its.0 its.2 its.3))
    where
      by_first : (y : Document) × (made_for s.documents load.state ≡ Some y) → made_for s.documents load.state ≡ Some it
      by_first (y, at) =
          let has = find_has (is_for_state load.state) s.documents y at in
          let test = neither (y.state.0 == load.state.0) y.is_discarded y.is_known_dead has.1 in
          let y_at : document_of s y.nr ≡ Some y = found_itself s.documents y kept.numbered has.0 in
          let it_at : document_of s it.nr ≡ Some it = found_itself s.documents it kept.numbered usable.there in
          let states : y.state ≡ it.state = same_state y.state load.state test.0 ∙ sym (same_state it.state load.state its.0) in
          let number : y.nr ≡ it.nr = docs.sole y.nr it.nr y it y_at it_at states test.1 its.2 in
          let two : Some y ≡ Some it = sym y_at ∙ ap (λ (d : DocId). document_of s d) number ∙ it_at in
          at ∙ two

  pub ready_phase : load.phase ≡ phases.Ready it.nr
  ready_phase = tied.phase ∙ ap phase_with made ∙ rw its.1 refl
