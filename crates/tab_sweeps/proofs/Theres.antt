-- A stray document may be discarded as far as the tables go: nothing is asked, and it is the one that is there for its state.
use Rattle.seen_facts.proofs.Hang.Members.{has_map}
use Rattle.seen_facts.specs.Hang.Members.{Has}
use Rattle.seen_facts.proofs.Kept.States.{AreOfOwnStates, sole_states}
use Rattle.log_model.specs.Seen.{Document, Seen, document_of}
use Rattle.log_model.specs.declared.row_kind.RowKind.{RowKind}
use Rattle.seen_facts.specs.Asked.Asking.{HavePassed}
use Rattle.seen_facts.proofs.Rest.Still.{found_itself}
use Rattle.seen_laws.specs.InEvent.{now_of}
use Rattle.std.proofs.Common.{Bool, List, None, Some, ap, arith, false, map, subst, sym, true, ℕ, ◌==◌, ◌∙◌, ◌≡◌}
use Rattle.std.proofs.lemmas.Bool.Decides.{nat_tests}
use Rattle.std.specs.Prelude.{find}
use Rattle.tab_doors.proofs.Sights.{sight_of}
use Rattle.tab_doors.specs.Look.{Sight, sight}
use Rattle.tab_doors.specs.declared.tables.Tables.{Tables}
use Rattle.tab_ids.specs.declared.DocId.{DocId}
use Rattle.tab_ids.specs.declared.StateId.{StateId}
use Rattle.tab_passes.proofs.Lives.{listed_at}
use Rattle.tab_passes.specs.Leaving.{IsGoneAt, IsLeavingIn}
use Rattle.tab_passes.specs.Passing.{InPass}
use Rattle.tab_sweeps.proofs.Founds.{stray_lives}
use Rattle.tab_sweeps.proofs.Loads.{table_unloaded}
use Rattle.tab_sweeps.specs.Sweeping.{IsStray}

module _ {sweeps : Bool} (p : InPass) {left : List DocId} (out : List RowKind) (t : Tables) (leaving : IsLeavingIn sweeps p None left out t) (doc : DocId) (state : StateId) (stray : IsStray (now_of p.event out) doc state) where
  abbrev s : Seen
  s = now_of p.event out

  all_passed : HavePassed s
  all_passed = leaving.going.tab.asked.passed

  pub stray_unknown : stray.document.is_known_dead ≡ false
  stray_unknown = (leaving.going.tab.docs.each doc stray.document stray.found).live.unknown

  pub stray_gone : IsGoneAt s t.tree t.loads doc state
  stray_gone =
      record {
        document = stray.document;
        found = stray.found;
        its_state = own;
        ready = stray.ready;
        its = listed_at (map sight s.documents) t leaving.work.holds.documents doc (sight stray.document) (sight_of s doc stray.document stray.found) state (stray_lives p None out t leaving doc state stray);
        unloaded = table_unloaded s t.loads leaving.work.loads state stray.unloaded;
      }
    where
      own : (x : Sight) → Has (map sight s.documents) x → (x.nr.0 == doc.0) ≡ true → x.state ≡ state
      own x there same =
          let of_ = has_map sight s.documents x there in
          let first : of_.it.nr.0 ≡ x.nr.0 = ap (λ (y : Sight). y.nr.0) of_.is in
          let second : x.nr.0 ≡ doc.0 = grind (arith, nat_tests, same) in
          let at : document_of s doc ≡ Some of_.it = subst (λ (n : ℕ). find (λ (y : Document). y.nr.0 == n) s.documents ≡ Some of_.it) (first ∙ second) (found_itself s.documents of_.it leaving.going.tab.whose.numbered of_.there) in
          let two : Some of_.it ≡ Some stray.document = sym at ∙ stray.found in
          let one : of_.it ≡ stray.document = cc in
          ap (λ (y : Sight). y.state) (sym of_.is) ∙ ap (λ (y : Document). y.state) one ∙ stray.its_state

  pub stray_own : AreOfOwnStates s.documents s.kept doc state
  stray_own =
      subst (λ (x : StateId). AreOfOwnStates s.documents s.kept doc x) stray.its_state
      (sole_states s doc stray.document leaving.going.tab.kept (record {
        found = stray.found;
        only = λ other o there same undiscarded.
            ap (λ (n : DocId). n.0) (leaving.going.tab.docs.sole other doc o stray.document there stray.found (ap (λ (n : ℕ). let x : StateId = record { 0 = n } in x) same) undiscarded stray.undiscarded);
      }))
