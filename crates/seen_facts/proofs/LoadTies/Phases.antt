-- The document of a load's document state, as documents are made and change.
use Rattle.std.proofs.Common.{◌≡◌, ℕ, Bool, true, false, cond, not, ◌&&◌, ◌||◌, ◌==◌, List, [], ◌∷◌, ◌++◌, map, Option, Some, None, refl, sym, ap, ◌∙◌, eqb-true}
use Rattle.std.specs.Prelude.{option_map}
use Rattle.tab_ids.specs.declared.DocId.{DocId}
use Rattle.tab_ids.specs.declared.StateId.{StateId}
use Rattle.tab_ids.specs.declared.EntryId.{EntryId}
use Rattle.log_model.specs.declared.change.Change.{Change}
use Rattle.log_model.specs.declared.change.Change.TheVariants as changes
use Rattle.log_model.specs.AfterDocuments.{applied_to, told_after_change, with_applied}
use Rattle.log_model.specs.Seen.{Document}
use Rattle.load_table.specs.declared.phase.Phase.{Phase}
use Rattle.load_table.specs.declared.phase.Phase.TheVariants as phases
use Rattle.load_table.specs.Loads.{makes}
use Rattle.seen_facts.specs.LoadTies.Tying.{is_for_state, made_for, phase_with}

-- one is sent for where there was none
pub made_sent : (documents : List Document) (d : Document) (state : StateId) → made_for documents state ≡ None → is_for_state state d ≡ true → made_for (documents ++ d ∷ []) state ≡ Some d
made_sent [] d state none is = rw is refl
made_sent (first ∷ documents) d state none is = by_test (is_for_state state first) none (made_sent documents d state)
  where
    by_test : (b : Bool) → cond b (Some first) (made_for documents state) ≡ None → (made_for documents state ≡ None → is_for_state state d ≡ true → made_for (documents ++ d ∷ []) state ≡ Some d) → cond b (Some first) (made_for (documents ++ d ∷ []) state) ≡ Some d
    by_test true e more = cc
    by_test false e more = more e is

-- a document of another state changes nothing
pub made_apart : (documents : List Document) (d : Document) (state : StateId) → is_for_state state d ≡ false → made_for (documents ++ d ∷ []) state ≡ made_for documents state
made_apart [] d state apart = rw apart refl
made_apart (first ∷ documents) d state apart = ap (λ (o : Option Document). cond (is_for_state state first) (Some first) o) (made_apart documents d state apart)

-- a change that keeps which are gone, and of which state each is
pub made_map : (g : Document → Document) (state : StateId) (documents : List Document) → ((d : Document) → is_for_state state (g d) ≡ is_for_state state d) → made_for (map g documents) state ≡ option_map g (made_for documents state)
made_map g state [] same = refl
made_map g state (d ∷ documents) same = rw (same d) (by_test (is_for_state state d) (made_map g state documents same))
  where
    by_test : (b : Bool) → made_for (map g documents) state ≡ option_map g (made_for documents state) → cond b (Some (g d)) (made_for (map g documents) state) ≡ option_map g (cond b (Some d) (made_for documents state))
    by_test true more = refl
    by_test false more = more

-- a change of a document that leaves what a phase reads of it
pub record LeavesPhase (g : Document → Document) : Type 0 where
  pub nr : (d : Document) → (g d).nr ≡ d.nr
  pub state : (d : Document) → (g d).state ≡ d.state
  pub ready : (d : Document) → (g d).is_ready ≡ d.is_ready
  pub discarded : (d : Document) → (g d).is_discarded ≡ d.is_discarded
  pub known : (d : Document) → (g d).is_known_dead ≡ d.is_known_dead

phase_of : DocId → Bool → Phase
phase_of doc ready = cond ready (phases.Ready doc) (phases.Populating doc)

pub phase_map : (g : Document → Document) (state : StateId) (documents : List Document) → LeavesPhase g → phase_with (made_for (map g documents) state) ≡ phase_with (made_for documents state)
phase_map g state documents leaves =
    ap (λ (o : Option Document). phase_with o) (made_map g state documents (λ d. same d)) ∙ by_made (made_for documents state)
  where
    same : (d : Document) → is_for_state state (g d) ≡ is_for_state state d
    same d =
        ap (λ (x : StateId). x.0 == state.0 && not ((g d).is_discarded || (g d).is_known_dead)) (leaves.state d)
        ∙ ap (λ (b : Bool). d.state.0 == state.0 && not (b || (g d).is_known_dead)) (leaves.discarded d)
        ∙ ap (λ (b : Bool). d.state.0 == state.0 && not (d.is_discarded || b)) (leaves.known d)

    by_made : (o : Option Document) → phase_with (option_map g o) ≡ phase_with o
    by_made None = refl
    by_made (Some d) =
        ap (λ (b : Bool). let p : Phase = cond b (phases.Ready (g d).nr) (phases.Populating (g d).nr) in p) (leaves.ready d)
        ∙ ap (λ (x : DocId). let p : Phase = cond d.is_ready (phases.Ready x) (phases.Populating x) in p) (leaves.nr d)

-- ---- the report that one is made is delivered

abbrev pub readied : DocId → Document → Document
readied doc d = cond (d.nr.0 == doc.0) (record d { is_ready = true; is_fresh = true }) d

readied_same : (doc : DocId) (state : StateId) (d : Document) → is_for_state state (readied doc d) ≡ is_for_state state d
readied_same doc state d = elim (d.nr.0 == doc.0) as (λ b. is_for_state state (cond b (record d { is_ready = true; is_fresh = true }) d) ≡ is_for_state state d) [ true ↦ refl | false ↦ refl ]

-- the load that waits for it is ready; another one is as it was
pub phase_ready : (doc : DocId) (state : StateId) (documents : List Document) → (let p : Phase = cond (makes doc (phase_with (made_for documents state))) (phases.Ready doc) (phase_with (made_for documents state)) in p) ≡ phase_with (made_for (map (readied doc) documents) state)
phase_ready doc state documents =
    by_made (made_for documents state) ∙ ap (λ (o : Option Document). phase_with o) (sym (made_map (readied doc) state documents (readied_same doc state)))
  where
    by_made : (o : Option Document) → (let p : Phase = cond (makes doc (phase_with o)) (phases.Ready doc) (phase_with o) in p) ≡ phase_with (option_map (readied doc) o)
    by_made None = refl
    by_made (Some d) = by_ready d.is_ready refl (d.nr.0 == doc.0) refl
      where
        same_nr : (d.nr.0 == doc.0) ≡ true → doc ≡ d.nr
        same_nr e = let n : d.nr.0 ≡ doc.0 = eqb-true d.nr.0 doc.0 e in ap (λ (k : ℕ). let x : DocId = record { 0 = k } in x) (sym n)

        by_ready : (b : Bool) → d.is_ready ≡ b → (c : Bool) → (d.nr.0 == doc.0) ≡ c → (let p : Phase = cond (makes doc (cond d.is_ready (phases.Ready d.nr) (phases.Populating d.nr))) (phases.Ready doc) (cond d.is_ready (phases.Ready d.nr) (phases.Populating d.nr)) in p) ≡ phase_with (Some (readied doc d))
        by_ready true e true f = rw (e, f) refl
        by_ready true e false f = rw (e, f) refl
        by_ready false e true f = rw (e, f) (ap (λ (x : DocId). phases.Ready x) (same_nr f))
        by_ready false e false f = rw (e, f) refl

-- ---- an applied change

kept_if : (test : Document → Bool) (f : Document → Document) → LeavesPhase f → LeavesPhase (λ (d : Document). cond (test d) (f d) d)
kept_if test f leaves =
    record {
      nr = λ d. elim (test d) as (λ b. (let x : Document = cond b (f d) d in x).nr ≡ d.nr) [ true ↦ leaves.nr d | false ↦ refl ];
      state = λ d. elim (test d) as (λ b. (let x : Document = cond b (f d) d in x).state ≡ d.state) [ true ↦ leaves.state d | false ↦ refl ];
      ready = λ d. elim (test d) as (λ b. (let x : Document = cond b (f d) d in x).is_ready ≡ d.is_ready) [ true ↦ leaves.ready d | false ↦ refl ];
      discarded = λ d. elim (test d) as (λ b. (let x : Document = cond b (f d) d in x).is_discarded ≡ d.is_discarded) [ true ↦ leaves.discarded d | false ↦ refl ];
      known = λ d. elim (test d) as (λ b. (let x : Document = cond b (f d) d in x).is_known_dead ≡ d.is_known_dead) [ true ↦ leaves.known d | false ↦ refl ];
    }

as_it_is : LeavesPhase (λ (d : Document). d)
as_it_is = record { nr = λ d. refl; state = λ d. refl; ready = λ d. refl; discarded = λ d. refl; known = λ d. refl }

told_phase : (c : Change) → LeavesPhase (λ (d : Document). told_after_change d c)
told_phase (changes.Push nav entry state address memo) =
    kept_if (λ (d : Document). d.nr.0 == entry.maker) (λ (d : Document). record d { told = None }) (record { nr = λ d. refl; state = λ d. refl; ready = λ d. refl; discarded = λ d. refl; known = λ d. refl })
told_phase (changes.Replace nav over entry state address memo) = as_it_is
told_phase (changes.AddFrame owner nav entry state) = as_it_is
told_phase (changes.RemoveFrame nav) = as_it_is
told_phase (changes.Traverse goal) = as_it_is
told_phase (changes.Reload nav) = as_it_is
told_phase changes.Edit = as_it_is

with_phase : (entry : EntryId) → LeavesPhase (λ (d : Document). with_applied entry d)
with_phase entry =
    kept_if (λ (d : Document). d.nr.0 == entry.maker) (λ (d : Document). record d { last_applied = entry.nr }) (record { nr = λ d. refl; state = λ d. refl; ready = λ d. refl; discarded = λ d. refl; known = λ d. refl })

applied_phase : (c : Change) → LeavesPhase (λ (d : Document). applied_to c d)
applied_phase (changes.Push nav entry state address memo) = with_phase entry
applied_phase (changes.Replace nav over entry state address memo) = with_phase entry
applied_phase (changes.AddFrame owner nav entry state) = as_it_is
applied_phase (changes.RemoveFrame nav) = as_it_is
applied_phase (changes.Traverse goal) = as_it_is
applied_phase (changes.Reload nav) =
    kept_if (λ (d : Document). d.nav.0 == nav.0) (λ (d : Document). record d { is_fresh = false }) (record { nr = λ d. refl; state = λ d. refl; ready = λ d. refl; discarded = λ d. refl; known = λ d. refl })
applied_phase changes.Edit = as_it_is

pub changed_phase : (c : Change) → LeavesPhase (λ (d : Document). applied_to c (told_after_change d c))
changed_phase c =
    record {
      nr = λ d. (applied_phase c).nr (told_after_change d c) ∙ (told_phase c).nr d;
      state = λ d. (applied_phase c).state (told_after_change d c) ∙ (told_phase c).state d;
      ready = λ d. (applied_phase c).ready (told_after_change d c) ∙ (told_phase c).ready d;
      discarded = λ d. (applied_phase c).discarded (told_after_change d c) ∙ (told_phase c).discarded d;
      known = λ d. (applied_phase c).known (told_after_change d c) ∙ (told_phase c).known d;
    }
