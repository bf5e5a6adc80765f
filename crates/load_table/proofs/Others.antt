-- A change of one navigable's load leaves the loads of the others.
use Rattle.std.proofs.Common.{◌≡◌, Result, Ok, Err, OnOk, Bool, true, false, not, List, [], ◌∷◌, find, Some, refl, ap, subst, arith, cond, if◌then◌else◌}
use Rattle.std.proofs.lemmas.Bool.Decides.{nat_tests}
use Rattle.tab_ids.specs.declared.NavId.{NavId}
use Rattle.load_table.specs.declared.load.Load.{Load}
use Rattle.load_table.specs.declared.phase.Phase.{Phase}
use Rattle.load_table.specs.Loads.{is_nav, is_of, ongoing_load, begun, cancelled, in_phase, moved_on, KeepsOthers}

-- what is of one navigable isn't of another
apart : (nav other : NavId) (load : Load) → is_nav other nav ≡ false → is_of nav load ≡ true → is_of other load ≡ false
apart nav other load differs same = grind (arith, nat_tests, differs, same)

pub others_begun : (load : Load) (loads : List Load) → KeepsOthers load.nav loads (begun load loads)
others_begun load [] other differs = rw differs refl
others_begun load (first ∷ loads) other differs =
    (elim (is_of load.nav first) as (λ b. is_of load.nav first ≡ b → ongoing_load other (if b then load ∷ loads else first ∷ begun load loads) ≡ ongoing_load other (first ∷ loads)) [
      | true ↦ λ same. rw (differs, apart load.nav other first differs same) refl
      | false ↦ λ _. ap (λ rest. cond (is_of other first) (Some first) rest) (others_begun load loads other differs)
    ]) refl

pub others_cancelled : (nav : NavId) (loads : List Load) → KeepsOthers nav loads (cancelled nav loads)
others_cancelled nav [] other differs = refl
others_cancelled nav (first ∷ loads) other differs =
    (elim (is_of nav first) as (λ b. is_of nav first ≡ b → ongoing_load other (cond (not b) (first ∷ cancelled nav loads) (cancelled nav loads)) ≡ ongoing_load other (first ∷ loads)) [
      | true ↦ λ same. rw (apart nav other first differs same) (others_cancelled nav loads other differs)
      | false ↦ λ _. ap (λ rest. cond (is_of other first) (Some first) rest) (others_cancelled nav loads other differs)
    ]) refl

-- the first that passes is of the navigable
pub others_moved_on : (test : Load → Bool) (nav : NavId) (phase : Phase) (loads : List Load) → ((load : Load) → find test loads ≡ Some load → is_of nav load ≡ true) → KeepsOthers nav loads (moved_on test phase loads)
others_moved_on test nav phase [] of other differs = refl
others_moved_on test nav phase (first ∷ loads) of other differs =
    (elim (test first) as (λ b. ((load : Load) → cond b (Some first) (find test loads) ≡ Some load → is_of nav load ≡ true) → ongoing_load other (if b then in_phase phase first ∷ loads else first ∷ moved_on test phase loads) ≡ ongoing_load other (first ∷ loads)) [
      | true ↦ λ this. rw (apart nav other first differs (this first refl)) refl
      | false ↦ λ behind. ap (λ rest. cond (is_of other first) (Some first) rest) (others_moved_on test nav phase loads behind other differs)
    ]) of

-- what is found passes
find-passes : (test : Load → Bool) (loads : List Load) (load : Load) → find test loads ≡ Some load → test load ≡ true
find-passes test [] load this = (cc)
find-passes test (first ∷ loads) load this =
    (elim (test first) as (λ b. test first ≡ b → cond b (Some first) (find test loads) ≡ Some load → test load ≡ true) [
      | true ↦ λ passes here. let one : first ≡ load = cc here in subst (λ (l : Load). test l ≡ true) one passes
      | false ↦ λ _ behind. find-passes test loads load behind
    ]) refl this

-- a load that moves on by its navigable, and one that a test finds
pub others_by_nav : (nav : NavId) (phase : Phase) (loads : List Load) → KeepsOthers nav loads (moved_on (is_of nav) phase loads)
others_by_nav nav phase loads = others_moved_on (is_of nav) nav phase loads (λ load this. find-passes (is_of nav) loads load this)

pub others_by_test : (test : Load → Bool) (phase : Phase) (loads : List Load) (load : Load) → find test loads ≡ Some load → KeepsOthers load.nav loads (moved_on test phase loads)
others_by_test test phase loads load this =
    let itself : is_of load.nav load ≡ true = grind (arith, nat_tests) in
    others_moved_on test load.nav phase loads (λ l found. let one : load ≡ l = cc (this, found) in subst (λ (l' : Load). is_of load.nav l' ≡ true) one itself)

-- what follows from a fact for an Ok holds for it
pub on_ok : {T E : Type 0} (r : Result T E) (P Q : Type 0) → (P → Q) → OnOk r P → OnOk r Q
on_ok (Ok x) P Q f p = f p
on_ok (Err e) P Q f p = p
