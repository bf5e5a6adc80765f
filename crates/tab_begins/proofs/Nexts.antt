-- The next step of the queue: those of loads that have ended are off, and the queue waits on from the first that is due.
use Rattle.apply_plan.specs.Standing.{are_settled}
use Rattle.load_table.specs.declared.load.Load.{Load}
use Rattle.log_model.specs.Places.{all_stand}
use Rattle.log_model.specs.declared.row_kind.RowKind.{RowKind}
use Rattle.move_queue.specs.declared.queue_step.QueueStep.{QueueStep}
use Rattle.move_queue.specs.declared.queue_step.QueueStep.TheVariants.{Ready, Reload, Traverse}
use Rattle.seen_laws.specs.InEvent.{now_of}
use Rattle.std.proofs.Common.{Bool, List, None, Option, [], ap, arith, false, inl, inr, refl, subst, sym, true, ℕ, ◌++◌, ◌<◌, ◌∙◌, ◌∷◌, ◌≡◌, ◌≤◌}
use Rattle.std.specs.Prelude.{if◌then◌else◌, length}
use Rattle.step_index.specs.Held.{history_held}
use Rattle.tab_begins.proofs.Turns.{stale_queue}
use Rattle.tab_begins.specs.Queueing.{AreUndue, HasQueue, IsAtRest, IsFirstDue, is_due_in}
use Rattle.tab_doors.specs.declared.tables.Tables.{Tables}
use Rattle.tab_ids.specs.declared.ReqId.{ReqId}
use Rattle.tab_ids.specs.declared.StateId.{StateId}
use Rattle.tab_one_pass.specs.PassedOn.{InPass, IsPassing}
use Rattle.tab_applies.proofs.PassedOn.{stand_is}
use Rattle.tab_applies.specs.PassedOn.{IsTurning}

-- all stand at the current step, as the tables tell
pub stand_here : (p : InPass) (out : List RowKind) (t : Tables) → IsPassing p out t → (k : ℕ) → k ≡ (history_held t.store).current → (b : Bool) → b ≡ are_settled (history_held t.store).rows k t.tree → b ≡ all_stand (now_of p.event out) (now_of p.event out).history.current
stand_here p out t passing k is b standing =
    standing ∙ stand_is p out t passing k
    ∙ ap (λ (n : ℕ). all_stand (now_of p.event out) n) (is ∙ passing.work.holds.history.current)

-- the steps from the first one on that is due
abbrev pub from_due : List Load → List QueueStep → List QueueStep
from_due table [] = []
from_due table (step ∷ steps) = if is_due_in table step then step ∷ steps else from_due table steps

-- those before it are not due
pub from_first : (table : List Load) (waiting : List QueueStep) (step : QueueStep) (rest : List QueueStep) → from_due table waiting ≡ step ∷ rest → IsFirstDue table waiting step rest
from_first table [] step rest is = absurd cc
from_first table (next ∷ more) step rest is = by_test (is_due_in table next) refl is (from_first table more step rest)
  where
    by_test : (b : Bool) → is_due_in table next ≡ b → (if b then next ∷ more else from_due table more) ≡ step ∷ rest → (from_due table more ≡ step ∷ rest → IsFirstDue table more step rest) → IsFirstDue table (next ∷ more) step rest
    by_test true due same later =
        let one : next ≡ step = cc in
        record { before = []; whole = same; undue = λ x has. absurd has; due = ap (is_due_in table) (sym one) ∙ due }
    by_test false due same later =
        let first = later same in
        record { before = next ∷ first.before; whole = ap (λ (l : List QueueStep). next ∷ l) first.whole; undue = undue first.before first.undue; due = first.due }
      where
        undue : (before : List QueueStep) → AreUndue table before → AreUndue table (next ∷ before)
        undue before are x (inl same_) = ap (is_due_in table) (sym same_) ∙ due
        undue before are x (inr has) = are x has

pub none_undue : (table : List Load) (waiting : List QueueStep) → from_due table waiting ≡ [] → AreUndue table waiting
none_undue table [] is = λ x has. absurd has
none_undue table (next ∷ more) is = by_test (is_due_in table next) refl is (none_undue table more)
  where
    by_test : (b : Bool) → is_due_in table next ≡ b → (if b then next ∷ more else from_due table more) ≡ [] → (from_due table more ≡ [] → AreUndue table more) → AreUndue table (next ∷ more)
    by_test true due same later = absurd cc
    by_test false due same later = undue (later same)
      where
        undue : AreUndue table more → AreUndue table (next ∷ more)
        undue are x (inl same_) = ap (is_due_in table) (sym same_) ∙ due
        undue are x (inr has) = are x has

-- the step that is taken off is the first that is due, or none is
pub due_here : (table : List Load) (was now_ : List QueueStep) (step : QueueStep) (rest : List QueueStep) → from_due table was ≡ from_due table now_ → now_ ≡ step ∷ rest → is_due_in table step ≡ true → IsFirstDue table was step rest
due_here table was now_ step rest same is due =
    from_first table was step rest (same ∙ ap (from_due table) is ∙ ap (λ (b : Bool). if b then step ∷ rest else from_due table rest) due)

pub none_here : (table : List Load) (was now_ : List QueueStep) → from_due table was ≡ from_due table now_ → now_ ≡ [] → AreUndue table was
none_here table was now_ same is = none_undue table was (same ∙ ap (from_due table) is)

-- and the other way
pub first_from : (table : List Load) (waiting : List QueueStep) (step : QueueStep) (rest : List QueueStep) → IsFirstDue table waiting step rest → from_due table waiting ≡ step ∷ rest
first_from table waiting step rest first =
    ap (from_due table) first.whole ∙ by_before first.before first.undue
  where
    by_before : (before : List QueueStep) → AreUndue table before → from_due table (before ++ step ∷ rest) ≡ step ∷ rest
    by_before [] are = ap (λ (b : Bool). if b then step ∷ rest else from_due table rest) first.due
    by_before (x ∷ more) are =
        ap (λ (b : Bool). if b then x ∷ (more ++ step ∷ rest) else from_due table (more ++ step ∷ rest)) (are x (inl refl)) ∙ by_before more (λ y has. are y (inr has))

pub undue_none : (table : List Load) (waiting : List QueueStep) → AreUndue table waiting → from_due table waiting ≡ []
undue_none table [] are = refl
undue_none table (x ∷ more) are =
    ap (λ (b : Bool). if b then x ∷ more else from_due table more) (are x (inl refl)) ∙ undue_none table more (λ y has. are y (inr has))

-- no more wait from there on
pub due_length : (table : List Load) (waiting : List QueueStep) → length (from_due table waiting) ≤ length waiting
due_length table [] = omega arith
due_length table (step ∷ steps) = by_test (is_due_in table step) (due_length table steps)
  where
    by_test : (b : Bool) → length (from_due table steps) ≤ length steps → length (if b then step ∷ steps else from_due table steps) ≤ length (step ∷ steps)
    by_test true more = omega arith
    by_test false more = omega (arith, more)

-- the first of them is due
pub due_first : (table : List Load) (waiting : List QueueStep) (step : QueueStep) (rest : List QueueStep) → from_due table waiting ≡ step ∷ rest → is_due_in table step ≡ true
due_first table [] step rest is = absurd cc
due_first table (next ∷ more) step rest is = by_test (is_due_in table next) refl is (due_first table more step rest)
  where
    by_test : (b : Bool) → is_due_in table next ≡ b → (if b then next ∷ more else from_due table more) ≡ step ∷ rest → (from_due table more ≡ step ∷ rest → is_due_in table step ≡ true) → is_due_in table step ≡ true
    by_test true due same later = (let one : next ≡ step = cc in ap (is_due_in table) (sym one) ∙ due)
    by_test false due same later = later same

-- so fewer wait behind the first that is due
pub due_fewer : (table : List Load) (waiting : List QueueStep) (step : QueueStep) (rest : List QueueStep) → from_due table waiting ≡ step ∷ rest → length rest < length waiting
due_fewer table waiting step rest is =
    let low = subst (λ (l : List QueueStep). length l ≤ length waiting) is (due_length table waiting) in omega (arith, low)

module _ (p : InPass) (out : List RowKind) (t : Tables) (passing : IsPassing p out t) (turning : IsTurning p.event out) (stand : all_stand (now_of p.event out) (now_of p.event out).history.current ≡ true) (none : (now_of p.event out).parked ≡ []) (blame : List (StateId × ReqId)) (rests : IsAtRest p.event t.running blame (now_of p.event out)) where
  pub due_queue : (waiting : List QueueStep) → HasQueue (now_of p.event out) None waiting → HasQueue (now_of p.event out) None (from_due t.loads waiting)
  due_queue [] queue = queue
  due_queue (step ∷ rest) queue = by_test (is_due_in t.loads step) refl (due_queue rest)
    where
      off : (x : QueueStep) → step ≡ x → is_due_in t.loads x ≡ false → HasQueue (now_of p.event out) None rest
      off (Ready req nav) is undue =
          subst (λ (r : Option ReqId). HasQueue (now_of p.event out) r rest) rests.idle (stale_queue p out t passing turning stand none blame rests step rest queue req nav is undue)
      off (Traverse req delta) is undue = absurd cc
      off (Reload req nav) is undue = absurd cc

      by_test : (b : Bool) → is_due_in t.loads step ≡ b → (HasQueue (now_of p.event out) None rest → HasQueue (now_of p.event out) None (from_due t.loads rest)) → HasQueue (now_of p.event out) None (if b then step ∷ rest else from_due t.loads rest)
      by_test true due more = queue
      by_test false undue more = more (off step refl undue)

  -- it waits before the others
  pub first_queue : (waiting : List QueueStep) → HasQueue (now_of p.event out) None waiting → (step : QueueStep) (rest : List QueueStep) → from_due t.loads waiting ≡ step ∷ rest → HasQueue (now_of p.event out) None (step ∷ rest)
  first_queue waiting queue step rest is = subst (λ (l : List QueueStep). HasQueue (now_of p.event out) None l) is (due_queue waiting queue)

  -- or none waits
  pub none_queue : (waiting left : List QueueStep) → HasQueue (now_of p.event out) None waiting → from_due t.loads waiting ≡ [] → left ≡ [] → HasQueue (now_of p.event out) t.running left
  none_queue waiting left queue is empty =
      subst (λ (r : Option ReqId). HasQueue (now_of p.event out) r left) (sym rests.idle)
      (subst (λ (l : List QueueStep). HasQueue (now_of p.event out) None l) (sym empty) (subst (λ (l : List QueueStep). HasQueue (now_of p.event out) None l) is (due_queue waiting queue)))
