-- A change made of two histories that are the same but for the order of their rows: what it asks for, whether it fits, why it is refused and what it leaves are the same.
use Rattle.std.proofs.Common.{◌≡◌, ◌≢◌, ℕ, ◌≤◌, ◌<◌, suc, Bool, true, false, not, ◌&&◌, ◌||◌, List, [], ◌∷◌, ◌++◌, length, refl, ap, sym, ◌∙◌, subst, arith, fold, take, drop, get_or, drop-cons}
use Rattle.std.specs.Prelude.{◌==◌}
use Rattle.std.specs.List.{list_any}
use Rattle.std.proofs.Math.Seq.{take-suc}
use Rattle.std.proofs.lemmas.Bool.{false≢true, true≢false, eqb-true}
use Rattle.std.proofs.lemmas.List.Sums.{fold-append}
use Rattle.tab_ids.specs.declared.NavId.{NavId}
use Rattle.tab_ids.specs.declared.StateId.{StateId}
use Rattle.log_model.specs.declared.row.Row.{Row}
use Rattle.log_model.specs.declared.change.Change.{Change}
use Rattle.log_model.specs.declared.change.Change.TheVariants.{Push, Replace, AddFrame, RemoveFrame, Traverse, Reload, Edit}
use Rattle.log_model.specs.History.{History, Fits, fits, applied, same_entry, is_of, has_row, has_nav, has_state}
use Rattle.log_model.specs.Order.{ordered, SameHistory}
use Rattle.log_model.specs.Soundness.{is_entry, is_in_state, stands_at, IsRooted, IsSound}
use Rattle.history_laws.proofs.Sorted.{ordered-any}
use Rattle.history_laws.proofs.InOrder.{count_by-ordered, IsSound-ordered, greatest_step-ordered, fits-ordered, applied-ordered, KeepsSame}
use Rattle.entry_store.specs.declared.error.StoreError.{StoreError}
use Rattle.entry_store.specs.declared.error.StoreError.TheVariants as errors
use Rattle.entry_store.specs.Store.{IsStateOf, MayTake, IsRefused, lacks_navigable, lacks_entry, takes_used_number}
use Rattle.entry_store.specs.Replay.{MayReplay}
use Rattle.entry_store.proofs.ForCallers.{MayTake-ordered}

abbrev in_order : History → History
in_order history = record history { rows = ordered history.rows }

-- ---- a history is sound where it is so in order

IsRooted-unordered : (rows : List Row) → IsRooted (ordered rows) → IsRooted rows
IsRooted-unordered rows rooted = record {
  owners = λ nav one other first second. rooted.owners nav one other (ordered-any _ rows ∙ first) (ordered-any _ rows ∙ second);
  top_owner = λ nav owner hangs. rooted.top_owner nav owner (ordered-any _ rows ∙ hangs);
  child_owner = λ nav free. rooted.child_owner nav (ordered-any _ rows ∙ free);
  states = λ state one other first second. rooted.states state one other (ordered-any _ rows ∙ first) (ordered-any _ rows ∙ second);
  another = λ nav owner hangs. sym (ordered-any _ rows) ∙ rooted.another nav owner (ordered-any _ rows ∙ hangs);
  leads = λ nav has test at_top goes_down. rooted.leads nav (ordered-any (is_of nav) rows ∙ has) test at_top (λ child parent owner hangs holds. goes_down child parent owner (sym (ordered-any _ rows) ∙ hangs) (sym (ordered-any _ rows) ∙ holds));
}

IsSound-unordered : (history : History) → IsSound (record history { rows = ordered history.rows }) → IsSound history
IsSound-unordered history sound = record {
  entries = λ entry. omega (arith, count_by-ordered (is_entry entry) history.rows, sound.entries entry);
  steps = λ nav step. omega (arith, count_by-ordered (stands_at nav step) history.rows, sound.steps nav step);
  rooted = IsRooted-unordered history.rows sound.rooted;
  top_row = λ nav top. sym (ordered-any (stands_at nav 0) history.rows) ∙ sound.top_row nav top;
  anchored = λ nav owner hangs. sym (ordered-any _ history.rows) ∙ sound.anchored nav owner (ordered-any _ history.rows ∙ hangs);
}

-- ---- what may be asked of a history may be asked of it in order

state_in_order : (history : History) (nav : NavId) (state : StateId) → IsStateOf nav state history.rows → IsStateOf nav state (ordered history.rows)
state_in_order history nav state mine other has = mine other (sym (ordered-any _ history.rows) ∙ has)

MayTake-in_order : (history : History) → IsSound history → (change : Change) → MayTake history change → MayTake (record history { rows = ordered history.rows }) change
MayTake-in_order history sound (Push nav entry state address memo) may = (ordered-any (is_entry entry) history.rows ∙ may.0, state_in_order history nav state may.1)
MayTake-in_order history sound (Replace nav over entry state address memo) may = (ordered-any (is_entry entry) history.rows ∙ may.0, state_in_order history nav state may.1)
MayTake-in_order history sound (AddFrame owner nav entry state) may = (ordered-any (is_entry entry) history.rows ∙ may.0, ordered-any (is_in_state state) history.rows ∙ may.1)
MayTake-in_order history sound (RemoveFrame nav) may = tt
MayTake-in_order history sound (Traverse goal) may = subst (λ n. goal.0 ≤ n) (sym (greatest_step-ordered history.rows sound.steps)) may
MayTake-in_order history sound (Reload nav) may = tt
MayTake-in_order history sound Edit may = tt

-- ---- two histories

HasAdded : History → Type 0
HasAdded history = (nav : NavId) → has_row nav history.rows ≡ true → nav.0 ≢ 0 → has_nav history.added nav ≡ true

keeps_same : (history : History) → ((nav : NavId) → has_row nav history.rows ≡ true → nav.0 ≢ 0 → has_nav history.added nav ≡ true) → (change : Change) → Fits history change → MayTake history change → KeepsSame history change
keeps_same history added (Push nav entry state address memo) fit may = tt
keeps_same history added (Replace nav over entry state address memo) fit may = (fit, may.0, may.1)
keeps_same history added (AddFrame owner nav entry state) fit may =
    by_parts (has_state owner history.rows) (nav.0 == 0) refl (has_nav history.added nav) refl fit (has_row nav history.rows) refl
  where
    by_parts : (a b : Bool) → (nav.0 == 0) ≡ b → (c : Bool) → has_nav history.added nav ≡ c → (a && not b && not c) ≡ true → (d : Bool) → has_row nav history.rows ≡ d → has_row nav history.rows ≡ false
    by_parts a b top c was fits false none = none
    by_parts false b top c was fits true has = absurd (false≢true fits)
    by_parts true true top c was fits true has = absurd (false≢true fits)
    by_parts true false top true was fits true has = absurd (false≢true fits)
    by_parts true false top false was fits true has =
        absurd (false≢true (sym was ∙ added nav has (λ is. false≢true (sym top ∙ Rattle.std.proofs.lemmas.Bool.eq-eqb nav.0 0 is))))
keeps_same history added (RemoveFrame nav) fit may = tt
keeps_same history added (Traverse goal) fit may = tt
keeps_same history added (Reload nav) fit may = tt
keeps_same history added Edit fit may = tt

sym_same : (one other : History) → SameHistory one other → SameHistory other one
sym_same one other same = record { rows = sym same.rows; current = sym same.current; added = sym same.added }

pub trans_same : (one other third : History) → SameHistory one other → SameHistory other third → SameHistory one third
trans_same one other third same too = record { rows = same.rows ∙ too.rows; current = same.current ∙ too.current; added = same.added ∙ too.added }

one_order : (one other : History) → SameHistory one other → in_order one ≡ in_order other
one_order one other same =
    ap (λ (rows : List Row). record { rows = rows; current = one.current; added = one.added }) same.rows
    ∙ ap (λ (n : ℕ). record { rows = ordered other.rows; current = n; added = one.added }) same.current
    ∙ ap (λ (navs : List NavId). record { rows = ordered other.rows; current = other.current; added = navs }) same.added

pub sound_same : (one other : History) → SameHistory one other → IsSound one → IsSound other
sound_same one other same sound = IsSound-unordered other (subst IsSound (one_order one other same) (IsSound-ordered one sound))

module _ (one other : History) (same : SameHistory one other) (sound : IsSound one) where
  sound_too : IsSound other
  sound_too = sound_same one other same sound

  any_same : (test : Row → Bool) → list_any test one.rows ≡ list_any test other.rows
  any_same test = sym (ordered-any test one.rows) ∙ ap (list_any test) same.rows ∙ ordered-any test other.rows

  pub may_same : (change : Change) → MayTake other change → MayTake one change
  may_same change may =
      MayTake-ordered one sound change
      (subst (λ (history : History). MayTake history change) (sym (one_order one other same)) (MayTake-in_order other sound_too change may))

  pub fits_same : (change : Change) → fits one change ≡ fits other change
  fits_same change =
      sym (fits-ordered one sound change) ∙ ap (λ (history : History). fits history change) (one_order one other same) ∙ fits-ordered other sound_too change

  -- what a change leaves
  pub applied_same : ((nav : NavId) → has_row nav one.rows ≡ true → nav.0 ≢ 0 → has_nav one.added nav ≡ true) → (change : Change) → Fits one change → MayTake other change → SameHistory (applied one change) (applied other change)
  applied_same added change fit may =
      let added_too : (nav : NavId) → has_row nav other.rows ≡ true → nav.0 ≢ 0 → has_nav other.added nav ≡ true = λ nav has child. sym (ap (λ navs. has_nav navs nav) same.added) ∙ added nav (any_same (is_of nav) ∙ has) child in
      trans_same (applied one change) (applied (in_order one) change) (applied other change)
      (applied-ordered one sound change (keeps_same one added change fit (may_same change may)))
      (subst (λ (history : History). SameHistory (applied history change) (applied other change)) (sym (one_order one other same))
      (sym_same (applied other change) (applied (in_order other) change) (applied-ordered other sound_too change (keeps_same other added_too change (sym (fits_same change) ∙ fit) may))))

  -- why it is refused
  lacks_nav_same : (change : Change) → lacks_navigable one change ≡ lacks_navigable other change
  lacks_nav_same (Push nav entry state address memo) = ap not (fits_same (Push nav entry state address memo))
  lacks_nav_same (Replace nav over entry state address memo) = ap not (any_same (is_of nav))
  lacks_nav_same (AddFrame owner nav entry state) = refl
  lacks_nav_same (RemoveFrame nav) = ap (λ b. (nav.0 == 0) || not b) (any_same (is_of nav))
  lacks_nav_same (Traverse goal) = refl
  lacks_nav_same (Reload nav) = ap not (any_same (is_of nav))
  lacks_nav_same Edit = refl

  lacks_entry_same : (change : Change) → lacks_entry one change ≡ lacks_entry other change
  lacks_entry_same (Push nav entry state address memo) = refl
  lacks_entry_same (Replace nav over entry state address memo) = ap not (any_same (λ row. same_entry row.entry over && is_of nav row))
  lacks_entry_same (AddFrame owner nav entry state) = ap not (any_same (is_in_state owner))
  lacks_entry_same (RemoveFrame nav) = refl
  lacks_entry_same (Traverse goal) = refl
  lacks_entry_same (Reload nav) = refl
  lacks_entry_same Edit = refl

  takes_same : (change : Change) → takes_used_number one change ≡ takes_used_number other change
  takes_same (Push nav entry state address memo) = refl
  takes_same (Replace nav over entry state address memo) = refl
  takes_same (AddFrame owner nav entry state) = ap (λ navs. (nav.0 == 0) || has_nav navs nav) same.added
  takes_same (RemoveFrame nav) = refl
  takes_same (Traverse goal) = refl
  takes_same (Reload nav) = refl
  takes_same Edit = refl

  pub refused_same : (change : Change) (error : StoreError) → IsRefused one change error → IsRefused other change error
  refused_same change errors.NoNavigable lacks = sym (lacks_nav_same change) ∙ lacks
  refused_same change errors.NoEntry lacks = (sym (lacks_nav_same change) ∙ lacks.0, sym (lacks_entry_same change) ∙ lacks.1)
  refused_same change errors.NavTaken lacks = (sym (lacks_nav_same change) ∙ lacks.0, sym (lacks_entry_same change) ∙ lacks.1, sym (takes_same change) ∙ lacks.2)
  refused_same change errors.OutOfMemory lacks = tt

-- ---- along the list

pub next_history : (history : History) (changes : List Change) (i : ℕ) (change : Change) → i < length changes → change ≡ get_or changes i change → fold applied history (take (suc i) changes) ≡ applied (fold applied history (take i changes)) change
next_history history changes i change within is =
    ap (fold applied history) (take-suc changes i change within)
    ∙ fold-append applied history (take i changes) (get_or changes i change ∷ [])
    ∙ ap (λ (c : Change). applied (fold applied history (take i changes)) c) (sym is)

pub next_may : (history : History) (changes : List Change) (i : ℕ) (change : Change) → i < length changes → change ≡ get_or changes i change → MayReplay history (drop i changes) → MayReplay history (change ∷ drop (suc i) changes)
next_may history changes i change within is may =
    subst (λ (c : Change). MayReplay history (c ∷ drop (suc i) changes)) (sym is) (subst (λ (rest : List Change). MayReplay history rest) (drop-cons changes i change within) may)

pub cut_changes : (changes : List Change) (i : ℕ) (change : Change) → i < length changes → change ≡ get_or changes i change → changes ≡ take i changes ++ change ∷ drop (suc i) changes
cut_changes changes i change within is =
    sym (Rattle.std.proofs.lemmas.List.take-append-drop i changes) ∙ ap (λ rest. take i changes ++ rest) (drop-cons changes i change within ∙ ap (λ (c : Change). c ∷ drop (suc i) changes) (sym is))
