-- What a crate above may cite of a store's changes: what they need of a history put in order, and why one that fits is refused.
use Rattle.std.proofs.Common.{◌≡◌, ◌≤◌, Bool, true, false, not, ◌&&◌, ◌||◌, refl, sym, ◌∙◌, subst}
use Rattle.std.specs.Prelude.{◌==◌}
use Rattle.std.proofs.lemmas.Bool.{false≢true, and_parts}
use Rattle.tab_ids.specs.declared.NavId.{NavId}
use Rattle.tab_ids.specs.declared.StateId.{StateId}
use Rattle.log_model.specs.declared.change.Change.{Change}
use Rattle.log_model.specs.declared.change.Change.TheVariants.{Push, Replace, AddFrame, RemoveFrame, Traverse, Reload, Edit}
use Rattle.log_model.specs.History.{History, Fits, same_entry, is_of, has_row, has_nav, has_state}
use Rattle.log_model.specs.Order.{ordered}
use Rattle.log_model.specs.Soundness.{is_entry, is_in_state, IsSound}
use Rattle.history_laws.proofs.Members.{list_any-weaker}
use Rattle.history_laws.proofs.Sorted.{ordered-any}
use Rattle.history_laws.proofs.InOrder.{greatest_step-ordered}
use Rattle.entry_store.specs.declared.error.StoreError.{StoreError}
use Rattle.entry_store.specs.declared.error.StoreError.TheVariants as errors
use Rattle.entry_store.specs.Store.{IsStateOf, MayTake, IsRefused}

-- ---- a history put in order

state_of : (history : History) (nav : NavId) (state : StateId) → IsStateOf nav state (ordered history.rows) → IsStateOf nav state history.rows
state_of history nav state mine other has = mine other (ordered-any _ history.rows ∙ has)

pub MayTake-ordered : (history : History) → IsSound history → (change : Change) → MayTake (record history { rows = ordered history.rows }) change → MayTake history change
MayTake-ordered history sound (Push nav entry state address memo) may =
    (sym (ordered-any (is_entry entry) history.rows) ∙ may.0, state_of history nav state may.1)
MayTake-ordered history sound (Replace nav over entry state address memo) may =
    (sym (ordered-any (is_entry entry) history.rows) ∙ may.0, state_of history nav state may.1)
MayTake-ordered history sound (AddFrame owner nav entry state) may =
    (sym (ordered-any (is_entry entry) history.rows) ∙ may.0, sym (ordered-any (is_in_state state) history.rows) ∙ may.1)
MayTake-ordered history sound (RemoveFrame nav) may = tt
MayTake-ordered history sound (Traverse goal) may = subst (λ n. goal.0 ≤ n) (greatest_step-ordered history.rows sound.steps) may
MayTake-ordered history sound (Reload nav) may = tt
MayTake-ordered history sound Edit may = tt

-- ---- a change that fits is refused for want of memory alone

never : {A : Type 0} (fits : Bool) → fits ≡ true → not fits ≡ true → A
never true fits lacks = absurd (false≢true lacks)
never false fits lacks = absurd (false≢true fits)

no_child : {A : Type 0} (top has : Bool) → (not top && has) ≡ true → (top || not has) ≡ true → A
no_child true has fits lacks = absurd (false≢true fits)
no_child false has fits lacks = never has fits lacks

owned_and_new : (owned top used : Bool) → (owned && not top && not used) ≡ true → (owned ≡ true) × ((not top && not used) ≡ true)
owned_and_new true top used fits = (refl, fits)
owned_and_new false top used fits = absurd (false≢true fits)

not_new : {A : Type 0} (top used : Bool) → (not top && not used) ≡ true → (top || used) ≡ true → A
not_new true used fits taken = absurd (false≢true fits)
not_new false used fits taken = never used taken fits

pub refused_only_for_memory : (history : History) (change : Change) (error : StoreError) → Fits history change → IsRefused history change error → error ≡ errors.OutOfMemory
refused_only_for_memory history change errors.OutOfMemory fits refused = refl
refused_only_for_memory history (Push nav entry state address memo) errors.NoNavigable fits lacks = never _ fits lacks
refused_only_for_memory history (Replace nav over entry state address memo) errors.NoNavigable fits lacks =
    never _ (list_any-weaker (λ row. same_entry row.entry over && is_of nav row) (is_of nav) history.rows (λ row there both. (and_parts (same_entry row.entry over) (is_of nav row) both).1) fits) lacks
refused_only_for_memory history (AddFrame owner nav entry state) errors.NoNavigable fits lacks = absurd (false≢true lacks)
refused_only_for_memory history (RemoveFrame nav) errors.NoNavigable fits lacks = no_child (nav.0 == 0) (has_row nav history.rows) fits lacks
refused_only_for_memory history (Traverse goal) errors.NoNavigable fits lacks = absurd (false≢true lacks)
refused_only_for_memory history (Reload nav) errors.NoNavigable fits lacks = never _ fits lacks
refused_only_for_memory history Edit errors.NoNavigable fits lacks = absurd (false≢true lacks)
refused_only_for_memory history (Push nav entry state address memo) errors.NoEntry fits lacks = absurd (false≢true lacks.1)
refused_only_for_memory history (Replace nav over entry state address memo) errors.NoEntry fits lacks = never _ fits lacks.1
refused_only_for_memory history (AddFrame owner nav entry state) errors.NoEntry fits lacks =
    never (has_state owner history.rows) (owned_and_new (has_state owner history.rows) (nav.0 == 0) (has_nav history.added nav) fits).0 lacks.1
refused_only_for_memory history (RemoveFrame nav) errors.NoEntry fits lacks = absurd (false≢true lacks.1)
refused_only_for_memory history (Traverse goal) errors.NoEntry fits lacks = absurd (false≢true lacks.1)
refused_only_for_memory history (Reload nav) errors.NoEntry fits lacks = absurd (false≢true lacks.1)
refused_only_for_memory history Edit errors.NoEntry fits lacks = absurd (false≢true lacks.1)
refused_only_for_memory history (Push nav entry state address memo) errors.NavTaken fits lacks = absurd (false≢true lacks.2)
refused_only_for_memory history (Replace nav over entry state address memo) errors.NavTaken fits lacks = absurd (false≢true lacks.2)
refused_only_for_memory history (AddFrame owner nav entry state) errors.NavTaken fits lacks =
    not_new (nav.0 == 0) (has_nav history.added nav) (owned_and_new (has_state owner history.rows) (nav.0 == 0) (has_nav history.added nav) fits).1 lacks.2
refused_only_for_memory history (RemoveFrame nav) errors.NavTaken fits lacks = absurd (false≢true lacks.2)
refused_only_for_memory history (Traverse goal) errors.NavTaken fits lacks = absurd (false≢true lacks.2)
refused_only_for_memory history (Reload nav) errors.NavTaken fits lacks = absurd (false≢true lacks.2)
refused_only_for_memory history Edit errors.NavTaken fits lacks = absurd (false≢true lacks.2)
