-- Which document state an applied change brings in: of a push, none of another navigable; of a replace, the one of the replaced entry, or a new one; of a frame, a new one.
-- HTML Standard, "URL and history update steps", "finalize a cross-document navigation", "create a new child navigable".
use Rattle.std.specs.Prelude.{◌≡◌, ◌≢◌, ◌⊎◌, true}
use Rattle.tab_ids.specs.declared.EntryId.{EntryId}
use Rattle.tab_ids.specs.declared.NavId.{NavId}
use Rattle.tab_ids.specs.declared.StateId.{StateId}
use Rattle.std.specs.Prelude.{List}
use Rattle.log_model.specs.declared.change.Change.{Change}
use Rattle.log_model.specs.declared.change.Change.TheVariants.{Push, Replace, AddFrame, RemoveFrame, Traverse, Reload, Edit}
use Rattle.log_model.specs.declared.row.Row.{Row}
use Rattle.log_model.specs.History.{History, same_entry}
use Rattle.seen_facts.specs.Hang.Members.{Has}

-- the rows of the document state are the navigable's
abbrev pub IsItsState : List Row → NavId → StateId → Type 0
IsItsState rows nav state = (row : Row) → Has rows row → row.state.0 ≡ state.0 → row.nav ≡ nav

-- no row has the document state
abbrev pub IsNewState : List Row → StateId → Type 0
IsNewState rows state = (row : Row) → Has rows row → row.state.0 ≢ state.0

-- the row of the entry has the document state
abbrev pub HasState : List Row → EntryId → StateId → Type 0
HasState rows entry state = (row : Row) → Has rows row → same_entry row.entry entry ≡ true → row.state ≡ state

abbrev pub BringsState : History → Change → Type 0
BringsState history (Push nav entry state address memo) = IsItsState history.rows nav state
BringsState history (Replace nav over entry state address memo) = HasState history.rows over state ⊎ IsNewState history.rows state
BringsState history (AddFrame owner nav entry state) = IsNewState history.rows state
BringsState history (RemoveFrame nav) = Unit {0}
BringsState history (Traverse goal) = Unit {0}
BringsState history (Reload nav) = Unit {0}
BringsState history Edit = Unit {0}
