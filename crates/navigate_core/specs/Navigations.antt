-- What a navigation is to do to the history: whether it replaces an entry, and the change that it makes.
-- HTML Standard, "Beginning navigation" ("navigate": history handling) and "Ending navigation" ("finalize a cross-document navigation").
use Rattle.std.specs.Prelude.{Bool, true, false, ◌||◌, None, if◌then◌else◌}
use Rattle.tab_ids.specs.declared.EntryId.{EntryId}
use Rattle.log_model.specs.declared.change.Change.{Change}
use Rattle.log_model.specs.declared.change.Change.TheVariants as changes
use Rattle.log_model.specs.declared.request.Mode.{Mode}
use Rattle.log_model.specs.declared.request.Mode.TheVariants as modes
use Rattle.load_table.specs.declared.load.Load.{Load}
use Rattle.navigate_core.specs.declared.handling.Handling.{Handling}
use Rattle.navigate_core.specs.declared.handling.Handling.TheVariants.{Push, Replace}

-- a navigation replaces the entry: where it is asked to, where the navigable's document is an initial about:blank one, and, with no handling asked for, where the addresses are equal
abbrev pub handling_of : Mode → Bool → Bool → Handling
handling_of modes.Replace initial equal = Replace
handling_of modes.Auto initial equal = if initial || equal then Replace else Push
handling_of modes.Push initial equal = if initial then Replace else Push

-- the handling is a replace
abbrev pub is_replace : Handling → Bool
is_replace Replace = true
is_replace Push = false

-- the change of a load: a new entry of its document state, without a memo, which takes the place of another where the load replaces
abbrev pub change_for : Load → EntryId → EntryId → Change
change_for load over entry =
    if load.replace then changes.Replace load.nav over entry load.state load.address None
    else changes.Push load.nav entry load.state load.address None
