-- The history that an `EntryStore` holds.
use Rattle.log_model.specs.History.{History}
use Rattle.entry_store.specs.declared.entry_store.EntryStore.{EntryStore}
use Rattle.entry_store.specs.Kept.{history_in}

-- the rows of its lists one after the other, the current step, and the child navigables ever added
abbrev pub history_held : EntryStore → History
history_held store = history_in store.kept
