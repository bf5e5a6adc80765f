-- The history with which a tab opens.
-- HTML Standard, "Creating a new top-level traversable": one entry at step 0, in the document state of its initial document.
use Rattle.std.specs.Prelude.{ℕ, List, [], ◌∷◌, None}
use Rattle.tab_ids.specs.declared.EntryId.{EntryId}
use Rattle.tab_ids.specs.declared.StateId.{StateId}
use Rattle.log_model.specs.History.{History}

-- the first entry of the top, at step 0; no child was ever added
abbrev pub opening_history : EntryId → StateId → List ℕ → History
opening_history entry state address =
    record {
      rows = record {
        owner = None;
        nav = record { 0 = 0 };
        entry = entry;
        step = record { 0 = 0 };
        state = state;
        address = address;
        memo = None;
      } ∷ [];
      current = 0;
      added = [];
    }
