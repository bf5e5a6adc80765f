-- What documents made, in its order: the numbers of its new entries, and which entry each replaces; and a process that has nothing.
-- This project's own.
use Rattle.std.specs.Prelude.{◌≡◌, ℕ, ◌≤◌, ◌<◌, List, [], ◌∷◌, None}
use Rattle.tab_ids.specs.declared.EntryId.{EntryId}
use Rattle.log_model.specs.declared.made.Made.{Made}
use Rattle.log_model.specs.declared.made.What.{What}
use Rattle.log_model.specs.declared.made.What.TheVariants as whats
use Rattle.log_model.specs.Seen.{Desk}

-- the number of the last new entry, once something was made; its number is greater than the one before
abbrev pub number_after : ℕ → What → ℕ
number_after from (whats.Push entry memo address) = entry.nr
number_after from (whats.Replace over entry memo address) = entry.nr
number_after from _ = from

abbrev pub IsNext : ℕ → What → Type 0
IsNext from (whats.Push entry memo address) = from < entry.nr
IsNext from (whats.Replace over entry memo address) = from < entry.nr
IsNext from _ = Unit {0}

-- the entries of what was made have rising numbers, from one number to another
abbrev pub Ascend : ℕ → List Made → ℕ → Type 0
Ascend from [] to = from ≤ to
Ascend from (made ∷ mades) to = IsNext from made.what × Ascend (number_after from made.what) mades to

-- the entry that is shown, once something was made; a replace is of the one before
abbrev pub entry_after : EntryId → What → EntryId
entry_after entry (whats.Push new memo address) = new
entry_after entry (whats.Replace over new memo address) = new
entry_after entry _ = entry

abbrev pub IsOver : EntryId → What → Type 0
IsOver entry (whats.Replace over new memo address) = over ≡ entry
IsOver entry _ = Unit {0}

-- each replace is of the entry before it
abbrev pub Continues : EntryId → List Made → Type 0
Continues entry [] = Unit {0}
Continues entry (made ∷ mades) = IsOver entry made.what × Continues (entry_after entry made.what) mades

-- the process has nothing on its way
pub record HasNothing (desk : Desk) : Type 0 where
  pub hand : desk.in_hand ≡ None
  pub mail : desk.mail ≡ []
  pub reports : desk.reports ≡ []
