-- The change that a report asks of the history, and when it can ask none.
-- HTML Standard, "URL and history update steps", "finalize a same-document navigation", "create a new child navigable" and "destroy a child navigable". The numbers of frames, and the refusals, are this project's own.
use Rattle.std.specs.Prelude.{Bool, true, false, not, ◌||◌, ◌==◌, Option, Some, None, if◌then◌else◌}
use Rattle.tab_ids.specs.declared.NavId.{NavId}
use Rattle.tab_ids.specs.declared.StateId.{StateId}
use Rattle.tab_ids.specs.declared.EntryId.{EntryId}
use Rattle.log_model.specs.declared.change.Change.{Change}
use Rattle.log_model.specs.declared.change.Change.TheVariants as changes
use Rattle.log_model.specs.declared.made.What.{What}
use Rattle.log_model.specs.declared.made.What.TheVariants as whats
use Rattle.log_model.specs.History.{History, has_nav}
use Rattle.log_model.specs.Soundness.{hangs_on}

-- a traversal was asked for, which is no change yet
abbrev pub is_go : What → Bool
is_go (whats.Go delta) = true
is_go _ = false

-- the new frame's number is the top's, or a frame was ever added under it
abbrev pub takes_used_number : History → What → Bool
takes_used_number history (whats.AddFrame child) = child.0 == 0 || has_nav history.added child
takes_used_number history _ = false

-- the frame to be removed has no row that hangs on the document state
abbrev pub lacks_frame : History → StateId → What → Bool
lacks_frame history state (whats.RemoveFrame child) = not (hangs_on child state history.rows)
lacks_frame history state _ = false

-- the change of what was made in a navigable with a document of the state: a push and a replacement are that navigable's and keep its document, and a frame hangs on it; a new frame has the new entry and document state
abbrev pub change_made : What → NavId → StateId → EntryId → StateId → Option Change
change_made (whats.Push new memo address) nav state entry fresh = Some (changes.Push nav new state address memo)
change_made (whats.Replace over new memo address) nav state entry fresh = Some (changes.Replace nav over new state address memo)
change_made (whats.AddFrame child) nav state entry fresh = Some (changes.AddFrame state child entry fresh)
change_made (whats.RemoveFrame child) nav state entry fresh = Some (changes.RemoveFrame child)
change_made (whats.Go delta) nav state entry fresh = None
change_made whats.Edit nav state entry fresh = Some changes.Edit

-- the change that the history is asked for: none where the new frame's number is taken, or the frame to be removed isn't the document's
abbrev pub asked_change : History → What → NavId → StateId → EntryId → StateId → Option Change
asked_change history what nav state entry fresh =
    if takes_used_number history what || lacks_frame history state what then None
    else change_made what nav state entry fresh
