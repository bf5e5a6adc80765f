-- What is on its way leads on within an event, too, where documents were told nothing since a push of theirs was applied.
-- HTML Standard, "apply the history step" and "URL and history update steps"; the exact form is this project's own.
use Rattle.seen_facts.specs.Coord.Epochs.{EachDocument, IsWithin}
use Rattle.seen_facts.specs.Coord.Leading.{EachAwake, EachIsOfItsNavigable, Face, coming, face_after, face_of_view, held_back, is_push, pending_view}
use Rattle.seen_facts.specs.Coord.Reaching.{EachReaches}
use Rattle.log_model.specs.History.{has_row}
use Rattle.log_model.specs.Seen.{Desk, Document, Seen}
use Rattle.log_model.specs.Views.{View}
use Rattle.log_model.specs.declared.made.Made.{Made}
use Rattle.log_model.specs.declared.row.Row.{Row}
use Rattle.std.specs.List.{list_any}
use Rattle.std.specs.Prelude.{List, Option, Some, false, fold, is_some, slice_get, true, ℕ, ◌++◌, ◌≡◌}
use Rattle.tab_ids.specs.declared.EntryId.{EntryId}
use Rattle.tab_ids.specs.declared.Epoch.{Epoch}

-- the orders of a document lead to a running view of the epoch; what is coming leads from the given entry to that view; and unless a push is coming, or the document was told nothing since one was applied, it was told the view's length and index last
pub record LeadsIf (rows : List Row) (held : List Made) (desk : Desk) (d : Document) (given : Option EntryId) (epoch : Epoch) : Type 0 where
  pub face : Face
  pub is_given : Some face.entry ≡ given
  pub is_row : (i : ℕ) (row : Row) → slice_get rows i ≡ Some row → row.entry ≡ face.entry → (row.address ≡ face.address) × (row.memo ≡ face.memo)
  pub view : View
  pub pending : pending_view d desk ≡ Some view
  pub leads : fold face_after face (coming held desk d.nr epoch) ≡ face_of_view view
  pub runs : view.running ≡ true
  pub in_epoch : view.epoch ≡ epoch
  pub pair : list_any is_push (coming held desk d.nr epoch) ≡ false → is_some d.told ≡ true → d.told ≡ Some (view.length, view.index)

-- so it does where the document's navigable has a row
abbrev pub LeadsWhere : List Row → List Made → Desk → Document → Option EntryId → Epoch → Type 0
LeadsWhere rows held desk d given epoch = has_row d.nav rows ≡ true → LeadsIf rows held desk d given epoch

-- so it does for the document of each awake navigable that has a row, with these at hand in the event after those that are held back
abbrev pub EachLeadsIf : List Made → Seen → Type 0
EachLeadsIf hand s = EachAwake (LeadsWhere s.history.rows (held_back s.requests s.parked ++ hand)) s

-- what is true between two rows of the documents of all awake navigables
pub record FlowsIf (hand : List Made) (s : Seen) : Type 0 where
  pub leads : EachLeadsIf hand s
  pub whose : EachIsOfItsNavigable s
  pub reaches : EachReaches s
  pub within : EachDocument (IsWithin (held_back s.requests s.parked ++ hand)) s
