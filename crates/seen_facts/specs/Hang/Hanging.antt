-- How the navigables with entries hang in the history: as their places tell, each on a document state of its parent, from that state's first step on.
-- HTML Standard, "Nested histories" and "Child navigables".
use Rattle.std.specs.Prelude.{◌≡◌, ℕ, ◌≤◌, List, ◌∷◌, slice_get, Some}
use Rattle.tab_ids.specs.declared.NavId.{NavId}
use Rattle.log_model.specs.declared.row.Row.{Row}
use Rattle.log_model.specs.Seen.{Seen}
use Rattle.seen_facts.specs.Hang.Members.{Has}
use Rattle.seen_facts.specs.Hang.Forms.{Form, forms_of, form_in, AreWoven}

-- the row's navigable is there, and hangs on the row's owner
pub record IsPlaced (forms : List Form) (row : Row) : Type 0 where
  pub form : Form
  pub found : form_in forms row.nav ≡ Some form
  pub owner : row.owner ≡ slice_get form.owners 0

-- the navigable has an entry at the step or before it
pub record BeginsBy (rows : List Row) (nav : NavId) (step : ℕ) : Type 0 where
  pub row : Row
  pub there : Has rows row
  pub nav_is : row.nav ≡ nav
  pub by : row.step.0 ≤ step

pub record HangIn (rows : List Row) (forms : List Form) : Type 0 where
  pub placed : (row : Row) → Has rows row → IsPlaced forms row
  -- the entries of the document state that a navigable hangs on are its parent's
  pub holders : (row holder : Row) (form : Form) (parent : NavId) (above : List NavId) → Has rows row → Has rows holder → form_in forms row.nav ≡ Some form → form.above ≡ parent ∷ above → row.owner ≡ Some holder.state → holder.nav ≡ parent
  -- and it has an entry no later than each of these
  pub begins : (row holder : Row) → Has rows row → Has rows holder → row.owner ≡ Some holder.state → BeginsBy rows row.nav holder.step.0

-- the navigables of a log hang together, in its history as among its places
pub record Hangs (s : Seen) : Type 0 where
  pub woven : AreWoven s.history.added (forms_of s.places)
  pub rows : HangIn s.history.rows (forms_of s.places)
