-- When a ready load is applied in its turn, and what is as it was.
-- HTML Standard, "finalize a cross-document navigation"; that a load waits in the queue until all stand is this project's own.
use Rattle.row_facts.specs.FrameRows.Lawful.{held_at_first}
use Rattle.load_doors.specs.Applying.{new_entry}
use Rattle.load_table.specs.declared.load.Load.{Load}
use Rattle.log_model.specs.Equal.{has_req}
use Rattle.log_model.specs.Places.{aim_of, all_stand, is_placed}
use Rattle.log_model.specs.Seen.{Place, Seen, place_of}
use Rattle.log_model.specs.declared.job.Why.{Why}
use Rattle.log_model.specs.declared.row_kind.RowKind.{RowKind}
use Rattle.nav_tree.specs.Tree.{Tree, nav_of}
use Rattle.nav_tree.specs.declared.nav.Nav.{Nav}
use Rattle.navigate_core.specs.Navigations.{change_for}
use Rattle.seen_laws.specs.InEvent.{InEvent, now_of}
use Rattle.std.specs.Prelude.{List, Option, Some, [], false, option_and_then, true, ◌++◌, ◌∷◌, ◌≡◌}
use Rattle.tab_doors.specs.Working.{KeepsRun, MayDiscardIn}
use Rattle.tab_doors.specs.declared.tables.Tables.{Tables}
use Rattle.tab_ids.specs.declared.DocId.{DocId}
use Rattle.tab_ids.specs.declared.EntryId.{EntryId}
use Rattle.tab_ids.specs.declared.NavId.{NavId}
use Rattle.tab_turns.specs.Turning.{MayCause}
use Rattle.tab_turns.specs.PassedOn.{InPass}
use Rattle.row_facts.specs.WalkRows.Since.{AwakeSince}
use Rattle.load_table.specs.declared.phase.Phase.TheVariants as phases
use Rattle.log_model.specs.declared.row_kind.RowKind.TheVariants as rows

-- an ongoing load in a pass
pub record InReady : Type 0 where
  pub pass : InPass
  pub load : Load

-- the entry that the navigable was given, as the tables tell
abbrev pub given_in : Tree → NavId → Option EntryId
given_in tree nav = option_and_then (λ (fields : Nav). fields.given) (nav_of nav tree)

-- the load's document is there; its navigable is shown and stands, and so do all at the current step; and the load wasn't held back as the event began
pub record MayApply (e : InEvent) (s : Seen) (nav : NavId) (load : Load) : Type 0 where
  pub doc : DocId
  pub ready : load.phase ≡ phases.Ready doc
  pub placed : is_placed s (aim_of s) nav ≡ true
  pub stand : all_stand s s.history.current ≡ true
  pub unheld : has_req (held_at_first e) load.req ≡ false
  pub free : MayDiscardIn false e

-- the load was applied, in the place of the given entry where it replaces; who is awake was so before, what is kept and what is held back is as it was, and orders may be sent for whom they might before
pub record HasApplied (e : InEvent) (nav : NavId) (load : Load) (old new : List RowKind) (t u : Tables) : Type 0 where
  pub place : Place
  pub placed : place_of (now_of e old) nav ≡ Some place
  pub over : EntryId
  pub given : place.given ≡ Some over
  pub out : new ≡ old ++ rows.Applied load.req (change_for load over (new_entry t)) ∷ []
  pub keeps : KeepsRun t u
  pub wakes : AwakeSince (now_of e old) [] (now_of e new)
  pub kept : (now_of e new).kept ≡ (now_of e old).kept
  pub parked : (now_of e new).parked ≡ (now_of e old).parked
  pub causes : (why : Why) → MayCause (now_of e old) why → MayCause (now_of e new) why
