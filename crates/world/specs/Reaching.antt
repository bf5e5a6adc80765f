-- What a poke of a navigable reaches.
-- This project's own.
use Rattle.coord.specs.Standing.{StandsFor}
use Rattle.coord.specs.declared.coordinator.Coordinator.{Coordinator}
use Rattle.log_model.specs.Seen.{Seen}
use Rattle.running_table.specs.Runners.{RunnersState}
use Rattle.running_table.specs.Making.{IsTold}
use Rattle.tab_ids.specs.declared.DocId.{DocId}
use Rattle.tab_ids.specs.declared.NavId.{NavId}
use Rattle.coord.specs.PassedOn.{HasRoomFor, ReachesOne}

-- the navigable has an entry, and the poke reaches the document of this number
abbrev pub Reaches : Seen → NavId → DocId → Type 0
Reaches s nav doc = ReachesOne s nav doc

-- the coordinator, and the table of the documents that run, are of what a log has come to
pub record AreOf (s : Seen) (c : Coordinator) (runners : RunnersState) : Type 0 where
  pub stands : StandsFor s c
  pub room : HasRoomFor s
  pub told : IsTold s runners
