-- The tables stand for what the log would have come to had nobody been asked, where a move has begun, or none has.
-- This project's own.
use Rattle.log_model.specs.Seen.{Seen}
use Rattle.seen_facts.specs.Kept.Keeping.{kept_states}
use Rattle.seen_facts.specs.LoadTies.Tying.{TiesLoads}
use Rattle.std.specs.Prelude.{Option, length, ◌+◌, ◌≡◌, ◌≤◌}
use Rattle.tab_doors.specs.Keeping.{Move, kept_in}
use Rattle.tab_doors.specs.Look.{look_of}
use Rattle.tab_doors.specs.Ties.{AreInitial, Holds, IsRunning}
use Rattle.tab_doors.specs.Working.{HasGoal}
use Rattle.tab_doors.specs.declared.tables.Tables.{Tables}

-- all that ties the tables to it but the unload checks: navigables, documents and the history, the traversal that runs and where it leads, initial documents, ongoing loads and kept documents
pub record TiesCut (move : Option Move) (s : Seen) (t : Tables) : Type 0 where
  pub holds : Holds (look_of s t.running) t
  pub runs : IsRunning s.requests t.running
  pub goal : HasGoal s.requests t.running t.goal
  -- each document but the first was made by an order
  pub few : length s.documents ≤ s.jobs + 1
  pub initial : AreInitial s.initial_states t.initial.entries
  pub loads : TiesLoads s t.loads
  pub kept : t.kept.states ≡ kept_in move t.kept.keep (kept_states s)
