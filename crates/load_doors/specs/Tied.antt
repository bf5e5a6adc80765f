-- The tables stand for what a log has come to.
-- This project's own.
use Rattle.seen_facts.specs.Kept.Keeping.{kept_states}
use Rattle.seen_facts.specs.LoadTies.Tying.{TiesLoads}
use Rattle.log_model.specs.Seen.{Seen}
use Rattle.std.specs.Prelude.{length, ◌+◌, ◌≡◌, ◌≤◌}
use Rattle.tab_doors.specs.Look.{look_of}
use Rattle.tab_doors.specs.Ties.{AreInitial, Holds, IsRunning}
use Rattle.tab_doors.specs.Working.{HasGoal}
use Rattle.tab_doors.specs.declared.tables.Tables.{Tables}

-- all of it: what is read of navigables, documents and the history, the traversal that runs and where it leads, initial documents, ongoing loads and kept documents
pub record AreTied (s : Seen) (t : Tables) : Type 0 where
  pub holds : Holds (look_of s t.running) t
  pub runs : IsRunning s.requests t.running
  pub goal : HasGoal s.requests t.running t.goal
  -- each document but the first was made by an order
  pub few : length s.documents ≤ s.jobs + 1
  pub initial : AreInitial s.initial_states t.initial.entries
  pub loads : TiesLoads s t.loads
  pub kept : t.kept.states ≡ kept_states s
