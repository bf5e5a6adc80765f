-- The coordinator's tables stand for the log with another table of unload checks, and of the loads in them, as these stand for another part of it.
use Rattle.load_table.specs.declared.load.Load.{Load}
use Rattle.load_doors.specs.Tied.{AreTied}
use Rattle.log_model.specs.Seen.{Seen}
use Rattle.move_queue.specs.Queue.{Queue}
use Rattle.std.proofs.Common.{List}
use Rattle.tab_doors.specs.declared.tables.Tables.{Tables}
use Rattle.tab_ids.specs.declared.ReqId.{ReqId}
use Rattle.tab_ids.specs.declared.StateId.{StateId}
use Rattle.tab_stands.specs.Standing.{InCheck, StandsFor}
use Rattle.unload_check.specs.Checks.{OpenCheck}

module _ (s : Seen) (t : Tables) (checks : List (ReqId × OpenCheck)) (asking : List Load) where
  -- the tables with these checks, and these loads in their checks
  abbrev pub with_checks : Tables
  with_checks = record t { asking = asking; checks = checks }

  tied_then : AreTied s t → AreTied s with_checks
  tied_then tied =
      record {
        holds = record {
          navs = tied.holds.navs;
          documents = tied.holds.documents;
          whose = tied.holds.whose;
          shown = tied.holds.shown;
          last = tied.holds.last;
          history = tied.holds.history;
          numbered = tied.holds.numbered;
          states = tied.holds.states;
          entries = tied.holds.entries;
          sent = tied.holds.sent;
        };
        runs = tied.runs;
        goal = tied.goal;
        few = tied.few;
        initial = tied.initial;
        loads = tied.loads;
        kept = tied.kept;
      }

  pub checks_stands : (queue : Queue) (blame : List (StateId × ReqId)) → {check : InCheck} → StandsFor check s t queue blame → StandsFor check s with_checks queue blame
  checks_stands queue blame stands =
      record {
        between = stands.between;
        alone = stands.alone;
        lasts = stands.lasts;
        tied = tied_then stands.tied;
        strays = stands.strays;
        queue = stands.queue;
        parked = stands.parked;
      }
