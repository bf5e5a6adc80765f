-- Loads in their checks pass one after the other where an event was cut: which event it is then, and what is so of it.
-- HTML Standard, "checking if unloading is canceled" and "navigate". Where an event is cut, and the table of checks, are this project's own.
use Rattle.load_checks.specs.Stages.{GoesAt, HasLetPass, InStage, IsCutAt, passed_cut, reqs_of, stage_on}
use Rattle.load_table.specs.Loads.{ongoing_load}
use Rattle.load_table.specs.declared.load.Load.{Load}
use Rattle.load_turns.specs.declared.passed.Passed.{Passed}
use Rattle.log_model.specs.declared.row_kind.RowKind.{RowKind}
use Rattle.row_facts.specs.Owed.Owed.{IsLoose}
use Rattle.seen_facts.specs.Hang.Members.{Has}
use Rattle.seen_laws.specs.InEvent.{EndAsWanted, InEvent}
use Rattle.std.specs.Option.{option_map_or}
use Rattle.std.specs.Prelude.{Bool, List, None, Option, Some, [], false, fold, if◌then◌else◌, option_and_then, true, ◌++◌, ◌∷◌, ◌≡◌, ◌⊎◌}
use Rattle.tab_doors.specs.declared.tables.Tables.{Tables}
use Rattle.tab_ids.specs.declared.NavId.{NavId}
use Rattle.tab_ids.specs.declared.ReqId.{ReqId}
use Rattle.tab_stands.specs.GoingOn.{GoesOn}
use Rattle.unload_check.specs.Checks.{OpenCheck, ended, outcome_at}
use Rattle.unload_check.specs.declared.check.Check.TheVariants as checks
use Rattle.unload_check.specs.declared.check.Check.{Check}

-- ---- who goes on

abbrev pub is_go : Check → Bool
is_go checks.Waiting = false
is_go (checks.Prompt doc) = false
is_go checks.Go = true
is_go checks.Stay = false

-- the request, if its check goes on
abbrev pub going_in : List (ReqId × OpenCheck) → ReqId → Option ReqId
going_in table req = if option_map_or is_go (outcome_at req table) false then Some req else None

-- the request of the navigable's load that is in its check and goes on
abbrev pub going_at : Tables → NavId → Option ReqId
going_at t nav = option_and_then (λ (load : Load). going_in t.checks load.req) (ongoing_load nav t.asking)

-- ---- which event it is

-- an event as it was cut, and the table of checks
pub record Cutting : Type 0 where
  pub event : InEvent
  pub checks : List (ReqId × OpenCheck)

-- a load has passed
abbrev pub then_passed : Cutting → Passed → Cutting
then_passed c load = record { event = passed_cut c.event load.req load.out c.checks; checks = ended load.req c.checks }

-- these have, one after the other
abbrev pub then_all : Cutting → List Passed → Cutting
then_all c done = fold then_passed c done

-- the rows that were put out for them
abbrev pub rows_of : List Passed → List RowKind
rows_of done = fold (λ (rows : List RowKind) (load : Passed). rows ++ load.out) [] done

-- the stage as the first of them may pass, and the table of checks then
pub record InTurns : Type 0 where
  pub stage : InStage
  pub checks : List (ReqId × OpenCheck)

abbrev pub cutting_of : InTurns → Cutting
cutting_of w = record { event = w.stage.event; checks = w.checks }

-- who is at hand then: once one has passed, the loads in their checks
abbrev pub loads_then : List ReqId → List Passed → List Load → List ReqId
loads_then first [] asking = first
loads_then first (load ∷ done) asking = reqs_of asking

-- the stage once these have passed
abbrev pub stage_then : InTurns → List Passed → List Load → InStage
stage_then w done asking =
    stage_on w.stage (then_all (cutting_of w) done).event (loads_then w.stage.loads done asking)

-- ---- one load's turn

-- the load of the navigable that is in its check doesn't go on, and nothing was done
pub record HasStayed (nav : NavId) (t u : Tables) (before after : List Passed) : Type 0 where
  pub none : GoesAt t nav → ⊥
  pub tables : u ≡ t
  pub done : after ≡ before

-- it has passed
pub record HasHadTurn (w : InStage) (nav : NavId) (t u : Tables) (before after : List Passed) : Type 0 where
  pub load : Passed
  pub done : after ≡ before ++ load ∷ []
  pub passed : HasLetPass w nav t u load.out
  pub its : passed.load.req ≡ load.req

abbrev pub HasTurned : InStage → NavId → Tables → Tables → List Passed → List Passed → Type 0
HasTurned w nav t u before after = HasStayed nav t u before after ⊎ HasHadTurn w nav t u before after

-- ---- all of them

-- these loads have passed, each in its turn: the event goes on behind their rows and was cut there, where all is as it was; nobody is in its check who wasn't, and of these navigables no load goes on there; nothing is owed that later rows could undo, if that was so; and what follows is as it is wanted there, if with those rows it is as it was wanted
pub record HaveTurned (w : InTurns) (navs : List NavId) (t u : Tables) (done : List Passed) : Type 0 where
  pub checks : u.checks ≡ (then_all (cutting_of w) done).checks
  pub goes : GoesOn w.stage.event (rows_of done) (then_all (cutting_of w) done).event
  pub cut : IsCutAt (stage_then w done u.asking) u
  pub fewer : (nav : NavId) (load : Load) → ongoing_load nav u.asking ≡ Some load → ongoing_load nav t.asking ≡ Some load
  pub none : (nav : NavId) → Has navs nav → GoesAt u nav → ⊥
  pub loose : IsLoose w.stage.event [] → IsLoose (then_all (cutting_of w) done).event []
  pub wanted : (more : List RowKind) → EndAsWanted w.stage.event (rows_of done ++ more) → EndAsWanted (then_all (cutting_of w) done).event more
