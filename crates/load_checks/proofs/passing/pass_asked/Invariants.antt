use Rattle.load_checks.proofs.passing.pass_asked.Given as goal
use Rattle.load_checks.specs.Stages.{mode_in, reqs_of}
use Rattle.load_midway.specs.Midway.{gone_on, load_on}
use Rattle.load_table.specs.Loads.{cancelled}
use Rattle.seen_laws.specs.InEvent.{log_of}
use Rattle.std.specs.Prelude.{[]}

abbrev pub ghost-pass_load : goal.ghost-pass_load
ghost-pass_load g a =
    load_on g.v.stage.event (reqs_of (cancelled g.v.load.nav a.tables.now.asking)) g.v.stage.queue g.v.stage.noted g.v.load.req g.v.load.nav (mode_in (log_of g.v.stage.event []) g.v.load.req) g.v.load.address g.v.load.replace g.v.load.state

abbrev pub ghost-ask_about : goal.ghost-ask_about
ghost-ask_about g a = record { event = gone_on g.v.stage.event g.v.load.req; loads = reqs_of a.tables.now.asking; hand = [] }
