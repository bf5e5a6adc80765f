use Rattle.tab_asks.proofs.Begun.{has_begun, procs_known}
use Rattle.tab_asks.proofs.asking.begin_asking.Goals as goal

pub ask_all-requires : goal.ask_all-requires
ask_all-requires g c = record { known = procs_known g.e c.args.out.now c.args.tables.now c.requires.0 c.args.questions.now c.requires.1 }

pub returns-clause-out : goal.returns-clause-out
returns-clause-out g c =
    has_begun g.e c.args.out.now c.args.tables.now c.requires.0 c.args.req c.args.goal c.args.questions.now _ _ c.requires.1 c.in_ok-push.ensures.ok c.in_ok-ask_all.ensures.out
