use Rattle.std.proofs.Common.{sym, ◌∙◌}
use Rattle.entry_store.specs.Nested.{rows_of}
use Rattle.entry_store.proofs.Visiting.{round_gains, round_supports, round_holds}
use Rattle.entry_store.proofs.live.live_states.Goals as goal

pub returns-then-len-before : goal.returns-then-len-before
returns-then-len-before c =
    round_holds c.args.cut.now (rows_of c.args.nests.now) c.rounds.states.keys c.visit_nests.new.states.keys c.in_ok-visit_nests.ensures (sym c.len.ensures.len ∙ c.if-len-before.true ∙ c.len-before.ensures.len) c.rounds.invariant

pub rounds-smaller : goal.rounds-smaller
rounds-smaller c =
    round_gains c.args.cut.now (rows_of c.args.nests.now) c.rounds.states.keys c.visit_nests.new.states.keys c.in_ok-visit_nests.ensures (λ same. c.if-len-before.false (c.len.ensures.len ∙ same ∙ sym c.len-before.ensures.len))

pub rounds-preserved : goal.rounds-preserved
rounds-preserved c =
    round_supports c.args.cut.now (rows_of c.args.nests.now) c.rounds.states.keys c.visit_nests.new.states.keys c.in_ok-visit_nests.ensures c.rounds.invariant
