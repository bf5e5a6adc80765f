use Rattle.std.proofs.Common.{sym, ◌∙◌}
use Rattle.proc_tables.proofs.DeskChanges.{all_idle, some_busy}
use Rattle.proc_tables.proofs.desks.are_idle.Goals as goal

pub returns-clause-idle : goal.returns-clause-idle
returns-clause-idle c = λ e. all_idle c.args.desks.now.entries (sym c.each_is_idle.ensures ∙ e)

pub returns-clause-busy : goal.returns-clause-busy
returns-clause-busy c = λ e. some_busy c.args.desks.now.entries c.len-len.ensures.unique (sym c.each_is_idle.ensures ∙ e)
