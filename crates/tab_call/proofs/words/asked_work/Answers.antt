use Rattle.std.proofs.Common.{sym, arith}
use Rattle.tab_call.proofs.WordLaws.{work_of_many}
use Rattle.tab_call.proofs.words.asked_work.Goals as goal

pub returns-in_default-2 : goal.returns-in_default-2
returns-in_default-2 c = sym (work_of_many _ c.args.words.now (omega (arith, c.in_default.len_at_least)))
