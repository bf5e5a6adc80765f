use Rattle.history_log.proofs.ReadLaws.{IsRead}
use Rattle.history_log.proofs.idle.is_idle.Given as goal

abbrev pub invariant-loop-k : goal.invariant-loop-k
invariant-loop-k l = IsRead l.proc l.rows l.k l.orders l.held l.reports l.head l.last_drop
