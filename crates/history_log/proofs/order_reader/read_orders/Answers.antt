use Rattle.std.proofs.Common.{arith}
use Rattle.history_log.proofs.OrderLaws.{hand_read}
use Rattle.history_log.proofs.order_reader.read_orders.Goals as goal

pub returns : goal.returns
returns c = hand_read c.args.proc c.loop-row.orders c.loop-row.row-index c.args.rows.now (omega arith) c.loop-row.invariant.read
