use Rattle.std.proofs.Common.{◌≡◌, ◌≤◌, drop}
use Rattle.std.specs.Prelude.{fold}
use Rattle.log_model.specs.declared.row_kind.LogRow.{LogRow}
use Rattle.history_log.specs.declared.order_reader.OrderReader.{OrderReader}
use Rattle.history_log.specs.Desks.{order_after, no_order}
use Rattle.history_log.proofs.order_reader.read_orders.Given as goal

abbrev pub invariant-loop-row : goal.invariant-loop-row
invariant-loop-row l = record {
  read :
      fold (λ (o : OrderReader) (row : LogRow). order_after l.proc o row.row) l.orders (drop l.row-index l.rows)
      ≡ fold (λ (o : OrderReader) (row : LogRow). order_after l.proc o row.row) no_order l.rows;
  within : l.orders.mail.gone ≤ l.orders.mail.sent;
  few : l.orders.mail.sent ≤ l.row-index;
}
