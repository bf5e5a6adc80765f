use Rattle.std.proofs.Common.{◌≡◌, ◌≤◌, ◌+◌, arith, get_or, take, length}
use Rattle.std.proofs.lemmas.Grind.{common_steps}
use Rattle.log_model.specs.declared.row_kind.LogRow.{LogRow}
use Rattle.log_model.specs.Logs.{seen_of}
use Rattle.history_log.specs.Desks.{joins_order, order_after, reports_after}
use Rattle.history_log.proofs.Cuts.{at_item}
use Rattle.history_log.proofs.OwnerLaws.{opening_take}
use Rattle.history_log.proofs.ReadLaws.{read_none, read_more, last_drop_more}
use Rattle.history_log.proofs.idle.is_idle.Goals as goal

pub loop-k-init : goal.loop-k-init
loop-k-init c = rw c.new-orders.ensures (read_none c.args.proc c.args.rows.now)

pub head_after-head-requires-clause-opens_once : goal.head_after-head-requires-clause-opens_once
head_after-head-requires-clause-opens_once c = λ once. opening_take (c.loop-k.k + 1) c.args.rows.now (c.requires once)

pub loop-k-preserved : goal.loop-k-preserved
loop-k-preserved c =
    let row : LogRow = c.index-rows-k.result in
    let at : row ≡ get_or c.args.rows.now c.loop-k.k row = c.index-rows-k.is in
    let read = c.loop-k.invariant in
    let join = at_item c.args.rows.now c.loop-k.k (λ (r : LogRow). c.joins_order-joins.result ≡ joins_order c.args.proc (seen_of (take c.loop-k.k c.args.rows.now)) r) row c.loop-k-test.true at c.joins_order-joins.ensures in
    let drops = last_drop_more c.args.rows.now c.loop-k.k row c.loop-k.last_drop c.last_drop_after-last_drop.result c.loop-k-test.true at read.last_within read.drops c.last_drop_after-last_drop.ensures in
    let o = order_after c.args.proc c.loop-k.orders row.row in
    let gone : o.mail.gone ≤ o.mail.sent = rw c.note.ensures.note at c.note.ensures.within in
    let sent : o.mail.sent ≤ c.loop-k.k + 1 = omega (arith, read.few_sent, (rw c.note.ensures.note at c.note.ensures.room)) in
    let few : reports_after c.args.proc c.joins_order-joins.result c.loop-k.orders.holds c.loop-k.reports row.row ≤ c.loop-k.k + 1 = omega (arith, read.few_reports, (rw c.reports_after-reports.ensures.after at c.reports_after-reports.ensures.few)) in
    let long : length (take (c.loop-k.k + 1) c.args.rows.now) ≤ c.loop-k.k + 1 = grind (arith, common_steps) in
    let head : c.head_after-head.result ≤ c.loop-k.k + 1 = omega (arith, long, c.head_after-head.ensures.within) in
    let more = read_more c.args.proc c.args.rows.now c.loop-k.k row c.loop-k.orders c.loop-k.held c.joins_order-joins.result c.loop-k.reports c.loop-k.head c.loop-k.last_drop c.head_after-head.result c.last_drop_after-last_drop.result c.loop-k-test.true at read join
    (record { opened = c.head_after-head.ensures.opened; served = c.head_after-head.ensures.served; stays = c.head_after-head.ensures.stays })
    drops.0 gone sent few head drops.1 in
    rw (c.note.ensures.note, c.reports_after-reports.ensures.after) more
