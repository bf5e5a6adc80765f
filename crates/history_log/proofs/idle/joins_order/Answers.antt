use Rattle.std.proofs.Common.{◌≡◌, ◌==◌, ◌-◌, ◌<◌, true, false, refl, arith, take, length}
use Rattle.std.proofs.lemmas.Bool.Decides.{nat_tests}
use Rattle.log_model.specs.declared.row_kind.LogRow.{LogRow}
use Rattle.log_model.specs.Logs.{seen_of}
use Rattle.history_log.specs.Desks.{finishes_of, finisher}
use Rattle.history_log.proofs.Cuts.{at_item}
use Rattle.history_log.proofs.ReadLaws.{joins_first, joins_unmade, joins_made}
use Rattle.history_log.proofs.idle.joins_order.Goals as goal

pub returns-then-k-eq0 : goal.returns-then-k-eq0
returns-then-k-eq0 c = joins_first c.args.proc c.args.rows.now c.args.k c.index-rows-k.result c.requires.here c.index-rows-k.is c.if-k-eq0.true

pub returns-then-not-is_made_by : goal.returns-then-not-is_made_by
returns-then-not-is_made_by c =
    joins_unmade c.args.proc c.args.rows.now c.args.k c.index-rows-k.result c.is_made_by.result c.requires.here c.index-rows-k.is c.is_made_by.ensures c.if-not-is_made_by.true

pub returns-then-prev-row : goal.returns-then-prev-row
returns-then-prev-row c =
    let other : (c.index-rows-k-2.result.event == c.index-rows-k.result.event) ≡ false = grind (arith, nat_tests, c.if-prev-row.true) in
    joins_made c.args.proc c.args.rows.now c.args.k c.index-rows-k.result c.index-rows-k-2.result c.is_made_by.result false c.requires.here (omega (arith, c.if-k-eq0.false)) c.index-rows-k.is c.index-rows-k-2.is c.is_made_by.ensures c.if-not-is_made_by.false (rw other refl)

pub returns : goal.returns
returns c =
    let same : (c.index-rows-k-2.result.event == c.index-rows-k.result.event) ≡ true = grind (arith, nat_tests, c.if-prev-row.false) in
    let before : c.args.k - 1 < length c.args.rows.now = omega (arith, c.requires.here) in
    let prev = at_item c.args.rows.now (c.args.k - 1) (λ (r : LogRow). c.finishes.result ≡ finishes_of (seen_of (take (c.args.k - 1) c.args.rows.now)) (finisher r.row)) c.index-rows-k-2.result before c.index-rows-k-2.is c.finishes.ensures in
    joins_made c.args.proc c.args.rows.now c.args.k c.index-rows-k.result c.index-rows-k-2.result c.is_made_by.result c.finishes.result c.requires.here (omega (arith, c.if-k-eq0.false)) c.index-rows-k.is c.index-rows-k-2.is c.is_made_by.ensures c.if-not-is_made_by.false (rw same prev)
