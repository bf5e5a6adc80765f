use Rattle.std.proofs.Common.{◌≡◌, ◌≤◌, drop}
use Rattle.std.specs.Prelude.{fold}
use Rattle.log_model.specs.declared.row_kind.LogRow.{LogRow}
use Rattle.history_log.specs.declared.mail_count.MailCount.{MailCount}
use Rattle.history_log.specs.Mails.{mail_after, no_mail}
use Rattle.history_log.proofs.log.Log.mail_count.Given as goal

abbrev pub invariant-loop-row : goal.invariant-loop-row
invariant-loop-row l = record {
  counted :
      fold (λ (m : MailCount) (row : LogRow). mail_after l.proc m row.row) l.count (drop l.row-index l.row-items)
      ≡ fold (λ (m : MailCount) (row : LogRow). mail_after l.proc m row.row) no_mail l.row-items;
  within : l.count.gone ≤ l.count.sent;
  few : l.count.sent ≤ l.row-index;
}
