use Rattle.std.proofs.Common.{◌≡◌, ◌++◌, drop}
use Rattle.log_model.specs.Logs.{mail_of}
use Rattle.history_log.specs.Mails.{sent_to}
use Rattle.history_log.proofs.log.Log.mail.Given as goal

abbrev pub invariant-loop-row : goal.invariant-loop-row
invariant-loop-row l = l.jobs ++ drop l.left (sent_to l.proc (drop l.row-index l.row-items)) ≡ mail_of l.row-items l.proc
