-- A log is such that questions of it aren't seen in the log without questions: the empty one is, and each row leaves it so, whatever it is.
use Rattle.std.proofs.Common.{List, [], ◌∷◌, refl}
use Rattle.log_model.specs.declared.job.Job.{Job}
use Rattle.log_model.specs.declared.row_kind.LogRow.{LogRow}
use Rattle.log_model.specs.declared.row_kind.RowKind.TheVariants as rows
use Rattle.log_model.specs.After.{after}
use Rattle.log_model.specs.Seen.{Seen, nothing}
use Rattle.seen_laws.specs.InEvent.{InEvent, row_of}
use Rattle.unasked.proofs.Beginnings.{fresh_stays}
use Rattle.unasked.proofs.Sited.{sited_stays}
use Rattle.asking_facts.proofs.Sent.{when_asked}
use Rattle.asking_facts.specs.Known.{IsAskable}

pub nothing_askable : IsAskable nothing
nothing_askable = record { fresh = λ k q at off. absurd cc; sited = refl }

-- over a row
pub row_askable : (s : Seen) (row : LogRow) → IsAskable s → IsAskable (after s row)
row_askable s row is =
    record { fresh = fresh_stays s is.fresh row.event row.actor row.row; sited = sited_stays s row.event row.actor row.row is.sited }

-- over questions
pub sent_askable : (e : InEvent) (s : Seen) (jobs : List Job) → IsAskable s → IsAskable (when_asked e s jobs)
sent_askable e s [] is = is
sent_askable e s (job ∷ jobs) is =
    sent_askable e (after s (row_of e (rows.Sent job))) jobs (row_askable s (row_of e (rows.Sent job)) is)
