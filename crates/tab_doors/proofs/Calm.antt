-- A row beside the checks that discards nothing: no traversal in its check passes by it.
use Rattle.checking_facts.proofs.Settles.{silent_waits}
use Rattle.checking_facts.proofs.Waits.{begun_waits, just_waits, none_waits}
use Rattle.checking_facts.specs.Checks.{IsCalm, IsSilent, NumbersNext, just}
use Rattle.checking_facts.specs.Prompts.{GoesBeside, SendsBeside, discarded_by}
use Rattle.log_model.specs.After.{after}
use Rattle.log_model.specs.Seen.{Seen}
use Rattle.log_model.specs.declared.job.Job.{Job}
use Rattle.log_model.specs.declared.job.Task.{Task}
use Rattle.log_model.specs.declared.job.Task.TheVariants as tasks
use Rattle.log_model.specs.declared.row_kind.LogRow.{LogRow}
use Rattle.log_model.specs.declared.row_kind.RowKind.{RowKind}
use Rattle.log_model.specs.declared.row_kind.RowKind.TheVariants as rows
use Rattle.std.proofs.Common.{Bool, None, Option, ap, false, refl, subst, sym, true, ◌∙◌, ◌≡◌}
use Rattle.tab_ids.specs.declared.ReqId.{ReqId}
use Rattle.tab_ids.specs.declared.Step.{Step}
use Rattle.unasked_dues.specs.Checking.{NonePasses}

module _ (checking : ReqId → Bool) (s : Seen) (row : LogRow) (none : NonePasses checking s) where
  -- a row as which no request begins
  silent : IsCalm row.row → IsSilent s row.row → NumbersNext s row.row → NonePasses checking (after s row)
  silent calm quiet next req q at runs goes on =
      silent_waits checking (λ r. false) s row calm quiet next (none_waits checking s none (λ r. false)) req q at runs goes on refl

  -- an order
  module _ (job : Job) (is : row.row ≡ rows.Sent job) where
    serves : (task : Task) → job.task ≡ task → SendsBeside checking s job task → discarded_by (rows.Sent job) ≡ None → IsSilent s (rows.Sent (record job { task = task }))
    serves (tasks.Ask slot cause) e never kept = never
    serves tasks.Discard e beside kept =
        let gone : discarded_by (rows.Sent (record job { task = tasks.Discard })) ≡ None = ap (λ (t : Task). discarded_by (rows.Sent (record job { task = t }))) (sym e) ∙ kept in
        absurd cc
    serves (tasks.Populate nav state address initial) e beside kept = tt
    serves (tasks.Activate entry epoch length index memo address) e beside kept = tt
    serves (tasks.Update length index) e beside kept = tt
    serves tasks.Freeze e beside kept = tt
    serves (tasks.DoFragment req mode address) e beside kept = tt

    order_calm : GoesBeside checking s (rows.Sent job) → discarded_by (rows.Sent job) ≡ None → NonePasses checking (after s row)
    order_calm beside kept =
        silent (subst (λ (k : RowKind). IsCalm k) (sym is) tt) (subst (λ (k : RowKind). IsSilent s k) (sym is) (serves job.task refl beside kept)) (subst (λ (k : RowKind). NumbersNext s k) (sym is) tt)

  -- a request begins, which isn't in its check
  begun_calm : (req : ReqId) (goal : Option Step) → row.row ≡ rows.Started req goal → checking req ≡ false → NonePasses checking (after s row)
  begun_calm req goal is off =
      subst (λ (k : RowKind). NonePasses checking (after s (record { event = row.event; actor = row.actor; row = k }))) (sym is)
      (just_waits checking (after s (record { event = row.event; actor = row.actor; row = rows.Started req goal })) req (λ q at on. absurd (let never : false ≡ true = sym off ∙ on in cc)) (begun_waits checking s row.event row.actor req goal (none_waits checking s none (just req))))

  pub row_calm : GoesBeside checking s row.row → discarded_by row.row ≡ None → NonePasses checking (after s row)
  row_calm beside kept = by_kind row.row refl beside kept
    where
      other : (kind : RowKind) → row.row ≡ kind → IsCalm kind → IsSilent s kind → NumbersNext s kind → NonePasses checking (after s row)
      other kind is calm quiet next =
          silent (subst (λ (k : RowKind). IsCalm k) (sym is) calm) (subst (λ (k : RowKind). IsSilent s k) (sym is) quiet) (subst (λ (k : RowKind). NumbersNext s k) (sym is) next)

      by_kind : (kind : RowKind) → row.row ≡ kind → GoesBeside checking s kind → discarded_by kind ≡ None → NonePasses checking (after s row)
      by_kind (rows.Started req goal) is off none_ = begun_calm req goal is off
      by_kind (rows.Applied req change) is beside none_ = other (rows.Applied req change) is tt tt tt
      by_kind (rows.Refused req reason) is beside none_ = other (rows.Refused req reason) is tt tt tt
      by_kind (rows.Dropped req cause) is beside none_ = other (rows.Dropped req cause) is tt tt tt
      by_kind (rows.Sent job) is beside none_ = order_calm job is beside none_
      by_kind _ is never none_ = absurd never
