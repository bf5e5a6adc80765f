-- A row of a question isn't seen in the log without questions, whether it is noted there that all stand or not: it has the event's number then, no order that was just finished, and it is noted if they do.
use Rattle.log_model.specs.After.{after, changed, has_stood_now}
use Rattle.log_model.specs.Places.{all_stand}
use Rattle.log_model.specs.Seen.{Seen, desk_of}
use Rattle.log_model.specs.declared.handler.Verdict.{Verdict}
use Rattle.log_model.specs.declared.job.Job.{Job}
use Rattle.log_model.specs.declared.job.Order.{Order}
use Rattle.log_model.specs.declared.job.Task.{Task}
use Rattle.log_model.specs.declared.made.Report.TheVariants as reports
use Rattle.log_model.specs.declared.outcome.Outcome.TheVariants as outcomes
use Rattle.log_model.specs.declared.row_kind.Actor.{Actor}
use Rattle.log_model.specs.declared.row_kind.LogRow.{LogRow}
use Rattle.log_model.specs.declared.row_kind.RowKind.{RowKind}
use Rattle.log_model.specs.declared.row_kind.RowKind.TheVariants as rows
use Rattle.seen_laws.specs.Unasked.{is_question, unasked}
use Rattle.std.proofs.Common.{Bool, None, Some, ap, false, refl, sym, true, ℕ, ◌+◌, ◌∙◌, ◌≡◌}
use Rattle.std.specs.Prelude.{slice_get}
use Rattle.tab_ids.specs.declared.ProcId.{ProcId}
use Rattle.tab_ids.specs.declared.ReqId.{ReqId}
use Rattle.unasked.proofs.Questions.{answered_unseen, asks_so, delivered_unseen, finished_unseen, taken_unseen}
use Rattle.unasked.proofs.Whole.{silent}

-- the log, where it is noted that all stand if they do
abbrev pub noted : Seen → Seen
noted s = record s { has_stood = has_stood_now s.has_stood s }

-- the log as it would be had nobody been asked, once a row of a question has come
abbrev pub quieted : Seen → ℕ → Bool → Seen
quieted s event stood = record s { events = event + 1; just_finished = None; has_stood = stood }

noted_now : (s : Seen) → has_stood_now (noted s).has_stood (noted s) ≡ (noted s).has_stood
noted_now s = by_stood s.has_stood
  where
    by_now : (c : Bool) → all_stand s s.history.current ≡ c → has_stood_now c (noted s) ≡ c
    by_now true e = refl
    by_now false e = e

    by_stood : (b : Bool) → has_stood_now (has_stood_now b s) (noted s) ≡ has_stood_now b s
    by_stood true = refl
    by_stood false = by_now (all_stand s s.history.current) refl

-- a row that moves nobody, and changes no history, leaves the same of it
noted_row : (s : Seen) (row : LogRow) → changed (noted s) row ≡ record (changed s row) { has_stood = (noted s).has_stood } → (changed s row).has_stood ≡ s.has_stood → all_stand (changed s row) (changed s row).history.current ≡ all_stand s s.history.current → after (noted s) row ≡ after s row
noted_row s row same stood stand =
    ap (λ (x : Seen). record x { has_stood = has_stood_now x.has_stood x }) same
    ∙ ap (λ (b : Bool). let x : Seen = record (changed s row) { has_stood = b } in x) (by_stood s.has_stood refl)
  where
    -- what it comes to, but for that
    mid : Seen
    mid = record (changed s row) { has_stood = (noted s).has_stood }

    by_now : (c : Bool) → all_stand s s.history.current ≡ c → has_stood_now c mid ≡ all_stand (changed s row) (changed s row).history.current
    by_now true e = sym (stand ∙ e)
    by_now false e = refl

    by_stood : (b : Bool) → s.has_stood ≡ b → has_stood_now (has_stood_now b s) mid ≡ has_stood_now (changed s row).has_stood (changed s row)
    by_stood true e = sym (ap (λ (b : Bool). has_stood_now b (changed s row)) (stood ∙ e))
    by_stood false e =
        by_now (all_stand s s.history.current) refl ∙ sym (ap (λ (b : Bool). has_stood_now b (changed s row)) (stood ∙ e))

module _ (checking : ReqId → Bool) (s : Seen) (event : ℕ) (actor : Actor) where
  abbrev its_row : RowKind → LogRow
  its_row kind = record { event = event; actor = actor; row = kind }

  abbrev then : Seen
  then = quieted (unasked checking s) event (has_stood_now (unasked checking s).has_stood (unasked checking s))

  -- that all stand is read of no question
  as_noted : silent (unasked checking (noted s)) event s.jobs s.states ≡ then
  as_noted = ap (λ (b : Bool). quieted (unasked checking s) event b) (by_stood s.has_stood)
    where
      by_stood : (b : Bool) → has_stood_now b s ≡ has_stood_now b (unasked checking s)
      by_stood true = refl
      by_stood false = refl

  -- an order that asks is taken up
  pub taken_quiet : (proc : ProcId) (job : Job) (live dirty : Bool) → slice_get (desk_of s proc).mail 0 ≡ Some job → is_question job.task ≡ true → (desk_of s proc).in_hand ≡ None → unasked checking (after s (its_row (rows.Taken proc job.nr live dirty))) ≡ then
  taken_quiet proc job live dirty first question free =
      ap (unasked checking) (sym (noted_row s (its_row (rows.Taken proc job.nr live dirty)) refl refl refl))
      ∙ taken_unseen checking (noted s) event actor (noted_now s) proc job.nr live dirty job first question free
      ∙ as_noted

  -- one is answered
  pub finished_quiet : (proc : ProcId) (order : Order) (verdict : Verdict) → (desk_of s proc).in_hand ≡ Some order → is_question order.job.task ≡ true → unasked checking (after s (its_row (rows.Finished proc order.job.nr (outcomes.Asked verdict)))) ≡ then
  finished_quiet proc order verdict hand question =
      ap (unasked checking) (sym (noted_row s (its_row (rows.Finished proc order.job.nr (outcomes.Asked verdict))) (rw hand refl) refl refl))
      ∙ finished_unseen checking (noted s) event actor (noted_now s) proc order.job.nr (outcomes.Asked verdict) order hand question
      ∙ as_noted

  -- the answer is delivered
  pub delivered_quiet : (proc : ProcId) (job : Job) (verdict : Verdict) → slice_get (desk_of s proc).reports 0 ≡ Some (reports.Done job (outcomes.Asked verdict) None) → is_question job.task ≡ true → unasked checking (after s (its_row (rows.Delivered proc))) ≡ then
  delivered_quiet proc job verdict first question =
      ap (unasked checking) (sym (asks_so (λ (task : Task). job.task ≡ task → after (noted s) (its_row (rows.Delivered proc)) ≡ after s (its_row (rows.Delivered proc))) job.task question (λ slot cause asking. noted_row s (its_row (rows.Delivered proc)) (rw first (rw asking refl)) refl (rw first (rw asking refl))) refl))
      ∙ delivered_unseen checking (noted s) event actor (noted_now s) proc job verdict first question
      ∙ as_noted

  -- the user answers
  pub answered_quiet : (req : ReqId) (stay : Bool) → unasked checking (after s (its_row (rows.Answered req stay))) ≡ then
  answered_quiet req stay =
      ap (unasked checking) (sym (noted_row s (its_row (rows.Answered req stay)) refl refl refl))
      ∙ answered_unseen checking (noted s) event actor (noted_now s) req stay
      ∙ as_noted
