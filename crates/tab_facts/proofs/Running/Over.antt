-- Fragment orders find their documents running over each row that may come, and over rows of an event.
use Rattle.seen_facts.proofs.Coord.Unread.{next}
use Rattle.log_model.specs.Seen.{Seen}
use Rattle.log_model.specs.declared.job.Job.{Job}
use Rattle.log_model.specs.declared.job.Task.{Task}
use Rattle.log_model.specs.declared.job.Task.TheVariants as tasks
use Rattle.log_model.specs.declared.row_kind.Actor.{Actor}
use Rattle.log_model.specs.declared.row_kind.RowKind.{RowKind}
use Rattle.log_model.specs.declared.row_kind.RowKind.TheVariants as rows
use Rattle.tab_facts.proofs.Running.Orders.{making_running, sent_running}
use Rattle.tab_facts.proofs.Running.Rows.{accepted_running, answered_running, applied_running, delivered_running, dropped_running, evicted_running, finished_running, made_running, prompted_running, refused_running, started_running, taken_running}
use Rattle.tab_facts.specs.Running.Fitting.{EachFits, IsFittingOrder, IsFittingRow}
use Rattle.tab_facts.specs.Running.Running.{AreFoundRunning}
use Rattle.seen_laws.proofs.InEvents.{first_goes, now_step, rest_goes}
use Rattle.seen_laws.specs.InEvent.{EachGoes, InEvent, now_of}
use Rattle.std.proofs.Common.{Bool, List, [], append-nil, append_assoc, refl, subst, sym, ℕ, ◌++◌, ◌∷◌, ◌≡◌}
use Rattle.tab_ids.specs.declared.JobId.{JobId}

module _ (s : Seen) (event : ℕ) (actor : Actor) (are : AreFoundRunning s) where
  sent_by : (job : Job) (task : Task) → job.task ≡ task → IsFittingOrder s job task → AreFoundRunning (next s event actor (rows.Sent job))
  sent_by job (tasks.Populate nav state address initial) is fits =
      making_running s event actor are job nav state address initial is fits
  sent_by job (tasks.DoFragment req mode address) is fits =
      sent_running s event actor are job (rw is tt) (λ d found. rw is (fits d found))
  sent_by job (tasks.Activate entry epoch length index memo address) is fits = sent_running s event actor are job (rw is tt) (λ d found. rw is tt)
  sent_by job (tasks.Update length index) is fits = sent_running s event actor are job (rw is tt) (λ d found. rw is tt)
  sent_by job tasks.Freeze is fits = sent_running s event actor are job (rw is tt) (λ d found. rw is tt)
  sent_by job tasks.Discard is fits = sent_running s event actor are job (rw is tt) (λ d found. rw is tt)
  sent_by job (tasks.Ask slot cause) is fits = sent_running s event actor are job (rw is tt) (λ d found. rw is tt)

  pub running_after : (kind : RowKind) → IsFittingRow s kind → AreFoundRunning (next s event actor kind)
  running_after (rows.Opened entry state doc proc slot address) never = absurd never
  running_after (rows.Killed proc death) never = absurd never
  running_after (rows.Sent job) fits = sent_by job job.task refl fits
  running_after (rows.Taken proc nr live dirty) fits =
      subst (λ (b : Bool). AreFoundRunning (next s event actor (rows.Taken proc nr b dirty))) (sym fits.live_is) (taken_running s event actor are proc fits.job dirty fits.free fits.first)
  running_after (rows.Finished proc nr outcome) fits =
      subst (λ (n : JobId). AreFoundRunning (next s event actor (rows.Finished proc n outcome))) (sym fits.nr_is) (finished_running s event actor are proc fits.order outcome fits.in_hand)
  running_after (rows.Delivered proc) fits = delivered_running s event actor are proc fits
  running_after (rows.Made proc made) fits = made_running s event actor are proc made
  running_after (rows.Accepted req doc what) fits = accepted_running s event actor are req doc what
  running_after (rows.Started req goal) fits = started_running s event actor are req goal
  running_after (rows.Applied req change) fits = applied_running s event actor are req change
  running_after (rows.Refused req reason) fits = refused_running s event actor are req reason
  running_after (rows.Dropped req cause) fits = dropped_running s event actor are req cause
  running_after (rows.Prompted req doc) fits = prompted_running s event actor are req doc
  running_after (rows.Answered req stay) fits = answered_running s event actor are req stay
  running_after (rows.Evicted state) fits = evicted_running s event actor are state

-- ---- rows of an event

pub running_over : (e : InEvent) (more was : List RowKind) → EachFits e was more → EachGoes e was more → AreFoundRunning (now_of e was) → AreFoundRunning (now_of e (was ++ more))
running_over e [] was fits goes are = subst (λ (l : List RowKind). AreFoundRunning (now_of e l)) (sym (append-nil was)) are
running_over e (kind ∷ more) was fits goes are =
    subst (λ (l : List RowKind). AreFoundRunning (now_of e l)) (append_assoc was (kind ∷ []) more)
    (running_over e more (was ++ kind ∷ []) fits.1 (rest_goes e was more kind goes) (now_step AreFoundRunning e was kind (first_goes e was more kind goes) (λ a. running_after (now_of e was) e.event e.actor a kind fits.0) are))
