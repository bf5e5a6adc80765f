-- Whether a document will run, as its desk and its view change.
use Rattle.std.proofs.Common.{◌≡◌, Bool, true, false, ◌==◌, List, [], ◌∷◌, ◌++◌, length, Option, Some, None, refl, ap, ◌∙◌}
use Rattle.std.specs.Prelude.{filter, fold, option_map, slice_get}
use Rattle.std.proofs.lemmas.List.{append-nil}
use Rattle.std.proofs.lemmas.List.Sums.{fold-append}
use Rattle.tab_ids.specs.declared.DocId.{DocId}
use Rattle.log_model.specs.declared.job.Job.{Job}
use Rattle.log_model.specs.declared.job.Order.{Order}
use Rattle.log_model.specs.declared.job.Task.{Task}
use Rattle.log_model.specs.declared.job.Task.TheVariants as tasks
use Rattle.log_model.specs.declared.made.What.{What}
use Rattle.log_model.specs.declared.made.What.TheVariants as whats
use Rattle.log_model.specs.declared.outcome.Outcome.{Outcome}
use Rattle.log_model.specs.After.{desk_taken, desk_finished}
use Rattle.log_model.specs.AfterDocuments.{view_finished}
use Rattle.log_model.specs.Seen.{Document, Desk}
use Rattle.log_model.specs.Views.{View, after_made}
use Rattle.seen_facts.specs.Coord.Leading.{orders_for, is_live_order}
use Rattle.seen_facts.proofs.Coord.OneDocument.{orders_finished_own, orders_finished_other, orders_taken, mailed, orders_mailed}
use Rattle.seen_facts.specs.Rest.Resting.{runs_in, run_after, will_run}

abbrev runs_on : Option Bool → List Job → Option Bool
runs_on runs jobs = fold (λ (r : Option Bool) (job : Job). run_after r job.task) runs jobs

-- the view of a finished order runs as told
pub finished_runs : (d : Document) (task : Task) → runs_in (view_finished d task) ≡ run_after (runs_in d.view) task
finished_runs d task = by_view d.view refl
  where
    by_view : (o : Option View) → d.view ≡ o → runs_in (view_finished d task) ≡ run_after (runs_in d.view) task
    by_view None e = by_task task refl
      where
        by_task : (k : Task) → task ≡ k → runs_in (view_finished d task) ≡ run_after (runs_in d.view) task
        by_task (tasks.Populate nav state address initial) f = rw f refl
        by_task (tasks.Activate entry epoch long at memo address) f = rw (f, e) refl
        by_task (tasks.Update long at) f = rw (f, e) refl
        by_task tasks.Freeze f = rw (f, e) refl
        by_task tasks.Discard f = rw f refl
        by_task (tasks.Ask slot cause) f = rw (f, e) refl
        by_task (tasks.DoFragment req mode address) f = rw f refl
    by_view (Some view) e = by_task task refl
      where
        by_task : (k : Task) → task ≡ k → runs_in (view_finished d task) ≡ run_after (runs_in d.view) task
        by_task (tasks.Populate nav state address initial) f = rw f refl
        by_task (tasks.Activate entry epoch long at memo address) f = rw (f, e) refl
        by_task (tasks.Update long at) f = rw (f, e) refl
        by_task tasks.Freeze f = rw (f, e) refl
        by_task tasks.Discard f = rw f refl
        by_task (tasks.Ask slot cause) f = rw (f, e) refl
        by_task (tasks.DoFragment req mode address) f = rw f refl

-- what a document makes leaves whether it runs
pub made_runs : (view : Option View) (what : What) → runs_in (option_map (λ (v : View). after_made v what) view) ≡ runs_in view
made_runs None what = refl
made_runs (Some view) (whats.Push entry memo address) = refl
made_runs (Some view) (whats.Replace over entry memo address) = refl
made_runs (Some view) (whats.AddFrame nav) = refl
made_runs (Some view) (whats.RemoveFrame nav) = refl
made_runs (Some view) (whats.Go delta) = refl
made_runs (Some view) whats.Edit = refl

-- alike desks and views
pub run_alike : (desk other : Desk) (d e : Document) → orders_for other e.nr ≡ orders_for desk d.nr → runs_in e.view ≡ runs_in d.view → will_run other e ≡ will_run desk d
run_alike desk other d e orders view =
    ap (λ (l : List Job). runs_on (runs_in e.view) l) orders ∙ ap (λ (r : Option Bool). runs_on r (orders_for desk d.nr)) view

-- ---- the changes of a desk

pub taken_run : (desk : Desk) (job : Job) (dirty : Bool) (d : Document) → desk.in_hand ≡ None → slice_get desk.mail 0 ≡ Some job → will_run (desk_taken true dirty desk) d ≡ will_run desk d
taken_run desk job dirty d free first =
    run_alike desk (desk_taken true dirty desk) d d (ap (λ (l : List Job). filter (is_live_order d.nr (length desk.killed)) l) (orders_taken desk job dirty free first)) refl

-- the document of the finished order
pub finished_run_own : (desk : Desk) (order : Order) (outcome : Outcome) (d new : Document) → desk.in_hand ≡ Some order → is_live_order d.nr (length desk.killed) order.job ≡ true → new.nr ≡ d.nr → new.view ≡ view_finished d order.job.task → will_run (desk_finished outcome desk) new ≡ will_run desk d
finished_run_own desk order outcome d new in_ lives nr view =
    ap (λ (n : DocId). runs_on (runs_in new.view) (orders_for (desk_finished outcome desk) n)) nr
    ∙ ap (λ (v : Option View). runs_on (runs_in v) (orders_for (desk_finished outcome desk) d.nr)) view
    ∙ ap (λ (r : Option Bool). runs_on r (orders_for (desk_finished outcome desk) d.nr)) (finished_runs d order.job.task)
    ∙ ap (λ (l : List Job). runs_on (runs_in d.view) l) (orders_finished_own desk order outcome d.nr in_ lives)

pub finished_run_other : (desk : Desk) (order : Order) (outcome : Outcome) (d : Document) → desk.in_hand ≡ Some order → (order.job.doc.0 == d.nr.0) ≡ false → will_run (desk_finished outcome desk) d ≡ will_run desk d
finished_run_other desk order outcome d in_ other =
    run_alike desk (desk_finished outcome desk) d d (orders_finished_other desk order outcome d.nr in_ other) refl

-- the document of an order that is sent
pub mailed_run_own : (desk : Desk) (job : Job) (d new : Document) → is_live_order d.nr (length desk.killed) job ≡ true → new.nr ≡ d.nr → new.view ≡ d.view → will_run (mailed job desk) new ≡ run_after (will_run desk d) job.task
mailed_run_own desk job d new lives nr view =
    let one : filter (is_live_order d.nr (length desk.killed)) (job ∷ []) ≡ job ∷ [] = rw lives refl in
    ap (λ (n : DocId). runs_on (runs_in new.view) (orders_for (mailed job desk) n)) nr
    ∙ ap (λ (v : Option View). runs_on (runs_in v) (orders_for (mailed job desk) d.nr)) view
    ∙ ap (λ (l : List Job). runs_on (runs_in d.view) l) (orders_mailed job desk d.nr ∙ ap (λ (l : List Job). orders_for desk d.nr ++ l) one)
    ∙ fold-append (λ (r : Option Bool) (j : Job). run_after r j.task) (runs_in d.view) (orders_for desk d.nr) (job ∷ [])

pub mailed_run_other : (desk : Desk) (job : Job) (d : Document) → (job.doc.0 == d.nr.0) ≡ false → will_run (mailed job desk) d ≡ will_run desk d
mailed_run_other desk job d other =
    run_alike desk (mailed job desk) d d (orders_mailed job desk d.nr ∙ (let none : orders_for desk d.nr ++ filter (is_live_order d.nr (length desk.killed)) (job ∷ []) ≡ orders_for desk d.nr = rw other (append-nil (orders_for desk d.nr)) in none)) refl
