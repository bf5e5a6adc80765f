-- A document on which a navigable is awake runs once all orders are done that come to it, so a fragment order may be sent to it; and it runs as a fragment order to it is in hand.
use Rattle.seen_facts.proofs.Coord.Kept.{is_mine}
use Rattle.seen_facts.specs.Coord.Leading.{EachAwake, Leads, LeadsBut, LeadsUntold, is_live_order, once_finished, orders_for, orders_of_desk, pending_view}
use Rattle.seen_facts.specs.Desk.Own.{AreDesksIn, IsDeskIn, IsFragmentTask, IsOrderIn}
use Rattle.seen_facts.specs.Each.Items.{Each, NoneDied}
use Rattle.log_model.specs.AfterRequests.{is_running}
use Rattle.log_model.specs.Seen.{Desk, Document, Place, Seen, awake, desk_of, document_of, place_of}
use Rattle.log_model.specs.Views.{View}
use Rattle.log_model.specs.declared.job.Job.{Job}
use Rattle.log_model.specs.declared.job.Order.{Order}
use Rattle.log_model.specs.declared.job.Task.{Task}
use Rattle.log_model.specs.declared.job.Task.TheVariants as tasks
use Rattle.log_model.specs.declared.made.Made.{Made}
use Rattle.log_model.specs.declared.row.Row.{Row}
use Rattle.seen_facts.proofs.Rest.Again.{its_number}
use Rattle.seen_facts.proofs.Rest.Running.{finished_runs}
use Rattle.seen_facts.specs.Rest.Resting.{run_after, runs_in, will_run}
use Rattle.tab_facts.specs.Running.Fitting.{WillRun}
use Rattle.tab_facts.specs.Running.Running.{AreFoundRunning, AwakeRun, EachFinds, Finds, Runs}
use Rattle.std.proofs.Common.{Bool, List, None, Option, Some, [], ap, false, length, refl, subst, sym, true, ℕ, ◌++◌, ◌==◌, ◌∙◌, ◌∷◌, ◌≡◌}
use Rattle.std.specs.Prelude.{filter, fold, option_map, option_to_list}
use Rattle.tab_ids.specs.declared.DocId.{DocId}
use Rattle.tab_ids.specs.declared.EntryId.{EntryId}
use Rattle.tab_ids.specs.declared.Epoch.{Epoch}
use Rattle.tab_ids.specs.declared.NavId.{NavId}
use Rattle.tab_ids.specs.declared.ProcId.{ProcId}
use Rattle.tab_ids.specs.declared.Death.{Death}

-- ---- who is awake

-- the view to which orders lead runs as told
runs_through : (d : Document) (jobs : List Job) → fold (λ (r : Option Bool) (job : Job). run_after r job.task) (runs_in d.view) jobs ≡ runs_in (fold once_finished d jobs).view
runs_through d [] = refl
runs_through d (job ∷ jobs) =
    ap (λ (r : Option Bool). fold (λ (o : Option Bool) (k : Job). run_after o k.task) r jobs) (sym (finished_runs d job.task)) ∙ runs_through (once_finished d job) jobs

pub will_run_so : (desk : Desk) (d : Document) (view : View) → pending_view d desk ≡ Some view → view.running ≡ true → will_run desk d ≡ Some true
will_run_so desk d view pending runs =
    runs_through d (orders_for desk d.nr) ∙ ap runs_in pending ∙ ap (λ (b : Bool). Some b) runs

pub leads_run : (rows : List Row) (held : List Made) (desk : Desk) (d : Document) (given : Option EntryId) (epoch : Epoch) → Leads rows held desk d given epoch → will_run desk d ≡ Some true
leads_run rows held desk d given epoch leads = will_run_so desk d leads.view leads.pending leads.runs

pub untold_run : (rows : List Row) (held : List Made) (desk : Desk) (d : Document) (given : Option EntryId) (epoch : Epoch) → LeadsUntold rows held desk d given epoch → will_run desk d ≡ Some true
untold_run rows held desk d given epoch leads = will_run_so desk d leads.view leads.pending leads.runs

-- so it is where what is on its way leads
pub awake_run : (rows : List Row) (held : List Made) (s : Seen) → EachAwake (Leads rows held) s → AwakeRun s
awake_run rows held s each nav place doc d placed wakes found =
    leads_run rows held (desk_of s d.proc) d place.given place.epoch (each nav place doc d placed wakes found)

-- and where that is so but for what one document was told
pub awake_run_but : (doc : DocId) (rows : List Row) (held : List Made) (s : Seen) → EachAwake (LeadsBut doc rows held) s → AwakeRun s
awake_run_but doc rows held s each nav place other d placed wakes found = by_document (d.nr.0 == doc.0) refl (each nav place other d placed wakes found)
  where
    by_document : (b : Bool) → (d.nr.0 == doc.0) ≡ b → LeadsBut doc rows held (desk_of s d.proc) d place.given place.epoch → will_run (desk_of s d.proc) d ≡ Some true
    by_document true e leads = untold_run rows held (desk_of s d.proc) d place.given place.epoch (rw e at leads)
    by_document false e leads = leads_run rows held (desk_of s d.proc) d place.given place.epoch (rw e at leads)

-- so a fragment order may be sent to such a document
pub awake_will_run : (s : Seen) (job : Job) (nav : NavId) (place : Place) → AwakeRun s → place_of s nav ≡ Some place → place.status ≡ awake job.doc → WillRun s job
awake_will_run s job nav place run placed wakes d found = run nav place job.doc d placed wakes found

-- ---- what follows

-- a document that runs has a view
view_runs : (s : Seen) (doc : DocId) (d : Document) → document_of s doc ≡ Some d → runs_in d.view ≡ Some true → Runs s doc
view_runs s doc d found runs = by_view d.view refl runs
  where
    by_view : (o : Option View) → d.view ≡ o → runs_in o ≡ Some true → Runs s doc
    by_view None e never = absurd cc
    by_view (Some view) e is = record { d = d; found = found; view = view; viewed = e; running = (let same : view.running ≡ true = cc in same) }

finds_fragment : (runs : Option Bool) (task : Task) → IsFragmentTask task → Finds runs task → runs ≡ Some true
finds_fragment runs (tasks.DoFragment req mode address) is finds = finds
finds_fragment runs (tasks.Populate nav state address initial) never finds = absurd never
finds_fragment runs (tasks.Activate entry epoch length index memo address) never finds = absurd never
finds_fragment runs (tasks.Update length index) never finds = absurd never
finds_fragment runs tasks.Freeze never finds = absurd never
finds_fragment runs tasks.Discard never finds = absurd never
finds_fragment runs (tasks.Ask slot cause) never finds = absurd never

-- the document of a fragment order in hand runs
pub fragment_runs : (s : Seen) (proc : ProcId) (order : Order) → AreFoundRunning s → AreDesksIn s → NoneDied s → (desk_of s proc).in_hand ≡ Some order → IsFragmentTask order.job.task → Runs s order.job.doc
fragment_runs s proc order are desks died hand fragment =
    view_runs s order.job.doc d is.lives.found (finds_fragment (runs_in d.view) order.job.task fragment first.0)
  where
    is : IsOrderIn s.documents s.places proc order.job
    is = in_hand (desk_of s proc) hand (desks proc)
      where
        in_hand : (desk : Desk) → desk.in_hand ≡ Some order → IsDeskIn s.documents s.places proc desk → IsOrderIn s.documents s.places proc order.job
        in_hand desk e its = (let all : Each (IsOrderIn s.documents s.places proc) (orders_of_desk desk) = its.orders in (subst (λ (o : Option Order). Each (IsOrderIn s.documents s.places proc) (option_to_list (option_map (λ (x : Order). x.job) o) ++ desk.mail)) e all).0)

    d : Document
    d = is.lives.d

    home : d.proc ≡ proc
    home = ap (λ (n : ℕ). let p : ProcId = record { 0 = n } in p) is.lives.home

    nr : d.nr ≡ order.job.doc
    nr = its_number s order.job.doc d is.lives.found

    lives : is_live_order d.nr (length (desk_of s proc).killed) order.job ≡ true
    lives =
        is_mine d.nr (length (desk_of s proc).killed) order.job (ap (λ (n : DocId). n.0) (sym nr)) (is.incarnation ∙ sym (ap (λ (l : List Death). length l) (died proc).1))

    orders : order.job ∷ filter (is_live_order d.nr (length (desk_of s proc).killed)) (desk_of s proc).mail ≡ orders_for (desk_of s proc) d.nr
    orders = rw hand (rw lives refl)

    first : EachFinds (runs_in d.view) (order.job ∷ filter (is_live_order d.nr (length (desk_of s proc).killed)) (desk_of s proc).mail)
    first =
        subst (λ (l : List Job). EachFinds (runs_in d.view) l) (sym orders)
        (subst (λ (p : ProcId). EachFinds (runs_in d.view) (orders_for (desk_of s p) d.nr)) home (are order.job.doc d is.lives.found))

-- so it is found running as the order is finished
pub fragment_found : (s : Seen) (doc : DocId) → Runs s doc → is_running s doc ≡ true
fragment_found s doc runs = rw runs.found (rw runs.viewed runs.running)
