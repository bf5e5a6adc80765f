-- A document that no navigable is awake on doesn't run, once the orders that come to it are done; but one that is still to be discarded, since no entry has its document state.
-- HTML Standard, "active document", "Documents" ("fully active") and "destroy a document"; orders on their way are this project's own.
use Rattle.std.specs.Prelude.{◌≡◌, Bool, true, false, not, ◌||◌, fold, option_map, Option, Some, None}
use Rattle.tab_ids.specs.declared.DocId.{DocId}
use Rattle.tab_ids.specs.declared.NavId.{NavId}
use Rattle.log_model.specs.declared.job.Job.{Job}
use Rattle.log_model.specs.declared.job.Task.{Task}
use Rattle.log_model.specs.declared.job.Task.TheVariants as tasks
use Rattle.log_model.specs.History.{has_state}
use Rattle.log_model.specs.Views.{View}
use Rattle.log_model.specs.Seen.{Seen, Document, Desk, Place, awake, document_of, desk_of, place_of}
use Rattle.seen_facts.specs.Coord.Leading.{orders_for}

-- whether the document runs, where it is there
abbrev pub runs_in : Option View → Option Bool
runs_in view = option_map (λ (v : View). v.running) view

-- whether it does once an order is done
abbrev pub run_after : Option Bool → Task → Option Bool
run_after runs (tasks.Populate nav state address initial) = Some false
run_after runs (tasks.Activate entry epoch length index memo address) = option_map (λ (b : Bool). true) runs
run_after runs tasks.Freeze = option_map (λ (b : Bool). false) runs
run_after runs tasks.Discard = None
run_after runs _ = runs

-- whether it does once all are done that come to it
abbrev pub will_run : Desk → Document → Option Bool
will_run desk d = fold (λ (runs : Option Bool) (job : Job). run_after runs job.task) (runs_in d.view) (orders_for desk d.nr)

abbrev pub is_resting : Option Bool → Bool
is_resting None = true
is_resting (Some runs) = not runs

-- no navigable is awake on the document
abbrev pub IsUnshown : Seen → DocId → Type 0
IsUnshown s doc = (nav : NavId) (place : Place) → place_of s nav ≡ Some place → place.status ≡ awake doc → ⊥

-- the document was discarded, or an entry has its document state
abbrev pub is_swept : Seen → Document → Bool
is_swept s d = d.is_discarded || has_state d.state s.history.rows

abbrev pub EachRests : Seen → Type 0
EachRests s =
    (doc : DocId) (d : Document) → document_of s doc ≡ Some d → IsUnshown s doc → is_swept s d ≡ true → is_resting (will_run (desk_of s d.proc) d) ≡ true
