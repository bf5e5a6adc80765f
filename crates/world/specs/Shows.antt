-- What an order makes of the view of its document, and how the table of views goes with it.
-- HTML Standard, "attempt to populate the history entry's document", "update document for history step application" and "destroy a document".
use Rattle.std.specs.Prelude.{◌≡◌, ◌==◌, List, Option, Some, None, option_and_then, option_map, if◌then◌else◌}
use Rattle.doc_view.specs.Jobs.{made_of_order}
use Rattle.log_model.specs.declared.made.Made.{Made}
use Rattle.tab_ids.specs.declared.DocId.{DocId}
use Rattle.log_model.specs.declared.job.Task.{Task}
use Rattle.log_model.specs.declared.job.Task.TheVariants as tasks
use Rattle.log_model.specs.Views.{View, after_task, fresh_view}
use Rattle.proc_tables.specs.Views.{view_at}

-- the view of one document becomes this, or it has none from then on, and no other's changes
abbrev pub Shows : DocId → Option View → List (DocId × View) → List (DocId × View) → Type 0
Shows of view old new = (doc : DocId) → view_at new doc ≡ (if of.0 == doc.0 then view else view_at old doc)

-- the orders of a tab in which nobody is asked
abbrev pub IsTabTask : Task → Type 0
IsTabTask (tasks.Ask slot cause) = ⊥
IsTabTask _ = Unit {0}

-- the view that such an order makes of a document's: a made one has a fresh view, a discarded one none, and any other's changes by the order
abbrev pub shown_after : DocId → Option View → Task → Option View
shown_after doc view (tasks.Populate nav state address initial) = Some (fresh_view doc address initial)
shown_after doc view tasks.Discard = None
shown_after doc view task = option_map (λ (v : View). after_task v task) view

-- what a document makes of an order as it is finished, if anything: one that runs makes a new entry of a fragment order
abbrev pub made_at_end : Option View → Task → Option Made
made_at_end view task = option_and_then (λ (v : View). made_of_order v task) view
