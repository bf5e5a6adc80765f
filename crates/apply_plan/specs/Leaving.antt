-- The documents that a traversal leaves.
-- HTML Standard, "Checking if unloading is canceled".
use Rattle.std.specs.Prelude.{ℕ, Bool, ◌&&◌, ◌==◌, List, filter_map, Option, Some, None, option_and_then, if◌then◌else◌}
use Rattle.tab_ids.specs.declared.NavId.{NavId}
use Rattle.tab_ids.specs.declared.DocId.{DocId}
use Rattle.log_model.specs.declared.row.Row.{Row}
use Rattle.log_model.specs.Equal.{holds}
use Rattle.log_model.specs.History.{target_entry}
use Rattle.nav_tree.specs.declared.nav.Nav.{Nav}
use Rattle.nav_tree.specs.declared.place.Place.{Place}
use Rattle.nav_tree.specs.declared.status.NavStatus.{NavStatus}
use Rattle.nav_tree.specs.declared.status.NavStatus.TheVariants.{Awake, Lost, Asleep}
use Rattle.nav_tree.specs.Tree.{Tree, nav_of, document_of}
use Rattle.apply_plan.specs.declared.reach.Reach.TheVariants.{Shown}
use Rattle.apply_plan.specs.Reaches.{is_reached}
use Rattle.apply_plan.specs.Order.{walk_of}

-- the navigable's target at the step has the document state for which the document is live
abbrev pub targets_document : List Row → ℕ → Tree → NavId → DocId → Bool
targets_document rows step tree nav doc =
    holds (λ (row : Row). holds (λ (place : Place). place.doc.0 == doc.0) (document_of row.state tree)) (target_entry rows nav step)

-- the navigable is shown at the step, with the document
abbrev pub stays_on : List Row → ℕ → Tree → NavId → DocId → Bool
stays_on rows step tree nav doc = targets_document rows step tree nav doc && is_reached Shown rows step tree nav

-- the document that the navigable is awake on, where it leaves that
abbrev pub leaving_of : List Row → ℕ → Tree → NavId → Option DocId
leaving_of rows step tree nav = option_and_then (λ (fields : Nav). by_status rows step tree nav fields.status) (nav_of nav tree)
  where
    by_status : List Row → ℕ → Tree → NavId → NavStatus → Option DocId
    by_status rows step tree nav (Awake doc) = if stays_on rows step tree nav doc then None else Some doc
    by_status rows step tree nav Lost = None
    by_status rows step tree nav Asleep = None

-- the documents that a traversal to the step leaves, in the order of the walk
abbrev pub leaving_in : List Row → ℕ → Tree → List DocId
leaving_in rows step tree = filter_map (leaving_of rows step tree) (walk_of tree)
