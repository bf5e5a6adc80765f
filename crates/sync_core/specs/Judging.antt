-- What becomes of a report that a document made under an epoch.
-- HTML Standard, "Navigables" (the active document) and "Centralized modifications of session history" (synchronous navigation steps). Epochs, and waiting for a traversal that has moved the navigable (jumping the queue), are this project's own.
use Rattle.std.specs.Prelude.{Bool, true, false, not, ◌&&◌, ◌==◌, Option, Some, None, if◌then◌else◌}
use Rattle.tab_ids.specs.declared.NavId.{NavId}
use Rattle.tab_ids.specs.declared.ReqId.{ReqId}
use Rattle.tab_ids.specs.declared.Epoch.{Epoch}
use Rattle.log_model.specs.declared.job.Why.TheVariants as reasons
use Rattle.nav_tree.specs.declared.nav.Nav.{Nav}
use Rattle.nav_tree.specs.declared.node.Node.{Node}
use Rattle.nav_tree.specs.declared.status.NavStatus.{NavStatus}
use Rattle.nav_tree.specs.declared.status.NavStatus.TheVariants.{Awake, Lost, Asleep}
use Rattle.nav_tree.specs.Tree.{Tree, node_of}
use Rattle.sync_core.specs.declared.judging.Judged.{Judged}
use Rattle.sync_core.specs.declared.judging.Judged.TheVariants.{Now, Park, Stale, Gone}

-- a navigable of this status presents a document
abbrev pub is_awake : NavStatus → Bool
is_awake (Awake doc) = true
is_awake Lost = false
is_awake Asleep = false

-- the navigable is awake under the epoch
abbrev pub is_current : Epoch → Nav → Bool
is_current epoch nav = is_awake nav.status && nav.epoch.0 == epoch.0

-- a navigable with rows: a report is stale unless it is of a running document under the navigable's epoch; else it waits for a traversal that has moved the navigable
abbrev pub judged_there : Nav → Epoch → Bool → Judged
judged_there nav epoch running =
    if not (running && is_current epoch nav) then Stale nav.why
    else (if nav.moved then Park else Now)

-- what becomes of a report: the request that removed its navigable drops it, also where it is of an old epoch; a navigable that was never made has no reports
abbrev pub judged : Tree → NavId → Epoch → Bool → Judged
judged tree nav epoch running = by_node (node_of nav tree) epoch running
  where
    by_removal : Option ReqId → Nav → Epoch → Bool → Judged
    by_removal (Some req) nav epoch running = Gone req
    by_removal None nav epoch running = judged_there nav epoch running

    by_node : Option Node → Epoch → Bool → Judged
    by_node (Some node) epoch running = by_removal node.destroyed_by node.nav epoch running
    by_node None epoch running = Stale reasons.Start
