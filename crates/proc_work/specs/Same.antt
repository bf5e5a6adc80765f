-- Whether two orders are the same, field for field.
-- This project's own.
use Rattle.std.specs.Prelude.{Bool, false, true, ◌&&◌, ◌==◌, bytes_eq}
use Rattle.log_model.specs.declared.job.Job.{Job}
use Rattle.log_model.specs.declared.job.Order.{Order}
use Rattle.log_model.specs.declared.job.Task.{Task}
use Rattle.log_model.specs.declared.job.Task.TheVariants as tasks
use Rattle.log_model.specs.Equal.{same_bool, same_leaving, same_memo, same_mode, same_why}
use Rattle.log_model.specs.History.{same_entry}

-- two orders ask the same of a document
abbrev pub same_task : Task → Task → Bool
same_task (tasks.Populate nav state address initial) (tasks.Populate nav' state' address' initial') =
    nav.0 == nav'.0 && state.0 == state'.0 && bytes_eq address address' && same_bool initial initial'
same_task (tasks.Activate entry epoch length index memo address) (tasks.Activate entry' epoch' length' index' memo' address') =
    same_entry entry entry' && epoch.0 == epoch'.0 && length == length' && index == index' && same_memo memo memo' && bytes_eq address address'
same_task (tasks.Update length index) (tasks.Update length' index') = length == length' && index == index'
same_task tasks.Freeze tasks.Freeze = true
same_task tasks.Discard tasks.Discard = true
same_task (tasks.Ask slot cause) (tasks.Ask slot' cause') = slot == slot' && same_leaving cause cause'
same_task (tasks.DoFragment req mode address) (tasks.DoFragment req' mode' address') =
    req.0 == req'.0 && same_mode mode mode' && bytes_eq address address'
same_task _ _ = false

-- they are the same as they were sent
abbrev pub same_job : Job → Job → Bool
same_job a b =
    a.nr.0 == b.nr.0 && a.proc.0 == b.proc.0 && a.incarnation == b.incarnation && a.doc.0 == b.doc.0
    && same_why a.why b.why && same_task a.task b.task

-- and as they were taken up
abbrev pub same_order : Order → Order → Bool
same_order a b = same_job a.job b.job && same_bool a.dirty b.dirty
