-- What a caller that logs an order's rows may want to know of `do_job`.
use Rattle.std.proofs.Common.{◌≡◌, Option, Some, refl}
use Rattle.std.specs.Prelude.{option_map}
use Rattle.log_model.specs.declared.job.Task.{Task}
use Rattle.log_model.specs.declared.job.Task.TheVariants as tasks
use Rattle.log_model.specs.declared.made.What.{What}
use Rattle.log_model.specs.Seen.{Document}
use Rattle.log_model.specs.AfterDocuments.{view_finished}
use Rattle.log_model.specs.Views.{View, after_task, after_made_if, made_of_task}
use Rattle.doc_view.specs.Jobs.{IsForView}

-- the view after the row of a finished order, and then that of what was made of it, if anything was
abbrev pub view_of_rows : Document → Task → Option What → Option View
view_of_rows d task made = option_map (λ v. after_made_if v made) (view_finished d task)

-- what an order does is what its rows do: a finished fragment order by itself leaves the view, and what was made changes it
pub view_of_rows-is : (d : Document) (view : View) (task : Task) → d.view ≡ Some view → IsForView task → view_of_rows d task (made_of_task view task) ≡ Some (after_task view task)
view_of_rows-is d view (tasks.Activate entry epoch length index memo address) is for = rw is refl
view_of_rows-is d view (tasks.Update length index) is for = rw is refl
view_of_rows-is d view tasks.Freeze is for = rw is refl
view_of_rows-is d view (tasks.Ask slot cause) is for = rw is refl
view_of_rows-is d view (tasks.DoFragment req mode address) is for = rw is refl
view_of_rows-is d view (tasks.Populate nav state address initial) is for = absurd for
view_of_rows-is d view tasks.Discard is for = absurd for
