-- A document is made for a navigable's target: for which cause, and in which process.
-- HTML Standard, "attempt to populate the history entry's document"; that documents live in processes by their sites, and that orders have causes, is this project's own.
use Rattle.address.specs.Addresses.{base_of, blank_text, origin_of}
use Rattle.log_model.specs.Equal.{holds, same_why}
use Rattle.log_model.specs.Suits.{first_process, process_of_origin}
use Rattle.log_model.specs.declared.header.Header.{Header}
use Rattle.log_model.specs.declared.job.Job.{Job}
use Rattle.log_model.specs.declared.job.Why.{Why}
use Rattle.log_model.specs.declared.row_kind.RowKind.{RowKind}
use Rattle.nav_tree.specs.Tree.{Tree, nav_of}
use Rattle.nav_tree.specs.declared.nav.Nav.{Nav}
use Rattle.std.specs.Prelude.{Bool, List, Option, Some, if◌then◌else◌, option_and_then, true, ℕ, ◌&&◌, ◌==◌, ◌≡◌, ◌⊎◌}
use Rattle.std.specs.Str.{bytes_eq}
use Rattle.tab_doors.specs.Ties.{proc_in}
use Rattle.tab_doors.specs.declared.tables.Tables.{Tables}
use Rattle.tab_ids.specs.declared.NavId.{NavId}
use Rattle.tab_ids.specs.declared.ProcId.{ProcId}
use Rattle.tab_ids.specs.declared.ReqId.{ReqId}
pub use Rattle.tab_passes.specs.Causes.{show_why}
use Rattle.log_model.specs.History.{row_of}
use Rattle.log_model.specs.declared.row.Row.{Row}
use Rattle.nav_tree.specs.Tree.{is_state}
use Rattle.std.specs.Map.{lookup}
use Rattle.std.specs.Prelude.{[], is_some, ◌++◌, ◌∷◌}
use Rattle.step_index.specs.Held.{history_held}
use Rattle.tab_ids.specs.declared.EntryId.{EntryId}
pub use Rattle.tab_passes.specs.Telling.{awake_on}
use Rattle.log_model.specs.declared.job.Task.TheVariants as tasks
use Rattle.log_model.specs.declared.job.Why.TheVariants as whys
use Rattle.log_model.specs.declared.row_kind.RowKind.TheVariants as rows

-- ---- where it lives

-- the process of the document that the navigable above is awake on, as the tables tell
abbrev pub parent_proc : Tables → NavId → Option ProcId
parent_proc t nav =
    option_and_then
    (λ (fields : Nav). option_and_then (λ (parent : NavId). option_and_then (λ (above : Nav). option_and_then (proc_in t.whose.entries) (awake_on above.status)) (nav_of parent t.tree)) fields.parent)
    (nav_of nav t.tree)

-- the process of a document at an address: that of its origin's site; of an about:blank document that of its parent's document, at the top the first
abbrev pub home_in : Header → Tables → NavId → List ℕ → Option ProcId
home_in header t nav address =
    if bytes_eq (base_of address) blank_text then (if nav.0 == 0 then Some first_process else parent_proc t nav)
    else Some (process_of_origin header (origin_of address))

-- ---- what the order is for

-- the navigable was never shown a document, and was added by the request that is the cause
abbrev pub is_new_by : Tree → NavId → Why → Bool
is_new_by tree nav cause = holds (λ (n : Nav). holds (λ (req : ReqId). n.epoch.0 == 0 && same_why cause (whys.Req req)) n.added_by) (nav_of nav tree)

-- an order that makes one for a navigable that is new by the cause is for that cause, else for the traversal that runs, where one does
abbrev pub make_why : Bool → Option ReqId → Why → Why
make_why new run cause = if new then cause else show_why run cause

-- ---- what is put out

-- one order was, that makes a document of the entry's document state and address for the navigable
pub record IsMadeBy (header : Header) (t : Tables) (nav : NavId) (entry : EntryId) (cause : Why) (was out : List RowKind) : Type 0 where
  pub target : Row
  pub at : row_of entry (history_held t.store).rows ≡ Some target
  pub job : Job
  pub initial : Bool
  pub task : job.task ≡ tasks.Populate nav target.state target.address initial
  pub initial_is : initial ≡ is_some (lookup (is_state target.state) t.initial.entries)
  pub proc_is : home_in header t nav target.address ≡ Some job.proc
  pub why_is : job.why ≡ make_why (is_new_by t.tree nav cause) t.running cause
  pub is : out ≡ was ++ rows.Sent job ∷ []

-- the document of the state is being made, as the tables tell
abbrev pub is_making_in : Tables → EntryId → Bool
is_making_in t entry = holds (λ (row : Row). is_some (lookup (is_state row.state) t.making.entries)) (row_of entry (history_held t.store).rows)

-- it was, or none, where it is being made
abbrev pub HasMade : Header → Tables → NavId → EntryId → Why → List RowKind → List RowKind → Type 0
HasMade header t nav entry cause was out =
    ((is_making_in t entry ≡ true) × (out ≡ was)) ⊎ IsMadeBy header t nav entry cause was out
