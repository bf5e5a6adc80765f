-- The orders that the coordinator sends, and when.
use Rattle.nav_tree.specs.declared.place.Place as live_place  -- keep
use Rattle.nav_tree.specs.Tree.{document_of}  -- keep
use Rattle.log_model.specs.Seen.{document_of as document_in_log}  -- keep
pub use Rattle.unasked_dues.specs.Checking.{IsForOther}
use Rattle.tab_doors.specs.Keeping.{Move}
use Rattle.tab_doors.specs.Look.{Sight, sight}
use Rattle.seen_facts.specs.Hang.Members.{Has}
use Rattle.load_table.specs.Loads.{ongoing_load}
use Rattle.load_table.specs.declared.load.Load.{Load}
use Rattle.log_model.specs.AfterPlaces.{sleepers_below, sleepers_with}
use Rattle.log_model.specs.History.{has_nav}
use Rattle.log_model.specs.Seen.{Asked, Document, Seen, desk_of, place_of, request_of}
use Rattle.log_model.specs.declared.job.Job.{Job}
use Rattle.log_model.specs.declared.job.Task.{Task}
use Rattle.log_model.specs.declared.job.Why.{Why}
use Rattle.nav_tree.specs.Tree.{Tree, node_of}
use Rattle.nav_tree.specs.declared.node.Node.{Node}
use Rattle.seen_facts.specs.Each.Runs.{is_run}
use Rattle.seen_laws.specs.InEvent.{InEvent}
use Rattle.seen_laws.specs.Sending.{IsShowDue, IsTo, is_passed}
use Rattle.std.specs.Option.{option_map_or}
use Rattle.std.specs.Prelude.{List, None, Option, Some, [], false, map, option_map, true, ℕ, ◌+◌, ◌==◌, ◌||◌, ◌≡◌, Bool}
use Rattle.tab_ids.specs.declared.DocId.{DocId}
use Rattle.tab_ids.specs.declared.EntryId.{EntryId}
use Rattle.tab_ids.specs.declared.Epoch.{Epoch}
use Rattle.tab_ids.specs.declared.NavId.{NavId}
use Rattle.tab_ids.specs.declared.ProcId.{ProcId}
use Rattle.tab_ids.specs.declared.ReqId.{ReqId}
use Rattle.tab_ids.specs.declared.StateId.{StateId}
use Rattle.log_model.specs.declared.job.Why.TheVariants as whys

-- HTML Standard, "update document for history step application", "activate history entry", "attempt to populate the history entry's document" and "destroy a document"; numbers, processes and incarnations are this project's own.

-- the order with a number
abbrev pub numbered_order : ℕ → ProcId → DocId → Why → Task → Job
numbered_order nr proc doc why task =
    record { nr = record { 0 = nr }; proc = proc; incarnation = 0; doc = doc; why = why; task = task }

-- the order that is sent next, after so many
abbrev pub next_order : ℕ → ProcId → DocId → Why → Task → Job
next_order jobs proc doc why task = numbered_order (jobs + 1) proc doc why task

-- the process of a document of the log
abbrev pub proc_at : Seen → DocId → ProcId
proc_at s doc = option_map_or (λ (d : Document). d.proc) (document_in_log s doc) (record { 0 = 0 })

-- the order that is sent next to a document of the log, to its process
abbrev pub order_to : Seen → DocId → Why → Task → Job
order_to s doc why task = next_order s.jobs (proc_at s doc) doc why task

-- the document is in the log, neither discarded nor known to be dead, and its process is in the first incarnation
pub record IsThere (s : Seen) (doc : DocId) : Type 0 where
  pub document : Document
  pub found : document_in_log s doc ≡ Some document
  pub alive : (document.is_discarded || document.is_known_dead) ≡ false
  pub known : (desk_of s document.proc).known ≡ 0

-- the navigable is to be shown its document, for which nobody falls asleep, under its next epoch
pub record MayShow (s : Seen) (tree : Tree) (nav : NavId) (job : Job) (entry : EntryId) (epoch : Epoch) (pair : ℕ × ℕ) (memo : Option (List ℕ)) (address : List ℕ) : Type 0 where
  pub document : Document
  pub goes : IsTo s job document
  pub nav_is : document.nav ≡ nav
  pub known : job.incarnation ≡ (desk_of s job.proc).known
  pub due : IsShowDue s job document entry epoch pair memo address
  pub passed : is_passed s job.task job.why ≡ true
  pub nobody : option_map_or (sleepers_below s job.doc) (place_of s document.nav) [] ≡ []
  pub unreloaded : due.place.is_unmet ≡ false
  pub node : Node
  pub there : node_of nav tree ≡ Some node
  pub next : epoch ≡ record { 0 = node.nav.epoch.0 + 1 }

-- the order is for the traversal that runs, which then has moved the navigable, or none runs
abbrev pub IsForRunning : Seen → Option ReqId → Why → Type 0
IsForRunning s None why = (req : ReqId) → why ≡ whys.Req req → (q : Asked) → request_of s req ≡ Some q → is_run q ≡ false
IsForRunning s (Some run) why = why ≡ whys.Req run

-- the document is made, it is the one that is there for its state, which is no ongoing load's; these fall asleep with it
pub record IsToGo (s : Seen) (tree : Tree) (loads : List Load) (navs : List NavId) (doc : DocId) (state : StateId) : Type 0 where
  pub document : Document
  pub found : document_in_log s doc ≡ Some document
  pub are : (other : NavId) → has_nav (sleepers_with s doc) other ≡ has_nav navs other
  pub its_state : (x : Sight) → Has (map sight s.documents) x → (x.nr.0 == doc.0) ≡ true → x.state ≡ state
  pub ready : document.is_ready ≡ true
  pub its : option_map (λ (p : live_place.Place). p.doc) (document_of state tree) ≡ Some doc
  pub unloaded : (nav : NavId) (load : Load) → ongoing_load nav loads ≡ Some load → (state.0 == load.state.0) ≡ false

-- an event in which the coordinator works, and the move that has begun in it, if one has
pub record InMove : Type 0 where
  pub event : InEvent
  pub move : Option Move

-- the same, and whether documents are swept
pub record InDiscard : Type 0 where
  pub event : InEvent
  pub move : Option Move
  pub sweeps : Bool
