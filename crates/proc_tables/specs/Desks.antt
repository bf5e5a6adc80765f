-- The desks of the processes, by process: one that was never needed is empty.
-- This project's own.
use Rattle.std.specs.Prelude.{◌≡◌, ◌==◌, Bool, List, [], ◌∷◌, ◌++◌, drop, None, Some, if◌then◌else◌}
use Rattle.std.specs.Option.{unwrap_or}
use Rattle.std.specs.Map.{lookup}
use Rattle.tab_ids.specs.declared.ProcId.{ProcId}
use Rattle.log_model.specs.declared.row_kind.RowKind.{RowKind}
use Rattle.log_model.specs.declared.row_kind.RowKind.TheVariants as rows
use Rattle.log_model.specs.After.{desk_dropped}
use Rattle.log_model.specs.Seen.{Desk, empty_desk}
use Rattle.proc_tables.specs.declared.item.Item.{Item}
use Rattle.proc_tables.specs.declared.item.Item.TheVariants as items

-- the key is the process
abbrev pub is_proc : ProcId → ProcId → Bool
is_proc proc key = proc.0 == key.0

-- the desk of a process
abbrev pub desk_at : List (ProcId × Desk) → ProcId → Desk
desk_at desks proc = unwrap_or (lookup (is_proc proc) desks) (empty_desk proc)

-- what a change of the desk of one process makes of that of any
abbrev pub on_proc : ProcId → (Desk → Desk) → ProcId → Desk → Desk
on_proc of f proc desk = if of.0 == proc.0 then f desk else desk

-- the desk of one process changes so, and no other's
abbrev pub Changes : ProcId → (Desk → Desk) → List (ProcId × Desk) → List (ProcId × Desk) → Type 0
Changes of f old new = (proc : ProcId) → desk_at new proc ≡ on_proc of f proc (desk_at old proc)

-- no desk changes
abbrev pub Stays : List (ProcId × Desk) → List (ProcId × Desk) → Type 0
Stays old new = (proc : ProcId) → desk_at new proc ≡ desk_at old proc

-- something joins a desk
abbrev pub desk_with : Item → Desk → Desk
desk_with (items.Poke poke) desk = record desk { input = desk.input ++ poke ∷ [] }
desk_with (items.Job job) desk = record desk { mail = desk.mail ++ job ∷ [] }
desk_with (items.Order order) desk = record desk { in_hand = Some order }
desk_with (items.Report report) desk = record desk { reports = desk.reports ++ report ∷ [] }

-- its first poke, order or report leaves it, or the order in hand
abbrev pub without_poke : Desk → Desk
without_poke desk = record desk { input = drop 1 desk.input }

abbrev pub without_job : Desk → Desk
without_job desk = record desk { mail = drop 1 desk.mail }

abbrev pub without_order : Desk → Desk
without_order desk = record desk { in_hand = None }

abbrev pub without_report : Desk → Desk
without_report desk = record desk { reports = drop 1 desk.reports }

-- a row that the coordinator puts out, at the desk of a process: an order joins the mail of its process, and a dropped request leaves the input
abbrev pub desk_noted : ProcId → Desk → RowKind → Desk
desk_noted proc desk (rows.Sent job) = on_proc job.proc (desk_with (items.Job job)) proc desk
desk_noted proc desk (rows.Dropped req cause) = desk_dropped req desk
desk_noted proc desk _ = desk
