-- When a load begins, and when one is dropped for another request, for which the event's end has to pay.
-- HTML Standard, "navigate" and "Navigables" ("ongoing navigation"); the moments are this project's own.
use Rattle.row_facts.specs.FrameRows.Lawful.{held_at_first}
use Rattle.row_facts.specs.LoadRows.Beginning.{IsLoadToBegin}
use Rattle.load_table.specs.Loads.{ongoing_load}
use Rattle.load_table.specs.declared.load.Load.{Load}
use Rattle.seen_facts.specs.LoadTies.Tying.{made_for}
use Rattle.log_model.specs.AfterRequests.{load_replaces}
use Rattle.log_model.specs.Equal.{has_req}
use Rattle.log_model.specs.History.{row_of}
use Rattle.log_model.specs.Once.{has_no_earlier_load}
use Rattle.log_model.specs.Places.{given_row}
use Rattle.log_model.specs.Seen.{Asked, Place, Seen, place_of, request_of}
use Rattle.log_model.specs.declared.request.Mode.{Mode}
use Rattle.log_model.specs.declared.row_kind.RowKind.{RowKind}
use Rattle.seen_laws.specs.InEvent.{InEvent, here_of, log_of, now_of}
use Rattle.std.specs.List.{list_any}
use Rattle.std.specs.Prelude.{Bool, List, None, Some, false, option_and_then, true, ℕ, ◌++◌, ◌+◌, ◌≡◌}
use Rattle.step_index.specs.Held.{history_held}
use Rattle.tab_doors.specs.declared.tables.Tables.{Tables}
use Rattle.tab_ids.specs.declared.EntryId.{EntryId}
use Rattle.tab_ids.specs.declared.NavId.{NavId}
use Rattle.tab_ids.specs.declared.ReqId.{ReqId}
use Rattle.load_table.specs.declared.phase.Phase.TheVariants as phases
use Rattle.log_model.specs.declared.request.Request.TheVariants as requests
use Rattle.log_model.specs.declared.row_kind.RowKind.TheVariants as rows

-- with the row a request begins
abbrev pub is_beginning : RowKind → Bool
is_beginning (rows.Started req goal) = true
is_beginning _ = false

-- the load may begin: no other one of its navigable is ongoing, it replaces as the log says, and no document is there or being made for the next document state
pub record IsToBegin (e : InEvent) (out : List RowKind) (table : List Load) (req : ReqId) (nav : NavId) (replace : Bool) (address : List ℕ) : Type 0 where
  pub q : Asked
  pub mode : Mode
  pub due : IsLoadToBegin (here_of e out) req nav mode address q
  pub none_ : ongoing_load nav table ≡ None
  -- nor is an earlier one in the log, and no request has begun in this event
  pub sole : has_no_earlier_load (log_of e out) req nav ≡ true
  pub first : list_any is_beginning (e.before ++ out) ≡ false
  pub handling : replace ≡ load_replaces (now_of e out) (requests.Load nav mode address)
  pub unmade : made_for (now_of e out).documents (record { 0 = (now_of e out).states + 1 }) ≡ None

-- the load in the table, which asks for no document yet
abbrev pub begun_load : ReqId → NavId → Bool → List ℕ → ℕ → Load
begun_load req nav replace address state =
    record { req = req; nav = nav; address = address; replace = replace; state = record { 0 = state }; phase = phases.Asking }

-- the navigable is there, and the row of its given entry is the one that the store has under that entry
pub record IsGiven (s : Seen) (t : Tables) (nav : NavId) : Type 0 where
  pub place : Place
  pub there : place_of s nav ≡ Some place
  pub given : given_row s place ≡ option_and_then (λ (entry : EntryId). row_of entry (history_held t.store).rows) place.given

-- the request is open and isn't held back, now or as the event began
pub record IsOpenHere (e : InEvent) (out : List RowKind) (req : ReqId) : Type 0 where
  pub asked : Asked
  pub at : request_of (now_of e out) req ≡ Some asked
  pub open_ : asked.ending ≡ None
  pub unparked : has_req (now_of e out).parked req ≡ false
  pub unheld : has_req (held_at_first e) req ≡ false
