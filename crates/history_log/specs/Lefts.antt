-- Which accepted pokes are left in the input of a process, where none of them was served since a row.
-- This project's own.
use Rattle.std.specs.Prelude.{◌≡◌, ℕ, ◌+◌, ◌<◌, Bool, true, false, not, ◌&&◌, ◌==◌, List, [], ◌∷◌, ◌++◌, length, take, drop, Option, Some, None, if◌then◌else◌}
use Rattle.std.specs.List.{list_any}
use Rattle.tab_ids.specs.declared.ProcId.{ProcId}
use Rattle.tab_ids.specs.declared.ReqId.{ReqId}
use Rattle.tab_ids.specs.declared.DocId.{DocId}
use Rattle.log_model.specs.declared.action.Action.{Action}
use Rattle.log_model.specs.declared.request.Poke.{Poke}
use Rattle.log_model.specs.declared.request.Request.{Request}
use Rattle.log_model.specs.declared.request.Request.TheVariants as requests
use Rattle.log_model.specs.declared.row_kind.Actor.{Actor}
use Rattle.log_model.specs.declared.row_kind.Actor.TheVariants as actors
use Rattle.log_model.specs.declared.row_kind.LogRow.{LogRow}
use Rattle.log_model.specs.declared.row_kind.RowKind.{RowKind}
use Rattle.log_model.specs.declared.row_kind.RowKind.TheVariants as rows
use Rattle.history_log.specs.Owners.{owner_of}

-- the row drops the request
abbrev pub drops : ReqId → RowKind → Bool
drops req (rows.Dropped r cause) = r.0 == req.0
drops req _ = false

-- the row drops a request
abbrev pub is_drop : RowKind → Bool
is_drop (rows.Dropped r cause) = true
is_drop _ = false

-- one of the rows drops the request
abbrev pub is_dropped_by : ReqId → List LogRow → Bool
is_dropped_by req log = list_any (λ (row : LogRow). drops req row.row) log

-- one of the rows drops a request
abbrev pub have_drop : List LogRow → Bool
have_drop log = list_any (λ (row : LogRow). is_drop row.row) log

-- the poke of a document, where that is in the process
abbrev pub its_poke : ProcId → ReqId → DocId → Action → Option ProcId → Option Poke
its_poke p req doc action (Some q) = if q.0 == p.0 then Some (record { req = req; doc = doc; action = action }) else None
its_poke p req doc action None = None

-- the poke that a row adds to the input of the process, after these rows
abbrev pub poke_of : ProcId → List LogRow → ReqId → Option DocId → Request → Option Poke
poke_of p before req (Some doc) (requests.Poke nav action) = its_poke p req doc action (owner_of before doc)
poke_of p before req _ _ = None

abbrev pub poked_by : ProcId → List LogRow → RowKind → Option Poke
poked_by p before (rows.Accepted req doc what) = poke_of p before req doc what
poked_by p before _ = None

-- a poke that no later row drops
abbrev pub kept : Option Poke → List LogRow → List Poke
kept None later = []
kept (Some poke) later = if is_dropped_by poke.req later then [] else poke ∷ []

-- the pokes that rows add to the input of the process and don't drop, after those before
unfoldable pub left_from : ProcId → List LogRow → List LogRow → List Poke
left_from p before [] = []
left_from p before (row ∷ later) = kept (poked_by p before row.row) later ++ left_from p (before ++ row ∷ []) later

-- a poke is there, and no later row drops it
abbrev pub is_kept : Option Poke → List LogRow → Bool
is_kept None later = false
is_kept (Some poke) later = not (is_dropped_by poke.req later)

-- the request and the document of a poke
abbrev pub face_of : Option DocId → Request → ReqId → Option (ReqId × DocId)
face_of (Some doc) (requests.Poke nav action) req = Some (req, doc)
face_of _ _ req = None

abbrev pub poke_face : RowKind → Option (ReqId × DocId)
poke_face (rows.Accepted req doc what) = face_of doc what req
poke_face _ = None

-- the actor is the process
abbrev pub is_process : ProcId → Actor → Bool
is_process p (actors.Proc q) = q.0 == p.0
is_process p _ = false

-- the process makes something
abbrev pub is_made_by : ProcId → RowKind → Bool
is_made_by p (rows.Made q made) = q.0 == p.0
is_made_by p _ = false

-- the process serves its first poke: it refuses it, or makes something that doesn't join the report of an order
abbrev pub serves : ProcId → Bool → Actor → RowKind → Bool
serves p joins actor (rows.Refused req reason) = is_process p actor
serves p joins actor (rows.Made q made) = q.0 == p.0 && not joins
serves p joins actor _ = false

-- the row opens the log
abbrev pub opens : RowKind → Bool
opens (rows.Opened entry state doc proc slot address) = true
opens _ = false

-- one of the rows opens the log
abbrev pub have_opening : List LogRow → Bool
have_opening log = list_any (λ (row : LogRow). opens row.row) log

-- the row is the first of those from one on whose poke is left
pub record IsFirstLeft (p : ProcId) (log : List LogRow) (from i : ℕ) : Type 0 where
  pub within : i < length log
  pub some : 0 < length (left_from p (take from log) (drop from log))
  pub rest : drop 1 (left_from p (take from log) (drop from log)) ≡ left_from p (take (i + 1) log) (drop (i + 1) log)

-- none is left from the row on
abbrev pub HaveNoneLeft : ProcId → List LogRow → ℕ → Type 0
HaveNoneLeft p log from = left_from p (take from log) (drop from log) ≡ []
