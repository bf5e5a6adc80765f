-- The turn of the traversal that joined first.
-- HTML Standard, "traverse the history by a delta".
use Rattle.log_model.specs.AfterRequests.{without_req}
use Rattle.log_model.specs.History.{History, history_index, used_steps}
use Rattle.log_model.specs.Once.{delta_of, step_at_delta}
use Rattle.log_model.specs.Seen.{Asked, Seen, request_in}
use Rattle.log_model.specs.declared.row_kind.RowKind.{RowKind}
use Rattle.seen_laws.specs.InEvent.{InEvent, log_of, now_of}
use Rattle.tab_doors.specs.Dues.{AsksNone}
use Rattle.tab_ids.specs.declared.Step.{Step}
use Rattle.std.specs.Prelude.{List, None, Option, Some, [], option_and_then, pos, slice_get, ℕ, ℤ, ◌+ℤ◌, ◌++◌, ◌∷◌, ◌≡◌}
use Rattle.tab_doors.specs.declared.tables.Tables.{Tables}
use Rattle.tab_ids.specs.declared.ReqId.{ReqId}
use Rattle.tab_turns.specs.Turning.{LeavesAlone}
use Rattle.log_model.specs.declared.outcome.Denial.TheVariants as denials
use Rattle.log_model.specs.declared.row_kind.RowKind.TheVariants as rows

-- the request is the first that joined, a traversal by this delta
pub record IsFirst (s : Seen) (req : ReqId) (delta : ℤ) : Type 0 where
  pub first : slice_get s.joined 0 ≡ Some req
  pub asks : option_and_then (λ (q : Asked). delta_of q.what) (request_in s.requests req) ≡ Some delta

-- to whichever step its delta leads, nobody is to be asked in the log itself
abbrev pub MayGoUnasked : InEvent → List RowKind → ReqId → ℤ → Type 0
MayGoUnasked e out req delta = (goal : Step) → step_at_delta (now_of e out) delta ≡ Some goal.0 → AsksNone (log_of e out) req (Some goal)

-- what stands at a place of a list; nothing before its first
abbrev pub at_place : List ℕ → ℤ → Option ℕ
at_place steps (pos n) = slice_get steps n
at_place steps _ = None

-- the used step that a delta leads to from the current one
abbrev pub step_by : History → ℤ → Option ℕ
step_by history delta = at_place (used_steps history.rows) (pos (history_index history.rows history.current) +ℤ delta)

-- where its delta leads nowhere it was refused, and is off the queue; else it has begun with the used step that this leads to
abbrev pub WentTo : List RowKind → List RowKind → Tables → Tables → ReqId → Option ℕ → Type 0
WentTo old new t u req None = (new ≡ old ++ rows.Refused req denials.NoStep ∷ []) × (u ≡ t)
WentTo old new t u req (Some step) =
    (new ≡ old ++ rows.Started req (Some (record { 0 = step })) ∷ []) × (u ≡ record t { running = Some req; goal = record { 0 = step } })

-- who has joined then
abbrev pub joined_then : List ReqId → ReqId → Option ℕ → List ReqId
joined_then joined req None = without_req req joined
joined_then joined req (Some step) = joined

-- its turn is over, or it runs
pub record HasGone (e : InEvent) (old new : List RowKind) (t u : Tables) (req : ReqId) (delta : ℤ) : Type 0 where
  pub went : WentTo old new t u req (step_at_delta (now_of e old) delta)
  pub history : (now_of e new).history ≡ (now_of e old).history
  pub alone : LeavesAlone (now_of e old) (now_of e new)
  pub joined : (now_of e new).joined ≡ joined_then (now_of e old).joined req (step_at_delta (now_of e old) delta)
