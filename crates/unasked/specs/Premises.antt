-- What the lemmas on rows ask of what a log has come to.
-- This project's own.
use Rattle.std.specs.Prelude.{◌≡◌, ℕ, Bool, true, false, not, ◌&&◌, ◌==◌, List, [], slice_get, Option, Some, None}
use Rattle.std.specs.List.{list_all, list_any}
use Rattle.tab_ids.specs.declared.DocId.{DocId}
use Rattle.tab_ids.specs.declared.ProcId.{ProcId}
use Rattle.tab_ids.specs.declared.ReqId.{ReqId}
use Rattle.tab_ids.specs.declared.StateId.{StateId}
use Rattle.tab_ids.specs.declared.Step.{Step}
use Rattle.log_model.specs.Places.{has_passed, is_traversal, is_under_way, running_traversal}
use Rattle.log_model.specs.Seen.{Seen, Asked, Desk, Document, request_in}
use Rattle.seen_laws.specs.Unasked.{unasked}

-- the process has a desk: a row has named it
abbrev pub has_desk : List Desk → ProcId → Bool
has_desk desks proc = list_any (λ (desk : Desk). desk.proc.0 == proc.0) desks

-- the request that is found under the number has it
abbrev pub IsNumbered : Seen → ReqId → Type 0
IsNumbered s req = (q : Asked) → request_in s.requests req ≡ Some q → q.nr ≡ req

-- the request that is found under the number isn't in its check
abbrev pub IsOff : (ReqId → Bool) → Seen → ReqId → Type 0
IsOff checking s req = (q : Asked) → request_in s.requests req ≡ Some q → checking q.nr ≡ false

-- the traversal under way, where it is in its check, has shown nobody a document, and no other is under way
abbrev pub IsUnheld : (ReqId → Bool) → Seen → Type 0
IsUnheld checking s =
    (q : Asked) → running_traversal s ≡ Some q → checking q.nr ≡ true → (q.activated ≡ []) × (running_traversal (unasked checking s) ≡ None)

-- each traversal under way has passed where it isn't in its check, and only there
abbrev pub IsPassedOff : (ReqId → Bool) → Seen → Type 0
IsPassedOff checking s =
    (req : ReqId) (q : Asked) → request_in s.requests req ≡ Some q → (is_under_way q && is_traversal q.what) ≡ true → has_passed s q ≡ not (checking q.nr)

-- each document's process has a desk
abbrev pub all_sited : Seen → Bool
all_sited s = list_all (λ (d : Document). has_desk s.desks d.proc) s.documents

-- the traversal under way, where it is in its check, has moved nobody, and no other is under way
abbrev pub IsUnmoved : (ReqId → Bool) → Seen → Type 0
IsUnmoved checking s =
    (q : Asked) → running_traversal s ≡ Some q → checking q.nr ≡ true → (q.moved ≡ []) × (running_traversal (unasked checking s) ≡ None)

-- one traversal is under way at most
abbrev pub IsAlone : Seen → Type 0
IsAlone s =
    (r t : ReqId) (p q : Asked) → request_in s.requests r ≡ Some p → request_in s.requests t ≡ Some q → (is_under_way p && is_traversal p.what) ≡ true → (is_under_way q && is_traversal q.what) ≡ true → p.nr ≡ q.nr

-- how a request began
pub record Beginning : Type 0 where
  pub is_started : Bool
  pub goal : Option Step
  pub state : Option StateId
  pub replaces : Bool
  pub awake_then : List DocId

-- as the request did
abbrev pub beginning_of : Asked → Beginning
beginning_of q =
    record {
      is_started = q.is_started;
      goal = q.goal;
      state = q.state;
      replaces = q.replaces;
      awake_then = q.awake_then;
    }

-- it didn't
abbrev pub unstarted : Beginning
unstarted = record { is_started = false; goal = None; state = None; replaces = false; awake_then = [] }

-- of each of these requests that hasn't begun nothing is kept of a beginning
abbrev pub AreFresh : List Asked → Type 0
AreFresh asked =
    (k : ℕ) (q : Asked) → slice_get asked k ≡ Some q → q.is_started ≡ false → beginning_of q ≡ unstarted
