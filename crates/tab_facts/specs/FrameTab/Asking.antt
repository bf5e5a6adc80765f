-- The requests of a tab of frames: traversals, and pokes but for edits, for which nobody is asked.
-- This project's own.
use Rattle.std.specs.Prelude.{◌≡◌, true, false, [], Option, Some, None, is_some}
use Rattle.tab_ids.specs.declared.ReqId.{ReqId}
use Rattle.log_model.specs.declared.action.Action.{Action}
use Rattle.log_model.specs.declared.action.Action.TheVariants as actions
use Rattle.log_model.specs.declared.request.Request.{Request}
use Rattle.log_model.specs.declared.request.Request.TheVariants as requests
use Rattle.log_model.specs.Places.{is_traversal}
use Rattle.log_model.specs.Seen.{Seen, Asked}
use Rattle.seen_facts.specs.Each.Runs.{EachAsked, OnlyRuns}
use Rattle.seen_facts.specs.Each.Items.{NoneDied}
use Rattle.tab_facts.specs.FrameTab.Steady.{IsAskedBy}

-- the action is no edit
abbrev pub IsNoEditing : Action → Type 0
IsNoEditing actions.Edit = ⊥
IsNoEditing _ = Unit {0}

-- a traversal by the user, or a poke that is no edit
abbrev pub IsFrameRequest : Request → Type 0
IsFrameRequest (requests.Go delta) = Unit {0}
IsFrameRequest (requests.Poke nav action) = IsNoEditing action
IsFrameRequest _ = ⊥

-- the request has its number, nobody is asked for it, and only a traversal begins, with a goal, and moves those alone that it shows a document
pub record IsPlainlyAsked (req : ReqId) (q : Asked) : Type 0 where
  pub nr : q.nr ≡ req
  pub what : IsFrameRequest q.what
  pub unasked : q.asks ≡ []
  pub unprompted : q.prompted ≡ None
  pub unstarted : is_traversal q.what ≡ false → q.is_started ≡ false
  pub goal : q.is_started ≡ true → is_some q.goal ≡ true
  pub fragment : q.fragment ≡ None
  pub found : q.is_not_found ≡ false
  pub moved : is_traversal q.what ≡ true → q.moved ≡ q.activated

-- all are so, one traversal runs at most, which is there, no document is kept, and no process died
pub record ArePlainlyAsked (run : Option ReqId) (s : Seen) : Type 0 where
  pub each : EachAsked IsPlainlyAsked s.requests
  pub only : OnlyRuns run s
  pub runs : (req : ReqId) → run ≡ Some req → IsAskedBy s.requests run
  pub kept : s.kept ≡ []
  pub died : NoneDied s

-- nothing is held back where no traversal runs: so it is between two events
abbrev pub NoneHeld : Option ReqId → Seen → Type 0
NoneHeld run s = run ≡ None → s.parked ≡ []
