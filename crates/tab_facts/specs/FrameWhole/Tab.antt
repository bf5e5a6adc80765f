-- All that holds of a tab of frames between two rows of an event, and between two events.
-- This project's own.
use Rattle.seen_facts.specs.Coord.Flowing.{Flows}
use Rattle.tab_facts.specs.FrameTab.Asking.{NoneHeld}
use Rattle.tab_facts.specs.FrameTab.Whole.{IsFrameTab}
use Rattle.tab_facts.specs.FrameWhole.Untold.{FlowsIf}
use Rattle.seen_facts.specs.Hang.Hanging.{Hangs}
use Rattle.seen_facts.specs.Home.Homes.{AreHomed}
use Rattle.log_model.specs.ActsAtOnce.{ends_stepped, ends_told}
use Rattle.log_model.specs.History.{has_row, has_state}
use Rattle.log_model.specs.Seen.{Document, Place, Seen, awake, document_of, place_of}
use Rattle.log_model.specs.Soundness.{IsSound}
use Rattle.log_model.specs.declared.made.Made.{Made}
use Rattle.seen_facts.specs.Request.Knowns.{AreKnown}
use Rattle.seen_facts.specs.Request.Whereabouts.{AreOnce}
use Rattle.seen_facts.specs.Rest.Between.{AreKept}
use Rattle.seen_facts.specs.Rest.Resting.{EachRests}
use Rattle.std.specs.Prelude.{List, Option, Some, [], false, map, true, ◌≡◌}
use Rattle.tab_ids.specs.declared.DocId.{DocId}
use Rattle.tab_ids.specs.declared.NavId.{NavId}
use Rattle.tab_ids.specs.declared.ProcId.{ProcId}
use Rattle.tab_ids.specs.declared.ReqId.{ReqId}
use Rattle.seen_facts.specs.Transit.Waiting.{AreOnTheirWay}
use Rattle.seen_facts.specs.Walk.Serving.{AreServed}

-- between two rows, with this traversal running, and this at hand of what documents made
pub record IsTab (home : ProcId) (run : Option ReqId) (hand : List Made) (s : Seen) : Type 0 where
  pub framed : IsFrameTab home run hand s
  pub sound : IsSound s.history
  pub hangs : Hangs s
  pub homes : AreHomed s
  pub kept : AreKept s
  pub ways : AreOnTheirWay s
  pub rests : EachRests s
  pub flows : FlowsIf hand s
  pub once : AreOnce s (map (λ (made : Made). made.req) hand)
  pub known : AreKnown s

-- a navigable without an entry isn't awake
abbrev pub AreAwakeWithRows : Seen → Type 0
AreAwakeWithRows s =
    (nav : NavId) (place : Place) (doc : DocId) → place_of s nav ≡ Some place → place.status ≡ awake doc → has_row place.nav s.history.rows ≡ true

-- between two events
pub record IsBetween (home : ProcId) (run : Option ReqId) (s : Seen) : Type 0 where
  pub tab : IsTab home run [] s
  pub flows : Flows s
  pub served : AreServed s
  pub told : ends_told s ≡ true
  pub stepped : ends_stepped s ≡ true
  pub held : NoneHeld run s
  pub swept : (doc : DocId) (d : Document) → document_of s doc ≡ Some d → d.is_ready ≡ true → d.is_discarded ≡ false → has_state d.state s.history.rows ≡ true
  pub rows_ : AreAwakeWithRows s
