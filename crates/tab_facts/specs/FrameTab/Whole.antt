-- All that holds between two rows of a tab of frames.
-- This project's own.
use Rattle.std.specs.Prelude.{List, length, Option}
use Rattle.tab_ids.specs.declared.ProcId.{ProcId}
use Rattle.tab_ids.specs.declared.ReqId.{ReqId}
use Rattle.log_model.specs.declared.made.Made.{Made}
use Rattle.log_model.specs.Seen.{Seen}
use Rattle.tab_facts.specs.FrameTab.Alive.{AreThere}
use Rattle.tab_facts.specs.FrameTab.Asking.{ArePlainlyAsked}
use Rattle.tab_facts.specs.FrameTab.Numbers.{AreStated, IsNumbered, EachEntry}
use Rattle.tab_facts.specs.FrameTab.Steady.{AreSteady, AreGiven}
use Rattle.tab_facts.specs.FrameTab.Desks.{AreDesks, EachIsMadeOnce, EachHasMadeNothing, EachWaits, EachAscends, EachContinues}

-- with this traversal running, and this at hand of what documents made
pub record IsFrameTab (home : ProcId) (run : Option ReqId) (hand : List Made) (s : Seen) : Type 0 where
  pub documents : AreThere home s
  pub asked : ArePlainlyAsked run s
  pub steady : AreSteady s
  pub stated : AreStated s
  pub entries : EachEntry (IsNumbered s.entries (length s.documents) s.documents) s.history.rows s.places s.requests
  pub desks : AreDesks home s
  pub made : EachIsMadeOnce home s
  pub unmade : EachHasMadeNothing home s hand
  pub waits : EachWaits s hand
  pub ascends : EachAscends home s hand
  pub continues : EachContinues home s hand
  pub given : AreGiven s
