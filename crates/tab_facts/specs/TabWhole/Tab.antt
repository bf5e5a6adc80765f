-- All that holds between two rows of a tab with frames, loads and documents that are left or kept, in which nobody died and nobody is asked.
-- This project's own.
use Rattle.std.specs.Prelude.{Bool, List, Option, filter, is_some, map, not, ◌++◌}
use Rattle.tab_ids.specs.declared.ReqId.{ReqId}
use Rattle.log_model.specs.declared.made.Made.{Made}
use Rattle.log_model.specs.Equal.{holds}
use Rattle.log_model.specs.Seen.{Asked, Seen, request_in}
use Rattle.log_model.specs.Soundness.{IsSound}
use Rattle.seen_facts.specs.Asked.Asking.{ArePlain}
use Rattle.seen_facts.specs.Desk.Own.{AreDesksIn}
use Rattle.seen_facts.specs.Doc.Docs.{AreDocs}
use Rattle.seen_facts.specs.Entry.Entries.{AreEntries}
use Rattle.tab_facts.specs.FragmentOrders.Waiting.{AreFragments}
use Rattle.tab_facts.specs.FrameWhole.Beside.{IsQueued}
use Rattle.tab_facts.specs.FrameWhole.Untold.{FlowsIf}
use Rattle.seen_facts.specs.Hang.Hanging.{Hangs}
use Rattle.seen_facts.specs.Home.Homes.{AreHomed}
use Rattle.seen_facts.specs.Kept.Keeping.{AreKeptDocs}
use Rattle.seen_facts.specs.Load.Loading.{AreLoading}
use Rattle.seen_facts.specs.LoadWhereabouts.Whereabouts.{AreLoadsOnce}
use Rattle.seen_facts.specs.Mover.Movers.{AreMovers}
use Rattle.tab_facts.specs.Past.Past.{ArePast}
use Rattle.seen_facts.specs.Place.Standing.{AreStanding}
use Rattle.seen_facts.specs.Request.Knowns.{AreKnown}
use Rattle.seen_facts.specs.Request.Whereabouts.{AreOnce}
use Rattle.seen_facts.specs.Rest.Between.{AreKept}
use Rattle.tab_facts.specs.Shown.Shown.{AreShown}
use Rattle.seen_facts.specs.Transit.Waiting.{AreOnTheirWay}

-- the request has ended
abbrev pub has_ended : Asked → Bool
has_ended q = is_some q.ending

-- those of these requests that haven't ended
abbrev pub open_among : List Asked → List ReqId → List ReqId
open_among asked reqs = filter (λ (req : ReqId). not (holds has_ended (request_in asked req))) reqs

-- the requests at hand: those that were accepted and have gone nowhere yet, which are loads and pokes that reach no document, in the event, and loads in their unload check; and those of which a document made something that is to be taken up or dropped in the event
abbrev pub at_hand : List ReqId → List Made → List ReqId
at_hand loads hand = loads ++ map (λ (made : Made). made.req) hand

-- with this traversal running, and these at hand; of the loads and pokes, those that have ended since count no more
pub record IsTab (run : Option ReqId) (loads : List ReqId) (hand : List Made) (s : Seen) : Type 0 where
  -- the history, and how navigables hang in it
  pub sound : IsSound s.history
  pub hangs : Hangs s
  -- the documents: what each is, whose they are, which were ever shown, those of awake navigables, and those that are kept
  pub docs : AreDocs s
  pub whose : AreKept s
  pub shown : AreShown s
  pub homes : AreHomed s
  pub kept : AreKeptDocs s
  -- the navigables: where each stands, and who moved it
  pub standing : AreStanding s
  pub movers : AreMovers s
  -- the requests: what each is, the traversal that runs, the ongoing loads, those that wait for a fragment order, where each request is, and what is known of it there
  pub asked : ArePlain run s
  pub queued : IsQueued run s
  pub loading : AreLoading s
  pub fragments : AreFragments s
  pub once : AreOnce s (at_hand (open_among s.requests loads) hand)
  pub trips : AreLoadsOnce s (at_hand (open_among s.requests loads) hand)
  pub known : AreKnown s
  -- the processes: what each has, what is on its way, and what documents made that the history doesn't have
  pub desks : AreDesksIn s
  pub ways : AreOnTheirWay s
  pub entries : AreEntries hand s
  pub flows : FlowsIf hand s
  -- of a navigable's documents, only the one that it was shown last acts under its epoch
  pub past : ArePast hand s
