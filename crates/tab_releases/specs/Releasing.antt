-- The reports that were held back for a traversal, once it has ended: they end one after the other, in the order in which they were delivered.
-- This project's own; the queue is the HTML Standard's "session history traversal queue", what jumps it "synchronous navigation steps".
use Rattle.seen_facts.specs.Coord.Leading.{held_back}
use Rattle.tab_facts.specs.Frame.Lasting.{wish}
use Rattle.row_facts.specs.FrameRows.Lawful.{has_traversed, held_at_first}
use Rattle.seen_facts.specs.Hang.Members.{Has}
use Rattle.log_model.specs.Causes.{takes_report}
use Rattle.log_model.specs.Equal.{has_req}
use Rattle.log_model.specs.Points.{ends_in}
use Rattle.log_model.specs.Seen.{Seen}
use Rattle.log_model.specs.declared.made.Made.{Made}
use Rattle.log_model.specs.declared.row_kind.RowKind.{RowKind}
use Rattle.row_facts.specs.Owed.Owed.{IsLoose}
use Rattle.seen_facts.proofs.Request.Readers.{SameReads}
use Rattle.seen_laws.specs.InEvent.{InEvent, now_of, row_of}
use Rattle.std.specs.List.{last_or}
use Rattle.std.specs.Prelude.{List, None, Option, Some, [], false, filter_map, length, map, true, ◌++◌, ◌≡◌}
use Rattle.tab_takes.specs.Taking.{LeavesQueue, is_reloading}
pub use Rattle.tab_takes.specs.Taking.{InPass, IsPassing, IsTaking, KeepsRun, LoadsMadeOwn, MayCause, Tables}
use Rattle.tab_ids.specs.declared.ReqId.{ReqId}
use Rattle.tab_ids.specs.declared.StateId.{StateId}
pub use Rattle.tab_takes.specs.PassedOn.{IsTurning, IsWaiting}
use Rattle.log_model.specs.declared.job.Why.TheVariants as whys
use Rattle.log_model.specs.declared.row_kind.Actor.TheVariants as actors

-- the queue has what is held back in the log, in order
abbrev pub HoldsParked : Seen → List Made → Type 0
HoldsParked s parked = parked ≡ held_back s.requests s.parked

-- the event takes a report and accepts no request, a traversal has ended in it, and what is held back was so before the event began
pub record IsReleasing (e : InEvent) (out : List RowKind) : Type 0 where
  pub by_coord : e.actor ≡ actors.Coord
  pub takes : takes_report e.own ≡ true
  pub many : length (now_of e out).requests ≡ length e.start.requests
  pub ended : has_traversed e out ≡ true
  pub old : (req : ReqId) → has_req (now_of e out).parked req ≡ true → (has_req (held_at_first e) req ≡ true) × (has_req e.start.parked req ≡ true)

-- the rows that were put out end these requests, each by one row, in order, and apply no reload
pub record EndsEach (e : InEvent) (old new : List RowKind) (reqs : List ReqId) : Type 0 where
  pub more : List RowKind
  pub out : new ≡ old ++ more
  pub ends : filter_map ends_in (map (row_of e) more) ≡ reqs
  pub long : length more ≡ length reqs
  pub no_reload : (row : RowKind) → Has more row → is_reloading row ≡ false

-- an order may be for the request, if there is one
abbrev pub MayBeFor : Seen → Option ReqId → Type 0
MayBeFor s last = (req : ReqId) → last ≡ Some req → MayCause s (whys.Req req)

-- some of what was held back has ended, in order, this one last, and the queue has the rest; all goes on, and a pass may follow
pub record HasReleased (p : InPass) (t : Tables) (was : List RowKind) (u : Tables) (out : List RowKind) (blame : List (StateId × ReqId)) (parked : List Made) (last : Option ReqId) : Type 0 where
  pub passing : IsPassing p out u
  pub empty : p.hand ≡ []
  pub idle : u.running ≡ None
  pub open_ : IsTaking p.event u.running blame (now_of p.event out)
  pub loose : IsLoose p.event out
  pub theirs : LoadsMadeOwn (now_of p.event out)
  pub cause : MayBeFor (now_of p.event out) last
  pub held : HoldsParked (now_of p.event out) parked
  pub turning : IsTurning p.event was
  pub wishes : SameReads wish (now_of p.event was).requests (now_of p.event out).requests
  pub queue : LeavesQueue (now_of p.event was) (now_of p.event out)
  pub releasing : ((now_of p.event out).parked ≡ [] → ⊥) → IsReleasing p.event out
  pub done : List ReqId
  pub last_is : last ≡ last_or None done
  pub whole : done ++ (now_of p.event out).parked ≡ (now_of p.event was).parked
  pub ended : EndsEach p.event was out done
  pub kept : KeepsRun t u
