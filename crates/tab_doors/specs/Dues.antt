-- When what a document made is taken up, refused or dropped, and when a traversal begins, is refused or ends.
-- HTML Standard, "URL and history update steps", "create a new child navigable", "destroy a child navigable", "traverse the history by a delta"; what is held back is this project's own.
use Rattle.log_model.specs.declared.change.Change.TheVariants as changes  -- keep
use Rattle.tab_doors.specs.Look.{moved_by}
use Rattle.entry_store.specs.Store.{MayTake}
use Rattle.row_facts.specs.FrameRows.Lawful.{KeepsHeld, held_at_first}
use Rattle.row_facts.specs.FrameRows.Taking.{IsDueNow, IsFree, IsPoked, IsTakenNow}
use Rattle.row_facts.specs.LeaveRows.Fragments.{IsFragmentMade}
use Rattle.log_model.specs.AfterRequests.{changes_history}
use Rattle.log_model.specs.Causes.{by_mover, denial_at_acceptance, denial_at_delivery, is_destroyed_by, takes_report}
use Rattle.log_model.specs.Equal.{has_req}
use Rattle.log_model.specs.History.{Fits, applied, has_nav, has_row, target_entry}
use Rattle.log_model.specs.Once.{delta_of, step_at_delta}
use Rattle.log_model.specs.Orders.{due_questions}
use Rattle.log_model.specs.Places.{aim_of, all_stand, has_passed, holder_of, is_traversal}
use Rattle.log_model.specs.Queue.{begins_in_turn, is_taken_up_at_once}
use Rattle.log_model.specs.Seen.{Asked, Place, Seen, place_of, request_of}
use Rattle.log_model.specs.declared.change.Change.{Change}
use Rattle.log_model.specs.declared.made.Made.{Made}
use Rattle.log_model.specs.declared.outcome.Denial.{Denial}
use Rattle.log_model.specs.declared.row.Row.{Row}
use Rattle.log_model.specs.declared.row_kind.RowKind.{RowKind}
use Rattle.nav_tree.specs.Tree.{Tree, node_of}
use Rattle.seen_laws.specs.InEvent.{InEvent, here_of, now_of, row_of}
use Rattle.std.specs.Option.{IsSome}
use Rattle.std.specs.Prelude.{Bool, List, None, Option, Some, [], false, filter, is_some, length, map, nat_lt, not, true, ℤ, ◌<◌, ◌≡◌, ◌⊎◌}
use Rattle.tab_ids.specs.declared.NavId.{NavId}
use Rattle.tab_ids.specs.declared.ReqId.{ReqId}
use Rattle.tab_ids.specs.declared.StateId.{StateId}
use Rattle.tab_ids.specs.declared.Step.{Step}
use Rattle.log_model.specs.declared.outcome.Cause.TheVariants as drops
use Rattle.log_model.specs.declared.outcome.Denial.TheVariants as denials
use Rattle.log_model.specs.declared.row_kind.Actor.TheVariants as actors
use Rattle.log_model.specs.declared.row_kind.RowKind.TheVariants as rows

-- a document made it of a poke, or of a load that is a fragment navigation
abbrev pub IsMadeFor : Seen → ReqId → Asked → Made → Type 0
IsMadeFor s req q made = IsPoked s req q made ⊎ IsFragmentMade s q made

-- what a document made of a request is applied now, by this change
pub record IsTakeDueIn (s : Seen) (e : InEvent) (out : List RowKind) (req : ReqId) (change : Change) : Type 0 where
  pub asked : Asked
  pub made : Made
  pub due : IsDueNow s req asked change
  pub by : IsMadeFor s req asked made
  pub unstarted : asked.is_started ≡ false
  pub changes : changes_history made.what ≡ true
  pub at_once : is_taken_up_at_once s made ≡ true
  pub free : IsFree (here_of e out) req
  pub taken : IsTakenNow (here_of e out) (row_of e (rows.Applied req change)) made
  pub held : KeepsHeld e out (rows.Applied req change)

abbrev pub IsTakeDue : InEvent → List RowKind → ReqId → Change → Type 0
IsTakeDue e out req change = IsTakeDueIn (now_of e out) e out req change

-- the navigables that have a row have one still
abbrev pub KeepsRows : Seen → Change → Type 0
KeepsRows s change = (nav : NavId) → has_row nav s.history.rows ≡ true → has_row nav (applied s.history change).rows ≡ true

-- the change fits the store, too
pub record MayChange (s : Seen) (change : Change) : Type 0 where
  pub fits : Fits s.history change
  pub numbers : MayTake s.history change
  pub room : s.history.current < 4294967294

-- it is refused now, for this reason
pub record IsDenyDueIn (s : Seen) (e : InEvent) (out : List RowKind) (req : ReqId) (reason : Denial) : Type 0 where
  pub by_coord : e.actor ≡ actors.Coord
  pub asked : Asked
  pub made : Made
  pub poked : IsPoked s req asked made
  pub unstarted : asked.is_started ≡ false
  pub takes : takes_report e.own ≡ true
  pub before : nat_lt (length e.start.requests) asked.nr.0 ≡ false
  pub is : denial_at_delivery s made ≡ Some reason
  pub free : IsFree (here_of e out) req
  pub held : KeepsHeld e out (rows.Refused req reason)

abbrev pub IsDenyDue : InEvent → List RowKind → ReqId → Denial → Type 0
IsDenyDue e out req reason = IsDenyDueIn (now_of e out) e out req reason

-- it is dropped, since its navigable lost its entries, or was moved on
pub record IsDestroyDueIn (s : Seen) (e : InEvent) (out : List RowKind) (req by : ReqId) : Type 0 where
  pub asked : Asked
  pub at : request_of s req ≡ Some asked
  pub open_ : asked.ending ≡ None
  pub is : is_destroyed_by s asked by ≡ true
  pub free : IsFree (here_of e out) req
  pub held : KeepsHeld e out (rows.Dropped req (drops.Destroyed by))

abbrev pub IsDestroyDue : InEvent → List RowKind → ReqId → ReqId → Type 0
IsDestroyDue e out req by = IsDestroyDueIn (now_of e out) e out req by

pub record IsDropDueIn (s : Seen) (e : InEvent) (out : List RowKind) (req by : ReqId) : Type 0 where
  pub asked : Asked
  pub at : request_of s req ≡ Some asked
  pub open_ : asked.ending ≡ None
  pub mover : Asked
  pub found : request_of s by ≡ Some mover
  pub moved : by_mover s asked mover ≡ true
  pub free : IsFree (here_of e out) req
  pub held : KeepsHeld e out (rows.Dropped req (drops.By by))

abbrev pub IsDropDue : InEvent → List RowKind → ReqId → ReqId → Type 0
IsDropDue e out req by = IsDropDueIn (now_of e out) e out req by

-- a traversal begins in its turn, which leaves no document with a handler
pub record IsBeginDue (s : Seen) (req : ReqId) (goal : Step) : Type 0 where
  pub asked : Asked
  pub delta : ℤ
  pub at : request_of s req ≡ Some asked
  pub asks : delta_of asked.what ≡ Some delta
  pub unstarted : asked.is_started ≡ false
  pub open_ : asked.ending ≡ None
  pub there : step_at_delta s delta ≡ Some goal.0
  pub turn : begins_in_turn s req ≡ true
  pub unasked : due_questions s asked.what (Some goal) ≡ []
  pub unmoved : asked.moved ≡ []

-- nobody is to be asked as the request begins
abbrev pub AsksNone : Seen → ReqId → Option Step → Type 0
AsksNone s req goal = (q : Asked) → request_of s req ≡ Some q → due_questions s q.what goal ≡ []

-- one that leads nowhere is refused in its turn
pub record IsNowhereIn (s : Seen) (e : InEvent) (out : List RowKind) (req : ReqId) : Type 0 where
  pub asked : Asked
  pub delta : ℤ
  pub at : request_of s req ≡ Some asked
  pub asks : delta_of asked.what ≡ Some delta
  pub open_ : asked.ending ≡ None
  pub early : denial_at_acceptance e.start asked.what ≡ None ⊎ (nat_lt (length e.start.requests) asked.nr.0 ≡ false)
  pub nowhere : step_at_delta s delta ≡ None
  pub turn : begins_in_turn s req ≡ true
  pub unparked : has_req s.parked req ≡ false
  pub held : KeepsHeld e out (rows.Refused req denials.NoStep)

abbrev pub IsNowhere : InEvent → List RowKind → ReqId → Type 0
IsNowhere e out req = IsNowhereIn (now_of e out) e out req

-- the traversal that runs has passed, and all stand at its goal
pub record IsEndDueIn (s : Seen) (e : InEvent) (out : List RowKind) (req : ReqId) (goal : Step) : Type 0 where
  pub asked : Asked
  pub due : IsDueNow s req asked (changes.Traverse goal)
  pub traverses : is_traversal asked.what ≡ true
  pub makes : (made : Made) → asked.made ≡ Some made → changes_history made.what ≡ false
  pub passed : has_passed s asked ≡ true
  pub stand : all_stand s (aim_of s) ≡ true
  pub unparked : has_req s.parked req ≡ false
  -- all that were held back as the event began are still, or none is
  pub first : (s.parked ≡ held_at_first e) ⊎ ((s.parked ≡ []) × (has_req (held_at_first e) req ≡ false))

abbrev pub IsEndDue : InEvent → List RowKind → ReqId → Step → Type 0
IsEndDue e out req goal = IsEndDueIn (now_of e out) e out req goal

-- the frame is new, and its parent's entries have the document state on which it hangs
pub record IsAdded (s : Seen) (tree : Tree) (run : Option ReqId) (owner : StateId) (nav parent : NavId) : Type 0 where
  pub up : Place
  pub holder : holder_of owner s.history.rows ≡ Some parent
  pub up_there : place_of s parent ≡ Some up
  pub new_nav : place_of s nav ≡ None
  pub unmoved : has_nav (moved_by s.requests run) nav ≡ false
  pub no_node : node_of nav tree ≡ None
  pub parent_node : IsSome (node_of parent tree)

-- the navigable has an entry at the last step that there may be
abbrev pub has_any : List Row → NavId → Bool
has_any entries nav = is_some (target_entry entries nav 4294967295)

-- it has none
abbrev pub has_none : List Row → NavId → Bool
has_none entries nav = not (has_any entries nav)

-- these navigables lose their last entries, where some rows become others
abbrev pub lost_of : List Row → List Row → List NavId → List NavId
lost_of was then_ navs = filter (has_none then_) (filter (has_any was) navs)

-- each navigable with an entry has one at the last step that there may be, before the change and after it, and has a place
pub record SeesRows (s : Seen) (change : Change) : Type 0 where
  pub before : (other : NavId) → has_row other s.history.rows ≡ has_any s.history.rows other
  pub then_ : (other : NavId) → has_row other (applied s.history change).rows ≡ has_any (applied s.history change).rows other
  pub placed : (other : NavId) → has_row other s.history.rows ≡ true → has_nav (map (λ (p : Place). p.nav) s.places) other ≡ true
