-- When what a document made is to be taken up, refused or dropped in a tab with loads, what the tables tell of it, and what is so before and after, so that a pass may follow.
-- HTML Standard, "URL and history update steps", "create a new child navigable" and "destroy a child navigable"; what is held back, and passes, are this project's own.
use Rattle.tab_facts.specs.Calm.Calm.{AreRooted, CalmUnless, IsCalmYet, UnmovedAreHere}
use Rattle.seen_facts.proofs.Entry.Skips.{without_made}
use Rattle.tab_facts.specs.Frame.Taking.{IsWaitingHere}
use Rattle.row_facts.specs.FrameRows.Lawful.{KeepsHeld}
use Rattle.row_facts.specs.FrameRows.Taking.{IsFree, IsTakenNow}
use Rattle.log_model.specs.AfterRequests.{changes_history}
use Rattle.log_model.specs.Causes.{takes_report}
use Rattle.log_model.specs.History.{has_nav, has_row}
use Rattle.log_model.specs.Places.{goes, has_arrived, has_passed, is_load, is_traversal, running_traversal}
use Rattle.log_model.specs.Points.{ends_in, is_taken_up_in, nav_of_request}
use Rattle.log_model.specs.Queue.{is_taken_up_at_once, is_traverse}
use Rattle.log_model.specs.Seen.{Asked, Document, Place, Seen, awake, document_of, place_of, request_of}
use Rattle.log_model.specs.declared.action.Action.{Action}
use Rattle.log_model.specs.declared.change.Change.{Change}
use Rattle.log_model.specs.declared.job.Why.{Why}
use Rattle.log_model.specs.declared.made.Made.{Made}
use Rattle.log_model.specs.declared.made.What.{What}
use Rattle.log_model.specs.declared.request.Mode.{Mode}
use Rattle.log_model.specs.declared.row_kind.RowKind.{RowKind}
use Rattle.nav_tree.specs.Tree.{node_of, state_of}
use Rattle.row_facts.specs.Owed.Owed.{IsLoose}
use Rattle.seen_laws.specs.InEvent.{InEvent, here_of, now_of, row_of}
use Rattle.std.specs.Option.{IsSome}
use Rattle.std.specs.Prelude.{Bool, List, None, Option, Some, [], false, length, nat_lt, option_and_then, option_map, true, ℕ, ◌++◌, ◌+◌, ◌∷◌, ◌≡◌, ◌⊎◌}
use Rattle.step_index.specs.Held.{history_held}
use Rattle.sync_core.specs.Changes.{asked_change}
use Rattle.sync_core.specs.Judging.{judged}
use Rattle.sync_core.specs.declared.judging.Judged.{Judged}
use Rattle.tab_doors.specs.Ties.{nav_in}
pub use Rattle.tab_rests.specs.PassedOn.{InPass, IsPassing, LeavesQueue, LoadsLive, MayCause}
pub use Rattle.tab_doors.specs.Working.{KeepsRun}
pub use Rattle.tab_doors.specs.declared.tables.Tables.{Tables}
use Rattle.tab_rests.specs.PassedOn.{AreBlamed, IsLoadOf, IsOpen, MayStand}
use Rattle.tab_ids.specs.declared.DocId.{DocId}
use Rattle.tab_ids.specs.declared.NavId.{NavId}
use Rattle.tab_ids.specs.declared.ReqId.{ReqId}
use Rattle.tab_ids.specs.declared.StateId.{StateId}
use Rattle.log_model.specs.declared.change.Change.TheVariants as changes
use Rattle.log_model.specs.declared.job.Why.TheVariants as whys
use Rattle.log_model.specs.declared.made.What.TheVariants as whats
use Rattle.log_model.specs.declared.request.Request.TheVariants as requests
use Rattle.log_model.specs.declared.row_kind.Actor.TheVariants as actors
use Rattle.log_model.specs.declared.row_kind.RowKind.TheVariants as rows

-- ---- what the tables tell

-- the navigable of a document
abbrev pub nav_found : Tables → DocId → Option NavId
nav_found t doc = nav_in t.whose.entries doc

-- what becomes of what a document made
abbrev pub judged_in : Tables → Made → Option Judged
judged_in t made = option_map (λ (nav : NavId). judged t.tree nav made.epoch true) (nav_found t made.doc)

-- the change that it asks of the history, of its document's navigable and document state; a new frame has the next entry and the next document state
abbrev pub asked_in : Tables → Made → Option Change
asked_in t made =
    option_and_then
    (λ (nav : NavId). option_and_then (λ (state : StateId). asked_change (history_held t.store) made.what nav state (record { maker = 0; nr = t.entries + 1 }) (record { 0 = t.states + 1 })) (state_of made.doc t.tree))
    (nav_found t made.doc)

-- the tables have its document's navigable
pub record HasNode (t : Tables) (made : Made) : Type 0 where
  pub nav : NavId
  pub found : nav_found t made.doc ≡ Some nav
  pub node : IsSome (node_of nav t.tree)

-- ---- when it is to be taken

-- the row ends the request
abbrev pub Ends : InEvent → RowKind → ReqId → Type 0
Ends e kind req = ends_in (row_of e kind) ≡ Some req

-- a poke that asks for no traversal
pub record IsOfPoke (q : Asked) : Type 0 where
  pub nav : NavId
  pub action : Action
  pub what : q.what ≡ requests.Poke nav action
  pub no_step : goes action ≡ false

-- a load that has passed its unload check, as one that was sent to a fragment
pub record IsOfFragment (s : Seen) (q : Asked) : Type 0 where
  pub nav : NavId
  pub mode : Mode
  pub address : List ℕ
  pub what : q.what ≡ requests.Load nav mode address
  pub passed : has_passed s q ≡ true

-- a document of the request's navigable made it
pub record IsByItsOwn (s : Seen) (q : Asked) (made : Made) : Type 0 where
  pub d : Document
  pub found : document_of s made.doc ≡ Some d
  pub nav_is : nav_of_request q.what ≡ Some d.nav

-- a new entry was made
abbrev pub is_new_entry : What → Bool
is_new_entry (whats.Push entry memo address) = true
is_new_entry (whats.Replace over entry memo address) = true
is_new_entry _ = false

-- what was made of a load is a new entry, and no more, by a document of its navigable: "navigate to a fragment"
abbrev pub LoadsMadeOwn : Seen → Type 0
LoadsMadeOwn s =
    (req : ReqId) (q : Asked) (made : Made) → request_of s req ≡ Some q → is_load q.what ≡ true → q.made ≡ Some made → IsByItsOwn s q made × (is_new_entry made.what ≡ true)

-- the report is of an open request that hasn't begun, a poke or a load that was sent to a fragment, and changes the history; it is at hand, where nothing is held back unless a traversal runs, or is held back first; the event takes it, or a traversal ended for which it was held back
pub record IsForTaking (e : InEvent) (out : List RowKind) (hand : List Made) (made : Made) : Type 0 where
  pub q : Asked
  pub there : request_of (now_of e out) made.req ≡ Some q
  pub makes : q.made ≡ Some made
  pub open_ : q.ending ≡ None
  pub rests : is_traversal q.what ≡ false
  pub unstarted : q.is_started ≡ false
  pub kind : IsOfPoke q ⊎ IsOfFragment (now_of e out) q
  pub own : IsByItsOwn (now_of e out) q made
  pub changes : changes_history made.what ≡ true
  pub here : IsWaitingHere hand (now_of e out) made.req made
  pub still : hand ≡ made ∷ [] → running_traversal (now_of e out) ≡ None → (now_of e out).parked ≡ []
  pub theirs : LoadsMadeOwn (now_of e out)
  pub by_coord : e.actor ≡ actors.Coord
  pub takes : takes_report e.own ≡ true
  pub before : nat_lt (length e.start.requests) q.nr.0 ≡ false
  pub free : IsFree (here_of e out) made.req
  pub taken : (change : Change) → IsTakenNow (here_of e out) (row_of e (rows.Applied made.req change)) made
  pub held : (kind : RowKind) → Ends e kind made.req → KeepsHeld e out kind

-- ---- what is put out

-- the row applies a reload
abbrev pub is_reloading : RowKind → Bool
is_reloading (rows.Applied req (changes.Reload nav)) = true
is_reloading _ = false

-- one row was put out, which ends the request of what was made, and applies no traversal and no reload; where that is to be taken up at once, it applies or refuses it
pub record EndsAlone (e : InEvent) (old new : List RowKind) (made : Made) : Type 0 where
  pub kind : RowKind
  pub out : new ≡ old ++ kind ∷ []
  pub ends : Ends e kind made.req
  pub no_turn : is_traverse (row_of e kind) ≡ false
  pub no_reload : is_reloading kind ≡ false
  pub up : is_taken_up_at_once (now_of e old) made ≡ true → is_taken_up_in made.req (row_of e kind) ≡ true

-- ---- so that a pass may follow

-- before what a document made is taken, and after
pub record IsTaking (e : InEvent) (run : Option ReqId) (blame : List (StateId × ReqId)) (s : Seen) : Type 0 where
  -- a pass may follow, for whatever an order may be for
  pub open_ : (cause : Why) → MayCause s cause → IsOpen e run cause s
  pub loads : MayStand run s
  pub blamed : AreBlamed s blame
  -- where no traversal runs who is awake is where it is to be; where one does, whom it hasn't moved; and each awake one's entry
  pub calm : CalmUnless IsCalmYet run s
  pub unmoved : UnmovedAreHere s
  pub rooted : AreRooted s
  -- ongoing loads live on
  pub live : LoadsLive s

-- the place's navigable is awake, and the report that its document was shown is delivered
pub record IsArrived (place : Place) : Type 0 where
  pub doc : DocId
  pub wakes : place.status ≡ awake doc
  pub arrived : has_arrived place ≡ true

-- so it is with each navigable on the way to that of an ongoing load which has an entry
abbrev pub LoadsArrived : Seen → Type 0
LoadsArrived s =
    (req : ReqId) (nav : NavId) (place : Place) → IsLoadOf s req nav → has_row nav s.history.rows ≡ true → place_of s nav ≡ Some place → (x : NavId) (own : Place) → has_nav (nav ∷ place.above) x ≡ true → place_of s x ≡ Some own → IsArrived own

-- where a traversal runs
abbrev pub ArrivedWhere : Option ReqId → Seen → Type 0
ArrivedWhere None s = Unit {0}
ArrivedWhere (Some run) s = LoadsArrived s

-- ---- all of it

-- the pass that follows, and the requests that are noted
pub record InTake : Type 0 where
  pub pass : InPass
  pub noted : List (StateId × ReqId)

-- a pass may follow, what the rows so far owe is paid whatever rows come, and what was made is to be taken
pub record IsToTake (p : InPass) (out : List RowKind) (t : Tables) (blame : List (StateId × ReqId)) (made : Made) : Type 0 where
  pub passing : IsPassing p out t
  pub taking : IsForTaking p.event out p.hand made
  pub open_ : IsTaking p.event t.running blame (now_of p.event out)
  pub loose : IsLoose p.event out
  pub arrived : ArrivedWhere t.running (now_of p.event out)

-- it was taken by one row, and all goes on without it
pub record HasTaken (p : InPass) (t : Tables) (made : Made) (was out : List RowKind) (u : Tables) (blame : List (StateId × ReqId)) : Type 0 where
  pub passing : IsPassing (record p { hand = without_made made.req p.hand }) out u
  pub open_ : IsTaking p.event u.running blame (now_of p.event out)
  pub loose : IsLoose p.event out
  pub cause : MayCause (now_of p.event out) (whys.Req made.req)
  pub ended : EndsAlone p.event was out made
  pub queue : LeavesQueue (now_of p.event was) (now_of p.event out)
  pub kept : KeepsRun t u
