-- What one pass over a tab with loads asks of the log, what it puts out, and what it leaves, so that another one may follow.
-- HTML Standard, "apply the history step" and "destroy a document"; that all this goes by passes is this project's own.
use Rattle.tab_facts.specs.Calm.Calm.{AreRooted, CalmUnless, HasUsable, IsCalm, IsCalmAround, IsCalmYet, KeepsCalm, UnmovedAreHere}
use Rattle.tab_facts.specs.Calm.Loads.{LoadsHaveDocuments}
use Rattle.tab_facts.specs.FrameWhole.Tab.{AreAwakeWithRows}
use Rattle.row_facts.specs.Left.Left.{WereShown}
use Rattle.seen_facts.specs.Load.Loading.{Look, is_ongoing, look_of}
use Rattle.log_model.specs.History.{has_row}
use Rattle.log_model.specs.Orders.{ongoing_load}
use Rattle.log_model.specs.Places.{aim_of}
use Rattle.log_model.specs.Seen.{Asked, Document, Place, Seen, document_of, place_of}
use Rattle.log_model.specs.declared.job.Job.{Job}
use Rattle.log_model.specs.declared.job.Why.{Why}
use Rattle.log_model.specs.declared.row_kind.RowKind.{RowKind}
use Rattle.nav_tree.specs.Tree.{is_state}
use Rattle.seen_facts.proofs.Request.Readers.{SameReads}
use Rattle.seen_facts.specs.LoadEnds.Standing.{LoadsStand}
use Rattle.seen_laws.specs.InEvent.{InEvent, now_of}
use Rattle.std.specs.Map.{lookup}
use Rattle.std.specs.Prelude.{List, None, Option, Some, [], false, is_some, true, ℕ, ◌++◌, ◌∷◌, ◌≡◌}
pub use Rattle.tab_drops.specs.Dropping.{AreUnheld, HasOnlyDestroyed, HasOnlyDroppedBy, IsBare, IsLoadOf, IsUnsettled, StandOrBare, StandOrMove}
use Rattle.tab_ids.specs.declared.DocId.{DocId}
use Rattle.tab_ids.specs.declared.NavId.{NavId}
use Rattle.tab_ids.specs.declared.ReqId.{ReqId}
use Rattle.tab_ids.specs.declared.StateId.{StateId}
use Rattle.tab_serves.specs.Serving.{FreesVisited, HasOnlyServed, HasWalked, IsSince, KeepsUp}
pub use Rattle.tab_serves.specs.PassedOn.{MayServe}
pub use Rattle.tab_serves.specs.Serving.{DiscardsNone, DiscardsUnheld, LeavesVisited, StillAwake, MayCause, ParentsShown, show_why}
use Rattle.tab_serves.specs.PassedOn.{HasOnlyTold}
pub use Rattle.tab_sweeps.specs.Sweeping.{HasOnlySwept, IsStray, NoneStray}
use Rattle.row_facts.specs.WalkRows.Since.{AwakeSince, MovesVisited, WasAwake}
use Rattle.log_model.specs.declared.row_kind.RowKind.TheVariants as rows

-- ---- what a pass asks for

-- each request that took the last entries of a navigable may be what an order is for
abbrev pub TakersServe : Seen → Type 0
TakersServe s =
    (nav : NavId) (place : Place) (req : ReqId) → place_of s nav ≡ Some place → place.taken_by ≡ Some req → MayServe s req

-- the navigable of each ongoing load stands with those above it, or has no entry; or, where a traversal runs, it or one above it is in need
abbrev pub MayStand : Option ReqId → Seen → Type 0
MayStand None s = StandOrBare s
MayStand (Some req) s = StandOrMove s

-- what goes on until the walk: orders may be for the cause; who is awake was so as the event began, and who was awake then is so, but for discarded documents; who is visited in need was moved by the reason, and leaves what it shows for it, unless it was never shown a document; no ongoing load was held back as the event began
pub record IsOpen (e : InEvent) (run : Option ReqId) (cause : Why) (s : Seen) : Type 0 where
  pub may : MayCause s cause
  pub since : IsSince e.start s
  pub unwoken : AwakeSince e.start [] s
  pub still : StillAwake e.start s
  pub moves : MovesVisited s (show_why run cause)
  pub leavers : LeavesVisited s (show_why run cause)
  pub were : WereShown s
  pub parents : ParentsShown s
  pub held : AreUnheld e s
  pub takers : TakersServe s

-- all of it
pub record MayPass (e : InEvent) (run : Option ReqId) (keep : ℕ) (cause : Why) (s : Seen) : Type 0 where
  pub open_ : IsOpen e run cause s
  pub loads : MayStand run s
  pub header : keep ≡ e.header.keep

-- ---- stray documents that are left

-- a request is noted for the state of the document, for which an order to it may be sent; and its navigable has no entry
pub record IsLeftStray (s : Seen) (blame : List (StateId × ReqId)) (doc : DocId) (state : StateId) : Type 0 where
  pub req : ReqId
  pub noted : lookup (is_state state) blame ≡ Some req
  pub may : MayServe s req
  pub bare : (d : Document) → document_of s doc ≡ Some d → has_row d.nav s.history.rows ≡ false

-- so it is of each stray one
abbrev pub AreLeftStrays : Seen → List (StateId × ReqId) → Type 0
AreLeftStrays s blame = (doc : DocId) (state : StateId) → IsStray s doc state → IsLeftStray s blame doc state

-- each document that is stray then is of a load that was ongoing before
abbrev pub WereLoaded : Seen → Seen → Type 0
WereLoaded s t = (doc : DocId) (state : StateId) → IsStray t doc state → is_some (ongoing_load s state) ≡ true

-- the navigable of each ongoing load is awake
abbrev pub LoadsAwake : Seen → Type 0
LoadsAwake s = (req : ReqId) (nav : NavId) → IsLoadOf s req nav → (doc : DocId) × WasAwake s nav doc

-- who is awake stays so
abbrev pub KeepsAwake : Seen → Seen → Type 0
KeepsAwake s t = (nav : NavId) (doc : DocId) → WasAwake s nav doc → WasAwake t nav doc

-- each ongoing load has its document, and its navigable is awake
pub record LoadsLive (s : Seen) : Type 0 where
  pub awake : LoadsAwake s
  pub loading : LoadsHaveDocuments s

-- the navigable of each ongoing load that has no entry is awake, as where one was just removed
abbrev pub BareAwake : Seen → Type 0
BareAwake s = (req : ReqId) (nav : NavId) → IsLoadOf s req nav → IsBare s nav → (doc : DocId) × WasAwake s nav doc

-- ---- what it puts out

-- an order was put out
pub record HasSent (was out : List RowKind) : Type 0 where
  pub before : List RowKind
  pub job : Job
  pub later : List RowKind
  pub is : out ≡ was ++ (before ++ rows.Sent job ∷ later)

-- where a document is stray then, one was, if each load's navigable without an entry was awake
abbrev pub SendsForStrays : Seen → Seen → List RowKind → List RowKind → Type 0
SendsForStrays s t was out = BareAwake s → (doc : DocId) (state : StateId) → IsStray t doc state → HasSent was out

-- where a traversal runs, ongoing loads gave way to it
abbrev pub HasGivenWay : Seen → Option ReqId → List RowKind → List RowKind → Type 0
HasGivenWay s None was out = out ≡ was
HasGivenWay s (Some by) was out = HasOnlyDroppedBy s by (IsUnsettled s) was out

-- stray documents were discarded, each for the request that was noted for its state, then loads of navigables without an entry dropped
pub record HasClearedOut (e : InEvent) (blame : List (StateId × ReqId)) (was out : List RowKind) : Type 0 where
  pub swept : List RowKind
  pub sweeps : HasOnlySwept (now_of e was) blame was swept
  pub destroys : HasOnlyDestroyed (now_of e swept) swept out

-- where a traversal runs loads gave way to it, and then that
pub record HasClearedAll (e : InEvent) (run : Option ReqId) (was out : List RowKind) : Type 0 where
  pub given : List RowKind
  pub gives : HasGivenWay (now_of e was) run was given
  pub blame : List (StateId × ReqId)
  pub clears : HasClearedOut e blame given out

-- all of it, in this order; then come the orders of the walk, which discard nothing where a step was in its check as the event began or was cut, and last those that tell length and index
pub record HasPutOut (e : InEvent) (run : Option ReqId) (cause tells : Why) (was out : List RowKind) : Type 0 where
  pub given : List RowKind
  pub gives : HasGivenWay (now_of e was) run was given
  pub blame : List (StateId × ReqId)
  pub cleared : List RowKind
  pub clears : HasClearedOut e blame given cleared
  pub served : List RowKind
  pub serves : HasOnlyServed run cause cleared served
  pub quiet : DiscardsUnheld e cleared served
  pub told : HasOnlyTold tells served out

-- ---- what it leaves

-- what it asked of the log is so still, with all ongoing loads standing; but where not all stand, some may have been woken
pub record HasPassed (e : InEvent) (s : Seen) : Type 0 where
  pub walked : HasWalked e s
  pub held : AreUnheld e s
  pub takers : TakersServe s
  pub rows_ : AreAwakeWithRows s

-- the history and its aim, what is held back and what has joined, and what each request asks; only ongoing loads ended; orders may be for whom they might be; no document was made usable; the tab is as calm as it was, and who is up in a calm one is as it was; and each ongoing load has its document, if it had
pub record LeavesPass (s t : Seen) : Type 0 where
  pub history : t.history ≡ s.history
  pub aim : aim_of t ≡ aim_of s
  pub parked : t.parked ≡ s.parked
  pub joined : t.joined ≡ s.joined
  pub loads : (req : ReqId) (l : Look) → look_of t req ≡ Some l → is_ongoing l ≡ true → look_of s req ≡ Some l
  pub others : (req : ReqId) (l : Look) → look_of s req ≡ Some l → is_ongoing l ≡ false → look_of t req ≡ Some l
  pub whats : SameReads (λ (q : Asked). q.what) s.requests t.requests
  pub causes : (why : Why) → MayCause s why → MayCause t why
  pub ready : (state : StateId) → HasUsable t state → HasUsable s state
  pub calms : KeepsCalm s t
  pub up : KeepsUp s t
  pub loading : LoadsHaveDocuments s → LoadsHaveDocuments t

-- where a traversal runs, whom it hasn't moved is where it is to be, if that was so; where none does, the tab is calm, if it was so but for navigables without an entry, or around one of which a load was just applied; and whatever runs, who is awake is rooted, if they were
pub record LeavesCalm (run : Option ReqId) (s t : Seen) : Type 0 where
  pub yet : CalmUnless IsCalmYet run s → CalmUnless IsCalm run t
  pub around : (at : NavId) → CalmUnless (λ (x : Seen). IsCalmAround x at) run s → CalmUnless IsCalm run t
  pub rooted : AreRooted s → AreRooted t
  pub unmoved : (req : ReqId) → run ≡ Some req → UnmovedAreHere s → UnmovedAreHere t

-- where a traversal runs, whom it hasn't moved is where it is to be, if that was so
abbrev pub KeepsUnmoved : Option ReqId → Seen → Seen → Type 0
KeepsUnmoved run s t = (req : ReqId) → run ≡ Some req → UnmovedAreHere s → UnmovedAreHere t

-- ---- from the walk on

-- stray documents were discarded and loads of navigables without an entry dropped: what goes on; ongoing loads stand, who is awake has an entry; and whoever is visited in need and was shown a document has the event free
pub record MayServeAll (e : InEvent) (run : Option ReqId) (keep : ℕ) (cause : Why) (s : Seen) : Type 0 where
  pub open_ : IsOpen e run cause s
  pub rows_ : AreAwakeWithRows s
  pub loads : LoadsStand s
  pub header : keep ≡ e.header.keep
  pub frees : FreesVisited e s

-- orders of the walk, which discard nothing where a step was in its check as the event began or was cut, and then those that tell length and index
pub record HasServedAll (e : InEvent) (run : Option ReqId) (cause tells : Why) (was out : List RowKind) : Type 0 where
  pub served : List RowKind
  pub serves : HasOnlyServed run cause was served
  pub quiet : DiscardsUnheld e was served
  pub told : HasOnlyTold tells served out

-- each document that is stray then was so before
abbrev pub WereStray : Seen → Seen → Type 0
WereStray s t = (doc : DocId) (state : StateId) → IsStray t doc state → IsStray s doc state

-- for each stray document that is left a request is noted still
abbrev pub KeepsLeftStrays : Seen → Seen → Type 0
KeepsLeftStrays s t = (blame : List (StateId × ReqId)) → AreLeftStrays s blame → AreLeftStrays t blame

-- ---- the run of discarded documents

-- the last of the rows discards nothing
pub record EndsRun (out : List RowKind) : Type 0 where
  pub before : List RowKind
  pub last : RowKind
  pub is : out ≡ before ++ last ∷ []
  pub none : DiscardsNone last
