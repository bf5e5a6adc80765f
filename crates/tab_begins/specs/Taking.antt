-- The turns of a ready load and of a traversal: what they ask of the log, what they put out, and that a pass may follow.
-- HTML Standard, "finalize a cross-document navigation", "navigate" and "traverse the history by a delta"; that a load waits in the queue until all stand is this project's own.
use Rattle.tab_facts.specs.Frame.Lasting.{wish}
use Rattle.load_doors.specs.Applying.{new_entry}
use Rattle.seen_facts.specs.Load.Loading.{Look, is_ongoing, look_of}
use Rattle.load_table.specs.declared.load.Load.{Load}
use Rattle.log_model.specs.Seen.{Place, Seen, place_of}
use Rattle.log_model.specs.declared.job.Why.{Why}
use Rattle.log_model.specs.declared.row_kind.RowKind.{RowKind}
use Rattle.navigate_core.specs.Navigations.{change_for}
use Rattle.seen_facts.proofs.Request.Readers.{SameReads}
use Rattle.seen_laws.specs.InEvent.{InEvent, now_of}
use Rattle.std.specs.Prelude.{List, None, Option, Some, [], false, true, ◌++◌, ◌∷◌, ◌≡◌}
use Rattle.tab_applies.specs.Applying.{MayApply}
use Rattle.tab_doors.specs.declared.tables.Tables.{Tables}
use Rattle.tab_one_pass.specs.PassedOn.{AreBlamed, IsBelowNav}
use Rattle.tab_one_pass.specs.Passing.{AreLeftStrays, HasOnlyDroppedBy, HasPassed, IsOpen, MayCause}
pub use Rattle.tab_one_pass.specs.Passing.{IsLoadOf, StandOrMove}
use Rattle.tab_ids.specs.declared.EntryId.{EntryId}
use Rattle.tab_ids.specs.declared.NavId.{NavId}
use Rattle.tab_ids.specs.declared.ReqId.{ReqId}
use Rattle.tab_ids.specs.declared.StateId.{StateId}
use Rattle.log_model.specs.declared.row_kind.RowKind.TheVariants as rows

-- it may be applied, after a pass, for each of whose stray documents that are left a request is noted
pub record MayTake (e : InEvent) (blame : List (StateId × ReqId)) (nav : NavId) (load : Load) (s : Seen) : Type 0 where
  pub may : MayApply e s nav load
  pub passed : HasPassed e s
  pub strays : AreLeftStrays s blame

-- no load of a navigable below is ongoing
abbrev pub NoneBelow : Seen → NavId → Type 0
NoneBelow s nav = (req : ReqId) (under : NavId) → IsLoadOf s req under → IsBelowNav s nav under → ⊥

-- it was applied, in the place of the given entry where it replaces; then ongoing loads of those below were dropped for it
pub record HasTaken (e : InEvent) (t : Tables) (nav : NavId) (load : Load) (was out : List RowKind) : Type 0 where
  pub place : Place
  pub placed : place_of (now_of e was) nav ≡ Some place
  pub over : EntryId
  pub given : place.given ≡ Some over
  pub applied : List RowKind
  pub is : applied ≡ was ++ rows.Applied load.req (change_for load over (new_entry t)) ∷ []
  pub drops : HasOnlyDroppedBy (now_of e applied) load.req (IsBelowNav (now_of e applied) nav) applied out

-- each ongoing load was so
abbrev pub AreOldLoads : Seen → Seen → Type 0
AreOldLoads s t = (req : ReqId) (l : Look) → look_of t req ≡ Some l → is_ongoing l ≡ true → look_of s req ≡ Some l

-- each request asks what it asked, and what was made of it is; and documents are as they were
pub record KeepsMade (s t : Seen) : Type 0 where
  pub wishes : SameReads wish s.requests t.requests
  pub documents : t.documents ≡ s.documents

-- the same requests have joined, what is held back is, each asks what it asked, documents are as they were, and each ongoing load was so
pub record KeepsQueue (s t : Seen) : Type 0 where
  pub joined : t.joined ≡ s.joined
  pub parked : t.parked ≡ s.parked
  pub wishes : SameReads wish s.requests t.requests
  pub documents : t.documents ≡ s.documents
  pub loads : AreOldLoads s t

-- the request is no ongoing load
abbrev pub IsOver : Seen → ReqId → Type 0
IsOver s req = (l : Look) → look_of s req ≡ Some l → is_ongoing l ≡ false

-- ---- a traversal

-- after it has begun: a pass may follow
pub record HasBegun (e : InEvent) (run : ReqId) (s : Seen) : Type 0 where
  pub open_ : (cause : Why) → MayCause s cause → IsOpen e (Some run) cause s
  pub loads : StandOrMove s

-- after its turn it runs, so that a pass may follow; or none does, and all is as after a pass
abbrev pub GoesOn : InEvent → Option ReqId → Seen → Type 0
GoesOn e None s = HasPassed e s
GoesOn e (Some run) s = HasBegun e run s

-- a request that was noted for each stray document is good for it still, for another turn and for a pass
pub record KeepsStrays (s t : Seen) : Type 0 where
  pub left : (blame : List (StateId × ReqId)) → AreLeftStrays s blame → AreLeftStrays t blame
  pub blamed : (blame : List (StateId × ReqId)) → AreLeftStrays s blame → AreBlamed t blame
