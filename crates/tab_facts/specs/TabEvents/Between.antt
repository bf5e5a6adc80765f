-- All that holds between two events of a tab with frames, loads and documents that are left or kept, in which nobody died, as it would be had nobody been asked: loads in their unload check are at hand, and while a traversal in its check holds the queue, a step may wait.
-- HTML Standard, "apply the history step", "ongoing navigation", "Documents kept for traversal", "checking if unloading is canceled" and "session history traversal queue"; the form is this project's own.
use Rattle.tab_facts.specs.Calm.Loads.{LoadsHaveDocuments}
use Rattle.std.specs.List.{list_any}
use Rattle.std.specs.Prelude.{◌≡◌, ◌⊎◌, ◌≤◌, ◌==◌, ◌||◌, ℕ, Bool, not, true, false, List, [], is_some, length, Option, Some}
use Rattle.tab_ids.specs.declared.DocId.{DocId}
use Rattle.tab_ids.specs.declared.ReqId.{ReqId}
use Rattle.log_model.specs.ActsAtOnce.{ends_stepped, ends_told}
use Rattle.log_model.specs.History.{has_state}
use Rattle.log_model.specs.Seen.{Seen, Desk, Document, document_of}
use Rattle.seen_facts.specs.Coord.Flowing.{Flows}
use Rattle.tab_facts.specs.FrameTab.Asking.{NoneHeld}
use Rattle.tab_facts.specs.FrameWhole.Tab.{AreAwakeWithRows}
use Rattle.seen_facts.specs.LoadEnds.Standing.{LoadsStand}
use Rattle.seen_facts.specs.Rest.Between.{IsOfLoad}
use Rattle.row_facts.specs.RestRows.Moving.{AllRest}
use Rattle.tab_facts.specs.TabWhole.Tab.{IsTab}
use Rattle.seen_facts.specs.Walk.Serving.{AreServed}

-- a document that is made and not discarded is of a state with entries, or of an ongoing load
abbrev pub AreSwept : Seen → Type 0
AreSwept s =
    (doc : DocId) (d : Document) → document_of s doc ≡ Some d → d.is_ready ≡ true → d.is_discarded ≡ false → (has_state d.state s.history.rows ≡ true) ⊎ IsOfLoad s d

-- an order waits in the mail of the process or is in its hand, or what it has to report waits
abbrev pub has_order : Desk → Bool
has_order desk = not (length desk.mail == 0) || is_some desk.in_hand || not (length desk.reports == 0)

-- so it is of one of them
abbrev pub orders_go : Seen → Bool
orders_go s = list_any has_order s.desks

-- with this traversal running, these loads in their check, and one or no traversal in its check, and at most so many documents kept
pub record IsBetweenChecks (keep : ℕ) (run : Option ReqId) (loads : List ReqId) (holds : Bool) (s : Seen) : Type 0 where
  -- what holds between two rows, with the loads in their check at hand
  pub tab : IsTab run loads [] s
  -- what is on its way leads on in full; each visited navigable is served, and each awake one was told
  pub flows : Flows s
  pub served : AreServed s
  pub told : ends_told s ≡ true
  -- no step is put off, but while a traversal in its check holds the queue; and nothing is held back but for a traversal that runs
  pub stepped : holds ≡ false → ends_stepped s ≡ true
  pub held : NoneHeld run s
  -- who is awake has an entry; what isn't shown rests, and is gone where it is of no entry and no load; but the document of a load that an event destroys goes in a later event, and until then an order is on its way
  pub rows_ : AreAwakeWithRows s
  pub rests : AllRest s
  pub swept : AreSwept s ⊎ (orders_go s ≡ true)
  -- ongoing loads stand, and have their documents
  pub stands : LoadsStand s
  pub loading : LoadsHaveDocuments s
  -- the kept documents
  pub few : length s.kept ≤ keep

-- so it is where nobody is in a check
abbrev pub IsBetween : ℕ → Option ReqId → Seen → Type 0
IsBetween keep run s = IsBetweenChecks keep run [] false s
