-- What is true beside `IsTab` between two rows of a tab of frames, and is wanted where what a document made is applied, and where a document is shown for the first time.
-- This project's own.
use Rattle.seen_facts.specs.Coord.Leading.{pending_view}
use Rattle.seen_facts.specs.Hang.Members.{Has}
use Rattle.log_model.specs.Equal.{has_req}
use Rattle.log_model.specs.Seen.{Document, Place, Seen, desk_of, document_of}
use Rattle.seen_facts.specs.Each.Items.{Each}
use Rattle.std.specs.Prelude.{Option, Some, false, is_some, true, ◌≡◌}
use Rattle.tab_ids.specs.declared.DocId.{DocId}
use Rattle.tab_ids.specs.declared.EntryId.{EntryId}
use Rattle.tab_ids.specs.declared.ReqId.{ReqId}

-- the entry that the navigable was given is one of those that it was ever given
abbrev pub IsEverGiven : Place → Type 0
IsEverGiven place = (entry : EntryId) → place.given ≡ Some entry → Has place.ever_given entry

abbrev pub AreEverGiven : Seen → Type 0
AreEverGiven s = Each IsEverGiven s.places

-- the orders of a document that isn't discarded lead to a view
abbrev pub EachIsViewed : Seen → Type 0
EachIsViewed s =
    (doc : DocId) (d : Document) → document_of s doc ≡ Some d → d.is_discarded ≡ false → is_some (pending_view d (desk_of s d.proc)) ≡ true

-- both
pub record IsBeside (s : Seen) : Type 0 where
  pub ever : AreEverGiven s
  pub viewed : EachIsViewed s

-- the traversal that runs is in the queue
abbrev pub IsQueued : Option ReqId → Seen → Type 0
IsQueued run s = (req : ReqId) → run ≡ Some req → has_req s.joined req ≡ true
