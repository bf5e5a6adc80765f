-- What each navigable that hasn't arrived waits for, and each document that isn't made: an order that is outstanding, unless the document is dead.
-- HTML Standard, "apply the history step": it waits until each changed navigable's document has told; processes and deaths are this project's own.
use Rattle.std.specs.Prelude.{◌≡◌, ◌⊎◌, true, false, is_some, Some}
use Rattle.tab_ids.specs.declared.DocId.{DocId}
use Rattle.tab_ids.specs.declared.JobId.{JobId}
use Rattle.tab_ids.specs.declared.NavId.{NavId}
use Rattle.log_model.specs.Orders.{is_being_made}
use Rattle.log_model.specs.Seen.{Seen, Document, Desk, Place, awake, document_of, desk_of, place_of}
use Rattle.seen_facts.specs.Transit.Orders.{IsOutstanding, IsShowOf, IsMakeOf}

-- the order that showed the navigable its document last is outstanding, or that document is dead
pub record Comes (desk : Desk) (d : Document) (place : Place) : Type 0 where
  pub nr : JobId
  pub last : place.last_job ≡ Some nr
  pub waits : IsOutstanding (IsShowOf d.nr nr) desk ⊎ (is_some d.dead_by ≡ true)

-- so it is of each awake navigable that hasn't arrived
abbrev pub EachComes : Seen → Type 0
EachComes s =
    (nav : NavId) (place : Place) (doc : DocId) (d : Document) → place_of s nav ≡ Some place → place.status ≡ awake doc → document_of s doc ≡ Some d → place.is_delivered ≡ false → Comes (desk_of s d.proc) d place

-- the order that makes the document is outstanding, or the document is dead
abbrev pub IsOnItsMaking : Desk → Document → Type 0
IsOnItsMaking desk d = IsOutstanding (IsMakeOf d.nr) desk ⊎ (is_some d.dead_by ≡ true)

-- so it is of each document that is being made
abbrev pub EachIsMade : Seen → Type 0
EachIsMade s =
    (doc : DocId) (d : Document) → document_of s doc ≡ Some d → is_being_made d ≡ true → IsOnItsMaking (desk_of s d.proc) d

pub record AreOnTheirWay (s : Seen) : Type 0 where
  pub comes : EachComes s
  pub made : EachIsMade s
