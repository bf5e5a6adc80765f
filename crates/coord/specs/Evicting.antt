-- The user has the document discarded that is kept longest.
-- HTML Standard, "Documents kept for traversal" and "destroy a document"; that the user evicts is this project's own.
use Rattle.tab_stands.specs.Standing.{none_in_check}
use Rattle.coord.specs.declared.coordinator.Coordinator.{Coordinator}
use Rattle.seen_facts.specs.Kept.Keeping.{kept_states}
use Rattle.log_model.specs.Seen.{Seen}
use Rattle.log_model.specs.declared.row_kind.RowKind.{RowKind}
use Rattle.page_cache.specs.Kept.{oldest_of}
use Rattle.seen_laws.specs.InEvent.{InEvent}
use Rattle.std.specs.Prelude.{List, Option, ◌++◌, ◌≡◌}
use Rattle.tab_ids.specs.declared.StateId.{StateId}
use Rattle.user_evicts.specs.Evicting.{HasEvicted, InEvict}

-- an event, and the document state that is evicted in it
pub record InEviction : Type 0 where
  pub event : InEvent
  pub state : StateId

-- the same, with what waits and for whom stray documents are noted as it begins
abbrev pub evict_in : InEviction → Coordinator → InEvict
evict_in v c = record { event = v.event; check = none_in_check; state = v.state; queue = c.queue; noted = c.blame.entries }

abbrev pub eviction_of : InEvict → InEviction
eviction_of b = record { event = b.event; state = b.state }

-- the document state whose document is kept longest, if one is kept
abbrev pub longest_in : Seen → Option StateId
longest_in s = oldest_of (kept_states s)

-- the first rows discard the document, with those below it; others may follow
pub record EvictCame (e : InEvent) (state : StateId) (out : List RowKind) : Type 0 where
  pub first : List RowKind
  pub came : HasEvicted e state first
  pub more : List RowKind
  pub is : out ≡ first ++ more
