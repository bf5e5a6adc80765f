-- A row that asks for a later one, with the rows up to that one: the block asks no more than its last rows do.
use Rattle.row_facts.proofs.LeaveRows.Evicts.{discarded_by, left_then}
use Rattle.row_facts.proofs.LeaveRows.Freezes.{displaced_by}
use Rattle.row_facts.proofs.LeaveRows.Leaves.{left_by}
use Rattle.row_facts.specs.LeaveRows.Evicting.{IsDiscardedLater, LeavesLater, discards_doc, shows_none}
use Rattle.row_facts.specs.LeaveRows.Freezing.{IsDisplacedLater}
use Rattle.row_facts.specs.LeaveRows.Leaving.{IsLeftLater}
use Rattle.log_model.specs.History.{has_nav}
use Rattle.log_model.specs.Orders.{displaces, shows_another}
use Rattle.log_model.specs.Places.{way_of}
use Rattle.log_model.specs.Seen.{Document, Place}
use Rattle.log_model.specs.Suits.{newly_left}
use Rattle.log_model.specs.declared.row_kind.LogRow.{LogRow}
use Rattle.seen_laws.proofs.BlockLaws.{may_log_append}
use Rattle.seen_laws.specs.Blocks.{Here, MayLog, on_row, point_at}
use Rattle.std.proofs.Common.{List, Some, [], append_assoc, subst, sym, true, ◌++◌, ◌∷◌, ◌≡◌}
use Rattle.std.specs.List.{list_all}
use Rattle.tab_ids.specs.declared.DocId.{DocId}
use Rattle.tab_ids.specs.declared.NavId.{NavId}

module _ (h : Here) (row : LogRow) (first : List LogRow) (meant : LogRow) (Rest : List LogRow → Type 0) (others : MayLog (on_row h row) (first ++ meant ∷ []) Rest) where
  -- what the first asks is met, whatever comes after the one that it asks for
  ahead : (Asks : List LogRow → Type 0) → MayLog h (row ∷ []) Asks → ((later : List LogRow) → Asks (first ++ meant ∷ later)) → MayLog h (row ∷ (first ++ meant ∷ [])) Rest
  ahead Asks may met =
      may_log_append h (row ∷ []) (first ++ meant ∷ []) Asks Rest may others (λ later rest. subst Asks (sym (append_assoc first (meant ∷ []) later)) (met later))

  -- a Freeze, up to the order that shows its navigable, or one above it, another document
  pub frozen_ahead : (place : Place) (nav : NavId) → MayLog h (row ∷ []) (IsDisplacedLater h place) → has_nav (way_of place) nav ≡ true → ((later : List LogRow) → displaces (point_at h later) nav meant ≡ true) → MayLog h (row ∷ (first ++ meant ∷ [])) Rest
  frozen_ahead place nav may on_way displaced =
      ahead (IsDisplacedLater h place) may (λ later. displaced_by h place nav first meant later on_way (displaced (first ++ meant ∷ later)))

  -- a Discard of a document that is left, up to the order that shows its navigable another one
  pub left_ahead : (d : Document) → MayLog h (row ∷ []) (IsLeftLater h.now d) → shows_another h.now d meant ≡ true → MayLog h (row ∷ (first ++ meant ∷ [])) Rest
  left_ahead d may shows = ahead (IsLeftLater h.now d) may (λ later. left_by h.now d first meant later shows)

  -- a Discard of a kept document, up to the order that leaves another one, which is the first to do so
  pub overflow_ahead : (left : DocId) → MayLog h (row ∷ []) (LeavesLater h.now (Some left)) → list_all shows_none first ≡ true → ((later : List LogRow) → newly_left h.now (meant ∷ later) ≡ Some left) → MayLog h (row ∷ (first ++ meant ∷ [])) Rest
  overflow_ahead left may none leaves =
      ahead (LeavesLater h.now (Some left)) may (λ later. left_then h.now first meant later left none (leaves later))

  -- an eviction, up to the order that discards the document
  pub evicted_ahead : (doc : DocId) → MayLog h (row ∷ []) (IsDiscardedLater doc) → discards_doc doc meant ≡ true → MayLog h (row ∷ (first ++ meant ∷ [])) Rest
  evicted_ahead doc may discards = ahead (IsDiscardedLater doc) may (λ later. discarded_by doc first meant later discards)
