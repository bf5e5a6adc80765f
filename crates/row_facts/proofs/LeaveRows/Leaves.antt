-- A document that is left may be discarded where it is to be: its state has no entry, its navigable is to be reloaded, or too many are kept.
use Rattle.row_facts.proofs.LeaveRows.Discards.{by_third, discard_passes, overdue, spare_fifth, spare_third}
use Rattle.row_facts.proofs.LeaveRows.Lists.{any_at}
use Rattle.row_facts.specs.LeaveRows.Leaving.{IsLeaveDue, IsLeftLater, IsTooMany, kept_and_left}
use Rattle.row_facts.specs.FrameRows.Discarding.{SettlesNone}
use Rattle.log_model.proofs.Refl.{nat_eq_refl}
use Rattle.log_model.specs.Equal.{has_doc, holds}
use Rattle.log_model.specs.Events.{Point}
use Rattle.log_model.specs.Formed.{last_of}
use Rattle.log_model.specs.History.{has_state}
use Rattle.log_model.specs.Orders.{is_below_gone, is_discarded_duly, is_left, is_stateless, is_unneeded, shows_another}
use Rattle.log_model.specs.Seen.{Document, Place, Seen, document_of, place_of}
use Rattle.log_model.specs.Suits.{evicts, is_discarded_suitably, is_overdue, is_spare, kept_then}
use Rattle.log_model.specs.declared.header.Header.{Header}
use Rattle.log_model.specs.declared.job.Job.{Job}
use Rattle.log_model.specs.declared.row_kind.Actor.{Actor}
use Rattle.log_model.specs.declared.row_kind.LogRow.{LogRow}
use Rattle.seen_laws.proofs.Sendings.{both, order_row}
use Rattle.seen_laws.specs.Blocks.{Here, MayLog, point_at}
use Rattle.seen_laws.specs.Sending.{IsNumbered, is_led}
use Rattle.std.proofs.Common.{Bool, List, Option, Some, [], false, not, refl, true, ℕ, ◌++◌, ◌==◌, ◌||◌, ◌∷◌, ◌≡◌}
use Rattle.tab_ids.specs.declared.DocId.{DocId}
use Rattle.tab_ids.specs.declared.EntryId.{EntryId}
use Rattle.tab_ids.specs.declared.Epoch.{Epoch}
use Rattle.log_model.specs.declared.job.Task.TheVariants as tasks

-- ---- the later row

-- an order that shows the document's navigable another document
pub activate_shows_another : (s : Seen) (d : Document) (event : ℕ) (actor : Actor) (job : Job) (other : Document) (entry : EntryId) (epoch : Epoch) (long at : ℕ) (memo : Option (List ℕ)) (address : List ℕ) → job.task ≡ tasks.Activate entry epoch long at memo address → document_of s job.doc ≡ Some other → other.nav ≡ d.nav → (job.doc.0 == d.nr.0) ≡ false → shows_another s d (order_row event actor job) ≡ true
activate_shows_another s d event actor job other entry epoch long at memo address is found same apart =
    rw is (rw apart (rw found (rw same (nat_eq_refl d.nav.0))))

-- such a row is among those that come later
pub left_by : (s : Seen) (d : Document) (first : List LogRow) (row : LogRow) (rest : List LogRow) → shows_another s d row ≡ true → IsLeftLater s d (first ++ row ∷ rest)
left_by s d first row rest is = any_at (shows_another s d) first row rest is

-- ---- the order

module _ (h : Here) (event : ℕ) (actor : Actor) (job : Job) (d : Document) (led : is_led h.done ≡ true) (numbered : IsNumbered h.now job) (due : IsLeaveDue h.now job d) (settles : SettlesNone h.now (order_row event actor job)) where
  left_now : (later : List LogRow) → IsLeftLater h.now d later → is_left (point_at h later) d ≡ true
  left_now later left = both (rw due.placed (rw due.last (nat_eq_refl d.nr.0))) left

  caused : (later : List LogRow) → IsLeftLater h.now d later → is_discarded_duly (point_at h later) (order_row event actor job) job ≡ true
  caused later left =
      rw due.discards.to.found (by_third (is_stateless h.now d) (is_unneeded (point_at h later) (order_row event actor job) d) (has_doc h.now.kept d.nr) (is_below_gone h.now d) (left_now later left))

  -- its document state has no entry
  pub stateless_left_may : has_state d.state h.now.history.rows ≡ false → MayLog h (order_row event actor job ∷ []) (IsLeftLater h.now d)
  stateless_left_may gone later left = (discard_passes h event actor job d later led numbered due.discards settles (caused later left) suitable, tt)
    where
      p : Point
      p = point_at h later

      suitable : is_discarded_suitably h.header p (order_row event actor job) job tasks.Discard ≡ true
      suitable =
          rw due.discards.to.found (spare_third (is_left p d || has_doc h.now.kept d.nr) (not d.is_discarded) (not (is_below_gone h.now d)) (holds (λ (place : Place). not place.is_pending) (place_of h.now d.nav)) (is_overdue h.header p (order_row event actor job) d) gone)

  -- its navigable is to be reloaded
  pub reloaded_left_may : due.place.is_pending ≡ true → MayLog h (order_row event actor job ∷ []) (IsLeftLater h.now d)
  reloaded_left_may pending later left = (discard_passes h event actor job d later led numbered due.discards settles (caused later left) suitable, tt)
    where
      p : Point
      p = point_at h later

      reloads : holds (λ (place : Place). not place.is_pending) (place_of h.now d.nav) ≡ false
      reloads = rw due.placed (rw pending refl)

      suitable : is_discarded_suitably h.header p (order_row event actor job) job tasks.Discard ≡ true
      suitable =
          rw due.discards.to.found (spare_fifth (is_left p d || has_doc h.now.kept d.nr) (not d.is_discarded) (has_state d.state h.now.history.rows) (not (is_below_gone h.now d)) (is_overdue h.header p (order_row event actor job) d) reloads)

  -- it would be one too many
  pub unkept_left_may : IsTooMany h.header h.now d → MayLog h (order_row event actor job ∷ []) (IsLeftLater h.now d)
  unkept_left_may many later left = (discard_passes h event actor job d later led numbered due.discards settles (caused later left) suitable, tt)
    where
      p : Point
      p = point_at h later

      row : LogRow
      row = order_row event actor job

      then_ : kept_then p d ≡ kept_and_left h.now d
      then_ = rw (left_now later left) refl

      or_true : (a : Bool) {b : Bool} → b ≡ true → (a || b) ≡ true
      or_true true is = refl
      or_true false is = is

      late : is_overdue h.header p row d ≡ true
      late =
          let one : holds (λ (doc : DocId). doc.0 == d.nr.0) (last_of (kept_and_left h.now d)) ≡ true = rw many.last (nat_eq_refl d.nr.0) in
          rw then_ (both one (or_true (evicts p row) many.many))

      suitable : is_discarded_suitably h.header p row job tasks.Discard ≡ true
      suitable = rw due.discards.to.found (overdue (is_spare p d) late)

-- where none are kept, and none may be, the one that is left is one too many
pub none_kept : (header : Header) (s : Seen) (d : Document) → header.keep ≡ 0 → s.kept ≡ [] → IsTooMany header s d
none_kept header s d none empty = record { last = rw empty refl; many = rw (empty, none) refl }
