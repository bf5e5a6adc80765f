-- Rows that discard a document which may be left, for each reason, as long as the prompts that this makes due come.
use Rattle.std.proofs.Common.{◌≡◌, ℕ, Bool, true, false, not, ◌||◌, ◌==◌, List, [], ◌∷◌, length, Option, refl}
use Rattle.std.specs.Prelude.{nat_lt}
use Rattle.tab_ids.specs.declared.DocId.{DocId}
use Rattle.log_model.proofs.Refl.{nat_eq_refl}
use Rattle.log_model.specs.Equal.{has_doc, holds}
use Rattle.log_model.specs.Formed.{last_of}
use Rattle.log_model.specs.History.{has_state}
use Rattle.log_model.specs.Orders.{is_below_gone, is_discarded_duly, is_left, is_stateless, is_unneeded}
use Rattle.log_model.specs.Seen.{Document, Place, place_of}
use Rattle.log_model.specs.Suits.{evicts, is_discarded_suitably, is_overdue, is_spare, kept_then, kept_with}
use Rattle.log_model.specs.declared.job.Job.{Job}
use Rattle.log_model.specs.declared.job.Task.TheVariants as tasks
use Rattle.log_model.specs.declared.row_kind.Actor.{Actor}
use Rattle.log_model.specs.declared.row_kind.LogRow.{LogRow}
use Rattle.row_facts.proofs.LeaveRows.Discards.{by_fifth, by_fourth, by_second, by_third, overdue, spare_fifth, spare_first, spare_fourth, spare_third}
use Rattle.row_facts.specs.LeaveRows.Evicting.{LeavesLater, is_evicting}
use Rattle.row_facts.specs.LeaveRows.Leaving.{IsLeftLater, IsTooMany, kept_and_left}
use Rattle.seen_laws.proofs.Sendings.{both, order_row}
use Rattle.seen_laws.specs.Blocks.{Here, MayLog, point_at}
use Rattle.seen_laws.specs.Sending.{IsNumbered, is_led}
use Rattle.row_facts.proofs.LeaveRows.LeftRows.{discard_left_passes}
use Rattle.row_facts.specs.LeaveRows.MayLeave.{IsBelowLeft, IsDiscardLeft, IsGoneLeft, IsKeptLeft, IsLastLeft, IsUnneededLeft, PromptsLater}

or_right : (a : Bool) {b : Bool} → b ≡ true → (a || b) ≡ true
or_right true is = refl
or_right false is = is

module _ (h : Here) (event : ℕ) (actor : Actor) (job : Job) (d : Document) (led : is_led h.done ≡ true) (numbered : IsNumbered h.now job) where
  abbrev row : LogRow
  row = order_row event actor job

  -- its reason, and that no more is kept than need be, are all that is asked beside
  may : (Rest : List LogRow → Type 0) → IsDiscardLeft h job d → ((later : List LogRow) → Rest later → is_discarded_duly (point_at h later) row job ≡ true) → ((later : List LogRow) → Rest later → is_discarded_suitably h.header (point_at h later) row job tasks.Discard ≡ true) → MayLog h (row ∷ []) (λ later. PromptsLater h row later × Rest later)
  may Rest due caused suitable later rest =
      (discard_left_passes h event actor job d led numbered later due rest.0 (caused later rest.1) (suitable later rest.1), tt)

  -- its state has no entry and is no ongoing load's
  pub gone_left_may : IsGoneLeft h job d → MayLog h (row ∷ []) (λ later. PromptsLater h row later × Unit {0})
  gone_left_may due = may (λ later. Unit {0}) due.discards caused suitable
    where
      caused : (later : List LogRow) → Unit {0} → is_discarded_duly (point_at h later) row job ≡ true
      caused later rest = rw due.discards.to.found (rw (due.gone, due.unloaded) refl)

      suitable : (later : List LogRow) → Unit {0} → is_discarded_suitably h.header (point_at h later) row job tasks.Discard ≡ true
      suitable later rest =
          rw due.discards.to.found (spare_third (is_left (point_at h later) d || has_doc h.now.kept d.nr) (not d.is_discarded) (not (is_below_gone h.now d)) (holds (λ (place : Place). not place.is_pending) (place_of h.now d.nav)) (is_overdue h.header (point_at h later) row d) due.gone)

  -- it is below one that is gone
  pub below_left_may : IsBelowLeft h job d → MayLog h (row ∷ []) (λ later. PromptsLater h row later × Unit {0})
  below_left_may due = may (λ later. Unit {0}) due.discards caused suitable
    where
      caused : (later : List LogRow) → Unit {0} → is_discarded_duly (point_at h later) row job ≡ true
      caused later rest =
          rw due.discards.to.found (by_fifth (is_stateless h.now d) (is_unneeded (point_at h later) row d) (is_left (point_at h later) d) (has_doc h.now.kept d.nr) due.below)

      suitable : (later : List LogRow) → Unit {0} → is_discarded_suitably h.header (point_at h later) row job tasks.Discard ≡ true
      suitable later rest =
          let spared : not (is_below_gone h.now d) ≡ false = rw due.below refl in
          rw due.discards.to.found (spare_fourth (is_left (point_at h later) d || has_doc h.now.kept d.nr) (not d.is_discarded) (has_state d.state h.now.history.rows) (holds (λ (place : Place). not place.is_pending) (place_of h.now d.nav)) (is_overdue h.header (point_at h later) row d) spared)

  -- nothing needs it as it is made
  pub unneeded_left_may : IsUnneededLeft h job d → MayLog h (row ∷ []) (λ later. PromptsLater h row later × Unit {0})
  unneeded_left_may due = may (λ later. Unit {0}) due.discards caused suitable
    where
      unneeded : (later : List LogRow) → is_unneeded (point_at h later) row d ≡ true
      unneeded later =
          rw due.begins (rw due.takes (rw due.tells (rw due.of (rw (nat_eq_refl d.nr.0) (rw due.unloaded (rw due.untargeted refl))))))

      unspared : (later : List LogRow) → (is_left (point_at h later) d || has_doc h.now.kept d.nr) ≡ false
      unspared later = rw due.unshown (rw due.unkept refl)

      caused : (later : List LogRow) → Unit {0} → is_discarded_duly (point_at h later) row job ≡ true
      caused later rest =
          rw due.discards.to.found (by_second (is_stateless h.now d) (is_left (point_at h later) d) (has_doc h.now.kept d.nr) (is_below_gone h.now d) (unneeded later))

      suitable : (later : List LogRow) → Unit {0} → is_discarded_suitably h.header (point_at h later) row job tasks.Discard ≡ true
      suitable later rest =
          rw due.discards.to.found (spare_first (not d.is_discarded) (has_state d.state h.now.history.rows) (not (is_below_gone h.now d)) (holds (λ (place : Place). not place.is_pending) (place_of h.now d.nav)) (is_overdue h.header (point_at h later) row d) (unspared later))

  -- ---- one that is left for another

  module _ (due : IsLastLeft h job d) where
    left_now : (later : List LogRow) → IsLeftLater h.now d later → is_left (point_at h later) d ≡ true
    left_now later left = both (rw due.placed (rw due.last (nat_eq_refl d.nr.0))) left

    caused : (later : List LogRow) → IsLeftLater h.now d later → is_discarded_duly (point_at h later) row job ≡ true
    caused later left =
        rw due.discards.to.found (by_third (is_stateless h.now d) (is_unneeded (point_at h later) row d) (has_doc h.now.kept d.nr) (is_below_gone h.now d) (left_now later left))

    -- its state has no entry
    pub stateless_last_may : has_state d.state h.now.history.rows ≡ false → MayLog h (row ∷ []) (λ later. PromptsLater h row later × IsLeftLater h.now d later)
    stateless_last_may gone =
        may (IsLeftLater h.now d) due.discards caused (λ later left. rw due.discards.to.found (spare_third (is_left (point_at h later) d || has_doc h.now.kept d.nr) (not d.is_discarded) (not (is_below_gone h.now d)) (holds (λ (place : Place). not place.is_pending) (place_of h.now d.nav)) (is_overdue h.header (point_at h later) row d) gone))

    -- its navigable is to be reloaded
    pub reloaded_last_may : due.place.is_pending ≡ true → MayLog h (row ∷ []) (λ later. PromptsLater h row later × IsLeftLater h.now d later)
    reloaded_last_may pending =
        may (IsLeftLater h.now d) due.discards caused (λ later left. rw due.discards.to.found (spare_fifth (is_left (point_at h later) d || has_doc h.now.kept d.nr) (not d.is_discarded) (has_state d.state h.now.history.rows) (not (is_below_gone h.now d)) (is_overdue h.header (point_at h later) row d) reloads))
      where
        reloads : holds (λ (place : Place). not place.is_pending) (place_of h.now d.nav) ≡ false
        reloads = rw due.placed (rw pending refl)

    -- it would be one too many
    pub unkept_last_may : IsTooMany h.header h.now d → MayLog h (row ∷ []) (λ later. PromptsLater h row later × IsLeftLater h.now d later)
    unkept_last_may many = may (IsLeftLater h.now d) due.discards caused suitable
      where
        late : (later : List LogRow) → IsLeftLater h.now d later → is_overdue h.header (point_at h later) row d ≡ true
        late later left =
            let then_ : kept_then (point_at h later) d ≡ kept_and_left h.now d = rw (left_now later left) refl in
            let one : holds (λ (doc : DocId). doc.0 == d.nr.0) (last_of (kept_and_left h.now d)) ≡ true = rw many.last (nat_eq_refl d.nr.0) in
            rw then_ (both one (or_right (evicts (point_at h later) row) many.many))

        suitable : (later : List LogRow) → IsLeftLater h.now d later → is_discarded_suitably h.header (point_at h later) row job tasks.Discard ≡ true
        suitable later left = rw due.discards.to.found (overdue (is_spare (point_at h later) d) (late later left))

  -- ---- one that is kept

  module _ (left : Option DocId) (due : IsKeptLeft h job d left) where
    kept_caused : (later : List LogRow) → LeavesLater h.now left later → is_discarded_duly (point_at h later) row job ≡ true
    kept_caused later leaves =
        rw due.discards.to.found (by_fourth (is_stateless h.now d) (is_unneeded (point_at h later) row d) (is_left (point_at h later) d) (is_below_gone h.now d) due.kept)

    kept_suitable : ((later : List LogRow) → (evicts (point_at h later) row || nat_lt h.header.keep (length (kept_with h.now left))) ≡ true) → (later : List LogRow) → LeavesLater h.now left later → is_discarded_suitably h.header (point_at h later) row job tasks.Discard ≡ true
    kept_suitable many later leaves = rw due.discards.to.found (overdue (is_spare (point_at h later) d) late)
      where
        kept_last : kept_then (point_at h later) d ≡ kept_with h.now left
        kept_last = rw due.followed (rw leaves refl)

        late : is_overdue h.header (point_at h later) row d ≡ true
        late =
            let one : holds (λ (doc : DocId). doc.0 == d.nr.0) (last_of (kept_with h.now left)) ≡ true = rw due.last (nat_eq_refl d.nr.0) in
            rw kept_last (both one (many later))

    -- more documents are kept than may be
    pub overflow_left_may : nat_lt h.header.keep (length (kept_with h.now left)) ≡ true → MayLog h (row ∷ []) (λ later. PromptsLater h row later × LeavesLater h.now left later)
    overflow_left_may many =
        may (LeavesLater h.now left) due.discards kept_caused (kept_suitable (λ later. or_right (evicts (point_at h later) row) many))

    -- the user evicts it
    pub evict_left_may : is_evicting h.done ≡ true → MayLog h (row ∷ []) (λ later. PromptsLater h row later × LeavesLater h.now left later)
    evict_left_may evicting =
        may (LeavesLater h.now left) due.discards kept_caused (kept_suitable (λ later. rw (by_done later h.done refl evicting) refl))
      where
        by_done : (later : List LogRow) (done : List LogRow) → h.done ≡ done → is_evicting done ≡ true → evicts (point_at h later) row ≡ true
        by_done later [] is evicting = cc
        by_done later (own ∷ done) is evicting = rw is evicting
