-- A kept document may be discarded where it is evicted or too many are kept, one below a discarded one, and one that nothing needs as it is made.
use Rattle.row_facts.proofs.LeaveRows.Discards.{by_fifth, by_fourth, by_second, discard_passes, overdue, spare_first, spare_fourth}
use Rattle.row_facts.proofs.LeaveRows.Lists.{any_at, or_right}
use Rattle.row_facts.specs.LeaveRows.Evicting.{IsBelowDue, IsDiscardedLater, IsEvictDue, IsKeptLast, IsUnneededDue, LeavesLater, discards_doc, is_evicting, shows_none}
use Rattle.row_facts.specs.FrameRows.Discarding.{SettlesNone}
use Rattle.log_model.proofs.Refl.{nat_eq_refl}
use Rattle.log_model.specs.Equal.{has_doc, holds}
use Rattle.log_model.specs.Events.{Point}
use Rattle.log_model.specs.Formed.{last_of}
use Rattle.log_model.specs.History.{has_state}
use Rattle.log_model.specs.Orders.{is_below_gone, is_discarded_duly, is_left, is_stateless, is_unneeded}
use Rattle.log_model.specs.Points.{order_of}
use Rattle.log_model.specs.Seen.{Document, Place, Seen, document_of, place_of}
use Rattle.log_model.specs.Suits.{evicts, is_discarded_suitably, is_overdue, is_spare, kept_then, kept_with, newly_left}
use Rattle.log_model.specs.declared.job.Job.{Job}
use Rattle.log_model.specs.declared.job.Task.{Task}
use Rattle.log_model.specs.declared.row_kind.Actor.{Actor}
use Rattle.log_model.specs.declared.row_kind.LogRow.{LogRow}
use Rattle.seen_laws.proofs.Sendings.{both, order_row}
use Rattle.seen_laws.specs.Blocks.{Here, MayLog, Passes, point_at}
use Rattle.seen_laws.specs.InEvent.{Anything}
use Rattle.seen_laws.specs.Sending.{IsNumbered, is_led}
use Rattle.std.proofs.Common.{List, None, Option, Some, [], false, length, not, refl, true, ℕ, ◌++◌, ◌==◌, ◌||◌, ◌∙◌, ◌∷◌, ◌≡◌}
use Rattle.std.proofs.lemmas.Bool.{and_parts}
use Rattle.std.specs.List.{list_all}
use Rattle.std.specs.Prelude.{nat_lt}
use Rattle.tab_ids.specs.declared.DocId.{DocId}
use Rattle.tab_ids.specs.declared.EntryId.{EntryId}
use Rattle.tab_ids.specs.declared.Epoch.{Epoch}
use Rattle.tab_ids.specs.declared.StateId.{StateId}
use Rattle.log_model.specs.declared.job.Task.TheVariants as tasks
use Rattle.log_model.specs.declared.row_kind.Actor.TheVariants as actors
use Rattle.log_model.specs.declared.row_kind.RowKind.TheVariants as rows

-- ---- the document that later rows leave

-- an order that shows a navigable another document than before leaves that one
pub activate_leaves : (s : Seen) (event : ℕ) (actor : Actor) (job : Job) (d : Document) (place : Place) (last : DocId) (entry : EntryId) (epoch : Epoch) (long at : ℕ) (memo : Option (List ℕ)) (address : List ℕ) (rest : List LogRow) → job.task ≡ tasks.Activate entry epoch long at memo address → document_of s job.doc ≡ Some d → place_of s d.nav ≡ Some place → place.last ≡ Some last → (last.0 == job.doc.0) ≡ false → newly_left s (order_row event actor job ∷ rest) ≡ Some last
activate_leaves s event actor job d place last entry epoch long at memo address rest is found placed was apart =
    rw is (rw found (rw placed (rw was (rw apart refl))))

-- a row that shows none leaves none
leaves_none : (s : Seen) (row : LogRow) (later : List LogRow) → shows_none row ≡ true → newly_left s (row ∷ later) ≡ newly_left s later
leaves_none s row later none = by_order (order_of row) refl none
  where
    by_task : (job : Job) (task : Task) → order_of row ≡ Some job → job.task ≡ task → shows_none row ≡ true → newly_left s (row ∷ later) ≡ newly_left s later
    by_task job (tasks.Activate entry epoch long at memo address) is task none =
        let never : shows_none row ≡ false = rw is (rw task refl) in cc
    by_task job (tasks.Populate nav state address initial) is task none = rw is (rw task refl)
    by_task job (tasks.Update long at) is task none = rw is (rw task refl)
    by_task job tasks.Freeze is task none = rw is (rw task refl)
    by_task job tasks.Discard is task none = rw is (rw task refl)
    by_task job (tasks.Ask slot cause) is task none = rw is (rw task refl)
    by_task job (tasks.DoFragment req mode address) is task none = rw is (rw task refl)

    by_order : (o : Option Job) → order_of row ≡ o → shows_none row ≡ true → newly_left s (row ∷ later) ≡ newly_left s later
    by_order None is none = rw is refl
    by_order (Some job) is none = by_task job job.task is refl none

pub passed_over : (s : Seen) (first later : List LogRow) → list_all shows_none first ≡ true → newly_left s (first ++ later) ≡ newly_left s later
passed_over s [] later none = refl
passed_over s (row ∷ first) later none =
    let parts = and_parts (shows_none row) (list_all shows_none first) none in
    leaves_none s row (first ++ later) parts.0 ∙ passed_over s first later parts.1

-- where no later row shows a document, none is left
pub none_left : (s : Seen) (later : List LogRow) → list_all shows_none later ≡ true → LeavesLater s None later
none_left s [] none = refl
none_left s (row ∷ later) none =
    let parts = and_parts (shows_none row) (list_all shows_none later) none in
    leaves_none s row later parts.0 ∙ none_left s later parts.1

-- where the first that does leaves one, that is it
pub left_then : (s : Seen) (first : List LogRow) (row : LogRow) (rest : List LogRow) (left : DocId) → list_all shows_none first ≡ true → newly_left s (row ∷ rest) ≡ Some left → LeavesLater s (Some left) (first ++ row ∷ rest)
left_then s first row rest left none is = passed_over s first (row ∷ rest) none ∙ is

-- ---- the longest kept document

-- the row with which the user evicts
abbrev pub evicted_row : ℕ → StateId → LogRow
evicted_row event state = record { event = event; actor = actors.Ui; row = rows.Evicted state }

-- an order that discards the document
pub discard_discards : (doc : DocId) (event : ℕ) (actor : Actor) (job : Job) → job.task ≡ tasks.Discard → job.doc ≡ doc → discards_doc doc (order_row event actor job) ≡ true
discard_discards doc event actor job is of = rw is (rw of (rw (nat_eq_refl doc.0) refl))

-- such a row is among those that come later
pub discarded_by : (doc : DocId) (first : List LogRow) (row : LogRow) (rest : List LogRow) → discards_doc doc row ≡ true → IsDiscardedLater doc (first ++ row ∷ rest)
discarded_by doc first row rest is = any_at (discards_doc doc) first row rest is

-- the user evicts, and a later row of the event discards the document
pub evicted_may : (h : Here) (event : ℕ) (state : StateId) (doc : DocId) (d : Document) → h.done ≡ [] → IsEvictDue h.now state doc d → MayLog h (evicted_row event state ∷ []) (IsDiscardedLater doc)
evicted_may h event state doc d first due later discarded = (passes, tt)
  where
    passes : Passes h.header (point_at h later) (evicted_row event state)
    passes =
        record {
          formed = rw first (rw due.last (rw due.found (rw due.state_is (nat_eq_refl state.0))));
          once = refl;
          caused = refl;
          queued = refl;
          ordered = rw due.last discarded;
          checked = refl;
          in_time = refl;
          suits = refl;
        }

-- ---- a kept document is discarded

module _ (h : Here) (event : ℕ) (actor : Actor) (job : Job) (d : Document) (left : Option DocId) (led : is_led h.done ≡ true) (numbered : IsNumbered h.now job) (due : IsKeptLast h.now job d left) (settles : SettlesNone h.now (order_row event actor job)) where
  kept_caused : (later : List LogRow) → is_discarded_duly (point_at h later) (order_row event actor job) job ≡ true
  kept_caused later =
      rw due.discards.to.found (by_fourth (is_stateless h.now d) (is_unneeded (point_at h later) (order_row event actor job) d) (is_left (point_at h later) d) (is_below_gone h.now d) due.kept)

  kept_last : (later : List LogRow) → LeavesLater h.now left later → kept_then (point_at h later) d ≡ kept_with h.now left
  kept_last later leaves = rw due.followed (rw leaves refl)

  kept_may : (later : List LogRow) → LeavesLater h.now left later → (evicts (point_at h later) (order_row event actor job) || nat_lt h.header.keep (length (kept_with h.now left))) ≡ true → Passes h.header (point_at h later) (order_row event actor job)
  kept_may later leaves many = discard_passes h event actor job d later led numbered due.discards settles (kept_caused later) suitable
    where
      p : Point
      p = point_at h later

      row : LogRow
      row = order_row event actor job

      late : is_overdue h.header p row d ≡ true
      late =
          let one : holds (λ (doc : DocId). doc.0 == d.nr.0) (last_of (kept_with h.now left)) ≡ true = rw due.last (nat_eq_refl d.nr.0) in
          rw (kept_last later leaves) (both one many)

      suitable : is_discarded_suitably h.header p row job tasks.Discard ≡ true
      suitable = rw due.discards.to.found (overdue (is_spare p d) late)

  -- more documents are kept than may be
  pub overflow_may : nat_lt h.header.keep (length (kept_with h.now left)) ≡ true → MayLog h (order_row event actor job ∷ []) (LeavesLater h.now left)
  overflow_may many later leaves = (kept_may later leaves (or_right (evicts (point_at h later) (order_row event actor job)) many), tt)

  -- the user evicts it
  pub evict_may : is_evicting h.done ≡ true → MayLog h (order_row event actor job ∷ []) (LeavesLater h.now left)
  evict_may evicting later leaves = (kept_may later leaves (rw (by_done h.done refl evicting) refl), tt)
    where
      by_done : (done : List LogRow) → h.done ≡ done → is_evicting done ≡ true → evicts (point_at h later) (order_row event actor job) ≡ true
      by_done [] is evicting = cc
      by_done (own ∷ done) is evicting = rw is evicting

-- ---- others

-- a document below one that is discarded or known dead
pub below_discard_may : (h : Here) (event : ℕ) (actor : Actor) (job : Job) (d : Document) → is_led h.done ≡ true → IsNumbered h.now job → IsBelowDue h.now job d → SettlesNone h.now (order_row event actor job) → MayLog h (order_row event actor job ∷ []) Anything
below_discard_may h event actor job d led numbered due settles later rest = (discard_passes h event actor job d later led numbered due.discards settles caused suitable, tt)
  where
    p : Point
    p = point_at h later

    row : LogRow
    row = order_row event actor job

    caused : is_discarded_duly p row job ≡ true
    caused =
        rw due.discards.to.found (by_fifth (is_stateless h.now d) (is_unneeded p row d) (is_left p d) (has_doc h.now.kept d.nr) due.below)

    suitable : is_discarded_suitably h.header p row job tasks.Discard ≡ true
    suitable =
        let spared : not (is_below_gone h.now d) ≡ false = rw due.below refl in
        rw due.discards.to.found (spare_fourth (is_left p d || has_doc h.now.kept d.nr) (not d.is_discarded) (has_state d.state h.now.history.rows) (holds (λ (place : Place). not place.is_pending) (place_of h.now d.nav)) (is_overdue h.header p row d) spared)

-- a document that nothing needs as it is made
pub unneeded_may : (h : Here) (event : ℕ) (actor : Actor) (job : Job) (d : Document) → is_led h.done ≡ true → IsNumbered h.now job → IsUnneededDue h job d → SettlesNone h.now (order_row event actor job) → MayLog h (order_row event actor job ∷ []) Anything
unneeded_may h event actor job d led numbered due settles later rest = (discard_passes h event actor job d later led numbered due.discards settles caused suitable, tt)
  where
    p : Point
    p = point_at h later

    row : LogRow
    row = order_row event actor job

    unneeded : is_unneeded p row d ≡ true
    unneeded =
        rw due.begins (rw due.takes (rw due.tells (rw due.of (rw (nat_eq_refl d.nr.0) (rw due.unloaded (rw due.untargeted refl))))))

    caused : is_discarded_duly p row job ≡ true
    caused =
        rw due.discards.to.found (by_second (is_stateless h.now d) (is_left p d) (has_doc h.now.kept d.nr) (is_below_gone h.now d) unneeded)

    unspared : (is_left p d || has_doc h.now.kept d.nr) ≡ false
    unspared = rw due.unshown (rw due.unkept refl)

    suitable : is_discarded_suitably h.header p row job tasks.Discard ≡ true
    suitable =
        rw due.discards.to.found (spare_first (not d.is_discarded) (has_state d.state h.now.history.rows) (not (is_below_gone h.now d)) (holds (λ (place : Place). not place.is_pending) (place_of h.now d.nav)) (is_overdue h.header p row d) unspared)
