-- Tracks made of rows in order, one row after the other.
use Rattle.std.proofs.Common.{◌≡◌, ℕ, suc, zero, ◌<◌, false, not, List, [], ◌∷◌, ◌++◌, length, refl, ap, sym, ◌∙◌, take, get_or, arith, subst, Some}
use Rattle.std.specs.Prelude.{slice_get}
use Rattle.std.specs.List.{list_any}
use Rattle.std.proofs.Math.Seq.{take-suc}
use Rattle.std.proofs.lemmas.Bool.Decides.{nat_tests}
use Rattle.std.proofs.lemmas.List.Folds.{list_any-append}
use Rattle.std.proofs.lemmas.Option.{none-some}
use Rattle.log_model.specs.declared.row.Row.{Row}
use Rattle.tab_ids.specs.declared.NavId.{NavId}
use Rattle.log_model.specs.History.{History, used_steps}
use Rattle.log_model.specs.Order.{is_before, with_row, ordered}
use Rattle.history_laws.proofs.Members.{or_right, or_none, IsIn, none_passes, list_any-none}
use Rattle.history_laws.proofs.Ordered.{AreApart, ordered-push, ordered-insert}
use Rattle.history_laws.proofs.Sorted.{IsSorted, HaveSteps, HaveSteps-tail, apart_first, ordered-sorted}
use Rattle.history_laws.proofs.Same.{any-same}
use Rattle.entry_store.specs.Kept.{history_of, IsKept, PutsRow}
use Rattle.step_index.specs.declared.track.Track.{Track}
use Rattle.step_index.specs.declared.parts.Parts.{Parts}
use Rattle.step_index.specs.Parts.{history_in}
use Rattle.step_index.specs.Strict.{IsStrict}
use Rattle.step_index.specs.Tracks.{rows_of, AreTracks, is_from}
use Rattle.step_index.proofs.Searching.{not_in}
use Rattle.step_index.proofs.Tracking.{tracks_ordered}

apart_before : (row other : Row) → AreApart row other → is_before other row ≡ false → not (is_before row other) ≡ false
apart_before row other apart behind = grind (arith, nat_tests)

-- sorted rows of different places
strict_of : (rows : List Row) → HaveSteps rows → IsSorted rows → IsStrict rows
strict_of [] few sorted = tt
strict_of (row ∷ rows) few sorted = (
  list_any-none (λ (other : Row). not (is_before row other)) rows (λ other there.
      apart_before row other (apart_first row rows few other there) (none_passes (λ (o : Row). is_before o row) rows sorted.0 other there)),
  strict_of rows (HaveSteps-tail row rows few) sorted.1,
)

pub strict : (rows : List Row) → HaveSteps rows → ordered rows ≡ rows → IsStrict rows
strict rows few is = strict_of rows few (subst IsSorted is (ordered-sorted rows))

-- all that stand before a row
before_at : (rows : List Row) (i : ℕ) (row : Row) → IsStrict rows → slice_get rows i ≡ Some row → list_any (λ (other : Row). not (is_before other row)) (take i rows) ≡ false
before_at [] i row is here = absurd (none-some row here)
before_at (first ∷ rows) zero row is here = refl
before_at (first ∷ rows) (suc i) row is here =
    or_none _ _ (not_in (λ (other : Row). not (is_before first other)) rows i row here is.0) (before_at rows i row is.1 here)

behind_not_from : (other row : Row) → not (is_before other row) ≡ false → is_from row.nav row.step.0 other ≡ false
behind_not_from other row before = grind (arith, nat_tests)

behind_apart : (other row : Row) → not (is_before other row) ≡ false → AreApart other row
behind_apart other row before = grind (arith, nat_tests)

-- the next row
module _ (rows : List Row) (is : IsStrict rows) (i : ℕ) (row : Row) (here : slice_get rows i ≡ Some row) (tracks : List Track) (same : ordered (rows_of tracks) ≡ ordered (take i rows)) where
  before : (other : Row) → IsIn (take i rows) other → not (is_before other row) ≡ false
  before other there = none_passes (λ (o : Row). not (is_before o row)) (take i rows) (before_at rows i row is here) other there

  old_apart : (other : Row) → IsIn (rows_of tracks) other → AreApart other row
  old_apart other there =
      behind_apart other row (before other (λ test passes. sym (any-same (rows_of tracks) (take i rows) same test) ∙ there test passes))

  pub next_last : list_any (is_from row.nav row.step.0) (rows_of tracks) ≡ false
  next_last =
      any-same (rows_of tracks) (take i rows) same (is_from row.nav row.step.0)
      ∙ list_any-none (is_from row.nav row.step.0) (take i rows) (λ other there. behind_not_from other row (before other there))

  pub next_same : (new : List Track) → PutsRow (rows_of tracks) row (rows_of new) → i < length rows → row ≡ get_or rows i row → ordered (rows_of new) ≡ ordered (take (suc i) rows)
  next_same new puts within item =
      ap ordered puts.is
      ∙ ordered-insert puts.front puts.back row (λ other there. old_apart other (λ test passes. ap (list_any test) puts.was ∙ list_any-append test puts.front puts.back ∙ or_right (list_any test puts.front) (list_any test puts.back) (there test passes)))
      ∙ ap (λ (old : List Row). ordered (old ++ row ∷ [])) (sym puts.was)
      ∙ ordered-push (rows_of tracks) row old_apart
      ∙ ap (with_row row) same
      ∙ sym (ordered-push (take i rows) row (λ other there. behind_apart other row (before other there)))
      ∙ ap (λ (r : Row). ordered (take i rows ++ r ∷ [])) item
      ∙ ap ordered (sym (take-suc rows i row within))

-- in the end
pub all_rows : (rows : List Row) → ordered rows ≡ rows → (tracks : List Track) → AreTracks tracks → ordered (rows_of tracks) ≡ ordered rows → rows_of tracks ≡ rows
all_rows rows is tracks are same = sym (tracks_ordered tracks are) ∙ same ∙ is

strict_ordered : (rows : List Row) → IsStrict rows → ordered rows ≡ rows
strict_ordered [] is = refl
strict_ordered (row ∷ rows) is = ap (with_row row) (strict_ordered rows is.1) ∙ Rattle.step_index.proofs.Tracking.with_row-front row rows is.0

pub built : (rows : List Row) (tracks : List Track) → IsStrict rows → AreTracks tracks → ordered (rows_of tracks) ≡ ordered rows → rows_of tracks ≡ rows
built rows tracks is are same = all_rows rows (strict_ordered rows is) tracks are same

-- ---- a history of copies

module _ (parts : Parts) (rows : List Row) (added : List NavId) (rows_are : rows ≡ rows_of parts.tracks.items) (added_are : added ≡ parts.added.keys) where
  pub copied : history_of rows parts.current.0 added ≡ history_in parts
  copied = ap (λ (r : List Row). history_of r parts.current.0 added) rows_are ∙ ap (λ (navs : List NavId). history_of (rows_of parts.tracks.items) parts.current.0 navs) added_are

pub copied_kept : (parts : Parts) (used : List ℕ) → IsKept (history_in parts) used → (rows : List Row) (added : List NavId) → rows ≡ rows_of parts.tracks.items → added ≡ parts.added.keys → IsKept (history_of rows parts.current.0 added) (used_steps rows)
copied_kept parts used kept rows added rows_are added_are =
    subst (λ (steps : List ℕ). IsKept (history_of rows parts.current.0 added) steps) (kept.used ∙ ap used_steps (sym rows_are))
    (subst (λ (history : History). IsKept history used) (sym (copied parts rows added rows_are added_are)) kept)
