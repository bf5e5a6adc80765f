-- A new frame: one track more, with one row at the first step of its owner.
use Rattle.std.proofs.Common.{◌≡◌, ◌≢◌, ℕ, false, ◌&&◌, List, [], ◌∷◌, ◌++◌, refl, ap, sym, ◌∙◌, fold, subst, inl, inr, Some, None}
use Rattle.std.specs.Prelude.{nat_le}
use Rattle.std.specs.List.{list_any}
use Rattle.std.proofs.lemmas.Bool.{cases_Bool, false≢true, or_parts, eq-eqb}
use Rattle.std.proofs.lemmas.List.Folds.{list_any-append}
use Rattle.tab_ids.specs.declared.NavId.{NavId}
use Rattle.tab_ids.specs.declared.StateId.{StateId}
use Rattle.tab_ids.specs.declared.EntryId.{EntryId}
use Rattle.tab_ids.specs.declared.Step.{Step}
use Rattle.log_model.specs.declared.row.Row.{Row}
use Rattle.log_model.specs.declared.change.Change.TheVariants.{AddFrame}
use Rattle.log_model.specs.History.{History, is_of, has_row, has_nav, applied}
use Rattle.log_model.specs.Order.{ordered, SameHistory}
use Rattle.history_laws.proofs.Members.{IsIn, or_right, or_none, none_passes}
use Rattle.history_laws.proofs.Ordered.{AreApart, ordered-insert}
use Rattle.history_laws.proofs.Sorted.{ordered-any}
use Rattle.history_laws.proofs.InOrder.{IsSound-ordered, used_steps-ordered}
use Rattle.entry_store.specs.Kept.{IsKept, PutsRow}
use Rattle.entry_store.specs.Reading.{first_of}
use Rattle.entry_store.specs.Store.{MayTake}
use Rattle.entry_store.proofs.AddLaw.{frame_row, framed_same, framed_kept}
use Rattle.step_index.specs.declared.track.Track.{Track}
use Rattle.step_index.specs.declared.parts.Parts.{Parts}
use Rattle.step_index.specs.declared.groups.Group.{Group}
use Rattle.step_index.specs.declared.noted.Place.{Place}
use Rattle.step_index.specs.Groups.{AreCounted}
use Rattle.step_index.specs.Noted.{AreNoted}
use Rattle.step_index.specs.Starts.{AreStarted}
use Rattle.step_index.specs.Parts.{history_in, IsIndex, IsFiled}
use Rattle.step_index.specs.Tracks.{rows_of, AreTracks, is_from}
use Rattle.step_index.proofs.Tracking.{tracks_ordered}

-- a history put in order is kept, too
kept_ordered : (history : History) (used : List ℕ) → IsKept history used → IsKept (record { rows = ordered history.rows; current = history.current; added = history.added }) used
kept_ordered history used kept = record {
  sound = IsSound-ordered history kept.sound;
  added = λ nav has is_child. kept.added nav (sym (ordered-any (is_of nav) history.rows) ∙ has) is_child;
  used = kept.used ∙ sym (used_steps-ordered history.rows kept.sound.steps);
  below = ordered-any (λ (row : Row). nat_le 4294967295 row.step.0) history.rows ∙ kept.below;
}

pub history_framed : (parts new : Parts) → new.current ≡ parts.current → history_in new ≡ record { rows = rows_of new.tracks.items; current = parts.current.0; added = new.added.keys }
history_framed parts new current = ap (λ (step : Step). let history : History = record { rows = rows_of new.tracks.items; current = step.0; added = new.added.keys } in history) current

-- ---- where the history stays

pub index_filed : (parts new : Parts) → IsIndex parts → IsFiled new → history_in new ≡ history_in parts → new.counts.entries ≡ parts.counts.entries → new.used.items ≡ parts.used.items → IsIndex new
index_filed parts new index filed same counts used = record {
  kept =
      subst (λ (steps : List ℕ). IsKept (history_in new) steps) (sym used)
      (subst (λ (history : History). IsKept history parts.used.items) (sym same) index.kept);
  tracks = filed.tracks;
  noted = filed.noted;
  started = filed.started;
  counted =
      subst (λ (entries : List (Group × ℕ)). AreCounted entries (rows_of new.tracks.items)) (sym counts)
      (subst (λ (history : History). AreCounted parts.counts.entries history.rows) (sym same) index.counted);
}

pub index_same : (parts new : Parts) → IsIndex parts → AreTracks new.tracks.items → history_in new ≡ history_in parts → new.noted.entries ≡ parts.noted.entries → new.starts.entries ≡ parts.starts.entries → new.counts.entries ≡ parts.counts.entries → new.used.items ≡ parts.used.items → IsIndex new
index_same parts new index tracks same noted starts =
    index_filed parts new index (record {
      tracks = tracks;
      noted =
          subst (λ (entries : List (EntryId × Place)). AreNoted entries (rows_of new.tracks.items)) (sym noted)
          (subst (λ (history : History). AreNoted parts.noted.entries history.rows) (sym same) index.noted);
      started =
          subst (λ (entries : List (StateId × Step)). AreStarted entries (rows_of new.tracks.items)) (sym starts)
          (subst (λ (history : History). AreStarted parts.starts.entries history.rows) (sym same) index.started);
    }) same

-- ---- a new frame

-- a number that was never added has no row
pub new_nav : (parts : Parts) → IsIndex parts → (nav : NavId) → nav.0 ≢ 0 → has_nav parts.added.keys nav ≡ false → has_row nav (rows_of parts.tracks.items) ≡ false
new_nav parts index nav is_child is_new =
    elim (cases_Bool (has_row nav (rows_of parts.tracks.items))) [
      | inl has ↦ absurd (false≢true (sym is_new ∙ index.kept.added nav has is_child))
      | inr none ↦ none
    ]

-- so its row stands behind none
pub none_from : (nav : NavId) (step : ℕ) (rows : List Row) → has_row nav rows ≡ false → list_any (is_from nav step) rows ≡ false
none_from nav step [] none = refl
none_from nav step (row ∷ rows) none =
    let both = or_parts (is_of nav row) (has_row nav rows) none in
    or_none _ _ (ap (λ b. b && nat_le step row.step.0) both.0) (none_from nav step rows both.1)

module _ (parts : Parts) (index : IsIndex parts) (owner : StateId) (nav : NavId) (entry : EntryId) (state : StateId) (may : MayTake (history_in parts) (AddFrame owner nav entry state)) (step : ℕ) (first : fold (first_of owner) None (rows_of parts.tracks.items) ≡ Some step) (is_child : nav.0 ≢ 0) (is_new : has_nav parts.added.keys nav ≡ false) (row : Row) (row_is : row ≡ frame_row owner nav entry step state) (new : List Track) (are : AreTracks new) (puts : PutsRow (rows_of parts.tracks.items) row (rows_of new)) (added : List NavId) (added_is : added ≡ parts.added.keys ++ nav ∷ []) where
  abbrev rows : List Row
  rows = rows_of parts.tracks.items

  abbrev framed : List Row
  framed = rows ++ frame_row owner nav entry step state ∷ []

  apart : (other : Row) → IsIn rows other → AreApart other row
  apart other there navs =
      absurd (false≢true (
      sym (none_passes (is_of nav) rows (new_nav parts index nav is_child is_new) other there)
      ∙ eq-eqb other.nav.0 nav.0 (navs ∙ ap (λ (r : Row). r.nav.0) row_is)))

  -- the tracks' rows are those with the frame's behind them, put in order
  in_order : rows_of new ≡ ordered framed
  in_order =
      sym (tracks_ordered new are)
      ∙ ap ordered puts.is
      ∙ ordered-insert puts.front puts.back row (λ other there. apart other (λ test passes. ap (list_any test) puts.was ∙ list_any-append test puts.front puts.back ∙ or_right (list_any test puts.front) (list_any test puts.back) (there test passes)))
      ∙ ap (λ (old : List Row). ordered (old ++ row ∷ [])) (sym puts.was)
      ∙ ap (λ (r : Row). ordered (rows ++ r ∷ [])) row_is

  kept_behind : IsKept (record { rows = framed; current = parts.current.0; added = added }) parts.used.items
  kept_behind = framed_kept (history_in parts) parts.used.items index.kept owner nav entry state may step first is_child is_new framed refl added added_is

  pub frame_kept : IsKept (record { rows = rows_of new; current = parts.current.0; added = added }) parts.used.items
  frame_kept =
      subst (λ (r : List Row). IsKept (record { rows = r; current = parts.current.0; added = added }) parts.used.items) (sym in_order)
      (kept_ordered (record { rows = framed; current = parts.current.0; added = added }) parts.used.items kept_behind)

  pub frame_same : SameHistory (record { rows = rows_of new; current = parts.current.0; added = added }) (applied (history_in parts) (AddFrame owner nav entry state))
  frame_same =
      let same = framed_same (history_in parts) parts.used.items index.kept owner nav entry state may step first is_child is_new framed refl added added_is in
      record {
        rows = tracks_ordered new are ∙ in_order ∙ same.rows;
        current = same.current;
        added = same.added;
      }
