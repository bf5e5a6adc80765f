-- The steps of the history come one by one: over each row.
use Rattle.seen_facts.proofs.Coord.Unread.{next}
use Rattle.tab_facts.proofs.Frame.Changes.{IsPutOver, add_rows, frame_row, push_row, push_rows, remove_rows, replace_rows}
use Rattle.seen_facts.proofs.Hang.Leasts.{first_least}
use Rattle.seen_facts.proofs.Hang.Members.{Passing, any_has}
use Rattle.seen_facts.specs.Hang.Members.{Has}
use Rattle.log_model.specs.History.{History, applied, first_step, has_state, used_step_at}
use Rattle.log_model.specs.Seen.{Asked, Seen, request_in}
use Rattle.log_model.specs.declared.change.Change.{Change}
use Rattle.log_model.specs.declared.row.Row.{Row}
use Rattle.log_model.specs.declared.row_kind.Actor.{Actor}
use Rattle.std.proofs.Common.{Bool, List, None, Option, Some, [], ap, arith, cond, fold, inl, inr, map, max, refl, subst, true, false, ℕ, ◌+◌, ◌==◌, ◌∷◌, ◌≡◌, ◌≤◌, ◌⊎◌}
use Rattle.std.proofs.lemmas.Bool.Decides.{nat_tests}
use Rattle.std.specs.Prelude.{filter, nat_le}
use Rattle.tab_facts.proofs.TabGoing.Counts.{applied_more}
use Rattle.tab_facts.specs.TabGoing.Going.{AreSteps, count_of, has_ended}
use Rattle.tab_ids.specs.declared.EntryId.{EntryId}
use Rattle.tab_ids.specs.declared.NavId.{NavId}
use Rattle.tab_ids.specs.declared.ReqId.{ReqId}
use Rattle.tab_ids.specs.declared.StateId.{StateId}
use Rattle.tab_ids.specs.declared.Step.{Step}
use Rattle.log_model.specs.declared.change.Change.TheVariants as changes
use Rattle.log_model.specs.declared.row_kind.RowKind.TheVariants as rows

-- ---- used steps

low_of : (best step : ℕ) (steps : List ℕ) → best ≤ step → fold max best (filter (λ used. nat_le used step) steps) ≤ step
low_of best step [] under = under
low_of best step (first ∷ steps) under = by_test (nat_le first step) refl (λ k within. low_of k step steps within)
  where
    by_test : (b : Bool) → nat_le first step ≡ b → ((k : ℕ) → k ≤ step → fold max k (filter (λ used. nat_le used step) steps) ≤ step) → fold max best (let l : List ℕ = cond b (first ∷ filter (λ used. nat_le used step) steps) (filter (λ used. nat_le used step) steps) in l) ≤ step
    by_test true e more = (let at : first ≤ step = grind (arith, nat_tests, e) in more (max best first) (omega (arith, at, under)))
    by_test false e more = more best under

used_low : (rows_ : List Row) (step : ℕ) → used_step_at rows_ step ≤ step
used_low rows_ step = low_of 0 step (map (λ (row : Row). row.step.0) rows_) (omega arith)

most_of : (best step most : ℕ) (l : List Row) → best ≤ most → ((row : Row) → Has l row → row.step.0 ≤ most) → fold max best (filter (λ used. nat_le used step) (map (λ (row : Row). row.step.0) l)) ≤ most
most_of best step most [] under each = under
most_of best step most (first ∷ l) under each = by_test (nat_le first.step.0 step) (λ k within. most_of k step most l within (λ row has. each row (inr has)))
  where
    by_test : (b : Bool) → ((k : ℕ) → k ≤ most → fold max k (filter (λ used. nat_le used step) (map (λ (row : Row). row.step.0) l)) ≤ most) → fold max best (let k : List ℕ = cond b (first.step.0 ∷ filter (λ used. nat_le used step) (map (λ (row : Row). row.step.0) l)) (filter (λ used. nat_le used step) (map (λ (row : Row). row.step.0) l)) in k) ≤ most
    by_test true more = (let at : first.step.0 ≤ most = each first (inl refl) in more (max best first.step.0) (omega (arith, at, under)))
    by_test false more = more best under

used_most : (rows_ : List Row) (step most : ℕ) → ((row : Row) → Has rows_ row → row.step.0 ≤ most) → used_step_at rows_ step ≤ most
used_most rows_ step most each = most_of 0 step most rows_ (omega arith) each

-- ---- the history stays

pub steps_still : (s t : Seen) → AreSteps s → t.history ≡ s.history → count_of has_ended s.requests ≤ count_of has_ended t.requests → AreSteps t
steps_still s t steps same up =
    record {
      rows_ = λ row there. (let low : row.step.0 ≤ count_of has_ended s.requests = steps.rows_ row (subst (λ (h : History). Has h.rows row) same there) in omega (arith, low, up));
      current = (let low : s.history.current ≤ count_of has_ended s.requests = steps.current in let at : t.history.current ≡ s.history.current = ap (λ (h : History). h.current) same in omega (arith, low, up, at));
    }

-- ---- a change

-- the row stands no later than one that was there, or than the step after the current one
abbrev pub IsEarly : History → Row → Type 0
IsEarly history row = ((was : Row) × (Has history.rows was) × (row.step.0 ≤ was.step.0)) ⊎ (row.step.0 ≤ history.current + 1)

module _ (s : Seen) (event : ℕ) (actor : Actor) (steps : AreSteps s) (req : ReqId) (q : Asked) (there : request_in s.requests req ≡ Some q) (unended : q.ending ≡ None) where
  abbrev then_ : Change → Seen
  then_ change = next s event actor (rows.Applied req change)

  one_more : (change : Change) → count_of has_ended (then_ change).requests ≡ count_of has_ended s.requests + 1
  one_more change = applied_more s event actor req change has_ended q (λ x. refl) (λ x. refl) there (rw unended refl) refl

  put_steps : (change : Change) → ((row : Row) → Has (applied s.history change).rows row → IsEarly s.history row) → (applied s.history change).current ≤ count_of has_ended s.requests + 1 → AreSteps (then_ change)
  put_steps change from late =
      let more : count_of has_ended (then_ change).requests ≡ count_of has_ended s.requests + 1 = one_more change in
      record { rows_ = λ row has. by_from change row (from row has); current = omega (arith, more, late) }
    where
      by_from : (change : Change) (row : Row) → IsEarly s.history row → row.step.0 ≤ count_of has_ended (then_ change).requests
      by_from change row (inl was) = (let low : was.0.step.0 ≤ count_of has_ended s.requests = steps.rows_ was.0 was.1 in let late_ : row.step.0 ≤ was.0.step.0 = was.2 in let more : count_of has_ended (then_ change).requests ≡ count_of has_ended s.requests + 1 = one_more change in omega (arith, low, late_, more))
      by_from change row (inr new) = (let low : s.history.current ≤ count_of has_ended s.requests = steps.current in let more : count_of has_ended (then_ change).requests ≡ count_of has_ended s.requests + 1 = one_more change in omega (arith, low, new, more))

  was_early : (row : Row) → Has s.history.rows row → IsEarly s.history row
  was_early row has = inl (row, has, omega arith)

  now_low : s.history.current ≤ count_of has_ended s.requests
  now_low = steps.current

  pub pushed_steps : (nav : NavId) (entry : EntryId) (state : StateId) (address : List ℕ) (memo : Option (List ℕ)) → AreSteps (then_ (changes.Push nav entry state address memo))
  pushed_steps nav entry state address memo =
      put_steps (changes.Push nav entry state address memo) (λ row has. by_row row (push_rows s.history nav entry state address memo row has)) (omega (arith, now_low))
    where
      by_row : (row : Row) → Has s.history.rows row ⊎ (push_row s.history nav entry state address memo ≡ row) → IsEarly s.history row
      by_row row (inl old) = was_early row old
      by_row row (inr new) = inr (let at : s.history.current + 1 ≡ row.step.0 = ap (λ (r : Row). r.step.0) new in omega (arith, at))

  pub replaced_steps : (nav : NavId) (over entry : EntryId) (state : StateId) (address : List ℕ) (memo : Option (List ℕ)) → AreSteps (then_ (changes.Replace nav over entry state address memo))
  replaced_steps nav over entry state address memo =
      put_steps (changes.Replace nav over entry state address memo) (λ row has. by_row row (replace_rows s.history nav over entry state address memo row has)) (omega (arith, now_low))
    where
      by_row : (row : Row) → Has s.history.rows row ⊎ IsPutOver s.history.rows nav state row → IsEarly s.history row
      by_row row (inl old) = was_early row old
      by_row row (inr put) = inl (put.was, put.there, (let at : row.step.0 ≡ put.was.step.0 = ap (λ (x : Step). x.0) put.step_is in omega (arith, at)))

  -- a frame is added to a document state with an entry
  pub added_steps : (owner : StateId) (nav : NavId) (entry : EntryId) (state : StateId) → has_state owner s.history.rows ≡ true → AreSteps (then_ (changes.AddFrame owner nav entry state))
  added_steps owner nav entry state owns =
      put_steps (changes.AddFrame owner nav entry state) (λ row has. by_row row (add_rows s.history owner nav entry state row has)) (omega (arith, now_low))
    where
      holder : Passing (λ (r : Row). r.state.0 == owner.0) s.history.rows
      holder = any_has (λ (r : Row). r.state.0 == owner.0) s.history.rows owns

      by_row : (row : Row) → Has s.history.rows row ⊎ (frame_row s.history owner nav entry state ≡ row) → IsEarly s.history row
      by_row row (inl old) = was_early row old
      by_row row (inr its) =
          inl (holder.it, holder.there, (let least : first_step owner s.history.rows ≤ holder.it.step.0 = first_least owner s.history.rows holder.it holder.there holder.passes in let at : first_step owner s.history.rows ≡ row.step.0 = ap (λ (r : Row). r.step.0) its in omega (arith, least, at)))

  pub removed_steps : (nav : NavId) → AreSteps (then_ (changes.RemoveFrame nav))
  removed_steps nav =
      put_steps (changes.RemoveFrame nav) (λ row has. was_early row (remove_rows s.history nav row has)) (let low : used_step_at (applied s.history (changes.RemoveFrame nav)).rows s.history.current ≤ s.history.current = used_low (applied s.history (changes.RemoveFrame nav)).rows s.history.current in omega (arith, low, now_low))

  -- a traversal ends at a used step
  pub traversed_steps : (goal : Step) → AreSteps (then_ (changes.Traverse goal))
  traversed_steps goal =
      put_steps (changes.Traverse goal) was_early (let low : used_step_at s.history.rows goal.0 ≤ count_of has_ended s.requests = used_most s.history.rows goal.0 (count_of has_ended s.requests) steps.rows_ in omega (arith, low))
