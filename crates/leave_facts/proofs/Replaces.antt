-- Over a replace by an entry of the same document state, whom requests leave was asked for them still.
use Rattle.std.proofs.Common.{◌≡◌, ℕ, Bool, true, false, cond, ◌&&◌, ◌==◌, List, [], ◌∷◌, length, fold, map, Option, Some, None, refl, sym, ap, ◌∙◌}
use Rattle.std.specs.Prelude.{filter, nat_le, nat_lt, option_map}
use Rattle.tab_ids.specs.declared.EntryId.{EntryId}
use Rattle.tab_ids.specs.declared.NavId.{NavId}
use Rattle.tab_ids.specs.declared.ReqId.{ReqId}
use Rattle.tab_ids.specs.declared.StateId.{StateId}
use Rattle.tab_ids.specs.declared.Step.{Step}
use Rattle.log_model.specs.declared.change.Change.TheVariants as changes
use Rattle.log_model.specs.declared.row.Row.{Row}
use Rattle.log_model.specs.declared.row_kind.Actor.{Actor}
use Rattle.log_model.specs.Equal.{holds}
use Rattle.log_model.specs.History.{has_row, is_anchored, is_of, later_row, replaced_row, same_entry, target_entry, tidied}
use Rattle.log_model.specs.Places.{targets_state}
use Rattle.log_model.specs.Seen.{Seen}
use Rattle.seen_facts.proofs.Hang.Forms.{nav_is}
use Rattle.seen_facts.proofs.Hang.Frames.{applied_kept}
use Rattle.seen_facts.proofs.Hang.Members.{IsOf, Passing, any_has, has_map, has_tidied, into_tidied}
use Rattle.seen_facts.proofs.Hang.Parts.{owner_is}
use Rattle.seen_facts.proofs.Hang.Targets.{IsTarget, target_has}
use Rattle.seen_facts.specs.Hang.Changing.{HasState}
use Rattle.seen_facts.specs.Hang.Forms.{forms_of}
use Rattle.seen_facts.specs.Hang.Members.{Has}
use Rattle.tab_facts.proofs.FrameTab.Aims.{latest, target_own, times_of}
use Rattle.tab_facts.proofs.FrameTab.Stating.{anchored_alike, puts_nav, puts_owner, puts_step}
use Rattle.leave_facts.specs.Leaving.{AreAsked}
use Rattle.leave_facts.proofs.Applied.{FitsWell, changed, documents_then, hangs_then, places_then, requests_then, rows_then}
use Rattle.leave_facts.proofs.Shown.{TargetsAlike, forms_hang, steps_alike}
use Rattle.leave_facts.proofs.Stays.{StepsStay, asked_stays}

-- ---- lists

module _ (f : Row → Row) where
  -- a test that the change leaves
  filter_swapped : (p : Row → Bool) → ((x : Row) → p (f x) ≡ p x) → (xs : List Row) → filter p (map f xs) ≡ map f (filter p xs)
  filter_swapped p same [] = refl
  filter_swapped p same (x ∷ xs) = by_test (p x) (same x) (filter_swapped p same xs)
    where
      by_test : (b : Bool) → p (f x) ≡ b → filter p (map f xs) ≡ map f (filter p xs) → filter p (map f (x ∷ xs)) ≡ map f (let l : List Row = cond b (x ∷ filter p xs) (filter p xs) in l)
      by_test true e rest = rw e (ap (λ (l : List Row). f x ∷ l) rest)
      by_test false e rest = rw e rest

  -- the latest of changed rows is the changed latest
  fold_swapped : ((x : Row) → (f x).step ≡ x.step) → (best : Option Row) (xs : List Row) → fold later_row (option_map f best) (map f xs) ≡ option_map f (fold later_row best xs)
  fold_swapped step best [] = refl
  fold_swapped step None (x ∷ xs) = fold_swapped step (Some x) xs
  fold_swapped step (Some b) (x ∷ xs) =
      ap (λ (t : Bool). fold later_row (let o : Option Row = cond t (Some (f x)) (Some (f b)) in o) (map f xs)) (let same : nat_lt (f b).step.0 (f x).step.0 ≡ nat_lt b.step.0 x.step.0 = rw (step b, step x) refl in same)
      ∙ by_test (nat_lt b.step.0 x.step.0) (fold_swapped step (Some x) xs) (fold_swapped step (Some b) xs)
    where
      by_test : (t : Bool) → fold later_row (Some (f x)) (map f xs) ≡ option_map f (fold later_row (Some x) xs) → fold later_row (Some (f b)) (map f xs) ≡ option_map f (fold later_row (Some b) xs) → fold later_row (let o : Option Row = cond t (Some (f x)) (Some (f b)) in o) (map f xs) ≡ option_map f (fold later_row (let o : Option Row = cond t (Some x) (Some b) in o) xs)
      by_test true new old = new
      by_test false new old = old

-- ---- a replace

module _ (s : Seen) (event : ℕ) (actor : Actor) (req : ReqId) (nav : NavId) (over entry : EntryId) (state : StateId) (address : List ℕ) (memo : Option (List ℕ)) (well : FitsWell s (changes.Replace nav over entry state address memo)) (keeps : HasState s.history.rows over state) where
  abbrev replaced : Seen
  replaced = changed s event actor req (changes.Replace nav over entry state address memo)

  abbrev put : Row
  put = record { owner = None; nav = nav; entry = entry; step = record { 0 = 0 }; state = state; address = address; memo = memo }

  abbrev swapped : List Row
  swapped = map (replaced_row over put) s.history.rows

  -- the rows of a navigable that is left
  rows_of : (x : NavId) → has_row x replaced.history.rows ≡ true → filter (is_of x) replaced.history.rows ≡ map (replaced_row over put) (filter (is_of x) s.history.rows)
  rows_of x has =
      times_of x (length swapped) swapped stay
      ∙ filter_swapped (replaced_row over put) (is_of x) (λ row. ap (λ (n : NavId). n.0 == x.0) (puts_nav over put row)) s.history.rows
    where
      a : Passing (is_of x) (tidied swapped)
      a = any_has (is_of x) (tidied swapped) has

      a_there : Has swapped a.it × (is_anchored (tidied swapped) a.it ≡ true)
      a_there = has_tidied swapped a.it a.there

      b : IsOf (replaced_row over put) s.history.rows a.it
      b = has_map (replaced_row over put) s.history.rows a.it a_there.0

      stay : (row : Row) → Has swapped row → is_of x row ≡ true → Has (tidied swapped) row
      stay row there its =
          let c : IsOf (replaced_row over put) s.history.rows row = has_map (replaced_row over put) s.history.rows row there in
          let navs : c.it.nav ≡ b.it.nav = sym (puts_nav over put c.it) ∙ ap (λ (r : Row). r.nav) c.is ∙ nav_is row.nav x its ∙ sym (nav_is a.it.nav x a.passes) ∙ sym (ap (λ (r : Row). r.nav) b.is) ∙ puts_nav over put b.it in
          let owners : row.owner ≡ a.it.owner = sym (ap (λ (r : Row). r.owner) c.is) ∙ puts_owner over put c.it ∙ owner_is s.history.rows (forms_of s.places) well.sound.rooted well.hangs.rows c.it b.it c.there b.there navs ∙ sym (puts_owner over put b.it) ∙ ap (λ (r : Row). r.owner) b.is in
          into_tidied swapped row there (anchored_alike (tidied swapped) row a.it owners ∙ a_there.1)

  -- so its target is what becomes of its target
  swapped_target : (x : NavId) (step : ℕ) → has_row x replaced.history.rows ≡ true → target_entry replaced.history.rows x step ≡ option_map (replaced_row over put) (target_entry s.history.rows x step)
  swapped_target x step has =
      target_own replaced.history.rows x step
      ∙ ap (λ (l : List Row). latest l step) (rows_of x has)
      ∙ ap (λ (l : List Row). fold later_row None l) (filter_swapped (replaced_row over put) (λ (row : Row). nat_le row.step.0 step) (λ row. ap (λ (n : Step). nat_le n.0 step) (puts_step over put row)) (filter (is_of x) s.history.rows))
      ∙ fold_swapped (replaced_row over put) (puts_step over put) None (filter (λ (row : Row). nat_le row.step.0 step) (filter (is_of x) s.history.rows))
      ∙ sym (ap (λ (o : Option Row). option_map (replaced_row over put) o) (target_own s.history.rows x step))

  -- no row changes its document state
  same_state : (row : Row) → Has s.history.rows row → (replaced_row over put row).state ≡ row.state
  same_state row there = by_test (same_entry row.entry over) (is_of nav row) refl
    where
      by_test : (a b : Bool) → same_entry row.entry over ≡ a → (let r : Row = cond (a && b) (record put { owner = row.owner; step = row.step }) row in r.state) ≡ row.state
      by_test true true e = sym (keeps row there e)
      by_test true false e = refl
      by_test false b e = refl

  replaced_targets : (step : ℕ) → TargetsAlike s replaced step step
  replaced_targets step = record { each = λ x has shown st is. by_target x has st (target_entry s.history.rows x step) refl is }
    where
      by_target : (x : NavId) → has_row x replaced.history.rows ≡ true → (st : StateId) (o : Option Row) → target_entry s.history.rows x step ≡ o → holds (λ (row : Row). row.state.0 == st.0) o ≡ true → targets_state replaced.history.rows step x st ≡ true
      by_target x has st None e never = absurd cc
      by_target x has st (Some row) e is =
          let its : IsTarget s.history.rows x step row = target_has s.history.rows x step row e in
          ap (λ (o : Option Row). holds (λ (r : Row). r.state.0 == st.0) o) (swapped_target x step has ∙ ap (λ (o : Option Row). option_map (replaced_row over put) o) e)
          ∙ ap (λ (y : StateId). y.0 == st.0) (same_state row its.there)
          ∙ is

  replaced_steps : StepsStay s replaced
  replaced_steps =
      steps_alike s replaced well.sound well.hangs well.then_sound (hangs_then s event actor req (changes.Replace nav over entry state address memo) well) (forms_hang s replaced (applied_kept s req (changes.Replace nav over entry state address memo) tt))
      (record { targets = replaced_targets; current = λ x st. refl })

  -- whom requests leave was asked for them still
  pub replace_asked : AreAsked s → AreAsked replaced
  replace_asked asked =
      asked_stays s replaced (requests_then s event actor req (changes.Replace nav over entry state address memo)) (documents_then s event actor req (changes.Replace nav over entry state address memo)) (places_then s event actor req (changes.Replace nav over entry state address memo) tt) (rows_then s event actor req (changes.Replace nav over entry state address memo) tt well.fit) replaced_steps asked
