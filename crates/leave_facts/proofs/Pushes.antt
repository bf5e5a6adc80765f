-- Over a push that keeps to its navigable's document state, whom requests leave was asked for them still.
use Rattle.std.proofs.Common.{◌≡◌, ◌⊎◌, inl, inr, ℕ, ◌+◌, ◌≤◌, Bool, true, false, ◌&&◌, ◌==◌, List, [], ◌∷◌, ◌++◌, Option, refl, sym, ap, ◌∙◌, arith}
use Rattle.std.specs.Prelude.{filter, nat_le}
use Rattle.std.proofs.lemmas.Bool.{leb-true}
use Rattle.std.proofs.lemmas.Bool.Decides.{nat_tests}
use Rattle.tab_ids.specs.declared.EntryId.{EntryId}
use Rattle.tab_ids.specs.declared.NavId.{NavId}
use Rattle.tab_ids.specs.declared.ReqId.{ReqId}
use Rattle.tab_ids.specs.declared.StateId.{StateId}
use Rattle.log_model.specs.declared.change.Change.TheVariants as changes
use Rattle.log_model.specs.declared.row.Row.{Row}
use Rattle.log_model.specs.declared.row_kind.Actor.{Actor}
use Rattle.log_model.proofs.Refl.{nat_eq_refl}
use Rattle.log_model.specs.Equal.{holds}
use Rattle.log_model.specs.History.{cleared, has_row, is_of, owner_of}
use Rattle.log_model.specs.Places.{targets_state}
use Rattle.log_model.specs.Seen.{Seen}
use Rattle.seen_facts.proofs.Hang.Forms.{nav_is}
use Rattle.seen_facts.proofs.Hang.Frames.{applied_kept}
use Rattle.seen_facts.proofs.Hang.Members.{Passing, any_has, has_any, has_filter, has_more, has_tidied}
use Rattle.seen_facts.specs.Hang.Forms.{forms_of}
use Rattle.seen_facts.specs.Hang.Hanging.{Hangs}
use Rattle.seen_facts.specs.Hang.Members.{Has}
use Rattle.tab_facts.proofs.FrameTab.Aims.{others_pushed, own_pushed}
use Rattle.leave_facts.specs.Leaving.{AreAsked}
use Rattle.leave_facts.proofs.Applied.{FitsWell, changed, documents_then, hangs_then, places_then, requests_then, rows_then}
use Rattle.leave_facts.proofs.Shown.{HangAlike, TargetsAlike, forms_hang, stays_then, targets_one}
use Rattle.leave_facts.proofs.Stays.{StepsStay, asked_stays, stays_in}
use Rattle.leave_facts.proofs.Targets.{stays_alike, stays_used, target_more, target_part, target_past}

module _ (s : Seen) (event : ℕ) (actor : Actor) (req : ReqId) (nav : NavId) (entry : EntryId) (state : StateId) (address : List ℕ) (memo : Option (List ℕ)) (well : FitsWell s (changes.Push nav entry state address memo)) (keeps : targets_state s.history.rows s.history.current nav state ≡ true) where
  abbrev pushed : Seen
  pushed = changed s event actor req (changes.Push nav entry state address memo)

  abbrev new : Row
  new =
      record {
        owner = owner_of nav (cleared s.history);
        nav = nav;
        entry = entry;
        step = record { 0 = s.history.current + 1 };
        state = state;
        address = address;
        memo = memo;
      }

  abbrev low : Row → Bool
  low row = nat_le row.step.0 s.history.current

  -- who has an entry then has one that isn't forward
  cleared_row : (x : NavId) → has_row x pushed.history.rows ≡ true → has_row x (cleared s.history) ≡ true
  cleared_row x has = by_row a.it (has_more (cleared s.history) new a.it a.there) a.passes
    where
      a : Passing (is_of x) (cleared s.history ++ new ∷ [])
      a = any_has (is_of x) (cleared s.history ++ new ∷ []) has

      by_row : (row : Row) → Has (cleared s.history) row ⊎ (new ≡ row) → is_of x row ≡ true → has_row x (cleared s.history) ≡ true
      by_row row (inl there) is = has_any (is_of x) (cleared s.history) row there is
      by_row row (inr same) is =
          ap (λ (n : NavId). has_row n (cleared s.history)) (sym (nav_is nav x (ap (λ (r : Row). is_of x r) same ∙ is))) ∙ well.fit

  -- at the new current step each has a target as it had at the old one
  targets_now : TargetsAlike s pushed s.history.current pushed.history.current
  targets_now = record { each = λ x has shown st is. by_own x has st is (nav.0 == x.0) refl }
    where
      by_own : (x : NavId) → has_row x pushed.history.rows ≡ true → (st : StateId) → targets_state s.history.rows s.history.current x st ≡ true → (b : Bool) → (nav.0 == x.0) ≡ b → targets_state pushed.history.rows pushed.history.current x st ≡ true
      by_own x has st is false apart =
          ap (λ (o : Option Row). holds (λ (row : Row). row.state.0 == st.0) o) (others_pushed s.history (forms_of s.places) well.sound well.hangs.rows new refl x apart (cleared_row x has)) ∙ is
      by_own x has st is true same =
          let own : nav ≡ x = nav_is nav x same in
          let its : targets_state s.history.rows s.history.current nav st ≡ true = ap (λ (n : NavId). targets_state s.history.rows s.history.current n st) own ∙ is in
          let one : state ≡ st = targets_one s.history.rows s.history.current nav state st keeps its in
          ap (λ (n : NavId). targets_state pushed.history.rows pushed.history.current n st) (sym own)
          ∙ ap (λ (o : Option Row). holds (λ (row : Row). row.state.0 == st.0) o) (own_pushed s.history (forms_of s.places) well.sound well.hangs.rows new refl)
          ∙ ap (λ (y : StateId). y.0 == st.0) one
          ∙ nat_eq_refl st.0

  -- at a step that isn't forward each has the target that it had
  targets_low : (goal : ℕ) → nat_le goal s.history.current ≡ true → TargetsAlike s pushed goal goal
  targets_low goal back =
      record {
        each = λ x has shown st is.
            ap (λ (o : Option Row). holds (λ (row : Row). row.state.0 == st.0) o) (target_more (cleared s.history) new x goal (none x) ∙ target_part (forms_of s.places) s.history well.sound well.hangs.rows low x goal (cleared_row x has) (λ row there its up. reach row up)) ∙ is;
      }
    where
      none : (x : NavId) → (is_of x new && nat_le (s.history.current + 1) goal) ≡ false
      none x =
          let past : nat_le (s.history.current + 1) goal ≡ false = grind (arith, nat_tests, back) in
          ap (λ (b : Bool). is_of x new && b) past ∙ never (is_of x new)
        where
          never : (b : Bool) → (b && false) ≡ false
          never true = refl
          never false = refl

      reach : (row : Row) → row.step.0 ≤ goal → nat_le row.step.0 s.history.current ≡ true
      reach row up = grind (arith, nat_tests, back, up)

  -- a forward step is past all rows
  rows_low : (row : Row) → Has pushed.history.rows row → row.step.0 ≤ s.history.current + 1
  rows_low row there = by_row (has_more (cleared s.history) new row there)
    where
      by_row : Has (cleared s.history) row ⊎ (new ≡ row) → row.step.0 ≤ s.history.current + 1
      by_row (inl old) =
          let is : nat_le row.step.0 s.history.current ≡ true = (has_filter low s.history.rows row (has_tidied (filter low s.history.rows) row old).0).1 in
          omega (arith, leb-true row.step.0 s.history.current is)
      by_row (inr same) =
          let its : (s.history.current + 1) ≡ row.step.0 = ap (λ (r : Row). r.step.0) same in
          omega (arith, its)

  hung : HangAlike s pushed
  hung = forms_hang s pushed (applied_kept s req (changes.Push nav entry state address memo) tt)

  hangs : Hangs pushed
  hangs = hangs_then s event actor req (changes.Push nav entry state address memo) well

  stay_now : (x : NavId) (st : StateId) → has_row x pushed.history.rows ≡ true → stays_in s.history.rows s.history.current x st ≡ true → stays_in pushed.history.rows pushed.history.current x st ≡ true
  stay_now x st has is =
      stays_then s pushed well.sound well.hangs well.then_sound hangs hung s.history.current pushed.history.current targets_now x st has is

  steps_then : StepsStay s pushed
  steps_then =
      record {
        now = λ x st had has is. stay_now x st has is;
        there = λ goal x st had has now is. stays_used pushed.history.rows goal x st ∙ by_goal goal x st has now (sym (stays_used s.history.rows goal x st) ∙ is) (nat_le goal s.history.current) refl;
      }
    where
      by_goal : (goal : ℕ) (x : NavId) (st : StateId) → has_row x pushed.history.rows ≡ true → stays_in s.history.rows s.history.current x st ≡ true → stays_in s.history.rows goal x st ≡ true → (b : Bool) → nat_le goal s.history.current ≡ b → stays_in pushed.history.rows goal x st ≡ true
      by_goal goal x st has now is true back =
          stays_then s pushed well.sound well.hangs well.then_sound hangs hung goal goal (targets_low goal back) x st has is
      by_goal goal x st has now is false past =
          let on : s.history.current + 1 ≤ goal = grind (arith, nat_tests, past) in
          stays_alike pushed.history.rows goal pushed.history.current (λ y. target_past pushed.history.rows y (s.history.current + 1) goal rows_low on) x st
          ∙ stay_now x st has now

  -- whom requests leave was asked for them still
  pub push_asked : AreAsked s → AreAsked pushed
  push_asked asked =
      asked_stays s pushed (requests_then s event actor req (changes.Push nav entry state address memo)) (documents_then s event actor req (changes.Push nav entry state address memo)) (places_then s event actor req (changes.Push nav entry state address memo) tt) (rows_then s event actor req (changes.Push nav entry state address memo) tt well.fit) steps_then asked
