-- A frame is removed: the entries of a navigable stay, or all go; who loses one is the frame, or below it; and who is left some has the same target, at each used step.
use Rattle.tab_facts.proofs.FrameTab.Aims.{filter_in, latest, part_of, target_own}
use Rattle.seen_facts.proofs.Hang.Forms.{nav_is}
use Rattle.seen_facts.proofs.Hang.Hung.{hangs_as, is_hung, own_form, place_chain}
use Rattle.seen_facts.proofs.Hang.Members.{Passing, any_has, find_has, has_any, has_filter, has_tidied, into_filter, into_map, into_tidied}
use Rattle.seen_facts.specs.Hang.AsPlaces.{IsChain, IsHung}
use Rattle.seen_facts.specs.Hang.Forms.{Form, form_in, form_of, forms_of}
use Rattle.seen_facts.specs.Hang.Hanging.{Hangs, IsPlaced}
use Rattle.seen_facts.specs.Hang.Members.{Has}
use Rattle.log_model.proofs.Refl.{nat_eq_refl}
use Rattle.log_model.specs.History.{History, applied, has_nav, has_row, has_state, is_of, later_row, target_entry, tidied, used_step_at}
use Rattle.log_model.specs.Places.{holder_of}
use Rattle.log_model.specs.Seen.{Place, Seen, place_of}
use Rattle.log_model.specs.Soundness.{IsSound, hangs_on, is_owned_by}
use Rattle.log_model.specs.declared.row.Row.{Row}
use Rattle.std.proofs.Common.{Bool, List, None, Option, Some, [], ap, arith, cond, false, fold, inl, inr, map, max, not, refl, subst, sym, true, ℕ, ◌&&◌, ◌==◌, ◌∙◌, ◌∷◌, ◌≡◌, ◌≤◌, ◌⊎◌}
use Rattle.std.proofs.lemmas.Bool.{or_parts}
use Rattle.std.proofs.lemmas.Bool.Decides.{nat_tests}
use Rattle.std.specs.Option.{option_map_or}
use Rattle.std.specs.Prelude.{filter, find, nat_le, option_map, slice_get}
use Rattle.tab_ids.specs.declared.NavId.{NavId}
use Rattle.tab_ids.specs.declared.StateId.{StateId}
use Rattle.seen_facts.proofs.Walk.Placed.{found_nav}
use Rattle.log_model.specs.declared.change.Change.TheVariants as changes

-- ---- used steps

max_low : (b bound : ℕ) (xs : List ℕ) → b ≤ bound → ((x : ℕ) → Has xs x → x ≤ bound) → fold max b xs ≤ bound
max_low b bound [] low all = low
max_low b bound (x ∷ xs) low all =
    max_low (max b x) bound xs (let one : x ≤ bound = all x (inl refl) in omega (arith, low, one)) (λ y there. all y (inr there))

max_high : (b : ℕ) (xs : List ℕ) (x : ℕ) → (x ≤ b) ⊎ Has xs x → x ≤ fold max b xs
max_high b [] x (inl low) = low
max_high b [] x (inr never) = absurd never
max_high b (y ∷ xs) x (inl low) = max_high (max b y) xs x (inl (let more : x ≤ max b y = omega (arith, low) in more))
max_high b (y ∷ xs) x (inr (inl same)) = max_high (max b y) xs x (inl (let more : x ≤ max b y = omega (arith, same) in more))
max_high b (y ∷ xs) x (inr (inr there)) = max_high (max b y) xs x (inr there)

used_low : (rows : List Row) (step : ℕ) → used_step_at rows step ≤ step
used_low rows step =
    max_low 0 step (filter (λ used. nat_le used step) (map (λ (row : Row). row.step.0) rows)) (omega arith)
    (λ x there. (let yes : nat_le x step ≡ true = (has_filter (λ used. nat_le used step) (map (λ (row : Row). row.step.0) rows) x there).1 in grind (arith, nat_tests, yes)))

used_high : (rows : List Row) (step : ℕ) (row : Row) → Has rows row → nat_le row.step.0 step ≡ true → row.step.0 ≤ used_step_at rows step
used_high rows step row there low =
    max_high 0 (filter (λ used. nat_le used step) (map (λ (r : Row). r.step.0) rows)) row.step.0
    (inr (into_filter (λ used. nat_le used step) (map (λ (r : Row). r.step.0) rows) row.step.0 (into_map (λ (r : Row). r.step.0) rows row there) low))

-- a row that isn't after a step isn't after the used one
pub used_by : (rows : List Row) (step : ℕ) (row : Row) → Has rows row → row.step.0 ≤ step → row.step.0 ≤ used_step_at rows step
used_by rows step row there low =
    used_high rows step row there (let yes : nat_le row.step.0 step ≡ true = grind (arith, nat_tests, low) in yes)

same_test : (rows : List Row) (step : ℕ) (row : Row) → Has rows row → nat_le row.step.0 (used_step_at rows step) ≡ nat_le row.step.0 step
same_test rows step row there = by_test (nat_le row.step.0 step) refl
  where
    by_test : (b : Bool) → nat_le row.step.0 step ≡ b → nat_le row.step.0 (used_step_at rows step) ≡ b
    by_test true e = (let high : row.step.0 ≤ used_step_at rows step = used_high rows step row there e in grind (arith, nat_tests, high))
    by_test false e = (let low : used_step_at rows step ≤ step = used_low rows step in grind (arith, nat_tests, low, e))

filter_same : (p q : Row → Bool) (xs : List Row) → ((x : Row) → Has xs x → p x ≡ q x) → filter p xs ≡ filter q xs
filter_same p q [] on = refl
filter_same p q (x ∷ xs) on =
    ap (λ (b : Bool). let l : List Row = cond b (x ∷ filter p xs) (filter p xs) in l) (on x (inl refl))
    ∙ ap (λ (k : List Row). let l : List Row = cond (q x) (x ∷ k) k in l) (filter_same p q xs (λ y there. on y (inr there)))

-- the target at the used step is that at the step
pub used_target : (rows : List Row) (x : NavId) (step : ℕ) → target_entry rows x (used_step_at rows step) ≡ target_entry rows x step
used_target rows x step =
    target_own rows x (used_step_at rows step)
    ∙ ap (λ (l : List Row). fold later_row None l) (filter_same (λ (row : Row). nat_le row.step.0 (used_step_at rows step)) (λ (row : Row). nat_le row.step.0 step) (filter (is_of x) rows) (λ row there. same_test rows step row (has_filter (is_of x) rows row there).0))
    ∙ sym (target_own rows x step)

-- ---- the removal

module _ (s : Seen) (sound : IsSound s.history) (hangs : Hangs s) (nav : NavId) where
  abbrev pub removed : History
  removed = applied s.history (changes.RemoveFrame nav)

  abbrev kept : List Row
  kept = filter (λ (row : Row). not (is_of nav row)) s.history.rows

  pub was_row : (row : Row) → Has removed.rows row → Has s.history.rows row × (not (is_of nav row) ≡ true)
  was_row row has =
      has_filter (λ (r : Row). not (is_of nav r)) s.history.rows row (has_tidied kept row has).0

  -- who is left some is another one
  pub another : (x : NavId) → has_row x removed.rows ≡ true → not (x.0 == nav.0) ≡ true
  another x has =
      let a : Passing (is_of x) removed.rows = any_has (is_of x) removed.rows has in
      ap (λ (n : NavId). not (n.0 == nav.0)) (sym (nav_is a.it.nav x a.passes)) ∙ (was_row a.it a.there).1

  same_rows : (x : NavId) → has_row x removed.rows ≡ true → filter (is_of x) removed.rows ≡ filter (is_of x) s.history.rows
  same_rows x has =
      part_of s.history.rows (forms_of s.places) s.history refl sound hangs.rows (λ (row : Row). not (is_of nav row)) x has
      ∙ filter_in (is_of x) (λ (row : Row). not (is_of nav row)) s.history.rows (λ row there its. ap (λ (n : NavId). not (n.0 == nav.0)) (nav_is row.nav x its) ∙ another x has)

  -- and keeps each of its entries
  pub row_stays : (x : NavId) (row : Row) → has_row x removed.rows ≡ true → Has s.history.rows row → row.nav ≡ x → Has removed.rows row
  row_stays x row has there navs =
      (has_filter (is_of x) removed.rows row (subst (λ (l : List Row). Has l row) (sym (same_rows x has)) (into_filter (is_of x) s.history.rows row there (ap (λ (n : NavId). n.0 == x.0) navs ∙ nat_eq_refl x.0)))).0

  pub target_at : (x : NavId) → has_row x removed.rows ≡ true → (step : ℕ) → target_entry removed.rows x step ≡ target_entry s.history.rows x step
  target_at x has step =
      target_own removed.rows x step ∙ ap (λ (l : List Row). latest l step) (same_rows x has) ∙ sym (target_own s.history.rows x step)

  -- at the current step
  pub target_now : (x : NavId) → has_row x removed.rows ≡ true → target_entry removed.rows x removed.current ≡ target_entry s.history.rows x s.history.current
  target_now x has = used_target removed.rows x s.history.current ∙ target_at x has s.history.current

  -- at the used step of a goal
  pub target_goal : (x : NavId) → has_row x removed.rows ≡ true → (goal : ℕ) → target_entry removed.rows x (used_step_at removed.rows goal) ≡ target_entry s.history.rows x (used_step_at s.history.rows goal)
  target_goal x has goal =
      used_target removed.rows x goal ∙ target_at x has goal ∙ sym (used_target s.history.rows x goal)

  -- ---- who loses one

  owned_by : (x : NavId) (place : Place) (row : Row) → place_of s x ≡ Some place → Has s.history.rows row → row.nav ≡ x → row.owner ≡ slice_get place.owners 0
  owned_by x place row found there same =
      let p : IsPlaced (forms_of s.places) row = hangs.rows.placed row there in
      let at : form_in (forms_of s.places) row.nav ≡ Some (form_of place) = ap (λ (n : NavId). form_in (forms_of s.places) n) (same ∙ sym (found_nav s.places x place found)) ∙ own_form s sound hangs x place found in
      let two : Some p.form ≡ Some (form_of place) = sym p.found ∙ at in
      let one : p.form ≡ form_of place = cc in
      p.owner ∙ ap (λ (f : Form). slice_get f.owners 0) one

  unlike : (x : NavId) (row : Row) → (x.0 == nav.0) ≡ false → row.nav ≡ x → not (is_of nav row) ≡ true
  unlike x row apart navs = ap (λ (n : NavId). not (n.0 == nav.0)) navs ∙ ap not apart

  beside_stays : (above : List NavId) (x : NavId) (place : Place) (row : Row) → place_of s x ≡ Some place → place.above ≡ above → IsChain s.places above → has_nav (x ∷ above) nav ≡ false → Has s.history.rows row → row.nav ≡ x → Has removed.rows row
  beside_stays [] x place row found up chain beside there navs = by_owner row.owner refl
    where
      in_kept : Has kept row
      in_kept =
          into_filter (λ (r : Row). not (is_of nav r)) s.history.rows row there (unlike x row (or_parts (x.0 == nav.0) false beside).0 navs)

      top : row.nav.0 ≡ 0
      top =
          ap (λ (n : NavId). n.0) (navs ∙ sym (found_nav s.places x place found)) ∙ (hangs_as s sound hangs x place found).top up

      by_owner : (o : Option StateId) → row.owner ≡ o → Has removed.rows row
      by_owner None e =
          into_tidied kept row in_kept (ap (λ (o : Option StateId). option_map_or (λ (y : StateId). has_state y (tidied kept)) o true) e)
      by_owner (Some owner) e =
          let owned : is_owned_by owner row ≡ true = ap (λ (o : Option StateId). option_map_or (λ (y : StateId). y.0 == owner.0) o false) e ∙ nat_eq_refl owner.0 in
          let own : is_of row.nav row ≡ true = nat_eq_refl row.nav.0 in
          let hung_on : hangs_on row.nav owner s.history.rows ≡ true = has_any (λ (r : Row). is_of row.nav r && is_owned_by owner r) s.history.rows row there (rw (own, owned) refl) in
          absurd (sound.rooted.top_owner row.nav owner hung_on top)
  beside_stays (parent ∷ others) x place row found up chain beside there navs =
      by_holder (find (λ (r : Row). r.state.0 == h.owner.0) s.history.rows) refl h.holder_is (λ r there_ navs_. beside_stays others parent chain.0.place r chain.0.found chain.0.above_is chain.1 parts.1 there_ navs_)
    where
      parts : ((x.0 == nav.0) ≡ false) × (has_nav (parent ∷ others) nav ≡ false)
      parts = or_parts (x.0 == nav.0) (has_nav (parent ∷ others) nav) beside

      h : IsHung s.history.rows place parent
      h = is_hung s sound hangs x place found row there (navs ∙ sym (found_nav s.places x place found)) parent others up

      in_kept : Has kept row
      in_kept = into_filter (λ (r : Row). not (is_of nav r)) s.history.rows row there (unlike x row parts.0 navs)

      owner_is : row.owner ≡ Some h.owner
      owner_is = owned_by x place row found there navs ∙ h.first

      by_holder : (o : Option Row) → find (λ (r : Row). r.state.0 == h.owner.0) s.history.rows ≡ o → holder_of h.owner s.history.rows ≡ Some parent → ((r : Row) → Has s.history.rows r → r.nav ≡ parent → Has removed.rows r) → Has removed.rows row
      by_holder None is holder more =
          let never : None ≡ Some parent = sym (ap (λ (y : Option Row). option_map (λ (r : Row). r.nav) y) is) ∙ holder in absurd cc
      by_holder (Some r) is holder more =
          let two : Some r.nav ≡ Some parent = sym (ap (λ (y : Option Row). option_map (λ (z : Row). z.nav) y) is) ∙ holder in
          let navs_ : r.nav ≡ parent = cc in
          let f = find_has (λ (z : Row). z.state.0 == h.owner.0) s.history.rows r is in
          let held : Has removed.rows r = more r f.0 navs_ in
          let entered : has_state h.owner removed.rows ≡ true = has_any (λ (z : Row). z.state.0 == h.owner.0) removed.rows r held f.1 in
          into_tidied kept row in_kept (ap (λ (o : Option StateId). option_map_or (λ (y : StateId). has_state y (tidied kept)) o true) owner_is ∙ entered)

  pub loses_below : (x : NavId) (place : Place) (row : Row) → place_of s x ≡ Some place → Has s.history.rows row → row.nav ≡ x → (Has removed.rows row → ⊥) → has_nav (x ∷ place.above) nav ≡ true
  loses_below x place row found there navs gone = by_test (has_nav (x ∷ place.above) nav) refl
    where
      by_test : (b : Bool) → has_nav (x ∷ place.above) nav ≡ b → b ≡ true
      by_test true is = refl
      by_test false is =
          absurd (gone (beside_stays place.above x place row found refl (place_chain s sound hangs x place found) is there navs))
