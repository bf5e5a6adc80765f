-- An entry takes another's place, of the same document state: each row becomes one of the same navigable, owner, step and document state, and none goes.
use Rattle.seen_facts.proofs.Hang.Forms.{nav_is}
use Rattle.seen_facts.proofs.Hang.Members.{has_any, has_map}
use Rattle.seen_facts.specs.Hang.Members.{Has}
use Rattle.history_laws.proofs.Tidying.{tidied_times-same}
use Rattle.log_model.proofs.Refl.{nat_eq_refl}
use Rattle.log_model.specs.History.{History, applied, has_state, is_anchored, is_of, replaced_row, same_entry, tidied}
use Rattle.log_model.specs.Soundness.{IsSound, hangs_on, is_owned_by}
use Rattle.log_model.specs.declared.row.Row.{Row}
use Rattle.std.proofs.Common.{Bool, List, None, Option, Some, [], ap, cond, false, inl, inr, length, map, refl, sym, true, ℕ, ◌&&◌, ◌==◌, ◌∙◌, ◌∷◌, ◌≡◌}
use Rattle.std.specs.Option.{option_map_or}
use Rattle.std.specs.Prelude.{filter}
use Rattle.tab_ids.specs.declared.EntryId.{EntryId}
use Rattle.tab_ids.specs.declared.NavId.{NavId}
use Rattle.tab_ids.specs.declared.StateId.{StateId}
use Rattle.tab_takes.proofs.Mapped.{has_state_map}
use Rattle.log_model.specs.declared.change.Change.TheVariants as changes

-- where each passes
filter_whole : {A : Type 0} (test : A → Bool) (xs : List A) → ((x : A) → Has xs x → test x ≡ true) → filter test xs ≡ xs
filter_whole test [] each = refl
filter_whole test (x ∷ xs) each = rw (each x (inl refl)) (ap (λ (l : List _). x ∷ l) (filter_whole test xs (λ y there. each y (inr there))))

map_alike : {A : Type 0} (f g : A → A) (xs : List A) → ((x : A) → Has xs x → f x ≡ g x) → map f xs ≡ map g xs
map_alike f g [] each = refl
map_alike f g (x ∷ xs) each = rw (each x (inl refl)) (ap (λ (l : List _). g x ∷ l) (map_alike f g xs (λ y there. each y (inr there))))

-- the row, with another entry if it is the one in whose place that comes
abbrev pub swap : NavId → EntryId → EntryId → List ℕ → Option (List ℕ) → Row → Row
swap nav over entry address memo row =
    let its : Row = record row { entry = entry; address = address; memo = memo } in
    cond (same_entry row.entry over && is_of nav row) its row

module _ (nav : NavId) (over entry : EntryId) (address : List ℕ) (memo : Option (List ℕ)) where
  read_same : {B : Type 0} (read : Row → B) → ((row : Row) → read (record row { entry = entry; address = address; memo = memo }) ≡ read row) → (row : Row) → read (swap nav over entry address memo row) ≡ read row
  read_same {B} read blind row = by_test (same_entry row.entry over && is_of nav row)
    where
      by_test : (b : Bool) → read (let its : Row = record row { entry = entry; address = address; memo = memo } in cond b its row) ≡ read row
      by_test true = blind row
      by_test false = refl

  pub nav_same : (row : Row) → (swap nav over entry address memo row).nav ≡ row.nav
  nav_same = read_same (λ (row : Row). row.nav) (λ row. refl)

  pub owner_same : (row : Row) → (swap nav over entry address memo row).owner ≡ row.owner
  owner_same = read_same (λ (row : Row). row.owner) (λ row. refl)

  pub step_same : (row : Row) → (swap nav over entry address memo row).step ≡ row.step
  step_same = read_same (λ (row : Row). row.step) (λ row. refl)

  pub state_same : (row : Row) → (swap nav over entry address memo row).state ≡ row.state
  state_same = read_same (λ (row : Row). row.state) (λ row. refl)

  module _ (history : History) (sound : IsSound history) (state : StateId) (of_state : (row : Row) → Has history.rows row → same_entry row.entry over ≡ true → is_of nav row ≡ true → row.state ≡ state) where
    abbrev put : Row
    put = record { owner = None; nav = nav; entry = entry; step = record { 0 = 0 }; state = state; address = address; memo = memo }

    -- so it is read of the change
    alike : (row : Row) → Has history.rows row → replaced_row over put row ≡ swap nav over entry address memo row
    alike row there = by_tests (same_entry row.entry over) (is_of nav row) refl refl
      where
        whole : is_of nav row ≡ true → row.nav ≡ nav
        whole its = nav_is row.nav nav its

        by_tests : (a b : Bool) → same_entry row.entry over ≡ a → is_of nav row ≡ b → (let x : Row = cond (a && b) (record put { owner = row.owner; step = row.step }) row in x) ≡ (let its : Row = record row { entry = entry; address = address; memo = memo } in cond (a && b) its row)
        by_tests true true one two =
            let states : state ≡ row.state = sym (of_state row there one two) in
            let navs : nav ≡ row.nav = sym (whole two) in
            ap (λ (m : NavId). let x : Row = record { owner = row.owner; nav = m; entry = entry; step = row.step; state = state; address = address; memo = memo } in x) navs
            ∙ ap (λ (x : StateId). let y : Row = record { owner = row.owner; nav = row.nav; entry = entry; step = row.step; state = x; address = address; memo = memo } in y) states
        by_tests true false one two = refl
        by_tests false b one two = refl

    abbrev swapped : List Row
    swapped = map (swap nav over entry address memo) history.rows

    anchored : (row : Row) → Has swapped row → is_anchored swapped row ≡ true
    anchored row there = by_owner row.owner refl
      where
        by_owner : (o : Option StateId) → row.owner ≡ o → is_anchored swapped row ≡ true
        by_owner None is = ap (λ (o : Option StateId). option_map_or (λ (owner : StateId). has_state owner swapped) o true) is
        by_owner (Some owner) is =
            let w = has_map (swap nav over entry address memo) history.rows row there in
            let own : w.it.owner ≡ Some owner = sym (owner_same w.it) ∙ ap (λ (r : Row). r.owner) w.is ∙ is in
            let owned : is_owned_by owner w.it ≡ true = ap (λ (o : Option StateId). option_map_or (λ (x : StateId). x.0 == owner.0) o false) own ∙ nat_eq_refl owner.0 in
            let itself : is_of w.it.nav w.it ≡ true = nat_eq_refl w.it.nav.0 in
            let hung : hangs_on w.it.nav owner history.rows ≡ true = has_any (λ (r : Row). is_of w.it.nav r && is_owned_by owner r) history.rows w.it w.there (rw (itself, owned) refl) in
            ap (λ (o : Option StateId). option_map_or (λ (x : StateId). has_state x swapped) o true) is
            ∙ has_state_map (swap nav over entry address memo) nav_same owner_same step_same state_same owner history.rows
            ∙ sound.anchored w.it.nav owner hung

    pub rows_then : (applied history (changes.Replace nav over entry state address memo)).rows ≡ map (swap nav over entry address memo) history.rows
    rows_then =
        ap tidied (map_alike (replaced_row over put) (swap nav over entry address memo) history.rows alike)
        ∙ tidied_times-same (length swapped) swapped (filter_whole (is_anchored swapped) swapped anchored)
