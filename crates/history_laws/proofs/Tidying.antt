-- Tidying a list of rows: it keeps the rows whose owner is a kept row's document state.
use Rattle.std.proofs.Common.{◌≡◌, ℕ, zero, suc, ◌<◌, ◌≤◌, Bool, true, false, not, ◌&&◌, ◌||◌, cond, List, [], ◌∷◌, length, refl, ap, sym, ◌∙◌, filter, arith, ◌⊎◌, inl, inr, Option, Some, None}
use Rattle.std.specs.List.{list_any}
use Rattle.std.specs.Option.{option_map_or, is_none}
use Rattle.std.proofs.lemmas.Bool.{cases_Bool, or_cases, and_right, false≢true, not-true, and_parts, and_from, eqb-true, eq-eqb}
use Rattle.tab_ids.specs.declared.NavId.{NavId}
use Rattle.tab_ids.specs.declared.StateId.{StateId}
use Rattle.log_model.specs.declared.row.Row.{Row}
use Rattle.log_model.specs.History.{is_of, has_state, is_anchored, tidied_once, tidied_times, tidied}
use Rattle.log_model.specs.Soundness.{is_in_state, is_owned_by, holds, hangs_on, is_free, IsRooted}
use Rattle.history_laws.proofs.Members.{or_right, witness, list_any-none, IsIn-filter_passes, IsIn-into_filter, IsIn, filter-same, filter-filter, IsIn-filter}

-- ---- it comes to an end

-- a filter keeps all, or fewer
pub filter-all_or_fewer : {A : Type 0} (p : A → Bool) (xs : List A) → (filter p xs ≡ xs) ⊎ (length (filter p xs) < length xs)
filter-all_or_fewer p [] = inl refl
filter-all_or_fewer {A} p (x ∷ xs) =
    elim (p x) as (λ b. (cond b (x ∷ filter p xs) (filter p xs) ≡ x ∷ xs) ⊎ (length (cond b (x ∷ filter p xs) (filter p xs)) < suc (length xs))) [
      | true ↦
          elim (filter-all_or_fewer p xs) [
            | inl all ↦ inl (ap (λ rest. x ∷ rest) all)
            | inr fewer ↦ inr (omega (arith, fewer))
          ]
      | false ↦
          inr (
          elim (filter-all_or_fewer p xs) [
            | inl all ↦ omega (arith, ap (length {A = A}) all)
            | inr fewer ↦ omega (arith, fewer)
          ]
          )
    ]

-- rows that a round leaves stay
pub tidied_times-same : (n : ℕ) (rows : List Row) → tidied_once rows ≡ rows → tidied_times n rows ≡ rows
tidied_times-same zero rows same = refl
tidied_times-same (suc n) rows same = rw same (tidied_times-same n rows same)

-- after as many rounds as there are rows, a further one changes nothing
pub tidied_once-tidied_times : (n : ℕ) (rows : List Row) → length rows ≤ n → tidied_once (tidied_times n rows) ≡ tidied_times n rows
tidied_once-tidied_times zero [] short = refl
tidied_once-tidied_times zero (row ∷ rows) short = absurd (omega (arith, short))
tidied_once-tidied_times (suc n) rows short =
    elim (filter-all_or_fewer (is_anchored rows) rows) [
      | inl all ↦ rw (all, tidied_times-same n rows all) all
      | inr fewer ↦ tidied_once-tidied_times n (tidied_once rows) (omega (arith, fewer, short))
    ]

pub tidied_once-tidied : (rows : List Row) → tidied_once (tidied rows) ≡ tidied rows
tidied_once-tidied rows = tidied_once-tidied_times (length rows) rows (omega arith)

-- ---- what it keeps

-- whether a row is anchored, by a test that says which document states are there
abbrev pub is_anchored_by : (StateId → Bool) → Row → Bool
is_anchored_by there row = option_map_or there row.owner true

pub IsIn-tidied_times : (n : ℕ) (rows : List Row) (row : Row) → IsIn (tidied_times n rows) row → IsIn rows row
IsIn-tidied_times zero rows row kept = kept
IsIn-tidied_times (suc n) rows row kept = IsIn-filter (is_anchored rows) rows row (IsIn-tidied_times n (tidied_once rows) row kept)

pub IsIn-tidied : (rows : List Row) (row : Row) → IsIn (tidied rows) row → IsIn rows row
IsIn-tidied rows = IsIn-tidied_times (length rows) rows

anchored_more : (owner : Option StateId) (one other : StateId → Bool) → ((state : StateId) → one state ≡ true → other state ≡ true) → (option_map_or other owner true && option_map_or one owner true) ≡ option_map_or one owner true
anchored_more None one other more = refl
anchored_more (Some state) one other more =
    elim (cases_Bool (one state)) [
      | inl is ↦ rw (is, more state is) refl
      | inr isnt ↦ rw isnt (and_right (other state) false refl)
    ]

has_state-tidied_times : (n : ℕ) (rows : List Row) (state : StateId) → has_state state (tidied_times n rows) ≡ true → has_state state rows ≡ true
has_state-tidied_times n rows state any =
    let w = witness (is_in_state state) (tidied_times n rows) any in
    IsIn-tidied_times n rows w.it w.is_in (is_in_state state) w.passes

-- the rows kept are those of the list that they anchor
pub tidied_times-filter : (n : ℕ) (rows : List Row) → tidied_once (tidied_times n rows) ≡ tidied_times n rows → tidied_times n rows ≡ filter (is_anchored (tidied_times n rows)) rows
tidied_times-filter zero rows ends = sym ends
tidied_times-filter (suc n) rows ends =
    let kept = tidied_times n (tidied_once rows) in
    tidied_times-filter n (tidied_once rows) ends
    ∙ filter-filter (is_anchored kept) (is_anchored rows) rows
    ∙ filter-same (λ row. is_anchored rows row && is_anchored kept row) (is_anchored kept) rows (λ row there. anchored_more row.owner (λ state. has_state state kept) (λ state. has_state state rows) (has_state-tidied_times (suc n) rows))

pub tidied-filter : (rows : List Row) → tidied rows ≡ filter (is_anchored (tidied rows)) rows
tidied-filter rows = tidied_times-filter (length rows) rows (tidied_once-tidied rows)

-- ---- whoever finds out which document states stay, by whatever way, finds those of the rows that tidying keeps

-- a test of document states passes exactly those of the rows that it anchors
abbrev pub IsClosed : (StateId → Bool) → List Row → Type 0
IsClosed there rows = (state : StateId) → there state ≡ has_state state (filter (is_anchored_by there) rows)

pub IsClosed-tidied : (rows : List Row) → IsClosed (λ state. has_state state (tidied rows)) rows
IsClosed-tidied rows state = ap (has_state state) (tidied-filter rows)

pub nav_same : (one other : NavId) → one.0 ≡ other.0 → one ≡ other
nav_same one other e = let same : record { 0 = one.0 } ≡ other = ap (λ (n : ℕ). let nav : NavId = record { 0 = n } in nav) e in same

pub state_same : (one other : StateId) → one.0 ≡ other.0 → one ≡ other
state_same one other e = let same : record { 0 = one.0 } ≡ other = ap (λ (n : ℕ). let state : StateId = record { 0 = n } in state) e in same

module _ (whole : List Row) (rooted : IsRooted whole) where
  pub held : (row : Row) → IsIn whole row → holds row.nav row.state whole ≡ true
  held row there = there (λ r. is_of row.nav r && is_in_state row.state r) (and_from _ _ (eq-eqb row.nav.0 row.nav.0 refl) (eq-eqb row.state.0 row.state.0 refl))

  pub hung : (row : Row) (owner : StateId) → row.owner ≡ Some owner → IsIn whole row → hangs_on row.nav owner whole ≡ true
  hung row owner is there = there (λ r. is_of row.nav r && is_owned_by owner r) (and_from _ _ (eq-eqb row.nav.0 row.nav.0 refl) (rw is (eq-eqb owner.0 owner.0 refl)))

  pub free : (row : Row) → row.owner ≡ None → IsIn whole row → is_free row.nav whole ≡ true
  free row is there = there (λ r. is_of row.nav r && is_none r.owner) (and_from _ _ (eq-eqb row.nav.0 row.nav.0 refl) (rw is refl))

  -- rows of one navigable have the same owner
  owners_of : (one other : Row) → IsIn whole one → IsIn whole other → one.nav.0 ≡ other.nav.0 → (a b : Option StateId) → one.owner ≡ a → other.owner ≡ b → a ≡ b
  owners_of one other there too navs None None a b = refl
  owners_of one other there too navs None (Some owner) a b =
      absurd (rooted.top_owner other.nav owner (hung other owner b too) (sym navs ∙ rooted.child_owner one.nav (free one a there)))
  owners_of one other there too navs (Some owner) None a b =
      absurd (rooted.top_owner one.nav owner (hung one owner a there) (navs ∙ rooted.child_owner other.nav (free other b too)))
  owners_of one other there too navs (Some owner) (Some same) a b =
      let hangs = hung one owner a there in
      let hangs_too : hangs_on one.nav same whole ≡ true = rw (nav_same one.nav other.nav navs) (hung other same b too) in
      ap (λ (state : StateId). Some state) (state_same owner same (rooted.owners one.nav owner same hangs hangs_too))

  pub owner_same : (one other : Row) → IsIn whole one → IsIn whole other → one.nav.0 ≡ other.nav.0 → one.owner ≡ other.owner
  owner_same one other there too navs = owners_of one other there too navs one.owner other.owner refl refl

  -- and rows of one document state
  pub owner_same_state : (one other : Row) → IsIn whole one → IsIn whole other → one.state.0 ≡ other.state.0 → one.owner ≡ other.owner
  owner_same_state one other there too states =
      let other_holds : holds other.nav one.state whole ≡ true = rw (state_same one.state other.state states) (held other too) in
      owner_same one other there too (rooted.states one.state one.nav other.nav (held one there) other_holds)

  module _ (rows : List Row) (part : (row : Row) → IsIn rows row → IsIn whole row) (l : StateId → Bool) (closed : IsClosed l rows) where
    -- a document state that no row has doesn't pass
    pub closed-none : (state : StateId) → has_state state rows ≡ false → l state ≡ false
    closed-none state none =
        closed state ∙ list_any-none (is_in_state state) (filter (is_anchored_by l) rows) (λ row kept.
        elim (cases_Bool (is_in_state state row)) [
          | inl is ↦ absurd (false≢true (sym none ∙ IsIn-filter (is_anchored_by l) rows row kept (is_in_state state) is))
          | inr isnt ↦ isnt
        ])

    -- one that a row has passes where a row with it is anchored
    pub closed-state : (row : Row) → IsIn whole row → has_state row.state rows ≡ true → l row.state ≡ is_anchored_by l row
    closed-state row there any = closed row.state ∙ by_anchor (is_anchored_by l row) refl
      where
        same : (other : Row) → IsIn rows other → is_in_state row.state other ≡ true → is_anchored_by l other ≡ is_anchored_by l row
        same other too is = ap (λ owner. option_map_or l owner true) (owner_same_state other row (part other too) there (eqb-true other.state.0 row.state.0 is))

        by_anchor : (b : Bool) → is_anchored_by l row ≡ b → has_state row.state (filter (is_anchored_by l) rows) ≡ b
        by_anchor true anchored =
            let w = witness (is_in_state row.state) rows any in
            IsIn-into_filter (is_anchored_by l) rows w.it w.is_in (same w.it w.is_in w.passes ∙ anchored) (is_in_state row.state) w.passes
        by_anchor false loose =
            list_any-none (is_in_state row.state) (filter (is_anchored_by l) rows) (λ other kept.
            elim (cases_Bool (is_in_state row.state other)) [
              | inl is ↦
                  let too = IsIn-filter (is_anchored_by l) rows other kept in
                  absurd (false≢true (sym loose ∙ sym (same other too is) ∙ IsIn-filter_passes (is_anchored_by l) rows other kept))
              | inr isnt ↦ isnt
            ])

agree : Bool → Bool → Bool
agree true b = b
agree false b = not b

agree-same : (a b : Bool) → agree a b ≡ true → a ≡ b
unfolding agree
agree-same true b e = sym e
agree-same false b e = sym (not-true b e)

same-agree : (a b : Bool) → a ≡ b → agree a b ≡ true
unfolding agree
same-agree true b e = sym e
same-agree false b e = ap not (sym e)

-- a test that passes at each row says so of each row
no_row_fails : (test : Row → Bool) (rows : List Row) → not (list_any (λ row. not (test row)) rows) ≡ true → (row : Row) → IsIn rows row → test row ≡ true
no_row_fails test rows none row there =
    elim (cases_Bool (test row)) [
      | inl passes ↦ passes
      | inr fails ↦ absurd (false≢true (sym (ap not (there (λ r. not (test r)) (ap not fails))) ∙ none))
    ]

each_row_passes : (test : Row → Bool) (rows : List Row) → ((row : Row) → IsIn rows row → test row ≡ true) → not (list_any (λ row. not (test row)) rows) ≡ true
each_row_passes test rows each = ap not (list_any-none (λ row. not (test row)) rows (λ row there. ap not (each row there)))

module _ (whole : List Row) (rooted : IsRooted whole) (rows : List Row) (part : (row : Row) → IsIn rows row → IsIn whole row) (l m : StateId → Bool) (closed_l : IsClosed l rows) (closed_m : IsClosed m rows) where
  same_value : (row : Row) → IsIn whole row → is_anchored_by l row ≡ is_anchored_by m row → l row.state ≡ m row.state
  same_value row there anchors =
      elim (cases_Bool (has_state row.state rows)) [
        | inl any ↦ closed-state whole rooted rows part l closed_l row there any ∙ anchors ∙ sym (closed-state whole rooted rows part m closed_m row there any)
        | inr none ↦ closed-none whole rooted rows part l closed_l row.state none ∙ sym (closed-none whole rooted rows part m closed_m row.state none)
      ]

  abbrev agrees_at : NavId → Row → Bool
  agrees_at nav row = not (is_of nav row) || agree (l row.state) (m row.state)

  abbrev agrees : NavId → Bool
  agrees nav = not (list_any (λ row. not (agrees_at nav row)) whole)

  agrees-from : (nav : NavId) → ((row : Row) → IsIn whole row → row.nav.0 ≡ nav.0 → l row.state ≡ m row.state) → agrees nav ≡ true
  agrees-from nav same =
      each_row_passes (agrees_at nav) whole (λ row there.
      elim (cases_Bool (is_of nav row)) [
        | inl mine ↦ or_right (not (is_of nav row)) (agree (l row.state) (m row.state)) (same-agree (l row.state) (m row.state) (same row there (eqb-true row.nav.0 nav.0 mine)))
        | inr others ↦ rw others refl
      ])

  agrees-at : (nav : NavId) → agrees nav ≡ true → (row : Row) → IsIn whole row → row.nav.0 ≡ nav.0 → l row.state ≡ m row.state
  agrees-at nav all row there navs =
      elim (or_cases (not (is_of nav row)) (agree (l row.state) (m row.state)) (no_row_fails (agrees_at nav) whole all row there)) [
        | inl others ↦ absurd (false≢true (sym (not-true (is_of nav row) others) ∙ eq-eqb row.nav.0 nav.0 navs))
        | inr agreed ↦ agree-same (l row.state) (m row.state) agreed
      ]

  at_top : (top : NavId) → top.0 ≡ 0 → agrees top ≡ true
  at_top top zero_is = agrees-from top (λ row there navs. same_value row there (none row there (navs ∙ zero_is) row.owner refl))
    where
      none : (row : Row) → IsIn whole row → row.nav.0 ≡ 0 → (owner : Option StateId) → row.owner ≡ owner → option_map_or l owner true ≡ option_map_or m owner true
      none row there here None is = refl
      none row there here (Some owner) is = absurd (rooted.top_owner row.nav owner (hung whole rooted row owner is there) here)

  at_child : (child parent : NavId) (owner : StateId) → hangs_on child owner whole ≡ true → holds parent owner whole ≡ true → agrees parent ≡ true → agrees child ≡ true
  at_child child parent owner hangs held_by agrees_above = agrees-from child (λ row there navs. same_value row there (by_owner row there navs row.owner refl))
    where
      above : l owner ≡ m owner
      above =
          let w = witness (λ row. is_of parent row && is_in_state owner row) whole held_by in
          let both = and_parts (is_of parent w.it) (is_in_state owner w.it) w.passes in
          rw (sym (state_same w.it.state owner (eqb-true w.it.state.0 owner.0 both.1))) (agrees-at parent agrees_above w.it w.is_in (eqb-true w.it.nav.0 parent.0 both.0))

      by_owner : (row : Row) → IsIn whole row → row.nav.0 ≡ child.0 → (mine : Option StateId) → row.owner ≡ mine → option_map_or l mine true ≡ option_map_or m mine true
      by_owner row there navs None is = refl
      by_owner row there navs (Some mine) is =
          let hangs_too : hangs_on child mine whole ≡ true = rw (sym (nav_same row.nav child navs)) (hung whole rooted row mine is there) in
          rw (state_same mine owner (rooted.owners child mine owner hangs_too hangs)) above

  -- two tests that are closed over the rows agree
  pub closed-same : (state : StateId) → l state ≡ m state
  closed-same state =
      elim (cases_Bool (has_state state rows)) [
        | inl any ↦
            let w = witness (is_in_state state) rows any in
            let there = part w.it w.is_in in
            let agreed = rooted.leads w.it.nav (there (is_of w.it.nav) (eq-eqb w.it.nav.0 w.it.nav.0 refl)) agrees at_top at_child in
            let same = agrees-at w.it.nav agreed w.it there refl in
            rw (sym (state_same w.it.state state (eqb-true w.it.state.0 state.0 w.passes))) same
        | inr none ↦ closed-none whole rooted rows part l closed_l state none ∙ sym (closed-none whole rooted rows part m closed_m state none)
      ]

  -- so what the one anchors is what the other anchors
  pub filter-closed : filter (is_anchored_by l) rows ≡ filter (is_anchored_by m) rows
  filter-closed = filter-same (is_anchored_by l) (is_anchored_by m) rows (λ row there. anchors_same row.owner)
    where
      anchors_same : (owner : Option StateId) → option_map_or l owner true ≡ option_map_or m owner true
      anchors_same None = refl
      anchors_same (Some owner) = closed-same owner

-- what a closed test anchors is what tidying keeps
pub tidied-closed : (whole : List Row) → IsRooted whole → (rows : List Row) → ((row : Row) → IsIn rows row → IsIn whole row) → (l : StateId → Bool) → IsClosed l rows → filter (is_anchored_by l) rows ≡ tidied rows
tidied-closed whole rooted rows part l closed =
    filter-closed whole rooted rows part l (λ state. has_state state (tidied rows)) closed (IsClosed-tidied rows) ∙ sym (tidied-filter rows)

-- a row that tidying keeps is anchored in what it keeps
pub tidied-anchored : (rows : List Row) (row : Row) → IsIn (tidied rows) row → is_anchored (tidied rows) row ≡ true
tidied-anchored rows row kept =
    let kept_by_filter : IsIn (filter (is_anchored (tidied rows)) rows) row = λ test passes. ap (list_any test) (sym (tidied-filter rows)) ∙ kept test passes in
    IsIn-filter_passes (is_anchored (tidied rows)) rows row kept_by_filter

pub IsIn-into_tidied : (rows : List Row) (row : Row) → IsIn rows row → is_anchored (tidied rows) row ≡ true → IsIn (tidied rows) row
IsIn-into_tidied rows row there anchored test passes =
    ap (list_any test) (tidied-filter rows) ∙ IsIn-into_filter (is_anchored (tidied rows)) rows row there anchored test passes
