-- A push in the lists: what is left is what the definition leaves, and the entry's place among the rows is of no matter.
use Rattle.std.proofs.Common.{◌≡◌, ℕ, Bool, true, false, ◌&&◌, ◌||◌, cond, List, [], ◌∷◌, ◌++◌, refl, ap, sym, ◌∙◌, ◌+◌, ◌<◌, arith, filter, find, inl, inr, Option, Some, None, subst, length}
use Rattle.std.specs.Prelude.{nat_le, option_and_then}
use Rattle.std.specs.List.{list_any}
use Rattle.std.specs.Option.{option_map, option_map_or}
use Rattle.std.proofs.lemmas.Bool.{cases_Bool, or_cases, false≢true, and_parts, and_from, eqb-true, eq-eqb, lt-leb}
use Rattle.std.proofs.lemmas.List.Elements.{filter-append}
use Rattle.std.proofs.lemmas.List.Folds.{list_any-append}
use Rattle.std.proofs.lemmas.Option.{none-some}
use Rattle.tab_ids.specs.declared.NavId.{NavId}
use Rattle.tab_ids.specs.declared.StateId.{StateId}
use Rattle.tab_ids.specs.declared.EntryId.{EntryId}
use Rattle.log_model.specs.declared.row.Row.{Row}
use Rattle.log_model.specs.History.{History, same_entry, is_of, has_row, owner_of, cleared, pushed, used_steps, with_step}
use Rattle.log_model.specs.Order.{ordered, SameHistory}
use Rattle.log_model.specs.Soundness.{is_entry, IsSound}
use Rattle.history_laws.proofs.Members.{or_right, or_none, IsIn, witness, filter-same, find-filter, found, found_none, some_same, list_any-none, none_passes}
use Rattle.history_laws.proofs.Ordered.{ordered-insert}
use Rattle.history_laws.proofs.UsedSteps.{used_steps-insert}
use Rattle.history_laws.proofs.OneMore.{AddsRow, AddsRow-insert}
use Rattle.history_laws.proofs.Push.{up_to, cleared-up_to, cleared-part, IsSound-pushed}
use Rattle.entry_store.specs.declared.cut.Cut.{Cut}
use Rattle.entry_store.specs.declared.cut.Cut.TheVariants.{Forward}
use Rattle.log_model.specs.declared.change.Change.TheVariants.{Push}
use Rattle.entry_store.specs.declared.nest.Nest.{Nest}
use Rattle.entry_store.specs.declared.nested.Nested.{Nested}
use Rattle.entry_store.specs.Store.{MayTake}
use Rattle.entry_store.specs.Nested.{rows_of, outlives, has, is_held_by, stays, AreHeld}
use Rattle.entry_store.specs.Kept.{history_in, PutsRow, IsKept, IsPushPlan}
use Rattle.entry_store.proofs.Left.{stays-tidied}

or_false : (b : Bool) → (b || false) ≡ b
or_false true = refl
or_false false = refl

-- the row whose owner was asked for
pub record HasOwner (search : Option Row) (owner : Option StateId) : Type 0 where
  pub it : Row
  pub is : search ≡ Some it
  pub owner_is : owner ≡ it.owner

pub has_owner : (search : Option Row) (owner : Option StateId) → Some owner ≡ option_map (λ (row : Row). row.owner) search → HasOwner search owner
has_owner None owner is = absurd (none-some owner (sym is))
has_owner (Some row) owner is = record { it = row; is = refl; owner_is = some_same owner row.owner is }

pub has_none : (search : Option Row) → None ≡ option_map (λ (row : Row). row.owner) search → search ≡ None
has_none None is = refl
has_none (Some row) is = absurd (none-some row.owner is)

-- the row that a push adds
abbrev pub pushed_row : ℕ → Option StateId → NavId → EntryId → StateId → List ℕ → Option (List ℕ) → Row
pushed_row current owner nav entry state address memo =
    record { owner = owner; nav = nav; entry = entry; step = record { 0 = current + 1 }; state = state; address = address; memo = memo }

-- a history of these rows
abbrev pub with_rows : History → List Row → ℕ → History
with_rows history rows current = record { rows = rows; current = current; added = history.added }

-- a row of the navigable among those that a push leaves, and the owner that the navigable's entries have there
pub record IsPlaced (history : History) (nav : NavId) (owner : Option StateId) : Type 0 where
  pub it : Row
  pub is_in : IsIn (cleared history) it
  pub is_of : it.nav.0 ≡ nav.0
  pub owner_is : owner ≡ it.owner
  pub owner_of_is : owner_of nav (cleared history) ≡ owner

-- the rows that a push leaves, and its own among them
module _ (history : History) (used : List ℕ) (kept : IsKept history used) (room : history.current < 4294967294) (nav : NavId) (entry : EntryId) (state : StateId) (address : List ℕ) (memo : Option (List ℕ)) (may : MayTake history (Push nav entry state address memo)) (owner : Option StateId) (p : IsPlaced history nav owner) (new : List Row) (puts : PutsRow (cleared history) (pushed_row history.current owner nav entry state address memo) new) where
  abbrev row : Row
  row = pushed_row history.current owner nav entry state address memo

  adds : AddsRow (cleared history) row new
  adds =
      subst (λ (rows : List Row). AddsRow rows row new) (sym puts.was)
      (subst (λ (rows : List Row). AddsRow (puts.front ++ puts.back) row rows) (sym puts.is) (AddsRow-insert puts.front puts.back row))

  pub push_fits : has_row nav (cleared history) ≡ true
  push_fits = p.is_in (is_of nav) (eq-eqb p.it.nav.0 nav.0 p.is_of)

  pub push_same : SameHistory (with_rows history new (history.current + 1)) (pushed history nav entry state address memo)
  push_same = record {
    rows =
        ap ordered puts.is
        ∙ ordered-insert puts.front puts.back row (λ other there navs steps. omega (arith, steps, cleared-up_to history other (in_cleared other there)))
        ∙ ap (λ rows. ordered (rows ++ row ∷ [])) (sym puts.was)
        ∙ ap (λ (o : Option StateId). ordered (cleared history ++ pushed_row history.current o nav entry state address memo ∷ [])) (sym p.owner_of_is);
    current = refl;
    added = refl;
  }
    where
      in_cleared : (other : Row) → IsIn puts.back other → IsIn (cleared history) other
      in_cleared other there test passes =
          ap (list_any test) puts.was ∙ list_any-append test puts.front puts.back ∙ or_right (list_any test puts.front) (list_any test puts.back) (there test passes)

  pub push_kept : (beside : List ℕ) → beside ≡ with_step (history.current + 1) (used_steps (cleared history)) → IsKept (with_rows history new (history.current + 1)) beside
  push_kept beside is = record {
    sound =
        IsSound-pushed history row new (history.current + 1) history.added kept.sound adds
        (record { it = p.it; is_in = p.is_in; nav = sym p.is_of; owner = p.owner_is })
        (omega arith) may.0 may.1;
    added = λ child has is_child.
        elim (or_cases (is_of child row) (has_row child (cleared history)) (sym (adds.any (is_of child)) ∙ has)) [
          | inl here ↦ kept.added child (cleared-part history p.it p.is_in (is_of child) (eq-eqb p.it.nav.0 child.0 (p.is_of ∙ eqb-true nav.0 child.0 here))) is_child
          | inr there ↦
              let w = witness (is_of child) (cleared history) there in
              kept.added child (cleared-part history w.it w.is_in (is_of child) w.passes) is_child
        ];
    used =
        is ∙ ap (λ rows. with_step (history.current + 1) (used_steps rows)) puts.was
        ∙ sym (used_steps-insert puts.front puts.back row)
        ∙ ap used_steps (sym puts.is);
    below =
        adds.any (λ (r : Row). nat_le 4294967295 r.step.0)
        ∙ or_none _ _ (lt-leb 4294967295 (history.current + 1) (omega (arith, room)))
        (list_any-none (λ (r : Row). nat_le 4294967295 r.step.0) (cleared history) (λ r there. none_passes (λ (x : Row). nat_le 4294967295 x.step.0) history.rows kept.below r (cleared-part history r there)));
  }

-- the rows that stay after the cut
module _ (history : History) (sound : IsSound history) (entry : EntryId) (entry_is_new : list_any (is_entry entry) history.rows ≡ false) (states : List StateId) where
  abbrev pub cut_of : Cut
  cut_of = Forward (record { 0 = history.current }) entry

  -- the cut is the forward session history, since no row has the new entry
  outlives-old : (row : Row) → IsIn history.rows row → outlives cut_of row ≡ nat_le row.step.0 history.current
  outlives-old row there =
      elim (cases_Bool (same_entry row.entry entry)) [
        | inl same ↦ absurd (false≢true (sym entry_is_new ∙ there (is_entry entry) same))
        | inr other ↦ ap (λ b. nat_le row.step.0 history.current || b) other ∙ or_false (nat_le row.step.0 history.current)
      ]

  left-same : filter (outlives cut_of) history.rows ≡ up_to history.current history.rows
  left-same = filter-same (outlives cut_of) (λ row. nat_le row.step.0 history.current) history.rows outlives-old

  module _ (held : AreHeld states (filter (outlives cut_of) history.rows)) where
    -- what stays is what the definition leaves
    pub stays-cleared : filter (stays cut_of states) history.rows ≡ cleared history
    stays-cleared = rw left-same at (stays-tidied history.rows sound.rooted cut_of states held)

    searched : (nav : NavId) → find (is_of nav) (cleared history) ≡ find (λ row. is_of nav row && stays cut_of states row) history.rows
    searched nav = ap (find (is_of nav)) (sym stays-cleared) ∙ find-filter (is_of nav) (stays cut_of states) history.rows

    pub none_left : (nav : NavId) → None ≡ option_map (λ (row : Row). row.owner) (find (λ row. is_of nav row && stays cut_of states row) history.rows) → has_row nav (cleared history) ≡ false
    none_left nav none = found_none (is_of nav) (cleared history) (searched nav ∙ has_none _ none)

    module _ (nav : NavId) (owner : Option StateId) (is : Some owner ≡ option_map (λ (row : Row). row.owner) (find (λ row. is_of nav row && stays cut_of states row) history.rows)) where
      it : HasOwner (find (λ row. is_of nav row && stays cut_of states row) history.rows) owner
      it = has_owner _ owner is

      here : (is_of nav it.it ≡ true) × (stays cut_of states it.it ≡ true)
      here =
          and_parts (is_of nav it.it) (stays cut_of states it.it) (found (λ row. is_of nav row && stays cut_of states row) history.rows it.it it.is).passes

      pub placed : IsPlaced history nav owner
      placed = record {
        it = it.it;
        is_in = (found (is_of nav) (cleared history) it.it (searched nav ∙ it.is)).is_in;
        is_of = eqb-true it.it.nav.0 nav.0 here.0;
        owner_is = it.owner_is;
        owner_of_is = ap (λ (row : Option Row). option_and_then (λ (r : Row). r.owner) row) (searched nav ∙ it.is) ∙ sym it.owner_is;
      }

      -- the pushed row stays, too
      pushed-stays : (state : StateId) (address : List ℕ) (memo : Option (List ℕ)) → stays cut_of states (pushed_row history.current owner nav entry state address memo) ≡ true
      pushed-stays state address memo =
          let held_is = (and_parts (outlives cut_of it.it) (is_held_by states it.it) here.1).1 in
          and_from _ _
          (or_right (nat_le (history.current + 1) history.current) (same_entry entry entry) (and_from _ _ (eq-eqb entry.maker entry.maker refl) (eq-eqb entry.nr entry.nr refl)))
          (ap (λ (o : Option StateId). option_map_or (has states) o true) it.owner_is ∙ held_is)

      pub swept_puts : (state : StateId) (address : List ℕ) (memo : Option (List ℕ)) (put swept : List Row)
          → PutsRow history.rows (pushed_row history.current owner nav entry state address memo) put
          → swept ≡ filter (stays cut_of states) put
          → PutsRow (cleared history) (pushed_row history.current owner nav entry state address memo) swept
      swept_puts state address memo put swept puts swept_is =
          let row : Row = pushed_row history.current owner nav entry state address memo in
          let front = filter (stays cut_of states) puts.front in
          let back = filter (stays cut_of states) puts.back in
          record {
            front = front;
            back = back;
            was = sym stays-cleared ∙ ap (filter (stays cut_of states)) puts.was ∙ filter-append (stays cut_of states) puts.front puts.back;
            is =
                swept_is ∙ ap (filter (stays cut_of states)) puts.is ∙ filter-append (stays cut_of states) puts.front (row ∷ puts.back)
                ∙ ap (λ b. front ++ cond b (row ∷ back) back) (pushed-stays state address memo);
          }

-- the same, of a plan for these lists
module _ (lists : Nested) (kept : IsKept (history_in lists) lists.used.keys) (room : lists.current.0 < 4294967294) (nav : NavId) (entry : EntryId) (state : StateId) (address : List ℕ) (memo : Option (List ℕ)) (may : MayTake (history_in lists) (Push nav entry state address memo)) (at : ℕ) (row : Row) (states : List StateId) (beside : List ℕ) (plan : IsPushPlan lists nav entry state address memo at row states beside) (put swept : List Row) (puts : PutsRow (rows_of lists.nests.items) row put) (swept_is : swept ≡ filter (stays (Forward lists.current entry) states) put) where
  abbrev history : History
  history = history_in lists

  placed_is : IsPlaced history nav plan.owner
  placed_is = placed history kept.sound entry may.0 states plan.held nav plan.owner plan.found

  puts_is : PutsRow (cleared history) (pushed_row lists.current.0 plan.owner nav entry state address memo) swept
  puts_is =
      swept_puts history kept.sound entry may.0 states plan.held nav plan.owner plan.found state address memo put swept
      (subst (λ (r : Row). PutsRow (rows_of lists.nests.items) r put) plan.is puts) swept_is

  pub planned_fits : has_row nav (cleared history) ≡ true
  planned_fits = push_fits history lists.used.keys kept room nav entry state address memo may plan.owner placed_is swept puts_is

  pub planned_same : SameHistory (with_rows history swept (lists.current.0 + 1)) (pushed history nav entry state address memo)
  planned_same = push_same history lists.used.keys kept room nav entry state address memo may plan.owner placed_is swept puts_is

  pub planned_kept : IsKept (with_rows history swept (lists.current.0 + 1)) beside
  planned_kept =
      push_kept history lists.used.keys kept room nav entry state address memo may plan.owner placed_is swept puts_is beside
      (plan.steps ∙ ap (λ rows. with_step (lists.current.0 + 1) (used_steps rows)) (stays-cleared history kept.sound entry may.0 states plan.held))

-- a plan, made of what was found in the lists
module _ (lists : Nested) (nav : NavId) (entry : EntryId) (one two : List Nest) (one_is : one ≡ lists.nests.items) (two_is : two ≡ lists.nests.items) (left : List StateId) (held : AreHeld left (filter (outlives (Forward lists.current entry)) (rows_of one))) where
  left_held : AreHeld left (filter (outlives (Forward lists.current entry)) (rows_of lists.nests.items))
  left_held = subst (λ (nests : List Nest). AreHeld left (filter (outlives (Forward lists.current entry)) (rows_of nests))) one_is held

  pub planned_none : IsSound (history_in lists) → list_any (is_entry entry) (rows_of lists.nests.items) ≡ false
      → None ≡ option_map (λ (r : Row). r.owner) (find (λ r. is_of nav r && stays (Forward lists.current entry) left r) (rows_of two))
      → has_row nav (cleared (history_in lists)) ≡ false
  planned_none sound entry_is_new none =
      none_left (history_in lists) sound entry entry_is_new left left_held nav
      (subst (λ (nests : List Nest). None ≡ option_map (λ (r : Row). r.owner) (find (λ r. is_of nav r && stays (Forward lists.current entry) left r) (rows_of nests))) two_is none)

  pub planned : (state : StateId) (address : List ℕ) (memo : Option (List ℕ)) (at : ℕ) (row : Row) (owner : Option StateId) (states : List StateId) (steps beside : List ℕ)
      → steps ≡ used_steps (filter (stays (Forward lists.current entry) left) (rows_of one))
      → at < length two
      → Some owner ≡ option_map (λ (r : Row). r.owner) (find (λ r. is_of nav r && stays (Forward lists.current entry) left r) (rows_of two))
      → row ≡ pushed_row lists.current.0 owner nav entry state address memo
      → states ≡ left
      → beside ≡ with_step (lists.current.0 + 1) steps
      → IsPushPlan lists nav entry state address memo at row states beside
  planned state address memo at row owner states steps beside steps_are within found_is is same beside_is =
      subst (λ (s : List StateId). IsPushPlan lists nav entry state address memo at row s beside) (sym same) (record {
        owner = owner;
        within = subst (λ (nests : List Nest). at < length nests) two_is within;
        held = left_held;
        found = subst (λ (nests : List Nest). Some owner ≡ option_map (λ (r : Row). r.owner) (find (λ r. is_of nav r && stays (Forward lists.current entry) left r) (rows_of nests))) two_is found_is;
        is = is;
        steps = beside_is ∙ ap (with_step (lists.current.0 + 1)) (steps_are ∙ ap (λ (nests : List Nest). used_steps (filter (stays (Forward lists.current entry) left) (rows_of nests))) one_is);
      })
