-- How many rows stand at a step or hang on a document state, as rows come and go.
use Rattle.std.proofs.Common.{◌≡◌, ℕ, zero, suc, ◌+◌, ◌-◌, ◌<◌, ◌≤◌, Bool, true, false, not, ◌||◌, cond, List, [], ◌∷◌, ◌++◌, length, refl, ap, sym, ◌∙◌, filter, take, get_or, add-one, subst, arith, inl, inr, Option, Some, None}
use Rattle.std.specs.Prelude.{◌==◌, nat_lt}
use Rattle.std.specs.List.{list_any, count_by}
use Rattle.std.specs.Option.{option_map_or}
use Rattle.std.specs.Map.{lookup}
use Rattle.std.proofs.Math.Seq.{take-suc}
use Rattle.std.proofs.lemmas.Bool.{cases_Bool, false≢true, eqb-true, lt-ltb}
use Rattle.std.proofs.lemmas.List.{append-nil}
use Rattle.std.proofs.lemmas.List.Sums.{sum_by-cons, sum_by-append}
use Rattle.tab_ids.specs.declared.EntryId.{EntryId}
use Rattle.tab_ids.specs.declared.StateId.{StateId}
use Rattle.tab_ids.specs.declared.Step.{Step}
use Rattle.log_model.specs.declared.row.Row.{Row}
use Rattle.log_model.specs.Soundness.{is_entry}
use Rattle.history_laws.proofs.Members.{IsIn}
use Rattle.history_laws.proofs.OneMore.{AddsRow-insert}
use Rattle.history_laws.proofs.Replace.{list_any-zero}
use Rattle.history_laws.proofs.Tidying.{state_same}
use Rattle.entry_store.specs.Kept.{PutsRow}
use Rattle.step_index.specs.declared.groups.Group.{Group}
use Rattle.step_index.specs.declared.groups.Group.TheVariants.{At, On}
use Rattle.step_index.specs.contracts.groups.GroupPartialEq.TheImpl as group_eq
use Rattle.step_index.specs.declared.noted.Place.{Place}
use Rattle.step_index.specs.Groups.{same_group, is_in, count_of, AreCounted, CountsRow, CountsLess}
use Rattle.step_index.specs.Noted.{AreNoted}
use Rattle.step_index.specs.Cut.{NotesLess}
use Rattle.step_index.proofs.Noting.{same_entry-refl}
use Rattle.step_index.proofs.Cutting.{left_noted}

-- ---- groups

step_same : (one other : Step) → one.0 ≡ other.0 → one ≡ other
step_same one other e = let same : record { 0 = one.0 } ≡ other = ap (λ (n : ℕ). let step : Step = record { 0 = n } in step) e in same

group_same : (one other : Group) → same_group one other ≡ true → one ≡ other
group_same (At one) (At other) same = ap (λ (s : Step). At s) (step_same one other (eqb-true one.0 other.0 same))
group_same (At one) (On other) same = absurd (false≢true same)
group_same (On one) (At other) same = absurd (false≢true same)
group_same (On one) (On other) same = ap (λ (s : StateId). On s) (state_same one other (eqb-true one.0 other.0 same))

-- ---- one count

-- the map's own test is this one
key_is : (one other : Group) → (group_eq.ghosts).eq one other ≡ same_group one other
key_is (At one) (At other) = refl
key_is (At one) (On other) = refl
key_is (On one) (At other) = refl
key_is (On one) (On other) = refl

key_found : (group : Group) (counts : List (Group × ℕ)) → lookup ((group_eq.ghosts).eq group) counts ≡ lookup (same_group group) counts
key_found group [] = refl
key_found group (count ∷ counts) =
    ap (λ b. cond b (Some count.1) (lookup ((group_eq.ghosts).eq group) counts)) (key_is group count.0)
    ∙ ap (λ rest. cond (same_group group count.0) (Some count.1) rest) (key_found group counts)

module _ (old new : List (Group × ℕ)) (group : Group) where
  is_put : (there : Option ℕ) → ((other : Group) → lookup ((group_eq.ghosts).eq other) new ≡ cond ((group_eq.ghosts).eq group other) there (lookup ((group_eq.ghosts).eq other) old)) → (other : Group) → lookup (same_group other) new ≡ cond (same_group group other) there (lookup (same_group other) old)
  is_put there put other =
      sym (key_found other new) ∙ put other
      ∙ ap (λ b. cond b there (lookup ((group_eq.ghosts).eq other) old)) (key_is group other)
      ∙ ap (λ rest. cond (same_group group other) there rest) (key_found other old)

  pub count_put : (count : ℕ) → ((other : Group) → lookup ((group_eq.ghosts).eq other) new ≡ cond ((group_eq.ghosts).eq group other) (Some count) (lookup ((group_eq.ghosts).eq other) old)) → (other : Group) → count_of other new ≡ cond (same_group group other) count (count_of other old)
  count_put count put other = ap (λ (n : Option ℕ). option_map_or (λ m. m) n 0) (is_put (Some count) put other) ∙ by_test (same_group group other)
    where
      by_test : (b : Bool) → option_map_or (λ m. m) (cond b (Some count) (lookup (same_group other) old)) 0 ≡ cond b count (count_of other old)
      by_test true = refl
      by_test false = refl

  pub count_taken : ((other : Group) → lookup ((group_eq.ghosts).eq other) new ≡ cond ((group_eq.ghosts).eq group other) None (lookup ((group_eq.ghosts).eq other) old)) → (other : Group) → count_of other new ≡ cond (same_group group other) 0 (count_of other old)
  count_taken taken other = ap (λ (n : Option ℕ). option_map_or (λ m. m) n 0) (is_put None taken other) ∙ by_test (same_group group other)
    where
      by_test : (b : Bool) → option_map_or (λ m. m) (cond b None (lookup (same_group other) old)) 0 ≡ cond b 0 (count_of other old)
      by_test true = refl
      by_test false = refl

  pub one_more : (count : ℕ) → count ≡ count_of group old + 1 → ((other : Group) → count_of other new ≡ cond (same_group group other) count (count_of other old)) → (other : Group) → count_of other new ≡ count_of other old + cond (same_group group other) 1 0
  one_more count is put other = put other ∙ by_test (same_group group other) refl
    where
      by_test : (b : Bool) → same_group group other ≡ b → cond b count (count_of other old) ≡ count_of other old + cond b 1 0
      by_test true same = is ∙ ap (λ (g : Group). count_of g old + 1) (group_same group other same)
      by_test false apart = omega arith

  pub one_less : (count : ℕ) → count ≡ count_of group old - 1 → ((other : Group) → count_of other new ≡ cond (same_group group other) count (count_of other old)) → (other : Group) → count_of other new ≡ count_of other old - cond (same_group group other) 1 0
  one_less count is put other = put other ∙ by_test (same_group group other) refl
    where
      by_test : (b : Bool) → same_group group other ≡ b → cond b count (count_of other old) ≡ count_of other old - cond b 1 0
      by_test true same = is ∙ ap (λ (g : Group). count_of g old - 1) (group_same group other same)
      by_test false apart = omega arith

-- ---- counts

-- of those that pass a test, and of the others
pub count_split : (p q : Row → Bool) (xs : List Row) → count_by p (filter q xs) + count_by p (filter (λ x. not (q x)) xs) ≡ count_by p xs
count_split p q [] = refl
count_split p q (x ∷ xs) =
    elim (q x) as (λ b. count_by p (cond b (x ∷ filter q xs) (filter q xs)) + count_by p (cond (not b) (x ∷ filter (λ y. not (q y)) xs) (filter (λ y. not (q y)) xs)) ≡ count_by p (x ∷ xs)) [
      | true ↦ omega (arith, count_split p q xs, sum_by-cons (λ y. cond (p y) 1 0) x (filter q xs), sum_by-cons (λ y. cond (p y) 1 0) x xs)
      | false ↦ omega (arith, count_split p q xs, sum_by-cons (λ y. cond (p y) 1 0) x (filter (λ y. not (q y)) xs), sum_by-cons (λ y. cond (p y) 1 0) x xs)
    ]

-- some are counted where one passes
pub any_counted : (p : Row → Bool) (xs : List Row) → nat_lt 0 (count_by p xs) ≡ list_any p xs
any_counted p [] = refl
any_counted p (x ∷ xs) =
    ap (nat_lt 0) (sum_by-cons (λ y. cond (p y) 1 0) x xs)
    ∙ elim (p x) as (λ b. nat_lt 0 (cond b 1 0 + count_by p xs) ≡ (b || list_any p xs)) [
      | true ↦ lt-ltb 0 (1 + count_by p xs) (omega arith)
      | false ↦ ap (nat_lt 0) (nothing (count_by p xs)) ∙ any_counted p xs
    ]
  where
    nothing : (n : ℕ) → 0 + n ≡ n
    nothing n = omega arith

pub counted : (p : Row → Bool) (xs : List Row) → list_any p xs ≡ true → 0 < count_by p xs
counted p xs any = by_count (count_by p xs) refl
  where
    by_count : (n : ℕ) → count_by p xs ≡ n → 0 < count_by p xs
    by_count zero none = absurd (false≢true (sym (list_any-zero p xs none) ∙ any))
    by_count (suc n) some = omega (arith, some)

-- ---- rows come

pub none_counted : AreCounted [] []
none_counted group = refl

pub more_counted : (old new : List (Group × ℕ)) (rows more : List Row) (row : Row) → PutsRow rows row more → CountsRow old row.step row.owner new → AreCounted old rows → AreCounted new more
more_counted old new rows more row puts one are group =
    one group
    ∙ ap (λ n. n + cond (is_in group row) 1 0) (are group ∙ ap (count_by (is_in group)) puts.was)
    ∙ turned (count_by (is_in group) (puts.front ++ puts.back)) (cond (is_in group row) 1 0)
    ∙ sym ((AddsRow-insert puts.front puts.back row).count (is_in group))
    ∙ ap (count_by (is_in group)) (sym puts.is)
  where
    turned : (a b : ℕ) → a + b ≡ b + a
    turned a b = omega arith

pub next_counted : (old new : List (Group × ℕ)) (rows : List Row) (i : ℕ) (row : Row) → i < length rows → row ≡ get_or rows i row → CountsRow old row.step row.owner new → AreCounted old (take i rows) → AreCounted new (take (i + 1) rows)
next_counted old new rows i row within item one are =
    rw add-one (
    subst (λ (r : List Row). AreCounted new r) (sym (take-suc rows i row within ∙ ap (λ (r : Row). take i rows ++ r ∷ []) (sym item)))
    (more_counted old new (take i rows) (take i rows ++ row ∷ []) row (record { front = take i rows; back = []; was = sym (append-nil (take i rows)); is = refl }) one are))

-- where others went since it was counted
pub pushed_counted : (old between new : List (Group × ℕ)) (rows gone left more : List Row) (row : Row) → ((test : Row → Bool) → count_by test left + count_by test gone ≡ count_by test rows) → CountsRow old row.step row.owner between → CountsLess between gone new → PutsRow left row more → AreCounted old rows → AreCounted new more
pushed_counted old between new rows gone left more row split one less puts are group =
    less group
    ∙ ap (λ n. n - count_by (is_in group) gone) (one group ∙ ap (λ n. n + cond (is_in group row) 1 0) (are group ∙ sym (split (is_in group))))
    ∙ taken (count_by (is_in group) left) (count_by (is_in group) gone) (cond (is_in group row) 1 0)
    ∙ ap (λ (r : List Row). cond (is_in group row) 1 0 + count_by (is_in group) r) puts.was
    ∙ sym ((AddsRow-insert puts.front puts.back row).count (is_in group))
    ∙ ap (count_by (is_in group)) (sym puts.is)
  where
    taken : (a b c : ℕ) → ((a + b) + c) - b ≡ c + a
    taken a b c = omega arith

-- one in the place of another of its step and its owner
pub swapped_counted : (counts : List (Group × ℕ)) (front back : List Row) (was row : Row) → row.step.0 ≡ was.step.0 → row.owner ≡ was.owner → AreCounted counts (front ++ was ∷ back) → AreCounted counts (front ++ row ∷ back)
swapped_counted counts front back was row steps owners are group =
    are group
    ∙ (AddsRow-insert front back was).count (is_in group)
    ∙ ap (λ b. cond b 1 0 + count_by (is_in group) (front ++ back)) (sym (same group))
    ∙ sym ((AddsRow-insert front back row).count (is_in group))
  where
    same : (g : Group) → is_in g row ≡ is_in g was
    same (At at) = ap (λ n. n == at.0) steps
    same (On state) = ap (λ (o : Option StateId). option_map_or (λ (s : StateId). s.0 == state.0) o false) owners

-- ---- rows go

pub less_counted : (one two three : List (Group × ℕ)) (rows more : List Row) → CountsLess one rows two → CountsLess two more three → CountsLess one (rows ++ more) three
less_counted one two three rows more first next group =
    next group
    ∙ ap (λ n. n - count_by (is_in group) more) (first group)
    ∙ both (count_of group one) (count_by (is_in group) rows) (count_by (is_in group) more)
    ∙ ap (λ n. count_of group one - n) (sym (sum_by-append (λ (row : Row). cond (is_in group row) 1 0) rows more))
  where
    both : (a b c : ℕ) → (a - b) - c ≡ a - (b + c)
    both a b c = omega arith

pub left_counted : (old new : List (Group × ℕ)) (rows gone left : List Row) → ((test : Row → Bool) → count_by test left + count_by test gone ≡ count_by test rows) → CountsLess old gone new → AreCounted old rows → AreCounted new left
left_counted old new rows gone left split less are group =
    less group
    ∙ ap (λ n. n - count_by (is_in group) gone) (are group ∙ sym (split (is_in group)))
    ∙ taken (count_by (is_in group) left) (count_by (is_in group) gone)
  where
    taken : (a b : ℕ) → (a + b) - b ≡ a
    taken a b = omega arith

-- what is noted of the rows that stay
pub rest_noted : (old new : List (EntryId × Place)) (rows gone left : List Row) → ((entry : EntryId) → count_by (is_entry entry) rows ≤ 1) → ((test : Row → Bool) → count_by test left + count_by test gone ≡ count_by test rows) → ((row : Row) → IsIn left row → IsIn rows row) → NotesLess old gone new → AreNoted old rows → AreNoted new left
rest_noted old new rows gone left once split part less are = left_noted old rows gone left new less part apart are
  where
    apart : (row : Row) → IsIn left row → list_any (is_entry row.entry) gone ≡ false
    apart row there =
        elim (cases_Bool (list_any (is_entry row.entry) gone)) [
          | inl twice ↦
              absurd (omega (
                arith,
                once row.entry,
                split (is_entry row.entry),
                counted (is_entry row.entry) gone twice,
                counted (is_entry row.entry) left (there (is_entry row.entry) (same_entry-refl row.entry)),
              ))
          | inr not_there ↦ not_there
        ]
