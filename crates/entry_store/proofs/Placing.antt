-- One list among the lists, and a row put into it.
use Rattle.std.proofs.Common.{◌≡◌, ℕ, suc, ◌+◌, ◌<◌, List, [], ◌∷◌, ◌++◌, length, ap, sym, ◌∙◌, arith, take, drop, set, get_or, add-one, drop-cons, append_assoc, Some}
use Rattle.std.specs.Prelude.{slice_get}
use Rattle.std.proofs.lemmas.List.{take-append-drop, take-set, drop-set, drop-set-lt, set_split, get_or-set_same, length-set}
use Rattle.std.proofs.lemmas.Option.{slice_get-get_or}
use Rattle.std.proofs.lemmas.List.Concat.{flat_map-append}
use Rattle.std.specs.Result.{OnErr}
use Rattle.std.proofs.Common.{Result, Ok, Err}
use Rattle.log_model.specs.declared.row.Row.{Row}
use Rattle.entry_store.specs.declared.nest.Nest.{Nest}
use Rattle.entry_store.specs.Nested.{rows_of}
use Rattle.entry_store.specs.Places.{rows_in, rows_at, rows_before, rows_after, SwapsRow}
use Rattle.entry_store.specs.Kept.{PutsRow}

-- the rows before one list, its own, and those after it
pub rows_of-split : (nests : List Nest) (i : ℕ) (nest : Nest) → i < length nests → rows_of nests ≡ rows_of (take i nests) ++ ((get_or nests i nest).rows.items ++ rows_of (drop (suc i) nests))
rows_of-split nests i nest within =
    let f : Nest → List Row = λ n. n.rows.items in
    ap rows_of (sym (take-append-drop i nests) ∙ ap (λ rest. take i nests ++ rest) (drop-cons nests i nest within))
    ∙ flat_map-append f (take i nests) (get_or nests i nest ∷ drop (suc i) nests)

pub rows_of-set : (nests : List Nest) (i : ℕ) (nest : Nest) → i < length nests → rows_of (set nests i nest) ≡ rows_of (take i nests) ++ (nest.rows.items ++ rows_of (drop (suc i) nests))
rows_of-set nests i nest within =
    let f : Nest → List Row = λ n. n.rows.items in
    let rest : drop i (set nests i nest) ≡ nest ∷ drop (suc i) nests = rw add-one at (drop-set nests i nest within) in
    ap rows_of (sym (take-append-drop i (set nests i nest)))
    ∙ flat_map-append f (take i (set nests i nest)) (drop i (set nests i nest))
    ∙ ap (λ (some : List Nest). rows_of some ++ rows_of (drop i (set nests i nest))) (take-set nests i nest)
    ∙ ap (λ (some : List Nest). rows_of (take i nests) ++ rows_of some) rest

-- a list that keeps its rows
pub same_rows : (nests : List Nest) (i : ℕ) (old new : Nest) → i < length nests → old ≡ get_or nests i old → new.rows.items ≡ old.rows.items → rows_of (set nests i new) ≡ rows_of nests
same_rows nests i old new within is same =
    rows_of-set nests i new within
    ∙ ap (λ rows. rows_of (take i nests) ++ (rows ++ rows_of (drop (suc i) nests))) (same ∙ ap (λ (nest : Nest). nest.rows.items) is)
    ∙ sym (rows_of-split nests i old within)

-- a row at the end of a list
pub row_put : (nests : List Nest) (i : ℕ) (old new : Nest) (row : Row) → i < length nests → old ≡ get_or nests i old → new.rows.items ≡ old.rows.items ++ row ∷ [] → PutsRow (rows_of nests) row (rows_of (set nests i new))
row_put nests i old new row within is put =
    let before = rows_of (take i nests) in
    let after = rows_of (drop (suc i) nests) in
    let mine : old.rows.items ≡ (get_or nests i old).rows.items = ap (λ (nest : Nest). nest.rows.items) is in
    record {
      front = before ++ old.rows.items;
      back = after;
      was = rows_of-split nests i old within ∙ ap (λ rows. before ++ (rows ++ after)) (sym mine) ∙ sym (append_assoc before old.rows.items after);
      is =
          rows_of-set nests i new within
          ∙ ap (λ rows. before ++ (rows ++ after)) put
          ∙ ap (λ rows. before ++ rows) (append_assoc old.rows.items (row ∷ []) after)
          ∙ sym (append_assoc before old.rows.items (row ∷ after));
    }

-- what holds anyway holds at an error
pub OnErr-any : {T E P : Type 0} (result : Result T E) → P → OnErr result P
OnErr-any (Ok x) holds = tt
OnErr-any (Err e) holds = holds

-- ---- one row in the place of another

between : (a t : List Row) (row : Row) (d b : List Row) → a ++ ((t ++ row ∷ d) ++ b) ≡ (a ++ t) ++ row ∷ (d ++ b)
between a t row d b = ap (λ rows. a ++ rows) (append_assoc t (row ∷ d) b) ∙ sym (append_assoc a t (row ∷ (d ++ b)))

module _ (nests : List Nest) (place at : ℕ) (old new : Nest) (row was : Row) (within : place < length nests) (is : old ≡ get_or nests place old) (in_list : at < length (rows_at nests place)) (was_is : was ≡ get_or old.rows.items at was) (put : new.rows.items ≡ set old.rows.items at row) where
  here : rows_at nests place ≡ old.rows.items
  here = ap rows_in (slice_get-get_or nests place old within ∙ ap (λ (nest : Nest). Some nest) (sym is))

  within_new : place < length (set nests place new)
  within_new = omega (arith, within, length-set nests place new)

  new_here : rows_at (set nests place new) place ≡ new.rows.items
  new_here = ap rows_in (slice_get-get_or (set nests place new) place new within_new ∙ ap (λ (nest : Nest). Some nest) (get_or-set_same nests place new new within))

  in_old : at < length old.rows.items
  in_old = omega (arith, in_list, ap (length {A = Row}) here)

  -- the lists' rows, with those of the one list cut at the place
  cut_at : (r : Row) (rows : List Row) → rows ≡ take at old.rows.items ++ r ∷ drop (suc at) old.rows.items → rows_of (take place nests) ++ (rows ++ rows_of (drop (suc place) nests)) ≡ rows_before nests place at ++ r ∷ rows_after nests place at
  cut_at r rows are =
      ap (λ (mine : List Row). rows_of (take place nests) ++ (mine ++ rows_of (drop (suc place) nests))) are
      ∙ between (rows_of (take place nests)) (take at old.rows.items) r (drop (suc at) old.rows.items) (rows_of (drop (suc place) nests))
      ∙ rw (add-one at, add-one place) (ap (λ (mine : List Row). (rows_of (take place nests) ++ take at mine) ++ r ∷ (drop (suc at) mine ++ rows_of (drop (suc place) nests))) (sym here))

  pub swapped : SwapsRow nests place at row was (set nests place new)
  swapped = record {
    there = ap (λ rows. slice_get rows at) here ∙ slice_get-get_or old.rows.items at was in_old ∙ ap (λ (r : Row). Some r) (sym was_is);
    of_old =
        rows_of-split nests place old within
        ∙ cut_at was (get_or nests place old).rows.items
        (ap (λ (nest : Nest). nest.rows.items) (sym is) ∙ sym (take-append-drop at old.rows.items) ∙ ap (λ rest. take at old.rows.items ++ rest) (drop-cons old.rows.items at was in_old ∙ ap (λ r. r ∷ drop (suc at) old.rows.items) (sym was_is)));
    of_new = rows_of-set nests place new within ∙ cut_at row new.rows.items (put ∙ set_split old.rows.items at row in_old);
    still = record {
      in_lists = within_new;
      in_list = omega (arith, in_old, ap (length {A = Row}) (new_here ∙ put), length-set old.rows.items at row);
    };
    before =
        ap (λ (some : List Nest). rows_of some ++ take at (rows_at (set nests place new) place)) (take-set nests place new)
        ∙ ap (λ (mine : List Row). rows_of (take place nests) ++ take at mine) (new_here ∙ put)
        ∙ ap (λ (mine : List Row). rows_of (take place nests) ++ mine) (take-set old.rows.items at row ∙ ap (take at) (sym here));
    after =
        ap (λ (some : List Nest). drop (at + 1) (rows_at (set nests place new) place) ++ rows_of some) (drop-set-lt (place + 1) nests place new (omega arith))
        ∙ ap (λ (mine : List Row). drop (at + 1) mine ++ rows_of (drop (place + 1) nests)) (new_here ∙ put)
        ∙ ap (λ (mine : List Row). mine ++ rows_of (drop (place + 1) nests)) (drop-set-lt (at + 1) old.rows.items at row (omega arith) ∙ ap (drop (at + 1)) (sym here));
  }
