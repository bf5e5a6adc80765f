-- Taking rows out of each list.
use Rattle.std.proofs.Common.{◌≡◌, ℕ, suc, ◌+◌, ◌<◌, Bool, false, not, List, [], ◌∷◌, ◌++◌, length, refl, ap, sym, ◌∙◌, filter, arith, inl, inr, take, drop, set, get_or, add-one, drop-cons}
use Rattle.std.proofs.Math.Seq.{take-suc, take-suc-set}
use Rattle.std.proofs.lemmas.List.{append-nil, drop-set-lt}
use Rattle.std.proofs.lemmas.List.Concat.{flat_map-append}
use Rattle.std.proofs.lemmas.Bool.{cases_Bool, not-false, eqb-true}
use Rattle.std.proofs.lemmas.List.Elements.{filter-append}
use Rattle.log_model.specs.declared.row.Row.{Row}
use Rattle.entry_store.specs.declared.nest.Nest.{Nest}
use Rattle.entry_store.specs.Nested.{rows_of}

-- the list has a row
abbrev pub has_rows : Nest → Bool
has_rows nest = not (lib.Dec.eqb nest.rows.len 0)

no_items : {A : Type 0} (xs : List A) → length xs ≡ 0 → xs ≡ []
no_items [] none = refl
no_items (x ∷ xs) none = absurd (omega (arith, none))

no_rows : (nest : Nest) → has_rows nest ≡ false → nest.rows.items ≡ []
no_rows nest empty = no_items nest.rows.items (sym nest.rows.ok.0 ∙ eqb-true nest.rows.len 0 (not-false (lib.Dec.eqb nest.rows.len 0) empty))

pub rows_of-has_rows : (nests : List Nest) → rows_of (filter has_rows nests) ≡ rows_of nests
rows_of-has_rows [] = refl
rows_of-has_rows (nest ∷ nests) =
    elim (cases_Bool (has_rows nest)) [
      | inl has ↦ rw has (ap (λ rest. nest.rows.items ++ rest) (rows_of-has_rows nests))
      | inr empty ↦ rw (empty, no_rows nest empty) (rows_of-has_rows nests)
    ]

-- one list more is swept
module _ (p : Row → Bool) (was now : List Nest) (i : ℕ) (old new : Nest) (within : i < length now) (long : length now ≡ length was) (rest : drop i now ≡ drop i was) where
  here : (get_or now i old ≡ get_or was i old) × (drop (suc i) now ≡ drop (suc i) was)
  here =
      let cut_now = drop-cons now i old within in
      let cut_was = drop-cons was i old (omega (arith, within, long)) in
      let both : get_or now i old ∷ drop (suc i) now ≡ get_or was i old ∷ drop (suc i) was = sym cut_now ∙ rest ∙ cut_was in
      (cc, cc)

  pub swept_rest : drop (i + 1) (set now i new) ≡ drop (i + 1) was
  swept_rest = drop-set-lt (i + 1) now i new (omega arith) ∙ rw add-one here.1

  pub swept_more : rows_of (take i now) ≡ filter p (rows_of (take i was)) → new.rows.items ≡ filter p (get_or now i old).rows.items → rows_of (take (i + 1) (set now i new)) ≡ filter p (rows_of (take (i + 1) was))
  swept_more swept mine =
      let f : Nest → List Row = λ nest. nest.rows.items in
      rw add-one (
      ap rows_of (take-suc-set now i new within)
      ∙ flat_map-append f (take i now) (new ∷ [])
      ∙ ap (λ rows. rows ++ rows_of (new ∷ [])) swept
      ∙ ap (λ rows. filter p (rows_of (take i was)) ++ rows) (append-nil new.rows.items ∙ mine ∙ ap (λ (nest : Nest). filter p nest.rows.items) here.0 ∙ ap (filter p) (sym (append-nil (get_or was i old).rows.items)))
      ∙ sym (filter-append p (rows_of (take i was)) (rows_of (get_or was i old ∷ [])))
      ∙ ap (filter p) (sym (flat_map-append f (take i was) (get_or was i old ∷ [])))
      ∙ ap (λ nests. filter p (rows_of nests)) (sym (take-suc was i old (omega (arith, within, long))))
      )
