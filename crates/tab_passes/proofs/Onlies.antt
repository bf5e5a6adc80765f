-- Nothing but rows of one kind was put out: one row after the other.
use Rattle.seen_facts.specs.Hang.Members.{Has}
use Rattle.log_model.specs.declared.row_kind.RowKind.{RowKind}
use Rattle.tab_passes.specs.Passing.{HasOnly}
use Rattle.std.proofs.Common.{List, [], ap, append-nil, append_assoc, inl, inr, subst, sym, ◌++◌, ◌∙◌, ◌∷◌, ◌≡◌, ◌⊎◌}

in_either : {A : Type 0} (xs ys : List A) (x : A) → Has (xs ++ ys) x → Has xs x ⊎ Has ys x
in_either [] ys x there = inr there
in_either (first ∷ xs) ys x (inl same) = inl (inl same)
in_either {A} (first ∷ xs) ys x (inr there) = over (in_either xs ys x there)
  where
    over : Has xs x ⊎ Has ys x → ((first ≡ x) ⊎ Has xs x) ⊎ Has ys x
    over (inl early) = inl (inr early)
    over (inr late) = inr late

pub only_none : (Is : RowKind → Type 0) (out : List RowKind) → HasOnly Is out out
only_none Is out = record { more = []; is = sym (append-nil out); each = λ row there. absurd there }

pub only_one : (Is : RowKind → Type 0) (out new : List RowKind) (row : RowKind) → new ≡ out ++ row ∷ [] → Is row → HasOnly Is out new
only_one Is out new row is it =
    record { more = row ∷ []; is = is; each = λ x there. elim there as (λ h. Is x) [ inl same ↦ subst Is same it | inr never ↦ absurd never ] }

pub only_then : (Is : RowKind → Type 0) (was out new : List RowKind) → HasOnly Is was out → HasOnly Is out new → HasOnly Is was new
only_then Is was out new first then_ =
    record {
      more = first.more ++ then_.more;
      is = then_.is ∙ ap (λ (l : List RowKind). l ++ then_.more) first.is ∙ append_assoc was first.more then_.more;
      each = λ row there. by_part row (in_either first.more then_.more row there);
    }
  where
    by_part : (row : RowKind) → Has first.more row ⊎ Has then_.more row → Is row
    by_part row (inl early) = first.each row early
    by_part row (inr late) = then_.each row late

-- said otherwise of each
pub only_as : (Is As : RowKind → Type 0) (was out : List RowKind) → ((row : RowKind) → Is row → As row) → HasOnly Is was out → HasOnly As was out
only_as Is As was out as_ only = record { more = only.more; is = only.is; each = λ row there. as_ row (only.each row there) }
