-- The log without questions was read off the log after each row so far, and is after one more; and where a list with one item more is parted.
use Rattle.log_model.specs.declared.row_kind.RowKind.{RowKind}
use Rattle.seen_laws.specs.InEvent.{InEvent}
use Rattle.std.proofs.Common.{List, [], ap, refl, subst, sym, ◌++◌, ◌∷◌, ◌≡◌}
use Rattle.unasked_dues.specs.Reading.{IsReadAt, WereRead}

-- where a list with one item more is parted: behind all of it, or before that item
pub data Parted {A : Type 0} (before out : List A) (x : A) : Type 0 where
  whole : before ≡ out ++ x ∷ [] → Parted before out x
  within : (later : List A) → before ++ later ≡ out → Parted before out x

one_longer : {A : Type 0} (y : A) (before out : List A) (x : A) → Parted before out x → Parted (y ∷ before) (y ∷ out) x
one_longer y before out x (whole is) = whole (ap (λ l. y ∷ l) is)
one_longer y before out x (within later is) = within later (ap (λ l. y ∷ l) is)

pub parted : {A : Type 0} (before later out : List A) (x : A) → before ++ later ≡ out ++ x ∷ [] → Parted before out x
parted [] later out x is = within out refl
parted (y ∷ []) later [] x is = (let same : y ≡ x = cc in whole (ap (λ (z : _). z ∷ []) same))
parted (y ∷ z ∷ before) later [] x is = absurd cc
parted (y ∷ before) later (z ∷ out) x is =
    let first : y ≡ z = cc in
    let rest : before ++ later ≡ out ++ x ∷ [] = cc in
    subst (λ (w : _). Parted (y ∷ before) (w ∷ out) x) first (one_longer y before out x (parted before later out x rest))

-- it was so after each of the rows, and is after one more
pub read_more : (e : InEvent) (out : List RowKind) (kind : RowKind) → WereRead e out → IsReadAt e (out ++ kind ∷ []) → WereRead e (out ++ kind ∷ [])
read_more e out kind read at =
    record { each = λ before later is. by_part before (parted before later out kind is) }
  where
    by_part : (before : List RowKind) → Parted before out kind → IsReadAt e before
    by_part before (whole is) = subst (IsReadAt e) (sym is) at
    by_part before (within later is) = read.each before later is

-- and as the event begins
pub read_own : (e : InEvent) → IsReadAt e [] → WereRead e []
read_own e at = record { each = by_before }
  where
    by_before : (before later : List RowKind) → before ++ later ≡ [] → IsReadAt e before
    by_before [] later is = at
    by_before (kind ∷ before) later is = absurd cc
