-- Nothing but orders that freeze certain documents was put out.
use Rattle.log_model.proofs.Refl.{nat_eq_refl}
use Rattle.log_model.specs.Equal.{has_doc}
use Rattle.log_model.specs.Seen.{Seen}
use Rattle.log_model.specs.declared.job.Why.{Why}
use Rattle.log_model.specs.declared.row_kind.RowKind.{RowKind}
use Rattle.std.proofs.Common.{Bool, List, Some, [], false, refl, true, zero, suc, ℕ, ◌==◌, ◌||◌, ◌∷◌, ◌≡◌}
use Rattle.std.specs.Prelude.{slice_get}
use Rattle.tab_doors.specs.Orders.{order_to}
use Rattle.tab_ids.specs.declared.DocId.{DocId}
use Rattle.tab_passes.proofs.Onlies.{only_as}
use Rattle.tab_passes.specs.Leaving.{HasOnlyFrozen, IsFreezeOf}
use Rattle.log_model.specs.declared.job.Task.TheVariants as tasks
use Rattle.log_model.specs.declared.row_kind.RowKind.TheVariants as rows

-- the order to a document freezes that one
pub freezes_it : (s : Seen) (doc : DocId) (why : Why) (docs : List DocId) → IsFreezeOf why (doc ∷ docs) (rows.Sent (order_to s doc why tasks.Freeze))
freezes_it s doc why docs =
    record { job = order_to s doc why tasks.Freeze; is = refl; why_is = refl; freezes = refl; among = rw (nat_eq_refl doc.0) refl }

-- the list has one that is at an index
pub has_at : (docs : List DocId) (i : ℕ) (doc other : DocId) → slice_get docs i ≡ Some doc → (doc.0 == other.0) ≡ true → has_doc docs other ≡ true
has_at [] i doc other at same = absurd cc
has_at (x ∷ docs) zero doc other at same = let one : x ≡ doc = cc in rw one (rw same refl)
has_at (x ∷ docs) (suc i) doc other at same = by_test (x.0 == other.0) (has_at docs i doc other at same)
  where
    by_test : (b : Bool) → has_doc docs other ≡ true → (b || has_doc docs other) ≡ true
    by_test true more = refl
    by_test false more = more

pub only_it : (doc other : DocId) → has_doc (doc ∷ []) other ≡ true → (doc.0 == other.0) ≡ true
only_it doc other has = by_test (doc.0 == other.0) has
  where
    by_test : (b : Bool) → (b || false) ≡ true → b ≡ true
    by_test true h = refl
    by_test false h = h

-- one of a list was frozen
pub frozen_among : (why : Why) (docs : List DocId) (i : ℕ) (doc : DocId) (was out : List RowKind) → slice_get docs i ≡ Some doc → HasOnlyFrozen why (doc ∷ []) was out → HasOnlyFrozen why docs was out
frozen_among why docs i doc was out at only = only_as (IsFreezeOf why (doc ∷ [])) (IsFreezeOf why docs) was out each only
  where
    each : (row : RowKind) → IsFreezeOf why (doc ∷ []) row → IsFreezeOf why docs row
    each row it =
        record { job = it.job; is = it.is; why_is = it.why_is; freezes = it.freezes; among = has_at docs i doc it.job.doc at (only_it doc it.job.doc it.among) }

-- and some of more of them
pub frozen_more : (why : Why) (doc : DocId) (docs : List DocId) (was out : List RowKind) → HasOnlyFrozen why docs was out → HasOnlyFrozen why (doc ∷ docs) was out
frozen_more why doc docs was out only = only_as (IsFreezeOf why docs) (IsFreezeOf why (doc ∷ docs)) was out each only
  where
    by_test : (b c : Bool) → c ≡ true → (b || c) ≡ true
    by_test true c h = refl
    by_test false c h = h

    each : (row : RowKind) → IsFreezeOf why docs row → IsFreezeOf why (doc ∷ docs) row
    each row it =
        record { job = it.job; is = it.is; why_is = it.why_is; freezes = it.freezes; among = by_test (doc.0 == it.job.doc.0) (has_doc docs it.job.doc) it.among }
