-- The rest of a pass discards nothing in an event in which a step was in its check as it began or was cut; and the last row of its first part drops a load, or no document is stray any more.
use Rattle.log_model.specs.declared.job.Task.TheVariants as tasks
use Rattle.log_model.specs.declared.job.Task.{Task}
use Rattle.log_model.specs.declared.job.Why.{Why}
use Rattle.log_model.specs.declared.row_kind.RowKind.TheVariants as rows
use Rattle.log_model.specs.declared.row_kind.RowKind.{RowKind}
use Rattle.seen_facts.specs.Hang.Members.{Has}
use Rattle.seen_laws.specs.InEvent.{InEvent, now_of}
use Rattle.std.proofs.Common.{List, Option, [], ap, append-nil, append_assoc, false, inl, inr, map, refl, subst, sym, true, ◌++◌, ◌∙◌, ◌∷◌, ◌≡◌, ◌⊎◌}
use Rattle.tab_drops.specs.Dropping.{Drop, HasOnlyDestroyed, row_of_drop}
use Rattle.tab_ids.specs.declared.ReqId.{ReqId}
use Rattle.tab_one_pass.specs.PassedOn.{length_index}
use Rattle.tab_one_pass.specs.Passing.{EndsRun, HasServedAll, NoneStray}
use Rattle.tab_passes.proofs.Onlies.{only_as, only_then}
use Rattle.tab_passes.specs.Telling.{IsUpdateFor}
use Rattle.tab_serves.specs.Serving.{DiscardsNone, DiscardsUnheld}

-- an order that tells length and index discards nothing
told_none : (tells : Why) (row : RowKind) → IsUpdateFor tells row → DiscardsNone row
told_none tells (rows.Sent job) its = by_task job.task its.1
  where
    by_task : (task : Task) → length_index task ≡ true → DiscardsNone (rows.Sent (record job { task = task }))
    by_task (tasks.Update long at) is = refl
    by_task _ is = absurd (let never : false ≡ true = is in cc)
told_none tells _ never = elim never [ ]

-- nor does a row by which a load is dropped
drops_none : (drops : List Drop) (row : RowKind) → Has (map row_of_drop drops) row → DiscardsNone row
drops_none [] row has = absurd has
drops_none (d ∷ drops) row (inl is) = subst DiscardsNone is refl
drops_none (d ∷ drops) row (inr has) = drops_none drops row has

-- nor does the rest of a pass, where the walk discards nothing
pub served_quiet : (e : InEvent) (run : Option ReqId) (cause tells : Why) (was out : List RowKind) → HasServedAll e run cause tells was out → DiscardsUnheld e was out
served_quiet e run cause tells was out all held =
    only_then DiscardsNone was all.served out (all.quiet held) (only_as (IsUpdateFor tells) DiscardsNone all.served out (told_none tells) all.told)

-- ---- the last row

-- a list is empty, or has a last one
last_of : {A : Type 0} (x : A) (xs : List A) → (before : List A) × (last : A) × ((x ∷ xs) ≡ before ++ last ∷ [])
last_of x [] = ([], x, refl)
last_of x (y ∷ ys) = let rest = last_of y ys in (x ∷ rest.0, rest.1, ap (λ l. x ∷ l) rest.2)

-- the last row dropped a load; or none did, and no document is stray any more, where none was before
pub ended_or : (e : InEvent) (was out : List RowKind) → HasOnlyDestroyed (now_of e was) was out → NoneStray (now_of e was) → EndsRun out ⊎ NoneStray (now_of e out)
ended_or e was out destroys none = by_drops destroys.drops destroys.is
  where
    last_has : (before : List RowKind) (last : RowKind) → Has (before ++ last ∷ []) last
    last_has [] last = inl refl
    last_has (row ∷ before) last = inr (last_has before last)

    by_drops : (drops : List Drop) → out ≡ was ++ map row_of_drop drops → EndsRun out ⊎ NoneStray (now_of e out)
    by_drops [] is = inr (subst (λ (l : List RowKind). NoneStray (now_of e l)) (sym (is ∙ append-nil was)) none)
    by_drops (d ∷ drops) is =
        let its = last_of (row_of_drop d) (map row_of_drop drops) in
        inl (record {
          before = was ++ its.0;
          last = its.1;
          is = is ∙ ap (λ (l : List RowKind). was ++ l) its.2 ∙ sym (append_assoc was its.0 (its.1 ∷ []));
          none = drops_none (d ∷ drops) its.1 (subst (λ (l : List RowKind). Has l its.1) (sym its.2) (last_has its.0 its.1));
        })
