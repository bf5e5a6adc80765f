-- A request that hasn't begun began as none of an event's rows, where each of them passes.
use Rattle.asking_facts.proofs.Started.{rows_on}
use Rattle.checking_facts.proofs.Grown.{req_same}
use Rattle.log_model.specs.After.{after}
use Rattle.log_model.specs.AfterRequests.{on_request, request_begun}
use Rattle.log_model.specs.Equal.{holds}
use Rattle.log_model.specs.Once.{is_once_row, may_begin_request}
use Rattle.log_model.specs.Seen.{Asked, Seen, request_of}
use Rattle.log_model.specs.declared.row_kind.LogRow.{LogRow}
use Rattle.log_model.specs.declared.row_kind.RowKind.TheVariants as rows
use Rattle.log_model.specs.declared.row_kind.RowKind.{RowKind}
use Rattle.seen_facts.proofs.Request.LookUps.{on_itself}
use Rattle.seen_laws.proofs.InEvents.{on_rows_append}
use Rattle.seen_laws.specs.Blocks.{EachPass, Here, on_row, on_rows, point_at}
use Rattle.seen_laws.specs.InEvent.{InEvent, begins, later_of, log_of, own_of, row_of, rows_of, start_of}
use Rattle.std.proofs.Common.{Bool, List, None, Option, Some, [], ap, false, map, refl, subst, sym, true, ◌++◌, ◌||◌, ◌∙◌, ◌∷◌, ◌≡◌}
use Rattle.std.proofs.lemmas.List.{map-append}
use Rattle.std.specs.List.{list_any}
use Rattle.std.specs.Prelude.{fold, option_map}
use Rattle.tab_ids.specs.declared.ReqId.{ReqId}
use Rattle.tab_ids.specs.declared.Step.{Step}

some_same : {A : Type 0} {a b : A} → (let o : Option A = Some a in o) ≡ Some b → a ≡ b
some_same is = cc

-- a request as which a row begins is there, and has begun then
begun_by : (s : Seen) (row : LogRow) (req : ReqId) (goal : Option Step) → row.row ≡ rows.Started req goal → (p : Asked) → request_of s req ≡ Some p → (q : Asked) × (request_of (after s row) req ≡ Some q) × (q.is_started ≡ true)
begun_by s row req goal is p at = (request_begun s (first p), own, refl)
  where
    first : Asked → Asked
    first q = record q { is_started = true; goal = goal }

    own : request_of (after s row) req ≡ Some (request_begun s (first p))
    own =
        rw is (on_itself (on_request req first s.requests) req (request_begun s)
        ∙ ap (λ (o : Option Asked). option_map (request_begun s) o) (on_itself s.requests req first ∙ ap (λ (o : Option Asked). option_map first o) at))

-- where rows lead
fold_rows : (h : Here) (rows_ : List LogRow) → (on_rows h rows_).now ≡ fold after h.now rows_
fold_rows h [] = refl
fold_rows h (row ∷ rows_) = fold_rows (on_row h row) rows_

some_held : {A : Type 0} (test : A → Bool) (o : Option A) → holds test o ≡ true → (a : A) × (o ≡ Some a)
some_held test None is = absurd cc
some_held test (Some a) is = (a, refl)

module _ (e : InEvent) (req : ReqId) (q : Asked) (off : q.is_started ≡ false) where
  -- one row begins it
  begun_never : (s : Seen) (kind : RowKind) (more : List LogRow) → begins req kind ≡ true → ((r : ReqId) (goal : Option Step) → kind ≡ rows.Started r goal → (p : Asked) × (request_of s r ≡ Some p)) → request_of (fold after (after s (row_of e kind)) more) req ≡ Some q → ⊥
  begun_never s (rows.Started r goal) more is there at =
      let it : r ≡ req = req_same r req is in
      let p = there r goal refl in
      let its = begun_by s (row_of e (rows.Started r goal)) r goal refl p.0 p.1 in
      let last = rows_on (after s (row_of e (rows.Started r goal))) more req its.0 (subst (λ (x : ReqId). request_of (after s (row_of e (rows.Started r goal))) x ≡ Some its.0) it its.1) in
      let one : last.q ≡ q = some_same (sym last.at ∙ at) in
      let never : true ≡ false = sym (last.begun its.2) ∙ ap (λ (x : Asked). x.is_started) one ∙ off in
      cc
  begun_never s _ more is there at = cc

  none_began : (h : Here) (out : List RowKind) (later : List LogRow) → EachPass h (map (row_of e) out) later → request_of (on_rows h (map (row_of e) out)).now req ≡ Some q → list_any (begins req) out ≡ false
  none_began h [] later passes at = refl
  none_began h (kind ∷ out) later passes at =
      by_test (begins req kind) refl (none_began (on_row h (row_of e kind)) out later passes.1 at)
    where
      there : (r : ReqId) (goal : Option Step) → kind ≡ rows.Started r goal → (p : Asked) × (request_of h.now r ≡ Some p)
      there r goal is =
          some_held (may_begin_request (point_at h (map (row_of e) out ++ later)) (row_of e (rows.Started r goal)) goal) (request_of h.now r)
          (sym (ap (λ (k : RowKind). is_once_row (point_at h (map (row_of e) out ++ later)) (record { event = e.event; actor = e.actor; row = k })) is) ∙ passes.0.once)

      by_test : (b : Bool) → begins req kind ≡ b → list_any (begins req) out ≡ false → (b || list_any (begins req) out) ≡ false
      by_test false is rest = rest
      by_test true is rest =
          absurd (begun_never h.now kind (map (row_of e) out) is there (ap (λ (s : Seen). request_of s req) (sym (fold_rows (on_row h (row_of e kind)) (map (row_of e) out))) ∙ at))

  pub unbegun : (out : List RowKind) → EachPass (start_of e) (rows_of e out) [] → request_of (log_of e out) req ≡ Some q → list_any (begins req) (e.before ++ out) ≡ false
  unbegun out passes at =
      none_began (own_of e) (e.before ++ out) [] (subst (λ (l : List LogRow). EachPass (own_of e) l []) rows_are passes.1) (subst (λ (s : Seen). request_of s req ≡ Some q) log_is at)
    where
      rows_are : later_of e out ≡ map (row_of e) (e.before ++ out)
      rows_are = sym (map-append (row_of e) e.before out)

      log_is : log_of e out ≡ (on_rows (own_of e) (map (row_of e) (e.before ++ out))).now
      log_is =
          ap (λ (h : Here). h.now) (sym (on_rows_append (own_of e) (map (row_of e) e.before) (map (row_of e) out)))
          ∙ ap (λ (l : List LogRow). (on_rows (own_of e) l).now) rows_are
