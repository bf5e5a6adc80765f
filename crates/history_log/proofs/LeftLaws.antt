-- The pokes that are left in the input of a process.
use Rattle.std.proofs.Common.{◌≡◌, ℕ, ◌+◌, ◌<◌, ◌≤◌, zero, suc, Bool, true, false, cond, not, ◌&&◌, ◌||◌, ◌==◌, List, [], ◌∷◌, ◌++◌, length, get_or, take, drop, Option, Some, None, refl, ap, sym, ◌∙◌, arith, append-nil, append_assoc}
use Rattle.std.specs.Prelude.{filter, slice_get, IfSome}
use Rattle.std.specs.List.{list_any}
use Rattle.std.proofs.lemmas.Bool.Decides.{nat_tests}
use Rattle.std.proofs.lemmas.Grind.{common_steps}
use Rattle.std.proofs.lemmas.List.Elements.{filter-append}
use Rattle.std.proofs.lemmas.List.Folds.{list_any-append}
use Rattle.tab_ids.specs.declared.DocId.{DocId}
use Rattle.tab_ids.specs.declared.ProcId.{ProcId}
use Rattle.tab_ids.specs.declared.ReqId.{ReqId}
use Rattle.log_model.specs.declared.action.Action.{Action}
use Rattle.log_model.specs.declared.outcome.Cause.{Cause}
use Rattle.log_model.specs.declared.request.Poke.{Poke}
use Rattle.log_model.specs.declared.request.Request.{Request}
use Rattle.log_model.specs.declared.request.Request.TheVariants as requests
use Rattle.log_model.specs.declared.row_kind.LogRow.{LogRow}
use Rattle.log_model.specs.declared.row_kind.RowKind.{RowKind}
use Rattle.log_model.specs.declared.row_kind.RowKind.TheVariants as rows
use Rattle.history_log.specs.Owners.{owner_of}
use Rattle.history_log.specs.Lefts.{drops, is_drop, is_dropped_by, have_drop, its_poke, poke_of, poked_by, kept, is_kept, face_of, poke_face, left_from, IsFirstLeft, HaveNoneLeft}
use Rattle.history_log.proofs.Cuts.{cut_at, take_more, with_item, of_item}
use Rattle.history_log.proofs.OwnerLaws.{any_drop}

-- ---- drops

drops_is : (req : ReqId) (kind : RowKind) → is_drop kind ≡ false → drops req kind ≡ false
drops_is req (rows.Dropped r cause) e = absurd cc
drops_is req (rows.Opened entry state d proc slot address) e = refl
drops_is req (rows.Sent job) e = refl
drops_is req (rows.Accepted r d what) e = refl
drops_is req (rows.Started r goal) e = refl
drops_is req (rows.Applied r change) e = refl
drops_is req (rows.Refused r reason) e = refl
drops_is req (rows.Prompted r d) e = refl
drops_is req (rows.Answered r stay) e = refl
drops_is req (rows.Taken proc job live dirty) e = refl
drops_is req (rows.Finished proc job outcome) e = refl
drops_is req (rows.Made proc made) e = refl
drops_is req (rows.Delivered proc) e = refl
drops_is req (rows.Killed proc death) e = refl
drops_is req (rows.Evicted state) e = refl

or_first : (b c : Bool) → (b || c) ≡ false → b ≡ false
or_first true c e = cc
or_first false c e = refl

or_second : (b c : Bool) → (b || c) ≡ false → c ≡ false
or_second true c e = absurd cc
or_second false c e = e

pub none_dropped : (req : ReqId) (log : List LogRow) → have_drop log ≡ false → is_dropped_by req log ≡ false
none_dropped req [] no_drop = refl
none_dropped req (row ∷ log) no_drop =
    rw (drops_is req row.row (or_first (is_drop row.row) (have_drop log) no_drop)) (none_dropped req log (or_second (is_drop row.row) (have_drop log) no_drop))

more_drop : {A : Type 0} (m n : ℕ) (xs : List A) (test : A → Bool) → m ≤ n → list_any test (drop m xs) ≡ false → list_any test (drop n xs) ≡ false
more_drop zero n xs test le none = any_drop test n xs none
more_drop (suc m) zero xs test le none = absurd (omega arith)
more_drop (suc m) (suc n) [] test le none = refl
more_drop (suc m) (suc n) (x ∷ xs) test le none = more_drop m n xs test (omega arith) none

-- past the last drop nothing is dropped
pub none_dropped_past : (req : ReqId) (until i : ℕ) (log : List LogRow) → until ≤ i → have_drop (drop until log) ≡ false → is_dropped_by req (drop i log) ≡ false
none_dropped_past req until i log past none = none_dropped req (drop i log) (more_drop until i log _ past none)

-- ---- one row more at the end

abbrev pub listed : Option Poke → List Poke
listed None = []
listed (Some poke) = poke ∷ []

kept-none : (poke : Option Poke) → kept poke [] ≡ listed poke
kept-none None = refl
kept-none (Some poke) = refl

or_false : (b : Bool) → (b || (false || false)) ≡ b
or_false true = refl
or_false false = refl

kept_on : (poke : Option Poke) (later : List LogRow) (row : LogRow) → is_drop row.row ≡ false → kept poke (later ++ row ∷ []) ≡ kept poke later
kept_on None later row other = refl
kept_on (Some poke) later row other =
    let same : is_dropped_by poke.req (later ++ row ∷ []) ≡ is_dropped_by poke.req later =
    list_any-append (λ (r : LogRow). drops poke.req r.row) later (row ∷ []) ∙ rw (drops_is poke.req row.row other) (or_false (is_dropped_by poke.req later)) in
    rw same refl

-- a row that drops nothing adds its poke, if it has one
pub left_more : (p : ProcId) (before later : List LogRow) (row : LogRow) → is_drop row.row ≡ false → left_from p before (later ++ row ∷ []) ≡ left_from p before later ++ listed (poked_by p (before ++ later) row.row)
unfolding left_from
left_more p before [] row other =
    append-nil (kept (poked_by p before row.row) []) ∙ kept-none (poked_by p before row.row) ∙ ap (λ (l : List LogRow). listed (poked_by p l row.row)) (sym (append-nil before))
left_more p before (first ∷ later) row other =
    rw (kept_on (poked_by p before first.row) later row other, left_more p (before ++ first ∷ []) later row other, append_assoc before (first ∷ []) later)
    (sym (append_assoc (kept (poked_by p before first.row) later) (left_from p (before ++ first ∷ []) later) (listed (poked_by p (before ++ first ∷ later) row.row))))

abbrev pub without : ReqId → List Poke → List Poke
without req pokes = filter (λ (poke : Poke). not (poke.req.0 == req.0)) pokes

swap : (n m : ℕ) (b : Bool) → (n == m) ≡ b → (m == n) ≡ b
swap n m true e = grind (arith, nat_tests)
swap n m false e = grind (arith, nat_tests)

kept_drop : (poke : Option Poke) (later : List LogRow) (event : ℕ) (row : LogRow) (req : ReqId) (cause : Cause) → row.row ≡ rows.Dropped req cause → kept poke (later ++ row ∷ []) ≡ without req (kept poke later)
kept_drop None later event row req cause is = refl
kept_drop (Some poke) later event row req cause is =
    let longer : is_dropped_by poke.req (later ++ row ∷ []) ≡ (is_dropped_by poke.req later || ((req.0 == poke.req.0) || false)) =
    list_any-append (λ (r : LogRow). drops poke.req r.row) later (row ∷ []) ∙ rw is refl in
    rw longer (by_tests (is_dropped_by poke.req later) (poke.req.0 == req.0) refl)
  where
    by_tests : (d e : Bool) → (poke.req.0 == req.0) ≡ e → cond (d || ((req.0 == poke.req.0) || false)) [] (poke ∷ []) ≡ without req (cond d [] (poke ∷ []))
    by_tests true e is_ = refl
    by_tests false true is_ = rw (is_, swap poke.req.0 req.0 true is_) refl
    by_tests false false is_ = rw (is_, swap poke.req.0 req.0 false is_) refl

-- a row that drops a request takes its pokes
pub left_dropped : (p : ProcId) (before later : List LogRow) (row : LogRow) (req : ReqId) (cause : Cause) → row.row ≡ rows.Dropped req cause → left_from p before (later ++ row ∷ []) ≡ without req (left_from p before later)
unfolding left_from
left_dropped p before [] row req cause is = rw is refl
left_dropped p before (first ∷ later) row req cause is =
    rw (kept_drop (poked_by p before first.row) later 0 row req cause is, left_dropped p (before ++ first ∷ []) later row req cause is)
    (sym (filter-append (λ (poke : Poke). not (poke.req.0 == req.0)) (kept (poked_by p before first.row) later) (left_from p (before ++ first ∷ []) later)))

-- ---- the first that is left

kept_not : (poke : Option Poke) (later : List LogRow) → is_kept poke later ≡ false → kept poke later ≡ []
kept_not None later e = refl
kept_not (Some poke) later e = by_test (is_dropped_by poke.req later) e
  where
    by_test : (b : Bool) → not b ≡ false → cond b [] (poke ∷ []) ≡ []
    by_test true e = refl
    by_test false e = absurd cc

pub left_at : (p : ProcId) (log : List LogRow) (i : ℕ) (row : LogRow) → i < length log → row ≡ get_or log i row → left_from p (take i log) (drop i log) ≡ kept (poked_by p (take i log) row.row) (drop (i + 1) log) ++ left_from p (take (i + 1) log) (drop (i + 1) log)
unfolding left_from
left_at p log i row within is = rw (cut_at log i row within is, take_more log i row within is) refl

-- a row without a poke that is left
pub left_skip : (p : ProcId) (log : List LogRow) (i : ℕ) (row : LogRow) → i < length log → row ≡ get_or log i row → is_kept (poked_by p (take i log) row.row) (drop (i + 1) log) ≡ false → left_from p (take (i + 1) log) (drop (i + 1) log) ≡ left_from p (take i log) (drop i log)
left_skip p log i row within is no_poke = sym (left_at p log i row within is ∙ rw (kept_not (poked_by p (take i log) row.row) (drop (i + 1) log) no_poke) refl)

kept_one : (poke : Option Poke) (later : List LogRow) (others : List Poke) → is_kept poke later ≡ true → (drop 1 (kept poke later ++ others) ≡ others) × (0 < length (kept poke later ++ others))
kept_one None later others e = absurd cc
kept_one (Some poke) later others e = by_test (is_dropped_by poke.req later) e
  where
    by_test : (b : Bool) → not b ≡ true → (drop 1 (cond b [] (poke ∷ []) ++ others) ≡ others) × (0 < length (cond b [] (poke ∷ []) ++ others))
    by_test true e = absurd cc
    by_test false e = (refl, omega arith)

-- the first row with one
pub left_first : (p : ProcId) (log : List LogRow) (from i : ℕ) (row : LogRow) → i < length log → row ≡ get_or log i row → is_kept (poked_by p (take i log) row.row) (drop (i + 1) log) ≡ true → left_from p (take i log) (drop i log) ≡ left_from p (take from log) (drop from log) → IsFirstLeft p log from i
left_first p log from i row within is poke so_far =
    let one = kept_one (poked_by p (take i log) row.row) (drop (i + 1) log) (left_from p (take (i + 1) log) (drop (i + 1) log)) poke in
    let at : left_from p (take from log) (drop from log) ≡ kept (poked_by p (take i log) row.row) (drop (i + 1) log) ++ left_from p (take (i + 1) log) (drop (i + 1) log) = sym so_far ∙ left_at p log i row within is in
    record { within = within; some = rw at one.1; rest = rw at one.0 }

pub left_none : (p : ProcId) (log : List LogRow) (i : ℕ) → length log ≤ i → left_from p (take i log) (drop i log) ≡ []
unfolding left_from
left_none p log i past = let none : drop i log ≡ [] = grind (arith, common_steps) in rw none refl

-- the same, of the row that is there
pub left_skip_at : (p : ProcId) (log : List LogRow) (i : ℕ) (b : Bool) → i < length log → IfSome (slice_get log i) (λ row. b ≡ is_kept (poked_by p (take i log) row.row) (drop (i + 1) log)) → b ≡ false → left_from p (take (i + 1) log) (drop (i + 1) log) ≡ left_from p (take i log) (drop i log)
left_skip_at p log i b within test is =
    with_item log i (λ row. b ≡ is_kept (poked_by p (take i log) row.row) (drop (i + 1) log)) (left_from p (take (i + 1) log) (drop (i + 1) log) ≡ left_from p (take i log) (drop i log)) within test
    (λ row at kept_. left_skip p log i row within at (sym kept_ ∙ is))

pub left_first_at : (p : ProcId) (log : List LogRow) (from i : ℕ) (b : Bool) → i < length log → IfSome (slice_get log i) (λ row. b ≡ is_kept (poked_by p (take i log) row.row) (drop (i + 1) log)) → b ≡ true → left_from p (take i log) (drop i log) ≡ left_from p (take from log) (drop from log) → IsFirstLeft p log from i
left_first_at p log from i b within test is so_far =
    with_item log i (λ row. b ≡ is_kept (poked_by p (take i log) row.row) (drop (i + 1) log)) (IsFirstLeft p log from i) within test
    (λ row at kept_. left_first p log from i row within at (sym kept_ ∙ is) so_far)

-- after the last row none is left
pub served_none : (p : ProcId) (log : List LogRow) (from to : ℕ) → HaveNoneLeft p log from → length log ≤ to → drop 1 (left_from p (take from log) (drop from log)) ≡ left_from p (take to log) (drop to log)
served_none p log from to none past = rw (none, left_none p log to past) refl

-- ---- what the code tests

kept_face : (p : ProcId) (before : List LogRow) (req : ReqId) (doc : Option DocId) (what : Request) (later : List LogRow) → face_of doc what req ≡ None → is_kept (poke_of p before req doc what) later ≡ false
kept_face p before req None what later none = refl
kept_face p before req (Some doc) (requests.Poke nav action) later none = absurd cc
kept_face p before req (Some doc) (requests.Load nav mode address) later none = refl
kept_face p before req (Some doc) (requests.Go delta) later none = refl
kept_face p before req (Some doc) (requests.Reload nav) later none = refl

-- a row that is no poke
pub no_poke_left : (p : ProcId) (before : List LogRow) (kind : RowKind) (later : List LogRow) → poke_face kind ≡ None → is_kept (poked_by p before kind) later ≡ false
no_poke_left p before (rows.Accepted req doc what) later none = kept_face p before req doc what later none
no_poke_left p before (rows.Dropped r cause) later none = refl
no_poke_left p before (rows.Opened entry state d proc slot address) later none = refl
no_poke_left p before (rows.Sent job) later none = refl
no_poke_left p before (rows.Started r goal) later none = refl
no_poke_left p before (rows.Applied r change) later none = refl
no_poke_left p before (rows.Refused r reason) later none = refl
no_poke_left p before (rows.Prompted r d) later none = refl
no_poke_left p before (rows.Answered r stay) later none = refl
no_poke_left p before (rows.Taken proc job live dirty) later none = refl
no_poke_left p before (rows.Finished proc job outcome) later none = refl
no_poke_left p before (rows.Made proc made) later none = refl
no_poke_left p before (rows.Delivered proc) later none = refl
no_poke_left p before (rows.Killed proc death) later none = refl
no_poke_left p before (rows.Evicted state) later none = refl

-- whether a poke of this document is left
abbrev pub is_its : ProcId → ReqId → Option ProcId → List LogRow → Bool
is_its p req None later = false
is_its p req (Some q) later = q.0 == p.0 && not (is_dropped_by req later)

its_kept : (p : ProcId) (req : ReqId) (doc : DocId) (action : Action) (owner : Option ProcId) (later : List LogRow) → is_kept (its_poke p req doc action owner) later ≡ is_its p req owner later
its_kept p req doc action None later = refl
its_kept p req doc action (Some q) later =
    elim (q.0 == p.0) as (λ b. is_kept (cond b (Some (record { req = req; doc = doc; action = action })) None) later ≡ (b && not (is_dropped_by req later))) [
      | true ↦ refl
      | false ↦ refl
    ]

kept_its : (p : ProcId) (before : List LogRow) (r : ReqId) (doc : Option DocId) (what : Request) (req : ReqId) (d : DocId) (later : List LogRow) → face_of doc what r ≡ Some (req, d) → is_kept (poke_of p before r doc what) later ≡ is_its p req (owner_of before d) later
kept_its p before r None what req d later is = absurd cc
kept_its p before r (Some doc) (requests.Poke nav action) req d later is =
    let pair : (r, doc) ≡ (req, d) = cc in
    its_kept p r doc action (owner_of before doc) later ∙ ap (λ (x : ReqId × DocId). is_its p x.0 (owner_of before x.1) later) pair
kept_its p before r (Some doc) (requests.Load nav mode address) req d later is = absurd cc
kept_its p before r (Some doc) (requests.Go delta) req d later is = absurd cc
kept_its p before r (Some doc) (requests.Reload nav) req d later is = absurd cc

-- a row that is one
pub poke_left : (p : ProcId) (before : List LogRow) (kind : RowKind) (req : ReqId) (d : DocId) (later : List LogRow) → poke_face kind ≡ Some (req, d) → is_kept (poked_by p before kind) later ≡ is_its p req (owner_of before d) later
poke_left p before (rows.Accepted r doc what) req d later is = kept_its p before r doc what req d later is
poke_left p before (rows.Dropped r cause) req d later is = absurd cc
poke_left p before (rows.Opened entry state doc proc slot address) req d later is = absurd cc
poke_left p before (rows.Sent job) req d later is = absurd cc
poke_left p before (rows.Started r goal) req d later is = absurd cc
poke_left p before (rows.Applied r change) req d later is = absurd cc
poke_left p before (rows.Refused r reason) req d later is = absurd cc
poke_left p before (rows.Prompted r doc) req d later is = absurd cc
poke_left p before (rows.Answered r stay) req d later is = absurd cc
poke_left p before (rows.Taken proc job live dirty) req d later is = absurd cc
poke_left p before (rows.Finished proc job outcome) req d later is = absurd cc
poke_left p before (rows.Made proc made) req d later is = absurd cc
poke_left p before (rows.Delivered proc) req d later is = absurd cc
poke_left p before (rows.Killed proc death) req d later is = absurd cc
poke_left p before (rows.Evicted state) req d later is = absurd cc

-- the test of a row by its poke's owner
pub left_test : (p : ProcId) (log : List LogRow) (i : ℕ) (row : LogRow) (req : ReqId) (doc : DocId) (owner : Option ProcId) (b : Bool) → i < length log → row ≡ get_or log i row → poke_face (get_or log i row).row ≡ Some (req, doc) → owner ≡ owner_of (take i log) doc → b ≡ is_its p req owner (drop (i + 1) log) → IfSome (slice_get log i) (λ row. b ≡ is_kept (poked_by p (take i log) row.row) (drop (i + 1) log))
left_test p log i row req doc owner b within is face its test =
    of_item log i (λ r. b ≡ is_kept (poked_by p (take i log) r.row) (drop (i + 1) log)) row within is (
    let at : poke_face row.row ≡ Some (req, doc) = ap (λ (r : LogRow). poke_face r.row) is ∙ face in
    test ∙ ap (λ (o : Option ProcId). is_its p req o (drop (i + 1) log)) its ∙ sym (poke_left p (take i log) row.row req doc (drop (i + 1) log) at)
    )

pub not_true : (b : Bool) → not b ≡ true → b ≡ false
not_true true e = absurd cc
not_true false e = refl

pub not_false : (b : Bool) → not b ≡ false → b ≡ true
not_false true e = refl
not_false false e = absurd cc
