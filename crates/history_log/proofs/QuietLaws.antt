-- No prompt is up where none of those that rows ask about is.
use Rattle.std.proofs.Common.{◌≡◌, ℕ, ◌+◌, ◌-◌, ◌<◌, ◌≤◌, zero, suc, Bool, true, false, cond, not, ◌&&◌, ◌||◌, ◌==◌, List, [], ◌∷◌, ◌++◌, length, get_or, take, drop, Option, Some, None, refl, ap, sym, ◌∙◌, arith}
use Rattle.std.specs.Prelude.{slice_get}
use Rattle.std.specs.List.{list_all, list_any}
use Rattle.std.proofs.lemmas.Bool.Decides.{nat_tests}
use Rattle.std.proofs.lemmas.Grind.{common_steps}
use Rattle.std.proofs.lemmas.List.Folds.{list_any-append}
use Rattle.tab_ids.specs.declared.ReqId.{ReqId}
use Rattle.log_model.specs.declared.row_kind.LogRow.{LogRow}
use Rattle.log_model.specs.declared.row_kind.RowKind.{RowKind}
use Rattle.log_model.specs.declared.row_kind.RowKind.TheVariants as rows
use Rattle.log_model.specs.Equal.{holds}
use Rattle.log_model.specs.Seen.{Asked, request_in, request_of}
use Rattle.log_model.specs.Logs.{seen_of, is_prompt_up}
use Rattle.history_log.specs.declared.prompt_reader.PromptReader.{PromptReader}
use Rattle.history_log.specs.Prompts.{is_told, prompt_after, no_prompt, reads_up, prompted_by}
use Rattle.history_log.proofs.Cuts.{take_more}
use Rattle.history_log.proofs.PromptLaws.{in_place, read_on, prompt_read}

-- the row asks about the request of a number
abbrev pub asks_about : ℕ → Option ReqId → Bool
asks_about n None = false
asks_about n (Some req) = req.0 == n

abbrev pub is_asked : ℕ → List LogRow → Bool
is_asked n log = list_any (λ (row : LogRow). asks_about n (prompted_by row.row)) log

told_same : (b : Bool) (p q : PromptReader) → q.is_prompted ≡ p.is_prompted → (cond b q p).is_prompted ≡ p.is_prompted
told_same true p q same = same
told_same false p q same = refl

-- a row that doesn't ask about it
unasked : (req : ReqId) (p : PromptReader) (kind : RowKind) → asks_about req.0 (prompted_by kind) ≡ false → (prompt_after req p kind).is_prompted ≡ p.is_prompted
unasked req p (rows.Prompted r doc) other = rw other refl
unasked req p (rows.Accepted r doc what) other = refl
unasked req p (rows.Answered r stay) other = told_same (is_told req r p) p (record p { is_answered = true }) refl
unasked req p (rows.Applied r change) other = told_same (is_told req r p) p (record p { is_dropped = false }) refl
unasked req p (rows.Refused r reason) other = told_same (is_told req r p) p (record p { is_dropped = false }) refl
unasked req p (rows.Dropped r cause) other = told_same (is_told req r p) p (record p { is_dropped = true }) refl
unasked req p (rows.Opened entry state doc proc slot address) other = refl
unasked req p (rows.Started r goal) other = refl
unasked req p (rows.Sent job) other = refl
unasked req p (rows.Taken proc job live dirty) other = refl
unasked req p (rows.Finished proc job outcome) other = refl
unasked req p (rows.Made proc made) other = refl
unasked req p (rows.Delivered proc) other = refl
unasked req p (rows.Killed proc death) other = refl
unasked req p (rows.Evicted state) other = refl

or_first : (b c : Bool) → (b || c) ≡ false → b ≡ false
or_first true c e = cc
or_first false c e = refl

or_second : (b c : Bool) → (b || c) ≡ false → c ≡ false
or_second true c e = absurd cc
or_second false c e = e

unasked_fold : (req : ReqId) (log : List LogRow) (p : PromptReader) → is_asked req.0 log ≡ false → (read_on req p log).is_prompted ≡ p.is_prompted
unasked_fold req [] p none = refl
unasked_fold req (row ∷ log) p none =
    unasked_fold req log (prompt_after req p row.row) (or_second (asks_about req.0 (prompted_by row.row)) (is_asked req.0 log) none)
    ∙ unasked req p row.row (or_first (asks_about req.0 (prompted_by row.row)) (is_asked req.0 log) none)

down_of : (p : PromptReader) → p.is_prompted ≡ false → reads_up p ≡ false
down_of p none = rw none refl

-- a request that no row asks about
never_asked : (log : List LogRow) (n : ℕ) → is_asked (n + 1) log ≡ false → holds is_prompt_up (slice_get (seen_of log).requests n) ≡ false
never_asked log n none =
    let req : ReqId = record { 0 = n + 1 } in
    let whole : read_on req (read_on req (no_prompt req) log) (drop (length log) log) ≡ read_on req (no_prompt req) log =
    ap (λ (l : List LogRow). read_on req (read_on req (no_prompt req) log) l) (let empty : drop (length log) log ≡ [] = grind (arith, common_steps) in empty) in
    let up : reads_up (read_on req (no_prompt req) log) ≡ holds is_prompt_up (request_of (seen_of log) req) = prompt_read req (read_on req (no_prompt req) log) (length log) log (omega arith) (omega arith) whole in
    let at : request_in (seen_of log).requests req ≡ slice_get (seen_of log).requests n = in_place (seen_of log).requests req n refl in
    ap (λ (o : Option Asked). holds is_prompt_up o) (sym at) ∙ sym up ∙ down_of (read_on req (no_prompt req) log) (unasked_fold req log (no_prompt req) none)

-- ---- all requests

all_down : (asked : List Asked) → ((n : ℕ) → holds is_prompt_up (slice_get asked n) ≡ false) → list_all (λ (q : Asked). not (is_prompt_up q)) asked ≡ true
all_down [] down = refl
all_down (q ∷ asked) down = let here : is_prompt_up q ≡ false = down 0 in rw here (all_down asked (λ n. down (suc n)))

one_up : (asked : List Asked) (n : ℕ) → holds is_prompt_up (slice_get asked n) ≡ true → list_all (λ (q : Asked). not (is_prompt_up q)) asked ≡ false
one_up [] n up = absurd cc
one_up (q ∷ asked) zero up = rw up refl
one_up (q ∷ asked) (suc n) up = and_false (not (is_prompt_up q)) (list_all (λ (r : Asked). not (is_prompt_up r)) asked) (one_up asked n up)
  where
    and_false : (b c : Bool) → c ≡ false → (b && c) ≡ false
    and_false true c e = e
    and_false false c e = refl

-- those that rows ask about are down
abbrev pub AreDown : List LogRow → List LogRow → Type 0
AreDown log done = (n : ℕ) → is_asked (n + 1) done ≡ true → holds is_prompt_up (slice_get (seen_of log).requests n) ≡ false

pub down_none : (log : List LogRow) → AreDown log []
down_none log = λ n asked. absurd cc

down_more : (log done : List LogRow) (row : LogRow) (asked : Option ReqId) → prompted_by row.row ≡ asked → AreDown log done → ((req : ReqId) → asked ≡ Some req → holds is_prompt_up (request_of (seen_of log) req) ≡ false) → AreDown log (done ++ row ∷ [])
down_more log done row asked is before now = λ n test. by_tests n asked is now (is_asked (n + 1) done) refl (sym (list_any-append (λ (r : LogRow). asks_about (n + 1) (prompted_by r.row)) done (row ∷ [])) ∙ test)
  where
    by_tests : (n : ℕ) (asked : Option ReqId) → prompted_by row.row ≡ asked → ((req : ReqId) → asked ≡ Some req → holds is_prompt_up (request_of (seen_of log) req) ≡ false) → (b : Bool) → is_asked (n + 1) done ≡ b → (is_asked (n + 1) done || (asks_about (n + 1) (prompted_by row.row) || false)) ≡ true → holds is_prompt_up (slice_get (seen_of log).requests n) ≡ false
    by_tests n o is_ now_ true old test = before n old
    by_tests n None is_ now_ false old test = absurd (let e : false ≡ true = rw (old, is_) at test in cc)
    by_tests n (Some req) is_ now_ false old test =
        let here : ((req.0 == (n + 1)) || false) ≡ true = rw (old, is_) at test in
        let number : req.0 ≡ n + 1 = by_number (req.0 == (n + 1)) refl here in
        ap (λ (o : Option Asked). holds is_prompt_up o) (sym (in_place (seen_of log).requests req n number)) ∙ now_ req refl
      where
        by_number : (b : Bool) → (req.0 == (n + 1)) ≡ b → (b || false) ≡ true → req.0 ≡ n + 1
        by_number true e t = grind (arith, nat_tests)
        by_number false e t = absurd cc

-- a row that asks about nothing
pub down_skip : (log : List LogRow) (i : ℕ) (row : LogRow) (asked : Option ReqId) → i < length log → row ≡ get_or log i row → asked ≡ prompted_by row.row → asked ≡ None → AreDown log (take i log) → AreDown log (take (i + 1) log)
down_skip log i row asked within at is none before =
    rw (take_more log i row within at) (down_more log (take i log) row None (sym is ∙ none) before (λ req e. absurd cc))

-- a row that asks about a request whose prompt is down
pub down_one : (log : List LogRow) (i : ℕ) (row : LogRow) (asked : Option ReqId) (req : ReqId) (b : Bool) → i < length log → row ≡ get_or log i row → asked ≡ prompted_by row.row → asked ≡ Some req → b ≡ holds is_prompt_up (request_of (seen_of log) req) → b ≡ false → AreDown log (take i log) → AreDown log (take (i + 1) log)
down_one log i row asked req b within at is some test down before =
    rw (take_more log i row within at) (down_more log (take i log) row (Some req) (sym is ∙ some) before (λ r e. let same : req ≡ r = cc in ap (λ (x : ReqId). holds is_prompt_up (request_of (seen_of log) x)) (sym same) ∙ sym test ∙ down))

-- at the end
pub quiet_found : (log : List LogRow) (i : ℕ) → length log ≤ i → AreDown log (take i log) → list_all (λ (q : Asked). not (is_prompt_up q)) (seen_of log).requests ≡ true
quiet_found log i past before =
    let whole : take i log ≡ log = grind (arith, common_steps) in
    let all : AreDown log log = rw whole at before in
    all_down (seen_of log).requests (λ n. by_test n (is_asked (n + 1) log) refl all)
  where
    by_test : (n : ℕ) (b : Bool) → is_asked (n + 1) log ≡ b → AreDown log log → holds is_prompt_up (slice_get (seen_of log).requests n) ≡ false
    by_test n true asked all = all n asked
    by_test n false asked all = never_asked log n asked

pub up_found : (log : List LogRow) (req : ReqId) (b : Bool) → b ≡ holds is_prompt_up (request_of (seen_of log) req) → b ≡ true → list_all (λ (q : Asked). not (is_prompt_up q)) (seen_of log).requests ≡ false
up_found log req b test up = by_number (req.0 == 0) refl
  where
    by_number : (z : Bool) → (req.0 == 0) ≡ z → list_all (λ (q : Asked). not (is_prompt_up q)) (seen_of log).requests ≡ false
    by_number true none = absurd (let e : false ≡ true = ap (λ (o : Option Asked). holds is_prompt_up o) (let no_one : None ≡ request_in (seen_of log).requests req = rw none refl in no_one) ∙ sym test ∙ up in cc)
    by_number false some =
        let positive : 0 < req.0 = grind (arith, nat_tests) in
        let number : req.0 ≡ (req.0 - 1) + 1 = omega (arith, positive) in
        one_up (seen_of log).requests (req.0 - 1) (ap (λ (o : Option Asked). holds is_prompt_up o) (sym (in_place (seen_of log).requests req (req.0 - 1) number)) ∙ sym test ∙ up)
