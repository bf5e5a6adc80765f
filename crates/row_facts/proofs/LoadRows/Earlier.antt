-- What each row leaves of the earlier loads of a navigable: none comes to be ongoing, unless one begins, and one that is dropped is so no more.
use Rattle.row_facts.proofs.LoadRows.Begins.{begun_row}
use Rattle.row_facts.proofs.LoadRows.Drops.{dropped_row}
use Rattle.row_facts.specs.LoadRows.Beginning.{BeginsAlone, HasNoOther, IsLoadToBegin, begins_no_earlier, begins_none, is_earlier_load, is_out_of_way}
use Rattle.log_model.specs.After.{after, new_request, requests_after}
use Rattle.log_model.specs.AfterRequests.{on_request, on_served, request_served, requests_delivered, requests_finished, requests_sent, requests_told}
use Rattle.log_model.specs.Equal.{holds}
use Rattle.log_model.specs.Once.{has_no_earlier_load, loads}
use Rattle.log_model.specs.Orders.{question_in}
use Rattle.log_model.specs.Places.{is_load}
use Rattle.log_model.specs.Seen.{Asked, Document, Seen, desk_of, document_of, request_in, request_of}
use Rattle.log_model.specs.declared.job.Job.{Job}
use Rattle.log_model.specs.declared.job.Order.{Order}
use Rattle.log_model.specs.declared.job.Task.{Task}
use Rattle.log_model.specs.declared.job.Why.{Why}
use Rattle.log_model.specs.declared.made.Made.{Made}
use Rattle.log_model.specs.declared.made.Report.{Report}
use Rattle.log_model.specs.declared.outcome.Cause.{Cause}
use Rattle.log_model.specs.declared.outcome.Ending.{Ending}
use Rattle.log_model.specs.declared.outcome.Outcome.{Outcome}
use Rattle.log_model.specs.declared.request.Mode.{Mode}
use Rattle.log_model.specs.declared.row_kind.Actor.{Actor}
use Rattle.log_model.specs.declared.row_kind.LogRow.{LogRow}
use Rattle.log_model.specs.declared.row_kind.RowKind.{RowKind}
use Rattle.seen_laws.proofs.Sendings.{both}
use Rattle.seen_laws.specs.Blocks.{Here}
use Rattle.std.proofs.Common.{Bool, List, None, Option, Some, [], ap, arith, cond, false, inl, inr, not, refl, subst, sym, true, ℕ, zero, suc, ◌&&◌, ◌++◌, ◌-◌, ◌==◌, ◌∙◌, ◌∷◌, ◌≡◌, ◌⊎◌}
use Rattle.std.proofs.lemmas.Bool.{and_parts}
use Rattle.std.proofs.lemmas.Bool.Decides.{nat_tests}
use Rattle.std.specs.List.{list_all}
use Rattle.std.specs.Option.{option_map_or}
use Rattle.std.specs.Prelude.{filter_map, fold, is_none, nat_lt, slice_get, slice_set}
use Rattle.tab_ids.specs.declared.NavId.{NavId}
use Rattle.tab_ids.specs.declared.ReqId.{ReqId}
use Rattle.log_model.specs.declared.job.Task.TheVariants as tasks
use Rattle.log_model.specs.declared.job.Why.TheVariants as whys
use Rattle.log_model.specs.declared.made.Report.TheVariants as reports
use Rattle.log_model.specs.declared.outcome.Ending.TheVariants as endings
use Rattle.log_model.specs.declared.outcome.Outcome.TheVariants as outcomes
use Rattle.log_model.specs.declared.row_kind.RowKind.TheVariants as rows

-- ---- a test of all items

all_get : {A : Type 0} (test : A → Bool) (xs : List A) (n : ℕ) (x : A) → list_all test xs ≡ true → slice_get xs n ≡ Some x → test x ≡ true
all_get test [] n x all at = cc
all_get test (y ∷ xs) zero x all at =
    let is : test y ≡ true = (and_parts (test y) (list_all test xs) all).0 in
    let same : y ≡ x = cc in
    rw (sym same) is
all_get test (y ∷ xs) (suc n) x all at = all_get test xs n x (and_parts (test y) (list_all test xs) all).1 at

pub all_from : {A : Type 0} (test : A → Bool) (xs : List A) → ((m : ℕ) (x : A) → slice_get xs m ≡ Some x → test x ≡ true) → list_all test xs ≡ true
all_from test [] each = refl
all_from test (x ∷ xs) each = both (each zero x refl) (all_from test xs (λ m y at. each (suc m) y at))

-- ---- what is at a place, where one item is set or comes last

set_cases : {A : Type 0} (xs : List A) (n m : ℕ) (x y z : A) → slice_get xs n ≡ Some x → slice_get (slice_set xs n y) m ≡ Some z → ((slice_get xs m ≡ Some z) × ((m == n) ≡ false)) ⊎ ((m ≡ n) × (y ≡ z))
set_cases [] n m x y z there at = cc
set_cases (w ∷ xs) zero zero x y z there at = inr (refl, cc)
set_cases (w ∷ xs) zero (suc m) x y z there at = inl (at, grind (arith, nat_tests))
set_cases (w ∷ xs) (suc n) zero x y z there at = inl (at, grind (arith, nat_tests))
set_cases {A} (w ∷ xs) (suc n) (suc m) x y z there at = one_on (set_cases xs n m x y z there at)
  where
    one_on : ((slice_get xs m ≡ Some z) × ((m == n) ≡ false)) ⊎ ((m ≡ n) × (y ≡ z)) → ((slice_get xs m ≡ Some z) × ((suc m == suc n) ≡ false)) ⊎ ((suc m ≡ suc n) × (y ≡ z))
    one_on (inl is) = inl (is.0, grind (arith, nat_tests, is.1))
    one_on (inr is) = inr (ap (λ (k : ℕ). suc k) is.0, is.1)

last_cases : {A : Type 0} (xs : List A) (m : ℕ) (y z : A) → slice_get (xs ++ y ∷ []) m ≡ Some z → (slice_get xs m ≡ Some z) ⊎ (y ≡ z)
last_cases [] zero y z at = inr cc
last_cases [] (suc m) y z at = cc
last_cases (x ∷ xs) zero y z at = inl at
last_cases (x ∷ xs) (suc m) y z at = last_cases xs m y z at

-- ---- one request

module _ (req : ReqId) (nav : NavId) where
  -- a request that has ended is no ongoing load
  ended_out : (q : Asked) (ending : Ending) → is_out_of_way req nav (record q { ending = Some ending }) ≡ true
  ended_out q ending = never q.is_started (is_load q.what) (nat_lt q.nr.0 req.0) (loads nav q.what)
    where
      never : (a b c d : Bool) → not (((a && false) && b) && c && d) ≡ true
      never true b c d = refl
      never false b c d = refl

  -- nor is one that begins, where it is no earlier load of the navigable
  begun_out : (q : Asked) (is : Bool) → not (is_earlier_load req nav q) ≡ true → is_out_of_way req nav (record q { is_started = is }) ≡ true
  begun_out q is other = apart (is && is_none q.ending) (is_load q.what) (nat_lt q.nr.0 req.0) (loads nav q.what) other
    where
      apart : (a b c d : Bool) → not (c && d) ≡ true → not ((a && b) && c && d) ≡ true
      apart true true c d none = none
      apart true false c d none = refl
      apart false b c d none = refl

  started_out : (s : Seen) (r : ReqId) (o : Option Asked) → request_of s r ≡ o → not (holds (is_earlier_load req nav) o) ≡ true → (q : Asked) → request_of s r ≡ Some q → (is : Bool) → is_out_of_way req nav (record q { is_started = is }) ≡ true
  started_out s r None at none q there is = let both_ : None ≡ Some q = sym at ∙ there in cc
  started_out s r (Some x) at none q there is =
      let both_ : Some x ≡ Some q = sym at ∙ there in
      let same : x ≡ q = cc in
      begun_out q is (rw (sym same) none)

-- ---- requests among which no earlier load is ongoing, but for some places that are passed over

module _ (req : ReqId) (nav : NavId) (skip : ℕ → Bool) where
  abbrev pub AreOut : List Asked → Type 0
  AreOut asked = (m : ℕ) (q : Asked) → skip m ≡ false → slice_get asked m ≡ Some q → is_out_of_way req nav q ≡ true

  -- the change makes no request an ongoing load
  abbrev pub IsHarmless : (Asked → Asked) → Type 0
  IsHarmless f = (q : Asked) → is_out_of_way req nav q ≡ true → is_out_of_way req nav (f q) ≡ true

  found_out : (asked : List Asked) (r : ReqId) (f : Asked → Asked) → ((q : Asked) → request_in asked r ≡ Some q → is_out_of_way req nav q ≡ true → is_out_of_way req nav (f q) ≡ true) → AreOut asked → AreOut (on_request r f asked)
  found_out asked r f keeps out m q counts = by_number (r.0 == 0) keeps
    where
      by_case : (n : ℕ) (x : Asked) → slice_get asked n ≡ Some x → (is_out_of_way req nav x ≡ true → is_out_of_way req nav (f x) ≡ true) → ((slice_get asked m ≡ Some q) × ((m == n) ≡ false)) ⊎ ((m ≡ n) × (f x ≡ q)) → is_out_of_way req nav q ≡ true
      by_case n x there kept (inl at) = out m q counts at.0
      by_case n x there kept (inr is) =
          let here : slice_get asked m ≡ Some x = ap (λ (k : ℕ). slice_get asked k) is.0 ∙ there in
          subst (λ (new : Asked). is_out_of_way req nav new ≡ true) is.1 (kept (out m x counts here))

      by_found : (o : Option Asked) → slice_get asked (r.0 - 1) ≡ o → ((x : Asked) → o ≡ Some x → is_out_of_way req nav x ≡ true → is_out_of_way req nav (f x) ≡ true) → slice_get (option_map_or (λ q. slice_set asked (r.0 - 1) (f q)) o asked) m ≡ Some q → is_out_of_way req nav q ≡ true
      by_found None there kept at = out m q counts at
      by_found (Some x) there kept at =
          by_case (r.0 - 1) x there (kept x refl) (set_cases asked (r.0 - 1) m x (f x) q there at)

      by_number : (b : Bool) → ((x : Asked) → (let o : Option Asked = cond b None (slice_get asked (r.0 - 1)) in o) ≡ Some x → is_out_of_way req nav x ≡ true → is_out_of_way req nav (f x) ≡ true) → slice_get (option_map_or (λ q. slice_set asked (r.0 - 1) (f q)) (cond b None (slice_get asked (r.0 - 1))) asked) m ≡ Some q → is_out_of_way req nav q ≡ true
      by_number true kept at = out m q counts at
      by_number false kept at = by_found (slice_get asked (r.0 - 1)) refl kept at

  on_out : (asked : List Asked) (r : ReqId) (f : Asked → Asked) → IsHarmless f → AreOut asked → AreOut (on_request r f asked)
  on_out asked r f harmless out = found_out asked r f (λ q at is. harmless q is) out

  -- ---- orders

  served_harmless : (s : Seen) (job : Job) (task : Task) → IsHarmless (request_served s job task)
  served_harmless s job (tasks.Activate entry epoch length index memo address) q is = by_document (document_of s job.doc) refl
    where
      by_document : (o : Option Document) → document_of s job.doc ≡ o → is_out_of_way req nav (request_served s job (tasks.Activate entry epoch length index memo address) q) ≡ true
      by_document None at = rw at is
      by_document (Some d) at = rw at is
  served_harmless s job tasks.Freeze q is = is
  served_harmless s job tasks.Discard q is = is
  served_harmless s job (tasks.Ask slot cause) q is = is
  served_harmless s job (tasks.Populate n state address initial) q is = is
  served_harmless s job (tasks.Update length index) q is = is
  served_harmless s job (tasks.DoFragment r mode address) q is = is

  served_out : (why : Why) (f : Asked → Asked) (asked : List Asked) → IsHarmless f → AreOut asked → AreOut (on_served why f asked)
  served_out (whys.Req r) f asked harmless out = on_out asked r f harmless out
  served_out (whys.Death death) f asked harmless out = out
  served_out whys.Evict f asked harmless out = out
  served_out whys.Start f asked harmless out = out

  sent_out : (s : Seen) (job : Job) (task : Task) (asked : List Asked) → AreOut asked → AreOut (requests_sent s job task asked)
  sent_out s job (tasks.DoFragment r mode address) asked out = on_out asked r _ (λ q is. is) out
  sent_out s job (tasks.Populate n state address initial) asked out = out
  sent_out s job (tasks.Update length index) asked out = out
  sent_out s job (tasks.Activate entry epoch length index memo address) asked out =
      served_out job.why _ asked (served_harmless s job (tasks.Activate entry epoch length index memo address)) out
  sent_out s job tasks.Freeze asked out = served_out job.why _ asked (served_harmless s job tasks.Freeze) out
  sent_out s job tasks.Discard asked out = served_out job.why _ asked (served_harmless s job tasks.Discard) out
  sent_out s job (tasks.Ask slot cause) asked out =
      served_out job.why _ asked (served_harmless s job (tasks.Ask slot cause)) out

  -- ---- what documents answer

  fragment_out : (s : Seen) (order : Order) (task : Task) (asked : List Asked) → order.job.task ≡ task → AreOut asked → AreOut (requests_finished s (Some order) outcomes.Fragmented asked)
  fragment_out s order (tasks.DoFragment r mode address) asked is out = rw is (on_out asked r _ (λ q o. o) out)
  fragment_out s order (tasks.Populate n state address initial) asked is out = rw is out
  fragment_out s order (tasks.Activate entry epoch length index memo address) asked is out = rw is out
  fragment_out s order (tasks.Update length index) asked is out = rw is out
  fragment_out s order tasks.Freeze asked is out = rw is out
  fragment_out s order tasks.Discard asked is out = rw is out
  fragment_out s order (tasks.Ask slot cause) asked is out = rw is out

  finished_out : (s : Seen) (in_hand : Option Order) (outcome : Outcome) (asked : List Asked) → AreOut asked → AreOut (requests_finished s in_hand outcome asked)
  finished_out s None outcome asked out = out
  finished_out s (Some order) (outcomes.Asked verdict) asked out = served_out order.job.why _ asked (λ q is. is) out
  finished_out s (Some order) outcomes.Fragmented asked out = fragment_out s order order.job.task asked refl out
  finished_out s (Some order) (outcomes.Populated slot) asked out = out
  finished_out s (Some order) outcomes.Activated asked out = out
  finished_out s (Some order) outcomes.Updated asked out = out
  finished_out s (Some order) outcomes.Frozen asked out = out
  finished_out s (Some order) outcomes.Discarded asked out = out

  done_out : (job : Job) (outcome : Outcome) (made : Option Made) (asked : List Asked) → AreOut asked → AreOut (requests_delivered (Some (reports.Done job outcome made)) asked)
  done_out job (outcomes.Asked verdict) made asked out = served_out job.why _ asked (λ q is. is) out
  done_out job outcomes.Fragmented made asked out = out
  done_out job (outcomes.Populated slot) made asked out = out
  done_out job outcomes.Activated made asked out = out
  done_out job outcomes.Updated made asked out = out
  done_out job outcomes.Frozen made asked out = out
  done_out job outcomes.Discarded made asked out = out

  delivered_out : (report : Option Report) (asked : List Asked) → AreOut asked → AreOut (requests_delivered report asked)
  delivered_out None asked out = out
  delivered_out (Some (reports.Made made)) asked out = out
  delivered_out (Some (reports.Done job outcome made)) asked out = done_out job outcome made asked out
  delivered_out (Some (reports.Died death)) asked out = out

  -- ---- each row

  told_out : (s : Seen) (kind : RowKind) → begins_no_earlier s req nav kind ≡ true → AreOut s.requests → AreOut (requests_told s kind (requests_after s.requests kind))
  told_out s (rows.Opened entry state doc proc slot address) none out = out
  told_out s (rows.Accepted r doc what) none out =
      λ m q counts at. by_case m q counts (last_cases s.requests m (new_request r doc what) q at)
    where
      by_case : (m : ℕ) (q : Asked) → skip m ≡ false → (slice_get s.requests m ≡ Some q) ⊎ (new_request r doc what ≡ q) → is_out_of_way req nav q ≡ true
      by_case m q counts (inl at) = out m q counts at
      by_case m q counts (inr is) = subst (λ (new : Asked). is_out_of_way req nav new ≡ true) is refl
  told_out s (rows.Started r goal) none out =
      on_out _ r _ (λ q is. is) (found_out s.requests r _ (λ q at is. started_out req nav s r (request_of s r) refl none q at true) out)
  told_out s (rows.Applied r change) none out =
      on_out _ r _ (λ q is. is) (on_out _ r _ (λ q is. is) (on_out s.requests r _ (λ q is. ended_out req nav q endings.Applied) out))
  told_out s (rows.Refused r reason) none out = on_out s.requests r _ (λ q is. ended_out req nav q (endings.Refused reason)) out
  told_out s (rows.Dropped r cause) none out = on_out s.requests r _ (λ q is. ended_out req nav q (endings.Dropped cause)) out
  told_out s (rows.Prompted r doc) none out = on_out s.requests r _ (λ q is. is) out
  told_out s (rows.Answered r stay) none out = on_out s.requests r _ (λ q is. is) out
  told_out s (rows.Sent job) none out = sent_out s job job.task s.requests out
  told_out s (rows.Taken proc job live dirty) none out = out
  told_out s (rows.Finished proc job outcome) none out =
      finished_out s (desk_of s proc).in_hand outcome s.requests out
  told_out s (rows.Made proc made) none out = on_out s.requests made.req _ (λ q is. is) out
  told_out s (rows.Delivered proc) none out =
      delivered_out (slice_get (desk_of s proc).reports 0) s.requests out
  told_out s (rows.Killed proc death) none out = out
  told_out s (rows.Evicted state) none out = out

-- where no earlier load is ongoing, none is after a row that begins none
pub no_earlier_stays : (s : Seen) (row : LogRow) (req : ReqId) (nav : NavId) → begins_no_earlier s req nav row.row ≡ true → has_no_earlier_load s req nav ≡ true → has_no_earlier_load (after s row) req nav ≡ true
no_earlier_stays s row req nav none out =
    let next = told_out req nav (λ m. false) s row.row none (λ m q counts at. all_get (is_out_of_way req nav) s.requests m q out at) in
    all_from (is_out_of_way req nav) (after s row).requests (λ m q at. next m q refl at)

-- nor after rows with which no request begins
pub no_earlier_on : (s : Seen) (later : List LogRow) (req : ReqId) (nav : NavId) → list_all begins_none later ≡ true → has_no_earlier_load s req nav ≡ true → has_no_earlier_load (fold after s later) req nav ≡ true
no_earlier_on s [] req nav none out = out
no_earlier_on s (row ∷ later) req nav none out =
    let parts = and_parts (begins_none row) (list_all begins_none later) none in
    no_earlier_on (after s row) later req nav parts.1 (no_earlier_stays s row req nav (by_kind row.row parts.0) out)
  where
    by_kind : (kind : RowKind) → begins_none (record row { row = kind }) ≡ true → begins_no_earlier s req nav kind ≡ true
    by_kind (rows.Started r goal) is = cc
    by_kind _ is = refl

-- ---- where the load of one number may be ongoing

module _ (req : ReqId) (nav : NavId) (old : ReqId) where
  -- the place of the request of that number
  abbrev is_its : ℕ → Bool
  is_its m = suc m == old.0

  above_zero : (m : ℕ) → (suc m == 0) ≡ false
  above_zero m = grind (arith, nat_tests)

  by_place : (s : Seen) → HasNoOther s req nav old → AreOut req nav is_its s.requests
  by_place s others m q apart at =
      let before : (suc m - 1) ≡ m = omega arith in
      let number : ReqId = record { 0 = suc m } in
      let there : request_of s number ≡ Some q = rw (above_zero m) (rw before at) in
      others number q apart there

  from_place : (s : Seen) → AreOut req nav is_its s.requests → HasNoOther s req nav old
  from_place s out other q apart = by_number (other.0 == 0) refl
    where
      by_number : (b : Bool) → (other.0 == 0) ≡ b → (let o : Option Asked = cond b None (slice_get s.requests (other.0 - 1)) in o) ≡ Some q → is_out_of_way req nav q ≡ true
      by_number true is at = cc
      by_number false is at =
          let same : suc (other.0 - 1) ≡ other.0 = grind (arith, nat_tests, is) in
          out (other.0 - 1) q (rw same apart) at

  -- no other is ongoing after a row that begins none
  pub no_other_stays : (s : Seen) (row : LogRow) → begins_no_earlier s req nav row.row ≡ true → HasNoOther s req nav old → HasNoOther (after s row) req nav old
  no_other_stays s row none others = from_place (after s row) (told_out req nav is_its s row.row none (by_place s others))

  -- and none at all is ongoing once that one was dropped
  pub no_earlier_dropped : (s : Seen) (event : ℕ) (actor : Actor) (cause : Cause) → HasNoOther s req nav old → has_no_earlier_load (after s (dropped_row event actor old cause)) req nav ≡ true
  no_earlier_dropped s event actor cause others = by_number (old.0 == 0) refl
    where
      out : AreOut req nav is_its s.requests
      out = by_place s others

      f : Asked → Asked
      f q = record q { ending = Some (endings.Dropped cause) }

      -- it isn't there
      by_test : (m : ℕ) (q : Asked) → slice_get s.requests (old.0 - 1) ≡ None → slice_get s.requests m ≡ Some q → (b : Bool) → is_its m ≡ b → is_out_of_way req nav q ≡ true
      by_test m q none there false apart = out m q apart there
      by_test m q none there true same =
          let is : (old.0 - 1) ≡ m = grind (arith, nat_tests, same) in
          let both_ : None ≡ Some q = sym none ∙ rw is there in cc

      -- it is there, and has ended
      by_case : (m : ℕ) (q x : Asked) → (old.0 == 0) ≡ false → ((slice_get s.requests m ≡ Some q) × ((m == (old.0 - 1)) ≡ false)) ⊎ ((m ≡ (old.0 - 1)) × (f x ≡ q)) → is_out_of_way req nav q ≡ true
      by_case m q x real (inl at) = out m q (grind (arith, nat_tests, at.1, real)) at.0
      by_case m q x real (inr at) = subst (λ (new : Asked). is_out_of_way req nav new ≡ true) at.1 (ended_out req nav x (endings.Dropped cause))

      by_found : (old.0 == 0) ≡ false → (o : Option Asked) → slice_get s.requests (old.0 - 1) ≡ o → list_all (is_out_of_way req nav) (option_map_or (λ q. slice_set s.requests (old.0 - 1) (f q)) o s.requests) ≡ true
      by_found real None at = all_from (is_out_of_way req nav) s.requests (λ m q there. by_test m q at there (is_its m) refl)
      by_found real (Some x) at =
          all_from (is_out_of_way req nav) (slice_set s.requests (old.0 - 1) (f x)) (λ m q there. by_case m q x real (set_cases s.requests (old.0 - 1) m x (f x) q at there))

      by_number : (b : Bool) → (old.0 == 0) ≡ b → list_all (is_out_of_way req nav) (option_map_or (λ q. slice_set s.requests (old.0 - 1) (f q)) (cond b None (slice_get s.requests (old.0 - 1))) s.requests) ≡ true
      by_number true is = all_from (is_out_of_way req nav) s.requests (λ m q there. out m q (grind (arith, nat_tests, is)) there)
      by_number false is = by_found is (slice_get s.requests (old.0 - 1)) refl

-- so a load may begin where no earlier one is ongoing, and none begins after it in the event
pub begins_alone : (h : Here) (event : ℕ) (actor : Actor) (req : ReqId) (nav : NavId) (mode : Mode) (address : List ℕ) (q : Asked) (later : List LogRow) → IsLoadToBegin h req nav mode address q → has_no_earlier_load h.now req nav ≡ true → list_all begins_none later ≡ true → filter_map (question_in req) later ≡ [] → BeginsAlone h (begun_row event actor req) req nav later
begins_alone h event actor req nav mode address q later is alone none unasked =
    (unasked, no_earlier_on (after h.now (begun_row event actor req)) later req nav none (no_earlier_stays h.now (begun_row event actor req) req nav itself alone))
  where
    same : nat_lt req.0 req.0 ≡ false
    same = grind (arith, nat_tests)

    itself : begins_no_earlier h.now req nav (rows.Started req None) ≡ true
    itself = rw is.at (rw is.number (rw same refl))
