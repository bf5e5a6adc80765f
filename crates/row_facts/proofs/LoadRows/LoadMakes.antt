-- The document of a load that has passed may be made, wherever in its event that is.
use Rattle.row_facts.specs.LoadRows.LoadMaking.{IsAloneWith, IsMakeOfLoadDue, is_ongoing_of}
use Rattle.log_model.proofs.Refl.{bytes_eq_refl, nat_eq_refl}
use Rattle.log_model.specs.ActsAtOnce.{is_order_of_use}
use Rattle.log_model.specs.Checks.{is_checked, is_sent_in_time, may_go_on, settles_duly}
use Rattle.log_model.specs.Events.{Point}
use Rattle.log_model.specs.Orders.{Question, has_cause, is_addressed, is_for, is_populated_duly, needs_document, ongoing_load, populates_load, populates_target}
use Rattle.log_model.specs.Places.{has_passed, is_ongoing_load}
use Rattle.log_model.specs.Seen.{Asked, Document, Seen, desk_of, request_of}
use Rattle.log_model.specs.Suits.{is_discarded_suitably, is_sent_home}
use Rattle.log_model.specs.declared.header.Header.{Header}
use Rattle.log_model.specs.declared.job.Job.{Job}
use Rattle.log_model.specs.declared.job.Task.{Task}
use Rattle.log_model.specs.declared.job.Why.{Why}
use Rattle.log_model.specs.declared.row_kind.Actor.{Actor}
use Rattle.log_model.specs.declared.row_kind.LogRow.{LogRow}
use Rattle.seen_laws.proofs.InEvents.{IsQuiet}
use Rattle.seen_laws.proofs.Sendings.{both, led_follows, order_row}
use Rattle.seen_laws.proofs.Startings.{implied}
use Rattle.seen_laws.specs.Blocks.{Here, MayLog, Passes, point_at}
use Rattle.seen_laws.specs.InEvent.{Anything, InEvent}
use Rattle.seen_laws.specs.Sending.{IsNumbered, is_led, is_passed}
use Rattle.std.proofs.Common.{Bool, List, None, Option, Some, [], arith, cond, false, length, not, refl, subst, sym, true, ℕ, zero, suc, ◌&&◌, ◌+◌, ◌-◌, ◌==◌, ◌∷◌, ◌≡◌}
use Rattle.std.proofs.lemmas.Bool.{or_left}
use Rattle.std.proofs.lemmas.Bool.Decides.{nat_tests}
use Rattle.std.specs.List.{list_all}
use Rattle.std.specs.Prelude.{filter, find, slice_get}
use Rattle.tab_ids.specs.declared.NavId.{NavId}
use Rattle.tab_ids.specs.declared.ReqId.{ReqId}
use Rattle.tab_ids.specs.declared.StateId.{StateId}
use Rattle.log_model.specs.declared.job.Task.TheVariants as tasks
use Rattle.log_model.specs.declared.job.Why.TheVariants as whys
use Rattle.log_model.specs.declared.row_kind.RowKind.TheVariants as rows

quiet_if : (b : Bool) → (let o : Option Question = cond b None None in o) ≡ None
quiet_if true = refl
quiet_if false = refl

-- the order asks no document
pub make_load_quiet : (e : InEvent) (job : Job) (nav : NavId) (state : StateId) (address : List ℕ) → job.task ≡ tasks.Populate nav state address false → IsQuiet e (rows.Sent job)
make_load_quiet e job nav state address is req = rw is (quiet_if (is_for req job))

-- ---- the unload check

-- a request that has passed it may go on
pub passed_goes_on : (s : Seen) (req : ReqId) (q : Asked) → request_of s req ≡ Some q → has_passed s q ≡ true → may_go_on s req ≡ true
passed_goes_on s req q at passed = rw at (implied (is_checked q) passed)

-- ---- the load of a document state, and whether its document is to be made

find_alone : {A : Type 0} (test : A → Bool) (xs : List A) (n : ℕ) (x : A) → slice_get xs n ≡ Some x → test x ≡ true → ((m : ℕ) (y : A) → (m == n) ≡ false → slice_get xs m ≡ Some y → test y ≡ false) → find test xs ≡ Some x
find_alone test [] n x at is others = cc
find_alone test (w ∷ xs) zero x at is others =
    let same : w ≡ x = cc in rw same (rw is refl)
find_alone test (w ∷ xs) (suc n) x at is others =
    let not_it : test w ≡ false = others zero w (grind (arith, nat_tests)) refl in
    rw not_it (find_alone test xs n x at is (λ m y apart there. others (suc m) y (grind (arith, nat_tests, apart)) there))

-- it is found by the state, where no other ongoing load has it
pub ongoing_there : (s : Seen) (req : ReqId) (q : Asked) (state : StateId) → request_of s req ≡ Some q → is_ongoing_load q ≡ true → q.state ≡ Some state → IsAloneWith s req state → ongoing_load s state ≡ Some q
ongoing_there s req q state at ongoing its alone = by_number (req.0 == 0) refl at
  where
    own : is_ongoing_of state q ≡ true
    own = rw its (rw (ongoing, nat_eq_refl state.0) refl)

    other_at : (m : ℕ) (x : Asked) → (req.0 == 0) ≡ false → (m == (req.0 - 1)) ≡ false → slice_get s.requests m ≡ Some x → is_ongoing_of state x ≡ false
    other_at m x real apart there =
        let above : (suc m == 0) ≡ false = grind (arith, nat_tests) in
        let before : (suc m - 1) ≡ m = omega arith in
        let number : ReqId = record { 0 = suc m } in
        let found : request_of s number ≡ Some x = rw above (rw before there) in
        alone number x (grind (arith, nat_tests, apart, real)) found

    by_number : (b : Bool) → (req.0 == 0) ≡ b → (let o : Option Asked = cond b None (slice_get s.requests (req.0 - 1)) in o) ≡ Some q → find (is_ongoing_of state) s.requests ≡ Some q
    by_number true is there = cc
    by_number false is there =
        find_alone (is_ongoing_of state) s.requests (req.0 - 1) q there own (λ m x apart found. other_at m x is apart found)

none_of : {A : Type 0} (test : A → Bool) (xs : List A) → list_all (λ (x : A). not (test x)) xs ≡ true → filter test xs ≡ []
none_of test [] none = refl
none_of {A} test (x ∷ xs) none = by_test (test x) (none_of test xs) none
  where
    by_test : (b : Bool) → (list_all (λ (x : A). not (test x)) xs ≡ true → filter test xs ≡ []) → (not b && list_all (λ (x : A). not (test x)) xs) ≡ true → (let l : List A = cond b (x ∷ filter test xs) (filter test xs) in l) ≡ []
    by_test true more is = cc
    by_test false more is = more is

-- a state that no document has needs one
pub needs_first : (s : Seen) (nav : NavId) (state : StateId) → list_all (λ (d : Document). not (d.state.0 == state.0)) s.documents ≡ true → needs_document s nav state ≡ true
needs_first s nav state none = rw (none_of (λ (d : Document). d.state.0 == state.0) s.documents none) refl

-- ---- the order

-- it comes no sooner than it may
make_in_time : (p : Point) (job : Job) (nav : NavId) (state : StateId) (address : List ℕ) (why : Why) → is_passed p.now (tasks.Populate nav state address false) why ≡ true → is_sent_in_time p job.doc why (tasks.Populate nav state address false) ≡ true
make_in_time p job nav state address (whys.Req req) passed = passed
make_in_time p job nav state address (whys.Death death) passed = refl
make_in_time p job nav state address whys.Evict passed = refl
make_in_time p job nav state address whys.Start passed = refl

-- its cause
pub make_load_caused : (header : Header) (s : Seen) (job : Job) (nav : NavId) (state : StateId) (address : List ℕ) → IsMakeOfLoadDue header s job nav state address → is_populated_duly s nav state address false ≡ true
make_load_caused header s job nav state address due =
    let loads : populates_load s nav state address false ≡ true = rw due.loads (rw due.what (rw (due.checked, nat_eq_refl nav.0, bytes_eq_refl address) refl)) in
    both (or_left _ (populates_target s nav state address false) loads) due.needs

pub make_load_may : (h : Here) (event : ℕ) (actor : Actor) (job : Job) (nav : NavId) (state : StateId) (address : List ℕ) → is_led h.done ≡ true → IsNumbered h.now job → IsMakeOfLoadDue h.header h.now job nav state address → MayLog h (order_row event actor job ∷ []) Anything
make_load_may h event actor job nav state address led numbered due later rest = (passes, tt)
  where
    task : Task
    task = tasks.Populate nav state address false

    p : Point
    p = point_at h later

    row : LogRow
    row = order_row event actor job

    nr : (job.nr.0 == (h.now.jobs + 1)) ≡ true
    nr = rw numbered.number (nat_eq_refl (h.now.jobs + 1))

    known : (job.incarnation == (desk_of h.now job.proc).known) ≡ true
    known = rw numbered.incarnation (nat_eq_refl (desk_of h.now job.proc).known)

    addressed : is_addressed h.now job task ≡ true
    addressed = rw due.next (nat_eq_refl (length h.now.documents + 1))

    passed : is_passed h.now task job.why ≡ true
    passed = subst (λ (t : Task). is_passed h.now t job.why ≡ true) due.task due.passed

    passes : Passes h.header p row
    passes =
        record {
          formed = both (led_follows h.done p row refl led refl) refl;
          once = refl;
          caused = refl;
          queued = refl;
          ordered = subst (λ (t : Task). (job.nr.0 == (h.now.jobs + 1) && is_addressed h.now job t && job.incarnation == (desk_of h.now job.proc).known && has_cause p row job t) ≡ true) (sym due.task) (both (both (both nr addressed) known) (make_load_caused h.header h.now job nav state address due));
          checked = subst (λ (t : Task). (is_sent_in_time p job.doc job.why t && settles_duly p row t) ≡ true) (sym due.task) (both (make_in_time p job nav state address job.why passed) refl);
          in_time = subst (λ (t : Task). is_order_of_use h.now job t ≡ true) (sym due.task) refl;
          suits = subst (λ (t : Task). (is_sent_home h.header h.now job t && is_discarded_suitably h.header p row job t) ≡ true) (sym due.task) (both due.home refl);
        }
