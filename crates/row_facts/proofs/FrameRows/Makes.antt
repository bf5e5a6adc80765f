-- A document that is due to be made may be, wherever in its event it is.
use Rattle.row_facts.specs.FrameRows.Making.{IsMakeDue}
use Rattle.log_model.proofs.Refl.{bytes_eq_refl, nat_eq_refl}
use Rattle.log_model.specs.ActsAtOnce.{is_order_of_use}
use Rattle.log_model.specs.AfterRequests.{is_initial_state}
use Rattle.log_model.specs.Checks.{is_sent_in_time, settles_duly}
use Rattle.log_model.specs.Equal.{same_bool}
use Rattle.log_model.specs.Events.{Point}
use Rattle.log_model.specs.Orders.{Question, has_cause, is_addressed, is_for, is_populated_duly, populates_load, populates_target}
use Rattle.log_model.specs.Seen.{Seen, desk_of}
use Rattle.log_model.specs.Suits.{is_discarded_suitably, is_sent_home}
use Rattle.log_model.specs.declared.header.Header.{Header}
use Rattle.log_model.specs.declared.job.Job.{Job}
use Rattle.log_model.specs.declared.job.Task.{Task}
use Rattle.log_model.specs.declared.job.Why.{Why}
use Rattle.log_model.specs.declared.row_kind.Actor.{Actor}
use Rattle.log_model.specs.declared.row_kind.LogRow.{LogRow}
use Rattle.seen_laws.proofs.InEvents.{IsQuiet}
use Rattle.seen_laws.proofs.Sendings.{both, led_follows, order_row}
use Rattle.seen_laws.specs.Blocks.{Here, MayLog, Passes, point_at}
use Rattle.seen_laws.specs.InEvent.{Anything, InEvent}
use Rattle.seen_laws.specs.Sending.{IsNumbered, is_led, is_passed}
use Rattle.std.proofs.Common.{Bool, List, None, Option, [], cond, false, length, refl, subst, sym, true, ℕ, ◌&&◌, ◌+◌, ◌==◌, ◌||◌, ◌∷◌, ◌≡◌}
use Rattle.std.specs.Prelude.{bytes_eq}
use Rattle.tab_ids.specs.declared.NavId.{NavId}
use Rattle.tab_ids.specs.declared.ReqId.{ReqId}
use Rattle.tab_ids.specs.declared.StateId.{StateId}
use Rattle.log_model.specs.declared.job.Task.TheVariants as tasks
use Rattle.log_model.specs.declared.job.Why.TheVariants as whys
use Rattle.log_model.specs.declared.row_kind.RowKind.TheVariants as rows

make_quiet_if : (req : ReqId) (job : Job) (b : Bool) → (let o : Option Question = cond b None None in o) ≡ None
make_quiet_if req job true = refl
make_quiet_if req job false = refl

-- the order asks no document
pub make_quiet : (e : InEvent) (job : Job) (nav : NavId) (state : StateId) (address : List ℕ) (initial : Bool) → job.task ≡ tasks.Populate nav state address initial → IsQuiet e (rows.Sent job)
make_quiet e job nav state address initial is req = rw is (make_quiet_if req job (is_for req job))

-- it comes no sooner than it may
make_in_time : (p : Point) (job : Job) (nav : NavId) (state : StateId) (address : List ℕ) (initial : Bool) (why : Why) → is_passed p.now (tasks.Populate nav state address initial) why ≡ true → is_sent_in_time p job.doc why (tasks.Populate nav state address initial) ≡ true
make_in_time p job nav state address initial (whys.Req req) passed = passed
make_in_time p job nav state address initial (whys.Death death) passed = refl
make_in_time p job nav state address initial whys.Evict passed = refl
make_in_time p job nav state address initial whys.Start passed = refl

same_bool_refl : (b : Bool) → same_bool b b ≡ true
same_bool_refl true = refl
same_bool_refl false = refl

or_second : (a : Bool) {b : Bool} → b ≡ true → (a || b) ≡ true
or_second true is = refl
or_second false is = is

-- its cause
pub make_caused : (header : Header) (s : Seen) (job : Job) (nav : NavId) (state : StateId) (address : List ℕ) (initial : Bool) → IsMakeDue header s job nav state address initial → is_populated_duly s nav state address initial ≡ true
make_caused header s job nav state address initial due =
    let one : (due.target.state.0 == state.0) ≡ true = rw due.state_is (nat_eq_refl state.0) in
    let two : bytes_eq due.target.address address ≡ true = rw due.address_is (bytes_eq_refl address) in
    let three : same_bool initial (is_initial_state s state) ≡ true = rw due.initial_is (same_bool_refl initial) in
    let targets : populates_target s nav state address initial ≡ true = rw due.shown (rw due.at (both (both one two) three)) in
    both (or_second (populates_load s nav state address initial) targets) due.needs

pub make_may : (h : Here) (event : ℕ) (actor : Actor) (job : Job) (nav : NavId) (state : StateId) (address : List ℕ) (initial : Bool) → is_led h.done ≡ true → IsNumbered h.now job → IsMakeDue h.header h.now job nav state address initial → MayLog h (order_row event actor job ∷ []) Anything
make_may h event actor job nav state address initial led numbered due later rest = (passes, tt)
  where
    task : Task
    task = tasks.Populate nav state address initial

    p : Point
    p = point_at h later

    row : LogRow
    row = order_row event actor job

    nr : (job.nr.0 == (h.now.jobs + 1)) ≡ true
    nr = rw numbered.number (nat_eq_refl (h.now.jobs + 1))

    known : (job.incarnation == (desk_of h.now job.proc).known) ≡ true
    known = rw numbered.incarnation (nat_eq_refl (desk_of h.now job.proc).known)

    addressed : is_addressed h.now job task ≡ true
    addressed = rw due.next (nat_eq_refl (length h.now.documents + 1))

    passed : is_passed h.now task job.why ≡ true
    passed = subst (λ (t : Task). is_passed h.now t job.why ≡ true) due.task due.passed

    passes : Passes h.header p row
    passes =
        record {
          formed = both (led_follows h.done p row refl led refl) refl;
          once = refl;
          caused = refl;
          queued = refl;
          ordered = subst (λ (t : Task). (job.nr.0 == (h.now.jobs + 1) && is_addressed h.now job t && job.incarnation == (desk_of h.now job.proc).known && has_cause p row job t) ≡ true) (sym due.task) (both (both (both nr addressed) known) (make_caused h.header h.now job nav state address initial due));
          checked = subst (λ (t : Task). (is_sent_in_time p job.doc job.why t && settles_duly p row t) ≡ true) (sym due.task) (both (make_in_time p job nav state address initial job.why passed) refl);
          in_time = subst (λ (t : Task). is_order_of_use h.now job t ≡ true) (sym due.task) refl;
          suits = subst (λ (t : Task). (is_sent_home h.header h.now job t && is_discarded_suitably h.header p row job t) ≡ true) (sym due.task) (both due.home refl);
        }
