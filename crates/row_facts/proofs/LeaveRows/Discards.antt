-- An order that discards a document passes, by its cause and by what makes it suit the settings.
use Rattle.row_facts.proofs.LeaveRows.Unasked.{discard_in_time, none_asked}
use Rattle.row_facts.specs.LeaveRows.Leaving.{IsDiscardOf}
use Rattle.row_facts.specs.FrameRows.Discarding.{SettlesNone}
use Rattle.log_model.proofs.Refl.{nat_eq_refl}
use Rattle.log_model.specs.ActsAtOnce.{is_order_of_use}
use Rattle.log_model.specs.After.{after}
use Rattle.log_model.specs.Checks.{is_prompted_after, is_sent_in_time, is_settled_by, settles_duly}
use Rattle.log_model.specs.Events.{Point}
use Rattle.log_model.specs.Orders.{Question, has_cause, is_addressed, is_discarded_duly, is_for}
use Rattle.log_model.specs.Seen.{Document, desk_of}
use Rattle.log_model.specs.Suits.{is_discarded_suitably, is_sent_home}
use Rattle.log_model.specs.declared.job.Job.{Job}
use Rattle.log_model.specs.declared.job.Task.{Task}
use Rattle.log_model.specs.declared.row_kind.Actor.{Actor}
use Rattle.log_model.specs.declared.row_kind.LogRow.{LogRow}
use Rattle.seen_laws.proofs.InEvents.{IsQuiet}
use Rattle.seen_laws.proofs.Sendings.{both, led_follows, order_row}
use Rattle.seen_laws.specs.Blocks.{Here, Passes, point_at}
use Rattle.seen_laws.specs.InEvent.{InEvent}
use Rattle.seen_laws.specs.Sending.{IsNumbered, is_led}
use Rattle.std.proofs.Common.{Bool, List, None, Option, cond, false, not, refl, subst, sym, true, ℕ, ◌&&◌, ◌+◌, ◌==◌, ◌||◌, ◌≡◌}
use Rattle.log_model.specs.declared.job.Task.TheVariants as tasks
use Rattle.log_model.specs.declared.row_kind.RowKind.TheVariants as rows

quiet_if : (b : Bool) → (let o : Option Question = cond b None None in o) ≡ None
quiet_if true = refl
quiet_if false = refl

-- the order asks no document
pub discard_quiet : (e : InEvent) (job : Job) → job.task ≡ tasks.Discard → IsQuiet e (rows.Sent job)
discard_quiet e job is req = rw is (quiet_if (is_for req job))

-- ---- one of five causes

pub by_second : (a : Bool) {b : Bool} (c d e : Bool) → b ≡ true → (a || b || c || d || e) ≡ true
by_second true c d e is = refl
by_second false c d e is = rw is refl

pub by_third : (a b : Bool) {c : Bool} (d e : Bool) → c ≡ true → (a || b || c || d || e) ≡ true
by_third true b d e is = refl
by_third false true d e is = refl
by_third false false d e is = rw is refl

pub by_fourth : (a b c : Bool) {d : Bool} (e : Bool) → d ≡ true → (a || b || c || d || e) ≡ true
by_fourth true b c e is = refl
by_fourth false true c e is = refl
by_fourth false false true e is = refl
by_fourth false false false e is = rw is refl

pub by_fifth : (a b c d : Bool) {e : Bool} → e ≡ true → (a || b || c || d || e) ≡ true
by_fifth true b c d is = refl
by_fifth false true c d is = refl
by_fifth false false true d is = refl
by_fifth false false false true is = refl
by_fifth false false false false is = is

-- ---- what is a reason beside being kept

pub spare_first : {a : Bool} (b c d e : Bool) (o : Bool) → a ≡ false → (not (a && b && c && d && e) || o) ≡ true
spare_first b c d e o is = rw is refl

pub spare_third : (a b : Bool) {c : Bool} (d e : Bool) (o : Bool) → c ≡ false → (not (a && b && c && d && e) || o) ≡ true
spare_third true true d e o is = rw is refl
spare_third true false d e o is = refl
spare_third false b d e o is = refl

pub spare_fourth : (a b c : Bool) {d : Bool} (e : Bool) (o : Bool) → d ≡ false → (not (a && b && c && d && e) || o) ≡ true
spare_fourth true true true e o is = rw is refl
spare_fourth true true false e o is = refl
spare_fourth true false c e o is = refl
spare_fourth false b c e o is = refl

pub spare_fifth : (a b c d : Bool) {e : Bool} (o : Bool) → e ≡ false → (not (a && b && c && d && e) || o) ≡ true
spare_fifth true true true true o is = rw is refl
spare_fifth true true true false o is = refl
spare_fifth true true false d o is = refl
spare_fifth true false c d o is = refl
spare_fifth false b c d o is = refl

-- or it is overdue
pub overdue : (spare : Bool) {o : Bool} → o ≡ true → (not spare || o) ≡ true
overdue true is = is
overdue false is = refl

-- ---- the order

pub discard_passes : (h : Here) (event : ℕ) (actor : Actor) (job : Job) (d : Document) (later : List LogRow) → is_led h.done ≡ true → IsNumbered h.now job → IsDiscardOf h.now job d → SettlesNone h.now (order_row event actor job) → is_discarded_duly (point_at h later) (order_row event actor job) job ≡ true → is_discarded_suitably h.header (point_at h later) (order_row event actor job) job tasks.Discard ≡ true → Passes h.header (point_at h later) (order_row event actor job)
discard_passes h event actor job d later led numbered due settles caused suitable =
    record {
      formed = both (led_follows h.done p row refl led refl) refl;
      once = refl;
      caused = refl;
      queued = refl;
      ordered = subst (λ (t : Task). (job.nr.0 == (h.now.jobs + 1) && is_addressed h.now job t && job.incarnation == (desk_of h.now job.proc).known && has_cause p row job t) ≡ true) (sym due.task) (both (both (both nr addressed) known) caused);
      checked = subst (λ (t : Task). (is_sent_in_time p job.doc job.why t && settles_duly p row t) ≡ true) (sym due.task) (both (discard_in_time p job.doc d due.to.found due.unhandled job.why due.for_one) (none_asked (is_settled_by h.now (after h.now row)) (is_prompted_after p row) h.now.requests settles));
      in_time = subst (λ (t : Task). is_order_of_use h.now job t ≡ true) (sym due.task) of_use;
      suits = subst (λ (t : Task). (is_sent_home h.header h.now job t && is_discarded_suitably h.header p row job t) ≡ true) (sym due.task) (both refl suitable);
    }
  where
    p : Point
    p = point_at h later

    row : LogRow
    row = order_row event actor job

    nr : (job.nr.0 == (h.now.jobs + 1)) ≡ true
    nr = rw numbered.number (nat_eq_refl (h.now.jobs + 1))

    known : (job.incarnation == (desk_of h.now job.proc).known) ≡ true
    known = rw numbered.incarnation (nat_eq_refl (desk_of h.now job.proc).known)

    addressed : is_addressed h.now job tasks.Discard ≡ true
    addressed = rw due.to.found (rw due.to.proc (nat_eq_refl job.proc.0))

    of_use : is_order_of_use h.now job tasks.Discard ≡ true
    of_use = rw due.to.found (rw due.to.alive refl)
