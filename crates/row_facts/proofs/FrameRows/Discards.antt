-- A document whose state has no entry may be discarded, wherever in its event that is.
use Rattle.seen_facts.proofs.Coord.Flowings.{settles}
use Rattle.row_facts.specs.FrameRows.Discarding.{IsDiscardDue, SettlesNone}
use Rattle.log_model.proofs.Refl.{nat_eq_refl}
use Rattle.log_model.specs.ActsAtOnce.{is_order_of_use}
use Rattle.log_model.specs.After.{after}
use Rattle.log_model.specs.Checks.{is_prompted_after, is_sent_in_time, is_settled_by, may_be_left, settles_duly, was_asked}
use Rattle.log_model.specs.Equal.{has_doc, holds, implies}
use Rattle.log_model.specs.Events.{Point}
use Rattle.log_model.specs.Orders.{Question, has_cause, is_addressed, is_below_gone, is_discarded_duly, is_for, is_left}
use Rattle.log_model.specs.Places.{shower_of}
use Rattle.log_model.specs.Seen.{Asked, Document, Place, desk_of, document_of, place_of, request_of}
use Rattle.log_model.specs.Suits.{is_discarded_suitably, is_sent_home}
use Rattle.log_model.specs.declared.job.Job.{Job}
use Rattle.log_model.specs.declared.job.Task.{Task}
use Rattle.log_model.specs.declared.row_kind.Actor.{Actor}
use Rattle.log_model.specs.declared.row_kind.LogRow.{LogRow}
use Rattle.seen_laws.proofs.InEvents.{IsQuiet}
use Rattle.seen_laws.proofs.Sendings.{both, led_follows, order_row}
use Rattle.seen_laws.specs.Blocks.{Here, MayLog, Passes, point_at}
use Rattle.seen_laws.specs.InEvent.{Anything, InEvent}
use Rattle.seen_laws.specs.Sending.{IsNumbered, is_led}
use Rattle.std.proofs.Common.{Bool, List, None, Option, Some, [], cond, false, not, refl, subst, sym, true, ℕ, ◌&&◌, ◌+◌, ◌==◌, ◌||◌, ◌∷◌, ◌≡◌}
use Rattle.std.specs.List.{list_all}
use Rattle.std.specs.Prelude.{filter, is_some}
use Rattle.tab_ids.specs.declared.ReqId.{ReqId}
use Rattle.log_model.specs.declared.job.Task.TheVariants as tasks
use Rattle.log_model.specs.declared.row_kind.RowKind.TheVariants as rows

discard_quiet_if : (b : Bool) → (let o : Option Question = cond b None None in o) ≡ None
discard_quiet_if true = refl
discard_quiet_if false = refl

-- the order asks no document
pub discard_quiet : (e : InEvent) (job : Job) → job.task ≡ tasks.Discard → IsQuiet e (rows.Sent job)
discard_quiet e job is req = rw is (discard_quiet_if (is_for req job))

-- where a row settles no question, nobody is asked
none_asked : (test asks : Asked → Bool) (asked : List Asked) → list_all (λ (q : Asked). not (test q)) asked ≡ true → list_all asks (filter test asked) ≡ true
none_asked test asks [] none = refl
none_asked test asks (q ∷ asked) none = by_test (none_asked test asks asked) (test q) refl none
  where
    by_test : (list_all (λ (q : Asked). not (test q)) asked ≡ true → list_all asks (filter test asked) ≡ true) → (b : Bool) → test q ≡ b → (not b && list_all (λ (q : Asked). not (test q)) asked) ≡ true → list_all asks (filter test (q ∷ asked)) ≡ true
    by_test others true is e = cc
    by_test others false is e = rw is (others e)

-- it has no handler, so nobody need be asked before it is left
may_leave_it : (p : Point) (job : Job) (d : Document) (by : ReqId) (r : Asked) → document_of p.now job.doc ≡ Some d → d.slot ≡ None → request_of p.now by ≡ Some r → may_be_left p job.doc by ≡ true
may_leave_it p job d by r found unhandled there =
    rw there (rw found (rw unhandled (never (has_doc r.awake_then job.doc && is_some (shower_of p.start job.doc)))))
  where
    never : (a : Bool) → implies (a && false) (was_asked r job.doc) ≡ true
    never true = refl
    never false = refl

spare_not : (a b : Bool) (c d : Bool) → (a && b && false && c && d) ≡ false
spare_not true true c d = refl
spare_not true false c d = refl
spare_not false b c d = refl

pub discard_may : (h : Here) (event : ℕ) (actor : Actor) (job : Job) (d : Document) (by : ReqId) (r : Asked) → is_led h.done ≡ true → IsNumbered h.now job → IsDiscardDue h.now job d by r → SettlesNone h.now (order_row event actor job) → MayLog h (order_row event actor job ∷ []) Anything
discard_may h event actor job d by r led numbered due settles later rest = (passes, tt)
  where
    p : Point
    p = point_at h later

    row : LogRow
    row = order_row event actor job

    nr : (job.nr.0 == (h.now.jobs + 1)) ≡ true
    nr = rw numbered.number (nat_eq_refl (h.now.jobs + 1))

    known : (job.incarnation == (desk_of h.now job.proc).known) ≡ true
    known = rw numbered.incarnation (nat_eq_refl (desk_of h.now job.proc).known)

    addressed : is_addressed h.now job tasks.Discard ≡ true
    addressed = rw due.to.found (rw due.to.proc (nat_eq_refl job.proc.0))

    cause : is_discarded_duly p row job ≡ true
    cause = rw due.to.found (rw (due.gone, due.unloaded) refl)

    of_use : is_order_of_use h.now job tasks.Discard ≡ true
    of_use = rw due.to.found (rw due.to.alive refl)

    in_time : is_sent_in_time p job.doc job.why tasks.Discard ≡ true
    in_time = rw due.why (may_leave_it p job d by r due.to.found due.unhandled due.there)

    suitable : is_discarded_suitably h.header p row job tasks.Discard ≡ true
    suitable = rw due.to.found (rw due.gone (rw (spare_not (is_left p d || has_doc h.now.kept d.nr) (not d.is_discarded) (not (is_below_gone h.now d)) (holds (λ (place : Place). not place.is_pending) (place_of h.now d.nav))) refl))

    passes : Passes h.header p row
    passes =
        record {
          formed = both (led_follows h.done p row refl led refl) refl;
          once = refl;
          caused = refl;
          queued = refl;
          ordered = subst (λ (t : Task). (job.nr.0 == (h.now.jobs + 1) && is_addressed h.now job t && job.incarnation == (desk_of h.now job.proc).known && has_cause p row job t) ≡ true) (sym due.task) (both (both (both nr addressed) known) cause);
          checked = subst (λ (t : Task). (is_sent_in_time p job.doc job.why t && settles_duly p row t) ≡ true) (sym due.task) (both in_time (none_asked (is_settled_by h.now (after h.now row)) (is_prompted_after p row) h.now.requests settles));
          in_time = subst (λ (t : Task). is_order_of_use h.now job t ≡ true) (sym due.task) of_use;
          suits = subst (λ (t : Task). (is_sent_home h.header h.now job t && is_discarded_suitably h.header p row job t) ≡ true) (sym due.task) (both refl suitable);
        }
