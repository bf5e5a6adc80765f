-- A document may be frozen where a later row of the event shows its navigable, or one above it, another document.
use Rattle.row_facts.proofs.LeaveRows.Lists.{any_at, any_later, any_of, any_weaker}
use Rattle.row_facts.proofs.LeaveRows.Unasked.{freeze_in_time}
use Rattle.row_facts.specs.LeaveRows.Freezing.{IsDisplacedLater, IsFreezeDue}
use Rattle.log_model.proofs.Refl.{nat_eq_refl}
use Rattle.log_model.specs.ActsAtOnce.{is_order_of_use}
use Rattle.log_model.specs.Checks.{is_sent_in_time, settles_duly}
use Rattle.log_model.specs.Equal.{holds}
use Rattle.log_model.specs.Events.{Point}
use Rattle.log_model.specs.History.{has_nav}
use Rattle.log_model.specs.Orders.{Question, displaces, has_cause, is_addressed, is_for, is_frozen_duly}
use Rattle.log_model.specs.Places.{is_awake_on, is_gone, way_of}
use Rattle.log_model.specs.Points.{rows_of_event}
use Rattle.log_model.specs.Seen.{Document, Place, Seen, desk_of, document_of, place_of}
use Rattle.log_model.specs.Suits.{is_discarded_suitably, is_sent_home}
use Rattle.log_model.specs.declared.job.Job.{Job}
use Rattle.log_model.specs.declared.job.Task.{Task}
use Rattle.log_model.specs.declared.row_kind.Actor.{Actor}
use Rattle.log_model.specs.declared.row_kind.LogRow.{LogRow}
use Rattle.seen_laws.proofs.InEvents.{IsQuiet}
use Rattle.seen_laws.proofs.Sendings.{both, led_follows, order_row}
use Rattle.seen_laws.specs.Blocks.{Here, MayLog, Passes, point_at}
use Rattle.seen_laws.specs.InEvent.{InEvent}
use Rattle.seen_laws.specs.Sending.{IsNumbered, IsTo, is_led}
use Rattle.std.proofs.Common.{Bool, List, None, Option, Some, [], cond, false, not, refl, subst, sym, true, ℕ, ◌&&◌, ◌++◌, ◌+◌, ◌==◌, ◌∷◌, ◌≡◌}
use Rattle.std.specs.List.{list_any}
use Rattle.tab_ids.specs.declared.EntryId.{EntryId}
use Rattle.tab_ids.specs.declared.Epoch.{Epoch}
use Rattle.tab_ids.specs.declared.NavId.{NavId}
use Rattle.log_model.specs.declared.job.Task.TheVariants as tasks
use Rattle.log_model.specs.declared.row_kind.RowKind.TheVariants as rows

quiet_if : (b : Bool) → (let o : Option Question = cond b None None in o) ≡ None
quiet_if true = refl
quiet_if false = refl

-- the order asks no document
pub freeze_quiet : (e : InEvent) (job : Job) → job.task ≡ tasks.Freeze → IsQuiet e (rows.Sent job)
freeze_quiet e job is req = rw is (quiet_if (is_for req job))

-- ---- the later row

-- an order that shows the navigable a document it wasn't awake on as the event began
pub activate_displaces : (p : Point) (nav : NavId) (event : ℕ) (actor : Actor) (job : Job) (d : Document) (entry : EntryId) (epoch : Epoch) (long at : ℕ) (memo : Option (List ℕ)) (address : List ℕ) → job.task ≡ tasks.Activate entry epoch long at memo address → document_of p.now job.doc ≡ Some d → d.nav ≡ nav → holds (is_awake_on job.doc) (place_of p.start nav) ≡ false → displaces p nav (order_row event actor job) ≡ true
activate_displaces p nav event actor job d entry epoch long at memo address is found of other =
    rw is (rw found (rw of (rw (nat_eq_refl nav.0) (rw other refl))))

-- an order that discards a document of the navigable
pub discard_displaces : (p : Point) (nav : NavId) (event : ℕ) (actor : Actor) (job : Job) (d : Document) → job.task ≡ tasks.Discard → document_of p.now job.doc ≡ Some d → d.nav ≡ nav → displaces p nav (order_row event actor job) ≡ true
discard_displaces p nav event actor job d is found of = rw is (rw found (rw of (rw (nat_eq_refl nav.0) refl)))

-- such a row is among those that come later
pub displaced_by : (h : Here) (place : Place) (nav : NavId) (first : List LogRow) (row : LogRow) (rest : List LogRow) → has_nav (way_of place) nav ≡ true → displaces (point_at h (first ++ row ∷ rest)) nav row ≡ true → IsDisplacedLater h place (first ++ row ∷ rest)
displaced_by h place nav first row rest on_way is =
    any_of (λ (n : NavId). list_any (displaces (point_at h (first ++ row ∷ rest)) n) (first ++ row ∷ rest)) (way_of place) nav on_way (any_at (displaces (point_at h (first ++ row ∷ rest)) nav) first row rest is)

-- ---- the order

-- a document that is there isn't gone
there : (s : Seen) (job : Job) (d : Document) → IsTo s job d → not (is_gone s job.doc) ≡ true
there s job d to = rw (to.found, to.alive) refl

pub freeze_may : (h : Here) (event : ℕ) (actor : Actor) (job : Job) (d : Document) → is_led h.done ≡ true → IsNumbered h.now job → (due : IsFreezeDue h job d) → MayLog h (order_row event actor job ∷ []) (IsDisplacedLater h due.place)
freeze_may h event actor job d led numbered due later displaced = (passes, tt)
  where
    p : Point
    p = point_at h later

    row : LogRow
    row = order_row event actor job

    nr : (job.nr.0 == (h.now.jobs + 1)) ≡ true
    nr = rw numbered.number (nat_eq_refl (h.now.jobs + 1))

    known : (job.incarnation == (desk_of h.now job.proc).known) ≡ true
    known = rw numbered.incarnation (nat_eq_refl (desk_of h.now job.proc).known)

    addressed : is_addressed h.now job tasks.Freeze ≡ true
    addressed = rw due.to.found (rw due.to.proc (nat_eq_refl job.proc.0))

    among : (nav : NavId) → list_any (displaces p nav) later ≡ true → list_any (displaces p nav) (rows_of_event p row) ≡ true
    among nav is = any_later (displaces p nav) h.done (row ∷ later) (any_later (displaces p nav) (row ∷ []) later is)

    caused : is_frozen_duly p row job ≡ true
    caused = rw due.was_awake (any_weaker (λ (nav : NavId). list_any (displaces p nav) later) (λ (nav : NavId). list_any (displaces p nav) (rows_of_event p row)) (way_of due.place) among displaced)

    of_use : is_order_of_use h.now job tasks.Freeze ≡ true
    of_use = both (both (there h.now job d due.to) due.for_passed) (rw due.to.found (rw due.unfrozen refl))

    passes : Passes h.header p row
    passes =
        record {
          formed = both (led_follows h.done p row refl led refl) refl;
          once = refl;
          caused = refl;
          queued = refl;
          ordered = subst (λ (t : Task). (job.nr.0 == (h.now.jobs + 1) && is_addressed h.now job t && job.incarnation == (desk_of h.now job.proc).known && has_cause p row job t) ≡ true) (sym due.task) (both (both (both nr addressed) known) caused);
          checked = subst (λ (t : Task). (is_sent_in_time p job.doc job.why t && settles_duly p row t) ≡ true) (sym due.task) (both (freeze_in_time p job.doc d due.to.found due.unhandled job.why due.passed) refl);
          in_time = subst (λ (t : Task). is_order_of_use h.now job t ≡ true) (sym due.task) of_use;
          suits = subst (λ (t : Task). (is_sent_home h.header h.now job t && is_discarded_suitably h.header p row job t) ≡ true) (sym due.task) refl;
        }
