-- The order of a fragment navigation may be sent in the event that accepts its load.
use Rattle.row_facts.specs.LeaveRows.Fragments.{IsFragmentDue}
use Rattle.log_model.proofs.Refl.{bytes_eq_refl, nat_eq_refl, same_mode_refl}
use Rattle.log_model.specs.ActsAtOnce.{is_order_of_use}
use Rattle.log_model.specs.Checks.{is_sent_in_time, settles_duly}
use Rattle.log_model.specs.Events.{Point}
use Rattle.log_model.specs.Orders.{Question, has_cause, is_addressed, is_for, is_sent_to_fragment}
use Rattle.log_model.specs.Seen.{Asked, Document, desk_of}
use Rattle.log_model.specs.Suits.{is_discarded_suitably, is_sent_home}
use Rattle.log_model.specs.declared.job.Job.{Job}
use Rattle.log_model.specs.declared.job.Task.{Task}
use Rattle.log_model.specs.declared.job.Why.{Why}
use Rattle.log_model.specs.declared.request.Mode.{Mode}
use Rattle.log_model.specs.declared.row_kind.Actor.{Actor}
use Rattle.log_model.specs.declared.row_kind.LogRow.{LogRow}
use Rattle.seen_laws.proofs.InEvents.{IsQuiet}
use Rattle.seen_laws.proofs.Sendings.{both, led_follows, order_row}
use Rattle.seen_laws.specs.Blocks.{Here, MayLog, Passes, point_at}
use Rattle.seen_laws.specs.InEvent.{Anything, InEvent}
use Rattle.seen_laws.specs.Sending.{IsNumbered, is_led}
use Rattle.std.proofs.Common.{Bool, List, None, Option, [], cond, false, refl, subst, sym, true, ℕ, ◌&&◌, ◌+◌, ◌==◌, ◌∷◌, ◌≡◌}
use Rattle.tab_ids.specs.declared.NavId.{NavId}
use Rattle.tab_ids.specs.declared.ReqId.{ReqId}
use Rattle.log_model.specs.declared.job.Task.TheVariants as tasks
use Rattle.log_model.specs.declared.job.Why.TheVariants as whys
use Rattle.log_model.specs.declared.row_kind.RowKind.TheVariants as rows

-- ---- the load is accepted

-- ---- its order

quiet_if : (b : Bool) → (let o : Option Question = cond b None None in o) ≡ None
quiet_if true = refl
quiet_if false = refl

-- the order asks no document
pub fragment_quiet : (e : InEvent) (job : Job) (req : ReqId) (mode : Mode) (address : List ℕ) → job.task ≡ tasks.DoFragment req mode address → IsQuiet e (rows.Sent job)
fragment_quiet e job req mode address is r = rw is (quiet_if (is_for r job))

pub fragment_may : (h : Here) (event : ℕ) (actor : Actor) (job : Job) (d : Document) (req : ReqId) (nav : NavId) (mode : Mode) (address : List ℕ) (q : Asked) → is_led h.done ≡ true → IsNumbered h.now job → IsFragmentDue h job d req nav mode address q → MayLog h (order_row event actor job ∷ []) Anything
fragment_may h event actor job d req nav mode address q led numbered due later rest = (passes, tt)
  where
    task : Task
    task = tasks.DoFragment req mode address

    p : Point
    p = point_at h later

    row : LogRow
    row = order_row event actor job

    nr : (job.nr.0 == (h.now.jobs + 1)) ≡ true
    nr = rw numbered.number (nat_eq_refl (h.now.jobs + 1))

    known : (job.incarnation == (desk_of h.now job.proc).known) ≡ true
    known = rw numbered.incarnation (nat_eq_refl (desk_of h.now job.proc).known)

    addressed : is_addressed h.now job task ≡ true
    addressed = rw due.to.found (rw due.to.proc (nat_eq_refl job.proc.0))

    caused : is_sent_to_fragment p job req mode address ≡ true
    caused =
        rw due.accepted (rw due.at (rw due.what (rw (same_mode_refl mode, bytes_eq_refl address) (rw due.placed (rw (due.is_awake, due.stand) (rw due.given due.is_fragment))))))

    in_time : (why : Why) → is_sent_in_time p job.doc why task ≡ true
    in_time (whys.Req r) = refl
    in_time (whys.Death death) = refl
    in_time whys.Evict = refl
    in_time whys.Start = refl

    of_use : is_order_of_use h.now job task ≡ true
    of_use = rw due.to.found (rw due.to.alive refl)

    passes : Passes h.header p row
    passes =
        record {
          formed = both (led_follows h.done p row refl led refl) refl;
          once = refl;
          caused = refl;
          queued = refl;
          ordered = subst (λ (t : Task). (job.nr.0 == (h.now.jobs + 1) && is_addressed h.now job t && job.incarnation == (desk_of h.now job.proc).known && has_cause p row job t) ≡ true) (sym due.task) (both (both (both nr addressed) known) caused);
          checked = subst (λ (t : Task). (is_sent_in_time p job.doc job.why t && settles_duly p row t) ≡ true) (sym due.task) (both (in_time job.why) refl);
          in_time = subst (λ (t : Task). is_order_of_use h.now job t ≡ true) (sym due.task) of_use;
          suits = subst (λ (t : Task). (is_sent_home h.header h.now job t && is_discarded_suitably h.header p row job t) ≡ true) (sym due.task) refl;
        }
