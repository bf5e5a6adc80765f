-- An order that freezes or discards a document passes each test of a row where the document may be left.
use Rattle.std.proofs.Common.{◌≡◌, ℕ, ◌+◌, true, not, ◌&&◌, ◌==◌, List, [], ◌∷◌, refl, sym, subst}
use Rattle.std.specs.List.{list_any}
use Rattle.tab_ids.specs.declared.NavId.{NavId}
use Rattle.tab_ids.specs.declared.ReqId.{ReqId}
use Rattle.log_model.proofs.Refl.{nat_eq_refl}
use Rattle.log_model.specs.ActsAtOnce.{is_order_of_use}
use Rattle.log_model.specs.After.{after}
use Rattle.log_model.specs.Checks.{is_prompted_after, is_sent_in_time, is_settled_by, may_be_left, may_be_sent, may_go_on, settles_duly}
use Rattle.log_model.specs.Events.{Point}
use Rattle.log_model.specs.Orders.{displaces, has_cause, is_addressed, is_discarded_duly, is_frozen_duly}
use Rattle.log_model.specs.Places.{is_gone, way_of}
use Rattle.log_model.specs.Points.{rows_of_event}
use Rattle.log_model.specs.Seen.{Document, desk_of}
use Rattle.log_model.specs.Suits.{is_discarded_suitably, is_sent_home}
use Rattle.log_model.specs.declared.job.Job.{Job}
use Rattle.log_model.specs.declared.job.Task.{Task}
use Rattle.log_model.specs.declared.job.Task.TheVariants as tasks
use Rattle.log_model.specs.declared.job.Why.{Why}
use Rattle.log_model.specs.declared.job.Why.TheVariants as whys
use Rattle.log_model.specs.declared.row_kind.Actor.{Actor}
use Rattle.log_model.specs.declared.row_kind.LogRow.{LogRow}
use Rattle.row_facts.proofs.LeaveRows.Lists.{any_later, any_weaker}
use Rattle.row_facts.proofs.LeaveRows.Unasked.{discard_in_time, freeze_in_time, none_asked}
use Rattle.row_facts.specs.LeaveRows.Freezing.{IsDisplacedLater, IsFreezeDue}
use Rattle.row_facts.specs.FrameRows.Discarding.{SettlesNone}
use Rattle.row_facts.specs.LeaveRows.Leaving.{IsDiscardOf}
use Rattle.seen_laws.proofs.Sendings.{both, led_follows, order_row}
use Rattle.seen_laws.specs.Blocks.{Here, MayLog, Passes, point_at}
use Rattle.seen_laws.specs.Sending.{IsNumbered, is_led, is_passed}
use Rattle.row_facts.specs.LeaveRows.MayLeave.{IsDiscardLeft, IsFreezeLeft, PromptsLater}
use Rattle.std.proofs.lemmas.Bool.{and_parts}

-- ---- a document without a handler may be left

pub unhandled_discard : (h : Here) (job : Job) (d : Document) → IsDiscardOf h.now job d → IsDiscardLeft h job d
unhandled_discard h job d due =
    record {
      task = due.task;
      to = due.to;
      left = λ req why. subst (λ (w : Why). is_sent_in_time (point_at h []) job.doc w tasks.Discard ≡ true) why (discard_in_time (point_at h []) job.doc d due.to.found due.unhandled job.why due.for_one);
    }

pub unhandled_freeze : (h : Here) (job : Job) (d : Document) → IsFreezeDue h job d → IsFreezeLeft h job d
unhandled_freeze h job d due =
    record {
      task = due.task;
      to = due.to;
      place = due.place;
      was_awake = due.was_awake;
      unfrozen = due.unfrozen;
      left = λ req why. let in_time : is_sent_in_time (point_at h []) job.doc (whys.Req req) tasks.Freeze ≡ true = subst (λ (w : Why). is_sent_in_time (point_at h []) job.doc w tasks.Freeze ≡ true) why (freeze_in_time (point_at h []) job.doc d due.to.found due.unhandled job.why due.passed) in (and_parts (may_go_on h.now req) (may_be_left (point_at h []) job.doc req) in_time).1;
      passed = due.passed;
      for_passed = due.for_passed;
    }

-- ---- a row that settles no question makes no prompt due

pub prompts_none : (h : Here) (row : LogRow) → SettlesNone h.now row → (later : List LogRow) → PromptsLater h row later
prompts_none h row settles later =
    none_asked (is_settled_by h.now (after h.now row)) (is_prompted_after (point_at h later) row) h.now.requests settles

-- ---- the rows

module _ (h : Here) (event : ℕ) (actor : Actor) (job : Job) (d : Document) (led : is_led h.done ≡ true) (numbered : IsNumbered h.now job) where
  abbrev pub row : LogRow
  row = order_row event actor job

  nr : (job.nr.0 == (h.now.jobs + 1)) ≡ true
  nr = rw numbered.number (nat_eq_refl (h.now.jobs + 1))

  known : (job.incarnation == (desk_of h.now job.proc).known) ≡ true
  known = rw numbered.incarnation (nat_eq_refl (desk_of h.now job.proc).known)

  -- for a request the document may be left
  by_why : (p : Point) (task : Task) → ((req : ReqId) → job.why ≡ whys.Req req → may_be_sent p job.doc req task ≡ true) → is_sent_in_time p job.doc job.why task ≡ true
  by_why p task may = cases job.why refl
    where
      cases : (why : Why) → job.why ≡ why → is_sent_in_time p job.doc why task ≡ true
      cases (whys.Req req) is = may req is
      cases (whys.Death death) is = refl
      cases whys.Evict is = refl
      cases whys.Start is = refl

  -- it discards a document, and the prompts that this makes due come
  pub discard_left_passes : (later : List LogRow) → IsDiscardLeft h job d → PromptsLater h row later → is_discarded_duly (point_at h later) row job ≡ true → is_discarded_suitably h.header (point_at h later) row job tasks.Discard ≡ true → Passes h.header (point_at h later) row
  discard_left_passes later due duly caused suitable =
      record {
        formed = both (led_follows h.done (point_at h later) row refl led refl) refl;
        once = refl;
        caused = refl;
        queued = refl;
        ordered = subst (λ (t : Task). (job.nr.0 == (h.now.jobs + 1) && is_addressed h.now job t && job.incarnation == (desk_of h.now job.proc).known && has_cause (point_at h later) row job t) ≡ true) (sym due.task) (both (both (both nr addressed) known) caused);
        checked = subst (λ (t : Task). (is_sent_in_time (point_at h later) job.doc job.why t && settles_duly (point_at h later) row t) ≡ true) (sym due.task) (both (by_why (point_at h later) tasks.Discard (λ req why. due.left req why)) duly);
        in_time = subst (λ (t : Task). is_order_of_use h.now job t ≡ true) (sym due.task) of_use;
        suits = subst (λ (t : Task). (is_sent_home h.header h.now job t && is_discarded_suitably h.header (point_at h later) row job t) ≡ true) (sym due.task) (both refl suitable);
      }
    where
      addressed : is_addressed h.now job tasks.Discard ≡ true
      addressed = rw due.to.found (rw due.to.proc (nat_eq_refl job.proc.0))

      of_use : is_order_of_use h.now job tasks.Discard ≡ true
      of_use = rw due.to.found (rw due.to.alive refl)

  -- it freezes one, which a later row displaces
  pub freeze_left_may : (due : IsFreezeLeft h job d) → MayLog h (row ∷ []) (IsDisplacedLater h due.place)
  freeze_left_may due later displaced = (passes, tt)
    where
      p : Point
      p = point_at h later

      addressed : is_addressed h.now job tasks.Freeze ≡ true
      addressed = rw due.to.found (rw due.to.proc (nat_eq_refl job.proc.0))

      among : (nav : NavId) → list_any (displaces p nav) later ≡ true → list_any (displaces p nav) (rows_of_event p row) ≡ true
      among nav is = any_later (displaces p nav) h.done (row ∷ later) (any_later (displaces p nav) (row ∷ []) later is)

      caused : is_frozen_duly p row job ≡ true
      caused = rw due.was_awake (any_weaker (λ (nav : NavId). list_any (displaces p nav) later) (λ (nav : NavId). list_any (displaces p nav) (rows_of_event p row)) (way_of due.place) among displaced)

      there : not (is_gone h.now job.doc) ≡ true
      there = rw (due.to.found, due.to.alive) refl

      of_use : is_order_of_use h.now job tasks.Freeze ≡ true
      of_use = both (both there due.for_passed) (rw due.to.found (rw due.unfrozen refl))

      may : (req : ReqId) → job.why ≡ whys.Req req → may_be_sent p job.doc req tasks.Freeze ≡ true
      may req why =
          both (subst (λ (w : Why). is_passed h.now tasks.Freeze w ≡ true) why due.passed) (due.left req why)

      passes : Passes h.header p row
      passes =
          record {
            formed = both (led_follows h.done p row refl led refl) refl;
            once = refl;
            caused = refl;
            queued = refl;
            ordered = subst (λ (t : Task). (job.nr.0 == (h.now.jobs + 1) && is_addressed h.now job t && job.incarnation == (desk_of h.now job.proc).known && has_cause p row job t) ≡ true) (sym due.task) (both (both (both nr addressed) known) caused);
            checked = subst (λ (t : Task). (is_sent_in_time p job.doc job.why t && settles_duly p row t) ≡ true) (sym due.task) (both (by_why p tasks.Freeze may) refl);
            in_time = subst (λ (t : Task). is_order_of_use h.now job t ≡ true) (sym due.task) of_use;
            suits = subst (λ (t : Task). (is_sent_home h.header h.now job t && is_discarded_suitably h.header p row job t) ≡ true) (sym due.task) refl;
          }
