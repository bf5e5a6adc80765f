-- An order that is due passes each test, whatever comes later in its event.
use Rattle.std.proofs.Common.{◌≡◌, ℕ, ◌+◌, Bool, true, not, ◌&&◌, ◌==◌, List, [], ◌∷◌, Option, refl, sym, subst, arith}
use Rattle.std.specs.Prelude.{nat_lt, bytes_eq}
use Rattle.std.proofs.lemmas.Bool.Decides.{nat_tests}
use Rattle.tab_ids.specs.declared.EntryId.{EntryId}
use Rattle.tab_ids.specs.declared.Epoch.{Epoch}
use Rattle.log_model.specs.declared.header.Header.{Header}
use Rattle.log_model.specs.declared.job.Job.{Job}
use Rattle.log_model.specs.declared.job.Task.{Task}
use Rattle.log_model.specs.declared.job.Task.TheVariants as tasks
use Rattle.log_model.specs.declared.job.Why.{Why}
use Rattle.log_model.specs.declared.job.Why.TheVariants as whys
use Rattle.log_model.specs.declared.row_kind.Actor.{Actor}
use Rattle.log_model.specs.declared.row_kind.LogRow.{LogRow}
use Rattle.log_model.specs.declared.row_kind.RowKind.{RowKind}
use Rattle.log_model.specs.declared.row_kind.RowKind.TheVariants as rows
use Rattle.log_model.specs.Equal.{holds, same_pair, same_memo}
use Rattle.log_model.specs.History.{same_entry}
use Rattle.log_model.specs.Seen.{Seen, Document, desk_of}
use Rattle.log_model.specs.Places.{aim_of, is_gone, pair_at, due_pair, told_pair}
use Rattle.log_model.specs.Events.{Point}
use Rattle.log_model.specs.Formed.{may_follow, is_in_its_place, is_work}
use Rattle.log_model.specs.Orders.{has_cause, is_addressed}
use Rattle.log_model.specs.Checks.{is_sent_in_time, settles_duly}
use Rattle.log_model.specs.ActsAtOnce.{is_order_of_use}
use Rattle.log_model.specs.Suits.{is_sent_home, is_discarded_suitably}
use Rattle.log_model.proofs.Refl.{nat_eq_refl, same_entry_refl, same_memo_refl, bytes_eq_refl, same_pair_refl}
use Rattle.seen_laws.specs.Blocks.{Passes, Here, point_at, MayLog}
use Rattle.seen_laws.specs.InEvent.{Anything}
use Rattle.seen_laws.specs.Sending.{leads, is_led, IsToldTask, IsNumbered, IsTo, is_passed, IsShowDue, IsUpdateDue}

-- what the coordinator does may stand in an event that it works in
pub led_follows : (done : List LogRow) (p : Point) (row : LogRow) → p.done ≡ done → is_led done ≡ true → is_work row.row ≡ true → is_in_its_place p row ≡ true
led_follows [] p row e led work = cc
led_follows (own ∷ done) p row e led work = rw e (by_own own.row row.row led work)
  where
    by_own : (own row : RowKind) → leads own ≡ true → is_work row ≡ true → may_follow own row ≡ true
    by_own (rows.Accepted req doc what) row led work = work
    by_own (rows.Answered req stay) row led work = work
    by_own (rows.Evicted state) row led work = work
    by_own (rows.Delivered proc) row led work = work
    by_own _ row led work = cc

pub both : {a b : Bool} → a ≡ true → b ≡ true → (a && b) ≡ true
both e f = rw (e, f) refl

-- the row of an order
abbrev pub order_row : ℕ → Actor → Job → LogRow
order_row event actor job = record { event = event; actor = actor; row = rows.Sent job }

-- such an order comes no sooner than it may
told_in_time : (p : Point) (job : Job) (task : Task) (why : Why) → IsToldTask task → is_passed p.now task why ≡ true → is_sent_in_time p job.doc why task ≡ true
told_in_time p job (tasks.Activate entry epoch length index memo address) (whys.Req req) told passed = passed
told_in_time p job (tasks.Update length index) (whys.Req req) told passed = refl
told_in_time p job task (whys.Death death) told passed = refl
told_in_time p job task whys.Evict told passed = refl
told_in_time p job task whys.Start told passed = refl
told_in_time p job _ (whys.Req req) told passed = elim told [ ]

-- it settles no question, and nothing is said of its process
told_settles : (p : Point) (row : LogRow) (task : Task) → IsToldTask task → settles_duly p row task ≡ true
told_settles p row (tasks.Activate entry epoch length index memo address) told = refl
told_settles p row (tasks.Update length index) told = refl
told_settles p row _ told = elim told [ ]

told_suits : (header : Header) (p : Point) (row : LogRow) (job : Job) (task : Task) → IsToldTask task → (is_sent_home header p.now job task && is_discarded_suitably header p row job task) ≡ true
told_suits header p row job (tasks.Activate entry epoch length index memo address) told = refl
told_suits header p row job (tasks.Update length index) told = refl
told_suits header p row job _ told = elim told [ ]

-- an order that shows or tells, by its numbers, its cause and its use
pub told_passes : (header : Header) (p : Point) (event : ℕ) (actor : Actor) (job : Job) (task : Task) → job.task ≡ task → IsToldTask task → is_led p.done ≡ true → IsNumbered p.now job → is_addressed p.now job task ≡ true → has_cause p (order_row event actor job) job task ≡ true → is_passed p.now task job.why ≡ true → is_order_of_use p.now job task ≡ true → Passes header p (order_row event actor job)
told_passes header p event actor job task is told led numbered addressed cause passed of_use =
    let row : LogRow = order_row event actor job in
    let nr : (job.nr.0 == (p.now.jobs + 1)) ≡ true = rw numbered.number (nat_eq_refl (p.now.jobs + 1)) in
    let known : (job.incarnation == (desk_of p.now job.proc).known) ≡ true = rw numbered.incarnation (nat_eq_refl (desk_of p.now job.proc).known) in
    record {
      formed = both (led_follows p.done p row refl led refl) refl;
      once = refl;
      caused = refl;
      queued = refl;
      ordered = subst (λ (t : Task). (job.nr.0 == (p.now.jobs + 1) && is_addressed p.now job t && job.incarnation == (desk_of p.now job.proc).known && has_cause p row job t) ≡ true) (sym is) (both (both (both nr addressed) known) cause);
      checked = subst (λ (t : Task). (is_sent_in_time p job.doc job.why t && settles_duly p row t) ≡ true) (sym is) (both (told_in_time p job task job.why told passed) (told_settles p row task told));
      in_time = subst (λ (t : Task). is_order_of_use p.now job t ≡ true) (sym is) of_use;
      suits = subst (λ (t : Task). (is_sent_home header p.now job t && is_discarded_suitably header p row job t) ≡ true) (sym is) (told_suits header p row job task told);
    }

-- ---- the causes

-- a document that is there isn't gone
there : (s : Seen) (job : Job) (d : Document) → IsTo s job d → not (is_gone s job.doc) ≡ true
there s job d to = rw (to.found, to.alive) refl

pub show_caused : (p : Point) (row : LogRow) (job : Job) (d : Document) (entry : EntryId) (epoch : Epoch) (long at : ℕ) (memo : Option (List ℕ)) (address : List ℕ) → IsTo p.now job d → IsShowDue p.now job d entry epoch (long, at) memo address → has_cause p row job (tasks.Activate entry epoch long at memo address) ≡ true
show_caused p row job d entry epoch long at memo address to due =
    let later : nat_lt due.place.epoch.0 epoch.0 ≡ true = grind (arith, nat_tests, due.greater) in
    let same : same_pair (long, at) (pair_at p.now (aim_of p.now)) ≡ true = subst (λ (pair : ℕ × ℕ). same_pair (long, at) pair ≡ true) due.pair_is (same_pair_refl (long, at)) in
    let one : same_entry due.target.entry entry ≡ true = rw due.entry_is (same_entry_refl entry) in
    let two : same_memo due.target.memo memo ≡ true = rw due.memo_is (same_memo_refl memo) in
    let three : bytes_eq due.target.address address ≡ true = rw due.address_is (bytes_eq_refl address) in
    rw to.found (rw (due.placed, due.at) (both (both (both due.needs later) (both (both (both one two) three) due.usable)) same))

pub update_caused : (p : Point) (row : LogRow) (job : Job) (long at : ℕ) → IsUpdateDue p.now job (long, at) → has_cause p row job (tasks.Update long at) ≡ true
update_caused p row job long at due =
    let same : same_pair (long, at) (due_pair p.now due.place.nav) ≡ true = subst (λ (pair : ℕ × ℕ). same_pair (long, at) pair ≡ true) due.due (same_pair_refl (long, at)) in
    let not_yet : not (holds (same_pair (long, at)) (told_pair p.now due.place)) ≡ true = rw due.untold refl in
    rw due.shows (both not_yet same)

-- ---- so they may be logged

pub update_may : (h : Here) (event : ℕ) (actor : Actor) (job : Job) (d : Document) (long at : ℕ) → job.task ≡ tasks.Update long at → is_led h.done ≡ true → IsNumbered h.now job → IsTo h.now job d → IsUpdateDue h.now job (long, at) → MayLog h (order_row event actor job ∷ []) Anything
update_may h event actor job d long at is led numbered to due later rest =
    let p : Point = point_at h later in
    let row : LogRow = order_row event actor job in
    let home : is_addressed h.now job (tasks.Update long at) ≡ true = rw to.found (rw to.proc (nat_eq_refl job.proc.0)) in
    (told_passes h.header p event actor job (tasks.Update long at) is tt led numbered home (update_caused p row job long at due) (free job.why) (there h.now job d to), tt)
  where
    free : (why : Why) → is_passed h.now (tasks.Update long at) why ≡ true
    free (whys.Req req) = refl
    free (whys.Death death) = refl
    free whys.Evict = refl
    free whys.Start = refl

pub show_may : (h : Here) (event : ℕ) (actor : Actor) (job : Job) (d : Document) (entry : EntryId) (epoch : Epoch) (long at : ℕ) (memo : Option (List ℕ)) (address : List ℕ) → job.task ≡ tasks.Activate entry epoch long at memo address → is_led h.done ≡ true → IsNumbered h.now job → IsTo h.now job d → IsShowDue h.now job d entry epoch (long, at) memo address → is_passed h.now (tasks.Activate entry epoch long at memo address) job.why ≡ true → MayLog h (order_row event actor job ∷ []) Anything
show_may h event actor job d entry epoch long at memo address is led numbered to due passed later rest =
    let p : Point = point_at h later in
    let row : LogRow = order_row event actor job in
    let home : is_addressed h.now job (tasks.Activate entry epoch long at memo address) ≡ true = rw to.found (rw to.proc (nat_eq_refl job.proc.0)) in
    let of_use : is_order_of_use h.now job (tasks.Activate entry epoch long at memo address) ≡ true = both (both (there h.now job d to) due.for_passed) (rw to.found due.shown) in
    (told_passes h.header p event actor job (tasks.Activate entry epoch long at memo address) is tt led numbered home (show_caused p row job d entry epoch long at memo address to due) passed of_use, tt)
