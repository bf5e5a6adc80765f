-- Fragment orders find their documents running, and reports of them tell of what was made: as an event's own row is logged, and over rows that a coordinator puts out.
use Rattle.load_doors.specs.Logged.{IsLogged}
use Rattle.tab_acts.proofs.Owns as owns
use Rattle.tab_stands.proofs.Logged.{own_read}
use Rattle.tab_doors.proofs.Uncut.{uncut_now}
use Rattle.seen_laws.proofs.InEvents.{since_goes}
use Rattle.tab_stands.specs.Standing.{HasLogged, LastsInLog, StartsUnasked}
use Rattle.coord.proofs.Asides.{accepted_aside, delivered_aside, no_answer_told, off, seen_delivery, seen_stands, start_asks, start_lasts, start_plain}
use Rattle.coord.proofs.News.{is_quiet}
use Rattle.coord.specs.Standing.{IsOpenIn}
use Rattle.coord.specs.declared.coordinator.Coordinator.{Coordinator}
use Rattle.seen_facts.proofs.Coord.Singles.{AreApart}
use Rattle.seen_facts.proofs.Desk.Stays.{NoDeath}
use Rattle.seen_facts.specs.Desk.Own.{AreDesksIn, IsFragmentTask}
use Rattle.seen_facts.specs.Hang.Members.{Has}
use Rattle.log_model.specs.Seen.{Document, Seen, desk_of}
use Rattle.log_model.specs.declared.job.Job.{Job}
use Rattle.log_model.specs.declared.job.Task.{Task}
use Rattle.log_model.specs.declared.made.Report.{Report}
use Rattle.log_model.specs.declared.request.Request.{Request}
use Rattle.log_model.specs.declared.row_kind.RowKind.{RowKind}
use Rattle.tab_facts.specs.Order.Orders.{IsOfCoord}
use Rattle.tab_facts.proofs.Running.Over.{running_after}
use Rattle.tab_facts.proofs.Running.Quiet.{quiet_over}
use Rattle.tab_facts.proofs.Running.Tells.{telling_after, telling_over}
use Rattle.tab_facts.specs.Running.Fitting.{IsFittingRow}
use Rattle.tab_facts.specs.Running.Running.{AreFoundRunning}
use Rattle.tab_facts.specs.Running.Telling.{AreTelling, EndsNoFragment}
use Rattle.seen_laws.specs.InEvent.{EachGoes, InEvent, log_of, now_of}
use Rattle.seen_laws.specs.Sending.{leads}
use Rattle.std.proofs.Common.{List, Option, [], ap, false, refl, subst, sym, true, ◌++◌, ◌∙◌, ◌≡◌, length, ◌+◌}
use Rattle.std.specs.Prelude.{slice_get}
use Rattle.tab_ids.specs.declared.DocId.{DocId}
use Rattle.tab_ids.specs.declared.ProcId.{ProcId}
use Rattle.tab_ids.specs.declared.ReqId.{ReqId}
use Rattle.tab_stands.proofs.Reports.{told_fine}
use Rattle.tab_stands.specs.Delivering.{IsDelivery}
use Rattle.tab_stands.specs.PassedOn.{HasPut}
use Rattle.log_model.specs.declared.job.Task.TheVariants as tasks
use Rattle.log_model.specs.declared.row_kind.RowKind.TheVariants as rows

-- ---- the own row

own_fits : (s : Seen) (kind : RowKind) → leads kind ≡ true → ((proc : ProcId) → kind ≡ rows.Delivered proc → NoDeath (slice_get (desk_of s proc).reports 0)) → IsFittingRow s kind
own_fits s (rows.Accepted req doc what) led alive = tt
own_fits s (rows.Answered req stay) led alive = tt
own_fits s (rows.Evicted state) led alive = tt
own_fits s (rows.Delivered proc) led alive = alive proc refl
own_fits s _ led alive = absurd (let never : false ≡ true = led in cc)

own_ends : (s : Seen) (kind : RowKind) → leads kind ≡ true → EndsNoFragment s kind
own_ends s (rows.Accepted req doc what) led = tt
own_ends s (rows.Answered req stay) led = tt
own_ends s (rows.Evicted state) led = tt
own_ends s (rows.Delivered proc) led = tt
own_ends s _ led = absurd (let never : false ≡ true = led in cc)

module _ (e : InEvent) (led : leads e.own ≡ true) (aside : StartsUnasked e) where
  -- where it tells of no death
  pub own_found : ((proc : ProcId) → e.own ≡ rows.Delivered proc → NoDeath (slice_get (desk_of e.start proc).reports 0)) → AreFoundRunning e.start → AreFoundRunning (now_of e [])
  own_found alive found =
      subst AreFoundRunning (uncut_now e aside.uncut aside.plain) (running_after e.start e.event e.actor found e.own (own_fits e.start e.own led alive))

  pub own_telling : AreTelling e.start → AreTelling (now_of e [])
  own_telling telling =
      subst AreTelling (uncut_now e aside.uncut aside.plain) (telling_after e.start e.event e.actor telling e.own (own_ends e.start e.own led))

-- a request was accepted
module _ (e : InEvent) (c : Coordinator) (open_ : IsOpenIn e c) (req : ReqId) (doc : Option DocId) (what : Request) (own : e.own ≡ rows.Accepted req doc what) where
  led_here : leads e.own ≡ true
  led_here = ap (λ (k : RowKind). leads k) own

  -- what lasts of the log
  pub accepted_log : req.0 ≡ length e.start.requests + 1 → LastsInLog e.checking c.tables.asking (log_of e [])
  accepted_log next =
      owns.accepted_log e c.tables.checks open_.uncut open_.undue (start_lasts e c open_) (start_asks e c open_) req doc what own next (off e c open_ req)

  pub accepted_logged : req.0 ≡ length e.start.requests + 1 → IsLogged e c.tables.checks
  accepted_logged next =
      owns.accepted_logged e c.tables.checks open_.uncut open_.undue (start_lasts e c open_) (start_asks e c open_) req doc what own next (off e c open_ req)

  pub accepted_found : AreFoundRunning (now_of e [])
  accepted_found =
      own_found e led_here (accepted_aside e c open_ req doc what own) (λ proc is. (let never : rows.Accepted req doc what ≡ rows.Delivered proc = sym own ∙ is in absurd cc)) open_.stands.found

  pub accepted_telling : AreTelling (now_of e [])
  accepted_telling = own_telling e led_here (accepted_aside e c open_ req doc what own) open_.stands.telling

-- a report was taken
module _ (e : InEvent) (proc : ProcId) (report : Report) (delivery : IsDelivery e proc report) (c : Coordinator) (open_ : IsOpenIn e c) where
  led_so : leads e.own ≡ true
  led_so = ap (λ (k : RowKind). leads k) delivery.own

  fine : NoDeath (slice_get (desk_of e.start proc).reports 0)
  fine =
      subst (λ (x : Seen). NoDeath (slice_get (desk_of x proc).reports 0)) (start_plain e c open_) (told_fine e proc delivery.by_coord delivery.own c.tables c.queue c.blame.entries (seen_stands e c open_) (own_read e (delivered_aside e c open_ proc report delivery)) report (seen_delivery e c open_ proc report delivery).first)

  alive : (p : ProcId) → e.own ≡ rows.Delivered p → NoDeath (slice_get (desk_of e.start p).reports 0)
  alive p is =
      let both : rows.Delivered proc ≡ rows.Delivered p = sym delivery.own ∙ is in
      let one : proc ≡ p = cc in
      subst (λ (q : ProcId). NoDeath (slice_get (desk_of e.start q).reports 0)) one fine

  -- what is known of the log then
  pub delivered_logged : HasLogged e c.tables.checks c.tables.asking
  delivered_logged =
      owns.delivered_logged e c.tables.checks open_.uncut open_.undue (start_lasts e c open_) (start_asks e c open_) proc report report delivery (no_answer_told e c open_ proc report delivery) (seen_stands e c open_).between.tab.desks

  pub delivered_found : AreFoundRunning (now_of e [])
  delivered_found = own_found e led_so (delivered_aside e c open_ proc report delivery) alive open_.stands.found

  pub delivered_telling : AreTelling (now_of e [])
  delivered_telling = own_telling e led_so (delivered_aside e c open_ proc report delivery) open_.stands.telling

-- ---- rows that are put out, of which none sends a document to a fragment

pub plain_found : (e : InEvent) (more was : List RowKind) → EachGoes e was more → ((row : RowKind) → Has more row → IsOfCoord row) → ((job : Job) → Has more (rows.Sent job) → IsFragmentTask job.task → ⊥) → AreApart (λ (d : Document). d.nr.0) (now_of e (was ++ more)).documents → AreDesksIn (now_of e was) → AreFoundRunning (now_of e was) → AreFoundRunning (now_of e (was ++ more))
plain_found e more was goes coord none apart desks found =
    quiet_over e more was goes desks coord (λ job has. is_quiet e more was goes coord apart job has (none job has)) found

module _ (e : InEvent) (was out : List RowKind) (goes : EachGoes e [] out) (put : HasPut e was out) where
  sends_none : (job : Job) → Has put.more (rows.Sent job) → IsFragmentTask job.task → ⊥
  sends_none job has = by_task job.task refl
    where
      by_task : (task : Task) → job.task ≡ task → IsFragmentTask task → ⊥
      by_task (tasks.DoFragment req mode address) is fragment =
          let plain = put.plain job has in absurd (rw is at plain)
      by_task (tasks.Populate nav state address initial) is never = never
      by_task (tasks.Activate entry epoch length index memo address) is never = never
      by_task (tasks.Update length index) is never = never
      by_task tasks.Freeze is never = never
      by_task tasks.Discard is never = never
      by_task (tasks.Ask slot cause) is never = never

  pub put_found : AreApart (λ (d : Document). d.nr.0) (now_of e out).documents → AreDesksIn (now_of e was) → AreFoundRunning (now_of e was) → AreFoundRunning (now_of e out)
  put_found apart desks found =
      subst (λ (l : List RowKind). AreFoundRunning (now_of e l)) (sym put.is)
      (plain_found e put.more was (since_goes e was put.more out put.is goes) put.each sends_none (subst (λ (l : List RowKind). AreApart (λ (d : Document). d.nr.0) (now_of e l).documents) put.is apart) desks found)

  pub put_telling : AreTelling (now_of e was) → AreTelling (now_of e out)
  put_telling telling =
      subst (λ (l : List RowKind). AreTelling (now_of e l)) (sym put.is) (telling_over e put.more was (since_goes e was put.more out put.is goes) put.each telling)
