-- What the rows that a coordinator puts out make of what a world keeps.
use Rattle.std.proofs.Common.{◌≡◌, ℕ, ◌+◌, true, ◌==◌, ◌&&◌, List, [], ◌∷◌, ◌++◌, map, Option, refl, ap, ◌∙◌, subst}
use Rattle.std.specs.Prelude.{fold}
use Rattle.std.proofs.lemmas.Bool.{and_parts}
use Rattle.tab_ids.specs.declared.DocId.{DocId}
use Rattle.tab_ids.specs.declared.ProcId.{ProcId}
use Rattle.log_model.specs.declared.outcome.Ending.{Ending}
use Rattle.log_model.specs.declared.row_kind.Actor.{Actor}
use Rattle.log_model.specs.declared.row_kind.Actor.TheVariants as actors
use Rattle.log_model.specs.declared.row_kind.LogRow.{LogRow}
use Rattle.log_model.specs.declared.row_kind.RowKind.{RowKind}
use Rattle.log_model.specs.declared.row_kind.RowKind.TheVariants as rows
use Rattle.log_model.specs.After.{after}
use Rattle.log_model.specs.Formed.{is_work, may_follow, is_in_its_place}
use Rattle.log_model.specs.Events.{Point}
use Rattle.log_model.specs.Seen.{Seen, Desk, desk_of}
use Rattle.log_model.specs.Views.{View}
use Rattle.history_log.proofs.DeskLaws.{desk_of-after}
use Rattle.seen_laws.specs.Blocks.{Here, EachPass, point_at, on_row, on_rows}
use Rattle.seen_laws.specs.Sending.{leads}
use Rattle.tab_doors.specs.Working.{IsWorker}
use Rattle.proc_tables.specs.Desks.{desk_noted}
use Rattle.world.specs.Notes.{endings_noted, row_with}
use Rattle.log_model.specs.declared.header.Header.{Header}
use Rattle.log_model.specs.Orders.{has_cause, is_addressed, is_ordered_row}
use Rattle.running_table.specs.Making.{IsTold}
use Rattle.running_table.specs.Runners.{RunnersState}
use Rattle.running_table.specs.Telling.{AddsNext, IsQuiet}
use Rattle.running_table.proofs.ForCallers.{quiet_told}
use Rattle.running_table.proofs.Numbers.{addressed_next}
use Rattle.world.specs.Open.{bare, endings_of, view_in}
use Rattle.world.specs.Sited.{AreSited}
use Rattle.world.proofs.EndingLaws.{work_endings}
use Rattle.world.proofs.FaceLaws.{work_face}
use Rattle.world.proofs.SitedLaws.{IsSentHome, sent_home, work_sited}

-- what a log has come to, as far as a world keeps it
pub record Keeping (header : Header) (s : Seen) (event : ℕ) (waits : ProcId → Desk) (shown : DocId → Option View) (run : RunnersState) (ends : List (Option Ending)) : Type 0 where
  pub events : s.events ≡ event + 1
  pub desks : (proc : ProcId) → desk_of s proc ≡ waits proc
  pub views : (doc : DocId) → view_in s doc ≡ shown doc
  pub runners : IsTold s run
  pub endings : endings_of s ≡ ends
  pub sited : AreSited header s.documents

-- ---- one row

-- work of a coordinator neither opens the tab nor ends an order
work_quiet : (kind : RowKind) → is_work kind ≡ true → IsQuiet kind
work_quiet (rows.Sent job) work = tt
work_quiet (rows.Dropped req cause) work = tt
work_quiet (rows.Refused req reason) work = tt
work_quiet (rows.Started req goal) work = tt
work_quiet (rows.Applied req change) work = tt
work_quiet (rows.Prompted req doc) work = tt
work_quiet (rows.Opened entry state doc proc slot address) work = cc
work_quiet (rows.Accepted req doc what) work = tt
work_quiet (rows.Answered req stay) work = tt
work_quiet (rows.Taken proc job live dirty) work = tt
work_quiet (rows.Finished proc job outcome) work = cc
work_quiet (rows.Made proc made) work = tt
work_quiet (rows.Delivered proc) work = tt
work_quiet (rows.Killed proc death) work = cc
work_quiet (rows.Evicted state) work = tt

work_desk : (s : Seen) (event : ℕ) (actor : Actor) (kind : RowKind) → IsWorker actor → is_work kind ≡ true → (proc : ProcId) → desk_of (after s (row_with event actor kind)) proc ≡ desk_noted proc (desk_of s proc) kind
work_desk s event actor (rows.Sent job) worker work proc = desk_of-after s proc event actor (rows.Sent job)
work_desk s event actor (rows.Dropped req cause) worker work proc_ = desk_of-after s proc_ event actor (rows.Dropped req cause)
work_desk s event actors.Ui (rows.Refused req reason) worker work proc_ = refl
work_desk s event actors.Coord (rows.Refused req reason) worker work proc_ = refl
work_desk s event actors.Start (rows.Refused req reason) worker work proc_ = refl
work_desk s event (actors.Proc p) (rows.Refused req reason) worker work proc_ = elim worker [ ]
work_desk s event actor (rows.Started req goal) worker work proc_ = refl
work_desk s event actor (rows.Applied req change) worker work proc_ = refl
work_desk s event actor (rows.Prompted req doc) worker work proc_ = refl
work_desk s event actor (rows.Opened entry state doc proc slot address) worker work proc_ = cc
work_desk s event actor (rows.Accepted req doc what) worker work proc_ = cc
work_desk s event actor (rows.Answered req stay) worker work proc_ = cc
work_desk s event actor (rows.Taken proc job live dirty) worker work proc_ = cc
work_desk s event actor (rows.Finished proc job outcome) worker work proc_ = cc
work_desk s event actor (rows.Made proc made) worker work proc_ = cc
work_desk s event actor (rows.Delivered proc) worker work proc_ = cc
work_desk s event actor (rows.Killed proc death) worker work proc_ = cc
work_desk s event actor (rows.Evicted state) worker work proc_ = cc

pub work_keeps : (header : Header) (s : Seen) (event : ℕ) (actor : Actor) (kind : RowKind) (desks : ProcId → Desk) (views : DocId → Option View) (run : RunnersState) (ends : List (Option Ending)) → IsWorker actor → is_work kind ≡ true → IsSentHome (bare header) s kind → AddsNext s kind → Keeping header s event desks views run ends → Keeping header (after s (row_with event actor kind)) event (λ proc. desk_noted proc (desks proc) kind) views run (endings_noted ends kind)
work_keeps header s event actor kind desks views run ends worker work home adds keeps =
    let faces = work_face s kind work in
    record {
      events = refl;
      desks = λ proc. work_desk s event actor kind worker work proc ∙ ap (λ (d : Desk). desk_noted proc d kind) (keeps.desks proc);
      views = λ doc. faces.views doc ∙ keeps.views doc;
      endings = work_endings s kind work ∙ ap (λ (l : List (Option Ending)). endings_noted l kind) keeps.endings;
      runners = quiet_told s event actor kind run (work_quiet kind work) adds keeps.runners;
      sited = work_sited header s kind work home keeps.sited;
    }

-- ---- the rows of an event

-- a document that is to be made has the next number
adds_next : (p : Point) (row : LogRow) → is_work row.row ≡ true → is_ordered_row p row ≡ true → AddsNext p.now row.row
adds_next p row work ordered = by_kind row.row refl work
  where
    by_kind : (kind : RowKind) → row.row ≡ kind → is_work kind ≡ true → AddsNext p.now kind
    by_kind (rows.Sent job) e work_ =
        let test : is_ordered_row p (record row { row = rows.Sent job }) ≡ true = subst (λ (k : RowKind). is_ordered_row p (record row { row = k }) ≡ true) e ordered in
        let third = (and_parts (job.nr.0 == (p.now.jobs + 1) && is_addressed p.now job job.task && job.incarnation == (desk_of p.now job.proc).known) (has_cause p (record row { row = rows.Sent job }) job job.task) test).0 in
        let second = (and_parts (job.nr.0 == (p.now.jobs + 1) && is_addressed p.now job job.task) (job.incarnation == (desk_of p.now job.proc).known) third).0 in
        addressed_next p.now job job.task (and_parts (job.nr.0 == (p.now.jobs + 1)) (is_addressed p.now job job.task) second).1
    by_kind (rows.Opened entry state doc proc slot address) e work_ = cc
    by_kind _ e work_ = tt

led_works : (own kind : RowKind) → leads own ≡ true → may_follow own kind ≡ true → is_work kind ≡ true
led_works (rows.Accepted req doc what) kind led follows = follows
led_works (rows.Answered req stay) kind led follows = follows
led_works (rows.Evicted state) kind led follows = follows
led_works (rows.Delivered proc) kind led follows = follows
led_works (rows.Opened entry state doc proc slot address) kind led follows = cc
led_works (rows.Started req goal) kind led follows = cc
led_works (rows.Applied req change) kind led follows = cc
led_works (rows.Refused req reason) kind led follows = cc
led_works (rows.Dropped req cause) kind led follows = cc
led_works (rows.Prompted req doc) kind led follows = cc
led_works (rows.Sent job) kind led follows = cc
led_works (rows.Taken proc job live dirty) kind led follows = cc
led_works (rows.Finished proc job outcome) kind led follows = cc
led_works (rows.Made proc made) kind led follows = cc
led_works (rows.Killed proc death) kind led follows = cc

-- a row after the own one is work of the coordinator
works_after : (p : Point) (row : LogRow) (own : LogRow) (done : List LogRow) → p.done ≡ own ∷ done → leads own.row ≡ true → is_in_its_place p row ≡ true → is_work row.row ≡ true
works_after p row own done is led place = led_works own.row row.row led (rw is at place)

pub works_keep : (header : Header) (h : Here) (own : LogRow) (done : List LogRow) (event : ℕ) (actor : Actor) (out : List RowKind) (desks : ProcId → Desk) (views : DocId → Option View) (run : RunnersState) (ends : List (Option Ending)) → h.header ≡ bare header → h.done ≡ own ∷ done → leads own.row ≡ true → IsWorker actor → EachPass h (map (row_with event actor) out) [] → Keeping header h.now event desks views run ends → Keeping header (on_rows h (map (row_with event actor) out)).now event (λ proc. fold (desk_noted proc) (desks proc) out) views run (fold endings_noted ends out)
works_keep header h own done event actor [] desks views run ends same is led worker pass keeps = keeps
works_keep header h own done event actor (kind ∷ out) desks views run ends same is led worker (first, pass) keeps =
    let place : is_in_its_place (point_at h (map (row_with event actor) out ++ [])) (row_with event actor kind) ≡ true = (and_parts (is_in_its_place (point_at h (map (row_with event actor) out ++ [])) (row_with event actor kind)) _ first.formed).0 in
    let work : is_work kind ≡ true = works_after (point_at h (map (row_with event actor) out ++ [])) (row_with event actor kind) own done is led place in
    let home : IsSentHome (bare header) h.now kind = subst (λ (x : Header). IsSentHome x h.now kind) same (sent_home h.header (point_at h (map (row_with event actor) out ++ [])) (row_with event actor kind) first.suits) in
    works_keep header (on_row h (row_with event actor kind)) own (done ++ row_with event actor kind ∷ []) event actor out (λ proc. desk_noted proc (desks proc) kind) views run (endings_noted ends kind) same (ap (λ (l : List LogRow). l ++ row_with event actor kind ∷ []) is) led worker pass (work_keeps header h.now event actor kind desks views run ends worker work home (adds_next (point_at h (map (row_with event actor) out ++ [])) (row_with event actor kind) work first.ordered) keeps)
