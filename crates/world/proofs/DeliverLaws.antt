-- The coordinator takes a report.
use Rattle.std.proofs.Common.{◌≡◌, ℕ, ◌+◌, ◌<◌, List, [], ◌∷◌, ◌++◌, length, drop, map, fold, Option, Some, refl, sym, ap, ◌∙◌, subst, append_assoc}
use Rattle.std.specs.Prelude.{slice_get}
use Rattle.tab_ids.specs.declared.ProcId.{ProcId}
use Rattle.log_model.specs.declared.header.Header.{Header}
use Rattle.log_model.specs.declared.made.Report.{Report}
use Rattle.log_model.specs.declared.made.Report.TheVariants as told
use Rattle.log_model.specs.declared.row_kind.Actor.TheVariants as actors
use Rattle.log_model.specs.declared.row_kind.LogRow.{LogRow}
use Rattle.log_model.specs.declared.row_kind.RowKind.{RowKind}
use Rattle.log_model.specs.declared.row_kind.RowKind.TheVariants as rows
use Rattle.log_model.specs.After.{after, desk_delivered, known_after}
use Rattle.log_model.specs.Logs.{seen_of}
use Rattle.log_model.specs.Seen.{Seen, Desk, Document, Place, desk_of}
use Rattle.history_log.proofs.DeskLaws.{desk_of-after}
use Rattle.seen_facts.specs.Desk.Own.{IsReportIn}
use Rattle.seen_facts.proofs.Each.Eaches.{each_first}
use Rattle.coord.specs.Delivering.{InDelivery}
use Rattle.coord.specs.Standing.{HasActed, IsOpenTo}
use Rattle.coord.specs.declared.coordinator.Coordinator.{Coordinator}
use Rattle.running_table.proofs.ForCallers.{quiet_told}
use Rattle.coord.specs.PassedOn.{IsDelivery}
use Rattle.world.specs.declared.event.Event.TheVariants as events
use Rattle.world.specs.declared.event.Reply.TheVariants as replies
use Rattle.world.specs.declared.state.State.{State}
use Rattle.world.specs.Asking.{delivering}
use Rattle.proc_tables.specs.Desks.{Changes, desk_at, desk_noted, without_report}
use Rattle.proc_tables.specs.Views.{view_at}
use Rattle.world.specs.Notes.{endings_noted, row_with}
use Rattle.world.specs.Open.{IsOpen, row_limit}
use Rattle.world.specs.Turns.{HasGone}
use Rattle.world.proofs.EndingLaws.{delivered_left}
use Rattle.world.proofs.EventLaws.{works_on}
use Rattle.world.proofs.FaceLaws.{delivered_face, faces_kept}
use Rattle.world.proofs.NoteLaws.{Keeping}
use Rattle.world.proofs.SitedLaws.{delivered_sited}
use Rattle.world.proofs.TableLaws.{desks_go}

-- what the coordinator asks of the event of a delivery
pub delivers_so : (d : InDelivery) (header : Header) (log : List LogRow) (proc : ProcId) (report : Report) (c : Coordinator) (out : List RowKind) → d ≡ delivering header log proc report → IsOpenTo d.event c → slice_get (desk_of (seen_of log) proc).reports 0 ≡ Some report → out ≡ [] → IsDelivery d.event proc report × ((d.proc ≡ proc) × ((d.report ≡ report) × (IsOpenTo d.event c × (out ≡ []))))
delivers_so d header log proc report c out is open_ waits none =
    (subst (λ (x : InDelivery). IsDelivery x.event proc report) (sym is) (record { by_coord = refl; own = refl; first = waits }), (ap (λ (x : InDelivery). x.proc) is, (ap (λ (x : InDelivery). x.report) is, (open_, none))))

module _ (header : Header) (log : List LogRow) (t : State) (is : IsOpen header log t) (short : length log < row_limit) (proc : ProcId) (report : Report) (first : slice_get (desk_at t.desks proc).reports 0 ≡ Some report) where
  abbrev s : Seen
  s = seen_of log

  pub waits : slice_get (desk_of s proc).reports 0 ≡ Some report
  waits = ap (λ (d : Desk). slice_get d.reports 0) (is.holds.desks proc) ∙ first

  -- it tells of no death
  unknown : (documents : List Document) (places : List Place) (known : ℕ) (r : Report) → IsReportIn documents places proc r → known_after known (Some r) ≡ known
  unknown documents places known (told.Done job outcome made) its = refl
  unknown documents places known (told.Made made) its = refl
  unknown documents places known (told.Died death) its = elim its [ ]

  its_report : IsReportIn s.documents s.places proc report
  its_report =
      each_first (IsReportIn s.documents s.places proc) (desk_of s proc).reports report waits (is.keeps.stands.but.stands.between.tab.desks proc).told

  taken : desk_delivered (desk_at t.desks proc) ≡ without_report (desk_at t.desks proc)
  taken =
      ap (λ (n : ℕ). let d : Desk = record (desk_at t.desks proc) { reports = drop 1 (desk_at t.desks proc).reports; known = n } in d) (ap (λ (o : Option Report). known_after (desk_at t.desks proc).known o) first ∙ unknown s.documents s.places (desk_at t.desks proc).known report its_report)

  module _ (mid : List (ProcId × Desk)) (taking : Changes proc without_report t.desks mid) where
    kept : Keeping header (after s (row_with s.events actors.Coord (rows.Delivered proc))) s.events (desk_at mid) (view_at t.views) t.runners t.endings.items
    kept =
        let faces = faces_kept s.documents _ (delivered_face s.documents (slice_get (desk_of s proc).reports 0)) in
        record {
          events = refl;
          desks = λ p. desk_of-after s p s.events actors.Coord (rows.Delivered proc) ∙ desks_go s t.desks mid proc desk_delivered without_report is.holds.desks taken taking p;
          views = λ doc. faces.views doc ∙ is.holds.views doc;
          runners = quiet_told s s.events actors.Coord (rows.Delivered proc) t.runners tt tt is.holds.runners;
          endings = delivered_left (slice_get (desk_of s proc).reports 0) s.requests ∙ is.holds.endings;
          sited = delivered_sited header s.documents (slice_get (desk_of s proc).reports 0) is.sited;
        }

    rows_same : (n m : ℕ) (out : List RowKind) → n ≡ m → (log ++ row_with n actors.Coord (rows.Delivered proc) ∷ []) ++ map (row_with n actors.Coord) out ≡ log ++ row_with m actors.Coord (rows.Delivered proc) ∷ map (row_with m actors.Coord) out
    rows_same n m out same =
        append_assoc log (row_with n actors.Coord (rows.Delivered proc) ∷ []) (map (row_with n actors.Coord) out)
        ∙ ap (λ (k : ℕ). log ++ row_with k actors.Coord (rows.Delivered proc) ∷ map (row_with k actors.Coord) out) same

    pub deliver_gone : (out : List RowKind) (new : State) (longer : List LogRow) → HasActed (delivering header log proc report).event out new.coordinator → new.events ≡ t.events + 1 → new.views ≡ t.views → new.runners ≡ t.runners → ((p : ProcId) → desk_at new.desks p ≡ fold (desk_noted p) (desk_at mid p) out) → new.endings.items ≡ fold endings_noted t.endings.items out → longer ≡ (log ++ row_with t.events actors.Coord (rows.Delivered proc) ∷ []) ++ map (row_with t.events actors.Coord) out → HasGone header (events.Deliver proc) replies.Delivered log longer new
    deliver_gone out new longer acted events_ views run desks ends_ more =
        let whole = more ∙ rows_same t.events s.events out (sym is.holds.events) in
        record {
          happened = record { own = rows.Delivered proc; out = out; begins = (refl, refl); log = whole };
          stands = subst (λ (l : List LogRow). IsOpen header l new) (sym whole) (works_on header log t is short actors.Coord (rows.Delivered proc) out new (desk_at mid) t.endings.items tt refl acted kept events_ views run desks ends_);
        }
