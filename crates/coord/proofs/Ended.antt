-- The tab has come to rest, and the event ends.
use Rattle.tab_doors.proofs.Wanted.{nothing_wanted}
use Rattle.std.specs.Prelude.{is_some, slice_get}
use Rattle.log_model.specs.Orders.{Question, due_questions}
use Rattle.tab_doors.proofs.PassedOn.{none_before}
use Rattle.tab_doors.proofs.Works.{plain_now}
use Rattle.seen_laws.proofs.InEvents.{now_is, later_more}
use Rattle.tab_ids.specs.declared.ReqId.{ReqId}
use Rattle.tab_facts.specs.Running.Telling.{AreTelling}
use Rattle.tab_facts.specs.Running.Running.{AreFoundRunning}
use Rattle.log_model.specs.Seen.{Seen}
use Rattle.seen_laws.specs.Unasked.{unasked}
use Rattle.coord.specs.Standing.{ChangesLeaveOff, HasActed, IsToSettle}
use Rattle.coord.specs.declared.coordinator.Coordinator.{Coordinator}
use Rattle.seen_facts.specs.Hang.Members.{Has}
use Rattle.log_model.specs.declared.header.Header.{Header}
use Rattle.log_model.specs.declared.job.Why.{Why}
use Rattle.log_model.specs.declared.row_kind.LogRow.{LogRow}
use Rattle.log_model.specs.declared.row_kind.RowKind.{RowKind}
use Rattle.tab_facts.specs.Order.Orders.{IsOfCoord}
use Rattle.seen_laws.specs.InEvent.{InEvent, IsTakenIn, log_of, now_of, row_of, later_of}
use Rattle.std.proofs.Common.{Bool, List, [], ap, false, inl, inr, map, subst, sym, ℕ, ◌∙◌, ◌≡◌, ◌⊎◌, Some, true}
use Rattle.tab_loads.specs.Loading.{pass_of}
use Rattle.asking_facts.proofs.Ones.{told_outside}
use Rattle.asking_facts.specs.Noting.{IsAllTied}
use Rattle.tab_doors.specs.PassedOn.{told_by}
use Rattle.tab_stands.proofs.Checked.{none_tied}
use Rattle.tab_stands.specs.Checked.{told_all}
use Rattle.tab_stands.proofs.Ended.{acted, as_stands}
use Rattle.tab_stands.proofs.PassedOn.{IsNoneDue, leaves_unsettled, put_makes, put_sound, none_asked, put_slots}
use Rattle.tab_stands.proofs.Placing.{either_of}
use Rattle.tab_stands.specs.PassedOn.{HasPut, HasSettled, LeavesOff, IsOver}
use Rattle.tab_stands.specs.Standing as tab
use Rattle.coord.proofs.Fragments.{put_found, put_telling}
use Rattle.slot_facts.specs.Slots.{AreSlots}
use Rattle.tab_ids.specs.declared.DocId.{DocId}

-- what is taken up among the rows so far is so among more
taken_in : (e : InEvent) (was out : List RowKind) → HasPut e was out → tab.IsTakenUp e was → IsTakenIn e (later_of e out)
taken_in e was out put taken =
    subst (λ (l : List LogRow). IsTakenIn e l) (sym (ap (λ (l : List RowKind). later_of e l) put.is ∙ later_more e was put.more)) (taken (map (row_of e) put.more))

-- the rows are a coordinator's
of_coord : (e : InEvent) (was out : List RowKind) → HasPut e was out → ((row : RowKind) → Has was row → IsOfCoord row) → (row : RowKind) → Has out row → IsOfCoord row
of_coord e was out put first row has =
    by_part (either_of was put.more row (subst (λ (l : List RowKind). Has l row) put.is has))
  where
    by_part : Has was row ⊎ Has put.more row → IsOfCoord row
    by_part (inl there) = first row there
    by_part (inr there) = put.each row there

pub settled_acts : (e : InEvent) (was out : List RowKind) (c after : Coordinator) (cause last : Why) → IsToSettle e was c cause → after.header ≡ c.header → after.slots.entries ≡ c.slots.entries → HasSettled (pass_of e []) out after.tables after.queue after.blame.entries last → IsOver e out after.tables.running after.queue.waiting → HasPut e was out → LeavesOff e was out → HasActed e out after
settled_acts e was out c after cause last to header slots at due put left =
    record {
      stands = record {
        but = record {
          stands = subst (λ (x : Seen). tab.StandsFor tab.none_in_check x after.tables after.queue after.blame.entries) (sym plain_out) (as_stands tab.none_in_check (now_of e out) after.tables (told_all e.ran after.tables.checks out) after.queue after.blame.entries all.stands);
          keep = at.header ∙ ap (λ (h : Header). h.keep) (sym (header ∙ to.header));
          lasts = subst (λ (checking : ReqId → Bool). tab.LastsInLog checking after.tables.asking (log_of e out)) to.unchecked all.lasts;
          unchecked = none_before e.ran after.tables.checks out (λ req. at.passing.work.asked.within req (off req));
          plain =
              ap (λ (checking : ReqId → Bool). unasked checking (log_of e out)) (sym to.unchecked)
              ∙ sym (now_is e out)
              ∙ sym plain_out;
          found =
              subst AreFoundRunning (sym plain_out)
              (put_found e was out at.passing.work.goes put at.passing.going.tab.whose.numbered to.ready.passing.going.tab.desks to.found);
          telling = subst AreTelling (sym plain_out) (put_telling e was out at.passing.work.goes put to.telling);
        };
        slots =
            subst (λ (l : List (DocId × ℕ)). AreSlots (log_of e out) l) (sym slots) (put_slots e c.slots.entries was out put to.slots);
      };
      header = header ∙ to.header;
      passes = all.passes;
      off = subst (λ (x : Seen). ChangesLeaveOff x out) (sym plain_out) (leaves_unsettled e was out left to.unmoved);
    }
  where
    -- nobody is in a check
    off : (req : ReqId) → e.checking req ≡ false
    off req = ap (λ (checking : ReqId → Bool). checking req) to.unchecked

    -- nobody was asked so far
    plain_out : log_of e out ≡ now_of e out
    plain_out = plain_now e out at.passing.work.goes to.starts

    -- as nobody has a handler, none is to be asked
    none_due : IsOver e out after.tables.running after.queue.waiting → IsNoneDue (now_of e out) after.tables.running after.queue.waiting
    none_due (inl none) = none
    none_due (inr asks) =
        let nobody_due : due_questions (log_of e out) asks.first.q.what (Some asks.first.goal) ≡ [] = subst (λ (x : Seen). due_questions x asks.first.q.what (Some asks.first.goal) ≡ []) (sym plain_out) (none_asked (now_of e out) at.passing.going.tab.docs asks.first.q.what (Some asks.first.goal)) in
        let never : false ≡ true = sym (ap (λ (l : List Question). is_some (slice_get l 0)) nobody_due) ∙ asks.first.asks in
        absurd cc

    -- no check is in the table
    settled_all : IsAllTied (log_of e out) (told_all e.ran after.tables.checks out)
    settled_all =
        none_tied (log_of e out) (told_all e.ran after.tables.checks out) (λ req. told_outside e.checking e.start (log_of e out) (told_by e.ran after.tables.checks out) at.passing.work.asked req (off req))

    all : tab.HasActed tab.none_in_check e out (record after.tables { checks = told_all e.ran after.tables.checks out }) after.queue after.blame.entries
    all =
        acted (pass_of e []) out after.tables after.queue after.blame.entries last false (λ never. absurd cc) at (put_makes e after.tables.running was out at.passing.work.goes at.passing.going.tab.asked put to.makes) (put_sound e was out at.passing.work.goes put to.sound) (of_coord e was out put to.coord) (λ pass. to.shows) (λ pass. to.known) settled_all (nothing_wanted e out to.unwanted) (λ free. none_due due) (taken_in e was out put to.taken)
