-- What a document made is refused: the new frame's number is taken, or the frame to be removed isn't the document's.
use Rattle.leave_facts.proofs.Events.{refused_duly}
use Rattle.tab_doors.proofs.PassedOn.{refused_goes, refused_now}
use Rattle.seen_facts.proofs.Coord.Unread.{next}
use Rattle.seen_facts.proofs.Entry.Skips.{without_made}
use Rattle.tab_facts.specs.Frame.Lasting.{wish}
use Rattle.tab_rests.proofs.PassedOn.{course_of}
use Rattle.tab_facts.proofs.Last.Rows.{refused_lasting}
use Rattle.log_model.proofs.Refl.{nat_eq_refl}
use Rattle.log_model.specs.Causes.{denial_at_delivery}
use Rattle.log_model.specs.Seen.{Asked, Seen}
use Rattle.log_model.specs.declared.made.Made.{Made}
use Rattle.log_model.specs.declared.outcome.Denial.{Denial}
use Rattle.log_model.specs.declared.row_kind.Actor.{Actor}
use Rattle.log_model.specs.declared.row_kind.RowKind.{RowKind}
use Rattle.row_facts.proofs.Owed.Ends.{loose_more, loose_owed}
use Rattle.row_facts.proofs.Owed.Rows.{refused_lasts}
use Rattle.row_facts.specs.Owed.Owed.{IsLoose}
use Rattle.seen_facts.proofs.Request.Readers.{on_read}
use Rattle.row_facts.proofs.RestRows.Rows.{refused_rests}
use Rattle.row_facts.specs.RestRows.Moving.{AllRest}
use Rattle.seen_laws.specs.InEvent.{InEvent, now_of}
use Rattle.std.proofs.Common.{List, Some, [], ap, length, refl, subst, sym, ◌++◌, ◌∙◌, ◌∷◌, ◌≡◌, ◌≤◌}
use Rattle.tab_rests.specs.PassedOn.{InPass, IsGoing, IsPassing, IsTab, LeavesQueue, MayCause}
use Rattle.tab_doors.specs.Dues.{IsDenyDue}
use Rattle.tab_doors.specs.Working.{IsAtWork, KeepsRun}
use Rattle.tab_doors.specs.declared.tables.Tables.{Tables}
pub use Rattle.tab_rests.proofs.PassedOn.{refused_going}
use Rattle.tab_ids.specs.declared.DocId.{DocId}
use Rattle.tab_ids.specs.declared.ReqId.{ReqId}
use Rattle.tab_ids.specs.declared.StateId.{StateId}
use Rattle.tab_takes.proofs.Sorts.{denied_poke}
use Rattle.tab_takes.proofs.Leaving.{cause_then, queue_then, taking_then}
use Rattle.tab_takes.proofs.Verdicts.{s, tab}
use Rattle.tab_takes.proofs.Where.{loads_same, made_at_hand}
use Rattle.tab_takes.specs.Taking.{HasTaken, IsTaking, IsToTake}
use Rattle.tab_rests.proofs.PassedOn.{IsNoProcess, denied_tab}
use Rattle.row_facts.proofs.WalkRows.Moved.{refused_moved}
use Rattle.log_model.specs.declared.job.Why.TheVariants as whys
use Rattle.log_model.specs.declared.outcome.Ending.TheVariants as endings
use Rattle.log_model.specs.declared.row_kind.RowKind.TheVariants as rows

module _ (p : InPass) (out : List RowKind) (t : Tables) (blame : List (StateId × ReqId)) (made : Made) (at : IsToTake p out t blame made) (reason : Denial) (due : denial_at_delivery (now_of p.event out) made ≡ Some reason) where
  abbrev e : InEvent
  e = p.event

  abbrev now_ : Seen
  now_ = s p out t blame made at

  abbrev whole : IsTab t.running p.loads p.hand now_
  whole = tab p out t blame made at

  abbrev rest : List Made
  rest = without_made made.req p.hand

  pub deny_due : IsDenyDue e out made.req reason
  deny_due =
      record {
        by_coord = at.taking.by_coord;
        asked = at.taking.q;
        made = made;
        poked = denied_poke p out t blame made at reason due;
        unstarted = at.taking.unstarted;
        takes = at.taking.takes;
        before = at.taking.before;
        is = due;
        free = at.taking.free;
        held = at.taking.held (rows.Refused made.req reason) refl;
      }

  module _ (new : List RowKind) (u : Tables) (out_is : new ≡ out ++ rows.Refused made.req reason ∷ []) (same : u ≡ t) (work : IsAtWork e new u) where
    abbrev n : Seen
    n = next now_ e.event e.actor (rows.Refused made.req reason)

    now_is : now_of e new ≡ n
    now_is = ap (λ (l : List RowKind). now_of e l) out_is ∙ refused_now e out made.req reason

    tab_n : IsTab t.running p.loads rest n
    tab_n =
        loads_same p out t blame made at n
        (denied_tab t.running p.loads p.hand now_ e.event whole made.req made (made_at_hand p out t blame made at) e.actor reason (subst (λ (actor : Actor). IsNoProcess actor) (sym at.taking.by_coord) tt) due)

    going_n : IsGoing t.running p.loads rest n
    going_n =
        refused_going t.running p.loads p.hand now_ e.event e.actor at.passing.going made.req at.taking.q at.taking.there at.taking.open_ reason p.loads rest tab_n (refused_lasting now_ e.event e.actor at.passing.going.lasting made.req reason)

    loose_n : IsLoose e new
    loose_n =
        subst (λ (l : List RowKind). IsLoose e l) (sym out_is)
        (loose_more e out (rows.Refused made.req reason) (refused_goes e out made.req reason).read at.loose (refused_lasts now_ e.event e.actor made.req reason) (λ end on. refl))

    passing_n : IsPassing (record p { hand = rest }) new u
    passing_n =
        record {
          work = work;
          going = subst (λ (x : Seen). IsGoing u.running p.loads rest x) (sym now_is) (subst (λ (x : Tables). IsGoing x.running p.loads rest n) (sym same) going_n);
          owed = loose_owed e new loose_n;
          loose = λ all. loose_n;
          rests = subst (λ (x : Seen). AllRest x) (sym now_is) (refused_rests now_ e.event e.actor [] at.passing.rests made.req reason);
          duly = refused_duly e out made.req reason new out_is at.passing.duly;
          few = subst (λ (x : Tables). length (now_of e new).kept ≤ x.kept.keep) (sym same) (subst (λ (l : List DocId). length l ≤ t.kept.keep) (sym (ap (λ (x : Seen). x.kept) now_is)) at.passing.few);
        }

    abbrev end_it : Asked → Asked
    end_it x = record x { ending = Some (endings.Refused reason) }

    pub has_denied : HasTaken p t made out new u blame
    has_denied =
        record {
          passing = passing_n;
          open_ = subst (λ (x : Seen). IsTaking e u.running blame x) (sym now_is) (subst (λ (x : Tables). IsTaking e x.running blame n) (sym same) (taking_then p out t blame made at n (endings.Refused reason) refl refl refl refl refl refl refl (λ why nav by. refused_moved now_ e.event e.actor why nav by made.req reason) tab_n));
          loose = loose_n;
          cause = subst (λ (x : Seen). MayCause x (whys.Req made.req)) (sym now_is) (cause_then p out t blame made at n tab_n (on_read wish now_.requests made.req (λ (x : Asked). record x { ending = Some (endings.Refused reason) }) (λ x. refl)) (on_read course_of now_.requests made.req (λ (x : Asked). record x { ending = Some (endings.Refused reason) }) (λ x. refl)));
          ended = record { kind = rows.Refused made.req reason; out = out_is; ends = refl; no_turn = refl; no_reload = refl; up = λ up. nat_eq_refl made.req.0 };
          queue = subst (λ (x : Seen). LeavesQueue now_ x) (sym now_is) (queue_then p out t blame made at n (endings.Refused reason) refl refl refl refl refl refl refl (λ why nav by. refused_moved now_ e.event e.actor why nav by made.req reason) tab_n);
          kept = subst (λ (x : Tables). KeepsRun t x) (sym same) (record { running = refl; goal = refl; keep = refl; checks = refl });
        }
