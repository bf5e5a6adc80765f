-- While documents are swept it is let go that no traversal in its check has passed; once that is so again, all goes on as before.
use Rattle.log_model.specs.declared.row_kind.RowKind.{RowKind}
use Rattle.seen_laws.specs.InEvent.{log_of}
use Rattle.std.proofs.Common.{Bool, List, None, true, false}
use Rattle.tab_doors.specs.Working.{IsAtWorkIn, IsCalmIn}
use Rattle.tab_doors.specs.declared.tables.Tables.{Tables}
use Rattle.tab_passes.specs.Passing.{InPass, IsPassing, IsPassingIn}

module _ {sweeps : Bool} (p : InPass) (out : List RowKind) (t : Tables) (pass : IsPassingIn sweeps p out t) where
  -- where it is let go or so again, all else is as it was
  work_then : (then_ : Bool) → IsCalmIn then_ p.event.checking (log_of p.event out) → IsAtWorkIn then_ None p.event out t
  work_then then_ calm =
      record {
        own = pass.work.own;
        worker = pass.work.worker;
        goes = pass.work.goes;
        numbered = pass.work.numbered;
        read = pass.work.read;
        sole = pass.work.sole;
        debts = pass.work.debts;
        checks = pass.work.checks;
        calm = calm;
        unheld = pass.work.unheld;
        off = pass.work.off;
        holds = pass.work.holds;
        runs = pass.work.runs;
        goal = pass.work.goal;
        few = pass.work.few;
        initial = pass.work.initial;
        loads = pass.work.loads;
        asking = pass.work.asking;
        kept = pass.work.kept;
        asked = pass.work.asked;
        lawful = pass.work.lawful;
      }

  passing_then : (then_ : Bool) → IsCalmIn then_ p.event.checking (log_of p.event out) → IsPassingIn then_ p out t
  passing_then then_ calm =
      record { work = work_then then_ calm; going = pass.going; owed = pass.owed; loose = pass.loose; rests = pass.rests; few = pass.few; duly = pass.duly }

  -- documents are swept from here on
  pub swept_on : IsPassingIn true p out t
  swept_on = passing_then true tt

  -- none are any more, and no traversal in its check has passed
  pub swept_off : IsCalmIn false p.event.checking (log_of p.event out) → IsPassing p out t
  swept_off calm = passing_then false calm
