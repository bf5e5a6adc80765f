-- The traversal that holds the queue goes on from between the two parts of a pass.
use Rattle.log_model.specs.declared.job.Why.{Why}
use Rattle.log_model.specs.declared.row_kind.RowKind.{RowKind}
use Rattle.move_queue.specs.Queue.{Queue}
use Rattle.row_facts.specs.Owed.Owed.{IsLoose}
use Rattle.std.proofs.Common.{List, subst, sym, true, ◌≡◌}
use Rattle.tab_doors.specs.declared.tables.Tables.{Tables}
use Rattle.tab_held.specs.Holding.{GoesOnAfter, HasRestedAt, InCut, IsToldOfEnded, goes_on, held_prompts}
use Rattle.tab_ids.specs.declared.DocId.{DocId}
use Rattle.tab_ids.specs.declared.ReqId.{ReqId}
use Rattle.tab_ids.specs.declared.StateId.{StateId}
use Rattle.tab_settles.specs.Held.{IsClearedIn}
use Rattle.tab_settles.specs.PassedOn.{InPass}
use Rattle.tab_settles.specs.Settling.{HasPut, LeavesOff}
use Rattle.unload_check.specs.Checks.{OpenCheck, after_all_deaths}

-- nothing was put out since the table was told, by which the traversal's check is over
pub goes_after : (p : InPass) (was mid out : List RowKind) (t before u : Tables) (run : List DocId) (queue : Queue) (blame : List (StateId × ReqId)) (cause : Why) (req : ReqId) → before.checks ≡ t.checks → IsClearedIn true p mid before queue blame cause → HasPut p.event was mid → LeavesOff p.event was mid → (IsLoose p.event was → IsLoose p.event mid) → out ≡ mid → IsToldOfEnded p.event mid before u run → goes_on (after_all_deaths run u.checks) req ≡ true → GoesOnAfter p was out t u run queue blame cause req
goes_after p was mid out t before u run queue blame cause req same cleared put off loose is told over =
    subst (λ (l : List RowKind). GoesOnAfter p was l t u run queue blame cause req) (sym is) (record {
      before = before;
      cleared = cleared;
      put = put;
      off = off;
      loose = loose;
      checks = same;
      told = told;
      over = over;
    })

-- the table is as it was, and the prompt with it
pub rests_by : (c : InCut) (mid out : List RowKind) (u : Tables) (blame : List (StateId × ReqId)) (cause : Why) (req : ReqId) {was now : List (ReqId × OpenCheck)} → now ≡ was → HasRestedAt c mid (held_prompts c.held.pass.event now mid req) out u blame cause → HasRestedAt c mid (held_prompts c.held.pass.event was mid req) out u blame cause
rests_by c mid out u blame cause req same rested =
    subst (λ (l : List (ReqId × OpenCheck)). HasRestedAt c mid (held_prompts c.held.pass.event l mid req) out u blame cause) same rested
