-- Ongoing loads give way to the traversal that runs.
use Rattle.apply_plan.specs.Order.{made_in}
use Rattle.log_model.specs.Seen.{Seen}
use Rattle.log_model.specs.declared.job.Why.{Why}
use Rattle.log_model.specs.declared.row_kind.RowKind.{RowKind}
use Rattle.seen_laws.specs.InEvent.{now_of}
use Rattle.std.proofs.Common.{List, None, Option, Some, refl, subst, sym, ◌∙◌, ◌≡◌}
use Rattle.tab_doors.specs.Working.{KeepsStore}
use Rattle.tab_doors.specs.declared.tables.Tables.{Tables}
use Rattle.tab_drops.specs.Dropping.{AreUnheld, HasOnlyDroppedBy, IsUnsettled, LeavesAll, StandOrBare, StandOrMove}
use Rattle.tab_ids.specs.declared.ReqId.{ReqId}
use Rattle.tab_ids.specs.declared.StateId.{StateId}
use Rattle.tab_one_pass.proofs.Dropped.{moved_blamed}
use Rattle.tab_one_pass.proofs.Opens.{need_was, open_left, place_same}
use Rattle.tab_one_pass.proofs.Passes.{left_drops}
use Rattle.tab_one_pass.specs.Noting.{AreNoted}
use Rattle.tab_one_pass.specs.Passing.{HasGivenWay, IsOpen, LeavesPass, MayStand}
pub use Rattle.tab_one_pass.proofs.Opens.{still_left, still_on}
pub use Rattle.tab_serves.proofs.Leavers.{load_leaver, run_leaver, run_leavers}
pub use Rattle.tab_serves.proofs.PassedOn.{show_causes}
use Rattle.tab_serves.specs.PassedOn.{MayServe}
use Rattle.tab_serves.specs.Serving.{FreesVisited, InPass, IsPassing, MayCause, show_why}
use Rattle.tab_sweeps.specs.Sweeping.{AreBlamed}

-- ---- loads give way to the traversal that runs

module _ (p : InPass) (out : List RowKind) (t : Tables) (pass : IsPassing p out t) (cause : Why) (so : IsOpen p.event t.running cause (now_of p.event out)) where
  abbrev s : Seen
  s = now_of p.event out

  module _ (stand : MayStand t.running s) where
    module _ (by : ReqId) (runs : t.running ≡ Some by) where
      pub move_asks : IsPassing p out t × (AreUnheld p.event s × ((t.running ≡ Some by) × StandOrMove s))
      move_asks = (pass, (so.held, (runs, subst (λ (r : Option ReqId). MayStand r s) runs stand)))

      module _ (u : Tables) (new : List RowKind) (then_ : IsPassing p new u) (left : LeavesAll s (now_of p.event new)) (kept : KeepsStore t u) where
        pub moved_open : IsOpen p.event u.running cause (now_of p.event new)
        moved_open =
            subst (λ (r : Option ReqId). IsOpen p.event r cause (now_of p.event new)) (sym kept.running) (open_left p t.running cause s (now_of p.event new) left so)

        serves : MayServe (now_of p.event new) by
        serves =
            (subst (λ (r : Option ReqId). MayCause (now_of p.event new) (show_why r cause)) (kept.running ∙ runs) (show_causes (now_of p.event new) u.running then_.going.tab.asked cause moved_open.may)) by refl

        pub moved_noted : (blame noted : List (StateId × ReqId)) → AreNoted t (Some by) (made_in t.tree) blame noted → AreBlamed s blame → AreBlamed (now_of p.event new) noted
        moved_noted blame noted are blamed = moved_blamed p out t pass new blame noted left by serves are blamed

        pub moved_left : LeavesPass s (now_of p.event new)
        moved_left = left_drops s (now_of p.event new) left

        pub moved_frees : FreesVisited p.event s → FreesVisited p.event (now_of p.event new)
        moved_frees frees nav place at need epoch =
            frees nav place (sym (place_same s (now_of p.event new) left.places left.history left.aim nav) ∙ at) (need_was s (now_of p.event new) left.places left.history left.aim place need) epoch

        pub moved_only : HasOnlyDroppedBy s by (IsUnsettled s) out new → HasGivenWay s t.running out new
        moved_only only = subst (λ (r : Option ReqId). HasGivenWay s r out new) (sym runs) only

    module _ (none : t.running ≡ None) where
      pub idle_stand : StandOrBare s
      idle_stand = subst (λ (r : Option ReqId). MayStand r s) none stand

      pub idle_only : HasGivenWay s t.running out out
      idle_only = subst (λ (r : Option ReqId). HasGivenWay s r out out) (sym none) refl
