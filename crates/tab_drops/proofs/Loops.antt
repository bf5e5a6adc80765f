-- The loops over the navigables with loads: what holds from turn to turn.
use Rattle.log_model.specs.Seen.{Seen}
use Rattle.log_model.specs.declared.row_kind.RowKind.{RowKind}
use Rattle.seen_laws.specs.InEvent.{now_of}
use Rattle.std.proofs.Common.{Bool, List, None, Some, ℕ, ◌+◌, ◌∙◌, ◌≡◌, length, ◌≤◌, sym, subst}
use Rattle.std.specs.Prelude.{slice_get}
use Rattle.tab_doors.specs.Working.{KeepsStore}
use Rattle.tab_doors.specs.declared.tables.Tables.{Tables}
use Rattle.tab_drops.proofs.Spans.{drops_end, drops_next, drops_only, unheld_on}
use Rattle.tab_drops.proofs.Turns.{applied_on, bare_back, bare_on, below_back, below_drop_back, below_on, destroyed_back, entries_then, all_stand_then, moved_drop_back, placed_on, stand_then, unsettled_back, unsettled_on}
use Rattle.seen_facts.specs.LoadEnds.Standing.{LoadsStand}
use Rattle.tab_drops.specs.Dropping.{ArePlaced, AreUnheld, EndsLoads, HasOnlyDestroyed, HasOnlyDroppedBy, HaveEntries, IsBare, IsBelowNav, IsDestroyedLoad, IsDroppedFor, IsLoadApplied, IsUnsettled, StandOrBare, StandOrMove}
use Rattle.tab_drops.specs.Listing.{AreListed}
use Rattle.tab_drops.specs.Turns.{IsDroppingIn, IsTurnAt}
use Rattle.tab_ids.specs.declared.NavId.{NavId}
use Rattle.tab_ids.specs.declared.ReqId.{ReqId}
use Rattle.tab_moves.specs.PassedOn.{IsPassingIn}
use Rattle.tab_moves.specs.Moving.{InPass}

module _ {sweeps : Bool} (p : InPass) (was : List RowKind) (t : Tables) (begins : IsPassingIn sweeps p was t) (navs listed_ : List NavId) (same : navs ≡ listed_) (are : AreListed t.tree t.loads listed_) where
  abbrev s0 : Seen
  s0 = now_of p.event was

  listed : AreListed t.tree t.loads navs
  listed = subst (λ (l : List NavId). AreListed t.tree t.loads l) (sym same) are

  module _ (n : ℕ) (u : Tables) (out : List RowKind) where
    abbrev s : Seen
    s = now_of p.event out

    -- ---- for the traversal that runs

    module _ (by : ReqId) (is : IsDroppingIn sweeps p (IsDroppedFor (now_of p.event was) by (IsUnsettled (now_of p.event was))) (IsUnsettled (now_of p.event was)) t was navs n u out) where
      pub moved_asks : AreUnheld p.event s0 → t.running ≡ Some by → IsPassingIn sweeps p out u × (AreUnheld p.event s × (u.running ≡ Some by))
      moved_asks held runs = (is.passing, (unheld_on p s0 s is.left held, is.kept.running ∙ runs))

      pub moved_next : (nav : NavId) (v : Tables) (new : List RowKind) → slice_get navs n ≡ Some nav → IsTurnAt (IsDroppedFor s by (IsUnsettled s)) (IsUnsettled s) nav s (now_of p.event new) out new → IsPassingIn sweeps p new v → KeepsStore u v → IsDroppingIn sweeps p (IsDroppedFor s0 by (IsUnsettled s0)) (IsUnsettled s0) t was navs (n + 1) v new
      moved_next nav v new at turn passing keeps =
          drops_next p (IsDroppedFor s0 by (IsUnsettled s0)) (IsUnsettled s0) t was navs begins listed n u out is nav (IsDroppedFor s by (IsUnsettled s)) (IsUnsettled s) v new at (moved_drop_back s0 s is.left by) (unsettled_on s0 s is.left) (unsettled_back s0 s is.left) turn passing keeps

      pub moved_only : HasOnlyDroppedBy s0 by (IsUnsettled s0) was out
      moved_only = drops_only p (IsDroppedFor s0 by (IsUnsettled s0)) (IsUnsettled s0) t was navs begins listed n u out is

      pub moved_end : length navs ≤ n → EndsLoads (IsUnsettled s0) s0 s
      moved_end past =
          drops_end p (IsDroppedFor s0 by (IsUnsettled s0)) (IsUnsettled s0) t was navs begins listed n u out is (λ req nav load away. (away.place, away.placed)) past

      pub moved_stand : length navs ≤ n → StandOrMove s0 → StandOrBare s
      moved_stand past stands = stand_then s0 s is.left stands (moved_end past)

    -- ---- for a load that was applied

    module _ (top : NavId) (by : ReqId) (is : IsDroppingIn sweeps p (IsDroppedFor (now_of p.event was) by (IsBelowNav (now_of p.event was) top)) (IsBelowNav (now_of p.event was) top) t was navs n u out) where
      pub below_asks : AreUnheld p.event s0 → t.running ≡ None → IsLoadApplied s0 top by → IsPassingIn sweeps p out u × (AreUnheld p.event s × ((u.running ≡ None) × IsLoadApplied s top by))
      below_asks held none applied =
          (is.passing, (unheld_on p s0 s is.left held, (is.kept.running ∙ none, applied_on s0 s is.left top by begins.going.tab.movers.ends applied)))

      pub below_next : (nav : NavId) (v : Tables) (new : List RowKind) → slice_get navs n ≡ Some nav → IsTurnAt (IsDroppedFor s by (IsBelowNav s top)) (IsBelowNav s top) nav s (now_of p.event new) out new → IsPassingIn sweeps p new v → KeepsStore u v → IsDroppingIn sweeps p (IsDroppedFor s0 by (IsBelowNav s0 top)) (IsBelowNav s0 top) t was navs (n + 1) v new
      below_next nav v new at turn passing keeps =
          drops_next p (IsDroppedFor s0 by (IsBelowNav s0 top)) (IsBelowNav s0 top) t was navs begins listed n u out is nav (IsDroppedFor s by (IsBelowNav s top)) (IsBelowNav s top) v new at (below_drop_back s0 s is.left top by) (below_on s0 s is.left top) (below_back s0 s is.left top) turn passing keeps

      pub below_only : HasOnlyDroppedBy s0 by (IsBelowNav s0 top) was out
      below_only = drops_only p (IsDroppedFor s0 by (IsBelowNav s0 top)) (IsBelowNav s0 top) t was navs begins listed n u out is

      pub below_end : length navs ≤ n → EndsLoads (IsBelowNav s0 top) s0 s
      below_end past =
          drops_end p (IsDroppedFor s0 by (IsBelowNav s0 top)) (IsBelowNav s0 top) t was navs begins listed n u out is (λ req nav load below. (below.place, below.placed)) past

    -- ---- by who took the entries

    module _ (is : IsDroppingIn sweeps p (IsDestroyedLoad (now_of p.event was)) (IsBare (now_of p.event was)) t was navs n u out) where
      pub bare_asks : AreUnheld p.event s0 → ArePlaced s0 → IsPassingIn sweeps p out u × (AreUnheld p.event s × ArePlaced s)
      bare_asks held placed = (is.passing, (unheld_on p s0 s is.left held, placed_on s0 s is.left placed))

      pub bare_next : (nav : NavId) (v : Tables) (new : List RowKind) → slice_get navs n ≡ Some nav → IsTurnAt (IsDestroyedLoad s) (IsBare s) nav s (now_of p.event new) out new → IsPassingIn sweeps p new v → KeepsStore u v → IsDroppingIn sweeps p (IsDestroyedLoad s0) (IsBare s0) t was navs (n + 1) v new
      bare_next nav v new at turn passing keeps =
          drops_next p (IsDestroyedLoad s0) (IsBare s0) t was navs begins listed n u out is nav (IsDestroyedLoad s) (IsBare s) v new at (destroyed_back s0 s is.left) (bare_on s0 s is.left) (bare_back s0 s is.left) turn passing keeps

      pub bare_only : HasOnlyDestroyed s0 was out
      bare_only = drops_only p (IsDestroyedLoad s0) (IsBare s0) t was navs begins listed n u out is

      pub bare_end : ArePlaced s0 → length navs ≤ n → EndsLoads (IsBare s0) s0 s
      bare_end placed past =
          drops_end p (IsDestroyedLoad s0) (IsBare s0) t was navs begins listed n u out is (λ req nav load bare. placed req nav load) past

      pub bare_entries : ArePlaced s0 → length navs ≤ n → HaveEntries s
      bare_entries placed past = entries_then s0 s is.left (bare_end placed past)

      pub bare_stand : ArePlaced s0 → length navs ≤ n → StandOrBare s0 → LoadsStand s
      bare_stand placed past stands = all_stand_then s0 s is.left stands (bare_end placed past)
