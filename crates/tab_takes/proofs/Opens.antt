-- A pass may follow after a row that ends what a document made, whatever orders may be for: what is read of the row for that.
use Rattle.tab_ids.specs.declared.DocId.{DocId}
use Rattle.log_model.specs.Equal.{holds}
use Rattle.seen_facts.specs.Asked.Asking.{ArePlain}
use Rattle.tab_facts.specs.Calm.Calm.{NeedIsNew}
use Rattle.row_facts.specs.Left.Left.{WereShown}
use Rattle.log_model.specs.Seen.{Seen, Document, document_of}
use Rattle.log_model.specs.declared.job.Why.{Why}
use Rattle.seen_facts.proofs.Mover.Places.{ways_both}
use Rattle.seen_facts.proofs.Mover.Stays.{KeepWays}
use Rattle.seen_facts.specs.Mover.Movers.{IsMovedBy}
use Rattle.seen_laws.specs.InEvent.{InEvent}
use Rattle.std.proofs.Common.{None, Option, Some, [], arith, refl, subst, zero, suc, ℕ, ◌≡◌, true}
use Rattle.tab_rests.specs.PassedOn.{IsLoadOf, IsOpen, MayCause, show_why}
use Rattle.tab_ids.specs.declared.NavId.{NavId}
use Rattle.tab_ids.specs.declared.ReqId.{ReqId}
use Rattle.tab_rests.proofs.PassedOn.{MayServe, ParentsShown, TakersServe, KeepsAwake}
pub use Rattle.tab_rests.proofs.PassedOn.{run_leavers, show_causes, still_on}
use Rattle.row_facts.proofs.WalkRows.Moved.{run_moves}
use Rattle.row_facts.specs.WalkRows.Since.{AwakeSince, MovesVisited}
use Rattle.log_model.specs.declared.job.Why.TheVariants as whys

-- ---- where none is in need that was shown a document

-- who would be moved by no request was never shown one
pub new_of : (e : InEvent) (s : Seen) → IsOpen e None whys.Start s → NeedIsNew s
new_of e s so nav place at need = by_epoch place.epoch.0 refl
  where
    moved_not : IsMovedBy s whys.Start nav → ⊥
    moved_not by = let never : whys.Start ≡ whys.Req by.req = by.why in cc

    by_epoch : (n : ℕ) → place.epoch.0 ≡ n → place.epoch.0 ≡ 0
    by_epoch zero is = is
    by_epoch (suc n) is = absurd (moved_not (so.moves nav place at need (omega (arith, is))))

-- ---- the record

module _ (e : InEvent) (run : Option ReqId) (s n : Seen) (so : IsOpen e run whys.Start s) (plain : ArePlain run n) (ways : KeepWays s.places n.places) (wakes : AwakeSince s [] n) (were : WereShown n) (parents : ParentsShown n) (loads : (req : ReqId) (nav : NavId) → IsLoadOf n req nav → IsLoadOf s req nav) (takers : TakersServe n) (awake_on : KeepsAwake s n) (gone_on : (doc : DocId) → holds (λ (d : Document). d.is_discarded) (document_of s doc) ≡ true → holds (λ (d : Document). d.is_discarded) (document_of n doc) ≡ true) (new : run ≡ None → NeedIsNew n) where
  moves : (o : Option ReqId) → run ≡ o → (cause : Why) → MovesVisited n (show_why o cause)
  moves None is cause nav place at need epoch =
      let zero_ : place.epoch.0 ≡ 0 = new is nav place at need in absurd (omega (arith, zero_, epoch))
  moves (Some req) is cause nav place at need epoch =
      let it = plain.runs req is in
      let may : MayServe n req = subst (λ (o : Option ReqId). MayCause n (show_why o whys.Start)) is (show_causes n run plain whys.Start (λ r never. absurd cc)) req refl in
      run_moves n req it.q nav it.found it.traverses ((may.begun it.q it.found).traverses it.traverses) (plain.passed req it.q it.found)

  pub open_then : (cause : Why) → MayCause n cause → IsOpen e run cause n
  open_then cause may =
      record {
        may = may;
        since = record { distinct = so.since.distinct; homed = so.since.homed; ways = ways_both e.start.places s.places n.places so.since.ways ways };
        unwoken = λ nav place doc outside at is. (let was = wakes nav place doc refl at is in so.unwoken nav was.place doc refl was.placed was.wakes);
        still = still_on e.start s n awake_on gone_on so.still;
        moves = moves run refl cause;
        leavers = run_leavers n run plain new cause;
        were = were;
        parents = parents;
        held = λ req nav its. so.held req nav (loads req nav its);
        takers = takers;
      }
