-- An event has begun with nothing at hand of what documents made: the tab may be brought to rest.
use Rattle.tab_facts.specs.Calm.Calm.{AreRooted, CalmUnless, IsCalmYet, UnmovedAreHere}
use Rattle.log_model.specs.Seen.{Seen}
use Rattle.log_model.specs.declared.job.Why.{Why}
use Rattle.log_model.specs.declared.job.Why.TheVariants as whys
use Rattle.move_queue.specs.Queue.{Queue}
use Rattle.seen_laws.specs.InEvent.{InEvent, now_of}
use Rattle.std.proofs.Common.{Bool, List, None, Option, Some, [], arith, false, inl, refl, subst, true, ◌≡◌}
use Rattle.tab_doors.specs.declared.tables.Tables.{Tables}
use Rattle.tab_ids.specs.declared.ReqId.{ReqId}
use Rattle.tab_ids.specs.declared.StateId.{StateId}
use Rattle.tab_settles.proofs.PassedOn.{new_of}
use Rattle.tab_settles.specs.PassedOn.{InPass, IsOpen, MayCause}
use Rattle.tab_settles.specs.Settling.{FreesVisited, IsReady, MayDiscardIn, NoneRunsWhileHeld}
pub use Rattle.tab_settles.specs.Settling.{IsCalmBefore}
use Rattle.tab_stands.specs.Standing.{HasBegun}

-- how calm the tab is before a pass
pub calm_before : (run : Option ReqId) (cause : Why) (s : Seen) → CalmUnless IsCalmYet run s → UnmovedAreHere s → AreRooted s → IsCalmBefore run cause s
calm_before None cause s calm unmoved rooted = inl calm
calm_before (Some req) cause s calm unmoved rooted = (unmoved, rooted)

-- a walk leaves a document only where no step was in its check as the event began: while a traversal in its check holds the queue, who is in need was never shown one
pub frees_open : (e : InEvent) (holds : Bool) (run : Option ReqId) (s : Seen) → NoneRunsWhileHeld holds run → (holds ≡ false → MayDiscardIn false e) → ((cause : Why) → MayCause s cause → IsOpen e run cause s) → FreesVisited e s
frees_open e false run s alone free open_ nav place placed need since = free refl
frees_open e true run s alone free open_ nav place placed need since =
    let new : place.epoch.0 ≡ 0 = new_of e s (subst (λ (r : Option ReqId). IsOpen e r whys.Start s) (alone refl) (open_ whys.Start (λ req never. absurd cc))) nav place placed need in
    absurd (omega (arith, new, since))

pub ready : (p : InPass) (t : Tables) (queue : Queue) (blame : List (StateId × ReqId)) → HasBegun p t queue blame → p.hand ≡ [] → FreesVisited p.event (now_of p.event []) → (cause : Why) → MayCause (now_of p.event []) cause → IsReady p [] t queue blame cause
ready p t queue blame begun empty frees cause may =
    record {
      passing = begun.passing;
      empty = empty;
      header = begun.header;
      open_ = begun.taking.open_ cause may;
      loads = begun.taking.loads;
      frees = frees;
      blamed = begun.taking.blamed;
      calm = calm_before t.running cause (now_of p.event []) begun.taking.calm begun.taking.unmoved begun.taking.rooted;
      late = begun.late;
      moved = begun.moved;
      live = begun.taking.live;
      theirs = begun.theirs;
      queueing = begun.queueing;
    }
