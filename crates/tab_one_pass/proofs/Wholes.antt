-- The parts of a pass, one after the other: the whole pass.
use Rattle.tab_facts.specs.FrameWhole.Tab.{AreAwakeWithRows}
use Rattle.seen_facts.specs.LoadEnds.Standing.{LoadsStand}
use Rattle.log_model.specs.Seen.{Seen}
use Rattle.log_model.specs.declared.job.Why.{Why}
use Rattle.log_model.specs.declared.row_kind.RowKind.{RowKind}
use Rattle.seen_laws.specs.InEvent.{InEvent, log_of, now_of}
use Rattle.std.proofs.Common.{List, None, Option, Some, [], append-nil, false, refl, subst, sym, true, ◌∙◌, ◌≡◌}
use Rattle.tab_doors.proofs.Works.{steps_calm}
use Rattle.tab_doors.specs.Working.{KeepsStore, MayDiscardIn}
use Rattle.tab_doors.specs.declared.tables.Tables.{Tables}
use Rattle.tab_ids.specs.declared.ReqId.{ReqId}
use Rattle.tab_ids.specs.declared.StateId.{StateId}
use Rattle.tab_one_pass.proofs.Orphans.{put_sent}
use Rattle.tab_one_pass.proofs.Passes.{loaded_before}
use Rattle.tab_one_pass.specs.Passing.{HasClearedAll, HasClearedOut, HasGivenWay, HasPutOut, HasServedAll, IsOpen, LeavesPass, MayServeAll, SendsForStrays, WereLoaded, WereStray}
use Rattle.tab_passes.proofs.Sweeps.{swept_off}
use Rattle.tab_passes.specs.Passing.{IsPassingIn}
use Rattle.tab_serves.proofs.Rounds.{only_none}
use Rattle.tab_serves.specs.PassedOn.{IsUpdateFor}
use Rattle.tab_serves.specs.Serving.{FreesVisited, HasOnlyServed, InPass, IsPassing, IsServeFor}

-- the walk may come: no step is in its check, so no traversal has passed
pub went_off : (p : InPass) (out : List RowKind) (t : Tables) → IsPassingIn true p out t → MayDiscardIn false p.event → IsPassing p out t
went_off p out t then_ free =
    swept_off p out t then_ (steps_calm p.event.checking (log_of p.event out) (then_.work.unheld free))

-- a document that is stray behind the first part was one before, or an order was put out
pub first_sent : (p : InPass) (cause : Why) (run : Option ReqId) (was given cleared : List RowKind) → LeavesPass (now_of p.event was) (now_of p.event given) → HasGivenWay (now_of p.event was) run was given → SendsForStrays (now_of p.event given) (now_of p.event cleared) given cleared → SendsForStrays (now_of p.event was) (now_of p.event cleared) was cleared
first_sent p cause run was given cleared first gives sends =
    put_sent p.event run cause cause was given cleared cleared cleared first gives sends run (only_none _ cleared) (only_none _ cleared)

-- ---- each part is a pass of which the other part puts out nothing

none_given : (s : Seen) (run : Option ReqId) (was : List RowKind) → HasGivenWay s run was was
none_given s None was = refl
none_given s (Some by) was = record { drops = []; is = sym (append-nil was); each = λ d has. absurd has; order = tt }

pub cleared_put : (e : InEvent) (run : Option ReqId) (cause tells : Why) (was out : List RowKind) → HasClearedAll e run was out → HasPutOut e run cause tells was out
cleared_put e run cause tells was out all =
    record {
      given = all.given;
      gives = all.gives;
      blame = all.blame;
      cleared = out;
      clears = all.clears;
      served = out;
      serves = only_none (IsServeFor run cause) out;
      quiet = λ held. only_none _ out;
      told = only_none (IsUpdateFor tells) out;
    }

pub served_put : (e : InEvent) (run : Option ReqId) (cause tells : Why) (was out : List RowKind) → HasServedAll e run cause tells was out → HasPutOut e run cause tells was out
served_put e run cause tells was out all =
    record {
      given = was;
      gives = none_given (now_of e was) run was;
      blame = [];
      cleared = was;
      clears = record {
        swept = was;
        sweeps = record { more = []; is = sym (append-nil was); each = λ row has. absurd has; ascending = tt };
        destroys = record { drops = []; is = sym (append-nil was); each = λ d has. absurd has; order = tt };
      };
      served = all.served;
      serves = all.serves;
      quiet = all.quiet;
      told = all.told;
    }

-- the whole pass
module _ (p : InPass) (cause tells : Why) (t m : Tables) (was given cleared : List RowKind) (kept_given : KeepsStore t m) (given_blame : List (StateId × ReqId)) where
  abbrev s : Seen
  s = now_of p.event was

  -- the walk may come
  pub went_on : (v : Tables) → IsPassingIn true p cleared v → MayDiscardIn false p.event → IsPassing p cleared v
  went_on v = went_off p cleared v

  module _ (u : Tables) (kept_cleared : KeepsStore m u) where
    abbrev mid : Seen
    mid = now_of p.event cleared

    running : u.running ≡ t.running
    running = kept_cleared.running ∙ kept_given.running

    pub rest_asks : IsOpen p.event u.running cause mid → AreAwakeWithRows mid → LoadsStand mid → t.kept.keep ≡ p.event.header.keep → FreesVisited p.event mid → MayServeAll p.event u.running u.kept.keep cause mid
    rest_asks so with_rows stand header frees =
        record { open_ = so; rows_ = with_rows; loads = stand; header = kept_cleared.keep ∙ kept_given.keep ∙ header; frees = frees }

    module _ (out : List RowKind) (rest : HasServedAll p.event u.running cause tells cleared out) where
      pub whole_loaded : LeavesPass s (now_of p.event given) → WereLoaded (now_of p.event given) mid → WereStray mid (now_of p.event out) → WereLoaded s (now_of p.event out)
      whole_loaded first loaded before doc state stray =
          loaded_before s (now_of p.event given) first state (loaded doc state (before doc state stray))

      pub whole_sent : LeavesPass s (now_of p.event given) → HasGivenWay s t.running was given → SendsForStrays (now_of p.event given) mid given cleared → WereStray mid (now_of p.event out) → SendsForStrays s (now_of p.event out) was out
      whole_sent first gives sends before awake_ doc state stray =
          put_sent p.event t.running cause tells was given cleared rest.served out first gives sends u.running rest.serves rest.told awake_ doc state (before doc state stray)

      pub whole_only : HasGivenWay s t.running was given → HasClearedOut p.event given_blame given cleared → HasPutOut p.event t.running cause tells was out
      whole_only gives clears =
          record {
            given = given;
            gives = gives;
            blame = given_blame;
            cleared = cleared;
            clears = clears;
            served = rest.served;
            serves = subst (λ (r : Option ReqId). HasOnlyServed r cause cleared rest.served) running rest.serves;
            quiet = rest.quiet;
            told = rest.told;
          }
