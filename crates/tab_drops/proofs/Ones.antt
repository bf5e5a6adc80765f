-- One load is dropped, for another request or by the one that took the entries: what its door asks, and what is so then.
use Rattle.seen_facts.specs.Each.Runs.{is_this}
use Rattle.load_doors.specs.Loading.{IsOpenHere}
use Rattle.load_table.specs.Loads.{ongoing_load}
use Rattle.load_table.specs.declared.load.Load.{Load}
use Rattle.seen_facts.specs.LoadTies.Tying.{HasLoad}
use Rattle.log_model.specs.Seen.{Seen}
use Rattle.log_model.specs.declared.row_kind.RowKind.{RowKind}
use Rattle.seen_laws.specs.InEvent.{now_of}
use Rattle.std.proofs.Common.{Bool, List, None, Some, [], false, inl, refl, true, ◌++◌, ◌∷◌, ◌≡◌}
use Rattle.std.specs.Prelude.{option_map}
use Rattle.tab_doors.specs.Dues.{IsDestroyDue}
use Rattle.tab_doors.specs.Working.{IsAtWorkIn, KeepsStore}
use Rattle.tab_doors.specs.declared.tables.Tables.{Tables}
use Rattle.tab_drops.proofs.Bares.{IsBareLoad, bare_load, destroy_due, destroy_loose, destroy_owed, none_bare}
use Rattle.tab_drops.proofs.Causes.{gives_owed, loose_then}
use Rattle.tab_drops.proofs.Drops.{apart, open_here, passing_then}
use Rattle.tab_drops.proofs.Loads.{load_held}
use Rattle.tab_drops.proofs.Turns.{load_found, load_missing, turn_dropped, turn_gone, turn_kept, turn_none}
use Rattle.tab_drops.proofs.Unsettled.{below_by, below_not, unsettled_by, unsettled_not}
use Rattle.tab_drops.proofs.Turns.{below_gives}
use Rattle.tab_drops.specs.Dropping.{ArePlaced, AreUnheld, IsBare, IsBelowNav, IsDestroyedLoad, IsDroppedFor, IsLoadApplied, IsLoadOf, IsUnsettled}
use Rattle.tab_drops.specs.Turns.{GivesWay, IsAnyNav, IsFor, IsTurnAt}
use Rattle.tab_drops.specs.Ways.{bare_load_in, is_unsettled_in}
use Rattle.tab_ids.specs.declared.NavId.{NavId}
use Rattle.tab_ids.specs.declared.ReqId.{ReqId}
use Rattle.tab_moves.specs.PassedOn.{IsPassing, IsPassingIn, is_below_in}
use Rattle.tab_moves.specs.Moving.{InPass}
use Rattle.log_model.specs.declared.outcome.Cause.TheVariants as causes
use Rattle.log_model.specs.declared.row_kind.RowKind.TheVariants as rows

module _ {sweeps : Bool} (p : InPass) (out : List RowKind) (t : Tables) (pass : IsPassingIn sweeps p out t) (nav : NavId) where
  abbrev s : Seen
  s = now_of p.event out

  -- ---- for another request

  -- it has no load
  pub one_none : (by : ReqId) → option_map (λ (load : Load). load.req) (ongoing_load nav t.loads) ≡ None → IsTurnAt (IsFor by) IsAnyNav nav s s out out
  one_none by is = turn_none p out t pass nav (IsFor by) (load_missing t.loads nav is)

  -- its load is this one
  module _ (by : ReqId) (gives : GivesWay (now_of p.event out) t.running by nav) (req : ReqId) (found : option_map (λ (load : Load). load.req) (ongoing_load nav t.loads) ≡ Some req) where
    load : IsLoadOf s req nav
    load = load_found s t.loads nav req pass.work.loads found

    pub one_asks : AreUnheld p.event s → IsAtWorkIn sweeps None p.event out t × (IsOpenHere p.event out req × ((is_this t.running req ≡ false) × HasLoad t.loads nav req))
    one_asks held = (pass.work, (open_here p out t pass req nav load held, (apart p out t pass req nav load, load_held s t.loads req nav pass.work.loads load)))

    pub one_passing : (u : Tables) (new : List RowKind) → new ≡ out ++ rows.Dropped req (causes.By by) ∷ [] → KeepsStore t u → IsAtWorkIn sweeps None p.event new u → IsPassingIn sweeps p new u
    one_passing =
        passing_then p out t pass req nav load (causes.By by) (gives_owed p out t pass req nav load by gives) (loose_then p out t pass req nav load by gives.away (causes.By by))

    pub one_turn : (new : List RowKind) → new ≡ out ++ rows.Dropped req (causes.By by) ∷ [] → IsTurnAt (IsFor by) IsAnyNav nav s (now_of p.event new) out new
    one_turn new is = turn_dropped p out t pass nav req load (causes.By by) (IsFor by) new is refl

  -- ---- whose turn it is for

  for_turn : (by : ReqId) (Gone : NavId → Type 0) (then_ : Seen) (new : List RowKind) → Gone nav → IsTurnAt (IsFor by) IsAnyNav nav s then_ out new → IsTurnAt (IsDroppedFor s by Gone) Gone nav s then_ out new
  for_turn by Gone then_ new gone turn =
      turn_gone (IsFor by) (IsDroppedFor s by Gone) Gone nav s then_ out new gone (λ d load for_. record { nav = nav; load = load; gone = gone; cause_is = for_ }) turn

  -- ---- by the request that took the entries

  pub destroy_none : bare_load_in t nav ≡ None → ArePlaced s → IsTurnAt (IsDestroyedLoad s) (IsBare s) nav s s out out
  destroy_none is placed = turn_kept _ (IsBare s) nav s out (none_bare p out t pass nav is placed)

  module _ (req by : ReqId) (found : bare_load_in t nav ≡ Some (req, by)) where
    it : IsBareLoad p out t pass nav req by
    it = bare_load p out t pass nav req by found

    pub destroy_asks : AreUnheld p.event s → IsAtWorkIn sweeps None p.event out t × (IsDestroyDue p.event out req by × ((is_this t.running req ≡ false) × HasLoad t.loads nav req))
    destroy_asks held =
        (pass.work, (destroy_due p out t pass req nav by it held, (apart p out t pass req nav it.load, load_held s t.loads req nav pass.work.loads it.load)))

    pub destroy_passing : (u : Tables) (new : List RowKind) → new ≡ out ++ rows.Dropped req (causes.Destroyed by) ∷ [] → KeepsStore t u → IsAtWorkIn sweeps None p.event new u → IsPassingIn sweeps p new u
    destroy_passing =
        passing_then p out t pass req nav it.load (causes.Destroyed by) (destroy_owed p out t pass req nav by it) (destroy_loose p out t pass req nav by it)

    pub destroy_turn : (new : List RowKind) → new ≡ out ++ rows.Dropped req (causes.Destroyed by) ∷ [] → IsTurnAt (IsDestroyedLoad s) (IsBare s) nav s (now_of p.event new) out new
    destroy_turn new is =
        turn_gone (IsDestroyedLoad s) (IsDestroyedLoad s) (IsBare s) nav s (now_of p.event new) out new it.bare (λ d load of_it. of_it)
        (turn_dropped p out t pass nav req it.load (causes.Destroyed by) (IsDestroyedLoad s) new is (record { nav = nav; load = it.load; bare = it.bare; place = it.place; placed = it.placed; by = by; taken = it.taken; cause_is = refl }))

-- ---- whose turn it is, as a traversal runs

module _ (p : InPass) (out : List RowKind) (t : Tables) (pass : IsPassing p out t) (nav : NavId) where
  abbrev at : Seen
  at = now_of p.event out

  pub moved_gives : (by : ReqId) → t.running ≡ Some by → is_unsettled_in t nav ≡ true → GivesWay at t.running by nav
  moved_gives by runs is = record { away = unsettled_by p out t pass nav is; cause = inl runs }

  pub moved_turn : (by : ReqId) (then_ : Seen) (new : List RowKind) → is_unsettled_in t nav ≡ true → IsTurnAt (IsFor by) IsAnyNav nav at then_ out new → IsTurnAt (IsDroppedFor at by (IsUnsettled at)) (IsUnsettled at) nav at then_ out new
  moved_turn by then_ new is = for_turn p out t pass nav by (IsUnsettled at) then_ new (unsettled_by p out t pass nav is)

  pub settled_turn : (by : ReqId) → is_unsettled_in t nav ≡ false → IsTurnAt (IsDroppedFor at by (IsUnsettled at)) (IsUnsettled at) nav at at out out
  settled_turn by is = turn_kept _ (IsUnsettled at) nav at out (λ req load away. unsettled_not p out t pass nav is away)

  -- a load that was applied
  pub below_gives_way : (top : NavId) (by : ReqId) → t.running ≡ None → IsLoadApplied at top by → is_below_in t.tree top nav ≡ true → GivesWay at t.running by nav
  below_gives_way top by none applied is = below_gives at t.running top nav by none applied (below_by p out t pass top nav is)

  pub below_turn : (top : NavId) (by : ReqId) (then_ : Seen) (new : List RowKind) → is_below_in t.tree top nav ≡ true → IsTurnAt (IsFor by) IsAnyNav nav at then_ out new → IsTurnAt (IsDroppedFor at by (IsBelowNav at top)) (IsBelowNav at top) nav at then_ out new
  below_turn top by then_ new is = for_turn p out t pass nav by (IsBelowNav at top) then_ new (below_by p out t pass top nav is)

  pub beside_turn : (top : NavId) (by : ReqId) → is_below_in t.tree top nav ≡ false → IsTurnAt (IsDroppedFor at by (IsBelowNav at top)) (IsBelowNav at top) nav at at out out
  beside_turn top by is = turn_kept _ (IsBelowNav at top) nav at out (λ req load below. below_not p out t pass top nav is below)
