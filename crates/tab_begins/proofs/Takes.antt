-- The turn of a ready load: it is applied, then the loads below give way, and another pass may follow.
use Rattle.apply_plan.specs.Order.{made_in}
use Rattle.seen_facts.specs.LoadEnds.Standing.{is_reached}
use Rattle.seen_facts.specs.Load.Loading.{is_ongoing, look_of}
use Rattle.load_table.specs.Loads.{ongoing_load as load_in}
use Rattle.load_table.specs.declared.load.Load.{Load}
use Rattle.log_model.specs.Seen.{Seen}
use Rattle.log_model.specs.declared.row_kind.RowKind.{RowKind}
use Rattle.seen_laws.specs.InEvent.{now_of}
use Rattle.std.proofs.Common.{Bool, List, None, Option, Some, ap, refl, subst, sym, inl, inr, ◌∙◌, ◌≡◌, ◌⊎◌, false, true}
use Rattle.tab_applies.proofs.Dues.{own_nav}
use Rattle.tab_applies.specs.Applying.{HasApplied, MayApply}
use Rattle.tab_facts.specs.Calm.Calm.{IsCalmAround}
use Rattle.tab_one_pass.proofs.Calms.{LeavesAll, drops_calm}
use Rattle.tab_begins.proofs.Afters.{aim_then, applied_last, around_then, awake_then, documents_same, joined_same, joined_then, look_was, over_then, wishes_then, loads_then, open_then}
use Rattle.tab_begins.proofs.Strays.{blamed_then}
use Rattle.log_model.specs.Seen.{Place, place_in}
use Rattle.tab_begins.specs.Taking.{HasTaken, IsOver, KeepsMade, KeepsQueue, MayTake, NoneBelow}
use Rattle.tab_doors.specs.Working.{KeepsRun, KeepsStore}
use Rattle.tab_doors.specs.declared.tables.Tables.{Tables}
use Rattle.tab_one_pass.proofs.PassedOn.{below_back}
pub use Rattle.tab_one_pass.proofs.Passes.{reached_same}
use Rattle.tab_one_pass.proofs.Dropped.{EndsLoads, moved_blamed}
use Rattle.tab_one_pass.specs.PassedOn.{AreBlamed, InPass, IsBelowNav, IsLoadApplied, IsPassing, StandOr}
use Rattle.tab_one_pass.specs.Passing.{AreUnheld, HasOnlyDroppedBy, IsBare, IsLoadOf, IsOpen, KeepsAwake, MayServe}
pub use Rattle.tab_one_pass.specs.Passing.{StandOrBare}
use Rattle.tab_drops.proofs.Turns.{applied_on}
use Rattle.tab_ids.specs.declared.NavId.{NavId}
use Rattle.tab_ids.specs.declared.ReqId.{ReqId}
use Rattle.tab_ids.specs.declared.StateId.{StateId}
use Rattle.tab_one_pass.proofs.Opens.{open_left}
use Rattle.tab_one_pass.specs.Noting.{AreNoted, EntriesAreNoted}
use Rattle.tab_facts.specs.Frame.Lasting.{wish}
use Rattle.seen_facts.proofs.Request.Readers.{reads_then}
use Rattle.log_model.specs.Equal.{has_req}
pub use Rattle.tab_applies.proofs.PassedOn.{turning_on, waiting_on}
use Rattle.tab_applies.specs.PassedOn.{IsTurning}
use Rattle.log_model.specs.declared.job.Why.TheVariants as whys

module _ (p : InPass) (out : List RowKind) (t : Tables) (passing : IsPassing p out t) (nav : NavId) (load : Load) (at : load_in nav t.loads ≡ Some load) (idle : t.running ≡ None) (blame : List (StateId × ReqId)) (may : MayTake p.event blame nav load (now_of p.event out)) where
  abbrev s : Seen
  s = now_of p.event out

  pub apply_asks : IsPassing p out t × ((load_in nav t.loads ≡ Some load) × ((t.running ≡ None) × MayApply p.event s nav load))
  apply_asks = (passing, (at, (idle, may.may)))

  module _ (req : ReqId) (named : load.req ≡ req) (first : List (StateId × ReqId)) (entered : EntriesAreNoted t req blame first) (mid : List RowKind) (m : Tables) (mid_pass : IsPassing p mid m) (it : HasApplied p.event nav load out mid t m) where
    abbrev y : Seen
    y = now_of p.event mid

    own : load.nav ≡ nav
    own = own_nav p out t passing nav load at idle may.may

    idle_mid : m.running ≡ None
    idle_mid = it.keeps.running ∙ idle

    mid_open : IsOpen p.event m.running (whys.Req req) y
    mid_open =
        subst (λ (r : ReqId). IsOpen p.event m.running (whys.Req r) y) named (open_then p out t passing nav load at idle may.may mid m mid_pass it may.passed)

    mid_blamed : AreBlamed y first
    mid_blamed =
        blamed_then p out t passing nav load at idle may.may mid m mid_pass it may.passed.rows_ blame first may.strays (subst (λ (r : ReqId). EntriesAreNoted t r blame first) (sym named) entered)

    mid_loads : StandOr (IsBelowNav y nav) y
    mid_loads =
        subst (λ (x : NavId). StandOr (IsBelowNav y x) y) own (loads_then p out t passing nav load at idle may.may mid m mid_pass it may.passed.walked.loads)

    mid_last : IsLoadApplied y nav req
    mid_last =
        subst (λ (r : ReqId). IsLoadApplied y nav r) named (subst (λ (x : NavId). IsLoadApplied y x load.req) own (applied_last p out t passing nav load at idle may.may mid m mid_pass it))

    pub drop_asks : IsPassing p mid m × (AreUnheld p.event y × ((m.running ≡ None) × IsLoadApplied y nav req))
    drop_asks = (mid_pass, (mid_open.held, (idle_mid, mid_last)))

    module _ (new : List RowKind) (u : Tables) (ends : EndsLoads (IsBelowNav (now_of p.event mid) nav) (now_of p.event mid) (now_of p.event new)) (left : LeavesAll (now_of p.event mid) (now_of p.event new)) (kept : KeepsStore m u) where
      abbrev x : Seen
      x = now_of p.event new

      pub taken_open : IsOpen p.event u.running (whys.Req req) x
      taken_open =
          subst (λ (r : Option ReqId). IsOpen p.event r (whys.Req req) x) (sym kept.running) (open_left p m.running (whys.Req req) y x left mid_open)

      may_serve : MayServe x req
      may_serve = taken_open.may req refl

      pub taken_blamed : (noted : List (StateId × ReqId)) → AreNoted m (Some req) (made_in m.tree) first noted → AreBlamed x noted
      taken_blamed noted are = moved_blamed p mid m mid_pass new first noted left req may_serve are mid_blamed

      pub taken_turning : IsTurning p.event out → IsTurning p.event new
      taken_turning turning =
          turning_on p.event mid new (inl left.parked) left.wishes (λ r has. ap (λ (l : List ReqId). has_req l r) (sym left.joined) ∙ has)
          (turning_on p.event out mid (inl it.parked) (wishes_then p out t passing nav load at idle may.may mid m mid_pass it) (joined_then p out t passing nav load at idle may.may mid m mid_pass it) turning)

      pub taken_over : IsOver x req
      taken_over l found = by_test (is_ongoing l) refl
        where
          by_test : (b : Bool) → is_ongoing l ≡ b → b ≡ false
          by_test false off = refl
          by_test true on =
              absurd (over_then p out t passing nav load at idle may.may mid m mid_pass it l (ap (λ (r : ReqId). look_of y r) named ∙ left.loads req l found on) on)

      pub taken_queue : KeepsQueue s x
      taken_queue =
          record {
            joined = left.joined ∙ joined_same p out t passing nav load at idle may.may mid m mid_pass it;
            parked = left.parked ∙ it.parked;
            wishes = reads_then wish s.requests y.requests x.requests (wishes_then p out t passing nav load at idle may.may mid m mid_pass it) left.wishes;
            documents = left.documents ∙ documents_same p out t passing nav load at idle may.may mid m mid_pass it;
            loads = λ r l found on. look_was p out t passing nav load at idle may.may mid m mid_pass it r l (left.loads r l found on) on;
          }

      pub taken_gone : NoneBelow x nav
      taken_gone r n its below = ends.ended r n its (below_back y x left nav n below)

      pub taken_loads : StandOrBare x
      taken_loads r n its = by_case (mid_loads r n before)
        where
          before : IsLoadOf y r n
          before = record { look = its.look; at = left.loads r its.look its.at its.ongoing; ongoing = its.ongoing; loads_it = its.loads_it }

          by_case : (is_reached y n ≡ true) ⊎ IsBelowNav y nav n → (is_reached x n ≡ true) ⊎ IsBare x n
          by_case (inl reached) = inl (reached_same y x left.places left.history left.aim n reached)
          by_case (inr below) = absurd (ends.ended r n its below)

      -- the tab is calm but for the load's navigable and those below it
      pub taken_around : IsCalmAround x nav
      taken_around =
          (drops_calm y x left).around (aim_then p out t passing nav load at idle may.may mid m mid_pass it) nav
          (subst (λ (o : NavId). IsCalmAround y o) own (around_then p out t passing nav load at idle may.may mid m mid_pass it may.passed.rows_))

      -- the load is the last that was applied
      pub taken_last : IsLoadApplied x nav req
      taken_last = applied_on y x left nav req (mid_pass.going.tab.movers.ends) mid_last

      -- who is awake stays so
      pub taken_awake : KeepsAwake s x
      taken_awake m_ doc was =
          let then_ = awake_then p out t passing nav load at idle may.may mid m mid_pass it m_ doc was in
          record { place = then_.place; placed = ap (λ (l : List Place). place_in l m_) left.places ∙ then_.placed; wakes = then_.wakes }

      pub taken_kept : KeepsRun t u
      taken_kept =
          record { running = kept.running ∙ it.keeps.running; goal = kept.goal ∙ it.keeps.goal; keep = kept.keep ∙ it.keeps.keep; checks = kept.checks ∙ it.keeps.checks }

      pub has_taken : HasOnlyDroppedBy y req (IsBelowNav y nav) mid new → HasTaken p.event t nav load out new
      has_taken drops =
          record {
            place = it.place;
            placed = it.placed;
            over = it.over;
            given = it.given;
            applied = mid;
            is = it.out;
            drops = subst (λ (r : ReqId). HasOnlyDroppedBy y r (IsBelowNav y nav) mid new) (sym named) drops;
          }

      -- what was made, and by whom, is as it was
      pub taken_made : KeepsMade s x
      taken_made =
          record {
            wishes = reads_then wish s.requests y.requests x.requests (wishes_then p out t passing nav load at idle may.may mid m mid_pass it) left.wishes;
            documents = left.documents ∙ documents_same p out t passing nav load at idle may.may mid m mid_pass it;
          }
