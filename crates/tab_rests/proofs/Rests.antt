-- Where no traversal runs and all stand, after a pass: another pass may follow, for whatever its orders are.
use Rattle.log_model.specs.Places.{aim_of, all_stand}
use Rattle.log_model.specs.Seen.{Place, Seen, place_of}
use Rattle.log_model.specs.declared.job.Why.{Why}
use Rattle.log_model.specs.declared.row_kind.RowKind.{RowKind}
use Rattle.seen_laws.specs.InEvent.{now_of}
use Rattle.std.proofs.Common.{List, None, Option, Some, ap, false, subst, sym, true, ℕ, ◌∙◌, ◌≡◌}
use Rattle.tab_doors.specs.declared.tables.Tables.{Tables}
use Rattle.tab_begins.proofs.PassedOn.{stand_bare}
use Rattle.tab_ids.specs.declared.NavId.{NavId}
use Rattle.tab_ids.specs.declared.ReqId.{ReqId}
use Rattle.tab_ids.specs.declared.StateId.{StateId}
use Rattle.tab_begins.proofs.Traverses.{left_blamed, own_document}
use Rattle.tab_begins.specs.Queueing.{AreBlamed, AreLeftStrays, HasPassed, IsOpen, MayCause, MayStand}
use Rattle.tab_begins.proofs.Afters.{InPass, IsPassing, aim_is}
use Rattle.tab_facts.specs.TabWhole.Tab.{IsTab}
use Rattle.row_facts.proofs.WalkRows.Needs.{need_not_all_stand}
use Rattle.row_facts.specs.WalkRows.Since.{IsVisitedInNeed}

module _ (p : InPass) (out : List RowKind) (t : Tables) (passing : IsPassing p out t) (idle : t.running ≡ None) (passed : HasPassed p.event (now_of p.event out)) (stand : all_stand (now_of p.event out) (now_of p.event out).history.current ≡ true) where
  abbrev s : Seen
  s = now_of p.event out

  tab : IsTab None p.loads p.hand s
  tab = subst (λ (r : Option ReqId). IsTab r p.loads p.hand s) idle passing.going.tab

  pub rest_aim : aim_of s ≡ s.history.current
  rest_aim = aim_is s None tab.asked t.goal (λ r q never found. absurd (let no_ : None ≡ Some r = never in cc))

  pub rest_stand : all_stand s (aim_of s) ≡ true
  rest_stand = ap (λ (k : ℕ). all_stand s k) rest_aim ∙ stand

  -- nobody is in need
  none_needs : (nav : NavId) (place : Place) → place_of s nav ≡ Some place → IsVisitedInNeed s place → ⊥
  none_needs nav place at need =
      let never : true ≡ false = sym rest_stand ∙ need_not_all_stand s nav place at need in cc

  pub rest_open : (cause : Why) → MayCause s cause → IsOpen p.event t.running cause s
  rest_open cause may =
      subst (λ (r : Option ReqId). IsOpen p.event r cause s) (sym idle) (record {
        may = may;
        since = passed.walked.since;
        unwoken = passed.walked.unwoken rest_stand;
        still = passed.walked.still rest_stand;
        moves = λ nav place at need epoch. absurd (none_needs nav place at need);
        leavers = λ nav place at need epoch. absurd (none_needs nav place at need);
        were = passed.walked.were;
        parents = passed.walked.parents;
        held = passed.held;
        takers = passed.takers;
      })

  pub rest_loads : MayStand t.running s
  rest_loads = subst (λ (r : Option ReqId). MayStand r s) (sym idle) (stand_bare s passed.walked.loads)

-- the stray documents that are left have whom to go for
pub rest_blamed : (p : InPass) (out : List RowKind) (t : Tables) → IsPassing p out t → HasPassed p.event (now_of p.event out) → (blame : List (StateId × ReqId)) → AreLeftStrays (now_of p.event out) blame → AreBlamed (now_of p.event out) blame
rest_blamed p out t passing passed blame left =
    left_blamed (now_of p.event out) blame passed.rows_ (λ nav place doc d at wakes found. own_document t.running p.loads p.hand (now_of p.event out) passing.going.tab nav place doc d at wakes found) left
