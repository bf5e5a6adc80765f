-- The rest of a pass: the walk and telling, one after the other.
use Rattle.seen_facts.specs.Asked.Asking.{ArePlain}
use Rattle.log_model.specs.History.{History}
use Rattle.log_model.specs.Places.{aim_of}
use Rattle.log_model.specs.Seen.{Place, Seen, place_in, place_of}
use Rattle.log_model.specs.declared.job.Why.{Why}
use Rattle.log_model.specs.declared.row_kind.RowKind.{RowKind}
use Rattle.seen_laws.specs.InEvent.{now_of}
use Rattle.std.proofs.Common.{List, Some, ap, subst, sym, ℕ, ◌∙◌, ◌≡◌}
use Rattle.tab_doors.specs.declared.tables.Tables.{Tables}
use Rattle.tab_ids.specs.declared.NavId.{NavId}
use Rattle.tab_one_pass.proofs.Passes.{any_orders, left_then, may_walk, strays_left, told_causes, told_left, told_orders, told_passed, walked_left, walked_passed, walked_strays}
use Rattle.tab_one_pass.proofs.Sents.{strays_over}
use Rattle.tab_one_pass.specs.Passing.{HasPassed, HasServedAll, KeepsLeftStrays, LeavesPass, MayServeAll, WereStray}
use Rattle.tab_serves.proofs.Orders.{walk_orders}
use Rattle.tab_serves.specs.Serving.{DiscardsUnheld, HasOnlyServed, HasWalked, InPass, IsPassing, LeavesLog, MayWalk}
use Rattle.tab_serves.specs.PassedOn.{HasOnlyTold, IsToldMore}
use Rattle.seen_facts.specs.Walk.Serving.{AreServed, IsServed}

-- who is served is so still once the others were told
served_told : (s t : Seen) → IsToldMore s t → AreServed s → AreServed t
served_told s t told served = record { each = λ nav. record { serve = λ place found. now nav place found } }
  where
    moved : (places : List Place) (step : ℕ) (place : Place) → IsServed s.history.rows places s.documents step place → IsServed s.history.rows places t.documents step place
    moved places step place is shown clear needs target at = told.making target.state (is shown clear needs target at)

    now : (nav : NavId) (place : Place) → place_of t nav ≡ Some place → IsServed t.history.rows t.places t.documents (aim_of t) place
    now nav place found =
        let old = (served.each nav).serve place (ap (λ (l : List Place). place_in l nav) (sym told.places) ∙ found) in
        subst (λ (h : History). IsServed h.rows t.places t.documents (aim_of t) place) (sym told.history)
        (subst (λ (l : List Place). IsServed s.history.rows l t.documents (aim_of t) place) (sym told.places)
        (subst (λ (n : ℕ). IsServed s.history.rows s.places t.documents n place) (sym told.aim)
        (moved s.places (aim_of s) place old)))

-- the rest of a pass, from its walk on
module _ (p : InPass) (cause tells : Why) (u : Tables) (cleared : List RowKind) (may : MayServeAll p.event u.running u.kept.keep cause (now_of p.event cleared)) where
  abbrev mid : Seen
  mid = now_of p.event cleared

  pub walk_asks : MayWalk p.event u.running u.kept.keep cause mid
  walk_asks = may_walk p.event u.running u.kept.keep cause mid may.open_ may.rows_ may.loads may.header may.frees

  module _ (w : Tables) (served out : List RowKind) (serves : HasOnlyServed u.running cause cleared served) (log : LeavesLog (now_of p.event cleared) (now_of p.event served)) (only : HasOnlyTold tells served out) (more : IsToldMore (now_of p.event served) (now_of p.event out)) (passing : IsPassing p out w) where
    abbrev asked : ArePlain w.running (now_of p.event out)
    asked = passing.going.tab.asked

    pub rest_served : AreServed (now_of p.event served) → AreServed (now_of p.event out)
    rest_served = served_told (now_of p.event served) (now_of p.event out) more

    pub rest_passed : HasWalked p.event (now_of p.event served) → HasPassed p.event (now_of p.event out)
    rest_passed walked =
        told_passed p.event w.running tells served out only more asked (walked_passed p.event u.running cause cleared served serves log may.open_ may.rows_ walked)

    pub rest_strays : KeepsLeftStrays mid (now_of p.event out)
    rest_strays blame strays =
        strays_left p.event served out blame (told_orders tells served out only) more.history (told_causes p.event w.running tells served out only more asked) (walked_strays p.event u.running cause cleared served serves log blame strays)

    pub rest_stray : WereStray mid (now_of p.event out)
    rest_stray doc state stray =
        let told_ = strays_over p.event served out (told_orders tells served out only) doc state stray in
        (strays_over p.event cleared served (any_orders cleared served (walk_orders u.running cause cleared served serves)) doc state told_.stray).stray

    pub rest_left : LeavesPass mid (now_of p.event out)
    rest_left =
        left_then mid (now_of p.event served) (now_of p.event out) (walked_left p.event u.running cause cleared served serves log) (told_left p.event w.running tells served out only more asked)

    pub rest_only : DiscardsUnheld p.event cleared served → HasServedAll p.event u.running cause tells cleared out
    rest_only quiet = record { served = served; serves = serves; quiet = quiet; told = only }
