-- One turn after the other, all of the walk are told.
use Rattle.tab_doors.specs.declared.tables.Tables.{Tables}  -- keep
use Rattle.tab_doors.specs.Working.{KeepsStore}  -- keep
use Rattle.tab_passes.proofs.Keeps.{kept_none, kept_then}
use Rattle.tab_passes.specs.Telling.{IsTelling}  -- keep
use Rattle.apply_plan.specs.Order.{walk_of}  -- keep
use Rattle.seen_facts.proofs.Hang.Hung.{places_distinct}  -- keep
use Rattle.tab_passes.proofs.Tellings.{one_more}  -- keep
use Rattle.log_model.specs.Walk as log  -- keep
use Rattle.plan_laws.proofs.WalkLaws.{walk_is}  -- keep
use Rattle.seen_facts.proofs.Walk.Order.{walk_is as is_walk}  -- keep
use Rattle.tab_passes.proofs.Stand.{stand_for}  -- keep
use Rattle.seen_facts.proofs.Hang.Forms.{nav_is}
use Rattle.log_model.specs.ActsAtOnce.{ends_told}
use Rattle.log_model.specs.History.{has_nav}
use Rattle.log_model.specs.Seen.{Place, place_in}
use Rattle.log_model.specs.declared.job.Why.{Why}
use Rattle.log_model.specs.declared.row_kind.RowKind.{RowKind}
use Rattle.tab_passes.proofs.Onlies.{only_none, only_then}
use Rattle.tab_passes.proofs.Tellings.{all_told, more_none, more_then}
use Rattle.tab_passes.specs.Passing.{InPass, IsPassing}
use Rattle.tab_passes.specs.Telling.{HasOnlyTold, IsToldAt, IsToldTurn, IsUpdateFor, NamesAll}
use Rattle.seen_laws.specs.InEvent.{now_of}
use Rattle.std.proofs.Common.{Bool, List, Some, [], ap, arith, false, length, map, refl, subst, suc, sym, true, ℕ, ◌+◌, ◌<◌, ◌==◌, ◌||◌, ◌∙◌, ◌∷◌, ◌≡◌, ◌≤◌}
use Rattle.std.specs.Prelude.{slice_get}
use Rattle.tab_ids.specs.declared.NavId.{NavId}

-- the tree's navigables are the log's, so each with a place is in the walk
pub walk_names : (p : InPass) (out : List RowKind) (t : Tables) → IsPassing p out t → (walk : List NavId) → walk ≡ walk_of t.tree → NamesAll (now_of p.event out) walk
walk_names p out t pass walk is nav place at =
    let the_walk : walk ≡ map (λ (q : Place). q.nav) (log.walk_of (now_of p.event out).places) = is ∙ walk_is (now_of p.event out).places t.tree (stand_for p out t pass).held in
    subst (λ (l : List NavId). has_nav l nav ≡ true) (sym the_walk) ((is_walk (now_of p.event out) pass.going.tab.sound pass.going.tab.hangs).all nav place at)

pub tell_begins : (p : InPass) (why : Why) (t : Tables) (out : List RowKind) (walk : List NavId) → IsPassing p out t → walk ≡ walk_of t.tree → IsTelling p why t out t out walk 0
tell_begins p why t out walk passing is =
    record {
      passing = passing;
      all = walk_names p out t passing walk is;
      done = λ k nav low at. absurd (omega (arith, low));
      more = more_none (now_of p.event out);
      kept = kept_none t;
      only = only_none (IsUpdateFor why) out;
    }

pub tell_goes_on : (p : InPass) (why : Why) (t : Tables) (was : List RowKind) (u : Tables) (out : List RowKind) (v : Tables) (then_out : List RowKind) (walk : List NavId) (n : ℕ) (nav : NavId) → IsTelling p why t was u out walk n → slice_get walk n ≡ Some nav → IsPassing p then_out v → IsToldTurn (now_of p.event out) (now_of p.event then_out) nav → KeepsStore u v → HasOnlyTold why out then_out → IsTelling p why t was v then_out walk (n + 1)
tell_goes_on p why t was u out v then_out walk n nav so at passing turn keeps only =
    record {
      passing = passing;
      all = so.all;
      done = one_more (now_of p.event out) (now_of p.event then_out) walk n nav at so.done turn;
      more = more_then (now_of p.event was) (now_of p.event out) (now_of p.event then_out) so.more turn.more;
      kept = kept_then t u v so.kept keeps;
      only = only_then (IsUpdateFor why) was out then_out so.only only;
    }

-- where a navigable stands in a list
place_in_list : (nav : NavId) (navs : List NavId) → has_nav navs nav ≡ true → (k : ℕ) × ((k < length navs) × (slice_get navs k ≡ Some nav))
place_in_list nav [] has = let never : false ≡ true = has in cc
place_in_list nav (n ∷ navs) has = by_nav (n.0 == nav.0) refl has (place_in_list nav navs)
  where
    by_nav : (b : Bool) → (n.0 == nav.0) ≡ b → (b || has_nav navs nav) ≡ true → (has_nav navs nav ≡ true → (k : ℕ) × ((k < length navs) × (slice_get navs k ≡ Some nav))) → (k : ℕ) × ((k < length (n ∷ navs)) × (slice_get (n ∷ navs) k ≡ Some nav))
    by_nav true same is more = (0, (omega arith, ap (λ (m : NavId). Some m) (nav_is n nav same)))
    by_nav false apart is more = let it = more is in let low = it.1.0 in (suc it.0, (omega (arith, low), it.1.1))

pub tell_ends : (p : InPass) (why : Why) (t : Tables) (was : List RowKind) (u : Tables) (out : List RowKind) (walk : List NavId) (n : ℕ) → IsTelling p why t was u out walk n → length walk ≤ n → ends_told (now_of p.event out) ≡ true
tell_ends p why t was u out walk n so all =
    all_told (now_of p.event out) walk (λ nav place at. so.all nav place (ap (λ (l : List Place). place_in l nav) (sym so.more.places) ∙ at)) (places_distinct (now_of p.event out) so.passing.going.tab.sound so.passing.going.tab.hangs) (λ nav has. told nav (place_in_list nav walk has))
  where
    told : (nav : NavId) → (k : ℕ) × ((k < length walk) × (slice_get walk k ≡ Some nav)) → IsToldAt (now_of p.event out) nav
    told nav found = let low = found.1.0 in so.done found.0 nav (omega (arith, low, all)) found.1.1
