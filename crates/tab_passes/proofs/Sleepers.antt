-- Who falls asleep with a document, as the tables tell, is who does in the log.
use Rattle.tab_doors.specs.declared.tables.Tables.{Tables}  -- keep
use Rattle.plan_laws.specs.Held.{AreAbove, StandFor}  -- keep
use Rattle.seen_facts.proofs.Rest.Stands.{get_of}  -- keep
use Rattle.tab_doors.specs.Sleeping.{AreThere}  -- keep
use Rattle.seen_facts.proofs.Hang.Members.{find_has as found_has}  -- keep
use Rattle.plan_laws.proofs.Ways.{numbers}  -- keep
use Rattle.nav_tree.specs.declared.status.NavStatus.TheVariants as kept  -- keep
use Rattle.tab_doors.specs.Ties.{Holds, status_of}  -- keep
use Rattle.apply_plan.specs.Needs.{is_asleep as keeps_asleep}  -- keep
use Rattle.tab_passes.proofs.Stand.{stands}  -- keep
use Rattle.log_model.specs.Places.{is_asleep}  -- keep
use Rattle.apply_plan.proofs.Walks.{up_none}
use Rattle.apply_plan.specs.Order.{rest}
use Rattle.tab_doors.proofs.Holding.{its_node}
use Rattle.tab_doors.specs.Look.{look_of}
use Rattle.seen_facts.proofs.Hang.Hung.{places_distinct}
use Rattle.seen_facts.specs.Hang.Hanging.{Hangs}
use Rattle.seen_facts.specs.Hang.Members.{Has}
use Rattle.log_model.specs.AfterPlaces.{sleepers_with, woken_below}
use Rattle.log_model.specs.Equal.{holds}
use Rattle.log_model.specs.History.{has_nav}
use Rattle.log_model.specs.Places.{is_awake_on, is_below, shower_of}
use Rattle.log_model.specs.Seen.{Place, Seen, place_in}
use Rattle.log_model.specs.Soundness.{IsSound}
use Rattle.nav_tree.specs.Tree.{Tree, discarded, nav_of, node_of}
use Rattle.nav_tree.specs.declared.nav.Nav.{Nav}
use Rattle.nav_tree.specs.declared.node.Node.{Node}
use Rattle.nav_tree.specs.declared.status.NavStatus.{NavStatus}
use Rattle.tab_passes.specs.Sleepers.{falls_below, is_below_in, sleepers_in, wakes_on}
use Rattle.tab_passes.specs.Telling.{awake_on}
use Rattle.std.proofs.Common.{Bool, List, None, Option, Some, [], ap, arith, cond, false, inl, inr, length, map, not, refl, subst, suc, sym, true, zero, ℕ, ◌&&◌, ◌==◌, ◌||◌, ◌∙◌, ◌∷◌, ◌≡◌, ◌≤◌}
use Rattle.std.specs.List.{list_any}
use Rattle.std.specs.Option.{option_map_or}
use Rattle.std.specs.Prelude.{filter, find, option_map}
use Rattle.tab_ids.specs.declared.DocId.{DocId}
use Rattle.tab_ids.specs.declared.NavId.{NavId}
use Rattle.tab_ids.specs.declared.ReqId.{ReqId}
use Rattle.tab_ids.specs.declared.StateId.{StateId}
use Rattle.seen_facts.proofs.Walk.Placed.{each_found}

find_mapped : {A B : Type 0} (f : B → Bool) (h : A → B) (g : A → Bool) (l : List A) → ((x : A) → Has l x → f (h x) ≡ g x) → find f (map h l) ≡ option_map h (find g l)
find_mapped f h g [] same = refl
find_mapped f h g (x ∷ l) same =
    by_test (f (h x)) (g x) (same x (inl refl)) (find_mapped f h g l (λ y there. same y (inr there)))
  where
    by_test : (b c : Bool) → b ≡ c → find f (map h l) ≡ option_map h (find g l) → cond b (Some (h x)) (find f (map h l)) ≡ option_map h (cond c (Some x) (find g l))
    by_test true true e more = refl
    by_test false false e more = more
    by_test true false e more = cc
    by_test false true e more = cc

filter_mapped : {A B : Type 0} (f : B → Bool) (h : A → B) (g : A → Bool) (l : List A) → ((x : A) → Has l x → f (h x) ≡ g x) → filter f (map h l) ≡ map h (filter g l)
filter_mapped f h g [] same = refl
filter_mapped {B = B} f h g (x ∷ l) same =
    by_test (f (h x)) (g x) (same x (inl refl)) (filter_mapped f h g l (λ y there. same y (inr there)))
  where
    by_test : (b c : Bool) → b ≡ c → filter f (map h l) ≡ map h (filter g l) → cond b (h x ∷ filter f (map h l)) (filter f (map h l)) ≡ map h (cond c (x ∷ filter g l) (filter g l))
    by_test true true e more = ap (λ (m : List B). h x ∷ m) more
    by_test false false e more = more
    by_test true false e more = cc
    by_test false true e more = cc

number_in : (top : NavId) (above : List NavId) → list_any (λ (n : ℕ). n == top.0) (numbers above) ≡ has_nav above top
number_in top [] = refl
number_in top (nav ∷ above) = ap (λ (b : Bool). (nav.0 == top.0) || b) (number_in top above)

-- the numbers of those above one
above_is : (tree : Tree) (above : List NavId) (n : ℕ) (nav : NavId) → AreAbove tree nav above → length above ≤ n → rest n tree nav ≡ numbers above
above_is tree [] n nav are low = up_none n tree nav are
above_is tree (a ∷ above) zero nav are low = absurd (omega (arith, low))
above_is tree (a ∷ above) (suc n) nav are low = rw are.0 (ap (λ (l : List ℕ). a.0 ∷ l) (above_is tree above n a are.1 (omega (arith, low))))

module _ (s : Seen) (run : Option ReqId) (t : Tables) (holds_ : Holds (look_of s run) t) (sound : IsSound s.history) (hangs : Hangs s) where
  pub stand : StandFor s.history.rows s.places t.tree
  stand = stands s run t holds_ sound hangs

  pub at_own : (place : Place) → Has s.places place → place_in s.places place.nav ≡ Some place
  at_own place there = let at = get_of s.places place there in each_found s.places (places_distinct s sound hangs) at.0 place at.1

  -- what the table keeps of a place
  pub record Its (place : Place) : Type 0 where
    pub node : Node
    pub there : node_of place.nav t.tree ≡ Some node
    pub status : status_of node.nav.status ≡ place.status

  pub its : (place : Place) → Has s.places place → Its place
  its place there = let h = its_node (look_of s run) t.tree place.nav place holds_.navs (at_own place there) in record { node = h.node; there = h.there; status = h.tied.status }

  wakes_same : (doc : DocId) (place : Place) → Has s.places place → wakes_on t.tree doc place.nav ≡ is_awake_on doc place
  wakes_same doc place there = let i = its place there in rw i.there (by_status i.node.nav.status i.status)
    where
      by_status : (st : NavStatus) → status_of st ≡ place.status → holds (λ (d : DocId). d.0 == doc.0) (awake_on st) ≡ is_awake_on doc place
      by_status (kept.Awake x) e = rw (sym e) refl
      by_status kept.Lost e = rw (sym e) refl
      by_status kept.Asleep e = rw (sym e) refl

  asleep_same : (place : Place) → Has s.places place → holds (λ (n : Nav). keeps_asleep n.status) (nav_of place.nav t.tree) ≡ is_asleep place
  asleep_same place there = let i = its place there in rw i.there (by_status i.node.nav.status i.status)
    where
      by_status : (st : NavStatus) → status_of st ≡ place.status → keeps_asleep st ≡ is_asleep place
      by_status (kept.Awake x) e = rw (sym e) refl
      by_status kept.Lost e = rw (sym e) refl
      by_status kept.Asleep e = rw (sym e) refl

  pub below_same : (top : NavId) (place : Place) → Has s.places place → is_below_in t.tree top place.nav ≡ is_below top place
  below_same top place there =
      let at = get_of s.places place there in
      ap (λ (l : List ℕ). list_any (λ (n : ℕ). n == top.0) l) (above_is t.tree place.above (length t.tree.navs) place.nav (stand.held.above at.0 place at.1) (stand.held.depth at.0 place at.1))
      ∙ number_in top place.above

  falls_same : (top : NavId) (place : Place) → Has s.places place → falls_below t.tree top place.nav ≡ (is_below top place && not (is_asleep place))
  falls_same top place there = rw (below_same top place there) (rw (asleep_same place there) refl)

  pub sleepers_same : (doc : DocId) → sleepers_with s doc ≡ sleepers_in t.tree doc
  sleepers_same doc =
      sym (rw holds_.navs.order (ap (λ (o : Option NavId). option_map_or (λ (nav : NavId). nav ∷ filter (falls_below t.tree nav) (map (λ (p : Place). p.nav) s.places)) o []) (find_mapped (wakes_on t.tree doc) (λ (p : Place). p.nav) (is_awake_on doc) s.places (wakes_same doc)) ∙ by_shower (shower_of s doc)))
    where
      by_shower : (o : Option Place) → option_map_or (λ (nav : NavId). nav ∷ filter (falls_below t.tree nav) (map (λ (p : Place). p.nav) s.places)) (option_map (λ (p : Place). p.nav) o) [] ≡ option_map_or (λ (place : Place). place.nav ∷ woken_below s place.nav) o []
      by_shower None = refl
      by_shower (Some p) = ap (λ (l : List NavId). p.nav ∷ l) (filter_mapped (falls_below t.tree p.nav) (λ (q : Place). q.nav) (λ (q : Place). is_below p.nav q && not (is_asleep q)) s.places (falls_same p.nav))

  -- each of them is in the tables
  navs_there : (state : StateId) (g : Place → Bool) (l : List Place) → ((p : Place) → Has l p → Has s.places p) → AreThere (discarded state t.tree) (map (λ (p : Place). p.nav) (filter g l))
  navs_there state g [] all = tt
  navs_there state g (p ∷ l) all = by_test (g p) (navs_there state g l (λ q there. all q (inr there)))
    where
      by_test : (b : Bool) → AreThere (discarded state t.tree) (map (λ (q : Place). q.nav) (filter g l)) → AreThere (discarded state t.tree) (map (λ (q : Place). q.nav) (cond b (p ∷ filter g l) (filter g l)))
      by_test true more = (let i = its p (all p (inl refl)) in rw i.there refl, more)
      by_test false more = more

  pub sleepers_there : (state : StateId) (doc : DocId) → AreThere (discarded state t.tree) (sleepers_in t.tree doc)
  sleepers_there state doc = subst (λ (l : List NavId). AreThere (discarded state t.tree) l) (sleepers_same doc) (by_shower (shower_of s doc) refl)
    where
      by_shower : (o : Option Place) → shower_of s doc ≡ o → AreThere (discarded state t.tree) (option_map_or (λ (place : Place). place.nav ∷ woken_below s place.nav) o [])
      by_shower None e = tt
      by_shower (Some p) e = (let there = (found_has (is_awake_on doc) s.places p e).0 in let i = its p there in rw i.there refl, navs_there state (λ q. is_below p.nav q && not (is_asleep q)) s.places (λ q there. there))
