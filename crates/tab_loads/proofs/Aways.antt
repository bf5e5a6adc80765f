-- The topmost navigable on the way up that isn't shown at the aim or doesn't stand there: the loop that finds it, and what it is in the log.
use Rattle.apply_plan.proofs.Walks.{up_none}
use Rattle.apply_plan.specs.Order.{parent_in, rest}
use Rattle.seen_facts.proofs.Hang.Hung.{place_chain}
use Rattle.seen_facts.proofs.Hang.Members.{has_any}
use Rattle.seen_facts.specs.Hang.AsPlaces.{IsChain}
use Rattle.seen_facts.specs.Hang.Hanging.{Hangs}
use Rattle.seen_facts.specs.Hang.Members.{Has}
use Rattle.log_model.proofs.Refl.{nat_eq_refl}
use Rattle.log_model.specs.History.{has_nav}
use Rattle.log_model.specs.Places.{aim_of, is_placed, way_of, way_to}
use Rattle.log_model.specs.Seen.{Place, Seen, place_in, place_of}
use Rattle.log_model.specs.Soundness.{IsSound}
use Rattle.std.proofs.Common.{Bool, List, None, Option, Some, [], ap, arith, cond, false, filter, inl, inr, length, map, not, refl, suc, sym, true, zero, ℕ, ◌&&◌, ◌+◌, ◌-◌, ◌<◌, ◌==◌, ◌∙◌, ◌∷◌, ◌≡◌, ◌≤◌, ◌⊎◌}
use Rattle.std.specs.List.{last_or, list_all}
use Rattle.std.specs.Option.{option_map_or}
use Rattle.std.specs.Prelude.{if◌then◌else◌, is_some, slice_get}
use Rattle.tab_doors.proofs.Holding.{its_node}
use Rattle.tab_doors.specs.Look.{look_of}
use Rattle.tab_doors.specs.Ties.{Holds}
use Rattle.tab_doors.specs.declared.tables.Tables.{Tables}
use Rattle.tab_ids.specs.declared.NavId.{NavId}
use Rattle.tab_ids.specs.declared.ReqId.{ReqId}
use Rattle.tab_loads.proofs.Reached.{placed_is}
use Rattle.tab_loads.specs.Telling.{aim_at, away_in, away_or, is_placed_in}
use Rattle.tab_passes.proofs.Stand.{depth_is}
use Rattle.seen_facts.proofs.Walk.Placed.{found_nav}

-- ---- the loop

-- the last of these that isn't; else the one found before
abbrev away_of : Tables → Option NavId → List NavId → Option NavId
away_of t found navs = last_or found (filter (λ (n : NavId). not (is_placed_in t n)) navs)

away_step : (t : Tables) (found : Option NavId) (nav : NavId) (navs : List NavId) → away_of t found (nav ∷ navs) ≡ away_of t (away_or t found nav) navs
away_step t found nav navs = by_test (is_placed_in t nav)
  where
    gone : List NavId
    gone = filter (λ (n : NavId). not (is_placed_in t n)) navs

    by_test : (b : Bool) → last_or found (let l : List NavId = cond (not b) (nav ∷ gone) gone in l) ≡ last_or (if b then found else Some nav) gone
    by_test true = refl
    by_test false = refl

-- the last of the navigable and so many above it
abbrev pub away_within : ℕ → Tables → Option NavId → NavId → Option NavId
away_within n t found nav = away_of t found (nav ∷ map (λ (k : ℕ). record { 0 = k }) (rest n t.tree nav))

pub away_past : (n i : ℕ) (t : Tables) (found : Option NavId) (nav parent : NavId) → i < n → parent_in t.tree nav ≡ Some parent → away_within (n - i) t found nav ≡ away_within (n - (i + 1)) t (away_or t found nav) parent
away_past n i t found nav parent low is =
    let one : n - i ≡ suc (n - (i + 1)) = omega (arith, low) in
    ap (λ (k : ℕ). away_within k t found nav) one
    ∙ ap (λ (o : Option NavId). away_of t found (nav ∷ map (λ (k : ℕ). record { 0 = k }) (option_map_or (λ (up : NavId). up.0 ∷ rest (n - (i + 1)) t.tree up) o []))) is
    ∙ away_step t found nav (parent ∷ map (λ (k : ℕ). record { 0 = k }) (rest (n - (i + 1)) t.tree parent))

pub away_top : (n : ℕ) (t : Tables) (found : Option NavId) (nav : NavId) → parent_in t.tree nav ≡ None → away_within n t found nav ≡ away_or t found nav
away_top zero t found nav is = away_step t found nav []
away_top (suc n) t found nav is =
    ap (λ (o : Option NavId). away_of t found (nav ∷ map (λ (k : ℕ). record { 0 = k }) (option_map_or (λ (up : NavId). up.0 ∷ rest n t.tree up) o []))) is
    ∙ away_step t found nav []

pub away_end : (n i : ℕ) (t : Tables) (found : Option NavId) (nav : NavId) → n ≤ i → away_within (n - i) t found nav ≡ away_or t found nav
away_end n i t found nav past =
    let none : n - i ≡ 0 = omega (arith, past) in
    ap (λ (k : ℕ). away_within k t found nav) none ∙ away_step t found nav []

-- ---- what it finds

-- one was found, and another one may be instead
some_stays : (t : Tables) (nav : NavId) (navs : List NavId) → is_some (away_of t (Some nav) navs) ≡ true
some_stays t nav [] = refl
some_stays t nav (n ∷ navs) =
    ap is_some (away_step t (Some nav) n navs) ∙ by_test (is_placed_in t n) (some_stays t nav navs) (some_stays t n navs)
  where
    by_test : (b : Bool) → is_some (away_of t (Some nav) navs) ≡ true → is_some (away_of t (Some n) navs) ≡ true → is_some (away_of t (if b then Some nav else Some n) navs) ≡ true
    by_test true old new = old
    by_test false old new = new

none_away : (t : Tables) (navs : List NavId) → away_of t None navs ≡ None → list_all (is_placed_in t) navs ≡ true
none_away t [] is = refl
none_away t (n ∷ navs) is = by_test (is_placed_in t n) (sym (away_step t None n navs) ∙ is) (none_away t navs)
  where
    by_test : (b : Bool) → away_of t (if b then None else Some n) navs ≡ None → (away_of t None navs ≡ None → list_all (is_placed_in t) navs ≡ true) → (b && list_all (is_placed_in t) navs) ≡ true
    by_test true none rest = rest none
    by_test false none rest = let never : true ≡ false = sym (some_stays t n navs) ∙ ap is_some none in absurd cc

one_away : (t : Tables) (navs : List NavId) (found : Option NavId) (nav : NavId) → away_of t found navs ≡ Some nav → (found ≡ Some nav) ⊎ (Has navs nav × (is_placed_in t nav ≡ false))
one_away t [] found nav is = inl is
one_away t (n ∷ navs) found nav is =
    by_test (is_placed_in t n) refl (sym (away_step t found n navs) ∙ is) (one_away t navs)
  where
    more : (found ≡ Some nav) ⊎ (Has navs nav × (is_placed_in t nav ≡ false)) → (found ≡ Some nav) ⊎ (Has (n ∷ navs) nav × (is_placed_in t nav ≡ false))
    more (inl same) = inl same
    more (inr its) = inr (inr its.0, its.1)

    here : is_placed_in t n ≡ false → ((let o : Option NavId = Some n in o) ≡ Some nav) ⊎ (Has navs nav × (is_placed_in t nav ≡ false)) → (found ≡ Some nav) ⊎ (Has (n ∷ navs) nav × (is_placed_in t nav ≡ false))
    here away (inl same) = let one : n ≡ nav = cc in inr (inl one, ap (is_placed_in t) (sym one) ∙ away)
    here away (inr its) = inr (inr its.0, its.1)

    by_test : (b : Bool) → is_placed_in t n ≡ b → away_of t (if b then found else Some n) navs ≡ Some nav → ((o : Option NavId) (x : NavId) → away_of t o navs ≡ Some x → (o ≡ Some x) ⊎ (Has navs x × (is_placed_in t x ≡ false))) → (found ≡ Some nav) ⊎ (Has (n ∷ navs) nav × (is_placed_in t nav ≡ false))
    by_test true e at rest = more (rest found nav at)
    by_test false e at rest = here e (rest (Some n) nav at)

-- ---- in the log

all_same : (f g : NavId → Bool) (navs : List NavId) → ((nav : NavId) → Has navs nav → f nav ≡ g nav) → list_all f navs ≡ list_all g navs
all_same f g [] each = refl
all_same f g (nav ∷ navs) each =
    ap (λ (b : Bool). b && list_all f navs) (each nav (inl refl))
    ∙ ap (λ (b : Bool). g nav && b) (all_same f g navs (λ n there. each n (inr there)))

-- a place of each of a chain
chain_place : (places : List Place) (above : List NavId) → IsChain places above → (nav : NavId) → Has above nav → (place : Place) × (place_in places nav ≡ Some place)
chain_place places [] chain nav there = absurd there
chain_place places (first ∷ above) chain nav (inl same) = (chain.0.place, ap (λ (n : NavId). place_in places n) (sym same) ∙ chain.0.found)
chain_place places (first ∷ above) chain nav (inr there) = chain_place places above chain.1 nav there

module _ (s : Seen) (run : Option ReqId) (t : Tables) (holds : Holds (look_of s run) t) (sound : IsSound s.history) (hangs : Hangs s) (aim : aim_at t ≡ aim_of s) (nav : NavId) (place : Place) (placed : place_of s nav ≡ Some place) where
  parent_is : (x : NavId) (own : Place) → place_of s x ≡ Some own → parent_in t.tree x ≡ slice_get own.above 0
  parent_is x own at = let h = its_node (look_of s run) t.tree x own holds.navs at in rw h.there h.tied.parent

  away_way : (above : List NavId) (x : NavId) (own : Place) (n : ℕ) (found : Option NavId) → place_of s x ≡ Some own → own.above ≡ above → IsChain s.places above → length above ≤ n → away_within n t found x ≡ away_of t found (x ∷ above)
  away_way [] x own n found at is chain low =
      ap (λ (l : List ℕ). away_of t found (x ∷ map (λ (k : ℕ). record { 0 = k }) l)) (up_none n t.tree x (parent_is x own at ∙ ap (λ (l : List NavId). slice_get l 0) is))
  away_way (parent ∷ others) x own zero found at is chain low = absurd (omega (arith, low))
  away_way (parent ∷ others) x own (suc n) found at is chain low =
      ap (λ (o : Option NavId). away_of t found (x ∷ map (λ (k : ℕ). record { 0 = k }) (option_map_or (λ (up : NavId). up.0 ∷ rest n t.tree up) o []))) (parent_is x own at ∙ ap (λ (l : List NavId). slice_get l 0) is)
      ∙ away_step t found x (parent ∷ map (λ (k : ℕ). record { 0 = k }) (rest n t.tree parent))
      ∙ away_way others parent chain.0.place n (away_or t found x) chain.0.found chain.0.above_is chain.1 (omega (arith, low))
      ∙ sym (away_step t found x (parent ∷ others))

  chain : IsChain s.places place.above
  chain = place_chain s sound hangs nav place placed

  way_is : away_in t nav ≡ away_of t None (nav ∷ place.above)
  way_is = away_way place.above nav place (length t.tree.navs) None placed refl chain (depth_is s run t holds sound hangs nav place placed)

  -- each on the way has a place
  own_place : (x : NavId) → Has (nav ∷ place.above) x → (own : Place) × (place_of s x ≡ Some own)
  own_place x (inl same) = (place, ap (λ (n : NavId). place_of s n) (sym same) ∙ placed)
  own_place x (inr there) = chain_place s.places place.above chain x there

  placed_same : (x : NavId) → Has (nav ∷ place.above) x → is_placed_in t x ≡ is_placed s (aim_of s) x
  placed_same x there =
      let own = own_place x there in
      placed_is s run t holds sound hangs x own.0 own.1 (aim_at t) ∙ ap (λ (k : ℕ). is_placed s k x) aim

  way : way_to s nav ≡ nav ∷ place.above
  way =
      ap (λ (o : Option Place). option_map_or way_of o (nav ∷ [])) placed
      ∙ ap (λ (n : NavId). n ∷ place.above) (found_nav s.places nav place placed)

  -- all on the way are shown and stand
  pub all_placed : away_in t nav ≡ None → list_all (is_placed s (aim_of s)) (way_to s nav) ≡ true
  all_placed none =
      ap (list_all (is_placed s (aim_of s))) way
      ∙ sym (all_same (is_placed_in t) (is_placed s (aim_of s)) (nav ∷ place.above) placed_same)
      ∙ none_away t (nav ∷ place.above) (sym way_is ∙ none)

  -- one on the way isn't, or doesn't
  pub record IsAway (x : NavId) : Type 0 where
    pub on_way : has_nav (way_to s nav) x ≡ true
    pub own : Place
    pub there : place_of s x ≡ Some own
    pub away : is_placed s (aim_of s) x ≡ false

  pub is_away : (x : NavId) → away_in t nav ≡ Some x → IsAway x
  is_away x is = by_case (one_away t (nav ∷ place.above) None x (sym way_is ∙ is))
    where
      by_case : ((let o : Option NavId = None in o) ≡ Some x) ⊎ (Has (nav ∷ place.above) x × (is_placed_in t x ≡ false)) → IsAway x
      by_case (inl never) = absurd cc
      by_case (inr its) =
          let own = own_place x its.0 in
          record {
            on_way = ap (λ (l : List NavId). has_nav l x) way ∙ has_any (λ (n : NavId). n.0 == x.0) (nav ∷ place.above) x its.0 (nat_eq_refl x.0);
            own = own.0;
            there = own.1;
            away = sym (placed_same x its.0) ∙ its.1;
          }
