-- Before a change and after it, at a step each: a navigable is shown then if it was, where those on the way to it have entries and their targets are of the same document states; and the other way round.
use Rattle.seen_facts.proofs.Hang.Forms.{nav_is}
use Rattle.seen_facts.proofs.Hang.Hung.{has_begun}
use Rattle.seen_facts.proofs.Hang.Targets.{some_is}
use Rattle.seen_facts.specs.Hang.Hanging.{Hangs}
use Rattle.log_model.proofs.Refl.{nat_eq_refl}
use Rattle.log_model.specs.History.{has_nav, target_entry}
use Rattle.log_model.specs.Places.{is_shown}
use Rattle.log_model.specs.Seen.{Place, Seen, place_of}
use Rattle.log_model.specs.Soundness.{IsSound}
use Rattle.log_model.specs.declared.row.Row.{Row}
use Rattle.tab_facts.proofs.ShownWays.Keeps.{way_more, way_there}
use Rattle.tab_facts.proofs.ShownWays.Ways.{leads_shown, shown_leads}
use Rattle.tab_facts.specs.ShownWays.Ways.{IsOnTarget, LeadsUp}
use Rattle.std.proofs.Common.{Bool, List, Option, Some, ap, false, refl, sym, true, ℕ, ◌==◌, ◌||◌, ◌∙◌, ◌∷◌, ◌≡◌}
use Rattle.std.specs.Prelude.{is_some, slice_get}
use Rattle.tab_ids.specs.declared.NavId.{NavId}
use Rattle.tab_ids.specs.declared.StateId.{StateId}

-- the navigable's target is of the document state
pub record IsTargetOf (rows_ : List Row) (x : NavId) (step : ℕ) (state : StateId) : Type 0 where
  pub row : Row
  pub at : target_entry rows_ x step ≡ Some row
  pub state_is : row.state ≡ state

-- it hangs so there, too
pub record HangsThere (n : Seen) (x : NavId) (own : Place) : Type 0 where
  pub then_ : Place
  pub found : place_of n x ≡ Some then_
  pub above : then_.above ≡ own.above
  pub owners : then_.owners ≡ own.owners

either : (a b : Bool) → b ≡ true → (a || b) ≡ true
either true b is = refl
either false b is = is

module _ (s n : Seen) (sound : IsSound s.history) (hangs : Hangs s) (then_sound : IsSound n.history) (then_hangs : Hangs n) (before after : ℕ) (to : (x : NavId) (own : Place) → place_of s x ≡ Some own → HangsThere n x own) where
  module _ (m : NavId) (place : Place) (found : place_of s m ≡ Some place) where
    now : HangsThere n m place
    now = to m place found

    -- each on the way has a place
    record IsOnWay (x : NavId) : Type 0 where
      own : Place
      at : place_of s x ≡ Some own

    on_way : (x : NavId) → has_nav (m ∷ place.above) x ≡ true → IsOnWay x
    on_way x has = by_own (m.0 == x.0) refl has
      where
        by_own : (b : Bool) → (m.0 == x.0) ≡ b → (b || has_nav place.above x) ≡ true → IsOnWay x
        by_own true same h = record { own = place; at = ap (λ (y : NavId). place_of s y) (sym (nav_is m x same)) ∙ found }
        by_own false apart h = (let up = way_there s sound hangs m place found x h in record { own = up.0; at = up.1 })

    -- who is the first one above such a one is on the way
    parent_on : (x : NavId) (own : Place) (parent : NavId) (others : List NavId) → has_nav (m ∷ place.above) x ≡ true → place_of s x ≡ Some own → own.above ≡ parent ∷ others → has_nav (m ∷ place.above) parent ≡ true
    parent_on x own parent others has at up =
        either (m.0 == parent.0) (has_nav place.above parent) (way_more_ x own has at parent (ap (λ (l : List NavId). has_nav l parent) up ∙ ap (λ (b : Bool). b || has_nav others parent) (nat_eq_refl parent.0)))
      where
        way_more_ : (y : NavId) (p : Place) → has_nav (m ∷ place.above) y ≡ true → place_of s y ≡ Some p → (z : NavId) → has_nav p.above z ≡ true → has_nav place.above z ≡ true
        way_more_ = way_more s sound hangs m place found

    -- ---- it is shown then

    pub shown_on : ((x : NavId) → has_nav (m ∷ place.above) x ≡ true → (row : Row) → target_entry s.history.rows x before ≡ Some row → IsTargetOf n.history.rows x after row.state) → is_shown s.history.rows before m ≡ true → is_shown n.history.rows after m ≡ true
    shown_on targets shown =
        leads_shown n then_sound then_hangs after m now.then_ now.found some leads
      where
        own_in : has_nav (m ∷ place.above) m ≡ true
        own_in = ap (λ (b : Bool). b || has_nav place.above m) (nat_eq_refl m.0)

        some : is_some (target_entry n.history.rows m after) ≡ true
        some =
            let o = some_is (target_entry s.history.rows m before) (has_begun s sound hangs before m shown) in
            ap (λ (r : Option Row). is_some r) (targets m own_in o.0 o.1).at

        was : LeadsUp s before m place
        was = shown_leads s sound hangs before m place found shown

        leads : LeadsUp n after m now.then_
        leads x own parent others has at up =
            let in_ : has_nav (m ∷ place.above) x ≡ true = ap (λ (l : List NavId). has_nav (m ∷ l) x) (sym now.above) ∙ has in
            let old : IsOnWay x = on_way x in_ in
            let then_ : HangsThere n x old.own = to x old.own old.at in
            let two : Some then_.then_ ≡ Some own = sym then_.found ∙ at in
            let one : then_.then_ ≡ own = cc in
            let above_was : old.own.above ≡ parent ∷ others = sym then_.above ∙ ap (λ (p : Place). p.above) one ∙ up in
            let its : IsOnTarget s.history.rows before old.own parent = was x old.own parent others in_ old.at above_was in
            let target : IsTargetOf n.history.rows parent after its.target.state = targets parent (parent_on x old.own parent others in_ old.at above_was) its.target its.at in
            record {
              target = target.row;
              at = target.at;
              owner = ap (λ (p : Place). slice_get p.owners 0) (sym one) ∙ ap (λ (l : List StateId). slice_get l 0) then_.owners ∙ its.owner ∙ ap (λ (y : StateId). Some y) (sym target.state_is);
            }

    -- ---- it was shown

    pub shown_back : ((x : NavId) → has_nav (m ∷ place.above) x ≡ true → (row : Row) → target_entry n.history.rows x after ≡ Some row → IsTargetOf s.history.rows x before row.state) → is_shown n.history.rows after m ≡ true → is_shown s.history.rows before m ≡ true
    shown_back targets shown =
        leads_shown s sound hangs before m place found some leads
      where
        own_in : has_nav (m ∷ place.above) m ≡ true
        own_in = ap (λ (b : Bool). b || has_nav place.above m) (nat_eq_refl m.0)

        some : is_some (target_entry s.history.rows m before) ≡ true
        some =
            let o = some_is (target_entry n.history.rows m after) (has_begun n then_sound then_hangs after m shown) in
            ap (λ (r : Option Row). is_some r) (targets m own_in o.0 o.1).at

        is : LeadsUp n after m now.then_
        is = shown_leads n then_sound then_hangs after m now.then_ now.found shown

        leads : LeadsUp s before m place
        leads x own parent others has at up =
            let then_ : HangsThere n x own = to x own at in
            let its : IsOnTarget n.history.rows after then_.then_ parent = is x then_.then_ parent others (ap (λ (l : List NavId). has_nav (m ∷ l) x) now.above ∙ has) then_.found (then_.above ∙ up) in
            let target : IsTargetOf s.history.rows parent before its.target.state = targets parent (parent_on x own parent others has at up) its.target its.at in
            record {
              target = target.row;
              at = target.at;
              owner = ap (λ (l : List StateId). slice_get l 0) (sym then_.owners) ∙ its.owner ∙ ap (λ (y : StateId). Some y) (sym target.state_is);
            }
