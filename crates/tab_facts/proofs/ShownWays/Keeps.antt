-- A change of one navigable's entries: each that isn't below it is shown as it was.
use Rattle.seen_facts.proofs.Hang.Forms.{nav_is}
use Rattle.seen_facts.proofs.Hang.Hung.{has_begun, place_chain}
use Rattle.seen_facts.proofs.Hang.Members.{has_any}
use Rattle.seen_facts.proofs.Hang.Targets.{IsTarget, some_is, target_has}
use Rattle.seen_facts.specs.Hang.AsPlaces.{IsChain}
use Rattle.seen_facts.specs.Hang.Hanging.{Hangs}
use Rattle.log_model.proofs.Refl.{nat_eq_refl}
use Rattle.log_model.specs.History.{has_nav, has_row, is_of, target_entry}
use Rattle.log_model.specs.Places.{is_shown}
use Rattle.log_model.specs.Seen.{Place, Seen, place_in, place_of}
use Rattle.log_model.specs.Soundness.{IsSound}
use Rattle.log_model.specs.declared.row.Row.{Row}
use Rattle.tab_facts.proofs.ShownWays.Ways.{leads_shown, shown_leads}
use Rattle.tab_facts.specs.ShownWays.Ways.{IsOnTarget, KeepsTargets, LeadsUp, hanging}
use Rattle.std.proofs.Common.{Bool, List, None, Option, Some, [], ap, false, refl, sym, true, ℕ, ◌==◌, ◌||◌, ◌∙◌, ◌∷◌, ◌≡◌}
use Rattle.std.specs.Prelude.{is_some, option_map, slice_get}
use Rattle.tab_ids.specs.declared.NavId.{NavId}
use Rattle.tab_ids.specs.declared.StateId.{StateId}
use Rattle.seen_facts.proofs.Walk.Placed.{found_nav}
use Rattle.seen_facts.proofs.Walk.Upwards.{shown_up}

-- ---- on the way

either : (a b : Bool) → b ≡ true → (a || b) ≡ true
either true b is = refl
either false b is = is

-- who is above one that is above is above
chain_more : (places : List Place) (above : List NavId) → IsChain places above → (x : NavId) (own : Place) → has_nav above x ≡ true → place_in places x ≡ Some own → (n : NavId) → has_nav own.above n ≡ true → has_nav above n ≡ true
chain_more places [] chain x own has at n up = absurd cc
chain_more places (first ∷ rest) chain x own has at n up =
    by_first (first.0 == x.0) refl has (chain_more places rest chain.1 x own)
  where
    by_first : (b : Bool) → (first.0 == x.0) ≡ b → (b || has_nav rest x) ≡ true → (has_nav rest x ≡ true → place_in places x ≡ Some own → (m : NavId) → has_nav own.above m ≡ true → has_nav rest m ≡ true) → has_nav (first ∷ rest) n ≡ true
    by_first true same h more =
        let two : Some chain.0.place ≡ Some own = sym chain.0.found ∙ ap (λ (m : NavId). place_in places m) (nav_is first x same) ∙ at in
        let one : chain.0.place ≡ own = cc in
        either (first.0 == n.0) (has_nav rest n) (ap (λ (l : List NavId). has_nav l n) (sym chain.0.above_is ∙ ap (λ (p : Place). p.above) one) ∙ up)
    by_first false apart h more = either (first.0 == n.0) (has_nav rest n) (more h at n up)

-- who is above has a place
record IsThere (places : List Place) (nav : NavId) : Type 0 where
  place : Place
  found : place_in places nav ≡ Some place

chain_there : (places : List Place) (above : List NavId) → IsChain places above → (n : NavId) → has_nav above n ≡ true → IsThere places n
chain_there places [] chain n has = absurd cc
chain_there places (first ∷ rest) chain n has =
    by_first (first.0 == n.0) refl has (chain_there places rest chain.1 n)
  where
    by_first : (b : Bool) → (first.0 == n.0) ≡ b → (b || has_nav rest n) ≡ true → (has_nav rest n ≡ true → IsThere places n) → IsThere places n
    by_first true same h more =
        record { place = chain.0.place; found = ap (λ (m : NavId). place_in places m) (sym (nav_is first n same)) ∙ chain.0.found }
    by_first false apart h more = more h

module _ (s : Seen) (sound : IsSound s.history) (hangs : Hangs s) (nav : NavId) (place : Place) (found : place_of s nav ≡ Some place) where
  -- who is above one on the way is above
  pub way_more : (x : NavId) (own : Place) → has_nav (nav ∷ place.above) x ≡ true → place_of s x ≡ Some own → (n : NavId) → has_nav own.above n ≡ true → has_nav place.above n ≡ true
  way_more x own has at n up = by_own (nav.0 == x.0) refl has
    where
      by_own : (b : Bool) → (nav.0 == x.0) ≡ b → (b || has_nav place.above x) ≡ true → has_nav place.above n ≡ true
      by_own true same h =
          let two : Some place ≡ Some own = sym found ∙ ap (λ (m : NavId). place_of s m) (nav_is nav x same) ∙ at in
          let one : place ≡ own = cc in
          ap (λ (p : Place). has_nav p.above n) one ∙ up
      by_own false apart h =
          chain_more s.places place.above (place_chain s sound hangs nav place found) x own h at n up

  -- who is above has a place
  pub way_there : (x : NavId) → has_nav place.above x ≡ true → (own : Place) × (place_of s x ≡ Some own)
  way_there x has =
      let its : IsThere s.places x = chain_there s.places place.above (place_chain s sound hangs nav place found) x has in
      (its.place, its.found)

-- each on the way to a shown one is shown
on_way : (s : Seen) → IsSound s.history → Hangs s → (step : ℕ) (above : List NavId) (nav : NavId) (place : Place) → place_of s nav ≡ Some place → place.above ≡ above → IsChain s.places above → is_shown s.history.rows step nav ≡ true → (x : NavId) → has_nav (nav ∷ above) x ≡ true → is_shown s.history.rows step x ≡ true
on_way s sound hangs step [] nav place found is chain shown x has = by_own (nav.0 == x.0) refl has
  where
    by_own : (b : Bool) → (nav.0 == x.0) ≡ b → (b || false) ≡ true → is_shown s.history.rows step x ≡ true
    by_own true same h = ap (λ (n : NavId). is_shown s.history.rows step n) (sym (nav_is nav x same)) ∙ shown
    by_own false apart h = absurd cc
on_way s sound hangs step (first ∷ rest) nav place found is chain shown x has =
    by_own (nav.0 == x.0) refl has (on_way s sound hangs step rest first chain.0.place chain.0.found chain.0.above_is chain.1 (shown_up s sound hangs step nav place first rest found is (ap (λ (n : NavId). is_shown s.history.rows step n) (found_nav s.places nav place found) ∙ shown)) x)
  where
    by_own : (b : Bool) → (nav.0 == x.0) ≡ b → (b || has_nav (first ∷ rest) x) ≡ true → (has_nav (first ∷ rest) x ≡ true → is_shown s.history.rows step x ≡ true) → is_shown s.history.rows step x ≡ true
    by_own true same h more = ap (λ (n : NavId). is_shown s.history.rows step n) (sym (nav_is nav x same)) ∙ shown
    by_own false apart h more = more h

pub shown_on_way : (s : Seen) → IsSound s.history → Hangs s → (step : ℕ) (nav : NavId) (place : Place) → place_of s nav ≡ Some place → is_shown s.history.rows step nav ≡ true → (x : NavId) → has_nav (nav ∷ place.above) x ≡ true → is_shown s.history.rows step x ≡ true
shown_on_way s sound hangs step nav place found =
    on_way s sound hangs step place.above nav place found refl (place_chain s sound hangs nav place found)

-- ---- a place before and after

-- it hung so before, too
record WasHung (s : Seen) (nav : NavId) (place : Place) : Type 0 where
  old : Place
  found : place_of s nav ≡ Some old
  above : old.above ≡ place.above
  owners : old.owners ≡ place.owners

was_hung : (s t : Seen) (nav : NavId) (place : Place) → option_map hanging (place_of t nav) ≡ option_map hanging (place_of s nav) → place_of t nav ≡ Some place → WasHung s nav place
was_hung s t nav place same found = by_old (place_of s nav) refl
  where
    by_old : (o : Option Place) → place_of s nav ≡ o → WasHung s nav place
    by_old None none =
        let never : Some (hanging place) ≡ None = sym (ap (option_map hanging) found) ∙ same ∙ ap (option_map hanging) none in absurd cc
    by_old (Some old) at =
        let two : Some (hanging place) ≡ Some (hanging old) = sym (ap (option_map hanging) found) ∙ same ∙ ap (option_map hanging) at in
        let one : hanging place ≡ hanging old = cc in
        record { old = old; found = at; above = sym (ap (λ (h : List NavId × List StateId). h.0) one); owners = sym (ap (λ (h : List NavId × List StateId). h.1) one) }

-- a target is an entry
target_row : (rows : List Row) (nav : NavId) (step : ℕ) (row : Row) → target_entry rows nav step ≡ Some row → has_row nav rows ≡ true
target_row rows nav step row at =
    let its : IsTarget rows nav step row = target_has rows nav step row at in
    has_any (is_of nav) rows row its.there (ap (λ (n : NavId). n.0 == nav.0) its.nav_is ∙ nat_eq_refl nav.0)

-- ---- the change

module _ (s t : Seen) (sound : IsSound s.history) (hangs : Hangs s) (then_sound : IsSound t.history) (then_hangs : Hangs t) (nav : NavId) (keeps : KeepsTargets s t nav) where
  module _ (m : NavId) (place : Place) (found : place_of s m ≡ Some place) (beside : has_nav place.above nav ≡ false) where
    now : WasHung t m place
    now = was_hung t s m place (sym (keeps.hung m)) found

    -- who is above it, or above one above it, is another one
    other : (x : NavId) (own : Place) (parent : NavId) (others : List NavId) → has_nav (m ∷ place.above) x ≡ true → place_of s x ≡ Some own → own.above ≡ parent ∷ others → (parent.0 == nav.0) ≡ false
    other x own parent others has at up = by_test (parent.0 == nav.0) refl
      where
        by_test : (b : Bool) → (parent.0 == nav.0) ≡ b → (parent.0 == nav.0) ≡ false
        by_test false e = e
        by_test true e =
            let first : has_nav own.above parent ≡ true = ap (λ (l : List NavId). has_nav l parent) up ∙ ap (λ (b : Bool). b || has_nav others parent) (nat_eq_refl parent.0) in
            let in_ : has_nav place.above parent ≡ true = way_more s sound hangs m place found x own has at parent first in
            let never : true ≡ false = sym in_ ∙ ap (λ (n : NavId). has_nav place.above n) (nav_is parent nav e) ∙ beside in
            absurd cc

    -- it was shown, if it is then
    pub shown_was : (m.0 == nav.0) ≡ false → is_shown t.history.rows t.history.current m ≡ true → is_shown s.history.rows s.history.current m ≡ true
    shown_was apart shown =
        leads_shown s sound hangs s.history.current m place found (ap (λ (o : Option Row). is_some o) (sym (keeps.targets m apart own_row)) ∙ some_then) leads
      where
        some_then : is_some (target_entry t.history.rows m t.history.current) ≡ true
        some_then = has_begun t then_sound then_hangs t.history.current m shown

        own_row : has_row m t.history.rows ≡ true
        own_row = let o = some_is (target_entry t.history.rows m t.history.current) some_then in target_row t.history.rows m t.history.current o.0 o.1

        leads_then : LeadsUp t t.history.current m now.old
        leads_then = shown_leads t then_sound then_hangs t.history.current m now.old now.found shown

        leads : LeadsUp s s.history.current m place
        leads x own parent others has at up =
            let it : WasHung t x own = was_hung t s x own (sym (keeps.hung x)) at in
            let its : IsOnTarget t.history.rows t.history.current it.old parent = leads_then x it.old parent others (ap (λ (l : List NavId). has_nav (m ∷ l) x) now.above ∙ has) it.found (it.above ∙ up) in
            record {
              target = its.target;
              at = sym (keeps.targets parent (other x own parent others has at up) (target_row t.history.rows parent t.history.current its.target its.at)) ∙ its.at;
              owner = ap (λ (l : List StateId). slice_get l 0) (sym it.owners) ∙ its.owner;
            }

    -- it is shown then, if it was and those that were, and aren't below the one, have entries still
    pub shown_then : ((x : NavId) (own : Place) → place_of s x ≡ Some own → has_nav own.above nav ≡ false → is_shown s.history.rows s.history.current x ≡ true → has_row x t.history.rows ≡ true) → is_some (target_entry t.history.rows m t.history.current) ≡ true → is_shown s.history.rows s.history.current m ≡ true → is_shown t.history.rows t.history.current m ≡ true
    shown_then left some shown =
        leads_shown t then_sound then_hangs t.history.current m now.old now.found some leads
      where
        leads_before : LeadsUp s s.history.current m place
        leads_before = shown_leads s sound hangs s.history.current m place found shown

        -- one above has an entry still
        above_left : (parent : NavId) → has_nav place.above parent ≡ true → has_row parent t.history.rows ≡ true
        above_left parent has =
            left parent up.place up.found off (shown_on_way s sound hangs s.history.current m place found shown parent (either (m.0 == parent.0) (has_nav place.above parent) has))
          where
            up : IsThere s.places parent
            up = chain_there s.places place.above (place_chain s sound hangs m place found) parent has

            off : has_nav up.place.above nav ≡ false
            off = by_test (has_nav up.place.above nav) refl
              where
                by_test : (b : Bool) → has_nav up.place.above nav ≡ b → has_nav up.place.above nav ≡ false
                by_test false e = e
                by_test true e =
                    let never : true ≡ false = sym (way_more s sound hangs m place found parent up.place (either (m.0 == parent.0) (has_nav place.above parent) has) up.found nav e) ∙ beside in
                    absurd cc

        leads : LeadsUp t t.history.current m now.old
        leads x own parent others has at up =
            let it : WasHung s x own = was_hung s t x own (keeps.hung x) at in
            let had : has_nav (m ∷ place.above) x ≡ true = ap (λ (l : List NavId). has_nav (m ∷ l) x) (sym now.above) ∙ has in
            let its : IsOnTarget s.history.rows s.history.current it.old parent = leads_before x it.old parent others had it.found (it.above ∙ up) in
            let first : has_nav it.old.above parent ≡ true = ap (λ (l : List NavId). has_nav l parent) (it.above ∙ up) ∙ ap (λ (b : Bool). b || has_nav others parent) (nat_eq_refl parent.0) in
            let in_ : has_nav place.above parent ≡ true = way_more s sound hangs m place found x it.old had it.found parent first in
            record {
              target = its.target;
              at = keeps.targets parent (other x it.old parent others had it.found (it.above ∙ up)) (above_left parent in_) ∙ its.at;
              owner = ap (λ (l : List StateId). slice_get l 0) (sym it.owners) ∙ its.owner;
            }
