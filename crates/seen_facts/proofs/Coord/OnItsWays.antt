-- Where nothing is on its way, all stand.
use Rattle.std.proofs.Common.{◌≡◌, ℕ, zero, suc, ◌<◌, ◌⊎◌, inl, inr, Bool, true, false, cond, List, [], ◌∷◌, length, Some, refl, sym, ◌∙◌, arith}
use Rattle.std.specs.Prelude.{slice_get}
use Rattle.std.specs.List.{list_all}
use Rattle.log_model.specs.declared.row.Row.{Row}
use Rattle.log_model.specs.Seen.{Place}
use Rattle.log_model.specs.Places.{is_wanted, all_stand_in}
use Rattle.seen_facts.specs.Coord.OnItsWay.{stands_in, IsHeldUp, EachOnItsWay}

module _ (rows : List Row) (places : List Place) (step : ℕ) (Waits : Place → Type 0) (on : EachOnItsWay rows places step Waits) (none : (place : Place) → Waits place → ⊥) where
  abbrev AreStanding : ℕ → Type 0
  AreStanding n =
      (i : ℕ) (place : Place) → length place.above < n → slice_get places i ≡ Some place → is_wanted rows places step place ≡ true → stands_in rows places step place ≡ true

  no_way : (n : ℕ) (place : Place) → length place.above < suc n → AreStanding n → Waits place ⊎ IsHeldUp rows places step place → ⊥
  no_way n place low more (inl waits) = none place waits
  no_way n place low more (inr up) =
      let fine : stands_in rows places step up.above ≡ true = more up.index up.above (let near = up.nearer in omega (arith, near, low)) up.there up.wanted in
      let no_ : false ≡ true = sym up.falls ∙ fine in cc

  -- by the number of navigables above
  stand_within : (n : ℕ) → AreStanding n
  stand_within zero i place low there wanted = absurd (omega (arith, low))
  stand_within (suc n) i place low there wanted = by_test (stands_in rows places step place) refl (stand_within n)
    where
      by_test : (b : Bool) → stands_in rows places step place ≡ b → AreStanding n → b ≡ true
      by_test true e more = refl
      by_test false e more = absurd (no_way n place low more (on.each i place there wanted e))

  abbrev stands_if_wanted : Place → Bool
  stands_if_wanted place = cond (is_wanted rows places step place) (stands_in rows places step place) true

  each_stands : (i : ℕ) (place : Place) → slice_get places i ≡ Some place → stands_if_wanted place ≡ true
  each_stands i place there = by_test (is_wanted rows places step place) refl
    where
      by_test : (b : Bool) → is_wanted rows places step place ≡ b → cond b (stands_in rows places step place) true ≡ true
      by_test true e = stand_within (suc (length place.above)) i place (omega arith) there e
      by_test false e = refl

  pub all_stand_here : all_stand_in rows places step ≡ true
  all_stand_here = along places each_stands
    where
      along : (some : List Place) → ((i : ℕ) (place : Place) → slice_get some i ≡ Some place → stands_if_wanted place ≡ true) → list_all stands_if_wanted some ≡ true
      along [] each = refl
      along (place ∷ some) each = rw (each 0 place refl) (along some (λ i p there. each (suc i) p there))
