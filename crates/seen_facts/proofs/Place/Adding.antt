-- Where each navigable stands, over a frame that is added: it was shown no document yet, and the others stand as before.
use Rattle.std.proofs.Common.{◌≡◌, ◌⊎◌, inl, inr, ℕ, ◌≤◌, Bool, true, false, cond, ◌==◌, List, [], ◌∷◌, ◌++◌, Option, Some, None, refl, sym, ap, ◌∙◌, subst, arith}
use Rattle.std.specs.Prelude.{option_and_then}
use Rattle.std.specs.Option.{option_map_or}
use Rattle.tab_ids.specs.declared.EntryId.{EntryId}
use Rattle.tab_ids.specs.declared.NavId.{NavId}
use Rattle.tab_ids.specs.declared.ReqId.{ReqId}
use Rattle.tab_ids.specs.declared.StateId.{StateId}
use Rattle.address.specs.Addresses.{blank_text}
use Rattle.log_model.specs.declared.change.Change.{Change}
use Rattle.log_model.specs.declared.change.Change.TheVariants as changes
use Rattle.log_model.specs.declared.row.Row.{Row}
use Rattle.log_model.specs.declared.row_kind.Actor.{Actor}
use Rattle.log_model.specs.declared.row_kind.RowKind.TheVariants as rows
use Rattle.log_model.specs.AfterPlaces.{new_place, places_added}
use Rattle.log_model.specs.History.{first_step, has_row, is_of}
use Rattle.log_model.specs.Places.{holder_of}
use Rattle.log_model.specs.Seen.{Seen, Place, awake, lost, asleep, place_in, place_of}
use Rattle.log_model.proofs.Refl.{nat_eq_refl}
use Rattle.seen_facts.specs.Hang.Members.{Has}
use Rattle.seen_facts.proofs.Hang.Members.{has_any, has_more, into_last}
use Rattle.seen_facts.proofs.Walk.Placed.{found_nav}
use Rattle.seen_facts.specs.Place.Standing.{AreStanding}
use Rattle.seen_facts.proofs.Place.Applying.{IsReady, IsThere, applied_standing, applied_then, ready_before}
use Rattle.seen_facts.proofs.Place.Asked.{asked_by_stays, asked_stay}
use Rattle.seen_facts.proofs.Place.Changes.{IsUngiven}

-- a place among one more was there, or is the new one
was_or_is_new : (nav : NavId) (places : List Place) (new place : Place) → place_in (places ++ new ∷ []) nav ≡ Some place → (place_in places nav ≡ Some place) ⊎ (new ≡ place)
was_or_is_new nav [] new place e = by_test (new.nav.0 == nav.0) e
  where
    by_test : (b : Bool) → (let o : Option Place = cond b (Some new) None in o) ≡ Some place → (place_in [] nav ≡ Some place) ⊎ (new ≡ place)
    by_test true f = inr (let is : new ≡ place = cc in is)
    by_test false f = absurd cc
was_or_is_new nav (p ∷ places) new place e = by_test (p.nav.0 == nav.0) (was_or_is_new nav places new place) e
  where
    by_test : (b : Bool) → (place_in (places ++ new ∷ []) nav ≡ Some place → (place_in places nav ≡ Some place) ⊎ (new ≡ place)) → cond b (Some p) (place_in (places ++ new ∷ []) nav) ≡ Some place → ((let o : Option Place = cond b (Some p) (place_in places nav) in o) ≡ Some place) ⊎ (new ≡ place)
    by_test true more f = inl f
    by_test false more f = more f

-- a navigable without a place wasn't given anything
pub absent_ungiven : (s : Seen) (nav : NavId) (entry : EntryId) → place_of s nav ≡ None → IsUngiven s nav entry
absent_ungiven s nav entry none place there given = let no_ : None ≡ Some place = sym none ∙ there in absurd cc

module _ (s : Seen) (event : ℕ) (actor : Actor) (are : AreStanding s) (req : ReqId) (owner : StateId) (nav : NavId) (entry : EntryId) (state : StateId) (there : IsThere s req) where
  abbrev adding : Change
  adding = changes.AddFrame owner nav entry state

  abbrev then_ : Seen
  then_ = applied_then s event actor req adding

  abbrev put : Row
  put = record { owner = Some owner; nav = nav; entry = entry; step = record { 0 = first_step owner s.history.rows }; state = state; address = blank_text; memo = None }

  its_row : has_row nav then_.history.rows ≡ true
  its_row = has_any (is_of nav) (s.history.rows ++ put ∷ []) put (into_last s.history.rows put) (nat_eq_refl nav.0)

  -- the new place
  ready_new : (parent : Place) → IsReady s then_ (new_place req nav owner parent)
  ready_new parent =
      record {
        settled = record {
          unlost = λ e. (let no_ : asleep ≡ lost = e in absurd cc);
          unpending = refl;
          met = refl;
          shown = λ doc e. (let no_ : asleep ≡ awake doc = e in absurd cc);
          told = (λ zero. record { given = refl; last = refl }, λ some. absurd (none some));
          of_last = λ doc d row last found has navs given. absurd cc;
          added = λ child. asked_by_stays s.requests then_.requests (Some req) (asked_stay s (rows.Applied req adding) tt) (record { req = req; is = refl; q = there.q; there = there.found });
        };
        taken = λ had gone. (let no_ : true ≡ false = sym its_row ∙ gone in absurd cc);
      }
    where
      none : 1 ≤ 0 → ⊥
      none some = omega (arith, some)

  module _ (ungiven : IsUngiven s nav entry) where
    ready_old : (n : NavId) (place : Place) → place_of s n ≡ Some place → IsReady s then_ place
    ready_old n place found =
        ready_before s event actor req adding place (are n place found) (λ row has navs given. by_row row navs given (has_more s.history.rows put row has))
      where
        by_row : (row : Row) → row.nav ≡ place.nav → place.given ≡ Some row.entry → Has s.history.rows row ⊎ (put ≡ row) → Has s.history.rows row
        by_row row navs given (inl has) = has
        by_row row navs given (inr is) =
            let own : nav ≡ n = ap (λ (r : Row). r.nav) is ∙ navs ∙ found_nav s.places n place found in
            absurd (ungiven place (ap (place_of s) own ∙ found) (given ∙ ap (λ (r : Row). Some r.entry) (sym is)))

    -- the request that adds the frame is there, and its navigable wasn't given the new entry
    pub added_standing : AreStanding then_
    added_standing =
        applied_standing s event actor req adding (places_added s req owner nav) refl (λ n had gone. there) (by_parent (option_and_then (place_of s) (holder_of owner s.history.rows)))
      where
        by_which : (parent : Place) (n : NavId) (place : Place) → (place_of s n ≡ Some place) ⊎ (new_place req nav owner parent ≡ place) → IsReady s then_ place
        by_which parent n place (inl old) = ready_old n place old
        by_which parent n place (inr is) = subst (λ (p : Place). IsReady s then_ p) is (ready_new parent)

        by_parent : (o : Option Place) (n : NavId) (place : Place) → place_in (option_map_or (λ (parent : Place). s.places ++ new_place req nav owner parent ∷ []) o s.places) n ≡ Some place → IsReady s then_ place
        by_parent None n place found = ready_old n place found
        by_parent (Some parent) n place found =
            by_which parent n place (was_or_is_new n s.places (new_place req nav owner parent) place found)
