-- Places over a row: what was shown was shown still, and what was shown last was.
use Rattle.log_model.specs.Equal.{has_doc}
use Rattle.log_model.specs.Seen.{Place, place_in}
use Rattle.seen_laws.proofs.Keyed.{find_map}
use Rattle.std.proofs.Common.{Bool, List, None, Option, Some, [], ap, cond, false, inl, inr, map, refl, sym, true, ◌++◌, ◌==◌, ◌∙◌, ◌∷◌, ◌≡◌, ◌⊎◌}
use Rattle.std.specs.Prelude.{option_map}
use Rattle.tab_ids.specs.declared.DocId.{DocId}
use Rattle.tab_ids.specs.declared.NavId.{NavId}
use Rattle.tab_ids.specs.declared.StateId.{StateId}
use Rattle.row_facts.specs.Left.Left.{IsOwnedAs, LastWereShown, OwnersFollow, WasEverShown}

-- a document that a navigable was shown was shown to it still, and the last ones were
pub record KeepsShown (old new : List Place) : Type 0 where
  pub still : (doc : DocId) → WasEverShown old doc → WasEverShown new doc
  pub lasts : LastWereShown old → LastWereShown new
  pub owned : OwnersFollow old → OwnersFollow new

pub keeps_same : (places : List Place) → KeepsShown places places
keeps_same places = record { still = λ doc was. was; lasts = λ so. so; owned = λ so. so }

pub keeps_then : (old mid new : List Place) → KeepsShown old mid → KeepsShown mid new → KeepsShown old new
keeps_then old mid new one two = record { still = λ doc was. two.still doc (one.still doc was); lasts = λ so. two.lasts (one.lasts so); owned = λ so. two.owned (one.owned so) }

-- a change of one place that keeps its navigable and what it was shown; what is shown last then was shown
pub record KeepsPlace (g : Place → Place) : Type 0 where
  pub nav : (p : Place) → (g p).nav ≡ p.nav
  pub above : (p : Place) → (g p).above ≡ p.above
  pub owners : (p : Place) → (g p).owners ≡ p.owners
  pub ever : (p : Place) (doc : DocId) → has_doc p.ever_awake doc ≡ true → has_doc (g p).ever_awake doc ≡ true
  pub last : (p : Place) (doc : DocId) → ((x : DocId) → p.last ≡ Some x → has_doc p.ever_awake x ≡ true) → (g p).last ≡ Some doc → has_doc (g p).ever_awake doc ≡ true

-- one that leaves both
pub record LeavesPlace (g : Place → Place) : Type 0 where
  pub nav : (p : Place) → (g p).nav ≡ p.nav
  pub above : (p : Place) → (g p).above ≡ p.above
  pub owners : (p : Place) → (g p).owners ≡ p.owners
  pub ever : (p : Place) → (g p).ever_awake ≡ p.ever_awake
  pub last : (p : Place) → (g p).last ≡ p.last

pub leaving_keeps : (g : Place → Place) → LeavesPlace g → KeepsPlace g
leaving_keeps g leaves =
    record {
      nav = leaves.nav;
      above = leaves.above;
      owners = leaves.owners;
      ever = λ p doc has. ap (λ (l : List DocId). has_doc l doc) (leaves.ever p) ∙ has;
      last = λ p doc so is. ap (λ (l : List DocId). has_doc l doc) (leaves.ever p) ∙ so doc (sym (leaves.last p) ∙ is);
    }

-- where a test holds
pub where_leaves : (test : Place → Bool) (f : Place → Place) → LeavesPlace f → LeavesPlace (λ (p : Place). cond (test p) (f p) p)
where_leaves test f leaves = record { nav = λ p. nav_by p (test p); above = λ p. above_by p (test p); owners = λ p. owners_by p (test p); ever = λ p. ever_by p (test p); last = λ p. last_by p (test p) }
  where
    nav_by : (p : Place) (b : Bool) → (let q : Place = cond b (f p) p in q).nav ≡ p.nav
    nav_by p true = leaves.nav p
    nav_by p false = refl

    above_by : (p : Place) (b : Bool) → (let q : Place = cond b (f p) p in q).above ≡ p.above
    above_by p true = leaves.above p
    above_by p false = refl

    owners_by : (p : Place) (b : Bool) → (let q : Place = cond b (f p) p in q).owners ≡ p.owners
    owners_by p true = leaves.owners p
    owners_by p false = refl

    ever_by : (p : Place) (b : Bool) → (let q : Place = cond b (f p) p in q).ever_awake ≡ p.ever_awake
    ever_by p true = leaves.ever p
    ever_by p false = refl

    last_by : (p : Place) (b : Bool) → (let q : Place = cond b (f p) p in q).last ≡ p.last
    last_by p true = leaves.last p
    last_by p false = refl

pub where_keeps : (test : Place → Bool) (f : Place → Place) → KeepsPlace f → KeepsPlace (λ (p : Place). cond (test p) (f p) p)
where_keeps test f keeps = record { nav = λ p. nav_by p (test p); above = λ p. above_by p (test p); owners = λ p. owners_by p (test p); ever = λ p doc has. ever_by p doc has (test p); last = λ p doc so is. last_by p doc so (test p) is }
  where
    nav_by : (p : Place) (b : Bool) → (let q : Place = cond b (f p) p in q).nav ≡ p.nav
    nav_by p true = keeps.nav p
    nav_by p false = refl

    above_by : (p : Place) (b : Bool) → (let q : Place = cond b (f p) p in q).above ≡ p.above
    above_by p true = keeps.above p
    above_by p false = refl

    owners_by : (p : Place) (b : Bool) → (let q : Place = cond b (f p) p in q).owners ≡ p.owners
    owners_by p true = keeps.owners p
    owners_by p false = refl

    ever_by : (p : Place) (doc : DocId) → has_doc p.ever_awake doc ≡ true → (b : Bool) → has_doc (let q : Place = cond b (f p) p in q).ever_awake doc ≡ true
    ever_by p doc has true = keeps.ever p doc has
    ever_by p doc has false = has

    last_by : (p : Place) (doc : DocId) → ((x : DocId) → p.last ≡ Some x → has_doc p.ever_awake x ≡ true) → (b : Bool) → (let q : Place = cond b (f p) p in q).last ≡ Some doc → has_doc (let q : Place = cond b (f p) p in q).ever_awake doc ≡ true
    last_by p doc so true is = keeps.last p doc so is
    last_by p doc so false is = so doc is

-- each place changes so
pub map_keeps : (g : Place → Place) (places : List Place) → KeepsPlace g → KeepsShown places (map g places)
map_keeps g places keeps =
    record {
      still = λ doc was. record { nav = was.nav; place = g was.place; placed = then_place was.nav ∙ ap (option_map g) was.placed; ever = keeps.ever was.place doc was.ever };
      lasts = λ so nav place doc at is. by_old nav place doc (place_in places nav) (λ p x there last_. so nav p x there last_) refl (sym (then_place nav) ∙ at) is;
      owned = λ so. record {
        child = λ nav place parent others at is. by_owner place parent others (place_in places nav) (λ p there above. so.child nav p parent others there above) (sym (then_place nav) ∙ at) is;
        top = λ nav place at is. by_top place (place_in places nav) (λ p there above. so.top nav p there above) (sym (then_place nav) ∙ at) is;
      };
    }
  where
    then_place : (nav : NavId) → place_in (map g places) nav ≡ option_map g (place_in places nav)
    then_place nav = find_map (λ (p : Place). p.nav.0) g nav.0 places (λ p. ap (λ (n : NavId). n.0) (keeps.nav p))

    by_old : (nav : NavId) (place : Place) (doc : DocId) (o : Option Place) → ((p : Place) (x : DocId) → place_in places nav ≡ Some p → p.last ≡ Some x → has_doc p.ever_awake x ≡ true) → place_in places nav ≡ o → option_map g o ≡ Some place → place.last ≡ Some doc → has_doc place.ever_awake doc ≡ true
    by_old nav place doc None so there is last_ = absurd cc
    by_old nav place doc (Some p) so there is last_ =
        let new : g p ≡ place = cc in
        ap (λ (q : Place). has_doc q.ever_awake doc) (sym new) ∙ keeps.last p doc (λ x l. so p x there l) (ap (λ (q : Place). q.last) new ∙ last_)

    by_owner : (place : Place) (parent : NavId) (others : List NavId) (o : Option Place) → ((p : Place) → o ≡ Some p → p.above ≡ parent ∷ others → IsOwnedAs places p parent) → option_map g o ≡ Some place → place.above ≡ parent ∷ others → IsOwnedAs (map g places) place parent
    by_owner place parent others None so is above = absurd cc
    by_owner place parent others (Some p) so is above =
        let new : g p ≡ place = cc in
        let its = so p refl (sym (keeps.above p) ∙ ap (λ (q : Place). q.above) new ∙ above) in
        record {
          up = g its.up;
          there = then_place parent ∙ ap (option_map g) its.there;
          owner = its.owner;
          owners = ap (λ (q : Place). q.owners) (sym new) ∙ keeps.owners p ∙ its.owners ∙ ap (λ (l : List StateId). its.owner ∷ l) (sym (keeps.owners its.up));
        }

    by_top : (place : Place) (o : Option Place) → ((p : Place) → o ≡ Some p → p.above ≡ [] → p.owners ≡ []) → option_map g o ≡ Some place → place.above ≡ [] → place.owners ≡ []
    by_top place None so is above = absurd cc
    by_top place (Some p) so is above =
        let new : g p ≡ place = cc in
        ap (λ (q : Place). q.owners) (sym new) ∙ keeps.owners p ∙ so p refl (sym (keeps.above p) ∙ ap (λ (q : Place). q.above) new ∙ above)

-- one joins that was shown none, below another one
pub more_keeps : (places : List Place) (new parent : Place) (owner : StateId) → place_in places parent.nav ≡ Some parent → new.above ≡ parent.nav ∷ parent.above → new.owners ≡ owner ∷ parent.owners → new.last ≡ None → KeepsShown places (places ++ new ∷ [])
more_keeps places new parent owner there above owners none =
    record {
      still = λ doc was. record { nav = was.nav; place = was.place; placed = found_more places was.nav was.place was.placed; ever = was.ever };
      lasts = λ so nav place doc at is. by_place so nav place doc is (was_or_new places nav place at);
      owned = λ so. record {
        child = λ nav place p others at is. by_owner so nav place p others is (was_or_new places nav place at);
        top = λ nav place at is. by_top so nav place is (was_or_new places nav place at);
      };
    }
  where
    found_more : (l : List Place) (nav : NavId) (place : Place) → place_in l nav ≡ Some place → place_in (l ++ new ∷ []) nav ≡ Some place
    found_more [] nav place e = cc
    found_more (p ∷ l) nav place e = by_test (p.nav.0 == nav.0) (found_more l nav place) e
      where
        by_test : (b : Bool) → (place_in l nav ≡ Some place → place_in (l ++ new ∷ []) nav ≡ Some place) → cond b (Some p) (place_in l nav) ≡ Some place → cond b (Some p) (place_in (l ++ new ∷ []) nav) ≡ Some place
        by_test true more f = f
        by_test false more f = more f

    was_or_new : (l : List Place) (nav : NavId) (place : Place) → place_in (l ++ new ∷ []) nav ≡ Some place → (place_in l nav ≡ Some place) ⊎ (new ≡ place)
    was_or_new [] nav place e = by_test (new.nav.0 == nav.0) e
      where
        by_test : (b : Bool) → (let o : Option Place = cond b (Some new) None in o) ≡ Some place → (place_in [] nav ≡ Some place) ⊎ (new ≡ place)
        by_test true f = inr (let is : new ≡ place = cc in is)
        by_test false f = absurd cc
    was_or_new (p ∷ l) nav place e = by_test (p.nav.0 == nav.0) (was_or_new l nav place) e
      where
        by_test : (b : Bool) → (place_in (l ++ new ∷ []) nav ≡ Some place → (place_in l nav ≡ Some place) ⊎ (new ≡ place)) → cond b (Some p) (place_in (l ++ new ∷ []) nav) ≡ Some place → ((let o : Option Place = cond b (Some p) (place_in l nav) in o) ≡ Some place) ⊎ (new ≡ place)
        by_test true more f = inl f
        by_test false more f = more f

    by_place : LastWereShown places → (nav : NavId) (place : Place) (doc : DocId) → place.last ≡ Some doc → (place_in places nav ≡ Some place) ⊎ (new ≡ place) → has_doc place.ever_awake doc ≡ true
    by_place so nav place doc is (inl at) = so nav place doc at is
    by_place so nav place doc is (inr same) = (let never : None ≡ Some doc = sym none ∙ ap (λ (p : Place). p.last) same ∙ is in absurd cc)

    by_owner : OwnersFollow places → (nav : NavId) (place : Place) (p : NavId) (others : List NavId) → place.above ≡ p ∷ others → (place_in places nav ≡ Some place) ⊎ (new ≡ place) → IsOwnedAs (places ++ new ∷ []) place p
    by_owner so nav place p others is (inl at) =
        let its = so.child nav place p others at is in
        record { up = its.up; there = found_more places p its.up its.there; owner = its.owner; owners = its.owners }
    by_owner so nav place p others is (inr same) =
        let heads : parent.nav ∷ parent.above ≡ p ∷ others = sym above ∙ ap (λ (q : Place). q.above) same ∙ is in
        let one : parent.nav ≡ p = cc in
        record {
          up = parent;
          there = found_more places p parent (ap (λ (n : NavId). place_in places n) (sym one) ∙ there);
          owner = owner;
          owners = ap (λ (q : Place). q.owners) (sym same) ∙ owners;
        }

    by_top : OwnersFollow places → (nav : NavId) (place : Place) → place.above ≡ [] → (place_in places nav ≡ Some place) ⊎ (new ≡ place) → place.owners ≡ []
    by_top so nav place is (inl at) = so.top nav place at is
    by_top so nav place is (inr same) =
        let never : parent.nav ∷ parent.above ≡ [] = sym above ∙ ap (λ (q : Place). q.above) same ∙ is in
        absurd cc
