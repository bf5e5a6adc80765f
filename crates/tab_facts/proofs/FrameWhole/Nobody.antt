-- Nobody falls asleep as a navigable is shown its document: below one that sleeps nobody is awake, and one that is awake is shown its own document again.
use Rattle.tab_facts.specs.FrameWhole.Tab.{IsTab}
use Rattle.seen_facts.proofs.Hang.Forms.{nav_is}
use Rattle.seen_facts.proofs.Hang.Hung.{place_chain, places_distinct}
use Rattle.seen_facts.specs.Hang.AsPlaces.{IsChain}
use Rattle.seen_facts.specs.Hang.Members.{Has}
use Rattle.seen_facts.specs.Home.Homes.{IsOnAwake}
use Rattle.log_model.proofs.Refl.{nat_eq_refl}
use Rattle.log_model.specs.AfterPlaces.{sleepers_below, woken_below}
use Rattle.log_model.specs.Equal.{holds}
use Rattle.log_model.specs.History.{has_nav}
use Rattle.log_model.specs.Places.{is_asleep, is_below}
use Rattle.log_model.specs.Seen.{Place, Seen, Status, asleep, awake, lost, place_of}
use Rattle.log_model.specs.declared.made.Made.{Made}
use Rattle.seen_facts.proofs.Rest.Stands.{get_of}
use Rattle.seen_laws.proofs.Keyed.{find_has}
use Rattle.std.proofs.Common.{Bool, List, Option, Some, [], ap, cond, false, inl, inr, map, not, refl, subst, sym, true, ℕ, ◌&&◌, ◌==◌, ◌||◌, ◌∙◌, ◌∷◌, ◌≡◌}
use Rattle.std.specs.Prelude.{filter}
use Rattle.tab_ids.specs.declared.DocId.{DocId}
use Rattle.tab_ids.specs.declared.NavId.{NavId}
use Rattle.tab_ids.specs.declared.ProcId.{ProcId}
use Rattle.tab_ids.specs.declared.ReqId.{ReqId}
use Rattle.seen_facts.proofs.Walk.Placed.{each_found}

-- the navigable is awake
pub record IsUpNow (s : Seen) (nav : NavId) : Type 0 where
  pub place : Place
  pub doc : DocId
  pub placed : place_of s nav ≡ Some place
  pub wakes : place.status ≡ awake doc

some_same : {A : Type 0} {a b : A} → (let o : Option A = Some a in o) ≡ Some b → a ≡ b
some_same e = cc

filter_none : {A : Type 0} (test : A → Bool) (xs : List A) → ((x : A) → Has xs x → test x ≡ false) → filter test xs ≡ []
filter_none test [] none = refl
filter_none test (x ∷ xs) none = rw (none x (inl refl)) (filter_none test xs (λ y has. none y (inr has)))

module _ (home : ProcId) (run : Option ReqId) (hand : List Made) (s : Seen) (tab : IsTab home run hand s) where
  -- those above an awake navigable are awake
  pub above_awake : (above : List NavId) (nav : NavId) (place : Place) (doc : DocId) → place_of s nav ≡ Some place → place.status ≡ awake doc → place.above ≡ above → IsChain s.places above → (x : NavId) → has_nav above x ≡ true → IsUpNow s x
  above_awake [] nav place doc placed wakes is chain x never = absurd cc
  above_awake (parent ∷ others) nav place doc placed wakes is chain x in_ =
      by_test (parent.0 == x.0) refl in_ (λ h. above_awake others parent up.above up.doc up.there up.wakes (ap (λ (p : Place). p.above) same ∙ chain.0.above_is) chain.1 x h)
    where
      up : IsOnAwake s place parent
      up = tab.homes.hung nav place doc placed wakes parent others is

      same : up.above ≡ chain.0.place
      same = some_same (sym up.there ∙ chain.0.found)

      by_test : (b : Bool) → (parent.0 == x.0) ≡ b → (b || has_nav others x) ≡ true → (has_nav others x ≡ true → IsUpNow s x) → IsUpNow s x
      by_test true e h more = subst (λ (n : NavId). IsUpNow s n) (nav_is parent x e) (record { place = up.above; doc = up.doc; placed = up.there; wakes = up.wakes })
      by_test false e h more = more h

  -- so nobody is below one that sleeps
  pub none_woken : (nav : NavId) (place : Place) → place_of s nav ≡ Some place → place.status ≡ asleep → woken_below s place.nav ≡ []
  none_woken nav place placed sleeps =
      ap (λ (l : List Place). map (λ (p : Place). p.nav) l) (filter_none (λ (p : Place). is_below place.nav p && not (is_asleep p)) s.places none)
    where
      number : place.nav ≡ nav
      number = ap (λ (n : ℕ). let x : NavId = record { 0 = n } in x) (find_has (λ (x : Place). x.nav.0) nav.0 s.places place placed)

      by_status : (p : Place) → place_of s p.nav ≡ Some p → (st : Status) → p.status ≡ st → (b : Bool) → is_below place.nav p ≡ b → (b && not (is_asleep p)) ≡ false
      by_status p at st e false below = refl
      by_status p at asleep e true below = (let slept : is_asleep p ≡ true = rw e refl in rw slept refl)
      by_status p at lost e true below = absurd ((tab.framed.steady p.nav p at).unlost e)
      by_status p at (awake doc) e true below =
          let up : IsUpNow s place.nav = above_awake p.above p.nav p doc at e refl (place_chain s tab.sound tab.hangs p.nav p at) place.nav below in
          let same : up.place ≡ place = some_same (sym up.placed ∙ (ap (λ (n : NavId). place_of s n) number ∙ placed)) in
          let never : awake up.doc ≡ asleep = sym up.wakes ∙ (ap (λ (x : Place). x.status) same ∙ sleeps) in absurd cc

      none : (p : Place) → Has s.places p → (is_below place.nav p && not (is_asleep p)) ≡ false
      none p has =
          let i = get_of s.places p has in
          by_status p (each_found s.places (places_distinct s tab.sound tab.hangs) i.0 p i.1) p.status refl (is_below place.nav p) refl

  -- and nobody falls asleep as it is shown a document
  pub nobody_sleeps : (doc : DocId) (nav : NavId) (place : Place) → place_of s nav ≡ Some place → ((other : DocId) → place.status ≡ awake other → other ≡ doc) → sleepers_below s doc place ≡ []
  nobody_sleeps doc nav place placed same = by_status place.status refl
    where
      by_last : (b : Bool) → woken_below s place.nav ≡ [] → (let l : List NavId = cond b [] (woken_below s place.nav) in l) ≡ []
      by_last true none = refl
      by_last false none = none

      by_status : (st : Status) → place.status ≡ st → sleepers_below s doc place ≡ []
      by_status asleep e = by_last (holds (λ (last : DocId). last.0 == doc.0) place.last) (none_woken nav place placed e)
      by_status lost e = absurd ((tab.framed.steady nav place placed).unlost e)
      by_status (awake other) e =
          let last : place.last ≡ Some doc = (tab.homes.homed nav place other placed e).last ∙ ap (λ (x : DocId). let o : Option DocId = Some x in o) (same other e) in
          let its : holds (λ (x : DocId). x.0 == doc.0) place.last ≡ true = rw last (nat_eq_refl doc.0) in
          ap (λ (b : Bool). let l : List NavId = cond b [] (woken_below s place.nav) in l) its
