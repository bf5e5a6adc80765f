-- Where navigables stand once one of them was given an entry by an applied change.
use Rattle.std.proofs.Common.{◌≡◌, ℕ, Bool, true, false, cond, not, ◌&&◌, ◌==◌, List, Option, Some, None, refl, sym, ap, ◌∙◌, subst}
use Rattle.std.specs.Prelude.{map, option_map}
use Rattle.tab_ids.specs.declared.EntryId.{EntryId}
use Rattle.tab_ids.specs.declared.NavId.{NavId}
use Rattle.tab_ids.specs.declared.ReqId.{ReqId}
use Rattle.log_model.specs.History.{History, has_row}
use Rattle.log_model.specs.Seen.{Place, place_in}
use Rattle.log_model.specs.AfterPlaces.{on_place, given_entry, with_taker}
use Rattle.seen_laws.proofs.Keyed.{find_map, find_has}

-- a place of a changed list is the change of a place
pub record IsFrom (g : Place → Place) (places : List Place) (nav : NavId) (place : Place) : Type 0 where
  pub before : Place
  pub there : place_in places nav ≡ Some before
  pub is : g before ≡ place

pub placed_from : (g : Place → Place) (places : List Place) (nav : NavId) (place : Place) → ((p : Place) → (g p).nav.0 ≡ p.nav.0) → place_in (map g places) nav ≡ Some place → IsFrom g places nav place
placed_from g places nav place keeps there = by_place (place_in places nav) refl
  where
    by_place : (o : Option Place) → place_in places nav ≡ o → IsFrom g places nav place
    by_place None e =
        let no_ : None ≡ Some place = sym (find_map (λ (p : Place). p.nav.0) g nav.0 places keeps ∙ ap (λ (o : Option Place). option_map g o) e) ∙ there in absurd cc
    by_place (Some p) e =
        let some : Some (g p) ≡ Some place = sym (find_map (λ (p : Place). p.nav.0) g nav.0 places keeps ∙ ap (λ (o : Option Place). option_map g o) e) ∙ there in
        record { before = p; there = e; is = cc }

-- a place once a change may have taken its rows
abbrev taken_from : History → History → ReqId → Place → Place
taken_from old new req place =
    cond (has_row place.nav old.rows && not (has_row place.nav new.rows)) (record place { taken_by = Some req }) place

taken_keeps : {A : Type 0} (read : Place → A) (old new : History) (req : ReqId) → ((p : Place) → read (record p { taken_by = Some req }) ≡ read p) → (p : Place) → read (taken_from old new req p) ≡ read p
taken_keeps read old new req keeps p = by_test (has_row p.nav old.rows && not (has_row p.nav new.rows))
  where
    by_test : (b : Bool) → read (let q : Place = cond b (record p { taken_by = Some req }) p in q) ≡ read p
    by_test true = keeps p
    by_test false = refl

-- a navigable stood so before, and was given what it was given, but for the one that is given the entry
pub record WasGiven (places : List Place) (nav at : NavId) (entry : EntryId) (place : Place) : Type 0 where
  pub before : Place
  pub there : place_in places at ≡ Some before
  pub status : before.status ≡ place.status
  pub epoch : before.epoch ≡ place.epoch
  pub given : place.given ≡ cond (at.0 == nav.0) (Some entry) before.given

-- a place once its navigable was given an entry
abbrev given_at : NavId → EntryId → Place → Place
given_at nav entry place = cond (place.nav.0 == nav.0) (given_entry entry place) place

given_keeps : {A : Type 0} (read : Place → A) (nav : NavId) (entry : EntryId) → ((p : Place) → read (given_entry entry p) ≡ read p) → (p : Place) → read (given_at nav entry p) ≡ read p
given_keeps read nav entry keeps p = by_test (p.nav.0 == nav.0)
  where
    by_test : (b : Bool) → read (let q : Place = cond b (given_entry entry p) p in q) ≡ read p
    by_test true = keeps p
    by_test false = refl

given_given : (nav : NavId) (entry : EntryId) (p : Place) (at : NavId) → p.nav.0 ≡ at.0 → (given_at nav entry p).given ≡ cond (at.0 == nav.0) (Some entry) p.given
given_given nav entry p at same =
    subst (λ (n : ℕ). (given_at nav entry p).given ≡ cond (n == nav.0) (Some entry) p.given) same (by_test (p.nav.0 == nav.0))
  where
    by_test : (b : Bool) → (let q : Place = cond b (given_entry entry p) p in q).given ≡ cond b (Some entry) p.given
    by_test true = refl
    by_test false = refl

pub was_given : (old new : History) (req : ReqId) (nav : NavId) (entry : EntryId) (places : List Place) (at : NavId) (place : Place) → place_in (with_taker old new req (on_place nav (given_entry entry) places)) at ≡ Some place → WasGiven places nav at entry place
was_given old new req nav entry places at place there =
    let one : IsFrom (taken_from old new req) (on_place nav (given_entry entry) places) at place = placed_from (taken_from old new req) (on_place nav (given_entry entry) places) at place (taken_keeps (λ (p : Place). p.nav.0) old new req (λ p. refl)) there in
    let two : IsFrom (given_at nav entry) places at one.before = placed_from (given_at nav entry) places at one.before (given_keeps (λ (p : Place). p.nav.0) nav entry (λ p. refl)) one.there in
    let number : two.before.nav.0 ≡ at.0 = find_has (λ (p : Place). p.nav.0) at.0 places two.before two.there in
    record {
      before = two.before;
      there = two.there;
      status = sym (given_keeps (λ (p : Place). p.status) nav entry (λ p. refl) two.before) ∙ ap (λ (p : Place). p.status) two.is ∙ sym (taken_keeps (λ (p : Place). p.status) old new req (λ p. refl) one.before) ∙ ap (λ (p : Place). p.status) one.is;
      epoch = sym (given_keeps (λ (p : Place). p.epoch) nav entry (λ p. refl) two.before) ∙ ap (λ (p : Place). p.epoch) two.is ∙ sym (taken_keeps (λ (p : Place). p.epoch) old new req (λ p. refl) one.before) ∙ ap (λ (p : Place). p.epoch) one.is;
      given = sym (ap (λ (p : Place). p.given) one.is) ∙ taken_keeps (λ (p : Place). p.given) old new req (λ p. refl) one.before ∙ sym (ap (λ (p : Place). p.given) two.is) ∙ given_given nav entry two.before at number;
    }

-- a navigable stood so before, where a change gave no entry
pub was_kept : (old new : History) (req : ReqId) (places : List Place) (at : NavId) (place : Place) → place_in (with_taker old new req places) at ≡ Some place → (before : Place) × (place_in places at ≡ Some before) × (before.status ≡ place.status) × (before.given ≡ place.given) × (before.epoch ≡ place.epoch)
was_kept old new req places at place there =
    let one : IsFrom (taken_from old new req) places at place = placed_from (taken_from old new req) places at place (taken_keeps (λ (p : Place). p.nav.0) old new req (λ p. refl)) there in
    (one.before, one.there, sym (taken_keeps (λ (p : Place). p.status) old new req (λ p. refl) one.before) ∙ ap (λ (p : Place). p.status) one.is, sym (taken_keeps (λ (p : Place). p.given) old new req (λ p. refl) one.before) ∙ ap (λ (p : Place). p.given) one.is, sym (taken_keeps (λ (p : Place). p.epoch) old new req (λ p. refl) one.before) ∙ ap (λ (p : Place). p.epoch) one.is)
