-- Forms found by their navigables, and what a longer list finds.
use Rattle.std.proofs.Common.{◌≡◌, ◌≢◌, ℕ, Bool, true, false, cond, ◌==◌, List, [], ◌∷◌, ◌++◌, map, refl, sym, ap, ◌∙◌, subst, Option, Some, None, arith}
use Rattle.std.specs.Prelude.{option_map}
use Rattle.std.proofs.lemmas.Bool.Decides.{nat_tests}
use Rattle.tab_ids.specs.declared.NavId.{NavId}
use Rattle.log_model.specs.Seen.{Place, place_in}
use Rattle.log_model.proofs.Refl.{nat_eq_refl}
use Rattle.seen_facts.specs.Hang.Forms.{Form, form_of, forms_of, form_in, AreApart, AreLinked}

pub nav_is : (one other : NavId) → (one.0 == other.0) ≡ true → one ≡ other
nav_is one other e =
    let number : one.0 ≡ other.0 = grind (arith, nat_tests, e) in
    ap (λ (n : ℕ). let nav : NavId = record { 0 = n } in nav) number

pub nav_apart : (one other : NavId) → (one.0 == other.0) ≡ false → one ≢ other
nav_apart one other e same =
    let here : (one.0 == one.0) ≡ true = nat_eq_refl one.0 in
    let there : (one.0 == one.0) ≡ false = subst (λ (n : NavId). (one.0 == n.0) ≡ false) (sym same) e in
    let no_ : true ≡ false = sym here ∙ there in cc

-- what is found is the navigable's
pub form_found : (forms : List Form) (nav : NavId) (form : Form) → form_in forms nav ≡ Some form → form.nav ≡ nav
form_found [] nav form e = cc
form_found (f ∷ forms) nav form e = by_test (f.nav.0 == nav.0) refl (form_found forms nav form) e
  where
    by_test : (b : Bool) → (f.nav.0 == nav.0) ≡ b → (form_in forms nav ≡ Some form → form.nav ≡ nav) → cond b (Some f) (form_in forms nav) ≡ Some form → form.nav ≡ nav
    by_test true t rest e = let same : f ≡ form = cc in subst (λ (x : Form). x.nav ≡ nav) same (nav_is f.nav nav t)
    by_test false t rest e = rest e

-- a form at the end of a list is found where no other is, and else the other
pub form_last : (forms : List Form) (new : Form) (nav : NavId) → form_in forms nav ≡ None → (new.nav.0 == nav.0) ≡ true → form_in (forms ++ new ∷ []) nav ≡ Some new
form_last [] new nav none is = rw is refl
form_last (f ∷ forms) new nav none is = by_test (f.nav.0 == nav.0) none (form_last forms new nav)
  where
    by_test : (b : Bool) → cond b (Some f) (form_in forms nav) ≡ None → (form_in forms nav ≡ None → (new.nav.0 == nav.0) ≡ true → form_in (forms ++ new ∷ []) nav ≡ Some new) → cond b (Some f) (form_in (forms ++ new ∷ []) nav) ≡ Some new
    by_test true e rest = cc
    by_test false e rest = rest e is

pub form_stays : (forms : List Form) (new : Form) (nav : NavId) (form : Form) → form_in forms nav ≡ Some form → form_in (forms ++ new ∷ []) nav ≡ Some form
form_stays [] new nav form e = cc
form_stays (f ∷ forms) new nav form e = by_test (f.nav.0 == nav.0) e (form_stays forms new nav form)
  where
    by_test : (b : Bool) → cond b (Some f) (form_in forms nav) ≡ Some form → (form_in forms nav ≡ Some form → form_in (forms ++ new ∷ []) nav ≡ Some form) → cond b (Some f) (form_in (forms ++ new ∷ []) nav) ≡ Some form
    by_test true e rest = e
    by_test false e rest = rest e

pub form_other : (forms : List Form) (new : Form) (nav : NavId) → (new.nav.0 == nav.0) ≡ false → form_in (forms ++ new ∷ []) nav ≡ form_in forms nav
form_other [] new nav apart = rw apart refl
form_other (f ∷ forms) new nav apart = ap (λ (o : Option Form). cond (f.nav.0 == nav.0) (Some f) o) (form_other forms new nav apart)

pub apart_more : (forms : List Form) (new : Form) → form_in forms new.nav ≡ None → AreApart forms → AreApart (forms ++ new ∷ [])
apart_more [] new none apart = (refl, tt)
apart_more (f ∷ forms) new none apart = by_test (f.nav.0 == new.nav.0) refl (λ e. apart_more forms new e apart.1) none
  where
    turned : (f.nav.0 == new.nav.0) ≡ false → (new.nav.0 == f.nav.0) ≡ false
    turned e = grind (arith, nat_tests, e)

    by_test : (b : Bool) → (f.nav.0 == new.nav.0) ≡ b → (form_in forms new.nav ≡ None → AreApart (forms ++ new ∷ [])) → cond b (Some f) (form_in forms new.nav) ≡ None → AreApart ((f ∷ forms) ++ new ∷ [])
    by_test true t rest e = cc
    by_test false t rest e = (form_other forms new f.nav (turned t) ∙ apart.0, rest e)

-- ways lead on in a longer list
pub linked_more : (forms : List Form) (new : Form) (above : List NavId) → AreLinked forms above → AreLinked (forms ++ new ∷ []) above
linked_more forms new [] linked = tt
linked_more forms new (nav ∷ above) linked =
    (record { form = linked.0.form; found = form_stays forms new nav linked.0.form linked.0.found; above_is = linked.0.above_is }, linked_more forms new above linked.1)

-- ---- of places

pub form_of_place : (places : List Place) (nav : NavId) → form_in (forms_of places) nav ≡ option_map form_of (place_in places nav)
form_of_place [] nav = refl
form_of_place (place ∷ places) nav = by_test (place.nav.0 == nav.0) (form_of_place places nav)
  where
    by_test : (b : Bool) → form_in (forms_of places) nav ≡ option_map form_of (place_in places nav) → cond b (Some (form_of place)) (form_in (forms_of places) nav) ≡ option_map form_of (cond b (Some place) (place_in places nav))
    by_test true rest = refl
    by_test false rest = rest

pub form_there : (places : List Place) (nav : NavId) (place : Place) → place_in places nav ≡ Some place → form_in (forms_of places) nav ≡ Some (form_of place)
form_there places nav place e = form_of_place places nav ∙ ap (λ (o : Option Place). option_map form_of o) e

pub record IsPlaceOf (places : List Place) (nav : NavId) (form : Form) : Type 0 where
  pub place : Place
  pub found : place_in places nav ≡ Some place
  pub is : form_of place ≡ form

pub place_there : (places : List Place) (nav : NavId) (form : Form) → form_in (forms_of places) nav ≡ Some form → IsPlaceOf places nav form
place_there places nav form e = by_case (place_in places nav) refl
  where
    by_case : (o : Option Place) → place_in places nav ≡ o → IsPlaceOf places nav form
    by_case None at = let no_ : None ≡ Some form = sym (form_of_place places nav ∙ ap (λ (o : Option Place). option_map form_of o) at) ∙ e in cc
    by_case (Some place) at =
        let both : Some (form_of place) ≡ Some form = sym (form_there places nav place at) ∙ e in
        record { place = place; found = at; is = cc }

-- a change of each place that leaves its form leaves the forms
pub forms_kept : (g : Place → Place) (places : List Place) → ((place : Place) → form_of (g place) ≡ form_of place) → forms_of (map g places) ≡ forms_of places
forms_kept g [] same = refl
forms_kept g (place ∷ places) same = ap (λ (f : Form). f ∷ forms_of (map g places)) (same place) ∙ ap (λ (l : List Form). form_of place ∷ l) (forms_kept g places same)

pub forms_joined : (places : List Place) (place : Place) → forms_of (places ++ place ∷ []) ≡ forms_of places ++ form_of place ∷ []
forms_joined [] place = refl
forms_joined (p ∷ places) place = ap (λ (l : List Form). form_of p ∷ l) (forms_joined places place)
