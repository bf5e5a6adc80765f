-- The navigables of a tab of frames stay steady: what changes of places leave it.
use Rattle.std.proofs.Common.{◌≡◌, ℕ, ◌≤◌, Bool, true, false, cond, ◌==◌, List, map, Option, Some, None, refl, sym, ap, ◌∙◌, subst}
use Rattle.std.specs.Prelude.{is_some, option_map}
use Rattle.std.proofs.lemmas.Bool.{eqb-true}
use Rattle.tab_ids.specs.declared.DocId.{DocId}
use Rattle.tab_ids.specs.declared.EntryId.{EntryId}
use Rattle.tab_ids.specs.declared.Epoch.{Epoch}
use Rattle.tab_ids.specs.declared.NavId.{NavId}
use Rattle.tab_ids.specs.declared.ReqId.{ReqId}
use Rattle.log_model.specs.declared.job.Why.{Why}
use Rattle.log_model.specs.declared.row.Row.{Row}
use Rattle.log_model.specs.History.{has_row}
use Rattle.log_model.specs.Seen.{Seen, Place, Status, place_in, place_of}
use Rattle.seen_laws.proofs.Keyed.{find_map, find_has}
use Rattle.tab_facts.specs.FrameTab.Steady.{IsAskedBy, IsUnshownYet, IsSteady, AreSteady}
use Rattle.tab_facts.proofs.FrameTab.Goings.{AllStayAsked, asked_by_stays, mover_stays}

-- all that is read of a place here
pub record Stance : Type 0 where
  pub nav : NavId
  pub status : Status
  pub epoch : Epoch
  pub given : Option EntryId
  pub why : Why
  pub last : Option DocId
  pub is_pending : Bool
  pub is_unmet : Bool
  pub added_by : Option ReqId
  pub taken_by : Option ReqId

abbrev pub stance_of : Place → Stance
stance_of place =
    record {
      nav = place.nav;
      status = place.status;
      epoch = place.epoch;
      given = place.given;
      why = place.why;
      last = place.last;
      is_pending = place.is_pending;
      is_unmet = place.is_unmet;
      added_by = place.added_by;
      taken_by = place.taken_by;
    }

-- a place then was steady, if this one is to be
pub record WasSteady (s t : Seen) (place : Place) : Type 0 where
  pub nav : NavId
  pub before : Place
  pub there : place_of s nav ≡ Some before
  pub steady : IsSteady s before → IsSteady t place

pub steady_again : (s t : Seen) → ((nav : NavId) (place : Place) → place_of t nav ≡ Some place → WasSteady s t place) → AreSteady s → AreSteady t
steady_again s t were are nav place found =
    let w : WasSteady s t place = were nav place found in w.steady (are w.nav w.before w.there)

-- the same stance, among requests that stay, in a history in which the same navigables have rows
pub steady_alike : (s t : Seen) (before place : Place) → AllStayAsked s.requests t.requests → has_row before.nav t.history.rows ≡ has_row before.nav s.history.rows → stance_of place ≡ stance_of before → IsSteady s before → IsSteady t place
steady_alike s t before place stay rows same is =
    record {
      unlost = λ e. is.unlost (sym status ∙ e);
      unpending = ap (λ (x : Stance). x.is_pending) same ∙ is.unpending;
      met = ap (λ (x : Stance). x.is_unmet) same ∙ is.met;
      shown = λ doc e. subst (λ (n : Epoch). 1 ≤ n.0) (sym epoch) (is.shown doc (sym status ∙ e));
      gave = λ doc e. ap (λ (x : Stance). is_some x.given) same ∙ is.gave doc (sym status ∙ e);
      unshown = λ e has.
          let u : IsUnshownYet before = is.unshown (sym status ∙ e) (sym rows ∙ sym has_same ∙ has) in
          record {
            epoch = ap (λ (x : Stance). x.epoch.0) same ∙ u.epoch;
            given = ap (λ (x : Stance). x.given) same ∙ u.given;
            last = ap (λ (x : Stance). x.last) same ∙ u.last;
          };
      taken = λ none. subst (λ (by : Option ReqId). IsAskedBy t.requests by) (sym (ap (λ (x : Stance). x.taken_by) same)) (asked_by_stays s.requests t.requests before.taken_by stay (is.taken (sym rows ∙ sym has_same ∙ none)));
      moved = λ doc e high. mover_stays s t before place stay (ap (λ (x : Stance). x.why) same) (is.moved doc (sym status ∙ e) (subst (λ (n : Epoch). 2 ≤ n.0) epoch high));
      added = λ child. subst (λ (by : Option ReqId). IsAskedBy t.requests by) (sym (ap (λ (x : Stance). x.added_by) same)) (asked_by_stays s.requests t.requests before.added_by stay (is.added (λ e. child (ap (λ (x : Stance). x.nav) same ∙ e))));
    }
  where
    status : place.status ≡ before.status
    status = ap (λ (x : Stance). x.status) same

    epoch : place.epoch ≡ before.epoch
    epoch = ap (λ (x : Stance). x.epoch) same

    has_same : has_row place.nav t.history.rows ≡ has_row before.nav t.history.rows
    has_same = ap (λ (x : Stance). has_row x.nav t.history.rows) same

-- no place is changed, and no row
pub steady_left : (s t : Seen) → t.places ≡ s.places → t.history.rows ≡ s.history.rows → AllStayAsked s.requests t.requests → AreSteady s → AreSteady t
steady_left s t places rows stay are =
    steady_again s t (λ nav place found. record {
      nav = nav;
      before = place;
      there = ap (λ (l : List Place). place_in l nav) (sym places) ∙ found;
      steady = steady_alike s t place place stay (ap (λ (l : List Row). has_row place.nav l) rows) refl;
    }) are

-- a place was there, and is what a change makes of it
pub record WasPlace (s : Seen) (g : Place → Place) (nav : NavId) (place : Place) : Type 0 where
  pub before : Place
  pub there : place_of s nav ≡ Some before
  pub is : g before ≡ place

pub was_place : (s t : Seen) (g : Place → Place) → ((p : Place) → (g p).nav ≡ p.nav) → t.places ≡ map g s.places → (nav : NavId) (place : Place) → place_of t nav ≡ Some place → WasPlace s g nav place
was_place s t g same places nav place found = by_old (place_of s nav) refl
  where
    now : place_of t nav ≡ option_map g (place_of s nav)
    now = ap (λ (l : List Place). place_in l nav) places ∙ find_map (λ (p : Place). p.nav.0) g nav.0 s.places (λ p. ap (λ (n : NavId). n.0) (same p))

    by_old : (o : Option Place) → place_of s nav ≡ o → WasPlace s g nav place
    by_old None e = let no_ : None ≡ Some place = sym (now ∙ ap (λ (o : Option Place). option_map g o) e) ∙ found in cc
    by_old (Some p) e =
        let both : Some (g p) ≡ Some place = sym (now ∙ ap (λ (o : Option Place). option_map g o) e) ∙ found in
        record { before = p; there = e; is = cc }

-- each place is changed, but for its number, and stays steady
pub record KeepsSteady (s t : Seen) (g : Place → Place) : Type 0 where
  pub nav : (p : Place) → (g p).nav ≡ p.nav
  pub steady : (nav : NavId) (p : Place) → place_of s nav ≡ Some p → IsSteady s p → IsSteady t (g p)

pub steady_mapped : (s t : Seen) (g : Place → Place) → KeepsSteady s t g → t.places ≡ map g s.places → AreSteady s → AreSteady t
steady_mapped s t g keeps places are =
    steady_again s t (λ nav place found.
    let w : WasPlace s g nav place = was_place s t g keeps.nav places nav place found in
    record { nav = nav; before = w.before; there = w.there; steady = λ is. subst (λ (x : Place). IsSteady t x) w.is (keeps.steady nav w.before w.there is) }) are

-- the place of one navigable is changed
pub one_steady : (s t : Seen) (at : NavId) (f : Place → Place) → ((p : Place) → (f p).nav ≡ p.nav) → AllStayAsked s.requests t.requests → ((nav : NavId) → has_row nav t.history.rows ≡ has_row nav s.history.rows) → ((p : Place) → place_of s at ≡ Some p → IsSteady s p → IsSteady t (f p)) → KeepsSteady s t (λ (p : Place). cond (p.nav.0 == at.0) (f p) p)
one_steady s t at f nav stay rows own =
    record {
      nav = λ p. elim (p.nav.0 == at.0) as (λ b. (let x : Place = cond b (f p) p in x).nav ≡ p.nav) [ true ↦ nav p | false ↦ refl ];
      steady = by_found;
    }
  where
    by_found : (other : NavId) (p : Place) → place_of s other ≡ Some p → IsSteady s p → IsSteady t (cond (p.nav.0 == at.0) (f p) p)
    by_found other p found is = by_test (p.nav.0 == at.0) refl
      where
        itself : (p.nav.0 == at.0) ≡ true → place_of s at ≡ Some p
        itself e =
            let n : p.nav.0 ≡ other.0 = find_has (λ (x : Place). x.nav.0) other.0 s.places p found in
            let m : p.nav.0 ≡ at.0 = eqb-true p.nav.0 at.0 e in
            let same : other ≡ at = ap (λ (n : ℕ). let x : NavId = record { 0 = n } in x) (sym n ∙ m) in
            ap (λ (x : NavId). place_of s x) (sym same) ∙ found

        by_test : (b : Bool) → (p.nav.0 == at.0) ≡ b → IsSteady t (cond b (f p) p)
        by_test true e = own p (itself e) is
        by_test false e = steady_alike s t p p stay (rows p.nav) refl is
