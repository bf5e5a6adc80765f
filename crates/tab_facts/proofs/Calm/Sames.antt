-- A tab stays calm over a row that leaves the history, and of each place what is read of it here; and what the documents have to keep for the rest.
use Rattle.tab_facts.specs.Calm.Calm.{AreRooted, IsCalmAround, IsCalmBut, IsCalmYet, IsHere, IsRooted, KeepsCalm}
use Rattle.seen_facts.specs.Hang.Members.{Has}
use Rattle.log_model.specs.Equal.{holds}
use Rattle.log_model.specs.History.{History, has_nav, has_row, has_state, same_entry, target_entry}
use Rattle.log_model.specs.Orders.{is_usable}
use Rattle.log_model.specs.Places.{aim_of, is_awake, is_given_target, is_shown, way_of, way_to}
use Rattle.log_model.specs.Seen.{Document, Place, Seen, Status, awake, document_of, place_in, place_of}
use Rattle.log_model.specs.declared.row.Row.{Row}
use Rattle.seen_facts.proofs.Place.Documents.{KeepStates}
use Rattle.std.proofs.Common.{List, None, Option, Some, [], ap, false, inl, inr, refl, subst, sym, true, ℕ, ◌∙◌, ◌∷◌, ◌≡◌, ◌≤◌, ◌⊎◌}
use Rattle.std.specs.Option.{option_map_or}
use Rattle.std.specs.Prelude.{option_map}
use Rattle.tab_ids.specs.declared.DocId.{DocId}
use Rattle.tab_ids.specs.declared.EntryId.{EntryId}
use Rattle.tab_ids.specs.declared.Epoch.{Epoch}
use Rattle.tab_ids.specs.declared.NavId.{NavId}
use Rattle.tab_ids.specs.declared.StateId.{StateId}
use Rattle.seen_facts.proofs.Walk.Placed.{found_nav}

-- ---- exceptions

-- it is calm but for more
pub but_more : (s : Seen) (One Other : NavId → Type 0) → ((nav : NavId) → One nav → Other nav) → IsCalmBut One s → IsCalmBut Other s
but_more s One Other more calm =
    record {
      here = λ nav place doc placed wakes. here_more nav place (calm.here nav place doc placed wakes);
      wakes = λ nav place placed shown epoch. wakes_more nav place (calm.wakes nav place placed shown epoch);
    }
  where
    here_more : (nav : NavId) (place : Place) → One nav ⊎ IsHere s place → Other nav ⊎ IsHere s place
    here_more nav place (inl out) = inl (more nav out)
    here_more nav place (inr here) = inr here

    wakes_more : (nav : NavId) (place : Place) → One nav ⊎ (is_awake place ≡ true) → Other nav ⊎ (is_awake place ≡ true)
    wakes_more nav place (inl out) = inl (more nav out)
    wakes_more nav place (inr up) = inr up

-- those without an entry, where the history stays
pub yet_same : (s t : Seen) → t.history ≡ s.history → IsCalmBut (λ (nav : NavId). has_row nav s.history.rows ≡ false) t → IsCalmYet t
yet_same s t history =
    but_more t (λ (nav : NavId). has_row nav s.history.rows ≡ false) (λ (nav : NavId). has_row nav t.history.rows ≡ false) (λ nav none. ap (λ (h : History). has_row nav h.rows) history ∙ none)

-- those at or below a navigable, where each is below whom it was
pub way_same : (s t : Seen) → ((nav : NavId) → option_map (λ (p : Place). p.above) (place_of t nav) ≡ option_map (λ (p : Place). p.above) (place_of s nav)) → (nav : NavId) → way_to t nav ≡ way_to s nav
way_same s t ways nav = by_places (place_of t nav) refl (place_of s nav) refl (ways nav)
  where
    by_places : (o : Option Place) → place_of t nav ≡ o → (u : Option Place) → place_of s nav ≡ u → option_map (λ (p : Place). p.above) o ≡ option_map (λ (p : Place). p.above) u → way_to t nav ≡ way_to s nav
    by_places None at None was same =
        ap (λ (x : Option Place). option_map_or way_of x (nav ∷ [])) at ∙ sym (ap (λ (x : Option Place). option_map_or way_of x (nav ∷ [])) was)
    by_places None at (Some q) was same = absurd cc
    by_places (Some p) at None was same = absurd cc
    by_places (Some p) at (Some q) was same =
        let above : p.above ≡ q.above = cc in
        let navs : p.nav ≡ q.nav = found_nav t.places nav p at ∙ sym (found_nav s.places nav q was) in
        ap (λ (x : Option Place). option_map_or way_of x (nav ∷ [])) at
        ∙ ap (λ (l : List NavId). p.nav ∷ l) above
        ∙ ap (λ (n : NavId). n ∷ q.above) navs
        ∙ sym (ap (λ (x : Option Place). option_map_or way_of x (nav ∷ [])) was)

-- who is at or below the navigable, by its place
pub way_at : (s : Seen) (nav : NavId) (place : Place) → place_of s nav ≡ Some place → way_to s nav ≡ nav ∷ place.above
way_at s nav place placed =
    ap (λ (x : Option Place). option_map_or way_of x (nav ∷ [])) placed ∙ ap (λ (n : NavId). n ∷ place.above) (found_nav s.places nav place placed)

-- ---- around a navigable

-- the document is usable for the state
pub record IsUsableAt (s : Seen) (doc : DocId) (state : StateId) : Type 0 where
  pub d : Document
  pub found : document_of s doc ≡ Some d
  pub usable : is_usable d state ≡ true

-- what is read of the history stays with it
pub around_by : (s t : Seen) → t.history ≡ s.history → (at : NavId) → (calm : IsCalmAround s at) → IsCalmBut (λ (nav : NavId). has_nav (way_to t nav) at ≡ true) t → (doc : DocId) → IsUsableAt t doc calm.target.state → IsCalmAround t at
around_by s t history at calm but doc there =
    record {
      but = but;
      target = calm.target;
      to = ap (λ (h : History). target_entry h.rows at h.current) history ∙ calm.to;
      shown = ap (λ (h : History). is_shown h.rows h.current at) history ∙ calm.shown;
      doc = doc;
      document = there.d;
      found = there.found;
      usable = there.usable;
      childless = λ row has. calm.childless row (subst (λ (h : History). Has h.rows row) history has);
    }

-- ---- one row after the other

pub keeps_none : (s : Seen) → KeepsCalm s s
keeps_none s =
    record { yet = λ aim calm. calm; around = λ aim at calm. calm; rooted = λ are. are }

pub keeps_then : (s t u : Seen) → t.history ≡ s.history → aim_of t ≡ aim_of s → KeepsCalm s t → KeepsCalm t u → KeepsCalm s u
keeps_then s t u history aim one two =
    record {
      yet = λ now calm. two.yet (then_ now) (one.yet now calm);
      around = λ now at calm. two.around (then_ now) at (one.around now at calm);
      rooted = λ are. two.rooted (one.rooted are);
    }
  where
    then_ : aim_of s ≡ s.history.current → aim_of t ≡ t.history.current
    then_ now = aim ∙ now ∙ ap (λ (h : History). h.current) (sym history)

-- ---- what is read of a place

pub record Sight : Type 0 where
  pub above : List NavId
  pub status : Status
  pub epoch : Epoch
  pub given : Option EntryId

abbrev pub sight_of : Place → Sight
sight_of place =
    record { above = place.above; status = place.status; epoch = place.epoch; given = place.given }

-- of each place the same is read
abbrev pub SameSights : Seen → Seen → Type 0
SameSights s t = (nav : NavId) → option_map sight_of (place_of t nav) ≡ option_map sight_of (place_of s nav)

-- the place before
pub record WasSeen (s : Seen) (nav : NavId) (place : Place) : Type 0 where
  pub old : Place
  pub placed : place_of s nav ≡ Some old
  pub nav_is : place.nav ≡ old.nav
  pub sight_is : sight_of place ≡ sight_of old

pub was_seen : (s t : Seen) → SameSights s t → (nav : NavId) (place : Place) → place_of t nav ≡ Some place → WasSeen s nav place
was_seen s t same nav place placed = by_old (place_of s nav) refl
  where
    sights : Some (sight_of place) ≡ option_map sight_of (place_of s nav)
    sights = sym (ap (option_map sight_of) placed) ∙ same nav

    by_old : (o : Option Place) → place_of s nav ≡ o → WasSeen s nav place
    by_old None at =
        let never : Some (sight_of place) ≡ None = sights ∙ ap (option_map sight_of) at in absurd cc
    by_old (Some old) at =
        let both : Some (sight_of place) ≡ Some (sight_of old) = sights ∙ ap (option_map sight_of) at in
        record {
          old = old;
          placed = at;
          nav_is = found_nav t.places nav place placed ∙ sym (found_nav s.places nav old at);
          sight_is = cc;
        }

-- where it was given its target
pub given_same : (rows : List Row) (step : ℕ) (one other : Place) → one.nav ≡ other.nav → one.given ≡ other.given → is_given_target rows step one ≡ is_given_target rows step other
given_same rows step one other navs givens =
    ap (λ (n : NavId). holds (λ (row : Row). holds (same_entry row.entry) one.given) (target_entry rows n step)) navs
    ∙ ap (λ (o : Option EntryId). holds (λ (row : Row). holds (same_entry row.entry) o) (target_entry rows other.nav step)) givens

-- and whether its navigable is awake
pub awake_same : (one other : Place) → one.status ≡ other.status → is_awake one ≡ is_awake other
awake_same one other is = ap (λ (x : Status). let p : Place = record one { status = x } in is_awake p) is

-- a place that is read as another one is here as that one was
pub here_same : (s t : Seen) → t.history ≡ s.history → (one other : Place) → one.nav ≡ other.nav → one.given ≡ other.given → IsHere s other → IsHere t one
here_same s t history one other navs givens here =
    record {
      shown = ap (λ (h : History). is_shown h.rows h.current one.nav) history ∙ ap (λ (n : NavId). is_shown s.history.rows s.history.current n) navs ∙ here.shown;
      target = ap (λ (h : History). is_given_target h.rows h.current one) history ∙ given_same s.history.rows s.history.current one other navs givens ∙ here.target;
    }

-- one that was given the same, on a document of the same state, is rooted as that one was
pub root_same : (s t : Seen) → t.history ≡ s.history → (old place : Place) (one d : Document) → place.nav ≡ old.nav → place.given ≡ old.given → one.state ≡ d.state → IsRooted s old one → IsRooted t place d
root_same s t history old place one d navs given state (inl it) =
    inl (it.0, subst (λ (h : History). Has h.rows it.0) (sym history) it.1, it.2 ∙ sym navs, given ∙ it.3)
root_same s t history old place one d navs given state (inr it) =
    inr (it.0, subst (λ (h : History). Has h.rows it.0) (sym history) it.1, it.2 ∙ state, subst (λ (h : History). it.0.step.0 ≤ h.current) (sym history) it.3)

module _ (s t : Seen) (history : t.history ≡ s.history) (same : SameSights s t) where
  -- it stays calm
  pub calm_same : (Except : NavId → Type 0) → IsCalmBut Except s → IsCalmBut Except t
  calm_same Except calm =
      record {
        here = λ nav place doc placed wakes. here_of nav place doc (was_seen s t same nav place placed) wakes;
        wakes = λ nav place placed shown epoch. wakes_of nav place (was_seen s t same nav place placed) shown epoch;
      }
    where
      here_of : (nav : NavId) (place : Place) (doc : DocId) → WasSeen s nav place → place.status ≡ awake doc → Except nav ⊎ IsHere t place
      here_of nav place doc was wakes =
          by_case (calm.here nav was.old doc was.placed (sym (ap (λ (x : Sight). x.status) was.sight_is) ∙ wakes))
        where
          by_case : Except nav ⊎ IsHere s was.old → Except nav ⊎ IsHere t place
          by_case (inl out) = inl out
          by_case (inr here) = inr (here_same s t history place was.old was.nav_is (ap (λ (x : Sight). x.given) was.sight_is) here)

      wakes_of : (nav : NavId) (place : Place) → WasSeen s nav place → is_shown t.history.rows t.history.current place.nav ≡ true → 1 ≤ place.epoch.0 → Except nav ⊎ (is_awake place ≡ true)
      wakes_of nav place was shown epoch =
          by_case (calm.wakes nav was.old was.placed (sym (ap (λ (h : History). is_shown h.rows h.current place.nav) history ∙ ap (λ (n : NavId). is_shown s.history.rows s.history.current n) was.nav_is) ∙ shown) (subst (λ (e : Epoch). 1 ≤ e.0) (ap (λ (x : Sight). x.epoch) was.sight_is) epoch))
        where
          by_case : Except nav ⊎ (is_awake was.old ≡ true) → Except nav ⊎ (is_awake place ≡ true)
          by_case (inl out) = inl out
          by_case (inr up) =
              inr (awake_same place was.old (ap (λ (x : Sight). x.status) was.sight_is) ∙ up)

  ways_same : (nav : NavId) → option_map (λ (p : Place). p.above) (place_of t nav) ≡ option_map (λ (p : Place). p.above) (place_of s nav)
  ways_same nav =
      sight_above (place_of t nav) ∙ ap (option_map (λ (x : Sight). x.above)) (same nav) ∙ sym (sight_above (place_of s nav))
    where
      sight_above : (o : Option Place) → option_map (λ (p : Place). p.above) o ≡ option_map (λ (x : Sight). x.above) (option_map sight_of o)
      sight_above None = refl
      sight_above (Some p) = refl

  pub yet_kept : IsCalmYet s → IsCalmYet t
  yet_kept calm =
      yet_same s t history (calm_same (λ (nav : NavId). has_row nav s.history.rows ≡ false) calm)

  -- around a navigable, too, where each usable document is usable still
  pub around_kept : ((doc : DocId) (d : Document) (state : StateId) → document_of s doc ≡ Some d → is_usable d state ≡ true → IsUsableAt t doc state) → (at : NavId) → IsCalmAround s at → IsCalmAround t at
  around_kept docs at calm =
      around_by s t history at calm (but_more t (λ (nav : NavId). has_nav (way_to s nav) at ≡ true) (λ (nav : NavId). has_nav (way_to t nav) at ≡ true) (λ nav has. ap (λ (l : List NavId). has_nav l at) (way_same s t ways_same nav) ∙ has) (calm_same (λ (nav : NavId). has_nav (way_to s nav) at ≡ true) calm.but)) calm.doc (docs calm.doc calm.document calm.target.state calm.found calm.usable)

  -- who is awake is rooted still, where each document is of the state of one that was there
  pub rooted_kept : KeepStates s.documents t.documents → AreRooted s → AreRooted t
  rooted_kept states are nav place doc d placed wakes found has =
      by_old (was_seen s t same nav place placed) (document_of s doc) refl (sym (states doc) ∙ ap (option_map (λ (x : Document). x.state)) found)
    where
      by_old : (was : WasSeen s nav place) (o : Option Document) → document_of s doc ≡ o → option_map (λ (x : Document). x.state) o ≡ Some d.state → IsRooted t place d
      by_old was None at is = absurd cc
      by_old was (Some old) at is =
          let state : old.state ≡ d.state = cc in
          root_same s t history was.old place old d was.nav_is (ap (λ (x : Sight). x.given) was.sight_is) state (are nav was.old doc old was.placed (sym (ap (λ (x : Sight). x.status) was.sight_is) ∙ wakes) at (ap (λ (x : StateId). has_state x s.history.rows) state ∙ sym (ap (λ (h : History). has_state d.state h.rows) history) ∙ has))

  -- all of it
  pub keeps_same : KeepStates s.documents t.documents → ((doc : DocId) (d : Document) (state : StateId) → document_of s doc ≡ Some d → is_usable d state ≡ true → IsUsableAt t doc state) → KeepsCalm s t
  keeps_same states docs =
      record { yet = λ now. yet_kept; around = λ now. around_kept docs; rooted = rooted_kept states }

-- where the places stay, the same is read of each
pub sights_same : (s t : Seen) → t.places ≡ s.places → SameSights s t
sights_same s t same nav = ap (λ (l : List Place). option_map sight_of (place_in l nav)) same

-- so a row that leaves history and places leaves the tab as calm as it was
pub places_calm : (s t : Seen) → t.history ≡ s.history → t.places ≡ s.places → (Except : NavId → Type 0) → IsCalmBut Except s → IsCalmBut Except t
places_calm s t history places = calm_same s t history (sights_same s t places)

-- and one that leaves the documents' states, too, leaves who is awake rooted
pub places_rooted : (s t : Seen) → t.history ≡ s.history → t.places ≡ s.places → KeepStates s.documents t.documents → AreRooted s → AreRooted t
places_rooted s t history places = rooted_kept s t history (sights_same s t places)
