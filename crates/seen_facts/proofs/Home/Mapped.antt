-- Rows that change each place but not how awake it is, on which document, and how it hangs.
use Rattle.std.proofs.Common.{◌≡◌, true, false, cond, ◌==◌, List, ◌∷◌, map, Option, Some, None, refl, sym, ap, ◌∙◌}
use Rattle.std.specs.Prelude.{option_map}
use Rattle.tab_ids.specs.declared.DocId.{DocId}
use Rattle.tab_ids.specs.declared.NavId.{NavId}
use Rattle.log_model.specs.declared.row.Row.{Row}
use Rattle.log_model.specs.Seen.{Seen, Document, Place, awake, place_in, place_of}
use Rattle.seen_laws.proofs.Keyed.{find_map}
use Rattle.seen_facts.specs.Hang.Members.{Has}
use Rattle.seen_facts.specs.Home.Homes.{document_in, EachWake, IsOfState, AreHomed}
use Rattle.seen_facts.proofs.Home.Again.{StaysIn, AllStayIn, WasOn, homed_again, state_again, hung_again}

-- of the place all of this stays
pub record KeepsWake (g : Place → Place) : Type 0 where
  pub nav : (p : Place) → (g p).nav ≡ p.nav
  pub above : (p : Place) → (g p).above ≡ p.above
  pub owners : (p : Place) → (g p).owners ≡ p.owners
  pub status : (p : Place) → (g p).status ≡ p.status
  pub last : (p : Place) → (g p).last ≡ p.last

-- the place of one navigable alone is changed so
pub keeps_on : (nav : NavId) (f : Place → Place) → KeepsWake f → KeepsWake (λ (p : Place). cond (p.nav.0 == nav.0) (f p) p)
keeps_on nav f keeps =
    record {
      nav = λ p. elim (p.nav.0 == nav.0) as (λ b. (let q : Place = cond b (f p) p in q).nav ≡ p.nav) [ true ↦ keeps.nav p | false ↦ refl ];
      above = λ p. elim (p.nav.0 == nav.0) as (λ b. (let q : Place = cond b (f p) p in q).above ≡ p.above) [ true ↦ keeps.above p | false ↦ refl ];
      owners = λ p. elim (p.nav.0 == nav.0) as (λ b. (let q : Place = cond b (f p) p in q).owners ≡ p.owners) [ true ↦ keeps.owners p | false ↦ refl ];
      status = λ p. elim (p.nav.0 == nav.0) as (λ b. (let q : Place = cond b (f p) p in q).status ≡ p.status) [ true ↦ keeps.status p | false ↦ refl ];
      last = λ p. elim (p.nav.0 == nav.0) as (λ b. (let q : Place = cond b (f p) p in q).last ≡ p.last) [ true ↦ keeps.last p | false ↦ refl ];
    }

pub keeps_both : (f g : Place → Place) → KeepsWake f → KeepsWake g → KeepsWake (λ (p : Place). g (f p))
keeps_both f g one two =
    record {
      nav = λ p. two.nav (f p) ∙ one.nav p;
      above = λ p. two.above (f p) ∙ one.above p;
      owners = λ p. two.owners (f p) ∙ one.owners p;
      status = λ p. two.status (f p) ∙ one.status p;
      last = λ p. two.last (f p) ∙ one.last p;
    }

-- what was there before
pub record WasAt (s : Seen) (g : Place → Place) (nav : NavId) (place : Place) : Type 0 where
  pub before : Place
  pub there : place_of s nav ≡ Some before
  pub is : g before ≡ place

module _ (s t : Seen) (g : Place → Place) (keeps : KeepsWake g) (places : t.places ≡ map g s.places) where
  pub place_mapped : (nav : NavId) → place_of t nav ≡ option_map g (place_of s nav)
  place_mapped nav =
      ap (λ (l : List Place). place_in l nav) places ∙ find_map (λ (p : Place). p.nav.0) g nav.0 s.places (λ p. ap (λ (n : NavId). n.0) (keeps.nav p))

  pub was_at : (nav : NavId) (place : Place) → place_of t nav ≡ Some place → WasAt s g nav place
  was_at nav place there = by_old (place_of s nav) refl
    where
      by_old : (o : Option Place) → place_of s nav ≡ o → WasAt s g nav place
      by_old None e = let no_ : None ≡ Some place = sym (place_mapped nav ∙ ap (λ (o : Option Place). option_map g o) e) ∙ there in cc
      by_old (Some p) e =
          let both : Some (g p) ≡ Some place = sym (place_mapped nav ∙ ap (λ (o : Option Place). option_map g o) e) ∙ there in
          record { before = p; there = e; is = cc }

  pub was_on : (nav : NavId) (place : Place) (doc : DocId) → place_of t nav ≡ Some place → place.status ≡ awake doc → WasOn s nav place
  was_on nav place doc there wakes =
      let w = was_at nav place there in
      record {
        before = w.before;
        there = w.there;
        status = sym (keeps.status w.before) ∙ ap (λ (p : Place). p.status) w.is;
        nav_is = sym (keeps.nav w.before) ∙ ap (λ (p : Place). p.nav) w.is;
        above = sym (keeps.above w.before) ∙ ap (λ (p : Place). p.above) w.is;
        owners = sym (keeps.owners w.before) ∙ ap (λ (p : Place). p.owners) w.is;
        last = sym (keeps.last w.before) ∙ ap (λ (p : Place). p.last) w.is;
      }

  module _ (stay : AllStayIn s.documents t.documents) (homes : AreHomed s) where
    stays : (nav : NavId) (place : Place) (doc : DocId) → place_of t nav ≡ Some place → place.status ≡ awake doc → (d : Document) → document_in s.documents doc ≡ Some d → StaysIn t.documents doc d
    stays nav place doc there wakes d found = stay doc d found

    parents : (nav : NavId) (place : Place) (doc : DocId) (parent : NavId) (others : List NavId) → place_of t nav ≡ Some place → place.status ≡ awake doc → place.above ≡ parent ∷ others → (up : Place) (on : DocId) → place_of s parent ≡ Some up → up.status ≡ awake on → (new : Place) × (place_of t parent ≡ Some new) × (new.status ≡ awake on)
    parents nav place doc parent others there wakes is up on found up_wakes =
        (g up, place_mapped parent ∙ ap (λ (o : Option Place). option_map g o) found, keeps.status up ∙ up_wakes)

    -- where the rows with the given entries are told of
    pub mapped_homed : EachWake (IsOfState t.history.rows t.documents) t → AreHomed t
    mapped_homed state =
        record {
          homed = homed_again s t was_on stays homes.homed;
          state = state;
          hung = hung_again s t was_on stays parents homes.hung;
        }

    -- where nobody was given another entry, and rows were there
    pub alike_homed : ((p : Place) → (g p).given ≡ p.given) → ((row : Row) → Has t.history.rows row → Has s.history.rows row) → AreHomed t
    alike_homed given part =
        mapped_homed (state_again s t was_on stays homes.homed old)
      where
        old : (nav : NavId) (place : Place) (doc : DocId) → place_of t nav ≡ Some place → place.status ≡ awake doc → (row : Row) → Has t.history.rows row → row.nav ≡ place.nav → place.given ≡ Some row.entry → (d : Document) → document_in s.documents doc ≡ Some d → row.state ≡ d.state
        old nav place doc there wakes row has navs is d found =
            let w = was_at nav place there in
            let on : w.before.status ≡ awake doc = sym (keeps.status w.before) ∙ ap (λ (p : Place). p.status) w.is ∙ wakes in
            let entry : w.before.given ≡ Some row.entry = sym (given w.before) ∙ ap (λ (p : Place). p.given) w.is ∙ is in
            let same : row.nav ≡ w.before.nav = navs ∙ ap (λ (p : Place). p.nav) (sym w.is) ∙ keeps.nav w.before in
            homes.state nav w.before doc w.there on row d (part row has) same entry found
