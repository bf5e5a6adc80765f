-- Rows that leave each awake navigable's place, and of its document what is told here, as they were.
use Rattle.std.proofs.Common.{◌≡◌, Bool, true, false, cond, ◌==◌, List, [], ◌∷◌, ◌++◌, map, Option, Some, refl, sym, ap, ◌∙◌, subst}
use Rattle.std.specs.Prelude.{find, option_map, slice_get}
use Rattle.tab_ids.specs.declared.DocId.{DocId}
use Rattle.tab_ids.specs.declared.NavId.{NavId}
use Rattle.tab_ids.specs.declared.StateId.{StateId}
use Rattle.log_model.specs.declared.row.Row.{Row}
use Rattle.log_model.specs.AfterDocuments.{on_document}
use Rattle.log_model.specs.Seen.{Seen, Document, Place, awake, place_of}
use Rattle.seen_laws.proofs.Keyed.{find_map}
use Rattle.seen_facts.specs.Hang.Members.{Has}
use Rattle.seen_facts.specs.Home.Homes.{document_in, IsAtHome, EachWake, IsHomed, IsOfState, HangsOnAwake, AreHomed}

-- ---- documents

-- of the document this stays, or it is made by now
pub record KeepsHome (d new : Document) : Type 0 where
  pub nav : new.nav ≡ d.nav
  pub state : new.state ≡ d.state
  pub ready : d.is_ready ≡ true → new.is_ready ≡ true
  pub discarded : new.is_discarded ≡ d.is_discarded
  pub known : new.is_known_dead ≡ d.is_known_dead

-- the document of a number stays so
pub record StaysIn (documents : List Document) (doc : DocId) (d : Document) : Type 0 where
  pub new : Document
  pub found : document_in documents doc ≡ Some new
  pub keeps : KeepsHome d new

-- each does
abbrev pub AllStayIn : List Document → List Document → Type 0
AllStayIn old new = (doc : DocId) (d : Document) → document_in old doc ≡ Some d → StaysIn new doc d

pub all_same : (documents : List Document) → AllStayIn documents documents
all_same documents doc d found =
    record { new = d; found = found; keeps = record { nav = refl; state = refl; ready = λ e. e; discarded = refl; known = refl } }

-- a change of each document
pub all_mapped : (g : Document → Document) (documents : List Document) → ((d : Document) → (g d).nr.0 ≡ d.nr.0) → ((d : Document) → KeepsHome d (g d)) → AllStayIn documents (map g documents)
all_mapped g documents number keeps doc d found =
    record {
      new = g d;
      found = find_map (λ (x : Document). x.nr.0) g doc.0 documents number ∙ ap (λ (o : Option Document). option_map g o) found;
      keeps = keeps d;
    }

pub all_on : (doc : DocId) (f : Document → Document) (documents : List Document) → ((d : Document) → (f d).nr.0 ≡ d.nr.0) → ((d : Document) → KeepsHome d (f d)) → AllStayIn documents (on_document doc f documents)
all_on doc f documents number keeps =
    all_mapped (λ (d : Document). cond (d.nr.0 == doc.0) (f d) d) documents (λ d. same_number d (d.nr.0 == doc.0)) (λ d. kept d (d.nr.0 == doc.0))
  where
    same_number : (d : Document) (b : Bool) → (let x : Document = cond b (f d) d in x).nr.0 ≡ d.nr.0
    same_number d true = number d
    same_number d false = refl

    kept : (d : Document) (b : Bool) → KeepsHome d (cond b (f d) d)
    kept d true = keeps d
    kept d false = record { nav = refl; state = refl; ready = λ e. e; discarded = refl; known = refl }

pub all_more : (documents : List Document) (new : Document) → AllStayIn documents (documents ++ new ∷ [])
all_more documents new doc d found =
    record { new = d; found = first documents found; keeps = record { nav = refl; state = refl; ready = λ e. e; discarded = refl; known = refl } }
  where
    first : (l : List Document) → document_in l doc ≡ Some d → document_in (l ++ new ∷ []) doc ≡ Some d
    first [] e = cc
    first (x ∷ l) e = by_test (x.nr.0 == doc.0) (first l) e
      where
        by_test : (b : Bool) → (document_in l doc ≡ Some d → document_in (l ++ new ∷ []) doc ≡ Some d) → cond b (Some x) (document_in l doc) ≡ Some d → cond b (Some x) (document_in (l ++ new ∷ []) doc) ≡ Some d
        by_test true rest e = e
        by_test false rest e = rest e

-- one change after another
pub all_both : (old mid new : List Document) → AllStayIn old mid → AllStayIn mid new → AllStayIn old new
all_both old mid new one two doc d found =
    let a = one doc d found in
    let b = two doc a.new a.found in
    record {
      new = b.new;
      found = b.found;
      keeps = record {
        nav = b.keeps.nav ∙ a.keeps.nav;
        state = b.keeps.state ∙ a.keeps.state;
        ready = λ e. b.keeps.ready (a.keeps.ready e);
        discarded = b.keeps.discarded ∙ a.keeps.discarded;
        known = b.keeps.known ∙ a.keeps.known;
      };
    }

-- ---- places

-- the place was there, as awake, and hung in the same way
pub record WasOn (s : Seen) (nav : NavId) (place : Place) : Type 0 where
  pub before : Place
  pub there : place_of s nav ≡ Some before
  pub status : before.status ≡ place.status
  pub nav_is : before.nav ≡ place.nav
  pub above : before.above ≡ place.above
  pub owners : before.owners ≡ place.owners
  pub last : before.last ≡ place.last

pub as_before : (s : Seen) (nav : NavId) (place : Place) → place_of s nav ≡ Some place → WasOn s nav place
as_before s nav place there = record { before = place; there = there; status = refl; nav_is = refl; above = refl; owners = refl; last = refl }

-- ---- homes

pub home_again : (old new : List Document) (nav : NavId) (doc : DocId) → ((d : Document) → document_in old doc ≡ Some d → StaysIn new doc d) → IsAtHome old nav doc → IsAtHome new nav doc
home_again old new nav doc stays home =
    let k = stays home.document home.found in
    record {
      document = k.new;
      found = k.found;
      nav_is = k.keeps.nav ∙ home.nav_is;
      ready = k.keeps.ready home.ready;
      undiscarded = k.keeps.discarded ∙ home.undiscarded;
      unknown = k.keeps.known ∙ home.unknown;
    }

-- the documents on which navigables are awake stay
module _ (s t : Seen) (was : (nav : NavId) (place : Place) (doc : DocId) → place_of t nav ≡ Some place → place.status ≡ awake doc → WasOn s nav place) (stays : (nav : NavId) (place : Place) (doc : DocId) → place_of t nav ≡ Some place → place.status ≡ awake doc → (d : Document) → document_in s.documents doc ≡ Some d → StaysIn t.documents doc d) where
  pub homed_again : EachWake (IsHomed s.documents) s → EachWake (IsHomed t.documents) t
  homed_again each nav place doc there wakes =
      let w = was nav place doc there wakes in
      let h = each nav w.before doc w.there (w.status ∙ wakes) in
      record {
        home = home_again s.documents t.documents place.nav doc (stays nav place doc there wakes) (subst (λ (n : NavId). IsAtHome s.documents n doc) w.nav_is h.home);
        last = sym w.last ∙ h.last;
      }

  -- the rows with a given entry were there, of the same document state
  pub state_again : EachWake (IsHomed s.documents) s → ((nav : NavId) (place : Place) (doc : DocId) → place_of t nav ≡ Some place → place.status ≡ awake doc → (row : Row) → Has t.history.rows row → row.nav ≡ place.nav → place.given ≡ Some row.entry → (d : Document) → document_in s.documents doc ≡ Some d → row.state ≡ d.state) → EachWake (IsOfState t.history.rows t.documents) t
  state_again homes each nav place doc there wakes row d has navs given found =
      let w = was nav place doc there wakes in
      let h = homes nav w.before doc w.there (w.status ∙ wakes) in
      let k = stays nav place doc there wakes h.home.document h.home.found in
      let both : Some k.new ≡ Some d = sym k.found ∙ found in
      let one : k.new ≡ d = cc in
      each nav place doc there wakes row has navs given h.home.document h.home.found ∙ sym k.keeps.state ∙ ap (λ (x : Document). x.state) one

  -- who is above an awake one stays awake on its document
  pub hung_again : ((nav : NavId) (place : Place) (doc : DocId) (parent : NavId) (others : List NavId) → place_of t nav ≡ Some place → place.status ≡ awake doc → place.above ≡ parent ∷ others → (above : Place) (on : DocId) → place_of s parent ≡ Some above → above.status ≡ awake on → (new : Place) × (place_of t parent ≡ Some new) × (new.status ≡ awake on)) → EachWake (HangsOnAwake s) s → EachWake (HangsOnAwake t) t
  hung_again parents each nav place doc there wakes parent others is =
      let w = was nav place doc there wakes in
      let h = each nav w.before doc w.there (w.status ∙ wakes) parent others (w.above ∙ is) in
      let p = parents nav place doc parent others there wakes is h.above h.doc h.there h.wakes in
      let k = stays parent p.0 h.doc p.1 p.2 h.document h.found in
      record {
        above = p.0;
        there = p.1;
        doc = h.doc;
        wakes = p.2;
        document = k.new;
        found = k.found;
        owner = ap (λ (l : List StateId). slice_get l 0) (sym w.owners) ∙ h.owner ∙ ap (λ (x : StateId). Some x) (sym k.keeps.state);
      }

-- ---- rows that leave the places

-- where the places stay, and the rows do, and the documents keep their homes
pub left_homed : (s t : Seen) → t.places ≡ s.places → t.history.rows ≡ s.history.rows → AllStayIn s.documents t.documents → AreHomed s → AreHomed t
left_homed s t places history stay homed =
    record {
      homed = homed_again s t was stays homed.homed;
      state = state_again s t was stays homed.homed given;
      hung = hung_again s t was stays above homed.hung;
    }
  where
    back : (nav : NavId) (place : Place) → place_of t nav ≡ Some place → place_of s nav ≡ Some place
    back nav place there = ap (λ (l : List Place). find (λ (p : Place). p.nav.0 == nav.0) l) (sym places) ∙ there

    was : (nav : NavId) (place : Place) (doc : DocId) → place_of t nav ≡ Some place → place.status ≡ awake doc → WasOn s nav place
    was nav place doc there wakes = as_before s nav place (back nav place there)

    stays : (nav : NavId) (place : Place) (doc : DocId) → place_of t nav ≡ Some place → place.status ≡ awake doc → (d : Document) → document_in s.documents doc ≡ Some d → StaysIn t.documents doc d
    stays nav place doc there wakes d found = stay doc d found

    given : (nav : NavId) (place : Place) (doc : DocId) → place_of t nav ≡ Some place → place.status ≡ awake doc → (row : Row) → Has t.history.rows row → row.nav ≡ place.nav → place.given ≡ Some row.entry → (d : Document) → document_in s.documents doc ≡ Some d → row.state ≡ d.state
    given nav place doc there wakes row has navs is d found =
        homed.state nav place doc (back nav place there) wakes row d (subst (λ (l : List Row). Has l row) history has) navs is found

    above : (nav : NavId) (place : Place) (doc : DocId) (parent : NavId) (others : List NavId) → place_of t nav ≡ Some place → place.status ≡ awake doc → place.above ≡ parent ∷ others → (up : Place) (on : DocId) → place_of s parent ≡ Some up → up.status ≡ awake on → (new : Place) × (place_of t parent ≡ Some new) × (new.status ≡ awake on)
    above nav place doc parent others there wakes is up on found up_wakes =
        (up, ap (λ (l : List Place). find (λ (p : Place). p.nav.0 == parent.0) l) places ∙ found, up_wakes)
