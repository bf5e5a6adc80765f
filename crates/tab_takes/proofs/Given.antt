-- Places after a navigable was given an entry, where others may have lost their last ones; and documents, of which one made the entry.
use Rattle.seen_facts.specs.Home.Homes.{document_in}
use Rattle.log_model.specs.AfterDocuments.{on_document}
use Rattle.log_model.specs.AfterPlaces.{given_entry, on_place, with_taker}
use Rattle.log_model.specs.History.{History, has_nav, has_row}
use Rattle.log_model.specs.Orders.{is_usable}
use Rattle.log_model.specs.Seen.{Document, Place, Seen, document_of, place_in, place_of}
use Rattle.seen_laws.proofs.Keyed.{find_map}
use Rattle.std.proofs.Common.{Bool, List, None, Option, Some, ap, cond, false, map, not, refl, sym, true, ◌&&◌, ◌==◌, ◌||◌, ◌∙◌, ◌∷◌, ◌≡◌, []}
use Rattle.std.specs.List.{list_any}
use Rattle.std.specs.Prelude.{is_some, option_map}
use Rattle.tab_ids.specs.declared.DocId.{DocId}
use Rattle.tab_ids.specs.declared.EntryId.{EntryId}
use Rattle.tab_ids.specs.declared.NavId.{NavId}
use Rattle.tab_ids.specs.declared.ReqId.{ReqId}
use Rattle.tab_ids.specs.declared.StateId.{StateId}
use Rattle.tab_rests.proofs.PassedOn.{ParentsShown}

-- ---- places

module _ (s n : Seen) (new : History) (req : ReqId) (nav : NavId) (entry : EntryId) (places : n.places ≡ with_taker s.history new req (on_place nav (given_entry entry) s.places)) where
  abbrev giver : Place → Place
  giver place = cond (place.nav.0 == nav.0) (given_entry entry place) place

  abbrev taker : Place → Place
  taker place =
      cond (has_row place.nav s.history.rows && not (has_row place.nav new.rows)) (record place { taken_by = Some req }) place

  abbrev pub become : Place → Place
  become place = taker (giver place)

  -- what isn't which entry was given, nor who took entries, is as it was
  pub become_same : {B : Type 0} (read : Place → B) → ((place : Place) → read (record place { taken_by = Some req }) ≡ read place) → ((place : Place) → read (given_entry entry place) ≡ read place) → (place : Place) → read (become place) ≡ read place
  become_same {B} read blind given place =
      by_taker (giver place) (has_row (giver place).nav s.history.rows && not (has_row (giver place).nav new.rows)) ∙ by_giver (place.nav.0 == nav.0)
    where
      by_taker : (x : Place) (b : Bool) → read (let y : Place = cond b (record x { taken_by = Some req }) x in y) ≡ read x
      by_taker x true = blind x
      by_taker x false = refl

      by_giver : (b : Bool) → read (let y : Place = cond b (given_entry entry place) place in y) ≡ read place
      by_giver true = given place
      by_giver false = refl

  become_nav : (place : Place) → (become place).nav.0 ≡ place.nav.0
  become_nav = become_same (λ (x : Place). x.nav.0) (λ x. refl) (λ x. refl)

  giver_nav : (place : Place) → (giver place).nav.0 ≡ place.nav.0
  giver_nav place = by_giver (place.nav.0 == nav.0)
    where
      by_giver : (b : Bool) → (let y : Place = cond b (given_entry entry place) place in y).nav.0 ≡ place.nav.0
      by_giver true = refl
      by_giver false = refl

  taker_nav : (place : Place) → (taker place).nav.0 ≡ place.nav.0
  taker_nav place = by_taker (has_row place.nav s.history.rows && not (has_row place.nav new.rows))
    where
      by_taker : (b : Bool) → (let y : Place = cond b (record place { taken_by = Some req }) place in y).nav.0 ≡ place.nav.0
      by_taker true = refl
      by_taker false = refl

  pub place_then : (m : NavId) → place_of n m ≡ option_map become (place_of s m)
  place_then m =
      ap (λ (l : List Place). place_in l m) places
      ∙ find_map (λ (x : Place). x.nav.0) taker m.0 (on_place nav (given_entry entry) s.places) taker_nav
      ∙ ap (option_map taker) (find_map (λ (x : Place). x.nav.0) giver m.0 s.places giver_nav)
      ∙ twice (place_of s m)
    where
      twice : (o : Option Place) → option_map taker (option_map giver o) ≡ option_map become o
      twice None = refl
      twice (Some x) = refl

  -- the place before
  pub record WasAt (m : NavId) (place : Place) : Type 0 where
    pub old : Place
    pub there : place_of s m ≡ Some old
    pub is : become old ≡ place

  pub was_at : (m : NavId) (place : Place) → place_of n m ≡ Some place → WasAt m place
  was_at m place at = by_old (place_of s m) refl
    where
      by_old : (o : Option Place) → place_of s m ≡ o → WasAt m place
      by_old None none =
          let never : None ≡ Some place = sym (place_then m ∙ ap (option_map become) none) ∙ at in absurd cc
      by_old (Some old) there =
          let two : Some (become old) ≡ Some place = sym (place_then m ∙ ap (option_map become) there) ∙ at in
          record { old = old; there = there; is = (let one : become old ≡ place = cc in one) }

  pub read_at : {B : Type 0} (read : Place → B) → ((place : Place) → read (record place { taken_by = Some req }) ≡ read place) → ((place : Place) → read (given_entry entry place) ≡ read place) → (m : NavId) (place : Place) (was : WasAt m place) → read was.old ≡ read place
  read_at read blind given m place was = sym (become_same read blind given was.old) ∙ ap read was.is

  -- which entry was given
  pub given_at : (m : NavId) (place : Place) (was : WasAt m place) → place.given ≡ cond (was.old.nav.0 == nav.0) (Some entry) was.old.given
  given_at m place was =
      ap (λ (x : Place). x.given) (sym was.is)
      ∙ by_taker (giver was.old) (has_row (giver was.old).nav s.history.rows && not (has_row (giver was.old).nav new.rows))
      ∙ by_giver (was.old.nav.0 == nav.0)
    where
      by_taker : (x : Place) (b : Bool) → (let y : Place = cond b (record x { taken_by = Some req }) x in y).given ≡ x.given
      by_taker x true = refl
      by_taker x false = refl

      by_giver : (b : Bool) → (let y : Place = cond b (given_entry entry was.old) was.old in y).given ≡ cond b (Some entry) was.old.given
      by_giver true = refl
      by_giver false = refl

  -- who took the last entries
  pub record WasTaken (old : Place) : Type 0 where
    pub had : has_row old.nav s.history.rows ≡ true
    pub lost : has_row old.nav new.rows ≡ false

  pub parents_then : ParentsShown s → ParentsShown n
  parents_then shown m above place up placed has there =
      let was = was_at m place placed in
      let was_up = was_at above up there in
      ap (λ (o : Option DocId). is_some o) (sym (read_at (λ (x : Place). x.last) (λ x. refl) (λ x. refl) above up was_up))
      ∙ shown m above was.old was_up.old was.there (ap (λ (l : List NavId). has_nav l above) (read_at (λ (x : Place). x.above) (λ x. refl) (λ x. refl) m place was) ∙ has) was_up.there

-- ---- documents

module _ (s n : Seen) (doc : DocId) (h : Document → Document) (number : (d : Document) → (h d).nr ≡ d.nr) (documents : n.documents ≡ on_document doc h s.documents) where
  abbrev pub turn : Document → Document
  turn d = cond (d.nr.0 == doc.0) (h d) d

  pub turn_same : {B : Type 0} (read : Document → B) → ((d : Document) → read (h d) ≡ read d) → (d : Document) → read (turn d) ≡ read d
  turn_same {B} read same d = by_own (d.nr.0 == doc.0)
    where
      by_own : (b : Bool) → read (let x : Document = cond b (h d) d in x) ≡ read d
      by_own true = same d
      by_own false = refl

  pub document_then : (other : DocId) → document_of n other ≡ option_map turn (document_of s other)
  document_then other =
      ap (λ (l : List Document). document_in l other) documents
      ∙ find_map (λ (x : Document). x.nr.0) turn other.0 s.documents (turn_same (λ (x : Document). x.nr.0) (λ x. ap (λ (y : DocId). y.0) (number x)))

  pub record WasDoc (other : DocId) (d : Document) : Type 0 where
    pub old : Document
    pub there : document_of s other ≡ Some old
    pub is : turn old ≡ d

  pub was_doc : (other : DocId) (d : Document) → document_of n other ≡ Some d → WasDoc other d
  was_doc other d at = by_old (document_of s other) refl
    where
      by_old : (o : Option Document) → document_of s other ≡ o → WasDoc other d
      by_old None none =
          let never : None ≡ Some d = sym (document_then other ∙ ap (option_map turn) none) ∙ at in absurd cc
      by_old (Some old) there =
          let two : Some (turn old) ≡ Some d = sym (document_then other ∙ ap (option_map turn) there) ∙ at in
          record { old = old; there = there; is = (let one : turn old ≡ d = cc in one) }

  pub read_doc : {B : Type 0} (read : Document → B) → ((d : Document) → read (h d) ≡ read d) → (other : DocId) (d : Document) (was : WasDoc other d) → read was.old ≡ read d
  read_doc read same other d was = sym (turn_same read same was.old) ∙ ap read was.is

  -- which are usable is as it was
  pub usable_then : ((state : StateId) (d : Document) → is_usable (h d) state ≡ is_usable d state) → (state : StateId) → list_any (λ (d : Document). is_usable d state) n.documents ≡ list_any (λ (d : Document). is_usable d state) s.documents
  usable_then same state =
      ap (λ (l : List Document). list_any (λ (d : Document). is_usable d state) l) documents ∙ each s.documents
    where
      each : (l : List Document) → list_any (λ (d : Document). is_usable d state) (map (λ (d : Document). (let x : Document = cond (d.nr.0 == doc.0) (h d) d in x)) l) ≡ list_any (λ (d : Document). is_usable d state) l
      each [] = refl
      each (d ∷ l) = ap (λ (b : Bool). b || list_any (λ (x : Document). is_usable x state) (map (λ (x : Document). (let y : Document = cond (x.nr.0 == doc.0) (h x) x in y)) l)) (turn_same (λ (x : Document). is_usable x state) (same state) d) ∙ ap (λ (b : Bool). is_usable d state || b) (each l)
