-- A new entry that a document made is taken up: what is new, and what was there.
use Rattle.seen_facts.proofs.Coord.Applied.{WereThere}
use Rattle.seen_facts.specs.Coord.Leading.{Face, face_after}
use Rattle.tab_facts.proofs.FrameTab.Changing.{IsMadeHere}
use Rattle.tab_facts.proofs.FrameTab.Pushings.{gives}
use Rattle.tab_facts.specs.FrameTab.Numbers.{IsNumbered}
use Rattle.tab_facts.proofs.FrameWhole.Adds.{given_numbered}
use Rattle.tab_facts.proofs.FrameWhole.FlowsTaken.{ShowsFace}
use Rattle.tab_facts.proofs.FrameWhole.Taking.{has_state_of}
use Rattle.tab_facts.specs.FrameWhole.Beside.{AreEverGiven}
use Rattle.tab_facts.specs.FrameWhole.Tab.{IsTab}
use Rattle.seen_facts.proofs.Hang.Forms.{nav_is}
use Rattle.seen_facts.proofs.Hang.Members.{Passing, any_has, slice_has}
use Rattle.seen_facts.specs.Hang.Members.{Has}
use Rattle.seen_facts.specs.Home.Homes.{document_in}
use Rattle.log_model.specs.AfterPlaces.{given_entry, on_place, places_given}
use Rattle.log_model.specs.History.{has_row, has_state, is_of}
use Rattle.log_model.specs.Seen.{Asked, Document, Place, Seen, awake, document_of, place_of, request_of}
use Rattle.log_model.specs.declared.made.Made.{Made}
use Rattle.log_model.specs.declared.row.Row.{Row}
use Rattle.seen_facts.proofs.Rest.Stands.{get_of}
use Rattle.seen_laws.proofs.Keyed.{find_has}
use Rattle.std.proofs.Common.{Bool, List, Option, Some, ap, arith, cond, false, inl, inr, length, map, refl, sym, true, ℕ, ◌<◌, ◌==◌, ◌∙◌, ◌≡◌, ◌≤◌, ◌⊎◌}
use Rattle.std.proofs.lemmas.Bool.Decides.{nat_tests}
use Rattle.std.specs.Option.{option_map_or}
use Rattle.std.specs.Prelude.{option_and_then, slice_get}
use Rattle.tab_ids.specs.declared.DocId.{DocId}
use Rattle.tab_ids.specs.declared.EntryId.{EntryId}
use Rattle.tab_ids.specs.declared.NavId.{NavId}
use Rattle.tab_ids.specs.declared.ProcId.{ProcId}
use Rattle.tab_ids.specs.declared.ReqId.{ReqId}
use Rattle.std.proofs.Common.{[], ◌∷◌}

some_same : {A : Type 0} {a b : A} → (let o : Option A = Some a in o) ≡ Some b → a ≡ b
some_same e = cc

-- a row of before, or one that shows the new entry
pub record IsNewRow (d : Document) (entry : EntryId) (address : List ℕ) (memo : Option (List ℕ)) (row : Row) : Type 0 where
  pub entry_is : row.entry ≡ entry
  pub address_is : row.address ≡ address
  pub memo_is : row.memo ≡ memo
  pub state_is_its : row.state ≡ d.state

module _ (home : ProcId) (run : Option ReqId) (hand : List Made) (s t : Seen) (tab : IsTab home run hand s) (ever : AreEverGiven s) (made : Made) (d : Document) (here : IsMadeHere s made d) (entry : EntryId) (memo : Option (List ℕ)) (address : List ℕ) (maker : entry.maker ≡ made.doc.0) (later : d.last_applied < entry.nr) (rows_are : (row : Row) → Has t.history.rows row → Has s.history.rows row ⊎ IsNewRow d entry address memo row) where
  number : d.nr.0 ≡ made.doc.0
  number = find_has (λ (x : Document). x.nr.0) made.doc.0 s.documents d here.found

  -- an entry that was numbered isn't it
  pub fresh : (other : EntryId) → IsNumbered s.entries (length s.documents) s.documents other → other ≡ entry → ⊥
  fresh other numbered same =
      let low : other.nr ≤ d.last_applied = numbered.applied made.doc d here.found (ap (λ (e : EntryId). e.maker) same ∙ maker ∙ sym number) in
      let nr : other.nr ≡ entry.nr = ap (λ (e : EntryId). e.nr) same in
      omega (arith, low, nr, later)

  pub new_entry : (row : Row) → Has s.history.rows row → row.entry ≡ entry → ⊥
  new_entry row has same = fresh row.entry (tab.framed.entries.of_row row has) same

  -- so each other row with a given entry was there
  pub other_there : (nav : NavId) (place : Place) → place_of s nav ≡ Some place → WereThere s.history.rows t.history.rows place.given
  other_there nav place placed i row at given = by_case (rows_are row (slice_has t.history.rows i row at))
    where
      by_case : Has s.history.rows row ⊎ IsNewRow d entry address memo row → (j : ℕ) × (slice_get s.history.rows j ≡ Some row)
      by_case (inl old) = get_of s.history.rows row old
      by_case (inr new) = absurd (fresh row.entry (given_numbered home run hand s tab ever nav place row.entry placed given) new.entry_is)

  -- and a row with the new one shows it
  pub new_shows : (face : Face) → face_after face made ≡ record { entry = entry; address = address; memo = memo } → ShowsFace t.history.rows (face_after face made)
  new_shows face is i row at same = by_case (rows_are row (slice_has t.history.rows i row at))
    where
      entry_now : row.entry ≡ entry
      entry_now = same ∙ ap (λ (f : Face). f.entry) is

      by_case : Has s.history.rows row ⊎ IsNewRow d entry address memo row → (row.address ≡ (face_after face made).address) × (row.memo ≡ (face_after face made).memo)
      by_case (inl old) = absurd (new_entry row old entry_now)
      by_case (inr new) = (new.address_is ∙ sym (ap (λ (f : Face). f.address) is), new.memo_is ∙ sym (ap (λ (f : Face). f.memo) is))

  -- ---- the document's navigable has entries

  module _ (has : has_row d.nav s.history.rows ≡ true) where
    its : Passing (is_of d.nav) s.history.rows
    its = any_has (is_of d.nav) s.history.rows has

    its_nav : its.it.nav ≡ d.nav
    its_nav = nav_is its.it.nav d.nav its.passes

    its_state : its.it.state ≡ d.state
    its_state = (tab.framed.stated.documents made.doc d here.found).rows_ its.it its.there its_nav

    pub swept_row : (row : Row) → Has t.history.rows row → (doc : DocId) (x : Document) → document_of s doc ≡ Some x → row.state ≡ x.state → has_state x.state s.history.rows ≡ true
    swept_row row there doc x found state = by_case (rows_are row there)
      where
        by_case : Has s.history.rows row ⊎ IsNewRow d entry address memo row → has_state x.state s.history.rows ≡ true
        by_case (inl old) = has_state_of s.history.rows row x.state old state
        by_case (inr new) = has_state_of s.history.rows its.it x.state its.there (its_state ∙ sym new.state_is_its ∙ state)

    -- each document of the state is the navigable's
    pub owned_docs : (doc : DocId) (x : Document) → document_of s doc ≡ Some x → d.state ≡ x.state → d.nav ≡ x.nav
    owned_docs doc x found same = sym its_nav ∙ tab.kept.whose doc x its.it found its.there (its_state ∙ same)

  -- the rows of the state are the navigable's
  pub owned_rows : (row : Row) → Has s.history.rows row → row.state ≡ d.state → row.nav ≡ d.nav
  owned_rows row has same = tab.kept.whose made.doc d row here.found has same

  -- who is awake there is so on the document
  pub own_state : (place : Place) (doc : DocId) (x : Document) → place_of s d.nav ≡ Some place → place.status ≡ awake doc → document_in s.documents doc ≡ Some x → d.state ≡ x.state
  own_state place doc x placed wakes found =
      let same : here.place ≡ place = some_same (sym here.placed ∙ placed) in
      let docs : made.doc ≡ doc = awake_same made.doc doc (sym here.wakes ∙ ap (λ (p : Place). p.status) same ∙ wakes) in
      let one : d ≡ x = some_same (sym here.found ∙ (ap (λ (n : DocId). document_of s n) docs ∙ found)) in
      ap (λ (y : Document). y.state) one
    where
      awake_same : (a b : DocId) → awake a ≡ awake b → a ≡ b
      awake_same a b e = cc

  pub own_nav : here.place.nav ≡ d.nav
  own_nav = ap (λ (n : ℕ). let x : NavId = record { 0 = n } in x) (find_has (λ (x : Place). x.nav.0) d.nav.0 s.places here.place here.placed)

-- a change of the one document
pub by_own : {B : Type 0} (doc : DocId) (f : Document → Document) (read : Document → B) → ((x : Document) → read (f x) ≡ read x) → (x : Document) → read (let y : Document = cond (x.nr.0 == doc.0) (f x) x in y) ≡ read x
by_own doc f read same x = elim (x.nr.0 == doc.0) as (λ b. read (let y : Document = cond b (f x) x in y) ≡ read x) [ true ↦ same x | false ↦ refl ]

pub turned : (a b : ℕ) (c : Bool) → (a == b) ≡ c → (b == a) ≡ c
turned a b true e = (let n : (b == a) ≡ true = grind (arith, nat_tests, e) in n)
turned a b false e = (let n : (b == a) ≡ false = grind (arith, nat_tests, e) in n)

pub map_both : (f h : Place → Place) (xs : List Place) → map h (map f xs) ≡ map (λ (x : Place). h (f x)) xs
map_both f h [] = refl
map_both f h (x ∷ xs) = ap (λ (l : List Place). h (f x) ∷ l) (map_both f h xs)

pub given_places : (s : Seen) (req : ReqId) (q : Asked) (made : Made) (nav : NavId) (entry : EntryId) → request_of s req ≡ Some q → q.made ≡ Some made → places_given s req nav entry ≡ map (gives nav entry) s.places
given_places s req q made nav entry there makes =
    ap (λ (o : Option Made). option_map_or (λ (m : Made). on_place nav (given_entry entry) s.places) o s.places)
    (ap (λ (o : Option Asked). option_and_then (λ (x : Asked). x.made) o) there ∙ makes)
