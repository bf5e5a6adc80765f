-- Where each navigable stands, over each applied change but a reload and an added frame.
use Rattle.std.proofs.Common.{◌≡◌, ◌⊎◌, inl, inr, ℕ, ◌+◌, ◌≤◌, Bool, true, false, cond, not, ◌==◌, List, map, Option, Some, None, refl, sym, ap, ◌∙◌, subst}
use Rattle.std.specs.Prelude.{filter, nat_le, option_and_then}
use Rattle.std.specs.Option.{option_map_or}
use Rattle.tab_ids.specs.declared.DocId.{DocId}
use Rattle.tab_ids.specs.declared.EntryId.{EntryId}
use Rattle.tab_ids.specs.declared.NavId.{NavId}
use Rattle.tab_ids.specs.declared.ReqId.{ReqId}
use Rattle.tab_ids.specs.declared.StateId.{StateId}
use Rattle.tab_ids.specs.declared.Step.{Step}
use Rattle.log_model.specs.declared.change.Change.{Change}
use Rattle.log_model.specs.declared.change.Change.TheVariants as changes
use Rattle.log_model.specs.declared.made.Made.{Made}
use Rattle.log_model.specs.declared.row.Row.{Row}
use Rattle.log_model.specs.declared.row_kind.Actor.{Actor}
use Rattle.log_model.specs.AfterPlaces.{given_entry, on_place, places_given}
use Rattle.log_model.specs.History.{applied, cleared, has_row, is_of, owner_of, replaced_row, same_entry}
use Rattle.log_model.specs.Seen.{Seen, Asked, Document, Place, document_of, place_in, place_of, request_of}
use Rattle.seen_facts.specs.Hang.Members.{Has}
use Rattle.seen_facts.proofs.Hang.Forms.{nav_apart, nav_is}
use Rattle.seen_facts.proofs.Hang.Members.{IsOf, has_filter, has_map, has_more, has_tidied}
use Rattle.seen_facts.proofs.Home.Changed.{taker}
use Rattle.seen_facts.proofs.Mover.Places.{was_there}
use Rattle.seen_facts.proofs.Walk.Placed.{found_nav}
use Rattle.seen_facts.specs.Place.Standing.{AreStanding}
use Rattle.seen_facts.proofs.Place.Applying.{IsReady, IsTakerThere, IsThere, applied_standing, applied_then, ready_before, ready_given}

-- the navigable wasn't given the entry
abbrev pub IsUngiven : Seen → NavId → EntryId → Type 0
IsUngiven s nav entry = (place : Place) → place_of s nav ≡ Some place → place.given ≡ Some entry → ⊥

-- the request is there, and no document made something of it: its change gives nobody the entry
pub record IsUnmade (s : Seen) (req : ReqId) : Type 0 where
  pub q : Asked
  pub found : request_of s req ≡ Some q
  pub unmade : q.made ≡ None

-- a document made something of the request: its navigable, which was shown a document, is given the entry, of the document state of the document that it was shown last
pub record IsToGive (s : Seen) (req : ReqId) (nav : NavId) (entry : EntryId) (state : StateId) : Type 0 where
  pub q : Asked
  pub found : request_of s req ≡ Some q
  pub made : Made
  pub makes : q.made ≡ Some made
  pub place : Place
  pub placed : place_of s nav ≡ Some place
  pub later : 1 ≤ place.epoch.0
  pub of_last : (doc : DocId) (d : Document) → place.last ≡ Some doc → document_of s doc ≡ Some d → state ≡ d.state
  -- and so is each of its rows with that entry
  pub of_state : (row : Row) → Has s.history.rows row → row.nav ≡ nav → row.entry ≡ entry → row.state ≡ state

-- ---- what the history has then

-- a row that was there, or the new one
abbrev pub IsOldOrNew : List Row → NavId → EntryId → StateId → Row → Type 0
IsOldOrNew rows nav entry state row = Has rows row ⊎ ((row.nav ≡ nav) × (row.entry ≡ entry) × (row.state ≡ state))

is_new : (rows : List Row) (put row : Row) → put ≡ row → IsOldOrNew rows put.nav put.entry put.state row
is_new rows put row same = inr (ap (λ (r : Row). r.nav) (sym same), ap (λ (r : Row). r.entry) (sym same), ap (λ (r : Row). r.state) (sym same))

-- after a push
pub pushed_rows : (s : Seen) (nav : NavId) (entry : EntryId) (state : StateId) (address : List ℕ) (memo : Option (List ℕ)) (row : Row) → Has (applied s.history (changes.Push nav entry state address memo)).rows row → IsOldOrNew s.history.rows nav entry state row
pushed_rows s nav entry state address memo row has = by_case (has_more (cleared s.history) put row has)
  where
    put : Row
    put = record { owner = owner_of nav (cleared s.history); nav = nav; entry = entry; step = record { 0 = s.history.current + 1 }; state = state; address = address; memo = memo }

    by_case : Has (cleared s.history) row ⊎ (put ≡ row) → IsOldOrNew s.history.rows nav entry state row
    by_case (inl kept) =
        inl (has_filter (λ (r : Row). nat_le r.step.0 s.history.current) s.history.rows row (has_tidied (filter (λ (r : Row). nat_le r.step.0 s.history.current) s.history.rows) row kept).0).0
    by_case (inr same) = is_new s.history.rows put row same

-- after a replace
pub replaced_rows : (s : Seen) (nav : NavId) (over entry : EntryId) (state : StateId) (address : List ℕ) (memo : Option (List ℕ)) (row : Row) → Has (applied s.history (changes.Replace nav over entry state address memo)).rows row → IsOldOrNew s.history.rows nav entry state row
replaced_rows s nav over entry state address memo row has =
    by_tests w.it w.there w.is (same_entry w.it.entry over) (is_of nav w.it) refl refl
  where
    put : Row
    put = record { owner = None; nav = nav; entry = entry; step = record { 0 = 0 }; state = state; address = address; memo = memo }

    w : IsOf (replaced_row over put) s.history.rows row
    w = has_map (replaced_row over put) s.history.rows row (has_tidied (map (replaced_row over put) s.history.rows) row has).0

    by_tests : (x : Row) → Has s.history.rows x → replaced_row over put x ≡ row → (b c : Bool) → same_entry x.entry over ≡ b → is_of nav x ≡ c → IsOldOrNew s.history.rows nav entry state row
    by_tests x there is true true e f =
        let v : replaced_row over put x ≡ record put { owner = x.owner; step = x.step } = rw (e, f) refl in
        is_new s.history.rows (record put { owner = x.owner; step = x.step }) row (sym v ∙ is)
    by_tests x there is true false e f =
        let v : replaced_row over put x ≡ x = rw (e, f) refl in inl (subst (λ (r : Row). Has s.history.rows r) (sym v ∙ is) there)
    by_tests x there is false c e f =
        let v : replaced_row over put x ≡ x = rw e refl in inl (subst (λ (r : Row). Has s.history.rows r) (sym v ∙ is) there)

module _ (s : Seen) (event : ℕ) (actor : Actor) (are : AreStanding s) (req : ReqId) where
  abbrev then_ : Change → Seen
  then_ change = applied_then s event actor req change

  -- ---- changes that bring no row

  parts_standing : (change : Change) → (then_ change).places ≡ map (taker s.history (applied s.history change) req) s.places → IsTakerThere s event actor req change → ((row : Row) → Has (applied s.history change).rows row → Has s.history.rows row) → AreStanding (then_ change)
  parts_standing change places takes part =
      applied_standing s event actor req change s.places places takes (λ nav place there. ready_before s event actor req change place (are nav place there) (λ row has navs given. part row has))

  none_loses : (b : Bool) → b ≡ true → b ≡ false → IsThere s req
  none_loses b had gone = let no_ : true ≡ false = sym had ∙ gone in absurd cc

  -- a traversal's change leaves the rows, so nobody loses its last entries
  pub traversed_standing : (goal : Step) → AreStanding (then_ (changes.Traverse goal))
  traversed_standing goal =
      parts_standing (changes.Traverse goal) refl (λ nav had gone. none_loses (has_row nav s.history.rows) had gone) (λ row has. has)

  -- so does an edit
  pub edited_standing : AreStanding (then_ changes.Edit)
  edited_standing =
      parts_standing changes.Edit refl (λ nav had gone. none_loses (has_row nav s.history.rows) had gone) (λ row has. has)

  -- the request that removes a frame is there
  pub removed_standing : (nav : NavId) → IsThere s req → AreStanding (then_ (changes.RemoveFrame nav))
  removed_standing nav there =
      parts_standing (changes.RemoveFrame nav) refl (λ n had gone. there) (λ row has. (has_filter (λ (r : Row). not (is_of nav r)) s.history.rows row (has_tidied (filter (λ (r : Row). not (is_of nav r)) s.history.rows) row has).0).0)

  -- ---- an entry that nobody is given

  unmade_standing : (change : Change) (nav : NavId) (entry : EntryId) (state : StateId) → (then_ change).places ≡ map (taker s.history (applied s.history change) req) (places_given s req nav entry) → ((row : Row) → Has (applied s.history change).rows row → IsOldOrNew s.history.rows nav entry state row) → IsUnmade s req → IsUngiven s nav entry → AreStanding (then_ change)
  unmade_standing change nav entry state places old_or_new is ungiven =
      applied_standing s event actor req change s.places (places ∙ ap (map (taker s.history (applied s.history change) req)) nobody) (λ n had gone. record { q = is.q; found = is.found }) (λ n place there. ready_before s event actor req change place (are n place there) (λ row has navs given. by_row n place there row navs given (old_or_new row has)))
    where
      nobody : places_given s req nav entry ≡ s.places
      nobody =
          ap (λ (o : Option Made). option_map_or (λ (m : Made). on_place nav (given_entry entry) s.places) o s.places)
          (ap (λ (o : Option Asked). option_and_then (λ (x : Asked). x.made) o) is.found ∙ is.unmade)

      by_row : (n : NavId) (place : Place) → place_of s n ≡ Some place → (row : Row) → row.nav ≡ place.nav → place.given ≡ Some row.entry → IsOldOrNew s.history.rows nav entry state row → Has s.history.rows row
      by_row n place there row navs given (inl has) = has
      by_row n place there row navs given (inr new) =
          let own : n ≡ nav = sym (found_nav s.places n place there) ∙ sym navs ∙ new.0 in
          absurd (ungiven place (ap (place_of s) (sym own) ∙ there) (given ∙ ap (λ (e : EntryId). Some e) new.1))

  -- a load's push
  pub load_push_standing : (nav : NavId) (entry : EntryId) (state : StateId) (address : List ℕ) (memo : Option (List ℕ)) → IsUnmade s req → IsUngiven s nav entry → AreStanding (then_ (changes.Push nav entry state address memo))
  load_push_standing nav entry state address memo is ungiven =
      unmade_standing (changes.Push nav entry state address memo) nav entry state refl (pushed_rows s nav entry state address memo) is ungiven

  -- a load's replace
  pub load_replace_standing : (nav : NavId) (over entry : EntryId) (state : StateId) (address : List ℕ) (memo : Option (List ℕ)) → IsUnmade s req → IsUngiven s nav entry → AreStanding (then_ (changes.Replace nav over entry state address memo))
  load_replace_standing nav over entry state address memo is ungiven =
      unmade_standing (changes.Replace nav over entry state address memo) nav entry state refl (replaced_rows s nav over entry state address memo) is ungiven

  -- ---- an entry that its navigable is given

  given_standing : (change : Change) (nav : NavId) (entry : EntryId) (state : StateId) → (then_ change).places ≡ map (taker s.history (applied s.history change) req) (places_given s req nav entry) → ((row : Row) → Has (applied s.history change).rows row → IsOldOrNew s.history.rows nav entry state row) → IsToGive s req nav entry state → AreStanding (then_ change)
  given_standing change nav entry state places old_or_new to =
      applied_standing s event actor req change (map give s.places) (places ∙ ap (map (taker s.history (applied s.history change) req)) given_are) (λ n had gone. record { q = to.q; found = to.found }) ready
    where
      give : Place → Place
      give p = cond (p.nav.0 == nav.0) (given_entry entry p) p

      given_are : places_given s req nav entry ≡ map give s.places
      given_are =
          ap (λ (o : Option Made). option_map_or (λ (m : Made). on_place nav (given_entry entry) s.places) o s.places)
          (ap (λ (o : Option Asked). option_and_then (λ (x : Asked). x.made) o) to.found ∙ to.makes)

      give_nav : (p : Place) → (give p).nav ≡ p.nav
      give_nav p = elim (p.nav.0 == nav.0) as (λ b. (let q : Place = cond b (given_entry entry p) p in q).nav ≡ p.nav) [ true ↦ refl | false ↦ refl ]

      its_own : IsReady s (then_ change) (given_entry entry to.place)
      its_own =
          ready_given s event actor req change entry to.place (are nav to.place to.placed) to.later (λ doc d row last found has navs is. of_row row (old_or_new row has) (navs ∙ found_nav s.places nav to.place to.placed) is ∙ to.of_last doc d last found)
        where
          of_row : (row : Row) → IsOldOrNew s.history.rows nav entry state row → row.nav ≡ nav → row.entry ≡ entry → row.state ≡ state
          of_row row (inl has) navs is = to.of_state row has navs is
          of_row row (inr new) navs is = new.2

      ready : (n : NavId) (place : Place) → place_in (map give s.places) n ≡ Some place → IsReady s (then_ change) place
      ready n place there =
          let w = was_there give s.places give_nav n place there in by_nav w.before w.found (w.before.nav.0 == nav.0) refl w.is
        where
          by_nav : (p : Place) → place_of s n ≡ Some p → (b : Bool) → (p.nav.0 == nav.0) ≡ b → give p ≡ place → IsReady s (then_ change) place
          by_nav p found true e is =
              let own : n ≡ nav = sym (found_nav s.places n p found) ∙ nav_is p.nav nav e in
              let both : Some to.place ≡ Some p = sym to.placed ∙ ap (place_of s) (sym own) ∙ found in
              let one : to.place ≡ p = cc in
              let value : given_entry entry to.place ≡ place = ap (given_entry entry) one ∙ sym (ap (λ (b : Bool). let q : Place = cond b (given_entry entry p) p in q) e) ∙ is in
              subst (λ (q : Place). IsReady s (then_ change) q) value its_own
          by_nav p found false e is =
              let value : p ≡ place = sym (ap (λ (b : Bool). let q : Place = cond b (given_entry entry p) p in q) e) ∙ is in
              subst (λ (q : Place). IsReady s (then_ change) q) value (ready_before s event actor req change p (are n p found) (λ row has navs given. by_row row navs (old_or_new row has)))
            where
              by_row : (row : Row) → row.nav ≡ p.nav → IsOldOrNew s.history.rows nav entry state row → Has s.history.rows row
              by_row row navs (inl has) = has
              by_row row navs (inr new) =
                  let same : p.nav ≡ nav = sym navs ∙ new.0 in absurd (nav_apart p.nav nav e same)

  -- a push of what a document made
  pub given_push_standing : (nav : NavId) (entry : EntryId) (state : StateId) (address : List ℕ) (memo : Option (List ℕ)) → IsToGive s req nav entry state → AreStanding (then_ (changes.Push nav entry state address memo))
  given_push_standing nav entry state address memo to =
      given_standing (changes.Push nav entry state address memo) nav entry state refl (pushed_rows s nav entry state address memo) to

  -- a replace of what a document made
  pub given_replace_standing : (nav : NavId) (over entry : EntryId) (state : StateId) (address : List ℕ) (memo : Option (List ℕ)) → IsToGive s req nav entry state → AreStanding (then_ (changes.Replace nav over entry state address memo))
  given_replace_standing nav over entry state address memo to =
      given_standing (changes.Replace nav over entry state address memo) nav entry state refl (replaced_rows s nav over entry state address memo) to
