-- Where nothing is in transit, no load is ongoing; and each awake navigable is shown at the current step, and awake on its target there, with the pair that is due.
use Rattle.std.proofs.Common.{◌≡◌, ◌⊎◌, inl, inr, ℕ, zero, suc, ◌+◌, ◌-◌, ◌≤◌, Bool, true, false, cond, not, ◌&&◌, ◌||◌, ◌==◌, List, [], ◌∷◌, length, Option, Some, None, refl, sym, ap, ◌∙◌, subst, arith}
use Rattle.std.specs.Prelude.{option_and_then}
use Rattle.std.specs.List.{list_all, list_any}
use Rattle.std.proofs.lemmas.Bool.{and_parts, and_from, eqb-true}
use Rattle.tab_ids.specs.declared.DocId.{DocId}
use Rattle.tab_ids.specs.declared.EntryId.{EntryId}
use Rattle.tab_ids.specs.declared.NavId.{NavId}
use Rattle.tab_ids.specs.declared.ReqId.{ReqId}
use Rattle.tab_ids.specs.declared.StateId.{StateId}
use Rattle.log_model.specs.declared.row.Row.{Row}
use Rattle.log_model.specs.Equal.{holds, same_pair}
use Rattle.log_model.specs.ActsAtOnce.{ends_told, is_told, is_ready_load, has_document}
use Rattle.log_model.specs.History.{has_state, same_entry, target_entry, owner_of}
use Rattle.log_model.specs.Logs.{is_still}
use Rattle.log_model.specs.Orders.{is_being_made, is_usable}
use Rattle.log_model.specs.Places.{is_ongoing_load, holder_of, targets_state, way_up, is_shown_within, is_shown, is_lost, is_lost_in, has_lost_document, way_of, is_given_target, has_arrived, is_standing, is_wanted, pair_at, due_pair}
use Rattle.log_model.specs.Seen.{Seen, Document, Asked, Place, Status, awake, lost, asleep, document_of, place_of, request_in}
use Rattle.log_model.proofs.Refl.{nat_eq_refl}
use Rattle.seen_facts.specs.Coord.OnItsWay.{stands_in}
use Rattle.seen_facts.specs.Hang.AsPlaces.{IsHung, IsChain}
use Rattle.seen_facts.specs.Hang.Forms.{forms_of, form_of, form_in}
use Rattle.seen_facts.specs.Hang.Members.{Has}
use Rattle.seen_facts.proofs.Hang.Depths.{depth}
use Rattle.seen_facts.proofs.Hang.Hung.{hangs_as, is_hung, own_form, place_chain}
use Rattle.seen_facts.proofs.Hang.Members.{find_has, any_has, has_any}
use Rattle.seen_facts.proofs.Hang.Parts.{state_is}
use Rattle.seen_facts.proofs.Hang.Targets.{IsTarget, target_has}
use Rattle.seen_facts.specs.Home.Homes.{IsHomed, IsOnAwake}
use Rattle.seen_facts.proofs.Walk.Placed.{found_nav}
use Rattle.seen_facts.proofs.Walk.Upwards.{one_more}
use Rattle.seen_facts.specs.Rest.Between.{IsOfLoad, HasLoadDocument, IsComposedWithLoads}
use Rattle.seen_facts.proofs.Rest.Still.{none_making}
use Rattle.seen_facts.proofs.Rest.Stands.{request_has, none_runs, stand_now, none_ready}

pub all_has : {A : Type 0} (test : A → Bool) (xs : List A) → list_all test xs ≡ true → (x : A) → Has xs x → test x ≡ true
all_has test [] all x there = absurd there
all_has test (y ∷ xs) all x (inl same) = subst (λ z. test z ≡ true) same (and_parts (test y) (list_all test xs) all).0
all_has test (y ∷ xs) all x (inr more) = all_has test xs (and_parts (test y) (list_all test xs) all).1 x more

-- a row with the entry is the one that was given
given_is : (entry : EntryId) (given : Option EntryId) → holds (same_entry entry) given ≡ true → given ≡ Some entry
given_is entry None e = let no_ : false ≡ true = e in cc
given_is entry (Some other) e =
    let parts = and_parts (entry.maker == other.maker) (entry.nr == other.nr) e in
    let maker : entry.maker ≡ other.maker = eqb-true entry.maker other.maker parts.0 in
    let nr : entry.nr ≡ other.nr = eqb-true entry.nr other.nr parts.1 in
    let same : other ≡ entry = rw (maker, nr) refl in
    ap (λ (x : EntryId). Some x) same

pair_is : (due : ℕ × ℕ) (told : Option (ℕ × ℕ)) → holds (same_pair due) told ≡ true → told ≡ Some due
pair_is due None e = let no_ : false ≡ true = e in cc
pair_is due (Some pair) e =
    let parts = and_parts (due.0 == pair.0) (due.1 == pair.1) e in
    let one : due.0 ≡ pair.0 = eqb-true due.0 pair.0 parts.0 in
    let two : due.1 ≡ pair.1 = eqb-true due.1 pair.1 parts.1 in
    let same : pair ≡ due = rw (one, two) refl in
    ap (λ (x : ℕ × ℕ). Some x) same

-- a place stands on this row of its navigable
pub record IsSeated (rows : List Row) (step : ℕ) (place : Place) : Type 0 where
  pub doc : DocId
  pub wakes : place.status ≡ awake doc
  pub row : Row
  pub target : target_entry rows place.nav step ≡ Some row
  pub given : place.given ≡ Some row.entry

seated : (rows : List Row) (step : ℕ) (place : Place) → (place.status ≡ lost → ⊥) → is_standing rows step place ≡ true → IsSeated rows step place
seated rows step place unlost stands =
    let two = and_parts (is_given_target rows step place && not place.is_unmet) (has_arrived place) stands in
    let one = and_parts (is_given_target rows step place) (not place.is_unmet) two.0 in
    by_target (target_entry rows place.nav step) refl one.0 two.1
  where
    by_target : (o : Option Row) → target_entry rows place.nav step ≡ o → holds (λ (row : Row). holds (same_entry row.entry) place.given) o ≡ true → has_arrived place ≡ true → IsSeated rows step place
    by_target None e given arrived = let no_ : false ≡ true = given in cc
    by_target (Some row) e given arrived = by_status place.status refl
      where
        by_status : (st : Status) → place.status ≡ st → IsSeated rows step place
        by_status (awake doc) is = record { doc = doc; wakes = is; row = row; target = e; given = given_is row.entry place.given given }
        by_status lost is = absurd (unlost is)
        by_status asleep is = let no_ : false ≡ true = (let h = arrived in rw is at h) in cc

-- more ways do no harm
more_ways : (k n m : ℕ) (rows : List Row) (step : ℕ) (nav : NavId) → k + n ≡ m → is_shown_within n rows step (Some nav) ≡ true → is_shown_within m rows step (Some nav) ≡ true
more_ways zero n m rows step nav long e =
    let same : n ≡ m = omega (arith, long) in
    subst (λ (l : ℕ). is_shown_within l rows step (Some nav) ≡ true) same e
more_ways (suc k) n m rows step nav long e =
    let one : k + suc n ≡ m = omega (arith, long) in
    more_ways k (suc n) m rows step nav one (one_more n rows step (Some nav) e)

shown_in : (n m : ℕ) (rows : List Row) (step : ℕ) (nav : NavId) → n ≤ m → is_shown_within n rows step (Some nav) ≡ true → is_shown_within m rows step (Some nav) ≡ true
shown_in n m rows step nav low e = (let long : (m - n) + n ≡ m = omega (arith, low) in more_ways (m - n) n m rows step nav long e)

-- the way up from a navigable on a document state of its parent's target
leads_up : (rows : List Row) (step : ℕ) (nav parent : NavId) (owner : StateId) (target : Row) → owner_of nav rows ≡ Some owner → holder_of owner rows ≡ Some parent → target_entry rows parent step ≡ Some target → target.state ≡ owner → way_up rows step nav ≡ Some parent
leads_up rows step nav parent owner target owned held at state =
    let targets : targets_state rows step parent owner ≡ true = rw at (subst (λ (x : StateId). (target.state.0 == x.0) ≡ true) state (nat_eq_refl target.state.0)) in
    rw owned (rw held (rw targets refl))

module _ (s : Seen) (is : IsComposedWithLoads s) (still : is_still s ≡ true) where
  abbrev now : ℕ
  now = s.history.current

  -- ---- no load is ongoing

  module _ (req : ReqId) (q : Asked) (at : request_in s.requests req ≡ Some q) (going : is_ongoing_load q ≡ true) where
    load : HasLoadDocument s q
    load = is.plain.loading req q at going

    unready : is_ready_load s q ≡ false
    unready =
        let not_ready : not (is_ready_load s q) ≡ true = all_has (λ (x : Asked). not (is_ready_load s x)) s.requests (none_ready s is still) q (request_has s.requests req q at) in
        by_test (is_ready_load s q) not_ready
      where
        by_test : (b : Bool) → not b ≡ true → b ≡ false
        by_test true e = cc
        by_test false e = refl

    -- with a usable document it would be ready
    ready : is_usable load.d load.state ≡ true → is_ready_load s q ≡ true
    ready usable =
        let there = (find_has (λ (d : Document). d.nr.0 == load.doc.0) s.documents load.d load.found).0 in
        let any : list_any (λ (d : Document). is_usable d load.state) s.documents ≡ true = has_any (λ (d : Document). is_usable d load.state) s.documents load.d there usable in
        let has : has_document s q ≡ true = ap (λ (o : Option StateId). holds (λ (state : StateId). list_any (λ (d : Document). is_usable d state) s.documents) o) load.own ∙ any in
        and_from (is_ongoing_load q) (has_document s q) going has

    never : (is_usable load.d load.state ≡ true) ⊎ (is_being_made load.d ≡ true) → ⊥
    never (inl usable) = (let no_ : true ≡ false = sym (ready usable) ∙ unready in cc)
    never (inr making) = none_making s is still load.doc load.d load.found making

    pub none_ongoing : ⊥
    none_ongoing = never load.there

  -- so a document that is made and not discarded is of a state with entries
  pub has_entries : (doc : DocId) (d : Document) → document_of s doc ≡ Some d → d.is_ready ≡ true → d.is_discarded ≡ false → has_state d.state s.history.rows ≡ true
  has_entries doc d found ready there = by_state (is.plain.swept doc d found ready there)
    where
      by_state : (has_state d.state s.history.rows ≡ true) ⊎ IsOfLoad s d → has_state d.state s.history.rows ≡ true
      by_state (inl has) = has
      by_state (inr load) = absurd (none_ongoing load.req load.q load.found load.ongoing)

  -- ---- nothing is lost

  none_known_lost : (above : List NavId) → list_any (is_lost_in s.places) above ≡ false
  none_known_lost [] = refl
  none_known_lost (nav ∷ above) = by_place (place_of s nav) refl (none_known_lost above)
    where
      by_place : (o : Option Place) → place_of s nav ≡ o → list_any (is_lost_in s.places) above ≡ false → (is_lost_in s.places nav || list_any (is_lost_in s.places) above) ≡ false
      by_place None e rest = rw e rest
      by_place (Some place) e rest = by_status place.status refl
        where
          by_status : (st : Status) → place.status ≡ st → (is_lost_in s.places nav || list_any (is_lost_in s.places) above) ≡ false
          by_status (awake doc) st = rw e (rw st rest)
          by_status lost st = absurd (is.plain.unlost nav place e st)
          by_status asleep st = rw e (rw st rest)

  kept_document : (nav : NavId) → has_lost_document s nav ≡ false
  kept_document nav = by_place (place_of s nav) refl
    where
      neither : (a : Bool) → (a && false) ≡ false
      neither true = refl
      neither false = refl

      by_place : (o : Option Place) → place_of s nav ≡ o → has_lost_document s nav ≡ false
      by_place None e = rw e refl
      by_place (Some place) e = by_last place.last refl
        where
          by_last : (o : Option DocId) → place.last ≡ o → has_lost_document s nav ≡ false
          by_last None l = rw e (rw l (neither (not place.is_pending)))
          by_last (Some doc) l = by_document (document_of s doc) refl
            where
              by_document : (o : Option Document) → document_of s doc ≡ o → has_lost_document s nav ≡ false
              by_document None f = rw e (rw l (rw f (neither (not place.is_pending))))
              by_document (Some d) f = rw e (rw l (rw f (rw (is.plain.alive doc d f) (neither (not place.is_pending)))))

  none_lost : (navs : List NavId) → list_any (has_lost_document s) navs ≡ false
  none_lost [] = refl
  none_lost (nav ∷ navs) = rw (kept_document nav) (none_lost navs)

  pub unlost : (place : Place) → is_lost s place ≡ false
  unlost place = none_lost (way_of place)

  -- ---- who is shown is seated

  abbrev stands_if_wanted : Place → Bool
  stands_if_wanted p = cond (is_wanted s.history.rows s.places now p) (stands_in s.history.rows s.places now p) true

  pub sits : (nav : NavId) (place : Place) → place_of s nav ≡ Some place → is_shown s.history.rows now place.nav ≡ true → IsSeated s.history.rows now place
  sits nav place found shown = seated s.history.rows now place (is.plain.unlost nav place found) standing
    where
      own : place_of s place.nav ≡ Some place
      own = ap (λ (n : NavId). place_of s n) (found_nav s.places nav place found) ∙ found

      wanted : is_wanted s.history.rows s.places now place ≡ true
      wanted = and_from (is_shown s.history.rows now place.nav) (not (list_any (is_lost_in s.places) place.above)) shown (ap not (none_known_lost place.above))

      mine : stands_if_wanted place ≡ true
      mine = all_has stands_if_wanted s.places (stand_now s is still) place (find_has (λ (p : Place). p.nav.0 == nav.0) s.places place found).0

      standing : is_standing s.history.rows now place ≡ true
      standing =
          sym (ap (λ (o : Option Place). holds (is_standing s.history.rows now) o) own)
          ∙ sym (ap (λ (b : Bool). cond b (stands_in s.history.rows s.places now place) true) wanted)
          ∙ mine

  -- ---- who is awake is shown

  -- its document is of a state with entries
  record HasRow (place : Place) : Type 0 where
    row : Row
    there : Has s.history.rows row
    nav_is : row.nav ≡ place.nav

  has_row : (nav : NavId) (place : Place) (doc : DocId) → place_of s nav ≡ Some place → place.status ≡ awake doc → HasRow place
  has_row nav place doc found wakes =
      let h : IsHomed s.documents place doc = is.homes.homed nav place doc found wakes in
      let swept : has_state h.home.document.state s.history.rows ≡ true = has_entries doc h.home.document h.home.found h.home.ready h.home.undiscarded in
      let a = any_has (λ (row : Row). row.state.0 == h.home.document.state.0) s.history.rows swept in
      record { row = a.it; there = a.there; nav_is = is.kept.whose doc h.home.document a.it h.home.found a.there (state_is a.it.state h.home.document.state a.passes) ∙ h.home.nav_is }

  not_deeper : (nav : NavId) (place : Place) → place_of s nav ≡ Some place → HasRow place → length place.above ≤ length s.history.rows
  not_deeper nav place found its =
      depth s.history (forms_of s.places) is.sound is.hangs.woven is.hangs.rows its.row (form_of place) its.there (ap (λ (n : NavId). form_in (forms_of s.places) n) its.nav_is ∙ own_form s is.sound is.hangs nav place found)

  shown_within : (above : List NavId) (nav : NavId) (place : Place) (doc : DocId) → place_of s nav ≡ Some place → place.status ≡ awake doc → place.above ≡ above → is_shown_within (length above) s.history.rows now (Some place.nav) ≡ true
  shown_within [] nav place doc found wakes none =
      let top : place.nav.0 ≡ 0 = (hangs_as s is.sound is.hangs nav place found).top none in
      rw top refl
  shown_within (parent ∷ others) nav place doc found wakes below =
      let on : IsOnAwake s place parent = is.homes.hung nav place doc found wakes parent others below in
      let chain : IsChain s.places (parent ∷ others) = subst (λ (l : List NavId). IsChain s.places l) below (place_chain s is.sound is.hangs nav place found) in
      let ones : Some chain.0.place ≡ Some on.above = sym chain.0.found ∙ on.there in
      let one : chain.0.place ≡ on.above = cc in
      let rest : on.above.above ≡ others = sym (ap (λ (p : Place). p.above) one) ∙ chain.0.above_is in
      let shown : is_shown_within (length others) s.history.rows now (Some on.above.nav) ≡ true = shown_within others parent on.above on.doc on.there on.wakes rest in
      let depth_ : length on.above.above ≤ length s.history.rows = not_deeper parent on.above on.there (has_row parent on.above on.doc on.there on.wakes) in
      let low : length others ≤ length s.history.rows = subst (λ (l : List NavId). length l ≤ length s.history.rows) rest depth_ in
      let seat : IsSeated s.history.rows now on.above = sits parent on.above on.there (shown_in (length others) (length s.history.rows) s.history.rows now on.above.nav low shown) in
      let target : IsTarget s.history.rows on.above.nav now seat.row = target_has s.history.rows on.above.nav now seat.row seat.target in
      let state : seat.row.state ≡ on.document.state = is.homes.state parent on.above on.doc on.there on.wakes seat.row on.document target.there target.nav_is seat.given on.found in
      let mine : HasRow place = has_row nav place doc found wakes in
      let hung : IsHung s.history.rows place parent = is_hung s is.sound is.hangs nav place found mine.row mine.there mine.nav_is parent others below in
      let owners : Some on.document.state ≡ Some hung.owner = sym on.owner ∙ hung.first in
      let owner : on.document.state ≡ hung.owner = cc in
      let parents : on.above.nav ≡ parent = found_nav s.places parent on.above on.there in
      let up : way_up s.history.rows now place.nav ≡ Some parent = leads_up s.history.rows now place.nav parent hung.owner seat.row hung.owner_is hung.holder_is (sym (ap (λ (n : NavId). target_entry s.history.rows n now) parents) ∙ seat.target) (state ∙ owner) in
      let above_shown : is_shown_within (length others) s.history.rows now (Some parent) ≡ true = subst (λ (n : NavId). is_shown_within (length others) s.history.rows now (Some n) ≡ true) parents shown in
      either (place.nav.0 == 0) (ap (λ (o : Option NavId). is_shown_within (length others) s.history.rows now o) up ∙ above_shown)
    where
      either : (a : Bool) {b : Bool} → b ≡ true → (a || b) ≡ true
      either true e = refl
      either false e = e

  pub awake_shown : (nav : NavId) (place : Place) (doc : DocId) → place_of s nav ≡ Some place → place.status ≡ awake doc → is_shown s.history.rows now place.nav ≡ true
  awake_shown nav place doc found wakes =
      shown_in (length place.above) (length s.history.rows) s.history.rows now place.nav (not_deeper nav place found (has_row nav place doc found wakes)) (shown_within place.above nav place doc found wakes refl)

  -- ---- and told

  due_now : (nav : NavId) → due_pair s nav ≡ pair_at s now
  due_now nav = rw (none_runs s is still) refl

  told_all : list_all (is_told s) s.places ≡ true
  unfolding ends_told
  told_all = is.told

  pub told_now : (nav : NavId) (place : Place) (doc : DocId) (d : Document) → place_of s nav ≡ Some place → place.status ≡ awake doc → document_of s doc ≡ Some d → d.told ≡ Some (pair_at s now)
  told_now nav place doc d found wakes its =
      let mine : is_told s place ≡ true = all_has (is_told s) s.places told_all place (find_has (λ (p : Place). p.nav.0 == nav.0) s.places place found).0 in
      let woken : holds (same_pair (due_pair s place.nav)) (option_and_then (λ (x : DocId). option_and_then (λ (y : Document). y.told) (document_of s x)) (Some doc)) ≡ true = (let h = mine in rw wakes at h) in
      let due : holds (same_pair (due_pair s place.nav)) d.told ≡ true = subst (λ (o : Option Document). holds (same_pair (due_pair s place.nav)) (option_and_then (λ (y : Document). y.told) o) ≡ true) its woken in
      pair_is (due_pair s place.nav) d.told due ∙ ap (λ (pair : ℕ × ℕ). Some pair) (due_now place.nav)
