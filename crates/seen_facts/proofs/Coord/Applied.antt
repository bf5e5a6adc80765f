-- A change is applied of which no document made anything that is shown: what is true between two rows of the documents of all awake navigables stays. So it is where a frame is added or removed, and where a load is applied.
use Rattle.std.proofs.Common.{◌≡◌, ◌⊎◌, inl, inr, ℕ, ◌≤◌, Bool, true, false, cond, ◌==◌, List, [], ◌∷◌, ◌++◌, Option, Some, None, refl, sym, ap, ◌∙◌, subst, arith}
use Rattle.std.specs.Prelude.{map, find, slice_get, option_and_then}
use Rattle.std.specs.Option.{option_map_or}
use Rattle.tab_ids.specs.declared.DocId.{DocId}
use Rattle.tab_ids.specs.declared.EntryId.{EntryId}
use Rattle.tab_ids.specs.declared.Epoch.{Epoch}
use Rattle.tab_ids.specs.declared.NavId.{NavId}
use Rattle.tab_ids.specs.declared.ReqId.{ReqId}
use Rattle.tab_ids.specs.declared.StateId.{StateId}
use Rattle.log_model.specs.declared.change.Change.{Change}
use Rattle.log_model.specs.declared.change.Change.TheVariants as changes
use Rattle.log_model.specs.declared.made.Made.{Made}
use Rattle.log_model.specs.declared.row.Row.{Row}
use Rattle.log_model.specs.declared.row_kind.Actor.{Actor}
use Rattle.log_model.specs.declared.row_kind.RowKind.TheVariants as rows
use Rattle.log_model.specs.History.{History, applied}
use Rattle.log_model.specs.Places.{holder_of}
use Rattle.log_model.specs.Seen.{Seen, Document, Desk, Asked, Place, awake, asleep, document_of, desk_of, place_of, place_in, request_of}
use Rattle.log_model.specs.After.{after}
use Rattle.log_model.specs.AfterDocuments.{told_after_change, applied_to}
use Rattle.log_model.specs.AfterPlaces.{new_place, places_added, places_applied, with_taker}
use Rattle.seen_facts.specs.Coord.Leading.{held_back, Leads, EachAwake, EachLeads}
use Rattle.seen_facts.specs.Coord.Reaching.{Reaches}
use Rattle.seen_facts.specs.Coord.Epochs.{IsWithin}
use Rattle.seen_facts.specs.Coord.Flowing.{Flows}
use Rattle.seen_facts.proofs.Coord.Leadings.{WasAwake}
use Rattle.seen_facts.proofs.Coord.Given.{was_kept}
use Rattle.seen_facts.proofs.Coord.EachDocuments.{HadEpoch}
use Rattle.seen_facts.proofs.Coord.Within.{within_more}
use Rattle.seen_facts.proofs.Coord.Whose.{whose_same}

-- the rows that show the given entry were there before
abbrev pub WereThere : List Row → List Row → Option EntryId → Type 0
WereThere old new given =
    (i : ℕ) (row : Row) → slice_get new i ≡ Some row → given ≡ Some row.entry → (j : ℕ) × (slice_get old j ≡ Some row)

leads_over : (old new : List Row) (held : List Made) (desk : Desk) (d : Document) (given : Option EntryId) (epoch : Epoch) → WereThere old new given → Leads old held desk d given epoch → Leads new held desk d given epoch
leads_over old new held desk d given epoch were is =
    record {
      face = is.face;
      is_given = is.is_given;
      is_row = λ i row there same. (let before = were i row there (sym is.is_given ∙ ap (λ (e : EntryId). let o : Option EntryId = Some e in o) (sym same)) in is.is_row before.0 row before.1 same);
      view = is.view;
      pending = is.pending;
      leads = is.leads;
      runs = is.runs;
      in_epoch = is.in_epoch;
      pair = is.pair;
    }

-- no document is changed, each awake navigable was so before, the rows with its given entry were there, and no navigable of a document fell back
pub record IsOfNone (s next : Seen) : Type 0 where
  pub desks : next.desks ≡ s.desks
  pub documents : next.documents ≡ s.documents
  pub awakes : (nav : NavId) (place : Place) (doc : DocId) → place_of next nav ≡ Some place → place.status ≡ awake doc → WasAwake s nav place
  pub had : (doc : DocId) (d : Document) (place : Place) → document_of s doc ≡ Some d → place_of next d.nav ≡ Some place → HadEpoch s d.nav place
  pub were : (nav : NavId) (place : Place) (doc : DocId) → place_of s nav ≡ Some place → place.status ≡ awake doc → WereThere s.history.rows next.history.rows place.given
  pub held : held_back next.requests next.parked ≡ held_back s.requests s.parked

module _ (s next : Seen) (is : IsOfNone s next) where
  desk_same : (d : Document) → desk_of next d.proc ≡ desk_of s d.proc
  desk_same d = ap (λ (desks : List Desk). desk_of (record s { desks = desks }) d.proc) is.desks

  was_there : (doc : DocId) (d : Document) → document_of next doc ≡ Some d → document_of s doc ≡ Some d
  was_there doc d found = ap (λ (l : List Document). find (λ (x : Document). x.nr.0 == doc.0) l) (sym is.documents) ∙ found

  none_stays : (F : Desk → Document → Option EntryId → Epoch → Type 0) → EachAwake F s → EachAwake F next
  none_stays F each nav place doc d placed wakes found =
      let was : WasAwake s nav place = is.awakes nav place doc placed wakes in
      subst (λ (desk : Desk). F desk d place.given place.epoch) (sym (desk_same d))
      (subst (λ (given : Option EntryId). F (desk_of s d.proc) d given place.epoch) was.given
      (subst (λ (epoch : Epoch). F (desk_of s d.proc) d was.before.given epoch) was.epoch (each nav was.before doc d was.there (was.status ∙ wakes) (was_there doc d found))))

  pub none_flows : Flows s → Flows next
  none_flows flows =
      record {
        leads = led;
        whose = whose_same s next is.documents (λ nav place doc placed wakes. (let was : WasAwake s nav place = is.awakes nav place doc placed wakes in record { before = was.before; there = was.there; status = was.status })) flows.whose;
        reaches = none_stays (λ desk x given epoch. Reaches desk x epoch) flows.reaches;
        within = λ doc d place found placed. (let was : HadEpoch s d.nav place = is.had doc d place (was_there doc d found) placed in subst (λ (l : List Made). IsWithin l (desk_of next d.proc) d place.epoch.0) (sym is.held) (subst (λ (desk : Desk). IsWithin (held_back s.requests s.parked) desk d place.epoch.0) (sym (desk_same d)) (within_more (held_back s.requests s.parked) (desk_of s d.proc) d was.before.epoch.0 place.epoch.0 was.rises (flows.within doc d was.before (was_there doc d found) was.there))));
      }
    where
      LeadsOver : Desk → Document → Option EntryId → Epoch → Type 0
      LeadsOver = Leads next.history.rows (held_back s.requests s.parked)

      led_before : EachAwake LeadsOver s
      led_before nav place doc d placed wakes found =
          leads_over s.history.rows next.history.rows (held_back s.requests s.parked) (desk_of s d.proc) d place.given place.epoch (is.were nav place doc placed wakes) (flows.leads nav place doc d placed wakes found)

      led : EachLeads next
      led nav place doc d placed wakes found =
          subst (λ (l : List Made). Leads next.history.rows l (desk_of next d.proc) d place.given place.epoch) (sym is.held) (none_stays LeadsOver led_before nav place doc d placed wakes found)

-- ---- no navigable is given an entry

map_same : (documents : List Document) → map (λ (d : Document). d) documents ≡ documents
map_same [] = refl
map_same (d ∷ documents) = ap (λ (l : List Document). d ∷ l) (map_same documents)

-- who stood so in places that a taker was noted in did before
kept_awake : (s : Seen) (new : History) (req : ReqId) (nav : NavId) (place : Place) → place_in (with_taker s.history new req s.places) nav ≡ Some place → WasAwake s nav place
kept_awake s new req nav place placed =
    let was = was_kept s.history new req s.places nav place placed in
    record { before = was.0; there = was.1; status = was.2; given = was.3; epoch = was.4 }

-- a change that changes no document and gives no navigable an entry
module _ (s : Seen) (event : ℕ) (actor : Actor) (req : ReqId) (c : Change) (documents : map (λ (d : Document). applied_to c (told_after_change d c)) s.documents ≡ s.documents) (places : places_applied s req c ≡ with_taker s.history (applied s.history c) req s.places) where
  abbrev pub after_plain : Seen
  after_plain = after s (record { event = event; actor = actor; row = rows.Applied req c })

  stood : (of : NavId) (place : Place) → place_of after_plain of ≡ Some place → WasAwake s of place
  stood of place placed =
      kept_awake s (applied s.history c) req of place (ap (λ (l : List Place). place_in l of) (sym places) ∙ placed)

  pub plain_flows : ((of : NavId) (place : Place) (doc : DocId) → place_of s of ≡ Some place → place.status ≡ awake doc → WereThere s.history.rows after_plain.history.rows place.given) → held_back after_plain.requests after_plain.parked ≡ held_back s.requests s.parked → Flows s → Flows after_plain
  plain_flows were held flows =
      none_flows s after_plain
      (record {
        desks = refl;
        documents = documents;
        awakes = λ of place doc placed wakes. stood of place placed;
        had = λ doc d place found placed. (let was : WasAwake s d.nav place = stood d.nav place placed in record { before = was.before; there = was.there; rises = subst (λ (k : Epoch). was.before.epoch.0 ≤ k.0) was.epoch (omega arith) });
        were = were;
        held = held;
      })
      flows

-- ---- a frame is removed

module _ (s : Seen) (event : ℕ) (actor : Actor) (req : ReqId) (nav : NavId) where
  abbrev pub after_removal : Seen
  after_removal =
      after s (record { event = event; actor = actor; row = rows.Applied req (changes.RemoveFrame nav) })

  pub removal_flows : ((of : NavId) (place : Place) (doc : DocId) → place_of s of ≡ Some place → place.status ≡ awake doc → WereThere s.history.rows after_removal.history.rows place.given) → held_back after_removal.requests after_removal.parked ≡ held_back s.requests s.parked → Flows s → Flows after_removal
  removal_flows were held flows =
      plain_flows s event actor req (changes.RemoveFrame nav) (map_same s.documents) refl were held flows

-- ---- a frame is added

-- what is found where one joined a list was found before, or is that one
find_either : {A : Type 0} (test : A → Bool) (xs : List A) (y x : A) → find test (xs ++ y ∷ []) ≡ Some x → (find test xs ≡ Some x) ⊎ (y ≡ x)
find_either {A} test [] y x found = by_test (test y) found
  where
    by_test : (b : Bool) → (let o : Option A = cond b (Some y) None in o) ≡ Some x → (let o : Option A = None in o ≡ Some x) ⊎ (y ≡ x)
    by_test true e = inr (let same : y ≡ x = cc in same)
    by_test false e = absurd cc
find_either {A} test (first ∷ xs) y x found = by_test (test first) (λ e. find_either test xs y x e) found
  where
    by_test : (b : Bool) → (find test (xs ++ y ∷ []) ≡ Some x → (find test xs ≡ Some x) ⊎ (y ≡ x)) → (let o : Option A = cond b (Some first) (find test (xs ++ y ∷ [])) in o) ≡ Some x → ((let o : Option A = cond b (Some first) (find test xs) in o) ≡ Some x) ⊎ (y ≡ x)
    by_test true more e = inl e
    by_test false more e = more e

-- what was found still is
find_still : {A : Type 0} (test : A → Bool) (xs : List A) (y x : A) → find test xs ≡ Some x → find test (xs ++ y ∷ []) ≡ Some x
find_still {A} test [] y x found = absurd cc
find_still {A} test (first ∷ xs) y x found = by_test (test first) (λ e. find_still test xs y x e) found
  where
    by_test : (b : Bool) → (find test xs ≡ Some x → find test (xs ++ y ∷ []) ≡ Some x) → (let o : Option A = cond b (Some first) (find test xs) in o) ≡ Some x → (let o : Option A = cond b (Some first) (find test (xs ++ y ∷ [])) in o) ≡ Some x
    by_test true more e = e
    by_test false more e = more e

module _ (s : Seen) (event : ℕ) (actor : Actor) (req : ReqId) (owner : StateId) (nav : NavId) (entry : EntryId) (state : StateId) where
  abbrev frame : Change
  frame = changes.AddFrame owner nav entry state

  abbrev pub after_adding : Seen
  after_adding = after s (record { event = event; actor = actor; row = rows.Applied req frame })

  -- no place was added, or one that sleeps
  places_are : (places_added s req owner nav ≡ s.places) ⊎ ((parent : Place) × (places_added s req owner nav ≡ s.places ++ new_place req nav owner parent ∷ []))
  places_are = by_parent (option_and_then (place_of s) (holder_of owner s.history.rows)) refl
    where
      by_parent : (o : Option Place) → option_and_then (place_of s) (holder_of owner s.history.rows) ≡ o → (places_added s req owner nav ≡ s.places) ⊎ ((parent : Place) × (places_added s req owner nav ≡ s.places ++ new_place req nav owner parent ∷ []))
      by_parent None e =
          inl (ap (λ (o : Option Place). option_map_or (λ (parent : Place). s.places ++ new_place req nav owner parent ∷ []) o s.places) e)
      by_parent (Some parent) e =
          inr (parent, ap (λ (o : Option Place). option_map_or (λ (parent : Place). s.places ++ new_place req nav owner parent ∷ []) o s.places) e)

  -- who is awake then was there before
  awake_before : (of : NavId) (place : Place) (doc : DocId) → place_in (places_added s req owner nav) of ≡ Some place → place.status ≡ awake doc → place_of s of ≡ Some place
  awake_before of place doc found wakes = by_places places_are
    where
      by_either : (parent : Place) → (place_of s of ≡ Some place) ⊎ (new_place req nav owner parent ≡ place) → place_of s of ≡ Some place
      by_either parent (inl was) = was
      by_either parent (inr same) =
          let no_ : asleep ≡ awake doc = ap (λ (p : Place). p.status) same ∙ wakes in absurd cc

      by_places : (places_added s req owner nav ≡ s.places) ⊎ ((parent : Place) × (places_added s req owner nav ≡ s.places ++ new_place req nav owner parent ∷ [])) → place_of s of ≡ Some place
      by_places (inl same) = ap (λ (l : List Place). place_in l of) (sym same) ∙ found
      by_places (inr added) =
          by_either added.0 (find_either (λ (p : Place). p.nav.0 == of.0) s.places (new_place req nav owner added.0) place (ap (λ (l : List Place). place_in l of) (sym added.1) ∙ found))

  -- who was there stays
  still_placed : (of : NavId) (before : Place) → place_of s of ≡ Some before → place_in (places_added s req owner nav) of ≡ Some before
  still_placed of before there = by_places places_are
    where
      by_places : (places_added s req owner nav ≡ s.places) ⊎ ((parent : Place) × (places_added s req owner nav ≡ s.places ++ new_place req nav owner parent ∷ [])) → place_in (places_added s req owner nav) of ≡ Some before
      by_places (inl same) = ap (λ (l : List Place). place_in l of) same ∙ there
      by_places (inr added) =
          ap (λ (l : List Place). place_in l of) added.1
          ∙ find_still (λ (p : Place). p.nav.0 == of.0) s.places (new_place req nav owner added.0) before there

  kept : (of : NavId) (place : Place) → place_of after_adding of ≡ Some place → (before : Place) × (place_in (places_added s req owner nav) of ≡ Some before) × (before.status ≡ place.status) × (before.given ≡ place.given) × (before.epoch ≡ place.epoch)
  kept of place placed =
      was_kept s.history (applied s.history frame) req (places_added s req owner nav) of place placed

  -- each document is of a navigable that was added
  pub adding_flows : ((doc : DocId) (d : Document) → document_of s doc ≡ Some d → (before : Place) × (place_of s d.nav ≡ Some before)) → ((of : NavId) (place : Place) (doc : DocId) → place_of s of ≡ Some place → place.status ≡ awake doc → WereThere s.history.rows after_adding.history.rows place.given) → held_back after_adding.requests after_adding.parked ≡ held_back s.requests s.parked → Flows s → Flows after_adding
  adding_flows of_placed were held flows =
      none_flows s after_adding
      (record {
        desks = refl;
        documents = map_same s.documents;
        awakes = λ of place doc placed wakes. (let was = kept of place placed in record { before = was.0; there = awake_before of was.0 doc was.1 (was.2 ∙ wakes); status = was.2; given = was.3; epoch = was.4 });
        had = λ doc d place found placed. fell doc d place found placed;
        were = were;
        held = held;
      })
      flows
    where
      fell : (doc : DocId) (d : Document) (place : Place) → document_of s doc ≡ Some d → place_of after_adding d.nav ≡ Some place → HadEpoch s d.nav place
      fell doc d place found placed =
          let own = of_placed doc d found in
          let was = kept d.nav place placed in
          let same : own.0 ≡ was.0 = (let some : Some own.0 ≡ Some was.0 = sym (still_placed d.nav own.0 own.1) ∙ was.1 in cc) in
          record { before = own.0; there = own.1; rises = subst (λ (k : Epoch). own.0.epoch.0 ≤ k.0) (ap (λ (p : Place). p.epoch) same ∙ was.4) (omega arith) }

-- ---- a load is applied: its entry is the coordinator's, so no document made it

-- none of the documents is the coordinator
abbrev pub AreDocuments : List Document → Type 0
AreDocuments [] = Unit {0}
AreDocuments (d ∷ documents) = ((d.nr.0 == 0) ≡ false) × AreDocuments documents

module _ (nav : NavId) (over entry : EntryId) (state : StateId) (address : List ℕ) (memo : Option (List ℕ)) (coordinator : entry.maker ≡ 0) where
  abbrev push : Change
  push = changes.Push nav entry state address memo

  abbrev replace : Change
  replace = changes.Replace nav over entry state address memo

  one_pushed : (d : Document) → (d.nr.0 == 0) ≡ false → applied_to push (told_after_change d push) ≡ d
  one_pushed d not_it = (let other : (d.nr.0 == entry.maker) ≡ false = rw coordinator not_it in rw other (rw other refl))

  one_replaced : (d : Document) → (d.nr.0 == 0) ≡ false → applied_to replace (told_after_change d replace) ≡ d
  one_replaced d not_it = (let other : (d.nr.0 == entry.maker) ≡ false = rw coordinator not_it in rw other refl)

  pub all_pushed : (documents : List Document) → AreDocuments documents → map (λ (d : Document). applied_to push (told_after_change d push)) documents ≡ documents
  all_pushed [] are = refl
  all_pushed (d ∷ documents) are =
      ap (λ (x : Document). x ∷ map (λ (y : Document). applied_to push (told_after_change y push)) documents) (one_pushed d are.0) ∙ ap (λ (l : List Document). d ∷ l) (all_pushed documents are.1)

  pub all_replaced : (documents : List Document) → AreDocuments documents → map (λ (d : Document). applied_to replace (told_after_change d replace)) documents ≡ documents
  all_replaced [] are = refl
  all_replaced (d ∷ documents) are =
      ap (λ (x : Document). x ∷ map (λ (y : Document). applied_to replace (told_after_change y replace)) documents) (one_replaced d are.0) ∙ ap (λ (l : List Document). d ∷ l) (all_replaced documents are.1)

  -- where it made nothing, no navigable is given the entry as it is applied
  pub push_places : (s : Seen) (req : ReqId) (q : Asked) → request_of s req ≡ Some q → q.made ≡ None → places_applied s req push ≡ with_taker s.history (applied s.history push) req s.places
  push_places s req q asked none = rw (asked, none) refl

  pub replace_places : (s : Seen) (req : ReqId) (q : Asked) → request_of s req ≡ Some q → q.made ≡ None → places_applied s req replace ≡ with_taker s.history (applied s.history replace) req s.places
  replace_places s req q asked none = rw (asked, none) refl
