-- A change is applied, or a tab is opened: nothing on its way is lost.
use Rattle.std.proofs.Common.{◌≡◌, ◌⊎◌, inl, inr, ℕ, Bool, true, false, cond, not, ◌&&◌, ◌==◌, List, [], ◌∷◌, ◌++◌, map, Option, Some, None, refl, sym, ap, ◌∙◌}
use Rattle.std.specs.Prelude.{is_some, option_map, option_and_then}
use Rattle.std.specs.Option.{option_map_or}
use Rattle.tab_ids.specs.declared.DocId.{DocId}
use Rattle.tab_ids.specs.declared.EntryId.{EntryId}
use Rattle.tab_ids.specs.declared.NavId.{NavId}
use Rattle.tab_ids.specs.declared.ProcId.{ProcId}
use Rattle.tab_ids.specs.declared.ReqId.{ReqId}
use Rattle.tab_ids.specs.declared.StateId.{StateId}
use Rattle.log_model.specs.declared.change.Change.{Change}
use Rattle.log_model.specs.declared.change.Change.TheVariants as changes
use Rattle.log_model.specs.declared.made.Made.{Made}
use Rattle.log_model.specs.declared.row_kind.Actor.{Actor}
use Rattle.log_model.specs.declared.row_kind.RowKind.TheVariants as rows
use Rattle.log_model.specs.After.{after}
use Rattle.log_model.specs.AfterDocuments.{told_after_change, applied_to, opening_document}
use Rattle.log_model.specs.AfterPlaces.{on_place, given_entry, new_place, opening_place, with_taker, places_added, places_given, places_applied}
use Rattle.log_model.specs.History.{History, has_row, applied}
use Rattle.log_model.specs.Orders.{is_being_made}
use Rattle.log_model.specs.Places.{holder_of}
use Rattle.log_model.specs.Seen.{nothing, Seen, Document, Asked, Place, awake, asleep, place_in, place_of, request_of}
use Rattle.seen_laws.proofs.Keyed.{find_map}
use Rattle.seen_facts.proofs.Hang.Members.{find_has}
use Rattle.seen_facts.specs.Transit.Waiting.{AreOnTheirWay}
use Rattle.seen_facts.proofs.Transit.Again.{WaitedSo, AllWaited, ways_again, KeepsDocument, all_were, KeepsWaiting, all_waited, keeps_one, keeps_twice}

-- ---- the documents

same_document : (d : Document) (b : Bool) (f : Document → Document) → (f d).nr ≡ d.nr → (f d).proc ≡ d.proc → (f d).dead_by ≡ d.dead_by → is_being_made (f d) ≡ is_being_made d → ((let x : Document = cond b (f d) d in x).nr ≡ d.nr) × ((let x : Document = cond b (f d) d in x).proc ≡ d.proc) × ((let x : Document = cond b (f d) d in x).dead_by ≡ d.dead_by) × (is_being_made (cond b (f d) d) ≡ is_being_made d)
same_document d true f nr proc dead made = (nr, proc, dead, made)
same_document d false f nr proc dead made = (refl, refl, refl, refl)

abbrev pub IsAlike : Document → Document → Type 0
IsAlike new d = (new.nr ≡ d.nr) × (new.proc ≡ d.proc) × (new.dead_by ≡ d.dead_by) × (is_being_made new ≡ is_being_made d)

told_alike : (c : Change) (d : Document) → IsAlike (told_after_change d c) d
told_alike (changes.Push nav entry state address memo) d = same_document d (d.nr.0 == entry.maker) (λ x. record x { told = None }) refl refl refl refl
told_alike (changes.Replace nav over entry state address memo) d = (refl, refl, refl, refl)
told_alike (changes.AddFrame owner nav entry state) d = (refl, refl, refl, refl)
told_alike (changes.RemoveFrame nav) d = (refl, refl, refl, refl)
told_alike (changes.Traverse goal) d = (refl, refl, refl, refl)
told_alike (changes.Reload nav) d = (refl, refl, refl, refl)
told_alike changes.Edit d = (refl, refl, refl, refl)

applied_alike : (c : Change) (d : Document) → IsAlike (applied_to c d) d
applied_alike (changes.Push nav entry state address memo) d = same_document d (d.nr.0 == entry.maker) (λ x. record x { last_applied = entry.nr }) refl refl refl refl
applied_alike (changes.Replace nav over entry state address memo) d = same_document d (d.nr.0 == entry.maker) (λ x. record x { last_applied = entry.nr }) refl refl refl refl
applied_alike (changes.AddFrame owner nav entry state) d = (refl, refl, refl, refl)
applied_alike (changes.RemoveFrame nav) d = (refl, refl, refl, refl)
applied_alike (changes.Traverse goal) d = (refl, refl, refl, refl)
applied_alike (changes.Reload nav) d = same_document d (d.nav.0 == nav.0) (λ x. record x { is_fresh = false }) refl refl refl refl
applied_alike changes.Edit d = (refl, refl, refl, refl)

changed_keeps : (c : Change) → KeepsDocument (λ (d : Document). applied_to c (told_after_change d c))
changed_keeps c =
    record {
      nr = λ d. (applied_alike c (told_after_change d c)).0 ∙ (told_alike c d).0;
      proc = λ d. (applied_alike c (told_after_change d c)).1 ∙ (told_alike c d).1;
      dead = λ d e. ap (λ o. is_some o) ((applied_alike c (told_after_change d c)).2 ∙ (told_alike c d).2) ∙ e;
      unmade = λ d e. sym ((applied_alike c (told_after_change d c)).3 ∙ (told_alike c d).3) ∙ e;
    }

-- ---- the places

taker_keeps : (old new : History) (req : ReqId) → KeepsWaiting (λ (place : Place). cond (has_row place.nav old.rows && not (has_row place.nav new.rows)) (record place { taken_by = Some req }) place)
taker_keeps old new req =
    record {
      nav = λ p. elim (has_row p.nav old.rows && not (has_row p.nav new.rows)) as (λ b. (let q : Place = cond b (record p { taken_by = Some req }) p in q).nav ≡ p.nav) [ true ↦ refl | false ↦ refl ];
      status = λ p. elim (has_row p.nav old.rows && not (has_row p.nav new.rows)) as (λ b. (let q : Place = cond b (record p { taken_by = Some req }) p in q).status ≡ p.status) [ true ↦ refl | false ↦ refl ];
      late = λ p. elim (has_row p.nav old.rows && not (has_row p.nav new.rows)) as (λ b. (let q : Place = cond b (record p { taken_by = Some req }) p in q).is_delivered ≡ false → p.is_delivered ≡ false) [ true ↦ (λ e. e) | false ↦ (λ e. e) ];
      last_job = λ p. elim (has_row p.nav old.rows && not (has_row p.nav new.rows)) as (λ b. (let q : Place = cond b (record p { taken_by = Some req }) p in q).last_job ≡ p.last_job) [ true ↦ refl | false ↦ refl ];
    }

map_both : {A : Type 0} (f g : A → A) (xs : List A) → map g (map f xs) ≡ map (λ (x : A). g (f x)) xs
map_both f g [] = refl
map_both f g (x ∷ xs) = ap (λ l. g (f x) ∷ l) (map_both f g xs)

module _ (s : Seen) (event : ℕ) (actor : Actor) (req : ReqId) (c : Change) where
  abbrev t : Seen
  t = after s (record { event = event; actor = actor; row = rows.Applied req c })

  abbrev takes : Place → Place
  takes place = cond (has_row place.nav s.history.rows && not (has_row place.nav (applied s.history c).rows)) (record place { taken_by = Some req }) place

  given_keeps : (entry : EntryId) → KeepsWaiting (given_entry entry)
  given_keeps entry = record { nav = λ p. refl; status = λ p. refl; late = λ p e. e; last_job = λ p. refl }

  pending_keeps : KeepsWaiting (λ (p : Place). record p { is_pending = true; is_unmet = true })
  pending_keeps = record { nav = λ p. refl; status = λ p. refl; late = λ p e. e; last_job = λ p. refl }

  mapped : (f : Place → Place) → KeepsWaiting f → t.places ≡ map takes (map f s.places) → AllWaited s t
  mapped f keeps are =
      all_waited s t (λ (p : Place). takes (f p)) (keeps_twice f takes keeps (taker_keeps s.history (applied s.history c) req)) (are ∙ map_both f takes s.places)

  itself : t.places ≡ map takes s.places → AllWaited s t
  itself are = all_waited s t takes (taker_keeps s.history (applied s.history c) req) are

  given_waited : (nav : NavId) (entry : EntryId) → t.places ≡ map takes (places_given s req nav entry) → AllWaited s t
  given_waited nav entry are = by_made (option_and_then (λ (q : Asked). q.made) (request_of s req)) are
    where
      by_made : (o : Option Made) → t.places ≡ map takes (option_map_or (λ (m : Made). on_place nav (given_entry entry) s.places) o s.places) → AllWaited s t
      by_made None are = itself are
      by_made (Some made) are = mapped (λ (p : Place). cond (p.nav.0 == nav.0) (given_entry entry p) p) (keeps_one nav (given_entry entry) (given_keeps entry)) are

  -- a new navigable is asleep
  added_waited : (owner : StateId) (nav : NavId) → t.places ≡ map takes (places_added s req owner nav) → AllWaited s t
  added_waited owner nav are = by_parent (option_and_then (place_of s) (holder_of owner s.history.rows)) are
    where
      by_parent : (o : Option Place) → t.places ≡ map takes (option_map_or (λ (parent : Place). s.places ++ new_place req nav owner parent ∷ []) o s.places) → AllWaited s t
      by_parent None are other place doc there wakes late = itself are other place doc there wakes late
      by_parent (Some parent) are other place doc there wakes late = by_old (place_in (s.places ++ new_place req nav owner parent ∷ []) other) refl
        where
          keeps : KeepsWaiting takes
          keeps = taker_keeps s.history (applied s.history c) req

          now : place_of t other ≡ option_map takes (place_in (s.places ++ new_place req nav owner parent ∷ []) other)
          now = ap (λ (l : List Place). place_in l other) are ∙ find_map (λ (p : Place). p.nav.0) takes other.0 (s.places ++ new_place req nav owner parent ∷ []) (λ p. ap (λ (n : NavId). n.0) (keeps.nav p))

          was : (l : List Place) (p : Place) → place_in (l ++ new_place req nav owner parent ∷ []) other ≡ Some p → p.status ≡ awake doc → place_in l other ≡ Some p
          was [] p e wakes_ = by_test (nav.0 == other.0) e
            where
              by_test : (b : Bool) → cond b (Some (new_place req nav owner parent)) None ≡ Some p → None ≡ Some p
              by_test true h = let same : new_place req nav owner parent ≡ p = cc in let no_ : asleep ≡ awake doc = ap (λ (x : Place). x.status) same ∙ wakes_ in cc
              by_test false h = h
          was (q ∷ l) p e wakes_ = by_test (q.nav.0 == other.0) (was l p) e
            where
              by_test : (b : Bool) → (place_in (l ++ new_place req nav owner parent ∷ []) other ≡ Some p → p.status ≡ awake doc → place_in l other ≡ Some p) → cond b (Some q) (place_in (l ++ new_place req nav owner parent ∷ []) other) ≡ Some p → cond b (Some q) (place_in l other) ≡ Some p
              by_test true rest h = h
              by_test false rest h = rest h wakes_

          by_old : (o : Option Place) → place_in (s.places ++ new_place req nav owner parent ∷ []) other ≡ o → WaitedSo s other place
          by_old None e = let no_ : None ≡ Some place = sym (now ∙ ap (λ (o : Option Place). option_map takes o) e) ∙ there in cc
          by_old (Some p) e =
              let both : Some (takes p) ≡ Some place = sym (now ∙ ap (λ (o : Option Place). option_map takes o) e) ∙ there in
              let one : takes p ≡ place = cc in
              let status : p.status ≡ place.status = sym (keeps.status p) ∙ ap (λ (x : Place). x.status) one in
              record {
                before = p;
                there = was s.places p e (status ∙ wakes);
                status = status;
                late = keeps.late p (ap (λ (x : Place). x.is_delivered) one ∙ late);
                last_job = sym (keeps.last_job p) ∙ ap (λ (x : Place). x.last_job) one;
              }

  waited_by : (d : Change) → c ≡ d → AllWaited s t
  waited_by (changes.Push nav entry state address memo) is = given_waited nav entry (ap (λ (x : Change). places_applied s req x) is ∙ ap (λ (x : Change). with_taker s.history (applied s.history x) req (places_given s req nav entry)) (sym is))
  waited_by (changes.Replace nav over entry state address memo) is = given_waited nav entry (ap (λ (x : Change). places_applied s req x) is ∙ ap (λ (x : Change). with_taker s.history (applied s.history x) req (places_given s req nav entry)) (sym is))
  waited_by (changes.AddFrame owner nav entry state) is = added_waited owner nav (ap (λ (x : Change). places_applied s req x) is ∙ ap (λ (x : Change). with_taker s.history (applied s.history x) req (places_added s req owner nav)) (sym is))
  waited_by (changes.RemoveFrame nav) is = itself (ap (λ (x : Change). places_applied s req x) is ∙ ap (λ (x : Change). with_taker s.history (applied s.history x) req s.places) (sym is))
  waited_by (changes.Traverse goal) is = itself (ap (λ (x : Change). places_applied s req x) is ∙ ap (λ (x : Change). with_taker s.history (applied s.history x) req s.places) (sym is))
  waited_by (changes.Reload nav) is = mapped (λ (p : Place). cond (p.nav.0 == nav.0) (record p { is_pending = true; is_unmet = true }) p) (keeps_one nav (λ (p : Place). record p { is_pending = true; is_unmet = true }) pending_keeps) (ap (λ (x : Change). places_applied s req x) is ∙ ap (λ (x : Change). with_taker s.history (applied s.history x) req (on_place nav (λ (p : Place). record p { is_pending = true; is_unmet = true }) s.places)) (sym is))
  waited_by changes.Edit is = itself (ap (λ (x : Change). places_applied s req x) is ∙ ap (λ (x : Change). with_taker s.history (applied s.history x) req s.places) (sym is))

  pub applied_ways : AreOnTheirWay s → AreOnTheirWay t
  applied_ways ways =
      ways_again s t (λ P proc is. is) (waited_by c refl) (all_were s t (λ (d : Document). applied_to c (told_after_change d c)) (changed_keeps c) refl) ways

-- ---- the opening: nothing is on its way

module _ (event : ℕ) (actor : Actor) (entry : EntryId) (state : StateId) (doc : DocId) (proc : ProcId) (slot : Option ℕ) (address : List ℕ) where
  abbrev pub opened_ : Seen
  opened_ = after nothing (record { event = event; actor = actor; row = rows.Opened entry state doc proc slot address })

  pub opened_ways : AreOnTheirWay opened_
  opened_ways =
      record {
        comes = λ nav place x d there wakes found late.
            let one : opening_place entry doc ≡ place = only_place place (find_has (λ (p : Place). p.nav.0 == nav.0) (opening_place entry doc ∷ []) place there).0 in
            let no_ : true ≡ false = ap (λ (p : Place). p.is_delivered) one ∙ late in cc;
        made = λ x d found making.
            let one : opening_document entry state doc proc slot address ≡ d = only_document d (find_has (λ (y : Document). y.nr.0 == x.0) (opening_document entry state doc proc slot address ∷ []) d found).0 in
            let no_ : false ≡ true = ap is_being_made one ∙ making in cc;
      }
    where
      only_place : (place : Place) → (opening_place entry doc ≡ place) ⊎ ⊥ → opening_place entry doc ≡ place
      only_place place (inl same) = same
      only_place place (inr never) = absurd never

      only_document : (d : Document) → (opening_document entry state doc proc slot address ≡ d) ⊎ ⊥ → opening_document entry state doc proc slot address ≡ d
      only_document d (inl same) = same
      only_document d (inr never) = absurd never
