-- All that holds of a tab between two rows holds after an ongoing load is applied: its entry is the coordinator's next, of a document state that no entry has yet, and no navigable is given it.
use Rattle.seen_facts.proofs.Asked.Rows.{applied_plain}
use Rattle.seen_facts.specs.Asked.Asking.{IsThere}
use Rattle.seen_facts.proofs.Coord.Applied.{WereThere, all_pushed, all_replaced}
use Rattle.seen_facts.proofs.Coord.Unread.{next}
use Rattle.seen_facts.proofs.Rest.Again.{was_of}
use Rattle.seen_facts.proofs.Doc.Lives.{change_keeps, takes_in}
use Rattle.seen_facts.specs.Each.Runs.{is_this}
use Rattle.seen_facts.proofs.Entry.Applied.{pushed_rows, replaced_rows}
use Rattle.seen_facts.proofs.Entry.Changes.{load_pushed_entries, load_replaced_entries}
use Rattle.seen_facts.proofs.Entry.Ends.{IsToEnd}
use Rattle.seen_facts.proofs.Entry.Skips.{without_made}
use Rattle.tab_facts.proofs.FrameWhole.Queued.{queued_after}
use Rattle.tab_facts.proofs.FrameWhole.Soundly.{none_entry, sound_pushed, sound_replaced}
use Rattle.tab_facts.specs.FrameWhole.Untold.{FlowsIf}
use Rattle.seen_facts.specs.Hang.Members.{Has}
use Rattle.seen_facts.proofs.Hang.Members.{slice_has}
use Rattle.seen_facts.proofs.Home.Changed.{changed_stay, taker, taker_given, taker_keeps}
use Rattle.seen_facts.proofs.Home.Mapped.{WasAt, mapped_homed, was_at}
use Rattle.seen_facts.proofs.Home.Again.{StaysIn}
use Rattle.seen_facts.specs.Home.Homes.{AreHomed, EachWake, IsHomed, IsOfState}
use Rattle.seen_facts.proofs.Load.Changes.{own_free}
use Rattle.seen_facts.specs.Load.Loading.{IsLoading, look}
use Rattle.seen_facts.specs.LoadWhereabouts.Whereabouts.{times_on_way}
use Rattle.log_model.specs.AfterPlaces.{given_entry, on_place, places_applied, places_given, with_taker}
use Rattle.log_model.specs.AfterRequests.{without_req}
use Rattle.log_model.specs.Equal.{holds}
use Rattle.log_model.specs.History.{applied, fits, has_row}
use Rattle.log_model.specs.Once.{next_entry_of}
use Rattle.log_model.specs.Places.{is_load, is_ongoing_load, is_traversal}
use Rattle.log_model.specs.Seen.{Asked, Document, Place, Seen, awake, document_of, place_of, request_in, request_of}
use Rattle.log_model.specs.declared.change.Change.{Change}
use Rattle.log_model.specs.declared.change.Change.TheVariants as changes
use Rattle.log_model.specs.declared.made.Made.{Made}
use Rattle.log_model.specs.declared.request.Mode.{Mode}
use Rattle.log_model.specs.declared.request.Request.TheVariants as requests
use Rattle.log_model.specs.declared.row.Row.{Row}
use Rattle.log_model.specs.declared.row_kind.Actor.{Actor}
use Rattle.log_model.specs.declared.row_kind.RowKind.TheVariants as rows
use Rattle.seen_facts.proofs.Place.Changes as standing
use Rattle.seen_facts.proofs.Place.Changes.{IsOldOrNew}
use Rattle.seen_facts.proofs.Rest.Stands.{get_of}
use Rattle.std.proofs.Common.{Bool, List, None, Option, Some, [], ap, arith, false, inl, inr, map, refl, subst, sym, true, ℕ, ◌&&◌, ◌<◌, ◌==◌, ◌≤◌, ◌∙◌, ◌∷◌, ◌≡◌}
use Rattle.std.proofs.lemmas.Bool.{eqb-true}
use Rattle.std.proofs.lemmas.Bool.Decides.{nat_tests}
use Rattle.std.specs.Option.{option_map_or}
use Rattle.std.specs.Prelude.{is_none, option_and_then, option_map, slice_get}
use Rattle.tab_ids.specs.declared.DocId.{DocId}
use Rattle.tab_ids.specs.declared.EntryId.{EntryId}
use Rattle.tab_ids.specs.declared.NavId.{NavId}
use Rattle.tab_ids.specs.declared.ReqId.{ReqId}
use Rattle.tab_ids.specs.declared.StateId.{StateId}
use Rattle.tab_facts.proofs.TabWhole.Changed.{ChangesWell, changed_tab}
use Rattle.tab_facts.proofs.TabWhole.Fresh.{fresh, ungiven}
use Rattle.tab_facts.proofs.TabWhole.Unmoved.{applied_if}
use Rattle.tab_facts.proofs.TabWhole.Where.{IsUnheld, unheld_end, way_unheld}
use Rattle.tab_facts.specs.TabWhole.Tab.{IsTab}

-- one document alone
alone : (f : Document → Document) (d : Document) → map f (d ∷ []) ≡ d ∷ [] → f d ≡ d
alone f d e = cc

module _ (run : Option ReqId) (loads : List ReqId) (hand : List Made) (s : Seen) (tab : IsTab run loads hand s) where
  module _ (event : ℕ) (actor : Actor) (req : ReqId) (change : Change) (nav : NavId) (state : StateId) (places : places_applied s req change ≡ with_taker s.history (applied s.history change) req s.places) (old_or_new : (row : Row) → Has (applied s.history change).rows row → IsOldOrNew s.history.rows nav (next_entry_of s) state row) where
    abbrev t : Seen
    t = next s event actor (rows.Applied req change)

    -- ---- where documents are

    abbrev takes : Place → Place
    takes = taker s.history (applied s.history change) req

    homes : AreHomed t
    homes =
        mapped_homed s t takes (taker_keeps s.history (applied s.history change) req) places (changed_stay change s.documents) tab.homes state_then
      where
        state_then : EachWake (IsOfState t.history.rows t.documents) t
        state_then other place doc there wakes row d has navs given found = by_row (old_or_new row has)
          where
            w : WasAt s takes other place
            w = was_at s t takes (taker_keeps s.history (applied s.history change) req) places other place there

            on : w.before.status ≡ awake doc
            on =
                sym ((taker_keeps s.history (applied s.history change) req).status w.before) ∙ ap (λ (p : Place). p.status) w.is ∙ wakes

            before : w.before.given ≡ Some row.entry
            before =
                sym (taker_given s.history (applied s.history change) req w.before) ∙ ap (λ (p : Place). p.given) w.is ∙ given

            navs_before : row.nav ≡ w.before.nav
            navs_before =
                navs ∙ ap (λ (p : Place). p.nav) (sym w.is) ∙ (taker_keeps s.history (applied s.history change) req).nav w.before

            h : IsHomed s.documents w.before doc
            h = tab.homes.homed other w.before doc w.there on

            state_same : h.home.document.state ≡ d.state
            state_same =
                let k : StaysIn t.documents doc h.home.document = changed_stay change s.documents doc h.home.document h.home.found in
                let both : Some k.new ≡ Some d = sym k.found ∙ found in
                let one : k.new ≡ d = cc in
                sym k.keeps.state ∙ ap (λ (x : Document). x.state) one

            by_row : IsOldOrNew s.history.rows nav (next_entry_of s) state row → row.state ≡ d.state
            by_row (inl old) =
                tab.homes.state other w.before doc w.there on row h.home.document old navs_before before h.home.found ∙ state_same
            by_row (inr new) =
                absurd (ungiven run loads hand s tab other w.before w.there (before ∙ ap (λ (e : EntryId). Some e) new.1))

    -- ---- what leads on

    were : (of : NavId) (place : Place) → place_of s of ≡ Some place → WereThere s.history.rows t.history.rows place.given
    were of place placed i row at given =
        by_row (old_or_new row (slice_has t.history.rows i row at))
      where
        by_row : IsOldOrNew s.history.rows nav (next_entry_of s) state row → (j : ℕ) × (slice_get s.history.rows j ≡ Some row)
        by_row (inl old) = get_of s.history.rows row old
        by_row (inr new) =
            absurd (ungiven run loads hand s tab of place placed (given ∙ ap (λ (e : EntryId). Some e) new.1))

    flows : IsToEnd hand s req → ((d : Document) → (d.nr.0 == 0) ≡ false → takes_in change d ≡ d) → ((n : NavId) → has_row n t.history.rows ≡ true → has_row n s.history.rows ≡ true) → FlowsIf (without_made req hand) t
    flows end same had = applied_if hand s event actor req change places end there had were tab.flows
      where
        there : (doc : DocId) (d : Document) → document_of t doc ≡ Some d → document_of s doc ≡ Some d
        there doc d found =
            let w = was_of s t (takes_in change) (change_keeps change).nr refl doc d found in
            let real : 1 ≤ w.before.nr.0 = (tab.entries.counted doc w.before w.there).real in
            let apart : (w.before.nr.0 == 0) ≡ false = grind (arith, nat_tests, real) in
            w.there ∙ ap (λ (x : Document). Some x) (sym (same w.before apart) ∙ w.is)

  -- ---- the load

  module _ (event : ℕ) (actor : Actor) (req : ReqId) (q : Asked) (there : request_of s req ≡ Some q) (going : is_ongoing_load q ≡ true) (nav : NavId) (mode : Mode) (asks : List ℕ) (what : q.what ≡ requests.Load nav mode asks) (state : StateId) (state_is : q.state ≡ Some state) where
    its : IsLoading s (look q)
    its =
        tab.loading.each req (look q) (ap (λ (o : Option Asked). option_map look o) there) going

    its_nav : its.nav ≡ nav
    its_nav =
        let both : requests.Load its.nav its.mode its.address ≡ requests.Load nav mode asks = sym its.what ∙ what in cc

    its_state : its.state ≡ state
    its_state = (let both : Some its.state ≡ Some state = sym its.state_is ∙ state_is in cc)

    -- no entry has its document state
    unheld : (row : Row) → Has s.history.rows row → row.state.0 ≡ state.0 → ⊥
    unheld row has same = its.unheld row has (same ∙ ap (λ (x : StateId). x.0) (sym its_state))

    owned : (doc : DocId) (d : Document) → document_of s doc ≡ Some d → state ≡ d.state → nav ≡ d.nav
    owned doc d found same =
        sym its_nav ∙ sym (its.whose doc d found (ap (λ (x : StateId). x.0) (sym same ∙ sym its_state)))

    unended : (x : Asked) → request_of s req ≡ Some x → x.ending ≡ None
    unended x at = (let both : Some q ≡ Some x = sym there ∙ at in let one : q ≡ x = cc in subst (λ (y : Asked). y.ending ≡ None) one (unanswered q.is_started q.ending (is_load q.what) going))
      where
        unanswered : {A : Type 0} (a : Bool) (o : Option A) (c : Bool) → ((a && is_none o) && c) ≡ true → o ≡ None
        unanswered a None c e = refl
        unanswered true (Some y) c e = absurd cc
        unanswered false (Some y) c e = absurd cc

    ongoing : holds is_ongoing_load (request_in s.requests req) ≡ true
    ongoing = rw there going

    way : 0 < times_on_way (request_in s.requests req)
    way = (let one : 0 < times_on_way (request_in s.requests req) = rw there (rw going (omega arith)) in one)

    unheld_at : IsUnheld run loads hand s tab req
    unheld_at = way_unheld run loads hand s tab req way

    end : IsToEnd hand s req
    end = unheld_end run loads hand s tab req unheld_at

    -- it isn't the traversal that runs
    other : is_this run req ≡ false
    other = by_run run refl
      where
        by_same : (r : ReqId) (b : Bool) → run ≡ Some r → (r.0 == req.0) ≡ b → b ≡ false
        by_same r false is e = refl
        by_same r true is e =
            let th : IsThere s r = tab.asked.runs r is in
            let one : r ≡ req = ap (λ (n : ℕ). let x : ReqId = record { 0 = n } in x) (eqb-true r.0 req.0 e) in
            let both : Some th.q ≡ Some q = sym th.found ∙ ap (λ (x : ReqId). request_in s.requests x) one ∙ there in
            let same : th.q ≡ q = cc in
            let no_ : is_traversal q.what ≡ false = ap is_traversal what in
            let never : true ≡ false = sym th.traverses ∙ ap (λ (x : Asked). is_traversal x.what) same ∙ no_ in absurd cc

        by_run : (o : Option ReqId) → run ≡ o → is_this run req ≡ false
        by_run None e = ap (λ (o : Option ReqId). is_this o req) e
        by_run (Some r) e = ap (λ (o : Option ReqId). is_this o req) e ∙ by_same r (r.0 == req.0) e refl

    -- nothing was made of it, so nobody is given its entry
    nobody : (entry : EntryId) → places_given s req nav entry ≡ s.places
    nobody entry =
        ap (λ (o : Option Made). option_map_or (λ (m : Made). on_place nav (given_entry entry) s.places) o s.places)
        (ap (λ (o : Option Asked). option_and_then (λ (x : Asked). x.made) o) there ∙ its.unmade)

    load_pushed : (address : List ℕ) (memo : Option (List ℕ)) → fits s.history (changes.Push nav (next_entry_of s) state address memo) ≡ true → ChangesWell run run loads hand s event actor req (changes.Push nav (next_entry_of s) state address memo)
    load_pushed address memo fit =
        record {
          unended = unended;
          carried = inr (inr (inr ongoing));
          fit = fit;
          sound = sound_pushed s.history nav (next_entry_of s) state address memo tab.sound fit (none_entry s.history.rows (next_entry_of s) (fresh run loads hand s tab)) (λ row has same. absurd (unheld row has (ap (λ (x : StateId). x.0) same)));
          brings = λ row has same. absurd (unheld row has same);
          owned = owned;
          free = own_free s req (look q) state tab.loading (ap (λ (o : Option Asked). option_map look o) there) going state_is;
          homes = homes event actor req push nav state places old_or_new;
          standing = standing.load_push_standing s event actor tab.standing req nav (next_entry_of s) state address memo (record { q = q; found = there; unmade = its.unmade }) (ungiven run loads hand s tab nav);
          asked = applied_plain run s event actor tab.asked req push other;
          queued = queued_after run s event actor tab.queued (rows.Applied req push) other;
          entries = load_pushed_entries hand s event actor tab.entries req end (ap (λ (o : Option Asked). option_and_then (λ (x : Asked). x.made) o) there ∙ its.unmade) nav state address memo fit;
          flows = flows event actor req push nav state places old_or_new end (λ d apart. alone (takes_in push) d (all_pushed nav (next_entry_of s) (next_entry_of s) state address memo refl (d ∷ []) (apart, tt)))
              (pushed_rows s.history nav (next_entry_of s) state address memo (λ e. Unit {0}) tt fit).had;
        }
      where
        push : Change
        push = changes.Push nav (next_entry_of s) state address memo

        places : places_applied s req (changes.Push nav (next_entry_of s) state address memo) ≡ with_taker s.history (applied s.history (changes.Push nav (next_entry_of s) state address memo)) req s.places
        places = ap (λ (l : List Place). with_taker s.history (applied s.history push) req l) (nobody (next_entry_of s))

        old_or_new : (row : Row) → Has (applied s.history (changes.Push nav (next_entry_of s) state address memo)).rows row → IsOldOrNew s.history.rows nav (next_entry_of s) state row
        old_or_new = standing.pushed_rows s nav (next_entry_of s) state address memo

    load_replaced : (over : EntryId) (address : List ℕ) (memo : Option (List ℕ)) → fits s.history (changes.Replace nav over (next_entry_of s) state address memo) ≡ true → ChangesWell run run loads hand s event actor req (changes.Replace nav over (next_entry_of s) state address memo)
    load_replaced over address memo fit =
        record {
          unended = unended;
          carried = inr (inr (inr ongoing));
          fit = fit;
          sound = sound_replaced s.history nav over (next_entry_of s) state address memo tab.sound fit (none_entry s.history.rows (next_entry_of s) (fresh run loads hand s tab)) (λ row has same. absurd (unheld row has (ap (λ (x : StateId). x.0) same)));
          brings = inr unheld;
          owned = owned;
          free = own_free s req (look q) state tab.loading (ap (λ (o : Option Asked). option_map look o) there) going state_is;
          homes = homes event actor req put nav state places old_or_new;
          standing = standing.load_replace_standing s event actor tab.standing req nav over (next_entry_of s) state address memo (record { q = q; found = there; unmade = its.unmade }) (ungiven run loads hand s tab nav);
          asked = applied_plain run s event actor tab.asked req put other;
          queued = queued_after run s event actor tab.queued (rows.Applied req put) other;
          entries = load_replaced_entries hand s event actor tab.entries req end (ap (λ (o : Option Asked). option_and_then (λ (x : Asked). x.made) o) there ∙ its.unmade) nav state address memo over;
          flows = flows event actor req put nav state places old_or_new end (λ d apart. alone (takes_in put) d (all_replaced nav over (next_entry_of s) state address memo refl (d ∷ []) (apart, tt)))
              (replaced_rows s.history nav over (next_entry_of s) state address memo (λ e. Unit {0}) tt).had;
        }
      where
        put : Change
        put = changes.Replace nav over (next_entry_of s) state address memo

        places : places_applied s req (changes.Replace nav over (next_entry_of s) state address memo) ≡ with_taker s.history (applied s.history (changes.Replace nav over (next_entry_of s) state address memo)) req s.places
        places = ap (λ (l : List Place). with_taker s.history (applied s.history put) req l) (nobody (next_entry_of s))

        old_or_new : (row : Row) → Has (applied s.history (changes.Replace nav over (next_entry_of s) state address memo)).rows row → IsOldOrNew s.history.rows nav (next_entry_of s) state row
        old_or_new = standing.replaced_rows s nav over (next_entry_of s) state address memo

    pub load_pushed_tab : (address : List ℕ) (memo : Option (List ℕ)) → fits s.history (changes.Push nav (next_entry_of s) state address memo) ≡ true → IsTab run (without_req req loads) (without_made req hand) (next s event actor (rows.Applied req (changes.Push nav (next_entry_of s) state address memo)))
    load_pushed_tab address memo fit =
        changed_tab run run loads hand s event actor req (changes.Push nav (next_entry_of s) state address memo) tab (load_pushed address memo fit)

    pub load_replaced_tab : (over : EntryId) (address : List ℕ) (memo : Option (List ℕ)) → fits s.history (changes.Replace nav over (next_entry_of s) state address memo) ≡ true → IsTab run (without_req req loads) (without_made req hand) (next s event actor (rows.Applied req (changes.Replace nav over (next_entry_of s) state address memo)))
    load_replaced_tab over address memo fit =
        changed_tab run run loads hand s event actor req (changes.Replace nav over (next_entry_of s) state address memo) tab (load_replaced over address memo fit)
