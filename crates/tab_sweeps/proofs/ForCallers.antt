-- For callers of the sweep: nobody that was on a stray document, or below one, is awake then; and who is visited in need then was so before, so that it is moved by whom it was to be moved.
use Rattle.tab_sweeps.proofs.Unders.{on_stray}
use Rattle.seen_facts.proofs.Hang.Forms.{nav_is}
use Rattle.seen_facts.proofs.Hang.Hung.{place_chain}
use Rattle.seen_facts.proofs.Hang.Members.{has_any}
use Rattle.seen_facts.proofs.Hang.Targets.{IsTarget, target_has}
use Rattle.seen_facts.specs.Hang.AsPlaces.{IsChain}
use Rattle.history_laws.proofs.Joining.{entry_same}
use Rattle.seen_facts.specs.Home.Homes.{IsAtHome, IsOnAwake}
use Rattle.log_model.proofs.Refl.{nat_eq_refl}
use Rattle.log_model.specs.Equal.{holds}
use Rattle.log_model.specs.History.{History, has_nav, has_state, same_entry, target_entry}
use Rattle.log_model.specs.Places.{aim_of, is_asleep, is_awake, is_below, is_given_target, is_shown}
use Rattle.log_model.specs.Seen.{Document, Place, Seen, Status, asleep, awake, lost, place_of, document_of}
use Rattle.log_model.specs.declared.job.Why.{Why}
use Rattle.log_model.specs.declared.made.Made.{Made}
use Rattle.log_model.specs.declared.row.Row.{Row}
use Rattle.std.proofs.Common.{Bool, List, None, Option, Some, [], ap, false, inl, inr, not, refl, subst, sym, true, ℕ, ◌==◌, ◌||◌, ◌∙◌, ◌∷◌, ◌≡◌, ◌≤◌, ◌⊎◌}
use Rattle.std.proofs.lemmas.Bool.{and_parts}
use Rattle.std.specs.List.{list_any}
use Rattle.std.specs.Prelude.{option_map}
use Rattle.tab_ids.specs.declared.DocId.{DocId}
use Rattle.tab_ids.specs.declared.EntryId.{EntryId}
use Rattle.tab_ids.specs.declared.NavId.{NavId}
use Rattle.tab_ids.specs.declared.ReqId.{ReqId}
use Rattle.tab_ids.specs.declared.StateId.{StateId}
use Rattle.tab_sweeps.proofs.Courses.{read_same}
use Rattle.tab_sweeps.proofs.Loads.{unloaded_same, awake_unloaded}
use Rattle.tab_sweeps.specs.Sweeping.{IsNoStray, IsOnStray, IsStray, IsSweptTurn, NoneStray}
use Rattle.tab_passes.specs.PassedOn.{IsTab}
use Rattle.seen_facts.proofs.Walk.Placed.{found_nav}
use Rattle.seen_facts.specs.Walk.Serving.{is_in_place, is_needing, is_stopping}
use Rattle.row_facts.specs.WalkRows.Since.{IsVisitedInNeed, MovesVisited, WasAwake}

-- a navigable that is awake
record WakesAt (s : Seen) (nav : NavId) : Type 0 where
  place : Place
  placed : place_of s nav ≡ Some place
  doc : DocId
  wakes : place.status ≡ awake doc

awake_on : (place : Place) → is_awake place ≡ true → (doc : DocId) × (place.status ≡ awake doc)
awake_on place is = by_status place.status refl is
  where
    by_status : (status : Status) → place.status ≡ status → is_awake (record place { status = status }) ≡ true → (doc : DocId) × (place.status ≡ awake doc)
    by_status (awake doc) at e = (doc, at)
    by_status lost at e = absurd cc
    by_status asleep at e = absurd cc

third : (a b : Bool) → (a || b || true) ≡ true
third true b = refl
third false true = refl
third false false = refl

none_then : (f g : NavId → Bool) (navs : List NavId) → ((n : NavId) → f n ≡ false → g n ≡ false) → list_any f navs ≡ false → list_any g navs ≡ false
none_then f g [] each none = refl
none_then f g (n ∷ navs) each none = by_test (f n) refl none (none_then f g navs each)
  where
    by_test : (b : Bool) → f n ≡ b → (b || list_any f navs) ≡ false → (list_any f navs ≡ false → list_any g navs ≡ false) → (g n || list_any g navs) ≡ false
    by_test true e h more = absurd cc
    by_test false e h more = ap (λ (b : Bool). b || list_any g navs) (each n e) ∙ more h

at_each : (f : NavId → Bool) (navs : List NavId) (n : NavId) → list_any f navs ≡ false → has_nav navs n ≡ true → f n ≡ false
at_each f [] n none has = absurd cc
at_each f (x ∷ navs) n none has = by_tests (f x) refl none (x.0 == n.0) refl has (at_each f navs n)
  where
    by_tests : (b : Bool) → f x ≡ b → (b || list_any f navs) ≡ false → (c : Bool) → (x.0 == n.0) ≡ c → (c || has_nav navs n) ≡ true → (list_any f navs ≡ false → has_nav navs n ≡ true → f n ≡ false) → f n ≡ false
    by_tests true e h c same there more = absurd cc
    by_tests false e h true same there more = ap f (sym (nav_is x n same)) ∙ e
    by_tests false e h false apart there more = more h there

module _ (run : Option ReqId) (loads : List ReqId) (hand : List Made) (s t : Seen) (tab : IsTab run loads hand s) (then_ : IsTab run loads hand t) (turn : IsSweptTurn s t) (swept : NoneStray t) where
  -- nobody is awake on a document that was stray
  gone : (nav : NavId) (place : Place) (doc : DocId) → place_of t nav ≡ Some place → place.status ≡ awake doc → (state : StateId) → IsStray s doc state → ⊥
  gone nav place doc at wakes state stray =
      swept doc state (record {
        document = home.document;
        found = home.found;
        its_state = (let both : Some home.document.state ≡ Some stray.document.state = states in let same : home.document.state ≡ stray.document.state = cc in same ∙ stray.its_state);
        ready = home.ready;
        undiscarded = home.undiscarded;
        bare = ap (λ (h : History). has_state state h.rows) turn.history ∙ stray.bare;
        unloaded = unloaded_same t s (λ r. sym (turn.looks r)) state stray.unloaded;
      })
    where
      home : IsAtHome t.documents place.nav doc
      home = (then_.homes.homed nav place doc at wakes).home

      states : Some home.document.state ≡ Some stray.document.state
      states =
          sym (ap (option_map (λ (d : Document). d.state)) home.found) ∙ turn.states doc ∙ ap (option_map (λ (d : Document). d.state)) stray.found

  -- who is awake has all above it awake
  up_awake : (above : List NavId) (nav : NavId) (place : Place) (doc : DocId) → place_of t nav ≡ Some place → place.status ≡ awake doc → place.above ≡ above → IsChain t.places above → (over : NavId) → has_nav above over ≡ true → WakesAt t over
  up_awake [] nav place doc at wakes is chain over has = absurd cc
  up_awake (parent ∷ others) nav place doc at wakes is chain over has =
      by_first (parent.0 == over.0) refl has (up_awake others parent up.above up.doc up.there up.wakes above_is chain.1 over)
    where
      up : IsOnAwake t place parent
      up = then_.homes.hung nav place doc at wakes parent others is

      above_is : up.above.above ≡ others
      above_is =
          let two : Some up.above ≡ Some chain.0.place = sym up.there ∙ chain.0.found in
          let one : up.above ≡ chain.0.place = cc in
          ap (λ (p : Place). p.above) one ∙ chain.0.above_is

      by_first : (b : Bool) → (parent.0 == over.0) ≡ b → (b || has_nav others over) ≡ true → (has_nav others over ≡ true → WakesAt t over) → WakesAt t over
      by_first true same h more =
          subst (λ (n : NavId). WakesAt t n) (nav_is parent over same) (record { place = up.above; placed = up.there; doc = up.doc; wakes = up.wakes })
      by_first false apart h more = more h

  pub above_same : (nav : NavId) → option_map (λ (place : Place). place.above) (place_of t nav) ≡ option_map (λ (place : Place). place.above) (place_of s nav)
  above_same nav = read_same (λ (place : Place). place.above) (λ place. refl) s t turn nav

  -- nobody that was on one, or below one, is awake
  pub off_then : (nav : NavId) (place : Place) (doc : DocId) → place_of t nav ≡ Some place → place.status ≡ awake doc → IsOnStray s nav → ⊥
  off_then nav place doc at wakes on = by_under on.under
    where
      at_over : WakesAt t on.over → ⊥
      at_over up =
          let was : WasAwake s on.over up.doc = turn.awake_ on.over up.place up.doc refl up.placed up.wakes in
          let two : Some was.place ≡ Some on.own = sym was.placed ∙ on.there in
          let one : was.place ≡ on.own = cc in
          let docs : awake up.doc ≡ awake on.doc = sym was.wakes ∙ ap (λ (p : Place). p.status) one ∙ on.wakes in
          let doc_is : up.doc ≡ on.doc = cc in
          gone on.over up.place up.doc up.placed up.wakes on.state (subst (λ (d : DocId). IsStray s d on.state) (sym doc_is) on.stray)

      above_is : place.above ≡ on.place.above
      above_is =
          let two : Some place.above ≡ Some on.place.above = sym (ap (option_map (λ (p : Place). p.above)) at) ∙ above_same nav ∙ ap (option_map (λ (p : Place). p.above)) on.placed in
          cc

      by_under : ((nav.0 == on.over.0) ≡ true) ⊎ (is_below on.over on.place ≡ true) → ⊥
      by_under (inl same) =
          at_over (subst (λ (n : NavId). WakesAt t n) (nav_is nav on.over same) (record { place = place; placed = at; doc = doc; wakes = wakes }))
      by_under (inr below) =
          at_over (up_awake place.above nav place doc at wakes refl (place_chain t then_.sound then_.hangs nav place at) on.over (ap (λ (l : List NavId). has_nav l on.over) above_is ∙ below))

  -- ---- who is visited in need

  -- one that doesn't stop the walk then didn't
  stop_was : (n : NavId) → is_stopping t.history.rows (aim_of t) t.places n ≡ false → (IsOnStray s n → ⊥) × (is_stopping s.history.rows (aim_of s) s.places n ≡ false)
  stop_was n free = by_place (place_of t n) refl
    where
      in_place : (b : Bool) → not b ≡ false → b ≡ true
      in_place true h = refl
      in_place false h = absurd cc

      standing : holds (is_in_place t.history.rows (aim_of t)) (place_of t n) ≡ true
      standing = in_place (holds (is_in_place t.history.rows (aim_of t)) (place_of t n)) free

      by_place : (o : Option Place) → place_of t n ≡ o → (IsOnStray s n → ⊥) × (is_stopping s.history.rows (aim_of s) s.places n ≡ false)
      by_place None at =
          let never : false ≡ true = sym (ap (holds (is_in_place t.history.rows (aim_of t))) at) ∙ standing in absurd cc
      by_place (Some q) at =
          let its : is_in_place t.history.rows (aim_of t) q ≡ true = sym (ap (holds (is_in_place t.history.rows (aim_of t))) at) ∙ standing in
          let wakes = awake_on q (and_parts (is_awake q) (is_given_target t.history.rows (aim_of t) q) its).0 in
          let off : IsOnStray s n → ⊥ = off_then n q wakes.0 at wakes.1 in (
            off,
            sym (ap (λ (h : History). not (holds (is_in_place h.rows (aim_of t)) (place_of t n))) turn.history ∙ ap (λ (step : ℕ). not (holds (is_in_place s.history.rows step) (place_of t n))) turn.aim ∙ ap (λ (o : Option Place). not (holds (is_in_place s.history.rows (aim_of s)) o)) (turn.stays n off))
                ∙ free,
          )

  -- one that needed nothing isn't on a stray document
  pub needed : (nav : NavId) (old : Place) → place_of s nav ≡ Some old → is_needing s.history.rows (aim_of s) old ≡ false → (on : IsOnStray s nav) → (nav.0 == on.over.0) ≡ true → ⊥
  needed nav old there none on same = by_given (is_given_target s.history.rows (aim_of s) old) refl
    where
      here : old ≡ on.own
      here =
          let two : Some old ≡ Some on.own = sym there ∙ ap (λ (n : NavId). place_of s n) (nav_is nav on.over same) ∙ on.there in cc

      by_target : (o : Option Row) → target_entry s.history.rows old.nav (aim_of s) ≡ o → holds (λ (row : Row). holds (same_entry row.entry) old.given) o ≡ true → ⊥
      by_target None at h = absurd cc
      by_target (Some row) at h = by_entry old.given refl h
        where
          its : IsTarget s.history.rows old.nav (aim_of s) row
          its = target_has s.history.rows old.nav (aim_of s) row at

          by_entry : (o : Option EntryId) → old.given ≡ o → holds (same_entry row.entry) o ≡ true → ⊥
          by_entry None e g = absurd cc
          by_entry (Some entry) e g =
              let wakes : old.status ≡ awake on.doc = ap (λ (p : Place). p.status) here ∙ on.wakes in
              let state : row.state ≡ on.stray.document.state = tab.homes.state nav old on.doc there wakes row on.stray.document its.there its.nav_is (e ∙ ap (λ (x : EntryId). Some x) (sym (entry_same row.entry entry g))) on.stray.found in
              let has : has_state on.state s.history.rows ≡ true = has_any (λ (r : Row). r.state.0 == on.state.0) s.history.rows row its.there (ap (λ (x : StateId). x.0 == on.state.0) (state ∙ on.stray.its_state) ∙ nat_eq_refl on.state.0) in
              let never : false ≡ true = sym on.stray.bare ∙ has in
              absurd cc

      by_given : (b : Bool) → is_given_target s.history.rows (aim_of s) old ≡ b → ⊥
      by_given true is = by_target (target_entry s.history.rows old.nav (aim_of s)) refl is
      by_given false is =
          let yes : is_needing s.history.rows (aim_of s) old ≡ true = ap (λ (b : Bool). is_asleep old || old.is_unmet || not b) is ∙ third (is_asleep old) old.is_unmet in
          let never : true ≡ false = sym yes ∙ none in
          absurd cc

  -- who is visited in need then was so before
  pub record WasInNeed (nav : NavId) (place : Place) : Type 0 where
    pub old : Place
    pub there : place_of s nav ≡ Some old
    pub need : IsVisitedInNeed s old
    pub epoch : place.epoch.0 ≡ old.epoch.0

  pub need_before : (nav : NavId) (place : Place) → place_of t nav ≡ Some place → IsVisitedInNeed t place → WasInNeed nav place
  need_before nav place at need = by_old (place_of s nav) refl
    where
      by_place : (old : Place) → place_of s nav ≡ Some old → WasInNeed nav place
      by_place old there =
          record { old = old; there = there; need = record { shown = shown; reached = reached; needs = by_needs (is_needing s.history.rows (aim_of s) old) refl }; epoch = epoch_is }
        where
          nav_same : place.nav ≡ old.nav
          nav_same = found_nav t.places nav place at ∙ sym (found_nav s.places nav old there)

          above_is : place.above ≡ old.above
          above_is =
              let two : Some place.above ≡ Some old.above = sym (ap (option_map (λ (p : Place). p.above)) at) ∙ above_same nav ∙ ap (option_map (λ (p : Place). p.above)) there in cc

          epoch_is : place.epoch.0 ≡ old.epoch.0
          epoch_is =
              let two : Some place.epoch.0 ≡ Some old.epoch.0 = sym (ap (option_map (λ (p : Place). p.epoch.0)) at) ∙ read_same (λ (p : Place). p.epoch.0) (λ p. refl) s t turn nav ∙ ap (option_map (λ (p : Place). p.epoch.0)) there in cc

          shown : is_shown s.history.rows (aim_of s) old.nav ≡ true
          shown =
              sym (ap (λ (h : History). is_shown h.rows (aim_of t) place.nav) turn.history ∙ ap (λ (step : ℕ). is_shown s.history.rows step place.nav) turn.aim ∙ ap (is_shown s.history.rows (aim_of s)) nav_same)
              ∙ need.shown

          reached : list_any (is_stopping s.history.rows (aim_of s) s.places) old.above ≡ false
          reached =
              ap (list_any (is_stopping s.history.rows (aim_of s) s.places)) (sym above_is)
              ∙ none_then (is_stopping t.history.rows (aim_of t) t.places) (is_stopping s.history.rows (aim_of s) s.places) place.above (λ n free. (stop_was n free).1) need.reached

          off : is_needing s.history.rows (aim_of s) old ≡ false → IsOnStray s nav → ⊥
          off none on = by_under on.under
            where
              old_is : on.place ≡ old
              old_is = let two : Some on.place ≡ Some old = sym on.placed ∙ there in cc

              by_under : ((nav.0 == on.over.0) ≡ true) ⊎ (is_below on.over on.place ≡ true) → ⊥
              by_under (inl same) = needed nav old there none on same
              by_under (inr below) =
                  let has : has_nav place.above on.over ≡ true = ap (λ (l : List NavId). has_nav l on.over) above_is ∙ ap (λ (p : Place). has_nav p.above on.over) (sym old_is) ∙ below in
                  (stop_was on.over (at_each (is_stopping t.history.rows (aim_of t) t.places) place.above on.over need.reached has)).0
                  (record { over = on.over; own = on.own; there = on.there; doc = on.doc; wakes = on.wakes; state = on.state; stray = on.stray; place = on.own; placed = on.there; under = inl (nat_eq_refl on.over.0) })

          by_needs : (b : Bool) → is_needing s.history.rows (aim_of s) old ≡ b → is_needing s.history.rows (aim_of s) old ≡ true
          by_needs true is = is
          by_needs false none =
              let two : Some place ≡ Some old = sym at ∙ turn.stays nav (off none) ∙ there in
              let one : place ≡ old = cc in
              let needs : is_needing s.history.rows (aim_of s) old ≡ true = sym (ap (λ (h : History). is_needing h.rows (aim_of t) place) turn.history ∙ ap (λ (step : ℕ). is_needing s.history.rows step place) turn.aim ∙ ap (is_needing s.history.rows (aim_of s)) one) ∙ need.needs in
              needs

      by_old : (o : Option Place) → place_of s nav ≡ o → WasInNeed nav place
      by_old None none =
          let never : Some place.above ≡ None = sym (ap (option_map (λ (p : Place). p.above)) at) ∙ above_same nav ∙ ap (option_map (λ (p : Place). p.above)) none in absurd cc
      by_old (Some old) there = by_place old there

  -- and is moved by whom it was to be
  pub moves_on : (why : Why) → MovesVisited s why → MovesVisited t why
  moves_on why moves nav place at need epoch =
      let was : WasInNeed nav place = need_before nav place at need in
      turn.moved why nav (moves nav was.old was.there was.need (subst (λ (n : ℕ). 1 ≤ n) was.epoch epoch))

  -- what was stray is discarded
  stray_gone : (doc : DocId) (state : StateId) → IsStray s doc state → holds (λ (d : Document). d.is_discarded) (document_of t doc) ≡ true
  stray_gone doc state stray = by_found (document_of t doc) refl
    where
      by_flag : (x : Document) → document_of t doc ≡ Some x → (b : Bool) → x.is_discarded ≡ b → holds (λ (d : Document). d.is_discarded) (document_of t doc) ≡ true
      by_flag x at true is = ap (λ (o : Option Document). holds (λ (d : Document). d.is_discarded) o) at ∙ is
      by_flag x at false is =
          let states : Some x.state ≡ Some stray.document.state = sym (ap (option_map (λ (d : Document). d.state)) at) ∙ turn.states doc ∙ ap (option_map (λ (d : Document). d.state)) stray.found in
          let readies : Some x.is_ready ≡ Some stray.document.is_ready = sym (ap (option_map (λ (d : Document). d.is_ready)) at) ∙ turn.ready doc ∙ ap (option_map (λ (d : Document). d.is_ready)) stray.found in
          let state_is : x.state ≡ stray.document.state = cc in
          let ready_is : x.is_ready ≡ stray.document.is_ready = cc in
          absurd (swept doc state (record {
            document = x;
            found = at;
            its_state = state_is ∙ stray.its_state;
            ready = ready_is ∙ stray.ready;
            undiscarded = is;
            bare = ap (λ (h : History). has_state state h.rows) turn.history ∙ stray.bare;
            unloaded = unloaded_same t s (λ r. sym (turn.looks r)) state stray.unloaded;
          }))

      by_found : (o : Option Document) → document_of t doc ≡ o → holds (λ (d : Document). d.is_discarded) (document_of t doc) ≡ true
      by_found (Some x) at = by_flag x at x.is_discarded refl
      by_found None at =
          let never : None ≡ Some stray.document.state = sym (ap (option_map (λ (d : Document). d.state)) at) ∙ turn.states doc ∙ ap (option_map (λ (d : Document). d.state)) stray.found in
          absurd cc

  -- who was awake on a document is so still, or that one is discarded
  pub still_swept : (nav : NavId) (place : Place) (x : DocId) → place_of s nav ≡ Some place → place.status ≡ awake x → WasAwake t nav x ⊎ (holds (λ (d : Document). d.is_discarded) (document_of t x) ≡ true)
  still_swept nav place x at wakes = by_stray (has_state home.document.state s.history.rows) refl
    where
      home : IsAtHome s.documents place.nav x
      home = (tab.homes.homed nav place x at wakes).home

      by_stray : (b : Bool) → has_state home.document.state s.history.rows ≡ b → WasAwake t nav x ⊎ (holds (λ (d : Document). d.is_discarded) (document_of t x) ≡ true)
      by_stray false bare =
          inr (stray_gone x home.document.state (record {
            document = home.document;
            found = home.found;
            its_state = refl;
            ready = home.ready;
            undiscarded = home.undiscarded;
            bare = bare;
            unloaded = awake_unloaded s tab.loading tab.shown.ever nav place x home.document at wakes home.found;
          }))
      by_stray true has =
          inl (record { place = place; placed = turn.stays nav off ∙ at; wakes = wakes })
        where
          off : IsOnStray s nav → ⊥
          off on =
              let it = on_stray run loads hand s tab nav place x at wakes on in
              let both : Some it.stray.document ≡ Some home.document = sym it.stray.found ∙ home.found in
              let one : it.stray.document ≡ home.document = cc in
              let never : true ≡ false = sym has ∙ ap (λ (d : Document). has_state d.state s.history.rows) (sym one) ∙ ap (λ (y : StateId). has_state y s.history.rows) it.stray.its_state ∙ it.stray.bare in
              cc

  -- what was discarded is so still
  pub gone_swept : (doc : DocId) → holds (λ (d : Document). d.is_discarded) (document_of s doc) ≡ true → holds (λ (d : Document). d.is_discarded) (document_of t doc) ≡ true
  gone_swept doc discarded = ap (λ (o : Option Document). holds (λ (d : Document). d.is_discarded) o) (turn.others doc none) ∙ discarded
    where
      none : IsNoStray s doc
      none state stray =
          let never : true ≡ false = sym discarded ∙ ap (λ (o : Option Document). holds (λ (d : Document). d.is_discarded) o) stray.found ∙ stray.undiscarded in
          cc
