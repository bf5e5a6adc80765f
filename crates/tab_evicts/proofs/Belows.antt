-- A document that hangs below a discarded one may be discarded, since nobody is awake on it.
use Rattle.seen_laws.proofs.InEvents as events
use Rattle.seen_facts.specs.Doc.Docs.{HasPlace}
use Rattle.seen_facts.proofs.Hang.Hung.{places_distinct}
use Rattle.seen_facts.proofs.Hang.Parts.{state_is}
use Rattle.seen_facts.specs.Kept.Keeping.{kept_states}
use Rattle.row_facts.proofs.LeaveRows.LeftMays.{below_left_may}
use Rattle.row_facts.specs.LeaveRows.Evicting.{IsBelowDue}
use Rattle.log_model.proofs.Refl.{nat_eq_refl}
use Rattle.log_model.specs.AfterPlaces.{sleepers_with}
use Rattle.log_model.specs.Orders.{is_below_gone}
use Rattle.log_model.specs.Places.{hangs_on}
use Rattle.log_model.specs.Seen.{Document, Place, Seen, awake, desk_of, document_of, place_in, place_of}
use Rattle.log_model.specs.declared.job.Job.{Job}
use Rattle.log_model.specs.declared.job.Why.{Why}
use Rattle.log_model.specs.declared.row_kind.RowKind.{RowKind}
use Rattle.nav_tree.specs.Tree.{state_of}
use Rattle.page_cache.specs.Kept.{left_first, without}
use Rattle.seen_laws.proofs.InEvents.{led_here}
use Rattle.seen_laws.specs.InEvent.{InEvent, here_of, now_of}
use Rattle.std.proofs.Common.{Bool, List, None, Option, Some, [], ap, false, length, map, refl, subst, sym, true, ℕ, ◌++◌, ◌==◌, ◌∙◌, ◌∷◌, ◌≡◌, ◌≤◌}
use Rattle.std.specs.Prelude.{if◌then◌else◌, option_and_then, option_map}
use Rattle.tab_doors.proofs.Sights.{seen_of, sight_of}
use Rattle.tab_doors.proofs.Leavable.{IsLeftAs, below_log, discards_log, numbered_log}
use Rattle.tab_doors.proofs.Works.{numbered}
use Rattle.tab_doors.specs.Keeping.{LetsGo, Move, with_left}
use Rattle.tab_doors.specs.Look.{Sight, is_live_for, sight}
use Rattle.tab_doors.specs.Orders.{order_to, proc_at}
use Rattle.tab_doors.specs.Ties.{birth_of, nav_in}
use Rattle.tab_doors.specs.Working.{IsAtWorkIn, KeepsStore, MaySend}
use Rattle.tab_doors.specs.declared.tables.Tables.{Tables}
use Rattle.tab_doors.specs.declared.birth.Birth.{Birth}
use Rattle.tab_evicts.proofs.Cuts.{fitting_fits, fitting_leaves}
use Rattle.tab_evicts.proofs.Hangings.{hangs_same}
use Rattle.tab_evicts.proofs.Theres.{there_apart, there_elsewhere, there_gone, there_unloaded}
use Rattle.tab_evicts.specs.Evicting.{IsThereBelow}
use Rattle.row_facts.specs.Left.Left.{WereShown}
use Rattle.row_facts.specs.LeaveRows.MayLeave.{MayBeLeft}
use Rattle.tab_evicts.proofs.Offs.{off_gone, quiet_left}
use Rattle.tab_evicts.proofs.Quiets.{IsQuiet, gone_seen, gone_leaving, gone_looks, gone_may, gone_now, gone_other, gone_places, gone_states, gone_stays, gone_were, one_document, one_of_state, quiet_discards}
use Rattle.tab_evicts.specs.Evicting.{InEvicting, InLetting, IsBeside, IsGoneFor, IsLetting, NoLoadBelow, NoneBelow, StaysPlaced, below_in, hangs_in, move_in}
use Rattle.tab_ids.specs.declared.DocId.{DocId}
use Rattle.tab_ids.specs.declared.NavId.{NavId}
use Rattle.tab_ids.specs.declared.StateId.{StateId}
use Rattle.tab_passes.proofs.Lives.{live_parts, there_for}
use Rattle.tab_passes.proofs.Stand.{depth_is}
use Rattle.tab_passes.specs.Leaving.{IsLeavingIn, left_then}
use Rattle.tab_passes.specs.Passing.{InPass}
use Rattle.seen_facts.proofs.Walk.Placed.{found_nav}
use Rattle.row_facts.proofs.WalkRows.Sleeping.{no_shower, nobody_awake}
use Rattle.log_model.specs.declared.job.Task.TheVariants as tasks
use Rattle.log_model.specs.declared.row_kind.RowKind.TheVariants as rows

-- such an order may be sent
pub below_ahead : {sweeps : Bool} (e : InEvent) (out : List RowKind) (move : Option Move) (t : Tables) (doc : DocId) (why : Why) (d : Document) → IsAtWorkIn sweeps move e out t → MayBeLeft (here_of e out) (order_to (now_of e out) doc why tasks.Discard) → IsBelowDue (now_of e out) (order_to (now_of e out) doc why tasks.Discard) d → (desk_of (now_of e out) (proc_at (now_of e out) doc)).known ≡ 0 → MaySend move e out (order_to (now_of e out) doc why tasks.Discard)
below_ahead {sweeps} e out move t doc why d work left due known later ahead =
    below_left_may (here_of e out) e.event e.actor order its.d (led_here e out work.own) (numbered_log e out (events.now_is e out) order (numbered (now_of e out) (proc_at (now_of e out) doc) doc why tasks.Discard known)) (below_log e out (events.now_is e out) order d its due) later (ahead.1, tt)
  where
    order : Job
    order = order_to (now_of e out) doc why tasks.Discard

    its : IsLeftAs e out order d
    its =
        discards_log e out (events.now_is e out) order d left due.discards

-- ---- a document below

-- the document is there for the state, and its navigable is below the one that is gone
record IsBelow (s : Seen) (t : Tables) (gone : StateId) (doc : DocId) (its : StateId) : Type 0 where
  document : Document
  found : document_of s doc ≡ Some document
  its_state : document.state ≡ its
  ready : document.is_ready ≡ true
  undiscarded : document.is_discarded ≡ false
  unknown : document.is_known_dead ≡ false
  place : Place
  placed : place_of s document.nav ≡ Some place
  below : hangs_on gone place ≡ true

module _ (l : InLetting) (gone : StateId) (why : Why) (out : List RowKind) (t : Tables) (so : IsLetting l gone why out t) where
  abbrev p : InPass
  p = l.pass

  abbrev move : Option Move
  move = move_in l

  abbrev s : Seen
  s = now_of p.event out

  -- what the tables tell is so
  is_below : (doc : DocId) (its : StateId) → below_in t gone doc ≡ Some its → IsBelow s t gone doc its
  is_below doc its is = by_nav (nav_in t.whose.entries doc) refl is
    where
      by_there : (nav : NavId) → nav_in t.whose.entries doc ≡ Some nav → hangs_in t.tree gone nav ≡ true → state_of doc t.tree ≡ Some its → IsBelow s t gone doc its
      by_there nav at hangs lives =
          let there = there_for (map sight s.documents) t so.leaving.work.holds.documents doc its lives in
          let seen = seen_of s doc there.document there.found in
          let parts = live_parts its seen.document (ap (λ (y : Sight). is_live_for its y) seen.is ∙ there.lives) in
          let has : HasPlace s.places seen.document.nav = (so.leaving.going.tab.docs.each doc seen.document seen.found).placed in
          record {
            document = seen.document;
            found = seen.found;
            its_state = parts.0;
            ready = parts.1;
            undiscarded = parts.2;
            unknown = parts.3;
            place = has.place;
            placed = has.found;
            below = sym (same seen.document.nav has.place has.found) ∙ ap (λ (n : NavId). hangs_in t.tree gone n) (sym (nav_is seen.document seen.found)) ∙ hangs;
          }
        where
          nav_is : (d : Document) → document_of s doc ≡ Some d → nav ≡ d.nav
          nav_is d found =
              let both : Some nav ≡ Some d.nav = sym at ∙ ap (λ (o : Option Birth). option_map (λ (b : Birth). b.nav) o) (so.leaving.work.holds.whose doc ∙ ap (λ (o : Option Sight). option_map birth_of o) (sight_of s doc d found)) in
              cc

          same : (n : NavId) (place : Place) → place_of s n ≡ Some place → hangs_in t.tree gone n ≡ hangs_on gone place
          same n place placed =
              hangs_same s t.running t so.leaving.work.holds.navs so.were.owned gone n place so.leaving.going.tab.sound so.leaving.going.tab.hangs placed (depth_is s t.running t so.leaving.work.holds so.leaving.going.tab.sound so.leaving.going.tab.hangs n place placed)

      by_test : (nav : NavId) → nav_in t.whose.entries doc ≡ Some nav → (b : Bool) → hangs_in t.tree gone nav ≡ b → (let o : Option StateId = if b then state_of doc t.tree else None in o) ≡ Some its → IsBelow s t gone doc its
      by_test nav at true hangs h = by_there nav at hangs h
      by_test nav at false hangs h = absurd cc

      by_nav : (o : Option NavId) → nav_in t.whose.entries doc ≡ o → option_and_then (λ (nav : NavId). if hangs_in t.tree gone nav then state_of doc t.tree else None) o ≡ Some its → IsBelow s t gone doc its
      by_nav None at h = absurd cc
      by_nav (Some nav) at h = by_test nav at (hangs_in t.tree gone nav) refl h

  module _ (doc : DocId) (its : StateId) (b : IsBelow s t gone doc its) where
    abbrev it : IsThereBelow s gone doc
    it = record { document = b.document; found = b.found; ready = b.ready; undiscarded = b.undiscarded; unknown = b.unknown; place = b.place; placed = b.placed; below = b.below }

    -- nobody is awake on it
    nobody : sleepers_with s doc ≡ []
    nobody = nobody_awake s doc (no_shower s doc (places_distinct s so.leaving.going.tab.sound so.leaving.going.tab.hangs) never)
      where
        never : (nav : NavId) (place : Place) → place_of s nav ≡ Some place → place.status ≡ awake doc → ⊥
        never nav place placed wakes =
            let home = (so.leaving.going.tab.homes.homed nav place doc placed wakes).home in
            let same : b.document ≡ home.document = one_document s doc b.document home.document b.found home.found in
            let navs : b.document.nav ≡ nav = ap (λ (d : Document). d.nav) same ∙ home.nav_is ∙ found_nav s.places nav place placed in
            let both : Some b.place ≡ Some place = sym b.placed ∙ ap (λ (n : NavId). place_of s n) navs ∙ placed in
            let here : b.place ≡ place = cc in
            let no_ : true ≡ false = sym b.below ∙ ap (λ (q : Place). hangs_on gone q) here ∙ so.none nav place doc placed wakes in
            cc

    quiet : below_in t gone doc ≡ Some its → IsQuiet s t doc its
    quiet is = by_nav (nav_in t.whose.entries doc) refl is
      where
        by_lives : state_of doc t.tree ≡ Some its → IsQuiet s t doc its
        by_lives lives =
            record {
              document = b.document;
              found = b.found;
              its_state = b.its_state;
              ready = b.ready;
              undiscarded = b.undiscarded;
              unknown = b.unknown;
              listed = (there_for (map sight s.documents) t so.leaving.work.holds.documents doc its lives).its;
              nobody = nobody;
              unloaded = there_unloaded s gone doc it t so.leaving.work.loads so.leaving.going.tab.loading so.loads its b.its_state;
            }

        by_test : (c : Bool) → (let o : Option StateId = if c then state_of doc t.tree else None in o) ≡ Some its → IsQuiet s t doc its
        by_test true h = by_lives h
        by_test false h = absurd cc

        by_nav : (o : Option NavId) → nav_in t.whose.entries doc ≡ o → option_and_then (λ (nav : NavId). if hangs_in t.tree gone nav then state_of doc t.tree else None) o ≡ Some its → IsQuiet s t doc its
        by_nav None at h = absurd cc
        by_nav (Some nav) at h = by_test (hangs_in t.tree gone nav) h

  -- ---- it is discarded

  module _ (doc : DocId) (its : StateId) (is : below_in t gone doc ≡ Some its) where
    b : IsBelow s t gone doc its
    b = is_below doc its is

    pub its_quiet : IsQuiet s t doc its
    its_quiet = quiet doc its b is

    abbrev its_there : IsThereBelow s gone doc
    its_there = it doc its b

    apart_gone : (doc.0 == so.gone_for.doc.0) ≡ false
    apart_gone = there_apart s gone doc its_there so.gone_for

    below_gone : is_below_gone s b.document ≡ true
    below_gone = there_gone s gone doc its_there so.gone_for

    -- its state isn't the one that is left
    apart_left : (m : InEvicting) → l.moved ≡ Some m → (its.0 == m.state.0) ≡ false
    apart_left m at = by_test (its.0 == m.state.0) refl
      where
        beside : IsBeside s gone m
        beside = (so.moving m at).beside

        by_test : (c : Bool) → (its.0 == m.state.0) ≡ c → (its.0 == m.state.0) ≡ false
        by_test false e = e
        by_test true e =
            let states : b.document.state ≡ beside.old.state = b.its_state ∙ state_is its m.state e ∙ sym beside.its_state in
            let one : doc ≡ m.left = one_of_state s so.leaving.going.tab.docs doc m.left b.document beside.old b.found beside.found states b.undiscarded beside.undiscarded in
            let apart : (doc.0 == m.left.0) ≡ false = there_elsewhere s gone doc its_there m.left beside.old beside.nav beside.place beside.found beside.its_nav beside.placed beside.outside in
            let no_ : true ≡ false = sym (ap (λ (x : DocId). x.0 == m.left.0) one ∙ nat_eq_refl m.left.0) ∙ apart in
            absurd cc

    pub below_sends : MaySend move p.event out (order_to s doc why tasks.Discard)
    below_sends =
        below_ahead p.event out move t doc why its_quiet.document so.leaving.work (quiet_left p move out t so.leaving why so.may doc its its_quiet so.off)
        (record {
          discards = quiet_discards p move out t so.leaving why so.may doc its its_quiet;
          below = ap (λ (d : Document). is_below_gone s d) (one_document s doc its_quiet.document b.document its_quiet.found b.found) ∙ below_gone;
        })
        (so.leaving.going.tab.asked.died (proc_at s doc)).0

    pub below_lets : LetsGo move t.kept.keep (kept_states s) its
    below_lets = by_move l.moved refl
      where
        by_move : (o : Option InEvicting) → l.moved ≡ o → LetsGo (option_map (λ (m : InEvicting). m.move) o) t.kept.keep (kept_states s) its
        by_move None at = refl
        by_move (Some m) at =
            subst (λ (o : Option StateId). without its (with_left o t.kept.keep (kept_states s)) ≡ with_left o t.kept.keep (without its (kept_states s))) (sym (so.moving m at).noted)
            (fitting_leaves t.kept.keep m.state its (kept_states s) (so.moving m at).room (apart_left m at))

    -- ---- what it leaves

    pub below_done : (new : List RowKind) (u : Tables) → new ≡ out ++ rows.Sent (order_to s doc why tasks.Discard) ∷ [] → KeepsStore t u → IsLeavingIn l.sweeps p move (left_then s doc []) new u → IsLetting l gone why new u
    below_done new u made keeps leaving_ =
        record {
          leaving = leaving;
          may = gone_may p move out t so.leaving why so.may doc its its_quiet new u made leaving;
          were = subst (λ (x : Seen). WereShown x) now_is (gone_were p move out t so.leaving why so.may doc its its_quiet so.were);
          loads = subst (λ (x : Seen). NoLoadBelow x gone) now_is loads_then;
          gone_for = subst (λ (x : Seen). IsGoneFor x gone) now_is gone_then;
          none = subst (λ (x : Seen). NoneBelow x gone) now_is none_then;
          moving = λ m at. record { noted = (so.moving m at).noted; beside = subst (λ (x : Seen). IsBeside x gone m) now_is (beside_then m at); room = room_then m at };
          off = off_gone p move out t so.leaving why so.may doc its its_quiet so.off new u made;
          free = so.free;
        }
      where
        leaving : IsLeavingIn l.sweeps p move [] new u
        leaving = gone_leaving p move out t so.leaving why so.may doc its its_quiet new u made leaving_

        then_ : Seen
        then_ = gone_seen p move out t so.leaving why so.may doc its its_quiet

        now_is : then_ ≡ now_of p.event new
        now_is = gone_now p move out t so.leaving why so.may doc its its_quiet new u made

        places : then_.places ≡ s.places
        places = gone_places p move out t so.leaving why so.may doc its its_quiet

        placed_was : (nav : NavId) (place : Place) → place_of then_ nav ≡ Some place → place_of s nav ≡ Some place
        placed_was nav place at = ap (λ (l : List Place). place_in l nav) (sym places) ∙ at

        other : (x : DocId) → (doc.0 == x.0) ≡ false → document_of then_ x ≡ document_of s x
        other x apart = gone_other p move out t so.leaving why so.may doc its its_quiet x apart

        loads_then : NoLoadBelow then_ gone
        loads_then req l nav place at ongoing own placed =
            so.loads req l nav place (sym (gone_looks p move out t so.leaving why so.may doc its its_quiet req) ∙ at) ongoing own (placed_was nav place placed)

        gone_then : IsGoneFor then_ gone
        gone_then =
            record {
              doc = so.gone_for.doc;
              document = so.gone_for.document;
              found = other so.gone_for.doc apart_gone ∙ so.gone_for.found;
              discarded = so.gone_for.discarded;
              its_state = so.gone_for.its_state;
            }

        none_then : NoneBelow then_ gone
        none_then nav place x placed wakes = so.none nav place x (placed_was nav place placed) wakes

        beside_then : (m : InEvicting) → l.moved ≡ Some m → IsBeside then_ gone m
        beside_then m at =
            let beside : IsBeside s gone m = (so.moving m at).beside in
            record {
              nav = beside.nav;
              place = beside.place;
              placed = ap (λ (l : List Place). place_in l beside.nav) places ∙ beside.placed;
              outside = beside.outside;
              old = beside.old;
              found = other m.left (there_elsewhere s gone doc its_there m.left beside.old beside.nav beside.place beside.found beside.its_nav beside.placed beside.outside) ∙ beside.found;
              its_nav = beside.its_nav;
              its_state = beside.its_state;
              undiscarded = beside.undiscarded;
              new_found = other m.move.doc (there_elsewhere s gone doc its_there m.move.doc m.new beside.nav beside.place beside.new_found beside.new_nav beside.placed beside.outside) ∙ beside.new_found;
              new_nav = beside.new_nav;
            }

        room_then : (m : InEvicting) → l.moved ≡ Some m → length (left_first m.state (kept_states (now_of p.event new))) ≤ u.kept.keep
        room_then m at =
            subst (λ (n : ℕ). length (left_first m.state (kept_states (now_of p.event new))) ≤ n) (sym keeps.keep)
            (subst (λ (x : Seen). length (left_first m.state (kept_states x)) ≤ t.kept.keep) now_is
            (subst (λ (l : List StateId). length (left_first m.state l) ≤ t.kept.keep) (sym (gone_states p move out t so.leaving why so.may doc its its_quiet)) (fitting_fits t.kept.keep m.state its (kept_states s) (so.moving m at).room (apart_left m at))))

    pub below_stays : (new : List RowKind) (u : Tables) → new ≡ out ++ rows.Sent (order_to s doc why tasks.Discard) ∷ [] → StaysPlaced s (now_of p.event new)
    below_stays new u made =
        subst (λ (x : Seen). StaysPlaced s x) (gone_now p move out t so.leaving why so.may doc its its_quiet new u made) (gone_stays p move out t so.leaving why so.may doc its its_quiet)
