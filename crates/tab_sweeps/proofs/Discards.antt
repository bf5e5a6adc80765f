-- A stray document was discarded: what is left.
use Rattle.tab_doors.proofs.PassedOn.{sent_now}
use Rattle.seen_facts.proofs.Hang.Hung.{places_distinct}
use Rattle.seen_facts.proofs.Load.Rows.{look_blind}
use Rattle.seen_facts.specs.Load.Loading.{look, look_of}
use Rattle.log_model.specs.After.{after}
use Rattle.log_model.specs.AfterPlaces.{sleepers_with, without_doc}
use Rattle.log_model.specs.Checks.{may_go_on}
use Rattle.log_model.specs.Equal.{has_doc}
use Rattle.log_model.specs.History.{has_nav}
use Rattle.log_model.specs.Places.{is_below}
use Rattle.log_model.specs.Seen.{Asked, Document, Place, Seen, asleep, document_of, place_of, request_of}
use Rattle.log_model.specs.declared.job.Job.{Job}
use Rattle.log_model.specs.declared.job.Why.{Why}
use Rattle.log_model.specs.declared.row_kind.RowKind.{RowKind}
use Rattle.seen_facts.proofs.Mover.Places.{sleep_ways}
use Rattle.seen_facts.specs.Mover.Movers.{IsMovedBy}
use Rattle.seen_facts.specs.Asked.Asking.{HavePassed}
use Rattle.seen_facts.proofs.Request.Readers.{sent_reads}
use Rattle.row_facts.proofs.RestRows.Again.{doc_same}
use Rattle.seen_laws.proofs.Keyed.{find_on_other, find_on_same}
use Rattle.seen_laws.specs.InEvent.{now_of, row_of}
use Rattle.std.proofs.Common.{Bool, List, None, Option, Some, [], ap, cond, false, inl, inr, refl, subst, sym, true, ◌++◌, ◌==◌, ◌||◌, ◌∙◌, ◌∷◌, ◌≡◌, ◌⊎◌}
use Rattle.std.specs.Prelude.{option_map}
use Rattle.tab_doors.specs.Orders.{order_to}
use Rattle.tab_doors.specs.declared.tables.Tables.{Tables}
use Rattle.tab_ids.specs.declared.DocId.{DocId}
use Rattle.tab_ids.specs.declared.NavId.{NavId}
use Rattle.tab_ids.specs.declared.ReqId.{ReqId}
use Rattle.tab_ids.specs.declared.StateId.{StateId}
use Rattle.tab_passes.proofs.Goings.{goes_on}
use Rattle.tab_passes.proofs.Serveds.{served_causes}
use Rattle.tab_passes.specs.Causes.{MayCause, MayServe}
use Rattle.tab_passes.specs.Leaving.{IsLeavingIn}
use Rattle.tab_passes.specs.Passing.{InPass}
use Rattle.tab_sweeps.proofs.Loads.{unloaded_same}
use Rattle.tab_sweeps.proofs.MayLeaves.{may_leave_looks, way_same}
use Rattle.tab_sweeps.proofs.Unders.{sleeper_is}
use Rattle.tab_sweeps.specs.Sweeping.{IsNoStray, IsOnStray, IsStray, IsSweptTurn, LeavesAwake, MovesUnder, but_status}
use Rattle.seen_facts.proofs.Walk.Placed.{found_nav}
use Rattle.seen_facts.proofs.Walk.Sleepers.{slept, slept_same}
use Rattle.row_facts.proofs.WalkRows.Leaves.{sent_aim}
use Rattle.row_facts.proofs.WalkRows.Moved.{sent_moved}
use Rattle.row_facts.proofs.WalkRows.Sinces.{sent_since, since_itself}
use Rattle.row_facts.proofs.WalkRows.Sleeping.{place_sleeps}
use Rattle.row_facts.specs.WalkRows.Since.{AwakeSince, WasAwake}
use Rattle.log_model.specs.declared.job.Task.TheVariants as tasks
use Rattle.log_model.specs.declared.row_kind.RowKind.TheVariants as rows

-- one that is taken out of a list
without_has : (doc x : DocId) (docs : List DocId) → (doc.0 == x.0) ≡ false → has_doc (without_doc doc docs) x ≡ has_doc docs x
without_has doc x [] apart = refl
without_has doc x (d ∷ docs) apart = by_tests (d.0 == doc.0) refl (without_has doc x docs apart)
  where
    skips : (d.0 == doc.0) ≡ true → (d.0 == x.0) ≡ false
    skips same = ap (λ (y : DocId). y.0 == x.0) (doc_same d doc same) ∙ apart

    by_tests : (b : Bool) → (d.0 == doc.0) ≡ b → has_doc (without_doc doc docs) x ≡ has_doc docs x → has_doc (without_doc doc (d ∷ docs)) x ≡ has_doc (d ∷ docs) x
    by_tests true same rest = rw same (rest ∙ sym (ap (λ (b : Bool). b || has_doc docs x) (skips same)))
    by_tests false other rest = rw other (ap (λ (b : Bool). (d.0 == x.0) || b) rest)

-- in s, the document being a stray one
module _ {sweeps : Bool} (p : InPass) {left : List DocId} (out : List RowKind) (t : Tables) (leaving : IsLeavingIn sweeps p None left out t) (doc : DocId) (state : StateId) (stray : IsStray (now_of p.event out) doc state) (why : Why) where
  abbrev s : Seen
  s = now_of p.event out

  abbrev pub discard : Job
  discard = order_to s doc why tasks.Discard

  abbrev pub then_ : Seen
  then_ = after s (row_of p.event (rows.Sent discard))

  all_passed : HavePassed s
  all_passed = leaving.going.tab.asked.passed

  -- ---- the documents

  discarded : document_of then_ doc ≡ Some (record stray.document { is_discarded = true })
  discarded =
      find_on_same (λ (y : Document). y.nr.0) (λ (y : Document). record y { is_discarded = true }) doc.0 s.documents (λ y. refl)
      ∙ ap (λ (o : Option Document). option_map (λ (y : Document). record y { is_discarded = true }) o) stray.found

  other_then : (x : DocId) → (doc.0 == x.0) ≡ false → document_of then_ x ≡ document_of s x
  other_then x apart = find_on_other (λ (y : Document). y.nr.0) (λ (y : Document). record y { is_discarded = true }) doc.0 x.0 s.documents (λ y. refl) apart

  looks_then : (r : ReqId) → look_of then_ r ≡ look_of s r
  looks_then r = sent_reads look look_blind s discard tasks.Discard s.requests r

  -- another stray one is so still
  pub stray_still : (x : DocId) (own : StateId) → (doc.0 == x.0) ≡ false → IsStray s x own → IsStray then_ x own
  stray_still x own apart its =
      record {
        document = its.document;
        found = other_then x apart ∙ its.found;
        its_state = its.its_state;
        ready = its.ready;
        undiscarded = its.undiscarded;
        bare = its.bare;
        unloaded = unloaded_same then_ s (λ r. sym (looks_then r)) own its.unloaded;
      }

  -- one that is stray then is another one, and was
  pub stray_apart : (x : DocId) (own : StateId) → IsStray then_ x own → (doc.0 == x.0) ≡ false
  stray_apart x own its = by_test (doc.0 == x.0) refl
    where
      by_test : (b : Bool) → (doc.0 == x.0) ≡ b → (doc.0 == x.0) ≡ false
      by_test false e = e
      by_test true e =
          let two : Some its.document ≡ Some (record stray.document { is_discarded = true }) = sym its.found ∙ ap (λ (n : DocId). document_of then_ n) (sym (doc_same doc x e)) ∙ discarded in
          let one : its.document ≡ record stray.document { is_discarded = true } = cc in
          let never : false ≡ true = sym its.undiscarded ∙ ap (λ (d : Document). d.is_discarded) one in
          absurd cc

  pub stray_was : (x : DocId) (own : StateId) → IsStray then_ x own → IsStray s x own
  stray_was x own its =
      record {
        document = its.document;
        found = sym (other_then x (stray_apart x own its)) ∙ its.found;
        its_state = its.its_state;
        ready = its.ready;
        undiscarded = its.undiscarded;
        bare = its.bare;
        unloaded = unloaded_same s then_ looks_then own its.unloaded;
      }

  -- one that isn't stray is another one
  apart_of : (x : DocId) → IsNoStray s x → (doc.0 == x.0) ≡ false
  apart_of x none = by_test (doc.0 == x.0) refl
    where
      by_test : (b : Bool) → (doc.0 == x.0) ≡ b → (doc.0 == x.0) ≡ false
      by_test false e = e
      by_test true e = absurd (none state (subst (λ (d : DocId). IsStray s d state) (doc_same doc x e) stray))

  -- ---- the navigables

  moved_then : (reason : Why) (nav : NavId) → IsMovedBy s reason nav → IsMovedBy then_ reason nav
  moved_then reason nav by = sent_moved s p.event.event p.event.actor reason nav by discard tt

  awake_then : AwakeSince s [] then_
  awake_then = sent_since s s [] (since_itself s) p.event.event p.event.actor discard tt

  then_place : (nav : NavId) → place_of then_ nav ≡ option_map (slept (sleepers_with s doc) why) (place_of s nav)
  then_place nav = place_sleeps s p.event.event p.event.actor discard tasks.Discard refl tt nav

  places_then : (nav : NavId) → option_map but_status (place_of then_ nav) ≡ option_map but_status (place_of s nav)
  places_then nav = ap (option_map but_status) (then_place nav) ∙ by_old (place_of s nav)
    where
      by_test : (old : Place) (b : Bool) → but_status (cond b (record old { status = asleep; why = why }) old) ≡ but_status old
      by_test old true = refl
      by_test old false = refl

      by_old : (o : Option Place) → option_map but_status (option_map (slept (sleepers_with s doc) why) o) ≡ option_map but_status o
      by_old None = refl
      by_old (Some old) = ap (λ (p : Place). Some p) (by_test old (has_nav (sleepers_with s doc) old.nav))

  states_then : (x : DocId) → option_map (λ (d : Document). d.state) (document_of then_ x) ≡ option_map (λ (d : Document). d.state) (document_of s x)
  states_then x = by_test (doc.0 == x.0) refl
    where
      by_test : (b : Bool) → (doc.0 == x.0) ≡ b → option_map (λ (d : Document). d.state) (document_of then_ x) ≡ option_map (λ (d : Document). d.state) (document_of s x)
      by_test false apart = ap (option_map (λ (d : Document). d.state)) (other_then x apart)
      by_test true same =
          subst (λ (n : DocId). option_map (λ (d : Document). d.state) (document_of then_ n) ≡ option_map (λ (d : Document). d.state) (document_of s n)) (doc_same doc x same)
          (ap (option_map (λ (d : Document). d.state)) discarded ∙ sym (ap (option_map (λ (d : Document). d.state)) stray.found))

  ready_then : (x : DocId) → option_map (λ (d : Document). d.is_ready) (document_of then_ x) ≡ option_map (λ (d : Document). d.is_ready) (document_of s x)
  ready_then x = by_test (doc.0 == x.0) refl
    where
      by_test : (b : Bool) → (doc.0 == x.0) ≡ b → option_map (λ (d : Document). d.is_ready) (document_of then_ x) ≡ option_map (λ (d : Document). d.is_ready) (document_of s x)
      by_test false apart = ap (option_map (λ (d : Document). d.is_ready)) (other_then x apart)
      by_test true same =
          subst (λ (n : DocId). option_map (λ (d : Document). d.is_ready) (document_of then_ n) ≡ option_map (λ (d : Document). d.is_ready) (document_of s n)) (doc_same doc x same)
          (ap (option_map (λ (d : Document). d.is_ready)) discarded ∙ sym (ap (option_map (λ (d : Document). d.is_ready)) stray.found))

  -- who isn't on a stray one, or below one, stays as it is
  stays_then : (nav : NavId) → (IsOnStray s nav → ⊥) → place_of then_ nav ≡ place_of s nav
  stays_then nav none = then_place nav ∙ by_old (place_of s nav) refl
    where
      on_it : (old : Place) → place_of s nav ≡ Some old → has_nav (sleepers_with s doc) old.nav ≡ true → IsOnStray s nav
      on_it old there has =
          let it = sleeper_is s doc nav (places_distinct s leaving.going.tab.sound leaving.going.tab.hangs) (ap (has_nav (sleepers_with s doc)) (sym (found_nav s.places nav old there)) ∙ has) in
          record { over = it.shower.nav; own = it.shower; there = it.placed; doc = doc; wakes = it.wakes; state = state; stray = stray; place = it.under; placed = it.at; under = it.is }

      by_sleeps : (old : Place) → place_of s nav ≡ Some old → (b : Bool) → has_nav (sleepers_with s doc) old.nav ≡ b → option_map (slept (sleepers_with s doc) why) (Some old) ≡ Some old
      by_sleeps old there false out = ap (λ (b : Bool). Some (cond b (record old { status = asleep; why = why }) old)) out
      by_sleeps old there true has = absurd (none (on_it old there has))

      by_old : (o : Option Place) → place_of s nav ≡ o → option_map (slept (sleepers_with s doc) why) o ≡ o
      by_old None there = refl
      by_old (Some old) there = by_sleeps old there (has_nav (sleepers_with s doc) old.nav) refl

  -- a place then is that of before, at most asleep
  record WasPlaced (nav : NavId) (place : Place) : Type 0 where
    old : Place
    found : place_of s nav ≡ Some old
    above : place.above ≡ old.above

  was_placed : (nav : NavId) (place : Place) → place_of then_ nav ≡ Some place → WasPlaced nav place
  was_placed nav place at = by_old (place_of s nav) refl
    where
      by_old : (o : Option Place) → place_of s nav ≡ o → WasPlaced nav place
      by_old None there =
          let never : None ≡ Some place = sym (then_place nav ∙ ap (option_map (slept (sleepers_with s doc) why)) there) ∙ at in
          absurd cc
      by_old (Some old) there =
          let two : Some (slept (sleepers_with s doc) why old) ≡ Some place = sym (then_place nav ∙ ap (option_map (slept (sleepers_with s doc) why)) there) ∙ at in
          let same : slept (sleepers_with s doc) why old ≡ place = cc in
          record { old = old; found = there; above = ap (λ (q : Place). q.above) (sym same) ∙ (slept_same (sleepers_with s doc) why old).1 }

  pub under_then : (x : DocId) (reason : Why) → MovesUnder s x reason → MovesUnder then_ x reason
  under_then x reason moves nav place other under placed wakes at is =
      let was : WasAwake s nav x = awake_then nav place x refl placed wakes in
      let old : WasPlaced other under = was_placed other under at in
      moved_then reason other (moves nav was.place other old.old was.placed was.wakes old.found (by_case old.old old.above is))
    where
      by_case : (old : Place) → under.above ≡ old.above → ((other.0 == nav.0) ≡ true) ⊎ (is_below nav under ≡ true) → ((other.0 == nav.0) ≡ true) ⊎ (is_below nav old ≡ true)
      by_case old same (inl e) = inl e
      by_case old same (inr e) = inr (ap (λ (l : List NavId). has_nav l nav) (sym same) ∙ e)

  -- a request that may leave whoever is awake on a document may still
  pub leaves_then : (x : DocId) (req : ReqId) → MayServe then_ req → LeavesAwake s x req → LeavesAwake then_ x req
  leaves_then x req may leaves nav place placed wakes =
      let was : WasAwake s nav x = awake_then nav place x refl placed wakes in
      may_leave_looks s then_ req nav may (looks_then req) (way_same s then_ nav above) (leaves nav was.place was.placed was.wakes)
    where
      through : (o : Option Place) → option_map (λ (q : Place). q.above) (option_map but_status o) ≡ option_map (λ (q : Place). q.above) o
      through None = refl
      through (Some q) = refl

      above : option_map (λ (q : Place). q.above) (place_of then_ nav) ≡ option_map (λ (q : Place). q.above) (place_of s nav)
      above =
          sym (through (place_of then_ nav)) ∙ ap (option_map (λ (q : Place). q.above)) (places_then nav) ∙ through (place_of s nav)

  -- ---- the row was put out

  module _ (new : List RowKind) (u : Tables) (is : new ≡ out ++ rows.Sent discard ∷ []) {then_left : List DocId} (leaving_ : IsLeavingIn sweeps p None then_left new u) where
    pub now_is : then_ ≡ now_of p.event new
    now_is = sym (ap (λ (x : List RowKind). now_of p.event x) is ∙ sent_now p.event out discard refl)

    pub causes_then : (cause : Why) → MayCause s cause → MayCause then_ cause
    causes_then cause may =
        served_causes s p.event discard cause (subst (λ (x : Seen). (r : ReqId) (q : Asked) → request_of x r ≡ Some q → may_go_on x r ≡ true) (sym now_is) (goes_on (now_of p.event new) u.running leaving_.going.tab.asked)) may

    turn_then : IsSweptTurn s then_
    turn_then =
        record {
          history = refl;
          aim = sent_aim s p.event.event p.event.actor discard all_passed tt;
          looks = looks_then;
          parked = refl;
          causes = causes_then;
          moved = moved_then;
          awake_ = awake_then;
          ways = sleep_ways (sleepers_with s doc) why s.places;
          places = places_then;
          states = states_then;
          ready = ready_then;
          stays = stays_then;
          others = λ x none. other_then x (apart_of x none);
          kept = λ x none. without_has doc x s.kept (apart_of x none);
          fewer = stray_was;
        }

    pub swept_turn : IsSweptTurn s (now_of p.event new)
    swept_turn = subst (λ (x : Seen). IsSweptTurn s x) now_is turn_then
