-- A report tells that a document was made: what the event's own row leaves of documents, and of the loads that have them.
use Rattle.tab_facts.proofs.Calm.Loads.{HasOne, loads_then}
use Rattle.tab_facts.specs.Calm.Loads.{LoadsHaveDocuments}
use Rattle.seen_facts.specs.Home.Homes.{IsHomed, document_in}
use Rattle.seen_facts.specs.Kept.Keeping.{state_in}
use Rattle.row_facts.proofs.Left.Rows.{were_shown}
use Rattle.seen_facts.specs.Load.Loading.{look}
use Rattle.seen_facts.proofs.Hang.Members.{find_has}
use Rattle.log_model.proofs.Refl.{nat_eq_refl}
use Rattle.log_model.specs.History.{has_row}
use Rattle.log_model.specs.Orders.{is_being_made, is_usable, ongoing_load}
use Rattle.log_model.specs.Places.{is_moved_in}
use Rattle.log_model.specs.Seen.{Asked, Document, Place, Seen, Status, awake, document_of, place_in, place_of, request_in}
use Rattle.log_model.specs.declared.job.Job.{Job}
use Rattle.log_model.specs.declared.job.Task.{Task}
use Rattle.log_model.specs.declared.outcome.Outcome.{Outcome}
use Rattle.move_queue.specs.Queue.{Queue}
use Rattle.seen_facts.proofs.Place.Documents.{KeepStates, states_stay}
use Rattle.seen_laws.proofs.Keyed.{find_map}
use Rattle.seen_laws.specs.InEvent.{InEvent, now_of}
use Rattle.std.proofs.Common.{Bool, List, None, Option, Some, [], ap, cond, eqb-true, false, inl, inr, map, not, refl, subst, sym, true, ℕ, ◌&&◌, ◌==◌, ◌∙◌, ◌∷◌, ◌≡◌, ◌⊎◌}
use Rattle.std.proofs.lemmas.List.{map-id}
use Rattle.std.specs.List.{filter_map}
use Rattle.std.specs.Prelude.{option_map}
use Rattle.tab_doors.specs.declared.tables.Tables.{Tables}
use Rattle.tab_ids.specs.declared.DocId.{DocId}
use Rattle.tab_ids.specs.declared.NavId.{NavId}
use Rattle.tab_ids.specs.declared.ProcId.{ProcId}
use Rattle.tab_ids.specs.declared.ReqId.{ReqId}
use Rattle.tab_ids.specs.declared.StateId.{StateId}
use Rattle.tab_settles.proofs.Lates.{unstood_by}
use Rattle.tab_settles.proofs.PassedOn.{serve_on}
use Rattle.tab_settles.specs.PassedOn.{IsBlamed, IsLeftStray, IsStray, LoadsMadeOwn, MayServe}
use Rattle.tab_stands.proofs.Coming.{IsComing}
use Rattle.tab_stands.proofs.Dones.{AsksNone, did, did_now, did_requests, itself}
use Rattle.tab_stands.proofs.Reports.{told_causes, told_kept}
use Rattle.tab_stands.proofs.Unmade.{d, documents_now, its_found, its_number, its_state, made_at, not_ready, places_now, sole_one, the_one, undiscarded, unknown}
use Rattle.tab_stands.specs.Delivering.{IsSeenDelivery, IsMadeNoted, IsNotedFor}
use Rattle.tab_stands.specs.Standing.{InCheck, IsOwnRead, StandsFor, seen_start}
use Rattle.log_model.specs.declared.job.Task.TheVariants as tasks
use Rattle.log_model.specs.declared.made.Report.TheVariants as reports
use Rattle.log_model.specs.declared.row_kind.Actor.TheVariants as actors
use Rattle.log_model.specs.declared.row_kind.RowKind.TheVariants as rows

-- document states of documents that keep theirs are the same
pub states_alike : (old new : List Document) → KeepStates old new → (docs : List DocId) → filter_map (state_in new) docs ≡ filter_map (state_in old) docs
states_alike old new keep [] = refl
states_alike old new keep (doc ∷ docs) = by_state (state_in old doc) refl (states_alike old new keep docs)
  where
    by_state : (o : Option StateId) → state_in old doc ≡ o → filter_map (state_in new) docs ≡ filter_map (state_in old) docs → filter_map (state_in new) (doc ∷ docs) ≡ filter_map (state_in old) (doc ∷ docs)
    by_state None is rest = rw (keep doc ∙ is, is) rest
    by_state (Some x) is rest = rw (keep doc ∙ is, is) (ap (λ (l : List StateId). x ∷ l) rest)

module _ (e : InEvent) (proc : ProcId) (job : Job) (outcome : Outcome) (del : IsSeenDelivery e proc (reports.Done job outcome None)) (t : Tables) (queue : Queue) (blame : List (StateId × ReqId)) {check : InCheck} (stands : StandsFor check (seen_start e) t queue blame) (aside : IsOwnRead e) (nav : NavId) (state : StateId) (address : List ℕ) (initial : Bool) (task : job.task ≡ tasks.Populate nav state address initial) where
  abbrev s : Seen
  s = seen_start e

  abbrev n : Seen
  n = did e proc job outcome del t queue blame stands aside

  abbrev own : Document
  own = d e proc job outcome del t queue blame stands aside nav state address initial task

  own_state : own.state ≡ state
  own_state = its_state e proc job outcome del t queue blame stands aside nav state address initial task

  own_new : own.is_ready ≡ false
  own_new = not_ready e proc job outcome del t queue blame stands aside nav state address initial task

  own_there : own.is_discarded ≡ false
  own_there = undiscarded e proc job outcome del t queue blame stands aside nav state address initial task

  own_lives : own.is_known_dead ≡ false
  own_lives = unknown e proc job outcome del t queue blame stands aside nav state address initial task

  pub made_asks : AsksNone job.task
  made_asks = subst (λ (k : Task). AsksNone k) (sym task) tt

  abbrev same : n.requests ≡ (seen_start e).requests
  same = did_requests e proc job outcome del t queue blame stands aside made_asks

  places_same : n.places ≡ s.places
  places_same = places_now e proc job outcome del t queue blame stands aside nav state address initial task

  -- ---- documents

  abbrev made_if : Document → Document
  made_if x = made_at job.doc x

  made_nr : (x : Document) → (made_if x).nr ≡ x.nr
  made_nr x = elim (x.nr.0 == job.doc.0) as (λ b. (let y : Document = cond b (record x { is_ready = true; is_fresh = true }) x in y).nr ≡ x.nr) [ true ↦ refl | false ↦ refl ]

  made_nav : (x : Document) → (made_if x).nav ≡ x.nav
  made_nav x = elim (x.nr.0 == job.doc.0) as (λ b. (let y : Document = cond b (record x { is_ready = true; is_fresh = true }) x in y).nav ≡ x.nav) [ true ↦ refl | false ↦ refl ]

  pub made_state : (x : Document) → (made_if x).state ≡ x.state
  made_state x = elim (x.nr.0 == job.doc.0) as (λ b. (let y : Document = cond b (record x { is_ready = true; is_fresh = true }) x in y).state ≡ x.state) [ true ↦ refl | false ↦ refl ]

  pub documents_are : n.documents ≡ map made_if (seen_start e).documents
  documents_are = documents_now e proc job outcome del t queue blame stands aside nav state address initial task

  pub made_then : (doc : DocId) → document_of n doc ≡ option_map made_if (document_of (seen_start e) doc)
  made_then doc =
      ap (λ (l : List Document). document_in l doc) documents_are
      ∙ find_map (λ (x : Document). x.nr.0) made_if doc.0 s.documents (λ x. ap (λ (i : DocId). i.0) (made_nr x))

  -- the document before
  pub record WasDoc (doc : DocId) (x : Document) : Type 0 where
    pub before : Document
    pub found : document_of (seen_start e) doc ≡ Some before
    pub is : made_if before ≡ x

  pub was_doc : (doc : DocId) (x : Document) → document_of n doc ≡ Some x → WasDoc doc x
  was_doc doc x at = by_old (document_of s doc) refl
    where
      by_old : (o : Option Document) → document_of s doc ≡ o → WasDoc doc x
      by_old None none =
          let never : None ≡ Some x = sym (made_then doc ∙ ap (λ (o : Option Document). option_map made_if o) none) ∙ at in absurd cc
      by_old (Some old) found =
          let two : Some (made_if old) ≡ Some x = sym (made_then doc ∙ ap (λ (o : Option Document). option_map made_if o) found) ∙ at in
          record { before = old; found = found; is = (let one : made_if old ≡ x = cc in one) }

  -- one is this, or as it was
  pub one_or_same : (doc : DocId) (x : Document) → (was : WasDoc doc x) → ((was.before ≡ own) × (doc ≡ job.doc)) ⊎ (((was.before.nr.0 == job.doc.0) ≡ false) × (was.before ≡ x))
  one_or_same doc x was = by_test (was.before.nr.0 == job.doc.0) refl
    where
      by_test : (b : Bool) → (was.before.nr.0 == job.doc.0) ≡ b → ((was.before ≡ own) × (doc ≡ job.doc)) ⊎ (((was.before.nr.0 == job.doc.0) ≡ false) × (was.before ≡ x))
      by_test true at =
          let found = find_has (λ (y : Document). y.nr.0 == doc.0) s.documents was.before was.found in
          let number : was.before.nr.0 ≡ doc.0 = eqb-true was.before.nr.0 doc.0 found.1 in
          inl (the_one e proc job outcome del t queue blame stands aside nav state address initial task was.before found.0 at, ap (λ (i : ℕ). let y : DocId = record { 0 = i } in y) (sym number ∙ eqb-true was.before.nr.0 job.doc.0 at))
      by_test false at = inr (at, sym (ap (λ (b : Bool). let y : Document = cond b (record was.before { is_ready = true; is_fresh = true }) was.before in y) at) ∙ was.is)

  pub states_kept : KeepStates (seen_start e).documents n.documents
  states_kept = states_stay s (rows.Delivered proc) tt

  -- ---- loads have their documents

  own_usable : (of : StateId) → own.state ≡ of → is_usable (made_if own) of ≡ true
  own_usable of is =
      let number : (own.nr.0 == job.doc.0) ≡ true = ap (λ (i : ℕ). i == job.doc.0) (its_number e proc job outcome del t queue blame stands aside nav state address initial task) ∙ nat_eq_refl job.doc.0 in
      let eq : (own.state.0 == of.0) ≡ true = ap (λ (x : StateId). x.0 == of.0) is ∙ nat_eq_refl of.0 in
      ap (λ (b : Bool). is_usable (let y : Document = cond b (record own { is_ready = true; is_fresh = true }) own in y) of) number ∙ rw (eq, own_there, own_lives) refl

  usable_still : (x : Document) (of : StateId) → is_usable x of ≡ true → is_usable (made_if x) of ≡ true
  usable_still x of is = by_test (x.nr.0 == job.doc.0)
    where
      four : (a b c d_ : Bool) → (a && b && not c && not d_) ≡ true → (a && true && not c && not d_) ≡ true
      four true true c d_ h = h
      four false b c d_ h = absurd cc
      four true false c d_ h = absurd cc

      by_test : (b : Bool) → is_usable (let y : Document = cond b (record x { is_ready = true; is_fresh = true }) x in y) of ≡ true
      by_test true = four (x.state.0 == of.0) x.is_ready x.is_discarded x.is_known_dead is
      by_test false = is

  pub loading_then : LoadsHaveDocuments n
  loading_then =
      loads_then s n (λ r l at on. ap (λ (asked : List Asked). option_map look (request_in asked r)) (sym same) ∙ at) (λ of is one. by_there of one one.there) stands.between.loading
    where
      found_now : (of : StateId) (one : HasOne s of) → document_of n one.doc ≡ Some (made_if one.d)
      found_now of one = made_then one.doc ∙ ap (λ (o : Option Document). option_map made_if o) one.found

      by_making : (of : StateId) (one : HasOne s of) → is_being_made one.d ≡ true → (b : Bool) → (one.d.nr.0 == job.doc.0) ≡ b → HasOne n of
      by_making of one making true at =
          let it : one.d ≡ own = the_one e proc job outcome del t queue blame stands aside nav state address initial task one.d (find_has (λ (y : Document). y.nr.0 == one.doc.0) s.documents one.d one.found).0 at in
          record { doc = one.doc; d = made_if one.d; found = found_now of one; of_state = made_state one.d ∙ one.of_state; there = inl (ap (λ (x : Document). is_usable (made_if x) of) it ∙ own_usable of (ap (λ (x : Document). x.state) (sym it) ∙ one.of_state)) }
      by_making of one making false at =
          let unchanged : made_if one.d ≡ one.d = ap (λ (b : Bool). let y : Document = cond b (record one.d { is_ready = true; is_fresh = true }) one.d in y) at in
          record { doc = one.doc; d = made_if one.d; found = found_now of one; of_state = made_state one.d ∙ one.of_state; there = inr (ap is_being_made unchanged ∙ making) }

      by_there : (of : StateId) (one : HasOne s of) → (is_usable one.d of ≡ true) ⊎ (is_being_made one.d ≡ true) → HasOne n of
      by_there of one (inl usable) =
          record { doc = one.doc; d = made_if one.d; found = found_now of one; of_state = made_state one.d ∙ one.of_state; there = inl (usable_still one.d of usable) }
      by_there of one (inr making) = by_making of one making (one.d.nr.0 == job.doc.0) refl

  -- ---- what comes

  serves_still : (r : ReqId) → MayServe s r → MayServe n r
  serves_still r may = serve_on s n r (told_causes e proc del.by_coord del.own t queue blame stands aside (reports.Done job outcome None) del.first same) may

  theirs_then : LoadsMadeOwn n
  theirs_then r q made found load makes =
      let its = stands.lasts.made r q made (ap (λ (l : List Asked). request_in l r) (sym same) ∙ found) load makes in
      (record { d = made_if its.0.d; found = made_then made.doc ∙ ap (λ (o : Option Document). option_map made_if o) its.0.found; nav_is = its.0.nav_is ∙ ap (λ (x : NavId). let o : Option NavId = Some x in o) (sym (made_nav its.0.d)) }, its.1)

  module _ (noted : List (StateId × ReqId)) (notes : IsMadeNoted n blame noted job.doc state) where
    strays_then : (doc : DocId) (of : StateId) → IsStray n doc of → IsLeftStray n noted doc of ⊎ IsBlamed n noted doc of
    strays_then doc of stray = by_case (one_or_same doc stray.document was)
      where
        was : WasDoc doc stray.document
        was = was_doc doc stray.document stray.found

        before_state : was.before.state ≡ of
        before_state = sym (made_state was.before) ∙ ap (λ (x : Document). x.state) was.is ∙ stray.its_state

        unloaded : ongoing_load s of ≡ None
        unloaded = ap (λ (l : List Asked). let x : Seen = record s { requests = l } in ongoing_load x of) (sym same) ∙ stray.unloaded

        -- nobody is awake on it yet
        unshown : (x : NavId) (place : Place) → place_of n x ≡ Some place → place.status ≡ awake job.doc → ⊥
        unshown x place placed wakes =
            let h : IsHomed s.documents place job.doc = stands.between.tab.homes.homed x place job.doc (ap (λ (l : List Place). place_in l x) (sym places_same) ∙ placed) wakes in
            let two : Some h.home.document ≡ Some own = sym h.home.found ∙ its_found e proc job outcome del t queue blame stands aside nav state address initial task in
            let one : h.home.document ≡ own = cc in
            let never : true ≡ false = sym h.home.ready ∙ ap (λ (y : Document). y.is_ready) one ∙ own_new in
            cc

        by_own : of ≡ state → doc ≡ job.doc → IsBlamed n noted doc of
        by_own is at =
            let own_stray : IsStray n job.doc state = subst (λ (x : StateId). IsStray n job.doc x) is (subst (λ (x : DocId). IsStray n x of) at stray) in
            let it : IsNotedFor n noted state = notes.own own_stray in
            subst (λ (x : StateId). IsBlamed n noted doc x) (sym is) (record {
              req = it.req;
              noted = it.noted_is;
              may = it.may;
              moves = λ x place other under placed wakes found side. absurd (unshown x place placed (wakes ∙ ap (λ (y : DocId). let st : Status = awake y in st) at));
              leaves = λ x place placed wakes. absurd (unshown x place placed (wakes ∙ ap (λ (y : DocId). let st : Status = awake y in st) at));
            })

        by_old : (was.before.nr.0 == job.doc.0) ≡ false → was.before ≡ stray.document → IsLeftStray n noted doc of
        by_old apart is =
            let old : IsStray s doc of = record { document = was.before; found = was.found; its_state = before_state; ready = ap (λ (x : Document). x.is_ready) is ∙ stray.ready; undiscarded = ap (λ (x : Document). x.is_discarded) is ∙ stray.undiscarded; bare = stray.bare; unloaded = unloaded } in
            let it : IsLeftStray s blame doc of = stands.strays doc of old in
            record {
              req = it.req;
              noted = notes.others of (other_state old.undiscarded) ∙ it.noted;
              may = serves_still it.req it.may;
              bare = λ x found. (let w = was_doc doc x found in ap (λ (y : NavId). has_row y s.history.rows) (ap (λ (y : Document). y.nav) (sym w.is) ∙ made_nav w.before) ∙ it.bare w.before w.found);
            }
          where
            other_state : was.before.is_discarded ≡ false → (state.0 == of.0) ≡ false
            other_state there = by_test (state.0 == of.0) refl
              where
                by_test : (b : Bool) → (state.0 == of.0) ≡ b → b ≡ false
                by_test false at = refl
                by_test true at =
                    let states : was.before.state ≡ state = before_state ∙ ap (λ (i : ℕ). let y : StateId = record { 0 = i } in y) (sym (eqb-true state.0 of.0 at)) in
                    let one : was.before ≡ own = sole_one e proc job outcome del t queue blame stands aside nav state address initial task was.before doc was.found states there in
                    let never : false ≡ true = sym apart ∙ ap (λ (x : Document). x.nr.0 == job.doc.0) one ∙ ap (λ (i : ℕ). i == job.doc.0) (its_number e proc job outcome del t queue blame stands aside nav state address initial task) ∙ nat_eq_refl job.doc.0 in
                    absurd cc

        by_case : ((was.before ≡ own) × (doc ≡ job.doc)) ⊎ (((was.before.nr.0 == job.doc.0) ≡ false) × (was.before ≡ stray.document)) → IsLeftStray n noted doc of ⊎ IsBlamed n noted doc of
        by_case (inl it) = inr (by_own (sym before_state ∙ ap (λ (x : Document). x.state) it.0 ∙ own_state) it.1)
        by_case (inr it) = inl (by_old it.0 it.1)

    made_coming : IsComing noted s n
    made_coming =
        record {
          g = λ p. p;
          arrives = itself;
          places = places_same ∙ sym (map-id s.places);
          history = refl;
          kept = told_kept e proc del.by_coord del.own t queue blame stands aside (reports.Done job outcome None) del.first;
          asked = λ r q at. record { now = q; at = ap (λ (l : List Asked). request_in l r) same ∙ at; same = refl; changed = λ change is. is };
          loads = λ r l at on. ap (λ (asked : List Asked). option_map look (request_in asked r)) (sym same) ∙ at;
          loading = loading_then;
          serves = serves_still;
          moved = λ x. ap (λ (asked : List Asked). is_moved_in asked x) same;
          states = states_kept;
          homes = λ doc x found. (made_if x, made_then doc ∙ ap (λ (o : Option Document). option_map made_if o) found, made_nav x);
          strays = strays_then;
          were = were_shown s e.event actors.Coord stands.lasts.were (rows.Delivered proc) tt;
          theirs = theirs_then;
          step = refl;
          unstood = λ off away. unstood_by s (record { event = e.event; actor = actors.Coord; row = rows.Delivered proc }) refl away off;
        }

    pub made_comes : IsComing noted (seen_start e) (now_of e [])
    made_comes =
        subst (λ (x : Seen). IsComing noted s x) (sym (did_now e proc job outcome del t queue blame stands aside)) made_coming
