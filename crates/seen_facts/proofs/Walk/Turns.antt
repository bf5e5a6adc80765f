-- An order that shows a navigable the document of its target, and one that makes that document, serve the navigable and leave the others.
use Rattle.std.proofs.Common.{◌≡◌, ℕ, Bool, true, false, cond, not, ◌&&◌, ◌==◌, List, [], ◌∷◌, ◌++◌, map, Option, Some, None, refl, sym, ap, ◌∙◌, subst}
use Rattle.std.specs.Prelude.{find, option_map}
use Rattle.tab_ids.specs.declared.EntryId.{EntryId}
use Rattle.tab_ids.specs.declared.Epoch.{Epoch}
use Rattle.tab_ids.specs.declared.NavId.{NavId}
use Rattle.tab_ids.specs.declared.StateId.{StateId}
use Rattle.log_model.specs.declared.job.Job.{Job}
use Rattle.log_model.specs.declared.job.Task.{Task}
use Rattle.log_model.specs.declared.job.Task.TheVariants as tasks
use Rattle.log_model.specs.declared.row.Row.{Row}
use Rattle.log_model.specs.declared.row_kind.Actor.{Actor}
use Rattle.log_model.specs.declared.row_kind.RowKind.TheVariants as rows
use Rattle.log_model.specs.After.{after}
use Rattle.log_model.specs.AfterDocuments.{addressed, new_document, on_document}
use Rattle.log_model.specs.AfterPlaces.{activated}
use Rattle.log_model.specs.AfterRequests.{request_served, requests_sent}
use Rattle.log_model.specs.Equal.{holds}
use Rattle.log_model.specs.History.{has_nav, target_entry}
use Rattle.log_model.specs.Orders.{is_being_made}
use Rattle.log_model.specs.Places.{is_asleep, is_given_target, aim_of}
use Rattle.log_model.specs.Seen.{asleep, Seen, Document, Asked, Place, place_in, place_of, document_of}
use Rattle.log_model.proofs.Refl.{nat_eq_refl, same_entry_refl}
use Rattle.seen_facts.specs.Hang.AsPlaces.{AreDistinct}
use Rattle.seen_facts.proofs.Hang.Members.{into_map, into_more, into_last}
use Rattle.seen_facts.specs.Walk.Serving.{is_needing, IsMaking, IsServedAt}
use Rattle.seen_facts.specs.Walk.Walking.{IsApart, LeavesOthers}
use Rattle.seen_facts.proofs.Walk.Aims.{blur, aim_again, on_served_blur, is_away, gone_on, gone_more}
use Rattle.seen_facts.proofs.Walk.Placed.{found_nav}
use Rattle.seen_facts.proofs.Walk.Sleepers.{sleepers_of, slept, slept_same, shown_same, after_show, becomes, place_becomes, wakes_on}

-- ---- an Activate

module _ (s : Seen) (event : ℕ) (actor : Actor) (job : Job) (d : Document) (entry : EntryId) (epoch : Epoch) (long at : ℕ) (memo : Option (List ℕ)) (address : List ℕ) (task : job.task ≡ tasks.Activate entry epoch long at memo address) (found : document_of s job.doc ≡ Some d) where
  abbrev showing : Seen
  showing = after_show s event actor job d entry epoch long at memo address task found

  documents_are : showing.documents ≡ on_document job.doc (addressed (tasks.Activate entry epoch long at memo address)) s.documents
  documents_are = rw task refl

  served : (q : Asked) → blur (request_served s job (tasks.Activate entry epoch long at memo address) q) ≡ blur q
  served q = rw found refl

  requests_are : map blur showing.requests ≡ map blur s.requests
  requests_are = subst (λ (t : Task). map blur (requests_sent s job t s.requests) ≡ map blur s.requests) (sym task) (on_served_blur job.why (request_served s job (tasks.Activate entry epoch long at memo address)) s.requests served)

  pub show_aim : aim_of showing ≡ aim_of s
  show_aim = aim_again s showing (gone_on s showing job.doc (addressed (tasks.Activate entry epoch long at memo address)) documents_are (λ x. refl) (λ x. refl)) requests_are refl

  pub show_making : (state : StateId) → IsMaking s.documents state → IsMaking showing.documents state
  show_making state is =
      subst (λ (l : List Document). IsMaking l state) (sym documents_are) (record {
        document = told is.document;
        there = into_map told s.documents is.document is.there;
        state_is = (same is.document).0 ∙ is.state_is;
        made = (same is.document).1 ∙ is.made;
      })
    where
      told : Document → Document
      told x = cond (x.nr.0 == job.doc.0) (addressed (tasks.Activate entry epoch long at memo address) x) x

      same : (x : Document) → ((told x).state ≡ x.state) × (is_being_made (told x) ≡ is_being_made x)
      same x = by_test (x.nr.0 == job.doc.0)
        where
          by_test : (b : Bool) → ((let y : Document = cond b (addressed (tasks.Activate entry epoch long at memo address) x) x in y).state ≡ x.state) × ((let y : Document = cond b (addressed (tasks.Activate entry epoch long at memo address) x) x in is_being_made y) ≡ is_being_made x)
          by_test true = (refl, refl)
          by_test false = (refl, refl)

  module _ (distinct : AreDistinct s.places) (place : Place) (placed : place_of s d.nav ≡ Some place) where
    others_stay : (other : NavId) → IsApart s d.nav other → place_of showing other ≡ place_of s other
    others_stay other apart = place_becomes s event actor job d entry epoch long at memo address task found other ∙ by_old (place_of s other) refl
      where
        by_old : (o : Option Place) → place_of s other ≡ o → option_map (becomes s event actor job d entry epoch long at memo address task found) o ≡ o
        by_old None e = refl
        by_old (Some old) e =
            let navs : old.nav ≡ other = found_nav s.places other old e in
            let wakes : has_nav (sleepers_of s job.doc d.nav) old.nav ≡ false = wakes_on s event actor job d entry epoch long at memo address task found place old distinct placed (ap (λ (m : NavId). place_of s m) navs ∙ e) (apart.beside old e) in
            let beside : (old.nav.0 == d.nav.0) ≡ false = subst (λ (m : NavId). (m.0 == d.nav.0) ≡ false) (sym navs) apart.differs in
            rw wakes (rw beside refl)

    pub show_leaves : LeavesOthers s showing d.nav
    show_leaves =
        record {
          history = refl;
          aim = show_aim;
          others = others_stay;
          ways = λ other. ap (λ (o : Option Place). option_map (λ (p : Place). p.above) o) (place_becomes s event actor job d entry epoch long at memo address task found other) ∙ ways_by (place_of s other);
          making = show_making;
        }
      where
        ways_by : (o : Option Place) → option_map (λ (p : Place). p.above) (option_map (becomes s event actor job d entry epoch long at memo address task found) o) ≡ option_map (λ (p : Place). p.above) o
        ways_by None = refl
        ways_by (Some p) = ap (λ (l : List NavId). Some l) ((shown_same d.nav job entry epoch d (slept (sleepers_of s job.doc d.nav) job.why p)).1 ∙ (slept_same (sleepers_of s job.doc d.nav) job.why p).1)

    -- the navigable needs nothing then, where the document was made after its last reload
    pub show_serves : (target : Row) → target_entry s.history.rows d.nav (aim_of s) ≡ Some target → target.entry ≡ entry → (place.is_unmet && not d.is_fresh) ≡ false → IsServedAt showing d.nav
    show_serves target at_ entry_is fresh = record { serve = λ p here shown reached needs t there. absurd (never p here needs t there) }
      where
        its : place_of showing d.nav ≡ Some (becomes s event actor job d entry epoch long at memo address task found place)
        its = place_becomes s event actor job d entry epoch long at memo address task found d.nav ∙ ap (λ (o : Option Place). option_map (becomes s event actor job d entry epoch long at memo address task found) o) placed

        mine : ((slept (sleepers_of s job.doc d.nav) job.why place).nav.0 == d.nav.0) ≡ true
        mine = subst (λ (n : NavId). (n.0 == d.nav.0) ≡ true) (sym ((slept_same (sleepers_of s job.doc d.nav) job.why place).0 ∙ found_nav s.places d.nav place placed)) (nat_eq_refl d.nav.0)

        new : becomes s event actor job d entry epoch long at memo address task found place ≡ activated job entry epoch d (slept (sleepers_of s job.doc d.nav) job.why place)
        new = rw mine refl

        unmet : (b : Bool) → (let p : Place = cond b (record place { status = asleep; why = job.why }) place in p).is_unmet ≡ place.is_unmet
        unmet true = refl
        unmet false = refl

        never : (p : Place) → place_of showing d.nav ≡ Some p → is_needing showing.history.rows (aim_of showing) p ≡ true → (t : Row) → target_entry showing.history.rows p.nav (aim_of showing) ≡ Some t → ⊥
        never p here needs t there =
            let both : Some (becomes s event actor job d entry epoch long at memo address task found place) ≡ Some p = sym its ∙ here in
            let one : becomes s event actor job d entry epoch long at memo address task found place ≡ p = cc in
            let is : activated job entry epoch d (slept (sleepers_of s job.doc d.nav) job.why place) ≡ p = sym new ∙ one in
            let navs : p.nav ≡ d.nav = found_nav showing.places d.nav p here in
            let targets : Some t ≡ Some target = sym there ∙ ap (λ (n : NavId). target_entry s.history.rows n (aim_of showing)) navs ∙ ap (λ (k : ℕ). target_entry s.history.rows d.nav k) show_aim ∙ at_ in
            let entries : t.entry ≡ entry = (let same : t ≡ target = cc in ap (λ (r : Row). r.entry) same ∙ entry_is) in
            let given : p.given ≡ Some entry = ap (λ (x : Place). x.given) (sym is) in
            let has : is_given_target showing.history.rows (aim_of showing) p ≡ true = rw there (rw given (rw entries (same_entry_refl entry))) in
            let wakes : is_asleep p ≡ false = ap is_asleep (sym is) in
            let met : p.is_unmet ≡ false = ap (λ (x : Place). x.is_unmet) (sym is) ∙ ap (λ (u : Bool). u && not d.is_fresh) (unmet (has_nav (sleepers_of s job.doc d.nav) place.nav)) ∙ fresh in
            let no_ : false ≡ true = (let h = needs in rw (wakes, met, has) at h) in
            cc

-- ---- a Populate

module _ (s : Seen) (event : ℕ) (actor : Actor) (job : Job) (nav : NavId) (state : StateId) (address : List ℕ) (initial : Bool) (task : job.task ≡ tasks.Populate nav state address initial) where
  abbrev pub making_ : Seen
  making_ = after s (record { event = event; actor = actor; row = rows.Sent job })

  places_same : making_.places ≡ s.places
  places_same = rw task refl

  documents_more : making_.documents ≡ s.documents ++ new_document s job nav state ∷ []
  documents_more = rw task refl

  requests_same : making_.requests ≡ s.requests
  requests_same = rw task refl

  pub make_aim : aim_of making_ ≡ aim_of s
  make_aim =
      aim_again s making_ (λ doc. ap (λ (l : List Document). holds is_away (find (λ (d : Document). d.nr.0 == doc.0) l)) documents_more ∙ gone_more s.documents (new_document s job nav state) doc refl) (ap (λ (l : List Asked). map blur l) requests_same) refl

  more_making : (other : StateId) → IsMaking s.documents other → IsMaking making_.documents other
  more_making other is =
      subst (λ (l : List Document). IsMaking l other) (sym documents_more) (record { document = is.document; there = into_more s.documents (new_document s job nav state) is.document is.there; state_is = is.state_is; made = is.made })

  -- a document of the state is being made
  pub make_making : IsMaking making_.documents state
  make_making =
      subst (λ (l : List Document). IsMaking l state) (sym documents_more) (record { document = new_document s job nav state; there = into_last s.documents (new_document s job nav state); state_is = refl; made = refl })

  pub make_leaves : LeavesOthers s making_ nav
  make_leaves =
      record {
        history = refl;
        aim = make_aim;
        others = λ other apart. ap (λ (l : List Place). place_in l other) places_same;
        ways = λ other. ap (λ (l : List Place). option_map (λ (p : Place). p.above) (place_in l other)) places_same;
        making = more_making;
      }

  pub make_serves : (target : Row) → target_entry s.history.rows nav (aim_of s) ≡ Some target → target.state ≡ state → IsServedAt making_ nav
  make_serves target at_ state_is_ = record {
    serve = λ p here shown reached needs t there.
        let navs : p.nav ≡ nav = found_nav making_.places nav p here in
        let targets : Some t ≡ Some target = sym there ∙ ap (λ (n : NavId). target_entry s.history.rows n (aim_of making_)) navs ∙ ap (λ (k : ℕ). target_entry s.history.rows nav k) make_aim ∙ at_ in
        let same : t.state ≡ state = (let eq : t ≡ target = cc in ap (λ (r : Row). r.state) eq ∙ state_is_) in
        subst (λ (x : StateId). IsMaking making_.documents x) (sym same) make_making;
  }
