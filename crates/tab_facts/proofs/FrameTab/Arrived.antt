-- All that holds in a tab of frames holds after a report is delivered of an order that made or showed a document.
use Rattle.std.proofs.Common.{◌≡◌, inl, inr, ℕ, ◌+◌, ◌≤◌, Bool, true, false, cond, ◌==◌, List, [], drop, map, Option, Some, None, refl, sym, ap, ◌∙◌, subst, arith}
use Rattle.std.specs.Prelude.{option_map}
use Rattle.std.specs.Option.{option_map_or}
use Rattle.std.specs.Prelude.{slice_get}
use Rattle.std.proofs.lemmas.Bool.Decides.{nat_tests}
use Rattle.std.proofs.lemmas.List.{map-id}
use Rattle.tab_ids.specs.declared.DocId.{DocId}
use Rattle.tab_ids.specs.declared.EntryId.{EntryId}
use Rattle.tab_ids.specs.declared.Epoch.{Epoch}
use Rattle.tab_ids.specs.declared.NavId.{NavId}
use Rattle.tab_ids.specs.declared.ProcId.{ProcId}
use Rattle.tab_ids.specs.declared.ReqId.{ReqId}
use Rattle.tab_ids.specs.declared.StateId.{StateId}
use Rattle.log_model.specs.declared.job.Job.{Job}
use Rattle.log_model.specs.declared.job.Task.TheVariants as tasks
use Rattle.log_model.specs.declared.made.Made.{Made}
use Rattle.log_model.specs.declared.made.Report.{Report}
use Rattle.log_model.specs.declared.made.Report.TheVariants as reports
use Rattle.log_model.specs.declared.outcome.Outcome.TheVariants as outcomes
use Rattle.log_model.specs.After.{desk_delivered}
use Rattle.log_model.specs.AfterDocuments.{documents_delivered}
use Rattle.log_model.specs.AfterPlaces.{on_place, place_arrived, places_delivered}
use Rattle.log_model.specs.Places.{is_moved_in}
use Rattle.log_model.specs.Seen.{Seen, Document, Asked, Place, desk_of, document_of, place_of, request_in}
use Rattle.seen_facts.specs.Hang.Forms.{forms_of}
use Rattle.seen_facts.specs.Hang.Members.{Has}
use Rattle.seen_facts.proofs.Hang.Frames.{delivered_kept}
use Rattle.seen_facts.specs.Each.Items.{Each}
use Rattle.seen_facts.proofs.Each.Eaches.{each_on}
use Rattle.seen_laws.proofs.Keyed.{find_map}
use Rattle.seen_facts.specs.Coord.Leading.{orders_of_desk}
use Rattle.tab_facts.specs.FrameTab.Alive.{IsAlive}
use Rattle.tab_facts.specs.FrameTab.Desks.{makes_by, makes_it, Ascends, makes_sent, makes_told, makes_due, IsMadeOnce, IsMadeThere, IsHomeDesk, waiting, untaken}
use Rattle.tab_facts.specs.FrameTab.Whole.{IsFrameTab}
use Rattle.tab_facts.proofs.FrameTab.Goings.{all_same}
use Rattle.tab_facts.proofs.FrameTab.Theres.{keeps_on}
use Rattle.tab_facts.proofs.FrameTab.Steadies.{steady_mapped, steady_left, one_steady, steady_alike, WasPlace, was_place}
use Rattle.tab_facts.proofs.FrameTab.Desking.{AllStayMade, AllStayPlaced, same_made, same_placed, home_again, made_there_again, desks_on}
use Rattle.tab_facts.proofs.FrameTab.Going.{goes_tab, same_givens, same_tooks, IsKnownEntry}
use Rattle.tab_facts.proofs.FrameTab.Leaving.{makes_at, untold, made_again, unmade_again, once_alike, ascends_again, AllWereShown, same_shown, continues_again, given_again, same_ascends, same_continues, same_unmade}
use Rattle.tab_facts.proofs.FrameTab.Told.{makes_less, first_of, nothing_more, own_delivered, delivered_desk, done_of, done_requests, done_asked, done_same, done_waiting}

-- documents that are mapped stay made, and places that are mapped stay
pub mapped_made : (documents : List Document) (g : Document → Document) → ((d : Document) → (g d).nr ≡ d.nr) → ((d : Document) → (g d).nav ≡ d.nav) → ((d : Document) → d.is_ready ≡ true → (g d).is_ready ≡ true) → AllStayMade documents (map g documents)
mapped_made documents g nr nav ready doc d found =
    record {
      new = g d;
      found = find_map (λ (x : Document). x.nr.0) g doc.0 documents (λ x. ap (λ (n : DocId). n.0) (nr x)) ∙ ap (λ (o : Option Document). option_map g o) found;
      nav = nav d;
      ready = ready d;
    }

pub mapped_placed : (places : List Place) (g : Place → Place) → ((p : Place) → (g p).nav ≡ p.nav) → ((p : Place) → p.epoch.0 ≤ (g p).epoch.0) → AllStayPlaced places (map g places)
mapped_placed places g same epoch nav place found =
    record {
      new = g place;
      found = find_map (λ (x : Place). x.nav.0) g nav.0 places (λ x. ap (λ (n : NavId). n.0) (same x)) ∙ ap (λ (o : Option Place). option_map g o) found;
      epoch = epoch place;
    }

-- places that are mapped, but for their navigables, status, given entry and epoch
pub mapped_shown : (s t : Seen) (g : Place → Place) → ((p : Place) → (g p).nav ≡ p.nav) → ((p : Place) → (g p).status ≡ p.status) → ((p : Place) → (g p).given ≡ p.given) → ((p : Place) → (g p).epoch ≡ p.epoch) → t.places ≡ map g s.places → AllWereShown s t
mapped_shown s t g nav_same status given epoch places nav place doc there wakes =
    let w : WasPlace s g nav place = was_place s t g nav_same places nav place there in
    record {
      before = w.before;
      there = w.there;
      nav_is = ap (λ (p : Place). p.nav) (sym w.is) ∙ nav_same w.before;
      status = sym (status w.before) ∙ ap (λ (p : Place). p.status) w.is;
      given = sym (given w.before) ∙ ap (λ (p : Place). p.given) w.is;
      epoch = sym (epoch w.before) ∙ ap (λ (p : Place). p.epoch) w.is;
    }

-- what was ever given, of places that are mapped but for that
pub mapped_givens : (s t : Seen) (g : Place → Place) → ((p : Place) → (g p).nav ≡ p.nav) → ((p : Place) → (g p).ever_given ≡ p.ever_given) → t.places ≡ map g s.places → (nav : NavId) (place : Place) (entry : EntryId) → place_of t nav ≡ Some place → Has place.ever_given entry → IsKnownEntry s entry
mapped_givens s t g nav_same ever places nav place entry there has =
    let w : WasPlace s g nav place = was_place s t g nav_same places nav place there in
    inr (inl (record { nav = nav; place = w.before; there = w.there; has = subst (λ (l : List EntryId). Has l entry) (ap (λ (p : Place). p.ever_given) (sym w.is) ∙ ever w.before) has }))

module _ (home : ProcId) (run : Option ReqId) (s : Seen) (event : ℕ) (tab : IsFrameTab home run [] s) (job : Job) where
  -- ---- an order that showed a document

  module _ (entry : EntryId) (epoch : Epoch) (long at : ℕ) (memo : Option (List ℕ)) (address : List ℕ) (task : job.task ≡ tasks.Activate entry epoch long at memo address) (d : Document) (found : document_of s job.doc ≡ Some d) (first : slice_get (desk_of s home).reports 0 ≡ Some (reports.Done job outcomes.Activated None)) where
    abbrev pub arrived : Seen
    arrived = done_of home run s event tab job outcomes.Activated first

    abbrev arrive : Place → Place
    arrive p = cond (p.nav.0 == d.nav.0) (place_arrived job p) p

    arrived_documents : arrived.documents ≡ s.documents
    arrived_documents = ap (λ (o : Option Report). documents_delivered s.documents o) first

    arrived_places : arrived.places ≡ map arrive s.places
    arrived_places =
        ap (λ (o : Option Report). places_delivered s o) first
        ∙ (let one : places_delivered s (Some (reports.Done job outcomes.Activated None)) ≡ option_map_or (λ (x : Document). on_place x.nav (place_arrived job) s.places) (document_of s job.doc) s.places = rw task refl in one)
        ∙ ap (λ (o : Option Document). option_map_or (λ (x : Document). on_place x.nav (place_arrived job) s.places) o s.places) found

    by_nav : {B : Type 0} (read : Place → B) → ((p : Place) → read (place_arrived job p) ≡ read p) → (p : Place) → read (arrive p) ≡ read p
    by_nav read same p = elim (p.nav.0 == d.nav.0) as (λ b. read (let x : Place = cond b (place_arrived job p) p in x) ≡ read p) [ true ↦ same p | false ↦ refl ]

    pub arrived_framed : IsFrameTab home run [] arrived
    arrived_framed =
        goes_tab home run run [] [] s arrived
        (record {
          g = λ x. x;
          documents = arrived_documents ∙ sym (map-id s.documents);
          alive = record { nr = λ x. refl; nav = λ x. refl; alive = λ doc x there is. is };
          numbers = record { state = λ x. refl; applied = λ x. refl };
          forms = delivered_kept s (slice_get (desk_of s home).reports 0);
          givens = mapped_givens s arrived arrive (by_nav (λ p. p.nav) (λ p. refl)) (by_nav (λ p. p.ever_given) (λ p. refl)) arrived_places;
          tooks = same_tooks s arrived (λ r. ap (λ (l : List Asked). option_map (λ (q : Asked). q.took) (request_in l r)) requests_same);
          history = refl;
          states = refl;
          entries = refl;
          initial = refl;
          asked = done_asked home run s event tab job outcomes.Activated first;
          steady =
              steady_mapped s arrived arrive
              (one_steady s arrived d.nav (place_arrived job) (λ p. refl) (all_same s.requests arrived.requests requests_same) (λ nav. refl) (λ p there is. steady_alike s arrived p (place_arrived job p) (all_same s.requests arrived.requests requests_same) refl refl is))
              arrived_places tab.steady;
          desks =
              desks_on home s arrived desk_delivered refl (λ desk. refl)
              (subst (λ (l : List Document). IsHomeDesk l arrived.places (desk_delivered (desk_of s home))) (sym arrived_documents)
              (subst (λ (l : List Place). IsHomeDesk s.documents l (desk_delivered (desk_of s home))) (sym arrived_places)
              (home_again s.documents s.documents s.places (map arrive s.places) (same_made s.documents s.documents refl) (mapped_placed s.places arrive (by_nav (λ p. p.nav) (λ p. refl)) (λ p. (let same : (arrive p).epoch.0 ≡ p.epoch.0 = by_nav (λ p. p.epoch.0) (λ p. refl) p in omega (arith, same)))) (desk_delivered (desk_of s home)) (delivered_desk home run s event tab (reports.Done job outcomes.Activated None) first))))
              tab.desks;
          made = made_again home s arrived (λ x. x) (λ x. refl) (λ doc x there is. once_alike (desk_of s home) (desk_of arrived home) x x refl refl makes_same is) (arrived_documents ∙ sym (map-id s.documents)) tab.made;
          unmade = unmade_again home s arrived [] [] (λ x. x) (λ x. refl) (λ doc x there is unready. (let i : (x.last_applied ≡ 0) × (untaken (waiting s []) (desk_of s home) x.nr ≡ []) = is unready in (i.0, same_unmade (waiting s []) (waiting arrived []) (desk_of s home) (desk_of arrived home) same x.nr i.1))) (arrived_documents ∙ sym (map-id s.documents)) tab.unmade;
          waits = subst (λ (l : List Document). Each (IsMadeThere l) (waiting arrived [])) (sym arrived_documents) (subst (λ (l : List Made). Each (IsMadeThere s.documents) l) (sym (done_waiting home run s event tab job outcomes.Activated first)) tab.waits);
          ascends = ascends_again home s arrived [] [] (λ x. x) (λ x. refl) (λ doc x there is view has. same_ascends (waiting s []) (waiting arrived []) (desk_of s home) (desk_of arrived home) same x.nr x.last_applied view.numbered (is view has)) (arrived_documents ∙ sym (map-id s.documents)) tab.ascends;
          continues = continues_again home s arrived [] [] were refl (λ nav place doc given there wakes has. same_continues (waiting s []) (waiting arrived []) (desk_of s home) (desk_of arrived home) same doc given place.epoch) tab.continues;
          given = given_again s arrived were refl (λ nav none. ap (λ (l : List Asked). is_moved_in l nav) (sym requests_same) ∙ none) tab.given;
        })
        tab
      where
        requests_same : arrived.requests ≡ s.requests
        requests_same = done_requests home run s event tab job outcomes.Activated first

        same : untold (waiting arrived []) (desk_of arrived home) ≡ untold (waiting s []) (desk_of s home)
        same = done_same home run s event tab job outcomes.Activated first

        were : AllWereShown s arrived
        were = mapped_shown s arrived arrive (by_nav (λ p. p.nav) (λ p. refl)) (by_nav (λ p. p.status) (λ p. refl)) (by_nav (λ p. p.given) (λ p. refl)) (by_nav (λ p. p.epoch) (λ p. refl)) arrived_places

        makes_none : (doc : DocId) → makes_it doc job ≡ 0
        makes_none doc = rw task (either (job.doc.0 == doc.0))
          where
            either : (c : Bool) → makes_by c (tasks.Activate entry epoch long at memo address) ≡ 0
            either true = refl
            either false = refl

        makes_same : (doc : DocId) → makes_at doc (desk_of arrived home) ≡ makes_at doc (desk_of s home)
        makes_same doc =
            makes_less home run s event tab (reports.Done job outcomes.Activated None) first 0 doc (ap (λ (n : ℕ). n + makes_told doc (drop 1 (desk_of s home).reports)) (makes_none doc) ∙ nothing_more (makes_told doc (drop 1 (desk_of s home).reports)))

  -- ---- an order that made a document

  module _ (nav_ : NavId) (state : StateId) (address : List ℕ) (initial : Bool) (task : job.task ≡ tasks.Populate nav_ state address initial) (slot : Option ℕ) (first : slice_get (desk_of s home).reports 0 ≡ Some (reports.Done job (outcomes.Populated slot) None)) where
    abbrev pub made_ready : Seen
    made_ready = done_of home run s event tab job (outcomes.Populated slot) first

    abbrev readied : Document → Document
    readied d = record d { is_ready = true; is_fresh = true }

    abbrev ready_at : Document → Document
    ready_at d = cond (d.nr.0 == job.doc.0) (readied d) d

    ready_documents : made_ready.documents ≡ map ready_at s.documents
    ready_documents = ap (λ (o : Option Report). documents_delivered s.documents o) first

    ready_places : made_ready.places ≡ s.places
    ready_places =
        ap (λ (o : Option Report). places_delivered s o) first
        ∙ (let one : places_delivered s (Some (reports.Done job (outcomes.Populated slot) None)) ≡ s.places = rw task refl in one)

    by_nr : {B : Type 0} (read : Document → B) → ((d : Document) → read (readied d) ≡ read d) → (d : Document) → read (ready_at d) ≡ read d
    by_nr read same d = elim (d.nr.0 == job.doc.0) as (λ b. read (let x : Document = cond b (readied d) d in x) ≡ read d) [ true ↦ same d | false ↦ refl ]

    ready_more : (d : Document) → d.is_ready ≡ true → (ready_at d).is_ready ≡ true
    ready_more d ready = elim (d.nr.0 == job.doc.0) as (λ b. (let x : Document = cond b (readied d) d in x).is_ready ≡ true) [ true ↦ refl | false ↦ ready ]

    unready_before : (d : Document) → (ready_at d).is_ready ≡ false → d.is_ready ≡ false
    unready_before d = by_test (d.nr.0 == job.doc.0)
      where
        by_test : (b : Bool) → (let x : Document = cond b (readied d) d in x).is_ready ≡ false → d.is_ready ≡ false
        by_test true e = cc
        by_test false e = e

    alive_ready : (d : Document) → IsAlive home d → IsAlive home (readied d)
    alive_ready d is =
        record {
          proc = is.proc;
          incarnation = is.incarnation;
          slot = is.slot;
          thawed = is.thawed;
          lives = is.lives;
          unknown = is.unknown;
          viewed = is.viewed;
          unmade = λ view has never. cc;
        }

    -- the report is the one of its making
    once_ready : (d : Document) → IsMadeOnce (desk_of s home) d → IsMadeOnce (desk_of made_ready home) (ready_at d)
    once_ready d is = by_test (d.nr.0 == job.doc.0) refl
      where
        left : makes_at d.nr (desk_of made_ready home) ≡ makes_sent d.nr (orders_of_desk (desk_of s home)) + makes_told d.nr (drop 1 (desk_of s home).reports)
        left = ap (makes_at d.nr) (own_delivered home run s event tab (reports.Done job (outcomes.Populated slot) None) first)

        all : makes_told d.nr (desk_of s home).reports ≡ makes_it d.nr job + makes_told d.nr (drop 1 (desk_of s home).reports)
        all = ap (λ (l : List Report). makes_told d.nr l) (first_of (desk_of s home).reports (reports.Done job (outcomes.Populated slot) None) first)

        turned : (b : Bool) → (d.nr.0 == job.doc.0) ≡ b → (job.doc.0 == d.nr.0) ≡ b
        turned true e = (let n : (job.doc.0 == d.nr.0) ≡ true = grind (arith, nat_tests, e) in n)
        turned false e = (let n : (job.doc.0 == d.nr.0) ≡ false = grind (arith, nat_tests, e) in n)

        due_low : (b : Bool) → makes_due b ≤ 1
        due_low true = omega arith
        due_low false = omega arith

        by_test : (b : Bool) → (d.nr.0 == job.doc.0) ≡ b → IsMadeOnce (desk_of made_ready home) (cond b (readied d) d)
        by_test true e =
            let own : makes_it d.nr job ≡ 1 = rw (task, turned true e) refl in
            let low : makes_due d.is_ready ≤ 1 = due_low d.is_ready in
            left ∙ (let none : makes_sent d.nr (orders_of_desk (desk_of s home)) + makes_told d.nr (drop 1 (desk_of s home).reports) ≡ 0 = omega (arith, own, low, is, all) in none)
        by_test false e =
            let own : makes_it d.nr job ≡ 0 = rw (task, turned false e) refl in
            left ∙ (let same : makes_sent d.nr (orders_of_desk (desk_of s home)) + makes_told d.nr (drop 1 (desk_of s home).reports) ≡ makes_sent d.nr (orders_of_desk (desk_of s home)) + makes_told d.nr (desk_of s home).reports = omega (arith, own, all) in same) ∙ is

    pub ready_framed : IsFrameTab home run [] made_ready
    ready_framed =
        goes_tab home run run [] [] s made_ready
        (record {
          g = ready_at;
          documents = ready_documents;
          alive = keeps_on home s job.doc readied (λ d. refl) (λ d. refl) (λ d there is. alive_ready d is);
          numbers = record { state = by_nr (λ d. d.state) (λ d. refl); applied = by_nr (λ d. d.last_applied) (λ d. refl) };
          forms = ap forms_of ready_places;
          givens = same_givens s made_ready ready_places;
          tooks = same_tooks s made_ready (λ r. ap (λ (l : List Asked). option_map (λ (q : Asked). q.took) (request_in l r)) requests_same);
          history = refl;
          states = refl;
          entries = refl;
          initial = refl;
          asked = done_asked home run s event tab job (outcomes.Populated slot) first;
          steady = steady_left s made_ready ready_places refl (all_same s.requests made_ready.requests requests_same) tab.steady;
          desks =
              desks_on home s made_ready desk_delivered refl (λ desk. refl)
              (subst (λ (l : List Document). IsHomeDesk l made_ready.places (desk_delivered (desk_of s home))) (sym ready_documents)
              (subst (λ (l : List Place). IsHomeDesk (map ready_at s.documents) l (desk_delivered (desk_of s home))) (sym ready_places)
              (home_again s.documents (map ready_at s.documents) s.places s.places (mapped_made s.documents ready_at (by_nr (λ d. d.nr) (λ d. refl)) (by_nr (λ d. d.nav) (λ d. refl)) ready_more) (same_placed s.places s.places refl) (desk_delivered (desk_of s home)) (delivered_desk home run s event tab (reports.Done job (outcomes.Populated slot) None) first))))
              tab.desks;
          made = made_again home s made_ready ready_at (by_nr (λ d. d.nr) (λ d. refl)) (λ doc d there is. once_ready d is) ready_documents tab.made;
          unmade = unmade_again home s made_ready [] [] ready_at (by_nr (λ d. d.nr) (λ d. refl)) (λ doc d there is unready.
              let i : (d.last_applied ≡ 0) × (untaken (waiting s []) (desk_of s home) d.nr ≡ []) = is (unready_before d unready) in
              (by_nr (λ d. d.last_applied) (λ d. refl) d ∙ i.0, ap (λ (n : DocId). untaken (waiting made_ready []) (desk_of made_ready home) n) (by_nr (λ d. d.nr) (λ d. refl) d) ∙ same_unmade (waiting s []) (waiting made_ready []) (desk_of s home) (desk_of made_ready home) same d.nr i.1)) ready_documents tab.unmade;
          waits =
              subst (λ (l : List Document). Each (IsMadeThere l) (waiting made_ready [])) (sym ready_documents)
              (each_on (IsMadeThere s.documents) (IsMadeThere (map ready_at s.documents)) (waiting made_ready []) (made_there_again s.documents (map ready_at s.documents) s.places s.places (mapped_made s.documents ready_at (by_nr (λ d. d.nr) (λ d. refl)) (by_nr (λ d. d.nav) (λ d. refl)) ready_more) (same_placed s.places s.places refl))
              (subst (λ (l : List Made). Each (IsMadeThere s.documents) l) (sym (done_waiting home run s event tab job (outcomes.Populated slot) first)) tab.waits));
          ascends = ascends_again home s made_ready [] [] ready_at (by_nr (λ d. d.nr) (λ d. refl)) (λ doc d there is view has. once_ascends d (λ v h. same_ascends (waiting s []) (waiting made_ready []) (desk_of s home) (desk_of made_ready home) same d.nr d.last_applied v.numbered (is v h)) view has) ready_documents tab.ascends;
          continues = continues_again home s made_ready [] [] (same_shown s made_ready ready_places) refl (λ nav place doc given there wakes has. same_continues (waiting s []) (waiting made_ready []) (desk_of s home) (desk_of made_ready home) same doc given place.epoch) tab.continues;
          given = given_again s made_ready (same_shown s made_ready ready_places) refl (λ nav none. ap (λ (l : List Asked). is_moved_in l nav) (sym requests_same) ∙ none) tab.given;
        })
        tab
      where
        requests_same : made_ready.requests ≡ s.requests
        requests_same = done_requests home run s event tab job (outcomes.Populated slot) first

        same : untold (waiting made_ready []) (desk_of made_ready home) ≡ untold (waiting s []) (desk_of s home)
        same = done_same home run s event tab job (outcomes.Populated slot) first

        once_ascends : (d : Document) → Ascends (waiting made_ready []) (desk_of made_ready home) d → Ascends (waiting made_ready []) (desk_of made_ready home) (ready_at d)
        once_ascends d is = elim (d.nr.0 == job.doc.0) as (λ b. Ascends (waiting made_ready []) (desk_of made_ready home) (cond b (readied d) d)) [ true ↦ is | false ↦ is ]
