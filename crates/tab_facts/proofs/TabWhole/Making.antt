-- All that holds between two rows holds after an order is sent that makes the next document: for the target of a navigable, or for an ongoing load.
-- This project's own.
use Rattle.tab_facts.proofs.Past.Orders.{populated_past}
use Rattle.seen_facts.proofs.Asked.Orders.{told_plain}
use Rattle.seen_facts.proofs.Coord.Leadings.{doc_same}
use Rattle.seen_facts.proofs.Coord.Unread.{next}
use Rattle.seen_facts.specs.Coord.Epochs.{MadeWithin}
use Rattle.seen_facts.specs.Coord.Leading.{is_live_order, orders_of_desk}
use Rattle.seen_facts.proofs.Desk.Orders.{making_desks}
use Rattle.seen_facts.specs.Desk.Own.{IsOrderIn}
use Rattle.seen_facts.proofs.Doc.Making.{making_docs}
use Rattle.seen_facts.specs.Doc.Docs.{HasPlace}
use Rattle.seen_facts.specs.Each.Items.{Each}
use Rattle.seen_facts.proofs.Entry.Making.{making_entries}
use Rattle.seen_facts.specs.Entry.Entries.{IsMadeIn, IsMadeThere, mades_of, waiting}
use Rattle.tab_facts.proofs.FragmentOrders.Rows.{sent_other_fragments}
use Rattle.tab_facts.proofs.FrameWhole.FlowsMaking.{IsNewTo, found_or, make_if}
use Rattle.tab_facts.proofs.FrameWhole.Queued.{queued_after}
use Rattle.seen_facts.proofs.Hang.Forms.{IsPlaceOf, nav_is, place_there}
use Rattle.seen_facts.proofs.Hang.Members.{has_any}
use Rattle.seen_facts.proofs.Hang.Rows.{left_hangs}
use Rattle.seen_facts.specs.Hang.Forms.{forms_of}
use Rattle.seen_facts.specs.Hang.Hanging.{IsPlaced}
use Rattle.seen_facts.specs.Hang.Members.{Has}
use Rattle.seen_facts.proofs.Home.Rows.{make_homed}
use Rattle.seen_facts.specs.Home.Homes.{IsAtHome, document_in}
use Rattle.seen_facts.proofs.Kept.Orders.{told_kept}
use Rattle.seen_facts.proofs.Kept.Orders as kept_orders
use Rattle.seen_facts.specs.Kept.Keeping.{IsMadeFor}
use Rattle.seen_facts.proofs.Load.Changes.{row_free}
use Rattle.seen_facts.proofs.Load.Leaves.{IsFree}
use Rattle.seen_facts.proofs.Load.Orders.{making_loading}
use Rattle.seen_facts.specs.Load.Loading.{AreLoading, IsLoading, IsNeverShown, Look, is_ongoing, look, look_in, look_of}
use Rattle.seen_facts.proofs.LoadWhereabouts.Rows.{sent_loads}
use Rattle.seen_facts.proofs.LoadWhereabouts.Trips.{IsNoFragment}
use Rattle.log_model.proofs.Refl.{nat_eq_refl}
use Rattle.log_model.specs.AfterDocuments.{documents_sent, new_document}
use Rattle.log_model.specs.AfterPlaces.{places_sent}
use Rattle.log_model.specs.AfterRequests.{requests_sent}
use Rattle.log_model.specs.Equal.{has_doc}
use Rattle.log_model.specs.History.{is_of}
use Rattle.log_model.specs.Once.{loads}
use Rattle.log_model.specs.Places.{is_ongoing_load}
use Rattle.log_model.specs.Seen.{Asked, Document, Place, Seen, awake, desk_of, document_of, place_in, place_of, request_of}
use Rattle.log_model.specs.Soundness.{holds, is_in_state}
use Rattle.log_model.specs.declared.job.Job.{Job}
use Rattle.log_model.specs.declared.job.Task.{Task}
use Rattle.log_model.specs.declared.made.Made.{Made}
use Rattle.log_model.specs.declared.row.Row.{Row}
use Rattle.log_model.specs.declared.row_kind.Actor.{Actor}
use Rattle.seen_facts.proofs.Mover.Orders.{told_movers}
use Rattle.seen_facts.proofs.Place.Orders.{making_standing}
use Rattle.seen_facts.proofs.Request.KnownRows.{sent_known}
use Rattle.seen_facts.proofs.Request.Onces.{sent_once}
use Rattle.seen_facts.proofs.Rest.Kept.{making_kept}
use Rattle.seen_laws.proofs.Keyed.{find_has}
use Rattle.std.proofs.Common.{Bool, List, None, Option, Some, [], ap, arith, false, inl, inr, length, refl, subst, sym, true, ℕ, ◌&&◌, ◌+◌, ◌==◌, ◌∙◌, ◌∷◌, ◌≡◌, ◌≤◌, ◌⊎◌}
use Rattle.std.specs.Prelude.{filter}
use Rattle.tab_ids.specs.declared.DocId.{DocId}
use Rattle.tab_ids.specs.declared.NavId.{NavId}
use Rattle.tab_ids.specs.declared.ProcId.{ProcId}
use Rattle.tab_ids.specs.declared.ReqId.{ReqId}
use Rattle.tab_ids.specs.declared.StateId.{StateId}
use Rattle.tab_facts.proofs.TabWhole.Sending.{lives_first, some_same}
use Rattle.tab_facts.proofs.TabWhole.OpenAmong.{once_on, sent_ends, trips_on}
use Rattle.tab_facts.specs.TabWhole.Tab.{IsTab, at_hand, open_among}
use Rattle.seen_facts.proofs.Transit.Rows.{making_ways}
use Rattle.log_model.specs.declared.job.Task.TheVariants as tasks
use Rattle.log_model.specs.declared.request.Request.{Request}
use Rattle.log_model.specs.declared.row_kind.RowKind.TheVariants as rows
use Rattle.tab_facts.proofs.Shown.Making.{making_shown}
use Rattle.tab_facts.specs.Shown.Shown.{HasDocument}

-- ---- nothing is of a number that no document has

module _ (documents : List Document) (places : List Place) (doc : DocId) (absent : document_in documents doc ≡ None) where
  apart : (other : DocId) (x : Document) → document_in documents other ≡ Some x → other ≡ doc → ⊥
  apart other x found same =
      let never : None ≡ Some x = sym absent ∙ (ap (λ (n : DocId). document_in documents n) (sym same) ∙ found) in cc

  none_made : (bound : ℕ) (mades : List Made) → Each (IsMadeThere documents) mades → MadeWithin bound doc mades
  none_made bound [] all = tt
  none_made bound (made ∷ mades) all =
      (λ same. absurd (apart made.doc all.0.document all.0.found (ap (λ (n : ℕ). let x : DocId = record { 0 = n } in x) same)), none_made bound mades all.1)

  none_told : (bound : ℕ) (proc : ProcId) (mades : List Made) → Each (IsMadeIn documents proc) mades → MadeWithin bound doc mades
  none_told bound proc [] all = tt
  none_told bound proc (made ∷ mades) all =
      (λ same. absurd (apart made.doc all.0.by.document all.0.by.found (ap (λ (n : ℕ). let x : DocId = record { 0 = n } in x) same)), none_told bound proc mades all.1)

  none_ordered : (incarnation : ℕ) (proc : ProcId) (jobs : List Job) → Each (IsOrderIn documents places proc) jobs → filter (is_live_order doc incarnation) jobs ≡ []
  none_ordered incarnation proc [] all = refl
  none_ordered incarnation proc (job ∷ jobs) all = by_test (job.doc.0 == doc.0) refl (none_ordered incarnation proc jobs all.1)
    where
      by_test : (b : Bool) → (job.doc.0 == doc.0) ≡ b → filter (is_live_order doc incarnation) jobs ≡ [] → filter (is_live_order doc incarnation) (job ∷ jobs) ≡ []
      by_test true e more = absurd (apart job.doc all.0.lives.d all.0.lives.found (doc_same job.doc doc e))
      by_test false e more = rw e more

-- ---- the ongoing loads, where none has the document state

module _ (s : Seen) (event : ℕ) (actor : Actor) (are : AreLoading s) (job : Job) (nav : NavId) (state : StateId) (address : List ℕ) (initial : Bool) (task : job.task ≡ tasks.Populate nav state address initial) (numbered : state.0 ≤ s.states) (free : IsFree s state) where
  abbrev free_t : Seen
  free_t = next s event actor (rows.Sent job)

  abbrev new : Document
  new = new_document s job nav state

  look_was : (req : ReqId) → look_of free_t req ≡ look_of s req
  look_was req =
      ap (λ (l : List Asked). look_in l req) (ap (λ (t : Task). requests_sent s job t s.requests) task)

  place_was : (n : NavId) (place : Place) → place_of free_t n ≡ Some place → place_of s n ≡ Some place
  place_was n place there =
      ap (λ (l : List Place). place_in l n) (sym (ap (λ (t : Task). places_sent s job t) task)) ∙ there

  old_or_new : (doc : DocId) (d : Document) → document_in free_t.documents doc ≡ Some d → (document_in s.documents doc ≡ Some d) ⊎ (new ≡ d)
  old_or_new doc d found =
      by_case (found_or s.documents new d doc (ap (λ (l : List Document). document_in l doc) (sym (ap (λ (t : Task). documents_sent s job t) task)) ∙ found))
    where
      by_case : (document_in s.documents doc ≡ Some d) ⊎ ((new.nr.0 == doc.0) ≡ true) × (new ≡ d) → (document_in s.documents doc ≡ Some d) ⊎ (new ≡ d)
      by_case (inl old) = inl old
      by_case (inr own) = inr own.1

  pub free_loading : AreLoading free_t
  free_loading =
      record {
        each = each;
        one = λ a b l m n at_a at_b on_a on_b loads_a loads_b. are.one a b l m n (sym (look_was a) ∙ at_a) (sym (look_was b) ∙ at_b) on_a on_b loads_a loads_b;
        apart = λ a b l m x at_a at_b on_a on_b state_a state_b. are.apart a b l m x (sym (look_was a) ∙ at_a) (sym (look_was b) ∙ at_b) on_a on_b state_a state_b;
        rows_ = are.rows_;
        documents = λ doc d found. by_doc doc d (old_or_new doc d found);
      }
    where
      by_doc : (doc : DocId) (d : Document) → (document_in s.documents doc ≡ Some d) ⊎ (new ≡ d) → d.state.0 ≤ s.states
      by_doc doc d (inl old) = are.documents doc d old
      by_doc doc d (inr own) = subst (λ (x : Document). x.state.0 ≤ s.states) own numbered

      each : (req : ReqId) (l : Look) → look_of free_t req ≡ Some l → is_ongoing l ≡ true → IsLoading free_t l
      each req l at on =
          record {
            nav = is.nav;
            mode = is.mode;
            address = is.address;
            what = is.what;
            state = is.state;
            state_is = is.state_is;
            numbered = is.numbered;
            unmade = is.unmade;
            unheld = is.unheld;
            whose = λ doc d found same. is.whose doc d (was doc d found same) same;
            unshown = λ doc d found same n place there. is.unshown doc d (was doc d found same) same n place (place_was n place there);
          }
        where
          is : IsLoading s l
          is = are.each req l (sym (look_was req) ∙ at) on

          -- a document of its state isn't the new one
          was : (doc : DocId) (d : Document) → document_in free_t.documents doc ≡ Some d → d.state.0 ≡ is.state.0 → document_in s.documents doc ≡ Some d
          was doc d found same = by_case (old_or_new doc d found)
            where
              by_case : (document_in s.documents doc ≡ Some d) ⊎ (new ≡ d) → document_in s.documents doc ≡ Some d
              by_case (inl old) = old
              by_case (inr own) =
                  let its : is.state ≡ state = ap (λ (n : ℕ). let x : StateId = record { 0 = n } in x) (sym same) ∙ ap (λ (x : Document). x.state) (sym own) in
                  absurd (free req l (sym (look_was req) ∙ at) on (is.state_is ∙ ap (λ (x : StateId). Some x) its))

-- ---- the order

-- an order may make a document of the document state, in any process
pub record IsMakeOf (s : Seen) (job : Job) (state : StateId) : Type 0 where
  -- it makes the next document, in the first incarnation
  pub next_ : job.doc.0 ≡ length s.documents + 1
  pub first : job.incarnation ≡ 0
  -- each other document of the state is discarded
  pub alone : (doc : DocId) (d : Document) → document_of s doc ≡ Some d → d.state ≡ state → d.is_discarded ≡ true

-- the request is an ongoing load of the navigable, with the document state
pub record IsLoadToMake (s : Seen) (req : ReqId) (q : Asked) (nav : NavId) (state : StateId) : Type 0 where
  pub found : request_of s req ≡ Some q
  pub ongoing : is_ongoing_load q ≡ true
  pub loads_it : loads nav q.what ≡ true
  pub own : q.state ≡ Some state

-- the navigable of the document state has a place, and its entries and documents are the navigable's
record IsStateOf (s : Seen) (nav : NavId) (state : StateId) : Type 0 where
  placed : HasPlace s.places nav
  owned : (row : Row) → Has s.history.rows row → row.state ≡ state → row.nav ≡ nav
  docs : (doc : DocId) (d : Document) → document_of s doc ≡ Some d → d.state ≡ state → d.nav ≡ nav

module _ (run : Option ReqId) (loads_ : List ReqId) (hand : List Made) (s : Seen) (event : ℕ) (actor : Actor) (tab : IsTab run loads_ hand s) (job : Job) where
  abbrev pub making : Seen
  making = next s event actor (rows.Sent job)

  module _ (nav : NavId) (state : StateId) (address : List ℕ) (initial : Bool) (task : job.task ≡ tasks.Populate nav state address initial) (make : IsMakeOf s job state) (of : IsStateOf s nav state) where
    gone : (d : Document) → document_of s job.doc ≡ Some d → ⊥
    gone d found =
        let low : d.nr.0 ≤ length s.documents = (tab.entries.counted job.doc d found).number in
        let number : d.nr.0 ≡ job.doc.0 = find_has (λ (x : Document). x.nr.0) job.doc.0 s.documents d found in
        omega (arith, low, number, make.next_)

    absent : document_of s job.doc ≡ None
    absent = by_found (document_of s job.doc) refl
      where
        by_found : (o : Option Document) → document_of s job.doc ≡ o → document_of s job.doc ≡ None
        by_found None e = e
        by_found (Some d) e = absurd (gone d e)

    unused : (n : NavId) (place : Place) → place_of s n ≡ Some place → place.status ≡ awake job.doc → ⊥
    unused n place placed wakes =
        let there : IsAtHome s.documents place.nav job.doc = (tab.homes.homed n place job.doc placed wakes).home in
        gone there.document there.found

    -- nor was it shown last
    nowhere : (n : NavId) (place : Place) → place_of s n ≡ Some place → place.last ≡ Some job.doc → ⊥
    nowhere n place placed last =
        let made : IsMadeFor s.documents n job.doc = tab.kept.lasts n place job.doc placed last in
        gone made.d made.found

    is_new : IsNewTo s hand job
    is_new =
        record {
          absent = absent;
          unused = unused;
          orders = none_ordered s.documents s.places job.doc absent (length (desk_of s job.proc).killed) job.proc (orders_of_desk (desk_of s job.proc)) (tab.desks job.proc).orders;
          waits = λ bound. none_made s.documents s.places job.doc absent bound (waiting s hand) tab.entries.waits;
          reports = λ bound. none_told s.documents s.places job.doc absent bound job.proc (mades_of (desk_of s job.proc)) (tab.entries.home job.proc);
        }

    making_tab : AreLoading making → IsTab run loads_ hand making
    making_tab loading =
        record {
          sound = tab.sound;
          hangs = left_hangs s event actor tab.hangs (rows.Sent job) tt;
          docs = making_docs s event actor tab.docs tab.desks tab.asked.died job nav state address initial task absent of.placed make.first make.alone;
          whose = making_kept s event actor tab.whose job nav state address initial task absent of.owned;
          shown = making_shown s event actor tab.shown tab.desks job nav state address initial task absent (lives_first run loads_ hand s tab job make.first) of.docs;
          homes = make_homed s event actor tab.homes job nav state address initial task;
          kept = told_kept s event actor tab.kept job (subst (λ (t : Task). kept_orders.ShowsNone t) (sym task) tt);
          standing = making_standing s event actor tab.standing job nav state address initial task nowhere;
          movers = told_movers s event actor tab.movers job (tasks.Populate nav state address initial) task tt;
          asked = told_plain run s event actor tab.asked job (tasks.Populate nav state address initial) task tt;
          queued = queued_after run s event actor tab.queued (rows.Sent job) tt;
          loading = loading;
          fragments = sent_other_fragments s event actor tab.fragments job (subst (λ (t : Task). IsNoFragment t) (sym task) tt);
          once = once_on s (next s event actor (rows.Sent job)) loads_ hand (sent_ends s event actor job) (sent_once s (at_hand (open_among s.requests loads_) hand) event actor job tab.once);
          trips = trips_on s (next s event actor (rows.Sent job)) loads_ hand (sent_ends s event actor job) (sent_loads s (at_hand (open_among s.requests loads_) hand) event actor tab.trips job (subst (λ (t : Task). IsNoFragment t) (sym task) tt));
          known = sent_known s event actor job tab.known;
          desks = making_desks s event actor tab.desks job nav state address initial task absent of.placed.place of.placed.found make.first;
          ways = making_ways s event actor tab.ways job nav state address initial task gone unused;
          entries = making_entries hand s event actor tab.entries job nav state address initial task make.next_;
          flows = make_if s event actor hand job nav state address initial task (lives_first run loads_ hand s tab job make.first) is_new tab.flows;
          past = populated_past hand s event actor tab.docs job nav state address initial task (lives_first run loads_ hand s tab job make.first) is_new tab.past;
        }

  -- ---- for an entry of a navigable, as its target at any step is

  module _ (nav : NavId) (target : Row) (address : List ℕ) (initial : Bool) (there : Has s.history.rows target) (of : target.nav ≡ nav) (task : job.task ≡ tasks.Populate nav target.state address initial) (make : IsMakeOf s job target.state) where
    -- the entries of the document's state are the navigable's
    owned : (row : Row) → Has s.history.rows row → row.state ≡ target.state → row.nav ≡ nav
    owned row has state =
        ap (λ (n : ℕ). let x : NavId = record { 0 = n } in x)
        (tab.sound.rooted.states target.state row.nav target.nav (held row has state) (held target there refl))
        ∙ of
      where
        held : (r : Row) → Has s.history.rows r → r.state ≡ target.state → holds r.nav target.state s.history.rows ≡ true
        held r in_ is =
            has_any (λ (x : Row). is_of r.nav x && is_in_state target.state x) s.history.rows r in_ (rw (nat_eq_refl r.nav.0) (ap (λ (x : StateId). x.0 == target.state.0) is ∙ nat_eq_refl target.state.0))

    state_of_target : IsStateOf s nav target.state
    state_of_target =
        let placed : IsPlaced (forms_of s.places) target = tab.hangs.rows.placed target there in
        let place : IsPlaceOf s.places target.nav placed.form = place_there s.places target.nav placed.form placed.found in
        record {
          placed = record { place = place.place; found = ap (λ (n : NavId). place_in s.places n) (sym of) ∙ place.found };
          owned = owned;
          docs = λ doc d found same. sym (tab.whose.whose doc d target found there (sym same)) ∙ of;
        }

    pub make_tab : IsTab run loads_ hand making
    make_tab =
        making_tab nav target.state address initial task make state_of_target
        (free_loading s event actor tab.loading job nav target.state address initial task (tab.loading.rows_ target there) (row_free s target tab.loading there))

  -- ---- for an ongoing load

  module _ (req : ReqId) (q : Asked) (nav : NavId) (state : StateId) (address : List ℕ) (initial : Bool) (task : job.task ≡ tasks.Populate nav state address initial) (make : IsMakeOf s job state) (load : IsLoadToMake s req q nav state) where
    its_look : look_of s req ≡ Some (look q)
    its_look = rw load.found refl

    is : IsLoading s (look q)
    is = tab.loading.each req (look q) its_look load.ongoing

    state_is : is.state ≡ state
    state_is = some_same (sym is.state_is ∙ load.own)

    its_nav : is.nav ≡ nav
    its_nav =
        let both : (is.nav.0 == nav.0) ≡ true = ap (λ (w : Request). loads nav w) (sym is.what) ∙ load.loads_it in
        nav_is is.nav nav both

    -- no entry has the document state
    state_of_load : IsStateOf s nav state
    state_of_load =
        record {
          placed = subst (λ (n : NavId). HasPlace s.places n) its_nav (tab.shown.placed req (look q) is.nav is.mode is.address its_look load.ongoing is.what);
          docs = λ doc d found same. is.whose doc d found (ap (λ (x : StateId). x.0) (same ∙ sym state_is)) ∙ its_nav;
          owned = λ row has same. absurd (is.unheld row has (ap (λ (x : StateId). x.0) (same ∙ sym state_is)));
        }

    -- no navigable was ever awake on a document of the order's number
    unshown : IsNeverShown s job.doc
    unshown n place placed = by_test (has_doc place.ever_awake job.doc) refl
      where
        by_test : (b : Bool) → has_doc place.ever_awake job.doc ≡ b → has_doc place.ever_awake job.doc ≡ false
        by_test false e = e
        by_test true e =
            let there : HasDocument s job.doc = tab.shown.there n place job.doc placed e in
            absurd (gone nav state address initial task make state_of_load there.document there.found)

    -- another ongoing load with the document state is the same one
    its_own : (other : ReqId) (l : Look) → look_of s other ≡ Some l → is_ongoing l ≡ true → l.state ≡ Some state → loads nav l.what ≡ true
    its_own other l there on its =
        let number : other.0 ≡ req.0 = tab.loading.apart other req l (look q) state there its_look on load.ongoing its load.own in
        let same : look q ≡ l = some_same (sym its_look ∙ ap (λ (n : ℕ). look_of s (record { 0 = n })) (sym number) ∙ there) in
        ap (λ (x : Look). loads nav x.what) (sym same) ∙ load.loads_it

    pub make_load_tab : IsTab run loads_ hand making
    make_load_tab =
        let new_number : document_of s job.doc ≡ None = absent nav state address initial task make state_of_load in
        let low : state.0 ≤ s.states = subst (λ (x : StateId). x.0 ≤ s.states) state_is is.numbered in
        making_tab nav state address initial task make state_of_load
        (making_loading s event actor tab.loading job nav state address initial task (record { new = new_number; unshown = unshown; numbered = low; whose = its_own }))
