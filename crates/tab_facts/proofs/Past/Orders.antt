-- It stays over the rows that send an order: but for one that shows a document, none brings a document to an epoch; and the one that is shown is the last then.
use Rattle.seen_facts.proofs.Coord.Kept.{IsSentHome, is_mine}
use Rattle.seen_facts.proofs.Coord.Leadings.{doc_same, proc_same}
use Rattle.seen_facts.proofs.Coord.OneDocument.{mailed}
use Rattle.seen_facts.proofs.Coord.SentAway.{within_alike}
use Rattle.seen_facts.proofs.Coord.Within.{sent_apart, sent_within, within_more}
use Rattle.seen_facts.specs.Coord.Epochs.{AllWithin, EachDocument, IsWithin, ShowsWithin}
use Rattle.seen_facts.proofs.Coord.Unread.{next}
use Rattle.seen_facts.specs.Coord.Leading.{is_live_order}
use Rattle.seen_facts.specs.Doc.Docs.{AreDocs, HasPlace}
use Rattle.seen_facts.specs.Entry.Entries.{waiting}
use Rattle.log_model.specs.After.{on_desk, on_document}
use Rattle.tab_facts.proofs.FrameWhole.FlowsShown.{sent_waits}
use Rattle.tab_facts.proofs.FrameWhole.FlowsMaking.{IsNewTo, found_or}
use Rattle.seen_facts.specs.Home.Homes.{document_in}
use Rattle.seen_facts.proofs.Load.Docs.{MakesNone, ShowsNone}
use Rattle.log_model.specs.AfterDocuments.{addressed, documents_sent, new_document}
use Rattle.log_model.specs.AfterPlaces.{activated, on_place, places_sent, put_to_sleep, sleepers_below, sleepers_with}
use Rattle.log_model.specs.Seen.{Desk, Document, Place, Seen, desk_in, desk_of, document_of, place_in, place_of}
use Rattle.log_model.specs.declared.job.Job.{Job}
use Rattle.log_model.specs.declared.job.Task.{Task}
use Rattle.log_model.specs.declared.made.Made.{Made}
use Rattle.log_model.specs.declared.row_kind.Actor.{Actor}
use Rattle.tab_facts.proofs.Past.Ones.{IsOneElse, one_was, other_found, other_was, own_found}
use Rattle.tab_facts.proofs.Past.Past.{AllWereLast, WasLast, WasPast, one_past, past_over}
use Rattle.tab_facts.proofs.Past.Places.{asleep_last, same_last}
use Rattle.tab_facts.proofs.Past.Rows.{have_places}
use Rattle.tab_facts.specs.Past.Past.{ArePast}
use Rattle.seen_laws.proofs.Desks.{desk_on_other, desk_on_same}
use Rattle.seen_laws.proofs.Keyed.{find_has, find_on_other, find_on_same}
use Rattle.std.proofs.Common.{Bool, List, None, Option, Some, [], ap, arith, false, inl, inr, length, refl, subst, suc, sym, true, zero, ℕ, ◌<◌, ◌==◌, ◌∙◌, ◌≡◌, ◌≤◌, ◌⊎◌}
use Rattle.std.proofs.lemmas.Bool.Decides.{nat_tests}
use Rattle.std.specs.Option.{option_map_or}
use Rattle.std.specs.Prelude.{option_map, pred}
use Rattle.tab_ids.specs.declared.DocId.{DocId}
use Rattle.tab_ids.specs.declared.EntryId.{EntryId}
use Rattle.tab_ids.specs.declared.Epoch.{Epoch}
use Rattle.tab_ids.specs.declared.NavId.{NavId}
use Rattle.tab_ids.specs.declared.ProcId.{ProcId}
use Rattle.tab_ids.specs.declared.StateId.{StateId}
use Rattle.log_model.specs.declared.job.Task.TheVariants as tasks
use Rattle.log_model.specs.declared.row_kind.RowKind.TheVariants as rows

before_pred : (m n : ℕ) → m < n → m ≤ pred n
before_pred m zero later = absurd (omega (arith, later))
before_pred m (suc n) later = omega (arith, later)

-- ---- an order to a document that is there

-- the order is sent to a document in its process, which reads as it did but for what the order addresses
pub record IsOrdered (hand : List Made) (s t : Seen) (job : Job) (g : Document → Document) : Type 0 where
  pub sent : IsSentHome s job
  pub desks : t.desks ≡ on_desk job.proc (mailed job) s.desks
  pub documents : t.documents ≡ on_document job.doc g s.documents
  pub waits : waiting t hand ≡ waiting s hand
  pub nr : (d : Document) → (g d).nr ≡ d.nr
  pub nav : (d : Document) → (g d).nav ≡ d.nav
  pub proc : (d : Document) → (g d).proc ≡ d.proc
  pub view : (d : Document) → (g d).view ≡ d.view

module _ (hand : List Made) (s t : Seen) (job : Job) (g : Document → Document) (docs : AreDocs s) (is : IsOrdered hand s t job g) where
  elses : IsOneElse hand hand s t job.proc (mailed job) job.doc g
  elses =
      record {
        desks = is.desks;
        documents = is.documents;
        keeps_proc = λ desk. refl;
        keeps_number = is.nr;
        other = λ d bound apart was. sent_apart (waiting s hand) (desk_of s job.proc) d job bound apart was;
        waits = is.waits;
      }

  -- one that shows none
  pub ordered_past : ((bound : ℕ) → ShowsWithin bound job.task) → AllWereLast s.places t.places → ArePast hand s → ArePast hand t
  ordered_past shows lasts =
      past_over hand hand s t
      (one_was hand hand s t job.proc (mailed job) job.doc g
      (record {
        else_ = elses;
        stays = is.proc;
        stays_in = is.nav;
        home = is.sent.home;
        own = λ d bound there was. within_alike (waiting s hand) (mailed job (desk_of s job.proc)) (addressed job.task d) (g d) bound (is.nr d) (is.view d) (sent_within (waiting s hand) (desk_of s job.proc) d job bound (shows bound) (is_mine d.nr (length (desk_of s job.proc).killed) job (sym (find_has (λ (x : Document). x.nr.0) job.doc.0 s.documents d there)) is.sent.lives) was);
      }))
      (have_places s docs) lasts

  -- ---- one that shows its document

  -- its navigable was shown it last then, under a later epoch; each other navigable is as it was
  pub record IsShownLast (d : Document) : Type 0 where
    pub there : document_of s job.doc ≡ Some d
    pub own : (place : Place) → place_of t d.nav ≡ Some place → (before : Place) × (place_of s d.nav ≡ Some before) × (before.epoch.0 < place.epoch.0) × (place.last ≡ Some job.doc)
    pub other : (nav : NavId) (place : Place) → (d.nav.0 == nav.0) ≡ false → HasPlace s.places nav → place_in t.places nav ≡ Some place → WasLast s.places nav place

  module _ (d : Document) (shown : IsShownLast d) (within : EachDocument (IsWithin (waiting s hand)) s) where
    abbrev Then : DocId → Document → Place → Type 0
    Then doc x place =
        (place.last ≡ Some doc) ⊎ IsWithin (waiting t hand) (desk_of t x.proc) x (pred place.epoch.0)

    -- the document itself
    its_past : (x : Document) (place : Place) → document_of t job.doc ≡ Some x → place_of t x.nav ≡ Some place → Then job.doc x place
    its_past x place found placed = inl (shown.own place (ap (λ (n : NavId). place_of t n) (sym nav_is) ∙ placed)).3
      where
        nav_is : x.nav ≡ d.nav
        nav_is =
            (let both : Some (g d) ≡ Some x = sym (own_found hand hand s t job.proc (mailed job) job.doc g elses ∙ ap (λ (o : Option Document). option_map g o) shown.there) ∙ found in let one : g d ≡ x = cc in ap (λ (y : Document). y.nav) (sym one) ∙ is.nav d)

    -- another one of its navigable was within the epoch before; one of another navigable is as it was
    else_past : (doc : DocId) (x : Document) (place : Place) → (job.doc.0 == doc.0) ≡ false → document_of t doc ≡ Some x → place_of t x.nav ≡ Some place → ArePast hand s → Then doc x place
    else_past doc x place apart found placed are = by_nav (d.nav.0 == x.nav.0) refl
      where
        there : document_of s doc ≡ Some x
        there = other_found hand hand s t job.proc (mailed job) job.doc g elses doc x apart found

        was : WasPast hand hand s t doc x
        was = other_was hand hand s t job.proc (mailed job) job.doc g elses doc x apart there

        by_nav : (b : Bool) → (d.nav.0 == x.nav.0) ≡ b → Then doc x place
        by_nav true e =
            let navs : d.nav ≡ x.nav = ap (λ (n : ℕ). let y : NavId = record { 0 = n } in y) (let same : d.nav.0 ≡ x.nav.0 = grind (arith, nat_tests, e) in same) in
            let own = shown.own place (ap (λ (n : NavId). place_of t n) navs ∙ placed) in
            let later : own.0.epoch.0 < place.epoch.0 = own.2 in
            let low : own.0.epoch.0 ≤ pred place.epoch.0 = before_pred own.0.epoch.0 place.epoch.0 later in
            inr (was.stays (pred place.epoch.0) (within_more (waiting s hand) (desk_of s was.old.proc) was.old own.0.epoch.0 (pred place.epoch.0) low (within doc was.old own.0 was.there (ap (λ (n : NavId). place_of s n) (was.nav_is ∙ sym navs) ∙ own.1))))
        by_nav false e =
            one_past hand hand s t doc x place was (shown.other x.nav place e (have_places s docs doc x there) placed) are

    pub shown_past : ArePast hand s → ArePast hand t
    shown_past are doc x place found placed = by_document (job.doc.0 == doc.0) refl
      where
        by_document : (b : Bool) → (job.doc.0 == doc.0) ≡ b → Then doc x place
        by_document true e =
            let same : job.doc ≡ doc = doc_same job.doc doc e in
            subst (λ (y : DocId). Then y x place) same (its_past x place (ap (λ (y : DocId). document_of t y) same ∙ found) placed)
        by_document false e = else_past doc x place e found placed are

-- ---- one that makes its document

-- a document joins, of which nothing is on its way but this order, which shows none; and of which nothing was made
pub record IsMadeNew (hand : List Made) (s t : Seen) (job : Job) (new : Document) : Type 0 where
  pub desks : t.desks ≡ on_desk job.proc (mailed job) s.desks
  pub waits : waiting t hand ≡ waiting s hand
  pub old_or_new : (doc : DocId) (d : Document) → document_of t doc ≡ Some d → (document_of s doc ≡ Some d) ⊎ (new ≡ d)
  pub absent : document_of s job.doc ≡ None
  pub home : new.proc ≡ job.proc
  pub live : is_live_order new.nr (length (desk_of s job.proc).killed) job ≡ true
  pub shows : (bound : ℕ) → ShowsWithin bound job.task
  pub blank : (bound : ℕ) → IsWithin (waiting s hand) (desk_of s job.proc) new bound

module _ (hand : List Made) (s t : Seen) (job : Job) (new : Document) (docs : AreDocs s) (is : IsMadeNew hand s t job new) where
  desk_is : desk_of t job.proc ≡ mailed job (desk_of s job.proc)
  desk_is =
      ap (λ (l : List Desk). desk_in l job.proc) is.desks ∙ desk_on_same (mailed job) s.desks job.proc (λ desk. refl)

  new_then : (bound : ℕ) → IsWithin (waiting t hand) (desk_of t new.proc) new bound
  new_then bound =
      subst (λ (l : List Made). IsWithin l (desk_of t new.proc) new bound) (sym is.waits)
      (subst (λ (desk : Desk). IsWithin (waiting s hand) desk new bound) (sym (ap (λ (p : ProcId). desk_of t p) is.home ∙ desk_is))
      (within_alike (waiting s hand) (mailed job (desk_of s job.proc)) (addressed job.task new) new bound refl refl
      (sent_within (waiting s hand) (desk_of s job.proc) new job bound (is.shows bound) is.live (is.blank bound))))

  old_was : (doc : DocId) (d : Document) → document_of s doc ≡ Some d → WasPast hand hand s t doc d
  old_was doc d there =
      record { old = d; there = there; nav_is = refl; stays = λ bound was. subst (λ (l : List Made). IsWithin l (desk_of t d.proc) d bound) (sym is.waits) (by_process bound was (job.proc.0 == d.proc.0) refl) }
    where
      nr : d.nr.0 ≡ doc.0
      nr = find_has (λ (x : Document). x.nr.0) doc.0 s.documents d there

      apart : (b : Bool) → (job.doc.0 == d.nr.0) ≡ b → (job.doc.0 == d.nr.0) ≡ false
      apart false e = e
      apart true e =
          let same : job.doc ≡ doc = doc_same job.doc doc (rw (sym nr) e) in
          let never : None ≡ Some d = sym is.absent ∙ ap (λ (x : DocId). document_of s x) same ∙ there in absurd cc

      by_process : (bound : ℕ) → IsWithin (waiting s hand) (desk_of s d.proc) d bound → (b : Bool) → (job.proc.0 == d.proc.0) ≡ b → IsWithin (waiting s hand) (desk_of t d.proc) d bound
      by_process bound was true e =
          let same : job.proc ≡ d.proc = proc_same job.proc d.proc e in
          subst (λ (p : ProcId). IsWithin (waiting s hand) (desk_of t p) d bound) same
          (subst (λ (desk : Desk). IsWithin (waiting s hand) desk d bound) (sym desk_is)
          (sent_apart (waiting s hand) (desk_of s job.proc) d job bound (apart (job.doc.0 == d.nr.0) refl) (subst (λ (p : ProcId). IsWithin (waiting s hand) (desk_of s p) d bound) (sym same) was)))
      by_process bound was false e =
          subst (λ (desk : Desk). IsWithin (waiting s hand) desk d bound) (sym (ap (λ (l : List Desk). desk_in l d.proc) is.desks ∙ desk_on_other (mailed job) s.desks job.proc d.proc (λ desk. refl) e)) was

  pub made_new_past : AllWereLast s.places t.places → ArePast hand s → ArePast hand t
  made_new_past lasts are doc d place found placed = by_case (is.old_or_new doc d found)
    where
      by_case : (document_of s doc ≡ Some d) ⊎ (new ≡ d) → (place.last ≡ Some doc) ⊎ IsWithin (waiting t hand) (desk_of t d.proc) d (pred place.epoch.0)
      by_case (inl old) =
          one_past hand hand s t doc d place (old_was doc d old) (lasts d.nav place (have_places s docs doc d old) placed) are
      by_case (inr own) =
          inr (subst (λ (x : Document). IsWithin (waiting t hand) (desk_of t x.proc) x (pred place.epoch.0)) own (new_then (pred place.epoch.0)))

-- ---- the rows

module _ (hand : List Made) (s : Seen) (event : ℕ) (actor : Actor) (docs : AreDocs s) (job : Job) (sent : IsSentHome s job) where
  abbrev after_order : Seen
  after_order = next s event actor (rows.Sent job)

  plain : (task : Task) (g : Document → Document) → ((d : Document) → ((g d).nr ≡ d.nr) × ((g d).nav ≡ d.nav) × ((g d).proc ≡ d.proc) × ((g d).view ≡ d.view)) → documents_sent s job job.task ≡ on_document job.doc g s.documents → IsOrdered hand s after_order job g
  plain task g as_ documents =
      record {
        sent = sent;
        desks = refl;
        documents = documents;
        waits = sent_waits s event actor hand job;
        nr = λ d. (as_ d).0;
        nav = λ d. (as_ d).1;
        proc = λ d. (as_ d).2;
        view = λ d. (as_ d).3;
      }

  -- one that shows and makes no document
  pub told_past : MakesNone job.task → ShowsNone job.task → ArePast hand s → ArePast hand after_order
  told_past = by_task job.task refl
    where
      stays : (task : Task) → job.task ≡ task → places_sent s job task ≡ s.places → AllWereLast s.places after_order.places
      stays task is places =
          subst (λ (l : List Place). AllWereLast s.places l) (sym (ap (λ (k : Task). places_sent s job k) is ∙ places)) (same_last s.places)

      sleeps : (task : Task) → job.task ≡ task → places_sent s job task ≡ put_to_sleep (sleepers_with s job.doc) job.why s.places → AllWereLast s.places after_order.places
      sleeps task is places =
          subst (λ (l : List Place). AllWereLast s.places l) (sym (ap (λ (k : Task). places_sent s job k) is ∙ places)) (asleep_last (sleepers_with s job.doc) job.why s.places)

      over : (task : Task) (g : Document → Document) → ((d : Document) → ((g d).nr ≡ d.nr) × ((g d).nav ≡ d.nav) × ((g d).proc ≡ d.proc) × ((g d).view ≡ d.view)) → job.task ≡ task → documents_sent s job task ≡ on_document job.doc g s.documents → ((bound : ℕ) → ShowsWithin bound task) → AllWereLast s.places after_order.places → ArePast hand s → ArePast hand after_order
      over task g as_ is documents shows lasts =
          ordered_past hand s after_order job g docs (plain task g as_ (ap (λ (k : Task). documents_sent s job k) is ∙ documents)) (λ bound. subst (ShowsWithin bound) (sym is) (shows bound)) lasts

      by_task : (task : Task) → job.task ≡ task → MakesNone task → ShowsNone task → ArePast hand s → ArePast hand after_order
      by_task (tasks.Update long at) is makes shows =
          over (tasks.Update long at) (addressed (tasks.Update long at)) (λ d. (refl, refl, refl, refl)) is refl (λ bound. tt) (stays (tasks.Update long at) is refl)
      by_task tasks.Freeze is makes shows =
          over tasks.Freeze (addressed tasks.Freeze) (λ d. (refl, refl, refl, refl)) is refl (λ bound. tt) (sleeps tasks.Freeze is refl)
      by_task tasks.Discard is makes shows =
          over tasks.Discard (λ (x : Document). record x { is_discarded = true }) (λ d. (refl, refl, refl, refl)) is refl (λ bound. tt) (sleeps tasks.Discard is refl)
      by_task (tasks.Ask slot cause) is makes shows =
          over (tasks.Ask slot cause) (addressed (tasks.Ask slot cause)) (λ d. (refl, refl, refl, refl)) is refl (λ bound. tt) (stays (tasks.Ask slot cause) is refl)
      by_task (tasks.DoFragment req mode address) is makes shows =
          over (tasks.DoFragment req mode address) (addressed (tasks.DoFragment req mode address)) (λ d. (refl, refl, refl, refl)) is refl (λ bound. tt) (stays (tasks.DoFragment req mode address) is refl)
      by_task (tasks.Activate entry epoch long at memo address) is makes shows = absurd shows
      by_task (tasks.Populate nav state address initial) is makes shows = absurd makes

  -- one that shows a document under a later epoch
  module _ (d : Document) (entry : EntryId) (epoch : Epoch) (long at : ℕ) (memo : Option (List ℕ)) (address : List ℕ) (task : job.task ≡ tasks.Activate entry epoch long at memo address) (found : document_of s job.doc ≡ Some d) (later : (before : Place) → place_of s d.nav ≡ Some before → before.epoch.0 < epoch.0) where
    abbrev sleeping : List Place
    sleeping =
        put_to_sleep (option_map_or (sleepers_below s job.doc) (place_of s d.nav) []) job.why s.places

    places_are : after_order.places ≡ on_place d.nav (activated job entry epoch d) sleeping
    places_are =
        ap (λ (k : Task). places_sent s job k) task
        ∙ ap (λ (o : Option Document). option_map_or (λ (x : Document). on_place x.nav (activated job entry epoch x) (put_to_sleep (option_map_or (sleepers_below s job.doc) (place_of s x.nav) []) job.why s.places)) o s.places) found

    asleep : AllWereLast s.places sleeping
    asleep = asleep_last (option_map_or (sleepers_below s job.doc) (place_of s d.nav) []) job.why s.places

    place_now : (nav : NavId) → place_of after_order nav ≡ place_in (on_place d.nav (activated job entry epoch d) sleeping) nav
    place_now nav = ap (λ (l : List Place). place_in l nav) places_are

    own : (place : Place) → place_of after_order d.nav ≡ Some place → (before : Place) × (place_of s d.nav ≡ Some before) × (before.epoch.0 < place.epoch.0) × (place.last ≡ Some job.doc)
    own place placed =
        by_place (place_in sleeping d.nav) refl (sym (find_on_same (λ (p : Place). p.nav.0) (activated job entry epoch d) d.nav.0 sleeping (λ p. refl)) ∙ sym (place_now d.nav) ∙ placed)
      where
        by_place : (o : Option Place) → place_in sleeping d.nav ≡ o → option_map (activated job entry epoch d) (place_in sleeping d.nav) ≡ Some place → (before : Place) × (place_of s d.nav ≡ Some before) × (before.epoch.0 < place.epoch.0) × (place.last ≡ Some job.doc)
        by_place None e mapped =
            let never : None ≡ Some place = sym (ap (λ (o : Option Place). option_map (activated job entry epoch d) o) e) ∙ mapped in absurd cc
        by_place (Some p) e mapped =
            let both : Some (activated job entry epoch d p) ≡ Some place = sym (ap (λ (o : Option Place). option_map (activated job entry epoch d) o) e) ∙ mapped in
            let is : activated job entry epoch d p ≡ place = cc in
            let was = asleep d.nav p (docs.each job.doc d found).placed e in
            (was.before, was.there, subst (λ (k : Epoch). was.before.epoch.0 < k.0) (ap (λ (q : Place). q.epoch) is) (later was.before was.there), ap (λ (q : Place). q.last) (sym is))

    other : (nav : NavId) (place : Place) → (d.nav.0 == nav.0) ≡ false → HasPlace s.places nav → place_in after_order.places nav ≡ Some place → WasLast s.places nav place
    other nav place apart has placed =
        asleep nav place has (sym (find_on_other (λ (p : Place). p.nav.0) (activated job entry epoch d) d.nav.0 nav.0 sleeping (λ p. refl) apart) ∙ sym (place_now nav) ∙ placed)

    pub activated_past : EachDocument (IsWithin (waiting s hand)) s → ArePast hand s → ArePast hand after_order
    activated_past within =
        shown_past hand s after_order job (addressed (tasks.Activate entry epoch long at memo address)) docs
        (plain job.task (addressed (tasks.Activate entry epoch long at memo address)) (λ x. (refl, refl, refl, refl)) (ap (λ (k : Task). documents_sent s job k) task)) d (record { there = found; own = own; other = other }) within

module _ (hand : List Made) (s : Seen) (event : ℕ) (actor : Actor) (docs : AreDocs s) (job : Job) (nav : NavId) (state : StateId) (address : List ℕ) (initial : Bool) (task : job.task ≡ tasks.Populate nav state address initial) (lives : job.incarnation ≡ length (desk_of s job.proc).killed) (is : IsNewTo s hand job) where
  pub populated_past : ArePast hand s → ArePast hand (next s event actor (rows.Sent job))
  populated_past =
      made_new_past hand s (next s event actor (rows.Sent job)) job (new_document s job nav state) docs
      (record {
        desks = refl;
        waits = sent_waits s event actor hand job;
        old_or_new = λ doc d found. by_found doc d (found_or s.documents (new_document s job nav state) d doc (ap (λ (l : List Document). document_in l doc) (sym (ap (λ (k : Task). documents_sent s job k) task)) ∙ found));
        absent = is.absent;
        home = refl;
        live = is_mine job.doc (length (desk_of s job.proc).killed) job refl lives;
        shows = λ bound. subst (ShowsWithin bound) (sym task) tt;
        blank = λ bound. record { view = λ view has. absurd cc; orders = subst (AllWithin bound) (sym is.orders) tt; held_back = is.waits bound; reports = is.reports bound };
      })
      (subst (λ (l : List Place). AllWereLast s.places l) (sym (ap (λ (k : Task). places_sent s job k) task)) (same_last s.places))
    where
      by_found : (doc : DocId) (d : Document) → (document_of s doc ≡ Some d) ⊎ (((new_document s job nav state).nr.0 == doc.0) ≡ true) × (new_document s job nav state ≡ d) → (document_of s doc ≡ Some d) ⊎ (new_document s job nav state ≡ d)
      by_found doc d (inl old) = inl old
      by_found doc d (inr own) = inr own.1
