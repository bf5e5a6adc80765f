-- What each process has stays of its own documents as an order is sent to one of them, or to a new one.
use Rattle.std.proofs.Common.{◌≡◌, ℕ, ◌≤◌, Bool, true, false, cond, ◌==◌, List, [], ◌∷◌, ◌++◌, Option, Some, None, refl, sym, ap, ◌∙◌, subst, arith, eqb-true}
use Rattle.std.specs.Prelude.{option_map}
use Rattle.std.specs.Option.{option_map_or}
use Rattle.tab_ids.specs.declared.EntryId.{EntryId}
use Rattle.tab_ids.specs.declared.Epoch.{Epoch}
use Rattle.tab_ids.specs.declared.NavId.{NavId}
use Rattle.tab_ids.specs.declared.ProcId.{ProcId}
use Rattle.tab_ids.specs.declared.StateId.{StateId}
use Rattle.log_model.specs.declared.job.Job.{Job}
use Rattle.log_model.specs.declared.job.Task.{Task}
use Rattle.log_model.specs.declared.job.Task.TheVariants as tasks
use Rattle.log_model.specs.declared.row_kind.Actor.{Actor}
use Rattle.log_model.specs.declared.row_kind.RowKind.TheVariants as rows
use Rattle.log_model.specs.After.{after}
use Rattle.log_model.specs.AfterDocuments.{documents_sent, new_document}
use Rattle.log_model.specs.AfterPlaces.{activated, on_place, places_sent, put_to_sleep, sleepers_below}
use Rattle.log_model.specs.History.{has_nav}
use Rattle.log_model.specs.Seen.{Seen, Document, Desk, Place, asleep, desk_of, document_of, place_in, place_of}
use Rattle.log_model.proofs.Refl.{nat_eq_refl}
use Rattle.seen_facts.specs.Home.Homes.{document_in}
use Rattle.seen_laws.proofs.Keyed.{find_has, find_map}
use Rattle.seen_facts.specs.Desk.Own.{AreDesksIn, IsOrderIn, IsTaskOf}
use Rattle.seen_facts.proofs.Desk.Again.{AllStayAt, StaysAt, order_again, same_places}
use Rattle.seen_facts.proofs.Desk.Lists.{desks_on, mailed_in}
use Rattle.seen_facts.proofs.Desk.Stays.{ShowsNone, sent_at, sent_stay}

-- the order is to a document that lives where it is sent, is made and of a navigable that has a place
pub record IsSentHome (s : Seen) (job : Job) : Type 0 where
  pub d : Document
  pub found : document_of s job.doc ≡ Some d
  pub home : d.proc ≡ job.proc
  pub ready : d.is_ready ≡ true
  pub place : Place
  pub placed : place_of s d.nav ≡ Some place
  pub incarnation : job.incarnation ≡ 0

-- it neither makes nor shows a document
abbrev pub IsTold : Task → Type 0
IsTold (tasks.Populate nav state address initial) = ⊥
IsTold (tasks.Activate entry epoch length index memo address) = ⊥
IsTold _ = Unit {0}

module _ (s : Seen) (event : ℕ) (actor : Actor) (are : AreDesksIn s) (job : Job) where
  abbrev t : Seen
  t = after s (record { event = event; actor = actor; row = rows.Sent job })

  mails : (stay_at : AllStayAt s.places t.places) → IsOrderIn t.documents t.places job.proc job → AreDesksIn t
  mails stay_at own =
      desks_on s t job.proc (λ (desk : Desk). record desk { mail = desk.mail ++ job ∷ [] }) refl (λ desk. refl) (sent_stay s job job.task) stay_at (λ is. mailed_in t.documents t.places job.proc job (desk_of s job.proc) own is) are

  told_task : (d : Document) (place : Place) (task : Task) → IsTold task → d.is_ready ≡ true → IsTaskOf d place task
  told_task d place (tasks.Populate nav state address initial) never ready = absurd never
  told_task d place (tasks.Activate entry epoch length index memo address) never ready = absurd never
  told_task d place (tasks.Update length index) told ready = ready
  told_task d place tasks.Freeze told ready = ready
  told_task d place tasks.Discard told ready = ready
  told_task d place (tasks.Ask slot cause) told ready = ready
  told_task d place (tasks.DoFragment req mode address) told ready = ready

  none_shown : (task : Task) → IsTold task → ShowsNone task
  none_shown (tasks.Populate nav state address initial) never = absurd never
  none_shown (tasks.Activate entry epoch length index memo address) never = absurd never
  none_shown (tasks.Update length index) told = tt
  none_shown tasks.Freeze told = tt
  none_shown tasks.Discard told = tt
  none_shown (tasks.Ask slot cause) told = tt
  none_shown (tasks.DoFragment req mode address) told = tt

  pub told_desks : IsTold job.task → IsSentHome s job → AreDesksIn t
  told_desks told home =
      mails (sent_at s job job.task (none_shown job.task told)) (order_again s.documents t.documents s.places t.places (sent_stay s job job.task) (sent_at s job job.task (none_shown job.task told)) job.proc job (record {
        lives = record { d = home.d; found = home.found; home = ap (λ (p : ProcId). p.0) home.home };
        place = home.place;
        placed = home.placed;
        proc_is = refl;
        incarnation = home.incarnation;
        task = told_task home.d home.place job.task told home.ready;
      }))

  -- ---- an order that makes a document

  module _ (nav : NavId) (state : StateId) (address : List ℕ) (initial : Bool) (task : job.task ≡ tasks.Populate nav state address initial) (new : document_of s job.doc ≡ None) (place : Place) (placed : place_of s nav ≡ Some place) (incarnation : job.incarnation ≡ 0) where
    places_are : t.places ≡ s.places
    places_are = ap (λ (k : Task). places_sent s job k) task

    documents_are : t.documents ≡ s.documents ++ new_document s job nav state ∷ []
    documents_are = ap (λ (k : Task). documents_sent s job k) task

    found_last : (documents : List Document) → document_in documents job.doc ≡ None → document_in (documents ++ new_document s job nav state ∷ []) job.doc ≡ Some (new_document s job nav state)
    found_last [] none = rw (nat_eq_refl job.doc.0) refl
    found_last (x ∷ documents) none = by_test (x.nr.0 == job.doc.0) none (found_last documents)
      where
        by_test : (b : Bool) → (let o : Option Document = cond b (Some x) (document_in documents job.doc) in o) ≡ None → (document_in documents job.doc ≡ None → document_in (documents ++ new_document s job nav state ∷ []) job.doc ≡ Some (new_document s job nav state)) → (let o : Option Document = cond b (Some x) (document_in (documents ++ new_document s job nav state ∷ []) job.doc) in o) ≡ Some (new_document s job nav state)
        by_test true e more = absurd cc
        by_test false e more = more e

    pub making_desks : AreDesksIn t
    making_desks =
        mails (subst (λ (l : List Place). AllStayAt s.places l) (sym places_are) (same_places s.places)) (record {
          lives = record { d = new_document s job nav state; found = ap (λ (l : List Document). document_in l job.doc) documents_are ∙ found_last s.documents new; home = refl };
          place = place;
          placed = ap (λ (l : List Place). place_in l nav) places_are ∙ placed;
          proc_is = refl;
          incarnation = incarnation;
          task = subst (λ (k : Task). IsTaskOf (new_document s job nav state) place k) (sym task) tt;
        })

  -- ---- an order that shows one, under an epoch that its navigable hasn't come to

  module _ (home : IsSentHome s job) (entry : EntryId) (epoch : Epoch) (long at : ℕ) (memo : Option (List ℕ)) (address : List ℕ) (task : job.task ≡ tasks.Activate entry epoch long at memo address) (real : 1 ≤ epoch.0) (later : home.place.epoch.0 ≤ epoch.0) where
    abbrev slept : List Place
    slept = put_to_sleep (option_map_or (sleepers_below s job.doc) (place_of s home.d.nav) []) job.why s.places

    abbrev show : Place → Place
    show p = activated job entry epoch home.d p

    shown_places : t.places ≡ on_place home.d.nav show slept
    shown_places =
        ap (λ (k : Task). places_sent s job k) task
        ∙ ap (λ (o : Option Document). option_map_or (λ (x : Document). on_place x.nav (activated job entry epoch x) (put_to_sleep (option_map_or (sleepers_below s job.doc) (place_of s x.nav) []) job.why s.places)) o s.places) home.found

    -- a place that fell asleep, or didn't, keeps its number and epoch
    abbrev rest : Place → Place
    rest p = cond (has_nav (option_map_or (sleepers_below s job.doc) (place_of s home.d.nav) []) p.nav) (record p { status = asleep; why = job.why }) p

    rest_same : (p : Place) → ((rest p).nav.0 ≡ p.nav.0) × ((rest p).epoch ≡ p.epoch)
    rest_same p = by_test (has_nav (option_map_or (sleepers_below s job.doc) (place_of s home.d.nav) []) p.nav)
      where
        by_test : (b : Bool) → ((let q : Place = cond b (record p { status = asleep; why = job.why }) p in q).nav.0 ≡ p.nav.0) × ((let q : Place = cond b (record p { status = asleep; why = job.why }) p in q).epoch ≡ p.epoch)
        by_test true = (refl, refl)
        by_test false = (refl, refl)

    place_then : (nav : NavId) (p : Place) → place_of s nav ≡ Some p → place_of t nav ≡ Some (cond ((rest p).nav.0 == home.d.nav.0) (show (rest p)) (rest p))
    place_then nav p found =
        ap (λ (l : List Place). place_in l nav) shown_places
        ∙ find_map (λ (x : Place). x.nav.0) (λ (x : Place). cond (x.nav.0 == home.d.nav.0) (show x) x) nav.0 slept (λ x. number x (x.nav.0 == home.d.nav.0))
        ∙ ap (λ (o : Option Place). option_map (λ (x : Place). cond (x.nav.0 == home.d.nav.0) (show x) x) o) (find_map (λ (x : Place). x.nav.0) rest nav.0 s.places (λ x. (rest_same x).0) ∙ ap (λ (o : Option Place). option_map rest o) found)
      where
        number : (x : Place) (b : Bool) → (let q : Place = cond b (show x) x in q).nav.0 ≡ x.nav.0
        number x true = refl
        number x false = refl

    low : (p : Place) → p ≡ home.place → p.epoch.0 ≤ epoch.0
    low p same = subst (λ (x : Place). x.epoch.0 ≤ epoch.0) (sym same) later

    stay_at : AllStayAt s.places t.places
    stay_at nav p found = by_nav ((rest p).nav.0 == home.d.nav.0) refl
      where
        by_nav : (b : Bool) → ((rest p).nav.0 == home.d.nav.0) ≡ b → StaysAt t.places nav p
        by_nav true e =
            let number : p.nav.0 ≡ home.d.nav.0 = sym (rest_same p).0 ∙ eqb-true (rest p).nav.0 home.d.nav.0 e in
            let own : nav.0 ≡ home.d.nav.0 = sym (find_has (λ (x : Place). x.nav.0) nav.0 s.places p found) ∙ number in
            let navs : nav ≡ home.d.nav = ap (λ (n : ℕ). let x : NavId = record { 0 = n } in x) own in
            let both : Some p ≡ Some home.place = sym found ∙ ap (place_of s) navs ∙ home.placed in
            let one : p ≡ home.place = cc in
            record { new = show (rest p); found = place_then nav p found ∙ ap (λ (b : Bool). Some (cond b (show (rest p)) (rest p))) e; epoch = low p one }
        by_nav false e =
            record { new = rest p; found = place_then nav p found ∙ ap (λ (b : Bool). Some (cond b (show (rest p)) (rest p))) e; epoch = subst (λ (x : Epoch). p.epoch.0 ≤ x.0) (sym (rest_same p).1) (let same : p.epoch.0 ≤ p.epoch.0 = omega arith in same) }

    pub shown_desks : AreDesksIn t
    shown_desks =
        let k = sent_stay s job job.task job.doc home.d home.found in
        let mine : ((rest home.place).nav.0 == home.d.nav.0) ≡ true = ap (λ (n : ℕ). n == home.d.nav.0) ((rest_same home.place).0 ∙ find_has (λ (x : Place). x.nav.0) home.d.nav.0 s.places home.place home.placed) ∙ nat_eq_refl home.d.nav.0 in
        mails stay_at (record {
          lives = record { d = k.new; found = k.found; home = k.proc ∙ ap (λ (p : ProcId). p.0) home.home };
          place = show (rest home.place);
          placed = ap (λ (n : NavId). place_in t.places n) k.nav ∙ place_then home.d.nav home.place home.placed ∙ ap (λ (b : Bool). Some (cond b (show (rest home.place)) (rest home.place))) mine;
          proc_is = refl;
          incarnation = home.incarnation;
          task = subst (λ (x : Task). IsTaskOf k.new (show (rest home.place)) x) (sym task) (k.ready home.ready, real, (let same : epoch.0 ≤ epoch.0 = omega arith in same));
        })
