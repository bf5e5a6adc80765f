-- Where each navigable stands, over each order: one that tells a document something, makes one, freezes or discards one, or shows a navigable one.
use Rattle.std.proofs.Common.{◌≡◌, ℕ, ◌≤◌, Bool, true, false, cond, ◌==◌, List, [], map, Option, Some, refl, sym, ap, ◌∙◌, subst, inl, inr, ◌⊎◌, arith}
use Rattle.std.specs.Option.{option_map_or}
use Rattle.std.proofs.lemmas.Bool.{eqb-true}
use Rattle.tab_ids.specs.declared.DocId.{DocId}
use Rattle.tab_ids.specs.declared.EntryId.{EntryId}
use Rattle.tab_ids.specs.declared.Epoch.{Epoch}
use Rattle.tab_ids.specs.declared.NavId.{NavId}
use Rattle.tab_ids.specs.declared.StateId.{StateId}
use Rattle.log_model.specs.declared.job.Job.{Job}
use Rattle.log_model.specs.declared.job.Task.{Task}
use Rattle.log_model.specs.declared.job.Task.TheVariants as tasks
use Rattle.log_model.specs.declared.job.Why.{Why}
use Rattle.log_model.specs.declared.row.Row.{Row}
use Rattle.log_model.specs.declared.row_kind.Actor.{Actor}
use Rattle.log_model.specs.declared.row_kind.RowKind.TheVariants as rows
use Rattle.log_model.specs.After.{after}
use Rattle.log_model.specs.AfterDocuments.{documents_sent, new_document}
use Rattle.log_model.specs.AfterPlaces.{activated, on_place, places_sent, put_to_sleep, sleepers_below, sleepers_with}
use Rattle.log_model.specs.History.{has_nav, has_row}
use Rattle.log_model.specs.Seen.{Seen, Document, Place, awake, lost, asleep, document_of, place_in, place_of}
use Rattle.seen_facts.specs.Hang.Members.{Has}
use Rattle.seen_facts.proofs.Hang.Forms.{nav_is}
use Rattle.seen_facts.proofs.Walk.Sleepers.{sleepers_of}
use Rattle.seen_facts.specs.Home.Homes.{document_in}
use Rattle.seen_facts.proofs.Mover.Orders.{PutsToSleep}
use Rattle.seen_facts.proofs.Mover.Places.{slept_for, slept_nav, was_there}
use Rattle.seen_facts.specs.Place.Standing.{AreStanding, IsOfItsLast, IsStanding}
use Rattle.seen_facts.proofs.Place.Asked.{StayAsked, asked_stay}
use Rattle.seen_facts.proofs.Place.Documents.{KeepStates, MakesNone, others_stay, state_in, states_stay}
use Rattle.seen_facts.proofs.Place.Rows.{IsLeft, all_left, left_standing, quietly_standing}
use Rattle.seen_facts.proofs.Place.Stays.{bearing, still_standing, was_of_state}

-- the order tells a document something, asks it, or sends it to a fragment
abbrev pub TellsOrAsks : Task → Type 0
TellsOrAsks (tasks.Update length index) = Unit {0}
TellsOrAsks (tasks.Ask slot cause) = Unit {0}
TellsOrAsks (tasks.DoFragment req mode address) = Unit {0}
TellsOrAsks _ = ⊥

-- who falls asleep, or doesn't, stands as before
slept_stands : (s t : Seen) (navs : List NavId) (why : Why) (before place : Place) → (let p : Place = cond (has_nav navs before.nav) (slept_for why before) before in p) ≡ place → StayAsked s.requests t.requests → KeepStates s.documents t.documents → t.history.rows ≡ s.history.rows → IsStanding s before → IsStanding t place
slept_stands s t navs why before place is asked states rows_ stands =
    still_standing s t before place
    (record {
      same = ap bearing (sym is) ∙ elim (has_nav navs before.nav) as (λ b. bearing (let p : Place = cond b (slept_for why before) before in p) ≡ bearing before) [ true ↦ refl | false ↦ refl ];
      status = by_test (has_nav navs before.nav) (ap (λ (p : Place). p.status) (sym is));
      asked = asked;
      states = λ doc last. states doc;
      part = λ row has navs_ given. subst (λ (l : List Row). Has l row) rows_ has;
    })
    (ap (λ (p : Place). p.taken_by) (sym is) ∙ elim (has_nav navs before.nav) as (λ b. (let p : Place = cond b (slept_for why before) before in p).taken_by ≡ before.taken_by) [ true ↦ refl | false ↦ refl ])
    (λ none. ap (has_row before.nav) (sym rows_) ∙ none) stands
  where
    by_test : (b : Bool) → place.status ≡ (let p : Place = cond b (slept_for why before) before in p).status → (place.status ≡ before.status) ⊎ (place.status ≡ asleep)
    by_test true e = inr e
    by_test false e = inl e

-- no navigable was shown a document of the number last
abbrev pub IsShownNowhere : Seen → DocId → Type 0
IsShownNowhere s doc = (nav : NavId) (place : Place) → place_of s nav ≡ Some place → place.last ≡ Some doc → ⊥

-- a document that is to be shown: it is there, the epoch isn't 0, and a row of its navigable with the entry is of its document state
pub record IsToStand (s : Seen) (job : Job) (d : Document) (entry : EntryId) (epoch : Epoch) : Type 0 where
  pub found : document_of s job.doc ≡ Some d
  pub later : 1 ≤ epoch.0
  pub of_state : (row : Row) → Has s.history.rows row → row.nav ≡ d.nav → row.entry ≡ entry → row.state ≡ d.state

module _ (s : Seen) (event : ℕ) (actor : Actor) (are : AreStanding s) where
  abbrev then_ : Job → Seen
  then_ job = after s (record { event = event; actor = actor; row = rows.Sent job })

  asked : (job : Job) → StayAsked s.requests (then_ job).requests
  asked job = asked_stay s (rows.Sent job) tt

  -- an order that tells a document something, asks it, or sends it to a fragment
  pub told_standing : (job : Job) (task : Task) → job.task ≡ task → TellsOrAsks task → AreStanding (then_ job)
  told_standing job task is tells =
      quietly_standing s (then_ job) are (asked job) (states_stay s (rows.Sent job) (subst MakesNone (sym is) (makes_none task tells))) refl (subst (λ (k : Task). IsLeft s (places_sent s job k)) (sym is) (places_left task tells))
    where
      makes_none : (k : Task) → TellsOrAsks k → MakesNone k
      makes_none (tasks.Update length index) tells_ = tt
      makes_none (tasks.Ask slot cause) tells_ = tt
      makes_none (tasks.DoFragment req mode address) tells_ = tt
      makes_none (tasks.Populate nav state address initial) never = absurd never
      makes_none (tasks.Activate entry epoch length index memo address) never = absurd never
      makes_none tasks.Freeze never = absurd never
      makes_none tasks.Discard never = absurd never

      places_left : (k : Task) → TellsOrAsks k → IsLeft s (places_sent s job k)
      places_left (tasks.Update length index) tells_ = all_left s
      places_left (tasks.Ask slot cause) tells_ = all_left s
      places_left (tasks.DoFragment req mode address) tells_ = all_left s
      places_left (tasks.Populate nav state address initial) never = absurd never
      places_left (tasks.Activate entry epoch length index memo address) never = absurd never
      places_left tasks.Freeze never = absurd never
      places_left tasks.Discard never = absurd never

  -- an order that makes a document
  pub making_standing : (job : Job) (nav : NavId) (state : StateId) (address : List ℕ) (initial : Bool) → job.task ≡ tasks.Populate nav state address initial → IsShownNowhere s job.doc → AreStanding (then_ job)
  making_standing job nav state address initial is nowhere =
      left_standing s (then_ job) (record {
        g = (all_left s).g;
        leaves = (all_left s).leaves;
        places = ap (places_sent s job) is ∙ (all_left s).are;
        rows_ = refl;
        asked = asked job;
        states = states;
      }) are
    where
      states : (at : NavId) (place : Place) (doc : DocId) → place_of s at ≡ Some place → place.last ≡ Some doc → state_in (then_ job).documents doc ≡ state_in s.documents doc
      states at place doc there last =
          ap (λ (k : Task). state_in (documents_sent s job k) doc) is
          ∙ others_stay s.documents (new_document s job nav state) doc (by_test (job.doc.0 == doc.0) refl)
        where
          by_test : (b : Bool) → (job.doc.0 == doc.0) ≡ b → (job.doc.0 == doc.0) ≡ false
          by_test false e = e
          by_test true e =
              let same : doc ≡ job.doc = ap (λ (n : ℕ). let x : DocId = record { 0 = n } in x) (sym (eqb-true job.doc.0 doc.0 e)) in
              absurd (nowhere at place there (last ∙ ap (λ (x : DocId). Some x) same))

  -- an order that freezes or discards a document: who falls asleep stands as before
  pub slept_standing : (job : Job) (task : Task) → job.task ≡ task → PutsToSleep task → AreStanding (then_ job)
  slept_standing job task is puts nav place there =
      let w = was_there sleep s.places (slept_nav (sleepers_with s job.doc) job.why) nav place (ap (λ (l : List Place). place_in l nav) (sym places) ∙ there) in
      slept_stands s (then_ job) (sleepers_with s job.doc) job.why w.before place w.is (asked job) (states_stay s (rows.Sent job) (subst MakesNone (sym is) (makes_none task puts))) refl (are nav w.before w.found)
    where
      sleep : Place → Place
      sleep p = cond (has_nav (sleepers_with s job.doc) p.nav) (slept_for job.why p) p

      makes_none : (k : Task) → PutsToSleep k → MakesNone k
      makes_none tasks.Freeze puts_ = tt
      makes_none tasks.Discard puts_ = tt
      makes_none (tasks.Populate nav_ state address initial) never = absurd never
      makes_none (tasks.Update length index) never = absurd never
      makes_none (tasks.DoFragment req mode address) never = absurd never
      makes_none (tasks.Activate entry epoch length index memo address) never = absurd never
      makes_none (tasks.Ask slot cause) never = absurd never

      puts_all : (k : Task) → PutsToSleep k → places_sent s job k ≡ put_to_sleep (sleepers_with s job.doc) job.why s.places
      puts_all tasks.Freeze puts_ = refl
      puts_all tasks.Discard puts_ = refl
      puts_all (tasks.Populate nav_ state address initial) never = absurd never
      puts_all (tasks.Update length index) never = absurd never
      puts_all (tasks.DoFragment req mode address) never = absurd never
      puts_all (tasks.Activate entry epoch length index memo address) never = absurd never
      puts_all (tasks.Ask slot cause) never = absurd never

      places : (then_ job).places ≡ map sleep s.places
      places = ap (places_sent s job) is ∙ puts_all task puts

  -- an order that shows a navigable a document: it stands there, and who falls asleep below it stands as before
  module _ (job : Job) (d : Document) (entry : EntryId) (epoch : Epoch) (long at : ℕ) (memo : Option (List ℕ)) (address : List ℕ) (task : job.task ≡ tasks.Activate entry epoch long at memo address) (to : IsToStand s job d entry epoch) where
    abbrev navs : List NavId
    navs = sleepers_of s job.doc d.nav

    abbrev sleep : Place → Place
    sleep p = cond (has_nav navs p.nav) (slept_for job.why p) p

    abbrev show : Place → Place
    show p = cond (p.nav.0 == d.nav.0) (activated job entry epoch d p) p

    show_nav : (p : Place) → (show p).nav ≡ p.nav
    show_nav p = elim (p.nav.0 == d.nav.0) as (λ b. (let q : Place = cond b (activated job entry epoch d p) p in q).nav ≡ p.nav) [ true ↦ refl | false ↦ refl ]

    places : (then_ job).places ≡ map show (map sleep s.places)
    places =
        ap (λ (k : Task). places_sent s job k) task
        ∙ ap (λ (o : Option Document). option_map_or (λ (x : Document). on_place x.nav (activated job entry epoch x) (put_to_sleep (option_map_or (sleepers_below s job.doc) (place_of s x.nav) []) job.why s.places)) o s.places) to.found

    states : KeepStates s.documents (then_ job).documents
    states = states_stay s (rows.Sent job) (subst MakesNone (sym task) tt)

    -- the one that is shown it
    shown_stands : (p : Place) → p.nav ≡ d.nav → IsStanding (then_ job) p → IsStanding (then_ job) (activated job entry epoch d p)
    shown_stands p own stands =
        record {
          unlost = λ e. (let no_ : awake job.doc ≡ lost = e in absurd cc);
          unpending = refl;
          met = rw stands.met refl;
          shown = λ doc e. to.later;
          told = (λ zero. absurd (none epoch.0 to.later zero), λ some. record { doc = job.doc; last = refl; entry = entry; given = refl; ever = inl refl });
          of_last = of_last;
          taken = stands.taken;
          added = stands.added;
        }
      where
        none : (n : ℕ) → 1 ≤ n → n ≡ 0 → ⊥
        none n some zero = omega (arith, some, zero)

        of_last : IsOfItsLast (then_ job) (activated job entry epoch d p)
        of_last doc x row last found has navs_ given =
            let one : job.doc ≡ doc = cc in
            let its : entry ≡ row.entry = cc in
            let was = was_of_state s.documents (then_ job).documents job.doc x (states job.doc) (ap (document_in (then_ job).documents) one ∙ found) in
            let same : Some was.0 ≡ Some d = sym was.1 ∙ to.found in
            let is : was.0 ≡ d = cc in
            to.of_state row has (navs_ ∙ own) (sym its) ∙ ap (λ (y : Document). y.state) (sym is) ∙ was.2

    -- the one that is shown it, those that fall asleep, and the others
    pub shown_standing : AreStanding (then_ job)
    shown_standing nav place there =
        let w = was_there show (map sleep s.places) show_nav nav place (ap (λ (l : List Place). place_in l nav) (sym places) ∙ there) in
        let v = was_there sleep s.places (slept_nav navs job.why) nav w.before w.found in
        let mid : IsStanding (then_ job) w.before = slept_stands s (then_ job) navs job.why v.before w.before v.is (asked job) states refl (are nav v.before v.found) in
        by_nav w.before mid (w.before.nav.0 == d.nav.0) refl w.is
      where
        by_nav : (p : Place) → IsStanding (then_ job) p → (b : Bool) → (p.nav.0 == d.nav.0) ≡ b → show p ≡ place → IsStanding (then_ job) place
        by_nav p stands true e is =
            let value : activated job entry epoch d p ≡ place = sym (ap (λ (b : Bool). let q : Place = cond b (activated job entry epoch d p) p in q) e) ∙ is in
            subst (λ (q : Place). IsStanding (then_ job) q) value (shown_stands p (nav_is p.nav d.nav e) stands)
        by_nav p stands false e is =
            let value : p ≡ place = sym (ap (λ (b : Bool). let q : Place = cond b (activated job entry epoch d p) p in q) e) ∙ is in
            subst (λ (q : Place). IsStanding (then_ job) q) value stands
