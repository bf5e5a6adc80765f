-- Which navigables were shown a document, as their epochs and the orders on their way tell: over each row of an event, each of which passes.
use Rattle.seen_laws.proofs.InEvents.{uncut_log}
use Rattle.seen_facts.proofs.Coord.Unread.{next}
use Rattle.seen_facts.proofs.Desk.Again.{AllStay, StaysIn, same_documents}
use Rattle.seen_facts.proofs.Desk.Stays.{NoDeath, changed_stay, delivered_stay, finished_stay, made_stay, sent_stay}
use Rattle.seen_facts.specs.Each.Items.{Each}
use Rattle.seen_facts.proofs.Hang.Forms.{nav_is}
use Rattle.seen_facts.specs.Hang.Members.{Has}
use Rattle.log_model.proofs.Refl.{nat_eq_refl}
use Rattle.log_model.specs.AfterDocuments.{task_in_hand}
use Rattle.log_model.specs.AfterPlaces.{activated, given_entry, new_place, on_place, place_arrived, places_applied, places_delivered, places_given, places_sent, sleepers_with, with_taker}
use Rattle.log_model.specs.Equal.{holds}
use Rattle.log_model.specs.Events.{Point}
use Rattle.log_model.specs.History.{applied, has_row}
use Rattle.log_model.specs.Orders.{has_cause, is_ordered_row}
use Rattle.log_model.specs.Places.{holder_of, is_awake}
use Rattle.log_model.specs.Seen.{Asked, Document, Place, Seen, desk_of, document_of, place_in, place_of, request_of}
use Rattle.log_model.specs.declared.change.Change.{Change}
use Rattle.log_model.specs.declared.job.Job.{Job}
use Rattle.log_model.specs.declared.job.Task.{Task}
use Rattle.log_model.specs.declared.made.Made.{Made}
use Rattle.log_model.specs.declared.made.Report.{Report}
use Rattle.log_model.specs.declared.outcome.Denial.{Denial}
use Rattle.log_model.specs.declared.outcome.Outcome.{Outcome}
use Rattle.log_model.specs.declared.request.Request.{Request}
use Rattle.log_model.specs.declared.row_kind.Actor.{Actor}
use Rattle.log_model.specs.declared.row_kind.LogRow.{LogRow}
use Rattle.log_model.specs.declared.row_kind.RowKind.{RowKind}
use Rattle.seen_facts.proofs.Mover.Places.{WasThere, was_there}
use Rattle.tab_facts.specs.Order.Orders.{IsOfCoord, TellsOf}
use Rattle.seen_laws.specs.Blocks.{EachPass, Here, on_row, on_rows, point_at}
use Rattle.seen_laws.specs.InEvent.{InEvent, first_of, later_of, log_of, own_of, row_of}
use Rattle.seen_laws.specs.Sending.{leads}
use Rattle.std.proofs.Common.{Bool, List, None, Option, Some, [], ap, arith, cond, false, inl, inr, map, not, refl, subst, suc, sym, true, zero, ℕ, ◌&&◌, ◌++◌, ◌<◌, ◌==◌, ◌||◌, ◌∙◌, ◌∷◌, ◌≡◌, ◌≤◌}
use Rattle.std.proofs.lemmas.Bool.{and_parts}
use Rattle.std.proofs.lemmas.Bool.Decides.{nat_tests}
use Rattle.std.specs.Option.{option_map_or}
use Rattle.std.specs.Prelude.{nat_lt, option_and_then, option_map, slice_get}
use Rattle.tab_ids.specs.declared.DocId.{DocId}
use Rattle.tab_ids.specs.declared.EntryId.{EntryId}
use Rattle.tab_ids.specs.declared.Epoch.{Epoch}
use Rattle.tab_ids.specs.declared.JobId.{JobId}
use Rattle.tab_ids.specs.declared.NavId.{NavId}
use Rattle.tab_ids.specs.declared.ProcId.{ProcId}
use Rattle.tab_ids.specs.declared.ReqId.{ReqId}
use Rattle.tab_stands.proofs.Epochs.{AllGoOn, GoesOn, IsQuiet, IsUnshown, LeavesShown, all_itself, all_then, goes_itself, map_goes, map_new, old_by, quiet_if, quietly_goes, quietly_new, quietly_under, slept_quiet, under_after}
use Rattle.tab_stands.specs.Offs.{AreNewUnshown, AreShownUnder, IsOfEpoch, IsUnderEpoch, is_new_place}
use Rattle.seen_facts.proofs.Walk.Placed.{found_nav}
use Rattle.seen_facts.proofs.Walk.Sleepers.{becomes, place_becomes, shown_on, sleepers_of, slept, slept_same}
use Rattle.log_model.specs.declared.change.Change.TheVariants as changes
use Rattle.log_model.specs.declared.job.Task.TheVariants as tasks
use Rattle.log_model.specs.declared.made.Report.TheVariants as reports
use Rattle.log_model.specs.declared.row_kind.RowKind.TheVariants as rows

-- ---- an order

-- its document is of a navigable under a lower epoch
record IsRaised (s : Seen) (job : Job) (epoch : ℕ) : Type 0 where
  d : Document
  found : document_of s job.doc ≡ Some d
  place : Place
  placed : place_of s d.nav ≡ Some place
  less : place.epoch.0 < epoch

-- so it is, if the order shows a document
abbrev Raises : Seen → Job → Task → Type 0
Raises s job (tasks.Activate entry epoch length index memo address) = IsRaised s job epoch.0
Raises s job _ = Unit {0}

module _ (s : Seen) (event : ℕ) (actor : Actor) (job : Job) (are : AreShownUnder s) where
  abbrev t : Seen
  t = next s event actor (rows.Sent job)

  homes : AllStay s.documents t.documents
  homes = sent_stay s job job.task

  unmoved : (task : Task) → job.task ≡ task → places_sent s job task ≡ s.places → LeavesShown s t
  unmoved task is same =
      record {
        homes = homes;
        goes = subst (λ (l : List Place). AllGoOn s.places l) (sym (ap (λ (k : Task). places_sent s job k) is ∙ same)) (all_itself s.places);
        new = subst (λ (l : List Place). AreNewUnshown l) (sym (ap (λ (k : Task). places_sent s job k) is ∙ same)) are.unshown;
      }

  sleeps : (task : Task) → job.task ≡ task → places_sent s job task ≡ map (slept (sleepers_with s job.doc) job.why) s.places → LeavesShown s t
  sleeps task is same =
      record {
        homes = homes;
        goes = subst (λ (l : List Place). AllGoOn s.places l) (sym (ap (λ (k : Task). places_sent s job k) is ∙ same)) (quietly_goes (slept (sleepers_with s job.doc) job.why) s.places (slept_quiet (sleepers_with s job.doc) job.why));
        new = subst (λ (l : List Place). AreNewUnshown l) (sym (ap (λ (k : Task). places_sent s job k) is ∙ same)) (quietly_new (slept (sleepers_with s job.doc) job.why) s.places (slept_quiet (sleepers_with s job.doc) job.why) are.unshown);
      }

  module _ (entry : EntryId) (epoch : Epoch) (long at : ℕ) (memo : Option (List ℕ)) (address : List ℕ) (task : job.task ≡ tasks.Activate entry epoch long at memo address) (it : IsRaised s job epoch.0) where
    abbrev navs : List NavId
    navs = sleepers_of s job.doc it.d.nav

    abbrev sleep : Place → Place
    sleep p = slept (sleepers_of s job.doc it.d.nav) job.why p

    abbrev show : Place → Place
    show p = shown_on it.d.nav job entry epoch it.d p

    abbrev mid : List Place
    mid = map sleep s.places

    places_are : t.places ≡ map show (map sleep s.places)
    places_are = ap (λ (k : Task). places_sent s job k) task ∙ (let there = it.found in rw there refl)

    -- the navigable's place, where others fell asleep
    own_epoch : (nav : NavId) (p : Place) → place_in (map sleep s.places) nav ≡ Some p → (p.nav.0 == it.d.nav.0) ≡ true → p.epoch.0 < epoch.0
    own_epoch nav p there same =
        subst (λ (x : Epoch). x.0 < epoch.0) (sym (ap (λ (q : Place). q.epoch) (sym w.is) ∙ (slept_quiet navs job.why w.before).epoch ∙ ap (λ (q : Place). q.epoch) one)) it.less
      where
        w : WasThere sleep s.places nav p
        w = was_there sleep s.places (λ q. (slept_quiet navs job.why q).nav) nav p there

        nav_same : nav ≡ it.d.nav
        nav_same = sym (found_nav (map sleep s.places) nav p there) ∙ nav_is p.nav it.d.nav same

        one : w.before ≡ it.place
        one =
            let both : Some w.before ≡ Some it.place = sym w.found ∙ ap (λ (n : NavId). place_of s n) nav_same ∙ it.placed in
            cc

    show_goes : (nav : NavId) (p : Place) → place_in (map sleep s.places) nav ≡ Some p → GoesOn p (show p)
    show_goes nav p there = by_own (p.nav.0 == it.d.nav.0) refl
      where
        by_own : (b : Bool) → (p.nav.0 == it.d.nav.0) ≡ b → GoesOn p (let q : Place = cond b (activated job entry epoch it.d p) p in q)
        by_own true same = record { epoch = inr (own_epoch nav p there same); shown = λ is. is }
        by_own false apart = goes_itself p

    show_new : (nav : NavId) (p : Place) → place_in (map sleep s.places) nav ≡ Some p → IsUnshown p → IsUnshown (show p)
    show_new nav p there unshown = by_own (p.nav.0 == it.d.nav.0) refl
      where
        by_epoch : (k : ℕ) → epoch.0 ≡ k → p.epoch.0 < epoch.0 → (epoch.0 == 0 || (epoch.0 == 1 && true)) ≡ true → p.was_activated ≡ false
        by_epoch zero is less new = absurd (omega (arith, is, less))
        by_epoch (suc zero) is less new =
            let zero_ : p.epoch.0 ≡ 0 = omega (arith, is, less) in
            unshown (rw zero_ refl)
        by_epoch (suc (suc k)) is less new =
            let low : 2 ≤ epoch.0 = omega (arith, is) in
            let zero_ : (epoch.0 == 0) ≡ false = grind (arith, nat_tests, low) in
            let one : (epoch.0 == 1) ≡ false = grind (arith, nat_tests, low) in
            let never : true ≡ false = sym new ∙ ap (λ (b : Bool). b || (epoch.0 == 1 && true)) zero_ ∙ ap (λ (b : Bool). b && true) one in
            absurd cc

        by_own : (b : Bool) → (p.nav.0 == it.d.nav.0) ≡ b → IsUnshown (let q : Place = cond b (activated job entry epoch it.d p) p in q)
        by_own true same = λ new. by_epoch epoch.0 refl (own_epoch nav p there same) new
        by_own false apart = unshown

    show_nav : (p : Place) → (show p).nav ≡ p.nav
    show_nav p = by_own (p.nav.0 == it.d.nav.0)
      where
        by_own : (b : Bool) → (let q : Place = cond b (activated job entry epoch it.d p) p in q).nav ≡ p.nav
        by_own true = refl
        by_own false = refl

    shows : LeavesShown s t
    shows =
        record {
          homes = homes;
          goes = subst (λ (l : List Place). AllGoOn s.places l) (sym places_are) (all_then s.places (map sleep s.places) (map show (map sleep s.places)) (quietly_goes sleep s.places (slept_quiet navs job.why)) (map_goes show (map sleep s.places) show_nav show_goes));
          new = subst (λ (l : List Place). AreNewUnshown l) (sym places_are) (map_new show (map sleep s.places) show_nav show_new (quietly_new sleep s.places (slept_quiet navs job.why) are.unshown));
        }

    -- the order itself
    own_order : IsOfEpoch t.documents t.places job epoch.0
    own_order =
        record {
          d = home.new;
          found = home.found;
          place = activated job entry epoch it.d (sleep it.place);
          placed = ap (λ (n : NavId). place_in t.places n) home.nav
              ∙ place_becomes s event actor job it.d entry epoch long at memo address task it.found it.d.nav
              ∙ ap (option_map (becomes s event actor job it.d entry epoch long at memo address task it.found)) it.placed
              ∙ ap (λ (b : Bool). let q : Place = cond b (activated job entry epoch it.d (sleep it.place)) (sleep it.place) in let o : Option Place = Some q in o) own;
          one = let less = it.less in omega (arith, less);
          low = omega arith;
          last = λ is. refl;
        }
      where
        home : StaysIn t.documents job.doc it.d
        home = homes job.doc it.d it.found

        own : ((sleep it.place).nav.0 == it.d.nav.0) ≡ true
        own =
            ap (λ (n : NavId). n.0 == it.d.nav.0) ((slept_same navs job.why it.place).0 ∙ found_nav s.places it.d.nav it.place it.placed)
            ∙ nat_eq_refl it.d.nav.0

  leaves : (task : Task) → job.task ≡ task → Raises s job task → LeavesShown s t
  leaves (tasks.Activate entry epoch long at memo address) is it = shows entry epoch long at memo address is it
  leaves tasks.Freeze is it = sleeps tasks.Freeze is refl
  leaves tasks.Discard is it = sleeps tasks.Discard is refl
  leaves (tasks.Ask slot cause) is it = unmoved (tasks.Ask slot cause) is refl
  leaves (tasks.Populate n state address initial) is it = unmoved (tasks.Populate n state address initial) is refl
  leaves (tasks.Update long at) is it = unmoved (tasks.Update long at) is refl
  leaves (tasks.DoFragment req mode address) is it = unmoved (tasks.DoFragment req mode address) is refl

  is_under : (task : Task) → job.task ≡ task → Raises s job task → IsUnderEpoch t.documents t.places job task
  is_under (tasks.Activate entry epoch long at memo address) is it = own_order entry epoch long at memo address is it
  is_under _ is it = tt

  sent_under : Raises s job job.task → AreShownUnder t
  sent_under raises =
      under_after s event actor (rows.Sent job) tt (leaves job.task refl raises) (λ other is. (let one : job ≡ other = cc in subst (λ (j : Job). IsUnderEpoch t.documents t.places j j.task) one (is_under job.task refl raises))) are

-- an order that passes is so
some_held : {A : Type 0} (test : A → Bool) (o : Option A) → holds test o ≡ true → (a : A) × (o ≡ Some a) × (test a ≡ true)
some_held test None is = absurd cc
some_held test (Some a) is = (a, refl, is)

raised_by : (p : Point) (row : LogRow) (job : Job) (task : Task) → has_cause p row job task ≡ true → Raises p.now job task
raised_by p row job (tasks.Activate entry epoch long at memo address) cause =
    let d = some_held _ (document_of p.now job.doc) cause in
    let place = some_held _ (place_of p.now d.0.nav) (and_parts _ _ (and_parts _ _ d.2).0).0 in
    let greater : nat_lt place.0.epoch.0 epoch.0 ≡ true = (and_parts _ _ place.2).1 in
    record {
      d = d.0;
      found = d.1;
      place = place.0;
      placed = place.1;
      less = grind (arith, nat_tests, greater);
    }
raised_by p row job _ cause = tt

-- ---- a report is delivered

first_of_each : (F : Report → Type 0) (waiting : List Report) (report : Report) → slice_get waiting 0 ≡ Some report → Each F waiting → F report
first_of_each F [] report at all = absurd cc
first_of_each F (first ∷ waiting) report at all = (let same : first ≡ report = cc in subst F same all.0)

-- the report that its document is shown arrives
module _ (job : Job) (d : Document) (places : List Place) (place : Place) (placed : place_in places d.nav ≡ Some place) (epoch : ℕ) (one : 1 ≤ epoch) (low : epoch ≤ place.epoch.0) (last : epoch ≡ place.epoch.0 → place.last_job ≡ Some job.nr) where
  abbrev arrive : Place → Place
  arrive p = cond (p.nav.0 == d.nav.0) (place_arrived job p) p

  arrive_nav : (p : Place) → (arrive p).nav ≡ p.nav
  arrive_nav p = elim (p.nav.0 == d.nav.0) as (λ b. (let q : Place = cond b (place_arrived job p) p in q).nav ≡ p.nav) [ true ↦ refl | false ↦ refl ]

  arrive_goes : (nav : NavId) (p : Place) → place_in places nav ≡ Some p → GoesOn p (arrive p)
  arrive_goes nav p at = by_own (p.nav.0 == d.nav.0)
    where
      by_own : (b : Bool) → GoesOn p (let q : Place = cond b (place_arrived job p) p in q)
      by_own true = record { epoch = inl (refl, refl); shown = λ is. refl }
      by_own false = goes_itself p

  or_true : (a b : Bool) → b ≡ true → (a || b) ≡ true
  or_true true b is = refl
  or_true false b is = is

  and_none : (a : Bool) → (a && false) ≡ false
  and_none true = refl
  and_none false = refl

  -- then it isn't new
  arrived_old : is_new_place (place_arrived job place) ≡ false
  arrived_old = by_epoch place.epoch.0 refl
    where
      told : (place.epoch.0 ≡ 1) → (place_arrived job place).is_delivered ≡ true
      told is =
          let its : place.last_job ≡ Some job.nr = last (let same : epoch ≡ place.epoch.0 = omega (arith, is, one, low) in same) in
          or_true place.is_delivered (holds (λ (nr : JobId). nr.0 == job.nr.0) place.last_job) (ap (λ (o : Option JobId). holds (λ (nr : JobId). nr.0 == job.nr.0) o) its ∙ nat_eq_refl job.nr.0)

      by_epoch : (k : ℕ) → place.epoch.0 ≡ k → is_new_place (place_arrived job place) ≡ false
      by_epoch zero is = absurd (omega (arith, is, one, low))
      by_epoch (suc zero) is =
          ap (λ (k : ℕ). k == 0 || (k == 1 && (is_awake place && not (place_arrived job place).is_delivered))) is
          ∙ ap (λ (b : Bool). is_awake place && not b) (told is)
          ∙ and_none (is_awake place)
      by_epoch (suc (suc k)) is = old_by (place_arrived job place) (omega (arith, is))

  arrive_new : (nav : NavId) (p : Place) → place_in places nav ≡ Some p → IsUnshown p → IsUnshown (arrive p)
  arrive_new nav p at unshown = by_own (p.nav.0 == d.nav.0) refl
    where
      by_own : (b : Bool) → (p.nav.0 == d.nav.0) ≡ b → IsUnshown (let q : Place = cond b (place_arrived job p) p in q)
      by_own true same = λ new. absurd (let never : true ≡ false = sym new ∙ ap (λ (q : Place). is_new_place (place_arrived job q)) is_own ∙ arrived_old in cc)
        where
          is_own : p ≡ place
          is_own =
              let both : Some p ≡ Some place = sym at ∙ ap (λ (n : NavId). place_in places n) (sym (found_nav places nav p at) ∙ nav_is p.nav d.nav same) ∙ placed in
              cc
      by_own false apart = unshown

module _ (s : Seen) (event : ℕ) (actor : Actor) (proc : ProcId) (alive : NoDeath (slice_get (desk_of s proc).reports 0)) (are : AreShownUnder s) where
  abbrev told : Seen
  told = next s event actor (rows.Delivered proc)

  told_homes : AllStay s.documents told.documents
  told_homes = delivered_stay s.documents (slice_get (desk_of s proc).reports 0) alive

  still : told.places ≡ s.places → LeavesShown s told
  still same =
      record {
        homes = told_homes;
        goes = subst (λ (l : List Place). AllGoOn s.places l) (sym same) (all_itself s.places);
        new = subst (λ (l : List Place). AreNewUnshown l) (sym same) are.unshown;
      }

  arrived : (job : Job) (epoch : ℕ) (it : IsOfEpoch s.documents s.places job epoch) → told.places ≡ option_map_or (λ (d : Document). on_place d.nav (place_arrived job) s.places) (document_of s job.doc) s.places → LeavesShown s told
  arrived job epoch it places =
      record {
        homes = told_homes;
        goes = subst (λ (l : List Place). AllGoOn s.places l) (sym here) (map_goes (arrive job it.d s.places it.place it.placed epoch it.one it.low it.last) s.places (arrive_nav job it.d s.places it.place it.placed epoch it.one it.low it.last) (arrive_goes job it.d s.places it.place it.placed epoch it.one it.low it.last));
        new = subst (λ (l : List Place). AreNewUnshown l) (sym here) (map_new (arrive job it.d s.places it.place it.placed epoch it.one it.low it.last) s.places (arrive_nav job it.d s.places it.place it.placed epoch it.one it.low it.last) (arrive_new job it.d s.places it.place it.placed epoch it.one it.low it.last) are.unshown);
      }
    where
      here : told.places ≡ map (λ (p : Place). cond (p.nav.0 == it.d.nav.0) (place_arrived job p) p) s.places
      here = places ∙ ap (λ (o : Option Document). option_map_or (λ (d : Document). on_place d.nav (place_arrived job) s.places) o s.places) it.found

  by_task : (job : Job) (outcome : Outcome) (made : Option Made) → slice_get (desk_of s proc).reports 0 ≡ Some (reports.Done job outcome made) → (task : Task) → job.task ≡ task → IsUnderEpoch s.documents s.places job task → LeavesShown s told
  by_task job outcome made first (tasks.Activate entry epoch long at memo address) is it =
      arrived job epoch.0 it (ap (λ (o : Option Report). places_delivered s o) first ∙ (rw is refl))
  by_task job outcome made first tasks.Freeze is it = still (ap (λ (o : Option Report). places_delivered s o) first ∙ (rw is refl))
  by_task job outcome made first tasks.Discard is it = still (ap (λ (o : Option Report). places_delivered s o) first ∙ (rw is refl))
  by_task job outcome made first (tasks.Ask slot cause) is it = still (ap (λ (o : Option Report). places_delivered s o) first ∙ (rw is refl))
  by_task job outcome made first (tasks.Populate n state address initial) is it = still (ap (λ (o : Option Report). places_delivered s o) first ∙ (rw is refl))
  by_task job outcome made first (tasks.Update long at) is it = still (ap (λ (o : Option Report). places_delivered s o) first ∙ (rw is refl))
  by_task job outcome made first (tasks.DoFragment req mode address) is it = still (ap (λ (o : Option Report). places_delivered s o) first ∙ (rw is refl))

  by_report : (o : Option Report) → slice_get (desk_of s proc).reports 0 ≡ o → LeavesShown s told
  by_report None first = still (ap (λ (o : Option Report). places_delivered s o) first)
  by_report (Some (reports.Died death)) first =
      absurd (let never : ⊥ = subst NoDeath first alive in never)
  by_report (Some (reports.Made made)) first = still (ap (λ (o : Option Report). places_delivered s o) first)
  by_report (Some (reports.Done job outcome made)) first =
      by_task job outcome made first job.task refl (first_of_each (TellsOf (λ (j : Job). IsUnderEpoch s.documents s.places j j.task)) (desk_of s proc).reports (reports.Done job outcome made) first (are.orders proc).told)

  pub delivered_under : AreShownUnder (next s event actor (rows.Delivered proc))
  delivered_under =
      under_after s event actor (rows.Delivered proc) tt (by_report (slice_get (desk_of s proc).reports 0) refl) (λ job is. cc) are

-- ---- a change is applied

-- each place goes on, and where a new one was shown no document, it is so then
record LeavesPlaces (old new : List Place) : Type 0 where
  goes : AllGoOn old new
  unshown : AreNewUnshown old → AreNewUnshown new

places_itself : (places : List Place) → LeavesPlaces places places
places_itself places = record { goes = all_itself places; unshown = λ are. are }

places_quietly : (g : Place → Place) (places : List Place) → ((p : Place) → IsQuiet p (g p)) → LeavesPlaces places (map g places)
places_quietly g places quiet = record { goes = quietly_goes g places quiet; unshown = quietly_new g places quiet }

found_more : (nav : NavId) (places : List Place) (new p : Place) → place_in places nav ≡ Some p → place_in (places ++ new ∷ []) nav ≡ Some p
found_more nav [] new p found = absurd cc
found_more nav (x ∷ places) new p found = by_test (x.nav.0 == nav.0) found (found_more nav places new p)
  where
    by_test : (b : Bool) → (let o : Option Place = cond b (Some x) (place_in places nav) in o) ≡ Some p → (place_in places nav ≡ Some p → place_in (places ++ new ∷ []) nav ≡ Some p) → (let o : Option Place = cond b (Some x) (place_in (places ++ new ∷ []) nav) in o) ≡ Some p
    by_test true h later = h
    by_test false h later = later h

more_new : (places : List Place) (new : Place) → new.was_activated ≡ false → AreNewUnshown places → AreNewUnshown (places ++ new ∷ [])
more_new places new unshown are nav place at is = by_old (place_in places nav) refl
  where
    last : (l : List Place) → place_in l nav ≡ None → place_in (l ++ new ∷ []) nav ≡ Some place → new ≡ place
    last [] none there = by_test (new.nav.0 == nav.0) there
      where
        by_test : (b : Bool) → (let o : Option Place = cond b (Some new) None in o) ≡ Some place → new ≡ place
        by_test true same = cc
        by_test false same = absurd cc
    last (p ∷ l) none there = by_test (p.nav.0 == nav.0) none there (last l)
      where
        by_test : (b : Bool) → (let o : Option Place = cond b (Some p) (place_in l nav) in o) ≡ None → (let o : Option Place = cond b (Some p) (place_in (l ++ new ∷ []) nav) in o) ≡ Some place → (place_in l nav ≡ None → place_in (l ++ new ∷ []) nav ≡ Some place → new ≡ place) → new ≡ place
        by_test true never here later = absurd cc
        by_test false none_ here later = later none_ here

    by_old : (o : Option Place) → place_in places nav ≡ o → place.was_activated ≡ false
    by_old None none = ap (λ (p : Place). p.was_activated) (sym (last places none at)) ∙ unshown
    by_old (Some old) there =
        let both : Some old ≡ Some place = sym (found_more nav places new old there) ∙ at in
        let same : old ≡ place = cc in
        are nav place (there ∙ ap (λ (p : Place). let o : Option Place = Some p in o) same) is

places_more : (places : List Place) (new : Place) → new.was_activated ≡ false → LeavesPlaces places (places ++ new ∷ [])
places_more places new unshown =
    record { goes = λ nav place at. (place, found_more nav places new place at, goes_itself place); unshown = more_new places new unshown }

module _ (s : Seen) (event : ℕ) (actor : Actor) (req : ReqId) (are : AreShownUnder s) where
  taken : (change : Change) (mid : List Place) → LeavesPlaces s.places mid → places_applied s req change ≡ with_taker s.history (applied s.history change) req mid → LeavesShown s (next s event actor (rows.Applied req change))
  taken change mid first is =
      record {
        homes = changed_stay change s.documents;
        goes = subst (λ (l : List Place). AllGoOn s.places l) (sym is) (all_then s.places mid (map take mid) first.goes last.goes);
        new = subst (λ (l : List Place). AreNewUnshown l) (sym is) (last.unshown (first.unshown are.unshown));
      }
    where
      take : Place → Place
      take p = cond (has_row p.nav s.history.rows && not (has_row p.nav (applied s.history change).rows)) (record p { taken_by = Some req }) p

      last : LeavesPlaces mid (map take mid)
      last =
          places_quietly take mid (λ p. quiet_if (has_row p.nav s.history.rows && not (has_row p.nav (applied s.history change).rows)) p (record p { taken_by = Some req }) (record { nav = refl; epoch = refl; last_job = refl; shown = refl; new_ = λ new. new }))

  on_quietly : (at : NavId) (f : Place → Place) → ((p : Place) → IsQuiet p (f p)) → LeavesPlaces s.places (on_place at f s.places)
  on_quietly at f quiet =
      places_quietly (λ (p : Place). cond (p.nav.0 == at.0) (f p) p) s.places (λ p. quiet_if (p.nav.0 == at.0) p (f p) (quiet p))

  given : (at : NavId) (entry : EntryId) → LeavesPlaces s.places (places_given s req at entry)
  given at entry = by_made (option_and_then (λ (q : Asked). q.made) (request_of s req))
    where
      by_made : (o : Option Made) → LeavesPlaces s.places (option_map_or (λ (made : Made). on_place at (given_entry entry) s.places) o s.places)
      by_made None = places_itself s.places
      by_made (Some made) =
          on_quietly at (given_entry entry) (λ p. record { nav = refl; epoch = refl; last_job = refl; shown = refl; new_ = λ new. new })

  changed : (change : Change) → LeavesShown s (next s event actor (rows.Applied req change))
  changed (changes.Push at entry state address memo) =
      taken (changes.Push at entry state address memo) (places_given s req at entry) (given at entry) refl
  changed (changes.Replace at over entry state address memo) =
      taken (changes.Replace at over entry state address memo) (places_given s req at entry) (given at entry) refl
  changed (changes.AddFrame owner at entry state) =
      taken (changes.AddFrame owner at entry state) (joined parent) (by_parent parent) refl
    where
      parent : Option Place
      parent = option_and_then (place_of s) (holder_of owner s.history.rows)

      joined : Option Place → List Place
      joined o = option_map_or (λ (up : Place). s.places ++ new_place req at owner up ∷ []) o s.places

      by_parent : (o : Option Place) → LeavesPlaces s.places (joined o)
      by_parent None = places_itself s.places
      by_parent (Some up) = places_more s.places (new_place req at owner up) refl
  changed (changes.RemoveFrame at) = taken (changes.RemoveFrame at) s.places (places_itself s.places) refl
  changed (changes.Traverse goal) = taken (changes.Traverse goal) s.places (places_itself s.places) refl
  changed (changes.Reload at) =
      taken (changes.Reload at) (on_place at (λ (p : Place). record p { is_pending = true; is_unmet = true }) s.places)
      (on_quietly at (λ (p : Place). record p { is_pending = true; is_unmet = true }) (λ p. record { nav = refl; epoch = refl; last_job = refl; shown = refl; new_ = λ new. new })) refl
  changed changes.Edit = taken changes.Edit s.places (places_itself s.places) refl

  applied_under : (change : Change) → AreShownUnder (next s event actor (rows.Applied req change))
  applied_under change = under_after s event actor (rows.Applied req change) tt (changed change) (λ job is. cc) are

-- ---- all rows of an event

pub accepted_under : (s : Seen) (event : ℕ) (actor : Actor) (req : ReqId) (doc : Option DocId) (what : Request) → AreShownUnder s → AreShownUnder (next s event actor (rows.Accepted req doc what))
accepted_under s event actor req doc what =
    quietly_under s event actor (rows.Accepted req doc what) tt (λ job is. cc) (same_documents s.documents) refl

pub refused_under : (s : Seen) (event : ℕ) (actor : Actor) (req : ReqId) (reason : Denial) → AreShownUnder s → AreShownUnder (next s event actor (rows.Refused req reason))
refused_under s event actor req reason =
    quietly_under s event actor (rows.Refused req reason) tt (λ job is. cc) (same_documents s.documents) refl

-- ones of processes
pub taken_under : (s : Seen) (event : ℕ) (actor : Actor) (proc : ProcId) (job : JobId) (live dirty : Bool) → AreShownUnder s → AreShownUnder (next s event actor (rows.Taken proc job live dirty))
taken_under s event actor proc job live dirty =
    quietly_under s event actor (rows.Taken proc job live dirty) tt (λ other is. cc) (same_documents s.documents) refl

pub finished_under : (s : Seen) (event : ℕ) (actor : Actor) (proc : ProcId) (job : JobId) (outcome : Outcome) → AreShownUnder s → AreShownUnder (next s event actor (rows.Finished proc job outcome))
finished_under s event actor proc job outcome =
    quietly_under s event actor (rows.Finished proc job outcome) tt (λ other is. cc) (finished_stay s.documents (task_in_hand s proc) outcome) refl

pub made_under : (s : Seen) (event : ℕ) (actor : Actor) (proc : ProcId) (made : Made) → AreShownUnder s → AreShownUnder (next s event actor (rows.Made proc made))
made_under s event actor proc made =
    quietly_under s event actor (rows.Made proc made) tt (λ other is. cc) (made_stay made s.documents) refl

-- one of the coordinator's, where it passes
pub coord_under : (s : Seen) (event : ℕ) (actor : Actor) (kind : RowKind) → IsOfCoord kind → (p : Point) → p.now ≡ s → is_ordered_row p (record { event = event; actor = actor; row = kind }) ≡ true → AreShownUnder s → AreShownUnder (next s event actor kind)
coord_under s event actor (rows.Sent job) of_coord p now ordered are =
    sent_under s event actor job are (subst (λ (x : Seen). Raises x job job.task) now (raised_by p (record { event = event; actor = actor; row = rows.Sent job }) job job.task (and_parts _ _ ordered).1))
coord_under s event actor (rows.Started req goal) of_coord p now ordered are =
    quietly_under s event actor (rows.Started req goal) tt (λ job is. cc) (same_documents s.documents) refl are
coord_under s event actor (rows.Applied req change) of_coord p now ordered are = applied_under s event actor req are change
coord_under s event actor (rows.Refused req reason) of_coord p now ordered are = refused_under s event actor req reason are
coord_under s event actor (rows.Dropped req cause) of_coord p now ordered are =
    quietly_under s event actor (rows.Dropped req cause) tt (λ job is. cc) (same_documents s.documents) refl are
coord_under s event actor _ never p now ordered are = absurd never

rows_under : (e : InEvent) (h : Here) (out : List RowKind) (later : List LogRow) → EachPass h (map (row_of e) out) later → ((kind : RowKind) → Has out kind → IsOfCoord kind) → AreShownUnder h.now → AreShownUnder (on_rows h (map (row_of e) out)).now
rows_under e h [] later passes of_coord are = are
rows_under e h (kind ∷ out) later passes of_coord are =
    rows_under e (on_row h (row_of e kind)) out later passes.1 (λ k has. of_coord k (inr has)) (coord_under h.now e.event e.actor kind (of_coord kind (inl refl)) (point_at h (map (row_of e) out ++ later)) refl passes.0.ordered are)

-- one by which the user is asked
pub prompted_under : (s : Seen) (event : ℕ) (actor : Actor) (req : ReqId) (doc : DocId) → AreShownUnder s → AreShownUnder (next s event actor (rows.Prompted req doc))
prompted_under s event actor req doc =
    quietly_under s event actor (rows.Prompted req doc) tt (λ job is. cc) (same_documents s.documents) refl

-- rows behind others pass where all of them do
pass_behind : (h : Here) (rows_ more later : List LogRow) → EachPass h (rows_ ++ more) later → EachPass (on_rows h rows_) more later
pass_behind h [] more later passes = passes
pass_behind h (row ∷ rows_) more later passes = pass_behind (on_row h row) rows_ more later passes.1

-- so it is behind rows that pass, where it was at the cut
pub event_under : (e : InEvent) (out : List RowKind) (later : List LogRow) → EachPass (own_of e) (later_of e out) later → ((kind : RowKind) → Has out kind → IsOfCoord kind) → AreShownUnder (log_of e []) → AreShownUnder (log_of e out)
event_under e out later passes of_coord are = rows_under e (first_of e) out later (pass_behind (own_of e) (map (row_of e) e.before) (map (row_of e) out) later passes) of_coord are

-- as the event's own row is logged, where it tells of no death
pub own_under : (e : InEvent) → e.before ≡ [] → leads e.own ≡ true → ((proc : ProcId) → e.own ≡ rows.Delivered proc → NoDeath (slice_get (desk_of e.start proc).reports 0)) → AreShownUnder e.start → AreShownUnder (log_of e [])
own_under e uncut own alive are = by_own e.own refl own
  where
    then_ : (kind : RowKind) → e.own ≡ kind → AreShownUnder (next e.start e.event e.actor kind) → AreShownUnder (log_of e [])
    then_ kind is =
        subst (λ (x : Seen). AreShownUnder x) (sym (uncut_log e uncut ∙ ap (λ (k : RowKind). next e.start e.event e.actor k) is))

    by_own : (kind : RowKind) → e.own ≡ kind → leads kind ≡ true → AreShownUnder (log_of e [])
    by_own (rows.Accepted req doc what) is led =
        then_ (rows.Accepted req doc what) is (accepted_under e.start e.event e.actor req doc what are)
    by_own (rows.Answered req stay) is led =
        then_ (rows.Answered req stay) is (quietly_under e.start e.event e.actor (rows.Answered req stay) tt (λ job never. cc) (same_documents e.start.documents) refl are)
    by_own (rows.Evicted state) is led =
        then_ (rows.Evicted state) is (quietly_under e.start e.event e.actor (rows.Evicted state) tt (λ job never. cc) (same_documents e.start.documents) refl are)
    by_own (rows.Delivered proc) is led =
        then_ (rows.Delivered proc) is (delivered_under e.start e.event e.actor proc (alive proc is) are)
    by_own _ is led = absurd (let never : false ≡ true = led in cc)
