-- Who is awake since an event began, from row to row: no row wakes a navigable but an order that shows it a document.
use Rattle.seen_facts.proofs.Coord.Unread.{next}
use Rattle.seen_facts.proofs.Hang.Members.{has_found, find_has}
use Rattle.seen_facts.specs.Hang.AsPlaces.{AreDistinct}
use Rattle.seen_facts.specs.Home.Homes.{EachWake, IsHomed}
use Rattle.log_model.proofs.Refl.{nat_eq_refl}
use Rattle.log_model.specs.History.{has_nav}
use Rattle.log_model.specs.Places.{is_awake_on, shower_of}
use Rattle.log_model.specs.Seen.{Document, Place, Seen, asleep, awake, desk_of, document_of, place_in, place_of}
use Rattle.log_model.specs.declared.change.Change.{Change}
use Rattle.log_model.specs.declared.job.Job.{Job}
use Rattle.log_model.specs.declared.outcome.Cause.{Cause}
use Rattle.log_model.specs.declared.outcome.Denial.{Denial}
use Rattle.log_model.specs.declared.request.Request.{Request}
use Rattle.log_model.specs.declared.row_kind.Actor.{Actor}
use Rattle.std.proofs.Common.{Bool, List, None, Option, Some, [], ap, arith, cond, false, refl, sym, true, ℕ, ◌==◌, ◌∙◌, ◌∷◌, ◌≡◌}
use Rattle.std.proofs.lemmas.Bool.{or_parts}
use Rattle.std.proofs.lemmas.Bool.Decides.{nat_tests}
use Rattle.std.specs.Prelude.{option_map, slice_get}
use Rattle.tab_ids.specs.declared.DocId.{DocId}
use Rattle.tab_ids.specs.declared.EntryId.{EntryId}
use Rattle.tab_ids.specs.declared.Epoch.{Epoch}
use Rattle.tab_ids.specs.declared.NavId.{NavId}
use Rattle.tab_ids.specs.declared.ProcId.{ProcId}
use Rattle.tab_ids.specs.declared.ReqId.{ReqId}
use Rattle.tab_ids.specs.declared.StateId.{StateId}
use Rattle.tab_ids.specs.declared.Step.{Step}
use Rattle.seen_facts.proofs.Walk.Placed.{found_nav}
use Rattle.seen_facts.proofs.Walk.Sleepers.{becomes, place_becomes, sleepers_of, slept, slept_same}
use Rattle.row_facts.proofs.WalkRows.Sleeping.{IsShower, shower_is}
use Rattle.row_facts.proofs.WalkRows.Wakes.{ShowsNone, WokeBefore, applied_woke, delivered_woke, sent_woke}
use Rattle.row_facts.specs.WalkRows.Since.{AwakeSince, WasAwake}
use Rattle.log_model.specs.declared.job.Task.TheVariants as tasks
use Rattle.log_model.specs.declared.row_kind.RowKind.TheVariants as rows

-- ---- as the event begins

-- each is awake on what it was awake on
pub since_itself : (s : Seen) → AwakeSince s [] s
since_itself s nav place doc out at wakes = record { place = place; placed = at; wakes = wakes }

module _ (b s : Seen) (navs : List NavId) (since : AwakeSince b navs s) where
  -- so it is but for more
  pub since_more : (more : List NavId) → ((nav : NavId) → has_nav navs nav ≡ true → has_nav more nav ≡ true) → AwakeSince b more s
  since_more more has nav place doc out at wakes = by_test (has_nav navs nav) refl
    where
      by_test : (c : Bool) → has_nav navs nav ≡ c → WasAwake b nav doc
      by_test true in_ = let never : false ≡ true = sym out ∙ has nav in_ in absurd cc
      by_test false apart = since nav place doc apart at wakes

  -- ---- the rows

  -- over a row that wakes none
  woke_since : (t : Seen) → WokeBefore s.places t.places → AwakeSince b navs t
  woke_since t woke nav place doc out at wakes =
      let was = woke nav place doc at wakes in since nav was.place doc out was.placed was.wakes

  -- over one that leaves the places
  pub places_since : (t : Seen) → t.places ≡ s.places → AwakeSince b navs t
  places_since t same nav place doc out at wakes =
      since nav place doc out (ap (λ (places : List Place). place_in places nav) (sym same) ∙ at) wakes

  module _ (event : ℕ) (actor : Actor) where
    -- a request is accepted
    pub accepted_since : (req : ReqId) (doc : Option DocId) (what : Request) → AwakeSince b navs (next s event actor (rows.Accepted req doc what))
    accepted_since req doc what = since

    -- it begins
    pub started_since : (req : ReqId) (goal : Option Step) → AwakeSince b navs (next s event actor (rows.Started req goal))
    started_since req goal = since

    -- it is refused
    pub refused_since : (req : ReqId) (reason : Denial) → AwakeSince b navs (next s event actor (rows.Refused req reason))
    refused_since req reason = since

    -- it is dropped
    pub dropped_since : (req : ReqId) (cause : Cause) → AwakeSince b navs (next s event actor (rows.Dropped req cause))
    dropped_since req cause = since

    -- it is applied, with any change: a new navigable sleeps
    pub applied_since : (req : ReqId) (change : Change) → AwakeSince b navs (next s event actor (rows.Applied req change))
    applied_since req change = woke_since (next s event actor (rows.Applied req change)) (applied_woke s req change)

    -- the user answers
    pub answered_since : (req : ReqId) (stay : Bool) → AwakeSince b navs (next s event actor (rows.Answered req stay))
    answered_since req stay = since

    -- the kept documents of a state are let go
    pub evicted_since : (state : StateId) → AwakeSince b navs (next s event actor (rows.Evicted state))
    evicted_since state = since

    -- a report is delivered, also that of a death
    pub delivered_since : (proc : ProcId) → AwakeSince b navs (next s event actor (rows.Delivered proc))
    delivered_since proc =
        woke_since (next s event actor (rows.Delivered proc)) (delivered_woke s (slice_get (desk_of s proc).reports 0))

    -- an order is sent that shows no document
    pub sent_since : (job : Job) → ShowsNone job.task → AwakeSince b navs (next s event actor (rows.Sent job))
    sent_since job none = woke_since (next s event actor (rows.Sent job)) (sent_woke s job job.task none)

    -- an order is sent that shows a navigable a document
    pub shown_since : (job : Job) (d : Document) (entry : EntryId) (epoch : Epoch) (long at : ℕ) (memo : Option (List ℕ)) (address : List ℕ) → job.task ≡ tasks.Activate entry epoch long at memo address → document_of s job.doc ≡ Some d → AwakeSince b (d.nav ∷ navs) (next s event actor (rows.Sent job))
    shown_since job d entry epoch long at memo address task found nav place doc out there wakes =
        by_old (place_of s nav) refl
      where
        parts : ((d.nav.0 == nav.0) ≡ false) × (has_nav navs nav ≡ false)
        parts = or_parts (d.nav.0 == nav.0) (has_nav navs nav) out

        sleepers : List NavId
        sleepers = sleepers_of s job.doc d.nav

        become : Place → Place
        become = becomes s event actor job d entry epoch long at memo address task found

        then_ : place_of (next s event actor (rows.Sent job)) nav ≡ option_map become (place_of s nav)
        then_ = place_becomes s event actor job d entry epoch long at memo address task found nav

        by_test : (old : Place) → place_of s nav ≡ Some old → (c : Bool) → (let p : Place = cond c (record old { status = asleep; why = job.why }) old in p) ≡ place → WasAwake b nav doc
        by_test old was true is = let never : asleep ≡ awake doc = ap (λ (p : Place). p.status) is ∙ wakes in absurd cc
        by_test old was false is = since nav old doc parts.1 was (ap (λ (p : Place). p.status) is ∙ wakes)

        -- it isn't the one that is shown the document
        beside : (old : Place) → place_of s nav ≡ Some old → ((slept sleepers job.why old).nav.0 == d.nav.0) ≡ false
        beside old was =
            ap (λ (n : NavId). n.0 == d.nav.0) ((slept_same sleepers job.why old).0 ∙ found_nav s.places nav old was) ∙ grind (arith, nat_tests, parts.0)

        by_old : (o : Option Place) → place_of s nav ≡ o → WasAwake b nav doc
        by_old None was =
            let never : None ≡ Some place = sym (then_ ∙ ap (option_map become) was) ∙ there in absurd cc
        by_old (Some old) was =
            let both : Some (become old) ≡ Some place = sym (then_ ∙ ap (option_map become) was) ∙ there in
            let new : become old ≡ place = cc in
            let apart : become old ≡ slept sleepers job.why old = rw (beside old was) refl in
            by_test old was (has_nav sleepers old.nav) (sym apart ∙ new)

-- ---- who was awake on a document

-- the navigable is the one that is awake on the document
pub record ShowsThen (s : Seen) (nav : NavId) (doc : DocId) : Type 0 where
  pub place : Place
  pub showed : shower_of s doc ≡ Some place
  pub nav_is : place.nav ≡ nav

-- so it is where the document of each awake navigable is its own
pub was_shower : (s : Seen) (nav : NavId) (doc : DocId) → AreDistinct s.places → EachWake (IsHomed s.documents) s → WasAwake s nav doc → ShowsThen s nav doc
was_shower s nav doc distinct homed was =
    record { place = some.0; showed = some.1; nav_is = navs }
  where
    on : is_awake_on doc was.place ≡ true
    on = rw was.wakes (nat_eq_refl doc.0)

    some : (place : Place) × (shower_of s doc ≡ Some place)
    some =
        has_found (is_awake_on doc) s.places was.place (find_has (λ (p : Place). p.nav.0 == nav.0) s.places was.place was.placed).0 on

    shower : IsShower s doc some.0
    shower = shower_is s doc some.0 distinct some.1

    one : IsHomed s.documents was.place doc
    one = homed nav was.place doc was.placed was.wakes

    two : IsHomed s.documents some.0 doc
    two = homed some.0.nav some.0 doc shower.placed shower.wakes

    navs : some.0.nav ≡ nav
    navs =
        let both : Some one.home.document ≡ Some two.home.document = sym one.home.found ∙ two.home.found in
        let same : one.home.document ≡ two.home.document = cc in
        sym two.home.nav_is ∙ ap (λ (d : Document). d.nav) (sym same) ∙ one.home.nav_is ∙ found_nav s.places nav was.place was.placed
