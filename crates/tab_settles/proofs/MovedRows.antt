-- Where a traversal runs, who is awake and was moved by it was shown a document by it: an order keeps that, where it shows a document for the traversal, if it shows one, and so does another request that ends. One that has just begun has moved nobody.
use Rattle.tab_facts.specs.Calm.Calm.{ShowsOne}
use Rattle.seen_facts.proofs.Coord.Held.{on_else}
use Rattle.seen_facts.proofs.Coord.Unread.{next}
use Rattle.seen_facts.proofs.Load.Rows.{req_same}
use Rattle.log_model.proofs.Refl.{nat_eq_refl}
use Rattle.tab_facts.specs.Frame.Moving.{AreMoves}
use Rattle.log_model.specs.After.{ended}
use Rattle.log_model.specs.Places.{is_traversal}
use Rattle.log_model.specs.AfterPlaces.{activated, places_sent, sleepers_with}
use Rattle.log_model.specs.AfterRequests.{entries_taken, on_request, on_served, request_begun, request_served, requests_sent, with_activated, with_moved}
use Rattle.log_model.specs.History.{has_nav}
use Rattle.log_model.specs.Seen.{Asked, Document, Place, Seen, asleep, awake, document_of, place_in, place_of, request_in, request_of}
use Rattle.log_model.specs.declared.job.Job.{Job}
use Rattle.log_model.specs.declared.job.Task.{Task}
use Rattle.log_model.specs.declared.job.Why.{Why}
use Rattle.log_model.specs.declared.change.Change.{Change}
use Rattle.log_model.specs.declared.outcome.Cause.{Cause}
use Rattle.log_model.specs.declared.outcome.Denial.{Denial}
use Rattle.log_model.specs.declared.row_kind.Actor.{Actor}
use Rattle.seen_facts.proofs.Mover.Orders.{PutsToSleep}
use Rattle.seen_facts.proofs.Request.LookUps.{on_itself}
use Rattle.std.proofs.Common.{Bool, List, None, Option, Some, [], ap, cond, false, inl, inr, refl, subst, sym, true, ℕ, ◌++◌, ◌==◌, ◌||◌, ◌∙◌, ◌∷◌, ◌≡◌, ◌⊎◌}
use Rattle.std.specs.Prelude.{option_map}
use Rattle.tab_ids.specs.declared.DocId.{DocId}
use Rattle.tab_ids.specs.declared.EntryId.{EntryId}
use Rattle.tab_ids.specs.declared.Epoch.{Epoch}
use Rattle.tab_ids.specs.declared.NavId.{NavId}
use Rattle.tab_ids.specs.declared.ReqId.{ReqId}
use Rattle.tab_ids.specs.declared.Step.{Step}
use Rattle.tab_settles.specs.Settling.{MovedAreShown}
use Rattle.seen_facts.proofs.Walk.Placed.{found_nav}
use Rattle.seen_facts.proofs.Walk.Sleepers.{becomes, place_becomes, sleepers_of, slept}
use Rattle.row_facts.proofs.WalkRows.Sleeping.{place_sleeps}
use Rattle.row_facts.specs.WalkRows.Since.{WasAwake}
use Rattle.seen_facts.proofs.Hang.Forms.{nav_is}
use Rattle.log_model.specs.declared.job.Task.TheVariants as tasks
use Rattle.log_model.specs.declared.job.Why.TheVariants as whys
use Rattle.log_model.specs.declared.outcome.Ending.TheVariants as endings
use Rattle.log_model.specs.declared.row_kind.RowKind.TheVariants as rows

-- a navigable among two lists is among the first or the second
in_either : (front navs : List NavId) (nav : NavId) → has_nav (front ++ navs) nav ≡ true → (has_nav front nav ≡ true) ⊎ (has_nav navs nav ≡ true)
in_either [] navs nav has = inr has
in_either (first ∷ front) navs nav has = by_test (first.0 == nav.0) has (λ h. in_either front navs nav h)
  where
    by_test : (b : Bool) → (b || has_nav (front ++ navs) nav) ≡ true → (has_nav (front ++ navs) nav ≡ true → (has_nav front nav ≡ true) ⊎ (has_nav navs nav ≡ true)) → ((b || has_nav front nav) ≡ true) ⊎ (has_nav navs nav ≡ true)
    by_test true h more = inl refl
    by_test false h more = more h

-- ---- the request then

module _ (asked : List Asked) (run : ReqId) (q : Asked) (found : request_in asked run ≡ Some q) where
  -- it is as it was, or changed
  abbrev Either : (Asked → Asked) → List Asked → Type 0
  Either f then = (request_in then run ≡ Some q) ⊎ (request_in then run ≡ Some (f q))

  on_either : (req : ReqId) (f : Asked → Asked) → Either f (on_request req f asked)
  on_either req f = by_test (run.0 == req.0) refl
    where
      by_test : (b : Bool) → (run.0 == req.0) ≡ b → Either f (on_request req f asked)
      by_test false apart = inl (on_else asked req f run apart ∙ found)
      by_test true same =
          let one : run ≡ req = req_same run req same in
          inr (ap (λ (r : ReqId). request_in (on_request req f asked) r) one ∙ on_itself asked req f ∙ ap (option_map f) (ap (λ (r : ReqId). request_in asked r) (sym one) ∙ found))

  served_either : (why : Why) (f : Asked → Asked) → Either f (on_served why f asked)
  served_either (whys.Req req) f = on_either req f
  served_either (whys.Death death) f = inl found
  served_either whys.Evict f = inl found
  served_either whys.Start f = inl found

-- ---- one order

module _ (s : Seen) (event : ℕ) (actor : Actor) (job : Job) (run : ReqId) (q : Asked) (found : request_in s.requests run ≡ Some q) (shown : MovedAreShown (Some run) s) where
  abbrev t : Seen
  t = next s event actor (rows.Sent job)

  -- the request has shown the navigable a document, if it has moved it
  abbrev IsShownBy : NavId → Asked → Type 0
  IsShownBy nav x = has_nav x.moved nav ≡ true → has_nav x.activated nav ≡ true

  before : (nav : NavId) (old : Place) (doc : DocId) → place_of s nav ≡ Some old → old.status ≡ awake doc → IsShownBy nav q
  before nav old doc at wakes has = shown run q nav old doc refl found at wakes has

  -- who is awake then, among these none fell asleep
  record StaysAwake (navs : List NavId) (nav : NavId) (doc : DocId) : Type 0 where
    old : Place
    at : place_of s nav ≡ Some old
    wakes : old.status ≡ awake doc
    apart : has_nav navs nav ≡ false

  slept_from : (navs : List NavId) (nav : NavId) (old place : Place) (doc : DocId) → place_of s nav ≡ Some old → slept navs job.why old ≡ place → place.status ≡ awake doc → StaysAwake navs nav doc
  slept_from navs nav old place doc at same wakes = by_test (has_nav navs old.nav) refl same
    where
      by_test : (b : Bool) → has_nav navs old.nav ≡ b → (let p : Place = cond b (record old { status = asleep; why = job.why }) old in p) ≡ place → StaysAwake navs nav doc
      by_test true has is =
          absurd (let never : asleep ≡ awake doc = ap (λ (p : Place). p.status) is ∙ wakes in cc)
      by_test false has is =
          record {
            old = old;
            at = at;
            wakes = ap (λ (p : Place). p.status) is ∙ wakes;
            apart = ap (λ (n : NavId). has_nav navs n) (sym (found_nav s.places nav old at)) ∙ has;
          }

  -- it moved these
  moved_more : (navs : List NavId) (nav : NavId) (doc : DocId) → StaysAwake navs nav doc → IsShownBy nav (with_moved navs q)
  moved_more navs nav doc stays has = by_place (in_either navs q.moved nav has)
    where
      by_place : (has_nav navs nav ≡ true) ⊎ (has_nav q.moved nav ≡ true) → has_nav q.activated nav ≡ true
      by_place (inl in_) = let never : true ≡ false = sym in_ ∙ stays.apart in absurd cc
      by_place (inr in_) = before nav stays.old doc stays.at stays.wakes in_

  module _ (nav : NavId) (place : Place) (doc : DocId) (placed : place_of t nav ≡ Some place) (wakes : place.status ≡ awake doc) (x : Asked) (at : request_in t.requests run ≡ Some x) where
    -- the request then, as it was or changed
    by_request : (f : Asked → Asked) (then : List Asked) → t.requests ≡ then → Either s.requests run q found f then → IsShownBy nav q → IsShownBy nav (f q) → IsShownBy nav x
    by_request f then is (inl same) old new =
        let both : Some q ≡ Some x = sym (ap (λ (l : List Asked). request_in l run) is ∙ same) ∙ at in
        let one : q ≡ x = cc in subst (λ (y : Asked). IsShownBy nav y) one old
    by_request f then is (inr same) old new =
        let both : Some (f q) ≡ Some x = sym (ap (λ (l : List Asked). request_in l run) is ∙ same) ∙ at in
        let one : f q ≡ x = cc in subst (λ (y : Asked). IsShownBy nav y) one new

    requests_are : (task : Task) → job.task ≡ task → t.requests ≡ requests_sent s job task s.requests
    requests_are task is = ap (λ (k : Task). requests_sent s job k s.requests) is

    -- where no place changes
    unslept : t.places ≡ s.places → IsShownBy nav q
    unslept same = before nav place doc (ap (λ (l : List Place). place_in l nav) (sym same) ∙ placed) wakes

    places_are : (task : Task) → job.task ≡ task → t.places ≡ places_sent s job task
    places_are task is = ap (λ (k : Task). places_sent s job k) is

    -- some fell asleep
    asleep_then : (task : Task) (is : job.task ≡ task) (puts : PutsToSleep task) → StaysAwake (sleepers_with s job.doc) nav doc
    asleep_then task is puts = by_old (place_of s nav) refl
      where
        by_old : (o : Option Place) → place_of s nav ≡ o → StaysAwake (sleepers_with s job.doc) nav doc
        by_old None none =
            let never : None ≡ Some place = sym (place_sleeps s event actor job task is puts nav ∙ ap (option_map (slept (sleepers_with s job.doc) job.why)) none) ∙ placed in absurd cc
        by_old (Some old) was =
            let both : Some (slept (sleepers_with s job.doc) job.why old) ≡ Some place = sym (place_sleeps s event actor job task is puts nav ∙ ap (option_map (slept (sleepers_with s job.doc) job.why)) was) ∙ placed in
            let one : slept (sleepers_with s job.doc) job.why old ≡ place = cc in
            slept_from (sleepers_with s job.doc) nav old place doc was one wakes

    -- a document is shown for it
    shows : (d : Document) (entry : EntryId) (epoch : Epoch) (long index : ℕ) (memo : Option (List ℕ)) (address : List ℕ) (task : job.task ≡ tasks.Activate entry epoch long index memo address) (there : document_of s job.doc ≡ Some d) → IsShownBy nav (with_activated d.nav (with_moved (sleepers_of s job.doc d.nav) q))
    shows d entry epoch long index memo address task there has =
        by_old (place_of s nav) refl
      where
        become : Place → Place
        become = becomes s event actor job d entry epoch long index memo address task there

        own : (n : NavId) → n.0 ≡ nav.0 → has_nav (n ∷ q.activated) nav ≡ true
        own n is = by_test (n.0 == nav.0) (rw is (nat_eq_refl nav.0))
          where
            by_test : (b : Bool) → b ≡ true → (b || has_nav q.activated nav) ≡ true
            by_test true h = refl
            by_test false never = absurd cc

        older : StaysAwake (sleepers_of s job.doc d.nav) nav doc → (b : Bool) → (d.nav.0 == nav.0) ≡ b → (b || has_nav (sleepers_of s job.doc d.nav ++ q.moved) nav) ≡ true → (b || has_nav q.activated nav) ≡ true
        older stays true e h = refl
        older stays false e h = moved_more (sleepers_of s job.doc d.nav) nav doc stays h

        by_test : (old : Place) → place_of s nav ≡ Some old → (b : Bool) → ((slept (sleepers_of s job.doc d.nav) job.why old).nav.0 == d.nav.0) ≡ b → (let p : Place = cond b (activated job entry epoch d (slept (sleepers_of s job.doc d.nav) job.why old)) (slept (sleepers_of s job.doc d.nav) job.why old) in p) ≡ place → has_nav (d.nav ∷ q.activated) nav ≡ true
        by_test old was true e same =
            let its : place.nav ≡ d.nav = ap (λ (p : Place). p.nav) (sym same) ∙ nav_is (slept (sleepers_of s job.doc d.nav) job.why old).nav d.nav e in
            own d.nav (ap (λ (n : NavId). n.0) (sym its ∙ found_nav t.places nav place placed))
        by_test old was false e same =
            older (slept_from (sleepers_of s job.doc d.nav) nav old place doc was same wakes) (d.nav.0 == nav.0) refl has

        by_old : (o : Option Place) → place_of s nav ≡ o → has_nav (d.nav ∷ q.activated) nav ≡ true
        by_old None none =
            let never : None ≡ Some place = sym (place_becomes s event actor job d entry epoch long index memo address task there nav ∙ ap (option_map become) none) ∙ placed in absurd cc
        by_old (Some old) was =
            let both : Some (become old) ≡ Some place = sym (place_becomes s event actor job d entry epoch long index memo address task there nav ∙ ap (option_map become) was) ∙ placed in
            by_test old was ((slept (sleepers_of s job.doc d.nav) job.why old).nav.0 == d.nav.0) refl (let one : become old ≡ place = cc in one)

    by_task : (ShowsOne job.task → job.why ≡ whys.Req run) → (task : Task) → job.task ≡ task → IsShownBy nav x
    by_task for_run (tasks.Activate entry epoch long index memo address) is = by_document (document_of s job.doc) refl
      where
        task : Task
        task = tasks.Activate entry epoch long index memo address

        why : job.why ≡ whys.Req run
        why = for_run (subst (λ (k : Task). ShowsOne k) (sym is) tt)

        its : request_in t.requests run ≡ Some (request_served s job task q)
        its =
            ap (λ (l : List Asked). request_in l run) (requests_are task is ∙ ap (λ (w : Why). on_served w (request_served s job task) s.requests) why)
            ∙ on_itself s.requests run (request_served s job task)
            ∙ ap (option_map (request_served s job task)) found

        by_then : (y : Asked) → request_served s job task q ≡ y → IsShownBy nav y → IsShownBy nav x
        by_then y same fine =
            let both : Some (request_served s job task q) ≡ Some x = sym its ∙ at in
            let one : request_served s job task q ≡ x = cc in
            subst (λ (z : Asked). IsShownBy nav z) (sym same ∙ one) fine

        by_document : (o : Option Document) → document_of s job.doc ≡ o → IsShownBy nav x
        by_document None none = by_then q (rw none refl) (unslept (places_are task is ∙ rw none refl))
        by_document (Some d) there =
            by_then (with_activated d.nav (with_moved (sleepers_of s job.doc d.nav) q)) (rw there refl) (shows d entry epoch long index memo address is there)
    by_task for_run tasks.Freeze is =
        let stays : StaysAwake (sleepers_with s job.doc) nav doc = asleep_then tasks.Freeze is tt in
        by_request (request_served s job tasks.Freeze) _ (requests_are tasks.Freeze is) (served_either s.requests run q found job.why (request_served s job tasks.Freeze)) (before nav stays.old doc stays.at stays.wakes) (moved_more (sleepers_with s job.doc) nav doc stays)
    by_task for_run tasks.Discard is =
        let stays : StaysAwake (sleepers_with s job.doc) nav doc = asleep_then tasks.Discard is tt in
        by_request (request_served s job tasks.Discard) _ (requests_are tasks.Discard is) (served_either s.requests run q found job.why (request_served s job tasks.Discard)) (before nav stays.old doc stays.at stays.wakes) (moved_more (sleepers_with s job.doc) nav doc stays)
    by_task for_run (tasks.Ask slot cause) is =
        let old : IsShownBy nav q = unslept (places_are (tasks.Ask slot cause) is) in
        by_request (request_served s job (tasks.Ask slot cause)) _ (requests_are (tasks.Ask slot cause) is) (served_either s.requests run q found job.why (request_served s job (tasks.Ask slot cause))) old old
    by_task for_run (tasks.Populate n state address initial) is =
        let old : IsShownBy nav q = unslept (places_are (tasks.Populate n state address initial) is) in
        by_request (λ y. y) _ (requests_are (tasks.Populate n state address initial) is) (inl found) old old
    by_task for_run (tasks.Update long index) is =
        let old : IsShownBy nav q = unslept (places_are (tasks.Update long index) is) in
        by_request (λ y. y) _ (requests_are (tasks.Update long index) is) (inl found) old old
    by_task for_run (tasks.DoFragment req mode address) is =
        let old : IsShownBy nav q = unslept (places_are (tasks.DoFragment req mode address) is) in
        by_request (λ y. record y { fragment = Some job.doc }) _ (requests_are (tasks.DoFragment req mode address) is) (on_either s.requests run q found req (λ y. record y { fragment = Some job.doc })) old old

  -- where it shows a document for the traversal that runs, if it shows one
  pub shown_sent : (ShowsOne job.task → job.why ≡ whys.Req run) → MovedAreShown (Some run) t
  shown_sent for_run req x nav place doc runs at placed wakes =
      let one : req ≡ run = cc in
      by_task nav place doc placed wakes x (subst (λ (r : ReqId). request_in t.requests r ≡ Some x) one at) for_run job.task refl

-- ---- other rows

-- where who is awake was so, and the traversal that runs has moved whom it had and shown whom it had, all is as before
pub shown_back : (run : Option ReqId) (s t : Seen) → ((nav : NavId) (place : Place) (doc : DocId) → place_of t nav ≡ Some place → place.status ≡ awake doc → WasAwake s nav doc) → ((req : ReqId) (x : Asked) → run ≡ Some req → request_of t req ≡ Some x → (q : Asked) × (request_of s req ≡ Some q) × (x.moved ≡ q.moved) × (x.activated ≡ q.activated)) → MovedAreShown run s → MovedAreShown run t
shown_back run s t back still shown req x nav place doc runs at placed wakes has =
    let was = still req x runs at in
    let old : WasAwake s nav doc = back nav place doc placed wakes in
    ap (λ (l : List NavId). has_nav l nav) was.3
    ∙ shown req was.0 nav old.place doc runs was.1 old.placed old.wakes (ap (λ (l : List NavId). has_nav l nav) (sym was.2) ∙ has)

-- so it is where places are as they were
pub shown_left : (run : Option ReqId) (s t : Seen) → t.places ≡ s.places → ((req : ReqId) (x : Asked) → run ≡ Some req → request_of t req ≡ Some x → (q : Asked) × (request_of s req ≡ Some q) × (x.moved ≡ q.moved) × (x.activated ≡ q.activated)) → MovedAreShown run s → MovedAreShown run t
shown_left run s t places still =
    shown_back run s t (λ nav place doc placed wakes. record { place = place; placed = ap (λ (l : List Place). place_in l nav) (sym places) ∙ placed; wakes = wakes }) still

-- where who is awake was so, and the traversal is as it was
pub shown_apart : (run : ReqId) (s t : Seen) → ((nav : NavId) (place : Place) (doc : DocId) → place_of t nav ≡ Some place → place.status ≡ awake doc → WasAwake s nav doc) → request_of t run ≡ request_of s run → MovedAreShown (Some run) s → MovedAreShown (Some run) t
shown_apart run s t back same =
    shown_back (Some run) s t back (λ r x runs at. (x, (let one : r ≡ run = cc in ap (λ (i : ReqId). request_of s i) one ∙ sym same ∙ ap (λ (i : ReqId). request_of t i) (sym one) ∙ at), refl, refl))

-- ---- another request ends

module _ (s : Seen) (event : ℕ) (actor : Actor) (req run : ReqId) (apart : (run.0 == req.0) ≡ false) where
  -- no place changes
  stays : (nav : NavId) (place : Place) (doc : DocId) → place_of s nav ≡ Some place → place.status ≡ awake doc → WasAwake s nav doc
  stays nav place doc placed wakes = record { place = place; placed = placed; wakes = wakes }

  pub shown_dropped : (cause : Cause) → MovedAreShown (Some run) s → MovedAreShown (Some run) (next s event actor (rows.Dropped req cause))
  shown_dropped cause =
      shown_apart run s (next s event actor (rows.Dropped req cause)) stays (on_else s.requests req (λ (q : Asked). record q { ending = Some (endings.Dropped cause) }) run apart)

  pub shown_refused : (reason : Denial) → MovedAreShown (Some run) s → MovedAreShown (Some run) (next s event actor (rows.Refused req reason))
  shown_refused reason =
      shown_apart run s (next s event actor (rows.Refused req reason)) stays (on_else s.requests req (λ (q : Asked). record q { ending = Some (endings.Refused reason) }) run apart)

  -- and where it is applied, nobody wakes
  pub shown_applied : (change : Change) → ((nav : NavId) (place : Place) (doc : DocId) → place_of (next s event actor (rows.Applied req change)) nav ≡ Some place → place.status ≡ awake doc → WasAwake s nav doc) → MovedAreShown (Some run) s → MovedAreShown (Some run) (next s event actor (rows.Applied req change))
  shown_applied change back =
      shown_apart run s (next s event actor (rows.Applied req change)) back
      (on_else said req (λ (q : Asked). record q { took = entries_taken s.history change }) run apart ∙ on_else over req (λ (q : Asked). record q { change = Some change }) run apart ∙ on_else s.requests req (λ (q : Asked). record q { ending = Some endings.Applied }) run apart)
    where
      over : List Asked
      over = ended s.requests req endings.Applied

      said : List Asked
      said = on_request req (λ (q : Asked). record q { change = Some change }) over

-- ---- a traversal begins, or ends

-- it has moved nobody yet
pub shown_unmoved : (run : ReqId) (s : Seen) (q : Asked) → request_of s run ≡ Some q → q.moved ≡ [] → MovedAreShown (Some run) s
shown_unmoved run s q found none req x nav place doc runs at placed wakes has =
    let one : req ≡ run = cc in
    let both : Some x ≡ Some q = sym at ∙ ap (λ (r : ReqId). request_of s r) one ∙ found in
    let same : x ≡ q = cc in
    let never : true ≡ false = sym has ∙ ap (λ (y : Asked). has_nav y.moved nav) same ∙ ap (λ (l : List NavId). has_nav l nav) none in
    absurd cc

-- so it is as it begins
pub shown_started : (s : Seen) (event : ℕ) (actor : Actor) (req : ReqId) (goal : Option Step) (q : Asked) → AreMoves s → request_of s req ≡ Some q → is_traversal q.what ≡ true → q.is_started ≡ false → MovedAreShown (Some req) (next s event actor (rows.Started req goal))
shown_started s event actor req goal q moves found traverses unstarted =
    shown_unmoved req (next s event actor (rows.Started req goal)) (request_begun s (begin_ q))
    (on_itself first req (request_begun s) ∙ ap (option_map (request_begun s)) (on_itself s.requests req begin_ ∙ ap (option_map begin_) found))
    (moves.unmoved req q found traverses unstarted)
  where
    begin_ : Asked → Asked
    begin_ x = record x { is_started = true; goal = goal }

    first : List Asked
    first = on_request req begin_ s.requests

-- where none runs there is nothing to show
pub shown_idle : (s : Seen) → MovedAreShown None s
shown_idle s req x nav place doc runs at placed wakes has = absurd cc
