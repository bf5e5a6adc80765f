-- Each row keeps what is known of whom requests have moved, and of what was made of traversals.
use Rattle.seen_facts.proofs.Coord.Unread.{next}
use Rattle.tab_facts.proofs.Frame.Applied.{applied_wishes}
use Rattle.tab_facts.proofs.Frame.Orders.{wish_blind}
use Rattle.tab_facts.proofs.Frame.Parts.{each_read, some_same}
use Rattle.tab_facts.proofs.Frame.Placed.{KeepPlaces, places_keep}
use Rattle.tab_facts.specs.Frame.Moving.{AreMoves, IsMadeToGo, IsMovedThere, IsUnmovedYet, course}
use Rattle.tab_facts.specs.Frame.Lasting.{Wish, wish}
use Rattle.log_model.specs.Once.{delta_of}
use Rattle.seen_facts.specs.Request.Knowns.{is_go}
use Rattle.seen_facts.proofs.Request.Readers as readers
use Rattle.tab_facts.proofs.FrameTab.Plainly.{applied_reads}
use Rattle.tab_facts.specs.FrameTab.Alive.{AreThere, HasPlace}
use Rattle.seen_facts.proofs.Hang.Forms.{nav_is}
use Rattle.log_model.proofs.Refl.{nat_eq_refl}
use Rattle.log_model.specs.After.{new_request}
use Rattle.log_model.specs.AfterPlaces.{navs_where, sleepers_below, sleepers_with, woken_below}
use Rattle.log_model.specs.AfterRequests.{entries_taken, on_request, on_served, request_begun, request_served, requests_delivered, requests_finished, requests_sent, with_activated, with_moved}
use Rattle.log_model.specs.Equal.{holds}
use Rattle.log_model.specs.History.{has_nav}
use Rattle.log_model.specs.Places.{is_asleep, is_awake_on, is_below, is_traversal, shower_of}
use Rattle.log_model.specs.Seen.{Asked, Document, Place, Seen, desk_of, document_of, nothing, place_of, request_in, request_of}
use Rattle.log_model.specs.declared.change.Change.{Change}
use Rattle.log_model.specs.declared.job.Job.{Job}
use Rattle.log_model.specs.declared.job.Order.{Order}
use Rattle.log_model.specs.declared.job.Task.{Task}
use Rattle.log_model.specs.declared.job.Why.{Why}
use Rattle.log_model.specs.declared.made.Made.{Made}
use Rattle.log_model.specs.declared.made.Report.{Report}
use Rattle.log_model.specs.declared.outcome.Cause.{Cause}
use Rattle.log_model.specs.declared.outcome.Denial.{Denial}
use Rattle.log_model.specs.declared.outcome.Outcome.{Outcome}
use Rattle.log_model.specs.declared.request.Request.{Request}
use Rattle.log_model.specs.declared.row_kind.Actor.{Actor}
use Rattle.seen_facts.proofs.Each.Runs.{each_asked_more, each_asked_on}
use Rattle.seen_facts.specs.Each.Runs.{EachAsked}
use Rattle.seen_facts.proofs.Request.Readers.{SameReads, on_read, read_of, reads_then, sent_reads}
use Rattle.std.proofs.Common.{Bool, List, None, Option, Some, [], ap, cond, false, inl, inr, length, map, not, refl, subst, sym, true, ℕ, ℤ, ◌&&◌, ◌++◌, ◌+◌, ◌==◌, ◌||◌, ◌∙◌, ◌∷◌, ◌≡◌, ◌⊎◌}
use Rattle.std.specs.Option.{option_map_or}
use Rattle.std.specs.Prelude.{filter, find, is_some, slice_get}
use Rattle.tab_ids.specs.declared.DocId.{DocId}
use Rattle.tab_ids.specs.declared.EntryId.{EntryId}
use Rattle.tab_ids.specs.declared.Epoch.{Epoch}
use Rattle.tab_ids.specs.declared.NavId.{NavId}
use Rattle.tab_ids.specs.declared.ProcId.{ProcId}
use Rattle.tab_ids.specs.declared.ReqId.{ReqId}
use Rattle.tab_ids.specs.declared.StateId.{StateId}
use Rattle.tab_ids.specs.declared.Step.{Step}
use Rattle.log_model.specs.declared.job.Task.TheVariants as tasks
use Rattle.log_model.specs.declared.job.Why.TheVariants as whys
use Rattle.log_model.specs.declared.made.Report.TheVariants as reports
use Rattle.log_model.specs.declared.outcome.Ending.TheVariants as endings
use Rattle.log_model.specs.declared.outcome.Outcome.TheVariants as outcomes
use Rattle.log_model.specs.declared.row_kind.RowKind.TheVariants as rows
use Rattle.log_model.specs.declared.action.Action.TheVariants as actions
use Rattle.log_model.specs.declared.made.What.TheVariants as whats
use Rattle.log_model.specs.declared.request.Request.TheVariants as requests

-- ---- requests whose courses are as they were

pub moves_again : (s t : Seen) → SameReads course s.requests t.requests → SameReads wish s.requests t.requests → KeepPlaces s.places t.places → AreMoves s → AreMoves t
moves_again s t same wishes keep is =
    record {
      unmoved = each_read course IsUnmovedYet s.requests t.requests same is.unmoved;
      there = each_read course (IsMovedThere t.places) s.requests t.requests same (λ req q at nav has. keep nav (is.there req q at nav has));
      goes = each_read wish IsMadeToGo s.requests t.requests wishes is.goes;
    }

-- of a traversal a document made nothing but that it goes
pub goes_of : (w : Wish) → IsMadeToGo w → (made : Made) → w.made ≡ Some made → is_traversal w.what ≡ true → is_go made.what ≡ true
goes_of w to_go made is goes = by_delta (delta_of w.what) refl (has_delta w.what goes)
  where
    has_delta : (what : Request) → is_traversal what ≡ true → is_some (delta_of what) ≡ true
    has_delta (requests.Go delta) e = refl
    has_delta (requests.Poke nav (actions.Go delta)) e = refl
    has_delta (requests.Poke nav (actions.Push memo reference)) e = absurd cc
    has_delta (requests.Poke nav (actions.Replace memo reference)) e = absurd cc
    has_delta (requests.Poke nav (actions.Fragment text)) e = absurd cc
    has_delta (requests.Poke nav (actions.AddFrame child)) e = absurd cc
    has_delta (requests.Poke nav (actions.RemoveFrame child)) e = absurd cc
    has_delta (requests.Poke nav actions.Edit) e = absurd cc
    has_delta (requests.Load nav mode address) e = absurd cc
    has_delta (requests.Reload nav) e = absurd cc

    by_delta : (o : Option ℤ) → delta_of w.what ≡ o → is_some o ≡ true → is_go made.what ≡ true
    by_delta None e never = absurd cc
    by_delta (Some delta) e some = ap is_go (to_go made delta is e)

-- ---- what documents answer

served_reads : (why : Why) (f : Asked → Asked) (asked : List Asked) → ((q : Asked) → course (f q) ≡ course q) → SameReads course asked (on_served why f asked)
served_reads (whys.Req req) f asked same = on_read course asked req f same
served_reads (whys.Death death) f asked same = λ r. refl
served_reads whys.Evict f asked same = λ r. refl
served_reads whys.Start f asked same = λ r. refl

fragment_reads : (s : Seen) (order : Order) (task : Task) (asked : List Asked) → order.job.task ≡ task → SameReads course asked (requests_finished s (Some order) outcomes.Fragmented asked)
fragment_reads s order (tasks.DoFragment req mode address) asked is = rw is (on_read course asked req _ (λ q. refl))
fragment_reads s order (tasks.Populate nav state address initial) asked is = rw is (λ r. refl)
fragment_reads s order (tasks.Activate entry epoch length index memo address) asked is = rw is (λ r. refl)
fragment_reads s order (tasks.Update length index) asked is = rw is (λ r. refl)
fragment_reads s order tasks.Freeze asked is = rw is (λ r. refl)
fragment_reads s order tasks.Discard asked is = rw is (λ r. refl)
fragment_reads s order (tasks.Ask slot cause) asked is = rw is (λ r. refl)

finished_reads : (s : Seen) (in_hand : Option Order) (outcome : Outcome) (asked : List Asked) → SameReads course asked (requests_finished s in_hand outcome asked)
finished_reads s None outcome asked = λ r. refl
finished_reads s (Some order) (outcomes.Asked verdict) asked = served_reads order.job.why _ asked (λ q. refl)
finished_reads s (Some order) outcomes.Fragmented asked = fragment_reads s order order.job.task asked refl
finished_reads s (Some order) (outcomes.Populated slot) asked = λ r. refl
finished_reads s (Some order) outcomes.Activated asked = λ r. refl
finished_reads s (Some order) outcomes.Updated asked = λ r. refl
finished_reads s (Some order) outcomes.Frozen asked = λ r. refl
finished_reads s (Some order) outcomes.Discarded asked = λ r. refl

done_reads : (job : Job) (outcome : Outcome) (made : Option Made) (asked : List Asked) → SameReads course asked (requests_delivered (Some (reports.Done job outcome made)) asked)
done_reads job (outcomes.Asked verdict) made asked = served_reads job.why _ asked (λ q. refl)
done_reads job outcomes.Fragmented made asked = λ r. refl
done_reads job (outcomes.Populated slot) made asked = λ r. refl
done_reads job outcomes.Activated made asked = λ r. refl
done_reads job outcomes.Updated made asked = λ r. refl
done_reads job outcomes.Frozen made asked = λ r. refl
done_reads job outcomes.Discarded made asked = λ r. refl

delivered_reads : (report : Option Report) (asked : List Asked) → SameReads course asked (requests_delivered report asked)
delivered_reads None asked = λ r. refl
delivered_reads (Some (reports.Done job outcome made)) asked = done_reads job outcome made asked
delivered_reads (Some (reports.Made made)) asked = λ r. refl
delivered_reads (Some (reports.Died death)) asked = λ r. refl

-- ---- who falls asleep has a place

where_there : (test : Place → Bool) (places : List Place) (nav : NavId) → has_nav (navs_where test places) nav ≡ true → HasPlace places nav
where_there test [] nav has = absurd cc
where_there test (p ∷ places) nav has = by_tests (test p) (p.nav.0 == nav.0) refl has (where_there test places nav)
  where
    later : (b : Bool) → (p.nav.0 == nav.0) ≡ b → HasPlace places nav → HasPlace (p ∷ places) nav
    later true e more = record { place = p; found = rw e refl }
    later false e more = record { place = more.place; found = rw e more.found }

    by_tests : (a b : Bool) → (p.nav.0 == nav.0) ≡ b → has_nav (map (λ (x : Place). x.nav) (let l : List Place = cond a (p ∷ filter test places) (filter test places) in l)) nav ≡ true → (has_nav (navs_where test places) nav ≡ true → HasPlace places nav) → HasPlace (p ∷ places) nav
    by_tests true true e h more = record { place = p; found = rw e refl }
    by_tests true false e h more = later false e (more (sym (ap (λ (b : Bool). b || has_nav (navs_where test places) nav) e) ∙ h))
    by_tests false b e h more = later b e (more h)

found_there : (test : Place → Bool) (places : List Place) (place : Place) → find test places ≡ Some place → HasPlace places place.nav
found_there test [] place is = absurd cc
found_there test (p ∷ places) place is = by_test (test p) is (found_there test places place)
  where
    later : (b : Bool) → (p.nav.0 == place.nav.0) ≡ b → HasPlace places place.nav → HasPlace (p ∷ places) place.nav
    later true e more = record { place = p; found = rw e refl }
    later false e more = record { place = more.place; found = rw e more.found }

    by_test : (b : Bool) → (let o : Option Place = cond b (Some p) (find test places) in o) ≡ Some place → (find test places ≡ Some place → HasPlace places place.nav) → HasPlace (p ∷ places) place.nav
    by_test true e more =
        let same : p ≡ place = cc in
        subst (λ (x : Place). HasPlace (p ∷ places) x.nav) same (record { place = p; found = (let own : (p.nav.0 == p.nav.0) ≡ true = nat_eq_refl p.nav.0 in rw own refl) })
    by_test false e more = later (p.nav.0 == place.nav.0) refl (more e)

-- who is among the first or the others
has_either : (navs others : List NavId) (nav : NavId) → has_nav (navs ++ others) nav ≡ true → (has_nav navs nav ≡ true) ⊎ (has_nav others nav ≡ true)
has_either [] others nav has = inr has
has_either (n ∷ navs) others nav has = by_test (n.0 == nav.0) has (has_either navs others nav)
  where
    by_test : (b : Bool) → (b || has_nav (navs ++ others) nav) ≡ true → (has_nav (navs ++ others) nav ≡ true → (has_nav navs nav ≡ true) ⊎ (has_nav others nav ≡ true)) → ((b || has_nav navs nav) ≡ true) ⊎ (has_nav others nav ≡ true)
    by_test true e more = inl refl
    by_test false e more = more e

has_first : (first nav : NavId) (others : List NavId) (places : List Place) → HasPlace places first → (has_nav others nav ≡ true → HasPlace places nav) → has_nav (first ∷ others) nav ≡ true → HasPlace places nav
has_first first nav others places placed more has = by_test (first.0 == nav.0) refl has
  where
    by_test : (b : Bool) → (first.0 == nav.0) ≡ b → (b || has_nav others nav) ≡ true → HasPlace places nav
    by_test true e h = subst (λ (n : NavId). HasPlace places n) (nav_is first nav e) placed
    by_test false e h = more h

module _ (s : Seen) where
  below_there : (up nav : NavId) → has_nav (woken_below s up) nav ≡ true → HasPlace s.places nav
  below_there up nav has = where_there (λ (place : Place). is_below up place && not (is_asleep place)) s.places nav has

  shown_sleep : (doc : DocId) (o : Option Place) (nav : NavId) → has_nav (option_map_or (sleepers_below s doc) o []) nav ≡ true → HasPlace s.places nav
  shown_sleep doc None nav has = absurd cc
  shown_sleep doc (Some place) nav has = by_test (holds (λ (last : DocId). last.0 == doc.0) place.last) has
    where
      by_test : (b : Bool) → has_nav (let l : List NavId = cond b [] (woken_below s place.nav) in l) nav ≡ true → HasPlace s.places nav
      by_test true e = absurd cc
      by_test false e = below_there place.nav nav e

  gone_sleep : (doc : DocId) (nav : NavId) → has_nav (sleepers_with s doc) nav ≡ true → HasPlace s.places nav
  gone_sleep doc nav has = by_shower (shower_of s doc) refl has
    where
      by_shower : (o : Option Place) → shower_of s doc ≡ o → has_nav (option_map_or (λ (place : Place). place.nav ∷ woken_below s place.nav) o []) nav ≡ true → HasPlace s.places nav
      by_shower None e h = absurd cc
      by_shower (Some place) e h =
          has_first place.nav nav (woken_below s place.nav) s.places (found_there (is_awake_on doc) s.places place e) (below_there place.nav nav) h

-- ---- orders

-- an order for this is for no traversal that is still to begin
abbrev pub ServesNoneToBegin : Seen → Why → Type 0
ServesNoneToBegin s why =
    (req : ReqId) (q : Asked) → why ≡ whys.Req req → request_of s req ≡ Some q → is_traversal q.what ≡ true → q.is_started ≡ true

module _ (home : ProcId) (s : Seen) (event : ℕ) (actor : Actor) (there : AreThere home s) (is : AreMoves s) where
  -- what an order adds to its request
  record AddsMoves (f : Asked → Asked) (why : Why) : Type 0 where
    what : (q : Asked) → (f q).what ≡ q.what
    started : (q : Asked) → (f q).is_started ≡ q.is_started
    -- nobody, or it is for no traversal that is still to begin
    unmoved : ((q : Asked) → (f q).moved ≡ q.moved) ⊎ ServesNoneToBegin s why
    placed : (q : Asked) (nav : NavId) → has_nav (f q).moved nav ≡ true → HasPlace s.places nav ⊎ (has_nav q.moved nav ≡ true)

  module _ (why : Why) (f : Asked → Asked) (adds : AddsMoves f why) where
    unmoved_served : (req : ReqId) (q : Asked) → why ≡ whys.Req req → request_of s req ≡ Some q → IsUnmovedYet (course q) → IsUnmovedYet (course (f q))
    unmoved_served req q is_for at unmoved goes unstarted = by_either adds.unmoved
      where
        goes_too : is_traversal q.what ≡ true
        goes_too = ap is_traversal (sym (adds.what q)) ∙ goes

        by_either : ((x : Asked) → (f x).moved ≡ x.moved) ⊎ ServesNoneToBegin s why → (f q).moved ≡ []
        by_either (inl none) = none q ∙ unmoved goes_too (sym (adds.started q) ∙ unstarted)
        by_either (inr begun) =
            (let never : true ≡ false = sym (begun req q is_for at goes_too) ∙ (sym (adds.started q) ∙ unstarted) in absurd cc)

    there_served : (places : List Place) → KeepPlaces s.places places → (q : Asked) → IsMovedThere places (course q) → IsMovedThere places (course (f q))
    there_served places keep q was nav has = by_either (adds.placed q nav has)
      where
        by_either : HasPlace s.places nav ⊎ (has_nav q.moved nav ≡ true) → HasPlace places nav
        by_either (inl placed) = keep nav placed
        by_either (inr moved) = was nav moved

  served_moves : (t : Seen) (why : Why) (f : Asked → Asked) → AddsMoves f why → t.requests ≡ on_served why f s.requests → SameReads wish s.requests t.requests → KeepPlaces s.places t.places → AreMoves t
  served_moves t why f adds same wishes keep =
      record {
        unmoved = subst (λ (l : List Asked). EachAsked (λ (req : ReqId) (q : Asked). IsUnmovedYet (course q)) l) (sym same) (by_why why refl);
        there = subst (λ (l : List Asked). EachAsked (λ (req : ReqId) (q : Asked). IsMovedThere t.places (course q)) l) (sym same) (there_by why refl);
        goes = each_read wish IsMadeToGo s.requests t.requests wishes is.goes;
      }
    where
      by_why : (w : Why) → why ≡ w → EachAsked (λ (req : ReqId) (q : Asked). IsUnmovedYet (course q)) (on_served w f s.requests)
      by_why (whys.Req req) e =
          each_asked_on (λ (r : ReqId) (q : Asked). IsUnmovedYet (course q)) (λ (r : ReqId) (q : Asked). IsUnmovedYet (course q)) s.requests req f (λ r q apart fine. fine) (λ q at fine. unmoved_served why f adds req q e at fine) is.unmoved
      by_why (whys.Death death) e = is.unmoved
      by_why whys.Evict e = is.unmoved
      by_why whys.Start e = is.unmoved

      kept : EachAsked (λ (req : ReqId) (q : Asked). IsMovedThere t.places (course q)) s.requests
      kept req q at nav has = keep nav (is.there req q at nav has)

      there_by : (w : Why) → why ≡ w → EachAsked (λ (req : ReqId) (q : Asked). IsMovedThere t.places (course q)) (on_served w f s.requests)
      there_by (whys.Req req) e =
          each_asked_on (λ (r : ReqId) (q : Asked). IsMovedThere t.places (course q)) (λ (r : ReqId) (q : Asked). IsMovedThere t.places (course q)) s.requests req f (λ r q apart fine. fine) (λ q at fine. there_served why f adds t.places keep q fine) kept
      there_by (whys.Death death) e = kept
      there_by whys.Evict e = kept
      there_by whys.Start e = kept

  pub told_moves : (job : Job) (long at : ℕ) → job.task ≡ tasks.Update long at → AreMoves (next s event actor (rows.Sent job))
  told_moves job long at task =
      moves_again s (next s event actor (rows.Sent job)) (λ r. ap (λ (t : Task). read_of course (request_in (requests_sent s job t s.requests) r)) task) (sent_reads wish wish_blind s job job.task s.requests) (places_keep s event actor (rows.Sent job) tt) is

  pub making_moves : (job : Job) (nav : NavId) (state : StateId) (address : List ℕ) (initial : Bool) → job.task ≡ tasks.Populate nav state address initial → AreMoves (next s event actor (rows.Sent job))
  making_moves job nav state address initial task =
      moves_again s (next s event actor (rows.Sent job)) (λ r. ap (λ (t : Task). read_of course (request_in (requests_sent s job t s.requests) r)) task) (sent_reads wish wish_blind s job job.task s.requests) (places_keep s event actor (rows.Sent job) tt) is

  -- a navigable is shown a document, for no traversal that is still to begin
  pub shown_moves : (job : Job) (entry : EntryId) (epoch : Epoch) (long at : ℕ) (memo : Option (List ℕ)) (address : List ℕ) → job.task ≡ tasks.Activate entry epoch long at memo address → ServesNoneToBegin s job.why → AreMoves (next s event actor (rows.Sent job))
  shown_moves job entry epoch long at memo address task begun =
      served_moves (next s event actor (rows.Sent job)) job.why (request_served s job (tasks.Activate entry epoch long at memo address)) (by_document (document_of s job.doc) refl) (ap (λ (t : Task). requests_sent s job t s.requests) task) (sent_reads wish wish_blind s job job.task s.requests) (places_keep s event actor (rows.Sent job) tt)
    where
      by_document : (o : Option Document) → document_of s job.doc ≡ o → AddsMoves (λ (q : Asked). option_map_or (λ (d : Document). with_activated d.nav (with_moved (option_map_or (sleepers_below s job.doc) (place_of s d.nav) []) q)) o q) job.why
      by_document None e = record { what = λ q. refl; started = λ q. refl; unmoved = inr begun; placed = λ q nav has. inr has }
      by_document (Some d) e =
          record {
            what = λ q. refl;
            started = λ q. refl;
            unmoved = inr begun;
            placed = λ q nav has. by_first q nav (d.nav.0 == nav.0) refl has;
          }
        where
          asleep_ : List NavId
          asleep_ = option_map_or (sleepers_below s job.doc) (place_of s d.nav) []

          by_sleep : (q : Asked) (nav : NavId) → (has_nav asleep_ nav ≡ true) ⊎ (has_nav q.moved nav ≡ true) → HasPlace s.places nav ⊎ (has_nav q.moved nav ≡ true)
          by_sleep q nav (inl sleeps) = inl (shown_sleep s job.doc (place_of s d.nav) nav sleeps)
          by_sleep q nav (inr moved) = inr moved

          by_first : (q : Asked) (nav : NavId) (b : Bool) → (d.nav.0 == nav.0) ≡ b → (b || has_nav (asleep_ ++ q.moved) nav) ≡ true → HasPlace s.places nav ⊎ (has_nav q.moved nav ≡ true)
          by_first q nav true own h = inl (subst (λ (n : NavId). HasPlace s.places n) (nav_is d.nav nav own) (there job.doc d e).placed)
          by_first q nav false own h = by_sleep q nav (has_either asleep_ q.moved nav h)

  -- a document is discarded with which nobody falls asleep, or for no traversal that is still to begin
  pub discarded_moves : (job : Job) → job.task ≡ tasks.Discard → (sleepers_with s job.doc ≡ []) ⊎ ServesNoneToBegin s job.why → AreMoves (next s event actor (rows.Sent job))
  discarded_moves job task fine =
      served_moves (next s event actor (rows.Sent job)) job.why (request_served s job tasks.Discard)
      (record {
        what = λ q. refl;
        started = λ q. refl;
        unmoved = by_either fine;
        placed = λ q nav has. by_sleep q nav (has_either (sleepers_with s job.doc) q.moved nav has);
      })
      (ap (λ (t : Task). requests_sent s job t s.requests) task) (sent_reads wish wish_blind s job job.task s.requests) (places_keep s event actor (rows.Sent job) tt)
    where
      by_either : (sleepers_with s job.doc ≡ []) ⊎ ServesNoneToBegin s job.why → ((q : Asked) → (request_served s job tasks.Discard q).moved ≡ q.moved) ⊎ ServesNoneToBegin s job.why
      by_either (inl none) = inl (λ q. ap (λ (l : List NavId). l ++ q.moved) none)
      by_either (inr begun) = inr begun

      by_sleep : (q : Asked) (nav : NavId) → (has_nav (sleepers_with s job.doc) nav ≡ true) ⊎ (has_nav q.moved nav ≡ true) → HasPlace s.places nav ⊎ (has_nav q.moved nav ≡ true)
      by_sleep q nav (inl sleeps) = inl (gone_sleep s job.doc nav sleeps)
      by_sleep q nav (inr moved) = inr moved

-- ---- requests

module _ (s : Seen) (event : ℕ) (actor : Actor) (is : AreMoves s) where
  pub started_moves : (req : ReqId) (goal : Option Step) → AreMoves (next s event actor (rows.Started req goal))
  started_moves req goal =
      record {
        unmoved = each_read course IsUnmovedYet (on_request req begin s.requests) (next s event actor (rows.Started req goal)).requests again
            (each_asked_on (λ (r : ReqId) (q : Asked). IsUnmovedYet (course q)) (λ (r : ReqId) (q : Asked). IsUnmovedYet (course q)) s.requests req begin (λ r q apart fine. fine) (λ q at fine goes never. absurd (begun never)) is.unmoved);
        there = each_read course (IsMovedThere s.places) (on_request req begin s.requests) (next s event actor (rows.Started req goal)).requests again
            (each_asked_on (λ (r : ReqId) (q : Asked). IsMovedThere s.places (course q)) (λ (r : ReqId) (q : Asked). IsMovedThere s.places (course q)) s.requests req begin (λ r q apart fine. fine) (λ q at fine. fine) is.there);
        goes = each_read wish IsMadeToGo s.requests (next s event actor (rows.Started req goal)).requests
            (reads_then wish s.requests (on_request req begin s.requests) (next s event actor (rows.Started req goal)).requests (on_read wish s.requests req begin (λ q. refl)) (on_read wish (on_request req begin s.requests) req (request_begun s) (λ q. refl)))
            is.goes;
      }
    where
      begin : Asked → Asked
      begin q = record q { is_started = true; goal = goal }

      begun : (let b : Bool = true in b) ≡ false → ⊥
      begun never = cc

      again : SameReads course (on_request req begin s.requests) (next s event actor (rows.Started req goal)).requests
      again = on_read course (on_request req begin s.requests) req (request_begun s) (λ q. refl)

  pub refused_moves : (req : ReqId) (reason : Denial) → AreMoves (next s event actor (rows.Refused req reason))
  refused_moves req reason =
      moves_again s (next s event actor (rows.Refused req reason)) (on_read course s.requests req (λ q. record q { ending = Some (endings.Refused reason) }) (λ q. refl)) (on_read wish s.requests req (λ q. record q { ending = Some (endings.Refused reason) }) (λ q. refl)) (places_keep s event actor (rows.Refused req reason) tt) is

  pub dropped_moves : (req : ReqId) (cause : Cause) → AreMoves (next s event actor (rows.Dropped req cause))
  dropped_moves req cause =
      moves_again s (next s event actor (rows.Dropped req cause)) (on_read course s.requests req (λ q. record q { ending = Some (endings.Dropped cause) }) (λ q. refl)) (on_read wish s.requests req (λ q. record q { ending = Some (endings.Dropped cause) }) (λ q. refl)) (places_keep s event actor (rows.Dropped req cause) tt) is

  -- a push, a replace, a frame added or removed, or a traversal that ends
  pub applied_moves : (req : ReqId) (change : Change) → AreMoves (next s event actor (rows.Applied req change))
  applied_moves req change =
      moves_again s (next s event actor (rows.Applied req change)) (applied_reads course s.requests req change (entries_taken s.history change) (λ q. refl) (λ q. refl) (λ q. refl)) (applied_wishes s event actor req change) (places_keep s event actor (rows.Applied req change) tt) is

  pub accepted_moves : (req : ReqId) (doc : Option DocId) (what : Request) → req.0 ≡ length s.requests + 1 → AreMoves (next s event actor (rows.Accepted req doc what))
  accepted_moves req doc what nr =
      record {
        unmoved = each_asked_more (λ (r : ReqId) (q : Asked). IsUnmovedYet (course q)) s.requests (new_request req doc what) req nr (λ goes unstarted. refl) is.unmoved;
        there = each_asked_more (λ (r : ReqId) (q : Asked). IsMovedThere s.places (course q)) s.requests (new_request req doc what) req nr (λ nav never. absurd cc) is.there;
        goes = each_asked_more (λ (r : ReqId) (q : Asked). IsMadeToGo (wish q)) s.requests (new_request req doc what) req nr (λ made delta same asks. absurd (let never : None ≡ Some made = same in cc)) is.goes;
      }

  -- ---- processes

  pub taken_moves : (proc : ProcId) (job : Job) (dirty : Bool) → AreMoves (next s event actor (rows.Taken proc job.nr true dirty))
  taken_moves proc job dirty =
      moves_again s (next s event actor (rows.Taken proc job.nr true dirty)) (λ r. refl) (λ r. refl) (places_keep s event actor (rows.Taken proc job.nr true dirty) tt) is

  pub finished_moves : (proc : ProcId) (order : Order) (outcome : Outcome) → AreMoves (next s event actor (rows.Finished proc order.job.nr outcome))
  finished_moves proc order outcome =
      moves_again s (next s event actor (rows.Finished proc order.job.nr outcome)) (finished_reads s (desk_of s proc).in_hand outcome s.requests) (readers.finished_reads wish wish_blind s (desk_of s proc).in_hand outcome s.requests) (places_keep s event actor (rows.Finished proc order.job.nr outcome) tt) is

  pub delivered_moves : (proc : ProcId) → AreMoves (next s event actor (rows.Delivered proc))
  delivered_moves proc =
      moves_again s (next s event actor (rows.Delivered proc)) (delivered_reads (slice_get (desk_of s proc).reports 0) s.requests) (readers.delivered_reads wish wish_blind (slice_get (desk_of s proc).reports 0) s.requests) (places_keep s event actor (rows.Delivered proc) tt) is

  -- a document makes something: of a traversal that it goes by its delta
  pub acted_moves : (proc : ProcId) (made : Made) → ((q : Asked) (delta : ℤ) → request_of s made.req ≡ Some q → delta_of q.what ≡ Some delta → made.what ≡ whats.Go delta) → AreMoves (next s event actor (rows.Made proc made))
  acted_moves proc made kind =
      record {
        unmoved = each_read course IsUnmovedYet s.requests (next s event actor (rows.Made proc made)).requests again is.unmoved;
        there = each_read course (IsMovedThere s.places) s.requests (next s event actor (rows.Made proc made)).requests again is.there;
        goes = each_asked_on (λ (r : ReqId) (q : Asked). IsMadeToGo (wish q)) (λ (r : ReqId) (q : Asked). IsMadeToGo (wish q)) s.requests made.req (λ q. record q { made = Some made }) (λ r q apart fine. fine) (λ q at fine m delta same asks. ap (λ (x : Made). x.what) (sym (some_same same)) ∙ kind q delta at asks) is.goes;
      }
    where
      again : SameReads course s.requests (next s event actor (rows.Made proc made)).requests
      again = on_read course s.requests made.req (λ q. record q { made = Some made }) (λ q. refl)

-- ---- the tab opens

pub opened_moves : (event : ℕ) (actor : Actor) (entry : EntryId) (state : StateId) (doc : DocId) (proc : ProcId) (slot : Option ℕ) (address : List ℕ) → AreMoves (next nothing event actor (rows.Opened entry state doc proc slot address))
opened_moves event actor entry state doc proc slot address =
    record { unmoved = λ req q at. absurd (none_asked req q (req.0 == 0) at); there = λ req q at. absurd (none_asked req q (req.0 == 0) at); goes = λ req q at. absurd (none_asked req q (req.0 == 0) at) }
  where
    none_asked : (req : ReqId) (q : Asked) (b : Bool) → (let o : Option Asked = cond b None None in o) ≡ Some q → ⊥
    none_asked req q true e = cc
    none_asked req q false e = cc
