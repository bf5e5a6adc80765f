-- Who moved a navigable away still did, over each order that asks nobody, and as a request begins, ends or is applied; and which requests moved it.
use Rattle.seen_facts.proofs.Coord.Held.{on_else}
use Rattle.seen_facts.proofs.Coord.Unread.{next}
use Rattle.seen_facts.proofs.Home.Again.{all_more, all_on}
use Rattle.seen_facts.proofs.Home.Changed.{changed_stay}
use Rattle.log_model.specs.After.{ended}
use Rattle.log_model.specs.AfterDocuments.{addressed, documents_sent, new_document, on_document}
use Rattle.log_model.specs.AfterPlaces.{activated, on_place, places_sent, put_to_sleep, sleepers_below, sleepers_with}
use Rattle.log_model.specs.AfterRequests.{entries_taken, on_request, request_begun}
use Rattle.log_model.specs.Causes.{any_place, changed_one_of, is_passed_traversal, nav_of_change}
use Rattle.log_model.specs.History.{has_nav}
use Rattle.log_model.specs.Places.{has_passed, is_traversal, way_to}
use Rattle.log_model.specs.Seen.{Asked, Document, Place, Seen, document_of, place_of, request_in, request_of}
use Rattle.log_model.specs.declared.change.Change.{Change}
use Rattle.log_model.specs.declared.job.Job.{Job}
use Rattle.log_model.specs.declared.job.Task.{Task}
use Rattle.log_model.specs.declared.job.Why.{Why}
use Rattle.log_model.specs.declared.outcome.Cause.{Cause}
use Rattle.log_model.specs.declared.outcome.Denial.{Denial}
use Rattle.log_model.specs.declared.outcome.Ending.{Ending}
use Rattle.log_model.specs.declared.row_kind.Actor.{Actor}
use Rattle.seen_facts.proofs.Mover.Asked.{all_go_on, as_asked, begun_follow, ended_follow, sent_follow}
use Rattle.seen_facts.proofs.Mover.Asked as movers
use Rattle.seen_facts.proofs.Mover.Changes.{applied_places}
use Rattle.seen_facts.proofs.Mover.Places.{any_behind, same_ways, sleep_ways, ways_both, ways_if, ways_mapped}
use Rattle.seen_facts.proofs.Mover.Stays.{GoOn, GoesTo, KeepWays, any_of}
use Rattle.seen_facts.proofs.Mover.Ways.{change_moves}
use Rattle.seen_facts.specs.Mover.Movers.{AllChangeAsTheyEnd, IsMovedBy, MovesAway, took_of}
use Rattle.row_facts.proofs.Owed.Requests.{AsksNone, asks_of, read_same, req_same, sent_asks}
use Rattle.seen_facts.proofs.Request.LookUps.{on_itself}
use Rattle.seen_facts.proofs.Request.Readers.{SameReads, on_read, reads_then, sent_reads}
use Rattle.std.proofs.Common.{Bool, List, None, Option, Some, [], ap, cond, false, inl, refl, subst, sym, true, ℕ, ◌==◌, ◌∙◌, ◌≡◌, ◌≢◌}
use Rattle.std.specs.List.{list_any}
use Rattle.std.specs.Option.{option_map_or}
use Rattle.std.specs.Prelude.{option_map}
use Rattle.tab_ids.specs.declared.NavId.{NavId}
use Rattle.tab_ids.specs.declared.ReqId.{ReqId}
use Rattle.tab_ids.specs.declared.Step.{Step}
use Rattle.row_facts.proofs.WalkRows.Moves.{GoesOnIn, goes_on, moved_by}
use Rattle.row_facts.proofs.WalkRows.Passed.{StayGone, answer_blind, answer_of, discard_gone, passes_still, stay_gone}
use Rattle.log_model.specs.declared.job.Task.TheVariants as tasks
use Rattle.log_model.specs.declared.job.Why.TheVariants as whys
use Rattle.log_model.specs.declared.outcome.Ending.TheVariants as endings
use Rattle.log_model.specs.declared.row_kind.RowKind.TheVariants as rows

-- ---- what an order leaves

-- the same of an order, in the words of the movers
asks_nobody : (task : Task) → AsksNone task → movers.AsksNone task
asks_nobody (tasks.Ask slot cause) never = never
asks_nobody (tasks.Activate entry epoch length index memo address) none = tt
asks_nobody tasks.Freeze none = tt
asks_nobody tasks.Discard none = tt
asks_nobody (tasks.Populate nav state address initial) none = tt
asks_nobody (tasks.Update length index) none = tt
asks_nobody (tasks.DoFragment req mode address) none = tt

-- a document that was gone is gone, whatever is sent
sent_gone : (s : Seen) (job : Job) (task : Task) → StayGone s.documents (documents_sent s job task)
sent_gone s job task = by_task task
  where
    addressed_gone : (k : Task) → StayGone s.documents (on_document job.doc (addressed k) s.documents)
    addressed_gone k =
        stay_gone s.documents (on_document job.doc (addressed k) s.documents) (all_on job.doc (addressed k) s.documents (λ d. refl) (λ d. record { nav = refl; state = refl; ready = λ is. is; discarded = refl; known = refl }))

    by_task : (k : Task) → StayGone s.documents (documents_sent s job k)
    by_task (tasks.Populate nav state address initial) =
        stay_gone s.documents (documents_sent s job (tasks.Populate nav state address initial)) (all_more s.documents (new_document s job nav state))
    by_task tasks.Discard = discard_gone job.doc s.documents
    by_task tasks.Freeze = addressed_gone tasks.Freeze
    by_task (tasks.Activate entry epoch length index memo address) =
        addressed_gone (tasks.Activate entry epoch length index memo address)
    by_task (tasks.Update length index) = addressed_gone (tasks.Update length index)
    by_task (tasks.Ask slot cause) = addressed_gone (tasks.Ask slot cause)
    by_task (tasks.DoFragment req mode address) = addressed_gone (tasks.DoFragment req mode address)

-- each place hangs as before, and was given what it was
sent_ways : (s : Seen) (job : Job) (task : Task) → KeepWays s.places (places_sent s job task)
sent_ways s job (tasks.Activate entry epoch length index memo address) = by_document (document_of s job.doc)
  where
    by_document : (o : Option Document) → KeepWays s.places (option_map_or (λ (d : Document). on_place d.nav (activated job entry epoch d) (put_to_sleep (option_map_or (sleepers_below s job.doc) (place_of s d.nav) []) job.why s.places)) o s.places)
    by_document None = same_ways s.places
    by_document (Some d) =
        let slept : List Place = put_to_sleep (option_map_or (sleepers_below s job.doc) (place_of s d.nav) []) job.why s.places in
        ways_both s.places slept _ (sleep_ways (option_map_or (sleepers_below s job.doc) (place_of s d.nav) []) job.why s.places)
        (ways_mapped (λ (p : Place). cond (p.nav.0 == d.nav.0) (activated job entry epoch d p) p) slept (ways_if (λ (p : Place). p.nav.0 == d.nav.0) (activated job entry epoch d) (record { nav = λ p. refl; above = λ p. refl; given = λ p test any. any_behind test entry p.ever_given any })))
sent_ways s job tasks.Freeze = sleep_ways (sleepers_with s job.doc) job.why s.places
sent_ways s job tasks.Discard = sleep_ways (sleepers_with s job.doc) job.why s.places
sent_ways s job (tasks.Populate nav state address initial) = same_ways s.places
sent_ways s job (tasks.Update length index) = same_ways s.places
sent_ways s job (tasks.Ask slot cause) = same_ways s.places
sent_ways s job (tasks.DoFragment req mode address) = same_ways s.places

-- ---- an applied change

-- if the request is this reason, it has no change yet, and took nothing
abbrev pub HasNone : Seen → ReqId → Why → Type 0
HasNone s req why =
    (q : Asked) → why ≡ whys.Req req → request_of s req ≡ Some q → (q.change ≡ None) × (q.took ≡ [])

-- so it is where it is another one
pub other_none : (s : Seen) (req : ReqId) (why : Why) → why ≢ whys.Req req → HasNone s req why
other_none s req why other q is at = absurd (other is)

-- and where it hasn't ended
pub open_none : (s : Seen) (req : ReqId) (why : Why) → AllChangeAsTheyEnd s.requests → ((q : Asked) → request_of s req ≡ Some q → q.ending ≡ None) → HasNone s req why
open_none s req why ends unended q is at =
    let its = ends req q at in (its.unchanged (unended q at), its.untaken (unended q at))

-- ---- the rows

module _ (s : Seen) (event : ℕ) (actor : Actor) (why : Why) (nav : NavId) (by : IsMovedBy s why nav) where
  -- an order that asks no document
  pub sent_moved : (job : Job) → AsksNone job.task → IsMovedBy (next s event actor (rows.Sent job)) why nav
  sent_moved job none =
      moved_by s t why nav (sent_ways s job job.task) by
      (goes_on s t (all_go_on s.requests t.requests (sent_follow s job job.task s.requests (asks_nobody job.task none))) (sent_asks s job job.task s.requests none) (sent_reads answer_of answer_blind s job job.task s.requests) (sent_gone s job job.task) by.req by.q by.there)
    where
      t : Seen
      t = next s event actor (rows.Sent job)

  -- any request begins
  pub started_moved : (req : ReqId) (goal : Option Step) → IsMovedBy (next s event actor (rows.Started req goal)) why nav
  started_moved req goal =
      moved_by s t why nav (same_ways s.places) by
      (goes_on s t (all_go_on s.requests t.requests (begun_follow s s.requests req goal)) (reads_then asks_of s.requests begun t.requests (on_read asks_of s.requests req _ (λ q. refl)) (on_read asks_of begun req (request_begun s) (λ q. refl))) (reads_then answer_of s.requests begun t.requests (on_read answer_of s.requests req _ (λ q. refl)) (on_read answer_of begun req (request_begun s) (λ q. refl))) (λ doc is. is) by.req by.q by.there)
    where
      t : Seen
      t = next s event actor (rows.Started req goal)

      begun : List Asked
      begun = on_request req (λ q. record q { is_started = true; goal = goal }) s.requests

  -- any request ends
  ended_on : (ending : Ending) (req : ReqId) (t : Seen) → t.requests ≡ ended s.requests req ending → t.documents ≡ s.documents → GoesOnIn s t by.req by.q
  ended_on ending req t requests documents =
      goes_on s t (subst (λ (l : List Asked). GoOn s.requests l) (sym requests) (all_go_on s.requests (ended s.requests req ending) (ended_follow s.requests req ending))) (subst (λ (l : List Asked). SameReads asks_of s.requests l) (sym requests) (on_read asks_of s.requests req _ (λ q. refl))) (subst (λ (l : List Asked). SameReads answer_of s.requests l) (sym requests) (on_read answer_of s.requests req _ (λ q. refl))) (subst (λ (l : List Document). StayGone s.documents l) (sym documents) (λ doc is. is)) by.req by.q by.there

  -- it is dropped
  pub dropped_moved : (req : ReqId) (cause : Cause) → IsMovedBy (next s event actor (rows.Dropped req cause)) why nav
  dropped_moved req cause =
      moved_by s (next s event actor (rows.Dropped req cause)) why nav (same_ways s.places) by (ended_on (endings.Dropped cause) req (next s event actor (rows.Dropped req cause)) refl refl)

  -- it is refused
  pub refused_moved : (req : ReqId) (reason : Denial) → IsMovedBy (next s event actor (rows.Refused req reason)) why nav
  refused_moved req reason =
      moved_by s (next s event actor (rows.Refused req reason)) why nav (same_ways s.places) by (ended_on (endings.Refused reason) req (next s event actor (rows.Refused req reason)) refl refl)

  -- it is applied
  pub applied_moved : (req : ReqId) (change : Change) → HasNone s req why → IsMovedBy (next s event actor (rows.Applied req change)) why nav
  applied_moved req change none =
      moved_by s t why nav (applied_places s req change).ways by (record { goes = goes; passed = passed })
    where
      t : Seen
      t = next s event actor (rows.Applied req change)

      end_it : Asked → Asked
      end_it q = record q { ending = Some endings.Applied }

      change_it : Asked → Asked
      change_it q = record q { change = Some change }

      take_it : Asked → Asked
      take_it q = record q { took = entries_taken s.history change }

      over : List Asked
      over = on_request req end_it s.requests

      changed : List Asked
      changed = on_request req change_it over

      found : request_in t.requests req ≡ option_map take_it (option_map change_it (option_map end_it (request_of s req)))
      found =
          on_itself changed req take_it ∙ ap (option_map take_it) (on_itself over req change_it ∙ ap (option_map change_it) (on_itself s.requests req end_it))

      by_number : (b : Bool) → (by.req.0 == req.0) ≡ b → GoesTo t.requests by.req by.q
      by_number true is =
          let same : by.req ≡ req = req_same by.req req is in
          let there : request_of s req ≡ Some by.q = ap (request_of s) (sym same) ∙ by.there in
          let its = none by.q (by.why ∙ ap whys.Req same) there in
          record {
            new = take_it (change_it (end_it by.q));
            found = ap (request_in t.requests) same ∙ found ∙ ap (λ (o : Option Asked). option_map take_it (option_map change_it (option_map end_it o))) there;
            on = record {
              what = refl;
              begun = λ is. is;
              change = λ c is. (let never : None ≡ Some c = sym its.0 ∙ is in absurd cc);
              took = λ test is. (let never : false ≡ true = sym (ap (list_any test) its.1) ∙ is in absurd cc);
            };
          }
      by_number false is =
          record {
            new = by.q;
            found = on_else changed req take_it by.req is ∙ on_else over req change_it by.req is ∙ on_else s.requests req end_it by.req is ∙ by.there;
            on = (as_asked by.q).on;
          }

      goes : GoesTo t.requests by.req by.q
      goes = by_number (by.req.0 == req.0) refl

      asks : SameReads asks_of s.requests t.requests
      asks =
          reads_then asks_of s.requests over t.requests (on_read asks_of s.requests req end_it (λ q. refl)) (reads_then asks_of over changed t.requests (on_read asks_of over req change_it (λ q. refl)) (on_read asks_of changed req take_it (λ q. refl)))

      answers : SameReads answer_of s.requests t.requests
      answers =
          reads_then answer_of s.requests over t.requests (on_read answer_of s.requests req end_it (λ q. refl)) (reads_then answer_of over changed t.requests (on_read answer_of over req change_it (λ q. refl)) (on_read answer_of changed req take_it (λ q. refl)))

      passed : has_passed s by.q ≡ true → has_passed t goes.new ≡ true
      passed =
          passes_still s t (stay_gone s.documents t.documents (changed_stay change s.documents)) by.q goes.new (read_same asks_of s.requests t.requests asks by.req by.q goes.new by.there goes.found) (read_same answer_of s.requests t.requests answers by.req by.q goes.new by.there goes.found)

-- ---- who moves a navigable

-- a traversal that has begun and passed its check moves each
pub run_moves : (s : Seen) (req : ReqId) (q : Asked) (nav : NavId) → request_of s req ≡ Some q → is_traversal q.what ≡ true → q.is_started ≡ true → has_passed s q ≡ true → IsMovedBy s (whys.Req req) nav
run_moves s req q nav at traverses began passed =
    record { req = req; q = q; why = refl; there = at; moves = moves }
  where
    moves : MovesAway s q nav
    moves =
        any_of (is_passed_traversal s q) (changed_one_of q (way_to s nav)) (any_place s (way_to s nav) (took_of q)) (inl (rw (traverses, began) passed))

-- a request whose change is of a navigable moves that one and those below
pub changed_moves : (s : Seen) (req : ReqId) (q : Asked) (nav : NavId) (change : Change) (n : NavId) → request_of s req ≡ Some q → q.change ≡ Some change → nav_of_change change ≡ Some n → has_nav (way_to s nav) n ≡ true → IsMovedBy s (whys.Req req) nav
changed_moves s req q nav change n at its of_it on =
    record { req = req; q = q; why = refl; there = at; moves = change_moves s q nav change n its of_it on }
