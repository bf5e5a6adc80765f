-- Requests stay plain over each order but one that asks: what it moves, it moves for the request that is its reason, and a document is sent to a fragment for a load alone.
use Rattle.std.proofs.Common.{◌≡◌, ℕ, true, false, List, [], Option, Some, None, refl, sym, ◌∙◌, subst}
use Rattle.std.specs.Option.{option_map_or}
use Rattle.tab_ids.specs.declared.EntryId.{EntryId}
use Rattle.tab_ids.specs.declared.Epoch.{Epoch}
use Rattle.tab_ids.specs.declared.ReqId.{ReqId}
use Rattle.log_model.specs.declared.job.Job.{Job}
use Rattle.log_model.specs.declared.job.Task.{Task}
use Rattle.log_model.specs.declared.job.Task.TheVariants as tasks
use Rattle.log_model.specs.declared.request.Mode.{Mode}
use Rattle.log_model.specs.declared.row_kind.Actor.{Actor}
use Rattle.log_model.specs.declared.row_kind.RowKind.TheVariants as rows
use Rattle.log_model.specs.After.{after}
use Rattle.log_model.specs.AfterPlaces.{sleepers_below, sleepers_with}
use Rattle.log_model.specs.AfterRequests.{request_served, requests_sent, with_activated, with_moved}
use Rattle.log_model.specs.Places.{is_load}
use Rattle.log_model.specs.Seen.{Seen, Asked, Document, document_of, place_of, request_in}
use Rattle.seen_facts.proofs.Coord.OneDocument.{mailed}
use Rattle.seen_facts.proofs.Request.Readers.{sent_reads}
use Rattle.seen_facts.specs.Each.Runs.{EachAsked, is_run}
use Rattle.seen_facts.proofs.Each.Courses.{runs_again}
use Rattle.seen_facts.proofs.Each.Died.{died_on}
use Rattle.seen_facts.specs.Asked.Asking.{ArePlain, IsAskedPlainly}
use Rattle.seen_facts.proofs.Mover.Asked.{AsksNone}
use Rattle.seen_facts.proofs.Asked.Passed.{have_passed}
use Rattle.seen_facts.proofs.Asked.Plainly.{moved_more, plain_on, plain_served, shown_more}
use Rattle.seen_facts.proofs.Asked.Stays.{left_plain, of_found, run_blind, what_blind}

-- the order makes a document, or tells one its length and index
abbrev pub MakesOrTells : Task → Type 0
MakesOrTells (tasks.Populate nav state address initial) = Unit {0}
MakesOrTells (tasks.Update length index) = Unit {0}
MakesOrTells _ = ⊥

-- the order puts navigables to sleep, and shows none a document
abbrev pub PutsToSleep : Task → Type 0
PutsToSleep tasks.Freeze = Unit {0}
PutsToSleep tasks.Discard = Unit {0}
PutsToSleep _ = ⊥

-- neither asks whether a document may be left
tells_none : (task : Task) → MakesOrTells task → AsksNone task
tells_none (tasks.Populate nav state address initial) tells = tt
tells_none (tasks.Update length index) tells = tt
tells_none (tasks.Activate entry epoch length index memo address) never = absurd never
tells_none tasks.Freeze never = absurd never
tells_none tasks.Discard never = absurd never
tells_none (tasks.Ask slot cause) never = absurd never
tells_none (tasks.DoFragment req mode address) never = absurd never

puts_none : (task : Task) → PutsToSleep task → AsksNone task
puts_none tasks.Freeze puts = tt
puts_none tasks.Discard puts = tt
puts_none (tasks.Populate nav state address initial) never = absurd never
puts_none (tasks.Update length index) never = absurd never
puts_none (tasks.Activate entry epoch length index memo address) never = absurd never
puts_none (tasks.Ask slot cause) never = absurd never
puts_none (tasks.DoFragment req mode address) never = absurd never

module _ (run : Option ReqId) (s : Seen) (event : ℕ) (actor : Actor) (are : ArePlain run s) where
  abbrev then_ : Job → Seen
  then_ job = after s (record { event = event; actor = actor; row = rows.Sent job })

  -- where an order leaves each request plain and asks nobody, all else stays
  sent_plain : (job : Job) (task : Task) → job.task ≡ task → AsksNone task → EachAsked IsAskedPlainly (requests_sent s job task s.requests) → ArePlain run (then_ job)
  sent_plain job task is none each =
      left_plain run s (then_ job) are (record {
        whats = sent_reads (λ (q : Asked). q.what) what_blind s job job.task s.requests;
        each = subst (λ (k : Task). EachAsked IsAskedPlainly (requests_sent s job k s.requests)) (sym is) each;
        passed = have_passed s (record { event = event; actor = actor; row = rows.Sent job }) (subst AsksNone (sym is) none) tt are.passed;
        only = runs_again run s.requests (then_ job).requests (sent_reads is_run run_blind s job job.task s.requests) are.only;
        died = died_on s (then_ job) job.proc (mailed job) refl (λ desk. refl) refl refl are.died;
      })

  -- an order that makes a document, or tells one its length and index
  pub told_plain : (job : Job) (task : Task) → job.task ≡ task → MakesOrTells task → ArePlain run (then_ job)
  told_plain job task is tells = sent_plain job task is (tells_none task tells) (by_task task tells)
    where
      by_task : (k : Task) → MakesOrTells k → EachAsked IsAskedPlainly (requests_sent s job k s.requests)
      by_task (tasks.Populate nav state address initial) tells_ = are.each
      by_task (tasks.Update length index) tells_ = are.each
      by_task (tasks.Activate entry epoch length index memo address) never = absurd never
      by_task tasks.Freeze never = absurd never
      by_task tasks.Discard never = absurd never
      by_task (tasks.Ask slot cause) never = absurd never
      by_task (tasks.DoFragment req mode address) never = absurd never

  -- an order that freezes or discards a document
  pub slept_plain : (job : Job) (task : Task) → job.task ≡ task → PutsToSleep task → ArePlain run (then_ job)
  slept_plain job task is puts = sent_plain job task is (puts_none task puts) (by_task task puts)
    where
      sleep : (req : ReqId) (q : Asked) → IsAskedPlainly req q → IsAskedPlainly req (with_moved (sleepers_with s job.doc) q)
      sleep req q plain = moved_more (sleepers_with s job.doc) req q plain

      by_task : (k : Task) → PutsToSleep k → EachAsked IsAskedPlainly (requests_sent s job k s.requests)
      by_task tasks.Freeze puts_ = plain_served job.why (request_served s job tasks.Freeze) s.requests sleep are.each
      by_task tasks.Discard puts_ = plain_served job.why (request_served s job tasks.Discard) s.requests sleep are.each
      by_task (tasks.Populate nav state address initial) never = absurd never
      by_task (tasks.Update length index) never = absurd never
      by_task (tasks.Activate entry epoch length index memo address) never = absurd never
      by_task (tasks.Ask slot cause) never = absurd never
      by_task (tasks.DoFragment req mode address) never = absurd never

  -- an order that shows a navigable a document
  pub shown_plain : (job : Job) (entry : EntryId) (epoch : Epoch) (long at : ℕ) (memo : Option (List ℕ)) (address : List ℕ) → job.task ≡ tasks.Activate entry epoch long at memo address → ArePlain run (then_ job)
  shown_plain job entry epoch long at memo address is =
      sent_plain job (tasks.Activate entry epoch long at memo address) is tt (plain_served job.why (request_served s job (tasks.Activate entry epoch long at memo address)) s.requests (λ req q plain. by_document req q plain (document_of s job.doc)) are.each)
    where
      by_document : (req : ReqId) (q : Asked) → IsAskedPlainly req q → (o : Option Document) → IsAskedPlainly req (option_map_or (λ (d : Document). with_activated d.nav (with_moved (option_map_or (sleepers_below s job.doc) (place_of s d.nav) []) q)) o q)
      by_document req q plain None = plain
      by_document req q plain (Some d) =
          let below = option_map_or (sleepers_below s job.doc) (place_of s d.nav) [] in
          shown_more d.nav req (with_moved below q) (moved_more below req q plain)

  -- an order that sends a document to a fragment: for a load that hasn't begun
  pub fragment_plain : (job : Job) (req : ReqId) (mode : Mode) (address : List ℕ) (q : Asked) → job.task ≡ tasks.DoFragment req mode address → request_in s.requests req ≡ Some q → is_load q.what ≡ true → q.is_started ≡ false → ArePlain run (then_ job)
  fragment_plain job req mode address q is there loads unstarted =
      sent_plain job (tasks.DoFragment req mode address) is tt (plain_on s.requests req (λ x. record x { fragment = Some job.doc }) own are.each)
    where
      its : (P : Asked → Type 0) → P q → (x : Asked) → request_in s.requests req ≡ Some x → P x
      its = of_found s.requests req q there

      own : (x : Asked) → request_in s.requests req ≡ Some x → IsAskedPlainly req x → IsAskedPlainly req (record x { fragment = Some job.doc })
      own x at plain =
          record {
            nr = plain.nr;
            what = plain.what;
            unstarted = plain.unstarted;
            goal = plain.goal;
            sent = λ other. (let never : true ≡ false = sym (its (λ y. is_load y.what ≡ true) loads x at) ∙ other in absurd cc);
            begun = λ begun. (let never : false ≡ true = sym (its (λ y. y.is_started ≡ false) unstarted x at) ∙ begun in absurd cc);
            moved = plain.moved;
          }
