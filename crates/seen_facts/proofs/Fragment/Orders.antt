-- A fragment order is sent, taken up and finished, and where its document didn't run its report is delivered: coord_facts says what these rows leave. With what the document makes of it, its end is one event.
use Rattle.std.proofs.Common.{◌≡◌, ℕ, ◌+◌, true, false, [], ◌∷◌, List, ◌++◌, Option, Some, refl, sym, ap, ◌∙◌, subst}
use Rattle.std.specs.Prelude.{option_and_then, option_map, if◌then◌else◌, not}
use Rattle.std.specs.Option.{option_map_or}
use Rattle.tab_ids.specs.declared.NavId.{NavId}
use Rattle.tab_ids.specs.declared.ProcId.{ProcId}
use Rattle.tab_ids.specs.declared.ReqId.{ReqId}
use Rattle.log_model.specs.declared.job.Job.{Job}
use Rattle.log_model.specs.declared.job.Order.{Order}
use Rattle.log_model.specs.declared.job.Task.TheVariants as tasks
use Rattle.log_model.specs.declared.made.Made.{Made}
use Rattle.log_model.specs.declared.made.Report.{Report}
use Rattle.log_model.specs.declared.outcome.Outcome.TheVariants as outcomes
use Rattle.log_model.specs.declared.request.Mode.{Mode}
use Rattle.log_model.specs.declared.row_kind.Actor.{Actor}
use Rattle.log_model.specs.declared.row_kind.Actor.TheVariants as actors
use Rattle.log_model.specs.Equal.{has_req}
use Rattle.log_model.specs.After.{desk_finished}
use Rattle.log_model.specs.AfterDocuments.{view_finished}
use Rattle.log_model.specs.AfterRequests.{made_of_report, is_held_back, is_running, requests_delivered}
use Rattle.log_model.specs.Seen.{Seen, Document, Desk, Asked, document_of, desk_of}
use Rattle.log_model.specs.Views.{View}
use Rattle.log_model.proofs.Refl.{nat_eq_refl}
use Rattle.seen_laws.proofs.Desks.{desk_on_same}
use Rattle.seen_laws.proofs.Keyed.{find_on_same}
use Rattle.seen_facts.specs.Coord.Flowing.{Flows}
use Rattle.seen_facts.specs.Coord.Leading.{held_back}
use Rattle.seen_facts.proofs.Coord.Answered as answered
use Rattle.seen_facts.proofs.Coord.Arrived.{IsFirstReport}
use Rattle.seen_facts.proofs.Coord.Asking as asking
use Rattle.seen_facts.proofs.Coord.Asking.{IsAsk}
use Rattle.seen_facts.proofs.Coord.Held.{held_on}
use Rattle.seen_facts.proofs.Coord.Kept.{IsInHand, IsSentHome}
use Rattle.seen_facts.proofs.Coord.Reached.{IsOfOne}
use Rattle.seen_facts.specs.Fragment.Fragments.{IsJustFragmented}
use Rattle.seen_facts.specs.Request.Knowns.{AreKnown}
use Rattle.seen_facts.proofs.Request.KnownRows.{finished_known}
use Rattle.seen_facts.proofs.Request.LookUps.{on_itself}
use Rattle.seen_facts.proofs.Fragment.Knowns.{IsUnmadeLoad, fragment_known, unmade_unheld}
use Rattle.seen_facts.proofs.Fragment.Makes.{after_fragment, fragment_flows}

-- ---- it is sent

module _ (s : Seen) (event : ℕ) (actor : Actor) (job : Job) (req : ReqId) (mode : Mode) (address : List ℕ) (task : job.task ≡ tasks.DoFragment req mode address) (sent : IsSentHome s job) where
  pub asks : IsAsk job.task
  asks = subst IsAsk (sym task) tt

  abbrev pub after_sent : Seen
  after_sent = asking.after_asking s event actor job asks sent

  pub sent_flows : Flows s → Flows after_sent
  sent_flows flows =
      asking.asking_flows s event actor job asks sent
      (rw task (held_on s.requests s.parked req (λ q. record q { fragment = Some job.doc }) (λ q. refl))) flows

-- ---- it is finished

module _ (s : Seen) (event : ℕ) (proc : ProcId) (order : Order) (req : ReqId) (mode : Mode) (address : List ℕ) (task : order.job.task ≡ tasks.DoFragment req mode address) (in_ : IsInHand s proc order) where
  pub of : IsOfOne order.job.task
  of = subst IsOfOne (sym task) tt

  abbrev pub after_finished : Seen
  after_finished = answered.after_answer s event proc order outcomes.Fragmented in_ tt of

  pub finished_flows : Flows s → Flows after_finished
  finished_flows flows =
      answered.answer_flows s event proc order outcomes.Fragmented in_ tt of
      (rw in_.hand (rw task (held_on s.requests s.parked req (λ q. record q { is_not_found = not (is_running s order.job.doc) }) (λ q. refl)))) flows

  -- where its document runs, that is just what tells of what it makes
  module _ (d : Document) (view : View) (found : document_of s order.job.doc ≡ Some d) (has : d.view ≡ Some view) (doc_is : view.doc ≡ order.job.doc) (runs : view.running ≡ true) where
    pub just_fragmented : IsJustFragmented after_finished event proc order.job req mode address d view
    just_fragmented =
        record {
          follows = rw (nat_eq_refl (event + 1), in_.hand) refl;
          just = rw in_.hand refl;
          task = task;
          front = (desk_of s proc).reports;
          last = ap (λ (desk : Desk). desk.reports) (desk_on_same (desk_finished outcomes.Fragmented) s.desks proc (λ desk. refl)) ∙ rw in_.hand refl;
          found = rw in_.hand (find_on_same (λ (x : Document). x.nr.0) (λ (x : Document). record x { view = view_finished x order.job.task }) order.job.doc.0 s.documents (λ x. refl) ∙ rw found (rw task refl));
          home = in_.home d found;
          has = has;
          of = doc_is;
          runs = runs;
        }

    -- the two rows
    pub event_flows : has_req s.parked req ≡ false → Flows s → Flows (after_fragment after_finished event proc order.job req mode address d view just_fragmented)
    event_flows none flows =
        fragment_flows after_finished event proc order.job req mode address d view just_fragmented none (finished_flows flows)

    -- and where it is of a load
    module _ (q : Asked) (nav : NavId) (to : Mode) (at : List ℕ) (load : IsUnmadeLoad s req q nav to at) (known : AreKnown s) where
      -- it is so once the order is finished
      load_then : IsUnmadeLoad after_finished req (record q { is_not_found = not (is_running s order.job.doc) }) nav to at
      load_then =
          record {
            asked = rw in_.hand (rw task (on_itself s.requests req missed ∙ ap (λ (o : Option Asked). option_map missed o) load.asked));
            what = load.what;
            unmade = load.unmade;
            unended = load.unended;
          }
        where
          missed : Asked → Asked
          missed x = record x { is_not_found = not (is_running s order.job.doc) }

      pub event_known : AreKnown (after_fragment after_finished event proc order.job req mode address d view just_fragmented)
      event_known =
          fragment_known after_finished event proc order.job req mode address d view just_fragmented (record q { is_not_found = not (is_running s order.job.doc) }) nav to at load_then (finished_known s event (actors.Proc proc) proc order.job.nr outcomes.Fragmented known)

      pub load_flows : Flows s → Flows (after_fragment after_finished event proc order.job req mode address d view just_fragmented)
      load_flows flows = event_flows (unmade_unheld s req q nav to at load known) flows

-- ---- its document didn't run, and the report of that is delivered

module _ (s : Seen) (event : ℕ) (proc : ProcId) (job : Job) (first : IsFirstReport (desk_of s proc) job outcomes.Fragmented) where
  abbrev pub after_untold : Seen
  after_untold = answered.after_report s event proc job outcomes.Fragmented first tt

  pub untold_flows : Flows s → Flows after_untold
  untold_flows flows =
      answered.report_flows s event proc job outcomes.Fragmented first tt
      (ap (λ (asked : List Asked). held_back asked after_untold.parked) requests_are ∙ ap (λ (parked : List ReqId). held_back s.requests parked) parked_are) flows
    where
      requests_are : after_untold.requests ≡ s.requests
      requests_are = ap (λ (o : Option Report). requests_delivered o s.requests) first

      parked_are : after_untold.parked ≡ s.parked
      parked_are =
          ap (λ (o : Option Report). option_map_or (λ (made : Made). if is_held_back s made then s.parked ++ made.req ∷ [] else s.parked) (option_and_then made_of_report o) s.parked) first
