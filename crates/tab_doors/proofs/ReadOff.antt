-- What the doors ask of a log that is read off the log as it would be had nobody been asked: which order is next, that a document is there, that one is to be shown, and that a traversal begins.
use Rattle.std.proofs.Common.{◌≡◌, ℕ, Bool, true, false, ◌||◌, List, [], Option, Some, None, refl, sym, ap, ◌∙◌, subst}
use Rattle.std.specs.Prelude.{option_map}
use Rattle.std.specs.Option.{option_map_or}
use Rattle.tab_ids.specs.declared.DocId.{DocId}
use Rattle.tab_ids.specs.declared.EntryId.{EntryId}
use Rattle.tab_ids.specs.declared.Epoch.{Epoch}
use Rattle.tab_ids.specs.declared.NavId.{NavId}
use Rattle.tab_ids.specs.declared.ReqId.{ReqId}
use Rattle.log_model.specs.AfterPlaces.{sleepers_below}
use Rattle.log_model.specs.Orders.{due_questions}
use Rattle.log_model.specs.Places.{is_ongoing_load}
use Rattle.log_model.specs.Seen.{Asked, Document, Seen, desk_of, document_of, place_of, request_of}
use Rattle.log_model.specs.declared.job.Job.{Job}
use Rattle.log_model.specs.declared.job.Task.{Task}
use Rattle.log_model.specs.declared.job.Why.{Why}
use Rattle.nav_tree.specs.Tree.{Tree}
use Rattle.seen_facts.specs.Each.Runs.{is_run}
use Rattle.seen_laws.specs.Sending.{IsTo, is_passed}
use Rattle.tab_doors.specs.Orders.{IsForRunning, IsThere, MayShow, order_to, proc_at}
use Rattle.seen_laws.specs.Unasked.{unasked, unasked_request, unhandled, without_asks}
use Rattle.unasked.proofs.Readings.{checked_off, document_read, found_from, request_read}
use Rattle.unasked_dues.proofs.Base.{document_from, turn_same}
use Rattle.unasked_dues.specs.Checking.{AreNumbered, IsAimed, IsForOther, NoStepChecks}
use Rattle.log_model.specs.Once.{delta_of}
use Rattle.tab_ids.specs.declared.Step.{Step}
use Rattle.tab_doors.specs.Dues.{IsBeginDue}
use Rattle.tab_doors.specs.Keeping.{IsNoLoad}
use Rattle.unasked_dues.proofs.Shows.{known_same, show_due, to_read}

module _ (checking : ReqId → Bool) (s : Seen) where
  -- the process of a document
  pub proc_same : (doc : DocId) → proc_at (unasked checking s) doc ≡ proc_at s doc
  proc_same doc =
      ap (λ (o : Option Document). option_map_or (λ (d : Document). d.proc) o (record { 0 = 0 })) (document_read checking s doc)
      ∙ by_found (document_of s doc)
    where
      by_found : (o : Option Document) → option_map_or (λ (d : Document). d.proc) (option_map unhandled o) (record { 0 = 0 }) ≡ option_map_or (λ (d : Document). d.proc) o (record { 0 = 0 })
      by_found None = refl
      by_found (Some d) = refl

  -- the order that is sent next to a document
  pub order_same : (doc : DocId) (why : Why) (task : Task) → order_to (unasked checking s) doc why task ≡ order_to s doc why task
  order_same doc why task = λ i. record (order_to s doc why task) { proc = proc_same doc i }

  -- the document is there
  pub there : (doc : DocId) → IsThere (unasked checking s) doc → IsThere s doc
  there doc is =
      let from = document_from checking s doc is.document is.found in
      record {
        document = from.0;
        found = from.1;
        alive = ap (λ (d : Document). d.is_discarded || d.is_known_dead) (sym from.2) ∙ is.alive;
        known = sym (known_same checking s from.0.proc) ∙ ap (λ (d : Document). (desk_of (unasked checking s) d.proc).known) (sym from.2) ∙ is.known;
      }

  -- the order is for the traversal that runs, or for none
  pub for_running : AreNumbered s → (run : Option ReqId) (why : Why) → IsForOther checking why → IsForRunning (unasked checking s) run why → IsForRunning s run why
  for_running numbered None why other forr =
      λ req is q found. ap is_run (sym (checked_off checking q (ap checking (numbered req q found) ∙ other req is))) ∙ forr req is (unasked_request checking q) (request_read checking s req ∙ ap (λ o. option_map (unasked_request checking) o) found)
  for_running numbered (Some run) why other forr = forr

  -- and may be, where what it is for has passed
  pub may_show : IsAimed checking s → (tree : Tree) (nav : NavId) (job : Job) (entry : EntryId) (epoch : Epoch) (pair : ℕ × ℕ) (memo : Option (List ℕ)) (address : List ℕ) → is_passed s job.task job.why ≡ true → MayShow (unasked checking s) tree nav job entry epoch pair memo address → MayShow s tree nav job entry epoch pair memo address
  unfolding show_due
  may_show aimed tree nav job entry epoch pair memo address passed may =
      let from = document_from checking s job.doc may.document may.goes.found in
      let nav_is : may.document.nav ≡ from.0.nav = ap (λ (x : Document). x.nav) from.2 in
      record {
        document = from.0;
        goes = to_read checking s job from.0 from.1 (subst (λ d. IsTo (unasked checking s) job d) from.2 may.goes);
        nav_is = sym nav_is ∙ may.nav_is;
        known = may.known ∙ known_same checking s job.proc;
        due = show_due checking s aimed job from.0 may.document entry epoch pair memo address from.2 may.due;
        passed = passed;
        nobody = ap (λ n. option_map_or (sleepers_below s job.doc) (place_of s n) []) (sym nav_is) ∙ may.nobody;
        unreloaded = may.unreloaded;
        node = may.node;
        there = may.there;
        next = may.next;
      }

  -- ---- a traversal begins

  -- it begins, where it isn't in its check and nobody is to be asked
  pub begin_due : AreNumbered s → NoStepChecks checking s → (req : ReqId) (goal : Step) → checking req ≡ false → ((q : Asked) → request_of s req ≡ Some q → due_questions s q.what (Some goal) ≡ []) → IsBeginDue (unasked checking s) req goal → IsBeginDue s req goal
  begin_due numbered none req goal off unasked_ due =
      let from = found_from checking s req due.asked due.at in
      let is : due.asked ≡ without_asks from.0 = from.2 ∙ checked_off checking from.0 (ap checking (numbered req from.0 from.1) ∙ off) in
      record {
        asked = from.0;
        delta = due.delta;
        at = from.1;
        asks = ap (λ (x : Asked). delta_of x.what) (sym is) ∙ due.asks;
        unstarted = ap (λ (x : Asked). x.is_started) (sym is) ∙ due.unstarted;
        open_ = ap (λ (x : Asked). x.ending) (sym is) ∙ due.open_;
        there = due.there;
        turn = sym (turn_same checking s numbered none req) ∙ due.turn;
        unasked = unasked_ from.0 from.1;
        unmoved = ap (λ (x : Asked). x.moved) (sym is) ∙ due.unmoved;
      }

  -- the request is no ongoing load, where it isn't in its check
  pub no_load : AreNumbered s → (req : ReqId) → checking req ≡ false → IsNoLoad (unasked checking s) req → IsNoLoad s req
  no_load numbered req off none q found =
      ap is_ongoing_load (sym (checked_off checking q (ap checking (numbered req q found) ∙ off)))
      ∙ none (unasked_request checking q) (request_read checking s req ∙ ap (λ o. option_map (unasked_request checking) o) found)
