-- When a navigable is shown a document, or one is told something: read off the log as it would be had nobody been asked.
use Rattle.log_model.specs.declared.job.Task.TheVariants as tasks
use Rattle.log_model.specs.declared.job.Why.TheVariants as whys
use Rattle.std.proofs.Common.{◌≡◌, ℕ, Bool, true, false, List, Option, Some, None, refl, sym, ap, ◌∙◌}
use Rattle.std.specs.Prelude.{option_and_then, option_map}
use Rattle.std.specs.Option.{option_map_or}
use Rattle.tab_ids.specs.declared.DocId.{DocId}
use Rattle.tab_ids.specs.declared.EntryId.{EntryId}
use Rattle.tab_ids.specs.declared.Epoch.{Epoch}
use Rattle.tab_ids.specs.declared.ProcId.{ProcId}
use Rattle.tab_ids.specs.declared.ReqId.{ReqId}
use Rattle.log_model.specs.ActsAtOnce.{is_for_passed}
use Rattle.log_model.specs.Checks.{is_checked, may_go_on}
use Rattle.log_model.specs.Equal.{holds, implies, same_pair}
use Rattle.log_model.specs.History.{target_entry}
use Rattle.log_model.specs.Orders.{is_for, is_usable}
use Rattle.log_model.specs.Places.{awake_document, has_passed, is_shown, is_under_way, pair_at, passed_traversal, told_pair}
use Rattle.log_model.specs.Seen.{Asked, Document, Place, Seen, desk_of, document_of, place_of, request_of}
use Rattle.log_model.specs.declared.job.Job.{Job}
use Rattle.log_model.specs.declared.job.Task.{Task}
use Rattle.log_model.specs.declared.job.Why.{Why}
use Rattle.seen_laws.specs.Sending.{IsNumbered, IsShowDue, IsTo, IsUpdateDue, is_passed}
use Rattle.seen_laws.specs.Unasked.{unasked, unasked_request, unhandled, without_asks}
use Rattle.unasked.proofs.Readings.{desk_read, document_read, request_read}
use Rattle.unasked_dues.proofs.Base.{aim_same, due_same, passed_same, runs_in}
use Rattle.unasked_dues.specs.Checking.{AllOthersPass, IsAimed, IsForOther, IsMoving}

module _ (checking : ReqId → Bool) (s : Seen) where
  -- ---- what an order is to be

  -- the incarnation that is known
  pub known_same : (proc : ProcId) → (desk_of (unasked checking s) proc).known ≡ (desk_of s proc).known
  known_same proc = ap (λ desk. desk.known) (desk_read checking s proc)

  -- an order is numbered
  pub numbered_in : (job : Job) → IsNumbered (unasked checking s) job → IsNumbered s job
  numbered_in job is = record { number = is.number; incarnation = is.incarnation ∙ known_same job.proc }

  -- the order goes to it
  pub to_read : (job : Job) (d : Document) → document_of s job.doc ≡ Some d → IsTo (unasked checking s) job (unhandled d) → IsTo s job d
  to_read job d found to = record { found = found; proc = to.proc; alive = to.alive }

  -- the order is for the traversal that has passed, if there is one
  pub for_passed_same : IsAimed checking s → (job : Job) → is_for_passed (unasked checking s) job ≡ is_for_passed s job
  for_passed_same aimed job =
      ap (λ (o : Option Asked). option_map_or (λ (q : Asked). is_for q.nr job) o true) (passed_same checking s aimed)
      ∙ by_run (passed_traversal s)
    where
      by_run : (o : Option Asked) → option_map_or (λ (q : Asked). is_for q.nr job) (option_map without_asks o) true ≡ option_map_or (λ (q : Asked). is_for q.nr job) o true
      by_run None = refl
      by_run (Some q) = refl

  -- what is for a request that is under way, as it would be, goes on
  pub goes_on : IsAimed checking s → (req : ReqId) (run : Asked) → request_of (unasked checking s) req ≡ Some run → is_under_way run ≡ true → may_go_on s req ≡ true
  goes_on aimed req run found is =
      let from = runs_in checking s aimed req run found is in
      rw from.at (rw from.passed (always (is_checked from.asked)))
    where
      always : (b : Bool) → implies b true ≡ true
      always true = refl
      always false = refl

  -- what isn't in its check has passed in the log, if it is there
  pub passed_off : AllOthersPass checking s → (task : Task) (why : Why) → IsForOther checking why → is_passed (unasked checking s) task why ≡ true → is_passed s task why ≡ true
  passed_off others task why other is = by_task task why other is
    where
      goes : (b : Bool) → implies b true ≡ true
      goes true = refl
      goes false = refl

      by_found : (req : ReqId) → checking req ≡ false → (o : Option Asked) → request_of s req ≡ o → holds (λ (q : Asked). implies (is_checked q) (has_passed (unasked checking s) q)) (option_map (unasked_request checking) o) ≡ true → may_go_on s req ≡ true
      by_found req off None at never = absurd cc
      by_found req off (Some q) at goes_on_ =
          ap (λ (o : Option Asked). holds (λ (x : Asked). implies (is_checked x) (has_passed s x)) o) at
          ∙ ap (λ (b : Bool). implies (is_checked q) b) (others req q at off)
          ∙ goes (is_checked q)

      by_req : (req : ReqId) → checking req ≡ false → may_go_on (unasked checking s) req ≡ true → may_go_on s req ≡ true
      by_req req off is_ = by_found req off (request_of s req) refl (ap (λ (o : Option Asked). holds (λ (q : Asked). implies (is_checked q) (has_passed (unasked checking s) q)) o) (sym (request_read checking s req)) ∙ is_)

      by_task : (task : Task) (why : Why) → IsForOther checking why → is_passed (unasked checking s) task why ≡ true → is_passed s task why ≡ true
      by_task (tasks.Update length index) why other_ is_ = refl
      by_task (tasks.Populate nav state address initial) (whys.Req req) other_ is_ = by_req req (other_ req refl) is_
      by_task (tasks.Activate entry epoch length index memo address) (whys.Req req) other_ is_ = by_req req (other_ req refl) is_
      by_task tasks.Freeze (whys.Req req) other_ is_ = by_req req (other_ req refl) is_
      by_task tasks.Discard (whys.Req req) other_ is_ = by_req req (other_ req refl) is_
      by_task (tasks.DoFragment r mode address) (whys.Req req) other_ is_ = by_req req (other_ req refl) is_
      by_task (tasks.Ask slot cause) (whys.Req req) other_ is_ = by_req req (other_ req refl) is_
      by_task (tasks.Populate nav state address initial) whys.Start other_ is_ = refl
      by_task (tasks.Populate nav state address initial) whys.Evict other_ is_ = refl
      by_task (tasks.Populate nav state address initial) (whys.Death death) other_ is_ = refl
      by_task (tasks.Activate entry epoch length index memo address) whys.Start other_ is_ = refl
      by_task (tasks.Activate entry epoch length index memo address) whys.Evict other_ is_ = refl
      by_task (tasks.Activate entry epoch length index memo address) (whys.Death death) other_ is_ = refl
      by_task tasks.Freeze whys.Start other_ is_ = refl
      by_task tasks.Freeze whys.Evict other_ is_ = refl
      by_task tasks.Freeze (whys.Death death) other_ is_ = refl
      by_task tasks.Discard whys.Start other_ is_ = refl
      by_task tasks.Discard whys.Evict other_ is_ = refl
      by_task tasks.Discard (whys.Death death) other_ is_ = refl
      by_task (tasks.DoFragment r mode address) whys.Start other_ is_ = refl
      by_task (tasks.DoFragment r mode address) whys.Evict other_ is_ = refl
      by_task (tasks.DoFragment r mode address) (whys.Death death) other_ is_ = refl
      by_task (tasks.Ask slot cause) whys.Start other_ is_ = refl
      by_task (tasks.Ask slot cause) whys.Evict other_ is_ = refl
      by_task (tasks.Ask slot cause) (whys.Death death) other_ is_ = refl

  -- ---- length and index

  -- what a navigable was told
  pub told_same : (place : Place) → told_pair (unasked checking s) place ≡ told_pair s place
  told_same place = by_document (awake_document place)
    where
      by_found : (o : Option Document) → option_and_then (λ (d : Document). d.told) (option_map unhandled o) ≡ option_and_then (λ (d : Document). d.told) o
      by_found None = refl
      by_found (Some d) = refl

      by_document : (o : Option DocId) → option_and_then (λ doc. option_and_then (λ (d : Document). d.told) (document_of (unasked checking s) doc)) o ≡ option_and_then (λ doc. option_and_then (λ (d : Document). d.told) (document_of s doc)) o
      by_document None = refl
      by_document (Some doc) =
          ap (λ (o : Option Document). option_and_then (λ (d : Document). d.told) o) (document_read checking s doc)
          ∙ by_found (document_of s doc)

  -- a document is to be told length and index
  pub update_due : IsMoving checking s → (job : Job) (pair : ℕ × ℕ) → IsUpdateDue (unasked checking s) job pair → IsUpdateDue s job pair
  update_due moving job pair due =
      record {
        place = due.place;
        shows = due.shows;
        untold = ap (λ (o : Option (ℕ × ℕ)). holds (same_pair pair) o) (sym (told_same due.place)) ∙ due.untold;
        due = due.due ∙ due_same checking s moving due.place.nav;
      }

  -- ---- a document that is shown

  -- a navigable is to be shown a document
  unfoldable pub show_due : IsAimed checking s → (job : Job) (d bare : Document) (entry : EntryId) (epoch : Epoch) (pair : ℕ × ℕ) (memo : Option (List ℕ)) (address : List ℕ) → bare ≡ unhandled d → IsShowDue (unasked checking s) job bare entry epoch pair memo address → IsShowDue s job d entry epoch pair memo address
  show_due aimed job d bare entry epoch pair memo address is due =
      let nav_is : bare.nav ≡ d.nav = ap (λ (x : Document). x.nav) is in
      record {
        place = due.place;
        placed = ap (λ nav. place_of s nav) (sym nav_is) ∙ due.placed;
        needs = due.needs;
        greater = due.greater;
        target = due.target;
        at = (λ i. target_entry s.history.rows (sym nav_is i) (sym (aim_same checking s aimed) i)) ∙ due.at;
        entry_is = due.entry_is;
        memo_is = due.memo_is;
        address_is = due.address_is;
        usable = ap (λ (x : Document). is_usable x due.target.state) (sym is) ∙ due.usable;
        pair_is = due.pair_is ∙ ap (λ step. pair_at s step) (aim_same checking s aimed);
        shown = (λ i. is_shown s.history.rows (sym (aim_same checking s aimed) i) (sym nav_is i)) ∙ due.shown;
        for_passed = sym (for_passed_same aimed job) ∙ due.for_passed;
      }
