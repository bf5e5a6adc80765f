-- When a document is made: read off the log as it would be had nobody been asked.
use Rattle.std.proofs.Common.{◌≡◌, ℕ, ◌+◌, Bool, true, false, cond, ◌&&◌, ◌||◌, ◌==◌, List, [], ◌∷◌, length, map, Option, Some, None, refl, sym, ap, ◌∙◌, subst}
use Rattle.std.specs.Prelude.{bytes_eq, filter, slice_get, option_map, option_and_then}
use Rattle.std.specs.List.{list_all, list_any}
use Rattle.std.proofs.lemmas.List.{length-map}
use Rattle.std.proofs.lemmas.Bool.{and_parts}
use Rattle.tab_ids.specs.declared.DocId.{DocId}
use Rattle.tab_ids.specs.declared.NavId.{NavId}
use Rattle.tab_ids.specs.declared.ProcId.{ProcId}
use Rattle.tab_ids.specs.declared.ReqId.{ReqId}
use Rattle.tab_ids.specs.declared.StateId.{StateId}
use Rattle.address.specs.Addresses.{base_of, origin_of, blank_text}
use Rattle.log_model.specs.History.{target_entry}
use Rattle.log_model.specs.Orders.{needs_document, ongoing_load}
use Rattle.log_model.specs.Places.{awake_document, has_passed, is_load, is_ongoing_load, is_shown, is_under_way}
use Rattle.log_model.specs.Seen.{Asked, Document, Place, Seen, document_of, place_of, request_of}
use Rattle.log_model.specs.Suits.{first_process, is_home, process_of_origin, process_of_parent}
use Rattle.log_model.specs.declared.header.Header.{Header}
use Rattle.log_model.specs.declared.job.Job.{Job}
use Rattle.log_model.specs.Equal.{holds}
use Rattle.row_facts.specs.FrameRows.Making.{IsMakeDue}
use Rattle.row_facts.specs.LoadRows.LoadMaking.{IsMakeOfLoadDue, is_ongoing_of}
use Rattle.seen_laws.specs.Sending.{is_passed}
use Rattle.seen_laws.specs.Unasked.{unasked, unasked_request, unhandled, without_asks}
use Rattle.unasked.proofs.Readings.{checked_off, document_read}
use Rattle.unasked_dues.proofs.Base.{aim_same, at_index, find_at, item_found, ongoing_same}
use Rattle.unasked_dues.specs.Checking.{AreNumbered, IsAimed, NoneChecksFor}

-- ---- documents under a map that keeps what is tested

-- those that pass one test all pass another
pub all_filter_same : (u : Document → Document) (p q : Document → Bool) (ds : List Document) → ((d : Document) → p (u d) ≡ p d) → ((d : Document) → q (u d) ≡ q d) → list_all p (filter q (map u ds)) ≡ list_all p (filter q ds)
all_filter_same u p q [] ps qs = refl
all_filter_same u p q (d ∷ ds) ps qs =
    by_test (q (u d)) (q d) (qs d) (all_filter_same u p q ds ps qs)
  where
    by_test : (b c : Bool) → b ≡ c → list_all p (filter q (map u ds)) ≡ list_all p (filter q ds) → list_all p (cond b (u d ∷ filter q (map u ds)) (filter q (map u ds))) ≡ list_all p (cond c (d ∷ filter q ds) (filter q ds))
    by_test true true e more = λ i. ps d i && more i
    by_test true false e more = absurd cc
    by_test false true e more = absurd cc
    by_test false false e more = more

-- each of them passes
pub every_same : (u : Document → Document) (p : Document → Bool) (ds : List Document) → ((d : Document) → p (u d) ≡ p d) → list_all p (map u ds) ≡ list_all p ds
every_same u p [] ps = refl
every_same u p (d ∷ ds) ps = λ i. ps d i && every_same u p ds ps i

-- one of them passes
pub any_same : (u : Document → Document) (p : Document → Bool) (ds : List Document) → ((d : Document) → p (u d) ≡ p d) → list_any p (map u ds) ≡ list_any p ds
any_same u p [] ps = refl
any_same u p (d ∷ ds) ps = λ i. ps d i || any_same u p ds ps i

module _ (checking : ReqId → Bool) (s : Seen) where
  -- the navigable's state needs a document
  pub needs_same : (nav : NavId) (state : StateId) → needs_document (unasked checking s) nav state ≡ needs_document s nav state
  needs_same nav state = all_filter_same unhandled _ _ s.documents (λ d. refl) (λ d. refl)

  -- the process of the document on which a navigable is awake
  place_proc_same : (o : Option DocId) → option_map (λ (d : Document). d.proc) (option_and_then (document_of (unasked checking s)) o) ≡ option_map (λ (d : Document). d.proc) (option_and_then (document_of s) o)
  place_proc_same None = refl
  place_proc_same (Some doc) =
      ap (λ (o : Option Document). option_map (λ (d : Document). d.proc) o) (document_read checking s doc) ∙ by_found (document_of s doc)
    where
      by_found : (o : Option Document) → option_map (λ (d : Document). d.proc) (option_map unhandled o) ≡ option_map (λ (d : Document). d.proc) o
      by_found None = refl
      by_found (Some d) = refl

  -- the process of the parent's document
  parent_same : (nav : NavId) → process_of_parent (unasked checking s) nav ≡ process_of_parent s nav
  parent_same nav =
      λ i. option_and_then (λ (place : Place). option_and_then (λ parent. option_and_then (λ (p : Place). place_proc_same (awake_document p) i) (place_of s parent)) (slice_get place.above 0)) (place_of s nav)

  -- the process is the document's
  pub home_same : (header : Header) (nav : NavId) (address : List ℕ) (proc : ProcId) → is_home header (unasked checking s) nav address proc ≡ is_home header s nav address proc
  home_same header nav address proc =
      λ i. holds (λ (home : ProcId). home.0 == proc.0) (cond (bytes_eq (base_of address) blank_text) (cond (nav.0 == 0) (Some first_process) (parent_same nav i)) (Some (process_of_origin header (origin_of address))))

  -- the next document has the same number
  pub documents_same : length (unasked checking s).documents ≡ length s.documents
  documents_same = length-map s.documents unhandled

  -- a document of a target is to be made, where what it is for has passed
  pub make_due : IsAimed checking s → (header : Header) (job : Job) (nav : NavId) (state : StateId) (address : List ℕ) (initial : Bool) → is_passed s job.task job.why ≡ true → IsMakeDue header (unasked checking s) job nav state address initial → IsMakeDue header s job nav state address initial
  make_due aimed header job nav state address initial passed due =
      record {
        task = due.task;
        next = due.next ∙ ap (λ n. n + 1) documents_same;
        target = due.target;
        at = subst (λ step. target_entry s.history.rows nav step ≡ Some due.target) (aim_same checking s aimed) due.at;
        state_is = due.state_is;
        address_is = due.address_is;
        shown = subst (λ step. is_shown s.history.rows step nav ≡ true) (aim_same checking s aimed) due.shown;
        initial_is = due.initial_is;
        needs = sym (needs_same nav state) ∙ due.needs;
        home = sym (home_same header nav address job.proc) ∙ due.home;
        passed = passed;
      }

  -- ---- the document of a load

  -- the ongoing load with a document state isn't in its check, and has passed
  pub ongoing_in : IsAimed checking s → (state : StateId) → NoneChecksFor checking s state → (run : Asked) → ongoing_load (unasked checking s) state ≡ Some run → (q : Asked) × (ongoing_load s state ≡ Some q) × (run ≡ without_asks q) × (has_passed s q ≡ true)
  ongoing_in aimed state none run found =
      by_found (ongoing_load s state) refl (sym (ongoing_same checking s aimed.numbered state none) ∙ found)
    where
      by_check : (q : Asked) (k : ℕ) → slice_get s.requests k ≡ Some q → is_ongoing_of state q ≡ true → (b : Bool) → checking (at_index k) ≡ b → ongoing_load s state ≡ Some q → run ≡ unasked_request checking q → (q : Asked) × (ongoing_load s state ≡ Some q) × (run ≡ without_asks q) × (has_passed s q ≡ true)
      by_check q k at is true on load same =
          let never : true ≡ false = sym is ∙ none (at_index k) q (item_found s k ∙ at) on in absurd cc
      by_check q k at is false off load same =
          let there : request_of s (at_index k) ≡ Some q = item_found s k ∙ at in
          let both = and_parts (is_ongoing_load q) (holds (λ (own : StateId). own.0 == state.0) q.state) is in
          let way = and_parts (is_under_way q) (is_load q.what) both.0 in
          (q, load, same ∙ checked_off checking q (ap checking (aimed.numbered (at_index k) q there) ∙ off), aimed.others (at_index k) q there way.0 off)

      by_found : (o : Option Asked) → ongoing_load s state ≡ o → option_map (unasked_request checking) o ≡ Some run → (q : Asked) × (ongoing_load s state ≡ Some q) × (run ≡ without_asks q) × (has_passed s q ≡ true)
      by_found None e f = absurd cc
      by_found (Some q) e f =
          let at = find_at (is_ongoing_of state) s.requests q e in
          by_check q at.0 at.1 at.2 (checking (at_index at.0)) refl e (let same : run ≡ unasked_request checking q = cc in same)

  -- where none is ongoing as it would be, none is
  pub unloaded : AreNumbered s → (state : StateId) → NoneChecksFor checking s state → ongoing_load (unasked checking s) state ≡ None → ongoing_load s state ≡ None
  unloaded numbered state none is = by_found (ongoing_load s state) refl (sym (ongoing_same checking s numbered state none) ∙ is)
    where
      by_found : (o : Option Asked) → ongoing_load s state ≡ o → option_map (unasked_request checking) o ≡ None → ongoing_load s state ≡ None
      by_found None e f = e
      by_found (Some q) e f = absurd cc

  -- the document of a load is to be made, where what it is for has passed
  pub make_of_load_due : IsAimed checking s → (header : Header) (job : Job) (nav : NavId) (state : StateId) (address : List ℕ) → NoneChecksFor checking s state → is_passed s job.task job.why ≡ true → IsMakeOfLoadDue header (unasked checking s) job nav state address → IsMakeOfLoadDue header s job nav state address
  make_of_load_due aimed header job nav state address none passed due =
      let load = ongoing_in aimed state none due.q due.loads in
      record {
        task = due.task;
        next = due.next ∙ ap (λ n. n + 1) documents_same;
        q = load.0;
        loads = load.1;
        mode = due.mode;
        what = ap (λ (x : Asked). x.what) (sym load.2) ∙ due.what;
        checked = load.3;
        needs = sym (needs_same nav state) ∙ due.needs;
        home = sym (home_same header nav address job.proc) ∙ due.home;
        passed = passed;
      }
