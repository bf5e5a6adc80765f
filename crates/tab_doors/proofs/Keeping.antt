-- What the tables of ongoing loads and of kept documents tell over a row.
use Rattle.std.proofs.Common.{◌≡◌, ℕ, zero, suc, Bool, true, false, cond, not, ◌&&◌, ◌==◌, ◌-◌, List, [], ◌∷◌, map, Option, Some, None, refl, sym, ap, ◌∙◌, subst, eqb-true, inl, inr}
use Rattle.std.specs.Prelude.{filter_map, find, is_none, option_map, slice_get}
use Rattle.tab_ids.specs.declared.DocId.{DocId}
use Rattle.tab_ids.specs.declared.NavId.{NavId}
use Rattle.tab_ids.specs.declared.ReqId.{ReqId}
use Rattle.tab_ids.specs.declared.StateId.{StateId}
use Rattle.log_model.specs.declared.job.Job.{Job}
use Rattle.log_model.specs.declared.job.Task.{Task}
use Rattle.log_model.specs.declared.job.Task.TheVariants as tasks
use Rattle.log_model.specs.declared.request.Request.{Request}
use Rattle.log_model.specs.declared.request.Request.TheVariants as requests
use Rattle.log_model.specs.declared.row_kind.Actor.{Actor}
use Rattle.log_model.specs.declared.row_kind.RowKind.TheVariants as rows
use Rattle.log_model.specs.After.{after}
use Rattle.log_model.specs.AfterDocuments.{documents_sent, on_document}
use Rattle.log_model.specs.AfterPlaces.{without_doc}
use Rattle.log_model.specs.Equal.{holds}
use Rattle.log_model.specs.Orders.{ongoing_load as load_in_log}
use Rattle.log_model.specs.Places.{is_load, is_ongoing_load, is_traversal}
use Rattle.log_model.specs.Seen.{Asked, Document, Seen, request_of}
use Rattle.log_model.proofs.Refl.{nat_eq_refl}
use Rattle.seen_facts.proofs.Hang.Members.{has_filter}
use Rattle.seen_facts.specs.Hang.Members.{Has}
use Rattle.seen_facts.specs.Home.Homes.{document_in}
use Rattle.seen_facts.proofs.Request.Readers.{SameReads, sent_reads}
use Rattle.seen_laws.proofs.Keyed.{find_map}
use Rattle.load_table.specs.declared.load.Load.{Load}
use Rattle.load_table.specs.Loads.{ongoing_load}
use Rattle.seen_facts.specs.LoadTies.Tying.{IsLoadTied, TiesLoads, is_for_state, made_for, phase_with}
use Rattle.seen_facts.proofs.LoadTies.Leaves.{has_again, tied_again, traced, traced_blind}
use Rattle.seen_facts.proofs.Kept.States.{AreOfOwnStates, states_left, states_without}
use Rattle.seen_facts.specs.Kept.Keeping.{state_in}
use Rattle.page_cache.specs.Kept.{left_first, without}
use Rattle.tab_doors.specs.Keeping.{IsNoLoad, LeavesOne, kept_once_shown}

-- ---- kept documents

-- documents whose states are as they were
pub states_same : (old new : List Document) (docs : List DocId) → ((doc : DocId) → state_in new doc ≡ state_in old doc) → filter_map (state_in new) docs ≡ filter_map (state_in old) docs
states_same old new [] same = refl
states_same old new (doc ∷ docs) same = by_found (state_in old doc) refl (states_same old new docs same)
  where
    by_found : (o : Option StateId) → state_in old doc ≡ o → filter_map (state_in new) docs ≡ filter_map (state_in old) docs → filter_map (state_in new) (doc ∷ docs) ≡ filter_map (state_in old) (doc ∷ docs)
    by_found None at more = let then_ : state_in new doc ≡ None = same doc ∙ at in rw (then_, at) more
    by_found (Some x) at more = let then_ : state_in new doc ≡ Some x = same doc ∙ at in rw (then_, at) (ap (λ (l : List StateId). x ∷ l) more)

-- each document changes but for its number and its state
pub states_mapped : (g : Document → Document) (documents : List Document) (docs : List DocId) → ((d : Document) → (g d).nr ≡ d.nr) → ((d : Document) → (g d).state ≡ d.state) → filter_map (state_in (map g documents)) docs ≡ filter_map (state_in documents) docs
states_mapped g documents docs nr state =
    states_same documents (map g documents) docs (λ doc. ap (λ (o : Option Document). option_map (λ (d : Document). d.state) o) (find_map (λ (d : Document). d.nr.0) g doc.0 documents (λ d. ap (λ (n : DocId). n.0) (nr d))) ∙ by_found (document_in documents doc))
  where
    by_found : (o : Option Document) → option_map (λ (d : Document). d.state) (option_map g o) ≡ option_map (λ (d : Document). d.state) o
    by_found None = refl
    by_found (Some d) = ap (λ (x : StateId). Some x) (state d)

-- one document does
pub states_on : (doc : DocId) (f : Document → Document) (documents : List Document) (docs : List DocId) → ((d : Document) → (f d).nr ≡ d.nr) → ((d : Document) → (f d).state ≡ d.state) → filter_map (state_in (on_document doc f documents)) docs ≡ filter_map (state_in documents) docs
states_on doc f documents docs nr state =
    states_mapped (λ (d : Document). cond (d.nr.0 == doc.0) (f d) d) documents docs
    (λ d. elim (d.nr.0 == doc.0) as (λ b. (let x : Document = cond b (f d) d in x).nr ≡ d.nr) [ true ↦ nr d | false ↦ refl ])
    (λ d. elim (d.nr.0 == doc.0) as (λ b. (let x : Document = cond b (f d) d in x).state ≡ d.state) [ true ↦ state d | false ↦ refl ])

-- two documents less, in either order
pub without_both : (a b : DocId) (docs : List DocId) → without_doc a (without_doc b docs) ≡ without_doc b (without_doc a docs)
without_both a b [] = refl
without_both a b (doc ∷ docs) = by_tests (doc.0 == a.0) refl (doc.0 == b.0) refl (without_both a b docs)
  where
    by_tests : (p : Bool) → (doc.0 == a.0) ≡ p → (q : Bool) → (doc.0 == b.0) ≡ q → without_doc a (without_doc b docs) ≡ without_doc b (without_doc a docs) → without_doc a (without_doc b (doc ∷ docs)) ≡ without_doc b (without_doc a (doc ∷ docs))
    by_tests true is true at more = rw at (rw is more)
    by_tests true is false at more = rw at (rw is more)
    by_tests false is true at more = rw at (rw is (rw at more))
    by_tests false is false at more = rw at (rw is (rw at (ap (λ (l : List DocId). doc ∷ l) more)))

-- of fewer documents each is still of its own state
fewer_own : (documents : List Document) (docs : List DocId) (gone : DocId) (doc : DocId) (state : StateId) → AreOfOwnStates documents docs doc state → AreOfOwnStates documents (without_doc gone docs) doc state
fewer_own documents docs gone doc state are =
    record {
      own = are.own;
      others = λ other s has. are.others other s (has_filter (λ (d : DocId). not (d.0 == gone.0)) docs other has).0;
      there = λ other has. are.there other (has_filter (λ (d : DocId). not (d.0 == gone.0)) docs other has).0;
    }

-- the states of the kept documents once one is shown that leaves another
pub states_shown : (s : Seen) (doc : DocId) (state left : StateId) → AreOfOwnStates s.documents s.kept doc state → LeavesOne s doc left → left_first left (without state (filter_map (state_in s.documents) s.kept)) ≡ filter_map (state_in s.documents) (kept_once_shown s doc)
states_shown s doc state left own leaves =
    ap (λ (l : List StateId). left_first left l) (sym (states_without s.documents s.kept doc state own))
    ∙ sym (states_left s.documents (without_doc doc s.kept) leaves.left left (fewer_own s.documents s.kept doc leaves.left left leaves.own))
    ∙ ap (λ (l : List DocId). filter_map (state_in s.documents) l) (sym (leaves.is ∙ front ∙ ap (λ (l : List DocId). leaves.left ∷ l) (without_both doc leaves.left s.kept)))
  where
    front : without_doc doc (leaves.left ∷ without_doc leaves.left s.kept) ≡ leaves.left ∷ without_doc doc (without_doc leaves.left s.kept)
    front = rw leaves.apart refl

-- ---- requests that are no ongoing load

both_false : (a : Bool) {b : Bool} → b ≡ false → (a && b) ≡ false
both_false true is = is
both_false false is = refl

pub no_load_at : (s : Seen) (req : ReqId) (asked : Asked) → request_of s req ≡ Some asked → is_load asked.what ≡ false → IsNoLoad s req
no_load_at s req asked at none q found =
    let both : Some asked ≡ Some q = sym at ∙ found in
    let one : asked ≡ q = cc in
    subst (λ (x : Asked). is_ongoing_load x ≡ false) one (both_false (asked.is_started && is_none asked.ending) none)

-- one that hasn't begun is none
pub unstarted_no_load : (s : Seen) (req : ReqId) (asked : Asked) → request_of s req ≡ Some asked → asked.is_started ≡ false → IsNoLoad s req
unstarted_no_load s req asked at un q found =
    let both : Some asked ≡ Some q = sym at ∙ found in
    let one : asked ≡ q = cc in
    subst (λ (x : Asked). is_ongoing_load x ≡ false) one (rw un refl)

-- a traversal is none
pub traversal_no_load : (what : Request) → is_traversal what ≡ true → is_load what ≡ false
traversal_no_load (requests.Go delta) is = refl
traversal_no_load (requests.Poke nav action) is = refl
traversal_no_load (requests.Load nav mode address) is = cc
traversal_no_load (requests.Reload nav) is = refl

-- ---- the document states of ongoing loads

none_asked : (test : Asked → Bool) (asked : List Asked) (n : ℕ) (q : Asked) → slice_get asked n ≡ Some q → find test asked ≡ None → test q ≡ false
none_asked test [] n q at none = cc
none_asked test (first ∷ asked) zero q at none =
    let same : first ≡ q = cc in
    subst (λ (x : Asked). test x ≡ false) same (by_test (test first) none)
  where
    by_test : (b : Bool) → cond b (Some first) (find test asked) ≡ None → b ≡ false
    by_test true is = cc
    by_test false is = refl
none_asked test (first ∷ asked) (suc n) q at none = by_test (test first) none (none_asked test asked n q at)
  where
    by_test : (b : Bool) → cond b (Some first) (find test asked) ≡ None → (find test asked ≡ None → test q ≡ false) → test q ≡ false
    by_test true is more = cc
    by_test false is more = more is

-- no load of the table has the state that no ongoing load of the log has
pub unloaded_apart : (s : Seen) (table : List Load) → TiesLoads s table → (state : StateId) → load_in_log s state ≡ None → (nav : NavId) (load : Load) → ongoing_load nav table ≡ Some load → (state.0 == load.state.0) ≡ false
unloaded_apart s table ties state none nav load at = by_test (state.0 == load.state.0) refl
  where
    tied : IsLoadTied s load
    tied = ties.there nav load at

    its : Asked → Bool
    its q = is_ongoing_load q && holds (λ (own : StateId). own.0 == state.0) q.state

    at_number : (b : Bool) → (load.req.0 == 0) ≡ b → (let o : Option Asked = cond b None (slice_get s.requests (load.req.0 - 1)) in o) ≡ Some tied.q → its tied.q ≡ false
    at_number true is found = cc
    at_number false is found = none_asked its s.requests (load.req.0 - 1) tied.q found none

    by_test : (b : Bool) → (state.0 == load.state.0) ≡ b → (state.0 == load.state.0) ≡ false
    by_test false is = is
    by_test true is =
        let number : state.0 ≡ load.state.0 = eqb-true state.0 load.state.0 is in
        let own : (load.state.0 == state.0) ≡ true = ap (λ (n : ℕ). load.state.0 == n) number ∙ nat_eq_refl load.state.0 in
        let yes_ : its tied.q ≡ true = rw tied.state (rw (tied.ongoing, own) refl) in
        let no_ : true ≡ false = sym yes_ ∙ at_number (load.req.0 == 0) refl tied.found in
        absurd cc

-- ---- a document is discarded that is no load's

abbrev gone : Document → Document
gone d = record d { is_discarded = true }

gone_phase : (doc : DocId) (state : StateId) (documents : List Document) → ((d : Document) → Has documents d → (d.nr.0 == doc.0) ≡ true → (d.state.0 == state.0) ≡ false) → phase_with (made_for (on_document doc gone documents) state) ≡ phase_with (made_for documents state)
gone_phase doc state [] apart = refl
gone_phase doc state (d ∷ documents) apart = by_nr (d.nr.0 == doc.0) refl (gone_phase doc state documents (λ x has. apart x (inr has)))
  where
    by_test : (b : Bool) → phase_with (made_for (on_document doc gone documents) state) ≡ phase_with (made_for documents state) → phase_with (cond b (Some d) (made_for (on_document doc gone documents) state)) ≡ phase_with (cond b (Some d) (made_for documents state))
    by_test true more = refl
    by_test false more = more

    by_nr : (b : Bool) → (d.nr.0 == doc.0) ≡ b → phase_with (made_for (on_document doc gone documents) state) ≡ phase_with (made_for documents state) → phase_with (made_for (cond b (gone d) d ∷ on_document doc gone documents) state) ≡ phase_with (made_for (d ∷ documents) state)
    by_nr true is more = rw (apart d (inl refl) is) more
    by_nr false is more = by_test (is_for_state state d) more

pub gone_tied : (s : Seen) (event : ℕ) (actor : Actor) (table : List Load) → TiesLoads s table → (job : Job) → job.task ≡ tasks.Discard → ((d : Document) (nav : NavId) (load : Load) → Has s.documents d → (d.nr.0 == job.doc.0) ≡ true → ongoing_load nav table ≡ Some load → (d.state.0 == load.state.0) ≡ false) → TiesLoads (after s (record { event = event; actor = actor; row = rows.Sent job })) table
gone_tied s event actor table ties job task apart =
    record {
      there = λ nav load at. tied_again s then_ load (same load.req) (phase nav load at) (ties.there nav load at);
      all = λ req q nav at on loads_it. has_again s then_ table ties req q nav at on loads_it (same req);
    }
  where
    then_ : Seen
    then_ = after s (record { event = event; actor = actor; row = rows.Sent job })

    same : SameReads traced s.requests then_.requests
    same = sent_reads traced traced_blind s job job.task s.requests

    phase : (nav : NavId) (load : Load) → ongoing_load nav table ≡ Some load → phase_with (made_for then_.documents load.state) ≡ phase_with (made_for s.documents load.state)
    phase nav load at =
        ap (λ (k : Task). phase_with (made_for (documents_sent s job k) load.state)) task ∙ gone_phase job.doc load.state s.documents (λ d has is. apart d nav load has is at)
