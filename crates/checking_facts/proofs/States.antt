-- The document states of loads in their check stay theirs over each row.
use Rattle.std.proofs.Common.{◌≡◌, ◌⊎◌, inl, inr, ℕ, ◌+◌, ◌≤◌, Bool, true, false, cond, ◌&&◌, ◌||◌, ◌==◌, List, [], ◌∷◌, ◌++◌, length, map, Option, Some, None, refl, sym, ap, ◌∙◌, subst, arith}
use Rattle.std.specs.Prelude.{filter, find, is_none, not, slice_get}
use Rattle.std.specs.List.{list_any}
use Rattle.std.proofs.lemmas.Bool.{and_parts}
use Rattle.std.proofs.lemmas.Bool.Decides.{nat_tests}
use Rattle.tab_ids.specs.declared.DocId.{DocId}
use Rattle.tab_ids.specs.declared.ReqId.{ReqId}
use Rattle.tab_ids.specs.declared.StateId.{StateId}
use Rattle.tab_ids.specs.declared.Step.{Step}
use Rattle.log_model.specs.declared.change.Change.{Change}
use Rattle.log_model.specs.declared.change.Change.TheVariants as changes
use Rattle.log_model.specs.declared.job.Job.{Job}
use Rattle.log_model.specs.declared.job.Task.{Task}
use Rattle.log_model.specs.declared.job.Task.TheVariants as tasks
use Rattle.log_model.specs.declared.made.Report.{Report}
use Rattle.log_model.specs.declared.made.Report.TheVariants as reports
use Rattle.log_model.specs.declared.outcome.Outcome.{Outcome}
use Rattle.log_model.specs.declared.outcome.Outcome.TheVariants as outcomes
use Rattle.log_model.specs.declared.request.Request.{Request}
use Rattle.log_model.specs.declared.request.Request.TheVariants as requests
use Rattle.log_model.specs.declared.row.Row.{Row}
use Rattle.log_model.specs.declared.row_kind.Actor.{Actor}
use Rattle.log_model.specs.declared.row_kind.LogRow.{LogRow}
use Rattle.log_model.specs.declared.row_kind.RowKind.{RowKind}
use Rattle.log_model.specs.declared.row_kind.RowKind.TheVariants as rows
use Rattle.log_model.specs.After.{after, documents_after, history_after, is_load_request, new_request, states_after}
use Rattle.log_model.specs.AfterDocuments.{addressed, applied_to, documents_delivered, documents_finished, documents_sent, on_document, slot_finished, task_in_hand, told_after_change, view_finished}
use Rattle.log_model.specs.AfterPlaces.{is_dead_by}
use Rattle.log_model.specs.AfterRequests.{load_state, on_request, request_begun}
use Rattle.log_model.specs.Equal.{holds}
use Rattle.log_model.specs.History.{History, applied, is_of}
use Rattle.log_model.specs.Places.{is_gone, is_load, is_ongoing_load, is_under_way}
use Rattle.log_model.specs.Seen.{Asked, Document, Seen, desk_of, document_of, request_in, request_of}
use Rattle.seen_facts.proofs.Each.Runs.{each_asked_more, each_asked_on}
use Rattle.seen_facts.proofs.Hang.Members.{has_filter, has_more, has_tidied}
use Rattle.seen_facts.proofs.Place.Changes.{pushed_rows, replaced_rows}
use Rattle.seen_facts.specs.Hang.Members.{Has}
use Rattle.log_model.specs.Orders.{ongoing_load}
use Rattle.unasked.proofs.Readings.{checked_off, found_from, under_way_read}
use Rattle.unasked_dues.proofs.Base.{at_index, find_at, item_found}
use Rattle.unasked_dues.proofs.Making.{any_same}
use Rattle.unasked_dues.specs.Checking.{AreNumbered, IsAloneWith, NoneChecksFor, is_ongoing_of, unasked, without_asks}
use Rattle.checking_facts.proofs.Grown.{AllGo, Goes, req_same}
use Rattle.checking_facts.specs.Checks.{just}
use Rattle.checking_facts.specs.States.{AreOwnStates, BringsOff, IsHeld, IsNextState, IsOwnState, LeavesStates, MakesOff}

-- ---- what is nobody's else

-- whose test fails has no such part
no_both : (a b : Bool) → b ≡ false → (a && b) ≡ false
no_both true b no_ = no_
no_both false b no_ = refl

module _ (checking : ReqId → Bool) (s : Seen) where
  -- a document state for which no load is in its check is another one
  held_apart : (state other : StateId) → IsHeld checking s state → NoneChecksFor checking s other → (state.0 == other.0) ≡ false
  held_apart state other held none =
      sym (ap (λ (o : Option StateId). holds (λ (own : StateId). own.0 == other.0) o) held.own)
      ∙ sym (ap (λ b. b && holds (λ (own : StateId). own.0 == other.0) held.q.state) held.going)
      ∙ none held.req held.q held.at held.on

  -- where each load in its check has another one, there is none for it
  pub none_for : (other : StateId) → ((state : StateId) → IsHeld checking s state → (state.0 == other.0) ≡ false) → NoneChecksFor checking s other
  none_for other apart req q at on = by_going (is_ongoing_load q) refl q.state refl
    where
      by_going : (b : Bool) → is_ongoing_load q ≡ b → (o : Option StateId) → q.state ≡ o → (is_ongoing_load q && holds (λ (own : StateId). own.0 == other.0) q.state) ≡ false
      by_going false e o f = rw e refl
      by_going true e None f = rw (e, f) refl
      by_going true e (Some state) f =
          rw (e, f) (apart state (record { req = req; q = q; at = at; on = on; going = e; own = f }))

  module _ (own : AreOwnStates checking s) where
    -- that of a document
    in_documents : (test : Document → Bool) (d : Document) (ds : List Document) (doc : DocId) → (let o : Option Document = find (λ (x : Document). x.nr.0 == doc.0) ds in o) ≡ Some d → list_any test ds ≡ false → test d ≡ false
    in_documents test d [] doc at none = absurd cc
    in_documents test d (x ∷ ds) doc at none = by_first (x.nr.0 == doc.0) at (test x) refl none (in_documents test d ds doc)
      where
        by_first : (b : Bool) → cond b (Some x) (find (λ (y : Document). y.nr.0 == doc.0) ds) ≡ Some d → (c : Bool) → test x ≡ c → (c || list_any test ds) ≡ false → ((find (λ (y : Document). y.nr.0 == doc.0) ds) ≡ Some d → list_any test ds ≡ false → test d ≡ false) → test d ≡ false
        by_first b is true e never rest = absurd cc
        by_first true is false e rest_none rest = (let same : x ≡ d = cc in ap test (sym same) ∙ e)
        by_first false is false e rest_none rest = rest is rest_none

    pub of_document : (doc : DocId) (d : Document) → document_of s doc ≡ Some d → NoneChecksFor checking s d.state
    of_document doc d found =
        none_for d.state (λ state held. in_documents (λ (x : Document). state.0 == x.state.0) d s.documents doc found (own state held).documents)

    -- that of an entry
    pub of_entry : (row : Row) → Has s.history.rows row → NoneChecksFor checking s row.state
    of_entry row has = none_for row.state (λ state held. (own state held).entries row has)

    -- that of an ongoing load that isn't in its check
    pub of_load : (req : ReqId) (q : Asked) (state : StateId) → request_of s req ≡ Some q → checking req ≡ false → is_ongoing_of state q ≡ true → NoneChecksFor checking s state
    of_load req q state at off is r p there on = by_test (is_ongoing_of state p) refl
      where
        by_same : (b : Bool) → (req.0 == r.0) ≡ b → is_ongoing_load p ≡ true → holds (λ (x : StateId). x.0 == state.0) p.state ≡ true → (o : Option StateId) → p.state ≡ o → ⊥
        by_same true e going its o f =
            let n : req.0 ≡ r.0 = grind (arith, nat_tests, e) in
            let one : req ≡ r = ap (λ (i : ℕ). let x : ReqId = record { 0 = i } in x) n in
            let never : false ≡ true = sym off ∙ ap checking one ∙ on in
            cc
        by_same false e going its None f = let never : false ≡ true = sym (ap (λ (x : Option StateId). holds (λ (y : StateId). y.0 == state.0) x) f) ∙ its in cc
        by_same false e going its (Some other) f =
            let held : IsHeld checking s other = record { req = r; q = p; at = there; on = on; going = going; own = f } in
            let eq : (other.0 == state.0) ≡ true = sym (ap (λ (x : Option StateId). holds (λ (y : StateId). y.0 == state.0) x) f) ∙ its in
            let n : other.0 ≡ state.0 = grind (arith, nat_tests, eq) in
            let none : is_ongoing_of other q ≡ false = (own other held).alone req q e at in
            let same : is_ongoing_of state q ≡ is_ongoing_of other q = ap (λ (i : ℕ). is_ongoing_load q && holds (λ (y : StateId). y.0 == i) q.state) (sym n) in
            let never : true ≡ false = sym is ∙ same ∙ none in
            cc

        by_test : (b : Bool) → is_ongoing_of state p ≡ b → b ≡ false
        by_test false e = refl
        by_test true e =
            let parts = and_parts (is_ongoing_load p) (holds (λ (x : StateId). x.0 == state.0) p.state) e in
            absurd (by_same (req.0 == r.0) refl parts.0 parts.1 p.state refl)

    -- that of a load that is ongoing in the log without questions
    pub of_ongoing : AreNumbered s → (state : StateId) (bare : Asked) → ongoing_load (unasked checking s) state ≡ Some bare → NoneChecksFor checking s state
    of_ongoing numbered state bare found =
        let at = find_at (is_ongoing_of state) (unasked checking s).requests bare found in
        let req : ReqId = at_index at.0 in
        let there : request_of (unasked checking s) req ≡ Some bare = item_found (unasked checking s) at.0 ∙ at.1 in
        let from = found_from checking s req bare there in
        let parts = and_parts (is_ongoing_load bare) (holds (λ (x : StateId). x.0 == state.0) bare.state) at.2 in
        let way = and_parts (is_under_way bare) (is_load bare.what) parts.0 in
        let off : checking req ≡ false = under_way_read checking s req bare (numbered req) there way.0 in
        let same : bare ≡ without_asks from.0 = from.2 ∙ checked_off checking from.0 (ap checking (numbered req from.0 from.1) ∙ off) in
        of_load req from.0 state from.1 off (ap (is_ongoing_of state) (sym same) ∙ at.2)

-- ---- documents

-- a change of one document keeps its document state
abbrev KeepsState : (Document → Document) → Type 0
KeepsState f = (d : Document) → (f d).state ≡ d.state

-- whether one of these documents has the document state
abbrev has_document_of : StateId → List Document → Bool
has_document_of state documents = list_any (λ (d : Document). state.0 == d.state.0) documents

-- these documents have the same document states as those
abbrev HaveStates : List Document → List Document → Type 0
HaveStates old new = (state : StateId) → has_document_of state new ≡ has_document_of state old

mapped_states : (f : Document → Document) (documents : List Document) → KeepsState f → HaveStates documents (map f documents)
mapped_states f documents keeps state =
    any_same f (λ (d : Document). state.0 == d.state.0) documents (λ d. ap (λ (n : StateId). state.0 == n.0) (keeps d))

state_if : (test : Document → Bool) (f : Document → Document) → KeepsState f → KeepsState (λ d. cond (test d) (f d) d)
state_if test f keeps d = elim (test d) as (λ b. (let x : Document = cond b (f d) d in x).state ≡ d.state) [ true ↦ keeps d | false ↦ refl ]

states_at : (doc : DocId) (f : Document → Document) (documents : List Document) → KeepsState f → HaveStates documents (on_document doc f documents)
states_at doc f documents keeps = mapped_states (λ (d : Document). cond (d.nr.0 == doc.0) (f d) d) documents (state_if (λ (d : Document). d.nr.0 == doc.0) f keeps)

told_state : (change : Change) → KeepsState (λ d. told_after_change d change)
told_state (changes.Push nav entry state address memo) = state_if (λ d. d.nr.0 == entry.maker) (λ d. record d { told = None }) (λ d. refl)
told_state (changes.Replace nav over entry state address memo) = λ d. refl
told_state (changes.AddFrame owner nav entry state) = λ d. refl
told_state (changes.RemoveFrame nav) = λ d. refl
told_state (changes.Traverse goal) = λ d. refl
told_state (changes.Reload nav) = λ d. refl
told_state changes.Edit = λ d. refl

applied_state : (change : Change) → KeepsState (applied_to change)
applied_state (changes.Push nav entry state address memo) = state_if (λ d. d.nr.0 == entry.maker) (λ d. record d { last_applied = entry.nr }) (λ d. refl)
applied_state (changes.Replace nav over entry state address memo) = state_if (λ d. d.nr.0 == entry.maker) (λ d. record d { last_applied = entry.nr }) (λ d. refl)
applied_state (changes.Reload nav) = state_if (λ d. d.nav.0 == nav.0) (λ d. record d { is_fresh = false }) (λ d. refl)
applied_state (changes.AddFrame owner nav entry state) = λ d. refl
applied_state (changes.RemoveFrame nav) = λ d. refl
applied_state (changes.Traverse goal) = λ d. refl
applied_state changes.Edit = λ d. refl

slot_states : (documents : List Document) (hand : Option Job) (outcome : Outcome) → HaveStates documents (slot_finished documents hand outcome)
slot_states documents (Some job) (outcomes.Populated slot) = states_at job.doc (λ d. record d { slot = slot }) documents (λ d. refl)
slot_states documents None (outcomes.Populated slot) = λ state. refl
slot_states documents None outcomes.Activated = λ state. refl
slot_states documents (Some job) outcomes.Activated = λ state. refl
slot_states documents None outcomes.Updated = λ state. refl
slot_states documents (Some job) outcomes.Updated = λ state. refl
slot_states documents None outcomes.Frozen = λ state. refl
slot_states documents (Some job) outcomes.Frozen = λ state. refl
slot_states documents None outcomes.Discarded = λ state. refl
slot_states documents (Some job) outcomes.Discarded = λ state. refl
slot_states documents None (outcomes.Asked verdict) = λ state. refl
slot_states documents (Some job) (outcomes.Asked verdict) = λ state. refl
slot_states documents None outcomes.Fragmented = λ state. refl
slot_states documents (Some job) outcomes.Fragmented = λ state. refl

finished_states : (documents : List Document) (hand : Option Job) → HaveStates documents (documents_finished documents hand)
finished_states documents None = λ state. refl
finished_states documents (Some job) = states_at job.doc (λ d. record d { view = view_finished d job.task }) documents (λ d. refl)

delivered_states : (documents : List Document) (report : Option Report) → HaveStates documents (documents_delivered documents report)
delivered_states documents None = λ state. refl
delivered_states documents (Some (reports.Made made)) = λ state. refl
delivered_states documents (Some (reports.Died death)) =
    mapped_states (λ (d : Document). cond (is_dead_by death d) (record d { is_known_dead = true }) d) documents (state_if (λ d. is_dead_by death d) (λ d. record d { is_known_dead = true }) (λ d. refl))
delivered_states documents (Some (reports.Done job (outcomes.Populated slot) made)) =
    states_at job.doc (λ d. record d { is_ready = true; is_fresh = true }) documents (λ d. refl)
delivered_states documents (Some (reports.Done job outcomes.Activated made)) = λ state. refl
delivered_states documents (Some (reports.Done job outcomes.Updated made)) = λ state. refl
delivered_states documents (Some (reports.Done job outcomes.Frozen made)) = λ state. refl
delivered_states documents (Some (reports.Done job outcomes.Discarded made)) = λ state. refl
delivered_states documents (Some (reports.Done job (outcomes.Asked verdict) made)) = λ state. refl
delivered_states documents (Some (reports.Done job outcomes.Fragmented made)) = λ state. refl

-- one more
more_none : (test : Document → Bool) (documents : List Document) (new : Document) → list_any test documents ≡ false → test new ≡ false → list_any test (documents ++ new ∷ []) ≡ false
more_none test [] new none no_ = rw no_ refl
more_none test (d ∷ documents) new none no_ =
    by_first (test d) none (λ rest. more_none test documents new rest no_)
  where
    by_first : (b : Bool) → (b || list_any test documents) ≡ false → (list_any test documents ≡ false → list_any test (documents ++ new ∷ []) ≡ false) → (b || list_any test (documents ++ new ∷ [])) ≡ false
    by_first true never more = absurd cc
    by_first false rest more = more rest

module _ (checking : ReqId → Bool) (s : Seen) (state : StateId) (held : IsHeld checking s state) where
  -- an order makes none of the document state
  sent_none : (job : Job) (task : Task) → MakesOff checking s task → has_document_of state s.documents ≡ false → has_document_of state (documents_sent s job task) ≡ false
  sent_none job (tasks.Populate nav other address initial) off none =
      more_none (λ (d : Document). state.0 == d.state.0) s.documents _ none (held_apart checking s state other held off)
  sent_none job (tasks.Activate entry epoch length index memo address) off none =
      states_at job.doc (addressed (tasks.Activate entry epoch length index memo address)) s.documents (λ d. refl) state ∙ none
  sent_none job (tasks.Update length index) off none =
      states_at job.doc (addressed (tasks.Update length index)) s.documents (λ d. refl) state ∙ none
  sent_none job tasks.Freeze off none = states_at job.doc (addressed tasks.Freeze) s.documents (λ d. refl) state ∙ none
  sent_none job tasks.Discard off none =
      states_at job.doc (λ d. record d { is_discarded = true }) s.documents (λ d. refl) state ∙ none
  sent_none job (tasks.Ask slot cause) off none =
      states_at job.doc (addressed (tasks.Ask slot cause)) s.documents (λ d. refl) state ∙ none
  sent_none job (tasks.DoFragment req mode address) off none =
      states_at job.doc (addressed (tasks.DoFragment req mode address)) s.documents (λ d. refl) state ∙ none

  -- ---- entries

  -- of one that was there, or of another document state
  new_apart : (row : Row) → ((old : Row) → Has s.history.rows old → (state.0 == old.state.0) ≡ false) → (other : StateId) → NoneChecksFor checking s other → Has s.history.rows row ⊎ (row.state ≡ other) → (state.0 == row.state.0) ≡ false
  new_apart row apart other off (inl has) = apart row has
  new_apart row apart other off (inr is) =
      ap (λ (n : StateId). state.0 == n.0) is ∙ held_apart checking s state other held off

  applied_apart : (change : Change) → BringsOff checking s change → ((old : Row) → Has s.history.rows old → (state.0 == old.state.0) ≡ false) → (row : Row) → Has (applied s.history change).rows row → (state.0 == row.state.0) ≡ false
  applied_apart (changes.Push nav entry other address memo) off apart row has =
      new_apart row apart other off (by_case (pushed_rows s nav entry other address memo row has))
    where
      by_case : Has s.history.rows row ⊎ ((row.nav ≡ nav) × (row.entry ≡ entry) × (row.state ≡ other)) → Has s.history.rows row ⊎ (row.state ≡ other)
      by_case (inl old) = inl old
      by_case (inr is) = inr is.2
  applied_apart (changes.Replace nav over entry other address memo) off apart row has =
      new_apart row apart other off (by_case (replaced_rows s nav over entry other address memo row has))
    where
      by_case : Has s.history.rows row ⊎ ((row.nav ≡ nav) × (row.entry ≡ entry) × (row.state ≡ other)) → Has s.history.rows row ⊎ (row.state ≡ other)
      by_case (inl old) = inl old
      by_case (inr is) = inr is.2
  applied_apart (changes.AddFrame owner nav entry other) off apart row has =
      new_apart row apart other off (added s.history.rows _ has refl)
    where
      added : (entries : List Row) (put : Row) → Has (entries ++ put ∷ []) row → put.state ≡ other → Has entries row ⊎ (row.state ≡ other)
      added entries put there is = by_case (has_more entries put row there)
        where
          by_case : Has entries row ⊎ (put ≡ row) → Has entries row ⊎ (row.state ≡ other)
          by_case (inl old) = inl old
          by_case (inr same) = inr (ap (λ (r : Row). r.state) (sym same) ∙ is)
  applied_apart (changes.RemoveFrame nav) off apart row has =
      apart row (has_filter (λ (r : Row). not (is_of nav r)) s.history.rows row (has_tidied (filter (λ (r : Row). not (is_of nav r)) s.history.rows) row has).0).0
  applied_apart (changes.Traverse goal) off apart row has = apart row has
  applied_apart (changes.Reload nav) off apart row has = apart row has
  applied_apart changes.Edit off apart row has = apart row has

-- ---- rows

-- no load begins, and requests keep their document states
module _ (checking begins : ReqId → Bool) (s t : Seen) (none : (req : ReqId) → begins req ≡ false) (all : AllGo checking begins (is_gone s) s.requests t.requests) where
  -- one that is in its check was
  was_going : (p q : Asked) → (is_under_way q ≡ true → is_under_way p ≡ true) → q.what ≡ p.what → is_ongoing_load q ≡ true → is_ongoing_load p ≡ true
  was_going p q runs what going =
      let parts = and_parts (is_under_way q) (is_load q.what) going in
      rw (runs parts.0) (ap is_load (sym what) ∙ parts.1)

  was_held : (state : StateId) (held : IsHeld checking t state) → (was : IsHeld checking s state) × (was.req ≡ held.req)
  was_held state held =
      let p = all held.req held.q held.at in (
        record {
          req = held.req;
          q = p.0;
          at = p.1;
          on = held.on;
          going = was_going p.0 held.q (p.2.runs (none held.req)) p.2.what held.going;
          own = sym (p.2.state (none held.req)) ∙ held.own;
        },
        refl,
      )

  still_alone : (req : ReqId) (state : StateId) → IsAloneWith s req state → IsAloneWith t req state
  still_alone req state alone other q apart at = by_going (is_ongoing_load q) refl
    where
      by_going : (b : Bool) → is_ongoing_load q ≡ b → is_ongoing_of state q ≡ false
      by_going false e = rw e refl
      by_going true e =
          let p = all other q at in
          let going : is_ongoing_load p.0 ≡ true = was_going p.0 q (p.2.runs (none other)) p.2.what e in
          ap (λ b. b && holds (λ (own : StateId). own.0 == state.0) q.state) (e ∙ sym going)
          ∙ ap (λ (o : Option StateId). is_ongoing_load p.0 && holds (λ (own : StateId). own.0 == state.0) o) (p.2.state (none other))
          ∙ alone other p.0 apart p.1

  -- where entries and documents keep theirs, too
  pub states_go : s.states ≤ t.states → ((state : StateId) → IsHeld checking s state → ((row : Row) → Has s.history.rows row → (state.0 == row.state.0) ≡ false) → (row : Row) → Has t.history.rows row → (state.0 == row.state.0) ≡ false) → ((state : StateId) → IsHeld checking s state → has_document_of state s.documents ≡ false → has_document_of state t.documents ≡ false) → AreOwnStates checking s → AreOwnStates checking t
  states_go grow entries documents own state held =
      let w = was_held state held in
      let is : IsOwnState s w.0.req state = own state w.0 in
      subst (λ (r : ReqId). IsOwnState t r state) w.1
      (record {
        numbered = omega (arith, is.numbered, grow);
        entries = entries state w.0 is.entries;
        documents = documents state w.0 is.documents;
        alone = still_alone w.0.req state is.alone;
      })

-- a row that accepts no request and begins none
module _ (checking : ReqId → Bool) (s : Seen) (row : LogRow) where
  abbrev pub then_ : Seen
  then_ = after s row

  pub row_entries : (kind : RowKind) → row.row ≡ kind → LeavesStates checking s kind → (state : StateId) → IsHeld checking s state → ((old : Row) → Has s.history.rows old → (state.0 == old.state.0) ≡ false) → (new : Row) → Has then_.history.rows new → (state.0 == new.state.0) ≡ false
  row_entries (rows.Opened entry own doc proc slot address) e never state held apart new has = absurd never
  row_entries (rows.Applied req change) e off state held apart new has =
      applied_apart checking s state held change off.0 apart new (subst (λ (h : History). Has h.rows new) (ap (λ (k : RowKind). history_after s.history k) e) has)
  row_entries (rows.Accepted req doc what) e off state held apart new has = apart new (subst (λ (h : History). Has h.rows new) (ap (λ (k : RowKind). history_after s.history k) e) has)
  row_entries (rows.Started req goal) e off state held apart new has = apart new (subst (λ (h : History). Has h.rows new) (ap (λ (k : RowKind). history_after s.history k) e) has)
  row_entries (rows.Refused req reason) e off state held apart new has = apart new (subst (λ (h : History). Has h.rows new) (ap (λ (k : RowKind). history_after s.history k) e) has)
  row_entries (rows.Dropped req cause) e off state held apart new has = apart new (subst (λ (h : History). Has h.rows new) (ap (λ (k : RowKind). history_after s.history k) e) has)
  row_entries (rows.Prompted req doc) e off state held apart new has = apart new (subst (λ (h : History). Has h.rows new) (ap (λ (k : RowKind). history_after s.history k) e) has)
  row_entries (rows.Answered req stay) e off state held apart new has = apart new (subst (λ (h : History). Has h.rows new) (ap (λ (k : RowKind). history_after s.history k) e) has)
  row_entries (rows.Sent job) e off state held apart new has = apart new (subst (λ (h : History). Has h.rows new) (ap (λ (k : RowKind). history_after s.history k) e) has)
  row_entries (rows.Taken proc job live dirty) e off state held apart new has = apart new (subst (λ (h : History). Has h.rows new) (ap (λ (k : RowKind). history_after s.history k) e) has)
  row_entries (rows.Finished proc job outcome) e off state held apart new has = apart new (subst (λ (h : History). Has h.rows new) (ap (λ (k : RowKind). history_after s.history k) e) has)
  row_entries (rows.Made proc made) e off state held apart new has = apart new (subst (λ (h : History). Has h.rows new) (ap (λ (k : RowKind). history_after s.history k) e) has)
  row_entries (rows.Delivered proc) e off state held apart new has = apart new (subst (λ (h : History). Has h.rows new) (ap (λ (k : RowKind). history_after s.history k) e) has)
  row_entries (rows.Killed proc death) e off state held apart new has = apart new (subst (λ (h : History). Has h.rows new) (ap (λ (k : RowKind). history_after s.history k) e) has)
  row_entries (rows.Evicted own) e off state held apart new has = apart new (subst (λ (h : History). Has h.rows new) (ap (λ (k : RowKind). history_after s.history k) e) has)

  pub row_documents : (kind : RowKind) → row.row ≡ kind → LeavesStates checking s kind → (state : StateId) → IsHeld checking s state → has_document_of state s.documents ≡ false → has_document_of state then_.documents ≡ false
  row_documents kind e leaves state held none =
      ap (λ (k : RowKind). has_document_of state (documents_after s k)) e ∙ by_kind kind leaves
    where
      by_kind : (k : RowKind) → LeavesStates checking s k → has_document_of state (documents_after s k) ≡ false
      by_kind (rows.Opened entry own doc proc slot address) never = absurd never
      by_kind (rows.Applied req change) off =
          mapped_states (λ d. applied_to change (told_after_change d change)) s.documents (λ d. applied_state change (told_after_change d change) ∙ told_state change d) state
          ∙ none
      by_kind (rows.Sent job) off = sent_none checking s state held job job.task off none
      by_kind (rows.Finished proc job outcome) off =
          slot_states (documents_finished s.documents (task_in_hand s proc)) (task_in_hand s proc) outcome state
          ∙ finished_states s.documents (task_in_hand s proc) state
          ∙ none
      by_kind (rows.Made proc made) off = states_at made.doc _ s.documents (λ d. refl) state ∙ none
      by_kind (rows.Delivered proc) off = delivered_states s.documents (slice_get (desk_of s proc).reports 0) state ∙ none
      by_kind (rows.Killed proc death) off =
          mapped_states (λ (d : Document). cond (d.proc.0 == proc.0 && is_none d.dead_by) (record d { dead_by = Some death; view = None }) d) s.documents (state_if (λ d. d.proc.0 == proc.0 && is_none d.dead_by) (λ d. record d { dead_by = Some death; view = None }) (λ d. refl)) state
          ∙ none
      by_kind (rows.Accepted req doc what) off = none
      by_kind (rows.Started req goal) off = none
      by_kind (rows.Refused req reason) off = none
      by_kind (rows.Dropped req cause) off = none
      by_kind (rows.Prompted req doc) off = none
      by_kind (rows.Answered req stay) off = none
      by_kind (rows.Taken proc job live dirty) off = none
      by_kind (rows.Evicted own) off = none

  pub row_numbers : (kind : RowKind) → row.row ≡ kind → LeavesStates checking s kind → s.states ≤ then_.states
  row_numbers kind e leaves =
      subst (λ (n : ℕ). s.states ≤ n) (ap (λ (k : RowKind). states_after s k) (sym e)) (by_kind kind leaves)
    where
      by_test : (b : Bool) → s.states ≤ cond b (s.states + 1) s.states
      by_test true = omega arith
      by_test false = omega arith

      by_change : (req : ReqId) (change : Change) → s.states ≤ states_after s (rows.Applied req change)
      by_change req (changes.AddFrame owner nav entry own) = omega arith
      by_change req (changes.Push nav entry own address memo) = omega arith
      by_change req (changes.Replace nav over entry own address memo) = omega arith
      by_change req (changes.RemoveFrame nav) = omega arith
      by_change req (changes.Traverse goal) = omega arith
      by_change req (changes.Reload nav) = omega arith
      by_change req changes.Edit = omega arith

      by_kind : (k : RowKind) → LeavesStates checking s k → s.states ≤ states_after s k
      by_kind (rows.Opened entry own doc proc slot address) never = absurd never
      by_kind (rows.Started req goal) off = by_test (is_load_request s req)
      by_kind (rows.Applied req change) off = by_change req change
      by_kind (rows.Sent job) off = omega arith
      by_kind (rows.Finished proc job outcome) off = omega arith
      by_kind (rows.Made proc made) off = omega arith
      by_kind (rows.Delivered proc) off = omega arith
      by_kind (rows.Killed proc death) off = omega arith
      by_kind (rows.Accepted req doc what) off = omega arith
      by_kind (rows.Refused req reason) off = omega arith
      by_kind (rows.Dropped req cause) off = omega arith
      by_kind (rows.Prompted req doc) off = omega arith
      by_kind (rows.Answered req stay) off = omega arith
      by_kind (rows.Taken proc job live dirty) off = omega arith
      by_kind (rows.Evicted own) off = omega arith

  -- such a row
  pub row_states : (begins : ReqId → Bool) → ((req : ReqId) → begins req ≡ false) → AllGo checking begins (is_gone s) s.requests then_.requests → LeavesStates checking s row.row → AreOwnStates checking s → AreOwnStates checking then_
  row_states begins none all leaves own =
      states_go checking begins s then_ none all (row_numbers row.row refl leaves) (row_entries row.row refl leaves) (row_documents row.row refl leaves) own

-- ---- a request is accepted

module _ (checking : ReqId → Bool) (s : Seen) (event : ℕ) (actor : Actor) (req : ReqId) (doc : Option DocId) (what : Request) (next : req.0 ≡ length s.requests + 1) where
  abbrev accepted : Seen
  accepted = after s (record { event = event; actor = actor; row = rows.Accepted req doc what })

  -- an ongoing load was there
  were_there : (r : ReqId) (q : Asked) → request_of accepted r ≡ Some q → is_ongoing_load q ≡ true → request_of s r ≡ Some q
  were_there =
      each_asked_more (λ (r : ReqId) (q : Asked). is_ongoing_load q ≡ true → request_of s r ≡ Some q) s.requests (new_request req doc what) req next (λ never. absurd cc) (λ r q at going. at)

  pub accepted_states : AreOwnStates checking s → AreOwnStates checking accepted
  accepted_states own state held =
      let is : IsOwnState s held.req state = own state (record { req = held.req; q = held.q; at = were_there held.req held.q held.at held.going; on = held.on; going = held.going; own = held.own }) in
      record {
        numbered = is.numbered;
        entries = is.entries;
        documents = is.documents;
        alone = λ other q apart at. by_going other q apart at (is_ongoing_load q) refl is.alone;
      }
    where
      by_going : (other : ReqId) (q : Asked) → (other.0 == held.req.0) ≡ false → request_of accepted other ≡ Some q → (b : Bool) → is_ongoing_load q ≡ b → IsAloneWith s held.req state → is_ongoing_of state q ≡ false
      by_going other q apart at false e alone = rw e refl
      by_going other q apart at true e alone = alone other q apart (were_there other q at e)

-- ---- a request begins

module _ (checking : ReqId → Bool) (s : Seen) (event : ℕ) (actor : Actor) (req : ReqId) (goal : Option Step) where
  abbrev begun : Seen
  begun = after s (record { event = event; actor = actor; row = rows.Started req goal })

  -- it has the document state that is numbered next, if it is a load
  its_state : (r : ReqId) (q : Asked) → request_of begun r ≡ Some q → (r.0 == req.0) ≡ true → q.state ≡ load_state s q.what
  its_state =
      each_asked_on (λ (r : ReqId) (q : Asked). Unit {0}) (λ (r : ReqId) (q : Asked). (r.0 == req.0) ≡ true → q.state ≡ load_state s q.what) (on_request req (λ q. record q { is_started = true; goal = goal }) s.requests) req (request_begun s) (λ r q apart was is. let never : false ≡ true = sym apart ∙ is in absurd cc) (λ q at was is. refl) (λ r q at. tt)

  -- and has begun
  pub has_begun : (r : ReqId) (q : Asked) → request_of begun r ≡ Some q → (r.0 == req.0) ≡ true → q.is_started ≡ true
  has_begun =
      each_asked_on (λ (r : ReqId) (q : Asked). (r.0 == req.0) ≡ true → q.is_started ≡ true) (λ (r : ReqId) (q : Asked). (r.0 == req.0) ≡ true → q.is_started ≡ true) (on_request req (λ q. record q { is_started = true; goal = goal }) s.requests) req (request_begun s) (λ r q apart was. was) (λ q at was. was)
      (each_asked_on (λ (r : ReqId) (q : Asked). Unit {0}) (λ (r : ReqId) (q : Asked). (r.0 == req.0) ≡ true → q.is_started ≡ true) s.requests req (λ q. record q { is_started = true; goal = goal }) (λ r q apart was is. let never : false ≡ true = sym apart ∙ is in absurd cc) (λ q at was is. refl) (λ r q at. tt))

  -- and that is another one than those of before
  new_off : (state : StateId) (q : Asked) → state.0 ≤ s.states → q.state ≡ load_state s q.what → is_ongoing_of state q ≡ false
  new_off state q low its = by_what q.what its (is_ongoing_load q)
    where
      by_none : (b : Bool) → q.state ≡ None → (b && holds (λ (own : StateId). own.0 == state.0) q.state) ≡ false
      by_none true e = rw e refl
      by_none false e = refl

      by_what : (w : Request) → q.state ≡ load_state s w → (b : Bool) → (b && holds (λ (own : StateId). own.0 == state.0) q.state) ≡ false
      by_what (requests.Load nav mode address) e false = refl
      by_what (requests.Load nav mode address) e true =
          let apart : ((s.states + 1) == state.0) ≡ false = grind (arith, nat_tests, low) in rw e apart
      by_what (requests.Go delta) e b = by_none b e
      by_what (requests.Reload nav) e b = by_none b e
      by_what (requests.Poke nav action) e b = by_none b e

  next_is : (state : StateId) (q : Asked) → is_load q.what ≡ true → q.state ≡ load_state s q.what → q.state ≡ Some state → state ≡ record { 0 = s.states + 1 }
  next_is state q loads_ its own = by_what q.what loads_ its
    where
      by_what : (w : Request) → is_load w ≡ true → q.state ≡ load_state s w → state ≡ record { 0 = s.states + 1 }
      by_what (requests.Load nav mode address) is e =
          let same : Some state ≡ Some (record { 0 = s.states + 1 }) = sym own ∙ e in cc
      by_what (requests.Go delta) is e = cc
      by_what (requests.Reload nav) is e = cc
      by_what (requests.Poke nav action) is e = cc

  module _ (all : AllGo checking (just req) (is_gone s) s.requests begun.requests) where
    was_load : (r : ReqId) (q p : Asked) → (just req r ≡ false → is_under_way q ≡ true → is_under_way p ≡ true) → q.what ≡ p.what → just req r ≡ false → is_ongoing_load q ≡ true → is_ongoing_load p ≡ true
    was_load r q p runs what other going =
        let parts = and_parts (is_under_way q) (is_load q.what) going in
        rw (runs other parts.0) (ap is_load (sym what) ∙ parts.1)

    -- whoever isn't this one is as it was
    other_off : (state : StateId) (r : ReqId) (q : Asked) → request_of begun r ≡ Some q → just req r ≡ false → ((p : Asked) → request_of s r ≡ Some p → is_ongoing_of state p ≡ false) → is_ongoing_of state q ≡ false
    other_off state r q at other none = by_going (is_ongoing_load q) refl
      where
        by_going : (b : Bool) → is_ongoing_load q ≡ b → is_ongoing_of state q ≡ false
        by_going false e = rw e refl
        by_going true e =
            let p = all r q at in
            ap (λ b. b && holds (λ (own : StateId). own.0 == state.0) q.state) (e ∙ sym (was_load r q p.0 p.2.runs p.2.what other e))
            ∙ ap (λ (o : Option StateId). is_ongoing_load p.0 && holds (λ (own : StateId). own.0 == state.0) o) (p.2.state other)
            ∙ none p.0 p.1

    pub begun_states : (checking req ≡ false) ⊎ IsNextState s (record { 0 = s.states + 1 }) → AreOwnStates checking s → AreOwnStates checking begun
    begun_states next own state held = by_own (just req held.req) refl
      where
        r : ReqId
        r = held.req

        p : (p : Asked) × (request_in s.requests r ≡ Some p) × Goes checking (just req) (is_gone s) r p held.q
        p = all r held.q held.at

        grown : s.states ≤ begun.states
        grown = by_test (is_load_request s req)
          where
            by_test : (b : Bool) → s.states ≤ cond b (s.states + 1) s.states
            by_test true = omega arith
            by_test false = omega arith

        others : (other : ReqId) (q : Asked) → (other.0 == r.0) ≡ false → request_of begun other ≡ Some q → IsOwnState s r state → is_ongoing_of state q ≡ false
        others other q apart at is = by_other (just req other) refl
          where
            by_other : (b : Bool) → just req other ≡ b → is_ongoing_of state q ≡ false
            by_other true e = new_off state q is.numbered (its_state other q at e)
            by_other false e = other_off state other q at e (λ x there. is.alone other x apart there)

        old : just req r ≡ false → IsOwnState begun r state
        old e =
            let is : IsOwnState s r state = own state (record { req = r; q = p.0; at = p.1; on = held.on; going = was_load r held.q p.0 p.2.runs p.2.what e held.going; own = sym (p.2.state e) ∙ held.own }) in
            record {
              numbered = omega (arith, is.numbered, grown);
              entries = is.entries;
              documents = is.documents;
              alone = λ other q apart at. others other q apart at is;
            }

        fresh : just req r ≡ true → IsNextState s (record { 0 = s.states + 1 }) → IsOwnState begun r state
        fresh e free =
            let loads_ : is_load held.q.what ≡ true = (and_parts (is_under_way held.q) (is_load held.q.what) held.going).1 in
            let same : state ≡ record { 0 = s.states + 1 } = next_is state held.q loads_ (its_state r held.q held.at e) held.own in
            let one : r ≡ req = req_same r req e in
            let here : is_load_request s req ≡ true = ap (λ (x : ReqId). is_load_request s x) (sym one) ∙ ap (λ (o : Option Asked). holds (λ (x : Asked). is_load x.what) o) p.1 ∙ ap is_load (sym p.2.what) ∙ loads_ in
            let counted : begun.states ≡ s.states + 1 = ap (λ (b : Bool). cond b (s.states + 1) s.states) here in
            subst (λ (x : StateId). IsOwnState begun r x) (sym same)
            (record {
              numbered = omega (arith, counted);
              entries = free.entries;
              documents = free.documents;
              alone = λ other q apart at. other_off (record { 0 = s.states + 1 }) other q at (subst (λ (x : ReqId). (other.0 == x.0) ≡ false) one apart) (λ x there. free.free other x there);
            })

        by_own : (b : Bool) → just req r ≡ b → IsOwnState begun r state
        by_own false e = old e
        by_own true e = by_next next
          where
            by_next : (checking req ≡ false) ⊎ IsNextState s (record { 0 = s.states + 1 }) → IsOwnState begun r state
            by_next (inl off) =
                let never : false ≡ true = sym off ∙ ap checking (sym (req_same r req e)) ∙ held.on in absurd cc
            by_next (inr free) = fresh e free
