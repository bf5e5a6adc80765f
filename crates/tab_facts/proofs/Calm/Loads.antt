-- Each ongoing load has its document still over each order but one that discards it.
use Rattle.tab_facts.proofs.Calm.Sents.{DiscardsNone, documents_are, found_more, found_on}
use Rattle.tab_facts.specs.Calm.Loads.{LoadsHaveDocuments}
use Rattle.seen_facts.proofs.Coord.Leadings.{doc_same}
use Rattle.seen_facts.proofs.Coord.Unread.{next}
use Rattle.seen_facts.proofs.Load.Rows.{look_blind}
use Rattle.seen_facts.specs.Load.Loading.{Look, is_ongoing, look, look_of}
use Rattle.log_model.specs.AfterDocuments.{addressed, new_document, on_document}
use Rattle.log_model.specs.Orders.{is_being_made, is_usable}
use Rattle.log_model.specs.Places.{is_ongoing_load}
use Rattle.log_model.specs.Seen.{Asked, Document, Seen, document_of, request_in}
use Rattle.log_model.specs.declared.job.Job.{Job}
use Rattle.log_model.specs.declared.job.Task.{Task}
use Rattle.log_model.specs.declared.row_kind.Actor.{Actor}
use Rattle.seen_facts.proofs.Request.Readers.{sent_reads}
use Rattle.seen_facts.specs.Rest.Between.{HasLoadDocument}
use Rattle.seen_laws.proofs.Keyed.{find_on_other}
use Rattle.std.proofs.Common.{Bool, List, None, Option, Some, ap, cond, false, inl, inr, refl, sym, true, ℕ, ◌==◌, ◌∙◌, ◌≡◌, ◌⊎◌}
use Rattle.std.specs.Prelude.{option_map}
use Rattle.tab_ids.specs.declared.DocId.{DocId}
use Rattle.tab_ids.specs.declared.ReqId.{ReqId}
use Rattle.tab_ids.specs.declared.StateId.{StateId}
use Rattle.log_model.specs.declared.job.Task.TheVariants as tasks
use Rattle.log_model.specs.declared.row_kind.RowKind.TheVariants as rows

-- a document of the state is there, or being made
pub record HasOne (s : Seen) (state : StateId) : Type 0 where
  pub doc : DocId
  pub d : Document
  pub found : document_of s doc ≡ Some d
  pub of_state : d.state ≡ state
  pub there : (is_usable d state ≡ true) ⊎ (is_being_made d ≡ true)

-- the state is that of an ongoing load
pub record IsLoads (s : Seen) (state : StateId) : Type 0 where
  pub req : ReqId
  pub q : Asked
  pub found : request_in s.requests req ≡ Some q
  pub ongoing : is_ongoing_load q ≡ true
  pub own : q.state ≡ Some state

-- ---- what has to stay

-- each ongoing load was one, and of its state there is a document still
pub loads_then : (s t : Seen) → ((req : ReqId) (l : Look) → look_of t req ≡ Some l → is_ongoing l ≡ true → look_of s req ≡ Some l) → ((state : StateId) → IsLoads s state → HasOne s state → HasOne t state) → LoadsHaveDocuments s → LoadsHaveDocuments t
loads_then s t looks docs are req q at on = by_old (request_in s.requests req) refl
  where
    was : option_map look (request_in s.requests req) ≡ Some (look q)
    was = looks req (look q) (ap (option_map look) at) on

    by_old : (o : Option Asked) → request_in s.requests req ≡ o → HasLoadDocument t q
    by_old None none = let never : None ≡ Some (look q) = sym (ap (option_map look) none) ∙ was in absurd cc
    by_old (Some old) found =
        let both : Some (look old) ≡ Some (look q) = sym (ap (option_map look) found) ∙ was in
        let same : look old ≡ look q = cc in
        let ongoing : is_ongoing_load old ≡ true = ap is_ongoing same ∙ on in
        let has : HasLoadDocument s old = are req old found ongoing in
        let one : HasOne t has.state = docs has.state (record { req = req; q = old; found = found; ongoing = ongoing; own = has.own }) (record { doc = has.doc; d = has.d; found = has.found; of_state = has.of_state; there = has.there }) in
        record {
          state = has.state;
          own = ap (λ (l : Look). l.state) (sym same) ∙ has.own;
          doc = one.doc;
          d = one.d;
          found = one.found;
          of_state = one.of_state;
          there = one.there;
        }

-- where the documents stay
pub loads_same : (s t : Seen) → ((req : ReqId) (l : Look) → look_of t req ≡ Some l → is_ongoing l ≡ true → look_of s req ≡ Some l) → ((doc : DocId) → document_of t doc ≡ document_of s doc) → LoadsHaveDocuments s → LoadsHaveDocuments t
loads_same s t looks same =
    loads_then s t looks (λ state is one. record { doc = one.doc; d = one.d; found = same one.doc ∙ one.found; of_state = one.of_state; there = one.there })

-- ---- one order

module _ (s : Seen) (event : ℕ) (actor : Actor) (job : Job) where
  abbrev t : Seen
  t = next s event actor (rows.Sent job)

  -- what stays of a document
  record Stays (doc : DocId) (d : Document) : Type 0 where
    then_ : Document
    found : document_of t doc ≡ Some then_
    state : then_.state ≡ d.state
    usable : (state_ : StateId) → is_usable then_ state_ ≡ is_usable d state_
    made : is_being_made then_ ≡ is_being_made d

  addressed_stays : (task : Task) → t.documents ≡ on_document job.doc (addressed task) s.documents → (doc : DocId) (d : Document) → document_of s doc ≡ Some d → Stays doc d
  addressed_stays task is doc d found =
      record {
        then_ = cond (d.nr.0 == job.doc.0) (addressed task d) d;
        found = found_on s event actor job (addressed task) (λ x. refl) is doc ∙ ap (option_map (λ (x : Document). cond (x.nr.0 == job.doc.0) (addressed task x) x)) found;
        state = state_by (d.nr.0 == job.doc.0);
        usable = λ state_. usable_by state_ (d.nr.0 == job.doc.0);
        made = made_by (d.nr.0 == job.doc.0);
      }
    where
      state_by : (b : Bool) → (let x : Document = cond b (addressed task d) d in x.state) ≡ d.state
      state_by true = refl
      state_by false = refl

      usable_by : (state_ : StateId) (b : Bool) → (let x : Document = cond b (addressed task d) d in is_usable x state_) ≡ is_usable d state_
      usable_by state_ true = refl
      usable_by state_ false = refl

      made_by : (b : Bool) → (let x : Document = cond b (addressed task d) d in is_being_made x) ≡ is_being_made d
      made_by true = refl
      made_by false = refl

  same_stays : (doc : DocId) (d : Document) → document_of t doc ≡ Some d → Stays doc d
  same_stays doc d found =
      record { then_ = d; found = found; state = refl; usable = λ state_. refl; made = refl }

  stays_by : (task : Task) → job.task ≡ task → (doc : DocId) (d : Document) → DiscardsNone task ⊎ ((job.doc.0 == doc.0) ≡ false) → document_of s doc ≡ Some d → Stays doc d
  stays_by (tasks.Activate entry epoch long at memo address) is doc d may =
      addressed_stays (tasks.Activate entry epoch long at memo address) (documents_are s event actor job (tasks.Activate entry epoch long at memo address) is) doc d
  stays_by (tasks.Populate nav state address initial) is doc d may = λ found.
      same_stays doc d (found_more s event actor job (new_document s job nav state) (documents_are s event actor job (tasks.Populate nav state address initial) is) doc d found)
  stays_by (tasks.Update long at) is doc d may =
      addressed_stays (tasks.Update long at) (documents_are s event actor job (tasks.Update long at) is) doc d
  stays_by tasks.Freeze is doc d may =
      addressed_stays tasks.Freeze (documents_are s event actor job tasks.Freeze is) doc d
  stays_by tasks.Discard is doc d (inl never) = absurd never
  stays_by tasks.Discard is doc d (inr apart) = λ found.
      same_stays doc d
      (ap (λ (l : List Document). let x : Seen = record s { documents = l } in document_of x doc) (documents_are s event actor job tasks.Discard is)
      ∙ find_on_other (λ (x : Document). x.nr.0) (λ (x : Document). record x { is_discarded = true }) job.doc.0 doc.0 s.documents (λ x. refl) apart
      ∙ found)
  stays_by (tasks.Ask slot cause) is doc d may =
      addressed_stays (tasks.Ask slot cause) (documents_are s event actor job (tasks.Ask slot cause) is) doc d
  stays_by (tasks.DoFragment req mode address) is doc d may =
      addressed_stays (tasks.DoFragment req mode address) (documents_are s event actor job (tasks.DoFragment req mode address) is) doc d

  -- the document of the order is no ongoing load's
  abbrev pub IsNoLoads : Type 0
  IsNoLoads = (d : Document) → document_of s job.doc ≡ Some d → IsLoads s d.state → ⊥

  -- it discards none, or one of no ongoing load
  pub loads_sent : DiscardsNone job.task ⊎ IsNoLoads → LoadsHaveDocuments s → LoadsHaveDocuments t
  loads_sent may =
      loads_then s t (λ req l at on. sym (sent_reads look look_blind s job job.task s.requests req) ∙ at) docs
    where
      docs : (state : StateId) → IsLoads s state → HasOne s state → HasOne t state
      docs state its one = stays (stays_by job.task refl one.doc one.d (apart may) one.found)
        where
          apart : DiscardsNone job.task ⊎ IsNoLoads → DiscardsNone job.task ⊎ ((job.doc.0 == one.doc.0) ≡ false)
          apart (inl none) = inl none
          apart (inr not_its) = inr (by_test (job.doc.0 == one.doc.0) refl)
            where
              by_test : (b : Bool) → (job.doc.0 == one.doc.0) ≡ b → (job.doc.0 == one.doc.0) ≡ false
              by_test false is = is
              by_test true is =
                  let same : job.doc ≡ one.doc = doc_same job.doc one.doc is in
                  absurd (not_its one.d (ap (λ (x : DocId). document_of s x) same ∙ one.found) (record { req = its.req; q = its.q; found = its.found; ongoing = its.ongoing; own = its.own ∙ ap (λ (x : StateId). Some x) (sym one.of_state) }))

          there : (x : Document) → ((state_ : StateId) → is_usable x state_ ≡ is_usable one.d state_) → is_being_made x ≡ is_being_made one.d → (is_usable one.d state ≡ true) ⊎ (is_being_made one.d ≡ true) → (is_usable x state ≡ true) ⊎ (is_being_made x ≡ true)
          there x usable made (inl is) = inl (usable state ∙ is)
          there x usable made (inr is) = inr (made ∙ is)

          stays : Stays one.doc one.d → HasOne t state
          stays so =
              record { doc = one.doc; d = so.then_; found = so.found; of_state = so.state ∙ one.of_state; there = there so.then_ so.usable so.made one.there }
