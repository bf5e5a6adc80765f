-- The requests of a tab of frames stay plain from row to row.
use Rattle.std.proofs.Common.{◌≡◌, ◌+◌, Bool, true, false, List, [], ◌∷◌, ◌++◌, length, Option, Some, refl, sym, ap, ◌∙◌, subst}
use Rattle.std.specs.Prelude.{is_some}
use Rattle.tab_ids.specs.declared.DocId.{DocId}
use Rattle.tab_ids.specs.declared.EntryId.{EntryId}
use Rattle.tab_ids.specs.declared.NavId.{NavId}
use Rattle.tab_ids.specs.declared.ReqId.{ReqId}
use Rattle.tab_ids.specs.declared.Step.{Step}
use Rattle.log_model.specs.declared.change.Change.{Change}
use Rattle.log_model.specs.declared.job.Why.{Why}
use Rattle.log_model.specs.declared.job.Why.TheVariants as whys
use Rattle.log_model.specs.declared.made.Made.{Made}
use Rattle.log_model.specs.declared.outcome.Ending.{Ending}
use Rattle.log_model.specs.declared.outcome.Ending.TheVariants as endings
use Rattle.log_model.specs.declared.request.Request.{Request}
use Rattle.log_model.specs.Places.{is_traversal, has_passed_with}
use Rattle.log_model.specs.Seen.{Seen, Asked, Asking, request_in}
use Rattle.log_model.specs.After.{new_request, ended}
use Rattle.log_model.specs.AfterRequests.{on_request, on_served, request_begun}
use Rattle.seen_facts.proofs.Request.Readers.{SameReads, reads_then, on_read}
use Rattle.seen_facts.specs.Each.Runs.{EachAsked}
use Rattle.seen_facts.proofs.Each.Runs.{each_asked_on, each_asked_more}
use Rattle.seen_facts.proofs.Each.Courses.{was_asked}
use Rattle.tab_facts.specs.FrameTab.Asking.{IsFrameRequest, IsPlainlyAsked}

-- ---- what is read of a request here

pub record Plainness : Type 0 where
  pub nr : ReqId
  pub what : Request
  pub asks : List Asking
  pub prompted : Option DocId
  pub is_started : Bool
  pub goal : Option Step
  pub fragment : Option DocId
  pub is_not_found : Bool
  pub activated : List NavId
  pub moved : List NavId

abbrev pub plainness : Asked → Plainness
plainness q =
    record {
      nr = q.nr;
      what = q.what;
      asks = q.asks;
      prompted = q.prompted;
      is_started = q.is_started;
      goal = q.goal;
      fragment = q.fragment;
      is_not_found = q.is_not_found;
      activated = q.activated;
      moved = q.moved;
    }

pub plain_same : (req : ReqId) (p q : Asked) → plainness p ≡ plainness q → IsPlainlyAsked req p → IsPlainlyAsked req q
plain_same req p q same is =
    record {
      nr = sym (ap (λ (c : Plainness). c.nr) same) ∙ is.nr;
      what = subst (λ (w : Request). IsFrameRequest w) (ap (λ (c : Plainness). c.what) same) is.what;
      unasked = sym (ap (λ (c : Plainness). c.asks) same) ∙ is.unasked;
      unprompted = sym (ap (λ (c : Plainness). c.prompted) same) ∙ is.unprompted;
      unstarted = λ no_. sym (ap (λ (c : Plainness). c.is_started) same) ∙ is.unstarted (ap (λ (c : Plainness). is_traversal c.what) same ∙ no_);
      goal = λ begun. sym (ap (λ (c : Plainness). is_some c.goal) same) ∙ is.goal (ap (λ (c : Plainness). c.is_started) same ∙ begun);
      fragment = sym (ap (λ (c : Plainness). c.fragment) same) ∙ is.fragment;
      found = sym (ap (λ (c : Plainness). c.is_not_found) same) ∙ is.found;
      moved = λ goes. sym (ap (λ (c : Plainness). c.moved) same) ∙ is.moved (ap (λ (c : Plainness). is_traversal c.what) same ∙ goes) ∙ ap (λ (c : Plainness). c.activated) same;
    }

pub plain_again : (asked next_ : List Asked) → SameReads plainness asked next_ → EachAsked IsPlainlyAsked asked → EachAsked IsPlainlyAsked next_
plain_again asked next_ same each req q at =
    let was : (p : Asked) × (request_in asked req ≡ Some p) × (plainness p ≡ plainness q) = was_asked plainness asked next_ same req q at in
    plain_same req was.0 q was.2 (each req was.0 was.1)

-- ---- a request is accepted

pub plain_more : (asked : List Asked) (req : ReqId) (doc : Option DocId) (what : Request) → req.0 ≡ length asked + 1 → IsFrameRequest what → EachAsked IsPlainlyAsked asked → EachAsked IsPlainlyAsked (asked ++ new_request req doc what ∷ [])
plain_more asked req doc what nr is each =
    each_asked_more IsPlainlyAsked asked (new_request req doc what) req nr
    (record {
      nr = refl;
      what = is;
      unasked = refl;
      unprompted = refl;
      unstarted = λ no_. refl;
      goal = λ begun. (let never : false ≡ true = begun in absurd cc);
      fragment = refl;
      found = refl;
      moved = λ goes. refl;
    }) each

-- ---- something is made of it, it ends, or its change is applied: of which nothing is read here

module _ {B : Type 0} (read : Asked → B) where
  pub made_reads : (asked : List Asked) (made : Made) → ((q : Asked) → read (record q { made = Some made }) ≡ read q) → SameReads read asked (on_request made.req (λ q. record q { made = Some made }) asked)
  made_reads asked made same = on_read read asked made.req (λ q. record q { made = Some made }) same

  pub ended_reads : (asked : List Asked) (req : ReqId) (ending : Ending) → ((q : Asked) → read (record q { ending = Some ending }) ≡ read q) → SameReads read asked (ended asked req ending)
  ended_reads asked req ending same = on_read read asked req (λ q. record q { ending = Some ending }) same

  -- the requests once a change is applied
  pub applied_reads : (asked : List Asked) (req : ReqId) (change : Change) (took : List EntryId) → ((q : Asked) → read (record q { ending = Some endings.Applied }) ≡ read q) → ((q : Asked) → read (record q { change = Some change }) ≡ read q) → ((q : Asked) → read (record q { took = took }) ≡ read q) → SameReads read asked (on_request req (λ q. record q { took = took }) (on_request req (λ q. record q { change = Some change }) (ended asked req endings.Applied)))
  applied_reads asked req change took ends changes takes =
      reads_then read asked (ended asked req endings.Applied) _ (ended_reads asked req endings.Applied ends)
      (reads_then read (ended asked req endings.Applied) (on_request req (λ q. record q { change = Some change }) (ended asked req endings.Applied)) _ (on_read read (ended asked req endings.Applied) req (λ q. record q { change = Some change }) changes)
      (on_read read (on_request req (λ q. record q { change = Some change }) (ended asked req endings.Applied)) req (λ q. record q { took = took }) takes))

-- ---- a traversal begins

module _ (s : Seen) (req : ReqId) (goal : Step) (traverses : (q : Asked) → request_in s.requests req ≡ Some q → is_traversal q.what ≡ true) where
  abbrev begin : Asked → Asked
  begin q = record q { is_started = true; goal = Some goal }

  abbrev pub begun_ : List Asked
  begun_ = on_request req (request_begun s) (on_request req begin s.requests)

  pub plain_begun : EachAsked IsPlainlyAsked s.requests → EachAsked IsPlainlyAsked begun_
  plain_begun each =
      plain_again (on_request req begin s.requests) begun_ (on_read plainness (on_request req begin s.requests) req (request_begun s) (λ q. refl))
      (each_asked_on IsPlainlyAsked IsPlainlyAsked s.requests req begin (λ r q apart is. is) (λ q at is. record {
        nr = is.nr;
        what = is.what;
        unasked = is.unasked;
        unprompted = is.unprompted;
        unstarted = λ no_. (let never : true ≡ false = sym (traverses q at) ∙ no_ in absurd cc);
        goal = λ begun. refl;
        fragment = is.fragment;
        found = is.found;
        moved = is.moved;
      }) each)

-- ---- a navigable is moved for a request: for a traversal, as it is shown a document

pub plain_moved : (asked : List Asked) (why : Why) (f : Asked → Asked) → ((q : Asked) → record (plainness q) { activated = []; moved = [] } ≡ record (plainness (f q)) { activated = []; moved = [] }) → ((req : ReqId) (q : Asked) → why ≡ whys.Req req → request_in asked req ≡ Some q → is_traversal q.what ≡ true → q.moved ≡ q.activated → (f q).moved ≡ (f q).activated) → EachAsked IsPlainlyAsked asked → EachAsked IsPlainlyAsked (on_served why f asked)
plain_moved asked (whys.Req req) f same moves each =
    each_asked_on IsPlainlyAsked IsPlainlyAsked asked req f (λ r q apart is. is) own each
  where
    own : (q : Asked) → request_in asked req ≡ Some q → IsPlainlyAsked req q → IsPlainlyAsked req (f q)
    own q at is =
        record {
          nr = sym (ap (λ (c : Plainness). c.nr) (same q)) ∙ is.nr;
          what = subst (λ (w : Request). IsFrameRequest w) (ap (λ (c : Plainness). c.what) (same q)) is.what;
          unasked = sym (ap (λ (c : Plainness). c.asks) (same q)) ∙ is.unasked;
          unprompted = sym (ap (λ (c : Plainness). c.prompted) (same q)) ∙ is.unprompted;
          unstarted = λ no_. sym (ap (λ (c : Plainness). c.is_started) (same q)) ∙ is.unstarted (ap (λ (c : Plainness). is_traversal c.what) (same q) ∙ no_);
          goal = λ begun. sym (ap (λ (c : Plainness). is_some c.goal) (same q)) ∙ is.goal (ap (λ (c : Plainness). c.is_started) (same q) ∙ begun);
          fragment = sym (ap (λ (c : Plainness). c.fragment) (same q)) ∙ is.fragment;
          found = sym (ap (λ (c : Plainness). c.is_not_found) (same q)) ∙ is.found;
          moved = λ goes. (let goes_then : is_traversal q.what ≡ true = ap (λ (c : Plainness). is_traversal c.what) (same q) ∙ goes in moves req q refl at goes_then (is.moved goes_then));
        }
plain_moved asked whys.Start f same moves each = each
plain_moved asked (whys.Death death) f same moves each = each
plain_moved asked whys.Evict f same moves each = each

-- ---- plain requests have passed their checks

pub plain_passes : (gone : DocId → Bool) (req : ReqId) (q : Asked) → IsPlainlyAsked req q → has_passed_with gone q ≡ true
plain_passes gone req q is = rw is.unasked (rw is.unprompted refl)
