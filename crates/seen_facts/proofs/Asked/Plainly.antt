-- Requests stay plain: where a change of one doesn't look at what is read here, where one is accepted, and where an order moves navigables for one.
use Rattle.std.proofs.Common.{◌≡◌, ◌+◌, Bool, true, false, ◌||◌, ◌==◌, List, [], ◌∷◌, ◌++◌, length, Option, Some, refl, sym, ap, ◌∙◌, subst}
use Rattle.std.specs.Prelude.{is_some}
use Rattle.tab_ids.specs.declared.DocId.{DocId}
use Rattle.tab_ids.specs.declared.JobId.{JobId}
use Rattle.tab_ids.specs.declared.NavId.{NavId}
use Rattle.tab_ids.specs.declared.ReqId.{ReqId}
use Rattle.tab_ids.specs.declared.Step.{Step}
use Rattle.log_model.specs.declared.job.Why.{Why}
use Rattle.log_model.specs.declared.job.Why.TheVariants as whys
use Rattle.log_model.specs.declared.request.Request.{Request}
use Rattle.log_model.specs.After.{new_request}
use Rattle.log_model.specs.AfterRequests.{on_asking, on_request, on_served, with_activated, with_moved}
use Rattle.log_model.specs.History.{has_nav}
use Rattle.log_model.specs.Places.{is_load, is_traversal}
use Rattle.log_model.specs.Seen.{Asked, Asking, request_in}
use Rattle.seen_facts.proofs.Request.Readers.{SameReads}
use Rattle.seen_facts.specs.Each.Runs.{EachAsked}
use Rattle.seen_facts.proofs.Each.Courses.{was_asked}
use Rattle.seen_facts.proofs.Each.Runs.{each_asked_more, each_asked_on}
use Rattle.seen_facts.specs.Asked.Asking.{IsAskedPlainly, IsTabRequest}

-- ---- what is read of a request

-- all that is said of a plain request is read of this
pub record Plainness : Type 0 where
  pub nr : ReqId
  pub what : Request
  pub is_started : Bool
  pub goal : Option Step
  pub fragment : Option DocId
  pub activated : List NavId
  pub moved : List NavId

-- this, of a request
abbrev pub plainness : Asked → Plainness
plainness q =
    record {
      nr = q.nr;
      what = q.what;
      is_started = q.is_started;
      goal = q.goal;
      fragment = q.fragment;
      activated = q.activated;
      moved = q.moved;
    }

-- a request of which the same is read is as plain
pub plain_same : (req : ReqId) (p q : Asked) → plainness p ≡ plainness q → IsAskedPlainly req p → IsAskedPlainly req q
plain_same req p q same is =
    record {
      nr = sym (ap (λ (c : Plainness). c.nr) same) ∙ is.nr;
      what = subst IsTabRequest (ap (λ (c : Plainness). c.what) same) is.what;
      unstarted = λ stays loads. sym (ap (λ (c : Plainness). c.is_started) same) ∙ is.unstarted (ap (λ (c : Plainness). is_traversal c.what) same ∙ stays) (ap (λ (c : Plainness). is_load c.what) same ∙ loads);
      goal = λ goes begun. sym (ap (λ (c : Plainness). is_some c.goal) same) ∙ is.goal (ap (λ (c : Plainness). is_traversal c.what) same ∙ goes) (ap (λ (c : Plainness). c.is_started) same ∙ begun);
      sent = λ loads. sym (ap (λ (c : Plainness). c.fragment) same) ∙ is.sent (ap (λ (c : Plainness). is_load c.what) same ∙ loads);
      begun = λ begun. sym (ap (λ (c : Plainness). c.fragment) same) ∙ is.begun (ap (λ (c : Plainness). c.is_started) same ∙ begun);
      moved = λ nav shown. sym (ap (λ (c : Plainness). has_nav c.moved nav) same) ∙ is.moved nav (ap (λ (c : Plainness). has_nav c.activated nav) same ∙ shown);
    }

-- requests of which the same is read are as plain
pub plain_again : (asked next_ : List Asked) → SameReads plainness asked next_ → EachAsked IsAskedPlainly asked → EachAsked IsAskedPlainly next_
plain_again asked next_ same each req q at =
    let was : (p : Asked) × (request_in asked req ≡ Some p) × (plainness p ≡ plainness q) = was_asked plainness asked next_ same req q at in
    plain_same req was.0 q was.2 (each req was.0 was.1)

-- ---- one request changes, or is accepted

-- a change of one request that leaves it plain
pub plain_on : (asked : List Asked) (req : ReqId) (f : Asked → Asked) → ((q : Asked) → request_in asked req ≡ Some q → IsAskedPlainly req q → IsAskedPlainly req (f q)) → EachAsked IsAskedPlainly asked → EachAsked IsAskedPlainly (on_request req f asked)
plain_on asked req f own each =
    each_asked_on IsAskedPlainly IsAskedPlainly asked req f (λ r q apart is. is) own each

-- the same, of the request that is the reason of an order
pub plain_served : (why : Why) (f : Asked → Asked) (asked : List Asked) → ((req : ReqId) (q : Asked) → IsAskedPlainly req q → IsAskedPlainly req (f q)) → EachAsked IsAskedPlainly asked → EachAsked IsAskedPlainly (on_served why f asked)
plain_served (whys.Req req) f asked own each = plain_on asked req f (λ q at is. own req q is) each
plain_served whys.Start f asked own each = each
plain_served whys.Evict f asked own each = each
plain_served (whys.Death death) f asked own each = each

-- a request more
pub plain_more : (asked : List Asked) (req : ReqId) (doc : Option DocId) (what : Request) → req.0 ≡ length asked + 1 → IsTabRequest what → EachAsked IsAskedPlainly asked → EachAsked IsAskedPlainly (asked ++ new_request req doc what ∷ [])
plain_more asked req doc what next is each =
    each_asked_more IsAskedPlainly asked (new_request req doc what) req next
    (record {
      nr = refl;
      what = is;
      unstarted = λ stays loads. refl;
      goal = λ goes begun. (let never : false ≡ true = begun in absurd cc);
      sent = λ loads. refl;
      begun = λ begun. refl;
      moved = λ nav shown. (let never : false ≡ true = shown in absurd cc);
    }) each

-- ---- questions for a request

-- its questions are none of that
pub asks_apart : (job : JobId) (f : Asking → Asking) (req : ReqId) (q : Asked) → IsAskedPlainly req q → IsAskedPlainly req (on_asking job f q)
asks_apart job f req q is =
    record {
      nr = is.nr;
      what = is.what;
      unstarted = is.unstarted;
      goal = is.goal;
      sent = is.sent;
      begun = is.begun;
      moved = is.moved;
    }

-- ---- navigables are moved for a request

any_behind : (a b : Bool) → b ≡ true → (a || b) ≡ true
any_behind true b e = refl
any_behind false b e = e

has_behind : (navs more : List NavId) (nav : NavId) → has_nav more nav ≡ true → has_nav (navs ++ more) nav ≡ true
has_behind [] more nav e = e
has_behind (n ∷ navs) more nav e =
    any_behind (n.0 == nav.0) (has_nav (navs ++ more) nav) (has_behind navs more nav e)

-- it moves more than before
pub moved_more : (navs : List NavId) (req : ReqId) (q : Asked) → IsAskedPlainly req q → IsAskedPlainly req (with_moved navs q)
moved_more navs req q is =
    record {
      nr = is.nr;
      what = is.what;
      unstarted = is.unstarted;
      goal = is.goal;
      sent = is.sent;
      begun = is.begun;
      moved = λ nav shown. has_behind navs q.moved nav (is.moved nav shown);
    }

-- it shows a navigable a document, which it moves thereby
pub shown_more : (shown : NavId) (req : ReqId) (q : Asked) → IsAskedPlainly req q → IsAskedPlainly req (with_activated shown q)
shown_more shown req q is =
    record {
      nr = is.nr;
      what = is.what;
      unstarted = is.unstarted;
      goal = is.goal;
      sent = is.sent;
      begun = is.begun;
      moved = λ nav has. by_first (shown.0 == nav.0) nav has (is.moved nav);
    }
  where
    by_first : (b : Bool) (nav : NavId) → (b || has_nav q.activated nav) ≡ true → (has_nav q.activated nav ≡ true → has_nav q.moved nav ≡ true) → (b || has_nav q.moved nav) ≡ true
    by_first true nav has more = refl
    by_first false nav has more = more has
