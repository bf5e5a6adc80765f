-- A request as it was and as it is after a change, and what of the requests in their checks goes on to hold.
use Rattle.std.proofs.Common.{◌≡◌, ℕ, Bool, true, false, cond, ◌&&◌, ◌||◌, ◌==◌, List, [], ◌∷◌, map, Option, Some, refl, sym, ap, ◌∙◌, arith}
use Rattle.std.specs.List.{list_all}
use Rattle.std.proofs.lemmas.Bool.{and_parts}
use Rattle.std.proofs.lemmas.Bool.Decides.{nat_tests}
use Rattle.tab_ids.specs.declared.DocId.{DocId}
use Rattle.tab_ids.specs.declared.JobId.{JobId}
use Rattle.tab_ids.specs.declared.NavId.{NavId}
use Rattle.tab_ids.specs.declared.ReqId.{ReqId}
use Rattle.tab_ids.specs.declared.StateId.{StateId}
use Rattle.log_model.specs.declared.change.Change.{Change}
use Rattle.log_model.specs.declared.job.Why.{Why}
use Rattle.log_model.specs.declared.job.Why.TheVariants as whys
use Rattle.log_model.specs.declared.outcome.Ending.{Ending}
use Rattle.log_model.specs.declared.request.Request.{Request}
use Rattle.log_model.specs.AfterRequests.{on_asking, on_request, on_served}
use Rattle.log_model.specs.Places.{has_passed_with, is_gone, is_load, is_reload, is_settled_asking, is_traversal, is_under_way, may_leave}
use Rattle.log_model.specs.Seen.{Asked, Asking, Seen, request_in, request_of}
use Rattle.seen_facts.proofs.Asked.Passed.{passes_more}
use Rattle.seen_facts.proofs.Each.Runs.{each_asked_on}
use Rattle.unasked_dues.specs.Checking.{AllOthersPass, AreChecking, AreNumbered, NoOtherRuns}
use Rattle.checking_facts.specs.States.{AreBegun}

-- ---- one request

-- numbers that pass the test are the same
pub req_same : (a b : ReqId) → (a.0 == b.0) ≡ true → a ≡ b
req_same a b e =
    let n : a.0 ≡ b.0 = grind (arith, nat_tests, e) in ap (λ (i : ℕ). let x : ReqId = record { 0 = i } in x) n

-- what was moved, shown or changed for a request, and the document that was sent to a fragment
pub record Deeds : Type 0 where
  pub moved : List NavId
  pub activated : List NavId
  pub change : Option Change
  pub fragment : Option DocId

-- of a request
abbrev pub deeds_of : Asked → Deeds
deeds_of q = record { moved = q.moved; activated = q.activated; change = q.change; fragment = q.fragment }

-- of a request in its check what was done stays, and one that isn't passes still; none is under way that wasn't, and none has another document state, but those that begin
pub record Grows (checking begins : ReqId → Bool) (gone : DocId → Bool) (req : ReqId) (p q : Asked) : Type 0 where
  pub nr : q.nr ≡ p.nr
  pub what : q.what ≡ p.what
  pub starts : p.is_started ≡ true → q.is_started ≡ true
  pub runs : begins req ≡ false → is_under_way q ≡ true → is_under_way p ≡ true
  pub passes : checking req ≡ false → has_passed_with gone p ≡ true → has_passed_with gone q ≡ true
  pub still : checking req ≡ true → deeds_of q ≡ deeds_of p
  pub state : begins req ≡ false → q.state ≡ p.state

-- whatever no check reads
pub record Looks : Type 0 where
  pub nr : ReqId
  pub what : Request
  pub is_started : Bool
  pub is_under_way : Bool
  pub state : Option StateId
  pub asks : List Asking
  pub prompted : Option DocId
  pub answered : Option Bool
  pub deeds : Deeds

-- of a request, so read
abbrev pub looks_of : Asked → Looks
looks_of q =
    record {
      nr = q.nr;
      what = q.what;
      is_started = q.is_started;
      is_under_way = is_under_way q;
      state = q.state;
      asks = q.asks;
      prompted = q.prompted;
      answered = q.answered;
      deeds = deeds_of q;
    }

module _ (checking begins : ReqId → Bool) (gone : DocId → Bool) where
  -- under the numbers and documents at hand
  abbrev pub Goes : ReqId → Asked → Asked → Type 0
  Goes req p q = Grows checking begins gone req p q

  -- a request that stays
  pub same_goes : (req : ReqId) (q : Asked) → Goes req q q
  same_goes req q = record { nr = refl; what = refl; starts = λ is. is; runs = λ off is. is; passes = λ off is. is; still = λ on. refl; state = λ off. refl }

  -- two changes are one
  pub goes_then : (req : ReqId) (p q r : Asked) → Goes req p q → Goes req q r → Goes req p r
  goes_then req p q r one two =
      record {
        nr = two.nr ∙ one.nr;
        what = two.what ∙ one.what;
        starts = λ is. two.starts (one.starts is);
        runs = λ off is. one.runs off (two.runs off is);
        passes = λ off is. two.passes off (one.passes off is);
        still = λ on. two.still on ∙ one.still on;
        state = λ off. two.state off ∙ one.state off;
      }

  -- ---- all of them

  -- each request is one of these, as it was
  abbrev pub AllGo : List Asked → List Asked → Type 0
  AllGo old new =
      (req : ReqId) (q : Asked) → request_in new req ≡ Some q → (p : Asked) × (request_in old req ≡ Some p) × Goes req p q

  pub all_same : (asked : List Asked) → AllGo asked asked
  all_same asked req q at = (q, at, same_goes req q)

  -- one of them is changed
  pub all_on : (old new : List Asked) (req : ReqId) (f : Asked → Asked) → ((q : Asked) → Goes req q (f q)) → AllGo old new → AllGo old (on_request req f new)
  all_on old new req f own all =
      each_asked_on (λ r q. (p : Asked) × (request_in old r ≡ Some p) × Goes r p q) (λ r q. (p : Asked) × (request_in old r ≡ Some p) × Goes r p q) new req f (λ r q apart is. is) (λ q at is. (is.0, is.1, goes_then req is.0 q (f q) is.2 (own q))) all

  -- that of an order
  pub all_served : (old : List Asked) (why : Why) (f : Asked → Asked) → ((req : ReqId) → why ≡ whys.Req req → (q : Asked) → Goes req q (f q)) → AllGo old (on_served why f old)
  all_served old (whys.Req req) f own = all_on old old req f (own req refl) (all_same old)
  all_served old whys.Start f own = all_same old
  all_served old whys.Evict f own = all_same old
  all_served old (whys.Death death) f own = all_same old

-- ---- what goes on to hold

module _ (checking begins : ReqId → Bool) (s t : Seen) (all : AllGo checking begins (is_gone s) s.requests t.requests) where
  -- requests have their numbers
  pub go_numbered : AreNumbered s → AreNumbered t
  go_numbered numbered req q at = let p = all req q at in p.2.nr ∙ numbered req p.0 p.1

  -- the others have passed
  pub go_others : ((doc : DocId) → is_gone s doc ≡ true → is_gone t doc ≡ true) → AllOthersPass checking s → AllOthersPass checking t
  go_others stays others req q at off =
      let p = all req q at in
      passes_more (is_gone s) (is_gone t) stays q (p.2.passes off (others req p.0 p.1 off))

  -- those in their checks have begun
  pub go_begun : AreBegun checking s → AreBegun checking t
  go_begun begun req q at on = let p = all req q at in p.2.starts (begun req p.0 p.1 on)

  -- and done nothing
  pub go_checks : AreChecking checking s → AreChecking checking t
  go_checks checks req q at on =
      let p = all req q at in
      let was = checks req p.0 p.1 on in
      let still : deeds_of q ≡ deeds_of p.0 = p.2.still on in
      record {
        nr = p.2.nr ∙ was.nr;
        checked = ap (λ (w : Request). is_load w || is_traversal w || is_reload w) p.2.what ∙ was.checked;
        unmoved = ap (λ (d : Deeds). d.moved) still ∙ was.unmoved;
        shows = ap (λ (d : Deeds). d.activated) still ∙ was.shows;
        unchanged = ap (λ (d : Deeds). d.change) still ∙ was.unchanged;
        unsent = ap (λ (d : Deeds). d.fragment) still ∙ was.unsent;
      }

  -- and a traversal in its check is alone
  pub go_alone : ((req by : ReqId) (q r : Asked) → request_of t req ≡ Some q → request_of t by ≡ Some r → is_under_way q ≡ true → is_under_way r ≡ true → is_traversal q.what ≡ true → is_traversal r.what ≡ true → checking req ≡ true → (begins req || begins by) ≡ true → q.nr ≡ r.nr) → NoOtherRuns checking s → NoOtherRuns checking t
  go_alone apart alone req by q r at there runs runs_ goes goes_ on = by_begun (begins req) (begins by) refl refl
    where
      by_begun : (b c : Bool) → begins req ≡ b → begins by ≡ c → q.nr ≡ r.nr
      by_begun true c e f = apart req by q r at there runs runs_ goes goes_ on (rw e refl)
      by_begun false true e f = apart req by q r at there runs runs_ goes goes_ on (rw e f)
      by_begun false false e f =
          let p = all req q at in
          let o = all by r there in
          p.2.nr
          ∙ alone req by p.0 o.0 p.1 o.1 (p.2.runs e runs) (o.2.runs f runs_) (ap is_traversal (sym p.2.what) ∙ goes) (ap is_traversal (sym o.2.what) ∙ goes_) on
          ∙ sym o.2.nr

-- ---- changes of one request

module _ (checking begins : ReqId → Bool) (gone : DocId → Bool) (req : ReqId) where
  -- a change that no check reads
  pub unread_goes : (p q : Asked) → looks_of q ≡ looks_of p → Goes checking begins gone req p q
  unread_goes p q same =
      record {
        nr = ap (λ (x : Looks). x.nr) same;
        what = ap (λ (x : Looks). x.what) same;
        starts = λ is. ap (λ (x : Looks). x.is_started) same ∙ is;
        runs = λ off is. sym (ap (λ (x : Looks). x.is_under_way) same) ∙ is;
        passes = λ off is. passes_same is;
        still = λ on. ap (λ (x : Looks). x.deeds) same;
        state = λ off. ap (λ (x : Looks). x.state) same;
      }
    where
      passed : Looks → Bool
      passed x = list_all (is_settled_asking gone) x.asks && may_leave (record p { prompted = x.prompted; answered = x.answered })

      passes_same : has_passed_with gone p ≡ true → has_passed_with gone q ≡ true
      passes_same is = ap passed same ∙ is

  -- an end
  pub ended_goes : (ending : Ending) (q : Asked) → Goes checking begins gone req q (record q { ending = Some ending })
  ended_goes ending q =
      record { nr = refl; what = refl; starts = λ is. is; runs = λ off is. never q.is_started is; passes = λ off is. is; still = λ on. refl; state = λ off. refl }
    where
      never : (b : Bool) → (b && false) ≡ true → is_under_way q ≡ true
      never true is = absurd cc
      never false is = absurd cc

  -- a beginning, of one that begins
  pub begun_goes : (p q : Asked) → begins req ≡ true → q.nr ≡ p.nr → q.what ≡ p.what → (p.is_started ≡ true → q.is_started ≡ true) → (has_passed_with gone p ≡ true → has_passed_with gone q ≡ true) → deeds_of q ≡ deeds_of p → Goes checking begins gone req p q
  begun_goes p q on nr what starts passes still =
      record { nr = nr; what = what; starts = starts; runs = λ off is. (let never : true ≡ false = sym on ∙ off in absurd cc); passes = λ off is. passes is; still = λ on_. still; state = λ off. (let never : true ≡ false = sym on ∙ off in absurd cc) }

  -- one of a request that isn't in its check
  pub outside_goes : (p q : Asked) → checking req ≡ false → q.nr ≡ p.nr → q.what ≡ p.what → q.state ≡ p.state → (p.is_started ≡ true → q.is_started ≡ true) → (is_under_way q ≡ true → is_under_way p ≡ true) → (has_passed_with gone p ≡ true → has_passed_with gone q ≡ true) → Goes checking begins gone req p q
  outside_goes p q off nr what state starts runs passes =
      record { nr = nr; what = what; starts = starts; runs = λ b is. runs is; passes = λ o is. passes is; still = λ on. (let never : true ≡ false = sym on ∙ off in absurd cc); state = λ b. state }

  -- one of a request that is in its check: what it asks
  pub inside_goes : (p q : Asked) → checking req ≡ true → q.nr ≡ p.nr → q.what ≡ p.what → q.state ≡ p.state → (p.is_started ≡ true → q.is_started ≡ true) → (is_under_way q ≡ true → is_under_way p ≡ true) → deeds_of q ≡ deeds_of p → Goes checking begins gone req p q
  inside_goes p q on nr what state starts runs still =
      record { nr = nr; what = what; starts = starts; runs = λ b is. runs is; passes = λ off is. (let never : true ≡ false = sym on ∙ off in absurd cc); still = λ o. still; state = λ b. state }

  -- ---- answers

  -- what was settled is still
  heard_settled : (job : JobId) (f : Asking → Asking) → ((asking : Asking) → is_settled_asking gone asking ≡ true → is_settled_asking gone (f asking) ≡ true) → (asks : List Asking) → list_all (is_settled_asking gone) asks ≡ true → list_all (is_settled_asking gone) (map (λ (asking : Asking). cond (asking.job.0 == job.0) (f asking) asking) asks) ≡ true
  heard_settled job f own [] is = refl
  heard_settled job f own (asking ∷ asks) is =
      let parts = and_parts (is_settled_asking gone asking) (list_all (is_settled_asking gone) asks) is in
      rw (by_test (asking.job.0 == job.0) parts.0, heard_settled job f own asks parts.1) refl
    where
      by_test : (b : Bool) → is_settled_asking gone asking ≡ true → is_settled_asking gone (cond b (f asking) asking) ≡ true
      by_test true e = own asking e
      by_test false e = e

  -- a question is answered, or its answer delivered
  pub heard_goes : (job : JobId) (f : Asking → Asking) → ((asking : Asking) → is_settled_asking gone asking ≡ true → is_settled_asking gone (f asking) ≡ true) → (q : Asked) → Goes checking begins gone req q (on_asking job f q)
  heard_goes job f own q =
      record { nr = refl; what = refl; starts = λ is. is; runs = λ b is. is; passes = λ off is. passes is; still = λ on. refl; state = λ b. refl }
    where
      passes : has_passed_with gone q ≡ true → has_passed_with gone (on_asking job f q) ≡ true
      passes is =
          let parts = and_parts (list_all (is_settled_asking gone) q.asks) (may_leave q) is in
          rw (heard_settled job f own q.asks parts.0) parts.1
