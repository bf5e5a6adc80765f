-- What a row has to leave, so that all requests stay plain.
use Rattle.std.proofs.Common.{◌≡◌, ◌+◌, Bool, true, false, ◌&&◌, ◌==◌, List, ◌++◌, [], ◌∷◌, length, Option, Some, None, refl, sym, ap, ◌∙◌, subst, arith}
use Rattle.std.specs.Prelude.{is_none}
use Rattle.std.proofs.lemmas.Bool.Decides.{nat_tests}
use Rattle.tab_ids.specs.declared.ReqId.{ReqId}
use Rattle.log_model.specs.declared.request.Request.{Request}
use Rattle.log_model.specs.declared.request.Request.TheVariants as requests
use Rattle.log_model.specs.Places.{is_load, is_traversal}
use Rattle.log_model.specs.Seen.{Seen, Asked, Desk, request_in}
use Rattle.seen_facts.proofs.Coord.Unread.{DesksLeft}
use Rattle.seen_facts.proofs.Request.Readers.{IsBlind, SameReads}
use Rattle.seen_facts.specs.Each.Items.{NoneDied}
use Rattle.seen_facts.specs.Each.Runs.{EachAsked, OnlyRuns, is_run, is_this}
use Rattle.seen_facts.proofs.Each.Courses.{is_asked}
use Rattle.seen_facts.proofs.Each.Earlier.{old_apart, still_there}
use Rattle.seen_facts.specs.Asked.Asking.{ArePlain, HavePassed, IsAskedPlainly, IsThere}
use Rattle.seen_facts.proofs.Asked.Plainly.{Plainness, plain_again, plainness}

-- ---- a traversal and a load

-- a load is no traversal
pub no_traversal : (what : Request) → is_load what ≡ true → is_traversal what ≡ false
no_traversal (requests.Load nav mode address) loads = refl
no_traversal (requests.Go delta) never = cc
no_traversal (requests.Poke nav action) never = cc
no_traversal (requests.Reload nav) never = cc

-- a traversal is no load
pub no_load : (what : Request) → is_traversal what ≡ true → is_load what ≡ false
no_load (requests.Load nav mode address) never = cc
no_load (requests.Go delta) goes = refl
no_load (requests.Poke nav action) goes = refl
no_load (requests.Reload nav) goes = refl

-- what is no traversal doesn't run
pub unrun : (q : Asked) → is_traversal q.what ≡ false → is_run q ≡ false
unrun q other = rw other (by_tests q.is_started (is_none q.ending))
  where
    by_tests : (a b : Bool) → ((a && b) && false) ≡ false
    by_tests true true = refl
    by_tests true false = refl
    by_tests false b = refl

-- what a request asks doesn't look at what orders and answers add to it
pub what_blind : IsBlind (λ (q : Asked). q.what)
what_blind =
    record { moves = λ q activated moved. refl; asks = λ q asks. refl; fragments = λ q doc. refl; misses = λ q is. refl }

-- nor does whether it runs
pub run_blind : IsBlind is_run
run_blind =
    record { moves = λ q activated moved. refl; asks = λ q asks. refl; fragments = λ q doc. refl; misses = λ q is. refl }

-- ---- a request that is there

-- whatever is found by its number is the request
pub of_found : (asked : List Asked) (req : ReqId) (q : Asked) → request_in asked req ≡ Some q → (P : Asked → Type 0) → P q → (x : Asked) → request_in asked req ≡ Some x → P x
of_found asked req q there P is x at =
    let both : Some q ≡ Some x = sym there ∙ at in (let same : q ≡ x = cc in subst P same is)

-- ---- the traversal that runs is there still

-- where requests ask for the same
pub there_still : (s t : Seen) (req : ReqId) → SameReads (λ (q : Asked). q.what) s.requests t.requests → IsThere s req → IsThere t req
there_still s t req same there =
    let now : (q : Asked) × (request_in t.requests req ≡ Some q) × (q.what ≡ there.q.what) = is_asked (λ (q : Asked). q.what) s.requests t.requests same req there.q there.found in
    record { q = now.0; found = now.1; traverses = ap is_traversal now.2 ∙ there.traverses }

-- where a request has the next number
module _ (run : Option ReqId) (s : Seen) (new : Asked) (req : ReqId) (next : req.0 ≡ length s.requests + 1) (runs : (r : ReqId) → run ≡ Some r → IsThere s r) where
  -- it isn't the one that runs
  pub other_runs : is_this run req ≡ false
  other_runs = by_run run refl
    where
      by_run : (o : Option ReqId) → run ≡ o → is_this o req ≡ false
      by_run None e = refl
      by_run (Some r) e =
          let there : IsThere s r = runs r e in
          let apart : (req.0 == r.0) ≡ false = old_apart s.requests new there.q req r next there.found in
          grind (arith, nat_tests, apart)

  -- and that one is there still
  pub runs_still : (t : Seen) → t.requests ≡ s.requests ++ new ∷ [] → (r : ReqId) → run ≡ Some r → IsThere t r
  runs_still t are r e =
      let there : IsThere s r = runs r e in
      record { q = there.q; found = ap (λ (l : List Asked). request_in l r) are ∙ still_there s.requests new there.q req r next there.found; traverses = there.traverses }

-- ---- nobody dies

-- where processes change in their inputs alone
pub left_died : (s t : Seen) → DesksLeft s t → NoneDied s → NoneDied t
left_died s t left none proc =
    (ap (λ (desk : Desk). desk.known) (left proc).1 ∙ (none proc).0, ap (λ (desk : Desk). desk.killed) (left proc).1 ∙ (none proc).1)

-- ---- all of it

-- each request asks for what it did, is plain and has passed its check, this one runs, and nobody has died
pub record Leaves (run : Option ReqId) (s t : Seen) : Type 0 where
  pub whats : SameReads (λ (q : Asked). q.what) s.requests t.requests
  pub each : EachAsked IsAskedPlainly t.requests
  pub passed : HavePassed t
  pub only : OnlyRuns run t
  pub died : NoneDied t

-- where a row leaves this, the requests stay plain
pub left_plain : (run : Option ReqId) (s t : Seen) → ArePlain run s → Leaves run s t → ArePlain run t
left_plain run s t are leaves =
    record {
      each = leaves.each;
      passed = leaves.passed;
      only = leaves.only;
      runs = λ req e. there_still s t req leaves.whats (are.runs req e);
      died = leaves.died;
    }

-- where all that is read of requests is the same, but for how they end, and the same one runs
pub quiet_plain : (run : Option ReqId) (s t : Seen) → ArePlain run s → SameReads plainness s.requests t.requests → OnlyRuns run t → NoneDied t → HavePassed t → ArePlain run t
quiet_plain run s t are same only died passed =
    record {
      each = plain_again s.requests t.requests same are.each;
      passed = passed;
      only = only;
      runs = λ req e. still req (are.runs req e);
      died = died;
    }
  where
    still : (req : ReqId) → IsThere s req → IsThere t req
    still req there =
        let now : (q : Asked) × (request_in t.requests req ≡ Some q) × (plainness q ≡ plainness there.q) = is_asked plainness s.requests t.requests same req there.q there.found in
        record { q = now.0; found = now.1; traverses = ap (λ (c : Plainness). is_traversal c.what) now.2 ∙ there.traverses }
