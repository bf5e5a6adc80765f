-- What is read of the requests stays, where a row changes them in other fields: who was moved, and which traversal runs.
use Rattle.tab_doors.specs.Look.{moved_by}
use Rattle.tab_doors.specs.Sleeping.{is_for}
use Rattle.tab_doors.specs.Ties.{IsRunning}
use Rattle.log_model.specs.After.{after, ended}
use Rattle.log_model.specs.AfterRequests.{entries_taken, on_request, on_served, request_begun, with_moved}
use Rattle.log_model.specs.History.{has_nav}
use Rattle.log_model.specs.Seen.{Asked, Seen, request_in}
use Rattle.log_model.specs.declared.change.Change.{Change}
use Rattle.log_model.specs.declared.job.Why.{Why}
use Rattle.log_model.specs.declared.job.Why.TheVariants as whys
use Rattle.log_model.specs.declared.outcome.Ending.{Ending}
use Rattle.log_model.specs.declared.row_kind.Actor.{Actor}
use Rattle.log_model.specs.declared.row_kind.RowKind.{RowKind}
use Rattle.seen_facts.proofs.Each.Courses.{is_asked, runs_again, runs_ended, runs_ended_other}
use Rattle.seen_facts.specs.Each.Runs.{is_run, is_this}
use Rattle.seen_facts.proofs.Request.LookUps.{on_itself}
use Rattle.seen_facts.proofs.Request.Readers.{SameReads, on_read, reads_then}
use Rattle.std.proofs.Common.{Bool, List, None, Option, Some, [], ap, arith, false, refl, suc, sym, true, zero, ℕ, ◌&&◌, ◌++◌, ◌-◌, ◌==◌, ◌||◌, ◌∙◌, ◌∷◌, ◌≡◌}
use Rattle.std.proofs.lemmas.Bool.Decides.{nat_tests}
use Rattle.std.specs.Option.{option_map_or}
use Rattle.std.specs.Prelude.{option_map, slice_get, slice_set}
use Rattle.tab_ids.specs.declared.NavId.{NavId}
use Rattle.tab_ids.specs.declared.ReqId.{ReqId}
use Rattle.tab_ids.specs.declared.Step.{Step}
use Rattle.log_model.specs.declared.outcome.Ending.TheVariants as endings
use Rattle.log_model.specs.declared.row_kind.RowKind.TheVariants as rows

abbrev pub moved_read : Asked → List NavId
moved_read q = q.moved

same_moved : (a b : Option Asked) → option_map moved_read a ≡ option_map moved_read b → option_map_or moved_read a [] ≡ option_map_or moved_read b []
same_moved None None is = refl
same_moved (Some a) (Some b) is = let same : a.moved ≡ b.moved = cc in same
same_moved None (Some b) is = cc
same_moved (Some a) None is = cc

pub moved_same : (asked next_ : List Asked) (run : Option ReqId) → SameReads moved_read asked next_ → moved_by next_ run ≡ moved_by asked run
moved_same asked next_ None same = refl
moved_same asked next_ (Some req) same = same_moved (request_in next_ req) (request_in asked req) (same req)

-- the traversal that runs is there still
pub runs_same : (asked next_ : List Asked) (run : Option ReqId) → SameReads is_run asked next_ → IsRunning asked run → IsRunning next_ run
runs_same asked next_ run same runs =
    record {
      only = runs_again run asked next_ same runs.only;
      there = λ req is. let it = runs.there req is in let now = is_asked is_run asked next_ same req it.0 it.1 in (now.0, now.1);
    }

-- ---- rows that change the requests in what isn't read here

module _ (s : Seen) (event : ℕ) (actor : Actor) where
  abbrev then_ : RowKind → Seen
  then_ kind = after s (record { event = event; actor = actor; row = kind })

  pub ended_moved : (req : ReqId) (ending : Ending) → SameReads moved_read s.requests (ended s.requests req ending)
  ended_moved req ending = on_read moved_read s.requests req (λ q. record q { ending = Some ending }) (λ q. refl)

  pub applied_moved : (req : ReqId) (change : Change) → SameReads moved_read s.requests (then_ (rows.Applied req change)).requests
  applied_moved req change =
      reads_then moved_read s.requests (ended s.requests req endings.Applied) _ (ended_moved req endings.Applied)
      (reads_then moved_read (ended s.requests req endings.Applied) (on_request req (λ q. record q { change = Some change }) (ended s.requests req endings.Applied)) _ (on_read moved_read (ended s.requests req endings.Applied) req (λ q. record q { change = Some change }) (λ q. refl))
      (on_read moved_read (on_request req (λ q. record q { change = Some change }) (ended s.requests req endings.Applied)) req (λ q. record q { took = entries_taken s.history change }) (λ q. refl)))

  pub started_moved : (req : ReqId) (goal : Option Step) → SameReads moved_read s.requests (then_ (rows.Started req goal)).requests
  started_moved req goal =
      reads_then moved_read s.requests (on_request req (λ q. record q { is_started = true; goal = goal }) s.requests) _ (on_read moved_read s.requests req (λ q. record q { is_started = true; goal = goal }) (λ q. refl))
      (on_read moved_read (on_request req (λ q. record q { is_started = true; goal = goal }) s.requests) req (request_begun s) (λ q. refl))

-- ---- one that doesn't run ends

pub runs_ended_apart : (asked : List Asked) (run : Option ReqId) (req : ReqId) (ending : Ending) → is_this run req ≡ false → IsRunning asked run → IsRunning (ended asked req ending) run
runs_ended_apart asked run req ending apart runs =
    record {
      only = runs_ended_other run asked req ending apart runs.only;
      there = λ r is. by_run run r is apart runs;
    }
  where
    still : (r : ReqId) (q : Asked) → request_in asked r ≡ Some q → (x : Asked) × (request_in (ended asked req ending) r ≡ Some x)
    still r q at = let now = is_asked moved_read asked (ended asked req ending) (on_read moved_read asked req (λ x. record x { ending = Some ending }) (λ x. refl)) r q at in (now.0, now.1)

    by_run : (o : Option ReqId) (r : ReqId) → o ≡ Some r → is_this o req ≡ false → IsRunning asked o → (x : Asked) × (request_in (ended asked req ending) r ≡ Some x)
    by_run o r is apart_ runs_ = let it = runs_.there r is in still r it.0 it.1

pub runs_applied_apart : (s : Seen) (event : ℕ) (actor : Actor) (run : Option ReqId) (req : ReqId) (change : Change) → is_this run req ≡ false → IsRunning s.requests run → IsRunning (after s (record { event = event; actor = actor; row = rows.Applied req change })).requests run
runs_applied_apart s event actor run req change apart runs =
    runs_same (ended s.requests req endings.Applied) _ run (reads_then is_run (ended s.requests req endings.Applied) (on_request req (λ q. record q { change = Some change }) (ended s.requests req endings.Applied)) _ (on_read is_run (ended s.requests req endings.Applied) req (λ q. record q { change = Some change }) (λ q. refl)) (on_read is_run (on_request req (λ q. record q { change = Some change }) (ended s.requests req endings.Applied)) req (λ q. record q { took = entries_taken s.history change }) (λ q. refl))) (runs_ended_apart s.requests run req endings.Applied apart runs)

-- ---- the one that runs ends

pub runs_applied_own : (s : Seen) (event : ℕ) (actor : Actor) (req : ReqId) (change : Change) → IsRunning s.requests (Some req) → IsRunning (after s (record { event = event; actor = actor; row = rows.Applied req change })).requests None
runs_applied_own s event actor req change runs =
    runs_same (ended s.requests req endings.Applied) _ None (reads_then is_run (ended s.requests req endings.Applied) (on_request req (λ q. record q { change = Some change }) (ended s.requests req endings.Applied)) _ (on_read is_run (ended s.requests req endings.Applied) req (λ q. record q { change = Some change }) (λ q. refl)) (on_read is_run (on_request req (λ q. record q { change = Some change }) (ended s.requests req endings.Applied)) req (λ q. record q { took = entries_taken s.history change }) (λ q. refl))) (record { only = runs_ended s.requests req endings.Applied runs.only; there = λ r is. cc })

-- ---- another request than the one that is changed

set_other : {A : Type 0} (xs : List A) (n m : ℕ) (y : A) → (m == n) ≡ false → slice_get (slice_set xs n y) m ≡ slice_get xs m
set_other [] n m y apart = refl
set_other (x ∷ xs) zero zero y apart = cc
set_other (x ∷ xs) zero (suc m) y apart = refl
set_other (x ∷ xs) (suc n) zero y apart = refl
set_other (x ∷ xs) (suc n) (suc m) y apart = set_other xs n m y (let less : (m == n) ≡ false = grind (arith, nat_tests, apart) in less)

pub on_another : (asked : List Asked) (req r : ReqId) (f : Asked → Asked) → (r.0 == req.0) ≡ false → request_in (on_request req f asked) r ≡ request_in asked r
on_another asked req r f apart = by_numbers (req.0 == 0) refl (r.0 == 0) refl
  where
    by_found : (o : Option Asked) → (r.0 == 0) ≡ false → (req.0 == 0) ≡ false → slice_get (option_map_or (λ q. slice_set asked (req.0 - 1) (f q)) o asked) (r.0 - 1) ≡ slice_get asked (r.0 - 1)
    by_found None real there = refl
    by_found (Some q) real there = set_other asked (req.0 - 1) (r.0 - 1) (f q) (let one : ((r.0 - 1) == (req.0 - 1)) ≡ false = grind (arith, nat_tests, apart, real, there) in one)

    by_numbers : (b : Bool) → (req.0 == 0) ≡ b → (c : Bool) → (r.0 == 0) ≡ c → request_in (on_request req f asked) r ≡ request_in asked r
    by_numbers true is c its = rw is refl
    by_numbers false is true its = rw its refl
    by_numbers false is false its = rw (is, its) (by_found (slice_get asked (req.0 - 1)) its is)

-- ---- navigables are moved for the request of an order

has_append : (navs more : List NavId) (other : NavId) → has_nav (navs ++ more) other ≡ (has_nav navs other || has_nav more other)
has_append [] more other = refl
has_append (nav ∷ navs) more other = by_test (nav.0 == other.0) (has_append navs more other)
  where
    by_test : (b : Bool) → has_nav (navs ++ more) other ≡ (has_nav navs other || has_nav more other) → (b || has_nav (navs ++ more) other) ≡ ((b || has_nav navs other) || has_nav more other)
    by_test true rest = refl
    by_test false rest = rest

req_same : (a b : ReqId) → (a.0 == b.0) ≡ true → a ≡ b
req_same a b is = ap (λ (n : ℕ). let req : ReqId = record { 0 = n } in req) (grind (arith, nat_tests, is))

-- they join those that the running traversal has moved, where that is the reason
pub moved_for : (asked : List Asked) (run : Option ReqId) (why : Why) (navs : List NavId) → IsRunning asked run → (other : NavId) → has_nav (moved_by (on_served why (with_moved navs) asked) run) other ≡ ((is_for run why && has_nav navs other) || has_nav (moved_by asked run) other)
moved_for asked None (whys.Req req) navs runs other = refl
moved_for asked None (whys.Death death) navs runs other = refl
moved_for asked None whys.Evict navs runs other = refl
moved_for asked None whys.Start navs runs other = refl
moved_for asked (Some r) (whys.Req req) navs runs other = by_test (r.0 == req.0) refl
  where
    by_test : (b : Bool) → (r.0 == req.0) ≡ b → has_nav (moved_by (on_request req (with_moved navs) asked) (Some r)) other ≡ (((r.0 == req.0) && has_nav navs other) || has_nav (moved_by asked (Some r)) other)
    by_test true is =
        let it = runs.there r refl in
        let at : request_in asked r ≡ Some it.0 = it.1 in
        let found : request_in (on_request req (with_moved navs) asked) r ≡ Some (with_moved navs it.0) = ap (λ (x : ReqId). request_in (on_request x (with_moved navs) asked) r) (sym (req_same r req is)) ∙ on_itself asked r (with_moved navs) ∙ ap (λ (o : Option Asked). option_map (with_moved navs) o) at in
        rw (found, at, is) (has_append navs it.0.moved other)
    by_test false is =
        ap (λ (o : Option Asked). has_nav (option_map_or moved_read o []) other) (on_another asked req r (with_moved navs) is)
        ∙ sym (ap (λ (b : Bool). (b && has_nav navs other) || has_nav (moved_by asked (Some r)) other) is)
moved_for asked (Some r) (whys.Death death) navs runs other = refl
moved_for asked (Some r) whys.Evict navs runs other = refl
moved_for asked (Some r) whys.Start navs runs other = refl
