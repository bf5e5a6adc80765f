-- One traversal runs at most, from row to row.
use Rattle.std.proofs.Common.{◌≡◌, ℕ, ◌+◌, Bool, true, false, ◌&&◌, ◌==◌, List, [], ◌∷◌, ◌++◌, length, Option, Some, None, refl, sym, ap, ◌∙◌, arith}
use Rattle.std.specs.Prelude.{option_map}
use Rattle.std.proofs.lemmas.Bool.Decides.{nat_tests}
use Rattle.tab_ids.specs.declared.DocId.{DocId}
use Rattle.tab_ids.specs.declared.EntryId.{EntryId}
use Rattle.tab_ids.specs.declared.ReqId.{ReqId}
use Rattle.tab_ids.specs.declared.Step.{Step}
use Rattle.log_model.specs.declared.change.Change.{Change}
use Rattle.log_model.specs.declared.outcome.Ending.{Ending}
use Rattle.log_model.specs.declared.outcome.Ending.TheVariants as endings
use Rattle.log_model.specs.declared.request.Request.{Request}
use Rattle.log_model.specs.declared.row_kind.Actor.{Actor}
use Rattle.log_model.specs.declared.row_kind.RowKind.TheVariants as rows
use Rattle.log_model.specs.Seen.{Seen, Asked, request_in}
use Rattle.log_model.specs.Places.{is_traversal}
use Rattle.log_model.specs.After.{new_request, ended}
use Rattle.log_model.specs.AfterRequests.{on_request, request_begun, entries_taken}
use Rattle.seen_facts.proofs.Coord.Unread.{next}
use Rattle.seen_facts.proofs.Request.Readers.{SameReads, reads_then, on_read}
use Rattle.seen_facts.specs.Each.Runs.{EachAsked, is_run, is_this}
use Rattle.seen_facts.specs.Each.Courses.{course}
use Rattle.seen_facts.proofs.Each.Runs.{each_asked_on, each_asked_more}

-- ---- what stays where each course is the same

-- each request is one of before, with the same of what is read
pub was_asked : {B : Type 0} (read : Asked → B) (asked next_ : List Asked) → SameReads read asked next_ → (req : ReqId) (q : Asked) → request_in next_ req ≡ Some q → (p : Asked) × (request_in asked req ≡ Some p) × (read p ≡ read q)
was_asked {B} read asked next_ same req q at = by_found (request_in asked req) refl
  where
    some_same : {A : Type 0} {a b : A} → (let o : Option A = Some a in o) ≡ Some b → a ≡ b
    some_same e = cc

    by_found : (o : Option Asked) → request_in asked req ≡ o → (p : Asked) × (request_in asked req ≡ Some p) × (read p ≡ read q)
    by_found None e =
        let none : option_map read (request_in next_ req) ≡ None = same req ∙ ap (λ (o : Option Asked). option_map read o) e in
        let some : option_map read (request_in next_ req) ≡ Some (read q) = ap (λ (o : Option Asked). option_map read o) at in
        let never : None ≡ Some (read q) = sym none ∙ some in absurd cc
    by_found (Some p) e =
        let one : option_map read (request_in next_ req) ≡ Some (read p) = same req ∙ ap (λ (o : Option Asked). option_map read o) e in
        let some : option_map read (request_in next_ req) ≡ Some (read q) = ap (λ (o : Option Asked). option_map read o) at in
        (p, e, some_same (sym one ∙ some))

-- and each one of before is one now
pub is_asked : {B : Type 0} (read : Asked → B) (asked next_ : List Asked) → SameReads read asked next_ → (req : ReqId) (p : Asked) → request_in asked req ≡ Some p → (q : Asked) × (request_in next_ req ≡ Some q) × (read q ≡ read p)
is_asked read asked next_ same req p at =
    was_asked read next_ asked (λ r. sym (same r)) req p at

pub runs_again : (run : Option ReqId) (asked next_ : List Asked) → SameReads is_run asked next_ → EachAsked (λ req q. is_run q ≡ is_this run req) asked → EachAsked (λ req q. is_run q ≡ is_this run req) next_
runs_again run asked next_ same each req q at =
    let was : (p : Asked) × (request_in asked req ≡ Some p) × (is_run p ≡ is_run q) = was_asked is_run asked next_ same req q at in
    sym was.2 ∙ each req was.0 was.1

-- ---- rows that leave the courses

module _ (s : Seen) (event : ℕ) (actor : Actor) where
  pub ended_courses : (req : ReqId) (ending : Ending) → SameReads course s.requests (ended s.requests req ending)
  ended_courses req ending = on_read course s.requests req (λ q. record q { ending = Some ending }) (λ q. refl)

  pub applied_courses : (req : ReqId) (change : Change) → SameReads course s.requests (next s event actor (rows.Applied req change)).requests
  applied_courses req change =
      reads_then course s.requests (ended s.requests req endings.Applied) _ (ended_courses req endings.Applied)
      (reads_then course (ended s.requests req endings.Applied) (on_request req (λ q. record q { change = Some change }) (ended s.requests req endings.Applied)) _ (on_read course (ended s.requests req endings.Applied) req (λ q. record q { change = Some change }) (λ q. refl))
      (on_read course (on_request req (λ q. record q { change = Some change }) (ended s.requests req endings.Applied)) req (λ q. record q { took = entries_taken s.history change }) (λ q. refl)))

-- ---- a request is accepted

pub runs_more : (run : Option ReqId) (asked : List Asked) (req : ReqId) (doc : Option DocId) (what : Request) → req.0 ≡ length asked + 1 → is_this run req ≡ false → EachAsked (λ r q. is_run q ≡ is_this run r) asked → EachAsked (λ r q. is_run q ≡ is_this run r) (asked ++ new_request req doc what ∷ [])
runs_more run asked req doc what nr other each =
    each_asked_more (λ r q. is_run q ≡ is_this run r) asked (new_request req doc what) req nr (none (is_traversal what) ∙ sym other) each
  where
    none : (b : Bool) → (false && b) ≡ false
    none true = refl
    none false = refl

-- ---- a request ends

ended_runs_not : (q : Asked) (ending : Ending) → is_run (record q { ending = Some ending }) ≡ false
ended_runs_not q ending = by_tests q.is_started (is_traversal q.what)
  where
    by_tests : (a b : Bool) → ((a && false) && b) ≡ false
    by_tests true true = refl
    by_tests true false = refl
    by_tests false true = refl
    by_tests false false = refl

-- where another one runs, or none
pub runs_ended_other : (run : Option ReqId) (asked : List Asked) (req : ReqId) (ending : Ending) → is_this run req ≡ false → EachAsked (λ r q. is_run q ≡ is_this run r) asked → EachAsked (λ r q. is_run q ≡ is_this run r) (ended asked req ending)
runs_ended_other run asked req ending other each =
    each_asked_on (λ r q. is_run q ≡ is_this run r) (λ r q. is_run q ≡ is_this run r) asked req (λ q. record q { ending = Some ending }) (λ r q apart is. is) (λ q at is. ended_runs_not q ending ∙ sym other) each

-- where it ran, none does
pub runs_ended : (asked : List Asked) (req : ReqId) (ending : Ending) → EachAsked (λ r q. is_run q ≡ is_this (Some req) r) asked → EachAsked (λ r q. is_run q ≡ is_this None r) (ended asked req ending)
runs_ended asked req ending each =
    each_asked_on (λ r q. is_run q ≡ is_this (Some req) r) (λ r q. is_run q ≡ is_this None r) asked req (λ q. record q { ending = Some ending }) (λ r q apart is. is ∙ (let other : (req.0 == r.0) ≡ false = grind (arith, nat_tests, apart) in other)) (λ q at is. ended_runs_not q ending) each

-- an applied change adds to the request what it did
pub runs_applied : (run : Option ReqId) (asked : List Asked) (req : ReqId) (change : Change) (took : List EntryId) → EachAsked (λ r q. is_run q ≡ is_this run r) asked → EachAsked (λ r q. is_run q ≡ is_this run r) (on_request req (λ q. record q { took = took }) (on_request req (λ q. record q { change = Some change }) asked))
runs_applied run asked req change took each =
    runs_again run asked _
    (reads_then is_run asked (on_request req (λ q. record q { change = Some change }) asked) _ (on_read is_run asked req (λ q. record q { change = Some change }) (λ q. refl)) (on_read is_run (on_request req (λ q. record q { change = Some change }) asked) req (λ q. record q { took = took }) (λ q. refl))) each

-- ---- a traversal begins

module _ (s : Seen) (req : ReqId) (goal : Option Step) where
  abbrev begin : Asked → Asked
  begin q = record q { is_started = true; goal = goal }

  abbrev pub begun : List Asked
  begun = on_request req (request_begun s) (on_request req begin s.requests)

  pub runs_begun : ((q : Asked) → request_in s.requests req ≡ Some q → is_traversal q.what ≡ true) → ((q : Asked) → request_in s.requests req ≡ Some q → q.ending ≡ None) → EachAsked (λ r q. is_run q ≡ is_this None r) s.requests → EachAsked (λ r q. is_run q ≡ is_this (Some req) r) begun
  runs_begun traverses open_ each =
      runs_again (Some req) (on_request req begin s.requests) begun (on_read is_run (on_request req begin s.requests) req (request_begun s) (λ q. refl))
      (each_asked_on (λ r q. is_run q ≡ is_this None r) (λ r q. is_run q ≡ is_this (Some req) r) s.requests req begin (λ r q apart is. is ∙ sym (let other : (req.0 == r.0) ≡ false = grind (arith, nat_tests, apart) in other)) (λ q at is. rw (traverses q at) (rw (open_ q at) (sym (let itself : (req.0 == req.0) ≡ true = grind (arith, nat_tests) in itself)))) each)
