-- Requests stay plain as a traversal or a load begins.
use Rattle.std.proofs.Common.{◌≡◌, ℕ, true, false, List, Option, Some, None, refl, sym, ◌∙◌, subst}
use Rattle.tab_ids.specs.declared.ReqId.{ReqId}
use Rattle.tab_ids.specs.declared.Step.{Step}
use Rattle.log_model.specs.declared.row_kind.Actor.{Actor}
use Rattle.log_model.specs.declared.row_kind.RowKind.TheVariants as rows
use Rattle.log_model.specs.After.{after}
use Rattle.log_model.specs.AfterRequests.{on_request, request_begun}
use Rattle.log_model.specs.Places.{is_load, is_traversal}
use Rattle.log_model.specs.Seen.{Seen, Asked, request_in}
use Rattle.seen_facts.proofs.Request.Readers.{SameReads, on_read, reads_then}
use Rattle.seen_facts.specs.Each.Runs.{EachAsked, is_run, is_this}
use Rattle.seen_facts.proofs.Each.Courses.{runs_again, runs_begun}
use Rattle.seen_facts.proofs.Each.Runs.{each_asked_on}
use Rattle.seen_facts.specs.Asked.Asking.{ArePlain, IsAskedPlainly, IsThere}
use Rattle.seen_facts.proofs.Asked.Plainly.{plain_again, plain_on, plainness}
use Rattle.seen_facts.proofs.Asked.Passed.{have_passed}
use Rattle.seen_facts.proofs.Asked.Stays.{left_plain, no_load, no_traversal, of_found, there_still, unrun}

-- ---- one request begins

module _ (s : Seen) (req : ReqId) (goal : Option Step) where
  abbrev begin : Asked → Asked
  begin q = record q { is_started = true; goal = goal }

  abbrev begins : List Asked
  begins = on_request req begin s.requests

  abbrev begun : List Asked
  begun = on_request req (request_begun s) begins

  begun_whats : SameReads (λ (q : Asked). q.what) s.requests begun
  begun_whats =
      reads_then (λ (q : Asked). q.what) s.requests begins begun (on_read (λ (q : Asked). q.what) s.requests req begin (λ q. refl)) (on_read (λ (q : Asked). q.what) begins req (request_begun s) (λ q. refl))

  begun_each : ((q : Asked) → request_in s.requests req ≡ Some q → IsAskedPlainly req q → IsAskedPlainly req (begin q)) → EachAsked IsAskedPlainly s.requests → EachAsked IsAskedPlainly begun
  begun_each own each =
      plain_again begins begun (on_read plainness begins req (request_begun s) (λ q. refl)) (plain_on s.requests req begin own each)

  -- what is no traversal runs neither before nor then
  same_runs : (run : Option ReqId) → ((q : Asked) → request_in s.requests req ≡ Some q → is_traversal q.what ≡ false) → EachAsked (λ r q. is_run q ≡ is_this run r) s.requests → EachAsked (λ r q. is_run q ≡ is_this run r) begun
  same_runs run other only =
      runs_again run begins begun (on_read is_run begins req (request_begun s) (λ q. refl))
      (each_asked_on (λ r q. is_run q ≡ is_this run r) (λ r q. is_run q ≡ is_this run r) s.requests req begin (λ r q apart is. is) (λ q at is. unrun (begin q) (other q at) ∙ (sym (unrun q (other q at)) ∙ is)) only)

-- ---- a traversal begins, where none runs

module _ (s : Seen) (event : ℕ) (actor : Actor) (are : ArePlain None s) where
  -- a traversal that has no outcome begins, with its goal, and runs
  pub begun_plain : (req : ReqId) (q : Asked) (goal : Step) → request_in s.requests req ≡ Some q → is_traversal q.what ≡ true → q.ending ≡ None → ArePlain (Some req) (after s (record { event = event; actor = actor; row = rows.Started req (Some goal) }))
  begun_plain req q goal there goes unended =
      record {
        passed = have_passed s (record { event = event; actor = actor; row = rows.Started req (Some goal) }) tt tt are.passed;
        each = begun_each s req (Some goal) (λ x at is. going x is (its (λ y. is_traversal y.what ≡ true) goes x at)) are.each;
        only = runs_begun s req (Some goal) (its (λ y. is_traversal y.what ≡ true) goes) (its (λ y. y.ending ≡ None) unended) are.only;
        runs = λ r e. (let same : req ≡ r = cc in subst (IsThere then_) same (there_still s then_ req (begun_whats s req (Some goal)) (record { q = q; found = there; traverses = goes })));
        died = are.died;
      }
    where
      then_ : Seen
      then_ = after s (record { event = event; actor = actor; row = rows.Started req (Some goal) })

      its : (P : Asked → Type 0) → P q → (x : Asked) → request_in s.requests req ≡ Some x → P x
      its = of_found s.requests req q there

      going : (x : Asked) → IsAskedPlainly req x → is_traversal x.what ≡ true → IsAskedPlainly req (begin s req (Some goal) x)
      going x is goes_ =
          record {
            nr = is.nr;
            what = is.what;
            unstarted = λ stays other. (let never : true ≡ false = sym goes_ ∙ stays in absurd cc);
            goal = λ traverses starts. refl;
            sent = is.sent;
            begun = λ starts. is.sent (no_load x.what goes_);
            moved = is.moved;
          }

-- ---- a load begins

module _ (run : Option ReqId) (s : Seen) (event : ℕ) (actor : Actor) (are : ArePlain run s) where
  -- a load begins for which no document was sent to a fragment
  pub load_begun_plain : (req : ReqId) (q : Asked) → request_in s.requests req ≡ Some q → is_load q.what ≡ true → q.fragment ≡ None → ArePlain run (after s (record { event = event; actor = actor; row = rows.Started req None }))
  load_begun_plain req q there loads unsent =
      left_plain run s (after s (record { event = event; actor = actor; row = rows.Started req None })) are (record {
        whats = begun_whats s req None;
        passed = have_passed s (record { event = event; actor = actor; row = rows.Started req None }) tt tt are.passed;
        each = begun_each s req None (λ x at is. loading x is (its (λ y. is_load y.what ≡ true) loads x at) (its (λ y. y.fragment ≡ None) unsent x at)) are.each;
        only = same_runs s req None run (λ x at. no_traversal x.what (its (λ y. is_load y.what ≡ true) loads x at)) are.only;
        died = are.died;
      })
    where
      its : (P : Asked → Type 0) → P q → (x : Asked) → request_in s.requests req ≡ Some x → P x
      its = of_found s.requests req q there

      loading : (x : Asked) → IsAskedPlainly req x → is_load x.what ≡ true → x.fragment ≡ None → IsAskedPlainly req (begin s req None x)
      loading x is loads_ unsent_ =
          record {
            nr = is.nr;
            what = is.what;
            unstarted = λ stays other. (let never : true ≡ false = sym loads_ ∙ other in absurd cc);
            goal = λ traverses starts. (let never : true ≡ false = sym traverses ∙ no_traversal x.what loads_ in absurd cc);
            sent = is.sent;
            begun = λ starts. unsent_;
            moved = is.moved;
          }
