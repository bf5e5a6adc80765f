-- Which traversal runs in a tab of frames, and whom it has moved.
use Rattle.std.proofs.Common.{◌≡◌, ℕ, Bool, true, false, ◌==◌, List, Option, Some, None, refl, sym, ap, ◌∙◌, arith}
use Rattle.std.specs.Prelude.{option_map}
use Rattle.std.proofs.lemmas.Bool.Decides.{nat_tests}
use Rattle.tab_ids.specs.declared.NavId.{NavId}
use Rattle.tab_ids.specs.declared.ReqId.{ReqId}
use Rattle.log_model.specs.Equal.{holds}
use Rattle.log_model.specs.History.{has_nav}
use Rattle.log_model.specs.Places.{running_in, is_moved_in}
use Rattle.log_model.specs.Seen.{Asked, request_in}
use Rattle.seen_facts.proofs.Request.Readers.{SameReads}
use Rattle.seen_facts.specs.Each.Runs.{EachAsked, is_run, is_this}
use Rattle.seen_facts.proofs.Each.Runs.{none_passes, only_passes}

-- the request of the traversal that runs
abbrev pub run_in : Option ReqId → List Asked → Option Asked
run_in None asked = None
run_in (Some req) asked = request_in asked req

pub running_is : (run : Option ReqId) (asked : List Asked) → EachAsked (λ req q. is_run q ≡ is_this run req) asked → running_in asked ≡ run_in run asked
running_is None asked only = none_passes is_run asked only
running_is (Some run) asked only = by_found (request_in asked run) refl
  where
    by_found : (o : Option Asked) → request_in asked run ≡ o → running_in asked ≡ request_in asked run
    by_found (Some q) e = only_passes is_run asked run q e only ∙ sym e
    by_found None e = none_passes is_run asked none ∙ sym e
      where
        none : (req : ReqId) (q : Asked) → request_in asked req ≡ Some q → is_run q ≡ false
        none req q at = only req q at ∙ by_test (run.0 == req.0) refl
          where
            by_test : (b : Bool) → (run.0 == req.0) ≡ b → (run.0 == req.0) ≡ false
            by_test false h = h
            by_test true h =
                let n : run.0 ≡ req.0 = grind (arith, nat_tests, h) in
                let same : run ≡ req = ap (λ (i : ℕ). let x : ReqId = record { 0 = i } in x) n in
                let never : None ≡ Some q = sym e ∙ (ap (λ (x : ReqId). request_in asked x) same ∙ at) in absurd cc

-- whom it has moved
pub moved_is : (run : Option ReqId) (asked : List Asked) (nav : NavId) → EachAsked (λ req q. is_run q ≡ is_this run req) asked → is_moved_in asked nav ≡ holds (λ (q : Asked). has_nav q.moved nav) (run_in run asked)
moved_is run asked nav only = ap (λ (o : Option Asked). holds (λ (q : Asked). has_nav q.moved nav) o) (running_is run asked only)

-- nobody, where none runs
pub none_moved : (asked : List Asked) (nav : NavId) → EachAsked (λ req q. is_run q ≡ is_this None req) asked → is_moved_in asked nav ≡ false
none_moved asked nav only = moved_is None asked nav only

-- the same ones, where the same one runs and has moved the same
pub moved_same : (run : Option ReqId) (asked next : List Asked) (nav : NavId) → EachAsked (λ req q. is_run q ≡ is_this run req) asked → EachAsked (λ req q. is_run q ≡ is_this run req) next → SameReads (λ (q : Asked). q.moved) asked next → is_moved_in next nav ≡ is_moved_in asked nav
moved_same run asked next nav before now same =
    moved_is run next nav now ∙ by_run run ∙ sym (moved_is run asked nav before)
  where
    by_list : (o : Option Asked) → holds (λ (q : Asked). has_nav q.moved nav) o ≡ holds (λ (navs : List NavId). has_nav navs nav) (option_map (λ (q : Asked). q.moved) o)
    by_list None = refl
    by_list (Some q) = refl

    by_run : (r : Option ReqId) → holds (λ (q : Asked). has_nav q.moved nav) (run_in r next) ≡ holds (λ (q : Asked). has_nav q.moved nav) (run_in r asked)
    by_run None = refl
    by_run (Some req) =
        by_list (request_in next req)
        ∙ ap (λ (o : Option (List NavId)). holds (λ (navs : List NavId). has_nav navs nav) o) (same req)
        ∙ sym (by_list (request_in asked req))
