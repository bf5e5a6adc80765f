-- What is known of the requests in their unload checks, where what a log has come to is read off what it would have come to had nobody been asked.
-- HTML Standard, "checking if unloading is canceled". Which requests are in their check as the coordinator has it is this project's own.
use Rattle.std.specs.Prelude.{◌≡◌, Bool, true, false, ◌&&◌, nat_lt, [], Some, None}
use Rattle.tab_ids.specs.declared.StateId.{StateId}
use Rattle.tab_ids.specs.declared.NavId.{NavId}
use Rattle.tab_ids.specs.declared.ReqId.{ReqId}
use Rattle.log_model.specs.declared.job.Why.{Why}
use Rattle.log_model.specs.declared.job.Why.TheVariants as whys
use Rattle.log_model.specs.Checks.{is_checked}
use Rattle.log_model.specs.ActsAtOnce.{is_ready_load}
use Rattle.log_model.specs.Once.{loads}
use Rattle.log_model.specs.Places.{has_passed, is_ongoing_load, is_traversal, is_under_way}
use Rattle.log_model.specs.Queue.{is_step_under_way}
use Rattle.log_model.specs.Seen.{Seen, Asked, request_of}
pub use Rattle.row_facts.specs.LoadRows.LoadMaking.{IsAloneWith, is_ongoing_of}
use Rattle.unasked.specs.Premises.{IsNumbered}
pub use Rattle.seen_laws.specs.Unasked.{unasked, without_asks}

-- a request that has begun and hasn't ended is in its check, or has passed
abbrev pub OthersPass : (ReqId → Bool) → Seen → Type 0
OthersPass checking s =
    (req : ReqId) (q : Asked) → request_of s req ≡ Some q → is_under_way q ≡ true → checking req ≡ false → has_passed s q ≡ true

-- a traversal that is in its check hasn't passed
abbrev pub NonePasses : (ReqId → Bool) → Seen → Type 0
NonePasses checking s =
    (req : ReqId) (q : Asked) → request_of s req ≡ Some q → is_under_way q ≡ true → is_traversal q.what ≡ true → checking req ≡ true → has_passed s q ≡ false

-- who is in its check is one that is checked, has a number, has moved nobody, and sent no document to a fragment
pub record IsChecking (req : ReqId) (q : Asked) : Type 0 where
  pub nr : q.nr ≡ req
  pub checked : is_checked q ≡ true
  pub unmoved : q.moved ≡ []
  pub shows : q.activated ≡ []
  pub unchanged : q.change ≡ None
  pub unsent : q.fragment ≡ None

-- each of them is so
abbrev pub AreChecking : (ReqId → Bool) → Seen → Type 0
AreChecking checking s = (req : ReqId) (q : Asked) → request_of s req ≡ Some q → checking req ≡ true → IsChecking req q

-- while a traversal is in its check no other one is under way
abbrev pub NoOtherRuns : (ReqId → Bool) → Seen → Type 0
NoOtherRuns checking s =
    (req by : ReqId) (q r : Asked) → request_of s req ≡ Some q → request_of s by ≡ Some r → is_under_way q ≡ true → is_under_way r ≡ true → is_traversal q.what ≡ true → is_traversal r.what ≡ true → checking req ≡ true → q.nr ≡ r.nr

-- each request that is found under a number has it
abbrev pub AreNumbered : Seen → Type 0
AreNumbered s = (req : ReqId) → IsNumbered s req

-- the aim is read off: requests have their numbers, and those in their check are the ones that haven't passed
pub record IsAimed (checking : ReqId → Bool) (s : Seen) : Type 0 where
  pub numbered : AreNumbered s
  pub others : OthersPass checking s
  pub none_passes : NonePasses checking s

-- and who is in its check has moved nobody, and while a traversal is no other is under way
pub record IsMoving (checking : ReqId → Bool) (s : Seen) : Type 0 where
  pub aimed : IsAimed checking s
  pub checks : AreChecking checking s
  pub alone : NoOtherRuns checking s

-- no traversal or reload under way is in its check
abbrev pub NoStepChecks : (ReqId → Bool) → Seen → Type 0
NoStepChecks checking s =
    (req : ReqId) (q : Asked) → request_of s req ≡ Some q → checking req ≡ true → is_step_under_way q ≡ false

-- no request in its check is an ongoing load with the document state
abbrev pub NoneChecksFor : (ReqId → Bool) → Seen → StateId → Type 0
NoneChecksFor checking s state =
    (req : ReqId) (q : Asked) → request_of s req ≡ Some q → checking req ≡ true → is_ongoing_of state q ≡ false

-- a request that is under way where nobody is asked comes from one of the log, which isn't in its check and has passed
pub record RunsIn (checking : ReqId → Bool) (s : Seen) (req : ReqId) (run : Asked) : Type 0 where
  pub asked : Asked
  pub at : request_of s req ≡ Some asked
  pub is : run ≡ without_asks asked
  pub off : checking req ≡ false
  pub passed : has_passed s asked ≡ true

-- whoever isn't in its check has passed, also one that hasn't begun or that has ended
abbrev pub AllOthersPass : (ReqId → Bool) → Seen → Type 0
AllOthersPass checking s =
    (req : ReqId) (q : Asked) → request_of s req ≡ Some q → checking req ≡ false → has_passed s q ≡ true

-- what an order is for isn't in its check
abbrev pub IsForOther : (ReqId → Bool) → Why → Type 0
IsForOther checking why = (req : ReqId) → why ≡ whys.Req req → checking req ≡ false

-- no load of the navigable is in its check that was accepted before the request
abbrev pub NoneChecksBefore : (ReqId → Bool) → Seen → ReqId → NavId → Type 0
NoneChecksBefore checking s req nav =
    (other : ReqId) (q : Asked) → request_of s other ≡ Some q → checking other ≡ true → (is_ongoing_load q && nat_lt q.nr.0 req.0 && loads nav q.what) ≡ false

-- no load in its check has its document
abbrev pub NoneReady : (ReqId → Bool) → Seen → Type 0
NoneReady checking s =
    (req : ReqId) (q : Asked) → request_of s req ≡ Some q → checking req ≡ true → is_ready_load s q ≡ false
