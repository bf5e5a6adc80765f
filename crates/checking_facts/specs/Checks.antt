-- What the coordinator carries from row to row of the requests in their unload checks, and what it asks of a row.
-- HTML Standard, "checking if unloading is canceled". Which requests are in their check as the coordinator has it is this project's own.
use Rattle.std.specs.Prelude.{◌≡◌, ◌+◌, Bool, true, false, ◌||◌, ◌==◌, [], length, slice_get, Option, Some, None}
use Rattle.tab_ids.specs.declared.ReqId.{ReqId}
use Rattle.log_model.specs.declared.job.Job.{Job}
use Rattle.log_model.specs.declared.job.Task.{Task}
use Rattle.log_model.specs.declared.job.Task.TheVariants as tasks
use Rattle.log_model.specs.declared.job.Why.TheVariants as whys
use Rattle.log_model.specs.declared.made.Report.{Report}
use Rattle.log_model.specs.declared.made.Report.TheVariants as reports
use Rattle.log_model.specs.declared.row_kind.RowKind.{RowKind}
use Rattle.log_model.specs.declared.row_kind.RowKind.TheVariants as rows
use Rattle.log_model.specs.AfterPlaces.{sleepers_with}
use Rattle.log_model.specs.Checks.{is_checked}
use Rattle.log_model.specs.Places.{all_asked, has_passed, is_traversal, is_under_way}
use Rattle.log_model.specs.Seen.{Seen, Asked, desk_of, request_of}
use Rattle.checking_facts.specs.States.{AreBegun, AreOwnStates, AreSpent}
use Rattle.check_facts.specs.Rows.{IsNoAnswerOf, IsServing}
use Rattle.unasked_dues.specs.Checking.{AllOthersPass, AreChecking, AreNumbered, IsForOther, NoOtherRuns}

-- what is carried
pub record AreInCheck (checking : ReqId → Bool) (s : Seen) : Type 0 where
  pub numbered : AreNumbered s
  pub others : AllOthersPass checking s
  pub begun : AreBegun checking s
  pub checks : AreChecking checking s
  pub alone : NoOtherRuns checking s
  pub states : AreOwnStates checking s
  -- how many document states were numbered
  pub spent : AreSpent s

-- a request may enter its check as it begins: it is one that is checked, isn't under way, moved nobody, showed and changed nothing, and sent no document to a fragment
pub record MayEnter (q : Asked) : Type 0 where
  pub waits : is_under_way q ≡ false
  pub checked : is_checked q ≡ true
  pub unmoved : q.moved ≡ []
  pub shows : q.activated ≡ []
  pub unchanged : q.change ≡ None
  pub unsent : q.fragment ≡ None

-- of all numbers but one the same are in their checks
abbrev pub SameBut : ReqId → (ReqId → Bool) → (ReqId → Bool) → Type 0
SameBut req old new = (r : ReqId) → (r.0 == req.0) ≡ false → new r ≡ old r

-- an accepted request has the next number, and isn't in its check
pub record IsNextOutside (checking : ReqId → Bool) (s : Seen) (req : ReqId) : Type 0 where
  pub next : req.0 ≡ length s.requests + 1
  pub outside : checking req ≡ false

-- if the request is a traversal, and another one is under way, then neither is in its check
abbrev pub BeginsApart : (ReqId → Bool) → Seen → ReqId → Type 0
BeginsApart checking s req =
    (by : ReqId) (q r : Asked) → request_of s req ≡ Some q → request_of s by ≡ Some r → (by.0 == req.0) ≡ false → is_traversal q.what ≡ true → is_under_way r ≡ true → is_traversal r.what ≡ true → (checking req || checking by) ≡ false

-- no traversal under way is in its check
abbrev pub NoneRunsInCheck : (ReqId → Bool) → Seen → Type 0
NoneRunsInCheck checking s =
    (by : ReqId) (r : Asked) → request_of s by ≡ Some r → is_under_way r ≡ true → is_traversal r.what ≡ true → checking by ≡ false

-- no traversal is under way but this request
abbrev pub NoOtherUnderWay : Seen → ReqId → Type 0
NoOtherUnderWay s req =
    (by : ReqId) (r : Asked) → request_of s by ≡ Some r → (by.0 == req.0) ≡ false → is_under_way r ≡ true → is_traversal r.what ≡ true → ⊥

-- nobody falls asleep with the document of an order for a request in its check
abbrev pub PutsNoneAsleep : (ReqId → Bool) → Seen → Job → Type 0
PutsNoneAsleep checking s job =
    (req : ReqId) → job.why ≡ whys.Req req → checking req ≡ true → sleepers_with s job.doc ≡ []

-- what a question is for is in its check
abbrev pub IsForChecked : (ReqId → Bool) → Job → Type 0
IsForChecked checking job = (req : ReqId) → job.why ≡ whys.Req req → checking req ≡ true

-- an order that sends a document to a fragment is for the request that it names
abbrev pub IsOwnFragment : Job → Task → Type 0
IsOwnFragment job (tasks.DoFragment req mode address) = job.why ≡ whys.Req req
IsOwnFragment job _ = Unit {0}

-- what is asked of an order
abbrev pub SendsDuly : (ReqId → Bool) → Seen → Job → Task → Type 0
SendsDuly checking s job (tasks.Activate entry epoch length index memo address) = IsForOther checking job.why
SendsDuly checking s job tasks.Freeze = PutsNoneAsleep checking s job
SendsDuly checking s job tasks.Discard = PutsNoneAsleep checking s job
SendsDuly checking s job (tasks.DoFragment req mode address) = checking req ≡ false
SendsDuly checking s job (tasks.Ask slot cause) = IsForChecked checking job
SendsDuly checking s job _ = Unit {0}

-- what is asked of a row
abbrev pub GoesDuly : (ReqId → Bool) → Seen → RowKind → Type 0
GoesDuly checking s (rows.Opened entry state doc proc slot address) = ⊥
GoesDuly checking s (rows.Accepted req doc what) = IsNextOutside checking s req
GoesDuly checking s (rows.Started req goal) = BeginsApart checking s req
GoesDuly checking s (rows.Applied req change) = checking req ≡ false
GoesDuly checking s (rows.Prompted req doc) = checking req ≡ true
GoesDuly checking s (rows.Answered req stay) = checking req ≡ false → stay ≡ false
GoesDuly checking s (rows.Sent job) = SendsDuly checking s job job.task
GoesDuly checking s _ = Unit {0}

-- none in its check begins as the row
abbrev pub BeginsOff : (ReqId → Bool) → RowKind → Type 0
BeginsOff checking (rows.Started req goal) = checking req ≡ false
BeginsOff checking _ = Unit {0}

-- an accepted request has the next number, whatever the row else
abbrev pub NumbersNext : Seen → RowKind → Type 0
NumbersNext s (rows.Accepted req doc what) = req.0 ≡ length s.requests + 1
NumbersNext s _ = Unit {0}

-- ---- those that haven't passed

-- a traversal in its check hasn't passed, but for these
abbrev pub NonePassesBut : (ReqId → Bool) → (ReqId → Bool) → Seen → Type 0
NonePassesBut checking but s =
    (req : ReqId) (q : Asked) → request_of s req ≡ Some q → is_under_way q ≡ true → is_traversal q.what ≡ true → checking req ≡ true → but req ≡ false → has_passed s q ≡ false

-- of no traversal in its check, but for these, the last question is settled between the two
abbrev pub SettlesNoneBut : (ReqId → Bool) → (ReqId → Bool) → Seen → Seen → Type 0
SettlesNoneBut checking but s t =
    (req : ReqId) (p q : Asked) → request_of s req ≡ Some p → request_of t req ≡ Some q → is_under_way p ≡ true → is_traversal p.what ≡ true → checking req ≡ true → but req ≡ false → all_asked s p ≡ false → all_asked t q ≡ false

-- this request, and no other
abbrev pub just : ReqId → ReqId → Bool
just req r = r.0 == req.0

-- a row as which no request begins, and of which the user is asked nothing and answers nothing
abbrev pub IsCalm : RowKind → Type 0
IsCalm (rows.Started req goal) = ⊥
IsCalm (rows.Prompted req doc) = ⊥
IsCalm (rows.Answered req stay) = ⊥
IsCalm _ = Unit {0}

-- the report, if there is one, tells no answer and no death
abbrev pub IsPlainReport : Option Report → Type 0
IsPlainReport (Some (reports.Done job outcome made)) = IsNoAnswerOf outcome
IsPlainReport (Some (reports.Died death)) = ⊥
IsPlainReport _ = Unit {0}

-- a row that settles no question: it discards nothing, asks nothing, and tells the coordinator of no answer and no death
abbrev pub IsSilent : Seen → RowKind → Type 0
IsSilent s (rows.Opened entry state doc proc slot address) = ⊥
IsSilent s (rows.Sent job) = IsServing job.task
IsSilent s (rows.Delivered proc) = IsPlainReport (slice_get (desk_of s proc).reports 0)
IsSilent s _ = Unit {0}
