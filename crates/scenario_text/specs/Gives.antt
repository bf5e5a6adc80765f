-- What a reader answers, beside what the grammar gives.
-- This project's own.
use Rattle.std.specs.Prelude.{◌≡◌, ℕ, Result, Ok, Err, MatchResult}
use Rattle.scenario_text.specs.declared.reason.Reason.{Reason}
use Rattle.scenario_text.specs.declared.fault.LineError.{LineError}
use Rattle.scenario_text.specs.declared.fault.LineError.TheVariants as faults
use Rattle.scenario_text.specs.declared.error.Refusal.{Refusal}
use Rattle.scenario_text.specs.declared.error.ScenarioError.{ScenarioError}
use Rattle.scenario_text.specs.declared.error.ScenarioError.TheVariants as errors

-- the error is the expected reason; an overflow of `url` and want of memory say nothing
abbrev pub IsReason : {X : Type 0} → LineError → Result X Reason → Type 0
IsReason (faults.Faulty reason) expected = expected ≡ Err reason
IsReason (faults.UrlOverflow mark) expected = Unit {0}
IsReason faults.OutOfMemory expected = Unit {0}

-- what was read of a line is what the grammar gives
abbrev pub GivesLine : {X : Type 0} → Result X LineError → Result X Reason → Type 0
GivesLine result expected = MatchResult result (λ x. expected ≡ Ok x) (λ e. IsReason e expected)

-- the same where a line is read into a value in hand
abbrev pub LeavesPlace : {U X : Type 0} → Result U LineError → X → Result X Reason → Type 0
LeavesPlace result new expected = MatchResult result (λ _. expected ≡ Ok new) (λ e. IsReason e expected)

-- the error of a line, with the line's number
abbrev pub IsFaultAt : ScenarioError → ℕ → LineError → Type 0
IsFaultAt result line (faults.Faulty reason) = result ≡ errors.Refused (record { line = line; reason = reason })
IsFaultAt result line (faults.UrlOverflow mark) = result ≡ errors.UrlOverflow mark
IsFaultAt result line faults.OutOfMemory = result ≡ errors.OutOfMemory

-- the error is the expected refusal; an overflow of `url` and want of memory say nothing
abbrev pub IsRefusal : {X : Type 0} → ScenarioError → Result X Refusal → Type 0
IsRefusal (errors.Refused refusal) expected = expected ≡ Err refusal
IsRefusal (errors.UrlOverflow mark) expected = Unit {0}
IsRefusal errors.OutOfMemory expected = Unit {0}

-- the result is the expected scenario or refusal, unless `url` overflowed or there was no memory
abbrev pub Reads : {X : Type 0} → Result X ScenarioError → Result X Refusal → Type 0
Reads result expected = MatchResult result (λ x. expected ≡ Ok x) (λ e. IsRefusal e expected)
