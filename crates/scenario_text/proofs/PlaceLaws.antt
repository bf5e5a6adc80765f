-- The place after one more line behind `open`.
use Rattle.std.proofs.Common.{◌≡◌, ℕ, Bool, List, [], ◌∷◌, ◌++◌, Result, Ok, Err, ap}
use Rattle.log_model.specs.declared.header.Header.{Header}
use Rattle.scenario_text.specs.declared.built.Built.{Built}
use Rattle.scenario_text.specs.declared.fault.LineError.{LineError}
use Rattle.scenario_text.specs.declared.fault.LineError.TheVariants as faults
use Rattle.scenario_text.specs.declared.line.ScenarioLine.{ScenarioLine}
use Rattle.scenario_text.specs.declared.place.Place.{Place}
use Rattle.scenario_text.specs.declared.place.Place.TheVariants as places
use Rattle.scenario_text.specs.declared.reason.Reason.{Reason}
use Rattle.scenario_text.specs.Added.{with_line}
use Rattle.scenario_text.specs.Body.{played_line}
use Rattle.scenario_text.specs.Chain.{◌>>=◌}
use Rattle.scenario_text.specs.Gives.{IsReason, LeavesPlace}
use Rattle.scenario_text.specs.Grammar.{after_counted}
use Rattle.scenario_text.proofs.Spelled.{ok_same}

-- what the spelled line makes of the lines, and of the place
abbrev pub lines_with : List ScenarioLine → ScenarioLine → Result (List ScenarioLine) Reason
lines_with before last = Ok (before ++ last ∷ [])

abbrev pub place_with : Header → List ScenarioLine → ScenarioLine → Result Place Reason
place_with header before last = Ok (places.Body header (before ++ last ∷ []))

same_fault : (spelled : Result ScenarioLine Reason) (header : Header) (before : List ScenarioLine) (e : LineError)
    → IsReason e (spelled >>= lines_with before) → IsReason e (spelled >>= place_with header before)
same_fault (Ok line) header before (faults.Faulty reason) is = cc
same_fault (Err reason_) header before (faults.Faulty reason) is = cc
same_fault spelled header before (faults.UrlOverflow mark) is = tt
same_fault spelled header before faults.OutOfMemory is = tt

abbrev pub place_of : Header → List ScenarioLine → Result Place Reason
place_of header lines = Ok (places.Body header lines)

same_lines : (spelled : Result ScenarioLine Reason) (header : Header) (before new : List ScenarioLine)
    → (spelled >>= lines_with before) ≡ Ok new → (spelled >>= place_with header before) ≡ Ok (places.Body header new)
same_lines (Ok line) header before new is = ap (λ (lines : List ScenarioLine). place_of header lines) (ok_same is)
same_lines (Err reason) header before new is = cc

-- where the lines have one more, so has the place
pub leaves_body : {U : Type 0} (in_run : Bool) (built : Built) (header : Header) (before : List ScenarioLine) (line : List ℕ) (result : Result U LineError) (new : List ScenarioLine)
    → LeavesPlace result new (with_line in_run built before line) → LeavesPlace result (places.Body header new) (after_counted in_run built (places.Body header before) line)
unfolding after_counted
leaves_body in_run built header before line (Ok done) new is = same_lines (played_line in_run built line) header before new is
leaves_body in_run built header before line (Err e) new is = same_fault (played_line in_run built line) header before e is
