-- Reading the lines one after another.
use Rattle.std.proofs.Common.{◌≡◌, ℕ, ◌+◌, ◌<◌, ◌≤◌, List, [], ◌∷◌, length, Bool, true, false, cond, Ok, Err, Result, IfOk, refl, ◌∙◌, arith}
use Rattle.std.proofs.Math.Dec.{eqb, ltb}
use Rattle.std.proofs.lemmas.Bool.Decides.{nat_tests}
use Rattle.scenario_text.specs.Pieces.{pieces}
use Rattle.scenario_text.specs.Grammar.{scenario_of, read_pieces, at_end, after_line, at_line, faulty, IsSpelled}
use Rattle.scenario_text.specs.Chain.{◌>>=◌}
use Rattle.scenario_text.specs.Gives.{IsReason, IsFaultAt, IsRefusal, Reads}
use Rattle.scenario_text.specs.declared.built.Built.{Built}
use Rattle.scenario_text.specs.declared.fault.LineError.{LineError}
use Rattle.scenario_text.specs.declared.fault.LineError.TheVariants as faults
use Rattle.scenario_text.specs.declared.error.ScenarioError.{ScenarioError}
use Rattle.scenario_text.specs.declared.reason.Reason.TheVariants.{TooLong, TooMany}
use Rattle.scenario_text.specs.declared.place.Place.{Place}
use Rattle.scenario_text.specs.declared.place.Place.TheVariants.{Start}
use Rattle.scenario_text.specs.Scenarios.{Scenario}
use Rattle.scenario_text.proofs.PieceLaws.{length-pieces}

-- what stands after the last line feed
pub reads_end : (in_run : Bool) (built : Built) (number : ℕ) (place : Place) (rest : List ℕ) → pieces 10 rest ≡ rest ∷ [] → read_pieces in_run built number place (pieces 10 rest) ≡ at_end number place rest
unfolding read_pieces
reads_end in_run built number place rest only = rw only refl

-- a line that has its end
pub reads_line : (in_run : Bool) (built : Built) (number : ℕ) (place : Place) (rest line after : List ℕ) → pieces 10 rest ≡ line ∷ pieces 10 after
    → read_pieces in_run built number place (pieces 10 rest) ≡ cond (ltb 65536 number) (faulty number TooMany) (at_line number (after_line in_run built place line) >>= λ next. read_pieces in_run built (number + 1) next (pieces 10 after))
unfolding read_pieces
reads_line in_run built number place rest line after cut =
    let some : eqb (length (pieces 10 after)) 0 ≡ false = grind (arith, nat_tests, length-pieces 10 after) in
    rw (cut, some) refl

-- a line too many
pub reads_too_many : (in_run : Bool) (built : Built) (number : ℕ) (place : Place) (rest line after : List ℕ) → pieces 10 rest ≡ line ∷ pieces 10 after → 65536 < number
    → read_pieces in_run built number place (pieces 10 rest) ≡ faulty number TooMany
reads_too_many in_run built number place rest line after cut many =
    let beyond : ltb 65536 number ≡ true = grind (arith, nat_tests) in
    reads_line in_run built number place rest line after cut ∙ rw beyond refl

-- a line that is read
pub reads_on : (in_run : Bool) (built : Built) (number : ℕ) (place next : Place) (rest line after : List ℕ) → pieces 10 rest ≡ line ∷ pieces 10 after → number ≤ 65536 → after_line in_run built place line ≡ Ok next
    → read_pieces in_run built number place (pieces 10 rest) ≡ read_pieces in_run built (number + 1) next (pieces 10 after)
reads_on in_run built number place next rest line after cut few read =
    let within : ltb 65536 number ≡ false = grind (arith, nat_tests) in
    reads_line in_run built number place rest line after cut ∙ rw (within, read) refl

-- a line that is not
pub reads_fault : (in_run : Bool) (built : Built) (number : ℕ) (place : Place) (rest line after : List ℕ) (e : LineError) (error : ScenarioError) → pieces 10 rest ≡ line ∷ pieces 10 after → number ≤ 65536
    → IsReason e (after_line in_run built place line) → IsFaultAt error number e → IsRefusal error (read_pieces in_run built number place (pieces 10 rest))
reads_fault in_run built number place rest line after (faults.Faulty reason) error cut few fault is =
    let within : ltb 65536 number ≡ false = grind (arith, nat_tests) in
    rw is (reads_line in_run built number place rest line after cut ∙ rw (within, fault) refl)
reads_fault in_run built number place rest line after (faults.UrlOverflow mark) error cut few fault is = rw is tt
reads_fault in_run built number place rest line after faults.OutOfMemory error cut few fault is = rw is tt

-- ---- the whole text

pub reads_too_long : (in_run : Bool) (built : Built) (bytes : List ℕ) → 4194304 < length bytes → scenario_of in_run built bytes ≡ faulty 0 TooLong
unfolding scenario_of
reads_too_long in_run built bytes long = let beyond : ltb 4194304 (length bytes) ≡ true = grind (arith, nat_tests) in rw beyond refl

pub reads_text : (in_run : Bool) (built : Built) (bytes : List ℕ) → length bytes ≤ 4194304 → scenario_of in_run built bytes ≡ read_pieces in_run built 1 Start (pieces 10 bytes)
unfolding scenario_of
reads_text in_run built bytes short = let within : ltb 4194304 (length bytes) ≡ false = grind (arith, nat_tests) in rw within refl

-- what was read is spelled by the bytes
pub spells : (in_run : Bool) (built : Built) (bytes : List ℕ) (result : Result Scenario ScenarioError) → length bytes ≤ 4194304 → Reads result (read_pieces in_run built 1 Start (pieces 10 bytes)) → IfOk result (λ scenario. IsSpelled scenario)
spells in_run built bytes (Ok scenario) short read = (in_run, built, bytes, reads_text in_run built bytes short ∙ read)
spells in_run built bytes (Err e) short read = tt
