use Rattle.std.proofs.Common.{◌<◌, ◌≤◌, ℕ, List, length, subst}
use Rattle.scenario_text.specs.Gives.{Reads}
use Rattle.scenario_text.specs.Grammar.{read_pieces}
use Rattle.scenario_text.specs.Pieces.{pieces}
use Rattle.scenario_text.specs.declared.place.Place.TheVariants.{Start}
use Rattle.scenario_text.proofs.LineLaws.{reads_too_long, reads_text, spells}
use Rattle.scenario_text.proofs.scenario.Scenario.read_vec.Goals as goal

pub returns-then-as_slice-gt4194304-clause-read : goal.returns-then-as_slice-gt4194304-clause-read
returns-then-as_slice-gt4194304-clause-read c =
    rw c.refused.ensures (reads_too_long c.args.in_run c.args.built c.args.bytes.items (subst (λ (bytes : List ℕ). 4194304 < length bytes) c.as_slice.ensures.value c.if-as_slice-gt4194304.true))

pub returns-clause-read : goal.returns-clause-read
returns-clause-read c =
    rw (reads_text c.args.in_run c.args.built c.args.bytes.items (subst (λ (bytes : List ℕ). length bytes ≤ 4194304) c.as_slice.ensures.value c.if-as_slice-gt4194304.false))
    (subst (λ (bytes : List ℕ). Reads c.read_lines.result (read_pieces c.args.in_run c.args.built 1 Start (pieces 10 bytes))) c.in_ok-text.ensures c.read_lines.ensures.read)

pub returns-clause-spelled : goal.returns-clause-spelled
returns-clause-spelled c =
    spells c.args.in_run c.args.built c.args.bytes.items c.read_lines.result (subst (λ (bytes : List ℕ). length bytes ≤ 4194304) c.as_slice.ensures.value c.if-as_slice-gt4194304.false)
    (subst (λ (bytes : List ℕ). Reads c.read_lines.result (read_pieces c.args.in_run c.args.built 1 Start (pieces 10 bytes))) c.in_ok-text.ensures c.read_lines.ensures.read)
