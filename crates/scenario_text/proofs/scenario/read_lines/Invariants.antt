use Rattle.std.proofs.Common.{◌≡◌, ◌≤◌, length}
use Rattle.scenario_text.specs.Grammar.{read_pieces}
use Rattle.scenario_text.specs.Pieces.{pieces}
use Rattle.scenario_text.specs.Written.{IsWrittenPlace}
use Rattle.scenario_text.specs.declared.place.Place.TheVariants as places
use Rattle.scenario_text.proofs.StandingLaws.{IsLeft}
use Rattle.scenario_text.proofs.scenario.read_lines.Given as goal

abbrev pub invariant-lines : goal.invariant-lines
invariant-lines l = record {
  written : IsWrittenPlace l.place;
  left : IsLeft l.text l.rest;
  small : l.number ≤ 65537;
  rest : read_pieces l.in_run l.built l.number l.place (pieces 10 l.rest) ≡ read_pieces l.in_run l.built 1 places.Start (pieces 10 l.text);
}

abbrev pub decreases-lines : goal.decreases-lines
decreases-lines l = length l.rest
