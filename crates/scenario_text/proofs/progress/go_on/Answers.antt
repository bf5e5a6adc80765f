use Rattle.scenario_text.proofs.PlaceLaws.{leaves_body}
use Rattle.scenario_text.proofs.progress.go_on.Goals as goal

pub returns-in-Body-clause-read : goal.returns-in-Body-clause-read
returns-in-Body-clause-read c =
    rw c.in-Body.is (leaves_body c.args.in_run c.args.built c.in-Body.field-0 _ c.args.line.bytes.now c.add_line.result _ c.add_line.ensures.read)
