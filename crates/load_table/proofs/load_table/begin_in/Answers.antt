use Rattle.std.proofs.Common.{ap, option_map, ◌∙◌}
use Rattle.load_table.specs.declared.load.Load.{Load}
use Rattle.load_table.proofs.Keyed.{found, keyed_insert, values_insert}
use Rattle.load_table.proofs.load_table.begin_in.Goals as goal

pub returns-clause-keyed : goal.returns-clause-keyed
returns-clause-keyed c = rw c.in_ok-old.ensures.entries (keyed_insert c.args.load c.args.loads.now.entries c.requires)

pub returns-clause-ok : goal.returns-clause-ok
returns-clause-ok c = rw c.in_ok-old.ensures.entries (values_insert c.args.load c.args.loads.now.entries c.requires)

pub returns-clause-replaced : goal.returns-clause-replaced
returns-clause-replaced c =
    c.request_of.ensures ∙ ap (option_map (λ (old : Load). old.req)) (c.in_ok-old.ensures.old ∙ found c.args.load.nav c.args.loads.now.entries c.requires)
