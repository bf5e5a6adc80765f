use Rattle.std.proofs.Common.{ap, option_map, ◌∙◌}
use Rattle.load_table.specs.Loads.{is_nav}
use Rattle.load_table.specs.declared.load.Load.{Load}
use Rattle.load_table.proofs.Keyed.{found, keyed_remove, values_remove}
use Rattle.load_table.proofs.load_table.cancel_in.Goals as goal

pub returns-clause-keyed : goal.returns-clause-keyed
returns-clause-keyed c = rw c.shift_remove.ensures.entries (keyed_remove (is_nav c.args.nav) c.args.loads.now.entries c.requires)

pub returns-clause-rest : goal.returns-clause-rest
returns-clause-rest c = rw c.shift_remove.ensures.entries (values_remove c.args.nav c.args.loads.now.entries c.requires c.len-len.ensures.unique)

pub returns-clause-req : goal.returns-clause-req
returns-clause-req c =
    c.request_of.ensures ∙ ap (option_map (λ (load : Load). load.req)) (c.shift_remove.ensures.value ∙ found c.args.nav c.args.loads.now.entries c.requires)
