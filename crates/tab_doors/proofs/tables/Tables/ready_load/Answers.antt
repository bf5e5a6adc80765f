use Rattle.load_table.specs.declared.load.Load.{Load}
use Rattle.std.proofs.Common.{List, ap, sym}
use Rattle.tab_doors.proofs.Readied.{none_own}
use Rattle.tab_doors.proofs.tables.Tables.ready_load.Goals as goal

pub returns-in-None : goal.returns-in-None
returns-in-None c =
    ap (λ (l : List Load). record c.args.self.now { loads = l }) (none_own c.args.self.now c.args.doc c.requires (sym c.in-None.ensures))
