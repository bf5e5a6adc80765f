use Rattle.address.proofs.Roots.{address_keeps}
use Rattle.address.proofs.address.Address.text.Goals as goal

pub returns-clause-reads : goal.returns-clause-reads
returns-clause-reads c = address_keeps _ _ c.self.view_is c.self.invariant
