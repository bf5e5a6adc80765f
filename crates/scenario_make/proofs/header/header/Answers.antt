use Rattle.scenario_make.proofs.Addresses.{first_reads}
use Rattle.scenario_make.proofs.header.header.Goals as goal

pub address-requires : goal.address-requires
address-requires c = first_reads
