use Rattle.address.proofs.Blank.{blank_text-read, base_of-read_blank, fragment_of-read_blank, origin_of-read_blank}
use Rattle.address.proofs.address.Address.blank.Goals as goal

pub returns-in-Ok-clause-text : goal.returns-in-Ok-clause-text
returns-in-Ok-clause-text c = blank_text-read c.in-Ok.address c.in-Ok.ensures

pub returns-in-Ok-clause-base : goal.returns-in-Ok-clause-base
returns-in-Ok-clause-base c = base_of-read_blank c.in-Ok.address c.in-Ok.ensures

pub returns-in-Ok-clause-fragment : goal.returns-in-Ok-clause-fragment
returns-in-Ok-clause-fragment c = fragment_of-read_blank c.in-Ok.address c.in-Ok.ensures

pub returns-in-Ok-clause-origin : goal.returns-in-Ok-clause-origin
returns-in-Ok-clause-origin c = origin_of-read_blank c.in-Ok.address c.in-Ok.ensures
