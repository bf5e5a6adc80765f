use Rattle.tab_call.proofs.CallLaws.{read_beyond}
use Rattle.tab_call.proofs.call.read_scenario.Goals as goal

pub returns-in-Err-TooLong : goal.returns-in-Err-TooLong
returns-in-Err-TooLong g c = read_beyond _ _ (rw c.in-Err-TooLong.field-0-is at c.in-Err-TooLong.ensures.bytes)
