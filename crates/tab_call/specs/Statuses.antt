-- The exit status of each way a call may end.
-- This project's own.
use Rattle.std.specs.Prelude.{ℕ}
use Rattle.tab_call.specs.declared.status.Status.{Status}
use Rattle.tab_call.specs.declared.status.Status.TheVariants.{Done, Usage, Scenario, ReadFault, WriteFault, OutOfMemory, LogFull, UrlOverflow}

abbrev pub number_of : Status → ℕ
number_of Done = 0
number_of Usage = 1
number_of (Scenario refusal) = 2
number_of ReadFault = 3
number_of WriteFault = 4
number_of OutOfMemory = 5
number_of LogFull = 6
number_of (UrlOverflow overflowed) = 7
