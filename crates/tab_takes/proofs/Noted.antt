-- The list of noted requests that a function is given, which its ghost names, too.
use Rattle.std.proofs.Common.{List, subst, sym, ◌≡◌}
use Rattle.tab_doors.specs.declared.tables.Tables.{Tables}
use Rattle.tab_ids.specs.declared.ReqId.{ReqId}
use Rattle.tab_ids.specs.declared.StateId.{StateId}
use Rattle.tab_rests.proofs.PassedOn.{EntriesAreNoted}

pub noted_on : (t : Tables) (by : ReqId) (noted blame new : List (StateId × ReqId)) → noted ≡ blame → EntriesAreNoted t by blame new → EntriesAreNoted t by noted new
noted_on t by noted blame new same are = subst (λ (l : List (StateId × ReqId)). EntriesAreNoted t by l new) (sym same) are
