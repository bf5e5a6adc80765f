-- What is carried, as those want it who read the aim off.
use Rattle.std.proofs.Common.{Bool}
use Rattle.tab_ids.specs.declared.ReqId.{ReqId}
use Rattle.log_model.specs.Seen.{Seen}
use Rattle.unasked_dues.specs.Checking.{IsAimed, IsMoving, NonePasses}
use Rattle.checking_facts.specs.Checks.{AreInCheck}

-- with that no traversal in its check has passed, the aim is read off
pub are_aimed : (checking : ReqId → Bool) (s : Seen) → AreInCheck checking s → NonePasses checking s → IsAimed checking s
are_aimed checking s are none =
    record { numbered = are.numbered; others = λ req q at runs off. are.others req q at off; none_passes = none }

-- and what is known of who moves
pub are_moving : (checking : ReqId → Bool) (s : Seen) → AreInCheck checking s → NonePasses checking s → IsMoving checking s
are_moving checking s are none =
    record { aimed = are_aimed checking s are none; checks = are.checks; alone = are.alone }
