-- The table of unload checks between two events, beside what lasts of the log itself.
-- HTML Standard, "checking if unloading is canceled". The table, and which requests are in their check as the coordinator has it, are this project's own.
use Rattle.check_facts.specs.Having.{HasChecks, OpenChecked}
pub use Rattle.checking_facts.specs.Prompts.{told_all}
use Rattle.log_model.specs.Seen.{Seen}
use Rattle.std.specs.Prelude.{Bool, List, None, false, ◌≡◌}
use Rattle.tab_ids.specs.declared.ReqId.{ReqId}
use Rattle.unasked_dues.specs.Checking.{NonePasses}
use Rattle.unload_check.specs.Checks.{OpenCheck, check_of}

-- the table has the checks that are open, told of all that was discarded; each request with an open question is in one, or was dropped; who isn't in its check has none; and no traversal in its check has passed
pub record ChecksStand (checking : ReqId → Bool) (s : Seen) (checks : List (ReqId × OpenCheck)) : Type 0 where
  pub has : HasChecks s checks
  pub open_ : OpenChecked s
  pub within : (req : ReqId) → checking req ≡ false → check_of req checks ≡ None
  pub calm : NonePasses checking s
