use Rattle.std.proofs.Common.{◌≡◌, ◌++◌, take, drop, length}
use Rattle.unload_check.specs.Checks.{after_all_deaths}
use Rattle.unload_check.proofs.unload_check.die_in.Given as goal

abbrev pub invariant-loop-place : goal.invariant-loop-place
invariant-loop-place l = record {
  same : length l.checks.entries ≡ length l.fn.checks.entries;
  done : take l.place l.checks.entries ++ after_all_deaths l.docs (drop l.place l.checks.entries) ≡ after_all_deaths l.docs l.fn.checks.entries;
}
