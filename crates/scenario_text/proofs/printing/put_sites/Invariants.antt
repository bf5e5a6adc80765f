use Rattle.std.proofs.Common.{◌≡◌, ◌++◌, take}
use Rattle.std.specs.Prelude.{flat_map}
use Rattle.scenario_text.specs.Printed.{site_line}
use Rattle.scenario_text.proofs.printing.put_sites.Given as goal

abbrev pub invariant-loop-site : goal.invariant-loop-site
invariant-loop-site l = l.out.items ≡ l.fn.out.items ++ flat_map site_line (take l.site-index l.sites)
