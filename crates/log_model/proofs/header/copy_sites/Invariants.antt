use Rattle.std.proofs.Common.{◌≡◌, take}
use Rattle.log_model.proofs.header.copy_sites.Given as goal

abbrev pub invariant-loop-site : goal.invariant-loop-site
invariant-loop-site l = l.copied ≡ take l.site-index l.site-items
