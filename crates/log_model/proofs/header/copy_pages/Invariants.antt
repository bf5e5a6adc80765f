use Rattle.std.proofs.Common.{◌≡◌, take}
use Rattle.log_model.proofs.header.copy_pages.Given as goal

abbrev pub invariant-loop-page : goal.invariant-loop-page
invariant-loop-page l = l.copied ≡ take l.page-index l.page-items
