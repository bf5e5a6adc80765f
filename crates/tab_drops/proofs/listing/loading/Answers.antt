use Rattle.tab_drops.proofs.Sortings.{listed_in}
use Rattle.tab_drops.proofs.listing.loading.Goals as goal

pub returns : goal.returns
returns c = listed_in c.args.tree.now c.args.loads.now c.in_ok-sorted.sorted.entries _ c.in_ok-sorted.ensures c.len-count.ensures.ordered c.in_ok-navs.ensures
