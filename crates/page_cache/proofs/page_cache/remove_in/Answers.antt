use Rattle.std.proofs.Common.{ap, is_some, ◌∙◌}
use Rattle.page_cache.proofs.Leaves.{found_is_kept, others_stay}
use Rattle.page_cache.proofs.page_cache.remove_in.Goals as goal

pub returns-clause-found : goal.returns-clause-found
returns-clause-found c =
    c.is_some.ensures ∙ ap is_some c.pop.ensures.value ∙ found_is_kept c.args.state c.args.kept.now.entries

pub returns-clause-rest : goal.returns-clause-rest
returns-clause-rest c =
    rw c.pop.ensures.entries (others_stay c.args.state c.args.kept.now.entries c.len-len.ensures.valid.0)
