use Rattle.std.proofs.Common.{ap, ◌∙◌, ◌++◌, ◌∷◌, [], cond}
use Rattle.entry_store.proofs.AddLaw.{has_nav-turned}
use Rattle.entry_store.proofs.add.note_added.Goals as goal

pub returns-clause-ok : goal.returns-clause-ok
returns-clause-ok c =
    let old = c.args.added.now.keys in
    c.in_ok-insert.ensures.keys ∙ ap (λ b. cond b old (old ++ c.args.nav ∷ [])) (has_nav-turned old c.args.nav ∙ c.requires.new)
