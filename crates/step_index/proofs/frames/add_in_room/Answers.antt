use Rattle.std.proofs.Common.{◌∙◌, ap, cond, ◌++◌, ◌∷◌, []}
use Rattle.entry_store.proofs.AddLaw.{has_nav-turned}
use Rattle.step_index.proofs.frames.add_in_room.Goals as goal

pub returns : goal.returns
returns c =
    let keys = c.args.added.now.keys in
    c.in-Ok.ensures.keys ∙ ap (λ b. cond b keys (keys ++ c.args.nav ∷ [])) (has_nav-turned keys c.args.nav ∙ c.requires.fresh)
