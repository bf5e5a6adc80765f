use Rattle.std.proofs.Common.{Option, sym, ◌∙◌, subst}
use Rattle.std.specs.Prelude.{option_map}
use Rattle.tab_ids.specs.declared.DocId.{DocId}
use Rattle.tab_ids.specs.declared.Epoch.{Epoch}
use Rattle.running_table.specs.Runners.{IsNewestOf}
use Rattle.running_table.proofs.Newest.{newest_picked, once_of}
use Rattle.running_table.proofs.nav_runners.newest_of.Goals as goal

pub returns-in-Some : goal.returns-in-Some
returns-in-Some c =
    subst (λ (o : Option (DocId × Epoch)). IsNewestOf c.args.epochs.now.entries (option_map (λ (e : DocId × Epoch). e.0) o)) (sym c.pick.ensures ∙ c.in-Some.is) (newest_picked c.args.epochs.now.entries (once_of _ c.len-len.ensures.unique))

pub returns-in-None : goal.returns-in-None
returns-in-None c =
    subst (λ (o : Option (DocId × Epoch)). IsNewestOf c.args.epochs.now.entries (option_map (λ (e : DocId × Epoch). e.0) o)) (sym c.pick.ensures ∙ c.in-None.is) (newest_picked c.args.epochs.now.entries (once_of _ c.len-len.ensures.unique))
