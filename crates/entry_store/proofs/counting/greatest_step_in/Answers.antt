use Rattle.std.proofs.lemmas.Bool.{false≢true}
use Rattle.entry_store.specs.Kept.{history_in}
use Rattle.entry_store.proofs.LastStep.{some_used, last_is_greatest}
use Rattle.entry_store.proofs.counting.greatest_step_in.Goals as goal

pub returns-in-Some : goal.returns-in-Some
returns-in-Some c =
    last_is_greatest (history_in c.args.lists.now) c.args.lists.now.used.keys c.requires.kept c.in-Some.last.now c.in-Some.ensures.last

pub returns-in-None : goal.returns-in-None
returns-in-None c =
    absurd (false≢true (c.in-None.ensures.variant.1 (some_used (history_in c.args.lists.now) c.args.lists.now.used.keys c.requires.kept)))
