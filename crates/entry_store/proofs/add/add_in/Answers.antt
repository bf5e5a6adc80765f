use Rattle.std.proofs.Common.{ap, ◌∙◌, ◌++◌}
use Rattle.entry_store.specs.Nested.{rows_of}
use Rattle.entry_store.specs.Kept.{history_in}
use Rattle.entry_store.proofs.AddLaw.{frame_fits, framed_same, framed_kept}
use Rattle.entry_store.proofs.add.add_in.Goals as goal

pub returns-clause-kept : goal.returns-clause-kept
returns-clause-kept c =
    let plan = c.in_ok-nest.ensures.ok in
    framed_kept (history_in c.args.lists.now) c.args.lists.now.used.keys c.requires.kept c.args.owner c.args.nav c.args.entry c.args.state c.requires.may plan.step plan.first plan.is_child plan.is_new
    (rows_of c.put_frame.new.nests.items) (c.in_ok-put_frame.ensures.rows ∙ ap (λ rows. rows_of c.args.lists.now.nests.items ++ rows) plan.are) c.put_frame.new.added.keys c.in_ok-put_frame.ensures.added

pub returns-clause-fits : goal.returns-clause-fits
returns-clause-fits c =
    let plan = c.in_ok-nest.ensures.ok in
    frame_fits (history_in c.args.lists.now) c.args.owner c.args.nav c.args.entry c.args.state plan.step plan.first plan.is_child plan.is_new

pub returns-clause-ok : goal.returns-clause-ok
returns-clause-ok c =
    let plan = c.in_ok-nest.ensures.ok in
    framed_same (history_in c.args.lists.now) c.args.lists.now.used.keys c.requires.kept c.args.owner c.args.nav c.args.entry c.args.state c.requires.may plan.step plan.first plan.is_child plan.is_new
    (rows_of c.put_frame.new.nests.items) (c.in_ok-put_frame.ensures.rows ∙ ap (λ rows. rows_of c.args.lists.now.nests.items ++ rows) plan.are) c.put_frame.new.added.keys c.in_ok-put_frame.ensures.added
