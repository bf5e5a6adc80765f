use Rattle.entry_store.specs.Nested.{rows_of}
use Rattle.entry_store.proofs.AppendLaw.{appended_fits, appended_same, appended_kept}
use Rattle.entry_store.proofs.append.append_in.Goals as goal

pub returns-clause-kept : goal.returns-clause-kept
returns-clause-kept c =
    appended_kept c.args.lists.now c.requires.kept c.requires.room c.requires.last c.args.nav c.args.entry c.args.state c.args.address.now c.args.memo.now c.requires.may
    c.args.end.place c.args.end.owner c.requires.list c.in_ok-row.row c.in_ok-row.ensures (rows_of c.append_row.new.nests.items) c.in_ok-append_row.ensures.ok
    c.append_row.new.used.keys c.in_ok-append_row.ensures.steps

pub returns-clause-fits : goal.returns-clause-fits
returns-clause-fits c =
    appended_fits c.args.lists.now c.requires.kept c.requires.room c.requires.last c.args.nav c.args.entry c.args.state c.args.address.now c.args.memo.now c.requires.may
    c.args.end.place c.args.end.owner c.requires.list

pub returns-clause-ok : goal.returns-clause-ok
returns-clause-ok c =
    appended_same c.args.lists.now c.requires.kept c.requires.room c.requires.last c.args.nav c.args.entry c.args.state c.args.address.now c.args.memo.now c.requires.may
    c.args.end.place c.args.end.owner c.requires.list c.in_ok-row.row c.in_ok-row.ensures (rows_of c.append_row.new.nests.items) c.in_ok-append_row.ensures.ok
