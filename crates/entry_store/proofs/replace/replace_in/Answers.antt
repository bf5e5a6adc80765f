use Rattle.entry_store.proofs.ReplaceLaw.{replaced_same, replaced_kept}
use Rattle.entry_store.proofs.replace.replace_in.Goals as goal

pub returns-in_ok-put_over-in-Some-clause-kept : goal.returns-in_ok-put_over-in-Some-clause-kept
returns-in_ok-put_over-in-Some-clause-kept c =
    replaced_kept c.args.lists.now c.requires.kept c.args.nav c.args.over c.args.entry c.args.state c.args.address.now c.args.memo.now c.requires.may
    c.deref-2.result.now c.deref-2.ensures.value c.in-Some.p.place c.in-Some.p.at c.in-Some.p.owner c.in-Some.p.step.0 c.in-Some.ensures.found
    c.in_ok-row-in-Some.row c.in_ok-row-in-Some.ensures c.put_over.new.lists c.in_ok-put_over-in-Some.ensures.ok

pub returns-in_ok-put_over-in-Some-clause-ok : goal.returns-in_ok-put_over-in-Some-clause-ok
returns-in_ok-put_over-in-Some-clause-ok c =
    replaced_same c.args.lists.now c.requires.kept c.args.nav c.args.over c.args.entry c.args.state c.args.address.now c.args.memo.now c.requires.may
    c.deref-2.result.now c.deref-2.ensures.value c.in-Some.p.place c.in-Some.p.at c.in-Some.p.owner c.in-Some.p.step.0 c.in-Some.ensures.found
    c.in_ok-row-in-Some.row c.in_ok-row-in-Some.ensures c.put_over.new.lists c.in_ok-put_over-in-Some.ensures.ok
