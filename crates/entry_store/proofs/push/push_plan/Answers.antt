use Rattle.std.proofs.Common.{ap, not}
use Rattle.entry_store.proofs.PushLaw.{planned_none, planned}
use Rattle.entry_store.proofs.push.push_plan.Goals as goal

pub returns-in-None-clause-refused : goal.returns-in-None-clause-refused
returns-in-None-clause-refused c =
    ap not (planned_none c.args.lists.now c.args.nav c.args.entry c.deref.result.now c.deref-2.result.now c.deref.ensures.value c.deref-2.ensures.value c.in_ok-left.left.states.keys c.in_ok-left.ensures.held c.requires.kept.sound c.requires.may.0 c.in-None.ensures.owner)

pub returns-in_ok-note-in-Some-clause-ok : goal.returns-in_ok-note-in-Some-clause-ok
returns-in_ok-note-in-Some-clause-ok c =
    planned c.args.lists.now c.args.nav c.args.entry c.deref.result.now c.deref-2.result.now c.deref.ensures.value c.deref-2.ensures.value c.in_ok-left.left.states.keys c.in_ok-left.ensures.held
    c.args.state c.args.address.now c.args.memo.now c.in-Some.place c.in_ok-row-in-Some.row c.in-Some.owner c.note.new.self.states.keys c.in_ok-left.left.steps.keys c.note.new.self.steps.keys
    c.in_ok-left.ensures.steps c.in-Some.ensures.within c.in-Some.ensures.owner c.in_ok-row-in-Some.ensures c.note.ensures.states c.in_ok-note-in-Some.ensures.steps
