use Rattle.std.proofs.Common.{refl}
use Rattle.tab_unneeded.proofs.Calls.{calm_as, gone_as, kept_as, leaves_as, leaving_as, loose_as, out_as, own_as, proc_as, ready_as, sends_as, waits_as}
use Rattle.tab_unneeded.proofs.making.discard_made.Goals as goal

pub note_made-requires : goal.note_made-requires
note_made-requires g c =
    record {
      known = proc_as g.m c.args.doc c.args.state c.args.why c.requires.1.1.1.1.0 c.args.tables.now c.requires.1.1.1.0 c.requires.1.1.0 c.requires.0 c.requires.1.1.1.1.1.0;
      waits = waits_as g.m c.args.doc c.args.state c.args.why c.requires.1.1.1.1.0 c.args.tables.now c.requires.1.1.1.0 c.requires.1.1.0 c.requires.0 c.requires.1.1.1.1.1.0 c.of-one.ensures.one_each;
    }

pub discard-requires : goal.discard-requires
discard-requires g c = (
  leaving_as g.m c.args.doc c.args.state c.args.why c.requires.1.1.1.1.0 c.args.tables.now c.requires.1.1.1.0 c.requires.1.1.0 c.requires.0 c.requires.1.1.1.1.1.0 c.of-one.ensures.one_each c.note_made.new.self c.in_ok-note_made.ensures.placed c.in_ok-note_made.ensures.kept c.args.out.now c.requires.1.0,
  (
    leaves_as g.m c.args.doc c.args.state c.args.why c.requires.1.1.1.1.0 c.args.tables.now c.requires.1.1.1.0 c.requires.1.1.0 c.requires.0 c.requires.1.1.1.1.1.0 c.of-one.ensures.one_each c.note_made.new.self c.in_ok-note_made.ensures.placed c.in_ok-note_made.ensures.kept c.args.out.now c.requires.1.0,
    (
      sends_as g.m c.args.doc c.args.state c.args.why c.requires.1.1.1.1.0 c.args.tables.now c.requires.1.1.1.0 c.requires.1.1.0 c.requires.0 c.requires.1.1.1.1.1.0 c.of-one.ensures.one_each c.note_made.new.self c.in_ok-note_made.ensures.placed c.in_ok-note_made.ensures.kept c.args.out.now c.requires.1.0,
      (
        gone_as g.m c.args.doc c.args.state c.args.why c.requires.1.1.1.1.0 c.args.tables.now c.requires.1.1.1.0 c.requires.1.1.0 c.requires.0 c.requires.1.1.1.1.1.0 c.of-one.ensures.one_each c.note_made.new.self c.in_ok-note_made.ensures.placed c.in_ok-note_made.ensures.kept c.args.out.now c.requires.1.0,
        (own_as g.m c.args.doc c.args.state c.args.why c.requires.1.1.1.1.0 c.args.tables.now c.requires.1.1.1.0 c.requires.1.1.0 c.requires.0 c.requires.1.1.1.1.1.0 c.of-one.ensures.one_each c.note_made.new.self c.in_ok-note_made.ensures.placed c.in_ok-note_made.ensures.kept c.args.out.now c.requires.1.0, (refl, c.requires.1.1.1.1.1.1)),
      ),
    ),
  ),
)

pub returns-clause-out : goal.returns-clause-out
returns-clause-out g c =
    out_as g.m c.args.doc c.args.state c.args.why c.requires.1.1.1.1.0 c.args.tables.now c.requires.1.1.1.0 c.requires.1.1.0 c.requires.0 c.requires.1.1.1.1.1.0 c.of-one.ensures.one_each c.note_made.new.self c.in_ok-note_made.ensures.placed c.in_ok-note_made.ensures.kept c.args.out.now c.requires.1.0 _ c.in_ok-discard.ensures.out

pub returns-clause-ready : goal.returns-clause-ready
returns-clause-ready g c =
    ready_as g.m c.args.doc c.args.state c.args.why c.requires.1.1.1.1.0 c.args.tables.now c.requires.1.1.1.0 c.requires.1.1.0 c.requires.0 c.requires.1.1.1.1.1.0 c.of-one.ensures.one_each c.note_made.new.self c.in_ok-note_made.ensures.placed c.in_ok-note_made.ensures.kept c.args.out.now c.requires.1.0 _ c.in_ok-discard.ensures.out _ c.in_ok-discard.ensures.kept c.in_ok-discard.ensures.leaving c.requires.1.1.1.1.1.1

pub returns-clause-loose : goal.returns-clause-loose
returns-clause-loose g c =
    loose_as g.m c.args.doc c.args.state c.args.why c.requires.1.1.1.1.0 c.args.tables.now c.requires.1.1.1.0 c.requires.1.1.0 c.requires.0 c.requires.1.1.1.1.1.0 c.of-one.ensures.one_each c.note_made.new.self c.in_ok-note_made.ensures.placed c.in_ok-note_made.ensures.kept c.args.out.now c.requires.1.0 _ c.in_ok-discard.ensures.out _ c.in_ok-discard.ensures.kept c.in_ok-discard.ensures.leaving

pub returns-clause-calm : goal.returns-clause-calm
returns-clause-calm g c =
    calm_as g.m c.args.doc c.args.state c.args.why c.requires.1.1.1.1.0 c.args.tables.now c.requires.1.1.1.0 c.requires.1.1.0 c.requires.0 c.requires.1.1.1.1.1.0 c.of-one.ensures.one_each c.note_made.new.self c.in_ok-note_made.ensures.placed c.in_ok-note_made.ensures.kept c.args.out.now c.requires.1.0 _ c.in_ok-discard.ensures.out _ c.in_ok-discard.ensures.kept c.in_ok-discard.ensures.leaving

pub returns-clause-kept : goal.returns-clause-kept
returns-clause-kept g c =
    kept_as g.m c.args.doc c.args.state c.args.why c.requires.1.1.1.1.0 c.args.tables.now c.requires.1.1.1.0 c.requires.1.1.0 c.requires.0 c.requires.1.1.1.1.1.0 c.of-one.ensures.one_each c.note_made.new.self c.in_ok-note_made.ensures.placed c.in_ok-note_made.ensures.kept c.args.out.now c.requires.1.0 _ c.in_ok-discard.ensures.out _ c.in_ok-discard.ensures.kept c.in_ok-discard.ensures.leaving
