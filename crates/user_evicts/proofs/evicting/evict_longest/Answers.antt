use Rattle.user_evicts.proofs.Calls.{came_as, doc_some, evicted_as, calm_as, kept_as, letting_as, longest_some, loose_as, ready_as}
use Rattle.user_evicts.proofs.Owns.{tied_own}
use Rattle.user_evicts.proofs.evicting.evict_longest.Goals as goal

pub longest-state-requires : goal.longest-state-requires
longest-state-requires g c =
    longest_some g.b.event g.b.state c.requires.1.1.0 c.args.tables.now g.b.queue g.b.noted c.requires.1.1.1.1.0 c.requires.1.1.1.1.1.0 c.requires.1.1.1.1.1.1.0 c.requires.1.1.1.0 c.requires.1.1.1.1.1.1.1

pub doc_there-doc-requires : goal.doc_there-doc-requires
doc_there-doc-requires g c =
    doc_some g.b.event g.b.state c.requires.1.1.0 c.args.tables.now g.b.queue g.b.noted c.requires.1.1.1.1.0 c.requires.1.1.1.1.1.0 c.requires.1.1.1.1.1.1.0 c.requires.1.1.1.0 c.requires.1.1.1.1.1.1.1 c.longest-state.result c.longest-state.ensures

pub discard_evicted-requires : goal.discard_evicted-requires
discard_evicted-requires g c = (
  c.requires.1.0,
  (
    tied_own g.b.event g.b.state c.requires.1.1.0 c.args.tables.now g.b.queue g.b.noted c.requires.1.1.1.1.0 c.requires.1.1.1.1.1.0 c.requires.1.1.1.1.1.1.0,
    (
      evicted_as g.b.event g.b.state c.requires.1.1.0 c.args.tables.now g.b.queue g.b.noted c.requires.1.1.1.1.0 c.requires.1.1.1.1.1.0 c.requires.1.1.1.1.1.1.0 c.requires.1.1.1.0 c.requires.1.1.1.1.1.1.1 c.longest-state.result c.longest-state.ensures c.doc_there-doc.result c.doc_there-doc.ensures,
      c.requires.1.1.1.1.1.1.1,
    ),
  ),
)

pub discard_below-requires : goal.discard_below-requires
discard_below-requires g c =
    letting_as g.b.event g.b.state c.requires.1.1.0 c.args.tables.now g.b.queue g.b.noted c.requires.1.1.1.1.0 c.requires.1.1.1.1.1.0 c.requires.1.1.1.1.1.1.0 c.requires.1.1.1.0 c.requires.1.1.1.1.1.1.1 c.longest-state.result c.longest-state.ensures c.doc_there-doc.result c.doc_there-doc.ensures _ _ c.in_ok-discard_evicted.ensures.out c.in_ok-discard_evicted.ensures.kept c.in_ok-discard_evicted.ensures.work

pub returns-clause-came : goal.returns-clause-came
returns-clause-came g c =
    came_as g.b.event g.b.state c.requires.1.1.0 c.args.tables.now g.b.queue g.b.noted c.requires.1.1.1.1.0 c.requires.1.1.1.1.1.0 c.requires.1.1.1.1.1.1.0 c.requires.1.1.1.0 c.requires.1.1.1.1.1.1.1 c.longest-state.result c.longest-state.ensures c.doc_there-doc.result c.doc_there-doc.ensures _ _ c.in_ok-discard_evicted.ensures.out c.in_ok-discard_evicted.ensures.kept c.in_ok-discard_evicted.ensures.work _ _ c.in_ok-discard_below.ensures.only c.in_ok-discard_below.ensures.stays c.in_ok-discard_below.ensures.kept _ c.in_ok-docs.ensures.placed c.in_ok-discard_below.ensures.fewer c.in_ok-discard_below.ensures.gone

pub returns-clause-ready : goal.returns-clause-ready
returns-clause-ready g c =
    ready_as g.b.event g.b.state c.requires.1.1.0 c.args.tables.now g.b.queue g.b.noted c.requires.1.1.1.1.0 c.requires.1.1.1.1.1.0 c.requires.1.1.1.1.1.1.0 c.requires.1.1.1.0 c.requires.1.1.1.1.1.1.1 c.longest-state.result c.longest-state.ensures c.doc_there-doc.result c.doc_there-doc.ensures _ _ c.in_ok-discard_evicted.ensures.out c.in_ok-discard_evicted.ensures.kept c.in_ok-discard_evicted.ensures.work _ _ c.in_ok-discard_below.ensures.only c.in_ok-discard_below.ensures.stays c.in_ok-discard_below.ensures.kept c.requires.0 c.in_ok-discard_below.ensures.letting

pub returns-clause-loose : goal.returns-clause-loose
returns-clause-loose g c =
    loose_as g.b.event g.b.state c.requires.1.1.0 c.args.tables.now g.b.queue g.b.noted c.requires.1.1.1.1.0 c.requires.1.1.1.1.1.0 c.requires.1.1.1.1.1.1.0 c.requires.1.1.1.0 c.requires.1.1.1.1.1.1.1 c.longest-state.result c.longest-state.ensures c.doc_there-doc.result c.doc_there-doc.ensures _ _ c.in_ok-discard_evicted.ensures.out c.in_ok-discard_evicted.ensures.kept c.in_ok-discard_evicted.ensures.work _ _ c.in_ok-discard_below.ensures.only c.in_ok-discard_below.ensures.stays c.in_ok-discard_below.ensures.kept c.requires.0 c.in_ok-discard_below.ensures.letting

pub returns-clause-calm : goal.returns-clause-calm
returns-clause-calm g c =
    calm_as g.b.event g.b.state c.requires.1.1.0 c.args.tables.now g.b.queue g.b.noted c.requires.1.1.1.1.0 c.requires.1.1.1.1.1.0 c.requires.1.1.1.1.1.1.0 c.requires.1.1.1.0 c.requires.1.1.1.1.1.1.1 c.longest-state.result c.longest-state.ensures c.doc_there-doc.result c.doc_there-doc.ensures _ _ c.in_ok-discard_evicted.ensures.out c.in_ok-discard_evicted.ensures.kept c.in_ok-discard_evicted.ensures.work _ _ c.in_ok-discard_below.ensures.only c.in_ok-discard_below.ensures.stays c.in_ok-discard_below.ensures.kept c.requires.0 c.in_ok-discard_below.ensures.letting

pub returns-clause-kept : goal.returns-clause-kept
returns-clause-kept g c =
    kept_as g.b.event g.b.state c.requires.1.1.0 c.args.tables.now g.b.queue g.b.noted c.requires.1.1.1.1.0 c.requires.1.1.1.1.1.0 c.requires.1.1.1.1.1.1.0 c.requires.1.1.1.0 c.requires.1.1.1.1.1.1.1 c.longest-state.result c.longest-state.ensures c.doc_there-doc.result c.doc_there-doc.ensures _ _ c.in_ok-discard_evicted.ensures.out c.in_ok-discard_evicted.ensures.kept c.in_ok-discard_evicted.ensures.work _ _ c.in_ok-discard_below.ensures.only c.in_ok-discard_below.ensures.stays c.in_ok-discard_below.ensures.kept
