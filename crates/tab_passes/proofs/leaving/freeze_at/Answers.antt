use Rattle.log_model.specs.AfterPlaces.{without_doc}
use Rattle.std.proofs.Common.{List, drop, subst, sym, take, ◌+◌, ◌∷◌}
use Rattle.tab_ids.specs.declared.DocId.{DocId}
use Rattle.tab_passes.specs.Leaving.{IsFreezing, without_all}
use Rattle.tab_passes.proofs.Freezings.{freezing_next, frozen_next}
use Rattle.tab_passes.proofs.Frozen.{frozen_among}
use Rattle.tab_passes.proofs.Stills.{still_among}
use Rattle.tab_passes.proofs.leaving.freeze_at.Goals as goal

pub freeze_next-requires : goal.freeze_next-requires
freeze_next-requires g c =
    subst (λ (docs : List DocId). IsFreezing g.n.next.freezing c.args.why g.n.next.left (c.at.result.now ∷ docs) c.args.out.now c.args.tables.now) (sym c.requires.0.rest)
    (subst (λ (l : List DocId). IsFreezing g.n.next.freezing c.args.why l (c.at.result.now ∷ drop (c.args.i + 1) c.args.docs.now) c.args.out.now c.args.tables.now) (sym c.requires.0.left)
    (freezing_next _ _ g.n.first c.args.docs.now c.args.i _ _ _ c.at.ensures c.requires.1))

pub returns-clause-freezing : goal.returns-clause-freezing
returns-clause-freezing g c =
    frozen_next _ _ g.n.first c.args.docs.now c.args.i _ _ _ c.at.ensures
    (subst (λ (docs : List DocId). IsFreezing g.n.next.freezing c.args.why (without_doc c.at.result.now (without_all (take c.args.i c.args.docs.now) g.n.first)) docs c.freeze_next.new.out c.freeze_next.new.tables) c.requires.0.rest
    (subst (λ (l : List DocId). IsFreezing g.n.next.freezing c.args.why (without_doc c.at.result.now l) g.n.next.docs c.freeze_next.new.out c.freeze_next.new.tables) c.requires.0.left c.in_ok-freeze_next.ensures.freezing))

pub returns-clause-only : goal.returns-clause-only
returns-clause-only g c = frozen_among _ _ _ _ _ _ c.at.ensures c.in_ok-freeze_next.ensures.only

pub returns-clause-still : goal.returns-clause-still
returns-clause-still g c = still_among _ _ _ _ _ c.at.ensures c.in_ok-freeze_next.ensures.still
