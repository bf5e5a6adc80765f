use Rattle.std.proofs.Common.{◌∙◌}
use Rattle.log_model.specs.Logs.{history_of}
use Rattle.report_text.proofs.StoreReads.{same_length, same_index}
use Rattle.report_text.proofs.writing.stands_at.Goals as goal

pub returns-clause-length : goal.returns-clause-length
returns-clause-length c =
    c.from-2.ensures ∙ (c.length_index-length.ensures.length ∙ same_length c.store-store.result.now (history_of c.args.world.now.log) (c.store-store.ensures.history c.requires.open))

pub returns-clause-index : goal.returns-clause-index
returns-clause-index c =
    c.from-3.ensures ∙ (c.length_index-length.ensures.index ∙ same_index c.store-store.result.now (history_of c.args.world.now.log) (c.store-store.ensures.history c.requires.open) c.current-step.result.0 c.current-step.ensures)
