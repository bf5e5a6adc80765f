use Rattle.std.proofs.Common.{◌≡◌, drop}
use Rattle.std.specs.Prelude.{fold}
use Rattle.log_model.specs.declared.row_kind.LogRow.{LogRow}
use Rattle.history_log.specs.declared.prompt_reader.PromptReader.{PromptReader}
use Rattle.history_log.specs.Prompts.{prompt_after, no_prompt}
use Rattle.history_log.proofs.log.Log.prompt_up.Given as goal

abbrev pub invariant-loop-row : goal.invariant-loop-row
invariant-loop-row l =
    fold (λ (p : PromptReader) (row : LogRow). prompt_after l.req p row.row) l.reader (drop l.row-index l.row-items)
    ≡ fold (λ (p : PromptReader) (row : LogRow). prompt_after l.req p row.row) (no_prompt l.req) l.row-items
