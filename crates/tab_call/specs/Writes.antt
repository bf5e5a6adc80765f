-- What is written of a log.
-- This project's own.
use Rattle.std.specs.Prelude.{◌≡◌, ℕ, ◌<◌, List, ◌++◌, take, length, Option, option_map, Result, Ok, Err}
use Rattle.std.specs.Io.KnownBytes.{Appends}
use Rattle.log_model.specs.declared.row_kind.LogRow.{LogRow}
use Rattle.log_text.specs.Lines.{log_text}
use Rattle.report_text.specs.Reports.{report_of}
use Rattle.tab_io.specs.Causes.{Rose}
use Rattle.tab_call.specs.declared.words.Output.{Output}
use Rattle.tab_call.specs.declared.words.Output.TheVariants as outputs
use Rattle.tab_call.specs.declared.writing.Unwritten.{Unwritten}
use Rattle.tab_call.specs.declared.writing.Unwritten.TheVariants as causes

-- the report of a log, and before it the log where it is asked for
abbrev pub text_with : Output → List LogRow → List ℕ → List ℕ
text_with outputs.Report log report = report
text_with outputs.LogAndReport log report = log_text log ++ report

-- the text of a log, if there is one
abbrev pub text_of_log : Output → Option (List LogRow) → Option (List ℕ)
text_of_log output log = option_map (λ rows. text_with output rows (report_of rows)) log

-- a part of the text was written, from its beginning
abbrev pub WritesPart : Option (List ℕ) → Option (List ℕ) → List ℕ → Type 0
WritesPart before after text = (count : ℕ) × (count < length text) × Appends before after (take count text)

-- the text was written; or the sink failed, and a part of it was written, from its beginning; or nothing was
abbrev pub IsWritten : Result (Unit {0}) Unwritten → List ℕ → Option (List ℕ) → Option (List ℕ) → ℕ → ℕ → Type 0
IsWritten (Ok _) text before after old now = Appends before after text
IsWritten (Err causes.WriteFault) text before after old now = Rose old now × WritesPart before after text
IsWritten (Err causes.OutOfMemory) text before after old now = after ≡ before
