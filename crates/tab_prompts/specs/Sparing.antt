-- For whose sake the user is asked by what the table noted last, and the rows that spare these documents while their run lasts.
-- HTML Standard, "checking if unloading is canceled". That a prompt is due for the documents that are there where a run of discarded documents ends is this project's own.
use Rattle.check_facts.specs.Prompting.{todo_of}
use Rattle.checking_facts.specs.Prompts.{discarded_by}
use Rattle.log_model.specs.Checks.{is_of_run}
use Rattle.log_model.specs.Equal.{has_doc}
use Rattle.log_model.specs.declared.row_kind.LogRow.{LogRow}
use Rattle.std.specs.List.{list_all}
use Rattle.std.specs.Option.{option_map_or}
use Rattle.std.specs.Prelude.{Bool, List, None, Option, false, filter_map, if◌then◌else◌, is_none, not, take_while}
use Rattle.tab_ids.specs.declared.DocId.{DocId}
use Rattle.tab_ids.specs.declared.ReqId.{ReqId}
use Rattle.unload_check.specs.Checks.{OpenCheck}

-- the document that the later table notes for the request, where the earlier one noted none
abbrev pub new_note : List (ReqId × OpenCheck) → List (ReqId × OpenCheck) → ReqId → Option DocId
new_note before told req = if is_none (todo_of before req) then todo_of told req else None

-- those of all requests
abbrev pub new_notes : List (ReqId × OpenCheck) → List (ReqId × OpenCheck) → List DocId
new_notes before told = filter_map (λ (check : ReqId × OpenCheck). new_note before told check.0) told

-- the row discards one of these documents
abbrev pub discards_one : List DocId → LogRow → Bool
discards_one docs row = option_map_or (has_doc docs) (discarded_by row.row) false

-- these rows discard none of these documents, up to the first that neither discards a document nor asks the user
abbrev pub spares : List DocId → List LogRow → Bool
spares docs later = list_all (λ (row : LogRow). not (discards_one docs row)) (take_while is_of_run later)
