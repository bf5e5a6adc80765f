-- What is known of a request whatever orders serve it: what it asks, of which document, what was made of it, and how it ended.
-- This project's own.
use Rattle.std.specs.Prelude.{Option, option_map}
use Rattle.tab_ids.specs.declared.DocId.{DocId}
use Rattle.log_model.specs.declared.made.Made.{Made}
use Rattle.log_model.specs.declared.outcome.Ending.{Ending}
use Rattle.log_model.specs.declared.request.Request.{Request}
use Rattle.log_model.specs.Seen.{Asked}

pub record Core : Type 0 where
  pub what : Request
  pub doc : Option DocId
  pub made : Option Made
  pub ending : Option Ending

abbrev pub core : Asked → Core
core q = record { what = q.what; doc = q.doc; made = q.made; ending = q.ending }

abbrev pub core_of : Option Asked → Option Core
core_of asked = option_map core asked
