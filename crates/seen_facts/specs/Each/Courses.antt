-- How far a request came, and what it moved: all that is read of it but what was made of it and how it ended.
-- This project's own.
use Rattle.std.specs.Prelude.{Bool, List, Option}
use Rattle.tab_ids.specs.declared.DocId.{DocId}
use Rattle.tab_ids.specs.declared.NavId.{NavId}
use Rattle.tab_ids.specs.declared.ReqId.{ReqId}
use Rattle.tab_ids.specs.declared.Step.{Step}
use Rattle.log_model.specs.declared.request.Request.{Request}
use Rattle.log_model.specs.Seen.{Asked, Asking}

pub record Course : Type 0 where
  pub nr : ReqId
  pub what : Request
  pub doc : Option DocId
  pub asks : List Asking
  pub prompted : Option DocId
  pub is_started : Bool
  pub goal : Option Step
  pub activated : List NavId
  pub moved : List NavId

abbrev pub course : Asked → Course
course q =
    record {
      nr = q.nr;
      what = q.what;
      doc = q.doc;
      asks = q.asks;
      prompted = q.prompted;
      is_started = q.is_started;
      goal = q.goal;
      activated = q.activated;
      moved = q.moved;
    }
