-- One request changes, or its check does: what is wanted of it, so that all that is carried of prompts goes on to hold.
-- HTML Standard, "checking if unloading is canceled"; the table and its prompts are this project's own.
use Rattle.std.specs.Prelude.{◌≡◌, Bool, true, false, ◌==◌, Some, None, is_some, List}
use Rattle.std.specs.List.{list_all}
use Rattle.tab_ids.specs.declared.DocId.{DocId}
use Rattle.tab_ids.specs.declared.ReqId.{ReqId}
use Rattle.log_model.specs.Checks.{due_prompt}
use Rattle.log_model.specs.Equal.{holds}
use Rattle.log_model.specs.Outcomes.{is_drop}
use Rattle.log_model.specs.Places.{all_asked, is_gone}
use Rattle.log_model.specs.Seen.{Asked, Seen, request_of}
use Rattle.unload_check.specs.Checks.{OpenCheck, check_of}
use Rattle.check_facts.specs.Checking.{is_checking, is_said}
use Rattle.check_facts.specs.Having.{IsHeld}
use Rattle.check_facts.specs.Prompting.{had_settled, has_settled, todo_of}

-- between two states one request changes at most, and who is gone is the same
pub record ChangesOne (s t : Seen) (req : ReqId) : Type 0 where
  pub others : (r : ReqId) → (r.0 == req.0) ≡ false → request_of t r ≡ request_of s r
  pub gone : (doc : DocId) → is_gone t doc ≡ is_gone s doc

-- of the request as it is then: the table holds its check, what was delivered is there, it has its number, and nothing is due but what the table notes
pub record IsOneHeld (start t : Seen) (table : List (ReqId × OpenCheck)) (req : ReqId) (x : Asked) : Type 0 where
  pub nr : x.nr ≡ req
  pub said : list_all is_said x.asks ≡ true
  pub held : IsHeld t table req x
  pub checked : all_asked t x ≡ false → is_checking t x ≡ false → holds is_drop x.ending ≡ true
  pub prompted : is_some x.prompted ≡ true → has_settled t x ≡ true
  pub nothing : had_settled start req ≡ false → has_settled t x ≡ true → is_some x.prompted ≡ false → todo_of table req ≡ None → due_prompt t x ≡ None

-- and if it isn't in its check, the table has none; what was settled as the event began is
pub record IsOneDuly (checking : ReqId → Bool) (start t : Seen) (table : List (ReqId × OpenCheck)) (req : ReqId) : Type 0 where
  pub within : checking req ≡ false → check_of req table ≡ None
  pub stays : had_settled start req ≡ true → had_settled t req ≡ true
  pub each : (x : Asked) → request_of t req ≡ Some x → IsOneHeld start t table req x
