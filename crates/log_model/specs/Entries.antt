-- What back and forward in one document is about: the requests that let a document make an entry, and traversals.
-- HTML Standard, "URL and history update steps", "navigate to a fragment" and "traverse the history by a delta".
use Rattle.std.specs.Prelude.{Bool, true, false}
use Rattle.log_model.specs.declared.action.Action.{Action}
use Rattle.log_model.specs.declared.action.Action.TheVariants as actions
use Rattle.log_model.specs.declared.request.Request.{Request}
use Rattle.log_model.specs.declared.request.Request.TheVariants as requests

-- a push, a replace or a fragment navigation
abbrev pub is_change_of_entry : Action → Bool
is_change_of_entry (actions.Push memo reference) = true
is_change_of_entry (actions.Replace memo reference) = true
is_change_of_entry (actions.Fragment text) = true
is_change_of_entry _ = false

-- such a change, or a traversal
abbrev pub is_request_of_document : Request → Bool
is_request_of_document (requests.Go delta) = true
is_request_of_document (requests.Poke nav action) = is_change_of_entry action
is_request_of_document _ = false

-- the test is passed, as a fact that computes
abbrev pub HasPassed : Bool → Type 0
HasPassed true = Unit {0}
HasPassed false = ⊥
