-- Requests change, but the traversal that runs is the same, and so are the ongoing loads: so it is as a load is accepted, or dropped in its unload check.
-- HTML Standard, "checking if unloading is canceled" and "ongoing navigation"; the form is this project's own.
use Rattle.std.specs.Prelude.{◌≡◌, true, List, Some}
use Rattle.tab_ids.specs.declared.ReqId.{ReqId}
use Rattle.log_model.specs.Places.{is_ongoing_load, running_in}
use Rattle.log_model.specs.Seen.{Asked, request_in}

-- the same traversal runs, and the same loads are ongoing
pub record AreSteady (asked next : List Asked) : Type 0 where
  pub runs : running_in next ≡ running_in asked
  pub was : (req : ReqId) (q : Asked) → request_in next req ≡ Some q → is_ongoing_load q ≡ true → request_in asked req ≡ Some q
  pub stays : (req : ReqId) (q : Asked) → request_in asked req ≡ Some q → is_ongoing_load q ≡ true → request_in next req ≡ Some q
