-- The tests of a legal log, as a list of answers, in the order of the fields of a legal log.
use Rattle.std.specs.Prelude.{Bool, List, [], ◌∷◌}
use Rattle.log_model.specs.declared.row_kind.LogRow.{LogRow}
use Rattle.log_model.specs.Events.{after_opening}
use Rattle.log_model.specs.Legal.{opens, is_formed, is_once, is_caused, is_queued, is_ordered, is_checked, ends_settled}
use Rattle.log_model.specs.Formed.{is_numbered}

-- opened, numbered, formed, once, caused, queued, ordered, checked, settled
abbrev pub verdicts_of : List (List LogRow) → List Bool
verdicts_of events =
    opens events ∷ after_opening is_numbered events ∷ after_opening is_formed events ∷ after_opening is_once events
    ∷ after_opening is_caused events
    ∷ after_opening is_queued events
    ∷ after_opening is_ordered events
    ∷ after_opening is_checked events
    ∷ after_opening ends_settled events
    ∷ []
