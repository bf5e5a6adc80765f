-- What holds where nothing is in transit and no prompt is up: each request has its outcome, and each shown navigable runs one document at its target, or lost it to a death.
-- HTML Standard, "apply the history step": what it leads to. This project's own: lost navigables.
use Rattle.std.specs.Prelude.{Bool, true, false, not, ◌&&◌, ◌||◌, ◌==◌, List, [], ◌∷◌, bytes_eq, is_some}
use Rattle.std.specs.List.{list_all, list_any}
use Rattle.log_model.specs.declared.row.Row.{Row}
use Rattle.log_model.specs.Equal.{holds, implies, same_memo, same_pair}
use Rattle.log_model.specs.History.{same_entry, target_entry}
use Rattle.log_model.specs.Views.{View}
use Rattle.log_model.specs.Seen.{Seen, Document, Asked, Place, place_of}
use Rattle.log_model.specs.Places.{is_shown, is_lost, has_target, has_lost_document, all_stand, pair_at}
use Rattle.log_model.specs.Logs.{is_quiet}
use Rattle.log_model.specs.Formed.{running_documents}

-- a navigable above is lost
abbrev pub is_below_lost : Seen → Place → Bool
is_below_lost s place = list_any (has_lost_document s) place.above

-- the view shows the row, and the length and index of the history
abbrev pub shows : Seen → Row → View → Bool
shows s row view =
    same_entry view.entry row.entry && bytes_eq view.address row.address && same_memo view.memo row.memo
    && same_pair (view.length, view.index) (pair_at s s.history.current)

-- the document is of the row's document state and shows the row
abbrev pub is_document_of : Seen → Row → Document → Bool
is_document_of s row d = d.state.0 == row.state.0 && holds (shows s row) d.view

-- exactly one document of the navigable runs, and it shows the navigable's target at the current step
abbrev pub runs_target : Seen → Place → Bool
runs_target s place =
    holds (λ row. is_one (is_document_of s row) (running_documents s place.nav)) (target_entry s.history.rows place.nav s.history.current)
  where
    is_one : (Document → Bool) → List Document → Bool
    is_one test (d ∷ []) = test d
    is_one test _ = false

-- the navigable was given its target, and runs it unless it is lost
abbrev pub is_at_target : Seen → Place → Bool
is_at_target s place = has_target s s.history.current place && (is_lost s place || runs_target s place)

-- a shown navigable that isn't below a lost one is at its target
abbrev pub is_place_settled : Seen → Place → Bool
is_place_settled s place =
    implies (is_shown s.history.rows s.history.current place.nav && not (is_below_lost s place)) (is_at_target s place)

-- a document that runs is of a shown navigable that isn't lost
abbrev pub is_document_settled : Seen → Document → Bool
is_document_settled s d =
    implies (holds (λ (view : View). view.running) d.view)
    (holds (λ place. is_shown s.history.rows s.history.current place.nav && not (is_lost s place)) (place_of s d.nav))

-- each request has its outcome, all stand at the current step, each shown navigable runs its target or is lost, and no other document runs
abbrev pub is_settled : Seen → Bool
is_settled s =
    list_all (λ (q : Asked). is_some q.ending) s.requests && all_stand s s.history.current
    && list_all (is_place_settled s) s.places
    && list_all (is_document_settled s) s.documents

-- where nothing is in transit and no prompt is up, all is settled
abbrev pub is_settled_if_quiet : Seen → Bool
is_settled_if_quiet s = by_quiet (is_quiet s) s
  where
    by_quiet : Bool → Seen → Bool
    by_quiet true s = is_settled s
    by_quiet false s = true
