-- Where the navigables of a log stand: which are shown, lost, on the move, or where they are to be; and the unload check.
-- HTML Standard, "Navigables", "Applying the history step", "Checking if unloading is canceled". This project's own: known lost and asleep navigables, and all_stand.
use Rattle.std.specs.Prelude.{◌≡◌, ℕ, zero, suc, Bool, true, false, not, ◌&&◌, ◌||◌, ◌==◌, List, [], ◌∷◌, length, find, Option, Some, None, is_none, is_some, option_map, option_and_then, if◌then◌else◌}
use Rattle.std.specs.List.{list_all, list_any}
use Rattle.std.specs.Option.{option_map_or}
use Rattle.tab_ids.specs.declared.NavId.{NavId}
use Rattle.tab_ids.specs.declared.StateId.{StateId}
use Rattle.tab_ids.specs.declared.DocId.{DocId}
use Rattle.address.specs.Addresses.{has_same_base, fragment_of}
use Rattle.log_model.specs.declared.action.Action.{Action}
use Rattle.log_model.specs.declared.action.Action.TheVariants as actions
use Rattle.log_model.specs.declared.made.Made.{Made}
use Rattle.log_model.specs.declared.request.Request.{Request}
use Rattle.log_model.specs.declared.request.Request.TheVariants as requests
use Rattle.log_model.specs.declared.row.Row.{Row}
use Rattle.log_model.specs.Equal.{holds}
use Rattle.log_model.specs.History.{History, same_entry, has_nav, is_of, owner_of, used_step_at, history_length, history_index, target_entry}
use Rattle.log_model.specs.Seen.{Seen, Document, Asked, Asking, Place, Status, awake, lost, asleep, document_of, place_in, place_of}

-- ---- shown navigables

-- the top navigable
abbrev pub top : NavId
top = record { 0 = 0 }

-- the navigable of the rows with the document state
abbrev pub holder_of : StateId → List Row → Option NavId
holder_of state rows = option_map (λ (row : Row). row.nav) (find (λ (row : Row). row.state.0 == state.0) rows)

-- the navigable's target at the step has the document state
abbrev pub targets_state : List Row → ℕ → NavId → StateId → Bool
targets_state rows step nav state = holds (λ (row : Row). row.state.0 == state.0) (target_entry rows nav step)

-- the parent of a navigable, where the parent's target at the step has the document state on which the navigable hangs
abbrev pub way_up : List Row → ℕ → NavId → Option NavId
way_up rows step nav =
    option_and_then
    (λ owner. option_and_then (λ parent. if targets_state rows step parent owner then Some parent else None) (holder_of owner rows))
    (owner_of nav rows)

-- the top is reached by going up, in at most so many ways
abbrev pub is_shown_within : ℕ → List Row → ℕ → Option NavId → Bool
is_shown_within n rows step None = false
is_shown_within zero rows step (Some nav) = nav.0 == 0
is_shown_within (suc n) rows step (Some nav) = nav.0 == 0 || is_shown_within n rows step (way_up rows step nav)

-- the navigable is shown at a step: it is the top, or it hangs on the document state of its shown parent's target
abbrev pub is_shown : List Row → ℕ → NavId → Bool
is_shown rows step nav = is_shown_within (length rows) rows step (Some nav)

-- the same, as a relation
pub data IsShown (rows : List Row) (step : ℕ) : NavId → Type 0 where
  is_top : IsShown rows step top
  is_child : (nav parent : NavId) → way_up rows step nav ≡ Some parent → IsShown rows step parent → IsShown rows step nav

-- ---- places

-- a navigable and those above it
abbrev pub way_of : Place → List NavId
way_of place = place.nav ∷ place.above

-- the navigable and those above it, by its number
abbrev pub way_to : Seen → NavId → List NavId
way_to s nav = option_map_or way_of (place_of s nav) (nav ∷ [])

-- the navigable is awake on the document
abbrev pub is_awake_on : DocId → Place → Bool
is_awake_on doc place = on place.status
  where
    on : Status → Bool
    on (awake d) = d.0 == doc.0
    on _ = false

-- the navigable is awake
abbrev pub is_awake : Place → Bool
is_awake place = awakes place.status
  where
    awakes : Status → Bool
    awakes (awake d) = true
    awakes _ = false

-- the navigable is asleep
abbrev pub is_asleep : Place → Bool
is_asleep place = sleeps place.status
  where
    sleeps : Status → Bool
    sleeps asleep = true
    sleeps _ = false

-- the document that the navigable is awake on
abbrev pub awake_document : Place → Option DocId
awake_document place = shown_by place.status
  where
    shown_by : Status → Option DocId
    shown_by (awake d) = Some d
    shown_by _ = None

-- the navigable that is awake on a document
abbrev pub shower_of : Seen → DocId → Option Place
shower_of s doc = find (is_awake_on doc) s.places

-- the navigable is below the other one
abbrev pub is_below : NavId → Place → Bool
is_below nav place = has_nav place.above nav

-- the place is below a document of the state: it, or a navigable above it, hangs on that document state
abbrev pub hangs_on : StateId → Place → Bool
hangs_on state place = list_any (λ (owner : StateId). owner.0 == state.0) place.owners

-- the document is below a document of the state
abbrev pub is_document_below : Seen → StateId → Document → Bool
is_document_below s state d = holds (hangs_on state) (place_of s d.nav)

-- the navigable is known lost among these places
abbrev pub is_lost_in : List Place → NavId → Bool
is_lost_in places nav = holds (λ (place : Place). knows place.status) (place_in places nav)
  where
    knows : Status → Bool
    knows lost = true
    knows _ = false

-- the navigable is known lost: the report of the death that took its document was delivered
abbrev pub is_known_lost : Seen → NavId → Bool
is_known_lost s nav = is_lost_in s.places nav

-- the navigable, or one above it, is known lost
abbrev pub is_below_known_lost : Seen → Place → Bool
is_below_known_lost s place = list_any (is_known_lost s) place.above

-- the document that the navigable was shown last is dead, and no reload of it was applied since
abbrev pub has_lost_document : Seen → NavId → Bool
has_lost_document s nav = holds (λ place. not place.is_pending && holds (is_dead s) place.last) (place_of s nav)
  where
    is_dead : Seen → DocId → Bool
    is_dead s doc = holds (λ (d : Document). is_some d.dead_by) (document_of s doc)

-- the navigable is lost in the log: its document died, or that of one above it
abbrev pub is_lost : Seen → Place → Bool
is_lost s place = list_any (has_lost_document s) (way_of place)

-- the row of the navigable's given entry
abbrev pub given_row : Seen → Place → Option Row
given_row s place = option_and_then (λ entry. find (λ row. is_of place.nav row && same_entry row.entry entry) s.history.rows) place.given

-- what was made is present: its document's navigable is awake with the epoch under which it was made
abbrev pub is_present : Seen → Made → Bool
is_present s made =
    holds (λ (d : Document). holds (λ place. is_awake place && place.epoch.0 == made.epoch.0) (place_of s d.nav)) (document_of s made.doc)

-- ---- the unload check: "checking if unloading is canceled"

-- the document is gone for the coordinator: discarded, or known to be dead
abbrev pub is_gone : Seen → DocId → Bool
is_gone s doc = holds (λ (d : Document). d.is_discarded || d.is_known_dead) (document_of s doc)

-- the question is settled: its answer was delivered, or its document is gone
abbrev pub is_settled_asking : (DocId → Bool) → Asking → Bool
is_settled_asking gone asking = asking.is_delivered || gone asking.doc

-- all questions of the request are settled
abbrev pub all_asked : Seen → Asked → Bool
all_asked s q = list_all (is_settled_asking (is_gone s)) q.asks

-- the user wasn't asked, or answered that the page may be left
abbrev pub may_leave : Asked → Bool
may_leave q = is_none q.prompted || holds not q.answered

-- the request has passed its unload check, where these documents are gone
abbrev pub has_passed_with : (DocId → Bool) → Asked → Bool
has_passed_with gone q = list_all (is_settled_asking gone) q.asks && may_leave q

-- the request has passed its unload check
abbrev pub has_passed : Seen → Asked → Bool
has_passed s q = has_passed_with (is_gone s) q

-- ---- requests under way

-- a document's own request to go is a traversal
abbrev pub goes : Action → Bool
goes (actions.Go delta) = true
goes _ = false

-- the request is a load
abbrev pub is_load : Request → Bool
is_load (requests.Load nav mode address) = true
is_load _ = false

-- the request is a traversal, by the user or by a document
abbrev pub is_traversal : Request → Bool
is_traversal (requests.Go delta) = true
is_traversal (requests.Poke nav action) = goes action
is_traversal _ = false

-- the request is a reload
abbrev pub is_reload : Request → Bool
is_reload (requests.Reload nav) = true
is_reload _ = false

-- the request has begun and has no outcome
abbrev pub is_under_way : Asked → Bool
is_under_way q = q.is_started && is_none q.ending

-- the request is a load that has begun and has no outcome: its navigable's ongoing navigation
abbrev pub is_ongoing_load : Asked → Bool
is_ongoing_load q = is_under_way q && is_load q.what

-- the traversal that is running among these requests
abbrev pub running_in : List Asked → Option Asked
running_in asked = find (λ q. is_under_way q && is_traversal q.what) asked

-- the traversal that is running
abbrev pub running_traversal : Seen → Option Asked
running_traversal s = running_in s.requests

-- the traversal that is running among these requests and has passed its unload check, where these documents are gone
abbrev pub passed_in : (DocId → Bool) → List Asked → Option Asked
passed_in gone asked = find (λ q. is_under_way q && is_traversal q.what && has_passed_with gone q) asked

-- the traversal that is running and has passed its unload check
abbrev pub passed_traversal : Seen → Option Asked
passed_traversal s = passed_in (is_gone s) s.requests

-- ---- where navigables are to be: the target step of "apply the history step"

-- the same, read from which documents are gone, the requests and the history
abbrev pub aim_with : (DocId → Bool) → List Asked → History → ℕ
aim_with gone asked history = option_map_or (λ (q : Asked). option_map_or (λ goal. used_step_at history.rows goal.0) q.goal history.current) (passed_in gone asked) history.current

-- the step that the history is brought to: that of the goal of the running traversal, once that has passed; else the current step
abbrev pub aim_of : Seen → ℕ
aim_of s = aim_with (is_gone s) s.requests s.history

-- the entry that the navigable was given is its target at the step
abbrev pub is_given_target : List Row → ℕ → Place → Bool
is_given_target rows step place =
    holds (λ (row : Row). holds (same_entry row.entry) place.given) (target_entry rows place.nav step)

abbrev pub has_target : Seen → ℕ → Place → Bool
has_target s step place = is_given_target s.history.rows step place

-- the navigable is known lost, or awake, and the report that its document was shown is delivered
abbrev pub has_arrived : Place → Bool
has_arrived place = arrived place.status place.is_delivered
  where
    arrived : Status → Bool → Bool
    arrived (awake d) delivered = delivered
    arrived lost delivered = true
    arrived asleep delivered = false

-- the place stands at the step: its given entry is its target, no reload of it is due, and it has arrived
abbrev pub is_standing : List Row → ℕ → Place → Bool
is_standing rows step place = is_given_target rows step place && not place.is_unmet && has_arrived place

-- the navigable stands at the step
abbrev pub stands : Seen → ℕ → NavId → Bool
stands s step nav = holds (is_standing s.history.rows step) (place_of s nav)

-- the place is to stand at the step: its navigable is shown there, and isn't below a known lost one
abbrev pub is_wanted : List Row → List Place → ℕ → Place → Bool
is_wanted rows places step place = is_shown rows step place.nav && not (list_any (is_lost_in places) place.above)

-- each of the places that is to stand at the step stands there
abbrev pub all_stand_in : List Row → List Place → ℕ → Bool
all_stand_in rows places step = list_all (λ place. stands_if_wanted rows places step place) places
  where
    stands_if_wanted : List Row → List Place → ℕ → Place → Bool
    stands_if_wanted rows places step place =
        if is_wanted rows places step place then holds (is_standing rows step) (place_in places place.nav) else true

-- each navigable that is shown at the step and isn't below a known lost one stands there
abbrev pub all_stand : Seen → ℕ → Bool
all_stand s step = all_stand_in s.history.rows s.places step

-- the navigable is shown at the step and stands there
abbrev pub is_placed : Seen → ℕ → NavId → Bool
is_placed s step nav = is_shown s.history.rows step nav && stands s step nav

-- "navigate to a fragment": the address equals the other one but for its fragment, which it has
abbrev pub is_fragment_navigation : List ℕ → List ℕ → Bool
is_fragment_navigation from to = has_same_base from to && is_some (fragment_of to)

-- ---- length and index

-- the length and index of the history with these rows at a step
abbrev pub pair_in : List Row → ℕ → ℕ × ℕ
pair_in rows step = (history_length rows, history_index rows step)

-- the length and index of the history at a step
abbrev pub pair_at : Seen → ℕ → ℕ × ℕ
pair_at s step = pair_in s.history.rows step

-- the pair that the navigable was told: the last one sent to the document that it is awake on
abbrev pub told_pair : Seen → Place → Option (ℕ × ℕ)
told_pair s place = option_and_then (λ doc. option_and_then (λ (d : Document). d.told) (document_of s doc)) (awake_document place)

-- the traversal that is running among these requests has moved the navigable
abbrev pub is_moved_in : List Asked → NavId → Bool
is_moved_in asked nav = holds (λ (q : Asked). has_nav q.moved nav) (running_in asked)

-- the running traversal has moved the navigable
abbrev pub is_moved : Seen → NavId → Bool
is_moved s nav = is_moved_in s.requests nav

-- the same as the pair that is due, read from which documents are gone, the requests and the history
abbrev pub due_pair_with : (DocId → Bool) → List Asked → History → NavId → ℕ × ℕ
due_pair_with gone asked history nav =
    pair_in history.rows (if is_moved_in asked nav then aim_with gone asked history else history.current)

-- the pair that the navigable is to be told: that of the aim where the running traversal has moved it, else that of the current step
abbrev pub due_pair : Seen → NavId → ℕ × ℕ
due_pair s nav = due_pair_with (is_gone s) s.requests s.history nav
