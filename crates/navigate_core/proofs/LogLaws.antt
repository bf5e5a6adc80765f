-- A navigation is handled, and changes the history, as a log says of its load.
use Rattle.std.proofs.Common.{◌≡◌, ℕ, Bool, true, false, ◌||◌, List, Some, refl}
use Rattle.std.specs.Prelude.{bytes_eq, option_and_then}
use Rattle.tab_ids.specs.declared.NavId.{NavId}
use Rattle.tab_ids.specs.declared.EntryId.{EntryId}
use Rattle.log_model.specs.declared.request.Mode.{Mode}
use Rattle.log_model.specs.declared.request.Mode.TheVariants as modes
use Rattle.log_model.specs.declared.request.Request.TheVariants as requests
use Rattle.log_model.specs.declared.row.Row.{Row}
use Rattle.log_model.specs.Seen.{Seen, Asked, Place, place_of}
use Rattle.log_model.specs.Places.{given_row}
use Rattle.log_model.specs.Views.{View, is_fragment_replace}
use Rattle.log_model.specs.AfterRequests.{is_initial_state, wants_replace, load_replaces}
use Rattle.log_model.specs.Once.{change_of_load, next_entry_of}
use Rattle.load_table.specs.declared.load.Load.{Load}
use Rattle.navigate_core.specs.Navigations.{handling_of, is_replace, change_for}

-- what is wanted and what an initial document asks for, together
replaces_is : (mode : Mode) (initial equal : Bool) (address : List ℕ) (row : Row)
    → bytes_eq address row.address ≡ equal
    → (wants_replace mode address (Some row) || initial) ≡ is_replace (handling_of mode initial equal)
replaces_is modes.Replace initial equal address row is_equal = refl
replaces_is modes.Auto true true address row is_equal = rw is_equal refl
replaces_is modes.Auto true false address row is_equal = rw is_equal refl
replaces_is modes.Auto false true address row is_equal = rw is_equal refl
replaces_is modes.Auto false false address row is_equal = rw is_equal refl
replaces_is modes.Push true equal address row is_equal = refl
replaces_is modes.Push false equal address row is_equal = refl

-- a log says of a load that it replaces exactly where it is handled so
pub load_replaces_is : (s : Seen) (nav : NavId) (mode : Mode) (address : List ℕ) (place : Place) (row : Row)
    → place_of s nav ≡ Some place
    → given_row s place ≡ Some row
    → load_replaces s (requests.Load nav mode address)
    ≡ is_replace (handling_of mode (is_initial_state s row.state) (bytes_eq address row.address))
load_replaces_is s nav mode address place row is_place is_given =
    rw is_place (rw is_given (replaces_is mode (is_initial_state s row.state) (bytes_eq address row.address) address row refl))

-- a document replaces its entry by a fragment exactly where the navigation is handled so
pub is_fragment_replace_is : (view : View) (mode : Mode) (address : List ℕ)
    → is_fragment_replace view mode address ≡ is_replace (handling_of mode view.initial (bytes_eq address view.address))
is_fragment_replace_is view mode address = by_cases mode view.initial (bytes_eq address view.address) address view refl refl
  where
    by_cases : (mode : Mode) (initial equal : Bool) (address : List ℕ) (view : View)
        → view.initial ≡ initial → bytes_eq address view.address ≡ equal
        → is_fragment_replace view mode address ≡ is_replace (handling_of mode initial equal)
    by_cases modes.Replace initial equal address view is_initial is_equal = refl
    by_cases modes.Auto true equal address view is_initial is_equal = rw is_initial refl
    by_cases modes.Auto false true address view is_initial is_equal = rw is_initial (rw is_equal refl)
    by_cases modes.Auto false false address view is_initial is_equal = rw is_initial (rw is_equal refl)
    by_cases modes.Push true equal address view is_initial is_equal = is_initial
    by_cases modes.Push false equal address view is_initial is_equal = is_initial

-- a log's change of a load is that of its load in the table: the next entry of the coordinator, in the place of the given one
pub change_of_load_is : (s : Seen) (q : Asked) (load : Load) (over : EntryId)
    → q.state ≡ Some load.state
    → q.replaces ≡ load.replace
    → option_and_then (λ (place : Place). place.given) (place_of s load.nav) ≡ Some over
    → change_of_load s q load.nav load.address ≡ Some (change_for load over (next_entry_of s))
change_of_load_is s q load over is_state is_replacing is_over = by_handling load.replace is_replacing refl
  where
    by_handling : (b : Bool) → q.replaces ≡ b → load.replace ≡ b → change_of_load s q load.nav load.address ≡ Some (change_for load over (next_entry_of s))
    by_handling true is_q is_load = rw is_q (rw is_load (rw is_state (rw is_over refl)))
    by_handling false is_q is_load = rw is_q (rw is_load (rw is_state refl))
