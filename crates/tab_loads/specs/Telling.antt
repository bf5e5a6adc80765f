-- What the tables tell of a load that the user asks for: whether there is a reason against it, whether the way up from its navigable stands, for which request it is dropped where that doesn't, and which document is sent to its fragment.
-- HTML Standard, "navigate" and "navigate to a fragment"; that the ways up have to stand is this project's own.
use Rattle.apply_plan.specs.Order.{rest}
use Rattle.apply_plan.specs.Reaches.{is_awake, is_reached}
use Rattle.apply_plan.specs.Standing.{is_standing}
use Rattle.apply_plan.specs.declared.reach.Reach.TheVariants.{Shown}
use Rattle.log_model.specs.Equal.{holds}
use Rattle.log_model.specs.History.{row_of}
use Rattle.log_model.specs.Places.{is_fragment_navigation}
use Rattle.log_model.specs.declared.job.Why.{Why}
use Rattle.log_model.specs.declared.outcome.Denial.{Denial}
use Rattle.log_model.specs.declared.row.Row.{Row}
use Rattle.nav_tree.specs.Tree.{nav_of}
use Rattle.nav_tree.specs.declared.nav.Nav.{Nav}
use Rattle.std.specs.List.{last_or}
use Rattle.std.specs.Prelude.{Bool, List, None, Option, Some, filter, if◌then◌else◌, length, map, not, option_and_then, ℕ, ◌&&◌, ◌==◌, ◌||◌, ◌∷◌}
use Rattle.step_index.specs.Held.{history_held}
use Rattle.tab_doors.specs.Dues.{has_none}
use Rattle.tab_doors.specs.declared.tables.Tables.{Tables}
use Rattle.tab_ids.specs.declared.DocId.{DocId}
use Rattle.tab_ids.specs.declared.EntryId.{EntryId}
use Rattle.tab_ids.specs.declared.NavId.{NavId}
use Rattle.tab_ids.specs.declared.ReqId.{ReqId}
use Rattle.tab_passes.specs.Passing.{aim_in}
use Rattle.tab_passes.specs.Telling.{awake_on}
use Rattle.log_model.specs.declared.job.Why.TheVariants as whys
use Rattle.log_model.specs.declared.outcome.Denial.TheVariants as denials

-- ---- a reason against it

-- the navigable has no entry, or isn't shown at the current step
abbrev pub denial_in : Tables → NavId → Option Denial
denial_in t nav =
    if has_none (history_held t.store).rows nav then Some denials.NoNavigable
    else (if is_reached Shown (history_held t.store).rows (history_held t.store).current t.tree nav then None else Some denials.NotShown)

-- ---- the way up

-- the step that the history is brought to
abbrev pub aim_at : Tables → ℕ
aim_at t = aim_in (history_held t.store) t.running t.goal

-- the navigable is shown at the step and stands there
abbrev pub is_placed_at : Tables → ℕ → NavId → Bool
is_placed_at t step nav =
    is_reached Shown (history_held t.store).rows step t.tree nav && holds (is_standing (history_held t.store).rows step nav) (nav_of nav t.tree)

-- at the aim
abbrev pub is_placed_in : Tables → NavId → Bool
is_placed_in t nav = is_placed_at t (aim_at t) nav

-- the navigable, where it isn't; else the one found before
abbrev pub away_or : Tables → Option NavId → NavId → Option NavId
away_or t found nav = if is_placed_in t nav then found else Some nav

-- the navigable and those above it, upwards
abbrev pub way_in : Tables → NavId → List NavId
way_in t nav = nav ∷ map (λ (n : ℕ). record { 0 = n }) (rest (length t.tree.navs) t.tree nav)

-- the topmost of them that isn't, which is the last
abbrev pub away_in : Tables → NavId → Option NavId
away_in t nav = last_or None (filter (λ (n : NavId). not (is_placed_in t n)) (way_in t nav))

-- ---- for which request it is dropped

-- no document was ever shown in the navigable, as the tables tell: no order showed one, or the first that did isn't through
abbrev pub is_new_nav : Nav → Bool
is_new_nav fields = fields.epoch.0 == 0 || (fields.epoch.0 == 1 && (is_awake fields.status && not fields.stands))

-- the traversal that runs, or, where none does, the request for which the navigable is as it is
abbrev pub mover_of : Option ReqId → Why → Option ReqId
mover_of (Some run) why = Some run
mover_of None (whys.Req req) = Some req
mover_of None _ = None

-- where the navigable isn't shown or doesn't stand: who added it, if it is new, else who moves it
abbrev pub cut_by : Option ReqId → Nav → Option ReqId
cut_by run fields = if is_new_nav fields then fields.added_by else mover_of run fields.why

abbrev pub cut_by_in : Tables → NavId → Option ReqId
cut_by_in t nav = option_and_then (cut_by t.running) (nav_of nav t.tree)

-- ---- a fragment

-- the address is a fragment navigation from the entry
abbrev pub leads_to_fragment : List Row → List ℕ → Option EntryId → Bool
leads_to_fragment rows address given =
    holds (λ (row : Row). is_fragment_navigation row.address address) (option_and_then (λ (entry : EntryId). row_of entry rows) given)

-- the document that the navigable is awake on, where the address is a fragment navigation from the entry that it was given
abbrev pub fragment_of : List Row → List ℕ → Nav → Option DocId
fragment_of rows address fields = if leads_to_fragment rows address fields.given then awake_on fields.status else None

abbrev pub fragment_in : Tables → NavId → List ℕ → Option DocId
fragment_in t nav address = option_and_then (fragment_of (history_held t.store).rows address) (nav_of nav t.tree)
