-- What the tables tell of the way up from a navigable: whether it, or one above it, needs something where the walk visits it; and whether it has an entry.
-- HTML Standard, "apply the history step"; the walk is this project's own.
use Rattle.apply_plan.specs.Order.{rest}
use Rattle.load_table.specs.Loads.{ongoing_load}
use Rattle.load_table.specs.declared.load.Load.{Load}
use Rattle.nav_tree.specs.Tree.{node_of}
use Rattle.nav_tree.specs.declared.node.Node.{Node}
use Rattle.std.specs.List.{list_any}
use Rattle.std.specs.Prelude.{Bool, List, None, Option, if◌then◌else◌, is_some, length, option_and_then, option_map, ℕ, ◌∷◌}
use Rattle.step_index.specs.Held.{history_held}
use Rattle.tab_doors.specs.Dues.{has_none}
use Rattle.tab_doors.specs.declared.tables.Tables.{Tables}
use Rattle.tab_ids.specs.declared.NavId.{NavId}
use Rattle.tab_ids.specs.declared.ReqId.{ReqId}
use Rattle.tab_moves.specs.Showing.{need_in}

-- the walk visits the navigable, and it needs something
abbrev pub is_needing_in : Tables → NavId → Bool
is_needing_in t nav = is_some (need_in t nav)

-- one of the navigables of these numbers does
abbrev pub any_needing_in : Tables → List ℕ → Bool
any_needing_in t navs = list_any (λ (n : ℕ). is_needing_in t (record { 0 = n })) navs

-- the navigable, or one of those above it, does
abbrev pub is_unsettled_in : Tables → NavId → Bool
is_unsettled_in t nav = any_needing_in t (nav.0 ∷ rest (length t.tree.navs) t.tree nav)

-- ---- without an entry

-- the request of the navigable's ongoing load, and that which took its last entries, where it has none
abbrev pub bare_load_in : Tables → NavId → Option (ReqId × ReqId)
bare_load_in t nav =
    if has_none (history_held t.store).rows nav then (option_and_then (λ (req : ReqId). option_map (λ (by : ReqId). (req, by)) (option_and_then (λ (node : Node). node.destroyed_by) (node_of nav t.tree))) (option_map (λ (load : Load). load.req) (ongoing_load nav t.loads)))
    else None
