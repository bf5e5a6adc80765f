-- The navigables with an ongoing load, in the order of the loads' requests.
-- HTML Standard, "Navigables" ("ongoing navigation"); the order is this project's own.
use Rattle.seen_facts.specs.Hang.Members.{Has}
use Rattle.load_table.specs.Loads.{ongoing_load}
use Rattle.load_table.specs.declared.load.Load.{Load}
use Rattle.nav_tree.specs.Tree.{Tree, node_of}
use Rattle.nav_tree.specs.declared.node.Node.{Node}
use Rattle.std.specs.BTreeMap.{insert_entry}
use Rattle.std.specs.Option.{option_map_or}
use Rattle.std.specs.Ordering.{nat_cmp}
use Rattle.std.specs.Prelude.{List, Some, slice_get, ℕ, ◌<◌, ◌≡◌}
use Rattle.tab_ids.specs.declared.NavId.{NavId}

-- no request has loads of two navigables
abbrev pub AreOwn : List Load → Type 0
AreOwn loads =
    (a b : NavId) (l m : Load) → ongoing_load a loads ≡ Some l → ongoing_load b loads ≡ Some m → l.req.0 ≡ m.req.0 → a ≡ b

-- the navigables under the numbers of requests, with this one under that of its load, if it has one
abbrev pub with_load : List Load → List (ℕ × NavId) → NavId → List (ℕ × NavId)
with_load loads entries nav = option_map_or (λ (load : Load). insert_entry nat_cmp entries load.req.0 nav) (ongoing_load nav loads) entries

-- each is under the number of its load's request
pub record IsUnder (loads : List Load) (number : ℕ) (nav : NavId) : Type 0 where
  pub load : Load
  pub at : ongoing_load nav loads ≡ Some load
  pub number_is : load.req.0 ≡ number

-- each of these is, and of those navigables each that has a load is there
pub record AreUnder (loads : List Load) (navs : List NavId) (entries : List (ℕ × NavId)) : Type 0 where
  pub each : (e : ℕ × NavId) → Has entries e → IsUnder loads e.0 e.1
  pub all : (nav : NavId) (load : Load) → Has navs nav → ongoing_load nav loads ≡ Some load → Has entries (load.req.0, nav)

-- the list has each navigable of the tree with an ongoing load, in the order of the requests' numbers
pub record AreListed (tree : Tree) (loads : List Load) (navs : List NavId) : Type 0 where
  pub order : (i j : ℕ) (nav other : NavId) (l m : Load) → i < j → slice_get navs i ≡ Some nav → slice_get navs j ≡ Some other → ongoing_load nav loads ≡ Some l → ongoing_load other loads ≡ Some m → l.req.0 < m.req.0
  pub all : (nav : NavId) (node : Node) (load : Load) → node_of nav tree ≡ Some node → ongoing_load nav loads ≡ Some load → (k : ℕ) × (slice_get navs k ≡ Some nav)
