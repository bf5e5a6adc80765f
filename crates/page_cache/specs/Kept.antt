-- The documents kept for traversal (the back/forward cache), as the list of their document states.
-- HTML Standard, "Session history entries" (a document state may lose its document), leaves to the user agent which documents stay; the bound by number is this project's own.
use Rattle.std.specs.Prelude.{ℕ, ◌-◌, Bool, not, ◌==◌, List, [], ◌∷◌, length, filter, slice_get, Option, Some, None}
use Rattle.std.specs.List.{list_any}
use Rattle.std.specs.Map.{keys_of}
use Rattle.tab_ids.specs.declared.StateId.{StateId}
use Rattle.lru.specs.LruCache.{LruCache}

-- how many documents may be kept, and the states of those that are, the most recently left first
pub record Kept : Type 0 where
  pub keep : ℕ
  pub states : List StateId

-- the same state
abbrev pub is_state : StateId → StateId → Bool
is_state a b = a.0 == b.0

-- the state is in the list
abbrev pub has_state : StateId → List StateId → Bool
has_state state states = list_any (is_state state) states

-- the other states, in their order
abbrev pub without : StateId → List StateId → List StateId
without state states = filter (λ other. not (is_state state other)) states

-- the state first, then the others: it is the most recently left one
abbrev pub left_first : StateId → List StateId → List StateId
left_first state states = state ∷ without state states

-- the state left longest ago
abbrev pub oldest_of : List StateId → Option StateId
oldest_of states = slice_get states (length states - 1)

-- how many a cache holds at most, where a bound of 0 has no cache
abbrev pub keep_of : Option (LruCache StateId (Unit {0})) → ℕ
keep_of None = 0
keep_of (Some cache) = cache.cap

-- the states of a cache
abbrev pub states_of : Option (LruCache StateId (Unit {0})) → List StateId
states_of None = []
states_of (Some cache) = keys_of cache.entries
