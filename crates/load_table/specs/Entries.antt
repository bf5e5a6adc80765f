-- The loads as they are kept: beside the number of their navigable.
-- This project's own.
use Rattle.std.specs.Prelude.{◌≡◌, List, [], ◌∷◌}
use Rattle.tab_ids.specs.declared.NavId.{NavId}
use Rattle.load_table.specs.declared.load.Load.{Load}

-- each load stands beside the number of its own navigable
abbrev pub AreKeyed : List (NavId × Load) → Type 0
AreKeyed [] = Unit {0}
AreKeyed (e ∷ es) = (e.0 ≡ e.1.nav) × AreKeyed es
