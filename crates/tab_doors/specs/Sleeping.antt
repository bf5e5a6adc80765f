-- Navigables that fall asleep one after the other, and lists of those that are there.
-- This project's own; "asleep" is this project's word.
use Rattle.std.specs.Prelude.{Bool, List, Option, [], ◌∷◌, ◌||◌, false, fold}
use Rattle.std.specs.Option.{IsSome}
use Rattle.seen_facts.specs.Each.Runs.{is_this}
use Rattle.tab_ids.specs.declared.NavId.{NavId}
use Rattle.tab_ids.specs.declared.ReqId.{ReqId}
use Rattle.log_model.specs.declared.job.Why.{Why}
use Rattle.log_model.specs.declared.job.Why.TheVariants as whys
use Rattle.nav_tree.specs.Tree.{Tree, node_of, with_nav, put_to_sleep}
use Rattle.nav_tree.specs.declared.nav.Nav.{Nav}

-- the traversal that runs is the reason
abbrev pub is_for : Option ReqId → Why → Bool
is_for run (whys.Req req) = is_this run req
is_for run _ = false

-- the navigable is put to sleep, and moved where the running traversal is the reason
abbrev pub asleep_for : Why → Bool → Nav → Nav
asleep_for why moves nav = record (put_to_sleep why nav) { moved = moves || nav.moved }

-- these navigables are put to sleep, one after the other
abbrev pub sleep_all : List NavId → Why → Bool → Tree → Tree
sleep_all navs why moves tree = fold (λ (t : Tree) (nav : NavId). with_nav (asleep_for why moves) nav t) tree navs

-- each of these navigables is in the table
abbrev pub AreThere : Tree → List NavId → Type 0
AreThere tree [] = Unit {0}
AreThere tree (nav ∷ navs) = IsSome (node_of nav tree) × AreThere tree navs
