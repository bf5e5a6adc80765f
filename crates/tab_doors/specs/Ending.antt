-- What the table of navigables becomes as a traversal ends, and as a frame is removed.
-- This project's own.
use Rattle.nav_tree.specs.Tree.{Tree, changed, with_nav}
use Rattle.nav_tree.specs.declared.nav.Nav.{Nav}
use Rattle.nav_tree.specs.declared.node.Node.{Node}
use Rattle.std.specs.Prelude.{List, Some, false, fold}
use Rattle.tab_ids.specs.declared.NavId.{NavId}
use Rattle.tab_ids.specs.declared.ReqId.{ReqId}

-- nobody of these is moved any more
abbrev pub unmove_all : List NavId → Tree → Tree
unmove_all navs tree = fold (λ (t : Tree) (nav : NavId). with_nav (λ (n : Nav). record n { moved = false }) nav t) tree navs

-- a navigable was destroyed by a request
abbrev pub destroyed : ReqId → Node → Node
destroyed req node = record node { destroyed_by = Some req }

abbrev pub destroy_all : List NavId → ReqId → Tree → Tree
destroy_all navs req tree = fold (λ (t : Tree) (nav : NavId). changed (destroyed req) nav t) tree navs
