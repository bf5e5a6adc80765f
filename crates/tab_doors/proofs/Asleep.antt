-- Navigables fall asleep one by one: each is there, and is moved where that is for the traversal that runs.
use Rattle.std.proofs.Common.{◌≡◌, ℕ, ◌+◌, zero, suc, Bool, true, List, [], ◌∷◌, take, Option, Some, None, refl, sym, ap, ◌∙◌, subst}
use Rattle.std.specs.Prelude.{option_map, slice_get}
use Rattle.std.specs.Option.{IsSome}
use Rattle.std.proofs.lemmas.List.Sums.{fold-append}
use Rattle.tab_ids.specs.declared.NavId.{NavId}
use Rattle.log_model.specs.declared.job.Why.{Why}
use Rattle.nav_tree.specs.declared.node.Node.{Node}
use Rattle.nav_tree.specs.Tree.{Tree, node_of, with_nav, put_to_sleep}
use Rattle.nav_tree.specs.declared.nav.Nav.{Nav}
use Rattle.nav_tree.proofs.Lists.{take-slice_get}
use Rattle.tab_doors.specs.Sleeping.{asleep_for, sleep_all, AreThere}
use Rattle.tab_doors.proofs.Nodes.{changed_twice, node_sleep_all, still_there}

mapped_there : (f : Node → Node) (o : Option Node) → IsSome o → IsSome (option_map f o)
mapped_there f None is = cc
mapped_there f (Some node) is = refl

pub there_still : (navs : List NavId) (why : Why) (moves : Bool) (other : NavId) (tree : Tree) → IsSome (node_of other tree) → IsSome (node_of other (sleep_all navs why moves tree))
there_still navs why moves other tree is = rw (node_sleep_all navs why moves other tree) (mapped_there _ (node_of other tree) is)

there_at : (tree : Tree) (navs : List NavId) (i : ℕ) (nav : NavId) → slice_get navs i ≡ Some nav → AreThere tree navs → IsSome (node_of nav tree)
there_at tree [] i nav e are = cc
there_at tree (n ∷ navs) zero nav e are = let same : n ≡ nav = cc in subst (λ (m : NavId). IsSome (node_of m tree)) same are.0
there_at tree (n ∷ navs) (suc i) nav e are = there_at tree navs i nav e are.1

pub sleeper_there : (tree : Tree) (navs : List NavId) (why : Why) (moves : Bool) (i : ℕ) (nav : NavId) → AreThere tree navs → slice_get navs i ≡ Some nav → IsSome (node_of nav (sleep_all (take i navs) why moves tree))
sleeper_there tree navs why moves i nav are e = there_still (take i navs) why moves nav tree (there_at tree navs i nav e are)

pub one_more : (tree : Tree) (navs : List NavId) (why : Why) (moves : Bool) (i : ℕ) (nav : NavId) → slice_get navs i ≡ Some nav → with_nav (asleep_for why moves) nav (sleep_all (take i navs) why moves tree) ≡ sleep_all (take (i + 1) navs) why moves tree
one_more tree navs why moves i nav e =
    sym (ap (λ (l : List NavId). sleep_all l why moves tree) (take-slice_get navs i nav e) ∙ fold-append (λ (t : Tree) (n : NavId). with_nav (asleep_for why moves) n t) tree (take i navs) (nav ∷ []))

-- ---- one of them

-- it is put to sleep, and then moved
pub moved_asleep : (why : Why) (nav : NavId) (tree : Tree) → with_nav (λ (n : Nav). record n { moved = true }) nav (with_nav (put_to_sleep why) nav tree) ≡ with_nav (asleep_for why true) nav tree
moved_asleep why nav tree = changed_twice (put_to_sleep why) (λ (n : Nav). record n { moved = true }) nav tree

-- it is there still once it sleeps
pub asleep_there : (why : Why) (nav : NavId) (old new : Tree) → new ≡ with_nav (put_to_sleep why) nav old → IsSome (node_of nav old) → IsSome (node_of nav new)
asleep_there why nav old new is there = rw is (still_there (put_to_sleep why) nav old there)
