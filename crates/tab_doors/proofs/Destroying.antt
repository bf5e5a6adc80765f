-- Navigables that a request destroyed, one by one.
use Rattle.apply_plan.specs.Order.{made_in}
use Rattle.tab_doors.proofs.EndLaws.{node_destroyed}
use Rattle.tab_doors.proofs.Nodes.{node_with_nav}
use Rattle.tab_doors.specs.Dues.{has_any, lost_of}
use Rattle.tab_doors.specs.Ending.{destroy_all, destroyed}
use Rattle.tab_doors.specs.declared.tables.Tables.{Tables}
use Rattle.step_index.specs.Held.{history_held}
use Rattle.seen_facts.proofs.Hang.Members.{has_filter}
use Rattle.seen_facts.specs.Hang.Members.{Has}
use Rattle.log_model.proofs.Refl.{nat_eq_refl}
use Rattle.log_model.specs.History.{has_nav}
use Rattle.nav_tree.proofs.Lists.{take-slice_get}
use Rattle.nav_tree.specs.Tree.{Tree, changed, is_nav, node_of, with_nav}
use Rattle.nav_tree.specs.declared.nav.Nav.{Nav}
use Rattle.nav_tree.specs.declared.node.Node.{Node}
use Rattle.std.proofs.Common.{Bool, List, None, Option, Some, [], ap, arith, cond, false, inl, inr, map, not, refl, subst, suc, sym, take, true, zero, ℕ, ◌&&◌, ◌+◌, ◌==◌, ◌∙◌, ◌∷◌, ◌≡◌}
use Rattle.std.proofs.lemmas.Bool.Decides.{nat_tests}
use Rattle.std.proofs.lemmas.List.Sums.{fold-append}
use Rattle.std.specs.Map.{lookup}
use Rattle.std.specs.Option.{IsSome}
use Rattle.std.specs.Prelude.{filter, option_map, slice_get}
use Rattle.tab_ids.specs.declared.NavId.{NavId}
use Rattle.tab_ids.specs.declared.ReqId.{ReqId}
use Rattle.tab_doors.specs.Sleeping.{AreThere}

mapped_there : (f : Node → Node) (o : Option Node) → IsSome o → IsSome (option_map f o)
mapped_there f None is = cc
mapped_there f (Some node) is = refl

there_all : (navs : List NavId) (by : ReqId) (other : NavId) (tree : Tree) → IsSome (node_of other tree) → IsSome (node_of other (destroy_all navs by tree))
there_all navs by other tree is = rw (node_destroyed navs by other tree) (mapped_there _ (node_of other tree) is)

there_in : (tree : Tree) (navs : List NavId) (i : ℕ) (nav : NavId) → slice_get navs i ≡ Some nav → AreThere tree navs → IsSome (node_of nav tree)
there_in tree [] i nav at are = cc
there_in tree (n ∷ navs) zero nav at are = let same : n ≡ nav = cc in subst (λ (m : NavId). IsSome (node_of m tree)) same are.0
there_in tree (n ∷ navs) (suc i) nav at are = there_in tree navs i nav at are.1

pub there_still : (tree : Tree) (navs : List NavId) (by : ReqId) (i : ℕ) (nav : NavId) → AreThere tree navs → slice_get navs i ≡ Some nav → IsSome (node_of nav (destroy_all (take i navs) by tree))
there_still tree navs by i nav are at = there_all (take i navs) by nav tree (there_in tree navs i nav at are)

pub one_more : (tree : Tree) (navs : List NavId) (by : ReqId) (i : ℕ) (nav : NavId) → slice_get navs i ≡ Some nav → changed (destroyed by) nav (destroy_all (take i navs) by tree) ≡ destroy_all (take (i + 1) navs) by tree
one_more tree navs by i nav at =
    sym (ap (λ (l : List NavId). destroy_all l by tree) (take-slice_get navs i nav at) ∙ fold-append (λ (t : Tree) (n : NavId). changed (destroyed by) n t) tree (take i navs) (nav ∷ []))

-- ---- who has lost its entries

-- of a test that goes by the number
among : (test : NavId → Bool) → ((one other : NavId) → (one.0 == other.0) ≡ true → test one ≡ test other) → (navs : List NavId) (other : NavId) → has_nav (filter test navs) other ≡ (has_nav navs other && test other)
among test same [] other = refl
among test same (n ∷ navs) other = by_tests (test n) refl (n.0 == other.0) refl (among test same navs other)
  where
    by_tests : (b : Bool) → test n ≡ b → (c : Bool) → (n.0 == other.0) ≡ c → has_nav (filter test navs) other ≡ (has_nav navs other && test other) → has_nav (filter test (n ∷ navs)) other ≡ (has_nav (n ∷ navs) other && test other)
    by_tests true is true its more = rw is (rw its (sym (sym (same n other its) ∙ is)))
    by_tests true is false its more = rw is (rw its more)
    by_tests false is true its more = let no_ : test other ≡ false = sym (same n other its) ∙ is in rw is (rw its (more ∙ rw no_ (never (has_nav navs other))))
      where
        never : (a : Bool) → (a && false) ≡ false
        never true = refl
        never false = refl
    by_tests false is false its more = rw is (rw its more)

nav_is : (one other : NavId) → (one.0 == other.0) ≡ true → one ≡ other
nav_is one other is = ap (λ (n : ℕ). let nav : NavId = record { 0 = n } in nav) (grind (arith, nat_tests, is))

pub lost_are : (before after_ : NavId → Bool) (navs : List NavId) (other : NavId) → (before other ≡ true → has_nav navs other ≡ true) → has_nav (filter (λ (n : NavId). not (after_ n)) (filter before navs)) other ≡ (before other && not (after_ other))
lost_are before after_ navs other placed =
    among (λ (n : NavId). not (after_ n)) (λ one o is. ap (λ (n : NavId). not (after_ n)) (nav_is one o is)) (filter before navs) other
    ∙ ap (λ (b : Bool). b && not (after_ other)) (among before (λ one o is. ap before (nav_is one o is)) navs other ∙ by_test (before other) refl)
  where
    by_test : (b : Bool) → before other ≡ b → (has_nav navs other && before other) ≡ before other
    by_test true is = rw is (rw (placed is) refl)
    by_test false is = rw is (never (has_nav navs other))
      where
        never : (a : Bool) → (a && false) ≡ false
        never true = refl
        never false = refl

-- all of them are in the table
pub listed_all : (es : List (NavId × Node)) (navs : List NavId) → ((nav : NavId) → Has navs nav → Has (map (λ (e : NavId × Node). e.0) es) nav) → (tree : Tree) → tree.navs ≡ es → AreThere tree navs
listed_all es [] among_ tree is = tt
listed_all es (nav ∷ navs) among_ tree is =
    (subst (λ (l : List (NavId × Node)). IsSome (lookup (is_nav nav) l)) (sym is) (found es nav (among_ nav (inl refl))), listed_all es navs (λ n there. among_ n (inr there)) tree is)
  where
    found : (xs : List (NavId × Node)) (n : NavId) → Has (map (λ (e : NavId × Node). e.0) xs) n → IsSome (lookup (is_nav n) xs)
    found [] n there = elim there [ ]
    found (e ∷ xs) n (inl same) = rw (sym same) (rw (nat_eq_refl e.0.0) refl)
    found (e ∷ xs) n (inr there) = by_test (is_nav n e.0) (found xs n there)
      where
        by_test : (b : Bool) → IsSome (lookup (is_nav n) xs) → IsSome (cond b (Some e.1) (lookup (is_nav n) xs))
        by_test true more = refl
        by_test false more = more

pub filtered_among : (test : NavId → Bool) (navs all : List NavId) → ((nav : NavId) → Has navs nav → Has all nav) → (nav : NavId) → Has (filter test navs) nav → Has all nav
filtered_among test navs all among_ nav there = among_ nav (has_filter test navs nav there).0

pub lost_there : (tree : Tree) (before after_ : NavId → Bool) (had lost : List NavId) → had ≡ filter before (made_in tree) → lost ≡ filter (λ (n : NavId). not (after_ n)) had → AreThere tree lost
lost_there tree before after_ had lost had_is lost_is =
    listed_all tree.navs lost (λ nav there. filtered_among before (made_in tree) (made_in tree) (λ n is. is) nav (subst (λ (l : List NavId). Has l nav) had_is (filtered_among (λ (n : NavId). not (after_ n)) had had (λ n is. is) nav (subst (λ (l : List NavId). Has l nav) lost_is there)))) tree refl

-- so they are once a navigable is changed
pub there_with : (f : Nav → Nav) (nav : NavId) (old new : Tree) (navs : List NavId) → new ≡ with_nav f nav old → AreThere old navs → AreThere new navs
there_with f nav old new [] is are = tt
there_with f nav old new (n ∷ navs) is are = (rw is (rw (node_with_nav f nav n old) (mapped_there _ (node_of n old) are.0)), there_with f nav old new navs is are.1)

-- ---- after a change by its door

pub there_as : (t mid : Tables) (nav : NavId) → mid ≡ record t { store = mid.store } → IsSome (node_of nav t.tree) → IsSome (node_of nav mid.tree)
there_as t mid nav rest there = subst (λ (x : Tree). IsSome (node_of nav x)) (sym (ap (λ (y : Tables). y.tree) rest)) there

pub lost_as : (t mid : Tables) (gone : List NavId) → mid ≡ record t { store = mid.store } → gone ≡ lost_of (history_held t.store).rows (history_held mid.store).rows (made_in t.tree) → AreThere mid.tree gone
lost_as t mid gone rest is =
    subst (λ (x : Tree). AreThere x gone) (sym (ap (λ (y : Tables). y.tree) rest)) (lost_there t.tree (has_any (history_held t.store).rows) (has_any (history_held mid.store).rows) (filter (has_any (history_held t.store).rows) (made_in t.tree)) gone refl is)
