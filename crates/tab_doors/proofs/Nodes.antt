-- What a change of the table of navigables makes of each node, and what leaves the documents alone.
use Rattle.std.proofs.Common.{◌≡◌, Bool, true, false, cond, ◌||◌, ◌==◌, List, [], ◌∷◌, map, Option, Some, None, refl, sym, ap, ◌∙◌, subst}
use Rattle.std.specs.Prelude.{option_map}
use Rattle.std.specs.Option.{IsSome}
use Rattle.std.specs.Map.{set_value}
use Rattle.std.proofs.lemmas.Map.{keys-set_value}
use Rattle.tab_ids.specs.declared.DocId.{DocId}
use Rattle.tab_ids.specs.declared.NavId.{NavId}
use Rattle.log_model.specs.declared.job.Why.{Why}
use Rattle.log_model.specs.History.{has_nav}
use Rattle.nav_tree.specs.declared.nav.Nav.{Nav}
use Rattle.nav_tree.specs.declared.node.Node.{Node}
use Rattle.nav_tree.specs.Tree.{Tree, is_nav, node_of, with_node, with_nav, changed}
use Rattle.tab_doors.specs.Sleeping.{asleep_for, sleep_all}
use Rattle.tab_doors.specs.Ties.{IsAwakeIn}
use Rattle.tab_doors.proofs.LookUps.{nav_same, read_back, read_past}

-- one navigable changed
abbrev pub on_nav : (Nav → Nav) → NavId → NavId → Node → Node
on_nav f nav other node = cond (nav.0 == other.0) (record node { nav = f node.nav }) node

map_same : {A : Type 0} (o : Option A) → o ≡ option_map (λ (x : A). x) o
map_same None = refl
map_same (Some x) = refl

past : (f : Nav → Nav) (b : Bool) (o : Option Node) → b ≡ false → o ≡ option_map (λ (node : Node). cond b (record node { nav = f node.nav }) node) o
past f true o e = cc
past f false o e = map_same o

pub node_with_nav : (f : Nav → Nav) (nav other : NavId) (tree : Tree) → node_of other (with_nav f nav tree) ≡ option_map (on_nav f nav other) (node_of other tree)
node_with_nav f nav other tree = by_node (node_of nav tree) (nav.0 == other.0) refl refl
  where
    by_node : (n : Option Node) (b : Bool) → node_of nav tree ≡ n → (nav.0 == other.0) ≡ b → node_of other (with_nav f nav tree) ≡ option_map (on_nav f nav other) (node_of other tree)
    by_node None true e t =
        let same = nav_same nav other t in
        let none : node_of other tree ≡ None = subst (λ (m : NavId). node_of m tree ≡ None) same e in
        rw e (rw none refl)
    by_node None false e t = rw e (past f (nav.0 == other.0) (node_of other tree) t)
    by_node (Some n) true e t =
        let same = nav_same nav other t in
        let here : node_of other tree ≡ Some n = subst (λ (m : NavId). node_of m tree ≡ Some n) same e in
        let back : node_of other (with_node nav (record n { nav = f n.nav }) tree) ≡ Some (record n { nav = f n.nav }) = subst (λ (m : NavId). node_of m (with_node nav (record n { nav = f n.nav }) tree) ≡ Some (record n { nav = f n.nav })) same (read_back nav tree.navs (record n { nav = f n.nav }) (rw e refl)) in
        rw e (back ∙ sym (rw (here, t) refl))
    by_node (Some n) false e t = rw e (read_past nav other tree.navs (record n { nav = f n.nav }) t ∙ past f (nav.0 == other.0) (node_of other tree) t)

-- all that are put to sleep, and moved where that is for the traversal that runs
abbrev pub slept_node : List NavId → Why → Bool → NavId → Node → Node
slept_node navs why moves other node = cond (has_nav navs other) (record node { nav = asleep_for why moves node.nav }) node

pub node_sleep_all : (navs : List NavId) (why : Why) (moves : Bool) (other : NavId) (tree : Tree) → node_of other (sleep_all navs why moves tree) ≡ option_map (slept_node navs why moves other) (node_of other tree)
node_sleep_all [] why moves other tree = map_same (node_of other tree)
node_sleep_all (nav ∷ navs) why moves other tree =
    node_sleep_all navs why moves other (with_nav (asleep_for why moves) nav tree)
    ∙ ap (λ (o : Option Node). option_map (slept_node navs why moves other) o) (node_with_nav (asleep_for why moves) nav other tree)
    ∙ joined moves (nav.0 == other.0) (has_nav navs other) (node_of other tree)
  where
    joined : (m b c : Bool) (o : Option Node) → option_map (λ (node : Node). cond c (record node { nav = asleep_for why m node.nav }) node) (option_map (λ (node : Node). cond b (record node { nav = asleep_for why m node.nav }) node) o) ≡ option_map (λ (node : Node). cond (b || c) (record node { nav = asleep_for why m node.nav }) node) o
    joined m b c None = refl
    joined true true true (Some node) = refl
    joined false true true (Some node) = refl
    joined m true false (Some node) = refl
    joined m false c (Some node) = refl

-- the order of navigables stays
pub keys_with_nav : (f : Nav → Nav) (nav : NavId) (tree : Tree) → map (λ (e : NavId × Node). e.0) (with_nav f nav tree).navs ≡ map (λ (e : NavId × Node). e.0) tree.navs
keys_with_nav f nav tree = by_node (node_of nav tree) refl
  where
    by_node : (n : Option Node) → node_of nav tree ≡ n → map (λ (e : NavId × Node). e.0) (with_nav f nav tree).navs ≡ map (λ (e : NavId × Node). e.0) tree.navs
    by_node None e = rw e refl
    by_node (Some n) e = rw e (keys-set_value (is_nav nav) tree.navs (record n { nav = f n.nav }))

pub keys_sleep_all : (navs : List NavId) (why : Why) (moves : Bool) (tree : Tree) → map (λ (e : NavId × Node). e.0) (sleep_all navs why moves tree).navs ≡ map (λ (e : NavId × Node). e.0) tree.navs
keys_sleep_all [] why moves tree = refl
keys_sleep_all (nav ∷ navs) why moves tree = keys_sleep_all navs why moves (with_nav (asleep_for why moves) nav tree) ∙ keys_with_nav (asleep_for why moves) nav tree

-- ---- one navigable changed twice

-- what was written last stands
written_twice : (nav : NavId) (es : List (NavId × Node)) (v w : Node) → set_value (is_nav nav) (set_value (is_nav nav) es v) w ≡ set_value (is_nav nav) es w
written_twice nav [] v w = refl
written_twice nav (e ∷ es) v w = by_test (is_nav nav e.0) refl (written_twice nav es v w)
  where
    by_test : (b : Bool) → is_nav nav e.0 ≡ b → set_value (is_nav nav) (set_value (is_nav nav) es v) w ≡ set_value (is_nav nav) es w → set_value (is_nav nav) (set_value (is_nav nav) (e ∷ es) v) w ≡ set_value (is_nav nav) (e ∷ es) w
    by_test true is more = rw is (rw is refl)
    by_test false is more = rw is (rw is (ap (λ (l : List (NavId × Node)). e ∷ l) more))

pub changed_twice : (f g : Nav → Nav) (nav : NavId) (tree : Tree) → with_nav g nav (with_nav f nav tree) ≡ with_nav (λ n. g (f n)) nav tree
changed_twice f g nav tree = by_node (node_of nav tree) refl
  where
    by_node : (n : Option Node) → node_of nav tree ≡ n → with_nav g nav (with_nav f nav tree) ≡ with_nav (λ n. g (f n)) nav tree
    by_node None e = rw e (rw e refl)
    by_node (Some n) e =
        let back : node_of nav (with_node nav (record n { nav = f n.nav }) tree) ≡ Some (record n { nav = f n.nav }) = read_back nav tree.navs (record n { nav = f n.nav }) (rw e refl) in
        rw e (rw back (ap (λ (l : List (NavId × Node)). record tree { navs = l }) (written_twice nav tree.navs (record n { nav = f n.nav }) (record n { nav = g (f n.nav) }))))

-- it is still there
pub still_there : (f : Nav → Nav) (nav : NavId) (tree : Tree) → IsSome (node_of nav tree) → IsSome (node_of nav (with_nav f nav tree))
still_there f nav tree is = rw (node_with_nav f nav nav tree) (mapped (node_of nav tree) is)
  where
    mapped : (o : Option Node) → IsSome o → IsSome (option_map (on_nav f nav nav) o)
    mapped None is = cc
    mapped (Some node) is = refl

pub still_more : (f : Nav → Nav) (nav : NavId) (old new : Tree) → new ≡ with_nav f nav old → IsSome (node_of nav old) → IsSome (node_of nav new)
still_more f nav old new is there = rw is (still_there f nav old there)

-- one that is awake on a document is there
pub awake_still : (tree : Tree) (nav : NavId) (doc : DocId) → IsAwakeIn tree nav doc → IsSome (node_of nav tree)
awake_still tree nav doc is = rw is.there refl

-- ---- a node changed beside its fields

abbrev pub on_node : (Node → Node) → NavId → NavId → Node → Node
on_node f nav other node = cond (nav.0 == other.0) (f node) node

past_node : (f : Node → Node) (b : Bool) (o : Option Node) → b ≡ false → o ≡ option_map (λ (node : Node). cond b (f node) node) o
past_node f true o e = cc
past_node f false o e = map_same o

pub node_changed : (f : Node → Node) (nav other : NavId) (tree : Tree) → node_of other (changed f nav tree) ≡ option_map (on_node f nav other) (node_of other tree)
node_changed f nav other tree = by_node (node_of nav tree) (nav.0 == other.0) refl refl
  where
    by_node : (n : Option Node) (b : Bool) → node_of nav tree ≡ n → (nav.0 == other.0) ≡ b → node_of other (changed f nav tree) ≡ option_map (on_node f nav other) (node_of other tree)
    by_node None true e t =
        let same = nav_same nav other t in
        let none : node_of other tree ≡ None = subst (λ (m : NavId). node_of m tree ≡ None) same e in
        rw e (rw none refl)
    by_node None false e t = rw e (past_node f (nav.0 == other.0) (node_of other tree) t)
    by_node (Some n) true e t =
        let same = nav_same nav other t in
        let here : node_of other tree ≡ Some n = subst (λ (m : NavId). node_of m tree ≡ Some n) same e in
        let back : node_of other (with_node nav (f n) tree) ≡ Some (f n) = subst (λ (m : NavId). node_of m (with_node nav (f n) tree) ≡ Some (f n)) same (read_back nav tree.navs (f n) (rw e refl)) in
        rw e (back ∙ sym (rw (here, t) refl))
    by_node (Some n) false e t = rw e (read_past nav other tree.navs (f n) t ∙ past_node f (nav.0 == other.0) (node_of other tree) t)

pub keys_changed : (f : Node → Node) (nav : NavId) (tree : Tree) → map (λ (e : NavId × Node). e.0) (changed f nav tree).navs ≡ map (λ (e : NavId × Node). e.0) tree.navs
keys_changed f nav tree = by_node (node_of nav tree) refl
  where
    by_node : (n : Option Node) → node_of nav tree ≡ n → map (λ (e : NavId × Node). e.0) (changed f nav tree).navs ≡ map (λ (e : NavId × Node). e.0) tree.navs
    by_node None e = rw e refl
    by_node (Some n) e = rw e (keys-set_value (is_nav nav) tree.navs (f n))

-- the documents aren't touched
pub places_with : (f : Nav → Nav) (nav : NavId) (tree : Tree) → (with_nav f nav tree).places ≡ tree.places
places_with f nav tree = by_node (node_of nav tree) refl
  where
    by_node : (n : Option Node) → node_of nav tree ≡ n → (with_nav f nav tree).places ≡ tree.places
    by_node None e = rw e refl
    by_node (Some n) e = rw e refl

pub places_changed : (f : Node → Node) (nav : NavId) (tree : Tree) → (changed f nav tree).places ≡ tree.places
places_changed f nav tree = by_node (node_of nav tree) refl
  where
    by_node : (n : Option Node) → node_of nav tree ≡ n → (changed f nav tree).places ≡ tree.places
    by_node None e = rw e refl
    by_node (Some n) e = rw e refl

pub places_asleep : (navs : List NavId) (why : Why) (moves : Bool) (tree : Tree) → (sleep_all navs why moves tree).places ≡ tree.places
places_asleep [] why moves tree = refl
places_asleep (nav ∷ navs) why moves tree = places_asleep navs why moves (with_nav (asleep_for why moves) nav tree) ∙ places_with (asleep_for why moves) nav tree
