-- A traversal ends, and rows of which the tables tell nothing or nothing but a history: the tables go on standing for the log.
use Rattle.tab_doors.proofs.Changing.{Changes, none_taken}
use Rattle.tab_doors.proofs.Holding.{held_changed, listed_tree}
use Rattle.tab_doors.proofs.Nodes.{keys_changed, node_changed, places_changed, places_with}
use Rattle.tab_doors.proofs.Sights.{sights_same}
use Rattle.tab_doors.proofs.Shown.{doc_last, order_last, shown_map, shown_same}
use Rattle.tab_doors.proofs.Whose.{whose_same}
use Rattle.tab_doors.specs.Ending.{destroy_all, destroyed, unmove_all}
use Rattle.tab_doors.specs.Look.{Look, Sight, look_of, moved_by, sight}
use Rattle.tab_doors.specs.Ties.{AreHeld, AreListed, AreTied, Holds, IsTied}
use Rattle.tab_doors.specs.declared.tables.Tables.{Tables}
use Rattle.log_model.specs.After.{after}
use Rattle.log_model.specs.AfterDocuments.{applied_to, told_after_change}
use Rattle.log_model.specs.History.{History, applied, has_nav, has_row}
use Rattle.log_model.specs.Order.{SameHistory}
use Rattle.log_model.specs.Seen.{Document, Place, Seen, place_in}
use Rattle.log_model.specs.declared.row_kind.Actor.{Actor}
use Rattle.nav_tree.specs.Tree.{Tree, changed, is_nav, node_of, with_nav}
use Rattle.nav_tree.specs.declared.nav.Nav.{Nav}
use Rattle.nav_tree.specs.declared.node.Node.{Node}
use Rattle.std.proofs.Common.{Bool, List, None, Option, Some, [], ap, arith, cond, false, length, map, refl, subst, sym, true, ℕ, ◌+◌, ◌==◌, ◌||◌, ◌∙◌, ◌∷◌, ◌≡◌}
use Rattle.std.proofs.lemmas.Bool.Decides.{nat_tests}
use Rattle.std.proofs.lemmas.List.{map-id}
use Rattle.std.specs.Map.{lookup}
use Rattle.std.specs.Prelude.{option_map}
use Rattle.step_index.specs.Held.{history_held}
use Rattle.tab_ids.specs.declared.DocId.{DocId}
use Rattle.tab_ids.specs.declared.NavId.{NavId}
use Rattle.tab_ids.specs.declared.ReqId.{ReqId}
use Rattle.tab_ids.specs.declared.StateId.{StateId}
use Rattle.tab_ids.specs.declared.Step.{Step}
use Rattle.log_model.specs.declared.change.Change.TheVariants as changes
use Rattle.log_model.specs.declared.row_kind.RowKind.TheVariants as rows
use Rattle.tab_doors.proofs.Nodes.{keys_with_nav, node_with_nav}

-- ---- rows of which they tell nothing

-- the history changes, and nothing else that they tell
pub history_holds : (l m : Look) (t u : Tables) → m.documents ≡ l.documents → m.places ≡ l.places → m.moved ≡ l.moved → m.jobs ≡ l.jobs → u.states ≡ m.states → u.entries ≡ m.entries → u.tree ≡ t.tree → Changes t u → SameHistory (history_held u.store) m.history → Holds l t → Holds m u
history_holds l m t u documents places moved jobs states entries tree one history holds =
    record {
      navs = subst (λ (x : Tree). AreHeld m x) (sym tree) (record {
        navs = λ nav. subst (λ (x : List Place). AreTied m.documents m.moved nav (node_of nav t.tree) (place_in x nav)) (sym places) (subst (λ (x : List NavId). AreTied m.documents x nav (node_of nav t.tree) (place_in l.places nav)) (sym moved) (subst (λ (x : List Sight). AreTied x l.moved nav (node_of nav t.tree) (place_in l.places nav)) (sym documents) (holds.navs.navs nav)));
        order = holds.navs.order ∙ ap (λ (x : List Place). map (λ (p : Place). p.nav) x) (sym places);
      });
      documents = subst (λ (es : List (StateId × DocId)). AreListed m.documents u.tree es) (sym one.making) (subst (λ (x : Tree). AreListed m.documents x t.making.entries) (sym tree) (subst (λ (x : List Sight). AreListed x t.tree t.making.entries) (sym documents) holds.documents));
      whose = whose_same l.documents t.whose.entries holds.whose m.documents u.whose.entries one.whose documents;
      shown = shown_same order_last l.places t.shown.entries holds.shown m.places u.shown.entries one.shown places;
      last = shown_same doc_last l.places t.last.entries holds.last m.places u.last.entries one.last places;
      history = history;
      numbered = one.documents ∙ holds.numbered ∙ ap (λ (x : List Sight). length x) (sym documents);
      states = states;
      entries = entries;
      sent = one.sent ∙ holds.sent ∙ ap (λ (n : ℕ). n + 1) (sym jobs);
    }

pub same_changes : (t : Tables) → Changes t t
same_changes t = record { making = refl; whose = refl; shown = refl; last = refl; documents = refl; sent = refl; loads = refl; kept = refl; checks = refl; asking = refl }

pub left_holds : (l m : Look) (t : Tables) → m.documents ≡ l.documents → m.places ≡ l.places → m.history ≡ l.history → m.moved ≡ l.moved → m.jobs ≡ l.jobs → m.states ≡ l.states → m.entries ≡ l.entries → Holds l t → Holds m t
left_holds l m t documents places history moved jobs states entries holds =
    history_holds l m t t documents places moved jobs (holds.states ∙ sym states) (holds.entries ∙ sym entries) refl (same_changes t) (subst (λ (h : History). SameHistory (history_held t.store) h) (sym history) holds.history) holds

-- ---- a traversal ends: nobody is moved any more

abbrev pub unmoved : Node → Node
unmoved node = record node { nav = record node.nav { moved = false } }

abbrev pub unmoved_if : List NavId → NavId → Node → Node
unmoved_if navs other node = cond (has_nav navs other) (unmoved node) node

map_same : {A : Type 0} (o : Option A) → o ≡ option_map (λ (x : A). x) o
map_same None = refl
map_same (Some x) = refl

pub node_unmoved : (navs : List NavId) (other : NavId) (tree : Tree) → node_of other (unmove_all navs tree) ≡ option_map (unmoved_if navs other) (node_of other tree)
node_unmoved [] other tree = map_same (node_of other tree)
node_unmoved (nav ∷ navs) other tree =
    node_unmoved navs other (with_nav (λ (n : Nav). record n { moved = false }) nav tree)
    ∙ ap (λ (o : Option Node). option_map (unmoved_if navs other) o) (node_with_nav (λ (n : Nav). record n { moved = false }) nav other tree)
    ∙ joined (nav.0 == other.0) (has_nav navs other) (node_of other tree)
  where
    joined : (b c : Bool) (o : Option Node) → option_map (λ (node : Node). cond c (unmoved node) node) (option_map (λ (node : Node). cond b (unmoved node) node) o) ≡ option_map (λ (node : Node). cond (b || c) (unmoved node) node) o
    joined b c None = refl
    joined true true (Some node) = refl
    joined true false (Some node) = refl
    joined false c (Some node) = refl

keys_unmoved : (navs : List NavId) (tree : Tree) → map (λ (e : NavId × Node). e.0) (unmove_all navs tree).navs ≡ map (λ (e : NavId × Node). e.0) tree.navs
keys_unmoved [] tree = refl
keys_unmoved (nav ∷ navs) tree = keys_unmoved navs (with_nav (λ (n : Nav). record n { moved = false }) nav tree) ∙ keys_with_nav (λ (n : Nav). record n { moved = false }) nav tree

places_unmoved : (navs : List NavId) (tree : Tree) → (unmove_all navs tree).places ≡ tree.places
places_unmoved [] tree = refl
places_unmoved (nav ∷ navs) tree = places_unmoved navs (with_nav (λ (n : Nav). record n { moved = false }) nav tree) ∙ places_with (λ (n : Nav). record n { moved = false }) nav tree

-- a navigable of the table is among all of them
is_among : (es : List (NavId × Node)) (nav : NavId) (n : Node) → lookup (is_nav nav) es ≡ Some n → has_nav (map (λ (e : NavId × Node). e.0) es) nav ≡ true
is_among [] nav n at = cc
is_among (e ∷ es) nav n at = by_test (is_nav nav e.0) refl at (is_among es nav n)
  where
    turned : (b : Bool) → is_nav nav e.0 ≡ b → (e.0.0 == nav.0) ≡ b
    turned true is = grind (arith, nat_tests, is)
    turned false is = grind (arith, nat_tests, is)

    by_test : (b : Bool) → is_nav nav e.0 ≡ b → cond b (Some e.1) (lookup (is_nav nav) es) ≡ Some n → (lookup (is_nav nav) es ≡ Some n → has_nav (map (λ (x : NavId × Node). x.0) es) nav ≡ true) → has_nav (map (λ (x : NavId × Node). x.0) (e ∷ es)) nav ≡ true
    by_test true is at_ more = rw (turned true is) refl
    by_test false is at_ more = rw (turned false is) (more at_)

module _ (s : Seen) (event : ℕ) (actor : Actor) (req : ReqId) (goal : Step) (t u : Tables) (holds : Holds (look_of s (Some req)) t) (one : Changes t u) (keeps_rows : (other : NavId) → has_row other s.history.rows ≡ true → has_row other (applied s.history (changes.Traverse goal)).rows ≡ true) where
  abbrev pub ended_new : Seen
  ended_new = after s (record { event = event; actor = actor; row = rows.Applied req (changes.Traverse goal) })

  abbrev pub ended_tree : Tree
  ended_tree = unmove_all (map (λ (e : NavId × Node). e.0) t.tree.navs) t.tree

  ended_places : ended_new.places ≡ map (λ (p : Place). p) s.places
  ended_places = none_taken s.history (applied s.history (changes.Traverse goal)) req s.places keeps_rows ∙ sym (map-id s.places)

  ended_documents : map sight ended_new.documents ≡ map sight s.documents
  ended_documents = sights_same (λ (d : Document). applied_to (changes.Traverse goal) (told_after_change d (changes.Traverse goal))) (λ d. refl) s.documents

  tie : (other : NavId) (n : Node) (p : Place) → node_of other t.tree ≡ Some n → place_in s.places other ≡ Some p → p.nav ≡ other → IsTied (map sight s.documents) (moved_by s.requests (Some req)) n p → IsTied (map sight s.documents) [] (unmoved_if (map (λ (e : NavId × Node). e.0) t.tree.navs) other n) p
  tie other n p at at_ is tied =
      rw (is_among t.tree.navs other n at) (record {
        parent = tied.parent;
        owner = tied.owner;
        status = tied.status;
        given = tied.given;
        epoch = tied.epoch;
        why = tied.why;
        moved_is = refl;
        stands = tied.stands;
        unmet = tied.unmet;
        added_by = tied.added_by;
        destroyed_by = tied.destroyed_by;
        home = tied.home;
      })

  pub ended_holds : u.tree ≡ ended_tree → SameHistory (history_held u.store) (applied s.history (changes.Traverse goal)) → u.states ≡ t.states → u.entries ≡ t.entries → Holds (look_of ended_new None) u
  ended_holds tree history states entries =
      record {
        navs = subst (λ (x : Tree). AreHeld (look_of ended_new None) x) (sym tree) (subst (λ (l : List Sight). AreHeld (record (look_of ended_new None) { documents = l }) ended_tree) (sym ended_documents) (held_changed (look_of s (Some req)) (record (look_of ended_new None) { documents = map sight s.documents }) t.tree ended_tree (unmoved_if (map (λ (e : NavId × Node). e.0) t.tree.navs)) (λ p. p) (λ other. node_unmoved (map (λ (e : NavId × Node). e.0) t.tree.navs) other t.tree) (keys_unmoved (map (λ (e : NavId × Node). e.0) t.tree.navs) t.tree) (λ p. refl) ended_places tie holds.navs));
        documents = subst (λ (es : List (StateId × DocId)). AreListed (map sight ended_new.documents) u.tree es) (sym one.making) (subst (λ (x : Tree). AreListed (map sight ended_new.documents) x t.making.entries) (sym tree) (subst (λ (l : List Sight). AreListed l ended_tree t.making.entries) (sym ended_documents) (listed_tree (map sight s.documents) t.tree ended_tree t.making.entries (places_unmoved (map (λ (e : NavId × Node). e.0) t.tree.navs) t.tree) holds.documents)));
        whose = whose_same (map sight s.documents) t.whose.entries holds.whose (map sight ended_new.documents) u.whose.entries one.whose ended_documents;
        shown = shown_map order_last s.places t.shown.entries holds.shown ended_new.places u.shown.entries (λ p. p) one.shown ended_places (λ p. refl) (λ p. refl);
        last = shown_map doc_last s.places t.last.entries holds.last ended_new.places u.last.entries (λ p. p) one.last ended_places (λ p. refl) (λ p. refl);
        history = history;
        numbered = one.documents ∙ holds.numbered ∙ sym (ap (λ (l : List Sight). length l) ended_documents);
        states = states ∙ holds.states;
        entries = entries ∙ holds.entries;
        sent = one.sent ∙ holds.sent;
      }

-- ---- those that lost their last entry are noted

abbrev pub destroyed_if : List NavId → ReqId → NavId → Node → Node
destroyed_if navs req other node = cond (has_nav navs other) (destroyed req node) node

pub node_destroyed : (navs : List NavId) (req : ReqId) (other : NavId) (tree : Tree) → node_of other (destroy_all navs req tree) ≡ option_map (destroyed_if navs req other) (node_of other tree)
node_destroyed [] req other tree = map_same (node_of other tree)
node_destroyed (nav ∷ navs) req other tree =
    node_destroyed navs req other (changed (destroyed req) nav tree)
    ∙ ap (λ (o : Option Node). option_map (destroyed_if navs req other) o) (node_changed (destroyed req) nav other tree)
    ∙ joined (nav.0 == other.0) (has_nav navs other) (node_of other tree)
  where
    joined : (b c : Bool) (o : Option Node) → option_map (λ (node : Node). cond c (destroyed req node) node) (option_map (λ (node : Node). cond b (destroyed req node) node) o) ≡ option_map (λ (node : Node). cond (b || c) (destroyed req node) node) o
    joined b c None = refl
    joined true true (Some node) = refl
    joined true false (Some node) = refl
    joined false c (Some node) = refl

pub keys_destroyed : (navs : List NavId) (req : ReqId) (tree : Tree) → map (λ (e : NavId × Node). e.0) (destroy_all navs req tree).navs ≡ map (λ (e : NavId × Node). e.0) tree.navs
keys_destroyed [] req tree = refl
keys_destroyed (nav ∷ navs) req tree = keys_destroyed navs req (changed (destroyed req) nav tree) ∙ keys_changed (destroyed req) nav tree

pub places_destroyed : (navs : List NavId) (req : ReqId) (tree : Tree) → (destroy_all navs req tree).places ≡ tree.places
places_destroyed [] req tree = refl
places_destroyed (nav ∷ navs) req tree = places_destroyed navs req (changed (destroyed req) nav tree) ∙ places_changed (destroyed req) nav tree
