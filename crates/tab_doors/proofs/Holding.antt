-- How what the tables keep of navigables is kept, as nodes, places and documents change.

use Rattle.nav_tree.specs.declared.place.Place as live_place  -- keep
use Rattle.nav_tree.specs.Tree.{document_of}  -- keep
use Rattle.tab_doors.proofs.Sights.{KeepsNumber, found_more, found_other, found_same, listed_kept, sights_on}
use Rattle.tab_doors.specs.Look.{Look, Sight, is_live_for, is_made_for, sight_in}
use Rattle.tab_doors.specs.Ties.{AreHeld, AreListed, AreOnceKeyed, AreTied, IsAwakeAtHome, IsHome, IsListed, IsTied, status_of}
use Rattle.seen_facts.specs.Hang.Members.{Has}
use Rattle.log_model.specs.Seen.{Place, Status, asleep, awake, lost, place_in}
use Rattle.nav_tree.specs.Tree.{Tree, is_state, node_of}
use Rattle.nav_tree.specs.declared.node.Node.{Node}
use Rattle.seen_laws.proofs.Keyed.{find_map}
use Rattle.std.proofs.Common.{Bool, List, None, Option, Some, [], ap, arith, false, map, refl, subst, sym, true, ℕ, ◌++◌, ◌==◌, ◌∙◌, ◌∷◌, ◌≡◌}
use Rattle.std.proofs.lemmas.Bool.Decides.{nat_tests}
use Rattle.std.specs.Map.{lookup}
use Rattle.std.specs.Prelude.{option_map}
use Rattle.tab_ids.specs.declared.DocId.{DocId}
use Rattle.tab_ids.specs.declared.NavId.{NavId}
use Rattle.tab_ids.specs.declared.StateId.{StateId}
use Rattle.nav_tree.specs.declared.status.NavStatus.TheVariants as kept

-- ---- where a navigable's document is

-- one that was told something else, or changes where the tables don't look
pub home_other : (documents : List Sight) (doc other : DocId) (g : Sight → Sight) (nav : NavId) (told : Option (ℕ × ℕ)) → KeepsNumber g → (doc.0 == other.0) ≡ false → IsHome documents nav told other → IsHome (sights_on doc g documents) nav told other
home_other documents doc other g nav told keeps apart home =
    record {
      document = home.document;
      found = found_other documents doc other g keeps apart ∙ home.found;
      nav_is = home.nav_is;
      told_is = home.told_is;
    }

pub home_same : (documents : List Sight) (doc : DocId) (g : Sight → Sight) (nav : NavId) (told now : Option (ℕ × ℕ)) → KeepsNumber g → ((d : Sight) → (g d).nav ≡ d.nav) → ((d : Sight) → (g d).told ≡ now) → IsHome documents nav told doc → IsHome (sights_on doc g documents) nav now doc
home_same documents doc g nav told now keeps navs tells home =
    record {
      document = g home.document;
      found = found_same documents doc g keeps ∙ ap (λ (o : Option Sight). option_map g o) home.found;
      nav_is = navs home.document ∙ home.nav_is;
      told_is = tells home.document;
    }

-- two navigables aren't at home on one document
pub apart_homes : (documents : List Sight) (doc other : DocId) (nav next : NavId) (told last : Option (ℕ × ℕ)) → IsHome documents nav told doc → IsHome documents next last other → (nav.0 == next.0) ≡ false → (doc.0 == other.0) ≡ false
apart_homes documents doc other nav next told last one two apart = by_test (doc.0 == other.0) refl
  where
    by_test : (b : Bool) → (doc.0 == other.0) ≡ b → b ≡ false
    by_test false is = refl
    by_test true is =
        let same : doc ≡ other = ap (λ (n : ℕ). let d : DocId = record { 0 = n } in d) (grind (arith, nat_tests, is)) in
        let both_ : Some one.document ≡ Some two.document = sym one.found ∙ ap (λ (d : DocId). sight_in documents d) same ∙ two.found in
        let d : one.document ≡ two.document = cc in
        let navs : nav ≡ next = sym one.nav_is ∙ ap (λ (x : Sight). x.nav) d ∙ two.nav_is in
        let tests : (next.0 == next.0) ≡ false = subst (λ (n : NavId). (n.0 == next.0) ≡ false) navs apart in
        grind (arith, nat_tests, tests)

-- the others stay at home, where one navigable's document changes
pub at_home_other : (documents : List Sight) (doc : DocId) (g : Sight → Sight) (nav : NavId) (told : Option (ℕ × ℕ)) → KeepsNumber g → IsHome documents nav told doc → (other : NavId) (last : Option (ℕ × ℕ)) (status : Status) → (nav.0 == other.0) ≡ false → IsAwakeAtHome documents other last status → IsAwakeAtHome (sights_on doc g documents) other last status
at_home_other documents doc g nav told keeps here other last (awake d) apart home =
    home_other documents doc d g other last keeps (apart_homes documents doc d nav other told last here home apart) home
at_home_other documents doc g nav told keeps here other last lost apart home = tt
at_home_other documents doc g nav told keeps here other last asleep apart home = tt

-- all stay at home, where a document changes but in its navigable and in what it was told
pub at_home_kept : (documents : List Sight) (doc : DocId) (g : Sight → Sight) (nav : NavId) (told : Option (ℕ × ℕ)) (status : Status) → KeepsNumber g → ((d : Sight) → (g d).nav ≡ d.nav) → ((d : Sight) → (g d).told ≡ d.told) → IsAwakeAtHome documents nav told status → IsAwakeAtHome (sights_on doc g documents) nav told status
at_home_kept documents doc g nav told (awake d) keeps navs tells home = by_test (doc.0 == d.0) refl
  where
    by_test : (b : Bool) → (doc.0 == d.0) ≡ b → IsHome (sights_on doc g documents) nav told d
    by_test false is = home_other documents doc d g nav told keeps is home
    by_test true is =
        let same : d ≡ doc = ap (λ (n : ℕ). let x : DocId = record { 0 = n } in x) (grind (arith, nat_tests, is)) in
        record {
          document = g home.document;
          found = ap (λ (x : DocId). sight_in (sights_on doc g documents) x) same ∙ found_same documents doc g keeps ∙ ap (λ (o : Option Sight). option_map g o) (ap (λ (x : DocId). sight_in documents x) (sym same) ∙ home.found);
          nav_is = navs home.document ∙ home.nav_is;
          told_is = tells home.document ∙ home.told_is;
        }
at_home_kept documents doc g nav told lost keeps navs tells home = tt
at_home_kept documents doc g nav told asleep keeps navs tells home = tt

pub at_home_more : (documents : List Sight) (new : Sight) (nav : NavId) (told : Option (ℕ × ℕ)) (status : Status) → IsAwakeAtHome documents nav told status → IsAwakeAtHome (documents ++ new ∷ []) nav told status
at_home_more documents new nav told (awake d) home =
    record {
      document = home.document;
      found = found_more documents new d home.document home.found;
      nav_is = home.nav_is;
      told_is = home.told_is;
    }
at_home_more documents new nav told lost home = tt
at_home_more documents new nav told asleep home = tt

-- ---- a tie on each side changed

tied_map : (l m : Look) (nav : NavId) (k : Node → Node) (h : Place → Place) (a : Option Node) (b : Option Place) → ((n : Node) (p : Place) → a ≡ Some n → b ≡ Some p → p.nav ≡ nav → IsTied l.documents l.moved n p → ((h p).nav ≡ nav) × IsTied m.documents m.moved (k n) (h p)) → AreTied l.documents l.moved nav a b → AreTied m.documents m.moved nav (option_map k a) (option_map h b)
tied_map l m nav k h (Some n) (Some p) keeps tied = keeps n p refl refl tied.0 tied.1
tied_map l m nav k h None None keeps tied = tt
tied_map l m nav k h (Some n) None keeps tied = elim tied [ ]
tied_map l m nav k h None (Some p) keeps tied = elim tied [ ]

navs_mapped : (h : Place → Place) (places : List Place) → ((p : Place) → (h p).nav ≡ p.nav) → map (λ (p : Place). p.nav) (map h places) ≡ map (λ (p : Place). p.nav) places
navs_mapped h [] same = refl
navs_mapped h (p ∷ places) same = rw (same p) (ap (λ (l : List NavId). p.nav ∷ l) (navs_mapped h places same))

module _ (l m : Look) (tree new : Tree) (k : NavId → Node → Node) (h : Place → Place) (nodes : (nav : NavId) → node_of nav new ≡ option_map (k nav) (node_of nav tree)) (keys : map (λ (e : NavId × Node). e.0) new.navs ≡ map (λ (e : NavId × Node). e.0) tree.navs) (number : (p : Place) → (h p).nav ≡ p.nav) (places : m.places ≡ map h l.places) where
  pub held_changed : ((nav : NavId) (n : Node) (p : Place) → node_of nav tree ≡ Some n → place_in l.places nav ≡ Some p → p.nav ≡ nav → IsTied l.documents l.moved n p → IsTied m.documents m.moved (k nav n) (h p)) → AreHeld l tree → AreHeld m new
  held_changed keeps held =
      record {
        navs = λ nav. subst (λ (o : Option Node). AreTied m.documents m.moved nav o (place_in m.places nav)) (sym (nodes nav)) (subst (λ (o : Option Place). AreTied m.documents m.moved nav (option_map (k nav) (node_of nav tree)) o) (sym (place_is nav)) (tied_map l m nav (k nav) h (node_of nav tree) (place_in l.places nav) (λ n p there at is tied. (number p ∙ is, keeps nav n p there at is tied)) (held.navs nav)));
        order = keys ∙ held.order ∙ sym (ap (λ (x : List Place). map (λ (p : Place). p.nav) x) places ∙ navs_mapped h l.places number);
      }
    where
      place_is : (nav : NavId) → place_in m.places nav ≡ option_map h (place_in l.places nav)
      place_is nav = ap (λ (x : List Place). place_in x nav) places ∙ find_map (λ (p : Place). p.nav.0) h nav.0 l.places (λ p. ap (λ (n : NavId). n.0) (number p))

-- the tables' node and the log's place of a navigable
pub record IsThat (l : Look) (nav : NavId) (node : Node) : Type 0 where
  pub place : Place
  pub at : place_in l.places nav ≡ Some place
  pub nav_is : place.nav ≡ nav
  pub tied : IsTied l.documents l.moved node place

pub its_place : (l : Look) (tree : Tree) (nav : NavId) (node : Node) → AreHeld l tree → node_of nav tree ≡ Some node → IsThat l nav node
its_place l tree nav node held there = by_place (place_in l.places nav) refl (subst (λ (o : Option Node). AreTied l.documents l.moved nav o (place_in l.places nav)) there (held.navs nav))
  where
    by_place : (o : Option Place) → place_in l.places nav ≡ o → AreTied l.documents l.moved nav (Some node) o → IsThat l nav node
    by_place (Some place) at tied = record { place = place; at = at; nav_is = tied.0; tied = tied.1 }
    by_place None at tied = elim tied [ ]

pub record HasNode (l : Look) (tree : Tree) (nav : NavId) (place : Place) : Type 0 where
  pub node : Node
  pub there : node_of nav tree ≡ Some node
  pub nav_is : place.nav ≡ nav
  pub tied : IsTied l.documents l.moved node place

pub its_node : (l : Look) (tree : Tree) (nav : NavId) (place : Place) → AreHeld l tree → place_in l.places nav ≡ Some place → HasNode l tree nav place
its_node l tree nav place held at = by_node (node_of nav tree) refl (subst (λ (o : Option Place). AreTied l.documents l.moved nav (node_of nav tree) o) at (held.navs nav))
  where
    by_node : (o : Option Node) → node_of nav tree ≡ o → AreTied l.documents l.moved nav o (Some place) → HasNode l tree nav place
    by_node (Some node) there tied = record { node = node; there = there; nav_is = tied.0; tied = tied.1 }
    by_node None there tied = elim tied [ ]

-- the document that a navigable is awake on
pub awake_home : (l : Look) (tree : Tree) (nav : NavId) (node : Node) (doc : DocId) → AreHeld l tree → node_of nav tree ≡ Some node → node.nav.status ≡ kept.Awake doc → IsHome l.documents nav node.nav.told doc
awake_home l tree nav node doc held there wakes =
    let it : IsThat l nav node = its_place l tree nav node held there in
    let home : IsAwakeAtHome l.documents it.place.nav node.nav.told (awake doc) = subst (λ (st : Status). IsAwakeAtHome l.documents it.place.nav node.nav.told st) (sym it.tied.status ∙ ap status_of wakes) it.tied.home in
    subst (λ (n : NavId). IsHome l.documents n node.nav.told doc) it.nav_is home

-- ---- ties of documents, where one changes and nothing is made or goes

pub listed_unseen : (documents : List Sight) (tree new : Tree) (making : List (StateId × DocId)) (doc : DocId) (g : Sight → Sight) → KeepsNumber g → ((state : StateId) (d : Sight) → Has documents d → (d.nr.0 == doc.0) ≡ true → is_live_for state (g d) ≡ is_live_for state d) → ((state : StateId) (d : Sight) → Has documents d → (d.nr.0 == doc.0) ≡ true → is_made_for state (g d) ≡ is_made_for state d) → new.places ≡ tree.places → AreListed documents tree making → AreListed (sights_on doc g documents) new making
listed_unseen documents tree new making doc g keeps live made places are =
    record {
      live = λ state. listed_kept (is_live_for state) doc g keeps documents (live state) (option_map (λ (place : live_place.Place). place.doc) (document_of state new)) (subst (λ (l : List (StateId × live_place.Place)). IsListed (is_live_for state) documents (option_map (λ (place : live_place.Place). place.doc) (lookup (is_state state) l))) (sym places) (are.live state));
      made = λ state. listed_kept (is_made_for state) doc g keeps documents (made state) (lookup (is_state state) making) (are.made state);
      live_once = subst (λ (l : List (StateId × live_place.Place)). AreOnceKeyed l) (sym places) are.live_once;
      made_once = are.made_once;
    }

-- nothing of them changes with the navigables
pub listed_tree : (documents : List Sight) (tree new : Tree) (making : List (StateId × DocId)) → new.places ≡ tree.places → AreListed documents tree making → AreListed documents new making
listed_tree documents tree new making places are =
    record {
      live = λ state. subst (λ (l : List (StateId × live_place.Place)). IsListed (is_live_for state) documents (option_map (λ (place : live_place.Place). place.doc) (lookup (is_state state) l))) (sym places) (are.live state);
      made = are.made;
      live_once = subst (λ (l : List (StateId × live_place.Place)). AreOnceKeyed l) (sym places) are.live_once;
      made_once = are.made_once;
    }
