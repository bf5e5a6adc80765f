-- The report that an order showed its document is noted: the tables stand for what the log has come to then.
use Rattle.tab_doors.specs.declared.tables.Tables.{Tables}  -- keep
use Rattle.tab_doors.proofs.LookUps.{nav_same}
use Rattle.tab_doors.proofs.Nodes.{keys_with_nav, node_with_nav, on_nav}
use Rattle.tab_doors.proofs.Holding.{held_changed, listed_tree}
use Rattle.tab_doors.proofs.Nodes.{places_with}
use Rattle.tab_doors.proofs.Shown.{doc_last, last_of, order_last, shown_map}
use Rattle.tab_doors.proofs.Whose.{whose_same}
use Rattle.tab_doors.specs.Look.{Look, Sight, sight_in}
use Rattle.tab_doors.specs.Noting.{is_last, shown_tree, standing}
use Rattle.tab_doors.specs.Ties.{AreHeld, AreListed, Holds, IsTied, birth_of, nav_in}
use Rattle.tab_doors.specs.declared.birth.Birth.{Birth}
use Rattle.log_model.proofs.Refl.{nat_eq_refl}
use Rattle.log_model.specs.Equal.{holds as some_holds}
use Rattle.log_model.specs.History.{History}
use Rattle.log_model.specs.Order.{SameHistory}
use Rattle.log_model.specs.Seen.{Place, place_in}
use Rattle.nav_tree.specs.Tree.{Tree, node_of}
use Rattle.nav_tree.specs.declared.nav.Nav.{Nav}
use Rattle.nav_tree.specs.declared.node.Node.{Node}
use Rattle.std.proofs.Common.{Bool, List, None, Option, Some, ap, arith, cond, false, length, map, refl, subst, sym, true, ℕ, ◌+◌, ◌==◌, ◌||◌, ◌∙◌, ◌≡◌}
use Rattle.std.proofs.lemmas.Bool.Decides.{nat_tests}
use Rattle.std.specs.Option.{option_map_or}
use Rattle.std.specs.Prelude.{option_map}
use Rattle.step_index.specs.Held.{history_held}
use Rattle.tab_ids.specs.declared.DocId.{DocId}
use Rattle.tab_ids.specs.declared.JobId.{JobId}
use Rattle.tab_ids.specs.declared.NavId.{NavId}

map_same : {A : Type 0} (o : Option A) → o ≡ option_map (λ x. x) o
map_same None = refl
map_same (Some x) = refl

-- a place of which the report of an order is delivered
abbrev pub arrived : JobId → Place → Place
arrived nr p = record p { was_activated = true; is_delivered = p.is_delivered || some_holds (λ (last : JobId). last.0 == nr.0) p.last_job }

module _ (look new : Look) (t : Tables) (doc : DocId) (nr : JobId) (d : Sight) (holds : Holds look t) (found : sight_in look.documents doc ≡ Some d) (documents : new.documents ≡ look.documents) (places : new.places ≡ map (λ (p : Place). cond (p.nav.0 == d.nav.0) (arrived nr p) p) look.places) (history : new.history ≡ look.history) (moved : new.moved ≡ look.moved) (jobs : new.jobs ≡ look.jobs) (states : new.states ≡ look.states) (entries : new.entries ≡ look.entries) where
  abbrev g : Place → Place
  g p = cond (p.nav.0 == d.nav.0) (arrived nr p) p

  g_nav : (p : Place) → (g p).nav ≡ p.nav
  g_nav p = elim (p.nav.0 == d.nav.0) as (λ b. (let x : Place = cond b (arrived nr p) p in x).nav ≡ p.nav) [ true ↦ refl | false ↦ refl ]

  g_last : (p : Place) → (g p).last_job ≡ p.last_job
  g_last p = elim (p.nav.0 == d.nav.0) as (λ b. (let x : Place = cond b (arrived nr p) p in x).last_job ≡ p.last_job) [ true ↦ refl | false ↦ refl ]

  g_doc : (p : Place) → (g p).last ≡ p.last
  g_doc p = elim (p.nav.0 == d.nav.0) as (λ b. (let x : Place = cond b (arrived nr p) p in x).last ≡ p.last) [ true ↦ refl | false ↦ refl ]

  noted : nav_in t.whose.entries doc ≡ Some d.nav
  noted = ap (option_map (λ (b : Birth). b.nav)) (holds.whose doc ∙ ap (option_map birth_of) found)

  abbrev its : Bool
  its = is_last t d.nav nr

  abbrev stands : Nav → Nav
  stands n = record n { stands = true }

  abbrev node_then : NavId → Node → Node
  node_then other n = cond its (on_nav stands d.nav other n) n

  tree_is : shown_tree t doc nr ≡ standing its d.nav t.tree
  tree_is = ap (λ (o : Option NavId). option_map_or (λ (nav : NavId). standing (is_last t nav nr) nav t.tree) o t.tree) noted

  nodes : (other : NavId) → node_of other (standing its d.nav t.tree) ≡ option_map (node_then other) (node_of other t.tree)
  nodes other =
      elim its as (λ b. node_of other (standing b d.nav t.tree) ≡ option_map (λ (n : Node). cond b (on_nav stands d.nav other n) n) (node_of other t.tree)) [ true ↦ node_with_nav stands d.nav other t.tree | false ↦ map_same (node_of other t.tree) ]

  keys : map (λ (e : NavId × Node). e.0) (standing its d.nav t.tree).navs ≡ map (λ (e : NavId × Node). e.0) t.tree.navs
  keys =
      elim its as (λ b. map (λ (e : NavId × Node). e.0) (standing b d.nav t.tree).navs ≡ map (λ (e : NavId × Node). e.0) t.tree.navs) [ true ↦ keys_with_nav stands d.nav t.tree | false ↦ refl ]

  live : (standing its d.nav t.tree).places ≡ t.tree.places
  live = elim its as (λ b. (standing b d.nav t.tree).places ≡ t.tree.places) [ true ↦ places_with stands d.nav t.tree | false ↦ refl ]

  or_true : (b : Bool) → true ≡ (b || true)
  or_true true = refl
  or_true false = refl

  or_false : (b : Bool) → (b || false) ≡ b
  or_false true = refl
  or_false false = refl

  tie : (other : NavId) (n : Node) (p : Place) → node_of other t.tree ≡ Some n → place_in look.places other ≡ Some p → p.nav ≡ other → IsTied look.documents look.moved n p → IsTied look.documents look.moved (node_then other n) (g p)
  tie other n p at at_ is tied = by_nav (p.nav.0 == d.nav.0) refl
    where
      turned : (b : Bool) → (p.nav.0 == d.nav.0) ≡ b → (d.nav.0 == other.0) ≡ b
      turned true e = let navs : p.nav ≡ d.nav = nav_same p.nav d.nav e in rw (sym navs ∙ is) (nat_eq_refl other.0)
      turned false e = let test : (other.0 == d.nav.0) ≡ false = subst (λ (m : NavId). (m.0 == d.nav.0) ≡ false) is e in grind (arith, nat_tests, test)

      -- whether it is the last order of this one
      last_is : p.nav ≡ d.nav → some_holds (λ (last : JobId). last.0 == nr.0) p.last_job ≡ its
      last_is same =
          ap (λ (o : Option JobId). some_holds (λ (last : JobId). last.0 == nr.0) o) (sym (holds.shown d.nav ∙ ap (λ (m : NavId). last_of order_last (place_in look.places m)) (sym same ∙ is) ∙ ap (last_of order_last) at_))

      own : p.nav ≡ d.nav → (b : Bool) → its ≡ b → IsTied look.documents look.moved (cond b (record n { nav = stands n.nav }) n) (arrived nr p)
      own same true e =
          record {
            parent = tied.parent;
            owner = tied.owner;
            status = tied.status;
            given = tied.given;
            epoch = tied.epoch;
            why = tied.why;
            moved_is = tied.moved_is;
            stands = λ awakes. or_true p.is_delivered ∙ ap (λ (b : Bool). p.is_delivered || b) (sym (last_is same ∙ e));
            unmet = tied.unmet;
            added_by = tied.added_by;
            destroyed_by = tied.destroyed_by;
            home = tied.home;
          }
      own same false e =
          record {
            parent = tied.parent;
            owner = tied.owner;
            status = tied.status;
            given = tied.given;
            epoch = tied.epoch;
            why = tied.why;
            moved_is = tied.moved_is;
            stands = λ awakes. tied.stands awakes ∙ sym (ap (λ (b : Bool). p.is_delivered || b) (last_is same ∙ e) ∙ or_false p.is_delivered);
            unmet = tied.unmet;
            added_by = tied.added_by;
            destroyed_by = tied.destroyed_by;
            home = tied.home;
          }

      else_ : (b : Bool) → IsTied look.documents look.moved (let x : Node = cond b n n in x) p
      else_ true = tied
      else_ false = tied

      by_nav : (b : Bool) → (p.nav.0 == d.nav.0) ≡ b → IsTied look.documents look.moved (node_then other n) (g p)
      by_nav true e = rw (turned true e) (rw e (own (nav_same p.nav d.nav e) its refl))
      by_nav false e = rw (turned false e) (rw e (else_ its))

  held : AreHeld (record new { documents = look.documents; moved = look.moved }) (standing its d.nav t.tree)
  held = held_changed look (record new { documents = look.documents; moved = look.moved }) t.tree (standing its d.nav t.tree) node_then g nodes keys g_nav places tie holds.navs

  pub arrived_holds : Holds new (record t { tree = shown_tree t doc nr })
  arrived_holds =
      record {
        navs = subst (λ (x : Tree). AreHeld new x) (sym tree_is) (subst (λ (l : List Sight). AreHeld (record new { documents = l }) (standing its d.nav t.tree)) (sym documents) (subst (λ (l : List NavId). AreHeld (record new { documents = look.documents; moved = l }) (standing its d.nav t.tree)) (sym moved) held));
        documents = subst (λ (l : List Sight). AreListed l (shown_tree t doc nr) t.making.entries) (sym documents) (subst (λ (x : Tree). AreListed look.documents x t.making.entries) (sym tree_is) (listed_tree look.documents t.tree (standing its d.nav t.tree) t.making.entries live holds.documents));
        whose = whose_same look.documents t.whose.entries holds.whose new.documents t.whose.entries refl documents;
        shown = shown_map order_last look.places t.shown.entries holds.shown new.places t.shown.entries g refl places g_nav g_last;
        last = shown_map doc_last look.places t.last.entries holds.last new.places t.last.entries g refl places g_nav g_doc;
        history = subst (λ (h : History). SameHistory (history_held t.store) h) (sym history) holds.history;
        numbered = holds.numbered ∙ sym (ap (λ (l : List Sight). length l) documents);
        states = holds.states ∙ sym states;
        entries = holds.entries ∙ sym entries;
        sent = holds.sent ∙ ap (λ (n : ℕ). n + 1) (sym jobs);
      }
