-- Navigables fall asleep for an order, and are moved where that is for the running traversal: what the tables keep of all stays tied.
use Rattle.tab_doors.proofs.Holding.{held_changed}
use Rattle.tab_doors.proofs.Nodes.{keys_sleep_all, node_sleep_all, slept_node}
use Rattle.tab_doors.specs.Look.{Look}
use Rattle.tab_doors.specs.Sleeping.{sleep_all}
use Rattle.tab_doors.specs.Ties.{AreHeld, IsAwakeAtHome, IsTied}
use Rattle.log_model.specs.History.{has_nav}
use Rattle.log_model.specs.Seen.{Place, Status, asleep, place_in}
use Rattle.log_model.specs.declared.job.Why.{Why}
use Rattle.nav_tree.specs.Tree.{Tree, node_of}
use Rattle.nav_tree.specs.declared.node.Node.{Node}
use Rattle.std.proofs.Common.{Bool, List, Option, Some, ap, cond, false, map, refl, sym, true, ℕ, ◌&&◌, ◌||◌, ◌∙◌, ◌≡◌}
use Rattle.tab_ids.specs.declared.NavId.{NavId}

-- the place of one that falls asleep
abbrev pub slept_place : List NavId → Why → Place → Place
slept_place sleepers why p = cond (has_nav sleepers p.nav) (record p { status = asleep; why = why }) p

module _ (sleepers : List NavId) (why : Why) where
  pub slept_nav : (p : Place) → (slept_place sleepers why p).nav ≡ p.nav
  slept_nav p = elim (has_nav sleepers p.nav) as (λ b. (let q : Place = cond b (record p { status = asleep; why = why }) p in q).nav ≡ p.nav) [ true ↦ refl | false ↦ refl ]

  pub slept_last : (p : Place) → (slept_place sleepers why p).last_job ≡ p.last_job
  slept_last p = elim (has_nav sleepers p.nav) as (λ b. (let q : Place = cond b (record p { status = asleep; why = why }) p in q).last_job ≡ p.last_job) [ true ↦ refl | false ↦ refl ]

  pub slept_doc : (p : Place) → (slept_place sleepers why p).last ≡ p.last
  slept_doc p = elim (has_nav sleepers p.nav) as (λ b. (let q : Place = cond b (record p { status = asleep; why = why }) p in q).last ≡ p.last) [ true ↦ refl | false ↦ refl ]

-- who is moved then, of one that falls asleep and of one that doesn't
its_sleeper : (moves b was : Bool) → b ≡ true → ((moves && b) || was) ≡ (moves || was)
its_sleeper true b was is = rw is refl
its_sleeper false b was is = refl

its_other : (moves b was : Bool) → b ≡ false → ((moves && b) || was) ≡ was
its_other true b was is = rw is refl
its_other false b was is = refl

module _ (l m : Look) (navs sleepers : List NavId) (why : Why) (moves : Bool) (tree : Tree) (are : (other : NavId) → has_nav sleepers other ≡ has_nav navs other) (moved : (other : NavId) → has_nav m.moved other ≡ ((moves && has_nav sleepers other) || has_nav l.moved other)) (homes : (nav : NavId) (told : Option (ℕ × ℕ)) (status : Status) → IsAwakeAtHome l.documents nav told status → IsAwakeAtHome m.documents nav told status) (places : m.places ≡ map (slept_place sleepers why) l.places) where
  tie : (other : NavId) (n : Node) (p : Place) → node_of other tree ≡ Some n → place_in l.places other ≡ Some p → p.nav ≡ other → IsTied l.documents l.moved n p → IsTied m.documents m.moved (slept_node navs why moves other n) (slept_place sleepers why p)
  tie other n p at at_ is tied = by_test (has_nav navs other) refl
    where
      mine : (b : Bool) → has_nav navs other ≡ b → has_nav sleepers p.nav ≡ b
      mine b e = ap (λ (x : NavId). has_nav sleepers x) is ∙ are other ∙ e

      by_test : (b : Bool) → has_nav navs other ≡ b → IsTied m.documents m.moved (slept_node navs why moves other n) (slept_place sleepers why p)
      by_test true e =
          rw e (rw (mine true e) (record {
            parent = tied.parent;
            owner = tied.owner;
            status = refl;
            given = tied.given;
            epoch = tied.epoch;
            why = refl;
            moved_is = ap (λ (b : Bool). moves || b) tied.moved_is ∙ sym (moved p.nav ∙ its_sleeper moves (has_nav sleepers p.nav) (has_nav l.moved p.nav) (mine true e));
            stands = λ awakes. cc;
            unmet = tied.unmet;
            added_by = tied.added_by;
            destroyed_by = tied.destroyed_by;
            home = tt;
          }))
      by_test false e =
          rw e (rw (mine false e) (record {
            parent = tied.parent;
            owner = tied.owner;
            status = tied.status;
            given = tied.given;
            epoch = tied.epoch;
            why = tied.why;
            moved_is = tied.moved_is ∙ sym (moved p.nav ∙ its_other moves (has_nav sleepers p.nav) (has_nav l.moved p.nav) (mine false e));
            stands = tied.stands;
            unmet = tied.unmet;
            added_by = tied.added_by;
            destroyed_by = tied.destroyed_by;
            home = homes p.nav n.nav.told p.status tied.home;
          }))

  pub slept_held : AreHeld l tree → AreHeld m (sleep_all navs why moves tree)
  slept_held held =
      held_changed l m tree (sleep_all navs why moves tree) (slept_node navs why moves) (slept_place sleepers why) (λ other. node_sleep_all navs why moves other tree) (keys_sleep_all navs why moves tree) (slept_nav sleepers why) places tie held
