-- An awake navigable's document is told length and index: the tables go on standing for the log.
use Rattle.tab_doors.proofs.Holding.{at_home_other, awake_home, held_changed, home_same, listed_unseen}
use Rattle.tab_doors.proofs.Nodes.{places_with}
use Rattle.tab_doors.proofs.Sights.{sights_document, sights_on}
use Rattle.tab_doors.proofs.Shown.{doc_last, order_last, shown_same}
use Rattle.tab_doors.proofs.Whose.{whose_on}
use Rattle.tab_doors.specs.Look.{Sight, look_of, moved_by, sight}
use Rattle.tab_doors.specs.Orders.{next_order}
use Rattle.tab_doors.specs.Ties.{AreHeld, AreListed, Holds, IsAwakeAtHome, IsHome, IsRunning, IsTied, status_of}
use Rattle.tab_doors.specs.declared.tables.Tables.{Tables}
use Rattle.log_model.specs.After.{after}
use Rattle.log_model.specs.AfterDocuments.{addressed}
use Rattle.log_model.specs.History.{History}
use Rattle.log_model.specs.Order.{SameHistory}
use Rattle.log_model.specs.Seen.{Asked, Place, Seen, Status, awake, place_in}
use Rattle.log_model.specs.declared.job.Job.{Job}
use Rattle.log_model.specs.declared.job.Why.{Why}
use Rattle.log_model.specs.declared.row_kind.Actor.{Actor}
use Rattle.nav_tree.specs.Tree.{Tree, node_of, with_nav}
use Rattle.nav_tree.specs.declared.nav.Nav.{Nav}
use Rattle.nav_tree.specs.declared.node.Node.{Node}
use Rattle.std.proofs.Common.{Bool, List, Option, Some, ap, arith, false, length, map, refl, subst, sym, true, ℕ, ◌+◌, ◌==◌, ◌∙◌, ◌≡◌}
use Rattle.std.proofs.lemmas.List.{length-map, map-id}
use Rattle.step_index.specs.Held.{history_held}
use Rattle.tab_ids.specs.declared.DocId.{DocId}
use Rattle.tab_ids.specs.declared.JobId.{JobId}
use Rattle.tab_ids.specs.declared.NavId.{NavId}
use Rattle.tab_ids.specs.declared.ProcId.{ProcId}
use Rattle.tab_ids.specs.declared.ReqId.{ReqId}
use Rattle.tab_ids.specs.declared.StateId.{StateId}
use Rattle.log_model.specs.declared.job.Task.TheVariants as tasks
use Rattle.log_model.specs.declared.row_kind.RowKind.TheVariants as rows
use Rattle.nav_tree.specs.declared.status.NavStatus.TheVariants as kept
use Rattle.tab_doors.proofs.LookUps.{nav_same}
use Rattle.tab_doors.proofs.Nodes.{keys_with_nav, node_with_nav, on_nav}

-- an order more was sent; all but the navigables, what they were shown last, and the kept documents is as it was
pub record SendsOne (t u : Tables) (shown_ : List (NavId × JobId)) (last_ : List (NavId × DocId)) : Type 0 where
  pub making : u.making.entries ≡ t.making.entries
  pub whose : u.whose.entries ≡ t.whose.entries
  pub shown : u.shown.entries ≡ shown_
  pub last : u.last.entries ≡ last_
  pub history : history_held u.store ≡ history_held t.store
  pub documents : u.documents ≡ t.documents
  pub states : u.states ≡ t.states
  pub entries : u.entries ≡ t.entries
  pub sent : length u.sent.items ≡ length t.sent.items + 1
  pub loads : u.loads ≡ t.loads
  pub initial : u.initial.entries ≡ t.initial.entries
  pub checks : u.checks ≡ t.checks
  pub asking : u.asking ≡ t.asking

abbrev pub told_to : ℕ × ℕ → Sight → Sight
told_to pair d = record d { told = Some pair }

-- ---- what becomes of the requests that run

pub running_same : (asked next_ : List Asked) (run : Option ReqId) → next_ ≡ asked → IsRunning asked run → IsRunning next_ run
running_same asked next_ run same runs = subst (λ (l : List Asked). IsRunning l run) (sym same) runs

module _ (s : Seen) (run : Option ReqId) (event : ℕ) (actor : Actor) (proc : ProcId) (doc : DocId) (why : Why) (pair : ℕ × ℕ) (nav : NavId) (node : Node) (t : Tables) (there : node_of nav t.tree ≡ Some node) (wakes : node.nav.status ≡ kept.Awake doc) (holds : Holds (look_of s run) t) where
  abbrev job : Job
  job = next_order s.jobs proc doc why (tasks.Update pair.0 pair.1)

  abbrev new : Seen
  new = after s (record { event = event; actor = actor; row = rows.Sent job })

  documents_are : map sight new.documents ≡ sights_on doc (told_to pair) (map sight s.documents)
  documents_are = sights_document doc (addressed (tasks.Update pair.0 pair.1)) (told_to pair) (λ d. refl) s.documents

  abbrev tell_node : NavId → Node → Node
  tell_node other n = on_nav (λ (m : Nav). record m { told = Some pair }) nav other n

  here : IsHome (map sight s.documents) nav node.nav.told doc
  here = awake_home (look_of s run) t.tree nav node doc holds.navs there wakes

  tie : (other : NavId) (n : Node) (p : Place) → node_of other t.tree ≡ Some n → place_in s.places other ≡ Some p → p.nav ≡ other → IsTied (map sight s.documents) (moved_by s.requests run) n p → IsTied (sights_on doc (told_to pair) (map sight s.documents)) (moved_by s.requests run) (tell_node other n) p
  tie other n p at at_ is tied = by_test (nav.0 == other.0) refl
    where
      by_test : (b : Bool) → (nav.0 == other.0) ≡ b → IsTied (sights_on doc (told_to pair) (map sight s.documents)) (moved_by s.requests run) (tell_node other n) p
      by_test true same =
          let same_nav : nav ≡ other = nav_same nav other same in
          let both_ : Some node ≡ Some n = sym there ∙ ap (λ (m : NavId). node_of m t.tree) same_nav ∙ at in
          let same_node : node ≡ n = cc in
          let awakes : p.status ≡ awake doc = sym tied.status ∙ ap (λ (m : Node). status_of m.nav.status) (sym same_node) ∙ ap status_of wakes in
          let home_ : IsHome (sights_on doc (told_to pair) (map sight s.documents)) nav (Some pair) doc = home_same (map sight s.documents) doc (told_to pair) nav node.nav.told (Some pair) (λ d. refl) (λ d. refl) (λ d. refl) here in
          rw same (record {
            parent = tied.parent;
            owner = tied.owner;
            status = tied.status;
            given = tied.given;
            epoch = tied.epoch;
            why = tied.why;
            moved_is = tied.moved_is;
            stands = tied.stands;
            unmet = tied.unmet;
            added_by = tied.added_by;
            destroyed_by = tied.destroyed_by;
            home = subst (λ (st : Status). IsAwakeAtHome (sights_on doc (told_to pair) (map sight s.documents)) p.nav (Some pair) st) (sym awakes) (subst (λ (m : NavId). IsHome (sights_on doc (told_to pair) (map sight s.documents)) m (Some pair) doc) (same_nav ∙ sym is) home_);
          })
      by_test false apart =
          rw apart (record {
            parent = tied.parent;
            owner = tied.owner;
            status = tied.status;
            given = tied.given;
            epoch = tied.epoch;
            why = tied.why;
            moved_is = tied.moved_is;
            stands = tied.stands;
            unmet = tied.unmet;
            added_by = tied.added_by;
            destroyed_by = tied.destroyed_by;
            home = at_home_other (map sight s.documents) doc (told_to pair) nav node.nav.told (λ d. refl) here p.nav n.nav.told p.status (subst (λ (m : NavId). (nav.0 == m.0) ≡ false) (sym is) apart) tied.home;
          })

  pub tell_holds : (u : Tables) → u.tree ≡ with_nav (λ (n : Nav). record n { told = Some pair }) nav t.tree → SendsOne t u t.shown.entries t.last.entries → Holds (look_of new run) u
  tell_holds u tree one =
      record {
        navs = subst (λ (x : Tree). AreHeld (look_of new run) x) (sym tree) (subst (λ (l : List Sight). AreHeld (record (look_of new run) { documents = l }) (with_nav (λ (n : Nav). record n { told = Some pair }) nav t.tree)) (sym documents_are) (held_changed (look_of s run) (record (look_of new run) { documents = sights_on doc (told_to pair) (map sight s.documents) }) t.tree (with_nav (λ (n : Nav). record n { told = Some pair }) nav t.tree) tell_node (λ p. p) (λ other. node_with_nav (λ (n : Nav). record n { told = Some pair }) nav other t.tree) (keys_with_nav (λ (n : Nav). record n { told = Some pair }) nav t.tree) (λ p. refl) (sym (map-id s.places)) tie holds.navs));
        documents = subst (λ (es : List (StateId × DocId)). AreListed (map sight new.documents) u.tree es) (sym one.making) (subst (λ (x : Tree). AreListed (map sight new.documents) x t.making.entries) (sym tree) (subst (λ (l : List Sight). AreListed l (with_nav (λ (n : Nav). record n { told = Some pair }) nav t.tree) t.making.entries) (sym documents_are) (listed_unseen (map sight s.documents) t.tree (with_nav (λ (n : Nav). record n { told = Some pair }) nav t.tree) t.making.entries doc (told_to pair) (λ d. refl) (λ state d there_ is. refl) (λ state d there_ is. refl) (places_with (λ (n : Nav). record n { told = Some pair }) nav t.tree) holds.documents)));
        whose = whose_on (map sight s.documents) t.whose.entries holds.whose (map sight new.documents) u.whose.entries doc (told_to pair) one.whose documents_are (λ d. refl) (λ d. refl);
        shown = shown_same order_last s.places t.shown.entries holds.shown new.places u.shown.entries one.shown refl;
        last = shown_same doc_last s.places t.last.entries holds.last new.places u.last.entries one.last refl;
        history = subst (λ (h : History). SameHistory h s.history) (sym one.history) holds.history;
        numbered = one.documents ∙ holds.numbered ∙ sym (ap (λ (l : List Sight). length l) documents_are ∙ length-map (map sight s.documents) _);
        states = one.states ∙ holds.states;
        entries = one.entries ∙ holds.entries;
        sent = let was : length t.sent.items ≡ s.jobs + 1 = holds.sent in let one_more : length u.sent.items ≡ length t.sent.items + 1 = one.sent in omega (arith, one_more, was);
      }
