-- A navigable is shown its document, for which nobody falls asleep: the tables go on standing for the log.
use Rattle.tab_doors.proofs.Holding.{held_changed, home_other, listed_unseen}
use Rattle.tab_doors.proofs.Nodes.{places_with}
use Rattle.tab_doors.proofs.Sights.{found_same, sight_of, sights_document, sights_on}
use Rattle.tab_doors.proofs.Telling.{SendsOne, told_to}
use Rattle.tab_doors.proofs.Shown.{doc_last, order_last, shown_put}
use Rattle.indexmap.specs.IndexMap.{insert_entry}
use Rattle.tab_doors.proofs.Whose.{whose_on}
use Rattle.tab_doors.specs.Look.{Sight, look_of, moved_by, sight, sight_in}
use Rattle.tab_doors.specs.Orders.{next_order}
use Rattle.tab_doors.specs.Ties.{AreHeld, AreListed, Holds, IsAwakeAtHome, IsHome, IsTied}
use Rattle.tab_doors.specs.declared.tables.Tables.{Tables}
use Rattle.log_model.proofs.Refl.{nat_eq_refl}
use Rattle.log_model.specs.After.{after}
use Rattle.log_model.specs.AfterDocuments.{addressed}
use Rattle.log_model.specs.AfterPlaces.{activated, on_place, put_to_sleep, sleepers_below}
use Rattle.log_model.specs.History.{History, has_nav}
use Rattle.log_model.specs.Order.{SameHistory}
use Rattle.log_model.specs.Seen.{Document, Place, Seen, Status, asleep, awake, document_of, lost, place_in, place_of}
use Rattle.log_model.specs.declared.job.Job.{Job}
use Rattle.log_model.specs.declared.job.Why.{Why}
use Rattle.log_model.specs.declared.row_kind.Actor.{Actor}
use Rattle.nav_tree.specs.Tree.{Tree, is_nav, node_of, with_nav}
use Rattle.nav_tree.specs.declared.nav.Nav.{Nav}
use Rattle.nav_tree.specs.declared.node.Node.{Node}
use Rattle.std.proofs.Common.{Bool, List, Option, Some, [], ap, arith, cond, false, length, map, refl, subst, sym, true, ℕ, ◌+◌, ◌==◌, ◌∙◌, ◌∷◌, ◌≡◌}
use Rattle.std.proofs.lemmas.Bool.Decides.{nat_tests}
use Rattle.std.proofs.lemmas.List.{length-map}
use Rattle.std.specs.Option.{option_map_or}
use Rattle.std.specs.Prelude.{is_some, option_map}
use Rattle.tab_ids.specs.declared.DocId.{DocId}
use Rattle.tab_ids.specs.declared.EntryId.{EntryId}
use Rattle.tab_ids.specs.declared.Epoch.{Epoch}
use Rattle.tab_ids.specs.declared.NavId.{NavId}
use Rattle.tab_ids.specs.declared.ProcId.{ProcId}
use Rattle.tab_ids.specs.declared.ReqId.{ReqId}
use Rattle.tab_ids.specs.declared.StateId.{StateId}
use Rattle.log_model.specs.declared.job.Task.TheVariants as tasks
use Rattle.log_model.specs.declared.row_kind.RowKind.TheVariants as rows
use Rattle.nav_tree.specs.declared.status.NavStatus.TheVariants as kept
use Rattle.tab_doors.proofs.LookUps.{nav_same}
use Rattle.tab_doors.proofs.Nodes.{keys_with_nav, node_with_nav, on_nav}

-- the navigable in the table: awake on the document, given the entry, under the next epoch, told the pair, and moved as this says
abbrev pub shown_nav : EntryId → DocId → Why → ℕ × ℕ → (Bool → Bool) → Nav → Nav
shown_nav entry doc why pair moves n =
    record n {
      status = kept.Awake doc;
      given = Some entry;
      epoch = record { 0 = n.epoch.0 + 1 };
      why = why;
      stands = false;
      told = Some pair;
      moved = moves n.moved;
    }

nobody_sleeps : (why : Why) (places : List Place) → put_to_sleep [] why places ≡ places
nobody_sleeps why [] = refl
nobody_sleeps why (p ∷ places) = ap (λ (l : List Place). p ∷ l) (nobody_sleeps why places)

module _ (s : Seen) (run : Option ReqId) (event : ℕ) (actor : Actor) (proc : ProcId) (doc : DocId) (why : Why) (entry : EntryId) (epoch : Epoch) (pair : ℕ × ℕ) (memo : Option (List ℕ)) (address : List ℕ) (d : Document) (found : document_of s doc ≡ Some d) (nobody : option_map_or (sleepers_below s doc) (place_of s d.nav) [] ≡ []) where
  abbrev pub show_job : Job
  show_job = next_order s.jobs proc doc why (tasks.Activate entry epoch pair.0 pair.1 memo address)

  abbrev pub show_new : Seen
  show_new = after s (record { event = event; actor = actor; row = rows.Sent show_job })

  show_documents : map sight show_new.documents ≡ sights_on doc (told_to pair) (map sight s.documents)
  show_documents = sights_document doc (addressed (tasks.Activate entry epoch pair.0 pair.1 memo address)) (told_to pair) (λ x. refl) s.documents

  abbrev show_place : Place → Place
  show_place p = cond (p.nav.0 == d.nav.0) (activated show_job entry epoch d p) p

  places_are : show_new.places ≡ map show_place s.places
  places_are = rw found (rw nobody (ap (λ (l : List Place). on_place d.nav (activated show_job entry epoch d) l) (nobody_sleeps why s.places)))

  show_place_nav : (p : Place) → (show_place p).nav ≡ p.nav
  show_place_nav p = elim (p.nav.0 == d.nav.0) as (λ b. (let q : Place = cond b (activated show_job entry epoch d p) p in q).nav ≡ p.nav) [ true ↦ refl | false ↦ refl ]

  module _ (node : Node) (t : Tables) (moves : Bool → Bool) (moved : List NavId) (there : node_of d.nav t.tree ≡ Some node) (next : epoch ≡ record { 0 = node.nav.epoch.0 + 1 }) (holds : Holds (look_of s run) t) (unmet : (p : Place) → place_of s d.nav ≡ Some p → p.is_unmet ≡ false) (moved_is : moved_by show_new.requests run ≡ moved) (own : (b : Bool) → has_nav (moved_by s.requests run) d.nav ≡ b → has_nav moved d.nav ≡ moves b) (others : (other : NavId) → (other.0 == d.nav.0) ≡ false → has_nav moved other ≡ has_nav (moved_by s.requests run) other) where
    abbrev its_nav : Nav → Nav
    its_nav = shown_nav entry doc why pair moves

    abbrev documents_then : List Sight
    documents_then = sights_on doc (told_to pair) (map sight s.documents)

    -- who is awake on another document was told what it was told
    apart_home : (other : NavId) (last : Option (ℕ × ℕ)) (status : Status) → (other.0 == d.nav.0) ≡ false → IsAwakeAtHome (map sight s.documents) other last status → IsAwakeAtHome documents_then other last status
    apart_home other last (awake x) apart home = home_other (map sight s.documents) doc x (told_to pair) other last (λ y. refl) (by_doc (doc.0 == x.0) refl) home
      where
        by_doc : (b : Bool) → (doc.0 == x.0) ≡ b → b ≡ false
        by_doc false is = refl
        by_doc true is =
            let same : doc ≡ x = ap (λ (n : ℕ). let y : DocId = record { 0 = n } in y) (grind (arith, nat_tests, is)) in
            let both_ : Some (sight d) ≡ Some home.document = sym (sight_of s doc d found) ∙ ap (λ (y : DocId). sight_in (map sight s.documents) y) same ∙ home.found in
            let one : sight d ≡ home.document = cc in
            let navs : d.nav ≡ other = ap (λ (y : Sight). y.nav) one ∙ home.nav_is in
            let test : (other.0 == other.0) ≡ false = subst (λ (m : NavId). (other.0 == m.0) ≡ false) navs apart in
            grind (arith, nat_tests, test)
    apart_home other last lost apart home = tt
    apart_home other last asleep apart home = tt

    own_home : (p : Place) → p.nav ≡ d.nav → IsHome documents_then p.nav (Some pair) doc
    own_home p is =
        record {
          document = told_to pair (sight d);
          found = found_same (map sight s.documents) doc (told_to pair) (λ y. refl) ∙ ap (λ (o : Option Sight). option_map (told_to pair) o) (sight_of s doc d found);
          nav_is = sym is;
          told_is = refl;
        }

    tie : (other : NavId) (n : Node) (p : Place) → node_of other t.tree ≡ Some n → place_in s.places other ≡ Some p → p.nav ≡ other → IsTied (map sight s.documents) (moved_by s.requests run) n p → IsTied documents_then moved (on_nav its_nav d.nav other n) (show_place p)
    tie other n p at at_ is tied = by_test (p.nav.0 == d.nav.0) refl
      where
        turned : (b : Bool) → (p.nav.0 == d.nav.0) ≡ b → (d.nav.0 == other.0) ≡ b
        turned true t_ = let navs : p.nav ≡ d.nav = nav_same p.nav d.nav t_ in rw (sym navs ∙ is) (nat_eq_refl other.0)
        turned false t_ = let test : (other.0 == d.nav.0) ≡ false = subst (λ (m : NavId). (m.0 == d.nav.0) ≡ false) is t_ in grind (arith, nat_tests, test)

        by_test : (b : Bool) → (p.nav.0 == d.nav.0) ≡ b → IsTied documents_then moved (on_nav its_nav d.nav other n) (show_place p)
        by_test true t_ =
            let same : p.nav ≡ d.nav = nav_same p.nav d.nav t_ in
            let both_ : Some n ≡ Some node = sym at ∙ ap (λ (m : NavId). node_of m t.tree) (sym is ∙ same) ∙ there in
            let one : n ≡ node = cc in
            let pended : p.is_unmet ≡ false = unmet p (ap (λ (m : NavId). place_in s.places m) (sym same ∙ is) ∙ at_) in
            let up : record { 0 = n.nav.epoch.0 + 1 } ≡ epoch = ap (λ (m : Node). let e : Epoch = record { 0 = m.nav.epoch.0 + 1 } in e) one ∙ sym next in
            let its_moved : n.nav.moved ≡ has_nav (moved_by s.requests run) d.nav = tied.moved_is ∙ ap (λ (m : NavId). has_nav (moved_by s.requests run) m) same in
            let moved_now : moves n.nav.moved ≡ has_nav moved p.nav = sym (own n.nav.moved (sym its_moved)) ∙ ap (λ (m : NavId). has_nav moved m) (sym same) in
            rw (turned true t_) (rw t_ (record {
              parent = tied.parent;
              owner = tied.owner;
              status = refl;
              given = refl;
              epoch = up;
              why = refl;
              moved_is = moved_now;
              stands = λ awakes. refl;
              unmet = tied.unmet ∙ rw pended refl;
              added_by = tied.added_by;
              destroyed_by = tied.destroyed_by;
              home = own_home p same;
            }))
        by_test false t_ =
            let apart : (other.0 == d.nav.0) ≡ false = subst (λ (m : NavId). (m.0 == d.nav.0) ≡ false) is t_ in
            rw (turned false t_) (rw t_ (record {
              parent = tied.parent;
              owner = tied.owner;
              status = tied.status;
              given = tied.given;
              epoch = tied.epoch;
              why = tied.why;
              moved_is = tied.moved_is ∙ sym (others p.nav t_);
              stands = tied.stands;
              unmet = tied.unmet;
              added_by = tied.added_by;
              destroyed_by = tied.destroyed_by;
              home = apart_home p.nav n.nav.told p.status t_ tied.home;
            }))

    pub show_holds : (u : Tables) → u.tree ≡ with_nav its_nav d.nav t.tree → SendsOne t u (insert_entry is_nav t.shown.entries d.nav show_job.nr) (insert_entry is_nav t.last.entries d.nav doc) → is_some (place_of s d.nav) ≡ true → Holds (look_of show_new run) u
    show_holds u tree one there_ =
        record {
          navs = subst (λ (x : Tree). AreHeld (look_of show_new run) x) (sym tree) (subst (λ (l : List Sight). AreHeld (record (look_of show_new run) { documents = l }) (with_nav its_nav d.nav t.tree)) (sym show_documents) (subst (λ (l : List NavId). AreHeld (record (look_of show_new run) { documents = documents_then; moved = l }) (with_nav its_nav d.nav t.tree)) (sym moved_is) (held_changed (look_of s run) (record (look_of show_new run) { documents = documents_then; moved = moved }) t.tree (with_nav its_nav d.nav t.tree) (on_nav its_nav d.nav) show_place (λ other. node_with_nav its_nav d.nav other t.tree) (keys_with_nav its_nav d.nav t.tree) show_place_nav places_are tie holds.navs)));
          documents = subst (λ (es : List (StateId × DocId)). AreListed (map sight show_new.documents) u.tree es) (sym one.making) (subst (λ (x : Tree). AreListed (map sight show_new.documents) x t.making.entries) (sym tree) (subst (λ (l : List Sight). AreListed l (with_nav its_nav d.nav t.tree) t.making.entries) (sym show_documents) (listed_unseen (map sight s.documents) t.tree (with_nav its_nav d.nav t.tree) t.making.entries doc (told_to pair) (λ x. refl) (λ state x there_ is. refl) (λ state x there_ is. refl) (places_with its_nav d.nav t.tree) holds.documents)));
          whose = whose_on (map sight s.documents) t.whose.entries holds.whose (map sight show_new.documents) u.whose.entries doc (told_to pair) one.whose show_documents (λ x. refl) (λ x. refl);
          shown = shown_put order_last s.places t.shown.entries holds.shown show_new.places u.shown.entries (activated show_job entry epoch d) d.nav show_job.nr one.shown places_are (λ p. refl) (λ p. refl) there_;
          last = shown_put doc_last s.places t.last.entries holds.last show_new.places u.last.entries (activated show_job entry epoch d) d.nav doc one.last places_are (λ p. refl) (λ p. refl) there_;
          history = subst (λ (h : History). SameHistory h s.history) (sym one.history) holds.history;
          numbered = one.documents ∙ holds.numbered ∙ sym (ap (λ (l : List Sight). length l) show_documents ∙ length-map (map sight s.documents) _);
          states = one.states ∙ holds.states;
          entries = one.entries ∙ holds.entries;
          sent = let was : length t.sent.items ≡ s.jobs + 1 = holds.sent in let one_more : length u.sent.items ≡ length t.sent.items + 1 = one.sent in omega (arith, one_more, was);
        }
