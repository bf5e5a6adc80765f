-- A document is to be made, and then is: the tables go on standing for the log.

use Rattle.nav_tree.specs.declared.place.Place as live_place  -- keep
use Rattle.nav_tree.specs.Tree.{document_of, placed}  -- keep
use Rattle.indexmap.specs.IndexMap.{insert_entry}  -- keep
use Rattle.tab_doors.proofs.Holding.{at_home_kept, at_home_more}
use Rattle.tab_doors.proofs.Keyed.{off_once, off_other, off_same, put_once, put_other, put_same, state_same}
use Rattle.tab_doors.proofs.Sights.{KeepsNumber, found_has, found_same, listed_gone, listed_kept, listed_more, listed_new, sights_on}
use Rattle.tab_doors.specs.Look.{Look, Sight, is_live_for, is_made_for, look_of, moved_by, sight, sight_in}
use Rattle.tab_doors.specs.Orders.{next_order}
use Rattle.tab_doors.proofs.Shown.{doc_last, order_last, shown_same}
use Rattle.tab_doors.proofs.Whose.{whose_more, whose_on}
use Rattle.tab_doors.specs.Noting.{PlacesOne}
use Rattle.tab_doors.specs.Ties.{AreHeld, AreListed, AreTied, Holds, IsListed, IsOneSuch, is_doc}
use Rattle.tab_doors.specs.declared.tables.Tables.{Tables}
use Rattle.seen_facts.proofs.Hang.Members.{has_any, has_map}
use Rattle.seen_facts.specs.Hang.Members.{Has}
use Rattle.log_model.proofs.Refl.{nat_eq_refl}
use Rattle.log_model.specs.After.{after}
use Rattle.log_model.specs.AfterDocuments.{new_document}
use Rattle.log_model.specs.History.{History}
use Rattle.log_model.specs.Order.{SameHistory}
use Rattle.log_model.specs.Seen.{Place, Seen, place_in}
use Rattle.log_model.specs.declared.job.Job.{Job}
use Rattle.log_model.specs.declared.job.Why.{Why}
use Rattle.log_model.specs.declared.row_kind.Actor.{Actor}
use Rattle.nav_tree.specs.Tree.{Tree, is_state, node_of}
use Rattle.nav_tree.specs.declared.node.Node.{Node}
use Rattle.seen_laws.proofs.Keyed.{find_has}
use Rattle.std.proofs.Common.{Bool, List, None, Option, Some, [], ap, arith, cond, false, length, length-append, map, refl, subst, sym, true, ℕ, ◌&&◌, ◌++◌, ◌+◌, ◌==◌, ◌∙◌, ◌∷◌, ◌≡◌}
use Rattle.std.proofs.lemmas.List.{length-map, map-append}
use Rattle.std.specs.List.{list_any}
use Rattle.std.specs.Map.{lookup, remove_entry}
use Rattle.std.specs.Prelude.{option_map}
use Rattle.step_index.specs.Held.{history_held}
use Rattle.tab_ids.specs.declared.DocId.{DocId}
use Rattle.tab_ids.specs.declared.NavId.{NavId}
use Rattle.tab_ids.specs.declared.ProcId.{ProcId}
use Rattle.tab_ids.specs.declared.ReqId.{ReqId}
use Rattle.tab_ids.specs.declared.StateId.{StateId}
use Rattle.log_model.specs.declared.job.Task.TheVariants as tasks
use Rattle.log_model.specs.declared.row_kind.RowKind.TheVariants as rows

never_both : (a : Bool) → (a && false) ≡ false
never_both true = refl
never_both false = refl

-- a new document isn't there yet, and is being made for its state
not_live : (state : StateId) (d : Sight) → d.is_ready ≡ false → is_live_for state d ≡ false
not_live state d unready = rw unready (rw (never_both (d.state.0 == state.0)) refl)

-- ---- it is to be made

-- an order more was sent, to make a document of the state; the navigables are as they were
pub record MakesOne (nav : NavId) (state : StateId) (proc : ProcId) (doc : DocId) (t u : Tables) : Type 0 where
  pub tree : u.tree ≡ t.tree
  pub making : u.making.entries ≡ insert_entry is_state t.making.entries state doc
  pub whose : u.whose.entries ≡ insert_entry is_doc t.whose.entries doc (record { nav = nav; proc = proc })
  pub shown : u.shown.entries ≡ t.shown.entries
  pub last : u.last.entries ≡ t.last.entries
  pub history : history_held u.store ≡ history_held t.store
  pub documents : u.documents ≡ t.documents + 1
  pub states : u.states ≡ t.states
  pub entries : u.entries ≡ t.entries
  pub sent : length u.sent.items ≡ length t.sent.items + 1
  pub kept : u.kept ≡ t.kept
  pub checks : u.checks ≡ t.checks
  pub asking : u.asking ≡ t.asking
  pub initial : u.initial.entries ≡ t.initial.entries

module _ (s : Seen) (run : Option ReqId) (event : ℕ) (actor : Actor) (proc : ProcId) (doc : DocId) (why : Why) (nav : NavId) (state : StateId) (address : List ℕ) (initial : Bool) where
  abbrev pub make_job : Job
  make_job = next_order s.jobs proc doc why (tasks.Populate nav state address initial)

  abbrev pub make_new : Seen
  make_new = after s (record { event = event; actor = actor; row = rows.Sent make_job })

  abbrev pub new_sight : Sight
  new_sight = sight (new_document s make_job nav state)

  documents_are : map sight make_new.documents ≡ map sight s.documents ++ new_sight ∷ []
  documents_are = map-append sight s.documents (new_document s make_job nav state ∷ [])

  module _ (t : Tables) (holds : Holds (look_of s run) t) (unknown : sight_in (map sight s.documents) doc ≡ None) (unmade : lookup (is_state state) t.making.entries ≡ None) where
    abbrev grown : List Sight
    grown = map sight s.documents ++ new_sight ∷ []

    nobody : list_any (is_made_for state) (map sight s.documents) ≡ false
    nobody = subst (λ (o : Option DocId). IsListed (is_made_for state) (map sight s.documents) o) unmade (holds.documents.made state)

    made_now : (other : StateId) → IsListed (is_made_for other) grown (lookup (is_state other) (insert_entry is_state t.making.entries state doc))
    made_now other = by_test (state.0 == other.0) refl
      where
        by_test : (b : Bool) → (state.0 == other.0) ≡ b → IsListed (is_made_for other) grown (lookup (is_state other) (insert_entry is_state t.making.entries state doc))
        by_test true is =
            let same : state ≡ other = state_same state other is in
            subst (λ (st : StateId). IsListed (is_made_for st) grown (lookup (is_state st) (insert_entry is_state t.making.entries state doc))) same (subst (λ (o : Option DocId). IsListed (is_made_for state) grown o) (sym (put_same t.making.entries state doc)) (listed_new (is_made_for state) (map sight s.documents) new_sight unknown (rw (nat_eq_refl state.0) refl) nobody))
        by_test false apart =
            subst (λ (o : Option DocId). IsListed (is_made_for other) grown o) (sym (put_other t.making.entries state other doc apart)) (listed_more (is_made_for other) (map sight s.documents) new_sight (lookup (is_state other) t.making.entries) (rw apart refl) (holds.documents.made other))

    listed : AreListed grown t.tree (insert_entry is_state t.making.entries state doc)
    listed =
        record {
          live = λ other. listed_more (is_live_for other) (map sight s.documents) new_sight (option_map (λ (place : live_place.Place). place.doc) (document_of other t.tree)) (not_live other new_sight refl) (holds.documents.live other);
          made = made_now;
          live_once = holds.documents.live_once;
          made_once = put_once t.making.entries state doc holds.documents.made_once;
        }

    tied_more : (other : NavId) (n : Option Node) (p : Option Place) → AreTied (map sight s.documents) (moved_by s.requests run) other n p → AreTied grown (moved_by s.requests run) other n p
    tied_more other (Some n) (Some p) tied = (
      tied.0,
      record {
        parent = tied.1.parent;
        owner = tied.1.owner;
        status = tied.1.status;
        given = tied.1.given;
        epoch = tied.1.epoch;
        why = tied.1.why;
        moved_is = tied.1.moved_is;
        stands = tied.1.stands;
        unmet = tied.1.unmet;
        added_by = tied.1.added_by;
        destroyed_by = tied.1.destroyed_by;
        home = at_home_more (map sight s.documents) new_sight p.nav n.nav.told p.status tied.1.home;
      },
    )
    tied_more other None None tied = tt
    tied_more other (Some n) None tied = elim tied [ ]
    tied_more other None (Some p) tied = elim tied [ ]

    held : AreHeld (record (look_of make_new run) { documents = grown }) t.tree
    held = record { navs = λ other. tied_more other (node_of other t.tree) (place_in s.places other) (holds.navs.navs other); order = holds.navs.order }

    pub make_holds : (u : Tables) → MakesOne nav state proc doc t u → Holds (look_of make_new run) u
    make_holds u one =
        record {
          navs = subst (λ (x : Tree). AreHeld (look_of make_new run) x) (sym one.tree) (subst (λ (l : List Sight). AreHeld (record (look_of make_new run) { documents = l }) t.tree) (sym documents_are) held);
          documents = subst (λ (es : List (StateId × DocId)). AreListed (map sight make_new.documents) u.tree es) (sym one.making) (subst (λ (x : Tree). AreListed (map sight make_new.documents) x (insert_entry is_state t.making.entries state doc)) (sym one.tree) (subst (λ (l : List Sight). AreListed l t.tree (insert_entry is_state t.making.entries state doc)) (sym documents_are) listed));
          whose = whose_more (map sight s.documents) t.whose.entries holds.whose (map sight make_new.documents) u.whose.entries new_sight one.whose documents_are unknown;
          shown = shown_same order_last s.places t.shown.entries holds.shown make_new.places u.shown.entries one.shown refl;
          last = shown_same doc_last s.places t.last.entries holds.last make_new.places u.last.entries one.last refl;
          history = subst (λ (h : History). SameHistory h s.history) (sym one.history) holds.history;
          numbered = one.documents ∙ ap (λ (n : ℕ). n + 1) holds.numbered ∙ sym (ap (λ (l : List Sight). length l) documents_are ∙ length-append (map sight s.documents) (new_sight ∷ []));
          states = one.states ∙ holds.states;
          entries = one.entries ∙ holds.entries;
          sent = let was : length t.sent.items ≡ s.jobs + 1 = holds.sent in let one_more : length u.sent.items ≡ length t.sent.items + 1 = one.sent in omega (arith, one_more, was);
        }

-- ---- it is made

abbrev pub made_ready : Sight → Sight
made_ready d = record d { is_ready = true }

-- a document comes to pass, by a change of it
pub listed_comes : (test : Sight → Bool) (doc : DocId) (g : Sight → Sight) (documents : List Sight) (d : Sight) → KeepsNumber g → sight_in documents doc ≡ Some d → test (g d) ≡ true → list_any test documents ≡ false → IsListed test (sights_on doc g documents) (Some doc)
listed_comes test doc g documents d keeps found is none =
    record {
      document = g d;
      found = found_same documents doc g keeps ∙ ap (λ (o : Option Sight). option_map g o) found;
      passes = is;
      only = λ x there passes_. let it = has_map (λ (y : Sight). cond (y.nr.0 == doc.0) (g y) y) documents x there in by_test it.it it.there (it.it.nr.0 == doc.0) refl x it.is passes_;
    }
  where
    by_test : (y : Sight) → Has documents y → (b : Bool) → (y.nr.0 == doc.0) ≡ b → (x : Sight) → cond (y.nr.0 == doc.0) (g y) y ≡ x → test x ≡ true → (x.nr.0 == doc.0) ≡ true
    by_test y there true its x same passes_ =
        let it : g y ≡ x = (rw its at same) in rw (sym it) (rw (keeps y) its)
    by_test y there false its x same passes_ =
        let it : y ≡ x = (rw its at same) in
        let yes_ : test y ≡ true = ap test it ∙ passes_ in
        let never_ : true ≡ false = sym (has_any test documents y there yes_) ∙ none in
        absurd cc

module _ (look new : Look) (t : Tables) (doc : DocId) (state : StateId) (d : Sight) (holds : Holds look t) (documents : new.documents ≡ sights_on doc made_ready look.documents) (places : new.places ≡ look.places) (history : new.history ≡ look.history) (moved : new.moved ≡ look.moved) (jobs : new.jobs ≡ look.jobs) (states : new.states ≡ look.states) (entries : new.entries ≡ look.entries) (found : sight_in look.documents doc ≡ Some d) (its_state : (x : Sight) → Has look.documents x → (x.nr.0 == doc.0) ≡ true → x.state ≡ state) (undiscarded : d.is_discarded ≡ false) (unknown : d.is_known_dead ≡ false) (being : lookup (is_state state) t.making.entries ≡ Some doc) (unplaced : document_of state t.tree ≡ None) where
  abbrev ready : List Sight
  ready = sights_on doc made_ready look.documents

  the_state : d.state ≡ state
  the_state = its_state d (found_has look.documents doc d found) (let nr : d.nr.0 ≡ doc.0 = find_has (λ (x : Sight). x.nr.0) doc.0 look.documents d found in rw nr (nat_eq_refl doc.0))

  -- of another state nothing changes
  other_live : (other : StateId) → (state.0 == other.0) ≡ false → (x : Sight) → Has look.documents x → (x.nr.0 == doc.0) ≡ true → is_live_for other (made_ready x) ≡ is_live_for other x
  other_live other apart x there its = let is : (x.state.0 == other.0) ≡ false = rw (its_state x there its) apart in rw is refl

  other_made : (other : StateId) → (state.0 == other.0) ≡ false → (x : Sight) → Has look.documents x → (x.nr.0 == doc.0) ≡ true → is_made_for other (made_ready x) ≡ is_made_for other x
  other_made other apart x there its = let is : (x.state.0 == other.0) ≡ false = rw (its_state x there its) apart in rw is refl

  passes_now : is_live_for state (made_ready d) ≡ true
  passes_now = rw the_state (rw (nat_eq_refl state.0) (rw (undiscarded, unknown) refl))

  none_live : list_any (is_live_for state) look.documents ≡ false
  none_live = subst (λ (o : Option live_place.Place). IsListed (is_live_for state) look.documents (option_map (λ (p : live_place.Place). p.doc) o)) unplaced (holds.documents.live state)

  was_made : IsOneSuch (is_made_for state) look.documents doc
  was_made = subst (λ (o : Option DocId). IsListed (is_made_for state) look.documents o) being (holds.documents.made state)

  made_then : (other : StateId) → IsListed (is_made_for other) ready (lookup (is_state other) (remove_entry (is_state state) t.making.entries))
  made_then other = by_test (state.0 == other.0) refl
    where
      by_test : (b : Bool) → (state.0 == other.0) ≡ b → IsListed (is_made_for other) ready (lookup (is_state other) (remove_entry (is_state state) t.making.entries))
      by_test true is =
          subst (λ (st : StateId). IsListed (is_made_for st) ready (lookup (is_state st) (remove_entry (is_state state) t.making.entries))) (state_same state other is) (subst (λ (o : Option DocId). IsListed (is_made_for state) ready o) (sym (off_same t.making.entries state holds.documents.made_once)) (listed_gone (is_made_for state) doc made_ready look.documents (λ x. rw (never_both (x.state.0 == state.0)) refl) was_made.only))
      by_test false apart =
          subst (λ (o : Option DocId). IsListed (is_made_for other) ready o) (sym (off_other t.making.entries state other apart)) (listed_kept (is_made_for other) doc made_ready (λ x. refl) look.documents (other_made other apart) (lookup (is_state other) t.making.entries) (holds.documents.made other))

  -- placed in this process
  module _ (proc : ProcId) where
    abbrev place : live_place.Place
    place = record { doc = doc; proc = proc; handler = None }

    live_now : (other : StateId) → IsListed (is_live_for other) ready (option_map (λ (p : live_place.Place). p.doc) (lookup (is_state other) (insert_entry is_state t.tree.places state place)))
    live_now other = by_test (state.0 == other.0) refl
      where
        by_test : (b : Bool) → (state.0 == other.0) ≡ b → IsListed (is_live_for other) ready (option_map (λ (p : live_place.Place). p.doc) (lookup (is_state other) (insert_entry is_state t.tree.places state place)))
        by_test true is =
            subst (λ (st : StateId). IsListed (is_live_for st) ready (option_map (λ (p : live_place.Place). p.doc) (lookup (is_state st) (insert_entry is_state t.tree.places state place)))) (state_same state other is) (subst (λ (o : Option live_place.Place). IsListed (is_live_for state) ready (option_map (λ (p : live_place.Place). p.doc) o)) (sym (put_same t.tree.places state place)) (listed_comes (is_live_for state) doc made_ready look.documents d (λ x. refl) found passes_now none_live))
        by_test false apart =
            subst (λ (o : Option live_place.Place). IsListed (is_live_for other) ready (option_map (λ (p : live_place.Place). p.doc) o)) (sym (put_other t.tree.places state other place apart)) (listed_kept (is_live_for other) doc made_ready (λ x. refl) look.documents (other_live other apart) (option_map (λ (p : live_place.Place). p.doc) (document_of other t.tree)) (holds.documents.live other))

    listed_now : AreListed ready (placed state place t.tree) (remove_entry (is_state state) t.making.entries)
    listed_now =
        record {
          live = live_now;
          made = made_then;
          live_once = put_once t.tree.places state place holds.documents.live_once;
          made_once = off_once t.making.entries state holds.documents.made_once;
        }

  tied_ready : (other : NavId) (n : Option Node) (p : Option Place) → AreTied look.documents look.moved other n p → AreTied ready look.moved other n p
  tied_ready other (Some n) (Some p) tied = (
    tied.0,
    record {
      parent = tied.1.parent;
      owner = tied.1.owner;
      status = tied.1.status;
      given = tied.1.given;
      epoch = tied.1.epoch;
      why = tied.1.why;
      moved_is = tied.1.moved_is;
      stands = tied.1.stands;
      unmet = tied.1.unmet;
      added_by = tied.1.added_by;
      destroyed_by = tied.1.destroyed_by;
      home = at_home_kept look.documents doc made_ready p.nav n.nav.told p.status (λ x. refl) (λ x. refl) (λ x. refl) tied.1.home;
    },
  )
  tied_ready other None None tied = tt
  tied_ready other (Some n) None tied = elim tied [ ]
  tied_ready other None (Some p) tied = elim tied [ ]

  pub placed_holds : (u : Tables) → PlacesOne state doc t u → Holds new u
  placed_holds u one =
      record {
        navs = record {
          navs = λ other. subst (λ (x : Tree). AreTied new.documents new.moved other (node_of other x) (place_in new.places other)) (sym one.tree) (subst (λ (l : List Place). AreTied new.documents new.moved other (node_of other t.tree) (place_in l other)) (sym places) (subst (λ (l : List NavId). AreTied new.documents l other (node_of other t.tree) (place_in look.places other)) (sym moved) (subst (λ (l : List Sight). AreTied l look.moved other (node_of other t.tree) (place_in look.places other)) (sym documents) (tied_ready other (node_of other t.tree) (place_in look.places other) (holds.navs.navs other)))));
          order = ap (λ (x : Tree). map (λ (e : NavId × Node). e.0) x.navs) one.tree ∙ holds.navs.order ∙ ap (λ (l : List Place). map (λ (p : Place). p.nav) l) (sym places);
        };
        documents = subst (λ (es : List (StateId × DocId)). AreListed new.documents u.tree es) (sym one.making) (subst (λ (x : Tree). AreListed new.documents x (remove_entry (is_state state) t.making.entries)) (sym one.tree) (subst (λ (l : List Sight). AreListed l (placed state (place one.proc) t.tree) (remove_entry (is_state state) t.making.entries)) (sym documents) (listed_now one.proc)));
        whose = whose_on look.documents t.whose.entries holds.whose new.documents u.whose.entries doc made_ready one.whose documents (λ x. refl) (λ x. refl);
        shown = shown_same order_last look.places t.shown.entries holds.shown new.places u.shown.entries one.shown places;
        last = shown_same doc_last look.places t.last.entries holds.last new.places u.last.entries one.last places;
        history = subst (λ (h : History). SameHistory h new.history) (sym one.history) (subst (λ (h : History). SameHistory (history_held t.store) h) (sym history) holds.history);
        numbered = one.documents ∙ holds.numbered ∙ sym (ap (λ (l : List Sight). length l) documents ∙ length-map look.documents _);
        states = one.states ∙ holds.states ∙ sym states;
        entries = one.entries ∙ holds.entries ∙ sym entries;
        sent = one.sent ∙ holds.sent ∙ ap (λ (n : ℕ). n + 1) (sym jobs);
      }
