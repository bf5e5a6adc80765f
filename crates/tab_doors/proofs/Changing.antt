-- A change is applied: the tables go on standing for the log, once the navigables are changed as it says.
use Rattle.tab_doors.proofs.Holding.{held_changed, listed_tree}
use Rattle.tab_doors.proofs.Nodes.{places_with}
use Rattle.tab_doors.proofs.Requests.{applied_moved, moved_same}
use Rattle.tab_doors.proofs.Sights.{sights_on, sights_same}
use Rattle.tab_doors.specs.Look.{Look, Sight, look_of, moved_by, sight}
use Rattle.tab_doors.proofs.Shown.{doc_last, order_last, shown_map, shown_more}
use Rattle.tab_doors.proofs.Whose.{whose_same}
use Rattle.tab_doors.specs.Ties.{AreHeld, AreListed, AreTied, AreWhose, Holds, IsAwakeAtHome, IsTied}
use Rattle.tab_doors.specs.declared.tables.Tables.{Tables}
use Rattle.log_model.proofs.Refl.{nat_eq_refl}
use Rattle.log_model.specs.After.{after}
use Rattle.log_model.specs.AfterDocuments.{applied_to, told_after_change}
use Rattle.log_model.specs.AfterPlaces.{given_entry, new_place, places_added, places_given, with_taker}
use Rattle.log_model.specs.History.{History, applied, has_nav, has_row}
use Rattle.log_model.specs.Order.{SameHistory}
use Rattle.log_model.specs.Places.{holder_of}
use Rattle.log_model.specs.Seen.{Asked, Document, Place, Seen, place_in, place_of, request_of}
use Rattle.log_model.specs.declared.change.Change.{Change}
use Rattle.log_model.specs.declared.made.Made.{Made}
use Rattle.log_model.specs.declared.row_kind.Actor.{Actor}
use Rattle.nav_tree.specs.Tree.{Tree, child_node, is_nav, node_of, with_nav}
use Rattle.nav_tree.specs.declared.nav.Nav.{Nav}
use Rattle.nav_tree.specs.declared.node.Node.{Node}
use Rattle.std.proofs.Common.{Bool, List, None, Option, Some, [], ap, arith, cond, false, length, map, refl, subst, sym, true, ℕ, ◌&&◌, ◌++◌, ◌+◌, ◌==◌, ◌∙◌, ◌∷◌, ◌≡◌}
use Rattle.std.proofs.lemmas.Bool.Decides.{nat_tests}
use Rattle.std.proofs.lemmas.List.{map-append}
use Rattle.std.specs.Map.{lookup}
use Rattle.step_index.specs.Held.{history_held}
use Rattle.tab_ids.specs.declared.DocId.{DocId}
use Rattle.tab_ids.specs.declared.EntryId.{EntryId}
use Rattle.tab_ids.specs.declared.NavId.{NavId}
use Rattle.tab_ids.specs.declared.ReqId.{ReqId}
use Rattle.tab_ids.specs.declared.StateId.{StateId}
use Rattle.seen_facts.proofs.Walk.Placed.{found_nav}
use Rattle.log_model.specs.declared.change.Change.TheVariants as changes
use Rattle.log_model.specs.declared.row_kind.RowKind.TheVariants as rows
use Rattle.tab_doors.proofs.LookUps.{nav_same}
use Rattle.tab_doors.proofs.Nodes.{keys_with_nav, node_with_nav, on_nav}

-- ---- documents

abbrev pub untold_sight : Sight → Sight
untold_sight d = record d { told = None }

-- an applied push of a document: it was told nothing since
pub pushed_documents : (nav : NavId) (entry : EntryId) (state : StateId) (address : List ℕ) (memo : Option (List ℕ)) (documents : List Document) → map sight (map (λ (d : Document). applied_to (changes.Push nav entry state address memo) (told_after_change d (changes.Push nav entry state address memo))) documents) ≡ sights_on (record { 0 = entry.maker }) untold_sight (map sight documents)
pushed_documents nav entry state address memo [] = refl
pushed_documents nav entry state address memo (d ∷ documents) = by_test (d.nr.0 == entry.maker) refl (pushed_documents nav entry state address memo documents)
  where
    c : Change
    c = changes.Push nav entry state address memo

    by_test : (b : Bool) → (d.nr.0 == entry.maker) ≡ b → map sight (map (λ (x : Document). applied_to (changes.Push nav entry state address memo) (told_after_change x (changes.Push nav entry state address memo))) documents) ≡ sights_on (record { 0 = entry.maker }) untold_sight (map sight documents) → map sight (map (λ (x : Document). applied_to (changes.Push nav entry state address memo) (told_after_change x (changes.Push nav entry state address memo))) (d ∷ documents)) ≡ sights_on (record { 0 = entry.maker }) untold_sight (map sight (d ∷ documents))
    by_test true is rest = rw is (rw is (ap (λ (l : List Sight). untold_sight (sight d) ∷ l) rest))
    by_test false is rest = rw is (rw is (ap (λ (l : List Sight). sight d ∷ l) rest))

pub replaced_documents : (nav : NavId) (over entry : EntryId) (state : StateId) (address : List ℕ) (memo : Option (List ℕ)) (d : Document) → sight (applied_to (changes.Replace nav over entry state address memo) (told_after_change d (changes.Replace nav over entry state address memo))) ≡ sight d
replaced_documents nav over_ entry state address memo d = elim (d.nr.0 == entry.maker) as (λ b. sight (cond b (record d { last_applied = entry.nr }) d) ≡ sight d) [ true ↦ refl | false ↦ refl ]

-- ---- places

-- nobody lost its last entry
pub none_taken : (old new : History) (req : ReqId) (places : List Place) → ((nav : NavId) → has_row nav old.rows ≡ true → has_row nav new.rows ≡ true) → with_taker old new req places ≡ places
none_taken old new req [] keeps = refl
none_taken old new req (p ∷ places) keeps = by_test (has_row p.nav old.rows) refl (none_taken old new req places keeps)
  where
    by_test : (b : Bool) → has_row p.nav old.rows ≡ b → with_taker old new req places ≡ places → with_taker old new req (p ∷ places) ≡ p ∷ places
    by_test true is rest = rw is (rw (keeps p.nav is) (ap (λ (l : List Place). p ∷ l) rest))
    by_test false is rest = rw is (ap (λ (l : List Place). p ∷ l) rest)

-- ---- what a change of the history is to the tables

-- the navigables are changed; nothing was sent or made
pub record Changes (t u : Tables) : Type 0 where
  pub making : u.making.entries ≡ t.making.entries
  pub whose : u.whose.entries ≡ t.whose.entries
  pub shown : u.shown.entries ≡ t.shown.entries
  pub last : u.last.entries ≡ t.last.entries
  pub documents : u.documents ≡ t.documents
  pub sent : length u.sent.items ≡ length t.sent.items
  pub loads : u.loads ≡ t.loads
  pub kept : u.kept ≡ t.kept
  pub checks : u.checks ≡ t.checks
  pub asking : u.asking ≡ t.asking

-- ---- a push or replace: the navigable is given the entry

abbrev pub given_nav : EntryId → Bool → Nav → Nav
given_nav entry pushed n = record n { given = Some entry; told = cond pushed None n.told }

-- what the log comes to with an applied change that gives a navigable an entry, before those are noted that lose their last entries
abbrev pub given_look : Seen → Option ReqId → ℕ → Actor → ReqId → NavId → EntryId → Change → Look
given_look s run event actor req nav entry change =
    record (look_of (after s (record { event = event; actor = actor; row = rows.Applied req change })) run) { places = places_given s req nav entry }

module _ (s : Seen) (run : Option ReqId) (event : ℕ) (actor : Actor) (req : ReqId) (nav : NavId) (entry : EntryId) (t u : Tables) (holds : Holds (look_of s run) t) (one : Changes t u) (made : Made) (q : Asked) (there : request_of s req ≡ Some q) (makes : q.made ≡ Some made) where
  -- one look for both: documents as this says
  module _ (change : Change) (documents : List Sight) (documents_are : map sight (after s (record { event = event; actor = actor; row = rows.Applied req change })).documents ≡ documents) (pushed : Bool) where
    abbrev new : Seen
    new = after s (record { event = event; actor = actor; row = rows.Applied req change })

    -- the same, before those are noted that lost their entries
    abbrev bare : Look
    bare = given_look s run event actor req nav entry change

    abbrev given_place : Place → Place
    given_place p = cond (p.nav.0 == nav.0) (given_entry entry p) p

    given_place_nav : (p : Place) → (given_place p).nav ≡ p.nav
    given_place_nav p = elim (p.nav.0 == nav.0) as (λ b. (let x : Place = cond b (given_entry entry p) p in x).nav ≡ p.nav) [ true ↦ refl | false ↦ refl ]

    given_place_last : (p : Place) → (given_place p).last_job ≡ p.last_job
    given_place_last p = elim (p.nav.0 == nav.0) as (λ b. (let x : Place = cond b (given_entry entry p) p in x).last_job ≡ p.last_job) [ true ↦ refl | false ↦ refl ]

    given_place_doc : (p : Place) → (given_place p).last ≡ p.last
    given_place_doc p = elim (p.nav.0 == nav.0) as (λ b. (let x : Place = cond b (given_entry entry p) p in x).last ≡ p.last) [ true ↦ refl | false ↦ refl ]

    places_are : places_given s req nav entry ≡ map given_place s.places
    places_are = rw there (rw makes refl)

    module _ (homes : (other : NavId) (n : Node) (p : Place) → node_of other t.tree ≡ Some n → place_in s.places other ≡ Some p → p.nav ≡ other → IsTied (map sight s.documents) (moved_by s.requests run) n p → IsAwakeAtHome documents p.nav (cond (nav.0 == other.0 && pushed) None n.nav.told) p.status) where
      tie : (other : NavId) (n : Node) (p : Place) → node_of other t.tree ≡ Some n → place_in s.places other ≡ Some p → p.nav ≡ other → IsTied (map sight s.documents) (moved_by s.requests run) n p → IsTied documents (moved_by s.requests run) (on_nav (given_nav entry pushed) nav other n) (given_place p)
      tie other n p at at_ is tied = by_test (p.nav.0 == nav.0) refl
        where
          turned : (b : Bool) → (p.nav.0 == nav.0) ≡ b → (nav.0 == other.0) ≡ b
          turned true t_ = let navs : p.nav ≡ nav = nav_same p.nav nav t_ in rw (sym navs ∙ is) (nat_eq_refl other.0)
          turned false t_ = let test : (other.0 == nav.0) ≡ false = subst (λ (m : NavId). (m.0 == nav.0) ≡ false) is t_ in grind (arith, nat_tests, test)

          home_ : (b : Bool) → (nav.0 == other.0) ≡ b → IsAwakeAtHome documents p.nav (cond (b && pushed) None n.nav.told) p.status
          home_ b e = subst (λ (c : Bool). IsAwakeAtHome documents p.nav (cond (c && pushed) None n.nav.told) p.status) e (homes other n p at at_ is tied)

          by_test : (b : Bool) → (p.nav.0 == nav.0) ≡ b → IsTied documents (moved_by s.requests run) (on_nav (given_nav entry pushed) nav other n) (given_place p)
          by_test true t_ =
              rw (turned true t_) (rw t_ (record {
                parent = tied.parent;
                owner = tied.owner;
                status = tied.status;
                given = refl;
                epoch = tied.epoch;
                why = tied.why;
                moved_is = tied.moved_is;
                stands = tied.stands;
                unmet = tied.unmet;
                added_by = tied.added_by;
                destroyed_by = tied.destroyed_by;
                home = home_ true (turned true t_);
              }))
          by_test false t_ =
              rw (turned false t_) (rw t_ (record {
                parent = tied.parent;
                owner = tied.owner;
                status = tied.status;
                given = tied.given;
                epoch = tied.epoch;
                why = tied.why;
                moved_is = tied.moved_is;
                stands = tied.stands;
                unmet = tied.unmet;
                added_by = tied.added_by;
                destroyed_by = tied.destroyed_by;
                home = home_ false (turned false t_);
              }))

      pub given_holds : AreListed documents t.tree t.making.entries → AreWhose documents t.whose.entries → length documents ≡ length (map sight s.documents) → u.tree ≡ with_nav (given_nav entry pushed) nav t.tree → SameHistory (history_held u.store) (applied s.history change) → new.history ≡ applied s.history change → u.states ≡ new.states → u.entries ≡ new.entries → Holds bare u
      given_holds listed whose long tree history its states entries =
          record {
            navs = subst (λ (x : Tree). AreHeld bare x) (sym tree) (subst (λ (l : List Sight). AreHeld (record bare { documents = l }) (with_nav (given_nav entry pushed) nav t.tree)) (sym documents_are) (subst (λ (l : List NavId). AreHeld (record bare { documents = documents; moved = l }) (with_nav (given_nav entry pushed) nav t.tree)) (sym (moved_same s.requests new.requests run (applied_moved s event actor req change))) (held_changed (look_of s run) (record bare { documents = documents; moved = moved_by s.requests run }) t.tree (with_nav (given_nav entry pushed) nav t.tree) (on_nav (given_nav entry pushed) nav) given_place (λ other. node_with_nav (given_nav entry pushed) nav other t.tree) (keys_with_nav (given_nav entry pushed) nav t.tree) given_place_nav places_are tie holds.navs)));
            documents = subst (λ (es : List (StateId × DocId)). AreListed (map sight new.documents) u.tree es) (sym one.making) (subst (λ (x : Tree). AreListed (map sight new.documents) x t.making.entries) (sym tree) (subst (λ (l : List Sight). AreListed l (with_nav (given_nav entry pushed) nav t.tree) t.making.entries) (sym documents_are) (listed_tree documents t.tree (with_nav (given_nav entry pushed) nav t.tree) t.making.entries (places_with (given_nav entry pushed) nav t.tree) listed)));
            whose = whose_same documents t.whose.entries whose (map sight new.documents) u.whose.entries one.whose documents_are;
            shown = shown_map order_last s.places t.shown.entries holds.shown bare.places u.shown.entries given_place one.shown places_are given_place_nav given_place_last;
            last = shown_map doc_last s.places t.last.entries holds.last bare.places u.last.entries given_place one.last places_are given_place_nav given_place_doc;
            history = subst (λ (h : History). SameHistory (history_held u.store) h) (sym its) history;
            numbered = one.documents ∙ holds.numbered ∙ sym (ap (λ (l : List Sight). length l) documents_are ∙ long);
            states = states;
            entries = entries;
            sent = one.sent ∙ holds.sent;
          }

-- ---- a frame is added

module _ (s : Seen) (run : Option ReqId) (event : ℕ) (actor : Actor) (req : ReqId) (owner : StateId) (nav parent : NavId) (entry : EntryId) (state : StateId) (up : Place) (t u : Tables) (holds : Holds (look_of s run) t) (one : Changes t u) (holder : holder_of owner s.history.rows ≡ Some parent) (up_there : place_of s parent ≡ Some up) (new_nav : place_of s nav ≡ None) (unmoved : has_nav (moved_by s.requests run) nav ≡ false) (keeps_rows : (other : NavId) → has_row other s.history.rows ≡ true → has_row other (applied s.history (changes.AddFrame owner nav entry state)).rows ≡ true) where
  abbrev pub added_new : Seen
  added_new = after s (record { event = event; actor = actor; row = rows.Applied req (changes.AddFrame owner nav entry state) })

  abbrev pub added_tree : Tree
  added_tree = record t.tree { navs = t.tree.navs ++ (nav, child_node parent owner req) ∷ [] }

  up_nav : up.nav ≡ parent
  up_nav = found_nav s.places parent up up_there

  added_places : added_new.places ≡ s.places ++ new_place req nav owner up ∷ []
  added_places = ap (λ (l : List Place). with_taker s.history (applied s.history (changes.AddFrame owner nav entry state)) req l) its ∙ none_taken s.history (applied s.history (changes.AddFrame owner nav entry state)) req (s.places ++ new_place req nav owner up ∷ []) keeps_rows
    where
      its : places_added s req owner nav ≡ s.places ++ new_place req nav owner up ∷ []
      its = rw holder (rw up_there refl)

  no_node : node_of nav t.tree ≡ None
  no_node = by_node (node_of nav t.tree) (subst (λ (o : Option Place). AreTied (map sight s.documents) (moved_by s.requests run) nav (node_of nav t.tree) o) new_nav (holds.navs.navs nav))
    where
      by_node : (o : Option Node) → AreTied (map sight s.documents) (moved_by s.requests run) nav o None → o ≡ None
      by_node None tied = refl
      by_node (Some n) tied = elim tied [ ]

  -- what is found with one more
  lookup_more : (es : List (NavId × Node)) (other : NavId) (n : Node) → (nav.0 == other.0) ≡ false → lookup (is_nav other) (es ++ (nav, n) ∷ []) ≡ lookup (is_nav other) es
  lookup_more [] other n apart = let turned : (other.0 == nav.0) ≡ false = grind (arith, nat_tests, apart) in rw turned refl
  lookup_more (e ∷ es) other n apart = ap (λ (o : Option Node). cond (is_nav other e.0) (Some e.1) o) (lookup_more es other n apart)

  lookup_last : (es : List (NavId × Node)) (n : Node) → lookup (is_nav nav) es ≡ None → lookup (is_nav nav) (es ++ (nav, n) ∷ []) ≡ Some n
  lookup_last [] n none = rw (nat_eq_refl nav.0) refl
  lookup_last (e ∷ es) n none = by_test (is_nav nav e.0) none (lookup_last es n)
    where
      by_test : (b : Bool) → (let o : Option Node = cond b (Some e.1) (lookup (is_nav nav) es) in o) ≡ None → (lookup (is_nav nav) es ≡ None → lookup (is_nav nav) (es ++ (nav, n) ∷ []) ≡ Some n) → cond b (Some e.1) (lookup (is_nav nav) (es ++ (nav, n) ∷ [])) ≡ Some n
      by_test true is more = cc
      by_test false is more = more is

  place_more : (places : List Place) (other : NavId) (p : Place) → (p.nav.0 == other.0) ≡ false → place_in (places ++ p ∷ []) other ≡ place_in places other
  place_more [] other p apart = rw apart refl
  place_more (x ∷ places) other p apart = ap (λ (o : Option Place). cond (x.nav.0 == other.0) (Some x) o) (place_more places other p apart)

  place_last : (places : List Place) (p : Place) → place_in places p.nav ≡ None → place_in (places ++ p ∷ []) p.nav ≡ Some p
  place_last [] p none = rw (nat_eq_refl p.nav.0) refl
  place_last (x ∷ places) p none = by_test (x.nav.0 == p.nav.0) none (place_last places p)
    where
      by_test : (b : Bool) → (let o : Option Place = cond b (Some x) (place_in places p.nav) in o) ≡ None → (place_in places p.nav ≡ None → place_in (places ++ p ∷ []) p.nav ≡ Some p) → cond b (Some x) (place_in (places ++ p ∷ []) p.nav) ≡ Some p
      by_test true is more = cc
      by_test false is more = more is

  child : IsTied (map sight s.documents) (moved_by s.requests run) (child_node parent owner req) (new_place req nav owner up)
  child =
      record {
        parent = ap (λ (n : NavId). let o : Option NavId = Some n in o) (sym up_nav);
        owner = refl;
        status = refl;
        given = refl;
        epoch = refl;
        why = refl;
        moved_is = sym unmoved;
        stands = λ awakes. cc;
        unmet = refl;
        added_by = refl;
        destroyed_by = refl;
        home = tt;
      }

  tied_now : (other : NavId) → AreTied (map sight s.documents) (moved_by s.requests run) other (lookup (is_nav other) (t.tree.navs ++ (nav, child_node parent owner req) ∷ [])) (place_in (s.places ++ new_place req nav owner up ∷ []) other)
  tied_now other = by_test (nav.0 == other.0) refl
    where
      by_test : (b : Bool) → (nav.0 == other.0) ≡ b → AreTied (map sight s.documents) (moved_by s.requests run) other (lookup (is_nav other) (t.tree.navs ++ (nav, child_node parent owner req) ∷ [])) (place_in (s.places ++ new_place req nav owner up ∷ []) other)
      by_test true is =
          subst (λ (m : NavId). AreTied (map sight s.documents) (moved_by s.requests run) m (lookup (is_nav m) (t.tree.navs ++ (nav, child_node parent owner req) ∷ [])) (place_in (s.places ++ new_place req nav owner up ∷ []) m)) (nav_same nav other is) (subst (λ (o : Option Node). AreTied (map sight s.documents) (moved_by s.requests run) nav o (place_in (s.places ++ new_place req nav owner up ∷ []) nav)) (sym (lookup_last t.tree.navs (child_node parent owner req) no_node)) (subst (λ (o : Option Place). AreTied (map sight s.documents) (moved_by s.requests run) nav (Some (child_node parent owner req)) o) (sym (place_last s.places (new_place req nav owner up) new_nav)) (refl, child)))
      by_test false apart =
          subst (λ (o : Option Node). AreTied (map sight s.documents) (moved_by s.requests run) other o (place_in (s.places ++ new_place req nav owner up ∷ []) other)) (sym (lookup_more t.tree.navs other (child_node parent owner req) apart)) (subst (λ (o : Option Place). AreTied (map sight s.documents) (moved_by s.requests run) other (node_of other t.tree) o) (sym (place_more s.places other (new_place req nav owner up) apart)) (holds.navs.navs other))

  held : AreHeld (record (look_of s run) { places = s.places ++ new_place req nav owner up ∷ [] }) added_tree
  held =
      record {
        navs = tied_now;
        order = map-append (λ (e : NavId × Node). e.0) t.tree.navs ((nav, child_node parent owner req) ∷ []) ∙ ap (λ (l : List NavId). l ++ nav ∷ []) holds.navs.order ∙ sym (map-append (λ (p : Place). p.nav) s.places (new_place req nav owner up ∷ []));
      }

  same_documents : map sight added_new.documents ≡ map sight s.documents
  same_documents = sights_same (λ (d : Document). applied_to (changes.AddFrame owner nav entry state) (told_after_change d (changes.AddFrame owner nav entry state))) (λ d. refl) s.documents

  pub added_holds : u.tree ≡ added_tree → SameHistory (history_held u.store) (applied s.history (changes.AddFrame owner nav entry state)) → u.states ≡ s.states + 1 → u.entries ≡ s.entries + 1 → Holds (look_of added_new run) u
  added_holds tree history states entries =
      record {
        navs = subst (λ (x : Tree). AreHeld (look_of added_new run) x) (sym tree) (subst (λ (l : List Sight). AreHeld (record (look_of added_new run) { documents = l }) added_tree) (sym same_documents) (subst (λ (l : List NavId). AreHeld (record (look_of added_new run) { documents = map sight s.documents; moved = l }) added_tree) (sym (moved_same s.requests added_new.requests run (applied_moved s event actor req (changes.AddFrame owner nav entry state)))) (record {
          navs = λ other. subst (λ (l : List Place). AreTied (map sight s.documents) (moved_by s.requests run) other (node_of other added_tree) (place_in l other)) (sym added_places) (held.navs other);
          order = held.order ∙ ap (λ (l : List Place). map (λ (p : Place). p.nav) l) (sym added_places);
        })));
        documents = subst (λ (es : List (StateId × DocId)). AreListed (map sight added_new.documents) u.tree es) (sym one.making) (subst (λ (x : Tree). AreListed (map sight added_new.documents) x t.making.entries) (sym tree) (subst (λ (l : List Sight). AreListed l added_tree t.making.entries) (sym same_documents) (listed_tree (map sight s.documents) t.tree added_tree t.making.entries refl holds.documents)));
        whose = whose_same (map sight s.documents) t.whose.entries holds.whose (map sight added_new.documents) u.whose.entries one.whose same_documents;
        shown = shown_more order_last s.places t.shown.entries holds.shown added_new.places u.shown.entries (new_place req nav owner up) one.shown added_places refl;
        last = shown_more doc_last s.places t.last.entries holds.last added_new.places u.last.entries (new_place req nav owner up) one.last added_places refl;
        history = history;
        numbered = one.documents ∙ holds.numbered ∙ sym (ap (λ (l : List Sight). length l) same_documents);
        states = states;
        entries = entries;
        sent = one.sent ∙ holds.sent;
      }
