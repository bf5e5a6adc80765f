-- A document is discarded, and its navigable falls asleep with those below it: the tables go on standing for the log.
use Rattle.nav_tree.specs.declared.place.Place as live_place  -- keep
use Rattle.nav_tree.specs.Tree.{document_of, discarded}  -- keep
use Rattle.tab_doors.proofs.Holding.{at_home_kept}
use Rattle.tab_doors.proofs.Keyed.{off_once, off_other, off_same, state_same}
use Rattle.tab_doors.proofs.Nodes.{places_asleep}
use Rattle.tab_doors.proofs.Requests.{moved_for}
use Rattle.tab_doors.proofs.Shown.{doc_last, order_last, shown_map}
use Rattle.tab_doors.proofs.Sights.{listed_gone, listed_kept, sights_document, sights_on}
use Rattle.tab_doors.proofs.Slept.{slept_doc, slept_held, slept_last, slept_nav, slept_place}
use Rattle.tab_doors.proofs.Telling.{SendsOne}
use Rattle.tab_doors.proofs.Whose.{whose_on}
use Rattle.tab_doors.specs.Look.{Look, Sight, is_live_for, is_made_for, look_of, sight}
use Rattle.tab_doors.specs.Orders.{next_order}
use Rattle.tab_doors.specs.Sleeping.{is_for, sleep_all}
use Rattle.tab_doors.specs.Ties.{AreHeld, AreListed, AreOnceKeyed, Holds, IsListed, IsOneSuch, IsRunning}
use Rattle.tab_doors.specs.declared.tables.Tables.{Tables}
use Rattle.seen_facts.specs.Hang.Members.{Has}
use Rattle.log_model.specs.After.{after}
use Rattle.log_model.specs.AfterPlaces.{sleepers_with}
use Rattle.log_model.specs.History.{History, has_nav}
use Rattle.log_model.specs.Order.{SameHistory}
use Rattle.log_model.specs.Seen.{Document, Seen}
use Rattle.log_model.specs.declared.job.Job.{Job}
use Rattle.log_model.specs.declared.job.Why.{Why}
use Rattle.log_model.specs.declared.row_kind.Actor.{Actor}
use Rattle.nav_tree.specs.Tree.{Tree, is_state}
use Rattle.std.proofs.Common.{Bool, List, Option, Some, ap, arith, false, length, map, not, refl, subst, sym, true, ℕ, ◌&&◌, ◌+◌, ◌==◌, ◌∙◌, ◌≡◌}
use Rattle.std.proofs.lemmas.List.{length-map}
use Rattle.std.specs.Map.{lookup, remove_entry}
use Rattle.std.specs.Prelude.{option_map}
use Rattle.tab_ids.specs.declared.DocId.{DocId}
use Rattle.tab_ids.specs.declared.NavId.{NavId}
use Rattle.tab_ids.specs.declared.ProcId.{ProcId}
use Rattle.tab_ids.specs.declared.ReqId.{ReqId}
use Rattle.tab_ids.specs.declared.StateId.{StateId}
use Rattle.log_model.specs.declared.job.Task.TheVariants as tasks
use Rattle.log_model.specs.declared.row_kind.RowKind.TheVariants as rows

abbrev pub discarded_sight : Sight → Sight
discarded_sight d = record d { is_discarded = true }

module _ (s : Seen) (run : Option ReqId) (event : ℕ) (actor : Actor) (proc : ProcId) (doc : DocId) (why : Why) (state : StateId) (navs : List NavId) (t : Tables) (holds : Holds (look_of s run) t) (runs : IsRunning s.requests run) (are : (other : NavId) → has_nav (sleepers_with s doc) other ≡ has_nav navs other) (its_state : (x : Sight) → Has (map sight s.documents) x → (x.nr.0 == doc.0) ≡ true → x.state ≡ state) (its : option_map (λ (p : live_place.Place). p.doc) (document_of state t.tree) ≡ Some doc) where
  abbrev pub discard_job : Job
  discard_job = next_order s.jobs proc doc why tasks.Discard

  abbrev pub discard_new : Seen
  discard_new = after s (record { event = event; actor = actor; row = rows.Sent discard_job })

  abbrev gone : List Sight
  gone = sights_on doc discarded_sight (map sight s.documents)

  documents_are : map sight discard_new.documents ≡ gone
  documents_are = sights_document doc (λ (x : Document). record x { is_discarded = true }) discarded_sight (λ x. refl) s.documents

  abbrev pub slept_tree : Tree
  slept_tree = sleep_all navs why (is_for run why) (discarded state t.tree)

  -- ---- documents

  never_live : (other : StateId) (x : Sight) → is_live_for other (discarded_sight x) ≡ false
  never_live other x = never_both (x.state.0 == other.0 && x.is_ready) (not x.is_known_dead)
    where
      never_both : (a c : Bool) → (a && false && c) ≡ false
      never_both true c = refl
      never_both false c = refl

  was_live : IsOneSuch (is_live_for state) (map sight s.documents) doc
  was_live = subst (λ (o : Option DocId). IsListed (is_live_for state) (map sight s.documents) o) its (holds.documents.live state)

  live_now : (other : StateId) → IsListed (is_live_for other) gone (option_map (λ (p : live_place.Place). p.doc) (lookup (is_state other) (remove_entry (is_state state) t.tree.places)))
  live_now other = by_test (state.0 == other.0) refl
    where
      by_test : (b : Bool) → (state.0 == other.0) ≡ b → IsListed (is_live_for other) gone (option_map (λ (p : live_place.Place). p.doc) (lookup (is_state other) (remove_entry (is_state state) t.tree.places)))
      by_test true is =
          subst (λ (st : StateId). IsListed (is_live_for st) gone (option_map (λ (p : live_place.Place). p.doc) (lookup (is_state st) (remove_entry (is_state state) t.tree.places)))) (state_same state other is) (subst (λ (o : Option live_place.Place). IsListed (is_live_for state) gone (option_map (λ (p : live_place.Place). p.doc) o)) (sym (off_same t.tree.places state holds.documents.live_once)) (listed_gone (is_live_for state) doc discarded_sight (map sight s.documents) (never_live state) was_live.only))
      by_test false apart =
          subst (λ (o : Option live_place.Place). IsListed (is_live_for other) gone (option_map (λ (p : live_place.Place). p.doc) o)) (sym (off_other t.tree.places state other apart)) (listed_kept (is_live_for other) doc discarded_sight (λ x. refl) (map sight s.documents) (λ x there nr. let is : (x.state.0 == other.0) ≡ false = rw (its_state x there nr) apart in rw is refl) (option_map (λ (p : live_place.Place). p.doc) (document_of other t.tree)) (holds.documents.live other))

  places_are : slept_tree.places ≡ remove_entry (is_state state) t.tree.places
  places_are = places_asleep navs why (is_for run why) (discarded state t.tree)

  listed : AreListed gone slept_tree t.making.entries
  listed =
      record {
        live = λ other. subst (λ (es : List (StateId × live_place.Place)). IsListed (is_live_for other) gone (option_map (λ (p : live_place.Place). p.doc) (lookup (is_state other) es))) (sym places_are) (live_now other);
        made = λ other. listed_kept (is_made_for other) doc discarded_sight (λ x. refl) (map sight s.documents) (λ x there nr. refl) (lookup (is_state other) t.making.entries) (holds.documents.made other);
        live_once = subst (λ (es : List (StateId × live_place.Place)). AreOnceKeyed es) (sym places_are) (off_once t.tree.places state holds.documents.live_once);
        made_once = holds.documents.made_once;
      }

  -- ---- navigables

  -- once the documents are as this says
  abbrev look_gone : Look
  look_gone = record (look_of discard_new run) { documents = gone }

  held : AreHeld look_gone slept_tree
  held =
      slept_held (look_of s run) look_gone navs (sleepers_with s doc) why (is_for run why) (discarded state t.tree) are (moved_for s.requests run why (sleepers_with s doc) runs) (λ nav told status home. at_home_kept (map sight s.documents) doc discarded_sight nav told status (λ x. refl) (λ x. refl) (λ x. refl) home) refl (record { navs = holds.navs.navs; order = holds.navs.order })

  pub discard_holds : (u : Tables) → u.tree ≡ slept_tree → SendsOne t u t.shown.entries t.last.entries → Holds (look_of discard_new run) u
  discard_holds u tree one =
      record {
        navs = subst (λ (x : Tree). AreHeld (look_of discard_new run) x) (sym tree) (subst (λ (l : List Sight). AreHeld (record (look_of discard_new run) { documents = l }) slept_tree) (sym documents_are) held);
        documents = subst (λ (es : List (StateId × DocId)). AreListed (map sight discard_new.documents) u.tree es) (sym one.making) (subst (λ (x : Tree). AreListed (map sight discard_new.documents) x t.making.entries) (sym tree) (subst (λ (l : List Sight). AreListed l slept_tree t.making.entries) (sym documents_are) listed));
        whose = whose_on (map sight s.documents) t.whose.entries holds.whose (map sight discard_new.documents) u.whose.entries doc discarded_sight one.whose documents_are (λ x. refl) (λ x. refl);
        shown = shown_map order_last s.places t.shown.entries holds.shown discard_new.places u.shown.entries (slept_place (sleepers_with s doc) why) one.shown refl (slept_nav (sleepers_with s doc) why) (slept_last (sleepers_with s doc) why);
        last = shown_map doc_last s.places t.last.entries holds.last discard_new.places u.last.entries (slept_place (sleepers_with s doc) why) one.last refl (slept_nav (sleepers_with s doc) why) (slept_doc (sleepers_with s doc) why);
        history = subst (λ (h : History). SameHistory h s.history) (sym one.history) holds.history;
        numbered = one.documents ∙ holds.numbered ∙ sym (ap (λ (l : List Sight). length l) documents_are ∙ length-map (map sight s.documents) _);
        states = one.states ∙ holds.states;
        entries = one.entries ∙ holds.entries;
        sent = let was : length t.sent.items ≡ s.jobs + 1 = holds.sent in let one_more : length u.sent.items ≡ length t.sent.items + 1 = one.sent in omega (arith, one_more, was);
      }
