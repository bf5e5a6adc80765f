-- The navigables that lose their last entries to a change are noted: the tables go on standing for the log.
use Rattle.tab_doors.proofs.Changing.{Changes}
use Rattle.tab_doors.proofs.Destroying.{lost_are}
use Rattle.tab_doors.proofs.EndLaws.{destroyed_if, history_holds, keys_destroyed, node_destroyed, places_destroyed}
use Rattle.tab_doors.proofs.Requests.{applied_moved, moved_same}
use Rattle.tab_doors.proofs.Sights.{sights_same}
use Rattle.tab_doors.proofs.Holding.{held_changed, listed_tree}
use Rattle.tab_doors.proofs.Shown.{doc_last, order_last, shown_map}
use Rattle.tab_doors.proofs.Whose.{whose_same}
use Rattle.tab_doors.specs.Dues.{KeepsRows, SeesRows, has_any, lost_of}
use Rattle.tab_doors.specs.Ending.{destroy_all}
use Rattle.tab_doors.specs.Look.{Look, look_of, sight}
use Rattle.tab_doors.specs.Ties.{AreHeld, AreListed, Holds, IsTied}
use Rattle.tab_doors.specs.declared.tables.Tables.{Tables}
use Rattle.log_model.specs.After.{after}
use Rattle.log_model.specs.AfterDocuments.{applied_to, told_after_change}
use Rattle.log_model.specs.AfterPlaces.{with_taker}
use Rattle.log_model.specs.History.{History, applied, has_nav, has_row}
use Rattle.log_model.specs.Order.{SameHistory}
use Rattle.log_model.specs.Seen.{Document, Place, Seen, place_in}
use Rattle.log_model.specs.declared.change.Change.{Change}
use Rattle.log_model.specs.declared.change.Change.TheVariants as changes
use Rattle.log_model.specs.declared.row_kind.Actor.{Actor}
use Rattle.log_model.specs.declared.row_kind.RowKind.TheVariants as rows
use Rattle.apply_plan.specs.Order.{made_in}
use Rattle.nav_tree.specs.Tree.{Tree, node_of}
use Rattle.nav_tree.specs.declared.node.Node.{Node}
use Rattle.std.proofs.Common.{Bool, List, Option, Some, [], ap, cond, false, map, not, refl, subst, sym, true, ℕ, ◌&&◌, ◌∙◌, ◌≡◌}
use Rattle.step_index.specs.declared.step_index.StepIndex.{StepIndex}
use Rattle.step_index.specs.Held.{history_held}
use Rattle.tab_ids.specs.declared.DocId.{DocId}
use Rattle.tab_ids.specs.declared.NavId.{NavId}
use Rattle.tab_ids.specs.declared.ReqId.{ReqId}
use Rattle.tab_ids.specs.declared.StateId.{StateId}

module _ (look : Look) (t u : Tables) (old new : History) (req : ReqId) (navs : List NavId) (holds : Holds look t) (are : (other : NavId) → has_nav navs other ≡ (has_row other old.rows && not (has_row other new.rows))) where
  abbrev taken_place : Place → Place
  taken_place p = cond (has_row p.nav old.rows && not (has_row p.nav new.rows)) (record p { taken_by = Some req }) p

  -- what the log has come to, with those noted
  abbrev pub taken_look : Look
  taken_look = record look { places = with_taker old new req look.places }

  taken_nav : (p : Place) → (taken_place p).nav ≡ p.nav
  taken_nav p = elim (has_row p.nav old.rows && not (has_row p.nav new.rows)) as (λ b. (let x : Place = cond b (record p { taken_by = Some req }) p in x).nav ≡ p.nav) [ true ↦ refl | false ↦ refl ]

  taken_order : (p : Place) → (taken_place p).last_job ≡ p.last_job
  taken_order p = elim (has_row p.nav old.rows && not (has_row p.nav new.rows)) as (λ b. (let x : Place = cond b (record p { taken_by = Some req }) p in x).last_job ≡ p.last_job) [ true ↦ refl | false ↦ refl ]

  taken_doc : (p : Place) → (taken_place p).last ≡ p.last
  taken_doc p = elim (has_row p.nav old.rows && not (has_row p.nav new.rows)) as (λ b. (let x : Place = cond b (record p { taken_by = Some req }) p in x).last ≡ p.last) [ true ↦ refl | false ↦ refl ]

  taken_tie : (other : NavId) (n : Node) (p : Place) → node_of other t.tree ≡ Some n → place_in look.places other ≡ Some p → p.nav ≡ other → IsTied look.documents look.moved n p → IsTied look.documents look.moved (destroyed_if navs req other n) (taken_place p)
  taken_tie other n p at at_ is tied = by_test (has_nav navs other) refl
    where
      mine : (b : Bool) → has_nav navs other ≡ b → (has_row p.nav old.rows && not (has_row p.nav new.rows)) ≡ b
      mine b e = ap (λ (m : NavId). has_row m old.rows && not (has_row m new.rows)) is ∙ sym (are other) ∙ e

      by_test : (b : Bool) → has_nav navs other ≡ b → IsTied look.documents look.moved (destroyed_if navs req other n) (taken_place p)
      by_test true e =
          rw e (rw (mine true e) (record {
            parent = tied.parent;
            owner = tied.owner;
            status = tied.status;
            given = tied.given;
            epoch = tied.epoch;
            why = tied.why;
            moved_is = tied.moved_is;
            stands = tied.stands;
            unmet = tied.unmet;
            added_by = tied.added_by;
            destroyed_by = refl;
            home = tied.home;
          }))
      by_test false e = rw e (rw (mine false e) tied)

  pub taken_holds : u.tree ≡ destroy_all navs req t.tree → Changes t u → history_held u.store ≡ history_held t.store → u.states ≡ t.states → u.entries ≡ t.entries → Holds taken_look u
  taken_holds tree one history states entries =
      record {
        navs = subst (λ (x : Tree). AreHeld taken_look x) (sym tree) (held_changed look taken_look t.tree (destroy_all navs req t.tree) (destroyed_if navs req) taken_place (λ other. node_destroyed navs req other t.tree) (keys_destroyed navs req t.tree) taken_nav refl taken_tie holds.navs);
        documents = subst (λ (es : List (StateId × DocId)). AreListed look.documents u.tree es) (sym one.making) (subst (λ (x : Tree). AreListed look.documents x t.making.entries) (sym tree) (listed_tree look.documents t.tree (destroy_all navs req t.tree) t.making.entries (places_destroyed navs req t.tree) holds.documents));
        whose = whose_same look.documents t.whose.entries holds.whose look.documents u.whose.entries one.whose refl;
        shown = shown_map order_last look.places t.shown.entries holds.shown taken_look.places u.shown.entries taken_place one.shown refl taken_nav taken_order;
        last = shown_map doc_last look.places t.last.entries holds.last taken_look.places u.last.entries taken_place one.last refl taken_nav taken_doc;
        history = subst (λ (h : History). SameHistory h look.history) (sym history) holds.history;
        numbered = one.documents ∙ holds.numbered;
        states = states ∙ holds.states;
        entries = entries ∙ holds.entries;
        sent = one.sent ∙ holds.sent;
      }

-- ---- who loses its last entries

-- nobody does, where each navigable that had a row has one
pub none_lost : (s : Seen) (change : Change) → KeepsRows s change → (other : NavId) → has_nav [] other ≡ (has_row other s.history.rows && not (has_row other (applied s.history change).rows))
none_lost s change keeps other = by_test (has_row other s.history.rows) refl
  where
    by_test : (b : Bool) → has_row other s.history.rows ≡ b → false ≡ (has_row other s.history.rows && not (has_row other (applied s.history change).rows))
    by_test true is = rw is (rw (keeps other is) refl)
    by_test false is = rw is refl

-- those do that the tables find
pub lost_seen : (s : Seen) (change : Change) (run : Option ReqId) (t : Tables) → Holds (look_of s run) t → SeesRows s change → (other : NavId) → has_nav (lost_of s.history.rows (applied s.history change).rows (made_in t.tree)) other ≡ (has_row other s.history.rows && not (has_row other (applied s.history change).rows))
lost_seen s change run t holds sees other =
    lost_are (has_any s.history.rows) (has_any (applied s.history change).rows) (made_in t.tree) other (λ is. ap (λ (l : List NavId). has_nav l other) holds.navs.order ∙ sees.placed other (sees.before other ∙ is))
    ∙ ap (λ (b : Bool). b && not (has_any (applied s.history change).rows other)) (sym (sees.before other))
    ∙ ap (λ (b : Bool). has_row other s.history.rows && not b) (sym (sees.then_ other))

-- ---- a frame is removed

module _ (s : Seen) (run : Option ReqId) (event : ℕ) (actor : Actor) (req : ReqId) (nav : NavId) (t : Tables) (holds : Holds (look_of s run) t) (store : StepIndex) (lost : List NavId) (are : (other : NavId) → has_nav lost other ≡ (has_row other s.history.rows && not (has_row other (applied s.history (changes.RemoveFrame nav)).rows))) where
  abbrev pub removed_new : Seen
  removed_new = after s (record { event = event; actor = actor; row = rows.Applied req (changes.RemoveFrame nav) })

  -- the places, before those are noted that lost their entries
  abbrev removed_look : Look
  removed_look = record (look_of removed_new run) { places = s.places }

  removed_documents : map sight removed_new.documents ≡ map sight s.documents
  removed_documents = sights_same (λ (d : Document). applied_to (changes.RemoveFrame nav) (told_after_change d (changes.RemoveFrame nav))) (λ d. refl) s.documents

  changes_one : Changes t (record t { store = store })
  changes_one = record { making = refl; whose = refl; shown = refl; last = refl; documents = refl; sent = refl; loads = refl; kept = refl; checks = refl; asking = refl }

  bare_holds : SameHistory (history_held store) (applied s.history (changes.RemoveFrame nav)) → Holds removed_look (record t { store = store })
  bare_holds history =
      history_holds (look_of s run) removed_look t (record t { store = store }) removed_documents refl (moved_same s.requests removed_new.requests run (applied_moved s event actor req (changes.RemoveFrame nav))) refl holds.states holds.entries refl changes_one history holds

  pub removed_holds : SameHistory (history_held store) (applied s.history (changes.RemoveFrame nav)) → Holds (look_of removed_new run) (record t { store = store; tree = destroy_all lost req t.tree })
  removed_holds history =
      taken_holds removed_look (record t { store = store }) (record t { store = store; tree = destroy_all lost req t.tree }) s.history (applied s.history (changes.RemoveFrame nav)) req lost (bare_holds history) are refl (record { making = refl; whose = refl; shown = refl; last = refl; documents = refl; sent = refl; loads = refl; kept = refl; checks = refl; asking = refl }) refl refl refl
