-- A document is frozen, and its navigable falls asleep with those below it: the tables go on standing for the log.
use Rattle.tab_doors.proofs.Holding.{listed_tree}
use Rattle.tab_doors.proofs.Nodes.{places_asleep}
use Rattle.tab_doors.proofs.Requests.{moved_for}
use Rattle.tab_doors.proofs.Shown.{doc_last, order_last, shown_map}
use Rattle.tab_doors.proofs.Sights.{sights_same, unseen_at}
use Rattle.tab_doors.proofs.Slept.{slept_doc, slept_held, slept_last, slept_nav, slept_place}
use Rattle.tab_doors.proofs.Telling.{SendsOne}
use Rattle.tab_doors.proofs.Whose.{whose_same}
use Rattle.tab_doors.specs.Look.{Look, Sight, look_of, sight}
use Rattle.tab_doors.specs.Orders.{next_order}
use Rattle.tab_doors.specs.Sleeping.{is_for, sleep_all}
use Rattle.tab_doors.specs.Ties.{AreHeld, AreListed, Holds, IsRunning}
use Rattle.tab_doors.specs.declared.tables.Tables.{Tables}
use Rattle.log_model.specs.After.{after}
use Rattle.log_model.specs.AfterDocuments.{addressed}
use Rattle.log_model.specs.AfterPlaces.{sleepers_with}
use Rattle.log_model.specs.History.{History, has_nav}
use Rattle.log_model.specs.Order.{SameHistory}
use Rattle.log_model.specs.Seen.{Document, Seen}
use Rattle.log_model.specs.declared.job.Job.{Job}
use Rattle.log_model.specs.declared.job.Why.{Why}
use Rattle.log_model.specs.declared.row_kind.Actor.{Actor}
use Rattle.nav_tree.specs.Tree.{Tree}
use Rattle.std.proofs.Common.{List, Option, ap, arith, cond, length, map, refl, subst, sym, ℕ, ◌+◌, ◌==◌, ◌∙◌, ◌≡◌}
use Rattle.tab_ids.specs.declared.DocId.{DocId}
use Rattle.tab_ids.specs.declared.NavId.{NavId}
use Rattle.tab_ids.specs.declared.ProcId.{ProcId}
use Rattle.tab_ids.specs.declared.ReqId.{ReqId}
use Rattle.tab_ids.specs.declared.StateId.{StateId}
use Rattle.log_model.specs.declared.job.Task.TheVariants as tasks
use Rattle.log_model.specs.declared.row_kind.RowKind.TheVariants as rows

module _ (s : Seen) (run : Option ReqId) (event : ℕ) (actor : Actor) (proc : ProcId) (doc : DocId) (why : Why) (navs : List NavId) (t : Tables) (holds : Holds (look_of s run) t) (runs : IsRunning s.requests run) (are : (other : NavId) → has_nav (sleepers_with s doc) other ≡ has_nav navs other) where
  abbrev pub freeze_job : Job
  freeze_job = next_order s.jobs proc doc why tasks.Freeze

  abbrev pub freeze_new : Seen
  freeze_new = after s (record { event = event; actor = actor; row = rows.Sent freeze_job })

  -- that it is frozen can't be seen
  same_documents : map sight freeze_new.documents ≡ map sight s.documents
  same_documents =
      sights_same (λ (d : Document). cond (d.nr.0 == doc.0) (addressed tasks.Freeze d) d) (unseen_at doc (addressed tasks.Freeze) (λ d. refl)) s.documents

  abbrev pub frozen_tree : Tree
  frozen_tree = sleep_all navs why (is_for run why) t.tree

  -- once the documents are as this says
  abbrev look_same : Look
  look_same = record (look_of freeze_new run) { documents = map sight s.documents }

  held : AreHeld look_same frozen_tree
  held =
      slept_held (look_of s run) look_same navs (sleepers_with s doc) why (is_for run why) t.tree are (moved_for s.requests run why (sleepers_with s doc) runs) (λ nav told status home. home) refl holds.navs

  pub freeze_holds : (u : Tables) → u.tree ≡ frozen_tree → SendsOne t u t.shown.entries t.last.entries → Holds (look_of freeze_new run) u
  freeze_holds u tree one =
      record {
        navs = subst (λ (x : Tree). AreHeld (look_of freeze_new run) x) (sym tree) (subst (λ (l : List Sight). AreHeld (record (look_of freeze_new run) { documents = l }) frozen_tree) (sym same_documents) held);
        documents = subst (λ (es : List (StateId × DocId)). AreListed (map sight freeze_new.documents) u.tree es) (sym one.making) (subst (λ (x : Tree). AreListed (map sight freeze_new.documents) x t.making.entries) (sym tree) (subst (λ (l : List Sight). AreListed l frozen_tree t.making.entries) (sym same_documents) (listed_tree (map sight s.documents) t.tree frozen_tree t.making.entries (places_asleep navs why (is_for run why) t.tree) holds.documents)));
        whose = whose_same (map sight s.documents) t.whose.entries holds.whose (map sight freeze_new.documents) u.whose.entries one.whose same_documents;
        shown = shown_map order_last s.places t.shown.entries holds.shown freeze_new.places u.shown.entries (slept_place (sleepers_with s doc) why) one.shown refl (slept_nav (sleepers_with s doc) why) (slept_last (sleepers_with s doc) why);
        last = shown_map doc_last s.places t.last.entries holds.last freeze_new.places u.last.entries (slept_place (sleepers_with s doc) why) one.last refl (slept_nav (sleepers_with s doc) why) (slept_doc (sleepers_with s doc) why);
        history = subst (λ (h : History). SameHistory h s.history) (sym one.history) holds.history;
        numbered = one.documents ∙ holds.numbered ∙ sym (ap (λ (l : List Sight). length l) same_documents);
        states = one.states ∙ holds.states;
        entries = one.entries ∙ holds.entries;
        sent = let was : length t.sent.items ≡ s.jobs + 1 = holds.sent in let one_more : length u.sent.items ≡ length t.sent.items + 1 = one.sent in omega (arith, one_more, was);
      }
