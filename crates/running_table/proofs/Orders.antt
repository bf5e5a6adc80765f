-- The table goes on to say what a log has come to, as a document has done an order.
use Rattle.std.proofs.Common.{◌≡◌, ℕ, Bool, true, false, cond, ◌&&◌, ◌==◌, List, Option, Some, None, refl, sym, ap, ◌∙◌, subst}
use Rattle.std.specs.Prelude.{option_and_then, option_map, if◌then◌else◌}
use Rattle.tab_ids.specs.declared.DocId.{DocId}
use Rattle.tab_ids.specs.declared.EntryId.{EntryId}
use Rattle.tab_ids.specs.declared.Epoch.{Epoch}
use Rattle.tab_ids.specs.declared.JobId.{JobId}
use Rattle.tab_ids.specs.declared.NavId.{NavId}
use Rattle.tab_ids.specs.declared.ProcId.{ProcId}
use Rattle.tab_ids.specs.declared.ReqId.{ReqId}
use Rattle.log_model.specs.declared.job.Job.{Job}
use Rattle.log_model.specs.declared.job.Task.{Task}
use Rattle.log_model.specs.declared.job.Task.TheVariants as tasks
use Rattle.log_model.specs.declared.request.Mode.{Mode}
use Rattle.log_model.specs.declared.outcome.Outcome.{Outcome}
use Rattle.log_model.specs.declared.outcome.Outcome.TheVariants as outcomes
use Rattle.log_model.specs.declared.row_kind.Actor.{Actor}
use Rattle.log_model.specs.declared.row_kind.RowKind.TheVariants as rows
use Rattle.log_model.specs.After.{after}
use Rattle.log_model.specs.AfterDocuments.{documents_finished, on_document, slot_finished, task_in_hand, view_finished}
use Rattle.log_model.specs.Seen.{Seen, Document}
use Rattle.log_model.specs.Views.{View, after_task}
use Rattle.running_table.specs.Runners.{RunnersState, Keeps, Leaves, Places, Shows, Stops, is_that, nav_at}
use Rattle.running_table.specs.Telling.{AreRunners, AreRunnersOf, GoesWith, MayBeDone, found, running_under, there_in, there_of, under_in}
use Rattle.running_table.proofs.Newest.{same_doc}
use Rattle.running_table.proofs.Readers.{AreAlike, IsAs, alike_itself, kept_said, one_alike, read_on, runs_on, still_said, whose_on}

-- the document once it has done a task
abbrev pub done : Task → Document → Document
done task d = record d { view = view_finished d task }

-- ---- an order changes nothing of what the table says, but for four tasks

-- a task that changes the view, but neither whether it runs nor its epoch
pub view_as : (d : Document) (now : View → View) → ((v : View) → (now v).running ≡ v.running) → ((v : View) → (now v).epoch ≡ v.epoch) → IsAs d (record d { view = option_map now d.view })
view_as d now running epoch =
    record { nr = refl; there = there d.view; runs = λ nav. runs nav d.view }
  where
    there : (view : Option View) → there_in d.nav (option_map now view) ≡ there_in d.nav view
    there None = refl
    there (Some v) = refl

    runs : (nav : NavId) (view : Option View) → under_in d.nav nav (option_map now view) ≡ under_in d.nav nav view
    runs nav None = refl
    runs nav (Some v) = rw (running v, epoch v) refl

-- ---- what an order makes of a view

-- it runs under this epoch, where it is there
abbrev pub show_view : EntryId → Epoch → ℕ → ℕ → Option (List ℕ) → List ℕ → View → View
show_view entry epoch length index memo address view =
    after_task view (tasks.Activate entry epoch length index memo address)

abbrev pub stop_view : View → View
stop_view view = after_task view tasks.Freeze

there_mapped : (own : NavId) (now : View → View) (view : Option View) → there_in own (option_map now view) ≡ there_in own view
there_mapped own now None = refl
there_mapped own now (Some v) = refl

none_under : (own nav : NavId) → under_in own nav None ≡ None
none_under own nav = by_test (own.0 == nav.0)
  where
    by_test : (b : Bool) → (if b && false then (let o : Option Epoch = None in o) else None) ≡ None
    by_test true = refl
    by_test false = refl

shown_under : (own nav : NavId) (now : View → View) (epoch : Epoch) → ((v : View) → (now v).running ≡ true) → ((v : View) → (now v).epoch ≡ epoch) → (view : Option View) → under_in own nav (option_map now view) ≡ cond (is_that (there_in own view) nav) (Some epoch) None
shown_under own nav now epoch runs is None = none_under own nav
shown_under own nav now epoch runs is (Some v) = rw (runs v, is v) (by_test (own.0 == nav.0))
  where
    by_test : (b : Bool) → (if b && true then Some epoch else None) ≡ cond b (Some epoch) None
    by_test true = refl
    by_test false = refl

stopped_under : (own nav : NavId) (now : View → View) → ((v : View) → (now v).running ≡ false) → (view : Option View) → under_in own nav (option_map now view) ≡ cond (is_that (there_in own view) nav) None None
stopped_under own nav now stops None = none_under own nav
stopped_under own nav now stops (Some v) = rw (stops v) (by_test (own.0 == nav.0))
  where
    by_test : (b : Bool) → (if b && false then Some (now v).epoch else None) ≡ cond b (let o : Option Epoch = None in o) None
    by_test true = refl
    by_test false = refl

gone_under : (own nav : NavId) (view : Option View) → under_in own nav None ≡ cond (is_that (there_in own view) nav) None None
gone_under own nav view = none_under own nav ∙ by_test (is_that (there_in own view) nav)
  where
    by_test : (b : Bool) → (let o : Option Epoch = None in o) ≡ cond b None None
    by_test true = refl
    by_test false = refl

-- ---- an order that shows a document, stops it or takes it away

module _ (documents : List Document) (of : DocId) (f : Document → Document) (t t2 : RunnersState) (are : AreRunnersOf documents t) (nr : (d : Document) → (f d).nr.0 ≡ d.nr.0) where
  -- it is there as before
  stay_there : ((d : Document) → there_of (f d) ≡ there_of d) → option_and_then (λ (d : Document). there_of (f d)) (found documents of) ≡ option_and_then there_of (found documents of)
  stay_there same = by_found (found documents of)
    where
      by_found : (o : Option Document) → option_and_then (λ (d : Document). there_of (f d)) o ≡ option_and_then there_of o
      by_found None = refl
      by_found (Some d) = same d

  staying : ((d : Document) → there_of (f d) ≡ there_of d) → ((doc : DocId) → nav_at t2 doc ≡ nav_at t doc) → (doc : DocId) → nav_at t2 doc ≡ option_and_then there_of (found (on_document of f documents) doc)
  staying same stays doc =
      stays doc ∙ (are.whose doc ∙ (sym (by_test (of.0 == doc.0) refl) ∙ sym (read_on documents of f nr there_of doc)))
    where
      by_test : (b : Bool) → (of.0 == doc.0) ≡ b → cond b (option_and_then (λ (d : Document). there_of (f d)) (found documents of)) (option_and_then there_of (found documents doc)) ≡ option_and_then there_of (found documents doc)
      by_test true e =
          stay_there same ∙ ap (λ (x : DocId). option_and_then there_of (found documents x)) (same_doc of doc e)
      by_test false e = refl

  pub shown_said : (epoch : Epoch) → ((d : Document) → there_of (f d) ≡ there_of d) → ((nav : NavId) (d : Document) → running_under nav (f d) ≡ cond (is_that (there_of d) nav) (Some epoch) None) → Shows of epoch t t2 → AreRunnersOf (on_document of f documents) t2
  shown_said epoch same turns shows =
      record { whose = staying same shows.there; runs = runs_on documents of f nr t t2 (Some epoch) are turns shows.runs }

  pub stopped_said : ((d : Document) → there_of (f d) ≡ there_of d) → ((nav : NavId) (d : Document) → running_under nav (f d) ≡ cond (is_that (there_of d) nav) None None) → Stops of t t2 → AreRunnersOf (on_document of f documents) t2
  stopped_said same turns stops =
      record { whose = staying same stops.there; runs = runs_on documents of f nr t t2 None are turns stops.runs }

  pub left_said : ((d : Document) → there_of (f d) ≡ None) → ((nav : NavId) (d : Document) → running_under nav (f d) ≡ cond (is_that (there_of d) nav) None None) → Leaves of t t2 → AreRunnersOf (on_document of f documents) t2
  left_said gone turns leaves =
      record {
        whose = whose_on documents of f nr t t2 None are.whose (by_found (found documents of)) leaves.there;
        runs = runs_on documents of f nr t t2 None are turns leaves.runs;
      }
    where
      by_found : (o : Option Document) → option_and_then (λ (d : Document). there_of (f d)) o ≡ None
      by_found None = refl
      by_found (Some d) = gone d

  -- a document that had no view is made, of this navigable, and doesn't run yet
  pub made_said : (d : Document) (nav : NavId) → found documents of ≡ Some d → d.view ≡ None → there_of (f d) ≡ Some nav → ((n : NavId) → running_under n (f d) ≡ None) → Places of nav t t2 → AreRunnersOf (on_document of f documents) t2
  made_said d nav known unseen there stopped places =
      record {
        whose = whose_on documents of f nr t t2 (Some nav) are.whose (ap (option_and_then (λ (x : Document). there_of (f x))) known ∙ there) places.there;
        runs = λ n doc. places.runs n doc ∙ (are.runs n doc ∙ (sym (by_test n doc (of.0 == doc.0) refl) ∙ sym (read_on documents of f nr (running_under n) doc)));
      }
    where
      by_test : (n : NavId) (doc : DocId) (b : Bool) → (of.0 == doc.0) ≡ b → cond b (option_and_then (λ (x : Document). running_under n (f x)) (found documents of)) (option_and_then (running_under n) (found documents doc)) ≡ option_and_then (running_under n) (found documents doc)
      by_test n doc true e =
          let before : option_and_then (running_under n) (found documents of) ≡ None = ap (option_and_then (running_under n)) known ∙ (ap (under_in d.nav n) unseen ∙ none_under d.nav n) in
          let now : option_and_then (λ (x : Document). running_under n (f x)) (found documents of) ≡ None = ap (option_and_then (λ (x : Document). running_under n (f x))) known ∙ stopped n in
          now ∙ (sym before ∙ ap (λ (x : DocId). option_and_then (running_under n) (found documents x)) (same_doc of doc e))
      by_test n doc false e = refl

-- ---- by the task

fresh_under : (own nav : NavId) (epoch : Epoch) (b : Bool) → (if b && false then Some epoch else None) ≡ None
fresh_under own nav epoch true = refl
fresh_under own nav epoch false = refl

kept_on : (documents : List Document) (of : DocId) (f : Document → Document) (t t2 : RunnersState) → AreRunnersOf documents t → ((d : Document) → IsAs d (f d)) → Keeps t t2 → AreRunnersOf (on_document of f documents) t2
kept_on documents of f t t2 are is keeps =
    still_said documents (on_document of f documents) t2 (one_alike documents of f is) (kept_said documents t t2 keeps are)

fragment_as : (req : ReqId) (mode : Mode) (address : List ℕ) (d : Document) → IsAs d (done (tasks.DoFragment req mode address) d)
fragment_as req mode address d = record { nr = refl; there = refl; runs = λ nav. refl }

-- the documents with the order done
pub done_said : (s : Seen) (of : DocId) (task : Task) (t t2 : RunnersState) → AreRunners s t → MayBeDone s of task → GoesWith of task t t2 → AreRunnersOf (on_document of (done task) s.documents) t2
done_said s of (tasks.Populate nav state address initial) t t2 are may follows =
    made_said s.documents of (done (tasks.Populate nav state address initial)) t t2 are (λ d. refl) may.d nav may.known may.unseen (ap (λ (n : NavId). let o : Option NavId = Some n in o) may.its_nav) (λ n. fresh_under may.d.nav n (record { 0 = 0 }) (may.d.nav.0 == n.0)) follows
done_said s of (tasks.Activate entry epoch length index memo address) t t2 are may follows =
    shown_said s.documents of (done (tasks.Activate entry epoch length index memo address)) t t2 are (λ d. refl) epoch (λ d. there_mapped d.nav (show_view entry epoch length index memo address) d.view) (λ nav d. shown_under d.nav nav (show_view entry epoch length index memo address) epoch (λ v. refl) (λ v. refl) d.view) follows
done_said s of tasks.Freeze t t2 are may follows =
    stopped_said s.documents of (done tasks.Freeze) t t2 are (λ d. refl) (λ d. there_mapped d.nav stop_view d.view) (λ nav d. stopped_under d.nav nav stop_view (λ v. refl) d.view) follows
done_said s of tasks.Discard t t2 are may follows =
    left_said s.documents of (done tasks.Discard) t t2 are (λ d. refl) (λ d. refl) (λ nav d. gone_under d.nav nav d.view) follows
done_said s of (tasks.Update length index) t t2 are may follows =
    kept_on s.documents of (done (tasks.Update length index)) t t2 are (λ d. view_as d (λ v. after_task v (tasks.Update length index)) (λ v. refl) (λ v. refl)) follows
done_said s of (tasks.DoFragment req mode address) t t2 are may follows =
    kept_on s.documents of (done (tasks.DoFragment req mode address)) t t2 are (fragment_as req mode address) follows
done_said s of (tasks.Ask slot cause) t t2 are may follows =
    kept_on s.documents of (done (tasks.Ask slot cause)) t t2 are (λ d. view_as d (λ v. after_task v (tasks.Ask slot cause)) (λ v. refl) (λ v. refl)) follows

-- a handler slot is no matter of the table
slot_alike : (documents : List Document) (job : Job) (outcome : Outcome) → AreAlike documents (slot_finished documents (Some job) outcome)
slot_alike documents job (outcomes.Populated slot) =
    one_alike documents job.doc (λ d. record d { slot = slot }) (λ d. record { nr = refl; there = refl; runs = λ nav. refl })
slot_alike documents job outcome = alike_itself documents

-- the order that a process has in hand is done: the table follows
pub finished_runners : (s : Seen) (event : ℕ) (actor : Actor) (proc : ProcId) (nr : JobId) (outcome : Outcome) (job : Job) (t t2 : RunnersState) → task_in_hand s proc ≡ Some job → MayBeDone s job.doc job.task → AreRunners s t → GoesWith job.doc job.task t t2 → AreRunners (after s (record { event = event; actor = actor; row = rows.Finished proc nr outcome })) t2
finished_runners s event actor proc nr outcome job t t2 hand may are follows =
    subst (λ (o : Option Job). AreRunnersOf (slot_finished (documents_finished s.documents o) o outcome) t2) (sym hand) (still_said documents (slot_finished documents (Some job) outcome) t2 (slot_alike documents job outcome) (done_said s job.doc job.task t t2 are may follows))
  where
    documents : List Document
    documents = on_document job.doc (done job.task) s.documents
