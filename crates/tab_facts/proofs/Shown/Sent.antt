-- The orders of a document that isn't discarded still lead to a view as another order is sent, but to discard it.
use Rattle.std.proofs.Common.{◌≡◌, ℕ, Bool, true, false, cond, ◌==◌, List, [], ◌∷◌, ◌++◌, append-nil, fold, length, map, Some, refl, sym, ap, ◌∙◌, subst}
use Rattle.std.proofs.lemmas.List.Sums.{fold-append}
use Rattle.std.specs.Prelude.{filter, is_some}
use Rattle.tab_ids.specs.declared.DocId.{DocId}
use Rattle.tab_ids.specs.declared.ProcId.{ProcId}
use Rattle.log_model.specs.declared.job.Job.{Job}
use Rattle.log_model.specs.declared.job.Task.{Task}
use Rattle.log_model.specs.declared.job.Task.TheVariants as tasks
use Rattle.log_model.specs.declared.row_kind.Actor.{Actor}
use Rattle.log_model.specs.declared.row_kind.RowKind.TheVariants as rows
use Rattle.log_model.specs.After.{after, on_document}
use Rattle.log_model.specs.AfterDocuments.{addressed, documents_sent}
use Rattle.log_model.specs.Seen.{Desk, Document, Seen, desk_of, document_of}
use Rattle.seen_facts.specs.Coord.Leading.{is_live_order, once_finished, orders_for, pending_view}
use Rattle.seen_facts.proofs.Coord.OneDocument.{mailed, orders_mailed}
use Rattle.seen_facts.proofs.Entry.Parts.{each_desk}
use Rattle.tab_facts.specs.FrameWhole.Beside.{EachIsViewed}
use Rattle.tab_facts.proofs.FrameWhole.Viewed.{IsNoDiscard, KeepsViews, WasIn, if_views, some_all, some_kept, was_in}
use Rattle.tab_facts.proofs.FrameWhole.ViewedOrders.{discarded_viewed}
use Rattle.seen_facts.proofs.Load.Docs.{MakesNone}

-- whether the document has a view once the orders of the desk to the document of the number are finished
abbrev HasView : Document → DocId → Desk → Type 0
HasView d doc desk = is_some (fold once_finished d (orders_for desk doc)).view ≡ true

abbrev pub after_sent : Seen → ℕ → Actor → Job → Seen
after_sent s event actor job = after s (record { event = event; actor = actor; row = rows.Sent job })

module _ (s : Seen) (event : ℕ) (actor : Actor) (viewed : EachIsViewed s) (job : Job) where
  abbrev sent : Seen
  sent = after_sent s event actor job

  -- one order more
  mailed_view : IsNoDiscard job.task → (d : Document) (doc : DocId) (desk : Desk) → HasView d doc desk → HasView d doc (mailed job desk)
  mailed_view fine d doc desk has = by_live (is_live_order doc (length desk.killed) job) refl
    where
      by_live : (b : Bool) → is_live_order doc (length desk.killed) job ≡ b → HasView d doc (mailed job desk)
      by_live true e =
          ap (λ (l : List Job). is_some (fold once_finished d l).view) (orders_mailed job desk doc ∙ (let one : orders_for desk doc ++ filter (is_live_order doc (length desk.killed)) (job ∷ []) ≡ orders_for desk doc ++ job ∷ [] = rw e refl in one))
          ∙ ap (λ (x : Document). is_some x.view) (fold-append once_finished d (orders_for desk doc) (job ∷ []))
          ∙ some_kept (fold once_finished d (orders_for desk doc)) job.task fine has
      by_live false e =
          ap (λ (l : List Job). is_some (fold once_finished d l).view) (orders_mailed job desk doc ∙ (let one : orders_for desk doc ++ filter (is_live_order doc (length desk.killed)) (job ∷ []) ≡ orders_for desk doc ++ [] = rw e refl in one) ∙ append-nil (orders_for desk doc))
          ∙ has

  -- a document that was there
  pub old_viewed : IsNoDiscard job.task → (doc : DocId) (old : Document) → document_of s doc ≡ Some old → old.is_discarded ≡ false → is_some (pending_view old (desk_of sent old.proc)) ≡ true
  old_viewed fine doc old there open_ =
      each_desk s sent job.proc (mailed job) (λ proc desk. HasView old old.nr (desk_of s proc) → HasView old old.nr desk) refl (λ desk. refl) (mailed_view fine old old.nr (desk_of s job.proc)) (λ proc apart has. has) old.proc (viewed doc old there open_)

  -- documents change, but for their views
  pub kept_viewed : IsNoDiscard job.task → (g : Document → Document) → KeepsViews g → sent.documents ≡ map g s.documents → EachIsViewed sent
  kept_viewed fine g keeps documents doc x found open_ =
      let w : WasIn s g doc x = was_in s sent g keeps.nr documents doc x found in
      let was : is_some (pending_view w.old (desk_of sent w.old.proc)) ≡ true = old_viewed fine doc w.old w.there (keeps.discarded w.old (ap (λ (y : Document). y.is_discarded) w.new ∙ open_)) in
      subst (λ (y : Document). is_some (pending_view y (desk_of sent y.proc)) ≡ true) w.new
      (some_all (g w.old) w.old (orders_for (desk_of sent (g w.old).proc) (g w.old).nr) (keeps.view w.old)
      ∙ ap (λ (p : ProcId). is_some (fold once_finished w.old (orders_for (desk_of sent p) (g w.old).nr)).view) (keeps.proc w.old)
      ∙ ap (λ (n : DocId). is_some (fold once_finished w.old (orders_for (desk_of sent w.old.proc) n)).view) (keeps.nr w.old)
      ∙ was)

  -- one is told of the order
  told_so : (task : Task) → job.task ≡ task → IsNoDiscard task → documents_sent s job task ≡ on_document job.doc (addressed task) s.documents → EachIsViewed sent
  told_so task is fine documents =
      kept_viewed (subst IsNoDiscard (sym is) fine) (λ (d : Document). cond (d.nr.0 == job.doc.0) (addressed task d) d) (if_views (λ (d : Document). d.nr.0 == job.doc.0) (addressed task) (record { nr = λ d. refl; proc = λ d. refl; discarded = λ d e. e; view = λ d. refl }))
      (ap (λ (t : Task). documents_sent s job t) is ∙ documents)

  -- any order that makes no document
  pub sent_viewed : MakesNone job.task → EachIsViewed sent
  sent_viewed none = by_task job.task refl none
    where
      by_task : (task : Task) → job.task ≡ task → MakesNone task → EachIsViewed sent
      by_task (tasks.Populate nav state address initial) is never = absurd never
      by_task (tasks.Activate entry epoch long at memo address) is none_ =
          told_so (tasks.Activate entry epoch long at memo address) is tt refl
      by_task (tasks.Update long at) is none_ = told_so (tasks.Update long at) is tt refl
      by_task tasks.Freeze is none_ = told_so tasks.Freeze is tt refl
      by_task tasks.Discard is none_ = discarded_viewed s event actor viewed job is
      by_task (tasks.Ask slot cause) is none_ = told_so (tasks.Ask slot cause) is tt refl
      by_task (tasks.DoFragment req mode address) is none_ = told_so (tasks.DoFragment req mode address) is tt refl
