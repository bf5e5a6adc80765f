-- The orders of a document that isn't discarded lead to a view: so it stays as an order is sent, and as one is finished.
use Rattle.address.proofs.Urls.{verdict}
use Rattle.seen_facts.proofs.Coord.Kept.{IsInHand, is_mine}
use Rattle.seen_facts.proofs.Coord.Leadings.{doc_same, proc_same}
use Rattle.seen_facts.proofs.Coord.OneDocument.{mailed, orders_finished_other, orders_finished_own, orders_mailed}
use Rattle.seen_facts.proofs.Coord.Reached.{mailed_own}
use Rattle.seen_facts.proofs.Coord.Unread.{next}
use Rattle.seen_facts.specs.Coord.Leading.{is_live_order, once_finished, orders_for, pending_view}
use Rattle.tab_facts.proofs.FrameWhole.Entries.{turned}
use Rattle.tab_facts.proofs.FrameWhole.FlowsMaking.{IsNewTo, found_or}
use Rattle.tab_facts.proofs.FrameWhole.Viewed.{IsNoDiscard, KeepsViews, WasIn, some_all, some_kept, was_in}
use Rattle.tab_facts.specs.FrameWhole.Beside.{EachIsViewed}
use Rattle.seen_facts.specs.Home.Homes.{document_in}
use Rattle.log_model.specs.After.{desk_finished, on_document}
use Rattle.log_model.specs.AfterDocuments.{addressed, documents_finished, documents_sent, new_document, slot_finished, task_in_hand, view_finished}
use Rattle.log_model.specs.Seen.{Desk, Document, Seen, desk_of, document_of}
use Rattle.log_model.specs.Views.{View}
use Rattle.log_model.specs.declared.job.Job.{Job}
use Rattle.log_model.specs.declared.job.Order.{Order}
use Rattle.log_model.specs.declared.job.Task.{Task}
use Rattle.log_model.specs.declared.made.Made.{Made}
use Rattle.log_model.specs.declared.outcome.Outcome.{Outcome}
use Rattle.log_model.specs.declared.row_kind.Actor.{Actor}
use Rattle.seen_laws.proofs.Desks.{desk_on_other, desk_on_same}
use Rattle.seen_laws.proofs.Keyed.{find_has}
use Rattle.std.proofs.Common.{Bool, List, Option, Some, [], ap, append-nil, cond, false, fold, inl, inr, length, map, refl, subst, sym, true, ℕ, ◌&&◌, ◌++◌, ◌==◌, ◌∙◌, ◌∷◌, ◌≡◌, ◌⊎◌}
use Rattle.std.proofs.lemmas.List.Sums.{fold-append}
use Rattle.std.specs.Prelude.{filter, is_some, option_map}
use Rattle.tab_ids.specs.declared.DocId.{DocId}
use Rattle.tab_ids.specs.declared.EntryId.{EntryId}
use Rattle.tab_ids.specs.declared.Epoch.{Epoch}
use Rattle.tab_ids.specs.declared.NavId.{NavId}
use Rattle.tab_ids.specs.declared.ProcId.{ProcId}
use Rattle.tab_ids.specs.declared.StateId.{StateId}
use Rattle.log_model.specs.declared.job.Task.TheVariants as tasks
use Rattle.log_model.specs.declared.outcome.Outcome.TheVariants as outcomes
use Rattle.log_model.specs.declared.row_kind.Actor.TheVariants as actors
use Rattle.log_model.specs.declared.row_kind.RowKind.TheVariants as rows
use Rattle.tab_facts.proofs.FrameWhole.Viewed.{if_views}

-- ---- an order is sent

module _ (s : Seen) (event : ℕ) (actor : Actor) (viewed : EachIsViewed s) (job : Job) where
  abbrev pub sent_ : Seen
  sent_ = next s event actor (rows.Sent job)

  -- a document that was there
  old_viewed : (doc : DocId) (old : Document) → document_of s doc ≡ Some old → old.is_discarded ≡ false → ((job.doc.0 == old.nr.0) ≡ true → IsNoDiscard job.task) → is_some (fold once_finished old (orders_for (desk_of sent_ old.proc) old.nr)).view ≡ true
  old_viewed doc old there open_ fine = by_process (job.proc.0 == old.proc.0) refl
    where
      was : is_some (pending_view old (desk_of s old.proc)) ≡ true
      was = viewed doc old there open_

      parts : (a b : Bool) → (a && b) ≡ true → a ≡ true
      parts true b e = refl
      parts false b e = absurd cc

      by_live : (desk : Desk) → is_some (fold once_finished old (orders_for desk old.nr)).view ≡ true → (b : Bool) → is_live_order old.nr (length desk.killed) job ≡ b → is_some (fold once_finished old (orders_for (mailed job desk) old.nr)).view ≡ true
      by_live desk has true e =
          ap (λ (l : List Job). is_some (fold once_finished old l).view) (orders_mailed job desk old.nr ∙ (let one : orders_for desk old.nr ++ filter (is_live_order old.nr (length desk.killed)) (job ∷ []) ≡ orders_for desk old.nr ++ job ∷ [] = rw e refl in one))
          ∙ ap (λ (x : Document). is_some x.view) (fold-append once_finished old (orders_for desk old.nr) (job ∷ []))
          ∙ some_kept (fold once_finished old (orders_for desk old.nr)) job.task (fine (parts (job.doc.0 == old.nr.0) (job.incarnation == length desk.killed) e)) has
      by_live desk has false e =
          ap (λ (l : List Job). is_some (fold once_finished old l).view) (orders_mailed job desk old.nr ∙ (let one : orders_for desk old.nr ++ filter (is_live_order old.nr (length desk.killed)) (job ∷ []) ≡ orders_for desk old.nr ++ [] = rw e refl in one) ∙ append-nil (orders_for desk old.nr))
          ∙ has

      by_process : (b : Bool) → (job.proc.0 == old.proc.0) ≡ b → is_some (fold once_finished old (orders_for (desk_of sent_ old.proc) old.nr)).view ≡ true
      by_process true e =
          let own : desk_of sent_ job.proc ≡ mailed job (desk_of s job.proc) = desk_on_same (mailed job) s.desks job.proc (λ desk. refl) in
          let same : job.proc ≡ old.proc = proc_same job.proc old.proc e in
          subst (λ (p : ProcId). is_some (fold once_finished old (orders_for (desk_of sent_ p) old.nr)).view ≡ true) same
          (subst (λ (desk : Desk). is_some (fold once_finished old (orders_for desk old.nr)).view ≡ true) (sym own)
          (by_live (desk_of s job.proc) (subst (λ (p : ProcId). is_some (fold once_finished old (orders_for (desk_of s p) old.nr)).view ≡ true) (sym same) was) (is_live_order old.nr (length (desk_of s job.proc).killed) job) refl))
      by_process false e =
          ap (λ (desk : Desk). is_some (fold once_finished old (orders_for desk old.nr)).view) (desk_on_other (mailed job) s.desks job.proc old.proc (λ desk. refl) e) ∙ was

  -- a change of the one document that it goes to
  on_viewed : (f : Document → Document) → KeepsViews f → sent_.documents ≡ on_document job.doc f s.documents → ((x : Document) → (f x).is_discarded ≡ false → IsNoDiscard job.task) → EachIsViewed sent_
  on_viewed f keeps documents fine doc x found open_ =
      let all : KeepsViews (λ (y : Document). cond (y.nr.0 == job.doc.0) (f y) y) = if_views (λ (y : Document). y.nr.0 == job.doc.0) f keeps in
      let w : WasIn s (λ (y : Document). cond (y.nr.0 == job.doc.0) (f y) y) doc x = was_in s sent_ (λ (y : Document). cond (y.nr.0 == job.doc.0) (f y) y) all.nr documents doc x found in
      let open_then : (let y : Document = cond (w.old.nr.0 == job.doc.0) (f w.old) w.old in y).is_discarded ≡ false = ap (λ (y : Document). y.is_discarded) w.new ∙ open_ in
      subst (λ (y : Document). is_some (pending_view y (desk_of sent_ y.proc)) ≡ true) w.new
      (some_all (cond (w.old.nr.0 == job.doc.0) (f w.old) w.old) w.old (orders_for (desk_of sent_ (let y : Document = cond (w.old.nr.0 == job.doc.0) (f w.old) w.old in y).proc) (let y : Document = cond (w.old.nr.0 == job.doc.0) (f w.old) w.old in y).nr) (all.view w.old)
      ∙ ap (λ (p : ProcId). is_some (fold once_finished w.old (orders_for (desk_of sent_ p) (let y : Document = cond (w.old.nr.0 == job.doc.0) (f w.old) w.old in y).nr)).view) (all.proc w.old)
      ∙ ap (λ (n : DocId). is_some (fold once_finished w.old (orders_for (desk_of sent_ w.old.proc) n)).view) (all.nr w.old)
      ∙ old_viewed doc w.old w.there (all.discarded w.old open_then) (λ e. fine w.old (ap (λ (b : Bool). (let y : Document = cond b (f w.old) w.old in y).is_discarded) (sym (turned job.doc.0 w.old.nr.0 true e)) ∙ open_then)))

  told_viewed_by : (task : Task) → job.task ≡ task → IsNoDiscard task → documents_sent s job task ≡ on_document job.doc (addressed task) s.documents → EachIsViewed sent_
  told_viewed_by task is fine documents =
      on_viewed (addressed task) (record { nr = λ x. refl; proc = λ x. refl; discarded = λ x open_. open_; view = λ x. refl }) (ap (λ (t : Task). documents_sent s job t) is ∙ documents) (λ x open_. subst IsNoDiscard (sym is) fine)

  pub told_viewed : (long at : ℕ) → job.task ≡ tasks.Update long at → EachIsViewed sent_
  told_viewed long at is = told_viewed_by (tasks.Update long at) is tt refl

  pub shown_viewed : (entry : EntryId) (epoch : Epoch) (long at : ℕ) (memo : Option (List ℕ)) (address : List ℕ) → job.task ≡ tasks.Activate entry epoch long at memo address → EachIsViewed sent_
  shown_viewed entry epoch long at memo address is = told_viewed_by (tasks.Activate entry epoch long at memo address) is tt refl

  pub discarded_viewed : job.task ≡ tasks.Discard → EachIsViewed sent_
  discarded_viewed is =
      on_viewed (λ (x : Document). record x { is_discarded = true }) (record { nr = λ x. refl; proc = λ x. refl; discarded = λ x never. absurd cc; view = λ x. refl }) (ap (λ (t : Task). documents_sent s job t) is) (λ x never. absurd cc)

  pub making_viewed : (hand : List Made) (nav : NavId) (state : StateId) (address : List ℕ) (initial : Bool) → job.task ≡ tasks.Populate nav state address initial → job.incarnation ≡ length (desk_of s job.proc).killed → IsNewTo s hand job → EachIsViewed sent_
  making_viewed hand nav state address initial is lives unnamed doc x found open_ =
      by_case (found_or s.documents (new_document s job nav state) x doc (sym (ap (λ (l : List Document). document_in l doc) (ap (λ (t : Task). documents_sent s job t) is)) ∙ found))
    where
      own : desk_of sent_ job.proc ≡ mailed job (desk_of s job.proc)
      own = desk_on_same (mailed job) s.desks job.proc (λ desk. refl)

      mine : is_live_order job.doc (length (desk_of s job.proc).killed) job ≡ true
      mine = is_mine job.doc (length (desk_of s job.proc).killed) job refl lives

      orders : orders_for (desk_of sent_ job.proc) job.doc ≡ job ∷ []
      orders =
          ap (λ (desk : Desk). orders_for desk job.doc) own
          ∙ mailed_own job (desk_of s job.proc) job.doc mine
          ∙ ap (λ (l : List Job). l ++ job ∷ []) unnamed.orders

      new_view : is_some (pending_view (new_document s job nav state) (desk_of sent_ job.proc)) ≡ true
      new_view =
          ap (λ (l : List Job). is_some (fold once_finished (new_document s job nav state) l).view) orders
          ∙ ap (λ (t : Task). is_some (view_finished (new_document s job nav state) t)) is

      by_case : (document_of s doc ≡ Some x) ⊎ ((job.doc.0 == doc.0) ≡ true) × (new_document s job nav state ≡ x) → is_some (pending_view x (desk_of sent_ x.proc)) ≡ true
      by_case (inl old) = old_viewed doc x old open_ (λ e. subst IsNoDiscard (sym is) tt)
      by_case (inr new) = subst (λ (y : Document). is_some (pending_view y (desk_of sent_ y.proc)) ≡ true) new.1 new_view

-- ---- an order is finished

module _ (s : Seen) (event : ℕ) (viewed : EachIsViewed s) (proc : ProcId) (order : Order) (outcome : Outcome) (in_ : IsInHand s proc order) where
  abbrev pub done_ : Seen
  done_ = next s event (actors.Proc proc) (rows.Finished proc order.job.nr outcome)

  abbrev done_on : Document → Document
  done_on x = cond (x.nr.0 == order.job.doc.0) (once_finished x order.job) x

  -- where the documents are as the order leaves them, but for handlers
  finished_by : (g : Document → Document) → ((x : Document) → (g x).nr ≡ x.nr) → ((x : Document) → (g x).proc ≡ x.proc) → ((x : Document) → (g x).is_discarded ≡ x.is_discarded) → ((x : Document) → (g x).view ≡ (done_on x).view) → done_.documents ≡ map g s.documents → EachIsViewed done_
  finished_by g nr of_proc discarded view documents doc x found open_ =
      let w : WasIn s g doc x = was_in s done_ g nr documents doc x found in
      subst (λ (y : Document). is_some (pending_view y (desk_of done_ y.proc)) ≡ true) w.new
      (ap (λ (p : ProcId). is_some (fold once_finished (g w.old) (orders_for (desk_of done_ p) (g w.old).nr)).view) (of_proc w.old)
      ∙ ap (λ (n : DocId). is_some (fold once_finished (g w.old) (orders_for (desk_of done_ w.old.proc) n)).view) (nr w.old)
      ∙ some_all (g w.old) (done_on w.old) (orders_for (desk_of done_ w.old.proc) w.old.nr) (ap (λ (o : Option View). is_some o) (view w.old))
      ∙ by_document w.old w.there (w.old.nr.0 == order.job.doc.0) refl
      ∙ viewed doc w.old w.there (sym (discarded w.old) ∙ ap (λ (y : Document). y.is_discarded) w.new ∙ open_))
    where
      finished_desk : desk_of done_ proc ≡ desk_finished outcome (desk_of s proc)
      finished_desk = desk_on_same (desk_finished outcome) s.desks proc (λ desk. refl)

      -- another process, or another document of this one
      elsewhere : (old : Document) → (order.job.doc.0 == old.nr.0) ≡ false → orders_for (desk_of done_ old.proc) old.nr ≡ orders_for (desk_of s old.proc) old.nr
      elsewhere old apart = by_process (proc.0 == old.proc.0) refl
        where
          by_process : (b : Bool) → (proc.0 == old.proc.0) ≡ b → orders_for (desk_of done_ old.proc) old.nr ≡ orders_for (desk_of s old.proc) old.nr
          by_process true e =
              subst (λ (p : ProcId). orders_for (desk_of done_ p) old.nr ≡ orders_for (desk_of s p) old.nr) (proc_same proc old.proc e)
              (ap (λ (desk : Desk). orders_for desk old.nr) finished_desk ∙ orders_finished_other (desk_of s proc) order outcome old.nr in_.hand apart)
          by_process false e = ap (λ (desk : Desk). orders_for desk old.nr) (desk_on_other (desk_finished outcome) s.desks proc old.proc (λ desk. refl) e)

      by_document : (old : Document) → document_of s doc ≡ Some old → (b : Bool) → (old.nr.0 == order.job.doc.0) ≡ b → is_some (fold once_finished (let y : Document = cond b (once_finished old order.job) old in y) (orders_for (desk_of done_ old.proc) old.nr)).view ≡ is_some (pending_view old (desk_of s old.proc))
      by_document old there false e =
          ap (λ (l : List Job). is_some (fold once_finished old l).view) (elsewhere old (turned old.nr.0 order.job.doc.0 false e))
      by_document old there true e =
          let number : old.nr ≡ order.job.doc = doc_same old.nr order.job.doc e in
          let docs : old.nr ≡ doc = ap (λ (n : ℕ). let y : DocId = record { 0 = n } in y) (find_has (λ (y : Document). y.nr.0) doc.0 s.documents old there) in
          let home : old.proc ≡ proc = in_.home old (ap (λ (n : DocId). document_of s n) (sym number ∙ docs) ∙ there) in
          let mine : is_live_order old.nr (length (desk_of s proc).killed) order.job ≡ true = is_mine old.nr (length (desk_of s proc).killed) order.job (ap (λ (n : DocId). n.0) (sym number)) in_.lives in
          subst (λ (p : ProcId). is_some (fold once_finished (once_finished old order.job) (orders_for (desk_of done_ p) old.nr)).view ≡ is_some (pending_view old (desk_of s p))) (sym home)
          (ap (λ (desk : Desk). is_some (fold once_finished (once_finished old order.job) (orders_for desk old.nr)).view) finished_desk
          ∙ ap (λ (l : List Job). is_some (fold once_finished old l).view) (orders_finished_own (desk_of s proc) order outcome old.nr in_.hand mine))

  in_hand_is : task_in_hand s proc ≡ Some order.job
  in_hand_is = ap (λ (o : Option Order). option_map (λ (x : Order). x.job) o) in_.hand

  plain_done : slot_finished (on_document order.job.doc (λ (d : Document). record d { view = view_finished d order.job.task }) s.documents) (Some order.job) outcome ≡ map done_on s.documents → EachIsViewed done_
  plain_done same =
      finished_by done_on
      (λ x. elim (x.nr.0 == order.job.doc.0) as (λ b. (let y : Document = cond b (once_finished x order.job) x in y).nr ≡ x.nr) [ true ↦ refl | false ↦ refl ])
      (λ x. elim (x.nr.0 == order.job.doc.0) as (λ b. (let y : Document = cond b (once_finished x order.job) x in y).proc ≡ x.proc) [ true ↦ refl | false ↦ refl ])
      (λ x. elim (x.nr.0 == order.job.doc.0) as (λ b. (let y : Document = cond b (once_finished x order.job) x in y).is_discarded ≡ x.is_discarded) [ true ↦ refl | false ↦ refl ])
      (λ x. refl)
      (ap (λ (o : Option Job). slot_finished (documents_finished s.documents o) o outcome) in_hand_is ∙ same)

  -- a document that was made has its handler, too
  slot_done : (slot : Option ℕ) → outcome ≡ outcomes.Populated slot → EachIsViewed done_
  slot_done slot is =
      finished_by slotted
      (λ x. elim (x.nr.0 == order.job.doc.0) as (λ b. (let y : Document = cond b (record (once_finished x order.job) { slot = slot }) x in y).nr ≡ x.nr) [ true ↦ refl | false ↦ refl ])
      (λ x. elim (x.nr.0 == order.job.doc.0) as (λ b. (let y : Document = cond b (record (once_finished x order.job) { slot = slot }) x in y).proc ≡ x.proc) [ true ↦ refl | false ↦ refl ])
      (λ x. elim (x.nr.0 == order.job.doc.0) as (λ b. (let y : Document = cond b (record (once_finished x order.job) { slot = slot }) x in y).is_discarded ≡ x.is_discarded) [ true ↦ refl | false ↦ refl ])
      (λ x. elim (x.nr.0 == order.job.doc.0) as (λ b. (let y : Document = cond b (record (once_finished x order.job) { slot = slot }) x in y).view ≡ (let y : Document = cond b (once_finished x order.job) x in y).view) [ true ↦ refl | false ↦ refl ])
      (ap (λ (o : Option Job). slot_finished (documents_finished s.documents o) o outcome) in_hand_is
      ∙ ap (λ (o : Outcome). slot_finished (documents_finished s.documents (Some order.job)) (Some order.job) o) is
      ∙ twice s.documents)
    where
      slotted : Document → Document
      slotted x = cond (x.nr.0 == order.job.doc.0) (record (once_finished x order.job) { slot = slot }) x

      one : (x : Document) (b : Bool) → (x.nr.0 == order.job.doc.0) ≡ b → (let y : Document = cond b (once_finished x order.job) x in let z : Document = cond (y.nr.0 == order.job.doc.0) (record y { slot = slot }) y in z) ≡ cond b (record (once_finished x order.job) { slot = slot }) x
      one x true e = rw e refl
      one x false e = rw e refl

      twice : (documents : List Document) → on_document order.job.doc (λ (d : Document). record d { slot = slot }) (map done_on documents) ≡ map slotted documents
      twice [] = refl
      twice (x ∷ documents) =
          ap (λ (y : Document). y ∷ on_document order.job.doc (λ (d : Document). record d { slot = slot }) (map done_on documents)) (one x (x.nr.0 == order.job.doc.0) refl)
          ∙ ap (λ (l : List Document). slotted x ∷ l) (twice documents)

  pub finished_viewed : EachIsViewed done_
  finished_viewed = by_outcome outcome refl
    where
      by_outcome : (o : Outcome) → outcome ≡ o → EachIsViewed done_
      by_outcome (outcomes.Populated slot) e = slot_done slot e
      by_outcome outcomes.Activated e = plain_done (rw e refl)
      by_outcome outcomes.Updated e = plain_done (rw e refl)
      by_outcome outcomes.Frozen e = plain_done (rw e refl)
      by_outcome outcomes.Discarded e = plain_done (rw e refl)
      by_outcome (outcomes.Asked verdict) e = plain_done (rw e refl)
      by_outcome outcomes.Fragmented e = plain_done (rw e refl)
