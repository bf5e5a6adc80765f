-- The orders of a document that isn't discarded lead to a view: so it stays over each row of a tab in which nobody dies.
use Rattle.address.proofs.Urls.{verdict}
use Rattle.seen_facts.proofs.Coord.Leadings.{proc_same}
use Rattle.seen_facts.proofs.Coord.OneDocument.{orders_taken}
use Rattle.seen_facts.proofs.Coord.Unread.{DesksLeft, accepted_left, dropped_left, next, refused_left, started_left}
use Rattle.seen_facts.specs.Coord.Leading.{is_live_order, once_finished, orders_for, pending_view}
use Rattle.tab_facts.specs.FrameWhole.Beside.{EachIsViewed}
use Rattle.log_model.specs.After.{desk_delivered, desk_made, desk_taken, desks_made, follows_finished, on_desk}
use Rattle.log_model.specs.AfterDocuments.{applied_to, documents_delivered, told_after_change, view_finished, with_applied}
use Rattle.log_model.specs.AfterPlaces.{is_dead_by}
use Rattle.log_model.specs.Seen.{Desk, Document, Seen, desk_in, desk_of, document_of}
use Rattle.log_model.specs.Views.{View, after_made, after_task}
use Rattle.log_model.specs.declared.change.Change.{Change}
use Rattle.log_model.specs.declared.job.Job.{Job}
use Rattle.log_model.specs.declared.job.Task.{Task}
use Rattle.log_model.specs.declared.made.Made.{Made}
use Rattle.log_model.specs.declared.made.Report.{Report}
use Rattle.log_model.specs.declared.outcome.Cause.{Cause}
use Rattle.log_model.specs.declared.outcome.Denial.{Denial}
use Rattle.log_model.specs.declared.request.Request.{Request}
use Rattle.log_model.specs.declared.row_kind.Actor.{Actor}
use Rattle.seen_laws.proofs.Desks.{desk_on_other, desk_on_same}
use Rattle.seen_laws.proofs.Keyed.{find_map}
use Rattle.seen_laws.proofs.Sums.{over}
use Rattle.std.proofs.Common.{Bool, List, None, Option, Some, [], ap, cond, false, fold, length, map, refl, subst, sym, true, ℕ, ◌==◌, ◌∙◌, ◌∷◌, ◌≡◌}
use Rattle.std.proofs.lemmas.List.{map-id}
use Rattle.std.specs.Prelude.{filter, find, is_some, option_map, slice_get}
use Rattle.tab_ids.specs.declared.DocId.{DocId}
use Rattle.tab_ids.specs.declared.EntryId.{EntryId}
use Rattle.tab_ids.specs.declared.ProcId.{ProcId}
use Rattle.tab_ids.specs.declared.ReqId.{ReqId}
use Rattle.tab_ids.specs.declared.Step.{Step}
use Rattle.log_model.specs.declared.change.Change.TheVariants as changes
use Rattle.log_model.specs.declared.job.Task.TheVariants as tasks
use Rattle.log_model.specs.declared.made.Report.TheVariants as reports
use Rattle.log_model.specs.declared.outcome.Outcome.TheVariants as outcomes
use Rattle.log_model.specs.declared.row_kind.RowKind.TheVariants as rows

pub some_same : {A : Type 0} {a b : A} → (let o : Option A = Some a in o) ≡ Some b → a ≡ b
some_same e = cc

-- ---- whether there is a view once orders are done

some_mapped : {A B : Type 0} (f : A → B) (a : Option A) → is_some (option_map f a) ≡ is_some a
some_mapped f None = refl
some_mapped f (Some x) = refl

some_done : (d e : Document) (task : Task) → is_some d.view ≡ is_some e.view → is_some (view_finished d task) ≡ is_some (view_finished e task)
some_done d e (tasks.Populate nav state address initial) same = refl
some_done d e tasks.Discard same = refl
some_done d e (tasks.DoFragment req mode address) same = same
some_done d e (tasks.Activate entry epoch length index memo address) same =
    some_mapped (λ (v : View). after_task v (tasks.Activate entry epoch length index memo address)) d.view
    ∙ same ∙ sym (some_mapped (λ (v : View). after_task v (tasks.Activate entry epoch length index memo address)) e.view)
some_done d e (tasks.Update length index) same =
    some_mapped (λ (v : View). after_task v (tasks.Update length index)) d.view ∙ same ∙ sym (some_mapped (λ (v : View). after_task v (tasks.Update length index)) e.view)
some_done d e tasks.Freeze same =
    some_mapped (λ (v : View). after_task v tasks.Freeze) d.view ∙ same ∙ sym (some_mapped (λ (v : View). after_task v tasks.Freeze) e.view)
some_done d e (tasks.Ask slot cause) same =
    some_mapped (λ (v : View). after_task v (tasks.Ask slot cause)) d.view ∙ same ∙ sym (some_mapped (λ (v : View). after_task v (tasks.Ask slot cause)) e.view)

pub some_all : (d e : Document) (jobs : List Job) → is_some d.view ≡ is_some e.view → is_some (fold once_finished d jobs).view ≡ is_some (fold once_finished e jobs).view
some_all d e [] same = same
some_all d e (job ∷ jobs) same = some_all (once_finished d job) (once_finished e job) jobs (some_done d e job.task same)

-- the order discards no document
abbrev pub IsNoDiscard : Task → Type 0
IsNoDiscard tasks.Discard = ⊥
IsNoDiscard _ = Unit {0}

pub some_kept : (d : Document) (task : Task) → IsNoDiscard task → is_some d.view ≡ true → is_some (view_finished d task) ≡ true
some_kept d (tasks.Populate nav state address initial) fine has = refl
some_kept d tasks.Discard never has = absurd never
some_kept d (tasks.DoFragment req mode address) fine has = has
some_kept d (tasks.Activate entry epoch length index memo address) fine has = some_mapped (λ (v : View). after_task v (tasks.Activate entry epoch length index memo address)) d.view ∙ has
some_kept d (tasks.Update length index) fine has = some_mapped (λ (v : View). after_task v (tasks.Update length index)) d.view ∙ has
some_kept d tasks.Freeze fine has = some_mapped (λ (v : View). after_task v tasks.Freeze) d.view ∙ has
some_kept d (tasks.Ask slot cause) fine has = some_mapped (λ (v : View). after_task v (tasks.Ask slot cause)) d.view ∙ has

-- ---- documents that are changed but for their views, with the orders as they were

pub record KeepsViews (g : Document → Document) : Type 0 where
  pub nr : (x : Document) → (g x).nr ≡ x.nr
  pub proc : (x : Document) → (g x).proc ≡ x.proc
  pub discarded : (x : Document) → (g x).is_discarded ≡ false → x.is_discarded ≡ false
  pub view : (x : Document) → is_some (g x).view ≡ is_some x.view

-- a document that is found was before
pub record WasIn (s : Seen) (g : Document → Document) (doc : DocId) (x : Document) : Type 0 where
  pub old : Document
  pub there : document_of s doc ≡ Some old
  pub new : g old ≡ x

pub was_in : (s t : Seen) (g : Document → Document) → ((x : Document) → (g x).nr ≡ x.nr) → t.documents ≡ map g s.documents → (doc : DocId) (x : Document) → document_of t doc ≡ Some x → WasIn s g doc x
was_in s t g nr documents doc x found = by_old (document_of s doc) refl (sym mapped ∙ found)
  where
    mapped : document_of t doc ≡ option_map g (document_of s doc)
    mapped =
        ap (λ (l : List Document). find (λ (y : Document). y.nr.0 == doc.0) l) documents
        ∙ find_map (λ (y : Document). y.nr.0) g doc.0 s.documents (λ y. ap (λ (n : DocId). n.0) (nr y))

    by_old : (o : Option Document) → document_of s doc ≡ o → option_map g (document_of s doc) ≡ Some x → WasIn s g doc x
    by_old None e h = (let never : None ≡ Some x = sym (ap (λ (o : Option Document). option_map g o) e) ∙ h in absurd cc)
    by_old (Some old) e h = record { old = old; there = e; new = some_same (sym (ap (λ (o : Option Document). option_map g o) e) ∙ h) }

pub viewed_map : (s t : Seen) (g : Document → Document) → KeepsViews g → t.documents ≡ map g s.documents → ((proc : ProcId) (doc : DocId) → orders_for (desk_of t proc) doc ≡ orders_for (desk_of s proc) doc) → EachIsViewed s → EachIsViewed t
viewed_map s t g keeps documents orders viewed doc x found open_ =
    let w : WasIn s g doc x = was_in s t g keeps.nr documents doc x found in
    let was : is_some (pending_view w.old (desk_of s w.old.proc)) ≡ true = viewed doc w.old w.there (keeps.discarded w.old (ap (λ (y : Document). y.is_discarded) w.new ∙ open_)) in
    subst (λ (y : Document). is_some (pending_view y (desk_of t y.proc)) ≡ true) w.new
    (some_all (g w.old) w.old (orders_for (desk_of t (g w.old).proc) (g w.old).nr) (keeps.view w.old)
    ∙ ap (λ (p : ProcId). is_some (fold once_finished w.old (orders_for (desk_of t p) (g w.old).nr)).view) (keeps.proc w.old)
    ∙ ap (λ (n : DocId). is_some (fold once_finished w.old (orders_for (desk_of t w.old.proc) n)).view) (keeps.nr w.old)
    ∙ ap (λ (l : List Job). is_some (fold once_finished w.old l).view) (orders w.old.proc w.old.nr)
    ∙ was)

same_views : KeepsViews (λ x. x)
same_views = record { nr = λ x. refl; proc = λ x. refl; discarded = λ x open_. open_; view = λ x. refl }

pub if_views : (test : Document → Bool) (f : Document → Document) → KeepsViews f → KeepsViews (λ (x : Document). cond (test x) (f x) x)
if_views test f keeps =
    record {
      nr = λ x. elim (test x) as (λ b. (let y : Document = cond b (f x) x in y).nr ≡ x.nr) [ true ↦ keeps.nr x | false ↦ refl ];
      proc = λ x. elim (test x) as (λ b. (let y : Document = cond b (f x) x in y).proc ≡ x.proc) [ true ↦ keeps.proc x | false ↦ refl ];
      discarded = λ x. elim (test x) as (λ b. (let y : Document = cond b (f x) x in y).is_discarded ≡ false → x.is_discarded ≡ false) [ true ↦ keeps.discarded x | false ↦ λ open_. open_ ];
      view = λ x. elim (test x) as (λ b. is_some (let y : Document = cond b (f x) x in y).view ≡ is_some x.view) [ true ↦ keeps.view x | false ↦ refl ];
    }

both_views : (f g : Document → Document) → KeepsViews f → KeepsViews g → KeepsViews (λ (x : Document). g (f x))
both_views f g one two =
    record {
      nr = λ x. two.nr (f x) ∙ one.nr x;
      proc = λ x. two.proc (f x) ∙ one.proc x;
      discarded = λ x open_. one.discarded x (two.discarded (f x) open_);
      view = λ x. two.view (f x) ∙ one.view x;
    }

-- ---- rows that send no order, and finish none

-- the processes are as they were but for their inputs
left_orders : (s t : Seen) → DesksLeft s t → (proc : ProcId) (doc : DocId) → orders_for (desk_of t proc) doc ≡ orders_for (desk_of s proc) doc
left_orders s t left proc doc = ap (λ (desk : Desk). orders_for desk doc) (left proc).1

pub left_viewed : (s t : Seen) → DesksLeft s t → t.documents ≡ s.documents → EachIsViewed s → EachIsViewed t
left_viewed s t left documents viewed =
    viewed_map s t (λ x. x) same_views (documents ∙ sym (map-id s.documents)) (left_orders s t left) viewed

told_views : (c : Change) → KeepsViews (λ (x : Document). told_after_change x c)
told_views (changes.Push nav entry state address memo) =
    if_views (λ (x : Document). x.nr.0 == entry.maker) (λ (x : Document). record x { told = None }) (record { nr = λ x. refl; proc = λ x. refl; discarded = λ x open_. open_; view = λ x. refl })
told_views (changes.Replace nav over entry state address memo) = same_views
told_views (changes.AddFrame owner nav entry state) = same_views
told_views (changes.RemoveFrame nav) = same_views
told_views (changes.Traverse goal) = same_views
told_views (changes.Reload nav) = same_views
told_views changes.Edit = same_views

entry_views : (entry : EntryId) → KeepsViews (with_applied entry)
entry_views entry =
    if_views (λ (x : Document). x.nr.0 == entry.maker) (λ (x : Document). record x { last_applied = entry.nr }) (record { nr = λ x. refl; proc = λ x. refl; discarded = λ x open_. open_; view = λ x. refl })

applied_views : (c : Change) → KeepsViews (λ (x : Document). applied_to c x)
applied_views (changes.Push nav entry state address memo) = entry_views entry
applied_views (changes.Replace nav over entry state address memo) = entry_views entry
applied_views (changes.Reload nav) =
    if_views (λ (x : Document). x.nav.0 == nav.0) (λ (x : Document). record x { is_fresh = false }) (record { nr = λ x. refl; proc = λ x. refl; discarded = λ x open_. open_; view = λ x. refl })
applied_views (changes.AddFrame owner nav entry state) = same_views
applied_views (changes.RemoveFrame nav) = same_views
applied_views (changes.Traverse goal) = same_views
applied_views changes.Edit = same_views

module _ (s : Seen) (event : ℕ) (actor : Actor) (viewed : EachIsViewed s) where
  pub applied_viewed : (req : ReqId) (change : Change) → EachIsViewed (next s event actor (rows.Applied req change))
  applied_viewed req change =
      viewed_map s (next s event actor (rows.Applied req change)) (λ (x : Document). applied_to change (told_after_change x change)) (both_views (λ (x : Document). told_after_change x change) (λ (x : Document). applied_to change x) (told_views change) (applied_views change)) refl (λ proc doc. refl) viewed

  pub started_viewed : (req : ReqId) (goal : Option Step) → EachIsViewed (next s event actor (rows.Started req goal))
  started_viewed req goal = left_viewed s (next s event actor (rows.Started req goal)) (started_left s event actor req goal) refl viewed

  pub refused_viewed : (req : ReqId) (reason : Denial) → EachIsViewed (next s event actor (rows.Refused req reason))
  refused_viewed req reason = left_viewed s (next s event actor (rows.Refused req reason)) (refused_left s event actor req reason) refl viewed

  pub dropped_viewed : (req : ReqId) (cause : Cause) → EachIsViewed (next s event actor (rows.Dropped req cause))
  dropped_viewed req cause = left_viewed s (next s event actor (rows.Dropped req cause)) (dropped_left s event actor req cause) refl viewed

  pub accepted_viewed : (req : ReqId) (doc : Option DocId) (what : Request) → EachIsViewed (next s event actor (rows.Accepted req doc what))
  accepted_viewed req doc what = left_viewed s (next s event actor (rows.Accepted req doc what)) (accepted_left s event actor req doc what) refl viewed

  -- one process goes on with its orders as they were
  desk_orders : (t : Seen) (proc : ProcId) (f : Desk → Desk) → t.desks ≡ on_desk proc f s.desks → ((desk : Desk) → (f desk).proc ≡ desk.proc) → ((doc : DocId) → orders_for (f (desk_of s proc)) doc ≡ orders_for (desk_of s proc) doc) → (p : ProcId) (doc : DocId) → orders_for (desk_of t p) doc ≡ orders_for (desk_of s p) doc
  desk_orders t proc f desks keeps same p doc = by_process (proc.0 == p.0) refl
    where
      by_process : (b : Bool) → (proc.0 == p.0) ≡ b → orders_for (desk_of t p) doc ≡ orders_for (desk_of s p) doc
      by_process true e =
          let own : desk_of t proc ≡ f (desk_of s proc) = ap (λ (l : List Desk). desk_in l proc) desks ∙ desk_on_same f s.desks proc keeps in
          subst (λ (x : ProcId). orders_for (desk_of t x) doc ≡ orders_for (desk_of s x) doc) (proc_same proc p e) (ap (λ (desk : Desk). orders_for desk doc) own ∙ same doc)
      by_process false e =
          ap (λ (desk : Desk). orders_for desk doc) (ap (λ (l : List Desk). desk_in l p) desks ∙ desk_on_other f s.desks proc p keeps e)

  pub taken_viewed : (proc : ProcId) (job : Job) (dirty : Bool) → (desk_of s proc).in_hand ≡ None → slice_get (desk_of s proc).mail 0 ≡ Some job → EachIsViewed (next s event actor (rows.Taken proc job.nr true dirty))
  taken_viewed proc job dirty free first =
      viewed_map s (next s event actor (rows.Taken proc job.nr true dirty)) (λ x. x) same_views (sym (map-id s.documents))
      (desk_orders (next s event actor (rows.Taken proc job.nr true dirty)) proc (desk_taken true dirty) refl (λ desk. refl) (λ doc. ap (λ (l : List Job). filter (is_live_order doc (length (desk_of s proc).killed)) l) (orders_taken (desk_of s proc) job dirty free first)))
      viewed

  delivered_views : (report : Option Report) → (g : Document → Document) × (documents_delivered s.documents report ≡ map g s.documents) × KeepsViews g
  delivered_views None = ((λ x. x), sym (map-id s.documents), same_views)
  delivered_views (Some (reports.Made made)) = ((λ x. x), sym (map-id s.documents), same_views)
  delivered_views (Some (reports.Done job (outcomes.Populated slot) made)) =
      ((λ (x : Document). cond (x.nr.0 == job.doc.0) (record x { is_ready = true; is_fresh = true }) x), refl, if_views (λ (x : Document). x.nr.0 == job.doc.0) (λ (x : Document). record x { is_ready = true; is_fresh = true }) (record { nr = λ x. refl; proc = λ x. refl; discarded = λ x open_. open_; view = λ x. refl }))
  delivered_views (Some (reports.Done job outcomes.Activated made)) = ((λ x. x), sym (map-id s.documents), same_views)
  delivered_views (Some (reports.Done job outcomes.Updated made)) = ((λ x. x), sym (map-id s.documents), same_views)
  delivered_views (Some (reports.Done job outcomes.Frozen made)) = ((λ x. x), sym (map-id s.documents), same_views)
  delivered_views (Some (reports.Done job outcomes.Discarded made)) = ((λ x. x), sym (map-id s.documents), same_views)
  delivered_views (Some (reports.Done job (outcomes.Asked verdict) made)) = ((λ x. x), sym (map-id s.documents), same_views)
  delivered_views (Some (reports.Done job outcomes.Fragmented made)) = ((λ x. x), sym (map-id s.documents), same_views)
  delivered_views (Some (reports.Died death)) =
      ((λ (x : Document). cond (is_dead_by death x) (record x { is_known_dead = true }) x), refl, if_views (is_dead_by death) (λ (x : Document). record x { is_known_dead = true }) (record { nr = λ x. refl; proc = λ x. refl; discarded = λ x open_. open_; view = λ x. refl }))

  pub delivered_viewed : (proc : ProcId) → EachIsViewed (next s event actor (rows.Delivered proc))
  delivered_viewed proc =
      let d = delivered_views (slice_get (desk_of s proc).reports 0) in
      viewed_map s (next s event actor (rows.Delivered proc)) d.0 d.2 d.1 (desk_orders (next s event actor (rows.Delivered proc)) proc desk_delivered refl (λ desk. refl) (λ doc. refl)) viewed

  -- of a poke
  pub made_viewed : (proc : ProcId) (made : Made) → follows_finished s (record { event = event; actor = actor; row = rows.Made proc made }) ≡ false → EachIsViewed (next s event actor (rows.Made proc made))
  made_viewed proc made alone =
      viewed_map s (next s event actor (rows.Made proc made)) (λ (x : Document). cond (x.nr.0 == made.doc.0) (record x { view = option_map (λ (v : View). after_made v made.what) x.view }) x)
      (if_views (λ (x : Document). x.nr.0 == made.doc.0) (λ (x : Document). record x { view = option_map (λ (v : View). after_made v made.what) x.view }) (record { nr = λ x. refl; proc = λ x. refl; discarded = λ x open_. open_; view = λ x. some_mapped (λ (v : View). after_made v made.what) x.view }))
      refl
      (desk_orders (next s event actor (rows.Made proc made)) proc (desk_made made) (ap (λ (b : Bool). on_desk proc (desks_made b made) s.desks) alone) (λ desk. refl) (λ doc. refl))
      viewed
