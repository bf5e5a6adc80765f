-- Fragment orders find their documents running over each row that sends no order: what users and processes do, requests that begin or end, reports but of a death, changes that are applied; and as the tab opens.
use Rattle.seen_facts.proofs.Coord.Kept.{IsInHand, is_mine}
use Rattle.seen_facts.proofs.Coord.Leadings.{doc_same, proc_same}
use Rattle.seen_facts.proofs.Coord.OneDocument.{orders_finished_other, orders_finished_own, orders_taken}
use Rattle.seen_facts.proofs.Coord.TakenUp.{turned}
use Rattle.seen_facts.proofs.Coord.Unread.{DesksLeft, accepted_left, answered_left, dropped_left, evicted_left, next, prompted_left, refused_left, started_left}
use Rattle.seen_facts.specs.Coord.Leading.{is_live_order, orders_for}
use Rattle.seen_facts.proofs.Desk.Stays.{NoDeath}
use Rattle.seen_facts.proofs.Doc.Lives.{change_as, change_keeps, takes_in}
use Rattle.log_model.specs.After.{desk_delivered, desk_finished, desk_taken, desks_made, follows_finished}
use Rattle.log_model.specs.AfterDocuments.{documents_delivered, documents_finished, slot_finished, task_in_hand, view_finished}
use Rattle.log_model.specs.Seen.{Desk, Document, Seen, desk_in, desk_of, document_of, empty_desk, nothing}
use Rattle.log_model.specs.Views.{View, after_made}
use Rattle.log_model.specs.declared.change.Change.{Change}
use Rattle.log_model.specs.declared.job.Job.{Job}
use Rattle.log_model.specs.declared.job.Order.{Order}
use Rattle.log_model.specs.declared.made.Made.{Made}
use Rattle.log_model.specs.declared.made.Report.{Report}
use Rattle.log_model.specs.declared.made.Report.TheVariants as reports
use Rattle.log_model.specs.declared.outcome.Cause.{Cause}
use Rattle.log_model.specs.declared.outcome.Denial.{Denial}
use Rattle.log_model.specs.declared.outcome.Outcome.{Outcome}
use Rattle.log_model.specs.declared.outcome.Outcome.TheVariants as outcomes
use Rattle.log_model.specs.declared.request.Request.{Request}
use Rattle.log_model.specs.declared.row_kind.Actor.{Actor}
use Rattle.log_model.specs.declared.row_kind.RowKind.{RowKind}
use Rattle.log_model.specs.declared.row_kind.RowKind.TheVariants as rows
use Rattle.seen_facts.proofs.Rest.Again.{its_number, orders_left, orders_on}
use Rattle.seen_facts.proofs.Rest.Running.{finished_runs, made_runs}
use Rattle.seen_facts.specs.Rest.Resting.{runs_in}
use Rattle.tab_facts.proofs.Running.Again.{AreKeptRunning, found_by, kept_on, kept_running, kept_same}
use Rattle.tab_facts.proofs.Running.Lists.{finds_alike}
use Rattle.tab_facts.specs.Running.Running.{AreFoundRunning, EachFinds, IsFoundRunning}
use Rattle.seen_laws.proofs.Desks.{desk_on_other, desk_on_same}
use Rattle.std.proofs.Common.{Bool, List, None, Option, Some, [], ap, cond, false, length, map, refl, subst, sym, true, ℕ, ◌==◌, ◌∙◌, ◌∷◌, ◌≡◌}
use Rattle.std.specs.Prelude.{filter, option_map, slice_get}
use Rattle.tab_ids.specs.declared.DocId.{DocId}
use Rattle.tab_ids.specs.declared.EntryId.{EntryId}
use Rattle.tab_ids.specs.declared.ProcId.{ProcId}
use Rattle.tab_ids.specs.declared.ReqId.{ReqId}
use Rattle.tab_ids.specs.declared.StateId.{StateId}
use Rattle.tab_ids.specs.declared.Step.{Step}

-- ---- documents

-- a delivered report, but of a death, leaves whether they run
delivered_kept : (documents : List Document) (report : Option Report) → NoDeath report → AreKeptRunning documents (documents_delivered documents report)
delivered_kept documents None fine = kept_same documents
delivered_kept documents (Some (reports.Died death)) never = absurd never
delivered_kept documents (Some (reports.Made made)) fine = kept_same documents
delivered_kept documents (Some (reports.Done job outcome made)) fine = by_outcome outcome
  where
    by_outcome : (u : Outcome) → AreKeptRunning documents (documents_delivered documents (Some (reports.Done job u made)))
    by_outcome (outcomes.Populated slot) =
        kept_on job.doc (λ (d : Document). record d { is_ready = true; is_fresh = true }) documents (record { nr = λ d. refl; proc = λ d. refl; runs = λ d. refl })
    by_outcome outcomes.Activated = kept_same documents
    by_outcome outcomes.Updated = kept_same documents
    by_outcome outcomes.Frozen = kept_same documents
    by_outcome outcomes.Discarded = kept_same documents
    by_outcome (outcomes.Asked verdict) = kept_same documents
    by_outcome outcomes.Fragmented = kept_same documents

-- so does the handler slot of a document that was made
slot_kept : (documents : List Document) (job : Job) (outcome : Outcome) → AreKeptRunning documents (slot_finished documents (Some job) outcome)
slot_kept documents job (outcomes.Populated slot) =
    kept_on job.doc (λ (d : Document). record d { slot = slot }) documents (record { nr = λ d. refl; proc = λ d. refl; runs = λ d. refl })
slot_kept documents job outcomes.Activated = kept_same documents
slot_kept documents job outcomes.Updated = kept_same documents
slot_kept documents job outcomes.Frozen = kept_same documents
slot_kept documents job outcomes.Discarded = kept_same documents
slot_kept documents job (outcomes.Asked verdict) = kept_same documents
slot_kept documents job outcomes.Fragmented = kept_same documents

-- a change leaves it, too
changed_kept : (change : Change) (s t : Seen) → t.documents ≡ map (takes_in change) s.documents → AreKeptRunning s.documents t.documents
changed_kept change s t are =
    record {
      g = takes_in change;
      keeps = record { nr = λ d. (change_as change d).nr; proc = λ d. (change_keeps change).proc d; runs = λ d. ap runs_in (change_as change d).view };
      are = are;
    }

module _ (s : Seen) (event : ℕ) (actor : Actor) (are : AreFoundRunning s) where
  abbrev then_ : RowKind → Seen
  then_ kind = next s event actor kind

  -- ---- the user's events, and requests that begin or end

  -- rows that change inputs alone
  left_running : (kind : RowKind) → DesksLeft s (then_ kind) → (then_ kind).documents ≡ s.documents → AreFoundRunning (then_ kind)
  left_running kind left documents =
      kept_running s (then_ kind) (subst (λ (l : List Document). AreKeptRunning s.documents l) (sym documents) (kept_same s.documents)) (orders_left s (then_ kind) left) are

  pub accepted_running : (req : ReqId) (doc : Option DocId) (what : Request) → AreFoundRunning (then_ (rows.Accepted req doc what))
  accepted_running req doc what =
      left_running (rows.Accepted req doc what) (accepted_left s event actor req doc what) refl

  pub started_running : (req : ReqId) (goal : Option Step) → AreFoundRunning (then_ (rows.Started req goal))
  started_running req goal = left_running (rows.Started req goal) (started_left s event actor req goal) refl

  pub refused_running : (req : ReqId) (reason : Denial) → AreFoundRunning (then_ (rows.Refused req reason))
  refused_running req reason = left_running (rows.Refused req reason) (refused_left s event actor req reason) refl

  pub dropped_running : (req : ReqId) (cause : Cause) → AreFoundRunning (then_ (rows.Dropped req cause))
  dropped_running req cause = left_running (rows.Dropped req cause) (dropped_left s event actor req cause) refl

  pub prompted_running : (req : ReqId) (doc : DocId) → AreFoundRunning (then_ (rows.Prompted req doc))
  prompted_running req doc = left_running (rows.Prompted req doc) (prompted_left s event actor req doc) refl

  pub answered_running : (req : ReqId) (stay : Bool) → AreFoundRunning (then_ (rows.Answered req stay))
  answered_running req stay = left_running (rows.Answered req stay) (answered_left s event actor req stay) refl

  pub evicted_running : (state : StateId) → AreFoundRunning (then_ (rows.Evicted state))
  evicted_running state = left_running (rows.Evicted state) (evicted_left s event actor state) refl

  pub applied_running : (req : ReqId) (change : Change) → AreFoundRunning (then_ (rows.Applied req change))
  applied_running req change =
      kept_running s (then_ (rows.Applied req change)) (changed_kept change s (then_ (rows.Applied req change)) refl) (λ proc doc. refl) are

  -- ---- reports

  pub delivered_running : (proc : ProcId) → NoDeath (slice_get (desk_of s proc).reports 0) → AreFoundRunning (then_ (rows.Delivered proc))
  delivered_running proc no_death =
      kept_running s (then_ (rows.Delivered proc)) (delivered_kept s.documents (slice_get (desk_of s proc).reports 0) no_death) (orders_on s (then_ (rows.Delivered proc)) proc desk_delivered refl (λ desk. refl) (λ doc. refl)) are

  -- ---- what processes do

  pub taken_running : (proc : ProcId) (job : Job) (dirty : Bool) → (desk_of s proc).in_hand ≡ None → slice_get (desk_of s proc).mail 0 ≡ Some job → AreFoundRunning (then_ (rows.Taken proc job.nr true dirty))
  taken_running proc job dirty free first =
      kept_running s t (kept_same s.documents) (orders_on s t proc (desk_taken true dirty) refl (λ desk. refl) (λ doc. ap (λ (l : List Job). filter (is_live_order doc (length (desk_of s proc).killed)) l) (orders_taken (desk_of s proc) job dirty free first))) are
    where
      t : Seen
      t = then_ (rows.Taken proc job.nr true dirty)

  -- something is made of a poke, or of the order that was finished just before
  pub made_running : (proc : ProcId) (made : Made) → AreFoundRunning (then_ (rows.Made proc made))
  made_running proc made =
      kept_running s t (kept_on made.doc (λ d. record d { view = option_map (λ (view : View). after_made view made.what) d.view }) s.documents (record { nr = λ d. refl; proc = λ d. refl; runs = λ d. made_runs d.view made.what })) (orders_on s t proc (desks_made joins made) refl (made_proc joins) (made_orders joins)) are
    where
      t : Seen
      t = then_ (rows.Made proc made)

      joins : Bool
      joins = follows_finished s (record { event = event; actor = actor; row = rows.Made proc made })

      made_proc : (b : Bool) (desk : Desk) → (desks_made b made desk).proc ≡ desk.proc
      made_proc true desk = refl
      made_proc false desk = refl

      made_orders : (b : Bool) (doc : DocId) → orders_for (desks_made b made (desk_of s proc)) doc ≡ orders_for (desk_of s proc) doc
      made_orders true doc = refl
      made_orders false doc = refl

  -- the order in hand is finished
  module _ (proc : ProcId) (order : Order) (outcome : Outcome) (in_ : IsInHand s proc order) where
    abbrev finish : Seen
    finish = then_ (rows.Finished proc order.job.nr outcome)

    -- but for the handler slot
    abbrev unslotted : Seen
    unslotted = record finish { documents = documents_finished s.documents (Some order.job) }

    abbrev viewed : Document → Document
    viewed d = cond (d.nr.0 == order.job.doc.0) (record d { view = view_finished d order.job.task }) d

    desk_then : desk_of unslotted proc ≡ desk_finished outcome (desk_of s proc)
    desk_then = desk_on_same (desk_finished outcome) s.desks proc (λ desk. refl)

    -- of its own document the others are left, as it has left that
    own : (d : Document) → document_of s order.job.doc ≡ Some d → d.nr ≡ order.job.doc → IsFoundRunning (desk_of s d.proc) d → IsFoundRunning (desk_of unslotted d.proc) (record d { view = view_finished d order.job.task })
    own d found nr is =
        subst (λ (k : Desk). EachFinds (runs_in (view_finished d order.job.task)) (orders_for k d.nr)) (sym (ap (desk_of unslotted) home ∙ desk_then))
        (subst (λ (r : Option Bool). EachFinds r (orders_for (desk_finished outcome (desk_of s proc)) d.nr)) (sym (finished_runs d order.job.task)) all.1)
      where
        home : d.proc ≡ proc
        home = in_.home d found

        lives : is_live_order d.nr (length (desk_of s proc).killed) order.job ≡ true
        lives = is_mine d.nr (length (desk_of s proc).killed) order.job (ap (λ (n : DocId). n.0) (sym nr)) in_.lives

        here : EachFinds (runs_in d.view) (orders_for (desk_of s proc) d.nr)
        here = subst (λ (p : ProcId). EachFinds (runs_in d.view) (orders_for (desk_of s p) d.nr)) home is

        all : EachFinds (runs_in d.view) (order.job ∷ orders_for (desk_finished outcome (desk_of s proc)) d.nr)
        all = subst (λ (l : List Job). EachFinds (runs_in d.view) l) (sym (orders_finished_own (desk_of s proc) order outcome d.nr in_.hand lives)) here

    -- those of the others are as they were
    other : (d : Document) → (d.nr.0 == order.job.doc.0) ≡ false → IsFoundRunning (desk_of s d.proc) d → IsFoundRunning (desk_of unslotted d.proc) d
    other d e is = finds_alike (desk_of s d.proc) (desk_of unslotted d.proc) d d (by_process (proc.0 == d.proc.0) refl) refl is
      where
        by_process : (b : Bool) → (proc.0 == d.proc.0) ≡ b → orders_for (desk_of unslotted d.proc) d.nr ≡ orders_for (desk_of s d.proc) d.nr
        by_process true f =
            let same : proc ≡ d.proc = proc_same proc d.proc f in
            subst (λ (p : ProcId). orders_for (desk_of unslotted p) d.nr ≡ orders_for (desk_of s p) d.nr) same (ap (λ (k : Desk). orders_for k d.nr) desk_then ∙ orders_finished_other (desk_of s proc) order outcome d.nr in_.hand (turned d.nr.0 order.job.doc.0 e))
        by_process false f =
            ap (λ (k : Desk). orders_for k d.nr) (desk_on_other (desk_finished outcome) s.desks proc d.proc (λ desk. refl) f)

    unslotted_running : AreFoundRunning unslotted
    unslotted_running = found_by s unslotted viewed viewed_nr refl again
      where
        viewed_nr : (d : Document) → (viewed d).nr ≡ d.nr
        viewed_nr d = elim (d.nr.0 == order.job.doc.0) as (λ b. (let x : Document = cond b (record d { view = view_finished d order.job.task }) d in x).nr ≡ d.nr) [ true ↦ refl | false ↦ refl ]

        again : (doc : DocId) (d : Document) → document_of s doc ≡ Some d → IsFoundRunning (desk_of unslotted (viewed d).proc) (viewed d)
        again doc d there = by_test (d.nr.0 == order.job.doc.0) refl
          where
            by_test : (b : Bool) → (d.nr.0 == order.job.doc.0) ≡ b → IsFoundRunning (desk_of unslotted (viewed d).proc) (viewed d)
            by_test true e =
                let nr : d.nr ≡ order.job.doc = doc_same d.nr order.job.doc e in
                let found : document_of s order.job.doc ≡ Some d = ap (document_of s) (sym nr ∙ its_number s doc d there) ∙ there in
                subst (λ (b : Bool). (let x : Document = cond b (record d { view = view_finished d order.job.task }) d in IsFoundRunning (desk_of unslotted x.proc) x)) (sym e) (own d found nr (are doc d there))
            by_test false e =
                subst (λ (b : Bool). (let x : Document = cond b (record d { view = view_finished d order.job.task }) d in IsFoundRunning (desk_of unslotted x.proc) x)) (sym e) (other d e (are doc d there))

    pub finished_running : AreFoundRunning finish
    finished_running =
        kept_running unslotted finish (subst (λ (l : List Document). AreKeptRunning unslotted.documents l) documents (slot_kept unslotted.documents order.job outcome)) (λ p doc. refl) unslotted_running
      where
        job_is : task_in_hand s proc ≡ Some order.job
        job_is = ap (λ (o : Option Order). option_map (λ (x : Order). x.job) o) in_.hand

        documents : slot_finished (documents_finished s.documents (Some order.job)) (Some order.job) outcome ≡ finish.documents
        documents = ap (λ (o : Option Job). slot_finished (documents_finished s.documents o) o outcome) (sym job_is)

-- ---- the opening: no order is on its way

pub opened_running : (event : ℕ) (actor : Actor) (entry : EntryId) (state : StateId) (doc : DocId) (proc : ProcId) (slot : Option ℕ) (address : List ℕ) → AreFoundRunning (next nothing event actor (rows.Opened entry state doc proc slot address))
opened_running event actor entry state doc proc slot address other d found =
    subst (λ (l : List Job). EachFinds (runs_in d.view) l) (sym (none d.proc)) tt
  where
    none : (p : ProcId) → orders_for (desk_in (empty_desk proc ∷ []) p) d.nr ≡ []
    none p = by_process (proc.0 == p.0)
      where
        by_process : (b : Bool) → orders_for (let k : Desk = cond b (empty_desk proc) (empty_desk p) in k) d.nr ≡ []
        by_process true = refl
        by_process false = refl
