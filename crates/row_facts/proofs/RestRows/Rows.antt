-- Documents rest over each row that sends no order, but for the same ones: what users and processes do, requests that begin or end, reports but of a death, changes that are applied; and all rest as the tab opens.
use Rattle.std.proofs.Common.{◌≡◌, ◌⊎◌, inl, inr, ℕ, Bool, true, false, cond, ◌==◌, List, [], ◌∷◌, map, length, Option, Some, None, refl, sym, ap, ◌∙◌, subst}
use Rattle.std.specs.Prelude.{filter, option_map, slice_get}
use Rattle.std.proofs.lemmas.List.{map-id}
use Rattle.tab_ids.specs.declared.DocId.{DocId}
use Rattle.tab_ids.specs.declared.EntryId.{EntryId}
use Rattle.tab_ids.specs.declared.ProcId.{ProcId}
use Rattle.tab_ids.specs.declared.ReqId.{ReqId}
use Rattle.tab_ids.specs.declared.StateId.{StateId}
use Rattle.tab_ids.specs.declared.Step.{Step}
use Rattle.log_model.specs.declared.change.Change.{Change}
use Rattle.log_model.specs.declared.job.Job.{Job}
use Rattle.log_model.specs.declared.job.Order.{Order}
use Rattle.log_model.specs.declared.made.Made.{Made}
use Rattle.log_model.specs.declared.made.Report.{Report}
use Rattle.log_model.specs.declared.made.Report.TheVariants as reports
use Rattle.log_model.specs.declared.outcome.Cause.{Cause}
use Rattle.log_model.specs.declared.outcome.Denial.{Denial}
use Rattle.log_model.specs.declared.outcome.Outcome.{Outcome}
use Rattle.log_model.specs.declared.outcome.Outcome.TheVariants as outcomes
use Rattle.log_model.specs.declared.request.Request.{Request}
use Rattle.log_model.specs.declared.row_kind.Actor.{Actor}
use Rattle.log_model.specs.declared.row_kind.RowKind.{RowKind}
use Rattle.log_model.specs.declared.row_kind.RowKind.TheVariants as rows
use Rattle.log_model.specs.After.{after, desk_delivered, desk_finished, desk_taken, desks_made, follows_finished}
use Rattle.log_model.specs.AfterDocuments.{documents_delivered, opening_document, task_in_hand, view_finished}
use Rattle.log_model.specs.AfterPlaces.{opening_place}
use Rattle.log_model.specs.Seen.{Desk, Document, Place, Seen, awake, desk_of, document_of, nothing, place_in}
use Rattle.log_model.specs.Views.{View, after_made}
use Rattle.seen_facts.specs.Coord.Leading.{is_live_order, orders_for}
use Rattle.seen_facts.proofs.Coord.Kept.{IsInHand, is_mine}
use Rattle.seen_facts.proofs.Coord.Leadings.{proc_same}
use Rattle.seen_facts.proofs.Coord.OneDocument.{orders_taken}
use Rattle.seen_facts.proofs.Coord.Unread.{DesksLeft, accepted_left, answered_left, dropped_left, evicted_left, prompted_left, refused_left, started_left}
use Rattle.seen_facts.proofs.Desk.Stays.{NoDeath}
use Rattle.seen_laws.proofs.Desks.{desk_on_other, desk_on_same}
use Rattle.seen_facts.specs.Hang.Members.{Has}
use Rattle.seen_facts.proofs.Hang.Members.{find_has}
use Rattle.seen_facts.proofs.Doc.Lives.{change_as, change_keeps, takes_in}
use Rattle.seen_facts.specs.Rest.Resting.{runs_in, will_run}
use Rattle.seen_facts.proofs.Rest.Again.{StayShown, its_number, orders_left, orders_on, same_shown}
use Rattle.seen_facts.proofs.Rest.Running.{finished_run_other, finished_run_own, made_runs, run_alike}
use Rattle.row_facts.specs.RestRows.Moving.{AllRest, RestBut}
use Rattle.row_facts.proofs.RestRows.Again.{doc_same, mapped_rests, turned}
use Rattle.row_facts.proofs.RestRows.Shown.{AllStayAwake, applied_awake, delivered_awake}

-- who is awake in the places stays so
stay_shown : (s t : Seen) (next : List Place) → t.places ≡ next → AllStayAwake s.places next → StayShown s t
stay_shown s t next are stay nav place doc there wakes =
    let a = stay nav place doc there wakes in
    (a.new, ap (λ (l : List Place). place_in l nav) are ∙ a.there, a.wakes)

-- a change that leaves number, process, and whether the view runs
record KeepsRun (g : Document → Document) : Type 0 where
  nr : (d : Document) → (g d).nr ≡ d.nr
  proc : (d : Document) → (g d).proc ≡ d.proc
  runs : (d : Document) → runs_in (g d).view ≡ runs_in d.view

itself_keeps : KeepsRun (λ d. d)
itself_keeps = record { nr = λ d. refl; proc = λ d. refl; runs = λ d. refl }

keeps_if : (test : Document → Bool) (f : Document → Document) → KeepsRun f → KeepsRun (λ (d : Document). cond (test d) (f d) d)
keeps_if test f keeps =
    record {
      nr = λ d. elim (test d) as (λ b. (let x : Document = cond b (f d) d in x).nr ≡ d.nr) [ true ↦ keeps.nr d | false ↦ refl ];
      proc = λ d. elim (test d) as (λ b. (let x : Document = cond b (f d) d in x).proc ≡ d.proc) [ true ↦ keeps.proc d | false ↦ refl ];
      runs = λ d. elim (test d) as (λ b. runs_in (let x : Document = cond b (f d) d in x).view ≡ runs_in d.view) [ true ↦ keeps.runs d | false ↦ refl ];
    }

-- where the orders that come to each document stay
kept_rests : (s t : Seen) (docs : List DocId) (g : Document → Document) → KeepsRun g → t.documents ≡ map g s.documents → ((proc : ProcId) (doc : DocId) → orders_for (desk_of t proc) doc ≡ orders_for (desk_of s proc) doc) → StayShown s t → RestBut docs s → RestBut docs t
kept_rests s t docs g keeps documents orders stay rest =
    mapped_rests s t docs g keeps.nr documents runs stay rest
  where
    runs : (doc : DocId) (d : Document) → document_of s doc ≡ Some d → will_run (desk_of t (g d).proc) (g d) ≡ will_run (desk_of s d.proc) d
    runs doc d there =
        ap (λ (p : ProcId). will_run (desk_of t p) (g d)) (keeps.proc d)
        ∙ run_alike (desk_of s d.proc) (desk_of t d.proc) d (g d) (ap (λ (n : DocId). orders_for (desk_of t d.proc) n) (keeps.nr d) ∙ orders d.proc d.nr) (keeps.runs d)

-- how the documents change as a report is delivered that tells of no death
record IsChanged (documents : List Document) (o : Option Report) : Type 0 where
  g : Document → Document
  keeps : KeepsRun g
  are : documents_delivered documents o ≡ map g documents

delivered_change : (documents : List Document) (o : Option Report) → NoDeath o → IsChanged documents o
delivered_change documents o no_death = by_report o no_death
  where
    by_report : (o : Option Report) → NoDeath o → IsChanged documents o
    by_report None fine = record { g = λ d. d; keeps = itself_keeps; are = sym (map-id documents) }
    by_report (Some (reports.Died death)) never = absurd never
    by_report (Some (reports.Made made)) fine = record { g = λ d. d; keeps = itself_keeps; are = sym (map-id documents) }
    by_report (Some (reports.Done job outcome made)) fine = by_outcome outcome
      where
        by_outcome : (u : Outcome) → IsChanged documents (Some (reports.Done job u made))
        by_outcome (outcomes.Populated slot) =
            record { g = λ (d : Document). cond (d.nr.0 == job.doc.0) (record d { is_ready = true; is_fresh = true }) d; keeps = keeps_if (λ (d : Document). d.nr.0 == job.doc.0) (λ d. record d { is_ready = true; is_fresh = true }) (record { nr = λ d. refl; proc = λ d. refl; runs = λ d. refl }); are = refl }
        by_outcome outcomes.Activated = record { g = λ d. d; keeps = itself_keeps; are = sym (map-id documents) }
        by_outcome outcomes.Updated = record { g = λ d. d; keeps = itself_keeps; are = sym (map-id documents) }
        by_outcome outcomes.Frozen = record { g = λ d. d; keeps = itself_keeps; are = sym (map-id documents) }
        by_outcome outcomes.Discarded = record { g = λ d. d; keeps = itself_keeps; are = sym (map-id documents) }
        by_outcome (outcomes.Asked verdict) = record { g = λ d. d; keeps = itself_keeps; are = sym (map-id documents) }
        by_outcome outcomes.Fragmented = record { g = λ d. d; keeps = itself_keeps; are = sym (map-id documents) }

module _ (s : Seen) (event : ℕ) (actor : Actor) (docs : List DocId) (rest : RestBut docs s) where
  abbrev pub then_ : RowKind → Seen
  then_ kind = after s (record { event = event; actor = actor; row = kind })

  -- ---- the user's events, and requests that begin or end

  -- rows that change inputs alone
  left_rests : (kind : RowKind) → DesksLeft s (then_ kind) → (then_ kind).documents ≡ s.documents → (then_ kind).places ≡ s.places → RestBut docs (then_ kind)
  left_rests kind left documents places =
      kept_rests s (then_ kind) docs (λ d. d) itself_keeps (documents ∙ sym (map-id s.documents)) (orders_left s (then_ kind) left) (same_shown s (then_ kind) places) rest

  pub accepted_rests : (req : ReqId) (doc : Option DocId) (what : Request) → RestBut docs (then_ (rows.Accepted req doc what))
  accepted_rests req doc what =
      left_rests (rows.Accepted req doc what) (accepted_left s event actor req doc what) refl refl

  pub started_rests : (req : ReqId) (goal : Option Step) → RestBut docs (then_ (rows.Started req goal))
  started_rests req goal = left_rests (rows.Started req goal) (started_left s event actor req goal) refl refl

  pub refused_rests : (req : ReqId) (reason : Denial) → RestBut docs (then_ (rows.Refused req reason))
  refused_rests req reason = left_rests (rows.Refused req reason) (refused_left s event actor req reason) refl refl

  pub dropped_rests : (req : ReqId) (cause : Cause) → RestBut docs (then_ (rows.Dropped req cause))
  dropped_rests req cause = left_rests (rows.Dropped req cause) (dropped_left s event actor req cause) refl refl

  pub prompted_rests : (req : ReqId) (doc : DocId) → RestBut docs (then_ (rows.Prompted req doc))
  prompted_rests req doc = left_rests (rows.Prompted req doc) (prompted_left s event actor req doc) refl refl

  pub answered_rests : (req : ReqId) (stay : Bool) → RestBut docs (then_ (rows.Answered req stay))
  answered_rests req stay = left_rests (rows.Answered req stay) (answered_left s event actor req stay) refl refl

  pub evicted_rests : (state : StateId) → RestBut docs (then_ (rows.Evicted state))
  evicted_rests state = left_rests (rows.Evicted state) (evicted_left s event actor state) refl refl

  pub applied_rests : (req : ReqId) (change : Change) → RestBut docs (then_ (rows.Applied req change))
  applied_rests req change =
      kept_rests s t docs (takes_in change) (record {
        nr = λ d. (change_as change d).nr;
        proc = λ d. (change_keeps change).proc d;
        runs = λ d. ap runs_in (change_as change d).view;
      }) refl (λ proc doc. refl) (stay_shown s t t.places refl (applied_awake s req change)) rest
    where
      t : Seen
      t = then_ (rows.Applied req change)

  -- ---- reports

  pub delivered_rests : (proc : ProcId) → NoDeath (slice_get (desk_of s proc).reports 0) → RestBut docs (then_ (rows.Delivered proc))
  delivered_rests proc no_death =
      kept_rests s t docs c.g c.keeps c.are (orders_on s t proc desk_delivered refl (λ desk. refl) (λ doc. refl)) (stay_shown s t t.places refl (delivered_awake s (slice_get (desk_of s proc).reports 0) no_death)) rest
    where
      t : Seen
      t = then_ (rows.Delivered proc)

      c : IsChanged s.documents (slice_get (desk_of s proc).reports 0)
      c = delivered_change s.documents (slice_get (desk_of s proc).reports 0) no_death

  -- ---- what processes do

  pub taken_rests : (proc : ProcId) (job : Job) (dirty : Bool) → (desk_of s proc).in_hand ≡ None → slice_get (desk_of s proc).mail 0 ≡ Some job → RestBut docs (then_ (rows.Taken proc job.nr true dirty))
  taken_rests proc job dirty free first =
      kept_rests s t docs (λ d. d) itself_keeps (sym (map-id s.documents)) (orders_on s t proc (desk_taken true dirty) refl (λ desk. refl) (λ doc. ap (λ (l : List Job). filter (is_live_order doc (length (desk_of s proc).killed)) l) (orders_taken (desk_of s proc) job dirty free first))) (same_shown s t refl) rest
    where
      t : Seen
      t = then_ (rows.Taken proc job.nr true dirty)

  -- something is made of a poke, or of the order that was finished just before
  pub made_rests : (proc : ProcId) (made : Made) → RestBut docs (then_ (rows.Made proc made))
  made_rests proc made =
      kept_rests s t docs _ (keeps_if (λ (d : Document). d.nr.0 == made.doc.0) (λ d. record d { view = option_map (λ (view : View). after_made view made.what) d.view }) (record { nr = λ d. refl; proc = λ d. refl; runs = λ d. made_runs d.view made.what })) refl (orders_on s t proc (desks_made joins made) refl (made_proc joins) (made_orders joins)) (same_shown s t refl) rest
    where
      t : Seen
      t = then_ (rows.Made proc made)

      joins : Bool
      joins = follows_finished s (record { event = event; actor = actor; row = rows.Made proc made })

      made_proc : (b : Bool) (desk : Desk) → (desks_made b made desk).proc ≡ desk.proc
      made_proc true desk = refl
      made_proc false desk = refl

      made_orders : (b : Bool) (doc : DocId) → orders_for (desks_made b made (desk_of s proc)) doc ≡ orders_for (desk_of s proc) doc
      made_orders true doc = refl
      made_orders false doc = refl

  -- the order in hand is finished
  module _ (proc : ProcId) (order : Order) (outcome : Outcome) (in_ : IsInHand s proc order) where
    abbrev pub finish : Seen
    finish = then_ (rows.Finished proc order.job.nr outcome)

    -- of a document but this order's nothing changes; of its own the view, and maybe the slot
    record IsOnce (g : Document → Document) : Type 0 where
      nr : (d : Document) → (g d).nr ≡ d.nr
      proc_same_ : (d : Document) → (g d).proc ≡ d.proc
      own : (d : Document) → (d.nr.0 == order.job.doc.0) ≡ true → (g d).view ≡ view_finished d order.job.task
      other : (d : Document) → (d.nr.0 == order.job.doc.0) ≡ false → g d ≡ d

    desk_then : desk_of finish proc ≡ desk_finished outcome (desk_of s proc)
    desk_then = desk_on_same (desk_finished outcome) s.desks proc (λ desk. refl)

    -- its own document runs as told
    run_own : (g : Document → Document) → IsOnce g → (d : Document) → document_of s d.nr ≡ Some d → (d.nr.0 == order.job.doc.0) ≡ true → will_run (desk_of finish (g d).proc) (g d) ≡ will_run (desk_of s d.proc) d
    run_own g once d there e =
        let nr : d.nr ≡ order.job.doc = doc_same d.nr order.job.doc e in
        let home : d.proc ≡ proc = in_.home d (ap (document_of s) (sym nr) ∙ there) in
        let lives : is_live_order d.nr (length (desk_of s proc).killed) order.job ≡ true = is_mine d.nr (length (desk_of s proc).killed) order.job (ap (λ (n : DocId). n.0) (sym nr)) in_.lives in
        ap (λ (p : ProcId). will_run (desk_of finish p) (g d)) (once.proc_same_ d ∙ home)
        ∙ ap (λ (x : Desk). will_run x (g d)) desk_then
        ∙ finished_run_own (desk_of s proc) order outcome d (g d) in_.hand lives (once.nr d) (once.own d e)
        ∙ ap (λ (p : ProcId). will_run (desk_of s p) d) (sym home)

    -- the others as they were to
    run_other : (d : Document) → (d.nr.0 == order.job.doc.0) ≡ false → will_run (desk_of finish d.proc) d ≡ will_run (desk_of s d.proc) d
    run_other d e = by_process (proc.0 == d.proc.0) refl
      where
        by_process : (c : Bool) → (proc.0 == d.proc.0) ≡ c → will_run (desk_of finish d.proc) d ≡ will_run (desk_of s d.proc) d
        by_process true f =
            let same : proc ≡ d.proc = proc_same proc d.proc f in
            subst (λ (p : ProcId). will_run (desk_of finish p) d ≡ will_run (desk_of s p) d) same (ap (λ (x : Desk). will_run x d) desk_then ∙ finished_run_other (desk_of s proc) order outcome d in_.hand (turned d.nr order.job.doc e))
        by_process false f = ap (λ (x : Desk). will_run x d) (desk_on_other (desk_finished outcome) s.desks proc d.proc (λ desk. refl) f)

    once_rests : (g : Document → Document) → IsOnce g → finish.documents ≡ map g s.documents → RestBut docs finish
    once_rests g once documents = mapped_rests s finish docs g once.nr documents runs (same_shown s finish refl) rest
      where
        runs : (doc : DocId) (d : Document) → document_of s doc ≡ Some d → will_run (desk_of finish (g d).proc) (g d) ≡ will_run (desk_of s d.proc) d
        runs doc d there = by_test (d.nr.0 == order.job.doc.0) refl
          where
            by_test : (b : Bool) → (d.nr.0 == order.job.doc.0) ≡ b → will_run (desk_of finish (g d).proc) (g d) ≡ will_run (desk_of s d.proc) d
            by_test true e = run_own g once d (ap (document_of s) (its_number s doc d there) ∙ there) e
            by_test false e = ap (λ (x : Document). will_run (desk_of finish x.proc) x) (once.other d e) ∙ run_other d e

    abbrev viewed : Document → Document
    viewed d = cond (d.nr.0 == order.job.doc.0) (record d { view = view_finished d order.job.task }) d

    abbrev slotted : Option ℕ → Document → Document
    slotted slot d = cond (d.nr.0 == order.job.doc.0) (record d { slot = slot }) d

    once_viewed : IsOnce viewed
    once_viewed =
        record {
          nr = λ d. elim (d.nr.0 == order.job.doc.0) as (λ b. (let x : Document = cond b (record d { view = view_finished d order.job.task }) d in x).nr ≡ d.nr) [ true ↦ refl | false ↦ refl ];
          proc_same_ = λ d. elim (d.nr.0 == order.job.doc.0) as (λ b. (let x : Document = cond b (record d { view = view_finished d order.job.task }) d in x).proc ≡ d.proc) [ true ↦ refl | false ↦ refl ];
          own = λ d e. ap (λ b. (let x : Document = cond b (record d { view = view_finished d order.job.task }) d in x).view) e;
          other = λ d e. ap (λ b. cond b (record d { view = view_finished d order.job.task }) d) e;
        }

    once_slotted : (slot : Option ℕ) → IsOnce (λ (d : Document). slotted slot (viewed d))
    once_slotted slot =
        record {
          nr = λ d. keeps.nr (viewed d) ∙ once_viewed.nr d;
          proc_same_ = λ d. keeps.proc (viewed d) ∙ once_viewed.proc_same_ d;
          own = λ d e. slot_view (viewed d) ∙ once_viewed.own d e;
          other = λ d e. ap (slotted slot) (once_viewed.other d e) ∙ ap (λ b. cond b (record d { slot = slot }) d) e;
        }
      where
        keeps : KeepsRun (slotted slot)
        keeps = keeps_if (λ (d : Document). d.nr.0 == order.job.doc.0) (λ d. record d { slot = slot }) (record { nr = λ d. refl; proc = λ d. refl; runs = λ d. refl })

        slot_view : (d : Document) → (slotted slot d).view ≡ d.view
        slot_view d = elim (d.nr.0 == order.job.doc.0) as (λ b. (let x : Document = cond b (record d { slot = slot }) d in x).view ≡ d.view) [ true ↦ refl | false ↦ refl ]

    map_both : (f g : Document → Document) (xs : List Document) → map g (map f xs) ≡ map (λ (x : Document). g (f x)) xs
    map_both f g [] = refl
    map_both f g (x ∷ xs) = ap (λ l. g (f x) ∷ l) (map_both f g xs)

    job_is : task_in_hand s proc ≡ Some order.job
    job_is = ap (λ (o : Option Order). option_map (λ (x : Order). x.job) o) in_.hand

    pub finished_rests : RestBut docs finish
    finished_rests = by_outcome outcome refl
      where
        by_outcome : (u : Outcome) → outcome ≡ u → RestBut docs finish
        by_outcome (outcomes.Populated slot) e = once_rests (λ (d : Document). slotted slot (viewed d)) (once_slotted slot) (rw (job_is, e) (map_both viewed (slotted slot) s.documents))
        by_outcome outcomes.Activated e = once_rests viewed once_viewed (rw (job_is, e) refl)
        by_outcome outcomes.Updated e = once_rests viewed once_viewed (rw (job_is, e) refl)
        by_outcome outcomes.Frozen e = once_rests viewed once_viewed (rw (job_is, e) refl)
        by_outcome outcomes.Discarded e = once_rests viewed once_viewed (rw (job_is, e) refl)
        by_outcome (outcomes.Asked verdict) e = once_rests viewed once_viewed (rw (job_is, e) refl)
        by_outcome outcomes.Fragmented e = once_rests viewed once_viewed (rw (job_is, e) refl)

-- ---- the opening: the one document is shown

pub opened_rests : (event : ℕ) (actor : Actor) (entry : EntryId) (state : StateId) (doc : DocId) (proc : ProcId) (slot : Option ℕ) (address : List ℕ) → AllRest (after nothing (record { event = event; actor = actor; row = rows.Opened entry state doc proc slot address }))
opened_rests event actor entry state doc proc slot address other d found unshown apart =
    absurd (unshown (record { 0 = 0 }) (opening_place entry doc) refl (ap awake (its has.0 has.1)))
  where
    has : (Has (opening_document entry state doc proc slot address ∷ []) d) × ((d.nr.0 == other.0) ≡ true)
    has = find_has (λ (x : Document). x.nr.0 == other.0) (opening_document entry state doc proc slot address ∷ []) d found

    its : (opening_document entry state doc proc slot address ≡ d) ⊎ ⊥ → (d.nr.0 == other.0) ≡ true → doc ≡ other
    its (inl same) e = ap (λ (x : Document). x.nr) same ∙ doc_same d.nr other e
    its (inr never) e = absurd never
