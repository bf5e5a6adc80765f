-- Documents that no navigable shows rest, from row to row.
use Rattle.std.proofs.Common.{◌≡◌, ℕ, Bool, true, false, cond, ◌==◌, List, [], ◌∷◌, map, length, Option, Some, None, refl, sym, ap, ◌∙◌, subst}
use Rattle.std.specs.Prelude.{filter, option_map, slice_get}
use Rattle.std.proofs.lemmas.Bool.{eqb-true}
use Rattle.std.proofs.lemmas.List.{map-id}
use Rattle.tab_ids.specs.declared.DocId.{DocId}
use Rattle.tab_ids.specs.declared.ProcId.{ProcId}
use Rattle.log_model.specs.declared.job.Job.{Job}
use Rattle.log_model.specs.declared.job.Order.{Order}
use Rattle.log_model.specs.declared.made.Made.{Made}
use Rattle.log_model.specs.declared.outcome.Outcome.{Outcome}
use Rattle.log_model.specs.declared.outcome.Outcome.TheVariants as outcomes
use Rattle.log_model.specs.declared.row_kind.Actor.{Actor}
use Rattle.log_model.specs.declared.row_kind.RowKind.{RowKind}
use Rattle.log_model.specs.declared.row_kind.RowKind.TheVariants as rows
use Rattle.log_model.specs.After.{after, follows_finished, desk_taken, desk_finished, desk_made}
use Rattle.log_model.specs.AfterDocuments.{task_in_hand, view_finished}
use Rattle.log_model.specs.Seen.{Seen, Document, Desk, document_of, desk_of}
use Rattle.log_model.specs.Views.{View, after_made}
use Rattle.log_model.proofs.Refl.{nat_eq_refl}
use Rattle.seen_facts.specs.Coord.Leading.{is_live_order}
use Rattle.seen_facts.proofs.Coord.Kept.{IsInHand, is_mine}
use Rattle.seen_facts.proofs.Coord.Leadings.{proc_same}
use Rattle.seen_facts.proofs.Coord.OneDocument.{orders_taken}
use Rattle.seen_facts.proofs.Coord.Unread.{DesksLeft}
use Rattle.seen_laws.proofs.Desks.{desk_on_same, desk_on_other}
use Rattle.seen_facts.specs.Rest.Resting.{will_run, is_swept, EachRests}
use Rattle.seen_facts.proofs.Rest.Running.{made_runs, finished_run_own, finished_run_other}
use Rattle.seen_facts.proofs.Rest.Again.{RanSo, rests_again, same_shown, was_of, KeepsRunning, keeps_at, old_states, swept_before, rests_left, orders_left, orders_on, its_number}

-- nothing is changed
unchanged : KeepsRunning (λ d. d)
unchanged = record { nr = λ d. refl; proc = λ d. refl; state = λ d. refl; discarded = λ d. refl; runs = λ d. refl }

module _ (s : Seen) (event : ℕ) (actor : Actor) (each : EachRests s) where
  abbrev pub then_ : RowKind → Seen
  then_ kind = after s (record { event = event; actor = actor; row = kind })

  -- rows that change inputs alone
  pub left_rests : (kind : RowKind) → DesksLeft s (then_ kind) → (then_ kind).documents ≡ s.documents → (then_ kind).places ≡ s.places → (then_ kind).history ≡ s.history → EachRests (then_ kind)
  left_rests kind left documents places history =
      rests_left s (then_ kind) (λ d. d) unchanged (documents ∙ sym (map-id s.documents)) (orders_left s (then_ kind) left) (old_states s (then_ kind) (ap (λ h. h.rows) history)) (same_shown s (then_ kind) places) each

  -- ---- what processes do

  pub taken_rests : (proc : ProcId) (job : Job) (dirty : Bool) → (desk_of s proc).in_hand ≡ None → slice_get (desk_of s proc).mail 0 ≡ Some job → EachRests (then_ (rows.Taken proc job.nr true dirty))
  taken_rests proc job dirty free first =
      rests_left s (then_ (rows.Taken proc job.nr true dirty)) (λ d. d) unchanged (sym (map-id s.documents)) (orders_on s (then_ (rows.Taken proc job.nr true dirty)) proc (desk_taken true dirty) refl (λ desk. refl) (λ doc. ap (λ (l : List Job). filter (is_live_order doc (length (desk_of s proc).killed)) l) (orders_taken (desk_of s proc) job dirty free first))) (old_states s (then_ (rows.Taken proc job.nr true dirty)) refl) (same_shown s (then_ (rows.Taken proc job.nr true dirty)) refl) each

  pub made_rests : (proc : ProcId) (made : Made) → follows_finished s (record { event = event; actor = actor; row = rows.Made proc made }) ≡ false → EachRests (then_ (rows.Made proc made))
  made_rests proc made apart =
      rests_left s (then_ (rows.Made proc made)) _ (keeps_at made.doc (λ d. record d { view = option_map (λ (view : View). after_made view made.what) d.view }) (record { nr = λ d. refl; proc = λ d. refl; state = λ d. refl; discarded = λ d. refl; runs = λ d. made_runs d.view made.what })) refl (orders_on s (then_ (rows.Made proc made)) proc (desk_made made) (rw apart refl) (λ desk. refl) (λ doc. refl)) (old_states s (then_ (rows.Made proc made)) refl) (same_shown s (then_ (rows.Made proc made)) refl) each

  -- the order in hand is finished
  module _ (proc : ProcId) (order : Order) (outcome : Outcome) (in_ : IsInHand s proc order) where
    abbrev finish : Seen
    finish = then_ (rows.Finished proc order.job.nr outcome)

    -- of a document but this order's nothing changes; of its own the view, and maybe the slot
    record IsOnce (g : Document → Document) : Type 0 where
      nr : (d : Document) → (g d).nr ≡ d.nr
      proc_same_ : (d : Document) → (g d).proc ≡ d.proc
      state : (d : Document) → (g d).state ≡ d.state
      discarded : (d : Document) → (g d).is_discarded ≡ d.is_discarded
      own : (d : Document) → (d.nr.0 == order.job.doc.0) ≡ true → (g d).view ≡ view_finished d order.job.task
      other : (d : Document) → (d.nr.0 == order.job.doc.0) ≡ false → g d ≡ d

    desk_then : desk_of finish proc ≡ desk_finished outcome (desk_of s proc)
    desk_then = desk_on_same (desk_finished outcome) s.desks proc (λ desk. refl)

    once_rests : (g : Document → Document) → IsOnce g → finish.documents ≡ map g s.documents → EachRests finish
    once_rests g once documents = rests_again s finish ran (same_shown s finish refl) each
      where
        swept_of : (doc : DocId) (before : Document) → document_of s doc ≡ Some before → is_swept finish (g before) ≡ true → is_swept s before ≡ true
        swept_of doc before there = swept_before s finish doc before (g before) (old_states s finish refl) there (once.state before) (once.discarded before)

        by_doc : (doc : DocId) (before : Document) → document_of s doc ≡ Some before → (b : Bool) → (before.nr.0 == order.job.doc.0) ≡ b → will_run (desk_of finish (g before).proc) (g before) ≡ will_run (desk_of s before.proc) before
        by_doc doc before there true e =
            let number : before.nr.0 ≡ order.job.doc.0 = eqb-true before.nr.0 order.job.doc.0 e in
            let nr : before.nr ≡ order.job.doc = ap (λ (n : ℕ). let x : DocId = record { 0 = n } in x) number in
            let found : document_of s order.job.doc ≡ Some before = ap (document_of s) (sym nr ∙ its_number s doc before there) ∙ there in
            let home : before.proc ≡ proc = in_.home before found in
            let lives : is_live_order before.nr (length (desk_of s proc).killed) order.job ≡ true = is_mine before.nr (length (desk_of s proc).killed) order.job (ap (λ (n : DocId). n.0) (sym nr)) in_.lives in
            ap (λ (p : ProcId). will_run (desk_of finish p) (g before)) (once.proc_same_ before ∙ home)
            ∙ ap (λ (d : Desk). will_run d (g before)) desk_then
            ∙ finished_run_own (desk_of s proc) order outcome before (g before) in_.hand lives (once.nr before) (once.own before e)
            ∙ ap (λ (p : ProcId). will_run (desk_of s p) before) (sym home)
        by_doc doc before there false e =
            ap (λ (x : Document). will_run (desk_of finish x.proc) x) (once.other before e) ∙ by_process (proc.0 == before.proc.0) refl
          where
            turned : (order.job.doc.0 == before.nr.0) ≡ false
            turned = by_test (order.job.doc.0 == before.nr.0) refl
              where
                by_test : (c : Bool) → (order.job.doc.0 == before.nr.0) ≡ c → (order.job.doc.0 == before.nr.0) ≡ false
                by_test false f = f
                by_test true f =
                    let number : order.job.doc.0 ≡ before.nr.0 = eqb-true order.job.doc.0 before.nr.0 f in
                    let no_ : true ≡ false = sym (subst (λ (n : ℕ). (before.nr.0 == n) ≡ true) (sym number) (nat_eq_refl before.nr.0)) ∙ e in cc

            by_process : (c : Bool) → (proc.0 == before.proc.0) ≡ c → will_run (desk_of finish before.proc) before ≡ will_run (desk_of s before.proc) before
            by_process true f =
                let same : proc ≡ before.proc = proc_same proc before.proc f in
                subst (λ (p : ProcId). will_run (desk_of finish p) before ≡ will_run (desk_of s p) before) same (ap (λ (d : Desk). will_run d before) desk_then ∙ finished_run_other (desk_of s proc) order outcome before in_.hand turned)
            by_process false f = ap (λ (d : Desk). will_run d before) (desk_on_other (desk_finished outcome) s.desks proc before.proc (λ desk. refl) f)

        ran : (doc : DocId) (d : Document) → document_of finish doc ≡ Some d → RanSo s finish doc d
        ran doc d found =
            let w = was_of s finish g once.nr documents doc d found in
            subst (λ (x : Document). RanSo s finish doc x) w.is (record { before = w.before; there = w.there; runs = by_doc doc w.before w.there (w.before.nr.0 == order.job.doc.0) refl; swept = swept_of doc w.before w.there })

    abbrev viewed : Document → Document
    viewed d = cond (d.nr.0 == order.job.doc.0) (record d { view = view_finished d order.job.task }) d

    abbrev slotted : Option ℕ → Document → Document
    slotted slot d = cond (d.nr.0 == order.job.doc.0) (record d { slot = slot }) d

    once_viewed : IsOnce viewed
    once_viewed =
        record {
          nr = λ d. elim (d.nr.0 == order.job.doc.0) as (λ b. (let x : Document = cond b (record d { view = view_finished d order.job.task }) d in x).nr ≡ d.nr) [ true ↦ refl | false ↦ refl ];
          proc_same_ = λ d. elim (d.nr.0 == order.job.doc.0) as (λ b. (let x : Document = cond b (record d { view = view_finished d order.job.task }) d in x).proc ≡ d.proc) [ true ↦ refl | false ↦ refl ];
          state = λ d. elim (d.nr.0 == order.job.doc.0) as (λ b. (let x : Document = cond b (record d { view = view_finished d order.job.task }) d in x).state ≡ d.state) [ true ↦ refl | false ↦ refl ];
          discarded = λ d. elim (d.nr.0 == order.job.doc.0) as (λ b. (let x : Document = cond b (record d { view = view_finished d order.job.task }) d in x).is_discarded ≡ d.is_discarded) [ true ↦ refl | false ↦ refl ];
          own = λ d e. ap (λ b. (let x : Document = cond b (record d { view = view_finished d order.job.task }) d in x).view) e;
          other = λ d e. ap (λ b. cond b (record d { view = view_finished d order.job.task }) d) e;
        }

    once_slotted : (slot : Option ℕ) → IsOnce (λ (d : Document). slotted slot (viewed d))
    once_slotted slot =
        record {
          nr = λ d. slot_nr (viewed d) ∙ once_viewed.nr d;
          proc_same_ = λ d. slot_proc (viewed d) ∙ once_viewed.proc_same_ d;
          state = λ d. slot_state (viewed d) ∙ once_viewed.state d;
          discarded = λ d. slot_discarded (viewed d) ∙ once_viewed.discarded d;
          own = λ d e. slot_view (viewed d) ∙ once_viewed.own d e;
          other = λ d e. ap (slotted slot) (once_viewed.other d e) ∙ ap (λ b. cond b (record d { slot = slot }) d) e;
        }
      where
        slot_nr : (d : Document) → (slotted slot d).nr ≡ d.nr
        slot_nr d = elim (d.nr.0 == order.job.doc.0) as (λ b. (let x : Document = cond b (record d { slot = slot }) d in x).nr ≡ d.nr) [ true ↦ refl | false ↦ refl ]

        slot_proc : (d : Document) → (slotted slot d).proc ≡ d.proc
        slot_proc d = elim (d.nr.0 == order.job.doc.0) as (λ b. (let x : Document = cond b (record d { slot = slot }) d in x).proc ≡ d.proc) [ true ↦ refl | false ↦ refl ]

        slot_state : (d : Document) → (slotted slot d).state ≡ d.state
        slot_state d = elim (d.nr.0 == order.job.doc.0) as (λ b. (let x : Document = cond b (record d { slot = slot }) d in x).state ≡ d.state) [ true ↦ refl | false ↦ refl ]

        slot_discarded : (d : Document) → (slotted slot d).is_discarded ≡ d.is_discarded
        slot_discarded d = elim (d.nr.0 == order.job.doc.0) as (λ b. (let x : Document = cond b (record d { slot = slot }) d in x).is_discarded ≡ d.is_discarded) [ true ↦ refl | false ↦ refl ]

        slot_view : (d : Document) → (slotted slot d).view ≡ d.view
        slot_view d = elim (d.nr.0 == order.job.doc.0) as (λ b. (let x : Document = cond b (record d { slot = slot }) d in x).view ≡ d.view) [ true ↦ refl | false ↦ refl ]

    map_both : (f g : Document → Document) (xs : List Document) → map g (map f xs) ≡ map (λ (x : Document). g (f x)) xs
    map_both f g [] = refl
    map_both f g (x ∷ xs) = ap (λ l. g (f x) ∷ l) (map_both f g xs)

    job_is : task_in_hand s proc ≡ Some order.job
    job_is = ap (λ (o : Option Order). option_map (λ (x : Order). x.job) o) in_.hand

    pub finished_rests : EachRests finish
    finished_rests = by_outcome outcome refl
      where
        by_outcome : (u : Outcome) → outcome ≡ u → EachRests finish
        by_outcome (outcomes.Populated slot) e = once_rests (λ (d : Document). slotted slot (viewed d)) (once_slotted slot) (rw (job_is, e) (map_both viewed (slotted slot) s.documents))
        by_outcome outcomes.Activated e = once_rests viewed once_viewed (rw (job_is, e) refl)
        by_outcome outcomes.Updated e = once_rests viewed once_viewed (rw (job_is, e) refl)
        by_outcome outcomes.Frozen e = once_rests viewed once_viewed (rw (job_is, e) refl)
        by_outcome outcomes.Discarded e = once_rests viewed once_viewed (rw (job_is, e) refl)
        by_outcome (outcomes.Asked verdict) e = once_rests viewed once_viewed (rw (job_is, e) refl)
        by_outcome outcomes.Fragmented e = once_rests viewed once_viewed (rw (job_is, e) refl)
