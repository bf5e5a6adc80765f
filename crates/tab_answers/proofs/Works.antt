-- A process takes up a question, or answers it: the table of unload checks stands for the log still, and the row passes.
use Rattle.asking_facts.proofs.Passed.{known_passed}
use Rattle.asking_facts.specs.Known.{AskingKnown}
use Rattle.asking_facts.specs.Waiting.{HandWaits, OrderWaits, SaysOf, Waits}
use Rattle.check_facts.proofs.Keeping.{finished_has, taken_has}
use Rattle.check_facts.proofs.Rows.{is_dropped, on_read_at}
use Rattle.check_facts.proofs.Ties.{all_same, tied_same}
use Rattle.check_facts.specs.Checking.{Checked, as_heard, checked_of, is_said}
use Rattle.check_facts.specs.Having.{OpenChecked}
use Rattle.check_facts.specs.Rows.{IsUndelivered}
use Rattle.checking_facts.proofs.Settles.{silent_waits}
use Rattle.checking_facts.proofs.Waits.{none_waits}
use Rattle.checking_facts.specs.Checks.{IsCalm, IsSilent, NumbersNext}
use Rattle.log_model.proofs.Refl.{nat_eq_refl, same_bool_refl}
use Rattle.log_model.specs.After.{after, documents_finished, slot_finished, view_finished}
use Rattle.log_model.specs.AfterRequests.{on_asking, on_served, requests_finished}
use Rattle.log_model.specs.Equal.{holds}
use Rattle.log_model.specs.Outcomes.{is_drop}
use Rattle.log_model.specs.Places.{all_asked, is_gone}
use Rattle.log_model.specs.Seen.{Asked, Asking, Document, Seen, desk_of, document_of, request_of}
use Rattle.log_model.specs.Views.{View}
use Rattle.log_model.specs.declared.handler.LeaveCause.{LeaveCause}
use Rattle.log_model.specs.declared.handler.Verdict.{Verdict}
use Rattle.log_model.specs.declared.header.Header.{Header}
use Rattle.log_model.specs.declared.job.Job.{Job}
use Rattle.log_model.specs.declared.job.Order.{Order}
use Rattle.log_model.specs.declared.job.Task.{Task}
use Rattle.log_model.specs.declared.job.Task.TheVariants as tasks
use Rattle.log_model.specs.declared.job.Why.TheVariants as whys
use Rattle.log_model.specs.declared.job.Why.{Why}
use Rattle.log_model.specs.declared.outcome.Outcome.TheVariants as outcomes
use Rattle.log_model.specs.declared.row_kind.Actor.TheVariants as actors
use Rattle.log_model.specs.declared.row_kind.LogRow.{LogRow}
use Rattle.log_model.specs.declared.row_kind.RowKind.{RowKind}
use Rattle.log_model.specs.declared.row_kind.RowKind.TheVariants as rows
use Rattle.seen_facts.proofs.Coord.Held.{fun_ext}
use Rattle.seen_facts.proofs.Each.Courses.{was_asked}
use Rattle.seen_facts.proofs.Request.Readers.{SameReads, finished_reads}
use Rattle.seen_facts.proofs.Walk.Aims.{gone_on}
use Rattle.seen_laws.specs.Blocks.{Passes}
use Rattle.seen_laws.specs.Unasked.{is_question}
use Rattle.std.proofs.Common.{Bool, List, None, Option, Some, [], ap, cond, false, length, map, refl, subst, sym, true, ℕ, ◌==◌, ◌∙◌, ◌∷◌, ◌≡◌}
use Rattle.std.proofs.lemmas.Bool.{and_parts}
use Rattle.std.specs.List.{list_all}
use Rattle.std.specs.Prelude.{option_map, slice_get}
use Rattle.tab_ids.specs.declared.DocId.{DocId}
use Rattle.tab_ids.specs.declared.ProcId.{ProcId}
use Rattle.tab_ids.specs.declared.ReqId.{ReqId}
use Rattle.tab_stands.specs.Checked.{ChecksStand}
use Rattle.unasked.proofs.Questions.{asks_so}
use Rattle.unasked_dues.specs.Checking.{NonePasses}
use Rattle.unload_check.specs.Checks.{OpenCheck}

-- who has an open question is in its check or was dropped, where all that a check reads is as it was
open_stays : (s t : Seen) → ((doc : DocId) → is_gone t doc ≡ is_gone s doc) → SameReads checked_of s.requests t.requests → SameReads is_dropped s.requests t.requests → OpenChecked s → OpenChecked t
open_stays s t gone reads drops open_ req x at is_open un =
    let q = was_asked checked_of s.requests t.requests reads req x at in
    let all : all_asked s q.0 ≡ false = sym (all_same s t q.0 x (fun_ext gone) (sym q.2)) ∙ is_open in
    let was : holds is_drop q.0.ending ≡ true = open_ req q.0 q.1 all (tied_same t s x q.0 (sym (fun_ext gone)) q.2 None un) in
    let both : Some (is_dropped x) ≡ Some (is_dropped q.0) = sym (ap (λ (o : Option Asked). option_map is_dropped o) at) ∙ drops req ∙ ap (λ (o : Option Asked). option_map is_dropped o) q.1 in
    some_same both ∙ was
  where
    some_same : {a b : Bool} → (let o : Option Bool = Some a in o) ≡ Some b → a ≡ b
    some_same e = cc

module _ (checking : ReqId → Bool) (header : Header) (s : Seen) (event : ℕ) (proc : ProcId) (es : List (ReqId × OpenCheck)) (asks : ChecksStand checking s es) (known : AskingKnown s) where
  abbrev its_row : RowKind → LogRow
  its_row kind = record { event = event; actor = actors.Proc proc; row = kind }

  abbrev then : RowKind → Seen
  then kind = after s (its_row kind)

  abbrev PassesAlone : RowKind → Type 0
  PassesAlone kind = Passes header (record { start = s; now = s; done = []; later = [] }) (its_row kind)

  -- a row of a process settles nothing
  calm_then : (kind : RowKind) → IsCalm kind → IsSilent s kind → NumbersNext s kind → NonePasses checking (then kind)
  calm_then kind calm silent next req q at runs goes on =
      silent_waits checking (λ r. false) s (its_row kind) calm silent next (none_waits checking s asks.calm (λ r. false)) req q at runs goes on refl

  -- ---- a question is taken up

  module _ (job : Job) (live dirty : Bool) (first : slice_get (desk_of s proc).mail 0 ≡ Some job) (free : (desk_of s proc).in_hand ≡ None) (lives : live ≡ (job.incarnation == length (desk_of s proc).killed)) (is_dirty : dirty ≡ holds (λ (d : Document). holds (λ (view : View). view.dirty) d.view) (document_of s job.doc)) where
    -- the row passes
    pub taken_alone : PassesAlone (rows.Taken proc job.nr live dirty)
    taken_alone =
        subst (λ (b : Bool). PassesAlone (rows.Taken proc job.nr b dirty)) (sym lives) (subst (λ (b : Bool). PassesAlone (rows.Taken proc job.nr (job.incarnation == length (desk_of s proc).killed) b)) (sym is_dirty) (record {
          formed = rw (nat_eq_refl proc.0, free, first) (rw (nat_eq_refl job.nr.0, same_bool_refl (job.incarnation == length (desk_of s proc).killed), same_bool_refl (holds (λ (d : Document). holds (λ (view : View). view.dirty) d.view) (document_of s job.doc))) refl);
          once = refl;
          caused = refl;
          queued = refl;
          ordered = refl;
          checked = refl;
          in_time = refl;
          suits = refl;
        }))

    -- the table stands for the log
    pub taken_asks : ChecksStand checking (then (rows.Taken proc job.nr live dirty)) es
    taken_asks =
        record {
          has = taken_has s event (actors.Proc proc) es proc job.nr live dirty asks.has;
          open_ = λ req q at is_open un. asks.open_ req q at is_open un;
          within = asks.within;
          calm = calm_then (rows.Taken proc job.nr live dirty) tt tt tt;
        }

    pub taken_known : AskingKnown (then (rows.Taken proc job.nr live dirty))
    taken_known =
        known_passed header (record { start = s; now = s; done = []; later = [] }) (its_row (rows.Taken proc job.nr live dirty)) taken_alone tt known

  -- ---- one is answered

  module _ (order : Order) (verdict : Verdict) (hand : (desk_of s proc).in_hand ≡ Some order) (question : is_question order.job.task ≡ true) where
    abbrev finish : RowKind
    finish = rows.Finished proc order.job.nr (outcomes.Asked verdict)

    -- the row passes
    pub finished_alone : PassesAlone finish
    finished_alone = by_task order.job.task refl question
      where
        by_task : (task : Task) → order.job.task ≡ task → is_question task ≡ true → PassesAlone finish
        by_task task is asks_ = asks_so (λ (x : Task). order.job.task ≡ x → PassesAlone finish) task asks_ passes is
          where
            passes : (slot : ℕ) (cause : LeaveCause) → order.job.task ≡ tasks.Ask slot cause → PassesAlone finish
            passes slot cause asking =
                record {
                  formed = rw (nat_eq_refl proc.0, hand) (rw (nat_eq_refl order.job.nr.0, asking) refl);
                  once = refl;
                  caused = refl;
                  queued = refl;
                  ordered = refl;
                  checked = refl;
                  in_time = refl;
                  suits = rw hand (rw asking refl);
                }

    -- it had no answer before
    waits : Waits s order.job None
    waits = by_hand (desk_of s proc).in_hand hand (known.waits.desks proc).hand
      where
        by_task : (task : Task) → order.job.task ≡ task → is_question task ≡ true → HandWaits s (Some order) → Waits s order.job None
        by_task task is asks_ its = asks_so (λ (x : Task). order.job.task ≡ x → Waits s order.job None) task asks_ (λ slot cause e. subst (λ (x : Task). OrderWaits s order.job x) e its) is

        by_hand : (o : Option Order) → o ≡ Some order → HandWaits s o → Waits s order.job None
        by_hand None never its = absurd cc
        by_hand (Some x) same its = by_task order.job.task refl question (subst (λ (y : Order). HandWaits s (Some y)) (let one : x ≡ order = cc in one) its)

    unheard : (req : ReqId) (q : Asked) → order.job.why ≡ whys.Req req → request_of s req ≡ Some q → IsUndelivered order.job.nr q.asks
    unheard req q why at =
        let w = waits.each req why in
        let same : w.q ≡ q = (let both : Some w.q ≡ Some q = sym w.at ∙ at in cc) in
        by_asks q.asks (subst (λ (x : Asked). SaysOf order.job.nr None x.asks) same w.says) (asks.has.said req q at)
      where
        undelivered : (asking : Asking) → asking.verdict ≡ None → is_said asking ≡ true → asking.is_delivered ≡ false
        undelivered asking none said = by_test asking.is_delivered refl
          where
            by_test : (b : Bool) → asking.is_delivered ≡ b → b ≡ false
            by_test false e = refl
            by_test true e = (let never : false ≡ true = sym (rw e (rw none refl)) ∙ said in absurd cc)

        by_asks : (l : List Asking) → SaysOf order.job.nr None l → list_all is_said l ≡ true → IsUndelivered order.job.nr l
        by_asks [] says said = tt
        by_asks (asking ∷ l) says said =
            let parts = and_parts (is_said asking) (list_all is_said l) said in
            (λ its. undelivered asking (says.0 its) parts.0, by_asks l says.1 parts.1)

    -- of what a check reads nothing is read of an answer that isn't delivered
    answer_unheard : (l : List Asking) → IsUndelivered order.job.nr l → map as_heard (map (λ (asking : Asking). cond (asking.job.0 == order.job.nr.0) (record asking { verdict = Some verdict }) asking) l) ≡ map as_heard l
    answer_unheard [] un = refl
    answer_unheard (asking ∷ l) un =
        rw (answer_unheard l un.1) (ap (λ (a : Asking). a ∷ map as_heard l) (one (asking.job.0 == order.job.nr.0) refl))
      where
        one : (b : Bool) → (asking.job.0 == order.job.nr.0) ≡ b → as_heard (cond b (record asking { verdict = Some verdict }) asking) ≡ as_heard asking
        one false e = refl
        one true e = rw (un.0 e) refl

    reads : SameReads checked_of s.requests (then finish).requests
    reads =
        subst (λ (o : Option Order). SameReads checked_of s.requests (requests_finished s o (outcomes.Asked verdict) s.requests)) (sym hand) (by_why order.job.why refl)
      where
        by_why : (why : Why) → order.job.why ≡ why → SameReads checked_of s.requests (on_served why (on_asking order.job.nr (λ asking. record asking { verdict = Some verdict })) s.requests)
        by_why (whys.Req req) is =
            on_read_at checked_of s.requests req (on_asking order.job.nr (λ asking. record asking { verdict = Some verdict })) (λ q found. ap (λ (l : List Asking). let c : Checked = record (checked_of q) { asks = l } in c) (answer_unheard q.asks (unheard req q is found)))
        by_why (whys.Death death) is = λ r. refl
        by_why whys.Evict is = λ r. refl
        by_why whys.Start is = λ r. refl

    gone : (doc : DocId) → is_gone (then finish) doc ≡ is_gone s doc
    gone doc =
        gone_on s (then finish) order.job.doc (λ (d : Document). record d { view = view_finished d order.job.task }) documents (λ d. refl) (λ d. refl) doc
      where
        documents : (then finish).documents ≡ map (λ (d : Document). cond (d.nr.0 == order.job.doc.0) (record d { view = view_finished d order.job.task }) d) s.documents
        documents = ap (λ (o : Option Order). slot_finished (documents_finished s.documents (option_map (λ (x : Order). x.job) o)) (option_map (λ (x : Order). x.job) o) (outcomes.Asked verdict)) hand

    drops : SameReads is_dropped s.requests (then finish).requests
    drops =
        finished_reads is_dropped (record { moves = λ q activated moved. refl; asks = λ q asks_. refl; fragments = λ q doc. refl; misses = λ q is. refl }) s (desk_of s proc).in_hand (outcomes.Asked verdict) s.requests

    -- the table stands for the log
    pub finished_asks : ChecksStand checking (then finish) es
    finished_asks =
        record {
          has = finished_has s event (actors.Proc proc) es proc order.job.nr (outcomes.Asked verdict) (λ x req q is why at. (let one : order ≡ x = (let both : Some order ≡ Some x = sym hand ∙ is in cc) in subst (λ (y : Order). y.job.why ≡ whys.Req req → IsUndelivered y.job.nr q.asks) one (λ w. unheard req q w at) why)) asks.has;
          open_ = open_stays s (then finish) gone reads drops asks.open_;
          within = asks.within;
          calm = calm_then finish tt tt tt;
        }

    pub finished_known : AskingKnown (then finish)
    finished_known =
        known_passed header (record { start = s; now = s; done = []; later = [] }) (its_row finish) finished_alone tt known
