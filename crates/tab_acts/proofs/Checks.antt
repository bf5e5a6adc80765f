-- The table of unload checks stands for the log still over a row that asks, answers and settles nothing, as each row of a process is that finishes no question.
use Rattle.std.proofs.Common.{◌≡◌, ℕ, Bool, true, false, cond, not, ◌&&◌, ◌||◌, List, [], ◌∷◌, map, Option, Some, None, refl, sym, ap, ◌∙◌, subst}
use Rattle.std.specs.Prelude.{is_none, is_some, option_map, slice_get}
use Rattle.std.specs.List.{list_all}
use Rattle.std.proofs.lemmas.Bool.{and_parts}
use Rattle.tab_ids.specs.declared.DocId.{DocId}
use Rattle.tab_ids.specs.declared.JobId.{JobId}
use Rattle.tab_ids.specs.declared.ProcId.{ProcId}
use Rattle.tab_ids.specs.declared.ReqId.{ReqId}
use Rattle.log_model.specs.declared.change.Change.TheVariants as changes
use Rattle.log_model.specs.declared.handler.Verdict.{Verdict}
use Rattle.log_model.specs.declared.job.Job.{Job}
use Rattle.log_model.specs.declared.job.Order.{Order}
use Rattle.log_model.specs.declared.job.Task.{Task}
use Rattle.log_model.specs.declared.job.Task.TheVariants as tasks
use Rattle.log_model.specs.declared.made.Made.{Made}
use Rattle.log_model.specs.declared.made.Report.{Report}
use Rattle.log_model.specs.declared.made.Report.TheVariants as reports
use Rattle.log_model.specs.declared.outcome.Denial.{Denial}
use Rattle.log_model.specs.declared.outcome.Ending.{Ending}
use Rattle.log_model.specs.declared.outcome.Ending.TheVariants as endings
use Rattle.log_model.specs.declared.outcome.Outcome.{Outcome}
use Rattle.log_model.specs.declared.outcome.Outcome.TheVariants as outcomes
use Rattle.log_model.specs.declared.row_kind.Actor.{Actor}
use Rattle.log_model.specs.declared.row_kind.LogRow.{LogRow}
use Rattle.log_model.specs.declared.row_kind.RowKind.{RowKind}
use Rattle.log_model.specs.declared.row_kind.RowKind.TheVariants as rows
use Rattle.log_model.specs.After.{after, ended}
use Rattle.log_model.specs.AfterDocuments.{applied_to, documents_delivered, documents_finished, slot_finished, task_in_hand, told_after_change, view_finished}
use Rattle.log_model.specs.AfterRequests.{entries_taken, is_running, on_request, requests_delivered, requests_finished}
use Rattle.log_model.specs.Checks.{is_checked, is_settled_by}
use Rattle.log_model.specs.Equal.{holds}
use Rattle.log_model.specs.Outcomes.{is_drop}
use Rattle.log_model.specs.Places.{all_asked, has_passed, is_gone, is_under_way}
use Rattle.log_model.specs.Seen.{Asked, Asking, Document, Seen, desk_of, request_in, request_of}
use Rattle.log_model.specs.Views.{View, after_made}
use Rattle.unload_check.specs.Checks.{OpenCheck, check_of}
use Rattle.seen_facts.proofs.Coord.Held.{fun_ext}
use Rattle.seen_facts.proofs.Each.Courses.{was_asked}
use Rattle.seen_facts.proofs.Request.Readers.{SameReads, on_read, reads_then}
use Rattle.seen_facts.proofs.Rest.Stands.{all_requests}
use Rattle.seen_facts.proofs.Walk.Aims.{gone_on}
use Rattle.check_facts.proofs.Keeping.{mapped_same}
use Rattle.check_facts.proofs.Rows.{on_read_at}
use Rattle.check_facts.proofs.Ties.{all_same, tied_same}
use Rattle.check_facts.specs.Checking.{AreSaid, AreTiedAt, Checked, as_heard, checked_of, is_checking, is_said}
use Rattle.check_facts.specs.Having.{HasChecks, OpenChecked}
use Rattle.check_facts.specs.Prompting.{HaveNumbers, PromptedSettled, has_settled, is_asked}
use Rattle.check_facts.specs.Rows.{IsNoAnswerOf}
use Rattle.checking_facts.proofs.Rows.{no_one}
use Rattle.checking_facts.proofs.Settles.{silent_waits}
use Rattle.checking_facts.proofs.Waits.{none_waits}
use Rattle.checking_facts.specs.Checks.{IsCalm, IsPlainReport, IsSilent, NumbersNext}
use Rattle.tab_stands.specs.Checked.{ChecksStand}

some_same : {A : Type 0} {a b : A} → (let o : Option A = Some a in o) ≡ Some b → a ≡ b
some_same e = cc

-- ---- what a check reads of a request

-- its number, whether it has begun and hasn't ended as one that is checked, its questions and their answers that were heard, its prompt, and whether it was dropped
pub record Stand : Type 0 where
  pub nr : ReqId
  pub is_open : Bool
  pub asks : List Asking
  pub prompted : Option DocId
  pub answered : Option Bool
  pub is_dropped : Bool

abbrev pub stand_of : Asked → Stand
stand_of q =
    record {
      nr = q.nr;
      is_open = is_checked q && is_under_way q;
      asks = map as_heard q.asks;
      prompted = q.prompted;
      answered = q.answered;
      is_dropped = holds is_drop q.ending;
    }

-- two tests of which the first two parts agree
both_alike : (a b c d e : Bool) → (a && b) ≡ (c && d) → (a && b && e) ≡ (c && d && e)
both_alike true true true true e is = refl
both_alike true true true false e never = absurd cc
both_alike true true false d e never = absurd cc
both_alike true false true true e never = absurd cc
both_alike true false true false e is = refl
both_alike true false false d e is = refl
both_alike false b true true e never = absurd cc
both_alike false b true false e is = refl
both_alike false b false d e is = refl

said_heard : (asks : List Asking) → list_all is_said (map as_heard asks) ≡ list_all is_said asks
said_heard [] = refl
said_heard (asking ∷ asks) = rw (said_heard asks) (by_test asking.is_delivered asking.verdict)
  where
    by_test : (b : Bool) (v : Option Verdict) → ((not b || is_some (cond b v None)) && list_all is_said asks) ≡ ((not b || is_some v) && list_all is_said asks)
    by_test true v = refl
    by_test false v = refl

asked_heard : (asks : List Asking) → is_asked (map as_heard asks) ≡ is_asked asks
asked_heard [] = refl
asked_heard (asking ∷ asks) = refl

-- ---- where that is as it was, and who is gone

module _ (s t : Seen) (gone : (doc : DocId) → is_gone t doc ≡ is_gone s doc) (reads : SameReads stand_of s.requests t.requests) where
  all_gone : is_gone t ≡ is_gone s
  all_gone = fun_ext gone

  -- a request comes from one of which the same is read
  record Came (req : ReqId) (r : Asked) : Type 0 where
    q : Asked
    at : request_of s req ≡ Some q
    same : stand_of q ≡ stand_of r

  came : (req : ReqId) (r : Asked) → request_of t req ≡ Some r → Came req r
  came req r found =
      let q = was_asked stand_of s.requests t.requests reads req r found in record { q = q.0; at = q.1; same = q.2 }

  module _ (req : ReqId) (r : Asked) (found : request_of t req ≡ Some r) where
    abbrev old : Asked
    old = (came req r found).q

    -- as it would be with what it asks, its beginning and its end as before
    abbrev mid : Asked
    mid = record r { what = (came req r found).q.what; is_started = (came req r found).q.is_started; ending = (came req r found).q.ending }

    mid_same : checked_of mid ≡ checked_of old
    mid_same =
        ap (λ (x : Stand). let c : Checked = record { nr = x.nr; what = old.what; is_started = old.is_started; is_open = is_none old.ending; asks = x.asks; prompted = x.prompted; answered = x.answered } in c) (sym (came req r found).same)

    -- all are asked where they were
    still_asked : all_asked t r ≡ all_asked s old
    still_asked = all_same s t old mid all_gone mid_same

    still_checking : is_checking t r ≡ is_checking t mid
    still_checking =
        both_alike (is_checked r) (is_under_way r) (is_checked old) (is_under_way old) (not (has_passed t r)) (ap (λ (x : Stand). x.is_open) (sym (came req r found).same))

    still_tied : (check : Option OpenCheck) → AreTiedAt s (Some old) check → AreTiedAt t (Some r) check
    still_tied None is = still_checking ∙ tied_same s t old mid all_gone mid_same None is
    still_tied (Some c) is =
        let its = tied_same s t old mid all_gone mid_same (Some c) is in (still_checking ∙ its.0, its.1)

  -- the table has the same checks
  pub still_has : (es : List (ReqId × OpenCheck)) → HasChecks s es → HasChecks t es
  still_has es has =
      record { tied = record { each = λ req. tied req (request_of t req) refl }; said = said; numbered = numbered; prompted = prompted }
    where
      tied : (req : ReqId) (o : Option Asked) → request_of t req ≡ o → AreTiedAt t o (check_of req es)
      tied req (Some r) at =
          still_tied req r at (check_of req es) (subst (λ (o : Option Asked). AreTiedAt s o (check_of req es)) (came req r at).at (has.tied.each req))
      tied req None at = subst (λ (o : Option Asked). AreTiedAt s o (check_of req es)) (nobody (request_of s req) refl) (has.tied.each req)
        where
          nobody : (o : Option Asked) → request_of s req ≡ o → request_of s req ≡ None
          nobody None is = is
          nobody (Some q) is =
              let both : (let p : Option Stand = None in p) ≡ Some (stand_of q) = ap (λ (p : Option Asked). option_map stand_of p) (sym at) ∙ reads req ∙ ap (λ (p : Option Asked). option_map stand_of p) is in absurd cc

      said : AreSaid t
      said req r at =
          sym (said_heard r.asks) ∙ sym (ap (λ (x : Stand). list_all is_said x.asks) (came req r at).same) ∙ said_heard (came req r at).q.asks ∙ has.said req (came req r at).q (came req r at).at

      numbered : HaveNumbers t
      numbered req r at =
          sym (ap (λ (x : Stand). x.nr) (came req r at).same) ∙ has.numbered req (came req r at).q (came req r at).at

      prompted : PromptedSettled t
      prompted req r at is =
          let was : has_settled s (came req r at).q ≡ true = has.prompted req (came req r at).q (came req r at).at (ap (λ (x : Stand). is_some x.prompted) (came req r at).same ∙ is) in
          let parts = and_parts (is_asked (came req r at).q.asks) (all_asked s (came req r at).q) was in
          let asks : is_asked r.asks ≡ true = sym (asked_heard r.asks) ∙ sym (ap (λ (x : Stand). is_asked x.asks) (came req r at).same) ∙ asked_heard (came req r at).q.asks ∙ parts.0 in
          let all : all_asked t r ≡ true = still_asked req r at ∙ parts.1 in
          rw (asks, all) refl

  -- and each with an open question is in one, or was dropped
  pub still_open : OpenChecked s → OpenChecked t
  still_open checked req r at is_open unchecked =
      sym (ap (λ (x : Stand). x.is_dropped) (came req r at).same)
      ∙ checked req (came req r at).q (came req r at).at (sym (still_asked req r at) ∙ is_open) (tied_same t s (mid req r at) (came req r at).q (sym all_gone) (sym (mid_same req r at)) None (sym (still_checking req r at) ∙ unchecked))

  -- of no request the last question is settled, where they have their numbers
  pub still_unsettled : HaveNumbers s → list_all (λ (q : Asked). not (is_settled_by s t q)) s.requests ≡ true
  still_unsettled numbered = all_requests s.requests (λ (q : Asked). not (is_settled_by s t q)) (λ req q at. by_asked req q at (all_asked s q) refl)
    where
      by_found : (req : ReqId) (q : Asked) → request_of s req ≡ Some q → all_asked s q ≡ false → (o : Option Asked) → request_of t req ≡ o → holds (all_asked t) o ≡ false
      by_found req q at is_open None there = refl
      by_found req q at is_open (Some r) there =
          let one : (came req r there).q ≡ q = some_same (sym (came req r there).at ∙ at) in
          still_asked req r there ∙ ap (all_asked s) one ∙ is_open

      by_asked : (req : ReqId) (q : Asked) → request_of s req ≡ Some q → (b : Bool) → all_asked s q ≡ b → not (is_settled_by s t q) ≡ true
      by_asked req q at true is = rw is refl
      by_asked req q at false is =
          let still : holds (all_asked t) (request_of t q.nr) ≡ false = ap (λ (n : ReqId). holds (all_asked t) (request_of t n)) (numbered req q at) ∙ by_found req q at is (request_of t req) refl in
          rw (is, still) refl

-- ---- a row that leaves it

-- the row asks, answers and settles nothing, and leaves what a check reads of requests, and who is gone
pub record IsBeside (s : Seen) (row : LogRow) : Type 0 where
  pub gone : (doc : DocId) → is_gone (after s row) doc ≡ is_gone s doc
  pub reads : SameReads stand_of s.requests (after s row).requests
  pub calm : IsCalm row.row
  pub silent : IsSilent s row.row
  pub next : NumbersNext s row.row

pub beside_stands : (checking : ReqId → Bool) (s : Seen) (row : LogRow) (checks : List (ReqId × OpenCheck)) → IsBeside s row → ChecksStand checking s checks → ChecksStand checking (after s row) checks
beside_stands checking s row checks is stands =
    record {
      has = still_has s (after s row) is.gone is.reads checks stands.has;
      open_ = still_open s (after s row) is.gone is.reads stands.open_;
      within = stands.within;
      calm = λ req q at runs goes on. silent_waits checking no_one s row is.calm is.silent is.next (none_waits checking s stands.calm no_one) req q at runs goes on refl;
    }

-- ---- each such row

-- the request isn't in a check, and has no outcome
pub record IsIdle (q : Asked) : Type 0 where
  pub off : (is_checked q && is_under_way q) ≡ false
  pub unended : q.ending ≡ None

never_under : (a b : Bool) → (a && (b && false)) ≡ false
never_under true true = refl
never_under true false = refl
never_under false b = refl

-- so an outcome that is no drop is read by no check
ended_stand : (q : Asked) (ending : Ending) → IsIdle q → is_drop ending ≡ false → stand_of (record q { ending = Some ending }) ≡ stand_of q
ended_stand q ending idle kept =
    let closed : (is_checked q && (q.is_started && false)) ≡ (is_checked q && is_under_way q) = never_under (is_checked q) q.is_started ∙ sym idle.off in
    let undropped : is_drop ending ≡ holds is_drop q.ending = kept ∙ sym (ap (λ (o : Option Ending). holds is_drop o) idle.unended) in
    λ i. record (stand_of q) { is_open = closed i; is_dropped = undropped i }

-- a report that tells no answer and no death leaves the requests
plain_requests : (report : Option Report) (asked : List Asked) → IsPlainReport report → requests_delivered report asked ≡ asked
plain_requests None asked is = refl
plain_requests (Some (reports.Made made)) asked is = refl
plain_requests (Some (reports.Died death)) asked is = refl
plain_requests (Some (reports.Done job outcome made)) asked is = by_outcome outcome is
  where
    by_outcome : (o : Outcome) → IsNoAnswerOf o → requests_delivered (Some (reports.Done job o made)) asked ≡ asked
    by_outcome (outcomes.Asked verdict) never = absurd never
    by_outcome (outcomes.Populated slot) is = refl
    by_outcome outcomes.Activated is = refl
    by_outcome outcomes.Updated is = refl
    by_outcome outcomes.Frozen is = refl
    by_outcome outcomes.Discarded is = refl
    by_outcome outcomes.Fragmented is = refl

module _ (s : Seen) (event : ℕ) (actor : Actor) where
  abbrev row_for : RowKind → LogRow
  row_for kind = record { event = event; actor = actor; row = kind }

  -- a log with other documents
  abbrev with_documents : List Document → Seen
  with_documents documents = record s { documents = documents }

  -- an order is taken up
  pub taken_beside : (proc : ProcId) (job : JobId) (live dirty : Bool) → IsBeside s (record { event = event; actor = actor; row = rows.Taken proc job live dirty })
  taken_beside proc job live dirty =
      record { gone = λ doc. refl; reads = λ r. refl; calm = tt; silent = tt; next = tt }

  -- a document acts
  pub made_beside : (proc : ProcId) (made : Made) → IsBeside s (record { event = event; actor = actor; row = rows.Made proc made })
  made_beside proc made =
      record {
        gone = gone_on s (after s (row_for (rows.Made proc made))) made.doc (λ (d : Document). record d { view = option_map (λ (v : View). after_made v made.what) d.view }) refl (λ d. refl) (λ d. refl);
        reads = on_read stand_of s.requests made.req (λ (q : Asked). record q { made = Some made }) (λ q. refl);
        calm = tt;
        silent = tt;
        next = tt;
      }

  -- a request is refused that isn't in a check
  pub refused_beside : (req : ReqId) (reason : Denial) → ((q : Asked) → request_of s req ≡ Some q → IsIdle q) → IsBeside s (record { event = event; actor = actor; row = rows.Refused req reason })
  refused_beside req reason idle =
      record {
        gone = λ doc. refl;
        reads = on_read_at stand_of s.requests req (λ (q : Asked). record q { ending = Some (endings.Refused reason) }) (λ q found. ended_stand q (endings.Refused reason) (idle q found) refl);
        calm = tt;
        silent = tt;
        next = tt;
      }

  -- an edit is applied, of such a request
  pub edited_beside : (req : ReqId) → ((q : Asked) → request_of s req ≡ Some q → IsIdle q) → IsBeside s (record { event = event; actor = actor; row = rows.Applied req changes.Edit })
  edited_beside req idle =
      record {
        gone = λ doc. mapped_same (λ (d : Document). applied_to changes.Edit (told_after_change d changes.Edit)) s.documents doc (λ d. refl) (λ d. refl);
        reads = reads_then stand_of s.requests (ended s.requests req endings.Applied) _ (on_read_at stand_of s.requests req (λ (q : Asked). record q { ending = Some endings.Applied }) (λ q found. ended_stand q endings.Applied (idle q found) refl))
            (reads_then stand_of (ended s.requests req endings.Applied) (on_request req (λ (q : Asked). record q { change = Some changes.Edit }) (ended s.requests req endings.Applied)) _ (on_read stand_of (ended s.requests req endings.Applied) req (λ (q : Asked). record q { change = Some changes.Edit }) (λ q. refl))
            (on_read stand_of (on_request req (λ (q : Asked). record q { change = Some changes.Edit }) (ended s.requests req endings.Applied)) req (λ (q : Asked). record q { took = entries_taken s.history changes.Edit }) (λ q. refl)));
        calm = tt;
        silent = tt;
        next = tt;
      }

  -- an order is finished that is no question
  pub finished_beside : (proc : ProcId) (job : JobId) (outcome : Outcome) → IsNoAnswerOf outcome → IsBeside s (record { event = event; actor = actor; row = rows.Finished proc job outcome })
  finished_beside proc job outcome answers =
      record {
        gone = gone_then (task_in_hand s proc);
        reads = reads_then_ (desk_of s proc).in_hand;
        calm = tt;
        silent = tt;
        next = tt;
      }
    where
      slotted : (k : Job) (o : Outcome) (l : List Document) (doc : DocId) → is_gone (with_documents (slot_finished l (Some k) o)) doc ≡ is_gone (with_documents l) doc
      slotted k (outcomes.Populated slot) l doc =
          gone_on (with_documents l) (with_documents (slot_finished l (Some k) (outcomes.Populated slot))) k.doc (λ (d : Document). record d { slot = slot }) refl (λ d. refl) (λ d. refl) doc
      slotted k outcomes.Activated l doc = refl
      slotted k outcomes.Updated l doc = refl
      slotted k outcomes.Frozen l doc = refl
      slotted k outcomes.Discarded l doc = refl
      slotted k outcomes.Fragmented l doc = refl
      slotted k (outcomes.Asked verdict) l doc = refl

      gone_then : (o : Option Job) (doc : DocId) → is_gone (with_documents (slot_finished (documents_finished s.documents o) o outcome)) doc ≡ is_gone s doc
      gone_then None doc = refl
      gone_then (Some k) doc =
          slotted k outcome (documents_finished s.documents (Some k)) doc
          ∙ gone_on s (with_documents (documents_finished s.documents (Some k))) k.doc (λ (d : Document). record d { view = view_finished d k.task }) refl (λ d. refl) (λ d. refl) doc

      by_task : (order : Order) (task : Task) → order.job.task ≡ task → SameReads stand_of s.requests (requests_finished s (Some order) outcomes.Fragmented s.requests)
      by_task order (tasks.DoFragment req mode address) is =
          rw is (on_read stand_of s.requests req (λ (q : Asked). record q { is_not_found = not (is_running s order.job.doc) }) (λ q. refl))
      by_task order (tasks.Populate nav state address initial) is = rw is (λ r. refl)
      by_task order (tasks.Activate entry epoch long at memo address) is = rw is (λ r. refl)
      by_task order (tasks.Update long at) is = rw is (λ r. refl)
      by_task order tasks.Freeze is = rw is (λ r. refl)
      by_task order tasks.Discard is = rw is (λ r. refl)
      by_task order (tasks.Ask slot cause) is = rw is (λ r. refl)

      by_outcome : (order : Order) (o : Outcome) → IsNoAnswerOf o → SameReads stand_of s.requests (requests_finished s (Some order) o s.requests)
      by_outcome order (outcomes.Asked verdict) never = absurd never
      by_outcome order outcomes.Fragmented is = by_task order order.job.task refl
      by_outcome order (outcomes.Populated slot) is = λ r. refl
      by_outcome order outcomes.Activated is = λ r. refl
      by_outcome order outcomes.Updated is = λ r. refl
      by_outcome order outcomes.Frozen is = λ r. refl
      by_outcome order outcomes.Discarded is = λ r. refl

      reads_then_ : (o : Option Order) → SameReads stand_of s.requests (requests_finished s o outcome s.requests)
      reads_then_ None = λ r. refl
      reads_then_ (Some order) = by_outcome order outcome answers

  -- a report is delivered that tells no answer and no death
  pub told_beside : (proc : ProcId) → IsPlainReport (slice_get (desk_of s proc).reports 0) → IsBeside s (record { event = event; actor = actor; row = rows.Delivered proc })
  told_beside proc plain =
      record {
        gone = gone_then (slice_get (desk_of s proc).reports 0) plain;
        reads = λ r. ap (λ (l : List Asked). option_map stand_of (request_in l r)) (plain_requests (slice_get (desk_of s proc).reports 0) s.requests plain);
        calm = tt;
        silent = plain;
        next = tt;
      }
    where
      by_outcome : (job : Job) (o : Outcome) (m : Option Made) (doc : DocId) → is_gone (with_documents (documents_delivered s.documents (Some (reports.Done job o m)))) doc ≡ is_gone s doc
      by_outcome job (outcomes.Populated slot) m doc =
          gone_on s (with_documents (documents_delivered s.documents (Some (reports.Done job (outcomes.Populated slot) m)))) job.doc (λ (d : Document). record d { is_ready = true; is_fresh = true }) refl (λ d. refl) (λ d. refl) doc
      by_outcome job outcomes.Activated m doc = refl
      by_outcome job outcomes.Updated m doc = refl
      by_outcome job outcomes.Frozen m doc = refl
      by_outcome job outcomes.Discarded m doc = refl
      by_outcome job (outcomes.Asked verdict) m doc = refl
      by_outcome job outcomes.Fragmented m doc = refl

      gone_then : (report : Option Report) → IsPlainReport report → (doc : DocId) → is_gone (with_documents (documents_delivered s.documents report)) doc ≡ is_gone s doc
      gone_then None is doc = refl
      gone_then (Some (reports.Made made)) is doc = refl
      gone_then (Some (reports.Died death)) never doc = absurd never
      gone_then (Some (reports.Done job outcome made)) is doc = by_outcome job outcome made doc
