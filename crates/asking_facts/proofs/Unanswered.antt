-- A request without a prompt has no answer of the user, from row to row.
use Rattle.std.proofs.Common.{◌≡◌, ◌+◌, Bool, true, false, List, length, slice_get, Option, Some, None, refl, sym, ap, ◌∙◌}
use Rattle.std.specs.Prelude.{is_some}
use Rattle.tab_ids.specs.declared.DocId.{DocId}
use Rattle.tab_ids.specs.declared.ReqId.{ReqId}
use Rattle.log_model.specs.declared.outcome.Ending.TheVariants as endings
use Rattle.log_model.specs.declared.row_kind.LogRow.{LogRow}
use Rattle.log_model.specs.declared.row_kind.RowKind.{RowKind}
use Rattle.log_model.specs.declared.row_kind.RowKind.TheVariants as rows
use Rattle.log_model.specs.After.{after, ended, new_request}
use Rattle.log_model.specs.AfterRequests.{entries_taken, on_request, request_begun}
use Rattle.log_model.specs.Places.{is_under_way}
use Rattle.log_model.specs.Seen.{Asked, Seen, desk_of, request_of}
use Rattle.seen_facts.proofs.Each.Courses.{was_asked}
use Rattle.seen_facts.proofs.Each.Runs.{each_asked_more, each_asked_on}
use Rattle.seen_facts.proofs.Request.Readers.{IsBlind, SameReads, delivered_reads, finished_reads, sent_reads}
use Rattle.seen_facts.specs.Each.Runs.{EachAsked}
use Rattle.checking_facts.specs.Checks.{AreInCheck}
use Rattle.asking_facts.specs.Noting.{IsToPrompt}
use Rattle.asking_facts.specs.Prompting.{AnswersPrompt, NoneAnsweredEarly}

-- ---- what is read

-- a request's prompt, and the user's answer
record Said : Type 0 where
  prompted : Option DocId
  answered : Option Bool

abbrev said_of : Asked → Said
said_of q = record { prompted = q.prompted; answered = q.answered }

-- orders and their answers change none of it
blind : IsBlind said_of
blind =
    record {
      moves = λ q activated moved. refl;
      asks = λ q asks. refl;
      fragments = λ q doc. refl;
      misses = λ q is. refl;
    }

-- of one request
abbrev IsUnanswered : ReqId → Asked → Type 0
IsUnanswered r q = is_some q.prompted ≡ false → q.answered ≡ None

same_unanswered : (old new : List Asked) → SameReads said_of old new → EachAsked IsUnanswered old → EachAsked IsUnanswered new
same_unanswered old new same none r q at un =
    let was = was_asked said_of old new same r q at in
    ap (λ (x : Said). x.answered) (sym was.2) ∙ none r was.0 was.1 (ap (λ (x : Said). is_some x.prompted) was.2 ∙ un)

one_unanswered : (asked : List Asked) (req : ReqId) (f : Asked → Asked) → ((q : Asked) → IsUnanswered req q → IsUnanswered req (f q)) → EachAsked IsUnanswered asked → EachAsked IsUnanswered (on_request req f asked)
one_unanswered asked req f own none =
    each_asked_on IsUnanswered IsUnanswered asked req f (λ r q apart is. is) (λ q at is. own q is) none

-- ---- over a row

pub unanswered_row : (s : Seen) (row : LogRow) → AnswersPrompt s row.row → NoneAnsweredEarly s → NoneAnsweredEarly (after s row)
unanswered_row s row answers none = by_kind row.row refl answers
  where
    keeps : (req : ReqId) (f : Asked → Asked) → ((q : Asked) → IsUnanswered req q → IsUnanswered req (f q)) → EachAsked IsUnanswered (on_request req f s.requests)
    keeps req f own = one_unanswered s.requests req f own none

    by_kind : (kind : RowKind) → row.row ≡ kind → AnswersPrompt s kind → EachAsked IsUnanswered (after s row).requests
    by_kind (rows.Opened entry state doc proc slot address) e is = rw e none
    by_kind (rows.Accepted req doc what) e is =
        rw e (each_asked_more IsUnanswered s.requests (new_request req doc what) (record { 0 = length s.requests + 1 }) refl (λ un. refl) none)
    by_kind (rows.Started req goal) e is =
        rw e (one_unanswered (on_request req (λ q. record q { is_started = true; goal = goal }) s.requests) req (request_begun s) (λ q one. one) (keeps req (λ q. record q { is_started = true; goal = goal }) (λ q one. one)))
    by_kind (rows.Applied req change) e is =
        rw e (one_unanswered (on_request req (λ q. record q { change = Some change }) (ended s.requests req endings.Applied)) req (λ q. record q { took = entries_taken s.history change }) (λ q one. one) (one_unanswered (ended s.requests req endings.Applied) req (λ q. record q { change = Some change }) (λ q one. one) (keeps req (λ q. record q { ending = Some endings.Applied }) (λ q one. one))))
    by_kind (rows.Refused req reason) e is = rw e (keeps req (λ q. record q { ending = Some (endings.Refused reason) }) (λ q one. one))
    by_kind (rows.Dropped req cause) e is = rw e (keeps req (λ q. record q { ending = Some (endings.Dropped cause) }) (λ q one. one))
    by_kind (rows.Prompted req doc) e is =
        rw e (keeps req (λ q. record q { prompted = Some doc }) (λ q one un. (let never : true ≡ false = un in absurd cc)))
    by_kind (rows.Answered req stay) e is =
        rw e (each_asked_on IsUnanswered IsUnanswered s.requests req (λ q. record q { answered = Some stay }) (λ r q apart was. was) (λ q at was un. (let never : true ≡ false = sym (is q at) ∙ un in absurd cc)) none)
    by_kind (rows.Sent job) e is = rw e (same_unanswered s.requests _ (sent_reads said_of blind s job job.task s.requests) none)
    by_kind (rows.Taken proc job live dirty) e is = rw e none
    by_kind (rows.Finished proc job outcome) e is =
        rw e (same_unanswered s.requests _ (finished_reads said_of blind s (desk_of s proc).in_hand outcome s.requests) none)
    by_kind (rows.Made proc made) e is = rw e (keeps made.req (λ q. record q { made = Some made }) (λ q one. one))
    by_kind (rows.Delivered proc) e is =
        rw e (same_unanswered s.requests _ (delivered_reads said_of blind (slice_get (desk_of s proc).reports 0) s.requests) none)
    by_kind (rows.Killed proc death) e is = rw e none
    by_kind (rows.Evicted state) e is = rw e none

-- ---- a request for which the user is to be asked

-- it is in its check, is under way, and has no prompt
pub to_prompt : (checking : ReqId → Bool) (s : Seen) → NoneAnsweredEarly s → AreInCheck checking s → (req : ReqId) (q : Asked) → request_of s req ≡ Some q → checking req ≡ true → is_under_way q ≡ true → is_some q.prompted ≡ false → IsToPrompt q
to_prompt checking s none are req q at on under un =
    record { checked = (are.checks req q at on).checked; under = under; unanswered = none req q at un }
