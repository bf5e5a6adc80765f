-- What each row leaves: an order, a request that is dropped, refused or applied, and one that begins and is no load.
use Rattle.seen_facts.proofs.Coord.Held.{on_else}
use Rattle.seen_facts.proofs.Coord.Unread.{next}
use Rattle.seen_facts.specs.Each.Runs.{is_run}
use Rattle.row_facts.proofs.LoadRows.Earlier.{no_earlier_stays}
use Rattle.row_facts.specs.LoadRows.Beginning.{begins_no_earlier}
use Rattle.log_model.specs.After.{after, changed, ended, has_stood_now}
use Rattle.log_model.specs.AfterRequests.{entries_taken, on_request, request_begun}
use Rattle.log_model.specs.Once.{has_no_earlier_load, loads}
use Rattle.log_model.specs.Orders.{is_question}
use Rattle.log_model.specs.Places.{all_stand, has_passed_with, is_gone, is_load, is_under_way}
use Rattle.log_model.specs.Seen.{Asked, Seen, request_in, request_of}
use Rattle.log_model.specs.declared.change.Change.{Change}
use Rattle.log_model.specs.declared.job.Job.{Job}
use Rattle.log_model.specs.declared.outcome.Cause.{Cause}
use Rattle.log_model.specs.declared.outcome.Denial.{Denial}
use Rattle.log_model.specs.declared.request.Mode.{Mode}
use Rattle.log_model.specs.declared.request.Request.{Request}
use Rattle.log_model.specs.declared.row_kind.Actor.{Actor}
use Rattle.log_model.specs.declared.row_kind.LogRow.{LogRow}
use Rattle.log_model.specs.declared.row_kind.RowKind.{RowKind}
use Rattle.row_facts.proofs.Owed.Aims.{ended_aim, passed_aim, would_blind, would_lead}
use Rattle.seen_facts.proofs.Asked.Passed.{have_passed}
use Rattle.row_facts.proofs.Owed.Requests.{Told, asks_none, read_same, req_same, still, still_blind, still_there, told_blind, told_of}
use Rattle.row_facts.proofs.Owed.Hanging.{StayThere, applied_there, there_same}
use Rattle.row_facts.proofs.Owed.Standing.{AreEased, sent_eased}
use Rattle.row_facts.specs.Owed.Owed.{IsReckoned, IsStill, Lasts, Stays}
use Rattle.seen_facts.specs.Asked.Asking.{HavePassed}
use Rattle.seen_facts.proofs.Request.LookUps.{on_itself}
use Rattle.seen_facts.proofs.Request.Readers.{SameReads, on_read, reads_then, sent_reads}
use Rattle.seen_laws.specs.Blocks.{Here, on_row, on_rows}
use Rattle.seen_laws.specs.InEvent.{InEvent, first_of, log_of, now_of, own_of, row_of}
use Rattle.seen_laws.specs.Unasked.{unasked}
use Rattle.std.proofs.Common.{Bool, List, Option, Some, [], ap, false, map, refl, subst, sym, true, ℕ, ◌&&◌, ◌==◌, ◌∙◌, ◌∷◌, ◌≡◌}
use Rattle.std.proofs.lemmas.Bool.{and_right}
use Rattle.std.proofs.lemmas.Option.{same_Some}
use Rattle.std.specs.Prelude.{nat_lt, option_map}
use Rattle.tab_ids.specs.declared.NavId.{NavId}
use Rattle.tab_ids.specs.declared.ReqId.{ReqId}
use Rattle.tab_ids.specs.declared.Step.{Step}
use Rattle.log_model.specs.declared.outcome.Ending.TheVariants as endings
use Rattle.log_model.specs.declared.request.Request.TheVariants as requests
use Rattle.log_model.specs.declared.row_kind.RowKind.TheVariants as rows

-- ---- from what is read to what lasts

-- no earlier load comes to be ongoing
abbrev StaySole : Seen → Seen → Type 0
StaySole s t = (req : ReqId) (nav : NavId) → has_no_earlier_load s req nav ≡ true → has_no_earlier_load t req nav ≡ true

-- what lasts, part by part
lasts_by : (s t : Seen) → ((req : ReqId) (q : Asked) → request_of s req ≡ Some q → IsStill t req q) → StayThere s.places t.places → StaySole s t → Lasts s t
lasts_by s t asked there sole =
    record {
      asked = asked;
      places = λ nav place at. let it = there nav place at in record { then_ = it.then_; at = it.at; nav_is = it.hangs.nav_is; above = it.hangs.above; added = it.hangs.added; shown = it.hangs.shown };
      sole = sole;
    }

-- so it is after a row that begins no load
sole_by : (s : Seen) (row : LogRow) → ((req : ReqId) (nav : NavId) → begins_no_earlier s req nav row.row ≡ true) → StaySole s (after s row)
sole_by s row none req nav is = no_earlier_stays s row req nav (none req nav) is

-- ---- whether all have stood

-- after any row it is reckoned up
pub reckoned_after : (s : Seen) (row : LogRow) → IsReckoned (after s row)
reckoned_after s row unsettled = by_stood (changed s row).has_stood unsettled
  where
    by_stood : (b : Bool) → has_stood_now b (changed s row) ≡ false → all_stand (changed s row) (changed s row).history.current ≡ false
    by_stood true is = cc
    by_stood false is = is

-- and after any rows
reckoned_on : (h : Here) (rows : List LogRow) → IsReckoned h.now → IsReckoned (on_rows h rows).now
reckoned_on h [] reckoned = reckoned
reckoned_on h (row ∷ rows) reckoned = reckoned_on (on_row h row) rows (reckoned_after h.now row)

-- so it is wherever an event stands
pub reckoned_now : (e : InEvent) (out : List RowKind) → IsReckoned (now_of e out)
unfolding now_of
reckoned_now e out unsettled =
    aside (reckoned_on (first_of e) (map (row_of e) out) (reckoned_on (own_of e) (map (row_of e) e.before) (reckoned_after e.start (row_of e e.own))) unsettled)
  where
    -- whether all stand is read of the history and the places alone
    aside : all_stand (log_of e out) (log_of e out).history.current ≡ false → all_stand (unasked e.checking (log_of e out)) (log_of e out).history.current ≡ false
    aside is = is

-- they haven't since, where they hadn't and don't now
stood_now : (b : Bool) (t : Seen) → b ≡ false → all_stand t t.history.current ≡ false → has_stood_now b t ≡ false
stood_now true t never is = cc
stood_now false t never is = is

-- ---- requests that don't run

-- the request is no traversal under way
abbrev pub IsIdle : Seen → ReqId → Type 0
IsIdle s req = (q : Asked) → request_of s req ≡ Some q → is_run q ≡ false

-- a load is none
pub load_idle : (s : Seen) (req : ReqId) (nav : NavId) (mode : Mode) (address : List ℕ) (q : Asked) → request_of s req ≡ Some q → q.what ≡ requests.Load nav mode address → IsIdle s req
load_idle s req nav mode address q at what x there =
    let same : q ≡ x = same_Some _ _ (sym at ∙ there) in
    subst (λ (y : Asked). is_run y ≡ false) same (rw what (and_right (is_under_way q) false refl))

module _ (s : Seen) (event : ℕ) (actor : Actor) where
  -- ---- orders

  -- any order
  pub sent_lasts : (job : Job) → Lasts s (next s event actor (rows.Sent job))
  sent_lasts job =
      lasts_by s (next s event actor (rows.Sent job)) (still_there s (next s event actor (rows.Sent job)) (sent_reads still still_blind s job job.task s.requests)) (sent_eased s job job.task).there (sole_by s (record { event = event; actor = actor; row = rows.Sent job }) (λ req nav. refl))

  -- one that asks no document, where all have passed their checks
  pub sent_stays : (job : Job) → HavePassed s → IsReckoned s → is_question (record { event = event; actor = actor; row = rows.Sent job }) ≡ false → Stays s (next s event actor (rows.Sent job))
  sent_stays job passed reckoned quiet =
      record {
        lasts = sent_lasts job;
        history = refl;
        aim = passed_aim s t passed passed_then (sent_reads would_lead would_blind s job job.task s.requests) s.history;
        passed = λ req q r at there is. passed_then req r there;
        changes = λ req q r at there. ap (λ (x : Told). x.change) (told req q r at there);
        last = refl;
        unsettled = λ is. stood_now s.has_stood (changed s (record { event = event; actor = actor; row = rows.Sent job })) is (eased.unsettled s.history.rows s.history.current (reckoned is));
        off = λ step nav is. eased.off s.history.rows step nav is;
      }
    where
      t : Seen
      t = next s event actor (rows.Sent job)

      eased : AreEased s.places (next s event actor (rows.Sent job)).places
      eased = sent_eased s job job.task

      passed_then : HavePassed (next s event actor (rows.Sent job))
      passed_then =
          have_passed s (record { event = event; actor = actor; row = rows.Sent job }) (asks_none event actor job job.task refl quiet) tt passed

      told : (req : ReqId) (q r : Asked) → request_of s req ≡ Some q → request_of (next s event actor (rows.Sent job)) req ≡ Some r → told_of r ≡ told_of q
      told = read_same told_of s.requests t.requests (sent_reads told_of told_blind s job job.task s.requests)

  -- ---- a request ends

  -- it is dropped
  pub dropped_lasts : (req : ReqId) (cause : Cause) → Lasts s (next s event actor (rows.Dropped req cause))
  dropped_lasts req cause =
      lasts_by s (next s event actor (rows.Dropped req cause)) (still_there s (next s event actor (rows.Dropped req cause)) (on_read still s.requests req _ (λ q. refl))) (there_same s.places) (sole_by s (record { event = event; actor = actor; row = rows.Dropped req cause }) (λ r nav. refl))

  -- it is refused
  pub refused_lasts : (req : ReqId) (reason : Denial) → Lasts s (next s event actor (rows.Refused req reason))
  refused_lasts req reason =
      lasts_by s (next s event actor (rows.Refused req reason)) (still_there s (next s event actor (rows.Refused req reason)) (on_read still s.requests req _ (λ q. refl))) (there_same s.places) (sole_by s (record { event = event; actor = actor; row = rows.Refused req reason }) (λ r nav. refl))

  -- it is applied
  pub applied_lasts : (req : ReqId) (change : Change) → Lasts s (next s event actor (rows.Applied req change))
  applied_lasts req change =
      lasts_by s (next s event actor (rows.Applied req change)) (still_there s (next s event actor (rows.Applied req change)) same) (applied_there s req change) (sole_by s (record { event = event; actor = actor; row = rows.Applied req change }) (λ r nav. refl))
    where
      same : SameReads still s.requests (next s event actor (rows.Applied req change)).requests
      same =
          reads_then still s.requests (ended s.requests req endings.Applied) _ (on_read still s.requests req _ (λ q. refl))
          (reads_then still (ended s.requests req endings.Applied) (on_request req (λ q. record q { change = Some change }) (ended s.requests req endings.Applied)) _ (on_read still (ended s.requests req endings.Applied) req _ (λ q. refl))
          (on_read still (on_request req (λ q. record q { change = Some change }) (ended s.requests req endings.Applied)) req (λ q. record q { took = entries_taken s.history change }) (λ q. refl)))

  -- where it isn't the running traversal
  module _ (req : ReqId) (reckoned : IsReckoned s) (idle : IsIdle s req) where
    -- it is dropped
    pub dropped_stays : (cause : Cause) → Stays s (next s event actor (rows.Dropped req cause))
    dropped_stays cause =
        record {
          lasts = dropped_lasts req cause;
          history = refl;
          aim = ended_aim (is_gone s) s.history s.requests req (endings.Dropped cause) idle;
          passed = λ r q x at there is. read_same (has_passed_with (is_gone s)) s.requests (ended s.requests req (endings.Dropped cause)) (on_read (has_passed_with (is_gone s)) s.requests req _ (λ q. refl)) r q x at there ∙ is;
          changes = λ r q x at there. ap (λ (y : Told). y.change) (read_same told_of s.requests (ended s.requests req (endings.Dropped cause)) (on_read told_of s.requests req _ (λ q. refl)) r q x at there);
          last = refl;
          unsettled = λ is. stood_now s.has_stood (changed s (record { event = event; actor = actor; row = rows.Dropped req cause })) is (reckoned is);
          off = λ step nav is. is;
        }

    -- it is refused
    pub refused_stays : (reason : Denial) → Stays s (next s event actor (rows.Refused req reason))
    refused_stays reason =
        record {
          lasts = refused_lasts req reason;
          history = refl;
          aim = ended_aim (is_gone s) s.history s.requests req (endings.Refused reason) idle;
          passed = λ r q x at there is. read_same (has_passed_with (is_gone s)) s.requests (ended s.requests req (endings.Refused reason)) (on_read (has_passed_with (is_gone s)) s.requests req _ (λ q. refl)) r q x at there ∙ is;
          changes = λ r q x at there. ap (λ (y : Told). y.change) (read_same told_of s.requests (ended s.requests req (endings.Refused reason)) (on_read told_of s.requests req _ (λ q. refl)) r q x at there);
          last = refl;
          unsettled = λ is. stood_now s.has_stood (changed s (record { event = event; actor = actor; row = rows.Refused req reason })) is (reckoned is);
          off = λ step nav is. is;
        }

  -- ---- a request begins

  -- each request is there still, and this one has begun
  pub begun_still : (begun : ReqId) (goal : Option Step) (req : ReqId) (q : Asked) → request_of s req ≡ Some q → IsStill (next s event actor (rows.Started begun goal)) req q
  begun_still begun goal req q at = by_number (req.0 == begun.0) refl
    where
      begin : Asked → Asked
      begin x = record x { is_started = true; goal = goal }

      by_number : (b : Bool) → (req.0 == begun.0) ≡ b → IsStill (next s event actor (rows.Started begun goal)) req q
      by_number true is =
          record {
            r = request_begun s (begin q);
            at = subst (λ (x : ReqId). request_in (next s event actor (rows.Started begun goal)).requests x ≡ Some (request_begun s (begin q))) (sym (req_same req begun is)) (on_itself (on_request begun begin s.requests) begun (request_begun s) ∙ ap (λ (o : Option Asked). option_map (request_begun s) o) (on_itself s.requests begun begin ∙ ap (λ (o : Option Asked). option_map begin o) (ap (request_of s) (sym (req_same req begun is)) ∙ at)));
            what = refl;
            nr = refl;
            began = λ began. refl;
          }
      by_number false is =
          record {
            r = q;
            at = on_else (on_request begun begin s.requests) begun (request_begun s) req is ∙ on_else s.requests begun begin req is ∙ at;
            what = refl;
            nr = refl;
            began = λ began. began;
          }

  -- one that is no load
  pub begun_lasts : (req : ReqId) (goal : Option Step) (q : Asked) → request_of s req ≡ Some q → is_load q.what ≡ false → Lasts s (next s event actor (rows.Started req goal))
  begun_lasts req goal q at no_load =
      lasts_by s (next s event actor (rows.Started req goal)) (begun_still req goal) (there_same s.places) (sole_by s (record { event = event; actor = actor; row = rows.Started req goal }) begins_none)
    where
      loads_none : (nav : NavId) (what : Request) → is_load what ≡ false → loads nav what ≡ false
      loads_none nav (requests.Load n mode address) is = cc
      loads_none nav (requests.Go delta) is = refl
      loads_none nav (requests.Reload n) is = refl
      loads_none nav (requests.Poke n action) is = refl

      begins_none : (r : ReqId) (nav : NavId) → begins_no_earlier s r nav (rows.Started req goal) ≡ true
      begins_none r nav =
          let none : (nat_lt q.nr.0 r.0 && loads nav q.what) ≡ false = and_right (nat_lt q.nr.0 r.0) (loads nav q.what) (loads_none nav q.what no_load) in
          rw at (rw none refl)
