-- What is known of the log as an event's own row was logged, whoever is in a check: a request was accepted, a document evicted, or a report delivered that tells no answer and no death.
use Rattle.load_table.specs.declared.load.Load.{Load}
use Rattle.asking_facts.proofs.Owns.{accepted_duly, evicted_duly, report_duly}
use Rattle.checking_facts.proofs.Rows.{no_one}
use Rattle.checking_facts.proofs.Settles.{silent_waits}
use Rattle.checking_facts.proofs.Waits.{none_waits}
use Rattle.checking_facts.specs.Checks.{AreInCheck, IsCalm, IsPlainReport, IsSilent, NumbersNext}
use Rattle.checking_facts.specs.Prompts.{AreAskedDuly, told_by}
use Rattle.load_doors.specs.Logged.{IsLogged, IsOwnRead}
use Rattle.log_model.specs.After.{after}
use Rattle.log_model.specs.Checks.{is_settled_by}
use Rattle.log_model.specs.Places.{is_traversal, is_under_way, running_traversal}
use Rattle.log_model.specs.Queue.{is_delivered_duly}
use Rattle.check_facts.specs.Rows.{IsNoAnswerOf}
use Rattle.log_model.specs.Seen.{Asked, Desk, Document, Place, Seen, desk_of, request_of}
use Rattle.log_model.specs.declared.job.Task.TheVariants as tasks
use Rattle.log_model.specs.declared.job.Task.{Task}
use Rattle.log_model.specs.declared.made.Report.TheVariants as reports
use Rattle.log_model.specs.declared.made.Report.{Report}
use Rattle.log_model.specs.declared.outcome.Outcome.TheVariants as outcomes
use Rattle.log_model.specs.declared.outcome.Outcome.{Outcome}
use Rattle.log_model.specs.declared.request.Request.{Request}
use Rattle.log_model.specs.declared.row_kind.Actor.TheVariants as actors
use Rattle.log_model.specs.declared.row_kind.Actor.{Actor}
use Rattle.log_model.specs.declared.row_kind.LogRow.{LogRow}
use Rattle.log_model.specs.declared.row_kind.RowKind.TheVariants as rows
use Rattle.log_model.specs.declared.row_kind.RowKind.{RowKind}
use Rattle.seen_laws.proofs.Deliveries.{delivered_may, delivered_row}
use Rattle.seen_laws.proofs.InEvents.{now_is, uncut_log}
use Rattle.seen_laws.specs.Blocks.{EachPass, point_at}
use Rattle.seen_facts.proofs.Desk.Stays.{NoDeath}
use Rattle.seen_facts.proofs.Each.Eaches.{each_first}
use Rattle.seen_facts.specs.Desk.Own.{AreDesksIn, IsReportIn}
use Rattle.seen_facts.specs.Transit.Orders.{IsOutcomeOf}
use Rattle.seen_laws.specs.InEvent.{AreLegal, InEvent, IsTakenIn, OwesNothing, log_of, row_of, start_of}
use Rattle.seen_laws.specs.Sending.{leads}
use Rattle.seen_laws.specs.Unasked.{is_question, no_answer, unasked, without_slot}
use Rattle.std.proofs.Common.{Bool, List, None, Option, Some, [], ap, cond, false, length, map, not, refl, subst, sym, true, ◌&&◌, ◌++◌, ◌+◌, ◌∙◌, ◌∷◌, ◌≡◌}
use Rattle.std.proofs.lemmas.Bool.{and_parts}
use Rattle.std.specs.List.{list_all}
use Rattle.std.specs.Prelude.{slice_get}
use Rattle.tab_acts.proofs.Checks.{IsBeside, still_unsettled, told_beside}
use Rattle.tab_acts.proofs.Told.{alive_plain}
use Rattle.tab_doors.proofs.Uncut.{uncut_pass}
use Rattle.tab_ids.specs.declared.DocId.{DocId}
use Rattle.tab_ids.specs.declared.ProcId.{ProcId}
use Rattle.tab_ids.specs.declared.ReqId.{ReqId}
use Rattle.tab_ids.specs.declared.StateId.{StateId}
use Rattle.tab_stands.proofs.Logged.{accepted_lasts, delivered_lasts, evicted_lasts, with_lawful}
use Rattle.tab_stands.specs.Checked.{ChecksStand}
use Rattle.tab_stands.specs.Delivering.{IsDelivery, IsSeenDelivery}
use Rattle.tab_stands.specs.Standing.{HasLogged, LastsInLog, seen_start}
use Rattle.unasked.proofs.Deliveries.{delivered_seen}
use Rattle.unasked.proofs.Events.{accepted_seen, evicted_seen}
use Rattle.unasked.proofs.Lists.{find_at, found_in}
use Rattle.unasked.proofs.Readings.{alone_unheld, desk_read}
use Rattle.unasked.proofs.Rows.{reports_first}
use Rattle.unasked.specs.Premises.{IsAlone, IsUnheld}
use Rattle.unasked_dues.specs.Checking.{NonePasses}
use Rattle.unload_check.specs.Checks.{OpenCheck}

same_told : (told other : Report) → (let o : Option Report = Some other in o) ≡ Some told → told ≡ other
same_told told other is = cc

-- two of these rows take the report of one process
one_proc : (a b : ProcId) → rows.Delivered a ≡ rows.Delivered b → a ≡ b
one_proc a b is = cc

-- ---- a traversal in its check

-- the traversal under way, by its number
record IsUnderWay (s : Seen) (q : Asked) : Type 0 where
  req : ReqId
  at : request_of s req ≡ Some q
  runs : is_under_way q ≡ true
  goes : is_traversal q.what ≡ true

under_way : (s : Seen) (q : Asked) → running_traversal s ≡ Some q → IsUnderWay s q
under_way s q is =
    let its = find_at (λ (x : Asked). is_under_way x && is_traversal x.what) s.requests q is in
    let parts = and_parts (is_under_way q) (is_traversal q.what) its.2 in
    record { req = record { 0 = its.0 + 1 }; at = found_in s.requests its.0 q its.1; runs = parts.0; goes = parts.1 }

-- nothing is held back for it: it has shown nobody a document, and no other one is under way
pub unheld_own : (checking : ReqId → Bool) (s : Seen) → AreInCheck checking s → IsUnheld checking s
unheld_own checking s known q is on = alone_unheld checking s alone shows q is on
  where
    its : IsUnderWay s q
    its = under_way s q is

    on_own : checking its.req ≡ true
    on_own = ap checking (sym (known.numbered its.req q its.at)) ∙ on

    -- each that is under way is that one
    same : (by : ReqId) (r : Asked) → request_of s by ≡ Some r → (is_under_way r && is_traversal r.what) ≡ true → q.nr ≡ r.nr
    same by r at runs =
        let parts = and_parts (is_under_way r) (is_traversal r.what) runs in
        known.alone its.req by q r its.at at its.runs parts.0 its.goes parts.1 on_own

    alone : IsAlone s
    alone r t p x at_p at_x p_runs x_runs = sym (same r p at_p p_runs) ∙ same t x at_x x_runs

    shows : (x : Asked) → running_traversal s ≡ Some x → checking x.nr ≡ true → x.activated ≡ []
    shows x runs in_check =
        let own = under_way s x runs in
        (known.checks own.req x own.at (ap checking (sym (known.numbered own.req x own.at)) ∙ in_check)).shows

-- ---- a report that is no answer

-- a report that is as this one but for a handler tells no answer and no death, where this one is of an order of its process, or of what a document made
pub plain_told : (documents : List Document) (places : List Place) (proc : ProcId) (real told : Report) → no_answer real ≡ Some told → IsReportIn documents places proc told → IsPlainReport (Some real)
plain_told documents places proc (reports.Made made) told is its = tt
plain_told documents places proc (reports.Died death) told is its =
    absurd (subst (λ (r : Report). IsReportIn documents places proc r) (same_told told (reports.Died death) is) its)
plain_told documents places proc (reports.Done job outcome made) told is its = by_test (is_question job.task) refl is
  where
    by_task : (task : Task) (o : Outcome) → is_question task ≡ false → IsOutcomeOf task (without_slot o) → IsNoAnswerOf o
    by_task (tasks.Populate nav state address initial) (outcomes.Populated slot) quiet fits = tt
    by_task (tasks.Activate entry epoch long at memo address) outcomes.Activated quiet fits = tt
    by_task (tasks.Update long at) outcomes.Updated quiet fits = tt
    by_task tasks.Freeze outcomes.Frozen quiet fits = tt
    by_task tasks.Discard outcomes.Discarded quiet fits = tt
    by_task (tasks.DoFragment req mode address) outcomes.Fragmented quiet fits = tt
    by_task (tasks.Ask slot cause) o never fits = absurd cc
    by_task _ _ quiet fits = elim fits [ ]

    by_test : (b : Bool) → is_question job.task ≡ b → (let r : Option Report = cond b None (Some (reports.Done job (without_slot outcome) made)) in r) ≡ Some told → IsPlainReport (Some (reports.Done job outcome made))
    by_test true question never = absurd cc
    by_test false quiet told_is =
        let same : told ≡ reports.Done job (without_slot outcome) made = same_told told (reports.Done job (without_slot outcome) made) told_is in
        by_task job.task outcome quiet (subst (λ (r : Report). IsReportIn documents places proc r) same its).1

-- ---- the own row

module _ (e : InEvent) (checks : List (ReqId × OpenCheck)) (uncut : e.before ≡ []) (undue : OwesNothing e) {table : List Load} (lasts : LastsInLog e.checking table e.start) (asks : ChecksStand e.checking e.start checks) where
  -- what is so behind it
  behind : (P : Seen → Type 0) (kind : RowKind) → e.own ≡ kind → P (after e.start (row_of e kind)) → P (log_of e [])
  behind P kind own is =
      subst P (sym (uncut_log e uncut)) (subst (λ (k : RowKind). P (after e.start (row_of e k))) (sym own) is)

  -- it is read off
  read_own : (kind : RowKind) → e.own ≡ kind → unasked e.checking (after e.start (row_of e kind)) ≡ after (seen_start e) (row_of e kind) → IsOwnRead e
  read_own kind own read =
      now_is e []
      ∙ behind (λ (x : Seen). unasked e.checking x ≡ after (seen_start e) (row_of e kind)) kind own read
      ∙ ap (λ (k : RowKind). after (seen_start e) (row_of e k)) (sym own)

  -- and settles no question of a traversal in its check
  calm_own : (kind : RowKind) → e.own ≡ kind → IsCalm kind → IsSilent e.start kind → NumbersNext e.start kind → NonePasses e.checking (log_of e [])
  calm_own kind own calm silent next =
      behind (λ (x : Seen). NonePasses e.checking x) kind own (λ req q at runs goes on. silent_waits e.checking no_one e.start (row_of e kind) calm silent next (none_waits e.checking e.start asks.calm no_one) req q at runs goes on refl)

  -- no report is taken
  none_taken : (kind : RowKind) → e.own ≡ kind → ((proc : ProcId) → kind ≡ rows.Delivered proc → ⊥) → (proc : ProcId) → e.own ≡ rows.Delivered proc → NoDeath (slice_get (desk_of e.start proc).reports 0)
  none_taken kind own other proc is = absurd (other proc (sym own ∙ is))

  -- no run lasts as the event begins
  ran_as : AreAskedDuly e.checking e.start (log_of e []) (record { checks = checks; run = [] }) → AreAskedDuly e.checking e.start (log_of e []) (told_by e.ran checks [])
  ran_as =
      subst (λ (docs : List DocId). AreAskedDuly e.checking e.start (log_of e []) (record { checks = checks; run = docs })) (sym undue.ran)

  -- ---- a request was accepted, which isn't in its check

  module _ (req : ReqId) (doc : Option DocId) (what : Request) (own : e.own ≡ rows.Accepted req doc what) (next : req.0 ≡ length e.start.requests + 1) (outside : e.checking req ≡ false) where
    pub accepted_log : LastsInLog e.checking table (log_of e [])
    accepted_log =
        accepted_lasts e uncut (ap leads own) (none_taken (rows.Accepted req doc what) own (λ proc is. cc)) lasts req doc what own next outside

    pub accepted_logged : IsLogged e checks
    accepted_logged =
        record {
          uncut = uncut;
          undue = undue;
          read = read_own (rows.Accepted req doc what) own (accepted_seen e.checking e.start e.event e.actor req doc what);
          numbered = lasts.checks.numbered;
          checking = accepted_log.checks;
          calm = calm_own (rows.Accepted req doc what) own tt tt next;
          asked =
              ran_as (behind (λ (x : Seen). AreAskedDuly e.checking e.start x (record { checks = checks; run = [] })) (rows.Accepted req doc what) own (accepted_duly e.checking e.start e.event e.actor req doc what checks next asks.has asks.open_ asks.within));
        }

  -- ---- a document was evicted

  module _ (state : StateId) (own : e.own ≡ rows.Evicted state) where
    pub evicted_log : LastsInLog e.checking table (log_of e [])
    evicted_log =
        evicted_lasts e uncut (ap leads own) (none_taken (rows.Evicted state) own (λ proc is. cc)) lasts state own

    pub evicted_logged : IsLogged e checks
    evicted_logged =
        record {
          uncut = uncut;
          undue = undue;
          read = read_own (rows.Evicted state) own (evicted_seen e.checking e.start e.event e.actor state);
          numbered = lasts.checks.numbered;
          checking = evicted_log.checks;
          calm = calm_own (rows.Evicted state) own tt tt tt;
          asked =
              ran_as (behind (λ (x : Seen). AreAskedDuly e.checking e.start x (record { checks = checks; run = [] })) (rows.Evicted state) own (evicted_duly e.checking e.start e.event e.actor state checks asks.has asks.open_ asks.within));
        }

  -- ---- a report was delivered that tells no answer and no death

  module _ (proc : ProcId) (real told : Report) (delivery : IsDelivery e proc real) (quiet : no_answer real ≡ Some told) (desks : AreDesksIn (seen_start e)) where
    first_told : slice_get (desk_of (seen_start e) proc).reports 0 ≡ Some told
    first_told =
        ap (λ (desk : Desk). slice_get desk.reports 0) (desk_read e.checking e.start proc)
        ∙ reports_first (desk_of e.start proc).reports real told delivery.first quiet

    plain : IsPlainReport (Some real)
    plain =
        plain_told (seen_start e).documents (seen_start e).places proc real told quiet
        (each_first (IsReportIn (seen_start e).documents (seen_start e).places proc) (desk_of (seen_start e) proc).reports told first_told (desks proc).told)

    plain_first : IsPlainReport (slice_get (desk_of e.start proc).reports 0)
    plain_first = subst IsPlainReport (sym delivery.first) plain

    -- as it would be had nobody been asked
    pub delivered_as : IsSeenDelivery e proc told
    delivered_as =
        record {
          by_coord = delivery.by_coord;
          own = delivery.own;
          first = first_told;
          real = real;
          real_first = delivery.first;
          quiet = quiet;
          unheld = unheld_own e.checking e.start lasts.checks;
        }

    pub delivered_log : LastsInLog e.checking table (log_of e [])
    delivered_log =
        delivered_lasts e uncut (ap leads delivery.own) alive lasts proc delivery.own
      where
        alive : (p : ProcId) → e.own ≡ rows.Delivered p → NoDeath (slice_get (desk_of e.start p).reports 0)
        alive p is =
            let same : proc ≡ p = one_proc proc p (sym delivery.own ∙ is) in
            subst (λ (x : ProcId). NoDeath (slice_get (desk_of e.start x).reports 0)) same (alive_plain (slice_get (desk_of e.start proc).reports 0) plain_first)

    legal : AreLegal e []
    unfolding AreLegal
    legal later rest =
        uncut_pass e [] later uncut (subst (λ (r : LogRow). EachPass (start_of e) (r ∷ []) later) (sym its_row)
        (delivered_may (start_of e) e.event proc real refl delivery.first none_settled later (subst (λ (r : LogRow). is_delivered_duly (point_at (start_of e) later) r ≡ true) its_row taken)))
      where
        taken : IsTakenIn e later
        taken = subst (λ (l : List RowKind). IsTakenIn e ((map (row_of e) l ++ []) ++ later)) uncut rest.taken

        its_row : row_of e e.own ≡ delivered_row e.event proc
        its_row =
            ap (λ (a : Actor). let r : LogRow = record { event = e.event; actor = a; row = e.own } in r) delivery.by_coord
            ∙ ap (λ (k : RowKind). let r : LogRow = record { event = e.event; actor = actors.Coord; row = k } in r) delivery.own

        beside : IsBeside e.start (delivered_row e.event proc)
        beside = told_beside e.start e.event actors.Coord proc plain_first

        none_settled : list_all (λ (q : Asked). not (is_settled_by e.start (after e.start (delivered_row e.event proc)) q)) e.start.requests ≡ true
        none_settled = still_unsettled e.start (after e.start (delivered_row e.event proc)) beside.gone beside.reads asks.has.numbered

    pub delivered_logged : HasLogged e checks table
    delivered_logged =
        with_lawful e checks (record {
          uncut = uncut;
          undue = undue;
          read = read_own (rows.Delivered proc) delivery.own (delivered_seen e.checking e.start e.event e.actor proc real told delivery.first quiet (unheld_own e.checking e.start lasts.checks));
          numbered = lasts.checks.numbered;
          checking = delivered_log.checks;
          calm = calm_own (rows.Delivered proc) delivery.own tt plain_first tt;
          asked =
              ran_as (behind (λ (x : Seen). AreAskedDuly e.checking e.start x (record { checks = checks; run = [] })) (rows.Delivered proc) delivery.own (report_duly e.start e.event e.actor proc e.checking checks plain_first asks.has asks.open_ asks.within));
        }) delivered_log legal
