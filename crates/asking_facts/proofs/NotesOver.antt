-- Whichever document the table notes wanted a prompt, from row to row: beside the checks, as a request begins and asks, as one is accepted, and as an answer comes.
use Rattle.std.proofs.Common.{◌≡◌, ℕ, ◌+◌, Bool, true, false, ◌==◌, List, [], length, slice_get, Option, Some, None, refl, sym, ap, ◌∙◌, subst}
use Rattle.std.specs.Prelude.{option_and_then, option_map}
use Rattle.tab_ids.specs.declared.DocId.{DocId}
use Rattle.tab_ids.specs.declared.ProcId.{ProcId}
use Rattle.tab_ids.specs.declared.ReqId.{ReqId}
use Rattle.tab_ids.specs.declared.Step.{Step}
use Rattle.log_model.specs.declared.job.Job.{Job}
use Rattle.log_model.specs.declared.made.Report.{Report}
use Rattle.log_model.specs.declared.made.Report.TheVariants as reports
use Rattle.log_model.specs.declared.outcome.Outcome.{Outcome}
use Rattle.log_model.specs.declared.outcome.Outcome.TheVariants as outcomes
use Rattle.log_model.specs.declared.request.Request.{Request}
use Rattle.log_model.specs.declared.row_kind.Actor.{Actor}
use Rattle.log_model.specs.declared.row_kind.LogRow.{LogRow}
use Rattle.log_model.specs.declared.row_kind.RowKind.{RowKind}
use Rattle.log_model.specs.declared.row_kind.RowKind.TheVariants as rows
use Rattle.log_model.specs.After.{after, new_request}
use Rattle.log_model.specs.AfterRequests.{on_asking, requests_delivered}
use Rattle.log_model.specs.Orders.{Question}
use Rattle.log_model.specs.Seen.{Asked, Seen, desk_of, request_of}
use Rattle.unload_check.specs.Checks.{KeepsOthers, OpenCheck, after_all_deaths, check_of, outcome_of}
use Rattle.seen_laws.specs.InEvent.{InEvent}
use Rattle.seen_facts.proofs.Each.Runs.{each_asked_more}
use Rattle.seen_facts.proofs.Request.LookUps.{none_before}
use Rattle.seen_facts.proofs.Request.Readers.{SameReads}
use Rattle.seen_facts.specs.Each.Runs.{EachAsked}
use Rattle.check_facts.proofs.Tables.{todo_none}
use Rattle.check_facts.specs.Checking.{AreTiedAt}
use Rattle.check_facts.specs.Having.{HasChecks}
use Rattle.check_facts.specs.Prompting.{prompt_of, todo_of}
use Rattle.checking_facts.proofs.Besides.{beside_plain}
use Rattle.checking_facts.proofs.Grown.{req_same}
use Rattle.checking_facts.specs.Prompts.{AreAskedDuly, GoesBeside, HasRun, Told, discarded_by, tell_for, tell_row}
use Rattle.asking_facts.proofs.Begun.{then_, then_other}
use Rattle.asking_facts.proofs.Notes.{asks_notes, told_notes_wanted}
use Rattle.asking_facts.proofs.Ones.{told_outside}
use Rattle.asking_facts.proofs.Tables.{todo_begun}
use Rattle.asking_facts.proofs.Waiting.{asks_of, plain_asks}
use Rattle.asking_facts.proofs.Wanted.{delivered_asks, served_each}
use Rattle.asking_facts.specs.Asking.{AreQuestions, AreSome, BeginsToAsk, checks_begun}
use Rattle.asking_facts.specs.Prompting.{NotesWanted, has_wanted}

-- what the table notes for one request
abbrev Noted : List (ReqId × OpenCheck) → ReqId → Asked → Type 0
Noted es r q = (doc : DocId) → todo_of es r ≡ Some doc → has_wanted doc q.asks ≡ true

-- ---- one request changes, or its check does

pub one_notes : (s t : Seen) (es new : List (ReqId × OpenCheck)) (req : ReqId) → ((r : ReqId) → (r.0 == req.0) ≡ false → request_of t r ≡ request_of s r) → KeepsOthers req es new → ((x : Asked) → request_of t req ≡ Some x → (doc : DocId) → todo_of new req ≡ Some doc → has_wanted doc x.asks ≡ true) → NotesWanted s es → NotesWanted t new
one_notes s t es new req others keeps own notes r q at doc noted = by_number (r.0 == req.0) refl
  where
    by_number : (b : Bool) → (r.0 == req.0) ≡ b → has_wanted doc q.asks ≡ true
    by_number false apart =
        notes r q (sym (others r apart) ∙ at) doc (ap (λ (o : Option OpenCheck). option_and_then prompt_of (option_map outcome_of o)) (sym (keeps r apart)) ∙ noted)
    by_number true is =
        let it : r ≡ req = req_same r req is in
        own q (ap (λ (n : ReqId). request_of t n) (sym it) ∙ at) doc (ap (todo_of new) (sym it) ∙ noted)

-- ---- a row that leaves the questions of each request

-- the table is told of the run that it ends
pub row_notes : (start now next_ : Seen) (told : Told) → HasRun start now told → (kind : RowKind) → SameReads asks_of now.requests next_.requests → NotesWanted now told.checks → NotesWanted next_ (tell_row told kind).checks
row_notes start now next_ told run kind same notes = by_discard (discarded_by kind)
  where
    by_discard : (o : Option DocId) → NotesWanted next_ (tell_for told o).checks
    by_discard (Some doc) = asks_notes now next_ told.checks same notes
    by_discard None =
        asks_notes now next_ (after_all_deaths told.run told.checks) same (told_notes_wanted start now told run notes)

-- a row beside the checks does
pub beside_notes : (checking : ReqId → Bool) (start now : Seen) (told : Told) → HasRun start now told → (event : ℕ) (actor : Actor) (kind : RowKind) → GoesBeside checking now kind → NotesWanted now told.checks → NotesWanted (after now (record { event = event; actor = actor; row = kind })) (tell_row told kind).checks
beside_notes checking start now told run event actor kind beside notes =
    row_notes start now (after now (record { event = event; actor = actor; row = kind })) told run kind (plain_asks now (after now (record { event = event; actor = actor; row = kind })) (beside_plain checking now event actor kind beside)) notes

-- ---- a request begins and asks

pub begun_notes : (e : InEvent) (checking : ReqId → Bool) (start now : Seen) (told : Told) (asked : AreAskedDuly checking start now told) (req : ReqId) (goal : Option Step) (questions : List Question) (jobs : List Job) (q : Asked) (begins : BeginsToAsk now req goal questions q) (are : AreQuestions now req questions jobs) → AreSome questions → checking req ≡ false → NotesWanted now told.checks → NotesWanted (then_ e now req goal questions jobs q begins are) (checks_begun told req questions)
begun_notes e checking start now told asked req goal questions jobs q begins are some off notes r x at doc noted =
    by_number (r.0 == req.0) refl
  where
    was : List (ReqId × OpenCheck)
    was = after_all_deaths told.run told.checks

    noted_then : todo_of was r ≡ Some doc
    noted_then =
        sym (todo_begun e checking start now told asked req goal questions jobs q begins are some off r) ∙ noted

    by_number : (b : Bool) → (r.0 == req.0) ≡ b → has_wanted doc x.asks ≡ true
    by_number false apart =
        told_notes_wanted start now told asked.run notes r x (sym (then_other e now req goal questions jobs q begins are r apart) ∙ at) doc noted_then
    by_number true is =
        let it : r ≡ req = req_same r req is in
        let none : (let o : Option DocId = None in o) ≡ Some doc = sym (ap (todo_of was) it ∙ todo_none req was (told_outside checking start now told asked req off)) ∙ noted_then in
        absurd cc

-- ---- an own row that leaves the table

-- one is accepted
pub accepted_notes : (s : Seen) (row : LogRow) (req : ReqId) (doc : Option DocId) (what : Request) (es : List (ReqId × OpenCheck)) → row.row ≡ rows.Accepted req doc what → HasChecks s es → NotesWanted s es → NotesWanted (after s row) es
accepted_notes s row req doc what es is has notes =
    rw is (each_asked_more (Noted es) s.requests (new_request req doc what) next_ refl fresh notes)
  where
    next_ : ReqId
    next_ = record { 0 = length s.requests + 1 }

    fresh : (d : DocId) → todo_of es next_ ≡ Some d → has_wanted d [] ≡ true
    fresh d noted =
        let none : check_of next_ es ≡ None = subst (λ (o : Option Asked). AreTiedAt s o (check_of next_ es)) (none_before s.requests (new_request req doc what) next_ refl) (has.tied.each next_) in
        let both : (let o : Option DocId = None in o) ≡ Some d = sym (todo_none next_ es none) ∙ noted in
        absurd cc

-- a report is delivered
pub delivered_notes : (s : Seen) (row : LogRow) (proc : ProcId) (es : List (ReqId × OpenCheck)) → row.row ≡ rows.Delivered proc → NotesWanted s es → NotesWanted (after s row) es
delivered_notes s row proc es is notes = rw is (by_report (slice_get (desk_of s proc).reports 0))
  where
    by_report : (report : Option Report) → EachAsked (Noted es) (requests_delivered report s.requests)
    by_report None = notes
    by_report (Some (reports.Made made)) = notes
    by_report (Some (reports.Died death)) = notes
    by_report (Some (reports.Done job outcome made)) = by_outcome outcome
      where
        by_outcome : (o : Outcome) → EachAsked (Noted es) (requests_delivered (Some (reports.Done job o made)) s.requests)
        by_outcome (outcomes.Asked verdict) =
            served_each (Noted es) s.requests job.why (on_asking job.nr (λ asking. record asking { is_delivered = true })) (λ req q why at its doc noted. delivered_asks doc job.nr q.asks ∙ its doc noted) notes
        by_outcome (outcomes.Populated slot) = notes
        by_outcome outcomes.Activated = notes
        by_outcome outcomes.Updated = notes
        by_outcome outcomes.Frozen = notes
        by_outcome outcomes.Discarded = notes
        by_outcome outcomes.Fragmented = notes
