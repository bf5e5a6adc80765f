-- Each refusal has its reason, and each drop has its cause.
-- HTML Standard, "navigate" (an ongoing navigation gives way), "traverse the history by a delta", "destroy a child navigable", "checking if unloading is canceled". This project's own: the reasons' names and order, and drops by a death.
use Rattle.std.specs.Prelude.{ℕ, Bool, true, false, not, ◌&&◌, ◌||◌, ◌==◌, nat_lt, List, [], length, Option, Some, None, is_none, is_some, option_and_then, if◌then◌else◌}
use Rattle.std.specs.List.{list_any}
use Rattle.tab_ids.specs.declared.NavId.{NavId}
use Rattle.tab_ids.specs.declared.StateId.{StateId}
use Rattle.tab_ids.specs.declared.DocId.{DocId}
use Rattle.tab_ids.specs.declared.ReqId.{ReqId}
use Rattle.tab_ids.specs.declared.Death.{Death}
use Rattle.log_model.specs.declared.change.Change.{Change}
use Rattle.log_model.specs.declared.change.Change.TheVariants as changes
use Rattle.log_model.specs.declared.handler.Verdict.{Verdict}
use Rattle.log_model.specs.declared.handler.Verdict.TheVariants as verdicts
use Rattle.log_model.specs.declared.job.Why.TheVariants as whys
use Rattle.log_model.specs.declared.made.Made.{Made}
use Rattle.log_model.specs.declared.made.What.{What}
use Rattle.log_model.specs.declared.made.What.TheVariants as whats
use Rattle.log_model.specs.declared.made.Report.{Report}
use Rattle.log_model.specs.declared.made.Report.TheVariants as reports
use Rattle.log_model.specs.declared.outcome.Cause.{Cause}
use Rattle.log_model.specs.declared.outcome.Cause.TheVariants as drops
use Rattle.log_model.specs.declared.outcome.Denial.{Denial}
use Rattle.log_model.specs.declared.outcome.Denial.TheVariants as denials
use Rattle.log_model.specs.declared.request.Request.{Request}
use Rattle.log_model.specs.declared.request.Request.TheVariants as requests
use Rattle.log_model.specs.declared.row_kind.Actor.{Actor}
use Rattle.log_model.specs.declared.row_kind.Actor.TheVariants as actors
use Rattle.log_model.specs.declared.row_kind.LogRow.{LogRow}
use Rattle.log_model.specs.declared.row_kind.RowKind.{RowKind}
use Rattle.log_model.specs.declared.row_kind.RowKind.TheVariants as rows
use Rattle.log_model.specs.Equal.{holds, same_option, same_denial, same_why}
use Rattle.log_model.specs.History.{has_nav, has_row, owner_of, same_entry}
use Rattle.log_model.specs.Views.{View, made_by}
use Rattle.log_model.specs.Seen.{Seen, Document, Asked, Asking, Place, document_of, request_of, place_of}
use Rattle.log_model.specs.Places.{is_shown, is_load, is_traversal, is_reload, is_below_known_lost, is_present, is_placed, stands, has_passed, awake_document, aim_of, way_to}
use Rattle.log_model.specs.AfterPlaces.{is_taken_by}
use Rattle.log_model.specs.AfterRequests.{is_running}
use Rattle.log_model.specs.Events.{Point}
use Rattle.log_model.specs.Formed.{running_documents}
use Rattle.log_model.specs.Once.{step_at_delta, delta_of}
use Rattle.log_model.specs.Points.{own_row, taken_report, end_of, is_accepted_here, had_started, had_ended, is_refused_in, nav_of_request, is_poke}

-- ---- why a request is refused

-- a navigable above is known lost
abbrev pub is_unreachable : Seen → NavId → Bool
is_unreachable s nav = holds (is_below_known_lost s) (place_of s nav)

-- the reason for which a navigable can't be loaded or reloaded: it has no row, it isn't shown, or it has no document to be in
abbrev pub denial_of_nav : Seen → Bool → NavId → Option Denial
denial_of_nav s needs_document nav =
    if not (has_row nav s.history.rows) then Some denials.NoNavigable
    else (if not (is_shown s.history.rows s.history.current nav) then Some denials.NotShown
    else (if needs_document && is_unreachable s nav then Some denials.NoDocument else None))

-- the reason for which a navigable can't be poked
abbrev pub denial_of_poke : Seen → NavId → Option Denial
denial_of_poke s nav =
    if not (has_row nav s.history.rows) then Some denials.NoNavigable
    else (if length (running_documents s nav) == 0 then Some denials.NoDocument else None)

-- the first reason that holds as a request is accepted
abbrev pub denial_at_acceptance : Seen → Request → Option Denial
denial_at_acceptance s (requests.Load nav mode address) = denial_of_nav s true nav
denial_at_acceptance s (requests.Go delta) = None
denial_at_acceptance s (requests.Reload nav) = denial_of_nav s false nav
denial_at_acceptance s (requests.Poke nav action) = denial_of_poke s nav

-- the reason for which a reload can't begin; one whose navigable has lost its rows isn't refused but dropped
abbrev pub denial_of_reload : Seen → NavId → Option Denial
denial_of_reload s nav = if has_row nav s.history.rows then denial_of_nav s true nav else None

-- the first reason that holds as a traversal or a reload begins
abbrev pub denial_at_start : Seen → Request → Option Denial
denial_at_start s (requests.Load nav mode address) = None
denial_at_start s (requests.Reload nav) = denial_of_reload s nav
denial_at_start s what = option_and_then (λ delta. if is_some (step_at_delta s delta) then None else Some denials.NoStep) (delta_of what)

-- the first reason that holds as a document is to act
abbrev pub denial_at_act : Seen → Asked → Option Denial
denial_at_act s q = if holds (is_running s) q.doc then (if makes s q q.what then None else Some denials.BadAddress) else Some denials.NoDocument
  where
    makes : Seen → Asked → Request → Bool
    makes s q (requests.Poke nav action) =
        holds (λ (d : Document). holds (λ (view : View). is_some (made_by view action)) d.view) (option_and_then (document_of s) q.doc)
    makes s q _ = false

-- the first reason that holds as what a document made is delivered: a new frame's number is taken, or the frame to be removed isn't the document's
abbrev pub denial_at_delivery : Seen → Made → Option Denial
denial_at_delivery s made = by_what s made made.what
  where
    by_what : Seen → Made → What → Option Denial
    by_what s made (whats.AddFrame nav) =
        if nav.0 == 0 || has_nav s.history.added nav then Some denials.NavTaken else None
    by_what s made (whats.RemoveFrame nav) =
        if holds (λ (d : Document). holds (λ (owner : StateId). owner.0 == d.state.0) (owner_of nav s.history.rows)) (document_of s made.doc) then None
        else Some denials.NoNavigable
    by_what s made _ = None

-- the row takes a report
abbrev pub takes_report : RowKind → Bool
takes_report (rows.Delivered proc) = true
takes_report _ = false

-- the first reason that holds where a request is refused: as its document is to act, as it is accepted, in an event that takes a report, or as it begins
abbrev pub due_denial : Point → LogRow → Asked → Option Denial
due_denial p row q = by_actor p row q row.actor
  where
    at_acceptance : Point → Asked → Option Denial
    at_acceptance p q = if is_accepted_here p q.nr then denial_at_acceptance p.start q.what else None

    at_delivery : Point → LogRow → Made → Option Denial
    at_delivery p row made = if takes_report (own_row p row) then denial_at_delivery p.now made else None

    later_on : Point → LogRow → Asked → Option Denial
    later_on p row q =
        if is_traversal q.what then denial_at_start p.now q.what
        else (if is_some q.made then option_and_then (at_delivery p row) q.made else denial_at_start p.now q.what)

    by_coordinator : Point → LogRow → Asked → Option Denial → Option Denial
    by_coordinator p row q None = later_on p row q
    by_coordinator p row q (Some reason) = Some reason

    by_actor : Point → LogRow → Asked → Actor → Option Denial
    by_actor p row q (actors.Proc proc) = denial_at_act p.now q
    by_actor p row q _ = by_coordinator p row q (at_acceptance p q)

-- a request for which a reason holds as it is accepted is refused in that event
abbrev pub is_denied_duly : Point → ReqId → Request → Bool
is_denied_duly p req what = by_reason p req (denial_at_acceptance p.start what)
  where
    by_reason : Point → ReqId → Option Denial → Bool
    by_reason p req None = true
    by_reason p req (Some reason) = list_any (is_refused_in req reason) p.later

-- a reload begins only where its navigable has a row, and no reason to refuse it holds
abbrev pub may_begin_here : Seen → Asked → Bool
may_begin_here s q = by_request s q.what
  where
    by_request : Seen → Request → Bool
    by_request s (requests.Reload nav) = has_row nav s.history.rows && is_none (denial_of_reload s nav)
    by_request s _ = true

-- ---- why a request is dropped: what is read

-- the navigable of a request and those above it
abbrev pub way_of_request : Seen → Asked → List NavId
way_of_request s q = by_nav s (nav_of_request q.what)
  where
    by_nav : Seen → Option NavId → List NavId
    by_nav s None = []
    by_nav s (Some nav) = way_to s nav

-- one of the navigables has a place that passes the test
abbrev pub any_place : Seen → List NavId → (Place → Bool) → Bool
any_place s navs test = list_any (λ nav. holds test (place_of s nav)) navs

-- one of the navigables isn't shown at the step, or doesn't stand there
abbrev pub any_displaced : Seen → ℕ → List NavId → Bool
any_displaced s step navs = list_any (λ nav. not (is_placed s step nav)) navs

-- what was made isn't present any more, or the fragment order found its document not running; a document's traversal doesn't mind
abbrev pub is_outdated : Seen → Asked → Bool
is_outdated s q =
    not (is_traversal q.what) && (holds (λ made. not (is_present s made)) q.made || q.is_not_found)

-- the navigable that a change is of
abbrev pub nav_of_change : Change → Option NavId
nav_of_change (changes.Push nav entry state address memo) = Some nav
nav_of_change (changes.Replace nav over entry state address memo) = Some nav
nav_of_change (changes.AddFrame owner nav entry state) = Some nav
nav_of_change (changes.RemoveFrame nav) = Some nav
nav_of_change (changes.Traverse goal) = None
nav_of_change (changes.Reload nav) = Some nav
nav_of_change changes.Edit = None

-- the request's applied change is of one of the navigables
abbrev pub changed_one_of : Asked → List NavId → Bool
changed_one_of r navs = holds (has_nav navs) (option_and_then nav_of_change r.change)

-- the request is a traversal that has begun and passed
abbrev pub is_passed_traversal : Seen → Asked → Bool
is_passed_traversal s r = is_traversal r.what && r.is_started && has_passed s r

-- the request is the reason for which the navigable is as it is, and it moved it: as a passed traversal, by a change of it or one above, or by a change that took an entry which it or one above was given
abbrev pub has_moved_away : Seen → Asked → Asked → NavId → Bool
has_moved_away s q r nav =
    holds (λ (place : Place). same_why place.why (whys.Req r.nr)) (place_of s nav)
    && (is_passed_traversal s r || changed_one_of r (way_to s nav) || any_place s (way_to s nav) (λ place. list_any (λ entry. list_any (same_entry entry) place.ever_given) r.took))

-- the death is the reason for which the navigable is as it is, and took a document that it or one above was awake on
abbrev pub has_taken_away : Seen → Death → NavId → Bool
has_taken_away s death nav =
    holds (λ (place : Place). same_why place.why (whys.Death death)) (place_of s nav)
    && any_place s (way_to s nav) (λ (place : Place). list_any (is_taken_by s death) place.ever_awake)

-- ---- the causes: the user stays

-- this event's own row answers stay to the request, and the document for whose sake the user was asked wanted it
abbrev pub is_stay : Point → LogRow → Asked → Bool
is_stay p row q = answers_stay q.nr (own_row p row) && holds (wanted_prompt q) q.prompted
  where
    answers_stay : ReqId → RowKind → Bool
    answers_stay req (rows.Answered r stay) = r.0 == req.0 && stay
    answers_stay req _ = false

    is_prompt : Verdict → Bool
    is_prompt verdicts.Prompt = true
    is_prompt verdicts.Leave = false

    wanted_prompt : Asked → DocId → Bool
    wanted_prompt q doc = list_any (λ (asking : Asking). asking.doc.0 == doc.0 && holds is_prompt asking.verdict) q.asks

-- ---- the causes: another request

-- a later load of the same navigable begins in this event
abbrev pub by_later_load : Point → Seen → Asked → Asked → Bool
by_later_load p e q r =
    is_load q.what && is_load r.what && nat_lt q.nr.0 r.nr.0
    && same_option (λ (a : NavId) (b : NavId). a.0 == b.0) (nav_of_request q.what) (nav_of_request r.what)
    && r.is_started && not (had_started p r.nr)

-- a load's navigable, or one above, isn't shown or doesn't stand where a passed traversal, not ended before this event, leads
abbrev pub by_traversal : Point → Seen → Asked → Asked → Bool
by_traversal p e q r =
    is_load q.what && is_passed_traversal e r && not (had_ended p r.nr) && any_displaced e (aim_of e) (way_of_request e q)

-- a load's navigable, or one above, doesn't stand since the last reload or load with a new document, which was of it or one above
abbrev pub by_last_step : Seen → Asked → Asked → Bool
by_last_step e q r =
    is_load q.what && holds (λ (last : ReqId). last.0 == r.nr.0) e.last_step && not e.has_stood
    && changed_one_of r (way_of_request e q)
    && list_any (λ nav. not (stands e e.history.current nav)) (way_of_request e q)

-- a load accepted in this event meets a navigable that the other request added and that no document was ever shown in
abbrev pub by_adder : Point → Seen → Asked → Asked → Bool
by_adder p e q r =
    is_load q.what && is_accepted_here p q.nr
    && any_place e (way_of_request e q) (λ (place : Place). not place.was_activated && holds (λ (adder : ReqId). adder.0 == r.nr.0) place.added_by)

-- what was made is outdated, since the other request moved its navigable away
abbrev pub by_mover : Seen → Asked → Asked → Bool
by_mover s q r = is_outdated s q && holds (has_moved_away s q r) (nav_of_request q.what)

-- at the end of the event, the other request took the place of the load, or keeps it from its navigable
abbrev pub by_event : Point → Seen → Asked → ReqId → Bool
by_event p e q req =
    holds (λ r. by_later_load p e q r || by_traversal p e q r || by_last_step e q r || by_adder p e q r) (request_of e req)

-- another request took its place or moved its navigable: read at the end of the event, but for what was made, which is read at the drop
abbrev pub is_by : Point → LogRow → Asked → ReqId → Bool
is_by p row q req = by_event p (end_of p row) q req || holds (by_mover p.now q) (request_of p.now req)

-- the other request's change took the last rows of the request's navigable
abbrev pub is_destroyed_by : Seen → Asked → ReqId → Bool
is_destroyed_by s q req = not (is_traversal q.what) && holds (takes s req) (nav_of_request q.what)
  where
    takes : Seen → ReqId → NavId → Bool
    takes s req nav =
        not (has_row nav s.history.rows)
        && holds (λ (place : Place). holds (λ (taker : ReqId). taker.0 == req.0) place.taken_by) (place_of s nav)

-- ---- the causes: a death

-- this event is the death, and took the poked document
abbrev pub poke_is_gone : Point → LogRow → Asked → Death → Bool
poke_is_gone p row q death = is_poke q.what && kills death (own_row p row) && holds (is_taken_by (end_of p row) death) q.doc
  where
    kills : Death → RowKind → Bool
    kills death (rows.Killed proc d) = d.0 == death.0
    kills death _ = false

-- what was made is outdated, since the death took a document of its navigable or one above
abbrev pub report_is_gone : Seen → Asked → Death → Bool
report_is_gone s q death = is_outdated s q && holds (has_taken_away s death) (nav_of_request q.what)

-- this event takes the report of the death
abbrev pub takes_death : Point → LogRow → Death → Bool
takes_death p row death = holds (is_death death) (taken_report p row)
  where
    is_death : Death → Report → Bool
    is_death death (reports.Died d) = d.0 == death.0
    is_death death _ = false

-- the request has begun and isn't applied
abbrev pub is_begun_unapplied : Asked → Bool
is_begun_unapplied q = q.is_started && is_none q.change

-- a document of a navigable above was, as this event began, one that the death took
abbrev pub is_bereft_above : Point → Seen → Asked → Death → Bool
is_bereft_above p e q death = holds (λ (place : Place). any_place p.start place.above (λ above. holds (is_taken_by e death) (awake_document above))) (option_and_then (place_of e) (nav_of_request q.what))

-- the reported death took the document of its fragment order, or that of a navigable above an ongoing load or reload
abbrev pub load_is_gone : Point → LogRow → Asked → Death → Bool
load_is_gone p row q death =
    takes_death p row death
    && (holds (is_taken_by (end_of p row) death) q.fragment || ((is_load q.what || is_reload q.what) && is_begun_unapplied q && is_bereft_above p (end_of p row) q death))

-- a death took the request's document, or that of a navigable above
abbrev pub is_gone_by : Point → LogRow → Asked → Death → Bool
is_gone_by p row q death = poke_is_gone p row q death || report_is_gone p.now q death || load_is_gone p row q death

-- ---- the whole

-- the request is dropped for its cause
abbrev pub is_dropped_duly : Point → LogRow → Cause → Asked → Bool
is_dropped_duly p row drops.Stay q = is_stay p row q
is_dropped_duly p row (drops.By req) q = is_by p row q req
is_dropped_duly p row (drops.Destroyed req) q = is_destroyed_by p.now q req
is_dropped_duly p row (drops.Gone death) q = is_gone_by p row q death

-- an event that answers stay drops its request for that
abbrev pub is_stayed_duly : Point → ReqId → Bool → Bool
is_stayed_duly p req true = list_any (λ (row : LogRow). stays req row.row) p.later
  where
    stays : ReqId → RowKind → Bool
    stays req (rows.Dropped r drops.Stay) = r.0 == req.0
    stays req _ = false
is_stayed_duly p req false = true

-- each refusal has the first reason that holds, each drop has its cause, and where a reason or the user's stay holds the request is refused or dropped
abbrev pub is_caused_row : Point → LogRow → Bool
is_caused_row p row = by_kind p row row.row
  where
    by_kind : Point → LogRow → RowKind → Bool
    by_kind p row (rows.Accepted req doc what) = is_denied_duly p req what
    by_kind p row (rows.Started req goal) = holds (may_begin_here p.now) (request_of p.now req)
    by_kind p row (rows.Refused req reason) =
        holds (λ q. same_option same_denial (due_denial p row q) (Some reason)) (request_of p.now req)
    by_kind p row (rows.Dropped req cause) = holds (is_dropped_duly p row cause) (request_of p.now req)
    by_kind p row (rows.Answered req stay) = is_stayed_duly p req stay
    by_kind p row _ = true
