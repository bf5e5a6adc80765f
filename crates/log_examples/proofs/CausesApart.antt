-- Broken logs, each refused by the field `caused`, that each tell one sentence of a definition.
-- A log is its events: those before one of another log, since one, or between two, and its own.
use Rattle.std.proofs.Common.{true, false, List, [], ◌∷◌, ◌++◌, codes, Some, None}
use Rattle.std.proofs.lemmas.Bool.{false≢true}
use Rattle.url.proofs.OnLiterals.{url_on_literals}
use Rattle.address.specs.Addresses.{is_web, is_blank_url, judged, judged_parse, read_against, address_of, url_of, resolved, with_fragment, base_of, fragment_of, origin_text, origin_of, has_same_base, is_rewritable}
use Rattle.log_model.specs.declared.action.Action.TheVariants as actions
use Rattle.log_model.specs.declared.job.Task.TheVariants as tasks
use Rattle.log_model.specs.declared.job.Why.TheVariants as whys
use Rattle.log_model.specs.declared.made.What.TheVariants as whats
use Rattle.log_model.specs.declared.outcome.Denial.TheVariants as denials
use Rattle.log_model.specs.declared.request.Mode.TheVariants as modes
use Rattle.log_model.specs.declared.request.Request.TheVariants as requests
use Rattle.log_model.specs.declared.row_kind.RowKind.TheVariants as rows
use Rattle.log_model.specs.Events.{events_of, each_event, after_opening, AtEachEvent}
use Rattle.log_model.specs.Formed.{is_numbered}
use Rattle.log_model.specs.Legal.{IsLegal, opens, is_formed, is_once, is_caused, is_queued, is_ordered, is_checked, ends_settled}
use Rattle.log_model.specs.LoadsEndInTime.{loads_end}
use Rattle.log_model.specs.ActsAtOnce.{ends_told, ends_stepped, goes_in_time}
use Rattle.log_examples.specs.Rows.{n, s, r, p, t, d, e, epoch, sent, made}
use Rattle.log_examples.specs.Logs.{Event, by_start, by_ui, by_coord, by_proc, log_of, before}
use Rattle.log_examples.proofs.Frames.{taken_number}
use Rattle.log_examples.proofs.Removals.{push_of_a_removed_frame}
use Rattle.log_examples.proofs.Reloads.{kept_frame_document_at_an_eviction}
use Rattle.log_examples.proofs.Deaths.{questions_of_the_dead, poke_of_a_dead_document}

-- denial_at_act: were `makes s q q.what` never so, `caused` would hold.
abbrev pub denial_at_act_1 : List Event
denial_at_act_1 =
    by_start (rows.Opened (e 0 1) (s 1) (d 1) (p 1) None (codes "http://a.test/")) []
    ∷ by_ui (rows.Accepted (r 1) (Some (d 1)) (requests.Poke (n 0) (actions.Push (Some (codes "s")) (Some (codes "/1"))))) []
    ∷ by_proc 1 (rows.Refused (r 1) denials.BadAddress) []
    ∷ []

pub denial_at_act_1_is_refused : IsLegal (log_of denial_at_act_1) → ⊥
unfolding url_on_literals is_web is_blank_url judged judged_parse read_against address_of url_of resolved with_fragment base_of fragment_of origin_text origin_of has_same_base is_rewritable events_of each_event after_opening AtEachEvent is_numbered opens is_formed is_once is_caused is_queued is_ordered is_checked ends_settled loads_end ends_told ends_stepped goes_in_time
denial_at_act_1_is_refused holds = false≢true holds.caused

-- denial_at_act: without test `is_running s`, `caused` would hold.
abbrev pub denial_at_act_2 : List Event
denial_at_act_2 =
    poke_of_a_dead_document
    ++ by_proc 1 (rows.Refused (r 1) denials.BadAddress) (sent 1 1 1 1 (whys.Req (r 1)) tasks.Discard ∷ [])
    ∷ []

pub denial_at_act_2_is_refused : IsLegal (log_of denial_at_act_2) → ⊥
unfolding url_on_literals is_web is_blank_url judged judged_parse read_against address_of url_of resolved with_fragment base_of fragment_of origin_text origin_of has_same_base is_rewritable events_of each_event after_opening AtEachEvent is_numbered opens is_formed is_once is_caused is_queued is_ordered is_checked ends_settled loads_end ends_told ends_stepped goes_in_time
denial_at_act_2_is_refused holds = false≢true holds.caused

-- denial_at_delivery: by_what: were `nav.0 == 0` turned, `caused` would hold.
abbrev pub denial_at_delivery_1 : List Event
denial_at_delivery_1 =
    before 3 kept_frame_document_at_an_eviction
    ++ by_coord (rows.Delivered (p 1)) (rows.Refused (r 1) denials.NavTaken ∷ sent 1 1 0 2 (whys.Req (r 1)) (tasks.Populate (n 1) (s 2) (codes "about:blank") true) ∷ [])
    ∷ []

pub denial_at_delivery_1_is_refused : IsLegal (log_of denial_at_delivery_1) → ⊥
unfolding url_on_literals is_web is_blank_url judged judged_parse read_against address_of url_of resolved with_fragment base_of fragment_of origin_text origin_of has_same_base is_rewritable events_of each_event after_opening AtEachEvent is_numbered opens is_formed is_once is_caused is_queued is_ordered is_checked ends_settled loads_end ends_told ends_stepped goes_in_time
denial_at_delivery_1_is_refused holds = false≢true holds.caused

-- due_denial: at_acceptance: were `is_accepted_here p q.nr` always so, `caused` would hold.
abbrev pub due_denial_1 : List Event
due_denial_1 =
    by_start (rows.Opened (e 0 1) (s 1) (d 1) (p 1) None (codes "http://a.test/")) []
    ∷ by_ui (rows.Accepted (r 1) None (requests.Load (n 5) modes.Auto (codes "http://a.test/1"))) (rows.Refused (r 1) denials.NoNavigable ∷ [])
    ∷ by_ui (rows.Accepted (r 2) None (requests.Reload (n 5))) (rows.Refused (r 1) denials.NoNavigable ∷ rows.Refused (r 2) denials.NoNavigable ∷ [])
    ∷ []

pub due_denial_1_is_refused : IsLegal (log_of due_denial_1) → ⊥
unfolding url_on_literals is_web is_blank_url judged judged_parse read_against address_of url_of resolved with_fragment base_of fragment_of origin_text origin_of has_same_base is_rewritable events_of each_event after_opening AtEachEvent is_numbered opens is_formed is_once is_caused is_queued is_ordered is_checked ends_settled loads_end ends_told ends_stepped goes_in_time
due_denial_1_is_refused holds = false≢true holds.caused

-- due_denial: at_delivery: were `takes_report (own_row p row)` always so, `caused` would hold.
abbrev pub due_denial_2 : List Event
due_denial_2 =
    before 10 taken_number
    ++ by_ui (rows.Answered (r 1) false) (rows.Refused (r 1) denials.NavTaken ∷ [])
    ∷ []

pub due_denial_2_is_refused : IsLegal (log_of due_denial_2) → ⊥
unfolding url_on_literals is_web is_blank_url judged judged_parse read_against address_of url_of resolved with_fragment base_of fragment_of origin_text origin_of has_same_base is_rewritable events_of each_event after_opening AtEachEvent is_numbered opens is_formed is_once is_caused is_queued is_ordered is_checked ends_settled loads_end ends_told ends_stepped goes_in_time
due_denial_2_is_refused holds = false≢true holds.caused

-- is_caused_row: by_kind: without test `may_begin_here p.now`, `caused` would hold.
abbrev pub is_caused_row_1 : List Event
is_caused_row_1 =
    by_start (rows.Opened (e 0 1) (s 1) (d 1) (p 1) None (codes "http://a.test/")) []
    ∷ by_ui (rows.Accepted (r 1) None (requests.Load (n 5) modes.Auto (codes "http://a.test/1"))) (rows.Refused (r 1) denials.NoNavigable ∷ [])
    ∷ by_ui (rows.Accepted (r 2) None (requests.Reload (n 5))) (rows.Started (r 2) (Some (t 1)) ∷ rows.Refused (r 2) denials.NoNavigable ∷ [])
    ∷ []

pub is_caused_row_1_is_refused : IsLegal (log_of is_caused_row_1) → ⊥
unfolding url_on_literals is_web is_blank_url judged judged_parse read_against address_of url_of resolved with_fragment base_of fragment_of origin_text origin_of has_same_base is_rewritable events_of each_event after_opening AtEachEvent is_numbered opens is_formed is_once is_caused is_queued is_ordered is_checked ends_settled loads_end ends_told ends_stepped goes_in_time
is_caused_row_1_is_refused holds = false≢true holds.caused

-- is_stayed_duly: without test `stays req row.row`, `caused` would hold.
abbrev pub is_stayed_duly_1 : List Event
is_stayed_duly_1 =
    by_start (rows.Opened (e 0 1) (s 1) (d 1) (p 1) None (codes "http://a.test/")) []
    ∷ by_ui (rows.Answered (r 1) true) (sent 1 1 0 1 (whys.Req (r 1)) (tasks.Activate (e 0 1) (epoch 2) 1 0 None (codes "http://a.test/")) ∷ [])
    ∷ []

pub is_stayed_duly_1_is_refused : IsLegal (log_of is_stayed_duly_1) → ⊥
unfolding url_on_literals is_web is_blank_url judged judged_parse read_against address_of url_of resolved with_fragment base_of fragment_of origin_text origin_of has_same_base is_rewritable events_of each_event after_opening AtEachEvent is_numbered opens is_formed is_once is_caused is_queued is_ordered is_checked ends_settled loads_end ends_told ends_stepped goes_in_time
is_stayed_duly_1_is_refused holds = false≢true holds.caused

-- may_begin_here: by_request: without conjunct `is_none (denial_of_reload s nav)`, `caused` would hold.
abbrev pub may_begin_here_1 : List Event
may_begin_here_1 =
    before 24 questions_of_the_dead
    ++ by_ui (rows.Accepted (r 5) None (requests.Reload (n 3))) (rows.Started (r 5) (Some (t 0)) ∷ sent 7 1 1 4 (whys.Req (r 5)) (tasks.Populate (n 3) (s 5) (codes "about:blank#x") true) ∷ [])
    ∷ []

pub may_begin_here_1_is_refused : IsLegal (log_of may_begin_here_1) → ⊥
unfolding url_on_literals is_web is_blank_url judged judged_parse read_against address_of url_of resolved with_fragment base_of fragment_of origin_text origin_of has_same_base is_rewritable events_of each_event after_opening AtEachEvent is_numbered opens is_formed is_once is_caused is_queued is_ordered is_checked ends_settled loads_end ends_told ends_stepped goes_in_time
may_begin_here_1_is_refused holds = false≢true holds.caused

-- is_refused_in: by_kind: were equation 2 true, `caused` would hold.
abbrev pub is_refused_in_1 : List Event
is_refused_in_1 =
    by_start (rows.Opened (e 0 1) (s 1) (d 1) (p 1) None (codes "http://a.test/")) []
    ∷ by_ui (rows.Accepted (r 1) None (requests.Load (n 5) modes.Auto (codes "http://a.test/1"))) (rows.Started (r 1) (Some (t 2)) ∷ [])
    ∷ []

pub is_refused_in_1_is_refused : IsLegal (log_of is_refused_in_1) → ⊥
unfolding url_on_literals is_web is_blank_url judged judged_parse read_against address_of url_of resolved with_fragment base_of fragment_of origin_text origin_of has_same_base is_rewritable events_of each_event after_opening AtEachEvent is_numbered opens is_formed is_once is_caused is_queued is_ordered is_checked ends_settled loads_end ends_told ends_stepped goes_in_time
is_refused_in_1_is_refused holds = false≢true holds.caused

-- is_refused_in: by_kind: without conjunct `r.0 == req.0`, `caused` would hold.
abbrev pub is_refused_in_2 : List Event
is_refused_in_2 =
    by_start (rows.Opened (e 0 1) (s 1) (d 1) (p 1) None (codes "http://a.test/")) []
    ∷ by_ui (rows.Accepted (r 3) None (requests.Load (n 5) modes.Auto (codes "http://a.test/1"))) (rows.Refused (r 1) denials.NoNavigable ∷ [])
    ∷ []

pub is_refused_in_2_is_refused : IsLegal (log_of is_refused_in_2) → ⊥
unfolding url_on_literals is_web is_blank_url judged judged_parse read_against address_of url_of resolved with_fragment base_of fragment_of origin_text origin_of has_same_base is_rewritable events_of each_event after_opening AtEachEvent is_numbered opens is_formed is_once is_caused is_queued is_ordered is_checked ends_settled loads_end ends_told ends_stepped goes_in_time
is_refused_in_2_is_refused holds = false≢true holds.caused

-- The removal of a frame of its document is refused. denial_at_delivery: by_what: were `holds (λ (d : Document). holds (λ (owner : StateId). owner.0 == d.state.0) (owner_of nav s.history.rows)) (document_of s made.doc)` never so, `caused` would hold.
abbrev pub removal_refused : List Event
removal_refused =
    before 11 push_of_a_removed_frame
    ++ by_proc 1 (made 1 2 1 1 (whats.RemoveFrame (n 1))) []
    ∷ by_coord (rows.Delivered (p 1)) (rows.Refused (r 2) denials.NoNavigable ∷ [])
    ∷ []

pub removal_refused_is_refused : IsLegal (log_of removal_refused) → ⊥
unfolding url_on_literals is_web is_blank_url judged judged_parse read_against address_of url_of resolved with_fragment base_of fragment_of origin_text origin_of has_same_base is_rewritable events_of each_event after_opening AtEachEvent is_numbered opens is_formed is_once is_caused is_queued is_ordered is_checked ends_settled loads_end ends_told ends_stepped goes_in_time
removal_refused_is_refused holds = false≢true holds.caused

-- A load of no navigable is refused by a process, for want of a document. is_refused_in: by_kind: without conjunct `same_denial why reason`, `caused` would hold.
abbrev pub load_refused_by_a_process : List Event
load_refused_by_a_process =
    by_start (rows.Opened (e 0 1) (s 1) (d 1) (p 1) None (codes "http://a.test/")) []
    ∷ by_proc 1 (rows.Accepted (r 1) None (requests.Load (n 5) modes.Auto (codes "http://a.test/1"))) (rows.Refused (r 1) denials.NoDocument ∷ [])
    ∷ []

pub load_refused_by_a_process_is_refused : IsLegal (log_of load_refused_by_a_process) → ⊥
unfolding url_on_literals is_web is_blank_url judged judged_parse read_against address_of url_of resolved with_fragment base_of fragment_of origin_text origin_of has_same_base is_rewritable events_of each_event after_opening AtEachEvent is_numbered opens is_formed is_once is_caused is_queued is_ordered is_checked ends_settled loads_end ends_told ends_stepped goes_in_time
load_refused_by_a_process_is_refused holds = false≢true holds.caused
