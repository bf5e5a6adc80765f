-- Broken logs, each refused by the field `caused`.
-- A log is its events: those before one of another log, since one, or between two, and its own.
use Rattle.std.proofs.Common.{true, false, List, [], ◌∷◌, ◌++◌, codes, Some, None}
use Rattle.std.proofs.lemmas.Bool.{false≢true}
use Rattle.url.proofs.OnLiterals.{url_on_literals}
use Rattle.address.specs.Addresses.{is_web, is_blank_url, judged, judged_parse, read_against, address_of, url_of, resolved, with_fragment, base_of, fragment_of, origin_text, origin_of, has_same_base, is_rewritable}
use Rattle.log_model.specs.declared.action.Action.TheVariants as actions
use Rattle.log_model.specs.declared.change.Change.TheVariants as changes
use Rattle.log_model.specs.declared.job.Task.TheVariants as tasks
use Rattle.log_model.specs.declared.job.Why.TheVariants as whys
use Rattle.log_model.specs.declared.made.What.TheVariants as whats
use Rattle.log_model.specs.declared.outcome.Cause.TheVariants as drops
use Rattle.log_model.specs.declared.outcome.Denial.TheVariants as denials
use Rattle.log_model.specs.declared.request.Mode.TheVariants as modes
use Rattle.log_model.specs.declared.request.Request.TheVariants as requests
use Rattle.log_model.specs.declared.row_kind.RowKind.TheVariants as rows
use Rattle.log_model.specs.Events.{events_of, each_event, after_opening, AtEachEvent}
use Rattle.log_model.specs.Formed.{is_numbered}
use Rattle.log_model.specs.Legal.{IsLegal, opens, is_formed, is_once, is_caused, is_queued, is_ordered, is_checked, ends_settled}
use Rattle.log_model.specs.LoadsEndInTime.{loads_end}
use Rattle.log_model.specs.ActsAtOnce.{ends_told, ends_stepped, goes_in_time}
use Rattle.log_examples.specs.Rows.{n, s, r, p, x, d, e, epoch, sent, made}
use Rattle.log_examples.specs.Logs.{Event, by_start, by_ui, by_coord, by_proc, log_of, before, since}
use Rattle.log_examples.proofs.Traversals.{document_goes_back}
use Rattle.log_examples.proofs.Loads.{later_load}
use Rattle.log_examples.proofs.Frames.{taken_number, load_of_a_new_frame}
use Rattle.log_examples.proofs.Removals.{push_of_a_removed_frame}
use Rattle.log_examples.proofs.Prompts.{stay}
use Rattle.log_examples.proofs.Deaths.{load_below_a_lost_navigable}
use Rattle.log_examples.proofs.Pending.{reload_of_a_removed_frame}

-- A load is dropped by a request that has ended.
abbrev pub dropped_by_a_request_that_ended : List Event
dropped_by_a_request_that_ended =
    before 19 later_load
    ++ by_ui (rows.Accepted (r 4) None (requests.Load (n 0) modes.Auto (codes "http://a.test/3"))) (rows.Dropped (r 4) (drops.By (r 2)) ∷ [])
    ∷ since 20 later_load

pub dropped_by_a_request_that_ended_is_refused : IsLegal (log_of dropped_by_a_request_that_ended) → ⊥
unfolding url_on_literals is_web is_blank_url judged judged_parse read_against address_of url_of resolved with_fragment base_of fragment_of origin_text origin_of has_same_base is_rewritable events_of each_event after_opening AtEachEvent is_numbered opens is_formed is_once is_caused is_queued is_ordered is_checked ends_settled loads_end ends_told ends_stepped goes_in_time
dropped_by_a_request_that_ended_is_refused holds = false≢true holds.caused

-- A load is dropped for a death that never was.
abbrev pub dropped_by_another_death : List Event
dropped_by_another_death =
    before 12 load_below_a_lost_navigable
    ++ by_coord (rows.Delivered (p 1)) (rows.Dropped (r 2) (drops.Gone (x 2)) ∷ [])
    ∷ since 13 load_below_a_lost_navigable

pub dropped_by_another_death_is_refused : IsLegal (log_of dropped_by_another_death) → ⊥
unfolding url_on_literals is_web is_blank_url judged judged_parse read_against address_of url_of resolved with_fragment base_of fragment_of origin_text origin_of has_same_base is_rewritable events_of each_event after_opening AtEachEvent is_numbered opens is_formed is_once is_caused is_queued is_ordered is_checked ends_settled loads_end ends_told ends_stepped goes_in_time
dropped_by_another_death_is_refused holds = false≢true holds.caused

-- A frame is refused for another reason.
abbrev pub refused_for_another_reason : List Event
refused_for_another_reason =
    before 12 taken_number
    ++ by_coord (rows.Delivered (p 1)) (rows.Refused (r 2) denials.NoNavigable ∷ [])
    ∷ []

pub refused_for_another_reason_is_refused : IsLegal (log_of refused_for_another_reason) → ⊥
unfolding url_on_literals is_web is_blank_url judged judged_parse read_against address_of url_of resolved with_fragment base_of fragment_of origin_text origin_of has_same_base is_rewritable events_of each_event after_opening AtEachEvent is_numbered opens is_formed is_once is_caused is_queued is_ordered is_checked ends_settled loads_end ends_told ends_stepped goes_in_time
refused_for_another_reason_is_refused holds = false≢true holds.caused

-- A traversal is dropped for a stay that the user did not answer.
abbrev pub stay_that_was_not_answered : List Event
stay_that_was_not_answered =
    before 17 stay
    ++ by_ui (rows.Answered (r 3) false) (rows.Dropped (r 3) drops.Stay ∷ [])
    ∷ []

pub stay_that_was_not_answered_is_refused : IsLegal (log_of stay_that_was_not_answered) → ⊥
unfolding url_on_literals is_web is_blank_url judged judged_parse read_against address_of url_of resolved with_fragment base_of fragment_of origin_text origin_of has_same_base is_rewritable events_of each_event after_opening AtEachEvent is_numbered opens is_formed is_once is_caused is_queued is_ordered is_checked ends_settled loads_end ends_told ends_stepped goes_in_time
stay_that_was_not_answered_is_refused holds = false≢true holds.caused

-- The user stays, and the traversal is not dropped.
abbrev pub stay_without_a_drop : List Event
stay_without_a_drop =
    before 17 stay
    ++ by_ui (rows.Answered (r 3) true) []
    ∷ []

pub stay_without_a_drop_is_refused : IsLegal (log_of stay_without_a_drop) → ⊥
unfolding url_on_literals is_web is_blank_url judged judged_parse read_against address_of url_of resolved with_fragment base_of fragment_of origin_text origin_of has_same_base is_rewritable events_of each_event after_opening AtEachEvent is_numbered opens is_formed is_once is_caused is_queued is_ordered is_checked ends_settled loads_end ends_told ends_stepped goes_in_time
stay_without_a_drop_is_refused holds = false≢true holds.caused

-- A traversal is refused though there is a step.
abbrev pub refused_without_reason : List Event
refused_without_reason =
    before 9 document_goes_back
    ++ by_coord (rows.Delivered (p 1)) (rows.Refused (r 2) denials.NoStep ∷ sent 2 1 0 1 (whys.Req (r 2)) (tasks.Activate (e 0 1) (epoch 2) 2 0 None (codes "http://a.test/")) ∷ [])
    ∷ since 10 document_goes_back

pub refused_without_reason_is_refused : IsLegal (log_of refused_without_reason) → ⊥
unfolding url_on_literals is_web is_blank_url judged judged_parse read_against address_of url_of resolved with_fragment base_of fragment_of origin_text origin_of has_same_base is_rewritable events_of each_event after_opening AtEachEvent is_numbered opens is_formed is_once is_caused is_queued is_ordered is_checked ends_settled loads_end ends_told ends_stepped goes_in_time
refused_without_reason_is_refused holds = false≢true holds.caused

-- A poke is refused though its document runs.
abbrev pub poke_refused_without_reason : List Event
poke_refused_without_reason =
    by_start (rows.Opened (e 0 1) (s 1) (d 1) (p 1) None (codes "http://a.test/")) []
    ∷ by_ui (rows.Accepted (r 1) None (requests.Poke (n 0) (actions.Push (Some (codes "s")) (Some (codes "/1"))))) (rows.Refused (r 1) denials.NoDocument ∷ [])
    ∷ []

pub poke_refused_without_reason_is_refused : IsLegal (log_of poke_refused_without_reason) → ⊥
unfolding url_on_literals is_web is_blank_url judged judged_parse read_against address_of url_of resolved with_fragment base_of fragment_of origin_text origin_of has_same_base is_rewritable events_of each_event after_opening AtEachEvent is_numbered opens is_formed is_once is_caused is_queued is_ordered is_checked ends_settled loads_end ends_told ends_stepped goes_in_time
poke_refused_without_reason_is_refused holds = false≢true holds.caused

-- A load of a navigable that is not there is not refused.
abbrev pub load_that_is_not_refused : List Event
load_that_is_not_refused =
    by_start (rows.Opened (e 0 1) (s 1) (d 1) (p 1) None (codes "http://a.test/")) []
    ∷ by_ui (rows.Accepted (r 1) None (requests.Load (n 5) modes.Auto (codes "http://a.test/1"))) []
    ∷ by_ui (rows.Accepted (r 2) None (requests.Reload (n 5))) (rows.Refused (r 2) denials.NoNavigable ∷ [])
    ∷ []

pub load_that_is_not_refused_is_refused : IsLegal (log_of load_that_is_not_refused) → ⊥
unfolding url_on_literals is_web is_blank_url judged judged_parse read_against address_of url_of resolved with_fragment base_of fragment_of origin_text origin_of has_same_base is_rewritable events_of each_event after_opening AtEachEvent is_numbered opens is_formed is_once is_caused is_queued is_ordered is_checked ends_settled loads_end ends_told ends_stepped goes_in_time
load_that_is_not_refused_is_refused holds = false≢true holds.caused

-- A push is dropped for a removal that was none.
abbrev pub destroyed_by_another_request : List Event
destroyed_by_another_request =
    before 17 push_of_a_removed_frame
    ++ by_coord (rows.Delivered (p 1)) (rows.Dropped (r 3) (drops.Destroyed (r 1)) ∷ [])
    ∷ by_coord (rows.Delivered (p 1)) []
    ∷ []

pub destroyed_by_another_request_is_refused : IsLegal (log_of destroyed_by_another_request) → ⊥
unfolding url_on_literals is_web is_blank_url judged judged_parse read_against address_of url_of resolved with_fragment base_of fragment_of origin_text origin_of has_same_base is_rewritable events_of each_event after_opening AtEachEvent is_numbered opens is_formed is_once is_caused is_queued is_ordered is_checked ends_settled loads_end ends_told ends_stepped goes_in_time
destroyed_by_another_request_is_refused holds = false≢true holds.caused

-- A frame is refused in an event that takes no report.
abbrev pub frame_refused_without_its_report : List Event
frame_refused_without_its_report =
    before 11 taken_number
    ++ by_proc 1 (made 1 2 1 1 (whats.AddFrame (n 1))) (rows.Refused (r 2) denials.NavTaken ∷ [])
    ∷ by_coord (rows.Delivered (p 1)) []
    ∷ []

pub frame_refused_without_its_report_is_refused : IsLegal (log_of frame_refused_without_its_report) → ⊥
unfolding url_on_literals is_web is_blank_url judged judged_parse read_against address_of url_of resolved with_fragment base_of fragment_of origin_text origin_of has_same_base is_rewritable events_of each_event after_opening AtEachEvent is_numbered opens is_formed is_once is_caused is_queued is_ordered is_checked ends_settled loads_end ends_told ends_stepped goes_in_time
frame_refused_without_its_report_is_refused holds = false≢true holds.caused

-- A reload that waits is refused as its frame is removed, and not dropped.
abbrev pub reload_refused_as_its_frame_is_gone : List Event
reload_refused_as_its_frame_is_gone =
    before 49 reload_of_a_removed_frame
    ++ by_coord (rows.Delivered (p 1)) (rows.Applied (r 7) (changes.RemoveFrame (n 2)) ∷ sent 15 1 0 3 (whys.Req (r 7)) tasks.Discard ∷ rows.Refused (r 6) denials.NoNavigable ∷ [])
    ∷ since 50 reload_of_a_removed_frame

pub reload_refused_as_its_frame_is_gone_is_refused : IsLegal (log_of reload_refused_as_its_frame_is_gone) → ⊥
unfolding url_on_literals is_web is_blank_url judged judged_parse read_against address_of url_of resolved with_fragment base_of fragment_of origin_text origin_of has_same_base is_rewritable events_of each_event after_opening AtEachEvent is_numbered opens is_formed is_once is_caused is_queued is_ordered is_checked ends_settled loads_end ends_told ends_stepped goes_in_time
reload_refused_as_its_frame_is_gone_is_refused holds = false≢true holds.caused

-- A load of a new frame is dropped by itself.
abbrev pub dropped_by_itself : List Event
dropped_by_itself =
    before 7 load_of_a_new_frame
    ++ by_ui (rows.Accepted (r 2) None (requests.Load (n 1) modes.Auto (codes "http://a.test/f"))) (rows.Dropped (r 2) (drops.By (r 2)) ∷ [])
    ∷ since 8 load_of_a_new_frame

pub dropped_by_itself_is_refused : IsLegal (log_of dropped_by_itself) → ⊥
unfolding url_on_literals is_web is_blank_url judged judged_parse read_against address_of url_of resolved with_fragment base_of fragment_of origin_text origin_of has_same_base is_rewritable events_of each_event after_opening AtEachEvent is_numbered opens is_formed is_once is_caused is_queued is_ordered is_checked ends_settled loads_end ends_told ends_stepped goes_in_time
dropped_by_itself_is_refused holds = false≢true holds.caused
