-- Logs that keep one part of the rules and break another, and so tell one sentence of a definition.
-- A log is its events: those before one of another log, since one, or between two, and its own.
use Rattle.std.proofs.Common.{pos, negsuc, true, false, List, [], ◌∷◌, ◌++◌, codes, refl, Some, None}
use Rattle.url.proofs.OnLiterals.{url_on_literals}
use Rattle.address.specs.Addresses.{is_web, is_blank_url, judged, judged_parse, read_against, address_of, url_of, resolved, with_fragment, base_of, fragment_of, origin_text, origin_of, has_same_base, is_rewritable}
use Rattle.log_model.specs.declared.action.Action.TheVariants as actions
use Rattle.log_model.specs.declared.change.Change.TheVariants as changes
use Rattle.log_model.specs.declared.handler.LeaveCause.TheVariants as leavings
use Rattle.log_model.specs.declared.handler.Verdict.TheVariants as verdicts
use Rattle.log_model.specs.declared.job.Task.TheVariants as tasks
use Rattle.log_model.specs.declared.job.Why.TheVariants as whys
use Rattle.log_model.specs.declared.made.What.TheVariants as whats
use Rattle.log_model.specs.declared.outcome.Cause.TheVariants as drops
use Rattle.log_model.specs.declared.outcome.Denial.TheVariants as denials
use Rattle.log_model.specs.declared.outcome.Outcome.TheVariants as outcomes
use Rattle.log_model.specs.declared.request.Mode.TheVariants as modes
use Rattle.log_model.specs.declared.request.Request.TheVariants as requests
use Rattle.log_model.specs.declared.row_kind.RowKind.TheVariants as rows
use Rattle.log_model.specs.Events.{at_end, each_row, events_of, each_event, after_opening, AtEachEvent}
use Rattle.log_model.specs.Formed.{is_numbered}
use Rattle.log_model.specs.Legal.{IsFormed, EachRequestOnce, OutcomesAreCaused, KeepsQueueOrder, OrdersAreCaused, ChecksAreKept, QuietIsSettled, opens, is_formed, is_once, is_caused, is_queued, is_ordered, is_checked, ends_settled}
use Rattle.log_model.specs.LoadsEndInTime.{LoadsEndInTime, loads_end}
use Rattle.log_model.specs.ActsAtOnce.{ends_told, ends_stepped, goes_in_time}
use Rattle.log_model.specs.Suits.{is_suitable_row}
use Rattle.log_model.specs.declared.header.Header.{Header}
use Rattle.log_examples.specs.Rows.{n, s, r, p, t, x, d, j, e, epoch, sent, made}
use Rattle.log_examples.specs.Logs.{Event, by_start, by_ui, by_coord, by_proc, log_of, before, plain_settings}
use Rattle.log_examples.proofs.Pushes.{one_push, push_beside_a_frame, poke_of_the_newer_document}
use Rattle.log_examples.proofs.Traversals.{document_goes_back}
use Rattle.log_examples.proofs.Interleavings.{push_beside_a_running_traversal, goal_cleared_by_a_push, held_back_push_and_removal, back_after_a_held_back_push}
use Rattle.log_examples.proofs.Loads.{no_document_kept, load_ended_by_a_traversal, evicted_documents, fragment_load, load_of_no_navigable}
use Rattle.log_examples.proofs.Frames.{taken_number}
use Rattle.log_examples.proofs.Removals.{removal_and_push}
use Rattle.log_examples.proofs.Reloads.{kept_frame_document_at_a_reload, reload_and_death}
use Rattle.log_examples.proofs.Prompts.{stay, load_behind_a_prompt, question_settled_by_a_discard, frames_asked_in_order, hidden_frame_is_asked}
use Rattle.log_examples.proofs.Deaths.{one_of_two_processes_dies, load_below_a_lost_navigable}
use Rattle.log_examples.proofs.Pending.{load_over_a_frame}

-- is_for_traversal: without test `is_traversal q.what`, `loads` would not hold.
abbrev pub is_for_traversal_1 : List Event
is_for_traversal_1 =
    by_start (rows.Opened (e 0 1) (s 1) (d 1) (p 1) None (codes "http://news.test/")) []
    ∷ by_ui (rows.Accepted (r 1) None (requests.Load (n 0) modes.Auto (codes "http://news.test/1"))) (rows.Started (r 1) None ∷ sent 1 1 0 2 (whys.Req (r 1)) (tasks.Populate (n 0) (s 2) (codes "http://news.test/1") false) ∷ [])
    ∷ by_proc 1 (rows.Taken (p 1) (j 1) true false) (sent 3 1 0 2 (whys.Req (r 1)) (tasks.Activate (e 0 2) (epoch 2) 2 1 None (codes "http://news.test/1")) ∷ [])
    ∷ []

pub is_for_traversal_1_keeps_loads : LoadsEndInTime (log_of is_for_traversal_1)
unfolding url_on_literals is_web is_blank_url judged judged_parse read_against address_of url_of resolved with_fragment base_of fragment_of origin_text origin_of has_same_base is_rewritable events_of each_event after_opening AtEachEvent is_numbered opens is_formed is_once is_caused is_queued is_ordered is_checked ends_settled loads_end ends_told ends_stepped goes_in_time
is_for_traversal_1_keeps_loads = refl

-- is_refused_step: without conjunct `is_traversal q.what`, `queued` would not hold.
abbrev pub is_refused_step_2 : List Event
is_refused_step_2 =
    by_start (rows.Opened (e 0 1) (s 1) (d 1) (p 1) None (codes "http://a.test/")) []
    ∷ by_ui (rows.Accepted (r 1) None (requests.Reload (n 0))) (rows.Started (r 1) None ∷ sent 1 1 0 1 (whys.Req (r 1)) (tasks.DoFragment (r 1) modes.Auto (codes "http://a.test/#x")) ∷ rows.Refused (r 1) denials.NoStep ∷ [])
    ∷ []

pub is_refused_step_2_keeps_queued : KeepsQueueOrder (log_of is_refused_step_2)
unfolding url_on_literals is_web is_blank_url judged judged_parse read_against address_of url_of resolved with_fragment base_of fragment_of origin_text origin_of has_same_base is_rewritable events_of each_event after_opening AtEachEvent is_numbered opens is_formed is_once is_caused is_queued is_ordered is_checked ends_settled loads_end ends_told ends_stepped goes_in_time
is_refused_step_2_keeps_queued = refl

-- goes_on_with: by_kind: without conjunct `by_task job.task`, `checked` would not hold.
abbrev pub goes_on_with_3 : List Event
goes_on_with_3 =
    before 19 load_behind_a_prompt
    ++ by_coord (rows.Delivered (p 1)) (sent 6 1 0 3 (whys.Req (r 3)) (tasks.Update 2 1) ∷ rows.Prompted (r 3) (d 2) ∷ [])
    ∷ []

pub goes_on_with_3_keeps_checked : ChecksAreKept (log_of goes_on_with_3)
unfolding url_on_literals is_web is_blank_url judged judged_parse read_against address_of url_of resolved with_fragment base_of fragment_of origin_text origin_of has_same_base is_rewritable events_of each_event after_opening AtEachEvent is_numbered opens is_formed is_once is_caused is_queued is_ordered is_checked ends_settled loads_end ends_told ends_stepped goes_in_time
goes_on_with_3_keeps_checked = refl

-- is_prompt_up: without test `is_drop`, `settled` would not hold.
abbrev pub is_prompt_up_3 : List Event
is_prompt_up_3 =
    by_start (rows.Opened (e 0 1) (s 1) (d 1) (p 1) None (codes "http://a.test/")) []
    ∷ by_ui (rows.Accepted (r 1) None (requests.Go (pos 5))) (rows.Refused (r 1) denials.NoStep ∷ [])
    ∷ by_ui (rows.Accepted (r 2) None (requests.Load (n 0) modes.Auto (codes "http://a.test/#x"))) (rows.Prompted (r 1) (d 1) ∷ [])
    ∷ []

pub is_prompt_up_3_keeps_settled : QuietIsSettled (log_of is_prompt_up_3)
unfolding url_on_literals is_web is_blank_url judged judged_parse read_against address_of url_of resolved with_fragment base_of fragment_of origin_text origin_of has_same_base is_rewritable events_of each_event after_opening AtEachEvent is_numbered opens is_formed is_once is_caused is_queued is_ordered is_checked ends_settled loads_end ends_told ends_stepped goes_in_time
is_prompt_up_3_keeps_settled = refl

-- may_go_on: without premise `is_checked q`, `checked` would not hold.
abbrev pub may_go_on_1 : List Event
may_go_on_1 =
    before 3 document_goes_back
    ++ by_coord (rows.Delivered (p 1)) (sent 1 1 0 1 (whys.Req (r 1)) (tasks.Ask 0 leavings.Reload) ∷ rows.Applied (r 1) (changes.Push (n 0) (e 1 1) (s 1) (codes "http://a.test/1") (Some (codes "s"))) ∷ sent 1 1 0 1 (whys.Req (r 1)) (tasks.Update 2 1) ∷ [])
    ∷ []

pub may_go_on_1_keeps_checked : ChecksAreKept (log_of may_go_on_1)
unfolding url_on_literals is_web is_blank_url judged judged_parse read_against address_of url_of resolved with_fragment base_of fragment_of origin_text origin_of has_same_base is_rewritable events_of each_event after_opening AtEachEvent is_numbered opens is_formed is_once is_caused is_queued is_ordered is_checked ends_settled loads_end ends_told ends_stepped goes_in_time
may_go_on_1_keeps_checked = refl

-- has_no_earlier_load_below: without conjunct `nat_lt q.nr.0 req.0`, `loads` would not hold.
abbrev pub has_no_earlier_load_below_2 : List Event
has_no_earlier_load_below_2 =
    before 32 held_back_push_and_removal
    ++ by_proc 1 (made 1 3 2 1 (whats.Go (negsuc 0))) (rows.Applied (r 2) (changes.Push (n 1) (e 0 5) (s 3) (codes "http://a.test/p0") None) ∷ [])
    ∷ []

pub has_no_earlier_load_below_2_keeps_loads : LoadsEndInTime (log_of has_no_earlier_load_below_2)
unfolding url_on_literals is_web is_blank_url judged judged_parse read_against address_of url_of resolved with_fragment base_of fragment_of origin_text origin_of has_same_base is_rewritable events_of each_event after_opening AtEachEvent is_numbered opens is_formed is_once is_caused is_queued is_ordered is_checked ends_settled loads_end ends_told ends_stepped goes_in_time
has_no_earlier_load_below_2_keeps_loads = refl

-- names_document: without test `refuses req`, `formed` would not hold.
abbrev pub names_document_4 : List Event
names_document_4 =
    by_start (rows.Opened (e 0 1) (s 1) (d 1) (p 1) None (codes "http://a.test/")) []
    ∷ by_ui (rows.Accepted (r 1) (Some (d 1)) (requests.Poke (n 0) (actions.Push (Some (codes "s")) (Some (codes "/1"))))) (sent 1 1 0 2 (whys.Req (r 1)) (tasks.Populate (n 0) (s 1) (codes "http://a.test/") false) ∷ [])
    ∷ []

pub names_document_4_keeps_formed : IsFormed (log_of names_document_4)
unfolding url_on_literals is_web is_blank_url judged judged_parse read_against address_of url_of resolved with_fragment base_of fragment_of origin_text origin_of has_same_base is_rewritable events_of each_event after_opening AtEachEvent is_numbered opens is_formed is_once is_caused is_queued is_ordered is_checked ends_settled loads_end ends_told ends_stepped goes_in_time
names_document_4_keeps_formed = refl

-- is_for_traversal: were equation 2 true, `loads` would not hold.
abbrev pub is_for_traversal_2 : List Event
is_for_traversal_2 =
    by_start (rows.Opened (e 0 1) (s 1) (d 1) (p 1) None (codes "http://a.test/")) []
    ∷ by_ui (rows.Accepted (r 1) None (requests.Load (n 0) modes.Auto (codes "http://a.test/1"))) (rows.Started (r 1) None ∷ sent 1 1 0 2 (whys.Req (r 1)) (tasks.Populate (n 0) (s 2) (codes "http://a.test/1") false) ∷ [])
    ∷ by_ui (rows.Accepted (r 2) None (requests.Go (negsuc 0))) (sent 2 1 0 2 (whys.Death (x 1)) (tasks.Activate (e 0 1) (epoch 2) 1 1 None (codes "http://a.test/")) ∷ [])
    ∷ []

pub is_for_traversal_2_keeps_loads : LoadsEndInTime (log_of is_for_traversal_2)
unfolding url_on_literals is_web is_blank_url judged judged_parse read_against address_of url_of resolved with_fragment base_of fragment_of origin_text origin_of has_same_base is_rewritable events_of each_event after_opening AtEachEvent is_numbered opens is_formed is_once is_caused is_queued is_ordered is_checked ends_settled loads_end ends_told ends_stepped goes_in_time
is_for_traversal_2_keeps_loads = refl

-- has_stood_after: without conjunct `s.has_stood`, `caused` would not hold.
abbrev pub has_stood_after_1 : List Event
has_stood_after_1 =
    by_start (rows.Opened (e 0 1) (s 1) (d 1) (p 1) None (codes "http://a.test/")) []
    ∷ by_ui (rows.Accepted (r 1) None (requests.Load (n 0) modes.Auto (codes "http://a.test/1"))) (rows.Started (r 1) None ∷ sent 1 1 0 2 (whys.Req (r 1)) (tasks.Populate (n 0) (s 2) (codes "http://a.test/1") false) ∷ [])
    ∷ by_coord (rows.Delivered (p 1)) (rows.Applied (r 1) (changes.Push (n 0) (e 0 2) (s 2) (codes "http://a.test/1") None) ∷ rows.Dropped (r 1) (drops.By (r 1)) ∷ rows.Applied (r 2) (changes.RemoveFrame (n 0)) ∷ [])
    ∷ []

pub has_stood_after_1_keeps_caused : OutcomesAreCaused (log_of has_stood_after_1)
unfolding url_on_literals is_web is_blank_url judged judged_parse read_against address_of url_of resolved with_fragment base_of fragment_of origin_text origin_of has_same_base is_rewritable events_of each_event after_opening AtEachEvent is_numbered opens is_formed is_once is_caused is_queued is_ordered is_checked ends_settled loads_end ends_told ends_stepped goes_in_time
has_stood_after_1_keeps_caused = refl

-- later_row: were `nat_lt best.step.0 row.step.0` always so, `ordered` would not hold.
abbrev pub later_row_1 : List Event
later_row_1 =
    before 6 taken_number
    ++ by_coord (rows.Delivered (p 1)) (rows.Applied (r 1) (changes.AddFrame (s 1) (n 1) (e 0 3) (s 3)) ∷ sent 2 1 0 2 (whys.Req (r 1)) (tasks.Activate (e 0 2) (epoch 1) 1 0 None (codes "about:blank")) ∷ [])
    ∷ []

pub later_row_1_keeps_ordered : OrdersAreCaused (log_of later_row_1)
unfolding url_on_literals is_web is_blank_url judged judged_parse read_against address_of url_of resolved with_fragment base_of fragment_of origin_text origin_of has_same_base is_rewritable events_of each_event after_opening AtEachEvent is_numbered opens is_formed is_once is_caused is_queued is_ordered is_checked ends_settled loads_end ends_told ends_stepped goes_in_time
later_row_1_keeps_ordered = refl

-- has_no_earlier_load_at: without conjunct `nat_lt q.nr.0 req.0`, `loads` would not hold.
abbrev pub has_no_earlier_load_at_1 : List Event
has_no_earlier_load_at_1 =
    before 10 one_of_two_processes_dies
    ++ by_ui (rows.Accepted (r 2) None (requests.Load (n 1) modes.Auto (codes "http://b.test/f"))) (rows.Started (r 2) None ∷ rows.Applied (r 1) (changes.Reload (n 1)) ∷ sent 3 2 0 3 (whys.Req (r 2)) (tasks.Populate (n 1) (s 3) (codes "http://b.test/f") false) ∷ [])
    ∷ []

pub has_no_earlier_load_at_1_keeps_loads : LoadsEndInTime (log_of has_no_earlier_load_at_1)
unfolding url_on_literals is_web is_blank_url judged judged_parse read_against address_of url_of resolved with_fragment base_of fragment_of origin_text origin_of has_same_base is_rewritable events_of each_event after_opening AtEachEvent is_numbered opens is_formed is_once is_caused is_queued is_ordered is_checked ends_settled loads_end ends_told ends_stepped goes_in_time
has_no_earlier_load_at_1_keeps_loads = refl

-- replaced_row: without conjunct `is_of new.nav row`, `in_time` would not hold.
abbrev pub replaced_row_3 : List Event
replaced_row_3 =
    before 13 one_of_two_processes_dies
    ++ by_coord (rows.Delivered (p 2)) (rows.Applied (r 2) (changes.Replace (n 2) (e 0 2) (e 0 3) (s 3) (codes "http://b.test/f") None) ∷ sent 4 1 0 2 (whys.Req (r 2)) tasks.Discard ∷ sent 5 2 0 3 (whys.Req (r 2)) (tasks.Activate (e 0 3) (epoch 2) 1 0 None (codes "http://b.test/f")) ∷ [])
    ∷ []

pub replaced_row_3_keeps_in_time : AtEachEvent goes_in_time (log_of replaced_row_3)
unfolding url_on_literals is_web is_blank_url judged judged_parse read_against address_of url_of resolved with_fragment base_of fragment_of origin_text origin_of has_same_base is_rewritable events_of each_event after_opening AtEachEvent is_numbered opens is_formed is_once is_caused is_queued is_ordered is_checked ends_settled loads_end ends_told ends_stepped goes_in_time
replaced_row_3_keeps_in_time = refl

-- denial_of_nav: without conjunct `needs_document`, `caused` would not hold.
abbrev pub denial_of_nav_1 : List Event
denial_of_nav_1 =
    before 17 load_below_a_lost_navigable
    ++ by_ui (rows.Accepted (r 3) None (requests.Reload (n 1))) []
    ∷ []

pub denial_of_nav_1_keeps_caused : OutcomesAreCaused (log_of denial_of_nav_1)
unfolding url_on_literals is_web is_blank_url judged judged_parse read_against address_of url_of resolved with_fragment base_of fragment_of origin_text origin_of has_same_base is_rewritable events_of each_event after_opening AtEachEvent is_numbered opens is_formed is_once is_caused is_queued is_ordered is_checked ends_settled loads_end ends_told ends_stepped goes_in_time
denial_of_nav_1_keeps_caused = refl

-- is_running: without test `view.running`, `caused` would not hold.
abbrev pub is_running_1 : List Event
is_running_1 =
    before 17 load_over_a_frame
    ++ by_proc 1 (rows.Refused (r 1) denials.NoDocument) []
    ∷ []

pub is_running_1_keeps_caused : OutcomesAreCaused (log_of is_running_1)
unfolding url_on_literals is_web is_blank_url judged judged_parse read_against address_of url_of resolved with_fragment base_of fragment_of origin_text origin_of has_same_base is_rewritable events_of each_event after_opening AtEachEvent is_numbered opens is_formed is_once is_caused is_queued is_ordered is_checked ends_settled loads_end ends_told ends_stepped goes_in_time
is_running_1_keeps_caused = refl

-- goes_on_with: by_kind: were equation 2 true, `checked` would not hold.
abbrev pub goes_on_with_4 : List Event
goes_on_with_4 =
    before 16 stay
    ++ by_coord (rows.Delivered (p 1)) (rows.Applied (r 1) (changes.Reload (n 0)) ∷ rows.Prompted (r 3) (d 2) ∷ [])
    ∷ []

pub goes_on_with_4_keeps_checked : ChecksAreKept (log_of goes_on_with_4)
unfolding url_on_literals is_web is_blank_url judged judged_parse read_against address_of url_of resolved with_fragment base_of fragment_of origin_text origin_of has_same_base is_rewritable events_of each_event after_opening AtEachEvent is_numbered opens is_formed is_once is_caused is_queued is_ordered is_checked ends_settled loads_end ends_told ends_stepped goes_in_time
goes_on_with_4_keeps_checked = refl

-- is_leaving: were equation 4 true, `ordered` would not hold.
abbrev pub is_leaving_2 : List Event
is_leaving_2 =
    by_start (rows.Opened (e 0 1) (s 1) (d 1) (p 2) (Some 2) (codes "http://b.test/p1")) []
    ∷ by_ui (rows.Accepted (r 1) (Some (d 1)) (requests.Poke (n 0) (actions.AddFrame (n 1)))) []
    ∷ by_proc 2 (made 2 1 1 1 (whats.AddFrame (n 1))) []
    ∷ by_coord (rows.Delivered (p 2)) (rows.Started (r 1) None ∷ rows.Applied (r 1) (changes.AddFrame (s 1) (n 1) (e 0 2) (s 2)) ∷ sent 1 2 0 2 (whys.Req (r 1)) (tasks.Populate (n 1) (s 2) (codes "about:blank") true) ∷ [])
    ∷ []

pub is_leaving_2_keeps_ordered : OrdersAreCaused (log_of is_leaving_2)
unfolding url_on_literals is_web is_blank_url judged judged_parse read_against address_of url_of resolved with_fragment base_of fragment_of origin_text origin_of has_same_base is_rewritable events_of each_event after_opening AtEachEvent is_numbered opens is_formed is_once is_caused is_queued is_ordered is_checked ends_settled loads_end ends_told ends_stepped goes_in_time
is_leaving_2_keeps_ordered = refl

-- goes_on_with: by_kind: without conjunct `is_for req job`, `checked` would not hold.
abbrev pub goes_on_with_5 : List Event
goes_on_with_5 =
    by_start (rows.Opened (e 0 1) (s 1) (d 1) (p 1) (Some 1) (codes "http://a.test/p0")) []
    ∷ by_ui (rows.Accepted (r 1) (Some (d 1)) (requests.Poke (n 0) (actions.Push (Some (codes "s")) (Some (codes "/q0"))))) []
    ∷ by_proc 1 (made 1 1 1 1 (whats.Push (e 1 1) (Some (codes "s")) (codes "http://a.test/q0"))) []
    ∷ by_coord (rows.Delivered (p 1)) (rows.Applied (r 1) (changes.Push (n 0) (e 1 1) (s 1) (codes "http://a.test/q0") (Some (codes "s"))) ∷ sent 1 1 0 1 (whys.Req (r 1)) (tasks.Update 2 1) ∷ [])
    ∷ by_proc 1 (rows.Taken (p 1) (j 1) true false) []
    ∷ by_proc 1 (rows.Finished (p 1) (j 1) outcomes.Updated) []
    ∷ by_coord (rows.Delivered (p 1)) []
    ∷ by_ui (rows.Accepted (r 2) None (requests.Load (n 0) modes.Replace (codes "http://a.test/p1"))) (rows.Started (r 2) None ∷ sent 2 1 0 1 (whys.Req (r 2)) (tasks.Ask 1 leavings.Load) ∷ [])
    ∷ by_proc 1 (rows.Taken (p 1) (j 2) true false) []
    ∷ by_proc 1 (rows.Finished (p 1) (j 2) (outcomes.Asked verdicts.Prompt)) []
    ∷ by_coord (rows.Delivered (p 1)) (sent 3 1 0 1 (whys.Death (x 1)) tasks.Freeze ∷ rows.Prompted (r 2) (d 1) ∷ [])
    ∷ []

pub goes_on_with_5_keeps_checked : ChecksAreKept (log_of goes_on_with_5)
unfolding url_on_literals is_web is_blank_url judged judged_parse read_against address_of url_of resolved with_fragment base_of fragment_of origin_text origin_of has_same_base is_rewritable events_of each_event after_opening AtEachEvent is_numbered opens is_formed is_once is_caused is_queued is_ordered is_checked ends_settled loads_end ends_told ends_stepped goes_in_time
goes_on_with_5_keeps_checked = refl

-- is_fragment_replace: without disjunct `view.initial`, `once` would not hold.
abbrev pub is_fragment_replace_2 : List Event
is_fragment_replace_2 =
    by_start (rows.Opened (e 0 1) (s 1) (d 1) (p 2) None (codes "http://b.test/p1")) []
    ∷ by_ui (rows.Accepted (r 1) (Some (d 1)) (requests.Poke (n 0) (actions.AddFrame (n 1)))) []
    ∷ by_proc 2 (made 2 1 1 1 (whats.AddFrame (n 1))) []
    ∷ by_coord (rows.Delivered (p 2)) (rows.Applied (r 1) (changes.AddFrame (s 1) (n 1) (e 0 2) (s 2)) ∷ sent 1 2 0 2 (whys.Req (r 1)) (tasks.Populate (n 1) (s 2) (codes "about:blank") true) ∷ [])
    ∷ by_proc 2 (rows.Taken (p 2) (j 1) true false) []
    ∷ by_proc 2 (rows.Finished (p 2) (j 1) (outcomes.Populated None)) []
    ∷ by_coord (rows.Delivered (p 2)) (sent 2 2 0 2 (whys.Req (r 1)) (tasks.Activate (e 0 2) (epoch 1) 1 0 None (codes "about:blank")) ∷ [])
    ∷ by_proc 2 (rows.Taken (p 2) (j 2) true false) []
    ∷ by_proc 2 (rows.Finished (p 2) (j 2) outcomes.Activated) []
    ∷ by_coord (rows.Delivered (p 2)) []
    ∷ by_ui (rows.Accepted (r 2) None (requests.Load (n 1) modes.Auto (codes "about:blank#x"))) (sent 3 2 0 2 (whys.Req (r 2)) (tasks.DoFragment (r 2) modes.Auto (codes "about:blank#x")) ∷ [])
    ∷ by_proc 2 (rows.Taken (p 2) (j 3) true false) []
    ∷ by_coord (rows.Finished (p 2) (j 3) outcomes.Fragmented) (made 2 2 2 1 (whats.Replace (e 0 2) (e 2 1) None (codes "about:blank#x")) ∷ [])
    ∷ []

pub is_fragment_replace_2_keeps_once : EachRequestOnce (log_of is_fragment_replace_2)
unfolding url_on_literals is_web is_blank_url judged judged_parse read_against address_of url_of resolved with_fragment base_of fragment_of origin_text origin_of has_same_base is_rewritable events_of each_event after_opening AtEachEvent is_numbered opens is_formed is_once is_caused is_queued is_ordered is_checked ends_settled loads_end ends_told ends_stepped goes_in_time
is_fragment_replace_2_keeps_once = refl

-- has_no_earlier_load_at: without conjunct `has_nav (way_to e loaded) nav`, `loads` would not hold.
abbrev pub has_no_earlier_load_at_2 : List Event
has_no_earlier_load_at_2 =
    before 11 reload_and_death
    ++ by_coord (rows.Delivered (p 1)) (sent 4 1 0 1 (whys.Req (r 2)) (tasks.Ask 0 leavings.Load) ∷ rows.Applied (r 3) (changes.Reload (n 2)) ∷ [])
    ∷ []

pub has_no_earlier_load_at_2_keeps_loads : LoadsEndInTime (log_of has_no_earlier_load_at_2)
unfolding url_on_literals is_web is_blank_url judged judged_parse read_against address_of url_of resolved with_fragment base_of fragment_of origin_text origin_of has_same_base is_rewritable events_of each_event after_opening AtEachEvent is_numbered opens is_formed is_once is_caused is_queued is_ordered is_checked ends_settled loads_end ends_told ends_stepped goes_in_time
has_no_earlier_load_at_2_keeps_loads = refl

-- may_be_left: without conjunct `is_some (shower_of p.start doc)`, `checked` would not hold.
abbrev pub may_be_left_2 : List Event
may_be_left_2 =
    before 44 question_settled_by_a_discard
    ++ by_proc 1 (rows.Finished (p 1) (j 12) (outcomes.Populated None)) (sent 13 1 0 2 (whys.Req (r 3)) tasks.Freeze ∷ [])
    ∷ []

pub may_be_left_2_keeps_checked : ChecksAreKept (log_of may_be_left_2)
unfolding url_on_literals is_web is_blank_url judged judged_parse read_against address_of url_of resolved with_fragment base_of fragment_of origin_text origin_of has_same_base is_rewritable events_of each_event after_opening AtEachEvent is_numbered opens is_formed is_once is_caused is_queued is_ordered is_checked ends_settled loads_end ends_told ends_stepped goes_in_time
may_be_left_2_keeps_checked = refl

-- woken_below: without conjunct `not (is_asleep place)`, `ordered` would not hold.
abbrev pub woken_below_1 : List Event
woken_below_1 =
    before 71 goal_cleared_by_a_push
    ++ by_coord (rows.Delivered (p 1)) (rows.Applied (r 8) (changes.AddFrame (s 6) (n 2) (e 0 7) (s 7)) ∷ rows.Applied (r 7) (changes.Push (n 2) (e 5 1) (s 5) (codes "http://a.test/h") (Some (codes "s"))) ∷ sent 22 1 0 6 (whys.Req (r 7)) tasks.Discard ∷ sent 23 1 0 4 (whys.Req (r 8)) (tasks.Activate (e 0 4) (epoch 6) 2 1 None (codes "http://a.test/f1")) ∷ sent 24 1 0 1 (whys.Req (r 7)) (tasks.Update 2 1) ∷ sent 25 1 0 5 (whys.Req (r 7)) (tasks.Update 2 1) ∷ [])
    ∷ []

pub woken_below_1_keeps_ordered : OrdersAreCaused (log_of woken_below_1)
unfolding url_on_literals is_web is_blank_url judged judged_parse read_against address_of url_of resolved with_fragment base_of fragment_of origin_text origin_of has_same_base is_rewritable events_of each_event after_opening AtEachEvent is_numbered opens is_formed is_once is_caused is_queued is_ordered is_checked ends_settled loads_end ends_told ends_stepped goes_in_time
woken_below_1_keeps_ordered = refl

-- is_for_traversal: without test `is_traversal q.what`, `loads` would not hold.
abbrev pub is_for_traversal_3 : List Event
is_for_traversal_3 =
    by_start (rows.Opened (e 0 1) (s 1) (d 1) (p 1) None (codes "http://a.test/")) []
    ∷ by_ui (rows.Accepted (r 1) None (requests.Load (n 0) modes.Push (codes "http://a.test/"))) (rows.Started (r 1) None ∷ sent 1 1 0 2 (whys.Req (r 1)) (tasks.Populate (n 0) (s 2) (codes "http://a.test/") false) ∷ [])
    ∷ by_proc 1 (rows.Taken (p 1) (j 1) true false) (sent 3 1 0 2 (whys.Req (r 1)) (tasks.Activate (e 0 2) (epoch 2) 2 1 None (codes "http://a.test/")) ∷ [])
    ∷ []

pub is_for_traversal_3_keeps_loads : LoadsEndInTime (log_of is_for_traversal_3)
unfolding url_on_literals is_web is_blank_url judged judged_parse read_against address_of url_of resolved with_fragment base_of fragment_of origin_text origin_of has_same_base is_rewritable events_of each_event after_opening AtEachEvent is_numbered opens is_formed is_once is_caused is_queued is_ordered is_checked ends_settled loads_end ends_told ends_stepped goes_in_time
is_for_traversal_3_keeps_loads = refl

-- is_refused_step: without conjunct `is_traversal q.what`, `queued` would not hold.
abbrev pub is_refused_step_3 : List Event
is_refused_step_3 =
    by_start (rows.Opened (e 0 1) (s 1) (d 1) (p 1) None (codes "about:blank")) []
    ∷ by_ui (rows.Accepted (r 1) None (requests.Reload (n 0))) (rows.Started (r 1) (Some (t 0)) ∷ sent 1 1 0 2 (whys.Req (r 1)) (tasks.Populate (n 0) (s 2) (codes "about:blank") true) ∷ rows.Refused (r 1) denials.NoStep ∷ [])
    ∷ []

pub is_refused_step_3_keeps_queued : KeepsQueueOrder (log_of is_refused_step_3)
unfolding url_on_literals is_web is_blank_url judged judged_parse read_against address_of url_of resolved with_fragment base_of fragment_of origin_text origin_of has_same_base is_rewritable events_of each_event after_opening AtEachEvent is_numbered opens is_formed is_once is_caused is_queued is_ordered is_checked ends_settled loads_end ends_told ends_stepped goes_in_time
is_refused_step_3_keeps_queued = refl

-- may_go_on: without premise `is_checked q`, `checked` would not hold.
abbrev pub may_go_on_2 : List Event
may_go_on_2 =
    before 3 back_after_a_held_back_push
    ++ by_coord (rows.Delivered (p 1)) (sent 1 1 0 1 (whys.Req (r 1)) (tasks.Ask 0 leavings.Traverse) ∷ sent 1 1 0 2 (whys.Req (r 1)) (tasks.Populate (n 1) (s 2) (codes "about:blank") true) ∷ [])
    ∷ []

pub may_go_on_2_keeps_checked : ChecksAreKept (log_of may_go_on_2)
unfolding url_on_literals is_web is_blank_url judged judged_parse read_against address_of url_of resolved with_fragment base_of fragment_of origin_text origin_of has_same_base is_rewritable events_of each_event after_opening AtEachEvent is_numbered opens is_formed is_once is_caused is_queued is_ordered is_checked ends_settled loads_end ends_told ends_stepped goes_in_time
may_go_on_2_keeps_checked = refl

-- is_prompt_up: without test `is_drop`, `settled` would not hold.
abbrev pub is_prompt_up_4 : List Event
is_prompt_up_4 =
    before 3 kept_frame_document_at_a_reload
    ++ by_coord (rows.Delivered (p 1)) (rows.Applied (r 1) (changes.AddFrame (s 1) (n 1) (e 0 2) (s 2)) ∷ rows.Prompted (r 1) (d 1) ∷ [])
    ∷ []

pub is_prompt_up_4_keeps_settled : QuietIsSettled (log_of is_prompt_up_4)
unfolding url_on_literals is_web is_blank_url judged judged_parse read_against address_of url_of resolved with_fragment base_of fragment_of origin_text origin_of has_same_base is_rewritable events_of each_event after_opening AtEachEvent is_numbered opens is_formed is_once is_caused is_queued is_ordered is_checked ends_settled loads_end ends_told ends_stepped goes_in_time
is_prompt_up_4_keeps_settled = refl

-- goes_on_with: by_kind: without conjunct `is_for req job`, `checked` would not hold.
abbrev pub goes_on_with_6 : List Event
goes_on_with_6 =
    by_start (rows.Opened (e 0 1) (s 1) (d 1) (p 1) (Some 1) (codes "http://a.test/p0")) []
    ∷ by_ui (rows.Accepted (r 1) None (requests.Load (n 0) modes.Auto (codes "http://b.test/p1"))) (rows.Started (r 1) None ∷ sent 1 1 0 1 (whys.Req (r 1)) (tasks.Ask 1 leavings.Load) ∷ [])
    ∷ by_proc 1 (rows.Taken (p 1) (j 1) true false) []
    ∷ by_proc 1 (rows.Finished (p 1) (j 1) (outcomes.Asked verdicts.Prompt)) []
    ∷ by_coord (rows.Delivered (p 1)) (sent 2 1 0 1 (whys.Death (x 1)) tasks.Freeze ∷ rows.Prompted (r 1) (d 1) ∷ [])
    ∷ []

pub goes_on_with_6_keeps_checked : ChecksAreKept (log_of goes_on_with_6)
unfolding url_on_literals is_web is_blank_url judged judged_parse read_against address_of url_of resolved with_fragment base_of fragment_of origin_text origin_of has_same_base is_rewritable events_of each_event after_opening AtEachEvent is_numbered opens is_formed is_once is_caused is_queued is_ordered is_checked ends_settled loads_end ends_told ends_stepped goes_in_time
goes_on_with_6_keeps_checked = refl

-- names_document: without test `refuses req`, `formed` would not hold.
abbrev pub names_document_5 : List Event
names_document_5 =
    by_start (rows.Opened (e 0 1) (s 1) (d 1) (p 1) None (codes "http://a.test/")) []
    ∷ by_ui (rows.Accepted (r 1) (Some (d 1)) (requests.Poke (n 0) (actions.Push (Some (codes "s")) (Some (codes "/1"))))) (rows.Dropped (r 1) (drops.Destroyed (r 1)) ∷ [])
    ∷ []

pub names_document_5_keeps_formed : IsFormed (log_of names_document_5)
unfolding url_on_literals is_web is_blank_url judged judged_parse read_against address_of url_of resolved with_fragment base_of fragment_of origin_text origin_of has_same_base is_rewritable events_of each_event after_opening AtEachEvent is_numbered opens is_formed is_once is_caused is_queued is_ordered is_checked ends_settled loads_end ends_told ends_stepped goes_in_time
names_document_5_keeps_formed = refl

-- later_row: were `nat_lt best.step.0 row.step.0` always so, `queued` would not hold.
abbrev pub later_row_2 : List Event
later_row_2 =
    by_start (rows.Opened (e 0 1) (s 1) (d 1) (p 1) None (codes "http://a.test/")) []
    ∷ by_ui (rows.Accepted (r 1) None (requests.Load (n 0) modes.Auto (codes "http://b.test/p0"))) (rows.Started (r 1) None ∷ sent 1 1 0 2 (whys.Req (r 1)) (tasks.Populate (n 0) (s 2) (codes "http://b.test/p0") false) ∷ [])
    ∷ by_coord (rows.Delivered (p 1)) (rows.Applied (r 1) (changes.AddFrame (s 1) (n 0) (e 0 2) (s 3)) ∷ sent 2 1 0 2 (whys.Req (r 1)) (tasks.Update 1 0) ∷ rows.Applied (r 1) (changes.Push (n 0) (e 0 2) (s 2) (codes "http://b.test/p0") None) ∷ [])
    ∷ []

pub later_row_2_keeps_queued : KeepsQueueOrder (log_of later_row_2)
unfolding url_on_literals is_web is_blank_url judged judged_parse read_against address_of url_of resolved with_fragment base_of fragment_of origin_text origin_of has_same_base is_rewritable events_of each_event after_opening AtEachEvent is_numbered opens is_formed is_once is_caused is_queued is_ordered is_checked ends_settled loads_end ends_told ends_stepped goes_in_time
later_row_2_keeps_queued = refl

-- is_for_traversal: were equation 2 true, `loads` would not hold.
abbrev pub is_for_traversal_4 : List Event
is_for_traversal_4 =
    before 4 poke_of_the_newer_document
    ++ by_ui (rows.Answered (r 1) false) (sent 2 1 0 1 (whys.Death (x 1)) (tasks.Activate (e 0 1) (epoch 2) 1 0 None (codes "http://a.test/")) ∷ sent 2 2 0 3 (whys.Death (x 1)) (tasks.Populate (n 0) (s 2) (codes "http://b.test/") false) ∷ [])
    ∷ []

pub is_for_traversal_4_keeps_loads : LoadsEndInTime (log_of is_for_traversal_4)
unfolding url_on_literals is_web is_blank_url judged judged_parse read_against address_of url_of resolved with_fragment base_of fragment_of origin_text origin_of has_same_base is_rewritable events_of each_event after_opening AtEachEvent is_numbered opens is_formed is_once is_caused is_queued is_ordered is_checked ends_settled loads_end ends_told ends_stepped goes_in_time
is_for_traversal_4_keeps_loads = refl

-- is_leaving: were equation 4 true, `ordered` would not hold.
abbrev pub is_leaving_3 : List Event
is_leaving_3 =
    before 10 frames_asked_in_order
    ++ by_ui (rows.Accepted (r 2) (Some (d 1)) (requests.Poke (n 0) (actions.AddFrame (n 1)))) (rows.Started (r 1) None ∷ [])
    ∷ []

pub is_leaving_3_keeps_ordered : OrdersAreCaused (log_of is_leaving_3)
unfolding url_on_literals is_web is_blank_url judged judged_parse read_against address_of url_of resolved with_fragment base_of fragment_of origin_text origin_of has_same_base is_rewritable events_of each_event after_opening AtEachEvent is_numbered opens is_formed is_once is_caused is_queued is_ordered is_checked ends_settled loads_end ends_told ends_stepped goes_in_time
is_leaving_3_keeps_ordered = refl

-- denial_of_nav: without conjunct `needs_document`, `caused` would not hold.
abbrev pub denial_of_nav_2 : List Event
denial_of_nav_2 =
    before 16 load_below_a_lost_navigable
    ++ by_ui (rows.Accepted (r 3) None (requests.Reload (n 1))) []
    ∷ []

pub denial_of_nav_2_keeps_caused : OutcomesAreCaused (log_of denial_of_nav_2)
unfolding url_on_literals is_web is_blank_url judged judged_parse read_against address_of url_of resolved with_fragment base_of fragment_of origin_text origin_of has_same_base is_rewritable events_of each_event after_opening AtEachEvent is_numbered opens is_formed is_once is_caused is_queued is_ordered is_checked ends_settled loads_end ends_told ends_stepped goes_in_time
denial_of_nav_2_keeps_caused = refl

-- has_no_earlier_load_at: without conjunct `nat_lt q.nr.0 req.0`, `loads` would not hold.
abbrev pub has_no_earlier_load_at_3 : List Event
has_no_earlier_load_at_3 =
    before 10 push_beside_a_frame
    ++ by_ui (rows.Accepted (r 2) None (requests.Load (n 1) modes.Auto (codes "http://b.test/p1"))) (rows.Applied (r 1) (changes.Reload (n 1)) ∷ rows.Started (r 2) None ∷ sent 3 2 0 3 (whys.Req (r 2)) (tasks.Populate (n 1) (s 3) (codes "http://b.test/p1") false) ∷ [])
    ∷ []

pub has_no_earlier_load_at_3_keeps_loads : LoadsEndInTime (log_of has_no_earlier_load_at_3)
unfolding url_on_literals is_web is_blank_url judged judged_parse read_against address_of url_of resolved with_fragment base_of fragment_of origin_text origin_of has_same_base is_rewritable events_of each_event after_opening AtEachEvent is_numbered opens is_formed is_once is_caused is_queued is_ordered is_checked ends_settled loads_end ends_told ends_stepped goes_in_time
has_no_earlier_load_at_3_keeps_loads = refl

-- with_moved: were moved of `record q { moved = navs ++ q.moved }` not changed, `told` would not hold.
abbrev pub with_moved_1 : List Event
with_moved_1 =
    before 14 no_document_kept
    ++ by_coord (rows.Delivered (p 1)) (sent 5 1 0 2 (whys.Req (r 2)) tasks.Discard ∷ sent 6 1 0 3 (whys.Req (r 1)) (tasks.Activate (e 0 1) (epoch 3) 2 0 None (codes "http://a.test/")) ∷ [])
    ∷ []

pub with_moved_1_keeps_told : AtEachEvent (at_end ends_told) (log_of with_moved_1)
unfolding url_on_literals is_web is_blank_url judged judged_parse read_against address_of url_of resolved with_fragment base_of fragment_of origin_text origin_of has_same_base is_rewritable events_of each_event after_opening AtEachEvent is_numbered opens is_formed is_once is_caused is_queued is_ordered is_checked ends_settled loads_end ends_told ends_stepped goes_in_time
with_moved_1_keeps_told = refl

-- place_bereft: were status of `record place { status = asleep; why = whys.Death death }` not changed, `told` would not hold.
abbrev pub place_bereft_1 : List Event
place_bereft_1 =
    before 34 one_of_two_processes_dies
    ++ by_coord (rows.Delivered (p 1)) (sent 10 2 0 3 (whys.Death (x 1)) tasks.Discard ∷ rows.Applied (r 2) (changes.RemoveFrame (n 0)) ∷ [])
    ∷ []

pub place_bereft_1_keeps_told : AtEachEvent (at_end ends_told) (log_of place_bereft_1)
unfolding url_on_literals is_web is_blank_url judged judged_parse read_against address_of url_of resolved with_fragment base_of fragment_of origin_text origin_of has_same_base is_rewritable events_of each_event after_opening AtEachEvent is_numbered opens is_formed is_once is_caused is_queued is_ordered is_checked ends_settled loads_end ends_told ends_stepped goes_in_time
place_bereft_1_keeps_told = refl

-- told_after_change: were `d.nr.0 == entry.maker` always so, `told` would not hold.
abbrev pub told_after_change_1 : List Event
told_after_change_1 =
    load_of_no_navigable
    ++ by_ui (rows.Accepted (r 3) None (requests.Go (negsuc 0))) (rows.Applied (r 1) (changes.Push (n 5) (e 0 2) (s 1) (codes "http://a.test/1") None) ∷ rows.Applied (r 2) (changes.RemoveFrame (n 0)) ∷ [])
    ∷ []

pub told_after_change_1_keeps_told : AtEachEvent (at_end ends_told) (log_of told_after_change_1)
unfolding url_on_literals is_web is_blank_url judged judged_parse read_against address_of url_of resolved with_fragment base_of fragment_of origin_text origin_of has_same_base is_rewritable events_of each_event after_opening AtEachEvent is_numbered opens is_formed is_once is_caused is_queued is_ordered is_checked ends_settled loads_end ends_told ends_stepped goes_in_time
told_after_change_1_keeps_told = refl

-- running_in: without conjunct `is_traversal q.what`, `told` would not hold.
abbrev pub running_in_1 : List Event
running_in_1 =
    before 12 load_ended_by_a_traversal
    ++ by_ui (rows.Accepted (r 3) None (requests.Go (negsuc 0))) (rows.Started (r 3) (Some (t 0)) ∷ sent 5 1 0 2 (whys.Req (r 3)) tasks.Freeze ∷ sent 6 1 0 1 (whys.Req (r 3)) (tasks.Activate (e 0 1) (epoch 3) 2 0 None (codes "http://a.test/")) ∷ [])
    ∷ []

pub running_in_1_keeps_told : AtEachEvent (at_end ends_told) (log_of running_in_1)
unfolding url_on_literals is_web is_blank_url judged judged_parse read_against address_of url_of resolved with_fragment base_of fragment_of origin_text origin_of has_same_base is_rewritable events_of each_event after_opening AtEachEvent is_numbered opens is_formed is_once is_caused is_queued is_ordered is_checked ends_settled loads_end ends_told ends_stepped goes_in_time
running_in_1_keeps_told = refl

-- request_served: were equation 2 left out, `told` would not hold.
abbrev pub request_served_1 : List Event
request_served_1 =
    before 42 removal_and_push
    ++ by_ui (rows.Accepted (r 5) None (requests.Go (negsuc 1))) (rows.Started (r 5) (Some (t 0)) ∷ sent 12 1 0 1 (whys.Req (r 5)) (tasks.Activate (e 0 1) (epoch 2) 3 0 None (codes "http://a.test/")) ∷ sent 13 1 0 4 (whys.Req (r 5)) tasks.Freeze ∷ sent 14 1 0 3 (whys.Req (r 7)) (tasks.Activate (e 0 3) (epoch 4) 3 0 None (codes "http://a.test/f")) ∷ [])
    ∷ []

pub request_served_1_keeps_told : AtEachEvent (at_end ends_told) (log_of request_served_1)
unfolding url_on_literals is_web is_blank_url judged judged_parse read_against address_of url_of resolved with_fragment base_of fragment_of origin_text origin_of has_same_base is_rewritable events_of each_event after_opening AtEachEvent is_numbered opens is_formed is_once is_caused is_queued is_ordered is_checked ends_settled loads_end ends_told ends_stepped goes_in_time
request_served_1_keeps_told = refl

-- A traversal is applied out of its turn while a reload is pending, and a load is dropped by that reload. is_new_step: without conjunct `is_load q.what`, `caused` would not hold.
abbrev pub reload_before_a_traversal_out_of_turn : List Event
reload_before_a_traversal_out_of_turn =
    one_push
    ++ by_ui (rows.Accepted (r 2) None (requests.Reload (n 0))) (rows.Started (r 2) None ∷ rows.Applied (r 2) (changes.Reload (n 0)) ∷ sent 2 1 0 2 (whys.Req (r 2)) (tasks.Populate (n 0) (s 1) (codes "http://a.test/1") false) ∷ [])
    ∷ by_ui (rows.Accepted (r 3) None (requests.Go (negsuc 0))) (rows.Started (r 3) (Some (t 0)) ∷ rows.Applied (r 3) (changes.Traverse (t 0)) ∷ [])
    ∷ by_ui (rows.Accepted (r 4) None (requests.Load (n 0) modes.Auto (codes "http://a.test/x"))) (rows.Dropped (r 4) (drops.By (r 2)) ∷ [])
    ∷ []

pub reload_before_a_traversal_out_of_turn_keeps_caused : OutcomesAreCaused (log_of reload_before_a_traversal_out_of_turn)
unfolding url_on_literals is_web is_blank_url judged judged_parse read_against address_of url_of resolved with_fragment base_of fragment_of origin_text origin_of has_same_base is_rewritable events_of each_event after_opening AtEachEvent is_numbered opens is_formed is_once is_caused is_queued is_ordered is_checked ends_settled loads_end ends_told ends_stepped goes_in_time
reload_before_a_traversal_out_of_turn_keeps_caused = refl

-- Between the report of a reloaded document and its being shown another frame is reloaded; then a load of the first one begins. applied_to: were `d.nav.0 == nav.0` always so, `once` would not hold.
abbrev pub reload_of_another_frame_between : List Event
reload_of_another_frame_between =
    before 19 push_beside_a_running_traversal
    ++ by_ui (rows.Accepted (r 3) None (requests.Reload (n 1))) (rows.Started (r 3) None ∷ rows.Applied (r 3) (changes.Reload (n 1)) ∷ sent 5 1 0 4 (whys.Req (r 3)) (tasks.Populate (n 1) (s 2) (codes "about:blank") true) ∷ [])
    ∷ by_proc 1 (rows.Taken (p 1) (j 5) true false) []
    ∷ by_proc 1 (rows.Finished (p 1) (j 5) (outcomes.Populated None)) []
    ∷ by_coord (rows.Delivered (p 1)) []
    ∷ by_ui (rows.Accepted (r 4) None (requests.Reload (n 2))) (rows.Started (r 4) None ∷ rows.Applied (r 4) (changes.Reload (n 2)) ∷ sent 6 1 0 4 (whys.Req (r 3)) (tasks.Activate (e 0 2) (epoch 3) 1 0 None (codes "about:blank")) ∷ [])
    ∷ by_proc 1 (rows.Taken (p 1) (j 6) true false) []
    ∷ by_proc 1 (rows.Finished (p 1) (j 6) outcomes.Activated) []
    ∷ by_coord (rows.Delivered (p 1)) []
    ∷ by_ui (rows.Accepted (r 5) None (requests.Load (n 1) modes.Auto (codes "http://a.test/f"))) (rows.Started (r 5) None ∷ [])
    ∷ []

pub reload_of_another_frame_between_keeps_once : EachRequestOnce (log_of reload_of_another_frame_between)
unfolding url_on_literals is_web is_blank_url judged judged_parse read_against address_of url_of resolved with_fragment base_of fragment_of origin_text origin_of has_same_base is_rewritable events_of each_event after_opening AtEachEvent is_numbered opens is_formed is_once is_caused is_queued is_ordered is_checked ends_settled loads_end ends_told ends_stepped goes_in_time
reload_of_another_frame_between_keeps_once = refl

-- A reload is applied as a push, above a load of a frame. is_begun_load: without conjunct `is_load q.what`, `loads` would not hold.
abbrev pub reload_applied_as_a_push : List Event
reload_applied_as_a_push =
    before 10 push_beside_a_frame
    ++ by_ui (rows.Accepted (r 2) None (requests.Load (n 1) modes.Auto (codes "http://c.test/p0"))) (rows.Started (r 2) None ∷ sent 3 2 0 3 (whys.Req (r 2)) (tasks.Populate (n 1) (s 3) (codes "http://c.test/p0") false) ∷ [])
    ∷ by_ui (rows.Accepted (r 3) None (requests.Reload (n 0))) (rows.Started (r 3) None ∷ rows.Applied (r 3) (changes.Push (n 0) (e 0 3) (s 1) (codes "http://a.test/") None) ∷ [])
    ∷ []

pub reload_applied_as_a_push_keeps_loads : LoadsEndInTime (log_of reload_applied_as_a_push)
unfolding url_on_literals is_web is_blank_url judged judged_parse read_against address_of url_of resolved with_fragment base_of fragment_of origin_text origin_of has_same_base is_rewritable events_of each_event after_opening AtEachEvent is_numbered opens is_formed is_once is_caused is_queued is_ordered is_checked ends_settled loads_end ends_told ends_stepped goes_in_time
reload_applied_as_a_push_keeps_loads = refl

-- A traversal that hides a frame begins as the document of that frame is made, which is discarded with its report. is_unneeded: is_target: without conjunct `is_shown s.history.rows (aim_of s) place.nav`, `ordered` would not hold.
abbrev pub discarded_for_a_traversal_out_of_turn : List Event
discarded_for_a_traversal_out_of_turn =
    before 23 hidden_frame_is_asked
    ++ by_ui (rows.Accepted (r 4) None (requests.Go (pos 1))) (rows.Started (r 4) (Some (t 1)) ∷ [])
    ∷ by_coord (rows.Delivered (p 1)) (sent 7 1 0 3 (whys.Req (r 4)) tasks.Discard ∷ [])
    ∷ []

pub discarded_for_a_traversal_out_of_turn_keeps_ordered : OrdersAreCaused (log_of discarded_for_a_traversal_out_of_turn)
unfolding url_on_literals is_web is_blank_url judged judged_parse read_against address_of url_of resolved with_fragment base_of fragment_of origin_text origin_of has_same_base is_rewritable events_of each_event after_opening AtEachEvent is_numbered opens is_formed is_once is_caused is_queued is_ordered is_checked ends_settled loads_end ends_told ends_stepped goes_in_time
discarded_for_a_traversal_out_of_turn_keeps_ordered = refl

-- Two loads begin in one event, and each asks. question_in: were `is_for req job` always so, `ordered` would not hold.
abbrev pub two_loads_begin_in_an_event : List Event
two_loads_begin_in_an_event =
    by_start (rows.Opened (e 0 1) (s 1) (d 1) (p 1) (Some 1) (codes "http://a.test/")) []
    ∷ by_ui (rows.Accepted (r 1) None (requests.Load (n 0) modes.Auto (codes "http://a.test/1"))) (rows.Started (r 1) None ∷ sent 1 1 0 1 (whys.Req (r 1)) (tasks.Ask 1 leavings.Load) ∷ rows.Accepted (r 2) None (requests.Load (n 0) modes.Auto (codes "http://a.test/2")) ∷ rows.Started (r 2) None ∷ sent 2 1 0 1 (whys.Req (r 2)) (tasks.Ask 1 leavings.Load) ∷ [])
    ∷ []

pub two_loads_begin_in_an_event_keeps_ordered : OrdersAreCaused (log_of two_loads_begin_in_an_event)
unfolding url_on_literals is_web is_blank_url judged judged_parse read_against address_of url_of resolved with_fragment base_of fragment_of origin_text origin_of has_same_base is_rewritable events_of each_event after_opening AtEachEvent is_numbered opens is_formed is_once is_caused is_queued is_ordered is_checked ends_settled loads_end ends_told ends_stepped goes_in_time
two_loads_begin_in_an_event_keeps_ordered = refl

-- A document numbered 0 pushes in a frame, so that its entry has the number of the first one, and a load of the frame begins. given_row: without conjunct `is_of place.nav row`, `once` would not hold.
abbrev pub one_entry_of_two_navigables : List Event
one_entry_of_two_navigables =
    before 10 push_beside_a_frame
    ++ by_ui (sent 3 1 0 0 (whys.Req (r 1)) (tasks.Populate (n 1) (s 2) (codes "http://a.test/f") false)) []
    ∷ by_proc 1 (rows.Taken (p 1) (j 3) true false) []
    ∷ by_proc 1 (rows.Finished (p 1) (j 3) (outcomes.Populated None)) []
    ∷ by_coord (rows.Delivered (p 1)) (sent 4 1 0 0 (whys.Req (r 1)) (tasks.Activate (e 0 2) (epoch 2) 1 0 None (codes "http://a.test/f")) ∷ [])
    ∷ by_proc 1 (rows.Taken (p 1) (j 4) true false) []
    ∷ by_proc 1 (rows.Finished (p 1) (j 4) outcomes.Activated) []
    ∷ by_coord (rows.Delivered (p 1)) []
    ∷ by_ui (rows.Accepted (r 2) (Some (d 0)) (requests.Poke (n 1) (actions.Push (Some (codes "s")) None))) []
    ∷ by_proc 1 (made 1 2 0 2 (whats.Push (e 0 1) (Some (codes "s")) (codes "http://a.test/f"))) []
    ∷ by_coord (rows.Delivered (p 1)) (rows.Applied (r 2) (changes.Push (n 1) (e 0 1) (s 2) (codes "http://a.test/f") (Some (codes "s"))) ∷ [])
    ∷ by_ui (rows.Accepted (r 3) None (requests.Load (n 1) modes.Auto (codes "http://a.test/#x"))) (rows.Started (r 3) None ∷ [])
    ∷ []

pub one_entry_of_two_navigables_keeps_once : EachRequestOnce (log_of one_entry_of_two_navigables)
unfolding url_on_literals is_web is_blank_url judged judged_parse read_against address_of url_of resolved with_fragment base_of fragment_of origin_text origin_of has_same_base is_rewritable events_of each_event after_opening AtEachEvent is_numbered opens is_formed is_once is_caused is_queued is_ordered is_checked ends_settled loads_end ends_told ends_stepped goes_in_time
one_entry_of_two_navigables_keeps_once = refl

-- A document is discarded, and then shown. shows_another: by_task: without conjunct `not (job.doc.0 == d.nr.0)`, `placed` would not hold.
abbrev pub discarded_and_shown : List Event
discarded_and_shown =
    by_start (rows.Opened (e 0 1) (s 1) (d 1) (p 1) None (codes "http://a.test/")) []
    ∷ by_ui (rows.Accepted (r 1) None (requests.Go (pos 5))) (sent 1 1 0 1 (whys.Req (r 1)) tasks.Discard ∷ sent 2 1 0 1 (whys.Req (r 1)) (tasks.Activate (e 0 1) (epoch 2) 1 0 None (codes "http://a.test/")) ∷ [])
    ∷ []

pub discarded_and_shown_keeps_placed : AtEachEvent (each_row (is_suitable_row plain_settings)) (log_of discarded_and_shown)
unfolding url_on_literals is_web is_blank_url judged judged_parse read_against address_of url_of resolved with_fragment base_of fragment_of origin_text origin_of has_same_base is_rewritable events_of each_event after_opening AtEachEvent is_numbered opens is_formed is_once is_caused is_queued is_ordered is_checked ends_settled loads_end ends_told ends_stepped goes_in_time
discarded_and_shown_keeps_placed = refl

-- A document is discarded, and then told a length and index. shows_another: by_task: were equation 2 true, `placed` would not hold.
abbrev pub discarded_and_told : List Event
discarded_and_told =
    by_start (rows.Opened (e 0 1) (s 1) (d 1) (p 1) None (codes "http://a.test/")) []
    ∷ by_ui (rows.Accepted (r 1) None (requests.Go (pos 5))) (sent 1 1 0 1 (whys.Req (r 1)) tasks.Discard ∷ sent 2 1 0 1 (whys.Req (r 1)) (tasks.Update 2 1) ∷ [])
    ∷ []

pub discarded_and_told_keeps_placed : AtEachEvent (each_row (is_suitable_row plain_settings)) (log_of discarded_and_told)
unfolding url_on_literals is_web is_blank_url judged judged_parse read_against address_of url_of resolved with_fragment base_of fragment_of origin_text origin_of has_same_base is_rewritable events_of each_event after_opening AtEachEvent is_numbered opens is_formed is_once is_caused is_queued is_ordered is_checked ends_settled loads_end ends_told ends_stepped goes_in_time
discarded_and_told_keeps_placed = refl

-- A document is discarded that is neither left nor kept. is_spare: without conjunct `is_left p d || has_doc p.now.kept d.nr`, `placed` would not hold.
abbrev pub discarded_while_awake : List Event
discarded_while_awake =
    by_start (rows.Opened (e 0 1) (s 1) (d 1) (p 1) None (codes "http://a.test/")) []
    ∷ by_ui (rows.Accepted (r 1) None (requests.Go (pos 5))) (sent 1 1 0 1 (whys.Req (r 1)) tasks.Discard ∷ [])
    ∷ []

pub discarded_while_awake_keeps_placed : AtEachEvent (each_row (is_suitable_row plain_settings)) (log_of discarded_while_awake)
unfolding url_on_literals is_web is_blank_url judged judged_parse read_against address_of url_of resolved with_fragment base_of fragment_of origin_text origin_of has_same_base is_rewritable events_of each_event after_opening AtEachEvent is_numbered opens is_formed is_once is_caused is_queued is_ordered is_checked ends_settled loads_end ends_told ends_stepped goes_in_time
discarded_while_awake_keeps_placed = refl

-- A document is discarded, and once more as it is left. is_spare: without conjunct `not d.is_discarded`, `placed` would not hold.
abbrev pub discarded_and_left : List Event
discarded_and_left =
    before 4 no_document_kept
    ++ by_ui (rows.Accepted (r 2) None (requests.Go (pos 5))) (sent 2 1 0 1 (whys.Req (r 2)) tasks.Discard ∷ [])
    ∷ by_coord (rows.Delivered (p 1)) (rows.Applied (r 1) (changes.Push (n 0) (e 0 2) (s 2) (codes "http://a.test/1") None) ∷ sent 3 1 0 1 (whys.Req (r 1)) tasks.Discard ∷ sent 4 1 0 2 (whys.Req (r 1)) (tasks.Activate (e 0 2) (epoch 2) 2 1 None (codes "http://a.test/1")) ∷ [])
    ∷ []

pub discarded_and_left_keeps_placed : AtEachEvent (each_row (is_suitable_row plain_settings)) (log_of discarded_and_left)
unfolding url_on_literals is_web is_blank_url judged judged_parse read_against address_of url_of resolved with_fragment base_of fragment_of origin_text origin_of has_same_base is_rewritable events_of each_event after_opening AtEachEvent is_numbered opens is_formed is_once is_caused is_queued is_ordered is_checked ends_settled loads_end ends_told ends_stepped goes_in_time
discarded_and_left_keeps_placed = refl

abbrev pub dead_document_is_left_header : Header
dead_document_is_left_header = record { keep = 0; sites = []; pages = []; first = codes "http://a.test/" }

-- A dead document is left, and discarded since none may be kept. kept_then: were `is_left p d` never so, `placed` would not hold.
abbrev pub dead_document_is_left : List Event
dead_document_is_left =
    by_start (rows.Opened (e 0 1) (s 1) (d 1) (p 1) None (codes "http://a.test/")) []
    ∷ by_ui (rows.Killed (p 1) (x 1)) []
    ∷ by_coord (rows.Delivered (p 1)) []
    ∷ by_ui (rows.Accepted (r 1) None (requests.Load (n 0) modes.Auto (codes "http://b.test/"))) (rows.Started (r 1) None ∷ sent 1 1 1 2 (whys.Req (r 1)) (tasks.Populate (n 0) (s 2) (codes "http://b.test/") false) ∷ [])
    ∷ by_proc 1 (rows.Taken (p 1) (j 1) true false) []
    ∷ by_proc 1 (rows.Finished (p 1) (j 1) (outcomes.Populated None)) []
    ∷ by_coord (rows.Delivered (p 1)) (rows.Applied (r 1) (changes.Push (n 0) (e 0 2) (s 2) (codes "http://b.test/") None) ∷ sent 2 1 1 1 (whys.Req (r 1)) tasks.Discard ∷ sent 3 1 1 2 (whys.Req (r 1)) (tasks.Activate (e 0 2) (epoch 2) 2 1 None (codes "http://b.test/")) ∷ [])
    ∷ []

pub dead_document_is_left_keeps_placed : AtEachEvent (each_row (is_suitable_row dead_document_is_left_header)) (log_of dead_document_is_left)
unfolding url_on_literals is_web is_blank_url judged judged_parse read_against address_of url_of resolved with_fragment base_of fragment_of origin_text origin_of has_same_base is_rewritable events_of each_event after_opening AtEachEvent is_numbered opens is_formed is_once is_caused is_queued is_ordered is_checked ends_settled loads_end ends_told ends_stepped goes_in_time
dead_document_is_left_keeps_placed = refl

-- A frame is added once more, behind a frame in it, and shown again for a reload; then a load of the top asks in the order of the walk. is_way_before: were equation 2 true, `ordered` would not hold.
abbrev pub asked_twice_in_the_walk : List Event
asked_twice_in_the_walk =
    before 10 question_settled_by_a_discard
    ++ by_ui (rows.Accepted (r 2) (Some (d 2)) (requests.Poke (n 1) (actions.AddFrame (n 2)))) []
    ∷ by_proc 1 (made 1 2 2 1 (whats.AddFrame (n 2))) []
    ∷ by_coord (rows.Delivered (p 1)) (rows.Applied (r 2) (changes.AddFrame (s 2) (n 2) (e 0 3) (s 3)) ∷ sent 3 1 0 3 (whys.Req (r 2)) (tasks.Populate (n 2) (s 3) (codes "about:blank") true) ∷ [])
    ∷ by_proc 1 (rows.Taken (p 1) (j 3) true false) []
    ∷ by_proc 1 (rows.Finished (p 1) (j 3) (outcomes.Populated (Some 1))) []
    ∷ by_coord (rows.Delivered (p 1)) (sent 4 1 0 3 (whys.Req (r 2)) (tasks.Activate (e 0 3) (epoch 1) 1 0 None (codes "about:blank")) ∷ [])
    ∷ by_proc 1 (rows.Taken (p 1) (j 4) true false) []
    ∷ by_proc 1 (rows.Finished (p 1) (j 4) outcomes.Activated) []
    ∷ by_coord (rows.Delivered (p 1)) []
    ∷ by_ui (rows.Accepted (r 3) None (requests.Go (pos 5))) (rows.Applied (r 1) (changes.AddFrame (s 1) (n 1) (e 0 4) (s 4)) ∷ rows.Applied (r 1) (changes.Reload (n 1)) ∷ sent 5 1 0 2 (whys.Req (r 1)) (tasks.Activate (e 0 2) (epoch 2) 1 0 None (codes "about:blank")) ∷ [])
    ∷ by_ui (rows.Accepted (r 4) None (requests.Load (n 0) modes.Auto (codes "http://a.test/1"))) (rows.Started (r 4) None ∷ sent 6 1 0 2 (whys.Req (r 4)) (tasks.Ask 1 leavings.Load) ∷ sent 7 1 0 2 (whys.Req (r 4)) (tasks.Ask 1 leavings.Load) ∷ sent 8 1 0 3 (whys.Req (r 4)) (tasks.Ask 1 leavings.Load) ∷ [])
    ∷ []

pub asked_twice_in_the_walk_keeps_ordered : OrdersAreCaused (log_of asked_twice_in_the_walk)
unfolding url_on_literals is_web is_blank_url judged judged_parse read_against address_of url_of resolved with_fragment base_of fragment_of origin_text origin_of has_same_base is_rewritable events_of each_event after_opening AtEachEvent is_numbered opens is_formed is_once is_caused is_queued is_ordered is_checked ends_settled loads_end ends_told ends_stepped goes_in_time
asked_twice_in_the_walk_keeps_ordered = refl

-- A second document is shown under the epoch of the first, and both run; a poke reaches the first. newer: were `nat_lt (epoch best) (epoch d)` `nat_le`, `formed` would not hold.
abbrev pub two_documents_of_one_epoch : List Event
two_documents_of_one_epoch =
    by_start (rows.Opened (e 0 1) (s 1) (d 1) (p 1) None (codes "http://a.test/")) []
    ∷ by_ui (rows.Accepted (r 1) None (requests.Go (pos 5))) (sent 1 1 0 2 (whys.Req (r 1)) (tasks.Populate (n 0) (s 1) (codes "http://a.test/") false) ∷ sent 2 1 0 2 (whys.Req (r 1)) (tasks.Activate (e 0 1) (epoch 1) 1 0 None (codes "http://a.test/")) ∷ [])
    ∷ by_proc 1 (rows.Taken (p 1) (j 1) true false) []
    ∷ by_proc 1 (rows.Finished (p 1) (j 1) (outcomes.Populated None)) []
    ∷ by_proc 1 (rows.Taken (p 1) (j 2) true false) []
    ∷ by_proc 1 (rows.Finished (p 1) (j 2) outcomes.Activated) []
    ∷ by_ui (rows.Accepted (r 2) (Some (d 1)) (requests.Poke (n 0) (actions.Push (Some (codes "s")) None))) []
    ∷ []

pub two_documents_of_one_epoch_keeps_formed : IsFormed (log_of two_documents_of_one_epoch)
unfolding url_on_literals is_web is_blank_url judged judged_parse read_against address_of url_of resolved with_fragment base_of fragment_of origin_text origin_of has_same_base is_rewritable events_of each_event after_opening AtEachEvent is_numbered opens is_formed is_once is_caused is_queued is_ordered is_checked ends_settled loads_end ends_told ends_stepped goes_in_time
two_documents_of_one_epoch_keeps_formed = refl

-- A fragment order is answered by an edit, which is not applied. is_said_rightly: by_kind: without premise `length p.done == 0`, `formed` would not hold.
abbrev pub fragment_answered_by_an_edit : List Event
fragment_answered_by_an_edit =
    before 3 fragment_load
    ++ by_proc 1 (rows.Finished (p 1) (j 1) outcomes.Fragmented) (made 1 1 1 1 whats.Edit ∷ [])
    ∷ []

pub fragment_answered_by_an_edit_keeps_formed : IsFormed (log_of fragment_answered_by_an_edit)
unfolding url_on_literals is_web is_blank_url judged judged_parse read_against address_of url_of resolved with_fragment base_of fragment_of origin_text origin_of has_same_base is_rewritable events_of each_event after_opening AtEachEvent is_numbered opens is_formed is_once is_caused is_queued is_ordered is_checked ends_settled loads_end ends_told ends_stepped goes_in_time
fragment_answered_by_an_edit_keeps_formed = refl

-- A load of a frame and a reload above it have one number. has_no_earlier_load_at: were `nat_lt q.nr.0 req.0` `nat_le`, `loads` would not hold.
abbrev pub reload_numbered_as_a_load : List Event
reload_numbered_as_a_load =
    before 10 push_beside_a_frame
    ++ by_ui (rows.Accepted (r 2) None (requests.Reload (n 0))) (rows.Accepted (r 2) None (requests.Load (n 1) modes.Auto (codes "http://a.test/f")) ∷ rows.Started (r 3) None ∷ rows.Started (r 2) None ∷ rows.Applied (r 2) (changes.Reload (n 0)) ∷ [])
    ∷ []

pub reload_numbered_as_a_load_keeps_loads : LoadsEndInTime (log_of reload_numbered_as_a_load)
unfolding url_on_literals is_web is_blank_url judged judged_parse read_against address_of url_of resolved with_fragment base_of fragment_of origin_text origin_of has_same_base is_rewritable events_of each_event after_opening AtEachEvent is_numbered opens is_formed is_once is_caused is_queued is_ordered is_checked ends_settled loads_end ends_told ends_stepped goes_in_time
reload_numbered_as_a_load_keeps_loads = refl

-- A load of a frame and one above it, which is applied with the document state that was there, have one number. has_no_earlier_load_below: were `nat_lt q.nr.0 req.0` `nat_le`, `loads` would not hold.
abbrev pub load_numbered_as_a_load_below : List Event
load_numbered_as_a_load_below =
    before 10 push_beside_a_frame
    ++ by_ui (rows.Accepted (r 2) None (requests.Load (n 0) modes.Auto (codes "http://a.test/1"))) (rows.Accepted (r 2) None (requests.Load (n 1) modes.Auto (codes "http://a.test/f")) ∷ rows.Started (r 3) None ∷ rows.Started (r 2) None ∷ rows.Applied (r 2) (changes.Push (n 0) (e 0 3) (s 1) (codes "http://a.test/1") None) ∷ [])
    ∷ []

pub load_numbered_as_a_load_below_keeps_loads : LoadsEndInTime (log_of load_numbered_as_a_load_below)
unfolding url_on_literals is_web is_blank_url judged judged_parse read_against address_of url_of resolved with_fragment base_of fragment_of origin_text origin_of has_same_base is_rewritable events_of each_event after_opening AtEachEvent is_numbered opens is_formed is_once is_caused is_queued is_ordered is_checked ends_settled loads_end ends_told ends_stepped goes_in_time
load_numbered_as_a_load_below_keeps_loads = refl

-- A traversal of the user names a document, and its process refuses it. denial_at_act: makes: were equation 2 true, `caused` would not hold.
abbrev pub traversal_of_the_user_with_a_document : List Event
traversal_of_the_user_with_a_document =
    by_start (rows.Opened (e 0 1) (s 1) (d 1) (p 1) None (codes "http://a.test/")) []
    ∷ by_ui (rows.Accepted (r 1) (Some (d 1)) (requests.Go (pos 5))) []
    ∷ by_proc 1 (rows.Refused (r 1) denials.BadAddress) []
    ∷ []

pub traversal_of_the_user_with_a_document_keeps_caused : OutcomesAreCaused (log_of traversal_of_the_user_with_a_document)
unfolding url_on_literals is_web is_blank_url judged judged_parse read_against address_of url_of resolved with_fragment base_of fragment_of origin_text origin_of has_same_base is_rewritable events_of each_event after_opening AtEachEvent is_numbered opens is_formed is_once is_caused is_queued is_ordered is_checked ends_settled loads_end ends_told ends_stepped goes_in_time
traversal_of_the_user_with_a_document_keeps_caused = refl

-- A document is frozen before it ends a fragment order, and makes nothing of it. is_followed_duly: were `is_running s job.doc` always so, `formed` would not hold.
abbrev pub fragment_of_a_frozen_document : List Event
fragment_of_a_frozen_document =
    by_start (rows.Opened (e 0 1) (s 1) (d 1) (p 1) None (codes "http://a.test/")) []
    ∷ by_ui (rows.Accepted (r 1) None (requests.Load (n 0) modes.Auto (codes "http://a.test/#x"))) (sent 1 1 0 1 (whys.Req (r 1)) tasks.Freeze ∷ sent 2 1 0 1 (whys.Req (r 1)) (tasks.DoFragment (r 1) modes.Auto (codes "http://a.test/#x")) ∷ [])
    ∷ by_proc 1 (rows.Taken (p 1) (j 1) true false) []
    ∷ by_proc 1 (rows.Finished (p 1) (j 1) outcomes.Frozen) []
    ∷ by_proc 1 (rows.Taken (p 1) (j 2) true false) []
    ∷ by_proc 1 (rows.Finished (p 1) (j 2) outcomes.Fragmented) []
    ∷ []

pub fragment_of_a_frozen_document_keeps_formed : IsFormed (log_of fragment_of_a_frozen_document)
unfolding url_on_literals is_web is_blank_url judged judged_parse read_against address_of url_of resolved with_fragment base_of fragment_of origin_text origin_of has_same_base is_rewritable events_of each_event after_opening AtEachEvent is_numbered opens is_formed is_once is_caused is_queued is_ordered is_checked ends_settled loads_end ends_told ends_stepped goes_in_time
fragment_of_a_frozen_document_keeps_formed = refl

-- A document that a load has left ends a fragment order, and the fragment load is dropped by that load. is_outdated: without disjunct `q.is_not_found`, `caused` would not hold.
abbrev pub fragment_of_a_document_that_was_left : List Event
fragment_of_a_document_that_was_left =
    before 5 evicted_documents
    ++ by_ui (rows.Accepted (r 2) None (requests.Load (n 0) modes.Auto (codes "http://a.test/#x"))) (sent 4 1 0 1 (whys.Req (r 2)) (tasks.DoFragment (r 2) modes.Auto (codes "http://a.test/#x")) ∷ [])
    ∷ by_proc 1 (rows.Taken (p 1) (j 2) true false) []
    ∷ by_proc 1 (rows.Finished (p 1) (j 2) outcomes.Frozen) []
    ∷ by_proc 1 (rows.Taken (p 1) (j 3) true false) []
    ∷ by_proc 1 (rows.Finished (p 1) (j 3) outcomes.Activated) []
    ∷ by_proc 1 (rows.Taken (p 1) (j 4) true false) []
    ∷ by_proc 1 (rows.Finished (p 1) (j 4) outcomes.Fragmented) []
    ∷ by_coord (rows.Delivered (p 1)) []
    ∷ by_coord (rows.Delivered (p 1)) []
    ∷ by_coord (rows.Delivered (p 1)) (rows.Dropped (r 2) (drops.By (r 1)) ∷ [])
    ∷ []

pub fragment_of_a_document_that_was_left_keeps_caused : OutcomesAreCaused (log_of fragment_of_a_document_that_was_left)
unfolding url_on_literals is_web is_blank_url judged judged_parse read_against address_of url_of resolved with_fragment base_of fragment_of origin_text origin_of has_same_base is_rewritable events_of each_event after_opening AtEachEvent is_numbered opens is_formed is_once is_caused is_queued is_ordered is_checked ends_settled loads_end ends_told ends_stepped goes_in_time
fragment_of_a_document_that_was_left_keeps_caused = refl
