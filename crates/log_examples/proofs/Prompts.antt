-- Legal logs: prompts.
-- A log is its events: those before one of another log, since one, or between two, and its own.
use Rattle.std.proofs.Common.{pos, negsuc, true, false, List, [], ◌∷◌, ◌++◌, codes, refl, Some, None}
use Rattle.url.proofs.OnLiterals.{url_on_literals}
use Rattle.address.specs.Addresses.{is_web, is_blank_url, judged, judged_parse, read_against, address_of, url_of, resolved, with_fragment, base_of, fragment_of, origin_text, origin_of, has_same_base, is_rewritable}
use Rattle.log_model.specs.declared.action.Action.TheVariants as actions
use Rattle.log_model.specs.declared.change.Change.TheVariants as changes
use Rattle.log_model.specs.declared.handler.LeaveCause.TheVariants as leavings
use Rattle.log_model.specs.declared.handler.Verdict.TheVariants as verdicts
use Rattle.log_model.specs.declared.job.Task.TheVariants as tasks
use Rattle.log_model.specs.declared.job.Why.TheVariants as whys
use Rattle.log_model.specs.declared.made.What.TheVariants as whats
use Rattle.log_model.specs.declared.outcome.Cause.TheVariants as drops
use Rattle.log_model.specs.declared.outcome.Denial.TheVariants as denials
use Rattle.log_model.specs.declared.outcome.Outcome.TheVariants as outcomes
use Rattle.log_model.specs.declared.request.Mode.TheVariants as modes
use Rattle.log_model.specs.declared.request.Request.TheVariants as requests
use Rattle.log_model.specs.declared.row_kind.RowKind.TheVariants as rows
use Rattle.log_model.specs.Events.{events_of, each_event, after_opening, AtEachEvent}
use Rattle.log_model.specs.Formed.{is_numbered}
use Rattle.log_model.specs.Legal.{IsLegal, opens, is_formed, is_once, is_caused, is_queued, is_ordered, is_checked, ends_settled}
use Rattle.log_model.specs.LoadsEndInTime.{LoadsEndInTime, loads_end}
use Rattle.log_model.specs.ActsAtOnce.{ActsAtOnce, ends_told, ends_stepped, goes_in_time}
use Rattle.log_model.specs.Suits.{Suits}
use Rattle.log_model.specs.declared.header.Header.{Header}
use Rattle.log_examples.specs.Rows.{n, s, r, p, t, x, d, j, e, epoch, sent, made}
use Rattle.log_examples.specs.Logs.{Event, by_start, by_ui, by_coord, by_proc, log_of, before}
use Rattle.log_examples.proofs.Pushes.{push_beside_a_frame}
use Rattle.log_examples.proofs.Loads.{no_document_kept, push_over_a_kept_document, evicted_documents}

-- The user stays on a page with unsaved edits.
abbrev pub stay : List Event
stay =
    before 3 no_document_kept
    ++ by_proc 1 (rows.Finished (p 1) (j 1) (outcomes.Populated (Some 0))) []
    ∷ by_coord (rows.Delivered (p 1)) (rows.Applied (r 1) (changes.Push (n 0) (e 0 2) (s 2) (codes "http://a.test/1") None) ∷ sent 2 1 0 1 (whys.Req (r 1)) tasks.Freeze ∷ sent 3 1 0 2 (whys.Req (r 1)) (tasks.Activate (e 0 2) (epoch 2) 2 1 None (codes "http://a.test/1")) ∷ [])
    ∷ by_proc 1 (rows.Taken (p 1) (j 2) true false) []
    ∷ by_proc 1 (rows.Finished (p 1) (j 2) outcomes.Frozen) []
    ∷ by_coord (rows.Delivered (p 1)) []
    ∷ by_proc 1 (rows.Taken (p 1) (j 3) true false) []
    ∷ by_proc 1 (rows.Finished (p 1) (j 3) outcomes.Activated) []
    ∷ by_coord (rows.Delivered (p 1)) []
    ∷ by_ui (rows.Accepted (r 2) (Some (d 2)) (requests.Poke (n 0) actions.Edit)) []
    ∷ by_proc 1 (made 1 2 2 2 whats.Edit) (rows.Applied (r 2) changes.Edit ∷ [])
    ∷ by_ui (rows.Accepted (r 3) None (requests.Go (negsuc 0))) (rows.Started (r 3) (Some (t 0)) ∷ sent 4 1 0 2 (whys.Req (r 3)) (tasks.Ask 0 leavings.Traverse) ∷ [])
    ∷ by_proc 1 (rows.Taken (p 1) (j 4) true true) []
    ∷ by_proc 1 (rows.Finished (p 1) (j 4) (outcomes.Asked verdicts.Prompt)) []
    ∷ by_coord (rows.Delivered (p 1)) (rows.Prompted (r 3) (d 2) ∷ [])
    ∷ by_ui (rows.Answered (r 3) true) (rows.Dropped (r 3) drops.Stay ∷ [])
    ∷ []

abbrev pub stay_header : Header
stay_header = record { keep = 3; sites = []; pages = record { base = codes "http://a.test/1"; slot = 0 } ∷ []; first = codes "http://a.test/" }

pub stay_is_legal : IsLegal (log_of stay)
unfolding url_on_literals is_web is_blank_url judged judged_parse read_against address_of url_of resolved with_fragment base_of fragment_of origin_text origin_of has_same_base is_rewritable events_of each_event after_opening AtEachEvent is_numbered opens is_formed is_once is_caused is_queued is_ordered is_checked ends_settled loads_end ends_told ends_stepped goes_in_time
stay_is_legal = record { opened = refl; numbered = refl; formed = refl; once = refl; caused = refl; queued = refl; ordered = refl; checked = refl; settled = refl }

pub stay_ends_loads : LoadsEndInTime (log_of stay)
unfolding url_on_literals is_web is_blank_url judged judged_parse read_against address_of url_of resolved with_fragment base_of fragment_of origin_text origin_of has_same_base is_rewritable events_of each_event after_opening AtEachEvent is_numbered opens is_formed is_once is_caused is_queued is_ordered is_checked ends_settled loads_end ends_told ends_stepped goes_in_time
stay_ends_loads = refl

pub stay_acts_at_once : ActsAtOnce (log_of stay)
unfolding url_on_literals is_web is_blank_url judged judged_parse read_against address_of url_of resolved with_fragment base_of fragment_of origin_text origin_of has_same_base is_rewritable events_of each_event after_opening AtEachEvent is_numbered opens is_formed is_once is_caused is_queued is_ordered is_checked ends_settled loads_end ends_told ends_stepped goes_in_time
stay_acts_at_once = record { told = refl; stepped = refl; in_time = refl }

pub stay_suits : Suits stay_header (log_of stay)
unfolding url_on_literals is_web is_blank_url judged judged_parse read_against address_of url_of resolved with_fragment base_of fragment_of origin_text origin_of has_same_base is_rewritable events_of each_event after_opening AtEachEvent is_numbered opens is_formed is_once is_caused is_queued is_ordered is_checked ends_settled loads_end ends_told ends_stepped goes_in_time
stay_suits = record { opened = refl; placed = refl; kept = refl }

-- The user leaves a page with unsaved edits.
abbrev pub leave : List Event
leave =
    before 17 stay
    ++ by_ui (rows.Answered (r 3) false) (sent 5 1 0 2 (whys.Req (r 3)) tasks.Freeze ∷ sent 6 1 0 1 (whys.Req (r 3)) (tasks.Activate (e 0 1) (epoch 3) 2 0 None (codes "http://a.test/")) ∷ [])
    ∷ by_proc 1 (rows.Taken (p 1) (j 5) true true) []
    ∷ by_proc 1 (rows.Finished (p 1) (j 5) outcomes.Frozen) []
    ∷ by_coord (rows.Delivered (p 1)) []
    ∷ by_proc 1 (rows.Taken (p 1) (j 6) true false) []
    ∷ by_proc 1 (rows.Finished (p 1) (j 6) outcomes.Activated) []
    ∷ by_coord (rows.Delivered (p 1)) (rows.Applied (r 3) (changes.Traverse (t 0)) ∷ [])
    ∷ []

abbrev pub leave_header : Header
leave_header = record { keep = 3; sites = []; pages = record { base = codes "http://a.test/1"; slot = 0 } ∷ []; first = codes "http://a.test/" }

pub leave_is_legal : IsLegal (log_of leave)
unfolding url_on_literals is_web is_blank_url judged judged_parse read_against address_of url_of resolved with_fragment base_of fragment_of origin_text origin_of has_same_base is_rewritable events_of each_event after_opening AtEachEvent is_numbered opens is_formed is_once is_caused is_queued is_ordered is_checked ends_settled loads_end ends_told ends_stepped goes_in_time
leave_is_legal = record { opened = refl; numbered = refl; formed = refl; once = refl; caused = refl; queued = refl; ordered = refl; checked = refl; settled = refl }

pub leave_ends_loads : LoadsEndInTime (log_of leave)
unfolding url_on_literals is_web is_blank_url judged judged_parse read_against address_of url_of resolved with_fragment base_of fragment_of origin_text origin_of has_same_base is_rewritable events_of each_event after_opening AtEachEvent is_numbered opens is_formed is_once is_caused is_queued is_ordered is_checked ends_settled loads_end ends_told ends_stepped goes_in_time
leave_ends_loads = refl

pub leave_acts_at_once : ActsAtOnce (log_of leave)
unfolding url_on_literals is_web is_blank_url judged judged_parse read_against address_of url_of resolved with_fragment base_of fragment_of origin_text origin_of has_same_base is_rewritable events_of each_event after_opening AtEachEvent is_numbered opens is_formed is_once is_caused is_queued is_ordered is_checked ends_settled loads_end ends_told ends_stepped goes_in_time
leave_acts_at_once = record { told = refl; stepped = refl; in_time = refl }

pub leave_suits : Suits leave_header (log_of leave)
unfolding url_on_literals is_web is_blank_url judged judged_parse read_against address_of url_of resolved with_fragment base_of fragment_of origin_text origin_of has_same_base is_rewritable events_of each_event after_opening AtEachEvent is_numbered opens is_formed is_once is_caused is_queued is_ordered is_checked ends_settled loads_end ends_told ends_stepped goes_in_time
leave_suits = record { opened = refl; placed = refl; kept = refl }

-- Two documents want a prompt, and the user is asked once.
abbrev pub one_prompt_for_two : List Event
one_prompt_for_two =
    before 3 no_document_kept
    ++ by_proc 1 (rows.Finished (p 1) (j 1) (outcomes.Populated (Some 1))) []
    ∷ by_coord (rows.Delivered (p 1)) (rows.Applied (r 1) (changes.Push (n 0) (e 0 2) (s 2) (codes "http://a.test/1") None) ∷ sent 2 1 0 1 (whys.Req (r 1)) tasks.Freeze ∷ sent 3 1 0 2 (whys.Req (r 1)) (tasks.Activate (e 0 2) (epoch 2) 2 1 None (codes "http://a.test/1")) ∷ [])
    ∷ by_proc 1 (rows.Taken (p 1) (j 2) true false) []
    ∷ by_proc 1 (rows.Finished (p 1) (j 2) outcomes.Frozen) []
    ∷ by_coord (rows.Delivered (p 1)) []
    ∷ by_proc 1 (rows.Taken (p 1) (j 3) true false) []
    ∷ by_proc 1 (rows.Finished (p 1) (j 3) outcomes.Activated) []
    ∷ by_coord (rows.Delivered (p 1)) []
    ∷ by_ui (rows.Accepted (r 2) (Some (d 2)) (requests.Poke (n 0) (actions.AddFrame (n 1)))) []
    ∷ by_proc 1 (made 1 2 2 2 (whats.AddFrame (n 1))) []
    ∷ by_coord (rows.Delivered (p 1)) (rows.Applied (r 2) (changes.AddFrame (s 2) (n 1) (e 0 3) (s 3)) ∷ sent 4 1 0 3 (whys.Req (r 2)) (tasks.Populate (n 1) (s 3) (codes "about:blank") true) ∷ [])
    ∷ by_proc 1 (rows.Taken (p 1) (j 4) true false) []
    ∷ by_proc 1 (rows.Finished (p 1) (j 4) (outcomes.Populated None)) []
    ∷ by_coord (rows.Delivered (p 1)) (sent 5 1 0 3 (whys.Req (r 2)) (tasks.Activate (e 0 3) (epoch 1) 2 1 None (codes "about:blank")) ∷ [])
    ∷ by_proc 1 (rows.Taken (p 1) (j 5) true false) []
    ∷ by_proc 1 (rows.Finished (p 1) (j 5) outcomes.Activated) []
    ∷ by_coord (rows.Delivered (p 1)) []
    ∷ by_ui (rows.Accepted (r 3) None (requests.Load (n 1) modes.Auto (codes "http://a.test/f"))) (rows.Started (r 3) None ∷ sent 6 1 0 4 (whys.Req (r 3)) (tasks.Populate (n 1) (s 4) (codes "http://a.test/f") false) ∷ [])
    ∷ by_proc 1 (rows.Taken (p 1) (j 6) true false) []
    ∷ by_proc 1 (rows.Finished (p 1) (j 6) (outcomes.Populated (Some 1))) []
    ∷ by_coord (rows.Delivered (p 1)) (rows.Applied (r 3) (changes.Replace (n 1) (e 0 3) (e 0 4) (s 4) (codes "http://a.test/f") None) ∷ sent 7 1 0 3 (whys.Req (r 3)) tasks.Discard ∷ sent 8 1 0 4 (whys.Req (r 3)) (tasks.Activate (e 0 4) (epoch 2) 2 1 None (codes "http://a.test/f")) ∷ [])
    ∷ by_proc 1 (rows.Taken (p 1) (j 7) true false) []
    ∷ by_proc 1 (rows.Finished (p 1) (j 7) outcomes.Discarded) []
    ∷ by_coord (rows.Delivered (p 1)) []
    ∷ by_proc 1 (rows.Taken (p 1) (j 8) true false) []
    ∷ by_proc 1 (rows.Finished (p 1) (j 8) outcomes.Activated) []
    ∷ by_coord (rows.Delivered (p 1)) []
    ∷ by_ui (rows.Accepted (r 4) None (requests.Go (negsuc 0))) (rows.Started (r 4) (Some (t 0)) ∷ sent 9 1 0 2 (whys.Req (r 4)) (tasks.Ask 1 leavings.Traverse) ∷ sent 10 1 0 4 (whys.Req (r 4)) (tasks.Ask 1 leavings.Traverse) ∷ [])
    ∷ by_proc 1 (rows.Taken (p 1) (j 9) true false) []
    ∷ by_proc 1 (rows.Finished (p 1) (j 9) (outcomes.Asked verdicts.Prompt)) []
    ∷ by_coord (rows.Delivered (p 1)) []
    ∷ by_proc 1 (rows.Taken (p 1) (j 10) true false) []
    ∷ by_proc 1 (rows.Finished (p 1) (j 10) (outcomes.Asked verdicts.Prompt)) []
    ∷ by_coord (rows.Delivered (p 1)) (rows.Prompted (r 4) (d 2) ∷ [])
    ∷ by_ui (rows.Answered (r 4) false) (sent 11 1 0 2 (whys.Req (r 4)) tasks.Freeze ∷ sent 12 1 0 4 (whys.Req (r 4)) tasks.Freeze ∷ sent 13 1 0 1 (whys.Req (r 4)) (tasks.Activate (e 0 1) (epoch 3) 2 0 None (codes "http://a.test/")) ∷ [])
    ∷ by_proc 1 (rows.Taken (p 1) (j 11) true false) []
    ∷ by_proc 1 (rows.Finished (p 1) (j 11) outcomes.Frozen) []
    ∷ by_coord (rows.Delivered (p 1)) []
    ∷ by_proc 1 (rows.Taken (p 1) (j 12) true false) []
    ∷ by_proc 1 (rows.Finished (p 1) (j 12) outcomes.Frozen) []
    ∷ by_coord (rows.Delivered (p 1)) []
    ∷ by_proc 1 (rows.Taken (p 1) (j 13) true false) []
    ∷ by_proc 1 (rows.Finished (p 1) (j 13) outcomes.Activated) []
    ∷ by_coord (rows.Delivered (p 1)) (rows.Applied (r 4) (changes.Traverse (t 0)) ∷ [])
    ∷ []

abbrev pub one_prompt_for_two_header : Header
one_prompt_for_two_header = record { keep = 3; sites = []; pages = record { base = codes "http://a.test/1"; slot = 1 } ∷ record { base = codes "http://a.test/f"; slot = 1 } ∷ []; first = codes "http://a.test/" }

pub one_prompt_for_two_is_legal : IsLegal (log_of one_prompt_for_two)
unfolding url_on_literals is_web is_blank_url judged judged_parse read_against address_of url_of resolved with_fragment base_of fragment_of origin_text origin_of has_same_base is_rewritable events_of each_event after_opening AtEachEvent is_numbered opens is_formed is_once is_caused is_queued is_ordered is_checked ends_settled loads_end ends_told ends_stepped goes_in_time
one_prompt_for_two_is_legal = record { opened = refl; numbered = refl; formed = refl; once = refl; caused = refl; queued = refl; ordered = refl; checked = refl; settled = refl }

pub one_prompt_for_two_ends_loads : LoadsEndInTime (log_of one_prompt_for_two)
unfolding url_on_literals is_web is_blank_url judged judged_parse read_against address_of url_of resolved with_fragment base_of fragment_of origin_text origin_of has_same_base is_rewritable events_of each_event after_opening AtEachEvent is_numbered opens is_formed is_once is_caused is_queued is_ordered is_checked ends_settled loads_end ends_told ends_stepped goes_in_time
one_prompt_for_two_ends_loads = refl

pub one_prompt_for_two_acts_at_once : ActsAtOnce (log_of one_prompt_for_two)
unfolding url_on_literals is_web is_blank_url judged judged_parse read_against address_of url_of resolved with_fragment base_of fragment_of origin_text origin_of has_same_base is_rewritable events_of each_event after_opening AtEachEvent is_numbered opens is_formed is_once is_caused is_queued is_ordered is_checked ends_settled loads_end ends_told ends_stepped goes_in_time
one_prompt_for_two_acts_at_once = record { told = refl; stepped = refl; in_time = refl }

pub one_prompt_for_two_suits : Suits one_prompt_for_two_header (log_of one_prompt_for_two)
unfolding url_on_literals is_web is_blank_url judged judged_parse read_against address_of url_of resolved with_fragment base_of fragment_of origin_text origin_of has_same_base is_rewritable events_of each_event after_opening AtEachEvent is_numbered opens is_formed is_once is_caused is_queued is_ordered is_checked ends_settled loads_end ends_told ends_stepped goes_in_time
one_prompt_for_two_suits = record { opened = refl; placed = refl; kept = refl }

-- A load of a frame that was added while a prompt is up.
abbrev pub load_behind_a_prompt : List Event
load_behind_a_prompt =
    before 3 push_over_a_kept_document
    ++ by_proc 1 (rows.Finished (p 1) (j 1) (outcomes.Populated (Some 1))) []
    ∷ by_coord (rows.Delivered (p 1)) (rows.Applied (r 1) (changes.Push (n 0) (e 0 2) (s 2) (codes "http://a.test/p1") None) ∷ sent 2 1 0 1 (whys.Req (r 1)) tasks.Freeze ∷ sent 3 1 0 2 (whys.Req (r 1)) (tasks.Activate (e 0 2) (epoch 2) 2 1 None (codes "http://a.test/p1")) ∷ [])
    ∷ by_proc 1 (rows.Taken (p 1) (j 2) true false) []
    ∷ by_proc 1 (rows.Finished (p 1) (j 2) outcomes.Frozen) []
    ∷ by_coord (rows.Delivered (p 1)) []
    ∷ by_proc 1 (rows.Taken (p 1) (j 3) true false) []
    ∷ by_proc 1 (rows.Finished (p 1) (j 3) outcomes.Activated) []
    ∷ by_coord (rows.Delivered (p 1)) []
    ∷ by_ui (rows.Accepted (r 2) (Some (d 2)) (requests.Poke (n 0) (actions.AddFrame (n 1)))) []
    ∷ by_ui (rows.Accepted (r 3) None (requests.Go (negsuc 0))) (rows.Started (r 3) (Some (t 0)) ∷ sent 4 1 0 2 (whys.Req (r 3)) (tasks.Ask 1 leavings.Traverse) ∷ [])
    ∷ by_proc 1 (made 1 2 2 2 (whats.AddFrame (n 1))) []
    ∷ by_coord (rows.Delivered (p 1)) (rows.Applied (r 2) (changes.AddFrame (s 2) (n 1) (e 0 3) (s 3)) ∷ sent 5 1 0 3 (whys.Req (r 2)) (tasks.Populate (n 1) (s 3) (codes "about:blank") true) ∷ [])
    ∷ by_proc 1 (rows.Taken (p 1) (j 4) true false) []
    ∷ by_proc 1 (rows.Finished (p 1) (j 4) (outcomes.Asked verdicts.Prompt)) []
    ∷ by_proc 1 (rows.Taken (p 1) (j 5) true false) []
    ∷ by_proc 1 (rows.Finished (p 1) (j 5) (outcomes.Populated None)) []
    ∷ by_coord (rows.Delivered (p 1)) (rows.Prompted (r 3) (d 2) ∷ [])
    ∷ by_coord (rows.Delivered (p 1)) (sent 6 1 0 3 (whys.Req (r 2)) (tasks.Activate (e 0 3) (epoch 1) 2 1 None (codes "about:blank")) ∷ [])
    ∷ by_ui (rows.Accepted (r 4) None (requests.Load (n 1) modes.Auto (codes "http://a.test/p2"))) (rows.Dropped (r 4) (drops.By (r 2)) ∷ [])
    ∷ by_proc 1 (rows.Taken (p 1) (j 6) true false) []
    ∷ by_proc 1 (rows.Finished (p 1) (j 6) outcomes.Activated) []
    ∷ by_coord (rows.Delivered (p 1)) []
    ∷ by_ui (rows.Answered (r 3) true) (rows.Dropped (r 3) drops.Stay ∷ [])
    ∷ []

abbrev pub load_behind_a_prompt_header : Header
load_behind_a_prompt_header = record { keep = 3; sites = []; pages = record { base = codes "http://a.test/p1"; slot = 1 } ∷ []; first = codes "http://a.test/" }

pub load_behind_a_prompt_is_legal : IsLegal (log_of load_behind_a_prompt)
unfolding url_on_literals is_web is_blank_url judged judged_parse read_against address_of url_of resolved with_fragment base_of fragment_of origin_text origin_of has_same_base is_rewritable events_of each_event after_opening AtEachEvent is_numbered opens is_formed is_once is_caused is_queued is_ordered is_checked ends_settled loads_end ends_told ends_stepped goes_in_time
load_behind_a_prompt_is_legal = record { opened = refl; numbered = refl; formed = refl; once = refl; caused = refl; queued = refl; ordered = refl; checked = refl; settled = refl }

pub load_behind_a_prompt_ends_loads : LoadsEndInTime (log_of load_behind_a_prompt)
unfolding url_on_literals is_web is_blank_url judged judged_parse read_against address_of url_of resolved with_fragment base_of fragment_of origin_text origin_of has_same_base is_rewritable events_of each_event after_opening AtEachEvent is_numbered opens is_formed is_once is_caused is_queued is_ordered is_checked ends_settled loads_end ends_told ends_stepped goes_in_time
load_behind_a_prompt_ends_loads = refl

pub load_behind_a_prompt_acts_at_once : ActsAtOnce (log_of load_behind_a_prompt)
unfolding url_on_literals is_web is_blank_url judged judged_parse read_against address_of url_of resolved with_fragment base_of fragment_of origin_text origin_of has_same_base is_rewritable events_of each_event after_opening AtEachEvent is_numbered opens is_formed is_once is_caused is_queued is_ordered is_checked ends_settled loads_end ends_told ends_stepped goes_in_time
load_behind_a_prompt_acts_at_once = record { told = refl; stepped = refl; in_time = refl }

pub load_behind_a_prompt_suits : Suits load_behind_a_prompt_header (log_of load_behind_a_prompt)
unfolding url_on_literals is_web is_blank_url judged judged_parse read_against address_of url_of resolved with_fragment base_of fragment_of origin_text origin_of has_same_base is_rewritable events_of each_event after_opening AtEachEvent is_numbered opens is_formed is_once is_caused is_queued is_ordered is_checked ends_settled loads_end ends_told ends_stepped goes_in_time
load_behind_a_prompt_suits = record { opened = refl; placed = refl; kept = refl }

-- A question is settled as its document is discarded.
abbrev pub question_settled_by_a_discard : List Event
question_settled_by_a_discard =
    before 5 push_beside_a_frame
    ++ by_proc 1 (rows.Finished (p 1) (j 1) (outcomes.Populated (Some 1))) []
    ∷ by_coord (rows.Delivered (p 1)) (sent 2 1 0 2 (whys.Req (r 1)) (tasks.Activate (e 0 2) (epoch 1) 1 0 None (codes "about:blank")) ∷ [])
    ∷ by_proc 1 (rows.Taken (p 1) (j 2) true false) []
    ∷ by_proc 1 (rows.Finished (p 1) (j 2) outcomes.Activated) []
    ∷ by_coord (rows.Delivered (p 1)) []
    ∷ by_ui (rows.Accepted (r 2) (Some (d 2)) (requests.Poke (n 1) (actions.AddFrame (n 3)))) []
    ∷ by_proc 1 (made 1 2 2 1 (whats.AddFrame (n 3))) []
    ∷ by_coord (rows.Delivered (p 1)) (rows.Applied (r 2) (changes.AddFrame (s 2) (n 3) (e 0 3) (s 3)) ∷ sent 3 1 0 3 (whys.Req (r 2)) (tasks.Populate (n 3) (s 3) (codes "about:blank") true) ∷ [])
    ∷ by_proc 1 (rows.Taken (p 1) (j 3) true false) []
    ∷ by_proc 1 (rows.Finished (p 1) (j 3) (outcomes.Populated (Some 1))) []
    ∷ by_coord (rows.Delivered (p 1)) (sent 4 1 0 3 (whys.Req (r 2)) (tasks.Activate (e 0 3) (epoch 1) 1 0 None (codes "about:blank")) ∷ [])
    ∷ by_proc 1 (rows.Taken (p 1) (j 4) true false) []
    ∷ by_proc 1 (rows.Finished (p 1) (j 4) outcomes.Activated) []
    ∷ by_coord (rows.Delivered (p 1)) []
    ∷ by_ui (rows.Accepted (r 3) None (requests.Load (n 3) modes.Auto (codes "http://b.test/p0"))) (rows.Started (r 3) None ∷ sent 5 1 0 3 (whys.Req (r 3)) (tasks.Ask 1 leavings.Load) ∷ [])
    ∷ by_proc 1 (rows.Taken (p 1) (j 5) true false) []
    ∷ by_proc 1 (rows.Finished (p 1) (j 5) (outcomes.Asked verdicts.Prompt)) []
    ∷ by_coord (rows.Delivered (p 1)) (rows.Prompted (r 3) (d 3) ∷ [])
    ∷ by_ui (rows.Answered (r 3) false) (sent 6 2 0 4 (whys.Req (r 3)) (tasks.Populate (n 3) (s 4) (codes "http://b.test/p0") false) ∷ [])
    ∷ by_proc 2 (rows.Taken (p 2) (j 6) true false) []
    ∷ by_proc 2 (rows.Finished (p 2) (j 6) (outcomes.Populated (Some 1))) []
    ∷ by_coord (rows.Delivered (p 2)) (rows.Applied (r 3) (changes.Replace (n 3) (e 0 3) (e 0 4) (s 4) (codes "http://b.test/p0") None) ∷ sent 7 1 0 3 (whys.Req (r 3)) tasks.Discard ∷ sent 8 2 0 4 (whys.Req (r 3)) (tasks.Activate (e 0 4) (epoch 2) 1 0 None (codes "http://b.test/p0")) ∷ [])
    ∷ by_proc 1 (rows.Taken (p 1) (j 7) true false) []
    ∷ by_proc 1 (rows.Finished (p 1) (j 7) outcomes.Discarded) []
    ∷ by_coord (rows.Delivered (p 1)) []
    ∷ by_proc 2 (rows.Taken (p 2) (j 8) true false) []
    ∷ by_proc 2 (rows.Finished (p 2) (j 8) outcomes.Activated) []
    ∷ by_coord (rows.Delivered (p 2)) []
    ∷ by_ui (rows.Accepted (r 4) None (requests.Load (n 1) modes.Auto (codes "http://b.test/p0"))) (rows.Started (r 4) None ∷ sent 9 1 0 2 (whys.Req (r 4)) (tasks.Ask 1 leavings.Load) ∷ sent 10 2 0 4 (whys.Req (r 4)) (tasks.Ask 1 leavings.Load) ∷ [])
    ∷ by_ui (rows.Accepted (r 5) (Some (d 1)) (requests.Poke (n 0) (actions.RemoveFrame (n 1)))) []
    ∷ by_proc 1 (made 1 5 1 1 (whats.RemoveFrame (n 1))) []
    ∷ by_proc 2 (rows.Taken (p 2) (j 10) true false) []
    ∷ by_proc 2 (rows.Finished (p 2) (j 10) (outcomes.Asked verdicts.Prompt)) []
    ∷ by_coord (rows.Delivered (p 2)) []
    ∷ by_coord (rows.Delivered (p 1)) (rows.Applied (r 5) (changes.RemoveFrame (n 1)) ∷ sent 11 1 0 2 (whys.Req (r 5)) tasks.Discard ∷ sent 12 2 0 4 (whys.Req (r 5)) tasks.Discard ∷ rows.Dropped (r 4) (drops.Destroyed (r 5)) ∷ [])
    ∷ by_proc 1 (rows.Taken (p 1) (j 9) true false) []
    ∷ by_proc 1 (rows.Finished (p 1) (j 9) (outcomes.Asked verdicts.Prompt)) []
    ∷ by_coord (rows.Delivered (p 1)) []
    ∷ by_proc 2 (rows.Taken (p 2) (j 12) true false) []
    ∷ by_proc 2 (rows.Finished (p 2) (j 12) outcomes.Discarded) []
    ∷ by_coord (rows.Delivered (p 2)) []
    ∷ by_proc 1 (rows.Taken (p 1) (j 11) true false) []
    ∷ by_proc 1 (rows.Finished (p 1) (j 11) outcomes.Discarded) []
    ∷ by_coord (rows.Delivered (p 1)) []
    ∷ []

abbrev pub question_settled_by_a_discard_header : Header
question_settled_by_a_discard_header = record { keep = 3; sites = record { origin = codes "http://b.test"; proc = p 2 } ∷ []; pages = record { base = codes "http://b.test/p0"; slot = 1 } ∷ record { base = codes "about:blank"; slot = 1 } ∷ []; first = codes "http://a.test/" }

pub question_settled_by_a_discard_is_legal : IsLegal (log_of question_settled_by_a_discard)
unfolding url_on_literals is_web is_blank_url judged judged_parse read_against address_of url_of resolved with_fragment base_of fragment_of origin_text origin_of has_same_base is_rewritable events_of each_event after_opening AtEachEvent is_numbered opens is_formed is_once is_caused is_queued is_ordered is_checked ends_settled loads_end ends_told ends_stepped goes_in_time
question_settled_by_a_discard_is_legal = record { opened = refl; numbered = refl; formed = refl; once = refl; caused = refl; queued = refl; ordered = refl; checked = refl; settled = refl }

pub question_settled_by_a_discard_ends_loads : LoadsEndInTime (log_of question_settled_by_a_discard)
unfolding url_on_literals is_web is_blank_url judged judged_parse read_against address_of url_of resolved with_fragment base_of fragment_of origin_text origin_of has_same_base is_rewritable events_of each_event after_opening AtEachEvent is_numbered opens is_formed is_once is_caused is_queued is_ordered is_checked ends_settled loads_end ends_told ends_stepped goes_in_time
question_settled_by_a_discard_ends_loads = refl

pub question_settled_by_a_discard_acts_at_once : ActsAtOnce (log_of question_settled_by_a_discard)
unfolding url_on_literals is_web is_blank_url judged judged_parse read_against address_of url_of resolved with_fragment base_of fragment_of origin_text origin_of has_same_base is_rewritable events_of each_event after_opening AtEachEvent is_numbered opens is_formed is_once is_caused is_queued is_ordered is_checked ends_settled loads_end ends_told ends_stepped goes_in_time
question_settled_by_a_discard_acts_at_once = record { told = refl; stepped = refl; in_time = refl }

pub question_settled_by_a_discard_suits : Suits question_settled_by_a_discard_header (log_of question_settled_by_a_discard)
unfolding url_on_literals is_web is_blank_url judged judged_parse read_against address_of url_of resolved with_fragment base_of fragment_of origin_text origin_of has_same_base is_rewritable events_of each_event after_opening AtEachEvent is_numbered opens is_formed is_once is_caused is_queued is_ordered is_checked ends_settled loads_end ends_told ends_stepped goes_in_time
question_settled_by_a_discard_suits = record { opened = refl; placed = refl; kept = refl }

-- A document that wanted a prompt is discarded before the user is asked.
abbrev pub wish_of_a_discarded_document : List Event
wish_of_a_discarded_document =
    before 10 push_beside_a_frame
    ++ by_ui (rows.Accepted (r 2) None (requests.Load (n 1) modes.Auto (codes "http://b.test/p0"))) (rows.Started (r 2) None ∷ sent 3 1 0 3 (whys.Req (r 2)) (tasks.Populate (n 1) (s 3) (codes "http://b.test/p0") false) ∷ [])
    ∷ by_ui (rows.Accepted (r 3) (Some (d 1)) (requests.Poke (n 0) (actions.AddFrame (n 3)))) []
    ∷ by_proc 1 (made 1 3 1 1 (whats.AddFrame (n 3))) []
    ∷ by_proc 1 (rows.Taken (p 1) (j 3) true false) []
    ∷ by_proc 1 (rows.Finished (p 1) (j 3) (outcomes.Populated None)) []
    ∷ by_coord (rows.Delivered (p 1)) (rows.Applied (r 3) (changes.AddFrame (s 1) (n 3) (e 0 3) (s 4)) ∷ sent 4 1 0 4 (whys.Req (r 3)) (tasks.Populate (n 3) (s 4) (codes "about:blank") true) ∷ [])
    ∷ by_proc 1 (rows.Taken (p 1) (j 4) true false) []
    ∷ by_proc 1 (rows.Finished (p 1) (j 4) (outcomes.Populated None)) []
    ∷ by_coord (rows.Delivered (p 1)) []
    ∷ by_coord (rows.Delivered (p 1)) (sent 5 1 0 4 (whys.Req (r 3)) (tasks.Activate (e 0 3) (epoch 1) 1 0 None (codes "about:blank")) ∷ [])
    ∷ by_proc 1 (rows.Taken (p 1) (j 5) true false) []
    ∷ by_proc 1 (rows.Finished (p 1) (j 5) outcomes.Activated) []
    ∷ by_coord (rows.Delivered (p 1)) (rows.Applied (r 2) (changes.Replace (n 1) (e 0 2) (e 0 4) (s 3) (codes "http://b.test/p0") None) ∷ sent 6 1 0 2 (whys.Req (r 2)) tasks.Discard ∷ sent 7 1 0 3 (whys.Req (r 2)) (tasks.Activate (e 0 4) (epoch 2) 1 0 None (codes "http://b.test/p0")) ∷ [])
    ∷ by_proc 1 (rows.Taken (p 1) (j 6) true false) []
    ∷ by_proc 1 (rows.Finished (p 1) (j 6) outcomes.Discarded) []
    ∷ by_coord (rows.Delivered (p 1)) []
    ∷ by_proc 1 (rows.Taken (p 1) (j 7) true false) []
    ∷ by_proc 1 (rows.Finished (p 1) (j 7) outcomes.Activated) []
    ∷ by_coord (rows.Delivered (p 1)) []
    ∷ by_ui (rows.Accepted (r 4) None (requests.Load (n 3) modes.Auto (codes "http://b.test/p0"))) (rows.Started (r 4) None ∷ sent 8 1 0 5 (whys.Req (r 4)) (tasks.Populate (n 3) (s 5) (codes "http://b.test/p0") false) ∷ [])
    ∷ by_proc 1 (rows.Taken (p 1) (j 8) true false) []
    ∷ by_proc 1 (rows.Finished (p 1) (j 8) (outcomes.Populated None)) []
    ∷ by_coord (rows.Delivered (p 1)) (rows.Applied (r 4) (changes.Replace (n 3) (e 0 3) (e 0 5) (s 5) (codes "http://b.test/p0") None) ∷ sent 9 1 0 4 (whys.Req (r 4)) tasks.Discard ∷ sent 10 1 0 5 (whys.Req (r 4)) (tasks.Activate (e 0 5) (epoch 2) 1 0 None (codes "http://b.test/p0")) ∷ [])
    ∷ by_proc 1 (rows.Taken (p 1) (j 9) true false) []
    ∷ by_proc 1 (rows.Finished (p 1) (j 9) outcomes.Discarded) []
    ∷ by_coord (rows.Delivered (p 1)) []
    ∷ by_proc 1 (rows.Taken (p 1) (j 10) true false) []
    ∷ by_proc 1 (rows.Finished (p 1) (j 10) outcomes.Activated) []
    ∷ by_coord (rows.Delivered (p 1)) []
    ∷ by_ui (rows.Accepted (r 5) None (requests.Load (n 3) modes.Auto (codes "http://a.test/p0"))) (rows.Started (r 5) None ∷ sent 11 1 0 6 (whys.Req (r 5)) (tasks.Populate (n 3) (s 6) (codes "http://a.test/p0") false) ∷ [])
    ∷ by_proc 1 (rows.Taken (p 1) (j 11) true false) []
    ∷ by_proc 1 (rows.Finished (p 1) (j 11) (outcomes.Populated (Some 0))) []
    ∷ by_coord (rows.Delivered (p 1)) (rows.Applied (r 5) (changes.Push (n 3) (e 0 6) (s 6) (codes "http://a.test/p0") None) ∷ sent 12 1 0 5 (whys.Req (r 5)) tasks.Freeze ∷ sent 13 1 0 6 (whys.Req (r 5)) (tasks.Activate (e 0 6) (epoch 3) 2 1 None (codes "http://a.test/p0")) ∷ sent 14 1 0 1 (whys.Req (r 5)) (tasks.Update 2 1) ∷ sent 15 1 0 3 (whys.Req (r 5)) (tasks.Update 2 1) ∷ [])
    ∷ by_proc 1 (rows.Taken (p 1) (j 12) true false) []
    ∷ by_proc 1 (rows.Finished (p 1) (j 12) outcomes.Frozen) []
    ∷ by_coord (rows.Delivered (p 1)) []
    ∷ by_proc 1 (rows.Taken (p 1) (j 13) true false) []
    ∷ by_proc 1 (rows.Finished (p 1) (j 13) outcomes.Activated) []
    ∷ by_coord (rows.Delivered (p 1)) []
    ∷ by_proc 1 (rows.Taken (p 1) (j 14) true false) []
    ∷ by_proc 1 (rows.Finished (p 1) (j 14) outcomes.Updated) []
    ∷ by_coord (rows.Delivered (p 1)) []
    ∷ by_proc 1 (rows.Taken (p 1) (j 15) true false) []
    ∷ by_proc 1 (rows.Finished (p 1) (j 15) outcomes.Updated) []
    ∷ by_coord (rows.Delivered (p 1)) []
    ∷ by_ui (rows.Accepted (r 6) None (requests.Load (n 1) modes.Auto (codes "http://c.test/p1"))) (rows.Started (r 6) None ∷ sent 16 3 0 7 (whys.Req (r 6)) (tasks.Populate (n 1) (s 7) (codes "http://c.test/p1") false) ∷ [])
    ∷ by_proc 3 (rows.Taken (p 3) (j 16) true false) []
    ∷ by_proc 3 (rows.Finished (p 3) (j 16) (outcomes.Populated (Some 1))) []
    ∷ by_coord (rows.Delivered (p 3)) (rows.Applied (r 6) (changes.Push (n 1) (e 0 7) (s 7) (codes "http://c.test/p1") None) ∷ sent 17 1 0 3 (whys.Req (r 6)) tasks.Freeze ∷ sent 18 3 0 7 (whys.Req (r 6)) (tasks.Activate (e 0 7) (epoch 3) 3 2 None (codes "http://c.test/p1")) ∷ sent 19 1 0 1 (whys.Req (r 6)) (tasks.Update 3 2) ∷ sent 20 1 0 6 (whys.Req (r 6)) (tasks.Update 3 2) ∷ [])
    ∷ by_proc 1 (rows.Taken (p 1) (j 17) true false) []
    ∷ by_proc 1 (rows.Finished (p 1) (j 17) outcomes.Frozen) []
    ∷ by_coord (rows.Delivered (p 1)) []
    ∷ by_proc 3 (rows.Taken (p 3) (j 18) true false) []
    ∷ by_proc 3 (rows.Finished (p 3) (j 18) outcomes.Activated) []
    ∷ by_coord (rows.Delivered (p 3)) []
    ∷ by_proc 1 (rows.Taken (p 1) (j 19) true false) []
    ∷ by_proc 1 (rows.Finished (p 1) (j 19) outcomes.Updated) []
    ∷ by_coord (rows.Delivered (p 1)) []
    ∷ by_proc 1 (rows.Taken (p 1) (j 20) true false) []
    ∷ by_proc 1 (rows.Finished (p 1) (j 20) outcomes.Updated) []
    ∷ by_coord (rows.Delivered (p 1)) []
    ∷ by_ui (rows.Accepted (r 7) None (requests.Go (negsuc 1))) (rows.Started (r 7) (Some (t 0)) ∷ sent 21 3 0 7 (whys.Req (r 7)) (tasks.Ask 1 leavings.Traverse) ∷ sent 22 1 0 6 (whys.Req (r 7)) (tasks.Ask 0 leavings.Traverse) ∷ [])
    ∷ by_ui (rows.Accepted (r 8) (Some (d 1)) (requests.Poke (n 0) (actions.RemoveFrame (n 2)))) []
    ∷ by_ui (rows.Accepted (r 9) (Some (d 1)) (requests.Poke (n 0) (actions.RemoveFrame (n 1)))) []
    ∷ by_proc 1 (made 1 8 1 1 (whats.RemoveFrame (n 2))) []
    ∷ by_proc 1 (made 1 9 1 1 (whats.RemoveFrame (n 1))) []
    ∷ by_proc 1 (rows.Taken (p 1) (j 22) true false) []
    ∷ by_proc 1 (rows.Finished (p 1) (j 22) (outcomes.Asked verdicts.Leave)) []
    ∷ by_coord (rows.Delivered (p 1)) (rows.Refused (r 8) denials.NoNavigable ∷ [])
    ∷ by_proc 3 (rows.Taken (p 3) (j 21) true false) []
    ∷ by_proc 3 (rows.Finished (p 3) (j 21) (outcomes.Asked verdicts.Prompt)) []
    ∷ by_coord (rows.Delivered (p 3)) []
    ∷ by_coord (rows.Delivered (p 1)) (rows.Applied (r 9) (changes.RemoveFrame (n 1)) ∷ sent 23 1 0 3 (whys.Req (r 9)) tasks.Discard ∷ sent 24 3 0 7 (whys.Req (r 9)) tasks.Discard ∷ sent 25 1 0 1 (whys.Req (r 9)) (tasks.Update 2 1) ∷ sent 26 1 0 6 (whys.Req (r 9)) (tasks.Update 2 1) ∷ [])
    ∷ by_proc 3 (rows.Taken (p 3) (j 24) true false) []
    ∷ by_proc 3 (rows.Finished (p 3) (j 24) outcomes.Discarded) []
    ∷ by_coord (rows.Delivered (p 3)) []
    ∷ by_proc 1 (rows.Taken (p 1) (j 23) true false) []
    ∷ by_proc 1 (rows.Finished (p 1) (j 23) outcomes.Discarded) []
    ∷ by_coord (rows.Delivered (p 1)) (sent 27 1 0 6 (whys.Req (r 7)) tasks.Freeze ∷ sent 28 1 0 5 (whys.Req (r 7)) (tasks.Activate (e 0 5) (epoch 4) 2 0 None (codes "http://b.test/p0")) ∷ [])
    ∷ by_proc 1 (rows.Taken (p 1) (j 25) true false) []
    ∷ by_proc 1 (rows.Finished (p 1) (j 25) outcomes.Updated) []
    ∷ by_coord (rows.Delivered (p 1)) []
    ∷ by_proc 1 (rows.Taken (p 1) (j 26) true false) []
    ∷ by_proc 1 (rows.Finished (p 1) (j 26) outcomes.Updated) []
    ∷ by_coord (rows.Delivered (p 1)) []
    ∷ by_proc 1 (rows.Taken (p 1) (j 27) true false) []
    ∷ by_proc 1 (rows.Finished (p 1) (j 27) outcomes.Frozen) []
    ∷ by_coord (rows.Delivered (p 1)) []
    ∷ by_proc 1 (rows.Taken (p 1) (j 28) true false) []
    ∷ by_proc 1 (rows.Finished (p 1) (j 28) outcomes.Activated) []
    ∷ by_coord (rows.Delivered (p 1)) []
    ∷ by_coord (rows.Delivered (p 1)) (rows.Applied (r 7) (changes.Traverse (t 0)) ∷ sent 29 1 0 1 (whys.Req (r 7)) (tasks.Update 2 0) ∷ [])
    ∷ by_proc 1 (rows.Taken (p 1) (j 29) true false) []
    ∷ by_proc 1 (rows.Finished (p 1) (j 29) outcomes.Updated) []
    ∷ by_coord (rows.Delivered (p 1)) []
    ∷ []

abbrev pub wish_of_a_discarded_document_header : Header
wish_of_a_discarded_document_header = record { keep = 3; sites = record { origin = codes "http://c.test"; proc = p 3 } ∷ []; pages = record { base = codes "http://a.test/p0"; slot = 0 } ∷ record { base = codes "http://c.test/p1"; slot = 1 } ∷ []; first = codes "http://a.test/" }

pub wish_of_a_discarded_document_is_legal : IsLegal (log_of wish_of_a_discarded_document)
unfolding url_on_literals is_web is_blank_url judged judged_parse read_against address_of url_of resolved with_fragment base_of fragment_of origin_text origin_of has_same_base is_rewritable events_of each_event after_opening AtEachEvent is_numbered opens is_formed is_once is_caused is_queued is_ordered is_checked ends_settled loads_end ends_told ends_stepped goes_in_time
wish_of_a_discarded_document_is_legal = record { opened = refl; numbered = refl; formed = refl; once = refl; caused = refl; queued = refl; ordered = refl; checked = refl; settled = refl }

pub wish_of_a_discarded_document_ends_loads : LoadsEndInTime (log_of wish_of_a_discarded_document)
unfolding url_on_literals is_web is_blank_url judged judged_parse read_against address_of url_of resolved with_fragment base_of fragment_of origin_text origin_of has_same_base is_rewritable events_of each_event after_opening AtEachEvent is_numbered opens is_formed is_once is_caused is_queued is_ordered is_checked ends_settled loads_end ends_told ends_stepped goes_in_time
wish_of_a_discarded_document_ends_loads = refl

pub wish_of_a_discarded_document_acts_at_once : ActsAtOnce (log_of wish_of_a_discarded_document)
unfolding url_on_literals is_web is_blank_url judged judged_parse read_against address_of url_of resolved with_fragment base_of fragment_of origin_text origin_of has_same_base is_rewritable events_of each_event after_opening AtEachEvent is_numbered opens is_formed is_once is_caused is_queued is_ordered is_checked ends_settled loads_end ends_told ends_stepped goes_in_time
wish_of_a_discarded_document_acts_at_once = record { told = refl; stepped = refl; in_time = refl }

pub wish_of_a_discarded_document_suits : Suits wish_of_a_discarded_document_header (log_of wish_of_a_discarded_document)
unfolding url_on_literals is_web is_blank_url judged judged_parse read_against address_of url_of resolved with_fragment base_of fragment_of origin_text origin_of has_same_base is_rewritable events_of each_event after_opening AtEachEvent is_numbered opens is_formed is_once is_caused is_queued is_ordered is_checked ends_settled loads_end ends_told ends_stepped goes_in_time
wish_of_a_discarded_document_suits = record { opened = refl; placed = refl; kept = refl }

-- A load of a page with unsaved edits.
abbrev pub load_behind_an_answer : List Event
load_behind_an_answer =
    before 13 stay
    ++ by_ui (rows.Accepted (r 3) None (requests.Load (n 0) modes.Auto (codes "http://a.test/2"))) (rows.Started (r 3) None ∷ sent 4 1 0 2 (whys.Req (r 3)) (tasks.Ask 0 leavings.Load) ∷ [])
    ∷ by_proc 1 (rows.Taken (p 1) (j 4) true true) []
    ∷ by_proc 1 (rows.Finished (p 1) (j 4) (outcomes.Asked verdicts.Prompt)) []
    ∷ by_coord (rows.Delivered (p 1)) (rows.Prompted (r 3) (d 2) ∷ [])
    ∷ by_ui (rows.Answered (r 3) false) (sent 5 1 0 3 (whys.Req (r 3)) (tasks.Populate (n 0) (s 3) (codes "http://a.test/2") false) ∷ [])
    ∷ by_proc 1 (rows.Taken (p 1) (j 5) true false) []
    ∷ by_proc 1 (rows.Finished (p 1) (j 5) (outcomes.Populated None)) []
    ∷ by_coord (rows.Delivered (p 1)) (rows.Applied (r 3) (changes.Push (n 0) (e 0 3) (s 3) (codes "http://a.test/2") None) ∷ sent 6 1 0 2 (whys.Req (r 3)) tasks.Freeze ∷ sent 7 1 0 3 (whys.Req (r 3)) (tasks.Activate (e 0 3) (epoch 3) 3 2 None (codes "http://a.test/2")) ∷ [])
    ∷ by_proc 1 (rows.Taken (p 1) (j 6) true true) []
    ∷ by_proc 1 (rows.Finished (p 1) (j 6) outcomes.Frozen) []
    ∷ by_coord (rows.Delivered (p 1)) []
    ∷ by_proc 1 (rows.Taken (p 1) (j 7) true false) []
    ∷ by_proc 1 (rows.Finished (p 1) (j 7) outcomes.Activated) []
    ∷ by_coord (rows.Delivered (p 1)) []
    ∷ []

abbrev pub load_behind_an_answer_header : Header
load_behind_an_answer_header = record { keep = 3; sites = []; pages = record { base = codes "http://a.test/1"; slot = 0 } ∷ []; first = codes "http://a.test/" }

pub load_behind_an_answer_is_legal : IsLegal (log_of load_behind_an_answer)
unfolding url_on_literals is_web is_blank_url judged judged_parse read_against address_of url_of resolved with_fragment base_of fragment_of origin_text origin_of has_same_base is_rewritable events_of each_event after_opening AtEachEvent is_numbered opens is_formed is_once is_caused is_queued is_ordered is_checked ends_settled loads_end ends_told ends_stepped goes_in_time
load_behind_an_answer_is_legal = record { opened = refl; numbered = refl; formed = refl; once = refl; caused = refl; queued = refl; ordered = refl; checked = refl; settled = refl }

pub load_behind_an_answer_ends_loads : LoadsEndInTime (log_of load_behind_an_answer)
unfolding url_on_literals is_web is_blank_url judged judged_parse read_against address_of url_of resolved with_fragment base_of fragment_of origin_text origin_of has_same_base is_rewritable events_of each_event after_opening AtEachEvent is_numbered opens is_formed is_once is_caused is_queued is_ordered is_checked ends_settled loads_end ends_told ends_stepped goes_in_time
load_behind_an_answer_ends_loads = refl

pub load_behind_an_answer_acts_at_once : ActsAtOnce (log_of load_behind_an_answer)
unfolding url_on_literals is_web is_blank_url judged judged_parse read_against address_of url_of resolved with_fragment base_of fragment_of origin_text origin_of has_same_base is_rewritable events_of each_event after_opening AtEachEvent is_numbered opens is_formed is_once is_caused is_queued is_ordered is_checked ends_settled loads_end ends_told ends_stepped goes_in_time
load_behind_an_answer_acts_at_once = record { told = refl; stepped = refl; in_time = refl }

pub load_behind_an_answer_suits : Suits load_behind_an_answer_header (log_of load_behind_an_answer)
unfolding url_on_literals is_web is_blank_url judged judged_parse read_against address_of url_of resolved with_fragment base_of fragment_of origin_text origin_of has_same_base is_rewritable events_of each_event after_opening AtEachEvent is_numbered opens is_formed is_once is_caused is_queued is_ordered is_checked ends_settled loads_end ends_told ends_stepped goes_in_time
load_behind_an_answer_suits = record { opened = refl; placed = refl; kept = refl }

-- Frames are asked in the order of their numbers, not in that of their making.
abbrev pub frames_asked_in_order : List Event
frames_asked_in_order =
    by_start (rows.Opened (e 0 1) (s 1) (d 1) (p 1) None (codes "http://a.test/")) []
    ∷ by_ui (rows.Accepted (r 1) (Some (d 1)) (requests.Poke (n 0) (actions.AddFrame (n 2)))) []
    ∷ by_proc 1 (made 1 1 1 1 (whats.AddFrame (n 2))) []
    ∷ by_coord (rows.Delivered (p 1)) (rows.Applied (r 1) (changes.AddFrame (s 1) (n 2) (e 0 2) (s 2)) ∷ sent 1 1 0 2 (whys.Req (r 1)) (tasks.Populate (n 2) (s 2) (codes "about:blank") true) ∷ [])
    ∷ by_proc 1 (rows.Taken (p 1) (j 1) true false) []
    ∷ by_proc 1 (rows.Finished (p 1) (j 1) (outcomes.Populated (Some 1))) []
    ∷ by_coord (rows.Delivered (p 1)) (sent 2 1 0 2 (whys.Req (r 1)) (tasks.Activate (e 0 2) (epoch 1) 1 0 None (codes "about:blank")) ∷ [])
    ∷ by_proc 1 (rows.Taken (p 1) (j 2) true false) []
    ∷ by_proc 1 (rows.Finished (p 1) (j 2) outcomes.Activated) []
    ∷ by_coord (rows.Delivered (p 1)) []
    ∷ by_ui (rows.Accepted (r 2) (Some (d 1)) (requests.Poke (n 0) (actions.AddFrame (n 1)))) []
    ∷ by_proc 1 (made 1 2 1 1 (whats.AddFrame (n 1))) []
    ∷ by_coord (rows.Delivered (p 1)) (rows.Applied (r 2) (changes.AddFrame (s 1) (n 1) (e 0 3) (s 3)) ∷ sent 3 1 0 3 (whys.Req (r 2)) (tasks.Populate (n 1) (s 3) (codes "about:blank") true) ∷ [])
    ∷ by_proc 1 (rows.Taken (p 1) (j 3) true false) []
    ∷ by_proc 1 (rows.Finished (p 1) (j 3) (outcomes.Populated (Some 1))) []
    ∷ by_coord (rows.Delivered (p 1)) (sent 4 1 0 3 (whys.Req (r 2)) (tasks.Activate (e 0 3) (epoch 1) 1 0 None (codes "about:blank")) ∷ [])
    ∷ by_proc 1 (rows.Taken (p 1) (j 4) true false) []
    ∷ by_proc 1 (rows.Finished (p 1) (j 4) outcomes.Activated) []
    ∷ by_coord (rows.Delivered (p 1)) []
    ∷ by_ui (rows.Accepted (r 3) None (requests.Reload (n 0))) (rows.Started (r 3) None ∷ sent 5 1 0 3 (whys.Req (r 3)) (tasks.Ask 1 leavings.Reload) ∷ sent 6 1 0 2 (whys.Req (r 3)) (tasks.Ask 1 leavings.Reload) ∷ [])
    ∷ by_proc 1 (rows.Taken (p 1) (j 5) true false) []
    ∷ by_proc 1 (rows.Finished (p 1) (j 5) (outcomes.Asked verdicts.Prompt)) []
    ∷ by_coord (rows.Delivered (p 1)) []
    ∷ by_proc 1 (rows.Taken (p 1) (j 6) true false) []
    ∷ by_proc 1 (rows.Finished (p 1) (j 6) (outcomes.Asked verdicts.Prompt)) []
    ∷ by_coord (rows.Delivered (p 1)) (rows.Prompted (r 3) (d 2) ∷ [])
    ∷ []

abbrev pub frames_asked_in_order_header : Header
frames_asked_in_order_header = record { keep = 3; sites = []; pages = record { base = codes "about:blank"; slot = 1 } ∷ []; first = codes "http://a.test/" }

pub frames_asked_in_order_is_legal : IsLegal (log_of frames_asked_in_order)
unfolding url_on_literals is_web is_blank_url judged judged_parse read_against address_of url_of resolved with_fragment base_of fragment_of origin_text origin_of has_same_base is_rewritable events_of each_event after_opening AtEachEvent is_numbered opens is_formed is_once is_caused is_queued is_ordered is_checked ends_settled loads_end ends_told ends_stepped goes_in_time
frames_asked_in_order_is_legal = record { opened = refl; numbered = refl; formed = refl; once = refl; caused = refl; queued = refl; ordered = refl; checked = refl; settled = refl }

pub frames_asked_in_order_ends_loads : LoadsEndInTime (log_of frames_asked_in_order)
unfolding url_on_literals is_web is_blank_url judged judged_parse read_against address_of url_of resolved with_fragment base_of fragment_of origin_text origin_of has_same_base is_rewritable events_of each_event after_opening AtEachEvent is_numbered opens is_formed is_once is_caused is_queued is_ordered is_checked ends_settled loads_end ends_told ends_stepped goes_in_time
frames_asked_in_order_ends_loads = refl

pub frames_asked_in_order_acts_at_once : ActsAtOnce (log_of frames_asked_in_order)
unfolding url_on_literals is_web is_blank_url judged judged_parse read_against address_of url_of resolved with_fragment base_of fragment_of origin_text origin_of has_same_base is_rewritable events_of each_event after_opening AtEachEvent is_numbered opens is_formed is_once is_caused is_queued is_ordered is_checked ends_settled loads_end ends_told ends_stepped goes_in_time
frames_asked_in_order_acts_at_once = record { told = refl; stepped = refl; in_time = refl }

pub frames_asked_in_order_suits : Suits frames_asked_in_order_header (log_of frames_asked_in_order)
unfolding url_on_literals is_web is_blank_url judged judged_parse read_against address_of url_of resolved with_fragment base_of fragment_of origin_text origin_of has_same_base is_rewritable events_of each_event after_opening AtEachEvent is_numbered opens is_formed is_once is_caused is_queued is_ordered is_checked ends_settled loads_end ends_told ends_stepped goes_in_time
frames_asked_in_order_suits = record { opened = refl; placed = refl; kept = refl }

-- A load gives way to a later one before the document has answered.
abbrev pub load_dropped_before_its_answer : List Event
load_dropped_before_its_answer =
    before 11 one_prompt_for_two
    ++ by_ui (rows.Accepted (r 2) None (requests.Load (n 0) modes.Auto (codes "http://a.test/2"))) (rows.Started (r 2) None ∷ sent 4 1 0 2 (whys.Req (r 2)) (tasks.Ask 1 leavings.Load) ∷ [])
    ∷ by_ui (rows.Accepted (r 3) None (requests.Load (n 0) modes.Auto (codes "http://a.test/3"))) (rows.Dropped (r 2) (drops.By (r 3)) ∷ rows.Started (r 3) None ∷ sent 5 1 0 2 (whys.Req (r 3)) (tasks.Ask 1 leavings.Load) ∷ [])
    ∷ by_proc 1 (rows.Taken (p 1) (j 4) true false) []
    ∷ by_proc 1 (rows.Finished (p 1) (j 4) (outcomes.Asked verdicts.Prompt)) []
    ∷ by_coord (rows.Delivered (p 1)) []
    ∷ by_proc 1 (rows.Taken (p 1) (j 5) true false) []
    ∷ by_proc 1 (rows.Finished (p 1) (j 5) (outcomes.Asked verdicts.Prompt)) []
    ∷ by_coord (rows.Delivered (p 1)) (rows.Prompted (r 3) (d 2) ∷ [])
    ∷ by_ui (rows.Answered (r 3) false) (sent 6 1 0 3 (whys.Req (r 3)) (tasks.Populate (n 0) (s 4) (codes "http://a.test/3") false) ∷ [])
    ∷ by_proc 1 (rows.Taken (p 1) (j 6) true false) []
    ∷ by_proc 1 (rows.Finished (p 1) (j 6) (outcomes.Populated None)) []
    ∷ by_coord (rows.Delivered (p 1)) (rows.Applied (r 3) (changes.Push (n 0) (e 0 3) (s 4) (codes "http://a.test/3") None) ∷ sent 7 1 0 2 (whys.Req (r 3)) tasks.Freeze ∷ sent 8 1 0 3 (whys.Req (r 3)) (tasks.Activate (e 0 3) (epoch 3) 3 2 None (codes "http://a.test/3")) ∷ [])
    ∷ by_proc 1 (rows.Taken (p 1) (j 7) true false) []
    ∷ by_proc 1 (rows.Finished (p 1) (j 7) outcomes.Frozen) []
    ∷ by_coord (rows.Delivered (p 1)) []
    ∷ by_proc 1 (rows.Taken (p 1) (j 8) true false) []
    ∷ by_proc 1 (rows.Finished (p 1) (j 8) outcomes.Activated) []
    ∷ by_coord (rows.Delivered (p 1)) []
    ∷ []

abbrev pub load_dropped_before_its_answer_header : Header
load_dropped_before_its_answer_header = record { keep = 3; sites = []; pages = record { base = codes "http://a.test/1"; slot = 1 } ∷ []; first = codes "http://a.test/" }

pub load_dropped_before_its_answer_is_legal : IsLegal (log_of load_dropped_before_its_answer)
unfolding url_on_literals is_web is_blank_url judged judged_parse read_against address_of url_of resolved with_fragment base_of fragment_of origin_text origin_of has_same_base is_rewritable events_of each_event after_opening AtEachEvent is_numbered opens is_formed is_once is_caused is_queued is_ordered is_checked ends_settled loads_end ends_told ends_stepped goes_in_time
load_dropped_before_its_answer_is_legal = record { opened = refl; numbered = refl; formed = refl; once = refl; caused = refl; queued = refl; ordered = refl; checked = refl; settled = refl }

pub load_dropped_before_its_answer_ends_loads : LoadsEndInTime (log_of load_dropped_before_its_answer)
unfolding url_on_literals is_web is_blank_url judged judged_parse read_against address_of url_of resolved with_fragment base_of fragment_of origin_text origin_of has_same_base is_rewritable events_of each_event after_opening AtEachEvent is_numbered opens is_formed is_once is_caused is_queued is_ordered is_checked ends_settled loads_end ends_told ends_stepped goes_in_time
load_dropped_before_its_answer_ends_loads = refl

pub load_dropped_before_its_answer_acts_at_once : ActsAtOnce (log_of load_dropped_before_its_answer)
unfolding url_on_literals is_web is_blank_url judged judged_parse read_against address_of url_of resolved with_fragment base_of fragment_of origin_text origin_of has_same_base is_rewritable events_of each_event after_opening AtEachEvent is_numbered opens is_formed is_once is_caused is_queued is_ordered is_checked ends_settled loads_end ends_told ends_stepped goes_in_time
load_dropped_before_its_answer_acts_at_once = record { told = refl; stepped = refl; in_time = refl }

pub load_dropped_before_its_answer_suits : Suits load_dropped_before_its_answer_header (log_of load_dropped_before_its_answer)
unfolding url_on_literals is_web is_blank_url judged judged_parse read_against address_of url_of resolved with_fragment base_of fragment_of origin_text origin_of has_same_base is_rewritable events_of each_event after_opening AtEachEvent is_numbered opens is_formed is_once is_caused is_queued is_ordered is_checked ends_settled loads_end ends_told ends_stepped goes_in_time
load_dropped_before_its_answer_suits = record { opened = refl; placed = refl; kept = refl }

-- A death settles the questions of a load and of a traversal, and the user is asked for both.
abbrev pub two_prompts_at_once : List Event
two_prompts_at_once =
    before 20 one_prompt_for_two
    ++ by_ui (rows.Accepted (r 3) None (requests.Load (n 1) modes.Auto (codes "http://b.test/f"))) (rows.Started (r 3) None ∷ sent 6 2 0 4 (whys.Req (r 3)) (tasks.Populate (n 1) (s 4) (codes "http://b.test/f") false) ∷ [])
    ∷ by_proc 2 (rows.Taken (p 2) (j 6) true false) []
    ∷ by_proc 2 (rows.Finished (p 2) (j 6) (outcomes.Populated (Some 1))) []
    ∷ by_coord (rows.Delivered (p 2)) (rows.Applied (r 3) (changes.Replace (n 1) (e 0 3) (e 0 4) (s 4) (codes "http://b.test/f") None) ∷ sent 7 1 0 3 (whys.Req (r 3)) tasks.Discard ∷ sent 8 2 0 4 (whys.Req (r 3)) (tasks.Activate (e 0 4) (epoch 2) 2 1 None (codes "http://b.test/f")) ∷ [])
    ∷ by_proc 1 (rows.Taken (p 1) (j 7) true false) []
    ∷ by_proc 1 (rows.Finished (p 1) (j 7) outcomes.Discarded) []
    ∷ by_coord (rows.Delivered (p 1)) []
    ∷ by_proc 2 (rows.Taken (p 2) (j 8) true false) []
    ∷ by_proc 2 (rows.Finished (p 2) (j 8) outcomes.Activated) []
    ∷ by_coord (rows.Delivered (p 2)) []
    ∷ by_ui (rows.Accepted (r 4) None (requests.Load (n 0) modes.Auto (codes "http://a.test/2"))) (rows.Started (r 4) None ∷ sent 9 1 0 2 (whys.Req (r 4)) (tasks.Ask 1 leavings.Load) ∷ sent 10 2 0 4 (whys.Req (r 4)) (tasks.Ask 1 leavings.Load) ∷ [])
    ∷ by_ui (rows.Accepted (r 5) None (requests.Go (negsuc 0))) (rows.Started (r 5) (Some (t 0)) ∷ sent 11 1 0 2 (whys.Req (r 5)) (tasks.Ask 1 leavings.Traverse) ∷ sent 12 2 0 4 (whys.Req (r 5)) (tasks.Ask 1 leavings.Traverse) ∷ [])
    ∷ by_proc 1 (rows.Taken (p 1) (j 9) true false) []
    ∷ by_proc 1 (rows.Finished (p 1) (j 9) (outcomes.Asked verdicts.Prompt)) []
    ∷ by_coord (rows.Delivered (p 1)) []
    ∷ by_proc 1 (rows.Taken (p 1) (j 11) true false) []
    ∷ by_proc 1 (rows.Finished (p 1) (j 11) (outcomes.Asked verdicts.Prompt)) []
    ∷ by_coord (rows.Delivered (p 1)) []
    ∷ by_ui (rows.Killed (p 2) (x 1)) []
    ∷ by_coord (rows.Delivered (p 2)) (rows.Prompted (r 4) (d 2) ∷ rows.Prompted (r 5) (d 2) ∷ [])
    ∷ []

abbrev pub two_prompts_at_once_header : Header
two_prompts_at_once_header = record { keep = 3; sites = record { origin = codes "http://b.test"; proc = p 2 } ∷ []; pages = record { base = codes "http://a.test/1"; slot = 1 } ∷ record { base = codes "http://b.test/f"; slot = 1 } ∷ []; first = codes "http://a.test/" }

pub two_prompts_at_once_is_legal : IsLegal (log_of two_prompts_at_once)
unfolding url_on_literals is_web is_blank_url judged judged_parse read_against address_of url_of resolved with_fragment base_of fragment_of origin_text origin_of has_same_base is_rewritable events_of each_event after_opening AtEachEvent is_numbered opens is_formed is_once is_caused is_queued is_ordered is_checked ends_settled loads_end ends_told ends_stepped goes_in_time
two_prompts_at_once_is_legal = record { opened = refl; numbered = refl; formed = refl; once = refl; caused = refl; queued = refl; ordered = refl; checked = refl; settled = refl }

pub two_prompts_at_once_ends_loads : LoadsEndInTime (log_of two_prompts_at_once)
unfolding url_on_literals is_web is_blank_url judged judged_parse read_against address_of url_of resolved with_fragment base_of fragment_of origin_text origin_of has_same_base is_rewritable events_of each_event after_opening AtEachEvent is_numbered opens is_formed is_once is_caused is_queued is_ordered is_checked ends_settled loads_end ends_told ends_stepped goes_in_time
two_prompts_at_once_ends_loads = refl

pub two_prompts_at_once_acts_at_once : ActsAtOnce (log_of two_prompts_at_once)
unfolding url_on_literals is_web is_blank_url judged judged_parse read_against address_of url_of resolved with_fragment base_of fragment_of origin_text origin_of has_same_base is_rewritable events_of each_event after_opening AtEachEvent is_numbered opens is_formed is_once is_caused is_queued is_ordered is_checked ends_settled loads_end ends_told ends_stepped goes_in_time
two_prompts_at_once_acts_at_once = record { told = refl; stepped = refl; in_time = refl }

pub two_prompts_at_once_suits : Suits two_prompts_at_once_header (log_of two_prompts_at_once)
unfolding url_on_literals is_web is_blank_url judged judged_parse read_against address_of url_of resolved with_fragment base_of fragment_of origin_text origin_of has_same_base is_rewritable events_of each_event after_opening AtEachEvent is_numbered opens is_formed is_once is_caused is_queued is_ordered is_checked ends_settled loads_end ends_told ends_stepped goes_in_time
two_prompts_at_once_suits = record { opened = refl; placed = refl; kept = refl }

-- A traversal hides a frame, and asks its document.
abbrev pub hidden_frame_is_asked : List Event
hidden_frame_is_asked =
    before 11 evicted_documents
    ++ by_ui (rows.Accepted (r 2) None (requests.Go (negsuc 0))) (rows.Started (r 2) (Some (t 0)) ∷ sent 4 1 0 2 (whys.Req (r 2)) tasks.Freeze ∷ sent 5 1 0 1 (whys.Req (r 2)) (tasks.Activate (e 0 1) (epoch 3) 2 0 None (codes "http://a.test/")) ∷ [])
    ∷ by_proc 1 (rows.Taken (p 1) (j 4) true false) []
    ∷ by_proc 1 (rows.Finished (p 1) (j 4) outcomes.Frozen) []
    ∷ by_coord (rows.Delivered (p 1)) []
    ∷ by_proc 1 (rows.Taken (p 1) (j 5) true false) []
    ∷ by_proc 1 (rows.Finished (p 1) (j 5) outcomes.Activated) []
    ∷ by_coord (rows.Delivered (p 1)) (rows.Applied (r 2) (changes.Traverse (t 0)) ∷ [])
    ∷ by_ui (rows.Accepted (r 3) (Some (d 1)) (requests.Poke (n 0) (actions.AddFrame (n 1)))) []
    ∷ by_proc 1 (made 1 3 1 3 (whats.AddFrame (n 1))) []
    ∷ by_coord (rows.Delivered (p 1)) (rows.Applied (r 3) (changes.AddFrame (s 1) (n 1) (e 0 3) (s 3)) ∷ sent 6 1 0 3 (whys.Req (r 3)) (tasks.Populate (n 1) (s 3) (codes "about:blank") true) ∷ [])
    ∷ by_proc 1 (rows.Taken (p 1) (j 6) true false) []
    ∷ by_proc 1 (rows.Finished (p 1) (j 6) (outcomes.Populated None)) []
    ∷ by_coord (rows.Delivered (p 1)) (sent 7 1 0 3 (whys.Req (r 3)) (tasks.Activate (e 0 3) (epoch 1) 2 0 None (codes "about:blank")) ∷ [])
    ∷ by_proc 1 (rows.Taken (p 1) (j 7) true false) []
    ∷ by_proc 1 (rows.Finished (p 1) (j 7) outcomes.Activated) []
    ∷ by_coord (rows.Delivered (p 1)) []
    ∷ by_ui (rows.Accepted (r 4) None (requests.Load (n 1) modes.Auto (codes "http://a.test/f"))) (rows.Started (r 4) None ∷ sent 8 1 0 4 (whys.Req (r 4)) (tasks.Populate (n 1) (s 4) (codes "http://a.test/f") false) ∷ [])
    ∷ by_proc 1 (rows.Taken (p 1) (j 8) true false) []
    ∷ by_proc 1 (rows.Finished (p 1) (j 8) (outcomes.Populated (Some 1))) []
    ∷ by_coord (rows.Delivered (p 1)) (rows.Applied (r 4) (changes.Replace (n 1) (e 0 3) (e 0 4) (s 4) (codes "http://a.test/f") None) ∷ sent 9 1 0 3 (whys.Req (r 4)) tasks.Discard ∷ sent 10 1 0 4 (whys.Req (r 4)) (tasks.Activate (e 0 4) (epoch 2) 2 0 None (codes "http://a.test/f")) ∷ [])
    ∷ by_proc 1 (rows.Taken (p 1) (j 9) true false) []
    ∷ by_proc 1 (rows.Finished (p 1) (j 9) outcomes.Discarded) []
    ∷ by_coord (rows.Delivered (p 1)) []
    ∷ by_proc 1 (rows.Taken (p 1) (j 10) true false) []
    ∷ by_proc 1 (rows.Finished (p 1) (j 10) outcomes.Activated) []
    ∷ by_coord (rows.Delivered (p 1)) []
    ∷ by_ui (rows.Accepted (r 5) None (requests.Go (pos 1))) (rows.Started (r 5) (Some (t 1)) ∷ sent 11 1 0 4 (whys.Req (r 5)) (tasks.Ask 1 leavings.Traverse) ∷ [])
    ∷ []

abbrev pub hidden_frame_is_asked_header : Header
hidden_frame_is_asked_header = record { keep = 3; sites = []; pages = record { base = codes "http://a.test/f"; slot = 1 } ∷ []; first = codes "http://a.test/" }

pub hidden_frame_is_asked_is_legal : IsLegal (log_of hidden_frame_is_asked)
unfolding url_on_literals is_web is_blank_url judged judged_parse read_against address_of url_of resolved with_fragment base_of fragment_of origin_text origin_of has_same_base is_rewritable events_of each_event after_opening AtEachEvent is_numbered opens is_formed is_once is_caused is_queued is_ordered is_checked ends_settled loads_end ends_told ends_stepped goes_in_time
hidden_frame_is_asked_is_legal = record { opened = refl; numbered = refl; formed = refl; once = refl; caused = refl; queued = refl; ordered = refl; checked = refl; settled = refl }

pub hidden_frame_is_asked_ends_loads : LoadsEndInTime (log_of hidden_frame_is_asked)
unfolding url_on_literals is_web is_blank_url judged judged_parse read_against address_of url_of resolved with_fragment base_of fragment_of origin_text origin_of has_same_base is_rewritable events_of each_event after_opening AtEachEvent is_numbered opens is_formed is_once is_caused is_queued is_ordered is_checked ends_settled loads_end ends_told ends_stepped goes_in_time
hidden_frame_is_asked_ends_loads = refl

pub hidden_frame_is_asked_acts_at_once : ActsAtOnce (log_of hidden_frame_is_asked)
unfolding url_on_literals is_web is_blank_url judged judged_parse read_against address_of url_of resolved with_fragment base_of fragment_of origin_text origin_of has_same_base is_rewritable events_of each_event after_opening AtEachEvent is_numbered opens is_formed is_once is_caused is_queued is_ordered is_checked ends_settled loads_end ends_told ends_stepped goes_in_time
hidden_frame_is_asked_acts_at_once = record { told = refl; stepped = refl; in_time = refl }

pub hidden_frame_is_asked_suits : Suits hidden_frame_is_asked_header (log_of hidden_frame_is_asked)
unfolding url_on_literals is_web is_blank_url judged judged_parse read_against address_of url_of resolved with_fragment base_of fragment_of origin_text origin_of has_same_base is_rewritable events_of each_event after_opening AtEachEvent is_numbered opens is_formed is_once is_caused is_queued is_ordered is_checked ends_settled loads_end ends_told ends_stepped goes_in_time
hidden_frame_is_asked_suits = record { opened = refl; placed = refl; kept = refl }

-- A traversal waits for a reload, and asks as it begins.
abbrev pub waiting_traversal_asks : List Event
waiting_traversal_asks =
    before 11 stay
    ++ by_ui (rows.Accepted (r 2) None (requests.Reload (n 0))) (rows.Started (r 2) None ∷ sent 4 1 0 2 (whys.Req (r 2)) (tasks.Ask 0 leavings.Reload) ∷ [])
    ∷ by_ui (rows.Accepted (r 3) None (requests.Go (negsuc 0))) []
    ∷ by_proc 1 (rows.Taken (p 1) (j 4) true false) []
    ∷ by_proc 1 (rows.Finished (p 1) (j 4) (outcomes.Asked verdicts.Leave)) []
    ∷ by_coord (rows.Delivered (p 1)) (rows.Applied (r 2) (changes.Reload (n 0)) ∷ sent 5 1 0 3 (whys.Req (r 2)) (tasks.Populate (n 0) (s 2) (codes "http://a.test/1") false) ∷ [])
    ∷ by_proc 1 (rows.Taken (p 1) (j 5) true false) []
    ∷ by_proc 1 (rows.Finished (p 1) (j 5) (outcomes.Populated (Some 0))) []
    ∷ by_coord (rows.Delivered (p 1)) (sent 6 1 0 2 (whys.Req (r 2)) tasks.Discard ∷ sent 7 1 0 3 (whys.Req (r 2)) (tasks.Activate (e 0 2) (epoch 3) 2 1 None (codes "http://a.test/1")) ∷ [])
    ∷ by_proc 1 (rows.Taken (p 1) (j 6) true false) []
    ∷ by_proc 1 (rows.Finished (p 1) (j 6) outcomes.Discarded) []
    ∷ by_coord (rows.Delivered (p 1)) []
    ∷ by_proc 1 (rows.Taken (p 1) (j 7) true false) []
    ∷ by_proc 1 (rows.Finished (p 1) (j 7) outcomes.Activated) []
    ∷ by_coord (rows.Delivered (p 1)) (rows.Started (r 3) (Some (t 0)) ∷ sent 8 1 0 3 (whys.Req (r 3)) (tasks.Ask 0 leavings.Traverse) ∷ [])
    ∷ by_proc 1 (rows.Taken (p 1) (j 8) true false) []
    ∷ by_proc 1 (rows.Finished (p 1) (j 8) (outcomes.Asked verdicts.Leave)) []
    ∷ by_coord (rows.Delivered (p 1)) (sent 9 1 0 3 (whys.Req (r 3)) tasks.Freeze ∷ sent 10 1 0 1 (whys.Req (r 3)) (tasks.Activate (e 0 1) (epoch 4) 2 0 None (codes "http://a.test/")) ∷ [])
    ∷ by_proc 1 (rows.Taken (p 1) (j 9) true false) []
    ∷ by_proc 1 (rows.Finished (p 1) (j 9) outcomes.Frozen) []
    ∷ by_coord (rows.Delivered (p 1)) []
    ∷ by_proc 1 (rows.Taken (p 1) (j 10) true false) []
    ∷ by_proc 1 (rows.Finished (p 1) (j 10) outcomes.Activated) []
    ∷ by_coord (rows.Delivered (p 1)) (rows.Applied (r 3) (changes.Traverse (t 0)) ∷ [])
    ∷ []

abbrev pub waiting_traversal_asks_header : Header
waiting_traversal_asks_header = record { keep = 3; sites = []; pages = record { base = codes "http://a.test/1"; slot = 0 } ∷ []; first = codes "http://a.test/" }

pub waiting_traversal_asks_is_legal : IsLegal (log_of waiting_traversal_asks)
unfolding url_on_literals is_web is_blank_url judged judged_parse read_against address_of url_of resolved with_fragment base_of fragment_of origin_text origin_of has_same_base is_rewritable events_of each_event after_opening AtEachEvent is_numbered opens is_formed is_once is_caused is_queued is_ordered is_checked ends_settled loads_end ends_told ends_stepped goes_in_time
waiting_traversal_asks_is_legal = record { opened = refl; numbered = refl; formed = refl; once = refl; caused = refl; queued = refl; ordered = refl; checked = refl; settled = refl }

pub waiting_traversal_asks_ends_loads : LoadsEndInTime (log_of waiting_traversal_asks)
unfolding url_on_literals is_web is_blank_url judged judged_parse read_against address_of url_of resolved with_fragment base_of fragment_of origin_text origin_of has_same_base is_rewritable events_of each_event after_opening AtEachEvent is_numbered opens is_formed is_once is_caused is_queued is_ordered is_checked ends_settled loads_end ends_told ends_stepped goes_in_time
waiting_traversal_asks_ends_loads = refl

pub waiting_traversal_asks_acts_at_once : ActsAtOnce (log_of waiting_traversal_asks)
unfolding url_on_literals is_web is_blank_url judged judged_parse read_against address_of url_of resolved with_fragment base_of fragment_of origin_text origin_of has_same_base is_rewritable events_of each_event after_opening AtEachEvent is_numbered opens is_formed is_once is_caused is_queued is_ordered is_checked ends_settled loads_end ends_told ends_stepped goes_in_time
waiting_traversal_asks_acts_at_once = record { told = refl; stepped = refl; in_time = refl }

pub waiting_traversal_asks_suits : Suits waiting_traversal_asks_header (log_of waiting_traversal_asks)
unfolding url_on_literals is_web is_blank_url judged judged_parse read_against address_of url_of resolved with_fragment base_of fragment_of origin_text origin_of has_same_base is_rewritable events_of each_event after_opening AtEachEvent is_numbered opens is_formed is_once is_caused is_queued is_ordered is_checked ends_settled loads_end ends_told ends_stepped goes_in_time
waiting_traversal_asks_suits = record { opened = refl; placed = refl; kept = refl }
