-- Legal logs: frames.
-- A log is its events: those before one of another log, since one, or between two, and its own.
use Rattle.std.proofs.Common.{negsuc, true, false, List, [], ◌∷◌, ◌++◌, codes, refl, Some, None}
use Rattle.url.proofs.OnLiterals.{url_on_literals}
use Rattle.address.specs.Addresses.{is_web, is_blank_url, judged, judged_parse, read_against, address_of, url_of, resolved, with_fragment, base_of, fragment_of, origin_text, origin_of, has_same_base, is_rewritable}
use Rattle.log_model.specs.declared.action.Action.TheVariants as actions
use Rattle.log_model.specs.declared.change.Change.TheVariants as changes
use Rattle.log_model.specs.declared.job.Task.TheVariants as tasks
use Rattle.log_model.specs.declared.job.Why.TheVariants as whys
use Rattle.log_model.specs.declared.made.What.TheVariants as whats
use Rattle.log_model.specs.declared.outcome.Cause.TheVariants as drops
use Rattle.log_model.specs.declared.outcome.Denial.TheVariants as denials
use Rattle.log_model.specs.declared.outcome.Outcome.TheVariants as outcomes
use Rattle.log_model.specs.declared.request.Mode.TheVariants as modes
use Rattle.log_model.specs.declared.request.Request.TheVariants as requests
use Rattle.log_model.specs.declared.row_kind.RowKind.TheVariants as rows
use Rattle.log_model.specs.Events.{events_of, each_event, after_opening, AtEachEvent}
use Rattle.log_model.specs.Formed.{is_numbered}
use Rattle.log_model.specs.Legal.{IsLegal, opens, is_formed, is_once, is_caused, is_queued, is_ordered, is_checked, ends_settled}
use Rattle.log_model.specs.LoadsEndInTime.{LoadsEndInTime, loads_end}
use Rattle.log_model.specs.ActsAtOnce.{ActsAtOnce, ends_told, ends_stepped, goes_in_time}
use Rattle.log_model.specs.Suits.{Suits}
use Rattle.log_model.specs.declared.header.Header.{Header}
use Rattle.log_examples.specs.Rows.{n, s, r, p, t, d, j, e, epoch, sent, made}
use Rattle.log_examples.specs.Logs.{Event, by_start, by_ui, by_coord, by_proc, log_of, before, plain_settings}
use Rattle.log_examples.proofs.Pushes.{push_beside_a_frame, push_in_an_initial_document}
use Rattle.log_examples.proofs.Interleavings.{held_back_push}
use Rattle.log_examples.proofs.Loads.{push_over_a_kept_document, fragment_beside_a_traversal, fragment_beside_a_reload}

-- Loads of a frame, a fragment of the top, and back four times.
abbrev pub frame_loads_and_fragment : List Event
frame_loads_and_fragment =
    before 10 push_beside_a_frame
    ++ by_ui (rows.Accepted (r 2) None (requests.Load (n 1) modes.Auto (codes "http://a.test/f1"))) (rows.Started (r 2) None ∷ sent 3 1 0 3 (whys.Req (r 2)) (tasks.Populate (n 1) (s 3) (codes "http://a.test/f1") false) ∷ [])
    ∷ by_proc 1 (rows.Taken (p 1) (j 3) true false) []
    ∷ by_proc 1 (rows.Finished (p 1) (j 3) (outcomes.Populated None)) []
    ∷ by_coord (rows.Delivered (p 1)) (rows.Applied (r 2) (changes.Replace (n 1) (e 0 2) (e 0 3) (s 3) (codes "http://a.test/f1") None) ∷ sent 4 1 0 2 (whys.Req (r 2)) tasks.Discard ∷ sent 5 1 0 3 (whys.Req (r 2)) (tasks.Activate (e 0 3) (epoch 2) 1 0 None (codes "http://a.test/f1")) ∷ [])
    ∷ by_proc 1 (rows.Taken (p 1) (j 4) true false) []
    ∷ by_proc 1 (rows.Finished (p 1) (j 4) outcomes.Discarded) []
    ∷ by_coord (rows.Delivered (p 1)) []
    ∷ by_proc 1 (rows.Taken (p 1) (j 5) true false) []
    ∷ by_proc 1 (rows.Finished (p 1) (j 5) outcomes.Activated) []
    ∷ by_coord (rows.Delivered (p 1)) []
    ∷ by_ui (rows.Accepted (r 3) None (requests.Load (n 1) modes.Auto (codes "http://a.test/f2"))) (rows.Started (r 3) None ∷ sent 6 1 0 4 (whys.Req (r 3)) (tasks.Populate (n 1) (s 4) (codes "http://a.test/f2") false) ∷ [])
    ∷ by_proc 1 (rows.Taken (p 1) (j 6) true false) []
    ∷ by_proc 1 (rows.Finished (p 1) (j 6) (outcomes.Populated None)) []
    ∷ by_coord (rows.Delivered (p 1)) (rows.Applied (r 3) (changes.Push (n 1) (e 0 4) (s 4) (codes "http://a.test/f2") None) ∷ sent 7 1 0 3 (whys.Req (r 3)) tasks.Freeze ∷ sent 8 1 0 4 (whys.Req (r 3)) (tasks.Activate (e 0 4) (epoch 3) 2 1 None (codes "http://a.test/f2")) ∷ sent 9 1 0 1 (whys.Req (r 3)) (tasks.Update 2 1) ∷ [])
    ∷ by_proc 1 (rows.Taken (p 1) (j 7) true false) []
    ∷ by_proc 1 (rows.Finished (p 1) (j 7) outcomes.Frozen) []
    ∷ by_coord (rows.Delivered (p 1)) []
    ∷ by_proc 1 (rows.Taken (p 1) (j 8) true false) []
    ∷ by_proc 1 (rows.Finished (p 1) (j 8) outcomes.Activated) []
    ∷ by_coord (rows.Delivered (p 1)) []
    ∷ by_proc 1 (rows.Taken (p 1) (j 9) true false) []
    ∷ by_proc 1 (rows.Finished (p 1) (j 9) outcomes.Updated) []
    ∷ by_coord (rows.Delivered (p 1)) []
    ∷ by_ui (rows.Accepted (r 4) None (requests.Load (n 1) modes.Auto (codes "http://a.test/f3"))) (rows.Started (r 4) None ∷ sent 10 1 0 5 (whys.Req (r 4)) (tasks.Populate (n 1) (s 5) (codes "http://a.test/f3") false) ∷ [])
    ∷ by_proc 1 (rows.Taken (p 1) (j 10) true false) []
    ∷ by_proc 1 (rows.Finished (p 1) (j 10) (outcomes.Populated None)) []
    ∷ by_coord (rows.Delivered (p 1)) (rows.Applied (r 4) (changes.Push (n 1) (e 0 5) (s 5) (codes "http://a.test/f3") None) ∷ sent 11 1 0 4 (whys.Req (r 4)) tasks.Freeze ∷ sent 12 1 0 5 (whys.Req (r 4)) (tasks.Activate (e 0 5) (epoch 4) 3 2 None (codes "http://a.test/f3")) ∷ sent 13 1 0 1 (whys.Req (r 4)) (tasks.Update 3 2) ∷ [])
    ∷ by_proc 1 (rows.Taken (p 1) (j 11) true false) []
    ∷ by_proc 1 (rows.Finished (p 1) (j 11) outcomes.Frozen) []
    ∷ by_coord (rows.Delivered (p 1)) []
    ∷ by_proc 1 (rows.Taken (p 1) (j 12) true false) []
    ∷ by_proc 1 (rows.Finished (p 1) (j 12) outcomes.Activated) []
    ∷ by_coord (rows.Delivered (p 1)) []
    ∷ by_proc 1 (rows.Taken (p 1) (j 13) true false) []
    ∷ by_proc 1 (rows.Finished (p 1) (j 13) outcomes.Updated) []
    ∷ by_coord (rows.Delivered (p 1)) []
    ∷ by_ui (rows.Accepted (r 5) None (requests.Load (n 0) modes.Auto (codes "http://a.test/#x"))) (sent 14 1 0 1 (whys.Req (r 5)) (tasks.DoFragment (r 5) modes.Auto (codes "http://a.test/#x")) ∷ [])
    ∷ by_proc 1 (rows.Taken (p 1) (j 14) true false) []
    ∷ by_proc 1 (rows.Finished (p 1) (j 14) outcomes.Fragmented) (made 1 5 1 1 (whats.Push (e 1 1) None (codes "http://a.test/#x")) ∷ [])
    ∷ by_coord (rows.Delivered (p 1)) (rows.Applied (r 5) (changes.Push (n 0) (e 1 1) (s 1) (codes "http://a.test/#x") None) ∷ sent 15 1 0 1 (whys.Req (r 5)) (tasks.Update 4 3) ∷ sent 16 1 0 5 (whys.Req (r 5)) (tasks.Update 4 3) ∷ [])
    ∷ by_proc 1 (rows.Taken (p 1) (j 15) true false) []
    ∷ by_proc 1 (rows.Finished (p 1) (j 15) outcomes.Updated) []
    ∷ by_coord (rows.Delivered (p 1)) []
    ∷ by_proc 1 (rows.Taken (p 1) (j 16) true false) []
    ∷ by_proc 1 (rows.Finished (p 1) (j 16) outcomes.Updated) []
    ∷ by_coord (rows.Delivered (p 1)) []
    ∷ by_ui (rows.Accepted (r 6) None (requests.Go (negsuc 0))) (rows.Started (r 6) (Some (t 2)) ∷ sent 17 1 0 1 (whys.Req (r 6)) (tasks.Activate (e 0 1) (epoch 2) 4 2 None (codes "http://a.test/")) ∷ [])
    ∷ by_proc 1 (rows.Taken (p 1) (j 17) true false) []
    ∷ by_proc 1 (rows.Finished (p 1) (j 17) outcomes.Activated) []
    ∷ by_coord (rows.Delivered (p 1)) (rows.Applied (r 6) (changes.Traverse (t 2)) ∷ sent 18 1 0 5 (whys.Req (r 6)) (tasks.Update 4 2) ∷ [])
    ∷ by_proc 1 (rows.Taken (p 1) (j 18) true false) []
    ∷ by_proc 1 (rows.Finished (p 1) (j 18) outcomes.Updated) []
    ∷ by_coord (rows.Delivered (p 1)) []
    ∷ by_ui (rows.Accepted (r 7) None (requests.Go (negsuc 0))) (rows.Started (r 7) (Some (t 1)) ∷ sent 19 1 0 5 (whys.Req (r 7)) tasks.Freeze ∷ sent 20 1 0 4 (whys.Req (r 7)) (tasks.Activate (e 0 4) (epoch 5) 4 1 None (codes "http://a.test/f2")) ∷ [])
    ∷ by_proc 1 (rows.Taken (p 1) (j 19) true false) []
    ∷ by_proc 1 (rows.Finished (p 1) (j 19) outcomes.Frozen) []
    ∷ by_coord (rows.Delivered (p 1)) []
    ∷ by_proc 1 (rows.Taken (p 1) (j 20) true false) []
    ∷ by_proc 1 (rows.Finished (p 1) (j 20) outcomes.Activated) []
    ∷ by_coord (rows.Delivered (p 1)) (rows.Applied (r 7) (changes.Traverse (t 1)) ∷ sent 21 1 0 1 (whys.Req (r 7)) (tasks.Update 4 1) ∷ [])
    ∷ by_proc 1 (rows.Taken (p 1) (j 21) true false) []
    ∷ by_proc 1 (rows.Finished (p 1) (j 21) outcomes.Updated) []
    ∷ by_coord (rows.Delivered (p 1)) []
    ∷ by_ui (rows.Accepted (r 8) None (requests.Go (negsuc 0))) (rows.Started (r 8) (Some (t 0)) ∷ sent 22 1 0 4 (whys.Req (r 8)) tasks.Freeze ∷ sent 23 1 0 3 (whys.Req (r 8)) (tasks.Activate (e 0 3) (epoch 6) 4 0 None (codes "http://a.test/f1")) ∷ [])
    ∷ by_proc 1 (rows.Taken (p 1) (j 22) true false) []
    ∷ by_proc 1 (rows.Finished (p 1) (j 22) outcomes.Frozen) []
    ∷ by_coord (rows.Delivered (p 1)) []
    ∷ by_proc 1 (rows.Taken (p 1) (j 23) true false) []
    ∷ by_proc 1 (rows.Finished (p 1) (j 23) outcomes.Activated) []
    ∷ by_coord (rows.Delivered (p 1)) (rows.Applied (r 8) (changes.Traverse (t 0)) ∷ sent 24 1 0 1 (whys.Req (r 8)) (tasks.Update 4 0) ∷ [])
    ∷ by_proc 1 (rows.Taken (p 1) (j 24) true false) []
    ∷ by_proc 1 (rows.Finished (p 1) (j 24) outcomes.Updated) []
    ∷ by_coord (rows.Delivered (p 1)) []
    ∷ by_ui (rows.Accepted (r 9) None (requests.Go (negsuc 0))) (rows.Refused (r 9) denials.NoStep ∷ [])
    ∷ []

pub frame_loads_and_fragment_is_legal : IsLegal (log_of frame_loads_and_fragment)
unfolding url_on_literals is_web is_blank_url judged judged_parse read_against address_of url_of resolved with_fragment base_of fragment_of origin_text origin_of has_same_base is_rewritable events_of each_event after_opening AtEachEvent is_numbered opens is_formed is_once is_caused is_queued is_ordered is_checked ends_settled loads_end ends_told ends_stepped goes_in_time
frame_loads_and_fragment_is_legal = record { opened = refl; numbered = refl; formed = refl; once = refl; caused = refl; queued = refl; ordered = refl; checked = refl; settled = refl }

pub frame_loads_and_fragment_ends_loads : LoadsEndInTime (log_of frame_loads_and_fragment)
unfolding url_on_literals is_web is_blank_url judged judged_parse read_against address_of url_of resolved with_fragment base_of fragment_of origin_text origin_of has_same_base is_rewritable events_of each_event after_opening AtEachEvent is_numbered opens is_formed is_once is_caused is_queued is_ordered is_checked ends_settled loads_end ends_told ends_stepped goes_in_time
frame_loads_and_fragment_ends_loads = refl

pub frame_loads_and_fragment_acts_at_once : ActsAtOnce (log_of frame_loads_and_fragment)
unfolding url_on_literals is_web is_blank_url judged judged_parse read_against address_of url_of resolved with_fragment base_of fragment_of origin_text origin_of has_same_base is_rewritable events_of each_event after_opening AtEachEvent is_numbered opens is_formed is_once is_caused is_queued is_ordered is_checked ends_settled loads_end ends_told ends_stepped goes_in_time
frame_loads_and_fragment_acts_at_once = record { told = refl; stepped = refl; in_time = refl }

pub frame_loads_and_fragment_suits : Suits plain_settings (log_of frame_loads_and_fragment)
unfolding url_on_literals is_web is_blank_url judged judged_parse read_against address_of url_of resolved with_fragment base_of fragment_of origin_text origin_of has_same_base is_rewritable events_of each_event after_opening AtEachEvent is_numbered opens is_formed is_once is_caused is_queued is_ordered is_checked ends_settled loads_end ends_told ends_stepped goes_in_time
frame_loads_and_fragment_suits = record { opened = refl; placed = refl; kept = refl }

-- A load of a new frame is a replace, and a bad address is refused.
abbrev pub frame_replaced : List Event
frame_replaced =
    before 20 held_back_push
    ++ by_ui (rows.Accepted (r 3) None (requests.Load (n 1) modes.Auto (codes "http://a.test/f"))) (rows.Started (r 3) None ∷ sent 6 1 0 4 (whys.Req (r 3)) (tasks.Populate (n 1) (s 4) (codes "http://a.test/f") false) ∷ [])
    ∷ by_proc 1 (rows.Taken (p 1) (j 6) true false) []
    ∷ by_proc 1 (rows.Finished (p 1) (j 6) (outcomes.Populated None)) []
    ∷ by_coord (rows.Delivered (p 1)) (rows.Applied (r 3) (changes.Replace (n 1) (e 0 3) (e 0 4) (s 4) (codes "http://a.test/f") None) ∷ sent 7 1 0 3 (whys.Req (r 3)) tasks.Discard ∷ sent 8 1 0 4 (whys.Req (r 3)) (tasks.Activate (e 0 4) (epoch 3) 1 0 None (codes "http://a.test/f")) ∷ [])
    ∷ by_proc 1 (rows.Taken (p 1) (j 7) true false) []
    ∷ by_proc 1 (rows.Finished (p 1) (j 7) outcomes.Discarded) []
    ∷ by_coord (rows.Delivered (p 1)) []
    ∷ by_proc 1 (rows.Taken (p 1) (j 8) true false) []
    ∷ by_proc 1 (rows.Finished (p 1) (j 8) outcomes.Activated) []
    ∷ by_coord (rows.Delivered (p 1)) []
    ∷ by_ui (rows.Accepted (r 4) (Some (d 4)) (requests.Poke (n 1) (actions.Replace (Some (codes "s")) (Some (codes "http://b.test/"))))) []
    ∷ by_proc 1 (rows.Refused (r 4) denials.BadAddress) []
    ∷ []

pub frame_replaced_is_legal : IsLegal (log_of frame_replaced)
unfolding url_on_literals is_web is_blank_url judged judged_parse read_against address_of url_of resolved with_fragment base_of fragment_of origin_text origin_of has_same_base is_rewritable events_of each_event after_opening AtEachEvent is_numbered opens is_formed is_once is_caused is_queued is_ordered is_checked ends_settled loads_end ends_told ends_stepped goes_in_time
frame_replaced_is_legal = record { opened = refl; numbered = refl; formed = refl; once = refl; caused = refl; queued = refl; ordered = refl; checked = refl; settled = refl }

pub frame_replaced_ends_loads : LoadsEndInTime (log_of frame_replaced)
unfolding url_on_literals is_web is_blank_url judged judged_parse read_against address_of url_of resolved with_fragment base_of fragment_of origin_text origin_of has_same_base is_rewritable events_of each_event after_opening AtEachEvent is_numbered opens is_formed is_once is_caused is_queued is_ordered is_checked ends_settled loads_end ends_told ends_stepped goes_in_time
frame_replaced_ends_loads = refl

pub frame_replaced_acts_at_once : ActsAtOnce (log_of frame_replaced)
unfolding url_on_literals is_web is_blank_url judged judged_parse read_against address_of url_of resolved with_fragment base_of fragment_of origin_text origin_of has_same_base is_rewritable events_of each_event after_opening AtEachEvent is_numbered opens is_formed is_once is_caused is_queued is_ordered is_checked ends_settled loads_end ends_told ends_stepped goes_in_time
frame_replaced_acts_at_once = record { told = refl; stepped = refl; in_time = refl }

pub frame_replaced_suits : Suits plain_settings (log_of frame_replaced)
unfolding url_on_literals is_web is_blank_url judged judged_parse read_against address_of url_of resolved with_fragment base_of fragment_of origin_text origin_of has_same_base is_rewritable events_of each_event after_opening AtEachEvent is_numbered opens is_formed is_once is_caused is_queued is_ordered is_checked ends_settled loads_end ends_told ends_stepped goes_in_time
frame_replaced_suits = record { opened = refl; placed = refl; kept = refl }

-- A frame number that is taken.
abbrev pub taken_number : List Event
taken_number =
    before 10 push_beside_a_frame
    ++ by_ui (rows.Accepted (r 2) (Some (d 1)) (requests.Poke (n 0) (actions.AddFrame (n 1)))) []
    ∷ by_proc 1 (made 1 2 1 1 (whats.AddFrame (n 1))) []
    ∷ by_coord (rows.Delivered (p 1)) (rows.Refused (r 2) denials.NavTaken ∷ [])
    ∷ []

pub taken_number_is_legal : IsLegal (log_of taken_number)
unfolding url_on_literals is_web is_blank_url judged judged_parse read_against address_of url_of resolved with_fragment base_of fragment_of origin_text origin_of has_same_base is_rewritable events_of each_event after_opening AtEachEvent is_numbered opens is_formed is_once is_caused is_queued is_ordered is_checked ends_settled loads_end ends_told ends_stepped goes_in_time
taken_number_is_legal = record { opened = refl; numbered = refl; formed = refl; once = refl; caused = refl; queued = refl; ordered = refl; checked = refl; settled = refl }

pub taken_number_ends_loads : LoadsEndInTime (log_of taken_number)
unfolding url_on_literals is_web is_blank_url judged judged_parse read_against address_of url_of resolved with_fragment base_of fragment_of origin_text origin_of has_same_base is_rewritable events_of each_event after_opening AtEachEvent is_numbered opens is_formed is_once is_caused is_queued is_ordered is_checked ends_settled loads_end ends_told ends_stepped goes_in_time
taken_number_ends_loads = refl

pub taken_number_acts_at_once : ActsAtOnce (log_of taken_number)
unfolding url_on_literals is_web is_blank_url judged judged_parse read_against address_of url_of resolved with_fragment base_of fragment_of origin_text origin_of has_same_base is_rewritable events_of each_event after_opening AtEachEvent is_numbered opens is_formed is_once is_caused is_queued is_ordered is_checked ends_settled loads_end ends_told ends_stepped goes_in_time
taken_number_acts_at_once = record { told = refl; stepped = refl; in_time = refl }

pub taken_number_suits : Suits plain_settings (log_of taken_number)
unfolding url_on_literals is_web is_blank_url judged judged_parse read_against address_of url_of resolved with_fragment base_of fragment_of origin_text origin_of has_same_base is_rewritable events_of each_event after_opening AtEachEvent is_numbered opens is_formed is_once is_caused is_queued is_ordered is_checked ends_settled loads_end ends_told ends_stepped goes_in_time
taken_number_suits = record { opened = refl; placed = refl; kept = refl }

-- The entry of a frame after one that a document made.
abbrev pub frame_after_a_replace : List Event
frame_after_a_replace =
    before 4 push_in_an_initial_document
    ++ by_ui (rows.Accepted (r 2) (Some (d 1)) (requests.Poke (n 0) (actions.AddFrame (n 1)))) []
    ∷ by_proc 1 (made 1 2 1 1 (whats.AddFrame (n 1))) []
    ∷ by_coord (rows.Delivered (p 1)) (rows.Applied (r 2) (changes.AddFrame (s 1) (n 1) (e 0 2) (s 2)) ∷ sent 1 1 0 2 (whys.Req (r 2)) (tasks.Populate (n 1) (s 2) (codes "about:blank") true) ∷ [])
    ∷ by_proc 1 (rows.Taken (p 1) (j 1) true false) []
    ∷ by_proc 1 (rows.Finished (p 1) (j 1) (outcomes.Populated None)) []
    ∷ by_coord (rows.Delivered (p 1)) (sent 2 1 0 2 (whys.Req (r 2)) (tasks.Activate (e 0 2) (epoch 1) 1 0 None (codes "about:blank")) ∷ [])
    ∷ by_proc 1 (rows.Taken (p 1) (j 2) true false) []
    ∷ by_proc 1 (rows.Finished (p 1) (j 2) outcomes.Activated) []
    ∷ by_coord (rows.Delivered (p 1)) []
    ∷ []

abbrev pub frame_after_a_replace_header : Header
frame_after_a_replace_header = record { keep = 3; sites = []; pages = []; first = codes "about:blank" }

pub frame_after_a_replace_is_legal : IsLegal (log_of frame_after_a_replace)
unfolding url_on_literals is_web is_blank_url judged judged_parse read_against address_of url_of resolved with_fragment base_of fragment_of origin_text origin_of has_same_base is_rewritable events_of each_event after_opening AtEachEvent is_numbered opens is_formed is_once is_caused is_queued is_ordered is_checked ends_settled loads_end ends_told ends_stepped goes_in_time
frame_after_a_replace_is_legal = record { opened = refl; numbered = refl; formed = refl; once = refl; caused = refl; queued = refl; ordered = refl; checked = refl; settled = refl }

pub frame_after_a_replace_ends_loads : LoadsEndInTime (log_of frame_after_a_replace)
unfolding url_on_literals is_web is_blank_url judged judged_parse read_against address_of url_of resolved with_fragment base_of fragment_of origin_text origin_of has_same_base is_rewritable events_of each_event after_opening AtEachEvent is_numbered opens is_formed is_once is_caused is_queued is_ordered is_checked ends_settled loads_end ends_told ends_stepped goes_in_time
frame_after_a_replace_ends_loads = refl

pub frame_after_a_replace_acts_at_once : ActsAtOnce (log_of frame_after_a_replace)
unfolding url_on_literals is_web is_blank_url judged judged_parse read_against address_of url_of resolved with_fragment base_of fragment_of origin_text origin_of has_same_base is_rewritable events_of each_event after_opening AtEachEvent is_numbered opens is_formed is_once is_caused is_queued is_ordered is_checked ends_settled loads_end ends_told ends_stepped goes_in_time
frame_after_a_replace_acts_at_once = record { told = refl; stepped = refl; in_time = refl }

pub frame_after_a_replace_suits : Suits frame_after_a_replace_header (log_of frame_after_a_replace)
unfolding url_on_literals is_web is_blank_url judged judged_parse read_against address_of url_of resolved with_fragment base_of fragment_of origin_text origin_of has_same_base is_rewritable events_of each_event after_opening AtEachEvent is_numbered opens is_formed is_once is_caused is_queued is_ordered is_checked ends_settled loads_end ends_told ends_stepped goes_in_time
frame_after_a_replace_suits = record { opened = refl; placed = refl; kept = refl }

-- A frame is added to a document that stands at two steps.
abbrev pub frame_at_a_later_step : List Event
frame_at_a_later_step =
    by_start (rows.Opened (e 0 1) (s 1) (d 1) (p 1) None (codes "http://a.test/")) []
    ∷ by_ui (rows.Accepted (r 1) (Some (d 1)) (requests.Poke (n 0) (actions.Push (Some (codes "s")) (Some (codes "/q0"))))) []
    ∷ by_proc 1 (made 1 1 1 1 (whats.Push (e 1 1) (Some (codes "s")) (codes "http://a.test/q0"))) []
    ∷ by_coord (rows.Delivered (p 1)) (rows.Applied (r 1) (changes.Push (n 0) (e 1 1) (s 1) (codes "http://a.test/q0") (Some (codes "s"))) ∷ sent 1 1 0 1 (whys.Req (r 1)) (tasks.Update 2 1) ∷ [])
    ∷ by_proc 1 (rows.Taken (p 1) (j 1) true false) []
    ∷ by_proc 1 (rows.Finished (p 1) (j 1) outcomes.Updated) []
    ∷ by_coord (rows.Delivered (p 1)) []
    ∷ by_ui (rows.Accepted (r 2) (Some (d 1)) (requests.Poke (n 0) (actions.AddFrame (n 1)))) []
    ∷ by_proc 1 (made 1 2 1 1 (whats.AddFrame (n 1))) []
    ∷ by_coord (rows.Delivered (p 1)) (rows.Applied (r 2) (changes.AddFrame (s 1) (n 1) (e 0 2) (s 2)) ∷ sent 2 1 0 2 (whys.Req (r 2)) (tasks.Populate (n 1) (s 2) (codes "about:blank") true) ∷ [])
    ∷ by_proc 1 (rows.Taken (p 1) (j 2) true false) []
    ∷ by_proc 1 (rows.Finished (p 1) (j 2) (outcomes.Populated None)) []
    ∷ by_coord (rows.Delivered (p 1)) (sent 3 1 0 2 (whys.Req (r 2)) (tasks.Activate (e 0 2) (epoch 1) 2 1 None (codes "about:blank")) ∷ [])
    ∷ by_proc 1 (rows.Taken (p 1) (j 3) true false) []
    ∷ by_proc 1 (rows.Finished (p 1) (j 3) outcomes.Activated) []
    ∷ by_coord (rows.Delivered (p 1)) []
    ∷ by_ui (rows.Accepted (r 3) (Some (d 1)) (requests.Poke (n 0) (actions.Push (Some (codes "s")) (Some (codes "/q1"))))) []
    ∷ by_proc 1 (made 1 3 1 1 (whats.Push (e 1 2) (Some (codes "s")) (codes "http://a.test/q1"))) []
    ∷ by_coord (rows.Delivered (p 1)) (rows.Applied (r 3) (changes.Push (n 0) (e 1 2) (s 1) (codes "http://a.test/q1") (Some (codes "s"))) ∷ sent 4 1 0 1 (whys.Req (r 3)) (tasks.Update 3 2) ∷ sent 5 1 0 2 (whys.Req (r 3)) (tasks.Update 3 2) ∷ [])
    ∷ by_proc 1 (rows.Taken (p 1) (j 4) true false) []
    ∷ by_proc 1 (rows.Finished (p 1) (j 4) outcomes.Updated) []
    ∷ by_coord (rows.Delivered (p 1)) []
    ∷ by_proc 1 (rows.Taken (p 1) (j 5) true false) []
    ∷ by_proc 1 (rows.Finished (p 1) (j 5) outcomes.Updated) []
    ∷ by_coord (rows.Delivered (p 1)) []
    ∷ by_ui (rows.Accepted (r 4) None (requests.Go (negsuc 1))) (rows.Started (r 4) (Some (t 0)) ∷ sent 6 1 0 1 (whys.Req (r 4)) (tasks.Activate (e 0 1) (epoch 2) 3 0 None (codes "http://a.test/")) ∷ [])
    ∷ by_proc 1 (rows.Taken (p 1) (j 6) true false) []
    ∷ by_proc 1 (rows.Finished (p 1) (j 6) outcomes.Activated) []
    ∷ by_coord (rows.Delivered (p 1)) (rows.Applied (r 4) (changes.Traverse (t 0)) ∷ sent 7 1 0 2 (whys.Req (r 4)) (tasks.Update 3 0) ∷ [])
    ∷ by_proc 1 (rows.Taken (p 1) (j 7) true false) []
    ∷ by_proc 1 (rows.Finished (p 1) (j 7) outcomes.Updated) []
    ∷ by_coord (rows.Delivered (p 1)) []
    ∷ []

pub frame_at_a_later_step_is_legal : IsLegal (log_of frame_at_a_later_step)
unfolding url_on_literals is_web is_blank_url judged judged_parse read_against address_of url_of resolved with_fragment base_of fragment_of origin_text origin_of has_same_base is_rewritable events_of each_event after_opening AtEachEvent is_numbered opens is_formed is_once is_caused is_queued is_ordered is_checked ends_settled loads_end ends_told ends_stepped goes_in_time
frame_at_a_later_step_is_legal = record { opened = refl; numbered = refl; formed = refl; once = refl; caused = refl; queued = refl; ordered = refl; checked = refl; settled = refl }

pub frame_at_a_later_step_ends_loads : LoadsEndInTime (log_of frame_at_a_later_step)
unfolding url_on_literals is_web is_blank_url judged judged_parse read_against address_of url_of resolved with_fragment base_of fragment_of origin_text origin_of has_same_base is_rewritable events_of each_event after_opening AtEachEvent is_numbered opens is_formed is_once is_caused is_queued is_ordered is_checked ends_settled loads_end ends_told ends_stepped goes_in_time
frame_at_a_later_step_ends_loads = refl

pub frame_at_a_later_step_acts_at_once : ActsAtOnce (log_of frame_at_a_later_step)
unfolding url_on_literals is_web is_blank_url judged judged_parse read_against address_of url_of resolved with_fragment base_of fragment_of origin_text origin_of has_same_base is_rewritable events_of each_event after_opening AtEachEvent is_numbered opens is_formed is_once is_caused is_queued is_ordered is_checked ends_settled loads_end ends_told ends_stepped goes_in_time
frame_at_a_later_step_acts_at_once = record { told = refl; stepped = refl; in_time = refl }

pub frame_at_a_later_step_suits : Suits plain_settings (log_of frame_at_a_later_step)
unfolding url_on_literals is_web is_blank_url judged judged_parse read_against address_of url_of resolved with_fragment base_of fragment_of origin_text origin_of has_same_base is_rewritable events_of each_event after_opening AtEachEvent is_numbered opens is_formed is_once is_caused is_queued is_ordered is_checked ends_settled loads_end ends_told ends_stepped goes_in_time
frame_at_a_later_step_suits = record { opened = refl; placed = refl; kept = refl }

-- A frame is added to a document that is neither the first nor the last.
abbrev pub frame_of_a_middle_document : List Event
frame_of_a_middle_document =
    before 11 push_over_a_kept_document
    ++ by_ui (rows.Accepted (r 2) None (requests.Load (n 0) modes.Push (codes "http://a.test/p0"))) (rows.Started (r 2) None ∷ sent 4 1 0 3 (whys.Req (r 2)) (tasks.Populate (n 0) (s 3) (codes "http://a.test/p0") false) ∷ [])
    ∷ by_proc 1 (rows.Taken (p 1) (j 4) true false) []
    ∷ by_proc 1 (rows.Finished (p 1) (j 4) (outcomes.Populated None)) []
    ∷ by_coord (rows.Delivered (p 1)) (rows.Applied (r 2) (changes.Push (n 0) (e 0 3) (s 3) (codes "http://a.test/p0") None) ∷ sent 5 1 0 2 (whys.Req (r 2)) tasks.Freeze ∷ sent 6 1 0 3 (whys.Req (r 2)) (tasks.Activate (e 0 3) (epoch 3) 3 2 None (codes "http://a.test/p0")) ∷ [])
    ∷ by_proc 1 (rows.Taken (p 1) (j 5) true false) []
    ∷ by_proc 1 (rows.Finished (p 1) (j 5) outcomes.Frozen) []
    ∷ by_coord (rows.Delivered (p 1)) []
    ∷ by_proc 1 (rows.Taken (p 1) (j 6) true false) []
    ∷ by_proc 1 (rows.Finished (p 1) (j 6) outcomes.Activated) []
    ∷ by_coord (rows.Delivered (p 1)) []
    ∷ by_ui (rows.Accepted (r 3) None (requests.Go (negsuc 0))) (rows.Started (r 3) (Some (t 1)) ∷ sent 7 1 0 3 (whys.Req (r 3)) tasks.Freeze ∷ sent 8 1 0 2 (whys.Req (r 3)) (tasks.Activate (e 0 2) (epoch 4) 3 1 None (codes "http://a.test/p1")) ∷ [])
    ∷ by_proc 1 (rows.Taken (p 1) (j 7) true false) []
    ∷ by_proc 1 (rows.Finished (p 1) (j 7) outcomes.Frozen) []
    ∷ by_coord (rows.Delivered (p 1)) []
    ∷ by_proc 1 (rows.Taken (p 1) (j 8) true false) []
    ∷ by_proc 1 (rows.Finished (p 1) (j 8) outcomes.Activated) []
    ∷ by_coord (rows.Delivered (p 1)) (rows.Applied (r 3) (changes.Traverse (t 1)) ∷ [])
    ∷ by_ui (rows.Accepted (r 4) (Some (d 2)) (requests.Poke (n 0) (actions.AddFrame (n 1)))) []
    ∷ by_proc 1 (made 1 4 2 4 (whats.AddFrame (n 1))) []
    ∷ by_coord (rows.Delivered (p 1)) (rows.Applied (r 4) (changes.AddFrame (s 2) (n 1) (e 0 4) (s 4)) ∷ sent 9 1 0 4 (whys.Req (r 4)) (tasks.Populate (n 1) (s 4) (codes "about:blank") true) ∷ [])
    ∷ by_proc 1 (rows.Taken (p 1) (j 9) true false) []
    ∷ by_proc 1 (rows.Finished (p 1) (j 9) (outcomes.Populated None)) []
    ∷ by_coord (rows.Delivered (p 1)) (sent 10 1 0 4 (whys.Req (r 4)) (tasks.Activate (e 0 4) (epoch 1) 3 1 None (codes "about:blank")) ∷ [])
    ∷ by_proc 1 (rows.Taken (p 1) (j 10) true false) []
    ∷ by_proc 1 (rows.Finished (p 1) (j 10) outcomes.Activated) []
    ∷ by_coord (rows.Delivered (p 1)) []
    ∷ []

pub frame_of_a_middle_document_is_legal : IsLegal (log_of frame_of_a_middle_document)
unfolding url_on_literals is_web is_blank_url judged judged_parse read_against address_of url_of resolved with_fragment base_of fragment_of origin_text origin_of has_same_base is_rewritable events_of each_event after_opening AtEachEvent is_numbered opens is_formed is_once is_caused is_queued is_ordered is_checked ends_settled loads_end ends_told ends_stepped goes_in_time
frame_of_a_middle_document_is_legal = record { opened = refl; numbered = refl; formed = refl; once = refl; caused = refl; queued = refl; ordered = refl; checked = refl; settled = refl }

pub frame_of_a_middle_document_ends_loads : LoadsEndInTime (log_of frame_of_a_middle_document)
unfolding url_on_literals is_web is_blank_url judged judged_parse read_against address_of url_of resolved with_fragment base_of fragment_of origin_text origin_of has_same_base is_rewritable events_of each_event after_opening AtEachEvent is_numbered opens is_formed is_once is_caused is_queued is_ordered is_checked ends_settled loads_end ends_told ends_stepped goes_in_time
frame_of_a_middle_document_ends_loads = refl

pub frame_of_a_middle_document_acts_at_once : ActsAtOnce (log_of frame_of_a_middle_document)
unfolding url_on_literals is_web is_blank_url judged judged_parse read_against address_of url_of resolved with_fragment base_of fragment_of origin_text origin_of has_same_base is_rewritable events_of each_event after_opening AtEachEvent is_numbered opens is_formed is_once is_caused is_queued is_ordered is_checked ends_settled loads_end ends_told ends_stepped goes_in_time
frame_of_a_middle_document_acts_at_once = record { told = refl; stepped = refl; in_time = refl }

pub frame_of_a_middle_document_suits : Suits plain_settings (log_of frame_of_a_middle_document)
unfolding url_on_literals is_web is_blank_url judged judged_parse read_against address_of url_of resolved with_fragment base_of fragment_of origin_text origin_of has_same_base is_rewritable events_of each_event after_opening AtEachEvent is_numbered opens is_formed is_once is_caused is_queued is_ordered is_checked ends_settled loads_end ends_told ends_stepped goes_in_time
frame_of_a_middle_document_suits = record { opened = refl; placed = refl; kept = refl }

-- A replace of the top leaves the load of a frame alone.
abbrev pub replace_above_a_load : List Event
replace_above_a_load =
    by_start (rows.Opened (e 0 1) (s 1) (d 1) (p 1) None (codes "about:blank")) []
    ∷ by_ui (rows.Accepted (r 1) (Some (d 1)) (requests.Poke (n 0) (actions.AddFrame (n 1)))) []
    ∷ by_proc 1 (made 1 1 1 1 (whats.AddFrame (n 1))) []
    ∷ by_coord (rows.Delivered (p 1)) (rows.Applied (r 1) (changes.AddFrame (s 1) (n 1) (e 0 2) (s 2)) ∷ sent 1 1 0 2 (whys.Req (r 1)) (tasks.Populate (n 1) (s 2) (codes "about:blank") true) ∷ [])
    ∷ by_proc 1 (rows.Taken (p 1) (j 1) true false) []
    ∷ by_proc 1 (rows.Finished (p 1) (j 1) (outcomes.Populated None)) []
    ∷ by_coord (rows.Delivered (p 1)) (sent 2 1 0 2 (whys.Req (r 1)) (tasks.Activate (e 0 2) (epoch 1) 1 0 None (codes "about:blank")) ∷ [])
    ∷ by_proc 1 (rows.Taken (p 1) (j 2) true false) []
    ∷ by_proc 1 (rows.Finished (p 1) (j 2) outcomes.Activated) []
    ∷ by_coord (rows.Delivered (p 1)) []
    ∷ by_ui (rows.Accepted (r 2) None (requests.Load (n 1) modes.Auto (codes "http://b.test/p0"))) (rows.Started (r 2) None ∷ sent 3 1 0 3 (whys.Req (r 2)) (tasks.Populate (n 1) (s 3) (codes "http://b.test/p0") false) ∷ [])
    ∷ by_ui (rows.Accepted (r 3) (Some (d 1)) (requests.Poke (n 0) (actions.Push (Some (codes "s")) None))) []
    ∷ by_proc 1 (made 1 3 1 1 (whats.Replace (e 0 1) (e 1 1) (Some (codes "s")) (codes "about:blank"))) []
    ∷ by_proc 1 (rows.Taken (p 1) (j 3) true false) []
    ∷ by_proc 1 (rows.Finished (p 1) (j 3) (outcomes.Populated None)) []
    ∷ by_coord (rows.Delivered (p 1)) (rows.Applied (r 3) (changes.Replace (n 0) (e 0 1) (e 1 1) (s 1) (codes "about:blank") (Some (codes "s"))) ∷ [])
    ∷ by_coord (rows.Delivered (p 1)) (rows.Applied (r 2) (changes.Replace (n 1) (e 0 2) (e 0 3) (s 3) (codes "http://b.test/p0") None) ∷ sent 4 1 0 2 (whys.Req (r 2)) tasks.Discard ∷ sent 5 1 0 3 (whys.Req (r 2)) (tasks.Activate (e 0 3) (epoch 2) 1 0 None (codes "http://b.test/p0")) ∷ [])
    ∷ by_proc 1 (rows.Taken (p 1) (j 4) true false) []
    ∷ by_proc 1 (rows.Finished (p 1) (j 4) outcomes.Discarded) []
    ∷ by_coord (rows.Delivered (p 1)) []
    ∷ by_proc 1 (rows.Taken (p 1) (j 5) true false) []
    ∷ by_proc 1 (rows.Finished (p 1) (j 5) outcomes.Activated) []
    ∷ by_coord (rows.Delivered (p 1)) []
    ∷ []

abbrev pub replace_above_a_load_header : Header
replace_above_a_load_header = record { keep = 3; sites = []; pages = []; first = codes "about:blank" }

pub replace_above_a_load_is_legal : IsLegal (log_of replace_above_a_load)
unfolding url_on_literals is_web is_blank_url judged judged_parse read_against address_of url_of resolved with_fragment base_of fragment_of origin_text origin_of has_same_base is_rewritable events_of each_event after_opening AtEachEvent is_numbered opens is_formed is_once is_caused is_queued is_ordered is_checked ends_settled loads_end ends_told ends_stepped goes_in_time
replace_above_a_load_is_legal = record { opened = refl; numbered = refl; formed = refl; once = refl; caused = refl; queued = refl; ordered = refl; checked = refl; settled = refl }

pub replace_above_a_load_ends_loads : LoadsEndInTime (log_of replace_above_a_load)
unfolding url_on_literals is_web is_blank_url judged judged_parse read_against address_of url_of resolved with_fragment base_of fragment_of origin_text origin_of has_same_base is_rewritable events_of each_event after_opening AtEachEvent is_numbered opens is_formed is_once is_caused is_queued is_ordered is_checked ends_settled loads_end ends_told ends_stepped goes_in_time
replace_above_a_load_ends_loads = refl

pub replace_above_a_load_acts_at_once : ActsAtOnce (log_of replace_above_a_load)
unfolding url_on_literals is_web is_blank_url judged judged_parse read_against address_of url_of resolved with_fragment base_of fragment_of origin_text origin_of has_same_base is_rewritable events_of each_event after_opening AtEachEvent is_numbered opens is_formed is_once is_caused is_queued is_ordered is_checked ends_settled loads_end ends_told ends_stepped goes_in_time
replace_above_a_load_acts_at_once = record { told = refl; stepped = refl; in_time = refl }

pub replace_above_a_load_suits : Suits replace_above_a_load_header (log_of replace_above_a_load)
unfolding url_on_literals is_web is_blank_url judged judged_parse read_against address_of url_of resolved with_fragment base_of fragment_of origin_text origin_of has_same_base is_rewritable events_of each_event after_opening AtEachEvent is_numbered opens is_formed is_once is_caused is_queued is_ordered is_checked ends_settled loads_end ends_told ends_stepped goes_in_time
replace_above_a_load_suits = record { opened = refl; placed = refl; kept = refl }

-- A load of a frame whose first document was never shown is dropped.
abbrev pub load_of_a_new_frame : List Event
load_of_a_new_frame =
    before 7 push_beside_a_frame
    ++ by_ui (rows.Accepted (r 2) None (requests.Load (n 1) modes.Auto (codes "http://a.test/f"))) (rows.Dropped (r 2) (drops.By (r 1)) ∷ [])
    ∷ by_proc 1 (rows.Taken (p 1) (j 2) true false) []
    ∷ by_proc 1 (rows.Finished (p 1) (j 2) outcomes.Activated) []
    ∷ by_coord (rows.Delivered (p 1)) []
    ∷ []

pub load_of_a_new_frame_is_legal : IsLegal (log_of load_of_a_new_frame)
unfolding url_on_literals is_web is_blank_url judged judged_parse read_against address_of url_of resolved with_fragment base_of fragment_of origin_text origin_of has_same_base is_rewritable events_of each_event after_opening AtEachEvent is_numbered opens is_formed is_once is_caused is_queued is_ordered is_checked ends_settled loads_end ends_told ends_stepped goes_in_time
load_of_a_new_frame_is_legal = record { opened = refl; numbered = refl; formed = refl; once = refl; caused = refl; queued = refl; ordered = refl; checked = refl; settled = refl }

pub load_of_a_new_frame_ends_loads : LoadsEndInTime (log_of load_of_a_new_frame)
unfolding url_on_literals is_web is_blank_url judged judged_parse read_against address_of url_of resolved with_fragment base_of fragment_of origin_text origin_of has_same_base is_rewritable events_of each_event after_opening AtEachEvent is_numbered opens is_formed is_once is_caused is_queued is_ordered is_checked ends_settled loads_end ends_told ends_stepped goes_in_time
load_of_a_new_frame_ends_loads = refl

pub load_of_a_new_frame_acts_at_once : ActsAtOnce (log_of load_of_a_new_frame)
unfolding url_on_literals is_web is_blank_url judged judged_parse read_against address_of url_of resolved with_fragment base_of fragment_of origin_text origin_of has_same_base is_rewritable events_of each_event after_opening AtEachEvent is_numbered opens is_formed is_once is_caused is_queued is_ordered is_checked ends_settled loads_end ends_told ends_stepped goes_in_time
load_of_a_new_frame_acts_at_once = record { told = refl; stepped = refl; in_time = refl }

pub load_of_a_new_frame_suits : Suits plain_settings (log_of load_of_a_new_frame)
unfolding url_on_literals is_web is_blank_url judged judged_parse read_against address_of url_of resolved with_fragment base_of fragment_of origin_text origin_of has_same_base is_rewritable events_of each_event after_opening AtEachEvent is_numbered opens is_formed is_once is_caused is_queued is_ordered is_checked ends_settled loads_end ends_told ends_stepped goes_in_time
load_of_a_new_frame_suits = record { opened = refl; placed = refl; kept = refl }

-- A replace tidies away the entries of the current step.
abbrev pub current_step_without_entry : List Event
current_step_without_entry =
    before 33 fragment_beside_a_traversal
    ++ by_ui (rows.Accepted (r 4) None (requests.Load (n 0) modes.Replace (codes "http://a.test/x"))) (rows.Started (r 4) None ∷ sent 10 1 0 5 (whys.Req (r 4)) (tasks.Populate (n 0) (s 5) (codes "http://a.test/x") false) ∷ [])
    ∷ by_proc 1 (rows.Taken (p 1) (j 10) true false) []
    ∷ by_proc 1 (rows.Finished (p 1) (j 10) (outcomes.Populated None)) []
    ∷ by_coord (rows.Delivered (p 1)) (rows.Applied (r 4) (changes.Replace (n 0) (e 0 1) (e 0 5) (s 5) (codes "http://a.test/x") None) ∷ sent 11 1 0 1 (whys.Req (r 4)) tasks.Discard ∷ sent 12 1 0 3 (whys.Req (r 4)) tasks.Discard ∷ sent 13 1 0 4 (whys.Req (r 4)) tasks.Discard ∷ sent 14 1 0 5 (whys.Req (r 4)) (tasks.Activate (e 0 5) (epoch 2) 1 0 None (codes "http://a.test/x")) ∷ [])
    ∷ by_proc 1 (rows.Taken (p 1) (j 11) true false) []
    ∷ by_proc 1 (rows.Finished (p 1) (j 11) outcomes.Discarded) []
    ∷ by_coord (rows.Delivered (p 1)) []
    ∷ by_proc 1 (rows.Taken (p 1) (j 12) true false) []
    ∷ by_proc 1 (rows.Finished (p 1) (j 12) outcomes.Discarded) []
    ∷ by_coord (rows.Delivered (p 1)) []
    ∷ by_proc 1 (rows.Taken (p 1) (j 13) true false) []
    ∷ by_proc 1 (rows.Finished (p 1) (j 13) outcomes.Discarded) []
    ∷ by_coord (rows.Delivered (p 1)) []
    ∷ by_proc 1 (rows.Taken (p 1) (j 14) true false) []
    ∷ by_proc 1 (rows.Finished (p 1) (j 14) outcomes.Activated) []
    ∷ by_coord (rows.Delivered (p 1)) []
    ∷ []

pub current_step_without_entry_is_legal : IsLegal (log_of current_step_without_entry)
unfolding url_on_literals is_web is_blank_url judged judged_parse read_against address_of url_of resolved with_fragment base_of fragment_of origin_text origin_of has_same_base is_rewritable events_of each_event after_opening AtEachEvent is_numbered opens is_formed is_once is_caused is_queued is_ordered is_checked ends_settled loads_end ends_told ends_stepped goes_in_time
current_step_without_entry_is_legal = record { opened = refl; numbered = refl; formed = refl; once = refl; caused = refl; queued = refl; ordered = refl; checked = refl; settled = refl }

pub current_step_without_entry_ends_loads : LoadsEndInTime (log_of current_step_without_entry)
unfolding url_on_literals is_web is_blank_url judged judged_parse read_against address_of url_of resolved with_fragment base_of fragment_of origin_text origin_of has_same_base is_rewritable events_of each_event after_opening AtEachEvent is_numbered opens is_formed is_once is_caused is_queued is_ordered is_checked ends_settled loads_end ends_told ends_stepped goes_in_time
current_step_without_entry_ends_loads = refl

pub current_step_without_entry_acts_at_once : ActsAtOnce (log_of current_step_without_entry)
unfolding url_on_literals is_web is_blank_url judged judged_parse read_against address_of url_of resolved with_fragment base_of fragment_of origin_text origin_of has_same_base is_rewritable events_of each_event after_opening AtEachEvent is_numbered opens is_formed is_once is_caused is_queued is_ordered is_checked ends_settled loads_end ends_told ends_stepped goes_in_time
current_step_without_entry_acts_at_once = record { told = refl; stepped = refl; in_time = refl }

pub current_step_without_entry_suits : Suits plain_settings (log_of current_step_without_entry)
unfolding url_on_literals is_web is_blank_url judged judged_parse read_against address_of url_of resolved with_fragment base_of fragment_of origin_text origin_of has_same_base is_rewritable events_of each_event after_opening AtEachEvent is_numbered opens is_formed is_once is_caused is_queued is_ordered is_checked ends_settled loads_end ends_told ends_stepped goes_in_time
current_step_without_entry_suits = record { opened = refl; placed = refl; kept = refl }

-- A load while a traversal moves another navigable.
abbrev pub load_while_frames_are_moved : List Event
load_while_frames_are_moved =
    before 20 fragment_beside_a_reload
    ++ by_ui (rows.Accepted (r 3) (Some (d 1)) (requests.Poke (n 0) (actions.Push (Some (codes "s")) None))) []
    ∷ by_proc 1 (made 1 3 1 1 (whats.Push (e 1 1) (Some (codes "s")) (codes "http://a.test/"))) []
    ∷ by_coord (rows.Delivered (p 1)) (rows.Applied (r 3) (changes.Push (n 0) (e 1 1) (s 1) (codes "http://a.test/") (Some (codes "s"))) ∷ sent 6 1 0 1 (whys.Req (r 3)) (tasks.Update 2 1) ∷ sent 7 2 0 3 (whys.Req (r 3)) (tasks.Update 2 1) ∷ [])
    ∷ by_proc 2 (rows.Taken (p 2) (j 7) true false) []
    ∷ by_proc 2 (rows.Finished (p 2) (j 7) outcomes.Updated) []
    ∷ by_coord (rows.Delivered (p 2)) []
    ∷ by_proc 1 (rows.Taken (p 1) (j 6) true false) []
    ∷ by_proc 1 (rows.Finished (p 1) (j 6) outcomes.Updated) []
    ∷ by_coord (rows.Delivered (p 1)) []
    ∷ by_ui (rows.Accepted (r 4) None (requests.Load (n 1) modes.Auto (codes "http://b.test/g"))) (rows.Started (r 4) None ∷ sent 8 2 0 4 (whys.Req (r 4)) (tasks.Populate (n 1) (s 4) (codes "http://b.test/g") false) ∷ [])
    ∷ by_proc 2 (rows.Taken (p 2) (j 8) true false) []
    ∷ by_proc 2 (rows.Finished (p 2) (j 8) (outcomes.Populated None)) []
    ∷ by_coord (rows.Delivered (p 2)) (rows.Applied (r 4) (changes.Push (n 1) (e 0 4) (s 4) (codes "http://b.test/g") None) ∷ sent 9 2 0 3 (whys.Req (r 4)) tasks.Freeze ∷ sent 10 2 0 4 (whys.Req (r 4)) (tasks.Activate (e 0 4) (epoch 3) 3 2 None (codes "http://b.test/g")) ∷ sent 11 1 0 1 (whys.Req (r 4)) (tasks.Update 3 2) ∷ [])
    ∷ by_proc 1 (rows.Taken (p 1) (j 11) true false) []
    ∷ by_proc 1 (rows.Finished (p 1) (j 11) outcomes.Updated) []
    ∷ by_coord (rows.Delivered (p 1)) []
    ∷ by_proc 2 (rows.Taken (p 2) (j 9) true false) []
    ∷ by_proc 2 (rows.Finished (p 2) (j 9) outcomes.Frozen) []
    ∷ by_coord (rows.Delivered (p 2)) []
    ∷ by_proc 2 (rows.Taken (p 2) (j 10) true false) []
    ∷ by_proc 2 (rows.Finished (p 2) (j 10) outcomes.Activated) []
    ∷ by_coord (rows.Delivered (p 2)) []
    ∷ by_ui (rows.Accepted (r 5) None (requests.Go (negsuc 1))) (rows.Started (r 5) (Some (t 0)) ∷ sent 12 1 0 1 (whys.Req (r 5)) (tasks.Activate (e 0 1) (epoch 2) 3 0 None (codes "http://a.test/")) ∷ sent 13 2 0 4 (whys.Req (r 5)) tasks.Freeze ∷ sent 14 2 0 3 (whys.Req (r 5)) (tasks.Activate (e 0 3) (epoch 4) 3 0 None (codes "http://b.test/f")) ∷ [])
    ∷ by_proc 1 (rows.Taken (p 1) (j 12) true false) []
    ∷ by_proc 1 (rows.Finished (p 1) (j 12) outcomes.Activated) []
    ∷ by_coord (rows.Delivered (p 1)) []
    ∷ by_ui (rows.Accepted (r 6) None (requests.Load (n 0) modes.Auto (codes "http://a.test/p1"))) (rows.Started (r 6) None ∷ sent 15 1 0 5 (whys.Req (r 6)) (tasks.Populate (n 0) (s 5) (codes "http://a.test/p1") false) ∷ [])
    ∷ by_proc 1 (rows.Taken (p 1) (j 15) true false) []
    ∷ by_proc 1 (rows.Finished (p 1) (j 15) (outcomes.Populated None)) []
    ∷ by_coord (rows.Delivered (p 1)) []
    ∷ by_proc 2 (rows.Taken (p 2) (j 13) true false) []
    ∷ by_proc 2 (rows.Finished (p 2) (j 13) outcomes.Frozen) []
    ∷ by_coord (rows.Delivered (p 2)) []
    ∷ by_proc 2 (rows.Taken (p 2) (j 14) true false) []
    ∷ by_proc 2 (rows.Finished (p 2) (j 14) outcomes.Activated) []
    ∷ by_coord (rows.Delivered (p 2)) (rows.Applied (r 5) (changes.Traverse (t 0)) ∷ rows.Applied (r 6) (changes.Push (n 0) (e 0 5) (s 5) (codes "http://a.test/p1") None) ∷ sent 16 2 0 4 (whys.Req (r 6)) tasks.Discard ∷ sent 17 1 0 1 (whys.Req (r 6)) tasks.Freeze ∷ sent 18 2 0 3 (whys.Req (r 6)) tasks.Freeze ∷ sent 19 1 0 5 (whys.Req (r 6)) (tasks.Activate (e 0 5) (epoch 3) 2 1 None (codes "http://a.test/p1")) ∷ [])
    ∷ by_proc 1 (rows.Taken (p 1) (j 17) true false) []
    ∷ by_proc 1 (rows.Finished (p 1) (j 17) outcomes.Frozen) []
    ∷ by_coord (rows.Delivered (p 1)) []
    ∷ by_proc 2 (rows.Taken (p 2) (j 16) true false) []
    ∷ by_proc 2 (rows.Finished (p 2) (j 16) outcomes.Discarded) []
    ∷ by_coord (rows.Delivered (p 2)) []
    ∷ by_proc 1 (rows.Taken (p 1) (j 19) true false) []
    ∷ by_proc 1 (rows.Finished (p 1) (j 19) outcomes.Activated) []
    ∷ by_coord (rows.Delivered (p 1)) []
    ∷ by_proc 2 (rows.Taken (p 2) (j 18) true false) []
    ∷ by_proc 2 (rows.Finished (p 2) (j 18) outcomes.Frozen) []
    ∷ by_coord (rows.Delivered (p 2)) []
    ∷ []

abbrev pub load_while_frames_are_moved_header : Header
load_while_frames_are_moved_header = record { keep = 3; sites = record { origin = codes "http://b.test"; proc = p 2 } ∷ []; pages = []; first = codes "http://a.test/" }

pub load_while_frames_are_moved_is_legal : IsLegal (log_of load_while_frames_are_moved)
unfolding url_on_literals is_web is_blank_url judged judged_parse read_against address_of url_of resolved with_fragment base_of fragment_of origin_text origin_of has_same_base is_rewritable events_of each_event after_opening AtEachEvent is_numbered opens is_formed is_once is_caused is_queued is_ordered is_checked ends_settled loads_end ends_told ends_stepped goes_in_time
load_while_frames_are_moved_is_legal = record { opened = refl; numbered = refl; formed = refl; once = refl; caused = refl; queued = refl; ordered = refl; checked = refl; settled = refl }

pub load_while_frames_are_moved_ends_loads : LoadsEndInTime (log_of load_while_frames_are_moved)
unfolding url_on_literals is_web is_blank_url judged judged_parse read_against address_of url_of resolved with_fragment base_of fragment_of origin_text origin_of has_same_base is_rewritable events_of each_event after_opening AtEachEvent is_numbered opens is_formed is_once is_caused is_queued is_ordered is_checked ends_settled loads_end ends_told ends_stepped goes_in_time
load_while_frames_are_moved_ends_loads = refl

pub load_while_frames_are_moved_acts_at_once : ActsAtOnce (log_of load_while_frames_are_moved)
unfolding url_on_literals is_web is_blank_url judged judged_parse read_against address_of url_of resolved with_fragment base_of fragment_of origin_text origin_of has_same_base is_rewritable events_of each_event after_opening AtEachEvent is_numbered opens is_formed is_once is_caused is_queued is_ordered is_checked ends_settled loads_end ends_told ends_stepped goes_in_time
load_while_frames_are_moved_acts_at_once = record { told = refl; stepped = refl; in_time = refl }

pub load_while_frames_are_moved_suits : Suits load_while_frames_are_moved_header (log_of load_while_frames_are_moved)
unfolding url_on_literals is_web is_blank_url judged judged_parse read_against address_of url_of resolved with_fragment base_of fragment_of origin_text origin_of has_same_base is_rewritable events_of each_event after_opening AtEachEvent is_numbered opens is_formed is_once is_caused is_queued is_ordered is_checked ends_settled loads_end ends_told ends_stepped goes_in_time
load_while_frames_are_moved_suits = record { opened = refl; placed = refl; kept = refl }
