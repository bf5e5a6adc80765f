-- Legal logs: removals.
-- A log is its events: those before one of another log, since one, or between two, and its own.
use Rattle.std.proofs.Common.{pos, negsuc, true, false, List, [], ◌∷◌, ◌++◌, codes, refl, Some, None}
use Rattle.url.proofs.OnLiterals.{url_on_literals}
use Rattle.address.specs.Addresses.{is_web, is_blank_url, judged, judged_parse, read_against, address_of, url_of, resolved, with_fragment, base_of, fragment_of, origin_text, origin_of, has_same_base, is_rewritable}
use Rattle.log_model.specs.declared.action.Action.TheVariants as actions
use Rattle.log_model.specs.declared.change.Change.TheVariants as changes
use Rattle.log_model.specs.declared.job.Task.TheVariants as tasks
use Rattle.log_model.specs.declared.job.Why.TheVariants as whys
use Rattle.log_model.specs.declared.made.What.TheVariants as whats
use Rattle.log_model.specs.declared.outcome.Cause.TheVariants as drops
use Rattle.log_model.specs.declared.outcome.Denial.TheVariants as denials
use Rattle.log_model.specs.declared.outcome.Outcome.TheVariants as outcomes
use Rattle.log_model.specs.declared.request.Mode.TheVariants as modes
use Rattle.log_model.specs.declared.request.Request.TheVariants as requests
use Rattle.log_model.specs.declared.row_kind.RowKind.TheVariants as rows
use Rattle.log_model.specs.Events.{events_of, each_event, after_opening, AtEachEvent}
use Rattle.log_model.specs.Formed.{is_numbered}
use Rattle.log_model.specs.Legal.{IsLegal, opens, is_formed, is_once, is_caused, is_queued, is_ordered, is_checked, ends_settled}
use Rattle.log_model.specs.LoadsEndInTime.{LoadsEndInTime, loads_end}
use Rattle.log_model.specs.ActsAtOnce.{ActsAtOnce, ends_told, ends_stepped, goes_in_time}
use Rattle.log_model.specs.Suits.{Suits}
use Rattle.log_model.specs.declared.header.Header.{Header}
use Rattle.log_examples.specs.Rows.{n, s, r, p, t, d, j, e, epoch, sent, made}
use Rattle.log_examples.specs.Logs.{Event, by_ui, by_coord, by_proc, log_of, before, plain_settings}
use Rattle.log_examples.proofs.Pushes.{push_beside_a_frame}
use Rattle.log_examples.proofs.Interleavings.{held_back_push}
use Rattle.log_examples.proofs.Loads.{fragment_beside_a_reload}
use Rattle.log_examples.proofs.Frames.{frame_loads_and_fragment}

-- A frame is loaded twice and removed; its steps go with it.
abbrev pub removed_frame : List Event
removed_frame =
    before 33 frame_loads_and_fragment
    ++ by_ui (rows.Accepted (r 4) (Some (d 1)) (requests.Poke (n 0) (actions.RemoveFrame (n 1)))) []
    ∷ by_proc 1 (made 1 4 1 1 (whats.RemoveFrame (n 1))) []
    ∷ by_coord (rows.Delivered (p 1)) (rows.Applied (r 4) (changes.RemoveFrame (n 1)) ∷ sent 10 1 0 3 (whys.Req (r 4)) tasks.Discard ∷ sent 11 1 0 4 (whys.Req (r 4)) tasks.Discard ∷ sent 12 1 0 1 (whys.Req (r 4)) (tasks.Update 1 0) ∷ [])
    ∷ by_proc 1 (rows.Taken (p 1) (j 10) true false) []
    ∷ by_proc 1 (rows.Finished (p 1) (j 10) outcomes.Discarded) []
    ∷ by_coord (rows.Delivered (p 1)) []
    ∷ by_proc 1 (rows.Taken (p 1) (j 11) true false) []
    ∷ by_proc 1 (rows.Finished (p 1) (j 11) outcomes.Discarded) []
    ∷ by_coord (rows.Delivered (p 1)) []
    ∷ by_proc 1 (rows.Taken (p 1) (j 12) true false) []
    ∷ by_proc 1 (rows.Finished (p 1) (j 12) outcomes.Updated) []
    ∷ by_coord (rows.Delivered (p 1)) []
    ∷ []

pub removed_frame_is_legal : IsLegal (log_of removed_frame)
unfolding url_on_literals is_web is_blank_url judged judged_parse read_against address_of url_of resolved with_fragment base_of fragment_of origin_text origin_of has_same_base is_rewritable events_of each_event after_opening AtEachEvent is_numbered opens is_formed is_once is_caused is_queued is_ordered is_checked ends_settled loads_end ends_told ends_stepped goes_in_time
removed_frame_is_legal = record { opened = refl; numbered = refl; formed = refl; once = refl; caused = refl; queued = refl; ordered = refl; checked = refl; settled = refl }

pub removed_frame_ends_loads : LoadsEndInTime (log_of removed_frame)
unfolding url_on_literals is_web is_blank_url judged judged_parse read_against address_of url_of resolved with_fragment base_of fragment_of origin_text origin_of has_same_base is_rewritable events_of each_event after_opening AtEachEvent is_numbered opens is_formed is_once is_caused is_queued is_ordered is_checked ends_settled loads_end ends_told ends_stepped goes_in_time
removed_frame_ends_loads = refl

pub removed_frame_acts_at_once : ActsAtOnce (log_of removed_frame)
unfolding url_on_literals is_web is_blank_url judged judged_parse read_against address_of url_of resolved with_fragment base_of fragment_of origin_text origin_of has_same_base is_rewritable events_of each_event after_opening AtEachEvent is_numbered opens is_formed is_once is_caused is_queued is_ordered is_checked ends_settled loads_end ends_told ends_stepped goes_in_time
removed_frame_acts_at_once = record { told = refl; stepped = refl; in_time = refl }

pub removed_frame_suits : Suits plain_settings (log_of removed_frame)
unfolding url_on_literals is_web is_blank_url judged judged_parse read_against address_of url_of resolved with_fragment base_of fragment_of origin_text origin_of has_same_base is_rewritable events_of each_event after_opening AtEachEvent is_numbered opens is_formed is_once is_caused is_queued is_ordered is_checked ends_settled loads_end ends_told ends_stepped goes_in_time
removed_frame_suits = record { opened = refl; placed = refl; kept = refl }

-- The step of a removed frame is no longer used, and a push follows the one before it.
abbrev pub push_after_a_removal : List Event
push_after_a_removal =
    removed_frame
    ++ by_ui (rows.Accepted (r 5) (Some (d 1)) (requests.Poke (n 0) (actions.Push (Some (codes "s")) (Some (codes "/1"))))) []
    ∷ by_proc 1 (made 1 5 1 1 (whats.Push (e 1 1) (Some (codes "s")) (codes "http://a.test/1"))) []
    ∷ by_coord (rows.Delivered (p 1)) (rows.Applied (r 5) (changes.Push (n 0) (e 1 1) (s 1) (codes "http://a.test/1") (Some (codes "s"))) ∷ sent 13 1 0 1 (whys.Req (r 5)) (tasks.Update 2 1) ∷ [])
    ∷ by_proc 1 (rows.Taken (p 1) (j 13) true false) []
    ∷ by_proc 1 (rows.Finished (p 1) (j 13) outcomes.Updated) []
    ∷ by_coord (rows.Delivered (p 1)) []
    ∷ by_ui (rows.Accepted (r 6) None (requests.Go (negsuc 0))) (rows.Started (r 6) (Some (t 0)) ∷ sent 14 1 0 1 (whys.Req (r 6)) (tasks.Activate (e 0 1) (epoch 2) 2 0 None (codes "http://a.test/")) ∷ [])
    ∷ by_proc 1 (rows.Taken (p 1) (j 14) true false) []
    ∷ by_proc 1 (rows.Finished (p 1) (j 14) outcomes.Activated) []
    ∷ by_coord (rows.Delivered (p 1)) (rows.Applied (r 6) (changes.Traverse (t 0)) ∷ [])
    ∷ by_ui (rows.Accepted (r 7) None (requests.Go (pos 1))) (rows.Started (r 7) (Some (t 1)) ∷ sent 15 1 0 1 (whys.Req (r 7)) (tasks.Activate (e 1 1) (epoch 3) 2 1 (Some (codes "s")) (codes "http://a.test/1")) ∷ [])
    ∷ by_proc 1 (rows.Taken (p 1) (j 15) true false) []
    ∷ by_proc 1 (rows.Finished (p 1) (j 15) outcomes.Activated) []
    ∷ by_coord (rows.Delivered (p 1)) (rows.Applied (r 7) (changes.Traverse (t 1)) ∷ [])
    ∷ []

pub push_after_a_removal_is_legal : IsLegal (log_of push_after_a_removal)
unfolding url_on_literals is_web is_blank_url judged judged_parse read_against address_of url_of resolved with_fragment base_of fragment_of origin_text origin_of has_same_base is_rewritable events_of each_event after_opening AtEachEvent is_numbered opens is_formed is_once is_caused is_queued is_ordered is_checked ends_settled loads_end ends_told ends_stepped goes_in_time
push_after_a_removal_is_legal = record { opened = refl; numbered = refl; formed = refl; once = refl; caused = refl; queued = refl; ordered = refl; checked = refl; settled = refl }

pub push_after_a_removal_ends_loads : LoadsEndInTime (log_of push_after_a_removal)
unfolding url_on_literals is_web is_blank_url judged judged_parse read_against address_of url_of resolved with_fragment base_of fragment_of origin_text origin_of has_same_base is_rewritable events_of each_event after_opening AtEachEvent is_numbered opens is_formed is_once is_caused is_queued is_ordered is_checked ends_settled loads_end ends_told ends_stepped goes_in_time
push_after_a_removal_ends_loads = refl

pub push_after_a_removal_acts_at_once : ActsAtOnce (log_of push_after_a_removal)
unfolding url_on_literals is_web is_blank_url judged judged_parse read_against address_of url_of resolved with_fragment base_of fragment_of origin_text origin_of has_same_base is_rewritable events_of each_event after_opening AtEachEvent is_numbered opens is_formed is_once is_caused is_queued is_ordered is_checked ends_settled loads_end ends_told ends_stepped goes_in_time
push_after_a_removal_acts_at_once = record { told = refl; stepped = refl; in_time = refl }

pub push_after_a_removal_suits : Suits plain_settings (log_of push_after_a_removal)
unfolding url_on_literals is_web is_blank_url judged judged_parse read_against address_of url_of resolved with_fragment base_of fragment_of origin_text origin_of has_same_base is_rewritable events_of each_event after_opening AtEachEvent is_numbered opens is_formed is_once is_caused is_queued is_ordered is_checked ends_settled loads_end ends_told ends_stepped goes_in_time
push_after_a_removal_suits = record { opened = refl; placed = refl; kept = refl }

-- A document removes a frame that another document has.
abbrev pub removal_of_a_frame_of_another : List Event
removal_of_a_frame_of_another =
    before 10 push_beside_a_frame
    ++ by_ui (rows.Accepted (r 2) (Some (d 2)) (requests.Poke (n 1) (actions.AddFrame (n 2)))) []
    ∷ by_proc 1 (made 1 2 2 1 (whats.AddFrame (n 2))) []
    ∷ by_coord (rows.Delivered (p 1)) (rows.Applied (r 2) (changes.AddFrame (s 2) (n 2) (e 0 3) (s 3)) ∷ sent 3 1 0 3 (whys.Req (r 2)) (tasks.Populate (n 2) (s 3) (codes "about:blank") true) ∷ [])
    ∷ by_proc 1 (rows.Taken (p 1) (j 3) true false) []
    ∷ by_proc 1 (rows.Finished (p 1) (j 3) (outcomes.Populated None)) []
    ∷ by_coord (rows.Delivered (p 1)) (sent 4 1 0 3 (whys.Req (r 2)) (tasks.Activate (e 0 3) (epoch 1) 1 0 None (codes "about:blank")) ∷ [])
    ∷ by_proc 1 (rows.Taken (p 1) (j 4) true false) []
    ∷ by_proc 1 (rows.Finished (p 1) (j 4) outcomes.Activated) []
    ∷ by_coord (rows.Delivered (p 1)) []
    ∷ by_ui (rows.Accepted (r 3) (Some (d 1)) (requests.Poke (n 0) (actions.RemoveFrame (n 2)))) []
    ∷ by_proc 1 (made 1 3 1 1 (whats.RemoveFrame (n 2))) []
    ∷ by_coord (rows.Delivered (p 1)) (rows.Refused (r 3) denials.NoNavigable ∷ [])
    ∷ []

pub removal_of_a_frame_of_another_is_legal : IsLegal (log_of removal_of_a_frame_of_another)
unfolding url_on_literals is_web is_blank_url judged judged_parse read_against address_of url_of resolved with_fragment base_of fragment_of origin_text origin_of has_same_base is_rewritable events_of each_event after_opening AtEachEvent is_numbered opens is_formed is_once is_caused is_queued is_ordered is_checked ends_settled loads_end ends_told ends_stepped goes_in_time
removal_of_a_frame_of_another_is_legal = record { opened = refl; numbered = refl; formed = refl; once = refl; caused = refl; queued = refl; ordered = refl; checked = refl; settled = refl }

pub removal_of_a_frame_of_another_ends_loads : LoadsEndInTime (log_of removal_of_a_frame_of_another)
unfolding url_on_literals is_web is_blank_url judged judged_parse read_against address_of url_of resolved with_fragment base_of fragment_of origin_text origin_of has_same_base is_rewritable events_of each_event after_opening AtEachEvent is_numbered opens is_formed is_once is_caused is_queued is_ordered is_checked ends_settled loads_end ends_told ends_stepped goes_in_time
removal_of_a_frame_of_another_ends_loads = refl

pub removal_of_a_frame_of_another_acts_at_once : ActsAtOnce (log_of removal_of_a_frame_of_another)
unfolding url_on_literals is_web is_blank_url judged judged_parse read_against address_of url_of resolved with_fragment base_of fragment_of origin_text origin_of has_same_base is_rewritable events_of each_event after_opening AtEachEvent is_numbered opens is_formed is_once is_caused is_queued is_ordered is_checked ends_settled loads_end ends_told ends_stepped goes_in_time
removal_of_a_frame_of_another_acts_at_once = record { told = refl; stepped = refl; in_time = refl }

pub removal_of_a_frame_of_another_suits : Suits plain_settings (log_of removal_of_a_frame_of_another)
unfolding url_on_literals is_web is_blank_url judged judged_parse read_against address_of url_of resolved with_fragment base_of fragment_of origin_text origin_of has_same_base is_rewritable events_of each_event after_opening AtEachEvent is_numbered opens is_formed is_once is_caused is_queued is_ordered is_checked ends_settled loads_end ends_told ends_stepped goes_in_time
removal_of_a_frame_of_another_suits = record { opened = refl; placed = refl; kept = refl }

-- A push of a frame that was removed is dropped.
abbrev pub push_of_a_removed_frame : List Event
push_of_a_removed_frame =
    before 10 push_beside_a_frame
    ++ by_ui (rows.Accepted (r 2) (Some (d 1)) (requests.Poke (n 0) (actions.RemoveFrame (n 1)))) []
    ∷ by_ui (rows.Accepted (r 3) (Some (d 2)) (requests.Poke (n 1) (actions.Push (Some (codes "s")) None))) []
    ∷ by_proc 1 (made 1 2 1 1 (whats.RemoveFrame (n 1))) []
    ∷ by_coord (rows.Delivered (p 1)) (rows.Applied (r 2) (changes.RemoveFrame (n 1)) ∷ sent 3 1 0 2 (whys.Req (r 2)) tasks.Discard ∷ [])
    ∷ by_proc 1 (made 1 3 2 1 (whats.Replace (e 0 2) (e 2 1) (Some (codes "s")) (codes "about:blank"))) []
    ∷ by_proc 1 (rows.Taken (p 1) (j 3) true false) []
    ∷ by_proc 1 (rows.Finished (p 1) (j 3) outcomes.Discarded) []
    ∷ by_coord (rows.Delivered (p 1)) (rows.Dropped (r 3) (drops.Destroyed (r 2)) ∷ [])
    ∷ by_coord (rows.Delivered (p 1)) []
    ∷ []

pub push_of_a_removed_frame_is_legal : IsLegal (log_of push_of_a_removed_frame)
unfolding url_on_literals is_web is_blank_url judged judged_parse read_against address_of url_of resolved with_fragment base_of fragment_of origin_text origin_of has_same_base is_rewritable events_of each_event after_opening AtEachEvent is_numbered opens is_formed is_once is_caused is_queued is_ordered is_checked ends_settled loads_end ends_told ends_stepped goes_in_time
push_of_a_removed_frame_is_legal = record { opened = refl; numbered = refl; formed = refl; once = refl; caused = refl; queued = refl; ordered = refl; checked = refl; settled = refl }

pub push_of_a_removed_frame_ends_loads : LoadsEndInTime (log_of push_of_a_removed_frame)
unfolding url_on_literals is_web is_blank_url judged judged_parse read_against address_of url_of resolved with_fragment base_of fragment_of origin_text origin_of has_same_base is_rewritable events_of each_event after_opening AtEachEvent is_numbered opens is_formed is_once is_caused is_queued is_ordered is_checked ends_settled loads_end ends_told ends_stepped goes_in_time
push_of_a_removed_frame_ends_loads = refl

pub push_of_a_removed_frame_acts_at_once : ActsAtOnce (log_of push_of_a_removed_frame)
unfolding url_on_literals is_web is_blank_url judged judged_parse read_against address_of url_of resolved with_fragment base_of fragment_of origin_text origin_of has_same_base is_rewritable events_of each_event after_opening AtEachEvent is_numbered opens is_formed is_once is_caused is_queued is_ordered is_checked ends_settled loads_end ends_told ends_stepped goes_in_time
push_of_a_removed_frame_acts_at_once = record { told = refl; stepped = refl; in_time = refl }

pub push_of_a_removed_frame_suits : Suits plain_settings (log_of push_of_a_removed_frame)
unfolding url_on_literals is_web is_blank_url judged judged_parse read_against address_of url_of resolved with_fragment base_of fragment_of origin_text origin_of has_same_base is_rewritable events_of each_event after_opening AtEachEvent is_numbered opens is_formed is_once is_caused is_queued is_ordered is_checked ends_settled loads_end ends_told ends_stepped goes_in_time
push_of_a_removed_frame_suits = record { opened = refl; placed = refl; kept = refl }

-- A removal and a push that are taken up together.
abbrev pub removal_and_push : List Event
removal_and_push =
    before 20 held_back_push
    ++ by_ui (rows.Accepted (r 3) None (requests.Load (n 1) modes.Auto (codes "http://a.test/f2"))) (rows.Started (r 3) None ∷ sent 6 1 0 4 (whys.Req (r 3)) (tasks.Populate (n 1) (s 4) (codes "http://a.test/f2") false) ∷ [])
    ∷ by_proc 1 (rows.Taken (p 1) (j 6) true false) []
    ∷ by_proc 1 (rows.Finished (p 1) (j 6) (outcomes.Populated None)) []
    ∷ by_coord (rows.Delivered (p 1)) (rows.Applied (r 3) (changes.Push (n 1) (e 0 4) (s 4) (codes "http://a.test/f2") None) ∷ sent 7 1 0 3 (whys.Req (r 3)) tasks.Freeze ∷ sent 8 1 0 4 (whys.Req (r 3)) (tasks.Activate (e 0 4) (epoch 3) 2 1 None (codes "http://a.test/f2")) ∷ sent 9 1 0 1 (whys.Req (r 3)) (tasks.Update 2 1) ∷ [])
    ∷ by_proc 1 (rows.Taken (p 1) (j 7) true false) []
    ∷ by_proc 1 (rows.Finished (p 1) (j 7) outcomes.Frozen) []
    ∷ by_coord (rows.Delivered (p 1)) []
    ∷ by_proc 1 (rows.Taken (p 1) (j 8) true false) []
    ∷ by_proc 1 (rows.Finished (p 1) (j 8) outcomes.Activated) []
    ∷ by_coord (rows.Delivered (p 1)) []
    ∷ by_proc 1 (rows.Taken (p 1) (j 9) true false) []
    ∷ by_proc 1 (rows.Finished (p 1) (j 9) outcomes.Updated) []
    ∷ by_coord (rows.Delivered (p 1)) []
    ∷ by_ui (rows.Accepted (r 4) (Some (d 1)) (requests.Poke (n 0) (actions.Fragment (codes "x")))) []
    ∷ by_proc 1 (made 1 4 1 1 (whats.Push (e 1 1) None (codes "http://a.test/#x"))) []
    ∷ by_coord (rows.Delivered (p 1)) (rows.Applied (r 4) (changes.Push (n 0) (e 1 1) (s 1) (codes "http://a.test/#x") None) ∷ sent 10 1 0 1 (whys.Req (r 4)) (tasks.Update 3 2) ∷ sent 11 1 0 4 (whys.Req (r 4)) (tasks.Update 3 2) ∷ [])
    ∷ by_proc 1 (rows.Taken (p 1) (j 10) true false) []
    ∷ by_proc 1 (rows.Finished (p 1) (j 10) outcomes.Updated) []
    ∷ by_coord (rows.Delivered (p 1)) []
    ∷ by_proc 1 (rows.Taken (p 1) (j 11) true false) []
    ∷ by_proc 1 (rows.Finished (p 1) (j 11) outcomes.Updated) []
    ∷ by_coord (rows.Delivered (p 1)) []
    ∷ by_ui (rows.Accepted (r 5) None (requests.Go (negsuc 1))) (rows.Started (r 5) (Some (t 0)) ∷ sent 12 1 0 1 (whys.Req (r 5)) (tasks.Activate (e 0 1) (epoch 2) 3 0 None (codes "http://a.test/")) ∷ sent 13 1 0 4 (whys.Req (r 5)) tasks.Freeze ∷ sent 14 1 0 3 (whys.Req (r 5)) (tasks.Activate (e 0 3) (epoch 4) 3 0 None (codes "http://a.test/f")) ∷ [])
    ∷ by_proc 1 (rows.Taken (p 1) (j 12) true false) []
    ∷ by_proc 1 (rows.Finished (p 1) (j 12) outcomes.Activated) []
    ∷ by_coord (rows.Delivered (p 1)) []
    ∷ by_proc 1 (rows.Taken (p 1) (j 13) true false) []
    ∷ by_proc 1 (rows.Finished (p 1) (j 13) outcomes.Frozen) []
    ∷ by_coord (rows.Delivered (p 1)) []
    ∷ by_proc 1 (rows.Taken (p 1) (j 14) true false) []
    ∷ by_proc 1 (rows.Finished (p 1) (j 14) outcomes.Activated) []
    ∷ by_coord (rows.Delivered (p 1)) (rows.Applied (r 5) (changes.Traverse (t 0)) ∷ [])
    ∷ by_ui (rows.Accepted (r 6) None (requests.Go (pos 2))) (rows.Started (r 6) (Some (t 2)) ∷ sent 15 1 0 1 (whys.Req (r 6)) (tasks.Activate (e 1 1) (epoch 3) 3 2 None (codes "http://a.test/#x")) ∷ sent 16 1 0 3 (whys.Req (r 6)) tasks.Freeze ∷ sent 17 1 0 4 (whys.Req (r 6)) (tasks.Activate (e 0 4) (epoch 5) 3 2 None (codes "http://a.test/f2")) ∷ [])
    ∷ by_proc 1 (rows.Taken (p 1) (j 15) true false) []
    ∷ by_proc 1 (rows.Finished (p 1) (j 15) outcomes.Activated) []
    ∷ by_coord (rows.Delivered (p 1)) []
    ∷ by_ui (rows.Accepted (r 7) (Some (d 1)) (requests.Poke (n 0) (actions.RemoveFrame (n 1)))) []
    ∷ by_ui (rows.Accepted (r 8) (Some (d 1)) (requests.Poke (n 0) (actions.Push (Some (codes "s")) (Some (codes "/y"))))) []
    ∷ by_proc 1 (made 1 7 1 3 (whats.RemoveFrame (n 1))) []
    ∷ by_proc 1 (made 1 8 1 3 (whats.Push (e 1 2) (Some (codes "s")) (codes "http://a.test/y"))) []
    ∷ by_coord (rows.Delivered (p 1)) []
    ∷ by_coord (rows.Delivered (p 1)) []
    ∷ by_proc 1 (rows.Taken (p 1) (j 16) true false) []
    ∷ by_proc 1 (rows.Finished (p 1) (j 16) outcomes.Frozen) []
    ∷ by_coord (rows.Delivered (p 1)) []
    ∷ by_proc 1 (rows.Taken (p 1) (j 17) true false) []
    ∷ by_proc 1 (rows.Finished (p 1) (j 17) outcomes.Activated) []
    ∷ by_coord (rows.Delivered (p 1)) (rows.Applied (r 6) (changes.Traverse (t 2)) ∷ rows.Applied (r 7) (changes.RemoveFrame (n 1)) ∷ rows.Applied (r 8) (changes.Push (n 0) (e 1 2) (s 1) (codes "http://a.test/y") (Some (codes "s"))) ∷ sent 18 1 0 3 (whys.Req (r 7)) tasks.Discard ∷ sent 19 1 0 4 (whys.Req (r 7)) tasks.Discard ∷ sent 20 1 0 1 (whys.Req (r 6)) (tasks.Update 3 2) ∷ [])
    ∷ by_proc 1 (rows.Taken (p 1) (j 18) true false) []
    ∷ by_proc 1 (rows.Finished (p 1) (j 18) outcomes.Discarded) []
    ∷ by_coord (rows.Delivered (p 1)) []
    ∷ by_proc 1 (rows.Taken (p 1) (j 19) true false) []
    ∷ by_proc 1 (rows.Finished (p 1) (j 19) outcomes.Discarded) []
    ∷ by_coord (rows.Delivered (p 1)) []
    ∷ by_proc 1 (rows.Taken (p 1) (j 20) true false) []
    ∷ by_proc 1 (rows.Finished (p 1) (j 20) outcomes.Updated) []
    ∷ by_coord (rows.Delivered (p 1)) []
    ∷ []

pub removal_and_push_is_legal : IsLegal (log_of removal_and_push)
unfolding url_on_literals is_web is_blank_url judged judged_parse read_against address_of url_of resolved with_fragment base_of fragment_of origin_text origin_of has_same_base is_rewritable events_of each_event after_opening AtEachEvent is_numbered opens is_formed is_once is_caused is_queued is_ordered is_checked ends_settled loads_end ends_told ends_stepped goes_in_time
removal_and_push_is_legal = record { opened = refl; numbered = refl; formed = refl; once = refl; caused = refl; queued = refl; ordered = refl; checked = refl; settled = refl }

pub removal_and_push_ends_loads : LoadsEndInTime (log_of removal_and_push)
unfolding url_on_literals is_web is_blank_url judged judged_parse read_against address_of url_of resolved with_fragment base_of fragment_of origin_text origin_of has_same_base is_rewritable events_of each_event after_opening AtEachEvent is_numbered opens is_formed is_once is_caused is_queued is_ordered is_checked ends_settled loads_end ends_told ends_stepped goes_in_time
removal_and_push_ends_loads = refl

pub removal_and_push_acts_at_once : ActsAtOnce (log_of removal_and_push)
unfolding url_on_literals is_web is_blank_url judged judged_parse read_against address_of url_of resolved with_fragment base_of fragment_of origin_text origin_of has_same_base is_rewritable events_of each_event after_opening AtEachEvent is_numbered opens is_formed is_once is_caused is_queued is_ordered is_checked ends_settled loads_end ends_told ends_stepped goes_in_time
removal_and_push_acts_at_once = record { told = refl; stepped = refl; in_time = refl }

pub removal_and_push_suits : Suits plain_settings (log_of removal_and_push)
unfolding url_on_literals is_web is_blank_url judged judged_parse read_against address_of url_of resolved with_fragment base_of fragment_of origin_text origin_of has_same_base is_rewritable events_of each_event after_opening AtEachEvent is_numbered opens is_formed is_once is_caused is_queued is_ordered is_checked ends_settled loads_end ends_told ends_stepped goes_in_time
removal_and_push_suits = record { opened = refl; placed = refl; kept = refl }

-- The same, in two processes.
abbrev pub removal_and_push_of_two_processes : List Event
removal_and_push_of_two_processes =
    before 20 fragment_beside_a_reload
    ++ by_ui (rows.Accepted (r 3) None (requests.Load (n 1) modes.Auto (codes "http://b.test/g"))) (rows.Started (r 3) None ∷ sent 6 2 0 4 (whys.Req (r 3)) (tasks.Populate (n 1) (s 4) (codes "http://b.test/g") false) ∷ [])
    ∷ by_proc 2 (rows.Taken (p 2) (j 6) true false) []
    ∷ by_proc 2 (rows.Finished (p 2) (j 6) (outcomes.Populated None)) []
    ∷ by_coord (rows.Delivered (p 2)) (rows.Applied (r 3) (changes.Push (n 1) (e 0 4) (s 4) (codes "http://b.test/g") None) ∷ sent 7 2 0 3 (whys.Req (r 3)) tasks.Freeze ∷ sent 8 2 0 4 (whys.Req (r 3)) (tasks.Activate (e 0 4) (epoch 3) 2 1 None (codes "http://b.test/g")) ∷ sent 9 1 0 1 (whys.Req (r 3)) (tasks.Update 2 1) ∷ [])
    ∷ by_proc 1 (rows.Taken (p 1) (j 9) true false) []
    ∷ by_proc 1 (rows.Finished (p 1) (j 9) outcomes.Updated) []
    ∷ by_coord (rows.Delivered (p 1)) []
    ∷ by_proc 2 (rows.Taken (p 2) (j 7) true false) []
    ∷ by_proc 2 (rows.Finished (p 2) (j 7) outcomes.Frozen) []
    ∷ by_coord (rows.Delivered (p 2)) []
    ∷ by_proc 2 (rows.Taken (p 2) (j 8) true false) []
    ∷ by_proc 2 (rows.Finished (p 2) (j 8) outcomes.Activated) []
    ∷ by_coord (rows.Delivered (p 2)) []
    ∷ by_ui (rows.Accepted (r 4) (Some (d 1)) (requests.Poke (n 0) (actions.Push (Some (codes "s")) None))) []
    ∷ by_proc 1 (made 1 4 1 1 (whats.Push (e 1 1) (Some (codes "s")) (codes "http://a.test/"))) []
    ∷ by_coord (rows.Delivered (p 1)) (rows.Applied (r 4) (changes.Push (n 0) (e 1 1) (s 1) (codes "http://a.test/") (Some (codes "s"))) ∷ sent 10 1 0 1 (whys.Req (r 4)) (tasks.Update 3 2) ∷ sent 11 2 0 4 (whys.Req (r 4)) (tasks.Update 3 2) ∷ [])
    ∷ by_proc 2 (rows.Taken (p 2) (j 11) true false) []
    ∷ by_proc 2 (rows.Finished (p 2) (j 11) outcomes.Updated) []
    ∷ by_coord (rows.Delivered (p 2)) []
    ∷ by_proc 1 (rows.Taken (p 1) (j 10) true false) []
    ∷ by_proc 1 (rows.Finished (p 1) (j 10) outcomes.Updated) []
    ∷ by_coord (rows.Delivered (p 1)) []
    ∷ by_ui (rows.Accepted (r 5) None (requests.Go (negsuc 1))) (rows.Started (r 5) (Some (t 0)) ∷ sent 12 1 0 1 (whys.Req (r 5)) (tasks.Activate (e 0 1) (epoch 2) 3 0 None (codes "http://a.test/")) ∷ sent 13 2 0 4 (whys.Req (r 5)) tasks.Freeze ∷ sent 14 2 0 3 (whys.Req (r 5)) (tasks.Activate (e 0 3) (epoch 4) 3 0 None (codes "http://b.test/f")) ∷ [])
    ∷ by_proc 1 (rows.Taken (p 1) (j 12) true false) []
    ∷ by_proc 1 (rows.Finished (p 1) (j 12) outcomes.Activated) []
    ∷ by_coord (rows.Delivered (p 1)) []
    ∷ by_proc 2 (rows.Taken (p 2) (j 13) true false) []
    ∷ by_proc 2 (rows.Finished (p 2) (j 13) outcomes.Frozen) []
    ∷ by_coord (rows.Delivered (p 2)) []
    ∷ by_proc 2 (rows.Taken (p 2) (j 14) true false) []
    ∷ by_proc 2 (rows.Finished (p 2) (j 14) outcomes.Activated) []
    ∷ by_coord (rows.Delivered (p 2)) (rows.Applied (r 5) (changes.Traverse (t 0)) ∷ [])
    ∷ by_ui (rows.Accepted (r 6) None (requests.Go (pos 2))) (rows.Started (r 6) (Some (t 2)) ∷ sent 15 1 0 1 (whys.Req (r 6)) (tasks.Activate (e 1 1) (epoch 3) 3 2 (Some (codes "s")) (codes "http://a.test/")) ∷ sent 16 2 0 3 (whys.Req (r 6)) tasks.Freeze ∷ sent 17 2 0 4 (whys.Req (r 6)) (tasks.Activate (e 0 4) (epoch 5) 3 2 None (codes "http://b.test/g")) ∷ [])
    ∷ by_proc 1 (rows.Taken (p 1) (j 15) true false) []
    ∷ by_proc 1 (rows.Finished (p 1) (j 15) outcomes.Activated) []
    ∷ by_coord (rows.Delivered (p 1)) []
    ∷ by_ui (rows.Accepted (r 7) (Some (d 1)) (requests.Poke (n 0) (actions.RemoveFrame (n 1)))) []
    ∷ by_ui (rows.Accepted (r 8) (Some (d 1)) (requests.Poke (n 0) (actions.Push (Some (codes "t")) None))) []
    ∷ by_proc 1 (made 1 7 1 3 (whats.RemoveFrame (n 1))) []
    ∷ by_proc 1 (made 1 8 1 3 (whats.Push (e 1 2) (Some (codes "t")) (codes "http://a.test/"))) []
    ∷ by_coord (rows.Delivered (p 1)) []
    ∷ by_coord (rows.Delivered (p 1)) []
    ∷ by_proc 2 (rows.Taken (p 2) (j 16) true false) []
    ∷ by_proc 2 (rows.Finished (p 2) (j 16) outcomes.Frozen) []
    ∷ by_coord (rows.Delivered (p 2)) []
    ∷ by_proc 2 (rows.Taken (p 2) (j 17) true false) []
    ∷ by_proc 2 (rows.Finished (p 2) (j 17) outcomes.Activated) []
    ∷ by_coord (rows.Delivered (p 2)) (rows.Applied (r 6) (changes.Traverse (t 2)) ∷ rows.Applied (r 7) (changes.RemoveFrame (n 1)) ∷ rows.Applied (r 8) (changes.Push (n 0) (e 1 2) (s 1) (codes "http://a.test/") (Some (codes "t"))) ∷ sent 18 2 0 3 (whys.Req (r 7)) tasks.Discard ∷ sent 19 2 0 4 (whys.Req (r 7)) tasks.Discard ∷ sent 20 1 0 1 (whys.Req (r 6)) (tasks.Update 3 2) ∷ [])
    ∷ by_proc 1 (rows.Taken (p 1) (j 20) true false) []
    ∷ by_proc 1 (rows.Finished (p 1) (j 20) outcomes.Updated) []
    ∷ by_coord (rows.Delivered (p 1)) []
    ∷ by_proc 2 (rows.Taken (p 2) (j 18) true false) []
    ∷ by_proc 2 (rows.Finished (p 2) (j 18) outcomes.Discarded) []
    ∷ by_coord (rows.Delivered (p 2)) []
    ∷ by_proc 2 (rows.Taken (p 2) (j 19) true false) []
    ∷ by_proc 2 (rows.Finished (p 2) (j 19) outcomes.Discarded) []
    ∷ by_coord (rows.Delivered (p 2)) []
    ∷ []

abbrev pub removal_and_push_of_two_processes_header : Header
removal_and_push_of_two_processes_header = record { keep = 3; sites = record { origin = codes "http://b.test"; proc = p 2 } ∷ []; pages = []; first = codes "http://a.test/" }

pub removal_and_push_of_two_processes_is_legal : IsLegal (log_of removal_and_push_of_two_processes)
unfolding url_on_literals is_web is_blank_url judged judged_parse read_against address_of url_of resolved with_fragment base_of fragment_of origin_text origin_of has_same_base is_rewritable events_of each_event after_opening AtEachEvent is_numbered opens is_formed is_once is_caused is_queued is_ordered is_checked ends_settled loads_end ends_told ends_stepped goes_in_time
removal_and_push_of_two_processes_is_legal = record { opened = refl; numbered = refl; formed = refl; once = refl; caused = refl; queued = refl; ordered = refl; checked = refl; settled = refl }

pub removal_and_push_of_two_processes_ends_loads : LoadsEndInTime (log_of removal_and_push_of_two_processes)
unfolding url_on_literals is_web is_blank_url judged judged_parse read_against address_of url_of resolved with_fragment base_of fragment_of origin_text origin_of has_same_base is_rewritable events_of each_event after_opening AtEachEvent is_numbered opens is_formed is_once is_caused is_queued is_ordered is_checked ends_settled loads_end ends_told ends_stepped goes_in_time
removal_and_push_of_two_processes_ends_loads = refl

pub removal_and_push_of_two_processes_acts_at_once : ActsAtOnce (log_of removal_and_push_of_two_processes)
unfolding url_on_literals is_web is_blank_url judged judged_parse read_against address_of url_of resolved with_fragment base_of fragment_of origin_text origin_of has_same_base is_rewritable events_of each_event after_opening AtEachEvent is_numbered opens is_formed is_once is_caused is_queued is_ordered is_checked ends_settled loads_end ends_told ends_stepped goes_in_time
removal_and_push_of_two_processes_acts_at_once = record { told = refl; stepped = refl; in_time = refl }

pub removal_and_push_of_two_processes_suits : Suits removal_and_push_of_two_processes_header (log_of removal_and_push_of_two_processes)
unfolding url_on_literals is_web is_blank_url judged judged_parse read_against address_of url_of resolved with_fragment base_of fragment_of origin_text origin_of has_same_base is_rewritable events_of each_event after_opening AtEachEvent is_numbered opens is_formed is_once is_caused is_queued is_ordered is_checked ends_settled loads_end ends_told ends_stepped goes_in_time
removal_and_push_of_two_processes_suits = record { opened = refl; placed = refl; kept = refl }

-- A push of a frame that was removed is dropped by the removal, behind another push.
abbrev pub push_of_a_removed_frame_behind_another : List Event
push_of_a_removed_frame_behind_another =
    before 20 fragment_beside_a_reload
    ++ by_ui (rows.Accepted (r 3) (Some (d 3)) (requests.Poke (n 1) (actions.Push (Some (codes "s")) None))) []
    ∷ by_proc 2 (made 2 3 3 2 (whats.Push (e 3 1) (Some (codes "s")) (codes "http://b.test/f"))) []
    ∷ by_ui (rows.Accepted (r 4) (Some (d 1)) (requests.Poke (n 0) (actions.RemoveFrame (n 1)))) []
    ∷ by_proc 1 (made 1 4 1 1 (whats.RemoveFrame (n 1))) []
    ∷ by_coord (rows.Delivered (p 1)) (rows.Applied (r 4) (changes.RemoveFrame (n 1)) ∷ sent 6 2 0 3 (whys.Req (r 4)) tasks.Discard ∷ [])
    ∷ by_ui (rows.Accepted (r 5) (Some (d 1)) (requests.Poke (n 0) (actions.Push (Some (codes "t")) None))) []
    ∷ by_proc 1 (made 1 5 1 1 (whats.Push (e 1 1) (Some (codes "t")) (codes "http://a.test/"))) []
    ∷ by_coord (rows.Delivered (p 1)) (rows.Applied (r 5) (changes.Push (n 0) (e 1 1) (s 1) (codes "http://a.test/") (Some (codes "t"))) ∷ sent 7 1 0 1 (whys.Req (r 5)) (tasks.Update 2 1) ∷ [])
    ∷ by_coord (rows.Delivered (p 2)) (rows.Dropped (r 3) (drops.Destroyed (r 4)) ∷ [])
    ∷ []

abbrev pub push_of_a_removed_frame_behind_another_header : Header
push_of_a_removed_frame_behind_another_header = record { keep = 3; sites = record { origin = codes "http://b.test"; proc = p 2 } ∷ []; pages = []; first = codes "http://a.test/" }

pub push_of_a_removed_frame_behind_another_is_legal : IsLegal (log_of push_of_a_removed_frame_behind_another)
unfolding url_on_literals is_web is_blank_url judged judged_parse read_against address_of url_of resolved with_fragment base_of fragment_of origin_text origin_of has_same_base is_rewritable events_of each_event after_opening AtEachEvent is_numbered opens is_formed is_once is_caused is_queued is_ordered is_checked ends_settled loads_end ends_told ends_stepped goes_in_time
push_of_a_removed_frame_behind_another_is_legal = record { opened = refl; numbered = refl; formed = refl; once = refl; caused = refl; queued = refl; ordered = refl; checked = refl; settled = refl }

pub push_of_a_removed_frame_behind_another_ends_loads : LoadsEndInTime (log_of push_of_a_removed_frame_behind_another)
unfolding url_on_literals is_web is_blank_url judged judged_parse read_against address_of url_of resolved with_fragment base_of fragment_of origin_text origin_of has_same_base is_rewritable events_of each_event after_opening AtEachEvent is_numbered opens is_formed is_once is_caused is_queued is_ordered is_checked ends_settled loads_end ends_told ends_stepped goes_in_time
push_of_a_removed_frame_behind_another_ends_loads = refl

pub push_of_a_removed_frame_behind_another_acts_at_once : ActsAtOnce (log_of push_of_a_removed_frame_behind_another)
unfolding url_on_literals is_web is_blank_url judged judged_parse read_against address_of url_of resolved with_fragment base_of fragment_of origin_text origin_of has_same_base is_rewritable events_of each_event after_opening AtEachEvent is_numbered opens is_formed is_once is_caused is_queued is_ordered is_checked ends_settled loads_end ends_told ends_stepped goes_in_time
push_of_a_removed_frame_behind_another_acts_at_once = record { told = refl; stepped = refl; in_time = refl }

pub push_of_a_removed_frame_behind_another_suits : Suits push_of_a_removed_frame_behind_another_header (log_of push_of_a_removed_frame_behind_another)
unfolding url_on_literals is_web is_blank_url judged judged_parse read_against address_of url_of resolved with_fragment base_of fragment_of origin_text origin_of has_same_base is_rewritable events_of each_event after_opening AtEachEvent is_numbered opens is_formed is_once is_caused is_queued is_ordered is_checked ends_settled loads_end ends_told ends_stepped goes_in_time
push_of_a_removed_frame_behind_another_suits = record { opened = refl; placed = refl; kept = refl }
