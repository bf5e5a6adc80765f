-- Legal logs: reloads.
-- A log is its events: those before one of another log, since one, or between two, and its own.
use Rattle.std.proofs.Common.{negsuc, true, false, List, [], ◌∷◌, ◌++◌, codes, refl, Some, None}
use Rattle.url.proofs.OnLiterals.{url_on_literals}
use Rattle.address.specs.Addresses.{is_web, is_blank_url, judged, judged_parse, read_against, address_of, url_of, resolved, with_fragment, base_of, fragment_of, origin_text, origin_of, has_same_base, is_rewritable}
use Rattle.log_model.specs.declared.change.Change.TheVariants as changes
use Rattle.log_model.specs.declared.job.Task.TheVariants as tasks
use Rattle.log_model.specs.declared.job.Why.TheVariants as whys
use Rattle.log_model.specs.declared.outcome.Denial.TheVariants as denials
use Rattle.log_model.specs.declared.outcome.Outcome.TheVariants as outcomes
use Rattle.log_model.specs.declared.request.Mode.TheVariants as modes
use Rattle.log_model.specs.declared.request.Request.TheVariants as requests
use Rattle.log_model.specs.declared.row_kind.RowKind.TheVariants as rows
use Rattle.log_model.specs.Events.{events_of, each_event, after_opening, AtEachEvent}
use Rattle.log_model.specs.Formed.{is_numbered}
use Rattle.log_model.specs.Legal.{IsLegal, opens, is_formed, is_once, is_caused, is_queued, is_ordered, is_checked, ends_settled}
use Rattle.log_model.specs.LoadsEndInTime.{LoadsEndInTime, loads_end}
use Rattle.log_model.specs.ActsAtOnce.{ActsAtOnce, ends_told, ends_stepped, goes_in_time}
use Rattle.log_model.specs.Suits.{Suits}
use Rattle.log_model.specs.declared.header.Header.{Header}
use Rattle.log_examples.specs.Rows.{n, s, r, p, t, x, d, j, e, epoch, sent}
use Rattle.log_examples.specs.Logs.{Event, by_start, by_ui, by_coord, by_proc, log_of, before, plain_settings}
use Rattle.log_examples.proofs.Pushes.{push_beside_a_frame}
use Rattle.log_examples.proofs.Loads.{fragment_beside_a_reload}
use Rattle.log_examples.proofs.Removals.{removal_and_push}

-- A kept document of a frame outlives the reload of its parent.
abbrev pub kept_frame_document_at_a_reload : List Event
kept_frame_document_at_a_reload =
    before 33 removal_and_push
    ++ by_ui (rows.Accepted (r 4) None (requests.Reload (n 0))) (rows.Started (r 4) None ∷ rows.Applied (r 4) (changes.Reload (n 0)) ∷ sent 10 1 0 5 (whys.Req (r 4)) (tasks.Populate (n 0) (s 1) (codes "http://a.test/") false) ∷ [])
    ∷ by_proc 1 (rows.Taken (p 1) (j 10) true false) []
    ∷ by_proc 1 (rows.Finished (p 1) (j 10) (outcomes.Populated None)) []
    ∷ by_coord (rows.Delivered (p 1)) (sent 11 1 0 1 (whys.Req (r 4)) tasks.Discard ∷ sent 12 1 0 4 (whys.Req (r 4)) tasks.Discard ∷ sent 13 1 0 5 (whys.Req (r 4)) (tasks.Activate (e 0 1) (epoch 2) 2 1 None (codes "http://a.test/")) ∷ sent 14 1 0 6 (whys.Req (r 4)) (tasks.Populate (n 1) (s 4) (codes "http://a.test/f2") false) ∷ [])
    ∷ by_proc 1 (rows.Taken (p 1) (j 11) true false) []
    ∷ by_proc 1 (rows.Finished (p 1) (j 11) outcomes.Discarded) []
    ∷ by_coord (rows.Delivered (p 1)) []
    ∷ by_proc 1 (rows.Taken (p 1) (j 12) true false) []
    ∷ by_proc 1 (rows.Finished (p 1) (j 12) outcomes.Discarded) []
    ∷ by_coord (rows.Delivered (p 1)) []
    ∷ by_proc 1 (rows.Taken (p 1) (j 13) true false) []
    ∷ by_proc 1 (rows.Finished (p 1) (j 13) outcomes.Activated) []
    ∷ by_coord (rows.Delivered (p 1)) []
    ∷ by_proc 1 (rows.Taken (p 1) (j 14) true false) []
    ∷ by_proc 1 (rows.Finished (p 1) (j 14) (outcomes.Populated None)) []
    ∷ by_coord (rows.Delivered (p 1)) (sent 15 1 0 6 (whys.Req (r 4)) (tasks.Activate (e 0 4) (epoch 4) 2 1 None (codes "http://a.test/f2")) ∷ [])
    ∷ by_proc 1 (rows.Taken (p 1) (j 15) true false) []
    ∷ by_proc 1 (rows.Finished (p 1) (j 15) outcomes.Activated) []
    ∷ by_coord (rows.Delivered (p 1)) []
    ∷ by_ui (rows.Accepted (r 5) None (requests.Go (negsuc 0))) (rows.Started (r 5) (Some (t 0)) ∷ sent 16 1 0 6 (whys.Req (r 5)) tasks.Freeze ∷ sent 17 1 0 3 (whys.Req (r 5)) (tasks.Activate (e 0 3) (epoch 5) 2 0 None (codes "http://a.test/f")) ∷ [])
    ∷ by_proc 1 (rows.Taken (p 1) (j 16) true false) []
    ∷ by_proc 1 (rows.Finished (p 1) (j 16) outcomes.Frozen) []
    ∷ by_coord (rows.Delivered (p 1)) []
    ∷ by_proc 1 (rows.Taken (p 1) (j 17) true false) []
    ∷ by_proc 1 (rows.Finished (p 1) (j 17) outcomes.Activated) []
    ∷ by_coord (rows.Delivered (p 1)) (rows.Applied (r 5) (changes.Traverse (t 0)) ∷ sent 18 1 0 5 (whys.Req (r 5)) (tasks.Update 2 0) ∷ [])
    ∷ by_proc 1 (rows.Taken (p 1) (j 18) true false) []
    ∷ by_proc 1 (rows.Finished (p 1) (j 18) outcomes.Updated) []
    ∷ by_coord (rows.Delivered (p 1)) []
    ∷ []

pub kept_frame_document_at_a_reload_is_legal : IsLegal (log_of kept_frame_document_at_a_reload)
unfolding url_on_literals is_web is_blank_url judged judged_parse read_against address_of url_of resolved with_fragment base_of fragment_of origin_text origin_of has_same_base is_rewritable events_of each_event after_opening AtEachEvent is_numbered opens is_formed is_once is_caused is_queued is_ordered is_checked ends_settled loads_end ends_told ends_stepped goes_in_time
kept_frame_document_at_a_reload_is_legal = record { opened = refl; numbered = refl; formed = refl; once = refl; caused = refl; queued = refl; ordered = refl; checked = refl; settled = refl }

pub kept_frame_document_at_a_reload_ends_loads : LoadsEndInTime (log_of kept_frame_document_at_a_reload)
unfolding url_on_literals is_web is_blank_url judged judged_parse read_against address_of url_of resolved with_fragment base_of fragment_of origin_text origin_of has_same_base is_rewritable events_of each_event after_opening AtEachEvent is_numbered opens is_formed is_once is_caused is_queued is_ordered is_checked ends_settled loads_end ends_told ends_stepped goes_in_time
kept_frame_document_at_a_reload_ends_loads = refl

pub kept_frame_document_at_a_reload_acts_at_once : ActsAtOnce (log_of kept_frame_document_at_a_reload)
unfolding url_on_literals is_web is_blank_url judged judged_parse read_against address_of url_of resolved with_fragment base_of fragment_of origin_text origin_of has_same_base is_rewritable events_of each_event after_opening AtEachEvent is_numbered opens is_formed is_once is_caused is_queued is_ordered is_checked ends_settled loads_end ends_told ends_stepped goes_in_time
kept_frame_document_at_a_reload_acts_at_once = record { told = refl; stepped = refl; in_time = refl }

pub kept_frame_document_at_a_reload_suits : Suits plain_settings (log_of kept_frame_document_at_a_reload)
unfolding url_on_literals is_web is_blank_url judged judged_parse read_against address_of url_of resolved with_fragment base_of fragment_of origin_text origin_of has_same_base is_rewritable events_of each_event after_opening AtEachEvent is_numbered opens is_formed is_once is_caused is_queued is_ordered is_checked ends_settled loads_end ends_told ends_stepped goes_in_time
kept_frame_document_at_a_reload_suits = record { opened = refl; placed = refl; kept = refl }

-- A kept document of a frame goes with its parent's.
abbrev pub kept_frame_document_at_an_eviction : List Event
kept_frame_document_at_an_eviction =
    before 20 fragment_beside_a_reload
    ++ by_ui (rows.Accepted (r 3) None (requests.Load (n 0) modes.Auto (codes "http://b.test/p0"))) (rows.Started (r 3) None ∷ sent 6 2 0 4 (whys.Req (r 3)) (tasks.Populate (n 0) (s 4) (codes "http://b.test/p0") false) ∷ [])
    ∷ by_proc 2 (rows.Taken (p 2) (j 6) true false) []
    ∷ by_proc 2 (rows.Finished (p 2) (j 6) (outcomes.Populated None)) []
    ∷ by_coord (rows.Delivered (p 2)) (rows.Applied (r 3) (changes.Push (n 0) (e 0 4) (s 4) (codes "http://b.test/p0") None) ∷ sent 7 1 0 1 (whys.Req (r 3)) tasks.Freeze ∷ sent 8 2 0 3 (whys.Req (r 3)) tasks.Freeze ∷ sent 9 2 0 4 (whys.Req (r 3)) (tasks.Activate (e 0 4) (epoch 2) 2 1 None (codes "http://b.test/p0")) ∷ [])
    ∷ by_proc 1 (rows.Taken (p 1) (j 7) true false) []
    ∷ by_proc 1 (rows.Finished (p 1) (j 7) outcomes.Frozen) []
    ∷ by_coord (rows.Delivered (p 1)) []
    ∷ by_proc 2 (rows.Taken (p 2) (j 8) true false) []
    ∷ by_proc 2 (rows.Finished (p 2) (j 8) outcomes.Frozen) []
    ∷ by_coord (rows.Delivered (p 2)) []
    ∷ by_proc 2 (rows.Taken (p 2) (j 9) true false) []
    ∷ by_proc 2 (rows.Finished (p 2) (j 9) outcomes.Activated) []
    ∷ by_coord (rows.Delivered (p 2)) []
    ∷ by_ui (rows.Evicted (s 1)) (sent 10 1 0 1 whys.Evict tasks.Discard ∷ sent 11 2 0 3 whys.Evict tasks.Discard ∷ [])
    ∷ by_proc 1 (rows.Taken (p 1) (j 10) true false) []
    ∷ by_proc 1 (rows.Finished (p 1) (j 10) outcomes.Discarded) []
    ∷ by_coord (rows.Delivered (p 1)) []
    ∷ by_proc 2 (rows.Taken (p 2) (j 11) true false) []
    ∷ by_proc 2 (rows.Finished (p 2) (j 11) outcomes.Discarded) []
    ∷ by_coord (rows.Delivered (p 2)) []
    ∷ by_ui (rows.Accepted (r 4) None (requests.Go (negsuc 0))) (rows.Started (r 4) (Some (t 0)) ∷ sent 12 1 0 5 (whys.Req (r 4)) (tasks.Populate (n 0) (s 1) (codes "http://a.test/") false) ∷ [])
    ∷ by_proc 1 (rows.Taken (p 1) (j 12) true false) []
    ∷ by_proc 1 (rows.Finished (p 1) (j 12) (outcomes.Populated None)) []
    ∷ by_coord (rows.Delivered (p 1)) (sent 13 2 0 4 (whys.Req (r 4)) tasks.Freeze ∷ sent 14 1 0 5 (whys.Req (r 4)) (tasks.Activate (e 0 1) (epoch 3) 2 0 None (codes "http://a.test/")) ∷ sent 15 2 0 6 (whys.Req (r 4)) (tasks.Populate (n 1) (s 3) (codes "http://b.test/f") false) ∷ [])
    ∷ by_proc 2 (rows.Taken (p 2) (j 13) true false) []
    ∷ by_proc 2 (rows.Finished (p 2) (j 13) outcomes.Frozen) []
    ∷ by_coord (rows.Delivered (p 2)) []
    ∷ by_proc 1 (rows.Taken (p 1) (j 14) true false) []
    ∷ by_proc 1 (rows.Finished (p 1) (j 14) outcomes.Activated) []
    ∷ by_coord (rows.Delivered (p 1)) []
    ∷ by_proc 2 (rows.Taken (p 2) (j 15) true false) []
    ∷ by_proc 2 (rows.Finished (p 2) (j 15) (outcomes.Populated None)) []
    ∷ by_coord (rows.Delivered (p 2)) (sent 16 2 0 6 (whys.Req (r 4)) (tasks.Activate (e 0 3) (epoch 3) 2 0 None (codes "http://b.test/f")) ∷ [])
    ∷ by_proc 2 (rows.Taken (p 2) (j 16) true false) []
    ∷ by_proc 2 (rows.Finished (p 2) (j 16) outcomes.Activated) []
    ∷ by_coord (rows.Delivered (p 2)) (rows.Applied (r 4) (changes.Traverse (t 0)) ∷ [])
    ∷ []

abbrev pub kept_frame_document_at_an_eviction_header : Header
kept_frame_document_at_an_eviction_header = record { keep = 1; sites = record { origin = codes "http://b.test"; proc = p 2 } ∷ []; pages = []; first = codes "http://a.test/" }

pub kept_frame_document_at_an_eviction_is_legal : IsLegal (log_of kept_frame_document_at_an_eviction)
unfolding url_on_literals is_web is_blank_url judged judged_parse read_against address_of url_of resolved with_fragment base_of fragment_of origin_text origin_of has_same_base is_rewritable events_of each_event after_opening AtEachEvent is_numbered opens is_formed is_once is_caused is_queued is_ordered is_checked ends_settled loads_end ends_told ends_stepped goes_in_time
kept_frame_document_at_an_eviction_is_legal = record { opened = refl; numbered = refl; formed = refl; once = refl; caused = refl; queued = refl; ordered = refl; checked = refl; settled = refl }

pub kept_frame_document_at_an_eviction_ends_loads : LoadsEndInTime (log_of kept_frame_document_at_an_eviction)
unfolding url_on_literals is_web is_blank_url judged judged_parse read_against address_of url_of resolved with_fragment base_of fragment_of origin_text origin_of has_same_base is_rewritable events_of each_event after_opening AtEachEvent is_numbered opens is_formed is_once is_caused is_queued is_ordered is_checked ends_settled loads_end ends_told ends_stepped goes_in_time
kept_frame_document_at_an_eviction_ends_loads = refl

pub kept_frame_document_at_an_eviction_acts_at_once : ActsAtOnce (log_of kept_frame_document_at_an_eviction)
unfolding url_on_literals is_web is_blank_url judged judged_parse read_against address_of url_of resolved with_fragment base_of fragment_of origin_text origin_of has_same_base is_rewritable events_of each_event after_opening AtEachEvent is_numbered opens is_formed is_once is_caused is_queued is_ordered is_checked ends_settled loads_end ends_told ends_stepped goes_in_time
kept_frame_document_at_an_eviction_acts_at_once = record { told = refl; stepped = refl; in_time = refl }

pub kept_frame_document_at_an_eviction_suits : Suits kept_frame_document_at_an_eviction_header (log_of kept_frame_document_at_an_eviction)
unfolding url_on_literals is_web is_blank_url judged judged_parse read_against address_of url_of resolved with_fragment base_of fragment_of origin_text origin_of has_same_base is_rewritable events_of each_event after_opening AtEachEvent is_numbered opens is_formed is_once is_caused is_queued is_ordered is_checked ends_settled loads_end ends_told ends_stepped goes_in_time
kept_frame_document_at_an_eviction_suits = record { opened = refl; placed = refl; kept = refl }

-- A reload of a frame that is not shown.
abbrev pub reload_of_a_hidden_frame : List Event
reload_of_a_hidden_frame =
    before 10 push_beside_a_frame
    ++ by_ui (rows.Accepted (r 2) None (requests.Load (n 0) modes.Auto (codes "http://a.test/1"))) (rows.Started (r 2) None ∷ sent 3 1 0 3 (whys.Req (r 2)) (tasks.Populate (n 0) (s 3) (codes "http://a.test/1") false) ∷ [])
    ∷ by_proc 1 (rows.Taken (p 1) (j 3) true false) []
    ∷ by_proc 1 (rows.Finished (p 1) (j 3) (outcomes.Populated None)) []
    ∷ by_coord (rows.Delivered (p 1)) (rows.Applied (r 2) (changes.Push (n 0) (e 0 3) (s 3) (codes "http://a.test/1") None) ∷ sent 4 1 0 1 (whys.Req (r 2)) tasks.Freeze ∷ sent 5 1 0 2 (whys.Req (r 2)) tasks.Freeze ∷ sent 6 1 0 3 (whys.Req (r 2)) (tasks.Activate (e 0 3) (epoch 2) 2 1 None (codes "http://a.test/1")) ∷ [])
    ∷ by_proc 1 (rows.Taken (p 1) (j 4) true false) []
    ∷ by_proc 1 (rows.Finished (p 1) (j 4) outcomes.Frozen) []
    ∷ by_coord (rows.Delivered (p 1)) []
    ∷ by_proc 1 (rows.Taken (p 1) (j 5) true false) []
    ∷ by_proc 1 (rows.Finished (p 1) (j 5) outcomes.Frozen) []
    ∷ by_coord (rows.Delivered (p 1)) []
    ∷ by_proc 1 (rows.Taken (p 1) (j 6) true false) []
    ∷ by_proc 1 (rows.Finished (p 1) (j 6) outcomes.Activated) []
    ∷ by_coord (rows.Delivered (p 1)) []
    ∷ by_ui (rows.Accepted (r 3) None (requests.Reload (n 1))) (rows.Refused (r 3) denials.NotShown ∷ [])
    ∷ by_ui (rows.Accepted (r 4) None (requests.Reload (n 0))) (rows.Started (r 4) None ∷ rows.Applied (r 4) (changes.Reload (n 0)) ∷ sent 7 1 0 4 (whys.Req (r 4)) (tasks.Populate (n 0) (s 3) (codes "http://a.test/1") false) ∷ [])
    ∷ by_proc 1 (rows.Taken (p 1) (j 7) true false) []
    ∷ by_proc 1 (rows.Finished (p 1) (j 7) (outcomes.Populated None)) []
    ∷ by_coord (rows.Delivered (p 1)) (sent 8 1 0 3 (whys.Req (r 4)) tasks.Discard ∷ sent 9 1 0 4 (whys.Req (r 4)) (tasks.Activate (e 0 3) (epoch 3) 2 1 None (codes "http://a.test/1")) ∷ [])
    ∷ by_proc 1 (rows.Taken (p 1) (j 8) true false) []
    ∷ by_proc 1 (rows.Finished (p 1) (j 8) outcomes.Discarded) []
    ∷ by_coord (rows.Delivered (p 1)) []
    ∷ by_proc 1 (rows.Taken (p 1) (j 9) true false) []
    ∷ by_proc 1 (rows.Finished (p 1) (j 9) outcomes.Activated) []
    ∷ by_coord (rows.Delivered (p 1)) []
    ∷ []

pub reload_of_a_hidden_frame_is_legal : IsLegal (log_of reload_of_a_hidden_frame)
unfolding url_on_literals is_web is_blank_url judged judged_parse read_against address_of url_of resolved with_fragment base_of fragment_of origin_text origin_of has_same_base is_rewritable events_of each_event after_opening AtEachEvent is_numbered opens is_formed is_once is_caused is_queued is_ordered is_checked ends_settled loads_end ends_told ends_stepped goes_in_time
reload_of_a_hidden_frame_is_legal = record { opened = refl; numbered = refl; formed = refl; once = refl; caused = refl; queued = refl; ordered = refl; checked = refl; settled = refl }

pub reload_of_a_hidden_frame_ends_loads : LoadsEndInTime (log_of reload_of_a_hidden_frame)
unfolding url_on_literals is_web is_blank_url judged judged_parse read_against address_of url_of resolved with_fragment base_of fragment_of origin_text origin_of has_same_base is_rewritable events_of each_event after_opening AtEachEvent is_numbered opens is_formed is_once is_caused is_queued is_ordered is_checked ends_settled loads_end ends_told ends_stepped goes_in_time
reload_of_a_hidden_frame_ends_loads = refl

pub reload_of_a_hidden_frame_acts_at_once : ActsAtOnce (log_of reload_of_a_hidden_frame)
unfolding url_on_literals is_web is_blank_url judged judged_parse read_against address_of url_of resolved with_fragment base_of fragment_of origin_text origin_of has_same_base is_rewritable events_of each_event after_opening AtEachEvent is_numbered opens is_formed is_once is_caused is_queued is_ordered is_checked ends_settled loads_end ends_told ends_stepped goes_in_time
reload_of_a_hidden_frame_acts_at_once = record { told = refl; stepped = refl; in_time = refl }

pub reload_of_a_hidden_frame_suits : Suits plain_settings (log_of reload_of_a_hidden_frame)
unfolding url_on_literals is_web is_blank_url judged judged_parse read_against address_of url_of resolved with_fragment base_of fragment_of origin_text origin_of has_same_base is_rewritable events_of each_event after_opening AtEachEvent is_numbered opens is_formed is_once is_caused is_queued is_ordered is_checked ends_settled loads_end ends_told ends_stepped goes_in_time
reload_of_a_hidden_frame_suits = record { opened = refl; placed = refl; kept = refl }

-- A reload, and back before it is done: the document that is shown was made before it.
abbrev pub reload_and_back : List Event
reload_and_back =
    by_start (rows.Opened (e 0 1) (s 1) (d 1) (p 1) None (codes "http://a.test/")) []
    ∷ by_ui (rows.Accepted (r 1) None (requests.Load (n 0) modes.Auto (codes "http://b.test/p0"))) (rows.Started (r 1) None ∷ sent 1 1 0 2 (whys.Req (r 1)) (tasks.Populate (n 0) (s 2) (codes "http://b.test/p0") false) ∷ [])
    ∷ by_proc 1 (rows.Taken (p 1) (j 1) true false) []
    ∷ by_proc 1 (rows.Finished (p 1) (j 1) (outcomes.Populated None)) []
    ∷ by_coord (rows.Delivered (p 1)) (rows.Applied (r 1) (changes.Push (n 0) (e 0 2) (s 2) (codes "http://b.test/p0") None) ∷ sent 2 1 0 1 (whys.Req (r 1)) tasks.Freeze ∷ sent 3 1 0 2 (whys.Req (r 1)) (tasks.Activate (e 0 2) (epoch 2) 2 1 None (codes "http://b.test/p0")) ∷ [])
    ∷ by_proc 1 (rows.Taken (p 1) (j 2) true false) []
    ∷ by_proc 1 (rows.Finished (p 1) (j 2) outcomes.Frozen) []
    ∷ by_coord (rows.Delivered (p 1)) []
    ∷ by_proc 1 (rows.Taken (p 1) (j 3) true false) []
    ∷ by_proc 1 (rows.Finished (p 1) (j 3) outcomes.Activated) []
    ∷ by_coord (rows.Delivered (p 1)) []
    ∷ by_ui (rows.Accepted (r 2) None (requests.Reload (n 0))) (rows.Started (r 2) None ∷ rows.Applied (r 2) (changes.Reload (n 0)) ∷ sent 4 1 0 3 (whys.Req (r 2)) (tasks.Populate (n 0) (s 2) (codes "http://b.test/p0") false) ∷ [])
    ∷ by_ui (rows.Accepted (r 3) None (requests.Go (negsuc 0))) []
    ∷ by_proc 1 (rows.Taken (p 1) (j 4) true false) []
    ∷ by_proc 1 (rows.Finished (p 1) (j 4) (outcomes.Populated None)) []
    ∷ by_coord (rows.Delivered (p 1)) (sent 5 1 0 2 (whys.Req (r 2)) tasks.Discard ∷ sent 6 1 0 3 (whys.Req (r 2)) (tasks.Activate (e 0 2) (epoch 3) 2 1 None (codes "http://b.test/p0")) ∷ [])
    ∷ by_proc 1 (rows.Taken (p 1) (j 5) true false) []
    ∷ by_proc 1 (rows.Finished (p 1) (j 5) outcomes.Discarded) []
    ∷ by_coord (rows.Delivered (p 1)) []
    ∷ by_proc 1 (rows.Taken (p 1) (j 6) true false) []
    ∷ by_proc 1 (rows.Finished (p 1) (j 6) outcomes.Activated) []
    ∷ by_coord (rows.Delivered (p 1)) (rows.Started (r 3) (Some (t 0)) ∷ sent 7 1 0 3 (whys.Req (r 3)) tasks.Freeze ∷ sent 8 1 0 1 (whys.Req (r 3)) (tasks.Activate (e 0 1) (epoch 4) 2 0 None (codes "http://a.test/")) ∷ [])
    ∷ by_proc 1 (rows.Taken (p 1) (j 7) true false) []
    ∷ by_proc 1 (rows.Finished (p 1) (j 7) outcomes.Frozen) []
    ∷ by_coord (rows.Delivered (p 1)) []
    ∷ by_proc 1 (rows.Taken (p 1) (j 8) true false) []
    ∷ by_proc 1 (rows.Finished (p 1) (j 8) outcomes.Activated) []
    ∷ by_coord (rows.Delivered (p 1)) (rows.Applied (r 3) (changes.Traverse (t 0)) ∷ [])
    ∷ []

pub reload_and_back_is_legal : IsLegal (log_of reload_and_back)
unfolding url_on_literals is_web is_blank_url judged judged_parse read_against address_of url_of resolved with_fragment base_of fragment_of origin_text origin_of has_same_base is_rewritable events_of each_event after_opening AtEachEvent is_numbered opens is_formed is_once is_caused is_queued is_ordered is_checked ends_settled loads_end ends_told ends_stepped goes_in_time
reload_and_back_is_legal = record { opened = refl; numbered = refl; formed = refl; once = refl; caused = refl; queued = refl; ordered = refl; checked = refl; settled = refl }

pub reload_and_back_ends_loads : LoadsEndInTime (log_of reload_and_back)
unfolding url_on_literals is_web is_blank_url judged judged_parse read_against address_of url_of resolved with_fragment base_of fragment_of origin_text origin_of has_same_base is_rewritable events_of each_event after_opening AtEachEvent is_numbered opens is_formed is_once is_caused is_queued is_ordered is_checked ends_settled loads_end ends_told ends_stepped goes_in_time
reload_and_back_ends_loads = refl

pub reload_and_back_acts_at_once : ActsAtOnce (log_of reload_and_back)
unfolding url_on_literals is_web is_blank_url judged judged_parse read_against address_of url_of resolved with_fragment base_of fragment_of origin_text origin_of has_same_base is_rewritable events_of each_event after_opening AtEachEvent is_numbered opens is_formed is_once is_caused is_queued is_ordered is_checked ends_settled loads_end ends_told ends_stepped goes_in_time
reload_and_back_acts_at_once = record { told = refl; stepped = refl; in_time = refl }

pub reload_and_back_suits : Suits plain_settings (log_of reload_and_back)
unfolding url_on_literals is_web is_blank_url judged judged_parse read_against address_of url_of resolved with_fragment base_of fragment_of origin_text origin_of has_same_base is_rewritable events_of each_event after_opening AtEachEvent is_numbered opens is_formed is_once is_caused is_queued is_ordered is_checked ends_settled loads_end ends_told ends_stepped goes_in_time
reload_and_back_suits = record { opened = refl; placed = refl; kept = refl }

-- A death as the document of a reload is being shown.
abbrev pub reload_and_death : List Event
reload_and_death =
    before 10 push_beside_a_frame
    ++ by_ui (rows.Accepted (r 2) None (requests.Load (n 1) modes.Auto (codes "http://b.test/p0"))) (rows.Started (r 2) None ∷ sent 3 2 0 3 (whys.Req (r 2)) (tasks.Populate (n 1) (s 3) (codes "http://b.test/p0") false) ∷ [])
    ∷ by_proc 2 (rows.Taken (p 2) (j 3) true false) []
    ∷ by_proc 2 (rows.Finished (p 2) (j 3) (outcomes.Populated None)) []
    ∷ by_coord (rows.Delivered (p 2)) (rows.Applied (r 2) (changes.Replace (n 1) (e 0 2) (e 0 3) (s 3) (codes "http://b.test/p0") None) ∷ sent 4 1 0 2 (whys.Req (r 2)) tasks.Discard ∷ sent 5 2 0 3 (whys.Req (r 2)) (tasks.Activate (e 0 3) (epoch 2) 1 0 None (codes "http://b.test/p0")) ∷ [])
    ∷ by_proc 1 (rows.Taken (p 1) (j 4) true false) []
    ∷ by_proc 1 (rows.Finished (p 1) (j 4) outcomes.Discarded) []
    ∷ by_coord (rows.Delivered (p 1)) []
    ∷ by_proc 2 (rows.Taken (p 2) (j 5) true false) []
    ∷ by_proc 2 (rows.Finished (p 2) (j 5) outcomes.Activated) []
    ∷ by_coord (rows.Delivered (p 2)) []
    ∷ by_ui (rows.Accepted (r 3) None (requests.Reload (n 1))) (rows.Started (r 3) None ∷ rows.Applied (r 3) (changes.Reload (n 1)) ∷ sent 6 2 0 4 (whys.Req (r 3)) (tasks.Populate (n 1) (s 3) (codes "http://b.test/p0") false) ∷ [])
    ∷ by_proc 2 (rows.Taken (p 2) (j 6) true false) []
    ∷ by_proc 2 (rows.Finished (p 2) (j 6) (outcomes.Populated None)) []
    ∷ by_coord (rows.Delivered (p 2)) (sent 7 2 0 3 (whys.Req (r 3)) tasks.Discard ∷ sent 8 2 0 4 (whys.Req (r 3)) (tasks.Activate (e 0 3) (epoch 3) 1 0 None (codes "http://b.test/p0")) ∷ [])
    ∷ by_proc 2 (rows.Taken (p 2) (j 7) true false) []
    ∷ by_ui (rows.Killed (p 2) (x 1)) []
    ∷ by_coord (rows.Delivered (p 2)) []
    ∷ by_proc 2 (rows.Taken (p 2) (j 8) false false) []
    ∷ []

abbrev pub reload_and_death_header : Header
reload_and_death_header = record { keep = 3; sites = record { origin = codes "http://b.test"; proc = p 2 } ∷ []; pages = []; first = codes "http://a.test/" }

pub reload_and_death_is_legal : IsLegal (log_of reload_and_death)
unfolding url_on_literals is_web is_blank_url judged judged_parse read_against address_of url_of resolved with_fragment base_of fragment_of origin_text origin_of has_same_base is_rewritable events_of each_event after_opening AtEachEvent is_numbered opens is_formed is_once is_caused is_queued is_ordered is_checked ends_settled loads_end ends_told ends_stepped goes_in_time
reload_and_death_is_legal = record { opened = refl; numbered = refl; formed = refl; once = refl; caused = refl; queued = refl; ordered = refl; checked = refl; settled = refl }

pub reload_and_death_ends_loads : LoadsEndInTime (log_of reload_and_death)
unfolding url_on_literals is_web is_blank_url judged judged_parse read_against address_of url_of resolved with_fragment base_of fragment_of origin_text origin_of has_same_base is_rewritable events_of each_event after_opening AtEachEvent is_numbered opens is_formed is_once is_caused is_queued is_ordered is_checked ends_settled loads_end ends_told ends_stepped goes_in_time
reload_and_death_ends_loads = refl

pub reload_and_death_acts_at_once : ActsAtOnce (log_of reload_and_death)
unfolding url_on_literals is_web is_blank_url judged judged_parse read_against address_of url_of resolved with_fragment base_of fragment_of origin_text origin_of has_same_base is_rewritable events_of each_event after_opening AtEachEvent is_numbered opens is_formed is_once is_caused is_queued is_ordered is_checked ends_settled loads_end ends_told ends_stepped goes_in_time
reload_and_death_acts_at_once = record { told = refl; stepped = refl; in_time = refl }

pub reload_and_death_suits : Suits reload_and_death_header (log_of reload_and_death)
unfolding url_on_literals is_web is_blank_url judged judged_parse read_against address_of url_of resolved with_fragment base_of fragment_of origin_text origin_of has_same_base is_rewritable events_of each_event after_opening AtEachEvent is_numbered opens is_formed is_once is_caused is_queued is_ordered is_checked ends_settled loads_end ends_told ends_stepped goes_in_time
reload_and_death_suits = record { opened = refl; placed = refl; kept = refl }
