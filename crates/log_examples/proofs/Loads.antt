-- Legal logs: loads.
-- A log is its events: those before one of another log, since one, or between two, and its own.
use Rattle.std.proofs.Common.{negsuc, true, false, List, [], ◌∷◌, ◌++◌, codes, refl, Some, None}
use Rattle.url.proofs.OnLiterals.{url_on_literals}
use Rattle.address.specs.Addresses.{is_web, is_blank_url, judged, judged_parse, read_against, address_of, url_of, resolved, with_fragment, base_of, fragment_of, origin_text, origin_of, has_same_base, is_rewritable}
use Rattle.log_model.specs.declared.action.Action.TheVariants as actions
use Rattle.log_model.specs.declared.change.Change.TheVariants as changes
use Rattle.log_model.specs.declared.job.Task.TheVariants as tasks
use Rattle.log_model.specs.declared.job.Why.TheVariants as whys
use Rattle.log_model.specs.declared.made.What.TheVariants as whats
use Rattle.log_model.specs.declared.outcome.Cause.TheVariants as drops
use Rattle.log_model.specs.declared.outcome.Denial.TheVariants as denials
use Rattle.log_model.specs.declared.outcome.Outcome.TheVariants as outcomes
use Rattle.log_model.specs.declared.request.Mode.TheVariants as modes
use Rattle.log_model.specs.declared.request.Request.TheVariants as requests
use Rattle.log_model.specs.declared.row_kind.RowKind.TheVariants as rows
use Rattle.log_model.specs.Events.{events_of, each_event, after_opening, AtEachEvent}
use Rattle.log_model.specs.Formed.{is_numbered}
use Rattle.log_model.specs.Legal.{IsLegal, opens, is_formed, is_once, is_caused, is_queued, is_ordered, is_checked, ends_settled}
use Rattle.log_model.specs.LoadsEndInTime.{LoadsEndInTime, loads_end}
use Rattle.log_model.specs.ActsAtOnce.{ActsAtOnce, ends_told, ends_stepped, goes_in_time}
use Rattle.log_model.specs.Suits.{Suits}
use Rattle.log_model.specs.declared.header.Header.{Header}
use Rattle.log_examples.specs.Rows.{n, s, r, p, t, d, j, e, epoch, sent, made}
use Rattle.log_examples.specs.Logs.{Event, by_start, by_ui, by_coord, by_proc, log_of, before, plain_settings}
use Rattle.log_examples.proofs.Pushes.{push_beside_a_frame, poke_of_the_newer_document}
use Rattle.log_examples.proofs.Interleavings.{held_back_push}

-- A later load takes the place of the first, and one during a traversal is dropped.
abbrev pub later_load : List Event
later_load =
    by_start (rows.Opened (e 0 1) (s 1) (d 1) (p 1) None (codes "http://a.test/")) []
    ∷ by_ui (rows.Accepted (r 1) None (requests.Load (n 0) modes.Auto (codes "http://a.test/1"))) (rows.Started (r 1) None ∷ sent 1 1 0 2 (whys.Req (r 1)) (tasks.Populate (n 0) (s 2) (codes "http://a.test/1") false) ∷ [])
    ∷ by_ui (rows.Accepted (r 2) None (requests.Load (n 0) modes.Auto (codes "http://a.test/2"))) (rows.Dropped (r 1) (drops.By (r 2)) ∷ rows.Started (r 2) None ∷ sent 2 1 0 3 (whys.Req (r 2)) (tasks.Populate (n 0) (s 3) (codes "http://a.test/2") false) ∷ [])
    ∷ by_proc 1 (rows.Taken (p 1) (j 1) true false) []
    ∷ by_proc 1 (rows.Finished (p 1) (j 1) (outcomes.Populated None)) []
    ∷ by_coord (rows.Delivered (p 1)) (sent 3 1 0 2 (whys.Req (r 1)) tasks.Discard ∷ [])
    ∷ by_proc 1 (rows.Taken (p 1) (j 2) true false) []
    ∷ by_proc 1 (rows.Finished (p 1) (j 2) (outcomes.Populated None)) []
    ∷ by_coord (rows.Delivered (p 1)) (rows.Applied (r 2) (changes.Push (n 0) (e 0 2) (s 3) (codes "http://a.test/2") None) ∷ sent 4 1 0 1 (whys.Req (r 2)) tasks.Freeze ∷ sent 5 1 0 3 (whys.Req (r 2)) (tasks.Activate (e 0 2) (epoch 2) 2 1 None (codes "http://a.test/2")) ∷ [])
    ∷ by_proc 1 (rows.Taken (p 1) (j 3) true false) []
    ∷ by_proc 1 (rows.Finished (p 1) (j 3) outcomes.Discarded) []
    ∷ by_coord (rows.Delivered (p 1)) []
    ∷ by_proc 1 (rows.Taken (p 1) (j 4) true false) []
    ∷ by_proc 1 (rows.Finished (p 1) (j 4) outcomes.Frozen) []
    ∷ by_coord (rows.Delivered (p 1)) []
    ∷ by_proc 1 (rows.Taken (p 1) (j 5) true false) []
    ∷ by_proc 1 (rows.Finished (p 1) (j 5) outcomes.Activated) []
    ∷ by_coord (rows.Delivered (p 1)) []
    ∷ by_ui (rows.Accepted (r 3) None (requests.Go (negsuc 0))) (rows.Started (r 3) (Some (t 0)) ∷ sent 6 1 0 3 (whys.Req (r 3)) tasks.Freeze ∷ sent 7 1 0 1 (whys.Req (r 3)) (tasks.Activate (e 0 1) (epoch 3) 2 0 None (codes "http://a.test/")) ∷ [])
    ∷ by_ui (rows.Accepted (r 4) None (requests.Load (n 0) modes.Auto (codes "http://a.test/3"))) (rows.Dropped (r 4) (drops.By (r 3)) ∷ [])
    ∷ by_proc 1 (rows.Taken (p 1) (j 6) true false) []
    ∷ by_proc 1 (rows.Finished (p 1) (j 6) outcomes.Frozen) []
    ∷ by_coord (rows.Delivered (p 1)) []
    ∷ by_proc 1 (rows.Taken (p 1) (j 7) true false) []
    ∷ by_proc 1 (rows.Finished (p 1) (j 7) outcomes.Activated) []
    ∷ by_coord (rows.Delivered (p 1)) (rows.Applied (r 3) (changes.Traverse (t 0)) ∷ [])
    ∷ []

pub later_load_is_legal : IsLegal (log_of later_load)
unfolding url_on_literals is_web is_blank_url judged judged_parse read_against address_of url_of resolved with_fragment base_of fragment_of origin_text origin_of has_same_base is_rewritable events_of each_event after_opening AtEachEvent is_numbered opens is_formed is_once is_caused is_queued is_ordered is_checked ends_settled loads_end ends_told ends_stepped goes_in_time
later_load_is_legal = record { opened = refl; numbered = refl; formed = refl; once = refl; caused = refl; queued = refl; ordered = refl; checked = refl; settled = refl }

pub later_load_ends_loads : LoadsEndInTime (log_of later_load)
unfolding url_on_literals is_web is_blank_url judged judged_parse read_against address_of url_of resolved with_fragment base_of fragment_of origin_text origin_of has_same_base is_rewritable events_of each_event after_opening AtEachEvent is_numbered opens is_formed is_once is_caused is_queued is_ordered is_checked ends_settled loads_end ends_told ends_stepped goes_in_time
later_load_ends_loads = refl

pub later_load_acts_at_once : ActsAtOnce (log_of later_load)
unfolding url_on_literals is_web is_blank_url judged judged_parse read_against address_of url_of resolved with_fragment base_of fragment_of origin_text origin_of has_same_base is_rewritable events_of each_event after_opening AtEachEvent is_numbered opens is_formed is_once is_caused is_queued is_ordered is_checked ends_settled loads_end ends_told ends_stepped goes_in_time
later_load_acts_at_once = record { told = refl; stepped = refl; in_time = refl }

pub later_load_suits : Suits plain_settings (log_of later_load)
unfolding url_on_literals is_web is_blank_url judged judged_parse read_against address_of url_of resolved with_fragment base_of fragment_of origin_text origin_of has_same_base is_rewritable events_of each_event after_opening AtEachEvent is_numbered opens is_formed is_once is_caused is_queued is_ordered is_checked ends_settled loads_end ends_told ends_stepped goes_in_time
later_load_suits = record { opened = refl; placed = refl; kept = refl }

-- A load and back, where no document is kept.
abbrev pub no_document_kept : List Event
no_document_kept =
    by_start (rows.Opened (e 0 1) (s 1) (d 1) (p 1) None (codes "http://a.test/")) []
    ∷ by_ui (rows.Accepted (r 1) None (requests.Load (n 0) modes.Auto (codes "http://a.test/1"))) (rows.Started (r 1) None ∷ sent 1 1 0 2 (whys.Req (r 1)) (tasks.Populate (n 0) (s 2) (codes "http://a.test/1") false) ∷ [])
    ∷ by_proc 1 (rows.Taken (p 1) (j 1) true false) []
    ∷ by_proc 1 (rows.Finished (p 1) (j 1) (outcomes.Populated None)) []
    ∷ by_coord (rows.Delivered (p 1)) (rows.Applied (r 1) (changes.Push (n 0) (e 0 2) (s 2) (codes "http://a.test/1") None) ∷ sent 2 1 0 1 (whys.Req (r 1)) tasks.Discard ∷ sent 3 1 0 2 (whys.Req (r 1)) (tasks.Activate (e 0 2) (epoch 2) 2 1 None (codes "http://a.test/1")) ∷ [])
    ∷ by_proc 1 (rows.Taken (p 1) (j 2) true false) []
    ∷ by_proc 1 (rows.Finished (p 1) (j 2) outcomes.Discarded) []
    ∷ by_coord (rows.Delivered (p 1)) []
    ∷ by_proc 1 (rows.Taken (p 1) (j 3) true false) []
    ∷ by_proc 1 (rows.Finished (p 1) (j 3) outcomes.Activated) []
    ∷ by_coord (rows.Delivered (p 1)) []
    ∷ by_ui (rows.Accepted (r 2) None (requests.Go (negsuc 0))) (rows.Started (r 2) (Some (t 0)) ∷ sent 4 1 0 3 (whys.Req (r 2)) (tasks.Populate (n 0) (s 1) (codes "http://a.test/") false) ∷ [])
    ∷ by_proc 1 (rows.Taken (p 1) (j 4) true false) []
    ∷ by_proc 1 (rows.Finished (p 1) (j 4) (outcomes.Populated None)) []
    ∷ by_coord (rows.Delivered (p 1)) (sent 5 1 0 2 (whys.Req (r 2)) tasks.Discard ∷ sent 6 1 0 3 (whys.Req (r 2)) (tasks.Activate (e 0 1) (epoch 3) 2 0 None (codes "http://a.test/")) ∷ [])
    ∷ by_proc 1 (rows.Taken (p 1) (j 5) true false) []
    ∷ by_proc 1 (rows.Finished (p 1) (j 5) outcomes.Discarded) []
    ∷ by_coord (rows.Delivered (p 1)) []
    ∷ by_proc 1 (rows.Taken (p 1) (j 6) true false) []
    ∷ by_proc 1 (rows.Finished (p 1) (j 6) outcomes.Activated) []
    ∷ by_coord (rows.Delivered (p 1)) (rows.Applied (r 2) (changes.Traverse (t 0)) ∷ [])
    ∷ []

abbrev pub no_document_kept_header : Header
no_document_kept_header = record { keep = 0; sites = []; pages = []; first = codes "http://a.test/" }

pub no_document_kept_is_legal : IsLegal (log_of no_document_kept)
unfolding url_on_literals is_web is_blank_url judged judged_parse read_against address_of url_of resolved with_fragment base_of fragment_of origin_text origin_of has_same_base is_rewritable events_of each_event after_opening AtEachEvent is_numbered opens is_formed is_once is_caused is_queued is_ordered is_checked ends_settled loads_end ends_told ends_stepped goes_in_time
no_document_kept_is_legal = record { opened = refl; numbered = refl; formed = refl; once = refl; caused = refl; queued = refl; ordered = refl; checked = refl; settled = refl }

pub no_document_kept_ends_loads : LoadsEndInTime (log_of no_document_kept)
unfolding url_on_literals is_web is_blank_url judged judged_parse read_against address_of url_of resolved with_fragment base_of fragment_of origin_text origin_of has_same_base is_rewritable events_of each_event after_opening AtEachEvent is_numbered opens is_formed is_once is_caused is_queued is_ordered is_checked ends_settled loads_end ends_told ends_stepped goes_in_time
no_document_kept_ends_loads = refl

pub no_document_kept_acts_at_once : ActsAtOnce (log_of no_document_kept)
unfolding url_on_literals is_web is_blank_url judged judged_parse read_against address_of url_of resolved with_fragment base_of fragment_of origin_text origin_of has_same_base is_rewritable events_of each_event after_opening AtEachEvent is_numbered opens is_formed is_once is_caused is_queued is_ordered is_checked ends_settled loads_end ends_told ends_stepped goes_in_time
no_document_kept_acts_at_once = record { told = refl; stepped = refl; in_time = refl }

pub no_document_kept_suits : Suits no_document_kept_header (log_of no_document_kept)
unfolding url_on_literals is_web is_blank_url judged judged_parse read_against address_of url_of resolved with_fragment base_of fragment_of origin_text origin_of has_same_base is_rewritable events_of each_event after_opening AtEachEvent is_numbered opens is_formed is_once is_caused is_queued is_ordered is_checked ends_settled loads_end ends_told ends_stepped goes_in_time
no_document_kept_suits = record { opened = refl; placed = refl; kept = refl }

-- A load into another process, and back.
abbrev pub two_processes : List Event
two_processes =
    before 5 poke_of_the_newer_document
    ++ by_proc 1 (rows.Taken (p 1) (j 2) true false) []
    ∷ by_proc 1 (rows.Finished (p 1) (j 2) outcomes.Frozen) []
    ∷ by_coord (rows.Delivered (p 1)) []
    ∷ by_proc 2 (rows.Taken (p 2) (j 3) true false) []
    ∷ by_proc 2 (rows.Finished (p 2) (j 3) outcomes.Activated) []
    ∷ by_coord (rows.Delivered (p 2)) []
    ∷ by_ui (rows.Accepted (r 2) None (requests.Go (negsuc 0))) (rows.Started (r 2) (Some (t 0)) ∷ sent 4 2 0 2 (whys.Req (r 2)) tasks.Freeze ∷ sent 5 1 0 1 (whys.Req (r 2)) (tasks.Activate (e 0 1) (epoch 3) 2 0 None (codes "http://a.test/")) ∷ [])
    ∷ by_proc 1 (rows.Taken (p 1) (j 5) true false) []
    ∷ by_proc 1 (rows.Finished (p 1) (j 5) outcomes.Activated) []
    ∷ by_coord (rows.Delivered (p 1)) (rows.Applied (r 2) (changes.Traverse (t 0)) ∷ [])
    ∷ by_proc 2 (rows.Taken (p 2) (j 4) true false) []
    ∷ by_proc 2 (rows.Finished (p 2) (j 4) outcomes.Frozen) []
    ∷ by_coord (rows.Delivered (p 2)) []
    ∷ []

abbrev pub two_processes_header : Header
two_processes_header = record { keep = 3; sites = record { origin = codes "http://b.test"; proc = p 2 } ∷ []; pages = []; first = codes "http://a.test/" }

pub two_processes_is_legal : IsLegal (log_of two_processes)
unfolding url_on_literals is_web is_blank_url judged judged_parse read_against address_of url_of resolved with_fragment base_of fragment_of origin_text origin_of has_same_base is_rewritable events_of each_event after_opening AtEachEvent is_numbered opens is_formed is_once is_caused is_queued is_ordered is_checked ends_settled loads_end ends_told ends_stepped goes_in_time
two_processes_is_legal = record { opened = refl; numbered = refl; formed = refl; once = refl; caused = refl; queued = refl; ordered = refl; checked = refl; settled = refl }

pub two_processes_ends_loads : LoadsEndInTime (log_of two_processes)
unfolding url_on_literals is_web is_blank_url judged judged_parse read_against address_of url_of resolved with_fragment base_of fragment_of origin_text origin_of has_same_base is_rewritable events_of each_event after_opening AtEachEvent is_numbered opens is_formed is_once is_caused is_queued is_ordered is_checked ends_settled loads_end ends_told ends_stepped goes_in_time
two_processes_ends_loads = refl

pub two_processes_acts_at_once : ActsAtOnce (log_of two_processes)
unfolding url_on_literals is_web is_blank_url judged judged_parse read_against address_of url_of resolved with_fragment base_of fragment_of origin_text origin_of has_same_base is_rewritable events_of each_event after_opening AtEachEvent is_numbered opens is_formed is_once is_caused is_queued is_ordered is_checked ends_settled loads_end ends_told ends_stepped goes_in_time
two_processes_acts_at_once = record { told = refl; stepped = refl; in_time = refl }

pub two_processes_suits : Suits two_processes_header (log_of two_processes)
unfolding url_on_literals is_web is_blank_url judged judged_parse read_against address_of url_of resolved with_fragment base_of fragment_of origin_text origin_of has_same_base is_rewritable events_of each_event after_opening AtEachEvent is_numbered opens is_formed is_once is_caused is_queued is_ordered is_checked ends_settled loads_end ends_told ends_stepped goes_in_time
two_processes_suits = record { opened = refl; placed = refl; kept = refl }

-- A push clears the state of a kept document, which is discarded.
abbrev pub push_over_a_kept_document : List Event
push_over_a_kept_document =
    by_start (rows.Opened (e 0 1) (s 1) (d 1) (p 1) None (codes "http://a.test/")) []
    ∷ by_ui (rows.Accepted (r 1) None (requests.Load (n 0) modes.Auto (codes "http://a.test/p1"))) (rows.Started (r 1) None ∷ sent 1 1 0 2 (whys.Req (r 1)) (tasks.Populate (n 0) (s 2) (codes "http://a.test/p1") false) ∷ [])
    ∷ by_proc 1 (rows.Taken (p 1) (j 1) true false) []
    ∷ by_proc 1 (rows.Finished (p 1) (j 1) (outcomes.Populated None)) []
    ∷ by_coord (rows.Delivered (p 1)) (rows.Applied (r 1) (changes.Push (n 0) (e 0 2) (s 2) (codes "http://a.test/p1") None) ∷ sent 2 1 0 1 (whys.Req (r 1)) tasks.Freeze ∷ sent 3 1 0 2 (whys.Req (r 1)) (tasks.Activate (e 0 2) (epoch 2) 2 1 None (codes "http://a.test/p1")) ∷ [])
    ∷ by_proc 1 (rows.Taken (p 1) (j 2) true false) []
    ∷ by_proc 1 (rows.Finished (p 1) (j 2) outcomes.Frozen) []
    ∷ by_coord (rows.Delivered (p 1)) []
    ∷ by_proc 1 (rows.Taken (p 1) (j 3) true false) []
    ∷ by_proc 1 (rows.Finished (p 1) (j 3) outcomes.Activated) []
    ∷ by_coord (rows.Delivered (p 1)) []
    ∷ by_ui (rows.Accepted (r 2) None (requests.Go (negsuc 0))) (rows.Started (r 2) (Some (t 0)) ∷ sent 4 1 0 2 (whys.Req (r 2)) tasks.Freeze ∷ sent 5 1 0 1 (whys.Req (r 2)) (tasks.Activate (e 0 1) (epoch 3) 2 0 None (codes "http://a.test/")) ∷ [])
    ∷ by_proc 1 (rows.Taken (p 1) (j 4) true false) []
    ∷ by_proc 1 (rows.Finished (p 1) (j 4) outcomes.Frozen) []
    ∷ by_coord (rows.Delivered (p 1)) []
    ∷ by_proc 1 (rows.Taken (p 1) (j 5) true false) []
    ∷ by_proc 1 (rows.Finished (p 1) (j 5) outcomes.Activated) []
    ∷ by_coord (rows.Delivered (p 1)) (rows.Applied (r 2) (changes.Traverse (t 0)) ∷ [])
    ∷ by_ui (rows.Accepted (r 3) (Some (d 1)) (requests.Poke (n 0) (actions.Push (Some (codes "s")) None))) []
    ∷ by_proc 1 (made 1 3 1 3 (whats.Push (e 1 1) (Some (codes "s")) (codes "http://a.test/"))) []
    ∷ by_coord (rows.Delivered (p 1)) (rows.Applied (r 3) (changes.Push (n 0) (e 1 1) (s 1) (codes "http://a.test/") (Some (codes "s"))) ∷ sent 6 1 0 2 (whys.Req (r 3)) tasks.Discard ∷ sent 7 1 0 1 (whys.Req (r 3)) (tasks.Update 2 1) ∷ [])
    ∷ by_proc 1 (rows.Taken (p 1) (j 6) true false) []
    ∷ by_proc 1 (rows.Finished (p 1) (j 6) outcomes.Discarded) []
    ∷ by_coord (rows.Delivered (p 1)) []
    ∷ by_proc 1 (rows.Taken (p 1) (j 7) true false) []
    ∷ by_proc 1 (rows.Finished (p 1) (j 7) outcomes.Updated) []
    ∷ by_coord (rows.Delivered (p 1)) []
    ∷ []

pub push_over_a_kept_document_is_legal : IsLegal (log_of push_over_a_kept_document)
unfolding url_on_literals is_web is_blank_url judged judged_parse read_against address_of url_of resolved with_fragment base_of fragment_of origin_text origin_of has_same_base is_rewritable events_of each_event after_opening AtEachEvent is_numbered opens is_formed is_once is_caused is_queued is_ordered is_checked ends_settled loads_end ends_told ends_stepped goes_in_time
push_over_a_kept_document_is_legal = record { opened = refl; numbered = refl; formed = refl; once = refl; caused = refl; queued = refl; ordered = refl; checked = refl; settled = refl }

pub push_over_a_kept_document_ends_loads : LoadsEndInTime (log_of push_over_a_kept_document)
unfolding url_on_literals is_web is_blank_url judged judged_parse read_against address_of url_of resolved with_fragment base_of fragment_of origin_text origin_of has_same_base is_rewritable events_of each_event after_opening AtEachEvent is_numbered opens is_formed is_once is_caused is_queued is_ordered is_checked ends_settled loads_end ends_told ends_stepped goes_in_time
push_over_a_kept_document_ends_loads = refl

pub push_over_a_kept_document_acts_at_once : ActsAtOnce (log_of push_over_a_kept_document)
unfolding url_on_literals is_web is_blank_url judged judged_parse read_against address_of url_of resolved with_fragment base_of fragment_of origin_text origin_of has_same_base is_rewritable events_of each_event after_opening AtEachEvent is_numbered opens is_formed is_once is_caused is_queued is_ordered is_checked ends_settled loads_end ends_told ends_stepped goes_in_time
push_over_a_kept_document_acts_at_once = record { told = refl; stepped = refl; in_time = refl }

pub push_over_a_kept_document_suits : Suits plain_settings (log_of push_over_a_kept_document)
unfolding url_on_literals is_web is_blank_url judged judged_parse read_against address_of url_of resolved with_fragment base_of fragment_of origin_text origin_of has_same_base is_rewritable events_of each_event after_opening AtEachEvent is_numbered opens is_formed is_once is_caused is_queued is_ordered is_checked ends_settled loads_end ends_told ends_stepped goes_in_time
push_over_a_kept_document_suits = record { opened = refl; placed = refl; kept = refl }

-- A traversal that moves the navigable ends its load.
abbrev pub load_ended_by_a_traversal : List Event
load_ended_by_a_traversal =
    before 11 push_over_a_kept_document
    ++ by_ui (rows.Accepted (r 2) None (requests.Load (n 0) modes.Auto (codes "http://b.test/p0"))) (rows.Started (r 2) None ∷ sent 4 2 0 3 (whys.Req (r 2)) (tasks.Populate (n 0) (s 3) (codes "http://b.test/p0") false) ∷ [])
    ∷ by_ui (rows.Accepted (r 3) None (requests.Go (negsuc 0))) (rows.Started (r 3) (Some (t 0)) ∷ rows.Dropped (r 2) (drops.By (r 3)) ∷ sent 5 1 0 2 (whys.Req (r 3)) tasks.Freeze ∷ sent 6 1 0 1 (whys.Req (r 3)) (tasks.Activate (e 0 1) (epoch 3) 2 0 None (codes "http://a.test/")) ∷ [])
    ∷ by_proc 1 (rows.Taken (p 1) (j 5) true false) []
    ∷ by_proc 1 (rows.Finished (p 1) (j 5) outcomes.Frozen) []
    ∷ by_coord (rows.Delivered (p 1)) []
    ∷ by_proc 1 (rows.Taken (p 1) (j 6) true false) []
    ∷ by_proc 1 (rows.Finished (p 1) (j 6) outcomes.Activated) []
    ∷ by_coord (rows.Delivered (p 1)) (rows.Applied (r 3) (changes.Traverse (t 0)) ∷ [])
    ∷ by_proc 2 (rows.Taken (p 2) (j 4) true false) []
    ∷ by_proc 2 (rows.Finished (p 2) (j 4) (outcomes.Populated None)) []
    ∷ by_coord (rows.Delivered (p 2)) (sent 7 2 0 3 (whys.Req (r 2)) tasks.Discard ∷ [])
    ∷ by_proc 2 (rows.Taken (p 2) (j 7) true false) []
    ∷ by_proc 2 (rows.Finished (p 2) (j 7) outcomes.Discarded) []
    ∷ by_coord (rows.Delivered (p 2)) []
    ∷ []

abbrev pub load_ended_by_a_traversal_header : Header
load_ended_by_a_traversal_header = record { keep = 3; sites = record { origin = codes "http://b.test"; proc = p 2 } ∷ []; pages = []; first = codes "http://a.test/" }

pub load_ended_by_a_traversal_is_legal : IsLegal (log_of load_ended_by_a_traversal)
unfolding url_on_literals is_web is_blank_url judged judged_parse read_against address_of url_of resolved with_fragment base_of fragment_of origin_text origin_of has_same_base is_rewritable events_of each_event after_opening AtEachEvent is_numbered opens is_formed is_once is_caused is_queued is_ordered is_checked ends_settled loads_end ends_told ends_stepped goes_in_time
load_ended_by_a_traversal_is_legal = record { opened = refl; numbered = refl; formed = refl; once = refl; caused = refl; queued = refl; ordered = refl; checked = refl; settled = refl }

pub load_ended_by_a_traversal_ends_loads : LoadsEndInTime (log_of load_ended_by_a_traversal)
unfolding url_on_literals is_web is_blank_url judged judged_parse read_against address_of url_of resolved with_fragment base_of fragment_of origin_text origin_of has_same_base is_rewritable events_of each_event after_opening AtEachEvent is_numbered opens is_formed is_once is_caused is_queued is_ordered is_checked ends_settled loads_end ends_told ends_stepped goes_in_time
load_ended_by_a_traversal_ends_loads = refl

pub load_ended_by_a_traversal_acts_at_once : ActsAtOnce (log_of load_ended_by_a_traversal)
unfolding url_on_literals is_web is_blank_url judged judged_parse read_against address_of url_of resolved with_fragment base_of fragment_of origin_text origin_of has_same_base is_rewritable events_of each_event after_opening AtEachEvent is_numbered opens is_formed is_once is_caused is_queued is_ordered is_checked ends_settled loads_end ends_told ends_stepped goes_in_time
load_ended_by_a_traversal_acts_at_once = record { told = refl; stepped = refl; in_time = refl }

pub load_ended_by_a_traversal_suits : Suits load_ended_by_a_traversal_header (log_of load_ended_by_a_traversal)
unfolding url_on_literals is_web is_blank_url judged judged_parse read_against address_of url_of resolved with_fragment base_of fragment_of origin_text origin_of has_same_base is_rewritable events_of each_event after_opening AtEachEvent is_numbered opens is_formed is_once is_caused is_queued is_ordered is_checked ends_settled loads_end ends_told ends_stepped goes_in_time
load_ended_by_a_traversal_suits = record { opened = refl; placed = refl; kept = refl }

-- A reload of the navigable ends its load.
abbrev pub load_ended_by_a_reload : List Event
load_ended_by_a_reload =
    by_start (rows.Opened (e 0 1) (s 1) (d 1) (p 1) None (codes "http://a.test/")) []
    ∷ by_ui (rows.Accepted (r 1) None (requests.Load (n 0) modes.Auto (codes "http://b.test/p0"))) (rows.Started (r 1) None ∷ sent 1 2 0 2 (whys.Req (r 1)) (tasks.Populate (n 0) (s 2) (codes "http://b.test/p0") false) ∷ [])
    ∷ by_ui (rows.Accepted (r 2) None (requests.Reload (n 0))) (rows.Started (r 2) None ∷ rows.Applied (r 2) (changes.Reload (n 0)) ∷ rows.Dropped (r 1) (drops.By (r 2)) ∷ sent 2 1 0 3 (whys.Req (r 2)) (tasks.Populate (n 0) (s 1) (codes "http://a.test/") false) ∷ [])
    ∷ by_proc 1 (rows.Taken (p 1) (j 2) true false) []
    ∷ by_proc 1 (rows.Finished (p 1) (j 2) (outcomes.Populated None)) []
    ∷ by_coord (rows.Delivered (p 1)) (sent 3 1 0 1 (whys.Req (r 2)) tasks.Discard ∷ sent 4 1 0 3 (whys.Req (r 2)) (tasks.Activate (e 0 1) (epoch 2) 1 0 None (codes "http://a.test/")) ∷ [])
    ∷ by_proc 2 (rows.Taken (p 2) (j 1) true false) []
    ∷ by_proc 2 (rows.Finished (p 2) (j 1) (outcomes.Populated None)) []
    ∷ by_coord (rows.Delivered (p 2)) (sent 5 2 0 2 (whys.Req (r 1)) tasks.Discard ∷ [])
    ∷ by_proc 1 (rows.Taken (p 1) (j 3) true false) []
    ∷ by_proc 1 (rows.Finished (p 1) (j 3) outcomes.Discarded) []
    ∷ by_coord (rows.Delivered (p 1)) []
    ∷ by_proc 2 (rows.Taken (p 2) (j 5) true false) []
    ∷ by_proc 2 (rows.Finished (p 2) (j 5) outcomes.Discarded) []
    ∷ by_coord (rows.Delivered (p 2)) []
    ∷ by_proc 1 (rows.Taken (p 1) (j 4) true false) []
    ∷ by_proc 1 (rows.Finished (p 1) (j 4) outcomes.Activated) []
    ∷ by_coord (rows.Delivered (p 1)) []
    ∷ []

abbrev pub load_ended_by_a_reload_header : Header
load_ended_by_a_reload_header = record { keep = 3; sites = record { origin = codes "http://b.test"; proc = p 2 } ∷ []; pages = []; first = codes "http://a.test/" }

pub load_ended_by_a_reload_is_legal : IsLegal (log_of load_ended_by_a_reload)
unfolding url_on_literals is_web is_blank_url judged judged_parse read_against address_of url_of resolved with_fragment base_of fragment_of origin_text origin_of has_same_base is_rewritable events_of each_event after_opening AtEachEvent is_numbered opens is_formed is_once is_caused is_queued is_ordered is_checked ends_settled loads_end ends_told ends_stepped goes_in_time
load_ended_by_a_reload_is_legal = record { opened = refl; numbered = refl; formed = refl; once = refl; caused = refl; queued = refl; ordered = refl; checked = refl; settled = refl }

pub load_ended_by_a_reload_ends_loads : LoadsEndInTime (log_of load_ended_by_a_reload)
unfolding url_on_literals is_web is_blank_url judged judged_parse read_against address_of url_of resolved with_fragment base_of fragment_of origin_text origin_of has_same_base is_rewritable events_of each_event after_opening AtEachEvent is_numbered opens is_formed is_once is_caused is_queued is_ordered is_checked ends_settled loads_end ends_told ends_stepped goes_in_time
load_ended_by_a_reload_ends_loads = refl

pub load_ended_by_a_reload_acts_at_once : ActsAtOnce (log_of load_ended_by_a_reload)
unfolding url_on_literals is_web is_blank_url judged judged_parse read_against address_of url_of resolved with_fragment base_of fragment_of origin_text origin_of has_same_base is_rewritable events_of each_event after_opening AtEachEvent is_numbered opens is_formed is_once is_caused is_queued is_ordered is_checked ends_settled loads_end ends_told ends_stepped goes_in_time
load_ended_by_a_reload_acts_at_once = record { told = refl; stepped = refl; in_time = refl }

pub load_ended_by_a_reload_suits : Suits load_ended_by_a_reload_header (log_of load_ended_by_a_reload)
unfolding url_on_literals is_web is_blank_url judged judged_parse read_against address_of url_of resolved with_fragment base_of fragment_of origin_text origin_of has_same_base is_rewritable events_of each_event after_opening AtEachEvent is_numbered opens is_formed is_once is_caused is_queued is_ordered is_checked ends_settled loads_end ends_told ends_stepped goes_in_time
load_ended_by_a_reload_suits = record { opened = refl; placed = refl; kept = refl }

-- Kept documents that are too many, and one that is evicted.
abbrev pub evicted_documents : List Event
evicted_documents =
    before 4 no_document_kept
    ++ by_coord (rows.Delivered (p 1)) (rows.Applied (r 1) (changes.Push (n 0) (e 0 2) (s 2) (codes "http://a.test/1") None) ∷ sent 2 1 0 1 (whys.Req (r 1)) tasks.Freeze ∷ sent 3 1 0 2 (whys.Req (r 1)) (tasks.Activate (e 0 2) (epoch 2) 2 1 None (codes "http://a.test/1")) ∷ [])
    ∷ by_proc 1 (rows.Taken (p 1) (j 2) true false) []
    ∷ by_proc 1 (rows.Finished (p 1) (j 2) outcomes.Frozen) []
    ∷ by_coord (rows.Delivered (p 1)) []
    ∷ by_proc 1 (rows.Taken (p 1) (j 3) true false) []
    ∷ by_proc 1 (rows.Finished (p 1) (j 3) outcomes.Activated) []
    ∷ by_coord (rows.Delivered (p 1)) []
    ∷ by_ui (rows.Accepted (r 2) None (requests.Load (n 0) modes.Auto (codes "http://a.test/2"))) (rows.Started (r 2) None ∷ sent 4 1 0 3 (whys.Req (r 2)) (tasks.Populate (n 0) (s 3) (codes "http://a.test/2") false) ∷ [])
    ∷ by_proc 1 (rows.Taken (p 1) (j 4) true false) []
    ∷ by_proc 1 (rows.Finished (p 1) (j 4) (outcomes.Populated None)) []
    ∷ by_coord (rows.Delivered (p 1)) (rows.Applied (r 2) (changes.Push (n 0) (e 0 3) (s 3) (codes "http://a.test/2") None) ∷ sent 5 1 0 2 (whys.Req (r 2)) tasks.Freeze ∷ sent 6 1 0 1 (whys.Req (r 2)) tasks.Discard ∷ sent 7 1 0 3 (whys.Req (r 2)) (tasks.Activate (e 0 3) (epoch 3) 3 2 None (codes "http://a.test/2")) ∷ [])
    ∷ by_proc 1 (rows.Taken (p 1) (j 5) true false) []
    ∷ by_proc 1 (rows.Finished (p 1) (j 5) outcomes.Frozen) []
    ∷ by_coord (rows.Delivered (p 1)) []
    ∷ by_proc 1 (rows.Taken (p 1) (j 6) true false) []
    ∷ by_proc 1 (rows.Finished (p 1) (j 6) outcomes.Discarded) []
    ∷ by_coord (rows.Delivered (p 1)) []
    ∷ by_proc 1 (rows.Taken (p 1) (j 7) true false) []
    ∷ by_proc 1 (rows.Finished (p 1) (j 7) outcomes.Activated) []
    ∷ by_coord (rows.Delivered (p 1)) []
    ∷ by_ui (rows.Accepted (r 3) None (requests.Go (negsuc 1))) (rows.Started (r 3) (Some (t 0)) ∷ sent 8 1 0 4 (whys.Req (r 3)) (tasks.Populate (n 0) (s 1) (codes "http://a.test/") false) ∷ [])
    ∷ by_proc 1 (rows.Taken (p 1) (j 8) true false) []
    ∷ by_proc 1 (rows.Finished (p 1) (j 8) (outcomes.Populated None)) []
    ∷ by_coord (rows.Delivered (p 1)) (sent 9 1 0 3 (whys.Req (r 3)) tasks.Freeze ∷ sent 10 1 0 2 (whys.Req (r 3)) tasks.Discard ∷ sent 11 1 0 4 (whys.Req (r 3)) (tasks.Activate (e 0 1) (epoch 4) 3 0 None (codes "http://a.test/")) ∷ [])
    ∷ by_proc 1 (rows.Taken (p 1) (j 9) true false) []
    ∷ by_proc 1 (rows.Finished (p 1) (j 9) outcomes.Frozen) []
    ∷ by_coord (rows.Delivered (p 1)) []
    ∷ by_proc 1 (rows.Taken (p 1) (j 10) true false) []
    ∷ by_proc 1 (rows.Finished (p 1) (j 10) outcomes.Discarded) []
    ∷ by_coord (rows.Delivered (p 1)) []
    ∷ by_proc 1 (rows.Taken (p 1) (j 11) true false) []
    ∷ by_proc 1 (rows.Finished (p 1) (j 11) outcomes.Activated) []
    ∷ by_coord (rows.Delivered (p 1)) (rows.Applied (r 3) (changes.Traverse (t 0)) ∷ [])
    ∷ by_ui (rows.Evicted (s 3)) (sent 12 1 0 3 whys.Evict tasks.Discard ∷ [])
    ∷ by_proc 1 (rows.Taken (p 1) (j 12) true false) []
    ∷ by_proc 1 (rows.Finished (p 1) (j 12) outcomes.Discarded) []
    ∷ by_coord (rows.Delivered (p 1)) []
    ∷ []

abbrev pub evicted_documents_header : Header
evicted_documents_header = record { keep = 1; sites = []; pages = []; first = codes "http://a.test/" }

pub evicted_documents_is_legal : IsLegal (log_of evicted_documents)
unfolding url_on_literals is_web is_blank_url judged judged_parse read_against address_of url_of resolved with_fragment base_of fragment_of origin_text origin_of has_same_base is_rewritable events_of each_event after_opening AtEachEvent is_numbered opens is_formed is_once is_caused is_queued is_ordered is_checked ends_settled loads_end ends_told ends_stepped goes_in_time
evicted_documents_is_legal = record { opened = refl; numbered = refl; formed = refl; once = refl; caused = refl; queued = refl; ordered = refl; checked = refl; settled = refl }

pub evicted_documents_ends_loads : LoadsEndInTime (log_of evicted_documents)
unfolding url_on_literals is_web is_blank_url judged judged_parse read_against address_of url_of resolved with_fragment base_of fragment_of origin_text origin_of has_same_base is_rewritable events_of each_event after_opening AtEachEvent is_numbered opens is_formed is_once is_caused is_queued is_ordered is_checked ends_settled loads_end ends_told ends_stepped goes_in_time
evicted_documents_ends_loads = refl

pub evicted_documents_acts_at_once : ActsAtOnce (log_of evicted_documents)
unfolding url_on_literals is_web is_blank_url judged judged_parse read_against address_of url_of resolved with_fragment base_of fragment_of origin_text origin_of has_same_base is_rewritable events_of each_event after_opening AtEachEvent is_numbered opens is_formed is_once is_caused is_queued is_ordered is_checked ends_settled loads_end ends_told ends_stepped goes_in_time
evicted_documents_acts_at_once = record { told = refl; stepped = refl; in_time = refl }

pub evicted_documents_suits : Suits evicted_documents_header (log_of evicted_documents)
unfolding url_on_literals is_web is_blank_url judged judged_parse read_against address_of url_of resolved with_fragment base_of fragment_of origin_text origin_of has_same_base is_rewritable events_of each_event after_opening AtEachEvent is_numbered opens is_formed is_once is_caused is_queued is_ordered is_checked ends_settled loads_end ends_told ends_stepped goes_in_time
evicted_documents_suits = record { opened = refl; placed = refl; kept = refl }

-- A load that is a fragment navigation.
abbrev pub fragment_load : List Event
fragment_load =
    by_start (rows.Opened (e 0 1) (s 1) (d 1) (p 1) None (codes "http://a.test/")) []
    ∷ by_ui (rows.Accepted (r 1) None (requests.Load (n 0) modes.Auto (codes "http://a.test/#x"))) (sent 1 1 0 1 (whys.Req (r 1)) (tasks.DoFragment (r 1) modes.Auto (codes "http://a.test/#x")) ∷ [])
    ∷ by_proc 1 (rows.Taken (p 1) (j 1) true false) []
    ∷ by_proc 1 (rows.Finished (p 1) (j 1) outcomes.Fragmented) (made 1 1 1 1 (whats.Push (e 1 1) None (codes "http://a.test/#x")) ∷ [])
    ∷ by_coord (rows.Delivered (p 1)) (rows.Applied (r 1) (changes.Push (n 0) (e 1 1) (s 1) (codes "http://a.test/#x") None) ∷ sent 2 1 0 1 (whys.Req (r 1)) (tasks.Update 2 1) ∷ [])
    ∷ by_proc 1 (rows.Taken (p 1) (j 2) true false) []
    ∷ by_proc 1 (rows.Finished (p 1) (j 2) outcomes.Updated) []
    ∷ by_coord (rows.Delivered (p 1)) []
    ∷ []

pub fragment_load_is_legal : IsLegal (log_of fragment_load)
unfolding url_on_literals is_web is_blank_url judged judged_parse read_against address_of url_of resolved with_fragment base_of fragment_of origin_text origin_of has_same_base is_rewritable events_of each_event after_opening AtEachEvent is_numbered opens is_formed is_once is_caused is_queued is_ordered is_checked ends_settled loads_end ends_told ends_stepped goes_in_time
fragment_load_is_legal = record { opened = refl; numbered = refl; formed = refl; once = refl; caused = refl; queued = refl; ordered = refl; checked = refl; settled = refl }

pub fragment_load_ends_loads : LoadsEndInTime (log_of fragment_load)
unfolding url_on_literals is_web is_blank_url judged judged_parse read_against address_of url_of resolved with_fragment base_of fragment_of origin_text origin_of has_same_base is_rewritable events_of each_event after_opening AtEachEvent is_numbered opens is_formed is_once is_caused is_queued is_ordered is_checked ends_settled loads_end ends_told ends_stepped goes_in_time
fragment_load_ends_loads = refl

pub fragment_load_acts_at_once : ActsAtOnce (log_of fragment_load)
unfolding url_on_literals is_web is_blank_url judged judged_parse read_against address_of url_of resolved with_fragment base_of fragment_of origin_text origin_of has_same_base is_rewritable events_of each_event after_opening AtEachEvent is_numbered opens is_formed is_once is_caused is_queued is_ordered is_checked ends_settled loads_end ends_told ends_stepped goes_in_time
fragment_load_acts_at_once = record { told = refl; stepped = refl; in_time = refl }

pub fragment_load_suits : Suits plain_settings (log_of fragment_load)
unfolding url_on_literals is_web is_blank_url judged judged_parse read_against address_of url_of resolved with_fragment base_of fragment_of origin_text origin_of has_same_base is_rewritable events_of each_event after_opening AtEachEvent is_numbered opens is_formed is_once is_caused is_queued is_ordered is_checked ends_settled loads_end ends_told ends_stepped goes_in_time
fragment_load_suits = record { opened = refl; placed = refl; kept = refl }

-- A load and a reload of a navigable that is not there.
abbrev pub load_of_no_navigable : List Event
load_of_no_navigable =
    by_start (rows.Opened (e 0 1) (s 1) (d 1) (p 1) None (codes "http://a.test/")) []
    ∷ by_ui (rows.Accepted (r 1) None (requests.Load (n 5) modes.Auto (codes "http://a.test/1"))) (rows.Refused (r 1) denials.NoNavigable ∷ [])
    ∷ by_ui (rows.Accepted (r 2) None (requests.Reload (n 5))) (rows.Refused (r 2) denials.NoNavigable ∷ [])
    ∷ []

pub load_of_no_navigable_is_legal : IsLegal (log_of load_of_no_navigable)
unfolding url_on_literals is_web is_blank_url judged judged_parse read_against address_of url_of resolved with_fragment base_of fragment_of origin_text origin_of has_same_base is_rewritable events_of each_event after_opening AtEachEvent is_numbered opens is_formed is_once is_caused is_queued is_ordered is_checked ends_settled loads_end ends_told ends_stepped goes_in_time
load_of_no_navigable_is_legal = record { opened = refl; numbered = refl; formed = refl; once = refl; caused = refl; queued = refl; ordered = refl; checked = refl; settled = refl }

pub load_of_no_navigable_ends_loads : LoadsEndInTime (log_of load_of_no_navigable)
unfolding url_on_literals is_web is_blank_url judged judged_parse read_against address_of url_of resolved with_fragment base_of fragment_of origin_text origin_of has_same_base is_rewritable events_of each_event after_opening AtEachEvent is_numbered opens is_formed is_once is_caused is_queued is_ordered is_checked ends_settled loads_end ends_told ends_stepped goes_in_time
load_of_no_navigable_ends_loads = refl

pub load_of_no_navigable_acts_at_once : ActsAtOnce (log_of load_of_no_navigable)
unfolding url_on_literals is_web is_blank_url judged judged_parse read_against address_of url_of resolved with_fragment base_of fragment_of origin_text origin_of has_same_base is_rewritable events_of each_event after_opening AtEachEvent is_numbered opens is_formed is_once is_caused is_queued is_ordered is_checked ends_settled loads_end ends_told ends_stepped goes_in_time
load_of_no_navigable_acts_at_once = record { told = refl; stepped = refl; in_time = refl }

pub load_of_no_navigable_suits : Suits plain_settings (log_of load_of_no_navigable)
unfolding url_on_literals is_web is_blank_url judged judged_parse read_against address_of url_of resolved with_fragment base_of fragment_of origin_text origin_of has_same_base is_rewritable events_of each_event after_opening AtEachEvent is_numbered opens is_formed is_once is_caused is_queued is_ordered is_checked ends_settled loads_end ends_told ends_stepped goes_in_time
load_of_no_navigable_suits = record { opened = refl; placed = refl; kept = refl }

-- A load of the same address that is to be a push.
abbrev pub load_as_a_push : List Event
load_as_a_push =
    by_start (rows.Opened (e 0 1) (s 1) (d 1) (p 1) None (codes "http://a.test/")) []
    ∷ by_ui (rows.Accepted (r 1) None (requests.Load (n 0) modes.Push (codes "http://a.test/"))) (rows.Started (r 1) None ∷ sent 1 1 0 2 (whys.Req (r 1)) (tasks.Populate (n 0) (s 2) (codes "http://a.test/") false) ∷ [])
    ∷ by_proc 1 (rows.Taken (p 1) (j 1) true false) []
    ∷ by_proc 1 (rows.Finished (p 1) (j 1) (outcomes.Populated None)) []
    ∷ by_coord (rows.Delivered (p 1)) (rows.Applied (r 1) (changes.Push (n 0) (e 0 2) (s 2) (codes "http://a.test/") None) ∷ sent 2 1 0 1 (whys.Req (r 1)) tasks.Freeze ∷ sent 3 1 0 2 (whys.Req (r 1)) (tasks.Activate (e 0 2) (epoch 2) 2 1 None (codes "http://a.test/")) ∷ [])
    ∷ by_proc 1 (rows.Taken (p 1) (j 2) true false) []
    ∷ by_proc 1 (rows.Finished (p 1) (j 2) outcomes.Frozen) []
    ∷ by_coord (rows.Delivered (p 1)) []
    ∷ by_proc 1 (rows.Taken (p 1) (j 3) true false) []
    ∷ by_proc 1 (rows.Finished (p 1) (j 3) outcomes.Activated) []
    ∷ by_coord (rows.Delivered (p 1)) []
    ∷ []

pub load_as_a_push_is_legal : IsLegal (log_of load_as_a_push)
unfolding url_on_literals is_web is_blank_url judged judged_parse read_against address_of url_of resolved with_fragment base_of fragment_of origin_text origin_of has_same_base is_rewritable events_of each_event after_opening AtEachEvent is_numbered opens is_formed is_once is_caused is_queued is_ordered is_checked ends_settled loads_end ends_told ends_stepped goes_in_time
load_as_a_push_is_legal = record { opened = refl; numbered = refl; formed = refl; once = refl; caused = refl; queued = refl; ordered = refl; checked = refl; settled = refl }

pub load_as_a_push_ends_loads : LoadsEndInTime (log_of load_as_a_push)
unfolding url_on_literals is_web is_blank_url judged judged_parse read_against address_of url_of resolved with_fragment base_of fragment_of origin_text origin_of has_same_base is_rewritable events_of each_event after_opening AtEachEvent is_numbered opens is_formed is_once is_caused is_queued is_ordered is_checked ends_settled loads_end ends_told ends_stepped goes_in_time
load_as_a_push_ends_loads = refl

pub load_as_a_push_acts_at_once : ActsAtOnce (log_of load_as_a_push)
unfolding url_on_literals is_web is_blank_url judged judged_parse read_against address_of url_of resolved with_fragment base_of fragment_of origin_text origin_of has_same_base is_rewritable events_of each_event after_opening AtEachEvent is_numbered opens is_formed is_once is_caused is_queued is_ordered is_checked ends_settled loads_end ends_told ends_stepped goes_in_time
load_as_a_push_acts_at_once = record { told = refl; stepped = refl; in_time = refl }

pub load_as_a_push_suits : Suits plain_settings (log_of load_as_a_push)
unfolding url_on_literals is_web is_blank_url judged judged_parse read_against address_of url_of resolved with_fragment base_of fragment_of origin_text origin_of has_same_base is_rewritable events_of each_event after_opening AtEachEvent is_numbered opens is_formed is_once is_caused is_queued is_ordered is_checked ends_settled loads_end ends_told ends_stepped goes_in_time
load_as_a_push_suits = record { opened = refl; placed = refl; kept = refl }

-- A fragment navigation to the same address is a replace.
abbrev pub fragment_load_again : List Event
fragment_load_again =
    fragment_load
    ++ by_ui (rows.Accepted (r 2) None (requests.Load (n 0) modes.Auto (codes "http://a.test/#x"))) (sent 3 1 0 1 (whys.Req (r 2)) (tasks.DoFragment (r 2) modes.Auto (codes "http://a.test/#x")) ∷ [])
    ∷ by_proc 1 (rows.Taken (p 1) (j 3) true false) []
    ∷ by_proc 1 (rows.Finished (p 1) (j 3) outcomes.Fragmented) (made 1 2 1 1 (whats.Replace (e 1 1) (e 1 2) None (codes "http://a.test/#x")) ∷ [])
    ∷ by_coord (rows.Delivered (p 1)) (rows.Applied (r 2) (changes.Replace (n 0) (e 1 1) (e 1 2) (s 1) (codes "http://a.test/#x") None) ∷ [])
    ∷ []

pub fragment_load_again_is_legal : IsLegal (log_of fragment_load_again)
unfolding url_on_literals is_web is_blank_url judged judged_parse read_against address_of url_of resolved with_fragment base_of fragment_of origin_text origin_of has_same_base is_rewritable events_of each_event after_opening AtEachEvent is_numbered opens is_formed is_once is_caused is_queued is_ordered is_checked ends_settled loads_end ends_told ends_stepped goes_in_time
fragment_load_again_is_legal = record { opened = refl; numbered = refl; formed = refl; once = refl; caused = refl; queued = refl; ordered = refl; checked = refl; settled = refl }

pub fragment_load_again_ends_loads : LoadsEndInTime (log_of fragment_load_again)
unfolding url_on_literals is_web is_blank_url judged judged_parse read_against address_of url_of resolved with_fragment base_of fragment_of origin_text origin_of has_same_base is_rewritable events_of each_event after_opening AtEachEvent is_numbered opens is_formed is_once is_caused is_queued is_ordered is_checked ends_settled loads_end ends_told ends_stepped goes_in_time
fragment_load_again_ends_loads = refl

pub fragment_load_again_acts_at_once : ActsAtOnce (log_of fragment_load_again)
unfolding url_on_literals is_web is_blank_url judged judged_parse read_against address_of url_of resolved with_fragment base_of fragment_of origin_text origin_of has_same_base is_rewritable events_of each_event after_opening AtEachEvent is_numbered opens is_formed is_once is_caused is_queued is_ordered is_checked ends_settled loads_end ends_told ends_stepped goes_in_time
fragment_load_again_acts_at_once = record { told = refl; stepped = refl; in_time = refl }

pub fragment_load_again_suits : Suits plain_settings (log_of fragment_load_again)
unfolding url_on_literals is_web is_blank_url judged judged_parse read_against address_of url_of resolved with_fragment base_of fragment_of origin_text origin_of has_same_base is_rewritable events_of each_event after_opening AtEachEvent is_numbered opens is_formed is_once is_caused is_queued is_ordered is_checked ends_settled loads_end ends_told ends_stepped goes_in_time
fragment_load_again_suits = record { opened = refl; placed = refl; kept = refl }

-- A load over the first about:blank document is a replace.
abbrev pub load_of_an_initial_document : List Event
load_of_an_initial_document =
    by_start (rows.Opened (e 0 1) (s 1) (d 1) (p 1) None (codes "about:blank")) []
    ∷ by_ui (rows.Accepted (r 1) None (requests.Load (n 0) modes.Auto (codes "http://a.test/"))) (rows.Started (r 1) None ∷ sent 1 1 0 2 (whys.Req (r 1)) (tasks.Populate (n 0) (s 2) (codes "http://a.test/") false) ∷ [])
    ∷ by_proc 1 (rows.Taken (p 1) (j 1) true false) []
    ∷ by_proc 1 (rows.Finished (p 1) (j 1) (outcomes.Populated None)) []
    ∷ by_coord (rows.Delivered (p 1)) (rows.Applied (r 1) (changes.Replace (n 0) (e 0 1) (e 0 2) (s 2) (codes "http://a.test/") None) ∷ sent 2 1 0 1 (whys.Req (r 1)) tasks.Discard ∷ sent 3 1 0 2 (whys.Req (r 1)) (tasks.Activate (e 0 2) (epoch 2) 1 0 None (codes "http://a.test/")) ∷ [])
    ∷ by_proc 1 (rows.Taken (p 1) (j 2) true false) []
    ∷ by_proc 1 (rows.Finished (p 1) (j 2) outcomes.Discarded) []
    ∷ by_coord (rows.Delivered (p 1)) []
    ∷ by_proc 1 (rows.Taken (p 1) (j 3) true false) []
    ∷ by_proc 1 (rows.Finished (p 1) (j 3) outcomes.Activated) []
    ∷ by_coord (rows.Delivered (p 1)) []
    ∷ by_ui (rows.Accepted (r 2) None (requests.Go (negsuc 0))) (rows.Refused (r 2) denials.NoStep ∷ [])
    ∷ []

abbrev pub load_of_an_initial_document_header : Header
load_of_an_initial_document_header = record { keep = 3; sites = []; pages = []; first = codes "about:blank" }

pub load_of_an_initial_document_is_legal : IsLegal (log_of load_of_an_initial_document)
unfolding url_on_literals is_web is_blank_url judged judged_parse read_against address_of url_of resolved with_fragment base_of fragment_of origin_text origin_of has_same_base is_rewritable events_of each_event after_opening AtEachEvent is_numbered opens is_formed is_once is_caused is_queued is_ordered is_checked ends_settled loads_end ends_told ends_stepped goes_in_time
load_of_an_initial_document_is_legal = record { opened = refl; numbered = refl; formed = refl; once = refl; caused = refl; queued = refl; ordered = refl; checked = refl; settled = refl }

pub load_of_an_initial_document_ends_loads : LoadsEndInTime (log_of load_of_an_initial_document)
unfolding url_on_literals is_web is_blank_url judged judged_parse read_against address_of url_of resolved with_fragment base_of fragment_of origin_text origin_of has_same_base is_rewritable events_of each_event after_opening AtEachEvent is_numbered opens is_formed is_once is_caused is_queued is_ordered is_checked ends_settled loads_end ends_told ends_stepped goes_in_time
load_of_an_initial_document_ends_loads = refl

pub load_of_an_initial_document_acts_at_once : ActsAtOnce (log_of load_of_an_initial_document)
unfolding url_on_literals is_web is_blank_url judged judged_parse read_against address_of url_of resolved with_fragment base_of fragment_of origin_text origin_of has_same_base is_rewritable events_of each_event after_opening AtEachEvent is_numbered opens is_formed is_once is_caused is_queued is_ordered is_checked ends_settled loads_end ends_told ends_stepped goes_in_time
load_of_an_initial_document_acts_at_once = record { told = refl; stepped = refl; in_time = refl }

pub load_of_an_initial_document_suits : Suits load_of_an_initial_document_header (log_of load_of_an_initial_document)
unfolding url_on_literals is_web is_blank_url judged judged_parse read_against address_of url_of resolved with_fragment base_of fragment_of origin_text origin_of has_same_base is_rewritable events_of each_event after_opening AtEachEvent is_numbered opens is_formed is_once is_caused is_queued is_ordered is_checked ends_settled loads_end ends_told ends_stepped goes_in_time
load_of_an_initial_document_suits = record { opened = refl; placed = refl; kept = refl }

-- A load gives way to one that was applied as it was on its way.
abbrev pub load_behind_a_load : List Event
load_behind_a_load =
    by_start (rows.Opened (e 0 1) (s 1) (d 1) (p 1) None (codes "http://a.test/")) []
    ∷ by_ui (rows.Accepted (r 1) None (requests.Load (n 0) modes.Auto (codes "http://b.test/1"))) (rows.Started (r 1) None ∷ sent 1 2 0 2 (whys.Req (r 1)) (tasks.Populate (n 0) (s 2) (codes "http://b.test/1") false) ∷ [])
    ∷ by_proc 2 (rows.Taken (p 2) (j 1) true false) []
    ∷ by_proc 2 (rows.Finished (p 2) (j 1) (outcomes.Populated None)) []
    ∷ by_coord (rows.Delivered (p 2)) (rows.Applied (r 1) (changes.Push (n 0) (e 0 2) (s 2) (codes "http://b.test/1") None) ∷ sent 2 1 0 1 (whys.Req (r 1)) tasks.Freeze ∷ sent 3 2 0 2 (whys.Req (r 1)) (tasks.Activate (e 0 2) (epoch 2) 2 1 None (codes "http://b.test/1")) ∷ [])
    ∷ by_ui (rows.Accepted (r 2) None (requests.Load (n 0) modes.Auto (codes "http://a.test/2"))) (rows.Dropped (r 2) (drops.By (r 1)) ∷ [])
    ∷ by_proc 1 (rows.Taken (p 1) (j 2) true false) []
    ∷ by_proc 1 (rows.Finished (p 1) (j 2) outcomes.Frozen) []
    ∷ by_coord (rows.Delivered (p 1)) []
    ∷ by_proc 2 (rows.Taken (p 2) (j 3) true false) []
    ∷ by_proc 2 (rows.Finished (p 2) (j 3) outcomes.Activated) []
    ∷ by_coord (rows.Delivered (p 2)) []
    ∷ []

abbrev pub load_behind_a_load_header : Header
load_behind_a_load_header = record { keep = 3; sites = record { origin = codes "http://b.test"; proc = p 2 } ∷ []; pages = []; first = codes "http://a.test/" }

pub load_behind_a_load_is_legal : IsLegal (log_of load_behind_a_load)
unfolding url_on_literals is_web is_blank_url judged judged_parse read_against address_of url_of resolved with_fragment base_of fragment_of origin_text origin_of has_same_base is_rewritable events_of each_event after_opening AtEachEvent is_numbered opens is_formed is_once is_caused is_queued is_ordered is_checked ends_settled loads_end ends_told ends_stepped goes_in_time
load_behind_a_load_is_legal = record { opened = refl; numbered = refl; formed = refl; once = refl; caused = refl; queued = refl; ordered = refl; checked = refl; settled = refl }

pub load_behind_a_load_ends_loads : LoadsEndInTime (log_of load_behind_a_load)
unfolding url_on_literals is_web is_blank_url judged judged_parse read_against address_of url_of resolved with_fragment base_of fragment_of origin_text origin_of has_same_base is_rewritable events_of each_event after_opening AtEachEvent is_numbered opens is_formed is_once is_caused is_queued is_ordered is_checked ends_settled loads_end ends_told ends_stepped goes_in_time
load_behind_a_load_ends_loads = refl

pub load_behind_a_load_acts_at_once : ActsAtOnce (log_of load_behind_a_load)
unfolding url_on_literals is_web is_blank_url judged judged_parse read_against address_of url_of resolved with_fragment base_of fragment_of origin_text origin_of has_same_base is_rewritable events_of each_event after_opening AtEachEvent is_numbered opens is_formed is_once is_caused is_queued is_ordered is_checked ends_settled loads_end ends_told ends_stepped goes_in_time
load_behind_a_load_acts_at_once = record { told = refl; stepped = refl; in_time = refl }

pub load_behind_a_load_suits : Suits load_behind_a_load_header (log_of load_behind_a_load)
unfolding url_on_literals is_web is_blank_url judged judged_parse read_against address_of url_of resolved with_fragment base_of fragment_of origin_text origin_of has_same_base is_rewritable events_of each_event after_opening AtEachEvent is_numbered opens is_formed is_once is_caused is_queued is_ordered is_checked ends_settled loads_end ends_told ends_stepped goes_in_time
load_behind_a_load_suits = record { opened = refl; placed = refl; kept = refl }

-- A fragment of the top jumps the queue while a frame is moved.
abbrev pub fragment_beside_a_traversal : List Event
fragment_beside_a_traversal =
    before 20 held_back_push
    ++ by_ui (rows.Accepted (r 3) None (requests.Load (n 1) modes.Auto (codes "http://a.test/g"))) (rows.Started (r 3) None ∷ sent 6 1 0 4 (whys.Req (r 3)) (tasks.Populate (n 1) (s 4) (codes "http://a.test/g") false) ∷ [])
    ∷ by_proc 1 (rows.Taken (p 1) (j 6) true false) []
    ∷ by_proc 1 (rows.Finished (p 1) (j 6) (outcomes.Populated None)) []
    ∷ by_coord (rows.Delivered (p 1)) (rows.Applied (r 3) (changes.Push (n 1) (e 0 4) (s 4) (codes "http://a.test/g") None) ∷ sent 7 1 0 3 (whys.Req (r 3)) tasks.Freeze ∷ sent 8 1 0 4 (whys.Req (r 3)) (tasks.Activate (e 0 4) (epoch 3) 2 1 None (codes "http://a.test/g")) ∷ sent 9 1 0 1 (whys.Req (r 3)) (tasks.Update 2 1) ∷ [])
    ∷ by_proc 1 (rows.Taken (p 1) (j 7) true false) []
    ∷ by_proc 1 (rows.Finished (p 1) (j 7) outcomes.Frozen) []
    ∷ by_coord (rows.Delivered (p 1)) []
    ∷ by_proc 1 (rows.Taken (p 1) (j 8) true false) []
    ∷ by_proc 1 (rows.Finished (p 1) (j 8) outcomes.Activated) []
    ∷ by_coord (rows.Delivered (p 1)) []
    ∷ by_proc 1 (rows.Taken (p 1) (j 9) true false) []
    ∷ by_proc 1 (rows.Finished (p 1) (j 9) outcomes.Updated) []
    ∷ by_coord (rows.Delivered (p 1)) []
    ∷ by_ui (rows.Accepted (r 4) None (requests.Load (n 0) modes.Auto (codes "http://a.test/#x"))) (sent 10 1 0 1 (whys.Req (r 4)) (tasks.DoFragment (r 4) modes.Auto (codes "http://a.test/#x")) ∷ [])
    ∷ by_ui (rows.Accepted (r 5) None (requests.Go (negsuc 0))) (rows.Started (r 5) (Some (t 0)) ∷ sent 11 1 0 4 (whys.Req (r 5)) tasks.Freeze ∷ sent 12 1 0 3 (whys.Req (r 5)) (tasks.Activate (e 0 3) (epoch 4) 2 0 None (codes "http://a.test/f")) ∷ [])
    ∷ by_proc 1 (rows.Taken (p 1) (j 10) true false) []
    ∷ by_proc 1 (rows.Finished (p 1) (j 10) outcomes.Fragmented) (made 1 4 1 1 (whats.Push (e 1 1) None (codes "http://a.test/#x")) ∷ [])
    ∷ by_coord (rows.Delivered (p 1)) (rows.Applied (r 4) (changes.Push (n 0) (e 1 1) (s 1) (codes "http://a.test/#x") None) ∷ sent 13 1 0 1 (whys.Req (r 5)) (tasks.Activate (e 0 1) (epoch 2) 3 0 None (codes "http://a.test/")) ∷ sent 14 1 0 3 (whys.Req (r 4)) (tasks.Update 3 0) ∷ [])
    ∷ by_proc 1 (rows.Taken (p 1) (j 11) true false) []
    ∷ by_proc 1 (rows.Finished (p 1) (j 11) outcomes.Frozen) []
    ∷ by_coord (rows.Delivered (p 1)) []
    ∷ by_proc 1 (rows.Taken (p 1) (j 12) true false) []
    ∷ by_proc 1 (rows.Finished (p 1) (j 12) outcomes.Activated) []
    ∷ by_coord (rows.Delivered (p 1)) []
    ∷ by_proc 1 (rows.Taken (p 1) (j 13) true false) []
    ∷ by_proc 1 (rows.Finished (p 1) (j 13) outcomes.Activated) []
    ∷ by_coord (rows.Delivered (p 1)) (rows.Applied (r 5) (changes.Traverse (t 0)) ∷ [])
    ∷ by_proc 1 (rows.Taken (p 1) (j 14) true false) []
    ∷ by_proc 1 (rows.Finished (p 1) (j 14) outcomes.Updated) []
    ∷ by_coord (rows.Delivered (p 1)) []
    ∷ []

pub fragment_beside_a_traversal_is_legal : IsLegal (log_of fragment_beside_a_traversal)
unfolding url_on_literals is_web is_blank_url judged judged_parse read_against address_of url_of resolved with_fragment base_of fragment_of origin_text origin_of has_same_base is_rewritable events_of each_event after_opening AtEachEvent is_numbered opens is_formed is_once is_caused is_queued is_ordered is_checked ends_settled loads_end ends_told ends_stepped goes_in_time
fragment_beside_a_traversal_is_legal = record { opened = refl; numbered = refl; formed = refl; once = refl; caused = refl; queued = refl; ordered = refl; checked = refl; settled = refl }

pub fragment_beside_a_traversal_ends_loads : LoadsEndInTime (log_of fragment_beside_a_traversal)
unfolding url_on_literals is_web is_blank_url judged judged_parse read_against address_of url_of resolved with_fragment base_of fragment_of origin_text origin_of has_same_base is_rewritable events_of each_event after_opening AtEachEvent is_numbered opens is_formed is_once is_caused is_queued is_ordered is_checked ends_settled loads_end ends_told ends_stepped goes_in_time
fragment_beside_a_traversal_ends_loads = refl

pub fragment_beside_a_traversal_acts_at_once : ActsAtOnce (log_of fragment_beside_a_traversal)
unfolding url_on_literals is_web is_blank_url judged judged_parse read_against address_of url_of resolved with_fragment base_of fragment_of origin_text origin_of has_same_base is_rewritable events_of each_event after_opening AtEachEvent is_numbered opens is_formed is_once is_caused is_queued is_ordered is_checked ends_settled loads_end ends_told ends_stepped goes_in_time
fragment_beside_a_traversal_acts_at_once = record { told = refl; stepped = refl; in_time = refl }

pub fragment_beside_a_traversal_suits : Suits plain_settings (log_of fragment_beside_a_traversal)
unfolding url_on_literals is_web is_blank_url judged judged_parse read_against address_of url_of resolved with_fragment base_of fragment_of origin_text origin_of has_same_base is_rewritable events_of each_event after_opening AtEachEvent is_numbered opens is_formed is_once is_caused is_queued is_ordered is_checked ends_settled loads_end ends_told ends_stepped goes_in_time
fragment_beside_a_traversal_suits = record { opened = refl; placed = refl; kept = refl }

-- A fragment of the top leaves the load of a frame alone.
abbrev pub fragment_above_a_load : List Event
fragment_above_a_load =
    before 10 push_beside_a_frame
    ++ by_ui (rows.Accepted (r 2) None (requests.Load (n 1) modes.Auto (codes "http://b.test/f"))) (rows.Started (r 2) None ∷ sent 3 2 0 3 (whys.Req (r 2)) (tasks.Populate (n 1) (s 3) (codes "http://b.test/f") false) ∷ [])
    ∷ by_ui (rows.Accepted (r 3) None (requests.Load (n 0) modes.Auto (codes "http://a.test/#x"))) (sent 4 1 0 1 (whys.Req (r 3)) (tasks.DoFragment (r 3) modes.Auto (codes "http://a.test/#x")) ∷ [])
    ∷ by_proc 1 (rows.Taken (p 1) (j 4) true false) []
    ∷ by_proc 1 (rows.Finished (p 1) (j 4) outcomes.Fragmented) (made 1 3 1 1 (whats.Push (e 1 1) None (codes "http://a.test/#x")) ∷ [])
    ∷ by_coord (rows.Delivered (p 1)) (rows.Applied (r 3) (changes.Push (n 0) (e 1 1) (s 1) (codes "http://a.test/#x") None) ∷ sent 5 1 0 1 (whys.Req (r 3)) (tasks.Update 2 1) ∷ sent 6 1 0 2 (whys.Req (r 3)) (tasks.Update 2 1) ∷ [])
    ∷ by_proc 2 (rows.Taken (p 2) (j 3) true false) []
    ∷ by_proc 2 (rows.Finished (p 2) (j 3) (outcomes.Populated None)) []
    ∷ by_coord (rows.Delivered (p 2)) (rows.Applied (r 2) (changes.Replace (n 1) (e 0 2) (e 0 3) (s 3) (codes "http://b.test/f") None) ∷ sent 7 1 0 2 (whys.Req (r 2)) tasks.Discard ∷ sent 8 2 0 3 (whys.Req (r 2)) (tasks.Activate (e 0 3) (epoch 2) 2 1 None (codes "http://b.test/f")) ∷ [])
    ∷ by_proc 1 (rows.Taken (p 1) (j 5) true false) []
    ∷ by_proc 1 (rows.Finished (p 1) (j 5) outcomes.Updated) []
    ∷ by_coord (rows.Delivered (p 1)) []
    ∷ by_proc 2 (rows.Taken (p 2) (j 8) true false) []
    ∷ by_proc 2 (rows.Finished (p 2) (j 8) outcomes.Activated) []
    ∷ by_coord (rows.Delivered (p 2)) []
    ∷ by_proc 1 (rows.Taken (p 1) (j 6) true false) []
    ∷ by_proc 1 (rows.Finished (p 1) (j 6) outcomes.Updated) []
    ∷ by_coord (rows.Delivered (p 1)) []
    ∷ by_proc 1 (rows.Taken (p 1) (j 7) true false) []
    ∷ by_proc 1 (rows.Finished (p 1) (j 7) outcomes.Discarded) []
    ∷ by_coord (rows.Delivered (p 1)) []
    ∷ []

abbrev pub fragment_above_a_load_header : Header
fragment_above_a_load_header = record { keep = 3; sites = record { origin = codes "http://b.test"; proc = p 2 } ∷ []; pages = []; first = codes "http://a.test/" }

pub fragment_above_a_load_is_legal : IsLegal (log_of fragment_above_a_load)
unfolding url_on_literals is_web is_blank_url judged judged_parse read_against address_of url_of resolved with_fragment base_of fragment_of origin_text origin_of has_same_base is_rewritable events_of each_event after_opening AtEachEvent is_numbered opens is_formed is_once is_caused is_queued is_ordered is_checked ends_settled loads_end ends_told ends_stepped goes_in_time
fragment_above_a_load_is_legal = record { opened = refl; numbered = refl; formed = refl; once = refl; caused = refl; queued = refl; ordered = refl; checked = refl; settled = refl }

pub fragment_above_a_load_ends_loads : LoadsEndInTime (log_of fragment_above_a_load)
unfolding url_on_literals is_web is_blank_url judged judged_parse read_against address_of url_of resolved with_fragment base_of fragment_of origin_text origin_of has_same_base is_rewritable events_of each_event after_opening AtEachEvent is_numbered opens is_formed is_once is_caused is_queued is_ordered is_checked ends_settled loads_end ends_told ends_stepped goes_in_time
fragment_above_a_load_ends_loads = refl

pub fragment_above_a_load_acts_at_once : ActsAtOnce (log_of fragment_above_a_load)
unfolding url_on_literals is_web is_blank_url judged judged_parse read_against address_of url_of resolved with_fragment base_of fragment_of origin_text origin_of has_same_base is_rewritable events_of each_event after_opening AtEachEvent is_numbered opens is_formed is_once is_caused is_queued is_ordered is_checked ends_settled loads_end ends_told ends_stepped goes_in_time
fragment_above_a_load_acts_at_once = record { told = refl; stepped = refl; in_time = refl }

pub fragment_above_a_load_suits : Suits fragment_above_a_load_header (log_of fragment_above_a_load)
unfolding url_on_literals is_web is_blank_url judged judged_parse read_against address_of url_of resolved with_fragment base_of fragment_of origin_text origin_of has_same_base is_rewritable events_of each_event after_opening AtEachEvent is_numbered opens is_formed is_once is_caused is_queued is_ordered is_checked ends_settled loads_end ends_told ends_stepped goes_in_time
fragment_above_a_load_suits = record { opened = refl; placed = refl; kept = refl }

-- A fragment navigation that is to be a push.
abbrev pub fragment_as_a_push : List Event
fragment_as_a_push =
    by_start (rows.Opened (e 0 1) (s 1) (d 1) (p 1) None (codes "http://a.test/")) []
    ∷ by_ui (rows.Accepted (r 1) None (requests.Load (n 0) modes.Push (codes "http://a.test/#x"))) (sent 1 1 0 1 (whys.Req (r 1)) (tasks.DoFragment (r 1) modes.Push (codes "http://a.test/#x")) ∷ [])
    ∷ by_proc 1 (rows.Taken (p 1) (j 1) true false) []
    ∷ by_proc 1 (rows.Finished (p 1) (j 1) outcomes.Fragmented) (made 1 1 1 1 (whats.Push (e 1 1) None (codes "http://a.test/#x")) ∷ [])
    ∷ by_coord (rows.Delivered (p 1)) (rows.Applied (r 1) (changes.Push (n 0) (e 1 1) (s 1) (codes "http://a.test/#x") None) ∷ sent 2 1 0 1 (whys.Req (r 1)) (tasks.Update 2 1) ∷ [])
    ∷ by_proc 1 (rows.Taken (p 1) (j 2) true false) []
    ∷ by_proc 1 (rows.Finished (p 1) (j 2) outcomes.Updated) []
    ∷ by_coord (rows.Delivered (p 1)) []
    ∷ []

pub fragment_as_a_push_is_legal : IsLegal (log_of fragment_as_a_push)
unfolding url_on_literals is_web is_blank_url judged judged_parse read_against address_of url_of resolved with_fragment base_of fragment_of origin_text origin_of has_same_base is_rewritable events_of each_event after_opening AtEachEvent is_numbered opens is_formed is_once is_caused is_queued is_ordered is_checked ends_settled loads_end ends_told ends_stepped goes_in_time
fragment_as_a_push_is_legal = record { opened = refl; numbered = refl; formed = refl; once = refl; caused = refl; queued = refl; ordered = refl; checked = refl; settled = refl }

pub fragment_as_a_push_ends_loads : LoadsEndInTime (log_of fragment_as_a_push)
unfolding url_on_literals is_web is_blank_url judged judged_parse read_against address_of url_of resolved with_fragment base_of fragment_of origin_text origin_of has_same_base is_rewritable events_of each_event after_opening AtEachEvent is_numbered opens is_formed is_once is_caused is_queued is_ordered is_checked ends_settled loads_end ends_told ends_stepped goes_in_time
fragment_as_a_push_ends_loads = refl

pub fragment_as_a_push_acts_at_once : ActsAtOnce (log_of fragment_as_a_push)
unfolding url_on_literals is_web is_blank_url judged judged_parse read_against address_of url_of resolved with_fragment base_of fragment_of origin_text origin_of has_same_base is_rewritable events_of each_event after_opening AtEachEvent is_numbered opens is_formed is_once is_caused is_queued is_ordered is_checked ends_settled loads_end ends_told ends_stepped goes_in_time
fragment_as_a_push_acts_at_once = record { told = refl; stepped = refl; in_time = refl }

pub fragment_as_a_push_suits : Suits plain_settings (log_of fragment_as_a_push)
unfolding url_on_literals is_web is_blank_url judged judged_parse read_against address_of url_of resolved with_fragment base_of fragment_of origin_text origin_of has_same_base is_rewritable events_of each_event after_opening AtEachEvent is_numbered opens is_formed is_once is_caused is_queued is_ordered is_checked ends_settled loads_end ends_told ends_stepped goes_in_time
fragment_as_a_push_suits = record { opened = refl; placed = refl; kept = refl }

-- A fragment of the top is applied beside the reload of a frame, which drops a load of that frame.
abbrev pub fragment_beside_a_reload : List Event
fragment_beside_a_reload =
    before 11 fragment_above_a_load
    ++ by_proc 2 (rows.Taken (p 2) (j 3) true false) []
    ∷ by_proc 2 (rows.Finished (p 2) (j 3) (outcomes.Populated None)) []
    ∷ by_coord (rows.Delivered (p 2)) (rows.Applied (r 2) (changes.Replace (n 1) (e 0 2) (e 0 3) (s 3) (codes "http://b.test/f") None) ∷ sent 4 1 0 2 (whys.Req (r 2)) tasks.Discard ∷ sent 5 2 0 3 (whys.Req (r 2)) (tasks.Activate (e 0 3) (epoch 2) 1 0 None (codes "http://b.test/f")) ∷ [])
    ∷ by_proc 1 (rows.Taken (p 1) (j 4) true false) []
    ∷ by_proc 1 (rows.Finished (p 1) (j 4) outcomes.Discarded) []
    ∷ by_coord (rows.Delivered (p 1)) []
    ∷ by_proc 2 (rows.Taken (p 2) (j 5) true false) []
    ∷ by_proc 2 (rows.Finished (p 2) (j 5) outcomes.Activated) []
    ∷ by_coord (rows.Delivered (p 2)) []
    ∷ by_ui (rows.Accepted (r 3) None (requests.Reload (n 1))) (rows.Started (r 3) None ∷ rows.Applied (r 3) (changes.Reload (n 1)) ∷ sent 6 2 0 4 (whys.Req (r 3)) (tasks.Populate (n 1) (s 3) (codes "http://b.test/f") false) ∷ [])
    ∷ by_ui (rows.Accepted (r 4) None (requests.Load (n 0) modes.Auto (codes "http://a.test/#x"))) (sent 7 1 0 1 (whys.Req (r 4)) (tasks.DoFragment (r 4) modes.Auto (codes "http://a.test/#x")) ∷ [])
    ∷ by_proc 1 (rows.Taken (p 1) (j 7) true false) []
    ∷ by_proc 1 (rows.Finished (p 1) (j 7) outcomes.Fragmented) (made 1 4 1 1 (whats.Push (e 1 1) None (codes "http://a.test/#x")) ∷ [])
    ∷ by_coord (rows.Delivered (p 1)) (rows.Applied (r 4) (changes.Push (n 0) (e 1 1) (s 1) (codes "http://a.test/#x") None) ∷ sent 8 1 0 1 (whys.Req (r 4)) (tasks.Update 2 1) ∷ sent 9 2 0 3 (whys.Req (r 4)) (tasks.Update 2 1) ∷ [])
    ∷ by_ui (rows.Accepted (r 5) None (requests.Load (n 1) modes.Auto (codes "http://b.test/g"))) (rows.Dropped (r 5) (drops.By (r 3)) ∷ [])
    ∷ []

abbrev pub fragment_beside_a_reload_header : Header
fragment_beside_a_reload_header = record { keep = 3; sites = record { origin = codes "http://b.test"; proc = p 2 } ∷ []; pages = []; first = codes "http://a.test/" }

pub fragment_beside_a_reload_is_legal : IsLegal (log_of fragment_beside_a_reload)
unfolding url_on_literals is_web is_blank_url judged judged_parse read_against address_of url_of resolved with_fragment base_of fragment_of origin_text origin_of has_same_base is_rewritable events_of each_event after_opening AtEachEvent is_numbered opens is_formed is_once is_caused is_queued is_ordered is_checked ends_settled loads_end ends_told ends_stepped goes_in_time
fragment_beside_a_reload_is_legal = record { opened = refl; numbered = refl; formed = refl; once = refl; caused = refl; queued = refl; ordered = refl; checked = refl; settled = refl }

pub fragment_beside_a_reload_ends_loads : LoadsEndInTime (log_of fragment_beside_a_reload)
unfolding url_on_literals is_web is_blank_url judged judged_parse read_against address_of url_of resolved with_fragment base_of fragment_of origin_text origin_of has_same_base is_rewritable events_of each_event after_opening AtEachEvent is_numbered opens is_formed is_once is_caused is_queued is_ordered is_checked ends_settled loads_end ends_told ends_stepped goes_in_time
fragment_beside_a_reload_ends_loads = refl

pub fragment_beside_a_reload_acts_at_once : ActsAtOnce (log_of fragment_beside_a_reload)
unfolding url_on_literals is_web is_blank_url judged judged_parse read_against address_of url_of resolved with_fragment base_of fragment_of origin_text origin_of has_same_base is_rewritable events_of each_event after_opening AtEachEvent is_numbered opens is_formed is_once is_caused is_queued is_ordered is_checked ends_settled loads_end ends_told ends_stepped goes_in_time
fragment_beside_a_reload_acts_at_once = record { told = refl; stepped = refl; in_time = refl }

pub fragment_beside_a_reload_suits : Suits fragment_beside_a_reload_header (log_of fragment_beside_a_reload)
unfolding url_on_literals is_web is_blank_url judged judged_parse read_against address_of url_of resolved with_fragment base_of fragment_of origin_text origin_of has_same_base is_rewritable events_of each_event after_opening AtEachEvent is_numbered opens is_formed is_once is_caused is_queued is_ordered is_checked ends_settled loads_end ends_told ends_stepped goes_in_time
fragment_beside_a_reload_suits = record { opened = refl; placed = refl; kept = refl }
