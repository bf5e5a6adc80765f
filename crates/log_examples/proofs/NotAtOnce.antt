-- Logs in which the tab puts off what it could do, or does it in vain.
-- A log is its events: those before one of another log, since one, or between two, and its own.
use Rattle.std.proofs.Common.{pos, negsuc, true, false, List, [], ◌∷◌, ◌++◌, codes, refl, Some, None}
use Rattle.std.proofs.lemmas.Bool.{false≢true}
use Rattle.url.proofs.OnLiterals.{url_on_literals}
use Rattle.address.specs.Addresses.{is_web, is_blank_url, judged, judged_parse, read_against, address_of, url_of, resolved, with_fragment, base_of, fragment_of, origin_text, origin_of, has_same_base, is_rewritable}
use Rattle.log_model.specs.declared.change.Change.TheVariants as changes
use Rattle.log_model.specs.declared.job.Task.TheVariants as tasks
use Rattle.log_model.specs.declared.job.Why.TheVariants as whys
use Rattle.log_model.specs.declared.made.What.TheVariants as whats
use Rattle.log_model.specs.declared.outcome.Cause.TheVariants as drops
use Rattle.log_model.specs.declared.outcome.Outcome.TheVariants as outcomes
use Rattle.log_model.specs.declared.request.Mode.TheVariants as modes
use Rattle.log_model.specs.declared.request.Request.TheVariants as requests
use Rattle.log_model.specs.declared.row_kind.RowKind.TheVariants as rows
use Rattle.log_model.specs.Events.{events_of, each_event, after_opening, AtEachEvent}
use Rattle.log_model.specs.Formed.{is_numbered}
use Rattle.log_model.specs.Legal.{IsLegal, opens, is_formed, is_once, is_caused, is_queued, is_ordered, is_checked, ends_settled}
use Rattle.log_model.specs.LoadsEndInTime.{loads_end}
use Rattle.log_model.specs.ActsAtOnce.{ActsAtOnce, ends_told, ends_stepped, goes_in_time}
use Rattle.log_examples.specs.Rows.{n, s, r, p, t, d, j, e, epoch, sent, made}
use Rattle.log_examples.specs.Logs.{Event, by_start, by_ui, by_coord, by_proc, log_of, before, since}
use Rattle.log_examples.proofs.Pushes.{one_push}
use Rattle.log_examples.proofs.Traversals.{document_goes_back, push_under_an_old_epoch}
use Rattle.log_examples.proofs.Interleavings.{entry_of_a_frame_is_cleared}
use Rattle.log_examples.proofs.Loads.{no_document_kept, load_ended_by_a_reload}
use Rattle.log_examples.proofs.Removals.{removal_and_push_of_two_processes}
use Rattle.log_examples.proofs.Deaths.{poke_of_a_dead_document}
use Rattle.log_examples.proofs.Pending.{two_pushes_on_their_way, push_behind_a_traversal, traversal_beside_a_push, load_beside_a_push, load_over_a_frame, reload_of_a_removed_frame}

-- A frame is shown its entry for the push that cleared the other, which then drops what the frame made.
abbrev pub shown_for_the_push_that_cleared : List Event
shown_for_the_push_that_cleared =
    before 77 entry_of_a_frame_is_cleared
    ++ by_coord (rows.Delivered (p 1)) (rows.Applied (r 7) (changes.Push (n 2) (e 5 1) (s 5) (codes "http://a.test/h") (Some (codes "s"))) ∷ sent 22 1 0 6 (whys.Req (r 7)) tasks.Discard ∷ sent 23 1 0 4 (whys.Req (r 7)) (tasks.Activate (e 0 4) (epoch 6) 2 1 None (codes "http://a.test/f1")) ∷ sent 24 1 0 1 (whys.Req (r 7)) (tasks.Update 2 1) ∷ sent 25 1 0 5 (whys.Req (r 7)) (tasks.Update 2 1) ∷ [])
    ∷ by_coord (rows.Delivered (p 1)) []
    ∷ by_coord (rows.Delivered (p 1)) []
    ∷ by_coord (rows.Delivered (p 1)) (rows.Dropped (r 9) (drops.By (r 7)) ∷ [])
    ∷ []

pub shown_for_the_push_that_cleared_is_refused : ActsAtOnce (log_of shown_for_the_push_that_cleared) → ⊥
unfolding url_on_literals is_web is_blank_url judged judged_parse read_against address_of url_of resolved with_fragment base_of fragment_of origin_text origin_of has_same_base is_rewritable events_of each_event after_opening AtEachEvent is_numbered opens is_formed is_once is_caused is_queued is_ordered is_checked ends_settled loads_end ends_told ends_stepped goes_in_time
shown_for_the_push_that_cleared_is_refused holds = false≢true holds.in_time

-- a legal log, so that nothing else refuses it
pub shown_for_the_push_that_cleared_is_legal : IsLegal (log_of shown_for_the_push_that_cleared)
unfolding url_on_literals is_web is_blank_url judged judged_parse read_against address_of url_of resolved with_fragment base_of fragment_of origin_text origin_of has_same_base is_rewritable events_of each_event after_opening AtEachEvent is_numbered opens is_formed is_once is_caused is_queued is_ordered is_checked ends_settled loads_end ends_told ends_stepped goes_in_time
shown_for_the_push_that_cleared_is_legal = record { opened = refl; numbered = refl; formed = refl; once = refl; caused = refl; queued = refl; ordered = refl; checked = refl; settled = refl }

-- A push without its update: the document has guessed length and index right.
abbrev pub right_guess_without_update : List Event
right_guess_without_update =
    before 3 one_push
    ++ by_coord (rows.Delivered (p 1)) (rows.Applied (r 1) (changes.Push (n 0) (e 1 1) (s 1) (codes "http://a.test/1") (Some (codes "s"))) ∷ [])
    ∷ []

pub right_guess_without_update_is_refused : ActsAtOnce (log_of right_guess_without_update) → ⊥
unfolding url_on_literals is_web is_blank_url judged judged_parse read_against address_of url_of resolved with_fragment base_of fragment_of origin_text origin_of has_same_base is_rewritable events_of each_event after_opening AtEachEvent is_numbered opens is_formed is_once is_caused is_queued is_ordered is_checked ends_settled loads_end ends_told ends_stepped goes_in_time
right_guess_without_update_is_refused holds = false≢true holds.told

-- a legal log, so that nothing else refuses it
pub right_guess_without_update_is_legal : IsLegal (log_of right_guess_without_update)
unfolding url_on_literals is_web is_blank_url judged judged_parse read_against address_of url_of resolved with_fragment base_of fragment_of origin_text origin_of has_same_base is_rewritable events_of each_event after_opening AtEachEvent is_numbered opens is_formed is_once is_caused is_queued is_ordered is_checked ends_settled loads_end ends_told ends_stepped goes_in_time
right_guess_without_update_is_legal = record { opened = refl; numbered = refl; formed = refl; once = refl; caused = refl; queued = refl; ordered = refl; checked = refl; settled = refl }

-- A push is applied, and its update waits for the next one.
abbrev pub update_put_off : List Event
update_put_off =
    before 5 two_pushes_on_their_way
    ++ by_coord (rows.Delivered (p 1)) (rows.Applied (r 1) (changes.Push (n 0) (e 1 1) (s 1) (codes "http://a.test/1") (Some (codes "s"))) ∷ [])
    ∷ []

pub update_put_off_is_refused : ActsAtOnce (log_of update_put_off) → ⊥
unfolding url_on_literals is_web is_blank_url judged judged_parse read_against address_of url_of resolved with_fragment base_of fragment_of origin_text origin_of has_same_base is_rewritable events_of each_event after_opening AtEachEvent is_numbered opens is_formed is_once is_caused is_queued is_ordered is_checked ends_settled loads_end ends_told ends_stepped goes_in_time
update_put_off_is_refused holds = false≢true holds.told

-- a legal log, so that nothing else refuses it
pub update_put_off_is_legal : IsLegal (log_of update_put_off)
unfolding url_on_literals is_web is_blank_url judged judged_parse read_against address_of url_of resolved with_fragment base_of fragment_of origin_text origin_of has_same_base is_rewritable events_of each_event after_opening AtEachEvent is_numbered opens is_formed is_once is_caused is_queued is_ordered is_checked ends_settled loads_end ends_told ends_stepped goes_in_time
update_put_off_is_legal = record { opened = refl; numbered = refl; formed = refl; once = refl; caused = refl; queued = refl; ordered = refl; checked = refl; settled = refl }

-- A traversal runs on though all stand at its goal.
abbrev pub traversal_not_applied : List Event
traversal_not_applied =
    before 11 push_behind_a_traversal
    ++ by_coord (rows.Delivered (p 1)) []
    ∷ []

pub traversal_not_applied_is_refused : ActsAtOnce (log_of traversal_not_applied) → ⊥
unfolding url_on_literals is_web is_blank_url judged judged_parse read_against address_of url_of resolved with_fragment base_of fragment_of origin_text origin_of has_same_base is_rewritable events_of each_event after_opening AtEachEvent is_numbered opens is_formed is_once is_caused is_queued is_ordered is_checked ends_settled loads_end ends_told ends_stepped goes_in_time
traversal_not_applied_is_refused holds = false≢true holds.stepped

-- a legal log, so that nothing else refuses it
pub traversal_not_applied_is_legal : IsLegal (log_of traversal_not_applied)
unfolding url_on_literals is_web is_blank_url judged judged_parse read_against address_of url_of resolved with_fragment base_of fragment_of origin_text origin_of has_same_base is_rewritable events_of each_event after_opening AtEachEvent is_numbered opens is_formed is_once is_caused is_queued is_ordered is_checked ends_settled loads_end ends_told ends_stepped goes_in_time
traversal_not_applied_is_legal = record { opened = refl; numbered = refl; formed = refl; once = refl; caused = refl; queued = refl; ordered = refl; checked = refl; settled = refl }

-- A traversal waits though none runs and all stand.
abbrev pub traversal_not_begun : List Event
traversal_not_begun =
    before 8 traversal_beside_a_push
    ++ by_ui (rows.Accepted (r 3) None (requests.Go (negsuc 0))) []
    ∷ []

pub traversal_not_begun_is_refused : ActsAtOnce (log_of traversal_not_begun) → ⊥
unfolding url_on_literals is_web is_blank_url judged judged_parse read_against address_of url_of resolved with_fragment base_of fragment_of origin_text origin_of has_same_base is_rewritable events_of each_event after_opening AtEachEvent is_numbered opens is_formed is_once is_caused is_queued is_ordered is_checked ends_settled loads_end ends_told ends_stepped goes_in_time
traversal_not_begun_is_refused holds = false≢true holds.stepped

-- a legal log, so that nothing else refuses it
pub traversal_not_begun_is_legal : IsLegal (log_of traversal_not_begun)
unfolding url_on_literals is_web is_blank_url judged judged_parse read_against address_of url_of resolved with_fragment base_of fragment_of origin_text origin_of has_same_base is_rewritable events_of each_event after_opening AtEachEvent is_numbered opens is_formed is_once is_caused is_queued is_ordered is_checked ends_settled loads_end ends_told ends_stepped goes_in_time
traversal_not_begun_is_legal = record { opened = refl; numbered = refl; formed = refl; once = refl; caused = refl; queued = refl; ordered = refl; checked = refl; settled = refl }

-- A load waits though its document is there and all stand.
abbrev pub ready_load_not_applied : List Event
ready_load_not_applied =
    before 5 load_beside_a_push
    ++ by_coord (rows.Delivered (p 1)) []
    ∷ []

pub ready_load_not_applied_is_refused : ActsAtOnce (log_of ready_load_not_applied) → ⊥
unfolding url_on_literals is_web is_blank_url judged judged_parse read_against address_of url_of resolved with_fragment base_of fragment_of origin_text origin_of has_same_base is_rewritable events_of each_event after_opening AtEachEvent is_numbered opens is_formed is_once is_caused is_queued is_ordered is_checked ends_settled loads_end ends_told ends_stepped goes_in_time
ready_load_not_applied_is_refused holds = false≢true holds.stepped

-- a legal log, so that nothing else refuses it
pub ready_load_not_applied_is_legal : IsLegal (log_of ready_load_not_applied)
unfolding url_on_literals is_web is_blank_url judged judged_parse read_against address_of url_of resolved with_fragment base_of fragment_of origin_text origin_of has_same_base is_rewritable events_of each_event after_opening AtEachEvent is_numbered opens is_formed is_once is_caused is_queued is_ordered is_checked ends_settled loads_end ends_told ends_stepped goes_in_time
ready_load_not_applied_is_legal = record { opened = refl; numbered = refl; formed = refl; once = refl; caused = refl; queued = refl; ordered = refl; checked = refl; settled = refl }

-- A document is sent a Discard, and another one.
abbrev pub order_to_a_discarded_document : List Event
order_to_a_discarded_document =
    before 4 no_document_kept
    ++ by_coord (rows.Delivered (p 1)) (rows.Applied (r 1) (changes.Push (n 0) (e 0 2) (s 2) (codes "http://a.test/1") None) ∷ sent 2 1 0 1 (whys.Req (r 1)) tasks.Discard ∷ sent 3 1 0 1 (whys.Req (r 1)) tasks.Discard ∷ sent 4 1 0 2 (whys.Req (r 1)) (tasks.Activate (e 0 2) (epoch 2) 2 1 None (codes "http://a.test/1")) ∷ [])
    ∷ []

pub order_to_a_discarded_document_is_refused : ActsAtOnce (log_of order_to_a_discarded_document) → ⊥
unfolding url_on_literals is_web is_blank_url judged judged_parse read_against address_of url_of resolved with_fragment base_of fragment_of origin_text origin_of has_same_base is_rewritable events_of each_event after_opening AtEachEvent is_numbered opens is_formed is_once is_caused is_queued is_ordered is_checked ends_settled loads_end ends_told ends_stepped goes_in_time
order_to_a_discarded_document_is_refused holds = false≢true holds.in_time

-- a legal log, so that nothing else refuses it
pub order_to_a_discarded_document_is_legal : IsLegal (log_of order_to_a_discarded_document)
unfolding url_on_literals is_web is_blank_url judged judged_parse read_against address_of url_of resolved with_fragment base_of fragment_of origin_text origin_of has_same_base is_rewritable events_of each_event after_opening AtEachEvent is_numbered opens is_formed is_once is_caused is_queued is_ordered is_checked ends_settled loads_end ends_told ends_stepped goes_in_time
order_to_a_discarded_document_is_legal = record { opened = refl; numbered = refl; formed = refl; once = refl; caused = refl; queued = refl; ordered = refl; checked = refl; settled = refl }

-- A document is frozen twice.
abbrev pub frozen_twice : List Event
frozen_twice =
    before 5 load_beside_a_push
    ++ by_coord (rows.Delivered (p 1)) (rows.Applied (r 1) (changes.Push (n 0) (e 0 2) (s 2) (codes "http://a.test/1") None) ∷ sent 2 1 0 1 (whys.Req (r 1)) tasks.Freeze ∷ sent 3 1 0 1 (whys.Req (r 1)) tasks.Freeze ∷ sent 4 1 0 2 (whys.Req (r 1)) (tasks.Activate (e 0 2) (epoch 2) 2 1 None (codes "http://a.test/1")) ∷ [])
    ∷ []

pub frozen_twice_is_refused : ActsAtOnce (log_of frozen_twice) → ⊥
unfolding url_on_literals is_web is_blank_url judged judged_parse read_against address_of url_of resolved with_fragment base_of fragment_of origin_text origin_of has_same_base is_rewritable events_of each_event after_opening AtEachEvent is_numbered opens is_formed is_once is_caused is_queued is_ordered is_checked ends_settled loads_end ends_told ends_stepped goes_in_time
frozen_twice_is_refused holds = false≢true holds.in_time

-- a legal log, so that nothing else refuses it
pub frozen_twice_is_legal : IsLegal (log_of frozen_twice)
unfolding url_on_literals is_web is_blank_url judged judged_parse read_against address_of url_of resolved with_fragment base_of fragment_of origin_text origin_of has_same_base is_rewritable events_of each_event after_opening AtEachEvent is_numbered opens is_formed is_once is_caused is_queued is_ordered is_checked ends_settled loads_end ends_told ends_stepped goes_in_time
frozen_twice_is_legal = record { opened = refl; numbered = refl; formed = refl; once = refl; caused = refl; queued = refl; ordered = refl; checked = refl; settled = refl }

-- While a traversal runs an entry is shown for a request that has ended.
abbrev pub shown_for_another_request : List Event
shown_for_another_request =
    before 8 traversal_beside_a_push
    ++ by_ui (rows.Accepted (r 3) None (requests.Go (negsuc 0))) (rows.Started (r 3) (Some (t 0)) ∷ sent 2 1 0 1 (whys.Req (r 1)) (tasks.Activate (e 0 1) (epoch 2) 2 0 None (codes "http://a.test/")) ∷ [])
    ∷ []

pub shown_for_another_request_is_refused : ActsAtOnce (log_of shown_for_another_request) → ⊥
unfolding url_on_literals is_web is_blank_url judged judged_parse read_against address_of url_of resolved with_fragment base_of fragment_of origin_text origin_of has_same_base is_rewritable events_of each_event after_opening AtEachEvent is_numbered opens is_formed is_once is_caused is_queued is_ordered is_checked ends_settled loads_end ends_told ends_stepped goes_in_time
shown_for_another_request_is_refused holds = false≢true holds.in_time

-- a legal log, so that nothing else refuses it
pub shown_for_another_request_is_legal : IsLegal (log_of shown_for_another_request)
unfolding url_on_literals is_web is_blank_url judged judged_parse read_against address_of url_of resolved with_fragment base_of fragment_of origin_text origin_of has_same_base is_rewritable events_of each_event after_opening AtEachEvent is_numbered opens is_formed is_once is_caused is_queued is_ordered is_checked ends_settled loads_end ends_told ends_stepped goes_in_time
shown_for_another_request_is_legal = record { opened = refl; numbered = refl; formed = refl; once = refl; caused = refl; queued = refl; ordered = refl; checked = refl; settled = refl }

-- While a traversal runs a document is frozen for a request that has ended.
abbrev pub frozen_for_another_request : List Event
frozen_for_another_request =
    before 45 reload_of_a_removed_frame
    ++ by_ui (rows.Accepted (r 5) None (requests.Go (negsuc 0))) (rows.Started (r 5) (Some (t 0)) ∷ sent 13 1 0 5 (whys.Req (r 4)) tasks.Freeze ∷ sent 14 1 0 4 (whys.Req (r 5)) (tasks.Activate (e 0 4) (epoch 4) 2 0 None (codes "http://a.test/f")) ∷ [])
    ∷ since 46 reload_of_a_removed_frame

pub frozen_for_another_request_is_refused : ActsAtOnce (log_of frozen_for_another_request) → ⊥
unfolding url_on_literals is_web is_blank_url judged judged_parse read_against address_of url_of resolved with_fragment base_of fragment_of origin_text origin_of has_same_base is_rewritable events_of each_event after_opening AtEachEvent is_numbered opens is_formed is_once is_caused is_queued is_ordered is_checked ends_settled loads_end ends_told ends_stepped goes_in_time
frozen_for_another_request_is_refused holds = false≢true holds.in_time

-- a legal log, so that nothing else refuses it
pub frozen_for_another_request_is_legal : IsLegal (log_of frozen_for_another_request)
unfolding url_on_literals is_web is_blank_url judged judged_parse read_against address_of url_of resolved with_fragment base_of fragment_of origin_text origin_of has_same_base is_rewritable events_of each_event after_opening AtEachEvent is_numbered opens is_formed is_once is_caused is_queued is_ordered is_checked ends_settled loads_end ends_told ends_stepped goes_in_time
frozen_for_another_request_is_legal = record { opened = refl; numbered = refl; formed = refl; once = refl; caused = refl; queued = refl; ordered = refl; checked = refl; settled = refl }

-- A document is shown in a frame that hangs on another document.
abbrev pub shown_where_it_is_hidden : List Event
shown_where_it_is_hidden =
    before 22 load_over_a_frame
    ++ by_coord (rows.Delivered (p 1)) (sent 7 1 0 2 (whys.Req (r 2)) (tasks.Activate (e 0 2) (epoch 2) 2 1 None (codes "about:blank")) ∷ [])
    ∷ []

pub shown_where_it_is_hidden_is_refused : ActsAtOnce (log_of shown_where_it_is_hidden) → ⊥
unfolding url_on_literals is_web is_blank_url judged judged_parse read_against address_of url_of resolved with_fragment base_of fragment_of origin_text origin_of has_same_base is_rewritable events_of each_event after_opening AtEachEvent is_numbered opens is_formed is_once is_caused is_queued is_ordered is_checked ends_settled loads_end ends_told ends_stepped goes_in_time
shown_where_it_is_hidden_is_refused holds = false≢true holds.in_time

-- a legal log, so that nothing else refuses it
pub shown_where_it_is_hidden_is_legal : IsLegal (log_of shown_where_it_is_hidden)
unfolding url_on_literals is_web is_blank_url judged judged_parse read_against address_of url_of resolved with_fragment base_of fragment_of origin_text origin_of has_same_base is_rewritable events_of each_event after_opening AtEachEvent is_numbered opens is_formed is_once is_caused is_queued is_ordered is_checked ends_settled loads_end ends_told ends_stepped goes_in_time
shown_where_it_is_hidden_is_legal = record { opened = refl; numbered = refl; formed = refl; once = refl; caused = refl; queued = refl; ordered = refl; checked = refl; settled = refl }

-- A load is applied before its document is made.
abbrev pub load_applied_without_its_document : List Event
load_applied_without_its_document =
    by_start (rows.Opened (e 0 1) (s 1) (d 1) (p 1) None (codes "http://a.test/")) []
    ∷ by_ui (rows.Accepted (r 1) None (requests.Load (n 0) modes.Auto (codes "http://a.test/1"))) (rows.Started (r 1) None ∷ sent 1 1 0 2 (whys.Req (r 1)) (tasks.Populate (n 0) (s 2) (codes "http://a.test/1") false) ∷ rows.Applied (r 1) (changes.Push (n 0) (e 0 2) (s 2) (codes "http://a.test/1") None) ∷ [])
    ∷ []

pub load_applied_without_its_document_is_refused : ActsAtOnce (log_of load_applied_without_its_document) → ⊥
unfolding url_on_literals is_web is_blank_url judged judged_parse read_against address_of url_of resolved with_fragment base_of fragment_of origin_text origin_of has_same_base is_rewritable events_of each_event after_opening AtEachEvent is_numbered opens is_formed is_once is_caused is_queued is_ordered is_checked ends_settled loads_end ends_told ends_stepped goes_in_time
load_applied_without_its_document_is_refused holds = false≢true holds.in_time

-- a legal log, so that nothing else refuses it
pub load_applied_without_its_document_is_legal : IsLegal (log_of load_applied_without_its_document)
unfolding url_on_literals is_web is_blank_url judged judged_parse read_against address_of url_of resolved with_fragment base_of fragment_of origin_text origin_of has_same_base is_rewritable events_of each_event after_opening AtEachEvent is_numbered opens is_formed is_once is_caused is_queued is_ordered is_checked ends_settled loads_end ends_told ends_stepped goes_in_time
load_applied_without_its_document_is_legal = record { opened = refl; numbered = refl; formed = refl; once = refl; caused = refl; queued = refl; ordered = refl; checked = refl; settled = refl }

-- A push is applied in the event that takes the report of another.
abbrev pub push_applied_without_its_report : List Event
push_applied_without_its_report =
    before 5 two_pushes_on_their_way
    ++ by_coord (rows.Delivered (p 1)) (rows.Applied (r 1) (changes.Push (n 0) (e 1 1) (s 1) (codes "http://a.test/1") (Some (codes "s"))) ∷ rows.Applied (r 2) (changes.Push (n 0) (e 1 2) (s 1) (codes "http://a.test/2") (Some (codes "t"))) ∷ sent 1 1 0 1 (whys.Req (r 1)) (tasks.Update 3 2) ∷ [])
    ∷ []

pub push_applied_without_its_report_is_refused : ActsAtOnce (log_of push_applied_without_its_report) → ⊥
unfolding url_on_literals is_web is_blank_url judged judged_parse read_against address_of url_of resolved with_fragment base_of fragment_of origin_text origin_of has_same_base is_rewritable events_of each_event after_opening AtEachEvent is_numbered opens is_formed is_once is_caused is_queued is_ordered is_checked ends_settled loads_end ends_told ends_stepped goes_in_time
push_applied_without_its_report_is_refused holds = false≢true holds.in_time

-- a legal log, so that nothing else refuses it
pub push_applied_without_its_report_is_legal : IsLegal (log_of push_applied_without_its_report)
unfolding url_on_literals is_web is_blank_url judged judged_parse read_against address_of url_of resolved with_fragment base_of fragment_of origin_text origin_of has_same_base is_rewritable events_of each_event after_opening AtEachEvent is_numbered opens is_formed is_once is_caused is_queued is_ordered is_checked ends_settled loads_end ends_told ends_stepped goes_in_time
push_applied_without_its_report_is_legal = record { opened = refl; numbered = refl; formed = refl; once = refl; caused = refl; queued = refl; ordered = refl; checked = refl; settled = refl }

-- is_told: without test `same_pair (due_pair e place.nav)`, `told` would hold.
abbrev pub is_told_1 : List Event
is_told_1 =
    by_start (rows.Opened (e 0 1) (s 1) (d 1) (p 1) None (codes "http://a.test/")) []
    ∷ by_ui (rows.Accepted (r 1) None (requests.Go (pos 1))) (rows.Applied (r 1) (changes.RemoveFrame (n 0)) ∷ [])
    ∷ []

pub is_told_1_is_refused : ActsAtOnce (log_of is_told_1) → ⊥
unfolding url_on_literals is_web is_blank_url judged judged_parse read_against address_of url_of resolved with_fragment base_of fragment_of origin_text origin_of has_same_base is_rewritable events_of each_event after_opening AtEachEvent is_numbered opens is_formed is_once is_caused is_queued is_ordered is_checked ends_settled loads_end ends_told ends_stepped goes_in_time
is_told_1_is_refused holds = false≢true holds.told

-- is_order_of_use: without conjunct `not (is_gone s job.doc)`, `in_time` would hold.
abbrev pub is_order_of_use_1 : List Event
is_order_of_use_1 =
    by_start (rows.Opened (e 0 1) (s 1) (d 1) (p 1) None (codes "http://a.test/")) []
    ∷ by_coord (rows.Delivered (p 1)) (sent 1 1 0 1 (whys.Req (r 1)) tasks.Discard ∷ sent 1 1 0 1 (whys.Req (r 1)) (tasks.Activate (e 0 1) (epoch 2) 1 0 None (codes "http://a.test/")) ∷ [])
    ∷ []

pub is_order_of_use_1_is_refused : ActsAtOnce (log_of is_order_of_use_1) → ⊥
unfolding url_on_literals is_web is_blank_url judged judged_parse read_against address_of url_of resolved with_fragment base_of fragment_of origin_text origin_of has_same_base is_rewritable events_of each_event after_opening AtEachEvent is_numbered opens is_formed is_once is_caused is_queued is_ordered is_checked ends_settled loads_end ends_told ends_stepped goes_in_time
is_order_of_use_1_is_refused holds = false≢true holds.in_time

-- is_taken_here: without conjunct `has_req p.start.parked made.req`, `in_time` would hold.
abbrev pub is_taken_here_1 : List Event
is_taken_here_1 =
    before 12 document_goes_back
    ++ by_coord (rows.Delivered (p 1)) (rows.Applied (r 2) (changes.Traverse (t 0)) ∷ rows.Applied (r 1) (changes.Push (n 0) (e 1 1) (s 1) (codes "http://a.test/1") (Some (codes "s"))) ∷ [])
    ∷ []

pub is_taken_here_1_is_refused : ActsAtOnce (log_of is_taken_here_1) → ⊥
unfolding url_on_literals is_web is_blank_url judged judged_parse read_against address_of url_of resolved with_fragment base_of fragment_of origin_text origin_of has_same_base is_rewritable events_of each_event after_opening AtEachEvent is_numbered opens is_formed is_once is_caused is_queued is_ordered is_checked ends_settled loads_end ends_told ends_stepped goes_in_time
is_taken_here_1_is_refused holds = false≢true holds.in_time

-- is_taken_here: without test `is_traverse`, `in_time` would hold.
abbrev pub is_taken_here_2 : List Event
is_taken_here_2 =
    before 62 removal_and_push_of_two_processes
    ++ by_proc 2 (rows.Taken (p 2) (j 16) true false) (rows.Applied (r 7) (changes.RemoveFrame (n 1)) ∷ [])
    ∷ []

pub is_taken_here_2_is_refused : ActsAtOnce (log_of is_taken_here_2) → ⊥
unfolding url_on_literals is_web is_blank_url judged judged_parse read_against address_of url_of resolved with_fragment base_of fragment_of origin_text origin_of has_same_base is_rewritable events_of each_event after_opening AtEachEvent is_numbered opens is_formed is_once is_caused is_queued is_ordered is_checked ends_settled loads_end ends_told ends_stepped goes_in_time
is_taken_here_2_is_refused holds = false≢true holds.in_time

-- is_for: by_why: were equation 2 true, `in_time` would hold.
abbrev pub is_for_1 : List Event
is_for_1 =
    before 7 push_under_an_old_epoch
    ++ by_ui (rows.Accepted (r 2) None (requests.Go (negsuc 0))) (rows.Started (r 2) (Some (t 0)) ∷ sent 2 1 0 1 whys.Evict (tasks.Activate (e 1 1) (epoch 1) 2 0 (Some (codes "s")) (codes "http://a.test/1")) ∷ [])
    ∷ []

pub is_for_1_is_refused : ActsAtOnce (log_of is_for_1) → ⊥
unfolding url_on_literals is_web is_blank_url judged judged_parse read_against address_of url_of resolved with_fragment base_of fragment_of origin_text origin_of has_same_base is_rewritable events_of each_event after_opening AtEachEvent is_numbered opens is_formed is_once is_caused is_queued is_ordered is_checked ends_settled loads_end ends_told ends_stepped goes_in_time
is_for_1_is_refused holds = false≢true holds.in_time

-- is_usable: without conjunct `not d.is_discarded`, `in_time` would hold.
abbrev pub is_usable_2 : List Event
is_usable_2 =
    before 10 load_ended_by_a_reload
    ++ by_proc 1 (rows.Finished (p 1) (j 3) outcomes.Discarded) (rows.Applied (r 1) (changes.Push (n 0) (e 0 2) (s 2) (codes "http://b.test/p0") None) ∷ [])
    ∷ []

pub is_usable_2_is_refused : ActsAtOnce (log_of is_usable_2) → ⊥
unfolding url_on_literals is_web is_blank_url judged judged_parse read_against address_of url_of resolved with_fragment base_of fragment_of origin_text origin_of has_same_base is_rewritable events_of each_event after_opening AtEachEvent is_numbered opens is_formed is_once is_caused is_queued is_ordered is_checked ends_settled loads_end ends_told ends_stepped goes_in_time
is_usable_2_is_refused holds = false≢true holds.in_time

-- is_gone: without disjunct `d.is_known_dead`, `in_time` would hold.
abbrev pub is_gone_1 : List Event
is_gone_1 =
    poke_of_a_dead_document
    ++ by_proc 1 (made 1 1 1 1 (whats.Push (e 1 1) (Some (codes "s")) (codes "http://a.test/1"))) (sent 1 1 1 1 (whys.Req (r 1)) tasks.Freeze ∷ [])
    ∷ []

pub is_gone_1_is_refused : ActsAtOnce (log_of is_gone_1) → ⊥
unfolding url_on_literals is_web is_blank_url judged judged_parse read_against address_of url_of resolved with_fragment base_of fragment_of origin_text origin_of has_same_base is_rewritable events_of each_event after_opening AtEachEvent is_numbered opens is_formed is_once is_caused is_queued is_ordered is_checked ends_settled loads_end ends_told ends_stepped goes_in_time
is_gone_1_is_refused holds = false≢true holds.in_time
