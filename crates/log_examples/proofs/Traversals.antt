-- Legal logs: traversals.
-- A log is its events: those before one of another log, since one, or between two, and its own.
use Rattle.std.proofs.Common.{pos, negsuc, true, false, List, [], ◌∷◌, ◌++◌, codes, refl, Some, None}
use Rattle.url.proofs.OnLiterals.{url_on_literals}
use Rattle.address.specs.Addresses.{is_web, is_blank_url, judged, judged_parse, read_against, address_of, url_of, resolved, with_fragment, base_of, fragment_of, origin_text, origin_of, has_same_base, is_rewritable}
use Rattle.log_model.specs.declared.action.Action.TheVariants as actions
use Rattle.log_model.specs.declared.change.Change.TheVariants as changes
use Rattle.log_model.specs.declared.job.Task.TheVariants as tasks
use Rattle.log_model.specs.declared.job.Why.TheVariants as whys
use Rattle.log_model.specs.declared.made.What.TheVariants as whats
use Rattle.log_model.specs.declared.outcome.Cause.TheVariants as drops
use Rattle.log_model.specs.declared.outcome.Denial.TheVariants as denials
use Rattle.log_model.specs.declared.outcome.Outcome.TheVariants as outcomes
use Rattle.log_model.specs.declared.request.Request.TheVariants as requests
use Rattle.log_model.specs.declared.row_kind.RowKind.TheVariants as rows
use Rattle.log_model.specs.Events.{events_of, each_event, after_opening, AtEachEvent}
use Rattle.log_model.specs.Formed.{is_numbered}
use Rattle.log_model.specs.Legal.{IsLegal, opens, is_formed, is_once, is_caused, is_queued, is_ordered, is_checked, ends_settled}
use Rattle.log_model.specs.LoadsEndInTime.{LoadsEndInTime, loads_end}
use Rattle.log_model.specs.ActsAtOnce.{ActsAtOnce, ends_told, ends_stepped, goes_in_time}
use Rattle.log_model.specs.Suits.{Suits}
use Rattle.log_examples.specs.Rows.{n, s, r, p, t, d, j, e, epoch, sent, made}
use Rattle.log_examples.specs.Logs.{Event, by_start, by_ui, by_coord, by_proc, log_of, plain_settings}
use Rattle.log_examples.proofs.Pushes.{one_push, three_pushes}

-- Back by one after three pushes.
abbrev pub back_after_three_pushes : List Event
back_after_three_pushes =
    three_pushes
    ++ by_ui (rows.Accepted (r 4) None (requests.Go (negsuc 0))) (rows.Started (r 4) (Some (t 2)) ∷ sent 4 1 0 1 (whys.Req (r 4)) (tasks.Activate (e 1 2) (epoch 2) 4 2 (Some (codes "s2")) (codes "http://a.test/2")) ∷ [])
    ∷ by_proc 1 (rows.Taken (p 1) (j 4) true false) []
    ∷ by_proc 1 (rows.Finished (p 1) (j 4) outcomes.Activated) []
    ∷ by_coord (rows.Delivered (p 1)) (rows.Applied (r 4) (changes.Traverse (t 2)) ∷ [])
    ∷ []

pub back_after_three_pushes_is_legal : IsLegal (log_of back_after_three_pushes)
unfolding url_on_literals is_web is_blank_url judged judged_parse read_against address_of url_of resolved with_fragment base_of fragment_of origin_text origin_of has_same_base is_rewritable events_of each_event after_opening AtEachEvent is_numbered opens is_formed is_once is_caused is_queued is_ordered is_checked ends_settled loads_end ends_told ends_stepped goes_in_time
back_after_three_pushes_is_legal = record { opened = refl; numbered = refl; formed = refl; once = refl; caused = refl; queued = refl; ordered = refl; checked = refl; settled = refl }

pub back_after_three_pushes_ends_loads : LoadsEndInTime (log_of back_after_three_pushes)
unfolding url_on_literals is_web is_blank_url judged judged_parse read_against address_of url_of resolved with_fragment base_of fragment_of origin_text origin_of has_same_base is_rewritable events_of each_event after_opening AtEachEvent is_numbered opens is_formed is_once is_caused is_queued is_ordered is_checked ends_settled loads_end ends_told ends_stepped goes_in_time
back_after_three_pushes_ends_loads = refl

pub back_after_three_pushes_acts_at_once : ActsAtOnce (log_of back_after_three_pushes)
unfolding url_on_literals is_web is_blank_url judged judged_parse read_against address_of url_of resolved with_fragment base_of fragment_of origin_text origin_of has_same_base is_rewritable events_of each_event after_opening AtEachEvent is_numbered opens is_formed is_once is_caused is_queued is_ordered is_checked ends_settled loads_end ends_told ends_stepped goes_in_time
back_after_three_pushes_acts_at_once = record { told = refl; stepped = refl; in_time = refl }

pub back_after_three_pushes_suits : Suits plain_settings (log_of back_after_three_pushes)
unfolding url_on_literals is_web is_blank_url judged judged_parse read_against address_of url_of resolved with_fragment base_of fragment_of origin_text origin_of has_same_base is_rewritable events_of each_event after_opening AtEachEvent is_numbered opens is_formed is_once is_caused is_queued is_ordered is_checked ends_settled loads_end ends_told ends_stepped goes_in_time
back_after_three_pushes_suits = record { opened = refl; placed = refl; kept = refl }

-- A push after going back clears the forward session history.
abbrev pub push_after_going_back : List Event
push_after_going_back =
    three_pushes
    ++ by_ui (rows.Accepted (r 4) None (requests.Go (negsuc 1))) (rows.Started (r 4) (Some (t 1)) ∷ sent 4 1 0 1 (whys.Req (r 4)) (tasks.Activate (e 1 1) (epoch 2) 4 1 (Some (codes "s1")) (codes "http://a.test/1")) ∷ [])
    ∷ by_proc 1 (rows.Taken (p 1) (j 4) true false) []
    ∷ by_proc 1 (rows.Finished (p 1) (j 4) outcomes.Activated) []
    ∷ by_coord (rows.Delivered (p 1)) (rows.Applied (r 4) (changes.Traverse (t 1)) ∷ [])
    ∷ by_ui (rows.Accepted (r 5) (Some (d 1)) (requests.Poke (n 0) (actions.Push (Some (codes "s4")) (Some (codes "/4"))))) []
    ∷ by_proc 1 (made 1 5 1 2 (whats.Push (e 1 4) (Some (codes "s4")) (codes "http://a.test/4"))) []
    ∷ by_coord (rows.Delivered (p 1)) (rows.Applied (r 5) (changes.Push (n 0) (e 1 4) (s 1) (codes "http://a.test/4") (Some (codes "s4"))) ∷ sent 5 1 0 1 (whys.Req (r 5)) (tasks.Update 3 2) ∷ [])
    ∷ by_proc 1 (rows.Taken (p 1) (j 5) true false) []
    ∷ by_proc 1 (rows.Finished (p 1) (j 5) outcomes.Updated) []
    ∷ by_coord (rows.Delivered (p 1)) []
    ∷ []

pub push_after_going_back_is_legal : IsLegal (log_of push_after_going_back)
unfolding url_on_literals is_web is_blank_url judged judged_parse read_against address_of url_of resolved with_fragment base_of fragment_of origin_text origin_of has_same_base is_rewritable events_of each_event after_opening AtEachEvent is_numbered opens is_formed is_once is_caused is_queued is_ordered is_checked ends_settled loads_end ends_told ends_stepped goes_in_time
push_after_going_back_is_legal = record { opened = refl; numbered = refl; formed = refl; once = refl; caused = refl; queued = refl; ordered = refl; checked = refl; settled = refl }

pub push_after_going_back_ends_loads : LoadsEndInTime (log_of push_after_going_back)
unfolding url_on_literals is_web is_blank_url judged judged_parse read_against address_of url_of resolved with_fragment base_of fragment_of origin_text origin_of has_same_base is_rewritable events_of each_event after_opening AtEachEvent is_numbered opens is_formed is_once is_caused is_queued is_ordered is_checked ends_settled loads_end ends_told ends_stepped goes_in_time
push_after_going_back_ends_loads = refl

pub push_after_going_back_acts_at_once : ActsAtOnce (log_of push_after_going_back)
unfolding url_on_literals is_web is_blank_url judged judged_parse read_against address_of url_of resolved with_fragment base_of fragment_of origin_text origin_of has_same_base is_rewritable events_of each_event after_opening AtEachEvent is_numbered opens is_formed is_once is_caused is_queued is_ordered is_checked ends_settled loads_end ends_told ends_stepped goes_in_time
push_after_going_back_acts_at_once = record { told = refl; stepped = refl; in_time = refl }

pub push_after_going_back_suits : Suits plain_settings (log_of push_after_going_back)
unfolding url_on_literals is_web is_blank_url judged judged_parse read_against address_of url_of resolved with_fragment base_of fragment_of origin_text origin_of has_same_base is_rewritable events_of each_event after_opening AtEachEvent is_numbered opens is_formed is_once is_caused is_queued is_ordered is_checked ends_settled loads_end ends_told ends_stepped goes_in_time
push_after_going_back_suits = record { opened = refl; placed = refl; kept = refl }

-- A traversal beyond the last used step is refused.
abbrev pub beyond_the_end : List Event
beyond_the_end =
    by_start (rows.Opened (e 0 1) (s 1) (d 1) (p 1) None (codes "http://a.test/")) []
    ∷ by_ui (rows.Accepted (r 1) None (requests.Go (pos 5))) (rows.Refused (r 1) denials.NoStep ∷ [])
    ∷ []

pub beyond_the_end_is_legal : IsLegal (log_of beyond_the_end)
unfolding url_on_literals is_web is_blank_url judged judged_parse read_against address_of url_of resolved with_fragment base_of fragment_of origin_text origin_of has_same_base is_rewritable events_of each_event after_opening AtEachEvent is_numbered opens is_formed is_once is_caused is_queued is_ordered is_checked ends_settled loads_end ends_told ends_stepped goes_in_time
beyond_the_end_is_legal = record { opened = refl; numbered = refl; formed = refl; once = refl; caused = refl; queued = refl; ordered = refl; checked = refl; settled = refl }

pub beyond_the_end_ends_loads : LoadsEndInTime (log_of beyond_the_end)
unfolding url_on_literals is_web is_blank_url judged judged_parse read_against address_of url_of resolved with_fragment base_of fragment_of origin_text origin_of has_same_base is_rewritable events_of each_event after_opening AtEachEvent is_numbered opens is_formed is_once is_caused is_queued is_ordered is_checked ends_settled loads_end ends_told ends_stepped goes_in_time
beyond_the_end_ends_loads = refl

pub beyond_the_end_acts_at_once : ActsAtOnce (log_of beyond_the_end)
unfolding url_on_literals is_web is_blank_url judged judged_parse read_against address_of url_of resolved with_fragment base_of fragment_of origin_text origin_of has_same_base is_rewritable events_of each_event after_opening AtEachEvent is_numbered opens is_formed is_once is_caused is_queued is_ordered is_checked ends_settled loads_end ends_told ends_stepped goes_in_time
beyond_the_end_acts_at_once = record { told = refl; stepped = refl; in_time = refl }

pub beyond_the_end_suits : Suits plain_settings (log_of beyond_the_end)
unfolding url_on_literals is_web is_blank_url judged judged_parse read_against address_of url_of resolved with_fragment base_of fragment_of origin_text origin_of has_same_base is_rewritable events_of each_event after_opening AtEachEvent is_numbered opens is_formed is_once is_caused is_queued is_ordered is_checked ends_settled loads_end ends_told ends_stepped goes_in_time
beyond_the_end_suits = record { opened = refl; placed = refl; kept = refl }

-- A traversal forward at the last used step is refused.
abbrev pub forward_at_the_end : List Event
forward_at_the_end =
    by_start (rows.Opened (e 0 1) (s 1) (d 1) (p 1) None (codes "http://a.test/")) []
    ∷ by_ui (rows.Accepted (r 1) None (requests.Go (pos 1))) (rows.Refused (r 1) denials.NoStep ∷ [])
    ∷ []

pub forward_at_the_end_is_legal : IsLegal (log_of forward_at_the_end)
unfolding url_on_literals is_web is_blank_url judged judged_parse read_against address_of url_of resolved with_fragment base_of fragment_of origin_text origin_of has_same_base is_rewritable events_of each_event after_opening AtEachEvent is_numbered opens is_formed is_once is_caused is_queued is_ordered is_checked ends_settled loads_end ends_told ends_stepped goes_in_time
forward_at_the_end_is_legal = record { opened = refl; numbered = refl; formed = refl; once = refl; caused = refl; queued = refl; ordered = refl; checked = refl; settled = refl }

pub forward_at_the_end_ends_loads : LoadsEndInTime (log_of forward_at_the_end)
unfolding url_on_literals is_web is_blank_url judged judged_parse read_against address_of url_of resolved with_fragment base_of fragment_of origin_text origin_of has_same_base is_rewritable events_of each_event after_opening AtEachEvent is_numbered opens is_formed is_once is_caused is_queued is_ordered is_checked ends_settled loads_end ends_told ends_stepped goes_in_time
forward_at_the_end_ends_loads = refl

pub forward_at_the_end_acts_at_once : ActsAtOnce (log_of forward_at_the_end)
unfolding url_on_literals is_web is_blank_url judged judged_parse read_against address_of url_of resolved with_fragment base_of fragment_of origin_text origin_of has_same_base is_rewritable events_of each_event after_opening AtEachEvent is_numbered opens is_formed is_once is_caused is_queued is_ordered is_checked ends_settled loads_end ends_told ends_stepped goes_in_time
forward_at_the_end_acts_at_once = record { told = refl; stepped = refl; in_time = refl }

pub forward_at_the_end_suits : Suits plain_settings (log_of forward_at_the_end)
unfolding url_on_literals is_web is_blank_url judged judged_parse read_against address_of url_of resolved with_fragment base_of fragment_of origin_text origin_of has_same_base is_rewritable events_of each_event after_opening AtEachEvent is_numbered opens is_formed is_once is_caused is_queued is_ordered is_checked ends_settled loads_end ends_told ends_stepped goes_in_time
forward_at_the_end_suits = record { opened = refl; placed = refl; kept = refl }

-- A document goes back by itself.
abbrev pub document_goes_back : List Event
document_goes_back =
    one_push
    ++ by_ui (rows.Accepted (r 2) (Some (d 1)) (requests.Poke (n 0) (actions.Go (negsuc 0)))) []
    ∷ by_proc 1 (made 1 2 1 1 (whats.Go (negsuc 0))) []
    ∷ by_coord (rows.Delivered (p 1)) (rows.Started (r 2) (Some (t 0)) ∷ sent 2 1 0 1 (whys.Req (r 2)) (tasks.Activate (e 0 1) (epoch 2) 2 0 None (codes "http://a.test/")) ∷ [])
    ∷ by_proc 1 (rows.Taken (p 1) (j 2) true false) []
    ∷ by_proc 1 (rows.Finished (p 1) (j 2) outcomes.Activated) []
    ∷ by_coord (rows.Delivered (p 1)) (rows.Applied (r 2) (changes.Traverse (t 0)) ∷ [])
    ∷ []

pub document_goes_back_is_legal : IsLegal (log_of document_goes_back)
unfolding url_on_literals is_web is_blank_url judged judged_parse read_against address_of url_of resolved with_fragment base_of fragment_of origin_text origin_of has_same_base is_rewritable events_of each_event after_opening AtEachEvent is_numbered opens is_formed is_once is_caused is_queued is_ordered is_checked ends_settled loads_end ends_told ends_stepped goes_in_time
document_goes_back_is_legal = record { opened = refl; numbered = refl; formed = refl; once = refl; caused = refl; queued = refl; ordered = refl; checked = refl; settled = refl }

pub document_goes_back_ends_loads : LoadsEndInTime (log_of document_goes_back)
unfolding url_on_literals is_web is_blank_url judged judged_parse read_against address_of url_of resolved with_fragment base_of fragment_of origin_text origin_of has_same_base is_rewritable events_of each_event after_opening AtEachEvent is_numbered opens is_formed is_once is_caused is_queued is_ordered is_checked ends_settled loads_end ends_told ends_stepped goes_in_time
document_goes_back_ends_loads = refl

pub document_goes_back_acts_at_once : ActsAtOnce (log_of document_goes_back)
unfolding url_on_literals is_web is_blank_url judged judged_parse read_against address_of url_of resolved with_fragment base_of fragment_of origin_text origin_of has_same_base is_rewritable events_of each_event after_opening AtEachEvent is_numbered opens is_formed is_once is_caused is_queued is_ordered is_checked ends_settled loads_end ends_told ends_stepped goes_in_time
document_goes_back_acts_at_once = record { told = refl; stepped = refl; in_time = refl }

pub document_goes_back_suits : Suits plain_settings (log_of document_goes_back)
unfolding url_on_literals is_web is_blank_url judged judged_parse read_against address_of url_of resolved with_fragment base_of fragment_of origin_text origin_of has_same_base is_rewritable events_of each_event after_opening AtEachEvent is_numbered opens is_formed is_once is_caused is_queued is_ordered is_checked ends_settled loads_end ends_told ends_stepped goes_in_time
document_goes_back_suits = record { opened = refl; placed = refl; kept = refl }

-- A push under the epoch before a traversal is dropped by it.
abbrev pub push_under_an_old_epoch : List Event
push_under_an_old_epoch =
    one_push
    ++ by_ui (rows.Accepted (r 2) None (requests.Go (negsuc 0))) (rows.Started (r 2) (Some (t 0)) ∷ sent 2 1 0 1 (whys.Req (r 2)) (tasks.Activate (e 0 1) (epoch 2) 2 0 None (codes "http://a.test/")) ∷ [])
    ∷ by_proc 1 (rows.Taken (p 1) (j 2) true false) []
    ∷ by_ui (rows.Accepted (r 3) (Some (d 1)) (requests.Poke (n 0) (actions.Push (Some (codes "t")) (Some (codes "/2"))))) []
    ∷ by_proc 1 (made 1 3 1 1 (whats.Push (e 1 2) (Some (codes "t")) (codes "http://a.test/2"))) []
    ∷ by_proc 1 (rows.Finished (p 1) (j 2) outcomes.Activated) []
    ∷ by_coord (rows.Delivered (p 1)) (rows.Dropped (r 3) (drops.By (r 2)) ∷ [])
    ∷ by_coord (rows.Delivered (p 1)) (rows.Applied (r 2) (changes.Traverse (t 0)) ∷ [])
    ∷ []

pub push_under_an_old_epoch_is_legal : IsLegal (log_of push_under_an_old_epoch)
unfolding url_on_literals is_web is_blank_url judged judged_parse read_against address_of url_of resolved with_fragment base_of fragment_of origin_text origin_of has_same_base is_rewritable events_of each_event after_opening AtEachEvent is_numbered opens is_formed is_once is_caused is_queued is_ordered is_checked ends_settled loads_end ends_told ends_stepped goes_in_time
push_under_an_old_epoch_is_legal = record { opened = refl; numbered = refl; formed = refl; once = refl; caused = refl; queued = refl; ordered = refl; checked = refl; settled = refl }

pub push_under_an_old_epoch_ends_loads : LoadsEndInTime (log_of push_under_an_old_epoch)
unfolding url_on_literals is_web is_blank_url judged judged_parse read_against address_of url_of resolved with_fragment base_of fragment_of origin_text origin_of has_same_base is_rewritable events_of each_event after_opening AtEachEvent is_numbered opens is_formed is_once is_caused is_queued is_ordered is_checked ends_settled loads_end ends_told ends_stepped goes_in_time
push_under_an_old_epoch_ends_loads = refl

pub push_under_an_old_epoch_acts_at_once : ActsAtOnce (log_of push_under_an_old_epoch)
unfolding url_on_literals is_web is_blank_url judged judged_parse read_against address_of url_of resolved with_fragment base_of fragment_of origin_text origin_of has_same_base is_rewritable events_of each_event after_opening AtEachEvent is_numbered opens is_formed is_once is_caused is_queued is_ordered is_checked ends_settled loads_end ends_told ends_stepped goes_in_time
push_under_an_old_epoch_acts_at_once = record { told = refl; stepped = refl; in_time = refl }

pub push_under_an_old_epoch_suits : Suits plain_settings (log_of push_under_an_old_epoch)
unfolding url_on_literals is_web is_blank_url judged judged_parse read_against address_of url_of resolved with_fragment base_of fragment_of origin_text origin_of has_same_base is_rewritable events_of each_event after_opening AtEachEvent is_numbered opens is_formed is_once is_caused is_queued is_ordered is_checked ends_settled loads_end ends_told ends_stepped goes_in_time
push_under_an_old_epoch_suits = record { opened = refl; placed = refl; kept = refl }

-- Two traversals: the second begins where the first has ended.
abbrev pub two_traversals_in_the_queue : List Event
two_traversals_in_the_queue =
    one_push
    ++ by_ui (rows.Accepted (r 2) (Some (d 1)) (requests.Poke (n 0) (actions.Push (Some (codes "s")) (Some (codes "/2"))))) []
    ∷ by_proc 1 (made 1 2 1 1 (whats.Push (e 1 2) (Some (codes "s")) (codes "http://a.test/2"))) []
    ∷ by_coord (rows.Delivered (p 1)) (rows.Applied (r 2) (changes.Push (n 0) (e 1 2) (s 1) (codes "http://a.test/2") (Some (codes "s"))) ∷ sent 2 1 0 1 (whys.Req (r 2)) (tasks.Update 3 2) ∷ [])
    ∷ by_proc 1 (rows.Taken (p 1) (j 2) true false) []
    ∷ by_proc 1 (rows.Finished (p 1) (j 2) outcomes.Updated) []
    ∷ by_coord (rows.Delivered (p 1)) []
    ∷ by_ui (rows.Accepted (r 3) None (requests.Go (negsuc 0))) (rows.Started (r 3) (Some (t 1)) ∷ sent 3 1 0 1 (whys.Req (r 3)) (tasks.Activate (e 1 1) (epoch 2) 3 1 (Some (codes "s")) (codes "http://a.test/1")) ∷ [])
    ∷ by_ui (rows.Accepted (r 4) None (requests.Go (negsuc 0))) []
    ∷ by_proc 1 (rows.Taken (p 1) (j 3) true false) []
    ∷ by_proc 1 (rows.Finished (p 1) (j 3) outcomes.Activated) []
    ∷ by_coord (rows.Delivered (p 1)) (rows.Applied (r 3) (changes.Traverse (t 1)) ∷ rows.Started (r 4) (Some (t 0)) ∷ sent 4 1 0 1 (whys.Req (r 4)) (tasks.Activate (e 0 1) (epoch 3) 3 0 None (codes "http://a.test/")) ∷ [])
    ∷ by_proc 1 (rows.Taken (p 1) (j 4) true false) []
    ∷ by_proc 1 (rows.Finished (p 1) (j 4) outcomes.Activated) []
    ∷ by_coord (rows.Delivered (p 1)) (rows.Applied (r 4) (changes.Traverse (t 0)) ∷ [])
    ∷ []

pub two_traversals_in_the_queue_is_legal : IsLegal (log_of two_traversals_in_the_queue)
unfolding url_on_literals is_web is_blank_url judged judged_parse read_against address_of url_of resolved with_fragment base_of fragment_of origin_text origin_of has_same_base is_rewritable events_of each_event after_opening AtEachEvent is_numbered opens is_formed is_once is_caused is_queued is_ordered is_checked ends_settled loads_end ends_told ends_stepped goes_in_time
two_traversals_in_the_queue_is_legal = record { opened = refl; numbered = refl; formed = refl; once = refl; caused = refl; queued = refl; ordered = refl; checked = refl; settled = refl }

pub two_traversals_in_the_queue_ends_loads : LoadsEndInTime (log_of two_traversals_in_the_queue)
unfolding url_on_literals is_web is_blank_url judged judged_parse read_against address_of url_of resolved with_fragment base_of fragment_of origin_text origin_of has_same_base is_rewritable events_of each_event after_opening AtEachEvent is_numbered opens is_formed is_once is_caused is_queued is_ordered is_checked ends_settled loads_end ends_told ends_stepped goes_in_time
two_traversals_in_the_queue_ends_loads = refl

pub two_traversals_in_the_queue_acts_at_once : ActsAtOnce (log_of two_traversals_in_the_queue)
unfolding url_on_literals is_web is_blank_url judged judged_parse read_against address_of url_of resolved with_fragment base_of fragment_of origin_text origin_of has_same_base is_rewritable events_of each_event after_opening AtEachEvent is_numbered opens is_formed is_once is_caused is_queued is_ordered is_checked ends_settled loads_end ends_told ends_stepped goes_in_time
two_traversals_in_the_queue_acts_at_once = record { told = refl; stepped = refl; in_time = refl }

pub two_traversals_in_the_queue_suits : Suits plain_settings (log_of two_traversals_in_the_queue)
unfolding url_on_literals is_web is_blank_url judged judged_parse read_against address_of url_of resolved with_fragment base_of fragment_of origin_text origin_of has_same_base is_rewritable events_of each_event after_opening AtEachEvent is_numbered opens is_formed is_once is_caused is_queued is_ordered is_checked ends_settled loads_end ends_told ends_stepped goes_in_time
two_traversals_in_the_queue_suits = record { opened = refl; placed = refl; kept = refl }

-- A document goes beyond the first used step, and beyond the last.
abbrev pub document_goes_beyond : List Event
document_goes_beyond =
    by_start (rows.Opened (e 0 1) (s 1) (d 1) (p 1) None (codes "http://a.test/")) []
    ∷ by_ui (rows.Accepted (r 1) (Some (d 1)) (requests.Poke (n 0) (actions.Go (negsuc 0)))) []
    ∷ by_ui (rows.Accepted (r 2) (Some (d 1)) (requests.Poke (n 0) (actions.Go (pos 1)))) []
    ∷ by_proc 1 (made 1 1 1 1 (whats.Go (negsuc 0))) []
    ∷ by_coord (rows.Delivered (p 1)) (rows.Refused (r 1) denials.NoStep ∷ [])
    ∷ by_proc 1 (made 1 2 1 1 (whats.Go (pos 1))) []
    ∷ by_coord (rows.Delivered (p 1)) (rows.Refused (r 2) denials.NoStep ∷ [])
    ∷ []

pub document_goes_beyond_is_legal : IsLegal (log_of document_goes_beyond)
unfolding url_on_literals is_web is_blank_url judged judged_parse read_against address_of url_of resolved with_fragment base_of fragment_of origin_text origin_of has_same_base is_rewritable events_of each_event after_opening AtEachEvent is_numbered opens is_formed is_once is_caused is_queued is_ordered is_checked ends_settled loads_end ends_told ends_stepped goes_in_time
document_goes_beyond_is_legal = record { opened = refl; numbered = refl; formed = refl; once = refl; caused = refl; queued = refl; ordered = refl; checked = refl; settled = refl }

pub document_goes_beyond_ends_loads : LoadsEndInTime (log_of document_goes_beyond)
unfolding url_on_literals is_web is_blank_url judged judged_parse read_against address_of url_of resolved with_fragment base_of fragment_of origin_text origin_of has_same_base is_rewritable events_of each_event after_opening AtEachEvent is_numbered opens is_formed is_once is_caused is_queued is_ordered is_checked ends_settled loads_end ends_told ends_stepped goes_in_time
document_goes_beyond_ends_loads = refl

pub document_goes_beyond_acts_at_once : ActsAtOnce (log_of document_goes_beyond)
unfolding url_on_literals is_web is_blank_url judged judged_parse read_against address_of url_of resolved with_fragment base_of fragment_of origin_text origin_of has_same_base is_rewritable events_of each_event after_opening AtEachEvent is_numbered opens is_formed is_once is_caused is_queued is_ordered is_checked ends_settled loads_end ends_told ends_stepped goes_in_time
document_goes_beyond_acts_at_once = record { told = refl; stepped = refl; in_time = refl }

pub document_goes_beyond_suits : Suits plain_settings (log_of document_goes_beyond)
unfolding url_on_literals is_web is_blank_url judged judged_parse read_against address_of url_of resolved with_fragment base_of fragment_of origin_text origin_of has_same_base is_rewritable events_of each_event after_opening AtEachEvent is_numbered opens is_formed is_once is_caused is_queued is_ordered is_checked ends_settled loads_end ends_told ends_stepped goes_in_time
document_goes_beyond_suits = record { opened = refl; placed = refl; kept = refl }
