-- The same, where a Made row is among the rows that end the log.
-- A log is its events: those before one of another log, since one, or between two, and its own.
use Rattle.std.proofs.Common.{pos, negsuc, true, false, List, [], ◌∷◌, ◌++◌, codes, Some, None}
use Rattle.std.proofs.lemmas.Bool.{false≢true}
use Rattle.url.proofs.OnLiterals.{url_on_literals}
use Rattle.address.specs.Addresses.{is_web, is_blank_url, judged, judged_parse, read_against, address_of, url_of, resolved, with_fragment, base_of, fragment_of, origin_text, origin_of, has_same_base, is_rewritable}
use Rattle.log_model.specs.declared.action.Action.TheVariants as actions
use Rattle.log_model.specs.declared.change.Change.TheVariants as changes
use Rattle.log_model.specs.declared.job.Task.TheVariants as tasks
use Rattle.log_model.specs.declared.job.Why.TheVariants as whys
use Rattle.log_model.specs.declared.made.What.TheVariants as whats
use Rattle.log_model.specs.declared.outcome.Denial.TheVariants as denials
use Rattle.log_model.specs.declared.outcome.Outcome.TheVariants as outcomes
use Rattle.log_model.specs.declared.request.Mode.TheVariants as modes
use Rattle.log_model.specs.declared.request.Request.TheVariants as requests
use Rattle.log_model.specs.declared.row_kind.RowKind.TheVariants as rows
use Rattle.log_model.specs.Events.{events_of, each_event, after_opening, AtEachEvent}
use Rattle.log_model.specs.Formed.{is_numbered}
use Rattle.log_model.specs.Legal.{IsLegal, opens, is_formed, is_once, is_caused, is_queued, is_ordered, is_checked, ends_settled}
use Rattle.log_model.specs.LoadsEndInTime.{loads_end}
use Rattle.log_model.specs.ActsAtOnce.{ends_told, ends_stepped, goes_in_time}
use Rattle.log_examples.specs.Rows.{n, s, r, p, d, j, e, epoch, sent, made}
use Rattle.log_examples.specs.Logs.{Event, by_start, by_ui, by_coord, by_proc, log_of, before}
use Rattle.log_examples.proofs.Pushes.{one_push, push_beside_a_frame}
use Rattle.log_examples.proofs.Traversals.{document_goes_back}
use Rattle.log_examples.proofs.Loads.{fragment_load}
use Rattle.log_examples.proofs.Frames.{taken_number}
use Rattle.log_examples.proofs.Removals.{push_of_a_removed_frame}

-- same_delta: were `a == b` turned, `once` would hold.
abbrev pub same_delta_1 : List Event
same_delta_1 =
    by_start (rows.Opened (e 0 1) (s 1) (d 1) (p 1) None (codes "http://a.test/p0")) []
    ∷ by_ui (rows.Accepted (r 1) (Some (d 1)) (requests.Poke (n 0) (actions.Push (Some (codes "s")) (Some (codes "/q0"))))) []
    ∷ by_proc 1 (made 1 1 1 1 (whats.Push (e 1 1) (Some (codes "s")) (codes "http://a.test/q0"))) []
    ∷ by_coord (rows.Delivered (p 1)) (rows.Applied (r 1) (changes.Push (n 0) (e 1 1) (s 1) (codes "http://a.test/q0") (Some (codes "s"))) ∷ sent 1 1 0 1 (whys.Req (r 1)) (tasks.Update 2 1) ∷ [])
    ∷ by_proc 1 (rows.Taken (p 1) (j 1) true false) []
    ∷ by_proc 1 (rows.Finished (p 1) (j 1) outcomes.Updated) []
    ∷ by_coord (rows.Delivered (p 1)) []
    ∷ by_ui (rows.Accepted (r 2) (Some (d 1)) (requests.Poke (n 0) (actions.Push (Some (codes "s")) None))) []
    ∷ by_proc 1 (made 1 2 1 1 (whats.Push (e 1 2) (Some (codes "s")) (codes "http://a.test/q0"))) []
    ∷ by_coord (rows.Delivered (p 1)) (rows.Applied (r 2) (changes.Push (n 0) (e 1 2) (s 1) (codes "http://a.test/q0") (Some (codes "s"))) ∷ sent 2 1 0 1 (whys.Req (r 2)) (tasks.Update 3 2) ∷ [])
    ∷ by_proc 1 (rows.Taken (p 1) (j 2) true false) []
    ∷ by_proc 1 (rows.Finished (p 1) (j 2) outcomes.Updated) []
    ∷ by_coord (rows.Delivered (p 1)) []
    ∷ by_ui (rows.Accepted (r 3) (Some (d 1)) (requests.Poke (n 0) (actions.Go (pos 1)))) []
    ∷ by_proc 1 (made 1 3 1 1 (whats.Go (pos 2))) []
    ∷ []

pub same_delta_1_is_refused : IsLegal (log_of same_delta_1) → ⊥
unfolding url_on_literals is_web is_blank_url judged judged_parse read_against address_of url_of resolved with_fragment base_of fragment_of origin_text origin_of has_same_base is_rewritable events_of each_event after_opening AtEachEvent is_numbered opens is_formed is_once is_caused is_queued is_ordered is_checked ends_settled loads_end ends_told ends_stepped goes_in_time
same_delta_1_is_refused holds = false≢true holds.once

-- same_delta: were equation 3 true, `once` would hold.
abbrev pub same_delta_2 : List Event
same_delta_2 =
    before 8 document_goes_back
    ++ by_proc 1 (made 1 2 1 1 (whats.Go (pos 1))) []
    ∷ []

pub same_delta_2_is_refused : IsLegal (log_of same_delta_2) → ⊥
unfolding url_on_literals is_web is_blank_url judged judged_parse read_against address_of url_of resolved with_fragment base_of fragment_of origin_text origin_of has_same_base is_rewritable events_of each_event after_opening AtEachEvent is_numbered opens is_formed is_once is_caused is_queued is_ordered is_checked ends_settled loads_end ends_told ends_stepped goes_in_time
same_delta_2_is_refused holds = false≢true holds.once

-- same_new_entry: were equation 3 true, `once` would hold.
abbrev pub same_new_entry_1 : List Event
same_new_entry_1 =
    by_start (rows.Opened (e 0 1) (s 1) (d 1) (p 1) None (codes "about:blank")) []
    ∷ by_ui (rows.Accepted (r 1) (Some (d 1)) (requests.Poke (n 0) (actions.Push (Some (codes "s")) None))) []
    ∷ by_proc 1 (made 1 1 1 1 (whats.Push (e 1 1) (Some (codes "s")) (codes "http://a.test/1"))) []
    ∷ []

pub same_new_entry_1_is_refused : IsLegal (log_of same_new_entry_1) → ⊥
unfolding url_on_literals is_web is_blank_url judged judged_parse read_against address_of url_of resolved with_fragment base_of fragment_of origin_text origin_of has_same_base is_rewritable events_of each_event after_opening AtEachEvent is_numbered opens is_formed is_once is_caused is_queued is_ordered is_checked ends_settled loads_end ends_told ends_stepped goes_in_time
same_new_entry_1_is_refused holds = false≢true holds.once

-- same_new_entry: without conjunct `bytes_eq a a'`, `once` would hold.
abbrev pub same_new_entry_2 : List Event
same_new_entry_2 =
    before 3 fragment_load
    ++ by_proc 1 (rows.Finished (p 1) (j 1) outcomes.Fragmented) (made 1 1 1 1 (whats.Push (e 1 1) None (codes "http://a.test/#f0")) ∷ [])
    ∷ []

pub same_new_entry_2_is_refused : IsLegal (log_of same_new_entry_2) → ⊥
unfolding url_on_literals is_web is_blank_url judged judged_parse read_against address_of url_of resolved with_fragment base_of fragment_of origin_text origin_of has_same_base is_rewritable events_of each_event after_opening AtEachEvent is_numbered opens is_formed is_once is_caused is_queued is_ordered is_checked ends_settled loads_end ends_told ends_stepped goes_in_time
same_new_entry_2_is_refused holds = false≢true holds.once

-- same_new_entry: without conjunct `bytes_eq a a'`, `once` would hold.
abbrev pub same_new_entry_3 : List Event
same_new_entry_3 =
    by_start (rows.Opened (e 0 1) (s 1) (d 1) (p 1) None (codes "http://a.test/")) []
    ∷ by_ui (rows.Accepted (r 1) (Some (d 1)) (requests.Poke (n 0) (actions.Replace (Some (codes "m")) None))) []
    ∷ by_proc 1 (made 1 1 1 1 (whats.Replace (e 0 1) (e 1 1) (Some (codes "m")) (codes "http://a.test/#f0"))) []
    ∷ []

pub same_new_entry_3_is_refused : IsLegal (log_of same_new_entry_3) → ⊥
unfolding url_on_literals is_web is_blank_url judged judged_parse read_against address_of url_of resolved with_fragment base_of fragment_of origin_text origin_of has_same_base is_rewritable events_of each_event after_opening AtEachEvent is_numbered opens is_formed is_once is_caused is_queued is_ordered is_checked ends_settled loads_end ends_told ends_stepped goes_in_time
same_new_entry_3_is_refused holds = false≢true holds.once

-- same_new_entry: without conjunct `same_entry e e'`, `once` would hold.
abbrev pub same_new_entry_4 : List Event
same_new_entry_4 =
    by_start (rows.Opened (e 0 1) (s 1) (d 1) (p 1) None (codes "http://a.test/")) []
    ∷ by_ui (rows.Accepted (r 1) (Some (d 1)) (requests.Poke (n 0) (actions.Push (Some (codes "s1")) (Some (codes "/1"))))) []
    ∷ by_proc 1 (made 1 1 1 1 (whats.Push (e 2 1) (Some (codes "s1")) (codes "http://a.test/1"))) []
    ∷ []

pub same_new_entry_4_is_refused : IsLegal (log_of same_new_entry_4) → ⊥
unfolding url_on_literals is_web is_blank_url judged judged_parse read_against address_of url_of resolved with_fragment base_of fragment_of origin_text origin_of has_same_base is_rewritable events_of each_event after_opening AtEachEvent is_numbered opens is_formed is_once is_caused is_queued is_ordered is_checked ends_settled loads_end ends_told ends_stepped goes_in_time
same_new_entry_4_is_refused holds = false≢true holds.once

-- same_new_entry: without conjunct `same_entry e e'`, `once` would hold.
abbrev pub same_new_entry_5 : List Event
same_new_entry_5 =
    by_start (rows.Opened (e 0 1) (s 1) (d 1) (p 1) None (codes "about:blank")) []
    ∷ by_ui (rows.Accepted (r 1) (Some (d 1)) (requests.Poke (n 0) (actions.Push (Some (codes "s")) None))) []
    ∷ by_proc 1 (made 1 1 1 1 (whats.Replace (e 0 1) (e 1 0) (Some (codes "s")) (codes "about:blank"))) []
    ∷ []

pub same_new_entry_5_is_refused : IsLegal (log_of same_new_entry_5) → ⊥
unfolding url_on_literals is_web is_blank_url judged judged_parse read_against address_of url_of resolved with_fragment base_of fragment_of origin_text origin_of has_same_base is_rewritable events_of each_event after_opening AtEachEvent is_numbered opens is_formed is_once is_caused is_queued is_ordered is_checked ends_settled loads_end ends_told ends_stepped goes_in_time
same_new_entry_5_is_refused holds = false≢true holds.once

-- same_new_entry: without conjunct `same_entry o o'`, `once` would hold.
abbrev pub same_new_entry_6 : List Event
same_new_entry_6 =
    by_start (rows.Opened (e 0 1) (s 1) (d 1) (p 1) None (codes "about:blank")) []
    ∷ by_ui (rows.Accepted (r 1) (Some (d 1)) (requests.Poke (n 0) (actions.Push (Some (codes "s")) None))) []
    ∷ by_proc 1 (made 1 1 1 1 (whats.Replace (e 0 2) (e 1 1) (Some (codes "s")) (codes "about:blank"))) []
    ∷ []

pub same_new_entry_6_is_refused : IsLegal (log_of same_new_entry_6) → ⊥
unfolding url_on_literals is_web is_blank_url judged judged_parse read_against address_of url_of resolved with_fragment base_of fragment_of origin_text origin_of has_same_base is_rewritable events_of each_event after_opening AtEachEvent is_numbered opens is_formed is_once is_caused is_queued is_ordered is_checked ends_settled loads_end ends_told ends_stepped goes_in_time
same_new_entry_6_is_refused holds = false≢true holds.once

-- same_new_entry: without conjunct `same_memo m m'`, `once` would hold.
abbrev pub same_new_entry_7 : List Event
same_new_entry_7 =
    by_start (rows.Opened (e 0 1) (s 1) (d 1) (p 1) None (codes "http://a.test/")) []
    ∷ by_ui (rows.Accepted (r 1) (Some (d 1)) (requests.Poke (n 0) (actions.Push (Some (codes "s")) (Some (codes "/1"))))) []
    ∷ by_proc 1 (made 1 1 1 1 (whats.Push (e 1 1) None (codes "http://a.test/1"))) []
    ∷ []

pub same_new_entry_7_is_refused : IsLegal (log_of same_new_entry_7) → ⊥
unfolding url_on_literals is_web is_blank_url judged judged_parse read_against address_of url_of resolved with_fragment base_of fragment_of origin_text origin_of has_same_base is_rewritable events_of each_event after_opening AtEachEvent is_numbered opens is_formed is_once is_caused is_queued is_ordered is_checked ends_settled loads_end ends_told ends_stepped goes_in_time
same_new_entry_7_is_refused holds = false≢true holds.once

-- same_new_entry: without conjunct `same_memo m m'`, `once` would hold.
abbrev pub same_new_entry_8 : List Event
same_new_entry_8 =
    by_start (rows.Opened (e 0 1) (s 1) (d 1) (p 1) None (codes "about:blank")) []
    ∷ by_ui (rows.Accepted (r 1) (Some (d 1)) (requests.Poke (n 0) (actions.Push (Some (codes "s")) None))) []
    ∷ by_proc 1 (made 1 1 1 1 (whats.Replace (e 0 1) (e 1 1) None (codes "about:blank"))) []
    ∷ []

pub same_new_entry_8_is_refused : IsLegal (log_of same_new_entry_8) → ⊥
unfolding url_on_literals is_web is_blank_url judged judged_parse read_against address_of url_of resolved with_fragment base_of fragment_of origin_text origin_of has_same_base is_rewritable events_of each_event after_opening AtEachEvent is_numbered opens is_formed is_once is_caused is_queued is_ordered is_checked ends_settled loads_end ends_told ends_stepped goes_in_time
same_new_entry_8_is_refused holds = false≢true holds.once

-- same_what: were equation 1 true, `once` would hold.
abbrev pub same_what_1 : List Event
same_what_1 =
    by_start (rows.Opened (e 0 1) (s 1) (d 1) (p 1) None (codes "http://a.test/")) []
    ∷ by_ui (rows.Accepted (r 1) (Some (d 1)) (requests.Poke (n 0) (actions.AddFrame (n 1)))) []
    ∷ by_proc 1 (made 1 1 1 1 (whats.AddFrame (n 2))) []
    ∷ []

pub same_what_1_is_refused : IsLegal (log_of same_what_1) → ⊥
unfolding url_on_literals is_web is_blank_url judged judged_parse read_against address_of url_of resolved with_fragment base_of fragment_of origin_text origin_of has_same_base is_rewritable events_of each_event after_opening AtEachEvent is_numbered opens is_formed is_once is_caused is_queued is_ordered is_checked ends_settled loads_end ends_told ends_stepped goes_in_time
same_what_1_is_refused holds = false≢true holds.once

-- same_what: were equation 2 true, `once` would hold.
abbrev pub same_what_2 : List Event
same_what_2 =
    before 12 push_of_a_removed_frame
    ++ by_proc 1 (made 1 2 1 1 (whats.RemoveFrame (n 2))) []
    ∷ []

pub same_what_2_is_refused : IsLegal (log_of same_what_2) → ⊥
unfolding url_on_literals is_web is_blank_url judged judged_parse read_against address_of url_of resolved with_fragment base_of fragment_of origin_text origin_of has_same_base is_rewritable events_of each_event after_opening AtEachEvent is_numbered opens is_formed is_once is_caused is_queued is_ordered is_checked ends_settled loads_end ends_told ends_stepped goes_in_time
same_what_2_is_refused holds = false≢true holds.once

-- is_made_duly: without conjunct `is_none q.made`, `once` would hold.
abbrev pub is_made_duly_1 : List Event
is_made_duly_1 =
    before 3 push_of_a_removed_frame
    ++ by_proc 1 (made 1 1 1 1 (whats.AddFrame (n 1))) []
    ∷ []

pub is_made_duly_1_is_refused : IsLegal (log_of is_made_duly_1) → ⊥
unfolding url_on_literals is_web is_blank_url judged judged_parse read_against address_of url_of resolved with_fragment base_of fragment_of origin_text origin_of has_same_base is_rewritable events_of each_event after_opening AtEachEvent is_numbered opens is_formed is_once is_caused is_queued is_ordered is_checked ends_settled loads_end ends_told ends_stepped goes_in_time
is_made_duly_1_is_refused holds = false≢true holds.once

-- is_made_in: without conjunct `d.proc.0 == proc.0`, `once` would hold.
abbrev pub is_made_in_1 : List Event
is_made_in_1 =
    by_start (rows.Opened (e 0 1) (s 1) (d 1) (p 1) None (codes "about:blank")) []
    ∷ by_ui (rows.Accepted (r 1) (Some (d 1)) (requests.Poke (n 0) (actions.Push (Some (codes "s")) None))) []
    ∷ by_proc 1 (made 2 1 1 1 (whats.Replace (e 0 1) (e 1 1) (Some (codes "s")) (codes "about:blank"))) []
    ∷ []

pub is_made_in_1_is_refused : IsLegal (log_of is_made_in_1) → ⊥
unfolding url_on_literals is_web is_blank_url judged judged_parse read_against address_of url_of resolved with_fragment base_of fragment_of origin_text origin_of has_same_base is_rewritable events_of each_event after_opening AtEachEvent is_numbered opens is_formed is_once is_caused is_queued is_ordered is_checked ends_settled loads_end ends_told ends_stepped goes_in_time
is_made_in_1_is_refused holds = false≢true holds.once

-- is_made_of: without conjunct `view.epoch.0 == made.epoch.0`, `once` would hold.
abbrev pub is_made_of_1 : List Event
is_made_of_1 =
    by_start (rows.Opened (e 0 1) (s 1) (d 1) (p 1) None (codes "about:blank")) []
    ∷ by_ui (rows.Accepted (r 1) (Some (d 1)) (requests.Poke (n 0) (actions.Push (Some (codes "s")) None))) []
    ∷ by_proc 1 (made 1 1 1 2 (whats.Replace (e 0 1) (e 1 1) (Some (codes "s")) (codes "about:blank"))) []
    ∷ []

pub is_made_of_1_is_refused : IsLegal (log_of is_made_of_1) → ⊥
unfolding url_on_literals is_web is_blank_url judged judged_parse read_against address_of url_of resolved with_fragment base_of fragment_of origin_text origin_of has_same_base is_rewritable events_of each_event after_opening AtEachEvent is_numbered opens is_formed is_once is_caused is_queued is_ordered is_checked ends_settled loads_end ends_told ends_stepped goes_in_time
is_made_of_1_is_refused holds = false≢true holds.once

-- is_made_of: without conjunct `view.running`, `once` would hold.
abbrev pub is_made_of_2 : List Event
is_made_of_2 =
    by_start (rows.Opened (e 0 1) (s 1) (d 1) (p 1) None (codes "http://a.test/p0")) []
    ∷ by_ui (rows.Accepted (r 1) (Some (d 1)) (requests.Poke (n 0) (actions.AddFrame (n 1)))) []
    ∷ by_ui (rows.Accepted (r 2) None (requests.Go (pos 1))) (rows.Refused (r 2) denials.NoStep ∷ [])
    ∷ by_ui (rows.Accepted (r 3) None (requests.Load (n 0) modes.Auto (codes "http://a.test/p1#f1"))) (rows.Started (r 3) None ∷ sent 1 1 0 2 (whys.Req (r 3)) (tasks.Populate (n 0) (s 2) (codes "http://a.test/p1#f1") false) ∷ [])
    ∷ by_proc 1 (rows.Taken (p 1) (j 1) true false) []
    ∷ by_proc 1 (rows.Finished (p 1) (j 1) (outcomes.Populated None)) []
    ∷ by_ui (rows.Accepted (r 4) (Some (d 1)) (requests.Poke (n 0) actions.Edit)) []
    ∷ by_coord (rows.Delivered (p 1)) (rows.Applied (r 3) (changes.Push (n 0) (e 0 2) (s 2) (codes "http://a.test/p1#f1") None) ∷ sent 2 1 0 1 (whys.Req (r 3)) tasks.Freeze ∷ sent 3 1 0 2 (whys.Req (r 3)) (tasks.Activate (e 0 2) (epoch 2) 2 1 None (codes "http://a.test/p1#f1")) ∷ [])
    ∷ by_proc 1 (made 1 1 1 1 (whats.AddFrame (n 1))) []
    ∷ by_proc 1 (rows.Taken (p 1) (j 2) true false) []
    ∷ by_proc 1 (rows.Finished (p 1) (j 2) outcomes.Frozen) []
    ∷ by_proc 1 (made 1 4 1 1 whats.Edit) []
    ∷ []

pub is_made_of_2_is_refused : IsLegal (log_of is_made_of_2) → ⊥
unfolding url_on_literals is_web is_blank_url judged judged_parse read_against address_of url_of resolved with_fragment base_of fragment_of origin_text origin_of has_same_base is_rewritable events_of each_event after_opening AtEachEvent is_numbered opens is_formed is_once is_caused is_queued is_ordered is_checked ends_settled loads_end ends_told ends_stepped goes_in_time
is_made_of_2_is_refused holds = false≢true holds.once

-- is_made_of_poke: without test `doc.0 == made.doc.0`, `once` would hold.
abbrev pub is_made_of_poke_1 : List Event
is_made_of_poke_1 =
    before 11 taken_number
    ++ by_proc 1 (made 1 2 2 1 (whats.AddFrame (n 1))) []
    ∷ []

pub is_made_of_poke_1_is_refused : IsLegal (log_of is_made_of_poke_1) → ⊥
unfolding url_on_literals is_web is_blank_url judged judged_parse read_against address_of url_of resolved with_fragment base_of fragment_of origin_text origin_of has_same_base is_rewritable events_of each_event after_opening AtEachEvent is_numbered opens is_formed is_once is_caused is_queued is_ordered is_checked ends_settled loads_end ends_told ends_stepped goes_in_time
is_made_of_poke_1_is_refused holds = false≢true holds.once

-- fits: without conjunct `not (nav.0 == 0)`, `once` would hold.
abbrev pub frame_with_the_number_of_the_top : List Event
frame_with_the_number_of_the_top =
    by_start (rows.Opened (e 0 1) (s 1) (d 1) (p 1) None (codes "http://a.test/")) []
    ∷ by_ui (rows.Accepted (r 1) (Some (d 1)) (requests.Poke (n 0) (actions.AddFrame (n 0)))) []
    ∷ by_proc 1 (made 1 1 1 1 (whats.AddFrame (n 0))) []
    ∷ by_coord (rows.Delivered (p 1)) (rows.Applied (r 1) (changes.AddFrame (s 1) (n 0) (e 0 2) (s 2)) ∷ [])
    ∷ []

pub frame_with_the_number_of_the_top_is_refused : IsLegal (log_of frame_with_the_number_of_the_top) → ⊥
unfolding url_on_literals is_web is_blank_url judged judged_parse read_against address_of url_of resolved with_fragment base_of fragment_of origin_text origin_of has_same_base is_rewritable events_of each_event after_opening AtEachEvent is_numbered opens is_formed is_once is_caused is_queued is_ordered is_checked ends_settled loads_end ends_told ends_stepped goes_in_time
frame_with_the_number_of_the_top_is_refused holds = false≢true holds.once

-- same_delta: were equation 2 true, `once` would hold.
abbrev pub another_negative_delta : List Event
another_negative_delta =
    before 8 document_goes_back
    ++ by_proc 1 (made 1 2 1 1 (whats.Go (negsuc 1))) []
    ∷ []

pub another_negative_delta_is_refused : IsLegal (log_of another_negative_delta) → ⊥
unfolding url_on_literals is_web is_blank_url judged judged_parse read_against address_of url_of resolved with_fragment base_of fragment_of origin_text origin_of has_same_base is_rewritable events_of each_event after_opening AtEachEvent is_numbered opens is_formed is_once is_caused is_queued is_ordered is_checked ends_settled loads_end ends_told ends_stepped goes_in_time
another_negative_delta_is_refused holds = false≢true holds.once

-- A document numbered 0 pushes in a frame, so that its entry has the number of the first one, and a replace of the first one is applied to the frame. same_new_row: without conjunct `n.0 == n'.0`, `once` would hold.
abbrev pub replace_in_another_navigable : List Event
replace_in_another_navigable =
    before 10 push_beside_a_frame
    ++ by_ui (sent 3 1 0 0 (whys.Req (r 1)) (tasks.Populate (n 1) (s 2) (codes "http://a.test/f") false)) []
    ∷ by_proc 1 (rows.Taken (p 1) (j 3) true false) []
    ∷ by_proc 1 (rows.Finished (p 1) (j 3) (outcomes.Populated None)) []
    ∷ by_ui (sent 4 1 0 0 (whys.Req (r 1)) (tasks.Activate (e 0 2) (epoch 2) 1 0 None (codes "about:blank"))) []
    ∷ by_proc 1 (rows.Taken (p 1) (j 4) true false) []
    ∷ by_proc 1 (rows.Finished (p 1) (j 4) outcomes.Activated) []
    ∷ by_ui (rows.Accepted (r 2) (Some (d 0)) (requests.Poke (n 1) (actions.Push (Some (codes "s")) None))) []
    ∷ by_proc 1 (made 1 2 0 2 (whats.Push (e 0 1) (Some (codes "s")) (codes "about:blank"))) []
    ∷ by_coord (rows.Applied (r 2) (changes.Push (n 1) (e 0 1) (s 2) (codes "about:blank") (Some (codes "s")))) []
    ∷ by_ui (rows.Accepted (r 3) (Some (d 1)) (requests.Poke (n 0) (actions.Replace (Some (codes "t")) None))) []
    ∷ by_proc 1 (made 1 3 1 1 (whats.Replace (e 0 1) (e 1 1) (Some (codes "t")) (codes "http://a.test/"))) []
    ∷ by_coord (rows.Applied (r 3) (changes.Replace (n 1) (e 0 1) (e 1 1) (s 1) (codes "http://a.test/") (Some (codes "t")))) []
    ∷ []

pub replace_in_another_navigable_is_refused : IsLegal (log_of replace_in_another_navigable) → ⊥
unfolding url_on_literals is_web is_blank_url judged judged_parse read_against address_of url_of resolved with_fragment base_of fragment_of origin_text origin_of has_same_base is_rewritable events_of each_event after_opening AtEachEvent is_numbered opens is_formed is_once is_caused is_queued is_ordered is_checked ends_settled loads_end ends_told ends_stepped goes_in_time
replace_in_another_navigable_is_refused holds = false≢true holds.once

-- The top document is shown the entry of its frame, and replaces it. fits: without conjunct `is_of nav row`, `once` would hold.
abbrev pub replace_of_an_entry_of_a_frame : List Event
replace_of_an_entry_of_a_frame =
    before 10 push_beside_a_frame
    ++ by_ui (sent 3 1 0 1 (whys.Req (r 1)) (tasks.Activate (e 0 2) (epoch 2) 1 0 None (codes "http://a.test/"))) []
    ∷ by_proc 1 (rows.Taken (p 1) (j 3) true false) []
    ∷ by_proc 1 (rows.Finished (p 1) (j 3) outcomes.Activated) []
    ∷ by_ui (rows.Accepted (r 2) (Some (d 1)) (requests.Poke (n 0) (actions.Replace (Some (codes "t")) None))) []
    ∷ by_proc 1 (made 1 2 1 2 (whats.Replace (e 0 2) (e 1 1) (Some (codes "t")) (codes "http://a.test/"))) []
    ∷ by_coord (rows.Applied (r 2) (changes.Replace (n 0) (e 0 2) (e 1 1) (s 1) (codes "http://a.test/") (Some (codes "t")))) []
    ∷ []

pub replace_of_an_entry_of_a_frame_is_refused : IsLegal (log_of replace_of_an_entry_of_a_frame) → ⊥
unfolding url_on_literals is_web is_blank_url judged judged_parse read_against address_of url_of resolved with_fragment base_of fragment_of origin_text origin_of has_same_base is_rewritable events_of each_event after_opening AtEachEvent is_numbered opens is_formed is_once is_caused is_queued is_ordered is_checked ends_settled loads_end ends_told ends_stepped goes_in_time
replace_of_an_entry_of_a_frame_is_refused holds = false≢true holds.once

-- A fragment order of the top is answered by the document of its frame. is_made_of_order: without conjunct `job.doc.0 == made.doc.0`, `once` would hold.
abbrev pub fragment_made_by_another_document : List Event
fragment_made_by_another_document =
    before 10 push_beside_a_frame
    ++ by_ui (rows.Accepted (r 2) None (requests.Load (n 0) modes.Auto (codes "http://a.test/#x"))) (sent 3 1 0 1 (whys.Req (r 2)) (tasks.DoFragment (r 2) modes.Auto (codes "http://a.test/#x")) ∷ [])
    ∷ by_proc 1 (rows.Taken (p 1) (j 3) true false) []
    ∷ by_proc 1 (rows.Finished (p 1) (j 3) outcomes.Fragmented) (made 1 2 2 1 (whats.Replace (e 0 2) (e 2 1) None (codes "http://a.test/#x")) ∷ [])
    ∷ []

pub fragment_made_by_another_document_is_refused : IsLegal (log_of fragment_made_by_another_document) → ⊥
unfolding url_on_literals is_web is_blank_url judged judged_parse read_against address_of url_of resolved with_fragment base_of fragment_of origin_text origin_of has_same_base is_rewritable events_of each_event after_opening AtEachEvent is_numbered opens is_formed is_once is_caused is_queued is_ordered is_checked ends_settled loads_end ends_told ends_stepped goes_in_time
fragment_made_by_another_document_is_refused holds = false≢true holds.once

-- What was made of a fragment order is said to be made of another request. is_made_of_order: without conjunct `answers made job.task`, `once` would hold.
abbrev pub fragment_made_for_another_request : List Event
fragment_made_for_another_request =
    by_start (rows.Opened (e 0 1) (s 1) (d 1) (p 1) None (codes "http://a.test/")) []
    ∷ by_ui (rows.Accepted (r 1) None (requests.Load (n 0) modes.Auto (codes "http://a.test/#x"))) (sent 1 1 0 1 (whys.Req (r 1)) (tasks.DoFragment (r 1) modes.Auto (codes "http://a.test/#x")) ∷ [])
    ∷ by_ui (rows.Accepted (r 2) None (requests.Go (pos 5))) (rows.Refused (r 2) denials.NoStep ∷ [])
    ∷ by_proc 1 (rows.Taken (p 1) (j 1) true false) []
    ∷ by_proc 1 (rows.Finished (p 1) (j 1) outcomes.Fragmented) (made 1 2 1 1 (whats.Push (e 1 1) None (codes "http://a.test/#x")) ∷ [])
    ∷ []

pub fragment_made_for_another_request_is_refused : IsLegal (log_of fragment_made_for_another_request) → ⊥
unfolding url_on_literals is_web is_blank_url judged judged_parse read_against address_of url_of resolved with_fragment base_of fragment_of origin_text origin_of has_same_base is_rewritable events_of each_event after_opening AtEachEvent is_numbered opens is_formed is_once is_caused is_queued is_ordered is_checked ends_settled loads_end ends_told ends_stepped goes_in_time
fragment_made_for_another_request_is_refused holds = false≢true holds.once

-- A document is made anew under its number, and makes its first entry again. is_later_entry: were `nat_lt d.last_applied entry.nr` `nat_le`, `once` would hold.
abbrev pub entry_made_twice : List Event
entry_made_twice =
    one_push
    ++ by_ui (rows.Accepted (r 2) None (requests.Go (pos 5))) (sent 2 1 0 1 (whys.Req (r 1)) (tasks.Populate (n 0) (s 1) (codes "http://a.test/1") false) ∷ sent 3 1 0 1 (whys.Req (r 1)) (tasks.Activate (e 1 1) (epoch 2) 2 1 (Some (codes "s")) (codes "http://a.test/1")) ∷ [])
    ∷ by_proc 1 (rows.Taken (p 1) (j 2) true false) []
    ∷ by_proc 1 (rows.Finished (p 1) (j 2) (outcomes.Populated None)) []
    ∷ by_proc 1 (rows.Taken (p 1) (j 3) true false) []
    ∷ by_proc 1 (rows.Finished (p 1) (j 3) outcomes.Activated) []
    ∷ by_ui (rows.Accepted (r 3) (Some (d 1)) (requests.Poke (n 0) (actions.Push (Some (codes "t")) (Some (codes "/2"))))) []
    ∷ by_proc 1 (made 1 3 1 2 (whats.Push (e 1 1) (Some (codes "t")) (codes "http://a.test/2"))) []
    ∷ by_coord (rows.Delivered (p 1)) (rows.Applied (r 3) (changes.Push (n 0) (e 1 1) (s 1) (codes "http://a.test/2") (Some (codes "t"))) ∷ [])
    ∷ []

pub entry_made_twice_is_refused : IsLegal (log_of entry_made_twice) → ⊥
unfolding url_on_literals is_web is_blank_url judged judged_parse read_against address_of url_of resolved with_fragment base_of fragment_of origin_text origin_of has_same_base is_rewritable events_of each_event after_opening AtEachEvent is_numbered opens is_formed is_once is_caused is_queued is_ordered is_checked ends_settled loads_end ends_told ends_stepped goes_in_time
entry_made_twice_is_refused holds = false≢true holds.once

-- A fragment order is sent for a reload, and what the document makes of it is applied. has_to_begin: without disjunct `is_reload what`, `once` would hold.
abbrev pub reload_answered_as_a_fragment : List Event
reload_answered_as_a_fragment =
    by_start (rows.Opened (e 0 1) (s 1) (d 1) (p 1) None (codes "http://a.test/")) []
    ∷ by_ui (rows.Accepted (r 1) None (requests.Reload (n 0))) (sent 1 1 0 1 (whys.Req (r 1)) (tasks.DoFragment (r 1) modes.Auto (codes "http://a.test/#x")) ∷ [])
    ∷ by_proc 1 (rows.Taken (p 1) (j 1) true false) []
    ∷ by_proc 1 (rows.Finished (p 1) (j 1) outcomes.Fragmented) (made 1 1 1 1 (whats.Push (e 1 1) None (codes "http://a.test/#x")) ∷ [])
    ∷ by_coord (rows.Delivered (p 1)) (rows.Applied (r 1) (changes.Push (n 0) (e 1 1) (s 1) (codes "http://a.test/#x") None) ∷ [])
    ∷ []

pub reload_answered_as_a_fragment_is_refused : IsLegal (log_of reload_answered_as_a_fragment) → ⊥
unfolding url_on_literals is_web is_blank_url judged judged_parse read_against address_of url_of resolved with_fragment base_of fragment_of origin_text origin_of has_same_base is_rewritable events_of each_event after_opening AtEachEvent is_numbered opens is_formed is_once is_caused is_queued is_ordered is_checked ends_settled loads_end ends_told ends_stepped goes_in_time
reload_answered_as_a_fragment_is_refused holds = false≢true holds.once

-- A fragment order is sent for a traversal, and what the document makes of it is applied. has_to_begin: without disjunct `is_traversal what`, `once` would hold.
abbrev pub traversal_answered_as_a_fragment : List Event
traversal_answered_as_a_fragment =
    by_start (rows.Opened (e 0 1) (s 1) (d 1) (p 1) None (codes "http://a.test/")) []
    ∷ by_ui (rows.Accepted (r 1) None (requests.Go (pos 5))) (sent 1 1 0 1 (whys.Req (r 1)) (tasks.DoFragment (r 1) modes.Auto (codes "http://a.test/#x")) ∷ [])
    ∷ by_proc 1 (rows.Taken (p 1) (j 1) true false) []
    ∷ by_proc 1 (rows.Finished (p 1) (j 1) outcomes.Fragmented) (made 1 1 1 1 (whats.Push (e 1 1) None (codes "http://a.test/#x")) ∷ [])
    ∷ by_coord (rows.Delivered (p 1)) (rows.Applied (r 1) (changes.Push (n 0) (e 1 1) (s 1) (codes "http://a.test/#x") None) ∷ [])
    ∷ []

pub traversal_answered_as_a_fragment_is_refused : IsLegal (log_of traversal_answered_as_a_fragment) → ⊥
unfolding url_on_literals is_web is_blank_url judged judged_parse read_against address_of url_of resolved with_fragment base_of fragment_of origin_text origin_of has_same_base is_rewritable events_of each_event after_opening AtEachEvent is_numbered opens is_formed is_once is_caused is_queued is_ordered is_checked ends_settled loads_end ends_told ends_stepped goes_in_time
traversal_answered_as_a_fragment_is_refused holds = false≢true holds.once
