-- Broken logs, each refused by the field `checked`.
-- A log is its events: those before one of another log, since one, or between two, and its own.
use Rattle.std.proofs.Common.{negsuc, true, false, List, [], ◌∷◌, ◌++◌, codes, Some, None}
use Rattle.std.proofs.lemmas.Bool.{false≢true}
use Rattle.url.proofs.OnLiterals.{url_on_literals}
use Rattle.address.specs.Addresses.{is_web, is_blank_url, judged, judged_parse, read_against, address_of, url_of, resolved, with_fragment, base_of, fragment_of, origin_text, origin_of, has_same_base, is_rewritable}
use Rattle.log_model.specs.declared.action.Action.TheVariants as actions
use Rattle.log_model.specs.declared.change.Change.TheVariants as changes
use Rattle.log_model.specs.declared.handler.LeaveCause.TheVariants as leavings
use Rattle.log_model.specs.declared.handler.Verdict.TheVariants as verdicts
use Rattle.log_model.specs.declared.job.Task.TheVariants as tasks
use Rattle.log_model.specs.declared.job.Why.TheVariants as whys
use Rattle.log_model.specs.declared.made.What.TheVariants as whats
use Rattle.log_model.specs.declared.outcome.Cause.TheVariants as drops
use Rattle.log_model.specs.declared.outcome.Denial.TheVariants as denials
use Rattle.log_model.specs.declared.outcome.Outcome.TheVariants as outcomes
use Rattle.log_model.specs.declared.request.Mode.TheVariants as modes
use Rattle.log_model.specs.declared.request.Request.TheVariants as requests
use Rattle.log_model.specs.declared.row_kind.RowKind.TheVariants as rows
use Rattle.log_model.specs.Events.{events_of, each_event, after_opening, AtEachEvent}
use Rattle.log_model.specs.Formed.{is_numbered}
use Rattle.log_model.specs.Legal.{IsLegal, opens, is_formed, is_once, is_caused, is_queued, is_ordered, is_checked, ends_settled}
use Rattle.log_model.specs.LoadsEndInTime.{loads_end}
use Rattle.log_model.specs.ActsAtOnce.{ends_told, ends_stepped, goes_in_time}
use Rattle.log_examples.specs.Rows.{n, s, r, p, t, d, j, e, epoch, sent, made}
use Rattle.log_examples.specs.Logs.{Event, by_start, by_ui, by_coord, by_proc, log_of, before, since}
use Rattle.log_examples.proofs.Prompts.{stay, leave, one_prompt_for_two, load_behind_a_prompt, question_settled_by_a_discard, load_behind_an_answer}
use Rattle.log_examples.proofs.Deaths.{questions_of_the_dead}

-- A document is frozen before the user has answered.
abbrev pub frozen_before_the_answer : List Event
frozen_before_the_answer =
    before 16 leave
    ++ by_coord (rows.Delivered (p 1)) (rows.Prompted (r 3) (d 2) ∷ sent 5 1 0 2 (whys.Req (r 3)) tasks.Freeze ∷ [])
    ∷ by_ui (rows.Answered (r 3) false) (sent 6 1 0 1 (whys.Req (r 3)) (tasks.Activate (e 0 1) (epoch 3) 2 0 None (codes "http://a.test/")) ∷ [])
    ∷ since 18 leave

pub frozen_before_the_answer_is_refused : IsLegal (log_of frozen_before_the_answer) → ⊥
unfolding url_on_literals is_web is_blank_url judged judged_parse read_against address_of url_of resolved with_fragment base_of fragment_of origin_text origin_of has_same_base is_rewritable events_of each_event after_opening AtEachEvent is_numbered opens is_formed is_once is_caused is_queued is_ordered is_checked ends_settled loads_end ends_told ends_stepped goes_in_time
frozen_before_the_answer_is_refused holds = false≢true holds.checked

-- A document wants a prompt, and the user is not asked.
abbrev pub prompt_left_out : List Event
prompt_left_out =
    before 16 leave
    ++ by_coord (rows.Delivered (p 1)) []
    ∷ since 17 leave

pub prompt_left_out_is_refused : IsLegal (log_of prompt_left_out) → ⊥
unfolding url_on_literals is_web is_blank_url judged judged_parse read_against address_of url_of resolved with_fragment base_of fragment_of origin_text origin_of has_same_base is_rewritable events_of each_event after_opening AtEachEvent is_numbered opens is_formed is_once is_caused is_queued is_ordered is_checked ends_settled loads_end ends_told ends_stepped goes_in_time
prompt_left_out_is_refused holds = false≢true holds.checked

-- The user is asked for another document than the lowest-numbered.
abbrev pub prompt_for_the_higher_number : List Event
prompt_for_the_higher_number =
    before 36 one_prompt_for_two
    ++ by_coord (rows.Delivered (p 1)) (rows.Prompted (r 4) (d 4) ∷ [])
    ∷ since 37 one_prompt_for_two

pub prompt_for_the_higher_number_is_refused : IsLegal (log_of prompt_for_the_higher_number) → ⊥
unfolding url_on_literals is_web is_blank_url judged judged_parse read_against address_of url_of resolved with_fragment base_of fragment_of origin_text origin_of has_same_base is_rewritable events_of each_event after_opening AtEachEvent is_numbered opens is_formed is_once is_caused is_queued is_ordered is_checked ends_settled loads_end ends_told ends_stepped goes_in_time
prompt_for_the_higher_number_is_refused holds = false≢true holds.checked

-- A document is made before the user has answered.
abbrev pub made_before_the_answer : List Event
made_before_the_answer =
    before 16 load_behind_an_answer
    ++ by_coord (rows.Delivered (p 1)) (rows.Prompted (r 3) (d 2) ∷ sent 5 1 0 3 (whys.Req (r 3)) (tasks.Populate (n 0) (s 3) (codes "http://a.test/2") false) ∷ [])
    ∷ by_ui (rows.Answered (r 3) false) []
    ∷ since 18 load_behind_an_answer

pub made_before_the_answer_is_refused : IsLegal (log_of made_before_the_answer) → ⊥
unfolding url_on_literals is_web is_blank_url judged judged_parse read_against address_of url_of resolved with_fragment base_of fragment_of origin_text origin_of has_same_base is_rewritable events_of each_event after_opening AtEachEvent is_numbered opens is_formed is_once is_caused is_queued is_ordered is_checked ends_settled loads_end ends_told ends_stepped goes_in_time
made_before_the_answer_is_refused holds = false≢true holds.checked

-- goes_on_with: by_task: were equation 1 false, `checked` would hold.
abbrev pub goes_on_with_1 : List Event
goes_on_with_1 =
    before 19 load_behind_a_prompt
    ++ by_coord (rows.Delivered (p 1)) (sent 6 1 0 4 (whys.Req (r 3)) (tasks.Populate (n 0) (s 1) (codes "http://a.test/") false) ∷ rows.Prompted (r 3) (d 2) ∷ [])
    ∷ []

pub goes_on_with_1_is_refused : IsLegal (log_of goes_on_with_1) → ⊥
unfolding url_on_literals is_web is_blank_url judged judged_parse read_against address_of url_of resolved with_fragment base_of fragment_of origin_text origin_of has_same_base is_rewritable events_of each_event after_opening AtEachEvent is_numbered opens is_formed is_once is_caused is_queued is_ordered is_checked ends_settled loads_end ends_told ends_stepped goes_in_time
goes_on_with_1_is_refused holds = false≢true holds.checked

-- goes_on_with: by_task: were equation 2 false, `checked` would hold.
abbrev pub goes_on_with_2 : List Event
goes_on_with_2 =
    before 16 stay
    ++ by_coord (rows.Delivered (p 1)) (sent 5 1 0 2 (whys.Req (r 3)) (tasks.Activate (e 0 2) (epoch 4) 2 0 None (codes "http://a.test/1")) ∷ rows.Prompted (r 3) (d 2) ∷ [])
    ∷ []

pub goes_on_with_2_is_refused : IsLegal (log_of goes_on_with_2) → ⊥
unfolding url_on_literals is_web is_blank_url judged judged_parse read_against address_of url_of resolved with_fragment base_of fragment_of origin_text origin_of has_same_base is_rewritable events_of each_event after_opening AtEachEvent is_numbered opens is_formed is_once is_caused is_queued is_ordered is_checked ends_settled loads_end ends_told ends_stepped goes_in_time
goes_on_with_2_is_refused holds = false≢true holds.checked

-- is_checked: without disjunct `is_reload q.what`, `checked` would hold.
abbrev pub is_checked_1 : List Event
is_checked_1 =
    before 19 questions_of_the_dead
    ++ by_ui (rows.Accepted (r 3) None (requests.Reload (n 3))) (rows.Started (r 3) None ∷ sent 5 1 0 3 (whys.Req (r 3)) (tasks.Ask 1 leavings.Reload) ∷ sent 5 1 0 2 (whys.Req (r 3)) (tasks.Activate (e 0 2) (epoch 3) 1 0 None (codes "about:blank")) ∷ [])
    ∷ []

pub is_checked_1_is_refused : IsLegal (log_of is_checked_1) → ⊥
unfolding url_on_literals is_web is_blank_url judged judged_parse read_against address_of url_of resolved with_fragment base_of fragment_of origin_text origin_of has_same_base is_rewritable events_of each_event after_opening AtEachEvent is_numbered opens is_formed is_once is_caused is_queued is_ordered is_checked ends_settled loads_end ends_told ends_stepped goes_in_time
is_checked_1_is_refused holds = false≢true holds.checked

-- is_of_run: by_kind: were equation 2 false, `checked` would hold.
abbrev pub is_of_run_1 : List Event
is_of_run_1 =
    by_start (rows.Opened (e 0 1) (s 1) (d 1) (p 1) None (codes "http://a.test/p0")) []
    ∷ by_ui (rows.Accepted (r 1) (Some (d 1)) (requests.Poke (n 0) (actions.AddFrame (n 1)))) []
    ∷ by_proc 1 (made 1 1 1 1 (whats.AddFrame (n 1))) []
    ∷ by_coord (rows.Delivered (p 1)) (rows.Applied (r 1) (changes.AddFrame (s 1) (n 1) (e 0 2) (s 2)) ∷ sent 1 1 0 2 (whys.Req (r 1)) (tasks.Populate (n 1) (s 2) (codes "about:blank") true) ∷ [])
    ∷ by_proc 1 (rows.Taken (p 1) (j 1) true false) []
    ∷ by_proc 1 (rows.Finished (p 1) (j 1) (outcomes.Populated (Some 1))) []
    ∷ by_coord (rows.Delivered (p 1)) (sent 2 1 0 2 (whys.Req (r 1)) (tasks.Activate (e 0 2) (epoch 1) 1 0 None (codes "about:blank")) ∷ [])
    ∷ by_proc 1 (rows.Taken (p 1) (j 2) true false) []
    ∷ by_proc 1 (rows.Finished (p 1) (j 2) outcomes.Activated) []
    ∷ by_coord (rows.Delivered (p 1)) []
    ∷ by_ui (rows.Accepted (r 2) None (requests.Load (n 1) modes.Auto (codes "http://c.test/p1"))) (rows.Started (r 2) None ∷ sent 3 1 0 2 (whys.Req (r 2)) (tasks.Ask 1 leavings.Load) ∷ [])
    ∷ by_proc 1 (rows.Taken (p 1) (j 3) true false) []
    ∷ by_proc 1 (rows.Finished (p 1) (j 3) (outcomes.Asked verdicts.Prompt)) []
    ∷ by_coord (rows.Delivered (p 1)) (rows.Prompted (r 2) (d 2) ∷ sent 4 1 0 2 whys.Evict tasks.Discard ∷ [])
    ∷ []

pub is_of_run_1_is_refused : IsLegal (log_of is_of_run_1) → ⊥
unfolding url_on_literals is_web is_blank_url judged judged_parse read_against address_of url_of resolved with_fragment base_of fragment_of origin_text origin_of has_same_base is_rewritable events_of each_event after_opening AtEachEvent is_numbered opens is_formed is_once is_caused is_queued is_ordered is_checked ends_settled loads_end ends_told ends_stepped goes_in_time
is_of_run_1_is_refused holds = false≢true holds.checked

-- is_prompted_after: without conjunct `prompts_are due q.nr (take_while (λ later . not (goes_on_with q.nr later)) p.later)`, `checked` would hold.
abbrev pub is_prompted_after_1 : List Event
is_prompted_after_1 =
    before 16 stay
    ++ by_coord (rows.Delivered (p 1)) (rows.Applied (r 3) (changes.RemoveFrame (n 0)) ∷ rows.Prompted (r 3) (d 2) ∷ [])
    ∷ []

pub is_prompted_after_1_is_refused : IsLegal (log_of is_prompted_after_1) → ⊥
unfolding url_on_literals is_web is_blank_url judged judged_parse read_against address_of url_of resolved with_fragment base_of fragment_of origin_text origin_of has_same_base is_rewritable events_of each_event after_opening AtEachEvent is_numbered opens is_formed is_once is_caused is_queued is_ordered is_checked ends_settled loads_end ends_told ends_stepped goes_in_time
is_prompted_after_1_is_refused holds = false≢true holds.checked

-- is_prompted_duly: without test `all_asked p.now`, `checked` would hold.
abbrev pub is_prompted_duly_1 : List Event
is_prompted_duly_1 =
    before 14 load_behind_an_answer
    ++ by_proc 1 (rows.Taken (p 1) (j 4) true true) (rows.Prompted (r 3) (d 2) ∷ [])
    ∷ []

pub is_prompted_duly_1_is_refused : IsLegal (log_of is_prompted_duly_1) → ⊥
unfolding url_on_literals is_web is_blank_url judged judged_parse read_against address_of url_of resolved with_fragment base_of fragment_of origin_text origin_of has_same_base is_rewritable events_of each_event after_opening AtEachEvent is_numbered opens is_formed is_once is_caused is_queued is_ordered is_checked ends_settled loads_end ends_told ends_stepped goes_in_time
is_prompted_duly_1_is_refused holds = false≢true holds.checked

-- is_prompted_duly: without test `not (all_asked p.start q)`, `checked` would hold.
abbrev pub is_prompted_duly_2 : List Event
is_prompted_duly_2 =
    by_start (rows.Opened (e 0 1) (s 1) (d 1) (p 1) None (codes "http://a.test/")) []
    ∷ by_ui (rows.Accepted (r 1) (Some (d 1)) (requests.Poke (n 0) (actions.Replace (Some (codes "m")) None))) []
    ∷ by_ui (rows.Accepted (r 2) (Some (d 1)) (requests.Poke (n 0) (actions.Fragment (codes "x")))) (rows.Prompted (r 1) (d 1) ∷ [])
    ∷ []

pub is_prompted_duly_2_is_refused : IsLegal (log_of is_prompted_duly_2) → ⊥
unfolding url_on_literals is_web is_blank_url judged judged_parse read_against address_of url_of resolved with_fragment base_of fragment_of origin_text origin_of has_same_base is_rewritable events_of each_event after_opening AtEachEvent is_numbered opens is_formed is_once is_caused is_queued is_ordered is_checked ends_settled loads_end ends_told ends_stepped goes_in_time
is_prompted_duly_2_is_refused holds = false≢true holds.checked

-- may_be_left: without test `implies (has_doc q.awake_then doc && is_some (shower_of p.start doc) && has_handler p.now doc) (was_asked q doc)`, `checked` would hold.
abbrev pub may_be_left_1 : List Event
may_be_left_1 =
    by_start (rows.Opened (e 0 1) (s 1) (d 1) (p 1) (Some 1) (codes "about:blank")) []
    ∷ by_ui (rows.Accepted (r 1) (Some (d 1)) (requests.Poke (n 0) (actions.AddFrame (n 1)))) []
    ∷ by_proc 1 (made 1 1 1 1 (whats.AddFrame (n 1))) []
    ∷ by_coord (rows.Delivered (p 1)) (rows.Applied (r 1) (changes.AddFrame (s 1) (n 1) (e 0 2) (s 2)) ∷ sent 1 1 0 2 (whys.Req (r 1)) (tasks.Populate (n 1) (s 2) (codes "about:blank") true) ∷ [])
    ∷ by_proc 1 (rows.Taken (p 1) (j 1) true false) []
    ∷ by_proc 1 (rows.Finished (p 1) (j 1) (outcomes.Populated (Some 1))) []
    ∷ by_coord (rows.Delivered (p 1)) (sent 2 1 0 2 (whys.Req (r 1)) (tasks.Activate (e 0 2) (epoch 1) 1 0 None (codes "about:blank")) ∷ [])
    ∷ by_proc 1 (rows.Taken (p 1) (j 2) true false) []
    ∷ by_proc 1 (rows.Finished (p 1) (j 2) outcomes.Activated) []
    ∷ by_coord (rows.Delivered (p 1)) (rows.Started (r 1) (Some (t 0)) ∷ sent 3 1 0 2 (whys.Req (r 2)) (tasks.Update 1 0) ∷ sent 3 1 0 2 (whys.Req (r 1)) tasks.Discard ∷ [])
    ∷ []

pub may_be_left_1_is_refused : IsLegal (log_of may_be_left_1) → ⊥
unfolding url_on_literals is_web is_blank_url judged judged_parse read_against address_of url_of resolved with_fragment base_of fragment_of origin_text origin_of has_same_base is_rewritable events_of each_event after_opening AtEachEvent is_numbered opens is_formed is_once is_caused is_queued is_ordered is_checked ends_settled loads_end ends_told ends_stepped goes_in_time
may_be_left_1_is_refused holds = false≢true holds.checked

-- was_asked: without test `asking.doc.0 == doc.0`, `checked` would hold.
abbrev pub was_asked_1 : List Event
was_asked_1 =
    by_start (rows.Opened (e 0 1) (s 1) (d 1) (p 1) (Some 1) (codes "http://a.test/p0")) []
    ∷ by_ui (rows.Accepted (r 1) (Some (d 1)) (requests.Poke (n 0) (actions.AddFrame (n 1)))) []
    ∷ by_proc 1 (made 1 1 1 1 (whats.AddFrame (n 1))) []
    ∷ by_coord (rows.Delivered (p 1)) (rows.Applied (r 1) (changes.AddFrame (s 1) (n 1) (e 0 2) (s 2)) ∷ sent 1 1 0 2 (whys.Req (r 1)) (tasks.Populate (n 1) (s 2) (codes "about:blank") true) ∷ [])
    ∷ by_proc 1 (rows.Taken (p 1) (j 1) true false) []
    ∷ by_proc 1 (rows.Finished (p 1) (j 1) (outcomes.Populated (Some 1))) []
    ∷ by_coord (rows.Delivered (p 1)) (sent 2 1 0 2 (whys.Req (r 1)) (tasks.Activate (e 0 2) (epoch 1) 1 0 None (codes "about:blank")) ∷ [])
    ∷ by_proc 1 (rows.Taken (p 1) (j 2) true false) []
    ∷ by_proc 1 (rows.Finished (p 1) (j 2) outcomes.Activated) []
    ∷ by_coord (rows.Delivered (p 1)) []
    ∷ by_ui (rows.Accepted (r 2) None (requests.Load (n 1) modes.Auto (codes "http://a.test/p0"))) (rows.Started (r 2) None ∷ sent 3 1 0 2 (whys.Req (r 2)) (tasks.Ask 1 leavings.Load) ∷ [])
    ∷ by_proc 1 (rows.Taken (p 1) (j 3) true false) []
    ∷ by_proc 1 (rows.Finished (p 1) (j 3) (outcomes.Asked verdicts.Prompt)) []
    ∷ by_coord (rows.Delivered (p 1)) (rows.Prompted (r 2) (d 2) ∷ [])
    ∷ by_ui (rows.Answered (r 2) false) (sent 4 1 0 3 (whys.Req (r 2)) (tasks.Populate (n 1) (s 3) (codes "http://a.test/p0") false) ∷ [])
    ∷ by_ui (rows.Accepted (r 3) None (requests.Load (n 1) modes.Auto (codes "http://a.test/1"))) (sent 5 1 1 3 whys.Evict (tasks.Activate (e 0 2) (epoch 2) 1 0 None (codes "about:blank")) ∷ sent 5 1 0 1 (whys.Req (r 2)) tasks.Freeze ∷ [])
    ∷ []

pub was_asked_1_is_refused : IsLegal (log_of was_asked_1) → ⊥
unfolding url_on_literals is_web is_blank_url judged judged_parse read_against address_of url_of resolved with_fragment base_of fragment_of origin_text origin_of has_same_base is_rewritable events_of each_event after_opening AtEachEvent is_numbered opens is_formed is_once is_caused is_queued is_ordered is_checked ends_settled loads_end ends_told ends_stepped goes_in_time
was_asked_1_is_refused holds = false≢true holds.checked

-- is_settled_asking: without disjunct `gone asking.doc`, `checked` would hold.
abbrev pub is_settled_asking_1 : List Event
is_settled_asking_1 =
    before 39 question_settled_by_a_discard
    ++ by_coord (rows.Delivered (p 1)) (rows.Applied (r 5) (changes.RemoveFrame (n 1)) ∷ sent 11 1 0 2 (whys.Req (r 5)) tasks.Discard ∷ sent 11 2 0 4 whys.Evict tasks.Freeze ∷ sent 12 2 0 4 (whys.Req (r 5)) tasks.Discard ∷ rows.Dropped (r 4) (drops.Destroyed (r 5)) ∷ [])
    ∷ []

pub is_settled_asking_1_is_refused : IsLegal (log_of is_settled_asking_1) → ⊥
unfolding url_on_literals is_web is_blank_url judged judged_parse read_against address_of url_of resolved with_fragment base_of fragment_of origin_text origin_of has_same_base is_rewritable events_of each_event after_opening AtEachEvent is_numbered opens is_formed is_once is_caused is_queued is_ordered is_checked ends_settled loads_end ends_told ends_stepped goes_in_time
is_settled_asking_1_is_refused holds = false≢true holds.checked

-- may_leave: without test `not`, `checked` would hold.
abbrev pub may_leave_1 : List Event
may_leave_1 =
    stay
    ++ by_ui (rows.Answered (r 2) false) (rows.Applied (r 3) (changes.Traverse (t 3)) ∷ [])
    ∷ []

pub may_leave_1_is_refused : IsLegal (log_of may_leave_1) → ⊥
unfolding url_on_literals is_web is_blank_url judged judged_parse read_against address_of url_of resolved with_fragment base_of fragment_of origin_text origin_of has_same_base is_rewritable events_of each_event after_opening AtEachEvent is_numbered opens is_formed is_once is_caused is_queued is_ordered is_checked ends_settled loads_end ends_told ends_stepped goes_in_time
may_leave_1_is_refused holds = false≢true holds.checked

-- is_of_run: by_kind: were equation 3 true, `checked` would hold.
abbrev pub is_of_run_2 : List Event
is_of_run_2 =
    before 16 stay
    ++ by_coord (rows.Delivered (p 1)) (rows.Refused (r 1) denials.BadAddress ∷ sent 5 1 0 2 (whys.Req (r 1)) tasks.Discard ∷ [])
    ∷ []

pub is_of_run_2_is_refused : IsLegal (log_of is_of_run_2) → ⊥
unfolding url_on_literals is_web is_blank_url judged judged_parse read_against address_of url_of resolved with_fragment base_of fragment_of origin_text origin_of has_same_base is_rewritable events_of each_event after_opening AtEachEvent is_numbered opens is_formed is_once is_caused is_queued is_ordered is_checked ends_settled loads_end ends_told ends_stepped goes_in_time
is_of_run_2_is_refused holds = false≢true holds.checked

-- A load is refused, and then the report comes that its document wants a prompt. due_prompt: without test `is_drop`, `checked` would hold.
abbrev pub refused_before_the_wish_is_told : List Event
refused_before_the_wish_is_told =
    by_start (rows.Opened (e 0 1) (s 1) (d 1) (p 1) (Some 1) (codes "http://a.test/")) []
    ∷ by_ui (rows.Accepted (r 1) None (requests.Load (n 0) modes.Auto (codes "http://a.test/1"))) (rows.Started (r 1) None ∷ sent 1 1 0 1 (whys.Req (r 1)) (tasks.Ask 1 leavings.Load) ∷ [])
    ∷ by_proc 1 (rows.Taken (p 1) (j 1) true false) []
    ∷ by_proc 1 (rows.Finished (p 1) (j 1) (outcomes.Asked verdicts.Prompt)) []
    ∷ by_ui (rows.Accepted (r 2) None (requests.Go (negsuc 0))) (rows.Refused (r 1) denials.NoStep ∷ [])
    ∷ by_coord (rows.Delivered (p 1)) []
    ∷ []

pub refused_before_the_wish_is_told_is_refused : IsLegal (log_of refused_before_the_wish_is_told) → ⊥
unfolding url_on_literals is_web is_blank_url judged judged_parse read_against address_of url_of resolved with_fragment base_of fragment_of origin_text origin_of has_same_base is_rewritable events_of each_event after_opening AtEachEvent is_numbered opens is_formed is_once is_caused is_queued is_ordered is_checked ends_settled loads_end ends_told ends_stepped goes_in_time
refused_before_the_wish_is_told_is_refused holds = false≢true holds.checked

-- A document that wants a prompt is frozen, and then the user is asked. goes_on_with: by_task: were equation 3 false, `checked` would hold.
abbrev pub frozen_before_the_prompt : List Event
frozen_before_the_prompt =
    by_start (rows.Opened (e 0 1) (s 1) (d 1) (p 1) (Some 1) (codes "http://a.test/")) []
    ∷ by_ui (rows.Accepted (r 1) None (requests.Load (n 0) modes.Auto (codes "http://a.test/1"))) (rows.Started (r 1) None ∷ sent 1 1 0 1 (whys.Req (r 1)) (tasks.Ask 1 leavings.Load) ∷ [])
    ∷ by_proc 1 (rows.Taken (p 1) (j 1) true false) []
    ∷ by_proc 1 (rows.Finished (p 1) (j 1) (outcomes.Asked verdicts.Prompt)) []
    ∷ by_coord (rows.Delivered (p 1)) (sent 2 1 0 1 (whys.Req (r 1)) tasks.Freeze ∷ rows.Prompted (r 1) (d 1) ∷ [])
    ∷ []

pub frozen_before_the_prompt_is_refused : IsLegal (log_of frozen_before_the_prompt) → ⊥
unfolding url_on_literals is_web is_blank_url judged judged_parse read_against address_of url_of resolved with_fragment base_of fragment_of origin_text origin_of has_same_base is_rewritable events_of each_event after_opening AtEachEvent is_numbered opens is_formed is_once is_caused is_queued is_ordered is_checked ends_settled loads_end ends_told ends_stepped goes_in_time
frozen_before_the_prompt_is_refused holds = false≢true holds.checked

-- A load goes on, and then the user is asked for a document that wants no prompt. is_prompted_after: without conjunct `prompts_are due q.nr p.later`, `checked` would hold.
abbrev pub prompt_for_none_that_wants_it : List Event
prompt_for_none_that_wants_it =
    by_start (rows.Opened (e 0 1) (s 1) (d 1) (p 1) (Some 0) (codes "http://a.test/")) []
    ∷ by_ui (rows.Accepted (r 1) None (requests.Load (n 0) modes.Auto (codes "http://a.test/1"))) (rows.Started (r 1) None ∷ sent 1 1 0 1 (whys.Req (r 1)) (tasks.Ask 0 leavings.Load) ∷ [])
    ∷ by_proc 1 (rows.Taken (p 1) (j 1) true false) []
    ∷ by_proc 1 (rows.Finished (p 1) (j 1) (outcomes.Asked verdicts.Leave)) []
    ∷ by_coord (rows.Delivered (p 1)) (sent 2 1 0 2 (whys.Req (r 1)) (tasks.Populate (n 0) (s 2) (codes "http://a.test/1") false) ∷ rows.Prompted (r 1) (d 1) ∷ [])
    ∷ []

pub prompt_for_none_that_wants_it_is_refused : IsLegal (log_of prompt_for_none_that_wants_it) → ⊥
unfolding url_on_literals is_web is_blank_url judged judged_parse read_against address_of url_of resolved with_fragment base_of fragment_of origin_text origin_of has_same_base is_rewritable events_of each_event after_opening AtEachEvent is_numbered opens is_formed is_once is_caused is_queued is_ordered is_checked ends_settled loads_end ends_told ends_stepped goes_in_time
prompt_for_none_that_wants_it_is_refused holds = false≢true holds.checked
