-- Legal logs that each tell one sentence of a definition.
-- A log is its events: those before one of another log, since one, or between two, and its own.
use Rattle.std.proofs.Common.{negsuc, true, false, List, [], ◌∷◌, ◌++◌, codes, refl, Some, None}
use Rattle.url.proofs.OnLiterals.{url_on_literals}
use Rattle.address.specs.Addresses.{is_web, is_blank_url, judged, judged_parse, read_against, address_of, url_of, resolved, with_fragment, base_of, fragment_of, origin_text, origin_of, has_same_base, is_rewritable}
use Rattle.log_model.specs.declared.action.Action.TheVariants as actions
use Rattle.log_model.specs.declared.change.Change.TheVariants as changes
use Rattle.log_model.specs.declared.job.Task.TheVariants as tasks
use Rattle.log_model.specs.declared.job.Why.TheVariants as whys
use Rattle.log_model.specs.declared.made.What.TheVariants as whats
use Rattle.log_model.specs.declared.outcome.Cause.TheVariants as drops
use Rattle.log_model.specs.declared.outcome.Denial.TheVariants as denials
use Rattle.log_model.specs.declared.outcome.Outcome.TheVariants as outcomes
use Rattle.log_model.specs.declared.request.Mode.TheVariants as modes
use Rattle.log_model.specs.declared.request.Request.TheVariants as requests
use Rattle.log_model.specs.declared.row_kind.RowKind.TheVariants as rows
use Rattle.log_model.specs.Events.{events_of, each_event, after_opening, AtEachEvent}
use Rattle.log_model.specs.Formed.{is_numbered}
use Rattle.log_model.specs.Legal.{IsLegal, opens, is_formed, is_once, is_caused, is_queued, is_ordered, is_checked, ends_settled}
use Rattle.log_model.specs.LoadsEndInTime.{LoadsEndInTime, loads_end}
use Rattle.log_model.specs.ActsAtOnce.{ActsAtOnce, ends_told, ends_stepped, goes_in_time}
use Rattle.log_model.specs.Suits.{Suits}
use Rattle.log_model.specs.declared.header.Header.{Header}
use Rattle.log_examples.specs.Rows.{n, s, r, p, d, j, e, epoch, sent, made}
use Rattle.log_examples.specs.Logs.{Event, by_start, by_ui, by_coord, by_proc, log_of, before, plain_settings}
use Rattle.log_examples.proofs.Pushes.{replace_and_fragment, push_after_a_death}
use Rattle.log_examples.proofs.Removals.{push_of_a_removed_frame}
use Rattle.log_examples.proofs.Reloads.{reload_of_a_hidden_frame}

-- follows_finished: without conjunct `s.events == (row.event + 1)`, it would be refused.
abbrev pub follows_finished_1 : List Event
follows_finished_1 =
    by_start (rows.Opened (e 0 1) (s 1) (d 1) (p 1) None (codes "http://a.test/")) []
    ∷ by_ui (rows.Accepted (r 1) None (requests.Reload (n 0))) (rows.Started (r 1) None ∷ rows.Applied (r 1) (changes.Reload (n 0)) ∷ sent 1 1 0 2 (whys.Req (r 1)) (tasks.Populate (n 0) (s 1) (codes "http://a.test/") false) ∷ [])
    ∷ by_proc 1 (rows.Taken (p 1) (j 1) true false) []
    ∷ by_ui (rows.Accepted (r 2) (Some (d 1)) (requests.Poke (n 0) (actions.Fragment (codes "x0")))) []
    ∷ by_proc 1 (rows.Finished (p 1) (j 1) (outcomes.Populated None)) []
    ∷ by_proc 1 (made 1 2 1 1 (whats.Push (e 1 1) None (codes "http://a.test/#x0"))) []
    ∷ []

pub follows_finished_1_is_legal : IsLegal (log_of follows_finished_1)
unfolding url_on_literals is_web is_blank_url judged judged_parse read_against address_of url_of resolved with_fragment base_of fragment_of origin_text origin_of has_same_base is_rewritable events_of each_event after_opening AtEachEvent is_numbered opens is_formed is_once is_caused is_queued is_ordered is_checked ends_settled loads_end ends_told ends_stepped goes_in_time
follows_finished_1_is_legal = record { opened = refl; numbered = refl; formed = refl; once = refl; caused = refl; queued = refl; ordered = refl; checked = refl; settled = refl }

pub follows_finished_1_ends_loads : LoadsEndInTime (log_of follows_finished_1)
unfolding url_on_literals is_web is_blank_url judged judged_parse read_against address_of url_of resolved with_fragment base_of fragment_of origin_text origin_of has_same_base is_rewritable events_of each_event after_opening AtEachEvent is_numbered opens is_formed is_once is_caused is_queued is_ordered is_checked ends_settled loads_end ends_told ends_stepped goes_in_time
follows_finished_1_ends_loads = refl

pub follows_finished_1_acts_at_once : ActsAtOnce (log_of follows_finished_1)
unfolding url_on_literals is_web is_blank_url judged judged_parse read_against address_of url_of resolved with_fragment base_of fragment_of origin_text origin_of has_same_base is_rewritable events_of each_event after_opening AtEachEvent is_numbered opens is_formed is_once is_caused is_queued is_ordered is_checked ends_settled loads_end ends_told ends_stepped goes_in_time
follows_finished_1_acts_at_once = record { told = refl; stepped = refl; in_time = refl }

pub follows_finished_1_suits : Suits plain_settings (log_of follows_finished_1)
unfolding url_on_literals is_web is_blank_url judged judged_parse read_against address_of url_of resolved with_fragment base_of fragment_of origin_text origin_of has_same_base is_rewritable events_of each_event after_opening AtEachEvent is_numbered opens is_formed is_once is_caused is_queued is_ordered is_checked ends_settled loads_end ends_told ends_stepped goes_in_time
follows_finished_1_suits = record { opened = refl; placed = refl; kept = refl }

-- denial_of_poke: were `not (has_row nav s.history.rows)` never so, it would be refused.
abbrev pub denial_of_poke_1 : List Event
denial_of_poke_1 =
    by_start (rows.Opened (e 0 1) (s 1) (d 1) (p 1) None (codes "http://a.test/")) []
    ∷ by_ui (rows.Accepted (r 1) None (requests.Poke (n 1) (actions.Go (negsuc 0)))) (rows.Refused (r 1) denials.NoNavigable ∷ [])
    ∷ []

pub denial_of_poke_1_is_legal : IsLegal (log_of denial_of_poke_1)
unfolding url_on_literals is_web is_blank_url judged judged_parse read_against address_of url_of resolved with_fragment base_of fragment_of origin_text origin_of has_same_base is_rewritable events_of each_event after_opening AtEachEvent is_numbered opens is_formed is_once is_caused is_queued is_ordered is_checked ends_settled loads_end ends_told ends_stepped goes_in_time
denial_of_poke_1_is_legal = record { opened = refl; numbered = refl; formed = refl; once = refl; caused = refl; queued = refl; ordered = refl; checked = refl; settled = refl }

pub denial_of_poke_1_ends_loads : LoadsEndInTime (log_of denial_of_poke_1)
unfolding url_on_literals is_web is_blank_url judged judged_parse read_against address_of url_of resolved with_fragment base_of fragment_of origin_text origin_of has_same_base is_rewritable events_of each_event after_opening AtEachEvent is_numbered opens is_formed is_once is_caused is_queued is_ordered is_checked ends_settled loads_end ends_told ends_stepped goes_in_time
denial_of_poke_1_ends_loads = refl

pub denial_of_poke_1_acts_at_once : ActsAtOnce (log_of denial_of_poke_1)
unfolding url_on_literals is_web is_blank_url judged judged_parse read_against address_of url_of resolved with_fragment base_of fragment_of origin_text origin_of has_same_base is_rewritable events_of each_event after_opening AtEachEvent is_numbered opens is_formed is_once is_caused is_queued is_ordered is_checked ends_settled loads_end ends_told ends_stepped goes_in_time
denial_of_poke_1_acts_at_once = record { told = refl; stepped = refl; in_time = refl }

pub denial_of_poke_1_suits : Suits plain_settings (log_of denial_of_poke_1)
unfolding url_on_literals is_web is_blank_url judged judged_parse read_against address_of url_of resolved with_fragment base_of fragment_of origin_text origin_of has_same_base is_rewritable events_of each_event after_opening AtEachEvent is_numbered opens is_formed is_once is_caused is_queued is_ordered is_checked ends_settled loads_end ends_told ends_stepped goes_in_time
denial_of_poke_1_suits = record { opened = refl; placed = refl; kept = refl }

-- has_moved_away: without disjunct `changed_one_of r (way_to s nav)`, it would be refused.
abbrev pub has_moved_away_1 : List Event
has_moved_away_1 =
    by_start (rows.Opened (e 0 1) (s 1) (d 1) (p 1) None (codes "http://a.test/")) []
    ∷ by_ui (rows.Accepted (r 1) None (requests.Reload (n 0))) (rows.Started (r 1) None ∷ rows.Applied (r 1) (changes.Reload (n 0)) ∷ sent 1 1 0 2 (whys.Req (r 1)) (tasks.Populate (n 0) (s 1) (codes "http://a.test/") false) ∷ [])
    ∷ by_proc 1 (rows.Taken (p 1) (j 1) true false) []
    ∷ by_ui (rows.Accepted (r 2) (Some (d 1)) (requests.Poke (n 0) (actions.Fragment (codes "x0")))) []
    ∷ by_proc 1 (rows.Finished (p 1) (j 1) (outcomes.Populated None)) []
    ∷ by_proc 1 (made 1 2 1 1 (whats.Push (e 1 1) None (codes "http://a.test/#x0"))) []
    ∷ by_coord (rows.Delivered (p 1)) (sent 2 1 0 1 (whys.Req (r 1)) tasks.Discard ∷ sent 3 1 0 2 (whys.Req (r 1)) (tasks.Activate (e 0 1) (epoch 2) 1 0 None (codes "http://a.test/")) ∷ rows.Dropped (r 2) (drops.By (r 1)) ∷ [])
    ∷ []

pub has_moved_away_1_is_legal : IsLegal (log_of has_moved_away_1)
unfolding url_on_literals is_web is_blank_url judged judged_parse read_against address_of url_of resolved with_fragment base_of fragment_of origin_text origin_of has_same_base is_rewritable events_of each_event after_opening AtEachEvent is_numbered opens is_formed is_once is_caused is_queued is_ordered is_checked ends_settled loads_end ends_told ends_stepped goes_in_time
has_moved_away_1_is_legal = record { opened = refl; numbered = refl; formed = refl; once = refl; caused = refl; queued = refl; ordered = refl; checked = refl; settled = refl }

pub has_moved_away_1_ends_loads : LoadsEndInTime (log_of has_moved_away_1)
unfolding url_on_literals is_web is_blank_url judged judged_parse read_against address_of url_of resolved with_fragment base_of fragment_of origin_text origin_of has_same_base is_rewritable events_of each_event after_opening AtEachEvent is_numbered opens is_formed is_once is_caused is_queued is_ordered is_checked ends_settled loads_end ends_told ends_stepped goes_in_time
has_moved_away_1_ends_loads = refl

pub has_moved_away_1_acts_at_once : ActsAtOnce (log_of has_moved_away_1)
unfolding url_on_literals is_web is_blank_url judged judged_parse read_against address_of url_of resolved with_fragment base_of fragment_of origin_text origin_of has_same_base is_rewritable events_of each_event after_opening AtEachEvent is_numbered opens is_formed is_once is_caused is_queued is_ordered is_checked ends_settled loads_end ends_told ends_stepped goes_in_time
has_moved_away_1_acts_at_once = record { told = refl; stepped = refl; in_time = refl }

pub has_moved_away_1_suits : Suits plain_settings (log_of has_moved_away_1)
unfolding url_on_literals is_web is_blank_url judged judged_parse read_against address_of url_of resolved with_fragment base_of fragment_of origin_text origin_of has_same_base is_rewritable events_of each_event after_opening AtEachEvent is_numbered opens is_formed is_once is_caused is_queued is_ordered is_checked ends_settled loads_end ends_told ends_stepped goes_in_time
has_moved_away_1_suits = record { opened = refl; placed = refl; kept = refl }

-- same_mode: were equation 2 false, it would be refused.
abbrev pub same_mode_1 : List Event
same_mode_1 =
    before 5 replace_and_fragment
    ++ by_ui (rows.Accepted (r 3) None (requests.Load (n 0) modes.Push (codes "http://a.test/#x"))) (sent 1 1 0 1 (whys.Req (r 3)) (tasks.DoFragment (r 3) modes.Push (codes "http://a.test/#x")) ∷ [])
    ∷ []

pub same_mode_1_is_legal : IsLegal (log_of same_mode_1)
unfolding url_on_literals is_web is_blank_url judged judged_parse read_against address_of url_of resolved with_fragment base_of fragment_of origin_text origin_of has_same_base is_rewritable events_of each_event after_opening AtEachEvent is_numbered opens is_formed is_once is_caused is_queued is_ordered is_checked ends_settled loads_end ends_told ends_stepped goes_in_time
same_mode_1_is_legal = record { opened = refl; numbered = refl; formed = refl; once = refl; caused = refl; queued = refl; ordered = refl; checked = refl; settled = refl }

pub same_mode_1_ends_loads : LoadsEndInTime (log_of same_mode_1)
unfolding url_on_literals is_web is_blank_url judged judged_parse read_against address_of url_of resolved with_fragment base_of fragment_of origin_text origin_of has_same_base is_rewritable events_of each_event after_opening AtEachEvent is_numbered opens is_formed is_once is_caused is_queued is_ordered is_checked ends_settled loads_end ends_told ends_stepped goes_in_time
same_mode_1_ends_loads = refl

pub same_mode_1_acts_at_once : ActsAtOnce (log_of same_mode_1)
unfolding url_on_literals is_web is_blank_url judged judged_parse read_against address_of url_of resolved with_fragment base_of fragment_of origin_text origin_of has_same_base is_rewritable events_of each_event after_opening AtEachEvent is_numbered opens is_formed is_once is_caused is_queued is_ordered is_checked ends_settled loads_end ends_told ends_stepped goes_in_time
same_mode_1_acts_at_once = record { told = refl; stepped = refl; in_time = refl }

pub same_mode_1_suits : Suits plain_settings (log_of same_mode_1)
unfolding url_on_literals is_web is_blank_url judged judged_parse read_against address_of url_of resolved with_fragment base_of fragment_of origin_text origin_of has_same_base is_rewritable events_of each_event after_opening AtEachEvent is_numbered opens is_formed is_once is_caused is_queued is_ordered is_checked ends_settled loads_end ends_told ends_stepped goes_in_time
same_mode_1_suits = record { opened = refl; placed = refl; kept = refl }

-- same_mode: were equation 3 false, it would be refused.
abbrev pub same_mode_2 : List Event
same_mode_2 =
    by_start (rows.Opened (e 0 1) (s 1) (d 1) (p 1) None (codes "http://a.test/")) []
    ∷ by_ui (rows.Accepted (r 1) None (requests.Load (n 0) modes.Replace (codes "http://a.test/#x"))) (sent 1 1 0 1 (whys.Req (r 1)) (tasks.DoFragment (r 1) modes.Replace (codes "http://a.test/#x")) ∷ [])
    ∷ []

pub same_mode_2_is_legal : IsLegal (log_of same_mode_2)
unfolding url_on_literals is_web is_blank_url judged judged_parse read_against address_of url_of resolved with_fragment base_of fragment_of origin_text origin_of has_same_base is_rewritable events_of each_event after_opening AtEachEvent is_numbered opens is_formed is_once is_caused is_queued is_ordered is_checked ends_settled loads_end ends_told ends_stepped goes_in_time
same_mode_2_is_legal = record { opened = refl; numbered = refl; formed = refl; once = refl; caused = refl; queued = refl; ordered = refl; checked = refl; settled = refl }

pub same_mode_2_ends_loads : LoadsEndInTime (log_of same_mode_2)
unfolding url_on_literals is_web is_blank_url judged judged_parse read_against address_of url_of resolved with_fragment base_of fragment_of origin_text origin_of has_same_base is_rewritable events_of each_event after_opening AtEachEvent is_numbered opens is_formed is_once is_caused is_queued is_ordered is_checked ends_settled loads_end ends_told ends_stepped goes_in_time
same_mode_2_ends_loads = refl

pub same_mode_2_acts_at_once : ActsAtOnce (log_of same_mode_2)
unfolding url_on_literals is_web is_blank_url judged judged_parse read_against address_of url_of resolved with_fragment base_of fragment_of origin_text origin_of has_same_base is_rewritable events_of each_event after_opening AtEachEvent is_numbered opens is_formed is_once is_caused is_queued is_ordered is_checked ends_settled loads_end ends_told ends_stepped goes_in_time
same_mode_2_acts_at_once = record { told = refl; stepped = refl; in_time = refl }

pub same_mode_2_suits : Suits plain_settings (log_of same_mode_2)
unfolding url_on_literals is_web is_blank_url judged judged_parse read_against address_of url_of resolved with_fragment base_of fragment_of origin_text origin_of has_same_base is_rewritable events_of each_event after_opening AtEachEvent is_numbered opens is_formed is_once is_caused is_queued is_ordered is_checked ends_settled loads_end ends_told ends_stepped goes_in_time
same_mode_2_suits = record { opened = refl; placed = refl; kept = refl }

-- replaced_row: were step of `record new { owner = row.owner; step = row.step }` not changed, it would be refused.
abbrev pub replaced_row_1 : List Event
replaced_row_1 =
    by_start (rows.Opened (e 0 1) (s 1) (d 1) (p 1) None (codes "http://a.test/")) []
    ∷ by_ui (rows.Accepted (r 1) (Some (d 1)) (requests.Poke (n 0) (actions.Push (Some (codes "s")) None))) []
    ∷ by_proc 1 (made 1 1 1 1 (whats.Push (e 1 1) (Some (codes "s")) (codes "http://a.test/"))) []
    ∷ by_coord (rows.Delivered (p 1)) (rows.Applied (r 1) (changes.Push (n 0) (e 1 1) (s 1) (codes "http://a.test/") (Some (codes "s"))) ∷ sent 1 1 0 1 (whys.Req (r 1)) (tasks.Update 2 1) ∷ [])
    ∷ by_proc 1 (rows.Taken (p 1) (j 1) true false) []
    ∷ by_proc 1 (rows.Finished (p 1) (j 1) outcomes.Updated) []
    ∷ by_coord (rows.Delivered (p 1)) []
    ∷ by_ui (rows.Accepted (r 2) (Some (d 1)) (requests.Poke (n 0) (actions.Fragment (codes "x0")))) []
    ∷ by_proc 1 (made 1 2 1 1 (whats.Push (e 1 2) None (codes "http://a.test/#x0"))) []
    ∷ by_coord (rows.Delivered (p 1)) (rows.Applied (r 2) (changes.Push (n 0) (e 1 2) (s 1) (codes "http://a.test/#x0") None) ∷ sent 2 1 0 1 (whys.Req (r 2)) (tasks.Update 3 2) ∷ [])
    ∷ by_proc 1 (rows.Taken (p 1) (j 2) true false) []
    ∷ by_proc 1 (rows.Finished (p 1) (j 2) outcomes.Updated) []
    ∷ by_coord (rows.Delivered (p 1)) []
    ∷ by_ui (rows.Accepted (r 3) (Some (d 1)) (requests.Poke (n 0) (actions.Fragment (codes "x0")))) []
    ∷ by_proc 1 (made 1 3 1 1 (whats.Replace (e 1 2) (e 1 3) None (codes "http://a.test/#x0"))) []
    ∷ by_coord (rows.Delivered (p 1)) (rows.Applied (r 3) (changes.Replace (n 0) (e 1 2) (e 1 3) (s 1) (codes "http://a.test/#x0") None) ∷ [])
    ∷ []

pub replaced_row_1_is_legal : IsLegal (log_of replaced_row_1)
unfolding url_on_literals is_web is_blank_url judged judged_parse read_against address_of url_of resolved with_fragment base_of fragment_of origin_text origin_of has_same_base is_rewritable events_of each_event after_opening AtEachEvent is_numbered opens is_formed is_once is_caused is_queued is_ordered is_checked ends_settled loads_end ends_told ends_stepped goes_in_time
replaced_row_1_is_legal = record { opened = refl; numbered = refl; formed = refl; once = refl; caused = refl; queued = refl; ordered = refl; checked = refl; settled = refl }

pub replaced_row_1_ends_loads : LoadsEndInTime (log_of replaced_row_1)
unfolding url_on_literals is_web is_blank_url judged judged_parse read_against address_of url_of resolved with_fragment base_of fragment_of origin_text origin_of has_same_base is_rewritable events_of each_event after_opening AtEachEvent is_numbered opens is_formed is_once is_caused is_queued is_ordered is_checked ends_settled loads_end ends_told ends_stepped goes_in_time
replaced_row_1_ends_loads = refl

pub replaced_row_1_acts_at_once : ActsAtOnce (log_of replaced_row_1)
unfolding url_on_literals is_web is_blank_url judged judged_parse read_against address_of url_of resolved with_fragment base_of fragment_of origin_text origin_of has_same_base is_rewritable events_of each_event after_opening AtEachEvent is_numbered opens is_formed is_once is_caused is_queued is_ordered is_checked ends_settled loads_end ends_told ends_stepped goes_in_time
replaced_row_1_acts_at_once = record { told = refl; stepped = refl; in_time = refl }

pub replaced_row_1_suits : Suits plain_settings (log_of replaced_row_1)
unfolding url_on_literals is_web is_blank_url judged judged_parse read_against address_of url_of resolved with_fragment base_of fragment_of origin_text origin_of has_same_base is_rewritable events_of each_event after_opening AtEachEvent is_numbered opens is_formed is_once is_caused is_queued is_ordered is_checked ends_settled loads_end ends_told ends_stepped goes_in_time
replaced_row_1_suits = record { opened = refl; placed = refl; kept = refl }

-- has_no_earlier_load_below: without test `is_below nav`, it would be in time.
abbrev pub has_no_earlier_load_below_1 : List Event
has_no_earlier_load_below_1 =
    by_start (rows.Opened (e 0 1) (s 1) (d 1) (p 1) None (codes "http://a.test/p0")) []
    ∷ by_ui (rows.Accepted (r 1) (Some (d 1)) (requests.Poke (n 0) (actions.AddFrame (n 1)))) []
    ∷ by_proc 1 (made 1 1 1 1 (whats.AddFrame (n 1))) []
    ∷ by_coord (rows.Delivered (p 1)) (rows.Applied (r 1) (changes.AddFrame (s 1) (n 1) (e 0 2) (s 2)) ∷ sent 1 1 0 2 (whys.Req (r 1)) (tasks.Populate (n 1) (s 2) (codes "about:blank") true) ∷ [])
    ∷ by_proc 1 (rows.Taken (p 1) (j 1) true false) []
    ∷ by_proc 1 (rows.Finished (p 1) (j 1) (outcomes.Populated None)) []
    ∷ by_coord (rows.Delivered (p 1)) (sent 2 1 0 2 (whys.Req (r 1)) (tasks.Activate (e 0 2) (epoch 1) 1 0 None (codes "about:blank")) ∷ [])
    ∷ by_proc 1 (rows.Taken (p 1) (j 2) true false) []
    ∷ by_proc 1 (rows.Finished (p 1) (j 2) outcomes.Activated) []
    ∷ by_coord (rows.Delivered (p 1)) []
    ∷ by_ui (rows.Accepted (r 2) None (requests.Load (n 0) modes.Auto (codes "http://c.test/p0#f1"))) (rows.Started (r 2) None ∷ sent 3 2 0 3 (whys.Req (r 2)) (tasks.Populate (n 0) (s 3) (codes "http://c.test/p0#f1") false) ∷ [])
    ∷ by_ui (rows.Accepted (r 3) None (requests.Load (n 1) modes.Auto (codes "http://a.test/p1"))) (rows.Started (r 3) None ∷ sent 4 1 0 4 (whys.Req (r 3)) (tasks.Populate (n 1) (s 4) (codes "http://a.test/p1") false) ∷ [])
    ∷ by_proc 1 (rows.Taken (p 1) (j 4) true false) []
    ∷ by_proc 1 (rows.Finished (p 1) (j 4) (outcomes.Populated None)) []
    ∷ by_coord (rows.Delivered (p 1)) (rows.Applied (r 3) (changes.Replace (n 1) (e 0 2) (e 0 3) (s 4) (codes "http://a.test/p1") None) ∷ sent 5 1 0 2 (whys.Req (r 3)) tasks.Discard ∷ sent 6 1 0 4 (whys.Req (r 3)) (tasks.Activate (e 0 3) (epoch 2) 1 0 None (codes "http://a.test/p1")) ∷ [])
    ∷ []

abbrev pub has_no_earlier_load_below_1_header : Header
has_no_earlier_load_below_1_header = record { keep = 3; sites = record { origin = codes "http://c.test"; proc = p 2 } ∷ []; pages = []; first = codes "http://a.test/p0" }

pub has_no_earlier_load_below_1_is_legal : IsLegal (log_of has_no_earlier_load_below_1)
unfolding url_on_literals is_web is_blank_url judged judged_parse read_against address_of url_of resolved with_fragment base_of fragment_of origin_text origin_of has_same_base is_rewritable events_of each_event after_opening AtEachEvent is_numbered opens is_formed is_once is_caused is_queued is_ordered is_checked ends_settled loads_end ends_told ends_stepped goes_in_time
has_no_earlier_load_below_1_is_legal = record { opened = refl; numbered = refl; formed = refl; once = refl; caused = refl; queued = refl; ordered = refl; checked = refl; settled = refl }

pub has_no_earlier_load_below_1_ends_loads : LoadsEndInTime (log_of has_no_earlier_load_below_1)
unfolding url_on_literals is_web is_blank_url judged judged_parse read_against address_of url_of resolved with_fragment base_of fragment_of origin_text origin_of has_same_base is_rewritable events_of each_event after_opening AtEachEvent is_numbered opens is_formed is_once is_caused is_queued is_ordered is_checked ends_settled loads_end ends_told ends_stepped goes_in_time
has_no_earlier_load_below_1_ends_loads = refl

pub has_no_earlier_load_below_1_acts_at_once : ActsAtOnce (log_of has_no_earlier_load_below_1)
unfolding url_on_literals is_web is_blank_url judged judged_parse read_against address_of url_of resolved with_fragment base_of fragment_of origin_text origin_of has_same_base is_rewritable events_of each_event after_opening AtEachEvent is_numbered opens is_formed is_once is_caused is_queued is_ordered is_checked ends_settled loads_end ends_told ends_stepped goes_in_time
has_no_earlier_load_below_1_acts_at_once = record { told = refl; stepped = refl; in_time = refl }

pub has_no_earlier_load_below_1_suits : Suits has_no_earlier_load_below_1_header (log_of has_no_earlier_load_below_1)
unfolding url_on_literals is_web is_blank_url judged judged_parse read_against address_of url_of resolved with_fragment base_of fragment_of origin_text origin_of has_same_base is_rewritable events_of each_event after_opening AtEachEvent is_numbered opens is_formed is_once is_caused is_queued is_ordered is_checked ends_settled loads_end ends_told ends_stepped goes_in_time
has_no_earlier_load_below_1_suits = record { opened = refl; placed = refl; kept = refl }

-- load_begins: without conjunct `is_awake place`, it would be refused.
abbrev pub load_begins_1 : List Event
load_begins_1 =
    push_after_a_death
    ++ by_ui (rows.Accepted (r 3) None (requests.Load (n 0) modes.Auto (codes "http://a.test/1#x"))) (rows.Started (r 3) None ∷ sent 2 1 1 2 (whys.Req (r 3)) (tasks.Populate (n 0) (s 2) (codes "http://a.test/1#x") false) ∷ [])
    ∷ []

pub load_begins_1_is_legal : IsLegal (log_of load_begins_1)
unfolding url_on_literals is_web is_blank_url judged judged_parse read_against address_of url_of resolved with_fragment base_of fragment_of origin_text origin_of has_same_base is_rewritable events_of each_event after_opening AtEachEvent is_numbered opens is_formed is_once is_caused is_queued is_ordered is_checked ends_settled loads_end ends_told ends_stepped goes_in_time
load_begins_1_is_legal = record { opened = refl; numbered = refl; formed = refl; once = refl; caused = refl; queued = refl; ordered = refl; checked = refl; settled = refl }

pub load_begins_1_ends_loads : LoadsEndInTime (log_of load_begins_1)
unfolding url_on_literals is_web is_blank_url judged judged_parse read_against address_of url_of resolved with_fragment base_of fragment_of origin_text origin_of has_same_base is_rewritable events_of each_event after_opening AtEachEvent is_numbered opens is_formed is_once is_caused is_queued is_ordered is_checked ends_settled loads_end ends_told ends_stepped goes_in_time
load_begins_1_ends_loads = refl

pub load_begins_1_acts_at_once : ActsAtOnce (log_of load_begins_1)
unfolding url_on_literals is_web is_blank_url judged judged_parse read_against address_of url_of resolved with_fragment base_of fragment_of origin_text origin_of has_same_base is_rewritable events_of each_event after_opening AtEachEvent is_numbered opens is_formed is_once is_caused is_queued is_ordered is_checked ends_settled loads_end ends_told ends_stepped goes_in_time
load_begins_1_acts_at_once = record { told = refl; stepped = refl; in_time = refl }

pub load_begins_1_suits : Suits plain_settings (log_of load_begins_1)
unfolding url_on_literals is_web is_blank_url judged judged_parse read_against address_of url_of resolved with_fragment base_of fragment_of origin_text origin_of has_same_base is_rewritable events_of each_event after_opening AtEachEvent is_numbered opens is_formed is_once is_caused is_queued is_ordered is_checked ends_settled loads_end ends_told ends_stepped goes_in_time
load_begins_1_suits = record { opened = refl; placed = refl; kept = refl }

-- is_refused_step: without conjunct `is_no_step reason`, it would be refused.
abbrev pub is_refused_step_1 : List Event
is_refused_step_1 =
    by_start (rows.Opened (e 0 1) (s 1) (d 1) (p 1) None (codes "http://a.test/")) []
    ∷ by_ui (rows.Accepted (r 1) None (requests.Poke (n 1) (actions.Go (negsuc 0)))) (rows.Refused (r 1) denials.NoNavigable ∷ [])
    ∷ []

pub is_refused_step_1_is_legal : IsLegal (log_of is_refused_step_1)
unfolding url_on_literals is_web is_blank_url judged judged_parse read_against address_of url_of resolved with_fragment base_of fragment_of origin_text origin_of has_same_base is_rewritable events_of each_event after_opening AtEachEvent is_numbered opens is_formed is_once is_caused is_queued is_ordered is_checked ends_settled loads_end ends_told ends_stepped goes_in_time
is_refused_step_1_is_legal = record { opened = refl; numbered = refl; formed = refl; once = refl; caused = refl; queued = refl; ordered = refl; checked = refl; settled = refl }

pub is_refused_step_1_ends_loads : LoadsEndInTime (log_of is_refused_step_1)
unfolding url_on_literals is_web is_blank_url judged judged_parse read_against address_of url_of resolved with_fragment base_of fragment_of origin_text origin_of has_same_base is_rewritable events_of each_event after_opening AtEachEvent is_numbered opens is_formed is_once is_caused is_queued is_ordered is_checked ends_settled loads_end ends_told ends_stepped goes_in_time
is_refused_step_1_ends_loads = refl

pub is_refused_step_1_acts_at_once : ActsAtOnce (log_of is_refused_step_1)
unfolding url_on_literals is_web is_blank_url judged judged_parse read_against address_of url_of resolved with_fragment base_of fragment_of origin_text origin_of has_same_base is_rewritable events_of each_event after_opening AtEachEvent is_numbered opens is_formed is_once is_caused is_queued is_ordered is_checked ends_settled loads_end ends_told ends_stepped goes_in_time
is_refused_step_1_acts_at_once = record { told = refl; stepped = refl; in_time = refl }

pub is_refused_step_1_suits : Suits plain_settings (log_of is_refused_step_1)
unfolding url_on_literals is_web is_blank_url judged judged_parse read_against address_of url_of resolved with_fragment base_of fragment_of origin_text origin_of has_same_base is_rewritable events_of each_event after_opening AtEachEvent is_numbered opens is_formed is_once is_caused is_queued is_ordered is_checked ends_settled loads_end ends_told ends_stepped goes_in_time
is_refused_step_1_suits = record { opened = refl; placed = refl; kept = refl }

-- is_fragment_replace: were equation 3 false, it would be refused.
abbrev pub is_fragment_replace_1 : List Event
is_fragment_replace_1 =
    by_start (rows.Opened (e 0 1) (s 1) (d 1) (p 1) None (codes "about:blank")) []
    ∷ by_ui (rows.Accepted (r 1) None (requests.Load (n 0) modes.Replace (codes "about:blank#x"))) (sent 1 1 0 1 (whys.Req (r 1)) (tasks.DoFragment (r 1) modes.Replace (codes "about:blank#x")) ∷ [])
    ∷ by_proc 1 (rows.Taken (p 1) (j 1) true false) []
    ∷ by_proc 1 (rows.Finished (p 1) (j 1) outcomes.Fragmented) (made 1 1 1 1 (whats.Replace (e 0 1) (e 1 1) None (codes "about:blank#x")) ∷ [])
    ∷ []

abbrev pub is_fragment_replace_1_header : Header
is_fragment_replace_1_header = record { keep = 3; sites = []; pages = []; first = codes "about:blank" }

pub is_fragment_replace_1_is_legal : IsLegal (log_of is_fragment_replace_1)
unfolding url_on_literals is_web is_blank_url judged judged_parse read_against address_of url_of resolved with_fragment base_of fragment_of origin_text origin_of has_same_base is_rewritable events_of each_event after_opening AtEachEvent is_numbered opens is_formed is_once is_caused is_queued is_ordered is_checked ends_settled loads_end ends_told ends_stepped goes_in_time
is_fragment_replace_1_is_legal = record { opened = refl; numbered = refl; formed = refl; once = refl; caused = refl; queued = refl; ordered = refl; checked = refl; settled = refl }

pub is_fragment_replace_1_ends_loads : LoadsEndInTime (log_of is_fragment_replace_1)
unfolding url_on_literals is_web is_blank_url judged judged_parse read_against address_of url_of resolved with_fragment base_of fragment_of origin_text origin_of has_same_base is_rewritable events_of each_event after_opening AtEachEvent is_numbered opens is_formed is_once is_caused is_queued is_ordered is_checked ends_settled loads_end ends_told ends_stepped goes_in_time
is_fragment_replace_1_ends_loads = refl

pub is_fragment_replace_1_acts_at_once : ActsAtOnce (log_of is_fragment_replace_1)
unfolding url_on_literals is_web is_blank_url judged judged_parse read_against address_of url_of resolved with_fragment base_of fragment_of origin_text origin_of has_same_base is_rewritable events_of each_event after_opening AtEachEvent is_numbered opens is_formed is_once is_caused is_queued is_ordered is_checked ends_settled loads_end ends_told ends_stepped goes_in_time
is_fragment_replace_1_acts_at_once = record { told = refl; stepped = refl; in_time = refl }

pub is_fragment_replace_1_suits : Suits is_fragment_replace_1_header (log_of is_fragment_replace_1)
unfolding url_on_literals is_web is_blank_url judged judged_parse read_against address_of url_of resolved with_fragment base_of fragment_of origin_text origin_of has_same_base is_rewritable events_of each_event after_opening AtEachEvent is_numbered opens is_formed is_once is_caused is_queued is_ordered is_checked ends_settled loads_end ends_told ends_stepped goes_in_time
is_fragment_replace_1_suits = record { opened = refl; placed = refl; kept = refl }

-- made_by: without conjunct `not view.initial`, it would be refused.
abbrev pub made_by_1 : List Event
made_by_1 =
    by_start (rows.Opened (e 0 1) (s 1) (d 1) (p 1) None (codes "about:blank")) []
    ∷ by_ui (rows.Accepted (r 1) (Some (d 1)) (requests.Poke (n 0) (actions.Fragment (codes "x0")))) []
    ∷ by_proc 1 (made 1 1 1 1 (whats.Replace (e 0 1) (e 1 1) None (codes "about:blank#x0"))) []
    ∷ []

abbrev pub made_by_1_header : Header
made_by_1_header = record { keep = 3; sites = []; pages = []; first = codes "about:blank" }

pub made_by_1_is_legal : IsLegal (log_of made_by_1)
unfolding url_on_literals is_web is_blank_url judged judged_parse read_against address_of url_of resolved with_fragment base_of fragment_of origin_text origin_of has_same_base is_rewritable events_of each_event after_opening AtEachEvent is_numbered opens is_formed is_once is_caused is_queued is_ordered is_checked ends_settled loads_end ends_told ends_stepped goes_in_time
made_by_1_is_legal = record { opened = refl; numbered = refl; formed = refl; once = refl; caused = refl; queued = refl; ordered = refl; checked = refl; settled = refl }

pub made_by_1_ends_loads : LoadsEndInTime (log_of made_by_1)
unfolding url_on_literals is_web is_blank_url judged judged_parse read_against address_of url_of resolved with_fragment base_of fragment_of origin_text origin_of has_same_base is_rewritable events_of each_event after_opening AtEachEvent is_numbered opens is_formed is_once is_caused is_queued is_ordered is_checked ends_settled loads_end ends_told ends_stepped goes_in_time
made_by_1_ends_loads = refl

pub made_by_1_acts_at_once : ActsAtOnce (log_of made_by_1)
unfolding url_on_literals is_web is_blank_url judged judged_parse read_against address_of url_of resolved with_fragment base_of fragment_of origin_text origin_of has_same_base is_rewritable events_of each_event after_opening AtEachEvent is_numbered opens is_formed is_once is_caused is_queued is_ordered is_checked ends_settled loads_end ends_told ends_stepped goes_in_time
made_by_1_acts_at_once = record { told = refl; stepped = refl; in_time = refl }

pub made_by_1_suits : Suits made_by_1_header (log_of made_by_1)
unfolding url_on_literals is_web is_blank_url judged judged_parse read_against address_of url_of resolved with_fragment base_of fragment_of origin_text origin_of has_same_base is_rewritable events_of each_event after_opening AtEachEvent is_numbered opens is_formed is_once is_caused is_queued is_ordered is_checked ends_settled loads_end ends_told ends_stepped goes_in_time
made_by_1_suits = record { opened = refl; placed = refl; kept = refl }

-- denial_at_delivery: by_what: without disjunct `nav.0 == 0`, it would be refused.
abbrev pub frame_refused_for_the_number_of_the_top : List Event
frame_refused_for_the_number_of_the_top =
    by_start (rows.Opened (e 0 1) (s 1) (d 1) (p 1) None (codes "http://a.test/")) []
    ∷ by_ui (rows.Accepted (r 1) (Some (d 1)) (requests.Poke (n 0) (actions.AddFrame (n 0)))) []
    ∷ by_proc 1 (made 1 1 1 1 (whats.AddFrame (n 0))) []
    ∷ by_coord (rows.Delivered (p 1)) (rows.Refused (r 1) denials.NavTaken ∷ [])
    ∷ []

pub frame_refused_for_the_number_of_the_top_is_legal : IsLegal (log_of frame_refused_for_the_number_of_the_top)
unfolding url_on_literals is_web is_blank_url judged judged_parse read_against address_of url_of resolved with_fragment base_of fragment_of origin_text origin_of has_same_base is_rewritable events_of each_event after_opening AtEachEvent is_numbered opens is_formed is_once is_caused is_queued is_ordered is_checked ends_settled loads_end ends_told ends_stepped goes_in_time
frame_refused_for_the_number_of_the_top_is_legal = record { opened = refl; numbered = refl; formed = refl; once = refl; caused = refl; queued = refl; ordered = refl; checked = refl; settled = refl }

pub frame_refused_for_the_number_of_the_top_ends_loads : LoadsEndInTime (log_of frame_refused_for_the_number_of_the_top)
unfolding url_on_literals is_web is_blank_url judged judged_parse read_against address_of url_of resolved with_fragment base_of fragment_of origin_text origin_of has_same_base is_rewritable events_of each_event after_opening AtEachEvent is_numbered opens is_formed is_once is_caused is_queued is_ordered is_checked ends_settled loads_end ends_told ends_stepped goes_in_time
frame_refused_for_the_number_of_the_top_ends_loads = refl

pub frame_refused_for_the_number_of_the_top_acts_at_once : ActsAtOnce (log_of frame_refused_for_the_number_of_the_top)
unfolding url_on_literals is_web is_blank_url judged judged_parse read_against address_of url_of resolved with_fragment base_of fragment_of origin_text origin_of has_same_base is_rewritable events_of each_event after_opening AtEachEvent is_numbered opens is_formed is_once is_caused is_queued is_ordered is_checked ends_settled loads_end ends_told ends_stepped goes_in_time
frame_refused_for_the_number_of_the_top_acts_at_once = record { told = refl; stepped = refl; in_time = refl }

pub frame_refused_for_the_number_of_the_top_suits : Suits plain_settings (log_of frame_refused_for_the_number_of_the_top)
unfolding url_on_literals is_web is_blank_url judged judged_parse read_against address_of url_of resolved with_fragment base_of fragment_of origin_text origin_of has_same_base is_rewritable events_of each_event after_opening AtEachEvent is_numbered opens is_formed is_once is_caused is_queued is_ordered is_checked ends_settled loads_end ends_told ends_stepped goes_in_time
frame_refused_for_the_number_of_the_top_suits = record { opened = refl; placed = refl; kept = refl }

-- A load shows its document before the one before it is frozen: that puts the frame to sleep. sleepers_below: were `holds (λ (last : DocId). last.0 == doc.0) place.last` always so, it would be refused.
abbrev pub shown_before_the_other_is_frozen : List Event
shown_before_the_other_is_frozen =
    before 13 reload_of_a_hidden_frame
    ++ by_coord (rows.Delivered (p 1)) (rows.Applied (r 2) (changes.Push (n 0) (e 0 3) (s 3) (codes "http://a.test/1") None) ∷ sent 4 1 0 3 (whys.Req (r 2)) (tasks.Activate (e 0 3) (epoch 2) 2 1 None (codes "http://a.test/1")) ∷ sent 5 1 0 1 (whys.Req (r 2)) tasks.Freeze ∷ [])
    ∷ []

pub shown_before_the_other_is_frozen_is_legal : IsLegal (log_of shown_before_the_other_is_frozen)
unfolding url_on_literals is_web is_blank_url judged judged_parse read_against address_of url_of resolved with_fragment base_of fragment_of origin_text origin_of has_same_base is_rewritable events_of each_event after_opening AtEachEvent is_numbered opens is_formed is_once is_caused is_queued is_ordered is_checked ends_settled loads_end ends_told ends_stepped goes_in_time
shown_before_the_other_is_frozen_is_legal = record { opened = refl; numbered = refl; formed = refl; once = refl; caused = refl; queued = refl; ordered = refl; checked = refl; settled = refl }

pub shown_before_the_other_is_frozen_ends_loads : LoadsEndInTime (log_of shown_before_the_other_is_frozen)
unfolding url_on_literals is_web is_blank_url judged judged_parse read_against address_of url_of resolved with_fragment base_of fragment_of origin_text origin_of has_same_base is_rewritable events_of each_event after_opening AtEachEvent is_numbered opens is_formed is_once is_caused is_queued is_ordered is_checked ends_settled loads_end ends_told ends_stepped goes_in_time
shown_before_the_other_is_frozen_ends_loads = refl

pub shown_before_the_other_is_frozen_acts_at_once : ActsAtOnce (log_of shown_before_the_other_is_frozen)
unfolding url_on_literals is_web is_blank_url judged judged_parse read_against address_of url_of resolved with_fragment base_of fragment_of origin_text origin_of has_same_base is_rewritable events_of each_event after_opening AtEachEvent is_numbered opens is_formed is_once is_caused is_queued is_ordered is_checked ends_settled loads_end ends_told ends_stepped goes_in_time
shown_before_the_other_is_frozen_acts_at_once = record { told = refl; stepped = refl; in_time = refl }

pub shown_before_the_other_is_frozen_suits : Suits plain_settings (log_of shown_before_the_other_is_frozen)
unfolding url_on_literals is_web is_blank_url judged judged_parse read_against address_of url_of resolved with_fragment base_of fragment_of origin_text origin_of has_same_base is_rewritable events_of each_event after_opening AtEachEvent is_numbered opens is_formed is_once is_caused is_queued is_ordered is_checked ends_settled loads_end ends_told ends_stepped goes_in_time
shown_before_the_other_is_frozen_suits = record { opened = refl; placed = refl; kept = refl }

-- The document of a removed frame is frozen, for it is discarded in the same event. displaces: by_task: were equation 2 false, it would be refused.
abbrev pub frozen_before_it_is_discarded : List Event
frozen_before_it_is_discarded =
    before 11 push_of_a_removed_frame
    ++ by_proc 1 (made 1 2 1 1 (whats.RemoveFrame (n 1))) []
    ∷ by_coord (rows.Delivered (p 1)) (rows.Applied (r 2) (changes.RemoveFrame (n 1)) ∷ sent 3 1 0 2 (whys.Req (r 2)) tasks.Freeze ∷ sent 4 1 0 2 (whys.Req (r 2)) tasks.Discard ∷ [])
    ∷ []

pub frozen_before_it_is_discarded_is_legal : IsLegal (log_of frozen_before_it_is_discarded)
unfolding url_on_literals is_web is_blank_url judged judged_parse read_against address_of url_of resolved with_fragment base_of fragment_of origin_text origin_of has_same_base is_rewritable events_of each_event after_opening AtEachEvent is_numbered opens is_formed is_once is_caused is_queued is_ordered is_checked ends_settled loads_end ends_told ends_stepped goes_in_time
frozen_before_it_is_discarded_is_legal = record { opened = refl; numbered = refl; formed = refl; once = refl; caused = refl; queued = refl; ordered = refl; checked = refl; settled = refl }

pub frozen_before_it_is_discarded_ends_loads : LoadsEndInTime (log_of frozen_before_it_is_discarded)
unfolding url_on_literals is_web is_blank_url judged judged_parse read_against address_of url_of resolved with_fragment base_of fragment_of origin_text origin_of has_same_base is_rewritable events_of each_event after_opening AtEachEvent is_numbered opens is_formed is_once is_caused is_queued is_ordered is_checked ends_settled loads_end ends_told ends_stepped goes_in_time
frozen_before_it_is_discarded_ends_loads = refl

pub frozen_before_it_is_discarded_acts_at_once : ActsAtOnce (log_of frozen_before_it_is_discarded)
unfolding url_on_literals is_web is_blank_url judged judged_parse read_against address_of url_of resolved with_fragment base_of fragment_of origin_text origin_of has_same_base is_rewritable events_of each_event after_opening AtEachEvent is_numbered opens is_formed is_once is_caused is_queued is_ordered is_checked ends_settled loads_end ends_told ends_stepped goes_in_time
frozen_before_it_is_discarded_acts_at_once = record { told = refl; stepped = refl; in_time = refl }

pub frozen_before_it_is_discarded_suits : Suits plain_settings (log_of frozen_before_it_is_discarded)
unfolding url_on_literals is_web is_blank_url judged judged_parse read_against address_of url_of resolved with_fragment base_of fragment_of origin_text origin_of has_same_base is_rewritable events_of each_event after_opening AtEachEvent is_numbered opens is_formed is_once is_caused is_queued is_ordered is_checked ends_settled loads_end ends_told ends_stepped goes_in_time
frozen_before_it_is_discarded_suits = record { opened = refl; placed = refl; kept = refl }
