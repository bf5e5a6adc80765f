-- Legal logs: pushes.
-- A log is its events: those before one of another log, since one, or between two, and its own.
use Rattle.std.proofs.Common.{true, false, List, [], ◌∷◌, ◌++◌, codes, refl, Some, None}
use Rattle.url.proofs.OnLiterals.{url_on_literals}
use Rattle.address.specs.Addresses.{is_web, is_blank_url, judged, judged_parse, read_against, address_of, url_of, resolved, with_fragment, base_of, fragment_of, origin_text, origin_of, has_same_base, is_rewritable}
use Rattle.log_model.specs.declared.action.Action.TheVariants as actions
use Rattle.log_model.specs.declared.change.Change.TheVariants as changes
use Rattle.log_model.specs.declared.job.Task.TheVariants as tasks
use Rattle.log_model.specs.declared.job.Why.TheVariants as whys
use Rattle.log_model.specs.declared.made.What.TheVariants as whats
use Rattle.log_model.specs.declared.outcome.Denial.TheVariants as denials
use Rattle.log_model.specs.declared.outcome.Outcome.TheVariants as outcomes
use Rattle.log_model.specs.declared.request.Mode.TheVariants as modes
use Rattle.log_model.specs.declared.request.Request.TheVariants as requests
use Rattle.log_model.specs.declared.row_kind.RowKind.TheVariants as rows
use Rattle.log_model.specs.Events.{events_of, each_event, after_opening, AtEachEvent}
use Rattle.log_model.specs.Formed.{is_numbered}
use Rattle.log_model.specs.Legal.{IsLegal, opens, is_formed, is_once, is_caused, is_queued, is_ordered, is_checked, ends_settled}
use Rattle.log_model.specs.LoadsEndInTime.{LoadsEndInTime, loads_end}
use Rattle.log_model.specs.ActsAtOnce.{ActsAtOnce, ends_told, ends_stepped, goes_in_time}
use Rattle.log_model.specs.Suits.{Suits}
use Rattle.log_model.specs.declared.header.Header.{Header}
use Rattle.log_examples.specs.Rows.{n, s, r, p, x, d, j, e, epoch, sent, made}
use Rattle.log_examples.specs.Logs.{Event, by_start, by_ui, by_coord, by_proc, log_of, plain_settings}

-- A tab that was only opened.
abbrev pub opened_only : List Event
opened_only =
    by_start (rows.Opened (e 0 1) (s 1) (d 1) (p 1) None (codes "http://a.test/")) []
    ∷ []

pub opened_only_is_legal : IsLegal (log_of opened_only)
unfolding url_on_literals is_web is_blank_url judged judged_parse read_against address_of url_of resolved with_fragment base_of fragment_of origin_text origin_of has_same_base is_rewritable events_of each_event after_opening AtEachEvent is_numbered opens is_formed is_once is_caused is_queued is_ordered is_checked ends_settled loads_end ends_told ends_stepped goes_in_time
opened_only_is_legal = record { opened = refl; numbered = refl; formed = refl; once = refl; caused = refl; queued = refl; ordered = refl; checked = refl; settled = refl }

pub opened_only_ends_loads : LoadsEndInTime (log_of opened_only)
unfolding url_on_literals is_web is_blank_url judged judged_parse read_against address_of url_of resolved with_fragment base_of fragment_of origin_text origin_of has_same_base is_rewritable events_of each_event after_opening AtEachEvent is_numbered opens is_formed is_once is_caused is_queued is_ordered is_checked ends_settled loads_end ends_told ends_stepped goes_in_time
opened_only_ends_loads = refl

pub opened_only_acts_at_once : ActsAtOnce (log_of opened_only)
unfolding url_on_literals is_web is_blank_url judged judged_parse read_against address_of url_of resolved with_fragment base_of fragment_of origin_text origin_of has_same_base is_rewritable events_of each_event after_opening AtEachEvent is_numbered opens is_formed is_once is_caused is_queued is_ordered is_checked ends_settled loads_end ends_told ends_stepped goes_in_time
opened_only_acts_at_once = record { told = refl; stepped = refl; in_time = refl }

pub opened_only_suits : Suits plain_settings (log_of opened_only)
unfolding url_on_literals is_web is_blank_url judged judged_parse read_against address_of url_of resolved with_fragment base_of fragment_of origin_text origin_of has_same_base is_rewritable events_of each_event after_opening AtEachEvent is_numbered opens is_formed is_once is_caused is_queued is_ordered is_checked ends_settled loads_end ends_told ends_stepped goes_in_time
opened_only_suits = record { opened = refl; placed = refl; kept = refl }

-- A push that its document has not made yet.
abbrev pub poke_that_waits : List Event
poke_that_waits =
    by_start (rows.Opened (e 0 1) (s 1) (d 1) (p 1) None (codes "http://a.test/")) []
    ∷ by_ui (rows.Accepted (r 1) (Some (d 1)) (requests.Poke (n 0) (actions.Push (Some (codes "s")) (Some (codes "/1"))))) []
    ∷ []

pub poke_that_waits_is_legal : IsLegal (log_of poke_that_waits)
unfolding url_on_literals is_web is_blank_url judged judged_parse read_against address_of url_of resolved with_fragment base_of fragment_of origin_text origin_of has_same_base is_rewritable events_of each_event after_opening AtEachEvent is_numbered opens is_formed is_once is_caused is_queued is_ordered is_checked ends_settled loads_end ends_told ends_stepped goes_in_time
poke_that_waits_is_legal = record { opened = refl; numbered = refl; formed = refl; once = refl; caused = refl; queued = refl; ordered = refl; checked = refl; settled = refl }

pub poke_that_waits_ends_loads : LoadsEndInTime (log_of poke_that_waits)
unfolding url_on_literals is_web is_blank_url judged judged_parse read_against address_of url_of resolved with_fragment base_of fragment_of origin_text origin_of has_same_base is_rewritable events_of each_event after_opening AtEachEvent is_numbered opens is_formed is_once is_caused is_queued is_ordered is_checked ends_settled loads_end ends_told ends_stepped goes_in_time
poke_that_waits_ends_loads = refl

pub poke_that_waits_acts_at_once : ActsAtOnce (log_of poke_that_waits)
unfolding url_on_literals is_web is_blank_url judged judged_parse read_against address_of url_of resolved with_fragment base_of fragment_of origin_text origin_of has_same_base is_rewritable events_of each_event after_opening AtEachEvent is_numbered opens is_formed is_once is_caused is_queued is_ordered is_checked ends_settled loads_end ends_told ends_stepped goes_in_time
poke_that_waits_acts_at_once = record { told = refl; stepped = refl; in_time = refl }

pub poke_that_waits_suits : Suits plain_settings (log_of poke_that_waits)
unfolding url_on_literals is_web is_blank_url judged judged_parse read_against address_of url_of resolved with_fragment base_of fragment_of origin_text origin_of has_same_base is_rewritable events_of each_event after_opening AtEachEvent is_numbered opens is_formed is_once is_caused is_queued is_ordered is_checked ends_settled loads_end ends_told ends_stepped goes_in_time
poke_that_waits_suits = record { opened = refl; placed = refl; kept = refl }

-- One push, and the update of length and index after it.
abbrev pub one_push : List Event
one_push =
    by_start (rows.Opened (e 0 1) (s 1) (d 1) (p 1) None (codes "http://a.test/")) []
    ∷ by_ui (rows.Accepted (r 1) (Some (d 1)) (requests.Poke (n 0) (actions.Push (Some (codes "s")) (Some (codes "/1"))))) []
    ∷ by_proc 1 (made 1 1 1 1 (whats.Push (e 1 1) (Some (codes "s")) (codes "http://a.test/1"))) []
    ∷ by_coord (rows.Delivered (p 1)) (rows.Applied (r 1) (changes.Push (n 0) (e 1 1) (s 1) (codes "http://a.test/1") (Some (codes "s"))) ∷ sent 1 1 0 1 (whys.Req (r 1)) (tasks.Update 2 1) ∷ [])
    ∷ by_proc 1 (rows.Taken (p 1) (j 1) true false) []
    ∷ by_proc 1 (rows.Finished (p 1) (j 1) outcomes.Updated) []
    ∷ by_coord (rows.Delivered (p 1)) []
    ∷ []

pub one_push_is_legal : IsLegal (log_of one_push)
unfolding url_on_literals is_web is_blank_url judged judged_parse read_against address_of url_of resolved with_fragment base_of fragment_of origin_text origin_of has_same_base is_rewritable events_of each_event after_opening AtEachEvent is_numbered opens is_formed is_once is_caused is_queued is_ordered is_checked ends_settled loads_end ends_told ends_stepped goes_in_time
one_push_is_legal = record { opened = refl; numbered = refl; formed = refl; once = refl; caused = refl; queued = refl; ordered = refl; checked = refl; settled = refl }

pub one_push_ends_loads : LoadsEndInTime (log_of one_push)
unfolding url_on_literals is_web is_blank_url judged judged_parse read_against address_of url_of resolved with_fragment base_of fragment_of origin_text origin_of has_same_base is_rewritable events_of each_event after_opening AtEachEvent is_numbered opens is_formed is_once is_caused is_queued is_ordered is_checked ends_settled loads_end ends_told ends_stepped goes_in_time
one_push_ends_loads = refl

pub one_push_acts_at_once : ActsAtOnce (log_of one_push)
unfolding url_on_literals is_web is_blank_url judged judged_parse read_against address_of url_of resolved with_fragment base_of fragment_of origin_text origin_of has_same_base is_rewritable events_of each_event after_opening AtEachEvent is_numbered opens is_formed is_once is_caused is_queued is_ordered is_checked ends_settled loads_end ends_told ends_stepped goes_in_time
one_push_acts_at_once = record { told = refl; stepped = refl; in_time = refl }

pub one_push_suits : Suits plain_settings (log_of one_push)
unfolding url_on_literals is_web is_blank_url judged judged_parse read_against address_of url_of resolved with_fragment base_of fragment_of origin_text origin_of has_same_base is_rewritable events_of each_event after_opening AtEachEvent is_numbered opens is_formed is_once is_caused is_queued is_ordered is_checked ends_settled loads_end ends_told ends_stepped goes_in_time
one_push_suits = record { opened = refl; placed = refl; kept = refl }

-- Three pushes, one after the other.
abbrev pub three_pushes : List Event
three_pushes =
    by_start (rows.Opened (e 0 1) (s 1) (d 1) (p 1) None (codes "http://a.test/")) []
    ∷ by_ui (rows.Accepted (r 1) (Some (d 1)) (requests.Poke (n 0) (actions.Push (Some (codes "s1")) (Some (codes "/1"))))) []
    ∷ by_ui (rows.Accepted (r 2) (Some (d 1)) (requests.Poke (n 0) (actions.Push (Some (codes "s2")) (Some (codes "/2"))))) []
    ∷ by_ui (rows.Accepted (r 3) (Some (d 1)) (requests.Poke (n 0) (actions.Push (Some (codes "s3")) (Some (codes "/3"))))) []
    ∷ by_proc 1 (made 1 1 1 1 (whats.Push (e 1 1) (Some (codes "s1")) (codes "http://a.test/1"))) []
    ∷ by_coord (rows.Delivered (p 1)) (rows.Applied (r 1) (changes.Push (n 0) (e 1 1) (s 1) (codes "http://a.test/1") (Some (codes "s1"))) ∷ sent 1 1 0 1 (whys.Req (r 1)) (tasks.Update 2 1) ∷ [])
    ∷ by_proc 1 (made 1 2 1 1 (whats.Push (e 1 2) (Some (codes "s2")) (codes "http://a.test/2"))) []
    ∷ by_proc 1 (rows.Taken (p 1) (j 1) true false) []
    ∷ by_proc 1 (rows.Finished (p 1) (j 1) outcomes.Updated) []
    ∷ by_coord (rows.Delivered (p 1)) (rows.Applied (r 2) (changes.Push (n 0) (e 1 2) (s 1) (codes "http://a.test/2") (Some (codes "s2"))) ∷ sent 2 1 0 1 (whys.Req (r 2)) (tasks.Update 3 2) ∷ [])
    ∷ by_proc 1 (made 1 3 1 1 (whats.Push (e 1 3) (Some (codes "s3")) (codes "http://a.test/3"))) []
    ∷ by_proc 1 (rows.Taken (p 1) (j 2) true false) []
    ∷ by_proc 1 (rows.Finished (p 1) (j 2) outcomes.Updated) []
    ∷ by_coord (rows.Delivered (p 1)) []
    ∷ by_coord (rows.Delivered (p 1)) (rows.Applied (r 3) (changes.Push (n 0) (e 1 3) (s 1) (codes "http://a.test/3") (Some (codes "s3"))) ∷ sent 3 1 0 1 (whys.Req (r 3)) (tasks.Update 4 3) ∷ [])
    ∷ by_proc 1 (rows.Taken (p 1) (j 3) true false) []
    ∷ by_proc 1 (rows.Finished (p 1) (j 3) outcomes.Updated) []
    ∷ by_coord (rows.Delivered (p 1)) []
    ∷ by_coord (rows.Delivered (p 1)) []
    ∷ []

pub three_pushes_is_legal : IsLegal (log_of three_pushes)
unfolding url_on_literals is_web is_blank_url judged judged_parse read_against address_of url_of resolved with_fragment base_of fragment_of origin_text origin_of has_same_base is_rewritable events_of each_event after_opening AtEachEvent is_numbered opens is_formed is_once is_caused is_queued is_ordered is_checked ends_settled loads_end ends_told ends_stepped goes_in_time
three_pushes_is_legal = record { opened = refl; numbered = refl; formed = refl; once = refl; caused = refl; queued = refl; ordered = refl; checked = refl; settled = refl }

pub three_pushes_ends_loads : LoadsEndInTime (log_of three_pushes)
unfolding url_on_literals is_web is_blank_url judged judged_parse read_against address_of url_of resolved with_fragment base_of fragment_of origin_text origin_of has_same_base is_rewritable events_of each_event after_opening AtEachEvent is_numbered opens is_formed is_once is_caused is_queued is_ordered is_checked ends_settled loads_end ends_told ends_stepped goes_in_time
three_pushes_ends_loads = refl

pub three_pushes_acts_at_once : ActsAtOnce (log_of three_pushes)
unfolding url_on_literals is_web is_blank_url judged judged_parse read_against address_of url_of resolved with_fragment base_of fragment_of origin_text origin_of has_same_base is_rewritable events_of each_event after_opening AtEachEvent is_numbered opens is_formed is_once is_caused is_queued is_ordered is_checked ends_settled loads_end ends_told ends_stepped goes_in_time
three_pushes_acts_at_once = record { told = refl; stepped = refl; in_time = refl }

pub three_pushes_suits : Suits plain_settings (log_of three_pushes)
unfolding url_on_literals is_web is_blank_url judged judged_parse read_against address_of url_of resolved with_fragment base_of fragment_of origin_text origin_of has_same_base is_rewritable events_of each_event after_opening AtEachEvent is_numbered opens is_formed is_once is_caused is_queued is_ordered is_checked ends_settled loads_end ends_told ends_stepped goes_in_time
three_pushes_suits = record { opened = refl; placed = refl; kept = refl }

-- A replace, and a fragment that is a push.
abbrev pub replace_and_fragment : List Event
replace_and_fragment =
    by_start (rows.Opened (e 0 1) (s 1) (d 1) (p 1) None (codes "http://a.test/")) []
    ∷ by_ui (rows.Accepted (r 1) (Some (d 1)) (requests.Poke (n 0) (actions.Replace (Some (codes "m")) None))) []
    ∷ by_ui (rows.Accepted (r 2) (Some (d 1)) (requests.Poke (n 0) (actions.Fragment (codes "x")))) []
    ∷ by_proc 1 (made 1 1 1 1 (whats.Replace (e 0 1) (e 1 1) (Some (codes "m")) (codes "http://a.test/"))) []
    ∷ by_coord (rows.Delivered (p 1)) (rows.Applied (r 1) (changes.Replace (n 0) (e 0 1) (e 1 1) (s 1) (codes "http://a.test/") (Some (codes "m"))) ∷ [])
    ∷ by_proc 1 (made 1 2 1 1 (whats.Push (e 1 2) None (codes "http://a.test/#x"))) []
    ∷ by_coord (rows.Delivered (p 1)) (rows.Applied (r 2) (changes.Push (n 0) (e 1 2) (s 1) (codes "http://a.test/#x") None) ∷ sent 1 1 0 1 (whys.Req (r 2)) (tasks.Update 2 1) ∷ [])
    ∷ by_proc 1 (rows.Taken (p 1) (j 1) true false) []
    ∷ by_proc 1 (rows.Finished (p 1) (j 1) outcomes.Updated) []
    ∷ by_coord (rows.Delivered (p 1)) []
    ∷ []

pub replace_and_fragment_is_legal : IsLegal (log_of replace_and_fragment)
unfolding url_on_literals is_web is_blank_url judged judged_parse read_against address_of url_of resolved with_fragment base_of fragment_of origin_text origin_of has_same_base is_rewritable events_of each_event after_opening AtEachEvent is_numbered opens is_formed is_once is_caused is_queued is_ordered is_checked ends_settled loads_end ends_told ends_stepped goes_in_time
replace_and_fragment_is_legal = record { opened = refl; numbered = refl; formed = refl; once = refl; caused = refl; queued = refl; ordered = refl; checked = refl; settled = refl }

pub replace_and_fragment_ends_loads : LoadsEndInTime (log_of replace_and_fragment)
unfolding url_on_literals is_web is_blank_url judged judged_parse read_against address_of url_of resolved with_fragment base_of fragment_of origin_text origin_of has_same_base is_rewritable events_of each_event after_opening AtEachEvent is_numbered opens is_formed is_once is_caused is_queued is_ordered is_checked ends_settled loads_end ends_told ends_stepped goes_in_time
replace_and_fragment_ends_loads = refl

pub replace_and_fragment_acts_at_once : ActsAtOnce (log_of replace_and_fragment)
unfolding url_on_literals is_web is_blank_url judged judged_parse read_against address_of url_of resolved with_fragment base_of fragment_of origin_text origin_of has_same_base is_rewritable events_of each_event after_opening AtEachEvent is_numbered opens is_formed is_once is_caused is_queued is_ordered is_checked ends_settled loads_end ends_told ends_stepped goes_in_time
replace_and_fragment_acts_at_once = record { told = refl; stepped = refl; in_time = refl }

pub replace_and_fragment_suits : Suits plain_settings (log_of replace_and_fragment)
unfolding url_on_literals is_web is_blank_url judged judged_parse read_against address_of url_of resolved with_fragment base_of fragment_of origin_text origin_of has_same_base is_rewritable events_of each_event after_opening AtEachEvent is_numbered opens is_formed is_once is_caused is_queued is_ordered is_checked ends_settled loads_end ends_told ends_stepped goes_in_time
replace_and_fragment_suits = record { opened = refl; placed = refl; kept = refl }

-- A push where the document is dead is refused.
abbrev pub push_after_a_death : List Event
push_after_a_death =
    one_push
    ++ by_ui (rows.Killed (p 1) (x 1)) []
    ∷ by_coord (rows.Delivered (p 1)) []
    ∷ by_ui (rows.Accepted (r 2) None (requests.Poke (n 0) (actions.Push (Some (codes "t")) (Some (codes "/2"))))) (rows.Refused (r 2) denials.NoDocument ∷ [])
    ∷ []

pub push_after_a_death_is_legal : IsLegal (log_of push_after_a_death)
unfolding url_on_literals is_web is_blank_url judged judged_parse read_against address_of url_of resolved with_fragment base_of fragment_of origin_text origin_of has_same_base is_rewritable events_of each_event after_opening AtEachEvent is_numbered opens is_formed is_once is_caused is_queued is_ordered is_checked ends_settled loads_end ends_told ends_stepped goes_in_time
push_after_a_death_is_legal = record { opened = refl; numbered = refl; formed = refl; once = refl; caused = refl; queued = refl; ordered = refl; checked = refl; settled = refl }

pub push_after_a_death_ends_loads : LoadsEndInTime (log_of push_after_a_death)
unfolding url_on_literals is_web is_blank_url judged judged_parse read_against address_of url_of resolved with_fragment base_of fragment_of origin_text origin_of has_same_base is_rewritable events_of each_event after_opening AtEachEvent is_numbered opens is_formed is_once is_caused is_queued is_ordered is_checked ends_settled loads_end ends_told ends_stepped goes_in_time
push_after_a_death_ends_loads = refl

pub push_after_a_death_acts_at_once : ActsAtOnce (log_of push_after_a_death)
unfolding url_on_literals is_web is_blank_url judged judged_parse read_against address_of url_of resolved with_fragment base_of fragment_of origin_text origin_of has_same_base is_rewritable events_of each_event after_opening AtEachEvent is_numbered opens is_formed is_once is_caused is_queued is_ordered is_checked ends_settled loads_end ends_told ends_stepped goes_in_time
push_after_a_death_acts_at_once = record { told = refl; stepped = refl; in_time = refl }

pub push_after_a_death_suits : Suits plain_settings (log_of push_after_a_death)
unfolding url_on_literals is_web is_blank_url judged judged_parse read_against address_of url_of resolved with_fragment base_of fragment_of origin_text origin_of has_same_base is_rewritable events_of each_event after_opening AtEachEvent is_numbered opens is_formed is_once is_caused is_queued is_ordered is_checked ends_settled loads_end ends_told ends_stepped goes_in_time
push_after_a_death_suits = record { opened = refl; placed = refl; kept = refl }

-- A push of the top beside a frame.
abbrev pub push_beside_a_frame : List Event
push_beside_a_frame =
    by_start (rows.Opened (e 0 1) (s 1) (d 1) (p 1) None (codes "http://a.test/")) []
    ∷ by_ui (rows.Accepted (r 1) (Some (d 1)) (requests.Poke (n 0) (actions.AddFrame (n 1)))) []
    ∷ by_proc 1 (made 1 1 1 1 (whats.AddFrame (n 1))) []
    ∷ by_coord (rows.Delivered (p 1)) (rows.Applied (r 1) (changes.AddFrame (s 1) (n 1) (e 0 2) (s 2)) ∷ sent 1 1 0 2 (whys.Req (r 1)) (tasks.Populate (n 1) (s 2) (codes "about:blank") true) ∷ [])
    ∷ by_proc 1 (rows.Taken (p 1) (j 1) true false) []
    ∷ by_proc 1 (rows.Finished (p 1) (j 1) (outcomes.Populated None)) []
    ∷ by_coord (rows.Delivered (p 1)) (sent 2 1 0 2 (whys.Req (r 1)) (tasks.Activate (e 0 2) (epoch 1) 1 0 None (codes "about:blank")) ∷ [])
    ∷ by_proc 1 (rows.Taken (p 1) (j 2) true false) []
    ∷ by_proc 1 (rows.Finished (p 1) (j 2) outcomes.Activated) []
    ∷ by_coord (rows.Delivered (p 1)) []
    ∷ by_ui (rows.Accepted (r 2) (Some (d 1)) (requests.Poke (n 0) (actions.Push (Some (codes "s")) (Some (codes "/1"))))) []
    ∷ by_proc 1 (made 1 2 1 1 (whats.Push (e 1 1) (Some (codes "s")) (codes "http://a.test/1"))) []
    ∷ by_coord (rows.Delivered (p 1)) (rows.Applied (r 2) (changes.Push (n 0) (e 1 1) (s 1) (codes "http://a.test/1") (Some (codes "s"))) ∷ sent 3 1 0 1 (whys.Req (r 2)) (tasks.Update 2 1) ∷ sent 4 1 0 2 (whys.Req (r 2)) (tasks.Update 2 1) ∷ [])
    ∷ by_proc 1 (rows.Taken (p 1) (j 3) true false) []
    ∷ by_proc 1 (rows.Finished (p 1) (j 3) outcomes.Updated) []
    ∷ by_coord (rows.Delivered (p 1)) []
    ∷ by_proc 1 (rows.Taken (p 1) (j 4) true false) []
    ∷ by_proc 1 (rows.Finished (p 1) (j 4) outcomes.Updated) []
    ∷ by_coord (rows.Delivered (p 1)) []
    ∷ []

pub push_beside_a_frame_is_legal : IsLegal (log_of push_beside_a_frame)
unfolding url_on_literals is_web is_blank_url judged judged_parse read_against address_of url_of resolved with_fragment base_of fragment_of origin_text origin_of has_same_base is_rewritable events_of each_event after_opening AtEachEvent is_numbered opens is_formed is_once is_caused is_queued is_ordered is_checked ends_settled loads_end ends_told ends_stepped goes_in_time
push_beside_a_frame_is_legal = record { opened = refl; numbered = refl; formed = refl; once = refl; caused = refl; queued = refl; ordered = refl; checked = refl; settled = refl }

pub push_beside_a_frame_ends_loads : LoadsEndInTime (log_of push_beside_a_frame)
unfolding url_on_literals is_web is_blank_url judged judged_parse read_against address_of url_of resolved with_fragment base_of fragment_of origin_text origin_of has_same_base is_rewritable events_of each_event after_opening AtEachEvent is_numbered opens is_formed is_once is_caused is_queued is_ordered is_checked ends_settled loads_end ends_told ends_stepped goes_in_time
push_beside_a_frame_ends_loads = refl

pub push_beside_a_frame_acts_at_once : ActsAtOnce (log_of push_beside_a_frame)
unfolding url_on_literals is_web is_blank_url judged judged_parse read_against address_of url_of resolved with_fragment base_of fragment_of origin_text origin_of has_same_base is_rewritable events_of each_event after_opening AtEachEvent is_numbered opens is_formed is_once is_caused is_queued is_ordered is_checked ends_settled loads_end ends_told ends_stepped goes_in_time
push_beside_a_frame_acts_at_once = record { told = refl; stepped = refl; in_time = refl }

pub push_beside_a_frame_suits : Suits plain_settings (log_of push_beside_a_frame)
unfolding url_on_literals is_web is_blank_url judged judged_parse read_against address_of url_of resolved with_fragment base_of fragment_of origin_text origin_of has_same_base is_rewritable events_of each_event after_opening AtEachEvent is_numbered opens is_formed is_once is_caused is_queued is_ordered is_checked ends_settled loads_end ends_told ends_stepped goes_in_time
push_beside_a_frame_suits = record { opened = refl; placed = refl; kept = refl }

-- A push in an initial about:blank document is a replace.
abbrev pub push_in_an_initial_document : List Event
push_in_an_initial_document =
    by_start (rows.Opened (e 0 1) (s 1) (d 1) (p 1) None (codes "about:blank")) []
    ∷ by_ui (rows.Accepted (r 1) (Some (d 1)) (requests.Poke (n 0) (actions.Push (Some (codes "s")) None))) []
    ∷ by_proc 1 (made 1 1 1 1 (whats.Replace (e 0 1) (e 1 1) (Some (codes "s")) (codes "about:blank"))) []
    ∷ by_coord (rows.Delivered (p 1)) (rows.Applied (r 1) (changes.Replace (n 0) (e 0 1) (e 1 1) (s 1) (codes "about:blank") (Some (codes "s"))) ∷ [])
    ∷ by_ui (rows.Accepted (r 2) (Some (d 1)) (requests.Poke (n 0) (actions.Push (Some (codes "t")) (Some (codes "#x"))))) []
    ∷ by_proc 1 (made 1 2 1 1 (whats.Replace (e 1 1) (e 1 2) (Some (codes "t")) (codes "about:blank#x"))) []
    ∷ by_coord (rows.Delivered (p 1)) (rows.Applied (r 2) (changes.Replace (n 0) (e 1 1) (e 1 2) (s 1) (codes "about:blank#x") (Some (codes "t"))) ∷ [])
    ∷ []

abbrev pub push_in_an_initial_document_header : Header
push_in_an_initial_document_header = record { keep = 3; sites = []; pages = []; first = codes "about:blank" }

pub push_in_an_initial_document_is_legal : IsLegal (log_of push_in_an_initial_document)
unfolding url_on_literals is_web is_blank_url judged judged_parse read_against address_of url_of resolved with_fragment base_of fragment_of origin_text origin_of has_same_base is_rewritable events_of each_event after_opening AtEachEvent is_numbered opens is_formed is_once is_caused is_queued is_ordered is_checked ends_settled loads_end ends_told ends_stepped goes_in_time
push_in_an_initial_document_is_legal = record { opened = refl; numbered = refl; formed = refl; once = refl; caused = refl; queued = refl; ordered = refl; checked = refl; settled = refl }

pub push_in_an_initial_document_ends_loads : LoadsEndInTime (log_of push_in_an_initial_document)
unfolding url_on_literals is_web is_blank_url judged judged_parse read_against address_of url_of resolved with_fragment base_of fragment_of origin_text origin_of has_same_base is_rewritable events_of each_event after_opening AtEachEvent is_numbered opens is_formed is_once is_caused is_queued is_ordered is_checked ends_settled loads_end ends_told ends_stepped goes_in_time
push_in_an_initial_document_ends_loads = refl

pub push_in_an_initial_document_acts_at_once : ActsAtOnce (log_of push_in_an_initial_document)
unfolding url_on_literals is_web is_blank_url judged judged_parse read_against address_of url_of resolved with_fragment base_of fragment_of origin_text origin_of has_same_base is_rewritable events_of each_event after_opening AtEachEvent is_numbered opens is_formed is_once is_caused is_queued is_ordered is_checked ends_settled loads_end ends_told ends_stepped goes_in_time
push_in_an_initial_document_acts_at_once = record { told = refl; stepped = refl; in_time = refl }

pub push_in_an_initial_document_suits : Suits push_in_an_initial_document_header (log_of push_in_an_initial_document)
unfolding url_on_literals is_web is_blank_url judged judged_parse read_against address_of url_of resolved with_fragment base_of fragment_of origin_text origin_of has_same_base is_rewritable events_of each_event after_opening AtEachEvent is_numbered opens is_formed is_once is_caused is_queued is_ordered is_checked ends_settled loads_end ends_told ends_stepped goes_in_time
push_in_an_initial_document_suits = record { opened = refl; placed = refl; kept = refl }

-- A push to another origin is refused.
abbrev pub push_to_another_origin : List Event
push_to_another_origin =
    by_start (rows.Opened (e 0 1) (s 1) (d 1) (p 1) None (codes "http://a.test/")) []
    ∷ by_ui (rows.Accepted (r 1) (Some (d 1)) (requests.Poke (n 0) (actions.Push (Some (codes "s")) (Some (codes "http://b.test/"))))) []
    ∷ by_ui (rows.Accepted (r 2) (Some (d 1)) (requests.Poke (n 0) (actions.Push (Some (codes "s")) (Some (codes "../1"))))) []
    ∷ by_proc 1 (rows.Refused (r 1) denials.BadAddress) []
    ∷ by_proc 1 (made 1 2 1 1 (whats.Push (e 1 1) (Some (codes "s")) (codes "http://a.test/1"))) []
    ∷ by_coord (rows.Delivered (p 1)) (rows.Applied (r 2) (changes.Push (n 0) (e 1 1) (s 1) (codes "http://a.test/1") (Some (codes "s"))) ∷ sent 1 1 0 1 (whys.Req (r 2)) (tasks.Update 2 1) ∷ [])
    ∷ by_proc 1 (rows.Taken (p 1) (j 1) true false) []
    ∷ by_proc 1 (rows.Finished (p 1) (j 1) outcomes.Updated) []
    ∷ by_coord (rows.Delivered (p 1)) []
    ∷ []

pub push_to_another_origin_is_legal : IsLegal (log_of push_to_another_origin)
unfolding url_on_literals is_web is_blank_url judged judged_parse read_against address_of url_of resolved with_fragment base_of fragment_of origin_text origin_of has_same_base is_rewritable events_of each_event after_opening AtEachEvent is_numbered opens is_formed is_once is_caused is_queued is_ordered is_checked ends_settled loads_end ends_told ends_stepped goes_in_time
push_to_another_origin_is_legal = record { opened = refl; numbered = refl; formed = refl; once = refl; caused = refl; queued = refl; ordered = refl; checked = refl; settled = refl }

pub push_to_another_origin_ends_loads : LoadsEndInTime (log_of push_to_another_origin)
unfolding url_on_literals is_web is_blank_url judged judged_parse read_against address_of url_of resolved with_fragment base_of fragment_of origin_text origin_of has_same_base is_rewritable events_of each_event after_opening AtEachEvent is_numbered opens is_formed is_once is_caused is_queued is_ordered is_checked ends_settled loads_end ends_told ends_stepped goes_in_time
push_to_another_origin_ends_loads = refl

pub push_to_another_origin_acts_at_once : ActsAtOnce (log_of push_to_another_origin)
unfolding url_on_literals is_web is_blank_url judged judged_parse read_against address_of url_of resolved with_fragment base_of fragment_of origin_text origin_of has_same_base is_rewritable events_of each_event after_opening AtEachEvent is_numbered opens is_formed is_once is_caused is_queued is_ordered is_checked ends_settled loads_end ends_told ends_stepped goes_in_time
push_to_another_origin_acts_at_once = record { told = refl; stepped = refl; in_time = refl }

pub push_to_another_origin_suits : Suits plain_settings (log_of push_to_another_origin)
unfolding url_on_literals is_web is_blank_url judged judged_parse read_against address_of url_of resolved with_fragment base_of fragment_of origin_text origin_of has_same_base is_rewritable events_of each_event after_opening AtEachEvent is_numbered opens is_formed is_once is_caused is_queued is_ordered is_checked ends_settled loads_end ends_told ends_stepped goes_in_time
push_to_another_origin_suits = record { opened = refl; placed = refl; kept = refl }

-- A poke while the document before runs still reaches the newer one.
abbrev pub poke_of_the_newer_document : List Event
poke_of_the_newer_document =
    by_start (rows.Opened (e 0 1) (s 1) (d 1) (p 1) None (codes "http://a.test/")) []
    ∷ by_ui (rows.Accepted (r 1) None (requests.Load (n 0) modes.Auto (codes "http://b.test/"))) (rows.Started (r 1) None ∷ sent 1 2 0 2 (whys.Req (r 1)) (tasks.Populate (n 0) (s 2) (codes "http://b.test/") false) ∷ [])
    ∷ by_proc 2 (rows.Taken (p 2) (j 1) true false) []
    ∷ by_proc 2 (rows.Finished (p 2) (j 1) (outcomes.Populated None)) []
    ∷ by_coord (rows.Delivered (p 2)) (rows.Applied (r 1) (changes.Push (n 0) (e 0 2) (s 2) (codes "http://b.test/") None) ∷ sent 2 1 0 1 (whys.Req (r 1)) tasks.Freeze ∷ sent 3 2 0 2 (whys.Req (r 1)) (tasks.Activate (e 0 2) (epoch 2) 2 1 None (codes "http://b.test/")) ∷ [])
    ∷ by_proc 2 (rows.Taken (p 2) (j 3) true false) []
    ∷ by_proc 2 (rows.Finished (p 2) (j 3) outcomes.Activated) []
    ∷ by_ui (rows.Accepted (r 2) (Some (d 2)) (requests.Poke (n 0) (actions.Push (Some (codes "s")) (Some (codes "/1"))))) []
    ∷ by_proc 1 (rows.Taken (p 1) (j 2) true false) []
    ∷ by_proc 1 (rows.Finished (p 1) (j 2) outcomes.Frozen) []
    ∷ by_coord (rows.Delivered (p 1)) []
    ∷ by_proc 2 (made 2 2 2 2 (whats.Push (e 2 1) (Some (codes "s")) (codes "http://b.test/1"))) []
    ∷ by_coord (rows.Delivered (p 2)) []
    ∷ by_coord (rows.Delivered (p 2)) (rows.Applied (r 2) (changes.Push (n 0) (e 2 1) (s 2) (codes "http://b.test/1") (Some (codes "s"))) ∷ sent 4 2 0 2 (whys.Req (r 2)) (tasks.Update 3 2) ∷ [])
    ∷ by_proc 2 (rows.Taken (p 2) (j 4) true false) []
    ∷ by_proc 2 (rows.Finished (p 2) (j 4) outcomes.Updated) []
    ∷ by_coord (rows.Delivered (p 2)) []
    ∷ []

abbrev pub poke_of_the_newer_document_header : Header
poke_of_the_newer_document_header = record { keep = 3; sites = record { origin = codes "http://b.test"; proc = p 2 } ∷ []; pages = []; first = codes "http://a.test/" }

pub poke_of_the_newer_document_is_legal : IsLegal (log_of poke_of_the_newer_document)
unfolding url_on_literals is_web is_blank_url judged judged_parse read_against address_of url_of resolved with_fragment base_of fragment_of origin_text origin_of has_same_base is_rewritable events_of each_event after_opening AtEachEvent is_numbered opens is_formed is_once is_caused is_queued is_ordered is_checked ends_settled loads_end ends_told ends_stepped goes_in_time
poke_of_the_newer_document_is_legal = record { opened = refl; numbered = refl; formed = refl; once = refl; caused = refl; queued = refl; ordered = refl; checked = refl; settled = refl }

pub poke_of_the_newer_document_ends_loads : LoadsEndInTime (log_of poke_of_the_newer_document)
unfolding url_on_literals is_web is_blank_url judged judged_parse read_against address_of url_of resolved with_fragment base_of fragment_of origin_text origin_of has_same_base is_rewritable events_of each_event after_opening AtEachEvent is_numbered opens is_formed is_once is_caused is_queued is_ordered is_checked ends_settled loads_end ends_told ends_stepped goes_in_time
poke_of_the_newer_document_ends_loads = refl

pub poke_of_the_newer_document_acts_at_once : ActsAtOnce (log_of poke_of_the_newer_document)
unfolding url_on_literals is_web is_blank_url judged judged_parse read_against address_of url_of resolved with_fragment base_of fragment_of origin_text origin_of has_same_base is_rewritable events_of each_event after_opening AtEachEvent is_numbered opens is_formed is_once is_caused is_queued is_ordered is_checked ends_settled loads_end ends_told ends_stepped goes_in_time
poke_of_the_newer_document_acts_at_once = record { told = refl; stepped = refl; in_time = refl }

pub poke_of_the_newer_document_suits : Suits poke_of_the_newer_document_header (log_of poke_of_the_newer_document)
unfolding url_on_literals is_web is_blank_url judged judged_parse read_against address_of url_of resolved with_fragment base_of fragment_of origin_text origin_of has_same_base is_rewritable events_of each_event after_opening AtEachEvent is_numbered opens is_formed is_once is_caused is_queued is_ordered is_checked ends_settled loads_end ends_told ends_stepped goes_in_time
poke_of_the_newer_document_suits = record { opened = refl; placed = refl; kept = refl }

-- A fragment that the address has already is a replace.
abbrev pub same_fragment_again : List Event
same_fragment_again =
    by_start (rows.Opened (e 0 1) (s 1) (d 1) (p 1) None (codes "http://a.test/")) []
    ∷ by_ui (rows.Accepted (r 1) (Some (d 1)) (requests.Poke (n 0) (actions.Fragment (codes "x")))) []
    ∷ by_proc 1 (made 1 1 1 1 (whats.Push (e 1 1) None (codes "http://a.test/#x"))) []
    ∷ by_coord (rows.Delivered (p 1)) (rows.Applied (r 1) (changes.Push (n 0) (e 1 1) (s 1) (codes "http://a.test/#x") None) ∷ sent 1 1 0 1 (whys.Req (r 1)) (tasks.Update 2 1) ∷ [])
    ∷ by_proc 1 (rows.Taken (p 1) (j 1) true false) []
    ∷ by_proc 1 (rows.Finished (p 1) (j 1) outcomes.Updated) []
    ∷ by_coord (rows.Delivered (p 1)) []
    ∷ by_ui (rows.Accepted (r 2) (Some (d 1)) (requests.Poke (n 0) (actions.Fragment (codes "x")))) []
    ∷ by_proc 1 (made 1 2 1 1 (whats.Replace (e 1 1) (e 1 2) None (codes "http://a.test/#x"))) []
    ∷ by_coord (rows.Delivered (p 1)) (rows.Applied (r 2) (changes.Replace (n 0) (e 1 1) (e 1 2) (s 1) (codes "http://a.test/#x") None) ∷ [])
    ∷ []

pub same_fragment_again_is_legal : IsLegal (log_of same_fragment_again)
unfolding url_on_literals is_web is_blank_url judged judged_parse read_against address_of url_of resolved with_fragment base_of fragment_of origin_text origin_of has_same_base is_rewritable events_of each_event after_opening AtEachEvent is_numbered opens is_formed is_once is_caused is_queued is_ordered is_checked ends_settled loads_end ends_told ends_stepped goes_in_time
same_fragment_again_is_legal = record { opened = refl; numbered = refl; formed = refl; once = refl; caused = refl; queued = refl; ordered = refl; checked = refl; settled = refl }

pub same_fragment_again_ends_loads : LoadsEndInTime (log_of same_fragment_again)
unfolding url_on_literals is_web is_blank_url judged judged_parse read_against address_of url_of resolved with_fragment base_of fragment_of origin_text origin_of has_same_base is_rewritable events_of each_event after_opening AtEachEvent is_numbered opens is_formed is_once is_caused is_queued is_ordered is_checked ends_settled loads_end ends_told ends_stepped goes_in_time
same_fragment_again_ends_loads = refl

pub same_fragment_again_acts_at_once : ActsAtOnce (log_of same_fragment_again)
unfolding url_on_literals is_web is_blank_url judged judged_parse read_against address_of url_of resolved with_fragment base_of fragment_of origin_text origin_of has_same_base is_rewritable events_of each_event after_opening AtEachEvent is_numbered opens is_formed is_once is_caused is_queued is_ordered is_checked ends_settled loads_end ends_told ends_stepped goes_in_time
same_fragment_again_acts_at_once = record { told = refl; stepped = refl; in_time = refl }

pub same_fragment_again_suits : Suits plain_settings (log_of same_fragment_again)
unfolding url_on_literals is_web is_blank_url judged judged_parse read_against address_of url_of resolved with_fragment base_of fragment_of origin_text origin_of has_same_base is_rewritable events_of each_event after_opening AtEachEvent is_numbered opens is_formed is_once is_caused is_queued is_ordered is_checked ends_settled loads_end ends_told ends_stepped goes_in_time
same_fragment_again_suits = record { opened = refl; placed = refl; kept = refl }
