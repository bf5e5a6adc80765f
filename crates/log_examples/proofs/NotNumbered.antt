-- Broken logs, each refused by the field `numbered`.
-- A log is its events: those before one of another log, since one, or between two, and its own.
use Rattle.std.proofs.Common.{true, false, List, [], ◌∷◌, codes, Some, None}
use Rattle.std.proofs.lemmas.Bool.{false≢true}
use Rattle.url.proofs.OnLiterals.{url_on_literals}
use Rattle.address.specs.Addresses.{is_web, is_blank_url, judged, judged_parse, read_against, address_of, url_of, resolved, with_fragment, base_of, fragment_of, origin_text, origin_of, has_same_base, is_rewritable}
use Rattle.log_model.specs.declared.action.Action.TheVariants as actions
use Rattle.log_model.specs.declared.change.Change.TheVariants as changes
use Rattle.log_model.specs.declared.job.Task.TheVariants as tasks
use Rattle.log_model.specs.declared.job.Why.TheVariants as whys
use Rattle.log_model.specs.declared.made.What.TheVariants as whats
use Rattle.log_model.specs.declared.outcome.Outcome.TheVariants as outcomes
use Rattle.log_model.specs.declared.request.Mode.TheVariants as modes
use Rattle.log_model.specs.declared.request.Request.TheVariants as requests
use Rattle.log_model.specs.declared.row_kind.Actor.TheVariants as actors
use Rattle.log_model.specs.declared.row_kind.LogRow.{LogRow}
use Rattle.log_model.specs.declared.row_kind.RowKind.TheVariants as rows
use Rattle.log_model.specs.Events.{events_of, each_event, after_opening, AtEachEvent}
use Rattle.log_model.specs.Formed.{is_numbered}
use Rattle.log_model.specs.Legal.{IsLegal, opens, is_formed, is_once, is_caused, is_queued, is_ordered, is_checked, ends_settled}
use Rattle.log_model.specs.LoadsEndInTime.{loads_end}
use Rattle.log_model.specs.ActsAtOnce.{ends_told, ends_stepped, goes_in_time}
use Rattle.log_examples.specs.Rows.{n, s, r, p, d, j, e, at, sent, made}

-- An event is left out, and its number is missing.
abbrev pub gap : List LogRow
gap =
    at 0 actors.Start (rows.Opened (e 0 1) (s 1) (d 1) (p 1) None (codes "http://a.test/"))
    ∷ at 1 actors.Ui (rows.Accepted (r 1) (Some (d 1)) (requests.Poke (n 0) (actions.Push (Some (codes "s1")) (Some (codes "/1")))))
    ∷ at 2 actors.Ui (rows.Accepted (r 2) (Some (d 1)) (requests.Poke (n 0) (actions.Push (Some (codes "s2")) (Some (codes "/2")))))
    ∷ at 3 actors.Ui (rows.Accepted (r 3) (Some (d 1)) (requests.Poke (n 0) (actions.Push (Some (codes "s3")) (Some (codes "/3")))))
    ∷ at 5 actors.Coord (rows.Delivered (p 1))
    ∷ at 5 actors.Coord (rows.Applied (r 1) (changes.Push (n 0) (e 1 1) (s 1) (codes "http://a.test/1") (Some (codes "s1"))))
    ∷ at 5 actors.Coord (sent 1 1 0 1 (whys.Req (r 1)) (tasks.Update 2 1))
    ∷ at 6 (actors.Proc (p 1)) (made 1 2 1 1 (whats.Push (e 1 2) (Some (codes "s2")) (codes "http://a.test/2")))
    ∷ at 7 (actors.Proc (p 1)) (rows.Taken (p 1) (j 1) true false)
    ∷ at 8 (actors.Proc (p 1)) (rows.Finished (p 1) (j 1) outcomes.Updated)
    ∷ at 9 actors.Coord (rows.Delivered (p 1))
    ∷ at 9 actors.Coord (rows.Applied (r 2) (changes.Push (n 0) (e 1 2) (s 1) (codes "http://a.test/2") (Some (codes "s2"))))
    ∷ at 9 actors.Coord (sent 2 1 0 1 (whys.Req (r 2)) (tasks.Update 3 2))
    ∷ at 10 (actors.Proc (p 1)) (made 1 3 1 1 (whats.Push (e 1 3) (Some (codes "s3")) (codes "http://a.test/3")))
    ∷ at 11 (actors.Proc (p 1)) (rows.Taken (p 1) (j 2) true false)
    ∷ at 12 (actors.Proc (p 1)) (rows.Finished (p 1) (j 2) outcomes.Updated)
    ∷ at 13 actors.Coord (rows.Delivered (p 1))
    ∷ at 14 actors.Coord (rows.Delivered (p 1))
    ∷ at 14 actors.Coord (rows.Applied (r 3) (changes.Push (n 0) (e 1 3) (s 1) (codes "http://a.test/3") (Some (codes "s3"))))
    ∷ at 14 actors.Coord (sent 3 1 0 1 (whys.Req (r 3)) (tasks.Update 4 3))
    ∷ at 15 (actors.Proc (p 1)) (rows.Taken (p 1) (j 3) true false)
    ∷ at 16 (actors.Proc (p 1)) (rows.Finished (p 1) (j 3) outcomes.Updated)
    ∷ at 17 actors.Coord (rows.Delivered (p 1))
    ∷ at 18 actors.Coord (rows.Delivered (p 1))
    ∷ []

pub gap_is_refused : IsLegal gap → ⊥
unfolding url_on_literals is_web is_blank_url judged judged_parse read_against address_of url_of resolved with_fragment base_of fragment_of origin_text origin_of has_same_base is_rewritable events_of each_event after_opening AtEachEvent is_numbered opens is_formed is_once is_caused is_queued is_ordered is_checked ends_settled loads_end ends_told ends_stepped goes_in_time
gap_is_refused holds = false≢true holds.numbered

-- A row of an event has another actor.
abbrev pub two_actors : List LogRow
two_actors =
    at 0 actors.Start (rows.Opened (e 0 1) (s 1) (d 1) (p 1) None (codes "http://a.test/"))
    ∷ at 1 actors.Ui (rows.Accepted (r 1) (Some (d 1)) (requests.Poke (n 0) (actions.Push (Some (codes "s")) (Some (codes "/1")))))
    ∷ at 2 (actors.Proc (p 1)) (made 1 1 1 1 (whats.Push (e 1 1) (Some (codes "s")) (codes "http://a.test/1")))
    ∷ at 3 actors.Coord (rows.Delivered (p 1))
    ∷ at 3 actors.Ui (rows.Applied (r 1) (changes.Push (n 0) (e 1 1) (s 1) (codes "http://a.test/1") (Some (codes "s"))))
    ∷ at 3 actors.Coord (sent 1 1 0 1 (whys.Req (r 1)) (tasks.Update 2 1))
    ∷ at 4 (actors.Proc (p 1)) (rows.Taken (p 1) (j 1) true false)
    ∷ at 5 (actors.Proc (p 1)) (rows.Finished (p 1) (j 1) outcomes.Updated)
    ∷ at 6 actors.Coord (rows.Delivered (p 1))
    ∷ []

pub two_actors_is_refused : IsLegal two_actors → ⊥
unfolding url_on_literals is_web is_blank_url judged judged_parse read_against address_of url_of resolved with_fragment base_of fragment_of origin_text origin_of has_same_base is_rewritable events_of each_event after_opening AtEachEvent is_numbered opens is_formed is_once is_caused is_queued is_ordered is_checked ends_settled loads_end ends_told ends_stepped goes_in_time
two_actors_is_refused holds = false≢true holds.numbered

-- same_actor: were equation 4 true, `numbered` would hold.
abbrev pub same_actor_1 : List LogRow
same_actor_1 =
    at 0 actors.Start (rows.Opened (e 0 1) (s 1) (d 1) (p 1) None (codes "http://a.test/"))
    ∷ at 1 actors.Ui (rows.Accepted (r 1) None (requests.Load (n 0) modes.Auto (codes "http://a.test/#x")))
    ∷ at 1 actors.Ui (sent 1 1 0 1 (whys.Req (r 1)) (tasks.DoFragment (r 1) modes.Auto (codes "http://a.test/#x")))
    ∷ at 2 (actors.Proc (p 1)) (rows.Taken (p 1) (j 1) true false)
    ∷ at 3 (actors.Proc (p 1)) (rows.Finished (p 1) (j 1) outcomes.Fragmented)
    ∷ at 3 (actors.Proc (p 2)) (made 1 1 1 1 (whats.Push (e 1 1) None (codes "http://a.test/#x")))
    ∷ []

pub same_actor_1_is_refused : IsLegal same_actor_1 → ⊥
unfolding url_on_literals is_web is_blank_url judged judged_parse read_against address_of url_of resolved with_fragment base_of fragment_of origin_text origin_of has_same_base is_rewritable events_of each_event after_opening AtEachEvent is_numbered opens is_formed is_once is_caused is_queued is_ordered is_checked ends_settled loads_end ends_told ends_stepped goes_in_time
same_actor_1_is_refused holds = false≢true holds.numbered
