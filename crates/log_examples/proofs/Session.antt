-- Legal logs: session.
-- A log is its events: those before one of another log, since one, or between two, and its own.
use Rattle.std.proofs.Common.{pos, negsuc, true, false, List, [], ◌∷◌, codes, refl, Some, None}
use Rattle.url.proofs.OnLiterals.{url_on_literals}
use Rattle.address.specs.Addresses.{is_web, is_blank_url, judged, judged_parse, read_against, address_of, url_of, resolved, with_fragment, base_of, fragment_of, origin_text, origin_of, has_same_base, is_rewritable}
use Rattle.log_model.specs.declared.action.Action.TheVariants as actions
use Rattle.log_model.specs.declared.change.Change.TheVariants as changes
use Rattle.log_model.specs.declared.handler.LeaveCause.TheVariants as leavings
use Rattle.log_model.specs.declared.handler.Verdict.TheVariants as verdicts
use Rattle.log_model.specs.declared.job.Task.TheVariants as tasks
use Rattle.log_model.specs.declared.job.Why.TheVariants as whys
use Rattle.log_model.specs.declared.made.What.TheVariants as whats
use Rattle.log_model.specs.declared.outcome.Cause.TheVariants as drops
use Rattle.log_model.specs.declared.outcome.Outcome.TheVariants as outcomes
use Rattle.log_model.specs.declared.request.Mode.TheVariants as modes
use Rattle.log_model.specs.declared.request.Request.TheVariants as requests
use Rattle.log_model.specs.declared.row_kind.RowKind.TheVariants as rows
use Rattle.log_model.specs.Events.{events_of, each_event, after_opening, AtEachEvent}
use Rattle.log_model.specs.Formed.{is_numbered}
use Rattle.log_model.specs.Legal.{IsLegal, opens, is_formed, is_once, is_caused, is_queued, is_ordered, is_checked, ends_settled}
use Rattle.log_model.specs.LoadsEndInTime.{LoadsEndInTime, loads_end}
use Rattle.log_model.specs.ActsAtOnce.{ActsAtOnce, ends_told, ends_stepped, goes_in_time}
use Rattle.log_model.specs.Suits.{Suits}
use Rattle.log_model.specs.declared.header.Header.{Header}
use Rattle.log_examples.specs.Rows.{n, s, r, p, t, x, d, j, e, epoch, sent, made}
use Rattle.log_examples.specs.Logs.{Event, by_start, by_ui, by_coord, by_proc, log_of}

-- A session with sites, frames, a dirty page and a death.
abbrev pub whole_session : List Event
whole_session =
    by_start (rows.Opened (e 0 1) (s 1) (d 1) (p 1) None (codes "http://news.test/")) []
    ∷ by_ui (rows.Accepted (r 1) None (requests.Load (n 0) modes.Auto (codes "http://news.test/1"))) (rows.Started (r 1) None ∷ sent 1 1 0 2 (whys.Req (r 1)) (tasks.Populate (n 0) (s 2) (codes "http://news.test/1") false) ∷ [])
    ∷ by_proc 1 (rows.Taken (p 1) (j 1) true false) []
    ∷ by_proc 1 (rows.Finished (p 1) (j 1) (outcomes.Populated None)) []
    ∷ by_coord (rows.Delivered (p 1)) (rows.Applied (r 1) (changes.Push (n 0) (e 0 2) (s 2) (codes "http://news.test/1") None) ∷ sent 2 1 0 1 (whys.Req (r 1)) tasks.Freeze ∷ sent 3 1 0 2 (whys.Req (r 1)) (tasks.Activate (e 0 2) (epoch 2) 2 1 None (codes "http://news.test/1")) ∷ [])
    ∷ by_proc 1 (rows.Taken (p 1) (j 2) true false) []
    ∷ by_proc 1 (rows.Finished (p 1) (j 2) outcomes.Frozen) []
    ∷ by_coord (rows.Delivered (p 1)) []
    ∷ by_proc 1 (rows.Taken (p 1) (j 3) true false) []
    ∷ by_proc 1 (rows.Finished (p 1) (j 3) outcomes.Activated) []
    ∷ by_coord (rows.Delivered (p 1)) []
    ∷ by_ui (rows.Accepted (r 2) None (requests.Load (n 0) modes.Auto (codes "http://news.test/2"))) (rows.Started (r 2) None ∷ sent 4 1 0 3 (whys.Req (r 2)) (tasks.Populate (n 0) (s 3) (codes "http://news.test/2") false) ∷ [])
    ∷ by_proc 1 (rows.Taken (p 1) (j 4) true false) []
    ∷ by_proc 1 (rows.Finished (p 1) (j 4) (outcomes.Populated None)) []
    ∷ by_coord (rows.Delivered (p 1)) (rows.Applied (r 2) (changes.Push (n 0) (e 0 3) (s 3) (codes "http://news.test/2") None) ∷ sent 5 1 0 2 (whys.Req (r 2)) tasks.Freeze ∷ sent 6 1 0 3 (whys.Req (r 2)) (tasks.Activate (e 0 3) (epoch 3) 3 2 None (codes "http://news.test/2")) ∷ [])
    ∷ by_proc 1 (rows.Taken (p 1) (j 5) true false) []
    ∷ by_proc 1 (rows.Finished (p 1) (j 5) outcomes.Frozen) []
    ∷ by_coord (rows.Delivered (p 1)) []
    ∷ by_proc 1 (rows.Taken (p 1) (j 6) true false) []
    ∷ by_proc 1 (rows.Finished (p 1) (j 6) outcomes.Activated) []
    ∷ by_coord (rows.Delivered (p 1)) []
    ∷ by_ui (rows.Accepted (r 3) (Some (d 3)) (requests.Poke (n 0) (actions.AddFrame (n 1)))) []
    ∷ by_proc 1 (made 1 3 3 3 (whats.AddFrame (n 1))) []
    ∷ by_coord (rows.Delivered (p 1)) (rows.Applied (r 3) (changes.AddFrame (s 3) (n 1) (e 0 4) (s 4)) ∷ sent 7 1 0 4 (whys.Req (r 3)) (tasks.Populate (n 1) (s 4) (codes "about:blank") true) ∷ [])
    ∷ by_proc 1 (rows.Taken (p 1) (j 7) true false) []
    ∷ by_proc 1 (rows.Finished (p 1) (j 7) (outcomes.Populated None)) []
    ∷ by_coord (rows.Delivered (p 1)) (sent 8 1 0 4 (whys.Req (r 3)) (tasks.Activate (e 0 4) (epoch 1) 3 2 None (codes "about:blank")) ∷ [])
    ∷ by_proc 1 (rows.Taken (p 1) (j 8) true false) []
    ∷ by_proc 1 (rows.Finished (p 1) (j 8) outcomes.Activated) []
    ∷ by_coord (rows.Delivered (p 1)) []
    ∷ by_ui (rows.Accepted (r 4) None (requests.Load (n 1) modes.Auto (codes "http://ads.test/a"))) (rows.Started (r 4) None ∷ sent 9 3 0 5 (whys.Req (r 4)) (tasks.Populate (n 1) (s 5) (codes "http://ads.test/a") false) ∷ [])
    ∷ by_proc 3 (rows.Taken (p 3) (j 9) true false) []
    ∷ by_proc 3 (rows.Finished (p 3) (j 9) (outcomes.Populated None)) []
    ∷ by_coord (rows.Delivered (p 3)) (rows.Applied (r 4) (changes.Replace (n 1) (e 0 4) (e 0 5) (s 5) (codes "http://ads.test/a") None) ∷ sent 10 1 0 4 (whys.Req (r 4)) tasks.Discard ∷ sent 11 3 0 5 (whys.Req (r 4)) (tasks.Activate (e 0 5) (epoch 2) 3 2 None (codes "http://ads.test/a")) ∷ [])
    ∷ by_proc 1 (rows.Taken (p 1) (j 10) true false) []
    ∷ by_proc 1 (rows.Finished (p 1) (j 10) outcomes.Discarded) []
    ∷ by_coord (rows.Delivered (p 1)) []
    ∷ by_proc 3 (rows.Taken (p 3) (j 11) true false) []
    ∷ by_proc 3 (rows.Finished (p 3) (j 11) outcomes.Activated) []
    ∷ by_coord (rows.Delivered (p 3)) []
    ∷ by_ui (rows.Accepted (r 5) None (requests.Load (n 0) modes.Auto (codes "http://news.test/2#top"))) (sent 12 1 0 3 (whys.Req (r 5)) (tasks.DoFragment (r 5) modes.Auto (codes "http://news.test/2#top")) ∷ [])
    ∷ by_proc 1 (rows.Taken (p 1) (j 12) true false) []
    ∷ by_proc 1 (rows.Finished (p 1) (j 12) outcomes.Fragmented) (made 1 5 3 3 (whats.Push (e 3 1) None (codes "http://news.test/2#top")) ∷ [])
    ∷ by_coord (rows.Delivered (p 1)) (rows.Applied (r 5) (changes.Push (n 0) (e 3 1) (s 3) (codes "http://news.test/2#top") None) ∷ sent 13 1 0 3 (whys.Req (r 5)) (tasks.Update 4 3) ∷ sent 14 3 0 5 (whys.Req (r 5)) (tasks.Update 4 3) ∷ [])
    ∷ by_proc 3 (rows.Taken (p 3) (j 14) true false) []
    ∷ by_proc 3 (rows.Finished (p 3) (j 14) outcomes.Updated) []
    ∷ by_coord (rows.Delivered (p 3)) []
    ∷ by_proc 1 (rows.Taken (p 1) (j 13) true false) []
    ∷ by_proc 1 (rows.Finished (p 1) (j 13) outcomes.Updated) []
    ∷ by_coord (rows.Delivered (p 1)) []
    ∷ by_ui (rows.Accepted (r 6) None (requests.Load (n 0) modes.Auto (codes "http://news.test/3"))) (rows.Started (r 6) None ∷ sent 15 1 0 6 (whys.Req (r 6)) (tasks.Populate (n 0) (s 6) (codes "http://news.test/3") false) ∷ [])
    ∷ by_proc 1 (rows.Taken (p 1) (j 15) true false) []
    ∷ by_proc 1 (rows.Finished (p 1) (j 15) (outcomes.Populated None)) []
    ∷ by_coord (rows.Delivered (p 1)) (rows.Applied (r 6) (changes.Push (n 0) (e 0 6) (s 6) (codes "http://news.test/3") None) ∷ sent 16 1 0 3 (whys.Req (r 6)) tasks.Freeze ∷ sent 17 3 0 5 (whys.Req (r 6)) tasks.Freeze ∷ sent 18 1 0 6 (whys.Req (r 6)) (tasks.Activate (e 0 6) (epoch 4) 5 4 None (codes "http://news.test/3")) ∷ [])
    ∷ by_proc 3 (rows.Taken (p 3) (j 17) true false) []
    ∷ by_proc 3 (rows.Finished (p 3) (j 17) outcomes.Frozen) []
    ∷ by_coord (rows.Delivered (p 3)) []
    ∷ by_proc 1 (rows.Taken (p 1) (j 16) true false) []
    ∷ by_proc 1 (rows.Finished (p 1) (j 16) outcomes.Frozen) []
    ∷ by_coord (rows.Delivered (p 1)) []
    ∷ by_proc 1 (rows.Taken (p 1) (j 18) true false) []
    ∷ by_proc 1 (rows.Finished (p 1) (j 18) outcomes.Activated) []
    ∷ by_coord (rows.Delivered (p 1)) []
    ∷ by_ui (rows.Accepted (r 7) None (requests.Go (negsuc 0))) (rows.Started (r 7) (Some (t 3)) ∷ sent 19 1 0 6 (whys.Req (r 7)) tasks.Freeze ∷ sent 20 1 0 1 (whys.Req (r 7)) tasks.Discard ∷ sent 21 1 0 3 (whys.Req (r 7)) (tasks.Activate (e 3 1) (epoch 5) 5 3 None (codes "http://news.test/2#top")) ∷ sent 22 3 0 5 (whys.Req (r 7)) (tasks.Activate (e 0 5) (epoch 3) 5 3 None (codes "http://ads.test/a")) ∷ [])
    ∷ by_proc 1 (rows.Taken (p 1) (j 19) true false) []
    ∷ by_proc 1 (rows.Finished (p 1) (j 19) outcomes.Frozen) []
    ∷ by_coord (rows.Delivered (p 1)) []
    ∷ by_proc 3 (rows.Taken (p 3) (j 22) true false) []
    ∷ by_proc 3 (rows.Finished (p 3) (j 22) outcomes.Activated) []
    ∷ by_coord (rows.Delivered (p 3)) []
    ∷ by_proc 1 (rows.Taken (p 1) (j 20) true false) []
    ∷ by_proc 1 (rows.Finished (p 1) (j 20) outcomes.Discarded) []
    ∷ by_coord (rows.Delivered (p 1)) []
    ∷ by_proc 1 (rows.Taken (p 1) (j 21) true false) []
    ∷ by_proc 1 (rows.Finished (p 1) (j 21) outcomes.Activated) []
    ∷ by_coord (rows.Delivered (p 1)) (rows.Applied (r 7) (changes.Traverse (t 3)) ∷ [])
    ∷ by_ui (rows.Accepted (r 8) None (requests.Go (pos 1))) (rows.Started (r 8) (Some (t 4)) ∷ sent 23 1 0 3 (whys.Req (r 8)) tasks.Freeze ∷ sent 24 3 0 5 (whys.Req (r 8)) tasks.Freeze ∷ sent 25 1 0 6 (whys.Req (r 8)) (tasks.Activate (e 0 6) (epoch 6) 5 4 None (codes "http://news.test/3")) ∷ [])
    ∷ by_proc 1 (rows.Taken (p 1) (j 23) true false) []
    ∷ by_proc 1 (rows.Finished (p 1) (j 23) outcomes.Frozen) []
    ∷ by_coord (rows.Delivered (p 1)) []
    ∷ by_proc 3 (rows.Taken (p 3) (j 24) true false) []
    ∷ by_proc 3 (rows.Finished (p 3) (j 24) outcomes.Frozen) []
    ∷ by_coord (rows.Delivered (p 3)) []
    ∷ by_proc 1 (rows.Taken (p 1) (j 25) true false) []
    ∷ by_proc 1 (rows.Finished (p 1) (j 25) outcomes.Activated) []
    ∷ by_coord (rows.Delivered (p 1)) (rows.Applied (r 8) (changes.Traverse (t 4)) ∷ [])
    ∷ by_ui (rows.Accepted (r 9) None (requests.Load (n 0) modes.Auto (codes "http://shop.test/"))) (rows.Started (r 9) None ∷ sent 26 2 0 7 (whys.Req (r 9)) (tasks.Populate (n 0) (s 7) (codes "http://shop.test/") false) ∷ [])
    ∷ by_proc 2 (rows.Taken (p 2) (j 26) true false) []
    ∷ by_proc 2 (rows.Finished (p 2) (j 26) (outcomes.Populated None)) []
    ∷ by_coord (rows.Delivered (p 2)) (rows.Applied (r 9) (changes.Push (n 0) (e 0 7) (s 7) (codes "http://shop.test/") None) ∷ sent 27 1 0 6 (whys.Req (r 9)) tasks.Freeze ∷ sent 28 2 0 7 (whys.Req (r 9)) (tasks.Activate (e 0 7) (epoch 7) 6 5 None (codes "http://shop.test/")) ∷ [])
    ∷ by_proc 1 (rows.Taken (p 1) (j 27) true false) []
    ∷ by_proc 1 (rows.Finished (p 1) (j 27) outcomes.Frozen) []
    ∷ by_coord (rows.Delivered (p 1)) []
    ∷ by_proc 2 (rows.Taken (p 2) (j 28) true false) []
    ∷ by_proc 2 (rows.Finished (p 2) (j 28) outcomes.Activated) []
    ∷ by_coord (rows.Delivered (p 2)) []
    ∷ by_ui (rows.Accepted (r 10) None (requests.Load (n 0) modes.Auto (codes "http://shop.test/p1"))) (rows.Started (r 10) None ∷ sent 29 2 0 8 (whys.Req (r 10)) (tasks.Populate (n 0) (s 8) (codes "http://shop.test/p1") false) ∷ [])
    ∷ by_proc 2 (rows.Taken (p 2) (j 29) true false) []
    ∷ by_proc 2 (rows.Finished (p 2) (j 29) (outcomes.Populated None)) []
    ∷ by_coord (rows.Delivered (p 2)) (rows.Applied (r 10) (changes.Push (n 0) (e 0 8) (s 8) (codes "http://shop.test/p1") None) ∷ sent 30 2 0 7 (whys.Req (r 10)) tasks.Freeze ∷ sent 31 1 0 2 (whys.Req (r 10)) tasks.Discard ∷ sent 32 2 0 8 (whys.Req (r 10)) (tasks.Activate (e 0 8) (epoch 8) 7 6 None (codes "http://shop.test/p1")) ∷ [])
    ∷ by_proc 1 (rows.Taken (p 1) (j 31) true false) []
    ∷ by_proc 1 (rows.Finished (p 1) (j 31) outcomes.Discarded) []
    ∷ by_coord (rows.Delivered (p 1)) []
    ∷ by_proc 2 (rows.Taken (p 2) (j 30) true false) []
    ∷ by_proc 2 (rows.Finished (p 2) (j 30) outcomes.Frozen) []
    ∷ by_coord (rows.Delivered (p 2)) []
    ∷ by_proc 2 (rows.Taken (p 2) (j 32) true false) []
    ∷ by_proc 2 (rows.Finished (p 2) (j 32) outcomes.Activated) []
    ∷ by_coord (rows.Delivered (p 2)) []
    ∷ by_ui (rows.Accepted (r 11) None (requests.Load (n 0) modes.Auto (codes "http://shop.test/p2"))) (rows.Started (r 11) None ∷ sent 33 2 0 9 (whys.Req (r 11)) (tasks.Populate (n 0) (s 9) (codes "http://shop.test/p2") false) ∷ [])
    ∷ by_proc 2 (rows.Taken (p 2) (j 33) true false) []
    ∷ by_proc 2 (rows.Finished (p 2) (j 33) (outcomes.Populated None)) []
    ∷ by_coord (rows.Delivered (p 2)) (rows.Applied (r 11) (changes.Push (n 0) (e 0 9) (s 9) (codes "http://shop.test/p2") None) ∷ sent 34 2 0 8 (whys.Req (r 11)) tasks.Freeze ∷ sent 35 1 0 3 (whys.Req (r 11)) tasks.Discard ∷ sent 36 3 0 5 (whys.Req (r 11)) tasks.Discard ∷ sent 37 2 0 9 (whys.Req (r 11)) (tasks.Activate (e 0 9) (epoch 9) 8 7 None (codes "http://shop.test/p2")) ∷ [])
    ∷ by_proc 3 (rows.Taken (p 3) (j 36) true false) []
    ∷ by_proc 3 (rows.Finished (p 3) (j 36) outcomes.Discarded) []
    ∷ by_coord (rows.Delivered (p 3)) []
    ∷ by_proc 1 (rows.Taken (p 1) (j 35) true false) []
    ∷ by_proc 1 (rows.Finished (p 1) (j 35) outcomes.Discarded) []
    ∷ by_coord (rows.Delivered (p 1)) []
    ∷ by_proc 2 (rows.Taken (p 2) (j 34) true false) []
    ∷ by_proc 2 (rows.Finished (p 2) (j 34) outcomes.Frozen) []
    ∷ by_coord (rows.Delivered (p 2)) []
    ∷ by_proc 2 (rows.Taken (p 2) (j 37) true false) []
    ∷ by_proc 2 (rows.Finished (p 2) (j 37) outcomes.Activated) []
    ∷ by_coord (rows.Delivered (p 2)) []
    ∷ by_ui (rows.Accepted (r 12) None (requests.Load (n 0) modes.Auto (codes "http://shop.test/cart"))) (rows.Started (r 12) None ∷ sent 38 2 0 10 (whys.Req (r 12)) (tasks.Populate (n 0) (s 10) (codes "http://shop.test/cart") false) ∷ [])
    ∷ by_proc 2 (rows.Taken (p 2) (j 38) true false) []
    ∷ by_proc 2 (rows.Finished (p 2) (j 38) (outcomes.Populated (Some 0))) []
    ∷ by_coord (rows.Delivered (p 2)) (rows.Applied (r 12) (changes.Push (n 0) (e 0 10) (s 10) (codes "http://shop.test/cart") None) ∷ sent 39 2 0 9 (whys.Req (r 12)) tasks.Freeze ∷ sent 40 1 0 6 (whys.Req (r 12)) tasks.Discard ∷ sent 41 2 0 10 (whys.Req (r 12)) (tasks.Activate (e 0 10) (epoch 10) 9 8 None (codes "http://shop.test/cart")) ∷ [])
    ∷ by_proc 1 (rows.Taken (p 1) (j 40) true false) []
    ∷ by_proc 1 (rows.Finished (p 1) (j 40) outcomes.Discarded) []
    ∷ by_coord (rows.Delivered (p 1)) []
    ∷ by_proc 2 (rows.Taken (p 2) (j 39) true false) []
    ∷ by_proc 2 (rows.Finished (p 2) (j 39) outcomes.Frozen) []
    ∷ by_coord (rows.Delivered (p 2)) []
    ∷ by_proc 2 (rows.Taken (p 2) (j 41) true false) []
    ∷ by_proc 2 (rows.Finished (p 2) (j 41) outcomes.Activated) []
    ∷ by_coord (rows.Delivered (p 2)) []
    ∷ by_ui (rows.Accepted (r 13) (Some (d 10)) (requests.Poke (n 0) actions.Edit)) []
    ∷ by_proc 2 (made 2 13 10 10 whats.Edit) (rows.Applied (r 13) changes.Edit ∷ [])
    ∷ by_ui (rows.Accepted (r 14) None (requests.Load (n 0) modes.Auto (codes "http://news.test/4"))) (rows.Started (r 14) None ∷ sent 42 2 0 10 (whys.Req (r 14)) (tasks.Ask 0 leavings.Load) ∷ [])
    ∷ by_proc 2 (rows.Taken (p 2) (j 42) true true) []
    ∷ by_proc 2 (rows.Finished (p 2) (j 42) (outcomes.Asked verdicts.Prompt)) []
    ∷ by_coord (rows.Delivered (p 2)) (rows.Prompted (r 14) (d 10) ∷ [])
    ∷ by_ui (rows.Answered (r 14) true) (rows.Dropped (r 14) drops.Stay ∷ [])
    ∷ by_ui (rows.Killed (p 2) (x 1)) []
    ∷ by_coord (rows.Delivered (p 2)) []
    ∷ by_ui (rows.Accepted (r 15) None (requests.Reload (n 0))) (rows.Started (r 15) None ∷ rows.Applied (r 15) (changes.Reload (n 0)) ∷ sent 43 2 1 11 (whys.Req (r 15)) (tasks.Populate (n 0) (s 10) (codes "http://shop.test/cart") false) ∷ [])
    ∷ by_proc 2 (rows.Taken (p 2) (j 43) true false) []
    ∷ by_proc 2 (rows.Finished (p 2) (j 43) (outcomes.Populated (Some 0))) []
    ∷ by_coord (rows.Delivered (p 2)) (sent 44 2 1 11 (whys.Req (r 15)) (tasks.Activate (e 0 10) (epoch 11) 9 8 None (codes "http://shop.test/cart")) ∷ [])
    ∷ by_proc 2 (rows.Taken (p 2) (j 44) true false) []
    ∷ by_proc 2 (rows.Finished (p 2) (j 44) outcomes.Activated) []
    ∷ by_coord (rows.Delivered (p 2)) []
    ∷ by_ui (rows.Accepted (r 16) None (requests.Load (n 0) modes.Auto (codes "http://shop.test/done"))) (rows.Started (r 16) None ∷ sent 45 2 1 11 (whys.Req (r 16)) (tasks.Ask 0 leavings.Load) ∷ [])
    ∷ by_proc 2 (rows.Taken (p 2) (j 45) true false) []
    ∷ by_proc 2 (rows.Finished (p 2) (j 45) (outcomes.Asked verdicts.Leave)) []
    ∷ by_coord (rows.Delivered (p 2)) (sent 46 2 1 12 (whys.Req (r 16)) (tasks.Populate (n 0) (s 12) (codes "http://shop.test/done") false) ∷ [])
    ∷ by_proc 2 (rows.Taken (p 2) (j 46) true false) []
    ∷ by_proc 2 (rows.Finished (p 2) (j 46) (outcomes.Populated None)) []
    ∷ by_coord (rows.Delivered (p 2)) (rows.Applied (r 16) (changes.Push (n 0) (e 0 11) (s 12) (codes "http://shop.test/done") None) ∷ sent 47 2 1 11 (whys.Req (r 16)) tasks.Freeze ∷ sent 48 2 1 12 (whys.Req (r 16)) (tasks.Activate (e 0 11) (epoch 12) 10 9 None (codes "http://shop.test/done")) ∷ [])
    ∷ by_proc 2 (rows.Taken (p 2) (j 47) true false) []
    ∷ by_proc 2 (rows.Finished (p 2) (j 47) outcomes.Frozen) []
    ∷ by_coord (rows.Delivered (p 2)) []
    ∷ by_proc 2 (rows.Taken (p 2) (j 48) true false) []
    ∷ by_proc 2 (rows.Finished (p 2) (j 48) outcomes.Activated) []
    ∷ by_coord (rows.Delivered (p 2)) []
    ∷ by_ui (rows.Accepted (r 17) None (requests.Go (negsuc 1))) (rows.Started (r 17) (Some (t 7)) ∷ sent 49 2 1 13 (whys.Req (r 17)) (tasks.Populate (n 0) (s 9) (codes "http://shop.test/p2") false) ∷ [])
    ∷ by_proc 2 (rows.Taken (p 2) (j 49) true false) []
    ∷ by_proc 2 (rows.Finished (p 2) (j 49) (outcomes.Populated None)) []
    ∷ by_coord (rows.Delivered (p 2)) (sent 50 2 1 12 (whys.Req (r 17)) tasks.Freeze ∷ sent 51 2 1 13 (whys.Req (r 17)) (tasks.Activate (e 0 9) (epoch 13) 10 7 None (codes "http://shop.test/p2")) ∷ [])
    ∷ by_proc 2 (rows.Taken (p 2) (j 50) true false) []
    ∷ by_proc 2 (rows.Finished (p 2) (j 50) outcomes.Frozen) []
    ∷ by_coord (rows.Delivered (p 2)) []
    ∷ by_proc 2 (rows.Taken (p 2) (j 51) true false) []
    ∷ by_proc 2 (rows.Finished (p 2) (j 51) outcomes.Activated) []
    ∷ by_coord (rows.Delivered (p 2)) (rows.Applied (r 17) (changes.Traverse (t 7)) ∷ [])
    ∷ []

abbrev pub whole_session_header : Header
whole_session_header = record { keep = 3; sites = record { origin = codes "http://shop.test"; proc = p 2 } ∷ record { origin = codes "http://ads.test"; proc = p 3 } ∷ []; pages = record { base = codes "http://shop.test/cart"; slot = 0 } ∷ []; first = codes "http://news.test/" }

pub whole_session_is_legal : IsLegal (log_of whole_session)
unfolding url_on_literals is_web is_blank_url judged judged_parse read_against address_of url_of resolved with_fragment base_of fragment_of origin_text origin_of has_same_base is_rewritable events_of each_event after_opening AtEachEvent is_numbered opens is_formed is_once is_caused is_queued is_ordered is_checked ends_settled loads_end ends_told ends_stepped goes_in_time
whole_session_is_legal = record { opened = refl; numbered = refl; formed = refl; once = refl; caused = refl; queued = refl; ordered = refl; checked = refl; settled = refl }

pub whole_session_ends_loads : LoadsEndInTime (log_of whole_session)
unfolding url_on_literals is_web is_blank_url judged judged_parse read_against address_of url_of resolved with_fragment base_of fragment_of origin_text origin_of has_same_base is_rewritable events_of each_event after_opening AtEachEvent is_numbered opens is_formed is_once is_caused is_queued is_ordered is_checked ends_settled loads_end ends_told ends_stepped goes_in_time
whole_session_ends_loads = refl

pub whole_session_acts_at_once : ActsAtOnce (log_of whole_session)
unfolding url_on_literals is_web is_blank_url judged judged_parse read_against address_of url_of resolved with_fragment base_of fragment_of origin_text origin_of has_same_base is_rewritable events_of each_event after_opening AtEachEvent is_numbered opens is_formed is_once is_caused is_queued is_ordered is_checked ends_settled loads_end ends_told ends_stepped goes_in_time
whole_session_acts_at_once = record { told = refl; stepped = refl; in_time = refl }

pub whole_session_suits : Suits whole_session_header (log_of whole_session)
unfolding url_on_literals is_web is_blank_url judged judged_parse read_against address_of url_of resolved with_fragment base_of fragment_of origin_text origin_of has_same_base is_rewritable events_of each_event after_opening AtEachEvent is_numbered opens is_formed is_once is_caused is_queued is_ordered is_checked ends_settled loads_end ends_told ends_stepped goes_in_time
whole_session_suits = record { opened = refl; placed = refl; kept = refl }
