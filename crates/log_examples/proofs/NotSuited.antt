-- Logs that do not suit their settings.
-- A log is its events: those before one of another log, since one, or between two, and its own.
use Rattle.std.proofs.Common.{negsuc, true, false, List, [], ◌∷◌, ◌++◌, codes, refl, Some, None}
use Rattle.std.proofs.lemmas.Bool.{false≢true}
use Rattle.url.proofs.OnLiterals.{url_on_literals}
use Rattle.address.specs.Addresses.{is_web, is_blank_url, judged, judged_parse, read_against, address_of, url_of, resolved, with_fragment, base_of, fragment_of, origin_text, origin_of, has_same_base, is_rewritable}
use Rattle.log_model.specs.declared.action.Action.TheVariants as actions
use Rattle.log_model.specs.declared.change.Change.TheVariants as changes
use Rattle.log_model.specs.declared.job.Task.TheVariants as tasks
use Rattle.log_model.specs.declared.job.Why.TheVariants as whys
use Rattle.log_model.specs.declared.made.What.TheVariants as whats
use Rattle.log_model.specs.declared.outcome.Outcome.TheVariants as outcomes
use Rattle.log_model.specs.declared.request.Mode.TheVariants as modes
use Rattle.log_model.specs.declared.request.Request.TheVariants as requests
use Rattle.log_model.specs.declared.row_kind.RowKind.TheVariants as rows
use Rattle.log_model.specs.Events.{events_of, each_event, after_opening, AtEachEvent}
use Rattle.log_model.specs.Formed.{is_numbered}
use Rattle.log_model.specs.Legal.{IsFormed, opens, is_formed, is_once, is_caused, is_queued, is_ordered, is_checked, ends_settled}
use Rattle.log_model.specs.LoadsEndInTime.{loads_end}
use Rattle.log_model.specs.ActsAtOnce.{ends_told, ends_stepped, goes_in_time}
use Rattle.log_model.specs.Suits.{Suits}
use Rattle.log_model.specs.declared.header.Header.{Header}
use Rattle.log_examples.specs.Rows.{n, s, r, p, t, x, d, j, e, epoch, sent, made}
use Rattle.log_examples.specs.Logs.{Event, by_ui, by_coord, by_proc, log_of, before, since, plain_settings}
use Rattle.log_examples.proofs.Pushes.{opened_only, one_push}
use Rattle.log_examples.proofs.Loads.{no_document_kept, two_processes, evicted_documents}
use Rattle.log_examples.proofs.Prompts.{leave}
use Rattle.log_examples.proofs.Deaths.{reload_that_cannot_begin}

-- The tab opens at another address.
abbrev pub another_first_address_header : Header
another_first_address_header = record { keep = 3; sites = []; pages = []; first = codes "http://b.test/" }

pub another_first_address_is_refused : Suits another_first_address_header (log_of opened_only) → ⊥
unfolding url_on_literals is_web is_blank_url judged judged_parse read_against address_of url_of resolved with_fragment base_of fragment_of origin_text origin_of has_same_base is_rewritable events_of each_event after_opening AtEachEvent is_numbered opens is_formed is_once is_caused is_queued is_ordered is_checked ends_settled loads_end ends_told ends_stepped goes_in_time
another_first_address_is_refused holds = false≢true holds.opened

-- The tab opens in another process than its site says.
abbrev pub another_first_process_header : Header
another_first_process_header = record { keep = 3; sites = record { origin = codes "http://a.test"; proc = p 2 } ∷ []; pages = []; first = codes "http://a.test/" }

pub another_first_process_is_refused : Suits another_first_process_header (log_of opened_only) → ⊥
unfolding url_on_literals is_web is_blank_url judged judged_parse read_against address_of url_of resolved with_fragment base_of fragment_of origin_text origin_of has_same_base is_rewritable events_of each_event after_opening AtEachEvent is_numbered opens is_formed is_once is_caused is_queued is_ordered is_checked ends_settled loads_end ends_told ends_stepped goes_in_time
another_first_process_is_refused holds = false≢true holds.opened

-- The first document has no handler, and its page says one.
abbrev pub another_first_handler_header : Header
another_first_handler_header = record { keep = 3; sites = []; pages = record { base = codes "http://a.test/"; slot = 1 } ∷ []; first = codes "http://a.test/" }

pub another_first_handler_is_refused : Suits another_first_handler_header (log_of opened_only) → ⊥
unfolding url_on_literals is_web is_blank_url judged judged_parse read_against address_of url_of resolved with_fragment base_of fragment_of origin_text origin_of has_same_base is_rewritable events_of each_event after_opening AtEachEvent is_numbered opens is_formed is_once is_caused is_queued is_ordered is_checked ends_settled loads_end ends_told ends_stepped goes_in_time
another_first_handler_is_refused holds = false≢true holds.opened

-- A document is made in another process than its site says.
abbrev pub another_process_header : Header
another_process_header = record { keep = 3; sites = record { origin = codes "http://b.test"; proc = p 3 } ∷ []; pages = []; first = codes "http://a.test/" }

pub another_process_is_refused : Suits another_process_header (log_of two_processes) → ⊥
unfolding url_on_literals is_web is_blank_url judged judged_parse read_against address_of url_of resolved with_fragment base_of fragment_of origin_text origin_of has_same_base is_rewritable events_of each_event after_opening AtEachEvent is_numbered opens is_formed is_once is_caused is_queued is_ordered is_checked ends_settled loads_end ends_told ends_stepped goes_in_time
another_process_is_refused holds = false≢true holds.placed

-- A document has another handler than its page says.
abbrev pub another_handler_header : Header
another_handler_header = record { keep = 3; sites = []; pages = record { base = codes "http://a.test/1"; slot = 1 } ∷ []; first = codes "http://a.test/" }

pub another_handler_is_refused : Suits another_handler_header (log_of leave) → ⊥
unfolding url_on_literals is_web is_blank_url judged judged_parse read_against address_of url_of resolved with_fragment base_of fragment_of origin_text origin_of has_same_base is_rewritable events_of each_event after_opening AtEachEvent is_numbered opens is_formed is_once is_caused is_queued is_ordered is_checked ends_settled loads_end ends_told ends_stepped goes_in_time
another_handler_is_refused holds = false≢true holds.placed

-- A kept document is discarded though more may be kept.
abbrev pub discarded_too_early_header : Header
discarded_too_early_header = record { keep = 2; sites = []; pages = []; first = codes "http://a.test/" }

pub discarded_too_early_is_refused : Suits discarded_too_early_header (log_of evicted_documents) → ⊥
unfolding url_on_literals is_web is_blank_url judged judged_parse read_against address_of url_of resolved with_fragment base_of fragment_of origin_text origin_of has_same_base is_rewritable events_of each_event after_opening AtEachEvent is_numbered opens is_formed is_once is_caused is_queued is_ordered is_checked ends_settled loads_end ends_told ends_stepped goes_in_time
discarded_too_early_is_refused holds = false≢true holds.placed

-- More documents are kept than may be.
abbrev pub too_many_kept_header : Header
too_many_kept_header = record { keep = 0; sites = []; pages = []; first = codes "http://a.test/" }

pub too_many_kept_is_refused : Suits too_many_kept_header (log_of evicted_documents) → ⊥
unfolding url_on_literals is_web is_blank_url judged judged_parse read_against address_of url_of resolved with_fragment base_of fragment_of origin_text origin_of has_same_base is_rewritable events_of each_event after_opening AtEachEvent is_numbered opens is_formed is_once is_caused is_queued is_ordered is_checked ends_settled loads_end ends_told ends_stepped goes_in_time
too_many_kept_is_refused holds = false≢true holds.kept

-- A log without its opening.
pub log_without_its_opening_is_refused : Suits plain_settings (log_of (since 1 one_push)) → ⊥
unfolding url_on_literals is_web is_blank_url judged judged_parse read_against address_of url_of resolved with_fragment base_of fragment_of origin_text origin_of has_same_base is_rewritable events_of each_event after_opening AtEachEvent is_numbered opens is_formed is_once is_caused is_queued is_ordered is_checked ends_settled loads_end ends_told ends_stepped goes_in_time
log_without_its_opening_is_refused holds = false≢true holds.opened

-- No row at all.
pub no_row_is_refused : Suits plain_settings [] → ⊥
unfolding url_on_literals is_web is_blank_url judged judged_parse read_against address_of url_of resolved with_fragment base_of fragment_of origin_text origin_of has_same_base is_rewritable events_of each_event after_opening AtEachEvent is_numbered opens is_formed is_once is_caused is_queued is_ordered is_checked ends_settled loads_end ends_told ends_stepped goes_in_time
no_row_is_refused holds = false≢true holds.opened

-- it has no event: after_opening: were equation 1 false, `formed` would not hold
pub no_row_keeps_formed : IsFormed []
unfolding url_on_literals is_web is_blank_url judged judged_parse read_against address_of url_of resolved with_fragment base_of fragment_of origin_text origin_of has_same_base is_rewritable events_of each_event after_opening AtEachEvent is_numbered opens is_formed is_once is_caused is_queued is_ordered is_checked ends_settled loads_end ends_told ends_stepped goes_in_time
no_row_keeps_formed = refl

abbrev pub home_of_1_header : Header
home_of_1_header = record { keep = 3; sites = record { origin = codes "http://b.test"; proc = p 2 } ∷ record { origin = codes "http://c.test"; proc = p 3 } ∷ []; pages = []; first = codes "http://a.test/" }

-- home_of: were `nav.0 == 0` always so, `placed` would hold.
abbrev pub home_of_1 : List Event
home_of_1 =
    reload_that_cannot_begin
    ++ by_ui (rows.Accepted (r 4) None (requests.Reload (n 0))) (rows.Started (r 4) None ∷ rows.Applied (r 4) (changes.Reload (n 0)) ∷ sent 4 1 1 4 (whys.Req (r 4)) (tasks.Populate (n 0) (s 1) (codes "http://a.test/") false) ∷ [])
    ∷ by_proc 1 (rows.Taken (p 1) (j 4) true false) []
    ∷ by_proc 1 (rows.Finished (p 1) (j 4) (outcomes.Populated None)) []
    ∷ by_ui (rows.Accepted (r 5) None (requests.Load (n 0) modes.Auto (codes "http://a.test/#x"))) (sent 5 1 1 5 (whys.Req (r 2)) (tasks.Populate (n 1) (s 2) (codes "about:blank") true) ∷ [])
    ∷ []

pub home_of_1_is_refused : Suits home_of_1_header (log_of home_of_1) → ⊥
unfolding url_on_literals is_web is_blank_url judged judged_parse read_against address_of url_of resolved with_fragment base_of fragment_of origin_text origin_of has_same_base is_rewritable events_of each_event after_opening AtEachEvent is_numbered opens is_formed is_once is_caused is_queued is_ordered is_checked ends_settled loads_end ends_told ends_stepped goes_in_time
home_of_1_is_refused holds = false≢true holds.placed

abbrev pub discarded_as_the_same_document_goes_on_header : Header
discarded_as_the_same_document_goes_on_header = record { keep = 1; sites = []; pages = []; first = codes "http://a.test/" }

-- A kept document is discarded as the navigable is shown another entry of the same document. newly_left: leaves: were `last.0 == job.doc.0` never so, `placed` would hold.
abbrev pub discarded_as_the_same_document_goes_on : List Event
discarded_as_the_same_document_goes_on =
    before 11 evicted_documents
    ++ by_ui (rows.Accepted (r 2) (Some (d 2)) (requests.Poke (n 0) (actions.Push (Some (codes "s")) None))) []
    ∷ by_proc 1 (made 1 2 2 2 (whats.Push (e 2 1) (Some (codes "s")) (codes "http://a.test/1"))) []
    ∷ by_coord (rows.Delivered (p 1)) (rows.Applied (r 2) (changes.Push (n 0) (e 2 1) (s 2) (codes "http://a.test/1") (Some (codes "s"))) ∷ sent 4 1 0 2 (whys.Req (r 2)) (tasks.Update 3 2) ∷ [])
    ∷ by_proc 1 (rows.Taken (p 1) (j 4) true false) []
    ∷ by_proc 1 (rows.Finished (p 1) (j 4) outcomes.Updated) []
    ∷ by_coord (rows.Delivered (p 1)) []
    ∷ by_ui (rows.Accepted (r 3) None (requests.Go (negsuc 0))) (rows.Started (r 3) (Some (t 1)) ∷ sent 5 1 0 1 (whys.Req (r 3)) tasks.Discard ∷ sent 6 1 0 2 (whys.Req (r 3)) (tasks.Activate (e 0 2) (epoch 3) 3 1 None (codes "http://a.test/1")) ∷ [])
    ∷ []

pub discarded_as_the_same_document_goes_on_is_refused : Suits discarded_as_the_same_document_goes_on_header (log_of discarded_as_the_same_document_goes_on) → ⊥
unfolding url_on_literals is_web is_blank_url judged judged_parse read_against address_of url_of resolved with_fragment base_of fragment_of origin_text origin_of has_same_base is_rewritable events_of each_event after_opening AtEachEvent is_numbered opens is_formed is_once is_caused is_queued is_ordered is_checked ends_settled loads_end ends_told ends_stepped goes_in_time
discarded_as_the_same_document_goes_on_is_refused holds = false≢true holds.placed

abbrev pub discarded_as_a_dead_document_is_left_header : Header
discarded_as_a_dead_document_is_left_header = record { keep = 1; sites = record { origin = codes "http://b.test"; proc = p 2 } ∷ []; pages = []; first = codes "http://a.test/" }

-- The one kept document is discarded as a dead one is left. kept_with: were `is_gone s doc` never so, `placed` would hold.
abbrev pub discarded_as_a_dead_document_is_left : List Event
discarded_as_a_dead_document_is_left =
    before 11 two_processes
    ++ by_ui (rows.Killed (p 2) (x 1)) []
    ∷ by_coord (rows.Delivered (p 2)) []
    ∷ by_ui (rows.Accepted (r 2) None (requests.Load (n 0) modes.Auto (codes "http://a.test/3"))) (rows.Started (r 2) None ∷ sent 4 1 0 3 (whys.Req (r 2)) (tasks.Populate (n 0) (s 3) (codes "http://a.test/3") false) ∷ [])
    ∷ by_proc 1 (rows.Taken (p 1) (j 4) true false) []
    ∷ by_proc 1 (rows.Finished (p 1) (j 4) (outcomes.Populated None)) []
    ∷ by_coord (rows.Delivered (p 1)) (rows.Applied (r 2) (changes.Push (n 0) (e 0 3) (s 3) (codes "http://a.test/3") None) ∷ sent 5 1 0 1 (whys.Req (r 2)) tasks.Discard ∷ sent 6 1 0 3 (whys.Req (r 2)) (tasks.Activate (e 0 3) (epoch 3) 3 2 None (codes "http://a.test/3")) ∷ [])
    ∷ []

pub discarded_as_a_dead_document_is_left_is_refused : Suits discarded_as_a_dead_document_is_left_header (log_of discarded_as_a_dead_document_is_left) → ⊥
unfolding url_on_literals is_web is_blank_url judged judged_parse read_against address_of url_of resolved with_fragment base_of fragment_of origin_text origin_of has_same_base is_rewritable events_of each_event after_opening AtEachEvent is_numbered opens is_formed is_once is_caused is_queued is_ordered is_checked ends_settled loads_end ends_told ends_stepped goes_in_time
discarded_as_a_dead_document_is_left_is_refused holds = false≢true holds.placed

abbrev pub the_newly_left_is_discarded_header : Header
the_newly_left_is_discarded_header = record { keep = 1; sites = []; pages = []; first = codes "http://a.test/" }

-- The document that is left is discarded, and not the one that is kept longest. is_overdue: without conjunct `holds (λ (doc : DocId). doc.0 == d.nr.0) (last_of (kept_then p d))`, `placed` would hold.
abbrev pub the_newly_left_is_discarded : List Event
the_newly_left_is_discarded =
    before 14 evicted_documents
    ++ by_coord (rows.Delivered (p 1)) (rows.Applied (r 2) (changes.Push (n 0) (e 0 3) (s 3) (codes "http://a.test/2") None) ∷ sent 5 1 0 2 (whys.Req (r 2)) tasks.Freeze ∷ sent 6 1 0 2 (whys.Req (r 2)) tasks.Discard ∷ sent 7 1 0 3 (whys.Req (r 2)) (tasks.Activate (e 0 3) (epoch 3) 3 2 None (codes "http://a.test/2")) ∷ [])
    ∷ []

pub the_newly_left_is_discarded_is_refused : Suits the_newly_left_is_discarded_header (log_of the_newly_left_is_discarded) → ⊥
unfolding url_on_literals is_web is_blank_url judged judged_parse read_against address_of url_of resolved with_fragment base_of fragment_of origin_text origin_of has_same_base is_rewritable events_of each_event after_opening AtEachEvent is_numbered opens is_formed is_once is_caused is_queued is_ordered is_checked ends_settled loads_end ends_told ends_stepped goes_in_time
the_newly_left_is_discarded_is_refused holds = false≢true holds.placed

-- A document is discarded as it is left, though it may be kept. is_spare: without disjunct `is_left p d`, `placed` would hold.
abbrev pub discarded_as_it_is_left : List Event
discarded_as_it_is_left =
    before 5 no_document_kept

pub discarded_as_it_is_left_is_refused : Suits plain_settings (log_of discarded_as_it_is_left) → ⊥
unfolding url_on_literals is_web is_blank_url judged judged_parse read_against address_of url_of resolved with_fragment base_of fragment_of origin_text origin_of has_same_base is_rewritable events_of each_event after_opening AtEachEvent is_numbered opens is_formed is_once is_caused is_queued is_ordered is_checked ends_settled loads_end ends_told ends_stepped goes_in_time
discarded_as_it_is_left_is_refused holds = false≢true holds.placed
