-- Broken logs, each refused by the field `opened`.
-- A log is its events: those before one of another log, since one, or between two, and its own.
use Rattle.std.proofs.Common.{pos, List, [], ◌∷◌, codes, None}
use Rattle.std.proofs.lemmas.Bool.{false≢true}
use Rattle.url.proofs.OnLiterals.{url_on_literals}
use Rattle.address.specs.Addresses.{is_web, is_blank_url, judged, judged_parse, read_against, address_of, url_of, resolved, with_fragment, base_of, fragment_of, origin_text, origin_of, has_same_base, is_rewritable}
use Rattle.log_model.specs.declared.request.Request.TheVariants as requests
use Rattle.log_model.specs.declared.row_kind.Actor.TheVariants as actors
use Rattle.log_model.specs.declared.row_kind.LogRow.{LogRow}
use Rattle.log_model.specs.declared.row_kind.RowKind.TheVariants as rows
use Rattle.log_model.specs.Events.{events_of, each_event, after_opening, AtEachEvent}
use Rattle.log_model.specs.Formed.{is_numbered}
use Rattle.log_model.specs.Legal.{IsLegal, opens, is_formed, is_once, is_caused, is_queued, is_ordered, is_checked, ends_settled}
use Rattle.log_model.specs.LoadsEndInTime.{loads_end}
use Rattle.log_model.specs.ActsAtOnce.{ends_told, ends_stepped, goes_in_time}
use Rattle.log_examples.specs.Rows.{s, r, p, d, e, at}
use Rattle.log_examples.specs.Logs.{Event, by_start, by_ui, log_of, since}
use Rattle.log_examples.proofs.Pushes.{one_push}

-- The first entry has another number.
abbrev pub another_first_entry : List Event
another_first_entry =
    by_start (rows.Opened (e 0 2) (s 1) (d 1) (p 1) None (codes "http://a.test/")) []
    ∷ since 1 one_push

pub another_first_entry_is_refused : IsLegal (log_of another_first_entry) → ⊥
unfolding url_on_literals is_web is_blank_url judged judged_parse read_against address_of url_of resolved with_fragment base_of fragment_of origin_text origin_of has_same_base is_rewritable events_of each_event after_opening AtEachEvent is_numbered opens is_formed is_once is_caused is_queued is_ordered is_checked ends_settled loads_end ends_told ends_stepped goes_in_time
another_first_entry_is_refused holds = false≢true holds.opened

-- The opening row is left out.
abbrev pub no_opening : List Event
no_opening =
    since 1 one_push

pub no_opening_is_refused : IsLegal (log_of no_opening) → ⊥
unfolding url_on_literals is_web is_blank_url judged judged_parse read_against address_of url_of resolved with_fragment base_of fragment_of origin_text origin_of has_same_base is_rewritable events_of each_event after_opening AtEachEvent is_numbered opens is_formed is_once is_caused is_queued is_ordered is_checked ends_settled loads_end ends_told ends_stepped goes_in_time
no_opening_is_refused holds = false≢true holds.opened

-- The opening event has another number.
abbrev pub opened_late : List LogRow
opened_late =
    at 1 actors.Start (rows.Opened (e 0 1) (s 1) (d 1) (p 1) None (codes "http://a.test/"))
    ∷ []

pub opened_late_is_refused : IsLegal opened_late → ⊥
unfolding url_on_literals is_web is_blank_url judged judged_parse read_against address_of url_of resolved with_fragment base_of fragment_of origin_text origin_of has_same_base is_rewritable events_of each_event after_opening AtEachEvent is_numbered opens is_formed is_once is_caused is_queued is_ordered is_checked ends_settled loads_end ends_told ends_stepped goes_in_time
opened_late_is_refused holds = false≢true holds.opened

-- The opening row is the user's.
abbrev pub opened_by_the_user : List Event
opened_by_the_user =
    by_ui (rows.Opened (e 0 1) (s 1) (d 1) (p 1) None (codes "http://a.test/")) []
    ∷ []

pub opened_by_the_user_is_refused : IsLegal (log_of opened_by_the_user) → ⊥
unfolding url_on_literals is_web is_blank_url judged judged_parse read_against address_of url_of resolved with_fragment base_of fragment_of origin_text origin_of has_same_base is_rewritable events_of each_event after_opening AtEachEvent is_numbered opens is_formed is_once is_caused is_queued is_ordered is_checked ends_settled loads_end ends_told ends_stepped goes_in_time
opened_by_the_user_is_refused holds = false≢true holds.opened

-- The first entry is one that a document made.
abbrev pub first_entry_of_a_document : List Event
first_entry_of_a_document =
    by_start (rows.Opened (e 1 1) (s 1) (d 1) (p 1) None (codes "http://a.test/")) []
    ∷ []

pub first_entry_of_a_document_is_refused : IsLegal (log_of first_entry_of_a_document) → ⊥
unfolding url_on_literals is_web is_blank_url judged judged_parse read_against address_of url_of resolved with_fragment base_of fragment_of origin_text origin_of has_same_base is_rewritable events_of each_event after_opening AtEachEvent is_numbered opens is_formed is_once is_caused is_queued is_ordered is_checked ends_settled loads_end ends_told ends_stepped goes_in_time
first_entry_of_a_document_is_refused holds = false≢true holds.opened

-- The first document state has another number.
abbrev pub another_first_state : List Event
another_first_state =
    by_start (rows.Opened (e 0 1) (s 2) (d 1) (p 1) None (codes "http://a.test/")) []
    ∷ []

pub another_first_state_is_refused : IsLegal (log_of another_first_state) → ⊥
unfolding url_on_literals is_web is_blank_url judged judged_parse read_against address_of url_of resolved with_fragment base_of fragment_of origin_text origin_of has_same_base is_rewritable events_of each_event after_opening AtEachEvent is_numbered opens is_formed is_once is_caused is_queued is_ordered is_checked ends_settled loads_end ends_told ends_stepped goes_in_time
another_first_state_is_refused holds = false≢true holds.opened

-- The first document has another number.
abbrev pub another_first_document : List Event
another_first_document =
    by_start (rows.Opened (e 0 1) (s 1) (d 2) (p 1) None (codes "http://a.test/")) []
    ∷ []

pub another_first_document_is_refused : IsLegal (log_of another_first_document) → ⊥
unfolding url_on_literals is_web is_blank_url judged judged_parse read_against address_of url_of resolved with_fragment base_of fragment_of origin_text origin_of has_same_base is_rewritable events_of each_event after_opening AtEachEvent is_numbered opens is_formed is_once is_caused is_queued is_ordered is_checked ends_settled loads_end ends_told ends_stepped goes_in_time
another_first_document_is_refused holds = false≢true holds.opened

-- The first row opens nothing.
abbrev pub another_first_row : List Event
another_first_row =
    by_start (rows.Delivered (p 1)) []
    ∷ []

pub another_first_row_is_refused : IsLegal (log_of another_first_row) → ⊥
unfolding url_on_literals is_web is_blank_url judged judged_parse read_against address_of url_of resolved with_fragment base_of fragment_of origin_text origin_of has_same_base is_rewritable events_of each_event after_opening AtEachEvent is_numbered opens is_formed is_once is_caused is_queued is_ordered is_checked ends_settled loads_end ends_told ends_stepped goes_in_time
another_first_row_is_refused holds = false≢true holds.opened

-- The opening event has a second row.
abbrev pub opening_with_a_request : List LogRow
opening_with_a_request =
    at 0 actors.Start (rows.Opened (e 0 1) (s 1) (d 1) (p 1) None (codes "http://a.test/"))
    ∷ at 0 actors.Ui (rows.Accepted (r 1) None (requests.Go (pos 1)))
    ∷ []

pub opening_with_a_request_is_refused : IsLegal opening_with_a_request → ⊥
unfolding url_on_literals is_web is_blank_url judged judged_parse read_against address_of url_of resolved with_fragment base_of fragment_of origin_text origin_of has_same_base is_rewritable events_of each_event after_opening AtEachEvent is_numbered opens is_formed is_once is_caused is_queued is_ordered is_checked ends_settled loads_end ends_told ends_stepped goes_in_time
opening_with_a_request_is_refused holds = false≢true holds.opened
