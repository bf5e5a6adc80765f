-- The user stays, where the request is a load: it is dropped for that, and the coordinator stands for the log with one load fewer in its check.
use Rattle.tab_ids.specs.declared.NavId.{NavId}
use Rattle.seen_facts.specs.LoadTies.Tying.{HasLoad}
use Rattle.seen_facts.proofs.LoadTies.Ends.{cancelled_none, dropped_ended}
use Rattle.log_model.specs.declared.request.Request.{Request}
use Rattle.log_model.specs.Once.{loads}
use Rattle.log_model.specs.declared.request.Request.TheVariants as requests
use Rattle.load_table.proofs.Others.{others_cancelled}
use Rattle.load_table.specs.Loads.{cancelled}
use Rattle.tab_doors.proofs.AskingLoads.{asking_withdrawn}
use Rattle.tab_doors.specs.AskingLoads.{TiesAsking}
use Rattle.load_table.specs.declared.load.Load.{Load}
use Rattle.asking_facts.proofs.Passed.{known_on}
use Rattle.asking_facts.specs.Known.{AskingKnown}
use Rattle.load_doors.proofs.Starts.{requests_start}
use Rattle.log_model.specs.After.{after}
use Rattle.log_model.specs.AfterRequests.{without_req}
use Rattle.log_model.specs.Checks.{is_checked}
use Rattle.log_model.specs.Equal.{has_req}
use Rattle.log_model.specs.Formed.{awaits_answer}
use Rattle.log_model.specs.Places.{is_load, is_ongoing_load}
use Rattle.log_model.specs.Seen.{Asked, Seen, request_of}
use Rattle.log_model.specs.declared.outcome.Cause.TheVariants as drops
use Rattle.log_model.specs.declared.outcome.Ending.{Ending}
use Rattle.log_model.specs.declared.row_kind.Actor.TheVariants as actors
use Rattle.log_model.specs.declared.row_kind.RowKind.{RowKind}
use Rattle.log_model.specs.declared.row_kind.RowKind.TheVariants as rows
use Rattle.move_queue.specs.Queue.{Queue}
use Rattle.seen_laws.proofs.InEvents.{now_is}
use Rattle.seen_laws.specs.InEvent.{InEvent, log_of, now_of, row_of}
use Rattle.seen_laws.specs.Unasked.{unasked_request}
use Rattle.std.proofs.Common.{Bool, List, None, Option, Some, [], ap, arith, false, length, refl, subst, sym, true, ◌&&◌, ◌+◌, ◌<◌, ◌∙◌, ◌∷◌, ◌≡◌}
use Rattle.std.proofs.lemmas.Bool.{and_parts}
use Rattle.std.specs.Prelude.{is_none, is_some, option_map}
use Rattle.tab_answers.proofs.AtHand.{unparked_hand}
use Rattle.tab_answers.proofs.Dropped.{dropped_stands}
use Rattle.tab_answers.proofs.Events.{plain, plain_is, quiet, stands_quiet}
use Rattle.tab_answers.proofs.Lasts.{answered_lasts, dropped_lasts}
use Rattle.tab_answers.proofs.Stays as stays
use Rattle.tab_answers.proofs.Stood.{answered_quiet}
use Rattle.tab_answers.proofs.Told.{checks_stands}
use Rattle.tab_doors.specs.declared.tables.Tables.{Tables}
use Rattle.tab_ids.specs.declared.ReqId.{ReqId}
use Rattle.tab_ids.specs.declared.StateId.{StateId}
use Rattle.tab_stands.specs.Checked.{ChecksStand}
use Rattle.tab_stands.specs.Offs.{AreShownOnce}
use Rattle.tab_stands.specs.Standing.{HasActed, HasRoomFor, InCheck, LastsInLog, StandsFor, seen_start}
use Rattle.unasked.proofs.Nows.{dropped_now}
use Rattle.unasked.proofs.Readings.{request_read}
use Rattle.unload_check.specs.Checks.{OpenCheck, ended}

module _ (e : InEvent) (t : Tables) (queue : Queue) (blame : List (StateId × ReqId)) {check : InCheck} (stands : StandsFor check (seen_start e) t queue blame) (lasts : LastsInLog e.checking t.asking e.start) (asks : ChecksStand e.checking e.start t.checks) (room : HasRoomFor e.start) (uncut : e.before ≡ []) (req : ReqId) (by_user : e.actor ≡ actors.Ui) (own : e.own ≡ rows.Answered req true) (hand : has_req check.loads req ≡ true) (q : Asked) (found : request_of e.start req ≡ Some q) (nav : NavId) (of_nav : loads nav q.what ≡ true) (awaits : awaits_answer q ≡ true) where
  abbrev answers : RowKind
  answers = rows.Answered req true

  abbrev out : List RowKind
  out = rows.Dropped req drops.Stay ∷ []

  -- the event, the log without questions once the user has answered, and the checks that are left
  abbrev staying : InEvent
  staying = plain e actors.Ui answers

  abbrev s : Seen
  s = quiet e t queue blame stands

  abbrev left_checks : List (ReqId × OpenCheck)
  left_checks = ended req t.checks

  -- and the loads in their checks
  abbrev left_asking : List Load
  left_asking = cancelled nav t.asking

  load : is_load q.what ≡ true
  load = by_what q.what of_nav
    where
      by_what : (w : Request) → loads nav w ≡ true → is_load w ≡ true
      by_what (requests.Load n mode address) is = refl
      by_what (requests.Go delta) is = absurd cc
      by_what (requests.Reload n) is = absurd cc
      by_what (requests.Poke n action) is = absurd cc

  checked : is_checked q ≡ true
  checked = rw load refl

  -- the request in the log without questions
  abbrev seen : Asked
  seen = unasked_request e.checking q

  seen_at : request_of s req ≡ Some seen
  seen_at =
      request_read e.checking e.start req ∙ ap (λ (o : Option Asked). option_map (unasked_request e.checking) o) found

  seen_load : is_load seen.what ≡ true
  seen_load = by_test (e.checking q.nr) load
    where
      by_test : (b : Bool) → is_load q.what ≡ true → is_load (unasked_request (λ (r : ReqId). b) q).what ≡ true
      by_test true is = is
      by_test false is = is

  up : is_some q.prompted ≡ true
  up = (and_parts (is_some q.prompted) (is_none q.answered) (and_parts (is_some q.prompted && is_none q.answered) (is_none q.ending) awaits).0).0

  open_ : q.ending ≡ None
  open_ = none_is q.ending (and_parts (is_some q.prompted && is_none q.answered) (is_none q.ending) awaits).1
    where
      none_is : (o : Option Ending) → is_none o ≡ true → o ≡ None
      none_is None is = refl
      none_is (Some x) is = absurd cc

  seen_open : seen.ending ≡ None
  seen_open = by_test (e.checking q.nr) open_
    where
      by_test : (b : Bool) → q.ending ≡ None → (unasked_request (λ (r : ReqId). b) q).ending ≡ None
      by_test true is = is
      by_test false is = is

  -- it isn't held back
  unparked : has_req e.start.parked req ≡ false
  unparked =
      unparked_hand t.kept.keep t.running check.loads check.holds (seen_start e) stands.between req hand seen (request_read e.checking e.start req ∙ ap (λ (o : Option Asked). option_map (unasked_request e.checking) o) found) seen_load

  -- ---- the log without questions

  answer_quiet : now_of staying [] ≡ s
  answer_quiet = now_is staying [] ∙ answered_quiet e.checking e.start e.event actors.Ui req true

  once : AreShownOnce s.places
  once = record { unshown = lasts.shows.unshown; top_ = lasts.shows.top_ }

  room_then : HasRoomFor s
  room_then =
      (let few : length e.start.requests + 3 < 4294967296 = room in let same : length s.requests ≡ length e.start.requests = requests_start e in omega (arith, few, same))

  stays_then : StandsFor (record check { loads = without_req req check.loads }) (now_of staying out) (record t { asking = left_asking; checks = left_checks }) queue blame
  stays_then =
      subst (λ (x : Seen). StandsFor (record check { loads = without_req req check.loads }) x (record t { asking = left_asking; checks = left_checks }) queue blame) (sym (dropped_now staying [] req drops.Stay ∙ ap (λ (x : Seen). after x (row_of staying (rows.Dropped req drops.Stay))) answer_quiet))
      (checks_stands (after s (row_of staying (rows.Dropped req drops.Stay))) t left_checks left_asking queue blame (dropped_stands s t queue blame (stands_quiet e t queue blame stands) room_then once req hand seen seen_at seen_load seen_open e.event actors.Ui drops.Stay))

  -- ---- the log itself

  on : e.checking req ≡ true
  on = (stays.prompted e.header e.start e.event e.checking req t.checks asks lasts.known q found checked awaits).on

  said_known : AskingKnown (log_of staying [])
  said_known = known_on e.start (row_of staying answers) tt tt (λ x at. subst (λ (y : Asked). is_some y.prompted ≡ true) (let both : Some q ≡ Some x = sym found ∙ at in let same : q ≡ x = cc in same) up) tt lasts.known

  answered_then : LastsInLog e.checking t.asking (log_of staying [])
  answered_then = answered_lasts e.checking e.start e.event actors.Ui lasts req true on said_known

  -- it was among the loads in their checks
  its : HasLoad t.asking nav req
  its = lasts.asking.all req q nav found on going of_nav
    where
      begun : q.is_started ≡ true
      begun = lasts.checks.begun req q found on

      going : is_ongoing_load q ≡ true
      going = rw (begun, open_, load) refl

  asking_then : TiesAsking e.checking (log_of staying out) left_asking
  asking_then =
      asking_withdrawn e.checking (log_of staying []) t.asking answered_then.asking req (log_of staying out) (dropped_ended (log_of staying []) e.event actors.Ui req drops.Stay) nav its.load its.at its.req_is left_asking (cancelled_none nav t.asking) (others_cancelled nav t.asking)

  stays_lasts : LastsInLog e.checking left_asking (log_of staying out)
  stays_lasts =
      dropped_lasts e.checking (log_of staying []) e.event actors.Ui answered_then req drops.Stay asking_then (stays.stays_known e.header e.start e.event e.checking req t.checks asks lasts.known q found checked awaits unparked)

  pub stays_acts : HasActed (record check { loads = without_req req check.loads }) e (rows.Dropped req drops.Stay ∷ []) (record t { asking = cancelled nav t.asking; checks = ended req t.checks }) queue blame
  stays_acts =
      subst (λ (x : InEvent). HasActed (record check { loads = without_req req check.loads }) x out (record t { asking = left_asking; checks = left_checks }) queue blame) (plain_is e actors.Ui answers by_user own uncut) (record {
        stands = stays_then;
        lasts = stays_lasts;
        asks = stays.stays_asks e.header e.start e.event e.checking req t.checks asks lasts.known q found checked awaits unparked;
        passes = stays.stays_pass e.header e.start e.event e.checking req t.checks asks lasts.known q found checked awaits unparked;
      })
