-- The own row of a load was logged against which a reason stands: all goes on with the load at hand, and a pass may follow once it is refused.
use Rattle.load_doors.specs.Logged.{IsLogged}
use Rattle.load_doors.proofs.Starts.{next_start, requests_start}
use Rattle.tab_stands.proofs.PassedOn.{AreLeftDuly}
use Rattle.tab_doors.proofs.Uncut.{uncut_held}
use Rattle.seen_facts.specs.LoadWhereabouts.Whereabouts.{times_on_way, ways_of}
use Rattle.log_model.specs.Causes.{denial_at_acceptance}
use Rattle.log_model.specs.Equal.{has_req}
use Rattle.log_model.specs.Places.{aim_of}
use Rattle.log_model.specs.Seen.{Asked, Seen, request_in, request_of}
use Rattle.log_model.specs.declared.request.Mode.{Mode}
use Rattle.log_model.specs.declared.request.Request.{Request}
use Rattle.move_queue.specs.Queue.{Queue}
use Rattle.row_facts.specs.RestRows.Moving.{AllRest}
use Rattle.seen_laws.specs.InEvent.{InEvent, now_of, log_of}
use Rattle.std.proofs.Common.{List, None, Option, Some, [], ap, arith, false, inl, inr, length, refl, subst, sym, true, ℕ, ◌<◌, ◌∙◌, ◌∷◌, ◌≡◌, ◌≤◌, ◌⊎◌}
use Rattle.std.proofs.lemmas.Bool.Decides.{nat_tests}
use Rattle.std.specs.Prelude.{nat_lt}
use Rattle.tab_doors.specs.declared.tables.Tables.{Tables}
use Rattle.tab_drops.proofs.Loads.{IsAskedFor, asked_for}
use Rattle.tab_drops.specs.Dropping.{AreUnheld}
use Rattle.tab_facts.specs.TabGoing.Going.{IsGoing}
use Rattle.tab_ids.specs.declared.NavId.{NavId}
use Rattle.tab_ids.specs.declared.ReqId.{ReqId}
use Rattle.tab_ids.specs.declared.StateId.{StateId}
use Rattle.tab_loads.proofs.Firsts.{unjoined}
use Rattle.tab_loads.specs.Loading.{IsLoadAsk}
use Rattle.tab_stands.specs.PassedOn.{HasQueue, IsTaking, IsWaiting, LateKnown, LoadsMadeOwn, MovedAreShown}
use Rattle.tab_stands.specs.Standing.{HasRoomFor, InCheck, IsQueueing, LastsInLog, StandsFor, seen_start}
use Rattle.tab_stands.proofs.Accepting.{comes_now, goes_on, new, now, number_low, old_or_new, rests_now}
use Rattle.tab_stands.proofs.Coming.{IsComing, aim_same, taking_then}
use Rattle.tab_stands.proofs.Loads.{load_tied}
use Rattle.tab_stands.proofs.LateEvents.{late_first}
use Rattle.tab_stands.proofs.MovedEvents.{moved_coming}
use Rattle.tab_stands.proofs.Waiting.{queued_still, queueing_now}
use Rattle.tab_turns.proofs.Turned.{waiting_first}
use Rattle.tab_facts.proofs.TabWhole.Accepting.{load_accepted_tab}
use Rattle.tab_facts.proofs.TabWhole.Where.{way_unheld}
use Rattle.tab_facts.specs.TabWhole.Tab.{IsTab}
use Rattle.log_model.specs.declared.request.Request.TheVariants as requests
use Rattle.log_model.specs.declared.row_kind.Actor.TheVariants as actors

-- the load's own row was logged: all goes on with it at hand and those behind it that are in their check, and what documents made may be taken
pub record HasDenied (e : InEvent) (req : ReqId) (behind : List ReqId) (t : Tables) (queue : Queue) (blame : List (StateId × ReqId)) : Type 0 where
  pub going : IsGoing t.running (req ∷ behind) [] (now_of e [])
  pub rests : AllRest (now_of e [])
  pub few : length (now_of e []).kept ≤ t.kept.keep
  pub taking : IsTaking e t.running blame (now_of e [])
  pub moved : MovedAreShown t.running (now_of e [])
  pub late : LateKnown t.running (now_of e [])
  pub theirs : LoadsMadeOwn (now_of e [])
  pub duly : AreLeftDuly (log_of e [])
  pub queueing : IsQueueing (record { event = e; loads = req ∷ behind; hand = [] }) [] t queue

module _ (e : InEvent) (t : Tables) (queue : Queue) (blame : List (StateId × ReqId)) {check : InCheck} (stands : StandsFor check (seen_start e) t queue blame) (room : HasRoomFor (seen_start e)) (header : t.kept.keep ≡ e.header.keep) (req : ReqId) (nav : NavId) (mode : Mode) (address : List ℕ) (asks : IsLoadAsk e req nav mode address) (logged : IsLogged e t.checks) (logs : LastsInLog e.checking t.asking (log_of e [])) where
  abbrev load : Request
  load = requests.Load nav mode address

  abbrev s : Seen
  s = now_of e []

  tab : IsTab t.running (req ∷ check.loads) [] (now_of e [])
  tab =
      subst (λ (x : Seen). IsTab t.running (req ∷ check.loads) [] x) (sym (now e req None load asks.by_user asks.own (next_start e req.0 asks.next) logged.read)) (load_accepted_tab t.running (seen_start e) e.event actors.Ui stands.between.tab stands.between.flows req (next_start e req.0 asks.next) nav mode address)

  comes : IsComing blame (seen_start e) (now_of e [])
  comes = comes_now e req None load asks.by_user asks.own (next_start e req.0 asks.next) logged.read t queue blame stands

  going : IsGoing t.running (req ∷ check.loads) [] (now_of e [])
  going =
      goes_on e req None load asks.by_user asks.own (next_start e req.0 asks.next) logged.read t queue blame stands room (λ x never. absurd cc) (req ∷ check.loads) (load_accepted_tab t.running (seen_start e) e.event actors.Ui stands.between.tab stands.between.flows req (next_start e req.0 asks.next) nav mode address)

  -- an ongoing load is on its way, and so isn't held back
  unheld : AreUnheld e (now_of e [])
  unheld r n load_ =
      let its : IsAskedFor (now_of e []) r n = asked_for (now_of e []) r n load_ in
      let way : 0 < times_on_way (request_in (now_of e []).requests r) = subst (λ (o : Option Asked). 0 < times_on_way o) (sym its.at) (let one : 0 < ways_of its.q = rw its.ongoing (omega arith) in one) in
      ap (λ (l : List ReqId). has_req l r) (sym (uncut_held e asks.uncut)) ∙ (way_unheld t.running (req ∷ check.loads) [] (now_of e []) tab r way).parked

  taking : IsTaking e t.running blame (now_of e [])
  taking =
      taking_then (seen_start e) t.running t.kept.keep t.goal blame (now_of e []) stands.between stands.lasts stands.tied.goal (req ∷ check.loads) [] tab (load_tied e t queue blame stands logged.read room header req nav mode address asks.by_user asks.own (next_start e req.0 asks.next)).goal comes e refl unheld

  aim : aim_of (now_of e []) ≡ aim_of (seen_start e)
  aim =
      aim_same (seen_start e) t.running t.kept.keep t.goal blame (now_of e []) stands.between stands.lasts stands.tied.goal (req ∷ check.loads) [] tab (load_tied e t queue blame stands logged.read room header req nav mode address asks.by_user asks.own (next_start e req.0 asks.next)).goal comes

  -- who joined was there before
  early : (r : ReqId) (q : Asked) → has_req (now_of e []).joined r ≡ true → request_of (now_of e []) r ≡ Some q → denial_at_acceptance e.start q.what ≡ None ⊎ (nat_lt (length e.start.requests) r.0 ≡ false)
  early r q joined at =
      by_old (old_or_new e req None load asks.by_user asks.own (next_start e req.0 asks.next) logged.read r q (ap (λ (x : Seen). request_of x r) (sym (now e req None load asks.by_user asks.own (next_start e req.0 asks.next) logged.read)) ∙ at))
    where
      by_old : (request_in (seen_start e).requests r ≡ Some q) ⊎ ((r ≡ req) × (q ≡ new e req None load asks.by_user asks.own (next_start e req.0 asks.next) logged.read)) → denial_at_acceptance e.start q.what ≡ None ⊎ (nat_lt (length e.start.requests) r.0 ≡ false)
      by_old (inl old) =
          let low : r.0 ≤ length (seen_start e).requests = number_low (seen_start e).requests r q old in
          let many : length (seen_start e).requests ≡ length e.start.requests = requests_start e in
          inr (grind (arith, nat_tests, low, many))
      by_old (inr it) =
          let never : true ≡ false = sym joined ∙ ap (λ (x : ReqId). has_req (now_of e []).joined x) it.0 ∙ unjoined e req nav mode address asks t.running tab in
          absurd cc

  waits : IsWaiting e []
  waits = waiting_first e asks.uncut tab.known early

  queued : HasQueue (now_of e []) t.running queue.waiting
  queued =
      subst (λ (x : Seen). HasQueue x t.running queue.waiting) (sym (now e req None load asks.by_user asks.own (next_start e req.0 asks.next) logged.read)) (queued_still e req None load asks.by_user asks.own (next_start e req.0 asks.next) logged.read t queue blame stands refl)

  pub load_denied : HasDenied e req check.loads t queue blame
  load_denied =
      record {
        going = going;
        rests = rests_now e req None load asks.by_user asks.own (next_start e req.0 asks.next) logged.read t queue blame stands;
        few = subst (λ (k : ℕ). k ≤ t.kept.keep) (sym (ap length comes.kept)) stands.between.few;
        taking = taking;
        late = late_first blame (seen_start e) (now_of e []) comes t.running tab.standing stands.lasts.off;
        moved = moved_coming blame (seen_start e) (now_of e []) comes t.running stands.between.tab.asked stands.lasts.moved;
        theirs = comes.theirs;
        duly = logs.duly;
        queueing = queueing_now e req None load asks.by_user asks.own (next_start e req.0 asks.next) logged.read t queue blame stands asks.uncut (req ∷ check.loads) queue aim waits queued refl;
      }
