-- The own row of an eviction was logged: all goes on as it was, and what documents made may be taken.
use Rattle.log_model.specs.Equal.{has_req}
use Rattle.load_doors.specs.Logged.{IsLogged}
use Rattle.load_doors.proofs.Starts.{requests_start}
use Rattle.tab_doors.proofs.Uncut.{uncut_held}
use Rattle.tab_facts.proofs.Calm.Loads.{loads_same}
use Rattle.seen_facts.proofs.Coord.Unread.{next}
use Rattle.tab_facts.specs.FrameTab.Asking.{NoneHeld}
use Rattle.tab_facts.proofs.Last.Rows.{evicted_lasting}
use Rattle.row_facts.specs.LeaveRows.Evicting.{IsEvictDue}
use Rattle.row_facts.proofs.Left.Rows.{were_shown}
use Rattle.row_facts.specs.Left.Left.{WereShown}
use Rattle.load_doors.specs.Tied.{AreTied}
use Rattle.seen_facts.proofs.LoadTies.Rows.{evicted_tied}
use Rattle.seen_facts.specs.LoadWhereabouts.Whereabouts.{times_on_way, ways_of}
use Rattle.log_model.specs.Causes.{denial_at_acceptance}
use Rattle.log_model.specs.Places.{aim_of, all_stand, all_stand_in}
use Rattle.log_model.specs.Queue.{is_delivered_duly}
use Rattle.log_model.specs.Seen.{Asked, Document, Seen, request_in, request_of}
use Rattle.log_model.specs.declared.row_kind.Actor.{Actor}
use Rattle.log_model.specs.declared.row_kind.LogRow.{LogRow}
use Rattle.log_model.specs.declared.row_kind.RowKind.{RowKind}
use Rattle.move_queue.specs.Queue.{Queue}
use Rattle.row_facts.proofs.RestRows.Rows.{evicted_rests}
use Rattle.row_facts.specs.RestRows.Moving.{AllRest}
use Rattle.seen_laws.specs.Blocks.{point_at}
use Rattle.seen_laws.specs.InEvent.{InEvent, IsTakenIn, log_of, now_of, row_of, start_of}
use Rattle.seen_laws.specs.Unasked.{unhandled}
use Rattle.std.proofs.Common.{List, None, Option, Some, [], ap, arith, false, inl, inr, length, refl, subst, sym, true, ℕ, ◌+◌, ◌<◌, ◌∙◌, ◌≡◌, ◌≤◌, ◌⊎◌}
use Rattle.std.proofs.lemmas.Bool.Decides.{nat_tests}
use Rattle.std.proofs.lemmas.List.{map-id}
use Rattle.std.specs.Prelude.{nat_lt, option_map}
use Rattle.tab_doors.proofs.EndLaws.{left_holds}
use Rattle.tab_doors.specs.Look.{look_of as sights_of}
use Rattle.tab_doors.specs.declared.tables.Tables.{Tables}
use Rattle.tab_drops.proofs.Loads.{IsAskedFor, asked_for}
use Rattle.tab_ids.specs.declared.DocId.{DocId}
use Rattle.tab_ids.specs.declared.ReqId.{ReqId}
use Rattle.tab_ids.specs.declared.StateId.{StateId}
use Rattle.tab_stands.proofs.Accepting.{number_low}
use Rattle.tab_stands.proofs.Coming.{IsComing, aim_same, taking_then}
use Rattle.tab_stands.proofs.LateEvents.{late_first}
use Rattle.tab_stands.proofs.MovedEvents.{moved_coming}
use Rattle.tab_stands.proofs.PassedOn.{queue_over, steps_still, unstood_by, waiting_first}
use Rattle.tab_stands.proofs.Waiting.{off_where_runs}
use Rattle.tab_stands.specs.PassedOn.{AreHeldUp, AreUnheld, HasQueue, HoldsParked, IsGoing, IsLeftStray, IsStray, IsTab, IsTaking, IsWaiting, LateKnown, LeavesQueue, LoadsMadeOwn, MayServe, MovedAreShown}
use Rattle.tab_stands.specs.Standing.{HasRoomFor, InCheck, LastsInLog, StandsFor, seen_start}
use Rattle.tab_facts.proofs.TabWhole.Beginning.{evicted_tab}
use Rattle.tab_facts.proofs.TabWhole.Where.{way_unheld}
use Rattle.unasked.proofs.Readings.{document_read}
use Rattle.user_evicts.specs.Evicting.{IsEvictAsk}
use Rattle.log_model.specs.declared.row_kind.Actor.TheVariants as actors
use Rattle.log_model.specs.declared.row_kind.RowKind.TheVariants as rows

-- nothing is delivered in it
pub evicted_takes : (e : InEvent) (state : StateId) → IsEvictAsk e state → (later : List LogRow) → IsTakenIn e later
evicted_takes e state asks later =
    ap (λ (k : RowKind). is_delivered_duly (point_at (start_of e) later) (row_of e k)) asks.own

module _ (e : InEvent) (state : StateId) (asks : IsEvictAsk e state) (t : Tables) (queue : Queue) (blame : List (StateId × ReqId)) {check : InCheck} (stands : StandsFor check (seen_start e) t queue blame) (logged : IsLogged e t.checks) (logs : LastsInLog e.checking t.asking (log_of e [])) where
  abbrev s : Seen
  s = seen_start e

  abbrev went : Seen
  went = next (seen_start e) e.event actors.Ui (rows.Evicted state)

  now : now_of e [] ≡ went
  now =
      logged.read
      ∙ (ap (λ (a : Actor). next (seen_start e) e.event a e.own) asks.by_user
      ∙ ap (λ (k : RowKind). next (seen_start e) e.event actors.Ui k) asks.own)

  tab_went : IsTab t.running check.loads [] went
  tab_went = evicted_tab t.running s e.event actors.Ui stands.between.tab stands.between.flows state

  pub tab_own : IsTab t.running check.loads [] (now_of e [])
  tab_own = subst (λ (x : Seen). IsTab t.running check.loads [] x) (sym now) tab_went

  pub rests_own : AllRest (now_of e [])
  rests_own = subst (λ (x : Seen). AllRest x) (sym now) (evicted_rests s e.event actors.Ui [] stands.between.rests state)

  pub few_own : length (now_of e []).kept ≤ t.kept.keep
  few_own = subst (λ (x : Seen). length x.kept ≤ t.kept.keep) (sym now) stands.between.few

  -- it is kept longest still
  pub due_start : IsEvictDue (seen_start e) state asks.doc (unhandled asks.document)
  due_start =
      record { last = asks.due.last; found = document_read e.checking e.start asks.doc ∙ ap (λ (o : Option Document). option_map unhandled o) asks.due.found; state_is = asks.due.state_is }

  pub due_own : IsEvictDue (now_of e []) state asks.doc (unhandled asks.document)
  due_own =
      subst (λ (x : Seen). IsEvictDue x state asks.doc (unhandled asks.document)) (sym now) (record { last = due_start.last; found = due_start.found; state_is = due_start.state_is })

  -- ---- the tables

  pub tied_own : AreTied (now_of e []) t
  tied_own = subst (λ (x : Seen). AreTied x t) (sym now) tied
    where
      tied : AreTied went t
      tied =
          record {
            holds = left_holds (sights_of s t.running) (sights_of went t.running) t refl refl refl refl refl refl refl stands.tied.holds;
            runs = record { only = stands.tied.runs.only; there = stands.tied.runs.there };
            goal = stands.tied.goal;
            few = stands.tied.few;
            initial = stands.tied.initial;
            loads = evicted_tied s e.event actors.Ui t.loads stands.tied.loads state;
            kept = stands.tied.kept;
          }

  -- ---- what comes, and goes on

  serves : (req : ReqId) → MayServe s req → MayServe went req
  serves req may = record { goes = may.goes; begun = may.begun }

  theirs : LoadsMadeOwn went
  theirs req q made found load makes =
      let its = stands.lasts.made req q made found load makes in
      (record { d = its.0.d; found = its.0.found; nav_is = its.0.nav_is }, its.1)

  comes : IsComing blame s went
  comes =
      record {
        g = λ p. p;
        arrives = record { nav = λ p. refl; sight = λ p. refl; last = λ p. refl; taken = λ p. refl; ever = λ p. refl; why = λ p. refl; arrived = λ p is. is };
        places = sym (map-id s.places);
        history = refl;
        kept = refl;
        asked = λ req q at. record { now = q; at = at; same = refl; changed = λ change is. is };
        loads = λ req l at on. at;
        loading = loads_same s went (λ req l at on. at) (λ doc. refl) stands.between.loading;
        serves = serves;
        moved = λ nav. refl;
        homes = λ doc d found. (d, found, refl);
        states = λ doc. refl;
        strays = λ doc own stray. inl (left doc own stray (stands.strays doc own (was doc own stray)));
        were = were_shown s e.event actors.Ui stands.lasts.were (rows.Evicted state) tt;
        theirs = theirs;
        step = refl;
        unstood = λ off away. unstood_by s (record { event = e.event; actor = actors.Ui; row = rows.Evicted state }) refl away off;
      }
    where
      was : (doc : DocId) (own : StateId) → IsStray went doc own → IsStray s doc own
      was doc own stray =
          record { document = stray.document; found = stray.found; its_state = stray.its_state; ready = stray.ready; undiscarded = stray.undiscarded; bare = stray.bare; unloaded = stray.unloaded }

      left : (doc : DocId) (own : StateId) → IsStray went doc own → IsLeftStray s blame doc own → IsLeftStray went blame doc own
      left doc own stray it = record { req = it.req; noted = it.noted; may = serves it.req it.may; bare = it.bare }

  pub comes_own : IsComing blame s (now_of e [])
  comes_own = subst (λ (x : Seen). IsComing blame s x) (sym now) comes

  pub were_own : WereShown (now_of e [])
  were_own = comes_own.were

  pub theirs_own : LoadsMadeOwn (now_of e [])
  theirs_own = comes_own.theirs

  held : AreHeldUp t.running went
  held = by_run t.running stands.lasts.held
    where
      by_run : (o : Option ReqId) → AreHeldUp o s → AreHeldUp o went
      by_run None is = tt
      by_run (Some run) is = is

  pub going_own : HasRoomFor (seen_start e) → IsGoing t.running check.loads [] (now_of e [])
  going_own room = subst (λ (x : Seen). IsGoing t.running check.loads [] x) (sym now) going
    where
      going : IsGoing t.running check.loads [] went
      going =
          record {
            tab = tab_went;
            lasting = evicted_lasting s e.event actors.Ui stands.lasts.lasting state;
            counted = record { entries = stands.lasts.counted.entries; epochs = stands.lasts.counted.epochs };
            steps = steps_still s went stands.lasts.steps refl (omega arith);
            held = held;
            room = (let low : length s.requests + 3 < 4294967296 = room in omega (arith, low));
          }

  -- who is awake and was moved by the traversal that runs was shown a document by it
  pub moved_own : MovedAreShown t.running (now_of e [])
  moved_own = moved_coming blame (seen_start e) (now_of e []) comes_own t.running stands.between.tab.asked stands.lasts.moved

  pub late_own : LateKnown t.running (now_of e [])
  late_own = late_first blame (seen_start e) (now_of e []) comes_own t.running tab_own.standing stands.lasts.off

  -- an ongoing load is on its way, and so isn't held back
  unheld : AreUnheld e (now_of e [])
  unheld r n load_ =
      let its : IsAskedFor (now_of e []) r n = asked_for (now_of e []) r n load_ in
      let way : 0 < times_on_way (request_in (now_of e []).requests r) = subst (λ (o : Option Asked). 0 < times_on_way o) (sym its.at) (let one : 0 < ways_of its.q = rw its.ongoing (omega arith) in one) in
      ap (λ (l : List ReqId). has_req l r) (sym (uncut_held e logged.uncut)) ∙ (way_unheld t.running check.loads [] (now_of e []) tab_own r way).parked

  pub taking_own : IsTaking e t.running blame (now_of e [])
  taking_own =
      taking_then (seen_start e) t.running t.kept.keep t.goal blame (now_of e []) stands.between stands.lasts stands.tied.goal check.loads [] tab_own tied_own.goal comes_own e refl unheld

  aim_own : aim_of (now_of e []) ≡ aim_of (seen_start e)
  aim_own =
      aim_same (seen_start e) t.running t.kept.keep t.goal blame (now_of e []) stands.between stands.lasts stands.tied.goal check.loads [] tab_own tied_own.goal comes_own

  -- ---- what waits, and what is held back

  pub waiting_own : IsWaiting e []
  waiting_own = waiting_first e logged.uncut tab_own.known (λ req q has at. early req q at)
    where
      early : (req : ReqId) (q : Asked) → request_of (now_of e []) req ≡ Some q → denial_at_acceptance e.start q.what ≡ None ⊎ (nat_lt (length e.start.requests) req.0 ≡ false)
      early req q at =
          let low : req.0 ≤ length s.requests = number_low s.requests req q (ap (λ (x : Seen). request_of x req) (sym now) ∙ at) in
          let many : length s.requests ≡ length e.start.requests = requests_start e in
          inr (grind (arith, nat_tests, low, many))

  pub queued_own : HasQueue (now_of e []) t.running queue.waiting
  queued_own = subst (λ (x : Seen). HasQueue x t.running queue.waiting) (sym now) (queue_over s went leaves t.running queue.waiting stands.queue)
    where
      leaves : LeavesQueue s went
      leaves = record { joined = refl; whats = λ req. refl; ready = λ req nav it. record { q = it.q; at = it.at; ready = it.ready; its = it.its } }

  pub parked_own : HoldsParked (now_of e []) queue.parked
  parked_own = subst (λ (x : Seen). HoldsParked x queue.parked) (sym now) stands.parked

  pub none_held : NoneHeld t.running (now_of e [])
  none_held = subst (λ (x : Seen). NoneHeld t.running x) (sym now) stands.between.held

  -- where a report is held back, a traversal runs, and not all stand
  pub off_own : ((now_of e []).parked ≡ [] → ⊥) → all_stand (now_of e []) (aim_of (now_of e [])) ≡ true → ⊥
  off_own some all = by_run t.running refl
    where
      same : all_stand (now_of e []) (aim_of (now_of e [])) ≡ all_stand s (aim_of s)
      same =
          ap (λ (k : ℕ). all_stand (now_of e []) k) aim_own
          ∙ ap (λ (x : Seen). all_stand_in x.history.rows x.places (aim_of s)) now

      by_run : (o : Option ReqId) → t.running ≡ o → ⊥
      by_run None is = some (none_held is)
      by_run (Some run) is =
          let off : all_stand s (aim_of s) ≡ false = off_where_runs t.kept.keep t.running s stands.between stands.alone run is in
          let never : true ≡ false = sym all ∙ same ∙ off in
          cc
