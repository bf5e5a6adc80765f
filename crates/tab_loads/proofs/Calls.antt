-- A load is asked for while the coordinator stands for the log: what is so once its row was logged, and that it is refused where a reason stands against it.
use Rattle.tab_doors.specs.AskingLoads.{TiesAsking}
use Rattle.tab_doors.proofs.Uncut.{uncut_pass}
use Rattle.log_model.specs.declared.row_kind.LogRow.{LogRow}
use Rattle.seen_laws.specs.Blocks.{EachPass}
use Rattle.row_facts.proofs.LoadRows.Accepts.{load_passes}
use Rattle.load_doors.specs.Logged.{IsLogged}
use Rattle.tab_stands.proofs.Logged.{with_lawful}
use Rattle.tab_stands.proofs.Accepting.{accepted_row}
use Rattle.load_doors.proofs.Starts.{next_start}
use Rattle.row_facts.proofs.Owed.Rows.{refused_lasts}
use Rattle.tab_facts.specs.TabWhole.Tab.{at_hand, open_among}
use Rattle.tab_doors.proofs.PassedOn.{refused_goes}
use Rattle.load_doors.specs.Refusing.{IsDeniedLoad}
use Rattle.load_doors.specs.Tied.{AreTied}
use Rattle.log_model.specs.Causes.{denial_at_acceptance}
use Rattle.tab_facts.proofs.Calm.Awakes.{stand_each}
use Rattle.log_model.specs.Equal.{has_req, holds}
use Rattle.log_model.specs.Places.{aim_of, all_stand, is_shown, is_standing, stands as stands_at}
use Rattle.log_model.specs.Seen.{Asked, Place, Seen, place_of, request_in}
use Rattle.log_model.specs.declared.outcome.Denial.{Denial}
use Rattle.log_model.specs.declared.request.Mode.{Mode}
use Rattle.log_model.specs.declared.request.Request.{Request}
use Rattle.log_model.specs.declared.row_kind.RowKind.{RowKind}
use Rattle.seen_facts.proofs.Coord.Unread.{next}
use Rattle.move_queue.specs.Queue.{Queue}
use Rattle.row_facts.specs.Owed.Owed.{IsLoose}
use Rattle.row_facts.proofs.Owed.Ends.{loose_owed, loose_first, loose_more}
use Rattle.seen_facts.proofs.Request.LookUps.{none_before as none_in, others_before}
use Rattle.seen_facts.proofs.Request.Times.{times_none}
use Rattle.seen_facts.specs.Request.Whereabouts.{times_found}
use Rattle.seen_laws.specs.InEvent.{AreLegal, InEvent, log_of, now_of, start_of}
use Rattle.std.proofs.Common.{Bool, List, None, Option, Some, [], ap, arith, false, length, refl, subst, sym, true, ℕ, ◌+◌, ◌<◌, ◌==◌, ◌∙◌, ◌∷◌, ◌≡◌}
use Rattle.std.proofs.lemmas.Bool.Decides.{nat_tests}
use Rattle.std.specs.Prelude.{is_some}
use Rattle.tab_doors.specs.Working.{IsAtWork, MayDiscardIn}
use Rattle.tab_doors.specs.declared.tables.Tables.{Tables}
use Rattle.tab_ids.specs.declared.NavId.{NavId}
use Rattle.tab_ids.specs.declared.ReqId.{ReqId}
use Rattle.tab_ids.specs.declared.StateId.{StateId}
use Rattle.tab_loads.proofs.Changes.{refused_changes}
use Rattle.tab_loads.proofs.Denies.{denial_is}
use Rattle.tab_loads.proofs.Ends.{refused_passing, refused_tab}
use Rattle.tab_loads.proofs.Firsts.{first_is, idle, q, unjoined, unparked}
use Rattle.tab_loads.proofs.Readies.{row_ready}
use Rattle.tab_loads.proofs.Denied.{HasDenied, load_denied}
use Rattle.tab_stands.proofs.Loads.{load_begun, load_tied}
use Rattle.tab_stands.proofs.Waiting.{off_where_runs}
use Rattle.tab_loads.specs.Asking.{InLoad, IsAsked}
use Rattle.tab_loads.specs.Loading.{CameTo, IsLoadAsk, MayWalk, pass_of}
use Rattle.tab_loads.specs.Telling.{denial_in}
use Rattle.tab_loads.specs.declared.loaded.Loaded.TheVariants.{Refused}
use Rattle.tab_passes.proofs.Aims.{aim_is}
use Rattle.tab_passes.specs.Passing.{aim_in}
use Rattle.tab_stands.specs.Offs.{AreOffKnown, IsOffSince, is_new_place}
use Rattle.tab_stands.specs.PassedOn.{IsReady}
use Rattle.tab_stands.specs.Standing.{HasBegun, HasRoomFor, InCheck, LastsInLog, StandsFor, seen_start}
use Rattle.log_model.specs.declared.job.Why.TheVariants as whys
use Rattle.log_model.specs.declared.request.Request.TheVariants as requests
use Rattle.log_model.specs.declared.row_kind.RowKind.TheVariants as rows

module _ (e : InEvent) (t : Tables) (queue : Queue) (blame : List (StateId × ReqId)) {check : InCheck} (stands : StandsFor check (seen_start e) t queue blame) (room : HasRoomFor (seen_start e)) (header : t.kept.keep ≡ e.header.keep) (req : ReqId) (nav : NavId) (mode : Mode) (address : List ℕ) (asks : IsLoadAsk e req nav mode address) (logged : IsLogged e t.checks) (logs : LastsInLog e.checking t.asking (log_of e [])) (free : check.holds ≡ false → MayDiscardIn false e) where
  abbrev s : Seen
  s = seen_start e

  abbrev load : Request
  load = requests.Load nav mode address

  abbrev went : Seen
  went = next (seen_start e) e.event e.actor (rows.Accepted req None (requests.Load nav mode address))

  now : now_of e [] ≡ went
  now = first_is e req nav mode address asks

  walks : MayWalk e t.running
  walks = record { holds = check.holds; alone = stands.alone; free = free }

  -- ---- the reason that the tables tell

  pub reason_is : denial_in t nav ≡ denial_at_acceptance e.start (requests.Load nav mode address)
  reason_is =
      denial_is s t.running t stands.tied.holds stands.between.tab.sound stands.between.tab.hangs stands.between.tab.standing stands.lasts.steps (let few : length s.requests + 3 < 4294967296 = room in omega (arith, few)) nav mode address

  -- ---- no request had its number

  none_before : request_in s.requests req ≡ None
  none_before = none_in s.requests (q e req nav mode address asks) req (next_start e req.0 asks.next)

  nowhere : times_found req s.desks s.joined s.parked (at_hand (open_among s.requests check.loads) []) ≡ 0
  nowhere = stands.between.tab.once req (rw none_before refl) ∙ rw none_before refl

  unparked_before : has_req s.parked req ≡ false
  unparked_before = times_none req s.parked (let zero_ = nowhere in omega (arith, zero_))

  -- ---- it is refused

  module _ (reason : Denial) (denied : denial_at_acceptance e.start (requests.Load nav mode address) ≡ Some reason) where
    pub refuse_now : IsDeniedLoad e req reason × (IsLogged e t.checks × (AreTied (now_of e []) t × TiesAsking e.checking (log_of e []) t.asking))
    refuse_now = (
      record { off = asks.outside; nav = nav; mode = mode; address = address; by_user = asks.by_user; own = asks.own; next = asks.next; reason_is = denied; unparked = unparked_before },
      (logged, (load_tied e t queue blame stands logged.read room header req nav mode address asks.by_user asks.own (next_start e req.0 asks.next), logs.asking)),
    )

    its : HasDenied e req check.loads t queue blame
    its = load_denied e t queue blame stands room header req nav mode address asks logged logs

    loose : IsLoose e (rows.Refused req reason ∷ [])
    loose =
        loose_more e [] (rows.Refused req reason) (refused_goes e [] req reason).read (loose_first e asks.undue) (refused_lasts (now_of e []) e.event e.actor req reason) (λ end lasts. refl)

    pub refused_came : (out : List RowKind) → out ≡ rows.Refused req reason ∷ [] → CameTo e req nav mode address out Refused
    refused_came out out_is = record { reason = reason; due = denied; is = out_is }

    pub refused_ready : (out : List RowKind) → out ≡ rows.Refused req reason ∷ [] → IsAtWork e out t → IsReady (pass_of e check.loads) out t queue blame whys.Start
    refused_ready out out_is work =
        row_ready e req nav mode address asks t queue blame its.going its.taking its.moved its.late its.theirs header its.queueing walks (rows.Refused req reason) (refused_goes e [] req reason) tt tt
        (refused_changes (now_of e []) e.event e.actor req (idle e req nav mode address asks) (unjoined e req nav mode address asks t.running its.going.tab) (unparked e req nav mode address asks t.running its.going.tab) reason)
        (refused_tab e req nav mode address asks t its.going its.rests its.few its.duly reason) refl out t out_is refl refl
        (refused_passing e req nav mode address asks t its.going its.rests its.few its.duly reason (loose_owed e (rows.Refused req reason ∷ []) loose) (λ all. loose) out t out_is refl work)

  -- ---- no reason stands against it

  module _ (admitted : denial_at_acceptance e.start (requests.Load nav mode address) ≡ None) where
    off : AreOffKnown t.running (seen_start e)
    off = stands.lasts.off

    legal : AreLegal e []
    unfolding AreLegal
    legal later rest =
        uncut_pass e [] later asks.uncut (subst (λ (row : LogRow). EachPass (start_of e) (row ∷ []) later) (sym (accepted_row e req None load asks.by_user asks.own)) (load_passes e.header e.start e.event req nav mode address later asks.next admitted, tt))

    begun : HasBegun (record { event = e; loads = req ∷ check.loads; hand = [] }) t queue blame
    begun =
        load_begun e t queue blame stands logged.read room header req nav mode address asks.by_user asks.own (next_start e req.0 asks.next) admitted (with_lawful e t.checks logged logs legal)

    aim_same : aim_of (now_of e []) ≡ aim_of s
    aim_same =
        aim_is (now_of e []) t.running begun.passing.going.tab.asked t.goal begun.passing.work.goal
        ∙ ap (λ (x : Seen). aim_in x.history t.running t.goal) now
        ∙ sym (aim_is s t.running stands.between.tab.asked t.goal stands.tied.goal)

    stand_same : all_stand (now_of e []) (aim_of (now_of e [])) ≡ all_stand s (aim_of s)
    stand_same = ap (λ (k : ℕ). all_stand (now_of e []) k) aim_same ∙ ap (λ (x : Seen). all_stand x (aim_of s)) now

    busy : is_some t.running ≡ true → all_stand (now_of e []) (aim_of (now_of e [])) ≡ false
    busy runs = by_run t.running refl
      where
        by_run : (o : Option ReqId) → t.running ≡ o → all_stand (now_of e []) (aim_of (now_of e [])) ≡ false
        by_run None is = let never : true ≡ false = sym runs ∙ ap (λ (o : Option ReqId). is_some o) is in absurd cc
        by_run (Some run) is = stand_same ∙ off_where_runs t.kept.keep t.running s stands.between stands.alone run is

    off_now : AreOffKnown t.running (now_of e [])
    off_now = subst (λ (x : Seen). AreOffKnown t.running x) (sym now) off_went
      where
        still : (r : ReqId) (x : Asked) → request_in s.requests r ≡ Some x → request_in went.requests r ≡ Some x
        still r x there = by_own (req.0 == r.0) refl
          where
            by_own : (b : Bool) → (req.0 == r.0) ≡ b → request_in went.requests r ≡ Some x
            by_own false apart = others_before s.requests (q e req nav mode address asks) req (next_start e req.0 asks.next) r apart ∙ there
            by_own true is =
                let number : req.0 ≡ r.0 = grind (arith, nat_tests, is) in
                let never : None ≡ Some x = sym none_before ∙ ap (λ (k : ℕ). request_in s.requests (record { 0 = k })) number ∙ there in
                absurd cc

        not_all : (n : NavId) (place : Place) → place_of s n ≡ Some place → is_shown s.history.rows s.history.current n ≡ true → stands_at s s.history.current n ≡ false → all_stand s s.history.current ≡ false
        not_all n place there shown away = by_all (all_stand s s.history.current) refl
          where
            by_all : (b : Bool) → all_stand s s.history.current ≡ b → b ≡ false
            by_all false is = refl
            by_all true is =
                let stand : is_standing s.history.rows s.history.current place ≡ true = stand_each s stands.between.tab.standing s.history.current is n place there shown in
                let never : false ≡ true = sym away ∙ ap (λ (o : Option Place). holds (is_standing s.history.rows s.history.current) o) there ∙ stand in
                absurd cc

        since : t.running ≡ None → (n : NavId) (place : Place) → place_of went n ≡ Some place → is_shown went.history.rows went.history.current n ≡ true → stands_at went went.history.current n ≡ false → is_new_place place ≡ false → IsOffSince went n place
        since none n place there shown away old =
            let was : IsOffSince s n place = off.since none n place there shown away old in
            record {
              req = was.req;
              why = was.why;
              by = record {
                mover = was.by.mover;
                found = still was.req was.by.mover was.by.found;
                change = was.by.change;
                changed = was.by.changed;
                top = was.by.top;
                its = was.by.its;
                on_way = was.by.on_way;
                last = was.by.last;
                unstood = rw was.by.unstood (not_all n place there shown away);
              };
            }

        off_went : AreOffKnown t.running went
        off_went = record { unshown = off.unshown; top_shown = off.top_shown; since = since }

    abbrev pub load_at : InLoad
    load_at = record { event = e; loads = check.loads; req = req; nav = nav; mode = mode; address = address; queue = queue; noted = blame }

    pub asked_now : IsAsked (record { event = e; loads = check.loads; req = req; nav = nav; mode = mode; address = address; queue = queue; noted = blame }) t
    asked_now = record { asks = asks; undenied = admitted; begun = begun; busy = busy; off = off_now; walks = walks }
