-- A document makes something of the first poke of its process, but for an edit, or the process refuses that poke: the coordinator has acted, which does nothing itself, whoever is in a check.
use Rattle.tab_doors.proofs.AskingLoads.{row_asking}
use Rattle.asking_facts.proofs.Passed.{known_on}
use Rattle.log_model.proofs.Refl.{nat_eq_refl}
use Rattle.log_model.specs.AfterRequests.{is_running}
use Rattle.log_model.specs.Checks.{is_checked}
use Rattle.log_model.specs.Equal.{has_req}
use Rattle.log_model.specs.Places.{goes, is_load, is_reload, is_traversal, is_under_way}
use Rattle.log_model.specs.Queue.{begins_in_turn}
use Rattle.log_model.specs.Seen.{Asked, Document, desk_of, document_of, request_in, request_of}
use Rattle.log_model.specs.Views.{View, made_by, made_for}
use Rattle.log_model.specs.declared.action.Action.{Action}
use Rattle.log_model.specs.declared.action.Action.TheVariants as actions
use Rattle.log_model.specs.declared.made.Made.{Made}
use Rattle.log_model.specs.declared.made.What.{What}
use Rattle.log_model.specs.declared.outcome.Denial.{Denial}
use Rattle.log_model.specs.declared.outcome.Denial.TheVariants as denials
use Rattle.log_model.specs.declared.request.Poke.{Poke}
use Rattle.log_model.specs.declared.request.Request.TheVariants as requests
use Rattle.log_model.specs.declared.row_kind.Actor.TheVariants as actors
use Rattle.log_model.specs.declared.row_kind.RowKind.TheVariants as rows
use Rattle.move_queue.specs.Queue.{Queue}
use Rattle.seen_facts.proofs.Coord.Unread.{next}
use Rattle.seen_facts.proofs.Request.KnownMoved.{first_poke}
use Rattle.seen_facts.specs.Request.Cores.{Core, core, core_of}
use Rattle.seen_facts.specs.Request.Knowns.{IsPoke}
use Rattle.seen_laws.proofs.Makings.{made_passes, refused_passes, unturned}
use Rattle.seen_laws.specs.Acting.{IsNoEdit, IsToAct}
use Rattle.seen_laws.specs.Blocks.{Passes}
use Rattle.seen_laws.specs.InEvent.{InEvent}
use Rattle.seen_laws.specs.Unasked.{unhandled, without_asks}
use Rattle.std.proofs.Common.{Bool, List, None, Option, Some, [], ap, arith, false, refl, subst, sym, true, ℕ, ◌&&◌, ◌+◌, ◌==◌, ◌||◌, ◌∙◌, ◌≡◌}
use Rattle.std.proofs.lemmas.Bool.Decides.{nat_tests}
use Rattle.std.specs.Prelude.{is_some, slice_get}
use Rattle.tab_acts.proofs.Acted.{home, made_stands, number, refused_stands, unheld}
use Rattle.tab_acts.proofs.Checks.{IsIdle, made_beside, refused_beside}
use Rattle.tab_acts.proofs.Events.{alone_acts, seen_room}
use Rattle.tab_acts.proofs.Readings.{core_read, found_off, found_read, input_read}
use Rattle.tab_doors.specs.declared.tables.Tables.{Tables}
use Rattle.tab_facts.proofs.TabWhole.Acting.{not_running, unjoined}
use Rattle.tab_facts.specs.TabWhole.Tab.{at_hand, open_among}
use Rattle.tab_ids.specs.declared.DocId.{DocId}
use Rattle.tab_ids.specs.declared.NavId.{NavId}
use Rattle.tab_ids.specs.declared.ProcId.{ProcId}
use Rattle.tab_ids.specs.declared.ReqId.{ReqId}
use Rattle.tab_ids.specs.declared.StateId.{StateId}
use Rattle.tab_stands.proofs.EpochRows.{made_under, refused_under}
use Rattle.tab_stands.proofs.Logged.{once_of}
use Rattle.tab_stands.proofs.PassedOn.{row_checks, row_duly}
use Rattle.tab_stands.specs.Checked.{ChecksStand}
use Rattle.tab_stands.specs.Offs.{AreShownOnce}
use Rattle.tab_stands.specs.Standing.{HasActed, HasRoomFor, InCheck, LastsInLog, StandsFor, seen_start}
use Rattle.unasked.proofs.Ends.{refused_seen}
use Rattle.unasked.proofs.Works.{made_seen}

some_same : {A : Type 0} {a b : A} → (let o : Option A = Some a in o) ≡ Some b → a ≡ b
some_same e = cc

-- the row that begins an event doesn't follow the end of an order
pub begins_anew : (n k : ℕ) → k ≡ n → (n == (k + 1)) ≡ false
begins_anew n k same = grind (arith, nat_tests, same)

-- a document makes something of each request to go
goes_somewhere : (view : View) (action : Action) → made_by view action ≡ None → goes action ≡ false
goes_somewhere view (actions.Go delta) never = absurd cc
goes_somewhere view (actions.Push memo reference) none = refl
goes_somewhere view (actions.Replace memo reference) none = refl
goes_somewhere view (actions.Fragment text) none = refl
goes_somewhere view (actions.AddFrame nav) none = refl
goes_somewhere view (actions.RemoveFrame nav) none = refl
goes_somewhere view actions.Edit none = refl

-- a poke is checked only where it goes, and then isn't under way
poke_off : (loads travels reloads runs : Bool) → loads ≡ false → reloads ≡ false → (runs && travels) ≡ false → ((loads || travels || reloads) && runs) ≡ false
poke_off true travels reloads runs never is none = absurd cc
poke_off false travels true runs is never none = absurd cc
poke_off false true false true is other never = absurd cc
poke_off false true false false is other none = refl
poke_off false false false runs is other none = refl

module _ (e : InEvent) (t : Tables) (queue : Queue) (blame : List (StateId × ReqId)) {check : InCheck} (stands : StandsFor check (seen_start e) t queue blame) (lasts : LastsInLog e.checking t.asking e.start) (asks : ChecksStand e.checking e.start t.checks) (room : HasRoomFor e.start) (proc : ProcId) (poke : Poke) (first : slice_get (desk_of e.start proc).input 0 ≡ Some poke) where
  -- ---- as it would be had nobody been asked

  abbrev seen_first : slice_get (desk_of (seen_start e) proc).input 0 ≡ Some poke
  seen_first = input_read e.checking e.start proc poke first

  once : AreShownOnce (seen_start e).places
  once = once_of lasts.shows

  -- ---- the request of the poke

  pub record Asks : Type 0 where
    pub nav : NavId
    pub q : Asked
    pub there : request_in e.start.requests poke.req ≡ Some q
    pub what : q.what ≡ requests.Poke nav poke.action
    pub doc : q.doc ≡ Some poke.doc
    pub unmade : q.made ≡ None
    pub unended : q.ending ≡ None

  pub its_asked : Asks
  its_asked =
      by_found (request_in e.start.requests poke.req) refl (subst (λ (c : Option Core). IsPoke c poke) (core_read e.checking e.start poke.req) (first_poke (seen_start e) (at_hand (open_among (seen_start e).requests check.loads) []) proc poke seen_first stands.between.tab.once stands.between.tab.known))
    where
      by_found : (o : Option Asked) → request_in e.start.requests poke.req ≡ o → IsPoke (core_of o) poke → Asks
      by_found None at k = (let never : None ≡ Some _ = k.is in absurd cc)
      by_found (Some q) at k =
          let same : core q ≡ record { what = requests.Poke k.nav poke.action; doc = Some poke.doc; made = None; ending = None } = some_same k.is in
          record {
            nav = k.nav;
            q = q;
            there = at;
            what = ap (λ (c : Core). c.what) same;
            doc = ap (λ (c : Core). c.doc) same;
            unmade = ap (λ (c : Core). c.made) same;
            unended = ap (λ (c : Core). c.ending) same;
          }

  -- it isn't held back
  pub unheld_log : has_req e.start.parked poke.req ≡ false
  unheld_log = unheld (seen_start e) t queue blame stands (seen_room e room) once proc poke seen_first

  -- where it asks for no traversal, it isn't in a check
  pub nowhere_off : goes poke.action ≡ false → e.checking poke.req ≡ false
  nowhere_off nowhere = by_check (e.checking poke.req) refl
    where
      unchecked : is_checked its_asked.q ≡ false
      unchecked = rw its_asked.what (rw nowhere refl)

      by_check : (b : Bool) → e.checking poke.req ≡ b → b ≡ false
      by_check false is = refl
      by_check true is =
          let never : true ≡ false = sym (lasts.checks.checks poke.req its_asked.q its_asked.there is).checked ∙ unchecked in absurd cc

  -- nor where it hasn't begun
  pub unbegun_off : its_asked.q.is_started ≡ false → e.checking poke.req ≡ false
  unbegun_off unbegun = by_check (e.checking poke.req) refl
    where
      by_check : (b : Bool) → e.checking poke.req ≡ b → b ≡ false
      by_check false is = refl
      by_check true is =
          let never : true ≡ false = sym (lasts.checks.begun poke.req its_asked.q its_asked.there is) ∙ unbegun in absurd cc

  -- nor where those in a check have joined the queue, which a poke that waits hasn't
  pub unjoined_off : (e.checking poke.req ≡ true → has_req e.start.joined poke.req ≡ true) → e.checking poke.req ≡ false
  unjoined_off joined = by_check (e.checking poke.req) refl
    where
      by_check : (b : Bool) → e.checking poke.req ≡ b → b ≡ false
      by_check false is = refl
      by_check true is =
          let never : true ≡ false = sym (joined is) ∙ unjoined t.running (seen_start e) proc stands.between.tab stands.between.flows poke seen_first in absurd cc

  -- ---- the document acts

  module _ (d : Document) (view : View) (found : document_of e.start poke.doc ≡ Some d) (has : d.view ≡ Some view) (runs : view.running ≡ true) where
    abbrev seen_found : document_of (seen_start e) poke.doc ≡ Some (unhandled d)
    seen_found = found_read e.checking e.start poke.doc d found

    pub number_log : view.doc ≡ poke.doc
    number_log =
        number (seen_start e) t queue blame stands (seen_room e room) once proc poke seen_first (unhandled d) view seen_found has runs

    pub to_act : IsToAct e.start proc poke its_asked.q its_asked.nav d view
    to_act =
        record {
          first = first;
          asked = its_asked.there;
          unmade = its_asked.unmade;
          unended = its_asked.unended;
          asks = its_asked.what;
          named = its_asked.doc ∙ ap (λ (n : DocId). let o : Option DocId = Some n in o) (sym number_log);
          there = ap (λ (n : DocId). document_of e.start n) number_log ∙ found;
          home = home (seen_start e) t queue blame stands (seen_room e room) once proc poke seen_first (unhandled d) view seen_found has runs;
          has = has;
          runs = runs;
        }

    module _ (what : What) (makes : made_by view poke.action ≡ Some what) where
      abbrev its_made : Made
      its_made = made_for view poke.req what

      made_lasts : LastsInLog e.checking t.asking (next e.start e.event (actors.Proc proc) (rows.Made proc (made_for view poke.req what)))
      made_lasts =
          record {
            checks = row_checks e.checking e.start (record { event = e.event; actor = actors.Proc proc; row = rows.Made proc its_made }) tt tt lasts.checks;
            asking = row_asking e.checking e.start e.event (actors.Proc proc) t.asking lasts.asking (rows.Made proc its_made) tt;
            shows = made_under e.start e.event (actors.Proc proc) proc its_made lasts.shows;
            duly = row_duly e.start e.event (actors.Proc proc) lasts.duly (rows.Made proc its_made) tt;
            known = known_on e.start (record { event = e.event; actor = actors.Proc proc; row = rows.Made proc its_made }) tt tt tt tt lasts.known;
          }

      -- what it made is no edit
      pub made_acts : IsNoEdit what → e.before ≡ [] → e.actor ≡ actors.Proc proc → e.event ≡ e.start.events → e.own ≡ rows.Made proc (made_for view poke.req what) → HasActed check e [] t queue blame
      made_acts no_edit uncut by event own =
          alone_acts e (actors.Proc proc) (rows.Made proc its_made) by own uncut (rows.Made proc its_made)
          (made_seen e.checking e.start e.event (actors.Proc proc) proc its_made (ap (λ (b : Bool). b && is_some e.start.just_finished) (begins_anew e.start.events e.event event)))
          t queue blame
          (subst (λ (n : ℕ). StandsFor check (next (seen_start e) n (actors.Proc proc) (rows.Made proc its_made)) t queue blame) (sym event)
          (made_stands (seen_start e) t queue blame stands (seen_room e room) once proc poke seen_first (unhandled d) view seen_found has runs what makes no_edit))
          made_lasts (made_beside e.start e.event (actors.Proc proc) proc its_made) asks
          (subst (λ (n : ℕ). Passes e.header (record { start = e.start; now = e.start; done = []; later = [] }) (record { event = n; actor = actors.Proc proc; row = rows.Made proc its_made })) (sym event)
          (made_passes e.header e.start proc poke its_asked.q its_asked.nav d view what to_act makes no_edit))

    -- ---- its address is none for the document

    pub no_address_passes : made_by view poke.action ≡ None → Passes e.header (record { start = e.start; now = e.start; done = []; later = [] }) (record { event = e.start.events; actor = actors.Proc proc; row = rows.Refused poke.req denials.BadAddress })
    no_address_passes none = refused_passes e.header e.start proc poke its_asked.q its_asked.nav d view to_act none unheld_log

    -- of such a poke no traversal is asked
    pub no_address_off : made_by view poke.action ≡ None → e.checking poke.req ≡ false
    no_address_off none = nowhere_off (goes_somewhere view poke.action none)

  -- ---- the poke is refused

  -- its document is gone, or doesn't run
  pub no_document_passes : is_running e.start poke.doc ≡ false → Passes e.header (record { start = e.start; now = e.start; done = []; later = [] }) (record { event = e.start.events; actor = actors.Proc proc; row = rows.Refused poke.req denials.NoDocument })
  no_document_passes stopped =
      record {
        formed = rw first (rw (nat_eq_refl poke.req.0, its_asked.there) refl);
        once = rw its_asked.there (rw its_asked.unended refl);
        caused = rw its_asked.there (rw its_asked.doc (rw stopped refl));
        queued = rw (unheld_log, its_asked.there) (rw its_asked.what (unturned (is_traversal (requests.Poke its_asked.nav poke.action)) (begins_in_turn e.start poke.req)));
        ordered = refl;
        checked = refl;
        in_time = refl;
        suits = refl;
      }

  -- it isn't in a check
  module _ (off : e.checking poke.req ≡ false) where
    -- so it isn't under way, but where no check reads it
    pub idle_asked : IsIdle its_asked.q
    idle_asked = record { off = its_off; unended = its_asked.unended }
      where
        number_is : its_asked.q.nr ≡ poke.req
        number_is = lasts.checks.numbered poke.req its_asked.q its_asked.there

        runs_not : (is_under_way its_asked.q && is_traversal its_asked.q.what) ≡ false
        runs_not =
            stands.between.tab.asked.only poke.req (without_asks its_asked.q) (found_off e.checking e.start poke.req its_asked.q its_asked.there (ap e.checking number_is ∙ off))
            ∙ not_running t.running (seen_start e) proc stands.between.tab stands.between.flows poke seen_first

        its_off : (is_checked its_asked.q && is_under_way its_asked.q) ≡ false
        its_off =
            poke_off (is_load its_asked.q.what) (is_traversal its_asked.q.what) (is_reload its_asked.q.what) (is_under_way its_asked.q) (ap is_load its_asked.what) (ap is_reload its_asked.what) runs_not

    pub idle_poke : (q : Asked) → request_of e.start poke.req ≡ Some q → IsIdle q
    idle_poke q at = subst IsIdle (some_same (sym its_asked.there ∙ at)) idle_asked

    module _ (reason : Denial) where
      refused_lasts : LastsInLog e.checking t.asking (next e.start e.event (actors.Proc proc) (rows.Refused poke.req reason))
      refused_lasts =
          record {
            checks = row_checks e.checking e.start (record { event = e.event; actor = actors.Proc proc; row = rows.Refused poke.req reason }) tt tt lasts.checks;
            asking = row_asking e.checking e.start e.event (actors.Proc proc) t.asking lasts.asking (rows.Refused poke.req reason) off;
            shows = refused_under e.start e.event (actors.Proc proc) poke.req reason lasts.shows;
            duly = row_duly e.start e.event (actors.Proc proc) lasts.duly (rows.Refused poke.req reason) tt;
            known = known_on e.start (record { event = e.event; actor = actors.Proc proc; row = rows.Refused poke.req reason }) tt tt tt tt lasts.known;
          }

      pub refused_acts : e.before ≡ [] → e.actor ≡ actors.Proc proc → e.event ≡ e.start.events → e.own ≡ rows.Refused poke.req reason → Passes e.header (record { start = e.start; now = e.start; done = []; later = [] }) (record { event = e.start.events; actor = actors.Proc proc; row = rows.Refused poke.req reason }) → HasActed check e [] t queue blame
      refused_acts uncut by event own passes =
          alone_acts e (actors.Proc proc) (rows.Refused poke.req reason) by own uncut (rows.Refused poke.req reason)
          (refused_seen e.checking e.start e.event (actors.Proc proc) poke.req reason)
          t queue blame
          (refused_stands (seen_start e) t queue blame stands (seen_room e room) once proc poke seen_first e.event reason)
          refused_lasts (refused_beside e.start e.event (actors.Proc proc) poke.req reason idle_poke) asks
          (subst (λ (n : ℕ). Passes e.header (record { start = e.start; now = e.start; done = []; later = [] }) (record { event = n; actor = actors.Proc proc; row = rows.Refused poke.req reason })) (sym event) passes)
