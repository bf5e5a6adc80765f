-- A document edits itself on the first poke of its process: that is applied in the same event, and the coordinator has acted, which does nothing itself, whoever is in a check.
use Rattle.tab_doors.proofs.AskingLoads.{row_asking}
use Rattle.asking_facts.proofs.Passed.{known_on}
use Rattle.tab_stands.proofs.Logged.{once_of}
use Rattle.checking_facts.specs.Checks.{AreInCheck}
use Rattle.log_model.proofs.Refl.{nat_eq_refl}
use Rattle.log_model.specs.After.{after, is_new_step}
use Rattle.log_model.specs.AfterRequests.{entries_taken}
use Rattle.log_model.specs.Equal.{has_req}
use Rattle.log_model.specs.Places.{all_stand_in, goes, is_load, is_traversal}
use Rattle.log_model.specs.Seen.{Asked, Document, Place, Seen, desk_of, document_of, request_in, request_of}
use Rattle.log_model.specs.Views.{View, after_made, made_by, made_for}
use Rattle.log_model.specs.declared.action.Action.{Action}
use Rattle.log_model.specs.declared.action.Action.TheVariants as actions
use Rattle.log_model.specs.declared.change.Change.TheVariants as kinds
use Rattle.log_model.specs.declared.header.Header.{Header}
use Rattle.log_model.specs.declared.made.Made.{Made}
use Rattle.log_model.specs.declared.made.What.TheVariants as whats
use Rattle.log_model.specs.declared.outcome.Ending.TheVariants as endings
use Rattle.log_model.specs.declared.request.Poke.{Poke}
use Rattle.log_model.specs.declared.row_kind.Actor.TheVariants as actors
use Rattle.log_model.specs.declared.row_kind.LogRow.{LogRow}
use Rattle.log_model.specs.declared.row_kind.RowKind.TheVariants as rows
use Rattle.move_queue.specs.Queue.{Queue}
use Rattle.row_facts.proofs.Left.Rows.{were_shown}
use Rattle.seen_facts.proofs.Coord.Held.{held_apart, held_on, on_else}
use Rattle.seen_facts.proofs.Coord.Unread.{next}
use Rattle.seen_facts.proofs.Request.LookUps.{on_itself}
use Rattle.seen_facts.proofs.Request.Readers.{SameReads, on_read}
use Rattle.seen_laws.proofs.Keyed.{find_has, find_map}
use Rattle.seen_laws.specs.Acting.{IsToAct}
use Rattle.seen_laws.specs.Blocks.{EachPass, Passes}
use Rattle.seen_laws.specs.InEvent.{InEvent, log_of, start_of}
use Rattle.seen_laws.specs.Unasked.{unhandled, without_asks}
use Rattle.std.proofs.Common.{Bool, List, None, Option, Some, [], ap, arith, cond, eqb-true, false, map, refl, subst, sym, true, ℕ, ◌&&◌, ◌+◌, ◌==◌, ◌∙◌, ◌∷◌, ◌≡◌}
use Rattle.std.proofs.lemmas.Bool.Decides.{nat_tests}
use Rattle.std.specs.Prelude.{find, is_some, option_map, slice_get}
use Rattle.tab_acts.proofs.Acted as acted
use Rattle.tab_acts.proofs.Acts as acts
use Rattle.tab_acts.proofs.Checks.{IsIdle, edited_beside, made_beside}
use Rattle.tab_acts.proofs.Events.{log_is, seen_room, two_act}
use Rattle.tab_acts.proofs.Left.{KeepChanges, StaysTold, left_stands}
use Rattle.tab_acts.proofs.Readings.{found_off, found_read, input_read}
use Rattle.tab_doors.specs.Look.{sight}
use Rattle.tab_doors.specs.declared.tables.Tables.{Tables}
use Rattle.tab_facts.proofs.Last.Applied.{edited_lasting}
use Rattle.tab_facts.proofs.Last.Rows.{made_lasting}
use Rattle.tab_facts.proofs.Order.Rows.{orders_after}
use Rattle.tab_facts.proofs.TabEvents.Editing.{edited_between, edited_left}
use Rattle.tab_facts.proofs.TabEvents.Left.{but_of}
use Rattle.tab_facts.proofs.TabGoing.Counts.{as_many, count_more, count_same}
use Rattle.tab_facts.proofs.TabWhole.Acting.{Asks, IsActing, its_asked}
use Rattle.tab_facts.proofs.TabWhole.Editing as editing
use Rattle.tab_facts.specs.Last.Lasting.{AreLasting}
use Rattle.tab_facts.specs.TabGoing.Going.{count_of, has_ended}
use Rattle.tab_ids.specs.declared.DocId.{DocId}
use Rattle.tab_ids.specs.declared.NavId.{NavId}
use Rattle.tab_ids.specs.declared.ProcId.{ProcId}
use Rattle.tab_ids.specs.declared.ReqId.{ReqId}
use Rattle.tab_ids.specs.declared.StateId.{StateId}
use Rattle.tab_stands.proofs.Coming.{bare}
use Rattle.tab_stands.proofs.EpochRows.{coord_under, made_under}
use Rattle.tab_stands.proofs.PassedOn.{FitsWell, change_duly, row_checks, row_duly, unstood_by}
use Rattle.tab_stands.specs.PassedOn.{LoadsMadeOwn}
use Rattle.tab_stands.specs.Checked.{ChecksStand}
use Rattle.tab_stands.specs.Offs.{AreShownOnce}
use Rattle.tab_stands.specs.Standing.{HasActed, HasRoomFor, InCheck, LastsInLog, StandsFor, seen_start}
use Rattle.unasked.proofs.Ends.{applied_seen}
use Rattle.unasked.proofs.Works.{made_seen}

some_same : {A : Type 0} {a b : A} → (let o : Option A = Some a in o) ≡ Some b → a ≡ b
some_same e = cc

-- ---- the rows pass

-- the row that begins an event doesn't follow the end of an order
begins_anew : (n : ℕ) → (n == (n + 1)) ≡ false
begins_anew n = grind (arith, nat_tests)

-- what makes an edit asks for no traversal
goes_nowhere : (view : View) (action : Action) → made_by view action ≡ Some whats.Edit → goes action ≡ false
goes_nowhere view (actions.Go delta) never = absurd cc
goes_nowhere view (actions.Push memo reference) makes = refl
goes_nowhere view (actions.Replace memo reference) makes = refl
goes_nowhere view (actions.Fragment text) makes = refl
goes_nowhere view (actions.AddFrame nav) makes = refl
goes_nowhere view (actions.RemoveFrame nav) makes = refl
goes_nowhere view actions.Edit makes = refl

module _ (header : Header) (s : Seen) (proc : ProcId) (poke : Poke) (q : Asked) (nav : NavId) (d : Document) (view : View) (acts : IsToAct s proc poke q nav d view) (makes : made_by view poke.action ≡ Some whats.Edit) where
  abbrev edit : Made
  edit = made_for view poke.req whats.Edit

  abbrev makes_row : LogRow
  makes_row = record { event = s.events; actor = actors.Proc proc; row = rows.Made proc edit }

  abbrev applies_row : LogRow
  applies_row = record { event = s.events; actor = actors.Proc proc; row = rows.Applied poke.req kinds.Edit }

  -- what the document makes has its row behind it
  makes_passes : Passes header (record { start = s; now = s; done = []; later = applies_row ∷ [] }) makes_row
  makes_passes =
      record {
        formed = rw (nat_eq_refl proc.0, acts.first) (rw (nat_eq_refl poke.req.0) refl);
        once = rw (acts.asked, begins_anew s.events) (rw (acts.unmade, acts.named, acts.there) (rw (nat_eq_refl view.doc.0, acts.home, acts.has, acts.asks) (rw (nat_eq_refl proc.0, acts.runs, nat_eq_refl view.epoch.0, makes) refl)));
        caused = refl;
        queued = refl;
        ordered = refl;
        checked = refl;
        in_time = refl;
        suits = refl;
      }

  -- that is applied, once it is made: its request has made it, its document is there, and it isn't held back
  applies_passes : (then : Document) → request_of (after s makes_row) poke.req ≡ Some (record q { made = Some edit }) → document_of (after s makes_row) view.doc ≡ Some then → q.is_started ≡ false → has_req s.parked poke.req ≡ false → Passes header (record { start = s; now = after s makes_row; done = makes_row ∷ []; later = [] }) applies_row
  applies_passes then there found unstarted unparked =
      record {
        formed = rw there refl;
        once = rw there (rw (acts.unended, unstarted, acts.asks, nowhere) (rw found refl));
        caused = refl;
        queued = rw (unparked, there) (rw unstarted refl);
        ordered = refl;
        checked = rw there (rw (acts.asks, nowhere) refl);
        in_time = rw there (rw unstarted refl);
        suits = refl;
      }
    where
      nowhere : goes poke.action ≡ false
      nowhere = goes_nowhere view poke.action makes

-- ---- the tables, of whatever the log has come to

module _ (s : Seen) (t : Tables) (queue : Queue) (blame : List (StateId × ReqId)) {check : InCheck} (stands : StandsFor check s t queue blame) (room : HasRoomFor s) (once : AreShownOnce s.places) (proc : ProcId) (poke : Poke) (first : slice_get (desk_of s proc).input 0 ≡ Some poke) (d : Document) (view : View) (found : document_of s poke.doc ≡ Some d) (has : d.view ≡ Some view) (runs : view.running ≡ true) (makes : made_by view poke.action ≡ Some whats.Edit) where
  abbrev its_made : Made
  its_made = made_for view poke.req whats.Edit

  acting : IsActing t.running s proc stands.between.tab stands.between.flows poke first d view whats.Edit
  acting =
      acted.acting s t queue blame stands room once proc poke first d view found has runs whats.Edit makes

  abbrev edits : Seen
  edits =
      editing.edits t.running s proc stands.between.tab stands.between.flows poke first d view acting

  abbrev n : Seen
  n = editing.edited t.running s proc stands.between.tab stands.between.flows poke first d view acting

  places_same : n.places ≡ s.places
  places_same =
      editing.edited_places t.running s proc stands.between.tab stands.between.flows poke first d view acting

  documents_same : n.documents ≡ edits.documents
  documents_same =
      editing.edited_documents t.running s proc stands.between.tab stands.between.flows poke first d view acting

  -- ---- the request of the poke

  abbrev asked : Asks t.running s proc stands.between.tab stands.between.flows poke first
  asked = its_asked t.running s proc stands.between.tab stands.between.flows poke first

  its_there : document_of s view.doc ≡ Some d
  its_there = acted.there s t queue blame stands room once proc poke first d view found has runs

  unheld : has_req s.parked poke.req ≡ false
  unheld = acted.unheld s t queue blame stands room once proc poke first

  abbrev make : Asked → Asked
  make x = record x { made = Some its_made }

  abbrev apply : Asked → Asked
  apply x = record x { ending = Some endings.Applied }

  abbrev with_change : Asked → Asked
  with_change x = record x { change = Some kinds.Edit }

  abbrev took : Asked → Asked
  took x = record x { took = entries_taken s.history kinds.Edit }

  there_edits : request_in edits.requests poke.req ≡ Some (make asked.q)
  there_edits = on_itself s.requests poke.req make ∙ ap (λ (o : Option Asked). option_map make o) asked.there

  there_then : request_in n.requests poke.req ≡ Some (took (with_change (apply (make asked.q))))
  there_then =
      on_itself _ poke.req took
      ∙ ap (λ (o : Option Asked). option_map took o) (on_itself _ poke.req with_change ∙ ap (λ (o : Option Asked). option_map with_change o) (on_itself edits.requests poke.req apply ∙ ap (λ (o : Option Asked). option_map apply o) there_edits))

  others : (r : ReqId) → (r.0 == poke.req.0) ≡ false → request_in n.requests r ≡ request_in s.requests r
  others r apart =
      on_else _ poke.req took r apart
      ∙ on_else _ poke.req with_change r apart
      ∙ on_else edits.requests poke.req apply r apart
      ∙ on_else s.requests poke.req make r apart

  reads : {B : Type 0} (read : Asked → B) → ((x : Asked) → read (make x) ≡ read x) → ((x : Asked) → read (apply x) ≡ read x) → ((x : Asked) → read (with_change x) ≡ read x) → ((x : Asked) → read (took x) ≡ read x) → SameReads read s.requests n.requests
  reads read one two three four r =
      on_read read _ poke.req took four r
      ∙ on_read read _ poke.req with_change three r
      ∙ on_read read edits.requests poke.req apply two r
      ∙ on_read read s.requests poke.req make one r

  -- the change of another request stays, and this one had none
  changes : KeepChanges s.requests n.requests
  changes req q now at at_then change is = by_test (req.0 == poke.req.0) refl
    where
      by_test : (b : Bool) → (req.0 == poke.req.0) ≡ b → now.change ≡ Some change
      by_test false apart =
          let same : now ≡ q = some_same (sym at_then ∙ others req apart ∙ at) in
          ap (λ (x : Asked). x.change) same ∙ is
      by_test true same =
          let one : req ≡ poke.req = ap (λ (i : ℕ). let x : ReqId = record { 0 = i } in x) (eqb-true req.0 poke.req.0 same) in
          let its : asked.q ≡ q = some_same (sym asked.there ∙ ap (λ (r : ReqId). request_in s.requests r) (sym one) ∙ at) in
          let none : asked.q.change ≡ None = (stands.between.tab.movers.ends poke.req asked.q asked.there).unchanged asked.unended in
          let never : None ≡ Some change = sym none ∙ ap (λ (x : Asked). x.change) its ∙ is in
          absurd cc

  counts : (test : Asked → Bool) → ((x : Asked) → test (make x) ≡ test x) → ((x : Asked) → test (with_change x) ≡ test x) → ((x : Asked) → test (took x) ≡ test x) → test (make asked.q) ≡ false → test (apply (make asked.q)) ≡ true → count_of test n.requests ≡ count_of test s.requests + 1
  counts test one three four before then =
      count_same test _ poke.req took (λ x at. four x)
      ∙ count_same test _ poke.req with_change (λ x at. three x)
      ∙ count_more test edits.requests poke.req apply (make asked.q) there_edits before then
      ∙ ap (λ (k : ℕ). k + 1) (count_same test s.requests poke.req make (λ x at. one x))

  no_step : is_new_step edits poke.req ≡ false
  no_step = rw there_edits (rw asked.what refl)

  told : StaysTold s n
  told =
      record {
        sights = ap (λ (l : List Document). map sight l) documents_same ∙ acted.sights s t queue blame stands room once proc poke first d view found has runs whats.Edit makes;
        ways = reads bare (λ x. refl) (λ x. refl) (λ x. refl) (λ x. refl);
        changes = changes;
        held = held_on _ s.parked poke.req took (λ x. refl) ∙ held_on _ s.parked poke.req with_change (λ x. refl) ∙ held_on edits.requests s.parked poke.req apply (λ x. refl) ∙ held_apart s.requests s.parked poke.req make unheld;
        jobs = refl;
        states = refl;
        entries = refl;
        initial = refl;
        ended = (let more : count_of has_ended n.requests ≡ count_of has_ended s.requests + 1 = counts has_ended (λ x. refl) (λ x. refl) (λ x. refl) (ap is_some asked.unended) refl in omega (arith, more));
        long = as_many _ poke.req took ∙ as_many _ poke.req with_change ∙ as_many edits.requests poke.req apply ∙ as_many s.requests poke.req make;
        step = rw no_step refl;
        unstood = λ off away. unstood_by edits (record { event = s.events; actor = actors.Proc proc; row = rows.Applied poke.req kinds.Edit }) (rw no_step refl) away (unstood_by s (record { event = s.events; actor = actors.Proc proc; row = rows.Made proc its_made }) refl (ap (λ (l : List Place). all_stand_in s.history.rows l s.history.current) (sym places_same) ∙ away) off);
      }

  homes : (doc : DocId) (x : Document) → document_of s doc ≡ Some x → (new : Document) × (document_of n doc ≡ Some new) × (new.nav ≡ x.nav)
  homes doc x at =
      let its = acted.homes s t queue blame stands room once proc poke first d view found has runs whats.Edit makes doc x at in
      (its.0, ap (λ (l : List Document). find (λ (y : Document). y.nr.0 == doc.0) l) documents_same ∙ its.1, its.2)

  lasting : AreLasting n
  lasting =
      edited_lasting edits s.events (actors.Proc proc) (made_lasting s s.events (actors.Proc proc) stands.lasts.lasting proc its_made d view its_there has runs refl (acted.goes_on s t queue blame stands room once proc poke first d view found has runs whats.Edit makes)) poke.req

  theirs : LoadsMadeOwn n
  theirs =
      acted.theirs_else s n poke.req (acted.no_load s t queue blame stands room once proc poke first) others own_was homes stands.lasts.made
    where
      own_was : (q : Asked) → request_in n.requests poke.req ≡ Some q → (old : Asked) × (request_in s.requests poke.req ≡ Some old) × (old.what ≡ q.what)
      own_was q at = (asked.q, asked.there, ap (λ (x : Asked). x.what) (some_same (sym there_then ∙ at)))

  pub edit_stands : StandsFor check (next (next s s.events (actors.Proc proc) (rows.Made proc (made_for view poke.req whats.Edit))) s.events (actors.Proc proc) (rows.Applied poke.req kinds.Edit)) t queue blame
  edit_stands =
      left_stands s t queue blame stands room n (but_of t.running s n (edited_left t.kept.keep t.running s proc stands.between poke first d view acting)) told
      (edited_between t.kept.keep t.running s proc stands.between poke first d view acting) lasting
      (λ F are. orders_after F edits s.events (actors.Proc proc) (rows.Applied poke.req kinds.Edit) tt (λ x is. cc) (orders_after F s s.events (actors.Proc proc) (rows.Made proc its_made) tt (λ x is. cc) are)) theirs
      (were_shown edits s.events (actors.Proc proc) (were_shown s s.events (actors.Proc proc) stands.lasts.were (rows.Made proc its_made) tt) (rows.Applied poke.req kinds.Edit) tt)
      (subst (λ (l : List Place). AreShownOnce l) (sym places_same) once)

-- ---- the event, of the log itself

module _ (e : InEvent) (t : Tables) (queue : Queue) (blame : List (StateId × ReqId)) {check : InCheck} (stands : StandsFor check (seen_start e) t queue blame) (lasts : LastsInLog e.checking t.asking e.start) (asks : ChecksStand e.checking e.start t.checks) (room : HasRoomFor e.start) (proc : ProcId) (poke : Poke) (first : slice_get (desk_of e.start proc).input 0 ≡ Some poke) (d : Document) (view : View) (found : document_of e.start poke.doc ≡ Some d) (has : d.view ≡ Some view) (runs : view.running ≡ true) (makes : made_by view poke.action ≡ Some whats.Edit) where
  abbrev edit_ : Made
  edit_ = made_for view poke.req whats.Edit

  abbrev edits_log : Seen
  edits_log = next e.start e.event (actors.Proc proc) (rows.Made proc (made_for view poke.req whats.Edit))

  abbrev its_poke : acts.Asks e t queue blame stands lasts asks room proc poke first
  its_poke = acts.its_asked e t queue blame stands lasts asks room proc poke first

  acts_log : IsToAct e.start proc poke its_poke.q its_poke.nav d view
  acts_log = acts.to_act e t queue blame stands lasts asks room proc poke first d view found has runs

  -- what makes an edit is in no check
  off : e.checking poke.req ≡ false
  off = acts.nowhere_off e t queue blame stands lasts asks room proc poke first (goes_nowhere view poke.action makes)

  -- an edit changes no history
  edit_fits : FitsWell edits_log kinds.Edit
  edit_fits =
      record {
        sound = stands.between.tab.sound;
        hangs = record { woven = stands.between.tab.hangs.woven; rows = stands.between.tab.hangs.rows };
        fit = refl;
        brings = tt;
        then_sound = stands.between.tab.sound;
      }

  edit_lasts : LastsInLog e.checking t.asking (next edits_log e.event (actors.Proc proc) (rows.Applied poke.req kinds.Edit))
  edit_lasts =
      record {
        checks =
            row_checks e.checking edits_log (record { event = e.event; actor = actors.Proc proc; row = rows.Applied poke.req kinds.Edit }) off (tt, tt)
            (row_checks e.checking e.start (record { event = e.event; actor = actors.Proc proc; row = rows.Made proc edit_ }) tt tt lasts.checks);
        asking =
            row_asking e.checking edits_log e.event (actors.Proc proc) t.asking (row_asking e.checking e.start e.event (actors.Proc proc) t.asking lasts.asking (rows.Made proc edit_) tt) (rows.Applied poke.req kinds.Edit) off;
        shows = coord_under edits_log e.event (actors.Proc proc) (rows.Applied poke.req kinds.Edit) tt (record { start = e.start; now = edits_log; done = []; later = [] }) refl refl (made_under e.start e.event (actors.Proc proc) proc edit_ lasts.shows);
        duly = change_duly edits_log e.event (actors.Proc proc) (row_duly e.start e.event (actors.Proc proc) lasts.duly (rows.Made proc edit_) tt) poke.req kinds.Edit edit_fits tt;
        known =
            known_on edits_log (record { event = e.event; actor = actors.Proc proc; row = rows.Applied poke.req kinds.Edit }) tt tt tt tt
            (known_on e.start (record { event = e.event; actor = actors.Proc proc; row = rows.Made proc edit_ }) tt tt tt tt lasts.known);
      }

  -- its document, once it has made it
  edited_document : document_of edits_log view.doc ≡ Some (record d { view = option_map (λ (v : View). after_made v whats.Edit) d.view })
  edited_document =
      find_map (λ (x : Document). x.nr.0) does view.doc.0 e.start.documents does_nr
      ∙ ap (λ (o : Option Document). option_map does o) acts_log.there
      ∙ ap (λ (b : Bool). let o : Option Document = Some (cond b (record d { view = option_map (λ (v : View). after_made v whats.Edit) d.view }) d) in o) number
    where
      does : Document → Document
      does x = cond (x.nr.0 == view.doc.0) (record x { view = option_map (λ (v : View). after_made v whats.Edit) x.view }) x

      does_nr : (x : Document) → (does x).nr.0 ≡ x.nr.0
      does_nr x = elim (x.nr.0 == view.doc.0) as (λ b. (let y : Document = cond b (record x { view = option_map (λ (v : View). after_made v whats.Edit) x.view }) x in y).nr.0 ≡ x.nr.0) [ true ↦ refl | false ↦ refl ]

      number : (d.nr.0 == view.doc.0) ≡ true
      number = (let same : d.nr.0 ≡ view.doc.0 = find_has (λ (x : Document). x.nr.0) view.doc.0 e.start.documents d acts_log.there in rw same (nat_eq_refl view.doc.0))

  -- its request, which isn't in a check, and hasn't begun
  abbrev idle_ : IsIdle its_poke.q
  idle_ = acts.idle_asked e t queue blame stands lasts asks room proc poke first off

  there_log : request_in edits_log.requests poke.req ≡ Some (record its_poke.q { made = Some edit_ })
  there_log =
      on_itself e.start.requests poke.req (λ (x : Asked). record x { made = Some edit_ })
      ∙ ap (λ (o : Option Asked). option_map (λ (x : Asked). record x { made = Some edit_ }) o) its_poke.there

  idle_then : (q : Asked) → request_of edits_log poke.req ≡ Some q → IsIdle q
  idle_then q at = subst IsIdle (some_same (sym there_log ∙ at)) (record { off = idle_.off; unended = idle_.unended })

  unstarted : its_poke.q.is_started ≡ false
  unstarted =
      (stands.between.tab.asked.each poke.req (without_asks its_poke.q) seen_there).unstarted (ap is_traversal its_poke.what ∙ goes_nowhere view poke.action makes) (ap is_load its_poke.what)
    where
      seen_there : request_of (seen_start e) poke.req ≡ Some (without_asks its_poke.q)
      seen_there =
          found_off e.checking e.start poke.req its_poke.q its_poke.there (ap e.checking (lasts.checks.numbered poke.req its_poke.q its_poke.there) ∙ off)

  pub edit_acts : e.before ≡ [] → e.actor ≡ actors.Proc proc → e.event ≡ e.start.events → e.own ≡ rows.Made proc (made_for view poke.req whats.Edit) → HasActed check e (rows.Applied poke.req kinds.Edit ∷ []) t queue blame
  edit_acts uncut by event own =
      two_act e (actors.Proc proc) (rows.Made proc edit_) by own uncut (rows.Made proc edit_)
      (made_seen e.checking e.start e.event (actors.Proc proc) proc edit_ (ap (λ (b : Bool). b && is_some e.start.just_finished) (acts.begins_anew e.start.events e.event event)))
      (rows.Applied poke.req kinds.Edit)
      (applied_seen e.checking (log_of e []) e.event e.actor poke.req kinds.Edit (λ q at. ap e.checking (numbered q at) ∙ off))
      t queue blame
      (subst (λ (i : ℕ). StandsFor check (next (next (seen_start e) i (actors.Proc proc) (rows.Made proc edit_)) i (actors.Proc proc) (rows.Applied poke.req kinds.Edit)) t queue blame) (sym event)
      (edit_stands (seen_start e) t queue blame stands (seen_room e room) (once_of lasts.shows) proc poke (input_read e.checking e.start proc poke first) (unhandled d) view (found_read e.checking e.start poke.doc d found) has runs makes))
      edit_lasts (made_beside e.start e.event (actors.Proc proc) proc edit_) (edited_beside edits_log e.event (actors.Proc proc) poke.req idle_then) asks
      (subst (λ (i : ℕ). EachPass (start_of e) ((let r : LogRow = record { event = i; actor = actors.Proc proc; row = rows.Made proc edit_ } in r) ∷ (let r : LogRow = record { event = i; actor = actors.Proc proc; row = rows.Applied poke.req kinds.Edit } in r) ∷ []) []) (sym event) both_pass)
    where
      numbered : (q : Asked) → request_in (log_of e []).requests poke.req ≡ Some q → q.nr ≡ poke.req
      numbered q at =
          edit_lasts_first.numbered poke.req q (ap (λ (x : Seen). request_in x.requests poke.req) (sym (log_is e (actors.Proc proc) (rows.Made proc edit_) by own uncut)) ∙ at)
        where
          edit_lasts_first : AreInCheck e.checking edits_log
          edit_lasts_first =
              row_checks e.checking e.start (record { event = e.event; actor = actors.Proc proc; row = rows.Made proc edit_ }) tt tt lasts.checks

      at_start : ℕ → Seen
      at_start i = next e.start i (actors.Proc proc) (rows.Made proc edit_)

      both_pass : EachPass (start_of e) ((let r : LogRow = record { event = e.start.events; actor = actors.Proc proc; row = rows.Made proc edit_ } in r) ∷ (let r : LogRow = record { event = e.start.events; actor = actors.Proc proc; row = rows.Applied poke.req kinds.Edit } in r) ∷ []) []
      both_pass = (
        makes_passes e.header e.start proc poke its_poke.q its_poke.nav d view acts_log makes,
        (
          applies_passes e.header e.start proc poke its_poke.q its_poke.nav d view acts_log makes (record d { view = option_map (λ (v : View). after_made v whats.Edit) d.view }) (subst (λ (i : ℕ). request_of (at_start i) poke.req ≡ Some (record its_poke.q { made = Some edit_ })) event there_log) (subst (λ (i : ℕ). document_of (at_start i) view.doc ≡ Some (record d { view = option_map (λ (v : View). after_made v whats.Edit) d.view })) event edited_document) unstarted (acts.unheld_log e t queue blame stands lasts asks room proc poke first),
          tt,
        ),
      )
