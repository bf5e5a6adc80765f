-- A document that nothing needs was made for no request: it is discarded, and the tab may be brought to rest.
use Rattle.coord.proofs.Asides.{one_goes}
use Rattle.unasked.proofs.Nows.{sent_goes}
use Rattle.coord.proofs.Dones.{done_found, done_logged, done_read, done_seen, done_stands, done_taken, done_telling, done_aside}
use Rattle.coord.proofs.Fines.{IsFine, fine_discard, fine_moves, makes_over, one_fine, sound_over}
use Rattle.coord.proofs.Placed.{Makes, makes_of}
use Rattle.coord.specs.Delivering.{InDone, IsDone, made_in}
use Rattle.coord.specs.Standing.{IsToSettle}
use Rattle.coord.specs.declared.coordinator.Coordinator.{Coordinator}
use Rattle.seen_facts.specs.Hang.Members.{Has}
use Rattle.log_model.specs.Seen.{Asked, Document, Seen, request_in}
use Rattle.log_model.specs.declared.job.Job.{Job}
use Rattle.log_model.specs.declared.job.Task.{Task}
use Rattle.log_model.specs.declared.row_kind.RowKind.{RowKind}
use Rattle.move_queue.specs.Queue.{Queue}
use Rattle.seen_laws.specs.InEvent.{InEvent, log_of, now_of, later_of}
use Rattle.seen_laws.specs.Sending.{leads}
use Rattle.slot_facts.specs.Slots.{AreSlots}
use Rattle.std.proofs.Common.{Bool, List, None, Option, [], ap, cond, false, refl, subst, sym, true, ℕ, ◌++◌, ◌==◌, ◌∙◌, ◌∷◌, ◌≡◌}
use Rattle.std.specs.Prelude.{option_map}
use Rattle.tab_doors.specs.Orders.{order_to}
use Rattle.tab_doors.specs.declared.tables.Tables.{Tables}
use Rattle.tab_ids.specs.declared.DocId.{DocId}
use Rattle.tab_ids.specs.declared.ReqId.{ReqId}
use Rattle.tab_ids.specs.declared.StateId.{StateId}
use Rattle.tab_loads.specs.Loading.{pass_of}
use Rattle.tab_stands.proofs.Dones.{AsksNone, did, did_now, did_requests}
use Rattle.tab_stands.proofs.Orders.{makes_first, sound_first}
use Rattle.tab_stands.proofs.PassedOn.{KeepsWhat, serve_on, rows_slots}
use Rattle.tab_stands.proofs.Placed.{made_then}
use Rattle.tab_stands.proofs.Reports.{told_causes}
use Rattle.tab_stands.proofs.Unmade.{made_at}
use Rattle.tab_stands.specs.Delivering.{IsMakeTask, IsSeenDelivery}
use Rattle.tab_stands.specs.Offs.{AreShownUnder}
use Rattle.tab_stands.specs.PassedOn.{IsReady, MakesServe, MayServe, OrdersAreSound}
use Rattle.tab_stands.specs.Standing.{IsOwnRead, StandsFor, none_in_check, seen_start}
use Rattle.tab_unneeded.proofs.Strays.{unneeded_is}
use Rattle.tab_unneeded.specs.Made.{IsMadeUnneeded}
use Rattle.tab_unneeded.specs.Telling.{is_unneeded_in}
use Rattle.log_model.specs.declared.job.Task.TheVariants as tasks
use Rattle.log_model.specs.declared.job.Why.TheVariants as whys
use Rattle.log_model.specs.declared.made.Report.TheVariants as reports
use Rattle.log_model.specs.declared.row_kind.RowKind.TheVariants as rows
use Rattle.tab_facts.proofs.Running.Over.{running_over}
use Rattle.tab_facts.proofs.Running.Tells.{telling_over}
use Rattle.tab_facts.specs.Running.Running.{AreFoundRunning}
use Rattle.tab_facts.specs.Running.Telling.{AreTelling}

module _ (d : InDone) (c : Coordinator) (job : Job) (done : IsDone d c job) (state : StateId) (is_make : IsMakeTask state job.task) where
  abbrev e : InEvent
  e = d.event

  abbrev s : Seen
  s = seen_start e

  abbrev t : Tables
  t = c.tables

  abbrev stands : StandsFor none_in_check s c.tables c.queue c.blame.entries
  stands = done_stands d c job done

  aside : IsOwnRead e
  aside = done_read d c job done

  heard : IsSeenDelivery e d.proc (reports.Done job d.outcome None)
  heard = done_seen d c job done

  abbrev its : Makes job state
  its = makes_of job state is_make

  pub made_unneeded : ((req : ReqId) → job.why ≡ whys.Req req → ⊥) → is_unneeded_in c.tables job.doc state ≡ true → IsMadeUnneeded (made_in d c job) job.doc state job.why
  made_unneeded unasked tells =
      record {
        aside = aside;
        tells = heard;
        nav = its.nav;
        address = its.address;
        initial = its.initial;
        task = its.task;
        doc_is = refl;
        why_is = refl;
        unasked = unasked;
        stray = unneeded_is e d.proc job d.outcome heard t c.queue c.blame.entries stands aside its.nav state its.address its.initial its.task tells;
      }

  -- ---- what goes on over the event's own row

  abbrev told : Seen
  told = did e d.proc job d.outcome heard t c.queue c.blame.entries stands aside

  now : now_of e [] ≡ told
  now = did_now e d.proc job d.outcome heard t c.queue c.blame.entries stands aside

  same : told.requests ≡ s.requests
  same =
      did_requests e d.proc job d.outcome heard t c.queue c.blame.entries stands aside (subst (λ (k : Task). AsksNone k) (sym its.task) tt)

  leads_own : leads e.own ≡ true
  leads_own = ap (λ (k : RowKind). leads k) heard.own

  serves : (req : ReqId) → MayServe s req → MayServe (now_of e []) req
  serves req may =
      subst (λ (x : Seen). MayServe x req) (sym now)
      (serve_on s told req (told_causes e d.proc heard.by_coord heard.own t c.queue c.blame.entries stands aside (reports.Done job d.outcome None) heard.first same) may)

  keeps : KeepsWhat s (now_of e [])
  keeps =
      subst (λ (x : Seen). KeepsWhat s x) (sym now) (record {
        asked = λ req q at. (q, ap (λ (l : List Asked). request_in l req) same ∙ at, refl);
        homes = λ doc x found. (made_at job.doc x, made_then e d.proc job d.outcome heard t c.queue c.blame.entries stands aside its.nav state its.address its.initial its.task doc ∙ ap (λ (o : Option Document). option_map (λ (y : Document). made_at job.doc y) o) found, nav_same x (x.nr.0 == job.doc.0));
      })
    where
      nav_same : (x : Document) (b : Bool) → (let y : Document = cond b (record x { is_ready = true; is_fresh = true }) x in y).nav ≡ x.nav
      nav_same x true = refl
      nav_same x false = refl

  -- ---- so the tab may be brought to rest

  module _ (out : List RowKind) (is : out ≡ rows.Sent (order_to (now_of d.event []) job.doc job.why tasks.Discard) ∷ []) (u : Tables) (ready : IsReady (pass_of d.event []) out u c.queue c.blame.entries whys.Start) where
    fine : (row : RowKind) → Has out row → IsFine (now_of e out) whys.Start row
    fine =
        subst (λ (l : List RowKind). (row : RowKind) → Has l row → IsFine (now_of e out) whys.Start row) (sym is)
        (one_fine (now_of e out) whys.Start (rows.Sent (order_to (now_of e []) job.doc job.why tasks.Discard)) (fine_discard (now_of e out) whys.Start (order_to (now_of e []) job.doc job.why tasks.Discard) refl))

    makes : MakesServe (now_of e out)
    makes =
        makes_over e u.running out ready.passing.work.goes whys.Start ready.passing.going.tab.asked ready.open_.may fine (makes_first e aside leads_own serves stands.lasts.makes)

    sound : OrdersAreSound (now_of e out)
    sound =
        sound_over e u.running out ready.passing.work.goes whys.Start ready.passing.going.tab.asked ready.open_.may fine (sound_first e aside leads_own keeps stands.lasts.sound)

    shows : AreShownUnder (log_of e [])
    shows = (done_logged d c job done).lasts.shows

    found : AreFoundRunning (now_of e out)
    found =
        subst (λ (l : List RowKind). AreFoundRunning (now_of e l)) (sym is)
        (running_over e (rows.Sent (order_to (now_of e []) job.doc job.why tasks.Discard) ∷ []) [] (tt, tt) (one_goes e (rows.Sent (order_to (now_of e []) job.doc job.why tasks.Discard)) (sent_goes e [] (order_to (now_of e []) job.doc job.why tasks.Discard) refl)) (done_found d c job done))

    telling : AreTelling (now_of e out)
    telling = telling_over e out [] ready.passing.work.goes (λ row has. (fine row has).coord) (done_telling d c job done)

    pub dropped_settles : (after : Coordinator) → after.header ≡ c.header → after.tables ≡ u → after.queue ≡ c.queue → after.blame.entries ≡ c.blame.entries → after.slots.entries ≡ c.slots.entries → IsToSettle d.event out after whys.Start
    dropped_settles after header tables queue noted slots =
        record {
          header = header ∙ done.open_.header;
          unchecked = done.open_.unchecked;
          unwanted = done.open_.unwanted;
          starts = (done_aside d c job done).plain;
          ready =
              subst (λ (l : List (StateId × ReqId)). IsReady (pass_of e []) out after.tables after.queue l whys.Start) (sym noted)
              (subst (λ (q : Queue). IsReady (pass_of e []) out after.tables q c.blame.entries whys.Start) (sym queue)
              (subst (λ (x : Tables). IsReady (pass_of e []) out x c.queue c.blame.entries whys.Start) (sym tables) ready));
          makes = makes;
          sound = sound;
          coord = λ row has. (fine row has).coord;
          unmoved = fine_moves (now_of e out) (now_of e out) whys.Start out fine;
          shows = shows;
          known = (done_logged d c job done).lasts.known;
          taken = λ later. done_taken d c job done (later_of e out ++ later);
          found = found;
          telling = telling;
          slots =
              subst (λ (l : List (DocId × ℕ)). AreSlots (log_of e out) l) (sym slots)
              (rows_slots e c.slots.entries out [] (λ row has. (fine row has).coord) done.slots);
        }
