-- An order was done of which nothing was made, and which made no document: the tab may be brought to rest.
use Rattle.tab_ids.specs.declared.ReqId.{ReqId}
use Rattle.asking_facts.specs.Known.{AskingKnown}
use Rattle.tab_doors.proofs.Works.{none_steps}
use Rattle.tab_doors.specs.Working.{StartsPlain}
use Rattle.tab_stands.proofs.Logged.{own_read}
use Rattle.coord.proofs.Asides.{delivered_aside, seen_delivery, seen_room, seen_stands}
use Rattle.log_model.specs.declared.row_kind.LogRow.{LogRow}
use Rattle.coord.proofs.Causes.{for_none}
use Rattle.coord.specs.Delivering.{InDone, IsDone}
use Rattle.coord.specs.Standing.{IsOpenIn, IsToSettle, nobody}
use Rattle.coord.specs.declared.coordinator.Coordinator.{Coordinator}
use Rattle.seen_facts.proofs.Each.Eaches.{each_first}
use Rattle.log_model.specs.Seen.{desk_of}
use Rattle.log_model.specs.declared.header.Header.{Header}
use Rattle.log_model.specs.declared.job.Job.{Job}
use Rattle.log_model.specs.declared.handler.LeaveCause.{LeaveCause}
use Rattle.log_model.specs.declared.job.Task.{Task}
use Rattle.log_model.specs.declared.job.Why.{Why}
use Rattle.nav_tree.specs.Tree.{node_of}
use Rattle.tab_facts.specs.Order.Orders.{TellsOf}
use Rattle.seen_laws.specs.InEvent.{InEvent, log_of, now_of, later_of, IsTakenIn, WantsNothing}
use Rattle.slot_facts.specs.Slots.{AreSlots}
use Rattle.std.proofs.Common.{Bool, None, Some, [], ap, refl, subst, ℕ, ◌∙◌, ◌≡◌, List, ◌++◌}
use Rattle.std.specs.Option.{IsSome}
use Rattle.tab_doors.specs.Noting.{shown_tree}
use Rattle.tab_doors.specs.Ties.{nav_in}
use Rattle.tab_doors.specs.declared.tables.Tables.{Tables}
use Rattle.tab_ids.specs.declared.NavId.{NavId}
use Rattle.tab_loads.specs.Loading.{pass_of}
use Rattle.tab_stands.proofs.Dones.{did_takes, quiet_begun}
use Rattle.tab_stands.proofs.Ready.{ready}
use Rattle.tab_stands.proofs.Shown.{nav_there, shown_begun}
use Rattle.tab_stands.specs.Delivering.{IsQuietTask, IsSeenDelivery, IsShowTask}
use Rattle.tab_stands.specs.PassedOn.{IsSoundTask, MayCause}
use Rattle.tab_stands.specs.Standing.{HasBegun, HasLogged, IsOwnRead, StandsFor, StartsUnasked, seen_start, none_in_check}
use Rattle.log_model.specs.declared.job.Task.TheVariants as tasks
use Rattle.log_model.specs.declared.job.Why.TheVariants as whys
use Rattle.log_model.specs.declared.made.Report.TheVariants as reports
use Rattle.coord.proofs.Fragments.{delivered_found, delivered_logged, delivered_telling}
use Rattle.tab_facts.specs.Running.Running.{AreFoundRunning}
use Rattle.tab_facts.specs.Running.Telling.{AreTelling}

-- the tables keep as many documents as the event's settings say
pub keep_now : (e : InEvent) (c : Coordinator) → IsOpenIn e c → c.tables.kept.keep ≡ e.header.keep
keep_now e c open_ = open_.stands.keep ∙ ap (λ (h : Header). h.keep) open_.header

-- where an event has begun, and what it delivers is taken up, the tab may be brought to rest
pub to_settle : (e : InEvent) (c : Coordinator) → c.header ≡ e.header → e.checking ≡ nobody → WantsNothing e → StartsPlain e → AskingKnown (log_of e []) → HasBegun (pass_of e []) c.tables c.queue c.blame.entries → (cause : Why) → MayCause (now_of e []) cause → ((later : List LogRow) → IsTakenIn e later) → AreFoundRunning (now_of e []) → AreTelling (now_of e []) → AreSlots (log_of e []) c.slots.entries → IsToSettle e [] c cause
to_settle e c header unchecked unwanted starts known begun cause may taken found telling slots =
    record {
      header = header;
      unchecked = unchecked;
      unwanted = unwanted;
      starts = starts;
      ready = ready (pass_of e []) c.tables c.queue c.blame.entries begun refl (λ nav place placed need since. none_steps e.checking (λ req. ap (λ (f : ReqId → Bool). f req) unchecked) (log_of e [])) cause may;
      makes = begun.makes;
      sound = begun.sound;
      coord = λ row has. absurd has;
      unmoved = λ req change has. absurd has;
      shows = begun.shows;
      known = known;
      taken = λ later. taken (later_of e [] ++ later);
      found = found;
      telling = telling;
      slots = slots;
    }

module _ (d : InDone) (c : Coordinator) (job : Job) (done : IsDone d c job) where
  abbrev e : InEvent
  e = d.event

  pub done_aside : StartsUnasked d.event
  done_aside = delivered_aside e c done.open_ d.proc (reports.Done job d.outcome None) done.delivery

  pub done_read : IsOwnRead d.event
  done_read = own_read e done_aside

  pub done_seen : IsSeenDelivery d.event d.proc (reports.Done job d.outcome None)
  done_seen = seen_delivery e c done.open_ d.proc (reports.Done job d.outcome None) done.delivery

  pub done_stands : StandsFor none_in_check (seen_start d.event) c.tables c.queue c.blame.entries
  done_stands = seen_stands e c done.open_

  pub done_logged : HasLogged d.event c.tables.checks c.tables.asking
  done_logged = delivered_logged e d.proc (reports.Done job d.outcome None) done.delivery c done.open_

  pub done_taken : (later : List LogRow) → IsTakenIn d.event later
  done_taken later =
      did_takes e d.proc job d.outcome done_seen c.tables c.queue c.blame.entries done_stands done_read later

  -- what is so of fragment orders, and of reports of them
  pub done_found : AreFoundRunning (now_of d.event [])
  done_found = delivered_found e d.proc (reports.Done job d.outcome None) done.delivery c done.open_

  pub done_telling : AreTelling (now_of d.event [])
  done_telling = delivered_telling e d.proc (reports.Done job d.outcome None) done.delivery c done.open_

  pub quiet_settles : IsQuietTask job.task → IsToSettle d.event [] c whys.Start
  quiet_settles quiet =
      to_settle e c done.open_.header done.open_.unchecked done.open_.unwanted done_aside.plain done_logged.lasts.known (quiet_begun e d.proc job d.outcome done_seen c.tables c.queue c.blame.entries done_stands done_read quiet done_logged (seen_room e c done.open_) (keep_now e c done.open_)) whys.Start (for_none (now_of e [])) done_taken done_found done_telling done.slots

  -- its document's navigable is there
  pub shown_there : (nav : NavId) → nav_in c.tables.whose.entries job.doc ≡ Some nav → IsSome (node_of nav c.tables.tree)
  shown_there =
      nav_there e d.proc job d.outcome done_seen c.tables c.queue c.blame.entries done_stands done_read

  pub shown_settles : IsShowTask job.task → (u : Tables) → u ≡ record c.tables { tree = shown_tree c.tables job.doc job.nr } → IsToSettle d.event [] (record c { tables = u }) whys.Start
  shown_settles shows u is =
      to_settle e (record c { tables = u }) done.open_.header done.open_.unchecked done.open_.unwanted done_aside.plain done_logged.lasts.known (shown_begun e d.proc job d.outcome done_seen c.tables c.queue c.blame.entries done_stands done_read shows done_logged (seen_room e c done.open_) (keep_now e c done.open_) u is) whys.Start (for_none (now_of e [])) done_taken done_found done_telling done.slots

  -- no order asks anybody
  pub no_ask : (slot : ℕ) (cause : LeaveCause) → job.task ≡ tasks.Ask slot cause → ⊥
  no_ask slot cause is = subst (λ (k : Task). IsSoundTask e.start job.doc k) is sound
    where
      sound : IsSoundTask e.start job.doc job.task
      sound =
          each_first (TellsOf (λ (x : Job). IsSoundTask e.start x.doc x.task)) (desk_of e.start d.proc).reports (reports.Done job d.outcome None) done.delivery.first (done.open_.stands.stands.lasts.sound d.proc).told
