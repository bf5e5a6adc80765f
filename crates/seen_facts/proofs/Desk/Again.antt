-- What a process has stays of its documents, as documents and places change.
use Rattle.std.proofs.Common.{◌≡◌, ◌≤◌, true, List, Option, Some, None, refl, ap, ◌∙◌, arith}
use Rattle.tab_ids.specs.declared.DocId.{DocId}
use Rattle.tab_ids.specs.declared.NavId.{NavId}
use Rattle.tab_ids.specs.declared.ProcId.{ProcId}
use Rattle.log_model.specs.declared.job.Job.{Job}
use Rattle.log_model.specs.declared.job.Task.{Task}
use Rattle.log_model.specs.declared.job.Task.TheVariants as tasks
use Rattle.log_model.specs.declared.made.Made.{Made}
use Rattle.log_model.specs.declared.made.Report.{Report}
use Rattle.log_model.specs.declared.made.Report.TheVariants as reports
use Rattle.log_model.specs.Seen.{Document, Desk, Place, place_in}
use Rattle.seen_facts.specs.Coord.Leading.{orders_of_desk}
use Rattle.seen_facts.specs.Home.Homes.{document_in}
use Rattle.seen_facts.proofs.Each.Eaches.{each_on}
use Rattle.seen_facts.specs.Desk.Own.{IsDeskIn, IsMadeIn, IsMadeOfOrder, IsOrderIn, IsPokeIn, IsReportIn, IsTaskOf, LivesIn}

-- the document is there, where it lived and of its navigable, and made if it was
pub record StaysIn (documents : List Document) (doc : DocId) (d : Document) : Type 0 where
  pub new : Document
  pub found : document_in documents doc ≡ Some new
  pub nav : new.nav ≡ d.nav
  pub proc : new.proc.0 ≡ d.proc.0
  pub ready : d.is_ready ≡ true → new.is_ready ≡ true

abbrev pub AllStay : List Document → List Document → Type 0
AllStay documents next = (doc : DocId) (d : Document) → document_in documents doc ≡ Some d → StaysIn next doc d

-- the navigable has its place, under no lower epoch
pub record StaysAt (places : List Place) (nav : NavId) (place : Place) : Type 0 where
  pub new : Place
  pub found : place_in places nav ≡ Some new
  pub epoch : place.epoch.0 ≤ new.epoch.0

abbrev pub AllStayAt : List Place → List Place → Type 0
AllStayAt places next = (nav : NavId) (place : Place) → place_in places nav ≡ Some place → StaysAt next nav place

pub same_documents : (documents : List Document) → AllStay documents documents
same_documents documents doc d found = record { new = d; found = found; nav = refl; proc = refl; ready = λ e. e }

pub same_places : (places : List Place) → AllStayAt places places
same_places places nav place found = record { new = place; found = found; epoch = (let e : place.epoch.0 ≤ place.epoch.0 = omega arith in e) }

module _ (documents next : List Document) (places placed : List Place) (stay : AllStay documents next) (stay_at : AllStayAt places placed) (proc : ProcId) where
  pub lives_again : (doc : DocId) → LivesIn documents proc doc → LivesIn next proc doc
  lives_again doc lives =
      let k = stay doc lives.d lives.found in record { d = k.new; found = k.found; home = k.proc ∙ lives.home }

  task_again : (d new : Document) (place now : Place) → (d.is_ready ≡ true → new.is_ready ≡ true) → place.epoch.0 ≤ now.epoch.0 → (task : Task) → IsTaskOf d place task → IsTaskOf new now task
  task_again d new place now ready epoch (tasks.Populate nav state address initial) is = tt
  task_again d new place now ready epoch (tasks.Activate entry under length index memo address) is =
      (ready is.0, is.1, (let low : under.0 ≤ place.epoch.0 = is.2 in omega (arith, low, epoch)))
  task_again d new place now ready epoch (tasks.Update length index) is = ready is
  task_again d new place now ready epoch tasks.Freeze is = ready is
  task_again d new place now ready epoch tasks.Discard is = ready is
  task_again d new place now ready epoch (tasks.Ask slot cause) is = ready is
  task_again d new place now ready epoch (tasks.DoFragment req mode address) is = ready is

  pub order_again : (job : Job) → IsOrderIn documents places proc job → IsOrderIn next placed proc job
  order_again job is =
      let k = stay job.doc is.lives.d is.lives.found in
      let p = stay_at is.lives.d.nav is.place is.placed in
      record {
        lives = record { d = k.new; found = k.found; home = k.proc ∙ is.lives.home };
        place = p.new;
        placed = ap (λ (nav : NavId). place_in placed nav) k.nav ∙ p.found;
        proc_is = is.proc_is;
        incarnation = is.incarnation;
        task = task_again is.lives.d k.new is.place p.new k.ready p.epoch job.task is.task;
      }

  pub made_again : (made : Made) → IsMadeIn documents proc made → IsMadeIn next proc made
  made_again made is = record { lives = lives_again made.doc is.lives; own = is.own }

  of_order_again : (job : Job) (made : Option Made) → IsMadeOfOrder documents proc job made → IsMadeOfOrder next proc job made
  of_order_again job None is = tt
  of_order_again job (Some made) is = (is.0, is.1, made_again made is.2)

  pub report_again : (report : Report) → IsReportIn documents places proc report → IsReportIn next placed proc report
  report_again (reports.Done job outcome made) is = (order_again job is.0, is.1, of_order_again job made is.2)
  report_again (reports.Made made) is = made_again made is
  report_again (reports.Died death) never = absurd never

  pub desk_again : (desk : Desk) → IsDeskIn documents places proc desk → IsDeskIn next placed proc desk
  desk_again desk is =
      record {
        orders = each_on (IsOrderIn documents places proc) (IsOrderIn next placed proc) (orders_of_desk desk) order_again is.orders;
        told = each_on (IsReportIn documents places proc) (IsReportIn next placed proc) desk.reports report_again is.told;
        pokes = each_on (IsPokeIn documents proc) (IsPokeIn next proc) desk.input (λ poke lives. lives_again poke.doc lives) is.pokes;
      }
