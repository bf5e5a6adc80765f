-- What the processes of a tab of frames have stays so: orders, reports and pokes, as documents and places change and lists grow and shrink.
use Rattle.std.proofs.Common.{◌≡◌, ◌≤◌, Bool, true, false, ◌==◌, List, [], Some, None, refl, sym, ap, ◌∙◌, subst, arith}
use Rattle.std.specs.Prelude.{slice_get}
use Rattle.tab_ids.specs.declared.DocId.{DocId}
use Rattle.tab_ids.specs.declared.NavId.{NavId}
use Rattle.tab_ids.specs.declared.ProcId.{ProcId}
use Rattle.log_model.specs.declared.job.Job.{Job}
use Rattle.log_model.specs.declared.job.Order.{Order}
use Rattle.log_model.specs.declared.job.Task.{Task}
use Rattle.log_model.specs.declared.job.Task.TheVariants as tasks
use Rattle.log_model.specs.declared.made.Made.{Made}
use Rattle.log_model.specs.declared.made.Report.{Report}
use Rattle.log_model.specs.declared.made.Report.TheVariants as reports
use Rattle.log_model.specs.declared.request.Poke.{Poke}
use Rattle.log_model.specs.After.{on_desk}
use Rattle.log_model.specs.Seen.{Seen, Document, Desk, Place, desk_in, desk_of, place_in}
use Rattle.seen_facts.specs.Coord.Leading.{orders_of_desk}
use Rattle.seen_facts.proofs.Coord.Leadings.{proc_same}
use Rattle.seen_facts.specs.Home.Homes.{document_in}
use Rattle.seen_laws.proofs.Desks.{desk_on_same, desk_on_other}
use Rattle.seen_facts.proofs.Each.Eaches.{each_on}
use Rattle.tab_facts.specs.FrameTab.Desks.{IsTaskOf, IsOrderTo, IsMadeThere, IsReportTo, IsPokeThere, IsHomeDesk, IsBare, AreDesks}

-- ---- documents and places that stay

-- the document is there, of its navigable, and made if it was
pub record StaysMade (documents : List Document) (doc : DocId) (d : Document) : Type 0 where
  pub new : Document
  pub found : document_in documents doc ≡ Some new
  pub nav : new.nav ≡ d.nav
  pub ready : d.is_ready ≡ true → new.is_ready ≡ true

abbrev pub AllStayMade : List Document → List Document → Type 0
AllStayMade documents next = (doc : DocId) (d : Document) → document_in documents doc ≡ Some d → StaysMade next doc d

-- the navigable has its place, under no lower epoch
pub record StaysPlaced (places : List Place) (nav : NavId) (place : Place) : Type 0 where
  pub new : Place
  pub found : place_in places nav ≡ Some new
  pub epoch : place.epoch.0 ≤ new.epoch.0

abbrev pub AllStayPlaced : List Place → List Place → Type 0
AllStayPlaced places next = (nav : NavId) (place : Place) → place_in places nav ≡ Some place → StaysPlaced next nav place

pub same_made : (documents next : List Document) → next ≡ documents → AllStayMade documents next
same_made documents next same doc d found =
    record { new = d; found = ap (λ (l : List Document). document_in l doc) same ∙ found; nav = refl; ready = λ ready. ready }

pub same_placed : (places next : List Place) → next ≡ places → AllStayPlaced places next
same_placed places next same nav place found =
    record { new = place; found = ap (λ (l : List Place). place_in l nav) same ∙ found; epoch = omega arith }

-- ---- one order, report or poke

module _ (documents next : List Document) (places placed : List Place) (made : AllStayMade documents next) (stay : AllStayPlaced places placed) where
  task_again : (d new : Document) (place now : Place) → (d.is_ready ≡ true → new.is_ready ≡ true) → place.epoch.0 ≤ now.epoch.0 → (task : Task) → IsTaskOf d place task → IsTaskOf new now task
  task_again d new place now ready epoch (tasks.Populate nav state address initial) is = tt
  task_again d new place now ready epoch (tasks.Activate entry under length index memo address) is =
      (ready is.0, is.1, (let low : under.0 ≤ place.epoch.0 = is.2 in omega (arith, low, epoch)))
  task_again d new place now ready epoch (tasks.Update length index) is = ready is
  task_again d new place now ready epoch tasks.Discard is = ready is
  task_again d new place now ready epoch tasks.Freeze never = absurd never
  task_again d new place now ready epoch (tasks.Ask slot cause) never = absurd never
  task_again d new place now ready epoch (tasks.DoFragment req mode address) never = absurd never

  pub order_again : (job : Job) → IsOrderTo documents places job → IsOrderTo next placed job
  order_again job is =
      let d : StaysMade next job.doc is.document = made job.doc is.document is.found in
      let p : StaysPlaced placed is.document.nav is.place = stay is.document.nav is.place is.placed in
      record {
        document = d.new;
        found = d.found;
        place = p.new;
        placed = ap (λ (nav : NavId). place_in placed nav) d.nav ∙ p.found;
        incarnation = is.incarnation;
        task = task_again is.document d.new is.place p.new d.ready p.epoch job.task is.task;
      }

  pub made_there_again : (x : Made) → IsMadeThere documents x → IsMadeThere next x
  made_there_again x is =
      let d : StaysMade next x.doc is.document = made x.doc is.document is.found in
      record { document = d.new; found = d.found; own = is.own }

  pub report_again : (report : Report) → IsReportTo documents places report → IsReportTo next placed report
  report_again (reports.Done job outcome None) is = (order_again job is.0, is.1)
  report_again (reports.Done job outcome (Some x)) never = absurd never
  report_again (reports.Made x) is = made_there_again x is
  report_again (reports.Died death) never = absurd never

  pub poke_again : (poke : Poke) → IsPokeThere documents poke → IsPokeThere next poke
  poke_again poke is =
      let d : StaysMade next poke.doc is.document = made poke.doc is.document is.found in
      record { document = d.new; found = d.found }

  pub home_again : (desk : Desk) → IsHomeDesk documents places desk → IsHomeDesk next placed desk
  home_again desk is =
      record {
        orders = each_on (IsOrderTo documents places) (IsOrderTo next placed) (orders_of_desk desk) order_again is.orders;
        told = each_on (IsReportTo documents places) (IsReportTo next placed) desk.reports report_again is.told;
        pokes = each_on (IsPokeThere documents) (IsPokeThere next) desk.input poke_again is.pokes;
      }

-- ---- the desks

pub own_desk : (home : ProcId) (s t : Seen) (f : Desk → Desk) → t.desks ≡ on_desk home f s.desks → ((desk : Desk) → (f desk).proc ≡ desk.proc) → desk_of t home ≡ f (desk_of s home)
own_desk home s t f desks keeps =
    ap (λ (l : List Desk). desk_in l home) desks ∙ desk_on_same f s.desks home keeps

-- that of the process of all documents is changed
pub desks_on : (home : ProcId) (s t : Seen) (f : Desk → Desk) → t.desks ≡ on_desk home f s.desks → ((desk : Desk) → (f desk).proc ≡ desk.proc) → IsHomeDesk t.documents t.places (f (desk_of s home)) → AreDesks home s → AreDesks home t
desks_on home s t f desks keeps own are =
    record {
      own = subst (λ (desk : Desk). IsHomeDesk t.documents t.places desk) (sym (own_desk home s t f desks keeps)) own;
      others = λ proc apart. subst IsBare (sym (ap (λ (l : List Desk). desk_in l proc) desks ∙ desk_on_other f s.desks home proc keeps apart)) (are.others proc apart);
    }

-- no desk is changed
pub desks_same : (home : ProcId) (s t : Seen) → t.desks ≡ s.desks → AllStayMade s.documents t.documents → AllStayPlaced s.places t.places → AreDesks home s → AreDesks home t
desks_same home s t desks made stay are =
    record {
      own = subst (λ (l : List Desk). IsHomeDesk t.documents t.places (desk_in l home)) (sym desks) (home_again s.documents t.documents s.places t.places made stay (desk_of s home) are.own);
      others = λ proc apart. subst (λ (l : List Desk). IsBare (desk_in l proc)) (sym desks) (are.others proc apart);
    }

-- a process that has something is that of all documents
pub at_home_by_mail : (home : ProcId) (s : Seen) (proc : ProcId) (job : Job) → slice_get (desk_of s proc).mail 0 ≡ Some job → AreDesks home s → home ≡ proc
at_home_by_mail home s proc job first are = by_test (home.0 == proc.0) refl
  where
    by_test : (b : Bool) → (home.0 == proc.0) ≡ b → home ≡ proc
    by_test true e = proc_same home proc e
    by_test false e =
        let none : (desk_of s proc).mail ≡ [] = (are.others proc e).nothing.mail in
        let never : None ≡ Some job = sym (ap (λ (l : List Job). slice_get l 0) none) ∙ first in absurd cc

pub at_home_by_hand : (home : ProcId) (s : Seen) (proc : ProcId) (order : Order) → (desk_of s proc).in_hand ≡ Some order → AreDesks home s → home ≡ proc
at_home_by_hand home s proc order hand are = by_test (home.0 == proc.0) refl
  where
    by_test : (b : Bool) → (home.0 == proc.0) ≡ b → home ≡ proc
    by_test true e = proc_same home proc e
    by_test false e = let never : None ≡ Some order = sym ((are.others proc e).nothing.hand) ∙ hand in absurd cc

pub at_home_by_report : (home : ProcId) (s : Seen) (proc : ProcId) (report : Report) → slice_get (desk_of s proc).reports 0 ≡ Some report → AreDesks home s → home ≡ proc
at_home_by_report home s proc report first are = by_test (home.0 == proc.0) refl
  where
    by_test : (b : Bool) → (home.0 == proc.0) ≡ b → home ≡ proc
    by_test true e = proc_same home proc e
    by_test false e =
        let none : (desk_of s proc).reports ≡ [] = (are.others proc e).nothing.reports in
        let never : None ≡ Some report = sym (ap (λ (l : List Report). slice_get l 0) none) ∙ first in absurd cc

pub at_home_by_poke : (home : ProcId) (s : Seen) (proc : ProcId) (poke : Poke) → slice_get (desk_of s proc).input 0 ≡ Some poke → AreDesks home s → home ≡ proc
at_home_by_poke home s proc poke first are = by_test (home.0 == proc.0) refl
  where
    by_test : (b : Bool) → (home.0 == proc.0) ≡ b → home ≡ proc
    by_test true e = proc_same home proc e
    by_test false e =
        let none : (desk_of s proc).input ≡ [] = (are.others proc e).input in
        let never : None ≡ Some poke = sym (ap (λ (l : List Poke). slice_get l 0) none) ∙ first in absurd cc
