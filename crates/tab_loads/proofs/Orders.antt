-- The order that makes the document of a load that has begun.
use Rattle.row_facts.specs.LoadRows.LoadMaking.{IsMakeOfLoadDue}
use Rattle.log_model.specs.AfterRequests.{request_begun}
use Rattle.log_model.specs.Orders.{needs_document, ongoing_load as load_of_state}
use Rattle.log_model.specs.Places.{aim_of, has_passed}
use Rattle.log_model.specs.Seen.{Asked, Seen, desk_of}
use Rattle.log_model.specs.declared.job.Job.{Job}
use Rattle.log_model.specs.declared.row_kind.RowKind.{RowKind}
use Rattle.seen_laws.specs.InEvent.{now_of}
use Rattle.std.proofs.Common.{List, None, Some, [], ap, false, length, refl, true, ℕ, ◌++◌, ◌+◌, ◌∷◌, ◌≡◌}
use Rattle.std.specs.List.{list_any}
use Rattle.tab_doors.specs.Orders.{next_order}
use Rattle.tab_doors.specs.Working.{IsAtWork, KeepsStore}
use Rattle.tab_doors.specs.declared.tables.Tables.{Tables}
use Rattle.tab_ids.specs.declared.ProcId.{ProcId}
use Rattle.tab_ids.specs.declared.ReqId.{ReqId}
use Rattle.tab_ids.specs.declared.StateId.{StateId}
use Rattle.tab_loads.proofs.Firsts.{q}
use Rattle.tab_loads.specs.Asking.{BeginsAnew, InLoad, IsAsked}
use Rattle.tab_loads.specs.Giving.{HasMadeWay}
use Rattle.tab_loads.specs.Loading.{pass_of}
use Rattle.tab_loads.specs.Telling.{away_in}
use Rattle.tab_moves.proofs.Procs.{home_is}
use Rattle.tab_moves.specs.Making.{home_in}
use Rattle.tab_passes.proofs.Goings.{is_passed_for}
use Rattle.tab_passes.specs.Causes.{MayCause}
use Rattle.tab_passes.specs.Passing.{IsPassing}
use Rattle.tab_stands.proofs.PassedOn.{IsReachedAt}
use Rattle.seen_facts.specs.Walk.Serving.{is_stopping}
use Rattle.log_model.specs.declared.job.Task.TheVariants as tasks
use Rattle.log_model.specs.declared.job.Why.TheVariants as whys
use Rattle.log_model.specs.declared.row_kind.RowKind.TheVariants as rows
use Rattle.tab_loads.proofs.Begun as begun
use Rattle.tab_loads.proofs.Makes as makes

-- the order that makes the document of the load, in this process
abbrev pub order_of : InLoad → Tables → List RowKind → ProcId → Job
order_of l w now proc =
    next_order (now_of l.event now).jobs proc (record { 0 = w.documents + 1 }) (whys.Req l.req) (tasks.Populate l.nav (record { 0 = w.states }) l.address false)

module _ (l : InLoad) (t : Tables) (asked : IsAsked l t) (placed_ : away_in t l.nav ≡ None) (anew_ : BeginsAnew l t) (noted : List (StateId × ReqId)) (v : Tables) (out : List RowKind) (way : HasMadeWay l.event l.req l.nav t v out l.noted noted) (w : Tables) (now : List RowKind) (work : IsAtWork l.event now w) (now_is : now ≡ out ++ rows.Started l.req None ∷ []) (keeps : KeepsStore v w) (proc : ProcId) (home : home_in l.event.header w l.nav l.address ≡ Some proc) where
  abbrev n : Seen
  n = now_of l.event out

  abbrev own : Asked
  own = q l.event l.req l.nav l.mode l.address asked.asks

  abbrev passing_now : IsPassing (pass_of l.event l.loads) now w
  passing_now = begun.passing_now l t asked placed_ anew_ noted v out way w now work now_is keeps

  abbrev m : Seen
  m = now_of l.event now

  abbrev its : IsReachedAt m l.nav
  its = begun.its l t asked placed_ anew_ noted v out way w now work now_is keeps

  abbrev unstopped : list_any (is_stopping m.history.rows (aim_of m) m.places) its.place.above ≡ false
  unstopped = begun.unstopped l t asked placed_ anew_ noted v out way w now work now_is keeps

  abbrev own_then : Asked
  own_then = request_begun n (record own { is_started = true; goal = None })

  abbrev its_state : StateId
  its_state = record { 0 = w.states }

  abbrev needs_one : needs_document m l.nav its_state ≡ true
  needs_one = makes.needs_one l t asked placed_ anew_ noted v out way w now work now_is keeps

  abbrev next_number : w.documents ≡ length m.documents
  next_number = makes.next_number l t asked placed_ anew_ noted v out way w now work now_is keeps

  abbrev loads_state : load_of_state m its_state ≡ Some own_then
  loads_state = makes.loads_state l t asked placed_ anew_ noted v out way w now work now_is keeps

  abbrev all_passed : has_passed m own_then ≡ true
  all_passed = makes.all_passed l t asked placed_ anew_ noted v out way w now work now_is keeps

  abbrev causes : MayCause m (whys.Req l.req)
  causes = makes.causes l t asked placed_ anew_ noted v out way w now work now_is keeps

  abbrev pub order : Job
  order = next_order m.jobs proc (record { 0 = w.documents + 1 }) (whys.Req l.req) (tasks.Populate l.nav (record { 0 = w.states }) l.address false)

  pub due_make : IsMakeOfLoadDue l.event.header m order l.nav its_state l.address
  due_make =
      record {
        task = refl;
        next = ap (λ (k : ℕ). k + 1) next_number;
        q = own_then;
        loads = loads_state;
        mode = l.mode;
        what = refl;
        checked = all_passed;
        needs = needs_one;
        home = home_is (pass_of l.event l.loads) now w passing_now l.nav its.place its.placed unstopped l.event.header l.address proc home;
        passed = is_passed_for m w.running passing_now.going.tab.asked order.task order.why causes;
      }

  pub known : (desk_of m proc).known ≡ 0
  known = (passing_now.going.tab.asked.died proc).0
