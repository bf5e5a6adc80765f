-- Fragment orders find their documents running over rows that a coordinator puts out, where these send no document to a fragment and make only documents that weren't there.
use Rattle.seen_facts.specs.Coord.Leading.{is_live_order, orders_for, orders_of_desk}
use Rattle.seen_facts.specs.Desk.Own.{AreDesksIn, IsFragmentTask, IsOrderIn, IsReportIn}
use Rattle.seen_facts.proofs.Each.Eaches.{each_on}
use Rattle.seen_facts.specs.Each.Items.{Each}
use Rattle.seen_facts.specs.Hang.Members.{Has}
use Rattle.log_model.specs.Seen.{Document, Seen, desk_of, document_of}
use Rattle.log_model.specs.declared.job.Job.{Job}
use Rattle.log_model.specs.declared.job.Task.{Task}
use Rattle.log_model.specs.declared.job.Task.TheVariants as tasks
use Rattle.log_model.specs.declared.made.Report.{Report}
use Rattle.log_model.specs.declared.made.Report.TheVariants as reports
use Rattle.log_model.specs.declared.row_kind.RowKind.{RowKind}
use Rattle.log_model.specs.declared.row_kind.RowKind.TheVariants as rows
use Rattle.tab_facts.proofs.Order.Rows.{coord_within, orders_after}
use Rattle.tab_facts.specs.Order.Orders.{AreOrders, IsOfCoord, TellsOf}
use Rattle.seen_facts.specs.Rest.Resting.{run_after}
use Rattle.tab_facts.proofs.Running.Lists.{live_doc}
use Rattle.tab_facts.proofs.Running.Over.{running_over}
use Rattle.tab_facts.specs.Running.Fitting.{EachFits, IsFittingOrder, IsFittingRow, IsOfThere, IsQuietOrder}
use Rattle.tab_facts.specs.Running.Running.{AreFoundRunning, EachFinds, Finds}
use Rattle.seen_laws.proofs.InEvents.{first_goes, now_step, rest_goes}
use Rattle.seen_laws.specs.InEvent.{EachGoes, InEvent, now_of}
use Rattle.std.proofs.Common.{Bool, List, None, Option, Some, [], ap, false, inl, inr, length, refl, sym, true, ◌++◌, ◌∙◌, ◌∷◌, ◌≡◌}
use Rattle.std.specs.Prelude.{filter}
use Rattle.tab_ids.specs.declared.DocId.{DocId}
use Rattle.tab_ids.specs.declared.ProcId.{ProcId}

-- ---- fragment orders are to documents that were there

-- so they are as what each process has is of its documents
pub desks_there : (base : Seen) → AreDesksIn base → AreOrders (IsOfThere base) base
desks_there base desks proc =
    record {
      orders = each_on (IsOrderIn base.documents base.places proc) (IsOfThere base) (orders_of_desk (desk_of base proc)) there (desks proc).orders;
      told = each_on (IsReportIn base.documents base.places proc) (TellsOf (IsOfThere base)) (desk_of base proc).reports told (desks proc).told;
    }
  where
    there : (job : Job) → IsOrderIn base.documents base.places proc job → IsOfThere base job
    there job is fragment = (is.lives.d, is.lives.found)

    told : (report : Report) → IsReportIn base.documents base.places proc report → TellsOf (IsOfThere base) report
    told (reports.Done job outcome made) is = there job is.0
    told (reports.Made made) is = tt
    told (reports.Died death) is = tt

-- where none is a fragment order, each finds the document as it is to
finds_other : (runs : Option Bool) (task : Task) → (IsFragmentTask task → ⊥) → Finds runs task
finds_other runs (tasks.DoFragment req mode address) none = absurd (none tt)
finds_other runs (tasks.Populate nav state address initial) none = tt
finds_other runs (tasks.Activate entry epoch length index memo address) none = tt
finds_other runs (tasks.Update length index) none = tt
finds_other runs tasks.Freeze none = tt
finds_other runs tasks.Discard none = tt
finds_other runs (tasks.Ask slot cause) none = tt

-- so no fragment order comes to a document that wasn't there
pub none_comes : (base s : Seen) (proc : ProcId) (doc : DocId) (runs : Option Bool) → AreOrders (IsOfThere base) s → ((d : Document) → document_of base doc ≡ Some d → ⊥) → EachFinds runs (orders_for (desk_of s proc) doc)
none_comes base s proc doc runs there absent = among (orders_of_desk (desk_of s proc)) (there proc).orders runs
  where
    among : (jobs : List Job) → Each (IsOfThere base) jobs → (r : Option Bool) → EachFinds r (filter (is_live_order doc (length (desk_of s proc).killed)) jobs)
    among [] all r = tt
    among (job ∷ jobs) all r = by_test (is_live_order doc (length (desk_of s proc).killed) job) refl (among jobs all.1)
      where
        other : is_live_order doc (length (desk_of s proc).killed) job ≡ true → IsFragmentTask job.task → ⊥
        other lives fragment =
            let its = all.0 fragment in absurd (absent its.0 (ap (document_of base) (sym (live_doc doc (length (desk_of s proc).killed) job lives)) ∙ its.1))

        by_test : (b : Bool) → is_live_order doc (length (desk_of s proc).killed) job ≡ b → ((o : Option Bool) → EachFinds o (filter (is_live_order doc (length (desk_of s proc).killed)) jobs)) → EachFinds r (filter (is_live_order doc (length (desk_of s proc).killed)) (job ∷ jobs))
        by_test true e more = rw e (finds_other r job.task (other e), more (run_after r job.task))
        by_test false e more = rw e (more r)

-- ---- rows of a coordinator

quiet_there : (base : Seen) (job : Job) (task : Task) → IsQuietOrder base job task → IsFragmentTask task → ⊥
quiet_there base job (tasks.DoFragment req mode address) never fragment = never
quiet_there base job (tasks.Populate nav state address initial) quiet never = never
quiet_there base job (tasks.Activate entry epoch length index memo address) quiet never = never
quiet_there base job (tasks.Update length index) quiet never = never
quiet_there base job tasks.Freeze quiet never = never
quiet_there base job tasks.Discard quiet never = never
quiet_there base job (tasks.Ask slot cause) quiet never = never

module _ (base s : Seen) (there : AreOrders (IsOfThere base) s) where
  order_fits : (job : Job) (task : Task) → IsQuietOrder base job task → IsFittingOrder s job task
  order_fits job (tasks.Populate nav state address initial) new = none_comes base s job.proc job.doc None there new
  order_fits job (tasks.DoFragment req mode address) never = absurd never
  order_fits job (tasks.Activate entry epoch length index memo address) quiet = tt
  order_fits job (tasks.Update length index) quiet = tt
  order_fits job tasks.Freeze quiet = tt
  order_fits job tasks.Discard quiet = tt
  order_fits job (tasks.Ask slot cause) quiet = tt

  coord_fits : (kind : RowKind) → IsOfCoord kind → ((job : Job) → kind ≡ rows.Sent job → IsQuietOrder base job job.task) → IsFittingRow s kind
  coord_fits (rows.Sent job) fine quiet = order_fits job job.task (quiet job refl)
  coord_fits (rows.Started req goal) fine quiet = tt
  coord_fits (rows.Applied req change) fine quiet = tt
  coord_fits (rows.Refused req reason) fine quiet = tt
  coord_fits (rows.Dropped req cause) fine quiet = tt
  coord_fits _ fine quiet = absurd fine

each_quiet : (base : Seen) (e : InEvent) (more was : List RowKind) → EachGoes e was more → AreOrders (IsOfThere base) (now_of e was) → ((kind : RowKind) → Has more kind → IsOfCoord kind) → ((job : Job) → Has more (rows.Sent job) → IsQuietOrder base job job.task) → EachFits e was more
each_quiet base e [] was goes there fine quiet = tt
each_quiet base e (kind ∷ more) was goes there fine quiet =
    (coord_fits base (now_of e was) there kind own (λ job is. quiet job (inl is)), each_quiet base e more (was ++ kind ∷ []) (rest_goes e was more kind goes) then_ (λ k has. fine k (inr has)) (λ job has. quiet job (inr has)))
  where
    own : IsOfCoord kind
    own = fine kind (inl refl)

    then_ : AreOrders (IsOfThere base) (now_of e (was ++ kind ∷ []))
    then_ =
        now_step (AreOrders (IsOfThere base)) e was kind (first_goes e was more kind goes) (λ a. orders_after (IsOfThere base) (now_of e was) e.event e.actor kind (coord_within kind own) (λ job is fragment. absurd (quiet_there base job job.task (quiet job (inl is)) fragment)) a) there

-- what each process had was of its documents, and the orders make only documents that weren't there
pub quiet_over : (e : InEvent) (more was : List RowKind) → EachGoes e was more → AreDesksIn (now_of e was) → ((kind : RowKind) → Has more kind → IsOfCoord kind) → ((job : Job) → Has more (rows.Sent job) → IsQuietOrder (now_of e was) job job.task) → AreFoundRunning (now_of e was) → AreFoundRunning (now_of e (was ++ more))
quiet_over e more was goes desks fine quiet are =
    running_over e more was (each_quiet (now_of e was) e more was goes (desks_there (now_of e was) desks) fine quiet) goes are
