-- Lists of orders to make documents: shorter and longer ones, and those of other documents.
use Rattle.std.proofs.Common.{◌≡◌, ℕ, ◌≤◌, ◌<◌, Bool, true, false, List, [], ◌∷◌, ◌++◌, Option, Some, None, arith}
use Rattle.std.specs.Prelude.{drop, option_map, slice_get, if◌then◌else◌}
use Rattle.tab_ids.specs.declared.DocId.{DocId}
use Rattle.tab_ids.specs.declared.NavId.{NavId}
use Rattle.tab_ids.specs.declared.ProcId.{ProcId}
use Rattle.log_model.specs.declared.job.Job.{Job}
use Rattle.log_model.specs.declared.job.Order.{Order}
use Rattle.log_model.specs.declared.job.Task.{Task}
use Rattle.log_model.specs.declared.job.Task.TheVariants as tasks
use Rattle.log_model.specs.Seen.{Document}
use Rattle.running_table.specs.Making.{AreToMake, IsToMake, Makes, least_after, with_hand}
use Rattle.running_table.specs.Telling.{found}

-- ---- a lower bound

module _ (documents : List Document) (proc : ProcId) where
  lower_one : (lower least : ℕ) (doc : DocId) (task : Task) → lower ≤ least → Makes documents proc least doc task → Makes documents proc lower doc task
  lower_one lower least doc (tasks.Populate nav state address initial) within make =
      record {
        d = make.d;
        known = make.known;
        its_nav = make.its_nav;
        its_proc = make.its_proc;
        unseen = make.unseen;
        later = omega (arith, within, make.later);
      }
  lower_one lower least doc (tasks.Activate entry epoch length index memo address) within make = tt
  lower_one lower least doc (tasks.Update length index) within make = tt
  lower_one lower least doc tasks.Freeze within make = tt
  lower_one lower least doc tasks.Discard within make = tt
  lower_one lower least doc (tasks.Ask slot cause) within make = tt
  lower_one lower least doc (tasks.DoFragment req mode address) within make = tt

  lower_after : (lower least : ℕ) (doc : DocId) (task : Task) → lower ≤ least → least_after lower doc task ≤ least_after least doc task
  lower_after lower least doc (tasks.Populate nav state address initial) within = omega arith
  lower_after lower least doc (tasks.Activate entry epoch length index memo address) within = within
  lower_after lower least doc (tasks.Update length index) within = within
  lower_after lower least doc tasks.Freeze within = within
  lower_after lower least doc tasks.Discard within = within
  lower_after lower least doc (tasks.Ask slot cause) within = within
  lower_after lower least doc (tasks.DoFragment req mode address) within = within

  pub lower_makes : (lower least : ℕ) (jobs : List Job) → lower ≤ least → AreToMake documents proc least jobs → AreToMake documents proc lower jobs
  lower_makes lower least [] within are = tt
  lower_makes lower least (job ∷ jobs) within are =
      (lower_one lower least job.doc job.task within are.0, lower_makes (least_after lower job.doc job.task) (least_after least job.doc job.task) jobs (lower_after lower least job.doc job.task within) are.1)

  -- ---- shorter lists

  below_after : (least : ℕ) (doc : DocId) (task : Task) → Makes documents proc least doc task → least ≤ least_after least doc task
  below_after least doc (tasks.Populate nav state address initial) make = omega (arith, make.later)
  below_after least doc (tasks.Activate entry epoch length index memo address) make = omega arith
  below_after least doc (tasks.Update length index) make = omega arith
  below_after least doc tasks.Freeze make = omega arith
  below_after least doc tasks.Discard make = omega arith
  below_after least doc (tasks.Ask slot cause) make = omega arith
  below_after least doc (tasks.DoFragment req mode address) make = omega arith

  pub makes_rest : (least : ℕ) (job : Job) (jobs : List Job) → AreToMake documents proc least (job ∷ jobs) → AreToMake documents proc least jobs
  makes_rest least job jobs are =
      lower_makes least (least_after least job.doc job.task) jobs (below_after least job.doc job.task are.0) are.1

  -- the order in hand goes
  pub makes_mail : (least : ℕ) (hand : Option Order) (mail : List Job) → AreToMake documents proc least (with_hand hand mail) → AreToMake documents proc least mail
  makes_mail least None mail are = are
  makes_mail least (Some order) mail are = makes_rest least order.job mail are

  -- the first of the mail is taken up, or let go
  pub makes_taken : (least : ℕ) (live dirty : Bool) (mail : List Job) → AreToMake documents proc least mail → AreToMake documents proc least (with_hand (if live then option_map (λ (job : Job). let order : Order = record { job = job; dirty = dirty } in order) (slice_get mail 0) else None) (drop 1 mail))
  makes_taken least true dirty [] are = tt
  makes_taken least false dirty [] are = tt
  makes_taken least true dirty (job ∷ mail) are = are
  makes_taken least false dirty (job ∷ mail) are = makes_rest least job mail are

-- ---- other documents

module _ (old new : List Document) (proc : ProcId) (floor : ℕ) (keep : (least : ℕ) (doc : DocId) (nav : NavId) → floor ≤ doc.0 → IsToMake old proc least doc nav → IsToMake new proc least doc nav) where
  kept_one : (least : ℕ) (doc : DocId) (task : Task) → floor ≤ least → Makes old proc least doc task → Makes new proc least doc task
  kept_one least doc (tasks.Populate nav state address initial) within make =
      keep least doc nav (omega (arith, within, make.later)) make
  kept_one least doc (tasks.Activate entry epoch length index memo address) within make = tt
  kept_one least doc (tasks.Update length index) within make = tt
  kept_one least doc tasks.Freeze within make = tt
  kept_one least doc tasks.Discard within make = tt
  kept_one least doc (tasks.Ask slot cause) within make = tt
  kept_one least doc (tasks.DoFragment req mode address) within make = tt

  within_after : (least : ℕ) (doc : DocId) (task : Task) → floor ≤ least → Makes old proc least doc task → floor ≤ least_after least doc task
  within_after least doc (tasks.Populate nav state address initial) within make = omega (arith, within, make.later)
  within_after least doc (tasks.Activate entry epoch length index memo address) within make = within
  within_after least doc (tasks.Update length index) within make = within
  within_after least doc tasks.Freeze within make = within
  within_after least doc tasks.Discard within make = within
  within_after least doc (tasks.Ask slot cause) within make = within
  within_after least doc (tasks.DoFragment req mode address) within make = within

  pub kept_makes : (least : ℕ) (jobs : List Job) → floor ≤ least → AreToMake old proc least jobs → AreToMake new proc least jobs
  kept_makes least [] within are = tt
  kept_makes least (job ∷ jobs) within are =
      (kept_one least job.doc job.task within are.0, kept_makes (least_after least job.doc job.task) jobs (within_after least job.doc job.task within are.0) are.1)

  -- ---- one order more, of a document whose number is beyond those of all that were there
  module _ (last : Job) (beyond : (doc : DocId) (d : Document) → found old doc ≡ Some d → doc.0 < last.doc.0) (make : (least : ℕ) → least ≤ last.doc.0 → Makes new proc least last.doc last.task) where
    beyond_after : (least : ℕ) (doc : DocId) (task : Task) → least ≤ last.doc.0 → Makes old proc least doc task → least_after least doc task ≤ last.doc.0
    beyond_after least doc (tasks.Populate nav state address initial) within its =
        let further : doc.0 < last.doc.0 = beyond doc its.d its.known in omega (arith, further)
    beyond_after least doc (tasks.Activate entry epoch length index memo address) within its = within
    beyond_after least doc (tasks.Update length index) within its = within
    beyond_after least doc tasks.Freeze within its = within
    beyond_after least doc tasks.Discard within its = within
    beyond_after least doc (tasks.Ask slot cause) within its = within
    beyond_after least doc (tasks.DoFragment req mode address) within its = within

    pub makes_more : (least : ℕ) (jobs : List Job) → floor ≤ least → least ≤ last.doc.0 → AreToMake old proc least jobs → AreToMake new proc least (jobs ++ last ∷ [])
    makes_more least [] within below are = (make least below, tt)
    makes_more least (job ∷ jobs) within below are =
        (kept_one least job.doc job.task within are.0, makes_more (least_after least job.doc job.task) jobs (within_after least job.doc job.task within are.0) (beyond_after least job.doc job.task below are.0) are.1)

-- an order more that makes nothing
pub makes_other : (documents : List Document) (proc : ProcId) (last : Job) → ((least : ℕ) → Makes documents proc least last.doc last.task) → (least : ℕ) (jobs : List Job) → AreToMake documents proc least jobs → AreToMake documents proc least (jobs ++ last ∷ [])
makes_other documents proc last make least [] are = (make least, tt)
makes_other documents proc last make least (job ∷ jobs) are =
    (are.0, makes_other documents proc last make (least_after least job.doc job.task) jobs are.1)
