-- The report that a document is made is noted: the load that waits for it is ready, and the table of loads goes on telling of those of the log.
use Rattle.page_cache.specs.Kept.{Kept}
use Rattle.load_table.specs.Loads.{is_populating, moved_on, ongoing_load}
use Rattle.load_table.specs.declared.load.Load.{Load}
use Rattle.load_table.specs.declared.phase.Phase.TheVariants as phases
use Rattle.seen_facts.proofs.LoadTies.Reported.{made_tied}
use Rattle.seen_facts.specs.LoadTies.Tying.{TiesLoads}
use Rattle.log_model.specs.After.{after}
use Rattle.log_model.specs.Seen.{Seen, desk_of}
use Rattle.log_model.specs.declared.job.Job.{Job}
use Rattle.log_model.specs.declared.made.Report.TheVariants as reports
use Rattle.log_model.specs.declared.outcome.Outcome.TheVariants as outcomes
use Rattle.log_model.specs.declared.row_kind.Actor.{Actor}
use Rattle.log_model.specs.declared.row_kind.RowKind.TheVariants as rows
use Rattle.std.proofs.Common.{List, None, Option, Some, subst, sym, true, ℕ, ◌≡◌, ap}
use Rattle.std.specs.Prelude.{find, slice_get}
use Rattle.tab_doors.specs.Noting.{PlacesOne, IsBare, IsFresh}
use Rattle.tab_doors.specs.declared.tables.Tables.{Tables}
use Rattle.tab_ids.specs.declared.DocId.{DocId}
use Rattle.tab_ids.specs.declared.NavId.{NavId}
use Rattle.tab_ids.specs.declared.ProcId.{ProcId}
use Rattle.tab_ids.specs.declared.StateId.{StateId}

-- whichever navigable's load waits for the document, it is the first in the table that does
abbrev pub WaitsOnce : List Load → DocId → Type 0
WaitsOnce table doc = (nav : NavId) (load : Load) → ongoing_load nav table ≡ Some load → is_populating doc load ≡ true → find (is_populating doc) table ≡ Some load

module _ (s : Seen) (event : ℕ) (actor : Actor) (proc : ProcId) (job : Job) (slot : Option ℕ) (report : slice_get (desk_of s proc).reports 0 ≡ Some (reports.Done job (outcomes.Populated slot) None)) where
  abbrev pub then_ : Seen
  then_ = after s (record { event = event; actor = actor; row = rows.Delivered proc })

  pub made_loads : (table : List Load) → WaitsOnce table job.doc → TiesLoads s table → TiesLoads then_ (moved_on (is_populating job.doc) (phases.Ready job.doc) table)
  made_loads table once ties = made_tied s event actor table ties proc job slot None report once

  -- as the tables have it, once they note that the document is made
  pub noted_loads : (state : StateId) (t u : Tables) → WaitsOnce t.loads job.doc → PlacesOne state job.doc t u → TiesLoads s t.loads → TiesLoads then_ u.loads
  noted_loads state t u once one ties = subst (λ (l : List Load). TiesLoads then_ l) (sym one.loads) (made_loads t.loads once ties)

-- ---- how they begin

-- how many may be kept is as the tables say
pub bare_keep : (address : List ℕ) (proc : ProcId) (keep : ℕ) (t : Tables) → IsBare address proc keep t → t.kept.keep ≡ keep
bare_keep address proc keep t bare = ap (λ (k : Kept). k.keep) bare.kept

pub bare_own : (address : List ℕ) (proc : ProcId) (keep : ℕ) (t : Tables) → IsBare address proc keep t → IsBare address proc t.kept.keep t
bare_own address proc keep t bare = subst (λ (n : ℕ). IsBare address proc n t) (sym (bare_keep address proc keep t bare)) bare

pub fresh_own : (address : List ℕ) (proc : ProcId) (keep : ℕ) (t u : Tables) → IsBare address proc keep t → IsFresh address proc t.kept.keep u → IsFresh address proc keep u
fresh_own address proc keep t u bare fresh = subst (λ (n : ℕ). IsFresh address proc n u) (bare_keep address proc keep t bare) fresh
