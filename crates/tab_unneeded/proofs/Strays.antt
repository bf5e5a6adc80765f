-- Nothing needs a document that was just made, as the tables tell, just where it is stray in the log.
use Rattle.history_laws.proofs.InOrder.{count_by-ordered}
use Rattle.log_model.proofs.Refl.{nat_eq_refl}
use Rattle.log_model.specs.Equal.{holds}
use Rattle.log_model.specs.History.{History, has_state}
use Rattle.log_model.specs.Order.{SameHistory}
use Rattle.log_model.specs.Orders.{ongoing_load}
use Rattle.log_model.specs.Seen.{Asked, Document, Seen, document_of}
use Rattle.log_model.specs.declared.job.Job.{Job}
use Rattle.log_model.specs.declared.outcome.Outcome.{Outcome}
use Rattle.log_model.specs.declared.row.Row.{Row}
use Rattle.move_queue.specs.Queue.{Queue}
use Rattle.seen_laws.specs.InEvent.{InEvent, now_of}
use Rattle.std.proofs.Common.{Bool, List, None, Option, Some, [], ap, cond, false, refl, sym, true, ℕ, ◌==◌, ◌||◌, ◌∙◌, ◌≡◌}
use Rattle.std.specs.List.{count_by}
use Rattle.std.specs.Prelude.{is_some, nat_lt, option_map}
use Rattle.step_index.proofs.Counting.{any_counted}
use Rattle.step_index.specs.Held.{history_held}
use Rattle.tab_doors.proofs.Sights.{sight_of}
use Rattle.tab_doors.specs.Look.{Sight}
use Rattle.tab_doors.specs.Ties.{birth_of, nav_in}
use Rattle.tab_doors.specs.declared.birth.Birth.{Birth}
use Rattle.tab_doors.specs.declared.tables.Tables.{Tables}
use Rattle.tab_ids.specs.declared.NavId.{NavId}
use Rattle.tab_ids.specs.declared.ProcId.{ProcId}
use Rattle.tab_ids.specs.declared.ReqId.{ReqId}
use Rattle.tab_ids.specs.declared.StateId.{StateId}
use Rattle.tab_stands.proofs.Dones.{did, did_now, did_requests}
use Rattle.tab_stands.proofs.Placed.{made_asks, made_then}
use Rattle.tab_stands.proofs.Unmade.{d, its_found, its_number, its_state, made_at, undiscarded}
use Rattle.tab_stands.specs.Delivering.{IsSeenDelivery}
use Rattle.tab_stands.specs.PassedOn.{IsStray}
use Rattle.tab_stands.specs.Standing.{InCheck, IsOwnRead, StandsFor, seen_start}
use Rattle.tab_sweeps.proofs.Loads.{log_unloaded, state_unloaded}
use Rattle.tab_sweeps.specs.Sweeping.{loads_state, unneeded_in}
use Rattle.tab_unneeded.specs.Telling.{is_unneeded_in}
use Rattle.log_model.specs.declared.job.Task.TheVariants as tasks
use Rattle.log_model.specs.declared.made.Report.TheVariants as reports

-- whether a state has entries doesn't hang on their order
state_held : (state : StateId) (held history : History) → SameHistory held history → has_state state held.rows ≡ has_state state history.rows
state_held state held history same =
    sym (any_counted (λ (row : Row). row.state.0 == state.0) held.rows)
    ∙ ap (nat_lt 0) (sym (count_by-ordered (λ (row : Row). row.state.0 == state.0) held.rows) ∙ ap (count_by (λ (row : Row). row.state.0 == state.0)) same.rows ∙ count_by-ordered (λ (row : Row). row.state.0 == state.0) history.rows)
    ∙ any_counted (λ (row : Row). row.state.0 == state.0) history.rows

module _ (e : InEvent) (proc : ProcId) (job : Job) (outcome : Outcome) (del : IsSeenDelivery e proc (reports.Done job outcome None)) (t : Tables) (queue : Queue) (blame : List (StateId × ReqId)) {check : InCheck} (stands : StandsFor check (seen_start e) t queue blame) (aside : IsOwnRead e) (nav : NavId) (state : StateId) (address : List ℕ) (initial : Bool) (task : job.task ≡ tasks.Populate nav state address initial) where
  abbrev s : Seen
  s = seen_start e

  abbrev n : Seen
  n = now_of e []

  abbrev told : Seen
  told = did e proc job outcome del t queue blame stands aside

  abbrev own : Document
  own = d e proc job outcome del t queue blame stands aside nav state address initial task

  found : document_of s job.doc ≡ Some own
  found = its_found e proc job outcome del t queue blame stands aside nav state address initial task

  states : own.state ≡ state
  states = its_state e proc job outcome del t queue blame stands aside nav state address initial task

  now : n ≡ told
  now = did_now e proc job outcome del t queue blame stands aside

  -- ---- what the tables tell

  nav_known : nav_in t.whose.entries job.doc ≡ Some own.nav
  nav_known =
      ap (λ (o : Option Birth). option_map (λ (b : Birth). b.nav) o) (stands.tied.holds.whose job.doc ∙ ap (λ (o : Option Sight). option_map birth_of o) (sight_of s job.doc own found))

  told_is : is_unneeded_in t job.doc state ≡ is_some (unneeded_in t own.nav state)
  told_is = ap (λ (o : Option NavId). holds (λ (x : NavId). is_some (unneeded_in t x state)) o) nav_known

  held : has_state state (history_held t.store).rows ≡ has_state state s.history.rows
  held = state_held state (history_held t.store) s.history stands.tied.holds.history

  same : n.requests ≡ s.requests
  same =
      ap (λ (x : Seen). x.requests) now
      ∙ did_requests e proc job outcome del t queue blame stands aside (made_asks e proc job outcome del t queue blame stands aside nav state address initial task)

  loaded_same : ongoing_load n state ≡ ongoing_load s state
  loaded_same = ap (λ (l : List Asked). let x : Seen = record s { requests = l } in ongoing_load x state) same

  history_same : n.history ≡ s.history
  history_same = ap (λ (x : Seen). x.history) now

  -- ---- where it is stray, the tables tell so

  free : (a b : Bool) → a ≡ false → b ≡ false → is_some (let o : Option StateId = cond (a || b) None (Some state) in o) ≡ true
  free false false e f = refl
  free true b e f = absurd cc
  free false true e f = absurd cc

  stray_told : IsStray n job.doc state → is_unneeded_in t job.doc state ≡ true
  stray_told stray =
      told_is
      ∙ free (has_state state (history_held t.store).rows) (loads_state t.loads own.nav state) (held ∙ ap (λ (h : History). has_state state h.rows) (sym history_same) ∙ stray.bare) (state_unloaded s t.loads stands.tied.loads state (sym loaded_same ∙ stray.unloaded) own.nav)

  -- where they don't, it isn't
  pub needed_is : is_unneeded_in t job.doc state ≡ false → IsStray n job.doc state → ⊥
  needed_is needs stray = let never : true ≡ false = sym (stray_told stray) ∙ needs in cc

  -- ---- and where they tell so, it is

  taken : (a b : Bool) → is_some (let o : Option StateId = cond (a || b) None (Some state) in o) ≡ true → (a ≡ false) × (b ≡ false)
  taken false false h = (refl, refl)
  taken true b h = absurd cc
  taken false true h = absurd cc

  number : (own.nr.0 == job.doc.0) ≡ true
  number =
      ap (λ (k : ℕ). k == job.doc.0) (its_number e proc job outcome del t queue blame stands aside nav state address initial task) ∙ nat_eq_refl job.doc.0

  made_found : document_of n job.doc ≡ Some (record own { is_ready = true; is_fresh = true })
  made_found =
      ap (λ (x : Seen). document_of x job.doc) now
      ∙ made_then e proc job outcome del t queue blame stands aside nav state address initial task job.doc
      ∙ ap (λ (o : Option Document). option_map (λ (x : Document). made_at job.doc x) o) found
      ∙ ap (λ (b : Bool). let o : Option Document = Some (cond b (record own { is_ready = true; is_fresh = true }) own) in o) number

  pub unneeded_is : is_unneeded_in t job.doc state ≡ true → IsStray n job.doc state
  unneeded_is tells =
      record {
        document = record own { is_ready = true; is_fresh = true };
        found = made_found;
        its_state = states;
        ready = refl;
        undiscarded = undiscarded e proc job outcome del t queue blame stands aside nav state address initial task;
        bare = ap (λ (h : History). has_state state h.rows) history_same ∙ sym held ∙ parts.0;
        unloaded = loaded_same ∙ ap (λ (x : StateId). ongoing_load s x) (sym states) ∙ log_unloaded s t.loads stands.tied.loads stands.between.tab.loading job.doc own found (ap (λ (x : StateId). loads_state t.loads own.nav x) states ∙ parts.1);
      }
    where
      parts : (has_state state (history_held t.store).rows ≡ false) × (loads_state t.loads own.nav state ≡ false)
      parts = taken (has_state state (history_held t.store).rows) (loads_state t.loads own.nav state) (sym told_is ∙ tells)
