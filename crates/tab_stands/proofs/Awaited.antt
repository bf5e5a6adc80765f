-- A report tells that a document was made: the load that waits for it, if one does, is of the navigable that it was made for.
use Rattle.load_table.specs.Loads.{HasOneEach, is_populating, makes, ongoing_load}
use Rattle.load_table.specs.declared.load.Load.{Load}
use Rattle.load_table.specs.declared.phase.Phase.{Phase}
use Rattle.load_table.specs.declared.phase.Phase.TheVariants as phases
use Rattle.log_model.specs.Seen.{Asked, Document, Seen, document_of}
use Rattle.log_model.specs.declared.job.Job.{Job}
use Rattle.log_model.specs.declared.job.Task.TheVariants as tasks
use Rattle.log_model.specs.declared.made.Report.TheVariants as reports
use Rattle.log_model.specs.declared.outcome.Outcome.{Outcome}
use Rattle.log_model.specs.declared.request.Request.TheVariants as requests
use Rattle.move_queue.specs.Queue.{Queue}
use Rattle.seen_facts.proofs.Hang.Members.{find_has}
use Rattle.seen_facts.proofs.LoadTies.Waits.{found_itself}
use Rattle.seen_facts.specs.Hang.Members.{Has}
use Rattle.seen_facts.specs.Load.Loading.{IsLoading, Look, look}
use Rattle.seen_facts.specs.LoadTies.Tying.{IsLoadTied, is_for_state, made_for, phase_with}
use Rattle.seen_laws.specs.InEvent.{InEvent}
use Rattle.std.proofs.Common.{Bool, List, None, Option, Some, ap, cond, eqb-true, false, not, refl, sym, true, ℕ, ◌&&◌, ◌==◌, ◌||◌, ◌∙◌, ◌≡◌}
use Rattle.std.specs.Map.{lookup}
use Rattle.std.specs.Prelude.{option_map}
use Rattle.tab_doors.proofs.Sights.{sight_of}
use Rattle.tab_doors.specs.Look.{Sight, sight}
use Rattle.tab_doors.specs.Noting.{WaitsAtItsNav}
use Rattle.tab_doors.specs.Ties.{birth_of, is_doc, nav_in}
use Rattle.tab_doors.specs.declared.birth.Birth.{Birth}
use Rattle.tab_doors.specs.declared.tables.Tables.{Tables}
use Rattle.tab_ids.specs.declared.DocId.{DocId}
use Rattle.tab_ids.specs.declared.NavId.{NavId}
use Rattle.tab_ids.specs.declared.ProcId.{ProcId}
use Rattle.tab_ids.specs.declared.ReqId.{ReqId}
use Rattle.tab_ids.specs.declared.StateId.{StateId}
use Rattle.tab_stands.proofs.Unmade.{d, its_found, the_one}
use Rattle.tab_stands.specs.Delivering.{IsSeenDelivery}
use Rattle.tab_stands.specs.Standing.{InCheck, IsOwnRead, StandsFor, seen_start}

-- the document that is made for a load that waits for it
record IsDocOf (documents : List Document) (doc : DocId) (state : StateId) : Type 0 where
  d : Document
  has : Has documents d
  number : (d.nr.0 == doc.0) ≡ true
  state_is : d.state.0 ≡ state.0

doc_of : (documents : List Document) (doc : DocId) (state : StateId) → makes doc (phase_with (made_for documents state)) ≡ true → IsDocOf documents doc state
doc_of documents doc state waits = by_made (made_for documents state) refl waits
  where
    first : (a b : Bool) → (a && b) ≡ true → a ≡ true
    first true b is = refl
    first false b is = absurd cc

    by_ready : (d : Document) → made_for documents state ≡ Some d → (b : Bool) → makes doc (let p : Phase = cond b (phases.Ready d.nr) (phases.Populating d.nr) in p) ≡ true → IsDocOf documents doc state
    by_ready d at true never = absurd cc
    by_ready d at false is =
        let its = find_has (is_for_state state) documents d at in
        record { d = d; has = its.0; number = is; state_is = eqb-true d.state.0 state.0 (first (d.state.0 == state.0) (not (d.is_discarded || d.is_known_dead)) its.1) }

    by_made : (o : Option Document) → made_for documents state ≡ o → makes doc (phase_with o) ≡ true → IsDocOf documents doc state
    by_made None at never = absurd cc
    by_made (Some d) at is = by_ready d at d.is_ready is

module _ (e : InEvent) (proc : ProcId) (job : Job) (outcome : Outcome) (del : IsSeenDelivery e proc (reports.Done job outcome None)) (t : Tables) (queue : Queue) (blame : List (StateId × ReqId)) {check : InCheck} (stands : StandsFor check (seen_start e) t queue blame) (aside : IsOwnRead e) (nav : NavId) (state : StateId) (address : List ℕ) (initial : Bool) (task : job.task ≡ tasks.Populate nav state address initial) where
  abbrev s : Seen
  s = seen_start e

  abbrev own : Document
  own = d e proc job outcome del t queue blame stands aside nav state address initial task

  found : document_of s job.doc ≡ Some own
  found = its_found e proc job outcome del t queue blame stands aside nav state address initial task

  nav_is : nav_in t.whose.entries job.doc ≡ Some own.nav
  nav_is =
      let birth : lookup (is_doc job.doc) t.whose.entries ≡ Some (birth_of (sight own)) = stands.tied.holds.whose job.doc ∙ ap (λ (o : Option Sight). option_map birth_of o) (sight_of s job.doc own found) in
      ap (λ (o : Option Birth). option_map (λ (b : Birth). b.nav) o) birth

  -- a document of the load's state is of the load's navigable
  load_nav : (load : Load) (tied : IsLoadTied s load) → own.state.0 ≡ load.state.0 → own.nav ≡ load.nav
  load_nav load tied state_is =
      let l : Look = look tied.q in
      let loading : IsLoading s l = stands.between.tab.loading.each load.req l (ap (λ (o : Option Asked). option_map look o) tied.found) tied.ongoing in
      let states : Some loading.state ≡ Some load.state = sym loading.state_is ∙ tied.state in
      let same_state : loading.state ≡ load.state = cc in
      let what : requests.Load loading.nav loading.mode loading.address ≡ requests.Load load.nav tied.mode load.address = sym loading.what ∙ tied.what in
      let same_load : loading.nav ≡ load.nav = cc in
      loading.whose job.doc own found (state_is ∙ ap (λ (x : StateId). x.0) (sym same_state)) ∙ same_load

  pub awaited_own : HasOneEach t.loads → WaitsAtItsNav t job.doc
  awaited_own one_each load first =
      let its = find_has (is_populating job.doc) t.loads load first in
      let at : ongoing_load load.nav t.loads ≡ Some load = found_itself t.loads load one_each its.0 in
      let tied : IsLoadTied s load = stands.tied.loads.there load.nav load at in
      let made : IsDocOf s.documents job.doc load.state = doc_of s.documents job.doc load.state (ap (makes job.doc) (sym tied.phase) ∙ its.1) in
      let it : made.d ≡ own = the_one e proc job outcome del t queue blame stands aside nav state address initial task made.d made.has made.number in
      let state_is : own.state.0 ≡ load.state.0 = ap (λ (x : Document). x.state.0) (sym it) ∙ made.state_is in
      nav_is ∙ ap (λ (x : NavId). let o : Option NavId = Some x in o) (load_nav load tied state_is)
