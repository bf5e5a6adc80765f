-- A document was made: the load that waits for it, if one does, is its navigable's, and the request for which it was made is noted for it; so the tab may be brought to rest.
use Rattle.coord.proofs.Asides.{seen_room}
use Rattle.coord.proofs.Dones.{done_found, done_logged, done_read, done_seen, done_stands, done_taken, done_telling, keep_now, to_settle, done_aside}
use Rattle.coord.specs.Delivering.{HasPlaced, InDone, IsDone, steps_of}
use Rattle.coord.specs.Standing.{IsToSettle}
use Rattle.coord.specs.declared.coordinator.Coordinator.{Coordinator}
use Rattle.load_table.specs.Loads.{HasOneEach, is_populating, ongoing_load}
use Rattle.load_table.specs.declared.load.Load.{Load}
use Rattle.seen_facts.proofs.LoadTies.Begins.{found_nav}
use Rattle.seen_facts.proofs.LoadTies.Waits.{found_itself, waits_once}
use Rattle.log_model.specs.Seen.{Document, Seen, document_of}
use Rattle.log_model.specs.declared.job.Job.{Job}
use Rattle.log_model.specs.declared.job.Task.{Task}
use Rattle.log_model.specs.declared.job.Why.TheVariants as whys
use Rattle.move_queue.specs.Queue.{Queue}
use Rattle.move_queue.specs.declared.queue_step.QueueStep.{QueueStep}
use Rattle.move_queue.specs.declared.queue_step.QueueStep.TheVariants.{Ready}
use Rattle.nav_tree.specs.Tree.{is_state}
use Rattle.seen_facts.proofs.Hang.Members.{find_has}
use Rattle.seen_laws.specs.InEvent.{InEvent, log_of, now_of}
use Rattle.slot_facts.specs.Slots.{AreSlots}
use Rattle.std.proofs.Common.{Bool, List, None, Option, Some, [], ap, cond, false, refl, subst, sym, true, ℕ, ◌++◌, ◌∙◌, ◌∷◌, ◌≡◌}
use Rattle.std.specs.Map.{lookup}
use Rattle.std.specs.Option.{IsSome}
use Rattle.std.specs.Prelude.{find, is_some, option_and_then, option_map}
use Rattle.tab_doors.proofs.Keyed.{put_other, put_same}
use Rattle.tab_doors.proofs.Sights.{sight_of}
use Rattle.tab_doors.specs.Look.{Sight, sight}
use Rattle.tab_doors.specs.Noting.{PlacesOne, WaitsAtItsNav, waiting_in}
use Rattle.tab_doors.specs.Ties.{birth_of, is_doc, nav_in, proc_in}
use Rattle.tab_doors.specs.Working.{KeepsRun}
use Rattle.tab_doors.specs.declared.birth.Birth.{Birth}
use Rattle.tab_doors.specs.declared.tables.Tables.{Tables}
use Rattle.tab_ids.specs.declared.DocId.{DocId}
use Rattle.tab_ids.specs.declared.NavId.{NavId}
use Rattle.tab_ids.specs.declared.ReqId.{ReqId}
use Rattle.tab_ids.specs.declared.StateId.{StateId}
use Rattle.tab_loads.specs.Loading.{pass_of}
use Rattle.tab_stands.proofs.Awaited.{awaited_own}
use Rattle.tab_stands.proofs.Placing.{placed_begun}
use Rattle.tab_stands.proofs.Dones.{AsksNone, did_now, did_requests}
use Rattle.tab_stands.proofs.Reports.{told_causes}
use Rattle.tab_stands.proofs.Unmade.{d as its_document, its_found}
use Rattle.tab_facts.specs.Order.Orders.{TellsOf}
use Rattle.seen_facts.proofs.Each.Eaches.{each_first}
use Rattle.log_model.specs.Seen.{desk_of}
use Rattle.log_model.specs.declared.made.Report.TheVariants as reports
use Rattle.tab_stands.specs.Delivering.{IsMadeNoted, IsMakeTask, IsSeenDelivery, step_ready}
use Rattle.tab_stands.specs.PassedOn.{IsMake, IsStray, MayCause}
use Rattle.tab_stands.specs.Standing.{HasBegun, IsOwnRead, StandsFor, none_in_check, seen_start}
use Rattle.tab_unneeded.proofs.Strays.{needed_is}
use Rattle.tab_unneeded.specs.Telling.{is_unneeded_in}
use Rattle.log_model.specs.declared.job.Task.TheVariants as tasks
use Rattle.indexmap.specs.IndexMap.{insert_entry}

-- what an order that makes a document for a state asks
pub record Makes (job : Job) (state : StateId) : Type 0 where
  pub nav : NavId
  pub address : List ℕ
  pub initial : Bool
  pub task : job.task ≡ tasks.Populate nav state address initial

pub makes_of : (job : Job) (state : StateId) → IsMakeTask state job.task → Makes job state
makes_of job state is = by_task job.task refl is
  where
    by_task : (task : Task) → job.task ≡ task → IsMakeTask state task → Makes job state
    by_task (tasks.Populate nav of address initial) at same =
        record { nav = nav; address = address; initial = initial; task = at ∙ ap (λ (x : StateId). tasks.Populate nav x address initial) same }
    by_task (tasks.Activate entry epoch long index memo address) at never = absurd never
    by_task (tasks.Update long index) at never = absurd never
    by_task tasks.Freeze at never = absurd never
    by_task tasks.Discard at never = absurd never
    by_task (tasks.Ask slot cause) at never = absurd never
    by_task (tasks.DoFragment req mode address) at never = absurd never

module _ (d : InDone) (c : Coordinator) (job : Job) (done : IsDone d c job) (state : StateId) (is_make : IsMakeTask state job.task) where
  abbrev e : InEvent
  e = d.event

  abbrev s : Seen
  s = seen_start e

  abbrev t : Tables
  t = c.tables

  abbrev stands : StandsFor none_in_check s c.tables c.queue c.blame.entries
  stands = done_stands d c job done

  aside : IsOwnRead e
  aside = done_read d c job done

  heard : IsSeenDelivery e d.proc (reports.Done job d.outcome None)
  heard = done_seen d c job done

  abbrev its : Makes job state
  its = makes_of job state is_make

  abbrev own : Document
  own = its_document e d.proc job d.outcome heard t c.queue c.blame.entries stands aside its.nav state its.address its.initial its.task

  found : document_of s job.doc ≡ Some own
  found = its_found e d.proc job d.outcome heard t c.queue c.blame.entries stands aside its.nav state its.address its.initial its.task

  birth : lookup (is_doc job.doc) t.whose.entries ≡ Some (birth_of (sight own))
  birth =
      stands.tied.holds.whose job.doc ∙ ap (λ (o : Option Sight). option_map birth_of o) (sight_of s job.doc own found)

  nav_is : nav_in t.whose.entries job.doc ≡ Some own.nav
  nav_is = ap (λ (o : Option Birth). option_map (λ (b : Birth). b.nav) o) birth

  pub nav_known : IsSome (nav_in c.tables.whose.entries job.doc)
  nav_known = ap (λ (o : Option NavId). is_some o) nav_is

  pub proc_known : IsSome (proc_in c.tables.whose.entries job.doc)
  proc_known = ap (λ (o : Option Birth). is_some (option_map (λ (b : Birth). b.proc) o)) birth

  -- ---- the load that waits

  module _ (one_each : HasOneEach c.tables.loads) (nav : NavId) (at_nav : nav_in c.tables.whose.entries job.doc ≡ Some nav) where
    -- the load that waits for the document, if one does, is its navigable's
    pub waits_own : WaitsAtItsNav t job.doc
    waits_own =
        awaited_own e d.proc job d.outcome heard t c.queue c.blame.entries stands aside its.nav state its.address its.initial its.task one_each

    of_nav : (load : Load) → find (is_populating job.doc) t.loads ≡ Some load → ongoing_load nav t.loads ≡ Some load
    of_nav load found =
        let navs : Some nav ≡ Some load.nav = sym at_nav ∙ waits_own load found in
        let same : nav ≡ load.nav = cc in
        ap (λ (x : NavId). ongoing_load x t.loads) same ∙ found_itself t.loads load one_each (find_has (is_populating job.doc) t.loads load found).0

    waits_here : (load : Load) → ongoing_load nav t.loads ≡ Some load → is_populating job.doc load ≡ true → step_ready t.loads job.doc ≡ Ready load.req nav ∷ []
    waits_here load at waits =
        let once : find (is_populating job.doc) t.loads ≡ Some load = waits_once s t.loads stands.between.tab.loading stands.tied.loads one_each stands.between.tab.whose.numbered job.doc nav load at waits in
        rw once (ap (λ (x : NavId). let l : List QueueStep = Ready load.req x ∷ [] in l) (found_nav nav t.loads load at))

    waits_some : (req : ReqId) → waiting_in c.tables.loads nav job.doc ≡ Some req → step_ready c.tables.loads job.doc ≡ Ready req nav ∷ []
    waits_some req waits = by_load (ongoing_load nav t.loads) refl waits
      where
        by_test : (load : Load) → ongoing_load nav t.loads ≡ Some load → (b : Bool) → is_populating job.doc load ≡ b → (let o : Option ReqId = cond b (Some load.req) None in o) ≡ Some req → step_ready t.loads job.doc ≡ Ready req nav ∷ []
        by_test load at false is never = absurd cc
        by_test load at true is same =
            let one : load.req ≡ req = cc in
            waits_here load at is ∙ ap (λ (r : ReqId). let l : List QueueStep = Ready r nav ∷ [] in l) one

        by_load : (o : Option Load) → ongoing_load nav t.loads ≡ o → option_and_then (λ (load : Load). let x : Option ReqId = cond (is_populating job.doc load) (Some load.req) None in x) o ≡ Some req → step_ready t.loads job.doc ≡ Ready req nav ∷ []
        by_load None at never = absurd cc
        by_load (Some load) at is = by_test load at (is_populating job.doc load) refl is

    waits_none : waiting_in c.tables.loads nav job.doc ≡ None → step_ready c.tables.loads job.doc ≡ []
    waits_none none = by_found (find (is_populating job.doc) t.loads) refl
      where
        by_found : (o : Option Load) → find (is_populating job.doc) t.loads ≡ o → step_ready t.loads job.doc ≡ []
        by_found None at = rw at refl
        by_found (Some load) at =
            let its_ = find_has (is_populating job.doc) t.loads load at in
            let here : ongoing_load nav t.loads ≡ Some load = of_nav load at in
            let some : waiting_in t.loads nav job.doc ≡ Some load.req = rw here (rw (its_.1) refl) in
            let never : None ≡ Some load.req = sym none ∙ some in absurd cc

    pub steps_are : step_ready c.tables.loads job.doc ≡ steps_of (waiting_in c.tables.loads nav job.doc) nav
    steps_are = by_waits (waiting_in t.loads nav job.doc) refl
      where
        by_waits : (o : Option ReqId) → waiting_in t.loads nav job.doc ≡ o → step_ready t.loads job.doc ≡ steps_of o nav
        by_waits None none = waits_none none
        by_waits (Some req) is = waits_some req is

    pub has_placed : (waits : Option ReqId) → waits ≡ waiting_in c.tables.loads nav job.doc → (u : Tables) → PlacesOne state job.doc c.tables u → KeepsRun c.tables u → (left : Queue) → left ≡ record c.queue { waiting = c.queue.waiting ++ steps_of waits nav } → HasPlaced c (record c { tables = u; queue = left }) job.doc state
    has_placed waits is u one run left joined =
        record {
          header = refl;
          one = one;
          run = run;
          queue = joined ∙ ap (λ (l : List QueueStep). let q : Queue = record c.queue { waiting = c.queue.waiting ++ l } in q) (ap (λ (o : Option ReqId). steps_of o nav) is ∙ sym steps_are);
          noted = refl;
          one_each = one_each;
          slots = refl;
        }

  -- ---- the request that is noted

  -- orders may be for what it was made for
  made_may : MayCause (now_of e []) job.why
  made_may =
      subst (λ (x : Seen). MayCause x job.why) (sym (did_now e d.proc job d.outcome heard t c.queue c.blame.entries stands aside))
      (told_causes e d.proc heard.by_coord heard.own t c.queue c.blame.entries stands aside (reports.Done job d.outcome None) heard.first
      (did_requests e d.proc job d.outcome heard t c.queue c.blame.entries stands aside asks_none) job.why (before is_it))
    where
      asks_none : AsksNone job.task
      asks_none = subst (λ (k : Task). AsksNone k) (sym its.task) tt

      is_it : IsMake job.task
      is_it = subst (λ (k : Task). IsMake k) (sym its.task) tt

      before : IsMake job.task → MayCause s job.why
      before =
          each_first (TellsOf (λ (x : Job). IsMake x.task → MayCause s x.why)) (desk_of s d.proc).reports (reports.Done job d.outcome None) heard.first (stands.lasts.makes d.proc).told

  pub noted_for : (req : ReqId) → job.why ≡ whys.Req req → (noted : List (StateId × ReqId)) → noted ≡ insert_entry is_state c.blame.entries state req → IsMadeNoted (now_of d.event []) c.blame.entries noted job.doc state
  noted_for req is noted put =
      subst (λ (l : List (StateId × ReqId)). IsMadeNoted (now_of e []) c.blame.entries l job.doc state) (sym put)
      (record {
        others = λ other apart. put_other c.blame.entries state other req apart;
        own = λ stray. record { req = req; noted_is = put_same c.blame.entries state req; may = made_may req is };
      })

  -- where the document isn't stray nobody is to be noted
  pub noted_none : (noted : List (StateId × ReqId)) → noted ≡ c.blame.entries → (IsStray (now_of d.event []) job.doc state → ⊥) → IsMadeNoted (now_of d.event []) c.blame.entries noted job.doc state
  noted_none noted same needed =
      record {
        others = λ other apart. ap (λ (l : List (StateId × ReqId)). lookup (is_state other) l) same;
        own = λ stray. absurd (needed stray);
      }

  -- where the tables tell that it is needed, it isn't stray
  pub needed : is_unneeded_in c.tables job.doc state ≡ false → IsStray (now_of d.event []) job.doc state → ⊥
  needed =
      needed_is e d.proc job d.outcome heard t c.queue c.blame.entries stands aside its.nav state its.address its.initial its.task

  -- ---- so the tab may be brought to rest

  pub placed_settles : (then_ after : Coordinator) → HasPlaced c then_ job.doc state → after.header ≡ then_.header → after.tables ≡ then_.tables → after.queue ≡ then_.queue → after.slots.entries ≡ then_.slots.entries → IsMadeNoted (now_of d.event []) c.blame.entries after.blame.entries job.doc state → IsToSettle d.event [] after job.why
  placed_settles then_ after placed header tables queue slots noted =
      to_settle e after (header ∙ placed.header ∙ done.open_.header) done.open_.unchecked done.open_.unwanted (done_aside d c job done).plain (done_logged d c job done).lasts.known
      (subst (λ (q : Queue). HasBegun (pass_of e []) after.tables q after.blame.entries) (sym queue)
      (subst (λ (x : Tables). HasBegun (pass_of e []) x then_.queue after.blame.entries) (sym tables)
      (placed_begun e d.proc job d.outcome heard t c.queue c.blame.entries stands aside its.nav state its.address its.initial its.task placed.one_each then_.tables placed.one placed.run (done_logged d c job done) (seen_room e c done.open_) (keep_now e c done.open_) then_.queue placed.queue after.blame.entries noted)))
      job.why made_may (done_taken d c job done) (done_found d c job done) (done_telling d c job done)
      (subst (λ (l : List (DocId × ℕ)). AreSlots (log_of e []) l) (sym (slots ∙ placed.slots)) done.slots)
