-- What a process's rows leave of what a coordinator's tables tell: one that stood for the log stands for it still.
use Rattle.seen_facts.proofs.Asked.Running.{run_in, running_is}
use Rattle.seen_facts.specs.Coord.Leading.{held_back}
use Rattle.seen_facts.proofs.Each.Courses.{is_asked, was_asked}
use Rattle.seen_facts.proofs.Each.Runs.{none_passes}
use Rattle.seen_facts.proofs.Hang.Members.{has_found}
use Rattle.seen_facts.specs.Kept.Keeping.{state_in}
use Rattle.tab_facts.specs.Last.Lasting.{AreLasting}
use Rattle.row_facts.specs.Left.Left.{WereShown}
use Rattle.load_doors.specs.Tied.{AreTied}
use Rattle.seen_facts.specs.Load.Loading.{Look, is_ongoing, look, look_of}
use Rattle.load_table.specs.declared.load.Load.{Load}
use Rattle.seen_facts.specs.LoadTies.Tying.{IsLoadTied, TiesLoads, is_for_state, made_for, phase_with}
use Rattle.log_model.specs.Checks.{is_checked}
use Rattle.log_model.specs.Equal.{has_req, holds, implies}
use Rattle.log_model.specs.History.{has_nav, has_row, has_state}
use Rattle.log_model.specs.Once.{loads}
use Rattle.log_model.specs.Orders as orders
use Rattle.log_model.specs.Orders.{is_usable}
use Rattle.log_model.specs.Points.{nav_of_request}
use Rattle.log_model.specs.ActsAtOnce.{is_ready_load}
use Rattle.log_model.specs.Places.{all_stand, has_passed, is_moved, is_ongoing_load}
use Rattle.log_model.specs.Seen.{Asked, Document, Place, Seen, document_of, place_in, request_in, request_of}
use Rattle.log_model.specs.History.{History}
use Rattle.log_model.specs.declared.change.Change.{Change}
use Rattle.log_model.specs.declared.job.Job.{Job}
use Rattle.log_model.specs.declared.request.Request.{Request}
use Rattle.move_queue.specs.Queue.{Queue}
use Rattle.tab_facts.proofs.Order.Rows.{orders_on}
use Rattle.tab_facts.specs.Order.Orders.{AreOrders}
use Rattle.seen_facts.proofs.Request.Readers.{SameReads}
use Rattle.seen_facts.proofs.Rest.Again.{WasOf, was_of}
use Rattle.seen_facts.proofs.Rest.Stands.{request_has}
use Rattle.seen_laws.proofs.Keyed.{find_map}
use Rattle.std.proofs.Common.{Bool, List, None, Option, Some, [], ap, arith, cond, false, inl, length, map, refl, subst, sym, true, ℕ, ◌&&◌, ◌+◌, ◌<◌, ◌==◌, ◌||◌, ◌∙◌, ◌∷◌, ◌≡◌, ◌≤◌}
use Rattle.std.proofs.lemmas.List.{length-map, map-id}
use Rattle.std.specs.List.{filter_map, list_any}
use Rattle.std.specs.Option.{option_map_or}
use Rattle.std.specs.Prelude.{find, option_map}
use Rattle.tab_doors.proofs.EndLaws.{left_holds}
use Rattle.tab_doors.proofs.Sights.{IsSeen, seen_of, sight_of}
use Rattle.tab_doors.specs.Look.{Sight, look_of as sights_of, moved_by, sight, sight_in}
use Rattle.tab_doors.specs.Ties.{AreInitial, IsRunning}
use Rattle.tab_doors.specs.Working.{HasGoal}
use Rattle.tab_doors.specs.declared.tables.Tables.{Tables}
use Rattle.tab_facts.proofs.TabEvents.Left.{IsLeftBut}
use Rattle.tab_facts.proofs.TabEvents.Requests.{IsSo}
use Rattle.tab_facts.specs.TabEvents.Between.{IsBetweenChecks}
use Rattle.tab_facts.proofs.TabGoing.Steps.{steps_still}
use Rattle.tab_facts.specs.TabGoing.Going.{AreHeldUp, IsGoing, count_of, has_ended}
use Rattle.tab_ids.specs.declared.DocId.{DocId}
use Rattle.tab_ids.specs.declared.NavId.{NavId}
use Rattle.tab_ids.specs.declared.ReqId.{ReqId}
use Rattle.tab_ids.specs.declared.StateId.{StateId}
use Rattle.tab_stands.proofs.Coming.{IsComing, bare}
use Rattle.tab_stands.proofs.Dones.{itself}
use Rattle.tab_stands.proofs.PassedOn.{KeepsWhat, course_of, out_alike, queue_over, sound_on}
use Rattle.tab_stands.proofs.Placed.{states_alike}
use Rattle.tab_stands.proofs.Stays.{stands_still}
use Rattle.tab_stands.specs.Offs.{AreShownOnce}
use Rattle.tab_stands.specs.PassedOn.{AreLeftStrays, HasQueue, HoldsParked, IsMake, IsReadyLoadOf, IsSoundTask, IsStray, LoadsMadeOwn, MakesServe, MayCause, MayServe, OrdersAreSound}
use Rattle.tab_stands.specs.Standing.{HasRoomFor, InCheck, StandsFor}

some_same : {A : Type 0} {a b : A} → (let o : Option A = Some a in o) ≡ Some b → a ≡ b
some_same e = cc

-- ---- what a row leaves

-- each request to which a change was applied is there with that
abbrev pub KeepChanges : List Asked → List Asked → Type 0
KeepChanges asked then =
    (req : ReqId) (q now : Asked) → request_in asked req ≡ Some q → request_in then req ≡ Some now → (change : Change) → q.change ≡ Some change → now.change ≡ Some change

-- what the tables tell of, and what is held back; as many requests are there, and none is open again
pub record StaysTold (s n : Seen) : Type 0 where
  pub sights : map sight n.documents ≡ map sight s.documents
  pub ways : SameReads bare s.requests n.requests
  pub changes : KeepChanges s.requests n.requests
  pub held : held_back n.requests s.parked ≡ held_back s.requests s.parked
  pub jobs : n.jobs ≡ s.jobs
  pub states : n.states ≡ s.states
  pub entries : n.entries ≡ s.entries
  pub initial : n.initial_states ≡ s.initial_states
  pub ended : count_of has_ended s.requests ≤ count_of has_ended n.requests
  pub long : length n.requests ≡ length s.requests
  -- the step that was logged last is as it was, and not all have stood since where they hadn't and don't
  pub step : n.last_step ≡ s.last_step
  pub unstood : s.has_stood ≡ false → all_stand n n.history.current ≡ false → n.has_stood ≡ false

pub changes_kept : (asked then : List Asked) → SameReads (λ (q : Asked). q.change) asked then → KeepChanges asked then
changes_kept asked then same req q now at at_then change is =
    some_same (sym (ap (λ (o : Option Asked). option_map (λ (x : Asked). x.change) o) at_then) ∙ same req ∙ ap (λ (o : Option Asked). option_map (λ (x : Asked). x.change) o) at) ∙ is

-- a test that a change leaves
any_map : (g : Document → Document) (test : Document → Bool) (xs : List Document) → ((d : Document) → test (g d) ≡ test d) → list_any test (map g xs) ≡ list_any test xs
any_map g test [] same = refl
any_map g test (x ∷ xs) same = rw (same x) (ap (λ (b : Bool). test x || b) (any_map g test xs same))

module _ (s : Seen) (t : Tables) (queue : Queue) (blame : List (StateId × ReqId)) {check : InCheck} (stands : StandsFor check s t queue blame) (room : HasRoomFor s) (n : Seen) (left : IsLeftBut t.running s n) (told : StaysTold s n) (between : IsBetweenChecks t.kept.keep t.running check.loads check.holds n) (lasting : AreLasting n) (rows_ : (F : Job → Type 0) → AreOrders F s → AreOrders F n) (theirs : LoadsMadeOwn n) (were : WereShown n) (once : AreShownOnce n.places) where
  abbrev run : Option ReqId
  run = t.running

  -- ---- requests

  -- one that was there is there, and goes the same way
  there : (req : ReqId) (q : Asked) → request_in s.requests req ≡ Some q → (now : Asked) × (request_in n.requests req ≡ Some now) × (bare now ≡ bare q)
  there req q at = is_asked bare s.requests n.requests told.ways req q at

  was : (req : ReqId) (q : Asked) → request_in n.requests req ≡ Some q → (old : Asked) × (request_in s.requests req ≡ Some old) × (bare old ≡ bare q)
  was req q at = was_asked bare s.requests n.requests told.ways req q at

  moved_same : moved_by n.requests run ≡ moved_by s.requests run
  moved_same = by_run run
    where
      by_run : (o : Option ReqId) → moved_by n.requests o ≡ moved_by s.requests o
      by_run None = refl
      by_run (Some r) = by_found (request_in s.requests r) (request_in n.requests r) (told.ways r)
        where
          by_found : (a b : Option Asked) → option_map bare b ≡ option_map bare a → option_map_or (λ (q : Asked). q.moved) b [] ≡ option_map_or (λ (q : Asked). q.moved) a []
          by_found None None is = refl
          by_found None (Some q) never = absurd cc
          by_found (Some q) None never = absurd cc
          by_found (Some q) (Some now) is = ap (λ (w : Asked). w.moved) (some_same is)

  runs : IsRunning n.requests run
  runs =
      record {
        only = between.tab.asked.only;
        there = λ r is. (let its = stands.tied.runs.there r is in let now = there r its.0 its.1 in (now.0, now.1));
      }

  goal_then : HasGoal n.requests run t.goal
  goal_then r q is at =
      let old = was r q at in
      ap (λ (w : Asked). w.goal) (sym old.2) ∙ stands.tied.goal r old.0 is old.1

  -- all have passed their checks, so orders may be for whom they might be
  serves : (req : ReqId) → MayServe s req → MayServe n req
  serves req may = by_found (request_of s req) refl
    where
      implied : (a b : Bool) → b ≡ true → implies a b ≡ true
      implied true b is = is
      implied false b is = refl

      by_found : (o : Option Asked) → request_of s req ≡ o → MayServe n req
      by_found None none =
          let never : false ≡ true = sym (ap (λ (o : Option Asked). holds (λ (q : Asked). implies (is_checked q) (has_passed s q)) o) none) ∙ may.goes in absurd cc
      by_found (Some q) at =
          let now = there req q at in
          let passes : has_passed n now.0 ≡ true = between.tab.asked.passed req now.0 now.1 in
          record {
            goes = ap (λ (o : Option Asked). holds (λ (x : Asked). implies (is_checked x) (has_passed n x)) o) now.1 ∙ implied (is_checked now.0) (has_passed n now.0) passes;
            begun = λ x found. (let same : now.0 ≡ x = some_same (sym now.1 ∙ found) in let ways : bare x ≡ bare q = ap bare (sym same) ∙ now.2 in out_alike q x (ap (λ (w : Asked). course_of w) ways) (may.begun q at));
          }

  -- ---- orders on their way

  abbrev serve_now : Job → Type 0
  serve_now job = IsMake job.task → MayCause n job.why

  makes : MakesServe n
  makes =
      rows_ serve_now (orders_on (λ (job : Job). IsMake job.task → MayCause s job.why) serve_now s (λ job its make req is. serves req (its make req is)) stands.lasts.makes)

  -- ---- ongoing loads

  -- nothing is made of one
  unmade : (m : Seen) → IsBetweenChecks t.kept.keep run check.loads check.holds m → (req : ReqId) (l : Look) → look_of m req ≡ Some l → is_ongoing l ≡ true → l.made ≡ None
  unmade m holding req l at on = (holding.tab.loading.each req l at on).unmade

  loads_were : (req : ReqId) (l : Look) → look_of n req ≡ Some l → is_ongoing l ≡ true → look_of s req ≡ Some l
  loads_were req l at on = by_found (request_in n.requests req) refl at
    where
      by_found : (o : Option Asked) → request_in n.requests req ≡ o → option_map look o ≡ Some l → look_of s req ≡ Some l
      by_found None none never = absurd cc
      by_found (Some q) found is =
          let same : look q ≡ l = some_same is in
          let so : IsSo s.requests req q = left.asked.was req q found (ap is_ongoing same ∙ on) in
          let were_ : look_of s req ≡ Some (look so.other) = ap (λ (o : Option Asked). option_map look o) so.there in
          let lean_ : record (look so.other) { made = None } ≡ record (look q) { made = None } = ap (λ (x : Asked). record (look x) { made = None }) so.same in
          let on_s : is_ongoing (look so.other) ≡ true = ap is_ongoing lean_ ∙ ap is_ongoing same ∙ on in
          let none_s : (look so.other).made ≡ None = unmade s stands.between req (look so.other) were_ on_s in
          let none_n : (look q).made ≡ None = ap (λ (x : Look). x.made) same ∙ unmade n between req l at on in
          were_ ∙ ap (λ (x : Look). let o : Option Look = Some x in o) (ap (λ (m : _). record (look so.other) { made = m }) none_s ∙ lean_ ∙ ap (λ (m : _). record (look q) { made = m }) (sym none_n) ∙ same)

  -- ---- documents

  before : (doc : DocId) (d : Document) → document_of n doc ≡ Some d → WasOf s left.g doc d
  before doc d found = was_of s n left.g left.keeps.nr left.documents doc d found

  states_kept : (doc : DocId) → state_in n.documents doc ≡ state_in s.documents doc
  states_kept doc =
      ap (λ (l : List Document). state_in l doc) left.documents
      ∙ ap (λ (o : Option Document). option_map (λ (d : Document). d.state) o) (find_map (λ (x : Document). x.nr.0) left.g doc.0 s.documents (λ x. ap (λ (k : DocId). k.0) (left.keeps.nr x)))
      ∙ by_found (document_of s doc)
    where
      by_found : (o : Option Document) → option_map (λ (d : Document). d.state) (option_map left.g o) ≡ option_map (λ (d : Document). d.state) o
      by_found None = refl
      by_found (Some d) = ap (λ (x : StateId). Some x) (left.keeps.state d)

  -- it is its navigable's still
  nav_then : (doc : DocId) (d old : Document) → document_of n doc ≡ Some d → document_of s doc ≡ Some old → d.nav ≡ old.nav
  nav_then doc d old found found_was =
      let both : Some (sight d) ≡ Some (sight old) = sym (sight_of n doc d found) ∙ ap (λ (l : List Sight). sight_in l doc) told.sights ∙ sight_of s doc old found_was in
      ap (λ (x : Sight). x.nav) (some_same both)

  -- ---- the tables

  for_state : (state : StateId) (d : Document) → is_for_state state (left.g d) ≡ is_for_state state d
  for_state state d = rw (left.keeps.state d, left.keeps.discarded d, left.keeps.known d) refl

  phase_same : (state : StateId) → phase_with (made_for n.documents state) ≡ phase_with (made_for s.documents state)
  phase_same state = ap (λ (l : List Document). phase_with (find (is_for_state state) l)) left.documents ∙ by_list s.documents
    where
      phased : (o : Option Document) → phase_with (option_map left.g o) ≡ phase_with o
      phased None = refl
      phased (Some d) = rw (left.keeps.ready d, left.keeps.nr d) refl

      by_list : (l : List Document) → phase_with (find (is_for_state state) (map left.g l)) ≡ phase_with (find (is_for_state state) l)
      by_list l = ap phase_with (find_same l) ∙ phased (find (is_for_state state) l)
        where
          find_same : (xs : List Document) → find (is_for_state state) (map left.g xs) ≡ option_map left.g (find (is_for_state state) xs)
          find_same [] = refl
          find_same (x ∷ xs) = rw (for_state state x) (by_test (is_for_state state x) (find_same xs))
            where
              by_test : (b : Bool) → find (is_for_state state) (map left.g xs) ≡ option_map left.g (find (is_for_state state) xs) → (let o : Option Document = cond b (Some (left.g x)) (find (is_for_state state) (map left.g xs)) in o) ≡ option_map left.g (let o : Option Document = cond b (Some x) (find (is_for_state state) xs) in o)
              by_test true same = refl
              by_test false same = same

  loads_tied : TiesLoads n t.loads
  loads_tied =
      record {
        there = λ nav load at. of_load load (stands.tied.loads.there nav load at);
        all = λ req q nav at on its. (let so : IsSo s.requests req q = left.asked.was req q at on in stands.tied.loads.all req so.other nav so.there (ap is_ongoing_load so.same ∙ on) (ap (λ (x : Asked). loads nav x.what) so.same ∙ its));
      }
    where
      of_load : (load : Load) → IsLoadTied s load → IsLoadTied n load
      of_load load tied =
          let so : IsSo n.requests load.req tied.q = left.asked.stays load.req tied.q tied.found tied.ongoing in
          record {
            q = so.other;
            found = so.there;
            ongoing = ap is_ongoing_load so.same ∙ tied.ongoing;
            mode = tied.mode;
            what = ap (λ (x : Asked). x.what) so.same ∙ tied.what;
            state = ap (λ (x : Asked). x.state) so.same ∙ tied.state;
            replace = tied.replace ∙ ap (λ (x : Asked). x.replaces) (sym so.same);
            phase = tied.phase ∙ sym (phase_same load.state);
          }

  tied : AreTied n t
  tied =
      record {
        holds = left_holds (sights_of s run) (sights_of n run) t told.sights left.places left.history moved_same told.jobs told.states told.entries stands.tied.holds;
        runs = runs;
        goal = goal_then;
        few = few_then;
        initial = subst (λ (l : List StateId). AreInitial l t.initial.entries) (sym told.initial) stands.tied.initial;
        loads = loads_tied;
        kept = stands.tied.kept ∙ sym (states_alike s.documents n.documents states_kept s.kept) ∙ ap (λ (l : List DocId). filter_map (state_in n.documents) l) (sym left.kept);
      }
    where
      few_then : length n.documents ≤ n.jobs + 1
      few_then =
          let many : length n.documents ≡ length s.documents = sym (length-map n.documents sight) ∙ ap (λ (l : List Sight). length l) told.sights ∙ length-map s.documents sight in
          let same : n.jobs ≡ s.jobs = told.jobs in
          let low : length s.documents ≤ s.jobs + 1 = stands.tied.few in omega (arith, many, same, low)

  keeps : KeepsWhat s n
  keeps =
      record {
        asked = λ req q at. (let now = there req q at in (now.0, now.1, ap (λ (w : Asked). w.what) now.2));
        homes = homes;
      }
    where
      homes : (doc : DocId) (d : Document) → document_of s doc ≡ Some d → (now : Document) × (document_of n doc ≡ Some now) × (now.nav ≡ d.nav)
      homes doc d found =
          let seen : IsSeen n doc (sight d) = seen_of n doc (sight d) (ap (λ (l : List Sight). sight_in l doc) told.sights ∙ sight_of s doc d found) in
          (seen.document, seen.found, ap (λ (x : Sight). x.nav) seen.is)

  sound : OrdersAreSound n
  sound = rows_ (λ (job : Job). IsSoundTask n job.doc job.task) (sound_on s n keeps stands.lasts.sound)

  -- ---- stray documents

  -- a state of no ongoing load then was of none
  unloaded_was : (state : StateId) → orders.ongoing_load n state ≡ None → orders.ongoing_load s state ≡ None
  unloaded_was state none = none_passes (is_for state) s.requests (λ req q at. fails req q at (is_for state q) refl)
    where
      is_for : StateId → Asked → Bool
      is_for of q = is_ongoing_load q && holds (λ (own : StateId). own.0 == of.0) q.state

      fails : (req : ReqId) (q : Asked) → request_in s.requests req ≡ Some q → (b : Bool) → is_for state q ≡ b → is_for state q ≡ false
      fails req q at false is = is
      fails req q at true is =
          let so : IsSo n.requests req q = left.asked.stays req q at (first (is_ongoing_load q) (holds (λ (own : StateId). own.0 == state.0) q.state) is) in
          let some = has_found (is_for state) n.requests so.other (request_has n.requests req so.other so.there) (ap (λ (x : Asked). is_for state x) so.same ∙ is) in
          let never : None ≡ Some some.0 = sym none ∙ some.1 in absurd cc
        where
          first : (a b : Bool) → (a && b) ≡ true → a ≡ true
          first true b h = refl
          first false b h = absurd cc

  strays_then : AreLeftStrays n blame
  strays_then doc state stray =
      let w : WasOf s left.g doc stray.document = before doc stray.document stray.found in
      let its : IsStray s doc state = record {
        document = w.before;
        found = w.there;
        its_state = sym (left.keeps.state w.before) ∙ ap (λ (x : Document). x.state) w.is ∙ stray.its_state;
        ready = sym (left.keeps.ready w.before) ∙ ap (λ (x : Document). x.is_ready) w.is ∙ stray.ready;
        undiscarded = sym (left.keeps.discarded w.before) ∙ ap (λ (x : Document). x.is_discarded) w.is ∙ stray.undiscarded;
        bare = ap (λ (h : History). has_state state h.rows) (sym left.history) ∙ stray.bare;
        unloaded = unloaded_was state stray.unloaded;
      } in
      let was_left = stands.strays doc state its in
      record {
        req = was_left.req;
        noted = was_left.noted;
        may = serves was_left.req was_left.may;
        bare = λ d found. (let b : WasOf s left.g doc d = before doc d found in ap (λ (h : History). has_row d.nav h.rows) left.history ∙ ap (λ (x : NavId). has_row x s.history.rows) (nav_then doc d b.before found b.there) ∙ was_left.bare b.before b.there);
      }

  -- ---- what waits, and what is held back

  queued : HasQueue n run queue.waiting
  queued =
      queue_over s n (record { joined = left.joined; whats = whats; ready = λ req nav it. was_ready it }) run queue.waiting stands.queue
    where
      whats : SameReads (λ (q : Asked). q.what) s.requests n.requests
      whats req = by_found (request_in s.requests req) (request_in n.requests req) (told.ways req)
        where
          by_found : (a b : Option Asked) → option_map bare b ≡ option_map bare a → option_map (λ (q : Asked). q.what) b ≡ option_map (λ (q : Asked). q.what) a
          by_found None None is = refl
          by_found None (Some q) never = absurd cc
          by_found (Some q) None never = absurd cc
          by_found (Some q) (Some now) is = ap (λ (w : Asked). let o : Option Request = Some w.what in o) (some_same is)

      was_ready : {req : ReqId} {nav : NavId} → IsReadyLoadOf n req nav → IsReadyLoadOf s req nav
      was_ready {req} {nav} it =
          let on : is_ongoing_load it.q ≡ true = first (is_ongoing_load it.q) _ it.ready in
          let so : IsSo s.requests req it.q = left.asked.was req it.q it.at on in
          record {
            q = so.other;
            at = so.there;
            ready = ap (λ (x : Asked). is_ready_load s x) so.same ∙ sym (ready_same it.q) ∙ it.ready;
            its = ap (λ (x : Asked). loads nav x.what) so.same ∙ it.its;
          }
        where
          first : (a b : Bool) → (a && b) ≡ true → a ≡ true
          first true b h = refl
          first false b h = absurd cc

          usable : (d : Document) (state : StateId) → is_usable (left.g d) state ≡ is_usable d state
          usable d state = rw (left.keeps.state d, left.keeps.ready d, left.keeps.discarded d, left.keeps.known d) refl

          ready_same : (q : Asked) → is_ready_load n q ≡ is_ready_load s q
          ready_same q = ap (λ (b : Bool). is_ongoing_load q && b) (by_state q.state)
            where
              by_state : (o : Option StateId) → holds (λ (state : StateId). list_any (λ (d : Document). is_usable d state) n.documents) o ≡ holds (λ (state : StateId). list_any (λ (d : Document). is_usable d state) s.documents) o
              by_state None = refl
              by_state (Some state) =
                  ap (λ (l : List Document). list_any (λ (d : Document). is_usable d state) l) left.documents
                  ∙ any_map left.g (λ (d : Document). is_usable d state) s.documents (λ d. usable d state)

  parked_then : HoldsParked n queue.parked
  parked_then = stands.parked ∙ sym told.held ∙ ap (λ (l : List ReqId). held_back n.requests l) (sym left.parked)

  held_then : AreHeldUp run n
  held_then = by_run run stands.lasts.held
    where
      by_run : (o : Option ReqId) → AreHeldUp o s → AreHeldUp o n
      by_run None held = tt
      by_run (Some r) held =
          λ x q p nav has at its ran. (let old = was x q at in let mover = was r p ran in subst (λ (l : List NavId). has_nav l nav ≡ true) (ap (λ (w : Asked). w.moved) mover.2) (held x old.0 mover.0 nav (ap (λ (l : List ReqId). has_req l x) (sym left.parked) ∙ has) old.1 (ap (λ (w : Asked). nav_of_request w.what) old.2 ∙ its) mover.1))

  -- ---- all of it

  is_moved_same : (nav : NavId) → is_moved n nav ≡ is_moved s nav
  is_moved_same nav =
      ap (λ (o : Option Asked). holds (λ (q : Asked). has_nav q.moved nav) o) (running_is run n.requests between.tab.asked.only)
      ∙ by_run run
      ∙ sym (ap (λ (o : Option Asked). holds (λ (q : Asked). has_nav q.moved nav) o) (running_is run s.requests stands.between.tab.asked.only))
    where
      by_run : (o : Option ReqId) → holds (λ (q : Asked). has_nav q.moved nav) (run_in o n.requests) ≡ holds (λ (q : Asked). has_nav q.moved nav) (run_in o s.requests)
      by_run None = refl
      by_run (Some r) = by_found (request_in s.requests r) (request_in n.requests r) (told.ways r)
        where
          by_found : (a b : Option Asked) → option_map bare b ≡ option_map bare a → holds (λ (q : Asked). has_nav q.moved nav) b ≡ holds (λ (q : Asked). has_nav q.moved nav) a
          by_found None None is = refl
          by_found None (Some q) never = absurd cc
          by_found (Some q) None never = absurd cc
          by_found (Some q) (Some now) is = ap (λ (w : Asked). has_nav w.moved nav) (some_same is)

  comes : IsComing blame s n
  comes =
      record {
        g = λ p. p;
        arrives = itself;
        places = left.places ∙ sym (map-id s.places);
        history = left.history;
        kept = left.kept;
        loads = loads_were;
        loading = between.loading;
        serves = serves;
        moved = is_moved_same;
        asked = λ req q at. (let now = there req q at in record { now = now.0; at = now.1; same = now.2; changed = λ change is. told.changes req q now.0 at now.1 change is });
        homes = keeps.homes;
        states = states_kept;
        strays = λ doc state stray. inl (strays_then doc state stray);
        were = were;
        theirs = theirs;
        step = told.step;
        unstood = told.unstood;
      }

  going : IsGoing run check.loads [] n
  going =
      record {
        tab = between.tab;
        lasting = lasting;
        counted = record {
          entries = (let low : s.entries ≤ 1 + count_of has_ended s.requests = stands.lasts.counted.entries in let same : n.entries ≡ s.entries = told.entries in let more : count_of has_ended s.requests ≤ count_of has_ended n.requests = told.ended in omega (arith, low, same, more));
          epochs = λ nav place found. subst (λ (k : ℕ). place.epoch.0 ≤ k + 1) (sym told.jobs) (stands.lasts.counted.epochs nav place (ap (λ (l : List Place). place_in l nav) (sym left.places) ∙ found));
        };
        steps = steps_still s n stands.lasts.steps left.history told.ended;
        held = held_then;
        room = (let low : length s.requests + 3 < 4294967296 = room in let same : length n.requests ≡ length s.requests = told.long in omega (arith, low, same));
      }

  pub left_stands : StandsFor check n t queue blame
  left_stands =
      stands_still s t queue blame stands n comes between going tied makes sound once strays_then queued parked_then
