-- All that holds in a tab of frames holds after a process finishes an order.
use Rattle.std.proofs.Common.{◌≡◌, ℕ, ◌+◌, ◌≤◌, Bool, true, false, cond, ◌==◌, List, [], ◌∷◌, ◌++◌, map, Option, Some, None, refl, sym, ap, ◌∙◌, subst, arith, append-nil}
use Rattle.std.specs.Prelude.{filter_map, option_map, option_to_list}
use Rattle.std.proofs.lemmas.Bool.{eqb-true}
use Rattle.std.proofs.lemmas.Bool.Decides.{nat_tests}
use Rattle.std.proofs.lemmas.List.Elements.{filter_map-append}
use Rattle.tab_ids.specs.declared.DocId.{DocId}
use Rattle.tab_ids.specs.declared.ProcId.{ProcId}
use Rattle.tab_ids.specs.declared.ReqId.{ReqId}
use Rattle.log_model.specs.declared.job.Job.{Job}
use Rattle.log_model.specs.declared.job.Order.{Order}
use Rattle.log_model.specs.declared.job.Task.{Task}
use Rattle.log_model.specs.declared.job.Task.TheVariants as tasks
use Rattle.log_model.specs.declared.made.Made.{Made}
use Rattle.log_model.specs.declared.made.Report.{Report}
use Rattle.log_model.specs.declared.made.Report.TheVariants as reports
use Rattle.log_model.specs.declared.outcome.Outcome.{Outcome}
use Rattle.log_model.specs.declared.outcome.Outcome.TheVariants as outcomes
use Rattle.log_model.specs.declared.row_kind.Actor.{Actor}
use Rattle.log_model.specs.declared.row_kind.RowKind.TheVariants as rows
use Rattle.log_model.specs.After.{desk_finished}
use Rattle.log_model.specs.AfterDocuments.{task_in_hand, view_finished}
use Rattle.log_model.specs.AfterRequests.{made_of_report, requests_finished}
use Rattle.log_model.specs.Places.{is_moved_in}
use Rattle.log_model.specs.Seen.{Seen, Document, Desk, Asked, Place, desk_of, document_of, request_in}
use Rattle.log_model.specs.Views.{View, after_task}
use Rattle.seen_facts.specs.Coord.Leading.{orders_of_desk, held_back}
use Rattle.seen_facts.proofs.Coord.Unread.{next}
use Rattle.seen_facts.proofs.Rest.Again.{its_number}
use Rattle.seen_facts.specs.Transit.Orders.{IsOutcomeOf}
use Rattle.seen_facts.specs.Each.Runs.{EachAsked, is_run, is_this}
use Rattle.seen_facts.specs.Each.Mades.{Ascend}
use Rattle.seen_facts.specs.Each.Items.{Each}
use Rattle.seen_facts.proofs.Each.Eaches.{each_on, each_more}
use Rattle.seen_facts.proofs.Each.Died.{died_on}
use Rattle.tab_facts.specs.FrameTab.Alive.{IsAlive}
use Rattle.tab_facts.specs.FrameTab.Asking.{IsPlainlyAsked}
use Rattle.tab_facts.specs.FrameTab.Desks.{makes_by, makes_it, makes_sent, makes_told, makes_due, IsTaskOf, IsOrderTo, IsMadeThere, IsReportTo, IsHomeDesk, waiting, untaken, Ascends}
use Rattle.tab_facts.specs.FrameTab.Steady.{IsAskedBy}
use Rattle.tab_facts.specs.FrameTab.Whole.{IsFrameTab}
use Rattle.tab_facts.proofs.FrameTab.Goings.{all_same}
use Rattle.tab_facts.proofs.FrameTab.Steadies.{steady_left}
use Rattle.tab_facts.proofs.FrameTab.Desking.{AllStayMade, same_placed, home_again, made_there_again, desks_on, own_desk}
use Rattle.tab_facts.proofs.FrameTab.Going.{goes_tab, same_givens, same_tooks}
use Rattle.tab_facts.proofs.FrameTab.Leaving.{makes_at, untold, made_again, unmade_again, once_alike, ascends_again, same_shown, continues_again, given_again, same_ascends, same_continues, same_unmade}
use Rattle.tab_facts.proofs.FrameTab.Told.{IsFine, fine_of}
use Rattle.tab_facts.proofs.FrameTab.Arrived.{mapped_made}

-- one report more, of a finished order
pub told_last : (doc : DocId) (waiting_ : List Report) (job : Job) (outcome : Outcome) → makes_told doc (waiting_ ++ reports.Done job outcome None ∷ []) ≡ makes_told doc waiting_ + makes_it doc job
told_last doc [] job outcome = omega arith
told_last doc (reports.Done j o m ∷ waiting_) job outcome =
    let more : makes_told doc (waiting_ ++ reports.Done job outcome None ∷ []) ≡ makes_told doc waiting_ + makes_it doc job = told_last doc waiting_ job outcome in
    omega (arith, more)
told_last doc (reports.Made made ∷ waiting_) job outcome = told_last doc waiting_ job outcome
told_last doc (reports.Died death ∷ waiting_) job outcome = told_last doc waiting_ job outcome

some_same : {A : Type 0} {a b : A} → (let o : Option A = Some a in o) ≡ Some b → a ≡ b
some_same e = cc

-- ---- the view after the order

-- it is the document's own, and runs only where the document is made
record IsRightView (d : Document) (view : View) : Type 0 where
  doc : view.doc ≡ d.nr
  unmade : d.is_ready ≡ false → view.running ≡ false

right_view : (home : ProcId) (d : Document) (place : Place) → IsAlive home d → (task : Task) → IsTaskOf d place task → (view : View) → view_finished d task ≡ Some view → IsRightView d view
right_view home d place is (tasks.Populate nav state address initial) its view has =
    subst (λ (v : View). IsRightView d v) (some_same has) (record { doc = refl; unmade = λ no_. refl })
right_view home d place is (tasks.Activate entry epoch long at memo address) its view has = by_view d.view refl has
  where
    by_view : (o : Option View) → d.view ≡ o → option_map (λ (v : View). after_task v (tasks.Activate entry epoch long at memo address)) o ≡ Some view → IsRightView d view
    by_view None e h = absurd cc
    by_view (Some v) e h = subst (λ (x : View). IsRightView d x) (some_same h) (record { doc = is.viewed v e; unmade = λ no_. (let never : true ≡ false = sym its.0 ∙ no_ in absurd cc) })
right_view home d place is (tasks.Update long at) its view has = by_view d.view refl has
  where
    by_view : (o : Option View) → d.view ≡ o → option_map (λ (v : View). after_task v (tasks.Update long at)) o ≡ Some view → IsRightView d view
    by_view None e h = absurd cc
    by_view (Some v) e h = subst (λ (x : View). IsRightView d x) (some_same h) (record { doc = is.viewed v e; unmade = λ no_. is.unmade v e no_ })
right_view home d place is tasks.Discard its view has = absurd cc
right_view home d place is tasks.Freeze never view has = absurd never
right_view home d place is (tasks.Ask slot cause) never view has = absurd never
right_view home d place is (tasks.DoFragment req mode address) never view has = absurd never

-- and its numbers go on: those of a new one from nothing
right_numbers : (held : List Made) (desk : Desk) (d : Document) (place : Place) → (task : Task) → IsTaskOf d place task → (makes_by true task ≡ 1 → (d.last_applied ≡ 0) × (untaken held desk d.nr ≡ [])) → Ascends held desk d → (view : View) → view_finished d task ≡ Some view → Ascend d.last_applied (untaken held desk d.nr) view.numbered
right_numbers held desk d place (tasks.Populate nav state address initial) its none is view has =
    let n : (d.last_applied ≡ 0) × (untaken held desk d.nr ≡ []) = none refl in
    subst (λ (v : View). Ascend d.last_applied (untaken held desk d.nr) v.numbered) (some_same has)
    (subst (λ (l : List Made). Ascend d.last_applied l 0) (sym n.1) (let low : d.last_applied ≤ 0 = (let zero : d.last_applied ≡ 0 = n.0 in omega (arith, zero)) in low))
right_numbers held desk d place (tasks.Activate entry epoch long at memo address) its none is view has = by_view d.view refl has
  where
    by_view : (o : Option View) → d.view ≡ o → option_map (λ (v : View). after_task v (tasks.Activate entry epoch long at memo address)) o ≡ Some view → Ascend d.last_applied (untaken held desk d.nr) view.numbered
    by_view None e h = absurd cc
    by_view (Some v) e h = subst (λ (x : View). Ascend d.last_applied (untaken held desk d.nr) x.numbered) (some_same h) (is v e)
right_numbers held desk d place (tasks.Update long at) its none is view has = by_view d.view refl has
  where
    by_view : (o : Option View) → d.view ≡ o → option_map (λ (v : View). after_task v (tasks.Update long at)) o ≡ Some view → Ascend d.last_applied (untaken held desk d.nr) view.numbered
    by_view None e h = absurd cc
    by_view (Some v) e h = subst (λ (x : View). Ascend d.last_applied (untaken held desk d.nr) x.numbered) (some_same h) (is v e)
right_numbers held desk d place tasks.Discard its none is view has = absurd cc
right_numbers held desk d place tasks.Freeze never none is view has = absurd never
right_numbers held desk d place (tasks.Ask slot cause) never none is view has = absurd never
right_numbers held desk d place (tasks.DoFragment req mode address) never none is view has = absurd never

-- ---- the row

-- a document that was populated has no handler
abbrev pub HasNoSlot : Outcome → Type 0
HasNoSlot (outcomes.Populated slot) = slot ≡ None
HasNoSlot _ = Unit {0}

module _ (home : ProcId) (run : Option ReqId) (hand : List Made) (s : Seen) (event : ℕ) (actor : Actor) (tab : IsFrameTab home run hand s) (order : Order) (outcome : Outcome) (in_hand : (desk_of s home).in_hand ≡ Some order) (its : IsOutcomeOf order.job.task outcome) (bare : HasNoSlot outcome) where
  abbrev pub finished : Seen
  finished = next s event actor (rows.Finished home order.job.nr outcome)

  orders_are : orders_of_desk (desk_of s home) ≡ order.job ∷ (desk_of s home).mail
  orders_are = ap (λ (o : Option Order). option_to_list (option_map (λ (x : Order). x.job) o) ++ (desk_of s home).mail) in_hand

  pub its_order : IsOrderTo s.documents s.places order.job
  its_order = (subst (λ (l : List Job). Each (IsOrderTo s.documents s.places) l) orders_are tab.desks.own.orders).0

  job_is : task_in_hand s home ≡ Some order.job
  job_is = ap (λ (o : Option Order). option_map (λ (x : Order). x.job) o) in_hand

  finished_requests : finished.requests ≡ s.requests
  finished_requests = ap (λ (o : Option Order). requests_finished s o outcome s.requests) in_hand ∙ by_task order.job.task outcome (fine_of its_order) its
    where
      by_task : (task : Task) (u : Outcome) → IsFine task → IsOutcomeOf task u → requests_finished s (Some order) u s.requests ≡ s.requests
      by_task (tasks.Populate nav state address initial) (outcomes.Populated slot) fine is = refl
      by_task (tasks.Activate entry epoch long at memo address) outcomes.Activated fine is = refl
      by_task (tasks.Update long at) outcomes.Updated fine is = refl
      by_task tasks.Discard outcomes.Discarded fine is = refl
      by_task tasks.Freeze u never is = absurd never
      by_task (tasks.Ask slot cause) u never is = absurd never
      by_task (tasks.DoFragment req mode address) u never is = absurd never
      by_task _ _ fine is = elim is [ ]

  -- ---- the desk

  abbrev done : Report
  done = reports.Done order.job outcome None

  own_finished : desk_of finished home ≡ desk_finished outcome (desk_of s home)
  own_finished = own_desk home s finished (desk_finished outcome) refl (λ desk. refl)

  reports_are : (desk_finished outcome (desk_of s home)).reports ≡ (desk_of s home).reports ++ done ∷ []
  reports_are = rw in_hand refl

  waiting_same : waiting finished hand ≡ waiting s hand
  waiting_same = ap (λ (l : List Asked). held_back l s.parked ++ hand) finished_requests

  same : untold (waiting finished hand) (desk_of finished home) ≡ untold (waiting s hand) (desk_of s home)
  same =
      ap (λ (desk : Desk). untold (waiting finished hand) desk) own_finished
      ∙ ap (λ (l : List Report). waiting finished hand ++ filter_map made_of_report l) reports_are
      ∙ ap (λ (l : List Made). waiting finished hand ++ l) (filter_map-append made_of_report (desk_of s home).reports (done ∷ []) ∙ append-nil (filter_map made_of_report (desk_of s home).reports))
      ∙ ap (λ (l : List Made). l ++ filter_map made_of_report (desk_of s home).reports) waiting_same

  makes_same : (doc : DocId) → makes_at doc (desk_of finished home) ≡ makes_at doc (desk_of s home)
  makes_same doc =
      let one : makes_sent doc (orders_of_desk (desk_of s home)) ≡ makes_it doc order.job + makes_sent doc (desk_of s home).mail = ap (λ (l : List Job). makes_sent doc l) orders_are in
      let two : makes_told doc (desk_finished outcome (desk_of s home)).reports ≡ makes_told doc (desk_of s home).reports + makes_it doc order.job = ap (λ (l : List Report). makes_told doc l) reports_are ∙ told_last doc (desk_of s home).reports order.job outcome in
      ap (makes_at doc) own_finished
      ∙ (let all : makes_sent doc (desk_of s home).mail + makes_told doc (desk_finished outcome (desk_of s home)).reports ≡ makes_sent doc (orders_of_desk (desk_of s home)) + makes_told doc (desk_of s home).reports = omega (arith, one, two) in all)

  finished_desk : IsHomeDesk s.documents s.places (desk_finished outcome (desk_of s home))
  finished_desk =
      record {
        orders = (subst (λ (l : List Job). Each (IsOrderTo s.documents s.places) l) orders_are tab.desks.own.orders).1;
        told = subst (λ (l : List Report). Each (IsReportTo s.documents s.places) l) (sym reports_are) (each_more (IsReportTo s.documents s.places) (desk_of s home).reports done tab.desks.own.told (its_order, its));
        pokes = tab.desks.own.pokes;
      }

  -- ---- the documents

  -- what becomes of each: the view of the order's own, and maybe the slot
  pub record IsOnce (g : Document → Document) : Type 0 where
    pub nr : (d : Document) → (g d).nr ≡ d.nr
    pub nav : (d : Document) → (g d).nav ≡ d.nav
    pub state : (d : Document) → (g d).state ≡ d.state
    pub applied : (d : Document) → (g d).last_applied ≡ d.last_applied
    pub ready : (d : Document) → (g d).is_ready ≡ d.is_ready
    pub proc : (d : Document) → (g d).proc ≡ d.proc
    pub incarnation : (d : Document) → (g d).incarnation ≡ d.incarnation
    pub frozen : (d : Document) → (g d).is_frozen ≡ d.is_frozen
    pub dead : (d : Document) → (g d).dead_by ≡ d.dead_by
    pub known : (d : Document) → (g d).is_known_dead ≡ d.is_known_dead
    pub slot : (d : Document) → d.slot ≡ None → (g d).slot ≡ None
    pub own : (d : Document) → (d.nr.0 == order.job.doc.0) ≡ true → (g d).view ≡ view_finished d order.job.task
    pub other : (d : Document) → (d.nr.0 == order.job.doc.0) ≡ false → (g d).view ≡ d.view

  -- the order's own document
  its_own : (doc : DocId) (d : Document) → document_of s doc ≡ Some d → (d.nr.0 == order.job.doc.0) ≡ true → its_order.document ≡ d
  its_own doc d found e =
      let n : d.nr.0 ≡ order.job.doc.0 = eqb-true d.nr.0 order.job.doc.0 e in
      let nr : d.nr ≡ order.job.doc = ap (λ (n : ℕ). let x : DocId = record { 0 = n } in x) n in
      let at : document_of s order.job.doc ≡ Some d = ap (λ (x : DocId). document_of s x) (sym nr ∙ its_number s doc d found) ∙ found in
      some_same (sym its_order.found ∙ at)

  -- one that is made by it isn't made yet
  unready : (doc : DocId) (d : Document) → document_of s doc ≡ Some d → (d.nr.0 == order.job.doc.0) ≡ true → makes_by true order.job.task ≡ 1 → d.is_ready ≡ false
  unready doc d found e makes = by_ready d.is_ready refl
    where
      turned : (order.job.doc.0 == d.nr.0) ≡ true
      turned = grind (arith, nat_tests, e)

      by_ready : (b : Bool) → d.is_ready ≡ b → d.is_ready ≡ false
      by_ready false h = h
      by_ready true h =
          let one : makes_sent d.nr (orders_of_desk (desk_of s home)) ≡ makes_it d.nr order.job + makes_sent d.nr (desk_of s home).mail = ap (λ (l : List Job). makes_sent d.nr l) orders_are in
          let own : makes_it d.nr order.job ≡ 1 = ap (λ (b : Bool). makes_by b order.job.task) turned ∙ makes in
          let due : makes_sent d.nr (orders_of_desk (desk_of s home)) + makes_told d.nr (desk_of s home).reports ≡ makes_due d.is_ready = tab.made doc d found in
          let none : makes_due d.is_ready ≡ 0 = ap makes_due h in
          let never : 1 ≤ 0 = omega (arith, one, own, due, none) in absurd (omega (arith, never))

  module _ (g : Document → Document) (once : IsOnce g) (documents : finished.documents ≡ map g s.documents) where
    alive_once : (doc : DocId) (d : Document) → document_of s doc ≡ Some d → IsAlive home d → IsAlive home (g d)
    alive_once doc d found is =
        record {
          proc = once.proc d ∙ is.proc;
          incarnation = once.incarnation d ∙ is.incarnation;
          slot = once.slot d is.slot;
          thawed = once.frozen d ∙ is.thawed;
          lives = once.dead d ∙ is.lives;
          unknown = once.known d ∙ is.unknown;
          viewed = λ view has. (right view has).doc ∙ sym (once.nr d);
          unmade = λ view has no_. (right view has).unmade (sym (once.ready d) ∙ no_);
        }
      where
        right : (view : View) → (g d).view ≡ Some view → IsRightView d view
        right view has = by_test (d.nr.0 == order.job.doc.0) refl
          where
            by_test : (b : Bool) → (d.nr.0 == order.job.doc.0) ≡ b → IsRightView d view
            by_test true e = right_view home d its_order.place is order.job.task (subst (λ (x : Document). IsTaskOf x its_order.place order.job.task) (its_own doc d found e) its_order.task) view (sym (once.own d e) ∙ has)
            by_test false e = record { doc = is.viewed view (sym (once.other d e) ∙ has); unmade = λ no_. is.unmade view (sym (once.other d e) ∙ has) no_ }

    ascends_once : (doc : DocId) (d : Document) → document_of s doc ≡ Some d → Ascends (waiting s hand) (desk_of s home) d → Ascends (waiting finished hand) (desk_of finished home) (g d)
    ascends_once doc d found is view has =
        subst (λ (n : DocId). Ascend (g d).last_applied (untaken (waiting finished hand) (desk_of finished home) n) view.numbered) (sym (once.nr d))
        (subst (λ (n : ℕ). Ascend n (untaken (waiting finished hand) (desk_of finished home) d.nr) view.numbered) (sym (once.applied d))
        (same_ascends (waiting s hand) (waiting finished hand) (desk_of s home) (desk_of finished home) same d.nr d.last_applied view.numbered (by_test (d.nr.0 == order.job.doc.0) refl)))
      where
        by_test : (b : Bool) → (d.nr.0 == order.job.doc.0) ≡ b → Ascend d.last_applied (untaken (waiting s hand) (desk_of s home) d.nr) view.numbered
        by_test true e =
            right_numbers (waiting s hand) (desk_of s home) d its_order.place order.job.task (subst (λ (x : Document). IsTaskOf x its_order.place order.job.task) (its_own doc d found e) its_order.task) (λ makes. tab.unmade doc d found (unready doc d found e makes)) is view (sym (once.own d e) ∙ has)
        by_test false e = is view (sym (once.other d e) ∙ has)

    made_on : AllStayMade s.documents (map g s.documents)
    made_on = mapped_made s.documents g once.nr once.nav (λ d ready. once.ready d ∙ ready)

    pub once_framed : IsFrameTab home run hand finished
    once_framed =
        goes_tab home run run hand hand s finished
        (record {
          g = g;
          documents = documents;
          alive = record { nr = once.nr; nav = once.nav; alive = alive_once };
          numbers = record { state = once.state; applied = once.applied };
          forms = refl;
          givens = same_givens s finished refl;
          tooks = same_tooks s finished (λ r. ap (λ (l : List Asked). option_map (λ (q : Asked). q.took) (request_in l r)) finished_requests);
          history = refl;
          states = refl;
          entries = refl;
          initial = refl;
          asked =
              record {
                each = subst (λ (l : List Asked). EachAsked IsPlainlyAsked l) (sym finished_requests) tab.asked.each;
                only = subst (λ (l : List Asked). EachAsked (λ r q. is_run q ≡ is_this run r) l) (sym finished_requests) tab.asked.only;
                runs = λ r e. subst (λ (l : List Asked). IsAskedBy l run) (sym finished_requests) (tab.asked.runs r e);
                kept = tab.asked.kept;
                died = died_on s finished home (desk_finished outcome) refl (λ desk. refl) refl refl tab.asked.died;
              };
          steady = steady_left s finished refl refl (all_same s.requests finished.requests finished_requests) tab.steady;
          desks =
              desks_on home s finished (desk_finished outcome) refl (λ desk. refl)
              (subst (λ (l : List Document). IsHomeDesk l s.places (desk_finished outcome (desk_of s home))) (sym documents)
              (home_again s.documents (map g s.documents) s.places s.places made_on (same_placed s.places s.places refl) (desk_finished outcome (desk_of s home)) finished_desk))
              tab.desks;
          made = made_again home s finished g once.nr (λ doc d found is. once_alike (desk_of s home) (desk_of finished home) d (g d) (once.nr d) (once.ready d) makes_same is) documents tab.made;
          unmade = unmade_again home s finished hand hand g once.nr (λ doc d found is no_.
              let i : (d.last_applied ≡ 0) × (untaken (waiting s hand) (desk_of s home) d.nr ≡ []) = is (sym (once.ready d) ∙ no_) in
              (once.applied d ∙ i.0, ap (λ (n : DocId). untaken (waiting finished hand) (desk_of finished home) n) (once.nr d) ∙ same_unmade (waiting s hand) (waiting finished hand) (desk_of s home) (desk_of finished home) same d.nr i.1)) documents tab.unmade;
          waits =
              subst (λ (l : List Document). Each (IsMadeThere l) (waiting finished hand)) (sym documents)
              (each_on (IsMadeThere s.documents) (IsMadeThere (map g s.documents)) (waiting finished hand) (made_there_again s.documents (map g s.documents) s.places s.places made_on (same_placed s.places s.places refl))
              (subst (λ (l : List Made). Each (IsMadeThere s.documents) l) (sym waiting_same) tab.waits));
          ascends = ascends_again home s finished hand hand g once.nr ascends_once documents tab.ascends;
          continues = continues_again home s finished hand hand (same_shown s finished refl) refl (λ nav place doc given there wakes has. same_continues (waiting s hand) (waiting finished hand) (desk_of s home) (desk_of finished home) same doc given place.epoch) tab.continues;
          given = given_again s finished (same_shown s finished refl) refl (λ nav none. ap (λ (l : List Asked). is_moved_in l nav) (sym finished_requests) ∙ none) tab.given;
        })
        tab

  abbrev viewed : Document → Document
  viewed d = cond (d.nr.0 == order.job.doc.0) (record d { view = view_finished d order.job.task }) d

  by_nr : {B : Type 0} (read : Document → B) → ((d : Document) → read (record d { view = view_finished d order.job.task }) ≡ read d) → (d : Document) → read (viewed d) ≡ read d
  by_nr read same_ d = elim (d.nr.0 == order.job.doc.0) as (λ b. read (let x : Document = cond b (record d { view = view_finished d order.job.task }) d in x) ≡ read d) [ true ↦ same_ d | false ↦ refl ]

  once_viewed : IsOnce viewed
  once_viewed =
      record {
        nr = by_nr (λ d. d.nr) (λ d. refl);
        nav = by_nr (λ d. d.nav) (λ d. refl);
        state = by_nr (λ d. d.state) (λ d. refl);
        applied = by_nr (λ d. d.last_applied) (λ d. refl);
        ready = by_nr (λ d. d.is_ready) (λ d. refl);
        proc = by_nr (λ d. d.proc) (λ d. refl);
        incarnation = by_nr (λ d. d.incarnation) (λ d. refl);
        frozen = by_nr (λ d. d.is_frozen) (λ d. refl);
        dead = by_nr (λ d. d.dead_by) (λ d. refl);
        known = by_nr (λ d. d.is_known_dead) (λ d. refl);
        slot = λ d none. by_nr (λ x. x.slot) (λ x. refl) d ∙ none;
        own = λ d e. ap (λ b. (let x : Document = cond b (record d { view = view_finished d order.job.task }) d in x).view) e;
        other = λ d e. ap (λ b. (let x : Document = cond b (record d { view = view_finished d order.job.task }) d in x).view) e;
      }

  abbrev slotted : Option ℕ → Document → Document
  slotted slot d = cond (d.nr.0 == order.job.doc.0) (record d { slot = slot }) d

  by_slot : (slot : Option ℕ) {B : Type 0} (read : Document → B) → ((d : Document) → read (record d { slot = slot }) ≡ read d) → (d : Document) → read (slotted slot d) ≡ read d
  by_slot slot read same_ d = elim (d.nr.0 == order.job.doc.0) as (λ b. read (let x : Document = cond b (record d { slot = slot }) d in x) ≡ read d) [ true ↦ same_ d | false ↦ refl ]

  once_slotted : (slot : Option ℕ) → slot ≡ None → IsOnce (λ (d : Document). slotted slot (viewed d))
  once_slotted slot none =
      record {
        nr = λ d. by_slot slot (λ x. x.nr) (λ x. refl) (viewed d) ∙ once_viewed.nr d;
        nav = λ d. by_slot slot (λ x. x.nav) (λ x. refl) (viewed d) ∙ once_viewed.nav d;
        state = λ d. by_slot slot (λ x. x.state) (λ x. refl) (viewed d) ∙ once_viewed.state d;
        applied = λ d. by_slot slot (λ x. x.last_applied) (λ x. refl) (viewed d) ∙ once_viewed.applied d;
        ready = λ d. by_slot slot (λ x. x.is_ready) (λ x. refl) (viewed d) ∙ once_viewed.ready d;
        proc = λ d. by_slot slot (λ x. x.proc) (λ x. refl) (viewed d) ∙ once_viewed.proc d;
        incarnation = λ d. by_slot slot (λ x. x.incarnation) (λ x. refl) (viewed d) ∙ once_viewed.incarnation d;
        frozen = λ d. by_slot slot (λ x. x.is_frozen) (λ x. refl) (viewed d) ∙ once_viewed.frozen d;
        dead = λ d. by_slot slot (λ x. x.dead_by) (λ x. refl) (viewed d) ∙ once_viewed.dead d;
        known = λ d. by_slot slot (λ x. x.is_known_dead) (λ x. refl) (viewed d) ∙ once_viewed.known d;
        slot = λ d old. in_slot d (once_viewed.slot d old);
        own = λ d e. by_slot slot (λ x. x.view) (λ x. refl) (viewed d) ∙ once_viewed.own d e;
        other = λ d e. by_slot slot (λ x. x.view) (λ x. refl) (viewed d) ∙ once_viewed.other d e;
      }
    where
      in_slot : (d : Document) → (viewed d).slot ≡ None → (slotted slot (viewed d)).slot ≡ None
      in_slot d old = elim ((viewed d).nr.0 == order.job.doc.0) as (λ b. (let x : Document = cond b (record (viewed d) { slot = slot }) (viewed d) in x).slot ≡ None) [ true ↦ none | false ↦ old ]

  map_both : (f g : Document → Document) (xs : List Document) → map g (map f xs) ≡ map (λ (x : Document). g (f x)) xs
  map_both f g [] = refl
  map_both f g (x ∷ xs) = ap (λ l. g (f x) ∷ l) (map_both f g xs)

  pub finished_framed : IsFrameTab home run hand finished
  finished_framed = by_outcome outcome refl bare
    where
      by_outcome : (u : Outcome) → outcome ≡ u → HasNoSlot u → IsFrameTab home run hand finished
      by_outcome (outcomes.Populated slot) e none = once_framed (λ (d : Document). slotted slot (viewed d)) (once_slotted slot none) (rw (job_is, e) (map_both viewed (slotted slot) s.documents))
      by_outcome outcomes.Activated e none = once_framed viewed once_viewed (rw (job_is, e) refl)
      by_outcome outcomes.Updated e none = once_framed viewed once_viewed (rw (job_is, e) refl)
      by_outcome outcomes.Frozen e none = once_framed viewed once_viewed (rw (job_is, e) refl)
      by_outcome outcomes.Discarded e none = once_framed viewed once_viewed (rw (job_is, e) refl)
      by_outcome (outcomes.Asked verdict) e none = once_framed viewed once_viewed (rw (job_is, e) refl)
      by_outcome outcomes.Fragmented e none = once_framed viewed once_viewed (rw (job_is, e) refl)
