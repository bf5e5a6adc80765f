-- What holds of a tab of frames between two events holds after a poke that reaches a document, and after what a process does: it takes up an order, finishes one, or lets a document act.
use Rattle.seen_facts.proofs.Coord.Reached.{IsOfOne}
use Rattle.tab_facts.proofs.FrameTab.Finishings.{HasNoSlot, finished_framed, its_order}
use Rattle.tab_facts.proofs.FrameTab.Lefts.{poke_framed, taken_framed}
use Rattle.tab_facts.proofs.FrameTab.Acting.{acted_framed}
use Rattle.tab_facts.proofs.FrameTab.Facing.{faced_by}
use Rattle.tab_facts.proofs.FrameEvents.Composed.{between_composed}
use Rattle.tab_facts.proofs.FrameEvents.Leading.{flows_if}
use Rattle.tab_facts.specs.FrameWhole.Tab.{IsBetween}
use Rattle.seen_facts.proofs.Rest.Again.{its_number}
use Rattle.seen_facts.proofs.Request.KnownMoved.{first_poke, alone, made_known, poke_known}
use Rattle.seen_laws.specs.Acting.{IsToAct, IsNoEdit}
use Rattle.seen_facts.proofs.Rest.Working.{poked_composed, begun_composed, finished_composed, populated_composed, acted_composed}
use Rattle.address.specs.Addresses.{with_fragment}
use Rattle.seen_facts.proofs.Coord.Kept.{IsInHand}
use Rattle.seen_facts.proofs.Coord.Unread.{next}
use Rattle.seen_facts.specs.Coord.Leading.{orders_of_desk}
use Rattle.tab_facts.specs.FrameTab.Asking.{IsFrameRequest, IsNoEditing}
use Rattle.tab_facts.specs.FrameTab.Desks.{IsMadeNew, IsOrderTo, IsTaskOf, makes_due, makes_it, makes_sent, makes_told}
use Rattle.tab_facts.specs.FrameTab.Whole.{IsFrameTab}
use Rattle.seen_facts.specs.Home.Homes.{IsHomed}
use Rattle.log_model.proofs.Refl.{nat_eq_refl}
use Rattle.log_model.specs.After.{follows_finished}
use Rattle.log_model.specs.Equal.{has_req}
use Rattle.log_model.specs.History.{History, has_row}
use Rattle.log_model.specs.Places.{goes}
use Rattle.log_model.specs.Seen.{Asked, Document, Place, Seen, awake, desk_of, document_of, place_in, place_of, request_in}
use Rattle.log_model.specs.Views.{View, made_by, made_for, new_address, new_entry}
use Rattle.log_model.specs.declared.action.Action.{Action}
use Rattle.log_model.specs.declared.job.Job.{Job}
use Rattle.log_model.specs.declared.job.Order.{Order}
use Rattle.log_model.specs.declared.job.Task.{Task}
use Rattle.log_model.specs.declared.made.What.{What}
use Rattle.log_model.specs.declared.outcome.Outcome.{Outcome}
use Rattle.log_model.specs.declared.request.Poke.{Poke}
use Rattle.log_model.specs.declared.row_kind.Actor.{Actor}
use Rattle.seen_facts.proofs.Each.Eaches.{each_first}
use Rattle.seen_facts.specs.Each.Items.{Each}
use Rattle.seen_facts.proofs.Request.KnownRows.{finished_known, taken_known}
use Rattle.seen_facts.proofs.Request.Times.{times_none}
use Rattle.seen_facts.specs.Request.Cores.{Core, core, core_of}
use Rattle.seen_facts.specs.Request.Knowns.{AreKnown, IsPoke, is_go}
use Rattle.seen_facts.specs.Rest.Between.{IsComposed}
use Rattle.std.proofs.Common.{Bool, List, None, Option, Some, [], ap, arith, false, length, not, refl, subst, sym, true, ℕ, ◌&&◌, ◌++◌, ◌+◌, ◌==◌, ◌∙◌, ◌∷◌, ◌≡◌}
use Rattle.std.proofs.lemmas.Bool.Decides.{nat_tests}
use Rattle.std.specs.Prelude.{bytes_eq, option_map, option_to_list, slice_get}
use Rattle.std.specs.Result.{result_ok}
use Rattle.tab_ids.specs.declared.Death.{Death}
use Rattle.tab_ids.specs.declared.DocId.{DocId}
use Rattle.tab_ids.specs.declared.NavId.{NavId}
use Rattle.tab_ids.specs.declared.ProcId.{ProcId}
use Rattle.tab_ids.specs.declared.ReqId.{ReqId}
use Rattle.tab_ids.specs.declared.StateId.{StateId}
use Rattle.seen_facts.specs.Transit.Orders.{IsOutcomeOf}
use Rattle.log_model.specs.declared.action.Action.TheVariants as actions
use Rattle.log_model.specs.declared.job.Task.TheVariants as tasks
use Rattle.log_model.specs.declared.outcome.Outcome.TheVariants as outcomes
use Rattle.log_model.specs.declared.request.Request.TheVariants as requests
use Rattle.log_model.specs.declared.row_kind.Actor.TheVariants as actors
use Rattle.log_model.specs.declared.row_kind.RowKind.TheVariants as rows
use Rattle.log_model.specs.AfterRequests.{is_running}
use Rattle.log_model.specs.Equal.{holds}

some_same : {A : Type 0} {a b : A} → (let o : Option A = Some a in o) ≡ Some b → a ≡ b
some_same e = cc

-- an event after which the tab is composed, is one of frames, and has its navigables, history and held back reports as before
pub between_again : (home : ProcId) (run : Option ReqId) (s t : Seen) → IsBetween home run s → IsComposed t → IsFrameTab home run [] t → AreKnown t → t.places ≡ s.places → t.history ≡ s.history → t.parked ≡ s.parked → IsBetween home run t
between_again home run s t is now framed known places history parked =
    record {
      tab =
          record {
            framed = framed;
            sound = now.sound;
            hangs = now.hangs;
            homes = now.homes;
            kept = now.kept;
            ways = now.ways;
            rests = now.rests;
            flows = flows_if t now.flows;
            once = now.once;
            known = known;
          };
      flows = now.flows;
      served = now.served;
      told = now.told;
      stepped = now.stepped;
      held = λ none. parked ∙ is.held none;
      swept = now.plain.swept;
      rows_ = λ nav place doc found wakes. ap (λ (h : History). has_row place.nav h.rows) history ∙ is.rows_ nav place doc (ap (λ (l : List Place). place_in l nav) (sym places) ∙ found) wakes;
    }

-- the action makes what is the document's next, and a traversal just where it asks for one
pub record IsMadeByAction (view : View) (action : Action) (what : What) : Type 0 where
  pub new : IsMadeNew view what
  pub no_edit : IsNoEdit what
  pub goes_ : goes action ≡ is_go what

entry_made : (view : View) (push : Bool) (memo : Option (List ℕ)) (address : List ℕ) (what : What) (action : Action) → goes action ≡ false → new_entry view push memo address ≡ what → IsMadeByAction view action what
entry_made view true memo address what action stays same = subst (IsMadeByAction view action) same (record { new = refl; no_edit = tt; goes_ = stays })
entry_made view false memo address what action stays same = subst (IsMadeByAction view action) same (record { new = (refl, refl); no_edit = tt; goes_ = stays })

pub made_of_action : (view : View) (action : Action) (what : What) → IsNoEditing action → made_by view action ≡ Some what → IsMadeByAction view action what
made_of_action view (actions.Push memo reference) what fine makes = by_address (new_address view reference) makes
  where
    by_address : (o : Option (List ℕ)) → option_map (new_entry view (not view.initial) memo) o ≡ Some what → IsMadeByAction view (actions.Push memo reference) what
    by_address None e = absurd cc
    by_address (Some address) e = entry_made view (not view.initial) memo address what (actions.Push memo reference) refl (some_same e)
made_of_action view (actions.Replace memo reference) what fine makes = by_address (new_address view reference) makes
  where
    by_address : (o : Option (List ℕ)) → option_map (new_entry view false memo) o ≡ Some what → IsMadeByAction view (actions.Replace memo reference) what
    by_address None e = absurd cc
    by_address (Some address) e = entry_made view false memo address what (actions.Replace memo reference) refl (some_same e)
made_of_action view (actions.Fragment text) what fine makes = by_address (result_ok (with_fragment view.address text)) makes
  where
    by_address : (o : Option (List ℕ)) → option_map (λ address. new_entry view (not view.initial && not (bytes_eq address view.address)) None address) o ≡ Some what → IsMadeByAction view (actions.Fragment text) what
    by_address None e = absurd cc
    by_address (Some address) e = entry_made view (not view.initial && not (bytes_eq address view.address)) None address what (actions.Fragment text) refl (some_same e)
made_of_action view (actions.AddFrame nav) what fine makes = subst (IsMadeByAction view (actions.AddFrame nav)) (some_same makes) (record { new = tt; no_edit = tt; goes_ = refl })
made_of_action view (actions.RemoveFrame nav) what fine makes = subst (IsMadeByAction view (actions.RemoveFrame nav)) (some_same makes) (record { new = tt; no_edit = tt; goes_ = refl })
made_of_action view (actions.Go delta) what fine makes = subst (IsMadeByAction view (actions.Go delta)) (some_same makes) (record { new = tt; no_edit = tt; goes_ = refl })
made_of_action view actions.Edit what never makes = absurd never

-- what is made is no edit where the action is none
pub no_editing : (view : View) (action : Action) (what : What) → made_by view action ≡ Some what → IsNoEdit what → IsNoEditing action
no_editing view (actions.Push memo reference) what makes is = tt
no_editing view (actions.Replace memo reference) what makes is = tt
no_editing view (actions.Fragment text) what makes is = tt
no_editing view (actions.AddFrame nav) what makes is = tt
no_editing view (actions.RemoveFrame nav) what makes is = tt
no_editing view (actions.Go delta) what makes is = tt
no_editing view actions.Edit what makes is = subst IsNoEdit (sym (some_same makes)) is

module _ (home : ProcId) (run : Option ReqId) (s : Seen) (event : ℕ) (is : IsBetween home run s) where
  abbrev framed : IsFrameTab home run [] s
  framed = is.tab.framed

  composed : IsComposed s
  composed = between_composed home run s is

  -- ---- the user pokes a document that is there

  module _ (actor : Actor) (req : ReqId) (nr : req.0 ≡ length s.requests + 1) (nav : NavId) (action : Action) (fine : IsNoEditing action) (doc : DocId) (d : Document) (found : document_of s doc ≡ Some d) where
    pub poked_between : IsBetween home run (next s event actor (rows.Accepted req (Some doc) (requests.Poke nav action)))
    poked_between =
        between_again home run s (next s event actor (rows.Accepted req (Some doc) (requests.Poke nav action))) is
        (poked_composed s event actor composed req nr doc d found nav action)
        (poke_framed home run [] s event actor framed req nr nav action fine doc d found)
        (poke_known s [] event actor req nr is.tab.once doc d nav action found is.tab.known)
        refl refl refl

  -- ---- the process takes up an order

  module _ (job : Job) (first : slice_get (desk_of s home).mail 0 ≡ Some job) where
    -- it is of the incarnation that lives
    mailed : Each (IsOrderTo s.documents s.places) (desk_of s home).mail
    mailed = by_hand (desk_of s home).in_hand refl
      where
        by_hand : (o : Option Order) → (desk_of s home).in_hand ≡ o → Each (IsOrderTo s.documents s.places) (desk_of s home).mail
        by_hand None e = subst (λ (o : Option Order). Each (IsOrderTo s.documents s.places) (option_to_list (option_map (λ (x : Order). x.job) o) ++ (desk_of s home).mail)) e framed.desks.own.orders
        by_hand (Some order) e = (let all : Each (IsOrderTo s.documents s.places) (order.job ∷ (desk_of s home).mail) = subst (λ (o : Option Order). Each (IsOrderTo s.documents s.places) (option_to_list (option_map (λ (x : Order). x.job) o) ++ (desk_of s home).mail)) e framed.desks.own.orders in all.1)

    mailed_to : IsOrderTo s.documents s.places job
    mailed_to = each_first (IsOrderTo s.documents s.places) (desk_of s home).mail job first mailed

    pub taken_lives : (job.incarnation == length (desk_of s home).killed) ≡ true
    taken_lives = rw (mailed_to.incarnation, (framed.asked.died home).1) refl

    module _ (free : (desk_of s home).in_hand ≡ None) (dirty : Bool) where
      pub taken_between : IsBetween home run (next s event (actors.Proc home) (rows.Taken home job.nr true dirty))
      taken_between =
          between_again home run s (next s event (actors.Proc home) (rows.Taken home job.nr true dirty)) is
          (begun_composed s event home composed job dirty free first)
          (taken_framed home run [] s event (actors.Proc home) framed job dirty free first)
          (taken_known s event (actors.Proc home) home job.nr true dirty is.tab.known)
          refl refl refl

  -- ---- it finishes one

  module _ (order : Order) (outcome : Outcome) (hand : (desk_of s home).in_hand ≡ Some order) (its : IsOutcomeOf order.job.task outcome) (bare : HasNoSlot outcome) where
    in_hand_to : IsOrderTo s.documents s.places order.job
    in_hand_to = its_order home run [] s event (actors.Proc home) framed order outcome hand its bare

    pub in_hand_lives : IsInHand s home order
    in_hand_lives =
        record {
          hand = hand;
          lives = in_hand_to.incarnation ∙ sym (ap (λ (l : List Death). length l) (framed.asked.died home).1);
          home = λ d found. (framed.documents order.job.doc d found).alive.proc;
        }

    -- no navigable is awake on a document that is still to be made
    unmade : (nav_ : NavId) (state : StateId) (address : List ℕ) (initial : Bool) → order.job.task ≡ tasks.Populate nav_ state address initial → (nav : NavId) (place : Place) → place_of s nav ≡ Some place → place.status ≡ awake order.job.doc → ⊥
    unmade nav_ state address initial task nav place placed wakes =
        let h : IsHomed s.documents place order.job.doc = is.tab.homes.homed nav place order.job.doc placed wakes in
        let number : h.home.document.nr ≡ order.job.doc = its_number s order.job.doc h.home.document h.home.found in
        let once : makes_sent h.home.document.nr (orders_of_desk (desk_of s home)) + makes_told h.home.document.nr (desk_of s home).reports ≡ makes_due h.home.document.is_ready = framed.made order.job.doc h.home.document h.home.found in
        let sent : makes_sent h.home.document.nr (orders_of_desk (desk_of s home)) ≡ makes_it h.home.document.nr order.job + makes_sent h.home.document.nr (desk_of s home).mail = ap (λ (o : Option Order). makes_sent h.home.document.nr (option_to_list (option_map (λ (x : Order). x.job) o) ++ (desk_of s home).mail)) hand in
        let one : makes_it h.home.document.nr order.job ≡ 1 = rw number (rw (task, nat_eq_refl order.job.doc.0) refl) in
        let due : makes_due h.home.document.is_ready ≡ 0 = ap makes_due h.home.ready in
        absurd (omega (arith, once, sent, one, due))

    by_task : (task : Task) (o : Outcome) → order.job.task ≡ task → outcome ≡ o → IsTaskOf in_hand_to.document in_hand_to.place task → IsOutcomeOf task o → IsComposed (next s event (actors.Proc home) (rows.Finished home order.job.nr o))
    by_task (tasks.Update long at) outcomes.Updated task o its_ out = finished_composed s event home composed order outcomes.Updated in_hand_lives tt (subst IsOfOne (sym task) tt) (subst (λ (t : Task). IsOutcomeOf t outcomes.Updated) (sym task) tt)
    by_task tasks.Discard outcomes.Discarded task o its_ out = finished_composed s event home composed order outcomes.Discarded in_hand_lives tt (subst IsOfOne (sym task) tt) (subst (λ (t : Task). IsOutcomeOf t outcomes.Discarded) (sym task) tt)
    by_task (tasks.Activate entry epoch long at memo address) outcomes.Activated task o its_ out = finished_composed s event home composed order outcomes.Activated in_hand_lives tt (subst IsOfOne (sym task) tt) (subst (λ (t : Task). IsOutcomeOf t outcomes.Activated) (sym task) tt)
    by_task (tasks.Populate nav_ state address initial) (outcomes.Populated slot) task o its_ out = populated_composed s event home composed order slot in_hand_lives (subst (λ (t : Task). IsOutcomeOf t (outcomes.Populated slot)) (sym task) tt) (unmade nav_ state address initial task)
    by_task tasks.Freeze o task is_ never out = absurd never
    by_task (tasks.Ask slot cause) o task is_ never out = absurd never
    by_task (tasks.DoFragment req mode address) o task is_ never out = absurd never
    by_task (tasks.Update long at) o task is_ its_ never = absurd never
    by_task tasks.Discard o task is_ its_ never = absurd never
    by_task (tasks.Activate entry epoch long at memo address) o task is_ its_ never = absurd never
    by_task (tasks.Populate nav_ state address initial) o task is_ its_ never = absurd never

    pub finished_between : IsBetween home run (next s event (actors.Proc home) (rows.Finished home order.job.nr outcome))
    finished_between =
        between_again home run s (next s event (actors.Proc home) (rows.Finished home order.job.nr outcome)) is
        (by_task order.job.task outcome refl refl in_hand_to.task its)
        (finished_framed home run [] s event (actors.Proc home) framed order outcome hand its bare)
        (finished_known s event (actors.Proc home) home order.job.nr outcome is.tab.known)
        refl refl refl

-- ---- a document acts on the first poke of its process

-- the request of the poke, and the document with its view, where that runs
pub record Acts (s : Seen) (home : ProcId) (poke : Poke) (d : Document) (view : View) : Type 0 where
  pub nav : NavId
  pub q : Asked
  pub acts : IsToAct s home poke q nav d view
  pub fine : IsNoEditing poke.action

pub record IsActing (s : Seen) (home : ProcId) (poke : Poke) : Type 0 where
  pub d : Document
  pub view : View
  pub found : document_of s poke.doc ≡ Some d
  pub acts : Acts s home poke d view

module _ (home : ProcId) (run : Option ReqId) (s : Seen) (is : IsBetween home run s) (poke : Poke) (first : slice_get (desk_of s home).input 0 ≡ Some poke) where
  -- the request of the poke, of whatever document
  pub record Asks : Type 0 where
    pub nav : NavId
    pub q : Asked
    pub there : request_in s.requests poke.req ≡ Some q
    pub what : q.what ≡ requests.Poke nav poke.action
    pub doc : q.doc ≡ Some poke.doc
    pub unmade : q.made ≡ None
    pub unended : q.ending ≡ None
    pub fine : IsNoEditing poke.action

  pub its_asked : Asks
  its_asked = by_found (request_in s.requests poke.req) refl (first_poke s [] home poke first is.tab.once is.tab.known)
    where
      by_found : (o : Option Asked) → request_in s.requests poke.req ≡ o → IsPoke (core_of o) poke → Asks
      by_found None e k = (let never : None ≡ Some _ = k.is in absurd cc)
      by_found (Some q) e k =
          let same : core q ≡ record { what = requests.Poke k.nav poke.action; doc = Some poke.doc; made = None; ending = None } = some_same k.is in
          let what : q.what ≡ requests.Poke k.nav poke.action = ap (λ (c : Core). c.what) same in
          record {
            nav = k.nav;
            q = q;
            there = e;
            what = what;
            doc = ap (λ (c : Core). c.doc) same;
            unmade = ap (λ (c : Core). c.made) same;
            unended = ap (λ (c : Core). c.ending) same;
            fine = subst IsFrameRequest what (is.tab.framed.asked.each poke.req q e).what;
          }

  pub its_act : (d : Document) (view : View) → document_of s poke.doc ≡ Some d → d.view ≡ Some view → view.running ≡ true → Acts s home poke d view
  its_act d view found has runs =
      let number : view.doc ≡ poke.doc = (is.tab.framed.documents poke.doc d found).alive.viewed view has ∙ its_number s poke.doc d found in
      record {
        nav = its_asked.nav;
        q = its_asked.q;
        acts =
            record {
              first = first;
              asked = its_asked.there;
              unmade = its_asked.unmade;
              unended = its_asked.unended;
              asks = its_asked.what;
              named = its_asked.doc ∙ ap (λ (n : DocId). Some n) (sym number);
              there = ap (λ (n : DocId). document_of s n) number ∙ found;
              home = (is.tab.framed.documents poke.doc d found).alive.proc;
              has = has;
              runs = runs;
            };
        fine = its_asked.fine;
      }

  -- one that runs is there
  pub its_acting : is_running s poke.doc ≡ true → IsActing s home poke
  its_acting running = by_found (document_of s poke.doc) refl running
    where
      by_view : (d : Document) → document_of s poke.doc ≡ Some d → (o : Option View) → d.view ≡ o → holds (λ (view : View). view.running) o ≡ true → IsActing s home poke
      by_view d found None has never = absurd cc
      by_view d found (Some view) has runs = record { d = d; view = view; found = found; acts = its_act d view found has runs }

      by_found : (o : Option Document) → document_of s poke.doc ≡ o → holds (λ (d : Document). holds (λ (view : View). view.running) d.view) o ≡ true → IsActing s home poke
      by_found None found never = absurd cc
      by_found (Some d) found runs = by_view d found d.view refl runs

  -- it makes something
  module _ (q : Asked) (nav : NavId) (d : Document) (view : View) (what : What) (acts : IsToAct s home poke q nav d view) (makes : made_by view poke.action ≡ Some what) where
    by_action : IsMadeByAction view poke.action what
    by_action = made_of_action view poke.action what its_asked.fine makes

    anew : follows_finished s (record { event = s.events; actor = actors.Proc home; row = rows.Made home (made_for view poke.req what) }) ≡ false
    anew = (let later : (s.events == (s.events + 1)) ≡ false = grind (arith, nat_tests) in rw later refl)

    -- its document is the poked one
    named : poke.doc ≡ view.doc
    named =
        let one : its_asked.q ≡ q = some_same (sym its_asked.there ∙ acts.asked) in
        some_same (sym its_asked.doc ∙ ap (λ (x : Asked). x.doc) one ∙ acts.named)

    -- its request isn't held back
    pub unparked : has_req s.parked poke.req ≡ false
    unparked = times_none poke.req s.parked (alone s [] home poke first is.tab.once is.tab.known).parked

    pub acted_between : IsBetween home run (next s s.events (actors.Proc home) (rows.Made home (made_for view poke.req what)))
    acted_between =
        between_again home run s (next s s.events (actors.Proc home) (rows.Made home (made_for view poke.req what))) is
        (acted_composed s home (between_composed home run s is) poke q nav d view what acts by_action.no_edit)
        (acted_framed home run [] s is.tab.framed poke q nav d view what acts by_action.new unparked (faced_by s home d view is.flows acts.there (its_number s view.doc d acts.there) acts.home acts.has))
        (made_known s [] s.events (actors.Proc home) home (made_for view poke.req what) poke first refl named by_action.no_edit by_action.goes_ anew is.tab.once is.tab.known)
        refl refl refl
