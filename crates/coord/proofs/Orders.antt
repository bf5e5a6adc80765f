-- A process takes up an order, or finishes one: the coordinator has acted, which does nothing itself.
use Rattle.log_model.specs.Suits.{is_slotted}
use Rattle.log_model.specs.declared.header.Header.{Header}
use Rattle.tab_stands.proofs.PassedOn.{row_slots}
use Rattle.coord.proofs.Asides.{finished_plain, joined_goes, joined_plain, one_goes, start_lasts, taken_plain, hand_asks, mail_asks, seen_stands, start_asks}
use Rattle.tab_doors.proofs.Uncut.{uncut_now}
use Rattle.coord.specs.Standing.{HasActed, IsOpenTo}
use Rattle.coord.specs.declared.coordinator.Coordinator.{Coordinator}
use Rattle.coord.proofs.Idle.{alone_acts, found_now, idle_acts, as_idled}
use Rattle.coord.proofs.Slots.{finished_own, own_slots}
use Rattle.seen_facts.proofs.Coord.Unread.{next}
use Rattle.seen_facts.specs.Desk.Own.{IsFragmentTask}
use Rattle.seen_facts.proofs.Doc.Works.{HasNoSlot}
use Rattle.seen_facts.proofs.LoadWhereabouts.Trips.{IsNoFragment}
use Rattle.log_model.specs.Equal.{holds}
use Rattle.log_model.specs.Seen.{Document, Seen, desk_of, document_of}
use Rattle.seen_facts.specs.Fragment.Fragments.{fragment_of}
use Rattle.log_model.specs.Views.{View, made_for}
use Rattle.log_model.specs.declared.job.Job.{Job}
use Rattle.log_model.specs.declared.job.Order.{Order}
use Rattle.log_model.specs.declared.job.Task.{Task}
use Rattle.log_model.specs.declared.made.Made.{Made}
use Rattle.log_model.specs.declared.outcome.Outcome.{Outcome}
use Rattle.log_model.specs.declared.request.Mode.{Mode}
use Rattle.log_model.specs.declared.row_kind.RowKind.{RowKind}
use Rattle.tab_facts.proofs.Running.Over.{running_over}
use Rattle.tab_facts.proofs.Running.Runs.{fragment_runs}
use Rattle.tab_facts.proofs.Running.Tells.{answered_telling}
use Rattle.tab_facts.specs.Running.Fitting.{IsFinishedUp}
use Rattle.tab_facts.specs.Running.Running.{AreFoundRunning, Runs}
use Rattle.tab_facts.specs.Running.Telling.{AreTelling}
use Rattle.seen_laws.proofs.InEvents.{now_more}
use Rattle.seen_laws.specs.InEvent.{InEvent, now_of}
use Rattle.std.proofs.Common.{Bool, List, None, Option, Some, [], ap, refl, subst, sym, true, ℕ, ◌∙◌, ◌∷◌, ◌≡◌}
use Rattle.std.specs.Prelude.{slice_get}
use Rattle.tab_acts.proofs.Fragments as fragments
use Rattle.tab_acts.proofs.Orders as orders
use Rattle.tab_ids.specs.declared.ProcId.{ProcId}
use Rattle.tab_ids.specs.declared.ReqId.{ReqId}
use Rattle.tab_facts.proofs.TabWhole.Fragments.{IsToFragment}
use Rattle.tab_facts.proofs.TabWhole.Working.{in_hand_lives}
use Rattle.seen_facts.specs.Transit.Orders.{IsOutcomeOf}
use Rattle.log_model.specs.declared.job.Task.TheVariants as tasks
use Rattle.log_model.specs.declared.outcome.Outcome.TheVariants as outcomes
use Rattle.log_model.specs.declared.row_kind.Actor.TheVariants as actors
use Rattle.log_model.specs.declared.row_kind.RowKind.TheVariants as rows

some_same : {A : Type 0} {a b : A} → (let o : Option A = Some a in o) ≡ Some b → a ≡ b
some_same e = cc

-- an order that is no fragment order is none
no_fragment : (task : Task) → IsNoFragment task → IsFragmentTask task → ⊥
no_fragment (tasks.DoFragment req mode address) never fragment = never
no_fragment (tasks.Populate nav state address initial) plain never = never
no_fragment (tasks.Activate entry epoch length index memo address) plain never = never
no_fragment (tasks.Update length index) plain never = never
no_fragment tasks.Freeze plain never = never
no_fragment tasks.Discard plain never = never
no_fragment (tasks.Ask slot cause) plain never = never

-- the outcome of a fragment order tells nothing but that it was done
fragmented : (req : ReqId) (mode : Mode) (address : List ℕ) (outcome : Outcome) → IsOutcomeOf (tasks.DoFragment req mode address) outcome → outcome ≡ outcomes.Fragmented
fragmented req mode address outcomes.Fragmented its = refl
fragmented req mode address (outcomes.Populated slot) never = absurd never
fragmented req mode address outcomes.Activated never = absurd never
fragmented req mode address outcomes.Updated never = absurd never
fragmented req mode address outcomes.Frozen never = absurd never
fragmented req mode address outcomes.Discarded never = absurd never
fragmented req mode address (outcomes.Asked verdict) never = absurd never

-- where no page has a handler no outcome has a slot
slotted_none : (header : Header) → header.pages ≡ [] → (task : Task) (outcome : Outcome) → HasNoSlot outcome → is_slotted header task outcome ≡ true
slotted_none header pages (tasks.Populate nav state address initial) (outcomes.Populated slot) none = rw none (rw pages refl)
slotted_none header pages (tasks.Populate nav state address initial) outcomes.Activated none = refl
slotted_none header pages (tasks.Populate nav state address initial) outcomes.Updated none = refl
slotted_none header pages (tasks.Populate nav state address initial) outcomes.Frozen none = refl
slotted_none header pages (tasks.Populate nav state address initial) outcomes.Discarded none = refl
slotted_none header pages (tasks.Populate nav state address initial) outcomes.Fragmented none = refl
slotted_none header pages (tasks.Populate nav state address initial) (outcomes.Asked verdict) none = refl
slotted_none header pages (tasks.Activate entry epoch length index memo address) outcome none = refl
slotted_none header pages (tasks.Update length index) outcome none = refl
slotted_none header pages tasks.Freeze outcome none = refl
slotted_none header pages tasks.Discard outcome none = refl
slotted_none header pages (tasks.Ask slot cause) outcome none = refl
slotted_none header pages (tasks.DoFragment req mode address) outcome none = refl

module _ (e : InEvent) (c : Coordinator) (open_ : IsOpenTo e c) (proc : ProcId) (by : e.actor ≡ actors.Proc proc) where
  -- ---- an order is taken up: nothing is in hand, and it is the first

  pub taken_acts : (job : Job) (dirty : Bool) → (desk_of e.start proc).in_hand ≡ None → slice_get (desk_of e.start proc).mail 0 ≡ Some job → e.event ≡ e.start.events → dirty ≡ holds (λ (d : Document). holds (λ (view : View). view.dirty) d.view) (document_of e.start job.doc) → e.own ≡ rows.Taken proc job.nr true dirty → HasActed e [] c
  taken_acts job dirty free first event is_dirty own =
      alone_acts e c open_ (rows.Taken proc job.nr true dirty) own (taken_plain e c open_.in_ proc job.nr true dirty job first own) (record { live_is = refl; free = free; job = job; first = first }) tt
      (own_slots e c.slots.entries open_.in_.uncut (rows.Taken proc job.nr true dirty) own tt open_.slots)
      (as_idled e c [] (taken_plain e c open_.in_ proc job.nr true dirty job first own) (orders.taken_acts e c.tables c.queue c.blame.entries (seen_stands e c open_.in_) (start_lasts e c open_.in_) (start_asks e c open_.in_) open_.in_.room proc job dirty free first (mail_asks e c open_.in_ proc job first) open_.in_.uncut by event is_dirty own))

  -- ---- one is finished, which is in hand; the outcome is one of its task

  module _ (order : Order) (outcome : Outcome) (hand : (desk_of e.start proc).in_hand ≡ Some order) (its : IsOutcomeOf order.job.task outcome) (bare : HasNoSlot outcome) where
    is_up : IsFinishedUp e.start proc order.job.nr
    is_up =
        record {
          order = order;
          in_hand = in_hand_lives c.tables.running e.start e.event proc open_.in_.stands.stands.between.tab open_.in_.stands.stands.between.flows order outcome hand its bare;
          nr_is = refl;
        }

    -- one that is no fragment order
    pub finished_acts : IsNoFragment order.job.task → e.header.pages ≡ [] → e.event ≡ e.start.events → e.own ≡ rows.Finished proc order.job.nr outcome → HasActed e [] c
    finished_acts other pages event own =
        alone_acts e c open_ (rows.Finished proc order.job.nr outcome) own (finished_plain e c open_.in_ proc order outcome hand bare own) is_up
        (λ x there fragment. no_fragment order.job.task other (subst (λ (y : Order). IsFragmentTask y.job.task) (some_same (sym there ∙ hand)) fragment))
        (finished_own e c open_ proc order outcome hand its own)
        (as_idled e c [] (finished_plain e c open_.in_ proc order outcome hand bare own) (orders.finished_acts e c.tables c.queue c.blame.entries (seen_stands e c open_.in_) (start_lasts e c open_.in_) (start_asks e c open_.in_) open_.in_.room proc order outcome hand its (hand_asks e c open_.in_ proc order hand) other (slotted_none e.header pages order.job.task outcome bare) open_.in_.uncut by own))

-- ---- a fragment order

module _ (e : InEvent) (c : Coordinator) (open_ : IsOpenTo e c) (proc : ProcId) (order : Order) (hand : (desk_of e.start proc).in_hand ≡ Some order) where
  -- its document has a view, and runs
  pub order_runs : IsFragmentTask order.job.task → Runs e.start order.job.doc
  order_runs =
      fragment_runs e.start proc order open_.in_.stands.found open_.in_.stands.stands.between.tab.desks open_.in_.stands.stands.between.tab.asked.died hand

  module _ (req : ReqId) (mode : Mode) (address : List ℕ) (task : order.job.task ≡ tasks.DoFragment req mode address) (d : Document) (view : View) (found : document_of e.start order.job.doc ≡ Some d) (has : d.view ≡ Some view) where
    runs : view.running ≡ true
    runs =
        let r : Runs e.start order.job.doc = order_runs (subst IsFragmentTask (sym task) tt) in
        let same : r.d ≡ d = some_same (sym r.found ∙ found) in
        let one : r.view ≡ view = some_same (sym r.viewed ∙ ap (λ (x : Document). x.view) same ∙ has) in
        ap (λ (v : View). v.running) (sym one) ∙ r.running

    to : IsToFragment e.start proc order req mode address d view
    to = record { in_hand = hand; task = task; found = found; has = has; runs = runs }

    abbrev made : Made
    made = made_for view req (fragment_of view mode address)

    -- it is finished, and its document makes an entry of it
    module _ (outcome : Outcome) (its : IsOutcomeOf order.job.task outcome) (by : e.actor ≡ actors.Proc proc) (own : e.own ≡ rows.Finished proc order.job.nr outcome) where
      so : outcome ≡ outcomes.Fragmented
      so = fragmented req mode address outcome (subst (λ (t : Task). IsOutcomeOf t outcome) task its)

      bare : HasNoSlot outcome
      bare = subst HasNoSlot (sym so) tt

      found_then : AreFoundRunning (now_of e (rows.Made proc (made_for view req (fragment_of view mode address)) ∷ []))
      found_then =
          running_over e (rows.Made proc made ∷ []) [] (tt, tt) (one_goes e (rows.Made proc made) (joined_goes e c open_.in_ proc order outcome hand bare own made)) (found_now e c open_ (rows.Finished proc order.job.nr outcome) own (finished_plain e c open_.in_ proc order outcome hand bare own) (is_up e c open_ proc by order outcome hand its bare))

      telling_then : AreTelling (now_of e (rows.Made proc (made_for view req (fragment_of view mode address)) ∷ []))
      telling_then =
          subst AreTelling (sym then_) (answered_telling e.start e.event e.actor open_.in_.stands.telling proc order.job.nr outcome order hand e.actor made)
        where
          then_ : now_of e (rows.Made proc made ∷ []) ≡ next (next e.start e.event e.actor (rows.Finished proc order.job.nr outcome)) e.event e.actor (rows.Made proc made)
          then_ =
              now_more e [] (rows.Made proc made) (joined_goes e c open_.in_ proc order outcome hand bare own made).read
              ∙ ap (λ (x : Seen). next x e.event e.actor (rows.Made proc made)) (sym (uncut_now e open_.in_.uncut (finished_plain e c open_.in_ proc order outcome hand bare own).same) ∙ ap (λ (k : RowKind). next e.start e.event e.actor k) own)

      pub fragment_acts : HasActed e (rows.Made proc (made_for view req (fragment_of view mode address)) ∷ []) c
      fragment_acts =
          idle_acts e c open_ (rows.Made proc made ∷ []) (tt, tt)
          (as_idled e c (rows.Made proc made ∷ []) (joined_plain e c open_.in_ proc order outcome hand bare own made) (fragments.fragment_acts e c.tables c.queue c.blame.entries (seen_stands e c open_.in_) (start_lasts e c open_.in_) (start_asks e c open_.in_) open_.in_.room proc order req mode address d view to open_.in_.uncut by (own ∙ ap (λ (o : Outcome). rows.Finished proc order.job.nr o) so)))
          (joined_plain e c open_.in_ proc order outcome hand bare own made)
          found_then telling_then
          (row_slots e c.slots.entries [] (rows.Made proc made) tt (finished_own e c open_ proc order outcome hand its own))
