-- A process finishes an order: its document is made, shown, told, frozen, discarded, or makes a new entry.
use Rattle.std.proofs.Common.{◌≡◌, ℕ, ◌+◌, ◌<◌, ◌≤◌, Bool, true, false, cond, ◌==◌, List, [], ◌∷◌, ◌++◌, length, map, Option, Some, None, refl, sym, ap, ◌∙◌, subst, arith}
use Rattle.std.specs.Prelude.{not, option_and_then, option_map, option_to_list, is_some, IfSome}
use Rattle.std.proofs.lemmas.Bool.Decides.{nat_tests}
use Rattle.tab_ids.specs.declared.DocId.{DocId}
use Rattle.tab_ids.specs.declared.ProcId.{ProcId}
use Rattle.tab_ids.specs.declared.ReqId.{ReqId}
use Rattle.coord.specs.Standing.{HasActed}
use Rattle.coord.specs.declared.coordinator.Coordinator.{Coordinator}
use Rattle.coord.proofs.Orders.{finished_acts, fragment_acts, order_runs}
use Rattle.seen_facts.specs.Desk.Own.{IsFragmentTask, IsOrderIn}
use Rattle.seen_facts.proofs.Doc.Works.{HasNoSlot}
use Rattle.seen_facts.specs.Each.Items.{Each}
use Rattle.seen_facts.specs.Fragment.Fragments.{fragment_of}
use Rattle.history_log.proofs.DeskLaws.{desk_of-after}
use Rattle.seen_facts.proofs.LoadWhereabouts.Trips.{IsNoFragment}
use Rattle.log_counts.specs.Counts.{told_index}
use Rattle.log_model.specs.declared.handler.HandlerKind.{HandlerKind}
use Rattle.log_model.specs.declared.header.Header.{Header}
use Rattle.log_model.specs.declared.job.Job.{Job}
use Rattle.log_model.specs.declared.job.Order.{Order}
use Rattle.log_model.specs.declared.job.Task.{Task}
use Rattle.log_model.specs.declared.job.Task.TheVariants as tasks
use Rattle.log_model.specs.declared.made.Made.{Made}
use Rattle.log_model.specs.declared.made.Report.{Report}
use Rattle.log_model.specs.declared.made.Report.TheVariants as told
use Rattle.log_model.specs.declared.outcome.Outcome.{Outcome}
use Rattle.log_model.specs.declared.outcome.Outcome.TheVariants as outcomes
use Rattle.log_model.specs.declared.request.Mode.{Mode}
use Rattle.log_model.specs.declared.row_kind.Actor.{Actor}
use Rattle.log_model.specs.declared.row_kind.Actor.TheVariants as actors
use Rattle.log_model.specs.declared.row_kind.LogRow.{LogRow}
use Rattle.log_model.specs.declared.row_kind.RowKind.{RowKind}
use Rattle.log_model.specs.declared.row_kind.RowKind.TheVariants as rows
use Rattle.log_model.specs.After.{after, desk_finished, desks_made, follows_finished, reports_joined}
use Rattle.log_model.specs.AfterDocuments.{documents_finished, slot_finished, view_finished}
use Rattle.log_model.specs.AfterRequests.{is_running, requests_finished}
use Rattle.log_model.specs.Logs.{seen_of}
use Rattle.log_model.specs.Seen.{Seen, Document, Desk, desk_of}
use Rattle.log_model.specs.Views.{View, after_made, after_made_if, is_fragment_replace, made_for, new_entry}
use Rattle.proc_tables.specs.declared.item.Item.TheVariants as items
use Rattle.proc_tables.specs.Desks.{Changes, desk_at, desk_with, on_proc, without_order}
use Rattle.proc_tables.specs.Views.{view_at}
use Rattle.proc_work.specs.Work as worked
use Rattle.proc_work.specs.Work.{done_of, outcome_of_task}
use Rattle.seen_facts.proofs.Rest.Again.{its_number}
use Rattle.tab_facts.specs.Running.Running.{Runs}
use Rattle.running_table.specs.Runners.{RunnersState}
use Rattle.running_table.specs.Telling.{GoesWith}
use Rattle.coord.specs.PassedOn.{IsSoundTask}
use Rattle.seen_facts.specs.Transit.Orders.{IsOutcomeOf}
use Rattle.world.specs.declared.event.Event.TheVariants as events
use Rattle.world.specs.declared.event.Reply.TheVariants as replies
use Rattle.world.specs.declared.state.State.{State}
use Rattle.world.specs.Asking.{event_of}
use Rattle.world.specs.Finishing.{IsWorkedOutcome}
use Rattle.world.specs.Notes.{row_with}
use Rattle.world.specs.Open.{IsOpen, IsSmall, row_limit, view_in}
use Rattle.world.specs.Shows.{IsTabTask, Shows, made_at_end, shown_after}
use Rattle.world.specs.Steps.{Begins, rows_of_made}
use Rattle.world.specs.Turns.{HasGone}
use Rattle.world.proofs.EndingLaws.{endings, left_on}
use Rattle.world.proofs.EventLaws.{shows_small, two_on}
use Rattle.world.proofs.FaceLaws.{document_in, faces_kept, faces_left, leaves_if, view_found}
use Rattle.world.proofs.Facts.{hand_small, open_to, tab}
use Rattle.world.proofs.NoteLaws.{Keeping}
use Rattle.world.proofs.SitedLaws.{finished_sited, made_sited}
use Rattle.world.proofs.TableLaws.{desks_go, views_on}
use Rattle.world.proofs.WorkLaws.{gone_alone}
use Rattle.running_table.proofs.ForCallers.{finished_told, quiet_told}

-- ---- what an order makes of things

-- nobody is asked
tab_task : (s : Seen) (doc : DocId) (task : Task) → IsSoundTask s doc task → IsTabTask task
tab_task s doc (tasks.Populate nav state address initial) is = tt
tab_task s doc (tasks.Activate entry epoch long at memo address) is = tt
tab_task s doc (tasks.Update long at) is = tt
tab_task s doc tasks.Discard is = tt
tab_task s doc tasks.Freeze is = tt
tab_task s doc (tasks.DoFragment req mode address) is = tt
tab_task s doc (tasks.Ask slot cause) never = absurd never

-- what comes of an order that asks nobody has nothing to do with unsaved edits and handlers
bare_outcome : (task : Task) (dirty any : Bool) (kind : Option HandlerKind) → IsTabTask task → outcome_of_task task dirty kind ≡ outcome_of_task task any None
bare_outcome (tasks.Populate nav state address initial) dirty any kind is = refl
bare_outcome (tasks.Activate entry epoch long at memo address) dirty any kind is = refl
bare_outcome (tasks.Update long at) dirty any kind is = refl
bare_outcome tasks.Discard dirty any kind is = refl
bare_outcome tasks.Freeze dirty any kind is = refl
bare_outcome (tasks.DoFragment req mode address) dirty any kind is = refl
bare_outcome (tasks.Ask slot cause) dirty any kind never = absurd never

-- the outcome is one of its task, and finds no handler
record IsFitting (task : Task) (outcome : Outcome) : Type 0 where
  pub its : IsOutcomeOf task outcome
  pub bare : HasNoSlot outcome

fitting : (task : Task) (dirty : Bool) → IsTabTask task → IsFitting task (outcome_of_task task dirty None)
fitting (tasks.Populate nav state address initial) dirty is = record { its = tt; bare = refl }
fitting (tasks.Activate entry epoch long at memo address) dirty is = record { its = tt; bare = tt }
fitting (tasks.Update long at) dirty is = record { its = tt; bare = tt }
fitting tasks.Discard dirty is = record { its = tt; bare = tt }
fitting tasks.Freeze dirty is = record { its = tt; bare = tt }
fitting (tasks.DoFragment req mode address) dirty is = record { its = tt; bare = tt }
fitting (tasks.Ask slot cause) dirty never = absurd never

-- the view that an order makes, by two definitions; a fragment order's comes with the row behind it
same_view : (d : Document) (task : Task) → IsTabTask task → IsNoFragment task → view_finished d task ≡ shown_after d.nr d.view task
same_view d (tasks.Populate nav state address initial) is plain = refl
same_view d (tasks.Activate entry epoch long at memo address) is plain = refl
same_view d (tasks.Update long at) is plain = refl
same_view d tasks.Discard is plain = refl
same_view d tasks.Freeze is plain = refl
same_view d (tasks.Ask slot cause) never plain = absurd never
same_view d (tasks.DoFragment req mode address) is never = absurd never

-- what a document makes of an order that is no fragment order
none_made : (view : Option View) (task : Task) → IsNoFragment task → made_at_end view task ≡ None
none_made None task plain = refl
none_made (Some view) (tasks.Populate nav state address initial) plain = refl
none_made (Some view) (tasks.Activate entry epoch long at memo address) plain = refl
none_made (Some view) (tasks.Update long at) plain = refl
none_made (Some view) tasks.Discard plain = refl
none_made (Some view) tasks.Freeze plain = refl
none_made (Some view) (tasks.Ask slot cause) plain = refl
none_made (Some view) (tasks.DoFragment req mode address) never = absurd never

-- what one that runs makes of a fragment order
some_made : (view : View) (req : ReqId) (mode : Mode) (address : List ℕ) → view.running ≡ true → made_at_end (Some view) (tasks.DoFragment req mode address) ≡ Some (made_for view req (fragment_of view mode address))
some_made view req mode address runs = rw runs refl

shown_then : (doc : DocId) (view : View) (req : ReqId) (mode : Mode) (address : List ℕ) → view.running ≡ true → shown_after doc (Some view) (tasks.DoFragment req mode address) ≡ Some (after_made view (fragment_of view mode address))
shown_then doc view req mode address runs = rw runs refl

-- the view is small
shown_small : (events more : ℕ) (doc : DocId) (view : Option View) (task : Task) → IsTabTask task → more ≡ events + 1 → IfSome view (IsSmall events) → told_index task ≤ events → IfSome (shown_after doc view task) (IsSmall more)
shown_small events more doc view (tasks.Populate nav state address initial) is next small told_ =
    record { numbered = omega arith; index = omega arith }
shown_small events more doc None (tasks.Activate entry epoch long at memo address) is next small told_ = tt
shown_small events more doc (Some view) (tasks.Activate entry epoch long at memo address) is next small told_ =
    let low : at ≤ events = told_ in
    record { numbered = omega (arith, small.numbered, next); index = omega (arith, low, next) }
shown_small events more doc None (tasks.Update long at) is next small told_ = tt
shown_small events more doc (Some view) (tasks.Update long at) is next small told_ =
    let low : at ≤ events = told_ in
    record { numbered = omega (arith, small.numbered, next); index = omega (arith, low, next) }
shown_small events more doc view tasks.Discard is next small told_ = tt
shown_small events more doc None tasks.Freeze is next small told_ = tt
shown_small events more doc (Some view) tasks.Freeze is next small told_ =
    record { numbered = omega (arith, small.numbered, next); index = omega (arith, small.index, next) }
shown_small events more doc None (tasks.DoFragment req mode address) is next small told_ = tt
shown_small events more doc (Some view) (tasks.DoFragment req mode address) is next small told_ = by_run view.running
  where
    -- a new entry: one number more, and an index greater by one at most
    by_way : (pushes : Bool) → IsSmall more (after_made view (new_entry view pushes None address))
    by_way true =
        record { numbered = omega (arith, small.numbered, next); index = omega (arith, small.index, next) }
    by_way false =
        record { numbered = omega (arith, small.numbered, next); index = omega (arith, small.index, next) }

    by_run : (b : Bool) → IsSmall more (after_made_if view (cond b (Some (new_entry view (not (is_fragment_replace view mode address)) None address)) None))
    by_run true = by_way (not (is_fragment_replace view mode address))
    by_run false =
        record { numbered = omega (arith, small.numbered, next); index = omega (arith, small.index, next) }
shown_small events more doc view (tasks.Ask slot cause) never next small told_ = absurd never

-- a handler slot changes no view
finish_views : (documents : List Document) (job : Job) (outcome : Outcome) (doc : DocId) → view_found (slot_finished documents (Some job) outcome) doc ≡ view_found documents doc
finish_views documents job (outcomes.Populated slot) doc =
    (faces_kept documents (slot_finished documents (Some job) (outcomes.Populated slot)) (λ other. faces_left documents other _ (leaves_if (λ d. d.nr.0 == job.doc.0) (λ d. record d { slot = slot }) (record { nr = λ d. refl; face = λ d. refl })))).views doc
finish_views documents job outcomes.Activated doc = refl
finish_views documents job outcomes.Updated doc = refl
finish_views documents job outcomes.Frozen doc = refl
finish_views documents job outcomes.Discarded doc = refl
finish_views documents job (outcomes.Asked verdict) doc = refl
finish_views documents job outcomes.Fragmented doc = refl

-- what was made joins the last report
joined_last : (made : Made) (before : List Report) (job : Job) (outcome : Outcome) → reports_joined made (before ++ told.Done job outcome None ∷ []) ≡ before ++ told.Done job outcome (Some made) ∷ []
joined_last made [] job outcome = refl
joined_last made (told.Done j o m ∷ []) job outcome = refl
joined_last made (told.Done j o m ∷ r ∷ before) job outcome =
    ap (λ (l : List Report). told.Done j o m ∷ l) (joined_last made (r ∷ before) job outcome)
joined_last made (told.Made m ∷ before) job outcome =
    ap (λ (l : List Report). told.Made m ∷ l) (joined_last made before job outcome)
joined_last made (told.Died death ∷ before) job outcome =
    ap (λ (l : List Report). told.Died death ∷ l) (joined_last made before job outcome)

-- no request ends by it
fragment_endings : (s : Seen) (order : Order) (req : ReqId) (mode : Mode) (address : List ℕ) → order.job.task ≡ tasks.DoFragment req mode address → endings (requests_finished s (Some order) outcomes.Fragmented s.requests) ≡ endings s.requests
fragment_endings s order req mode address is = by_task order.job.task is
  where
    by_task : (task : Task) → task ≡ tasks.DoFragment req mode address → endings (requests_finished s (Some (record order { job = record order.job { task = task } })) outcomes.Fragmented s.requests) ≡ endings s.requests
    by_task task same =
        rw same (left_on s.requests req (λ q. record q { is_not_found = not (is_running s order.job.doc) }) (λ q. refl))

finish_endings : (s : Seen) (order : Order) (task : Task) (outcome : Outcome) → order.job.task ≡ task → IsTabTask task → IsOutcomeOf task outcome → endings (requests_finished s (Some order) outcome s.requests) ≡ endings s.requests
finish_endings s order (tasks.Populate nav state address initial) (outcomes.Populated slot) same is its = refl
finish_endings s order (tasks.Activate entry epoch long at memo address) outcomes.Activated same is its = refl
finish_endings s order (tasks.Update long at) outcomes.Updated same is its = refl
finish_endings s order tasks.Discard outcomes.Discarded same is its = refl
finish_endings s order tasks.Freeze outcomes.Frozen same is its = refl
finish_endings s order (tasks.DoFragment req mode address) outcomes.Fragmented same is its =
    fragment_endings s order req mode address same
finish_endings s order (tasks.Ask slot cause) outcome same never its = absurd never
finish_endings s order _ _ same is its = elim its [ ]

module _ (header : Header) (log : List LogRow) (t : State) (is : IsOpen header log t) (short : length log < row_limit) (proc : ProcId) (order : Order) (hand : (desk_at t.desks proc).in_hand ≡ Some order) where
  abbrev s : Seen
  s = seen_of log

  abbrev by : Actor
  by = actors.Proc proc

  abbrev c : Coordinator
  c = t.coordinator

  held : (desk_of s proc).in_hand ≡ Some order
  held = ap (λ (x : Desk). x.in_hand) (is.holds.desks proc) ∙ hand

  -- of what is true of each order on its way, that in hand is the first
  of_hand : (P : Job → Type 0) → Each P (option_to_list (option_map (λ (x : Order). x.job) (desk_of s proc).in_hand) ++ (desk_of s proc).mail) → P order.job
  of_hand P each = by_hand (desk_of s proc).in_hand held each
    where
      by_hand : (o : Option Order) → o ≡ Some order → Each P (option_to_list (option_map (λ (x : Order). x.job) o) ++ (desk_of s proc).mail) → P order.job
      by_hand None never all = absurd cc
      by_hand (Some x) same all = subst (λ (y : Order). P y.job) (let one : x ≡ order = cc in one) all.0

  its_order : IsOrderIn s.documents s.places proc order.job
  its_order = of_hand (IsOrderIn s.documents s.places proc) ((tab header log t is).desks proc).orders

  its_sound : IsSoundTask s order.job.doc order.job.task
  its_sound = of_hand (λ (job : Job). IsSoundTask s job.doc job.task) (is.keeps.stands.but.stands.lasts.sound proc).orders

  pub its_task : IsTabTask order.job.task
  its_task = tab_task s order.job.doc order.job.task its_sound

  abbrev d : Document
  d = its_order.lives.d

  number : d.nr ≡ order.job.doc
  number = its_number s order.job.doc d its_order.lives.found

  view_was : d.view ≡ view_at t.views order.job.doc
  view_was =
      sym (ap (λ (o : Option Document). option_and_then (λ (x : Document). x.view) o) its_order.lives.found) ∙ is.holds.views order.job.doc

  -- the view that the order makes
  abbrev next_view : Option View
  next_view = shown_after order.job.doc (view_at t.views order.job.doc) order.job.task

  small : (events : ℕ) → events ≡ t.events + 1 → IfSome next_view (IsSmall events)
  small events next =
      shown_small t.events events order.job.doc (view_at t.views order.job.doc) order.job.task its_task next (is.holds.small order.job.doc) (hand_small header log t is proc order hand)

  -- ---- after the order's own row

  half_views : (outcome : Outcome) (doc : DocId) → view_in (after s (row_with s.events by (rows.Finished proc order.job.nr outcome))) doc ≡ view_found (documents_finished s.documents (Some order.job)) doc
  half_views outcome doc = rw held (finish_views (documents_finished s.documents (Some order.job)) order.job outcome doc)

  module _ (outcome : Outcome) (fits : IsFitting order.job.task outcome) (run : RunnersState) (follows : GoesWith order.job.doc order.job.task t.runners run) where
    abbrev own : RowKind
    own = rows.Finished proc order.job.nr outcome

    abbrev half : Seen
    half = after s (row_with s.events by (rows.Finished proc order.job.nr outcome))

    half_kept : Keeping header half s.events (λ p. on_proc proc (desk_finished outcome) p (desk_of s p)) (λ doc. view_found (documents_finished s.documents (Some order.job)) doc) run t.endings.items
    half_kept =
        record {
          events = refl;
          desks = λ p. desk_of-after s p s.events by own;
          views = half_views outcome;
          runners = finished_told s s.events by proc order.job.nr outcome order.job t.runners run (ap (λ (o : Option Order). option_map (λ (x : Order). x.job) o) held) is.holds.runners follows;
          endings = rw held (finish_endings s order order.job.task outcome refl its_task fits.its ∙ is.holds.endings);
          sited = rw held (finished_sited header s.documents order.job outcome is.sited);
        }

  -- ---- an order that is no fragment order

  made_view : IsNoFragment order.job.task → option_and_then (λ (x : Document). view_finished x order.job.task) (document_in s.documents order.job.doc) ≡ next_view
  made_view plain =
      ap (λ (o : Option Document). option_and_then (λ (x : Document). view_finished x order.job.task) o) its_order.lives.found
      ∙ same_view d order.job.task its_task plain
      ∙ ap (λ (n : DocId). shown_after n d.view order.job.task) number
      ∙ ap (λ (o : Option View). shown_after order.job.doc o order.job.task) view_was

  plain_gone : (outcome : Outcome) (new : State) (longer : List LogRow) → IsNoFragment order.job.task → ((dirty : Bool) → outcome ≡ outcome_of_task order.job.task dirty None) → new.coordinator ≡ t.coordinator → new.events ≡ t.events + 1 → Shows order.job.doc next_view t.views new.views → GoesWith order.job.doc order.job.task t.runners new.runners → Changes proc (λ (x : Desk). desk_with (items.Report (told.Done order.job outcome None)) (without_order x)) t.desks new.desks → new.endings.items ≡ t.endings.items → longer ≡ log ++ row_with t.events by (rows.Finished proc order.job.nr outcome) ∷ [] → (done : worked.Done) → done ≡ done_of order done.kind → done.outcome ≡ outcome → HasGone header (events.Finish proc done) replies.Finished log longer new
  plain_gone outcome new longer plain out_is coordinator events_ shows follows desks ends_ more done its same =
      gone_alone header log t is short proc (events.Finish proc done) replies.Finished own_ new longer begins refl acted kept coordinator events_ (shows_small order.job.doc next_view t.views new.views t.events new.events events_ shows (small new.events events_) is.holds.small) more
    where
      own_ : RowKind
      own_ = rows.Finished proc order.job.nr outcome

      fits : IsFitting order.job.task outcome
      fits = subst (λ (o : Outcome). IsFitting order.job.task o) (sym (out_is true)) (fitting order.job.task true its_task)

      none : made_at_end (view_at t.views order.job.doc) order.job.task ≡ None
      none = none_made (view_at t.views order.job.doc) order.job.task plain

      begins : Begins s (events.Finish proc done) replies.Finished own_ []
      begins =
          (refl, rw held (its, ap (λ (o : Outcome). rows.Finished proc order.job.nr o) (sym same), sym (ap (λ (o : Option View). rows_of_made proc (made_at_end o order.job.task)) (is.holds.views order.job.doc) ∙ ap (λ (o : Option Made). rows_of_made proc o) none)))

      acted : HasActed (event_of header log by own_) [] t.coordinator
      acted =
          finished_acts (event_of header log by own_) c (open_to header log t is by own_) proc refl order outcome held fits.its fits.bare plain refl refl refl

      kept : Keeping header (after s (row_with s.events by own_)) s.events (desk_at new.desks) (view_at new.views) new.runners new.endings.items
      kept =
          let half_ = half_kept outcome fits new.runners follows in
          record {
            events = half_.events;
            desks = λ p. half_.desks p ∙ desks_go s t.desks new.desks proc (desk_finished outcome) (λ (x : Desk). desk_with (items.Report (told.Done order.job outcome None)) (without_order x)) is.holds.desks (rw hand refl) desks p;
            views = λ doc. half_.views doc ∙ views_on s.documents order.job.doc (λ (x : Document). view_finished x order.job.task) t.views new.views next_view is.holds.views (made_view plain) shows doc;
            runners = half_.runners;
            endings = half_.endings ∙ sym ends_;
            sited = half_.sited;
          }

  -- ---- a fragment order

  module _ (req : ReqId) (mode : Mode) (address : List ℕ) (task_is : order.job.task ≡ tasks.DoFragment req mode address) where
    fragment_task : IsFragmentTask order.job.task
    fragment_task = subst IsFragmentTask (sym task_is) tt

    -- its document runs
    runs : Runs s order.job.doc
    runs =
        order_runs (event_of header log by (rows.Finished proc order.job.nr outcomes.Fragmented)) c (open_to header log t is by (rows.Finished proc order.job.nr outcomes.Fragmented)) proc order held fragment_task

    some_same : {A : Type 0} {a b : A} → (let o : Option A = Some a in o) ≡ Some b → a ≡ b
    some_same e = cc

    abbrev view : View
    view = runs.view

    view_is : view_at t.views order.job.doc ≡ Some view
    view_is =
        sym (is.holds.views order.job.doc) ∙ ap (λ (o : Option Document). option_and_then (λ (x : Document). x.view) o) runs.found ∙ runs.viewed

    of_it : view.doc ≡ order.job.doc
    of_it =
        ((tab header log t is).docs.each order.job.doc runs.d runs.found).live.viewed view runs.viewed ∙ its_number s order.job.doc runs.d runs.found

    abbrev made : Made
    made = made_for view req (fragment_of view mode address)

    makes_it : made_at_end (view_at t.views order.job.doc) order.job.task ≡ Some made
    makes_it =
        ap (λ (o : Option View). made_at_end o order.job.task) view_is
        ∙ ap (λ (k : Task). made_at_end (Some view) k) task_is
        ∙ some_made view req mode address runs.running

    -- the view after it
    abbrev then_view : View
    then_view = after_made view (fragment_of view mode address)

    next_is : next_view ≡ Some then_view
    next_is =
        ap (λ (o : Option View). shown_after order.job.doc o order.job.task) view_is
        ∙ ap (λ (k : Task). shown_after order.job.doc (Some view) k) task_is
        ∙ shown_then order.job.doc view req mode address runs.running

    fits : IsFitting order.job.task outcomes.Fragmented
    fits = subst (λ (k : Task). IsFitting k outcomes.Fragmented) (sym task_is) (record { its = tt; bare = tt })

    abbrev fin : RowKind
    fin = rows.Finished proc order.job.nr outcomes.Fragmented

    abbrev between : Seen
    between = after s (row_with s.events by (rows.Finished proc order.job.nr outcomes.Fragmented))

    -- in between the view is as it was
    was_view : option_and_then (λ (x : Document). view_finished x order.job.task) (document_in s.documents order.job.doc) ≡ view_at t.views order.job.doc
    was_view =
        ap (λ (k : Task). option_and_then (λ (x : Document). view_finished x k) (document_in s.documents order.job.doc)) task_is
        ∙ is.holds.views order.job.doc

    stays : Shows order.job.doc (view_at t.views order.job.doc) t.views t.views
    stays doc = by_test (order.job.doc.0 == doc.0) refl
      where
        by_test : (b : Bool) → (order.job.doc.0 == doc.0) ≡ b → view_at t.views doc ≡ cond b (view_at t.views order.job.doc) (view_at t.views doc)
        by_test true e =
            let n : order.job.doc.0 ≡ doc.0 = grind (arith, nat_tests, e) in
            sym (ap (λ (i : ℕ). view_at t.views (record { 0 = i })) n)
        by_test false e = refl

    same_views : (doc : DocId) → view_found (documents_finished s.documents (Some order.job)) doc ≡ view_at t.views doc
    same_views =
        views_on s.documents order.job.doc (λ (x : Document). view_finished x order.job.task) t.views t.views (view_at t.views order.job.doc) is.holds.views was_view stays

    -- the document makes its entry straight behind
    joins : follows_finished between (row_with s.events by (rows.Made proc made)) ≡ true
    joins =
        let next : ((s.events + 1) == (s.events + 1)) ≡ true = grind (arith, nat_tests) in
        rw next (ap (λ (o : Option Order). is_some (option_map (λ (x : Order). x.job) o)) held)

    abbrev told_of : Desk → Desk
    told_of x = desk_with (items.Report (told.Done order.job outcomes.Fragmented (Some made))) (without_order x)

    -- the report of it tells of that
    joined : desks_made true made (desk_finished outcomes.Fragmented (desk_at t.desks proc)) ≡ told_of (desk_at t.desks proc)
    joined =
        rw hand (ap (λ (l : List Report). let x : Desk = record (desk_at t.desks proc) { in_hand = None; reports = l } in x) (joined_last made (desk_at t.desks proc).reports order.job outcomes.Fragmented))

    desks_then : (desks : List (ProcId × Desk)) → Changes proc told_of t.desks desks → (p : ProcId) → desk_of (after between (row_with s.events by (rows.Made proc made))) p ≡ desk_at desks p
    desks_then desks changes p =
        desk_of-after between p s.events by (rows.Made proc made)
        ∙ ap (λ (b : Bool). on_proc proc (desks_made b made) p (desk_of between p)) joins
        ∙ ap (λ (x : Desk). on_proc proc (desks_made true made) p x) (desk_of-after s p s.events by fin)
        ∙ twice (proc.0 == p.0)
        ∙ desks_go s t.desks desks proc (λ (x : Desk). desks_made true made (desk_finished outcomes.Fragmented x)) told_of is.holds.desks joined changes p
      where
        twice : (b : Bool) → cond b (desks_made true made (cond b (desk_finished outcomes.Fragmented (desk_of s p)) (desk_of s p))) (cond b (desk_finished outcomes.Fragmented (desk_of s p)) (desk_of s p)) ≡ cond b (desks_made true made (desk_finished outcomes.Fragmented (desk_of s p))) (desk_of s p)
        twice true = refl
        twice false = refl

    -- its view changes by it
    made_view_then : option_and_then (λ (x : Document). option_map (λ (v : View). after_made v made.what) x.view) (document_in between.documents made.doc) ≡ Some then_view
    made_view_then =
        as_view (document_in between.documents made.doc)
        ∙ ap (λ (o : Option View). option_map (λ (v : View). after_made v made.what) o) (half_views outcomes.Fragmented made.doc ∙ same_views made.doc ∙ ap (λ (n : DocId). view_at t.views n) of_it ∙ view_is)
      where
        as_view : (o : Option Document) → option_and_then (λ (x : Document). option_map (λ (v : View). after_made v made.what) x.view) o ≡ option_map (λ (v : View). after_made v made.what) (option_and_then (λ (x : Document). x.view) o)
        as_view None = refl
        as_view (Some x) = refl

    fragment_gone : (new : State) (longer : List LogRow) → new.coordinator ≡ t.coordinator → new.events ≡ t.events + 1 → Shows order.job.doc next_view t.views new.views → GoesWith order.job.doc order.job.task t.runners new.runners → Changes proc (λ (x : Desk). desk_with (items.Report (told.Done order.job outcomes.Fragmented (Some made))) (without_order x)) t.desks new.desks → new.endings.items ≡ t.endings.items → longer ≡ log ++ row_with t.events by (rows.Finished proc order.job.nr outcomes.Fragmented) ∷ row_with t.events by (rows.Made proc made) ∷ [] → (done : worked.Done) → done ≡ done_of order done.kind → done.outcome ≡ outcomes.Fragmented → HasGone header (events.Finish proc done) replies.Finished log longer new
    fragment_gone new longer coordinator events_ shows follows desks ends_ more done its same =
        let whole : longer ≡ log ++ row_with s.events by fin ∷ row_with s.events by (rows.Made proc made) ∷ [] = more ∙ ap (λ (k : ℕ). log ++ row_with k by fin ∷ row_with k by (rows.Made proc made) ∷ []) (sym is.holds.events) in
        record {
          happened = record { own = fin; out = rows.Made proc made ∷ []; begins = begins; log = whole };
          stands = subst (λ (l : List LogRow). IsOpen header l new) (sym whole) (two_on header log t is short by fin (rows.Made proc made) new acted kept events_ (shows_small order.job.doc next_view t.views new.views t.events new.events events_ shows (small new.events events_) is.holds.small));
        }
      where
        begins : Begins s (events.Finish proc done) replies.Finished fin (rows.Made proc made ∷ [])
        begins =
            (refl, rw held (its, ap (λ (o : Outcome). rows.Finished proc order.job.nr o) (sym same), sym (ap (λ (o : Option View). rows_of_made proc (made_at_end o order.job.task)) (is.holds.views order.job.doc) ∙ ap (λ (o : Option Made). rows_of_made proc o) makes_it)))

        acted : HasActed (event_of header log by fin) (rows.Made proc made ∷ []) new.coordinator
        acted =
            subst (λ (x : Coordinator). HasActed (event_of header log by fin) (rows.Made proc made ∷ []) x) (sym coordinator) (fragment_acts (event_of header log by fin) c (open_to header log t is by fin) proc order held req mode address task_is runs.d view runs.found runs.viewed outcomes.Fragmented fits.its refl refl)

        shows_then : Shows made.doc (Some then_view) t.views new.views
        shows_then =
            subst (λ (n : DocId). Shows n (Some then_view) t.views new.views) (sym of_it) (subst (λ (o : Option View). Shows order.job.doc o t.views new.views) next_is shows)

        kept : Keeping header (after between (row_with s.events by (rows.Made proc made))) s.events (desk_at new.desks) (view_at new.views) new.runners new.endings.items
        kept =
            record {
              events = refl;
              desks = desks_then new.desks desks;
              views = views_on between.documents made.doc (λ (x : Document). option_map (λ (v : View). after_made v made.what) x.view) t.views new.views (Some then_view) (λ doc. (half_kept outcomes.Fragmented fits new.runners follows).views doc ∙ same_views doc) made_view_then shows_then;
              runners = quiet_told between s.events by (rows.Made proc made) new.runners tt tt (half_kept outcomes.Fragmented fits new.runners follows).runners;
              endings = left_on between.requests made.req _ (λ q. refl) ∙ (half_kept outcomes.Fragmented fits new.runners follows).endings ∙ sym ends_;
              sited = made_sited header between.documents made (half_kept outcomes.Fragmented fits new.runners follows).sited;
            }

  -- ---- any order

  pub finish_gone : (outcome : Outcome) (made : Option Made) (new : State) (longer : List LogRow) → IsWorkedOutcome order outcome → made ≡ made_at_end (view_at t.views order.job.doc) order.job.task → new.coordinator ≡ t.coordinator → new.events ≡ t.events + 1 → Shows order.job.doc next_view t.views new.views → GoesWith order.job.doc order.job.task t.runners new.runners → Changes proc (λ (x : Desk). desk_with (items.Report (told.Done order.job outcome made)) (without_order x)) t.desks new.desks → new.endings.items ≡ t.endings.items → longer ≡ log ++ row_with t.events by (rows.Finished proc order.job.nr outcome) ∷ map (row_with t.events by) (rows_of_made proc made) → (done : worked.Done) → done ≡ done_of order done.kind → done.outcome ≡ outcome → HasGone header (events.Finish proc done) replies.Finished log longer new
  finish_gone outcome made new longer worked_ made_is coordinator events_ shows follows desks ends_ more done its same = by_task order.job.task refl
    where
      out_is : (dirty : Bool) → outcome ≡ outcome_of_task order.job.task dirty None
      out_is dirty = worked_.is ∙ bare_outcome order.job.task order.dirty dirty worked_.kind its_task

      plain : IsNoFragment order.job.task → HasGone header (events.Finish proc done) replies.Finished log longer new
      plain is_plain =
          let none : made ≡ None = made_is ∙ none_made (view_at t.views order.job.doc) order.job.task is_plain in
          plain_gone outcome new longer is_plain out_is coordinator events_ shows follows
          (subst (λ (m : Option Made). Changes proc (λ (x : Desk). desk_with (items.Report (told.Done order.job outcome m)) (without_order x)) t.desks new.desks) none desks) ends_
          (more ∙ ap (λ (m : Option Made). log ++ row_with t.events by (rows.Finished proc order.job.nr outcome) ∷ map (row_with t.events by) (rows_of_made proc m)) none) done its same

      by_task : (task : Task) → order.job.task ≡ task → HasGone header (events.Finish proc done) replies.Finished log longer new
      by_task (tasks.DoFragment req mode address) e =
          let some : made ≡ Some (made_for (runs req mode address e).view req (fragment_of (runs req mode address e).view mode address)) = made_is ∙ makes_it req mode address e in
          let out : outcome ≡ outcomes.Fragmented = out_is true ∙ ap (λ (k : Task). outcome_of_task k true None) e in
          fragment_gone req mode address e new longer coordinator events_ shows follows
          (subst (λ (o : Outcome). Changes proc (λ (x : Desk). desk_with (items.Report (told.Done order.job o (Some (made_for (runs req mode address e).view req (fragment_of (runs req mode address e).view mode address))))) (without_order x)) t.desks new.desks) out (subst (λ (m : Option Made). Changes proc (λ (x : Desk). desk_with (items.Report (told.Done order.job outcome m)) (without_order x)) t.desks new.desks) some desks)) ends_
          (more ∙ ap (λ (m : Option Made). log ++ row_with t.events by (rows.Finished proc order.job.nr outcome) ∷ map (row_with t.events by) (rows_of_made proc m)) some ∙ ap (λ (o : Outcome). log ++ row_with t.events by (rows.Finished proc order.job.nr o) ∷ row_with t.events by (rows.Made proc (made_for (runs req mode address e).view req (fragment_of (runs req mode address e).view mode address))) ∷ []) out) done its (same ∙ out)
      by_task (tasks.Populate nav state address initial) e = plain (subst IsNoFragment (sym e) tt)
      by_task (tasks.Activate entry epoch long at memo address) e = plain (subst IsNoFragment (sym e) tt)
      by_task (tasks.Update long at) e = plain (subst IsNoFragment (sym e) tt)
      by_task tasks.Freeze e = plain (subst IsNoFragment (sym e) tt)
      by_task tasks.Discard e = plain (subst IsNoFragment (sym e) tt)
      by_task (tasks.Ask slot cause) e = plain (subst IsNoFragment (sym e) tt)
