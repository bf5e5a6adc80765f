-- A pass may follow once the document of a load that has passed its check is being made.
use Rattle.load_passed.proofs.Begun as begun
use Rattle.load_passed.proofs.Kept as kept
use Rattle.load_passed.proofs.Makes as makes
use Rattle.load_passed.proofs.Queues as queues
use Rattle.load_passed.proofs.Sent as sent
use Rattle.load_passed.proofs.Sent.{order_of}
use Rattle.load_passed.specs.Passing.{InLoadPass, IsToMake}
use Rattle.log_model.specs.Equal.{has_req}
use Rattle.log_model.specs.History.{History}
use Rattle.log_model.specs.Places.{aim_of, all_stand, all_stand_in}
use Rattle.log_model.specs.Queue.{is_traverse}
use Rattle.log_model.specs.Seen.{Asked, Place, Seen, request_in}
use Rattle.log_model.specs.declared.job.Job.{Job}
use Rattle.log_model.specs.declared.job.Task.TheVariants as tasks
use Rattle.log_model.specs.declared.job.Why.TheVariants as whys
use Rattle.log_model.specs.declared.row_kind.RowKind.TheVariants as rows
use Rattle.log_model.specs.declared.row_kind.RowKind.{RowKind}
use Rattle.row_facts.specs.FrameRows.Lawful.{has_traversed}
use Rattle.seen_facts.proofs.Coord.Unread.{next}
use Rattle.seen_facts.specs.Coord.Leading.{held_back}
use Rattle.seen_facts.specs.Hang.Members.{Has}
use Rattle.seen_laws.specs.InEvent.{now_of, row_of}
use Rattle.std.proofs.Common.{List, Option, Some, [], ap, false, inl, inr, length, map, refl, subst, sym, ℕ, ◌+◌, ◌∙◌, ◌∷◌, ◌≡◌, ◌⊎◌}
use Rattle.std.proofs.lemmas.List.Folds.{list_any-append}
use Rattle.std.specs.Prelude.{option_map}
use Rattle.tab_doors.specs.Orders.{next_order}
use Rattle.tab_doors.specs.Working.{IsAtWork, KeepsStore}
use Rattle.tab_doors.specs.declared.tables.Tables.{Tables}
use Rattle.tab_facts.proofs.Order.Rows.{orders_on}
use Rattle.tab_facts.specs.Frame.Lasting.{wish}
use Rattle.tab_facts.specs.Order.Orders.{IsOfCoord}
use Rattle.tab_ids.specs.declared.ProcId.{ProcId}
use Rattle.tab_ids.specs.declared.ReqId.{ReqId}
use Rattle.tab_loads.proofs.Gives.{theirs_more}
use Rattle.tab_moves.specs.Making.{home_in}
use Rattle.tab_passes.specs.Causes.{MayCause, MayServe}
use Rattle.tab_passes.specs.Passing.{IsPassing}
use Rattle.tab_stands.proofs.PassedOn.{IsUnapplied, IsUnmoving, late_put, queue_over, shown_put, sound_on, waiting_on}
use Rattle.tab_settles.specs.Settling.{IsPlainTask}
use Rattle.tab_stands.specs.PassedOn.{HasPut, HasQueue, IsMake, IsQueueing, LateKnown, LoadsMadeOwn, MakesServe, MayRelease, MovedAreShown, OrdersAreSound}
use Rattle.unasked_tab.proofs.Begun.{with_begun}

module _ (l : InLoadPass) (u : Tables) (it : IsToMake l u) (proc : ProcId) (home : home_in l.event.header u l.nav l.address ≡ Some proc) (y : Tables) (last : List RowKind) (work_y : IsAtWork l.event last y) (last_is : last ≡ rows.Sent (order_of l u proc) ∷ []) (keeps_y : KeepsStore u y) where
  abbrev s : Seen
  s = l.before

  abbrev m : Seen
  m = now_of l.event []

  abbrev then_ : Seen
  then_ = with_begun l.before l.req it.q

  abbrev order : Job
  order =
      next_order (now_of l.event []).jobs proc (record { 0 = u.documents + 1 }) (whys.Req l.req) (tasks.Populate l.nav l.state l.address false)

  abbrev fin : Seen
  fin = next (now_of l.event []) l.event.event l.event.actor (rows.Sent order)

  is_fin : now_of l.event last ≡ fin
  is_fin = sent.is_fin l u it proc home y last work_y last_is keeps_y

  run_y : y.running ≡ it.t.running
  run_y = sent.run_y l u it proc home y last work_y last_is keeps_y

  passing_fin : IsPassing (record { event = l.event; loads = l.loads; hand = [] }) last y
  passing_fin = sent.passing_fin l u it proc home y last work_y last_is keeps_y

  pub theirs_last : LoadsMadeOwn (now_of l.event last)
  theirs_last =
      subst (λ (x : Seen). LoadsMadeOwn x) (sym is_fin) (theirs_more s fin (kept.reads_on l u it proc home y last work_y last_is keeps_y wish (λ x. refl)) (kept.found_more l u it proc home y last work_y last_is keeps_y) it.beside.theirs)

  pub causes_last : MayCause (now_of l.event last) (whys.Req l.req)
  causes_last =
      subst (λ (x : Seen). MayCause x (whys.Req l.req)) (sym is_fin) (λ r is. (let one : l.req ≡ r = cc in subst (λ (k : ReqId). MayServe fin k) one (kept.own_serves l u it proc home y last work_y last_is keeps_y)))

  -- ---- the row

  pub quiet : (kind : RowKind) → Has last kind → IsUnmoving kind × IsUnapplied kind
  quiet = subst (λ (o : List RowKind). (kind : RowKind) → Has o kind → IsUnmoving kind × IsUnapplied kind) (sym last_is) each
    where
      each : (kind : RowKind) → (rows.Sent order ≡ kind) ⊎ ⊥ → IsUnmoving kind × IsUnapplied kind
      each kind (inl same) = subst (λ (k : RowKind). IsUnmoving k × IsUnapplied k) same (tt, tt)
      each kind (inr never) = absurd never

  pub put_last : HasPut l.event [] last
  put_last = record { more = last; is = refl; each = each; plain = plain; makes = makes_ }
    where
      only : (P : RowKind → Type 0) → P (rows.Sent order) → (kind : RowKind) → Has last kind → P kind
      only P is = subst (λ (o : List RowKind). (kind : RowKind) → Has o kind → P kind) (sym last_is) by_place
        where
          by_place : (kind : RowKind) → (rows.Sent order ≡ kind) ⊎ ⊥ → P kind
          by_place kind (inl same) = subst P same is
          by_place kind (inr never) = absurd never

      each : (row : RowKind) → Has last row → IsOfCoord row
      each = only IsOfCoord tt

      sent_plain : RowKind → Type 0
      sent_plain kind = (job : Job) → kind ≡ rows.Sent job → IsPlainTask job.task

      sent_makes : RowKind → Type 0
      sent_makes kind = (job : Job) → kind ≡ rows.Sent job → MayCause (now_of l.event last) job.why

      plain : (job : Job) → Has last (rows.Sent job) → IsPlainTask job.task
      plain job has = only sent_plain (λ j same. (let one : order ≡ j = cc in subst (λ (k : Job). IsPlainTask k.task) one tt)) (rows.Sent job) has job refl

      makes_ : (job : Job) → Has last (rows.Sent job) → IsMake job.task → MayCause (now_of l.event last) job.why
      makes_ job has made = only sent_makes (λ j same. (let one : order ≡ j = cc in subst (λ (k : Job). MayCause (now_of l.event last) k.why) one causes_last)) (rows.Sent job) has job refl

  -- ---- what is as it was as the load began

  places_last : (now_of l.event last).places ≡ (now_of l.event []).places
  places_last = ap (λ (x : Seen). x.places) is_fin

  history_last : (now_of l.event last).history ≡ (now_of l.event []).history
  history_last = ap (λ (x : Seen). x.history) is_fin

  parked_last : (now_of l.event last).parked ≡ (now_of l.event []).parked
  parked_last = ap (λ (x : Seen). x.parked) is_fin

  requests_last : (now_of l.event last).requests ≡ (now_of l.event []).requests
  requests_last = ap (λ (x : Seen). x.requests) is_fin

  moved : MovedAreShown u.running (now_of l.event [])
  moved =
      subst (λ (r : Option ReqId). MovedAreShown r (now_of l.event [])) (sym (makes.run_same l u it)) (makes.at_now l u it (λ (x : Seen). MovedAreShown it.t.running x) (begun.moved_shown l it.loads s it.t it.p it.unbegun it.q it.starts it.state_is it.replaces it.beside.moved))

  late : LateKnown u.running (now_of l.event [])
  late =
      subst (λ (r : Option ReqId). LateKnown r (now_of l.event [])) (sym (makes.run_same l u it)) (makes.at_now l u it (λ (x : Seen). LateKnown it.t.running x) (begun.late_known l it.loads s it.t it.p it.unbegun it.q it.starts it.state_is it.replaces it.beside.late))

  pub moved_last : MovedAreShown y.running (now_of l.event last)
  moved_last =
      subst (λ (r : Option ReqId). MovedAreShown r (now_of l.event last)) (sym keeps_y.running) (shown_put l.event u.running [] last passing_fin.work.goes (record { more = last; is = refl; each = λ kind has. (quiet kind has).0 }) places_last moved)

  pub late_last : LateKnown y.running (now_of l.event last)
  late_last =
      subst (λ (r : Option ReqId). LateKnown r (now_of l.event last)) (sym keeps_y.running) (late_put l.event u.running [] last passing_fin.work.goes (record { more = last; is = refl; each = λ kind has. (quiet kind has).1 }) places_last history_last late)

  -- ---- what waits, and what is held back

  abbrev first : IsQueueing (record { event = l.event; loads = l.loads; hand = [] }) [] u l.queue
  first = it.queueing

  -- the aim is as it was
  aim_last : aim_of (now_of l.event last) ≡ aim_of (now_of l.event [])
  aim_last =
      ap (λ (x : Seen). aim_of x) is_fin
      ∙ kept.aim_fin l u it proc home y last work_y last_is keeps_y
      ∙ sym (begun.aim_then l it.loads l.before it.t it.p it.unbegun it.q it.starts it.state_is it.replaces)
      ∙ sym (ap (λ (x : Seen). aim_of x) it.now)

  stood : all_stand (now_of l.event last) (aim_of (now_of l.event last)) ≡ all_stand m (aim_of m)
  stood =
      ap (λ (k : ℕ). all_stand (now_of l.event last) k) aim_last
      ∙ ap (λ (h : History). all_stand_in h.rows (now_of l.event last).places (aim_of m)) history_last
      ∙ ap (λ (p : List Place). all_stand_in m.history.rows p (aim_of m)) places_last

  traversed : has_traversed l.event last ≡ has_traversed l.event []
  traversed =
      ap (λ (o : List RowKind). has_traversed l.event o) last_is
      ∙ list_any-append is_traverse (map (row_of l.event) l.event.before) (row_of l.event (rows.Sent order) ∷ [])
      ∙ sym (list_any-append is_traverse (map (row_of l.event) l.event.before) [])

  queued_last : HasQueue (now_of l.event last) y.running l.queue.waiting
  queued_last =
      subst (λ (x : Seen). HasQueue x y.running l.queue.waiting) (sym is_fin)
      (subst (λ (r : Option ReqId). HasQueue fin r l.queue.waiting) (sym run_y) (queue_over s fin (queues.left_fin l u it proc home y last work_y last_is keeps_y) it.t.running l.queue.waiting it.beside.queued))

  releases : MayRelease l.event [] → MayRelease l.event last
  releases may =
      record {
        by_coord = may.by_coord;
        takes = may.takes;
        many = ap (λ (r : List Asked). length r) requests_last ∙ may.many;
        old = λ r has. may.old r (ap (λ (p : List ReqId). has_req p r) (sym parked_last) ∙ has);
      }

  pub queueing_last : IsQueueing (record { event = l.event; loads = l.loads; hand = [] }) last y l.queue
  queueing_last =
      record {
        waits = waiting_on l.event [] last (inl parked_last) (λ r. ap (λ (a : List Asked). option_map wish (request_in a r)) requests_last) (λ r joined. ap (λ (x : List ReqId). has_req x r) (sym (ap (λ (x : Seen). x.joined) is_fin)) ∙ joined) first.waits;
        queued = queued_last;
        parked = first.parked ∙ ap (λ (a : List Asked). held_back a m.parked) (sym requests_last) ∙ ap (λ (p : List ReqId). held_back (now_of l.event last).requests p) (sym parked_last);
        held = λ none. parked_last ∙ first.held (sym keeps_y.running ∙ none);
        over = λ has. parked_last ∙ first.over (sym traversed ∙ has);
        releasing = λ some all. releases (first.releasing (λ none. some (parked_last ∙ none)) (sym stood ∙ all));
      }

  -- ---- orders on their way

  pub makes_then : MakesServe (with_begun l.before l.req it.q)
  makes_then =
      orders_on (λ (job : Job). IsMake job.task → MayCause s job.why) (λ (job : Job). IsMake job.task → MayCause then_ job.why) s (λ job its made. begun.causes_then l it.loads s it.t it.p it.unbegun it.q it.starts it.state_is it.replaces job.why (its made)) it.beside.makes

  pub sound_then : OrdersAreSound (with_begun l.before l.req it.q)
  sound_then = sound_on s then_ (begun.whats_then l it.loads s it.t it.p it.unbegun it.q it.starts it.state_is it.replaces) it.beside.sound
