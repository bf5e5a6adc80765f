-- Once the document of a load that has passed its check is being made the tab is as it was before: at rest, or between two parts of a pass, or where one may follow.
use Rattle.load_passed.proofs.Follows as follows
use Rattle.load_passed.proofs.Kept as kept
use Rattle.load_passed.proofs.Lives as lives
use Rattle.load_passed.proofs.Makes as makes
use Rattle.load_passed.proofs.Opening as opening
use Rattle.load_passed.proofs.Sent as sent
use Rattle.load_passed.proofs.Sent.{order_of}
use Rattle.load_passed.proofs.Settled as settled
use Rattle.load_passed.specs.Passing.{InLoadPass, IsPastLoad, IsToMake, WasCleared, WasReady, WasSettled, WasTaken}
use Rattle.log_model.specs.ActsAtOnce.{ends_told}
use Rattle.log_model.specs.Seen.{Seen}
use Rattle.log_model.specs.declared.job.Job.{Job}
use Rattle.log_model.specs.declared.job.Task.TheVariants as tasks
use Rattle.log_model.specs.declared.job.Why.TheVariants as whys
use Rattle.log_model.specs.declared.job.Why.{Why}
use Rattle.log_model.specs.declared.row_kind.RowKind.TheVariants as rows
use Rattle.log_model.specs.declared.row_kind.RowKind.{RowKind}
use Rattle.seen_facts.proofs.Coord.Unread.{next}
use Rattle.seen_facts.specs.Asked.Asking.{ArePlain}
use Rattle.seen_facts.specs.Hang.Members.{Has}
use Rattle.seen_facts.specs.LoadEnds.Standing.{LoadsStand}
use Rattle.seen_facts.specs.Walk.Serving.{AreServed}
use Rattle.seen_laws.specs.InEvent.{now_of}
use Rattle.std.proofs.Common.{List, Option, Some, [], false, inl, inr, refl, subst, sym, true, ◌+◌, ◌∙◌, ◌∷◌, ◌≡◌, ◌⊎◌}
use Rattle.tab_doors.specs.Orders.{next_order}
use Rattle.tab_doors.specs.Working.{IsAtWork, KeepsStore}
use Rattle.tab_doors.specs.declared.tables.Tables.{Tables}
use Rattle.tab_facts.specs.FrameWhole.Tab.{AreAwakeWithRows}
use Rattle.tab_facts.specs.TabEvents.Between.{AreSwept, orders_go}
use Rattle.tab_ids.specs.declared.ProcId.{ProcId}
use Rattle.tab_ids.specs.declared.ReqId.{ReqId}
use Rattle.tab_loads.proofs.Leaving.{taken_but, taking_by}
use Rattle.tab_moves.specs.Making.{home_in}
use Rattle.tab_one_pass.specs.Passing.{AreLeftStrays, HasPassed, IsOpen}
use Rattle.tab_passes.specs.Causes.{MayCause}
use Rattle.tab_settles.specs.Settling.{FreesVisited}
use Rattle.tab_settles.proofs.Sweeps.{swept_or}
use Rattle.tab_settles.specs.Held.{HasCleared}
use Rattle.tab_settles.specs.PassedOn.{AreBlamed, IsTaking, LoadsLive, MayStand}
use Rattle.tab_settles.specs.Settling.{HasSettled, IsCalmAfter, IsCalmBefore, IsOrderOrDrop, IsReady, MakesServe, OrdersAreSound}
use Rattle.tab_stands.proofs.PassedOn.{put_makes, put_sound}
use Rattle.tab_stands.proofs.Ready.{calm_before}

module _ (l : InLoadPass) (u : Tables) (it : IsToMake l u) (proc : ProcId) (home : home_in l.event.header u l.nav l.address ≡ Some proc) (y : Tables) (last : List RowKind) (work_y : IsAtWork l.event last y) (last_is : last ≡ rows.Sent (order_of l u proc) ∷ []) (keeps_y : KeepsStore u y) where
  abbrev s : Seen
  s = l.before

  abbrev order : Job
  order =
      next_order (now_of l.event []).jobs proc (record { 0 = u.documents + 1 }) (whys.Req l.req) (tasks.Populate l.nav l.state l.address false)

  abbrev fin : Seen
  fin = next (now_of l.event []) l.event.event l.event.actor (rows.Sent order)

  is_fin : now_of l.event last ≡ fin
  is_fin = sent.is_fin l u it proc home y last work_y last_is keeps_y

  at_last : (P : Seen → Type 0) → P fin → P (now_of l.event last)
  at_last P is = subst P (sym is_fin) is

  -- the same traversal runs, if one does
  over : (P : Option ReqId → Seen → Type 0) → P u.running fin → P y.running (now_of l.event last)
  over P is = subst (λ (r : Option ReqId). P r (now_of l.event last)) (sym keeps_y.running) (at_last (P u.running) is)

  live_fin : LoadsLive fin
  live_fin = lives.live_fin l u it proc home y last work_y last_is keeps_y

  -- an order was put out
  swept_last : AreSwept (now_of l.event last) ⊎ (orders_go (now_of l.event last) ≡ true)
  swept_last =
      swept_or l.event [] last (record { more = last; is = refl; each = order_each }) (λ doc d found stray. record { before = []; job = order; later = []; is = last_is })
    where
      order_each : (kind : RowKind) → Has last kind → IsOrderOrDrop kind
      order_each = subst (λ (o : List RowKind). (kind : RowKind) → Has o kind → IsOrderOrDrop kind) (sym last_is) each
        where
          each : (kind : RowKind) → (rows.Sent order ≡ kind) ⊎ ⊥ → IsOrderOrDrop kind
          each kind (inl same) = subst (λ (k : RowKind). IsOrderOrDrop k) same refl
          each kind (inr never) = absurd never

  -- ---- at rest

  settled_last : (cause : Why) → MayCause (now_of l.event last) cause → WasSettled l u.running → HasSettled (record { event = l.event; loads = l.loads; hand = [] }) last y l.queue l.noted cause
  settled_last cause may was =
      record {
        passing = sent.passing_fin l u it proc home y last work_y last_is keeps_y;
        empty = refl;
        header = keeps_y.keep ∙ it.header;
        may = may;
        passed = at_last (λ (x : Seen). HasPassed l.event x) (settled.passed_fin l u it proc home y last work_y last_is keeps_y was.passed);
        strays = at_last (λ (x : Seen). AreLeftStrays x l.noted) (settled.strays_fin l u it proc home y last work_y last_is keeps_y was.strays);
        served = at_last (λ (x : Seen). AreServed x) (settled.served_fin l u it proc home y last work_y last_is keeps_y was.served);
        told = at_last (λ (x : Seen). ends_told x ≡ true) (settled.told_fin l u it proc home y last work_y last_is keeps_y was.told);
        swept = swept_last;
        calm = over IsCalmAfter (settled.calm_fin l u it proc home y last work_y last_is keeps_y u.running was.calm);
        late = follows.late_last l u it proc home y last work_y last_is keeps_y;
        moved = follows.moved_last l u it proc home y last work_y last_is keeps_y;
        live = at_last (λ (x : Seen). LoadsLive x) live_fin;
        theirs = follows.theirs_last l u it proc home y last work_y last_is keeps_y;
        queueing = follows.queueing_last l u it proc home y last work_y last_is keeps_y;
      }

  -- ---- a pass may follow

  ready_last : (cause : Why) → WasReady l u.running cause → IsReady (record { event = l.event; loads = l.loads; hand = [] }) last y l.queue l.noted cause
  ready_last cause was =
      record {
        passing = sent.passing_fin l u it proc home y last work_y last_is keeps_y;
        empty = refl;
        header = keeps_y.keep ∙ it.header;
        open_ = over (λ (r : Option ReqId) (x : Seen). IsOpen l.event r cause x) (opening.open_fin l u it proc home y last work_y last_is keeps_y u.running cause was.open_);
        loads = over MayStand (opening.may_stand_fin l u it proc home y last work_y last_is keeps_y u.running was.loads);
        frees = at_last (λ (x : Seen). FreesVisited l.event x) (opening.frees_fin l u it proc home y last work_y last_is keeps_y was.frees);
        blamed = at_last (λ (x : Seen). AreBlamed x l.noted) (lives.blamed_fin l u it proc home y last work_y last_is keeps_y was.blamed);
        calm = over (λ (r : Option ReqId) (x : Seen). IsCalmBefore r cause x) (opening.calm_before_fin l u it proc home y last work_y last_is keeps_y u.running cause was.calm);
        late = follows.late_last l u it proc home y last work_y last_is keeps_y;
        moved = follows.moved_last l u it proc home y last work_y last_is keeps_y;
        live = at_last (λ (x : Seen). LoadsLive x) live_fin;
        theirs = follows.theirs_last l u it proc home y last work_y last_is keeps_y;
        queueing = follows.queueing_last l u it proc home y last work_y last_is keeps_y;
      }

  -- ---- up to its walk

  cleared_last : (cause : Why) → WasCleared l u.running cause → HasCleared false (record { event = l.event; loads = l.loads; hand = [] }) last y l.queue l.noted cause
  cleared_last cause was =
      record {
        ready = ready_last cause was.ready;
        stand = at_last LoadsStand (settled.stand_fin l u it proc home y last work_y last_is keeps_y was.stand);
        rows_ = at_last AreAwakeWithRows (settled.rows_fin l u it proc home y last work_y last_is keeps_y was.rows_);
        strays = at_last (λ (x : Seen). AreLeftStrays x l.noted) (settled.strays_fin l u it proc home y last work_y last_is keeps_y was.strays);
        swept = swept_last;
      }

  -- ---- behind the event's own row

  taken_last : WasTaken l u.running → IsReady (record { event = l.event; loads = l.loads; hand = [] }) last y l.queue l.noted (whys.Req l.req)
  taken_last was =
      record {
        passing = sent.passing_fin l u it proc home y last work_y last_is keeps_y;
        empty = refl;
        header = keeps_y.keep ∙ it.header;
        open_ = taken.open_ (whys.Req l.req) (follows.causes_last l u it proc home y last work_y last_is keeps_y);
        loads = taken.loads;
        frees = at_last (λ (x : Seen). FreesVisited l.event x) (opening.frees_fin l u it proc home y last work_y last_is keeps_y was.frees);
        blamed = taken.blamed;
        calm = calm_before y.running (whys.Req l.req) (now_of l.event last) taken.calm taken.unmoved taken.rooted;
        late = follows.late_last l u it proc home y last work_y last_is keeps_y;
        moved = follows.moved_last l u it proc home y last work_y last_is keeps_y;
        live = taken.live;
        theirs = follows.theirs_last l u it proc home y last work_y last_is keeps_y;
        queueing = follows.queueing_last l u it proc home y last work_y last_is keeps_y;
      }
    where
      plain_s : ArePlain u.running s
      plain_s =
          subst (λ (r : Option ReqId). ArePlain r s) (sym (makes.run_same l u it)) it.unbegun.going.tab.asked

      plain_fin : ArePlain u.running fin
      plain_fin = (sent.going_fin l u it proc home y last work_y last_is keeps_y).tab.asked

      taken : IsTaking l.event y.running l.noted (now_of l.event last)
      taken =
          over (λ (r : Option ReqId) (x : Seen). IsTaking l.event r l.noted x)
          (taking_by l.event u.running s fin (taken_but l.event u.running l.noted s was.taken) plain_s plain_fin it.unbegun.going.tab.homes (kept.most l u it proc home y last work_y last_is keeps_y) (kept.fresh_or_old l u it proc home y last work_y last_is keeps_y) l.noted (lives.blamed_fin l u it proc home y last work_y last_is keeps_y was.taken.blamed) live_fin)

  -- ---- all of it

  pub past_last : IsPastLoad l y last
  past_last =
      record {
        makes_it = record { job = order; task = refl; why = refl; is = last_is };
        own = follows.causes_last l u it proc home y last work_y last_is keeps_y;
        causes = λ why may. at_last (λ (x : Seen). MayCause x why) (kept.causes_fin l u it proc home y last work_y last_is keeps_y why may);
        settled = λ cause may was. settled_last cause may (subst (λ (r : Option ReqId). WasSettled l r) keeps_y.running was);
        ready = λ cause was. ready_last cause (subst (λ (r : Option ReqId). WasReady l r cause) keeps_y.running was);
        cleared = λ cause was. cleared_last cause (subst (λ (r : Option ReqId). WasCleared l r cause) keeps_y.running was);
        taken = λ was. taken_last (subst (λ (r : Option ReqId). WasTaken l r) keeps_y.running was);
        put = follows.put_last l u it proc home y last work_y last_is keeps_y;
        loose = sent.loose_fin l u it proc home y last work_y last_is keeps_y;
        makes = put_makes l.event y.running [] last (sent.passing_fin l u it proc home y last work_y last_is keeps_y).work.goes (sent.passing_fin l u it proc home y last work_y last_is keeps_y).going.tab.asked (follows.put_last l u it proc home y last work_y last_is keeps_y) (makes.at_now l u it (λ (x : Seen). MakesServe x) (follows.makes_then l u it proc home y last work_y last_is keeps_y));
        sound = put_sound l.event [] last (sent.passing_fin l u it proc home y last work_y last_is keeps_y).work.goes (follows.put_last l u it proc home y last work_y last_is keeps_y) (makes.at_now l u it (λ (x : Seen). OrdersAreSound x) (follows.sound_then l u it proc home y last work_y last_is keeps_y));
      }
