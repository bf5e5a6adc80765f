-- A pass may follow once the document of a load that has begun is being made.
use Rattle.std.specs.List.{list_any}
use Rattle.log_model.specs.Queue.{is_traverse}
use Rattle.seen_facts.specs.Asked.Asking.{ArePlain}
use Rattle.seen_facts.proofs.Coord.Unread.{next}
use Rattle.tab_facts.specs.Frame.Lasting.{wish}
use Rattle.row_facts.specs.FrameRows.Lawful.{has_traversed}
use Rattle.seen_facts.specs.Hang.Members.{Has}
use Rattle.row_facts.specs.LoadRows.Beginning.{is_to_fragment}
use Rattle.log_model.specs.Places.{aim_of}
use Rattle.log_model.specs.Seen.{Asked, Document, Place, Seen, document_of, place_of}
use Rattle.log_model.specs.declared.job.Job.{Job}
use Rattle.log_model.specs.declared.row_kind.RowKind.{RowKind}
use Rattle.seen_facts.proofs.Request.Readers.{SameReads, reads_then}
use Rattle.seen_laws.specs.InEvent.{now_of, row_of}
use Rattle.std.proofs.Common.{List, None, Option, Some, [], ap, append_assoc, false, inl, inr, refl, subst, sym, ℕ, ◌++◌, ◌+◌, ◌∙◌, ◌∷◌, ◌≡◌, ◌⊎◌, map}
use Rattle.tab_doors.specs.Orders.{next_order}
use Rattle.tab_doors.specs.Working.{IsAtWork, KeepsRun, KeepsStore}
use Rattle.tab_doors.specs.declared.tables.Tables.{Tables}
use Rattle.tab_drops.proofs.Loads.{load_held}
use Rattle.tab_drops.proofs.Turns.{tied_load}
use Rattle.tab_drops.specs.Dropping.{AreUnheld}
use Rattle.tab_facts.specs.TabGoing.Going.{IsGoing}
use Rattle.tab_ids.specs.declared.DocId.{DocId}
use Rattle.tab_ids.specs.declared.NavId.{NavId}
use Rattle.tab_ids.specs.declared.ProcId.{ProcId}
use Rattle.tab_ids.specs.declared.ReqId.{ReqId}
use Rattle.tab_ids.specs.declared.StateId.{StateId}
use Rattle.tab_loads.proofs.Comes.{all, pass, place, placed}
use Rattle.tab_loads.proofs.Cuts.{first_pass}
use Rattle.tab_loads.proofs.Firsts.{q}
use Rattle.tab_loads.proofs.Gives.{IsMadeWay, theirs_more}
use Rattle.tab_loads.proofs.Leaving.{IsFresh, LeavesMost, taking_by}
use Rattle.tab_loads.proofs.Orders.{order_of}
use Rattle.tab_loads.proofs.Readies.{queueing_then}
use Rattle.tab_loads.specs.Asking.{BeginsAnew, HasCome, InLoad, IsAsked}
use Rattle.tab_loads.specs.Giving.{HasDropped, HasMadeWay, HasNone}
use Rattle.tab_loads.specs.Loading.{HasGivenWay, HasLoadBegun, pass_of}
use Rattle.tab_loads.specs.Telling.{away_in}
use Rattle.tab_loads.specs.declared.loaded.Loaded.TheVariants.{Begun}
use Rattle.tab_moves.specs.Making.{home_in}
use Rattle.tab_passes.specs.Causes.{MayCause}
use Rattle.tab_passes.specs.Passing.{IsPassing}
use Rattle.tab_stands.proofs.PassedOn.{IsUnapplied, IsUnmoving, late_put, leaves_then, shown_put}
use Rattle.tab_stands.proofs.Ready.{calm_before, frees_open}
use Rattle.tab_stands.specs.PassedOn.{AreBlamed, IsLoadOf as LoadOf, IsReady, IsTaking, LateKnown, LeavesQueue, LoadsLive, LoadsMadeOwn, MovedAreShown, NoneRunsWhileHeld}
use Rattle.tab_turns.proofs.Turned.{causes_on}
use Rattle.log_model.specs.declared.job.Task.TheVariants as tasks
use Rattle.log_model.specs.declared.job.Why.TheVariants as whys
use Rattle.log_model.specs.declared.outcome.Cause.TheVariants as drops
use Rattle.log_model.specs.declared.row_kind.RowKind.TheVariants as rows
use Rattle.tab_loads.proofs.Begun as begun
use Rattle.tab_loads.proofs.Kept as kept
use Rattle.tab_loads.proofs.Lives as lives
use Rattle.tab_loads.proofs.Makes as makes
use Rattle.tab_loads.proofs.Queues as queues
use Rattle.tab_loads.proofs.Sent as sent
use Rattle.tab_loads.proofs.Starts as starts

module _ (l : InLoad) (t : Tables) (asked : IsAsked l t) (placed_ : away_in t l.nav ≡ None) (anew_ : BeginsAnew l t) (noted : List (StateId × ReqId)) (v : Tables) (out : List RowKind) (way : HasMadeWay l.event l.req l.nav t v out l.noted noted) (w : Tables) (now : List RowKind) (work : IsAtWork l.event now w) (now_is : now ≡ out ++ rows.Started l.req None ∷ []) (keeps : KeepsStore v w) (proc : ProcId) (home : home_in l.event.header w l.nav l.address ≡ Some proc) (y : Tables) (last : List RowKind) (work_y : IsAtWork l.event last y) (last_is : last ≡ now ++ rows.Sent (order_of l w now proc) ∷ []) (keeps_y : KeepsStore w y) where
  abbrev s : Seen
  s = now_of l.event []

  abbrev n : Seen
  n = now_of l.event out

  abbrev own : Asked
  own = q l.event l.req l.nav l.mode l.address asked.asks

  abbrev unheld : AreUnheld l.event s
  unheld = starts.unheld l t asked placed_ anew_ noted v out way

  abbrev made : IsMadeWay l.event l.req l.nav l.mode l.address asked.asks t (pass l t asked) unheld l.noted asked.begun.taking asked.begun.theirs n out noted
  made = starts.made l t asked placed_ anew_ noted v out way

  abbrev runs_on : KeepsRun t v
  runs_on = starts.runs_on l t asked placed_ anew_ noted v out way

  abbrev own_place : Place
  own_place = place l t asked

  abbrev there : place_of n l.nav ≡ Some own_place
  there = starts.there l t asked placed_ anew_ noted v out way

  abbrev anew_there : is_to_fragment s l.address own_place ≡ false
  anew_there = starts.anew_there l t asked placed_ anew_ noted v out way

  abbrev anew : is_to_fragment n l.address own_place ≡ false
  anew = starts.anew l t asked placed_ anew_ noted v out way

  abbrev then_ : Seen
  then_ = next n l.event.event l.event.actor (rows.Started l.req None)

  abbrev is_then : now_of l.event now ≡ then_
  is_then = begun.is_then l t asked placed_ anew_ noted v out way w now work now_is keeps

  abbrev run_same : w.running ≡ t.running
  run_same = begun.run_same l t asked placed_ anew_ noted v out way w now work now_is keeps

  abbrev m : Seen
  m = now_of l.event now

  abbrev places_same : m.places ≡ n.places
  places_same = begun.places_same l t asked placed_ anew_ noted v out way w now work now_is keeps

  abbrev history_same : m.history ≡ n.history
  history_same = begun.history_same l t asked placed_ anew_ noted v out way w now work now_is keeps

  abbrev state_number : w.states ≡ n.states + 1
  state_number = makes.state_number l t asked placed_ anew_ noted v out way w now work now_is keeps

  abbrev causes : MayCause m (whys.Req l.req)
  causes = makes.causes l t asked placed_ anew_ noted v out way w now work now_is keeps

  abbrev order : Job
  order = next_order m.jobs proc (record { 0 = w.documents + 1 }) (whys.Req l.req) (tasks.Populate l.nav (record { 0 = w.states }) l.address false)

  abbrev fin : Seen
  fin = next m l.event.event l.event.actor (rows.Sent order)

  abbrev is_fin : now_of l.event last ≡ fin
  is_fin = sent.is_fin l t asked placed_ anew_ noted v out way w now work now_is keeps proc home y last work_y last_is keeps_y

  abbrev run_y : y.running ≡ t.running
  run_y = sent.run_y l t asked placed_ anew_ noted v out way w now work now_is keeps proc home y last work_y last_is keeps_y

  abbrev keep_y : y.kept.keep ≡ t.kept.keep
  keep_y = sent.keep_y l t asked placed_ anew_ noted v out way w now work now_is keeps proc home y last work_y last_is keeps_y

  abbrev going_fin : IsGoing w.running l.loads [] fin
  going_fin = sent.going_fin l t asked placed_ anew_ noted v out way w now work now_is keeps proc home y last work_y last_is keeps_y

  abbrev passing_fin : IsPassing (pass_of l.event l.loads) last y
  passing_fin = sent.passing_fin l t asked placed_ anew_ noted v out way w now work now_is keeps proc home y last work_y last_is keeps_y

  abbrev wishes_on : SameReads wish n.requests fin.requests
  wishes_on = kept.wishes_on l t asked placed_ anew_ noted v out way w now work now_is keeps proc home y last work_y last_is keeps_y

  abbrev aim_fin : aim_of fin ≡ aim_of n
  aim_fin = kept.aim_fin l t asked placed_ anew_ noted v out way w now work now_is keeps proc home y last work_y last_is keeps_y

  abbrev found_more : (doc : DocId) (d : Document) → document_of n doc ≡ Some d → document_of fin doc ≡ Some d
  found_more = kept.found_more l t asked placed_ anew_ noted v out way w now work now_is keeps proc home y last work_y last_is keeps_y

  abbrev most : LeavesMost n fin
  most = kept.most l t asked placed_ anew_ noted v out way w now work now_is keeps proc home y last work_y last_is keeps_y

  abbrev fresh_or_old : (r : ReqId) (nav : NavId) → LoadOf fin r nav → LoadOf n r nav ⊎ IsFresh l.event fin r nav
  fresh_or_old = kept.fresh_or_old l t asked placed_ anew_ noted v out way w now work now_is keeps proc home y last work_y last_is keeps_y

  abbrev blamed_fin : AreBlamed fin noted
  blamed_fin = lives.blamed_fin l t asked placed_ anew_ noted v out way w now work now_is keeps proc home y last work_y last_is keeps_y

  abbrev live_fin : LoadsLive fin
  live_fin = lives.live_fin l t asked placed_ anew_ noted v out way w now work now_is keeps proc home y last work_y last_is keeps_y

  abbrev left_fin : LeavesQueue n fin
  left_fin = queues.left_fin l t asked placed_ anew_ noted v out way w now work now_is keeps proc home y last work_y last_is keeps_y

  -- ---- a pass may follow

  pub plain_fin : ArePlain t.running fin
  plain_fin = subst (λ (r : Option ReqId). ArePlain r fin) run_same going_fin.tab.asked

  pub taken_fin : IsTaking l.event t.running noted fin
  taken_fin =
      taking_by l.event t.running n fin made.taken made.going.tab.asked plain_fin made.going.tab.homes most fresh_or_old noted blamed_fin live_fin

  pub taken_last : IsTaking l.event y.running noted (now_of l.event last)
  taken_last =
      subst (λ (x : Seen). IsTaking l.event y.running noted x) (sym is_fin) (subst (λ (r : Option ReqId). IsTaking l.event r noted fin) (sym run_y) taken_fin)

  pub theirs_last : LoadsMadeOwn (now_of l.event last)
  theirs_last =
      subst (λ (x : Seen). LoadsMadeOwn x) (sym is_fin) (theirs_more n fin wishes_on found_more made.own)

  -- what was put out
  abbrev whole : List RowKind → List RowKind
  whole o = (o ++ rows.Started l.req None ∷ []) ++ rows.Sent order ∷ []

  pub last_all : last ≡ whole out
  last_all = last_is ∙ ap (λ (o : List RowKind). o ++ rows.Sent order ∷ []) now_is

  pub unapplied : has_traversed l.event last ≡ false
  unapplied =
      ap (λ (o : List RowKind). has_traversed l.event o) last_all
      ∙ ap (λ (o : List RowKind). list_any is_traverse (map (row_of l.event) o ++ map (row_of l.event) (whole out))) asked.asks.uncut
      ∙ by_case way.which
    where
      by_case : HasNone l.nav t v out l.noted noted ⊎ HasDropped l.req l.nav t v out l.noted noted → list_any is_traverse (map (row_of l.event) (whole out)) ≡ false
      by_case (inl it) = ap (λ (o : List RowKind). list_any is_traverse (map (row_of l.event) (whole o))) it.out_is
      by_case (inr it) = ap (λ (o : List RowKind). list_any is_traverse (map (row_of l.event) (whole o))) it.out_is

  pub parked_last : (now_of l.event last).parked ≡ s.parked
  parked_last = ap (λ (x : Seen). x.parked) is_fin ∙ ap (λ (x : Seen). x.parked) is_then ∙ made.parked

  pub wishes_last : SameReads wish s.requests (now_of l.event last).requests
  wishes_last =
      subst (λ (x : Seen). SameReads wish s.requests x.requests) (sym is_fin) (reads_then wish s.requests n.requests fin.requests made.wishes wishes_on)

  pub left_last : LeavesQueue s (now_of l.event last)
  left_last = subst (λ (x : Seen). LeavesQueue s x) (sym is_fin) (leaves_then s n fin made.left left_fin)

  pub causes_last : MayCause (now_of l.event last) (whys.Req l.req)
  causes_last =
      subst (λ (x : Seen). MayCause x (whys.Req l.req)) (sym is_fin) (causes_on m fin w.running going_fin.tab.asked (λ r. refl) (λ this each. each) (whys.Req l.req) causes)

  pub places_last : (now_of l.event last).places ≡ s.places
  places_last = ap (λ (x : Seen). x.places) is_fin ∙ places_same ∙ made.places

  pub history_last : (now_of l.event last).history ≡ s.history
  history_last = ap (λ (x : Seen). x.history) is_fin ∙ history_same ∙ made.history

  -- none of the rows moves anybody, or applies anything
  quiet : (kind : RowKind) → Has last kind → IsUnmoving kind × IsUnapplied kind
  quiet = by_case way.which
    where
      each : (first : RowKind) → IsUnmoving first × IsUnapplied first → (kind : RowKind) → (first ≡ kind) ⊎ ((rows.Started l.req None ≡ kind) ⊎ ((rows.Sent order ≡ kind) ⊎ ⊥)) → IsUnmoving kind × IsUnapplied kind
      each first its kind (inl same) = subst (λ (k : RowKind). IsUnmoving k × IsUnapplied k) same its
      each first its kind (inr (inl same)) =
          subst (λ (k : RowKind). IsUnmoving k × IsUnapplied k) same (tt, tt)
      each first its kind (inr (inr (inl same))) =
          subst (λ (k : RowKind). IsUnmoving k × IsUnapplied k) same (tt, tt)
      each first its kind (inr (inr (inr never))) = absurd never

      by_case : HasNone l.nav t v out l.noted noted ⊎ HasDropped l.req l.nav t v out l.noted noted → (kind : RowKind) → Has last kind → IsUnmoving kind × IsUnapplied kind
      by_case (inl it) =
          subst (λ (o : List RowKind). (kind : RowKind) → Has o kind → IsUnmoving kind × IsUnapplied kind) (sym (last_all ∙ ap (λ (o : List RowKind). whole o) it.out_is)) (λ kind has. each (rows.Started l.req None) (tt, tt) kind (inr has))
      by_case (inr it) =
          subst (λ (o : List RowKind). (kind : RowKind) → Has o kind → IsUnmoving kind × IsUnapplied kind) (sym (last_all ∙ ap (λ (o : List RowKind). whole o) it.out_is)) (λ kind has. each (rows.Dropped it.old.req (drops.By l.req)) (tt, tt) kind has)

  moved_last : MovedAreShown y.running (now_of l.event last)
  moved_last =
      subst (λ (r : Option ReqId). MovedAreShown r (now_of l.event last)) (sym run_y) (shown_put l.event t.running [] last passing_fin.work.goes (record { more = last; is = refl; each = λ kind has. (quiet kind has).0 }) places_last asked.begun.moved)

  late_last : LateKnown y.running (now_of l.event last)
  late_last =
      subst (λ (r : Option ReqId). LateKnown r (now_of l.event last)) (sym run_y) (late_put l.event t.running [] last passing_fin.work.goes (record { more = last; is = refl; each = λ kind has. (quiet kind has).1 }) places_last history_last asked.begun.late)

  pub ready_last : IsReady (pass_of l.event l.loads) last y l.queue noted (whys.Req l.req)
  ready_last =
      record {
        passing = passing_fin;
        empty = refl;
        header = keep_y ∙ asked.begun.header;
        open_ = taken_last.open_ (whys.Req l.req) causes_last;
        loads = taken_last.loads;
        frees = frees_open l.event asked.walks.holds y.running (now_of l.event last) (subst (λ (r : Option ReqId). NoneRunsWhileHeld asked.walks.holds r) (sym run_y) asked.walks.alone) asked.walks.free taken_last.open_;
        blamed = taken_last.blamed;
        calm = calm_before y.running (whys.Req l.req) (now_of l.event last) taken_last.calm taken_last.unmoved taken_last.rooted;
        late = late_last;
        moved = moved_last;
        live = taken_last.live;
        theirs = theirs_last;
        queueing = queueing_then l.event asked.asks.by_user (pass_of l.event l.loads) (first_pass l.event l.req l.loads) refl refl t l.queue asked.begun.queueing last y run_y left_last parked_last wishes_last unapplied places_last history_last (ap (λ (x : Seen). aim_of x) is_fin ∙ aim_fin ∙ made.aim);
      }

  -- ---- it has begun

  pub gives : HasGivenWay s l.req l.nav out
  gives = by_case way.which
    where
      by_case : HasNone l.nav t v out l.noted noted ⊎ HasDropped l.req l.nav t v out l.noted noted → HasGivenWay s l.req l.nav out
      by_case (inl it) =
          inl (it.out_is, λ old its_. (let has = load_held s t.loads old l.nav (pass l t asked).work.loads its_ in let never : None ≡ Some has.load = sym it.none_ ∙ has.at in cc))
      by_case (inr it) = inr (it.old.req, tied_load s t.loads l.nav it.old (pass l t asked).work.loads it.at, it.out_is)

  pub began_last : HasLoadBegun s l.req l.nav l.address last
  began_last =
      record {
        anew = record { place = place l t asked; there = placed l t asked; placed = all l t asked placed_; is_it = anew_there };
        gave = out;
        gives = gives;
        job = order;
        task = ap (λ (k : ℕ). tasks.Populate l.nav (record { 0 = k }) l.address false) (state_number ∙ ap (λ (k : ℕ). k + 1) made.states);
        why = refl;
        is = last_all ∙ append_assoc out (rows.Started l.req None ∷ []) (rows.Sent order ∷ []);
      }

  pub has_come : HasCome l t y last noted Begun
  has_come =
      record {
        came = (asked.undenied, began_last);
        ready = ready_last;
        kept = record { running = run_y; goal = keeps_y.goal ∙ keeps.goal ∙ runs_on.goal; keep = keep_y; checks = keeps_y.checks ∙ keeps.checks ∙ runs_on.checks };
      }
