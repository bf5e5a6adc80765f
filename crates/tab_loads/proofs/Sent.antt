-- The order that makes the document of a load that has begun is sent: all goes on.
use Rattle.tab_doors.proofs.PassedOn.{sent_goes, sent_now}
use Rattle.seen_facts.proofs.Coord.Kept.{IsSentHome}
use Rattle.seen_facts.proofs.Coord.Unread.{next}
use Rattle.tab_facts.proofs.Last.Orders.{making_lasting}
use Rattle.log_model.proofs.Refl.{nat_eq_refl}
use Rattle.log_model.specs.AfterRequests.{request_begun}
use Rattle.log_model.specs.Seen.{Asked, Document, Seen, document_of, request_of}
use Rattle.log_model.specs.declared.job.Job.{Job}
use Rattle.log_model.specs.declared.row_kind.RowKind.{RowKind}
use Rattle.row_facts.proofs.Owed.Ends.{loose_more, loose_owed}
use Rattle.row_facts.proofs.Owed.Rows.{sent_lasts}
use Rattle.row_facts.specs.Owed.Owed.{IsLoose}
use Rattle.row_facts.proofs.RestRows.Orders.{making_rests}
use Rattle.row_facts.specs.RestRows.Moving.{AllRest}
use Rattle.seen_laws.specs.InEvent.{now_of}
use Rattle.std.proofs.Common.{List, None, Option, Some, [], ap, false, length, refl, subst, sym, true, ℕ, ◌++◌, ◌+◌, ◌==◌, ◌∙◌, ◌∷◌, ◌≡◌, ◌≤◌}
use Rattle.tab_doors.specs.Orders.{next_order}
use Rattle.tab_doors.specs.Working.{IsAtWork, KeepsStore}
use Rattle.tab_doors.specs.declared.tables.Tables.{Tables}
use Rattle.tab_facts.proofs.TabGoing.Rows.{sent_going}
use Rattle.tab_facts.specs.TabGoing.Going.{IsGoing}
use Rattle.tab_ids.specs.declared.DocId.{DocId}
use Rattle.tab_ids.specs.declared.ProcId.{ProcId}
use Rattle.tab_ids.specs.declared.ReqId.{ReqId}
use Rattle.tab_ids.specs.declared.StateId.{StateId}
use Rattle.tab_loads.proofs.Firsts.{q}
use Rattle.tab_loads.proofs.Orders.{order_of}
use Rattle.tab_loads.specs.Asking.{BeginsAnew, InLoad, IsAsked}
use Rattle.tab_loads.specs.Giving.{HasMadeWay}
use Rattle.tab_loads.specs.Loading.{pass_of}
use Rattle.tab_loads.specs.Telling.{away_in}
use Rattle.tab_moves.specs.Making.{home_in}
use Rattle.tab_passes.proofs.PassedOn.{lives_first, sent_duly}
use Rattle.tab_passes.specs.Passing.{IsPassing}
use Rattle.tab_facts.proofs.TabWhole.Making.{IsMakeOf, make_load_tab}
use Rattle.tab_facts.specs.TabWhole.Tab.{IsTab}
use Rattle.log_model.specs.declared.job.Task.TheVariants as tasks
use Rattle.log_model.specs.declared.job.Why.TheVariants as whys
use Rattle.log_model.specs.declared.row_kind.RowKind.TheVariants as rows
use Rattle.tab_loads.proofs.Begun as begun
use Rattle.tab_loads.proofs.Makes as makes

module _ (l : InLoad) (t : Tables) (asked : IsAsked l t) (placed_ : away_in t l.nav ≡ None) (anew_ : BeginsAnew l t) (noted : List (StateId × ReqId)) (v : Tables) (out : List RowKind) (way : HasMadeWay l.event l.req l.nav t v out l.noted noted) (w : Tables) (now : List RowKind) (work : IsAtWork l.event now w) (now_is : now ≡ out ++ rows.Started l.req None ∷ []) (keeps : KeepsStore v w) (proc : ProcId) (home : home_in l.event.header w l.nav l.address ≡ Some proc) (y : Tables) (last : List RowKind) (work_y : IsAtWork l.event last y) (last_is : last ≡ now ++ rows.Sent (order_of l w now proc) ∷ []) (keeps_y : KeepsStore w y) where
  abbrev n : Seen
  n = now_of l.event out

  abbrev own : Asked
  own = q l.event l.req l.nav l.mode l.address asked.asks

  abbrev state : StateId
  state = record { 0 = n.states + 1 }

  abbrev run_same : w.running ≡ t.running
  run_same = begun.run_same l t asked placed_ anew_ noted v out way w now work now_is keeps

  abbrev keep_same : w.kept.keep ≡ t.kept.keep
  keep_same = begun.keep_same l t asked placed_ anew_ noted v out way w now work now_is keeps

  abbrev loose_now : IsLoose l.event now
  loose_now = begun.loose_now l t asked placed_ anew_ noted v out way w now work now_is keeps

  abbrev passing_now : IsPassing (pass_of l.event l.loads) now w
  passing_now = begun.passing_now l t asked placed_ anew_ noted v out way w now work now_is keeps

  abbrev m : Seen
  m = now_of l.event now

  abbrev own_then : Asked
  own_then = request_begun n (record own { is_started = true; goal = None })

  abbrev found_then : request_of m l.req ≡ Some own_then
  found_then = makes.found_then l t asked placed_ anew_ noted v out way w now work now_is keeps

  abbrev its_state : StateId
  its_state = record { 0 = w.states }

  abbrev state_is : own_then.state ≡ Some its_state
  state_is = makes.state_is l t asked placed_ anew_ noted v out way w now work now_is keeps

  abbrev none_has : (doc : DocId) (d : Document) → document_of m doc ≡ Some d → (d.state.0 == w.states) ≡ false
  none_has = makes.none_has l t asked placed_ anew_ noted v out way w now work now_is keeps

  abbrev next_number : w.documents ≡ length m.documents
  next_number = makes.next_number l t asked placed_ anew_ noted v out way w now work now_is keeps

  abbrev new_doc : DocId
  new_doc = record { 0 = w.documents + 1 }

  abbrev none_there_ : (d : Document) → document_of m new_doc ≡ Some d → ⊥
  none_there_ = makes.none_there_ l t asked placed_ anew_ noted v out way w now work now_is keeps

  abbrev absent : document_of m new_doc ≡ None
  absent = makes.absent l t asked placed_ anew_ noted v out way w now work now_is keeps

  abbrev order : Job
  order = next_order m.jobs proc (record { 0 = w.documents + 1 }) (whys.Req l.req) (tasks.Populate l.nav (record { 0 = w.states }) l.address false)

  abbrev pub fin : Seen
  fin = next m l.event.event l.event.actor (rows.Sent order)

  pub is_fin : now_of l.event last ≡ fin
  is_fin = ap (λ (o : List RowKind). now_of l.event o) last_is ∙ sent_now l.event now order refl

  pub run_y : y.running ≡ t.running
  run_y = keeps_y.running ∙ run_same

  pub keep_y : y.kept.keep ≡ t.kept.keep
  keep_y = keeps_y.keep ∙ keep_same

  pub make_of : IsMakeOf m order its_state
  make_of =
      record {
        next_ = ap (λ (k : ℕ). k + 1) next_number;
        first = refl;
        alone = λ doc d found is.
            let no : false ≡ true = sym (none_has doc d found) ∙ ap (λ (k : StateId). k.0 == w.states) is ∙ nat_eq_refl w.states in
            absurd cc;
      }

  pub tab_fin : IsTab w.running l.loads [] fin
  tab_fin =
      make_load_tab w.running l.loads [] m l.event.event l.event.actor passing_now.going.tab order l.req own_then l.nav its_state l.address false refl make_of (record { found = found_then; ongoing = refl; loads_it = nat_eq_refl l.nav.0; own = state_is })

  pub going_fin : IsGoing w.running l.loads [] fin
  going_fin =
      sent_going w.running l.loads [] m l.event.event l.event.actor passing_now.going order l.loads [] tab_fin (making_lasting m l.event.event l.event.actor passing_now.going.lasting order l.nav its_state l.address false refl absent) tt

  pub loose_fin : IsLoose l.event last
  loose_fin =
      subst (λ (o : List RowKind). IsLoose l.event o) (sym last_is) (loose_more l.event now (rows.Sent order) (sent_goes l.event now order refl).read loose_now (sent_lasts m l.event.event l.event.actor order) (λ end lasts. refl))

  pub sent_home : IsSentHome m order
  sent_home = record { home = λ d found. absurd (none_there_ d found); lives = lives_first w.running l.loads [] m passing_now.going.tab order refl }

  pub passing_fin : IsPassing (pass_of l.event l.loads) last y
  passing_fin =
      record {
        work = work_y;
        going = subst (λ (x : Seen). IsGoing y.running l.loads [] x) (sym is_fin) (subst (λ (r : Option ReqId). IsGoing r l.loads [] fin) (sym keeps_y.running) going_fin);
        owed = loose_owed l.event last loose_fin;
        loose = λ all_. loose_fin;
        rests = subst (λ (x : Seen). AllRest x) (sym is_fin) (making_rests m l.event.event l.event.actor [] passing_now.rests order sent_home l.nav its_state l.address false refl none_there_);
        duly = sent_duly l.event now order last last_is absent passing_now.duly;
        few = subst (λ (k : ℕ). length (now_of l.event last).kept ≤ k) (sym keeps_y.keep) (subst (λ (k : List DocId). length k ≤ w.kept.keep) (sym (ap (λ (x : Seen). x.kept) is_fin)) passing_now.few);
      }
