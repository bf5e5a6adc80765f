-- The order that makes the document of a load that has passed its check is sent: all goes on.
use Rattle.load_passed.proofs.Begun as begun
use Rattle.load_passed.proofs.Makes as makes
use Rattle.load_passed.specs.Passing.{InLoadPass, IsToMake}
use Rattle.log_model.proofs.Refl.{nat_eq_refl}
use Rattle.log_model.specs.Once.{loads}
use Rattle.log_model.specs.Places.{aim_of, all_stand}
use Rattle.log_model.specs.Seen.{Seen}
use Rattle.log_model.specs.declared.job.Job.{Job}
use Rattle.log_model.specs.declared.job.Task.TheVariants as tasks
use Rattle.log_model.specs.declared.job.Why.TheVariants as whys
use Rattle.log_model.specs.declared.request.Request.{Request}
use Rattle.log_model.specs.declared.row_kind.RowKind.TheVariants as rows
use Rattle.log_model.specs.declared.row_kind.RowKind.{RowKind}
use Rattle.row_facts.proofs.Owed.Ends.{loose_more, owed_more}
use Rattle.row_facts.proofs.Owed.Rows.{reckoned_now, sent_lasts, sent_stays}
use Rattle.row_facts.proofs.RestRows.Orders.{making_rests}
use Rattle.row_facts.specs.Owed.Owed.{IsLoose, IsOwed}
use Rattle.row_facts.specs.RestRows.Moving.{AllRest}
use Rattle.seen_facts.proofs.Coord.Kept.{IsSentHome}
use Rattle.seen_facts.proofs.Coord.Unread.{next}
use Rattle.seen_facts.proofs.Walk.Turns.{make_aim}
use Rattle.seen_laws.specs.InEvent.{now_of}
use Rattle.std.proofs.Common.{List, Option, Some, [], ap, false, length, refl, subst, sym, true, ℕ, ◌+◌, ◌==◌, ◌∙◌, ◌∷◌, ◌≡◌, ◌≤◌}
use Rattle.tab_doors.proofs.PassedOn.{sent_goes, sent_now}
use Rattle.tab_doors.specs.Orders.{next_order}
use Rattle.tab_doors.specs.Working.{IsAtWork, KeepsStore}
use Rattle.tab_doors.specs.declared.tables.Tables.{Tables}
use Rattle.tab_facts.proofs.Last.Orders.{making_lasting}
use Rattle.tab_facts.proofs.TabGoing.Rows.{sent_going}
use Rattle.tab_facts.proofs.TabWhole.Making.{IsMakeOf, make_load_tab}
use Rattle.tab_facts.specs.TabGoing.Going.{IsGoing}
use Rattle.tab_facts.specs.TabWhole.Tab.{IsTab}
use Rattle.tab_ids.specs.declared.DocId.{DocId}
use Rattle.tab_ids.specs.declared.ProcId.{ProcId}
use Rattle.tab_ids.specs.declared.ReqId.{ReqId}
use Rattle.tab_ids.specs.declared.StateId.{StateId}
use Rattle.tab_moves.specs.Making.{home_in}
use Rattle.tab_passes.proofs.PassedOn.{lives_first, sent_duly}
use Rattle.tab_passes.proofs.Passings.{all_passed}
use Rattle.tab_passes.specs.Passing.{IsPassing}
use Rattle.unasked.proofs.Passings.{begun_as}

-- the order that makes the load's document, in this process
abbrev pub order_of : InLoadPass → Tables → ProcId → Job
order_of l u proc =
    next_order (now_of l.event []).jobs proc (record { 0 = u.documents + 1 }) (whys.Req l.req) (tasks.Populate l.nav l.state l.address false)

module _ (l : InLoadPass) (u : Tables) (it : IsToMake l u) (proc : ProcId) (home : home_in l.event.header u l.nav l.address ≡ Some proc) (y : Tables) (last : List RowKind) (work_y : IsAtWork l.event last y) (last_is : last ≡ rows.Sent (order_of l u proc) ∷ []) (keeps_y : KeepsStore u y) where
  abbrev m : Seen
  m = now_of l.event []

  abbrev order : Job
  order =
      next_order (now_of l.event []).jobs proc (record { 0 = u.documents + 1 }) (whys.Req l.req) (tasks.Populate l.nav l.state l.address false)

  abbrev passing_now : IsPassing (record { event = l.event; loads = l.loads; hand = [] }) [] u
  passing_now = makes.passing_now l u it

  abbrev pub fin : Seen
  fin = next (now_of l.event []) l.event.event l.event.actor (rows.Sent order)

  pub is_fin : now_of l.event last ≡ next (now_of l.event []) l.event.event l.event.actor (rows.Sent (order_of l u proc))
  is_fin = ap (λ (o : List RowKind). now_of l.event o) last_is ∙ sent_now l.event [] order refl

  pub run_y : y.running ≡ it.t.running
  run_y = keeps_y.running ∙ makes.run_same l u it

  make_of : IsMakeOf m order l.state
  make_of =
      record {
        next_ = ap (λ (k : ℕ). k + 1) (makes.next_number l u it);
        first = refl;
        alone = λ doc d found is.
            let no : false ≡ true = sym (makes.none_has l u it doc d found) ∙ ap (λ (k : StateId). k.0 == l.state.0) is ∙ nat_eq_refl l.state.0 in
            absurd cc;
      }

  pub tab_fin : IsTab u.running l.loads [] (next (now_of l.event []) l.event.event l.event.actor (rows.Sent (order_of l u proc)))
  tab_fin =
      make_load_tab u.running l.loads [] m l.event.event l.event.actor passing_now.going.tab order l.req (begun_as it.q it.p) l.nav l.state l.address false refl make_of (record { found = makes.found_then l u it; ongoing = begun.ongoing_own l it.loads l.before it.t it.p it.unbegun it.q it.starts it.state_is it.replaces; loads_it = ap (λ (w : Request). loads l.nav w) it.unbegun.what ∙ nat_eq_refl l.nav.0; own = it.state_is })

  pub going_fin : IsGoing u.running l.loads [] (next (now_of l.event []) l.event.event l.event.actor (rows.Sent (order_of l u proc)))
  going_fin =
      sent_going u.running l.loads [] m l.event.event l.event.actor passing_now.going order l.loads [] tab_fin (making_lasting m l.event.event l.event.actor passing_now.going.lasting order l.nav l.state l.address false refl (makes.absent l u it)) tt

  pub loose_fin : IsLoose l.event [] → IsLoose l.event last
  loose_fin loose =
      subst (λ (o : List RowKind). IsLoose l.event o) (sym last_is) (loose_more l.event [] (rows.Sent order) (sent_goes l.event [] order refl).read loose (sent_lasts m l.event.event l.event.actor order) (λ end lasts. refl))

  owed_fin : IsOwed l.event last
  owed_fin =
      subst (λ (o : List RowKind). IsOwed l.event o) (sym last_is) (owed_more l.event [] (rows.Sent order) (sent_goes l.event [] order refl).read it.owed (sent_stays m l.event.event l.event.actor order (all_passed (record { event = l.event; loads = l.loads; hand = [] }) [] u passing_now) (reckoned_now l.event []) refl) (λ end stays. refl))

  -- all stand as before
  stood : all_stand (now_of l.event last) (aim_of (now_of l.event last)) ≡ all_stand m (aim_of m)
  stood =
      ap (λ (x : Seen). all_stand x (aim_of x)) is_fin
      ∙ ap (λ (k : ℕ). all_stand fin k) (make_aim m l.event.event l.event.actor order l.nav l.state l.address false refl)

  sent_home : IsSentHome m order
  sent_home = record { home = λ d found. absurd (makes.none_there l u it d found); lives = lives_first u.running l.loads [] m passing_now.going.tab order refl }

  pub passing_fin : IsPassing (record { event = l.event; loads = l.loads; hand = [] }) last y
  passing_fin =
      record {
        work = work_y;
        going = subst (λ (x : Seen). IsGoing y.running l.loads [] x) (sym is_fin) (subst (λ (r : Option ReqId). IsGoing r l.loads [] fin) (sym keeps_y.running) going_fin);
        owed = owed_fin;
        loose = λ all_. loose_fin (it.loose (sym stood ∙ all_));
        rests = subst (λ (x : Seen). AllRest x) (sym is_fin) (making_rests m l.event.event l.event.actor [] passing_now.rests order sent_home l.nav l.state l.address false refl (makes.none_there l u it));
        duly = sent_duly l.event [] order last last_is (makes.absent l u it) passing_now.duly;
        few = subst (λ (k : ℕ). length (now_of l.event last).kept ≤ k) (sym keeps_y.keep) (subst (λ (k : List DocId). length k ≤ u.kept.keep) (sym (ap (λ (x : Seen). x.kept) is_fin)) passing_now.few);
      }
