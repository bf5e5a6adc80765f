-- The traversal whose turn it is, as all stand and none runs: it may begin and ask, and it enters its check by that.
use Rattle.asking_facts.proofs.Entered.{turn_alone}
use Rattle.asking_facts.proofs.Passing.{turn_begins}
use Rattle.asking_facts.proofs.Read.{turn_read}
use Rattle.asking_facts.specs.Asking.{BeginsToAsk, IsTurnOf, MayBeginTo, NoneAskedEarly}
use Rattle.checking_facts.specs.Checks.{MayEnter, NoOtherUnderWay}
use Rattle.checking_facts.specs.States.{IsNextState}
use Rattle.log_model.proofs.Refl.{nat_eq_refl}
use Rattle.log_model.specs.History.{has_nav}
use Rattle.log_model.specs.Once.{step_at_delta}
use Rattle.log_model.specs.Orders.{due_questions}
use Rattle.log_model.specs.Places.{all_stand, is_load, is_reload, is_traversal}
use Rattle.log_model.specs.Queue.{begins_in_turn}
use Rattle.log_model.specs.Seen.{Asked, Document, Seen, request_of}
use Rattle.log_model.specs.declared.row_kind.RowKind.TheVariants as rows
use Rattle.log_model.specs.declared.row_kind.RowKind.{RowKind}
use Rattle.seen_facts.specs.Coord.Apart.{AreApart}
use Rattle.seen_facts.specs.Load.Loading.{AreLoading}
use Rattle.seen_laws.proofs.InEvents.{now_is}
use Rattle.seen_laws.specs.InEvent.{InEvent, begins, here_of, log_of, now_of, row_of}
use Rattle.seen_laws.specs.Unasked.{unasked, unasked_request, without_asks}
use Rattle.std.proofs.Common.{Bool, List, None, Option, Some, [], ap, false, refl, subst, sym, true, ℤ, ◌+◌, ◌++◌, ◌||◌, ◌∙◌, ◌∷◌, ◌≡◌}
use Rattle.std.specs.List.{list_any}
use Rattle.std.specs.Prelude.{option_map}
use Rattle.tab_asked.proofs.States.{next_state}
use Rattle.tab_asked.proofs.Traversals.{no_load}
use Rattle.tab_asked.specs.Asked.{MayAsk}
use Rattle.tab_doors.proofs.LogDues.{turn_off}
use Rattle.tab_doors.proofs.Works.{BeginsSole, traversal_sole}
use Rattle.tab_doors.specs.declared.tables.Tables.{Tables}
use Rattle.tab_facts.specs.TabGoing.Going.{IsGoing}
use Rattle.tab_facts.specs.TabWhole.Tab.{IsTab}
use Rattle.tab_ids.specs.declared.NavId.{NavId}
use Rattle.tab_ids.specs.declared.ReqId.{ReqId}
use Rattle.tab_ids.specs.declared.Step.{Step}
use Rattle.tab_passes.specs.Passing.{InPass, IsPassing}
use Rattle.tab_turns.proofs.Firsts.{IsWaitingFirst, first_turn, first_waits, not_begun}
use Rattle.tab_turns.specs.Beginning.{IsFirst}
use Rattle.unasked.proofs.Readings.{checked_off, request_read}
use Rattle.unasked_dues.specs.Checking.{NoStepChecks}

some_same : {A : Type 0} {a b : A} → (let o : Option A = Some a in o) ≡ Some b → a ≡ b
some_same is = cc

-- a list that has nobody is empty
none_in : (navs : List NavId) → ((nav : NavId) → has_nav navs nav ≡ true → ⊥) → navs ≡ []
none_in [] none = refl
none_in (nav ∷ navs) none = absurd (none nav (rw (nat_eq_refl nav.0) refl))

module _ (p : InPass) (out : List RowKind) (t : Tables) (passing : IsPassing p out t) (idle : t.running ≡ None) (free : NoStepChecks p.event.checking (log_of p.event [])) (early : NoneAskedEarly (log_of p.event out)) (req : ReqId) (delta : ℤ) (first : IsFirst (now_of p.event out) req delta) (stand : all_stand (now_of p.event out) (now_of p.event out).history.current ≡ true) (goal : Step) (leads : step_at_delta (now_of p.event out) delta ≡ Some goal.0) (q : Asked) (at : request_of (log_of p.event out) req ≡ Some q) where
  abbrev e : InEvent
  e = p.event

  abbrev s : Seen
  s = now_of e out

  abbrev log : Seen
  log = log_of e out

  -- what holds of the log without questions, as it is had of the log
  at_bare : (P : Seen → Type 0) → P s → P (unasked e.checking log)
  at_bare P is = subst P (now_is e out) is

  tab : IsTab None p.loads p.hand s
  tab = (subst (λ (r : Option ReqId). IsGoing r p.loads p.hand s) idle passing.going).tab

  its : IsWaitingFirst s req delta
  its = first_waits None p.loads p.hand s tab req delta first

  -- no step is in its check
  unheld : NoStepChecks e.checking log
  unheld = passing.work.unheld free

  -- nor is it
  off : e.checking req ≡ false
  off = turn_off e out (now_is e out) passing.work.checks.begun unheld req its.q its.at its.open_ its.goes

  -- the request, as it is where nobody is asked
  read : its.q ≡ unasked_request e.checking q
  read =
      some_same (sym (at_bare (λ (x : Seen). request_of x req ≡ Some its.q) its.at) ∙ request_read e.checking log req ∙ ap (λ (o : Option Asked). option_map (unasked_request e.checking) o) at)

  bare : its.q ≡ without_asks q
  bare = read ∙ checked_off e.checking q (ap e.checking (passing.work.checks.numbered req q at) ∙ off)

  goes : is_traversal q.what ≡ true
  goes = ap (λ (x : Asked). is_traversal x.what) (sym bare) ∙ its.goes

  -- it hasn't begun
  unstarted : its.q.is_started ≡ false
  unstarted = not_begun its.q its.goes its.open_ (tab.asked.only req its.q its.at)

  pub not_yet : q.is_started ≡ false
  not_yet = ap (λ (x : Asked). x.is_started) (sym bare) ∙ unstarted

  -- it begins, and asks whom it is due to ask
  begins_to_ask : BeginsToAsk log req (Some goal) (due_questions log q.what (Some goal)) q
  begins_to_ask =
      record { at = at; unstarted = not_yet; open_ = ap (λ (x : Asked). x.ending) (sym bare) ∙ its.open_; unasked = early req q at not_yet; due = refl }

  -- it may enter its check
  may_enter : MayEnter q
  may_enter =
      record {
        waits = rw not_yet refl;
        checked = rw goes (either (is_load q.what) (is_reload q.what));
        unmoved = ap (λ (x : Asked). x.moved) (sym bare) ∙ unmoved;
        shows = ap (λ (x : Asked). x.activated) (sym bare) ∙ none_in its.q.activated shown;
        unchanged = ap (λ (x : Asked). x.change) (sym bare) ∙ (tab.movers.ends req its.q its.at).unchanged its.open_;
        unsent = ap (λ (x : Asked). x.fragment) (sym bare) ∙ (tab.asked.each req its.q its.at).sent (no_load its.q.what its.goes);
      }
    where
      either : (a b : Bool) → (a || true || b) ≡ true
      either true b = refl
      either false b = refl

      unmoved : its.q.moved ≡ []
      unmoved = passing.going.lasting.moves.unmoved req its.q its.at its.goes unstarted

      shown : (nav : NavId) → has_nav its.q.activated nav ≡ true → ⊥
      shown nav has =
          let moved : has_nav its.q.moved nav ≡ true = (tab.asked.each req its.q its.at).moved nav has in
          let never : true ≡ false = sym moved ∙ ap (λ (navs : List NavId). has_nav navs nav) unmoved in
          cc

  -- its turn has come
  turn_of : IsTurnOf log req goal q
  turn_of =
      turn_read e.checking log passing.work.checks.numbered unheld req goal q its.q read (record {
        delta = delta;
        asks = its.asks;
        there = at_bare (λ (x : Seen). step_at_delta x delta ≡ Some goal.0) leads;
        turn = at_bare (λ (x : Seen). begins_in_turn x req ≡ true) (first_turn s req delta tab.asked stand first);
      })

  may_begin : MayBeginTo (here_of e out) (row_of e (rows.Started req (Some goal))) req (Some goal) q
  may_begin =
      turn_begins e (here_of e out) req goal q (due_questions log q.what (Some goal)) begins_to_ask turn_of

  -- no other traversal is under way
  goes_alone : NoOtherUnderWay log req
  goes_alone = turn_alone log req turn_of.turn

  -- it is no load
  begins_sole : BeginsSole e out (rows.Started req (Some goal))
  begins_sole = traversal_sole e out req (Some goal) q at (no_load q.what goes)

  -- and the document state that is numbered next is nobody's
  next_free : IsNextState log (record { 0 = log.states + 1 })
  next_free =
      next_state e.checking log passing.work.checks.numbered (at_bare (λ (x : Seen). AreLoading x) tab.loading) (at_bare (λ (x : Seen). AreApart (λ (d : Document). d.nr.0) x.documents) tab.whose.numbered) passing.work.checks.states

  -- so it may begin and ask, where it began as none of the event's rows
  pub may_ask : list_any (begins req) (e.before ++ out) ≡ false → MayAsk e out req goal q
  may_ask unbegun =
      record {
        asks = begins_to_ask;
        goes = goes;
        turn = may_begin;
        unbegun = unbegun;
        off = off;
        enters = may_enter;
        alone = goes_alone;
        sole = begins_sole;
        next = next_free;
      }
