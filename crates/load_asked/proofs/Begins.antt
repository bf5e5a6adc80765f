-- The load that the event accepted may begin and ask, and enters its check by that.
use Rattle.asking_facts.proofs.Passing.{load_begins_to}
use Rattle.asking_facts.specs.Asking.{AreSome, BeginsToAsk, IsLoadOf, MayBeginTo}
use Rattle.checking_facts.specs.Checks.{MayEnter, NoOtherUnderWay}
use Rattle.checking_facts.specs.States.{IsNextState}
use Rattle.load_asked.specs.Beginning.{IsToBegin, due_of}
use Rattle.log_model.specs.Once.{has_no_earlier_load, loads}
use Rattle.log_model.specs.Orders.{Question}
use Rattle.log_model.specs.Places.{is_ongoing_load, is_traversal}
use Rattle.log_model.specs.Seen.{Asked, Document, Seen, place_of, request_of}
use Rattle.log_model.specs.declared.row_kind.RowKind.TheVariants as rows
use Rattle.log_model.specs.declared.row_kind.RowKind.{RowKind}
use Rattle.row_facts.proofs.LoadRows.Earlier.{all_from, no_earlier_stays}
use Rattle.row_facts.specs.LoadRows.Beginning.{begins_no_earlier, is_out_of_way, is_to_fragment}
use Rattle.seen_facts.proofs.Each.Runs.{at_place}
use Rattle.seen_facts.specs.Coord.Apart.{AreApart}
use Rattle.seen_facts.specs.Load.Loading.{AreLoading, look}
use Rattle.seen_laws.proofs.InEvents.{log_more, now_is}
use Rattle.seen_laws.specs.InEvent.{InEvent, begins, here_of, log_of, now_of, row_of}
use Rattle.seen_laws.specs.Owing.{owes_row}
use Rattle.seen_laws.specs.Unasked.{unasked}
use Rattle.std.proofs.Common.{Bool, List, None, Option, Some, [], ap, arith, false, inl, inr, not, refl, subst, sym, true, ◌&&◌, ◌+◌, ◌++◌, ◌∙◌, ◌∷◌, ◌≡◌, ℕ}
use Rattle.std.proofs.lemmas.Bool.Decides.{nat_tests}
use Rattle.std.specs.List.{list_any}
use Rattle.std.specs.Prelude.{is_some, nat_lt, option_map, slice_get}
use Rattle.tab_asked.proofs.States.{next_state}
use Rattle.tab_doors.proofs.Works.{BeginsSole}
use Rattle.tab_doors.specs.Working.{IsAtWork}
use Rattle.tab_doors.specs.declared.tables.Tables.{Tables}
use Rattle.tab_drops.proofs.Loads.{load_held}
use Rattle.tab_facts.specs.TabWhole.Tab.{IsTab}
use Rattle.tab_ids.specs.declared.ReqId.{ReqId}
use Rattle.tab_ids.specs.declared.Step.{Step}
use Rattle.tab_loads.proofs.Firsts as firsts
use Rattle.tab_loads.proofs.Reals.{read_there, way_there}
use Rattle.tab_loads.specs.Asking.{InLoad}
use Rattle.tab_stands.specs.PassedOn.{IsLoadOf as IsOngoingOf}
use Rattle.unasked_dues.proofs.Ends.{earlier_same}
use Rattle.unasked_dues.proofs.Sole.{HasBegun, sole_more}

-- somebody is asked where there is a first question
some_first : (questions : List Question) → is_some (slice_get questions 0) ≡ true → AreSome questions
some_first [] is = absurd cc
some_first (question ∷ questions) is = tt

module _ (l : InLoad) (t : Tables) (due : IsToBegin l t) where
  abbrev e : InEvent
  e = l.event

  abbrev s : Seen
  s = now_of e []

  abbrev log : Seen
  log = log_of e []

  abbrev pub own : Asked
  own = firsts.q l.event l.req l.nav l.mode l.address due.asks

  pub work : IsAtWork l.event [] t
  work = due.ready.passing.work

  tab : IsTab t.running (l.req ∷ l.loads) [] s
  tab = due.ready.passing.going.tab

  -- what holds of the log without questions, as it is had of the log
  pub at_bare : (P : Seen → Type 0) → P (now_of l.event []) → P (unasked l.event.checking (log_of l.event []))
  at_bare P is = subst P (now_is e []) is

  pub there : request_of (log_of l.event []) l.req ≡ Some own
  there = firsts.found_log e l.req l.nav l.mode l.address due.asks

  pub begins_to_ask : BeginsToAsk (log_of l.event []) l.req None (due_of l) own
  begins_to_ask = record { at = there; unstarted = refl; open_ = refl; unasked = refl; due = refl }

  is_load_of : IsLoadOf (here_of e []) l.req l.nav l.mode l.address own
  is_load_of =
      record {
        number = refl;
        what = refl;
        accepted = firsts.accepted_here e l.req l.nav l.mode l.address due.asks;
        placed = way_there e [] t work l.nav due.came.anew.placed;
        place = due.came.anew.place;
        there = read_there e [] t work (λ (x : Seen). place_of x l.nav ≡ Some due.came.anew.place) due.came.anew.there;
        anew = read_there e [] t work (λ (x : Seen). is_to_fragment x l.address due.came.anew.place ≡ false) due.came.anew.is_it;
      }

  pub may_begin : MayBeginTo (here_of l.event []) (row_of l.event (rows.Started l.req None)) l.req None own
  may_begin =
      load_begins_to e (here_of e []) l.req l.nav l.mode l.address own (due_of l) begins_to_ask is_load_of

  -- it may enter its check
  pub may_enter : MayEnter own
  may_enter = record { waits = refl; checked = refl; unmoved = refl; shows = refl; unchanged = refl; unsent = refl }

  pub some : AreSome (due_of l)
  some = some_first (due_of l) due.came.asks

  -- it is no traversal, and began as none of the event's rows
  pub alone : is_traversal own.what ≡ true → NoOtherUnderWay (log_of l.event []) l.req
  alone goes = absurd cc

  pub unbegun : list_any (begins l.req) (l.event.before ++ []) ≡ false
  unbegun = ap (λ (x : List RowKind). list_any (begins l.req) (x ++ [])) due.asks.uncut

  -- the document state that is numbered next is nobody's
  pub next : IsNextState (log_of l.event []) (record { 0 = (log_of l.event []).states + 1 })
  next =
      next_state e.checking log work.checks.numbered (at_bare (λ (x : Seen). AreLoading x) tab.loading) (at_bare (λ (x : Seen). AreApart (λ (d : Document). d.nr.0) x.documents) tab.whose.numbered) work.checks.states

  -- ---- it is the only load of its navigable

  none_ongoing : (r : ReqId) → IsOngoingOf s r l.nav → ⊥
  none_ongoing r its =
      let has = load_held s t.loads r l.nav work.loads its in
      let never : None ≡ Some has.load = sym due.alone ∙ has.at in
      cc

  alone_now : has_no_earlier_load s l.req l.nav ≡ true
  alone_now = all_from (is_out_of_way l.req l.nav) s.requests each
    where
      each : (m : ℕ) (x : Asked) → slice_get s.requests m ≡ Some x → is_out_of_way l.req l.nav x ≡ true
      each m x at = by_tests (is_ongoing_load x) (nat_lt x.nr.0 l.req.0) (loads l.nav x.what) refl refl
        where
          number : request_of s (record { 0 = m + 1 }) ≡ Some x
          number = at_place s.requests m ∙ at

          by_tests : (a b c : Bool) → is_ongoing_load x ≡ a → loads l.nav x.what ≡ c → not (a && b && c) ≡ true
          by_tests true true true on its = absurd (none_ongoing (record { 0 = m + 1 }) (record { look = look x; at = ap (λ (o : Option Asked). option_map look o) number; ongoing = on; loads_it = its }))
          by_tests true true false on its = refl
          by_tests true false true on its = refl
          by_tests true false false on its = refl
          by_tests false true true on its = refl
          by_tests false true false on its = refl
          by_tests false false true on its = refl
          by_tests false false false on its = refl

  sole_log : has_no_earlier_load log l.req l.nav ≡ true
  sole_log =
      sym (earlier_same e.checking log work.checks.numbered l.req l.nav due.asks.apart)
      ∙ read_there e [] t work (λ (x : Seen). has_no_earlier_load x l.req l.nav ≡ true) alone_now

  pub begins_sole : BeginsSole l.event [] (rows.Started l.req None)
  begins_sole sole =
      sole_more e [] (rows.Started l.req None) (λ x was n stays. absurd (never x was)) sole (λ r g same. owes r g same)
    where
      none_in : (before later : List RowKind) (r : ReqId) (g : Option Step) → before ++ rows.Started r g ∷ later ≡ [] → ⊥
      none_in [] later r g is = cc
      none_in (b ∷ before) later r g is = cc

      never : (x : Asked) → HasBegun e [] x → ⊥
      never x (inl was) = none_in was.before was.later was.req was.goal (was.among ∙ due.asks.uncut)
      never x (inr was) = none_in was.before was.later was.req was.goal was.among

      begins_none_earlier : begins_no_earlier log l.req l.nav (rows.Started l.req None) ≡ true
      begins_none_earlier =
          let less : nat_lt l.req.0 l.req.0 ≡ false = grind (arith, nat_tests) in
          rw there (rw less refl)

      end_sole : has_no_earlier_load (log_of e (rows.Started l.req None ∷ [])) l.req l.nav ≡ true
      end_sole =
          subst (λ (x : Seen). has_no_earlier_load x l.req l.nav ≡ true) (sym (log_more e [] (rows.Started l.req None)))
          (no_earlier_stays log (row_of e (rows.Started l.req None)) l.req l.nav begins_none_earlier sole_log)

      owes : (r : ReqId) (g : Option Step) → rows.Started l.req None ≡ rows.Started r g → owes_row (here_of e []) (row_of e (rows.Started r g)) (log_of e (rows.Started l.req None ∷ [])) ≡ true
      owes r g same =
          let req_is : r ≡ l.req = cc in
          rw (ap (λ (x : ReqId). request_of log x) req_is ∙ there) end_sole
