-- A load begins, and the coordinator goes on working; and whether it is to replace the given entry.
use Rattle.checking_facts.proofs.Spent.{unspent_at}
use Rattle.log_model.specs.declared.request.Mode.{Mode}
use Rattle.std.proofs.lemmas.Bool.{or_parts}
use Rattle.std.proofs.lemmas.List.Folds.{list_any-append}
use Rattle.std.specs.List.{list_any}
use Rattle.seen_laws.specs.Owing.{owes_row}
use Rattle.row_facts.specs.LoadRows.Beginning.{begins_no_earlier, IsLoadToBegin}
use Rattle.row_facts.proofs.LoadRows.Earlier.{no_earlier_stays}
use Rattle.unasked_dues.proofs.Sole.{HasBegun, sole_more}
use Rattle.unasked.proofs.Nows.{started_goes}
use Rattle.load_doors.specs.Loading.{IsToBegin, begun_load, is_beginning}
use Rattle.row_facts.proofs.LoadRows.Begins.{begin_load_owing}
use Rattle.load_table.specs.Loads.{KeepsOthers, begun, ongoing_load}
use Rattle.load_table.specs.declared.load.Load.{Load}
use Rattle.seen_facts.proofs.LoadTies.Begins.{begins_tied, begun_own}
use Rattle.seen_facts.specs.LoadTies.Tying.{HasLoad, TiesLoads, made_for}
use Rattle.log_model.proofs.Refl.{nat_eq_refl}
use Rattle.log_model.specs.After.{after}
use Rattle.log_model.specs.AfterRequests.{load_replaces, on_request, request_begun}
use Rattle.log_model.specs.Once.{loads, has_no_earlier_load}
use Rattle.log_model.specs.Places.{is_load, is_ongoing_load, is_traversal}
use Rattle.log_model.specs.Seen.{Asked, Seen, request_in, request_of}
use Rattle.log_model.specs.declared.request.Request.{Request}
use Rattle.log_model.specs.declared.row_kind.RowKind.{RowKind}
use Rattle.seen_facts.proofs.Request.LookUps.{on_itself}
use Rattle.seen_facts.proofs.Request.Readers.{SameReads}
use Rattle.seen_facts.proofs.Coord.Held.{on_else}
use Rattle.seen_laws.proofs.InEvents.{led_here, log_more}
use Rattle.seen_laws.specs.InEvent.{InEvent, here_of, log_of, now_of, row_of}
use Rattle.std.proofs.Common.{Bool, List, None, Option, Some, [], ap, arith, false, inl, inr, refl, subst, sym, true, ℕ, ◌++◌, ◌+◌, ◌==◌, ◌∙◌, ◌∷◌, ◌≡◌}
use Rattle.std.proofs.lemmas.Bool.Decides.{nat_tests}
use Rattle.std.specs.Prelude.{option_map, nat_lt}
use Rattle.seen_laws.proofs.InEvents.{now_is}
use Rattle.seen_laws.specs.Unasked.{unasked_request, without_asks}
use Rattle.unasked.proofs.Readings.{checked_off, request_read}
use Rattle.tab_doors.proofs.Ahead.{IsStep, step_owing}
use Rattle.tab_doors.proofs.EndLaws.{left_holds}
use Rattle.tab_doors.proofs.Requests.{moved_read, moved_same, runs_same}
use Rattle.tab_doors.proofs.Works.{started_held, work_more, BeginsSole}
use Rattle.tab_doors.specs.Look.{look_of, moved_by}
use Rattle.tab_doors.specs.Ties.{Holds}
use Rattle.tab_doors.specs.Working.{HasGoal, IsAtWork}
use Rattle.tab_doors.specs.declared.tables.Tables.{Tables}
use Rattle.tab_ids.specs.declared.NavId.{NavId}
use Rattle.tab_ids.specs.declared.ReqId.{ReqId}
use Rattle.tab_ids.specs.declared.StateId.{StateId}
use Rattle.tab_ids.specs.declared.Step.{Step}
use Rattle.seen_facts.specs.Each.Runs.{is_run, is_this}
use Rattle.log_model.specs.declared.row_kind.RowKind.TheVariants as rows

-- ---- what is read of requests, but for the one that begins

-- a request that begins is read as before, where the one that does is
begun_reads : {B : Type 0} (read : Asked → B) (s : Seen) (req : ReqId) (goal : Option Step) (q : Asked) → request_of s req ≡ Some q → read (request_begun s (record q { is_started = true; goal = goal })) ≡ read q → SameReads read s.requests (on_request req (request_begun s) (on_request req (λ (x : Asked). record x { is_started = true; goal = goal }) s.requests))
begun_reads {B} read s req goal q there same r = by_test (r.0 == req.0) refl
  where
    begin : Asked → Asked
    begin x = record x { is_started = true; goal = goal }

    own : request_in (on_request req (request_begun s) (on_request req begin s.requests)) req ≡ Some (request_begun s (begin q))
    own =
        on_itself (on_request req begin s.requests) req (request_begun s)
        ∙ ap (λ (o : Option Asked). option_map (request_begun s) o) (on_itself s.requests req begin ∙ ap (λ (o : Option Asked). option_map begin o) there)

    by_test : (b : Bool) → (r.0 == req.0) ≡ b → option_map read (request_in (on_request req (request_begun s) (on_request req begin s.requests)) r) ≡ option_map read (request_in s.requests r)
    by_test true is =
        let it : req ≡ r = ap (λ (n : ℕ). let x : ReqId = record { 0 = n } in x) (grind (arith, nat_tests, is)) in
        subst (λ (x : ReqId). option_map read (request_in (on_request req (request_begun s) (on_request req begin s.requests)) x) ≡ option_map read (request_in s.requests x)) it
        (ap (λ (o : Option Asked). option_map read o) own ∙ (ap (λ (b : B). Some b) same ∙ sym (ap (λ (o : Option Asked). option_map read o) there)))
    by_test false is =
        ap (λ (o : Option Asked). option_map read o) (on_else (on_request req begin s.requests) req (request_begun s) r is ∙ on_else s.requests req begin r is)

-- ---- that it is the only one of its navigable

-- where no request has begun among the rows so far, none that began has an earlier load beside it
load_sole : (e : InEvent) (out : List RowKind) (req : ReqId) (nav : NavId) (mode : Mode) (address : List ℕ) (q : Asked) → IsLoadToBegin (here_of e out) req nav mode address q → has_no_earlier_load (log_of e out) req nav ≡ true → list_any is_beginning (e.before ++ out) ≡ false → BeginsSole e out (rows.Started req None)
load_sole e out req nav mode address q due alone first sole =
    sole_more e out (rows.Started req None) (λ x was n stays. absurd (never x was)) sole
    (λ r g same. own r g same)
  where
    none_began : (out before later : List RowKind) (r : ReqId) (g : Option Step) → before ++ rows.Started r g ∷ later ≡ out → list_any is_beginning out ≡ false → ⊥
    none_began [] [] later r g is none = cc
    none_began [] (b ∷ before) later r g is none = cc
    none_began (o ∷ out) [] later r g is none =
        let one : rows.Started r g ≡ o = cc in
        let never : list_any is_beginning (rows.Started r g ∷ out) ≡ false = subst (λ (k : RowKind). list_any is_beginning (k ∷ out) ≡ false) (sym one) none in
        cc
    none_began (o ∷ out) (b ∷ before) later r g is none =
        let rest : before ++ rows.Started r g ∷ later ≡ out = cc in
        none_began out before later r g rest (or_parts (is_beginning o) (list_any is_beginning out) none).1

    -- neither before the cut nor after it
    never : (x : Asked) → HasBegun e out x → ⊥
    never x was =
        let parts = or_parts (list_any is_beginning e.before) (list_any is_beginning out) (sym (list_any-append is_beginning e.before out) ∙ first) in
        by_part parts.0 parts.1 was
      where
        by_part : list_any is_beginning e.before ≡ false → list_any is_beginning out ≡ false → HasBegun e out x → ⊥
        by_part old new (inl was) = none_began e.before was.before was.later was.req was.goal was.among old
        by_part old new (inr was) = none_began out was.before was.later was.req was.goal was.among new

    begins_none_earlier : begins_no_earlier (log_of e out) req nav (rows.Started req None) ≡ true
    begins_none_earlier =
        let less : nat_lt q.nr.0 req.0 ≡ false = grind (arith, nat_tests, due.number) in
        rw (due.at) (rw less refl)

    end_sole : has_no_earlier_load (log_of e (out ++ rows.Started req None ∷ [])) req nav ≡ true
    end_sole =
        subst (λ (s : Seen). has_no_earlier_load s req nav ≡ true) (sym (log_more e out (rows.Started req None)))
        (no_earlier_stays (log_of e out) (row_of e (rows.Started req None)) req nav begins_none_earlier alone)

    own : (r : ReqId) (g : Option Step) → rows.Started req None ≡ rows.Started r g → owes_row (here_of e out) (row_of e (rows.Started r g)) (log_of e (out ++ rows.Started req None ∷ [])) ≡ true
    own r g same =
        let req_is : r ≡ req = cc in
        rw (ap (λ (x : ReqId). request_of (log_of e out) x) req_is ∙ due.at) (rw (due.what) (rw (due.number) end_sole))

-- ---- the row

module _ (e : InEvent) (out : List RowKind) (t : Tables) (req : ReqId) (nav : NavId) (replace : Bool) (address : List ℕ) (next : List Load) (work : IsAtWork e out t) (off : e.checking req ≡ false) (its : IsToBegin e out t.loads req nav replace address) (loads_ : next ≡ begun (begun_load req nav replace address (t.states + 1)) t.loads) (others : KeepsOthers nav t.loads next) where
  abbrev s : Seen
  s = now_of e out

  abbrev then_begun : Seen
  then_begun = after s (row_of e (rows.Started req None))

  abbrev pub with_begun : Tables
  with_begun = record t { loads = next; states = t.states + 1 }

  abbrev load : Load
  load = begun_load req nav replace address (t.states + 1)

  -- the request as it would be had nobody been asked
  abbrev bare : Asked
  bare = without_asks its.q

  there : request_of s req ≡ Some bare
  there =
      ap (λ (x : Seen). request_of x req) (now_is e out)
      ∙ request_read e.checking (log_of e out) req
      ∙ ap (λ (o : Option Asked). option_map (unasked_request e.checking) o) its.due.at
      ∙ ap (λ (q : Asked). Some q) (checked_off e.checking its.q (ap e.checking its.due.number ∙ off))

  same_states : t.states ≡ s.states
  same_states = work.holds.states

  begin_step : IsStep None None e out (rows.Started req None)
  begin_step =
      step_owing e out (rows.Started req None) (λ r. refl) (started_held e out req None) (λ later both. begin_load_owing (here_of e out) e.event e.actor req nav its.mode address its.q (led_here e out work.own) its.due later (both.0.0 req (nat_eq_refl req.0), both.1))

  same_reads : {B : Type 0} (read : Asked → B) → read (request_begun s (record bare { is_started = true; goal = None })) ≡ read bare → SameReads read s.requests then_begun.requests
  same_reads read same = begun_reads read s req None bare there same

  -- it is no traversal
  no_traversal : {P : Type 0} (q : Asked) → request_of (log_of e out) req ≡ Some q → is_traversal q.what ≡ true → P
  no_traversal q at traverses =
      let both : Some its.q ≡ Some q = sym its.due.at ∙ at in
      let one : its.q ≡ q = cc in
      let never : false ≡ true = sym (ap is_traversal its.due.what) ∙ ap (λ (x : Asked). is_traversal x.what) one ∙ traverses in
      absurd cc

  is_a_load : is_load bare.what ≡ true
  is_a_load = ap is_load its.due.what

  runs_none : is_run (request_begun s (record bare { is_started = true; goal = None })) ≡ is_run bare
  runs_none = rw its.due.what (rw its.due.open_ (rw its.due.unstarted refl))

  own : ongoing_load nav next ≡ Some load
  own = ap (λ (l : List Load). ongoing_load nav l) loads_ ∙ begun_own load t.loads

  ties : TiesLoads then_begun next
  ties =
      begins_tied s e.event e.actor t.loads next work.loads load bare its.mode there its.due.what its.due.unstarted its.due.open_ (ap (λ (n : ℕ). n + 1) same_states) (its.handling ∙ ap (λ (w : Request). load_replaces s w) (sym its.due.what)) refl
      (subst (λ (n : ℕ). made_for s.documents (let x : StateId = record { 0 = n + 1 } in x) ≡ None) (sym same_states) its.unmade) alone own others
    where
      alone : (r : ReqId) (other : Asked) → request_of s r ≡ Some other → is_ongoing_load other ≡ true → loads nav other.what ≡ true → ⊥
      alone r other at on of =
          let has : HasLoad t.loads nav r = work.loads.all r other nav at on of in
          let never : None ≡ Some has.load = sym its.none_ ∙ has.at in cc

  pub begin_load_work : IsAtWork e (out ++ rows.Started req None ∷ []) with_begun
  begin_load_work =
      work_more e out (rows.Started req None) None t with_begun work (started_goes e out req None (work.checks.numbered req) off) soles (λ by q r at there_ other traverses on runs. no_traversal q at traverses) (inl off, unspent_at (log_of e out) req its.q its.due.at its.due.open_ its.due.unstarted)
      (record {
        navs = record { navs = as_before.navs.navs; order = as_before.navs.order };
        documents = as_before.documents;
        whose = as_before.whose;
        shown = as_before.shown;
        last = as_before.last;
        history = as_before.history;
        numbered = as_before.numbered;
        states = ap (λ (n : ℕ). n + 1) same_states ∙ sym next_state;
        entries = as_before.entries;
        sent = as_before.sent;
      })
      (runs_same s.requests then_begun.requests t.running (same_reads is_run runs_none) work.runs)
      goal_then
      work.few
      work.initial
      ties
      work.kept
      off
      begin_step
      refl
      refl
      (inl refl)
    where
      soles : BeginsSole e out (rows.Started req None)
      soles sole = load_sole e out req nav its.mode address its.q its.due its.sole its.first sole

      next_state : then_begun.states ≡ s.states + 1
      next_state = rw there (rw is_a_load refl)

      moved : moved_by then_begun.requests t.running ≡ moved_by s.requests t.running
      moved = moved_same s.requests then_begun.requests t.running (same_reads moved_read refl)

      -- all that the tables tell is as it was, but for how many document states were numbered
      as_before : Holds (let x = look_of then_begun t.running in record x { states = s.states }) t
      as_before = left_holds (look_of s t.running) (let x = look_of then_begun t.running in record x { states = s.states }) t refl refl refl moved refl refl refl work.holds

      -- no traversal that runs is this request
      never : (r : ReqId) → t.running ≡ Some r → (r.0 == req.0) ≡ true → ⊥
      never r is same =
          let it : r ≡ req = ap (λ (n : ℕ). let x : ReqId = record { 0 = n } in x) (grind (arith, nat_tests, same)) in
          let only : is_run bare ≡ is_this t.running req = work.runs.only req bare there in
          let runs_ : is_this t.running req ≡ true = ap (λ (o : Option ReqId). is_this o req) is ∙ same in
          let none : is_run bare ≡ false = rw its.due.unstarted refl in
          let no_ : false ≡ true = sym none ∙ only ∙ runs_ in
          cc

      goal_then : HasGoal then_begun.requests t.running t.goal
      goal_then r q is at = by_test (r.0 == req.0) refl
        where
          found : request_in then_begun.requests r ≡ Some q
          found = at

          by_test : (b : Bool) → (r.0 == req.0) ≡ b → q.goal ≡ Some t.goal
          by_test false apart =
              work.goal r q is (sym (on_else (on_request req (λ (x : Asked). record x { is_started = true; goal = None }) s.requests) req (request_begun s) r apart ∙ on_else s.requests req (λ (x : Asked). record x { is_started = true; goal = None }) r apart) ∙ found)
          by_test true same = absurd (never r is same)
