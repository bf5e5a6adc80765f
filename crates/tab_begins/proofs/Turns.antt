-- A step of the queue has its turn: what its kind asks, and what is so then.
use Rattle.seen_facts.specs.Load.Loading.{look}
use Rattle.load_table.specs.Loads.{ongoing_load}
use Rattle.load_table.specs.declared.load.Load.{Load}
use Rattle.load_table.specs.declared.phase.Phase.{Phase}
use Rattle.seen_facts.specs.LoadTies.Tying.{HasLoad, IsLoadTied}
use Rattle.log_model.proofs.Refl.{nat_eq_refl}
use Rattle.log_model.specs.ActsAtOnce.{has_document, is_ready_load}
use Rattle.log_model.specs.Equal.{holds}
use Rattle.log_model.specs.History.{History, has_nav}
use Rattle.log_model.specs.Once.{loads, step_at_delta}
use Rattle.log_model.specs.Places.{all_stand, all_stand_in, is_ongoing_load}
use Rattle.row_facts.proofs.Owed.Requests.{req_same}
use Rattle.std.proofs.lemmas.Bool.{and_parts}
use Rattle.std.specs.Option.{option_map_or}
use Rattle.std.specs.Prelude.{map, option_map}
use Rattle.tab_applies.specs.Applying.{MayApply}
use Rattle.tab_begins.proofs.Readies.{ready_phase}
use Rattle.tab_doors.specs.Working.{KeepsRun}
use Rattle.tab_one_pass.proofs.PassedOn.{stand_reached, tied_load}
use Rattle.load_doors.specs.Applying.{new_entry}
use Rattle.navigate_core.specs.Navigations.{change_for}
use Rattle.tab_one_pass.specs.PassedOn.{Drop, IsTab, row_of_drop, AreBlamed, InPass, IsPassing}
use Rattle.tab_one_pass.specs.Passing.{HasPassed, IsLoadOf, IsOpen, KeepsAwake, LoadsLive, MayCause, MayStand, StandOrBare, show_why}
use Rattle.tab_ids.specs.declared.DocId.{DocId}
pub use Rattle.tab_one_pass.proofs.Lives.{live_then, stand_awake}
use Rattle.tab_one_pass.proofs.Stands.{IsReachedAt, reached_at}
use Rattle.load_table.specs.declared.phase.Phase.TheVariants as phases
use Rattle.seen_facts.specs.Hang.Members.{Has}
use Rattle.seen_facts.specs.Home.Homes.{document_in}
use Rattle.log_model.specs.Seen.{Asked, Document, Place, Seen, place_in, request_of}
use Rattle.log_model.specs.declared.change.Change.{Change}
use Rattle.log_model.specs.declared.row_kind.RowKind.{RowKind}
use Rattle.move_queue.specs.declared.queue_step.QueueStep.{QueueStep}
use Rattle.move_queue.specs.declared.queue_step.QueueStep.TheVariants.{Ready, Reload, Traverse}
use Rattle.seen_laws.specs.InEvent.{now_of}
use Rattle.std.proofs.Common.{Bool, List, None, Option, Some, [], ap, append-nil, append_assoc, false, filter, inl, inr, refl, subst, sym, true, ℕ, ℤ, ◌&&◌, ◌++◌, ◌==◌, ◌||◌, ◌∙◌, ◌∷◌, ◌≡◌}
use Rattle.tab_begins.proofs.Queues.{ahead, queue_passed, queue_traversed}
use Rattle.tab_facts.specs.Calm.Calm.{AreRooted, IsCalmAround, UnmovedAreHere}
use Rattle.tab_facts.proofs.Calm.Awakes.{calm_stood}
use Rattle.tab_begins.proofs.Stood.{calm_begun}
use Rattle.tab_begins.specs.Queueing.{HadTurn, HasGrown, HasQueue, IsAppliedNext, IsAtRest, IsCalmFor, IsLoadApplied, IsOfTurn, IsPassedOver, MayFollow, is_ready_in, is_there, is_traverse, load_in}
use Rattle.tab_begins.specs.Taking.{AreOldLoads, GoesOn, HasBegun, HasTaken, IsOver, KeepsMade, KeepsQueue, KeepsStrays, MayTake}
use Rattle.tab_doors.specs.declared.tables.Tables.{Tables}
use Rattle.tab_ids.specs.declared.NavId.{NavId}
use Rattle.tab_ids.specs.declared.ReqId.{ReqId}
use Rattle.tab_ids.specs.declared.StateId.{StateId}
use Rattle.tab_one_pass.proofs.Gives.{show_causes}
use Rattle.tab_applies.specs.PassedOn.{HasGone, IsFirst, IsTurning, MayGoUnasked, WentTo}
use Rattle.log_model.specs.declared.job.Why.TheVariants as whys
use Rattle.log_model.specs.declared.outcome.Denial.TheVariants as denials
use Rattle.log_model.specs.declared.row_kind.RowKind.TheVariants as rows

-- nothing was done
pub made_same : (s : Seen) → KeepsMade s s
made_same s = record { wishes = λ req. refl; documents = refl }

-- one row alone was put out
pub one_each : (kind : RowKind) → IsOfTurn kind → (row : RowKind) → Has (kind ∷ []) row → IsOfTurn row
one_each kind its row (inl is) = subst IsOfTurn is its
one_each kind its row (inr never) = absurd never

module _ (p : InPass) (out : List RowKind) (t : Tables) (passing : IsPassing p out t) (turning : IsTurning p.event out) (stand : all_stand (now_of p.event out) (now_of p.event out).history.current ≡ true) (none : (now_of p.event out).parked ≡ []) (blame : List (StateId × ReqId)) (rests : IsAtRest p.event t.running blame (now_of p.event out)) (step : QueueStep) (rest : List QueueStep) (queue : HasQueue (now_of p.event out) None (step ∷ rest)) where
  abbrev s : Seen
  s = now_of p.event out

  abbrev tab : IsTab t.running p.loads p.hand s
  tab = passing.going.tab

  as_step : (x : QueueStep) → step ≡ x → HasQueue s None (x ∷ rest)
  as_step x is = subst (λ (y : QueueStep). HasQueue s None (y ∷ rest)) is queue

  -- a reload isn't in it
  pub no_reload : (req : ReqId) (nav : NavId) → step ≡ Reload req nav → ⊥
  no_reload req nav is = (as_step (Reload req nav) is).steps (Reload req nav) (inl refl)

  -- ---- a traversal

  module _ (req : ReqId) (delta : ℤ) (is : step ≡ Traverse req delta) (given : ℤ) (same : given ≡ delta) where
    pub its_queue : HasQueue s None (Traverse req delta ∷ rest)
    its_queue = as_step (Traverse req delta) is

    pub traverse_asks : IsPassing p out t × (IsTurning p.event out × ((t.running ≡ None) × (IsFirst s req given × ((all_stand s s.history.current ≡ true) × ((s.parked ≡ []) × HasPassed p.event s)))))
    traverse_asks =
        let first : IsFirst s req given = subst (λ (d : ℤ). IsFirst s req d) (sym same) (ahead s req delta (filter is_traverse rest) its_queue.traversals).0 in
        (passing, (turning, (rests.idle, (first, (stand, (none, rests.passed))))))

    -- where it asks nobody it may have it
    pub traverse_goes : MayGoUnasked p.event out req given → IsPassing p out t × (IsTurning p.event out × ((t.running ≡ None) × (IsFirst s req given × ((all_stand s s.history.current ≡ true) × ((s.parked ≡ []) × (HasPassed p.event s × MayGoUnasked p.event out req given))))))
    traverse_goes unasked =
        let its = traverse_asks in
        (passing, (turning, (rests.idle, (its.1.1.1.0, (stand, (none, (rests.passed, unasked)))))))

    pub traverse_queue : (more : List RowKind) (u : Tables) → HasGone p.event out more t u req given → AreOldLoads s (now_of p.event more) → HasQueue (now_of p.event more) u.running rest
    traverse_queue more u gone were =
        queue_traversed p.event out more t u req delta (subst (λ (d : ℤ). HasGone p.event out more t u req d) same gone) p.loads p.hand (subst (λ (r : Option ReqId). IsTab r p.loads p.hand s) rests.idle passing.going.tab) rests.idle were rest its_queue

  -- after it, where one runs a pass may follow
  module _ (more : List RowKind) (u : Tables) (then_ : IsPassing p more u) (goes : GoesOn p.event u.running (now_of p.event more)) (calm : UnmovedAreHere (now_of p.event more) × AreRooted (now_of p.event more)) (strays : KeepsStrays (now_of p.event out) (now_of p.event more)) (live : LoadsLive (now_of p.event more)) where
    abbrev n : Seen
    n = now_of p.event more

    -- it was refused
    pub after_refused : u.running ≡ None → IsAtRest p.event u.running blame n
    after_refused idle_ =
        record { idle = idle_; passed = subst (λ (r : Option ReqId). GoesOn p.event r n) idle_ goes; strays = strays.left blame rests.strays; loading = live.loading }

    -- it has begun
    pub after_begun : (req : ReqId) → u.running ≡ Some req → MayFollow p.event u.running blame req n
    after_begun req ran =
        record {
          open_ = subst (λ (r : Option ReqId). IsOpen p.event r (whys.Req req) n) (sym ran) (begun.open_ (whys.Req req) its);
          loads = subst (λ (r : Option ReqId). MayStand r n) (sym ran) begun.loads;
          blamed = strays.blamed blame rests.strays;
          calm = subst (λ (r : Option ReqId). IsCalmFor r req n) (sym ran) calm;
          live = live;
        }
      where
        begun : HasBegun p.event req n
        begun = subst (λ (r : Option ReqId). GoesOn p.event r n) ran goes

        its : MayCause n (whys.Req req)
        its = subst (λ (r : Option ReqId). MayCause n (show_why r whys.Start)) ran (show_causes n u.running then_.going.tab.asked whys.Start (λ r never. absurd cc))

    pub begun_came : (req : ReqId) → u.running ≡ Some req → HadTurn out more req u.running × MayFollow p.event u.running blame req n
    begun_came req ran = (subst (HadTurn out more req) (sym ran) refl, after_begun req ran)

  -- as it begins, nobody was moved by it
  pub traverse_calm : (more : List RowKind) (u : Tables) (req : ReqId) (delta : ℤ) → HasGone p.event out more t u req delta → UnmovedAreHere (now_of p.event more) × AreRooted (now_of p.event more)
  traverse_calm more u req delta gone =
      calm_begun s (now_of p.event more) gone.alone.places gone.history (calm_stood s tab.sound tab.hangs tab.homes tab.standing rests.passed.rows_ stand)

  -- all stand still, and for whom orders may be
  pub traverse_over : (more : List RowKind) (u : Tables) (req : ReqId) (delta : ℤ) → HasGone p.event out more t u req delta → IsPassedOver s (now_of p.event more)
  traverse_over more u req delta gone = record { stand = stand_then; causes = gone.alone.causes }
    where
      n : Seen
      n = now_of p.event more

      stand_then : all_stand n n.history.current ≡ true
      stand_then =
          ap (λ (h : History). all_stand_in h.rows n.places h.current) gone.history ∙ ap (λ (l : List Place). all_stand_in s.history.rows l s.history.current) gone.alone.places ∙ stand

  -- ongoing loads live on
  live_now : LoadsLive s
  live_now = record { awake = stand_awake t.running p.loads p.hand s tab rests.passed.walked.loads; loading = rests.loading }

  live_over : (n : Seen) → AreOldLoads s n → KeepsAwake s n → n.documents ≡ s.documents → LoadsLive n
  live_over n were wakes documents =
      live_then s n were wakes (λ state is one. record { doc = one.doc; d = one.d; found = ap (λ (l : List Document). document_in l one.doc) documents ∙ one.found; of_state = one.of_state; there = one.there }) live_now

  pub traverse_live : (more : List RowKind) (u : Tables) (req : ReqId) (delta : ℤ) → HasGone p.event out more t u req delta → AreOldLoads s (now_of p.event more) → LoadsLive (now_of p.event more)
  traverse_live more u req delta gone were =
      live_over (now_of p.event more) were (λ nav doc was. record { place = was.place; placed = ap (λ (l : List Place). place_in l nav) gone.alone.places ∙ was.placed; wakes = was.wakes }) gone.alone.documents

  pub load_live : (more : List RowKind) → KeepsQueue s (now_of p.event more) → KeepsAwake s (now_of p.event more) → LoadsLive (now_of p.event more)
  load_live more kept wakes = live_over (now_of p.event more) kept.loads wakes kept.documents

  -- what was put out
  pub traverse_grown : (more : List RowKind) (u : Tables) (req : ReqId) (delta : ℤ) → HasGone p.event out more t u req delta → HasGrown out more
  traverse_grown more u req delta gone = by_step (step_at_delta s delta) gone.went
    where
      by_step : (o : Option ℕ) → WentTo out more t u req o → HasGrown out more
      by_step None went = record { more = rows.Refused req denials.NoStep ∷ []; is = went.0; each = one_each (rows.Refused req denials.NoStep) tt }
      by_step (Some step_) went =
          record { more = rows.Started req (Some (record { 0 = step_ })) ∷ []; is = went.0; each = one_each (rows.Started req (Some (record { 0 = step_ }))) tt }

  -- what was made, and by whom, is as it was
  pub traverse_made : (more : List RowKind) (u : Tables) (req : ReqId) (delta : ℤ) → HasGone p.event out more t u req delta → KeepsMade s (now_of p.event more)
  traverse_made more u req delta gone =
      record {
        wishes = gone.alone.wishes;
        documents = gone.alone.documents;
      }

  pub traverse_keep : (more : List RowKind) (u : Tables) (req : ReqId) (delta : ℤ) → HasGone p.event out more t u req delta → u.kept.keep ≡ t.kept.keep
  traverse_keep more u req delta gone = by_step (step_at_delta s delta) gone.went
    where
      by_step : (o : Option ℕ) → WentTo out more t u req o → u.kept.keep ≡ t.kept.keep
      by_step None went = ap (λ (x : Tables). x.kept.keep) went.1
      by_step (Some step_) went = ap (λ (x : Tables). x.kept.keep) went.1

  -- ---- a load's step

  module _ (req : ReqId) (nav : NavId) (is : step ≡ Ready req nav) where
    load_queue : HasQueue s None (Ready req nav ∷ rest)
    load_queue = as_step (Ready req nav) is

    -- the table's load
    record IsItsLoad : Type 0 where
      load : Load
      at : ongoing_load nav t.loads ≡ Some load
      req_is : load.req ≡ req
      doc : DocId
      ready : load.phase ≡ phases.Ready doc

    its_load : is_ready_in t.loads nav req ≡ true → IsItsLoad
    its_load ready = by_load (ongoing_load nav t.loads) refl ready
      where
        by_phase : (load : Load) → ongoing_load nav t.loads ≡ Some load → (load.req.0 == req.0) ≡ true → (phase : Phase) → load.phase ≡ phase → is_there phase ≡ true → IsItsLoad
        by_phase load at same (phases.Ready doc) phase h = record { load = load; at = at; req_is = req_same load.req req same; doc = doc; ready = phase }
        by_phase load at same phases.Asking phase h = absurd cc
        by_phase load at same (phases.Populating doc) phase h = absurd cc

        by_load : (o : Option Load) → ongoing_load nav t.loads ≡ o → holds (λ (load : Load). load.req.0 == req.0 && is_there load.phase) o ≡ true → IsItsLoad
        by_load None at h = absurd cc
        by_load (Some load) at h =
            let both = and_parts (load.req.0 == req.0) (is_there load.phase) h in
            by_phase load at both.0 load.phase refl both.1

    module _ (ready : is_ready_in t.loads nav req ≡ true) where
      abbrev chosen : Load
      chosen = load_in t.loads nav req

      is_chosen : (its : IsItsLoad) → chosen ≡ its.load
      is_chosen its = ap (λ (o : Option Load). option_map_or (λ (load : Load). load) o (record { req = req; nav = nav; address = []; replace = false; state = record { 0 = 0 }; phase = phases.Asking })) its.at

      asks_of : IsItsLoad → IsPassing p out t × (IsTurning p.event out × ((ongoing_load nav t.loads ≡ Some chosen) × ((chosen.req ≡ req) × ((t.running ≡ None) × MayTake p.event blame nav chosen s))))
      asks_of its =
          (passing, (turning, (its.at ∙ ap (λ (l : Load). Some l) (sym same), (ap (λ (l : Load). l.req) same ∙ its.req_is, (rests.idle, record { may = subst (λ (l : Load). MayApply p.event s nav l) (sym same) may; passed = rests.passed; strays = rests.strays })))))
        where
          same : chosen ≡ its.load
          same = is_chosen its

          of_it : IsLoadOf s its.load.req nav
          of_it = tied_load s t.loads nav its.load passing.work.loads its.at

          reached : IsReachedAt s nav
          reached = reached_at s nav (stand_reached s rests.passed.walked.loads its.load.req nav of_it)

          may : MayApply p.event s nav its.load
          may =
              record {
                doc = its.doc;
                ready = its.ready;
                placed = reached.each nav (ap (λ (b : Bool). b || has_nav reached.place.above nav) (nat_eq_refl nav.0));
                stand = stand;
                unheld = rests.passed.held its.load.req nav of_it;
                free = turning.free;
              }

      pub load_asks : IsPassing p out t × (IsTurning p.event out × ((ongoing_load nav t.loads ≡ Some chosen) × ((chosen.req ≡ req) × ((t.running ≡ None) × MayTake p.event blame nav chosen s))))
      load_asks = asks_of (its_load ready)

    pub taken_queue_then : (more : List RowKind) (u : Tables) → KeepsQueue s (now_of p.event more) → IsOver (now_of p.event more) req → KeepsRun t u → HasQueue (now_of p.event more) u.running rest
    taken_queue_then more u kept over keeps =
        subst (λ (r : Option ReqId). HasQueue (now_of p.event more) r rest) (sym (keeps.running ∙ rests.idle))
        (queue_passed s (now_of p.event more) kept req nav rest (λ q at ready its. absurd (let never : true ≡ false = sym (and_parts (is_ongoing_load q) (has_document (now_of p.event more) q) ready).0 ∙ over (look q) (ap (option_map look) at) in cc)) load_queue)

    pub stale_queue : is_ready_in t.loads nav req ≡ false → HasQueue s t.running rest
    stale_queue off =
        subst (λ (r : Option ReqId). HasQueue s r rest) (sym rests.idle)
        (queue_passed s s (record { joined = refl; parked = refl; wishes = λ r. refl; documents = refl; loads = λ r l at on. at }) req nav rest unready load_queue)
      where
        by_has : (q : Asked) → request_of s req ≡ Some q → is_ready_load s q ≡ true → HasLoad t.loads nav req → ⊥
        by_has q at ready has =
            let tied : IsLoadTied s has.load = passing.work.loads.there nav has.load has.at in
            let two : Some tied.q ≡ Some q = sym tied.found ∙ ap (λ (r : ReqId). request_of s r) has.req_is ∙ at in
            let one : tied.q ≡ q = cc in
            let phase = ready_phase s passing.going.tab.docs passing.going.tab.whose has.load tied (ap (is_ready_load s) one ∙ ready) in
            let same : (has.load.req.0 == req.0) ≡ true = ap (λ (r : ReqId). r.0 == req.0) has.req_is ∙ nat_eq_refl req.0 in
            let on : is_ready_in t.loads nav req ≡ true = ap (λ (o : Option Load). holds (λ (load : Load). load.req.0 == req.0 && is_there load.phase) o) has.at ∙ rw same (ap is_there phase) in
            let never : true ≡ false = sym on ∙ off in
            cc

        unready : (q : Asked) → request_of s req ≡ Some q → is_ready_load s q ≡ true → loads nav q.what ≡ true → ⊥
        unready q at ready its = by_has q at ready (passing.work.loads.all req q nav at (and_parts (is_ongoing_load q) (has_document s q) ready).0 its)

-- ---- whose turn it was

-- the load's that was applied, and a pass may follow for it
pub after_applied : (p : InPass) (out : List RowKind) (t : Tables) → t.running ≡ None → (nav : NavId) (load : Load) (more : List RowKind) → HasTaken p.event t nav load out more → (req : ReqId) → load.req ≡ req → (u : Tables) → KeepsRun t u → (noted : List (StateId × ReqId)) → IsOpen p.event u.running (whys.Req req) (now_of p.event more) → StandOrBare (now_of p.event more) → AreBlamed (now_of p.event more) noted → IsCalmAround (now_of p.event more) nav → IsLoadApplied (now_of p.event more) nav req → LoadsLive (now_of p.event more) → HadTurn out more req u.running × MayFollow p.event u.running noted req (now_of p.event more)
after_applied p out t idle nav load more taken req is u keeps noted open_ stand blamed around last live = (
  subst (HadTurn out more req) (sym runs) applied,
  record {
    open_ = open_;
    loads = subst (λ (r : Option ReqId). MayStand r n) (sym runs) stand;
    blamed = blamed;
    calm = subst (λ (r : Option ReqId). IsCalmFor r req n) (sym runs) (nav, (around, last));
    live = live;
  },
)
  where
    n : Seen
    n = now_of p.event more

    runs : u.running ≡ None
    runs = keeps.running ∙ idle

    change : Change
    change = change_for load taken.over (new_entry t)

    later : List RowKind
    later = map row_of_drop taken.drops.drops

    applied : IsAppliedNext out more req
    applied =
        record {
          change = change;
          later = later;
          is = taken.drops.is ∙ ap (λ (l : List RowKind). l ++ later) taken.is ∙ append_assoc out (rows.Applied load.req change ∷ []) later ∙ ap (λ (r : ReqId). out ++ rows.Applied r change ∷ later) is;
        }

-- ---- what was put out

-- nothing
pub grown_none : (out : List RowKind) → HasGrown out out
grown_none out = record { more = []; is = sym (append-nil out); each = λ row never. absurd never }

-- the load's row, and drops
pub drops_each : (drops : List Drop) (row : RowKind) → Has (map row_of_drop drops) row → IsOfTurn row
drops_each [] row never = absurd never
drops_each (d ∷ drops) row (inl is) = subst IsOfTurn is tt
drops_each (d ∷ drops) row (inr has) = drops_each drops row has

pub load_grown : (p : InPass) (out : List RowKind) (t : Tables) (nav : NavId) (load : Load) (more : List RowKind) → HasTaken p.event t nav load out more → HasGrown out more
load_grown p out t nav load more taken =
    record {
      more = rows.Applied load.req (change_for load taken.over (new_entry t)) ∷ map row_of_drop taken.drops.drops;
      is = taken.drops.is ∙ ap (λ (l : List RowKind). l ++ map row_of_drop taken.drops.drops) taken.is ∙ append_assoc out (rows.Applied load.req (change_for load taken.over (new_entry t)) ∷ []) (map row_of_drop taken.drops.drops);
      each = each_row;
    }
  where
    each_row : (row : RowKind) → Has (rows.Applied load.req (change_for load taken.over (new_entry t)) ∷ map row_of_drop taken.drops.drops) row → IsOfTurn row
    each_row row (inl is) = subst IsOfTurn is tt
    each_row row (inr has) = drops_each taken.drops.drops row has
