-- One part of a pass after the other: what it leaves, and what goes on.
use Rattle.log_model.specs.Equal.{holds}
use Rattle.tab_facts.proofs.Calm.Loads.{loads_same}
use Rattle.tab_facts.specs.Calm.Loads.{LoadsHaveDocuments}
use Rattle.tab_facts.specs.Frame.Lasting.{Wish, wish}
use Rattle.seen_facts.specs.Home.Homes.{document_in}
use Rattle.seen_facts.proofs.Request.Readers.{reads_then}
use Rattle.tab_sweeps.proofs.Loads.{loaded_never, unloaded_by}
use Rattle.seen_facts.specs.Asked.Asking.{ArePlain}
use Rattle.tab_facts.proofs.Calm.Sames.{keeps_none, keeps_then}
use Rattle.tab_facts.specs.Calm.Calm.{KeepsCalm}
use Rattle.tab_facts.specs.FrameWhole.Tab.{AreAwakeWithRows}
use Rattle.seen_facts.specs.LoadEnds.Standing.{LoadsStand, is_reached}
use Rattle.seen_facts.specs.Load.Loading.{Look, is_ongoing, look, look_of}
use Rattle.log_model.specs.Checks.{may_go_on}
use Rattle.log_model.specs.History.{History, has_row}
use Rattle.log_model.specs.Orders.{is_usable, ongoing_load}
use Rattle.log_model.specs.Places.{aim_of, all_stand, all_stand_in, is_ongoing_load}
use Rattle.log_model.specs.Seen.{Asked, Document, Place, Seen, awake, document_of, place_of, request_in, request_of, place_in}
use Rattle.log_model.specs.declared.job.Why.{Why}
use Rattle.log_model.specs.declared.row_kind.RowKind.{RowKind}
use Rattle.seen_facts.proofs.Mover.Stays.{KeepWays}
use Rattle.seen_laws.specs.InEvent.{InEvent, now_of}
use Rattle.std.proofs.Common.{List, None, Option, Some, [], ap, false, inl, inr, map, refl, subst, sym, true, ℕ, ◌∙◌, ◌≡◌, ◌⊎◌}
use Rattle.std.specs.List.{list_any}
use Rattle.std.specs.Prelude.{is_some, option_map}
use Rattle.tab_drops.specs.Dropping.{LeavesAll}
use Rattle.tab_ids.specs.declared.DocId.{DocId}
use Rattle.tab_ids.specs.declared.NavId.{NavId}
use Rattle.tab_ids.specs.declared.ReqId.{ReqId}
use Rattle.tab_ids.specs.declared.StateId.{StateId}
use Rattle.tab_one_pass.proofs.Calms.{drops_calm, swept_loads, told_calm, told_loads}
use Rattle.tab_one_pass.proofs.Opens.{place_same, serve_on, takers_on}
use Rattle.tab_one_pass.proofs.Sents.{IsAnyTask, WasStray, joined_same, looks_same, strays_over, usable_before, were_same, discarded_over}
use Rattle.tab_one_pass.specs.Passing.{AreLeftStrays, HasPassed, IsLeftStray, IsOpen, LeavesPass}
pub use Rattle.tab_serves.proofs.PassedOn.{goes_on}
use Rattle.tab_serves.proofs.Calms.{only_as}
use Rattle.tab_serves.proofs.Ups.{up_places, up_then}
use Rattle.tab_serves.specs.Serving.{FreesVisited, HasOnly, HasOnlyServed, HasWalked, IsOfWalk, KeepsUp, LeavesLog, MayCause, MayWalk, StillAwake}
use Rattle.tab_serves.specs.PassedOn.{HasOnlyTold, IsToldMore, IsUpdateFor}
use Rattle.tab_serves.proofs.Orders.{IsOrderOf, taken_over, walk_orders, walk_quiet, tells_quiet}
pub use Rattle.tab_drops.proofs.Turns.{reached_same}
use Rattle.tab_serves.proofs.Reached.{loads_stand_still}
use Rattle.tab_sweeps.specs.Sweeping.{AreBlamed, IsSweptTurn}
use Rattle.row_facts.proofs.WalkRows.Sinces.{places_since}
use Rattle.row_facts.specs.WalkRows.Since.{AwakeSince, WasAwake}
use Rattle.log_model.specs.declared.row_kind.RowKind.TheVariants as rows

-- ---- what is left

-- what a request asks, read off its wish or its look
wish_what : (o : Option Asked) → option_map (λ (w : Wish). w.what) (option_map wish o) ≡ option_map (λ (q : Asked). q.what) o
wish_what None = refl
wish_what (Some q) = refl

look_what : (o : Option Asked) → option_map (λ (l : Look). l.what) (option_map look o) ≡ option_map (λ (q : Asked). q.what) o
look_what None = refl
look_what (Some q) = refl

pub left_none : (s : Seen) → LeavesPass s s
left_none s =
    record { history = refl; aim = refl; parked = refl; joined = refl; loads = λ req l at on. at; others = λ req l at off. at; whats = λ r. refl; causes = λ why may. may; ready = λ state some. some; calms = keeps_none s; up = up_places s s refl; loading = λ are. are }

pub left_then : (s t u : Seen) → LeavesPass s t → LeavesPass t u → LeavesPass s u
left_then s t u one two =
    record {
      history = two.history ∙ one.history;
      aim = two.aim ∙ one.aim;
      parked = two.parked ∙ one.parked;
      joined = two.joined ∙ one.joined;
      loads = λ req l at on. one.loads req l (two.loads req l at on) on;
      others = λ req l at off. two.others req l (one.others req l at off) off;
      whats = reads_then (λ (q : Asked). q.what) s.requests t.requests u.requests one.whats two.whats;
      causes = λ why may. two.causes why (one.causes why may);
      ready = λ state some. one.ready state (two.ready state some);
      calms = keeps_then s t u one.history one.aim one.calms two.calms;
      up = up_then s t u one.history one.aim two.history one.calms one.up two.up;
      loading = λ are. two.loading (one.loading are);
    }

-- where loads gave way
pub left_drops : (s t : Seen) → LeavesAll s t → LeavesPass s t
left_drops s t left =
    record {
      history = left.history;
      aim = left.aim;
      parked = left.parked;
      joined = left.joined;
      loads = left.loads;
      others = λ req l at off. by_found req l off (request_of s req) refl at;
      whats = λ r. sym (wish_what (request_in t.requests r)) ∙ ap (option_map (λ (w : Wish). w.what)) (left.wishes r) ∙ wish_what (request_in s.requests r);
      causes = left.orders;
      ready = λ state some. ap (λ (l : List Document). list_any (λ (d : Document). is_usable d state) l) (sym left.documents) ∙ some;
      calms = drops_calm s t left;
      up = up_places s t left.places;
      loading = loads_same s t left.loads (λ doc. ap (λ (l : List Document). document_in l doc) left.documents);
    }
  where
    by_found : (req : ReqId) (l : Look) → is_ongoing l ≡ false → (o : Option Asked) → request_of s req ≡ o → option_map look o ≡ Some l → look_of t req ≡ Some l
    by_found req l off None there is = absurd cc
    by_found req l off (Some q) there is =
        let same : look q ≡ l = cc in
        let still : request_of t req ≡ Some q = left.others req q there (ap is_ongoing same ∙ off) in
        ap (λ (o : Option Asked). option_map look o) still ∙ is

-- a state of an ongoing load was one before
pub loaded_before : (s t : Seen) → LeavesPass s t → (state : StateId) → is_some (ongoing_load t state) ≡ true → is_some (ongoing_load s state) ≡ true
loaded_before s t left state some = by_load (ongoing_load s state) refl
  where
    by_look : (req : ReqId) (q : Asked) (own : StateId) → ongoing_load s state ≡ None → is_ongoing_load q ≡ true → q.state ≡ Some own → own.0 ≡ state.0 → (o : Option Asked) → request_in s.requests req ≡ o → option_map look o ≡ Some (look q) → ⊥
    by_look req q own none on is same None at h = absurd cc
    by_look req q own none on is same (Some old) at h =
        let one : look old ≡ look q = cc in
        loaded_never s state none req old own at (ap is_ongoing one ∙ on) (ap (λ (l : Look). l.state) one ∙ is) same

    never : ongoing_load s state ≡ None → (req : ReqId) (q : Asked) (own : StateId) → request_in t.requests req ≡ Some q → is_ongoing_load q ≡ true → q.state ≡ Some own → own.0 ≡ state.0 → ⊥
    never none req q own at on is same =
        by_look req q own none on is same (request_in s.requests req) refl (left.loads req (look q) (ap (λ (o : Option Asked). option_map look o) at) on)

    by_load : (o : Option Asked) → ongoing_load s state ≡ o → is_some (ongoing_load s state) ≡ true
    by_load (Some q) is = ap (λ (o : Option Asked). is_some o) is
    by_load None is =
        let none : ongoing_load t state ≡ None = unloaded_by t state (never is) in
        let gone : true ≡ false = sym some ∙ ap (λ (o : Option Asked). is_some o) none in
        absurd cc

-- where orders were sent
pub left_orders : (e : InEvent) (was out : List RowKind) → HasOnly (IsOrderOf IsAnyTask) was out → (now_of e out).history ≡ (now_of e was).history → aim_of (now_of e out) ≡ aim_of (now_of e was) → (now_of e out).parked ≡ (now_of e was).parked → ((why : Why) → MayCause (now_of e was) why → MayCause (now_of e out) why) → KeepsCalm (now_of e was) (now_of e out) → KeepsUp (now_of e was) (now_of e out) → (LoadsHaveDocuments (now_of e was) → LoadsHaveDocuments (now_of e out)) → LeavesPass (now_of e was) (now_of e out)
left_orders e was out only history aim parked causes calms up loading =
    record {
      history = history;
      aim = aim;
      parked = parked;
      joined = joined_same e was out only;
      loads = λ req l at on. sym (looks_same e was out only req) ∙ at;
      others = λ req l at off. looks_same e was out only req ∙ at;
      whats = λ r. sym (look_what (request_in (now_of e out).requests r)) ∙ ap (option_map (λ (l : Look). l.what)) (looks_same e was out only r) ∙ look_what (request_in (now_of e was).requests r);
      causes = causes;
      ready = λ state. usable_before e was out only state;
      calms = calms;
      up = up;
      loading = loading;
    }

-- ---- orders

pub any_orders : (was out : List RowKind) → HasOnly (IsOrderOf IsOfWalk) was out → HasOnly (IsOrderOf IsAnyTask) was out
any_orders was out only =
    only_as (IsOrderOf IsOfWalk) (IsOrderOf IsAnyTask) was out (λ row it. record { job = it.job; is = it.is; task = walk_quiet it.job.task it.task }) only

pub told_orders : (why : Why) (was out : List RowKind) → HasOnlyTold why was out → HasOnly (IsOrderOf IsAnyTask) was out
told_orders why was out only = only_as (IsUpdateFor why) (IsOrderOf IsAnyTask) was out one only
  where
    one : (row : RowKind) → IsUpdateFor why row → IsOrderOf IsAnyTask row
    one (rows.Sent job) is = record { job = job; is = refl; task = tells_quiet job.task is.1 }
    one _ is = absurd is

-- stray documents that are left stay so
pub strays_left : (e : InEvent) (was out : List RowKind) (blame : List (StateId × ReqId)) → HasOnly (IsOrderOf IsAnyTask) was out → (now_of e out).history ≡ (now_of e was).history → ((why : Why) → MayCause (now_of e was) why → MayCause (now_of e out) why) → AreLeftStrays (now_of e was) blame → AreLeftStrays (now_of e out) blame
strays_left e was out blame only history causes left doc state stray =
    record {
      req = it.req;
      noted = it.noted;
      may = serve_on (now_of e was) (now_of e out) it.req causes it.may;
      bare = λ d at. (let both : Some d ≡ Some stray.document = sym at ∙ stray.found in let same : d ≡ stray.document = cc in ap (λ (x : Document). has_row x.nav (now_of e out).history.rows) same ∙ ap (λ (h : History). has_row stray.document.nav h.rows) history ∙ ap (λ (n : NavId). has_row n (now_of e was).history.rows) (sym before.nav_is) ∙ it.bare before.stray.document before.stray.found);
    }
  where
    before : WasStray (now_of e was) doc state stray.document.nav
    before = strays_over e was out only doc state stray

    it : IsLeftStray (now_of e was) blame doc state
    it = left doc state before.stray

-- nobody is awake on one, so another pass may begin with them
pub left_blamed : (s : Seen) (blame : List (StateId × ReqId)) → AreAwakeWithRows s → ((nav : NavId) (place : Place) (doc : DocId) (d : Document) → place_of s nav ≡ Some place → place.status ≡ awake doc → document_of s doc ≡ Some d → d.nav ≡ place.nav) → AreLeftStrays s blame → AreBlamed s blame
left_blamed s blame with_rows own left doc state stray =
    record {
      req = it.req;
      noted = it.noted;
      may = it.may;
      moves = λ nav place other under placed wakes at is. absurd (let never : true ≡ false = sym (with_rows nav place doc placed wakes) ∙ ap (λ (n : NavId). has_row n s.history.rows) (sym (own nav place doc stray.document placed wakes stray.found)) ∙ it.bare stray.document stray.found in cc);
      leaves = λ nav place placed wakes. absurd (let never : true ≡ false = sym (with_rows nav place doc placed wakes) ∙ ap (λ (n : NavId). has_row n s.history.rows) (sym (own nav place doc stray.document placed wakes stray.found)) ∙ it.bare stray.document stray.found in cc);
    }
  where
    it : IsLeftStray s blame doc state
    it = left doc state stray

-- ---- the walk

pub may_walk : (e : InEvent) (run : Option ReqId) (keep : ℕ) (cause : Why) (s : Seen) → IsOpen e run cause s → AreAwakeWithRows s → LoadsStand s → keep ≡ e.header.keep → FreesVisited e s → MayWalk e run keep cause s
may_walk e run keep cause s so with_rows stand header frees =
    record {
      may = so.may;
      since = so.since;
      unwoken = so.unwoken;
      still = so.still;
      moves = so.moves;
      leavers = so.leavers;
      frees = frees;
      rows_ = with_rows;
      were = so.were;
      parents = so.parents;
      loads = stand;
      header = header;
    }

-- ---- who is awake is told

module _ (e : InEvent) (run : Option ReqId) (why : Why) (was out : List RowKind) (only : HasOnlyTold why was out) (more : IsToldMore (now_of e was) (now_of e out)) (asked : ArePlain run (now_of e out)) where
  abbrev s : Seen
  s = now_of e was

  abbrev t : Seen
  t = now_of e out

  orders : HasOnly (IsOrderOf IsAnyTask) was out
  orders = told_orders why was out only

  request_same : (req : ReqId) → request_of t req ≡ request_of s req
  request_same req = ap (λ (l : List Asked). request_in l req) more.requests

  -- orders may be for whom they might be
  pub told_causes : (cause : Why) → MayCause s cause → MayCause t cause
  told_causes cause may req is =
      record {
        goes = by_found (request_of s req) refl (may req is).goes;
        begun = λ q at. (may req is).begun q (sym (request_same req) ∙ at);
      }
    where
      by_found : (o : Option Asked) → request_of s req ≡ o → may_go_on s req ≡ true → may_go_on t req ≡ true
      by_found None none goes =
          let no_ : may_go_on s req ≡ false = rw none refl in
          let never : false ≡ true = sym no_ ∙ goes in absurd cc
      by_found (Some q) at goes = goes_on t run asked req q (request_same req ∙ at)

  told_since : AwakeSince e.start [] s → AwakeSince e.start [] t
  told_since since = places_since e.start s [] since t more.places

  told_still : StillAwake e.start s → StillAwake e.start t
  told_still still nav place doc at wakes = by_case (still nav place doc at wakes)
    where
      by_case : WasAwake s nav doc ⊎ (holds (λ (d : Document). d.is_discarded) (document_of s doc) ≡ true) → WasAwake t nav doc ⊎ (holds (λ (d : Document). d.is_discarded) (document_of t doc) ≡ true)
      by_case (inl was) = inl (record { place = was.place; placed = ap (λ (l : List Place). place_in l nav) more.places ∙ was.placed; wakes = was.wakes })
      by_case (inr gone) = inr (discarded_over e was out orders doc gone)

  told_stood : all_stand t (aim_of t) ≡ all_stand s (aim_of s)
  told_stood =
      ap (λ (h : History). all_stand_in h.rows t.places (aim_of t)) more.history
      ∙ ap (λ (l : List Place). all_stand_in s.history.rows l (aim_of t)) more.places
      ∙ ap (λ (n : ℕ). all_stand_in s.history.rows s.places n) more.aim

  place_then : (nav : NavId) → place_of t nav ≡ place_of s nav
  place_then nav = place_same s t more.places more.history more.aim nav

  reached_then : (nav : NavId) → is_reached s nav ≡ true → is_reached t nav ≡ true
  reached_then nav is = reached_same s t more.places more.history more.aim nav is

  told_walked : HasWalked e s → HasWalked e t
  told_walked so =
      record {
        since = record { distinct = so.since.distinct; homed = so.since.homed; ways = subst (λ (l : List Place). KeepWays e.start.places l) (sym more.places) so.since.ways };
        unwoken = λ all. told_since (so.unwoken (sym told_stood ∙ all));
        still = λ all. told_still (so.still (sym told_stood ∙ all));
        were = were_same e was out orders so.were;
        parents = λ nav above place up placed has there. so.parents nav above place up (sym (place_then nav) ∙ placed) has (sym (place_then above) ∙ there);
        loads = loads_stand_still s t (ap (map look) more.requests) reached_then so.loads;
      }

  pub told_passed : HasPassed e s → HasPassed e t
  told_passed so =
      record {
        walked = told_walked so.walked;
        held = λ req nav load. so.held req nav (record { look = load.look; at = sym (looks_same e was out orders req) ∙ load.at; ongoing = load.ongoing; loads_it = load.loads_it });
        takers = takers_on s t told_causes (λ nav. ap (λ (o : Option Place). option_map (λ (p : Place). p.taken_by) o) (place_then nav)) so.takers;
        rows_ = λ nav place doc at wakes. ap (λ (h : History). has_row place.nav h.rows) more.history ∙ so.rows_ nav place doc (sym (place_then nav) ∙ at) wakes;
      }

  pub told_left : LeavesPass s t
  told_left =
      left_orders e was out orders more.history more.aim more.parked told_causes (told_calm e why was out only more) (up_places s t more.places) (told_loads e why was out only)

-- ---- those who need it are served

module _ (e : InEvent) (run : Option ReqId) (cause : Why) (was out : List RowKind) (only : HasOnlyServed run cause was out) (left : LeavesLog (now_of e was) (now_of e out)) where
  walked_orders : HasOnly (IsOrderOf IsAnyTask) was out
  walked_orders = any_orders was out (walk_orders run cause was out only)

  pub walked_passed : IsOpen e run cause (now_of e was) → AreAwakeWithRows (now_of e was) → HasWalked e (now_of e out) → HasPassed e (now_of e out)
  walked_passed so with_rows walked =
      record {
        walked = walked;
        held = λ req nav load. so.held req nav (record { look = load.look; at = sym (looks_same e was out walked_orders req) ∙ load.at; ongoing = load.ongoing; loads_it = load.loads_it });
        takers = takers_on (now_of e was) (now_of e out) left.causes (taken_over e was out (walk_orders run cause was out only)) so.takers;
        rows_ = left.rows_ with_rows;
      }

  pub walked_left : LeavesPass (now_of e was) (now_of e out)
  walked_left =
      left_orders e was out walked_orders left.history left.aim left.parked left.causes left.calms left.up left.loading

  pub walked_strays : (blame : List (StateId × ReqId)) → AreLeftStrays (now_of e was) blame → AreLeftStrays (now_of e out) blame
  walked_strays blame = strays_left e was out blame walked_orders left.history left.causes

-- ---- documents were discarded

pub swept_left : (e : InEvent) (was out : List RowKind) → HasOnly (IsOrderOf IsOfWalk) was out → IsSweptTurn (now_of e was) (now_of e out) → KeepsCalm (now_of e was) (now_of e out) → KeepsUp (now_of e was) (now_of e out) → LeavesPass (now_of e was) (now_of e out)
swept_left e was out only turn calms up =
    left_orders e was out (any_orders was out only) turn.history turn.aim turn.parked turn.causes calms up (swept_loads (now_of e was) (now_of e out) turn)
