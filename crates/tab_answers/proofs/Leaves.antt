-- A request that neither runs nor is an ongoing load is dropped: all is as it was but for how it ended, and the coordinator's notes for stray documents serve still.
use Rattle.load_doors.specs.Tied.{AreTied}
use Rattle.log_model.specs.ActsAtOnce.{is_ready_load}
use Rattle.log_model.specs.After.{after}
use Rattle.log_model.specs.AfterRequests.{without_req}
use Rattle.log_model.specs.Checks.{is_checked}
use Rattle.log_model.specs.Equal.{has_req, holds, implies}
use Rattle.log_model.specs.History.{has_nav}
use Rattle.log_model.specs.Once.{loads as loads_of}
use Rattle.log_model.specs.Orders as orders
use Rattle.log_model.specs.Places.{has_passed, is_load, is_moved, is_ongoing_load}
use Rattle.log_model.specs.Points.{nav_of_request}
use Rattle.log_model.specs.Seen.{Asked, Seen, request_in, request_of}
use Rattle.log_model.specs.declared.made.Made.{Made}
use Rattle.log_model.specs.declared.outcome.Cause.{Cause}
use Rattle.log_model.specs.declared.outcome.Ending.TheVariants as endings
use Rattle.log_model.specs.declared.request.Request.{Request}
use Rattle.log_model.specs.declared.row_kind.Actor.{Actor}
use Rattle.log_model.specs.declared.row_kind.LogRow.{LogRow}
use Rattle.log_model.specs.declared.row_kind.RowKind.TheVariants as rows
use Rattle.move_queue.specs.Queue.{Queue}
use Rattle.row_facts.proofs.Left.Rows.{were_shown}
use Rattle.seen_facts.proofs.Asked.Running.{run_in, running_is}
use Rattle.seen_facts.proofs.Coord.Held.{on_else, without_same}
use Rattle.seen_facts.proofs.Coord.Unread.{dropped_held}
use Rattle.seen_facts.proofs.Each.Courses.{was_asked}
use Rattle.seen_facts.proofs.Each.Runs.{none_passes}
use Rattle.seen_facts.proofs.Hang.Members.{has_found}
use Rattle.seen_facts.proofs.Load.Rows.{req_same}
use Rattle.seen_facts.proofs.Request.LookUps.{on_itself}
use Rattle.seen_facts.proofs.Request.Readers.{on_read}
use Rattle.seen_facts.proofs.Rest.Stands.{request_has}
use Rattle.seen_facts.specs.Each.Runs.{OnlyRuns, is_this}
use Rattle.tab_facts.specs.Calm.Loads.{LoadsHaveDocuments}
use Rattle.seen_facts.specs.Load.Loading.{Look, is_ongoing, look, look_of}
use Rattle.std.proofs.Common.{Bool, List, None, Option, Some, [], ap, arith, false, inl, length, refl, subst, sym, true, ℕ, ◌&&◌, ◌+◌, ◌<◌, ◌==◌, ◌∙◌, ◌≡◌}
use Rattle.std.proofs.lemmas.List.{map-id}
use Rattle.std.specs.Prelude.{option_map}
use Rattle.tab_answers.proofs.AtHand.{between_left, going_left, idle_hand, left, unjoined_hand, unparked_hand}
use Rattle.tab_answers.proofs.TiedLeft.{tied_left}
use Rattle.tab_doors.specs.declared.tables.Tables.{Tables}
use Rattle.tab_facts.proofs.TabWhole.Refusing.{load_other}
use Rattle.tab_facts.specs.TabEvents.Between.{IsBetweenChecks}
use Rattle.tab_facts.specs.TabGoing.Going.{IsGoing}
use Rattle.tab_ids.specs.declared.NavId.{NavId}
use Rattle.tab_ids.specs.declared.ReqId.{ReqId}
use Rattle.tab_ids.specs.declared.StateId.{StateId}
use Rattle.tab_settles.specs.Settling.{IsCalmAfter}
use Rattle.tab_stands.proofs.Coming.{IsAlike, IsComing, calm_then, parents_then, takers_then}
use Rattle.tab_stands.proofs.LateEvents.{late_first, off_of}
use Rattle.tab_stands.proofs.MovedEvents.{moved_coming}
use Rattle.tab_stands.proofs.Orders.{keeps_coming, makes_after, sound_after}
use Rattle.tab_stands.proofs.PassedOn.{course_of, out_alike, queue_over, unstood_by}
use Rattle.tab_stands.specs.Offs.{AreShownOnce}
use Rattle.tab_stands.specs.PassedOn.{AreLeftStrays, HasQueue, IsReadyLoadOf, IsStray, LoadsMadeOwn, MayServe}
use Rattle.tab_stands.specs.Standing.{HasRoomFor, InCheck, Lasts, StandsFor}

some_same : {A : Type 0} {a b : A} → (let o : Option A = Some a in o) ≡ Some b → a ≡ b
some_same e = cc

-- what a request asks, and what was made of it
record AsksMade : Type 0 where
  what : Request
  made : Option Made

abbrev asks_made : Asked → AsksMade
asks_made x = record { what = x.what; made = x.made }

module _ (s : Seen) (t : Tables) (queue : Queue) (blame : List (StateId × ReqId)) {check : InCheck} (stands : StandsFor check s t queue blame) (req : ReqId) (q : Asked) (found : request_of s req ≡ Some q) (idle : is_ongoing_load q ≡ false) (other : is_this t.running req ≡ false) (event : ℕ) (actor : Actor) (cause : Cause) where
  abbrev run : Option ReqId
  run = t.running

  abbrev row : LogRow
  row = record { event = event; actor = actor; row = rows.Dropped req cause }

  -- the log then
  abbrev pub n : Seen
  n = after s row

  abbrev drop : Asked → Asked
  drop x = record x { ending = Some (endings.Dropped cause) }

  -- ---- the requests then

  pub own : request_of n req ≡ Some (drop q)
  own = on_itself s.requests req drop ∙ ap (λ (o : Option Asked). option_map drop o) found

  pub others : (r : ReqId) → (r.0 == req.0) ≡ false → request_of n r ≡ request_of s r
  others r apart = on_else s.requests req drop r apart

  -- one then is another as it was, or that one
  pub by_request : (P : ReqId → Asked → Type 0) (r : ReqId) (x : Asked) → request_of n r ≡ Some x → ((r.0 == req.0) ≡ false → request_of s r ≡ Some x → P r x) → P req (drop q) → P r x
  by_request P r x at else_ own_ = by_number (r.0 == req.0) refl
    where
      by_number : (b : Bool) → (r.0 == req.0) ≡ b → P r x
      by_number false apart = else_ apart (sym (others r apart) ∙ at)
      by_number true is =
          let it : r ≡ req = req_same r req is in
          let one : drop q ≡ x = some_same (sym own ∙ ap (λ (m : ReqId). request_of n m) (sym it) ∙ at) in
          subst (λ (m : ReqId). P m x) (sym it) (subst (λ (y : Asked). P req y) one own_)

  -- and one that was there is so still, or that one
  pub from_request : (P : ReqId → Asked → Type 0) (r : ReqId) (x : Asked) → request_of s r ≡ Some x → ((r.0 == req.0) ≡ false → request_of n r ≡ Some x → P r x) → P req q → P r x
  from_request P r x at else_ own_ = by_number (r.0 == req.0) refl
    where
      by_number : (b : Bool) → (r.0 == req.0) ≡ b → P r x
      by_number false apart = else_ apart (others r apart ∙ at)
      by_number true is =
          let it : r ≡ req = req_same r req is in
          let one : q ≡ x = some_same (sym found ∙ ap (λ (m : ReqId). request_of s m) (sym it) ∙ at) in
          subst (λ (m : ReqId). P m x) (sym it) (subst (λ (y : Asked). P req y) one own_)

  -- ---- ongoing loads

  pub stopped : is_ongoing_load (drop q) ≡ false
  stopped = by_test q.is_started (is_load q.what)
    where
      by_test : (a b : Bool) → ((a && false) && b) ≡ false
      by_test true b = refl
      by_test false b = refl

  pub loads_were : (r : ReqId) (l : Look) → look_of n r ≡ Some l → is_ongoing l ≡ true → look_of s r ≡ Some l
  loads_were r l at on = by_found (request_in n.requests r) refl at
    where
      by_found : (o : Option Asked) → request_in n.requests r ≡ o → option_map look o ≡ Some l → look_of s r ≡ Some l
      by_found None none never = absurd cc
      by_found (Some x) there is =
          let same : look x ≡ l = some_same is in
          by_request (λ m y. look y ≡ l → look_of s m ≡ Some l) r x there (λ apart was e. ap (λ (o : Option Asked). option_map look o) was ∙ ap (λ (y : Look). let o : Option Look = Some y in o) e) (λ e. (let never : false ≡ true = sym stopped ∙ ap is_ongoing e ∙ on in absurd cc)) same

  abbrev is_loaded : StateId → Asked → Bool
  is_loaded state x = is_ongoing_load x && holds (λ (of : StateId). of.0 == state.0) x.state

  -- a state of no ongoing load then was of none
  unloaded_was : (state : StateId) → orders.ongoing_load n state ≡ None → orders.ongoing_load s state ≡ None
  unloaded_was state none =
      none_passes (λ (x : Asked). is_ongoing_load x && holds (λ (of : StateId). of.0 == state.0) x.state) s.requests (λ r x at. fails r x at (is_loaded state x) refl)
    where
      fails : (r : ReqId) (x : Asked) → request_in s.requests r ≡ Some x → (b : Bool) → is_loaded state x ≡ b → is_loaded state x ≡ false
      fails r x at false is = is
      fails r x at true is =
          from_request (λ m y. is_loaded state y ≡ true → is_loaded state y ≡ false) r x at (λ apart there on. (let some = has_found (λ (y : Asked). is_ongoing_load y && holds (λ (of : StateId). of.0 == state.0) y.state) n.requests x (request_has n.requests r x there) on in let never : None ≡ Some some.0 = sym none ∙ some.1 in absurd cc)) (λ on. (let never : true ≡ false = sym on ∙ rw idle refl in absurd cc)) is

  -- ---- orders

  -- of a request nothing is read of how it ended
  pub serves : (r : ReqId) → MayServe s r → MayServe n r
  serves r may = record { goes = goes (request_of n r) (request_of s r) (on_read goes_on s.requests req drop (λ x. refl) r) may.goes; begun = λ x at. (let w = was_asked course_of s.requests n.requests (on_read course_of s.requests req drop (λ y. refl)) r x at in out_alike w.0 x (sym w.2) (may.begun w.0 w.1)) }
    where
      goes_on : Asked → Bool
      goes_on x = implies (is_checked x) (has_passed s x)

      goes : (a b : Option Asked) → option_map goes_on a ≡ option_map goes_on b → holds (λ (x : Asked). implies (is_checked x) (has_passed s x)) b ≡ true → holds (λ (x : Asked). implies (is_checked x) (has_passed s x)) a ≡ true
      goes None None same is = is
      goes (Some x) (Some y) same is = some_same same ∙ is
      goes None (Some y) same is = absurd cc
      goes (Some x) None same is = absurd cc

  -- ---- who is stray, and who was moved

  pub strays_then : AreLeftStrays n blame
  strays_then doc state stray =
      let its : IsStray s doc state = record { document = stray.document; found = stray.found; its_state = stray.its_state; ready = stray.ready; undiscarded = stray.undiscarded; bare = stray.bare; unloaded = unloaded_was state stray.unloaded } in
      let it = stands.strays doc state its in
      record { req = it.req; noted = it.noted; may = serves it.req it.may; bare = it.bare }

  is_moved_same : OnlyRuns run n → (nav : NavId) → is_moved n nav ≡ is_moved s nav
  is_moved_same only nav =
      ap (λ (o : Option Asked). holds (λ (x : Asked). has_nav x.moved nav) o) (running_is run n.requests only ∙ by_run run other ∙ sym (running_is run s.requests stands.between.tab.asked.only))
    where
      by_run : (o : Option ReqId) → is_this o req ≡ false → run_in o n.requests ≡ run_in o s.requests
      by_run None apart = refl
      by_run (Some r) apart = others r apart

  -- ---- what documents made

  pub theirs : LoadsMadeOwn n
  theirs r x made at loads_ makes =
      let w = was_asked asks_made s.requests n.requests (on_read asks_made s.requests req drop (λ y. refl)) r x at in
      let its = stands.lasts.made r w.0 made w.1 (ap (λ (y : AsksMade). is_load y.what) w.2 ∙ loads_) (ap (λ (y : AsksMade). y.made) w.2 ∙ makes) in
      (record { d = its.0.d; found = its.0.found; nav_is = ap (λ (y : AsksMade). nav_of_request y.what) (sym w.2) ∙ its.0.nav_is }, its.1)

  -- ---- what is left

  pub comes : OnlyRuns run n → LoadsHaveDocuments n → IsComing blame s n
  comes only loading =
      record {
        g = λ p. p;
        arrives = record { nav = λ p. refl; sight = λ p. refl; last = λ p. refl; why = λ p. refl; taken = λ p. refl; ever = λ p. refl; arrived = λ p is. is };
        places = sym (map-id s.places);
        history = refl;
        kept = refl;
        asked = λ r x at. from_request (λ m y. IsAlike n m y) r x at (λ apart there. record { now = x; at = there; same = refl; changed = λ change is. is }) (record { now = drop q; at = own; same = refl; changed = λ change is. is });
        loads = loads_were;
        loading = loading;
        serves = serves;
        moved = is_moved_same only;
        states = λ doc. refl;
        homes = λ doc d there. (d, there, refl);
        strays = λ doc state stray. inl (strays_then doc state stray);
        were = were_shown s event actor stands.lasts.were (rows.Dropped req cause) tt;
        theirs = theirs;
        step = refl;
        unstood = λ off away. unstood_by s row refl away off;
      }

  -- ---- ready loads

  pub was_ready : (r : ReqId) (nav : NavId) → IsReadyLoadOf n r nav → IsReadyLoadOf s r nav
  was_ready r nav it =
      by_request (λ m y. is_ready_load n y ≡ true → loads_of nav y.what ≡ true → IsReadyLoadOf s m nav) r it.q it.at
      (λ apart was ready its. record { q = it.q; at = was; ready = ready; its = its })
      (λ ready its. (let on : is_ongoing_load (drop q) ≡ true = first (is_ongoing_load (drop q)) _ ready in let never : false ≡ true = sym stopped ∙ on in absurd cc))
      it.ready it.its
    where
      first : (a b : Bool) → (a && b) ≡ true → a ≡ true
      first true b is = refl
      first false b is = absurd cc
