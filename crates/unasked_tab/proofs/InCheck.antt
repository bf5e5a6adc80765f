-- What holds between two events while checks go on holds once a load is accepted, with it at hand: so it is in its check; and once one that is in its check is dropped; and as a traversal joins the queue, or leaves it in its check.
use Rattle.std.proofs.Common.{◌≡◌, ℕ, ℤ, suc, ◌+◌, ◌<◌, Bool, true, false, not, ◌||◌, ◌&&◌, ◌==◌, List, [], ◌∷◌, length, map, Option, Some, None, refl, sym, ap, ◌∙◌, arith}
use Rattle.std.specs.Prelude.{option_map, if◌then◌else◌}
use Rattle.std.specs.List.{list_all, list_any}
use Rattle.std.proofs.lemmas.Bool.{and_parts}
use Rattle.std.proofs.lemmas.Bool.Decides.{nat_tests}
use Rattle.tab_ids.specs.declared.NavId.{NavId}
use Rattle.tab_ids.specs.declared.ReqId.{ReqId}
use Rattle.log_model.specs.declared.outcome.Cause.{Cause}
use Rattle.log_model.specs.declared.outcome.Ending.{Ending}
use Rattle.log_model.specs.declared.outcome.Ending.TheVariants as endings
use Rattle.log_model.specs.declared.request.Mode.{Mode}
use Rattle.log_model.specs.declared.request.Request.TheVariants as requests
use Rattle.log_model.specs.declared.row_kind.Actor.{Actor}
use Rattle.log_model.specs.declared.row_kind.RowKind.TheVariants as rows
use Rattle.log_model.specs.ActsAtOnce.{ends_stepped, has_no_step_waiting, has_reason_to_run, is_ready_load}
use Rattle.log_model.specs.Queue.{is_queue_free}
use Rattle.log_model.specs.After.{desk_dropped, new_request}
use Rattle.log_model.specs.AfterRequests.{on_request}
use Rattle.log_model.specs.Equal.{has_req, implies}
use Rattle.log_model.specs.Places.{is_load, is_ongoing_load}
use Rattle.log_model.specs.Seen.{Asked, Desk, Seen, request_in}
use Rattle.log_model.proofs.Refl.{nat_eq_refl}
use Rattle.seen_facts.specs.Each.Runs.{EachAsked, is_run, is_this}
use Rattle.seen_facts.specs.LoadWhereabouts.Whereabouts.{times_on_way, waits_to_fragment, ways_of}
use Rattle.seen_facts.specs.Request.Whereabouts.{is_of_load, times}
use Rattle.seen_facts.proofs.Asked.Running.{run_in, running_is}
use Rattle.seen_facts.proofs.Coord.Flowings.{left_flows}
use Rattle.seen_facts.proofs.Coord.Held.{on_else, without_same}
use Rattle.seen_facts.proofs.Coord.Unread.{dropped_held, dropped_left, next}
use Rattle.seen_facts.proofs.Load.Rows.{req_same}
use Rattle.seen_facts.proofs.Request.LookUps.{none_before, on_itself, one_more, others_before}
use Rattle.seen_facts.proofs.Request.Times.{times_none}
use Rattle.row_facts.proofs.RestRows.Rows.{accepted_rests, dropped_rests}
use Rattle.tab_facts.proofs.FrameWhole.Ending.{some_times}
use Rattle.tab_facts.specs.TabEvents.Between.{IsBetweenChecks, has_order}
use Rattle.tab_facts.specs.TabWhole.Tab.{IsTab, open_among}
use Rattle.tab_facts.proofs.TabWhole.Accepting as accepting
use Rattle.tab_facts.proofs.TabWhole.Refusing.{hand_load_dropped_tab, load_other, queued_dropped_tab}
use Rattle.tab_facts.proofs.TabWhole.Where.{IsNowhereElse, at_most_once, listed_alone}
use Rattle.unasked_tab.specs.Steady.{AreSteady}
use Rattle.unasked_tab.proofs.Begun.{some_same}
use Rattle.unasked_tab.proofs.Reordered.{AreAsOften, open_tab, reordered_tab}
use Rattle.unasked_tab.proofs.Steady.{steady_between}

-- what holds with some loads in their check holds with others, where what holds between two rows does
pub other_between : (keep : ℕ) (run : Option ReqId) (loads other : List ReqId) (waits : Bool) (s : Seen) → (IsTab run loads [] s → IsTab run other [] s) → IsBetweenChecks keep run loads waits s → IsBetweenChecks keep run other waits s
other_between keep run loads other waits s on is =
    record {
      tab = on is.tab;
      flows = is.flows;
      served = is.served;
      told = is.told;
      stepped = is.stepped;
      held = is.held;
      rows_ = is.rows_;
      rests = is.rests;
      swept = is.swept;
      stands = is.stands;
      loading = is.loading;
      few = is.few;
    }

-- so loads in their check are at hand in any order
pub reordered_between : (keep : ℕ) (run : Option ReqId) (loads other : List ReqId) (waits : Bool) (s : Seen) → AreAsOften loads other → IsBetweenChecks keep run loads waits s → IsBetweenChecks keep run other waits s
reordered_between keep run loads other waits s same =
    other_between keep run loads other waits s (reordered_tab run loads other [] s same)

-- and those that have ended may be taken out
pub open_between : (keep : ℕ) (run : Option ReqId) (loads : List ReqId) (waits : Bool) (s : Seen) → IsBetweenChecks keep run loads waits s → IsBetweenChecks keep run (open_among s.requests loads) waits s
open_between keep run loads waits s =
    other_between keep run loads (open_among s.requests loads) waits s (open_tab run loads [] s)

-- one request is another, which isn't the traversal that runs and no ongoing load, before or then
pub others_steady : (run : Option ReqId) (asked later : List Asked) (req : ReqId) → EachAsked (λ r q. is_run q ≡ is_this run r) asked → EachAsked (λ r q. is_run q ≡ is_this run r) later → is_this run req ≡ false → ((r : ReqId) → (r.0 == req.0) ≡ false → request_in later r ≡ request_in asked r) → ((q : Asked) → request_in later req ≡ Some q → is_ongoing_load q ≡ false) → ((q : Asked) → request_in asked req ≡ Some q → is_ongoing_load q ≡ false) → AreSteady asked later
others_steady run asked later req only only_later apart others idle_later idle =
    record {
      runs = running_is run later only_later ∙ by_run run apart ∙ sym (running_is run asked only);
      was = λ r q at on. found asked later r q (λ e. sym (others r e)) idle_later at on;
      stays = λ r q at on. found later asked r q (λ e. others r e) idle at on;
    }
  where
    by_run : (r : Option ReqId) → is_this r req ≡ false → run_in r later ≡ run_in r asked
    by_run None other = refl
    by_run (Some r) other = others r other

    found : (a b : List Asked) (r : ReqId) (q : Asked) → ((r.0 == req.0) ≡ false → request_in a r ≡ request_in b r) → ((x : Asked) → request_in b req ≡ Some x → is_ongoing_load x ≡ false) → request_in b r ≡ Some q → is_ongoing_load q ≡ true → request_in a r ≡ Some q
    found a b r q else_ none at on = by_number (r.0 == req.0) refl
      where
        by_number : (e : Bool) → (r.0 == req.0) ≡ e → request_in a r ≡ Some q
        by_number false e = else_ e ∙ at
        by_number true e =
            let one : r ≡ req = req_same r req e in
            let never : true ≡ false = sym on ∙ none q (ap (λ (x : ReqId). request_in b x) (sym one) ∙ at) in absurd cc

-- a poke that leaves the input leaves the orders
orders_on : (req : ReqId) (desks : List Desk) → list_any has_order desks ≡ true → list_any has_order (map (desk_dropped req) desks) ≡ true
orders_on req desks go = same desks ∙ go
  where
    same : (l : List Desk) → list_any has_order (map (desk_dropped req) l) ≡ list_any has_order l
    same [] = refl
    same (desk ∷ l) = ap (λ (b : Bool). has_order desk || b) (same l)

-- what isn't on its way isn't ongoing
no_way : (q : Asked) → ways_of q ≡ 0 → is_ongoing_load q ≡ false
no_way q none = by_ways (is_ongoing_load q) (waits_to_fragment q) none
  where
    by_ways : (a b : Bool) → (if a then 1 else 0) + (if b then 1 else 0) ≡ 0 → a ≡ false
    by_ways false b e = refl
    by_ways true b e = absurd (omega (arith, e))

-- what was dropped isn't, either
dropped_idle : (asked : List Asked) (req : ReqId) (ending : Ending) (q : Asked) → request_in (on_request req (λ (x : Asked). record x { ending = Some ending }) asked) req ≡ Some q → is_ongoing_load q ≡ false
dropped_idle asked req ending q at =
    by_found (request_in asked req) (sym (on_itself asked req (λ (x : Asked). record x { ending = Some ending })) ∙ at)
  where
    stopped : (b c : Bool) → ((b && false) && c) ≡ false
    stopped true c = refl
    stopped false c = refl

    by_found : (o : Option Asked) → option_map (λ (x : Asked). record x { ending = Some ending }) o ≡ Some q → is_ongoing_load q ≡ false
    by_found None e = absurd cc
    by_found (Some p) e = ap is_ongoing_load (sym (some_same e)) ∙ stopped p.is_started (is_load p.what)

module _ (keep : ℕ) (run : Option ReqId) (loads : List ReqId) (waits : Bool) (s : Seen) (event : ℕ) (actor : Actor) (req : ReqId) where
  -- ---- a load is accepted

  module _ (is : IsBetweenChecks keep run loads waits s) (nr : req.0 ≡ length s.requests + 1) (nav : NavId) (mode : Mode) (address : List ℕ) where
    abbrev come : Seen
    come = accepting.load_accepted run s event actor is.tab is.flows req nr nav mode address

    abbrev new : Asked
    new = new_request req None (requests.Load nav mode address)

    tab : IsTab run (req ∷ loads) [] come
    tab = accepting.load_accepted_tab run s event actor is.tab is.flows req nr nav mode address

    steady : AreSteady s.requests come.requests
    steady =
        others_steady run s.requests come.requests req is.tab.asked.only tab.asked.only
        (sym (tab.asked.only req new (one_more s.requests new req nr)))
        (λ r apart. others_before s.requests new req nr r (let other : (req.0 == r.0) ≡ false = grind (arith, nat_tests, apart) in other))
        (λ q at. sym (ap is_ongoing_load (some_same (sym (one_more s.requests new req nr) ∙ at))))
        (λ q at. (let never : None ≡ Some q = sym (none_before s.requests new req nr) ∙ at in absurd cc))

    -- it is at hand, and so in its check
    pub load_in_check : IsBetweenChecks keep run (req ∷ loads) waits come
    load_in_check =
        steady_between s come.requests come.desks come.joined come.parked come.events come.jobs come.states come.just_finished come.has_stood keep run loads (req ∷ loads) waits is tab steady (λ none free. refl) refl (λ go. go)
        (accepting.load_accepted_flows run s event actor is.tab is.flows req nr nav mode address)
        (accepted_rests s event actor [] is.rests req None (requests.Load nav mode address))

  -- ---- a load is dropped in its check

  module _ (is : IsBetweenChecks keep run (req ∷ loads) waits s) (load : is_of_load (request_in s.requests req) ≡ true) (cause : Cause) where
    abbrev gone : Seen
    gone = next s event actor (rows.Dropped req cause)

    abbrev drop : Asked → Asked
    drop q = record q { ending = Some (endings.Dropped cause) }

    gone_tab : IsTab run loads [] gone
    gone_tab = hand_load_dropped_tab run req loads [] s event is.tab load actor cause

    -- it is at hand alone
    alone : IsNowhereElse run (req ∷ loads) [] s is.tab req
    alone = listed_alone run (req ∷ loads) [] s is.tab req (rw (nat_eq_refl req.0) refl)

    unparked : has_req s.parked req ≡ false
    unparked = times_none req s.parked alone.parked

    -- and hasn't begun
    idle : (q : Asked) → request_in s.requests req ≡ Some q → is_ongoing_load q ≡ false
    idle q at = no_way q (sym (ap times_on_way at) ∙ alone.way)

    gone_steady : AreSteady s.requests gone.requests
    gone_steady =
        others_steady run s.requests gone.requests req is.tab.asked.only gone_tab.asked.only
        (load_other run (req ∷ loads) [] s is.tab req load)
        (λ r apart. on_else s.requests req drop r apart)
        (dropped_idle s.requests req (endings.Dropped cause)) idle

    -- it is no longer at hand
    pub dropped_in_check : IsBetweenChecks keep run loads waits gone
    dropped_in_check =
        steady_between s gone.requests gone.desks gone.joined gone.parked gone.events gone.jobs gone.states gone.just_finished gone.has_stood keep run (req ∷ loads) loads waits is gone_tab gone_steady
        (λ none free. without_same s.joined req (times_none req s.joined alone.joined)) (without_same s.parked req unparked) (orders_on req s.desks)
        (left_flows s gone (dropped_left s event actor req cause) refl refl refl (dropped_held s event actor req cause unparked) is.flows)
        (dropped_rests s event actor [] is.rests req cause)

  -- ---- a traversal is accepted

  module _ (is : IsBetweenChecks keep run loads waits s) (nr : req.0 ≡ length s.requests + 1) (delta : ℤ) where
    abbrev went : Seen
    went = accepting.went run s event actor is.tab is.flows req nr delta

    abbrev step : Asked
    step = new_request req None (requests.Go delta)

    went_tab : IsTab run loads [] went
    went_tab = accepting.went_tab run s event actor is.tab is.flows req nr delta

    went_steady : AreSteady s.requests went.requests
    went_steady =
        others_steady run s.requests went.requests req is.tab.asked.only went_tab.asked.only
        (sym (went_tab.asked.only req step (one_more s.requests step req nr)))
        (λ r apart. others_before s.requests step req nr r (let other : (req.0 == r.0) ≡ false = grind (arith, nat_tests, apart) in other))
        (λ q at. sym (ap is_ongoing_load (some_same (sym (one_more s.requests step req nr) ∙ at))))
        (λ q at. (let never : None ≡ Some q = sym (none_before s.requests step req nr) ∙ at in absurd cc))

    -- where the queue is held, or isn't free, it waits
    pub go_waits : (waits ≡ false → is_queue_free s ≡ false) → IsBetweenChecks keep run loads waits went
    go_waits full =
        steady_between s went.requests went.desks went.joined went.parked went.events went.jobs went.states went.just_finished went.has_stood keep run loads loads waits is went_tab went_steady
        (λ none free. (let never : true ≡ false = sym free ∙ full none in absurd cc)) refl (λ go. go)
        (accepting.went_flows run s event actor is.tab is.flows req nr delta)
        (accepted_rests s event actor [] is.rests req None (requests.Go delta))

  -- ---- a step that waits is dropped

  module _ (is : IsBetweenChecks keep run loads waits s) (queued : has_req s.joined req ≡ true) (other : is_this run req ≡ false) (cause : Cause) where
    abbrev left : Seen
    left = next s event actor (rows.Dropped req cause)

    abbrev leave : Asked → Asked
    leave q = record q { ending = Some (endings.Dropped cause) }

    left_tab : IsTab run loads [] left
    left_tab = queued_dropped_tab run loads [] s event is.tab req other queued actor cause

    -- it is in the queue alone
    only_there : (times req s.parked ≡ 0) × (times_on_way (request_in s.requests req) ≡ 0)
    only_there =
        let some : 0 < times req s.joined = some_times req s.joined queued in
        let all = at_most_once run loads [] s is.tab req in
        (omega (arith, all, some), omega (arith, all, some))

    no_park : has_req s.parked req ≡ false
    no_park = times_none req s.parked only_there.0

    left_steady : AreSteady s.requests left.requests
    left_steady =
        others_steady run s.requests left.requests req is.tab.asked.only left_tab.asked.only other
        (λ r apart. on_else s.requests req leave r apart)
        (dropped_idle s.requests req (endings.Dropped cause))
        (λ q at. no_way q (sym (ap times_on_way at) ∙ only_there.1))

    -- in a free queue that isn't held nothing waits
    some_not : (n : ℕ) → (suc n == 0) ≡ false
    some_not n = grind (arith, nat_tests)

    none_queued : (l : List ReqId) → (length l == 0) ≡ true → has_req l req ≡ true → ⊥
    none_queued [] empty has = cc
    none_queued (x ∷ l) empty has = (let never : false ≡ true = sym (some_not (length l)) ∙ empty in cc)

    not_free : waits ≡ false → is_queue_free s ≡ true → ⊥
    unfolding ends_stepped
    not_free none free =
        let parts = and_parts (has_reason_to_run s) (implies (is_queue_free s) (has_no_step_waiting s)) (is.stepped none) in
        let idle_ : has_no_step_waiting s ≡ true = implied (is_queue_free s) (has_no_step_waiting s) free parts.1 in
        none_queued s.joined (and_parts (length s.joined == 0) (list_all (λ (q : Asked). not (is_ready_load s q)) s.requests) idle_).0 queued
      where
        implied : (a b : Bool) → a ≡ true → implies a b ≡ true → b ≡ true
        implied true b e is_ = is_
        implied false b e is_ = absurd cc

    -- the queue is held as it was
    pub step_dropped : IsBetweenChecks keep run loads waits left
    step_dropped =
        steady_between s left.requests left.desks left.joined left.parked left.events left.jobs left.states left.just_finished left.has_stood keep run loads loads waits is left_tab left_steady
        (λ none free. absurd (not_free none free)) (without_same s.parked req no_park) (orders_on req s.desks)
        (left_flows s left (dropped_left s event actor req cause) refl refl refl (dropped_held s event actor req cause no_park) is.flows)
        (dropped_rests s event actor [] is.rests req cause)
