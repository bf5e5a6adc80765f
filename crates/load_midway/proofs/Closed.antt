-- The log without questions, with each load ended: it is brought where the log is, and why a load is dropped by another request as the event ends is so in the log, if it is so there.
use Rattle.checking_facts.proofs.Grown.{req_same}
use Rattle.checking_facts.specs.Checks.{SameBut, just}
use Rattle.load_midway.specs.Owing.{is_load_in, load_closed, load_without, loads_closed, one_without}
use Rattle.log_model.specs.Causes.{any_displaced, by_adder, by_event, by_last_step, by_later_load, by_traversal, way_of_request}
use Rattle.log_model.specs.Equal.{holds}
use Rattle.log_model.specs.Events.{Point}
use Rattle.log_model.specs.History.{used_step_at}
use Rattle.log_model.specs.Once.{has_no_earlier_load, loads}
use Rattle.log_model.specs.Places.{aim_of, has_passed, has_passed_with, is_load, is_ongoing_load, is_traversal, is_under_way, passed_in}
use Rattle.log_model.specs.Points.{had_ended}
use Rattle.log_model.specs.Seen.{Asked, Seen, request_of}
use Rattle.log_model.specs.declared.outcome.Ending.TheVariants as endings
use Rattle.log_model.specs.declared.outcome.Ending.{Ending}
use Rattle.log_model.specs.declared.request.Request.TheVariants as requests
use Rattle.log_model.specs.declared.request.Request.{Request}
use Rattle.log_model.specs.declared.row.Row.{Row}
use Rattle.seen_laws.specs.Owing.{is_sole_load}
use Rattle.seen_laws.specs.Unasked.{unasked, unasked_request, unbegun, without_asks}
use Rattle.std.proofs.Common.{Bool, List, None, Option, Some, [], ap, cond, false, map, not, refl, subst, suc, sym, true, ℕ, ◌&&◌, ◌+◌, ◌==◌, ◌||◌, ◌∙◌, ◌∷◌, ◌≡◌}
use Rattle.std.specs.List.{list_all}
use Rattle.std.specs.Option.{option_map_or}
use Rattle.std.specs.Prelude.{if◌then◌else◌, is_none, nat_lt, option_map, slice_get}
use Rattle.tab_cuts.proofs.Twice.{unasked_twice}
use Rattle.tab_ids.specs.declared.DocId.{DocId}
use Rattle.tab_ids.specs.declared.NavId.{NavId}
use Rattle.tab_ids.specs.declared.ReqId.{ReqId}
use Rattle.tab_ids.specs.declared.Step.{Step}
use Rattle.unasked.proofs.Lists.{found_in, request_map}
use Rattle.unasked_dues.specs.Checking.{AllOthersPass, AreNumbered, IsAimed}

-- a load is no traversal
pub load_no_step : (what : Request) → is_load what ≡ true → is_traversal what ≡ false
load_no_step (requests.Load nav mode address) is = refl
load_no_step (requests.Go delta) never = absurd cc
load_no_step (requests.Reload nav) never = absurd cc
load_no_step (requests.Poke nav action) never = absurd cc

either_on : (a b c d : Bool) → (a ≡ true → c ≡ true) → (b ≡ true → d ≡ true) → (a || b) ≡ true → (c || d) ≡ true
either_on true b true d one two is = refl
either_on true b false d one two is = absurd (let never : false ≡ true = one refl in cc)
either_on false b true d one two is = refl
either_on false b false d one two is = two is

-- ---- its aim

-- loads lead nowhere
leads_same : (gone : DocId → Bool) (rows_ : List Row) (step : ℕ) (asked : List Asked) → option_map_or (λ (q : Asked). option_map_or (λ (goal : Step). used_step_at rows_ goal.0) q.goal step) (passed_in gone (map load_closed asked)) step ≡ option_map_or (λ (q : Asked). option_map_or (λ (goal : Step). used_step_at rows_ goal.0) q.goal step) (passed_in gone asked) step
leads_same gone rows_ step [] = refl
leads_same gone rows_ step (q ∷ asked) = by_kind (is_load q.what) refl (leads_same gone rows_ step asked)
  where
    lead : Option Asked → ℕ
    lead o = option_map_or (λ (x : Asked). option_map_or (λ (goal : Step). used_step_at rows_ goal.0) x.goal step) o step

    test : Asked → Bool
    test x = is_under_way x && is_traversal x.what && has_passed_with gone x

    off : (a c : Bool) → (a && false && c) ≡ false
    off true c = refl
    off false c = refl

    by_tests : (a b : Bool) → a ≡ b → lead (passed_in gone (map load_closed asked)) ≡ lead (passed_in gone asked) → lead (cond a (Some (load_closed q)) (passed_in gone (map load_closed asked))) ≡ lead (cond b (Some q) (passed_in gone asked))
    by_tests true true is rest = refl
    by_tests false false is rest = rest
    by_tests true false is rest = absurd cc
    by_tests false true is rest = absurd cc

    by_kind : (l : Bool) → is_load q.what ≡ l → lead (passed_in gone (map load_closed asked)) ≡ lead (passed_in gone asked) → lead (passed_in gone (map load_closed (q ∷ asked))) ≡ lead (passed_in gone (q ∷ asked))
    by_kind true is rest =
        let none : is_traversal q.what ≡ false = load_no_step q.what is in
        by_tests (test (load_closed q)) (test q)
        (ap (λ (b : Bool). is_under_way (load_closed q) && b && has_passed_with gone q) none ∙ off (is_under_way (load_closed q)) (has_passed_with gone q) ∙ sym (ap (λ (b : Bool). is_under_way q && b && has_passed_with gone q) none ∙ off (is_under_way q) (has_passed_with gone q)))
        rest
    by_kind false is rest =
        by_tests (test (load_closed q)) (test q)
        (ap (λ (b : Bool). (q.is_started && is_none (let o : Option Ending = if b then Some endings.Applied else q.ending in o)) && is_traversal q.what && has_passed_with gone q) is)
        rest

pub closed_aim : (s : Seen) → aim_of (loads_closed s) ≡ aim_of s
closed_aim s = leads_same _ s.history.rows s.history.current s.requests

-- so it is where one of them hasn't begun
leads_without : (req : ReqId) (gone : DocId → Bool) (rows_ : List Row) (step : ℕ) (asked : List Asked) → option_map_or (λ (q : Asked). option_map_or (λ (goal : Step). used_step_at rows_ goal.0) q.goal step) (passed_in gone (map (one_without req) asked)) step ≡ option_map_or (λ (q : Asked). option_map_or (λ (goal : Step). used_step_at rows_ goal.0) q.goal step) (passed_in gone asked) step
leads_without req gone rows_ step [] = refl
leads_without req gone rows_ step (q ∷ asked) = by_kind (is_load q.what) refl (leads_without req gone rows_ step asked)
  where
    lead : Option Asked → ℕ
    lead o = option_map_or (λ (x : Asked). option_map_or (λ (goal : Step). used_step_at rows_ goal.0) x.goal step) o step

    test : Asked → Bool
    test x = is_under_way x && is_traversal x.what && has_passed_with gone x

    off : (a c : Bool) → (a && false && c) ≡ false
    off true c = refl
    off false c = refl

    none : (x : Asked) → is_load x.what ≡ true → test x ≡ false
    none x is =
        ap (λ (b : Bool). is_under_way x && b && has_passed_with gone x) (load_no_step x.what is) ∙ off (is_under_way x) (has_passed_with gone x)

    what_same : (one_without req q).what ≡ q.what
    what_same = by_test (just req q.nr && is_load q.what)
      where
        by_test : (b : Bool) → (let x : Asked = load_closed (if b then unbegun q else q) in x).what ≡ q.what
        by_test true = refl
        by_test false = refl

    by_tests : (x : Asked) (a b : Bool) → a ≡ b → (b ≡ true → x.goal ≡ q.goal) → lead (passed_in gone (map (one_without req) asked)) ≡ lead (passed_in gone asked) → lead (cond a (Some x) (passed_in gone (map (one_without req) asked))) ≡ lead (cond b (Some q) (passed_in gone asked))
    by_tests x true true is goal rest = ap (λ (o : Option Step). option_map_or (λ (k : Step). used_step_at rows_ k.0) o step) (goal refl)
    by_tests x false false is goal rest = rest
    by_tests x true false is goal rest = absurd cc
    by_tests x false true is goal rest = absurd cc

    and_off : (a : Bool) → (a && false) ≡ false
    and_off true = refl
    and_off false = refl

    by_kind : (l : Bool) → is_load q.what ≡ l → lead (passed_in gone (map (one_without req) asked)) ≡ lead (passed_in gone asked) → lead (passed_in gone (map (one_without req) (q ∷ asked))) ≡ lead (passed_in gone (q ∷ asked))
    by_kind true is rest =
        let off_q : test q ≡ false = none q is in
        let off_x : test (one_without req q) ≡ false = none (one_without req q) (ap is_load what_same ∙ is) in
        by_tests (one_without req q) (test (one_without req q)) (test q) (off_x ∙ sym off_q) (λ on. absurd (let never : true ≡ false = sym on ∙ off_q in cc)) rest
    by_kind false is rest =
        let plain : one_without req q ≡ q = ap (λ (b : Bool). let x : Asked = load_closed (if b then unbegun q else q) in x) (ap (λ (b : Bool). just req q.nr && b) is ∙ and_off (just req q.nr)) ∙ ap (λ (b : Bool). let x : Asked = record q { ending = if b then Some endings.Applied else q.ending } in x) is in
        by_tests (one_without req q) (test (one_without req q)) (test q) (ap test plain) (λ on. ap (λ (x : Asked). x.goal) plain) rest

pub without_aim : (req : ReqId) (s : Seen) → aim_of (load_without req s) ≡ aim_of s
without_aim req s = leads_without req _ s.history.rows s.history.current s.requests

-- ---- what is read of it

pub there_without : (req : ReqId) (s : Seen) (r : ReqId) → request_of (load_without req s) r ≡ option_map (one_without req) (request_of s r)
there_without req s r = request_map (one_without req) s.requests r

-- no load is ongoing there
never_on : (a l : Bool) (o : Option Ending) (x y : Bool) → not (((a && is_none (let z : Option Ending = if l then Some endings.Applied else o in z)) && l) && x && y) ≡ true
never_on true true o x y = refl
never_on true false None x y = refl
never_on true false (Some k) x y = refl
never_on false l o x y = refl

pub no_load_there : (one : ReqId) (s : Seen) (req : ReqId) (nav : NavId) → has_no_earlier_load (load_without one s) req nav ≡ true
no_load_there one s req nav = all s.requests
  where
    test : Asked → Bool
    test q = not (is_ongoing_load q && nat_lt q.nr.0 req.0 && loads nav q.what)

    each : (q : Asked) (b : Bool) → test (load_closed (let x : Asked = if b then unbegun q else q in x)) ≡ true
    each q true = refl
    each q false = never_on q.is_started (is_load q.what) q.ending (nat_lt q.nr.0 req.0) (loads nav q.what)

    all : (asked : List Asked) → list_all test (map (one_without one) asked) ≡ true
    all [] = refl
    all (q ∷ asked) = rw (each q (just one q.nr && is_load q.what)) (all asked)

-- where the request is a load, and is in its check by the one alone, that is the log without questions, with each load ended
module _ (checking passed : ReqId → Bool) (req : ReqId) (same : SameBut req checking passed) (off : passed req ≡ false) (on : checking req ≡ true) (end : Seen) (numbered : AreNumbered end) (its : is_load_in end req ≡ true) where
  one_is : (q : Asked) → ((q.nr.0 == req.0) ≡ true → is_load q.what ≡ true) → one_without req (unasked_request passed q) ≡ load_closed (unasked_request checking q)
  one_is q load = by_number (q.nr.0 == req.0) refl
    where
      by_number : (b : Bool) → (q.nr.0 == req.0) ≡ b → one_without req (unasked_request passed q) ≡ load_closed (unasked_request checking q)
      by_number true is =
          let in_ : checking q.nr ≡ true = ap checking (req_same q.nr req is) ∙ on in
          let out : passed q.nr ≡ false = ap passed (req_same q.nr req is) ∙ off in
          let what : is_load q.what ≡ true = load is in
          ap (λ (b : Bool). one_without req (cond b (unbegun q) (without_asks q))) out
          ∙ ap (λ (b : Bool). let x : Asked = load_closed (if b then unbegun (without_asks q) else without_asks q) in x) (ap (λ (b : Bool). b && is_load q.what) is ∙ what)
          ∙ sym (ap (λ (b : Bool). load_closed (cond b (unbegun q) (without_asks q))) in_)
      by_number false apart =
          ap (λ (b : Bool). one_without req (cond b (unbegun q) (without_asks q))) (same q.nr apart) ∙ by_check (checking q.nr)
        where
          by_check : (b : Bool) → one_without req (cond b (unbegun q) (without_asks q)) ≡ load_closed (cond b (unbegun q) (without_asks q))
          by_check true = ap (λ (c : Bool). let x : Asked = load_closed (if c && is_load q.what then unbegun (unbegun q) else unbegun q) in x) apart
          by_check false = ap (λ (c : Bool). let x : Asked = load_closed (if c && is_load q.what then unbegun (without_asks q) else without_asks q) in x) apart

  all_are : (asked : List Asked) → ((k : ℕ) (q : Asked) → slice_get asked k ≡ Some q → (q.nr.0 == req.0) ≡ true → is_load q.what ≡ true) → map (one_without req) (map (unasked_request passed) asked) ≡ map load_closed (map (unasked_request checking) asked)
  all_are [] each = refl
  all_are (q ∷ asked) each =
      λ i. one_is q (each 0 q refl) i ∷ all_are asked (λ k x at. each (suc k) x at) i

  its_what : (k : ℕ) (q : Asked) → slice_get end.requests k ≡ Some q → (q.nr.0 == req.0) ≡ true → is_load q.what ≡ true
  its_what k q at is =
      let found : request_of end (record { 0 = k + 1 }) ≡ Some q = found_in end.requests k q at in
      let nr : q.nr ≡ record { 0 = k + 1 } = numbered (record { 0 = k + 1 }) q found in
      let own : request_of end req ≡ Some q = ap (request_of end) (sym (sym nr ∙ req_same q.nr req is)) ∙ found in
      sym (ap (λ (o : Option Asked). holds (λ (x : Asked). is_load x.what) o) own) ∙ its

  pub without_shut : load_without req (unasked passed end) ≡ loads_closed (unasked checking end)
  without_shut = λ i. record (unasked checking end) { requests = all_are end.requests its_what i }

module _ (checking : ReqId → Bool) (end : Seen) where
  -- the log without questions, with each load ended
  abbrev pub shut : Seen
  shut = loads_closed (unasked checking end)

  -- what becomes of a request there, in its check or not
  abbrev bare : Asked → Bool → Asked
  bare q b = load_closed (cond b (unbegun q) (without_asks q))

  abbrev as_there : Asked → Asked
  as_there q = load_closed (unasked_request checking q)

  -- ---- requests

  pub there : (req : ReqId) → request_of shut req ≡ option_map as_there (request_of end req)
  there req =
      request_map load_closed (map (unasked_request checking) end.requests) req
      ∙ ap (option_map load_closed) (request_map (unasked_request checking) end.requests req)
      ∙ by_found (request_of end req)
    where
      by_found : (o : Option Asked) → option_map load_closed (option_map (unasked_request checking) o) ≡ option_map as_there o
      by_found None = refl
      by_found (Some q) = refl

  -- one that is found there is one of the log
  pub record WasThere (req : ReqId) (q : Asked) : Type 0 where
    pub x : Asked
    pub at : request_of end req ≡ Some x
    pub is : as_there x ≡ q

  pub was_there : (req : ReqId) (q : Asked) → request_of shut req ≡ Some q → WasThere req q
  was_there req q found = by_found (request_of end req) refl (sym (there req) ∙ found)
    where
      by_found : (o : Option Asked) → request_of end req ≡ o → option_map as_there o ≡ Some q → WasThere req q
      by_found None at is = absurd cc
      by_found (Some x) at is = record { x = x; at = at; is = cc }

  -- nobody is asked, so each has passed
  pub all_pass : AllOthersPass checking shut
  all_pass req q found off =
      let was = was_there req q found in
      subst (λ (y : Asked). has_passed shut y ≡ true) was.is (by_check was.x (checking was.x.nr))
    where
      by_check : (x : Asked) (b : Bool) → has_passed shut (bare x b) ≡ true
      by_check x true = refl
      by_check x false = refl

  -- the aim is read off it
  pub aimed_there : AreNumbered end → IsAimed checking shut
  aimed_there numbered =
      record {
        numbered = λ req q found. (let was = was_there req q found in ap (λ (y : Asked). y.nr) (sym was.is) ∙ its_number was.x (checking was.x.nr) ∙ numbered req was.x was.at);
        others = λ req q found runs off. all_pass req q found off;
        none_passes = λ req q found runs goes on. (let was = was_there req q found in
            absurd (no_run was.x (checking was.x.nr) (ap checking (numbered req was.x was.at) ∙ on) (ap is_under_way was.is ∙ runs)));
      }
    where
      its_number : (x : Asked) (b : Bool) → (bare x b).nr ≡ x.nr
      its_number x true = refl
      its_number x false = refl

      no_run : (x : Asked) (b : Bool) → b ≡ true → is_under_way (bare x b) ≡ true → ⊥
      no_run x true on runs = cc
      no_run x false on runs = cc

  -- ---- loads

  -- none is ongoing there
  pub no_earlier_there : (req : ReqId) (nav : NavId) → has_no_earlier_load shut req nav ≡ true
  no_earlier_there req nav = all (map (unasked_request checking) end.requests)
    where
      test : Asked → Bool
      test q = not (is_ongoing_load q && nat_lt q.nr.0 req.0 && loads nav q.what)

      all : (asked : List Asked) → list_all test (map load_closed asked) ≡ true
      all [] = refl
      all (q ∷ asked) =
          rw (never_on q.is_started (is_load q.what) q.ending (nat_lt q.nr.0 req.0) (loads nav q.what)) (all asked)

  sole_load_there : (what : Request) (nr : ReqId) → is_sole_load what nr end ≡ true → is_sole_load what nr shut ≡ true
  sole_load_there (requests.Load nav mode address) nr is = no_earlier_there nr nav
  sole_load_there (requests.Go delta) nr is = refl
  sole_load_there (requests.Reload nav) nr is = refl
  sole_load_there (requests.Poke nav action) nr is = refl

  pub sole_there : (o : Option Asked) → holds (λ (q : Asked). is_sole_load q.what q.nr end) o ≡ true → holds (λ (q : Asked). is_sole_load q.what q.nr shut) o ≡ true
  sole_there None is = is
  sole_there (Some q) is = sole_load_there q.what q.nr is

  -- the same requests in their checks, it is as it was
  shut_request : (q : Asked) → unasked_request checking (load_closed (unasked_request checking q)) ≡ load_closed (unasked_request checking q)
  shut_request q = by_test (checking q.nr) refl
    where
      by_test : (b : Bool) → checking q.nr ≡ b → unasked_request checking (load_closed (unasked_request checking q)) ≡ load_closed (unasked_request checking q)
      by_test true is = rw is (rw is refl)
      by_test false is = rw is (rw is refl)

  shut_requests : (asked : List Asked) → map (unasked_request checking) (map load_closed (map (unasked_request checking) asked)) ≡ map load_closed (map (unasked_request checking) asked)
  shut_requests [] = refl
  shut_requests (q ∷ asked) = λ i. shut_request q i ∷ shut_requests asked i

  -- nobody is asked there
  pub shut_bare : unasked checking (loads_closed (unasked checking end)) ≡ loads_closed (unasked checking end)
  shut_bare =
      λ i. record (loads_closed (unasked checking end)) {
        documents = ap (λ (x : Seen). x.documents) twice i;
        desks = ap (λ (x : Seen). x.desks) twice i;
        requests = shut_requests end.requests i;
        just_finished = ap (λ (x : Seen). x.just_finished) twice i;
      }
    where
      twice : unasked checking (unasked checking end) ≡ unasked checking end
      twice = unasked_twice checking checking (λ r on. on) end

-- ---- the causes, where it is brought where the log is

module _ (checking passed : ReqId → Bool) (end : Seen) (numbered : AreNumbered end) (others : AllOthersPass passed end) (among : (req : ReqId) → passed req ≡ true → checking req ≡ true) (aim : aim_of (loads_closed (unasked checking end)) ≡ aim_of end) (p : Point) (q : Asked) where
  abbrev s : Seen
  s = shut checking end

  abbrev bare_one : Asked → Bool → Asked
  bare_one r b = load_closed (cond b (unbegun r) (without_asks r))

  abbrev is_by_one : Seen → Asked → Bool
  is_by_one x r = by_later_load p x q r || by_traversal p x q r || by_last_step x q r || by_adder p x q r

  later_in : (r : Asked) (b : Bool) → by_later_load p s q (bare_one r b) ≡ true → by_later_load p end q r ≡ true
  later_in r false is = is
  later_in r true is = absurd (no_last _ _ is)
    where
      no_last : (a x : Bool) → (a && false && x) ≡ true → ⊥
      no_last true x i = cc
      no_last false x i = cc

  last_in : (r : Asked) (b : Bool) → by_last_step s q (bare_one r b) ≡ true → by_last_step end q r ≡ true
  last_in r true is = is
  last_in r false is = is

  adder_in : (r : Asked) (b : Bool) → by_adder p s q (bare_one r b) ≡ true → by_adder p end q r ≡ true
  adder_in r true is = is
  adder_in r false is = is

  traversal_in : (r : Asked) (b : Bool) → (b ≡ false → has_passed end r ≡ true) → by_traversal p s q (bare_one r b) ≡ true → by_traversal p end q r ≡ true
  traversal_in r true passes is = absurd (no_start (is_load q.what) (is_traversal r.what) _ _ _ is)
    where
      no_start : (a b x y z : Bool) → (a && (b && false && x) && y && z) ≡ true → ⊥
      no_start true true x y z i = cc
      no_start true false x y z i = cc
      no_start false b x y z i = cc
  traversal_in r false passes is =
      swap (is_load q.what) (is_traversal r.what) r.is_started (has_passed s (bare_one r false)) (has_passed end r) (not (had_ended p r.nr)) (any_displaced s (aim_of s) (way_of_request s q)) (any_displaced end (aim_of end) (way_of_request end q)) (passes refl) (ap (λ (k : ℕ). any_displaced end k (way_of_request end q)) aim) is
    where
      swap : (a b c x y n v w : Bool) → y ≡ true → v ≡ w → (a && (b && c && x) && n && v) ≡ true → (a && (b && c && y) && n && w) ≡ true
      swap true true true true y n v w passed_ same i =
          subst (λ (z : Bool). (z && n && w) ≡ true) (sym passed_) (subst (λ (z : Bool). (n && z) ≡ true) same i)
      swap true true true false y n v w passed_ same i = absurd cc
      swap true true false x y n v w passed_ same i = absurd cc
      swap true false c x y n v w passed_ same i = absurd cc
      swap false b c x y n v w passed_ same i = absurd cc

  one_in : (r : Asked) (b : Bool) → (b ≡ false → has_passed end r ≡ true) → is_by_one s (bare_one r b) ≡ true → is_by_one end r ≡ true
  one_in r b passes is =
      either_on (by_later_load p s q (bare_one r b) || by_traversal p s q (bare_one r b) || by_last_step s q (bare_one r b)) (by_adder p s q (bare_one r b)) (by_later_load p end q r || by_traversal p end q r || by_last_step end q r) (by_adder p end q r)
      (either_on (by_later_load p s q (bare_one r b) || by_traversal p s q (bare_one r b)) (by_last_step s q (bare_one r b)) (by_later_load p end q r || by_traversal p end q r) (by_last_step end q r)
      (either_on (by_later_load p s q (bare_one r b)) (by_traversal p s q (bare_one r b)) (by_later_load p end q r) (by_traversal p end q r) (later_in r b) (traversal_in r b passes))
      (last_in r b))
      (adder_in r b) is

  pub event_in : (req : ReqId) → by_event p s q req ≡ true → by_event p end q req ≡ true
  event_in req is =
      by_found (request_of end req) refl (ap (λ (o : Option Asked). holds (λ (r : Asked). is_by_one s r) o) (sym (there checking end req)) ∙ is)
    where
      off_passes : (r : Asked) → request_of end req ≡ Some r → checking r.nr ≡ false → has_passed end r ≡ true
      off_passes r at off = by_passed (passed req) refl
        where
          by_passed : (b : Bool) → passed req ≡ b → has_passed end r ≡ true
          by_passed false out = others req r at out
          by_passed true in_ =
              let never : false ≡ true = sym off ∙ ap checking (numbered req r at) ∙ among req in_ in absurd cc

      by_found : (o : Option Asked) → request_of end req ≡ o → holds (λ (r : Asked). is_by_one s r) (option_map (λ (x : Asked). load_closed (unasked_request checking x)) o) ≡ true → by_event p end q req ≡ true
      by_found None at never = absurd cc
      by_found (Some r) at caused =
          ap (λ (o : Option Asked). holds (λ (x : Asked). is_by_one end x) o) at
          ∙ one_in r (checking r.nr) (λ off. off_passes r at off) caused
