-- The log without questions, brought to where the log is: why a load is dropped by another request as the event ends is so in the log, if it is so there.
use Rattle.log_model.specs.Causes.{any_displaced, by_adder, by_event, by_last_step, by_later_load, by_traversal, way_of_request}
use Rattle.log_model.specs.Equal.{holds}
use Rattle.log_model.specs.Events.{Point}
use Rattle.log_model.specs.History.{used_step_at}
use Rattle.log_model.specs.Once.{has_no_earlier_load, loads}
use Rattle.log_model.specs.Places.{aim_of, has_passed, has_passed_with, is_load, is_ongoing_load, is_traversal, is_under_way, passed_in}
use Rattle.log_model.specs.Points.{had_ended}
use Rattle.log_model.specs.Seen.{Asked, Seen, request_of}
use Rattle.log_model.specs.declared.request.Request.TheVariants as requests
use Rattle.log_model.specs.declared.request.Request.{Request}
use Rattle.log_model.specs.declared.row.Row.{Row}
use Rattle.seen_laws.specs.Owing.{is_sole_load}
use Rattle.seen_laws.specs.Unasked.{unasked, unasked_request, unbegun, without_asks}
use Rattle.std.proofs.Common.{Bool, List, None, Option, Some, [], ap, cond, false, map, not, refl, subst, sym, true, ℕ, ◌&&◌, ◌||◌, ◌∙◌, ◌∷◌, ◌≡◌}
use Rattle.std.specs.List.{list_all}
use Rattle.std.specs.Option.{option_map_or}
use Rattle.std.specs.Prelude.{nat_lt, option_map}
use Rattle.tab_ids.specs.declared.DocId.{DocId}
use Rattle.tab_ids.specs.declared.NavId.{NavId}
use Rattle.tab_ids.specs.declared.ReqId.{ReqId}
use Rattle.tab_ids.specs.declared.Step.{Step}
use Rattle.tab_midway.specs.Owing.{brought_to, closed}
use Rattle.unasked.proofs.Lists.{request_map}
use Rattle.unasked_dues.specs.Checking.{AllOthersPass, AreNumbered, IsAimed}

either_on : (a b c d : Bool) → (a ≡ true → c ≡ true) → (b ≡ true → d ≡ true) → (a || b) ≡ true → (c || d) ≡ true
either_on true b true d one two is = refl
either_on true b false d one two is = absurd (let never : false ≡ true = one refl in cc)
either_on false b true d one two is = refl
either_on false b false d one two is = two is

-- ---- its aim

-- where each request has ended, the history is brought to its current step
none_leads : (gone : DocId → Bool) (rows_ : List Row) (step : ℕ) (asked : List Asked) → option_map_or (λ (q : Asked). option_map_or (λ (goal : Step). used_step_at rows_ goal.0) q.goal step) (passed_in gone (map closed asked)) step ≡ step
none_leads gone rows_ step [] = refl
none_leads gone rows_ step (q ∷ asked) =
    by_test (is_under_way (closed q) && is_traversal q.what && has_passed_with gone (closed q)) (never_on q.is_started (is_traversal q.what) (has_passed_with gone (closed q))) (none_leads gone rows_ step asked)
  where
    never_on : (a x y : Bool) → ((a && false) && x && y) ≡ false
    never_on true x y = refl
    never_on false x y = refl

    lead : Option Asked → ℕ
    lead o = option_map_or (λ (x : Asked). option_map_or (λ (goal : Step). used_step_at rows_ goal.0) x.goal step) o step

    by_test : (b : Bool) → b ≡ false → lead (passed_in gone (map closed asked)) ≡ step → lead (cond b (Some (closed q)) (passed_in gone (map closed asked))) ≡ step
    by_test true never rest = absurd cc
    by_test false off rest = rest

module _ (checking : ReqId → Bool) (step : ℕ) (end : Seen) where
  -- the log brought to the step, without questions
  abbrev pub brought : Seen
  brought = brought_to step (unasked checking end)

  -- what becomes of a request there, in its check or not
  abbrev bare : Asked → Bool → Asked
  bare q b = closed (cond b (unbegun q) (without_asks q))

  abbrev as_there : Asked → Asked
  as_there q = closed (unasked_request checking q)

  pub aim_there : aim_of brought ≡ step
  aim_there = none_leads _ end.history.rows step (map (unasked_request checking) end.requests)

  -- ---- requests

  pub there : (req : ReqId) → request_of brought req ≡ option_map as_there (request_of end req)
  there req =
      request_map closed (map (unasked_request checking) end.requests) req
      ∙ ap (option_map closed) (request_map (unasked_request checking) end.requests req)
      ∙ by_found (request_of end req)
    where
      by_found : (o : Option Asked) → option_map closed (option_map (unasked_request checking) o) ≡ option_map as_there o
      by_found None = refl
      by_found (Some q) = refl

  -- one that is found there is one of the log
  pub record WasThere (req : ReqId) (q : Asked) : Type 0 where
    pub x : Asked
    pub at : request_of end req ≡ Some x
    pub is : as_there x ≡ q

  pub was_there : (req : ReqId) (q : Asked) → request_of brought req ≡ Some q → WasThere req q
  was_there req q found = by_found (request_of end req) refl (sym (there req) ∙ found)
    where
      by_found : (o : Option Asked) → request_of end req ≡ o → option_map as_there o ≡ Some q → WasThere req q
      by_found None at is = absurd cc
      by_found (Some x) at is = record { x = x; at = at; is = cc }

  -- nobody is asked, so each has passed
  pub all_pass : AllOthersPass checking brought
  all_pass req q found off =
      let was = was_there req q found in
      subst (λ (y : Asked). has_passed brought y ≡ true) was.is (by_check was.x (checking was.x.nr))
    where
      by_check : (x : Asked) (b : Bool) → has_passed brought (bare x b) ≡ true
      by_check x true = refl
      by_check x false = refl

  -- the aim is read off it
  pub aimed_there : AreNumbered end → IsAimed checking brought
  aimed_there numbered =
      record {
        numbered = λ req q found. (let was = was_there req q found in ap (λ (y : Asked). y.nr) (sym was.is) ∙ its_number was.x (checking was.x.nr) ∙ numbered req was.x was.at);
        others = λ req q found runs off. all_pass req q found off;
        none_passes = λ req q found runs goes on. (let was = was_there req q found in
            absurd (no_run was.x (checking was.x.nr) (ap checking (numbered req was.x was.at) ∙ on) (ap is_under_way was.is ∙ runs)));
      }
    where
      its_number : (x : Asked) (b : Bool) → (bare x b).nr ≡ x.nr
      its_number x true = refl
      its_number x false = refl

      no_run : (x : Asked) (b : Bool) → b ≡ true → is_under_way (bare x b) ≡ true → ⊥
      no_run x true on runs = cc
      no_run x false on runs = cc

  -- ---- loads

  -- none is ongoing there
  pub no_earlier_there : (req : ReqId) (nav : NavId) → has_no_earlier_load brought req nav ≡ true
  no_earlier_there req nav = all end.requests
    where
      test : Asked → Bool
      test q = not (is_ongoing_load q && nat_lt q.nr.0 req.0 && loads nav q.what)

      never_on : (a l x y : Bool) → not (((a && false) && l) && x && y) ≡ true
      never_on true l x y = refl
      never_on false l x y = refl

      one : (q : Asked) (b : Bool) → test (bare q b) ≡ true
      one q true = refl
      one q false = never_on q.is_started (is_load q.what) (nat_lt q.nr.0 req.0) (loads nav q.what)

      all : (asked : List Asked) → list_all test (map closed (map (unasked_request checking) asked)) ≡ true
      all [] = refl
      all (q ∷ asked) = rw (one q (checking q.nr)) (all asked)

  sole_load_there : (what : Request) (nr : ReqId) → is_sole_load what nr end ≡ true → is_sole_load what nr brought ≡ true
  sole_load_there (requests.Load nav mode address) nr is = no_earlier_there nr nav
  sole_load_there (requests.Go delta) nr is = refl
  sole_load_there (requests.Reload nav) nr is = refl
  sole_load_there (requests.Poke nav action) nr is = refl

  pub sole_there : (o : Option Asked) → holds (λ (q : Asked). is_sole_load q.what q.nr end) o ≡ true → holds (λ (q : Asked). is_sole_load q.what q.nr brought) o ≡ true
  sole_there None is = is
  sole_there (Some q) is = sole_load_there q.what q.nr is

-- ---- the causes, where the step is the log's aim

module _ (checking passed : ReqId → Bool) (end : Seen) (numbered : AreNumbered end) (others : AllOthersPass passed end) (among : (req : ReqId) → passed req ≡ true → checking req ≡ true) (p : Point) (q : Asked) where
  abbrev s : Seen
  s = brought checking (aim_of end) end

  abbrev bare_one : Asked → Bool → Asked
  bare_one r b = closed (cond b (unbegun r) (without_asks r))

  abbrev is_by_one : Seen → Asked → Bool
  is_by_one x r = by_later_load p x q r || by_traversal p x q r || by_last_step x q r || by_adder p x q r

  later_in : (r : Asked) (b : Bool) → by_later_load p s q (bare_one r b) ≡ true → by_later_load p end q r ≡ true
  later_in r false is = is
  later_in r true is = absurd (no_last _ _ is)
    where
      no_last : (a x : Bool) → (a && false && x) ≡ true → ⊥
      no_last true x i = cc
      no_last false x i = cc

  -- there no step was the last
  last_in : (r : Asked) (b : Bool) → by_last_step s q (bare_one r b) ≡ true → by_last_step end q r ≡ true
  last_in r b is = absurd (no_last (is_load q.what) _ _ _ is)
    where
      no_last : (a x y z : Bool) → (a && false && x && y && z) ≡ true → ⊥
      no_last true x y z i = cc
      no_last false x y z i = cc

  adder_in : (r : Asked) (b : Bool) → by_adder p s q (bare_one r b) ≡ true → by_adder p end q r ≡ true
  adder_in r true is = is
  adder_in r false is = is

  traversal_in : (r : Asked) (b : Bool) → (b ≡ false → has_passed end r ≡ true) → by_traversal p s q (bare_one r b) ≡ true → by_traversal p end q r ≡ true
  traversal_in r true passes is = absurd (no_start (is_load q.what) (is_traversal r.what) _ _ _ is)
    where
      no_start : (a b x y z : Bool) → (a && (b && false && x) && y && z) ≡ true → ⊥
      no_start true true x y z i = cc
      no_start true false x y z i = cc
      no_start false b x y z i = cc
  traversal_in r false passes is =
      swap (is_load q.what) (is_traversal r.what) r.is_started (has_passed s (bare_one r false)) (has_passed end r) (not (had_ended p r.nr)) (any_displaced s (aim_of s) (way_of_request s q)) (any_displaced end (aim_of end) (way_of_request end q)) (passes refl) (ap (λ (n : ℕ). any_displaced end n (way_of_request end q)) (aim_there checking (aim_of end) end)) is
    where
      swap : (a b c x y n v w : Bool) → y ≡ true → v ≡ w → (a && (b && c && x) && n && v) ≡ true → (a && (b && c && y) && n && w) ≡ true
      swap true true true true y n v w passed_ same i =
          subst (λ (z : Bool). (z && n && w) ≡ true) (sym passed_) (subst (λ (z : Bool). (n && z) ≡ true) same i)
      swap true true true false y n v w passed_ same i = absurd cc
      swap true true false x y n v w passed_ same i = absurd cc
      swap true false c x y n v w passed_ same i = absurd cc
      swap false b c x y n v w passed_ same i = absurd cc

  one_in : (r : Asked) (b : Bool) → (b ≡ false → has_passed end r ≡ true) → is_by_one s (bare_one r b) ≡ true → is_by_one end r ≡ true
  one_in r b passes is =
      either_on (by_later_load p s q (bare_one r b) || by_traversal p s q (bare_one r b) || by_last_step s q (bare_one r b)) (by_adder p s q (bare_one r b)) (by_later_load p end q r || by_traversal p end q r || by_last_step end q r) (by_adder p end q r)
      (either_on (by_later_load p s q (bare_one r b) || by_traversal p s q (bare_one r b)) (by_last_step s q (bare_one r b)) (by_later_load p end q r || by_traversal p end q r) (by_last_step end q r)
      (either_on (by_later_load p s q (bare_one r b)) (by_traversal p s q (bare_one r b)) (by_later_load p end q r) (by_traversal p end q r) (later_in r b) (traversal_in r b passes))
      (last_in r b))
      (adder_in r b) is

  pub event_in : (req : ReqId) → by_event p s q req ≡ true → by_event p end q req ≡ true
  event_in req is =
      by_found (request_of end req) refl (ap (λ (o : Option Asked). holds (λ (r : Asked). is_by_one s r) o) (sym (there checking (aim_of end) end req)) ∙ is)
    where
      off_passes : (r : Asked) → request_of end req ≡ Some r → checking r.nr ≡ false → has_passed end r ≡ true
      off_passes r at off = by_passed (passed req) refl
        where
          by_passed : (b : Bool) → passed req ≡ b → has_passed end r ≡ true
          by_passed false out = others req r at out
          by_passed true in_ =
              let never : false ≡ true = sym off ∙ ap checking (numbered req r at) ∙ among req in_ in absurd cc

      by_found : (o : Option Asked) → request_of end req ≡ o → holds (λ (r : Asked). is_by_one s r) (option_map (λ (x : Asked). closed (unasked_request checking x)) o) ≡ true → by_event p end q req ≡ true
      by_found None at never = absurd cc
      by_found (Some r) at caused =
          ap (λ (o : Option Asked). holds (λ (x : Asked). is_by_one end x) o) at
          ∙ one_in r (checking r.nr) (λ off. off_passes r at off) caused
